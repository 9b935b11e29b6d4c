-- How an open begins.
use Rattle.std.proofs.Common.{◌≡◌, ℕ, true, false, List, [], length, nat_lt, refl, sym, ap, subst, ◌∙◌, Option, Some, Result, Ok, Err, IfOk}
use Rattle.sftp_model.specs.declared.error.Error.{Error}
use Rattle.sftp_model.specs.declared.error.Error.TheVariants as error
use Rattle.sftp_model.specs.declared.error.IoKind.TheVariants as kind
use Rattle.sftp_model.specs.declared.flags.OpenFlags.{OpenFlags}
use Rattle.sftp_model.specs.declared.outcome.Outcome.TheVariants as outcome
use Rattle.sftp_model.specs.declared.reply.Reply.{Reply}
use Rattle.sftp_model.specs.declared.slot.Facts.{Facts}
use Rattle.sftp_model.specs.declared.slot.Move.TheVariants.{Ask, Done}
use Rattle.sftp_model.specs.declared.slot.Site.{Site}
use Rattle.sftp_model.specs.declared.slot.Slot.TheVariants as slots
use Rattle.sftp_model.specs.Slots.{with_slot}
use Rattle.plan_model.specs.FilePlans.{open_next, open_request}
use Rattle.plan_model.specs.Moves.{Answers, handle_of, on_handle, once_answered}
use Rattle.sftp_model.specs.Frames.{is_too_long}
use Rattle.sftp_core.specs.Core.{Core}
use Rattle.sftp_core.specs.Grant.{GrantValue}
use Rattle.plan_state.specs.declared.submission.Asking.{Asking}
use Rattle.plan_state.specs.declared.submission.Asking.TheVariants.{Whole}
use Rattle.plan_state.specs.declared.poll.Poll.TheVariants as poll
use Rattle.plan_state.specs.declared.stage.Stage.{Stage}
use Rattle.plan_state.specs.declared.stage.Stage.TheVariants.{Asked}
use Rattle.plan_state.specs.Calls.{BeginsCall, CallValue, IsUnderWay, StepsByPlan, TellsReply, grant_brought}
use Rattle.plan_state.specs.Keeping.{KeepsHeld}
use Rattle.plan_state.specs.Runners.{GoesBehind}
use Rattle.plan_state.proofs.Grants.{brought_handle, brought_number}
use Rattle.plan_state.proofs.Keeping.{keeps_same}
use Rattle.sftp_file.specs.Files.{IsHandleOfFile, FileValue}
use Rattle.sftp_file.specs.declared.opens.Opening.{Opening}
use Rattle.sftp_file.specs.Opens.{HasRights, OpenStarts, opened_at, open_meaning}
use Rattle.sftp_file.proofs.BodyLens.{long_by_path}
use Rattle.sftp_file.proofs.Starting.{StartsAny}

-- a path that is too long is refused without a request
long_open : (slot : ℕ) (flags : OpenFlags) (path : List ℕ) (site : Site) (facts : Facts) (answers : Answers)
    → nat_lt 1048558 (length path) ≡ true
    → open_next slot flags path site facts [] answers ≡ Done (outcome.Refused (error.IOError kind.PathTooLong)) site
long_open slot flags path site facts answers long = rw (long_by_path flags path, long) refl

pub open_refused : (flags : OpenFlags) (path : List ℕ) (core : Core) → nat_lt 1048558 (length path) ≡ true
    → OpenStarts flags path core core (Err (error.IOError kind.PathTooLong))
open_refused flags path core long =
    record {
      starts = λ slot site facts answers. (long_open slot flags path site facts answers long, refl);
      under_way = tt;
      rights = tt;
      keeps = keeps_same core;
    }

-- and any other is asked for
short_open : (slot : ℕ) (flags : OpenFlags) (path : List ℕ) (site : Site) (facts : Facts) (answers : Answers)
    → nat_lt 1048558 (length path) ≡ false
    → open_next slot flags path site facts [] answers ≡ Ask (open_request flags path)
short_open slot flags path site facts answers short = rw (long_by_path flags path, short) refl

-- whose request fits a frame
pub short_request : (flags : OpenFlags) (path : List ℕ) → nat_lt 1048558 (length path) ≡ false
    → is_too_long (open_request flags path) ≡ false
short_request flags path short = long_by_path flags path ∙ short

open_behind : (slot : ℕ) (flags : OpenFlags) (path : List ℕ) (site : Site) (facts : Facts) (answers : Answers)
    (m : Opening) → nat_lt 1048558 (length path) ≡ false → HasRights flags m
    → GoesBehind open_meaning (slot, site) (open_next slot flags path site facts) answers
    (Whole (open_request flags path)) m
open_behind slot flags path site facts answers m short rights =
    record {
      asks = short_open slot flags path site facts answers short;
      rest = λ later i. once_answered 1 (answers 1) (λ r. on_handle r site (λ handle. Done outcome.Opened
          (with_slot site slot (slots.File (opened_at 1 (sym rights.reads i) (sym rights.writes i))))));
      knows = tt;
    }

under_way_by : (asking : Asking) (m : Opening) (old new : Core) (result : Result (CallValue Opening) Error)
    → IfOk result (BeginsCall open_meaning asking m old new) → IfOk result (IsUnderWay open_meaning new)
under_way_by asking m old new (Ok call) h = h.under_way
under_way_by asking m old new (Err e) h = tt

rights_by : (flags : OpenFlags) (asking : Asking) (m : Opening) (old new : Core)
    (result : Result (CallValue Opening) Error) → HasRights flags m
    → IfOk result (BeginsCall open_meaning asking m old new) →
    IfOk result (λ (call : CallValue Opening). HasRights flags call.runner)
rights_by flags asking m old new (Ok call) rights h = subst (λ (x : Opening). HasRights flags x) (sym h.runner) rights
rights_by flags asking m old new (Err e) rights h = tt

pub open_starts : (flags : OpenFlags) (path : List ℕ) (asking : Asking) (m : Opening) (old new : Core)
    (result : Result (CallValue Opening) Error)
    → nat_lt 1048558 (length path) ≡ false → HasRights flags m → asking ≡ Whole (open_request flags path)
    → StartsAny open_meaning asking m old new result → IfOk result (BeginsCall open_meaning asking m old new)
    → KeepsHeld old new → OpenStarts flags path old new result
open_starts flags path asking m old new result short rights is started begins keeps =
    record {
      starts = λ slot site facts answers. started (slot, site) (λ e. Done (outcome.Refused e) site)
          (open_next slot flags path site facts) answers
          (subst (λ (x : Asking). GoesBehind open_meaning (slot, site) (open_next slot flags path site facts) answers x
          m) (sym is)
          (open_behind slot flags path site facts answers m short rights));
      under_way = under_way_by asking m old new result begins;
      rights = rights_by flags asking m old new result rights begins;
      keeps = keeps;
    }

-- ---- the file that is given

by_number : (core : Core) (stage : Stage) (ticket : ℕ) (g : GrantValue) → stage ≡ Asked ticket
    → grant_brought core stage ≡ Some g → g.id ≡ ticket
by_number core stage ticket g is brings = brought_number core ticket g
    (subst (λ (x : Stage). grant_brought core x ≡ Some g) is brings)

pub opened_number : (old new : Core) (p q : CallValue Opening) (f : FileValue) (ticket : ℕ)
    → StepsByPlan open_meaning old new p q (poll.Ready (Ok f)) → p.stage ≡ Asked ticket → f.grant.id ≡ ticket
opened_number old new p q f ticket h is = by_number old p.stage ticket f.grant is (sym h.brings)

pub opened_handle : (old new : Core) (p q : CallValue Opening) (f : FileValue) (answers : Answers)
    → StepsByPlan open_meaning old new p q (poll.Ready (Ok f)) → TellsReply open_meaning old p answers
    → handle_of (answers 1) ≡ f.grant.handle
opened_handle old new p q f answers h tells =
    ap (λ (r : Option Reply). handle_of r) (brought_handle open_meaning old p.runner p.stage answers f.grant
    (sym h.brings) tells)

pub opened_brought : (old new : Core) (p q : CallValue Opening) (f : FileValue) (answers later : Answers)
    → StepsByPlan open_meaning old new p q (poll.Ready (Ok f)) → TellsReply open_meaning old p answers → later 0
    ≡ answers 1 → IsHandleOfFile f later
opened_brought old new p q f answers later h tells same =
    ap (λ (r : Option Reply). handle_of r) same ∙ opened_handle old new p q f answers h tells
