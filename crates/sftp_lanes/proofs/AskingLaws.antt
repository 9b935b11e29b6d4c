-- A frame that comes while the query for limits is unsent is refused.
use Rattle.std.proofs.Common.{◌≡◌, ◌==◌, ◌∙◌, ℕ, Bool, true, false, List, Option, Some, None, refl, ap, sym, subst, arith, if◌then◌else◌}
use Rattle.std.specs.Prelude.{◌≢◌, Result, Ok, Err}
use Rattle.std.specs.FinMap as fin
use Rattle.std.specs.FinMap.{get-empty}
use Rattle.std.specs.Option.{option_map}
use Rattle.std.specs.Ordering.{nat_cmp}
use Rattle.std.proofs.lemmas.Bool.Decides.{nat_tests}
use Rattle.sftp_model.specs.declared.answers.Expected.TheVariants as expected
use Rattle.sftp_model.specs.declared.error.Fault.{Fault}
use Rattle.sftp_model.specs.declared.flags.Extensions.{Extensions}
use Rattle.sftp_model.specs.declared.frame_error.FrameError.{FrameError}
use Rattle.sftp_model.specs.declared.options.SftpOptions.{SftpOptions}
use Rattle.sftp_model.specs.declared.reply.Reply.{Reply}
use Rattle.sftp_core.specs.declared.errors.TakeError.{TakeError}
use Rattle.sftp_core.specs.declared.errors.TakeError.TheVariants as take
use Rattle.sftp_core.specs.declared.id_record.IdRecord.{IdRecord}
use Rattle.sftp_core.specs.declared.id_record.IdRecord.TheVariants.{Waiting}
use Rattle.sftp_core.specs.Core.{Core, record_at}
use Rattle.sftp_core.specs.Table.{all_sent, sent_record}
use Rattle.ssh_encoding.specs.Writing.{or_else}
use Rattle.sftp_core.specs.Take.{IsFirstRefusal, IsFirst, IsTakeError, Read, RefusesReply, fault_of, take_refusal, wrong_at, wrong_limits}
use Rattle.sftp_core.proofs.Elsewhere.{put_elsewhere, put_here}
use Rattle.sftp_core.proofs.Sent.{get_sent}
use Rattle.session_model.specs.declared.entry.Entry.{Entry}
use Rattle.session_model.specs.Readings.{answer, still_open}
use Rattle.session_driver.specs.Bare.{asked_core, asked_past}
use Rattle.session_driver.specs.Refusals.{refuses, refuses_reply, sent_at}
use Rattle.sftp_lanes.proofs.OpeningSteps.{refuses_as}
use Rattle.sftp_lanes.proofs.Plain.{told_as}
use Rattle.sftp_lanes.specs.Seen.{without_lanes}

-- the request under the one id in use was not handed out, and none stands under another
unsent_wrong : (options : SftpOptions) (extensions : Extensions) (id : ℕ) (r : Reply)
    → take_refusal (asked_core options extensions) (Ok (Some id, r)) ≡ Some (take.InvalidResponseId id)
unsent_wrong options extensions id r = by_id (0 == id) refl
  where
    core : Core
    core = asked_core options extensions

    by_id : (b : Bool) → (0 == id) ≡ b → or_else (wrong_at id r (record_at core id)) (wrong_limits r)
        ≡ Some (take.InvalidResponseId id)
    by_id true e =
        let zero : 0 ≡ id = grind (arith, nat_tests) in
        subst (λ (k : ℕ). or_else (wrong_at k r (record_at core k)) (wrong_limits r) ≡ Some (take.InvalidResponseId k))
        zero
        (ap (λ (p : Option IdRecord). or_else (wrong_at 0 r p) (wrong_limits r))
        (put_here (all_sent fin.empty) 0 (Waiting expected.Limits false false)))
    by_id false e =
        let apart : id ≢ 0 = grind (arith, nat_tests) in
        ap (λ (p : Option IdRecord). or_else (wrong_at id r p) (wrong_limits r))
        (put_elsewhere (all_sent fin.empty) 0 (Waiting expected.Limits false false) id apart
        ∙ get_sent fin.empty id ∙ ap (option_map sent_record) (get-empty nat_cmp id))

-- the journal has none that was sent
unsent_refused : (b : Bool) (id : ℕ) (r : Reply)
    → refuses_reply id r (sent_at asked_past (still_open (answer asked_past) (if b then Some 0 else None)))
    ≡ Some (take.InvalidResponseId id)
unsent_refused true id r = refl
unsent_refused false id r = refl

asking_wrong : (options : SftpOptions) (extensions : Extensions) (read : Result Read FrameError)
    → take_refusal (asked_core options extensions) read ≡ refuses asked_past read
asking_wrong options extensions (Err e) = refl
asking_wrong options extensions (Ok (None, r)) = refl
asking_wrong options extensions (Ok (Some id, r)) = unsent_wrong options extensions id r
    ∙ sym (unsent_refused (0 == id) id r)

-- each frame is refused
pub asking_refuses : (options : SftpOptions) (extensions : Extensions) (core : Core) (read : Result Read FrameError)
    → core ≡ asked_core options extensions → take_refusal core read ≡ None → ⊥
asking_refuses options extensions core read is none = wrong read
    (ap (λ (c : Core). take_refusal c read) (sym is) ∙ none)
  where
    wrong : (read : Result Read FrameError) → take_refusal (asked_core options extensions) read ≡ None → ⊥
    wrong (Err e) h = absurd cc
    wrong (Ok (None, r)) h = absurd cc
    wrong (Ok (Some id, r)) h = (let clash : Some (take.InvalidResponseId id) ≡ None =
        sym (unsent_wrong options extensions id r) ∙ h in absurd cc)

first_kept : (e : TakeError) (kept : Option Fault) (first : Option TakeError) (old new : Core)
    → RefusesReply e kept first old new → IsFirstRefusal e kept first
first_kept e None first old new h = tt
first_kept e (Some fault) first old new h = h.0

-- by the first thing that is wrong with it by the journal
pub asking_first : (options : SftpOptions) (extensions : Extensions) (core new : Core) (past : List Entry)
    (read : Result Read FrameError) (e : TakeError) → core ≡ asked_core options extensions → without_lanes past
    ≡ asked_past
    → IsTakeError e (take_refusal core read) core new → IsFirst e (refuses past read)
asking_first options extensions core new past read e is bare refused =
    let wrong : take_refusal core read ≡ refuses past read = ap (λ (c : Core). take_refusal c read) is
    ∙ asking_wrong options extensions read ∙ sym (refuses_as past asked_past (told_as past asked_past bare) read) in
    subst (λ (f : Option TakeError). IsFirst e f) wrong (first_kept e (fault_of e) (take_refusal core read) core new
    refused)
