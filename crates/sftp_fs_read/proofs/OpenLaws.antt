-- How whole reads begin, and go on behind their OPEN.
use Rattle.std.proofs.Common.{◌≡◌, ◌≢◌, ◌∙◌, refl, sym, ap, subst, ℕ, true, false, List, [], Option, Some, None, Result, Ok, Err, inl, inr}
use Rattle.std.specs.Prelude.{IsTrue}
use Rattle.std.specs.List.{zip}
use Rattle.std.specs.Global.{Global}
use Rattle.std.specs.declared.collections.VecDeque.{VecDeque}
use Rattle.sftp_model.specs.Paths.{joined_path}
use Rattle.sftp_model.specs.declared.error.Error.{Error}
use Rattle.sftp_model.specs.declared.error.Error.TheVariants as error
use Rattle.sftp_model.specs.declared.error.Fault.{Fault}
use Rattle.sftp_model.specs.declared.outcome.Outcome.TheVariants as outcome
use Rattle.sftp_model.specs.declared.slot.Facts.{Facts}
use Rattle.sftp_model.specs.declared.slot.Move.TheVariants.{Done}
use Rattle.sftp_model.specs.declared.slot.Site.{Site}
use Rattle.plan_model.specs.FilePlans.{open_request}
use Rattle.plan_model.specs.GoodMoves.{FitsFacts}
use Rattle.plan_model.specs.Moves.{Answers, Own, Plan, ask_path}
use Rattle.plan_model.specs.WindowPlans.{fs_read_next, to_read}
use Rattle.plan_window.specs.Windows.{empty_window, window_move, window_plan}
use Rattle.plan_window.specs.declared.window.ReadAt.{ReadAt}
use Rattle.sftp_core.specs.Core.{Core, record_at, is_ticket, poll_leaves, reply_in}
use Rattle.sftp_core.specs.declared.id_record.IdRecord.{IdRecord}
use Rattle.sftp_core.specs.declared.id_record.IdRecord.TheVariants as places
use Rattle.sftp_core.specs.Grant.{GrantValue}
use Rattle.plan_state.specs.declared.poll.Poll.{Poll}
use Rattle.plan_state.specs.declared.poll.Poll.TheVariants.{Pending, Ready}
use Rattle.plan_state.specs.declared.stage.Stage.{Stage}
use Rattle.plan_state.specs.declared.stage.Stage.TheVariants as stage
use Rattle.plan_state.specs.Calls.{
  AsksAndAwaits,
  CallValue,
  IsHeldAt,
  IsLeft,
  IsNoneOfCall,
  IsOver,
  IsUnderWay,
  PollsByPlan,
  StartsByPlan,
  StepsByPlan,
  TellsReply,
  TellsAt,
  core_after_cancel,
  grant_brought,
  is_ended,
  polled_core,
}
use Rattle.plan_state.proofs.Grants.{ended_brings}
use Rattle.plan_state.proofs.Sparing.{given_spares, spares_as, spares_both, spares_from, spares_same, stepped_spares}
use Rattle.sftp_file.specs.Files.{facts_of}
use Rattle.sftp_fs.specs.Directories.{WithHandle}
use Rattle.sftp_fs.specs.Grants.{grant_meaning}
use Rattle.sftp_fs.specs.WholeWrites.{closed_if}
use Rattle.sftp_fs.specs.PathStarts.{AsksFirst, FirstAsks}
use Rattle.sftp_fs.specs.declared.grants.Granting.{Granting}
use Rattle.sftp_fs.proofs.CallSteps.{ended_leaves}
use Rattle.sftp_fs.proofs.WriteOpens.{granted_goes, granted_same, left_later, left_now, still}
use Rattle.sftp_fs_read.specs.Reads.{ReadsValue, no_reads}
use Rattle.sftp_fs_read.specs.Tickets.{IsNoneOf, TellsReads}
use Rattle.sftp_fs_read.specs.WholeReads.{
  DecidesNextMove,
  IsReadOver,
  IsNoneOfRead,
  ReadAnswer,
  ReadBy,
  ReadOn,
  ReadStarted,
  ReadsFrom,
  reads_by_window,
  read_answer_of,
}
use Rattle.sftp_fs_read.specs.declared.fs_read.Whole.{Whole}
use Rattle.sftp_fs_read.specs.declared.fs_read.Whole.TheVariants as whole
use Rattle.sftp_fs_read.proofs.ReadsLaws.{moves_now}
use Rattle.sftp_fs_read.proofs.FsReadLaws.{facts_from}

abbrev Deque : Type 0
Deque = VecDeque ℕ Global

-- what an OPEN gives
abbrev Opened : Type 0
Opened = Poll (Result GrantValue Error)

-- ---- a start

-- the OPEN is the first request of the plan
opens_first : (path cwd named : List ℕ) (m : Granting) (old : Core) (site : Site) (answers : Answers) → named
    ≡ joined_path cwd path
    → site.directory ≡ cwd → FirstAsks grant_meaning (reads_by_window site (facts_of old) answers) site
    (fs_read_next path None site (facts_of old)) answers (open_request to_read named) m
opens_first path cwd named m old site answers is here =
    record {
      first = ap (λ (d : List ℕ). ask_path (open_request to_read (joined_path d path)) site) here
          ∙ ap (λ (p : List ℕ). ask_path (open_request to_read p) site) (sym is);
      rest = λ later. refl;
      knows = tt;
    }

pub read_asked : (path cwd named : List ℕ) (facts : Facts) (m : Granting) (old new : Core) (call : CallValue Granting)
    → named ≡ joined_path cwd path → facts ≡ facts_of old → FitsFacts facts
    → AsksFirst {V = GrantValue} grant_meaning (open_request to_read named) m old new (Ok call)
    → ReadsFrom path cwd old new (Ok (record { stage = whole.Opening call facts }))
read_asked path cwd named facts m old new call is fixed fits h =
    record {
      starts = λ site answers here. asks_of site answers (h.starts (reads_by_window site (facts_of old) answers) site
          (fs_read_next path None site (facts_of old)) answers (opens_first path cwd named m old site answers is here));
      held = (h.under_way, fits);
      keeps = h.keeps;
      spares = h.spares;
    }
  where
    asks_of : (site : Site) (answers : Answers)
        → StartsByPlan {V = GrantValue} grant_meaning (reads_by_window site (facts_of old) answers)
        (λ e. Done (outcome.Refused e) site)
        (fs_read_next path None site (facts_of old)) answers old new (Ok call)
        → ReadStarted site (fs_read_next path None site (facts_of old)) answers old new
        (Ok (record { stage = whole.Opening call facts }))
    asks_of site answers (inl s) = (
      subst (λ (f : Facts). AsksAndAwaits {V = GrantValue} grant_meaning (reads_by_window site f answers)
          (fs_read_next path None site (facts_of old)) answers old new call) (sym fixed) s,
      fixed,
    )
    asks_of site answers (inr s) = absurd (subst (λ (x : Stage). IsHeldAt grant_meaning new call.runner x) s.1
        h.under_way.held)

pub read_refused : (path cwd named : List ℕ) (m : Granting) (old new : Core) (e : Error) → named ≡ joined_path cwd path
    → AsksFirst {V = GrantValue} grant_meaning (open_request to_read named) m old new (Err e)
    → ReadsFrom path cwd old new (Err e)
read_refused path cwd named m old new e is h =
    record {
      starts = λ site answers here. refused_as e site answers (h.starts (reads_by_window site (facts_of old) answers)
          site
          (fs_read_next path None site (facts_of old)) answers (opens_first path cwd named m old site answers is here));
      held = tt;
      keeps = h.keeps;
      spares = tt;
    }
  where
    refused_as : (e : Error) (site : Site) (answers : Answers)
        → StartsByPlan {V = GrantValue} grant_meaning (reads_by_window site (facts_of old) answers)
        (λ e. Done (outcome.Refused e) site)
        (fs_read_next path None site (facts_of old)) answers old new (Err e)
        → ReadStarted site (fs_read_next path None site (facts_of old)) answers old new (Err e)
    refused_as error.OutOfMemory site answers s = s
    refused_as (error.BackgroundTaskFailure fault) site answers s = s
    refused_as e site answers s = s

-- ---- the OPEN is under way still

unpolled : (core : Core) (t : ℕ) (fault : Option Fault) (p : Option IdRecord) → IsTrue (is_ticket p) → reply_in p ≡ None
    → fault ≡ None
    → poll_leaves core t fault p ≡ core
unpolled core t (Some f) p counted none unfailed = absurd cc
unpolled core t None None counted none unfailed = absurd cc
unpolled core t None (Some (places.Waiting kind sent wanted)) counted none unfailed = refl
unpolled core t None (Some (places.Answered kind r)) counted none unfailed = absurd cc
unpolled core t None (Some (places.Granted handle users)) counted none unfailed = absurd cc

still_same : (core : Core) (m : Granting) (s : Stage) (answers : Answers) → is_ended s ≡ false
    → IsHeldAt grant_meaning core m s
    → TellsAt grant_meaning core m s answers → answers 1 ≡ None → core.fault ≡ None → core ≡ polled_core core s
still_same core m stage.Ended answers over held tells none unfailed = refl
still_same core m stage.Ready answers over held tells none unfailed = refl
still_same core m (stage.Unsent asking) answers over held tells none unfailed = refl
still_same core m (stage.Asked ticket) answers over held tells none unfailed =
    sym (unpolled core ticket core.fault (record_at core ticket) held.counted (sym tells ∙ none) unfailed)
still_same core m (stage.Came told) answers over held tells none unfailed = refl

open_wrote : (facts : Facts) (old new : Core) (call next : CallValue Granting) (told : Opened)
    (site : Site) (plan : Plan) (answers : Answers) → IsUnderWay grant_meaning old call
    → StepsByPlan grant_meaning old new call next told
    → is_ended next.stage ≡ false → IsOver next.stage told → IsLeft grant_meaning (reads_by_window site facts answers)
    plan answers call
    → TellsReply grant_meaning old call answers
    → ReadBy site plan answers (polled_core old call.stage) new (grant_brought old call.stage)
    (whole.Opening next facts) [] (read_answer_of told)
open_wrote facts old new call next Pending site plan answers held h on over left tells =
    let s = still site answers old new call next held tells h in
    let w = reads_by_window site facts answers in
    let same : old ≡ polled_core old call.stage = still_same old call.runner call.stage answers held.over held.held
    tells s.missing s.unfailed in
    inl (record {
      place = 1;
      waits = left_now old call w plan answers held left ∙ rw s.missing refl;
      unfailed = subst (λ (c : Core). c.fault ≡ None) same s.unfailed;
      core = s.core ∙ same;
      left = subst (λ (x : CallValue Granting). IsLeft grant_meaning w plan answers x) (sym s.same) left;
      reads = refl;
      full = tt;
    })
open_wrote facts old new call next (Ready (Err error.OutOfMemory)) site plan answers held h on over left tells =
    went (h.polled (reads_by_window site facts answers) plan answers left tells)
  where
    went : PollsByPlan grant_meaning (reads_by_window site facts answers) plan answers old new call next
        (Ready (Err error.OutOfMemory))
        → ReadBy site plan answers (polled_core old call.stage) new (grant_brought old call.stage)
        (whole.Opening next facts) []
        (Ready (Err error.OutOfMemory))
    went (inl w) = absurd (let clash : ◌≡◌ {A = Opened} (Ready (Err error.OutOfMemory)) Pending = w.pending in cc)
    went (inr w) = record { core = w.1; left = w.0; tells = w.2; reads = refl }
open_wrote facts old new call next (Ready (Ok grant)) site plan answers held h on over left tells =
    absurd (let clash : true ≡ false = sym over ∙ on in cc)
open_wrote facts old new call next (Ready (Err e)) site plan answers held h on over left tells =
    absurd (let clash : true ≡ false = sym over ∙ on in cc)

open_over : (s : Stage) (next : CallValue Granting) (facts : Facts) (told : Opened) → is_ended s ≡ false
    → IsOver s told → IsReadOver (whole.Opening next facts) (read_answer_of told)
open_over s next facts Pending on over = refl
open_over s next facts (Ready (Err error.OutOfMemory)) on over = refl
open_over s next facts (Ready (Ok grant)) on over = absurd (let clash : true ≡ false = sym over ∙ on in cc)
open_over s next facts (Ready (Err e)) on over = absurd (let clash : true ≡ false = sym over ∙ on in cc)

pub open_on : (facts : Facts) (old new : Core) (call next : CallValue Granting) (told : Opened)
    → IsUnderWay grant_meaning old call → FitsFacts facts → StepsByPlan grant_meaning old new call next told
    → is_ended next.stage ≡ false
    → ReadOn old new (whole.Opening call facts) (whole.Opening next facts) (read_answer_of told)
open_on facts old new call next told held fits h on =
    record {
      polled = λ site plan answers left tells. (
        polled_core old call.stage,
        (
          [],
          (
            (refl, refl),
            open_wrote facts old new call next told site plan answers held h on h.over left tells,
          ),
        ),
      );
      held = (record { over = on; held = h.held }, fits);
      over = open_over next.stage next facts told on h.over;
      facts = refl;
      spares = stepped_spares grant_meaning old new call next told h;
    }

-- ---- refused by the server or by a fault

open_failed : (facts : Facts) (old mid : Core) (call next : CallValue Granting) (e : Error)
    (site : Site) (plan : Plan) (answers : Answers) → is_ended next.stage ≡ true
    → IsOver {V = GrantValue} next.stage (Ready (Err e))
    → grant_brought old call.stage ≡ None
    → PollsByPlan {V = GrantValue} grant_meaning (reads_by_window site facts answers) plan answers old mid call next
    (Ready (Err e))
    → ReadBy site plan answers (polled_core old call.stage) mid (grant_brought old call.stage) whole.Ended []
    (Ready (Err e))
open_failed facts old mid call next error.OutOfMemory site plan answers ended over none h =
    absurd (let clash : true ≡ false = sym ended ∙ over in cc)
open_failed facts old mid call next (error.BackgroundTaskFailure fault) site plan answers ended over none (inl h) =
    absurd (let clash : ◌≡◌ {A = Opened} (Ready (Err (error.BackgroundTaskFailure fault))) Pending = h.pending in cc)
open_failed facts old mid call next (error.BackgroundTaskFailure fault) site plan answers ended over none (inr h) =
    (h.0, h.2, h.3 ∙ sym (ap (closed_if (polled_core old call.stage)) none))
open_failed facts old mid call next e site plan answers ended over none (inl h) =
    absurd (let clash : ◌≡◌ {A = Opened} (Ready (Err e)) Pending = h.pending in cc)
open_failed facts old mid call next e site plan answers ended over none (inr h) =
    (h.0, h.2 ∙ sym (ap (closed_if (polled_core old call.stage)) none))

failed_over : (s : Stage) (e : Error) → is_ended s ≡ true → IsOver {V = GrantValue} s (Ready (Err e))
    → IsReadOver whole.Ended (Ready (Err e))
failed_over s error.OutOfMemory ended over = absurd (let clash : true ≡ false = sym ended ∙ over in cc)
failed_over s e ended over = refl

pub open_end : (facts : Facts) (old mid new : Core) (call next : CallValue Granting) (e : Error)
    → StepsByPlan {V = GrantValue} grant_meaning old mid call next (Ready (Err e)) → is_ended next.stage ≡ true → new
    ≡ core_after_cancel mid next.stage
    → ReadOn old new (whole.Opening call facts) whole.Ended (Ready (Err e))
open_end facts old mid new call next e h ended left =
    let same : mid ≡ new = sym (left ∙ ended_leaves mid next.stage ended) in
    record {
      polled = λ site plan answers here tells. (
        polled_core old call.stage,
        (
          [],
          (
            (refl, refl),
            subst (λ (x : Core). ReadBy site plan answers (polled_core old call.stage) x (grant_brought old call.stage)
                whole.Ended [] (Ready (Err e)))
                same (open_failed facts old mid call next e site plan answers ended h.over
                (sym h.brings ∙ ended_brings mid next.stage ended)
                (h.polled (reads_by_window site facts answers) plan answers here tells)),
          ),
        ),
      );
      held = tt;
      over = failed_over next.stage e ended h.over;
      facts = tt;
      spares = spares_same old mid new (IsNoneOfCall call.stage) (λ id. Unit {0}) (sym same)
          (spares_as old mid (IsNoneOfCall call.stage) (IsNoneOfCall next.stage) (λ id. Unit {0}) (λ id x. tt)
          (stepped_spares grant_meaning old mid call next (Ready (Err e)) h));
    }

-- ---- behind the HANDLE

pub open_begun : (facts : Facts) (old mid late new : Core) (call next : CallValue Granting) (grant : GrantValue)
    (reads : ReadsValue)
    (tickets : Deque) (q : Whole) (result : ReadAnswer) → IsUnderWay grant_meaning old call
    → StepsByPlan grant_meaning old mid call next (Ready (Ok grant)) → is_ended next.stage ≡ true → late
    ≡ core_after_cancel mid next.stage
    → reads ≡ no_reads facts grant.handle → tickets.items ≡ []
    → DecidesNextMove late new (whole.Open grant reads tickets) q result
    → ReadOn old new (whole.Opening call facts) q result
open_begun facts old mid late new call next grant reads tickets q result held h ended left is none d =
    record {
      polled = λ site plan answers here tells.
          (let w : WithHandle = reads_by_window site facts answers in
          let same : late ≡ polled_core old call.stage = left ∙ (ended_leaves mid next.stage ended
          ∙ granted_same w plan answers old mid call next grant (h.polled w plan answers here tells)) in
          let goes : (later : Own) → plan later answers ≡ window_plan grant.handle None empty_window site facts later
          answers = λ later.
          granted_goes (site, λ handle own. window_plan handle None empty_window site facts later answers)
          (λ own a. plan later a) answers old mid call next grant
          (h.polled (site, λ handle own. window_plan handle None empty_window site facts later answers)
          (λ own a. plan later a) answers
          (left_later old call w plan answers later held here) tells) in
          let stands : (later : Own) → plan later answers ≡ window_plan reads.handle None reads.window site reads.facts
          later answers = λ later.
          goes later ∙ ap (λ (x : ReadsValue). window_plan x.handle None x.window site x.facts later answers) (sym is)
          in
          let untold : plan [] answers ≡ window_move reads.handle None reads.window site reads.facts =
          goes [] ∙ (moves_now grant.handle empty_window site facts answers (λ r first. absurd cc)
          ∙ ap (λ (x : ReadsValue). window_move x.handle None x.window site x.facts) (sym is)) in
          let tells : TellsReads late answers reads.window.waiting tickets.items =
          subst (λ (l : List ℕ). TellsReads late answers reads.window.waiting l) (sym none)
          (subst (λ (x : ReadsValue). TellsReads late answers x.window.waiting []) (sym is) tt) in
          let rest : List (ℕ × ReadAt) = zip tickets.items reads.window.waiting in (
            late,
            (
              rest,
              (
                (same, ap (λ (l : List ℕ). zip l reads.window.waiting) none),
                subst (λ (o : Option GrantValue). ReadBy site plan answers late new o q rest result) h.brings
                    (d.polled site plan answers stands tells untold),
              ),
            ),
          ));
      held = d.held;
      over = d.over;
      facts = facts_from (whole.Open grant reads tickets) (whole.Opening call facts) q
          (ap (λ (x : ReadsValue). Some x.facts) is) d.facts;
      spares = spares_both old late new (IsNoneOfCall call.stage) (λ id. id ≢ grant.id) (IsNoneOfRead q)
          (spares_same old mid late (IsNoneOfCall call.stage) (λ id. id ≢ grant.id)
          (left ∙ ended_leaves mid next.stage ended)
          (given_spares grant_meaning old mid call next grant grant refl h))
          (spares_from late new (λ id. id ≢ grant.id) (λ id. (id ≢ grant.id) × IsNoneOf id tickets.items)
          (IsNoneOfRead q)
          (λ id apart. (apart, subst (λ (l : List ℕ). IsNoneOf id l) (sym none) tt)) d.spares);
    }
