-- What polls, cancels, closes and clones leave to the states and files that use a core.
use Rattle.std.proofs.Common.{
  ◌≡◌,
  ◌≢◌,
  ℕ,
  ◌<◌,
  true,
  false,
  refl,
  sym,
  ap,
  ◌∙◌,
  Option,
  Some,
  None,
  IsTrue,
  subst,
  arith,
  List,
}
use Rattle.sftp_model.specs.declared.answers.Expected.{Expected}
use Rattle.sftp_core.specs.declared.id_record.IdRecord.{IdRecord}
use Rattle.sftp_core.specs.declared.id_record.IdRecord.TheVariants.{Waiting, Answered, Granted}
use Rattle.sftp_core.specs.Core.{
  Core,
  abandon_leaves,
  core_after_abandon,
  after_poll,
  record_at,
  is_ticket,
  core_after_release,
  reply_in,
  core_after_retain,
  users_of,
  IsGrant,
}
use Rattle.sftp_core.specs.Grant.{GrantValue}
use Rattle.sftp_core.specs.Table.{expected_at}
use Rattle.sftp_core.proofs.Elsewhere.{abandon_elsewhere, poll_elsewhere, put_here, release_elsewhere, retain_elsewhere}
use Rattle.plan_state.specs.declared.submission.Asking.{Asking}
use Rattle.plan_state.specs.declared.stage.Stage.{Stage}
use Rattle.plan_state.specs.declared.stage.Stage.TheVariants.{Ended, Ready, Unsent, Asked, Came}
use Rattle.plan_state.specs.declared.told.Told.{Told}
use Rattle.plan_state.specs.declared.told.Told.TheVariants as told
use Rattle.plan_state.specs.Told.{IsCounted}
use Rattle.plan_state.specs.Asked.{HoldsTicket, SubmitsAsking}
use Rattle.plan_state.specs.Calls.{
  CancelsAwaited,
  IsGrantOf,
  IsHeld,
  IsHeldAt,
  IsNotOf,
  IsUnderWay,
  KeepsOtherTickets,
  core_after_cancel,
  is_ended,
  CallValue,
}
use Rattle.plan_state.specs.Runners.{Meaning}
use Rattle.plan_state.specs.Keeping.{IsDropped, KeepsHeld, KeepsGrants, StaysOpen}
use Rattle.plan_state.proofs.Keeping.{
  polled_opened,
  abandoned_opened,
  cancelled_opened,
  holds_still,
  keeps_submitted,
  keeps_same,
}

-- ---- a ticket and a grant have different numbers

granted_ticket : (p : Option IdRecord) (handle : List ℕ) (users : ℕ) → p ≡ Some (Granted handle users)
    → IsTrue (is_ticket p) → ⊥
granted_ticket (Some (Granted handle users)) h u e counted = cc
granted_ticket (Some (Waiting expected sent wanted)) h u e counted = cc
granted_ticket (Some (Answered expected r)) h u e counted = cc
granted_ticket None h u e counted = cc

pub ticket_apart : (core : Core) (ticket id : ℕ) (handle : List ℕ) (users : ℕ)
    → IsTrue (is_ticket (record_at core ticket))
    → record_at core id ≡ Some (Granted handle users) → id ≢ ticket
ticket_apart core ticket id handle users counted here same =
    granted_ticket (record_at core ticket) handle users (ap (λ (q : ℕ). record_at core q) (sym same) ∙ here) counted

-- ---- what a poll, a cancel, a close and a clone leave

pub polled_keeps_grants : (core : Core) (ticket : ℕ) → IsTrue (is_ticket (record_at core ticket))
    → KeepsGrants core (after_poll core ticket)
polled_keeps_grants core ticket counted =
    record {
      grants = λ id handle users here. poll_elsewhere core ticket core.fault (record_at core ticket) id
          (ticket_apart core ticket id handle users counted here) ∙ here;
      opened = polled_opened core ticket;
    }

pub cancelled_keeps_grants : (core : Core) (ticket : ℕ) → IsTrue (is_ticket (record_at core ticket))
    → KeepsGrants core (core_after_abandon core ticket)
cancelled_keeps_grants core ticket counted =
    record {
      grants = λ id handle users here. abandon_elsewhere core ticket (record_at core ticket) id
          (ticket_apart core ticket id handle users counted here) ∙ here;
      opened = abandoned_opened core ticket;
    }

pub polled_on : (core : Core) (ticket other : ℕ) (kind : Expected) → other ≢ ticket → HoldsTicket core other kind
    → HoldsTicket (after_poll core ticket) other kind
polled_on core ticket other kind apart h =
    holds_still core (after_poll core ticket) other kind (poll_elsewhere core ticket core.fault (record_at core ticket)
    other apart) h

pub cancelled_on : (core : Core) (ticket other : ℕ) (kind : Expected) → other ≢ ticket → HoldsTicket core other kind
    → HoldsTicket (core_after_abandon core ticket) other kind
cancelled_on core ticket other kind apart h =
    holds_still core (core_after_abandon core ticket) other kind
    (abandon_elsewhere core ticket (record_at core ticket) other apart) h

grant_apart : (core : Core) (grant : GrantValue) (ticket : ℕ) (kind : Expected) → IsGrant core grant
    → HoldsTicket core ticket kind → ticket ≢ grant.id
grant_apart core grant ticket kind g h same =
    ticket_apart core ticket grant.id grant.handle (users_of (record_at core grant.id)) h.counted g.kept (sym same)

pub released_holds : (core : Core) (grant : GrantValue) (ticket : ℕ) (kind : Expected) → IsGrant core grant
    → HoldsTicket core ticket kind → HoldsTicket (core_after_release core grant) ticket kind
released_holds core grant ticket kind g h =
    holds_still core (core_after_release core grant) ticket kind
    (release_elsewhere core grant (users_of (record_at core grant.id)) ticket (grant_apart core grant ticket kind g h))
    h

pub retained_holds : (core : Core) (grant : GrantValue) (ticket : ℕ) (kind : Expected) → IsGrant core grant
    → HoldsTicket core ticket kind → HoldsTicket (core_after_retain core grant) ticket kind
retained_holds core grant ticket kind g h =
    holds_still core (core_after_retain core grant) ticket kind
    (retain_elsewhere core grant ticket (grant_apart core grant ticket kind g h)) h

-- ---- a cancel before the reply

dropped_at : (core : Core) (ticket : ℕ) (kind : Expected) (p : Option IdRecord) → IsTrue (is_ticket p) → expected_at p
    ≡ Some kind → reply_in p ≡ None
    → IsDropped (record_at (abandon_leaves core ticket p) ticket) kind
dropped_at core ticket kind (Some (Waiting expected sent wanted)) counted is none =
    let same : expected ≡ kind = cc in rw (put_here core.table ticket (Waiting expected sent false)) (same, refl)
dropped_at core ticket kind (Some (Answered expected r)) counted is none = cc
dropped_at core ticket kind (Some (Granted handle users)) counted is none = cc
dropped_at core ticket kind None counted is none = cc

-- it leaves a request whose reply counts for nothing
pub cancelled_drops : (core : Core) (ticket : ℕ) (kind : Expected) → HoldsTicket core ticket kind
    → reply_in (record_at core ticket)
    ≡ None → IsDropped (record_at (core_after_cancel core (Asked ticket)) ticket) kind
cancelled_drops core ticket kind h none = dropped_at core ticket kind (record_at core ticket) h.counted h.expects none

-- ---- going on, polling and giving up

-- a submitted request leaves all that is held
pub submitted_keeps : (old new : Core) (asking : Asking) (ticket : ℕ) → SubmitsAsking old asking ticket new
    → KeepsHeld old new
submitted_keeps old new asking ticket h = subst (λ (x : Core). KeepsHeld old x) (sym h.queued)
    (keeps_submitted old ticket asking h.free)

-- a core that nothing was done to
pub keeps_unchanged : (old new : Core) → new ≡ old → KeepsHeld old new
keeps_unchanged old new same = subst (λ (x : Core). KeepsHeld old x) (sym same) (keeps_same old)

-- what keeps all keeps the grants
pub grants_kept : (old new : Core) → KeepsHeld old new → KeepsGrants old new
grants_kept old new h = h.grants

-- a poll of a ticket, and then what keeps all
pub grants_polled : (old mid new : Core) (ticket : ℕ) → IsTrue (is_ticket (record_at old ticket)) → mid
    ≡ after_poll old ticket → KeepsHeld mid new → KeepsGrants old new
grants_polled old mid new ticket counted is h =
    let polled : KeepsGrants old mid = subst (λ (x : Core). KeepsGrants old x) (sym is)
    (polled_keeps_grants old ticket counted) in
    record {
      grants = λ id handle users here. h.grants.grants id handle users (polled.grants id handle users here);
      opened = λ o. h.grants.opened (polled.opened o);
    }

pub cancelled_grants : (core : Core) (stage : Stage) → ((ticket : ℕ) → stage ≡ Asked ticket
    → IsTrue (is_ticket (record_at core ticket)))
    → (id : ℕ) (handle : List ℕ) (users : ℕ) → (IsGrantOf stage id → ⊥) → record_at core id
    ≡ Some (Granted handle users)
    → record_at (core_after_cancel core stage) id ≡ Some (Granted handle users)
cancelled_grants core (Asked ticket) counted id handle users own here =
    (cancelled_keeps_grants core ticket (counted ticket refl)).grants id handle users here
cancelled_grants core (Came (told.Granted g)) counted id handle users own here =
    abandon_elsewhere (core_after_release core g) g.id (record_at (core_after_release core g) g.id) id
    (λ same. own (sym same))
    ∙ (release_elsewhere core g (users_of (record_at core g.id)) id (λ same. own (sym same)) ∙ here)
cancelled_grants core (Came (told.Reply r)) counted id handle users own here = here
cancelled_grants core Ended counted id handle users own here = here
cancelled_grants core Ready counted id handle users own here = here
cancelled_grants core (Unsent asking) counted id handle users own here = here

-- ---- what a user of a core keeps

-- what is kept under its number tells whether a grant is counted
pub grant_at : (core : Core) (grant : GrantValue) (users : ℕ) → record_at core grant.id
    ≡ Some (Granted grant.handle users) → 0 < users → IsGrant core grant
grant_at core grant users here some = record { kept = rw here refl; used = rw here some }

-- a grant over a change that keeps the grants
pub grant_kept : (old new : Core) (grant : GrantValue) → KeepsGrants old new → IsGrant old grant → IsGrant new grant
grant_kept old new grant k h =
    let here : record_at new grant.id ≡ Some (Granted grant.handle (users_of (record_at old grant.id))) =
    k.grants grant.id grant.handle _ h.kept in
    grant_at new grant (users_of (record_at old grant.id)) here h.used

-- what others await stands elsewhere
ticket_elsewhere : (core : Core) (ticket : ℕ) (kind : Expected) → HoldsTicket core ticket kind → record_at core ticket
    ≡ None → ⊥
ticket_elsewhere core ticket kind h none = let gone = subst (λ (p : Option IdRecord). IsTrue (is_ticket p)) none
    h.counted in cc

ticket_no_grant : (core : Core) (grant : GrantValue) (ticket : ℕ) (kind : Expected) → IsGrant core grant
    → HoldsTicket core ticket kind
    → ticket ≢ grant.id
ticket_no_grant core grant ticket kind g h same = ticket_apart core ticket grant.id grant.handle
    (users_of (record_at core grant.id)) h.counted g.kept (sym same)

-- what others await stays so as a call is given up
cancelled_others : (core : Core) (stage : Stage) (other : ℕ) (kind : Expected)
    → ((t : Told) → stage ≡ Came t → IsCounted core t)
    → IsNotOf stage other → HoldsTicket core other kind → HoldsTicket (core_after_cancel core stage) other kind
cancelled_others core (Asked ticket) other kind counted apart h =
    cancelled_on core ticket other kind (λ same. apart (ap Asked (sym same))) h
cancelled_others core (Came (told.Granted g)) other kind counted apart h =
    let grant = grant_at core g 1 (counted (told.Granted g) refl) (omega arith) in
    cancelled_on (core_after_release core g) g.id other kind (ticket_no_grant core g other kind grant h)
    (released_holds core g other kind grant h)
cancelled_others core (Came (told.Reply r)) other kind counted apart h = h
cancelled_others core Ended other kind counted apart h = h
cancelled_others core Ready other kind counted apart h = h
cancelled_others core (Unsent asking) other kind counted apart h = h

asked_number : Stage → ℕ
asked_number (Asked n) = n
asked_number other = 0

asked_same : (a b : ℕ) → Asked a ≡ Asked b → a ≡ b
unfolding asked_number
asked_same a b e = ap asked_number e

-- what was submitted is none of others
pub submitted_others : (old new : Core) (asking : Asking) (ticket : ℕ) (before after : Stage)
    → SubmitsAsking old asking ticket new
    → after ≡ Asked ticket → KeepsOtherTickets old new before after
submitted_others old new asking ticket before after h is other kind apart held = (
  (submitted_keeps old new asking ticket h).holds other kind held,
  λ same.
      ticket_elsewhere old other kind held (subst (λ (q : ℕ). record_at old q ≡ None)
      (asked_same ticket other (sym is ∙ same)) h.free),
)

-- a call that awaits nothing keeps others apart
pub idle_others : (old new : Core) (before after : Stage) → KeepsHeld old new → ((ticket : ℕ) → IsNotOf after ticket)
    → KeepsOtherTickets old new before after
idle_others old new before after k idle other kind apart held = (k.holds other kind held, idle other)

pub ended_idle : (stage : Stage) → is_ended stage ≡ true → (ticket : ℕ) → IsNotOf stage ticket
ended_idle Ended over ticket same = cc
ended_idle Ready over ticket same = cc
ended_idle (Unsent asking) over ticket same = cc
ended_idle (Asked other) over ticket same = cc
ended_idle (Came t) over ticket same = cc

-- a poll of a ticket, and then what keeps others apart
pub polled_others : (old mid new : Core) (ticket : ℕ) (before between after : Stage) → before ≡ Asked ticket → mid
    ≡ after_poll old ticket
    → ((n : ℕ) → IsNotOf between n) → KeepsOtherTickets mid new between after → KeepsOtherTickets old new before after
polled_others old mid new ticket before between after is core none k other kind apart held =
    let elsewhere : other ≢ ticket = λ same. apart (is ∙ ap Asked (sym same)) in
    let here : HoldsTicket mid other kind = subst (λ (x : Core). HoldsTicket x other kind) (sym core)
    (polled_on old ticket other kind elsewhere held) in
    k other kind (none other) here

-- a cancel leaves every grant but the one that came
pub cancels_by : (old new : Core) (stage : Stage) → ((ticket : ℕ) → stage ≡ Asked ticket
    → IsTrue (is_ticket (record_at old ticket)))
    → ((t : Told) → stage ≡ Came t → IsCounted old t) → new ≡ core_after_cancel old stage → CancelsAwaited old new stage
cancels_by old new stage asked counted is =
    record {
      core = is;
      grants = λ id handle users own here. ap (λ (x : Core). record_at x id) is
          ∙ cancelled_grants old stage asked id handle users own here;
      opened = subst (λ (x : Core). StaysOpen old x) (sym is) (cancelled_opened old stage);
      others = λ ticket kind apart h. subst (λ (x : Core). HoldsTicket x ticket kind) (sym is)
          (cancelled_others old stage ticket kind counted apart h);
    }

held_still : {W M V : Type 0} (s : Meaning W M V) (old new : Core) (m : M) (stage : Stage) → KeepsHeld old new
    → IsHeldAt s old m stage → IsHeldAt s new m stage
held_still s old new m (Asked ticket) k h = k.holds ticket (s.expected m) h
held_still s old new m (Came (told.Granted g)) k h =
    record { allowed = h.allowed; formed = h.formed; counted = k.grants.grants g.id g.handle 1 h.counted }
held_still s old new m (Came (told.Reply r)) k h = record { allowed = h.allowed; formed = h.formed; counted = tt }
held_still s old new m Ended k h = h
held_still s old new m Ready k h = h
held_still s old new m (Unsent asking) k h = h

-- a call is under way still
pub still_under_way : {W M V : Type 0} (s : Meaning W M V) (old new : Core) (call : CallValue M) → KeepsHeld old new
    → IsUnderWay s old call → IsUnderWay s new call
still_under_way s old new call k h = record {
  over = h.over;
  held =
      held_still s old new call.runner call.stage k h.held;
}

-- and may be given up
pub may_be_cancelled : {W M V : Type 0} (s : Meaning W M V) (core : Core) (call : CallValue M) → IsUnderWay s core call
    → IsHeld s core call
may_be_cancelled s core call h = h.held
