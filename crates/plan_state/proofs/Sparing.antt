-- What others have stays over what a call does.
use Rattle.std.proofs.Common.{◌≡◌, ◌≢◌, ◌∙◌, sym, ap, subst, ℕ, List, Option, Some, None, Result, Ok, IsTrue}
use Rattle.sftp_model.specs.declared.answers.Expected.{Expected}
use Rattle.sftp_model.specs.declared.error.Error.{Error}
use Rattle.sftp_core.specs.Core.{Core, core_after_abandon, after_poll, record_at, is_ticket, core_after_release}
use Rattle.sftp_core.specs.Grant.{GrantValue}
use Rattle.sftp_core.specs.declared.id_record.IdRecord.TheVariants.{Granted}
use Rattle.plan_state.specs.Asked.{HoldsTicket, SubmitsAsking}
use Rattle.plan_state.specs.Calls.{CallValue, CancelsAwaited, CountsGrant, IsGrantOf, IsHeldAt, IsNoneOfCall, IsNotOf, StepsByPlan, grant_brought}
use Rattle.plan_state.specs.Keeping.{KeepsHeld, SparesOthers}
use Rattle.plan_state.specs.Runners.{Meaning}
use Rattle.plan_state.specs.Told.{IsCounted}
use Rattle.plan_state.specs.declared.submission.Asking.{Asking}
use Rattle.plan_state.specs.declared.poll.Poll.{Poll}
use Rattle.plan_state.specs.declared.poll.Poll.TheVariants as poll
use Rattle.plan_state.specs.declared.stage.Stage.{Stage}
use Rattle.plan_state.specs.declared.stage.Stage.TheVariants.{Ended, Ready, Unsent, Asked, Came}
use Rattle.plan_state.specs.declared.told.Told.{Told}
use Rattle.plan_state.specs.declared.told.Told.TheVariants as told
use Rattle.plan_state.proofs.Grants.{brought_apart, owns_none}
use Rattle.plan_state.proofs.OthersKept.{
  cancelled_keeps_grants,
  cancelled_on,
  cancels_by,
  polled_keeps_grants,
  polled_on,
  submitted_keeps,
  ticket_apart,
}

-- ---- composed

pub spares_kept : (old new : Core) (P : ℕ → Type 0) → KeepsHeld old new → SparesOthers old new P P
spares_kept old new P k =
    record {
      grants = λ id handle users theirs here. (k.grants.grants id handle users here, theirs);
      tickets = λ ticket kind theirs h. (k.holds ticket kind h, theirs);
      opened = k.grants.opened;
    }

pub spares_both : (a b c : Core) (P Q R : ℕ → Type 0) → SparesOthers a b P Q → SparesOthers b c Q R
    → SparesOthers a c P R
spares_both a b c P Q R x y =
    record {
      grants = λ id handle users theirs here. (let mid = x.grants id handle users theirs here in
          y.grants id handle users mid.1 mid.0);
      tickets = λ ticket kind theirs h. (let mid = x.tickets ticket kind theirs h in y.tickets ticket kind mid.1 mid.0);
      opened = λ o. y.opened (x.opened o);
    }

-- a change of cores that keeps all, after one or before
pub spares_then : (a b c : Core) (P Q : ℕ → Type 0) → SparesOthers a b P Q → KeepsHeld b c → SparesOthers a c P Q
spares_then a b c P Q x k = spares_both a b c P Q Q x (spares_kept b c Q k)

pub spares_same : (a b c : Core) (P Q : ℕ → Type 0) → c ≡ b → SparesOthers a b P Q → SparesOthers a c P Q
spares_same a b c P Q same x = subst (λ (core : Core). SparesOthers a core P Q) (sym same) x

pub spares_as : (a b : Core) (P Q R : ℕ → Type 0) → ((id : ℕ) → Q id → R id) → SparesOthers a b P Q
    → SparesOthers a b P R
spares_as a b P Q R f x =
    record {
      grants = λ id handle users theirs here. (let k = x.grants id handle users theirs here in (k.0, f id k.1));
      tickets = λ ticket kind theirs h. (let k = x.tickets ticket kind theirs h in (k.0, f ticket k.1));
      opened = x.opened;
    }

pub spares_from : (a b : Core) (O P Q : ℕ → Type 0) → ((id : ℕ) → O id → P id) → SparesOthers a b P Q
    → SparesOthers a b O Q
spares_from a b O P Q f x =
    record {
      grants = λ id handle users theirs here. x.grants id handle users (f id theirs) here;
      tickets = λ ticket kind theirs h. x.tickets ticket kind (f ticket theirs) h;
      opened = x.opened;
    }

-- and what is besides apart from them
pub spares_also : (a b : Core) (O P Q : ℕ → Type 0) → SparesOthers a b P Q
    → SparesOthers a b (λ id. O id × P id) (λ id. O id × Q id)
spares_also a b O P Q x =
    record {
      grants = λ id handle users theirs here. (let k = x.grants id handle users theirs.1 here in
          (k.0, (theirs.0, k.1)));
      tickets = λ ticket kind theirs h. (let k = x.tickets ticket kind theirs.1 h in (k.0, (theirs.0, k.1)));
      opened = x.opened;
    }

-- ---- what is apart

ticket_held : (core : Core) (ticket other : ℕ) (kind : Expected) → record_at core ticket ≡ None
    → HoldsTicket core other kind → other ≢ ticket
ticket_held core ticket other kind free h same =
    let gone = subst (λ p. IsTrue (is_ticket p)) (ap (λ (n : ℕ). record_at core n) same ∙ free) h.counted in cc

grant_free : (core : Core) (ticket id : ℕ) (handle : List ℕ) (users : ℕ) → record_at core ticket ≡ None
    → record_at core id ≡ Some (Granted handle users) → id ≢ ticket
grant_free core ticket id handle users free here same =
    let clash : Some (Granted handle users) ≡ None = sym here ∙ (ap (λ (n : ℕ). record_at core n) same ∙ free) in cc

-- a grant that a call has not is none of its numbers
pub granted_apart : {W M V : Type 0} (s : Meaning W M V) (core : Core) (m : M) (stage : Stage) (id : ℕ)
    (handle : List ℕ) (users : ℕ)
    → IsHeldAt s core m stage → (IsGrantOf stage id → ⊥) → record_at core id ≡ Some (Granted handle users)
    → IsNoneOfCall stage id
granted_apart s core m (Asked ticket) id handle users h own here =
    ticket_apart core ticket id handle users h.counted here
granted_apart s core m (Came (told.Granted g)) id handle users h own here = λ same. own (sym same)
granted_apart s core m (Came (told.Reply r)) id handle users h own here = tt
granted_apart s core m Ended id handle users h own here = tt
granted_apart s core m Ready id handle users h own here = tt
granted_apart s core m (Unsent asking) id handle users h own here = tt

-- nor is a ticket that it does not await
pub ticket_none : {W M V : Type 0} (s : Meaning W M V) (core : Core) (m : M) (stage : Stage) (ticket : ℕ)
    (kind : Expected)
    → IsHeldAt s core m stage → IsNotOf stage ticket → HoldsTicket core ticket kind → IsNoneOfCall stage ticket
ticket_none s core m (Asked other) ticket kind h apart held = λ same. apart (ap Asked (sym same))
ticket_none s core m (Came (told.Granted g)) ticket kind h apart held =
    λ same. ticket_apart core ticket g.id g.handle 1 held.counted h.counted (sym same)
ticket_none s core m (Came (told.Reply r)) ticket kind h apart held = tt
ticket_none s core m Ended ticket kind h apart held = tt
ticket_none s core m Ready ticket kind h apart held = tt
ticket_none s core m (Unsent asking) ticket kind h apart held = tt

no_grant : (stage : Stage) (id : ℕ) → IsNoneOfCall stage id → IsGrantOf stage id → ⊥
no_grant (Came (told.Granted g)) id none own = none (sym own)
no_grant (Came (told.Reply r)) id none own = own
no_grant Ended id none own = own
no_grant Ready id none own = own
no_grant (Unsent asking) id none own = own
no_grant (Asked ticket) id none own = own

number_of : Stage → ℕ
number_of (Asked n) = n
number_of other = 0

same_number : (a b : ℕ) → Asked a ≡ Asked b → a ≡ b
unfolding number_of
same_number a b e = ap number_of e

not_of : (stage : Stage) (ticket : ℕ) → IsNoneOfCall stage ticket → IsNotOf stage ticket
not_of (Asked other) ticket none same = none (sym (same_number other ticket same))
not_of (Came t) ticket none same = cc
not_of Ended ticket none same = cc
not_of Ready ticket none same = cc
not_of (Unsent asking) ticket none same = cc

-- ---- a start, a poll, a cancel

-- a request that was submitted
pub submitted_spares : (old new : Core) (asking : Asking) (ticket : ℕ) (P : ℕ → Type 0) (stage : Stage)
    → SubmitsAsking old asking ticket new
    → stage ≡ Asked ticket → SparesOthers old new P (λ id. P id × IsNoneOfCall stage id)
submitted_spares old new asking ticket P stage h is =
    let keeps = submitted_keeps old new asking ticket h in
    record {
      grants = λ id handle users theirs here. (
        keeps.grants.grants id handle users here,
        (
          theirs,
          subst (λ (x : Stage). IsNoneOfCall x id) (sym is)
              (grant_free old ticket id handle users h.free here),
        ),
      );
      tickets = λ other kind theirs held. (
        keeps.holds other kind held,
        (
          theirs,
          subst (λ (x : Stage). IsNoneOfCall x other) (sym is)
              (ticket_held old ticket other kind h.free held),
        ),
      );
      opened = keeps.grants.opened;
    }

-- a poll
pub stepped_spares : {W M V : Type 0} (s : Meaning W M V) (old new : Core) (p q : CallValue M)
    (result : Poll (Result V Error))
    → StepsByPlan s old new p q result → SparesOthers old new (IsNoneOfCall p.stage) (IsNoneOfCall q.stage)
stepped_spares s old new p q result h =
    record {
      grants = λ id handle users theirs here.
          (let kept = h.grants.grants id handle users here in (
            kept,
            granted_apart s new q.runner q.stage id handle users h.held
                (owns_none s old new p q result id handle users h (no_grant p.stage id theirs) here) kept,
          ));
      tickets = λ ticket kind theirs held.
          (let kept = h.others ticket kind (not_of p.stage ticket theirs) held in
          (kept.0, ticket_none s new q.runner q.stage ticket kind h.held kept.1 kept.0));
      opened = h.grants.opened;
    }

-- a poll that gave a grant
pub given_spares : {W M V : Type 0} (s : Meaning W M V) (old new : Core) (p q : CallValue M) (value : V)
    (g : GrantValue) → s.grant value ≡ Some g
    → StepsByPlan s old new p q (poll.Ready (Ok value)) → SparesOthers old new (IsNoneOfCall p.stage) (λ id. id ≢ g.id)
given_spares s old new p q value g is h =
    let brings : grant_brought old p.stage ≡ Some g = sym h.brings ∙ is in
    let counted : record_at new g.id ≡ Some (Granted g.handle 1) =
    subst (λ (o : Option GrantValue). CountsGrant new o) is h.holds in
    record {
      grants = λ id handle users theirs here. (
        h.grants.grants id handle users here,
        λ same. brought_apart old p.stage g id handle users brings (no_grant p.stage id theirs) here (sym same),
      );
      tickets = λ ticket kind theirs held.
          (let kept = (h.others ticket kind (not_of p.stage ticket theirs) held).0 in
          (kept, λ same. ticket_apart new ticket g.id g.handle 1 kept.counted counted (sym same)));
      opened = h.grants.opened;
    }

-- the poll and the cancel of a ticket alone
pub polled_spares : (core : Core) (ticket : ℕ) → IsTrue (is_ticket (record_at core ticket))
    → SparesOthers core (after_poll core ticket) (λ id. id ≢ ticket) (λ id. Unit {0})
polled_spares core ticket counted =
    record {
      grants = λ id handle users theirs here. (
        (polled_keeps_grants core ticket counted).grants id handle users here,
        tt,
      );
      tickets = λ other kind theirs held. (polled_on core ticket other kind theirs held, tt);
      opened = (polled_keeps_grants core ticket counted).opened;
    }

pub abandoned_spares : (core : Core) (ticket : ℕ) → IsTrue (is_ticket (record_at core ticket))
    → SparesOthers core (core_after_abandon core ticket) (λ id. id ≢ ticket) (λ id. Unit {0})
abandoned_spares core ticket counted =
    record {
      grants = λ id handle users theirs here. (
        (cancelled_keeps_grants core ticket counted).grants id handle users here,
        tt,
      );
      tickets = λ other kind theirs held. (cancelled_on core ticket other kind theirs held, tt);
      opened = (cancelled_keeps_grants core ticket counted).opened;
    }

-- a cancel
pub cancelled_spares : (old new : Core) (stage : Stage) → CancelsAwaited old new stage
    → SparesOthers old new (IsNoneOfCall stage) (λ id. Unit {0})
cancelled_spares old new stage h =
    record {
      grants = λ id handle users theirs here. (h.grants id handle users (no_grant stage id theirs) here, tt);
      tickets = λ ticket kind theirs held. (h.others ticket kind (not_of stage ticket theirs) held, tt);
      opened = h.opened;
    }

-- a grant with one user that is closed, whose CLOSE nobody awaits
pub closed_spares : (old new : Core) (g : GrantValue) → record_at old g.id ≡ Some (Granted g.handle 1) → new
    ≡ core_after_abandon (core_after_release old g) g.id
    → SparesOthers old new (λ id. id ≢ g.id) (λ id. Unit {0})
closed_spares old new g owned close =
    cancelled_spares old new (Came (told.Granted g)) (cancels_by old new (Came (told.Granted g))
    (λ ticket same. absurd cc)
    (λ t same. came_counted t same) close)
  where
    came_counted : (t : Told) → Came (told.Granted g) ≡ Came t → IsCounted old t
    came_counted (told.Granted h) same = let one : g ≡ h = cc in
        subst (λ (x : GrantValue). record_at old x.id ≡ Some (Granted x.handle 1)) one owned
    came_counted (told.Reply r) same = tt
