-- What a lane's runner asks bears the handles of the lane's grants, and its CLOSE is that of the grant that the journal
-- says.
use Rattle.std.proofs.Common.{◌≡◌, ◌==◌, ℕ, Bool, true, false, List, [], ◌∷◌, Option, Some, None, refl, ap, sym, ◌∙◌, subst, inl, inr, if◌then◌else◌}
use Rattle.std.specs.Prelude.{◌||◌, ◌<◌, ◌≤◌, slice_get}
use Rattle.std.proofs.lemmas.Bool.Decides.{eqb_tells}
use Rattle.sftp_model.specs.declared.reply.Reply.{Reply}
use Rattle.sftp_model.specs.declared.slot.Move.TheVariants.{Ask}
use Rattle.sftp_model.specs.declared.slot.Site.{Site}
use Rattle.sftp_model.specs.Slots.{grant_of, slot_at}
use Rattle.plan_model.specs.GoodMoves.{ClosesGrant}
use Rattle.plan_model.specs.Moves.{Answers, handle_of}
use Rattle.plan_model.specs.OwnRequests.{ExtendsAnswers}
use Rattle.plan_runner.specs.declared.next.Asked.{Asked}
use Rattle.plan_runner.specs.declared.next.Running.{Running}
use Rattle.session_model.specs.Readings.{answer, count_submitted, count_ended}
use Rattle.session_model.specs.Calls.{site_of, Setting, current}
use Rattle.session_model.specs.Grants.{closed_by, is_granted, closed_grants, closes}
use Rattle.session_model.specs.Ids.{ReadsId}
use Rattle.session_model.proofs.IdLaws.{reads}
use Rattle.session_model.proofs.PlannedLaws.{AsksClose, asks_close}
use Rattle.session_laws.specs.Lanes.{AtTied, Held, LaneTied, LaneValue, grant_places}
use Rattle.session_laws.specs.Running.{IsFilled, grants_named}
use Rattle.session_laws.specs.Places.{is_in}
use Rattle.session_laws.proofs.CloseLaws.{grant_state}
use Rattle.sftp_model.specs.declared.reply.Reply.TheVariants as reply
use Rattle.sftp_model.specs.declared.request.Request.TheVariants as request
use Rattle.plan_runner.specs.declared.next.Asked.TheVariants as asked
use Rattle.plan_model.specs.CallPlans.{next}
use Rattle.sftp_core.specs.Core.{record_at}
use Rattle.plan_runner.specs.Runners.{RunsByPlan, bytes_of}
use Rattle.plan_model.specs.declared.call.Call.{Call}
use Rattle.session_model.specs.declared.entry.Entry.{Entry}
use Rattle.plan_runner.specs.declared.next.Next.TheVariants as step
use Rattle.session_model.specs.declared.event.Owner.TheVariants as owner

-- The handle of a lane's grant is the one that came at its place,
pub handles_agree : (s : Setting) (past : List Entry) (lane k : ℕ) (v : LaneValue) (dues : List ℕ) (g : Held)
    → LaneTied s past lane v dues → slice_get v.grants k ≡ Some g → answer past g.place
    ≡ Some (reply.Handle g.grant.handle)
handles_agree s past lane k v dues g l got = (let state = grant_state past v.grants k g l.holds.held got in
    (subst (ReadsId past g.grant.id) state.1 (reads past g.grant.id)).1)

-- what has come is the same later
same_later : (known answers : Answers) (g : ℕ) → is_granted (known g) ≡ true → ExtendsAnswers known answers → answers g
    ≡ known g
same_later known answers g came more = by_known (known g) refl came
  where
    by_known : (x : Option Reply) → known g ≡ x → is_granted x ≡ true → answers g ≡ known g
    by_known None is came = absurd cc
    by_known (Some y) is came = more g y is ∙ sym is

first_in : (g : ℕ) (gs : List ℕ) → is_in g (g ∷ gs) ≡ true
first_in g gs = elim (eqb_tells g g) [ inl t ↦ rw t.0 refl | inr t ↦ absurd (t.1 refl) ]

later_in : (h g : ℕ) → is_in g (h ∷ g ∷ []) ≡ true
later_in h g = by_first (h == g) (first_in g [])
  where
    by_first : (b : Bool) → is_in g (g ∷ []) ≡ true → (b || is_in g (g ∷ [])) ≡ true
    by_first true e = refl
    by_first false e = e

filled_later : (a : Asked) (known : Answers) → ((g : ℕ) → is_in g (grants_named a) ≡ true → is_granted (known g) ≡ true)
    → IsFilled a known
filled_later (asked.Plain r) known came answers more = refl
filled_later (asked.Close grant) known came answers more = ap (λ x. request.Close (handle_of x))
    (same_later known answers grant (came grant (first_in grant [])) more)
filled_later (asked.Read grant offset len) known came answers more =
    ap (λ x. request.Read (handle_of x) offset len) (same_later known answers grant (came grant (first_in grant []))
    more)
filled_later (asked.Write grant offset content) known came answers more =
    ap (λ x. request.Write (handle_of x) offset content) (same_later known answers grant
    (came grant (first_in grant [])) more)
filled_later (asked.Fstat grant) known came answers more = ap (λ x. request.Fstat (handle_of x))
    (same_later known answers grant (came grant (first_in grant [])) more)
filled_later (asked.Fsetstat grant attrs) known came answers more =
    ap (λ x. request.Fsetstat (handle_of x) attrs) (same_later known answers grant (came grant (first_in grant []))
    more)
filled_later (asked.Fsync grant) known came answers more = ap (λ x. request.Fsync (handle_of x))
    (same_later known answers grant (came grant (first_in grant [])) more)
filled_later (asked.Readdir grant) known came answers more =
    ap (λ x. request.Readdir (handle_of x)) (same_later known answers grant (came grant (first_in grant [])) more)
filled_later (asked.CopyData from from_offset len to to_offset) known came answers more =
    ap (λ x. request.CopyData (handle_of x) from_offset len (handle_of (answers to)) to_offset)
    (same_later known answers from (came from (first_in from (to ∷ []))) more)
    ∙ ap (λ x. request.CopyData (handle_of (known from)) from_offset len (handle_of x) to_offset)
    (same_later known answers to (came to (later_in from to)) more)

-- so a request that bears handles of the lane's grants is the same whatever comes later.
pub requests_are_filled : (s : Setting) (past : List Entry) (lane : ℕ) (v : LaneValue) (dues : List ℕ) (a : Asked)
    → LaneTied s past lane v dues → ((g : ℕ) → is_in g (grants_named a) ≡ true → is_in g (grant_places v.grants) ≡ true)
    → IsFilled a (answer past)
requests_are_filled s past lane v dues a l held = filled_later a (answer past) (λ g e. (l.holds.holding g (held g e)).0)

-- ---- the CLOSE with which a call begins

-- the reply to one place alone is a HANDLE, of one byte
abbrev one_handle : ℕ → Answers
one_handle g p = if p == g then Some (reply.Handle (1 ∷ [])) else None

-- The CLOSE with which a call begins is that of the grant that the journal says.
pub closes_agree :
    (s : Setting) (past : List Entry) (lane g : ℕ) (v : LaneValue) (dues : List ℕ) (c : Call) (r : Running)
    (site : Site) → LaneTied s past lane v dues → current s past lane ≡ Some c → v.running ≡ None
    → RunsByPlan (next c v.site s.facts) (count_submitted past) (bytes_of c) site s.facts (step.Ask (asked.Close g) r)
    → closes s past (closed_grants s past) (owner.Call lane (count_ended past lane)) ≡ Some g
closes_agree s past lane g v dues c r site l is none goes =
    let answers : Answers = one_handle g in
    let asks : next c v.site s.facts [] answers ≡ Ask (request.Close (handle_of (answers g))) = (goes answers).0 in
    let a : AsksClose (Some c) v.site [] answers (handle_of (answers g)) =
    asks_close (Some c) v.site s.facts [] answers (handle_of (answers g)) (ap (λ m. Some m) asks) in
    let w : ClosesGrant a.0 v.site [] answers (handle_of (answers g)) = a.1.1 in
    let same : w.grant ≡ g = the_one w.grant w.bears in
    let at_site : v.site ≡ site_of s past lane = at_rest v.running l.goes.runs none in
    ap (λ x. closed_by x (site_of s past lane)) (is ∙ a.1.0) ∙
    (ap (λ (x : Site). grant_of (slot_at x a.0)) (sym at_site) ∙ (w.stood ∙ ap (λ (n : ℕ). Some n) same))
  where
    self : handle_of (one_handle g g) ≡ 1 ∷ []
    self = elim (eqb_tells g g) [ inl t ↦ rw t.0 refl | inr t ↦ absurd (t.1 refl) ]

    the_one : (h : ℕ) → handle_of (one_handle g g) ≡ handle_of (one_handle g h) → h ≡ g
    the_one h bears = elim (eqb_tells h g) [
      | inl t ↦ t.1
      | inr t ↦ absurd (let nothing : handle_of (one_handle g h) ≡ [] = rw t.0 refl in
          let clash : ◌≡◌ {A = List ℕ} (1 ∷ []) [] = sym self ∙ (bears ∙ nothing) in cc)
    ]

    at_rest : (x : Option Running) → AtTied s past lane x v.site → x ≡ None → v.site ≡ site_of s past lane
    at_rest None t e = t.1
    at_rest (Some y) t e = absurd cc
