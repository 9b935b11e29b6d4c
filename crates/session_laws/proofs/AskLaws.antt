-- The lane's own request: what it leaves of the grants, and of what is due.
use Rattle.std.proofs.Common.{
  ◌≡◌,
  ◌≢◌,
  ℕ,
  zero,
  suc,
  Bool,
  true,
  false,
  List,
  [],
  ◌∷◌,
  ◌++◌,
  Option,
  Some,
  None,
  refl,
  ap,
  sym,
  ◌∙◌,
  subst,
  inl,
  inr,
  if◌then◌else◌,
}
use Rattle.std.specs.Prelude.{◌||◌, length, slice_get, slice_set, slice_index_or}
use Rattle.std.specs.List.{list_any}
use Rattle.std.proofs.lemmas.Bool.{or_cases, or_left, or_right}
use Rattle.std.proofs.lemmas.Bool.Decides.{eqb_tells}
use Rattle.sftp_model.specs.declared.request.Request.{Request}
use Rattle.sftp_model.specs.declared.slot.Slot.{Slot}
use Rattle.sftp_model.specs.declared.slot.Slot.TheVariants.{Empty, File, Buffered}
use Rattle.sftp_model.specs.declared.slot.Site.{Site}
use Rattle.sftp_model.specs.declared.slot.Facts.{Facts}
use Rattle.sftp_model.specs.declared.slot.Move.TheVariants.{Ask, Done}
use Rattle.sftp_model.specs.Slots.{grant_of, has_grant, slot_at, slot_has, with_slot}
use Rattle.plan_model.specs.Moves.{Answers, Own, handle_of}
use Rattle.plan_model.specs.FilePlans.{close_slot_next}
use Rattle.plan_model.specs.declared.call.Call.{Call}
use Rattle.session_model.specs.declared.entry.Entry.{Entry}
use Rattle.session_model.specs.Readings.{answer, count_submitted, count_ended, is_at, own}
use Rattle.session_model.specs.Calls.{Setting, current, held_by, held_site, move_at, move_of, site_of}
use Rattle.session_model.specs.Grants.{closed_grants, closed_by, closes, holds, is_close, is_grant, is_one_of, is_unended_asker, with_closed}
use Rattle.session_model.specs.Journals.{IsJournal}
use Rattle.session_model.proofs.CallLaws.{next_submit, own_submit}
use Rattle.session_model.proofs.GrantLaws.{any_passes, any_where}
use Rattle.session_laws.specs.Lanes.{AllOf, Held, LaneHolds, Ticketed, grant_places}
use Rattle.session_laws.specs.Dues.{AreDueGrants}
use Rattle.session_laws.specs.Changes.{GrantsLeft}
use Rattle.session_laws.specs.Places.{IsRising, is_in, without_index}
use Rattle.session_laws.specs.Running.{own_request}
use Rattle.session_laws.proofs.GoneLaws.{asker_stays}
use Rattle.session_laws.proofs.CloseLaws.{grant_without, held_without, in_left, one_less, one_more}
use Rattle.session_laws.proofs.OtherLaws.{not_by, other_holder}
use Rattle.session_laws.proofs.HoldLaws.{of_without}
use Rattle.session_laws.proofs.PlaceLaws.{without_other, without_rising, without_self}
use Rattle.sftp_model.specs.declared.request.Request.TheVariants as request
use Rattle.sftp_model.specs.declared.outcome.Outcome.TheVariants as outcome
use Rattle.plan_model.specs.declared.call.Call.TheVariants as call
use Rattle.session_model.specs.declared.event.Owner.TheVariants as owner

-- ---- which grants have a CLOSE

closed_less : (b : Bool) (x : Option ℕ) (gone : List (Option ℕ)) (q : ℕ) → is_one_of (with_closed b x gone) q ≡ false
    → is_one_of gone q ≡ false
closed_less false x gone q e = e
closed_less true x gone q e = by_first (is_at x q) e
  where
    by_first : (b : Bool) → (b || is_one_of gone q) ≡ false → is_one_of gone q ≡ false
    by_first true e = absurd cc
    by_first false e = e

-- what has no CLOSE had none
pub still_unclosed : (s : Setting) (past : List Entry) (lane id q : ℕ) (r : Request)
    → is_one_of (closed_grants s (own_request past lane id r ∷ past)) q ≡ false → is_one_of (closed_grants s past) q
    ≡ false
still_unclosed s past lane id q r e = closed_less (is_close r)
    (closes s past (closed_grants s past) (owner.Call lane (count_ended past lane))) (closed_grants s past) q e

-- a plain request is no CLOSE
pub closed_plain : (s : Setting) (past : List Entry) (lane id : ℕ) (r : Request) → is_close r ≡ false
    → closed_grants s (own_request past lane id r ∷ past) ≡ closed_grants s past
closed_plain s past lane id r plain = ap (λ b. with_closed b
    (closes s past (closed_grants s past) (owner.Call lane (count_ended past lane))) (closed_grants s past)) plain

-- a CLOSE is that of a grant
pub closed_one : (s : Setting) (past : List Entry) (lane id g : ℕ) (r : Request) → is_close r ≡ true
    → closes s past (closed_grants s past) (owner.Call lane (count_ended past lane)) ≡ Some g
    → closed_grants s (own_request past lane id r ∷ past) ≡ Some g ∷ closed_grants s past
closed_one s past lane id g r close is = ap (λ b. with_closed b
    (closes s past (closed_grants s past) (owner.Call lane (count_ended past lane))) (closed_grants s past)) close
    ∙ ap (λ (x : Option ℕ). x ∷ closed_grants s past) is

-- ---- what the lane goes on to hold

-- a slot has a grant where its own is that one
has_own : (x : Slot) (q : ℕ) → slot_has q x ≡ is_at (grant_of x) q
has_own Empty q = refl
has_own (File file) q = refl
has_own (Buffered file buffer) q = refl

emptied : (q : ℕ) (slots : List Slot) (k : ℕ) → slot_has q (slice_index_or slots k Empty) ≡ false
    → list_any (slot_has q) slots ≡ true → list_any (slot_has q) (slice_set slots k Empty) ≡ true
emptied q [] k out h = h
emptied q (slot ∷ slots) zero out h = rw out at h
emptied q (slot ∷ slots) (suc k) out h = elim (or_cases (slot_has q slot) (list_any (slot_has q) slots) h) [
  | inl here ↦ or_left (slot_has q slot) _ here
  | inr there ↦ or_right (slot_has q slot) _ (emptied q slots k out there)
]

-- what a `close` asks first is a CLOSE
close_asks : (slot : ℕ) (site : Site) (answers : Answers) (x : Slot) (r : Request)
    → close_slot_next slot site [] answers x ≡ Ask r → is_close r ≡ true
close_asks slot site answers Empty r e = absurd cc
close_asks slot site answers (File file) r e = by_others (has_grant (with_slot site slot Empty) file.grant) e
  where
    by_others : (b : Bool) → (if b then Done outcome.Done (with_slot site slot Empty) else
        Ask (request.Close (handle_of (answers file.grant)))) ≡ Ask r → is_close r ≡ true
    by_others true e = absurd cc
    by_others false e = (let same : request.Close (handle_of (answers file.grant)) ≡ r = cc in ap is_close (sym same))
close_asks slot site answers (Buffered file buffer) r e = by_others (has_grant (with_slot site slot Empty) file.grant) e
  where
    by_others : (b : Bool) → (if b then Done outcome.Done (with_slot site slot Empty) else
        Ask (request.Close (handle_of (answers file.grant)))) ≡ Ask r → is_close r ≡ true
    by_others true e = absurd cc
    by_others false e = (let same : request.Close (handle_of (answers file.grant)) ≡ r = cc in ap is_close (sym same))

-- what a call holds it goes on to hold behind its request, but for the grant whose CLOSE it is
call_holds : (c : Option Call) (site : Site) (facts : Facts) (mine : Own) (answers : Answers) (r : Request)
    (new : ℕ × Request) (gone : List (Option ℕ)) (q : ℕ) → move_at c site facts mine answers ≡ Some (Ask r)
    → is_one_of (with_closed (is_close r) (closed_by c site) gone) q ≡ false → has_grant (held_by c mine site) q ≡ true
    → has_grant (held_by c (mine ++ new ∷ []) site) q ≡ true
call_holds None site facts mine answers r new gone q is unclosed h = h
call_holds (Some (call.Close slot)) site facts [] answers r new gone q is unclosed h =
    let asks : close_slot_next slot site [] answers (slot_at site slot) ≡ Ask r = cc is in
    let close : is_close r ≡ true = close_asks slot site answers (slot_at site slot) r asks in
    let other : is_one_of (grant_of (slot_at site slot) ∷ gone) q ≡ false =
    ap (λ b. is_one_of (with_closed b (grant_of (slot_at site slot)) gone) q) (sym close) ∙ unclosed in
    emptied q site.slots slot (has_own (slot_at site slot) q ∙ first_out (is_at (grant_of (slot_at site slot)) q)
    (is_one_of gone q) other) h
  where
    first_out : (a b : Bool) → (a || b) ≡ false → a ≡ false
    first_out true b e = absurd cc
    first_out false b e = refl
call_holds (Some (call.Close slot)) site facts (a ∷ later) answers r new gone q is unclosed h = h
call_holds (Some other) site facts mine answers r new gone q is unclosed h = h

-- the move of the lane
asked_move : (s : Setting) (past : List Entry) (lane id : ℕ) (r : Request)
    → IsJournal s (own_request past lane id r ∷ past) → move_of s past lane ≡ Some (Ask r)
asked_move s past lane id r j = (next_submit s past lane (count_ended past lane) id r j.0).1

-- the lane holds its other grants as before
pub ask_holder : (s : Setting) (past : List Entry) (lane id q : ℕ) (r : Request)
    → IsJournal s (own_request past lane id r ∷ past) → is_grant past q ≡ true
    → is_one_of (closed_grants s (own_request past lane id r ∷ past)) q ≡ false → holds s past q lane ≡ true
    → holds s (own_request past lane id r ∷ past) q lane ≡ true
ask_holder s past lane id q r j granted unclosed h =
    let now : List Entry = own_request past lane id r ∷ past in
    let mine : Own = own past lane (count_ended past lane) in
    let grown : own now lane (count_ended now lane) ≡ mine ++ (count_submitted past, r) ∷ [] =
    own_submit past lane (count_ended past lane) id r in
    let asker : is_unended_asker now lane q ≡ is_unended_asker past lane q =
    asker_stays past (owner.Call lane (count_ended past lane)) id r q lane granted in
    elim (or_cases (has_grant (held_site s past lane) q) (is_unended_asker past lane q) h) [
      | inl has ↦ or_left (has_grant (held_site s now lane) q) _
          (ap (λ (o : Own). has_grant (held_by (current s past lane) o (site_of s past lane)) q) grown
          ∙ call_holds (current s past lane) (site_of s past lane) s.facts mine (answer past) r
          (count_submitted past, r)
          (closed_grants s past) q (asked_move s past lane id r j) unclosed has)
      | inr asks ↦ or_right (has_grant (held_site s now lane) q) _ (asker ∙ asks)
    ]

-- ---- what is due

-- behind the lane's request nothing is due, where nothing was before
pub ask_dues : (s : Setting) (past : List Entry) (lane id : ℕ) (r : Request)
    → IsJournal s (own_request past lane id r ∷ past) → AreDueGrants s past []
    → AreDueGrants s (own_request past lane id r ∷ past) []
ask_dues s past lane id r j d =
    record {
      each = λ g granted unclosed out.
          (let who = any_where (holds s past g) (length s.lanes) (d.each g granted
          (still_unclosed s past lane id g r unclosed) refl) in
          any_passes (holds s (own_request past lane id r ∷ past) g) (length s.lanes) who.0 who.1.0
          (elim (eqb_tells lane who.0) [
            | inl t ↦ subst (λ (n : ℕ). holds s (own_request past lane id r ∷ past) g n ≡ true) t.1
                (ask_holder s past lane id g r j granted unclosed (subst (λ (n : ℕ). holds s past g n ≡ true) (sym t.1)
                who.1.1))
            | inr t ↦ other_holder s past (owner.Call lane (count_ended past lane)) id r g who.0
                (not_by lane who.0 (count_ended past lane) (count_ended past who.0) t.1) granted ∙ who.1.1
          ]));
      unheld = tt;
      rising = tt;
    }

-- ---- the grants that are left

-- all, behind a plain request
pub plain_left : (s : Setting) (past : List Entry) (lane id : ℕ) (r : Request) (ts : List Ticketed) (gs : List Held)
    → IsJournal s (own_request past lane id r ∷ past) → is_close r ≡ false → LaneHolds s past lane ts gs []
    → GrantsLeft s past (own_request past lane id r) lane gs gs [] []
plain_left s past lane id r ts gs j plain h =
    let same : closed_grants s (own_request past lane id r ∷ past) ≡ closed_grants s past =
    closed_plain s past lane id r plain in
    let unclosed : (q : ℕ) → is_in q (grant_places gs) ≡ true →
    is_one_of (closed_grants s (own_request past lane id r ∷ past)) q ≡ false = λ q e. ap (λ c. is_one_of c q) same
    ∙ (h.holding q e).1.0 in
    record {
      held = h.held;
      held_of = h.held_of;
      held_rise = h.held_rise;
      some = λ q e. e;
      gone = λ q out e. out;
      unclosed = unclosed;
      less = λ q e. still_unclosed s past lane id q r e;
      holder = λ q e granted out was. ask_holder s past lane id q r j granted (unclosed q e) (was refl);
    }

-- all but its own, behind the CLOSE of a grant
pub close_left : (s : Setting) (past : List Entry) (lane id g k : ℕ) (r : Request) (ts : List Ticketed) (gs : List Held)
    → IsJournal s (own_request past lane id r ∷ past) → closed_grants s (own_request past lane id r ∷ past)
    ≡ Some g ∷ closed_grants s past
    → LaneHolds s past lane ts gs [] → slice_get (grant_places gs) k ≡ Some g
    → GrantsLeft s past (own_request past lane id r) lane gs (without_index k gs) [] []
close_left s past lane id g k r ts gs j more h at_k =
    let ps : List ℕ = grant_places gs in
    let left : grant_places (without_index k gs) ≡ without_index k ps = grant_without gs k in
    let had : (q : ℕ) → is_in q (grant_places (without_index k gs)) ≡ true → is_in q ps ≡ true =
    λ q e. in_left ps k q (ap (is_in q) (sym left) ∙ e) in
    let not_it : (q : ℕ) → is_in q (grant_places (without_index k gs)) ≡ true → q ≢ g = λ q e same.
    (let clash : false ≡ true = sym (without_self ps k g h.held_rise at_k)
    ∙ (ap (is_in g) (sym left) ∙ (ap (λ (n : ℕ). is_in n (grant_places (without_index k gs))) (sym same) ∙ e)) in
    absurd cc) in
    let unclosed : (q : ℕ) → is_in q (grant_places (without_index k gs)) ≡ true
    → is_one_of (closed_grants s (own_request past lane id r ∷ past)) q ≡ false = λ q e.
    ap (λ c. is_one_of c q) more ∙ one_more g q (closed_grants s past) (not_it q e) (h.holding q (had q e)).1.0 in
    record {
      held = held_without past gs k h.held;
      held_of = subst (λ (x : List ℕ). AllOf past lane x) (sym left) (of_without past lane ps k h.held_of);
      held_rise = subst (λ (x : List ℕ). IsRising x) (sym left) (without_rising ps k h.held_rise);
      some = had;
      gone = λ q out e. sym (without_other ps k g q at_k (one_less g q (closed_grants s past)
          (ap (λ c. is_one_of c q) (sym more) ∙ e)).0) ∙ (ap (is_in q) (sym left) ∙ out);
      unclosed = unclosed;
      less = λ q e. still_unclosed s past lane id q r e;
      holder = λ q e granted out was. ask_holder s past lane id q r j granted (unclosed q e) (was refl);
    }
