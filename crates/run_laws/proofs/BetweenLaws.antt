-- What a lane's slot holds across calls that leave it.
use Rattle.std.proofs.Common.{
  ◌≡◌,
  ◌≢◌,
  ◌<◌,
  ◌≤◌,
  ◌+◌,
  ℕ,
  zero,
  suc,
  Bool,
  true,
  false,
  List,
  [],
  ◌∷◌,
  ◌++◌,
  Option,
  Some,
  None,
  refl,
  ap,
  sym,
  ◌∙◌,
  subst,
  arith,
  inl,
  inr,
}
use Rattle.std.specs.Prelude.{slice_get}
use Rattle.std.proofs.lemmas.Bool.{both_ways}
use Rattle.std.proofs.lemmas.Bool.Decides.{eqb_tells}
use Rattle.std.proofs.lemmas.List.{get_or-set_other}
use Rattle.sftp_model.specs.declared.outcome.Outcome.{Outcome}
use Rattle.run_laws.proofs.CallEnds.{EndsAt}
use Rattle.sftp_model.specs.Slots.{slot_at}
use Rattle.sftp_model.specs.declared.slot.Facts.{Facts}
use Rattle.sftp_model.specs.declared.slot.Site.{Site}
use Rattle.sftp_model.specs.declared.slot.Slot.TheVariants.{Empty}
use Rattle.plan_model.specs.Moves.{Answers, Own}
use Rattle.plan_model.specs.declared.call.Call.{Call}
use Rattle.plan_model.specs.declared.call.Call.TheVariants as call
use Rattle.session_model.specs.declared.entry.Entry.{Entry}
use Rattle.session_model.specs.declared.entry.Entry.TheVariants as entry
use Rattle.session_model.specs.declared.event.Event.TheVariants.{End}
use Rattle.session_model.specs.Calls.{Setting, call_at, calls_of, current, site_left, site_of}
use Rattle.session_model.specs.Journals.{IsJournal, MayCome}
use Rattle.session_model.specs.Readings.{answer, count_ended, last_cancel, own}
use Rattle.session_model.proofs.CallLaws.{end_site, ended_end, site_end}
use Rattle.session_model.proofs.HolderLaws.{IsEnding, ending, may_of}
use Rattle.run_laws.specs.SlotCalls.{leaves_slot}
use Rattle.run_laws.proofs.CallMoves.{IsKeptBy}
use Rattle.run_laws.proofs.CallSites.{given_call, plain_call}
use Rattle.run_laws.proofs.JournalCalls.{ended_grows}
use Rattle.run_laws.proofs.LaneCalls.{end_left}
use Rattle.run_laws.proofs.OffRequests.{is_still}
use Rattle.run_laws.proofs.PlainRuns.{IsPlain, plain_calls}

-- ---- one call

-- the slot has what it has on another site
abbrev HasSlotOf : Site → ℕ → Site → Type 0
HasSlotOf site slot x = slot_at x slot ≡ slot_at site slot

kept_there : (site : Site) (slot : ℕ) (c : Call) → leaves_slot slot c ≡ true → IsKeptBy (HasSlotOf site slot) c
kept_there site slot c leaves k names x y b = get_or-set_other x.slots k slot y Empty apart ∙ b
  where
    apart : slot ≢ k
    apart same = both_ways (leaves_slot slot c) (subst (λ (n : ℕ). leaves_slot n c ≡ false) (sym same) names) leaves

-- the end of a call that leaves the slot
slot_left : (slot : ℕ) (c : Call) (cancel : Option ℕ) (site : Site) (facts : Facts) (own : Own) (answers : Answers)
    → leaves_slot slot c ≡ true → HasSlotOf site slot (site_left (Some c) cancel site facts own answers)
slot_left slot c cancel site facts own answers leaves = by_kind (is_still c) refl
  where
    moved : (path : List ℕ) (o : Option ℕ) → HasSlotOf site slot
        (site_left (Some (call.Cwd path)) o site facts own answers)
    moved path None = refl
    moved path (Some lane) = refl

    changes : (d : Call) → is_still d ≡ false → HasSlotOf site slot (site_left (Some d) cancel site facts own answers)
    changes (call.Cwd path) e = moved path cancel
    changes other e = absurd cc

    by_kind : (b : Bool) → is_still c ≡ b → HasSlotOf site slot (site_left (Some c) cancel site facts own answers)
    by_kind true still = end_left (HasSlotOf site slot) c cancel site facts own answers still
        (kept_there site slot c leaves) refl
    by_kind false still = changes c still

-- ---- a lane

there_below : (calls : List Call) (n m : ℕ) (c : Call) → n ≤ m → slice_get calls m ≡ Some c → (d : Call)
    × (slice_get calls n ≡ Some d)
there_below [] n m c le is = absurd cc
there_below (d ∷ calls) zero m c le is = (d, refl)
there_below (d ∷ calls) (suc n) zero c le is = absurd (omega (arith, le))
there_below (d ∷ calls) (suc n) (suc m) c le is = there_below calls n m c (omega (arith, le)) is

given_of : (s : Setting) (past : List Entry) (lane n : ℕ) (c : Call) → IsPlain past → call_at s past lane n ≡ Some c
    → given_call s lane n ≡ Some c
given_of s past lane n c p is = ap (λ (calls : List Call). slice_get calls n) (sym (plain_calls s past lane p)) ∙ is

-- the calls of a lane from a journal on and before a number leave the slot
abbrev pub LeaveSlot : Setting → ℕ → ℕ → ℕ → ℕ → Type 0
LeaveSlot s lane slot from m = (n : ℕ) (d : Call) → from ≤ n → n < m → given_call s lane n ≡ Some d → leaves_slot slot d
    ≡ true

-- so the slot holds what it held, until a later call begins
pub slot_stays : (s : Setting) (more before : List Entry) (lane slot m : ℕ) (c : Call) → IsJournal s (more ++ before)
    → IsPlain (more ++ before) → count_ended (more ++ before) lane ≤ m → given_call s lane m ≡ Some c
    → LeaveSlot s lane slot (count_ended before lane) m
    → HasSlotOf (site_of s before lane) slot (site_of s (more ++ before) lane)
slot_stays s [] before lane slot m c j p le is leaves = refl
slot_stays s (entry.Event (End l k o) ∷ more) before lane slot m c j p le is leaves =
    elim (eqb_tells l lane) [
      | inl t ↦ subst (λ (x : ℕ). HasSlotOf (site_of s before lane) slot
          (site_of s (entry.Event (End x k o) ∷ more ++ before) lane)) (sym t.1)
          (at_end (rw t.0 at le) (subst (λ (x : ℕ). IsJournal s (entry.Event (End x k o) ∷ more ++ before)) t.1 j)
          (λ lt. slot_stays s more before lane slot m c j.1 p lt is leaves))
      | inr t ↦ rw t.0 (slot_stays s more before lane slot m c j.1 p (rw t.0 at le) is leaves)
    ]
  where
    past : List Entry
    past = more ++ before

    at_end : count_ended past lane + 1 ≤ m → IsJournal s (entry.Event (End lane k o) ∷ past)
        → (count_ended past lane ≤ m → HasSlotOf (site_of s before lane) slot (site_of s past lane))
        → HasSlotOf (site_of s before lane) slot (site_of s (entry.Event (End lane k o) ∷ past) lane)
    at_end lt j earlier =
        let e : IsEnding s past lane k = ending s past lane k o j in
        let d = there_below (calls_of (slice_get s.lanes lane)) (count_ended past lane) m c (omega (arith, lt)) is in
        let here : call_at s past lane k ≡ Some d.0 =
        subst (λ (n : ℕ). call_at s past lane n ≡ Some d.0) (sym e.at)
        (plain_call s past lane (count_ended past lane) d.0 p d.1) in
        let grows : count_ended before lane ≤ count_ended past lane = ended_grows more before lane in
        let leaves_it : leaves_slot slot d.0 ≡ true = leaves (count_ended past lane) d.0 grows (omega (arith, lt)) d.1
        in
        let left : HasSlotOf (site_of s past lane) slot (site_left (call_at s past lane k) (last_cancel past)
        (site_of s past lane) s.facts
        (own past lane k) (answer past)) =
        subst (λ (x : Option Call). HasSlotOf (site_of s past lane) slot
        (site_left x (last_cancel past) (site_of s past lane) s.facts
        (own past lane k) (answer past))) (sym here)
        (slot_left slot d.0 (last_cancel past) (site_of s past lane) s.facts (own past lane k) (answer past) leaves_it)
        in
        ap (λ (x : Site). slot_at x slot) (site_end s past lane k o) ∙ (left ∙ earlier (omega (arith, lt)))
slot_stays s (entry.LetGo l ∷ more) before lane slot m c j p le is leaves =
    elim (eqb_tells l lane) [
      | inl t ↦ absurd (gone (subst (λ (x : ℕ). current s past x ≡ None) t.1 may.1))
      | inr t ↦ rw t.0 (slot_stays s more before lane slot m c j.1 p le is leaves)
    ]
  where
    past : List Entry
    past = more ++ before

    may : MayCome s past (entry.LetGo l)
    may = may_of s past (entry.LetGo l) j.0 (λ g m. cc (m.1.1)) (λ la e. cc e)

    gone : current s past lane ≡ None → ⊥
    gone none =
        let d = there_below (calls_of (slice_get s.lanes lane)) (count_ended past lane) m c le is in
        let both : None ≡ Some d.0 = sym none ∙ plain_call s past lane (count_ended past lane) d.0 p d.1 in cc
slot_stays s (entry.Added l d ∷ more) before lane slot m c j p le is leaves = absurd p
slot_stays s (_ ∷ more) before lane slot m c j p le is leaves =
    slot_stays s more before lane slot m c j.1 p le is leaves

-- what a call left in the slot stands there as a later call begins
pub slot_since : (s : Setting) (past : List Entry) (lane slot n m : ℕ) (o : Outcome) (c : Call)
    (t : EndsAt s past lane n o)
    → IsJournal s past → IsPlain past → count_ended past lane ≡ m → given_call s lane m ≡ Some c
    → LeaveSlot s lane slot (n + 1) m → slot_at (site_of s past lane) slot ≡ slot_at t.site slot
slot_since s past lane slot n m o c t j p at is leave =
    let end : Entry = entry.Event (End lane (count_ended t.before lane) o) in
    let count : count_ended (t.more ++ end ∷ t.before) lane ≡ m = ap (λ (l : List Entry). count_ended l lane) t.is ∙ at
    in
    let one : count_ended (end ∷ t.before) lane ≡ count_ended t.before lane + 1 =
    ended_end t.before lane (count_ended t.before lane) o in
    let here : count_ended t.before lane ≡ n = t.at in
    ap (λ (l : List Entry). slot_at (site_of s l lane) slot) (sym t.is)
    ∙ (slot_stays s t.more (end ∷ t.before) lane slot m c (subst (IsJournal s) (sym t.is) j)
    (subst IsPlain (sym t.is) p) (omega (arith, count)) is
    (λ i d above below call_is. leave i d (omega (arith, above, one, here)) below call_is)
    ∙ ap (λ (x : Site). slot_at x slot) (end_site s t.before lane o t.site t.calm t.moves))
