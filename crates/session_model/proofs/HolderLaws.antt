-- What holds a grant held it before: a lane's slots have only what a call of this lane asked for.
use Rattle.std.proofs.Common.{
  append_assoc,
  ◌≡◌,
  ◌≢◌,
  ◌<◌,
  ◌==◌,
  ℕ,
  ◌+◌,
  zero,
  suc,
  Bool,
  true,
  false,
  List,
  [],
  ◌∷◌,
  ◌++◌,
  Option,
  Some,
  None,
  refl,
  ap,
  sym,
  ◌∙◌,
  subst,
  arith,
  if◌then◌else◌,
  inl,
  inr,
}
use Rattle.std.specs.Prelude.{◌||◌, ◌⊎◌, slice_get, MatchOption}
use Rattle.std.proofs.lemmas.Bool.{eq-eqb, eqb-true, and_parts, or_cases, or_left, or_right, both_ways}
use Rattle.std.proofs.lemmas.Bool.Decides.{eqb_tells}
use Rattle.std.proofs.lemmas.List.Folds.{list_any-append}
use Rattle.sftp_model.specs.declared.outcome.Outcome.{Outcome}
use Rattle.sftp_model.specs.declared.request.Request.{Request}
use Rattle.sftp_model.specs.declared.slot.Facts.{Facts}
use Rattle.sftp_model.specs.declared.slot.Move.{Move}
use Rattle.sftp_model.specs.declared.slot.Move.TheVariants.{Done}
use Rattle.sftp_model.specs.declared.slot.Site.{Site}
use Rattle.sftp_model.specs.Slots.{fresh_site, has_grant}
use Rattle.plan_model.specs.Moves.{Answers, Own}
use Rattle.plan_model.specs.GoodMoves.{IsBrought}
use Rattle.plan_model.specs.declared.call.Call.{Call}
use Rattle.session_model.specs.declared.event.Owner.{Owner}
use Rattle.session_model.specs.declared.event.Owner.TheVariants as owner
use Rattle.session_model.specs.declared.event.Event.TheVariants.{Submit, Take, Cancel, End}
use Rattle.session_model.specs.declared.entry.Entry.{Entry}
use Rattle.session_model.specs.declared.entry.Entry.TheVariants as entry
use Rattle.session_model.specs.Readings.{AskedRequest, count_submitted, asked_at, answer, is_by, own, count_ended, last_cancel}
use Rattle.session_model.specs.Calls.{Setting, calls_added_to, calls_of, call_at, current, left_by, site_of, site_left, held_by, held_site, move_at, move_of}
use Rattle.session_model.specs.Grants.{is_granted, is_grant, is_asked_by, is_unended_asker, holds, next_due}
use Rattle.session_model.specs.Journals.{IsJournal, IsNext, MayCome, MustClose, cancelled_end}
use Rattle.session_model.proofs.CallLaws.{next_by, next_take, has_place, asker_owns, own_fresh, ended_end, site_end}
use Rattle.session_model.proofs.LetGoLaws.{granted_below}
use Rattle.session_model.proofs.PlannedLaws.{held_less, held_more, done_has, cancelled_has}
use Rattle.session_model.proofs.RequestLaws.{asked_beyond, asked_other, answer_other}
use Rattle.plan_model.specs.CallPlans.{next}

-- ---- what stands within a call

pub got_more : (xs ys : List Call) (n : ℕ) → (slice_get (xs ++ ys) n ≡ slice_get xs n) ⊎ (slice_get xs n ≡ None)
got_more [] ys n = inr refl
got_more (x ∷ xs) ys zero = inl refl
got_more (x ∷ xs) ys (suc n) = got_more xs ys n

-- nor with one call more
held_added : (xs ys : List Call) (c : Call) (b : Bool) (n : ℕ) (own : Own) (site : Site) (g : ℕ)
    → has_grant (held_by (slice_get (xs ++ (if b then ys ++ c ∷ [] else ys)) n) own site) g ≡ true
    → has_grant (held_by (slice_get (xs ++ ys) n) own site) g ≡ true
held_added xs ys c false n own site g e = e
held_added xs ys c true n own site g e =
    elim (got_more (xs ++ ys) (c ∷ []) n) [
      | inl same ↦ subst (λ (x : Option Call). has_grant (held_by x own site) g ≡ true)
          (ap (λ calls. slice_get calls n) (sym (append_assoc xs ys (c ∷ []))) ∙ same) e
      | inr none ↦ rw none (held_less (slice_get (xs ++ (ys ++ c ∷ [])) n) own site g e)
    ]

-- nor where it was let go
held_let_go : (c : Option Call) (own : Own) (site : Site) (b : Bool) (g : ℕ)
    → has_grant (held_by c own (if b then record { slots = fresh_site.slots; directory = site.directory } else site)) g
    ≡ true → has_grant (held_by c own site) g ≡ true
held_let_go c own site false g e = e
held_let_go c own site true g e = absurd (let none : has_grant fresh_site g ≡ true =
    held_less c own (record { slots = fresh_site.slots; directory = site.directory }) g e in cc)

-- ---- what the end of a call leaves

-- the move ends the call, unless the call is cancelled
abbrev Ends : Option ℕ → Option Move → Type 0
Ends cancel m = MatchOption cancel ((o : Outcome) × ((left : Site) × (m ≡ Some (Done o left)))) (λ lane. Unit {0})

left_has : (c : Option Call) (cancel : Option ℕ) (site : Site) (facts : Facts) (own : Own) (answers : Answers) (g : ℕ)
    → Ends cancel (move_at c site facts own answers)
    → has_grant (site_left c cancel site facts own answers) g ≡ true → (has_grant (held_by c own site) g ≡ true)
    ⊎ IsBrought own answers g
left_has None cancel site facts own answers g ends h = inl h
left_has (Some c) (Some lane) site facts own answers g ends h = inl (cancelled_has c site facts own answers g h)
left_has (Some c) None site facts own answers g ends h =
    let is : next c site facts own answers ≡ Done ends.0 ends.1.0 = cc (ends.1.1) in
    done_has c site facts own answers g ends.0 ends.1.0 is (ap (λ m. has_grant (left_by m site) g) (sym is) ∙ h)

-- ---- ends

-- what may come came, unless a CLOSE was due or the end of a cancelled call
pub may_of : (s : Setting) (past : List Entry) (e : Entry) → IsNext s past e → ((g : ℕ) → MustClose past g e → ⊥)
    → ((lane : ℕ) → e ≡ cancelled_end past lane → ⊥) → MayCome s past e
may_of s past e next no_close no_end = next_by (last_cancel past) (next_due s past) (MayCome s past e)
    (λ g. MustClose past g e) (λ lane. e ≡ cancelled_end past lane) next no_close no_end

cancelled_call : (s : Setting) (past : List Entry) (lane : ℕ) → IsJournal s past → last_cancel past ≡ Some lane
    → current s past lane ≢ None
cancelled_call s [] lane j e = absurd cc
cancelled_call s (entry.Event (Cancel l) ∷ past) lane j e =
    let may = may_of s past (entry.Event (Cancel l)) j.0 (λ g m. cc (m.1.1)) (λ k same. cc same) in
    let same : l ≡ lane = cc in
    subst (λ (k : ℕ). current s past k ≢ None) same may.0
cancelled_call s (_ ∷ past) lane j e = absurd cc

-- an end that may come is that of its lane's call, which ends by its plan or is cancelled
pub record IsEnding (s : Setting) (past : List Entry) (lane call : ℕ) : Type 0 where
  pub at : call ≡ count_ended past lane
  pub some : current s past lane ≢ None
  pub ends : Ends (last_cancel past) (move_of s past lane)

pub ending : (s : Setting) (past : List Entry) (lane call : ℕ) (o : Outcome)
    → IsJournal s (entry.Event (End lane call o) ∷ past) → IsEnding s past lane call
ending s past lane call o j = by_due (last_cancel past) (next_due s past) refl j.0
  where
    e : Entry
    e = entry.Event (End lane call o)

    by_due : (c g : Option ℕ) → last_cancel past ≡ c → MatchOption c
        (MatchOption g (MayCome s past e) (λ grant. MustClose past grant e)) (λ l. e ≡ cancelled_end past l)
        → IsEnding s past lane call
    by_due (Some l) g is h =
        let same : lane ≡ l = cc in
        record {
          at = cc;
          some = subst (λ (k : ℕ). current s past k ≢ None) (sym same) (cancelled_call s past l j.1 is);
          ends = subst (λ c. Ends c (move_of s past lane)) (sym is) tt;
        }
    by_due None (Some g) is m = absurd (cc (m.1.1))
    by_due None None is may =
        record {
          at = may.0;
          some = λ none. let gone : move_of s past lane ≡ None = ap
              (λ c. move_at c (site_of s past lane) s.facts (own past lane (count_ended past lane)) (answer past)) none
              in
              cc (may.1.1);
          ends = subst (λ c. Ends c (move_of s past lane)) (sym is) (o, may.1);
        }

ended_has : (s : Setting) (past : List Entry) (lane call : ℕ) (o : Outcome) (g : ℕ)
    → IsJournal s (entry.Event (End lane call o) ∷ past) → has_grant
    (site_of s (entry.Event (End lane call o) ∷ past) lane) g ≡ true
    → (has_grant (held_site s past lane) g ≡ true) ⊎ IsBrought (own past lane (count_ended past lane)) (answer past) g
ended_has s past lane call o g j h =
    let e : IsEnding s past lane call = ending s past lane call o j in
    left_has (current s past lane) (last_cancel past) (site_of s past lane) s.facts
    (own past lane (count_ended past lane)) (answer past) g e.ends
    (subst (λ (n : ℕ). has_grant (site_left (call_at s past lane n) (last_cancel past) (site_of s past lane) s.facts
    (own past lane n) (answer past)) g ≡ true) e.at
    (ap (λ x. has_grant x g) (sym (site_end s past lane call o)) ∙ h))

-- ---- askers

asked_one : (a : Option AskedRequest) (l m c d : ℕ) → is_asked_by a l c ≡ true → is_asked_by a m d ≡ true → (l ≡ m)
    × (c ≡ d)
asked_one None l m c d e f = absurd cc
asked_one (Some a) l m c d e f = by_owner a.by e f
  where
    by_owner : (o : Owner) → is_by o l c ≡ true → is_by o m d ≡ true → (l ≡ m) × (c ≡ d)
    by_owner (owner.Call x y) first second =
        let p = and_parts (x == l) (y == c) first in
        let q = and_parts (x == m) (y == d) second in (
          sym (eqb-true x l p.0) ∙ eqb-true x m q.0,
          sym (eqb-true y c p.1) ∙ eqb-true y d q.1,
        )
    by_owner owner.Setup first second = absurd cc
    by_owner owner.Close first second = absurd cc

new_by : (past : List Entry) (before : Own) (lane call place : ℕ) (r : Request) (b : Bool) → place
    ≡ count_submitted past
    → (has_place before place ≡ true → is_asked_by (asked_at past place) lane call ≡ true)
    → has_place (if b then before ++ (count_submitted past, r) ∷ [] else before) place ≡ true → b ≡ true
new_by past before lane call place r true same old h = refl
new_by past before lane call place r false same old h =
    let none : asked_at past place ≡ None = asked_beyond past place (omega arith) in
    absurd (let clash : false ≡ true = rw none at (old h) in cc)

old_by : (before : Own) (n place : ℕ) (r : Request) (b : Bool) → n ≢ place
    → has_place (if b then before ++ (n, r) ∷ [] else before) place ≡ true → has_place before place ≡ true
old_by before n place r false ne h = h
old_by before n place r true ne h =
    elim (or_cases (has_place before place) ((n == place) || false)
    (sym (list_any-append (λ (a : ℕ × Request). a.0 == place) before ((n, r) ∷ [])) ∙ h)) [
      | inl old ↦ old
      | inr new ↦ elim (or_cases (n == place) false new) [
        | inl is ↦ absurd (ne (eqb-true n place is))
        | inr no_way ↦
            absurd cc
      ]
    ]

-- a call asked for what is among its own
pub own_asked : (past : List Entry) (lane call place : ℕ) → has_place (own past lane call) place ≡ true
    → is_asked_by (asked_at past place) lane call ≡ true
own_asked [] lane call place e = absurd cc
own_asked (entry.Event (Submit by i r) ∷ past) lane call place e =
    elim (eqb_tells place (count_submitted past)) [
      | inl t ↦ rw t.0 (new_by past (own past lane call) lane call place r (is_by by lane call) t.1
          (own_asked past lane call place) e)
      | inr t ↦ rw t.0 (own_asked past lane call place (old_by (own past lane call) (count_submitted past) place r
          (is_by by lane call) (λ same. t.1 (sym same)) e))
    ]
own_asked (_ ∷ past) lane call place e = own_asked past lane call place e

first_asked : (past : List Entry) (lane call place : ℕ) → IsBrought (own past lane call) (answer past) place
    → is_asked_by (asked_at past place) lane call ≡ true
first_asked past lane call place b =
    own_asked past lane call place (ap (λ (o : Own). has_place o place) b.first
    ∙ or_left (place == place) _ (eq-eqb place place refl))

-- ---- grants

-- a grant stays one
pub grant_stays : (s : Setting) (past : List Entry) (e : Entry) (g : ℕ) → IsJournal s (e ∷ past) → is_grant past g
    ≡ true → is_grant (e ∷ past) g ≡ true
grant_stays s past (entry.Event (Take id r)) g j granted =
    let may = (next_take s past id r j.0).0 in
    elim (eqb_tells may.0 g) [
      | inl t ↦ absurd (let none : is_grant past g ≡ false = ap is_granted (ap (answer past) (sym t.1) ∙ may.1.0.2) in
          both_ways _ none granted)
      | inr t ↦ ap is_granted (answer_other past id may.0 g r may.1.0.0 t.1) ∙ granted
    ]
grant_stays s past _ g j granted = granted

-- a call of the lane that has ended asked for the grant
abbrev pub IsOwned : List Entry → ℕ → ℕ → Type 0
IsOwned past lane g = (is_grant past g ≡ true) × ((call : ℕ)
    × ((call < count_ended past lane) × (is_asked_by (asked_at past g) lane call ≡ true)))

-- the grants of a lane's slots are its own
pub slots_owned : (s : Setting) (past : List Entry) (lane g : ℕ) → IsJournal s past → has_grant (site_of s past lane) g
    ≡ true → IsOwned past lane g
slots_owned s [] lane g j h = absurd cc
slots_owned s (entry.Event (Submit by id r) ∷ past) lane g j h =
    let old = slots_owned s past lane g j.1 h in (
      old.0,
      (
        old.1.0,
        (
          old.1.1.0,
          ap (λ a. is_asked_by a lane old.1.0)
              (asked_other past by id g r (granted_below past g old.0)) ∙ old.1.1.1,
        ),
      ),
    )
slots_owned s (entry.Event (Take id r) ∷ past) lane g j h =
    let old = slots_owned s past lane g j.1 h in (grant_stays s past (entry.Event (Take id r)) g j old.0, old.1)
slots_owned s (entry.Event (End l c o) ∷ past) lane g j h =
    elim (eqb_tells l lane) [
      | inl t ↦ subst (λ (k : ℕ). has_grant (site_of s (entry.Event (End l c o) ∷ past) k) g ≡ true
          → IsOwned (entry.Event (End l c o) ∷ past) k g) t.1
          (λ left. let more : count_ended (entry.Event (End l c o) ∷ past) l ≡ count_ended past l + 1 =
          ended_end past l c o in
          elim (ended_has s past l c o g j left) [
            | inl held ↦ (let old = slots_owned s past l g j.1 (held_less (current s past l)
                (own past l (count_ended past l)) (site_of s past l) g held) in
                let before : old.1.0 < count_ended past l = old.1.1.0 in (old.0, (old.1.0, (omega arith, old.1.1.1))))
            | inr new ↦ (
              ap is_granted new.came,
              (
                count_ended past l,
                (omega arith, first_asked past l (count_ended past l) g new),
              ),
            )
          ]) h
      | inr t ↦ rw t.0 (slots_owned s past lane g j.1 (rw t.0 at h))
    ]
slots_owned s (entry.LetGo l ∷ past) lane g j h =
    elim (eqb_tells l lane) [
      | inl t ↦ absurd (let none : false ≡ true = rw t.0 at h in cc)
      | inr t ↦
          slots_owned s past lane g j.1 (rw t.0 at h)
    ]
slots_owned s (_ ∷ past) lane g j h = slots_owned s past lane g j.1 h

-- ---- holders

-- what a call of a lane asked for that has ended is held by this lane's slots alone
pub held_only : (s : Setting) (past : List Entry) (lane w g : ℕ) → IsJournal s past → IsOwned past lane g
    → holds s past g w ≡ true → (w ≡ lane) × (has_grant (held_site s past w) g ≡ true)
held_only s past lane w g j o h =
    elim (or_cases (has_grant (held_site s past w) g) (is_unended_asker past w g) h) [
      | inl has ↦ (let mine = slots_owned s past w g j (held_less (current s past w) (own past w (count_ended past w))
          (site_of s past w) g has) in
          ((asked_one (asked_at past g) w lane mine.1.0 o.1.0 mine.1.1.1 o.1.1.1).0, has))
      | inr asks ↦ (let same = asked_one (asked_at past g) w lane (count_ended past w) o.1.0 asks o.1.1.1 in
          let before : o.1.0 < count_ended past lane = o.1.1.0 in let is : count_ended past w ≡ count_ended past lane =
          ap (count_ended past) same.0 in let now : count_ended past w ≡ o.1.0 = same.1 in absurd (omega arith))
    ]

either_on : (a b c : Bool) → (a ≡ true → c ≡ true) → (a || b) ≡ true → (c || b) ≡ true
either_on true b c on h = rw (on refl) refl
either_on false b c on h = or_right c b h

end_back : (s : Setting) (past : List Entry) (lane call : ℕ) (o : Outcome) (g : ℕ)
    → IsJournal s (entry.Event (End lane call o) ∷ past) → holds s (entry.Event (End lane call o) ∷ past) g lane ≡ true
    → holds s past g lane ≡ true
end_back s past lane call o g j h =
    let now : List Entry = entry.Event (End lane call o) ∷ past in
    elim (or_cases (has_grant (held_site s now lane) g) (is_unended_asker now lane g) h) [
      | inl has ↦ elim (ended_has s past lane call o g j (held_less (current s now lane)
          (own now lane (count_ended now lane)) (site_of s now lane) g has)) [
            | inl held ↦ or_left (has_grant (held_site s past lane) g) (is_unended_asker past lane g) held
            | inr new ↦ or_right (has_grant (held_site s past lane) g) (is_unended_asker past lane g)
                (first_asked past lane (count_ended past lane) g new)
          ]
      | inr asks ↦ absurd (let mine : has_place (own past lane (count_ended past lane + 1)) g ≡ true =
          asker_owns past lane (count_ended past lane + 1) g (ap (λ n. is_asked_by (asked_at past g) lane n)
          (sym (ended_end past lane call o)) ∙ asks) in
          let none : own past lane (count_ended past lane + 1) ≡ [] =
          own_fresh s past lane (count_ended past lane + 1) j.1 (omega arith) in
          let clash : false ≡ true = rw none at mine in cc)
    ]

-- what holds a grant held it before
pub holds_back : (s : Setting) (past : List Entry) (e : Entry) (g w : ℕ) → IsJournal s (e ∷ past) → is_grant past g
    ≡ true → holds s (e ∷ past) g w ≡ true → holds s past g w ≡ true
holds_back s past (entry.Event (Submit by id r)) g w j granted h =
    let now : List Entry = entry.Event (Submit by id r) ∷ past in
    either_on (has_grant (held_site s now w) g) (is_unended_asker past w g) (has_grant (held_site s past w) g)
    (held_more (current s past w) (is_by by w (count_ended past w)) (own past w (count_ended past w))
    (count_submitted past, r) (site_of s past w) g)
    (ap (λ a. has_grant (held_site s now w) g || is_asked_by a w (count_ended past w))
    (sym (asked_other past by id g r (granted_below past g granted))) ∙ h)
holds_back s past (entry.Event (End l c o)) g w j granted h =
    elim (eqb_tells l w) [
      | inl t ↦ subst (λ (k : ℕ). holds s (entry.Event (End l c o) ∷ past) g k ≡ true → holds s past g k ≡ true) t.1
          (end_back s past l c o g j) h
      | inr t ↦ rw t.0 at h
    ]
holds_back s past (entry.Added l c) g w j granted h =
    either_on (has_grant (held_site s (entry.Added l c ∷ past) w) g) (is_unended_asker past w g)
    (has_grant (held_site s past w) g)
    (held_added (calls_of (slice_get s.lanes w)) (calls_added_to past w) c (l == w) (count_ended past w)
    (own past w (count_ended past w)) (site_of s past w) g) h
holds_back s past (entry.LetGo l) g w j granted h =
    either_on (has_grant (held_site s (entry.LetGo l ∷ past) w) g) (is_unended_asker past w g)
    (has_grant (held_site s past w) g)
    (held_let_go (current s past w) (own past w (count_ended past w)) (site_of s past w) (l == w) g) h
holds_back s past _ g w j granted h = h
