-- When a lane was let go and its grants are closed, no grant at all is to be closed.
use Rattle.std.proofs.Common.{
  ◌≡◌,
  ◌≢◌,
  ◌<◌,
  ◌≤◌,
  ℕ,
  Bool,
  true,
  false,
  List,
  [],
  ◌∷◌,
  Option,
  Some,
  None,
  refl,
  ap,
  sym,
  ◌∙◌,
  subst,
  arith,
  if◌then◌else◌,
  inl,
  inr,
}
use Rattle.std.specs.Prelude.{◌||◌, ◌&&◌, ◌⊎◌, not, length, nat_lt}
use Rattle.std.specs.List.{list_any}
use Rattle.std.proofs.lemmas.Bool.Decides.{nat_tests, eqb_tells}
use Rattle.sftp_model.specs.declared.slot.Slot.{Slot}
use Rattle.sftp_model.specs.declared.slot.Slot.TheVariants.{Empty, File, Buffered}
use Rattle.sftp_model.specs.declared.slot.Site.{Site}
use Rattle.sftp_model.specs.Slots.{grant_of, slot_has, has_grant}
use Rattle.session_model.specs.declared.event.Owner.TheVariants as owner
use Rattle.session_model.specs.declared.entry.Entry.{Entry}
use Rattle.session_model.specs.declared.entry.Entry.TheVariants as entry
use Rattle.session_model.specs.Readings.{count_submitted, asked_at, count_ended, own, is_at}
use Rattle.session_model.specs.Calls.{Setting, current, site_of, held_site, held_by}
use Rattle.session_model.specs.Grants.{
  is_granted,
  is_grant,
  holds,
  is_held,
  is_one_of,
  is_due,
  first_below,
  grant_or,
  first_let_go,
  letting_go,
  next_due_at,
  next_due,
  closes,
  closed_grants,
  is_unended_asker,
  is_asked_by,
  IsSettled,
}
use Rattle.session_model.specs.Journals.{close_of}
use Rattle.session_model.specs.Turns.{ClosesTo}
use Rattle.session_model.proofs.RequestLaws.{asked_beyond, answer_beyond}
use Rattle.session_model.proofs.GrantLaws.{none_below, one_below, below_none, any_passes, any_where}

-- ---- slots

grant_here : (g : ℕ) (slot : Slot) → slot_has g slot ≡ true → grant_of slot ≡ Some g
grant_here g Empty e = absurd cc
grant_here g (File file) e = elim (eqb_tells file.grant g) [
  | inl t ↦ ap (λ (n : ℕ). Some n) t.1
  | inr t ↦
      absurd (let no_way : false ≡ true = rw t.0 at e in cc)
]
grant_here g (Buffered file buffer) e = elim (eqb_tells file.grant g)
    [ inl t ↦ ap (λ (n : ℕ). Some n) t.1 | inr t ↦ absurd (let no_way : false ≡ true = rw t.0 at e in cc) ]

rest_none : (g : Option ℕ) (stays : ℕ → Bool) (rest : Option ℕ) → grant_or g stays rest ≡ None → rest ≡ None
rest_none None stays rest e = e
rest_none (Some g) stays rest e = by_test (stays g) e
  where
    by_test : (b : Bool) → (if b then rest else Some g) ≡ None → rest ≡ None
    by_test true e = e
    by_test false e = absurd cc

stays_here : (g : Option ℕ) (h : ℕ) (stays : ℕ → Bool) (rest : Option ℕ) → g ≡ Some h → grant_or g stays rest ≡ None
    → stays h ≡ true
stays_here None h stays rest is e = absurd cc
stays_here (Some g) h stays rest is e = let same : g ≡ h = cc in ap stays (sym same) ∙ by_test (stays g) e
  where
    by_test : (b : Bool) → (if b then rest else Some g) ≡ None → b ≡ true
    by_test true e = refl
    by_test false e = absurd cc

or_false : (a b : Bool) → a ≡ false → (a || b) ≡ true → b ≡ true
or_false true b e h = absurd cc
or_false false b e h = h

first_of_two : (a b : Bool) → b ≡ false → (a || b) ≡ true → a ≡ true
first_of_two true b e h = refl
first_of_two false b e h = absurd (let t : b ≡ true = h in cc)

abbrev stays_open : List (Option ℕ) → List Slot → ℕ → Bool
stays_open gone slots g = list_any (slot_has g) slots || is_one_of gone g

closed_here : (gone : List (Option ℕ)) (slot : Slot) (slots : List Slot) (g : ℕ) (b : Bool)
    → list_any (slot_has g) slots ≡ b
    → (b ≡ true → is_one_of gone g ≡ true) → grant_or (grant_of slot) (stays_open gone slots) (first_let_go gone slots)
    ≡ None
    → (slot_has g slot || list_any (slot_has g) slots) ≡ true → is_one_of gone g ≡ true
closed_here gone slot slots g true later more e h = more refl
closed_here gone slot slots g false later more e h =
    let here : slot_has g slot ≡ true = first_of_two (slot_has g slot) (list_any (slot_has g) slots) later h in
    or_false (list_any (slot_has g) slots) (is_one_of gone g) later
    (stays_here (grant_of slot) g (stays_open gone slots) (first_let_go gone slots) (grant_here g slot here) e)

-- where none of these slots' grants is to be closed, each of them has a CLOSE
pub slots_closed : (gone : List (Option ℕ)) (slots : List Slot) (g : ℕ) → first_let_go gone slots ≡ None
    → list_any (slot_has g) slots ≡ true → is_one_of gone g ≡ true
slots_closed gone [] g e h = absurd cc
slots_closed gone (slot ∷ slots) g e h =
    closed_here gone slot slots g (list_any (slot_has g) slots) refl
    (slots_closed gone slots g (rest_none (grant_of slot) (stays_open gone slots) (first_let_go gone slots) e)) e h

-- ---- what CLOSEs that the session submits leave as it was

pub record Leaves (s : Setting) (before now : List Entry) : Type 0 where
  pub granted : (k : ℕ) → is_grant now k ≡ is_grant before k
  pub held : (k lane : ℕ) → holds s now k lane ≡ holds s before k lane
  pub gone : (k : ℕ) → is_one_of (closed_grants s before) k ≡ true → is_one_of (closed_grants s now) k ≡ true
  pub letting : letting_go s now ≡ letting_go s before

more_closed : (a : Bool) (b : Bool) → b ≡ true → (a || b) ≡ true
more_closed true b e = refl
more_closed false b e = e

pub close_leaves : (s : Setting) (past : List Entry) (g id : ℕ) → Leaves s past (close_of past g id ∷ past)
close_leaves s past g id =
    record {
      granted = λ k. refl;
      held = λ k lane. elim (eqb_tells k (count_submitted past)) [
        | inl t ↦ (let none : asked_at past k ≡ None = asked_beyond past k
            (let same : k ≡ count_submitted past = t.1 in omega arith) in
            rw t.0 (ap (λ a. has_grant (held_site s past lane) k || is_asked_by a lane (count_ended past lane))
            (sym none)))
        | inr t ↦ rw t.0 refl
      ];
      gone = λ k h. more_closed (is_at (closes s past (closed_grants s past) owner.Close) k)
          (is_one_of (closed_grants s past) k) h;
      letting = refl;
    }

pub leaves_self : (s : Setting) (past : List Entry) → Leaves s past past
leaves_self s past = record { granted = λ k. refl; held = λ k lane. refl; gone = λ k h. h; letting = refl }

leaves_on : (s : Setting) (a b c : List Entry) → Leaves s a b → Leaves s b c → Leaves s a c
leaves_on s a b c p q =
    record {
      granted = λ k. q.granted k ∙ p.granted k;
      held = λ k lane. q.held k lane ∙ p.held k lane;
      gone = λ k h. q.gone k (p.gone k h);
      letting = q.letting ∙ p.letting;
    }

pub closes_leave : (s : Setting) (before now : List Entry) → ClosesTo s before now → Leaves s before now
closes_leave s before [] e = subst (λ (past : List Entry). Leaves s past []) (sym e) (leaves_self s [])
closes_leave s before (e ∷ past) (inl same) = subst (λ (p : List Entry). Leaves s p (e ∷ past)) (sym same)
    (leaves_self s (e ∷ past))
closes_leave s before (e ∷ past) (inr (due, rest)) =
    let more : Leaves s before past = closes_leave s before past rest in
    let last : Leaves s past (close_of past due.0 due.1.1.0 ∷ past) = close_leaves s past due.0 due.1.1.0 in
    subst (λ (x : Entry). Leaves s before (x ∷ past)) (sym due.1.1.1.1)
    (leaves_on s before past (close_of past due.0 due.1.1.0 ∷ past) more last)

-- ---- the letting go

no_next_due : (grant held gone : Bool) → (grant ≡ true → gone ≡ false → held ≡ true) → (grant && not held && not gone)
    ≡ false
no_next_due false held gone h = refl
no_next_due true true gone h = refl
no_next_due true false true h = refl
no_next_due true false false h = absurd (let no_way : false ≡ true = h refl refl in cc)

was_held : (grant held gone : Bool) → (grant && not held && not gone) ≡ false → grant ≡ true → gone ≡ false → held
    ≡ true
was_held false held gone e g c = absurd cc
was_held true true gone e g c = refl
was_held true false true e g c = absurd cc
was_held true false false e g c = absurd cc

-- a lane without a call holds what its slots hold
pub site_held : (s : Setting) (past : List Entry) (lane : ℕ) → current s past lane ≡ None → held_site s past lane
    ≡ site_of s past lane
site_held s past lane e = ap (λ c. held_by c (own past lane (count_ended past lane)) (site_of s past lane)) e

not_gone : (a b : Bool) → (a ≡ true → b ≡ true) → b ≡ false → a ≡ false
not_gone true b h e = absurd (let t : b ≡ true = h refl in cc)
not_gone false b h e = refl

granted_at : (past : List Entry) (k : ℕ) (b : Bool) → nat_lt k (count_submitted past) ≡ b → is_grant past k ≡ true
    → k < count_submitted past
granted_at past k true e h = grind (arith, nat_tests)
granted_at past k false e h =
    let beyond : count_submitted past ≤ k = grind (arith, nat_tests) in
    let none : is_grant past k ≡ false = ap is_granted (answer_beyond past k beyond) in absurd cc

-- a grant is the place of a request that was submitted
pub granted_below : (past : List Entry) (k : ℕ) → is_grant past k ≡ true → k < count_submitted past
granted_below past k h = granted_at past k (nat_lt k (count_submitted past)) refl h

either : (a b : Bool) → (a || b) ≡ true → (a ≡ true) ⊎ (b ≡ true)
either true b e = inl refl
either false b e = inr e

or_right : (a b : Bool) → b ≡ true → (a || b) ≡ true
or_right true b e = refl
or_right false b e = e

or_left : (a b : Bool) → a ≡ true → (a || b) ≡ true
or_left true b e = refl
or_left false b e = absurd cc

by_what : (s : Setting) (past : List Entry) (k who : ℕ) → holds s past k who ≡ true
    → (has_grant (held_site s past who) k ≡ true) ⊎ (is_unended_asker past who k ≡ true)
by_what s past k who held = either (has_grant (held_site s past who) k) (is_unended_asker past who k) held

-- what held a grant holds it on, unless it was a slot that was let go, and then the grant has a CLOSE
held_on : (s : Setting) (past now : List Entry) (lane k who : ℕ) → current s past lane ≡ None
    → first_let_go (closed_grants s now) (site_of s past lane).slots ≡ None
    → is_one_of (closed_grants s now) k ≡ false → holds s past k who ≡ true → holds s (entry.LetGo lane ∷ past) k who
    ≡ true
held_on s past now lane k who idle slots left held =
    elim (by_what s past k who held) [
      | inr asked_for ↦ or_right (has_grant (held_site s (entry.LetGo lane ∷ past) who) k) (is_unended_asker past who k)
          asked_for
      | inl has ↦ elim (eqb_tells lane who) [
        | inl t ↦ (let mine : has_grant (held_site s past lane) k ≡ true =
            subst (λ (l : ℕ). has_grant (held_site s past l) k ≡ true) (sym t.1) has in
            let in_slots : has_grant (site_of s past lane) k ≡ true =
            subst (λ (x : Site). has_grant x k ≡ true) (site_held s past lane idle) mine in
            let closed_now : is_one_of (closed_grants s now) k ≡ true =
            slots_closed (closed_grants s now) (site_of s past lane).slots k slots in_slots in absurd cc)
        | inr t ↦ rw t.0 (or_left (has_grant (held_site s past who) k) (is_unended_asker past who k) has)
      ]
    ]

pub let_go_settled : (s : Setting) (past now : List Entry) (lane : ℕ) → IsSettled s past → current s past lane ≡ None
    → ClosesTo s (entry.LetGo lane ∷ past) now → next_due s now ≡ None → IsSettled s now
let_go_settled s past now lane settled idle to bare =
    let more : Leaves s (entry.LetGo lane ∷ past) now = closes_leave s (entry.LetGo lane ∷ past) now to in
    let slots : first_let_go (closed_grants s now) (site_of s past lane).slots ≡ None =
    ap (next_due_at s now (closed_grants s now)) (sym more.letting) ∙ bare in
    none_below (is_due s now (closed_grants s now)) (count_submitted now)
    (λ k lt. no_next_due (is_grant now k) (is_held s now k) (is_one_of (closed_grants s now) k)
    (λ granted left. let before : is_grant past k ≡ true = sym (more.granted k) ∙ granted in
    let unclosed : is_one_of (closed_grants s past) k ≡ false =
    not_gone (is_one_of (closed_grants s past) k) (is_one_of (closed_grants s now) k) (more.gone k) left in
    let held : is_held s past k ≡ true = was_held (is_grant past k) (is_held s past k)
    (is_one_of (closed_grants s past) k)
    (below_none (is_due s past (closed_grants s past)) (count_submitted past) settled k (granted_below past k before))
    before
    unclosed in
    let who = any_where (holds s past k) (length s.lanes) held in
    let still : holds s (entry.LetGo lane ∷ past) k who.0 ≡ true =
    held_on s past now lane k who.0 idle slots left who.1.1 in
    any_passes (holds s now k) (length s.lanes) who.0 who.1.0 (more.held k who.0 ∙ still)))

-- ---- grant by grant

none_granted : (grant held gone : Bool) → grant ≡ false → (grant && not held && not gone) ≡ false
none_granted true held gone e = absurd cc
none_granted false held gone e = refl

unasked : (past : List Entry) (g : ℕ) → count_submitted past ≤ g → is_grant past g ≡ false
unasked past g beyond = ap is_granted (answer_beyond past g beyond)

settled_by : (s : Setting) (past : List Entry) (g : ℕ) (b : Bool) → nat_lt g (count_submitted past) ≡ b
    → IsSettled s past → is_due s past (closed_grants s past) g ≡ false
settled_by s past g true is settled = below_none (is_due s past (closed_grants s past)) (count_submitted past) settled g
    (grind (arith, nat_tests))
settled_by s past g false is settled = none_granted (is_grant past g) (is_held s past g)
    (is_one_of (closed_grants s past) g)
    (unasked past g (grind (arith, nat_tests)))

-- no grant is to be closed, said of each, and the other way round
pub settled_each : (s : Setting) (past : List Entry) (g : ℕ) → IsSettled s past → is_due s past (closed_grants s past) g
    ≡ false
settled_each s past g settled = settled_by s past g (nat_lt g (count_submitted past)) refl settled

pub each_settled : (s : Setting) (past : List Entry) → ((g : ℕ) → is_due s past (closed_grants s past) g ≡ false)
    → IsSettled s past
each_settled s past each = none_below (is_due s past (closed_grants s past)) (count_submitted past) (λ g lt. each g)

-- while no lane is let go, `next_due` is the one by the order of places
pub next_due_plain : (s : Setting) (past : List Entry) → letting_go s past ≡ None → next_due s past
    ≡ first_below (is_due s past (closed_grants s past)) (count_submitted past)
next_due_plain s past none = ap (next_due_at s past (closed_grants s past)) none

is_granted_next_due : (grant held gone : Bool) → (grant && not held && not gone) ≡ true → grant ≡ true
is_granted_next_due true held gone e = refl
is_granted_next_due false held gone e = absurd cc

-- where one grant alone is to be closed, it is next
pub next_due_one : (s : Setting) (past : List Entry) (g : ℕ) → letting_go s past ≡ None
    → is_due s past (closed_grants s past) g ≡ true
    → ((k : ℕ) → k ≢ g → is_due s past (closed_grants s past) k ≡ false) → next_due s past ≡ Some g
next_due_one s past g none is others =
    next_due_plain s past none ∙ one_below (is_due s past (closed_grants s past)) (count_submitted past) g
    (granted_below past g (is_granted_next_due (is_grant past g) (is_held s past g) (is_one_of (closed_grants s past) g)
    is))
    is others
