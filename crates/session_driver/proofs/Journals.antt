-- How journals go on, part by part.
use Rattle.std.proofs.Common.{◌≡◌, ◌<◌, ◌≤◌, ◌+◌, ◌-◌, ℕ, zero, suc, Bool, true, false, List, [], ◌∷◌, None, refl, ap, sym, subst, arith, inl, inr}
use Rattle.std.specs.Prelude.{nat_lt, nat_le, is_none, MatchBool, length, if◌then◌else◌}
use Rattle.std.proofs.lemmas.Bool.Decides.{nat_tests}
use Rattle.session_model.specs.declared.event.Event.TheVariants.{Send}
use Rattle.session_model.specs.declared.entry.Entry.{Entry}
use Rattle.session_model.specs.declared.entry.Entry.TheVariants as entry
use Rattle.session_model.specs.Readings.{count_submitted, count_sent, count_awaited, count_unanswered, count_below, answer}
use Rattle.session_model.specs.Calls.{Setting}
use Rattle.session_model.specs.Turns.{RunProgress, SendsTo, RulesTo, SettlesTo, FlushesBy, is_full}
use Rattle.session_model.specs.Grants.{next_due}
use Rattle.session_driver.specs.Session.{IsLater, LetsGo, SendsUnsent}

-- ---- later

pub later_self : (s : Setting) (past : List Entry) → IsLater s past past
later_self s [] = refl
later_self s (e ∷ past) = inl refl

pub later_on : (s : Setting) (a b c : List Entry) → IsLater s a b → IsLater s b c → IsLater s a c
later_on s a b [] l m = subst (λ (w : List Entry). IsLater s a w) m l
later_on s a b (e ∷ past) l (inl same) = subst (λ (w : List Entry). IsLater s a w) same l
later_on s a b (e ∷ past) l (inr m) = inr (m.0, later_on s a b past l m.1)

-- ---- what is unsent

pub match_true : (b : Bool) (A B : Type 0) → b ≡ true → A → MatchBool b A B
match_true true A B e x = x
match_true false A B e x = absurd cc

pub match_false : (b : Bool) (A B : Type 0) → b ≡ false → B → MatchBool b A B
match_false true A B e x = absurd cc
match_false false A B e x = x

when_true : (b : Bool) (A B : Type 0) → b ≡ true → MatchBool b A B → A
when_true true A B e x = x
when_true false A B e x = absurd cc

no_more : (m n : ℕ) → nat_lt m (n - n) ≡ false
no_more m n = grind (arith, nat_tests)

some_unsent : (m a b : ℕ) → nat_lt m (a - b) ≡ true → nat_lt b a ≡ true
some_unsent m a b t = grind (arith, nat_tests)

-- after a Send no rule acts
sends_rules : (s : Setting) (past now : List Entry) → now ≡ entry.Event Send ∷ past
    → next_due s (entry.Event Send ∷ past)
    ≡ None → RulesTo s (entry.Event Send ∷ past) now
sends_rules s past now is none =
    subst (λ (w : List Entry). RulesTo s (entry.Event Send ∷ past) w) (sym is)
    (entry.Event Send ∷ past, ((inl refl, none), match_false _ _ _ (no_more s.max_pending (count_submitted past)) refl))

pub flush_turns : (s : Setting) (before now : RunProgress) → SendsUnsent s before now → FlushesBy (RulesTo s) before now
flush_turns s before now f = by_test (nat_lt (count_sent before.past) (count_submitted before.past)) f
  where
    by_test : (b : Bool)
        → MatchBool b ((now ≡ record { past = entry.Event Send ∷ before.past; begun = before.begun })
        × (next_due s (entry.Event Send ∷ before.past) ≡ None)) (now ≡ before)
        → MatchBool b ((now.begun ≡ before.begun) × RulesTo s (entry.Event Send ∷ before.past) now.past) (now ≡ before)
    by_test true f = (
      ap (λ (w : RunProgress). w.begun) f.0,
      sends_rules s before.past now.past
          (ap (λ (w : RunProgress). w.past) f.0) f.1,
    )
    by_test false same = same

-- too much was unsent, and it was sent
pub full_sends : (s : Setting) (before now : RunProgress) → is_full s before.past ≡ true → SendsUnsent s before now
    → SendsTo s before.past now.past
full_sends s before now full f =
    let sends = when_true _ _ _ (some_unsent s.max_pending (count_submitted before.past) (count_sent before.past) full)
    f in
    match_true _ _ _ full (ap (λ (w : RunProgress). w.past) sends.0)

pub full_begun : (s : Setting) (before now : RunProgress) → SendsUnsent s before now → now.begun ≡ before.begun
full_begun s before now f = by_test (nat_lt (count_sent before.past) (count_submitted before.past)) f
  where
    by_test : (b : Bool) → MatchBool b ((now ≡ record { past = entry.Event Send ∷ before.past; begun = before.begun })
        × (next_due s (entry.Event Send ∷ before.past) ≡ None)) (now ≡ before) → now.begun ≡ before.begun
    by_test true f = ap (λ (w : RunProgress). w.begun) f.0
    by_test false same = ap (λ (w : RunProgress). w.begun) same

below_more : (f : ℕ → Bool) (m n : ℕ) → m ≤ n → count_below f m ≤ count_below f n
below_more f m zero le = let none : m ≡ 0 = omega (arith, le) in
    subst (λ (w : ℕ). count_below f m ≤ count_below f w) none (omega arith)
below_more f m (suc n) le = by_test (nat_le m n) refl (λ l. below_more f m n l)
  where
    more : (b : Bool) (k : ℕ) → k ≤ (if b then 1 else 0) + k
    more true k = omega arith
    more false k = omega arith

    by_test : (b : Bool) → nat_le m n ≡ b → (m ≤ n → count_below f m ≤ count_below f n)
        → count_below f m ≤ count_below f (suc n)
    by_test true e below = let l : m ≤ n = grind (arith, nat_tests) in let one = below l in let step =
        more (f n) (count_below f n) in omega (arith, one, step)
    by_test false e below = let same : m ≡ suc n = grind (arith, nat_tests) in
        subst (λ (w : ℕ). count_below f m ≤ count_below f w) same (omega arith)

not_below : (a b : ℕ) → nat_lt b a ≡ false → a ≤ b
not_below a b f = grind (arith, nat_tests)

-- when all is sent, what is unanswered is awaited
pub flush_awaits : (s : Setting) (before now : RunProgress) → SendsUnsent s before now
    → 0 < count_unanswered before.past → 0 < count_awaited now.past
flush_awaits s before now f some = by_test (nat_lt (count_sent before.past) (count_submitted before.past)) refl f
  where
    by_test : (b : Bool) → nat_lt (count_sent before.past) (count_submitted before.past) ≡ b
        → MatchBool b ((now ≡ record { past = entry.Event Send ∷ before.past; begun = before.begun })
        × (next_due s (entry.Event Send ∷ before.past) ≡ None)) (now ≡ before) → 0 < count_awaited now.past
    by_test true e f = subst (λ (w : RunProgress). 0 < count_awaited w.past) (sym f.0) some
    by_test false e same =
        let le = not_below (count_submitted before.past) (count_sent before.past) e in
        let more = below_more (λ place. is_none (answer before.past place)) (count_submitted before.past)
        (count_sent before.past) le in
        subst (λ (w : RunProgress). 0 < count_awaited w.past) (sym same) (omega (arith, more, some))

-- ---- a lane is let go

is_below : (lane n : ℕ) → lane < n → nat_lt lane n ≡ true
is_below lane n there = grind (arith, nat_tests)

pub lets_go : (s : Setting) (lane : ℕ) (before now : RunProgress) → LetsGo s lane before now → lane < length s.lanes
    → (now.begun ≡ before.begun) × SettlesTo s (entry.LetGo lane ∷ before.past) now.past
lets_go s lane before now t there =
    subst (λ (b : Bool). MatchBool b ((now.begun ≡ before.begun)
    × SettlesTo s (entry.LetGo lane ∷ before.past) now.past) (now ≡ before)) (is_below lane (length s.lanes) there)
    t

pub some_awaited : (n m : ℕ) → n ≡ m → (n ≡ 0 → ⊥) → 0 < m
some_awaited n m same some = grind (arith, nat_tests)

pub none_awaited : (n m : ℕ) → n ≡ m → n ≡ 0 → nat_lt 0 m ≡ false
none_awaited n m same none = grind (arith, nat_tests)

pub is_awaited : (n : ℕ) → 0 < n → nat_lt 0 n ≡ true
is_awaited n some = grind (arith, nat_tests)
