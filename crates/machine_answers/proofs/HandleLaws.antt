-- The handle that is granted next isn't open.
use Rattle.std.proofs.Common.{◌≡◌, ℕ, ◌<◌, false, List, [], ◌∷◌, None, refl, ap, sym, ◌∙◌, arith}
use Rattle.std.specs.Str.{bytes_eq}
use Rattle.std.proofs.lemmas.Bool.{false_from_ne_true}
use Rattle.std.proofs.lemmas.Slice.Eq.{bytes_eq-Decides}
use Rattle.machine_model.specs.FileTree.{value_at_key, opened_at}
use Rattle.machine_model.specs.declared.opened.Opened.{Opened}
use Rattle.machine_tree.specs.Numbers.{AllBelow, IsBelow, numbered_handle}
use Rattle.machine_tree.proofs.NumberLaws.{number_one}
use Rattle.machine_answers.specs.MachineState.{MachineState, IsValid, MAX_HANDLES}

other_handle : (n : ℕ) (handle : List ℕ) → n < MAX_HANDLES → IsBelow n handle → bytes_eq handle (numbered_handle n)
    ≡ false
other_handle n handle a b = false_from_ne_true (bytes_eq handle (numbered_handle n)) (λ t.
    let l = b.1 in let k = number_one n b.0 a (omega (arith, a, l))
    (sym b.2 ∙ (bytes_eq-Decides handle (numbered_handle n)).0 t) in omega (arith, k, l))

none_next : (n : ℕ) (pairs : List (List ℕ × Opened)) → n < MAX_HANDLES → AllBelow n pairs
    → value_at_key bytes_eq pairs (numbered_handle n) ≡ None
none_next n [] a h = refl
none_next n (pair ∷ pairs) a h = rw (other_handle n pair.0 a h.0) (none_next n pairs a h.1)

none_empty : (n : ℕ) (pairs : List (List ℕ × Opened)) → AllBelow n pairs → value_at_key bytes_eq pairs [] ≡ None
none_empty n [] h = refl
none_empty n (pair ∷ pairs) h = let e : bytes_eq pair.0 [] ≡ false = ap (λ (w : List ℕ). bytes_eq w []) h.0.2 in
    rw e (none_empty n pairs h.1)

pub next_is_new : (state : MachineState) → IsValid state → state.grants < MAX_HANDLES
    → opened_at state.tree (numbered_handle state.grants) ≡ None
next_is_new state v less = none_next state.grants state.tree.handles less v.handles

-- a handle of no bytes is never open
pub empty_is_new : (state : MachineState) → IsValid state → opened_at state.tree [] ≡ None
empty_is_new state v = none_empty state.grants state.tree.handles v.handles
