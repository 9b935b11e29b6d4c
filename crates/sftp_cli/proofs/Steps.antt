-- One more is drawn, and one byte more is written.
use Rattle.std.proofs.Common.{◌≡◌, ◌<◌, ◌≤◌, ◌+◌, ◌-◌, ◌%◌, ℕ, suc, List, [], ◌∷◌, ◌++◌, ap, sym, ◌∙◌, arith, append-nil, append_assoc}
use Rattle.sftp_cli.specs.Bulk.{RandomDraw, counting_bytes, each}

-- what was made, with what is left to draw from number k on, is all of it
pub record Drawn {A : Type 0} (one : ℕ → RandomDraw A) (k n start x : ℕ) (made : List A) : Type 0 where
  pub gives : made ++ (each one k (n - k) x).0 ≡ (each one 0 n start).0
  pub passes : (each one k (n - k) x).1 ≡ (each one 0 n start).1

one_left : (k n : ℕ) → k < n → n - k ≡ suc (n - (k + 1))
one_left k n lt = omega arith

pub draws_go_on : {A : Type 0} (one : ℕ → RandomDraw A) (k n start x y : ℕ) (made new : List A) (a : A)
    → Drawn one k n start x made → k < n
    → a ≡ (one k x).0 → y ≡ (one k x).1 → new ≡ made ++ a ∷ [] → Drawn one (k + 1) n start y new
unfolding each
draws_go_on one k n start x y made new a h lt is on more =
    let left = one_left k n lt in
    record {
      gives = (λ i. more i ++ (each one (k + 1) (n - (k + 1)) (on i)).0)
          ∙ append_assoc made (a ∷ []) (each one (k + 1) (n - (k + 1)) (one k x).1).0
          ∙ (λ i. made ++ is i ∷ (each one (k + 1) (n - (k + 1)) (one k x).1).0)
          ∙ ap (λ m. made ++ (each one k m x).0) (sym left)
          ∙ h.gives;
      passes = ap (λ z. (each one (k + 1) (n - (k + 1)) z).1) on ∙ ap (λ m. (each one k m x).1) (sym left) ∙ h.passes;
    }

pub draws_end : {A : Type 0} (one : ℕ → RandomDraw A) (k n start x : ℕ) (made : List A) → Drawn one k n start x made
    → n ≤ k
    → (made ≡ (each one 0 n start).0) × (x ≡ (each one 0 n start).1)
unfolding each
draws_end one k n start x made h le =
    let none : n - k ≡ 0 = omega arith in (
      sym (append-nil made) ∙ ap (λ m. made ++ (each one k m x).0) (sym none) ∙ h.gives,
      ap (λ m. (each one k m x).1) (sym none) ∙ h.passes,
    )

-- what was written, with what is left to count, is all of it
pub record Counted (w n i : ℕ) (bytes : List ℕ) : Type 0 where
  pub all : bytes ++ counting_bytes (w + i) (n - i) ≡ counting_bytes w n

pub counts_on : (w n i : ℕ) (bytes new : List ℕ) → Counted w n i bytes → i < n → new ≡ bytes ++ (w + i) % 256 ∷ []
    → Counted w n (i + 1) new
unfolding counting_bytes
counts_on w n i bytes new h lt more =
    let next : w + (i + 1) ≡ w + i + 1 = omega arith in
    record {
      all = (λ j. more j ++ counting_bytes (next j) (n - (i + 1)))
          ∙ append_assoc bytes ((w + i) % 256 ∷ []) (counting_bytes (w + i + 1) (n - (i + 1)))
          ∙ ap (λ m. bytes ++ counting_bytes (w + i) m) (sym (one_left i n lt))
          ∙ h.all;
    }

pub counts_end : (w n i : ℕ) (bytes : List ℕ) → Counted w n i bytes → n ≤ i → bytes ≡ counting_bytes w n
unfolding counting_bytes
counts_end w n i bytes h le =
    let none : n - i ≡ 0 = omega arith in
    sym (append-nil bytes) ∙ ap (λ m. bytes ++ counting_bytes (w + i) m) (sym none) ∙ h.all
