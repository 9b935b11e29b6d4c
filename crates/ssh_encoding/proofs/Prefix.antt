use Rattle.std.proofs.Common.{◌≡◌, ℕ, ◌<◌, ◌≤◌, List, length, take, drop, Result, Ok, Err, false, inl, inr, refl, ap, sym, arith, ltb, IfOk, IfErr}
use Rattle.std.proofs.lemmas.Bool.{le-ltb}
use Rattle.std.specs.Fn.{Once, FnOnceReturnsAtMut}
use Rattle.std.specs.Borrow.{MutBor}
use Rattle.ssh_encoding.specs.declared.error.Error.{Error}
use Rattle.ssh_encoding.specs.Reading.{DecodesAs, ReadsTo, ReadsPrefixed, inside, prefix_at, string_within}

module _ {F S T A : Type 0} (g : Once F (MutBor S × Unit {0}) (Result T Error × (MutBor S × Unit {0})))
    (left : S → List ℕ) (gives : Error → Error → Type 0) (f : F) (seen : T → A) (memory : Error → Type 0)
    (reading : List ℕ → Result (A × List ℕ) Error) where
  -- a closure that reads what stands after a length
  pub reads_prefixed : (old : List ℕ) (result : Result T Error) (new : List ℕ)
      (prefix : Result (List ℕ × List ℕ) (Error × List ℕ))
      → ((d e : Error) → gives d e → e ≡ d)
      → ((inner after : S) → FnOnceReturnsAtMut g f inner result after
      → DecodesAs seen memory (left after) result (reading (left inner)))
      → ReadsPrefixed g left gives f old result new prefix
      → DecodesAs seen memory new result (inside reading prefix)
  reads_prefixed old (Ok v) new (Ok p) same calls h =
      rw (← h.0.shows) (rw (calls h.0.inner h.0.after h.0.met) (ap (λ n. Ok (seen v, n)) (sym h.1)))
  reads_prefixed old (Err e) new (Ok p) same calls h =
      rw (← h.0.shows) (elim (calls h.0.inner h.0.after h.0.met) [ inl m ↦ inl m | inr r ↦ inr (rw r refl) ])
  reads_prefixed old (Ok v) new (Err r) same calls h = absurd h.0
  reads_prefixed old (Err e) new (Err r) same calls h = inr (ap Err (sym (same r.0 e h.0)))

-- a string that fits was read after its length
pub reads_within : {T : Type 0} (seen : T → List ℕ) (old mid new inner : List ℕ) (most : ℕ) (r : Result T Error)
    → prefix_at old ≡ Ok (inner, drop (length inner) mid) → inner ≡ take (length inner) mid → length inner ≤ length mid
    → length inner ≤ most
    → IfOk r (λ v. (seen v ≡ take (length inner) mid) × (new ≡ drop (length inner) mid))
    → IfErr r (λ e. length mid < length inner)
    → ReadsTo seen new r (string_within most old)
unfolding string_within
reads_within seen old mid new inner most (Ok v) is front room fits ok err =
    let short : ltb most (length inner) ≡ false = le-ltb _ _ fits in
    rw (is, short, ok.0, ok.1, ← front) refl
reads_within seen old mid new inner most (Err e) is front room fits ok err = absurd (omega (arith, err, room))
