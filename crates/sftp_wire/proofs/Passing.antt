-- Strings that are passed over.
use Rattle.std.proofs.Common.{◌≡◌, ℕ, suc, List, length, Result, Ok, Err, refl, ap}
use Rattle.ssh_encoding.specs.declared.error.Error.{Error}
use Rattle.ssh_encoding.specs.Reading.{◌>>=◌, inside, all_at, prefix_at, string_len_at}
use Rattle.sftp_model.specs.declared.frame_error.FrameError.{FrameError}
use Rattle.sftp_model.specs.FieldErrors.{frame_error}
use Rattle.sftp_model.specs.Readings.{field, text_at, behind_pairs}
use Rattle.sftp_wire.specs.Reading.{value_passed}

ok_is : {A E : Type 0} (x y : A) → (let r : Result A E = Ok x in r) ≡ Ok y → x ≡ y
ok_is x y e = cc

err_is : {A E : Type 0} (x y : E) → (let r : Result A E = Err x in r) ≡ Err y → x ≡ y
err_is x y e = cc

abbrev counted : List ℕ × List ℕ → Result (ℕ × List ℕ) (Error × List ℕ)
counted p = Ok (length p.0, p.1)

skips_at : (p : Result (List ℕ × List ℕ) (Error × List ℕ)) (n : ℕ) (rest : List ℕ) → (p >>= counted) ≡ Ok (n, rest)
    → value_passed (field (inside all_at p)) ≡ Ok (tt, rest)
skips_at (Ok p) n rest h = let same : p.1 ≡ rest = ap (λ (q : ℕ × List ℕ). q.1) (ok_is (length p.0, p.1) (n, rest) h) in
    rw same refl
skips_at (Err e) n rest h = absurd cc

-- its length was read, and the reader stands after it
pub skips : (bytes rest : List ℕ) (n : ℕ) → string_len_at bytes ≡ Ok (n, rest) → value_passed (text_at bytes)
    ≡ Ok (tt, rest)
unfolding string_len_at
skips bytes rest n h = skips_at (prefix_at bytes) n rest h

skip_refused_at : (p : Result (List ℕ × List ℕ) (Error × List ℕ)) (e : Error) (rest : List ℕ) → (p >>= counted)
    ≡ Err (e, rest) → value_passed (field (inside all_at p)) ≡ Err (frame_error e)
skip_refused_at (Ok p) e rest h = absurd cc
skip_refused_at (Err r) e rest h = let same : r.0 ≡ e = ap (λ (q : Error × List ℕ). q.0) (err_is r (e, rest) h) in
    rw same refl

pub skip_refused : (bytes rest : List ℕ) (e : Error) → string_len_at bytes ≡ Err (e, rest)
    → value_passed (text_at bytes) ≡ Err (frame_error e)
unfolding string_len_at
skip_refused bytes rest e h = skip_refused_at (prefix_at bytes) e rest h

passed_ok : {A : Type 0} (r : Result (A × List ℕ) FrameError) (rest : List ℕ) → value_passed r ≡ Ok (tt, rest) → (x : A)
    × (r ≡ Ok (x, rest))
passed_ok (Ok x) rest h = let same : x.1 ≡ rest = ap (λ (q : Unit {0} × List ℕ). q.1) (ok_is (tt, x.1) (tt, rest) h) in
    (x.0, ap (λ y. Ok (x.0, y)) same)
passed_ok (Err e) rest h = absurd cc

passed_err : {A : Type 0} (r : Result (A × List ℕ) FrameError) (e : FrameError) → value_passed r ≡ Err e → r ≡ Err e
passed_err (Ok x) e h = absurd cc
passed_err (Err d) e h = ap (λ y. Err y) (err_is d e h)

-- one pair less
pub pairs_step : (n m : ℕ) (bytes mid rest : List ℕ) → n ≡ suc m → value_passed (text_at bytes) ≡ Ok (tt, mid)
    → value_passed (text_at mid) ≡ Ok (tt, rest) → behind_pairs n bytes ≡ behind_pairs m rest
pairs_step n m bytes mid rest is h k = rw (is, (passed_ok (text_at bytes) mid h).1, (passed_ok (text_at mid) rest k).1)
    refl

pub name_refused : (n m : ℕ) (bytes : List ℕ) (e : FrameError) → n ≡ suc m → value_passed (text_at bytes) ≡ Err e
    → behind_pairs n bytes ≡ Err e
name_refused n m bytes e is h = rw (is, passed_err (text_at bytes) e h) refl

pub value_refused : (n m : ℕ) (bytes mid : List ℕ) (e : FrameError) → n ≡ suc m → value_passed (text_at bytes)
    ≡ Ok (tt, mid)
    → value_passed (text_at mid) ≡ Err e → behind_pairs n bytes ≡ Err e
value_refused n m bytes mid e is h k = rw (is, (passed_ok (text_at bytes) mid h).1, passed_err (text_at mid) e k) refl
