-- Entries and pairs that are read one by one.
use Rattle.std.proofs.Common.{◌≡◌, ◌==◌, false, ℕ, suc, List, [], ◌∷◌, ◌++◌, length, Result, Ok, Err, refl, ap, append_assoc}
use Rattle.std.specs.Int.RustNames.{bit_or}
use Rattle.sftp_model.specs.declared.reply.NameEntry.{NameEntry}
use Rattle.sftp_model.specs.declared.frame_error.FrameError.{FrameError}
use Rattle.sftp_model.specs.Readings.{text_at, pair_bit, with_pairs}
use Rattle.ssh_encoding.specs.Reading.{with_prefix}
use Rattle.sftp_model.specs.ReplyReadings.{entry_at, entries_at}

-- a front in two steps
front_twice : (front more : List NameEntry) (read : Result (List NameEntry × List ℕ) FrameError)
    → with_prefix (front ++ more) read ≡ with_prefix front (with_prefix more read)
front_twice front more (Ok x) = ap (λ (l : List NameEntry). Ok (l, x.1)) (append_assoc front more x.0)
front_twice front more (Err e) = refl

pub entries_more : (front : List NameEntry) (n m : ℕ) (bytes rest : List ℕ) (entry : NameEntry) → n ≡ suc m
    → entry_at bytes ≡ Ok (entry, rest)
    → with_prefix (front ++ entry ∷ []) (entries_at m rest) ≡ with_prefix front (entries_at n bytes)
entries_more front n m bytes rest entry is h = rw (is, h) (front_twice front (entry ∷ []) (entries_at m rest))

pub entries_refused : (front : List NameEntry) (n m : ℕ) (bytes : List ℕ) (e : FrameError) → n ≡ suc m → entry_at bytes
    ≡ Err e → with_prefix front (entries_at n bytes) ≡ Err e
entries_refused front n m bytes e is h = rw (is, h) refl

-- bytes that are not at their end
pub pairs_more : (n m set : ℕ) (bytes mid rest name value : List ℕ) → n ≡ suc m → (length bytes == 0) ≡ false
    → text_at bytes ≡ Ok (name, mid) → text_at mid ≡ Ok (value, rest)
    → with_pairs n set bytes ≡ with_pairs m (bit_or set (pair_bit name value)) rest
pairs_more n m set [] mid rest name value is some h k = absurd cc
pairs_more n m set (b ∷ bytes) mid rest name value is some h k = rw (is, h, k) refl

pub pair_name_refused : (n m set : ℕ) (bytes : List ℕ) (e : FrameError) → n ≡ suc m → (length bytes == 0) ≡ false
    → text_at bytes ≡ Err e → with_pairs n set bytes ≡ Err e
pair_name_refused n m set [] e is some h = absurd cc
pair_name_refused n m set (b ∷ bytes) e is some h = rw (is, h) refl

pub pair_value_refused : (n m set : ℕ) (bytes mid name : List ℕ) (e : FrameError) → n ≡ suc m → (length bytes == 0)
    ≡ false → text_at bytes ≡ Ok (name, mid) → text_at mid ≡ Err e
    → with_pairs n set bytes ≡ Err e
pair_value_refused n m set [] mid name e is some h k = absurd cc
pair_value_refused n m set (b ∷ bytes) mid name e is some h k = rw (is, h, k) refl
