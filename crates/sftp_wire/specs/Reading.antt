-- The relation of contracts between the result of a call and a reading: they agree, unless memory ran out.
use Rattle.std.specs.Prelude.{ℕ, ◌≡◌, ◌⊎◌, List, Option, Result, Ok, Err}
use Rattle.ssh_encoding.specs.Reading.{◌>>=◌, DecodesAs}
use Rattle.sftp_model.specs.declared.frame_error.FrameError.{FrameError}
use Rattle.sftp_model.specs.declared.frame_error.FrameError.TheVariants as errors
use Rattle.sftp_model.specs.Readings.{whole, with_short_handles}

abbrev pub IsMemory : FrameError → Type 0
IsMemory e = e ≡ errors.OutOfMemory

-- The result of a field, with `rest` left.
abbrev pub ReadsField : {T S : Type 0} → (T → S) → List ℕ → Result T FrameError → Result (S × List ℕ) FrameError
    → Type 0
ReadsField seen rest result read = DecodesAs seen IsMemory rest result read

-- The result of a whole body.
abbrev pub GivesBody : {T : Type 0} → Result T FrameError → Result T FrameError → Type 0
GivesBody (Ok v) read = read ≡ Ok v
GivesBody (Err e) read = IsMemory e ⊎ (read ≡ Err e)

-- Fields that no bytes may follow, and whose handles are short.
abbrev pub to_end : {A : Type 0} → (A → List (List ℕ)) → Result ((Option ℕ × A) × List ℕ) FrameError
    → Result (Option ℕ × A) FrameError
to_end handles fields = fields >>= λ f. whole f >>= λ read. with_short_handles (handles read.1) read

-- The bytes after a value that is dropped.
abbrev pub passed_to : Result (List ℕ) FrameError → Result (Unit {0} × List ℕ) FrameError
passed_to rest = rest >>= λ bytes. Ok (tt, bytes)

abbrev pub value_passed : {A : Type 0} → Result (A × List ℕ) FrameError → Result (Unit {0} × List ℕ) FrameError
value_passed read = read >>= λ x. Ok (tt, x.1)

-- The result of a whole body that a contract sees as a request or a reply.
abbrev pub GivesAs : {T S : Type 0} → (T → S) → Result T FrameError → Result S FrameError → Type 0
GivesAs seen (Ok v) read = read ≡ Ok (seen v)
GivesAs seen (Err e) read = IsMemory e ⊎ (read ≡ Err e)

-- The fields after an id that was read before.
abbrev pub after_id : {A : Type 0} → Option ℕ → Result (A × List ℕ) FrameError
    → Result ((Option ℕ × A) × List ℕ) FrameError
after_id id fields = fields >>= λ read. Ok ((id, read.0), read.1)
