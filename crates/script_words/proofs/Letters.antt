-- One letter more of the open flags.
use Rattle.std.proofs.Common.{◌≡◌, ◌+◌, ◌<◌, ℕ, List, Some, drop, length, get_or, refl, add-one, drop-cons}
use Rattle.sftp_model.specs.declared.open_options.OpenOptions.{OpenOptions}
use Rattle.script_words.specs.Lines.{with_letter, with_letters}

pub letter_more : (o : OpenOptions) (word : List ℕ) (i : ℕ) → i < length word → with_letters (Some o) (drop i word)
    ≡ with_letters (with_letter (get_or word i 0) o) (drop (i + 1) word)
letter_more o word i lt = rw (add-one, drop-cons word i 0) refl
