-- Worked files: two WRITEs, and pieces that belong to a file.
use Rattle.std.specs.Prelude.{◌≡◌, ℕ, List, [], ◌∷◌, refl}
use Rattle.transfer_copy.specs.WholeGets.{ReadPiece}
use Rattle.transfer_copy.specs.WholePuts.{AskedWrite}
use Rattle.transfer_copy_laws.specs.UnchangedFiles.{ArePiecesOf, written_to}

abbrev write : ℕ → List ℕ → AskedWrite
write offset bytes = record { ticket = 0; offset = offset; bytes = bytes }

abbrev piece : ℕ → List ℕ → ReadPiece
piece offset bytes = record { read = record { ticket = 0; offset = offset; len = 2 }; bytes = bytes }

pub two_writes : written_to [] (write 0 (1 ∷ 2 ∷ []) ∷ write 2 (3 ∷ []) ∷ []) ≡ 1 ∷ 2 ∷ 3 ∷ []
two_writes = refl

-- A gap is filled with zeros.
pub a_gap : written_to [] (write 2 (3 ∷ []) ∷ []) ≡ 0 ∷ 0 ∷ 3 ∷ []
a_gap = refl

pub two_pieces : ArePiecesOf (1 ∷ 2 ∷ 3 ∷ []) (piece 0 (1 ∷ 2 ∷ []) ∷ piece 2 (3 ∷ []) ∷ [])
two_pieces = ((2, refl), ((1, refl), tt))
