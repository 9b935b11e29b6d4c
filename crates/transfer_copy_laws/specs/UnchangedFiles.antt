-- Copies of a file that nothing else changes at the same time.
use Rattle.std.specs.Prelude.{◌≡◌, ◌<◌, ℕ, List, [], ◌∷◌, take, drop, Some}
use Rattle.machine_model.specs.FileTree.{written_at}
use Rattle.transfer_copy.specs.Disks.{Disk}
use Rattle.transfer_copy.specs.WholeGets.{ReadPiece}
use Rattle.transfer_copy.specs.WholePuts.{AskedWrite}

-- Each piece has bytes of the file from the offset of its READ on, and the server chooses how many.
abbrev pub ArePiecesOf : List ℕ → List ReadPiece → Type 0
ArePiecesOf file [] = Unit {0}
ArePiecesOf file (piece ∷ later) = ((n : ℕ) × (piece.bytes ≡ take n (drop piece.read.offset file)))
    × ArePiecesOf file later

-- If a copy continues after some bytes, the part file has the file's first bytes.
abbrev pub HasFirst : List ℕ → ℕ → List ℕ → Disk → Type 0
HasFirst part from file disk = 0 < from → disk.files part ≡ Some (take from file)

-- The file after these WRITEs were applied, the first one first.
abbrev pub written_to : List ℕ → List AskedWrite → List ℕ
written_to file [] = file
written_to file (write ∷ later) = written_to (written_at file write.offset write.bytes) later
