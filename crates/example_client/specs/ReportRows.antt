-- Worked rows of a report of the largest files, each beside a near miss.
use Rattle.std.proofs.Common.{arith, refl}
use Rattle.std.specs.Prelude.{◌≡◌, ℕ, true, false, zero, suc, List, [], ◌∷◌, ◌++◌, codes, None, Some}
use Rattle.std.specs.Fmt.{decimal}
use Rattle.std.specs.List.Sorted.{IsSortedByKey}
use Rattle.std.proofs.lemmas.Fmt.{decimal_digit}
use Rattle.sftp_model.specs.declared.file_attrs.FileAttrs.{FileAttrs}
use Rattle.sftp_client.specs.declared.walk_entry.WalkEntry.{WalkEntry}
use Rattle.example_client.specs.Largest.{AreLargest, greater_first, is_file, size_of}
use Rattle.example_client.specs.Reports.{report_line}

abbrev entry_of : ℕ → ℕ → WalkEntry
entry_of mode size = record {
  path = codes "a/b";
  metadata = record { size = Some size; id = None; permissions = Some mode; time = None };
}

-- The mode 0o100644 is that of a file, 0o040755 that of a directory, and 0o120777 that of a symbolic link.
pub regular_file : is_file (entry_of 33188 3) ≡ true
regular_file = refl

pub directory_left_out : is_file (entry_of 16877 3) ≡ false
directory_left_out = refl

pub link_left_out : is_file (entry_of 41471 3) ≡ false
link_left_out = refl

-- A file without a size counts as an empty one.
pub size_reported : size_of (entry_of 33188 3) ≡ 3
size_reported = refl

pub no_size : size_of (record { path = []; metadata = record { size = None; id = None; permissions = None; time = None } })
    ≡ 0
no_size = refl

-- The greater file comes first, and not last.
pub greater_before : IsSortedByKey size_of greater_first (entry_of 33188 5 ∷ entry_of 33188 3 ∷ [])
greater_before zero d low high = refl
greater_before (suc k) d low high = absurd (omega (arith, high))

pub greater_after : IsSortedByKey size_of greater_first (entry_of 33188 3 ∷ entry_of 33188 5 ∷ []) → ⊥
greater_after h = let less = h 0 (entry_of 33188 3) (omega arith) (omega arith) in cc

-- One file is the largest; a directory is none of the files.
pub one_file : AreLargest (entry_of 33188 3 ∷ []) (entry_of 33188 3 ∷ [])
one_file =
    record {
      order = entry_of 33188 3 ∷ [];
      same = record { moves = []; below = tt; is = refl };
      sorted = λ k d low high. absurd (omega (arith, high));
      stable = λ x. refl;
      first = refl;
    }

pub no_file : AreLargest (entry_of 16877 3 ∷ []) []
no_file =
    record {
      order = [];
      same = record { moves = []; below = tt; is = refl };
      sorted = λ k d low high. absurd (omega (arith, high));
      stable = λ x. refl;
      first = refl;
    }

-- The line of a file of three bytes of which two came.
pub line_of_file : report_line (record { file = entry_of 33188 3; bytes = record { items = 1 ∷ 2 ∷ []; spare = 0 } })
    ≡ codes "3 2 a/b\n"
line_of_file =
    let three : decimal 3 ≡ 51 ∷ [] = decimal_digit 3 (omega arith) in
    let two : decimal 2 ≡ 50 ∷ [] = decimal_digit 2 (omega arith) in
    λ i. (three i ++ 32 ∷ []) ++ ((two i ++ 32 ∷ []) ++ codes "a/b\n")
