-- The largest files of a tree.
use Rattle.std.specs.Prelude.{◌≡◌, ℕ, Bool, true, false, List, Option, None, Some, option_and_then, take, filter}
use Rattle.std.specs.List.Sorted.{IsPermutation, IsSortedByKey, IsStableByKey}
use Rattle.std.specs.Ordering.{nat_cmp}
use Rattle.std.specs.declared.cmp.Ordering.{Ordering}
use Rattle.sftp_meta.specs.FileType.{type_of_mode}
use Rattle.sftp_meta.specs.declared.file_type.RawFileType.{RawFileType}
use Rattle.sftp_meta.specs.declared.file_type.RawFileType.TheVariants as kind
use Rattle.sftp_client.specs.declared.walk_entry.WalkEntry.{WalkEntry}

abbrev pub is_file_type : Option RawFileType → Bool
is_file_type (Some kind.RegularFile) = true
is_file_type other = false

-- The server reported that the entry is a regular file.
abbrev pub is_file : WalkEntry → Bool
is_file entry = is_file_type (option_and_then type_of_mode entry.metadata.permissions)

abbrev pub size_or_none : Option ℕ → ℕ
size_or_none (Some n) = n
size_or_none None = 0

-- The size that the server reported, or 0.
abbrev pub size_of : WalkEntry → ℕ
size_of entry = size_or_none entry.metadata.size

-- The order in which greater sizes come first.
abbrev pub greater_first : ℕ → ℕ → Ordering
greater_first x y = nat_cmp y x

-- The files among the entries of a walk, at most ten, the greatest first. Of two files of the same size, the one that
-- was found first comes first.
pub record AreLargest (found files : List WalkEntry) : Type 0 where
  pub order : List WalkEntry
  pub same : IsPermutation (filter is_file found) order
  pub sorted : IsSortedByKey size_of greater_first order
  pub stable : IsStableByKey size_of greater_first (filter is_file found) order
  pub first : files ≡ take 10 order
