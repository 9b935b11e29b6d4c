-- The length of blocks and the number that are kept, by arguments.
use Rattle.std.specs.Prelude.{◌≤◌, ℕ, List, [], ◌∷◌, Option, None, Result, Ok, codes, if◌then◌else◌}
use Rattle.std.specs.Result.{result_ok}
use Rattle.std.specs.Str.{bytes_eq}
use Rattle.ssh_encoding.specs.Reading.{◌>>=◌}
use Rattle.script_words.specs.declared.reason.Reason.{Reason}
use Rattle.script_words.specs.Lines.{number_in}
use Rattle.view_model.specs.declared.cache_size.CacheSize.{CacheSize}

-- The length of blocks, 1 to 65536, and the number that are kept, 1 to 4096.
abbrev pub cache_size_in : List ℕ → List ℕ → Result CacheSize Reason
cache_size_in block capacity =
    number_in 1 65536 block >>= λ b.
    number_in 1 4096 capacity >>= λ c.
    Ok (record { block = b; capacity = c })

-- The size is within these ranges.
pub record IsCacheSize (s : CacheSize) : Type 0 where
  pub some : 1 ≤ s.block
  pub short : s.block ≤ 65536
  pub any : 1 ≤ s.capacity
  pub few : s.capacity ≤ 4096

-- The argument `view`, and such numbers after it.
abbrev pub view_of : List (List ℕ) → Option CacheSize
view_of [] = None
view_of (word ∷ []) = None
view_of (word ∷ block ∷ []) = None
view_of (word ∷ block ∷ capacity ∷ []) =
    if bytes_eq word (codes "view") then result_ok (cache_size_in block capacity) else None
view_of (word ∷ block ∷ capacity ∷ another ∷ words) = None
