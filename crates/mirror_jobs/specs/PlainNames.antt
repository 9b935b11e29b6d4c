-- Components that lead one step down.
use Rattle.std.specs.Prelude.{ℕ, ◌==◌, Bool, not, ◌&&◌, List, [], codes}
use Rattle.std.specs.List.{list_all}
use Rattle.std.specs.Str.{bytes_eq}
use Rattle.sftp_model.specs.Paths.{slash}

-- The part has no slash.
abbrev pub is_unparted : List ℕ → Bool
is_unparted part = list_all (λ b. not (b == slash)) part

-- The part has no slash and leads one step down.
abbrev pub is_plain : List ℕ → Bool
is_plain part = is_unparted part && not (bytes_eq part []) && not (bytes_eq part (codes "."))
    && not (bytes_eq part (codes ".."))
