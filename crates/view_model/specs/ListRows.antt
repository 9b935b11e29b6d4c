-- Worked lines of lists; `-` means no bytes.
use Rattle.std.specs.Prelude.{◌≡◌, [], ◌∷◌, Ok, Err, Some, None, codes, refl}
use Rattle.script_words.specs.declared.reason.Reason.TheVariants as reason
use Rattle.view_model.specs.declared.op.ViewOp.TheVariants as op
use Rattle.view_model.specs.CacheSizes.{view_of}
use Rattle.view_model.specs.Lists.{line_by, list_of, nothing_read}

-- Bytes to read.
get_is_read : line_by (nothing_read 4) (codes "get") (codes "-" ∷ codes "1" ∷ codes "9" ∷ [])
    ≡ Ok (record (nothing_read 4) { ops = op.Get [] 1 9 ∷ [] })
get_is_read = refl

-- More bytes than may be read at once.
get_is_too_long : line_by (nothing_read 4) (codes "get") (codes "-" ∷ codes "0" ∷ codes "1048577" ∷ [])
    ≡ Err reason.Range
get_is_too_long = refl

-- Bytes to write.
put_is_read : line_by (nothing_read 4) (codes "put") (codes "-" ∷ codes "2" ∷ codes "-" ∷ [])
    ≡ Ok (record (nothing_read 4) { ops = op.Put [] 2 [] ∷ [] })
put_is_read = refl

-- Bytes that end too far.
put_ends_too_far : line_by (nothing_read 4) (codes "put") (codes "-" ∷ codes "16777217" ∷ codes "-" ∷ [])
    ≡ Err reason.Range
put_ends_too_far = refl

-- A choice that refuses.
choice_refuses : line_by (nothing_read 4) (codes "choice") (codes "4" ∷ codes "0" ∷ []) ≡ Err reason.Range
choice_refuses = refl

-- This is no line of a list.
lane_is_no_line : line_by (nothing_read 4) (codes "lane") [] ≡ Err reason.Word
lane_is_no_line = refl

-- The size of the cache.
size_is_read : view_of (codes "view" ∷ codes "4" ∷ codes "2" ∷ []) ≡ Some (record { block = 4; capacity = 2 })
size_is_read = refl

-- A cache that may keep no block.
nothing_is_kept : view_of (codes "view" ∷ codes "4" ∷ codes "0" ∷ []) ≡ None
nothing_is_kept = refl

-- The second line is no line of a list.
second_is_refused : list_of 4 (codes "get - 1 9\nlane\n") ≡ Err (2, reason.Word)
second_is_refused = refl
