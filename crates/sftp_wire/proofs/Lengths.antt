-- How many bytes are written.
use Rattle.std.proofs.Common.{
  ◌≡◌,
  ◌<◌,
  ◌≤◌,
  ℕ,
  ◌+◌,
  ◌-◌,
  ◌^◌,
  List,
  [],
  ◌∷◌,
  ◌++◌,
  length,
  take,
  get_or,
  min,
  refl,
  ap,
  sym,
  ◌∙◌,
  arith,
  length-append,
  Option,
  Some,
  None,
}
use Rattle.std.specs.List.{flat_map}
use Rattle.ssh_encoding.specs.Writing.{uint32, uint64, string}
use Rattle.ssh_encoding.proofs.Lists.{flat_map_step}
use Rattle.sftp_model.specs.declared.file_attrs.FileAttrs.{FileAttrs}
use Rattle.sftp_model.specs.Frames.{attributes, bit, two_numbers, where_there}
use Rattle.sftp_model.specs.Pieces.{joined_pieces}
use Rattle.sftp_wire.specs.Body.{saturated_length}

pub length-uint32 : (n : ℕ) → length (uint32 n) ≡ 4
unfolding uint32
length-uint32 n = refl

pub length-uint64 : (n : ℕ) → length (uint64 n) ≡ 8
unfolding uint64
length-uint64 n = refl

pub length-string : (bytes : List ℕ) → length (string bytes) ≡ 4 + length bytes
unfolding string
length-string bytes = rw (length-append (uint32 (length bytes)) bytes, length-uint32 (length bytes)) refl

length-where_there : {A : Type 0} (spelling : A → List ℕ) (n : ℕ) → ((x : A) → length (spelling x) ≡ n)
    → (field : Option A) → length (where_there spelling field) ≡ bit n field
length-where_there spelling n h None = refl
length-where_there spelling n h (Some x) = h x

length-two_numbers : (p : ℕ × ℕ) → length (two_numbers p) ≡ 8
length-two_numbers p = rw (length-append (uint32 p.0) (uint32 p.1), length-uint32 p.0, length-uint32 p.1) refl

pub length-attributes : (a : FileAttrs) → length (attributes a)
    ≡ 4 + bit 8 a.size + bit 8 a.id + bit 4 a.permissions + bit 8 a.time
unfolding attributes
length-attributes a =
    simp (
      length-append,
      length-uint32,
      length-where_there uint64 8 length-uint64,
      length-where_there two_numbers 8 length-two_numbers,
      length-where_there uint32 4 length-uint32,
    ) refl

pub ruleset lengths = (length-uint32, length-uint64, length-string, length-attributes, length-append)

-- one value more
pub saturated_more : (before one after : List ℕ) (total more : ℕ) → after ≡ before ++ one → total
    ≡ saturated_length (length before) → more ≡ saturated_length (length one)
    → min (total + more) (2 ^ 64 - 1) ≡ saturated_length (length after)
saturated_more before one after total more is t m =
    let both : length after ≡ length before + length one = ap (λ (l : List ℕ). length l) is ∙ length-append before one
    in
    rw (both, t, m) (omega arith)

-- pieces as values that are written one after another
pub joined_is : (pieces : List (List ℕ)) → joined_pieces pieces ≡ flat_map (λ (p : List ℕ). p) pieces
joined_is [] = refl
joined_is (p ∷ pieces) = ap (λ (l : List ℕ). p ++ l) (joined_is pieces)

-- the piece at a place after those before it
pub joined_step : (pieces : List (List ℕ)) (i : ℕ) (piece : List ℕ) → i < length pieces → piece ≡ get_or pieces i piece
    → joined_pieces (take (i + 1) pieces) ≡ joined_pieces (take i pieces) ++ piece
joined_step pieces i piece h e =
    joined_is (take (i + 1) pieces) ∙ flat_map_step (λ (p : List ℕ). p) pieces i piece h e
    ∙ ap (λ (l : List ℕ). l ++ piece) (sym (joined_is (take i pieces)))
