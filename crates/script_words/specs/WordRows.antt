-- Worked lines, words and fields, and near misses beside them.
use Rattle.std.specs.Prelude.{
  ◌≡◌,
  ◌∷◌,
  ◌++◌,
  ◌-◌,
  ◌^◌,
  [],
  negsuc,
  true,
  codes,
  Some,
  None,
  Ok,
  Err,
  refl,
}
use Rattle.std.specs.declared.io.traits.SeekFrom.TheVariants as position
use Rattle.hex.specs.Hex.{decode_pairs}
use Rattle.sftp_model.specs.OpenOptions.{nothing_chosen}
use Rattle.script_words.specs.declared.reason.Reason.TheVariants as reason
use Rattle.script_words.specs.Lines.{lines_of, words_of, number_of, bytes_in, flags_in}
use Rattle.script_words.specs.Fields.{
  slot_in,
  number_u64,
  mode_in,
  some_in,
  position_in,
  seek_in,
  pair,
  triple,
  each_in,
  parts_in,
}

-- ---- Lines and words

pub no_lines : lines_of [] ≡ []
no_lines = refl

pub one_line : lines_of (codes "a") ≡ codes "a" ∷ []
one_line = refl

pub one_ended_line : lines_of (codes "a" ++ 10 ∷ []) ≡ codes "a" ∷ []
one_ended_line = refl

pub empty_line : lines_of (10 ∷ 10 ∷ codes "b") ≡ [] ∷ [] ∷ codes "b" ∷ []
empty_line = refl

pub three_words : words_of (codes "  a bc  d ") ≡ codes "a" ∷ codes "bc" ∷ codes "d" ∷ []
three_words = refl

pub no_words : words_of (codes "   ") ≡ []
no_words = refl

-- ---- Numbers, bytes and open flags

pub leading_zeros : number_of (codes "007") ≡ Some 7
leading_zeros = refl

pub signed : number_of (codes "+1") ≡ None
signed = refl

pub upper_and_lower : bytes_in (codes "fF0a") ≡ Ok (255 ∷ 10 ∷ [])
unfolding decode_pairs
upper_and_lower = refl

pub no_bytes : bytes_in (codes "-") ≡ Ok []
no_bytes = refl

pub odd_digits : bytes_in (codes "fF0") ≡ Err reason.Hex
odd_digits = refl

pub no_digit : bytes_in (codes "0g") ≡ Err reason.Hex
unfolding decode_pairs
no_digit = refl

pub flag_twice : flags_in (codes "rwr") ≡ Err reason.Mode
flag_twice = refl

pub flags_in_any_order : flags_in (codes "cw") ≡ Ok (record nothing_chosen { write = true; create = true })
flags_in_any_order = refl

-- ---- Fields

pub last_slot : slot_in (codes "15") ≡ Ok 15
last_slot = refl

pub slot_after_the_last : slot_in (codes "16") ≡ Err reason.Range
slot_after_the_last = refl

pub no_size : some_in number_u64 (codes "-") ≡ Ok None
no_size = refl

pub size : some_in number_u64 (codes "7") ≡ Ok (Some 7)
size = refl

pub farthest_back : position_in (codes "cur") (codes "-9223372036854775808")
    ≡ Ok (position.Current (negsuc (2 ^ 63 - 1)))
farthest_back = refl

pub position_of_no_kind : position_in (codes "begin") (codes "0") ≡ Err reason.Mode
position_of_no_kind = refl

-- A slot is checked before the kind of a seek.
pub seek_of_no_slot : seek_in (codes "16") (codes "begin") (codes "0") ≡ Err reason.Range
seek_of_no_slot = refl

pub slot_and_mode : pair slot_in mode_in (codes "4" ∷ codes "65535" ∷ []) ≡ Ok (4, 65535)
slot_and_mode = refl

-- A field is checked whole before the next one.
pub first_field_first : triple slot_in flags_in bytes_in (codes "16" ∷ codes "rr" ∷ codes "6" ∷ [])
    ≡ Err reason.Range
first_field_first = refl

-- The number of fields is checked before any of them.
pub one_field_too_few : triple slot_in flags_in bytes_in (codes "16" ∷ codes "rr" ∷ []) ≡ Err reason.Count
one_field_too_few = refl

pub no_fields : each_in bytes_in [] ≡ Ok []
no_fields = refl

pub two_parts : parts_in (codes "0" ∷ codes "61" ∷ codes "-" ∷ []) ≡ Ok (0, codes "a" ∷ [] ∷ [])
unfolding decode_pairs
two_parts = refl

pub no_parts : parts_in (codes "0" ∷ []) ≡ Err reason.Count
no_parts = refl
