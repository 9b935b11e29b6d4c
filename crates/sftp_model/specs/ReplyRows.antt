-- Worked examples of the values that replies are read as, each beside a case that nearly is one.
use Rattle.std.specs.Prelude.{ℕ, ◌≡◌, [], ◌∷◌, ◌++◌, codes, Option, Some, None, Result, Ok, Err, replicate, refl}
use Rattle.ssh_encoding.specs.Reading.{byte_at, prefix_at}
use Rattle.sftp_model.specs.declared.file_attrs.FileAttrs.{FileAttrs}
use Rattle.sftp_model.specs.declared.frame_error.FrameError.{FrameError}
use Rattle.sftp_model.specs.declared.frame_error.FrameError.TheVariants.{Format, HandleTooLong}
use Rattle.sftp_model.specs.declared.frame_error.FormatKind.TheVariants.{
  Length,
  Overflow,
  TrailingData,
  InvalidDiscriminant,
}
use Rattle.sftp_model.specs.declared.reply.Reply.{Reply}
use Rattle.sftp_model.specs.declared.reply.Reply.TheVariants as reply
use Rattle.sftp_model.specs.Readings.{two_numbers_at, behind_counted_pairs, attributes_at, extensions_at}
use Rattle.sftp_model.specs.ReplyReadings.{
  version_at,
  status_at,
  handle_at,
  content_at,
  entry_at,
  names_at,
  attrs_at,
  extended_at,
  reply_fields_at,
  reply_at,
  limits_at,
}
use Rattle.sftp_model.specs.Frames.{no_attributes}
use Rattle.sftp_model.specs.Hex.{hex}

abbrev Read : Type 0
Read = Result (Option ℕ × Reply) FrameError

abbrev size_alone : ℕ → FileAttrs
size_alone n = record { size = Some n; id = None; permissions = None; time = None }

-- ---- The type byte

pub no_bytes : reply_at [] ≡ Err (Format Length)
unfolding reply_at byte_at
no_bytes = refl

pub unknown_type : reply_at (hex (codes "6a00000001")) ≡ Err (Format (InvalidDiscriminant 106))
unfolding reply_at byte_at reply_fields_at
unknown_type = refl

-- The type byte is checked before the id.
pub unknown_type_alone : reply_at (hex (codes "00")) ≡ Err (Format (InvalidDiscriminant 0))
unfolding reply_at byte_at reply_fields_at
unknown_type_alone = refl

-- ---- STATUS

pub status_reply : reply_at (hex (codes "6500000003000000020000000" ++ codes "16d00000000"))
    ≡ Ok (Some 3, reply.Status 2 (109 ∷ []) [])
unfolding reply_at byte_at reply_fields_at status_at prefix_at
status_reply = refl

pub status_byte_less : reply_at (hex (codes "6500000003000000020000000" ++ codes "16d000000")) ≡ Err (Format Length)
unfolding reply_at byte_at reply_fields_at status_at prefix_at
status_byte_less = refl

pub status_byte_more : reply_at (hex (codes "6500000003000000020000000" ++ codes "16d0000000000"))
    ≡ Err (Format (TrailingData 1))
unfolding reply_at byte_at reply_fields_at status_at prefix_at
status_byte_more = refl

pub status_without_id : reply_at (hex (codes "65000000")) ≡ Err (Format Length)
unfolding reply_at byte_at reply_fields_at status_at prefix_at
status_without_id = refl

-- ---- HANDLE and DATA

pub handle_reply : reply_at (hex (codes "660000000100000002") ++ 7 ∷ 8 ∷ []) ≡ Ok (Some 1, reply.Handle (7 ∷ 8 ∷ []))
unfolding reply_at byte_at reply_fields_at handle_at prefix_at
handle_reply = refl

pub handle_of_256 : reply_at (hex (codes "660000000100000100") ++ replicate 256 7)
    ≡ Ok (Some 1, reply.Handle (replicate 256 7))
unfolding reply_at byte_at reply_fields_at handle_at prefix_at
handle_of_256 = refl

pub handle_of_257 : reply_at (hex (codes "660000000100000101") ++ replicate 257 7) ≡ Err (HandleTooLong 257)
unfolding reply_at byte_at reply_fields_at handle_at prefix_at
handle_of_257 = refl

-- A byte after it is found first.
pub handle_of_257_and_more : reply_at (hex (codes "660000000100000101") ++ replicate 258 7)
    ≡ Err (Format (TrailingData 1))
unfolding reply_at byte_at reply_fields_at handle_at prefix_at
handle_of_257_and_more = refl

-- A length over 1048575 is refused before the bytes are looked for.
pub length_too_great : reply_at (hex (codes "670000000100100000")) ≡ Err (Format Overflow)
unfolding reply_at byte_at reply_fields_at content_at prefix_at
length_too_great = refl

pub greatest_length : reply_at (hex (codes "6700000001000fffff")) ≡ Err (Format Length)
unfolding reply_at byte_at reply_fields_at content_at prefix_at
greatest_length = refl

pub content_reply : reply_at (hex (codes "6700000001000000020102")) ≡ Ok (Some 1, reply.Content (1 ∷ 2 ∷ []))
unfolding reply_at byte_at reply_fields_at content_at prefix_at
content_reply = refl

-- The same fields under another type.
pub content_as_extended : reply_at (hex (codes "c900000001000000020102"))
    ≡ Ok (Some 1, reply.Extended (0 ∷ 0 ∷ 0 ∷ 2 ∷ 1 ∷ 2 ∷ []))
unfolding reply_at byte_at reply_fields_at extended_at
content_as_extended = refl

-- ---- ATTRS

-- An extended pair is dropped.
pub attrs_with_pair : reply_at (hex (codes "690000000280000001" ++ codes "0000000000000005"
    ++ codes "000000010000000000000000")) ≡ Ok (Some 2, reply.Attrs (size_alone 5))
unfolding reply_at byte_at reply_fields_at attrs_at attributes_at behind_counted_pairs prefix_at
attrs_with_pair = refl

pub attrs_with_pair_and_more : reply_at (hex (codes "690000000280000001" ++ codes "0000000000000005"
    ++ codes "00000001000000000000000000")) ≡ Err (Format (TrailingData 1))
unfolding reply_at byte_at reply_fields_at attrs_at attributes_at behind_counted_pairs prefix_at
attrs_with_pair_and_more = refl

pub attrs_with_cut_pair : reply_at (hex (codes "690000000280000001" ++ codes "0000000000000005"
    ++ codes "0000000100000000000000")) ≡ Err (Format Length)
unfolding reply_at byte_at reply_fields_at attrs_at attributes_at behind_counted_pairs prefix_at
attrs_with_cut_pair = refl

-- An unknown bit carries no field.
pub attrs_with_unknown_bit : reply_at (hex (codes "690000000200000010")) ≡ Ok (Some 2, reply.Attrs no_attributes)
unfolding reply_at byte_at reply_fields_at attrs_at attributes_at
attrs_with_unknown_bit = refl

pub attrs_of_all_fields : reply_at (hex (codes "69000000020000000f" ++ codes "0000000000000005"
    ++ codes "0000000100000002" ++ codes "000001a4" ++ codes "0000000300000004"))
    ≡ Ok (Some 2, reply.Attrs (record { size = Some 5; id = Some (1, 2); permissions = Some 420; time = Some (3, 4) }))
unfolding reply_at byte_at reply_fields_at attrs_at attributes_at two_numbers_at
attrs_of_all_fields = refl

-- ---- NAME

pub names_reply : reply_at (hex (codes "6800000003" ++ codes "0000000100000001780000000000000000"))
    ≡ Ok (Some 3, reply.Names (record { filename = 120 ∷ []; longname = []; attrs = no_attributes } ∷ []))
unfolding reply_at byte_at reply_fields_at names_at entry_at attributes_at prefix_at
names_reply = refl

pub no_names : reply_at (hex (codes "680000000300000000")) ≡ Ok (Some 3, reply.Names [])
unfolding reply_at byte_at reply_fields_at names_at
no_names = refl

pub names_cut_short : reply_at (hex (codes "6800000003" ++ codes "00000001000000017800000000000000"))
    ≡ Err (Format Length)
unfolding reply_at byte_at reply_fields_at names_at entry_at attributes_at prefix_at
names_cut_short = refl

-- A count of two with one entry after it.
pub names_of_one_more : reply_at (hex (codes "6800000003" ++ codes "0000000200000001780000000000000000"))
    ≡ Err (Format Length)
unfolding reply_at byte_at reply_fields_at names_at entry_at attributes_at prefix_at
names_of_one_more = refl

pub names_without_entries : reply_at (hex (codes "6800000003ffffffff")) ≡ Err (Format Length)
unfolding reply_at byte_at reply_fields_at names_at entry_at prefix_at
names_without_entries = refl

-- ---- VERSION

pub version_reply : reply_at (hex (codes "0200000003")) ≡ Ok (None, reply.Version 3 (record { 0 = 0 }))
unfolding reply_at byte_at reply_fields_at version_at extensions_at
version_reply = refl

pub version_with_limits : reply_at (hex (codes "020000000300000012") ++ codes "limits@openssh.com"
    ++ hex (codes "0000000131")) ≡ Ok (None, reply.Version 3 (record { 0 = 32 }))
unfolding reply_at byte_at reply_fields_at version_at extensions_at prefix_at
version_with_limits = refl

-- Only the value `1` counts; here it is `2`.
pub version_with_other_value : reply_at (hex (codes "020000000300000012") ++ codes "limits@openssh.com"
    ++ hex (codes "0000000132")) ≡ Ok (None, reply.Version 3 (record { 0 = 0 }))
unfolding reply_at byte_at reply_fields_at version_at extensions_at prefix_at
version_with_other_value = refl

-- An unknown name is passed over; a name that comes twice counts once.
pub version_with_unknown_name : reply_at (hex (codes "0200000003" ++ codes "000000017800000001310000000" ++ codes "9")
    ++ codes "copy-data" ++ hex (codes "000000013100000009") ++ codes "copy-data" ++ hex (codes "0000000131"))
    ≡ Ok (None, reply.Version 3 (record { 0 = 16 }))
unfolding reply_at byte_at reply_fields_at version_at extensions_at prefix_at
version_with_unknown_name = refl

pub version_with_name_alone : reply_at (hex (codes "020000000300000000")) ≡ Err (Format Length)
unfolding reply_at byte_at reply_fields_at version_at extensions_at prefix_at
version_with_name_alone = refl

-- ---- The content of the reply to the query for limits

pub limits_content : limits_at (hex (codes "00000000000000010000000000000002"
    ++ codes "00000000000000030000000000000004")) ≡ Ok (record
    { packet_len = 1; read_len = 2; write_len = 3; open_handles = 4 })
unfolding limits_at
limits_content = refl

pub limits_byte_less : limits_at (hex (codes "00000000000000010000000000000002"
    ++ codes "000000000000000300000000000000")) ≡ Err (Format Length)
unfolding limits_at
limits_byte_less = refl

pub limits_byte_more : limits_at (hex (codes "00000000000000010000000000000002"
    ++ codes "0000000000000003000000000000000400")) ≡ Err (Format (TrailingData 1))
unfolding limits_at
limits_byte_more = refl
