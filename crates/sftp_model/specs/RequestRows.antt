-- Worked examples of the values that requests are read as, each beside a case that nearly is one.
use Rattle.std.specs.Prelude.{◌≡◌, [], ◌∷◌, ◌++◌, codes, Some, None, Ok, Err, replicate, refl}
use Rattle.ssh_encoding.specs.Reading.{byte_at, prefix_at}
use Rattle.sftp_model.specs.declared.frame_error.FrameError.TheVariants.{Format, HandleTooLong}
use Rattle.sftp_model.specs.declared.frame_error.FormatKind.TheVariants.{Length, TrailingData, InvalidDiscriminant}
use Rattle.sftp_model.specs.declared.request.Request.TheVariants as request
use Rattle.sftp_model.specs.Readings.{attributes_at}
use Rattle.sftp_model.specs.RequestReadings.{
  init_at,
  open_at,
  read_at,
  one_text_at,
  two_texts_at,
  copy_data_at,
  extension_fields_at,
  extended_request_at,
  request_fields_at,
  request_at,
}
use Rattle.sftp_model.specs.Frames.{no_attributes}
use Rattle.sftp_model.specs.Hex.{hex}

pub hello : request_at (hex (codes "0100000003")) ≡ Ok (None, request.Init 3)
unfolding request_at byte_at request_fields_at init_at
hello = refl

pub hello_with_id : request_at (hex (codes "010000000000000003")) ≡ Err (Format (TrailingData 4))
unfolding request_at byte_at request_fields_at init_at
hello_with_id = refl

pub open_to_read : request_at (hex (codes "030000000000000001610000000100000000"))
    ≡ Ok (Some 0, request.OpenFile (97 ∷ []) (record { 0 = 1 }) no_attributes)
unfolding request_at byte_at request_fields_at open_at attributes_at prefix_at
open_to_read = refl

pub open_byte_less : request_at (hex (codes "0300000000000000016100000001000000")) ≡ Err (Format Length)
unfolding request_at byte_at request_fields_at open_at attributes_at prefix_at
open_byte_less = refl

pub close_request : request_at (hex (codes "04000000010000000400000000"))
    ≡ Ok (Some 1, request.Close (0 ∷ 0 ∷ 0 ∷ 0 ∷ []))
unfolding request_at byte_at request_fields_at one_text_at prefix_at
close_request = refl

pub close_byte_more : request_at (hex (codes "0400000001000000040000000000")) ≡ Err (Format (TrailingData 1))
unfolding request_at byte_at request_fields_at one_text_at prefix_at
close_byte_more = refl

-- The same fields under another type.
pub close_as_fstat : request_at (hex (codes "08000000010000000400000000"))
    ≡ Ok (Some 1, request.Fstat (0 ∷ 0 ∷ 0 ∷ 0 ∷ []))
unfolding request_at byte_at request_fields_at one_text_at prefix_at
close_as_fstat = refl

pub no_such_type : request_at (hex (codes "02000000010000000400000000")) ≡ Err (Format (InvalidDiscriminant 2))
unfolding request_at byte_at request_fields_at
no_such_type = refl

pub read_request : request_at (hex (codes "05000000010000000107" ++ codes "000000000000010200000005"))
    ≡ Ok (Some 1, request.Read (7 ∷ []) 258 5)
unfolding request_at byte_at request_fields_at read_at prefix_at
read_request = refl

pub handle_of_257 : request_at (hex (codes "0400000001" ++ codes "00000101") ++ replicate 257 7)
    ≡ Err (HandleTooLong 257)
unfolding request_at byte_at request_fields_at one_text_at prefix_at
handle_of_257 = refl

-- A path may be longer than a handle.
pub path_of_257 : request_at (hex (codes "0700000001" ++ codes "00000101") ++ replicate 257 7)
    ≡ Ok (Some 1, request.Lstat (replicate 257 7))
unfolding request_at byte_at request_fields_at one_text_at prefix_at
path_of_257 = refl

-- The error has the length of the first of two long handles, and only if all fields can be read.
pub two_long_handles : request_at (hex (codes "c80000000100000009") ++ codes "copy-data" ++ hex (codes "00000101")
    ++ replicate 257 7 ++ replicate 16 0 ++ hex (codes "00000102") ++ replicate 258 7 ++ replicate 8 0)
    ≡ Err (HandleTooLong 257)
unfolding request_at byte_at request_fields_at extended_request_at extension_fields_at copy_data_at prefix_at
two_long_handles = refl

pub long_handle_cut_short : request_at (hex (codes "c80000000100000009") ++ codes "copy-data" ++ hex (codes "00000101")
    ++ replicate 257 7 ++ replicate 15 0) ≡ Err (Format Length)
unfolding request_at byte_at request_fields_at extended_request_at extension_fields_at copy_data_at prefix_at
long_handle_cut_short = refl

pub limits_request : request_at (hex (codes "c80000000000000012") ++ codes "limits@openssh.com")
    ≡ Ok (Some 0, request.LimitsQuery)
unfolding request_at byte_at request_fields_at extended_request_at extension_fields_at prefix_at
limits_request = refl

-- A name that is not one of the six.
pub unknown_extension : request_at (hex (codes "c80000000000000012") ++ codes "limits@openssh.org")
    ≡ Err (Format (InvalidDiscriminant 200))
unfolding request_at byte_at request_fields_at extended_request_at extension_fields_at prefix_at
unknown_extension = refl

pub rename_by_extension : request_at (hex (codes "c80000000000000018") ++ codes "posix-rename@openssh.com"
    ++ hex (codes "00000001610000000162")) ≡ Ok (Some 0, request.PosixRename (97 ∷ []) (98 ∷ []))
unfolding request_at byte_at request_fields_at extended_request_at extension_fields_at two_texts_at prefix_at
rename_by_extension = refl
