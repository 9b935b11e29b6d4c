-- Worked examples of streams: frames and their answers, and near misses beside them.
use Rattle.std.specs.Prelude.{false, ◌≡◌, ℕ, List, [], ◌∷◌, ◌++◌, codes, Option, Some, None, is_some, true, refl}
use Rattle.std.specs.Option.{option_map}
use Rattle.ssh_encoding.specs.Reading.{byte_at, prefix_at}
use Rattle.ssh_encoding.specs.Writing.{string, uint32, uint64}
use Rattle.sftp_model.specs.Frames.{attributes, reply_body}
use Rattle.sftp_model.specs.Hex.{hex}
use Rattle.sftp_model.specs.Readings.{attributes_at}
use Rattle.sftp_model.specs.RequestReadings.{
  extended_request_at,
  extension_fields_at,
  init_at,
  one_text_at,
  open_at,
  read_at,
  request_at,
  request_fields_at,
  write_at,
}
use Rattle.machine_model.specs.Components.{components}
use Rattle.machine_model.specs.FirstTree.{FirstFile, first_tree}
use Rattle.sftp_wire.specs.FrameReader.{fault_of, missing_bytes}
use Rattle.sftp_serve.specs.Stream.{ServedState, answers, first_state, answer_to_frame}

-- The state before the first frame, with these files, these extensions and no limits.
abbrev server_with : List FirstFile → ℕ → ServedState
server_with files bits = first_state false (record {
  tree = first_tree files [];
  config =
      record { extensions = record { 0 = bits }; limits = None; cut = 0 };
  grants = 0;
})

-- The bytes that are sent in answer to bodies; None if one of them may not come.
abbrev sent_to : ServedState → List (List ℕ) → Option (List ℕ)
sent_to s bodies = option_map (λ out. out.0) (answers s bodies)

abbrev hello : List ℕ
hello = hex (codes "0100000003")

-- A file `a` of two bytes.
abbrev one_file : List FirstFile
one_file = (codes "a", codes "hi") ∷ []

pub stat_of_a_file : sent_to (server_with one_file 0) (hello ∷ hex (codes "11000000070000000161") ∷ [])
    ≡ Some (hex (codes "000000050200000003") ++ hex (codes "000000116900000007000000010000000000000002"))
unfolding answer_to_frame request_at byte_at request_fields_at init_at one_text_at prefix_at components reply_body
    string uint32
    uint64 attributes
stat_of_a_file = refl

-- An unknown extension, under its id.
pub unknown_extension : sent_to (server_with [] 0) (hello ∷ hex (codes "c8000000090000000178") ∷ [])
    ≡ Some (hex (codes "000000050200000003") ++ hex (codes "000000116500000009000000080000000000000000"))
unfolding answer_to_frame request_at byte_at request_fields_at init_at extended_request_at extension_fields_at prefix_at
    components
    reply_body string uint32
unknown_extension = refl

-- It may not come before the hello.
pub unknown_before_hello : sent_to (server_with [] 0) (hex (codes "c8000000090000000178") ∷ []) ≡ None
unfolding answer_to_frame request_at byte_at request_fields_at extended_request_at extension_fields_at prefix_at
unknown_before_hello = refl

-- It is not answered if its name ends past the body.
pub unknown_without_name : sent_to (server_with [] 0) (hello ∷ hex (codes "c8000000090000000278") ∷ []) ≡ None
unfolding answer_to_frame request_at byte_at request_fields_at init_at extended_request_at extension_fields_at prefix_at
unknown_without_name = refl

-- A known extension that has no fields is no request.
pub known_without_fields : sent_to (server_with [] 4) (hello ∷
    (hex (codes "c800000009" ++ codes "00000011") ++ codes "fsync@openssh.com") ∷ []) ≡ None
unfolding answer_to_frame request_at byte_at request_fields_at init_at extended_request_at extension_fields_at
    one_text_at
    prefix_at
known_without_fields = refl

-- A type that no request has.
pub unknown_type : sent_to (server_with [] 0) (hello ∷ hex (codes "6300000009") ∷ []) ≡ None
unfolding answer_to_frame request_at byte_at request_fields_at init_at
unknown_type = refl

-- A client of a later version is answered with version 3, and one of an earlier version isn't.
pub later_version : sent_to (server_with [] 4) (hex (codes "0100000006") ∷ [])
    ≡ Some (hex (codes "0000001f0200000003" ++ codes "00000011") ++ codes "fsync@openssh.com"
    ++ hex (codes "0000000131"))
unfolding answer_to_frame request_at byte_at request_fields_at init_at reply_body string uint32
later_version = refl

pub earlier_version : sent_to (server_with [] 0) (hex (codes "0100000002") ∷ []) ≡ None
unfolding answer_to_frame request_at byte_at request_fields_at init_at
earlier_version = refl

-- The first frame is the hello, and no other is.
pub no_hello : sent_to (server_with one_file 0) (hex (codes "11000000070000000161") ∷ []) ≡ None
unfolding answer_to_frame request_at byte_at request_fields_at one_text_at prefix_at
no_hello = refl

pub two_hellos : sent_to (server_with [] 0) (hello ∷ hello ∷ []) ≡ None
unfolding answer_to_frame request_at byte_at request_fields_at init_at
two_hellos = refl

-- The bytes that were written are read: OPEN for writing and reading, WRITE, READ.
pub writes_are_read : sent_to (server_with [] 0) (hello
    ∷ hex (codes "030000000100000001620000000b00000000")
    ∷ hex (codes "0600000002000000040000000000000000000000000000000178")
    ∷ hex (codes "05000000030000000400000000000000000000000000000009") ∷ [])
    ≡ Some (hex (codes "000000050200000003")
    ++ hex (codes "0000000d66000000010000000400000000")
    ++ hex (codes "000000116500000002000000000000000000000000")
    ++ hex (codes "0000000a67000000030000000178"))
unfolding answer_to_frame request_at byte_at request_fields_at init_at open_at write_at read_at attributes_at prefix_at
    components
    reply_body string uint32
writes_are_read = refl

-- ---- Lengths

pub length_of_0 : is_some (fault_of (hex (codes "00000000"))) ≡ true
length_of_0 = refl

pub length_within : fault_of (hex (codes "000fffff")) ≡ None
length_within = refl

pub length_over : is_some (fault_of (hex (codes "00100000"))) ≡ true
length_over = refl

-- Three bytes of a length are a part of a frame, and so are no bytes.
pub three_missing_one : missing_bytes (hex (codes "000000")) ≡ 1
three_missing_one = refl

pub none_missing_four : missing_bytes [] ≡ 4
none_missing_four = refl
