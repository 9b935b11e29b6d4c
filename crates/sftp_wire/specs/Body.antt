-- The body of a frame as a type byte, an id if it has one, and fields.
use Rattle.std.specs.Prelude.{
  ℕ,
  Bool,
  true,
  false,
  ◌≡◌,
  ◌<◌,
  ◌≤◌,
  ◌-◌,
  ◌^◌,
  List,
  [],
  ◌∷◌,
  ◌++◌,
  length,
  min,
  Option,
  Some,
  None,
}
use Rattle.std.specs.List.{flat_map}
use Rattle.ssh_encoding.specs.Writing.{uint32, uint64, string}
use Rattle.sftp_model.specs.Numbers.{MAX_BODY_LEN}
use Rattle.sftp_model.specs.Frames.{attributes, name_entry, extension_pairs, extension_table, request_body, reply_body}
use Rattle.sftp_model.specs.Pieces.{joined_pieces}
use Rattle.sftp_wire.specs.declared.body.Field.{Field}
use Rattle.sftp_wire.specs.declared.body.Field.TheVariants as fields
use Rattle.sftp_wire.specs.declared.body.Body.{Body}
use Rattle.sftp_wire.specs.declared.write.Message.{Message}
use Rattle.sftp_wire.specs.declared.write.Message.TheVariants as message

-- The bytes written for a field.
abbrev pub field_bytes : Field → List ℕ
field_bytes fields.Nothing = []
field_bytes (fields.Number n) = uint32 n
field_bytes (fields.Long n) = uint64 n
field_bytes (fields.Text text) = string text.now
field_bytes (fields.Pieces pieces) = string (joined_pieces pieces.now)
field_bytes (fields.Attributes attrs) = attributes attrs
field_bytes (fields.Entries entries) = uint32 (length entries.now) ++ flat_map name_entry entries.now
field_bytes (fields.Pairs set) = extension_pairs set.0 extension_table
field_bytes (fields.Raw bytes) = bytes.now

abbrev pub id_bytes : Bool → ℕ → List ℕ
id_bytes true id = uint32 id
id_bytes false id = []

-- The bytes written for a body, with an id if it has one.
abbrev pub body_bytes : Body → ℕ → List ℕ
body_bytes body id = body.kind ∷ (id_bytes body.has_id id ++ flat_map field_bytes body.fields)

-- The body of the request or reply that a frame carries.
abbrev pub message_body : Message → ℕ → List ℕ
message_body (message.Request r) id = request_body r.now id
message_body (message.Reply r) id = reply_body r.now id

-- A length, or the greatest `usize` if it is over that.
abbrev pub saturated_length : ℕ → ℕ
saturated_length n = min n (2 ^ 64 - 1)

-- A length within the limit of bodies, or the fact that it is over the limit.
abbrev pub IsLengthWithin : Option ℕ → ℕ → Type 0
IsLengthWithin None len = MAX_BODY_LEN < len
IsLengthWithin (Some n) len = (n ≡ len) × (len ≤ MAX_BODY_LEN)

-- `new` is `old` followed by more bytes.
pub record AppendsBytes (old new : List ℕ) : Type 0 where
  pub more : List ℕ
  pub is : new ≡ old ++ more
