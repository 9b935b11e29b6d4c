-- Fields that were written are read back, and what stands after them is left.
use Rattle.std.proofs.Common.{
  ℕ,
  ◌≡◌,
  ◌+◌,
  Bool,
  false,
  List,
  [],
  ◌++◌,
  length,
  take,
  drop,
  Option,
  Some,
  None,
  Result,
  Ok,
  IfSome,
  is_some,
  refl,
  sym,
  ap,
  ◌∙◌,
  append_assoc,
  arith,
  ltb,
  lit<,
}
use Rattle.std.specs.Int.{Width, w32, w64, byte_len, from_be_bytes}
use Rattle.std.proofs.lemmas.Bool.{le-ltb}
use Rattle.std.proofs.lemmas.List.{take_at, drop_at, length-append, append-nil}
use Rattle.std.proofs.lemmas.Nat.{from_be_bytes-to_be_bytes_4, from_be_bytes-to_be_bytes_8}
use Rattle.ssh_encoding.specs.Reading.{number_at, prefix_at, MAX_LEN}
use Rattle.ssh_encoding.specs.Writing.{uint32, uint64, string}
use Rattle.sftp_model.specs.declared.file_attrs.FileAttrs.{FileAttrs}
use Rattle.sftp_model.specs.declared.frame_error.FrameError.{FrameError}
use Rattle.sftp_model.specs.Fits.{FitsNumber, FitsLong, FitsText, FitsTwo, FitsAttributes}
use Rattle.sftp_model.specs.Frames.{where_there, two_numbers, bit, attribute_bits, attributes}
use Rattle.sftp_model.specs.Readings.{field, uint32_at, uint64_at, text_at, two_numbers_at, where_set, has_bit, attributes_at}

-- a text reads as a value, whatever follows
pub record ReadsBack {A : Type 0} (reading : List ℕ → Result (A × List ℕ) FrameError) (text : List ℕ) (v : A) : Type 0
  where
    pub back : (rest : List ℕ) → reading (text ++ rest) ≡ Ok (v, rest)

-- with nothing after it
pub whole_back : {A : Type 0} (reading : List ℕ → Result (A × List ℕ) FrameError) (text : List ℕ) (v : A)
    → ReadsBack reading text v → reading text ≡ Ok (v, [])
whole_back reading text v b = ap reading (sym (append-nil text)) ∙ b.back []

uint32_len : (n : ℕ) → length (uint32 n) ≡ 4
unfolding uint32
uint32_len n = refl

uint32_value : (n : ℕ) → FitsNumber n → from_be_bytes w32 (uint32 n) ≡ n
unfolding uint32
uint32_value n h = from_be_bytes-to_be_bytes_4 n h

uint64_len : (n : ℕ) → length (uint64 n) ≡ 8
unfolding uint64
uint64_len n = refl

uint64_value : (n : ℕ) → FitsLong n → from_be_bytes w64 (uint64 n) ≡ n
unfolding uint64
uint64_value n h = from_be_bytes-to_be_bytes_8 n h

-- the bytes of a number, by what they spell
number_is : (w : Width) (text rest : List ℕ) (n : ℕ) → length text ≡ byte_len w → from_be_bytes w text ≡ n
    → field (number_at w (text ++ rest)) ≡ Ok (n, rest)
number_is w text rest n len value =
    let long : ltb (length (text ++ rest)) (byte_len w) ≡ false =
    le-ltb _ _ (omega (arith, length-append text rest, len)) in
    rw (long, take_at text rest (byte_len w) len, drop_at text rest (byte_len w) len, value) refl

pub number_back : (n : ℕ) → FitsNumber n → ReadsBack uint32_at (uint32 n) n
number_back n h = record { back = λ rest. number_is w32 (uint32 n) rest n (uint32_len n) (uint32_value n h) }

pub long_back : (n : ℕ) → FitsLong n → ReadsBack uint64_at (uint64 n) n
long_back n h = record { back = λ rest. number_is w64 (uint64 n) rest n (uint64_len n) (uint64_value n h) }

-- a length that was spelled, and that many bytes
prefix_is : (head v rest : List ℕ) → length head ≡ 4 → from_be_bytes w32 head ≡ length v → FitsText v
    → prefix_at (head ++ (v ++ rest)) ≡ Ok (v, rest)
unfolding prefix_at
prefix_is head v rest len value h =
    let front : take 4 (head ++ (v ++ rest)) ≡ head = take_at head (v ++ rest) 4 len in
    let behind : drop 4 (head ++ (v ++ rest)) ≡ v ++ rest = drop_at head (v ++ rest) 4 len in
    let long : ltb (length (head ++ (v ++ rest))) 4 ≡ false = le-ltb _ _
    (omega (arith, length-append head (v ++ rest), len)) in
    let small : ltb MAX_LEN (length v) ≡ false = le-ltb _ _ h in
    let room : ltb (length (v ++ rest)) (length v) ≡ false = le-ltb _ _ (omega (arith, length-append v rest)) in
    rw (long, front, value, small, behind, room, take_at v rest (length v) refl, drop_at v rest (length v) refl) refl

prefix_back : (v rest : List ℕ) → FitsText v → prefix_at (string v ++ rest) ≡ Ok (v, rest)
unfolding string
prefix_back v rest h = rw (append_assoc (uint32 (length v)) v rest)
    (prefix_is (uint32 (length v)) v rest (uint32_len (length v)) (uint32_value (length v) (omega arith)) h)

pub text_back : (v : List ℕ) → FitsText v → ReadsBack text_at (string v) v
text_back v h = record { back = λ rest. rw (prefix_back v rest h) refl }

pub two_back : (p : ℕ × ℕ) → FitsTwo p → ReadsBack two_numbers_at (two_numbers p) p
unfolding two_numbers_at
two_back p h = record {
  back = λ rest. rw (
    append_assoc (uint32 p.0) (uint32 p.1) rest,
    (number_back p.0 h.0).back (uint32 p.1 ++ rest),
    (number_back p.1 h.1).back rest,
  ) refl;
}

-- a field that may be missing
where_back : {A : Type 0} (reading : List ℕ → Result (A × List ℕ) FrameError) (spelling : A → List ℕ)
    (Fits : A → Type 0)
    → ((x : A) → Fits x → ReadsBack reading (spelling x) x) → (o : Option A) → IfSome o Fits
    → ReadsBack (where_set (is_some o) reading) (where_there spelling o) o
where_back reading spelling Fits h None k = record { back = λ rest. refl }
where_back reading spelling Fits h (Some x) k = record { back = λ rest. rw ((h x k).back rest) refl }

-- the bits tell the fields that are there, and no other
record TellBits (bits : ℕ) (size id permissions time : Bool) : Type 0 where
  small : FitsNumber bits
  size_bit : has_bit bits 1 ≡ size
  id_bit : has_bit bits 2 ≡ id
  permissions_bit : has_bit bits 4 ≡ permissions
  time_bit : has_bit bits 8 ≡ time
  pairs_bit : has_bit bits 2147483648 ≡ false

tell_bits : (size : Option ℕ) (id : Option (ℕ × ℕ)) (permissions : Option ℕ) (time : Option (ℕ × ℕ))
    → TellBits (bit 1 size + bit 2 id + bit 4 permissions + bit 8 time) (is_some size) (is_some id)
    (is_some permissions) (is_some time)
tell_bits None None None None = record {
  small = lit< tt;
  size_bit = refl;
  id_bit = refl;
  permissions_bit = refl;
  time_bit = refl;
  pairs_bit = refl;
}
tell_bits None None None (Some t) = record {
  small = lit< tt;
  size_bit = refl;
  id_bit = refl;
  permissions_bit = refl;
  time_bit = refl;
  pairs_bit = refl;
}
tell_bits None None (Some p) None = record {
  small = lit< tt;
  size_bit = refl;
  id_bit = refl;
  permissions_bit = refl;
  time_bit = refl;
  pairs_bit = refl;
}
tell_bits None None (Some p) (Some t) = record {
  small = lit< tt;
  size_bit = refl;
  id_bit = refl;
  permissions_bit =
      refl;
  time_bit = refl;
  pairs_bit = refl;
}
tell_bits None (Some i) None None = record {
  small = lit< tt;
  size_bit = refl;
  id_bit = refl;
  permissions_bit = refl;
  time_bit = refl;
  pairs_bit = refl;
}
tell_bits None (Some i) None (Some t) = record {
  small = lit< tt;
  size_bit = refl;
  id_bit = refl;
  permissions_bit =
      refl;
  time_bit = refl;
  pairs_bit = refl;
}
tell_bits None (Some i) (Some p) None = record {
  small = lit< tt;
  size_bit = refl;
  id_bit = refl;
  permissions_bit =
      refl;
  time_bit = refl;
  pairs_bit = refl;
}
tell_bits None (Some i) (Some p) (Some t) = record {
  small = lit< tt;
  size_bit = refl;
  id_bit = refl;
  permissions_bit =
      refl;
  time_bit = refl;
  pairs_bit = refl;
}
tell_bits (Some s) None None None = record {
  small = lit< tt;
  size_bit = refl;
  id_bit = refl;
  permissions_bit = refl;
  time_bit = refl;
  pairs_bit = refl;
}
tell_bits (Some s) None None (Some t) = record {
  small = lit< tt;
  size_bit = refl;
  id_bit = refl;
  permissions_bit =
      refl;
  time_bit = refl;
  pairs_bit = refl;
}
tell_bits (Some s) None (Some p) None = record {
  small = lit< tt;
  size_bit = refl;
  id_bit = refl;
  permissions_bit =
      refl;
  time_bit = refl;
  pairs_bit = refl;
}
tell_bits (Some s) None (Some p) (Some t) = record {
  small = lit< tt;
  size_bit = refl;
  id_bit = refl;
  permissions_bit =
      refl;
  time_bit = refl;
  pairs_bit = refl;
}
tell_bits (Some s) (Some i) None None = record {
  small = lit< tt;
  size_bit = refl;
  id_bit = refl;
  permissions_bit =
      refl;
  time_bit = refl;
  pairs_bit = refl;
}
tell_bits (Some s) (Some i) None (Some t) = record {
  small = lit< tt;
  size_bit = refl;
  id_bit = refl;
  permissions_bit =
      refl;
  time_bit = refl;
  pairs_bit = refl;
}
tell_bits (Some s) (Some i) (Some p) None = record {
  small = lit< tt;
  size_bit = refl;
  id_bit = refl;
  permissions_bit =
      refl;
  time_bit = refl;
  pairs_bit = refl;
}
tell_bits (Some s) (Some i) (Some p) (Some t) = record {
  small = lit< tt;
  size_bit = refl;
  id_bit = refl;
  permissions_bit = refl;
  time_bit = refl;
  pairs_bit = refl;
}

pub attributes_back : (a : FileAttrs) → FitsAttributes a → ReadsBack attributes_at (attributes a) a
unfolding attributes_at attributes
attributes_back a h = record {
  back = λ rest.
      let tells = tell_bits a.size a.id a.permissions a.time in
      let time : List ℕ = where_there two_numbers a.time ++ rest in
      let permissions : List ℕ = where_there uint32 a.permissions ++ time in
      let id : List ℕ = where_there two_numbers a.id ++ permissions in
      let size : List ℕ = where_there uint64 a.size ++ id in
      simp append_assoc
      (rw (
        (number_back (attribute_bits a) tells.small).back size,
        tells.size_bit,
        (where_back uint64_at uint64 FitsLong long_back a.size h.size).back id,
        tells.id_bit,
        (where_back two_numbers_at two_numbers FitsTwo two_back a.id h.id).back permissions,
        tells.permissions_bit,
        (where_back uint32_at uint32 FitsNumber number_back a.permissions h.permissions).back time,
        tells.time_bit,
        (where_back two_numbers_at two_numbers FitsTwo two_back a.time h.time).back rest,
        tells.pairs_bit,
      ) refl);
}
