-- Which bodies are refused since they bear another extension.
use Rattle.std.proofs.Common.{
  ◌≡◌,
  ◌==◌,
  ℕ,
  zero,
  suc,
  Bool,
  true,
  false,
  List,
  [],
  ◌∷◌,
  length,
  take,
  drop,
  Some,
  None,
  Result,
  Ok,
  Err,
  refl,
  ap,
  sym,
  ◌∙◌,
  subst,
  arith,
  if◌then◌else◌,
}
use Rattle.std.specs.Prelude.{nat_lt}
use Rattle.std.proofs.lemmas.Bool.{eqb-true}
use Rattle.std.proofs.lemmas.Bool.Decides.{nat_tests}
use Rattle.std.specs.Int.{w32, from_be_bytes}
use Rattle.std.specs.Str.{bytes_eq}
use Rattle.ssh_encoding.specs.declared.error.Error.{Error}
use Rattle.ssh_encoding.specs.declared.error.Error.TheVariants as encoding
use Rattle.ssh_encoding.specs.Reading.{◌>>=◌, byte_at}
use Rattle.sftp_model.specs.declared.frame_error.FormatKind.TheVariants as kinds
use Rattle.sftp_model.specs.declared.frame_error.FrameError.{FrameError}
use Rattle.sftp_model.specs.declared.frame_error.FrameError.TheVariants as errors
use Rattle.sftp_model.specs.declared.file_attrs.FileAttrs.{FileAttrs}
use Rattle.sftp_model.specs.declared.request.Request.{Request}
use Rattle.sftp_model.specs.declared.request.Request.TheVariants as request
use Rattle.sftp_model.specs.FieldErrors.{frame_error}
use Rattle.sftp_model.specs.Frames.{copy_data_name, expand_path_name, extension_table, fsync_name, hardlink_name, limits_name, posix_rename_name}
use Rattle.sftp_model.specs.Numbers.{
  SSH_FILEXFER_ATTR_ACMODTIME,
  SSH_FILEXFER_ATTR_EXTENDED,
  SSH_FILEXFER_ATTR_PERMISSIONS,
  SSH_FILEXFER_ATTR_SIZE,
  SSH_FILEXFER_ATTR_UIDGID,
  SSH_FXP_EXTENDED,
}
use Rattle.sftp_model.specs.Readings.{
  attributes_at,
  behind_counted_pairs,
  behind_pairs,
  field,
  has_bit,
  named_bit,
  text_at,
  two_numbers_at,
  uint32_at,
  uint64_at,
  unknown_type,
  where_set,
  whole,
  with_id,
  with_short_handles,
  without_id,
}
use Rattle.sftp_model.specs.RequestReadings.{
  copy_data_at,
  extended_request_at,
  extension_fields_at,
  handles_of_request,
  init_at,
  one_text_at,
  open_at,
  read_at,
  request_at,
  request_fields_at,
  text_and_attributes_at,
  two_texts_at,
  write_at,
}
use Rattle.sftp_serve.specs.OtherExtensions.{AnswersNoMore, AnswersOthers, IsOther}
use Rattle.sftp_serve.specs.Stream.{id_in, answer_to_frame, to_read, unknown_id}

-- ---- readings that never refuse so

abbrev refusal : FrameError
refusal = errors.Format (kinds.InvalidDiscriminant 200)

record Plain {A : Type 0} (r : Result A FrameError) : Type 0 where
  is : r ≡ Err refusal → ⊥

ok_plain : {A : Type 0} (x : A) → Plain (let r : Result A FrameError = Ok x in r)
ok_plain x = record { is = λ e. cc }

same_error : {A B : Type 0} (e d : FrameError) → (let r : Result A FrameError = Err e in r) ≡ Err d
    → (let r : Result B FrameError = Err e in r) ≡ Err d
same_error {B = B} e d h = let is : e ≡ d = cc h in λ i. Err (is i)

bind_plain : {A B : Type 0} (m : Result A FrameError) (f : A → Result B FrameError) → Plain m → ((x : A) → Plain (f x))
    → Plain (m >>= f)
bind_plain (Ok x) f p q = q x
bind_plain {A = A} {B = B} (Err e) f p q = record { is = λ h. p.is (same_error {A = B} {B = A} e refusal h) }

if_plain : {A : Type 0} (b : Bool) (x y : Result A FrameError) → Plain x → Plain y → Plain (if b then x else y)
if_plain true x y p q = p
if_plain false x y p q = q

not_so : (e : Error) → frame_error e ≡ refusal → ⊥
not_so encoding.OutOfMemory h = absurd cc
not_so encoding.Overflow h = absurd cc
not_so encoding.CharacterEncoding h = absurd cc
not_so (encoding.Label l) h = absurd cc
not_so encoding.Length h = absurd cc
not_so encoding.MpintEncoding h = absurd cc
not_so (encoding.TrailingData n) h = absurd cc
not_so (encoding.InvalidDiscriminant n) h = absurd cc

field_plain : {A : Type 0} (r : Result A Error) → Plain (field r)
field_plain (Ok x) = ok_plain x
field_plain (Err e) = record { is = λ h. not_so e (cc h) }

where_plain : {A : Type 0} (b : Bool) (f : List ℕ → Result (A × List ℕ) FrameError) (bytes : List ℕ)
    → ((rest : List ℕ) → Plain (f rest)) → Plain (where_set b f bytes)
where_plain false f bytes p = ok_plain _
where_plain true f bytes p = bind_plain (f bytes) _ (p bytes) (λ x. ok_plain _)

text_plain : (bytes : List ℕ) → Plain (text_at bytes)
text_plain bytes = field_plain _

number_plain : (bytes : List ℕ) → Plain (uint32_at bytes)
number_plain bytes = field_plain _

long_plain : (bytes : List ℕ) → Plain (uint64_at bytes)
long_plain bytes = field_plain _

two_plain : (bytes : List ℕ) → Plain (two_numbers_at bytes)
unfolding two_numbers_at
two_plain bytes = bind_plain (uint32_at bytes) _ (number_plain bytes)
    (λ a. bind_plain (uint32_at a.1) _ (number_plain a.1) (λ b. ok_plain _))

pairs_plain : (n : ℕ) (bytes : List ℕ) → Plain (behind_pairs n bytes)
pairs_plain zero bytes = ok_plain _
pairs_plain (suc n) bytes = bind_plain (text_at bytes) _ (text_plain bytes)
    (λ a. bind_plain (text_at a.1) _ (text_plain a.1) (λ b. pairs_plain n b.1))

counted_plain : (bytes : List ℕ) → Plain (behind_counted_pairs bytes)
unfolding behind_counted_pairs
counted_plain bytes = bind_plain (uint32_at bytes) _ (number_plain bytes)
    (λ a. bind_plain (behind_pairs a.0 a.1) _ (pairs_plain a.0 a.1) (λ b. ok_plain _))

attributes_plain : (bytes : List ℕ) → Plain (attributes_at bytes)
unfolding attributes_at
attributes_plain bytes =
    bind_plain (uint32_at bytes) _ (number_plain bytes) (λ flags.
    bind_plain (where_set (has_bit flags.0 SSH_FILEXFER_ATTR_SIZE) uint64_at flags.1) _
    (where_plain (has_bit flags.0 SSH_FILEXFER_ATTR_SIZE) uint64_at flags.1 long_plain) (λ b.
    bind_plain (where_set (has_bit flags.0 SSH_FILEXFER_ATTR_UIDGID) two_numbers_at b.1) _
    (where_plain (has_bit flags.0 SSH_FILEXFER_ATTR_UIDGID) two_numbers_at b.1 two_plain) (λ c.
    bind_plain (where_set (has_bit flags.0 SSH_FILEXFER_ATTR_PERMISSIONS) uint32_at c.1) _
    (where_plain (has_bit flags.0 SSH_FILEXFER_ATTR_PERMISSIONS) uint32_at c.1 number_plain) (λ d.
    bind_plain (where_set (has_bit flags.0 SSH_FILEXFER_ATTR_ACMODTIME) two_numbers_at d.1) _
    (where_plain (has_bit flags.0 SSH_FILEXFER_ATTR_ACMODTIME) two_numbers_at d.1 two_plain) (λ e.
    bind_plain (where_set (has_bit flags.0 SSH_FILEXFER_ATTR_EXTENDED) behind_counted_pairs e.1) _
    (where_plain (has_bit flags.0 SSH_FILEXFER_ATTR_EXTENDED) behind_counted_pairs e.1 counted_plain)
    (λ f. ok_plain _))))))

init_plain : (bytes : List ℕ) → Plain (init_at bytes)
unfolding init_at
init_plain bytes = bind_plain (uint32_at bytes) _ (number_plain bytes) (λ a. ok_plain _)

open_plain : (bytes : List ℕ) → Plain (open_at bytes)
unfolding open_at
open_plain bytes = bind_plain (text_at bytes) _ (text_plain bytes)
    (λ a. bind_plain (uint32_at a.1) _ (number_plain a.1) (λ b. bind_plain (attributes_at b.1) _ (attributes_plain b.1)
    (λ c. ok_plain _)))

read_plain : (bytes : List ℕ) → Plain (read_at bytes)
unfolding read_at
read_plain bytes = bind_plain (text_at bytes) _ (text_plain bytes)
    (λ a. bind_plain (uint64_at a.1) _ (long_plain a.1) (λ b. bind_plain (uint32_at b.1) _ (number_plain b.1)
    (λ c. ok_plain _)))

write_plain : (bytes : List ℕ) → Plain (write_at bytes)
unfolding write_at
write_plain bytes = bind_plain (text_at bytes) _ (text_plain bytes)
    (λ a. bind_plain (uint64_at a.1) _ (long_plain a.1) (λ b. bind_plain (text_at b.1) _ (text_plain b.1)
    (λ c. ok_plain _)))

one_plain : (made : List ℕ → Request) (bytes : List ℕ) → Plain (one_text_at made bytes)
unfolding one_text_at
one_plain made bytes = bind_plain (text_at bytes) _ (text_plain bytes) (λ a. ok_plain _)

both_plain : (made : List ℕ → List ℕ → Request) (bytes : List ℕ) → Plain (two_texts_at made bytes)
unfolding two_texts_at
both_plain made bytes = bind_plain (text_at bytes) _ (text_plain bytes)
    (λ a. bind_plain (text_at a.1) _ (text_plain a.1) (λ b. ok_plain _))

text_attributes_plain : (made : List ℕ → FileAttrs → Request) (bytes : List ℕ)
    → Plain (text_and_attributes_at made bytes)
unfolding text_and_attributes_at
text_attributes_plain made bytes = bind_plain (text_at bytes) _ (text_plain bytes)
    (λ a. bind_plain (attributes_at a.1) _ (attributes_plain a.1) (λ b. ok_plain _))

copy_plain : (bytes : List ℕ) → Plain (copy_data_at bytes)
unfolding copy_data_at
copy_plain bytes =
    bind_plain (text_at bytes) _ (text_plain bytes) (λ a. bind_plain (uint64_at a.1) _ (long_plain a.1)
    (λ b. bind_plain (uint64_at b.1) _ (long_plain b.1) (λ c. bind_plain (text_at c.1) _ (text_plain c.1)
    (λ d. bind_plain (uint64_at d.1) _ (long_plain d.1) (λ e. ok_plain _)))))

id_plain : (f : List ℕ → Result (Request × List ℕ) FrameError) (bytes : List ℕ) → ((rest : List ℕ) → Plain (f rest))
    → Plain (with_id f bytes)
id_plain f bytes p = bind_plain (uint32_at bytes) _ (number_plain bytes)
    (λ a. bind_plain (f a.1) _ (p a.1) (λ b. ok_plain _))

hello_plain : (bytes : List ℕ) → Plain (without_id init_at bytes)
hello_plain bytes = bind_plain (init_at bytes) _ (init_plain bytes) (λ a. ok_plain _)

unknown_plain : {A : Type 0} (k : ℕ) → (k == 200) ≡ false → Plain (let r : Result A FrameError = unknown_type k in r)
unknown_plain k other = record {
  is = λ h. (let is : k ≡ 200 = cc h in let t : (k == 200) ≡ true =
      ap (λ (n : ℕ). n == 200) is in cc);
}

-- a body of another type
fields_plain : (k : ℕ) (bytes : List ℕ) → (k == 200) ≡ false → Plain (request_fields_at k bytes)
unfolding request_fields_at
fields_plain k bytes other =
    if_plain (k == 1) _ _ (hello_plain bytes)
    (if_plain (k == 3) _ _ (id_plain open_at bytes open_plain)
    (if_plain (k == 4) _ _ (id_plain (one_text_at request.Close) bytes (one_plain request.Close))
    (if_plain (k == 5) _ _ (id_plain read_at bytes read_plain)
    (if_plain (k == 6) _ _ (id_plain write_at bytes write_plain)
    (if_plain (k == 7) _ _ (id_plain (one_text_at request.Lstat) bytes (one_plain request.Lstat))
    (if_plain (k == 8) _ _ (id_plain (one_text_at request.Fstat) bytes (one_plain request.Fstat))
    (if_plain (k == 9) _ _ (id_plain (text_and_attributes_at request.Setstat) bytes
    (text_attributes_plain request.Setstat))
    (if_plain (k == 10) _ _ (id_plain (text_and_attributes_at request.Fsetstat) bytes
    (text_attributes_plain request.Fsetstat))
    (if_plain (k == 11) _ _ (id_plain (one_text_at request.Opendir) bytes (one_plain request.Opendir))
    (if_plain (k == 12) _ _ (id_plain (one_text_at request.Readdir) bytes (one_plain request.Readdir))
    (if_plain (k == 13) _ _ (id_plain (one_text_at request.Remove) bytes (one_plain request.Remove))
    (if_plain (k == 14) _ _ (id_plain (text_and_attributes_at request.Mkdir) bytes
    (text_attributes_plain request.Mkdir))
    (if_plain (k == 15) _ _ (id_plain (one_text_at request.Rmdir) bytes (one_plain request.Rmdir))
    (if_plain (k == 16) _ _ (id_plain (one_text_at request.Realpath) bytes (one_plain request.Realpath))
    (if_plain (k == 17) _ _ (id_plain (one_text_at request.Stat) bytes (one_plain request.Stat))
    (if_plain (k == 18) _ _ (id_plain (two_texts_at request.Rename) bytes (both_plain request.Rename))
    (if_plain (k == 19) _ _ (id_plain (one_text_at request.Readlink) bytes (one_plain request.Readlink))
    (if_plain (k == 20) _ _ (id_plain (two_texts_at request.Symlink) bytes (both_plain request.Symlink))
    (extended_not (k == 200) other)))))))))))))))))))
  where
    extended_not : (b : Bool) → b ≡ false → Plain (if b then with_id extended_request_at bytes else unknown_type k)
    extended_not true e = absurd cc
    extended_not false e = unknown_plain k other

whole_plain : {A : Type 0} (read : A × List ℕ) → Plain (whole read)
whole_plain read = if_plain (length read.1 == 0) _ _ (ok_plain read.0) (record { is = λ h. cc h })

handles_plain : {A : Type 0} (handles : List (List ℕ)) (x : A) → Plain (with_short_handles handles x)
handles_plain [] x = ok_plain x
handles_plain (h ∷ handles) x = if_plain (nat_lt 256 (length h)) _ _ (record { is = λ e. cc e })
    (handles_plain handles x)

-- ---- names

-- the bit of the first name that is met
abbrev bit_by : (a b c d e f : Bool) → ℕ
bit_by a b c d e f = if a then 1 else if b then 2 else if c then 4 else if d then 8 else if e then 16 else if f then
    32 else 0

-- a name that is none of the table, and one that is
fields_unknown : (a b c d e f : Bool) (p q r s t u v : Result (Request × List ℕ) FrameError)
    → bit_by a b c d e f ≡ 0
    → (if a then p else if b then q else if c then r else if d then s else if e then t else if f then u else v) ≡ v
fields_unknown true b c d e f p q r s t u v z = absurd cc
fields_unknown false true c d e f p q r s t u v z = absurd cc
fields_unknown false false true d e f p q r s t u v z = absurd cc
fields_unknown false false false true e f p q r s t u v z = absurd cc
fields_unknown false false false false true f p q r s t u v z = absurd cc
fields_unknown false false false false false true p q r s t u v z = absurd cc
fields_unknown false false false false false false p q r s t u v z = refl

fields_known : (a b c d e f : Bool) (p q r s t u v : Result (Request × List ℕ) FrameError) → Plain p → Plain q → Plain r
    → Plain s → Plain t → Plain u
    → (if a then p else if b then q else if c then r else if d then s else if e then t else if f then u else v)
    ≡ Err refusal
    → bit_by a b c d e f ≡ 0
fields_known true b c d e f p q r s t u v kp kq kr ks kt ku h = absurd (kp.is h)
fields_known false true c d e f p q r s t u v kp kq kr ks kt ku h = absurd (kq.is h)
fields_known false false true d e f p q r s t u v kp kq kr ks kt ku h = absurd (kr.is h)
fields_known false false false true e f p q r s t u v kp kq kr ks kt ku h = absurd (ks.is h)
fields_known false false false false true f p q r s t u v kp kq kr ks kt ku h = absurd (kt.is h)
fields_known false false false false false true p q r s t u v kp kq kr ks kt ku h = absurd (ku.is h)
fields_known false false false false false false p q r s t u v kp kq kr ks kt ku h = refl

other_fields : (name bytes : List ℕ) → named_bit extension_table name ≡ 0 → extension_fields_at name bytes ≡ Err refusal
unfolding extension_fields_at
other_fields name bytes none =
    fields_unknown (bytes_eq name posix_rename_name) (bytes_eq name hardlink_name) (bytes_eq name fsync_name)
    (bytes_eq name expand_path_name) (bytes_eq name copy_data_name) (bytes_eq name limits_name) _ _ _ _ _ _ _ none

named_fields : (name bytes : List ℕ) → extension_fields_at name bytes ≡ Err refusal → named_bit extension_table name ≡ 0
unfolding extension_fields_at
named_fields name bytes h =
    fields_known (bytes_eq name posix_rename_name) (bytes_eq name hardlink_name) (bytes_eq name fsync_name)
    (bytes_eq name expand_path_name) (bytes_eq name copy_data_name) (bytes_eq name limits_name) _ _ _ _ _ _ _
    (both_plain request.PosixRename bytes) (both_plain request.Hardlink bytes) (one_plain request.Fsync bytes)
    (one_plain request.ExpandPath bytes) (copy_plain bytes) (ok_plain _) h

-- ---- both ways

id_of_number : (k id : ℕ) (fields behind : List ℕ) → uint32_at fields ≡ Ok (id, behind) → id_in (k ∷ fields) ≡ Some id
id_of_number k id fields behind e = by_len (nat_lt (length fields) 4) refl e
  where
    by_len : (b : Bool) → nat_lt (length fields) 4 ≡ b → (let r : Result (ℕ × List ℕ) FrameError =
        field (if b then Err encoding.Length else Ok (from_be_bytes w32 (take 4 fields), drop 4 fields)) in r)
        ≡ Ok (id, behind) → id_in (k ∷ fields) ≡ Some id
    by_len true is h = absurd cc
    by_len false is h =
        let long : nat_lt (length (k ∷ fields)) 5 ≡ false = grind (arith, nat_tests, is) in
        let pair : (let p : ℕ × List ℕ = (from_be_bytes w32 (take 4 fields), drop 4 fields) in p) ≡ (id, behind) = cc h
        in
        let value : from_be_bytes w32 (take 4 fields) ≡ id = ap (λ (p : ℕ × List ℕ). p.0) pair in
        rw long (ap Some value)

other_reads : (body : List ℕ) (id : ℕ) → IsOther body id → request_at body ≡ Err refusal
unfolding request_at byte_at request_fields_at extended_request_at
other_reads body id o =
    rw o.kind (rw o.numbered (rw o.named (rw (other_fields o.name o.rest o.other) refl)))

pub answers_others : AnswersOthers
unfolding answer_to_frame
answers_others s body id up o =
    let read = other_reads body id o in
    let number : id_in body ≡ Some id = ap id_in o.kind ∙ id_of_number SSH_FXP_EXTENDED id o.fields o.behind o.numbered
    in
    ap (to_read s body) read ∙ rw (up, number) refl

-- a step that was refused so
bind_refused : {A B : Type 0} (m : Result A FrameError) (f : A → Result B FrameError) → Plain m → (m >>= f)
    ≡ Err refusal → (x : A) × (m ≡ Ok x) × (f x ≡ Err refusal)
bind_refused (Ok x) f p h = (x, refl, h)
bind_refused {A = A} {B = B} (Err e) f p h = absurd (p.is (same_error {A = B} {B = A} e refusal h))

first_refused : {A B : Type 0} (m : Result A FrameError) (f : A → Result B FrameError) → ((x : A) → Plain (f x))
    → (m >>= f) ≡ Err refusal → m ≡ Err refusal
first_refused (Ok x) f p h = absurd ((p x).is h)
first_refused {A = A} {B = B} (Err e) f p h = same_error {A = B} {B = A} e refusal h

extended_refused : (fields : List ℕ) → with_id extended_request_at fields ≡ Err refusal → (id : ℕ)
    × IsOther (SSH_FXP_EXTENDED ∷ fields) id
unfolding extended_request_at
extended_refused fields h =
    let number = bind_refused (uint32_at fields) _ (number_plain fields) h in
    let inner = first_refused (extended_request_at number.0.1) _ (λ x. ok_plain _) number.2 in
    let name = bind_refused (text_at number.0.1) _ (text_plain number.0.1) inner in (
      number.0.0,
      record {
        fields = fields;
        behind = number.0.1;
        name = name.0.0;
        rest = name.0.1;
        kind = refl;
        numbered = number.1;
        named = name.1;
        other = named_fields name.0.0 name.0.1 name.2;
      },
    )

fields_refused : (k : ℕ) (fields : List ℕ) → request_fields_at k fields ≡ Err refusal → (id : ℕ)
    × IsOther (k ∷ fields) id
unfolding request_fields_at
fields_refused k fields h = by_kind (k == 200) refl
  where
    by_kind : (b : Bool) → (k == 200) ≡ b → (id : ℕ) × IsOther (k ∷ fields) id
    by_kind true is =
        let same : k ≡ 200 = eqb-true k 200 is in
        subst (λ (n : ℕ). (id : ℕ) × IsOther (n ∷ fields) id) (sym same)
        (extended_refused fields (subst (λ (n : ℕ). request_fields_at n fields ≡ Err refusal) same h))
    by_kind false is = absurd ((fields_plain k fields is).is h)

read_refused : (body : List ℕ) → request_at body ≡ Err refusal → (id : ℕ) × IsOther body id
unfolding request_at byte_at
read_refused [] h = absurd cc
read_refused (k ∷ fields) h =
    fields_refused k fields (first_refused (request_fields_at k fields) _
    (λ x. bind_plain (whole x) _ (whole_plain x) (λ read. handles_plain (handles_of_request read.1) read)) h)

by_refusal : (body : List ℕ) (e : FrameError) (id : ℕ) → unknown_id body e ≡ Some id → (e ≡ refusal)
    × (id_in body ≡ Some id)
by_refusal body errors.OutOfMemory id h = absurd cc
by_refusal body (errors.HandleTooLong len) id h = absurd cc
by_refusal body (errors.Format kinds.Length) id h = absurd cc
by_refusal body (errors.Format kinds.Overflow) id h = absurd cc
by_refusal body (errors.Format (kinds.TrailingData n)) id h = absurd cc
by_refusal body (errors.Format (kinds.InvalidDiscriminant k)) id h = by_kind (k == 200) refl h
  where
    by_kind : (b : Bool) → (k == 200) ≡ b → (if b then id_in body else None) ≡ Some id
        → (errors.Format (kinds.InvalidDiscriminant k) ≡ refusal) × (id_in body ≡ Some id)
    by_kind true is g = (ap (λ (n : ℕ). errors.Format (kinds.InvalidDiscriminant n)) (eqb-true k 200 is), g)
    by_kind false is g = absurd cc

pub answers_no_more : AnswersNoMore
answers_no_more body e id read unknown =
    let by = by_refusal body e id unknown in
    let o = read_refused body (read ∙ ap Err by.0) in
    let same : Some o.0 ≡ Some id = sym (ap id_in o.1.kind ∙ id_of_number SSH_FXP_EXTENDED o.0 o.1.fields o.1.behind
    o.1.numbered) ∙ by.1 in
    let is : o.0 ≡ id = cc same in
    subst (IsOther body) is o.1
