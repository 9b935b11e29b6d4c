-- Every answer fits a frame.
use Rattle.std.proofs.Common.{
  ◌≡◌,
  ◌≤◌,
  ◌<◌,
  ℕ,
  ◌+◌,
  ◌*◌,
  ◌^◌,
  Bool,
  true,
  false,
  List,
  [],
  ◌∷◌,
  ◌++◌,
  length,
  map,
  Option,
  Some,
  None,
  if◌then◌else◌,
  refl,
  ap,
  sym,
  ◌∙◌,
  subst,
  arith,
  lit<,
  inl,
  inr,
  length-append,
}
use Rattle.std.specs.Prelude.{◌&&◌, IfSome, decimal, min, codes, nat_le}
use Rattle.std.specs.List.{flat_map}
use Rattle.std.specs.Option.{unwrap_or}
use Rattle.std.proofs.lemmas.Fmt.{length-decimal-le}
use Rattle.std.proofs.lemmas.List.{length-drop}
use Rattle.ssh_encoding.specs.Writing.{string, uint32}
use Rattle.sftp_model.specs.declared.config.Choice.{Choice}
use Rattle.sftp_model.specs.declared.file_attrs.FileAttrs.{FileAttrs}
use Rattle.sftp_model.specs.declared.reply.NameEntry.{NameEntry}
use Rattle.sftp_model.specs.declared.reply.Reply.{Reply}
use Rattle.sftp_model.specs.declared.reply.Reply.TheVariants as reply
use Rattle.sftp_model.specs.declared.request.Request.{Request}
use Rattle.sftp_model.specs.declared.request.Request.TheVariants as request
use Rattle.sftp_model.specs.Answers.{status}
use Rattle.sftp_model.specs.Frames.{attributes, bit, name_entry, reply_body}
use Rattle.sftp_model.specs.Numbers.{MAX_BODY_LEN, MAX_TRANSFER_LEN, SSH_FX_FAILURE, SSH_FX_OK, SSH_FX_OP_UNSUPPORTED}
use Rattle.sftp_wire.proofs.Lengths.{length-attributes, length-string, length-uint32}
use Rattle.machine_model.specs.FitTrees.{AreShort, GivesWithin, IsFit, IsShort, IsTold, MayReply}
use Rattle.machine_model.specs.Limits.{MAX_FILE_LEN}
use Rattle.machine_model.proofs.ReplyFits.{body_within}
use Rattle.machine_answers.specs.MachineState.{MachineState, answer}
use Rattle.machine_answers.proofs.ReplyLaws.{may_reply}
use Rattle.sftp_serve.specs.Details.{full_attrs, full_entry, full_reply, has_attrs, long_name, mode_text, spaces_before}
use Rattle.sftp_serve.specs.Stream.{MAX_OPEN_HANDLES, choice_for, opens_handle}

-- a DATA that is cut to the bound
within_cap : (r : Request) → GivesWithin MAX_TRANSFER_LEN r
within_cap (request.Read handle offset len) = omega arith
within_cap other = tt

code_within : (count : ℕ) (r : Request) → (choice_for count r).refuse < 2 ^ 32
code_within count r = by_test (opens_handle r && nat_le MAX_OPEN_HANDLES count)
  where
    by_test : (b : Bool) → (if b then SSH_FX_FAILURE else SSH_FX_OK) < 2 ^ 32
    by_test true = lit< tt
    by_test false = lit< tt

-- the reply of a machine by its choice
pub chosen_reply : (machine : MachineState) (r : Request) (count : ℕ) (choice : Choice) → IsFit machine.tree
    → choice ≡ choice_for count r → MayReply (answer machine r choice).0
chosen_reply machine r count choice fit is = subst (λ (w : Choice). MayReply (answer machine r w).0) (sym is)
    (may_reply machine r (choice_for count r) fit (code_within count r) (within_cap r))

pub unsupported_within : (id : ℕ) → length (reply_body (status SSH_FX_OP_UNSUPPORTED) id) ≤ MAX_BODY_LEN
unsupported_within id = body_within (status SSH_FX_OP_UNSUPPORTED) id (lit< tt, refl, refl)

-- ---- replies with all attributes and long names

bit_within : {A : Type 0} (n : ℕ) (field : Option A) → bit n field ≤ n
bit_within n None = omega arith
bit_within n (Some x) = omega arith

attrs_within : (a : FileAttrs) → length (attributes a) ≤ 32
attrs_within a =
    let l = length-attributes a in
    let s = bit_within 8 a.size in
    let i = bit_within 8 a.id in
    let p = bit_within 4 a.permissions in
    let t = bit_within 8 a.time in
    omega (arith, l, s, i, p, t)

size_within : (size : Option ℕ) → IfSome size (λ n. n ≤ MAX_FILE_LEN) → unwrap_or size 0 ≤ MAX_FILE_LEN
size_within None h = omega arith
size_within (Some n) h = h

mode_len : (mode : Option ℕ) → length (mode_text mode) ≡ 10
mode_len None = refl
mode_len (Some mode) = refl

spaces_within : (n : ℕ) → length (spaces_before n) ≤ 8
spaces_within n =
    let cut = length-drop (min (length (decimal n)) 8) (codes "        ") in
    omega (arith, cut)

digits_within : (n : ℕ) → n ≤ MAX_FILE_LEN → length (decimal n) ≤ 19
digits_within n le = length-decimal-le 19 n (omega arith) (omega (arith, le)) (omega (arith, le))

long_within : (name : List ℕ) (a : FileAttrs) → length name ≤ 255 → IsTold a → length (long_name name a) ≤ 331
long_within name a le told =
    let n : ℕ = unwrap_or a.size 0 in
    let owner : List ℕ = codes "    1 root     root     " in
    let date : List ℕ = codes " Jan  1  1970 " in
    let mode : List ℕ = mode_text a.permissions in
    let m = mode_len a.permissions in
    let s = spaces_within n in
    let d = digits_within n (size_within a.size told.0) in
    let l1 = length-append mode owner in
    let l2 = length-append (mode ++ owner) (spaces_before n) in
    let l3 = length-append ((mode ++ owner) ++ spaces_before n) (decimal n) in
    let l4 = length-append (((mode ++ owner) ++ spaces_before n) ++ decimal n) date in
    let l5 = length-append ((((mode ++ owner) ++ spaces_before n) ++ decimal n) ++ date) name in
    omega (arith, m, s, d, l1, l2, l3, l4, l5, le)

entry_len : (e : NameEntry) (n : ℕ) → length e.filename ≤ 255 → length e.longname ≤ n → length (name_entry e) ≤ 295 + n
entry_len e n name long =
    let l1 = length-append (string e.filename) (string e.longname) in
    let l2 = length-append (string e.filename ++ string e.longname) (attributes e.attrs) in
    let f = length-string e.filename in
    let g = length-string e.longname in
    let a = attrs_within e.attrs in
    omega (arith, l1, l2, f, g, a, name, long)

full_entry_within : (e : NameEntry) → IsShort e → length (name_entry (full_entry e)) ≤ 626
full_entry_within e short = by_attrs (has_attrs e.attrs)
  where
    by_attrs : (b : Bool) → length (name_entry (if b then record {
      filename = e.filename;
      longname = long_name e.filename e.attrs;
      attrs = full_attrs e.attrs;
    } else e)) ≤ 626
    by_attrs true = entry_len (record { filename = e.filename; longname = long_name e.filename e.attrs; attrs = full_attrs e.attrs }) 331 short.0
        (long_within e.filename e.attrs short.0 short.2)
    by_attrs false =
        let none : length e.longname ≡ 0 = ap length short.1 in
        let l = entry_len e 0 short.0 (omega (arith, none)) in
        omega (arith, l)

full_entries_within : (names : List NameEntry) → AreShort names
    → length (flat_map name_entry (map full_entry names)) ≤ 626 * length names
full_entries_within [] s = omega arith
full_entries_within (e ∷ names) s =
    let l = length-append (name_entry (full_entry e)) (flat_map name_entry (map full_entry names)) in
    let h = full_entry_within e s.0 in
    let more = full_entries_within names s.1 in
    omega (arith, l, h, more)

names_len : (names : List NameEntry) (id : ℕ) → length (reply_body (reply.Names names) id)
    ≡ 9 + length (flat_map name_entry names)
unfolding reply_body
names_len names id =
    let a = length-append (uint32 id) (uint32 (length names) ++ flat_map name_entry names) in
    let b = length-append (uint32 (length names)) (flat_map name_entry names) in
    let i = length-uint32 id in
    let n = length-uint32 (length names) in
    omega (arith, a, b, i, n)

pub attrs_len : (a : FileAttrs) (id : ℕ) → length (reply_body (reply.Attrs a) id) ≤ 37
unfolding reply_body
attrs_len a id =
    let c = length-append (uint32 id) (attributes a) in
    let i = length-uint32 id in
    let l = attrs_within a in
    omega (arith, c, i, l)

names_within : (names : List NameEntry) (id : ℕ) → MayReply (reply.Names names)
    → length (reply_body (full_reply (reply.Names names)) id) ≤ MAX_BODY_LEN
names_within names id (inl short) =
    let l = names_len (map full_entry names) id in
    let e = full_entries_within names short.0 in
    let n = short.1 in
    omega (arith, l, e, n)
names_within names id (inr path) =
    let same : full_reply (reply.Names names) ≡ reply.Names names = ap full_reply path.1 ∙ sym path.1 in
    subst (λ (r : Reply). length (reply_body r id) ≤ MAX_BODY_LEN) (sym same)
    (body_within (reply.Names names) id (inr path))

-- The reply of a machine fits a frame with all attributes and long names.
pub full_within : (r : Reply) (id : ℕ) → MayReply r → length (reply_body (full_reply r) id) ≤ MAX_BODY_LEN
full_within (reply.Version version extensions) id say = absurd say
full_within (reply.Status code message language) id say = body_within (reply.Status code message language) id say
full_within (reply.Handle handle) id say = body_within (reply.Handle handle) id say
full_within (reply.Content content) id say = body_within (reply.Content content) id say
full_within (reply.Names names) id say = names_within names id say
full_within (reply.Attrs attrs) id say = let l = attrs_len (full_attrs attrs) id in omega (arith, l)
full_within (reply.Extended content) id say = body_within (reply.Extended content) id say
