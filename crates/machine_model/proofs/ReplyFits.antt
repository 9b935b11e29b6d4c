-- What a tree may reply fits a frame, and its body is within the bound.
use Rattle.std.proofs.Common.{
  ◌≡◌,
  ℕ,
  zero,
  suc,
  ◌+◌,
  ◌*◌,
  ◌<◌,
  ◌≤◌,
  List,
  [],
  ◌∷◌,
  ◌++◌,
  length,
  Option,
  Some,
  None,
  get_or,
  refl,
  ap,
  sym,
  ◌∙◌,
  subst,
  arith,
  inl,
  inr,
}
use Rattle.std.specs.Prelude.{IfSome, flat_map}
use Rattle.std.proofs.lemmas.List.{length-append}
use Rattle.ssh_encoding.specs.Writing.{uint32, uint64, string}
use Rattle.sftp_model.specs.declared.config.Limits.{Limits}
use Rattle.sftp_model.specs.declared.file_attrs.FileAttrs.{FileAttrs}
use Rattle.sftp_model.specs.declared.reply.NameEntry.{NameEntry}
use Rattle.sftp_model.specs.declared.reply.Reply.{Reply}
use Rattle.sftp_model.specs.declared.reply.Reply.TheVariants as reply
use Rattle.sftp_model.specs.Fits.{FitsAttributes, FitsEntry, FitsReply, FitsLong, FitsTwo, FitsNumber}
use Rattle.sftp_model.specs.Frames.{no_attributes, attributes, where_there, two_numbers, attribute_bits, name_entry, limits_content, reply_body}
use Rattle.sftp_model.specs.Numbers.{MAX_BODY_LEN}
use Rattle.machine_model.specs.Components.{Name, text_of_name}
use Rattle.machine_model.specs.FitTrees.{AreShort, IsShort, IsTold, MayReply}
use Rattle.machine_model.specs.Limits.{DIRECTORY_PERMISSIONS, MAX_FILE_LEN}
use Rattle.machine_model.specs.NameRequests.{path_reply}

-- ---- lengths

len_number : (n : ℕ) → length (uint32 n) ≡ 4
unfolding uint32
len_number n = refl

len_long : (n : ℕ) → length (uint64 n) ≡ 8
unfolding uint64
len_long n = refl

len_string : (s : List ℕ) → length (string s) ≡ 4 + length s
unfolding string
len_string s = let l = length-append (uint32 (length s)) s in let n = len_number (length s) in omega (arith, l, n)

len_size : (o : Option ℕ) → length (where_there uint64 o) ≤ 8
len_size None = omega arith
len_size (Some n) = let l = len_long n in omega (arith, l)

len_permissions : (o : Option ℕ) → length (where_there uint32 o) ≤ 4
len_permissions None = omega arith
len_permissions (Some n) = let l = len_number n in omega (arith, l)

len_none : (o : Option (ℕ × ℕ)) → o ≡ None → length (where_there two_numbers o) ≡ 0
len_none o e = ap (λ (w : Option (ℕ × ℕ)). length (where_there two_numbers w)) e

len_attributes : (a : FileAttrs) → IsTold a → length (attributes a) ≤ 16
unfolding attributes
len_attributes a told =
    let bits = uint32 (attribute_bits a) in
    let l1 = length-append bits (where_there uint64 a.size) in
    let l2 = length-append (bits ++ where_there uint64 a.size) (where_there two_numbers a.id) in
    let l3 = length-append ((bits ++ where_there uint64 a.size) ++ where_there two_numbers a.id)
    (where_there uint32 a.permissions) in
    let l4 = length-append (((bits ++ where_there uint64 a.size) ++ where_there two_numbers a.id)
    ++ where_there uint32 a.permissions) (where_there two_numbers a.time) in
    let b = len_number (attribute_bits a) in
    let s = len_size a.size in
    let i = len_none a.id told.1 in
    let p = len_permissions a.permissions in
    let t = len_none a.time told.3 in
    omega (arith, l1, l2, l3, l4, b, s, i, p, t)

len_entry : (e : NameEntry) → IsShort e → length (name_entry e) ≤ 279
len_entry e short =
    let l1 = length-append (string e.filename) (string e.longname) in
    let l2 = length-append (string e.filename ++ string e.longname) (attributes e.attrs) in
    let f = len_string e.filename in
    let n = len_string e.longname in
    let none : length e.longname ≡ 0 = ap length short.1 in
    let a = len_attributes e.attrs short.2 in
    let le = short.0 in
    omega (arith, l1, l2, f, n, none, a, le)

len_entries : (names : List NameEntry) → AreShort names → length (flat_map name_entry names) ≤ 279 * length names
len_entries [] s = omega arith
len_entries (e ∷ names) s = let l = length-append (name_entry e) (flat_map name_entry names) in let h = len_entry e s.0
    in let more = len_entries names s.1 in omega (arith, l, h, more)

len_limits : (l : Limits) → length (limits_content l) ≡ 32
unfolding limits_content
len_limits l =
    let a = length-append (uint64 l.packet_len) (uint64 l.read_len) in
    let b = length-append (uint64 l.packet_len ++ uint64 l.read_len) (uint64 l.write_len) in
    let c = length-append ((uint64 l.packet_len ++ uint64 l.read_len) ++ uint64 l.write_len) (uint64 l.open_handles) in
    let p = len_long l.packet_len in let r = len_long l.read_len in let w = len_long l.write_len in let o =
    len_long l.open_handles in
    omega (arith, a, b, c, p, r, w, o)

-- ---- bodies

len_names : (names : List NameEntry) (id : ℕ) → length (reply_body (reply.Names names) id)
    ≡ 9 + length (flat_map name_entry names)
unfolding reply_body
len_names names id =
    let a = length-append (uint32 id) (uint32 (length names) ++ flat_map name_entry names) in
    let b = length-append (uint32 (length names)) (flat_map name_entry names) in
    let i = len_number id in let n = len_number (length names) in omega (arith, a, b, i, n)

names_within : (names : List NameEntry) (id : ℕ) → MayReply (reply.Names names)
    → length (reply_body (reply.Names names) id) ≤ MAX_BODY_LEN
names_within names id (inl short) = let l = len_names names id in let e = len_entries names short.0 in let n = short.1
    in omega (arith, l, e, n)
names_within names id (inr path) =
    let l = len_names names id in
    let first = len_names names 0 in
    let same : length (reply_body (reply.Names names) 0) ≡ length (reply_body (path_reply path.0) 0) =
    ap (λ (w : Reply). length (reply_body w 0)) path.1 in
    let le = path.2 in
    omega (arith, l, first, same, le)

-- the body of what a tree may reply is within the bound
pub body_within : (r : Reply) (id : ℕ) → MayReply r → length (reply_body r id) ≤ MAX_BODY_LEN
unfolding reply_body
body_within (reply.Version version extensions) id say = absurd say
body_within (reply.Status code message language) id say =
    let a = length-append (uint32 code) (string message) in
    let b = length-append (uint32 code ++ string message) (string language) in
    let c = length-append (uint32 id) ((uint32 code ++ string message) ++ string language) in
    let m = len_string message in let l = len_string language in let i = len_number id in let k = len_number code in
    let x : length message ≡ 0 = ap length say.1 in let y : length language ≡ 0 = ap length say.2 in
    omega (arith, a, b, c, m, l, i, k, x, y)
body_within (reply.Handle handle) id say = let c = length-append (uint32 id) (string handle) in let m =
    len_string handle in let i = len_number id in omega (arith, c, m, i, say)
body_within (reply.Content content) id say = let c = length-append (uint32 id) (string content) in let m =
    len_string content in let i = len_number id in omega (arith, c, m, i, say)
body_within (reply.Names names) id say = names_within names id say
body_within (reply.Attrs attrs) id say = let c = length-append (uint32 id) (attributes attrs) in let a =
    len_attributes attrs say in let i = len_number id in omega (arith, c, a, i)
body_within (reply.Extended content) id say =
    let c = length-append (uint32 id) content in let l : length content ≡ 32 = ap length say.1 ∙ len_limits say.0 in
    let i = len_number id in omega (arith, c, l, i)

-- ---- fields

size_fits : (o : Option ℕ) → IfSome o (λ n. n ≤ MAX_FILE_LEN) → IfSome o FitsLong
size_fits None h = tt
size_fits (Some n) h = omega (arith, h)

permissions_fit : (o : Option ℕ) → IfSome o (λ n. n ≤ DIRECTORY_PERMISSIONS) → IfSome o FitsNumber
permissions_fit None h = tt
permissions_fit (Some n) h = omega (arith, h)

none_fits : (o : Option (ℕ × ℕ)) → o ≡ None → IfSome o FitsTwo
none_fits o e = subst (λ (w : Option (ℕ × ℕ)). IfSome w FitsTwo) (sym e) tt

attributes_fit : (a : FileAttrs) → IsTold a → FitsAttributes a
attributes_fit a told = record {
  size = size_fits a.size told.0;
  id = none_fits a.id told.1;
  permissions =
      permissions_fit a.permissions told.2;
  time = none_fits a.time told.3;
}

entry_fits : (e : NameEntry) → IsShort e → FitsEntry e
entry_fits e short =
    let none : length e.longname ≡ 0 = ap length short.1 in
    let le = short.0 in
    record { filename = omega (arith, le); longname = omega (arith, none); attrs = attributes_fit e.attrs short.2 }

entries_fit : (names : List NameEntry) → AreShort names → (k : ℕ) (d : NameEntry) → k < length names
    → FitsEntry (get_or names k d)
entries_fit [] s k d lt = absurd (omega (arith, lt))
entries_fit (e ∷ names) s zero d lt = entry_fits e s.0
entries_fit (e ∷ names) s (suc k) d lt = entries_fit names s.1 k d (omega (arith, lt))

abbrev path_entry : Name → NameEntry
path_entry name = record { filename = 47 ∷ text_of_name name; longname = []; attrs = no_attributes }

path_fits : (name : Name) → length (reply_body (path_reply name) 0) ≤ MAX_BODY_LEN → FitsReply (path_reply name)
path_fits name le =
    let e : NameEntry = path_entry name in
    let l = len_names (e ∷ []) 0 in
    let one = length-append (name_entry e) [] in
    let l1 = length-append (string e.filename) (string e.longname) in
    let l2 = length-append (string e.filename ++ string e.longname) (attributes e.attrs) in
    let f = len_string e.filename in
    (omega arith, all (omega (arith, l, one, l1, l2, f, le)))
  where
    all : length (47 ∷ text_of_name name) ≤ MAX_BODY_LEN → (k : ℕ) (d : NameEntry) → k < 1
        → FitsEntry (get_or (path_entry name ∷ []) k d)
    all le zero d lt = record {
      filename = le;
      longname = omega arith;
      attrs =
          record { size = tt; id = tt; permissions = tt; time = tt };
    }
    all le (suc k) d lt = absurd (omega (arith, lt))

names_fit : (names : List NameEntry) → MayReply (reply.Names names) → FitsReply (reply.Names names)
names_fit names (inl short) = let n = short.1 in (omega (arith, n), entries_fit names short.0)
names_fit names (inr path) = subst FitsReply (sym path.1) (path_fits path.0 path.2)

-- what a tree may reply fits a frame
pub says_fit : (r : Reply) → MayReply r → FitsReply r
says_fit (reply.Version version extensions) say = absurd say
says_fit (reply.Status code message language) say =
    let x : length message ≡ 0 = ap length say.1 in let y : length language ≡ 0 = ap length say.2 in
    (say.0, omega (arith, x), omega (arith, y))
says_fit (reply.Handle handle) say = say
says_fit (reply.Content content) say = omega (arith, say)
says_fit (reply.Names names) say = names_fit names say
says_fit (reply.Attrs attrs) say = attributes_fit attrs say
says_fit (reply.Extended content) say = let l : length content ≡ 32 = ap length say.1 ∙ len_limits say.0 in
    omega (arith, l)
