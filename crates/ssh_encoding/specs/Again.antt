-- Laws: the bytes that are written spell the value.
use Rattle.std.specs.Prelude.{ℕ, ◌≡◌, ◌<◌, ◌≤◌, ◌^◌, Bool, true, false, List, [], ◌∷◌, ◌++◌, length, Result, Ok, refl}
use Rattle.std.proofs.Common.{sym, ap, arith, length-append}
use Rattle.std.specs.Int.{w32, w64}
use Rattle.std.specs.List.{flat_map}
use Rattle.std.specs.Str.{is_utf8}
use Rattle.std.specs.String.{string_bytes}
use Rattle.std.specs.declared.string.String.{String}
use Rattle.std.proofs.lemmas.Nat.{from_be_bytes-to_be_bytes_4, from_be_bytes-to_be_bytes_8}
use Rattle.ssh_encoding.specs.declared.error.Error.{Error}
use Rattle.ssh_encoding.specs.Canonical.{is_canonical}
use Rattle.ssh_encoding.specs.Reading.{MAX_LEN, MAX_LABEL_LEN, texts_of}
use Rattle.ssh_encoding.specs.Writing.{uint32, uint64, flag, string}
use Rattle.ssh_encoding.specs.Spelling.{
  IsByte,
  IsArray,
  IsFlag,
  IsNumber,
  IsLen,
  IsString,
  IsText,
  AreTexts,
  IsTextList,
  IsMpint,
  IsLabel,
}

pub byte_again : (n : ℕ) → IsByte n (n ∷ [])
byte_again n = refl

pub flag_again : (b : Bool) → IsFlag b (flag b)
unfolding flag
flag_again true = record { byte = 1; is = refl; value = refl }
flag_again false = record { byte = 0; is = refl; value = refl }

pub number_again : (n : ℕ) → n < 2 ^ 32 → IsNumber w32 n (uint32 n)
unfolding uint32
number_again n h = record { len = refl; value = sym (from_be_bytes-to_be_bytes_4 n h) }

pub long_number_again : (n : ℕ) → n < 2 ^ 64 → IsNumber w64 n (uint64 n)
unfolding uint64
long_number_again n h = record { len = refl; value = sym (from_be_bytes-to_be_bytes_8 n h) }

pub len_again : (n : ℕ) → n ≤ MAX_LEN → IsLen n (uint32 n)
len_again n h = record { is = number_again n (omega (arith, h)); small = h }

pub array_again : (n : ℕ) (v : List ℕ) → length v ≡ n → IsArray n v v
array_again n v h = record { len = h; is = refl }

pub string_again : (v : List ℕ) → length v ≤ MAX_LEN → IsString v (string v)
unfolding string
string_again v h = record {
  head = uint32 (length v);
  counts = number_again (length v) (omega (arith, h));
  is = refl;
  small = h;
}

pub text_again : (v : List ℕ) → length v ≤ MAX_LEN → is_utf8 v ≡ true → IsText v (string v)
text_again v h u = record { is = string_again v h; utf8 = u }

pub mpint_again : (v : List ℕ) → length v ≤ MAX_LEN → is_canonical v ≡ true → IsMpint v (string v)
mpint_again v h c = record { is = string_again v h; canonical = c }

pub label_again : {A : Type 0} (meaning : List ℕ → Result A Error) (v : A) (name : List ℕ) → length name ≤ MAX_LABEL_LEN
    → is_utf8 name ≡ true → meaning name ≡ Ok v → IsLabel meaning v (string name)
label_again meaning v name short u means = record {
  name = name;
  is = string_again name (omega (arith, short));
  short =
      short;
  utf8 = u;
  means = means;
}

-- True if each text is UTF-8.
abbrev pub AreUtf8 : List (List ℕ) → Type 0
AreUtf8 [] = Unit {0}
AreUtf8 (v ∷ vs) = (is_utf8 v ≡ true) × AreUtf8 vs

-- The strings of texts, one after another.
abbrev pub texts_written : List (List ℕ) → List ℕ
texts_written = flat_map string

string_short : (v : List ℕ) → length v ≤ length (string v)
unfolding string
string_short v = rw (length-append (uint32 (length v)) v) (omega arith)

texts_again : (vs : List (List ℕ)) → length (texts_written vs) ≤ MAX_LEN → AreUtf8 vs → AreTexts vs (texts_written vs)
texts_again [] h u = refl
texts_again (v ∷ vs) h u =
    let both = length-append (string v) (texts_written vs) in
    let own = string_short v in (
      string v,
      texts_written vs,
      text_again v (omega (arith, h, both, own)) u.0,
      texts_again vs (omega (arith, h, both)) u.1,
      refl,
    )

-- The list as it is written, by its texts.
written_as : {A : Type 0} (items : List (String A)) → flat_map (λ s. string (string_bytes s)) items
    ≡ texts_written (texts_of items)
written_as [] = refl
written_as (s ∷ items) = ap (λ l. string (string_bytes s) ++ l) (written_as items)

pub text_list_again : {A : Type 0} (items : List (String A)) → length (texts_written (texts_of items)) ≤ MAX_LEN
    → AreUtf8 (texts_of items)
    → IsTextList (texts_of items) (string (flat_map (λ s. string (string_bytes s)) items))
text_list_again items h u = record {
  content = texts_written (texts_of items);
  texts = texts_again (texts_of items) h u;
  is = rw (written_as items) (string_again (texts_written (texts_of items)) h);
}
