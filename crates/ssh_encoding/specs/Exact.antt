-- Laws: a reading takes a spelling of the value, and it takes every spelling.
use Rattle.std.specs.Prelude.{
  ℕ,
  zero,
  suc,
  ◌≡◌,
  ◌≤◌,
  ◌+◌,
  ◌==◌,
  Bool,
  true,
  false,
  not,
  cond,
  List,
  [],
  ◌∷◌,
  ◌++◌,
  length,
  take,
  drop,
  Result,
  Ok,
  Err,
  nat_le,
  refl,
}
use Rattle.std.proofs.Common.{sym, ap, ◌∙◌, subst, arith, append_assoc, ltb}
use Rattle.std.proofs.lemmas.Bool.{ltb-false, le-ltb}
use Rattle.std.proofs.lemmas.List.{take_at, drop_at, take-append-drop, length-append, length-take}
use Rattle.std.specs.Int.{Width, w32, byte_len, from_be_bytes}
use Rattle.std.specs.Str.{is_utf8}
use Rattle.ssh_encoding.specs.declared.error.Error.{Error}
use Rattle.ssh_encoding.specs.declared.error.Error.TheVariants as errors
use Rattle.ssh_encoding.specs.Canonical.{is_canonical}
use Rattle.ssh_encoding.specs.Reading.{
  ◌>>=◌,
  tested_value,
  bytes_at,
  number_at,
  byte_at,
  bool_at,
  len_at,
  prefix_at,
  prefixed_value,
  inside,
  all_at,
  string_at,
  text_at,
  mpint_at,
  label_at,
  texts_within,
  texts_at,
  with_prefix,
  MAX_LEN,
  MAX_LABEL_LEN,
}
use Rattle.ssh_encoding.specs.Spelling.{
  BeginsWithText,
  IsExact,
  IsByte,
  IsArray,
  IsFlag,
  IsNumber,
  IsLen,
  IsString,
  IsText,
  AreTexts,
  IsTextList,
  IsMpint,
  IsLabel,
}

-- ---- Steps of a reading

ok_is : {A E : Type 0} (x y : A) → (let r : Result A E = Ok x in r) ≡ Ok y → x ≡ y
ok_is x y e = cc

-- A test that did not fail.
guard_ok : {A E : Type 0} (b : Bool) (d : E) (x y : A) → cond b (Err d) (Ok x) ≡ Ok y → (b ≡ false) × (x ≡ y)
guard_ok true d x y e = absurd cc
guard_ok false d x y e = (refl, cc)

-- A test that did not fail, before other tests.
guard : {A E : Type 0} (b : Bool) (d : E) (r : Result A E) (y : A) → cond b (Err d) r ≡ Ok y → (b ≡ false) × (r ≡ Ok y)
guard true d r y e = absurd cc
guard false d r y e = (refl, e)

-- A test that was passed.
passed : {A E : Type 0} (b : Bool) (d : E) (x y : A) → cond b (Ok x) (Err d) ≡ Ok y → (b ≡ true) × (x ≡ y)
passed true d x y e = (refl, cc)
passed false d x y e = absurd cc

-- The value of a step that did not fail.
bind_ok : {A B E : Type 0} (r : Result A E) (f : A → Result B E) (y : B) → (r >>= f) ≡ Ok y → (x : A) × (r ≡ Ok x)
    × (f x ≡ Ok y)
bind_ok (Ok x) f y e = (x, refl, e)
bind_ok (Err d) f y e = absurd cc

-- A tested value.
tested_ok : {A : Type 0} (test : A → Bool) (d : Error) (r : Result (A × List ℕ) Error) (y : A × List ℕ)
    → tested_value test d r ≡ Ok y → (test y.0 ≡ true) × (r ≡ Ok y)
tested_ok test d (Ok x) y e =
    let p = passed (test x.0) d x y e in
    (sym (ap (λ (z : _ × List ℕ). test z.0) p.1) ∙ p.0, ap (λ z. Ok z) p.1)
tested_ok test d (Err x) y e = absurd cc

tested_again : {A : Type 0} (test : A → Bool) (d : Error) (r : Result (A × List ℕ) Error) (y : A × List ℕ) → r ≡ Ok y
    → test y.0 ≡ true → tested_value test d r ≡ Ok y
tested_again test d r y e h = rw (e, h) refl

-- Another kind of text.
begins_as : {P Q : List ℕ → Type 0} (bytes rest : List ℕ) → ((text : List ℕ) → P text → Q text)
    → BeginsWithText P bytes rest
    → BeginsWithText Q bytes rest
begins_as bytes rest f h = record { text = h.text; is = f h.text h.is; splits = h.splits }

-- A reading with a test spells what the reading spells and the test passes.
tested_exact : {A : Type 0} (spells more : A → List ℕ → Type 0) (reading : List ℕ → Result (A × List ℕ) Error)
    (test : A → Bool) (d : Error) (bytes rest : List ℕ) (v : A)
    → ((text : List ℕ) → spells v text → test v ≡ true → more v text)
    → ((text : List ℕ) → more v text → spells v text × (test v ≡ true))
    → IsExact spells reading bytes rest v → IsExact more (λ b. tested_value test d (reading b)) bytes rest v
tested_exact spells more reading test d bytes rest v to from exact = record {
  takes = λ e. let t = tested_ok test d (reading bytes) (v, rest) e in
      begins_as bytes rest (λ text h. to text h t.0) (exact.takes t.1);
  again = λ h. tested_again test d (reading bytes) (v, rest) (exact.again
      (begins_as bytes rest (λ text m. (from text m).0) h)) (from h.text h.is).1;
}

-- ---- Each type

pub byte_exact : (bytes rest : List ℕ) (v : ℕ) → IsExact IsByte byte_at bytes rest v
unfolding byte_at
byte_exact [] rest v = record {
  takes = λ e. absurd cc;
  again = λ h. let e : [] ≡ v ∷ rest = h.splits
      ∙ ap (λ (t : List ℕ). t ++ rest) h.is in absurd cc;
}
byte_exact (b ∷ bytes) rest v = record {
  takes = λ e. let is = ok_is (b, bytes) (v, rest) e in record
      { text = v ∷ []; is = refl; splits = ap (λ (p : ℕ × List ℕ). p.0 ∷ p.1) is };
  again = λ h. let e : b ∷ bytes ≡ v ∷ rest = h.splits ∙ ap (λ (t : List ℕ). t ++ rest) h.is in let b-is : b ≡ v = cc in
      let rest-is : bytes ≡ rest = cc in rw (b-is, rest-is) refl;
}

pub flag_exact : (bytes rest : List ℕ) (b : Bool) → IsExact IsFlag bool_at bytes rest b
unfolding bool_at byte_at
flag_exact [] rest b = record {
  takes = λ e. absurd cc;
  again = λ h. let e : [] ≡ h.is.byte ∷ rest = h.splits
      ∙ ap (λ (t : List ℕ). t ++ rest) h.is.is in absurd cc;
}
flag_exact (x ∷ bytes) rest b = record {
  takes = λ e. let is = ok_is (not (x == 0), bytes) (b, rest) e in
      record {
        text = x ∷ [];
        is = record { byte = x; is = refl; value = sym (ap (λ (p : Bool × List ℕ). p.0) is) };
        splits = ap (λ (p : Bool × List ℕ). x ∷ p.1) is;
      };
  again = λ h. let e : x ∷ bytes ≡ h.is.byte ∷ rest = h.splits ∙ ap (λ (t : List ℕ). t ++ rest) h.is.is in let x-is : x
      ≡ h.is.byte = cc in let rest-is : bytes ≡ rest = cc in rw (x-is, rest-is, h.is.value) refl;
}

pub array_exact : (n : ℕ) (bytes rest v : List ℕ) → IsExact (IsArray n) (bytes_at n) bytes rest v
array_exact n bytes rest v = record {
  takes = λ e.
      let g = guard_ok (ltb (length bytes) n) errors.Length (take n bytes, drop n bytes) (v, rest) e in
      let long : n ≤ length bytes = ltb-false _ _ g.0 in
      subst (λ (p : List ℕ × List ℕ). BeginsWithText (IsArray n p.0) bytes p.1) g.1
      record {
        text = take n bytes;
        is = record { len = omega (arith, length-take n bytes); is = refl };
        splits =
            sym (take-append-drop n bytes);
      };
  again = λ h.
      let e : bytes ≡ v ++ rest = h.splits ∙ ap (λ (t : List ℕ). t ++ rest) h.is.is in
      let long : ltb (length (v ++ rest)) n ≡ false = le-ltb _ _ (omega (arith, length-append v rest, h.is.len)) in
      rw (e, long, take_at v rest n h.is.len, drop_at v rest n h.is.len) refl;
}

pub number_exact : (w : Width) (bytes rest : List ℕ) (n : ℕ) → IsExact (IsNumber w) (number_at w) bytes rest n
number_exact w bytes rest n = record {
  takes = λ e.
      let g = guard_ok (ltb (length bytes) (byte_len w)) errors.Length
      (from_be_bytes w (take (byte_len w) bytes), drop (byte_len w) bytes) (n, rest) e in
      let long : byte_len w ≤ length bytes = ltb-false _ _ g.0 in
      record {
        text = take (byte_len w) bytes;
        is = record {
          len = omega (arith, length-take (byte_len w) bytes);
          value =
              sym (ap (λ (p : ℕ × List ℕ). p.0) g.1);
        };
        splits = sym (take-append-drop (byte_len w) bytes) ∙ ap (λ (p : ℕ × List ℕ). take (byte_len w) bytes ++ p.1)
            g.1;
      };
  again = λ b.
      let long : ltb (length (b.text ++ rest)) (byte_len w) ≡ false =
      le-ltb _ _ (omega (arith, length-append b.text rest, b.is.len)) in
      rw (
        b.splits,
        long,
        take_at b.text rest (byte_len w) b.is.len,
        drop_at b.text rest (byte_len w) b.is.len,
        ← b.is.value,
      ) refl;
}

small_len : (n : ℕ) → nat_le n MAX_LEN ≡ true → n ≤ MAX_LEN
small_len n h = grind arith

len_small : (n : ℕ) → n ≤ MAX_LEN → nat_le n MAX_LEN ≡ true
len_small n h = grind arith

pub len_exact : (bytes rest : List ℕ) (n : ℕ) → IsExact IsLen len_at bytes rest n
unfolding len_at
len_exact bytes rest n = tested_exact (IsNumber w32) IsLen (number_at w32) (λ m. nat_le m MAX_LEN) errors.Overflow bytes
    rest n
    (λ text h t. record { is = h; small = small_len n t }) (λ text h. (h.is, len_small n h.small))
    (number_exact w32 bytes rest n)

-- A spelling of an equal value, with an equal rest.
begins_at : (bytes v rest w tail : List ℕ) → (let p : List ℕ × List ℕ = (w, tail) in p) ≡ (v, rest)
    → BeginsWithText (IsString w) bytes tail → BeginsWithText (IsString v) bytes rest
begins_at bytes v rest w tail e h = subst (λ (x : List ℕ × List ℕ). BeginsWithText (IsString x.0) bytes x.1) e h

pub prefix_takes : (bytes v rest : List ℕ) → prefix_at bytes ≡ Ok (v, rest) → BeginsWithText (IsString v) bytes rest
unfolding prefix_at
prefix_takes bytes v rest e =
    let n : ℕ = from_be_bytes w32 (take 4 bytes) in
    let tail : List ℕ = drop 4 bytes in
    let a = guard (ltb (length bytes) 4) _ _ (v, rest) e in
    let b = guard (ltb MAX_LEN n) _ _ (v, rest) a.1 in
    let c = guard (ltb (length tail) n) _ _ (v, rest) b.1 in
    let long : 4 ≤ length bytes = ltb-false _ _ a.0 in
    let small : n ≤ MAX_LEN = ltb-false _ _ b.0 in
    let room : n ≤ length tail = ltb-false _ _ c.0 in
    let len : length (take n tail) ≡ n = omega (arith, length-take n tail) in
    let four : length (take 4 bytes) ≡ 4 = omega (arith, length-take 4 bytes) in
    let short : length (take n tail) ≤ MAX_LEN = omega arith in
    let is : (take n tail, drop n tail) ≡ (v, rest) = ok_is _ _ c.1 in
    begins_at bytes v rest (take n tail) (drop n tail) is record {
      text = take 4 bytes ++ take n tail;
      is = record { head = take 4 bytes; counts = record { len = four; value = len }; is = refl; small = short };
      splits = sym (take-append-drop 4 bytes) ∙ ap (λ (l : List ℕ). take 4 bytes ++ l) (sym (take-append-drop n tail))
          ∙ sym (append_assoc (take 4 bytes) (take n tail) (drop n tail));
    }

pub prefix_again : (bytes v rest : List ℕ) → BeginsWithText (IsString v) bytes rest → prefix_at bytes ≡ Ok (v, rest)
unfolding prefix_at
prefix_again bytes v rest h =
    let e : bytes ≡ h.is.head ++ (v ++ rest) = h.splits ∙ ap (λ (l : List ℕ). l ++ rest) h.is.is
    ∙ append_assoc h.is.head v rest in
    let prefix : take 4 (h.is.head ++ (v ++ rest)) ≡ h.is.head = take_at h.is.head (v ++ rest) 4 h.is.counts.len in
    let back : drop 4 (h.is.head ++ (v ++ rest)) ≡ v ++ rest = drop_at h.is.head (v ++ rest) 4 h.is.counts.len in
    let long : ltb (length (h.is.head ++ (v ++ rest))) 4 ≡ false =
    le-ltb _ _ (omega (arith, length-append h.is.head (v ++ rest), h.is.counts.len)) in
    let small : ltb MAX_LEN (length v) ≡ false = le-ltb _ _ h.is.small in
    let room : ltb (length (v ++ rest)) (length v) ≡ false = le-ltb _ _ (omega (arith, length-append v rest)) in
    rw (
      e,
      long,
      prefix,
      ← h.is.counts.value,
      small,
      back,
      room,
      take_at v rest (length v) refl,
      drop_at v rest (length v) refl,
    ) refl

inside_ok : {A : Type 0} (reading : List ℕ → Result (A × List ℕ) Error) (r : Result (List ℕ × List ℕ) (Error × List ℕ))
    (y : A × List ℕ) → inside reading r ≡ Ok y
    → (p : List ℕ × List ℕ) × (r ≡ Ok p) × ((x : A × List ℕ) × (reading p.0 ≡ Ok x) × ((x.0, p.1) ≡ y))
inside_ok reading (Ok p) y e = let b = bind_ok (reading p.0) (λ x. Ok (x.0, p.1)) y e in
    (p, refl, (b.0, b.1, ok_is _ _ b.2))
inside_ok reading (Err r) y e = absurd cc

all_inside : (r : Result (List ℕ × List ℕ) (Error × List ℕ)) (v rest : List ℕ) → inside all_at r ≡ Ok (v, rest) → r
    ≡ Ok (v, rest)
all_inside (Ok p) v rest e = ap (λ x. Ok x) (ok_is _ _ e)
all_inside (Err d) v rest e = absurd cc

-- A length, and that many bytes.
pub string_exact : (bytes rest v : List ℕ) → IsExact IsString string_at bytes rest v
string_exact bytes rest v = record {
  takes = λ e. prefix_takes bytes v rest (all_inside (prefix_at bytes) v rest e);
  again = λ h. rw (prefix_again bytes v rest h) refl;
}

pub text_exact : (bytes rest v : List ℕ) → IsExact IsText text_at bytes rest v
unfolding text_at
text_exact bytes rest v = tested_exact IsString IsText string_at is_utf8 errors.CharacterEncoding bytes rest v
    (λ text h t. record { is = h; utf8 = t }) (λ text h. (h.is, h.utf8)) (string_exact bytes rest v)

pub mpint_exact : (bytes rest v : List ℕ) → IsExact IsMpint mpint_at bytes rest v
unfolding mpint_at
mpint_exact bytes rest v = tested_exact IsString IsMpint string_at is_canonical errors.MpintEncoding bytes rest v
    (λ text h t. record { is = h; canonical = t }) (λ text h. (h.is, h.canonical)) (string_exact bytes rest v)

-- ---- Labels

record IsName (v text : List ℕ) : Type 0 where
  is : IsString v text
  short : nat_le (length v) MAX_LABEL_LEN ≡ true

record IsNameText (v text : List ℕ) : Type 0 where
  is : IsName v text
  utf8 : is_utf8 v ≡ true

abbrev short_at : List ℕ → Result (List ℕ × List ℕ) Error
short_at bytes = tested_value (λ t. nat_le (length t) MAX_LABEL_LEN) errors.Length (string_at bytes)

abbrev name_at : List ℕ → Result (List ℕ × List ℕ) Error
name_at bytes = tested_value is_utf8 errors.CharacterEncoding (short_at bytes)

short_exact : (bytes rest v : List ℕ) → IsExact IsName short_at bytes rest v
short_exact bytes rest v = tested_exact IsString IsName string_at (λ t. nat_le (length t) MAX_LABEL_LEN) errors.Length
    bytes rest v
    (λ text h t. record { is = h; short = t }) (λ text h. (h.is, h.short)) (string_exact bytes rest v)

name_exact : (bytes rest v : List ℕ) → IsExact IsNameText name_at bytes rest v
name_exact bytes rest v = tested_exact IsName IsNameText short_at is_utf8 errors.CharacterEncoding bytes rest v
    (λ text h t. record { is = h; utf8 = t }) (λ text h. (h.is, h.utf8)) (short_exact bytes rest v)

short_le : (n : ℕ) → nat_le n MAX_LABEL_LEN ≡ true → n ≤ MAX_LABEL_LEN
short_le n h = grind arith

le_short : (n : ℕ) → n ≤ MAX_LABEL_LEN → nat_le n MAX_LABEL_LEN ≡ true
le_short n h = grind arith

pub label_exact : {A : Type 0} (meaning : List ℕ → Result A Error) (bytes rest : List ℕ) (v : A)
    → IsExact (IsLabel meaning) (label_at meaning) bytes rest v
unfolding label_at
label_exact meaning bytes rest v = record {
  takes = λ e.
      let b = bind_ok (name_at bytes) (λ text. meaning text.0 >>= λ label. Ok (label, text.1)) (v, rest) e in
      let c = bind_ok (meaning b.0.0) (λ label. Ok (label, b.0.1)) (v, rest) b.2 in
      let is : (c.0, b.0.1) ≡ (v, rest) = ok_is _ _ c.2 in
      let name = (name_exact bytes b.0.1 b.0.0).takes b.1 in
      subst (λ x. BeginsWithText (IsLabel meaning x.0) bytes x.1) is record {
        text = name.text;
        is = record {
          name = b.0.0;
          is = name.is.is.is;
          short = short_le _ name.is.is.short;
          utf8 = name.is.utf8;
          means = c.1;
        };
        splits = name.splits;
      };
  again = λ h.
      let name = (name_exact bytes rest h.is.name).again record {
        text = h.text;
        is = record { is = record { is = h.is.is; short = le_short _ h.is.short }; utf8 = h.is.utf8 };
        splits = h.splits;
      } in
      rw (name, h.is.means) refl;
}

-- ---- Texts to the end

-- A text takes at least four bytes.
text_shorter : (bytes rest v : List ℕ) → BeginsWithText (IsText v) bytes rest → length rest + 4 ≤ length bytes
text_shorter bytes rest v h =
    rw (
      ap (λ l. length l) h.splits,
      length-append h.text rest,
      ap (λ l. length l) h.is.is.is,
      length-append h.is.is.head v,
      h.is.is.counts.len,
    ) (omega arith)

with_prefix_ok : (prefix : List (List ℕ)) (r : Result (List (List ℕ) × List ℕ) Error) (y : List (List ℕ) × List ℕ)
    → with_prefix prefix r ≡ Ok y
    → (x : List (List ℕ) × List ℕ) × (r ≡ Ok x) × ((prefix ++ x.0, x.1) ≡ y)
with_prefix_ok prefix r y e = let b = bind_ok r (λ x. Ok (prefix ++ x.0, x.1)) y e in (b.0, b.1, ok_is _ _ b.2)

-- The values read to the end are texts, and no bytes are left.
pub record AllTexts (vs : List (List ℕ)) (bytes rest : List ℕ) : Type 0 where
  pub texts : AreTexts vs bytes
  pub none : rest ≡ []

abbrev is_all : List (List ℕ) × List ℕ → List ℕ → Type 0
is_all y bytes = AllTexts y.0 bytes y.1

texts_takes : (most : ℕ) (bytes : List ℕ) (y : List (List ℕ) × List ℕ) → length bytes ≤ most → texts_within most bytes
    ≡ Ok y → is_all y bytes
texts_takes zero [] y h e = subst (λ z. is_all z []) (ok_is _ _ e) record { texts = refl; none = refl }
texts_takes zero (b ∷ bytes) y h e = absurd (omega arith)
texts_takes (suc most) [] y h e = subst (λ z. is_all z []) (ok_is _ _ e) record { texts = refl; none = refl }
texts_takes (suc most) (b ∷ bytes) y h e =
    let step = bind_ok (text_at (b ∷ bytes)) (λ text. with_prefix (text.0 ∷ []) (texts_within most text.1)) y e in
    let first = (text_exact (b ∷ bytes) step.0.1 step.0.0).takes step.1 in
    let rest = with_prefix_ok (step.0.0 ∷ []) (texts_within most step.0.1) y step.2 in
    let shorter : length step.0.1 + 4 ≤ length (b ∷ bytes) = text_shorter (b ∷ bytes) step.0.1 step.0.0 first in
    let later = texts_takes most step.0.1 rest.0 (omega arith) rest.1 in
    subst (λ z. is_all z (b ∷ bytes)) rest.2 record {
      texts = (first.text, step.0.1, first.is, later.texts, first.splits);
      none = later.none;
    }

text_not_empty : (v prefix back : List ℕ) → IsText v prefix → [] ≡ prefix ++ back → ⊥
text_not_empty v prefix back h e =
    let n = text_shorter (prefix ++ back) back v record { text = prefix; is = h; splits = refl } in
    let l : length (prefix ++ back) ≡ 0 = sym (ap (λ l. length l) e) in
    omega (arith, n, l)

texts_again : (most : ℕ) (vs : List (List ℕ)) (bytes : List ℕ) → length bytes ≤ most → AreTexts vs bytes
    → texts_within most bytes ≡ Ok (vs, [])
texts_again zero [] bytes h t = rw t refl
texts_again (suc most) [] bytes h t = rw t refl
texts_again zero (v ∷ vs) [] h t = absurd (text_not_empty v t.0 t.1 t.2 t.4)
texts_again zero (v ∷ vs) (b ∷ bytes) h t = absurd (omega arith)
texts_again (suc most) (v ∷ vs) [] h t = absurd (text_not_empty v t.0 t.1 t.2 t.4)
texts_again (suc most) (v ∷ vs) (b ∷ bytes) h t =
    let first : BeginsWithText (IsText v) (b ∷ bytes) t.1 = record { text = t.0; is = t.2; splits = t.4 } in
    let shorter = text_shorter (b ∷ bytes) t.1 v first in
    let later = texts_again most vs t.1 (omega arith) t.3 in
    rw ((text_exact (b ∷ bytes) t.1 v).again first, later) refl

pub text_list_exact : (bytes rest : List ℕ) (vs : List (List ℕ))
    → IsExact IsTextList (prefixed_value texts_at) bytes rest vs
text_list_exact bytes rest vs = record {
  takes = λ e.
      let i = inside_ok texts_at (prefix_at bytes) (vs, rest) e in
      let whole = prefix_takes bytes i.0.0 i.0.1 i.1 in
      let all = texts_takes (length i.0.0) i.0.0 i.2.0 (omega arith) i.2.1 in
      subst (λ z. BeginsWithText (IsTextList z.0) bytes z.1) i.2.2 record {
        text = whole.text;
        is = record { content = i.0.0; texts = all.texts; is = whole.is };
        splits = whole.splits;
      };
  again = λ h.
      let whole = prefix_again bytes h.is.content rest record { text = h.text; is = h.is.is; splits = h.splits } in
      rw (whole, texts_again (length h.is.content) vs h.is.content (omega arith) h.is.texts) refl;
}
