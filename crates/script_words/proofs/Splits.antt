-- The first line and the first word, and what stands behind them.
use Rattle.std.proofs.Common.{
  ◌≡◌,
  ◌≢◌,
  ◌+◌,
  ◌<◌,
  ◌≤◌,
  ◌∷◌,
  [],
  ℕ,
  zero,
  suc,
  List,
  Bool,
  true,
  false,
  take,
  drop,
  length,
  refl,
  ap,
  sym,
  ◌∙◌,
  arith,
  inl,
  inr,
  cond,
  ◌-◌,
  Some,
  None,
  add-one,
}
use Rattle.std.proofs.lemmas.Bool.{cases_Bool, ltb-false}
use Rattle.std.proofs.lemmas.Option.{cond_some, none-some}
use Rattle.std.proofs.lemmas.List.{take_rest}
use Rattle.std.specs.Prelude.{◌==◌, not, nat_lt}
use Rattle.std.specs.List.{position, position_or_len}
use Rattle.script_words.specs.Lines.{lines_of, words_of, with_front, starts_word}

-- where the first such byte stands
abbrev pub place : ℕ → List ℕ → ℕ
place byte bytes = position_or_len (λ b. b == byte) bytes

place_here : (byte b : ℕ) (bytes : List ℕ) → (b == byte) ≡ true → place byte (b ∷ bytes) ≡ 0
place_here byte b bytes e = rw e refl

place_behind : (byte b : ℕ) (bytes : List ℕ) → (b == byte) ≡ false → place byte (b ∷ bytes) ≡ 1 + place byte bytes
place_behind byte b bytes e = rw e refl

line_here : (b : ℕ) (bytes : List ℕ) → (b == 10) ≡ true → lines_of (b ∷ bytes) ≡ [] ∷ lines_of bytes
line_here b bytes e = rw e refl

line_behind : (b : ℕ) (bytes : List ℕ) → (b == 10) ≡ false → lines_of (b ∷ bytes) ≡ with_front b (lines_of bytes)
line_behind b bytes e = rw e refl

-- a line that is ended
line_to : (text : List ℕ) (n : ℕ) → n < length text → place 10 text ≡ n → lines_of text
    ≡ take n text ∷ lines_of (drop (suc n) text)
line_to [] n lt at = absurd (omega arith)
line_to (b ∷ bytes) zero lt at =
    elim (cases_Bool (b == 10)) [
      | inl e ↦ line_here b bytes e
      | inr e ↦ absurd (omega (arith, place_behind 10 b bytes e))
    ]
line_to (b ∷ bytes) (suc n) lt at =
    elim (cases_Bool (b == 10)) [
      | inl e ↦ absurd (omega (arith, place_here 10 b bytes e))
      | inr e ↦ line_behind b bytes e ∙ ap (with_front b) (line_to bytes n (omega arith)
          (omega (arith, place_behind 10 b bytes e)))
    ]

-- a last line that is not ended
last_line : (text : List ℕ) → text ≢ [] → length text ≤ place 10 text → lines_of text ≡ text ∷ []
last_line [] some at = absurd (some refl)
last_line (b ∷ []) some at =
    elim (cases_Bool (b == 10)) [
      | inl e ↦ absurd (omega (arith, place_here 10 b [] e))
      | inr e ↦ line_behind b [] e
    ]
last_line (b ∷ c ∷ bytes) some at =
    elim (cases_Bool (b == 10)) [
      | inl e ↦ absurd (omega (arith, place_here 10 b (c ∷ bytes) e))
      | inr e ↦ line_behind b (c ∷ bytes) e ∙ ap (with_front b)
          (last_line (c ∷ bytes) (λ eq. absurd (omega (arith, ap length eq)))
          (omega (arith, place_behind 10 b (c ∷ bytes) e)))
    ]

-- no place is past the end
pub place_within : (byte : ℕ) (bytes : List ℕ) → place byte bytes ≤ length bytes
place_within byte [] = omega arith
place_within byte (b ∷ bytes) =
    elim (cases_Bool (b == byte)) [
      | inl e ↦ omega (arith, place_here byte b bytes e)
      | inr e ↦ omega (arith, place_behind byte b bytes e, place_within byte bytes)
    ]

pub place_Some : (byte : ℕ) (bytes : List ℕ) (end : ℕ) → position (λ b. b == byte) bytes ≡ Some end → end
    ≡ place byte bytes
place_Some byte bytes end at = sym ((cond_some (nat_lt (place byte bytes) (length bytes)) (place byte bytes) end at).1)

none_from : (b : Bool) (x : ℕ) → cond b (Some x) None ≡ None → b ≡ false
none_from true x e = absurd (none-some x (sym e))
none_from false x e = refl

pub place_None : (byte : ℕ) (bytes : List ℕ) → position (λ b. b == byte) bytes ≡ None → length bytes ≡ place byte bytes
place_None byte bytes none =
    let past : length bytes ≤ place byte bytes = ltb-false (place byte bytes) (length bytes)
    (none_from (nat_lt (place byte bytes) (length bytes)) (place byte bytes) none) in
    omega (arith, place_within byte bytes)

pub first_line : (text : List ℕ) (end : ℕ) → end ≡ place 10 text → end < length text → lines_of text
    ≡ take end text ∷ lines_of (take (length text - (end + 1)) (drop (end + 1) text))
first_line text end at lt = rw (take_rest text (end + 1), add-one) (line_to text end lt (sym at))

pub only_line : (text : List ℕ) (end : ℕ) → end ≡ place 10 text → length text ≤ end → text ≢ [] → lines_of text
    ≡ text ∷ []
only_line text end at le some = last_line text some (omega arith)

alone : (b : ℕ) (bytes : List ℕ) → (b == 32) ≡ false → starts_word bytes ≡ false → words_of (b ∷ bytes)
    ≡ (b ∷ []) ∷ words_of bytes
alone b bytes e s = rw (e, s) refl

joined : (b : ℕ) (bytes : List ℕ) → (b == 32) ≡ false → starts_word bytes ≡ true → words_of (b ∷ bytes)
    ≡ with_front b (words_of bytes)
joined b bytes e s = rw (e, s) refl

-- a word and what stands behind it
word_to : (b : ℕ) (bytes : List ℕ) (n : ℕ) → (b == 32) ≡ false → place 32 bytes ≡ n → words_of (b ∷ bytes)
    ≡ (b ∷ take n bytes) ∷ words_of (drop n bytes)
word_to b [] zero e at = alone b [] e refl
word_to b [] (suc n) e at = absurd (omega arith)
word_to b (c ∷ bytes) zero e at =
    elim (cases_Bool (c == 32)) [
      | inl f ↦ alone b (c ∷ bytes) e (ap not f)
      | inr f ↦ absurd (omega (arith, place_behind 32 c bytes f))
    ]
word_to b (c ∷ bytes) (suc n) e at =
    elim (cases_Bool (c == 32)) [
      | inl f ↦ absurd (omega (arith, place_here 32 c bytes f))
      | inr f ↦ joined b (c ∷ bytes) e (ap not f) ∙ ap (with_front b)
          (word_to c bytes n f (omega (arith, place_behind 32 c bytes f)))
    ]

-- the first word of a text that begins with it
first_word_of : (text : List ℕ) (end : ℕ) → end ≡ place 32 text → text ≢ []
    → ((b : ℕ) (bytes : List ℕ) → text ≡ b ∷ bytes → (b == 32) ≡ false)
    → words_of text ≡ take end text ∷ words_of (drop end text)
first_word_of [] end at some begins = absurd (some refl)
first_word_of (b ∷ bytes) zero at some begins = absurd (omega (arith, place_behind 32 b bytes (begins b bytes refl)))
first_word_of (b ∷ bytes) (suc n) at some begins = word_to b bytes n (begins b bytes refl)
    (omega (arith, place_behind 32 b bytes (begins b bytes refl)))

pub first_word : (text : List ℕ) (end : ℕ) → end ≡ place 32 text → text ≢ []
    → ((b : ℕ) (bytes : List ℕ) → text ≡ b ∷ bytes → (b == 32) ≡ false)
    → words_of text ≡ take end text ∷ words_of (take (length text - end) (drop end text))
first_word text end at some begins = rw (take_rest text end) (first_word_of text end at some begins)

-- words of a line without any but spaces
pub no_words : (line : List ℕ) → line ≡ [] → words_of line ≡ []
no_words line e = ap words_of e
