-- Laws: one value has one spelling.
use Rattle.std.specs.Prelude.{ℕ, zero, suc, ◌≡◌, List, [], ◌∷◌, ◌++◌, length, refl}
use Rattle.std.proofs.Common.{sym, ap, ◌∙◌, arith}
use Rattle.std.specs.Int.{w32, w64}
use Rattle.std.proofs.lemmas.Nat.{be_bytes_4, be_bytes_8}
use Rattle.ssh_encoding.specs.Spelling.{
  AreBytes,
  IsByte,
  IsArray,
  IsNumber,
  IsLen,
  IsString,
  IsText,
  AreTexts,
  IsTextList,
  IsMpint,
}

pub byte_once : (v : ℕ) (a b : List ℕ) → AreBytes a → AreBytes b → IsByte v a → IsByte v b → a ≡ b
byte_once v a b p q h k = h ∙ sym k

pub number_once : (v : ℕ) (a b : List ℕ) → AreBytes a → AreBytes b → IsNumber w32 v a → IsNumber w32 v b → a ≡ b
number_once v a b p q h k = sym (be_bytes_4 a v h.len p h.value) ∙ be_bytes_4 b v k.len q k.value

pub long_number_once : (v : ℕ) (a b : List ℕ) → AreBytes a → AreBytes b → IsNumber w64 v a → IsNumber w64 v b → a ≡ b
long_number_once v a b p q h k = sym (be_bytes_8 a v h.len p h.value) ∙ be_bytes_8 b v k.len q k.value

pub len_once : (v : ℕ) (a b : List ℕ) → AreBytes a → AreBytes b → IsLen v a → IsLen v b → a ≡ b
len_once v a b p q h k = number_once v a b p q h.is k.is

pub array_once : (n : ℕ) (v a b : List ℕ) → AreBytes a → AreBytes b → IsArray n v a → IsArray n v b → a ≡ b
array_once n v a b p q h k = h.is ∙ sym k.is

-- The prefix of a list of bytes consists of bytes.
front_bytes : (a prefix back : List ℕ) → a ≡ prefix ++ back → AreBytes a → AreBytes prefix
front_bytes a [] back e h i = grind arith
front_bytes a (x ∷ prefix) back e h zero = rw e at (h 0)
front_bytes a (x ∷ prefix) back e h (suc i) = front_bytes (prefix ++ back) prefix back refl (λ j. rw e at (h (suc j))) i

back_bytes : (a prefix back : List ℕ) → a ≡ prefix ++ back → AreBytes a → AreBytes back
back_bytes a [] back e h = λ i. rw e at (h i)
back_bytes a (x ∷ prefix) back e h = back_bytes (prefix ++ back) prefix back refl (λ j. rw e at (h (suc j)))

pub string_once : (v a b : List ℕ) → AreBytes a → AreBytes b → IsString v a → IsString v b → a ≡ b
string_once v a b p q h k =
    let heads = number_once (length v) h.head k.head (front_bytes a h.head v h.is p) (front_bytes b k.head v k.is q)
    h.counts k.counts in
    h.is ∙ ap (λ l. l ++ v) heads ∙ sym k.is

pub text_once : (v a b : List ℕ) → AreBytes a → AreBytes b → IsText v a → IsText v b → a ≡ b
text_once v a b p q h k = string_once v a b p q h.is k.is

pub mpint_once : (v a b : List ℕ) → AreBytes a → AreBytes b → IsMpint v a → IsMpint v b → a ≡ b
mpint_once v a b p q h k = string_once v a b p q h.is k.is

texts_once : (vs : List (List ℕ)) (a b : List ℕ) → AreBytes a → AreBytes b → AreTexts vs a → AreTexts vs b → a ≡ b
texts_once [] a b p q h k = h ∙ sym k
texts_once (v ∷ vs) a b p q h k =
    let prefix = text_once v h.0 k.0 (front_bytes a h.0 h.1 h.4 p) (front_bytes b k.0 k.1 k.4 q) h.2 k.2 in
    let back = texts_once vs h.1 k.1 (back_bytes a h.0 h.1 h.4 p) (back_bytes b k.0 k.1 k.4 q) h.3 k.3 in
    h.4 ∙ ap (λ l. l ++ h.1) prefix ∙ ap (λ l. k.0 ++ l) back ∙ sym k.4

pub text_list_once : (vs : List (List ℕ)) (a b : List ℕ) → AreBytes a → AreBytes b → IsTextList vs a → IsTextList vs b
    → a ≡ b
text_list_once vs a b p q h k =
    let contents = texts_once vs h.content k.content (back_bytes a h.is.head h.content h.is.is p)
    (back_bytes b k.is.head k.content k.is.is q) h.texts k.texts in
    string_once h.content a b p q h.is (rw contents k.is)
