-- The lists that spell a value: RFC 4251, section 5, with strings and lengths of at most 1048575.
use Rattle.std.specs.Prelude.{ℕ, ◌≡◌, ◌≤◌, ◌<◌, ◌==◌, Bool, true, not, List, [], ◌∷◌, ◌++◌, length, get_or, Result, Ok}
use Rattle.std.specs.Int.{Width, w32, byte_len, from_be_bytes}
use Rattle.std.specs.Str.{is_utf8}
use Rattle.ssh_encoding.specs.Reading.{MAX_LEN, MAX_LABEL_LEN}
use Rattle.ssh_encoding.specs.Canonical.{is_canonical}
use Rattle.ssh_encoding.specs.declared.error.Error.{Error}

-- The bytes begin with a text of the kind, and the rest follows it.
pub record BeginsWithText (IsText : List ℕ → Type 0) (bytes rest : List ℕ) : Type 0 where
  pub text : List ℕ
  pub is : IsText text
  pub splits : bytes ≡ text ++ rest

-- A reading takes only spellings of the value, and it takes every spelling.
pub record IsExact {A E : Type 0} (spells : A → List ℕ → Type 0) (reading : List ℕ → Result (A × List ℕ) E)
    (bytes rest : List ℕ) (v : A) : Type 0 where
  pub takes : reading bytes ≡ Ok (v, rest) → BeginsWithText (spells v) bytes rest
  pub again : BeginsWithText (spells v) bytes rest → reading bytes ≡ Ok (v, rest)

-- Each number of the list is a byte.
abbrev pub AreBytes : List ℕ → Type 0
AreBytes bytes = (i : ℕ) → get_or bytes i 0 < 256

abbrev pub IsByte : ℕ → List ℕ → Type 0
IsByte v text = text ≡ v ∷ []

-- `n` bytes as they are.
pub record IsArray (n : ℕ) (v text : List ℕ) : Type 0 where
  pub len : length v ≡ n
  pub is : text ≡ v

-- 0 is false, and every other byte is true.
pub record IsFlag (b : Bool) (text : List ℕ) : Type 0 where
  pub byte : ℕ
  pub is : text ≡ byte ∷ []
  pub value : b ≡ not (byte == 0)

-- The number in the bytes of its width, most significant first.
pub record IsNumber (w : Width) (n : ℕ) (text : List ℕ) : Type 0 where
  pub len : length text ≡ byte_len w
  pub value : n ≡ from_be_bytes w text

-- A number within the limit of lengths.
pub record IsLen (n : ℕ) (text : List ℕ) : Type 0 where
  pub is : IsNumber w32 n text
  pub small : n ≤ MAX_LEN

-- Four bytes of length, and that many bytes.
pub record IsString (v text : List ℕ) : Type 0 where
  pub head : List ℕ
  pub counts : IsNumber w32 (length v) head
  pub is : text ≡ head ++ v
  pub small : length v ≤ MAX_LEN

-- A string in UTF-8.
pub record IsText (v text : List ℕ) : Type 0 where
  pub is : IsString v text
  pub utf8 : is_utf8 v ≡ true

-- Texts, one after another.
abbrev pub AreTexts : List (List ℕ) → List ℕ → Type 0
AreTexts [] content = content ≡ []
AreTexts (v ∷ vs) content = (prefix : List ℕ) × (back : List ℕ) × IsText v prefix × AreTexts vs back
    × (content ≡ prefix ++ back)

-- A string that holds texts to its end.
pub record IsTextList (vs : List (List ℕ)) (text : List ℕ) : Type 0 where
  pub content : List ℕ
  pub texts : AreTexts vs content
  pub is : IsString content text

-- A string that is a canonical number.
pub record IsMpint (v text : List ℕ) : Type 0 where
  pub is : IsString v text
  pub canonical : is_canonical v ≡ true

-- A string of at most 48 bytes in UTF-8 whose meaning is `v`.
pub record IsLabel {A : Type 0} (meaning : List ℕ → Result A Error) (v : A) (text : List ℕ) : Type 0 where
  pub name : List ℕ
  pub is : IsString name text
  pub short : length name ≤ MAX_LABEL_LEN
  pub utf8 : is_utf8 name ≡ true
  pub means : meaning name ≡ Ok v
