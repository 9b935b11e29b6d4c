-- Parts of readings keep a fact of the script that is read.
use Rattle.std.proofs.Common.{◌≡◌, Bool, true, false, List, [], ◌∷◌, ℕ, Option, Some, None, Result, Ok, Err, if◌then◌else◌, refl}
use Rattle.ssh_encoding.specs.Reading.{◌>>=◌}
use Rattle.script_words.specs.declared.reason.Reason.{Reason}
use Rattle.script_grammar.specs.declared.script.Script.{Script}
use Rattle.script_words.specs.Lines.{no_word, one_word, or_read, two_words, four_words}
use Rattle.script_grammar.specs.Setup.{Draft, unless_said}

abbrev pub Fact : Type 1
Fact = Script → Type 0

-- it holds of what was read, or nothing was
abbrev IsKept : Fact → Result Draft Reason → Type 0
IsKept F (Ok d) = F d.script
IsKept F (Err why) = Unit {0}

pub record Keeps (F : Fact) (r : Result Draft Reason) : Type 0 where
  pub is : IsKept F r

-- the same where a line is one of a list of lines
abbrev IsKeptIn : Fact → Option (Result Draft Reason) → Type 0
IsKeptIn F None = Unit {0}
IsKeptIn F (Some r) = Keeps F r

pub record KeepsIn (F : Fact) (r : Option (Result Draft Reason)) : Type 0 where
  pub is : IsKeptIn F r

pub if_keeps : {F : Fact} (b : Bool) (x y : Result Draft Reason) → Keeps F x → Keeps F y → Keeps F (if b then x else y)
if_keeps true x y h k = h
if_keeps false x y h k = k

pub if_keeps_in : {F : Fact} (b : Bool) (x : Result Draft Reason) (y : Option (Result Draft Reason)) → Keeps F x
    → KeepsIn F y
    → KeepsIn F (if b then Some x else y)
if_keeps_in true x y h k = record { is = h }
if_keeps_in false x y h k = k

pub or_keeps : {F : Fact} (x : Option (Result Draft Reason)) (y : Result Draft Reason) → KeepsIn F x → Keeps F y
    → Keeps F (or_read x y)
or_keeps None y h k = k
or_keeps (Some x) y h k = h.is

pub bind_keeps : {F : Fact} {A : Type 0} (m : Result A Reason) (f : A → Result Draft Reason)
    → ((x : A) → m ≡ Ok x → Keeps F (f x)) → Keeps F (m >>= f)
bind_keeps (Ok x) f h = h x refl
bind_keeps (Err why) f h = record { is = tt }

pub unless_keeps : {F : Fact} (b : Bool) (d : Draft) → (b ≡ false → F d.script) → Keeps F (unless_said b d)
unless_keeps true d k = record { is = tt }
unless_keeps false d k = record { is = k refl }

pub no_keeps : {F : Fact} (d : Draft) (words : List (List ℕ)) → F d.script → Keeps F (no_word d words)
no_keeps d [] k = record { is = k }
no_keeps d (a ∷ words) k = record { is = tt }

pub one_keeps : {F : Fact} (f : List ℕ → Result Draft Reason) (words : List (List ℕ)) → ((a : List ℕ) → Keeps F (f a))
    → Keeps F (one_word f words)
one_keeps f [] h = record { is = tt }
one_keeps f (a ∷ []) h = h a
one_keeps f (a ∷ b ∷ words) h = record { is = tt }

pub two_keeps : {F : Fact} (f : List ℕ → List ℕ → Result Draft Reason) (words : List (List ℕ))
    → ((a b : List ℕ) → Keeps F (f a b)) → Keeps F (two_words f words)
two_keeps f [] h = record { is = tt }
two_keeps f (a ∷ []) h = record { is = tt }
two_keeps f (a ∷ b ∷ []) h = h a b
two_keeps f (a ∷ b ∷ c ∷ words) h = record { is = tt }

pub four_keeps : {F : Fact} (f : List ℕ → List ℕ → List ℕ → List ℕ → Result Draft Reason) (words : List (List ℕ))
    → ((a b c e : List ℕ) → Keeps F (f a b c e)) → Keeps F (four_words f words)
four_keeps f [] h = record { is = tt }
four_keeps f (a ∷ []) h = record { is = tt }
four_keeps f (a ∷ b ∷ []) h = record { is = tt }
four_keeps f (a ∷ b ∷ c ∷ []) h = record { is = tt }
four_keeps f (a ∷ b ∷ c ∷ e ∷ []) h = h a b c e
four_keeps f (a ∷ b ∷ c ∷ e ∷ g ∷ words) h = record { is = tt }
