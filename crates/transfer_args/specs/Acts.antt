-- believed
-- The verbs of one operation on the server.
use Rattle.std.specs.Prelude.{◌==◌, ℕ, Bool, List, [], ◌∷◌, codes, length, not, Option, Some, None, if◌then◌else◌}
use Rattle.std.specs.Option.{option_and_then, option_map}
use Rattle.std.specs.Str.{bytes_eq}
use Rattle.transfer_args.specs.Numbers.{mode_in}
use Rattle.transfer_args.specs.declared.options.ActVerb.{ActVerb}
use Rattle.transfer_args.specs.declared.options.ActVerb.TheVariants as act_verb
use Rattle.transfer_args.specs.declared.options.Settings.{Settings}

-- The verb that a word is.
abbrev pub act_verb_of : List ℕ → Option ActVerb
act_verb_of word =
    if bytes_eq word (codes "remove") then Some act_verb.Remove
    else if bytes_eq word (codes "mkdir") then Some act_verb.MakeDirectories
    else if bytes_eq word (codes "move") then Some act_verb.Move
    else if bytes_eq word (codes "link") then Some act_verb.Link
    else if bytes_eq word (codes "chmod") then Some act_verb.SetMode
    else None

-- Removes paths, directories with their contents if the first is true; makes directories, with those above if the first
-- is true; moves the first path to the second; makes a link with the first as its text at the second; or sets the
-- permissions of paths.
pub data ActWords : Type 0 where
  Removes : Bool → List (List ℕ) → ActWords
  MakesDirectories : Bool → List (List ℕ) → ActWords
  Moves : List ℕ → List ℕ → ActWords
  MakesLink : List ℕ → List ℕ → ActWords
  SetsMode : ℕ → List (List ℕ) → ActWords

-- False for an empty word.
abbrev pub is_filled : List ℕ → Bool
is_filled word = not (length word == 0)

-- At least one path.
abbrev pub paths_of : List (List ℕ) → Option (List (List ℕ))
paths_of [] = None
paths_of (path ∷ paths) = Some (path ∷ paths)

-- Exactly two operands.
abbrev pub by_two : (List ℕ → List ℕ → ActWords) → List (List ℕ) → Option ActWords
by_two made [] = None
by_two made (first ∷ []) = None
by_two made (first ∷ second ∷ []) = Some (made first second)
by_two made (first ∷ second ∷ another ∷ words) = None

-- The permissions, and then the paths that get them.
abbrev pub mode_of : List (List ℕ) → Option ActWords
mode_of [] = None
mode_of (mode ∷ paths) = option_and_then (λ m. option_map (SetsMode m) (paths_of paths)) (mode_in mode)

-- The operation of a verb on these operands.
abbrev pub act_of : ActVerb → Settings → List (List ℕ) → Option ActWords
act_of act_verb.Remove s operands = option_map (Removes s.options.recursive) (paths_of operands)
act_of act_verb.MakeDirectories s operands = option_map (MakesDirectories s.parents) (paths_of operands)
act_of act_verb.Move s operands = by_two Moves operands
act_of act_verb.Link s operands = by_two MakesLink operands
act_of act_verb.SetMode s operands = mode_of operands
