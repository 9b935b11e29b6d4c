-- believed, except pattern_seen, choices_seen, operands_seen, read_seen, act_seen, work_seen, asked_seen, Reads
-- The meaning of a transfer's command line.
use Rattle.std.specs.Prelude.{
  ◌≡◌,
  ◌==◌,
  ◌&&◌,
  ◌||◌,
  ℕ,
  Bool,
  true,
  false,
  List,
  [],
  ◌∷◌,
  ◌++◌,
  codes,
  drop,
  length,
  map,
  nat_lt,
  not,
  Option,
  Some,
  None,
  Result,
  Ok,
  Err,
  if◌then◌else◌,
}
use Rattle.std.specs.Borrow.{Bor}
use Rattle.std.specs.Global.{Global}
use Rattle.std.specs.List.{after_first, before_first, list_all, position_or_len, starts_with}
use Rattle.std.specs.Option.{option_and_then, option_map}
use Rattle.std.specs.Str.{bytes_eq}
use Rattle.std.specs.declared.vec.Vec.{Vec}
use Rattle.transfer_args.specs.Acts.{
  ActWords,
  MakesDirectories,
  MakesLink,
  Moves,
  Removes,
  SetsMode,
  act_of,
  act_verb_of,
  is_filled,
}
use Rattle.transfer_args.specs.Links.{LinkWord, AtStdio, link_at, link_seen}
use Rattle.transfer_args.specs.Numbers.{number_in, shard_in, size_in}
use Rattle.transfer_args.specs.declared.args_error.ArgsError.{ArgsError}
use Rattle.transfer_args.specs.declared.args_error.ArgsError.TheVariants as args_error
use Rattle.transfer_args.specs.declared.asked.Act.{Act}
use Rattle.transfer_args.specs.declared.asked.Act.TheVariants as act
use Rattle.transfer_args.specs.declared.asked.Asked.{Asked}
use Rattle.transfer_args.specs.declared.asked.Direction.{Direction}
use Rattle.transfer_args.specs.declared.asked.Direction.TheVariants.{Get, Put}
use Rattle.transfer_args.specs.declared.asked.Pattern.{Pattern}
use Rattle.transfer_args.specs.declared.asked.Pattern.TheVariants as pattern
use Rattle.transfer_args.specs.declared.asked.Work.{Work}
use Rattle.transfer_args.specs.declared.asked.Work.TheVariants as work
use Rattle.transfer_args.specs.declared.options.ActVerb.{ActVerb}
use Rattle.transfer_args.specs.declared.options.ActVerb.TheVariants as act_verb
use Rattle.transfer_args.specs.declared.options.Changed.TheVariants as changed
use Rattle.transfer_args.specs.declared.options.Flag.{Flag}
use Rattle.transfer_args.specs.declared.options.Flag.TheVariants as flag
use Rattle.transfer_args.specs.declared.options.MirrorRules.{MirrorRules}
use Rattle.transfer_args.specs.declared.options.Options.{Options}
use Rattle.transfer_args.specs.declared.options.PatternOption.{PatternOption}
use Rattle.transfer_args.specs.declared.options.PatternOption.TheVariants as pattern_option
use Rattle.transfer_args.specs.declared.options.Setting.{Setting}
use Rattle.transfer_args.specs.declared.options.Setting.TheVariants as setting
use Rattle.transfer_args.specs.declared.options.Settings.{Settings}
use Rattle.transfer_args.specs.declared.options.Valued.{Valued}
use Rattle.transfer_args.specs.declared.options.Valued.TheVariants as valued
use Rattle.transfer_args.specs.declared.options.Verb.{Verb}
use Rattle.transfer_args.specs.declared.options.Verb.TheVariants as verb
use Rattle.transfer_args.specs.declared.values.Choices.{Choices}
use Rattle.transfer_filter.specs.Patterns.{is_pattern}

-- ---- Options

-- The options, and the rules of `push` and `pull`, of a command line that chooses none.
abbrev pub plain_options : Options
plain_options = record {
  long = false;
  recursive = false;
  preserve = false;
  quiet = false;
  progress = false;
  resume = false;
  verify = false;
  sync = false;
  links_as_is = false;
  window = 64;
  files = 32;
  limit = 16777216;
  rate = 0;
  timeout = 60;
}

abbrev pub plain_rules : MirrorRules
plain_rules = record {
  changed = changed.SizeOrTime;
  update = false;
  delete = false;
  delete_at_most = 100;
  dry_run = false;
  shard = record { index = 1; count = 1 };
  again = 0;
}

abbrev pub plain_settings : Settings
plain_settings = record { options = plain_options; rules = plain_rules; parents = false }

-- The settings with an option that has no value.
abbrev pub with_flag : Settings → Flag → Settings
with_flag s flag.Long = record s { options = record s.options { long = true } }
with_flag s flag.Recursive = record s { options = record s.options { recursive = true } }
with_flag s flag.Preserve = record s { options = record s.options { preserve = true } }
with_flag s flag.Quiet = record s { options = record s.options { quiet = true } }
with_flag s flag.Progress = record s { options = record s.options { progress = true } }
with_flag s flag.Resume = record s { options = record s.options { resume = true } }
with_flag s flag.Verify = record s { options = record s.options { verify = true } }
with_flag s flag.Sync = record s { options = record s.options { sync = true } }
with_flag s (flag.Changed changed) = record s { rules = record s.rules { changed = changed } }
with_flag s flag.Update = record s { rules = record s.rules { update = true } }
with_flag s flag.Delete = record s { rules = record s.rules { delete = true } }
with_flag s flag.DryRun = record s { rules = record s.rules { dry_run = true } }
with_flag s flag.Parents = record s { parents = true }

-- The option of all verbs that copy that a letter is: `p` or `q`.
abbrev pub copying_flag_of_letter : ℕ → Option Flag
copying_flag_of_letter letter =
    if letter == 112 then Some flag.Preserve
    else if letter == 113 then Some flag.Quiet
    else None

-- The option of a verb of one operation that a letter is.
abbrev pub flag_of_act : ActVerb → ℕ → Option Flag
flag_of_act act_verb.Remove letter = if letter == 114 then Some flag.Recursive else None
flag_of_act act_verb.MakeDirectories letter = if letter == 112 then Some flag.Parents else None
flag_of_act act_verb.Move letter = None
flag_of_act act_verb.Link letter = None
flag_of_act act_verb.SetMode letter = None

-- The option of a verb that a letter is. Besides those of all verbs that copy, `get` and `put` have `r`, `push` and
-- `pull` have `n`. `list` has `l` alone, `remove` has `r`, and `mkdir` has `p`.
abbrev pub flag_of_letter : Verb → ℕ → Option Flag
flag_of_letter verb.Copy letter = if letter == 114 then Some flag.Recursive else copying_flag_of_letter letter
flag_of_letter verb.Mirror letter = if letter == 110 then Some flag.DryRun else copying_flag_of_letter letter
flag_of_letter verb.List letter = if letter == 108 then Some flag.Long else None
flag_of_letter (verb.Act act) letter = flag_of_act act letter

-- The settings after the letters of one word, as in `-rp`.
abbrev pub with_letters : Verb → Settings → List ℕ → Option Settings
with_letters verb s [] = Some s
with_letters verb s (letter ∷ letters) =
    option_and_then (λ flag. with_letters verb (with_flag s flag) letters) (flag_of_letter verb letter)

-- The option of all verbs that copy that a word is.
abbrev pub copying_flag_of_word : List ℕ → Option Flag
copying_flag_of_word word =
    if bytes_eq word (codes "--progress") then Some flag.Progress
    else if bytes_eq word (codes "--resume") then Some flag.Resume
    else if bytes_eq word (codes "--verify") then Some flag.Verify
    else if bytes_eq word (codes "--sync") then Some flag.Sync
    else None

-- The option of `push` and `pull` that a word is.
abbrev pub mirror_flag_of_word : List ℕ → Option Flag
mirror_flag_of_word word =
    if bytes_eq word (codes "--size-only") then Some (flag.Changed changed.Size)
    else if bytes_eq word (codes "--always") then Some (flag.Changed changed.Always)
    else if bytes_eq word (codes "--update") then Some flag.Update
    else if bytes_eq word (codes "--delete") then Some flag.Delete
    else if bytes_eq word (codes "--dry-run") then Some flag.DryRun
    else copying_flag_of_word word

-- The option of a verb that a word is.
abbrev pub flag_of_word : Verb → List ℕ → Option Flag
flag_of_word verb.Copy word = copying_flag_of_word word
flag_of_word verb.Mirror word = mirror_flag_of_word word
flag_of_word verb.List word = None
flag_of_word (verb.Act act) word = None

-- The settings after a word of options without a value: a hyphen and at least one letter, or two hyphens and a name.
abbrev pub with_flags : Verb → Settings → List ℕ → Option Settings
with_flags verb s [] = None
with_flags verb s (hyphen ∷ []) = None
with_flags verb s (hyphen ∷ letter ∷ letters) =
    if letter == 45 then option_map (with_flag s) (flag_of_word verb (hyphen ∷ letter ∷ letters))
    else with_letters verb s (letter ∷ letters)

-- ---- Options with a value

-- The option of all verbs that copy that a value follows, if the word is one.
abbrev pub copying_valued_by : List ℕ → Option Valued
copying_valued_by word =
    if bytes_eq word (codes "--window") then Some (valued.Setting setting.Window)
    else if bytes_eq word (codes "--files") then Some (valued.Setting setting.Files)
    else if bytes_eq word (codes "--in-flight") || bytes_eq word (codes "--limit") then
    Some (valued.Setting setting.Limit)
    else if bytes_eq word (codes "--links") then Some (valued.Setting setting.Links)
    else if bytes_eq word (codes "--rate") then Some (valued.Setting setting.Rate)
    else None

-- The option of `push` and `pull` that a value follows, if the word is one.
abbrev pub mirror_valued_by : List ℕ → Option Valued
mirror_valued_by word =
    if bytes_eq word (codes "--exclude") then Some (valued.Pattern pattern_option.Exclude)
    else if bytes_eq word (codes "--include") then Some (valued.Pattern pattern_option.Include)
    else if bytes_eq word (codes "--exclude-from") then Some (valued.Pattern pattern_option.ExcludeFrom)
    else if bytes_eq word (codes "--delete-at-most") then Some (valued.Setting setting.DeleteAtMost)
    else if bytes_eq word (codes "--shard") then Some (valued.Setting setting.Shard)
    else if bytes_eq word (codes "--again") then Some (valued.Setting setting.Again)
    else copying_valued_by word

-- The option that a value follows, if the word is one. A listing and an operation have only the time limit.
abbrev pub valued_by : Verb → List ℕ → Option Valued
valued_by verb.Copy word =
    if bytes_eq word (codes "--timeout") then Some (valued.Setting setting.Timeout) else copying_valued_by word
valued_by verb.Mirror word =
    if bytes_eq word (codes "--timeout") then Some (valued.Setting setting.Timeout) else mirror_valued_by word
valued_by verb.List word =
    if bytes_eq word (codes "--timeout") then Some (valued.Setting setting.Timeout) else None
valued_by (verb.Act act) word =
    if bytes_eq word (codes "--timeout") then Some (valued.Setting setting.Timeout) else None

-- The settings with the value that a word writes: links as they are, a window of at most 1024, at most 256 files at
-- once, at most 1073741824 bytes in flight, a time limit of at most 86400 seconds, where 0 is none, at most 1000000
-- entries that may be removed, at most 1073741824 bytes a second, where 0 is no limit, a share of the files, or at most
-- 1000 further tries.
abbrev pub with_setting : Settings → Setting → List ℕ → Option Settings
with_setting s setting.Links word =
    if bytes_eq word (codes "as-is") then Some (record s { options = record s.options { links_as_is = true } }) else
    None
with_setting s setting.Window word =
    option_map (λ n. record s { options = record s.options { window = n } }) (number_in 1 1024 word)
with_setting s setting.Files word =
    option_map (λ n. record s { options = record s.options { files = n } }) (number_in 1 256 word)
with_setting s setting.Limit word =
    option_map (λ n. record s { options = record s.options { limit = n } }) (size_in 1 1073741824 word)
with_setting s setting.Timeout word =
    option_map (λ n. record s { options = record s.options { timeout = n } }) (number_in 0 86400 word)
with_setting s setting.DeleteAtMost word =
    option_map (λ n. record s { rules = record s.rules { delete_at_most = n } }) (number_in 0 1000000 word)
with_setting s setting.Rate word =
    option_map (λ n. record s { options = record s.options { rate = n } }) (size_in 0 1073741824 word)
with_setting s setting.Shard word =
    option_map (λ shard. record s { rules = record s.rules { shard = shard } }) (shard_in word)
with_setting s setting.Again word =
    option_map (λ n. record s { rules = record s.rules { again = n } }) (number_in 0 1000 word)

-- A pattern of entries that are left out or taken, or the file of such patterns.
pub data PatternWord : Type 0 where
  Excludes : List ℕ → PatternWord
  Includes : List ℕ → PatternWord
  ExcludesFrom : List ℕ → PatternWord

-- The pattern that a word writes, if it is understood, or the file that it names.
abbrev pub pattern_of : PatternOption → List ℕ → Option PatternWord
pattern_of pattern_option.Exclude word = if is_pattern word then Some (Excludes word) else None
pattern_of pattern_option.Include word = if is_pattern word then Some (Includes word) else None
pattern_of pattern_option.ExcludeFrom word = Some (ExcludesFrom word)

-- What options choose: the settings, and the patterns in the order of the command line.
pub record ChoiceWords : Type 0 where
  pub settings : Settings
  pub patterns : List PatternWord

abbrev pub plain_choices : ChoiceWords
plain_choices = record { settings = plain_settings; patterns = [] }

-- The choices with the value that a word writes.
abbrev pub with_value : ChoiceWords → Valued → List ℕ → Option ChoiceWords
with_value c (valued.Setting setting) word = option_map (λ s. record c { settings = s })
    (with_setting c.settings setting word)
with_value c (valued.Pattern option) word =
    option_map (λ p. record c { patterns = c.patterns ++ p ∷ [] }) (pattern_of option word)

-- ---- Options and operands

-- True if the word is an option.
abbrev pub is_option : List ℕ → Bool
is_option word = starts_with ◌==◌ word (codes "-")

-- The result for an option that a value follows, or the other result if there is no such option.
abbrev pub by_valued : {A : Type 0} → (Valued → A) → A → Option Valued → A
by_valued valued_one other None = other
by_valued valued_one other (Some option) = valued_one option

-- True for an equals sign.
abbrev pub is_equals : ℕ → Bool
is_equals b = b == 61

-- The choices after an option that is one word: its name and its value with an equals sign between them, or flags.
abbrev pub with_option : Verb → ChoiceWords → List ℕ → Option ChoiceWords
with_option verb c word =
    if nat_lt (position_or_len is_equals word) (length word) then
    by_valued (λ option. with_value c option (after_first is_equals word)) None
    (valued_by verb (before_first is_equals word))
    else option_map (λ s. record c { settings = s }) (with_flags verb c.settings word)

-- The choices of the options among the words, and the operands: those before, and then the words that are neither
-- options nor their values. A word that begins with "-" is an option, and after "--" each word is an operand. An option
-- that takes a value has it after an equals sign, or as the next word.
abbrev pub options_by : Verb → ChoiceWords → Option Valued → List (List ℕ) → List (List ℕ)
    → Option (ChoiceWords × List (List ℕ))
options_by verb c None before [] = Some (c, before)
options_by verb c (Some option) before [] = None
options_by verb c (Some option) before (word ∷ words) =
    option_and_then (λ more. options_by verb more None before words) (with_value c option word)
options_by verb c None before (word ∷ words) =
    if bytes_eq word (codes "--") then Some (c, before ++ words)
    else by_valued (λ option. options_by verb c (Some option) before words)
    (if is_option word then option_and_then (λ more. options_by verb more None before words) (with_option verb c word)
    else options_by verb c None (before ++ word ∷ []) words)
    (valued_by verb word)

-- ---- The work

-- The words before the last one, and the last one.
abbrev pub split_last : List (List ℕ) → Option (List (List ℕ) × List ℕ)
split_last [] = None
split_last (word ∷ []) = Some ([], word)
split_last (word ∷ next ∷ words) = option_map (λ s. (word ∷ s.0, s.1)) (split_last (next ∷ words))

-- Files to copy, a directory whose names are to be written, a tree and the one that is made like it, or one operation.
pub data WorkWords : Type 0 where
  Copies : Direction → Options → List (List ℕ) → List ℕ → WorkWords
  Lists : Options → List ℕ → WorkWords
  Mirrors : Direction → Options → MirrorRules → List PatternWord → List ℕ → List ℕ → WorkWords
  Acts : ActWords → Options → WorkWords

-- One source or more, and the target.
abbrev pub copy_to : Direction → Options → Option (List (List ℕ) × List ℕ) → Option WorkWords
copy_to way o None = None
copy_to way o (Some ([], target)) = None
copy_to way o (Some (source ∷ sources, target)) = Some (Copies way o (source ∷ sources) target)

-- The last operand is the target.
abbrev pub copy_of : Direction → Options → List (List ℕ) → Option WorkWords
copy_of way o operands = copy_to way o (split_last operands)

abbrev pub copy_by : Direction → List (List ℕ) → Option WorkWords
copy_by way words = option_and_then (λ r. copy_of way r.0.settings.options r.1)
    (options_by verb.Copy plain_choices None [] words)

-- A directory. Without one it is the directory in which the session starts.
abbrev pub list_at : Options → List (List ℕ) → Option WorkWords
list_at o [] = Some (Lists o (codes "."))
list_at o (path ∷ []) = Some (Lists o path)
list_at o (path ∷ another ∷ words) = None

abbrev pub list_by : List (List ℕ) → Option WorkWords
list_by words = option_and_then (λ r. list_at r.0.settings.options r.1)
    (options_by verb.List plain_choices None [] words)

-- True if entries are to be removed by a run that copies a share of the files alone.
abbrev pub removes_by_shares : MirrorRules → Bool
removes_by_shares rules = rules.delete && nat_lt 1 rules.shard.count

-- A tree that is made like another one. A run that copies a share of the files removes nothing.
abbrev pub mirror_of : Direction → ChoiceWords → List ℕ → List ℕ → Option WorkWords
mirror_of way c from to =
    if removes_by_shares c.settings.rules then None
    else Some (Mirrors way c.settings.options c.settings.rules c.patterns from to)

-- Two directories: the one that is read, and the one that is changed.
abbrev pub mirror_at : Direction → ChoiceWords → List (List ℕ) → Option WorkWords
mirror_at way c [] = None
mirror_at way c (from ∷ []) = None
mirror_at way c (from ∷ to ∷ []) = mirror_of way c from to
mirror_at way c (from ∷ to ∷ another ∷ words) = None

abbrev pub mirror_by : Direction → List (List ℕ) → Option WorkWords
mirror_by way words = option_and_then (λ r. mirror_at way r.0 r.1) (options_by verb.Mirror plain_choices None [] words)

-- The operation of a verb on operands of which none is empty.
abbrev pub act_at : ActVerb → Settings → List (List ℕ) → Option WorkWords
act_at verb s operands =
    if list_all is_filled operands then option_map (λ act. Acts act s.options) (act_of verb s operands) else None

abbrev pub act_by : ActVerb → List (List ℕ) → Option WorkWords
act_by act words = option_and_then (λ r. act_at act r.0.settings r.1)
    (options_by (verb.Act act) plain_choices None [] words)

abbrev pub work_by : List ℕ → List (List ℕ) → Option WorkWords
work_by verb words =
    if bytes_eq verb (codes "get") then copy_by Get words
    else if bytes_eq verb (codes "put") then copy_by Put words
    else if bytes_eq verb (codes "push") then mirror_by Put words
    else if bytes_eq verb (codes "pull") then mirror_by Get words
    else if bytes_eq verb (codes "list") then list_by words
    else option_and_then (λ act. act_by act words) (act_verb_of verb)

-- True if the names of entries are written to standard output: by a listing or a dry run.
abbrev pub writes_names : WorkWords → Bool
writes_names (Copies way o sources target) = false
writes_names (Lists o path) = true
writes_names (Mirrors way o rules patterns from to) = rules.dry_run
writes_names (Acts act o) = false

-- How often a lost connection is made again.
abbrev pub tries_again : WorkWords → ℕ
tries_again (Copies way o sources target) = 0
tries_again (Lists o path) = 0
tries_again (Mirrors way o rules patterns from to) = rules.again
tries_again (Acts act o) = 0

-- False only if names are to be written and standard output is the connection.
abbrev pub can_do : LinkWord → WorkWords → Bool
can_do AtStdio work = not (writes_names work)
can_do at work = true

abbrev pub asked_at : LinkWord → WorkWords → Option (LinkWord × WorkWords)
asked_at at work = if can_do at work then Some (at, work) else None

-- The address of the server, a verb, and the words after it.
abbrev pub asked_by : List (List ℕ) → Option (LinkWord × WorkWords)
asked_by [] = None
asked_by (word ∷ []) = None
asked_by (word ∷ verb ∷ words) = option_and_then (λ at. option_and_then (asked_at at) (work_by verb words))
    (link_at word)

-- ---- The values of the code

abbrev pub pattern_seen : Pattern → PatternWord
pattern_seen (pattern.Exclude text) = Excludes text.now
pattern_seen (pattern.Include text) = Includes text.now
pattern_seen (pattern.ExcludeFrom file) = ExcludesFrom file.now

abbrev pub choices_seen : Choices → ChoiceWords
choices_seen c = record { settings = c.settings; patterns = map pattern_seen c.patterns.items }

abbrev pub operands_seen : Vec (Bor (List ℕ)) Global → List (List ℕ)
operands_seen operands = map (λ w. w.now) operands.items

abbrev pub read_seen : Choices × Vec (Bor (List ℕ)) Global → ChoiceWords × List (List ℕ)
read_seen read = (choices_seen read.0, operands_seen read.1)

abbrev pub act_seen : Act → ActWords
act_seen (act.Remove recursive paths) = Removes recursive (operands_seen paths)
act_seen (act.MakeDirectories parents paths) = MakesDirectories parents (operands_seen paths)
act_seen (act.Move from to) = Moves from.now to.now
act_seen (act.Link text path) = MakesLink text.now path.now
act_seen (act.SetMode mode paths) = SetsMode mode (operands_seen paths)

abbrev pub work_seen : Work → WorkWords
work_seen (work.Copy t) = Copies t.way t.options (operands_seen t.sources) t.target.now
work_seen (work.List l) = Lists l.options l.path.now
work_seen (work.Mirror m) =
    Mirrors m.way m.options m.rules (map pattern_seen m.patterns.items) m.from.now m.to.now
work_seen (work.Act j) = Acts (act_seen j.act) j.options

abbrev pub asked_seen : Asked → LinkWord × WorkWords
asked_seen a = (link_seen a.link, work_seen a.work)

-- The command line is read as the definition says, unless an allocation fails.
abbrev pub Reads : {A B : Type 0} → (A → B) → Result A ArgsError → Option B → Type 0
Reads seen (Ok value) expected = expected ≡ Some (seen value)
Reads seen (Err args_error.Refused) expected = expected ≡ None
Reads seen (Err args_error.OutOfMemory) expected = Unit {0}
