-- believed
-- The options of a synchronization.
use Rattle.std.specs.Prelude.{◌==◌, ◌&&◌, ◌||◌, ℕ, Bool, true, false, not, nat_lt, Option, Some, None}
use Rattle.transfer_sync.specs.declared.entry.FileFacts.{FileFacts}
use Rattle.transfer_sync.specs.declared.rules.Changed.{Changed}
use Rattle.transfer_sync.specs.declared.rules.Changed.TheVariants.{SizeOrTime, Size, Always}
use Rattle.transfer_sync.specs.declared.rules.Rules.{Rules}

-- The rules that hold for a source: nothing is removed if the source was not listed to its end.
abbrev pub rules_for : Rules → Bool → Rules
rules_for rules complete = record rules { delete = rules.delete && complete }

-- ---- Which files count as changed

-- True if both times are known and equal.
abbrev pub is_same_time : Option ℕ → Option ℕ → Bool
is_same_time (Some a) (Some b) = a == b
is_same_time (Some a) None = false
is_same_time None b = false

-- True if the first time is later, or if one of them is unknown.
abbrev pub is_newer : Option ℕ → Option ℕ → Bool
is_newer (Some a) (Some b) = nat_lt b a
is_newer (Some a) None = true
is_newer None b = true

-- True if two files differ by the chosen test.
abbrev pub counts_as_changed : Changed → FileFacts → FileFacts → Bool
counts_as_changed SizeOrTime source target =
    not (source.len == target.len) || not (is_same_time source.modified target.modified)
counts_as_changed Size source target = not (source.len == target.len)
counts_as_changed Always source target = true

-- True if a file of the source is copied over one of the target: they differ by the chosen test and, if only newer
-- files are to be copied, it is newer.
abbrev pub is_changed : Rules → FileFacts → FileFacts → Bool
is_changed rules source target = counts_as_changed rules.changed source target
    && (not rules.only_newer || is_newer source.modified target.modified)

-- ---- Permissions and times

-- True if the permissions of the source are known, and those of the target are others or unknown.
abbrev pub is_other_mode : Option ℕ → Option ℕ → Bool
is_other_mode (Some a) (Some b) = not (a == b)
is_other_mode (Some a) None = true
is_other_mode None b = false

-- True if the time of the source is known, and that of the target is another or unknown.
abbrev pub is_other_time : Option ℕ → Option ℕ → Bool
is_other_time (Some a) (Some b) = not (a == b)
is_other_time (Some a) None = true
is_other_time None b = false
