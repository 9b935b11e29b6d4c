use Rattle.std.proofs.Common.{◌≡◌, Some, drop}
use Rattle.sftp_model.specs.OpenOptions.{nothing_chosen}
use Rattle.script_words.specs.Lines.{with_letters}
use Rattle.script_words.proofs.flags.Letters.of_word.Given as goal

-- the letters that are left give the options of all
abbrev pub invariant-loop-letter : goal.invariant-loop-letter
invariant-loop-letter l = with_letters (Some nothing_chosen) l.word
    ≡ with_letters (Some l.letters) (drop l.letter-index l.word)
