-- Worked settings.
use Rattle.std.specs.Prelude.{ℕ, ◌≡◌, ◌++◌, ◌∷◌, [], replicate, Bool, true, false, Some, refl}
use Rattle.sftp_model.specs.Options.{default_options}
use Rattle.sftp_model.specs.declared.flags.Extensions.{Extensions}
use Rattle.sftp_model.specs.declared.reply.Reply.{Reply}
use Rattle.sftp_model.specs.declared.reply.Reply.TheVariants as reply
use Rattle.sftp_model.specs.ReplyReadings.{limits_at}
use Rattle.session_model.specs.Calls.{Setting}
use Rattle.session_model.specs.Settings.{setting_of}
use Rattle.session_model.specs.RowWords.{take}
use Rattle.session_model.specs.EntryRows.{asked_limits, told_limits}

abbrev extensions : ℕ → Extensions
extensions set = record { 0 = set }

abbrev set_by : Bool → ℕ → ℕ → ℕ → Setting
set_by limits set read write =
    record {
      lanes = [];
      facts = record {
        extensions = extensions set;
        read_len = read;
        write_len = write;
        write_limit = 655360;
        read_window = 1;
      };
      limits = limits;
      max_pending = 100;
    }

pub nothing_offered : setting_of [] default_options (extensions 0) [] ≡ set_by false 0 32768 32768
nothing_offered = refl

-- The option bounds the length that the server lets clients read.
pub read_less : setting_of [] (record default_options { max_read_len = Some 7 }) (extensions 4) []
    ≡ set_by false 4 7 32768
read_less = refl

-- A window within its range is used as it is; none is less than one READ or more than 64.
abbrev window_of : ℕ → ℕ
window_of reads = (setting_of [] (record default_options { read_window = reads }) (extensions 0) []).facts.read_window

pub window_within : window_of 3 ≡ 3
window_within = refl

pub no_window : window_of 0 ≡ 1
no_window = refl

pub window_too_great : window_of 65 ≡ 64
window_too_great = refl

-- A server that offers limits and hasn't reported them yet.
pub not_told_yet : setting_of [] default_options (extensions 32) asked_limits ≡ set_by true 32 32768 32768
not_told_yet = refl

-- Numbers of 0 say nothing.
pub told_nothing : setting_of [] default_options (extensions 32) told_limits ≡ set_by true 32 32768 32768
unfolding limits_at
told_nothing = refl

-- Packets of 0, reads of 9 and writes of 256 bytes.
abbrev some_limits : Reply
some_limits = reply.Extended (replicate 15 0 ++ 9 ∷ replicate 6 0 ++ 1 ∷ replicate 9 0)

pub told_some : setting_of [] default_options (extensions 32) (take 0 some_limits ∷ asked_limits) ≡ set_by true 32 9 256
unfolding limits_at
told_some = refl

-- A first reply counts only if the server offers its limits.
pub not_offered : setting_of [] default_options (extensions 31) (take 0 some_limits ∷ asked_limits)
    ≡ set_by false 31 32768 32768
not_offered = refl
