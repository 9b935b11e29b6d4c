-- believed
-- Directories that lanes list, by the lanes that were passed in and the reported outcomes of their calls.
use Rattle.std.specs.Prelude.{◌≡◌, ℕ, List, Some}
use Rattle.sftp_model.specs.declared.config.Choice.{Choice}
use Rattle.sftp_model.specs.declared.config.ServerConfig.{ServerConfig}
use Rattle.sftp_model.specs.declared.outcome.Outcome.{Outcome}
use Rattle.sftp_model.specs.declared.outcome.Outcome.TheVariants as outcome
use Rattle.sftp_model.specs.declared.reply.NameEntry.{NameEntry}
use Rattle.machine_model.specs.FileTree.{FileTree}
use Rattle.plan_model.specs.declared.call.Call.TheVariants as call
use Rattle.plan_model.specs.declared.call.Lane.{Lane}
use Rattle.session_model.specs.declared.entry.Entry.{Entry}
use Rattle.session_model.specs.Calls.{Setting}
use Rattle.run_laws.specs.Listings.{IsListed}
use Rattle.run_laws.specs.ReadsBack.{call_in, outcome_in}

-- The listings of a whole run. A `list` that ended with names returns the entries that its directory had when the
-- call's OPENDIR came, or the first of them if a choice may feign an end. This holds regardless of other calls.
abbrev pub ListsDirectories : List Lane → ServerConfig → List Choice → FileTree → Setting → List Entry
    → List (List Outcome) → Type 0
ListsDirectories lanes config choices tree s past outcomes =
    (lane k : ℕ) (path : List ℕ) (bound : ℕ) (names : List NameEntry) → call_in lanes lane k
    ≡ Some (call.List path bound) → outcome_in outcomes lane k ≡ Some (outcome.Names names)
    → IsListed s config choices tree past lane k path names
