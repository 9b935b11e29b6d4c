-- believed
-- The calls that open a path, work on it and end: whole writes and listings. No slot holds the files that they open.
use Rattle.std.specs.Prelude.{ℕ, ◌+◌, ◌-◌, ◌==◌, List, [], ◌∷◌, ◌++◌, if◌then◌else◌}
use Rattle.sftp_model.specs.Numbers.{SSH_FXF_WRITE, SSH_FXF_CREAT, SSH_FXF_TRUNC}
use Rattle.sftp_model.specs.declared.flags.OpenFlags.{OpenFlags}
use Rattle.sftp_model.specs.declared.request.Request.TheVariants as request
use Rattle.sftp_model.specs.declared.reply.Reply.{Reply}
use Rattle.sftp_model.specs.declared.reply.Reply.TheVariants as reply
use Rattle.sftp_model.specs.declared.reply.NameEntry.{NameEntry}
use Rattle.sftp_model.specs.declared.outcome.Outcome.TheVariants as outcome
use Rattle.sftp_model.specs.declared.slot.Facts.{Facts}
use Rattle.sftp_model.specs.declared.slot.Move.{Move}
use Rattle.sftp_model.specs.declared.slot.Move.TheVariants.{Ask, Done}
use Rattle.sftp_model.specs.Answers.{is_end_of_file}
use Rattle.sftp_model.specs.declared.slot.Site.{Site}
use Rattle.plan_model.specs.Moves.{Plan, once_answered, ask_path, refusal_move, on_handle}
use Rattle.plan_model.specs.PathPlans.{from_directory}
use Rattle.plan_model.specs.FilePlans.{open_request, opened_file}
use Rattle.plan_model.specs.TransferPlans.{FileKeeper, rest_next}

-- A call that opens first, and continues with the place of its OPEN, the handle and its further requests.
abbrev pub once_opened : Move → Site → (ℕ → List ℕ → Plan) → Plan
once_opened first site go [] answers = first
once_opened first site go (asked ∷ later) answers = once_answered asked.0 (answers asked.0)
    (λ r. on_handle r site (λ handle. go asked.0 handle later answers))

-- ---- fs_write: the file is created or truncated, and written as by write_all

-- The flags WRITE, CREAT and TRUNC.
abbrev pub to_replace : OpenFlags
to_replace = record { 0 = SSH_FXF_WRITE + SSH_FXF_CREAT + SSH_FXF_TRUNC }

-- No slot holds the file.
abbrev pub nowhere : FileKeeper
nowhere file site = site

abbrev pub fs_write_next : List ℕ → List ℕ → Site → Facts → Plan
fs_write_next path bytes site facts =
    once_opened (ask_path (open_request to_replace (from_directory site path)) site) site
    (λ place handle. rest_next nowhere (opened_file to_replace place) bytes site facts)

-- ---- List: entries until the end or an empty NAME

-- After a NAME the call continues with its entries; an empty one and a STATUS 1 end it.
abbrev pub on_names : Reply → Site → Move → (List NameEntry → Move) → Move
on_names (reply.Names []) site ended go = ended
on_names (reply.Names (entry ∷ entries)) site ended go = go (entry ∷ entries)
on_names other site ended go = if is_end_of_file other then ended else refusal_move other site

-- The plan after the entries so far, with this many requests left.
abbrev pub entries_next : List ℕ → List NameEntry → ℕ → Site → Plan
entries_next handle got bound site [] answers = if bound == 0 then Done outcome.GivenUp site else
    Ask (request.Readdir handle)
entries_next handle got bound site (asked ∷ later) answers =
    once_answered asked.0 (answers asked.0) (λ r. on_names r site (Done (outcome.Names got) site)
    (λ entries. entries_next handle (got ++ entries) (bound - 1) site later answers))

abbrev pub list_next : List ℕ → ℕ → Site → Facts → Plan
list_next path bound site facts = once_opened (ask_path (request.Opendir (from_directory site path)) site) site
    (λ place handle. entries_next handle [] bound site)
