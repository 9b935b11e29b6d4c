-- believed: offered_extensions
-- A session before the first call of a lane.
use Rattle.std.specs.Prelude.{◌≡◌, ◌⊎◌, true, false, List, [], ◌∷◌, Option, Some, None}
use Rattle.sftp_model.specs.declared.options.SftpOptions.{SftpOptions}
use Rattle.sftp_core.specs.declared.handshake.Handshake.TheVariants as core_phase
use Rattle.std.specs.FinMap as fin
use Rattle.sftp_core.specs.Core.{Core, fresh, handed_out, queued_last}
use Rattle.sftp_core.specs.declared.info.Info.{Info}
use Rattle.sftp_model.specs.declared.flags.Extensions.{Extensions}
use Rattle.sftp_model.specs.declared.reply.Reply.{Reply}
use Rattle.sftp_model.specs.declared.reply.Reply.TheVariants as reply
use Rattle.sftp_model.specs.declared.request.Request.TheVariants as request
use Rattle.session_model.specs.declared.event.Owner.TheVariants as owner
use Rattle.session_model.specs.declared.event.Event.TheVariants.{Submit, Take}
use Rattle.session_model.specs.declared.entry.Entry.{Entry}
use Rattle.session_model.specs.declared.entry.Entry.TheVariants as entry
use Rattle.session_model.specs.Settings.{version_reply_of}
use Rattle.sftp_model.specs.Lengths.{offers_limits}
use Rattle.session_model.specs.Runs.{limits_query_sent}
use Rattle.session_driver.specs.declared.session.Phase.{Phase}
use Rattle.session_driver.specs.declared.session.Phase.TheVariants.{Fresh, Greeted, Asking, Queried, Open, Failed}

-- The extensions that VERSION offers.
abbrev pub offered_extensions : Option Reply → Extensions
offered_extensions (Some (reply.Version version extensions)) = extensions
offered_extensions other = record { 0 = 0 }

-- The core with the query for limits in its queue.
abbrev pub asked_core : SftpOptions → Extensions → Core
asked_core options extensions = record (queued_last (handed_out (fresh options)) 0 request.LimitsQuery false)
    { phase = core_phase.Asking extensions }

-- The query for limits was submitted.
abbrev pub asked_past : List Entry
asked_past = entry.Event (Submit owner.Setup 0 request.LimitsQuery) ∷ []

-- The limits were taken, or there were none.
abbrev pub IsIdle : List Entry → Type 0
IsIdle past = (past ≡ []) ⊎ ((r : Reply) × (past ≡ entry.Event (Take 0 r) ∷ limits_query_sent 0))

-- A core without a request under way.
abbrev pub idle_core : SftpOptions → Info → Core
idle_core options info = record {
  options = options;
  hello_sent = true;
  phase = core_phase.Open info;
  queue = [];
  pieces = [];
  table = fin.empty;
  fault = None;
}

pub record IsOpen (options : SftpOptions) (core : Core) (past : List Entry) : Type 0 where
  pub info : Info
  pub calm : core ≡ idle_core options info
  pub idle : IsIdle past

-- The core of the session in each phase.
abbrev pub IsBare : SftpOptions → Option Reply → List Entry → Core → Phase → Type 0
IsBare options version past core Fresh = (core ≡ fresh options) × (version ≡ None) × (past ≡ [])
IsBare options version past core Greeted = (core ≡ handed_out (fresh options)) × (version ≡ None) × (past ≡ [])
IsBare options version past core Asking =
    (extensions : Extensions) × ((version ≡ Some (version_reply_of extensions)) × (offers_limits extensions ≡ true)
    × (core ≡ asked_core options extensions) × (past ≡ asked_past))
IsBare options version past core Queried =
    (extensions : Extensions) × ((version ≡ Some (version_reply_of extensions)) × (offers_limits extensions ≡ true)
    × (core ≡ handed_out (asked_core options extensions)) × (past ≡ limits_query_sent 0))
IsBare options version past core Open = (extensions : Extensions)
    × ((version ≡ Some (version_reply_of extensions)) × IsOpen options core past)
IsBare options version past core Failed = Unit {0}
