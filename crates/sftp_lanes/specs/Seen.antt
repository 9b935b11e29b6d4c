-- believed: SessionValue, session_inputs, given_of, facts_by, setting_by, setting_at, seen_of
-- The state of a session of lanes in each phase, and the view that a caller has of it.
use Rattle.std.specs.Prelude.{
  ◌≡◌,
  ◌≢◌,
  ◌<◌,
  ℕ,
  Bool,
  true,
  false,
  List,
  [],
  ◌∷◌,
  ◌++◌,
  length,
  max,
  min,
  Option,
  Some,
  None,
  slice_get,
}
use Rattle.sftp_model.specs.declared.flags.Extensions.{Extensions}
use Rattle.sftp_model.specs.declared.reply.Reply.{Reply}
use Rattle.sftp_model.specs.declared.slot.Facts.{Facts}
use Rattle.sftp_model.specs.Lengths.{offers_limits}
use Rattle.sftp_core.specs.declared.info.Info.{Info}
use Rattle.sftp_model.specs.declared.options.SftpOptions.{SftpOptions}
use Rattle.plan_model.specs.declared.call.Lane.{Lane}
use Rattle.session_model.specs.Calls.{Setting, calls_added_to, calls_of}
use Rattle.plan_model.specs.Lanes.{are_ok}
use Rattle.session_model.specs.declared.report.Report.{Report}
use Rattle.session_model.specs.declared.entry.Entry.{Entry}
use Rattle.session_model.specs.declared.entry.Entry.TheVariants as entry
use Rattle.session_model.specs.Grants.{next_due}
use Rattle.session_model.specs.Journals.{IsJournal}
use Rattle.session_model.specs.Readings.{count_submitted, last_cancel, outcomes_below, trace_of}
use Rattle.session_model.specs.Settings.{facts_of}
use Rattle.session_driver.specs.declared.session.Phase.{Phase}
use Rattle.session_driver.specs.declared.session.Phase.TheVariants.{Fresh, Greeted, Asking, Queried, Open, Failed}
use Rattle.session_driver.specs.Bare.{IsBare, offered_extensions}
use Rattle.session_laws.specs.Changes.{HasNoHistory}
use Rattle.session_driver.specs.Session.{SessionInputs, IsFixed, IsFresh, SessionView}
use Rattle.session_work.specs.declared.lanes.Lanes.{Lanes}
use Rattle.session_work.specs.Fresh.{IsUntouched}
use Rattle.session_work.specs.SoFar.{IsIntact, IsSoFar}
use Rattle.session_work.specs.Working.{IsWorking, past_of, progress_of, work_of}

-- A session: the lanes that were passed in, the options, the phase of its opening, VERSION and what is known of the
-- server once they were reported, and the data that the lanes work with.
pub record SessionValue : Type 0 where
  pub lanes : List Lane
  pub options : SftpOptions
  pub phase : Phase
  pub version : Option Reply
  pub info : Option Info
  pub work : Lanes

abbrev pub session_inputs : List Lane → SftpOptions → SessionInputs
session_inputs lanes options = record { lanes = lanes; options = options }

abbrev pub given_of : SessionValue → SessionInputs
given_of s = record { lanes = s.lanes; options = s.options }

-- The facts that plans use; before the session is open no limits are reported.
abbrev pub facts_by : SftpOptions → Extensions → Option Info → Facts
facts_by options extensions None = facts_of options extensions None
facts_by options extensions (Some info) =
    record {
      extensions = info.extensions;
      read_len = info.read_len;
      write_len = info.write_len;
      write_limit = max 1 options.tokio_compat_file_write_limit;
      read_window = min 64 (max 1 options.read_window);
    }

abbrev pub setting_by : List Lane → SftpOptions → Option Reply → Option Info → Setting
setting_by lanes options version info =
    record {
      lanes = lanes;
      facts = facts_by options (offered_extensions version) info;
      limits = offers_limits (offered_extensions version);
      max_pending = options.max_pending_requests;
    }

abbrev pub setting_at : SessionValue → Setting
setting_at s = setting_by s.lanes s.options s.version s.info

-- The view that a caller has of it.
abbrev pub seen_of : SessionValue → SessionView
seen_of s = record {
  given = given_of s;
  setting = setting_at s;
  phase = s.phase;
  version = s.version;
  progress =
      progress_of s.work;
  work = work_of s.work;
}

-- ---- Before the session is open

-- The journal without calls that were added to lanes, and without releases of lanes.
abbrev pub without_lanes : List Entry → List Entry
without_lanes [] = []
without_lanes (entry.Added lane call ∷ past) = without_lanes past
without_lanes (entry.LetGo lane ∷ past) = without_lanes past
without_lanes (e ∷ past) = e ∷ without_lanes past

-- A run so far in which no lane has done anything.
pub record IsIdleRun (s : Setting) (past : List Entry) : Type 0 where
  pub run : IsJournal s past
  pub calm : last_cancel past ≡ None
  pub settled : next_due s past ≡ None
  pub unbegun : HasNoHistory s past

-- The same for any report of the server: it offers its limits if they were asked for.
abbrev pub AreIdleRuns : List Lane → List Entry → Type 0
AreIdleRuns lanes past = (s : Setting) → s.lanes ≡ lanes → (0 < count_submitted past → s.limits ≡ true)
    → IsIdleRun s past

-- No lane has done anything, and nothing is known of the server except its VERSION.
abbrev pub IsUntold : List Lane → Option Info → Lanes → Type 0
IsUntold lanes info w = (info ≡ None) × IsUntouched lanes w × AreIdleRuns lanes (past_of w)

-- True if the session is not open yet.
abbrev pub is_opening : Phase → Bool
is_opening Fresh = true
is_opening Greeted = true
is_opening Asking = true
is_opening Queried = true
is_opening Open = false
is_opening Failed = false

-- ---- After the session is open

-- The state of a session in each phase.
abbrev pub IsInPhase : List Lane → SftpOptions → Option Reply → Option Info → Lanes → Phase → Type 0
IsInPhase lanes options version info w Open = IsWorking (setting_by lanes options version info) w
IsInPhase lanes options version info w Failed = IsSoFar (setting_by lanes options version info) w.core.fault (past_of w)
IsInPhase lanes options version info w opening = IsBare options version (without_lanes (past_of w)) w.core opening
    × IsUntold lanes info w

-- The calls of each lane are those that were passed in, and then those that were added.
pub record HasCalls (lanes : List Lane) (w : Lanes) : Type 0 where
  pub count : length w.calls ≡ length lanes
  pub ok : are_ok w.calls ≡ true
  pub each : (lane : ℕ) → calls_of (slice_get w.calls lane) ≡ calls_of (slice_get lanes lane)
      ++ calls_added_to (past_of w) lane

-- Its lanes are ones that can be run, and they are intact. An open session knows what the server reported, and VERSION
-- and the limits fix its setting.
pub record IsSession (lanes : List Lane) (options : SftpOptions) (version : Option Reply) (info : Option Info)
    (w : Lanes) (phase : Phase) : Type 0 where
  pub ok : are_ok lanes ≡ true
  pub intact : IsIntact (length lanes) w
  pub now : IsInPhase lanes options version info w phase
  pub told : phase ≡ Open → info ≢ None
  pub calls : HasCalls lanes w
  pub fixed : version ≢ None → IsFixed (session_inputs lanes options) version (past_of w)
      (setting_by lanes options version info)

-- A session of these lanes and options with its hello in the queue.
pub record IsNew (lanes : List Lane) (options : SftpOptions) (s : SessionValue) : Type 0 where
  pub made_of : given_of s ≡ session_inputs lanes options
  pub fresh : IsFresh (seen_of s)
  pub version : s.version ≡ None
  pub calls : s.work.calls ≡ lanes

-- ---- After it has ended

-- The report of a session.
pub record ReportsSession (s : SessionValue) (report : Report) : Type 0 where
  pub hello : report.hello ≡ s.version
  pub trace : report.trace ≡ trace_of (past_of s.work)
  pub outcomes : report.outcomes ≡ outcomes_below (past_of s.work) (length s.lanes)
