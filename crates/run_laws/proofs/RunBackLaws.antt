-- Whole runs that a file machine serves read what was written.
use Rattle.std.proofs.Common.{◌≡◌, ◌≤◌, ℕ, List, [], ◌∷◌, subst}
use Rattle.std.specs.Prelude.{◌⊎◌}
use Rattle.sftp_model.specs.declared.config.Choice.{Choice}
use Rattle.sftp_model.specs.declared.config.ServerConfig.{ServerConfig}
use Rattle.sftp_model.specs.declared.error.Error.TheVariants as error
use Rattle.sftp_model.specs.declared.outcome.Outcome.{Outcome}
use Rattle.sftp_model.specs.declared.outcome.Outcome.TheVariants as outcome
use Rattle.sftp_model.specs.declared.request.Request.{Request}
use Rattle.sftp_model.specs.declared.slot.Facts.{Facts}
use Rattle.sftp_model.specs.declared.slot.Site.{Site}
use Rattle.machine_model.specs.Changes.{IsWellFormed}
use Rattle.machine_model.specs.Components.{Name, components}
use Rattle.machine_model.specs.FileTree.{FileTree, node_at}
use Rattle.plan_model.specs.declared.call.Call.TheVariants as call
use Rattle.plan_model.specs.Moves.{Own}
use Rattle.plan_model.specs.PathPlans.{from_directory}
use Rattle.session_model.specs.declared.entry.Entry.{Entry}
use Rattle.session_model.specs.declared.turn.Turn.{Turn}
use Rattle.session_model.specs.Calls.{Setting}
use Rattle.session_model.specs.Readings.{answer, count_sent}
use Rattle.session_model.specs.Runs.{IsRun}
use Rattle.session_model.specs.Served.{ServesJournal}
use Rattle.session_model.proofs.OverLaws.{runs_are_journals}
use Rattle.run_laws.specs.CallsAmong.{GivesContent, GivesUnless, HasEnded, HasNoFile, IsRefusedBy, refusal_of}
use Rattle.run_laws.specs.InJournals.{AreBelow, LaneFirst, LaneInTurn}
use Rattle.run_laws.specs.Steps.{AreAllowed, FeignsNoEnd, HasBytes, RefuseNone}
use Rattle.run_laws.proofs.LaneBackLaws.{lane_back, lane_back_unless, lane_reads, lane_reads_unless, lane_refused, lane_refused_unless}
use Rattle.run_laws.proofs.WholeRunSent.{whole_run_sent}

-- ---- whatever the choices refuse

pub run_back_unless : (allowed : Choice → Type 0) (s : Setting) (config : ServerConfig) (choices : List Choice)
    (first now : FileTree) (turns : List Turn) (past : List Entry) (name : Name) (lane writer reader : ℕ)
    (w r : ℕ × Request) (written read : Own)
    (write_path read_path bytes : List ℕ) (bound : ℕ) (write_site read_site : Site) (write_facts read_facts : Facts)
    (ended : Outcome)
    → ((c : Choice) → allowed c → FeignsNoEnd c) → IsRun s turns past → ServesJournal config choices first past now
    → AreAllowed allowed choices → IsWellFormed first → LaneInTurn s past name lane writer w written reader r read
    → components (from_directory write_site write_path) ≡ name
    → HasEnded (call.FsWrite write_path bytes) write_site write_facts (w ∷ written) (answer past) outcome.Done
    → components (from_directory read_site read_path) ≡ name → 1 ≤ read_facts.read_len
    → HasEnded (call.FsRead read_path bound) read_site read_facts (r ∷ read) (answer past) ended
    → GivesUnless allowed ended bytes
run_back_unless allowed s config choices first now turns past name lane writer reader w r written read write_path
    read_path bytes bound write_site read_site write_facts read_facts ended honest run serves among well_formed t
    denotes wrote denotes' one did =
    lane_back_unless allowed s config choices first now past name lane writer reader w r written read write_path
    read_path bytes bound write_site read_site write_facts read_facts ended honest
    (runs_are_journals s turns past run) serves among well_formed t
    (subst (AreBelow (count_sent past)) t.asks_then (whole_run_sent s turns past lane reader run)) denotes wrote
    denotes' one did

pub run_reads_unless : (allowed : Choice → Type 0) (s : Setting) (config : ServerConfig) (choices : List Choice)
    (first now : FileTree) (turns : List Turn) (past : List Entry) (name : Name) (lane reader : ℕ) (r : ℕ × Request)
    (read : Own) (path bytes : List ℕ) (bound : ℕ)
    (site : Site) (facts : Facts) (ended : Outcome) → ((c : Choice) → allowed c → FeignsNoEnd c) → IsRun s turns past
    → ServesJournal config choices first past now → AreAllowed allowed choices → IsWellFormed first
    → HasBytes first name bytes → LaneFirst s past name lane reader r read
    → components (from_directory site path) ≡ name → 1 ≤ facts.read_len
    → HasEnded (call.FsRead path bound) site facts (r ∷ read) (answer past) ended → GivesUnless allowed ended bytes
run_reads_unless allowed s config choices first now turns past name lane reader r read path bytes bound site facts ended
    honest run serves among well_formed has t denotes one did =
    lane_reads_unless allowed s config choices first now past name lane reader r read path bytes bound site facts ended
    honest (runs_are_journals s turns past run) serves among well_formed has t
    (subst (AreBelow (count_sent past)) t.asks (whole_run_sent s turns past lane reader run)) denotes one did

pub run_refused_unless : (allowed : Choice → Type 0) (s : Setting) (config : ServerConfig) (choices : List Choice)
    (first now : FileTree) (turns : List Turn) (past : List Entry) (name : Name) (lane reader : ℕ) (r : ℕ × Request)
    (read : Own) (path : List ℕ) (bound : ℕ)
    (site : Site) (facts : Facts) (ended : Outcome) → IsRun s turns past → ServesJournal config choices first past now
    → AreAllowed allowed choices → IsWellFormed first → HasNoFile (node_at first name)
    → LaneFirst s past name lane reader r read
    → components (from_directory site path) ≡ name → 1 ≤ facts.read_len
    → HasEnded (call.FsRead path bound) site facts (r ∷ read) (answer past) ended
    → (ended ≡ outcome.Refused (error.SftpError (refusal_of (node_at first name)) [] [])) ⊎ IsRefusedBy allowed ended
run_refused_unless allowed s config choices first now turns past name lane reader r read path bound site facts ended run
    serves among well_formed has t denotes one did =
    lane_refused_unless allowed s config choices first now past name lane reader r read path bound site facts ended
    (runs_are_journals s turns past run) serves among well_formed has t
    (subst (AreBelow (count_sent past)) t.asks (whole_run_sent s turns past lane reader run)) denotes one did

-- ---- where nothing is refused

pub run_back : (s : Setting) (config : ServerConfig) (choices : List Choice) (first now : FileTree) (turns : List Turn)
    (past : List Entry) (name : Name) (lane writer reader : ℕ) (w r : ℕ × Request) (written read : Own)
    (write_path read_path bytes : List ℕ) (bound : ℕ) (write_site read_site : Site) (write_facts read_facts : Facts)
    (ended : Outcome)
    → IsRun s turns past → ServesJournal config choices first past now → RefuseNone choices → IsWellFormed first
    → LaneInTurn s past name lane writer w written reader r read
    → components (from_directory write_site write_path) ≡ name
    → HasEnded (call.FsWrite write_path bytes) write_site write_facts (w ∷ written) (answer past) outcome.Done
    → components (from_directory read_site read_path) ≡ name → 1 ≤ read_facts.read_len
    → HasEnded (call.FsRead read_path bound) read_site read_facts (r ∷ read) (answer past) ended
    → GivesContent ended bytes
run_back s config choices first now turns past name lane writer reader w r written read write_path read_path bytes bound
    write_site read_site write_facts read_facts ended run serves none well_formed t denotes wrote denotes' one did =
    lane_back s config choices first now past name lane writer reader w r written read write_path read_path bytes bound
    write_site read_site write_facts read_facts ended (runs_are_journals s turns past run) serves none well_formed t
    (subst (AreBelow (count_sent past)) t.asks_then (whole_run_sent s turns past lane reader run)) denotes wrote
    denotes' one did

pub run_reads : (s : Setting) (config : ServerConfig) (choices : List Choice) (first now : FileTree) (turns : List Turn)
    (past : List Entry) (name : Name) (lane reader : ℕ) (r : ℕ × Request) (read : Own) (path bytes : List ℕ) (bound : ℕ)
    (site : Site) (facts : Facts) (ended : Outcome) → IsRun s turns past → ServesJournal config choices first past now
    → RefuseNone choices → IsWellFormed first → HasBytes first name bytes → LaneFirst s past name lane reader r read
    → components (from_directory site path) ≡ name → 1 ≤ facts.read_len
    → HasEnded (call.FsRead path bound) site facts (r ∷ read) (answer past) ended → GivesContent ended bytes
run_reads s config choices first now turns past name lane reader r read path bytes bound site facts ended run serves
    none well_formed has t denotes one did =
    lane_reads s config choices first now past name lane reader r read path bytes bound site facts ended
    (runs_are_journals s turns past run) serves none well_formed has t
    (subst (AreBelow (count_sent past)) t.asks (whole_run_sent s turns past lane reader run)) denotes one did

pub run_refused : (s : Setting) (config : ServerConfig) (choices : List Choice) (first now : FileTree)
    (turns : List Turn) (past : List Entry) (name : Name) (lane reader : ℕ) (r : ℕ × Request) (read : Own)
    (path : List ℕ) (bound : ℕ)
    (site : Site) (facts : Facts) (ended : Outcome) → IsRun s turns past → ServesJournal config choices first past now
    → RefuseNone choices → IsWellFormed first → HasNoFile (node_at first name)
    → LaneFirst s past name lane reader r read
    → components (from_directory site path) ≡ name → 1 ≤ facts.read_len
    → HasEnded (call.FsRead path bound) site facts (r ∷ read) (answer past) ended
    → ended ≡ outcome.Refused (error.SftpError (refusal_of (node_at first name)) [] [])
run_refused s config choices first now turns past name lane reader r read path bound site facts ended run serves none
    well_formed has t denotes one did =
    lane_refused s config choices first now past name lane reader r read path bound site facts ended
    (runs_are_journals s turns past run) serves none well_formed has t
    (subst (AreBelow (count_sent past)) t.asks (whole_run_sent s turns past lane reader run)) denotes one did
