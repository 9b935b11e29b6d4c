-- A lane that alone has to do with a name reads what it wrote.
use Rattle.std.proofs.Common.{◌≡◌, ◌≤◌, ℕ, List, [], ◌∷◌}
use Rattle.std.specs.Prelude.{◌⊎◌}
use Rattle.sftp_model.specs.declared.config.Choice.{Choice}
use Rattle.sftp_model.specs.declared.config.ServerConfig.{ServerConfig}
use Rattle.sftp_model.specs.declared.error.Error.TheVariants as error
use Rattle.sftp_model.specs.declared.outcome.Outcome.{Outcome}
use Rattle.sftp_model.specs.declared.outcome.Outcome.TheVariants as outcome
use Rattle.sftp_model.specs.declared.request.Request.{Request}
use Rattle.sftp_model.specs.declared.slot.Facts.{Facts}
use Rattle.sftp_model.specs.declared.slot.Site.{Site}
use Rattle.machine_model.specs.Changes.{IsWellFormed}
use Rattle.machine_model.specs.Components.{Name, components}
use Rattle.machine_model.specs.FileTree.{FileTree, node_at}
use Rattle.plan_model.specs.declared.call.Call.TheVariants as call
use Rattle.plan_model.specs.Moves.{Own}
use Rattle.plan_model.specs.PathPlans.{from_directory}
use Rattle.session_model.specs.declared.entry.Entry.{Entry}
use Rattle.session_model.specs.Calls.{Setting}
use Rattle.session_model.specs.Journals.{IsJournal}
use Rattle.session_model.specs.Readings.{answer, count_sent}
use Rattle.session_model.specs.Served.{ServesJournal}
use Rattle.run_laws.specs.CallsAmong.{GivesContent, GivesUnless, HasEnded, HasNoFile, IsRefusedBy, refusal_of}
use Rattle.run_laws.specs.DeferredWrites.{place_behind}
use Rattle.run_laws.specs.InJournals.{AreBelow, LaneFirst, LaneInTurn}
use Rattle.run_laws.specs.Steps.{AreAllowed, FeignsNoEnd, HasBytes, RefuseNone}
use Rattle.run_laws.proofs.BackLaws.{back, back_unless}
use Rattle.run_laws.proofs.FirstLaws.{first_read, first_read_unless, first_refused, first_refused_unless}
use Rattle.run_laws.proofs.LaneLaws.{lane_first, lane_in_turn}

-- ---- whatever the choices refuse

pub lane_back_unless : (allowed : Choice → Type 0) (s : Setting) (config : ServerConfig) (choices : List Choice)
    (first now : FileTree) (past : List Entry) (name : Name) (lane writer reader : ℕ) (w r : ℕ × Request)
    (written read : Own)
    (write_path read_path bytes : List ℕ) (bound : ℕ) (write_site read_site : Site) (write_facts read_facts : Facts)
    (ended : Outcome)
    → ((c : Choice) → allowed c → FeignsNoEnd c) → IsJournal s past → ServesJournal config choices first past now
    → AreAllowed allowed choices → IsWellFormed first → LaneInTurn s past name lane writer w written reader r read
    → AreBelow (count_sent past) (r ∷ read)
    → components (from_directory write_site write_path) ≡ name
    → HasEnded (call.FsWrite write_path bytes) write_site write_facts (w ∷ written) (answer past) outcome.Done
    → components (from_directory read_site read_path) ≡ name → 1 ≤ read_facts.read_len
    → HasEnded (call.FsRead read_path bound) read_site read_facts (r ∷ read) (answer past) ended
    → GivesUnless allowed ended bytes
lane_back_unless allowed s config choices first now past name lane writer reader w r written read write_path read_path
    bytes bound write_site read_site write_facts read_facts ended honest j serves among well_formed t were_sent denotes
    wrote denotes' one did =
    back_unless allowed s config choices first now past name (place_behind r read) (lane, writer) (lane, reader) w r
    written
    read write_path read_path bytes bound write_site read_site write_facts read_facts ended honest j serves among
    well_formed
    (lane_in_turn s past name lane writer w written reader r read j t were_sent) denotes wrote denotes' one did

pub lane_reads_unless : (allowed : Choice → Type 0) (s : Setting) (config : ServerConfig) (choices : List Choice)
    (first now : FileTree) (past : List Entry) (name : Name) (lane reader : ℕ) (r : ℕ × Request) (read : Own)
    (path bytes : List ℕ) (bound : ℕ)
    (site : Site) (facts : Facts) (ended : Outcome) → ((c : Choice) → allowed c → FeignsNoEnd c) → IsJournal s past
    → ServesJournal config choices first past now → AreAllowed allowed choices → IsWellFormed first
    → HasBytes first name bytes → LaneFirst s past name lane reader r read → AreBelow (count_sent past) (r ∷ read)
    → components (from_directory site path) ≡ name → 1 ≤ facts.read_len
    → HasEnded (call.FsRead path bound) site facts (r ∷ read) (answer past) ended → GivesUnless allowed ended bytes
lane_reads_unless allowed s config choices first now past name lane reader r read path bytes bound site facts ended
    honest j serves among well_formed has t were_sent denotes one did =
    first_read_unless allowed s config choices first now past name (place_behind r read) (lane, reader) r read path
    bytes
    bound site facts ended honest j serves among well_formed has
    (lane_first s past name lane reader r read j t were_sent) denotes one did

pub lane_refused_unless : (allowed : Choice → Type 0) (s : Setting) (config : ServerConfig) (choices : List Choice)
    (first now : FileTree) (past : List Entry) (name : Name) (lane reader : ℕ) (r : ℕ × Request) (read : Own)
    (path : List ℕ) (bound : ℕ)
    (site : Site) (facts : Facts) (ended : Outcome) → IsJournal s past → ServesJournal config choices first past now
    → AreAllowed allowed choices → IsWellFormed first → HasNoFile (node_at first name)
    → LaneFirst s past name lane reader r read
    → AreBelow (count_sent past) (r ∷ read) → components (from_directory site path) ≡ name → 1 ≤ facts.read_len
    → HasEnded (call.FsRead path bound) site facts (r ∷ read) (answer past) ended
    → (ended ≡ outcome.Refused (error.SftpError (refusal_of (node_at first name)) [] [])) ⊎ IsRefusedBy allowed ended
lane_refused_unless allowed s config choices first now past name lane reader r read path bound site facts ended j serves
    among well_formed has t were_sent denotes one did =
    first_refused_unless allowed s config choices first now past name (place_behind r read) (lane, reader) r read path
    bound
    site facts ended j serves among well_formed has (lane_first s past name lane reader r read j t were_sent)
    denotes one did

-- ---- where nothing is refused

pub lane_back : (s : Setting) (config : ServerConfig) (choices : List Choice) (first now : FileTree) (past : List Entry)
    (name : Name) (lane writer reader : ℕ) (w r : ℕ × Request) (written read : Own)
    (write_path read_path bytes : List ℕ) (bound : ℕ) (write_site read_site : Site) (write_facts read_facts : Facts)
    (ended : Outcome)
    → IsJournal s past → ServesJournal config choices first past now → RefuseNone choices → IsWellFormed first
    → LaneInTurn s past name lane writer w written reader r read → AreBelow (count_sent past) (r ∷ read)
    → components (from_directory write_site write_path) ≡ name
    → HasEnded (call.FsWrite write_path bytes) write_site write_facts (w ∷ written) (answer past) outcome.Done
    → components (from_directory read_site read_path) ≡ name → 1 ≤ read_facts.read_len
    → HasEnded (call.FsRead read_path bound) read_site read_facts (r ∷ read) (answer past) ended
    → GivesContent ended bytes
lane_back s config choices first now past name lane writer reader w r written read write_path read_path bytes bound
    write_site read_site write_facts read_facts ended j serves none well_formed t were_sent denotes wrote denotes' one
    did =
    back s config choices first now past name (place_behind r read) (lane, writer) (lane, reader) w r written read
    write_path
    read_path bytes bound write_site read_site write_facts read_facts ended j serves none well_formed
    (lane_in_turn s past name lane writer w written reader r read j t were_sent) denotes wrote denotes' one did

pub lane_reads : (s : Setting) (config : ServerConfig) (choices : List Choice) (first now : FileTree)
    (past : List Entry) (name : Name) (lane reader : ℕ) (r : ℕ × Request) (read : Own) (path bytes : List ℕ) (bound : ℕ)
    (site : Site) (facts : Facts) (ended : Outcome) → IsJournal s past → ServesJournal config choices first past now
    → RefuseNone choices → IsWellFormed first → HasBytes first name bytes → LaneFirst s past name lane reader r read
    → AreBelow (count_sent past) (r ∷ read)
    → components (from_directory site path) ≡ name → 1 ≤ facts.read_len
    → HasEnded (call.FsRead path bound) site facts (r ∷ read) (answer past) ended → GivesContent ended bytes
lane_reads s config choices first now past name lane reader r read path bytes bound site facts ended j serves none
    well_formed has t were_sent denotes one did =
    first_read s config choices first now past name (place_behind r read) (lane, reader) r read path bytes bound site
    facts
    ended j serves none well_formed has (lane_first s past name lane reader r read j t were_sent) denotes one did

pub lane_refused : (s : Setting) (config : ServerConfig) (choices : List Choice) (first now : FileTree)
    (past : List Entry) (name : Name) (lane reader : ℕ) (r : ℕ × Request) (read : Own) (path : List ℕ) (bound : ℕ)
    (site : Site) (facts : Facts) (ended : Outcome) → IsJournal s past → ServesJournal config choices first past now
    → RefuseNone choices → IsWellFormed first → HasNoFile (node_at first name)
    → LaneFirst s past name lane reader r read
    → AreBelow (count_sent past) (r ∷ read) → components (from_directory site path) ≡ name → 1 ≤ facts.read_len
    → HasEnded (call.FsRead path bound) site facts (r ∷ read) (answer past) ended
    → ended ≡ outcome.Refused (error.SftpError (refusal_of (node_at first name)) [] [])
lane_refused s config choices first now past name lane reader r read path bound site facts ended j serves none
    well_formed has t were_sent denotes one did =
    first_refused s config choices first now past name (place_behind r read) (lane, reader) r read path bound site facts
    ended
    j serves none well_formed has (lane_first s past name lane reader r read j t were_sent) denotes one did
