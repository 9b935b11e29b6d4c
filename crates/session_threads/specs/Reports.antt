-- believed, except RunsOf, own_if, own_error, IsCause, WorkersEnd
-- Reports of a whole run of lanes, and the reasons that it ends.
use Rattle.std.specs.Prelude.{◌≡◌, ◌≢◌, ◌⊎◌, List, length, map, reverse, Option, Some, None, Result, Ok, Err}
use Rattle.plan_model.specs.declared.call.Lane.{Lane}
use Rattle.session_driver.specs.Session.{IsFixed}
use Rattle.session_model.specs.Grants.{next_due}
use Rattle.session_model.specs.Journals.{IsJournal}
use Rattle.session_model.specs.Readings.{outcomes_below, trace_of}
use Rattle.session_seats.specs.declared.view.Sight.{Sight}
use Rattle.session_seats.specs.Closes.{items_of}
use Rattle.session_seats.specs.Covers.{CoversPlacesOnce}
use Rattle.session_seats.specs.Holds.{sight_by}
use Rattle.session_seats.specs.Sights.{IsLawfulSight, entries}
use Rattle.session_work.specs.SoFar.{kept_in}
use Rattle.sftp_core.specs.declared.info.Info.{Info}
use Rattle.sftp_lanes.specs.Seen.{session_inputs, setting_by}
use Rattle.sftp_link.specs.Views.{LinkView}
use Rattle.sftp_model.specs.declared.error.Error.{Error}
use Rattle.sftp_model.specs.declared.error.Error.TheVariants as error
use Rattle.sftp_model.specs.declared.error.Fault.{Fault}
use Rattle.sftp_model.specs.declared.options.SftpOptions.{SftpOptions}
use Rattle.sftp_model.specs.declared.reply.Reply.{Reply}
use Rattle.sftp_tasks.specs.declared.report.SharedReport.{SharedReport}
use Rattle.sftp_tasks.specs.Reported.{HaveLanes}
use Rattle.sftp_tasks.specs.Opening.{GreetStops, HasGreeted}
use Rattle.sftp_tasks.specs.Rounds.{HoldsOnce, Token, fault_for}
use Rattle.sftp_tasks.specs.Sent.{SeesVersion}
use Rattle.sftp_tasks.specs.SessionEvents.{HasFault, HasNoFault}
use Rattle.sftp_tasks.specs.Workers.{FlushWorks, ReadWorks}
use Rattle.session_threads.specs.Crews.{named_in_order}
use Rattle.session_threads.specs.Failures.{FaultEnds, StopsJournal, WorksOverHalf}
use Rattle.session_threads.specs.Halves.{HalvesShow, WorkersShow}
use Rattle.session_threads.specs.Running.{IsOf}

-- The journal is a run so far of these lanes and of VERSION, which was taken, with no recorded fault, and no grant is
-- left to close. The report has its contents. Each place of it is in one list of receipts, once. Those of the lanes
-- come first, in their order, each with all entries of its lane.
pub record RunsShared (lanes : List Lane) (options : SftpOptions) (r : SharedReport) : Type 0 where
  pub now : Sight
  pub made : IsOf lanes options now
  pub info : Option Info
  pub journal : reverse r.journal.items ≡ entries now.log
  pub run : IsJournal (setting_by now.lanes now.options now.version info) (entries now.log)
  pub fixed : now.version ≢ None → IsFixed (session_inputs now.lanes now.options) now.version (entries now.log)
      (setting_by now.lanes now.options now.version info)
  pub unkept : kept_in (entries now.log) ≡ None
  pub settled : next_due (setting_by now.lanes now.options now.version info) (entries now.log) ≡ None
  pub hello : r.report.hello ≡ now.version
  pub taken : r.report.hello ≢ None
  pub trace : r.report.trace ≡ trace_of (entries now.log)
  pub outcomes : r.report.outcomes ≡ outcomes_below (entries now.log) (length now.lanes)
  pub lawful : IsLawfulSight now
  pub by_lane : HaveLanes (entries now.log) (named_in_order (length lanes)) (map items_of r.receipts.items)
  pub covers : CoversPlacesOnce (length r.journal.items) (map items_of r.receipts.items)

abbrev pub RunsOf : Sight → SharedReport → Type 0
RunsOf s r = RunsShared s.lanes s.options r

abbrev pub own_if : Option Fault → Error → Option Error
own_if None e = None
own_if (Some fault) e = Some e

-- The error of a worker that found something wrong itself: it has a fault that the session records.
abbrev pub own_error : Result (Unit {0}) Error → Option Error
own_error (Ok u) = None
own_error (Err e) = own_if (fault_for e) e

-- One of the workers returned this error, for something that it found wrong itself. If neither did, an allocation
-- failed.
abbrev pub IsCause : Result (Unit {0}) Error → Result (Unit {0}) Error → Error → Type 0
IsCause sent got e =
    ((e ≡ error.OutOfMemory) × (own_error sent ≡ None) × (own_error got ≡ None))
    ⊎ ((fault_for e ≢ None) × ((sent ≡ Err e) ⊎ (got ≡ Err e)))

-- In one hold of a seat the session, which had recorded no fault, recorded the one of this error: it is the session's
-- first.
pub record IsFirstFault (e : Error) : Type 0 where
  pub m : Token
  pub n : Token
  pub fault : Fault
  pub is : fault_for e ≡ Some fault
  pub keeps : HoldsOnce (λ y z more. HasNoFault y.session × HasFault fault z.session) m n

-- The home seat sent the hello over the one half of the link, and took VERSION from the other.
abbrev pub SendsHelloFirst : {A B : Type 0} → Token → LinkView A → LinkView A → LinkView B → LinkView B → Type 0
SendsHelloFirst n out out' input input' = (m : Token) × HasGreeted m n out out' input input'

-- An allocation failed, or this error, the session's first fault, stopped the opening: the journal of the run's own
-- session ends by it.
abbrev pub OpeningStops : {A B : Type 0} → List Lane → SftpOptions → LinkView A → LinkView A → LinkView B → LinkView B
    → Error → Type 0
OpeningStops lanes options out out' input input' e = (e ≡ error.OutOfMemory)
    ⊎ (IsFirstFault e × (StopsJournal lanes options e
    × ((m : Token) × ((n : Token) × GreetStops e m n out out' input input'))))

module _ {A B : Type 0} (out out' : LinkView A) (input input' : LinkView B) where
  -- An allocation failed, or this error, the session's first fault, stopped one of the workers over its half of the
  -- link: the journal of the run's own session ends by it.
  abbrev pub WorkersStop : List Lane → SftpOptions → Error → Type 0
  WorkersStop lanes options e = (e ≡ error.OutOfMemory)
      ⊎ (IsFirstFault e × FaultEnds lanes options out out' input input' e)

  -- Both workers came to the end, each over its half of the link, which shows the journal's Sends or Takes. The report
  -- has the VERSION that the worker that sends had seen.
  pub record WorkersEnd (m : Token) (r : SharedReport) : Type 0 where
    pub sent : WorksOverHalf FlushWorks (Ok tt) out out'
    pub got : WorksOverHalf ReadWorks (Ok tt) input input'
    pub shown : WorkersShow r out out' input input'
    pub hello : (hello : Reply) → SeesVersion hello (sight_by m) → r.report.hello ≡ Some hello

  -- The home seat opened the session, and then both workers came to the end, each over its half of the link. The halves
  -- show the report's journal.
  pub record Ended (r : SharedReport) : Type 0 where
    pub home : Token
    pub out_then : LinkView A
    pub input_then : LinkView B
    pub opens : SendsHelloFirst home out out_then input input_then
    pub sent : WorksOverHalf FlushWorks (Ok tt) out_then out'
    pub got : WorksOverHalf ReadWorks (Ok tt) input_then input'
    pub shown : HalvesShow r out out' input input'

-- An allocation failed; or the session was not opened because of this error; or it was, and this error stopped one of
-- the workers.
abbrev pub StopsBy : {A B : Type 0} → List Lane → SftpOptions → LinkView A → LinkView A → LinkView B → LinkView B
    → Error → Type 0
StopsBy {A} {B} lanes options out out' input input' e =
    OpeningStops lanes options out out' input input' e
    ⊎ ((home : Token) × ((out_then : LinkView A) × ((input_then : LinkView B)
    × (SendsHelloFirst home out out_then input input_then
    × WorkersStop out_then out' input_then input' lanes options e))))
