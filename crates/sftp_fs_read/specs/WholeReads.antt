-- Whole reads of a path: an OPEN, READs by a window, and the CLOSE.
use Rattle.std.specs.Prelude.{
  ◌≡◌,
  ◌≢◌,
  ◌⊎◌,
  ◌≤◌,
  ℕ,
  Bool,
  true,
  false,
  List,
  [],
  ◌∷◌,
  ◌++◌,
  Option,
  Some,
  None,
  Result,
  Ok,
  Err,
  IfOk,
  IsSome,
  length,
}
use Rattle.std.specs.List.{zip}
use Rattle.bytes.specs.Filled.{Filled}
use Rattle.sftp_model.specs.declared.error.Error.{Error}
use Rattle.sftp_model.specs.declared.error.Error.TheVariants as error
use Rattle.sftp_model.specs.declared.outcome.Outcome.{Outcome}
use Rattle.sftp_model.specs.declared.outcome.Outcome.TheVariants as outcome
use Rattle.sftp_model.specs.declared.slot.Facts.{Facts}
use Rattle.sftp_model.specs.declared.slot.Move.TheVariants.{Ask, Done, Wait}
use Rattle.sftp_model.specs.declared.slot.Site.{Site}
use Rattle.plan_model.specs.GoodMoves.{FitsFacts}
use Rattle.plan_model.specs.Moves.{Answers, Own, Plan}
use Rattle.plan_model.specs.WindowPlans.{fs_read_next, least_end}
use Rattle.plan_window.specs.Windows.{as_request, empty_window, replies_of, window_move, window_plan}
use Rattle.plan_window.specs.declared.window.ReadAt.{ReadAt}
use Rattle.sftp_core.specs.Core.{Core}
use Rattle.sftp_core.specs.Grant.{GrantValue}
use Rattle.plan_state.specs.declared.submission.Asking.TheVariants.{Whole as WholeRequest}
use Rattle.plan_state.specs.declared.poll.Poll.{Poll}
use Rattle.plan_state.specs.declared.poll.Poll.TheVariants.{Pending, Ready}
use Rattle.plan_state.specs.Asked.{IsReady, SubmitsAsking}
use Rattle.plan_state.specs.Calls.{
  AsksAndAwaits,
  IsLeft,
  IsNoneOfCall,
  IsUnderWay,
  IsUnfinished,
  TellsReply,
  core_after_cancel,
  grant_brought,
  polled_core,
}
use Rattle.plan_state.specs.Keeping.{KeepsHeld, SparesOthers}
use Rattle.sftp_file.specs.Files.{facts_of}
use Rattle.sftp_fs.specs.Directories.{WithHandle}
use Rattle.sftp_fs.specs.Grants.{grant_meaning}
use Rattle.sftp_fs.specs.WholeWrites.{IsOwned, core_after_close, closed_if}
use Rattle.sftp_fs_read.specs.Tickets.{AreUnderWay, IsNoneOf, TellsReads, polled_all, core_without_tickets, tickets_of}
use Rattle.sftp_fs_read.specs.declared.fs_read.Whole.{Whole}
use Rattle.sftp_fs_read.specs.declared.fs_read.Whole.TheVariants as whole

-- The stage of a whole read.
pub record FsReadValue : Type 0 where
  pub stage : Whole

-- True if the read has returned its result.
abbrev pub is_over : Whole → Bool
is_over whole.Ended = true
is_over other = false

-- ---- Plans

-- The use of the handle: the file is read by a window.
abbrev pub reads_by_window : Site → Facts → Answers → WithHandle
reads_by_window site facts answers =
    (site, λ handle later. window_plan handle None empty_window site facts later answers)

-- From here a plan continues as the read does.
abbrev pub IsReadLeft : Site → Plan → Answers → Whole → Type 0
IsReadLeft site plan answers whole.Ended = Unit {0}
IsReadLeft site plan answers (whole.Opening call facts) = IsLeft grant_meaning (reads_by_window site facts answers) plan
    answers call
IsReadLeft site plan answers (whole.Open grant reads tickets) =
    (later : Own) → plan later answers ≡ window_plan reads.handle None reads.window site reads.facts later answers

-- The awaited replies are those that the core has.
abbrev pub ReadTells : Core → Answers → Whole → Type 0
ReadTells core answers (whole.Opening call facts) = TellsReply grant_meaning core call answers
ReadTells core answers (whole.Open grant reads tickets) = TellsReads core answers reads.window.waiting tickets.items
ReadTells core answers whole.Ended = Unit {0}

-- The core counts the grant, whose handle the READs carry, and can continue with what is awaited.
abbrev pub IsReadHeld : Core → Whole → Type 0
IsReadHeld core whole.Ended = Unit {0}
IsReadHeld core (whole.Opening call facts) = IsUnderWay grant_meaning core call × FitsFacts facts
IsReadHeld core (whole.Open grant reads tickets) = IsOwned core grant
    × AreUnderWay core reads.window.waiting tickets.items
    × (reads.handle ≡ grant.handle)

-- The READs under way, in the order in which they were asked, each with the ticket of its reply.
abbrev pub under_way : Whole → List (ℕ × ReadAt)
under_way (whole.Open grant reads tickets) = zip tickets.items reads.window.waiting
under_way other = []

-- The number is none of the read's: neither its file's, nor that of a reply that it awaits.
abbrev pub IsNoneOfRead : Whole → ℕ → Type 0
IsNoneOfRead (whole.Opening call facts) id = IsNoneOfCall call.stage id
IsNoneOfRead (whole.Open grant reads tickets) id = (id ≢ grant.id) × IsNoneOf id tickets.items
IsNoneOfRead whole.Ended id = Unit {0}

-- The grant of the read: that of its file, or the one that the reply to its OPEN brought.
abbrev pub read_grant : Core → Whole → Option GrantValue
read_grant core (whole.Opening call facts) = grant_brought core call.stage
read_grant core (whole.Open grant reads tickets) = Some grant
read_grant core whole.Ended = None

-- The facts of the session by which the read asks.
abbrev pub facts_in : Whole → Option Facts
facts_in (whole.Opening call facts) = Some facts
facts_in (whole.Open grant reads tickets) = Some reads.facts
facts_in whole.Ended = None

-- A read that is not over has the facts that it had.
abbrev pub KeepsFacts : Whole → Whole → Type 0
KeepsFacts p whole.Ended = Unit {0}
KeepsFacts p q = facts_in q ≡ facts_in p

-- No further READ may be asked: the session's `read_window` of them is under way, or the end of the file is known.
abbrev pub AsksNoMore : Whole → Type 0
AsksNoMore (whole.Open grant reads tickets) =
    (reads.facts.read_window ≤ length (under_way (whole.Open grant reads tickets)))
    ⊎ IsSome (least_end (replies_of reads.window))
AsksNoMore other = Unit {0}

-- ---- Starts

-- The OPEN is under way.
abbrev pub ReadOpens : Site → Plan → Answers → Core → Core → Whole → Type 0
ReadOpens site plan answers old new (whole.Opening call facts) =
    AsksAndAwaits grant_meaning (reads_by_window site facts answers) plan answers old new call × (facts ≡ facts_of old)
ReadOpens site plan answers old new other = ⊥

abbrev pub ReadStarted : Site → Plan → Answers → Core → Core → Result FsReadValue Error → Type 0
ReadStarted site plan answers old new (Ok q) = ReadOpens site plan answers old new q.stage
ReadStarted site plan answers old new (Err error.OutOfMemory) = new ≡ old
ReadStarted site plan answers old new (Err (error.BackgroundTaskFailure fault)) = (old.fault ≡ Some fault)
    × (new ≡ old)
    × IsUnfinished (plan [] answers)
ReadStarted site plan answers old new (Err e) = (plan [] answers ≡ Done (outcome.Refused e) site) × (new ≡ old)

-- A start made the first move of the plan of a whole read, in each lane with this working directory and for any replies
-- to come. The call that it returned may be polled or given up. The core holds what it held, and no number that was in
-- use is the read's.
pub record ReadsFrom (path cwd : List ℕ) (old new : Core) (result : Result FsReadValue Error) : Type 0 where
  pub starts : (site : Site) (answers : Answers) → site.directory ≡ cwd
      → ReadStarted site (fs_read_next path None site (facts_of old)) answers old new result
  pub held : IfOk result (λ q. IsReadHeld new q.stage)
  pub keeps : KeepsHeld old new
  pub spares : IfOk result (λ q. SparesOthers old new (λ id. Unit {0}) (IsNoneOfRead q.stage))

-- ---- Polls

-- The result of a poll of a whole read.
abbrev pub ReadAnswer : Type 0
ReadAnswer = Poll (Result Filled Error)

-- The replies that came were taken in the order of their READs, and these READs are left.
abbrev pub HeardAll : Core → Core → Whole → List (ℕ × ReadAt) → Type 0
HeardAll old mid (whole.Opening call facts) rest = (mid ≡ polled_core old call.stage) × (rest ≡ [])
HeardAll old mid (whole.Open grant reads tickets) rest =
    (done : List (ℕ × ReadAt)) × ((under_way (whole.Open grant reads tickets) ≡ done ++ rest)
    × (mid ≡ polled_all old (tickets_of done)))
HeardAll old mid whole.Ended rest = ⊥

-- The requests under way were dropped, and the grant closed, if there is one.
abbrev pub ClosesRead : Core → Core → Option GrantValue → List (ℕ × ReadAt) → Type 0
ClosesRead core new grant rest = new ≡ closed_if (core_without_tickets core (tickets_of rest)) grant

-- Another READ was submitted, and its reply is awaited after those to these READs.
pub record AsksRead (site : Site) (plan : Plan) (answers : Answers) (old new : Core) (q : Whole)
    (rest : List (ℕ × ReadAt)) :
    Type 0 where
  pub handle : List ℕ
  pub asked : ReadAt
  pub ticket : ℕ
  pub asks : plan [] answers ≡ Ask (as_request handle asked).1
  pub submitted : SubmitsAsking old (WholeRequest (as_request handle asked).1) ticket new
  pub left : IsReadLeft site (λ later. plan (as_request handle asked ∷ later)) answers q
  pub reads : under_way q ≡ rest ++ (ticket, asked) ∷ []

-- The first awaited reply is missing, and no further READ may be asked. These READs are under way.
pub record StillReads (site : Site) (plan : Plan) (answers : Answers) (old new : Core) (q : Whole)
    (rest : List (ℕ × ReadAt)) :
    Type 0 where
  pub place : ℕ
  pub waits : plan [] answers ≡ Wait place
  pub unfailed : old.fault ≡ None
  pub core : new ≡ old
  pub left : IsReadLeft site plan answers q
  pub reads : under_way q ≡ rest
  pub full : AsksNoMore q

-- An allocation failed. The read may be polled again and continues with the same move: these READs are under way, and
-- the reply that it awaits is the same.
pub record RunsShort (site : Site) (plan : Plan) (answers : Answers) (old new : Core) (q : Whole)
    (rest : List (ℕ × ReadAt)) :
    Type 0 where
  pub core : new ≡ old
  pub left : IsReadLeft site plan answers q
  pub tells : ReadTells new answers q
  pub reads : under_way q ≡ rest

-- The outcome with which the plan ends.
abbrev pub read_outcome : Result Filled Error → Outcome
read_outcome (Ok bytes) = outcome.Bytes bytes.items
read_outcome (Err e) = outcome.Refused e

-- The poll's next step, after the replies that came were taken, is the next move of the plan: it waits, or asks for a
-- READ. Or the read is over, with the plan's result, or with a recorded fault if the plan is not at its end. Or an
-- allocation failed. The grant is that of the read; the READs are those whose replies were not taken.
abbrev pub ReadBy : Site → Plan → Answers → Core → Core → Option GrantValue → Whole → List (ℕ × ReadAt) → ReadAnswer
    → Type 0
ReadBy site plan answers mid new grant q rest Pending = StillReads site plan answers mid new q rest
    ⊎ AsksRead site plan answers mid new q rest
ReadBy site plan answers mid new grant q rest (Ready (Err error.OutOfMemory)) =
    RunsShort site plan answers mid new q rest
ReadBy site plan answers mid new grant q rest (Ready (Err (error.BackgroundTaskFailure fault))) =
    (mid.fault ≡ Some fault)
    × IsUnfinished (plan [] answers)
    × ClosesRead mid new grant rest
ReadBy site plan answers mid new grant q rest (Ready value) = (plan [] answers ≡ Done (read_outcome value) site)
    × ClosesRead mid new grant rest

-- The plan has seen no reply to a READ under way, so its move is the window's.
abbrev pub IsUntold : Site → Plan → Answers → Whole → Type 0
IsUntold site plan answers (whole.Open grant reads tickets) =
    plan [] answers ≡ window_move reads.handle None reads.window site reads.facts
IsUntold site plan answers other = ⊥

-- The read has returned its result if a poll returned a value or an error other than `OutOfMemory`.
abbrev pub IsReadOver : Whole → ReadAnswer → Type 0
IsReadOver stage Pending = is_over stage ≡ false
IsReadOver stage (Ready (Err error.OutOfMemory)) = is_over stage ≡ false
IsReadOver stage (Ready value) = is_over stage ≡ true

-- A poll made the next move of each plan that the read is what is left of, for any replies to come. The read may be
-- polled further or given up. What others have stays theirs.
pub record ReadOn (old new : Core) (p q : Whole) (result : ReadAnswer) : Type 0 where
  pub polled : (site : Site) (plan : Plan) (answers : Answers) → IsReadLeft site plan answers p
      → ReadTells old answers p
      → (mid : Core) × ((rest : List (ℕ × ReadAt)) × (HeardAll old mid p rest
      × ReadBy site plan answers mid new (read_grant old p) q rest result))
  pub held : IsReadHeld new q
  pub over : IsReadOver q result
  pub facts : KeepsFacts p q
  pub spares : SparesOthers old new (IsNoneOfRead p) (IsNoneOfRead q)

-- The effect of a window's step, if nothing more came: the next move of each plan that the window leaves.
pub record DecidesNextMove (old new : Core) (p q : Whole) (result : ReadAnswer) : Type 0 where
  pub polled : (site : Site) (plan : Plan) (answers : Answers) → IsReadLeft site plan answers p
      → ReadTells old answers p → IsUntold site plan answers p
      → ReadBy site plan answers old new (read_grant old p) q (under_way p) result
  pub held : IsReadHeld new q
  pub over : IsReadOver q result
  pub facts : KeepsFacts p q
  pub spares : SparesOthers old new (IsNoneOfRead p) (IsNoneOfRead q)

-- A result of the OPEN that leaves it under way: none yet, or out of memory.
abbrev pub IsUnopened : Poll (Result GrantValue Error) → Type 0
IsUnopened Pending = Unit {0}
IsUnopened (Ready (Err error.OutOfMemory)) = Unit {0}
IsUnopened other = ⊥

-- The same result as the read's.
abbrev pub read_answer_of : Poll (Result GrantValue Error) → ReadAnswer
read_answer_of Pending = Pending
read_answer_of (Ready (Ok grant)) = Pending
read_answer_of (Ready (Err e)) = Ready (Err e)

-- A read may be polled: it has not returned its result, and may ask for more.
pub record MayRead (core : Core) (p : FsReadValue) : Type 0 where
  pub over : is_over p.stage ≡ false
  pub held : IsReadHeld core p.stage
  pub ready : IsReady core

-- ---- Cancels

-- The core after the requests under way were dropped and the grant closed.
abbrev pub read_dropped : Core → Whole → Core
read_dropped core whole.Ended = core
read_dropped core (whole.Opening call facts) = core_after_cancel core call.stage
read_dropped core (whole.Open grant reads tickets) = core_after_close (core_without_tickets core tickets.items) grant

-- The effect of a cancel; what others have stays.
pub record CancelsRead (old new : Core) (p : Whole) : Type 0 where
  pub core : new ≡ read_dropped old p
  pub spares : SparesOthers old new (IsNoneOfRead p) (λ id. Unit {0})
