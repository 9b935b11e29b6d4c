-- believed: opened_by, IsAmong, is_window
-- The requests that a runner asks of its lane: they have handles of grants that the lane has, and the runner awaits
-- their replies.
use Rattle.std.specs.Prelude.{
  ℕ,
  ◌≡◌,
  ◌≤◌,
  ◌⊎◌,
  Bool,
  true,
  false,
  List,
  [],
  ◌∷◌,
  ◌++◌,
  length,
  Option,
  Some,
  None,
  is_some,
}
use Rattle.sftp_model.specs.declared.request.Request.{Request}
use Rattle.sftp_model.specs.declared.request.Request.TheVariants as request
use Rattle.sftp_model.specs.declared.reply.Reply.{Reply}
use Rattle.sftp_model.specs.declared.reply.Reply.TheVariants as reply
use Rattle.sftp_model.specs.declared.slot.Facts.{Facts}
use Rattle.sftp_model.specs.declared.slot.FileAt.{FileAt}
use Rattle.sftp_model.specs.declared.slot.Site.{Site}
use Rattle.sftp_model.specs.Answers.{may_answer}
use Rattle.sftp_model.specs.Slots.{has_grant}
use Rattle.plan_model.specs.Moves.{Answers}
use Rattle.plan_runner.specs.declared.next.Asked.{Asked}
use Rattle.plan_runner.specs.declared.next.Asked.TheVariants as asked
use Rattle.plan_runner.specs.declared.next.Next.{Next}
use Rattle.plan_runner.specs.declared.next.Next.TheVariants as step
use Rattle.plan_runner.specs.declared.next.Running.{Running}
use Rattle.plan_runner.specs.declared.next.Running.TheVariants as running
use Rattle.plan_runner.specs.Runners.{answered_by, awaited_place, request_with_handles}
use Rattle.plan_runner.specs.Pending.{own_place, reads_under}
use Rattle.plan_window.specs.declared.window.ReadAt.{ReadAt}
use Rattle.plan_runner.specs.Sound.{IsFittingReply}

-- ---- Requests

-- A request that a call may make as it is: no greeting, no query for limits, and none with a handle.
abbrev pub IsPlain : Request → Type 0
IsPlain (request.Init version) = ⊥
IsPlain request.LimitsQuery = ⊥
IsPlain (request.Close handle) = ⊥
IsPlain (request.Read handle offset len) = ⊥
IsPlain (request.Write handle offset content) = ⊥
IsPlain (request.Fstat handle) = ⊥
IsPlain (request.Fsetstat handle attrs) = ⊥
IsPlain (request.Readdir handle) = ⊥
IsPlain (request.Fsync handle) = ⊥
IsPlain (request.CopyData from from_offset len to to_offset) = ⊥
IsPlain other = Unit {0}

abbrev pub IsOfCall : Asked → Type 0
IsOfCall (asked.Plain r) = IsPlain r
IsOfCall other = Unit {0}

abbrev pub IsNoClose : Asked → Type 0
IsNoClose (asked.Close grant) = ⊥
IsNoClose other = Unit {0}

-- Each grant whose handle a request has is one of these.
abbrev pub NamesGrants : (ℕ → Type 0) → Asked → Type 0
NamesGrants Has (asked.Plain r) = Unit {0}
NamesGrants Has (asked.Close grant) = Has grant
NamesGrants Has (asked.Read grant offset len) = Has grant
NamesGrants Has (asked.Write grant offset content) = Has grant
NamesGrants Has (asked.Fstat grant) = Has grant
NamesGrants Has (asked.Fsetstat grant attrs) = Has grant
NamesGrants Has (asked.Readdir grant) = Has grant
NamesGrants Has (asked.Fsync grant) = Has grant
NamesGrants Has (asked.CopyData from from_offset len to to_offset) = Has from × Has to

-- ---- Grants

-- The grant that a call opened itself, and that no slot has.
abbrev pub opened_by : Running → Option ℕ
opened_by (running.Listing place grant got bound) = Some grant
opened_by (running.Writing place None file done) = Some file.grant
opened_by (running.ReadingWhole grant bound window) = Some grant
opened_by other = None

-- The grant that a call opened itself, after this reply.
abbrev pub opened_after : Running → Option Reply → Option ℕ
opened_after (running.OpeningToWrite place) (Some (reply.Handle handle)) = Some place
opened_after (running.OpeningToRead place bound) (Some (reply.Handle handle)) = Some place
opened_after (running.OpeningDirectory place bound) (Some (reply.Handle handle)) = Some place
opened_after r answer = opened_by r

-- A slot has the grant, or the call opened it.
abbrev pub HasGrant : Site → Option ℕ → ℕ → Type 0
HasGrant site opened grant = (has_grant site grant ≡ true) ⊎ (opened ≡ Some grant)

-- The lane has the grant of a file in a slot, or the call opened a file that is in no slot.
abbrev pub HasFile : Site → Option ℕ → Option ℕ → FileAt → Type 0
HasFile site opened None file = opened ≡ Some file.grant
HasFile site opened (Some slot) file = HasGrant site opened file.grant

-- ---- The requests of a runner

-- The request at this place: it has handles of grants that the lane has. The call continues with its reply, which fits
-- if it may answer the request.
pub record AsksOwn (opened : Option ℕ) (place : ℕ) (site : Site) (a : Asked) (r : Running) : Type 0 where
  pub call : IsOfCall a
  pub named : NamesGrants (HasGrant site opened) a
  pub awaits : own_place (Some r) ≡ Some place
  pub keeps : (grant : ℕ) → opened_by r ≡ Some grant → opened ≡ Some grant
  pub fits : (answers : Answers) (y : Reply) → may_answer (request_with_handles a answers) y ≡ true
      → IsFittingReply r (Some y)

-- A call that starts, when the site was this one, awaits the reply to the request that it asks.
abbrev pub AwaitsAsked : Option ℕ → ℕ → Site → Next → Type 0
AwaitsAsked opened place site (step.Ask a r) = AsksOwn opened place site a r
AwaitsAsked opened place site (step.Wait r) = ⊥
AwaitsAsked opened place site (step.Done o) = Unit {0}

-- The same, and a started call asks no CLOSE.
abbrev pub AsksOn : Option ℕ → ℕ → Site → Next → Type 0
AsksOn opened place site (step.Ask a r) = AsksOwn opened place site a r × IsNoClose a
AsksOn opened place site (step.Wait r) = ⊥
AsksOn opened place site (step.Done o) = Unit {0}

-- ---- The requests of a runner that leaves replies to its slots

-- A READ or a WRITE.
abbrev pub IsTransfer : Asked → Type 0
IsTransfer (asked.Read grant offset len) = Unit {0}
IsTransfer (asked.Write grant offset content) = Unit {0}
IsTransfer other = ⊥

-- The call continues with the reply to this place, or it asked a READ or a WRITE whose reply its slot awaits.
abbrev pub AwaitsOrDefers : Option ℕ → ℕ → Asked → Type 0
AwaitsOrDefers None place a = IsTransfer a
AwaitsOrDefers (Some p) place a = p ≡ place

-- ---- The READs of a whole read

abbrev pub IsAmong : ReadAt → List ReadAt → Type 0
IsAmong x [] = ⊥
IsAmong x (y ∷ ys) = (x ≡ y) ⊎ IsAmong x ys

-- The READ that is asked at this place.
abbrev pub IsNewRead : ReadAt → ℕ → Asked → Type 0
IsNewRead x place (asked.Read grant offset len) = x ≡ record { place = place; offset = offset; len = len }
IsNewRead x place other = ⊥

-- True if a call reads a whole file by its window.
abbrev pub is_window : Running → Bool
is_window (running.ReadingWhole grant bound window) = true
is_window other = false

-- ---- The requests of a runner that leaves replies to its slots, or has several READs in flight

-- The call continues with the reply to this request, if with any, and the reply fits if it may answer the request.
pub record LooksAtOwn (place : ℕ) (site : Site) (a : Asked) (r : Running) : Type 0 where
  pub looks : (p : ℕ) → awaited_place r site ≡ Some p → p ≡ place
  pub fits : (answers : Answers) (y : Reply) → may_answer (request_with_handles a answers) y ≡ true
      → IsFittingReply r (Some y)

-- The request at this place: it has handles of grants that the lane has, and the call or a slot awaits its reply. The
-- READs that a whole read has in flight are those that it had, and this one. The site was the first one, and is the
-- second.
pub record AsksOrDefers (opened : Option ℕ) (place : ℕ) (reads : List ReadAt) (old new : Site) (a : Asked) (r : Running)
    : Type 0 where
  pub call : IsOfCall a
  pub named : NamesGrants (HasGrant old opened) a
  pub awaits : AwaitsOrDefers (own_place (Some r)) place a
  pub looks : LooksAtOwn place new a r ⊎ (is_window r ≡ true)
  pub keeps : (grant : ℕ) → opened_by r ≡ Some grant → opened ≡ Some grant
  pub under : (x : ReadAt) → IsAmong x (reads_under (Some r)) → IsAmong x reads ⊎ IsNewRead x place a

-- A call that asked nothing continues with a reply that a slot awaits, or with the reply to one of its READs.
pub record LooksForReply (opened : Option ℕ) (reads : List ReadAt) (site : Site) (r : Running) : Type 0 where
  pub deferred : own_place (Some r) ≡ None
  pub some : is_some (awaited_place r site) ≡ true
  pub keeps : (grant : ℕ) → opened_by r ≡ Some grant → opened ≡ Some grant
  pub under : (x : ReadAt) → IsAmong x (reads_under (Some r)) → IsAmong x reads

-- The request that a starting call asks, or the reply that it waits for. If it waits, the site is unchanged.
abbrev pub BeginsAsking : Option ℕ → ℕ → Site → Site → Next → Type 0
BeginsAsking opened place old new (step.Ask a r) = AsksOrDefers opened place [] old new a r
BeginsAsking opened place old new (step.Wait r) = LooksForReply opened [] new r × (new ≡ old)
BeginsAsking opened place old new (step.Done o) = Unit {0}

-- A started call asks no CLOSE, and any reply that it waits for fits, except that of a whole read. These READs were in
-- flight.
abbrev pub GoesOnAsking : Option ℕ → ℕ → List ReadAt → Site → Site → Next → Type 0
GoesOnAsking opened place reads old new (step.Ask a r) = AsksOrDefers opened place reads old new a r × IsNoClose a
GoesOnAsking opened place reads old new (step.Wait r) = LooksForReply opened reads new r
    × (((y : Reply) → IsFittingReply r (Some y)) ⊎ (is_window r ≡ true))
GoesOnAsking opened place reads old new (step.Done o) = Unit {0}

-- A call that asks or ends while the awaited reply is missing awaits none of its own. It asks no CLOSE, and leaves its
-- site unchanged.
abbrev pub WidensAsking : Running → ℕ → Site → Next → Type 0
WidensAsking running place site (step.Ask a r) = (own_place (Some running) ≡ None)
    × AsksOrDefers (opened_by running) place (reads_under (Some running)) site site a r × IsNoClose a
WidensAsking running place site (step.Done o) = own_place (Some running) ≡ None
WidensAsking running place site (step.Wait r) = Unit {0}

-- ---- The ways in which a call continues

-- A whole read asks at this place. The READs that it then has in flight are these and the new one, and they are within
-- its window.
pub record IsWindowed (place : ℕ) (reads : List ReadAt) (facts : Facts) (a : Asked) (r : Running) : Type 0 where
  pub window : is_window r ≡ true
  pub read : ReadAt
  pub new : IsNewRead read place a
  pub under : reads_under (Some r) ≡ reads ++ read ∷ []
  pub few : length (reads_under (Some r)) ≤ facts.read_window

-- A whole read continues by its window, which had these READs in flight.
abbrev pub ReadsOn : ℕ → List ReadAt → Facts → Next → Type 0
ReadsOn place reads facts (step.Ask a r) = IsWindowed place reads facts a r
ReadsOn place reads facts (step.Wait r) = (is_window r ≡ true) × (reads_under (Some r) ≡ reads)
ReadsOn place reads facts (step.Done o) = Unit {0}

-- A call that makes its own requests one after another awaits the request that it asks, or ends.
abbrev pub OwnOn : ℕ → Next → Type 0
OwnOn place (step.Ask a r) = own_place (Some r) ≡ Some place
OwnOn place (step.Wait r) = ⊥
OwnOn place (step.Done o) = Unit {0}

-- The way in which a call continues, by the state that it continued from and the reply that came, if it awaited one. A
-- call that leaves replies to its slots may continue in any way.
abbrev pub GoesOnBy : Running → Option Reply → ℕ → Facts → Next → Type 0
GoesOnBy (running.OpeningToRead grant bound) reply place facts n = ReadsOn place [] facts n
GoesOnBy (running.ReadingWhole grant bound window) reply place facts n =
    ReadsOn place (answered_by window reply).waiting facts n
GoesOnBy (running.Flushing slot) reply place facts n = Unit {0}
GoesOnBy (running.AwaitingRoom slot start) reply place facts n = Unit {0}
GoesOnBy (running.Deferred slot count) reply place facts n = Unit {0}
GoesOnBy (running.DeferringRest slot done) reply place facts n = Unit {0}
GoesOnBy (running.FillingBuffer slot n_bytes offset own) reply place facts n = Unit {0}
GoesOnBy other reply place facts n = OwnOn place n
