-- Worked rounds of a wait, each beside a near miss.
use Rattle.std.proofs.Common.{inr}
use Rattle.std.specs.Prelude.{◌≡◌, ℕ, true, None, Some, Err, refl}
use Rattle.sftp_model.specs.declared.answers.Expected.{Expected}
use Rattle.sftp_model.specs.declared.error.Error.{Error}
use Rattle.sftp_model.specs.declared.reply.Reply.{Reply}
use Rattle.sftp_core.specs.Core.{Core, record_at}
use Rattle.sftp_core.specs.Info.{info_of}
use Rattle.sftp_core.specs.declared.handshake.Handshake.TheVariants as phase
use Rattle.sftp_core.specs.declared.id_record.IdRecord.TheVariants as id_record
use Rattle.sftp_core.specs.declared.info.Info.{Info}
use Rattle.sftp_link.specs.Views.{LinkView}
use Rattle.plan_state.specs.Calls.{CanContinue}
use Rattle.plan_state.specs.declared.stage.Stage.TheVariants as stage
use Rattle.plan_state.specs.declared.told.Told.{Told}
use Rattle.sftp_client.specs.Rounds.{OpenEnds, StopsAsking}
use Rattle.sftp_client.specs.Sessions.{SftpValue}
use Rattle.sftp_client.specs.Waits.{ArePollRounds, IsPollRound, SendsAndTakes}

-- After no rounds the session and the thing that is polled are as they were.
pub no_round : {C L S : Type 0} (Waits : SftpValue L → SftpValue L → C → C → Type 0) (state : L → LinkView S)
    (old : SftpValue L) (p : C) → ArePollRounds Waits state 0 old old p p
no_round Waits state old p = (refl, refl)

-- One round is a poll without an answer, after which the queue was sent and a frame taken.
pub one_round : {C L S : Type 0} (Waits : SftpValue L → SftpValue L → C → C → Type 0) (state : L → LinkView S)
    (old mid new : SftpValue L) (p q : C) → Waits old mid p q → (round : SendsAndTakes state mid new) → round.took
    ≡ true
    → ArePollRounds Waits state 1 old new p q
one_round Waits state old mid new p q waits round took =
    (old, (p, ((refl, refl), record { mid = mid; waits = waits; round = round; took = took })))

-- In each round a frame was taken.
pub frame_taken : {C L S : Type 0} (Waits : SftpValue L → SftpValue L → C → C → Type 0) (state : L → LinkView S)
    (old new : SftpValue L) (p q : C) (h : IsPollRound Waits state old new p q) → h.round.took ≡ true
frame_taken Waits state old new p q h = h.took

-- ---- Calls after running out of memory

-- A call continues if the reply to its ticket came, or if it has the reply already.
pub reply_came : (core : Core) (ticket : ℕ) (kind : Expected) (r : Reply)
    → record_at core ticket ≡ Some (id_record.Answered kind r) → CanContinue core (stage.Asked ticket)
reply_came core ticket kind r here = rw here refl

pub reply_taken : (core : Core) (t : Told) → CanContinue core (stage.Came t)
reply_taken core t = tt

-- It does not continue while the reply is awaited, nor after its end.
pub reply_awaited : (core : Core) (ticket : ℕ) (kind : Expected)
    → record_at core ticket ≡ Some (id_record.Waiting kind true true) → CanContinue core (stage.Asked ticket) → ⊥
reply_awaited core ticket kind here h = let missing = rw here at h in cc

pub call_ended : (core : Core) → CanContinue core stage.Ended → ⊥
call_ended core h = h

-- ---- Openings that stop after VERSION

-- While the limits are awaited nothing is known of the server.
pub limits_awaited : info_of (phase.Asking (record { 0 = 0 })) ≡ None
limits_awaited = refl

-- An opening that stopped there returns the error.
pub limits_missing : {L S : Type 0} (state : L → LinkView S) (old new : SftpValue L) (e : Error)
    → StopsAsking state old new e → OpenEnds state old new (Err e)
limits_missing state old new e h = inr h

-- It does not stop there if VERSION said all.
pub all_known : {L S : Type 0} (state : L → LinkView S) (old new : SftpValue L) (e : Error)
    (h : StopsAsking state old new e) (info : Info) → h.greeted.core.phase ≡ phase.Open info → ⊥
all_known state old new e h info is = let asks = rw is at h.asks in cc
