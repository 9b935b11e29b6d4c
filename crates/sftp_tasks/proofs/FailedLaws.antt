-- A session that has failed stays so, for each seat that has seen it.
use Rattle.std.proofs.Common.{◌≡◌, ◌≤◌, ◌<◌, ℕ, List, Bool, true, false, ap, ◌∙◌, arith, Ok}
use Rattle.std.specs.Prelude.{Option, Result}
use Rattle.session_driver.specs.declared.session.Phase.TheVariants.{Failed}
use Rattle.session_model.specs.declared.entry.Entry.{Entry}
use Rattle.session_seats.specs.declared.view.Counts.{Counts}
use Rattle.session_seats.specs.declared.view.Receipt.{Receipt}
use Rattle.session_seats.specs.declared.view.Sight.{Sight}
use Rattle.session_seats.specs.Holds.{Hold, sight_by}
use Rattle.session_seats.proofs.RepeatLaws.{sees_counts}
use Rattle.sftp_lanes.specs.Seen.{SessionValue}
use Rattle.sftp_link.specs.Views.{LinkView}
use Rattle.sftp_model.specs.declared.error.Error.{Error}
use Rattle.sftp_tasks.specs.declared.locked.Locked.{Locked}
use Rattle.sftp_tasks.specs.Calls.{AnswersSeat, InOneHold, ReleasesSeat}
use Rattle.sftp_tasks.specs.LockedEvents.{GivingUp, ReleasesLane}
use Rattle.sftp_tasks.specs.Rounds.{FlushesRound, HoldsOnce, ReadsRound, SeesFailed, SeesUnfailed, Token}
use Rattle.sftp_tasks.specs.SessionEvents.{MayTakeCalls}
use Rattle.sftp_tasks.specs.Phases.{phase_number}
use Rattle.sftp_tasks.specs.Shows.{shown_of}
use Rattle.sftp_tasks.proofs.PhaseLaws.{number_unfailed}

-- a session that takes calls had not failed before, either
seen_unfailed : {Did : Locked → Locked → List Entry → Type 0} (m n : Token) (h : Hold shown_of Did m n)
    → MayTakeCalls h.before.session → SeesUnfailed (sight_by m)
seen_unfailed m n h may =
    let rises : (sight_by m).counts.phase ≤ h.now.counts.phase = h.took.later.counts.phase in
    let is : h.now.counts.phase ≡ phase_number h.before.session.phase =
    ap (λ (s : Sight). s.counts.phase) h.took.shows.told in
    let less : phase_number h.before.session.phase < 5 = number_unfailed h.before.session.phase may.1 in
    omega (arith, rises, is, less)

pub answers_unfailed : {A : Type 0} (Does : Locked → Locked → Result A Error → Type 0) (old new : List Receipt) (a : A)
    (m n : Token)
    → AnswersSeat Does old new (Ok a) m n → SeesUnfailed (sight_by m)
answers_unfailed Does old new a m n h = seen_unfailed m n h h.did.2

pub one_hold_unfailed : {A : Type 0} (Does : Locked → Locked → Result A Error → Type 0) (a : A) (m n : Token)
    → InOneHold Does (Ok a) m n → SeesUnfailed (sight_by m)
one_hold_unfailed Does a m n h = seen_unfailed m n h h.did.1

pub releases_unfailed : (lane : Option ℕ) (old new : List Receipt) (did : Bool) (m n : Token)
    → ReleasesSeat lane old new (Ok did) m n → SeesUnfailed (sight_by m)
releases_unfailed lane old new true m n h = answers_unfailed (ReleasesLane lane) old new true m h.0.mid h.0.lets
releases_unfailed lane old new false m n h = answers_unfailed (ReleasesLane lane) old new false m n h.0

pub sends_unfailed : {Service : Type 0} (did : Bool) (m n : Token) (before now : LinkView Service)
    → FlushesRound did m n before now → SeesUnfailed (sight_by m)
sends_unfailed true m n before now h = seen_unfailed m h.mid h.hands h.hands.did.2
sends_unfailed false m n before now h = seen_unfailed m n h.0 h.0.did.1

pub reads_unfailed : {Service : Type 0} (did : Bool) (m n : Token) (before now : LinkView Service)
    → ReadsRound did m n before now → SeesUnfailed (sight_by m)
reads_unfailed true m n before now h = seen_unfailed m h.mid h.looks h.looks.did.1
reads_unfailed false m n before now h = seen_unfailed m n h.0 h.0.did.1

pub given_up_seen : (m n : Token) → HoldsOnce (λ y z more. GivingUp y z) m n → SeesFailed (sight_by n)
given_up_seen m n h = ap (λ (c : Counts). c.phase) (sees_counts shown_of m n h)
    ∙ ap (λ (s : SessionValue). phase_number s.phase) h.did
