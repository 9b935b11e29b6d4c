-- A lane whose calls have ended, and a seat that leaves.
use Rattle.std.proofs.Common.{◌≡◌, ◌≤◌, ℕ, ◌+◌, ◌-◌, List, length, Bool, true, true≢false, refl, sym, ap, ◌∙◌, subst, arith, Ok, Some, None}
use Rattle.std.specs.Prelude.{Option, Result}
use Rattle.plan_model.specs.declared.call.Lane.{Lane}
use Rattle.session_model.specs.declared.entry.Entry.{Entry}
use Rattle.session_model.specs.Calls.{current, lane_calls}
use Rattle.session_model.specs.Journals.{IsJournal}
use Rattle.session_model.specs.Readings.{count_ended, outcomes_of}
use Rattle.run_laws.proofs.CallEnds.{outcomes_count}
use Rattle.session_seats.specs.declared.view.Receipt.{Receipt}
use Rattle.session_seats.specs.Holds.{Applied, Hold, claim_of, no_allowance, sight_by}
use Rattle.session_seats.proofs.RepeatLaws.{sees_lanes, sees_past}
use Rattle.session_work.specs.Working.{past_of}
use Rattle.sftp_lanes.specs.Seen.{SessionValue, setting_at}
use Rattle.sftp_tasks.specs.declared.locked.Locked.{Locked}
use Rattle.sftp_tasks.specs.declared.polls.Polled.{Polled}
use Rattle.sftp_tasks.specs.declared.polls.Polled.TheVariants as polled
use Rattle.sftp_tasks.specs.Calls.{InOneHold, PollsSeat, SeesEnded, calls_in, is_ended}
use Rattle.sftp_tasks.specs.Rounds.{Token}
use Rattle.sftp_tasks.specs.SessionEvents.{AllEnded}
use Rattle.sftp_tasks.specs.Shows.{shown_of}
use Rattle.sftp_tasks.proofs.EndedLaws.{ended_most, none_left}

-- if no call of a lane is left, all of its calls have ended
pub all_ended : (s : SessionValue) (lane calls : ℕ) → IsJournal (setting_at s) (past_of s.work)
    → current (setting_at s) (past_of s.work) lane ≡ None → calls ≡ length (outcomes_of (past_of s.work) lane)
    → AllEnded s.lanes (past_of s.work) lane calls
all_ended s lane calls run none is =
    let past = past_of s.work in
    let most = ended_most (setting_at s) past lane run in
    let least = none_left (lane_calls (setting_at s) past lane) (count_ended past lane) none in
    let number : calls ≡ count_ended past lane = is ∙ outcomes_count past lane in
    record { are = omega (arith, most, least, number); have_ended = sym number }

pub ended_as : (p : Polled) → is_ended p ≡ true → p ≡ polled.Ended (calls_in p)
ended_as (polled.Ended calls) is = refl
ended_as polled.Moved is = absurd (true≢false (sym is))
ended_as polled.Waits is = absurd (true≢false (sym is))

-- the seat has seen the result of the last poll
pub sees_ended : (lane : Option ℕ) (calls : ℕ) (m n : Token) → InOneHold (PollsSeat lane) (Ok (polled.Ended calls)) m n
    → SeesEnded lane calls (sight_by n)
sees_ended None calls m n h = ap calls_in h.did.0.1.1
sees_ended (Some lane) calls m n h =
    let same : h.after.session ≡ h.before.session = h.did.0.1.1 in
    let lanes : (sight_by n).lanes ≡ h.before.session.lanes = sees_lanes shown_of m n h
    ∙ ap (λ (s : SessionValue). s.lanes) same in
    let past = sees_past shown_of m n h ∙ ap (λ (s : SessionValue). past_of s.work) same in
    subst (λ (x : List Lane × List Entry). AllEnded x.0 x.1 lane calls) (λ i. (sym lanes i, sym past i)) h.did.0.1.0

-- a hold that takes no user out leaves the seat's share
pub share_kept : {Did : Locked → Locked → List Entry → Type 0} (m n : Token) (h : Hold shown_of Did m n) → h.after.users
    ≡ h.before.users
    → (claim_of n).share ≡ (claim_of m).share
share_kept m n h same =
    let is : (claim_of n).share ≡ (claim_of m).share + h.after.users - h.before.users =
    ap (λ (x : Token). (claim_of x).share) h.is in
    omega (arith, is, same)

-- nor does one that may take none out take any of it
pub share_stays : {X Y : Type 0} {test : Entry → Bool} {Does : Locked → Locked → Type 0} {copied : Result X Y}
    {old new : List Receipt} (m n : Token)
    → Hold shown_of (Applied shown_of test no_allowance Does copied old new) m n
    → (claim_of m).share ≤ (claim_of n).share
share_stays m n h =
    let is : (claim_of n).share ≡ (claim_of m).share + h.after.users - h.before.users =
    ap (λ (x : Token). (claim_of x).share) h.is in
    let stay : h.before.users ≤ 0 + h.after.users = h.did.goes.users in
    omega (arith, is, stay)
