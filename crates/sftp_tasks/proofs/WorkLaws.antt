-- The rounds of a worker.
use Rattle.std.proofs.Common.{◌≡◌, ◌≤◌, ℕ, ◌==◌, Bool, true, false, true≢false, refl, sym, ap, ◌∙◌, arith, inl, inr, Ok, eqb-true}
use Rattle.std.proofs.lemmas.Bool.Decides.{nat_tests}
use Rattle.std.specs.Prelude.{nat_le}
use Rattle.session_driver.specs.declared.session.Phase.{Phase}
use Rattle.session_driver.specs.declared.session.Phase.TheVariants.{Fresh, Open}
use Rattle.session_model.specs.Readings.{count_unanswered}
use Rattle.session_seats.specs.declared.view.Counts.{Counts}
use Rattle.session_seats.specs.declared.view.Sight.{Sight}
use Rattle.session_seats.specs.Holds.{sight_by}
use Rattle.session_seats.specs.Sights.{entries}
use Rattle.session_seats.proofs.HoldLaws.{both_true}
use Rattle.session_seats.proofs.RepeatLaws.{sees_counts, sees_past}
use Rattle.session_work.specs.Working.{past_of}
use Rattle.sftp_tasks.specs.declared.locked.Locked.{Locked}
use Rattle.sftp_tasks.specs.declared.workers.Shift.{Shift}
use Rattle.sftp_tasks.specs.declared.workers.Shift.TheVariants.{Worked, Idle, Over}
use Rattle.sftp_tasks.specs.Calls.{InOneHold}
use Rattle.sftp_tasks.specs.LockedEvents.{SettlesEnd, TellsStage, at_end, is_answered}
use Rattle.sftp_tasks.specs.Rounds.{Token}
use Rattle.sftp_tasks.specs.Phases.{phase_number}
use Rattle.sftp_tasks.specs.Shows.{counts_of, shown_of}
use Rattle.sftp_tasks.specs.Workers.{FlushShift, WorkerState, ReadShift, SeesAnswered, is_over, over_if}

pub over_as : (s : Shift) → is_over s ≡ true → s ≡ Over
over_as Over is = refl
over_as Worked is = absurd (true≢false (sym is))
over_as Idle is = absurd (true≢false (sym is))

abbrev is_worked : Shift → Bool
is_worked Worked = true
is_worked Idle = false
is_worked Over = false

over_worked : Over ≡ Worked → ⊥
over_worked e = true≢false (sym (ap is_worked e))

over_true : (b : Bool) → Over ≡ over_if b → b ≡ true
over_true true e = refl
over_true false e = absurd (true≢false (ap is_over e))

-- ---- the worker that sends

-- a round leaves the link's count of faults, unless it is the last
pub flush_faults : {Service : Type 0} (s : Shift) (a b : WorkerState Service) → FlushShift (Ok s) a b → b.1.faults
    ≡ a.1.faults
flush_faults s a b (inl h) = h.1.sent.caused.cause
flush_faults s a b (inr h) = ap (λ v. v.faults) h.1.1.none.1

stage_two : (stage : ℕ) (m n : Token) → InOneHold TellsStage (Ok stage) m n → nat_le 2 stage ≡ true
    → (sight_by n).counts.stage ≡ 2
stage_two stage m n h least =
    let counts : (sight_by n).counts ≡ counts_of h.after = sees_counts shown_of m n h in
    let seen : (sight_by n).counts.stage ≡ h.after.counts.stage = ap (λ (c : Counts). c.stage) counts in
    let same : h.after.counts.stage ≡ h.before.counts.stage = ap (λ (x : Locked). x.counts.stage) h.did.0.0 in
    let told : stage ≡ h.before.counts.stage = h.did.0.1 in
    let was : h.now.counts.stage ≡ h.before.counts.stage = ap (λ (s : Sight). s.counts.stage) h.took.shows.told in
    let most : h.now.counts.stage ≤ 2 = h.took.ends.0 in
    let low : 2 ≤ stage = grind (arith, nat_tests) in
    omega (arith, seen, same, told, was, most, low)

pub flush_sees : {Service : Type 0} (a b : WorkerState Service) → FlushShift (Ok Over) a b → (sight_by b.0).counts.stage
    ≡ 2
flush_sees a b (inl h) = absurd (over_worked h.0)
flush_sees a b (inr h) = stage_two h.0 h.1.1.mid b.0 h.1.1.looks (over_true (nat_le 2 h.0) h.1.0)

-- ---- the worker that reads

pub read_faults : {Service : Type 0} (s : Shift) (a b : WorkerState Service) → ReadShift (Ok s) a b → b.1.faults
    ≡ a.1.faults
read_faults s a b (inl h) = h.1.caused.cause
read_faults s a b (inr h) = ap (λ v. v.faults) h.1.1.none.1

answered_all : (p : Phase) (stage unanswered : ℕ) → is_answered p stage unanswered ≡ true → unanswered ≡ 0
answered_all Open stage unanswered is = eqb-true unanswered 0 (both_true (nat_le 1 stage) (unanswered == 0) is).1
answered_all Fresh stage unanswered is = absurd (true≢false (sym is))
answered_all other stage unanswered is = absurd (true≢false (sym is))

answered_open : (p : Phase) (stage unanswered : ℕ) → is_answered p stage unanswered ≡ true → phase_number p
    ≡ phase_number Open
answered_open Open stage unanswered is = refl
answered_open Fresh stage unanswered is = absurd (true≢false (sym is))
answered_open other stage unanswered is = absurd (true≢false (sym is))

finished : (all : Bool) (m n : Token) → InOneHold SettlesEnd (Ok all) m n → all ≡ true → SeesAnswered (sight_by n)
finished all m n h done =
    let y = h.before in
    let after : h.after ≡ record y { counts = at_end true y.counts } = h.did.0.1
    ∙ ap (λ (b : Bool). record y { counts = at_end b y.counts }) done in
    let past : entries (sight_by n).log ≡ past_of y.session.work = sees_past shown_of m n h
    ∙ ap (λ (x : Locked). past_of x.session.work) after in (
      ap (λ (c : Counts). c.stage) (sees_counts shown_of m n h) ∙ ap (λ (x : Locked). x.counts.stage) after,
      ap count_unanswered past ∙ answered_all y.session.phase y.counts.stage (count_unanswered (past_of y.session.work))
          (sym h.did.0.0 ∙ done),
      ap (λ (c : Counts). c.phase) (sees_counts shown_of m n h)
          ∙ ap (λ (x : Locked). phase_number x.session.phase) after
          ∙ answered_open y.session.phase y.counts.stage (count_unanswered (past_of y.session.work))
          (sym h.did.0.0 ∙ done),
    )

pub read_sees : {Service : Type 0} (a b : WorkerState Service) → ReadShift (Ok Over) a b → SeesAnswered (sight_by b.0)
read_sees a b (inl h) = absurd (over_worked h.0)
read_sees a b (inr h) = finished h.0 h.1.1.mid b.0 h.1.1.looks (over_true h.0 h.1.0)
