-- The pending bytes stay within the write limit.
use Rattle.std.proofs.Common.{◌≡◌, ◌≤◌, ◌+◌, ◌-◌, ◌∙◌, ap, arith, ℕ, Bool, true, false, List, Result, Ok, Err, IfOk, IfErr}
use Rattle.std.specs.Prelude.{min, max}
use Rattle.sftp_model.specs.declared.error.Error.{Error}
use Rattle.sftp_model.specs.declared.error.Error.TheVariants as error
use Rattle.sftp_model.specs.declared.error.IoKind.TheVariants as kind
use Rattle.sftp_model.specs.declared.slot.Facts.{Facts}
use Rattle.plan_model.specs.BufferPlans.{is_good}
use Rattle.sftp_core.specs.Core.{Core}
use Rattle.plan_state.specs.declared.poll.Poll.TheVariants as poll
use Rattle.sftp_buffered.specs.Buffered.{CompatValue}
use Rattle.sftp_buffered.specs.Steps.{IsLeft, LooksAtOldest, with_oldest_settled, oldest_len, oldest_reply, room_of}
use Rattle.sftp_buffered.specs.Writes.{SendsWrites, SendsNoWrite}
use Rattle.sftp_buffered.proofs.Holding.{freed_pending}

pub window_left : (limit : ℕ) (old new : Core) (p q : CompatValue) → IsLeft old new p q
    → q.pending ≤ max p.pending limit
window_left limit old new p q l = (let same : q.pending ≡ p.pending = ap (λ (c : CompatValue). c.pending) l.same in
    omega (arith, same))

window_freed : (full : Bool) (limit : ℕ) (p q : CompatValue) → q ≡ with_oldest_settled full p
    → q.pending ≤ max p.pending limit
window_freed true limit p q left = (let less : q.pending ≡ p.pending - oldest_len p.deferred =
    ap (λ (c : CompatValue). c.pending) left in omega (arith, less))
window_freed false limit p q left = (let same : q.pending ≡ p.pending = ap (λ (c : CompatValue). c.pending) left in
    omega (arith, same))

pub window_looked : (limit : ℕ) (old new : Core) (p q : CompatValue) (e : Error)
    → LooksAtOldest old new p q (poll.Ready (Err e)) → q.pending ≤ max p.pending limit
window_looked limit old new p q (error.BackgroundTaskFailure fault) l = window_left limit old new p q l.2
window_looked limit old new p q other l = window_freed true limit p q l.left

freed_least : (full : Bool) (p : CompatValue) → (with_oldest_settled full p).pending ≤ p.pending
freed_least true p = omega arith
freed_least false p = omega arith

room_within : (facts : Facts) (c : CompatValue) (len n most : ℕ) → n ≡ min len (room_of facts c) → c.pending ≤ most
    → c.pending + n ≤ max most facts.write_limit
room_within facts c len n most is within = omega (arith, is, within)

window_sent : (full : Bool) (facts : Facts) (parts : List (List ℕ)) (len n : ℕ) (old new : Core) (p q : CompatValue) → n
    ≡ min len (room_of facts (with_oldest_settled full p)) → (full ≡ true → is_good (oldest_reply old p.deferred)
    ≡ true)
    → SendsWrites full parts old new p q n → q.pending ≤ max p.pending facts.write_limit
window_sent full facts parts len n old new p q is good s =
    let more : q.pending ≡ (with_oldest_settled full p).pending + n = ap (λ (c : CompatValue). c.pending) s.left
    ∙ ap (λ (k : ℕ). k + n) (freed_pending full old p n s.ticket good) in
    let within : (with_oldest_settled full p).pending + n ≤ max p.pending facts.write_limit =
    room_within facts (with_oldest_settled full p) len n p.pending is (freed_least full p) in
    omega (arith, more, within)

window_unsent : (full : Bool) (limit n : ℕ) (old new : Core) (p q : CompatValue) (e : Error)
    → SendsNoWrite full n old new p q e → q.pending ≤ max p.pending limit
window_unsent full limit n old new p q error.OutOfMemory u = window_left limit old new p q u
window_unsent full limit n old new p q (error.BackgroundTaskFailure fault) u = window_left limit old new p q u.2
window_unsent full limit n old new p q (error.IOError kind.OffsetOverflow) u = window_freed full limit p q u.1
window_unsent full limit n old new p q other u = absurd u

pub window_send : (full : Bool) (facts : Facts) (parts : List (List ℕ)) (len n : ℕ) (old new : Core) (p q : CompatValue)
    (result : Result ℕ Error) → n ≡ min len (room_of facts (with_oldest_settled full p))
    → (full ≡ true → is_good (oldest_reply old p.deferred) ≡ true)
    → IfOk result (λ k. (k ≡ n) × SendsWrites full parts old new p q n) → IfErr result (SendsNoWrite full n old new p q)
    → q.pending ≤ max p.pending facts.write_limit
window_send full facts parts len n old new p q (Ok k) is good ok err =
    window_sent full facts parts len n old new p q is good ok.1
window_send full facts parts len n old new p q (Err e) is good ok err =
    window_unsent full facts.write_limit n old new p q e err

pub window_same : (limit : ℕ) (c : CompatValue) → c.pending ≤ max c.pending limit
window_same limit c = omega arith
