use Rattle.std.proofs.Common.{rules, ◌≡◌, ◌∙◌, sym, ap, subst, refl, Ok, Err, true, false, Option, ℕ}
use Rattle.std.specs.Prelude.{Result}
use Rattle.session_seats.specs.Holds.{AddsEntries, claim_of}
use Rattle.session_seats.proofs.GrowLaws.{grew_none, grew_on}
use Rattle.session_seats.proofs.RepeatLaws.{repeats_more, repeats_none}
use Rattle.sftp_model.specs.declared.error.Error.{Error}
use Rattle.sftp_tasks.specs.declared.polls.Polled.{Polled}
use Rattle.sftp_tasks.specs.declared.polls.Polled.TheVariants as polled
use Rattle.sftp_tasks.specs.Calls.{InOneHold, PollsSeat, calls_in, is_ended}
use Rattle.sftp_tasks.specs.Entries.{by_step}
use Rattle.sftp_tasks.proofs.PollLaws.{ended_as, sees_ended}
use Rattle.sftp_tasks.proofs.shared_sftp.SharedSftp.poll_wait.Goals as goal

pub loop-init : goal.loop-init
loop-init g c = (refl, refl, refl, grew_none _ _, repeats_none _ _)

pub loop-preserved : goal.loop-preserved
loop-preserved g c =
    let i = c.loop.invariant in
    let m = c.loop.seat.inner.me in
    let n = c.poll.new.seat.inner.me in
    let on : is_ended c.in-Ok.polled ≡ false = search rules in
    let polls = subst (λ (r : Result Polled Error). InOneHold (PollsSeat c.loop.seat.lane) r m n) c.in-Ok.is
    c.poll.ensures.polls in (
      c.poll.ensures.own.0 ∙ i.0,
      c.poll.ensures.own.1 ∙ i.1,
      c.poll.ensures.own.2 ∙ i.2,
      grew_on _ _ _ _ i.3 (subst (λ (o : Option ℕ). AddsEntries (by_step o) (claim_of m) (claim_of n)) i.1
          c.poll.ensures.only),
      repeats_more _ _ m n i.4
          (c.in-Ok.polled, (on, subst (λ (o : Option ℕ). InOneHold (PollsSeat o) (Ok c.in-Ok.polled) m n) i.1 polls)),
    )

pub returns-in-Err-clause-only : goal.returns-in-Err-clause-only
returns-in-Err-clause-only g c =
    let i = c.loop.invariant in
    grew_on _ _ _ _ i.3
    (subst (λ (o : Option ℕ). AddsEntries (by_step o) (claim_of c.loop.seat.inner.me)
    (claim_of c.poll.new.seat.inner.me)) i.1 c.poll.ensures.only)

pub returns-in-Err-clause-polls : goal.returns-in-Err-clause-polls
returns-in-Err-clause-polls g c =
    let i = c.loop.invariant in
    let m = c.loop.seat.inner.me in
    let n = c.poll.new.seat.inner.me in
    let polls = subst (λ (r : Result Polled Error). InOneHold (PollsSeat c.loop.seat.lane) r m n) c.in-Err.is
    c.poll.ensures.polls in
    (m, (i.4, subst (λ (o : Option ℕ). InOneHold (PollsSeat o) (Err c.in-Err.e) m n) i.1 polls))

pub returns-then-is_ended-clause-only : goal.returns-then-is_ended-clause-only
returns-then-is_ended-clause-only g c =
    let i = c.loop.invariant in
    grew_on _ _ _ _ i.3
    (subst (λ (o : Option ℕ). AddsEntries (by_step o) (claim_of c.loop.seat.inner.me)
    (claim_of c.poll.new.seat.inner.me)) i.1 c.poll.ensures.only)

pub returns-then-is_ended-clause-polls : goal.returns-then-is_ended-clause-polls
returns-then-is_ended-clause-polls g c =
    let i = c.loop.invariant in
    let m = c.loop.seat.inner.me in
    let n = c.poll.new.seat.inner.me in
    let yes : is_ended c.in-Ok.polled ≡ true = search rules in
    let calls : c.calls.result ≡ calls_in c.in-Ok.polled = search rules in
    let is = c.in-Ok.is ∙ ap (λ p. Ok p) (ended_as c.in-Ok.polled yes) ∙ ap (λ k. Ok (polled.Ended k)) (sym calls) in
    let polls = subst (λ (r : Result Polled Error). InOneHold (PollsSeat c.loop.seat.lane) r m n) is
    c.poll.ensures.polls in
    (m, (i.4, subst (λ (o : Option ℕ). InOneHold (PollsSeat o) (Ok (polled.Ended c.calls.result)) m n) i.1 polls))

pub returns-then-is_ended-clause-ended : goal.returns-then-is_ended-clause-ended
returns-then-is_ended-clause-ended g c =
    let i = c.loop.invariant in
    let m = c.loop.seat.inner.me in
    let n = c.poll.new.seat.inner.me in
    let yes : is_ended c.in-Ok.polled ≡ true = search rules in
    let calls : c.calls.result ≡ calls_in c.in-Ok.polled = search rules in
    let is = c.in-Ok.is ∙ ap (λ p. Ok p) (ended_as c.in-Ok.polled yes) ∙ ap (λ k. Ok (polled.Ended k)) (sym calls) in
    let polls = subst (λ (r : Result Polled Error). InOneHold (PollsSeat c.loop.seat.lane) r m n) is
    c.poll.ensures.polls in
    sees_ended c.args.seat.now.lane c.calls.result m n (subst (λ (o : Option ℕ). InOneHold (PollsSeat o)
    (Ok (polled.Ended c.calls.result)) m n) i.1 polls)
