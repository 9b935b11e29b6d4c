use Rattle.std.proofs.Common.{rules, ◌≡◌, ◌≤◌, ◌+◌, ◌-◌, ◌∙◌, ℕ, Option, ap, subst, refl, arith, length}
use Rattle.session_seats.specs.Holds.{AddsEntries, claim_of}
use Rattle.session_seats.proofs.GrowLaws.{grew_applied, grew_none, grew_on}
use Rattle.sftp_core.specs.declared.place.Place.{Place}
use Rattle.sftp_tasks.specs.Entries.{by_nothing}
use Rattle.sftp_tasks.specs.LockedEvents.{tells_written}
use Rattle.sftp_tasks.specs.Shows.{shown_of}
use Rattle.sftp_tasks.proofs.GroupLaws.{groups_done, groups_on, groups_start, groups_stopped, unwritten_after}
use Rattle.sftp_tasks.proofs.RoundLaws.{noted}
use Rattle.sftp_tasks.proofs.rounds.send_groups.Goals as goal

pub loop-start-init : goal.loop-start-init
loop-start-init g c = record {
  own = (refl, refl);
  only = grew_none _ _;
  unwritten = (let all = c.requires.unwritten in omega (arith, all));
  sent = groups_start c.args.chunk.now c.args.seat.now.inner.me (g.O.LinkState.state c.args.out.now);
}

pub send_pieces-requires : goal.send_pieces-requires
send_pieces-requires g c =
    let same = c.loop-start.invariant.sent.sent.caused.cause in
    let few = c.requires.count in
    omega (arith, same, few)

pub apply-requires-clause-may : goal.apply-requires-clause-may
apply-requires-clause-may g c =
    let all = c.loop-start.invariant.unwritten in
    let within = c.group_end-end.ensures.end.frames in
    let grows = c.group_end-end.ensures.grows in
    (omega (arith, all, within, grows), omega arith)

pub loop-start-preserved : goal.loop-start-preserved
loop-start-preserved g c =
    let i = c.loop-start.invariant in
    let grows = c.group_end-end.ensures.grows in
    let k : ℕ = c.group_end-end.result.frames - c.loop-start.start.frames in
    let n = c.loop-start.seat.inner.me in
    let next = c.apply.new.self.inner.me in
    let more : c.group_end-end.result.frames ≡ c.loop-start.start.frames + k = omega (arith, grows) in record {
      own = (c.apply.ensures.own ∙ i.own.0, c.apply.ensures.lane ∙ i.own.1);
      only = grew_on _ _ _ _ i.only
          (subst (λ (o : Option ℕ). AddsEntries (by_nothing o) (claim_of n) (claim_of next)) i.own.1
          (grew_applied shown_of by_nothing c.loop-start.seat.lane (tells_written k) n next c.apply.ensures.held));
      unwritten = (let after = unwritten_after k n next c.apply.ensures.held in let all = i.unwritten in
          omega (arith, after, all, more));
      sent = groups_on c.args.chunk.now c.args.seat.now.inner.me (g.O.LinkState.state c.args.out.now)
          c.loop-start.start c.group_end-end.result c.between.result.now k n next (g.O.LinkState.state c.loop-start.out)
          (g.O.LinkState.state c.send_pieces.new.link) i.sent c.group_end-end.ensures.end c.between.ensures c.in-Ok.ensures
          more
          (noted c.loop-start.seat.lane n next c.apply.ensures.held);
    }

pub returns-in-Err-clause-sends : goal.returns-in-Err-clause-sends
returns-in-Err-clause-sends g c =
    groups_stopped c.args.chunk.now c.args.seat.now.inner.me (g.O.LinkState.state c.args.out.now)
    c.loop-start.start c.group_end-end.result c.between.result.now c.in-Err.e c.loop-start.seat.inner.me
    (g.O.LinkState.state c.loop-start.out) (g.O.LinkState.state c.send_pieces.new.link)
    c.loop-start.invariant.sent c.group_end-end.ensures.end c.between.ensures c.in-Err.ensures

pub returns-clause-sends : goal.returns-clause-sends
returns-clause-sends g c =
    groups_done c.args.chunk.now c.args.seat.now.inner.me (g.O.LinkState.state c.args.out.now)
    c.loop-start.start c.loop-start.seat.inner.me (g.O.LinkState.state c.loop-start.out) c.loop-start.invariant.sent
    (let none = c.loop-start-test.false in let all = c.frames.ensures in grind (arith, none, all))
