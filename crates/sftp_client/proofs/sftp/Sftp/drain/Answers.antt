use Rattle.std.proofs.Common.{◌<◌, inl, inr, rules}
use Rattle.link_frames.proofs.Joining.{escaped}
use Rattle.sftp_core.specs.Core.{unanswered_of}
use Rattle.sftp_client.proofs.Draining.{drain_counts, drain_stops, drains_first, drains_less, drains_next, takes_one, took_counts}
use Rattle.sftp_client.proofs.sftp.Sftp.drain.Goals as goal

pub loop-self-init : goal.loop-self-init
loop-self-init g c = drains_first g.L.LinkState.state c.args.self.now c.flush.new.self c.in_ok-flush.field-0
    c.requires.opened c.in_ok-flush.ensures

pub take-requires : goal.take-requires
take-requires g c = drain_counts g.L.LinkState.state c.args.self.now c.loop-self.self c.requires.count
    c.loop-self.invariant

pub returns-in_err-take : goal.returns-in_err-take
returns-in_err-take g c =
    rw (escaped c.from_residual-in_err-take.result c.in_err-take.field-0.0 c.from_residual-in_err-take.ensures.1)
    (drain_stops g.L.LinkState.state c.args.self.now c.loop-self.self c.take.new.self c.in_err-take.field-0.0
    c.loop-self.invariant
    (inl c.in_err-take.ensures))

pub flush-requires-in-loop-self : goal.flush-requires-in-loop-self
flush-requires-in-loop-self g c =
    let some : 0 < unanswered_of c.loop-self.self.core = search rules in
    took_counts g.L.LinkState.state c.args.self.now c.loop-self.self c.take.new.self c.requires.count
    c.loop-self.invariant
    (takes_one g.L.LinkState.state c.args.self.now c.loop-self.self c.take.new.self c.in_ok-take.field-0
    c.loop-self.invariant some
    c.in_ok-take.ensures)

pub loop-self-smaller : goal.loop-self-smaller
loop-self-smaller g c =
    let some : 0 < unanswered_of c.loop-self.self.core = search rules in
    drains_less g.L.LinkState.state c.args.self.now c.loop-self.self c.take.new.self c.flush-in-loop-self.new.self
    c.in_ok-flush-2.field-0
    c.loop-self.invariant
    (takes_one g.L.LinkState.state c.args.self.now c.loop-self.self c.take.new.self c.in_ok-take.field-0
    c.loop-self.invariant some
    c.in_ok-take.ensures) c.in_ok-flush-2.ensures

pub loop-self-preserved : goal.loop-self-preserved
loop-self-preserved g c =
    let some : 0 < unanswered_of c.loop-self.self.core = search rules in
    drains_next g.L.LinkState.state c.args.self.now c.loop-self.self c.take.new.self c.flush-in-loop-self.new.self
    c.in_ok-flush-2.field-0
    c.loop-self.invariant
    (takes_one g.L.LinkState.state c.args.self.now c.loop-self.self c.take.new.self c.in_ok-take.field-0
    c.loop-self.invariant some
    c.in_ok-take.ensures) c.in_ok-flush-2.ensures

pub returns-in_err-flush-2 : goal.returns-in_err-flush-2
returns-in_err-flush-2 g c =
    let some : 0 < unanswered_of c.loop-self.self.core = search rules in
    rw (escaped c.from_residual-in_err-flush-2.result c.in_err-flush-2.field-0.0
    c.from_residual-in_err-flush-2.ensures.1)
    (drain_stops g.L.LinkState.state c.args.self.now c.loop-self.self c.flush-in-loop-self.new.self
    c.in_err-flush-2.field-0.0 c.loop-self.invariant
    (inr (
      c.take.new.self,
      (
        takes_one g.L.LinkState.state c.args.self.now c.loop-self.self c.take.new.self c.in_ok-take.field-0
            c.loop-self.invariant some c.in_ok-take.ensures,
        c.in_err-flush-2.ensures,
      ),
    )))

pub returns : goal.returns
returns g c = (c.loop-self.invariant.rounds, (search rules, c.loop-self.invariant.sent))
