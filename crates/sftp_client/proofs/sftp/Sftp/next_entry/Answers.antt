use Rattle.std.proofs.Common.{◌≡◌, ◌-◌, ◌^◌, rules, subst, sym}
use Rattle.link_frames.proofs.Joining.{escaped}
use Rattle.sftp_client.specs.Listed.{ListedIn}
use Rattle.sftp_client.proofs.Listing.{lists_end, lists_next, lists_out, lists_stop}
use Rattle.sftp_client.proofs.sftp.Sftp.next_entry.Goals as goal

pub returns-in-Ready : goal.returns-in-Ready
returns-in-Ready g c =
    lists_end g.L.LinkState.state c.loop.counter c.args.self.now c.loop.self c.poll_entry.new.self c.args.listing.now
    c.loop.listing
    c.poll_entry.new.listing c.answer_of.result c.loop.invariant
    (subst (λ x. ListedIn c.loop.self c.poll_entry.new.self c.loop.listing c.poll_entry.new.listing x)
    (sym c.answer_of.ensures)
    c.in-Ready.ensures)

pub returns-in_err-round-in-Pending : goal.returns-in_err-round-in-Pending
returns-in_err-round-in-Pending g c =
    rw (escaped c.from_residual.result c.in_err-round-in-Pending.field-0.0 c.from_residual.ensures.1)
    (lists_stop g.L.LinkState.state c.loop.counter c.args.self.now c.loop.self c.poll_entry.new.self c.round.new.self
    c.args.listing.now c.loop.listing c.poll_entry.new.listing c.in_err-round-in-Pending.field-0.0 c.loop.invariant
    c.in-Pending.ensures
    c.in_err-round-in-Pending.ensures)

pub loop-preserved : goal.loop-preserved
loop-preserved g c =
    lists_next g.L.LinkState.state c.loop.counter c.args.self.now c.loop.self c.poll_entry.new.self c.round.new.self
    c.args.listing.now c.loop.listing c.poll_entry.new.listing c.loop.invariant c.in-Pending.ensures
    c.in_ok-round-in-Pending.ensures

pub returns : goal.returns
returns g c =
    let all : c.loop.counter ≡ 2 ^ 64 - 1 = search rules in
    lists_out g.L.LinkState.state c.loop.counter c.args.self.now c.loop.self c.args.listing.now c.loop.listing
    c.loop.invariant all
