use Rattle.std.proofs.Common.{◌≡◌, ◌-◌, ◌^◌, ◌∙◌, ℕ, Ok, ap, subst, rules}
use Rattle.sftp_core.specs.Core.{kept_of}
use Rattle.sftp_client.specs.Sessions.{SftpValue}
use Rattle.sftp_client.specs.WholeWaits.{MayRound}
use Rattle.link_frames.proofs.Joining.{escaped}
use Rattle.sftp_client.proofs.WholeWaiting.{reads_end, reads_next, reads_out, reads_stop}
use Rattle.sftp_client.proofs.sftp.Sftp.wait_read.Goals as goal

pub returns-in-Ready : goal.returns-in-Ready
returns-in-Ready g c =
    reads_end g.L.LinkState.state c.loop.counter c.args.self.now c.loop.self c.poll_read.new.self c.args.call.now
    c.loop.call c.poll_read.new.call c.in-Ready.value c.loop.invariant c.in-Ready.ensures

pub returns-in_err-round_where-in-Pending : goal.returns-in_err-round_where-in-Pending
returns-in_err-round_where-in-Pending g c =
    rw (escaped c.from_residual.result c.in_err-round_where-in-Pending.field-0.0 c.from_residual.ensures.1)
    (reads_stop g.L.LinkState.state c.loop.counter c.args.self.now c.loop.self c.poll_read.new.self
    c.round_where.new.self
    c.args.call.now c.loop.call c.poll_read.new.call c.in_err-round_where-in-Pending.field-0.0 c.loop.invariant
    c.in-Pending.ensures
    c.in_err-round_where-in-Pending.ensures)

pub loop-preserved : goal.loop-preserved
loop-preserved g c =
    let kept : c.kept-kept.result ≡ kept_of c.loop.self.core =
    c.kept-kept.ensures ∙ ap (λ (s : SftpValue _). kept_of s.core) c.self.view_is in
    reads_next g.L.LinkState.state c.loop.counter c.args.self.now c.loop.self c.poll_read.new.self
    c.round_where.new.self
    c.args.call.now c.loop.call c.poll_read.new.call c.loop.invariant c.in-Pending.ensures
    (subst (λ (n : ℕ). MayRound g.L.LinkState.state n c.poll_read.new.self c.round_where.new.self (Ok tt)) kept
    c.in_ok-round_where-in-Pending.ensures)

pub returns : goal.returns
returns g c =
    let all : c.loop.counter ≡ 2 ^ 64 - 1 = search rules in
    reads_out g.L.LinkState.state c.loop.counter c.args.self.now c.loop.self c.args.call.now c.loop.call
    c.loop.invariant all
