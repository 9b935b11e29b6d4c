use Rattle.std.proofs.Common.{◌∙◌, ℕ, List, ap, sym, subst}
use Rattle.std.specs.Prelude.{Ok}
use Rattle.ssh_channel.specs.Channels.{SendsWhole}
use Rattle.ssh_channel.specs.Messages.{packet, subsystem_message}
use Rattle.ssh_channel.proofs.Openings.{starts_subsystem}
use Rattle.ssh_channel.proofs.handshake.start_subsystem.Goals as goal

pub returns-in-Granted : goal.returns-in-Granted
returns-in-Granted g c =
    starts_subsystem g.L.LinkState.state c.args.name.now c.args.channel.now c.send_whole.new.self c.wait_for.new.self
    (subst (λ (w : List ℕ). SendsWhole g.L.LinkState.state w c.args.channel.now c.send_whole.new.self (Ok tt))
    (c.deref.ensures.value ∙ (c.in_ok-request.ensures
    ∙ ap (λ (k : ℕ). packet (subsystem_message k c.args.name.now)) c.peer_number.ensures)) c.in-Ok.ensures)
    c.in-Ok-wait_for.ensures.receives
    c.in-Ok-wait_for.ensures.keeps
    (sym c.reply.ensures ∙ c.in-Granted.is)
