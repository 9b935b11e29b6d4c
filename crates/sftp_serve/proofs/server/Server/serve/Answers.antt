use Rattle.std.proofs.Common.{◌≡◌, length, ap, sym, ◌∙◌}
use Rattle.sftp_serve.specs.Stream.{ServedState, choice_for}
use Rattle.sftp_serve.proofs.Fitting.{chosen_reply}
use Rattle.sftp_serve.proofs.HandleCounts.{counts_after}
use Rattle.sftp_serve.proofs.server.Server.serve.Goals as goal

pub shown_frame-requires : goal.shown_frame-requires
shown_frame-requires c =
    rw (c.reply.ensures, c.in_ok-answered.ensures.reply)
    (chosen_reply c.self.inside.machine c.args.request.now _ c.choice-choice.result
    c.grant_count-count.ensures.consistent.fit c.choice-choice.ensures)

pub invariant_of-self-2 : goal.invariant_of-self-2
invariant_of-self-2 c =
    let machine = c.self.inside.machine in
    let chosen : c.choice-choice.result ≡ choice_for (length machine.tree.handles) c.args.request.now =
    c.choice-choice.ensures ∙ ap (λ (s : ServedState). choice_for (length s.machine.tree.handles) c.args.request.now)
    (sym c.self.view_is) in
    rw c.count_after-handle_count.ensures
    (counts_after machine c.commit.new.self c.args.request.now c.self.inside.handle_count c.choice-choice.result
    c.reply-2.result.now c.self.invariant c.requires chosen
    (c.reply-2.ensures ∙ c.in_ok-answered.ensures.reply) (c.in_ok-commit.ensures.left ∙ c.in_ok-answered.ensures.left))
