use Rattle.std.proofs.Common.{rules, ◌≡◌, ◌<◌, true}
use Rattle.machine_model.specs.TreeAnswers.{apply}
use Rattle.machine_tree.specs.Numbers.{numbered_handle}
use Rattle.machine_answers.specs.Changes.{is_grant}
use Rattle.machine_answers.specs.MachineState.{IsConsistent, MAX_HANDLES, MakesAnswer}
use Rattle.machine_answers.proofs.ReplyLaws.{consistent_committed}
use Rattle.machine_answers.proofs.machine.Machine.find.Goals as goal

pub returns-clause-may : goal.returns-clause-may
returns-clause-may c =
    let state = c.args.self.now in
    let before : IsConsistent state.tree = search rules in
    let makes : MakesAnswer state (c.in_ok-reply.reply, c.in_ok-reply.change)
    (apply state.tree state.config c.args.request.now c.args.choice (numbered_handle state.grants)) = search rules
    in
    let room : is_grant c.in_ok-reply.change ≡ true → state.grants < MAX_HANDLES = search rules in
    record {
      room = room;
      fits = makes.fits;
      within = consistent_committed state c.args.request.now c.args.choice
          (c.in_ok-reply.reply, c.in_ok-reply.change) before makes;
    }
