use Rattle.sftp_tasks.proofs.HoldLaws.{gives_up_goes}
use Rattle.sftp_tasks.proofs.events.GiveUpEventLockedUnit.act.Goals as goal

pub returns-clause-goes : goal.returns-clause-goes
returns-clause-goes c = gives_up_goes c.args.lane c.args.value.now c.give_up.new.self c.give_up.ensures.rest
    c.give_up.ensures.gives_up
