use Rattle.sftp_tasks.proofs.OpeningLaws.{hello_goes}
use Rattle.sftp_tasks.proofs.hello.HandHelloEventLockedResultOptionHandedError.act.Goals as goal

pub returns-clause-goes : goal.returns-clause-goes
returns-clause-goes c =
    hello_goes c.args.lane c.args.value.now c.hand_hello.new.self c.hand_hello.result c.hand_hello.ensures.rest
    c.hand_hello.ensures.hands
