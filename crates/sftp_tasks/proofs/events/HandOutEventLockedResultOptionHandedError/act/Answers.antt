use Rattle.sftp_tasks.proofs.HoldLaws.{handing_from, handing_goes}
use Rattle.sftp_tasks.proofs.events.HandOutEventLockedResultOptionHandedError.act.Goals as goal

pub returns-clause-goes : goal.returns-clause-goes
returns-clause-goes c =
    let y = c.args.value.now in
    let z = c.hand_out.new.self in
    handing_goes c.args.lane y z c.hand_out.result c.hand_out.ensures.rest
    (handing_from y z c.hand_out.result c.hand_out.ensures.rest c.hand_out.ensures.hands_out
    c.hand_out.ensures.counts c.hand_out.ensures.frames c.hand_out.ensures.refused)
