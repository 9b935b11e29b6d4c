use Rattle.std.proofs.Common.{refl}
use Rattle.sftp_tasks.proofs.EntryLaws.{same_extended, session_goes}
use Rattle.sftp_tasks.proofs.events.LookStageEventLockedResultU64Error.act.Goals as goal

pub returns-clause-goes : goal.returns-clause-goes
returns-clause-goes c =
    session_goes _ c.args.value.now c.args.value.now refl (same_extended _ c.args.value.now.session
    c.args.value.now.session refl)
