use Rattle.std.proofs.Common.{rules, sym, subst, IsTrue}
use Rattle.sftp_core.specs.Core.{Core, record_at, is_ticket}
use Rattle.plan_state.specs.Keeping.{KeepsGrants}
use Rattle.plan_state.proofs.OthersKept.{cancelled_keeps_grants}
use Rattle.sftp_fs.proofs.read_dir.give_up.Goals as goal

pub returns-in-Some-clause-grants : goal.returns-in-Some-clause-grants
returns-in-Some-clause-grants c =
    let counted : IsTrue (is_ticket (record_at c.args.core.now c.in-Some.ticket)) = search rules in
    subst (λ (x : Core). KeepsGrants c.args.core.now x) (sym c.abandon.ensures)
    (cancelled_keeps_grants c.args.core.now c.in-Some.ticket counted)
