use Rattle.sftp_share.proofs.Differing.{run_by_0, run_by_7, whole_by_0_or_7}
use Rattle.sftp_share.proofs.laws.a_difference_is_told.Goals as goal

pub returns-clause-differs : goal.returns-clause-differs
returns-clause-differs g c = run_by_7 g.P.Out.LinkState.Service g.P.In.LinkState.Service

pub returns-clause-serves : goal.returns-clause-serves
returns-clause-serves g c = run_by_0 g.P.Out.LinkState.Service g.P.In.LinkState.Service

pub returns-clause-only : goal.returns-clause-only
returns-clause-only g c = whole_by_0_or_7 g.P.Out.LinkState.Service g.P.In.LinkState.Service
