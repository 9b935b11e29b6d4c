use Rattle.std.proofs.lemmas.Result.{on_err_weaker}
use Rattle.session_work.proofs.AddedLaws.{on_ok}
use Rattle.sftp_lanes.proofs.Shown.{failed_left}
use Rattle.sftp_lanes.proofs.session.SessionRunsLanes.greet.Goals as goal

pub returns-clause-left : goal.returns-clause-left
returns-clause-left c = on_err_weaker c.hand_hello.result (λ f. failed_left _ _ f) c.hand_hello.ensures.left

pub returns-clause-now : goal.returns-clause-now
returns-clause-now c = on_ok c.hand_hello.result _ _ (λ g. g.greeted) c.hand_hello.ensures.hands
