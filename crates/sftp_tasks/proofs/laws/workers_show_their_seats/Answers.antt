use Rattle.sftp_tasks.proofs.SentRounds.{flush_wrote}
use Rattle.sftp_tasks.proofs.TakenRounds.{read_got}
use Rattle.sftp_tasks.proofs.laws.workers_show_their_seats.Goals as goal

pub returns-clause-sends : goal.returns-clause-sends
returns-clause-sends g c = flush_wrote

pub returns-clause-takes : goal.returns-clause-takes
returns-clause-takes g c = read_got
