use Rattle.run_laws.proofs.WholeRunSent.{answered_run_sent, whole_run_sent}
use Rattle.run_laws.proofs.journals.requests_of_whole_runs_were_sent.Goals as goal

pub returns : goal.returns
returns c = record { answered = answered_run_sent; whole = whole_run_sent }
