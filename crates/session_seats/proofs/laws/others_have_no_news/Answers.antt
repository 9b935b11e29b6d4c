use Rattle.session_seats.proofs.WakeLaws.{lane_quiet, reader_quiet, sender_quiet}
use Rattle.session_seats.proofs.laws.others_have_no_news.Goals as goal

pub returns-clause-sender : goal.returns-clause-sender
returns-clause-sender c = sender_quiet

pub returns-clause-reader : goal.returns-clause-reader
returns-clause-reader c = reader_quiet

pub returns-clause-lane : goal.returns-clause-lane
returns-clause-lane c = lane_quiet
