use Rattle.std.proofs.Common.{inr}
use Rattle.sftp_streams.proofs.download.Download.fill.Goals as goal

pub returns-in-Ok-clause-fills : goal.returns-in-Ok-clause-fills
returns-in-Ok-clause-fills c = inr (inr (
  c.ask_rest.new.core,
  c.ask_rest.new.self,
  c.in-Ok.ensures.ok,
  c.ask_more-in-Ok.ensures.asks,
))
