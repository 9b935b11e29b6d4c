-- believed: Outside
-- The environment of a run: the records of the source, the sink and the dial.
use Rattle.std.specs.Prelude.{◌<◌, ◌-◌, ◌^◌}
use Rattle.sftp_link.specs.Views.{DialView, SinkView, SourceView}

pub record Outside (History : Type 0) : Type 0 where
  pub source : SourceView
  pub sink : SinkView
  pub dial : DialView History

-- Each of them may fail another time before its count of faults is at its end.
pub record MayFail {History : Type 0} (outside : Outside History) : Type 0 where
  pub source : outside.source.faults < 2 ^ 64 - 1
  pub sink : outside.sink.faults < 2 ^ 64 - 1
  pub dial : outside.dial.faults < 2 ^ 64 - 1
