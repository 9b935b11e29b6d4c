use Rattle.std.proofs.Common.{◌≡◌, ◌<◌, ◌-◌, [], length}
use Rattle.std.specs.Prelude.{MatchBool}
use Rattle.sftp_link.specs.Told.{IfLogged}
use Rattle.sftp_serve.specs.Serving.{IsUnrefused}
use Rattle.sftp_serve.proofs.Steps.{PartCame}
use Rattle.sftp_serve.proofs.engine.take_frame.Given as goal

abbrev pub invariant-loop-reader : goal.invariant-loop-reader
invariant-loop-reader g l = record {
  good : IsUnrefused l.reader;
  begun : MatchBool l.begun (0 < length l.reader.bytes) (l.reader.bytes ≡ []);
  room : length l.room ≡ length l.initial.room;
  faults : (g.L.LinkState.state l.link).faults ≡ (g.L.LinkState.state l.initial.link).faults;
  goes : IfLogged (PartCame l.reader.bytes) (g.L.LinkState.state l.initial.link).log (g.L.LinkState.state l.link).log;
}

abbrev pub decreases-loop-reader : goal.decreases-loop-reader
decreases-loop-reader g l = 1048579 - length l.reader.bytes
