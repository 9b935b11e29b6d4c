use Rattle.sftp_buffered.specs.Writes.{IsCutOut, IsOnePart}
use Rattle.sftp_buffered.proofs.Staying.{flushes_apart, reads_apart, seeks_apart, writes_apart}
use Rattle.sftp_buffered.proofs.laws.tickets_stay_apart.Goals as goal

pub returns : goal.returns
returns c = record {
  writes = λ bytes old new p q. writes_apart (IsOnePart bytes p) bytes old new p q;
  vectored = λ pieces bytes old new p q. writes_apart (IsCutOut pieces p) bytes old new p q;
  flushes = flushes_apart;
  fills = λ plan o. reads_apart plan o;
  reads = λ plan o. reads_apart plan o;
  seeks = seeks_apart;
}
