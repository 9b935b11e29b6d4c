use Rattle.std.proofs.Common.{List, subst}
use Rattle.sftp_core.specs.Core.{Core}
use Rattle.sftp_fs_read.specs.WholeReads.{CancelsRead}
use Rattle.example_client.specs.Downloads.{AreReadsHeld}
use Rattle.example_client.specs.declared.downloads.Reading.{Reading}
use Rattle.example_client.proofs.ReadsApart.{reads_less}
use Rattle.example_client.proofs.downloads.give_up.Goals as goal

pub loop-reading-preserved : goal.loop-reading-preserved
loop-reading-preserved g c =
    reads_less c.loop-reading.sftp.core c.cancel.new.core c.in-Some.reading c.pop_front.new.self.items
    (subst (λ (l : List Reading). AreReadsHeld c.loop-reading.sftp.core l) c.in-Some.ensures.items
    c.loop-reading.invariant)
    (subst (λ (k : Core). CancelsRead k c.cancel.new.core c.in-Some.reading.call.stage) c.core.ensures.value
    c.cancel.ensures)
