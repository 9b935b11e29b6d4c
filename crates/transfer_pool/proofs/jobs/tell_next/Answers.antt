use Rattle.std.proofs.Common.{Ok, subst}
use Rattle.std.specs.Prelude.{Option}
use Rattle.transfer_pool.specs.declared.copy_job.Copied.{Copied}
use Rattle.transfer_pool.specs.Copies.{NextEnded}
use Rattle.transfer_pool.proofs.jobs.tell_next.Goals as goal

pub returns-in-Some : goal.returns-in-Some
returns-in-Some g c =
    let ended = subst (λ (x : Option (Copied g.row.J-File.Denot)). NextEnded g.L.LinkState.state g.J.File.LocalFile.done
    g.J.File.LocalFile.history (record { session = c.args.sftp.now; running = c.args.copier.now.running })
    (record { session = c.next_ended.new.sftp; running = c.next_ended.new.self.running }) (Ok x)) c.in-Some.is
    c.in-Ok.ensures.ended in
    record {
      going = c.in-Ok.ensures.going;
      together = c.in-Ok.ensures.together;
      did =
          (c.in-Some.copied, ended, c.tell.ensures);
    }
