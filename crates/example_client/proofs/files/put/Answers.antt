use Rattle.std.proofs.Common.{subst}
use Rattle.sftp_file.specs.Closes.{ReleasesFile}
use Rattle.sftp_client.specs.Calls.{ClosesHandle, IsNoneOfFile}
use Rattle.example_client.proofs.Answered.{where_done}
use Rattle.example_client.proofs.files.put.Goals as goal

pub returns-in-Ok : goal.returns-in-Ok
returns-in-Ok g c =
    where_done c.close_file.result (λ done is. record {
      opened = c.create.new.self;
      written = c.write_all.new.self;
      before = c.in_ok-file.file;
      after = c.write_all.new.file;
      opens = c.in_ok-file.ensures;
      writes = c.in-Ok.ensures;
      closes = subst (λ r. ClosesHandle (ReleasesFile c.write_all.new.file) (IsNoneOfFile c.write_all.new.file)
          g.L.LinkState.state c.write_all.new.self c.close_file.new.self r) is c.close_file.ensures;
    })
