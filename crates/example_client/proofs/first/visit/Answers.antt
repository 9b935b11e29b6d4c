use Rattle.example_client.proofs.first.visit.Goals as goal

pub returns-in_ok-entries-in-Ok : goal.returns-in_ok-entries-in-Ok
returns-in_ok-entries-in-Ok g c =
    record {
      written = c.write_file.new.self;
      opened = c.open.new.self;
      read = c.read.new.self;
      closed = c.close_file.new.self;
      before = c.in_ok-file.file;
      after = c.read.new.file;
      writes = c.in_ok-write_file.ensures;
      opens = c.in_ok-file.ensures;
      reads = c.in-Ok.ensures;
      closes = c.in_ok-close_file-in-Ok.ensures;
      lists = c.in_ok-entries-in-Ok.ensures.lists;
    }
