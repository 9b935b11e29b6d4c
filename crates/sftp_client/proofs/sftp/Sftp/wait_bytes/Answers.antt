use Rattle.std.proofs.Common.{rules}
use Rattle.sftp_file.specs.Gathers.{ReadAllValue, reading_all}
use Rattle.sftp_client.proofs.Moving.{moved_at}
use Rattle.sftp_client.proofs.sftp.Sftp.wait_bytes.Goals as goal

pub returns : goal.returns
returns g c =
    let moved = moved_at reading_all (λ (m : ReadAllValue). m.file) (λ m next same. same.0) 0 g.L.LinkState.state
    c.args.self.now
    c.run-answer.new.self c.args.call.now c.run-answer.new.call c.args.file.now c.stand.new.self c.run-answer.result
    c.requires.may.stands (search rules) c.run-answer.ensures in
    record {
      last = c.run-answer.new.call;
      answer = c.run-answer.result;
      waited = c.run-answer.ensures;
      gives = c.read_all_answer.ensures.gives;
      left = c.read_all_answer.ensures.left;
      moved = record { stands = moved.0; rest = moved.1 };
    }
