use Rattle.std.proofs.Common.{rules}
use Rattle.sftp_file.specs.Copies.{CopyValue, copy_meaning}
use Rattle.sftp_client.proofs.Moving.{moved_at}
use Rattle.sftp_client.proofs.sftp.Sftp.wait_copy.Goals as goal

pub returns : goal.returns
returns g c =
    let source = moved_at copy_meaning (λ (m : CopyValue). m.source) (λ m next same. same.0) 0 g.L.LinkState.state
    c.args.self.now
    c.run-answer.new.self c.args.call.now c.run-answer.new.call c.args.from.now c.stand.new.self c.run-answer.result
    c.requires.may.source (search rules) c.run-answer.ensures in
    let target = moved_at copy_meaning (λ (m : CopyValue). m.target) (λ m next same. same.1) 1 g.L.LinkState.state
    c.args.self.now
    c.run-answer.new.self c.args.call.now c.run-answer.new.call c.args.to.now c.stand-2.new.self c.run-answer.result
    c.requires.may.target (search rules) c.run-answer.ensures in
    record {
      waited = c.run-answer.ensures;
      source = record { stands = source.0; rest = source.1 };
      target = record { stands = target.0; rest = target.1 };
    }
