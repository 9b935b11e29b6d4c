use Rattle.std.proofs.Common.{refl, rules}
use Rattle.sftp_file.specs.Gathers.{ReadAllValue, reading_all}
use Rattle.sftp_client.proofs.Moving.{moved_at}
use Rattle.sftp_client.proofs.WholeWaiting.{finished_bytes}
use Rattle.sftp_client.proofs.sftp.Sftp.finish_bytes.Goals as goal

pub returns : goal.returns
returns g c =
    let moved = moved_at reading_all (λ (m : ReadAllValue). m.file) (λ m next same. same.0) 0 g.L.LinkState.state
    c.args.self.now
    c.run-answer.new.self c.args.call c.run-answer.new.call c.args.file.now c.stand.new.self c.run-answer.result
    c.requires.may.stands (search rules) c.run-answer.ensures in
    finished_bytes g.L.LinkState.state c.args.self.now c.run-answer.new.self _ _ c.args.call c.run-answer.new.call
    c.args.file.now c.stand.new.self c.run-answer.result c.with_bytes.result c.cancel_read_all-got.result.items
    c.run-answer.ensures
    c.self.view_is c.cancel_read_all-got.ensures.cancels refl c.cancel_read_all-got.ensures.bytes c.with_bytes.ensures
    (record { stands = moved.0; rest = moved.1 })
