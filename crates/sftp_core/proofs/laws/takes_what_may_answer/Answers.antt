use Rattle.sftp_model.specs.Answers.{expected_of}
use Rattle.sftp_core.specs.Core.{record_at}
use Rattle.sftp_core.proofs.Records.{accepted}
use Rattle.sftp_core.proofs.laws.takes_what_may_answer.Goals as goal

pub returns : goal.returns
returns c = λ core id request reply is right. accepted id reply (expected_of request) (record_at core id) is right
