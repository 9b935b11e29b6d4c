use Rattle.std.proofs.Common.{refl}
use Rattle.sftp_share.specs.Replays.{machine_of}
use Rattle.sftp_share.proofs.HelloLaws.{no_hello}
use Rattle.sftp_share.proofs.ServedLaws.{serves_sent}
use Rattle.sftp_share.proofs.replay_laws.replays_serve.Goals as goal

pub returns-clause-hello : goal.returns-clause-hello
returns-clause-hello c = no_hello

pub returns-clause-serves : goal.returns-clause-serves
returns-clause-serves c =
    λ script s past machine j e few over. serves_sent (machine_of script) script.choices s past machine refl refl j e
    few over
