use Rattle.std.proofs.Common.{refl, arith}
use Rattle.sftp_cli.proofs.ScriptLaws.{codes_fit, limits_fit}
use Rattle.sftp_cli.proofs.bulk_laws.bulk_servers_may_begin.Goals as goal

pub returns : goal.returns
returns c = record {
  files = λ start lanes calls. refl;
  dirs = λ start lanes calls. refl;
  may = λ start lanes calls. refl;
  known = λ start lanes calls. omega arith;
  limits = λ start lanes calls. limits_fit;
  codes = codes_fit;
}
