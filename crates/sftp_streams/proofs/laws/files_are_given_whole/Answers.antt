use Rattle.sftp_streams.proofs.OneFile.{run_of_file, whole_file}
use Rattle.sftp_streams.proofs.laws.files_are_given_whole.Goals as goal

pub returns : goal.returns
returns c = record {
  run = λ n file pieces first next given are reached. (run_of_file n file pieces first next given are reached).1;
  whole = whole_file;
}
