use Rattle.sftp_cli.proofs.ScriptLaws.{lane_count, call_counts, turn_count, choice_count, pick_count}
use Rattle.sftp_cli.proofs.bulk_laws.bulk_scripts_are_whole.Goals as goal

pub returns : goal.returns
returns c = record {
  lanes = lane_count;
  calls = call_counts;
  turns = turn_count;
  choices = choice_count;
  picks =
      pick_count;
}
