use Rattle.mirror_jobs.proofs.WrittenLaws.{components_led, components_written, plain_components}
use Rattle.mirror_jobs.proofs.laws.written_names_denote_themselves.Goals as goal

pub returns : goal.returns
returns c = record { plain = plain_components; written = components_written; led = components_led }
