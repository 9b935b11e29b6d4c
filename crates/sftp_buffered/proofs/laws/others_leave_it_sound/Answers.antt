use Rattle.sftp_buffered.proofs.Keeping.{cancelled_sound, kept_sound, left_sound, polled_sound, released_sound, retained_sound}
use Rattle.sftp_buffered.proofs.laws.others_leave_it_sound.Goals as goal

pub returns : goal.returns
returns c = record {
  kept = kept_sound;
  polled = polled_sound;
  cancelled = cancelled_sound;
  released = released_sound;
  retained = retained_sound;
  left = left_sound;
}
