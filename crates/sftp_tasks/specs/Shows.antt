-- believed
-- The view of the locked value.
use Rattle.session_seats.specs.declared.view.Counts.{Counts}
use Rattle.session_seats.specs.Sights.{Shown}
use Rattle.session_work.specs.Working.{past_of}
use Rattle.sftp_tasks.specs.declared.locked.Locked.{Locked}
use Rattle.sftp_tasks.specs.Phases.{phase_number}

-- The counts of the locked value, and the number of its session's phase.
abbrev pub counts_of : Locked → Counts
counts_of y = record {
  handed = y.counts.handed;
  written = y.counts.written;
  taken = y.counts.taken;
  stage = y.counts.stage;
  phase = phase_number y.session.phase;
}

abbrev pub shown_of : Locked → Shown
shown_of y =
    record {
      past = past_of y.session.work;
      lanes = y.session.lanes;
      options = y.session.options;
      version = y.session.version;
      counts = counts_of y;
      users = y.users;
      seated = y.seated;
    }
