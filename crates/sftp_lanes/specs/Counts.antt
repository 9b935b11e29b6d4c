-- believed: unsent_in
-- Numbers that a session reports, in each phase that has not failed. Before VERSION the hello is the one frame.
use Rattle.std.specs.Prelude.{ℕ, ◌-◌, List}
use Rattle.session_model.specs.declared.entry.Entry.{Entry}
use Rattle.session_model.specs.Readings.{count_submitted, count_awaited, count_sent, count_unanswered}
use Rattle.session_driver.specs.declared.session.Phase.{Phase}
use Rattle.session_driver.specs.declared.session.Phase.TheVariants.{Fresh, Greeted}

-- The number of frames that were handed out and have no reply.
abbrev pub awaited_in : Phase → List Entry → ℕ
awaited_in Fresh past = 0
awaited_in Greeted past = 1
awaited_in other past = count_awaited past

-- The number of frames that have no reply, handed out or not.
abbrev pub unanswered_in : Phase → List Entry → ℕ
unanswered_in Fresh past = 1
unanswered_in Greeted past = 1
unanswered_in other past = count_unanswered past

-- The number of frames that are handed out next.
abbrev pub unsent_in : Phase → List Entry → ℕ
unsent_in Fresh past = 1
unsent_in other past = count_submitted past - count_sent past
