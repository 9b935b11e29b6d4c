-- Which entries send and take nothing.
use Rattle.std.proofs.Common.{◌≡◌, ℕ, true, true≢false, refl, sym, Option}
use Rattle.session_model.specs.declared.entry.Entry.{Entry}
use Rattle.session_model.specs.declared.entry.Entry.TheVariants as entry
use Rattle.session_model.specs.declared.event.Event.TheVariants.{Send, Take}
use Rattle.sftp_tasks.specs.Entries.{by_flush, by_let_go, by_nothing, by_read, by_step}
use Rattle.sftp_tasks.specs.Opening.{by_opening}
use Rattle.session_threads.specs.Running.{moves_none, sends_none, takes_none}

pub nothing_moves : (lane : Option ℕ) (e : Entry) → by_nothing lane e ≡ true → moves_none e ≡ true
nothing_moves lane e h = absurd (true≢false (sym h))

pub step_moves : (lane : Option ℕ) (e : Entry) → by_step lane e ≡ true → moves_none e ≡ true
step_moves lane (entry.Event Send) h = absurd (true≢false (sym h))
step_moves lane (entry.Event (Take id r)) h = absurd (true≢false (sym h))
step_moves lane (entry.Event other) h = refl
step_moves lane (entry.Added l call) h = refl
step_moves lane (entry.LetGo l) h = refl
step_moves lane (entry.Kept f) h = refl

pub let_go_moves : (lane : Option ℕ) (e : Entry) → by_let_go lane e ≡ true → moves_none e ≡ true
let_go_moves lane (entry.Event Send) h = absurd (true≢false (sym h))
let_go_moves lane (entry.Event (Take id r)) h = absurd (true≢false (sym h))
let_go_moves lane (entry.Event other) h = refl
let_go_moves lane (entry.Added l call) h = refl
let_go_moves lane (entry.LetGo l) h = refl
let_go_moves lane (entry.Kept f) h = refl

pub opening_moves : (lane : Option ℕ) (e : Entry) → by_opening lane e ≡ true → moves_none e ≡ true
opening_moves lane (entry.Event Send) h = absurd (true≢false (sym h))
opening_moves lane (entry.Event (Take id r)) h = absurd (true≢false (sym h))
opening_moves lane (entry.Event other) h = refl
opening_moves lane (entry.Added l call) h = refl
opening_moves lane (entry.LetGo l) h = refl
opening_moves lane (entry.Kept f) h = refl

pub flush_takes : (lane : Option ℕ) (e : Entry) → by_flush lane e ≡ true → takes_none e ≡ true
flush_takes lane (entry.Event (Take id r)) h = absurd (true≢false (sym h))
flush_takes lane (entry.Event other) h = refl
flush_takes lane (entry.Added l call) h = refl
flush_takes lane (entry.LetGo l) h = refl
flush_takes lane (entry.Kept f) h = refl

pub read_sends : (lane : Option ℕ) (e : Entry) → by_read lane e ≡ true → sends_none e ≡ true
read_sends lane (entry.Event Send) h = absurd (true≢false (sym h))
read_sends lane (entry.Event other) h = refl
read_sends lane (entry.Added l call) h = refl
read_sends lane (entry.LetGo l) h = refl
read_sends lane (entry.Kept f) h = refl

pub moves_takes : (e : Entry) → moves_none e ≡ true → takes_none e ≡ true
moves_takes (entry.Event (Take id r)) h = absurd (true≢false (sym h))
moves_takes (entry.Event other) h = refl
moves_takes (entry.Added l call) h = refl
moves_takes (entry.LetGo l) h = refl
moves_takes (entry.Kept f) h = refl

pub moves_sends : (e : Entry) → moves_none e ≡ true → sends_none e ≡ true
moves_sends (entry.Event Send) h = absurd (true≢false (sym h))
moves_sends (entry.Event other) h = refl
moves_sends (entry.Added l call) h = refl
moves_sends (entry.LetGo l) h = refl
moves_sends (entry.Kept f) h = refl
