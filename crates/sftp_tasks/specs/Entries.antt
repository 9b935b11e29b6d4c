-- Entries that a call of the shared session may add.
use Rattle.std.specs.Prelude.{◌≡◌, ℕ, Bool, true, false, Option, Some, None}
use Rattle.std.proofs.Common.{refl}
use Rattle.session_model.specs.declared.entry.Entry.{Entry}
use Rattle.session_model.specs.declared.entry.Entry.TheVariants as entry
use Rattle.session_model.specs.declared.event.Event.TheVariants.{Submit, Send, Take, Cancel, End}
use Rattle.session_model.specs.declared.event.Owner.TheVariants as owner
use Rattle.sftp_model.specs.declared.request.Request.TheVariants as request
use Rattle.session_seats.specs.Holds.{fits_lane}

-- True if the lane is the seat's.
abbrev pub names : Option ℕ → ℕ → Bool
names lane l = fits_lane (Some l) lane

-- CLOSEs of grants that nothing holds any more, which any call of a lane may leave, and any reply.
abbrev pub by_closing : Entry → Bool
by_closing (entry.Event (Submit owner.Close id r)) = true
by_closing other = false

-- A step of its lane: a request of the call, or its end.
abbrev pub by_step : Option ℕ → Entry → Bool
by_step lane (entry.Event (Submit (owner.Call l call) id r)) = names lane l
by_step lane (entry.Event (End l call o)) = names lane l
by_step lane e = by_closing e

-- A call that is added, and a step.
abbrev pub by_submit : Option ℕ → Entry → Bool
by_submit lane (entry.Added l call) = names lane l
by_submit lane e = by_step lane e

abbrev pub by_cancel : Option ℕ → Entry → Bool
by_cancel lane (entry.Event (Cancel l)) = names lane l
by_cancel lane (entry.Event (End l call o)) = names lane l
by_cancel lane e = by_closing e

abbrev pub by_let_go : Option ℕ → Entry → Bool
by_let_go lane (entry.LetGo l) = names lane l
by_let_go lane e = by_closing e

-- A round that sends: the Send, and the fault if no more could be sent.
abbrev pub by_flush : Option ℕ → Entry → Bool
by_flush lane (entry.Event Send) = true
by_flush lane (entry.Kept fault) = true
by_flush lane e = false

-- A round that reads: the reply, the query for limits after VERSION, and the fault if none was taken.
abbrev pub by_read : Option ℕ → Entry → Bool
by_read lane (entry.Event (Take id r)) = true
by_read lane (entry.Event (Submit owner.Setup id r)) = true
by_read lane (entry.Kept fault) = true
by_read lane e = by_closing e

abbrev pub by_failing : Option ℕ → Entry → Bool
by_failing lane (entry.Kept fault) = true
by_failing lane e = false

abbrev pub by_nothing : Option ℕ → Entry → Bool
by_nothing lane e = false

-- ---- Worked rows

pub steps_its_lane : by_step (Some 1) (entry.Event (Submit (owner.Call 1 0) 7 request.LimitsQuery)) ≡ true
steps_its_lane = refl

pub steps_no_other : by_step (Some 1) (entry.Event (Submit (owner.Call 2 0) 7 request.LimitsQuery)) ≡ false
steps_no_other = refl

pub a_worker_steps_none : by_step None (entry.Event (Submit (owner.Call 0 0) 7 request.LimitsQuery)) ≡ false
a_worker_steps_none = refl

pub submit_sends_nothing : by_submit (Some 1) (entry.Event Send) ≡ false
submit_sends_nothing = refl

pub submit_lets_nothing_go : by_submit (Some 1) (entry.LetGo 1) ≡ false
submit_lets_nothing_go = refl

pub flush_submits_nothing : by_flush None (entry.Event (Submit owner.Close 7 request.LimitsQuery)) ≡ false
flush_submits_nothing = refl

pub read_sends_nothing : by_read None (entry.Event Send) ≡ false
read_sends_nothing = refl
