-- Worked examples of the rest of the plan of a started call. Writes take 2 bytes each.
use Rattle.std.specs.Prelude.{ℕ, ◌≡◌, false, true, List, [], ◌∷◌, codes, Some, None, refl}
use Rattle.sftp_model.specs.declared.request.Request.TheVariants as request
use Rattle.sftp_model.specs.declared.outcome.Outcome.TheVariants as outcome
use Rattle.sftp_model.specs.declared.reply.Reply.TheVariants as reply
use Rattle.sftp_model.specs.declared.slot.Facts.{Facts}
use Rattle.sftp_model.specs.declared.slot.Move.TheVariants.{Ask, Wait, Done}
use Rattle.sftp_model.specs.Answers.{status}
use Rattle.sftp_model.specs.Slots.{fresh_site}
use Rattle.plan_model.specs.PlanWords.{after_handle, at, bare, buffered, facts, file_at, handle, refused_with, write_at}
use Rattle.plan_window.specs.declared.window.Answered.{Answered}
use Rattle.plan_window.specs.declared.window.ReadAt.{ReadAt}
use Rattle.plan_window.specs.Windows.{Window}
use Rattle.plan_runner.specs.declared.next.Asked.TheVariants as asked
use Rattle.plan_runner.specs.declared.next.EndsBy.TheVariants as by
use Rattle.plan_runner.specs.declared.next.Running.TheVariants as running
use Rattle.plan_runner.specs.Runners.{request_with_handles, idle, residual}
use Rattle.plan_runner.specs.Cancelling.{left_behind}

-- A request has the handle that its grant brought.
pub filled_by_grant : request_with_handles (asked.Read 0 5 4) (after_handle []) ≡ request.Read handle 5 4
filled_by_grant = refl

-- ---- A call that its reply ends

pub ending_waits : residual (running.Ending 1 by.Status) [] fresh_site bare [] (after_handle []) ≡ Wait 1
ending_waits = refl

pub ending_idle : idle (running.Ending 1 by.Status) [] fresh_site bare [] (after_handle []) ≡ Wait 1
ending_idle = refl

pub ending_done : residual (running.Ending 1 by.Status) [] fresh_site bare [] (after_handle (status 0 ∷ []))
    ≡ Done outcome.Done fresh_site
ending_done = refl

pub ending_refused : residual (running.Ending 1 by.Status) [] fresh_site bare [] (after_handle (status 3 ∷ []))
    ≡ Done (refused_with 3) fresh_site
ending_refused = refl

-- ---- A write of all: the part of the bytes from 0 on awaits its reply

pub part_waits : residual (running.Writing 1 (Some 0) (file_at 0 true true 5) 0) (codes "abc") (at 5) bare []
    (after_handle []) ≡ Wait 1
part_waits = refl

pub part_then_rest : residual (running.Writing 1 (Some 0) (file_at 0 true true 5) 0) (codes "abc") (at 5) bare []
    (after_handle (status 0 ∷ [])) ≡ Ask (request.Write handle 7 (codes "c"))
part_then_rest = refl

pub part_refused : residual (running.Writing 1 (Some 0) (file_at 0 true true 5) 0) (codes "abc") (at 5) bare []
    (after_handle (status 4 ∷ [])) ≡ Done (refused_with 4) (at 5)
part_refused = refl

-- A file in no slot changes none.
pub part_of_whole : residual (running.Writing 1 None (file_at 0 true true 5) 0) (codes "ab") fresh_site bare []
    (after_handle (status 0 ∷ [])) ≡ Done outcome.Done fresh_site
part_of_whole = refl

-- Cancelled after the request of the rest: the file's offset is the one at which that was asked.
pub part_cancelled : left_behind (running.Writing 1 (Some 0) (file_at 0 true true 5) 0) (codes "abc") (at 5) bare
    (write_at 2 7 (codes "c") ∷ []) (after_handle (status 0 ∷ [])) ≡ at 7
part_cancelled = refl

-- ---- A flush of two deferred writes

pub flush_waits : residual (running.Flushing 0) [] (buffered 5 [] ((1, 2) ∷ (2, 1) ∷ []) None) bare [] (after_handle [])
    ≡ Wait 1
flush_waits = refl

pub flush_goes_on : residual (running.Flushing 0) [] (buffered 5 [] ((1, 2) ∷ (2, 1) ∷ []) None) bare []
    (after_handle (status 0 ∷ [])) ≡ Wait 2
flush_goes_on = refl

-- The refused write was taken out too.
pub flush_refused : residual (running.Flushing 0) [] (buffered 5 [] ((1, 2) ∷ (2, 1) ∷ []) None) bare []
    (after_handle (status 4 ∷ [])) ≡ Done (refused_with 4) (buffered 5 [] ((2, 1) ∷ []) None)
flush_refused = refl

pub flush_cancelled : left_behind (running.Flushing 0) [] (buffered 5 [] ((1, 2) ∷ (2, 1) ∷ []) None) bare []
    (after_handle (status 0 ∷ [])) ≡ buffered 5 [] ((2, 1) ∷ []) None
flush_cancelled = refl

-- ---- A buffered write at a full window, and after its WRITE

pub room_waits : residual (running.AwaitingRoom 0 None) (codes "abc") (buffered 5 [] ((1, 2) ∷ (2, 2) ∷ []) None) bare
    [] (after_handle []) ≡ Wait 1
room_waits = refl

pub room_made : residual (running.AwaitingRoom 0 None) (codes "abc") (buffered 5 [] ((1, 2) ∷ (2, 2) ∷ []) None) bare []
    (after_handle (status 0 ∷ [])) ≡ Ask (request.Write handle 5 (codes "ab"))
room_made = refl

pub room_refused : residual (running.AwaitingRoom 0 None) (codes "abc") (buffered 5 [] ((1, 2) ∷ (2, 2) ∷ []) None) bare
    [] (after_handle (status 4 ∷ [])) ≡ Done (refused_with 4) (buffered 5 [] ((2, 2) ∷ []) None)
room_refused = refl

pub room_for_rest : residual (running.AwaitingRoom 0 (Some 2)) (codes "abc") (buffered 5 [] ((1, 2) ∷ (2, 2) ∷ []) None)
    bare [] (after_handle (status 0 ∷ [])) ≡ Ask (request.Write handle 5 (codes "c"))
room_for_rest = refl

-- Cancelled after its WRITE: the oldest status was taken, and the WRITE is deferred.
pub room_cancelled : left_behind (running.AwaitingRoom 0 None) (codes "abc") (buffered 5 [] ((1, 2) ∷ (2, 2) ∷ []) None)
    bare (write_at 3 5 (codes "ab") ∷ []) (after_handle (status 0 ∷ [])) ≡ buffered 7 [] ((2, 2) ∷ (3, 2) ∷ []) None
room_cancelled = refl

pub deferred_done : residual (running.Deferred 0 2) (codes "abc") (buffered 7 [] ((1, 2) ∷ []) None) bare []
    (after_handle []) ≡ Done (outcome.Count 2) (buffered 7 [] ((1, 2) ∷ []) None)
deferred_done = refl

pub rest_deferred : residual (running.DeferringRest 0 2) (codes "abc") (buffered 7 [] ((1, 2) ∷ []) None) bare []
    (after_handle []) ≡ Ask (request.Write handle 7 (codes "c"))
rest_deferred = refl

pub rest_done : residual (running.DeferringRest 0 3) (codes "abc") (buffered 8 [] ((1, 2) ∷ (2, 1) ∷ []) None) bare []
    (after_handle []) ≡ Done outcome.Done (buffered 8 [] ((1, 2) ∷ (2, 1) ∷ []) None)
rest_done = refl

-- ---- A READ that fills a buffer

pub fill_waits : residual (running.FillingBuffer 0 2 5 true) [] (buffered 5 [] [] (Some 1)) bare [] (after_handle [])
    ≡ Wait 1
fill_waits = refl

-- The bytes that were not asked for stay in the buffer.
pub fill_gives : residual (running.FillingBuffer 0 2 5 true) [] (buffered 5 [] [] (Some 1)) bare []
    (after_handle (reply.Content (codes "abcd") ∷ [])) ≡ Done (outcome.Bytes (codes "ab"))
    (buffered 7 (codes "cd") [] None)
fill_gives = refl

pub fill_ended : residual (running.FillingBuffer 0 2 5 true) [] (buffered 5 [] [] (Some 1)) bare []
    (after_handle (status 1 ∷ [])) ≡ Done outcome.End (buffered 5 [] [] None)
fill_ended = refl

pub fill_refused : residual (running.FillingBuffer 0 2 5 true) [] (buffered 5 [] [] (Some 1)) bare []
    (after_handle (status 4 ∷ [])) ≡ Done (refused_with 4) (buffered 5 [] [] None)
fill_refused = refl

-- Cancelled: the READ stays in flight, whether or not it is the call's own.
pub fill_cancelled : left_behind (running.FillingBuffer 0 2 5 true) [] (buffered 5 [] [] (Some 1)) bare []
    (after_handle (reply.Content (codes "abcd") ∷ [])) ≡ buffered 5 [] [] (Some 1)
fill_cancelled = refl

pub wait_cancelled : left_behind (running.FillingBuffer 0 2 5 false) [] (buffered 5 [] [] (Some 1)) bare []
    (after_handle []) ≡ buffered 5 [] [] (Some 1)
wait_cancelled = refl

-- ---- A whole read: two READs of 4 bytes each may be in flight

abbrev two : Facts
two = facts 0 4 2 4 2

-- A READ of 4 bytes at a place.
abbrev four_at : ℕ → ℕ → ReadAt
four_at place offset = record { place = place; offset = offset; len = 4 }

abbrev window_of : List Answered → List ReadAt → Window
window_of answered waiting = record { answered = answered; waiting = waiting }

pub whole_widens : idle (running.ReadingWhole 0 6 (window_of [] (four_at 1 0 ∷ []))) [] fresh_site two []
    (after_handle []) ≡ Ask (request.Read handle 4 4)
whole_widens = refl

pub whole_waits : idle (running.ReadingWhole 0 6 (window_of [] (four_at 1 0 ∷ four_at 2 4 ∷ []))) [] fresh_site two []
    (after_handle []) ≡ Wait 1
whole_waits = refl

pub whole_ended : residual (running.ReadingWhole 0 6 (window_of
    (record { read = four_at 1 0; reply = reply.Content (codes "abcd") } ∷ []) (four_at 2 4 ∷ []))) [] fresh_site two []
    (after_handle (reply.Content (codes "abcd") ∷ status 1 ∷ []))
    ≡ Done (outcome.Bytes (codes "abcd")) fresh_site
whole_ended = refl

-- A refusal ends the call, although another READ is in flight.
pub whole_refused : residual (running.ReadingWhole 0 6 (window_of [] (four_at 1 0 ∷ four_at 2 4 ∷ []))) [] fresh_site
    two [] (after_handle (status 4 ∷ [])) ≡ Done (refused_with 4) fresh_site
whole_refused = refl
