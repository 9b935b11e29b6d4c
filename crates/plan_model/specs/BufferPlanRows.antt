-- Worked examples of the calls on buffered files, each beside a case that nearly is one. Writes take 2 bytes each, and
-- 4 bytes may be pending.
use Rattle.std.specs.Prelude.{ℕ, ◌≡◌, ◌-◌, ◌^◌, true, false, List, [], ◌∷◌, codes, Some, None, refl}
use Rattle.sftp_model.specs.declared.reply.Reply.{Reply}
use Rattle.sftp_model.specs.declared.reply.Reply.TheVariants as reply
use Rattle.sftp_model.specs.declared.request.Request.TheVariants as request
use Rattle.sftp_model.specs.declared.outcome.Outcome.TheVariants as outcome
use Rattle.sftp_model.specs.declared.error.IoKind.TheVariants as kind
use Rattle.sftp_model.specs.declared.slot.Move.TheVariants.{Ask, Wait, Done}
use Rattle.sftp_model.specs.declared.slot.Site.{Site}
use Rattle.sftp_model.specs.declared.slot.Slot.TheVariants.{Buffered}
use Rattle.sftp_model.specs.Slots.{fresh_site, with_slot}
use Rattle.plan_model.specs.declared.call.Call.TheVariants as call
use Rattle.plan_model.specs.CallPlans.{site_after_cancel, next}
use Rattle.sftp_model.specs.Answers.{status}
use Rattle.plan_model.specs.PlanWords.{
  file_at,
  handle,
  after_handle,
  at,
  buffered,
  read_at,
  write_at,
  bare,
  refused_io,
  refused_with,
}

abbrev got : List ℕ → Reply
got bytes = reply.Content bytes

abbrev ok : Reply
ok = status 0

-- Buffered files without the right to read, or to write.
abbrev unreadable : Site
unreadable = with_slot fresh_site 0 (Buffered (file_at 0 false true 5)
    (record { len = 3; bytes = []; deferred = []; reading = None }))

abbrev unwritable : Site
unwritable = with_slot fresh_site 0 (Buffered (file_at 0 true false 5)
    (record { len = 3; bytes = []; deferred = []; reading = None }))

-- ---- Unbuffer

pub unbuffer_done : next (call.Unbuffer 0) (buffered 5 (codes "ab") ((1, 2) ∷ []) (Some 2)) bare [] (after_handle [])
    ≡ Done outcome.Done (at 5)
unbuffer_done = refl

pub unbuffer_of_file : next (call.Unbuffer 0) (at 5) bare [] (after_handle []) ≡ Done outcome.NoFile (at 5)
unbuffer_of_file = refl

-- ---- Buf_read

-- It asks for at least the buffer's length, and at most the session's.
pub buf_read_asks : next (call.BufRead 0 1) (buffered 5 [] [] None) bare [] (after_handle [])
    ≡ Ask (request.Read handle 5 3)
buf_read_asks = refl

pub buf_read_asks_more : next (call.BufRead 0 9) (buffered 5 [] [] None) bare [] (after_handle [])
    ≡ Ask (request.Read handle 5 4)
buf_read_asks_more = refl

pub buf_read_gives : next (call.BufRead 0 1) (buffered 5 [] [] None) bare (read_at 1 5 3 ∷ [])
    (after_handle (got (codes "abc") ∷ [])) ≡ Done (outcome.Bytes (codes "a")) (buffered 6 (codes "bc") [] None)
buf_read_gives = refl

-- No request if bytes are buffered, even if they are fewer than the call asks for.
pub buf_read_from_buffer : next (call.BufRead 0 9) (buffered 6 (codes "bc") [] None) bare [] (after_handle [])
    ≡ Done (outcome.Bytes (codes "bc")) (buffered 8 [] [] None)
buf_read_from_buffer = refl

pub buf_read_ends : next (call.BufRead 0 1) (buffered 5 [] [] None) bare (read_at 1 5 3 ∷ [])
    (after_handle (status 1 ∷ [])) ≡ Done outcome.End (buffered 5 [] [] None)
buf_read_ends = refl

-- A read in flight is used whatever its length is, and no offset is checked.
pub buf_read_under_way : next (call.BufRead 0 9) (buffered (2 ^ 64 - 1) [] [] (Some 1)) bare [] (after_handle [])
    ≡ Wait 1
buf_read_under_way = refl

pub buf_read_used : next (call.BufRead 0 2) (buffered 5 [] [] (Some 1)) bare [] (after_handle (got (codes "abc") ∷ []))
    ≡ Done (outcome.Bytes (codes "ab")) (buffered 7 (codes "c") [] None)
buf_read_used = refl

-- The rights are checked before the length here.
pub buf_read_not_readable : next (call.BufRead 0 0) unreadable bare [] (after_handle [])
    ≡ Done (refused_io kind.NotReadable) unreadable
buf_read_not_readable = refl

pub buf_read_nothing : next (call.BufRead 0 0) (buffered 5 (codes "ab") [] None) bare [] (after_handle [])
    ≡ Done (outcome.Bytes []) (buffered 5 (codes "ab") [] None)
buf_read_nothing = refl

pub buf_read_overflows : next (call.BufRead 0 1) (buffered (2 ^ 64 - 2) [] [] None) bare [] (after_handle [])
    ≡ Done (refused_io kind.OffsetOverflow) (buffered (2 ^ 64 - 2) [] [] None)
buf_read_overflows = refl

-- Its READ stays in flight, whether or not its reply has come.
pub buf_read_cancelled : site_after_cancel (call.BufRead 0 1) (buffered 5 [] [] None) bare (read_at 1 5 3 ∷ [])
    (after_handle (got (codes "abc") ∷ [])) ≡ buffered 5 [] [] (Some 1)
buf_read_cancelled = refl

pub buf_read_cancelled_used : site_after_cancel (call.BufRead 0 1) (buffered 5 [] [] (Some 1)) bare [] (after_handle [])
    ≡ buffered 5 [] [] (Some 1)
buf_read_cancelled_used = refl

-- ---- Buf_write

pub buf_write_asks : next (call.BufWrite 0 (codes "abc")) (buffered 5 [] [] None) bare [] (after_handle [])
    ≡ Ask (request.Write handle 5 (codes "ab"))
buf_write_asks = refl

-- Its status is not awaited. The read in flight is abandoned, and the buffer loses the same number of bytes.
pub buf_write_done : next (call.BufWrite 0 (codes "abc")) (buffered 5 (codes "xyz") ((1, 1) ∷ []) None) bare
    (write_at 3 5 (codes "ab") ∷ []) (after_handle []) ≡ Done (outcome.Count 2)
    (buffered 7 (codes "z") ((1, 1) ∷ (3, 2) ∷ []) None)
buf_write_done = refl

pub buf_write_abandons : next (call.BufWrite 0 (codes "a")) (buffered 5 [] [] (Some 1)) bare
    (write_at 2 5 (codes "a") ∷ []) (after_handle []) ≡ Done (outcome.Count 1) (buffered 6 [] ((2, 1) ∷ []) None)
buf_write_abandons = refl

-- A window that is nearly full cuts the bytes; if it is full, the oldest status is awaited.
pub buf_write_cut : next (call.BufWrite 0 (codes "abc")) (buffered 5 [] ((1, 2) ∷ (2, 1) ∷ []) None) bare []
    (after_handle []) ≡ Ask (request.Write handle 5 (codes "a"))
buf_write_cut = refl

pub buf_write_waits : next (call.BufWrite 0 (codes "abc")) (buffered 5 [] ((1, 2) ∷ (2, 2) ∷ []) None) bare []
    (after_handle []) ≡ Wait 1
buf_write_waits = refl

-- The oldest is awaited, not one whose status was taken.
pub buf_write_waits_oldest : next (call.BufWrite 0 (codes "abc")) (buffered 5 [] ((2, 2) ∷ (1, 2) ∷ []) None) bare []
    (after_handle (ok ∷ [])) ≡ Wait 2
buf_write_waits_oldest = refl

pub buf_write_refused : next (call.BufWrite 0 (codes "abc")) (buffered 5 [] ((1, 2) ∷ (2, 2) ∷ []) None) bare []
    (after_handle (status 4 ∷ [])) ≡ Done (refused_with 4) (buffered 5 [] ((2, 2) ∷ []) None)
buf_write_refused = refl

pub buf_write_after_room : next (call.BufWrite 0 (codes "abc")) (buffered 5 [] ((1, 2) ∷ (2, 2) ∷ []) None) bare
    (write_at 3 5 (codes "ab") ∷ []) (after_handle (ok ∷ [])) ≡ Done (outcome.Count 2)
    (buffered 7 [] ((2, 2) ∷ (3, 2) ∷ []) None)
buf_write_after_room = refl

-- The status that was taken out stays out.
pub buf_write_overflows : next (call.BufWrite 0 (codes "a")) (buffered (2 ^ 64 - 1) [] ((1, 2) ∷ (2, 2) ∷ []) None) bare
    [] (after_handle (ok ∷ [])) ≡ Done (refused_io kind.OffsetOverflow) (buffered (2 ^ 64 - 1) [] ((2, 2) ∷ []) None)
buf_write_overflows = refl

-- The rights are checked before the bytes here.
pub buf_write_not_writable : next (call.BufWrite 0 []) unwritable bare [] (after_handle [])
    ≡ Done (refused_io kind.NotWritable) unwritable
buf_write_not_writable = refl

pub buf_write_of_none : next (call.BufWrite 0 []) (buffered 5 [] ((1, 4) ∷ []) None) bare [] (after_handle [])
    ≡ Done (outcome.Count 0) (buffered 5 [] ((1, 4) ∷ []) None)
buf_write_of_none = refl

pub buf_write_cancelled : site_after_cancel (call.BufWrite 0 (codes "abc")) (buffered 5 [] ((1, 2) ∷ (2, 2) ∷ []) None)
    bare
    (write_at 3 5 (codes "ab") ∷ []) (after_handle (ok ∷ [])) ≡ buffered 7 [] ((2, 2) ∷ (3, 2) ∷ []) None
buf_write_cancelled = refl

-- Before its WRITE nothing is taken out.
pub buf_write_cancelled_waiting : site_after_cancel (call.BufWrite 0 (codes "abc"))
    (buffered 5 [] ((1, 2) ∷ (2, 2) ∷ []) None)
    bare [] (after_handle (ok ∷ [])) ≡ buffered 5 [] ((1, 2) ∷ (2, 2) ∷ []) None
buf_write_cancelled_waiting = refl
