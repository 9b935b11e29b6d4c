-- Worked examples of `buf_write_all`, `buf_flush` and `buf_seek`, each beside a case that nearly is one. Writes take 2
-- bytes each, and 4 bytes may be pending.
use Rattle.std.specs.Prelude.{ℕ, ◌≡◌, ◌-◌, ◌^◌, true, false, List, [], ◌∷◌, codes, Some, None, pos, negsuc, refl}
use Rattle.std.specs.declared.io.traits.SeekFrom.TheVariants.{Start, End, Current}
use Rattle.sftp_model.specs.declared.reply.Reply.{Reply}
use Rattle.sftp_model.specs.declared.slot.Facts.{Facts}
use Rattle.sftp_model.specs.declared.request.Request.TheVariants as request
use Rattle.sftp_model.specs.declared.outcome.Outcome.TheVariants as outcome
use Rattle.sftp_model.specs.declared.error.IoKind.TheVariants as kind
use Rattle.sftp_model.specs.declared.slot.Move.TheVariants.{Ask, Wait, Done}
use Rattle.plan_model.specs.Moves.{Own}
use Rattle.sftp_model.specs.declared.slot.Site.{Site}
use Rattle.sftp_model.specs.declared.slot.Slot.TheVariants.{Buffered}
use Rattle.sftp_model.specs.Slots.{fresh_site, with_slot}
use Rattle.plan_model.specs.declared.call.Call.TheVariants as call
use Rattle.plan_model.specs.CallPlans.{site_after_cancel, next}
use Rattle.sftp_model.specs.Answers.{status}
use Rattle.plan_model.specs.PlanWords.{
  known,
  file_at,
  handle,
  after_handle,
  at,
  buffered,
  write_at,
  facts,
  bare,
  refused_io,
  refused_with,
}

abbrev ok : Reply
ok = status 0

abbrev unwritable : Site
unwritable = with_slot fresh_site 0 (Buffered (file_at 0 true false 5)
    (record { len = 3; bytes = []; deferred = []; reading = None }))

-- ---- Buf_write_all: ten bytes, four at a time, within a limit of more than ten

abbrev wide : Facts
wide = facts 0 4 4 655360 1

abbrev ten : List ℕ
ten = 0 ∷ 1 ∷ 2 ∷ 3 ∷ 4 ∷ 5 ∷ 6 ∷ 7 ∷ 8 ∷ 9 ∷ []

abbrev three_writes : Own
three_writes = write_at 1 0 (0 ∷ 1 ∷ 2 ∷ 3 ∷ []) ∷ write_at 2 4 (4 ∷ 5 ∷ 6 ∷ 7 ∷ []) ∷ write_at 3 8 (8 ∷ 9 ∷ []) ∷ []

abbrev three_deferred : List (ℕ × ℕ)
three_deferred = (1, 4) ∷ (2, 4) ∷ (3, 2) ∷ []

pub all_asks : next (call.BufWriteAll 0 ten) (buffered 0 [] [] None) wide [] (after_handle [])
    ≡ Ask (request.Write handle 0 (0 ∷ 1 ∷ 2 ∷ 3 ∷ []))
all_asks = refl

-- The next part is asked without a reply to the one before.
pub all_asks_second : next (call.BufWriteAll 0 ten) (buffered 0 [] [] None) wide
    (write_at 1 0 (0 ∷ 1 ∷ 2 ∷ 3 ∷ []) ∷ []) (after_handle []) ≡ Ask (request.Write handle 4 (4 ∷ 5 ∷ 6 ∷ 7 ∷ []))
all_asks_second = refl

pub all_done : next (call.BufWriteAll 0 ten) (buffered 0 [] [] None) wide three_writes (after_handle [])
    ≡ Done outcome.Done (buffered 10 [] three_deferred None)
all_done = refl

pub all_waits : next (call.BufWriteAll 0 (codes "abcde")) (buffered 0 [] [] None) bare
    (write_at 1 0 (codes "ab") ∷ write_at 2 2 (codes "cd") ∷ []) (after_handle []) ≡ Wait 1
all_waits = refl

pub all_asks_third : next (call.BufWriteAll 0 (codes "abcde")) (buffered 0 [] [] None) bare
    (write_at 1 0 (codes "ab") ∷ write_at 2 2 (codes "cd") ∷ []) (after_handle (ok ∷ []))
    ≡ Ask (request.Write handle 4 (codes "e"))
all_asks_third = refl

pub all_refused : next (call.BufWriteAll 0 (codes "abcde")) (buffered 0 [] [] None) bare
    (write_at 1 0 (codes "ab") ∷ write_at 2 2 (codes "cd") ∷ []) (after_handle (status 4 ∷ []))
    ≡ Done (refused_with 4) (buffered 4 [] ((2, 2) ∷ []) None)
all_refused = refl

-- The call is done before the rights are checked.
pub all_of_none : next (call.BufWriteAll 0 []) unwritable bare [] (after_handle []) ≡ Done outcome.Done unwritable
all_of_none = refl

pub all_not_writable : next (call.BufWriteAll 0 (codes "a")) unwritable bare [] (after_handle [])
    ≡ Done (refused_io kind.NotWritable) unwritable
all_not_writable = refl

pub all_overflows : next (call.BufWriteAll 0 (codes "abc")) (buffered (2 ^ 64 - 3) [] [] None) bare
    (write_at 1 (2 ^ 64 - 3) (codes "ab") ∷ []) (after_handle [])
    ≡ Done (refused_io kind.OffsetOverflow) (buffered (2 ^ 64 - 1) [] ((1, 2) ∷ []) None)
all_overflows = refl

-- The state that the last WRITE left: a status taken after it counts for nothing.
pub all_cancelled : site_after_cancel (call.BufWriteAll 0 (codes "abcde")) (buffered 0 [] [] None) bare
    (write_at 1 0 (codes "ab") ∷ write_at 2 2 (codes "cd") ∷ []) (after_handle (ok ∷ []))
    ≡ buffered 4 [] ((1, 2) ∷ (2, 2) ∷ []) None
all_cancelled = refl

pub all_cancelled_third : site_after_cancel (call.BufWriteAll 0 (codes "abcdefg")) (buffered 0 [] [] None) bare
    (write_at 1 0 (codes "ab") ∷ write_at 2 2 (codes "cd") ∷ write_at 3 4 (codes "ef") ∷ []) (after_handle (ok ∷ []))
    ≡ buffered 6 [] ((2, 2) ∷ (3, 2) ∷ []) None
all_cancelled_third = refl

-- ---- Buf_flush: all statuses, the oldest first

-- Not done after the first status.
pub flush_waits_second : next (call.BufFlush 0) (buffered 10 [] three_deferred None) wide [] (after_handle (ok ∷ []))
    ≡ Wait 2
flush_waits_second = refl

-- A later status does not count before the oldest.
pub flush_waits_first : next (call.BufFlush 0) (buffered 10 [] ((1, 4) ∷ (3, 2) ∷ []) None) wide []
    (known ((3, ok) ∷ [])) ≡ Wait 1
flush_waits_first = refl

pub flush_done : next (call.BufFlush 0) (buffered 10 [] three_deferred None) wide [] (after_handle (ok ∷ ok ∷ ok ∷ []))
    ≡ Done outcome.Done (buffered 10 [] [] None)
flush_done = refl

-- The refusal is taken out, and later ones stay.
pub flush_refused : next (call.BufFlush 0) (buffered 10 [] three_deferred None) wide []
    (after_handle (ok ∷ status 4 ∷ ok ∷ [])) ≡ Done (refused_with 4) (buffered 10 [] ((3, 2) ∷ []) None)
flush_refused = refl

pub flush_again : next (call.BufFlush 0) (buffered 10 [] ((3, 2) ∷ []) None) wide []
    (after_handle (ok ∷ status 4 ∷ ok ∷ [])) ≡ Done outcome.Done (buffered 10 [] [] None)
flush_again = refl

pub flush_not_writable : next (call.BufFlush 0) unwritable bare [] (after_handle [])
    ≡ Done (refused_io kind.NotWritable) unwritable
flush_not_writable = refl

pub flush_of_file : next (call.BufFlush 0) (at 5) bare [] (after_handle []) ≡ Done outcome.NoFile (at 5)
flush_of_file = refl

pub flush_cancelled : site_after_cancel (call.BufFlush 0) (buffered 10 [] three_deferred None) wide []
    (after_handle (ok ∷ []))
    ≡ buffered 10 [] ((2, 4) ∷ (3, 2) ∷ []) None
flush_cancelled = refl

-- A refusal stays, and so do the writes after it.
pub flush_cancelled_refused : site_after_cancel (call.BufFlush 0) (buffered 10 [] three_deferred None) wide []
    (after_handle (ok ∷ status 4 ∷ ok ∷ [])) ≡ buffered 10 [] ((2, 4) ∷ (3, 2) ∷ []) None
flush_cancelled_refused = refl

-- ---- Buf_seek

-- A move forward inside the buffer keeps the rest; a move past it, or back, keeps nothing.
pub seek_inside : next (call.BufSeek 0 (Current (pos 1))) (buffered 5 (codes "abc") [] None) bare [] (after_handle [])
    ≡ Done (outcome.Count 6) (buffered 6 (codes "bc") [] None)
seek_inside = refl

pub seek_past : next (call.BufSeek 0 (Current (pos 1))) (buffered 1 (codes "a") [] (Some 1)) bare [] (after_handle [])
    ≡ Done (outcome.Count 2) (buffered 2 [] [] None)
seek_past = refl

pub seek_back : next (call.BufSeek 0 (Current (negsuc 0))) (buffered 5 (codes "abc") ((1, 2) ∷ []) None) bare []
    (after_handle []) ≡ Done (outcome.Count 4) (buffered 4 [] ((1, 2) ∷ []) None)
seek_back = refl

-- A seek to the current offset: the read in flight stays.
pub seek_nowhere : next (call.BufSeek 0 (Start 5)) (buffered 5 [] [] (Some 1)) bare [] (after_handle [])
    ≡ Done (outcome.Count 5) (buffered 5 [] [] (Some 1))
seek_nowhere = refl

pub seek_under : next (call.BufSeek 0 (Current (negsuc 5))) (buffered 5 (codes "a") [] None) bare [] (after_handle [])
    ≡ Done (refused_io kind.SeekUnderflow) (buffered 5 (codes "a") [] None)
seek_under = refl

pub seek_from_end : next (call.BufSeek 0 (End (pos 0))) (buffered 5 (codes "a") [] None) bare [] (after_handle [])
    ≡ Done (refused_io kind.SeekFromEnd) (buffered 5 (codes "a") [] None)
seek_from_end = refl
