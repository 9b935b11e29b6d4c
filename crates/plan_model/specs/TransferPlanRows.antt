-- Worked examples of reads and writes, each beside a case that nearly is one.
use Rattle.std.specs.Prelude.{ℕ, ◌≡◌, ◌-◌, ◌^◌, List, [], ◌∷◌, codes, None, refl}
use Rattle.sftp_model.specs.declared.reply.Reply.{Reply}
use Rattle.sftp_model.specs.declared.reply.Reply.TheVariants as reply
use Rattle.sftp_model.specs.declared.request.Request.TheVariants as request
use Rattle.sftp_model.specs.declared.outcome.Outcome.TheVariants as outcome
use Rattle.sftp_model.specs.declared.error.IoKind.TheVariants as kind
use Rattle.sftp_model.specs.declared.slot.Move.TheVariants.{Ask, Wait, Done}
use Rattle.plan_model.specs.declared.call.Call.TheVariants as call
use Rattle.plan_model.specs.CallPlans.{site_after_cancel, next}
use Rattle.sftp_model.specs.Answers.{status}
use Rattle.plan_model.specs.PlanWords.{
  handle,
  after_handle,
  at,
  read_only,
  write_only,
  buffered,
  read_at,
  write_at,
  bare,
  refused_io,
  refused_with,
}

abbrev got : List ℕ → Reply
got bytes = reply.Content bytes

-- ---- Read

pub read_asks : next (call.Read 0 9) (at 5) bare [] (after_handle []) ≡ Ask (request.Read handle 5 4)
read_asks = refl

-- The offset moves by the bytes that came, not by those asked for.
pub read_done : next (call.Read 0 9) (at 5) bare (read_at 1 5 4 ∷ []) (after_handle (got (codes "ab") ∷ []))
    ≡ Done (outcome.Bytes (codes "ab")) (at 7)
read_done = refl

pub read_ends : next (call.Read 0 9) (at 5) bare (read_at 1 5 4 ∷ []) (after_handle (status 1 ∷ []))
    ≡ Done outcome.End (at 5)
read_ends = refl

pub read_refused : next (call.Read 0 9) (at 5) bare (read_at 1 5 4 ∷ []) (after_handle (status 3 ∷ []))
    ≡ Done (refused_with 3) (at 5)
read_refused = refl

-- Reading nothing is checked before the rights, and the rights before the offset.
pub read_nothing : next (call.Read 0 0) (write_only (2 ^ 64 - 1)) bare [] (after_handle [])
    ≡ Done outcome.End (write_only (2 ^ 64 - 1))
read_nothing = refl

pub read_rights_first : next (call.Read 0 1) (write_only (2 ^ 64 - 1)) bare [] (after_handle [])
    ≡ Done (refused_io kind.NotReadable) (write_only (2 ^ 64 - 1))
read_rights_first = refl

-- The length that would be asked for counts.
pub read_overflows : next (call.Read 0 9) (at (2 ^ 64 - 4)) bare [] (after_handle [])
    ≡ Done (refused_io kind.OffsetOverflow) (at (2 ^ 64 - 4))
read_overflows = refl

pub read_to_greatest : next (call.Read 0 9) (at (2 ^ 64 - 5)) bare [] (after_handle [])
    ≡ Ask (request.Read handle (2 ^ 64 - 5) 4)
read_to_greatest = refl

pub read_of_buffered : next (call.Read 0 9) (buffered 5 [] [] None) bare [] (after_handle [])
    ≡ Done outcome.NoFile (buffered 5 [] [] None)
read_of_buffered = refl

pub read_cancelled : site_after_cancel (call.Read 0 9) (at 5) bare (read_at 1 5 4 ∷ [])
    (after_handle (got (codes "ab") ∷ []))
    ≡ at 5
read_cancelled = refl

-- ---- Read_all

pub read_all_asks : next (call.ReadAll 0 6) (at 0) bare [] (after_handle []) ≡ Ask (request.Read handle 0 4)
read_all_asks = refl

-- After a short DATA the missing bytes are asked for.
pub read_all_asks_more : next (call.ReadAll 0 2) (at 0) bare (read_at 1 0 2 ∷ []) (after_handle (got (7 ∷ []) ∷ []))
    ≡ Ask (request.Read handle 1 1)
read_all_asks_more = refl

pub read_all_ends_early : next (call.ReadAll 0 2) (at 0) bare (read_at 1 0 2 ∷ read_at 2 1 1 ∷ [])
    (after_handle (got (7 ∷ []) ∷ status 1 ∷ [])) ≡ Done (refused_io kind.UnexpectedEof) (at 1)
read_all_ends_early = refl

pub read_all_done : next (call.ReadAll 0 6) (at 0) bare (read_at 1 0 4 ∷ read_at 2 4 2 ∷ [])
    (after_handle (got (codes "abcd") ∷ got (codes "ef") ∷ [])) ≡ Done (outcome.Bytes (codes "abcdef")) (at 6)
read_all_done = refl

pub read_all_of_none : next (call.ReadAll 0 0) (write_only 5) bare [] (after_handle [])
    ≡ Done (outcome.Bytes []) (write_only 5)
read_all_of_none = refl

pub read_all_not_readable : next (call.ReadAll 0 1) (write_only 5) bare [] (after_handle [])
    ≡ Done (refused_io kind.NotReadable) (write_only 5)
read_all_not_readable = refl

pub read_all_refused : next (call.ReadAll 0 6) (at 0) bare (read_at 1 0 4 ∷ read_at 2 4 2 ∷ [])
    (after_handle (got (codes "abcd") ∷ status 3 ∷ [])) ≡ Done (refused_with 3) (at 4)
read_all_refused = refl

-- The second READ is at 4, and its reply counts for nothing.
pub read_all_cancelled : site_after_cancel (call.ReadAll 0 6) (at 0) bare (read_at 1 0 4 ∷ read_at 2 4 2 ∷ [])
    (after_handle (got (codes "abcd") ∷ got (codes "ef") ∷ [])) ≡ at 4
read_all_cancelled = refl

pub read_all_cancelled_first : site_after_cancel (call.ReadAll 0 6) (at 3) bare (read_at 1 3 4 ∷ [])
    (after_handle (got (codes "abcd") ∷ [])) ≡ at 3
read_all_cancelled_first = refl

-- ---- Write

pub write_asks : next (call.Write 0 (codes "abc")) (at 5) bare [] (after_handle [])
    ≡ Ask (request.Write handle 5 (codes "ab"))
write_asks = refl

pub write_done : next (call.Write 0 (codes "abc")) (at 5) bare (write_at 1 5 (codes "ab") ∷ [])
    (after_handle (status 0 ∷ [])) ≡ Done (outcome.Count 2) (at 7)
write_done = refl

pub write_refused : next (call.Write 0 (codes "abc")) (at 5) bare (write_at 1 5 (codes "ab") ∷ [])
    (after_handle (status 4 ∷ [])) ≡ Done (refused_with 4) (at 5)
write_refused = refl

pub write_of_none : next (call.Write 0 []) (read_only 5) bare [] (after_handle [])
    ≡ Done (outcome.Count 0) (read_only 5)
write_of_none = refl

pub write_not_writable : next (call.Write 0 (codes "a")) (read_only (2 ^ 64 - 1)) bare [] (after_handle [])
    ≡ Done (refused_io kind.NotWritable) (read_only (2 ^ 64 - 1))
write_not_writable = refl

-- The last byte may be below the greatest offset.
pub write_at_greatest : next (call.Write 0 (1 ∷ [])) (at (2 ^ 64 - 2)) bare [] (after_handle [])
    ≡ Ask (request.Write handle (2 ^ 64 - 2) (1 ∷ []))
write_at_greatest = refl

pub write_overflows : next (call.Write 0 (1 ∷ [])) (at (2 ^ 64 - 1)) bare [] (after_handle [])
    ≡ Done (refused_io kind.OffsetOverflow) (at (2 ^ 64 - 1))
write_overflows = refl

pub write_cancelled : site_after_cancel (call.Write 0 (codes "abc")) (at 5) bare (write_at 1 5 (codes "ab") ∷ [])
    (after_handle (status 0 ∷ [])) ≡ at 5
write_cancelled = refl

-- ---- Write_all, and of parts

pub write_all_asks_rest : next (call.WriteAll 0 (codes "abc")) (at 5) bare (write_at 1 5 (codes "ab") ∷ [])
    (after_handle (status 0 ∷ [])) ≡ Ask (request.Write handle 7 (codes "c"))
write_all_asks_rest = refl

-- One part is in flight at a time.
pub write_all_waits : next (call.WriteAll 0 (codes "abc")) (at 5) bare (write_at 1 5 (codes "ab") ∷ [])
    (after_handle []) ≡ Wait 1
write_all_waits = refl

pub write_all_done : next (call.WriteAll 0 (codes "abc")) (at 5) bare
    (write_at 1 5 (codes "ab") ∷ write_at 2 7 (codes "c") ∷ []) (after_handle (status 0 ∷ status 0 ∷ []))
    ≡ Done outcome.Done (at 8)
write_all_done = refl

pub write_all_refused : next (call.WriteAll 0 (codes "abc")) (at 5) bare
    (write_at 1 5 (codes "ab") ∷ write_at 2 7 (codes "c") ∷ []) (after_handle (status 0 ∷ status 4 ∷ []))
    ≡ Done (refused_with 4) (at 7)
write_all_refused = refl

pub write_all_overflows : next (call.WriteAll 0 (codes "abc")) (at (2 ^ 64 - 3)) bare
    (write_at 1 (2 ^ 64 - 3) (codes "ab") ∷ []) (after_handle (status 0 ∷ []))
    ≡ Done (refused_io kind.OffsetOverflow) (at (2 ^ 64 - 1))
write_all_overflows = refl

pub write_all_of_none : next (call.WriteAll 0 []) (read_only 5) bare [] (after_handle [])
    ≡ Done outcome.Done (read_only 5)
write_all_of_none = refl

pub write_all_not_writable : next (call.WriteAll 0 (codes "a")) (read_only 5) bare [] (after_handle [])
    ≡ Done (refused_io kind.NotWritable) (read_only 5)
write_all_not_writable = refl

pub write_all_cancelled : site_after_cancel (call.WriteAll 0 (codes "abc")) (at 5) bare
    (write_at 1 5 (codes "ab") ∷ write_at 2 7 (codes "c") ∷ []) (after_handle (status 0 ∷ status 0 ∷ [])) ≡ at 7
write_all_cancelled = refl

-- A part of the call is no part of a request.
pub write_parts_asks : next (call.WriteParts 0 (codes "a" ∷ [] ∷ codes "bc" ∷ [])) (at 5) bare [] (after_handle [])
    ≡ Ask (request.Write handle 5 (codes "ab"))
write_parts_asks = refl

pub write_parts_done : next (call.WriteParts 0 (codes "a" ∷ [] ∷ codes "bc" ∷ [])) (at 5) bare
    (write_at 1 5 (codes "ab") ∷ write_at 2 7 (codes "c") ∷ []) (after_handle (status 0 ∷ status 0 ∷ []))
    ≡ Done outcome.Done (at 8)
write_parts_done = refl

pub write_parts_of_none : next (call.WriteParts 0 ([] ∷ [] ∷ [])) (read_only 5) bare [] (after_handle [])
    ≡ Done outcome.Done (read_only 5)
write_parts_of_none = refl

pub write_parts_cancelled : site_after_cancel (call.WriteParts 0 (codes "a" ∷ codes "bc" ∷ [])) (at 5) bare
    (write_at 1 5 (codes "ab") ∷ write_at 2 7 (codes "c") ∷ []) (after_handle (status 0 ∷ [])) ≡ at 7
write_parts_cancelled = refl
