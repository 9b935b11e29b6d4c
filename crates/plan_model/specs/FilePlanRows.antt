-- Worked examples of the calls on files and paths that make at most one request, each beside a case that nearly is one.
use Rattle.std.specs.Prelude.{ℕ, ◌≡◌, ◌-◌, ◌^◌, true, false, [], ◌∷◌, codes, Some, None, pos, negsuc, refl}
use Rattle.std.specs.declared.io.traits.SeekFrom.TheVariants.{Start, End, Current}
use Rattle.ssh_encoding.specs.Writing.{uint32, string}
use Rattle.sftp_model.specs.declared.request.Request.{Request}
use Rattle.sftp_model.specs.declared.request.Request.TheVariants as request
use Rattle.sftp_model.specs.declared.reply.Reply.TheVariants as reply
use Rattle.sftp_model.specs.declared.outcome.Outcome.TheVariants as outcome
use Rattle.sftp_model.specs.declared.error.IoKind.TheVariants as kind
use Rattle.sftp_model.specs.declared.slot.Move.TheVariants.{Ask, Done}
use Rattle.sftp_model.specs.Frames.{no_attributes, attributes, request_body}
use Rattle.sftp_model.specs.declared.slot.Site.{Site}
use Rattle.sftp_model.specs.declared.slot.Slot.TheVariants.{File}
use Rattle.sftp_model.specs.Slots.{fresh_site, with_slot}
use Rattle.plan_model.specs.declared.call.Call.TheVariants as call
use Rattle.plan_model.specs.CallPlans.{site_after_cancel, next}
use Rattle.sftp_model.specs.Answers.{status}
use Rattle.sftp_model.specs.OpenOptions.{nothing_chosen}
use Rattle.plan_model.specs.PlanWords.{
  file_at,
  attributes_of,
  handle,
  granted,
  after_handle,
  at,
  read_only,
  write_only,
  buffered,
  offering,
  bare,
  refused_io,
  refused_with,
  lacks,
}

-- ---- Open

abbrev open_of : ℕ × Request
open_of = (1, request.OpenFile (codes "b") (record { 0 = 1 }) no_attributes)

pub open_asks : next (call.OpenFile 0 (record nothing_chosen { read = true }) (codes "b")) (at 5) bare []
    (after_handle []) ≡ Ask open_of.1
unfolding request_body string uint32 attributes
open_asks = refl

-- The slot's old file is released, and it then holds a file at offset 0.
pub open_done : next (call.OpenFile 0 (record nothing_chosen { read = true }) (codes "b")) (at 5) bare (open_of ∷ [])
    (after_handle (granted ∷ [])) ≡ Done outcome.Opened (with_slot fresh_site 0 (File (file_at 1 true false 0)))
open_done = refl

pub open_refused : next (call.OpenFile 0 (record nothing_chosen { read = true }) (codes "b")) (at 5) bare (open_of ∷ [])
    (after_handle (status 2 ∷ [])) ≡ Done (refused_with 2) (at 5)
open_refused = refl

-- A STATUS 1 is a refusal here.
pub open_refused_1 : next (call.OpenFile 0 (record nothing_chosen { read = true }) (codes "b")) (at 5) bare
    (open_of ∷ []) (after_handle (status 1 ∷ [])) ≡ Done (refused_with 1) (at 5)
open_refused_1 = refl

-- The path is not joined.
pub open_not_joined : (site : Site) → next (call.OpenFile 0 (record nothing_chosen { read = true }) (codes "b"))
    (record site { directory = codes "/x" }) bare [] (after_handle []) ≡ Ask open_of.1
unfolding request_body string uint32 attributes
open_not_joined site = refl

pub open_cancelled : site_after_cancel (call.OpenFile 0 (record nothing_chosen { read = true }) (codes "b")) (at 5) bare
    (open_of ∷ []) (after_handle (granted ∷ [])) ≡ at 5
open_cancelled = refl

-- ---- Close

pub close_asks : next (call.Close 0) (buffered 5 (7 ∷ []) ((3, 2) ∷ []) None) bare [] (after_handle [])
    ≡ Ask (request.Close handle)
close_asks = refl

pub close_refused : next (call.Close 0) (at 5) bare ((1, request.Close handle) ∷ []) (after_handle (status 4 ∷ []))
    ≡ Done (refused_with 4) fresh_site
close_refused = refl

-- A clone has the file: no CLOSE.
pub close_first_of_two : next (call.Close 0) (with_slot (at 5) 1 (File (file_at 0 true true 0))) bare []
    (after_handle []) ≡ Done outcome.Done (with_slot fresh_site 1 (File (file_at 0 true true 0)))
close_first_of_two = refl

pub close_last_of_two : next (call.Close 1) (with_slot fresh_site 1 (File (file_at 0 true true 0))) bare []
    (after_handle []) ≡ Ask (request.Close handle)
close_last_of_two = refl

pub close_cancelled : site_after_cancel (call.Close 0) (at 5) bare ((1, request.Close handle) ∷ []) (after_handle [])
    ≡ fresh_site
close_cancelled = refl

-- ---- Clone

pub clone_done : next (call.CloneFile 0 1) (at 5) bare [] (after_handle [])
    ≡ Done outcome.Done (with_slot (at 5) 1 (File (file_at 0 true true 5)))
clone_done = refl

pub clone_to_itself : next (call.CloneFile 0 0) (at 5) bare [] (after_handle []) ≡ Done outcome.NoFile (at 5)
clone_to_itself = refl

pub clone_of_buffered : next (call.CloneFile 0 1) (buffered 5 [] [] None) bare [] (after_handle [])
    ≡ Done outcome.NoFile (buffered 5 [] [] None)
clone_of_buffered = refl

-- ---- Seek

pub seek_start : next (call.Seek 0 (Start (2 ^ 64 - 1))) (at 5) bare [] (after_handle [])
    ≡ Done (outcome.Count (2 ^ 64 - 1)) (at (2 ^ 64 - 1))
seek_start = refl

pub seek_back : next (call.Seek 0 (Current (negsuc (2 ^ 63 - 1)))) (at (2 ^ 64 - 1)) bare [] (after_handle [])
    ≡ Done (outcome.Count (2 ^ 63 - 1)) (at (2 ^ 63 - 1))
seek_back = refl

pub seek_to_start : next (call.Seek 0 (Current (negsuc 4))) (at 5) bare [] (after_handle [])
    ≡ Done (outcome.Count 0) (at 0)
seek_to_start = refl

pub seek_under : next (call.Seek 0 (Current (negsuc 5))) (at 5) bare [] (after_handle [])
    ≡ Done (refused_io kind.SeekUnderflow) (at 5)
seek_under = refl

pub seek_to_greatest : next (call.Seek 0 (Current (pos 1))) (at (2 ^ 64 - 2)) bare [] (after_handle [])
    ≡ Done (outcome.Count (2 ^ 64 - 1)) (at (2 ^ 64 - 1))
seek_to_greatest = refl

pub seek_over : next (call.Seek 0 (Current (pos 2))) (at (2 ^ 64 - 2)) bare [] (after_handle [])
    ≡ Done (refused_io kind.SeekOverflow) (at (2 ^ 64 - 2))
seek_over = refl

pub seek_from_end : next (call.Seek 0 (End (pos 0))) (at 5) bare [] (after_handle [])
    ≡ Done (refused_io kind.SeekFromEnd) (at 5)
seek_from_end = refl

-- ---- Attributes of an open file

pub set_len_asks : next (call.SetLen 0 7) (at 5) bare [] (after_handle [])
    ≡ Ask (request.Fsetstat handle (attributes_of (Some 7) None))
set_len_asks = refl

-- Bits over the twelve low ones are dropped.
pub set_perm_asks : next (call.SetPerm 0 0o177777) (at 5) bare [] (after_handle [])
    ≡ Ask (request.Fsetstat handle (attributes_of None (Some 0o7777)))
set_perm_asks = refl

pub set_len_not_writable : next (call.SetLen 0 7) (read_only 5) bare [] (after_handle [])
    ≡ Done (refused_io kind.NotWritable) (read_only 5)
set_len_not_writable = refl

pub set_len_done : next (call.SetLen 0 7) (at 5) bare ((1, request.Fsetstat handle (attributes_of (Some 7) None)) ∷ [])
    (after_handle (status 0 ∷ [])) ≡ Done outcome.Done (at 5)
set_len_done = refl

pub meta_asks : next (call.Meta 0) (read_only 5) bare [] (after_handle []) ≡ Ask (request.Fstat handle)
meta_asks = refl

pub meta_done : next (call.Meta 0) (at 5) bare ((1, request.Fstat handle) ∷ [])
    (after_handle (reply.Attrs (attributes_of (Some 7) None) ∷ []))
    ≡ Done (outcome.Meta (attributes_of (Some 7) None)) (at 5)
meta_done = refl

pub meta_not_readable : next (call.Meta 0) (write_only 5) bare [] (after_handle [])
    ≡ Done (refused_io kind.NotReadable) (write_only 5)
meta_not_readable = refl

-- ---- Sync: the extension before the rights

pub sync_asks : next (call.Sync 0) (at 5) offering [] (after_handle []) ≡ Ask (request.Fsync handle)
sync_asks = refl

pub sync_lacks : next (call.Sync 0) (read_only 5) bare [] (after_handle []) ≡ Done (lacks 4) (read_only 5)
sync_lacks = refl

pub sync_not_writable : next (call.Sync 0) (read_only 5) offering [] (after_handle [])
    ≡ Done (refused_io kind.NotWritable) (read_only 5)
sync_not_writable = refl

pub sync_no_file : next (call.Sync 1) (at 5) bare [] (after_handle []) ≡ Done outcome.NoFile (at 5)
sync_no_file = refl

-- ---- Copy

abbrev two : ℕ → ℕ → Site
two source target = with_slot (read_only source) 1 (File (file_at 1 false true target))

abbrev both : ℕ → ℕ → ℕ → Request
both source n target = request.CopyData handle source n (8 ∷ []) target

pub copy_asks : next (call.Copy 0 1 0) (two 5 2) offering [] (after_handle (reply.Handle (8 ∷ []) ∷ []))
    ≡ Ask (both 5 0 2)
copy_asks = refl

pub copy_done : next (call.Copy 0 1 3) (two 5 2) offering ((2, both 5 3 2) ∷ [])
    (after_handle (reply.Handle (8 ∷ []) ∷ status 0 ∷ [])) ≡ Done outcome.Done (two 8 5)
copy_done = refl

pub copy_refused : next (call.Copy 0 1 3) (two 5 2) offering ((2, both 5 3 2) ∷ [])
    (after_handle (reply.Handle (8 ∷ []) ∷ status 4 ∷ [])) ≡ Done (refused_with 4) (two 5 2)
copy_refused = refl

pub copy_lacks : next (call.Copy 1 0 3) (two 5 2) bare [] (after_handle []) ≡ Done (lacks 16) (two 5 2)
copy_lacks = refl

-- The target is checked first.
pub copy_not_writable : next (call.Copy 1 0 3) (two 5 2) offering [] (after_handle [])
    ≡ Done (refused_io kind.NotWritable) (two 5 2)
copy_not_writable = refl

pub copy_overflows : next (call.Copy 0 1 3) (two 5 (2 ^ 64 - 3)) offering [] (after_handle [])
    ≡ Done (refused_io kind.OffsetOverflow) (two 5 (2 ^ 64 - 3))
copy_overflows = refl

pub copy_to_itself : next (call.Copy 0 0 3) (at 5) offering [] (after_handle []) ≡ Done outcome.NoFile (at 5)
copy_to_itself = refl

-- ---- Buffer

pub buffer_done : next (call.Buffer 0 3) (at 5) bare [] (after_handle []) ≡ Done outcome.Done (buffered 5 [] [] None)
buffer_done = refl
