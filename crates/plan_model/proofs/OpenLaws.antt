-- The law of moves for the calls on a file in a slot that make one request or none, but for reads and writes.
use Rattle.std.proofs.Common.{◌≡◌, ◌+◌, ◌-◌, ◌==◌, ℕ, true, List, [], ◌∷◌, Some, None, refl, ap, sym, subst, ◌∙◌, inl, inr, if◌then◌else◌}
use Rattle.std.specs.Prelude.{pos, negsuc, not, nat_le}
use Rattle.std.specs.declared.io.traits.SeekFrom.{SeekFrom}
use Rattle.std.specs.declared.io.traits.SeekFrom.TheVariants.{Start, End, Current}
use Rattle.sftp_model.specs.declared.file_attrs.FileAttrs.{FileAttrs}
use Rattle.sftp_model.specs.declared.flags.OpenFlags.{OpenFlags}
use Rattle.sftp_model.specs.declared.outcome.Outcome.TheVariants as outcome
use Rattle.sftp_model.specs.declared.error.IoKind.TheVariants as kind
use Rattle.sftp_model.specs.declared.reply.Reply.{Reply}
use Rattle.sftp_model.specs.declared.reply.Reply.TheVariants as reply
use Rattle.sftp_model.specs.declared.request.Request.TheVariants as request
use Rattle.sftp_model.specs.declared.slot.Move.{Move}
use Rattle.sftp_model.specs.declared.slot.Move.TheVariants.{Ask, Done}
use Rattle.sftp_model.specs.Fits.{FitsAttributes, FitsLong, FitsSet}
use Rattle.sftp_model.specs.declared.slot.FileAt.{FileAt}
use Rattle.sftp_model.specs.declared.slot.Slot.{Slot}
use Rattle.sftp_model.specs.declared.slot.Site.{Site}
use Rattle.sftp_model.specs.declared.slot.Slot.TheVariants.{Empty, File, Buffered}
use Rattle.sftp_model.specs.Slots.{slot_at, with_slot, grant_of, slot_has, has_grant}
use Rattle.sftp_model.specs.Numbers.{FSYNC, COPY_DATA}
use Rattle.plan_model.specs.Moves.{Own, ask_path, handle_of, overflows, refuse_locally, refuses_extension, offers, done_by, told_by, by_reply, further}
use Rattle.plan_model.specs.PathPlans.{set_attributes}
use Rattle.plan_model.specs.FilePlans.{
  open_request,
  opened_move,
  opened_file,
  first_place,
  open_next,
  close_grant_next,
  close_slot_next,
  close_next,
  ask_set,
  set_next,
  set_len_next,
  set_perm_next,
  ask_meta,
  meta_next,
  ask_sync,
  sync_next,
  ask_copy,
  site_after_copy,
  copy_files_next,
  copy_next,
  clone_next,
  on_seek,
  seek_next,
  buffer_next,
}
use Rattle.plan_model.specs.GoodMoves.{Situation, IsHeld, HoldsWithin, IsGood, IsBrought, ClosesGrant}
use Rattle.plan_model.proofs.MoveLaws.{either, answered, replied, by_status, by_attrs, as_begun}
use Rattle.plan_model.proofs.SlotLaws.{set_has, same_grant}
use Rattle.plan_model.proofs.PathLaws.{path_good, fitting}
use Rattle.plan_model.proofs.FileLaws.{Stands, stands_set, stands_held, held_handle, ends_in, in_range, on_file_good, moved_within}

-- a slot that is set holds what it is given
pub set_within : (s : Situation) (site : Site) (slot : ℕ) (x : Slot) → HoldsWithin s site
    → ((g : ℕ) → slot_has g x ≡ true → IsHeld s g) → HoldsWithin s (with_slot site slot x)
set_within s site slot x within new g h = elim (set_has g site.slots slot x h)
    [ inl was ↦ within g was | inr is ↦ new g is ]

pub emptied : (s : Situation) (slot : ℕ) → HoldsWithin s (with_slot s.site slot Empty)
emptied s slot = set_within s s.site slot Empty (λ g h. inl h) (λ g e. absurd cc)

-- ---- open

pub open_good : (s : Situation) (slot : ℕ) (flags : OpenFlags) (path : List ℕ) → (s.numbers → FitsSet flags.0)
    → ((g : ℕ) → IsBrought s.own s.answers g → s.brought g) → IsGood s
    (open_next slot flags path s.site s.facts s.own s.answers)
open_good s slot flags path fits brings = by_own s.own refl
  where
    by_handle : (p : ℕ) (r : Reply) → ((handle : List ℕ) → r ≡ reply.Handle handle → s.brought p)
        → IsGood s (opened_move slot flags s.site p r)
    by_handle p (reply.Handle handle) came =
        set_within s s.site slot (File (opened_file flags p)) (λ g h. inl h)
        (λ g is. inr (subst s.brought (sym (same_grant p g is)) (came handle refl)))
    by_handle p (reply.Status code message language) came = as_begun s outcome.NoFile
    by_handle p r came = as_begun s outcome.NoFile

    by_own : (own : Own) → s.own ≡ own → IsGood s (by_reply (ask_path (open_request flags path) s.site)
        (opened_move slot flags s.site (first_place own)) own s.answers)
    by_own [] is = path_good s (open_request flags path) (λ e. (is, fits, refl, e))
    by_own (asked ∷ later) is =
        answered s asked.0 (s.answers asked.0) (opened_move slot flags s.site asked.0) refl
        (λ r got. by_handle asked.0 r (λ handle e. brings asked.0
        (record {
          asked = asked.1;
          later = later;
          handle = handle;
          first = is;
          came = got
              ∙ ap (λ (x : Reply). Some x) e;
        })))

-- ---- close

pub close_good : (s : Situation) (slot : ℕ) → ((handle : List ℕ) → ClosesGrant slot s.site s.own s.answers handle
    → s.closes handle) → IsGood s (close_next slot s.site s.facts s.own s.answers)
close_good s slot closes = by_slot (slot_at s.site slot) refl
  where
    grant_good : (grant : ℕ) → grant_of (slot_at s.site slot) ≡ Some grant
        → IsGood s (close_grant_next grant (with_slot s.site slot Empty) s.own s.answers)
    grant_good grant at =
        replied s s.own (if has_grant (with_slot s.site slot Empty) grant then
        Done outcome.Done (with_slot s.site slot Empty) else Ask (request.Close (handle_of (s.answers grant))))
        (done_by (with_slot s.site slot Empty))
        (λ fresh. either (IsGood s) (has_grant (with_slot s.site slot Empty) grant)
        (Done outcome.Done (with_slot s.site slot Empty)) (Ask (request.Close (handle_of (s.answers grant))))
        (λ e. emptied s slot)
        (λ e. closes (handle_of (s.answers grant)) (record {
          grant = grant;
          stood = at;
          fresh = fresh;
          last = e;
          bears =
              refl;
        })))
        (λ r. by_status (IsGood s) r (with_slot s.site slot Empty) (Done outcome.Done (with_slot s.site slot Empty))
        (ends_in s (with_slot s.site slot Empty) (emptied s slot)) (emptied s slot))

    by_slot : (x : Slot) → slot_at s.site slot ≡ x → IsGood s (close_slot_next slot s.site s.own s.answers x)
    by_slot Empty at = as_begun s outcome.NoFile
    by_slot (File file) at = grant_good file.grant (ap grant_of at)
    by_slot (Buffered file buffer) at = grant_good file.grant (ap grant_of at)

-- ---- attributes, sync

set_good : (s : Situation) (slot : ℕ) (attrs : FileAttrs) → (s.numbers → FitsAttributes attrs)
    → IsGood s (set_next slot attrs s.site s.facts s.own s.answers)
set_good s slot attrs fits = on_file_good s slot _ (λ file st.
    replied s s.own (ask_set attrs file s.site s.answers) (done_by s.site)
    (λ e. either (IsGood s) (not file.writable) (refuse_locally kind.NotWritable s.site)
    (Ask (request.Fsetstat (handle_of (s.answers file.grant)) attrs)) (λ x. as_begun s outcome.NoFile)
    (λ x. (held_handle s file.grant (stands_held s slot s.site file.grant st), fits)))
    (λ r. by_status (IsGood s) r s.site (Done outcome.Done s.site) (as_begun s) (as_begun s outcome.Done)))

pub set_len_good : (s : Situation) (slot n : ℕ) → (s.numbers → FitsLong n)
    → IsGood s (set_len_next slot n s.site s.facts s.own s.answers)
set_len_good s slot n fits = set_good s slot (set_attributes (Some n) None) (λ k. fitting (Some n) None (fits k))

pub set_perm_good : (s : Situation) (slot mode : ℕ) → IsGood s (set_perm_next slot mode s.site s.facts s.own s.answers)
set_perm_good s slot mode = set_good s slot (set_attributes None (Some mode)) (λ k. fitting None (Some mode) tt)

pub meta_good : (s : Situation) (slot : ℕ) → IsGood s (meta_next slot s.site s.facts s.own s.answers)
meta_good s slot = on_file_good s slot _ (λ file st.
    replied s s.own (ask_meta file s.site s.answers) (told_by s.site)
    (λ e. either (IsGood s) (not file.readable) (refuse_locally kind.NotReadable s.site)
    (Ask (request.Fstat (handle_of (s.answers file.grant)))) (λ x. as_begun s outcome.NoFile)
    (λ x. held_handle s file.grant (stands_held s slot s.site file.grant st)))
    (λ r. by_attrs (IsGood s) r s.site (as_begun s)))

pub sync_good : (s : Situation) (slot : ℕ) → IsGood s (sync_next slot s.site s.facts s.own s.answers)
sync_good s slot = on_file_good s slot _ (λ file st.
    replied s s.own (ask_sync file s.site s.facts s.answers) (done_by s.site)
    (λ e. either (IsGood s) (not (offers s.facts FSYNC)) (refuses_extension FSYNC s.site) _
    (λ x. as_begun s outcome.NoFile)
    (λ x. either (IsGood s) (not file.writable) (refuse_locally kind.NotWritable s.site)
    (Ask (request.Fsync (handle_of (s.answers file.grant)))) (λ y. as_begun s outcome.NoFile)
    (λ y. held_handle s file.grant (stands_held s slot s.site file.grant st))))
    (λ r. by_status (IsGood s) r s.site (Done outcome.Done s.site) (as_begun s) (as_begun s outcome.Done)))

-- ---- copy, clone

held_alone : (s : Situation) (grant : ℕ) → IsHeld s grant → (g : ℕ) → (grant == g) ≡ true → IsHeld s g
held_alone s grant held g is = subst (IsHeld s) (sym (same_grant grant g is)) held

copy_good_files : (s : Situation) (from to n : ℕ) (source target : FileAt) → Stands s from s.site source.grant
    → Stands s to s.site target.grant → IsGood s (copy_files_next from to n s.site s.facts s.own s.answers source
    target)
copy_good_files s from to n source target sf st =
    let source_held : IsHeld s source.grant = stands_held s from s.site source.grant sf in
    let target_held : IsHeld s target.grant = stands_held s to s.site target.grant st in
    replied s s.own (ask_copy source target n s.site s.facts s.answers) _
    (λ e. either (IsGood s) (not (offers s.facts COPY_DATA)) (refuses_extension COPY_DATA s.site) _
    (λ x. as_begun s outcome.NoFile)
    (λ x. either (IsGood s) (not target.writable) (refuse_locally kind.NotWritable s.site) _
    (λ y. as_begun s outcome.NoFile)
    (λ y. either (IsGood s) (not source.readable) (refuse_locally kind.NotReadable s.site) _
    (λ z. as_begun s outcome.NoFile)
    (λ z. either (IsGood s) (overflows source.offset n) (refuse_locally kind.OffsetOverflow s.site) _
    (λ u. as_begun s outcome.NoFile)
    (λ u. either (IsGood s) (overflows target.offset n) (refuse_locally kind.OffsetOverflow s.site)
    (Ask (request.CopyData (handle_of (s.answers source.grant)) source.offset n (handle_of (s.answers target.grant))
    target.offset)) (λ v. as_begun s outcome.NoFile)
    (λ v. (
      held_handle s source.grant source_held,
      held_handle s target.grant target_held,
      in_range source.offset n u,
      in_range target.offset n v,
    )))))))
    (λ r. by_status (IsGood s) r s.site (Done outcome.Done (site_after_copy from to source target n s.site))
    (as_begun s)
    (set_within s (with_slot s.site from (File (further source n))) to (File (further target n))
    (set_within s s.site from (File (further source n)) (λ g h. inl h) (held_alone s source.grant source_held))
    (held_alone s target.grant target_held)))

pub copy_good : (s : Situation) (from to n : ℕ) → IsGood s (copy_next from to n s.site s.facts s.own s.answers)
copy_good s from to n =
    either (IsGood s) (from == to) (Done outcome.NoFile s.site) _ (λ e. as_begun s outcome.NoFile)
    (λ e. on_file_good s from _ (λ source sf. on_file_good s to _
    (λ target st. copy_good_files s from to n source target sf st)))

pub clone_good : (s : Situation) (from to : ℕ) → IsGood s (clone_next from to s.site s.facts s.own s.answers)
clone_good s from to =
    either (IsGood s) (from == to) (Done outcome.NoFile s.site) _ (λ e. as_begun s outcome.NoFile)
    (λ e. on_file_good s from _ (λ file st. set_within s s.site to (File file) (λ g h. inl h)
    (held_alone s file.grant (stands_held s from s.site file.grant st))))

-- ---- seek, buffer

pub by_seek : (s : Situation) (position : SeekFrom) (offset : ℕ) (go : ℕ → Move) → ((to : ℕ) → IsGood s (go to))
    → IsGood s (on_seek position offset s.site go)
by_seek s (Start n) offset go goes = goes n
by_seek s (End n) offset go goes = as_begun s outcome.NoFile
by_seek s (Current (pos n)) offset go goes = either (IsGood s) (overflows offset n)
    (refuse_locally kind.SeekOverflow s.site)
    (go (offset + n)) (λ e. as_begun s outcome.NoFile) (λ e. goes (offset + n))
by_seek s (Current (negsuc n)) offset go goes = either (IsGood s) (nat_le offset n)
    (refuse_locally kind.SeekUnderflow s.site)
    (go (offset - (n + 1))) (λ e. as_begun s outcome.NoFile) (λ e. goes (offset - (n + 1)))

pub seek_good : (s : Situation) (slot : ℕ) (position : SeekFrom)
    → IsGood s (seek_next slot position s.site s.facts s.own s.answers)
seek_good s slot position = on_file_good s slot _ (λ file st. by_seek s position file.offset _
    (λ to. moved_within s slot s.site file (record file { offset = to }) refl st))

pub buffer_good : (s : Situation) (slot len : ℕ) → IsGood s (buffer_next slot len s.site s.facts s.own s.answers)
buffer_good s slot len = on_file_good s slot _ (λ file st. Stands.within
    (stands_set s slot s.site file.grant (Buffered file (record
    { len = len; bytes = []; deferred = []; reading = None })) refl st))
