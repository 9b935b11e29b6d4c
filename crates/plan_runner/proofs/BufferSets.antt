-- A buffered file that is put elsewhere.
use Rattle.std.proofs.Common.{
  ◌≡◌,
  ◌<◌,
  ◌≤◌,
  ◌+◌,
  ◌-◌,
  ◌^◌,
  ap,
  refl,
  sym,
  subst,
  arith,
  length-drop,
  ℕ,
  Bool,
  true,
  false,
  List,
  [],
  drop,
  length,
  None,
  if◌then◌else◌,
  nat_lt,
}
use Rattle.std.specs.Prelude.{slice_index_or, slice_set}
use Rattle.sftp_model.specs.declared.slot.FileAt.{FileAt}
use Rattle.sftp_model.specs.declared.slot.Buffer.{Buffer}
use Rattle.sftp_model.specs.declared.slot.Facts.{Facts}
use Rattle.sftp_model.specs.declared.slot.Site.{Site}
use Rattle.sftp_model.specs.declared.slot.Slot.{Slot}
use Rattle.sftp_model.specs.declared.slot.Slot.TheVariants.{Empty, Buffered}
use Rattle.sftp_model.specs.Slots.{slot_at, with_slot}
use Rattle.plan_runner.specs.Seeks.{sought_bytes}
use Rattle.plan_runner.specs.Sound.{IsWithin, KeepsSite}
use Rattle.plan_runner.specs.Pending.{AwaitsNoMore, maybe, slot_times, slots_times, writes_times}
use Rattle.plan_runner.proofs.Fewer.{set_times}
use Rattle.plan_runner.proofs.Keeping.{keeps_set, set_count}

-- the buffered bytes end where they did, or there are none
sought_ends : (from to : ℕ) (bytes : List ℕ) → length bytes ≤ (2 ^ 64 - 1) - from
    → length (sought_bytes from to bytes) ≤ (2 ^ 64 - 1) - to
sought_ends from to bytes le = by_order (nat_lt from to) refl
  where
    by_order : (b : Bool) → nat_lt from to ≡ b → length (if b then drop (to - from) bytes else []) ≤ (2 ^ 64 - 1) - to
    by_order true is = (let cut : length (drop (to - from) bytes) ≡ length bytes - (to - from) =
        length-drop (to - from) bytes in omega (arith, cut, le))
    by_order false is = omega arith

pub keeps_sought : (facts : Facts) (site new : Site) (slot to : ℕ) (file : FileAt) (buffer : Buffer) → slot_at site slot
    ≡ Buffered file buffer
    → new ≡ with_slot site slot (Buffered (record file { offset = to })
    (record buffer { bytes = sought_bytes file.offset to buffer.bytes; reading = None })) → KeepsSite facts site new
keeps_sought facts site new slot to file buffer here is = subst (λ (s : Site). KeepsSite facts site s) (sym is)
    (record {
      count = set_count site slot moved;
      limit = λ h. (keeps_set facts site (with_slot site slot moved) slot moved refl
          (fits (subst (λ (x : Slot). IsWithin facts x) here (h slot)))).limit h;
    })
  where
    moved : Slot
    moved = Buffered (record file { offset = to }) (record buffer
        { bytes = sought_bytes file.offset to buffer.bytes; reading = None })

    fits : IsWithin facts (Buffered file buffer) → IsWithin facts
        (Buffered (record file { offset = to }) (record buffer {
          bytes = sought_bytes file.offset to buffer.bytes;
          reading = None;
        }))
    fits was = (was.0, sought_ends file.offset to buffer.bytes was.1)

pub fewer_sought : (site new : Site) (slot : ℕ) (file moved : FileAt) (buffer : Buffer) (bytes : List ℕ)
    → slot_at site slot ≡ Buffered file buffer → slot < length site.slots
    → new ≡ with_slot site slot (Buffered moved (record buffer { bytes = bytes; reading = None }))
    → AwaitsNoMore site new
fewer_sought site new slot file moved buffer bytes here lt is =
    subst (λ (s : Site). AwaitsNoMore site s) (sym is) (record {
      each = λ q. (let set : slots_times q (slice_set site.slots slot
          (Buffered moved (record buffer { bytes = bytes; reading = None }))) + slot_times q
          (slice_index_or site.slots slot Empty) ≡ slots_times q site.slots + (0 + writes_times q buffer.deferred)
          = set_times q site.slots slot (Buffered moved (record buffer { bytes = bytes; reading = None })) lt in
          let was : slot_times q (slice_index_or site.slots slot Empty)
          ≡ maybe buffer.reading q + writes_times q buffer.deferred = ap (slot_times q) here in
          omega (arith, set, was));
    })
