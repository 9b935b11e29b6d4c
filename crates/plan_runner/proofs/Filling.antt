-- A buffer that a READ fills.
use Rattle.std.proofs.Common.{
  ◌≡◌,
  ◌∙◌,
  ◌<◌,
  ◌≤◌,
  ◌+◌,
  ◌-◌,
  ◌^◌,
  ◌==◌,
  ap,
  refl,
  sym,
  subst,
  arith,
  length-drop,
  length-take,
  min,
  ℕ,
  Bool,
  true,
  false,
  List,
  [],
  ◌∷◌,
  Option,
  Some,
  None,
  drop,
  take,
  length,
  if◌then◌else◌,
}
use Rattle.std.proofs.lemmas.Bool.Decides.{nat_tests}
use Rattle.std.specs.Prelude.{max, not, slice_index_or, slice_set}
use Rattle.sftp_model.specs.declared.request.Request.TheVariants as request
use Rattle.sftp_model.specs.declared.error.IoKind.TheVariants as kind
use Rattle.sftp_model.specs.declared.outcome.Outcome.TheVariants as outcome
use Rattle.sftp_model.specs.declared.reply.Reply.{Reply}
use Rattle.sftp_model.specs.declared.slot.FileAt.{FileAt}
use Rattle.sftp_model.specs.declared.slot.Buffer.{Buffer}
use Rattle.sftp_model.specs.declared.slot.Facts.{Facts}
use Rattle.sftp_model.specs.declared.slot.Move.{Move}
use Rattle.sftp_model.specs.declared.slot.Move.TheVariants.{Ask, Done}
use Rattle.sftp_model.specs.declared.slot.Site.{Site}
use Rattle.sftp_model.specs.declared.slot.Slot.{Slot}
use Rattle.sftp_model.specs.declared.slot.Slot.TheVariants.{Empty, Buffered}
use Rattle.sftp_model.specs.Slots.{slot_at, with_slot}
use Rattle.plan_model.specs.Moves.{Answers, Own, ask_read, further, handle_of, left_on_buffered, on_buffered, on_content, once_answered, overflows, refuse_locally}
use Rattle.plan_model.specs.BufferPlans.{buf_read_file_next, buf_read_next, fill_next, from_buffer, was_filled}
use Rattle.plan_runner.specs.declared.next.Asked.TheVariants as asked
use Rattle.plan_runner.specs.declared.next.Next.{Next}
use Rattle.plan_runner.specs.declared.next.Next.TheVariants as step
use Rattle.plan_runner.specs.declared.next.Running.TheVariants as running
use Rattle.plan_runner.specs.Buffers.{reading_in, with_reading}
use Rattle.plan_runner.specs.Runners.{RunsByPlan, once, residual, with_reply}
use Rattle.plan_runner.specs.Sound.{IsWithin, KeepsSite}
use Rattle.plan_runner.specs.Pending.{maybe, slot_times, slots_times, writes_times}
use Rattle.plan_runner.proofs.SlotSets.{set_at, set_twice}
use Rattle.plan_runner.proofs.Fewer.{set_times}
use Rattle.plan_runner.proofs.Going.{goes_as}
use Rattle.plan_runner.proofs.Keeping.{keeps_set, set_count}

skip : (b : Bool) (x y : Move) → b ≡ false → (if b then x else y) ≡ y
skip b x y is = rw is refl

-- what the reply makes of it, by how the slot is set
abbrev filled : ℕ → FileAt → Buffer → (Slot → Site) → Reply → Move
filled n file buffer put r =
    on_content r (put (Buffered file (record buffer { reading = None })))
    (Done outcome.End (put (Buffered file (record buffer { reading = None }))))
    (λ bytes. Done (outcome.Bytes (take n bytes)) (put (Buffered (further file (length (take n bytes)))
    (record buffer { bytes = drop n bytes; reading = None }))))

pub reading_is : (slot : ℕ) (reading : Option ℕ) (file : FileAt) (buffer : Buffer) (site new : Site) → slot_at site slot
    ≡ Buffered file buffer → new ≡ with_reading site slot (slot_at site slot) reading → new
    ≡ with_slot site slot (Buffered file (record buffer { reading = reading }))
reading_is slot reading file buffer site new here is = is ∙ ap (λ (x : Slot). with_reading site slot x reading) here

-- a READ of the call's own
pub fill_asks : (slot n place offset len : ℕ) (file : FileAt) (buffer : Buffer) (site new : Site) (facts : Facts)
    → slot < length site.slots → slot_at site slot ≡ Buffered file buffer → buffer.reading ≡ None → new
    ≡ with_reading site slot (slot_at site slot) (Some place)
    → not file.readable ≡ false → overflows file.offset len ≡ false → len ≡ min (max n buffer.len) facts.read_len
    → offset ≡ file.offset
    → RunsByPlan (λ own answers. on_buffered (slot_at site slot) site
    (λ f b. fill_next slot n f b site facts b.reading own answers)) place [] new facts
    (step.Ask (asked.Read file.grant offset len) (running.FillingBuffer slot n offset true))
fill_asks slot n place offset len file buffer site new facts lt here none is readable room is_len is_offset =
    λ answers. (first answers, λ later. second answers later)
  where
    first : (answers : Answers) → on_buffered (slot_at site slot) site
        (λ f b. fill_next slot n f b site facts b.reading [] answers)
        ≡ Ask (request.Read (handle_of (answers file.grant)) offset len)
    first answers = ap (λ (x : Slot). on_buffered x site (λ f b. fill_next slot n f b site facts b.reading [] answers))
        here
        ∙ (ap (λ (o : Option ℕ). fill_next slot n file buffer site facts o [] answers) none
        ∙ (ap (λ (l : ℕ). ask_read file l site answers) (sym is_len)
        ∙ (skip (not file.readable) (refuse_locally kind.NotReadable site)
        (if overflows file.offset len then refuse_locally kind.OffsetOverflow site else
        Ask (request.Read (handle_of (answers file.grant)) file.offset len)) readable
        ∙ (skip (overflows file.offset len) (refuse_locally kind.OffsetOverflow site)
        (Ask (request.Read (handle_of (answers file.grant)) file.offset len)) room
        ∙ ap (λ (o : ℕ). Ask (request.Read (handle_of (answers file.grant)) o len)) (sym is_offset)))))

    reads : Slot
    reads = Buffered file (record buffer { reading = Some place })

    set : new ≡ with_slot site slot reads
    set = reading_is slot (Some place) file buffer site new here is

    there : slot_at new slot ≡ reads
    there = ap (λ (s : Site). slot_at s slot) set ∙ set_at site slot reads lt

    same : ◌≡◌ {A = Slot → Site} (λ x. with_slot site slot x) (λ x. with_slot new slot x)
    same = λ i x. (sym (set_twice site slot reads x) ∙ ap (λ (s : Site). with_slot s slot x) (sym set)) i

    second : (answers : Answers) (later : Own)
        → on_buffered (slot_at site slot) site (λ f b. fill_next slot n f b site facts b.reading
        ((place, request.Read (handle_of (answers file.grant)) offset len) ∷ later) answers)
        ≡ residual (running.FillingBuffer slot n offset true) [] new facts later answers
    second answers later = ap (λ (x : Slot). on_buffered x site
        (λ f b. fill_next slot n f b site facts b.reading ((
          place,
          request.Read (handle_of (answers file.grant)) offset len,
        ) ∷ later) answers)) here
        ∙ (ap (λ (o : Option ℕ). fill_next slot n file buffer site facts o
        ((place, request.Read (handle_of (answers file.grant)) offset len) ∷ later) answers) none
        ∙ (ap (λ (put : Slot → Site). once_answered place (answers place) (filled n file buffer put)) same
        ∙ sym (ap (λ (x : Slot). once (reading_in x) answers (λ r. on_buffered x new
        (λ f b. with_reply new r (was_filled slot n f b new)))) there)))

-- the READ under way is awaited
pub fill_waits : (slot n place offset p : ℕ) (file : FileAt) (buffer : Buffer) (site : Site) (facts : Facts)
    → slot_at site slot ≡ Buffered file buffer → buffer.reading ≡ Some p
    → RunsByPlan (λ own answers. on_buffered (slot_at site slot) site
    (λ f b. fill_next slot n f b site facts b.reading own answers)) place [] site facts
    (step.Wait (running.FillingBuffer slot n offset false))
fill_waits slot n place offset p file buffer site facts here some = λ answers later.
    ap (λ (x : Slot). on_buffered x site (λ f b. fill_next slot n f b site facts b.reading later answers)) here
    ∙ (ap (λ (o : Option ℕ). fill_next slot n file buffer site facts o later answers) some
    ∙ (sym (ap (λ (o : Option ℕ). once o answers (λ r. with_reply site r (was_filled slot n file buffer site))) some)
    ∙ sym (ap (λ (x : Slot). once (reading_in x) answers (λ r. on_buffered x site
    (λ f b. with_reply site r (was_filled slot n f b site)))) here)))

-- the tests before
pub read_goes : (slot n place : ℕ) (file : FileAt) (buffer : Buffer) (site new : Site) (facts : Facts) (next : Next)
    → slot_at site slot ≡ Buffered file buffer → not file.readable ≡ false → (n == 0) ≡ false
    → (length buffer.bytes == 0) ≡ true
    → RunsByPlan (λ own answers. on_buffered (slot_at site slot) site
    (λ f b. fill_next slot n f b site facts b.reading own answers)) place [] new facts next
    → RunsByPlan (buf_read_next slot n site facts) place [] new facts next
read_goes slot n place file buffer site new facts next here readable some empty g =
    goes_as (λ own answers. on_buffered (slot_at site slot) site
    (λ f b. fill_next slot n f b site facts b.reading own answers)) (buf_read_next slot n site facts) place [] new
    facts next
    (λ own answers. ap (λ (x : Slot). on_buffered x site (buf_read_file_next slot n site facts own answers)) here
    ∙ (skip (not file.readable) (refuse_locally kind.NotReadable site)
    (if n == 0 then Done (outcome.Bytes []) site else from_buffer slot n file buffer site facts buffer.bytes own
    answers) readable
    ∙ (skip (n == 0) (Done (outcome.Bytes []) site) (from_buffer slot n file buffer site facts buffer.bytes own answers)
    some
    ∙ (none_there buffer.bytes empty own answers
    ∙ sym (ap (λ (x : Slot). on_buffered x site (λ f b. fill_next slot n f b site facts b.reading own answers))
    here))))) g
  where
    none_there : (bytes : List ℕ) → (length bytes == 0) ≡ true → (own : Own) (answers : Answers)
        → from_buffer slot n file buffer site facts bytes own answers
        ≡ fill_next slot n file buffer site facts buffer.reading own answers
    none_there [] e own answers = refl
    none_there (b ∷ bytes) e own answers = absurd (grind (arith, nat_tests))

pub fill_leaves : (slot place : ℕ) (file : FileAt) (buffer : Buffer) (site new : Site) → slot_at site slot
    ≡ Buffered file buffer → new ≡ with_reading site slot (slot_at site slot) (Some place)
    → left_on_buffered (slot_at site slot) site (λ f b. with_slot site slot
    (Buffered f (record b { reading = Some place }))) ≡ new
fill_leaves slot place file buffer site new here is =
    ap (λ (x : Slot). left_on_buffered x site (λ f b. with_slot site slot
    (Buffered f (record b { reading = Some place })))) here ∙ sym
    (reading_is slot (Some place) file buffer site new here is)

-- ---- a buffer that is set

pub refilled_keeps : (facts : Facts) (site new : Site) (slot : ℕ) (file moved : FileAt) (buffer : Buffer)
    (bytes : List ℕ) (reading : Option ℕ) → slot_at site slot ≡ Buffered file buffer
    → new ≡ with_slot site slot (Buffered moved (record buffer { bytes = bytes; reading = reading }))
    → (IsWithin facts (Buffered file buffer) → length bytes ≤ (2 ^ 64 - 1) - moved.offset) → KeepsSite facts site new
refilled_keeps facts site new slot file moved buffer bytes reading here is ends =
    subst (λ (s : Site). KeepsSite facts site s) (sym is) (record {
      count = set_count site slot set;
      limit = λ h. (keeps_set facts site (with_slot site slot set) slot set refl
          (fits (subst (λ (x : Slot). IsWithin facts x) here (h slot)))).limit h;
    })
  where
    set : Slot
    set = Buffered moved (record buffer { bytes = bytes; reading = reading })

    fits : IsWithin facts (Buffered file buffer) → IsWithin facts
        (Buffered moved (record buffer { bytes = bytes; reading = reading }))
    fits was = (was.0, ends was)

pub refilled_times : (q : ℕ) (site new : Site) (slot : ℕ) (file moved : FileAt) (buffer : Buffer) (bytes : List ℕ)
    (reading : Option ℕ) → slot < length site.slots → slot_at site slot ≡ Buffered file buffer
    → new ≡ with_slot site slot (Buffered moved (record buffer { bytes = bytes; reading = reading }))
    → slots_times q new.slots + maybe buffer.reading q ≡ slots_times q site.slots + maybe reading q
refilled_times q site new slot file moved buffer bytes reading lt here is =
    let set : slots_times q (slice_set site.slots slot (Buffered moved
    (record buffer { bytes = bytes; reading = reading }))) + slot_times q (slice_index_or site.slots slot Empty)
    ≡ slots_times q site.slots + (maybe reading q + writes_times q buffer.deferred)
    = set_times q site.slots slot (Buffered moved (record buffer { bytes = bytes; reading = reading })) lt in
    let was : slot_times q (slice_index_or site.slots slot Empty)
    ≡ maybe buffer.reading q + writes_times q buffer.deferred = ap (slot_times q) here in
    let same : slots_times q new.slots ≡ slots_times q (slice_set site.slots slot
    (Buffered moved (record buffer { bytes = bytes; reading = reading }))) =
    ap (λ (s : Site). slots_times q s.slots) is in
    omega (arith, set, was, same)

pub more_at_most : (old new was more : ℕ) → new + was ≡ old + more → new ≤ old + more
more_at_most old new was more e = omega (arith, e)

pub less_at_most : (old new was : ℕ) → new + was ≡ old + 0 → new ≤ old - was
less_at_most old new was e = omega (arith, e)

-- where the file stands after the bytes that were given, the others end where they did
pub given_ends : (n offset : ℕ) (bytes : List ℕ) → length bytes ≤ (2 ^ 64 - 1) - offset
    → length (drop n bytes) ≤ (2 ^ 64 - 1) - (offset + length (take n bytes))
given_ends n offset bytes le = (let cut : length (drop n bytes) ≡ length bytes - n = length-drop n bytes in
    let taken : length (take n bytes) ≡ min n (length bytes) = length-take n bytes in omega (arith, cut, taken, le))

-- the read under way is over
pub reading_over : (site new : Site) (slot : ℕ) (file moved : FileAt) (buffer : Buffer) (bytes : List ℕ)
    → slot < length site.slots → slot_at site slot ≡ Buffered file buffer
    → new ≡ with_slot site slot (Buffered moved (record buffer { bytes = bytes; reading = None })) → (q : ℕ)
    → slots_times q new.slots ≤ slots_times q site.slots - maybe (reading_in (slot_at site slot)) q
reading_over site new slot file moved buffer bytes lt here is q =
    subst (λ (x : Slot). slots_times q new.slots ≤ slots_times q site.slots - maybe (reading_in x) q) (sym here)
    (less_at_most (slots_times q site.slots) (slots_times q new.slots) (maybe buffer.reading q)
    (refilled_times q site new slot file moved buffer bytes None lt here is))

pub reading_gone : (site new : Site) (slot : ℕ) (file : FileAt) (buffer : Buffer) → slot < length site.slots
    → slot_at site slot ≡ Buffered file buffer → new ≡ with_reading site slot (slot_at site slot) None
    → (q : ℕ) → slots_times q new.slots ≤ slots_times q site.slots - maybe (reading_in (slot_at site slot)) q
reading_gone site new slot file buffer lt here is = reading_over site new slot file file buffer buffer.bytes lt here
    (reading_is slot None file buffer site new here is)

pub kept_times : (q : ℕ) (site new : Site) (slot : ℕ) (file moved : FileAt) (buffer : Buffer) (bytes : List ℕ)
    → slot < length site.slots → slot_at site slot ≡ Buffered file buffer
    → new ≡ with_slot site slot (Buffered moved (record buffer { bytes = bytes }))
    → slots_times q new.slots ≤ slots_times q site.slots
kept_times q site new slot file moved buffer bytes lt here is =
    (let same : slots_times q new.slots + maybe buffer.reading q ≡ slots_times q site.slots + maybe buffer.reading q =
    refilled_times q site new slot file moved buffer bytes buffer.reading lt here is in omega (arith, same))
