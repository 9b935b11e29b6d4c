-- A WRITE that is deferred, or waits at a full window.
use Rattle.std.proofs.Common.{
  ◌≡◌,
  ◌∙◌,
  ◌<◌,
  ◌≤◌,
  ◌+◌,
  ◌-◌,
  ◌^◌,
  ◌==◌,
  ◌++◌,
  ap,
  refl,
  sym,
  subst,
  arith,
  length-drop,
  take,
  take_all,
  ℕ,
  Bool,
  true,
  false,
  List,
  [],
  ◌∷◌,
  Option,
  Some,
  None,
  drop,
  length,
  if◌then◌else◌,
}
use Rattle.std.specs.Prelude.{IfOk, Result, not, slice_index_or, slice_set}
use Rattle.ssh_encoding.specs.declared.out_of_memory.OutOfMemory.{OutOfMemory}
use Rattle.sftp_model.specs.declared.error.IoKind.TheVariants as kind
use Rattle.std.proofs.lemmas.List.{drop-drop}
use Rattle.sftp_model.specs.declared.request.Request.{Request}
use Rattle.sftp_model.specs.declared.outcome.Outcome.TheVariants as outcome
use Rattle.sftp_model.specs.declared.reply.Reply.{Reply}
use Rattle.sftp_model.specs.declared.slot.FileAt.{FileAt}
use Rattle.sftp_model.specs.declared.slot.Buffer.{Buffer}
use Rattle.sftp_model.specs.declared.slot.Facts.{Facts}
use Rattle.sftp_model.specs.declared.slot.Move.{Move}
use Rattle.sftp_model.specs.declared.slot.Move.TheVariants.{Done}
use Rattle.sftp_model.specs.declared.slot.Site.{Site}
use Rattle.sftp_model.specs.declared.slot.Slot.{Slot}
use Rattle.sftp_model.specs.declared.slot.Slot.TheVariants.{Empty, Buffered}
use Rattle.sftp_model.specs.Slots.{slot_at, with_slot}
use Rattle.plan_model.specs.Moves.{Answers, Own, on_buffered, left_on_buffered, further, refuse_locally}
use Rattle.plan_model.specs.BufferPlans.{
  after_write,
  after_writes,
  ask_deferred,
  buf_write_all_next,
  buf_write_file_next,
  buf_write_next,
  buffered_rest,
  cancelled_buf_write,
  deferrable_len,
  with_oldest_settled,
  pending_bytes,
  send_next,
  taken_out,
  with_capacity,
  written_slot,
}
use Rattle.plan_runner.specs.declared.buffer_write.Deferral.{Deferral}
use Rattle.plan_runner.specs.declared.buffer_write.Deferral.TheVariants as deferral
use Rattle.plan_runner.specs.declared.next.Next.{Next}
use Rattle.plan_runner.specs.declared.next.Running.{Running}
use Rattle.plan_runner.specs.declared.next.Running.TheVariants as running
use Rattle.plan_runner.specs.Buffers.{running_after, but_oldest, must_wait, oldest, rest_of, room_made, sent_next, without_oldest}
use Rattle.plan_runner.specs.Deferrals.{IsDeferral, settled_next, settled_site}
use Rattle.plan_runner.specs.Runners.{RunsByPlan, after, failure_of, request_with_handles, once, residual, with_reply}
use Rattle.plan_runner.specs.Cancelling.{LeavesCancelled, left_behind}
use Rattle.plan_runner.specs.Sound.{AreWithin, HasDone, IsFullAt, IsWithin, KeepsSite, IsRunningSound, KeepsRunningSound}
use Rattle.plan_runner.specs.Pending.{PendsAfter, maybe, one, pends, pends_after, slot_times, slots_times, writes_times}
use Rattle.plan_runner.proofs.Flushes.{keeps_oldest, oldest_less}
use Rattle.plan_runner.proofs.Going.{goes_as, goes_if_ok, good_goes}
use Rattle.plan_runner.proofs.SlotSets.{set_at, set_twice}
use Rattle.plan_runner.proofs.Fewer.{set_times}
use Rattle.plan_runner.proofs.Keeping.{keeps_self, keeps_set, keeps_then, set_count}

-- ---- the plan

skip : (b : Bool) (x y : Move) → b ≡ false → (if b then x else y) ≡ y
skip b x y is = rw is refl

sent_first : (slot : ℕ) (start : Option ℕ) (file : FileAt) (bytes : List ℕ) (facts : Facts) (answers : Answers)
    (buffer : Buffer) (site : Site)
    → sent_next slot start file bytes facts [] answers buffer site
    ≡ ask_deferred file (rest_of start bytes) facts answers buffer site
sent_first slot None file bytes facts answers buffer site = refl
sent_first slot (Some done) file bytes facts answers buffer site = refl

-- after its request the call has ended, or goes on with the rest
sent_later : (slot : ℕ) (start : Option ℕ) (file : FileAt) (bytes : List ℕ) (facts : Facts) (asked : ℕ × Request)
    (later : Own) (answers : Answers) (buffer : Buffer) (site new : Site) → slot < length site.slots
    → new ≡ with_slot site slot (written_slot file buffer asked.0 (deferrable_len facts (rest_of start bytes) buffer))
    → sent_next slot start file bytes facts (asked ∷ later) answers buffer site
    ≡ residual (running_after slot start (deferrable_len facts (rest_of start bytes) buffer)) bytes new facts later
    answers
sent_later slot None file bytes facts asked later answers buffer site new lt is =
    ap (λ (s : Site). Done (outcome.Count (deferrable_len facts bytes buffer)) s) (sym is)
sent_later slot (Some done) file bytes facts asked later answers buffer site new lt is =
    let n : ℕ = deferrable_len facts (drop done bytes) buffer in
    let there : slot_at new slot ≡ written_slot file buffer asked.0 n = ap (λ (s : Site). slot_at s slot) is
    ∙ set_at site slot (written_slot file buffer asked.0 n) lt in
    ap (λ (s : Site). buffered_rest slot (drop n (drop done bytes)) (further file n) (after_write buffer asked.0 n) s
    facts later answers) (sym is)
    ∙ (ap (λ (b : List ℕ). buffered_rest slot b (further file n) (after_write buffer asked.0 n) new facts later answers)
    (drop-drop n done bytes)
    ∙ sym (ap (λ (x : Slot). on_buffered x new (λ f b. buffered_rest slot (drop (done + n) bytes) f b new facts later
    answers)) there))

pub settled_goes : (slot : ℕ) (start : Option ℕ) (file : FileAt) (buffer : Buffer) (bytes : List ℕ) (place : ℕ)
    (site new : Site) (facts : Facts) (d : Deferral) (n : Next) → slot < length site.slots
    → IsDeferral slot start file buffer bytes place facts d → n ≡ settled_next d → new ≡ settled_site slot d site
    → RunsByPlan (λ own answers. sent_next slot start file bytes facts own answers buffer site) place bytes new facts n
settled_goes slot start file buffer bytes place site new facts (deferral.Refused o) n lt is to at =
    subst (λ (m : Next). RunsByPlan (λ own answers. sent_next slot start file bytes facts own answers buffer site) place
    bytes new facts m) (sym to)
    (λ answers. sent_first slot start file bytes facts answers buffer site
    ∙ (is site answers ∙ ap (λ (s : Site). Done o s) (sym at)))
settled_goes slot start file buffer bytes place site new facts (deferral.Asked a r held) n lt is to at =
    subst (λ (m : Next). RunsByPlan (λ own answers. sent_next slot start file bytes facts own answers buffer site) place
    bytes new facts m) (sym to)
    (λ answers. (
      sent_first slot start file bytes facts answers buffer site ∙ is.0 site answers,
      λ later. sent_later slot start file bytes facts (place, request_with_handles a answers) later answers buffer site
          new lt
          (at ∙ ap (λ (x : Slot). with_slot site slot x) is.3)
          ∙ ap (λ (x : Running). residual x bytes new facts later answers) (sym is.2),
    ))

-- ---- a window that is full, or not

pub not_full : (slot : ℕ) (file : FileAt) (buffer : Buffer) (site : Site) (limit : ℕ) (answers : Answers)
    (go : Buffer → Site → Move) (writes : List (ℕ × ℕ)) → must_wait limit writes ≡ false
    → (if pending_bytes writes == limit then taken_out slot file buffer site answers writes go else go buffer site)
    ≡ go buffer site
not_full slot file buffer site limit answers go [] not = by_test (0 == limit)
  where
    by_test : (b : Bool) → (if b then go buffer site else go buffer site) ≡ go buffer site
    by_test true = refl
    by_test false = refl
not_full slot file buffer site limit answers go (write ∷ writes) not = rw not refl

pub none_freed : (buffer : Buffer) (limit : ℕ) (writes : List (ℕ × ℕ)) → must_wait limit writes ≡ false
    → (◌≡◌ {A = Buffer} (if pending_bytes writes == limit then record buffer { deferred = drop 1 writes } else
    record buffer { deferred = writes }) (record buffer { deferred = writes }))
none_freed buffer limit [] not = by_test (0 == limit)
  where
    by_test : (b : Bool) → (◌≡◌ {A = Buffer} (if b then record buffer { deferred = [] } else
        record buffer { deferred = [] }) (record buffer { deferred = [] }))
    by_test true = refl
    by_test false = refl
none_freed buffer limit (write ∷ writes) not = rw not refl

-- at a full window the oldest status is awaited
room_waits : (slot : ℕ) (file : FileAt) (buffer : Buffer) (site : Site) (limit : ℕ) (answers : Answers)
    (go : Buffer → Site → Move) (writes : List (ℕ × ℕ)) → must_wait limit writes ≡ true
    → (if pending_bytes writes == limit then taken_out slot file buffer site answers writes go else go buffer site)
    ≡ once (oldest writes) answers (λ r. with_reply site r (λ y. room_made slot file buffer site writes y go))
room_waits slot file buffer site limit answers go [] full = absurd cc
room_waits slot file buffer site limit answers go (write ∷ writes) full = rw full refl

pub full_waits : (slot : ℕ) (start : Option ℕ) (file : FileAt) (buffer : Buffer) (bytes : List ℕ) (site : Site)
    (facts : Facts) (later : Own) (answers : Answers) → slot_at site slot ≡ Buffered file buffer
    → must_wait facts.write_limit buffer.deferred ≡ true
    → on_buffered (slot_at site slot) site (λ f b. with_capacity slot f b site facts answers
    (sent_next slot start f bytes facts later answers)) ≡ residual (running.AwaitingRoom slot start) bytes site
    facts later answers
full_waits slot start file buffer bytes site facts later answers at full =
    rw at (room_waits slot file buffer site facts.write_limit answers
    (sent_next slot start file bytes facts later answers) buffer.deferred full)

pub is_full_of : (limit : ℕ) (writes : List (ℕ × ℕ)) → must_wait limit writes ≡ true → (pending_bytes writes == limit)
    ≡ true
is_full_of limit [] full = absurd cc
is_full_of limit (write ∷ writes) full = full

-- ---- what is left

pub settled_leaves : (slot : ℕ) (start : Option ℕ) (file : FileAt) (whole buffer : Buffer) (bytes : List ℕ) (place : ℕ)
    (old site new : Site) (facts : Facts) (d : Deferral) (n : Next) → slot < length old.slots → slot_at old slot
    ≡ Buffered file whole
    → with_oldest_settled facts whole ≡ buffer → ((x : Slot) → with_slot site slot x ≡ with_slot old slot x)
    → IsDeferral slot start file buffer bytes place facts d → n ≡ settled_next d → new ≡ settled_site slot d site
    → LeavesCancelled (cancelled_buf_write slot old facts) place bytes new facts n
settled_leaves slot start file whole buffer bytes place old site new facts (deferral.Refused o) n lt here free same is
    to at = rw to tt
settled_leaves slot start file whole buffer bytes place old site new facts (deferral.Asked a r held) n lt here free same
    is to at =
    subst (λ (m : Next). LeavesCancelled (cancelled_buf_write slot old facts) place bytes new facts m) (sym to)
    (λ answers later.
    from_old answers later ∙ (sym (from_new answers later) ∙ (by_start start answers later
    ∙ ap (λ (x : Running). left_behind x bytes new facts later answers) (sym is.2))))
  where
    len : ℕ
    len = deferrable_len facts (rest_of start bytes) buffer

    written : Slot
    written = written_slot file buffer place len

    set : new ≡ with_slot old slot written
    set = at ∙ (ap (λ (x : Slot). with_slot site slot x) is.3 ∙ same written)

    from_old : (answers : Answers) (later : Own) → cancelled_buf_write slot old facts
        ((place, request_with_handles a answers) ∷ later) answers ≡ with_slot old slot
        (after_writes facts (further file len) (after_write buffer place len) later)
    from_old answers later = ap (λ (x : Slot). left_on_buffered x old
        (λ f b. with_slot old slot (after_writes facts f b ((place, request_with_handles a answers) ∷ later)))) here
        ∙ (ap (λ (k : ℕ). with_slot old slot (after_writes facts (further file k)
        (after_write (with_oldest_settled facts whole) place k) later)) (is.1 answers)
        ∙ ap (λ (b : Buffer). with_slot old slot (after_writes facts (further file len) (after_write b place len)
        later)) free)

    from_new : (answers : Answers) (later : Own) → cancelled_buf_write slot new facts later answers
        ≡ with_slot old slot (after_writes facts (further file len) (after_write buffer place len) later)
    from_new answers later = ap (λ (s : Site). cancelled_buf_write slot s facts later answers) set
        ∙ (ap (λ (x : Slot). left_on_buffered x (with_slot old slot written)
        (λ f b. with_slot (with_slot old slot written) slot (after_writes facts f b later)))
        (set_at old slot written lt)
        ∙ set_twice old slot written (after_writes facts (further file len) (after_write buffer place len) later))

    by_start : (x : Option ℕ) (answers : Answers) (later : Own) → cancelled_buf_write slot new facts later answers
        ≡ left_behind (running_after slot x len) bytes new facts later answers
    by_start None answers later = refl
    by_start (Some done) answers later = refl

-- ---- what is known, and awaited

pub at_most_self : (n : ℕ) → n ≤ n
at_most_self n = omega arith

pending_more : (writes : List (ℕ × ℕ)) (place n : ℕ) → pending_bytes (writes ++ (place, n) ∷ [])
    ≡ pending_bytes writes + n
pending_more [] place n = omega arith
pending_more (write ∷ writes) place n = (let rest : pending_bytes (writes ++ (place, n) ∷ [])
    ≡ pending_bytes writes + n =
    pending_more writes place n in omega (arith, rest))

times_more : (q : ℕ) (writes : List (ℕ × ℕ)) (place n : ℕ) → writes_times q (writes ++ (place, n) ∷ [])
    ≡ writes_times q writes + one place q
times_more q [] place n = omega arith
times_more q (write ∷ writes) place n = (let rest : writes_times q (writes ++ (place, n) ∷ [])
    ≡ writes_times q writes + one place q = times_more q writes place n in omega (arith, rest))

written_within : (facts : Facts) (file : FileAt) (buffer : Buffer) (place n : ℕ)
    → n ≤ facts.write_limit - pending_bytes buffer.deferred → IsWithin facts (Buffered file buffer)
    → IsWithin facts (written_slot file buffer place n)
written_within facts file buffer place n le was =
    let more : pending_bytes (buffer.deferred ++ (place, n) ∷ []) ≡ pending_bytes buffer.deferred + n =
    pending_more buffer.deferred place n in
    let cut : length (drop n buffer.bytes) ≡ length buffer.bytes - n = length-drop n buffer.bytes in
    let limit : pending_bytes buffer.deferred ≤ facts.write_limit = was.0 in
    let ends : length buffer.bytes ≤ (2 ^ 64 - 1) - file.offset = was.1 in
    (omega (arith, more, limit, le), omega (arith, cut, ends))

pub settled_sound : (slot : ℕ) (start : Option ℕ) (file : FileAt) (buffer : Buffer) (bytes : List ℕ) (place : ℕ)
    (site new : Site) (facts : Facts) (d : Deferral) (n : Next) → slot < length site.slots → HasDone start bytes
    → IsWithin facts (Buffered file buffer) → IsDeferral slot start file buffer bytes place facts d → n ≡ settled_next d
    → new ≡ settled_site slot d site → KeepsRunningSound bytes facts site new n
settled_sound slot start file buffer bytes place site new facts (deferral.Refused o) n lt has was is to at =
    subst (λ (m : Next). KeepsRunningSound bytes facts site new m) (sym to)
    (subst (λ (s : Site). KeepsSite facts site s) (sym at) (keeps_self facts site), tt)
settled_sound slot start file buffer bytes place site new facts (deferral.Asked a r held) n lt has was is to at =
    subst (λ (m : Next). KeepsRunningSound bytes facts site new m) (sym to)
    (keep, subst (λ (x : Running). IsRunningSound x bytes new facts) (sym is.2) (by_start start refl has))
  where
    len : ℕ
    len = deferrable_len facts (rest_of start bytes) buffer

    keep : KeepsSite facts site new
    keep = keeps_set facts site new slot (written_slot file buffer place len)
        (at ∙ ap (λ (x : Slot). with_slot site slot x) is.3) (written_within facts file buffer place len (omega arith)
        was)

    by_start : (x : Option ℕ) → x ≡ start → HasDone x bytes → IsRunningSound (running_after slot x len) bytes new facts
    by_start None same h = tt
    by_start (Some done) same h = (
      subst (λ (k : ℕ). slot < k) (sym keep.count) lt,
      let rest : len ≡ deferrable_len facts (drop done bytes) buffer =
          ap (λ (y : Option ℕ). deferrable_len facts (rest_of y bytes) buffer) (sym same) in
          let cut : length (drop done bytes) ≡ length bytes - done = length-drop done bytes in
          omega (arith, rest, cut, h),
    )

pub settled_pends : (before : ℕ → ℕ) (slot : ℕ) (start : Option ℕ) (file : FileAt) (buffer : Buffer) (bytes : List ℕ)
    (place : ℕ) (site new : Site) (facts : Facts) (d : Deferral) (n : Next) → slot < length site.slots
    → slot_at site slot ≡ Buffered file buffer
    → ((q : ℕ) → slots_times q site.slots ≤ before q) → IsDeferral slot start file buffer bytes place facts d → n
    ≡ settled_next d → new ≡ settled_site slot d site → PendsAfter before place new n
settled_pends before slot start file buffer bytes place site new facts (deferral.Refused o) n lt here le is to at =
    subst (λ (m : Next). PendsAfter before place new m) (sym to)
    (λ q. subst (λ (s : Site). slots_times q s.slots ≤ before q) (sym at) (le q))
settled_pends before slot start file buffer bytes place site new facts (deferral.Asked a r held) n lt here le is to at =
    subst (λ (m : Next). PendsAfter before place new m) (sym to) (λ q. subst
    (λ (x : Running). pends q (Some x) new ≤ before q + one place q) (sym is.2) (by_start start q))
  where
    len : ℕ
    len = deferrable_len facts (rest_of start bytes) buffer

    more : (q : ℕ) → slots_times q new.slots ≤ before q + one place q
    more q =
        let set : slots_times q (slice_set site.slots slot (written_slot file buffer place len)) + slot_times q
        (slice_index_or site.slots slot Empty) ≡ slots_times q site.slots +
        (0 + writes_times q (buffer.deferred ++ (place, len) ∷ []))
        = set_times q site.slots slot (written_slot file buffer place len) lt in
        let was : slot_times q (slice_index_or site.slots slot Empty)
        ≡ maybe buffer.reading q + writes_times q buffer.deferred = ap (slot_times q) here in
        let grown : writes_times q (buffer.deferred ++ (place, len) ∷ [])
        ≡ writes_times q buffer.deferred + one place q = times_more q buffer.deferred place len in
        let same : slots_times q new.slots ≡ slots_times q (slice_set site.slots slot
        (written_slot file buffer place len)) = ap (λ (s : Site). slots_times q s.slots)
        (at ∙ ap (λ (x : Slot). with_slot site slot x) is.3) in
        let old : slots_times q site.slots ≤ before q = le q in
        omega (arith, set, was, grown, same, old)

    by_start : (x : Option ℕ) (q : ℕ) → pends q (Some (running_after slot x len)) new ≤ before q + one place q
    by_start None q = more q
    by_start (Some done) q = more q

-- ---- a window with room

pub sent_goes : (slot : ℕ) (start : Option ℕ) (file : FileAt) (buffer : Buffer) (bytes : List ℕ) (place : ℕ)
    (site new : Site) (facts : Facts) (d : Deferral) (n : Next) → slot < length site.slots → slot_at site slot
    ≡ Buffered file buffer
    → must_wait facts.write_limit buffer.deferred ≡ false → IsDeferral slot start file buffer bytes place facts d → n
    ≡ settled_next d → new ≡ settled_site slot d site
    → RunsByPlan (λ own answers. on_buffered (slot_at site slot) site
    (λ f b. with_capacity slot f b site facts answers (sent_next slot start f bytes facts own answers))) place bytes
    new facts n
sent_goes slot start file buffer bytes place site new facts d n lt here not is to at =
    goes_as (λ own answers. sent_next slot start file bytes facts own answers buffer site)
    (λ own answers. on_buffered (slot_at site slot) site (λ f b. with_capacity slot f b site facts answers
    (sent_next slot start f bytes facts own answers))) place bytes new facts n
    (λ own answers. ap (λ (x : Slot). on_buffered x site (λ f b. with_capacity slot f b site facts answers
    (sent_next slot start f bytes facts own answers))) here
    ∙ not_full slot file buffer site facts.write_limit answers (sent_next slot start file bytes facts own answers)
    buffer.deferred not)
    (settled_goes slot start file buffer bytes place site new facts d n lt is to at)

-- ---- the oldest write made way

pub tail_is : (writes : List (ℕ × ℕ)) → take (length writes - 1) (drop 1 writes) ≡ drop 1 writes
tail_is [] = refl
tail_is (write ∷ writes) = (let n : length (write ∷ writes) - 1 ≡ length writes = omega arith in
    rw n (take_all (length writes) writes (at_most_self (length writes))))

but_is : (writes : List (ℕ × ℕ)) → but_oldest writes ≡ drop 1 writes
but_is [] = refl
but_is (write ∷ writes) = refl

-- the site without the oldest write
pub without_is : (slot : ℕ) (file : FileAt) (whole : Buffer) (old mid : Site) → slot_at old slot ≡ Buffered file whole
    → mid ≡ without_oldest old slot (slot_at old slot) → mid ≡ with_slot old slot
    (Buffered file (record whole { deferred = drop 1 whole.deferred }))
without_is slot file whole old mid here is = is ∙ (ap (λ (x : Slot). without_oldest old slot x) here
    ∙ ap (λ w. with_slot old slot (Buffered file (record whole { deferred = w }))) (but_is whole.deferred))

made_goes : (slot : ℕ) (file : FileAt) (whole : Buffer) (site : Site) (r : Reply) (go : Buffer → Site → Move)
    (writes : List (ℕ × ℕ)) → 1 ≤ length writes → failure_of r ≡ None
    → room_made slot file whole site writes r go ≡ go (record whole { deferred = drop 1 writes })
    (with_slot site slot (Buffered file (record whole { deferred = drop 1 writes })))
made_goes slot file whole site r go [] some good = absurd (omega (arith, some))
made_goes slot file whole site r go (write ∷ writes) some good =
    good_goes r (with_slot site slot (Buffered file (record whole { deferred = writes })))
    (go (record whole { deferred = writes }) (with_slot site slot
    (Buffered file (record whole { deferred = writes })))) good

pub room_goes : (slot : ℕ) (start : Option ℕ) (file : FileAt) (whole : Buffer) (bytes : List ℕ) (place : ℕ)
    (old mid new : Site) (facts : Facts) (r : Reply) (d : Deferral) (n : Next) → slot < length old.slots
    → slot_at old slot ≡ Buffered file whole
    → 1 ≤ length whole.deferred → failure_of r ≡ None → mid ≡ without_oldest old slot (slot_at old slot)
    → IsDeferral slot start file (record whole { deferred = drop 1 whole.deferred }) bytes place facts d → n
    ≡ settled_next d → new ≡ settled_site slot d mid
    → RunsByPlan (after (running.AwaitingRoom slot start) bytes old facts (Some r)) place bytes new facts n
room_goes slot start file whole bytes place old mid new facts r d n lt here some good freed_at is to at =
    let b : Buffer = record whole { deferred = drop 1 whole.deferred } in
    let same : mid ≡ with_slot old slot (Buffered file b) = without_is slot file whole old mid here freed_at in
    goes_as (λ own answers. sent_next slot start file bytes facts own answers b mid)
    (after (running.AwaitingRoom slot start) bytes old facts (Some r)) place bytes new facts n
    (λ own answers. ap (λ (x : Slot). on_buffered x old (λ f w. room_made slot f w old w.deferred r
    (sent_next slot start f bytes facts own answers))) here
    ∙ (made_goes slot file whole old r (sent_next slot start file bytes facts own answers) whole.deferred some good
    ∙ ap (λ (s : Site). sent_next slot start file bytes facts own answers b s) (sym same)))
    (settled_goes slot start file b bytes place mid new facts d n
    (subst (λ (s : Site). slot < length s.slots) (sym same) (subst (λ (k : ℕ). slot < k)
    (sym (set_count old slot (Buffered file b))) lt)) is to at)

pub room_leaves : (slot : ℕ) (start : Option ℕ) (file : FileAt) (whole : Buffer) (bytes : List ℕ) (place : ℕ)
    (old mid new : Site) (facts : Facts) (d : Deferral) (n : Next) → slot < length old.slots → slot_at old slot
    ≡ Buffered file whole
    → IsFullAt facts (slot_at old slot) → mid ≡ without_oldest old slot (slot_at old slot)
    → IsDeferral slot start file (record whole { deferred = drop 1 whole.deferred }) bytes place facts d → n
    ≡ settled_next d → new ≡ settled_site slot d mid
    → LeavesCancelled (cancelled_buf_write slot old facts) place bytes new facts n
room_leaves slot start file whole bytes place old mid new facts d n lt here full freed_at is to at =
    let b : Buffer = record whole { deferred = drop 1 whole.deferred } in
    let is_full_there : (pending_bytes whole.deferred == facts.write_limit) ≡ true =
    subst (λ (x : Slot). IsFullAt facts x) here full in
    settled_leaves slot start file whole b bytes place old mid new facts d n lt here (rw is_full_there refl)
    (λ x. ap (λ (s : Site). with_slot s slot x) (without_is slot file whole old mid here freed_at)
    ∙ set_twice old slot (Buffered file b) x) is to at

pub room_sound : (slot : ℕ) (start : Option ℕ) (file : FileAt) (whole : Buffer) (bytes : List ℕ) (place : ℕ)
    (old mid new : Site) (facts : Facts) (d : Deferral) (n : Next) → slot < length old.slots → slot_at old slot
    ≡ Buffered file whole
    → HasDone start bytes → AreWithin facts old → mid ≡ without_oldest old slot (slot_at old slot)
    → IsDeferral slot start file (record whole { deferred = drop 1 whole.deferred }) bytes place facts d → n
    ≡ settled_next d → new ≡ settled_site slot d mid
    → KeepsRunningSound bytes facts old new n
room_sound slot start file whole bytes place old mid new facts d n lt here has within freed_at is to at =
    let b : Buffer = record whole { deferred = drop 1 whole.deferred } in
    let same : mid ≡ with_slot old slot (Buffered file b) = without_is slot file whole old mid here freed_at in
    let there : slot_at mid slot ≡ Buffered file b = ap (λ (s : Site). slot_at s slot) same
    ∙ set_at old slot (Buffered file b) lt in
    let keep : KeepsSite facts old mid = keeps_oldest facts old mid slot freed_at in
    let s : KeepsRunningSound bytes facts mid new n = settled_sound slot start file b bytes place mid new facts d n
    (subst (λ (k : ℕ). slot < k) (sym keep.count) lt) has (subst (λ (x : Slot). IsWithin facts x) there
    (keep.limit within slot)) is to at in
    (keeps_then facts old mid new keep s.0, s.1)

pub room_pends : (slot : ℕ) (start : Option ℕ) (file : FileAt) (whole : Buffer) (bytes : List ℕ) (place : ℕ)
    (old mid new : Site) (facts : Facts) (r : Reply) (d : Deferral) (n : Next) → slot < length old.slots
    → slot_at old slot ≡ Buffered file whole
    → mid ≡ without_oldest old slot (slot_at old slot) → IsDeferral slot start file
    (record whole { deferred = drop 1 whole.deferred }) bytes place facts d → n ≡ settled_next d → new
    ≡ settled_site slot d mid
    → PendsAfter (pends_after (running.AwaitingRoom slot start) old (Some r)) place new n
room_pends slot start file whole bytes place old mid new facts r d n lt here freed_at is to at =
    let b : Buffer = record whole { deferred = drop 1 whole.deferred } in
    let same : mid ≡ with_slot old slot (Buffered file b) = without_is slot file whole old mid here freed_at in
    let there : slot_at mid slot ≡ Buffered file b = ap (λ (s : Site). slot_at s slot) same
    ∙ set_at old slot (Buffered file b) lt in
    let keep : KeepsSite facts old mid = keeps_oldest facts old mid slot freed_at in
    settled_pends (pends_after (running.AwaitingRoom slot start) old (Some r)) slot start file b bytes place mid new
    facts d n (subst (λ (k : ℕ). slot < k) (sym keep.count) lt) there
    (λ q. oldest_less old mid slot (slot_at old slot) lt refl freed_at q) is to at

-- ---- the tests before

pub begin_goes : (slot : ℕ) (bytes : List ℕ) (file : FileAt) (buffer : Buffer) (place : ℕ) (site new : Site)
    (facts : Facts) (n : Result Next OutOfMemory) → slot_at site slot ≡ Buffered file buffer → not file.writable ≡ false
    → (length bytes == 0) ≡ false
    → IfOk n (λ x. RunsByPlan (λ own answers. on_buffered (slot_at site slot) site
    (λ f b. with_capacity slot f b site facts answers (sent_next slot None f bytes facts own answers))) place bytes
    new facts x)
    → IfOk n (λ x. RunsByPlan (buf_write_next slot bytes site facts) place bytes new facts x)
begin_goes slot bytes file buffer place site new facts n here writable some g =
    goes_if_ok (λ own answers. on_buffered (slot_at site slot) site
    (λ f b. with_capacity slot f b site facts answers (sent_next slot None f bytes facts own answers)))
    (buf_write_next slot bytes site facts) place bytes new facts n
    (λ own answers. ap (λ (x : Slot). on_buffered x site (buf_write_file_next slot bytes site facts own answers)) here
    ∙ (skip (not file.writable) (refuse_locally kind.NotWritable site)
    (if length bytes == 0 then Done (outcome.Count 0) site else
    with_capacity slot file buffer site facts answers (send_next slot file bytes facts own answers)) writable
    ∙ (skip (length bytes == 0) (Done (outcome.Count 0) site) (with_capacity slot file buffer site facts answers
    (send_next slot file bytes facts own answers)) some
    ∙ sym (ap (λ (x : Slot). on_buffered x site (λ f b. with_capacity slot f b site facts answers
    (sent_next slot None f bytes facts own answers))) here)))) g

pub rest_goes : (slot done : ℕ) (bytes : List ℕ) (file : FileAt) (buffer : Buffer) (place : ℕ) (site new : Site)
    (facts : Facts) (n : Result Next OutOfMemory) → slot_at site slot ≡ Buffered file buffer
    → (length (drop done bytes) == 0) ≡ false → not file.writable ≡ false
    → IfOk n (λ x. RunsByPlan (λ own answers. on_buffered (slot_at site slot) site
    (λ f b. with_capacity slot f b site facts answers (sent_next slot (Some done) f bytes facts own answers))) place
    bytes new facts x)
    → IfOk n (λ x. RunsByPlan (buf_write_all_next slot (drop done bytes) site facts) place bytes new facts x)
rest_goes slot done bytes file buffer place site new facts n here some writable g =
    goes_if_ok (λ own answers. on_buffered (slot_at site slot) site
    (λ f b. with_capacity slot f b site facts answers (sent_next slot (Some done) f bytes facts own answers)))
    (buf_write_all_next slot (drop done bytes) site facts) place bytes new facts n
    (λ own answers. ap (λ (x : Slot). on_buffered x site (λ f b. buffered_rest slot (drop done bytes) f b site facts own
    answers)) here
    ∙ (by_own own answers
    ∙ sym (ap (λ (x : Slot). on_buffered x site (λ f b. with_capacity slot f b site facts answers
    (sent_next slot (Some done) f bytes facts own answers))) here))) g
  where
    by_own : (own : Own) (answers : Answers) → buffered_rest slot (drop done bytes) file buffer site facts own answers
        ≡ with_capacity slot file buffer site facts answers (sent_next slot (Some done) file bytes facts own answers)
    by_own [] answers =
        skip (length (drop done bytes) == 0) (Done outcome.Done site)
        (if not file.writable then refuse_locally kind.NotWritable site else
        with_capacity slot file buffer site facts answers (ask_deferred file (drop done bytes) facts answers)) some
        ∙ skip (not file.writable) (refuse_locally kind.NotWritable site)
        (with_capacity slot file buffer site facts answers (ask_deferred file (drop done bytes) facts answers))
        writable
    by_own (asked ∷ later) answers = refl
