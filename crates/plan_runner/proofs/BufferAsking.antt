-- What calls on buffered files ask, and what they wait for.
use Rattle.std.proofs.Common.{◌≡◌, ◌∙◌, ◌≤◌, ◌<◌, ◌+◌, ◌^◌, ap, refl, sym, subst, arith, inl, ℕ, Bool, true, false, List, [], ◌∷◌, Option, Some, None, length}
use Rattle.std.specs.Prelude.{is_some}
use Rattle.std.proofs.lemmas.Bool.Decides.{nat_tests}
use Rattle.sftp_model.specs.declared.request.Request.TheVariants as request
use Rattle.sftp_model.specs.declared.reply.Reply.{Reply}
use Rattle.sftp_model.specs.declared.reply.Reply.TheVariants as reply
use Rattle.sftp_model.specs.declared.slot.FileAt.{FileAt}
use Rattle.sftp_model.specs.declared.slot.Buffer.{Buffer}
use Rattle.sftp_model.specs.declared.slot.Facts.{Facts}
use Rattle.sftp_model.specs.declared.slot.Site.{Site}
use Rattle.sftp_model.specs.declared.slot.Slot.{Slot}
use Rattle.sftp_model.specs.declared.slot.Slot.TheVariants.{Buffered}
use Rattle.sftp_model.specs.Answers.{may_answer}
use Rattle.sftp_model.specs.Slots.{has_grant, slot_at}
use Rattle.plan_model.specs.Moves.{handle_of, overflows}
use Rattle.plan_runner.specs.declared.buffer_write.Deferral.{Deferral}
use Rattle.plan_runner.specs.declared.buffer_write.Deferral.TheVariants as deferral
use Rattle.plan_runner.specs.declared.next.Asked.{Asked}
use Rattle.plan_runner.specs.declared.next.Asked.TheVariants as asked
use Rattle.plan_runner.specs.declared.next.Next.{Next}
use Rattle.plan_runner.specs.declared.next.Next.TheVariants as step
use Rattle.plan_runner.specs.declared.next.Running.{Running}
use Rattle.plan_runner.specs.declared.next.Running.TheVariants as running
use Rattle.plan_runner.specs.Buffers.{flush_oldest, must_wait, oldest, oldest_in, reading_in, running_after, with_reading}
use Rattle.plan_runner.specs.Deferrals.{IsDeferral, IsWriteOf, settled_next}
use Rattle.plan_runner.specs.Sound.{IsFittingReply}
use Rattle.plan_runner.specs.Asking.{AsksOrDefers, BeginsAsking, GoesOnAsking, IsNoClose, LooksForReply}
use Rattle.plan_runner.proofs.Asking.{buffered_held, within}
use Rattle.plan_runner.proofs.Filling.{reading_is}
use Rattle.plan_runner.proofs.OwnAsking.{same_place}
use Rattle.plan_runner.proofs.SlotSets.{set_at}

-- ---- a READ that fills a buffer

-- a DATA that may answer it ends at the greatest offset at last
filling_fits : (handle : List ℕ) (offset len slot n : ℕ) (own : Bool) (y : Reply) → overflows offset len ≡ false
    → may_answer (request.Read handle offset len) y ≡ true → IsFittingReply (running.FillingBuffer slot n offset own)
    (Some y)
filling_fits handle offset len slot n own (reply.Content bytes) room may =
    (let most : length bytes ≤ len = within len bytes may in let ends : offset + len < 2 ^ 64 = grind (arith, nat_tests)
    in omega (arith, most, ends))
filling_fits handle offset len slot n own other room may = tt

-- its slot awaits the reply
pub filling_asks : (place slot n offset len : ℕ) (file : FileAt) (buffer : Buffer) (old new : Site)
    → slot < length old.slots → slot_at old slot ≡ Buffered file buffer → new
    ≡ with_reading old slot (slot_at old slot) (Some place) → overflows offset len ≡ false
    → BeginsAsking None place old new (step.Ask (asked.Read file.grant offset len)
    (running.FillingBuffer slot n offset true))
filling_asks place slot n offset len file buffer old new lt here is room = record {
  call = tt;
  named = inl (buffered_held old slot file buffer here);
  awaits = tt;
  looks = inl (record {
    looks = λ p e. same_place (reading_in (slot_at new slot)) p place (ap reading_in there) e;
    fits = λ answers y may. filling_fits (handle_of (answers file.grant)) offset len slot n true y room may;
  });
  keeps = λ grant e. absurd cc;
  under = λ x among. absurd among;
}
  where
    reads : Slot
    reads = Buffered file (record buffer { reading = Some place })

    there : slot_at new slot ≡ reads
    there = ap (λ (s : Site). slot_at s slot) (reading_is slot (Some place) file buffer old new here is)
        ∙ set_at old slot reads lt

-- or the READ is under way
pub filling_waits : (place slot n offset : ℕ) (file : FileAt) (buffer : Buffer) (site : Site) → slot_at site slot
    ≡ Buffered file buffer → is_some buffer.reading ≡ true
    → BeginsAsking None place site site (step.Wait (running.FillingBuffer slot n offset false))
filling_waits place slot n offset file buffer site here some = (
  record {
    deferred = refl;
    some = ap (λ (x : Slot). is_some (reading_in x)) here ∙ some;
    keeps =
        λ grant e. absurd cc;
    under = λ x among. among;
  },
  refl,
)

-- ---- a WRITE whose status its slot awaits

write_defers : (place slot : ℕ) (start : Option ℕ) (n : ℕ) (file : FileAt) (old new : Site) (a : Asked)
    → has_grant old file.grant ≡ true → IsWriteOf file a → AsksOrDefers None place [] old new a
    (running_after slot start n)
write_defers place slot None n file old new (asked.Write grant offset content) has same = record {
  call = tt;
  named = inl (ap (has_grant old) same ∙ has);
  awaits = tt;
  looks = inl (record { looks = λ p e. absurd cc; fits = λ answers y may. tt });
  keeps = λ g e. absurd cc;
  under = λ x among. absurd among;
}
write_defers place slot (Some done) n file old new (asked.Write grant offset content) has same = record {
  call = tt;
  named = inl (ap (has_grant old) same ∙ has);
  awaits = tt;
  looks = inl (record { looks = λ p e. absurd cc; fits = λ answers y may. tt });
  keeps = λ g e. absurd cc;
  under = λ x among. absurd among;
}
write_defers place slot start n file old new a has same = absurd same

no_close : (file : FileAt) (a : Asked) → IsWriteOf file a → IsNoClose a
no_close file (asked.Write grant offset content) same = tt
no_close file other same = absurd same

pub settled_goes_on : (place slot : ℕ) (start : Option ℕ) (file : FileAt) (buffer : Buffer) (bytes : List ℕ)
    (old new : Site) (facts : Facts) (d : Deferral) (n : Next) → has_grant old file.grant ≡ true
    → IsDeferral slot start file buffer bytes place facts d → n ≡ settled_next d → GoesOnAsking None place [] old new n
settled_goes_on place slot start file buffer bytes old new facts (deferral.Refused o) n has is to =
    subst (λ (m : Next). GoesOnAsking None place [] old new m) (sym to) tt
settled_goes_on place slot start file buffer bytes old new facts (deferral.Asked a r held) n has is to =
    subst (λ (m : Next). GoesOnAsking None place [] old new m) (sym to) (
      subst (λ (x : Running). AsksOrDefers None place [] old new a x) (sym is.2)
          (write_defers place slot start _ file old new a has is.4),
      no_close file a is.4,
    )

pub settled_begins : (place slot : ℕ) (start : Option ℕ) (file : FileAt) (buffer : Buffer) (bytes : List ℕ)
    (old new : Site) (facts : Facts) (d : Deferral) (n : Next) → has_grant old file.grant ≡ true
    → IsDeferral slot start file buffer bytes place facts d → n ≡ settled_next d → BeginsAsking None place old new n
settled_begins place slot start file buffer bytes old new facts (deferral.Refused o) n has is to =
    subst (λ (m : Next). BeginsAsking None place old new m) (sym to) tt
settled_begins place slot start file buffer bytes old new facts (deferral.Asked a r held) n has is to =
    subst (λ (m : Next). BeginsAsking None place old new m) (sym to)
    (subst (λ (x : Running). AsksOrDefers None place [] old new a x) (sym is.2)
    (write_defers place slot start _ file old new a has is.4))

-- ---- a status that is awaited

waited : (limit : ℕ) (writes : List (ℕ × ℕ)) → must_wait limit writes ≡ true → is_some (oldest writes) ≡ true
waited limit [] full = absurd cc
waited limit (write ∷ writes) full = refl

-- at a full window
pub room_looks : (slot limit : ℕ) (start : Option ℕ) (file : FileAt) (buffer : Buffer) (site : Site) → slot_at site slot
    ≡ Buffered file buffer → must_wait limit buffer.deferred ≡ true
    → LooksForReply None [] site (running.AwaitingRoom slot start)
room_looks slot limit start file buffer site here full = record {
  deferred = refl;
  some = ap (λ (x : Slot). is_some (oldest_in x)) here ∙ waited limit buffer.deferred full;
  keeps =
      λ grant e. absurd cc;
  under = λ x among. among;
}

-- and by a flush
flush_looks : (slot : ℕ) (file : FileAt) (buffer : Buffer) (site : Site) (write : ℕ × ℕ) (writes : List (ℕ × ℕ))
    → slot_at site slot ≡ Buffered file buffer → buffer.deferred ≡ write ∷ writes
    → LooksForReply None [] site (running.Flushing slot)
flush_looks slot file buffer site write writes here is = record {
  deferred = refl;
  some = ap (λ (x : Slot). is_some (oldest_in x)) here
      ∙ ap (λ (w : List (ℕ × ℕ)). is_some (oldest w)) is;
  keeps = λ grant e. absurd cc;
  under = λ x among. among;
}

pub flush_begins : (place slot : ℕ) (file : FileAt) (buffer : Buffer) (site : Site) (n : Next) (writes : List (ℕ × ℕ))
    → slot_at site slot ≡ Buffered file buffer → buffer.deferred ≡ writes → n ≡ flush_oldest slot writes
    → BeginsAsking None place site site n
flush_begins place slot file buffer site n [] here is to = subst (λ (m : Next). BeginsAsking None place site site m)
    (sym to) tt
flush_begins place slot file buffer site n (write ∷ writes) here is to =
    subst (λ (m : Next). BeginsAsking None place site site m) (sym to)
    (flush_looks slot file buffer site write writes here is, refl)

pub flush_goes_on : (place slot : ℕ) (file : FileAt) (buffer : Buffer) (old site : Site) (n : Next)
    (writes : List (ℕ × ℕ)) → slot_at site slot ≡ Buffered file buffer → buffer.deferred ≡ writes → n
    ≡ flush_oldest slot writes → GoesOnAsking None place [] old site n
flush_goes_on place slot file buffer old site n [] here is to =
    subst (λ (m : Next). GoesOnAsking None place [] old site m) (sym to) tt
flush_goes_on place slot file buffer old site n (write ∷ writes) here is to =
    subst (λ (m : Next). GoesOnAsking None place [] old site m) (sym to)
    (flush_looks slot file buffer site write writes here is, inl (λ y. tt))
