-- What is asked bears grants that the lane has, and its reply fits.
use Rattle.std.proofs.Common.{
  ◌≡◌,
  ◌≤◌,
  ◌||◌,
  ◌∙◌,
  true,
  false,
  ℕ,
  zero,
  suc,
  List,
  [],
  ◌∷◌,
  length,
  Option,
  Some,
  None,
  Ok,
  Err,
  inl,
  inr,
  ap,
  refl,
  sym,
  subst,
  arith,
}
use Rattle.std.specs.Prelude.{IfOk, Result, nat_lt, nat_le, slice_index_or}
use Rattle.std.specs.List.{list_any}
use Rattle.std.proofs.lemmas.Bool.{eq-eqb, and_parts, or_cases, or_left, or_right}
use Rattle.std.proofs.lemmas.Bool.Decides.{nat_tests}
use Rattle.ssh_encoding.specs.declared.out_of_memory.OutOfMemory.{OutOfMemory}
use Rattle.sftp_model.specs.declared.flags.OpenFlags.{OpenFlags}
use Rattle.sftp_model.specs.declared.request.Request.{Request}
use Rattle.sftp_model.specs.declared.request.Request.TheVariants as request
use Rattle.sftp_model.specs.declared.reply.Reply.{Reply}
use Rattle.sftp_model.specs.declared.reply.Reply.TheVariants as reply
use Rattle.sftp_model.specs.declared.reply.NameEntry.{NameEntry}
use Rattle.sftp_model.specs.declared.slot.FileAt.{FileAt}
use Rattle.sftp_model.specs.declared.slot.Buffer.{Buffer}
use Rattle.sftp_model.specs.declared.slot.Site.{Site}
use Rattle.sftp_model.specs.declared.slot.Slot.{Slot}
use Rattle.sftp_model.specs.declared.slot.Slot.TheVariants.{Empty, File, Buffered}
use Rattle.sftp_model.specs.Answers.{is_content, may_answer}
use Rattle.sftp_model.specs.Slots.{has_grant, slot_at, slot_has}
use Rattle.plan_model.specs.FilePlans.{open_request}
use Rattle.plan_model.specs.Moves.{handle_of}
use Rattle.plan_runner.specs.declared.next.Asked.TheVariants as asked
use Rattle.plan_runner.specs.declared.next.EndsBy.TheVariants as by
use Rattle.plan_runner.specs.declared.next.Next.{Next}
use Rattle.plan_runner.specs.declared.next.Next.TheVariants as step
use Rattle.plan_runner.specs.declared.next.Running.TheVariants as running
use Rattle.plan_runner.specs.Asking.{AwaitsAsked, AsksOn, HasFile, HasGrant, opened_by}
use Rattle.plan_runner.specs.Sound.{IsFittingReply, IsKept}

-- ---- the grants of slots

slots_have : (slots : List Slot) (k : ℕ) (grant : ℕ) (x : Slot) → slice_index_or slots k Empty ≡ x → slot_has grant x
    ≡ true → list_any (slot_has grant) slots ≡ true
slots_have [] k grant x at has = absurd (let none : slot_has grant Empty ≡ true = ap (slot_has grant) at ∙ has in cc)
slots_have (slot ∷ slots) zero grant x at has = or_left (slot_has grant slot) (list_any (slot_has grant) slots)
    (ap (slot_has grant) at ∙ has)
slots_have (slot ∷ slots) (suc k) grant x at has = or_right (slot_has grant slot) (list_any (slot_has grant) slots)
    (slots_have slots k grant x at has)

-- of the file that stands in a slot
pub file_held : (site : Site) (slot : ℕ) (file : FileAt) → slot_at site slot ≡ File file → has_grant site file.grant
    ≡ true
file_held site slot file at = slots_have site.slots slot file.grant (File file) at (eq-eqb file.grant file.grant refl)

-- and of one that is buffered
pub buffered_held : (site : Site) (slot : ℕ) (file : FileAt) (buffer : Buffer) → slot_at site slot
    ≡ Buffered file buffer → has_grant site file.grant ≡ true
buffered_held site slot file buffer at = slots_have site.slots slot file.grant (Buffered file buffer) at
    (eq-eqb file.grant file.grant refl)

-- ---- replies that fit

pub within : (len : ℕ) (bytes : List ℕ) → (is_content len (reply.Content bytes) || false) ≡ true → length bytes ≤ len
within len bytes may =
    elim (or_cases (is_content len (reply.Content bytes)) false may) [
      | inl content ↦ (let most : nat_le (length bytes) len ≡ true =
          (and_parts (nat_lt 0 (length bytes)) (nat_le (length bytes) len) content).1 in grind (arith, nat_tests))
      | inr none ↦ absurd cc
    ]

-- a DATA that may answer a READ has at most the bytes that were asked
pub read_fits : (handle : List ℕ) (offset len place slot : ℕ) (file : FileAt) (y : Reply)
    → may_answer (request.Read handle offset len) y ≡ true → IsFittingReply (running.Reading place slot file len)
    (Some y)
read_fits handle offset len place slot file (reply.Content bytes) may = within len bytes may
read_fits handle offset len place slot file other may = tt

pub gathering_fits : (handle : List ℕ) (offset len place slot : ℕ) (file : FileAt) (got : List ℕ) (left : ℕ) (y : Reply)
    → may_answer (request.Read handle offset len) y ≡ true → IsFittingReply
    (running.Gathering place slot file got left len)
    (Some y)
gathering_fits handle offset len place slot file got left (reply.Content bytes) may = within len bytes may
gathering_fits handle offset len place slot file got left other may = tt

-- ---- what begins a call

-- the OPEN of a path
pub open_asks : (place slot : ℕ) (flags : OpenFlags) (path : List ℕ) (site : Site) (r : Request) → r
    ≡ open_request flags path → AwaitsAsked None place site (step.Ask (asked.Plain r)
    (running.Opening place slot flags))
open_asks place slot flags path site r is = subst (λ (x : Request). AwaitsAsked None place site
    (step.Ask (asked.Plain x) (running.Opening place slot flags))) (sym is)
    (record { call = tt; named = tt; awaits = refl; keeps = λ grant e. absurd cc; fits = λ answers y may. tt })

-- the READ of one `read`
pub read_asks : (place slot len : ℕ) (file : FileAt) (site : Site) → slot_at site slot ≡ File file
    → AwaitsAsked None place site (step.Ask (asked.Read file.grant file.offset len)
    (running.Reading place slot file len))
read_asks place slot len file site at = record {
  call = tt;
  named = inl (file_held site slot file at);
  awaits = refl;
  keeps = λ grant e. absurd cc;
  fits = λ answers y may. read_fits (handle_of (answers file.grant)) file.offset len place slot file y may;
}

-- the CLOSE of a grant that some slot had
pub close_asks : (place grant : ℕ) (site : Site) → has_grant site grant ≡ true
    → AwaitsAsked None place site (step.Ask (asked.Close grant) (running.Ending place by.Status))
close_asks place grant site has = record {
  call = tt;
  named = inl has;
  awaits = refl;
  keeps = λ grant e. absurd cc;
  fits = λ answers y may. tt;
}

-- what may go on with a call may begin one
pub asks_first : (opened : Option ℕ) (place : ℕ) (site : Site) (n : Next) → AsksOn opened place site n
    → AwaitsAsked opened place site n
asks_first opened place site (step.Ask a r) asks = asks.0
asks_first opened place site (step.Wait r) asks = asks
asks_first opened place site (step.Done o) asks = tt

-- of what is refused only for want of memory
pub asks_first_if_ok : (opened : Option ℕ) (place : ℕ) (site : Site) (n : Result Next OutOfMemory)
    → IfOk n (AsksOn opened place site) → IfOk n (AwaitsAsked opened place site)
asks_first_if_ok opened place site (Ok n) asks = asks_first opened place site n asks
asks_first_if_ok opened place site (Err e) asks = asks

-- ---- how a call goes on

-- a further READ of a `read_all`
pub read_on : (opened : Option ℕ) (place slot left len : ℕ) (file : FileAt) (got : List ℕ) (site : Site)
    → HasGrant site opened file.grant
    → AsksOn opened place site (step.Ask (asked.Read file.grant file.offset len)
    (running.Gathering place slot file got left len))
read_on opened place slot left len file got site has = (
  record {
    call = tt;
    named = has;
    awaits = refl;
    keeps = λ grant e. absurd cc;
    fits =
        λ answers y may. gathering_fits (handle_of (answers file.grant)) file.offset len place slot file got left y may;
  },
  tt,
)

-- the WRITE of a further part
pub write_on : (opened : Option ℕ) (place : ℕ) (slot : Option ℕ) (file : FileAt) (done : ℕ) (content : List ℕ)
    (site : Site) → HasFile site opened slot file
    → AsksOn opened place site (step.Ask (asked.Write file.grant file.offset content)
    (running.Writing place slot file done))
write_on opened place None file done content site has = (
  record
      { call = tt; named = inr has; awaits = refl; keeps = λ grant e. has ∙ e; fits = λ answers y may. tt },
  tt,
)
write_on opened place (Some slot) file done content site has =
    (record { call = tt; named = has; awaits = refl; keeps = λ grant e. absurd cc; fits = λ answers y may. tt }, tt)

-- a file that stands in its slot, or that the call opened; it is moved
pub kept_has : (slot : Option ℕ) (file : FileAt) (offset : ℕ) (site : Site) (awaited done : ℕ) → IsKept slot file site
    → HasFile site (opened_by (running.Writing awaited slot file done)) slot (record file { offset = offset })
kept_has None file offset site awaited done kept = refl
kept_has (Some slot) file offset site awaited done kept = inl (file_held site slot file kept.1)

-- a further READDIR
pub list_on : (place grant : ℕ) (got : List NameEntry) (bound : ℕ) (site : Site)
    → AsksOn (Some grant) place site (step.Ask (asked.Readdir grant) (running.Listing place grant got bound))
list_on place grant got bound site = (
  record {
    call = tt;
    named = inr refl;
    awaits = refl;
    keeps = λ g e. e;
    fits =
        λ answers y may. tt;
  },
  tt,
)
