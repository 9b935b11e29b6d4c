-- What an `open` and a `buffer` that ended well left of a slot, where the calls between leave it.
use Rattle.std.proofs.Common.{◌≡◌, ◌≢◌, ◌<◌, ◌+◌, ℕ, zero, suc, List, [], ◌∷◌, Some, refl, ap, sym, ◌∙◌, arith}
use Rattle.std.specs.Prelude.{slice_index_or, slice_set}
use Rattle.sftp_model.specs.Slots.{slot_at}
use Rattle.sftp_model.specs.declared.flags.OpenFlags.{OpenFlags}
use Rattle.sftp_model.specs.declared.outcome.Outcome.TheVariants as outcome
use Rattle.sftp_model.specs.declared.reply.Reply.TheVariants as reply
use Rattle.sftp_model.specs.declared.request.Request.{Request}
use Rattle.sftp_model.specs.declared.slot.Buffer.{Buffer}
use Rattle.sftp_model.specs.declared.slot.FileAt.{FileAt}
use Rattle.sftp_model.specs.declared.slot.Move.TheVariants.{Ask, Done}
use Rattle.sftp_model.specs.declared.slot.Site.{Site}
use Rattle.sftp_model.specs.declared.slot.Slot.{Slot}
use Rattle.sftp_model.specs.declared.slot.Slot.TheVariants.{Empty, File, Buffered}
use Rattle.sftp_model.specs.OpenOptions.{flags_of}
use Rattle.sftp_model.specs.declared.open_options.OpenOptions.{OpenOptions}
use Rattle.plan_model.specs.CallPlans.{next}
use Rattle.plan_model.specs.FilePlans.{open_request, opened_file}
use Rattle.plan_model.specs.Moves.{Answers, Own}
use Rattle.plan_model.specs.declared.call.Call.{Call}
use Rattle.plan_model.specs.declared.call.Call.TheVariants as call
use Rattle.session_model.specs.declared.entry.Entry.{Entry}
use Rattle.session_model.specs.Calls.{GoesByPlan, Setting, current, site_of}
use Rattle.session_model.specs.Journals.{IsJournal}
use Rattle.session_model.specs.Readings.{answer, count_ended, own}
use Rattle.session_model.proofs.CallsSoFar.{calls_so_far}
use Rattle.run_laws.specs.RoundTrips.{outcome_at}
use Rattle.run_laws.proofs.BetweenLaws.{LeaveSlot, slot_since}
use Rattle.run_laws.proofs.BufferedMoves.{Buffers, Opens, buffer_leaves, open_leaves, open_once, set_is}
use Rattle.run_laws.proofs.CallEnds.{EndsAt, ends_at}
use Rattle.run_laws.proofs.CallRequests.{first_asked}
use Rattle.run_laws.proofs.CallSites.{answer_since, given_call, journal_at, outcome_at_end, own_since, plain_at, plan_done}
use Rattle.run_laws.proofs.OpenLaws.{open_is}
use Rattle.run_laws.proofs.PlainRuns.{IsPlain}

set_there : (slots : List Slot) (k : ℕ) (x y : Slot) → slice_index_or slots k Empty ≡ y → y ≢ Empty
    → slice_index_or (slice_set slots k x) k Empty ≡ x
set_there [] k x y e some = absurd (some (sym e))
set_there (z ∷ slots) zero x y e some = refl
set_there (z ∷ slots) (suc k) x y e some = set_there slots k x y e some

-- the lane's slot has a buffered file that its call with this number opened, which stands at its start
pub record BufferedAt (s : Setting) (past : List Entry) (lane k slot : ℕ) (flags : OpenFlags) (path : List ℕ) : Type 0
  where
    pub w : ℕ × Request
    pub opens : own past lane k ≡ w ∷ []
    pub asks : w.1 ≡ open_request flags path
    pub handle : List ℕ
    pub came : answer past w.0 ≡ Some (reply.Handle handle)
    pub file : FileAt
    pub buffer : Buffer
    pub there : slot_at (site_of s past lane) slot ≡ Buffered file buffer
    pub grant : file.grant ≡ w.0
    pub start : file.offset ≡ 0

abbrev file_in : Slot → FileAt → FileAt
file_in (File file) other = file
file_in x other = other

-- Calls with these numbers open a file in a slot and buffer it, and the calls between them, and up to a third one,
-- leave the slot.
pub buffered_at : (s : Setting) (past : List Entry) (lane k n m slot : ℕ) (options : OpenOptions) (path : List ℕ)
    (len : ℕ) (c : Call) → IsJournal s past → IsPlain past → count_ended past lane ≡ m → k < n → n < m
    → given_call s lane k ≡ Some (call.OpenFile slot options path) → given_call s lane n
    ≡ Some (call.Buffer slot len) → given_call s lane m ≡ Some c
    → outcome_at past lane k ≡ Some outcome.Opened → outcome_at past lane n ≡ Some outcome.Done
    → LeaveSlot s lane slot (k + 1) n → LeaveSlot s lane slot (n + 1) m
    → BufferedAt s past lane k slot (flags_of options) path
buffered_at s past lane k n m slot options path len c j p at first_two last_two opens buffers later opened buffered
    leave leave' =
    record {
      w = op.first;
      opens = own_since s past lane n k outcome.Done t1 j (omega (arith, first_two))
          ∙ (own_since s t1.before lane k k outcome.Opened t0 j1 (omega arith) ∙ one);
      asks = open_is (flags_of options) path (site_of s t0.before lane) op.first.1 first.1;
      handle = op.handle;
      came = answer_since s past lane n outcome.Done t1 j op.first.0 (reply.Handle op.handle)
          (answer_since s t1.before lane k outcome.Opened t0 j1 op.first.0 (reply.Handle op.handle) op.came);
      file = bu.file;
      buffer = bu.buffer;
      there = at_site ∙ ap (λ (x : Site). slot_at x slot) bu.leaves
          ∙ set_there (site_of s t1.before lane).slots slot (Buffered bu.file bu.buffer) (File bu.file) bu.stood
          (λ e. cc e);
      grant = ap (λ (f : FileAt). f.grant) (sym same);
      start = ap (λ (f : FileAt). f.offset) (sym same);
    }
  where
    t1 : EndsAt s past lane n outcome.Done
    t1 = ends_at s past lane n outcome.Done j (λ e. cc) buffered

    j1 : IsJournal s t1.before
    j1 = journal_at s past lane n outcome.Done t1 j

    p1 : IsPlain t1.before
    p1 = plain_at s past lane n outcome.Done t1 p

    at_site : slot_at (site_of s past lane) slot ≡ slot_at t1.site slot
    at_site = slot_since s past lane slot n m outcome.Done c t1 j p at later leave'

    d1 : (current s t1.before lane ≡ Some (call.Buffer slot len))
        × (next (call.Buffer slot len) (site_of s t1.before lane) s.facts
        (own t1.before lane (count_ended t1.before lane))
        (answer t1.before) ≡ Done outcome.Done t1.site)
    d1 = plan_done s past lane n outcome.Done (call.Buffer slot len) t1 p buffers

    bu : Buffers slot (site_of s t1.before lane) t1.site
    bu = buffer_leaves slot len (site_of s t1.before lane) s.facts (own t1.before lane (count_ended t1.before lane))
        (answer t1.before) t1.site d1.1

    t0 : EndsAt s t1.before lane k outcome.Opened
    t0 = ends_at s t1.before lane k outcome.Opened j1 (λ e. cc)
        (outcome_at_end s past lane n k outcome.Done outcome.Opened t1 first_two opened)

    d0 : (current s t0.before lane ≡ Some (call.OpenFile slot options path))
        × (next (call.OpenFile slot options path) (site_of s t0.before lane) s.facts
        (own t0.before lane (count_ended t0.before lane)) (answer t0.before) ≡ Done outcome.Opened t0.site)
    d0 = plan_done s t1.before lane k outcome.Opened (call.OpenFile slot options path) t0 p1 opens

    op : Opens slot (flags_of options) (site_of s t0.before lane) (own t0.before lane (count_ended t0.before lane))
        (answer t0.before) t0.site
    op = open_leaves slot options path (site_of s t0.before lane) s.facts
        (own t0.before lane (count_ended t0.before lane)) (answer t0.before) t0.site d0.1

    at_open : slot_at (site_of s t1.before lane) slot ≡ slot_at t0.site slot
    at_open = slot_since s t1.before lane slot k n outcome.Opened (call.Buffer slot len) t0 j1 p1 t1.at buffers leave

    set : File (opened_file (flags_of options) op.first.0) ≡ File bu.file
    set = set_is (site_of s t0.before lane) slot (File (opened_file (flags_of options) op.first.0)) (File bu.file)
        (ap (λ (x : Site). slot_at x slot) (sym op.leaves) ∙ (sym at_open ∙ bu.stood)) (λ e. cc e)

    same : opened_file (flags_of options) op.first.0 ≡ bu.file
    same = ap (λ (x : Slot). file_in x (opened_file (flags_of options) op.first.0)) set

    plans : GoesByPlan s t0.before lane (call.OpenFile slot options path)
    plans = calls_so_far s t0.before lane (call.OpenFile slot options path)
        (journal_at s t1.before lane k outcome.Opened t0 j1) d0.0

    none_later : op.later ≡ []
    none_later = open_once slot options path (site_of s t0.before lane) s.facts plans.requests
        (answer t0.before) op.first op.later plans.so_far.asked (plans.are ∙ op.asks)

    one : own t0.before lane k ≡ op.first ∷ []
    one = ap (own t0.before lane) (sym t0.at) ∙ (op.asks ∙ ap (λ (l : Own). op.first ∷ l) none_later)

    first : (before : Answers) × (next (call.OpenFile slot options path) (site_of s t0.before lane) s.facts [] before
        ≡ Ask op.first.1)
    first = first_asked (next (call.OpenFile slot options path) (site_of s t0.before lane) s.facts)
        plans.requests (answer t0.before) op.first op.later plans.so_far.asked (plans.are ∙ op.asks)
