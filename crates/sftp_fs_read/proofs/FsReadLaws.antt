-- How whole reads ask, wait and drop what is under way.
use Rattle.std.proofs.Common.{
  ◌≡◌,
  ◌≢◌,
  ◌∙◌,
  refl,
  sym,
  ap,
  subst,
  ℕ,
  List,
  [],
  ◌∷◌,
  ◌++◌,
  ◌+◌,
  Some,
  None,
  Ok,
  Err,
  inl,
  inr,
}
use Rattle.std.specs.Prelude.{◌⊎◌, ◌≤◌, IsSome}
use Rattle.std.specs.List.{zip}
use Rattle.std.specs.Global.{Global}
use Rattle.std.specs.declared.collections.VecDeque.{VecDeque}
use Rattle.bytes.specs.Filled.{Filled}
use Rattle.sftp_model.specs.declared.answers.Expected.TheVariants as expected
use Rattle.sftp_model.specs.declared.error.Error.TheVariants as error
use Rattle.sftp_model.specs.declared.error.Fault.{Fault}
use Rattle.sftp_model.specs.declared.outcome.Outcome.TheVariants as outcome
use Rattle.sftp_model.specs.declared.request.Request.{Request}
use Rattle.sftp_model.specs.declared.request.Request.TheVariants as request
use Rattle.sftp_model.specs.declared.slot.Move.TheVariants.{Ask, Done, Wait}
use Rattle.sftp_model.specs.declared.slot.Site.{Site}
use Rattle.plan_model.specs.WindowPlans.{least_end}
use Rattle.plan_window.specs.Windows.{asked_more, replies_of, window_move, window_plan}
use Rattle.plan_window.specs.declared.window.ReadAt.{ReadAt}
use Rattle.plan_window.proofs.PlanLaws.{after_asking}
use Rattle.sftp_core.specs.Core.{Core}
use Rattle.sftp_core.specs.Grant.{GrantValue}
use Rattle.plan_state.specs.declared.submission.Asking.TheVariants.{Whole as WholeRequest}
use Rattle.plan_state.specs.declared.poll.Poll.TheVariants.{Pending, Ready}
use Rattle.plan_state.specs.Asked.{SubmitsAsking}
use Rattle.plan_state.specs.Keeping.{SparesOthers}
use Rattle.plan_state.specs.declared.stage.Stage.TheVariants.{Asked}
use Rattle.plan_state.proofs.Going.{unfinished_by}
use Rattle.plan_state.proofs.Keeping.{keeps_same, submitted_holds}
use Rattle.plan_state.proofs.OthersKept.{submitted_keeps}
use Rattle.plan_state.proofs.Sparing.{spares_also, spares_as, spares_both, spares_kept, submitted_spares}
use Rattle.sftp_fs.specs.WholeWrites.{IsOwned, core_after_close}
use Rattle.sftp_fs.proofs.WriteSteps.{closes_last}
use Rattle.sftp_fs_read.specs.Hearing.{IsFirstMissing}
use Rattle.sftp_fs_read.specs.Reads.{ReadsValue}
use Rattle.sftp_fs_read.specs.Tickets.{AreTickets, AreUnderWay, IsNoneOf, TellsReads, core_without_tickets}
use Rattle.sftp_fs_read.specs.WholeReads.{ClosesRead, DecidesNextMove, IsReadHeld, KeepsFacts, facts_in}
use Rattle.sftp_fs_read.specs.declared.fs_read.Whole.{Whole}
use Rattle.sftp_fs_read.specs.declared.fs_read.Whole.TheVariants as whole
use Rattle.sftp_fs_read.proofs.MoveLaws.{waits_full, waits_none}
use Rattle.sftp_fs_read.proofs.TicketLaws.{read_more, read_tickets, tickets_zip, without_keeps, without_spares, zip_last, zip_length}

abbrev pub Deque : Type 0
Deque = VecDeque ℕ Global

-- ---- what is under way is dropped, and the grant closed

pub owned_without : (core : Core) (grant : GrantValue) (tickets : List ℕ) → IsOwned core grant → AreTickets core tickets
    → IsOwned (core_without_tickets core tickets) grant
owned_without core grant tickets owned h = (without_keeps core tickets h).grants grant.id grant.handle 1 owned

-- the number is neither that of this grant nor one of these tickets
abbrev pub Apart : GrantValue → List ℕ → ℕ → Type 0
Apart grant tickets id = (id ≢ grant.id) × IsNoneOf id tickets

pub finished_spares : (old core new : Core) (grant : GrantValue) (tickets : List ℕ) (P : ℕ → Type 0)
    → SparesOthers old core P (Apart grant tickets)
    → IsOwned core grant → AreTickets core tickets → new ≡ core_after_close (core_without_tickets core tickets) grant
    → SparesOthers old new P (λ id. Unit {0})
finished_spares old core new grant tickets P spares owned h close =
    let dropped = spares_also core (core_without_tickets core tickets) (λ id. id ≢ grant.id) (λ id. IsNoneOf id tickets)
    (λ id. Unit {0})
    (without_spares core tickets h) in
    let left = spares_both old core (core_without_tickets core tickets) P (Apart grant tickets)
    (λ id. (id ≢ grant.id) × Unit {0}) spares dropped in
    closes_last old (core_without_tickets core tickets) new grant P
    (spares_as old (core_without_tickets core tickets) P (λ id. (id ≢ grant.id) × Unit {0}) (λ id. id ≢ grant.id)
    (λ id both. both.0) left)
    (owned_without core grant tickets owned h) close

pub dropped_spares : (core new : Core) (grant : GrantValue) (tickets : List ℕ) → IsOwned core grant
    → AreTickets core tickets
    → new ≡ core_after_close (core_without_tickets core tickets) grant
    → SparesOthers core new (Apart grant tickets) (λ id. Unit {0})
dropped_spares core new grant tickets owned h close =
    finished_spares core core new grant tickets (Apart grant tickets)
    (spares_kept core core (Apart grant tickets) (keeps_same core)) owned h close

-- a READ that was asked has a number of its own
none_last : (id ticket : ℕ) (tickets : List ℕ) → IsNoneOf id tickets → id ≢ ticket
    → IsNoneOf id (tickets ++ ticket ∷ [])
none_last id ticket [] none apart = (apart, tt)
none_last id ticket (other ∷ later) none apart = (none.0, none_last id ticket later none.1 apart)

asked_spares : (old new : Core) (grant : GrantValue) (tickets more : List ℕ) (asked : Request) (ticket : ℕ)
    → SubmitsAsking old (WholeRequest asked) ticket new
    → more ≡ tickets ++ ticket ∷ [] → SparesOthers old new (Apart grant tickets) (Apart grant more)
asked_spares old new grant tickets more asked ticket submitted items =
    subst (λ (l : List ℕ). SparesOthers old new (Apart grant tickets) (Apart grant l)) (sym items)
    (spares_as old new (Apart grant tickets) (λ id. Apart grant tickets id × (id ≢ ticket))
    (Apart grant (tickets ++ ticket ∷ []))
    (λ id both. (both.0.0, none_last id ticket tickets both.0.1 both.1))
    (submitted_spares old new (WholeRequest asked) ticket (Apart grant tickets) (Asked ticket) submitted refl))

-- the tickets that are dropped are those of the READs under way
drops_all : (core new : Core) (grant : GrantValue) (reads : List ReadAt) (tickets : List ℕ)
    → AreUnderWay core reads tickets → new ≡ core_after_close (core_without_tickets core tickets) grant
    → ClosesRead core new (Some grant) (zip tickets reads)
drops_all core new grant reads tickets h close =
    close ∙ (λ i. core_after_close (core_without_tickets core (sym (tickets_zip core reads tickets h) i)) grant)

-- ---- a READ is asked

pub asked_pending : (old new : Core) (grant : GrantValue) (reads next : ReadsValue) (tickets more : Deque)
    (offset len ticket : ℕ)
    → IsReadHeld old (whole.Open grant reads tickets)
    → ((site : Site) → window_move reads.handle None reads.window site reads.facts
    ≡ Ask (request.Read reads.handle offset len))
    → SubmitsAsking old (WholeRequest (request.Read reads.handle offset len)) ticket new → more.items ≡ tickets.items
    ++ ticket ∷ []
    → next ≡ record reads {
      place = reads.place + 1;
      window = asked_more reads.window
          (record { place = reads.place; offset = offset; len = len });
    }
    → DecidesNextMove old new (whole.Open grant reads tickets) (whole.Open grant next more) Pending
asked_pending old new grant reads next tickets more offset len ticket held asks submitted items is =
    let r : ReadAt = record { place = reads.place; offset = offset; len = len } in
    let q : Request = request.Read reads.handle offset len in
    let keeps = submitted_keeps old new (WholeRequest q) ticket submitted in
    record {
      polled = λ site plan answers left tells untold. inr (record {
        handle = reads.handle;
        asked = r;
        ticket = ticket;
        asks = untold ∙ asks site;
        submitted = submitted;
        left = λ later. left ((reads.place, q) ∷ later)
            ∙ (after_asking reads.handle None reads.window site reads.facts r later answers
            ∙ ap (λ (x : ReadsValue). window_plan x.handle None x.window site x.facts later answers) (sym is));
        reads = (λ i. zip (items i) ((is i).window.waiting))
            ∙ zip_last old ticket r reads.window.waiting tickets.items held.1;
      });
      held = (
        keeps.grants.grants grant.id grant.handle 1 held.0,
        subst (λ (l : List ℕ). AreUnderWay new next.window.waiting l) (sym items)
            (subst (λ (x : ReadsValue). AreUnderWay new x.window.waiting (tickets.items ++ ticket ∷ [])) (sym is)
            (read_more old new ticket r reads.window.waiting tickets.items submitted.free keeps
            (submitted_holds old new (WholeRequest q) ticket (expected.Content len) submitted refl) held.1)),
        ap (λ (x : ReadsValue). x.handle) is ∙ held.2,
      );
      over = refl;
      facts = ap (λ (x : ReadsValue). Some x.facts) is;
      spares = asked_spares old new grant tickets.items more.items q ticket submitted items;
    }

pub asked_failed : (old mid new : Core) (grant : GrantValue) (reads : ReadsValue) (tickets : Deque) (left : List ℕ)
    (offset len : ℕ) (fault : Fault)
    → IsReadHeld old (whole.Open grant reads tickets)
    → ((site : Site) → window_move reads.handle None reads.window site reads.facts
    ≡ Ask (request.Read reads.handle offset len))
    → old.fault ≡ Some fault → mid ≡ old → left ≡ tickets.items → new
    ≡ core_after_close (core_without_tickets mid left) grant
    → DecidesNextMove old new (whole.Open grant reads tickets) whole.Ended
    (Ready (Err (error.BackgroundTaskFailure fault)))
asked_failed old mid new grant reads tickets left offset len fault held asks kept same items close =
    let closes : new ≡ core_after_close (core_without_tickets old tickets.items) grant = close
    ∙ (λ i. core_after_close (core_without_tickets (same i) (items i)) grant) in
    record {
      polled = λ site plan answers l tells untold. (
        kept,
        unfinished_by (plan [] answers)
            (Ask (request.Read reads.handle offset len)) (untold ∙ asks site) tt,
        drops_all old new grant reads.window.waiting tickets.items held.1 closes,
      );
      held = tt;
      over = refl;
      facts = tt;
      spares = dropped_spares old new grant tickets.items held.0
          (read_tickets old reads.window.waiting tickets.items held.1) closes;
    }

-- nothing changed but the memory of the tickets
pub short_stays : (old new : Core) (grant : GrantValue) (reads next : ReadsValue) (tickets more : Deque)
    → IsReadHeld old (whole.Open grant reads tickets) → new ≡ old → next ≡ reads → more.items ≡ tickets.items
    → DecidesNextMove old new (whole.Open grant reads tickets) (whole.Open grant next more)
    (Ready (Err error.OutOfMemory))
short_stays old new grant reads next tickets more held kept same items =
    record {
      polled = λ site plan answers left tells untold. record {
        core = kept;
        left = λ later. left later
            ∙ ap (λ (x : ReadsValue). window_plan x.handle None x.window site x.facts later answers) (sym same);
        tells = subst (λ (c : Core). TellsReads c answers next.window.waiting more.items) (sym kept)
            (subst (λ (x : ReadsValue). TellsReads old answers x.window.waiting more.items) (sym same)
            (subst (λ (l : List ℕ). TellsReads old answers reads.window.waiting l) (sym items) tells));
        reads = λ i. zip (items i) ((same i).window.waiting);
      };
      held = subst (λ (c : Core). IsReadHeld c (whole.Open grant next more)) (sym kept) (
        held.0,
        subst (λ (x : ReadsValue). AreUnderWay old x.window.waiting more.items) (sym same)
            (subst (λ (l : List ℕ). AreUnderWay old reads.window.waiting l) (sym items) held.1),
        ap (λ (x : ReadsValue). x.handle) same ∙ held.2,
      );
      over = refl;
      facts = ap (λ (x : ReadsValue). Some x.facts) same;
      spares = subst (λ (c : Core). SparesOthers old c (Apart grant tickets.items) (Apart grant more.items)) (sym kept)
          (subst (λ (l : List ℕ). SparesOthers old old (Apart grant tickets.items) (Apart grant l)) (sym items)
          (spares_kept old old (Apart grant tickets.items) (keeps_same old)));
    }

-- the facts of what was read so far
pub facts_from : (p before q : Whole) → facts_in p ≡ facts_in before → KeepsFacts p q → KeepsFacts before q
facts_from p before whole.Ended is kept = tt
facts_from p before q is kept = kept ∙ is

-- ---- it waits, or ends

waits_unfailed : (core : Core) (waiting : List ReadAt) (tickets : List ℕ) → AreUnderWay core waiting tickets
    → IsFirstMissing core tickets
    → (waiting ≡ [] → ⊥) → core.fault ≡ None
waits_unfailed core [] [] h missing some = absurd (some refl)
waits_unfailed core [] (ticket ∷ later) h missing some = absurd h
waits_unfailed core (r ∷ rest) [] h missing some = absurd h
waits_unfailed core (r ∷ rest) (ticket ∷ later) h missing some = missing.1

pub decided_waits : (core : Core) (grant : GrantValue) (reads : ReadsValue) (tickets : Deque) (place : ℕ)
    → IsReadHeld core (whole.Open grant reads tickets) → IsFirstMissing core tickets.items
    → ((site : Site) → window_move reads.handle None reads.window site reads.facts ≡ Wait place)
    → DecidesNextMove core core (whole.Open grant reads tickets) (whole.Open grant reads tickets) Pending
decided_waits core grant reads tickets place held missing goes =
    record {
      polled = λ site plan answers left tells untold. inl (record {
        place = place;
        waits = untold ∙ goes site;
        unfailed = waits_unfailed core reads.window.waiting tickets.items held.1 missing
            (λ none. waits_none reads.handle reads.window site reads.facts place none (goes site));
        core = refl;
        left = left;
        reads = refl;
        full = subst (λ (n : ℕ). (reads.facts.read_window ≤ n) ⊎ IsSome (least_end (replies_of reads.window)))
            (sym (zip_length core reads.window.waiting tickets.items held.1))
            (waits_full reads.handle reads.window site reads.facts place (goes site));
      });
      held = held;
      over = refl;
      facts = refl;
      spares = spares_kept core core (Apart grant tickets.items) (keeps_same core);
    }

pub decided_whole : (core new : Core) (grant : GrantValue) (reads : ReadsValue) (tickets : Deque) (bytes : List ℕ)
    (out : Filled)
    → IsReadHeld core (whole.Open grant reads tickets)
    → ((site : Site) → window_move reads.handle None reads.window site reads.facts ≡ Done (outcome.Bytes bytes) site)
    → out.items ≡ bytes
    → new ≡ core_after_close (core_without_tickets core tickets.items) grant
    → DecidesNextMove core new (whole.Open grant reads tickets) whole.Ended (Ready (Ok out))
decided_whole core new grant reads tickets bytes out held goes same close =
    record {
      polled = λ site plan answers left tells untold. (
        untold ∙ (goes site ∙ ap (λ (b : List ℕ). Done (outcome.Bytes b) site) (sym same)),
        drops_all core new grant reads.window.waiting tickets.items held.1 close,
      );
      held = tt;
      over = refl;
      facts = tt;
      spares = dropped_spares core new grant tickets.items held.0
          (read_tickets core reads.window.waiting tickets.items held.1) close;
    }
