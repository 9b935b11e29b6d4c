-- How whole reads continue after a reply, end, and are given up.
use Rattle.std.proofs.Common.{◌≡◌, ◌≢◌, ◌∙◌, refl, sym, ap, subst, ℕ, List, [], ◌∷◌, ◌++◌, Option, Some, None, Err}
use Rattle.std.specs.Prelude.{IsTrue}
use Rattle.std.specs.List.{zip}
use Rattle.sftp_model.specs.declared.error.Error.{Error}
use Rattle.sftp_model.specs.declared.error.Error.TheVariants as error
use Rattle.sftp_model.specs.declared.error.Fault.{Fault}
use Rattle.sftp_model.specs.declared.slot.Facts.{Facts}
use Rattle.sftp_model.specs.declared.slot.Site.{Site}
use Rattle.plan_model.specs.Moves.{Answers, Own, Plan}
use Rattle.plan_window.specs.Windows.{first_of, window_move, window_plan}
use Rattle.plan_window.specs.declared.window.ReadAt.{ReadAt}
use Rattle.sftp_core.specs.Core.{Core, after_poll, record_at, is_ticket, poll_leaves, given_leaves, reply_in}
use Rattle.sftp_core.specs.Table.{handle_in_reply}
use Rattle.sftp_core.specs.declared.id_record.IdRecord.{IdRecord}
use Rattle.sftp_core.specs.declared.id_record.IdRecord.TheVariants as places
use Rattle.sftp_core.specs.Grant.{GrantValue}
use Rattle.sftp_core.proofs.Elsewhere.{poll_elsewhere}
use Rattle.plan_state.specs.declared.poll.Poll.TheVariants.{Ready}
use Rattle.plan_state.specs.Calls.{CallValue, CancelsAwaited}
use Rattle.plan_state.specs.Keeping.{KeepsHeld, KeepsGrants, SparesOthers}
use Rattle.plan_state.proofs.Going.{unfinished_by}
use Rattle.plan_state.proofs.Keeping.{grants_both, keeps_same}
use Rattle.plan_state.proofs.OthersKept.{still_under_way, polled_keeps_grants}
use Rattle.plan_state.proofs.Sparing.{cancelled_spares, spares_also, spares_both, spares_kept}
use Rattle.sftp_fs.specs.Grants.{grant_meaning}
use Rattle.sftp_fs.specs.WholeWrites.{IsOwned, core_after_close}
use Rattle.sftp_fs.specs.declared.grants.Granting.{Granting}
use Rattle.sftp_fs_read.specs.Hearing.{TakesReplies, IsFirstMissing, IsOverFor}
use Rattle.sftp_fs_read.specs.Reads.{ReadsValue}
use Rattle.sftp_fs_read.specs.Tickets.{AreTickets, AreUnderWay, IsNoneOf, TellsReads, core_without_tickets}
use Rattle.sftp_fs_read.specs.WholeReads.{
  CancelsRead,
  ClosesRead,
  DecidesNextMove,
  IsNoneOfRead,
  IsReadHeld,
  IsReadOver,
  ReadAnswer,
  ReadBy,
  ReadOn,
}
use Rattle.sftp_fs_read.specs.declared.fs_read.Whole.{Whole}
use Rattle.sftp_fs_read.specs.declared.fs_read.Whole.TheVariants as whole
use Rattle.sftp_fs_read.proofs.ReadsLaws.{moves_now}
use Rattle.sftp_fs_read.proofs.TicketLaws.{heard_spares, keeps_reads, read_tickets, taken_last, tickets_zip}
use Rattle.sftp_fs_read.proofs.HearLaws.{first_there, split_first}
use Rattle.sftp_fs_read.proofs.FsReadLaws.{Deque, Apart, dropped_spares, facts_from, finished_spares}

-- ---- behind the replies that came

first_untold : (core : Core) (answers : Answers) (waiting : List ReadAt) (tickets : List ℕ)
    → TellsReads core answers waiting tickets
    → IsFirstMissing core tickets → (r : ReadAt) → first_of waiting ≡ Some r → answers r.place ≡ None
first_untold core answers [] tickets tells missing r is = absurd cc
first_untold core answers (q ∷ rest) [] tells missing r is = absurd tells
first_untold core answers (q ∷ rest) (ticket ∷ later) tells missing r is =
    let same : q ≡ r = cc in ap (λ (x : ReadAt). answers x.place) (sym same) ∙ (tells.0 ∙ missing.0)

pub heard_on : (old mid new : Core) (grant : GrantValue) (reads now : ReadsValue) (tickets left : Deque) (q : Whole)
    (result : ReadAnswer)
    → TakesReplies old mid reads now tickets.items left.items → IsFirstMissing mid left.items
    → DecidesNextMove mid new (whole.Open grant now left) q result
    → ReadOn old new (whole.Open grant reads tickets) q result
heard_on old mid new grant reads now tickets left q result h missing d =
    record {
      polled = λ site plan answers here tells.
          (let g = h.goes answers tells in
          let goes : (later : Own) → plan later answers ≡ window_plan now.handle None now.window site now.facts later
          answers = λ later.
          here later ∙ (g.1 site later
          ∙ ap (λ (x : ReadsValue). window_plan x.handle None now.window site x.facts later answers) (sym h.rest)) in
          let untold : plan [] answers ≡ window_move now.handle None now.window site now.facts =
          goes [] ∙ moves_now now.handle now.window site now.facts answers
          (first_untold mid answers now.window.waiting left.items g.0 missing) in (
            mid,
            (
              zip left.items now.window.waiting,
              (
                (h.done, (h.split, h.core)),
                d.polled site plan answers goes g.0 untold,
              ),
            ),
          ));
      held = d.held;
      over = d.over;
      facts = facts_from (whole.Open grant now left) (whole.Open grant reads tickets) q
          (ap (λ (x : ReadsValue). Some x.facts) h.rest) d.facts;
      spares = spares_both old mid new (Apart grant tickets.items) (Apart grant left.items) (IsNoneOfRead q)
          (spares_also old mid (λ id. id ≢ grant.id) (λ id. IsNoneOf id tickets.items) (λ id. IsNoneOf id left.items)
          h.spares) d.spares;
    }

-- ---- over by a reply

given_fault : (core : Core) (k : ℕ) (brought : Option (List ℕ)) → (given_leaves core k brought).fault ≡ core.fault
given_fault core k (Some handle) = refl
given_fault core k None = refl

poll_fault : (core : Core) (k : ℕ) (f : Option Fault) (p : Option IdRecord) → (poll_leaves core k f p).fault
    ≡ core.fault
poll_fault core k f (Some (places.Answered e r)) = given_fault core k (handle_in_reply r)
poll_fault core k (Some f) (Some (places.Waiting e s w)) = refl
poll_fault core k None (Some (places.Waiting e s w)) = refl
poll_fault core k f (Some (places.Granted handle users)) = refl
poll_fault core k f None = refl

polled_counted : (core : Core) (ticket : ℕ) (left : List ℕ) → IsNoneOf ticket left → AreTickets core left
    → AreTickets (after_poll core ticket) left
polled_counted core ticket [] apart h = tt
polled_counted core ticket (other ∷ later) apart h = (
  subst (λ (p : Option IdRecord). IsTrue (is_ticket p))
      (sym (poll_elsewhere core ticket core.fault (record_at core ticket) other (λ e. apart.0 (sym e)))) h.0,
  h.1,
  polled_counted core ticket later apart.1 h.2,
)

pub over_tickets : (old mid new : Core) (reads now : ReadsValue) (tickets : List ℕ) (ticket : ℕ) (left : List ℕ)
    → TakesReplies old mid reads now tickets (ticket ∷ left) → new ≡ after_poll mid ticket → AreTickets new left
over_tickets old mid new reads now tickets ticket left h polled =
    let counted = read_tickets mid now.window.waiting (ticket ∷ left) h.under_way in
    subst (λ (c : Core). AreTickets c left) (sym polled) (polled_counted mid ticket left counted.1 counted.2)

over_keeps : (old mid new : Core) (reads now : ReadsValue) (tickets : List ℕ) (ticket : ℕ) (left : List ℕ)
    → TakesReplies old mid reads now tickets (ticket ∷ left) → new ≡ after_poll mid ticket → KeepsGrants old new
over_keeps old mid new reads now tickets ticket left h polled =
    let counted = read_tickets mid now.window.waiting (ticket ∷ left) h.under_way in
    grants_both old mid new h.grants (subst (λ (c : Core). KeepsGrants mid c) (sym polled)
    (polled_keeps_grants mid ticket counted.0))

over_spares : (old mid new : Core) (reads now : ReadsValue) (tickets : List ℕ) (ticket : ℕ) (left : List ℕ)
    → TakesReplies old mid reads now tickets (ticket ∷ left) → new ≡ after_poll mid ticket
    → SparesOthers old new (λ id. IsNoneOf id tickets) (λ id. IsNoneOf id left)
over_spares old mid new reads now tickets ticket left h polled =
    let counted = read_tickets mid now.window.waiting (ticket ∷ left) h.under_way in
    spares_both old mid new (λ id. IsNoneOf id tickets) (λ id. IsNoneOf id (ticket ∷ left)) (λ id. IsNoneOf id left)
    h.spares
    (heard_spares mid new ticket left counted.0 polled)

pub over_owned : (old mid new : Core) (grant : GrantValue) (reads now : ReadsValue) (tickets : List ℕ) (ticket : ℕ)
    (left : List ℕ)
    → TakesReplies old mid reads now tickets (ticket ∷ left) → new ≡ after_poll mid ticket → IsOwned old grant
    → IsOwned new grant
over_owned old mid new grant reads now tickets ticket left h polled owned =
    (over_keeps old mid new reads now tickets ticket left h polled).grants grant.id grant.handle 1 owned

-- the first READ is under way under the first ticket
first_told : (core : Core) (answers : Answers) (waiting : List ReadAt) (ticket : ℕ) (left : List ℕ)
    → TellsReads core answers waiting (ticket ∷ left)
    → (r : ReadAt) × (first_of waiting ≡ Some r) × (answers r.place ≡ reply_in (record_at core ticket))
first_told core answers [] ticket left h = absurd h
first_told core answers (r ∷ rest) ticket left h = (r, refl, h.0)

only_first : (answers : Answers) (waiting : List ReadAt) (r : ReadAt) → first_of waiting ≡ Some r → answers r.place
    ≡ None
    → (q : ReadAt) → first_of waiting ≡ Some q → answers q.place ≡ None
only_first answers waiting r is none q at =
    let same : r ≡ q = (let e : (let p : Option ReadAt = Some r in p) ≡ Some q = sym is ∙ at in cc) in
    ap (λ (x : ReadAt). answers x.place) (sym same) ∙ none

over_by : (mid after new : Core) (grant : GrantValue) (now : ReadsValue) (ticket : ℕ) (left : List ℕ)
    (rest : List (ℕ × ReadAt)) (e : Error)
    (site : Site) (plan : Plan) (answers : Answers)
    → IsOverFor mid now ticket e
    → after ≡ after_poll mid ticket → ClosesRead after new (Some grant) rest
    → TellsReads mid answers now.window.waiting (ticket ∷ left)
    → ((later : Own) → plan later answers ≡ window_plan now.handle None now.window site now.facts later answers)
    → ReadBy site plan answers after new (Some grant) whole.Ended rest (Ready (Err e))
over_by mid after new grant now ticket left rest error.OutOfMemory site plan answers over polled close tells goes =
    absurd over
over_by mid after new grant now ticket left rest (error.BackgroundTaskFailure fault) site plan answers over polled close
    tells goes =
    let f = first_told mid answers now.window.waiting ticket left tells in
    let moves : plan [] answers ≡ window_move now.handle None now.window site now.facts =
    goes [] ∙ moves_now now.handle now.window site now.facts answers
    (only_first answers now.window.waiting f.0 f.1 (f.2 ∙ over.0)) in (
      ap (λ (c : Core). c.fault) polled ∙ (poll_fault mid ticket mid.fault (record_at mid ticket) ∙ over.1),
      unfinished_by (plan [] answers) (window_move now.handle None now.window site now.facts) moves (over.2 site),
      close,
    )
over_by mid after new grant now ticket left rest e site plan answers over polled close tells goes =
    let f = first_told mid answers now.window.waiting ticket left tells in
    (goes [] ∙ over.1.1 f.0 site [] answers f.1 (f.2 ∙ over.1.0), close)

over_stage : (core : Core) (s : ReadsValue) (ticket : ℕ) (e : Error) → IsOverFor core s ticket e
    → IsReadOver whole.Ended (Ready (Err e))
over_stage core s ticket error.OutOfMemory over = absurd over
over_stage core s ticket e over = refl

pub heard_over : (old mid after new : Core) (grant : GrantValue) (reads now : ReadsValue) (tickets : Deque) (ticket : ℕ)
    (left : List ℕ)
    (e : Error) → IsOwned old grant → TakesReplies old mid reads now tickets.items (ticket ∷ left)
    → IsOverFor mid now ticket e
    → after ≡ after_poll mid ticket → new ≡ core_after_close (core_without_tickets after left) grant
    → ReadOn old new (whole.Open grant reads tickets) whole.Ended (Ready (Err e))
heard_over old mid after new grant reads now tickets ticket left e owned h over polled close =
    let there = first_there mid now.window.waiting ticket left h.under_way in
    let r : ReadAt = there.0 in
    let rest : List ReadAt = there.1 in
    let held : AreUnderWay mid (r ∷ rest) (ticket ∷ left) =
    subst (λ (l : List ReadAt). AreUnderWay mid l (ticket ∷ left)) there.2 h.under_way in
    let closes : ClosesRead after new (Some grant) (zip left rest) =
    close ∙ (λ i. core_after_close (core_without_tickets after (sym (tickets_zip mid rest left held.2) i)) grant) in
    record {
      polled = λ site plan answers here tells.
          (let g = h.goes answers tells in
          let goes : (later : Own) → plan later answers ≡ window_plan now.handle None now.window site now.facts later
          answers = λ later.
          here later ∙ (g.1 site later
          ∙ ap (λ (x : ReadsValue). window_plan x.handle None now.window site x.facts later answers) (sym h.rest)) in (
            after,
            (
              zip left rest,
              (
                (
                  h.done ++ (ticket, r) ∷ [],
                  (
                    split_first h.done (zip tickets.items reads.window.waiting) ticket r left now.window.waiting rest
                        there.2 h.split,
                    taken_last old mid after h.done ticket r h.core polled,
                  ),
                ),
                over_by mid after new grant now ticket left (zip left rest) e site plan answers over polled closes g.0
                    goes,
              ),
            ),
          ));
      held = tt;
      over = over_stage mid now ticket e over;
      facts = tt;
      spares = finished_spares old after new grant left (Apart grant tickets.items)
          (spares_also old after (λ id. id ≢ grant.id) (λ id. IsNoneOf id tickets.items) (λ id. IsNoneOf id left)
          (over_spares old mid after reads now tickets.items ticket left h polled))
          (over_owned old mid after grant reads now tickets.items ticket left h polled owned)
          (over_tickets old mid after reads now tickets.items ticket left h polled) close;
    }

-- ---- given up

pub drops_open : (core new : Core) (grant : GrantValue) (reads : ReadsValue) (tickets : Deque)
    → IsReadHeld core (whole.Open grant reads tickets)
    → new ≡ core_after_close (core_without_tickets core tickets.items) grant
    → CancelsRead core new (whole.Open grant reads tickets)
drops_open core new grant reads tickets held close =
    record {
      core = close;
      spares = dropped_spares core new grant tickets.items held.0
          (read_tickets core reads.window.waiting tickets.items held.1) close;
    }

pub drops_opening : (old new : Core) (call : CallValue Granting) (facts : Facts) → CancelsAwaited old new call.stage
    → CancelsRead old new (whole.Opening call facts)
drops_opening old new call facts cancels = record {
  core = cancels.core;
  spares =
      cancelled_spares old new call.stage cancels;
}

pub drops_nothing : (core : Core) → CancelsRead core core whole.Ended
drops_nothing core = record { core = refl; spares = spares_kept core core (λ id. Unit {0}) (keeps_same core) }

-- ---- others leave a read

pub read_still : (old new : Core) (p : Whole) → KeepsHeld old new → IsReadHeld old p → IsReadHeld new p
read_still old new whole.Ended k h = tt
read_still old new (whole.Opening call facts) k h = (still_under_way grant_meaning old new call k h.0, h.1)
read_still old new (whole.Open grant reads tickets) k h =
    (k.grants.grants grant.id grant.handle 1 h.0, keeps_reads old new reads.window.waiting tickets.items k h.1, h.2)
