-- The tickets of READs under way, over what a core does.
use Rattle.std.proofs.Common.{◌≡◌, ◌≢◌, ◌∙◌, refl, sym, ap, subst, ℕ, true, false, List, [], ◌∷◌, ◌++◌, Option, Some, None, Ok, Err, length, suc}
use Rattle.std.specs.Prelude.{Bool, IsTrue}
use Rattle.std.specs.List.{zip}
use Rattle.std.proofs.lemmas.List.{map-append}
use Rattle.sftp_model.specs.Answers.{allows_reply}
use Rattle.sftp_model.specs.declared.answers.Expected.TheVariants as expected
use Rattle.sftp_model.specs.declared.error.Fault.{Fault}
use Rattle.sftp_model.specs.declared.reply.Reply.{Reply}
use Rattle.sftp_model.specs.declared.reply.Reply.TheVariants as reply
use Rattle.sftp_model.specs.declared.request.Request.{Request}
use Rattle.sftp_core.specs.declared.errors.SubmitError.{SubmitError}
use Rattle.sftp_core.specs.declared.errors.SubmitError.TheVariants as submit
use Rattle.sftp_core.specs.declared.id_record.IdRecord.{IdRecord}
use Rattle.sftp_model.specs.Frames.{is_too_long}
use Rattle.sftp_core.specs.Core.{Core, IsSubmitError, core_after_abandon, after_poll, record_at, is_ticket, polled_with, refusal_of, submit_refusal}
use Rattle.sftp_core.specs.Grant.{GrantValue}
use Rattle.sftp_core.specs.Table.{IsAllowed}
use Rattle.sftp_core.specs.declared.tokens.Polled.TheVariants as polled
use Rattle.plan_state.proofs.Polling.{came_grant, came_reply, failed_by, missed_by}
use Rattle.sftp_core.proofs.Elsewhere.{abandon_elsewhere}
use Rattle.plan_window.specs.declared.window.ReadAt.{ReadAt}
use Rattle.plan_state.specs.Asked.{HoldsTicket}
use Rattle.plan_state.specs.Keeping.{KeepsHeld, KeepsGrants, SparesOthers}
use Rattle.plan_state.proofs.Keeping.{grants_both, keeps_same}
use Rattle.plan_state.proofs.OthersKept.{cancelled_keeps_grants, polled_on}
use Rattle.plan_state.proofs.Sparing.{abandoned_spares, polled_spares, spares_kept}
use Rattle.sftp_fs_read.specs.declared.tickets.Answer.TheVariants as answer
use Rattle.sftp_fs_read.specs.Tickets.{AreTickets, AreUnderWay, IsAnswer, IsNoneOf, polled_all, core_without_tickets, tickets_of}

-- ---- they are given up

-- these are left of all
pub record Abandoning (first core : Core) (all left : List ℕ) : Type 0 where
  pub held : AreTickets core left
  pub same : core_without_tickets core left ≡ core_without_tickets first all

pub abandons_first : (core : Core) (all : List ℕ) → AreTickets core all → Abandoning core core all all
abandons_first core all h = record { held = h; same = refl }

next_of : (first core : Core) (all left : List ℕ) (ticket : ℕ) (later : List ℕ)
    → Abandoning first core all left → left ≡ ticket ∷ later → Abandoning first core all (ticket ∷ later)
next_of first core all left ticket later a is = subst (λ x. Abandoning first core all x) is a

pub abandons_ticket : (first core : Core) (all left : List ℕ) (ticket : ℕ) (later : List ℕ)
    → Abandoning first core all left → left ≡ ticket ∷ later → IsTrue (is_ticket (record_at core ticket))
abandons_ticket first core all left ticket later a is = (next_of first core all left ticket later a is).held.0

others_counted : (core : Core) (ticket : ℕ) (left : List ℕ) → IsNoneOf ticket left → AreTickets core left
    → AreTickets (core_after_abandon core ticket) left
others_counted core ticket [] apart h = tt
others_counted core ticket (other ∷ later) apart h = (
  subst (λ (p : Option IdRecord). IsTrue (is_ticket p)) (sym (abandon_elsewhere core ticket (record_at core ticket)
      other (λ e. apart.0 (sym e)))) h.0,
  h.1,
  others_counted core ticket later apart.1 h.2,
)

pub abandons_next : (first core : Core) (all left : List ℕ) (ticket : ℕ) (later : List ℕ)
    → Abandoning first core all left → left ≡ ticket ∷ later →
    Abandoning first (core_after_abandon core ticket) all later
abandons_next first core all left ticket later a is =
    let b = next_of first core all left ticket later a is in
    record { held = others_counted core ticket later b.held.1 b.held.2; same = b.same }

pub abandons_all : (first core : Core) (all left : List ℕ) → Abandoning first core all left → left ≡ [] → core
    ≡ core_without_tickets first all
abandons_all first core all left a none = (subst (λ x. Abandoning first core all x) none a).same

-- every grant stays
pub without_keeps : (core : Core) (tickets : List ℕ) → AreTickets core tickets
    → KeepsGrants core (core_without_tickets core tickets)
without_keeps core [] h = (keeps_same core).grants
without_keeps core (ticket ∷ later) h =
    grants_both core (core_after_abandon core ticket) (core_without_tickets core (ticket ∷ later))
    (cancelled_keeps_grants core ticket h.0)
    (without_keeps (core_after_abandon core ticket) later (others_counted core ticket later h.1 h.2))

-- and what others have, too
pub heard_spares : (core new : Core) (ticket : ℕ) (left : List ℕ) → IsTrue (is_ticket (record_at core ticket)) → new
    ≡ after_poll core ticket
    → SparesOthers core new (λ id. IsNoneOf id (ticket ∷ left)) (λ id. IsNoneOf id left)
heard_spares core new ticket left counted polled =
    let x = polled_spares core ticket counted in
    subst (λ (c : Core). SparesOthers core c (λ id. IsNoneOf id (ticket ∷ left)) (λ id. IsNoneOf id left)) (sym polled)
    (record {
      grants = λ id handle users theirs here. ((x.grants id handle users theirs.0 here).0, theirs.1);
      tickets = λ other kind theirs held. ((x.tickets other kind theirs.0 held).0, theirs.1);
      opened = x.opened;
    })

pub without_spares : (core : Core) (tickets : List ℕ) → AreTickets core tickets
    → SparesOthers core (core_without_tickets core tickets) (λ id. IsNoneOf id tickets) (λ id. Unit {0})
without_spares core [] h = spares_kept core core (λ id. Unit {0}) (keeps_same core)
without_spares core (ticket ∷ later) h =
    let x = abandoned_spares core ticket h.0 in
    let rest = without_spares (core_after_abandon core ticket) later (others_counted core ticket later h.1 h.2) in
    record {
      grants = λ id handle users theirs here. rest.grants id handle users theirs.1
          (x.grants id handle users theirs.0 here).0;
      tickets = λ other kind theirs held. rest.tickets other kind theirs.1 (x.tickets other kind theirs.0 held).0;
      opened = λ o. rest.opened (x.opened o);
    }

-- ---- READs under way

pub read_tickets : (core : Core) (reads : List ReadAt) (tickets : List ℕ) → AreUnderWay core reads tickets
    → AreTickets core tickets
read_tickets core [] [] h = tt
read_tickets core [] (ticket ∷ later) h = absurd h
read_tickets core (r ∷ rest) [] h = absurd h
read_tickets core (r ∷ rest) (ticket ∷ later) h = (h.0.counted, h.1, read_tickets core rest later h.2)

pub keeps_reads : (old new : Core) (reads : List ReadAt) (tickets : List ℕ) → KeepsHeld old new
    → AreUnderWay old reads tickets
    → AreUnderWay new reads tickets
keeps_reads old new [] [] k h = tt
keeps_reads old new [] (ticket ∷ later) k h = absurd h
keeps_reads old new (r ∷ rest) [] k h = absurd h
keeps_reads old new (r ∷ rest) (ticket ∷ later) k h =
    (k.holds ticket (expected.Content r.len) h.0, h.1, keeps_reads old new rest later k h.2)

pub others_under_way : (core : Core) (ticket : ℕ) (reads : List ReadAt) (tickets : List ℕ) → IsNoneOf ticket tickets
    → AreUnderWay core reads tickets → AreUnderWay (after_poll core ticket) reads tickets
others_under_way core ticket [] [] apart h = tt
others_under_way core ticket [] (other ∷ later) apart h = absurd h
others_under_way core ticket (r ∷ rest) [] apart h = absurd h
others_under_way core ticket (r ∷ rest) (other ∷ later) apart h = (
  polled_on core ticket other (expected.Content r.len) (λ e. apart.0 (sym e)) h.0,
  h.1,
  others_under_way core ticket rest later apart.1 h.2,
)

-- ---- one more

not_none : (p : Option IdRecord) → IsTrue (is_ticket p) → p ≡ None → ⊥
not_none p counted e = let gone = subst (λ (x : Option IdRecord). IsTrue (is_ticket x)) e counted in cc

new_apart : (core : Core) (ticket : ℕ) (reads : List ReadAt) (tickets : List ℕ) → record_at core ticket ≡ None
    → AreUnderWay core reads tickets
    → IsNoneOf ticket tickets
new_apart core ticket [] [] free h = tt
new_apart core ticket [] (other ∷ later) free h = absurd h
new_apart core ticket (r ∷ rest) [] free h = absurd h
new_apart core ticket (r ∷ rest) (other ∷ later) free h = (
  (λ e. not_none (record_at core other) h.0.counted (ap (record_at core) (sym e) ∙ free)),
  new_apart core ticket rest later free h.2,
)

last_apart : (ticket new : ℕ) (tickets : List ℕ) → ticket ≢ new → IsNoneOf ticket tickets
    → IsNoneOf ticket (tickets ++ new ∷ [])
last_apart ticket new [] ne apart = (ne, tt)
last_apart ticket new (other ∷ later) ne apart = (apart.0, last_apart ticket new later ne apart.1)

put_last : (core : Core) (new : ℕ) (r : ReadAt) (reads : List ReadAt) (tickets : List ℕ)
    → AreUnderWay core reads tickets
    → IsNoneOf new tickets → HoldsTicket core new (expected.Content r.len)
    → AreUnderWay core (reads ++ r ∷ []) (tickets ++ new ∷ [])
put_last core new r [] [] h apart held = (held, tt, tt)
put_last core new r [] (ticket ∷ later) h apart held = absurd h
put_last core new r (q ∷ rest) [] h apart held = absurd h
put_last core new r (q ∷ rest) (ticket ∷ later) h apart held =
    (h.0, last_apart ticket new later (λ e. apart.0 (sym e)) h.1, put_last core new r rest later h.2 apart.1 held)

-- a READ that was submitted under a free ticket
pub read_more : (old new : Core) (ticket : ℕ) (r : ReadAt) (reads : List ReadAt) (tickets : List ℕ)
    → record_at old ticket ≡ None
    → KeepsHeld old new → HoldsTicket new ticket (expected.Content r.len) → AreUnderWay old reads tickets
    → AreUnderWay new (reads ++ r ∷ []) (tickets ++ ticket ∷ [])
read_more old new ticket r reads tickets free k held h =
    put_last new ticket r reads tickets (keeps_reads old new reads tickets k h)
    (new_apart old ticket reads tickets free h) held

-- ---- with their READs

pub tickets_zip : (core : Core) (reads : List ReadAt) (tickets : List ℕ) → AreUnderWay core reads tickets
    → tickets_of (zip tickets reads) ≡ tickets
tickets_zip core [] [] h = refl
tickets_zip core [] (ticket ∷ later) h = absurd h
tickets_zip core (r ∷ rest) [] h = absurd h
tickets_zip core (r ∷ rest) (ticket ∷ later) h = ap (λ (l : List ℕ). ticket ∷ l) (tickets_zip core rest later h.2)

pub zip_length : (core : Core) (reads : List ReadAt) (tickets : List ℕ) → AreUnderWay core reads tickets
    → length (zip tickets reads) ≡ length reads
zip_length core [] [] h = refl
zip_length core [] (ticket ∷ later) h = absurd h
zip_length core (r ∷ rest) [] h = absurd h
zip_length core (r ∷ rest) (ticket ∷ later) h = ap suc (zip_length core rest later h.2)

pub zip_last : (core : Core) (new : ℕ) (r : ReadAt) (reads : List ReadAt) (tickets : List ℕ)
    → AreUnderWay core reads tickets
    → zip (tickets ++ new ∷ []) (reads ++ r ∷ []) ≡ zip tickets reads ++ (new, r) ∷ []
zip_last core new r [] [] h = refl
zip_last core new r [] (ticket ∷ later) h = absurd h
zip_last core new r (q ∷ rest) [] h = absurd h
zip_last core new r (q ∷ rest) (ticket ∷ later) h =
    ap (λ (l : List (ℕ × ReadAt)). (ticket, q) ∷ l) (zip_last core new r rest later h.2)

-- ---- polled one after another

pub polled_last : (core : Core) (done : List ℕ) (ticket : ℕ) → polled_all core (done ++ ticket ∷ [])
    ≡ after_poll (polled_all core done) ticket
polled_last core [] ticket = refl
polled_last core (first ∷ done) ticket = polled_last (after_poll core first) done ticket

pub taken_last : (old core new : Core) (done : List (ℕ × ReadAt)) (ticket : ℕ) (r : ReadAt)
    → core ≡ polled_all old (tickets_of done) → new ≡ after_poll core ticket
    → new ≡ polled_all old (tickets_of (done ++ (ticket, r) ∷ []))
taken_last old core new done ticket r is polled =
    polled ∙ (ap (λ (c : Core). after_poll c ticket) is
    ∙ (sym (polled_last old (tickets_of done) ticket)
    ∙ ap (polled_all old) (sym (map-append (λ (x : ℕ × ReadAt). x.0) done ((ticket, r) ∷ [])))))

-- ---- what a core tells

no_handle : (len : ℕ) (handle : List ℕ) → allows_reply (expected.Content len) (reply.Handle handle) ≡ true → ⊥
no_handle len handle e = cc

pub never_granted : (core : Core) (t len : ℕ) (g : GrantValue) → HoldsTicket core t (expected.Content len)
    → IsAllowed (record_at core t)
    → polled_with core t ≡ Ok (polled.Granted g) → ⊥
never_granted core t len g held allowed gave =
    no_handle len g.handle ((came_grant core t g allowed gave).allowed (expected.Content len) held.expects)

pub came : (core after : Core) (t len : ℕ) (r : Reply) → HoldsTicket core t (expected.Content len)
    → IsAllowed (record_at core t)
    → polled_with core t ≡ Ok (polled.Reply r) → after ≡ after_poll core t → IsAnswer core after t len (answer.Came r)
came core after t len r held allowed gave to =
    let c = came_reply core t r allowed gave in
    (record { taken = c.taken; allowed = c.allowed (expected.Content len) held.expects }, to)

pub failed : (core after : Core) (t len : ℕ) (f : Fault) → polled_with core t ≡ Ok (polled.Failed f) → after
    ≡ after_poll core t → IsAnswer core after t len (answer.Failed f)
failed core after t len f gave to = (let m = failed_by core t f gave in (m.0, m.1, to))

pub missing : (core after : Core) (t len q : ℕ) → HoldsTicket core t (expected.Content len) → polled_with core t ≡ Err q
    → after
    ≡ after_poll core t → IsAnswer core after t len (answer.Missing q)
missing core after t len q held gave to = (let m = missed_by core t q held.counted gave in (m.0, m.2, m.1, to ∙ m.3))

-- a request that fits a frame is not refused for its length
pub never_long : (core : Core) (asked : Request) (e : SubmitError) → is_too_long asked ≡ false → e ≡ submit.TooLong
    → IsSubmitError e (submit_refusal core asked) → ⊥
never_long core asked e short is refused =
    by_fault core.fault (subst (λ (b : Bool). refusal_of core.fault b ≡ Some submit.TooLong) short
    (subst (λ (x : SubmitError). IsSubmitError x (submit_refusal core asked)) is refused))
  where
    by_fault : (fault : Option Fault) → refusal_of fault false ≡ Some submit.TooLong → ⊥
    by_fault None x = cc
    by_fault (Some f) x = cc
