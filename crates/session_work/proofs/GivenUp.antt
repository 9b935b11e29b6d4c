-- A ticket is given up: what is left of it and of the core.
use Rattle.std.proofs.Common.{◌≡◌, ◌≢◌, ◌<◌, ◌+◌, ◌⊎◌, ℕ, zero, suc, true, false, List, [], ◌∷◌, Option, Some, None, refl, ap, sym, ◌∙◌, subst, arith, inl, inr}
use Rattle.std.specs.Prelude.{IfSome, is_some, slice_get}
use Rattle.sftp_model.specs.declared.error.Fault.{Fault}
use Rattle.sftp_model.specs.declared.reply.Reply.{Reply}
use Rattle.sftp_model.specs.declared.reply.Reply.TheVariants as reply
use Rattle.sftp_core.specs.Core.{Core, abandon_leaves, record_at, poll_leaves, reply_in}
use Rattle.sftp_core.specs.Table.{handle_in_reply}
use Rattle.sftp_core.specs.declared.id_record.IdRecord.{IdRecord}
use Rattle.sftp_core.specs.declared.id_record.IdRecord.TheVariants.{Waiting, Answered, Granted}
use Rattle.sftp_model.specs.declared.slot.Facts.{Facts}
use Rattle.sftp_model.specs.declared.slot.Site.{Site}
use Rattle.plan_runner.specs.Pending.{AwaitsNoMore, own_place}
use Rattle.plan_runner.specs.Sound.{KeepsSite as Stays}
use Rattle.session_laws.specs.Ends.{Dropped, GivesUp, Kept, Polled}
use Rattle.session_laws.specs.Lanes.{Held, LaneValue, Ticketed, ticket_places}
use Rattle.session_laws.specs.Places.{IsAbove, IsRising, is_in}
use Rattle.session_laws.proofs.HoldLaws.{ticket_index, ticket_without}
use Rattle.session_laws.proofs.PlaceLaws.{without_self}
use Rattle.session_work.specs.Tokens.{IsDropped, IsGivenUp, IsPolled, SpendsTicket}

-- ---- the one ticket of a place

above_all : (p : ℕ) (ts : List Ticketed) (k : ℕ) (t : Ticketed) → IsAbove p (ticket_places ts) → slice_get ts k ≡ Some t
    → p < t.place
above_all p [] k t above got = absurd cc
above_all p (x ∷ xs) zero t above got = (let e : x ≡ t = cc in subst (λ (y : Ticketed). p < y.place) e above.0)
above_all p (x ∷ xs) (suc k) t above got = above_all p xs k t above.1 got

-- where places rise, two tickets of one place are one
one_ticket : (ts : List Ticketed) (i k : ℕ) (x y : Ticketed) → IsRising (ticket_places ts) → slice_get ts i ≡ Some x
    → slice_get ts k ≡ Some y → x.place ≡ y.place → x ≡ y
one_ticket [] i k x y rising a b same = absurd cc
one_ticket (t ∷ ts) zero zero x y rising a b same = cc
one_ticket (t ∷ ts) zero (suc k) x y rising a b same =
    (let e : t ≡ x = cc in
    let lt : t.place < y.place = above_all t.place ts k y rising.0 b in
    let here : t.place ≡ x.place = ap (λ (z : Ticketed). z.place) e in
    absurd (omega (arith, lt, here, same)))
one_ticket (t ∷ ts) (suc i) zero x y rising a b same =
    (let e : t ≡ y = cc in
    let lt : t.place < x.place = above_all t.place ts i x rising.0 a in
    let here : t.place ≡ y.place = ap (λ (z : Ticketed). z.place) e in
    absurd (omega (arith, lt, here, same)))
one_ticket (t ∷ ts) (suc i) (suc k) x y rising a b same = one_ticket ts i k x y rising.1 a b same

-- ---- its reply

-- the one ticket of a place has none
pub missing_there : (core : Core) (ts : List Ticketed) (i k : ℕ) (x y : Ticketed) (p n : ℕ)
    → IsRising (ticket_places ts) → slice_get ts i ≡ Some x → slice_get ts k ≡ Some y → x.place ≡ p → y.place ≡ p
    → y.ticket ≡ n → reply_in (record_at core x.ticket) ≡ None → reply_in (record_at core n) ≡ None
missing_there core ts i k x y p n rising a b here there ticket none =
    subst (λ (m : ℕ). reply_in (record_at core m) ≡ None) ticket
    (subst (λ (z : Ticketed). reply_in (record_at core z.ticket) ≡ None)
    (one_ticket ts i k x y rising a b (here ∙ sym there)) none)

-- a missing reply is none
pub nothing_came : (o : Option Reply) (handle : List ℕ) → o ≡ None → o ≢ Some (reply.Handle handle)
nothing_came o handle none came = (let clash : ◌≡◌ {A = Option Reply} None (Some (reply.Handle handle)) = sym none
    ∙ came in cc)

-- a reply without a handle that is polled is dropped
polled_drops : (core : Core) (t : ℕ) (fault : Option Fault) (p : Option IdRecord) (r : Reply) → reply_in p ≡ Some r
    → handle_in_reply r ≡ None → poll_leaves core t fault p ≡ abandon_leaves core t p
polled_drops core t fault None r came none = absurd cc
polled_drops core t fault (Some (Waiting expected sent wanted)) r came none = absurd cc
polled_drops core t fault (Some (Answered expected y)) r came none =
    (let same : y ≡ r = cc in rw (ap handle_in_reply same ∙ none) refl)
polled_drops core t fault (Some (Granted handle users)) r came none = absurd cc

no_handle : (r : Reply) (o : Option Reply) (handle : List ℕ) → handle_in_reply r ≡ None → o ≡ Some r
    → o ≢ Some (reply.Handle handle)
no_handle r o handle none came other =
    (let same : r ≡ reply.Handle handle = (let e : ◌≡◌ {A = Option Reply} (Some r) (Some (reply.Handle handle)) =
    sym came ∙ other in cc) in
    let clash : ◌≡◌ {A = Option (List ℕ)} None (Some handle) = sym none ∙ ap handle_in_reply same in cc)

-- the reply was taken: it is dropped, or a HANDLE is a grant
given_up : (old new : Core) (before after : List Ticketed) (grants held : List Held) (place : ℕ) (r : Reply)
    → SpendsTicket old new before after grants held place r → IsGivenUp old new before after grants held place
given_up old new before after grants held place (reply.Handle handle) x =
    record { k = x.k; ticket = x.ticket; here = x.here; rest = x.rest; how = inr (handle, (x.came, (x.core, x.now))) }
given_up old new before after grants held place r x =
    record {
      k = x.k;
      ticket = x.ticket;
      here = x.here;
      rest = x.rest;
      how = inl (
        λ handle. no_handle r (reply_in (record_at old x.ticket)) handle refl x.came,
        (x.core ∙ polled_drops old x.ticket old.fault (record_at old x.ticket) r x.came refl, x.now),
      );
    }

pub taken_given_up : (old new : Core) (before after : List Ticketed) (grants held : List Held) (place : ℕ)
    (o : Option Reply) → is_some o ≡ true → IfSome o (λ r. SpendsTicket old new before after grants held place r)
    → IsGivenUp old new before after grants held place
taken_given_up old new before after grants held place None e x = absurd cc
taken_given_up old new before after grants held place (Some r) e x = given_up old new before after grants held place r x

-- no ticket of its place is left
pub place_gone : (old new : Core) (before after : List Ticketed) (grants held : List Held) (place : ℕ)
    → IsRising (ticket_places before) → IsGivenUp old new before after grants held place
    → is_in place (ticket_places after) ≡ false
place_gone old new before after grants held place rising x =
    ap (λ (ts : List Ticketed). is_in place (ticket_places ts)) x.rest
    ∙ (ap (is_in place) (ticket_without before x.k) ∙ without_self (ticket_places before) x.k place rising
    (ticket_index before x.k (record { place = place; ticket = x.ticket }) x.here))

-- ---- the lane

-- its call has ended then
pub gives_up : (core new : Core) (v now : LaneValue) (place : ℕ) → own_place v.running ≡ Some place
    → IsGivenUp core new v.tickets now.tickets v.grants now.grants place → now.running ≡ None → now.site ≡ v.site
    → now.ended ≡ v.ended + 1 → GivesUp core new v now
gives_up core new v now place own x running site ended = by_how x.how
  where
    ticket : Ticketed
    ticket = record { place = place; ticket = x.ticket }

    by_how : IsDropped core new x.ticket v.grants now.grants ⊎ IsPolled core new place x.ticket v.grants now.grants
        → GivesUp core new v now
    by_how (inl d) =
        Dropped (record {
          k = x.k;
          ticket = ticket;
          here = x.here;
          own = own;
          ungranted = d.0;
          left = d.1.0;
          lane =
              λ i. record { running = running i; site = site i; tickets = x.rest i; grants = d.1.1 i; ended = ended i };
        })
    by_how (inr p) =
        Polled (record {
          k = x.k;
          ticket = ticket;
          handle = p.0;
          here = x.here;
          own = own;
          came = p.1.0;
          left = p.1.1.0;
          lane = λ i. record {
            running = running i;
            site = site i;
            tickets = x.rest i;
            grants = p.1.1.1 i;
            ended =
                ended i;
          };
        })

-- where it awaited no reply to a request of its own
pub keeps_all : (core new : Core) (v now : LaneValue) → own_place v.running ≡ None → new ≡ core → now.running ≡ None
    → now.tickets ≡ v.tickets → now.grants ≡ v.grants → now.ended ≡ v.ended + 1 → AwaitsNoMore v.site now.site
    → ((facts : Facts) → Stays facts v.site now.site) → GivesUp core new v now
keeps_all core new v now none left running tickets grants ended fewer stays =
    Kept (record {
      none = none;
      left = left;
      lane = λ i. record
          { running = running i; site = now.site; tickets = tickets i; grants = grants i; ended = ended i };
      fewer =
          fewer;
      stays = stays;
    })

pub fewer_self : (site : Site) → AwaitsNoMore site site
fewer_self site = record { each = λ q. omega arith }

pub stays_self : (facts : Facts) (site : Site) → Stays facts site site
stays_self facts site = record { count = refl; limit = λ within. within }
