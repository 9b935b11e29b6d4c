-- What the rounds of a session leave to a listing that is waited for.
use Rattle.std.proofs.Common.{◌≡◌, ◌<◌, ◌+◌, ◌-◌, ◌^◌, ℕ, suc, true, false, List, [], ◌∷◌, refl, ap, sym, ◌∙◌, subst, arith, inl, inr}
use Rattle.std.specs.Prelude.{Bool, Option, Some, None, Result, Ok, Err}
use Rattle.sftp_model.specs.declared.error.Error.{Error}
use Rattle.sftp_model.specs.declared.error.Error.TheVariants as error
use Rattle.sftp_model.specs.declared.answers.Expected.TheVariants as expected
use Rattle.sftp_model.specs.declared.reply.NameEntry.{NameEntry}
use Rattle.sftp_model.specs.declared.error.Fault.{Fault}
use Rattle.sftp_model.specs.declared.reply.Reply.{Reply}
use Rattle.sftp_model.specs.declared.request.Request.TheVariants as request
use Rattle.sftp_core.specs.Core.{Core, record_at, reply_in}
use Rattle.sftp_link.specs.Views.{LinkView}
use Rattle.plan_state.specs.Keeping.{KeepsHeld, KeepsGrants, SparesOthers}
use Rattle.plan_state.proofs.Sparing.{spares_both, spares_kept, spares_then}
use Rattle.plan_state.specs.declared.submission.Asking.TheVariants.{Whole}
use Rattle.plan_state.specs.declared.poll.Poll.TheVariants.{Pending, Ready}
use Rattle.plan_state.proofs.Keeping.{grants_both, keeps_same, submitted_missing}
use Rattle.plan_state.proofs.OthersKept.{grant_kept}
use Rattle.sftp_fs.specs.Listings.{AsksReaddir, ListingAnswer, GivesAt, HearsOf, IsAwaiting, IsListing, IsNoneAsked, ListingValue, entry_told}
use Rattle.sftp_client.specs.Listed.{AwaitsEntry, HasListed, ListedIn, MayWaitFor, given_by}
use Rattle.sftp_client.specs.Sessions.{SftpValue}
use Rattle.sftp_client.specs.Waits.{ArePollRounds, RoundFails, SendsAndTakes}
use Rattle.sftp_client.proofs.Faults.{faults_kept, stop_faults}
use Rattle.sftp_client.proofs.Waiting.{AwaitsOne, fail_stays, round_stays, round_takes, round_unfaulted}

-- a listing stays what it is over what keeps a core
awaits_still : (old new : Core) (asked : Option ℕ) → KeepsHeld old new → IsAwaiting old asked → IsAwaiting new asked
awaits_still old new None k h = tt
awaits_still old new (Some ticket) k h = k.holds ticket expected.Names h

listing_still : (old new : Core) (p : ListingValue) → KeepsHeld old new → IsListing old p → IsListing new p
listing_still old new p k h =
    record { granted = grant_kept old new p.grant k.grants h.granted; awaits = awaits_still old new p.asked k h.awaits }

-- what holds between two rounds
pub record ListsOn {L S : Type 0} (state : L → LinkView S) (count : ℕ) (old new : SftpValue L) (p q : ListingValue) :
    Type 0 where
  pub rounds : ArePollRounds AwaitsEntry state count old new p q
  pub may : MayWaitFor new.core q
  pub grants : KeepsGrants old.core new.core
  pub spares : SparesOthers old.core new.core (IsNoneAsked p.asked) (IsNoneAsked q.asked)
  pub unfaulted : (state new.link).faults ≡ (state old.link).faults

pub lists_first : {L S : Type 0} (state : L → LinkView S) (old : SftpValue L) (p : ListingValue) → MayWaitFor old.core p
    → ListsOn state 0 old old p p
lists_first state old p may =
    record {
      rounds = (refl, refl);
      may = may;
      grants = (keeps_same old.core).grants;
      spares = spares_kept old.core old.core (IsNoneAsked p.asked) (keeps_same old.core);
      unfaulted = refl;
    }

-- what a poll leaves to the listing and to the session
pub record EntryLeaves {L : Type 0} (old new : SftpValue L) (p q : ListingValue) : Type 0 where
  pub may : MayWaitFor new.core q
  pub grants : KeepsGrants old.core new.core
  pub spares : SparesOthers old.core new.core (IsNoneAsked p.asked) (IsNoneAsked q.asked)
  pub link : new.link ≡ old.link

entry_leaves : {L : Type 0} (old new : SftpValue L) (p q : ListingValue) (given : ListingAnswer) → MayWaitFor old.core p
    → ListedIn old new p q given → EntryLeaves old new p q
entry_leaves old new p q given may (inl h) =
    record {
      may = record { opened = h.0.grants.opened may.opened; listing = h.0.listing };
      grants = h.0.grants;
      spares = h.0.spares;
      link = ap (λ (x : SftpValue _). x.link) h.1;
    }
entry_leaves old new p q given may (inr h) =
    record {
      may = subst (λ (x : SftpValue _). MayWaitFor x.core q) (sym h.1.1.0)
          (subst (λ x. MayWaitFor old.core x) (sym h.1.1.1) may);
      grants = subst (λ (x : SftpValue _). KeepsGrants old.core x.core) (sym h.1.1.0) (keeps_same old.core).grants;
      spares = subst (λ (x : SftpValue _). SparesOthers old.core x.core (IsNoneAsked p.asked) (IsNoneAsked q.asked))
          (sym h.1.1.0)
          (subst (λ (x : ListingValue). SparesOthers old.core old.core (IsNoneAsked p.asked) (IsNoneAsked x.asked))
          (sym h.1.1.1)
          (spares_kept old.core old.core (IsNoneAsked p.asked) (keeps_same old.core)));
      link = ap (λ (x : SftpValue _). x.link) h.1.1.0;
    }

entries_spare : (old mid new : Core) (p m q : ListingValue) →
    SparesOthers old mid (IsNoneAsked p.asked) (IsNoneAsked m.asked)
    → SparesOthers mid new (IsNoneAsked m.asked) (IsNoneAsked q.asked)
    → SparesOthers old new (IsNoneAsked p.asked) (IsNoneAsked q.asked)
entries_spare old mid new p m q first last =
    spares_both old mid new (IsNoneAsked p.asked) (IsNoneAsked m.asked) (IsNoneAsked q.asked) first last

-- ---- a listing that gave nothing yet awaits a reply that is missing

-- the ticket that a listing awaits has no reply
record AwaitsMissing (core : Core) (asked : Option ℕ) : Type 0 where
  ticket : ℕ
  awaits : asked ≡ Some ticket
  missing : reply_in (record_at core ticket) ≡ None

asked_more : (old new : Core) (p q : ListingValue) → AsksReaddir old new p q → AwaitsMissing new q.asked
asked_more old new p q h =
    record {
      ticket = h.ticket;
      awaits = ap (λ (x : ListingValue). x.asked) h.awaits;
      missing = submitted_missing old new (Whole (request.Readdir p.grant.handle)) h.ticket h.submitted;
    }

heard_none : (old new : Core) (p q : ListingValue) (ticket : ℕ) (r : Option Reply) (fault : Option Fault)
    → reply_in (record_at old ticket) ≡ r → HearsOf old new p q Pending ticket r fault → AwaitsMissing new q.asked
heard_none old new p q ticket (Some r) fault is h = absurd (let clash : ◌≡◌ {A = ListingAnswer} Pending
    (Ready (entry_told r)) = h.0 in cc)
heard_none old new p q ticket None (Some fault) is h =
    let clash : ◌≡◌ {A = ListingAnswer} Pending (Ready (Some (Err (error.BackgroundTaskFailure fault)))) = h.0 in
    absurd cc
heard_none old new p q ticket None None is h =
    record {
      ticket = ticket;
      awaits = ap (λ (x : ListingValue). x.asked) h.1;
      missing = ap (λ (c : Core). reply_in (record_at c ticket)) h.2 ∙ is;
    }

gave_nothing : (old new : Core) (p q : ListingValue) (over : Bool) (entries : List NameEntry) (asked : Option ℕ)
    → GivesAt old new p q Pending over entries asked → AwaitsMissing new q.asked
gave_nothing old new p q true entries asked h = absurd (let clash : ◌≡◌ {A = ListingAnswer} Pending (Ready None) = h.0
    in cc)
gave_nothing old new p q false (entry ∷ entries) asked h = absurd
    (let clash : ◌≡◌ {A = ListingAnswer} Pending (Ready (Some (Ok entry))) = h.0 in cc)
gave_nothing old new p q false [] None h = asked_more old new p q h
gave_nothing old new p q false [] (Some ticket) h = heard_none old new p q ticket (reply_in (record_at old ticket))
    old.fault refl h

entry_awaits : {L : Type 0} (old new : SftpValue L) (p q : ListingValue) → AwaitsEntry old new p q → AwaitsOne new.core
entry_awaits old new p q (inl h) =
    let m = gave_nothing old.core new.core p q p.ended p.entries p.asked h.0.gives in
    let held : IsAwaiting new.core (Some m.ticket) = subst (λ (a : Option ℕ). IsAwaiting new.core a) m.awaits
    h.0.listing.awaits in
    record { ticket = m.ticket; counted = held.counted; missing = m.missing }
entry_awaits old new p q (inr h) = absurd cc

-- a round
pub lists_next : {L S : Type 0} (state : L → LinkView S) (count : ℕ) (old mid polled new : SftpValue L)
    (p m q : ListingValue)
    → ListsOn state count old mid p m → AwaitsEntry mid polled m q → SendsAndTakes state polled new
    → ListsOn state (count + 1) old new p q
lists_next state count old mid polled new p m q w waits round =
    let next : suc count ≡ count + 1 = omega arith in
    let left = entry_leaves mid polled m q _ w.may waits in
    let stays = round_stays state polled new left.may.opened round in
    subst (λ (n : ℕ). ListsOn state n old new p q) next (record {
      rounds = (
        mid,
        (
          m,
          (
            w.rounds,
            record {
              mid = polled;
              waits = waits;
              round = round;
              took = round_takes state polled new round left.may.opened (entry_awaits mid polled m q waits);
            },
          ),
        ),
      );
      may = record {
        opened = stays.grants.opened left.may.opened;
        listing = listing_still polled.core new.core q stays left.may.listing;
      };
      grants = grants_both old.core polled.core new.core (grants_both old.core mid.core polled.core w.grants
          left.grants) stays.grants;
      spares = spares_then old.core polled.core new.core (IsNoneAsked p.asked) (IsNoneAsked q.asked)
          (entries_spare old.core mid.core polled.core p m q w.spares left.spares) stays;
      unfaulted = round_unfaulted state polled new round ∙ (ap (λ l. (state l).faults) left.link ∙ w.unfaulted);
    })

-- the listing gave something
pub lists_end : {L S : Type 0} (state : L → LinkView S) (count : ℕ) (old mid new : SftpValue L) (p m q : ListingValue)
    (result : Result (Option NameEntry) Error) → ListsOn state count old mid p m
    → ListedIn mid new m q (given_by result)
    → HasListed state old new p q result
lists_end state count old mid new p m q result w listed =
    let left = entry_leaves mid new m q (given_by result) w.may listed in
    record {
      count = count;
      mid = mid;
      listing = m;
      rounds = w.rounds;
      stops = inl listed;
      held = left.may.listing;
      grants = grants_both old.core mid.core new.core w.grants left.grants;
      spares = entries_spare old.core mid.core new.core p m q w.spares left.spares;
      faults = faults_kept result _ _ new.core.fault (ap (λ l. (state l).faults) left.link ∙ w.unfaulted);
    }

-- or no round was left
pub lists_out : {L S : Type 0} (state : L → LinkView S) (count : ℕ) (old new : SftpValue L) (p q : ListingValue)
    → ListsOn state count old new p q → count ≡ 2 ^ 64 - 1 → HasListed state old new p q (Err error.OutOfMemory)
lists_out state count old new p q w all =
    record {
      count = count;
      mid = new;
      listing = q;
      rounds = w.rounds;
      stops = inr (inr (all, (refl, (refl, refl))));
      held = w.may.listing;
      grants = w.grants;
      spares = w.spares;
      faults = w.unfaulted;
    }

-- or a round went wrong
pub lists_stop : {L S : Type 0} (state : L → LinkView S) (count : ℕ) (old mid polled new : SftpValue L)
    (p m q : ListingValue)
    (e : Error) → ListsOn state count old mid p m → AwaitsEntry mid polled m q → RoundFails state polled new e
    → HasListed state old new p q (Err e)
lists_stop state count old mid polled new p m q e w waits fails =
    let left = entry_leaves mid polled m q _ w.may waits in
    let stays = fail_stays state polled new e left.may.opened fails in
    record {
      count = count;
      mid = mid;
      listing = m;
      rounds = w.rounds;
      stops = inr (inl (polled, (e, (waits, (fails, refl)))));
      held = listing_still polled.core new.core q stays left.may.listing;
      grants = grants_both old.core polled.core new.core (grants_both old.core mid.core polled.core w.grants
          left.grants) stays.grants;
      spares = spares_then old.core polled.core new.core (IsNoneAsked p.asked) (IsNoneAsked q.asked)
          (entries_spare old.core mid.core polled.core p m q w.spares left.spares) stays;
      faults = stop_faults (Option NameEntry) state (state old.link).faults polled new e
          (ap (λ l. (state l).faults) left.link
          ∙ w.unfaulted) fails;
    }

pub lists_count : {L S : Type 0} (state : L → LinkView S) (count : ℕ) (old mid polled : SftpValue L)
    (p m q : ListingValue)
    → (state old.link).faults < 2 ^ 64 - 1 → ListsOn state count old mid p m → AwaitsEntry mid polled m q
    → (state polled.link).faults < 2 ^ 64 - 1
lists_count state count old mid polled p m q few w waits =
    let left = entry_leaves mid polled m q _ w.may waits in
    subst (λ (n : ℕ). n < 2 ^ 64 - 1) (sym (ap (λ l. (state l).faults) left.link ∙ w.unfaulted)) few
