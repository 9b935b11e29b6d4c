-- Entries that are returned one after another, and what a listing in one leaves to others.
use Rattle.std.proofs.Common.{◌≡◌, ◌≢◌, ◌+◌, ◌++◌, ◌==◌, ◌∙◌, List, [], ◌∷◌, ℕ, zero, suc, Bool, true, false, ap, arith, refl, subst, sym, inl, inr}
use Rattle.std.specs.Prelude.{Option, None, Some, Result, Ok, Err, if◌then◌else◌}
use Rattle.sftp_model.specs.Numbers.{SSH_FX_EOF}
use Rattle.sftp_model.specs.declared.error.Error.{Error}
use Rattle.sftp_model.specs.declared.error.Error.TheVariants as error
use Rattle.sftp_model.specs.declared.error.Fault.{Fault}
use Rattle.sftp_model.specs.declared.reply.NameEntry.{NameEntry}
use Rattle.sftp_model.specs.declared.reply.Reply.{Reply}
use Rattle.sftp_model.specs.declared.reply.Reply.TheVariants as reply
use Rattle.sftp_core.specs.Core.{Core, IsGrant, core_after_abandon, core_after_release, record_at, reply_in}
use Rattle.sftp_core.specs.Grant.{GrantValue}
use Rattle.sftp_link.specs.Views.{LinkView}
use Rattle.plan_state.specs.Calls.{CallValue, CancelsAwaited, IsNoneOfCall}
use Rattle.plan_state.specs.Keeping.{KeepsHeld, SparesOthers}
use Rattle.plan_state.specs.declared.poll.Poll.TheVariants.{Pending, Ready}
use Rattle.plan_state.proofs.Keeping.{keeps_same}
use Rattle.plan_state.proofs.OthersKept.{cancelled_keeps_grants, grant_kept}
use Rattle.plan_state.proofs.Sparing.{abandoned_spares, spares_also, spares_as, spares_both, spares_from, spares_kept}
use Rattle.sftp_file.specs.declared.short_calls.Settling.{Settling}
use Rattle.sftp_fs.specs.Listings.{GivesAt, HearsOf, IsAwaiting, IsListing, IsNoneAsked, ListingAnswer, ListingValue, at_listing_end, fresh_listing, given_up, left_by}
use Rattle.sftp_client.specs.Calls.{ClosesHandle, FinishesClose, IsCallable, IsUsable, ReleasesHandle}
use Rattle.sftp_client.specs.DirCalls.{AreEntries, ClosesListing, IsListedToEnd, IsNoneOfListing}
use Rattle.sftp_client.specs.Listed.{AwaitsEntry, HasListed, ListedIn, ListingStops}
use Rattle.sftp_client.specs.Sessions.{SftpValue, with_core}
use Rattle.sftp_client.specs.Waits.{ArePollRounds}
use Rattle.sftp_client.proofs.Calling.{all_kept, callable_with}
use Rattle.sftp_client.proofs.HandleCalling.{callable_inside, close_first, closed, let_off}
use Rattle.sftp_client.proofs.KeptFaults.{core_fault, given_up_fault, release_fault}

-- ---- a listing keeps its grant

left_grant : (p : ListingValue) (r : Reply) → (left_by p r).grant ≡ p.grant
left_grant p (reply.Names []) = refl
left_grant p (reply.Names (entry ∷ entries)) = refl
left_grant p (reply.Status code message language) = by_test (code == SSH_FX_EOF)
  where
    by_test : (b : Bool) → (if b then at_listing_end p else record p { asked = None }).grant ≡ p.grant
    by_test true = refl
    by_test false = refl
left_grant p other = refl

heard_grant : (old new : Core) (p q : ListingValue) (result : ListingAnswer) (ticket : ℕ) (r : Option Reply)
    (fault : Option Fault) → HearsOf old new p q result ticket r fault → q.grant ≡ p.grant
heard_grant old new p q result ticket (Some r) fault h = ap (λ (x : ListingValue). x.grant) h.1 ∙ left_grant p r
heard_grant old new p q result ticket None (Some fault) h = ap (λ (x : ListingValue). x.grant) h.1
heard_grant old new p q result ticket None None h = ap (λ (x : ListingValue). x.grant) h.1

asked_grant : (old new : Core) (p q : ListingValue) (result : ListingAnswer)
    → GivesAt old new p q result false [] None → q.grant ≡ p.grant
asked_grant old new p q Pending h = ap (λ (x : ListingValue). x.grant) h.awaits
asked_grant old new p q (Ready (Some (Err error.OutOfMemory))) h = ap (λ (x : ListingValue). x.grant) h.0
asked_grant old new p q (Ready (Some (Err (error.BackgroundTaskFailure fault)))) h =
    ap (λ (x : ListingValue). x.grant) h.1
asked_grant old new p q (Ready None) h = absurd h
asked_grant old new p q (Ready (Some (Ok entry))) h = absurd h
asked_grant old new p q (Ready (Some (Err error.LinkFault))) h = absurd h
asked_grant old new p q (Ready (Some (Err error.LinkEnded))) h = absurd h
asked_grant old new p q (Ready (Some (Err (error.UnsupportedSftpProtocol version)))) h = absurd h
asked_grant old new p q (Ready (Some (Err (error.FormatError kind)))) h = absurd h
asked_grant old new p q (Ready (Some (Err (error.HandleTooLong len)))) h = absurd h
asked_grant old new p q (Ready (Some (Err (error.InvalidResponseId id)))) h = absurd h
asked_grant old new p q (Ready (Some (Err (error.InvalidResponse id)))) h = absurd h
asked_grant old new p q (Ready (Some (Err (error.SftpError code message language)))) h = absurd h
asked_grant old new p q (Ready (Some (Err (error.UnsupportedExtension extension)))) h = absurd h
asked_grant old new p q (Ready (Some (Err (error.IOError kind)))) h = absurd h

given_grant : (old new : Core) (p q : ListingValue) (result : ListingAnswer) (ended : Bool) (entries : List NameEntry)
    (asked : Option ℕ) → GivesAt old new p q result ended entries asked → q.grant ≡ p.grant
given_grant old new p q result true entries asked h = ap (λ (x : ListingValue). x.grant) h.1
given_grant old new p q result false (entry ∷ entries) asked h = ap (λ (x : ListingValue). x.grant) h.1
given_grant old new p q result false [] None h = asked_grant old new p q result h
given_grant old new p q result false [] (Some ticket) h =
    heard_grant old new p q result ticket (reply_in (record_at old ticket)) old.fault h

polled_grant : {L : Type 0} (old new : SftpValue L) (p q : ListingValue) (result : ListingAnswer)
    → ListedIn old new p q result → q.grant ≡ p.grant
polled_grant old new p q result (inl h) =
    given_grant old.core new.core p q result p.ended p.entries p.asked h.0.gives
polled_grant old new p q result (inr h) = ap (λ (x : ListingValue). x.grant) h.1.1.1

rounds_grant : {L S : Type 0} (state : L → LinkView S) (count : ℕ) (old new : SftpValue L) (p q : ListingValue)
    → ArePollRounds AwaitsEntry state count old new p q → q.grant ≡ p.grant
rounds_grant state zero old new p q h = ap (λ (x : ListingValue). x.grant) h.1
rounds_grant state (suc n) old new p q h =
    polled_grant h.0 h.1.1.1.mid h.1.0 q Pending h.1.1.1.waits ∙ rounds_grant state n old h.0 p h.1.0 h.1.1.0

stopped_grant : {L S : Type 0} (state : L → LinkView S) (count : ℕ) (old new : SftpValue L) (p q : ListingValue)
    (result : Result (Option NameEntry) Error) → ListingStops state count old new p q result → q.grant ≡ p.grant
stopped_grant state count old new p q result (inl h) = polled_grant old new p q _ h
stopped_grant state count old new p q result (inr (inl h)) = polled_grant old h.0 p q Pending h.1.1.0
stopped_grant state count old new p q result (inr (inr h)) = ap (λ (x : ListingValue). x.grant) h.1.1.1

listed_grant : {L S : Type 0} (state : L → LinkView S) (old new : SftpValue L) (p q : ListingValue)
    (result : Result (Option NameEntry) Error) → HasListed state old new p q result → q.grant ≡ p.grant
listed_grant state old new p q result h =
    stopped_grant state h.count h.mid new h.listing q result h.stops
    ∙ rounds_grant state h.count old h.mid p h.listing h.rounds

-- ---- entries one after another

-- a wait for an entry spares all but the grant of the listing and its READDIR
pub listed_spares : {L S : Type 0} (state : L → LinkView S) (old new : SftpValue L) (p q : ListingValue)
    (result : Result (Option NameEntry) Error) → HasListed state old new p q result
    → SparesOthers old.core new.core (IsNoneOfListing p) (IsNoneOfListing q)
listed_spares state old new p q result h =
    subst (λ (g : GrantValue). SparesOthers old.core new.core (IsNoneOfListing p) (λ id. (id ≢ g.id)
    × IsNoneAsked q.asked id))
    (sym (listed_grant state old new p q result h))
    (spares_also old.core new.core (λ id. id ≢ p.grant.id) (IsNoneAsked p.asked) (IsNoneAsked q.asked) h.spares)

-- what holds between two entries
pub record EntriesOn {L S : Type 0} (state : L → LinkView S) (count : ℕ) (old new : SftpValue L)
    (before after : ListingValue) (entries : List NameEntry) : Type 0 where
  pub given : AreEntries state count old new before after entries
  pub usable : IsUsable state new
  pub listing : IsListing new.core after
  pub spares : SparesOthers old.core new.core (IsNoneOfListing before) (IsNoneOfListing after)

pub entries_first : {L S : Type 0} (state : L → LinkView S) (old : SftpValue L) (before : ListingValue)
    → IsUsable state old → IsListing old.core before → EntriesOn state 0 old old before before []
entries_first state old before usable listing =
    record {
      given = (refl, (refl, refl));
      usable = usable;
      listing = listing;
      spares = spares_kept old.core old.core (IsNoneOfListing before) (keeps_same old.core);
    }

pub entries_spare : {L S : Type 0} (state : L → LinkView S) (count : ℕ) (old mid new : SftpValue L)
    (before listing after : ListingValue) (entries : List NameEntry) (result : Result (Option NameEntry) Error)
    → EntriesOn state count old mid before listing entries → HasListed state mid new listing after result
    → SparesOthers old.core new.core (IsNoneOfListing before) (IsNoneOfListing after)
entries_spare state count old mid new before listing after entries result e here =
    spares_both old.core mid.core new.core (IsNoneOfListing before) (IsNoneOfListing listing) (IsNoneOfListing after)
    e.spares (listed_spares state mid new listing after result here)

pub entries_next : {L S : Type 0} (state : L → LinkView S) (count : ℕ) (old mid new : SftpValue L)
    (before listing after : ListingValue) (first : List NameEntry) (entry : NameEntry) (entries : List NameEntry)
    → EntriesOn state count old mid before listing first → HasListed state mid new listing after (Ok (Some entry))
    → entries ≡ first ++ entry ∷ [] → IsUsable state new → EntriesOn state (count + 1) old new before after entries
entries_next state count old mid new before listing after first entry entries e here joins usable =
    let next : suc count ≡ count + 1 = omega arith in
    subst (λ (n : ℕ). EntriesOn state n old new before after entries) next (record {
      given = (mid, (listing, (first, (entry, (e.given, (here, joins))))));
      usable = usable;
      listing = here.held;
      spares = entries_spare state count old mid new before listing after first (Ok (Some entry)) e here;
    })

pub entries_end : {L S : Type 0} (state : L → LinkView S) (count : ℕ) (old mid new : SftpValue L)
    (before listing after : ListingValue) (entries : List NameEntry)
    → EntriesOn state count old mid before listing entries → HasListed state mid new listing after (Ok None)
    → IsListedToEnd state old new before after entries
entries_end state count old mid new before listing after entries e here =
    record { count = count; mid = mid; listing = listing; given = e.given; end = here }

-- ---- closes

-- a READDIR that is given up
drop_spares : (core : Core) (asked : Option ℕ) → IsAwaiting core asked
    → SparesOthers core (given_up core asked) (IsNoneAsked asked) (λ id. Unit {0})
drop_spares core None h = spares_kept core core (λ id. Unit {0}) (keeps_same core)
drop_spares core (Some ticket) h = abandoned_spares core ticket h.counted

drop_held : (core : Core) (asked : Option ℕ) (grant : GrantValue) → IsAwaiting core asked → IsGrant core grant
    → IsGrant (given_up core asked) grant
drop_held core None grant h held = held
drop_held core (Some ticket) grant h held =
    grant_kept core (core_after_abandon core ticket) grant (cancelled_keeps_grants core ticket h.counted) held

listing_first : (listing : ListingValue) (old core : Core) (call : CallValue Settling) → IsListing old listing
    → ClosesListing listing old core call → SparesOthers old core (IsNoneOfListing listing) (IsNoneOfCall call.stage)
listing_first listing old core call h closes =
    let mid = given_up old listing.asked in
    let first = spares_also old mid (λ id. id ≢ listing.grant.id) (IsNoneAsked listing.asked) (λ id. Unit {0})
    (drop_spares old listing.asked h.awaits) in
    let last = spares_from mid core (λ id. (id ≢ listing.grant.id) × Unit {0}) (λ id. id ≢ listing.grant.id)
    (IsNoneOfCall call.stage) (λ id h. h.0)
    (close_first mid core listing.grant call (drop_held old listing.asked listing.grant h.awaits h.granted)
    closes.awaits closes.core) in
    spares_both old mid core (IsNoneOfListing listing) (λ id. (id ≢ listing.grant.id) × Unit {0})
    (IsNoneOfCall call.stage) first last

listing_fault : (listing : ListingValue) (old core : Core) (call : CallValue Settling)
    → ClosesListing listing old core call → core.fault ≡ old.fault
listing_fault listing old core call closes =
    core_fault (core_after_release (given_up old listing.asked) listing.grant) core closes.core
    ∙ (release_fault (given_up old listing.asked) listing.grant ∙ given_up_fault old listing.asked)

dir_closed_at : {L S : Type 0} (listing : ListingValue) (state : L → LinkView S) (old new : SftpValue L) (core : Core)
    (call : CallValue Settling) (result : Result (Unit {0}) Error) → IsListing old.core listing
    → ClosesListing listing old.core core call → FinishesClose state (with_core old core) new call result
    → ClosesHandle (ClosesListing listing) (IsNoneOfListing listing) state old new result
dir_closed_at listing state old new core call result held releases h =
    closed (ClosesListing listing) (IsNoneOfListing listing) state old new core call result releases
    (listing_first listing old.core core call held releases) h

dir_let_off_at : {L : Type 0} (listing : ListingValue) (old new : SftpValue L) (core : Core)
    (call : CallValue Settling) → IsListing old.core listing → ClosesListing listing old.core core call
    → CancelsAwaited core new.core call.stage → new ≡ with_core old new.core
    → ReleasesHandle (ClosesListing listing) (IsNoneOfListing listing) old new
dir_let_off_at listing old new core call held releases cancels left =
    let_off (ClosesListing listing) (IsNoneOfListing listing) old new core call releases
    (listing_first listing old.core core call held releases) (listing_fault listing old.core core call releases)
    cancels left

-- ---- a directory that is listed in one

fresh_apart : (dir : GrantValue) (id : ℕ) → id ≢ dir.id → IsNoneOfListing (fresh_listing dir) id
fresh_apart dir id apart = (apart, tt)

pub list_keeps : (old opened listed new : Core) (dir : GrantValue) (after : ListingValue)
    → SparesOthers old opened (λ id. Unit {0}) (λ id. id ≢ dir.id)
    → SparesOthers opened listed (IsNoneOfListing (fresh_listing dir)) (IsNoneOfListing after)
    → SparesOthers listed new (IsNoneOfListing after) (λ id. Unit {0}) → KeepsHeld old new
list_keeps old opened listed new dir after opens lists closes =
    let fresh = spares_as old opened (λ id. Unit {0}) (λ id. id ≢ dir.id) (IsNoneOfListing (fresh_listing dir))
    (fresh_apart dir) opens in
    all_kept old new (spares_both old listed new (λ id. Unit {0}) (IsNoneOfListing after) (λ id. Unit {0})
    (spares_both old opened listed (λ id. Unit {0}) (IsNoneOfListing (fresh_listing dir)) (IsNoneOfListing after)
    fresh lists) closes)

-- ---- the same for a session whose fields were taken apart before the close

listing_inside : {L : Type 0} (old inside : SftpValue L) (listing : ListingValue) → inside ≡ old
    → IsListing old.core listing → IsListing inside.core listing
listing_inside old inside listing same held = subst (λ (x : SftpValue _). IsListing x.core listing) (sym same) held

-- once the listing was released, the close may be run
pub dir_callable : {L S : Type 0} (listing : ListingValue) (state : L → LinkView S) (old inside : SftpValue L)
    (core : Core) (call : CallValue Settling) → IsCallable state old → IsListing old.core listing → inside ≡ old
    → ClosesListing listing inside.core core call → IsCallable state (with_core inside core)
dir_callable listing state old inside core call callable held same releases =
    callable_with state inside (with_core inside core) (callable_inside state old inside same callable)
    (listing_first listing inside.core core call (listing_inside old inside listing same held) releases).opened
    (listing_fault listing inside.core core call releases) refl

pub dir_closed : {L S : Type 0} (listing : ListingValue) (state : L → LinkView S) (old inside new : SftpValue L)
    (core : Core) (call : CallValue Settling) (result : Result (Unit {0}) Error)
    → IsListing old.core listing → inside ≡ old → ClosesListing listing inside.core core call
    → FinishesClose state (with_core inside core) new call result
    → ClosesHandle (ClosesListing listing) (IsNoneOfListing listing) state old new result
dir_closed listing state old inside new core call result held same releases h =
    subst (λ (x : SftpValue _). ClosesHandle (ClosesListing listing) (IsNoneOfListing listing) state x new result) same
    (dir_closed_at listing state inside new core call result (listing_inside old inside listing same held) releases h)

pub dir_let_off : {L : Type 0} (listing : ListingValue) (old inside new : SftpValue L) (core : Core)
    (call : CallValue Settling) → IsListing old.core listing → inside ≡ old
    → ClosesListing listing inside.core core call → CancelsAwaited core new.core call.stage
    → new ≡ with_core inside new.core → ReleasesHandle (ClosesListing listing) (IsNoneOfListing listing) old new
dir_let_off listing old inside new core call held same releases cancels left =
    subst (λ (x : SftpValue _). ReleasesHandle (ClosesListing listing) (IsNoneOfListing listing) x new) same
    (dir_let_off_at listing inside new core call (listing_inside old inside listing same held) releases cancels left)

pub dir_released : {L S : Type 0} (listing : ListingValue) (state : L → LinkView S) (old new : SftpValue L)
    → IsCallable state old → ReleasesHandle (ClosesListing listing) (IsNoneOfListing listing) old new
    → IsCallable state new
dir_released listing state old new callable h =
    callable_with state old new callable h.spares.opened h.fault (ap (λ (x : SftpValue _). x.link) h.left)
