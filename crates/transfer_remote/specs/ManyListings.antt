-- Listings of many directories over one session.
use Rattle.std.specs.Prelude.{
  ◌≡◌,
  ℕ,
  zero,
  suc,
  List,
  [],
  ◌∷◌,
  ◌++◌,
  Option,
  Some,
  None,
  Result,
  Ok,
  Err,
  IfOk,
  OnErr,
  IsSome,
  Vec,
}
use Rattle.std.specs.declared.alloc.Global.{Global}
use Rattle.sftp_model.specs.declared.reply.NameEntry.{NameEntry}
use Rattle.sftp_core.specs.Core.{Core}
use Rattle.sftp_core.specs.Info.{info_of}
use Rattle.sftp_link.specs.Views.{LinkView}
use Rattle.plan_state.specs.Calls.{CallValue}
use Rattle.plan_state.specs.Keeping.{StaysOpen}
use Rattle.sftp_fs.specs.Directories.{OpensFrom}
use Rattle.sftp_fs.specs.declared.directory.OpeningDir.{OpeningDir}
use Rattle.sftp_client.specs.Sessions.{SftpValue, with_core}
use Rattle.transfer_pool.specs.Sessions.{FlushesAndTakes, IsGoing}
use Rattle.transfer_remote.specs.ListingSteps.{IsHeld, IsNoneOf, IsOf, RunsListing, listing_on}
use Rattle.transfer_remote.specs.declared.listing_stage.Listing.{Listing}
use Rattle.transfer_remote.specs.declared.listing_stage.Stage.TheVariants as stage
use Rattle.transfer_remote.specs.declared.listings.First.{First}
use Rattle.transfer_remote.specs.declared.listings.First.TheVariants as first
use Rattle.transfer_remote.specs.declared.remote_error.RemoteError.{RemoteError}

-- The entries of a listing, or the reason why it failed.
abbrev pub ListedValue : Type 0
ListedValue = Result (Vec NameEntry Global) RemoteError

-- ---- Listings over one core

-- Each number of these listings has this property.
abbrev pub AreWithin : (ℕ → Type 0) → List Listing → Type 0
AreWithin P [] = Unit {0}
AreWithin P (x ∷ later) = ((id : ℕ) → IsOf x.stage id → P id) × AreWithin P later

-- The core holds what each listing continues with, and no number of the core belongs to two of them.
abbrev pub AreTogether : Core → List Listing → Type 0
AreTogether core [] = Unit {0}
AreTogether core (x ∷ later) = IsHeld core x.stage × AreWithin (IsNoneOf x.stage) later × AreTogether core later

-- The session may be used, and its core holds what these listings continue with.
pub record HoldsListings {L S : Type 0} (state : L → LinkView S) (s : SftpValue L) (listings : List Listing) : Type 0
  where
    pub going : IsGoing state s
    pub together : AreTogether s.core listings

-- The core stays open, and keeps the same fault.
pub record KeepsFault (old new : Core) : Type 0 where
  pub opened : StaysOpen old new
  pub fault : new.fault ≡ old.fault

-- The core is open and holds what these listings continue with.
pub record MayRunTogether (core : Core) (listings : List Listing) : Type 0 where
  pub opened : IsSome (info_of core.phase)
  pub together : AreTogether core listings

-- ---- Begin

-- The OPENDIR of the path was submitted, and the listing is the last one. Only the core of the session changed.
pub record BeginsLast {L : Type 0} (path : List ℕ) (old : SftpValue L) (before : List Listing) (new : SftpValue L)
    (after : List Listing) : Type 0 where
  pub call : CallValue OpeningDir
  pub listing : Listing
  pub opens : OpensFrom path [] old.core new.core (Ok call)
  pub rest : new ≡ with_core old new.core
  pub begun : listing.stage ≡ stage.Opening call
  pub none : listing.entries.items ≡ []
  pub last : after ≡ before ++ listing ∷ []

-- A listing was begun, or the listings are unchanged.
pub record BeginsListing {L S : Type 0} (path : List ℕ) (state : L → LinkView S) (old : SftpValue L)
    (before : List Listing) (new : SftpValue L) (after : List Listing) (result : Result (Unit {0}) RemoteError) : Type 0
  where
    pub holds : HoldsListings state new after
    pub begins : IfOk result (λ u. BeginsLast path old before new after)
    pub unchanged : OnErr result (after ≡ before)

-- ---- Runs

-- Each listing took some steps, the first one first.
abbrev pub RunsEach : Core → List Listing → Core → List Listing → Type 0
RunsEach old [] new [] = new ≡ old
RunsEach old (x ∷ xs) new (y ∷ ys) = (mid : Core) × RunsListing (listing_on old x) (listing_on mid y)
    × RunsEach mid xs new ys
RunsEach old before new after = ⊥

pub record RunsTogether (old : Core) (before : List Listing) (new : Core) (after : List Listing) : Type 0 where
  pub runs : RunsEach old before new after
  pub together : AreTogether new after
  pub keeps : KeepsFault old new

-- A session, and the listings over it.
pub record ListingMany (L : Type 0) : Type 0 where
  pub session : SftpValue L
  pub listings : List Listing

-- Each listing took some steps. Only the core of the session changed.
pub record RunsAll {L : Type 0} (old new : ListingMany L) : Type 0 where
  pub runs : RunsEach old.session.core old.listings new.session.core new.listings
  pub rest : new.session ≡ with_core old.session new.session.core

-- Each listing took some steps, and then the session took a turn.
pub record TakesRound {L S : Type 0} (state : L → LinkView S) (old new : ListingMany L) : Type 0 where
  pub mid : ListingMany L
  pub runs : RunsAll old mid
  pub turns : FlushesAndTakes state mid.session new.session
  pub same : new.listings ≡ mid.listings

-- `n` rounds, one after another.
abbrev pub TakesRounds : {L S : Type 0} → (L → LinkView S) → ℕ → ListingMany L → ListingMany L → Type 0
TakesRounds state zero old new = new ≡ old
TakesRounds {L = L} state (suc n) old new = (mid : ListingMany L) × TakesRounds state n old mid
    × TakesRound state mid new

-- ---- The first one ends

-- The result of a listing that has ended: its entries if it is complete, or the reason why it failed.
abbrev pub IsResultOf : Listing → ListedValue → Type 0
IsResultOf x (Ok entries) = (x.stage ≡ stage.Complete) × (entries ≡ x.entries)
IsResultOf x (Err e) = x.stage ≡ stage.Failed e

-- The first listing was removed if it has ended.
abbrev pub EndsFirst : List Listing → List Listing → First → Type 0
EndsFirst before after first.Waits = after ≡ before
EndsFirst before after (first.Over None) = (before ≡ []) × (after ≡ [])
EndsFirst before after (first.Over (Some result)) = (x : Listing) × (before ≡ x ∷ after) × IsResultOf x result

-- The first listing, if there is one, was removed for this error.
abbrev pub RemovesFirst : List Listing → List Listing → RemoteError → Option ListedValue → Type 0
RemovesFirst before after e None = (before ≡ []) × (after ≡ [])
RemovesFirst before after e (Some result) = (x : Listing) × (before ≡ x ∷ after) × (result ≡ Err e)

pub record FailsFirst (old : Core) (before : List Listing) (new : Core) (after : List Listing) (e : RemoteError)
    (result : Option ListedValue) : Type 0 where
  pub removes : RemovesFirst before after e result
  pub together : AreTogether new after
  pub keeps : KeepsFault old new

-- Each listing took some steps, and then the first one was removed: it was complete, and these are its entries; or it
-- failed. None if there was no listing.
abbrev pub LastRound : {L : Type 0} → ListingMany L → ListingMany L → Option ListedValue → Type 0
LastRound {L = L} old new None = (ran : ListingMany L) × RunsAll old ran × (ran.listings ≡ []) × (new.listings ≡ [])
LastRound {L = L} old new (Some (Ok entries)) = (ran : ListingMany L) × (x : Listing) × RunsAll old ran
    × (ran.listings ≡ x ∷ new.listings)
    × IsResultOf x (Ok entries)
    × (new.session ≡ ran.session)
LastRound {L = L} old new (Some (Err e)) = (ran : ListingMany L) × (x : Listing) × RunsAll old ran
    × (ran.listings ≡ x ∷ new.listings)

-- The effect of one advance: a round, or the end of the first listing.
abbrev pub AdvancesAs : {L S : Type 0} → (L → LinkView S) → ListingMany L → ListingMany L → First → Type 0
AdvancesAs state old new first.Waits = TakesRound state old new
AdvancesAs state old new (first.Over result) = LastRound old new result

pub record AdvancesListings {L S : Type 0} (state : L → LinkView S) (old new : ListingMany L) (result : First) : Type 0
  where
    pub holds : HoldsListings state new.session new.listings
    pub did : AdvancesAs state old new result

-- Rounds, and then the first listing was removed. The session may be used further, and the others are together.
pub record ListsNext {L S : Type 0} (state : L → LinkView S) (old new : ListingMany L) (result : Option ListedValue) :
    Type 0 where
  pub holds : HoldsListings state new.session new.listings
  pub rounds : ℕ
  pub last : ListingMany L
  pub taken : TakesRounds state rounds old last
  pub ends : LastRound last new result
