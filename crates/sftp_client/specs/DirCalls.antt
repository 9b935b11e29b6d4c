-- Directories that a session lists in one.
use Rattle.std.specs.Prelude.{◌≡◌, ◌≢◌, ◌⊎◌, ◌-◌, ◌^◌, ℕ, zero, suc, List, [], ◌∷◌, ◌++◌, Vec, None, Some, Result, Ok, Err}
use Rattle.std.specs.declared.alloc.Global.{Global}
use Rattle.sftp_model.specs.declared.error.Error.{Error}
use Rattle.sftp_model.specs.declared.error.Error.TheVariants as error
use Rattle.sftp_model.specs.declared.reply.NameEntry.{NameEntry}
use Rattle.sftp_core.specs.Core.{Core}
use Rattle.sftp_core.specs.Grant.{GrantValue}
use Rattle.sftp_link.specs.Views.{LinkView}
use Rattle.plan_state.specs.Calls.{CallValue}
use Rattle.sftp_file.specs.declared.short_calls.Settling.{Settling}
use Rattle.sftp_fs.specs.Directories.{ClosesDir}
use Rattle.sftp_fs.specs.Listings.{IsNoneAsked, ListingValue, fresh_listing, given_up}
use Rattle.sftp_client.specs.Calls.{ClosesHandle, OpensDirectory, ReleasesHandle}
use Rattle.sftp_client.specs.Listed.{HasListed}
use Rattle.sftp_client.specs.Sessions.{SftpValue}

-- `n` entries were returned, one after another, in the server's order.
abbrev pub AreEntries : {L S : Type 0} → (L → LinkView S) → ℕ → SftpValue L → SftpValue L → ListingValue → ListingValue
    → List NameEntry → Type 0
AreEntries state zero old new before after entries = (new ≡ old) × ((after ≡ before) × (entries ≡ []))
AreEntries {L = L} state (suc n) old new before after entries = (mid : SftpValue L) × ((listing : ListingValue)
    × ((first : List NameEntry) × ((entry : NameEntry) × (AreEntries state n old mid before listing first
    × (HasListed state mid new listing after (Ok (Some entry)) × (entries ≡ first ++ entry ∷ []))))))

-- All entries up to the end.
pub record IsListedToEnd {L S : Type 0} (state : L → LinkView S) (old new : SftpValue L) (before after : ListingValue)
    (entries : List NameEntry) : Type 0 where
  pub count : ℕ
  pub mid : SftpValue L
  pub listing : ListingValue
  pub given : AreEntries state count old mid before listing entries
  pub end : HasListed state mid new listing after (Ok None)

-- The listing was released, and the reply to a READDIR under way counts for nothing.
abbrev pub ClosesListing : ListingValue → Core → Core → CallValue Settling → Type 0
ClosesListing listing old new call = ClosesDir listing.grant (given_up old listing.asked) new call

-- The number is not that of the directory's grant, nor that of the READDIR that is awaited.
abbrev pub IsNoneOfListing : ListingValue → ℕ → Type 0
IsNoneOfListing listing id = (id ≢ listing.grant.id) × IsNoneAsked listing.asked id

-- A directory was opened, listed to its end, and closed.
pub record ListsWhole {L S : Type 0} (path : List ℕ) (state : L → LinkView S) (old new : SftpValue L)
    (entries : List NameEntry) : Type 0 where
  pub opened : SftpValue L
  pub listed : SftpValue L
  pub dir : GrantValue
  pub after : ListingValue
  pub opens : OpensDirectory path state old opened (Ok dir)
  pub lists : IsListedToEnd state opened listed (fresh_listing dir) after entries
  pub closes : ClosesHandle (ClosesListing after) (IsNoneOfListing after) state listed new (Ok tt)

-- ---- Errors

-- The reason why no further entry was returned: the listing failed; an entry that came found no memory, or there were
-- too many before it; or the greatest count of entries is reached.
abbrev pub EntriesStop : {L S : Type 0} → (L → LinkView S) → ℕ → SftpValue L → SftpValue L → ListingValue → ListingValue
    → Error → Type 0
EntriesStop state count old new before after e = HasListed state old new before after (Err e)
    ⊎ (((entry : NameEntry) × (HasListed state old new before after (Ok (Some entry)) × (e ≡ error.OutOfMemory)))
    ⊎ ((count ≡ 2 ^ 64 - 1) × ((e ≡ error.OutOfMemory) × ((new ≡ old) × (after ≡ before)))))

-- Some entries were returned, and then no further one.
pub record StopsListing {L S : Type 0} (state : L → LinkView S) (old new : SftpValue L) (before after : ListingValue)
    (e : Error) : Type 0 where
  pub count : ℕ
  pub mid : SftpValue L
  pub listing : ListingValue
  pub entries : List NameEntry
  pub given : AreEntries state count old mid before listing entries
  pub stops : EntriesStop state count mid new listing after e

-- The result of a listing that is asked for all its entries.
abbrev pub ListsEntries : {L S : Type 0} → (L → LinkView S) → SftpValue L → SftpValue L → ListingValue → ListingValue
    → Result (Vec NameEntry Global) Error → Type 0
ListsEntries state old new before after (Ok entries) = IsListedToEnd state old new before after entries.items
ListsEntries state old new before after (Err e) = StopsListing state old new before after e

-- A listing stopped, and was released; or it was complete, and closing it failed.
abbrev pub EndsListing : {L S : Type 0} → (L → LinkView S) → SftpValue L → SftpValue L → SftpValue L → GrantValue
    → ListingValue → Error → Type 0
EndsListing state opened listed new dir after e = (StopsListing state opened listed (fresh_listing dir) after e
    × ReleasesHandle (ClosesListing after) (IsNoneOfListing after) listed new)
    ⊎ ((entries : List NameEntry) × (IsListedToEnd state opened listed (fresh_listing dir) after entries
    × ClosesHandle (ClosesListing after) (IsNoneOfListing after) state listed new (Err e)))

-- A directory was opened, and not listed or not closed.
pub record ListsInPart {L S : Type 0} (path : List ℕ) (state : L → LinkView S) (old new : SftpValue L) (e : Error) :
    Type 0 where
  pub opened : SftpValue L
  pub listed : SftpValue L
  pub dir : GrantValue
  pub after : ListingValue
  pub opens : OpensDirectory path state old opened (Ok dir)
  pub ends : EndsListing state opened listed new dir after e

-- The result of a directory that is listed in one: all its entries; or the error of its open, or of what came after it.
abbrev pub ListsDirectory : {L S : Type 0} → List ℕ → (L → LinkView S) → SftpValue L → SftpValue L
    → Result (Vec NameEntry Global) Error → Type 0
ListsDirectory path state old new (Ok entries) = ListsWhole path state old new entries.items
ListsDirectory path state old new (Err e) = OpensDirectory path state old new (Err e)
    ⊎ ListsInPart path state old new e
