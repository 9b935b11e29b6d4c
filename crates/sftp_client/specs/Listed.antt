-- Entries of a directory that a session waits for.
use Rattle.std.specs.Prelude.{◌≡◌, ◌⊎◌, ◌≤◌, ◌-◌, ◌^◌, ℕ, Option, Some, None, Result, Ok, Err, IsSome}
use Rattle.sftp_model.specs.declared.error.Error.{Error}
use Rattle.sftp_model.specs.declared.error.Error.TheVariants as error
use Rattle.sftp_model.specs.declared.reply.NameEntry.{NameEntry}
use Rattle.sftp_core.specs.Core.{Core, kept_of}
use Rattle.sftp_core.specs.Info.{MAX_IDS, info_of}
use Rattle.sftp_link.specs.Views.{LinkView}
use Rattle.plan_state.specs.Keeping.{KeepsGrants, SparesOthers}
use Rattle.plan_state.specs.declared.poll.Poll.TheVariants.{Pending, Ready}
use Rattle.sftp_fs.specs.Listings.{ListingAnswer, IsListing, IsNoneAsked, ListingValue, PollsEntries}
use Rattle.sftp_client.specs.Sessions.{SftpValue, with_core}
use Rattle.sftp_client.specs.Waits.{ArePollRounds, KeepsFaults, RoundFails}

-- A listing may be waited for: the session is open, and counts what the listing holds.
pub record MayWaitFor (core : Core) (p : ListingValue) : Type 0 where
  pub opened : IsSome (info_of core.phase)
  pub listing : IsListing core p

-- A poll of a listing changed nothing of the session but its core; or all ids were in use, and nothing changed.
abbrev pub ListedIn : {L : Type 0} → SftpValue L → SftpValue L → ListingValue → ListingValue → ListingAnswer → Type 0
ListedIn old new p q given = (PollsEntries old.core new.core p q given × (new ≡ with_core old new.core))
    ⊎ ((MAX_IDS ≤ kept_of old.core) × ((given ≡ Ready (Some (Err error.OutOfMemory))) × ((new ≡ old) × (q ≡ p))))

-- The listing has returned no entry yet.
abbrev pub AwaitsEntry : {L : Type 0} → SftpValue L → SftpValue L → ListingValue → ListingValue → Type 0
AwaitsEntry old new p q = ListedIn old new p q Pending

-- The result of the listing that corresponds to a result of the wait: the next entry, None at the end, or an error.
abbrev pub given_by : Result (Option NameEntry) Error → ListingAnswer
given_by (Ok None) = Ready None
given_by (Ok (Some entry)) = Ready (Some (Ok entry))
given_by (Err e) = Ready (Some (Err e))

-- The end of the wait: the listing returned a result; a round failed; or the greatest count of rounds is reached.
abbrev pub ListingStops : {L S : Type 0} → (L → LinkView S) → ℕ → SftpValue L → SftpValue L → ListingValue
    → ListingValue
    → Result (Option NameEntry) Error → Type 0
ListingStops {L = L} state count old new p q result = ListedIn old new p q (given_by result)
    ⊎ (((mid : SftpValue L) × ((e : Error) × (AwaitsEntry old mid p q
    × (RoundFails state mid new e × (result ≡ Err e)))))
    ⊎ ((count ≡ 2 ^ 64 - 1) × ((result ≡ Err error.OutOfMemory) × ((new ≡ old) × (q ≡ p)))))

-- A listing was polled, and round after round the queue was sent and a frame taken, until it returned a result or a
-- round failed. It may be waited for again, or closed. Each grant stays, what others await is still theirs, and the
-- session stays open.
pub record HasListed {L S : Type 0} (state : L → LinkView S) (old new : SftpValue L) (p q : ListingValue)
    (result : Result (Option NameEntry) Error) : Type 0 where
  pub count : ℕ
  pub mid : SftpValue L
  pub listing : ListingValue
  pub rounds : ArePollRounds AwaitsEntry state count old mid p listing
  pub stops : ListingStops state count mid new listing q result
  pub held : IsListing new.core q
  pub grants : KeepsGrants old.core new.core
  pub spares : SparesOthers old.core new.core (IsNoneAsked p.asked) (IsNoneAsked q.asked)
  pub faults : KeepsFaults (state old.link).faults (state new.link).faults new.core.fault result
