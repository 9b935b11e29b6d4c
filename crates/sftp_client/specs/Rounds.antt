-- A session over a link from its opening to its end.
use Rattle.std.specs.Prelude.{◌≡◌, ◌⊎◌, ℕ, zero, suc, [], Option, None, Some, Result, Ok, Err, IsSome}
use Rattle.sftp_model.specs.declared.error.Error.{Error}
use Rattle.sftp_model.specs.declared.error.Error.TheVariants as error
use Rattle.sftp_model.specs.declared.options.SftpOptions.{SftpOptions}
use Rattle.sftp_core.specs.Core.{fresh, unanswered_of}
use Rattle.sftp_core.specs.Info.{info_of}
use Rattle.sftp_core.specs.declared.info.Info.{Info}
use Rattle.sftp_link.specs.Views.{LinkView}
use Rattle.sftp_client.specs.Incoming.{nothing_came}
use Rattle.sftp_client.specs.Sessions.{
  FlushesQueue,
  FlushesUnfailed,
  IsUnfaulted,
  SendsAll,
  SftpValue,
  TakesOrKept,
  TakesFrame,
  TakesWhole,
  with_queue_handed_out,
}

-- ---- Opening

-- A session that has sent and taken nothing.
abbrev pub fresh_sftp : {L : Type 0} → SftpOptions → L → SftpValue L
fresh_sftp options link = record { core = fresh options; unsent = []; coming = nothing_came; link = link }

-- All that was queued was sent, and then one frame was taken.
pub record ExchangesFrame {L S : Type 0} (state : L → LinkView S) (old new : SftpValue L) : Type 0 where
  pub mid : SftpValue L
  pub sends : SendsAll state (with_queue_handed_out old) mid
  pub takes : TakesFrame state mid new

-- Not all was sent, or no frame was taken.
abbrev pub ExchangeStops : {L S : Type 0} → (L → LinkView S) → SftpValue L → SftpValue L → Error → Type 0
ExchangeStops {L = L} state old new e = FlushesUnfailed state old new (Err e)
    ⊎ ((mid : SftpValue L) × (SendsAll state (with_queue_handed_out old) mid × TakesWhole state mid new (Err e)))

abbrev pub ExchangeEnds : {L S : Type 0} → (L → LinkView S) → SftpValue L → SftpValue L → Result (Unit {0}) Error
    → Type 0
ExchangeEnds state old new (Ok u) = ExchangesFrame state old new
ExchangeEnds state old new (Err e) = ExchangeStops state old new e

-- After VERSION the limits are asked for, if the core doesn't know yet what the server reports of itself.
abbrev pub AsksForLimits : {L S : Type 0} → (L → LinkView S) → SftpValue L → SftpValue L → Option Info → Type 0
AsksForLimits state greeted new (Some info) = new ≡ greeted
AsksForLimits state greeted new None = ExchangesFrame state greeted new

-- The hello was sent and VERSION taken, and also the limits if the server offers to report them.
pub record IsOpened {L S : Type 0} (state : L → LinkView S) (old new : SftpValue L) : Type 0 where
  pub greeted : SftpValue L
  pub greets : ExchangesFrame state old greeted
  pub goes : AsksForLimits state greeted new (info_of greeted.core.phase)
  pub unfaulted : IsUnfaulted (state old.link) (state new.link)
  pub told : IsSome (info_of new.core.phase)

-- VERSION was taken, and the limits were not.
pub record StopsAsking {L S : Type 0} (state : L → LinkView S) (old new : SftpValue L) (e : Error) : Type 0 where
  pub greeted : SftpValue L
  pub greets : ExchangesFrame state old greeted
  pub asks : info_of greeted.core.phase ≡ None
  pub stops : ExchangeStops state greeted new e

abbrev pub OpenEnds : {L S : Type 0} → (L → LinkView S) → SftpValue L → SftpValue L → Result (Unit {0}) Error → Type 0
OpenEnds state old new (Ok u) = IsOpened state old new
OpenEnds state old new (Err e) = ExchangeStops state old new e ⊎ StopsAsking state old new e

-- The link that is handed back is that of a session which stopped in this way.
abbrev pub HandsBack : {L : Type 0} → (SftpValue L → Type 0) → L → Type 0
HandsBack {L = L} Stopped link = (last : SftpValue L) × (Stopped last × (last.link ≡ link))

-- The session is open; or an allocation failed for the core, or the opening stopped, and the link is handed back.
abbrev pub OpensSftp : {L S : Type 0} → (L → LinkView S) → L → SftpOptions → Result (SftpValue L) (Error × L) → Type 0
OpensSftp state link options (Ok sftp) = IsOpened state (fresh_sftp options link) sftp
OpensSftp state link options (Err p) = ((p.0 ≡ error.OutOfMemory) × (p.1 ≡ link))
    ⊎ HandsBack (λ last. OpenEnds state (fresh_sftp options link) last (Err p.0)) p.1

-- ---- End

-- One frame was taken, and then the queue was sent.
pub record IsRound {L S : Type 0} (state : L → LinkView S) (old new : SftpValue L) : Type 0 where
  pub mid : SftpValue L
  pub takes : TakesFrame state old mid
  pub sends : SendsAll state (with_queue_handed_out mid) new

-- This many rounds, one after another.
abbrev pub AreRounds : {L S : Type 0} → (L → LinkView S) → ℕ → SftpValue L → SftpValue L → Type 0
AreRounds state zero old new = new ≡ old
AreRounds {L = L} state (suc n) old new = (mid : SftpValue L) × (AreRounds state n old mid × IsRound state mid new)

-- The queue was sent, and then rounds came.
pub record HasRounds {L S : Type 0} (state : L → LinkView S) (old new : SftpValue L) : Type 0 where
  pub first : SftpValue L
  pub count : ℕ
  pub unfailed : old.core.fault ≡ None
  pub sends : SendsAll state (with_queue_handed_out old) first
  pub rounds : AreRounds state count first new

-- A round stopped while its frame was taken, or while the queue was sent.
abbrev pub RoundStops : {L S : Type 0} → (L → LinkView S) → SftpValue L → SftpValue L → Error → Type 0
RoundStops {L = L} state old new e = TakesOrKept state old new (Err e)
    ⊎ ((mid : SftpValue L) × (TakesFrame state old mid × FlushesQueue state mid new (Err e)))

-- No request is unanswered and all was sent; or it stopped before the rounds, or in one of them.
abbrev pub DrainsReplies : {L S : Type 0} → (L → LinkView S) → SftpValue L → SftpValue L → Result (Unit {0}) Error
    → Type 0
DrainsReplies state old new (Ok u) = HasRounds state old new × ((unanswered_of new.core ≡ 0) × (new.unsent ≡ []))
DrainsReplies {L = L} state old new (Err e) = FlushesQueue state old new (Err e)
    ⊎ ((mid : SftpValue L) × (HasRounds state old mid × RoundStops state mid new e))

abbrev pub ClosesSession : {L S : Type 0} → (L → LinkView S) → SftpValue L → Result L (Error × L) → Type 0
ClosesSession state old (Ok link) = HandsBack (λ last. DrainsReplies state old last (Ok tt)) link
ClosesSession state old (Err p) = HandsBack (λ last. DrainsReplies state old last (Err p.0)) p.1
