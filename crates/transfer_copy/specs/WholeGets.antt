-- believed
-- A whole copy from the server: its requests, their replies, and the bytes that were written.
use Rattle.std.specs.Prelude.{◌≡◌, ◌==◌, ℕ, ◌+◌, Bool, List, [], ◌∷◌, ◌++◌, length, map, Some, if◌then◌else◌}
use Rattle.sftp_model.specs.Numbers.{SSH_FX_EOF}
use Rattle.sftp_model.specs.declared.answers.Expected.TheVariants as expected
use Rattle.sftp_model.specs.declared.reply.Reply.TheVariants as reply
use Rattle.plan_model.specs.FilePlans.{open_request}
use Rattle.sftp_core.specs.Core.{Core, record_at, reply_in}
use Rattle.sftp_core.specs.Grant.{GrantValue}
use Rattle.transfer_copy.specs.Local.{HasDone, LocalAct, Wrote, naming_acts, part_opened, writes_of}
use Rattle.transfer_copy.specs.declared.get.FileGet.{FileGet}
use Rattle.transfer_copy.specs.declared.holding.FileHold.TheVariants as hold
use Rattle.transfer_copy.specs.Gets.{GetStepDid, SaysClosed, read_flags}
use Rattle.transfer_copy.specs.Holdings.{AsksFile, AsksForRead, HoldingValue, LetsFileGo}
use Rattle.transfer_copy.specs.Legs.{AnswersFirst, AreDeeds, CopyStep}

-- A step of a copy from the server.
abbrev pub IsGetLeg : {H : Type 0} → (LocalAct → H → H) → List ℕ → List ℕ → List ℕ → CopyStep FileGet H → Type 0
IsGetLeg done remote part name leg =
    GetStepDid done remote part name leg.core leg.old leg.after leg.new leg.before leg.now leg.result leg.old.stage

-- ---- READs and their DATA

-- A READ that was asked, with the ticket of its reply.
pub record AskedRead : Type 0 where
  pub ticket : ℕ
  pub offset : ℕ
  pub len : ℕ

-- A READ and the bytes of its DATA.
pub record ReadPiece : Type 0 where
  pub read : AskedRead
  pub bytes : List ℕ

-- A READ was asked, or DATA with these bytes came under a ticket.
pub data ReadDeed : Type 0 where
  AsksRead : AskedRead → ReadDeed
  GotData : ℕ → List ℕ → ReadDeed

-- The READs that were not answered, in the order in which they were asked, and the pieces that came, in order.
pub record Reads : Type 0 where
  pub under_way : List AskedRead
  pub pieces : List ReadPiece

-- DATA answers the first READ in flight if it came under its ticket. If it does not have the length that the READ asked
-- for, the READs after it are abandoned.
abbrev pub taken_by : ℕ → List ℕ → Reads → List AskedRead → Reads
taken_by ticket bytes so [] = so
taken_by ticket bytes so (read ∷ later) =
    if ticket == read.ticket
    then record {
      under_way = if length bytes == read.len then later else [];
      pieces = so.pieces ++ record { read = read; bytes = bytes } ∷ [];
    }
    else so

abbrev pub after_read : ReadDeed → Reads → Reads
after_read (AsksRead read) so = record so { under_way = so.under_way ++ read ∷ [] }
after_read (GotData ticket bytes) so = taken_by ticket bytes so so.under_way

-- The READs and pieces after these operations, of which the newest is first.
abbrev pub reads_after : List ReadDeed → Reads
reads_after [] = record { under_way = []; pieces = [] }
reads_after (deed ∷ earlier) = after_read deed (reads_after earlier)

-- Each piece answers a READ at the offset where the pieces before it end. The first one starts at `from`, and they end
-- at `to`.
abbrev pub AreFromTo : ℕ → List ReadPiece → ℕ → Type 0
AreFromTo from [] to = from ≡ to
AreFromTo from (piece ∷ later) to = (piece.read.offset ≡ from) × AreFromTo (from + length piece.bytes) later to

abbrev pub bytes_of : List ReadPiece → List (List ℕ)
bytes_of pieces = map (λ (p : ReadPiece). p.bytes) pieces

-- ---- Operations

-- The OPEN was asked; its HANDLE came; a READ was asked, or DATA came; the EOF came under a ticket, and the CLOSE was
-- queued; or the CLOSE had OK, and the part file was given its name.
pub data GetDeed : Type 0 where
  AsksOpen : GetDeed
  Opens : GetDeed
  Reading : ReadDeed → GetDeed
  MeetsEnd : ℕ → GetDeed
  Names : GetDeed

-- The step did this operation. The grant is the one that the OPEN brought: its ticket, and the handle that came.
abbrev pub DidGet : {H : Type 0} → (LocalAct → H → H) → List ℕ → List ℕ → List ℕ → Bool → ℕ → GrantValue → GetDeed
    → CopyStep FileGet H → Type 0
DidGet done remote part name sync from grant AsksOpen leg =
    ((asks : AsksFile leg.core leg.old.holding (open_request read_flags remote) leg.after leg.new.holding)
    × (asks.ticket ≡ grant.id))
    × (leg.now ≡ leg.before)
DidGet done remote part name sync from grant Opens leg = (leg.old.holding.file ≡ hold.Asked grant.id expected.Handle)
    × (reply_in (record_at leg.core grant.id) ≡ Some (reply.Handle grant.handle))
    × (leg.now ≡ done (part_opened part from) leg.before)
DidGet done remote part name sync from grant (Reading (AsksRead read)) leg = (leg.old.holding.file ≡ hold.Opened grant)
    × ((asks : AsksForRead leg.core leg.old.holding read.offset read.len leg.after leg.new.holding)
    × (asks.ticket ≡ read.ticket))
    × (leg.now ≡ leg.before)
DidGet done remote part name sync from grant (Reading (GotData ticket bytes)) leg = ((mid : Core) × (left :
    HoldingValue)
    × AnswersFirst ticket (reply.Content bytes) leg.core leg.old.holding mid left)
    × (leg.now ≡ done (Wrote bytes) leg.before)
DidGet done remote part name sync from grant (MeetsEnd ticket) leg = (leg.old.holding.file ≡ hold.Opened grant)
    × ((mid : Core) × (left : HoldingValue) × (message : List ℕ) × (language : List ℕ)
    × AnswersFirst ticket (reply.Status SSH_FX_EOF message language) leg.core leg.old.holding mid left
    × LetsFileGo mid left leg.after leg.new.holding)
    × (leg.now ≡ leg.before)
DidGet done remote part name sync from grant Names leg = (leg.old.holding.file ≡ hold.Asked grant.id expected.Status)
    × SaysClosed leg.core leg.old leg.after leg.new
    × HasDone done (naming_acts sync part name) leg.before leg.now

-- ---- The whole copy

-- A copy from the server that started at an offset and returned the count `len`. Its steps did this: the OPEN was
-- asked, and brought the grant; READs of its handle were asked, and DATA came to them; the EOF came to a READ at the
-- offset `len`; and the CLOSE had OK. On the local file, the part file was created or reopened. Then the bytes of the
-- DATA were written, piece by piece, each from the offset of its READ on. The first piece is at the offset where the
-- copy started, and there is no gap up to `len`. Then the part file was renamed; with `sync` its bytes were written
-- through to the disk before that, and the directory after it.
pub record GotWhole {H : Type 0} (done : LocalAct → H → H) (remote part name : List ℕ) (sync : Bool) (from len : ℕ)
    (first now : H) (legs : List (CopyStep FileGet H)) : Type 0 where
  pub grant : GrantValue
  pub reading : List ReadDeed
  pub last_read : AskedRead
  pub given_up : List AskedRead
  pub pieces : List ReadPiece
  pub deeds : AreDeeds (DidGet done remote part name sync from grant) legs
      (Names ∷ MeetsEnd last_read.ticket ∷ (map Reading reading ++ Opens ∷ AsksOpen ∷ []))
  pub reads : reads_after reading ≡ record { under_way = last_read ∷ given_up; pieces = pieces }
  pub in_order : AreFromTo from pieces len
  pub at_end : last_read.offset ≡ len
  pub acts : HasDone done (part_opened part from ∷ (writes_of (bytes_of pieces) ++ naming_acts sync part name)) first
      now
