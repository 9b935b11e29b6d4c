-- What is handed out piece by piece is the unbroken run.
use Rattle.std.proofs.Common.{◌≡◌, ◌<◌, ℕ, zero, suc, ◌+◌, List, [], ◌++◌, length, refl, sym, ap, ◌∙◌, subst, arith, Option, Some, None}
use Rattle.std.proofs.lemmas.List.{append_assoc, append-nil}
use Rattle.std.specs.Prelude.{Ok}
use Rattle.sftp_model.specs.declared.reply.Reply.{Reply}
use Rattle.sftp_model.specs.declared.reply.Reply.TheVariants as reply
use Rattle.sftp_core.specs.Core.{Core}
use Rattle.plan_state.specs.declared.poll.Poll.TheVariants.{Ready, Pending}
use Rattle.sftp_streams.specs.Downloads.{DownloadValue, GivesFirst, IsEnd, first_reply}
use Rattle.sftp_streams.specs.Streams.{PiecesAt, ReachesOffset, data_at, data_of, bytes_then, unbroken_run}

-- a piece where the run stands is its next one
pub grows : (n : ℕ) (pieces : PiecesAt) (first next : ℕ) (given bytes : List ℕ)
    → ReachesOffset n pieces first given next → pieces next ≡ Some bytes
    → ReachesOffset (suc n) pieces first (given ++ bytes) (next + length bytes)
grows zero pieces first next given bytes (g, stands) here = (
  bytes,
  [],
  ap pieces (sym stands) ∙ here,
  ap (λ x. x ++ bytes) g ∙ sym (append-nil bytes),
  (refl, ap (λ p. p + length bytes) stands),
)
grows (suc n) pieces first next given bytes (b, later, d, g, r) here = (
  b,
  later ++ bytes,
  d,
  ap (λ x. x ++ bytes) g ∙ append_assoc b later bytes,
  grows n pieces (first + length b) next later bytes r here,
)

-- where no piece stands next, what was given is the whole run
pub whole : (n most : ℕ) (pieces : PiecesAt) (first next : ℕ) (given : List ℕ) → n < most
    → ReachesOffset n pieces first given next → pieces next ≡ None
    → unbroken_run most pieces first ≡ given
whole zero (suc most) pieces first next given less (g, stands) none =
    ap (λ o. bytes_then o (λ x. unbroken_run most pieces (first + length x))) (ap pieces (sym stands) ∙ none) ∙ sym g
whole (suc n) (suc most) pieces first next given less (b, later, d, g, r) none =
    ap (λ o. bytes_then o (λ x. unbroken_run most pieces (first + length x))) d
    ∙ ap (λ x. b ++ x) (whole n most pieces (first + length b) next later (omega (arith, less)) r none) ∙ sym g
whole n zero pieces first next given less r none = absurd (omega (arith, less))

-- ---- what polls give

no_data : (r : Option Reply) → IsEnd r → data_of r ≡ None
no_data None never = absurd never
no_data (Some (reply.Content bytes)) e = absurd cc
no_data (Some (reply.Status code message language)) e = refl
no_data (Some (reply.Handle handle)) e = refl
no_data (Some (reply.Version version extensions)) e = refl
no_data (Some (reply.Names names)) e = refl
no_data (Some (reply.Attrs attrs)) e = refl
no_data (Some (reply.Extended content)) e = refl

-- a poll that gives bytes moves the run on by them
pub poll_grows : (n : ℕ) (replies : ℕ → Option Reply) (first : ℕ) (given bytes : List ℕ) (core after : Core)
    (d new : DownloadValue) → ReachesOffset n (data_at replies) first given d.offset
    → replies d.offset ≡ first_reply core d → GivesFirst core after d new (Ready (Ok (Some bytes)))
    → ReachesOffset (suc n) (data_at replies) first (given ++ bytes) new.offset
poll_grows n replies first given bytes core after d new reached tells (came, some, moved, going, core_is, is) =
    subst (λ p. ReachesOffset (suc n) (data_at replies) first (given ++ bytes) p) (sym moved)
    (grows n (data_at replies) first d.offset given bytes reached (ap data_of (tells ∙ came)))

-- where a poll is pending, what was given is the run by the replies so far
pub poll_waits : (n most : ℕ) (replies : ℕ → Option Reply) (first : ℕ) (given : List ℕ) (core after : Core)
    (d new : DownloadValue) → n < most → ReachesOffset n (data_at replies) first given d.offset
    → replies d.offset ≡ first_reply core d → GivesFirst core after d new Pending
    → unbroken_run most (data_at replies) first ≡ given
poll_waits n most replies first given core after d new less reached tells
    (missing, unfailed, stays, going, filled, full, some) = whole n most (data_at replies) first d.offset given less
    reached (ap data_of (tells ∙ missing))

-- and where a poll tells the end it is the run by all replies
pub poll_ends : (n most : ℕ) (replies : ℕ → Option Reply) (first : ℕ) (given : List ℕ) (core after : Core)
    (d new : DownloadValue) → n < most → ReachesOffset n (data_at replies) first given d.offset
    → replies d.offset ≡ first_reply core d → GivesFirst core after d new (Ready (Ok None))
    → unbroken_run most (data_at replies) first ≡ given
poll_ends n most replies first given core after d new less reached tells (ended, stays, over, core_is, is) =
    whole n most (data_at replies) first d.offset given less reached
    (ap data_of tells ∙ no_data (first_reply core d) ended)
