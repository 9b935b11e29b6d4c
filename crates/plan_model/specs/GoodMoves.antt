-- believed: FitsFacts
-- Properties of each move of a call, for any call.
use Rattle.std.specs.Prelude.{ℕ, ◌≡◌, ◌<◌, ◌≤◌, ◌+◌, ◌^◌, ◌⊎◌, true, false, List, [], ◌∷◌, length, Some, None, IfSome}
use Rattle.sftp_model.specs.declared.reply.Reply.TheVariants as reply
use Rattle.sftp_model.specs.declared.request.Request.{Request}
use Rattle.sftp_model.specs.declared.request.Request.TheVariants as request
use Rattle.sftp_model.specs.declared.slot.Facts.{Facts}
use Rattle.sftp_model.specs.declared.slot.Move.{Move}
use Rattle.sftp_model.specs.declared.slot.Move.TheVariants.{Ask, Wait, Done}
use Rattle.sftp_model.specs.Fits.{FitsAttributes, FitsHandle, FitsLong, FitsNumber, FitsSet}
use Rattle.sftp_model.specs.Frames.{no_attributes, is_too_long}
use Rattle.sftp_model.specs.Numbers.{MAX_TRANSFER_LEN}
use Rattle.sftp_model.specs.declared.slot.Site.{Site}
use Rattle.sftp_model.specs.declared.slot.Slot.TheVariants.{Empty}
use Rattle.sftp_model.specs.Slots.{slot_at, with_slot, grant_of, has_grant}
use Rattle.sftp_model.specs.OpenOptions.{flags_of}
use Rattle.plan_model.specs.Moves.{Answers, Own, handle_of}
use Rattle.plan_model.specs.declared.call.Call.TheVariants as call
use Rattle.plan_model.specs.declared.call.Call.{Call}
use Rattle.plan_model.specs.CallPlans.{next}

-- The situation of a law: the call's own requests, the fact that its numbers fit, the handles that it may close, the
-- grants that it brought, and the site and facts at its start.
pub record Situation : Type 1 where
  pub own : Own
  pub numbers : Type 0
  pub closes : List ℕ → Type 0
  pub brought : ℕ → Type 0
  pub site : Site
  pub facts : Facts
  pub answers : Answers

-- A grant that the lane held at the call's start, or that the call brought.
abbrev pub IsHeld : Situation → ℕ → Type 0
IsHeld s g = (has_grant s.site g ≡ true) ⊎ s.brought g

-- The handle is that of such a grant.
pub record IsHeldHandle (s : Situation) (handle : List ℕ) : Type 0 where
  pub grant : ℕ
  pub held : IsHeld s grant
  pub bears : handle ≡ handle_of (s.answers grant)

-- A request that a call may ask.
--
-- Its handles are held, its lengths are within the facts, its offsets within the range, and its paths within a frame.
-- Its flags and attributes fit if the numbers of the call do. Only the call's first request may ask for a handle. A
-- CLOSE comes only if the call may close, and a hello or a query for limits never comes.
abbrev pub IsGoodAsk : Situation → Request → Type 0
IsGoodAsk s (request.Init version) = ⊥
IsGoodAsk s request.LimitsQuery = ⊥
IsGoodAsk s (request.Close handle) = s.closes handle
IsGoodAsk s (request.OpenFile path flags attrs) = (s.own ≡ []) × (s.numbers → FitsSet flags.0) × (attrs ≡ no_attributes)
    × (is_too_long (request.OpenFile path flags attrs) ≡ false)
IsGoodAsk s (request.Opendir path) = (s.own ≡ []) × (is_too_long (request.Opendir path) ≡ false)
IsGoodAsk s (request.Read handle offset len) = IsHeldHandle s handle × (offset + len < 2 ^ 64)
    × (len ≤ s.facts.read_len)
IsGoodAsk s (request.Write handle offset content) = IsHeldHandle s handle × (offset + length content < 2 ^ 64)
    × (length content ≤ s.facts.write_len)
IsGoodAsk s (request.Fstat handle) = IsHeldHandle s handle
IsGoodAsk s (request.Fsync handle) = IsHeldHandle s handle
IsGoodAsk s (request.Readdir handle) = IsHeldHandle s handle
IsGoodAsk s (request.Fsetstat handle attrs) = IsHeldHandle s handle × (s.numbers → FitsAttributes attrs)
IsGoodAsk s (request.CopyData from from_offset len to to_offset) = IsHeldHandle s from × IsHeldHandle s to
    × (from_offset + len < 2 ^ 64) × (to_offset + len < 2 ^ 64)
IsGoodAsk s (request.Setstat path attrs) = (s.numbers → FitsAttributes attrs)
    × (is_too_long (request.Setstat path attrs) ≡ false)
IsGoodAsk s (request.Mkdir path attrs) = (attrs ≡ no_attributes) × (is_too_long (request.Mkdir path attrs) ≡ false)
IsGoodAsk s r = is_too_long r ≡ false

-- Every grant that the site holds is held.
abbrev pub HoldsWithin : Situation → Site → Type 0
HoldsWithin s after = (g : ℕ) → has_grant after g ≡ true → IsHeld s g

-- A move is good if it is a request that may be asked, a wait for a reply that was not taken, or an end that leaves
-- only grants that were held.
abbrev pub IsGood : Situation → Move → Type 0
IsGood s (Ask r) = IsGoodAsk s r
IsGood s (Wait place) = s.answers place ≡ None
IsGood s (Done ended after) = HoldsWithin s after

-- ---- Grants that calls bring, and handles that they close

-- The grant is that of the call's first request, which a HANDLE answered.
pub record IsBrought (own : Own) (answers : Answers) (grant : ℕ) : Type 0 where
  pub asked : Request
  pub later : Own
  pub handle : List ℕ
  pub first : own ≡ (grant, asked) ∷ later
  pub came : answers grant ≡ Some (reply.Handle handle)

-- The CLOSE of the grant of a slot that no other slot has, if nothing was asked before.
pub record ClosesGrant (slot : ℕ) (site : Site) (own : Own) (answers : Answers) (handle : List ℕ) : Type 0 where
  pub grant : ℕ
  pub stood : grant_of (slot_at site slot) ≡ Some grant
  pub fresh : own ≡ []
  pub last : has_grant (with_slot site slot Empty) grant ≡ false
  pub bears : handle ≡ handle_of (answers grant)

-- Only a `close` may close.
abbrev pub MayCloseGrant : Call → Site → Own → Answers → List ℕ → Type 0
MayCloseGrant (call.Close slot) site own answers handle = ClosesGrant slot site own answers handle
MayCloseGrant other site own answers handle = ⊥

-- The calls with an OPEN or an OPENDIR bring a grant.
abbrev pub MayBringGrant : Call → Own → Answers → ℕ → Type 0
MayBringGrant (call.OpenFile slot flags path) own answers grant = IsBrought own answers grant
MayBringGrant (call.FsRead path bound) own answers grant = IsBrought own answers grant
MayBringGrant (call.FsWrite path bytes) own answers grant = IsBrought own answers grant
MayBringGrant (call.List path bound) own answers grant = IsBrought own answers grant
MayBringGrant other own answers grant = ⊥

-- The numbers of a call fit their fields.
abbrev pub FitsCall : Call → Type 0
FitsCall (call.OpenFile slot flags path) = FitsSet (flags_of flags).0
FitsCall (call.SetLen slot n) = FitsLong n
FitsCall (call.SetStat path size mode) = IfSome size FitsLong
FitsCall (call.FsRead path bound) = FitsNumber bound
FitsCall other = Unit {0}

abbrev pub situation : Call → Site → Facts → Own → Answers → Situation
situation c site facts own answers = record {
  own = own;
  numbers = FitsCall c;
  closes = MayCloseGrant c site own answers;
  brought = MayBringGrant c own answers;
  site = site;
  facts = facts;
  answers = answers;
}

-- A READ that the call asks next is within the range.
abbrev pub ReadsWithin : Facts → Move → Type 0
ReadsWithin facts (Ask (request.Read handle offset len)) = (offset + len < 2 ^ 64) × (len ≤ facts.read_len)
ReadsWithin facts other = Unit {0}

-- The next request of a whole read is within the range, as it is if its own requests are those that its plan asked.
abbrev pub WithinRange : Call → Site → Facts → Own → Answers → Type 0
WithinRange (call.FsRead path bound) site facts own answers =
    ReadsWithin facts (next (call.FsRead path bound) site facts own answers)
WithinRange other site facts own answers = Unit {0}

-- ---- Premises

-- The lengths, the limit and the window of a session.
pub record FitsFacts (facts : Facts) : Type 0 where
  pub read_len : (1 ≤ facts.read_len) × (facts.read_len ≤ MAX_TRANSFER_LEN)
  pub write_len : (1 ≤ facts.write_len) × (facts.write_len ≤ MAX_TRANSFER_LEN)
  pub write_limit : 1 ≤ facts.write_limit
  pub read_window : (1 ≤ facts.read_window) × (facts.read_window ≤ 64)

-- The handles that were granted have at most 256 bytes.
abbrev pub HandlesFit : Answers → Type 0
HandlesFit answers = (place : ℕ) → FitsHandle (handle_of (answers place))

-- ---- The site that a cancelled call leaves

-- Every grant of the second site is one of the first.
abbrev pub HoldsNoMore : Site → Site → Type 0
HoldsNoMore site after = (g : ℕ) → has_grant after g ≡ true → has_grant site g ≡ true
