-- Requests of a stream that are under way, and what a core reports of them.
use Rattle.std.specs.Prelude.{◌≡◌, ◌≢◌, ◌<◌, ℕ, ◌+◌, true, false, List, [], ◌∷◌, Some, None}
use Rattle.sftp_model.specs.Answers.{allows_reply}
use Rattle.sftp_model.specs.declared.answers.Expected.{Expected}
use Rattle.sftp_model.specs.declared.reply.Reply.{Reply}
use Rattle.sftp_core.specs.Core.{Core, core_after_abandon, after_poll, record_at, reply_in}
use Rattle.sftp_core.specs.Table.{asks_handle, expected_at}
use Rattle.plan_state.specs.Asked.{HoldsTicket}
use Rattle.plan_state.specs.Keeping.{KeepsGrants}
use Rattle.sftp_streams.specs.declared.parts.Answer.{Answer}
use Rattle.sftp_streams.specs.declared.parts.Answer.TheVariants as answer
use Rattle.sftp_streams.specs.declared.parts.Part.{Part}
use Rattle.sftp_streams.specs.declared.parts.Unasked.{Unasked}
use Rattle.sftp_streams.specs.declared.parts.Unasked.TheVariants as unasked

-- The replies that a part may get.
abbrev pub KindOf : Type 0
KindOf = Part → Expected

-- The number of bytes that the parts ask for or carry.
abbrev pub parts_len : List Part → ℕ
parts_len [] = 0
parts_len (part ∷ later) = part.len + parts_len later

-- This ticket is none of the parts'.
abbrev pub IsApart : ℕ → List Part → Type 0
IsApart ticket [] = Unit {0}
IsApart ticket (part ∷ later) = (ticket ≢ part.ticket) × IsApart ticket later

-- The core awaits the reply to each part under a ticket of its own, and each part has a byte or more.
abbrev pub AreAwaited : KindOf → Core → List Part → Type 0
AreAwaited kind core [] = Unit {0}
AreAwaited kind core (part ∷ later) = HoldsTicket core part.ticket (kind part) × (0 < part.len)
    × IsApart part.ticket later
    × AreAwaited kind core later

-- ---- Replies to a part

-- The core awaits a reply, which is no HANDLE.
pub record AwaitsPlain (core : Core) (ticket : ℕ) : Type 0 where
  pub kind : Expected
  pub holds : HoldsTicket core ticket kind
  pub plain : asks_handle kind ≡ false

-- The reply was taken, and is one that its request allows.
pub record PartCame (core : Core) (ticket : ℕ) (r : Reply) : Type 0 where
  pub taken : reply_in (record_at core ticket) ≡ Some r
  pub allowed : (kind : Expected) → expected_at (record_at core ticket) ≡ Some kind → allows_reply kind r ≡ true

-- A reply that was taken comes before a recorded fault. If there is neither, the ticket comes back.
abbrev pub IsAnswer : Core → Core → ℕ → Answer → Type 0
IsAnswer old new ticket (answer.Came r) = PartCame old ticket r × (new ≡ after_poll old ticket)
IsAnswer old new ticket (answer.Missing same) = (reply_in (record_at old ticket) ≡ None) × (old.fault ≡ None)
    × (same ≡ ticket) × (new ≡ old)
IsAnswer old new ticket (answer.Failed fault) = (reply_in (record_at old ticket) ≡ None) × (old.fault ≡ Some fault)
    × (new ≡ after_poll old ticket)

-- The core after a poll of the first part, if one is under way.
abbrev pub after_first : Core → List Part → Core
after_first core [] = core
after_first core (part ∷ later) = after_poll core part.ticket

-- ---- What others hold

-- Each ticket that is none of the parts' stays held, each grant stays, the session stays open, and its fault is kept.
pub record KeepsOthersHeld (parts : List Part) (old new : Core) : Type 0 where
  pub holds : (ticket : ℕ) (kind : Expected) → IsApart ticket parts → HoldsTicket old ticket kind
      → HoldsTicket new ticket kind
  pub grants : KeepsGrants old new
  pub phase : new.phase ≡ old.phase
  pub fault : new.fault ≡ old.fault

-- ---- Reasons that nothing was asked

-- Out of memory, no free id, or the recorded fault.
abbrev pub IsUnasked : Core → Unasked → Type 0
IsUnasked core unasked.Short = Unit {0}
IsUnasked core (unasked.Failed fault) = core.fault ≡ Some fault

-- ---- Cancels

-- The core after the tickets of these parts were abandoned, the first one first.
abbrev pub without_parts : Core → List Part → Core
without_parts core [] = core
without_parts core (part ∷ later) = without_parts (core_after_abandon core part.ticket) later
