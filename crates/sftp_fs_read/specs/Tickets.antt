-- Tickets of READs under way.
use Rattle.std.specs.Prelude.{◌≡◌, ◌≢◌, ℕ, List, [], ◌∷◌, map, true, Some, None, IsTrue}
use Rattle.sftp_model.specs.declared.answers.Expected.TheVariants as expected
use Rattle.sftp_model.specs.Answers.{allows_reply}
use Rattle.sftp_model.specs.declared.reply.Reply.{Reply}
use Rattle.plan_model.specs.Moves.{Answers}
use Rattle.plan_window.specs.declared.window.ReadAt.{ReadAt}
use Rattle.sftp_core.specs.Core.{Core, core_after_abandon, after_poll, record_at, is_ticket, reply_in}
use Rattle.plan_state.specs.Asked.{HoldsTicket}
use Rattle.sftp_fs_read.specs.declared.tickets.Answer.{Answer}
use Rattle.sftp_fs_read.specs.declared.tickets.Answer.TheVariants as answer
use Rattle.sftp_fs_read.specs.declared.tickets.Unasked.{Unasked}
use Rattle.sftp_fs_read.specs.declared.tickets.Unasked.TheVariants as unasked

-- This ticket is none of these.
abbrev pub IsNoneOf : ℕ → List ℕ → Type 0
IsNoneOf ticket [] = Unit {0}
IsNoneOf ticket (other ∷ later) = (ticket ≢ other) × IsNoneOf ticket later

-- The core counts these tickets, and no ticket occurs twice.
abbrev pub AreTickets : Core → List ℕ → Type 0
AreTickets core [] = Unit {0}
AreTickets core (ticket ∷ later) = IsTrue (is_ticket (record_at core ticket)) × IsNoneOf ticket later
    × AreTickets core later

-- The core awaits the DATA of each READ under a ticket of its own.
abbrev pub AreUnderWay : Core → List ReadAt → List ℕ → Type 0
AreUnderWay core [] [] = Unit {0}
AreUnderWay core (r ∷ rest) (ticket ∷ later) = HoldsTicket core ticket (expected.Content r.len) × IsNoneOf ticket later
    × AreUnderWay core rest later
AreUnderWay core reads tickets = ⊥

-- The reply to each READ is the one that the core has.
abbrev pub TellsReads : Core → Answers → List ReadAt → List ℕ → Type 0
TellsReads core answers [] [] = Unit {0}
TellsReads core answers (r ∷ rest) (ticket ∷ later) = (answers r.place ≡ reply_in (record_at core ticket))
    × TellsReads core answers rest later
TellsReads core answers reads tickets = ⊥

-- The tickets of READs under way.
abbrev pub tickets_of : List (ℕ × ReadAt) → List ℕ
tickets_of reads = map (λ x. x.0) reads

-- The core after these tickets were polled, the first one first.
abbrev pub polled_all : Core → List ℕ → Core
polled_all core [] = core
polled_all core (ticket ∷ later) = polled_all (after_poll core ticket) later

-- The core after these tickets were abandoned.
abbrev pub core_without_tickets : Core → List ℕ → Core
core_without_tickets core [] = core
core_without_tickets core (ticket ∷ later) = core_without_tickets (core_after_abandon core ticket) later

-- Out of memory, or the recorded fault.
abbrev pub IsUnasked : Core → Unasked → Type 0
IsUnasked core unasked.Short = Unit {0}
IsUnasked core (unasked.Failed fault) = core.fault ≡ Some fault

-- The reply was taken, and may answer a READ of at most `len` bytes.
pub record ReadCame (core : Core) (ticket len : ℕ) (r : Reply) : Type 0 where
  pub taken : reply_in (record_at core ticket) ≡ Some r
  pub allowed : allows_reply (expected.Content len) r ≡ true

-- A reply that was taken comes before a recorded fault. If there is neither, the ticket comes back.
abbrev pub IsAnswer : Core → Core → ℕ → ℕ → Answer → Type 0
IsAnswer old new ticket len (answer.Came r) = ReadCame old ticket len r × (new ≡ after_poll old ticket)
IsAnswer old new ticket len (answer.Missing same) = (reply_in (record_at old ticket) ≡ None) × (old.fault ≡ None)
    × (same ≡ ticket) × (new ≡ old)
IsAnswer old new ticket len (answer.Failed fault) = (reply_in (record_at old ticket) ≡ None) × (old.fault ≡ Some fault)
    × (new ≡ after_poll old ticket)
