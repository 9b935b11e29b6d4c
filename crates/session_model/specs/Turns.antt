-- believed
-- Continuations of a session's journal under one turn of its schedule.
use Rattle.std.specs.Prelude.{
  ◌≡◌,
  ◌⊎◌,
  ◌-◌,
  ℕ,
  ◌==◌,
  Bool,
  false,
  not,
  ◌||◌,
  ◌&&◌,
  List,
  [],
  ◌∷◌,
  Option,
  Some,
  None,
  nat_lt,
  is_some,
  MatchBool,
}
use Rattle.sftp_model.specs.declared.reply.Reply.{Reply}
use Rattle.sftp_model.specs.declared.slot.Move.{Move}
use Rattle.sftp_model.specs.declared.slot.Move.TheVariants.{Ask, Wait, Done}
use Rattle.session_model.specs.declared.turn.Turn.{Turn}
use Rattle.session_model.specs.declared.turn.Turn.TheVariants as turn
use Rattle.session_model.specs.declared.event.Owner.TheVariants as owner
use Rattle.session_model.specs.declared.event.Event.TheVariants.{Submit, Send, Take, Cancel, End}
use Rattle.session_model.specs.declared.entry.Entry.{Entry}
use Rattle.session_model.specs.declared.entry.Entry.TheVariants as entry
use Rattle.session_model.specs.Readings.{count_submitted, count_sent, count_awaited, count_ended}
use Rattle.session_model.specs.Calls.{Setting, current, move_of}
use Rattle.session_model.specs.Grants.{next_due}
use Rattle.session_model.specs.Journals.{MayTake, IsFree, MustClose, cancelled_end}

-- ---- Entries that follow each event

-- The journal `now` is `before`, followed by CLOSEs of the grants that were to be closed, one after another.
abbrev pub ClosesTo : Setting → List Entry → List Entry → Type 0
ClosesTo s before [] = before ≡ []
ClosesTo s before (e ∷ past) = (before ≡ e ∷ past) ⊎ (((grant : ℕ)
    × ((next_due s past ≡ Some grant) × MustClose past grant e)) × ClosesTo s before past)

-- True if more requests are unsent than allowed.
abbrev pub is_full : Setting → List Entry → Bool
is_full s past = nat_lt s.max_pending (count_submitted past - count_sent past)

-- A Send if more requests are unsent than allowed.
abbrev pub SendsTo : Setting → List Entry → List Entry → Type 0
SendsTo s before now = MatchBool (is_full s before) (now ≡ entry.Event Send ∷ before) (now ≡ before)

-- All grants are closed that were to be closed.
abbrev pub SettlesTo : Setting → List Entry → List Entry → Type 0
SettlesTo s before now = ClosesTo s before now × (next_due s now ≡ None)

-- The entries that follow each event: all grants are closed that are to be closed, and then too many unsent requests
-- are sent.
abbrev pub RulesTo : Setting → List Entry → List Entry → Type 0
RulesTo s before now = (mid : List Entry) × (SettlesTo s before mid × SendsTo s mid now)

-- ---- Progress

-- A journal, and the lanes whose call was started: a turn stepped it, and it hasn't ended.
pub record RunProgress : Type 0 where
  pub past : List Entry
  pub begun : ℕ → Bool

-- No lane was started.
abbrev pub none_begun : ℕ → Bool
none_begun = λ l. false

-- The lanes that were started, and this one.
abbrev pub begun_with : (ℕ → Bool) → ℕ → ℕ → Bool
begun_with begun lane = λ l. (lane == l) || begun l

-- The lanes that were started, except this one.
abbrev pub begun_but : (ℕ → Bool) → ℕ → ℕ → Bool
begun_but begun lane = λ l. not (lane == l) && begun l

-- ---- Single turns; `Follows` is the relation of what follows their event

-- A lane makes its next move.
abbrev pub MovesBy : (List Entry → List Entry → Type 0) → ℕ → RunProgress → RunProgress → Option Move → Type 0
MovesBy Follows lane before now None = now ≡ before
MovesBy Follows lane before now (Some (Wait place)) = now ≡ record
    { past = before.past; begun = begun_with before.begun lane }
MovesBy Follows lane before now (Some (Ask r)) =
    (now.begun ≡ begun_with before.begun lane)
    × ((id : ℕ) × (IsFree before.past id × Follows (entry.Event
    (Submit (owner.Call lane (count_ended before.past lane)) id r)
    ∷ before.past) now.past))
MovesBy Follows lane before now (Some (Done o site)) =
    (now.begun ≡ begun_but before.begun lane) × Follows (entry.Event (End lane (count_ended before.past lane) o) ∷
    before.past) now.past

-- The unsent requests are sent.
abbrev pub FlushesBy : (List Entry → List Entry → Type 0) → RunProgress → RunProgress → Type 0
FlushesBy Follows before now =
    MatchBool (nat_lt (count_sent before.past) (count_submitted before.past))
    ((now.begun ≡ before.begun) × Follows (entry.Event Send ∷ before.past) now.past)
    (now ≡ before)

-- If a sent request is unanswered, one reply is taken.
abbrev pub TakesBy : (List Entry → List Entry → Type 0) → RunProgress → RunProgress → Type 0
TakesBy Follows before now =
    MatchBool (nat_lt 0 (count_awaited before.past))
    ((now.begun ≡ before.begun)
    × ((id : ℕ) × ((r : Reply) × (MayTake before.past id r × Follows (entry.Event (Take id r) ∷ before.past)
    now.past))))
    (now ≡ before)

-- The call of a started lane is cancelled.
abbrev pub CancelsBy : (List Entry → List Entry → Type 0) → Setting → ℕ → RunProgress → RunProgress → Type 0
CancelsBy Follows s lane before now =
    MatchBool (is_some (current s before.past lane) && before.begun lane)
    ((now.begun ≡ begun_but before.begun lane)
    × Follows (cancelled_end (entry.Event (Cancel lane) ∷ before.past) lane ∷ entry.Event (Cancel lane) ∷ before.past)
    now.past)
    (now ≡ before)

-- ---- One turn

-- One turn, and what follows its event.
abbrev pub TurnTo : Setting → Turn → RunProgress → RunProgress → Type 0
TurnTo s (turn.Step lane) before now = MovesBy (RulesTo s) lane before now (move_of s before.past lane)
TurnTo s turn.Flush before now = FlushesBy (RulesTo s) before now
TurnTo s turn.Take before now = TakesBy (RulesTo s) before now
TurnTo s (turn.Cancel lane) before now = CancelsBy (RulesTo s) s lane before now
