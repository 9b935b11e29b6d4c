-- What events asked and sent, and what the trace of a journal keeps of it.
use Rattle.std.proofs.Common.{◌≡◌, ◌≤◌, ◌+◌, ℕ, List, [], ◌∷◌, ◌++◌, take, refl, ap, ◌∙◌}
use Rattle.std.specs.Prelude.{map, reverse}
use Rattle.std.proofs.lemmas.List.{map-append, reverse-append}
use Rattle.session_model.specs.declared.event.Event.{Event}
use Rattle.session_model.specs.declared.event.Event.TheVariants.{Submit, Send, Take, Cancel, End}
use Rattle.session_model.specs.declared.entry.Entry.{Entry}
use Rattle.session_model.specs.declared.entry.Entry.TheVariants as entry
use Rattle.session_model.specs.Readings.{count_submitted, events_of, count_sent, trace_of}
use Rattle.sftp_cli.specs.Summary.{requests_in}

-- the events as entries, and the newest first
abbrev entries : List Event → List Entry
entries events = map (λ e. entry.Event e) events

abbrev newest_first : List Event → List Entry
newest_first events = reverse (entries events)

more_newest : (events : List Event) (e : Event) → newest_first (events ++ e ∷ []) ≡ entry.Event e ∷ newest_first events
more_newest events e = ap reverse (map-append (λ x. entry.Event x) events (e ∷ []))
    ∙ reverse-append (entries events) (entry.Event e ∷ [])

-- what the first k events asked and sent
pub record Sending (events : List Event) (k so_far went : ℕ) : Type 0 where
  pub asks : so_far ≡ count_submitted (newest_first (take k events))
  pub sends : went ≡ count_sent (newest_first (take k events))
  pub small : so_far ≤ k

-- ---- traces

newest_of_reverse : (events : List Event) → newest_first (reverse events) ≡ entries events
newest_of_reverse [] = refl
newest_of_reverse (e ∷ events) =
    ap newest_first (reverse-append (e ∷ []) events) ∙ more_newest (reverse events) e
    ∙ ap (λ (l : List Entry). entry.Event e ∷ l) (newest_of_reverse events)

asked_in_events : (past : List Entry) → count_submitted (entries (events_of past)) ≡ count_submitted past
asked_in_events [] = refl
asked_in_events (entry.Event (Submit by id r) ∷ past) = ap (λ n. n + 1) (asked_in_events past)
asked_in_events (entry.Event Send ∷ past) = asked_in_events past
asked_in_events (entry.Event (Take id r) ∷ past) = asked_in_events past
asked_in_events (entry.Event (Cancel lane) ∷ past) = asked_in_events past
asked_in_events (entry.Event (End lane call o) ∷ past) = asked_in_events past
asked_in_events (entry.Added lane call ∷ past) = asked_in_events past
asked_in_events (entry.LetGo lane ∷ past) = asked_in_events past
asked_in_events (entry.Kept fault ∷ past) = asked_in_events past

sent_in_events : (past : List Entry) → count_sent (entries (events_of past)) ≡ count_sent past
sent_in_events [] = refl
sent_in_events (entry.Event (Submit by id r) ∷ past) = sent_in_events past
sent_in_events (entry.Event Send ∷ past) = asked_in_events past
sent_in_events (entry.Event (Take id r) ∷ past) = sent_in_events past
sent_in_events (entry.Event (Cancel lane) ∷ past) = sent_in_events past
sent_in_events (entry.Event (End lane call o) ∷ past) = sent_in_events past
sent_in_events (entry.Added lane call ∷ past) = sent_in_events past
sent_in_events (entry.LetGo lane ∷ past) = sent_in_events past
sent_in_events (entry.Kept fault ∷ past) = sent_in_events past

pub trace_sent : (past : List Entry) → requests_in (trace_of past) ≡ count_sent past
trace_sent past = ap count_sent (newest_of_reverse (events_of past)) ∙ sent_in_events past
