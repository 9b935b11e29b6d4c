-- The text of a journal depends on its events alone.
use Rattle.std.proofs.Common.{◌≡◌, ◌∙◌, List, [], ◌∷◌, ◌++◌, refl, ap, ℕ}
use Rattle.std.specs.Prelude.{map, reverse}
use Rattle.std.proofs.lemmas.List.{map-append, reverse-append}
use Rattle.sftp_model.specs.declared.outcome.Outcome.{Outcome}
use Rattle.sftp_model.specs.declared.request.Request.{Request}
use Rattle.session_model.specs.declared.event.Event.{Event}
use Rattle.session_model.specs.declared.event.Event.TheVariants.{Submit, Send, Take, Cancel, End}
use Rattle.session_model.specs.declared.entry.Entry.{Entry}
use Rattle.session_model.specs.declared.entry.Entry.TheVariants as entry
use Rattle.session_model.specs.Readings.{events_of, trace_of, unsent_requests}
use Rattle.script_text.specs.Texts.{reply_line, frame_lines, lane_lines, text_of}
use Rattle.script_text.specs.Traces.{journal_of}

-- the entries of events
abbrev entries : List Event → List Entry
entries events = map (λ e. entry.Event e) events

unsent_of_events : (past : List Entry) → unsent_requests (entries (events_of past)) ≡ unsent_requests past
unsent_of_events [] = refl
unsent_of_events (entry.Event (Submit by id r) ∷ past) = ap (λ (l : List (ℕ × Request)). l ++ (id, r) ∷ [])
    (unsent_of_events past)
unsent_of_events (entry.Event Send ∷ past) = refl
unsent_of_events (entry.Event (Take id r) ∷ past) = unsent_of_events past
unsent_of_events (entry.Event (Cancel lane) ∷ past) = unsent_of_events past
unsent_of_events (entry.Event (End lane call o) ∷ past) = unsent_of_events past
unsent_of_events (entry.Added lane call ∷ past) = unsent_of_events past
unsent_of_events (entry.LetGo lane ∷ past) = unsent_of_events past
unsent_of_events (entry.Kept fault ∷ past) = unsent_of_events past

lines_of_events : (past : List Entry) → frame_lines (entries (events_of past)) ≡ frame_lines past
lines_of_events [] = refl
lines_of_events (entry.Event (Submit by id r) ∷ past) = lines_of_events past
lines_of_events (entry.Event Send ∷ past) = rw (lines_of_events past, unsent_of_events past) refl
lines_of_events (entry.Event (Take id r) ∷ past) = ap (λ (l : List ℕ). l ++ reply_line r) (lines_of_events past)
lines_of_events (entry.Event (Cancel lane) ∷ past) = lines_of_events past
lines_of_events (entry.Event (End lane call o) ∷ past) = lines_of_events past
lines_of_events (entry.Added lane call ∷ past) = lines_of_events past
lines_of_events (entry.LetGo lane ∷ past) = lines_of_events past
lines_of_events (entry.Kept fault ∷ past) = lines_of_events past

pub journal_of_more : (events : List Event) (e : Event) → journal_of (events ++ e ∷ [])
    ≡ entry.Event e ∷ journal_of events
journal_of_more events e = ap reverse (map-append (λ x. entry.Event x) events (e ∷ []))
    ∙ reverse-append (entries events) (entry.Event e ∷ [])

journal_of_reverse : (events : List Event) → journal_of (reverse events) ≡ entries events
journal_of_reverse [] = refl
journal_of_reverse (e ∷ events) = ap journal_of (reverse-append (e ∷ []) events) ∙ journal_of_more (reverse events) e
    ∙ ap (λ (l : List Entry). entry.Event e ∷ l) (journal_of_reverse events)

pub trace_text : (past : List Entry) (outcomes : List (List Outcome)) → text_of (journal_of (trace_of past)) outcomes
    ≡ text_of past outcomes
trace_text past outcomes = ap (λ (l : List ℕ). l ++ lane_lines 0 outcomes)
    (ap frame_lines (journal_of_reverse (events_of past)) ∙ lines_of_events past)
