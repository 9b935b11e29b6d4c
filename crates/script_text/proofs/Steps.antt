-- One event more.
use Rattle.std.proofs.Common.{◌≡◌, ◌≢◌, ◌<◌, ◌≤◌, ◌+◌, ◌-◌, ℕ, List, [], ◌∷◌, ◌++◌, length, take, drop, get_or, refl, ap, sym, ◌∙◌, arith, append-nil}
use Rattle.std.specs.List.{flat_map}
use Rattle.std.proofs.lemmas.List.{take_more, get_or-drop, flat_map_more, length-drop}
use Rattle.sftp_model.specs.declared.request.Request.{Request}
use Rattle.sftp_model.specs.declared.reply.Reply.{Reply}
use Rattle.sftp_wire.proofs.Puts.{both_written}
use Rattle.session_model.specs.declared.event.Event.{Event}
use Rattle.session_model.specs.declared.event.Event.TheVariants.{Submit, Send, Take, Cancel, End}
use Rattle.session_model.specs.declared.entry.Entry.{Entry}
use Rattle.session_model.specs.declared.entry.Entry.TheVariants as entry
use Rattle.session_model.specs.Readings.{unsent_requests}
use Rattle.script_text.specs.Texts.{frame_lines, request_line, reply_line}
use Rattle.script_text.specs.Traces.{journal_of, submitted_request}
use Rattle.script_text.proofs.TraceLaws.{journal_of_more}

-- the requests that are submitted from a first place on, and before another one
abbrev pub between : List Event → ℕ → ℕ → List (ℕ × Request)
between events first i = flat_map submitted_request (take (i - first) (drop first events))

-- the lines of the first i events are written, and what is unsent was submitted from the first place on
pub record Walked (events : List Event) (start : List ℕ) (first i : ℕ) (out : List ℕ) : Type 0 where
  pub written : out ≡ start ++ frame_lines (journal_of (take i events))
  pub within : first ≤ i
  pub since : unsent_requests (journal_of (take i events)) ≡ between events first i

journal_step : (events : List Event) (i : ℕ) (e : Event) → i < length events → e ≡ get_or events i e
    → journal_of (take (i + 1) events) ≡ entry.Event e ∷ journal_of (take i events)
journal_step events i e lt is =
    ap journal_of (take_more events i e lt) ∙ journal_of_more (take i events) (get_or events i e)
    ∙ ap (λ (x : Event). entry.Event x ∷ journal_of (take i events)) (sym is)

between_step : (events : List Event) (first i : ℕ) (e : Event) → first ≤ i → i < length events → e ≡ get_or events i e
    → between events first i ++ submitted_request e ≡ between events first (i + 1)
between_step events first i e le lt is =
    let n : ℕ = i - first in
    let more : n + 1 ≡ i + 1 - first = omega arith in
    let at : i ≡ first + n = omega arith in
    let here : e ≡ get_or (drop first events) n e = is ∙ ap (λ k. get_or events k e) at
    ∙ sym (get_or-drop first events n e) in
    flat_map_more submitted_request [] (take n (drop first events)) e
    ∙ ap (λ l. flat_map submitted_request l) (ap (λ x. take n (drop first events) ++ x ∷ []) here
    ∙ sym (take_more (drop first events) n e (omega (arith, length-drop first events))))
    ∙ ap (λ k. flat_map submitted_request (take k (drop first events))) more

-- a Send writes what was submitted from the first place on
pub walked_send : (events : List Event) (start out new : List ℕ) (first i : ℕ) (e : Event)
    → Walked events start first i out → i < length events → e ≡ get_or events i e
    → e ≡ Send → new ≡ out ++ flat_map request_line (between events first i) → Walked events start (i + 1) (i + 1) new
walked_send events start out new first i e h lt is send put =
    let j = journal_step events i e lt is ∙ ap (λ (x : Event). entry.Event x ∷ journal_of (take i events)) send in
    let none : 0 ≡ i + 1 - (i + 1) = omega arith in
    record {
      written = both_written start out new _ _ h.written (put ∙ ap (λ q. out ++ flat_map request_line q) (sym h.since))
          ∙ ap (λ p. start ++ frame_lines p) (sym j);
      within = omega arith;
      since = ap unsent_requests j ∙ ap (λ n. flat_map submitted_request (take n (drop (i + 1) events))) none;
    }

unsent_more : (e : Event) (past : List Entry) → e ≢ Send → unsent_requests (entry.Event e ∷ past) ≡ unsent_requests past
    ++ submitted_request e
unsent_more (Submit by id r) past ne = refl
unsent_more Send past ne = absurd (ne refl)
unsent_more (Take id r) past ne = sym (append-nil (unsent_requests past))
unsent_more (Cancel lane) past ne = sym (append-nil (unsent_requests past))
unsent_more (End lane call o) past ne = sym (append-nil (unsent_requests past))

-- each other event writes its own lines
walked_on : (events : List Event) (start out new more : List ℕ) (first i : ℕ) (e : Event)
    → Walked events start first i out → i < length events → e ≡ get_or events i e
    → e ≢ Send → ((past : List Entry) → frame_lines (entry.Event e ∷ past) ≡ frame_lines past ++ more) → new ≡ out
    ++ more → Walked events start first (i + 1) new
walked_on events start out new more first i e h lt is ne own put =
    let j = journal_step events i e lt is in
    let past = journal_of (take i events) in
    record {
      written = both_written start out new _ more h.written put
          ∙ ap (λ l. start ++ l) (sym (own past) ∙ ap frame_lines (sym j));
      within = omega (arith, h.within);
      since = ap unsent_requests j ∙ unsent_more e past ne ∙ ap (λ l. l ++ submitted_request e) h.since
          ∙ between_step events first i e h.within lt is;
    }

pub walked_take : (events : List Event) (start out new : List ℕ) (first i id : ℕ) (r : Reply) (e : Event)
    → Walked events start first i out → i < length events → e ≡ get_or events i e
    → e ≡ Take id r → new ≡ out ++ reply_line r → Walked events start first (i + 1) new
walked_take events start out new first i id r e h lt is take put =
    walked_on events start out new (reply_line r) first i e h lt is (λ s. absurd (let p = sym take ∙ s in cc))
    (λ past. rw take refl) put

no_lines : (e : Event) (past : List Entry) → e ≢ Send → ((id : ℕ) (r : Reply) → e ≢ Take id r)
    → frame_lines (entry.Event e ∷ past) ≡ frame_lines past ++ []
no_lines (Submit by id r) past ne nt = sym (append-nil (frame_lines past))
no_lines Send past ne nt = absurd (ne refl)
no_lines (Take id r) past ne nt = absurd (nt id r refl)
no_lines (Cancel lane) past ne nt = sym (append-nil (frame_lines past))
no_lines (End lane call o) past ne nt = sym (append-nil (frame_lines past))

-- and those that are neither sent nor taken write none
pub walked_other : (events : List Event) (start out : List ℕ) (first i : ℕ) (e : Event)
    → Walked events start first i out → i < length events → e ≡ get_or events i e
    → e ≢ Send → ((id : ℕ) (r : Reply) → e ≢ Take id r) → Walked events start first (i + 1) out
walked_other events start out first i e h lt is ne nt = walked_on events start out out [] first i e h lt is ne
    (λ past. no_lines e past ne nt) (sym (append-nil out))
