-- What a turn of a lane was is the lane's move by the journal, and the session is tied behind it.
use Rattle.std.proofs.Common.{◌≡◌, ◌+◌, ℕ, true, false, List, [], ◌∷◌, ◌++◌, Option, Some, None, ap, sym, ◌∙◌, subst}
use Rattle.sftp_model.specs.declared.outcome.Outcome.{Outcome}
use Rattle.sftp_model.specs.declared.request.Request.{Request}
use Rattle.sftp_model.specs.declared.slot.Move.TheVariants.{Ask}
use Rattle.sftp_core.specs.Core.{Core, record_at, queued_last}
use Rattle.plan_model.specs.Moves.{Answers}
use Rattle.plan_model.specs.OwnRequests.{ExtendsAnswers}
use Rattle.plan_runner.specs.declared.next.Asked.{Asked}
use Rattle.plan_runner.specs.declared.next.Running.{Running}
use Rattle.plan_runner.specs.Runners.{request_with_handles}
use Rattle.session_model.specs.declared.event.Event.TheVariants.{End}
use Rattle.session_model.specs.declared.entry.Entry.{Entry}
use Rattle.session_model.specs.Readings.{answer, count_submitted, count_ended, last_cancel}
use Rattle.session_model.specs.Calls.{Setting, site_of}
use Rattle.session_model.specs.Grants.{is_close, is_grant}
use Rattle.session_model.specs.Ids.{ReadsId}
use Rattle.session_model.specs.Journals.{IsJournal}
use Rattle.session_model.proofs.IdLaws.{reads}
use Rattle.session_laws.specs.Changes.{asking_lane, ended_lane, with_lane}
use Rattle.session_laws.specs.Dues.{AreDueGrants, unheld_of}
use Rattle.session_laws.specs.Going.{LaneGoesOn}
use Rattle.session_laws.specs.Lanes.{Held, LaneGoes, LaneHolds, LaneValue, SessionTied, Ticketed, grant_places, ticket_places}
use Rattle.session_laws.specs.Places.{is_in}
use Rattle.session_laws.specs.Running.{IsFilled, own_request}
use Rattle.session_laws.proofs.CloseLaws.{grant_state}
use Rattle.session_laws.proofs.EndHolds.{end_dues}
use Rattle.session_laws.proofs.HoldLaws.{ticket_push}
use Rattle.session_work.specs.Tokens.{NamesHandles}
use Rattle.session_work.specs.Holding.{HoldsLane, TurnTied}
use Rattle.session_work.specs.declared.lane.Moved.TheVariants as moved
use Rattle.session_work.proofs.Holding.{end_holding, holds_set, request_holds, tied_of, with_here}
use Rattle.sftp_model.specs.declared.reply.Reply.TheVariants as reply
use Rattle.plan_runner.specs.declared.next.Next.TheVariants as step
use Rattle.session_model.specs.declared.entry.Entry.TheVariants as entry

-- a lane that goes on with its value is tied
pub tied_at : (s : Setting) (past : List Entry) (core : Core) (lanes : ℕ → LaneValue) (lane : ℕ) (v : LaneValue)
    (dues : List ℕ) → HoldsLane s past core (with_lane lanes lane v) lane dues
    → LaneGoes s past lane v.running v.site (ticket_places v.tickets)
    → SessionTied s past core (with_lane lanes lane v) dues
tied_at s past core lanes lane v dues h goes =
    tied_of s past core (with_lane lanes lane v) lane dues h (subst
    (λ (x : LaneValue). LaneGoes s past lane x.running x.site (ticket_places x.tickets))
    (sym (with_here lanes lane v)) goes)

-- the replies say of each grant of a lane which handle it has, whatever comes later
pub bears : (s : Setting) (past : List Entry) (lane : ℕ) (ts : List Ticketed) (gs : List Held) (dues : List ℕ)
    (answers : Answers) → LaneHolds s past lane ts gs dues → ExtendsAnswers (answer past) answers
    → NamesHandles gs answers
bears s past lane ts gs dues answers l more k g got =
    (let state = grant_state past gs k g l.held got in
    more g.place (reply.Handle g.grant.handle) (subst (ReadsId past g.grant.id) state.1 (reads past g.grant.id)).1)

-- so the request that a lane filled is the one that the journal says
pub filled_for : (s : Setting) (past : List Entry) (lane : ℕ) (ts : List Ticketed) (gs : List Held) (dues : List ℕ)
    (a : Asked) (q : Request) → LaneHolds s past lane ts gs dues
    → ((answers : Answers) → NamesHandles gs answers → q ≡ request_with_handles a answers)
    → (q ≡ request_with_handles a (answer past)) × IsFilled a (answer past)
filled_for s past lane ts gs dues a q l is =
    (let here : q ≡ request_with_handles a (answer past) = is (answer past)
    (bears s past lane ts gs dues (answer past) l (λ p r e. e)) in
    (here, λ answers more. sym (is answers (bears s past lane ts gs dues answers l more)) ∙ here))

-- ---- what a runner's answer makes of its lane, where its reply was polled

-- it awaits another reply
pub wait_tied : (s : Setting) (past : List Entry) (c new : Core) (lanes : ℕ → LaneValue) (lane : ℕ) (now : LaneValue)
    (r : Running) → HoldsLane s past c lanes lane [] → new ≡ c → now.tickets ≡ (lanes lane).tickets → now.grants
    ≡ (lanes lane).grants → now.ended ≡ (lanes lane).ended
    → now.running ≡ Some r → LaneGoes s past lane (Some r) now.site (ticket_places (lanes lane).tickets)
    → SessionTied s past new (with_lane lanes lane now) []
wait_tied s past c new lanes lane now r h ec et eg ee er goes =
    subst (λ (x : Core). SessionTied s past x (with_lane lanes lane now) []) (sym ec)
    (tied_at s past c lanes lane now [] (holds_set s past c lanes lane now [] h et eg ee)
    (subst (λ (x : Option Running). LaneGoes s past lane x now.site (ticket_places now.tickets)) (sym er)
    (subst (λ (x : List Ticketed). LaneGoes s past lane (Some r) now.site (ticket_places x)) (sym et) goes)))

-- it ends
pub done_tied : (s : Setting) (past : List Entry) (c new : Core) (lanes : ℕ → LaneValue) (lane : ℕ) (now : LaneValue)
    (o : Outcome) → HoldsLane s past c lanes lane [] → AreDueGrants s past [] → IsJournal s past → last_cancel past
    ≡ None
    → ((p : ℕ) → is_in p (ticket_places (lanes lane).tickets) ≡ true → is_grant past p ≡ false) → new ≡ c → now.tickets
    ≡ (lanes lane).tickets → now.grants ≡ (lanes lane).grants → now.ended ≡ (lanes lane).ended
    → LaneGoesOn s past lane (ticket_places (lanes lane).tickets) now.site (step.Done o)
    → TurnTied s past new (with_lane lanes lane) lane now (moved.Ended o)
done_tied s past c new lanes lane now o h d j calm none ec et eg ee goes =
    let v : LaneValue = lanes lane in
    let same : ended_lane v now.site ≡ ended_lane now now.site =
    λ i. record { running = None; site = now.site; tickets = sym et i; grants = sym eg i; ended = sym ee i + 1 } in
    let e : Entry = entry.Event (End lane (count_ended past lane) o) in
    let site : site_of s (e ∷ past) lane ≡ now.site = sym (goes.1 j calm).runs.1 in
    let due : unheld_of (site_of s (e ∷ past) lane) (grant_places v.grants)
    ≡ unheld_of now.site (grant_places now.grants) = λ i. unheld_of (site i) (grant_places (sym eg i)) in
    let dues : List ℕ = unheld_of (site_of s (e ∷ past) lane) (grant_places v.grants) in
    record {
      move = goes.0;
      tied = λ next. subst (λ (ds : List ℕ). AreDueGrants s (e ∷ past) ds
          × SessionTied s (e ∷ past) new (with_lane lanes lane (ended_lane now now.site)) ds) due (
            end_dues s past lane o v.tickets v.grants j d h.holds none,
            subst (λ (x : Core). SessionTied s (e ∷ past) x (with_lane lanes lane (ended_lane now now.site)) dues)
                (sym ec)
                (subst (λ (x : LaneValue). SessionTied s (e ∷ past) c (with_lane lanes lane x) dues) same
                (tied_at s (e ∷ past) c lanes lane (ended_lane v now.site) dues
                (end_holding s past c lanes lane o now.site h next) (goes.1 j calm))),
          );
    }

-- it asks something else than a CLOSE
pub ask_tied : (s : Setting) (past : List Entry) (c new : Core) (lanes : ℕ → LaneValue) (lane id : ℕ) (now : LaneValue)
    (a : Asked) (r : Running) (q : Request) → HoldsLane s past c lanes lane [] → is_close q ≡ false
    → ((answers : Answers) → NamesHandles (lanes lane).grants answers → q ≡ request_with_handles a answers)
    → record_at c id ≡ None → new
    ≡ queued_last c id q true → now.tickets ≡ (lanes lane).tickets
    ++ (record { place = count_submitted past; ticket = id }) ∷ [] → now.grants ≡ (lanes lane).grants
    → now.ended ≡ (lanes lane).ended → now.running ≡ Some r → LaneGoesOn s past lane
    (ticket_places (lanes lane).tickets)
    now.site (step.Ask a r) → TurnTied s past new (with_lane lanes lane) lane now (moved.Asked id q)
ask_tied s past c new lanes lane id now a r q h plain is free ec et eg ee er goes =
    let v : LaneValue = lanes lane in
    let same : asking_lane v (count_submitted past) id v.grants r now.site ≡ now =
    λ i. record { running = sym er i; site = now.site; tickets = sym et i; grants = sym eg i; ended = sym ee i } in
    let f = filled_for s past lane v.tickets v.grants [] a q h.holds is in (
      goes.0 ∙ ap (λ (x : Request). Some (Ask x)) (sym f.0),
      λ next. subst (λ (x : Core). SessionTied s (own_request past lane id q ∷ past) x (with_lane lanes lane now) [])
          (sym ec)
          (subst (λ (x : LaneValue). SessionTied s (own_request past lane id q ∷ past) (queued_last c id q true)
          (with_lane lanes lane x) []) same
          (tied_at s (own_request past lane id q ∷ past) (queued_last c id q true) lanes lane
          (asking_lane v (count_submitted past) id v.grants r now.site) []
          (request_holds s past c lanes lane id q r now.site h next plain free)
          (subst (λ (x : List ℕ). LaneGoes s (own_request past lane id q ∷ past) lane (Some r) now.site x)
          (sym (ticket_push v.tickets (record { place = count_submitted past; ticket = id })))
          (subst (λ (x : Request). LaneGoes s (own_request past lane id x ∷ past) lane (Some r) now.site
          (ticket_places v.tickets ++ count_submitted past ∷ [])) (sym f.0) (goes.1 id f.1))))),
    )
