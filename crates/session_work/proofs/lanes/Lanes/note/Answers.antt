use Rattle.std.proofs.Common.{◌≡◌, ◌∷◌, ℕ, Bool, List, ap, sym, subst, ◌∙◌, arith, refl}
use Rattle.session_model.specs.declared.event.Event.TheVariants.{End}
use Rattle.session_model.specs.declared.entry.Entry.{Entry}
use Rattle.session_model.specs.declared.entry.Entry.TheVariants as entry
use Rattle.session_model.specs.Readings.{count_ended}
use Rattle.session_driver.specs.declared.session.Stepped.TheVariants as stepped
use Rattle.session_work.specs.declared.lane.Moved.{Moved}
use Rattle.session_work.specs.declared.lane.Moved.TheVariants as moved
use Rattle.session_work.specs.Closing.{IsClosingLane, IsClosed}
use Rattle.session_work.specs.Noting.{HasTurnToNote, with_begun, asked_in, ended_in}
use Rattle.session_work.specs.Reports.{HasReports, ended_past}
use Rattle.session_work.specs.Working.{LanesValue, StepsIn, contents_of, past_of}
use Rattle.session_work.proofs.BegunLaws.{begun_runs}
use Rattle.session_work.proofs.NotingLaws.{
  asked_noted,
  asked_runs,
  asked_step,
  ended_closing,
  ended_noted,
  ended_step,
  turned_there,
  turning_counted,
  turning_few,
  turning_number,
  waits_in,
  waits_runs,
}
use Rattle.session_work.proofs.ReportLaws.{leaves_on}
use Rattle.session_work.proofs.lanes.Lanes.note.Goals as goal

pub note_asked-requires-clause-counted : goal.note_asked-requires-clause-counted
note_asked-requires-clause-counted c =
    let o = c.requires.turning in
    let old : LanesValue = o.1.0 in
    let few = turning_counted o.0 c.args.lane old (with_begun old.begun (contents_of c.args.self.now)) c.args.moved
    c.args.self.now.journal.items o.1.1.0 refl in
    let len = c.args.self.now.journal.ok.0 in
    omega (arith, few, len)

pub note_ended-requires-clause-few : goal.note_ended-requires-clause-few
note_ended-requires-clause-few c =
    let o = c.requires.turning in
    let old : LanesValue = o.1.0 in
    turning_few o.0 c.args.lane old (with_begun old.begun (contents_of c.args.self.now)) c.args.moved o.1.1.0

pub close_unheld-requires-clause-closing : goal.close_unheld-requires-clause-closing
close_unheld-requires-clause-closing c =
    let o = c.requires.turning in
    let old : LanesValue = o.1.0 in
    let mid : LanesValue = with_begun old.begun (contents_of c.args.self.now) in
    let over = c.in-Ended.outcome in
    let now : List Entry = entry.Event (End c.args.lane (count_ended old.past c.args.lane) over) ∷ old.past in
    let t : HasTurnToNote o.0 c.args.lane old mid (moved.Ended over) =
    subst (λ (m : Moved). HasTurnToNote o.0 c.args.lane old mid m) c.in-Ended.is o.1.1.0 in
    let number : count_ended old.past c.args.lane ≡ c.args.call =
    sym (turning_number o.0 c.args.lane old mid c.args.moved o.1.1.0) ∙ c.requires.number in
    let noted : ended_in mid c.args.lane (count_ended old.past c.args.lane) over ≡ contents_of c.note_ended.new.self =
    ap (λ (n : ℕ). ended_in mid c.args.lane n over) number
    ∙ ended_noted c.args.lane c.args.call over old.begun (contents_of c.args.self.now)
    (contents_of c.note_ended.new.self) o.1.1.1 (turned_there o.0 c.args.lane old mid c.args.moved o.1.1.0)
    c.note_ended.ensures.noted in (
      o.0,
      (
        now,
        subst (λ (x : LanesValue). IsClosingLane o.0 now c.args.lane x) noted
            (ended_closing o.0 c.args.lane over old mid t),
      ),
    )

pub returns-in-Waits-clause-noted : goal.returns-in-Waits-clause-noted
returns-in-Waits-clause-noted c = λ s old t others.
    let mid : LanesValue = with_begun old.begun (contents_of c.args.self.now) in
    let waits : HasTurnToNote s c.args.lane old mid moved.Waits =
    subst (λ (m : Moved). HasTurnToNote s c.args.lane old mid m) c.in-Waits.is t in
    subst (λ (b : ℕ → Bool). StepsIn s c.args.lane old (with_begun b (contents_of c.args.self.now)) stepped.Nothing)
    (begun_runs old.begun c.args.lane c.args.self.now.states.items others (waits_runs s c.args.lane old mid waits))
    (waits_in s c.args.lane old mid waits)

pub returns-in-Asked-clause-noted : goal.returns-in-Asked-clause-noted
returns-in-Asked-clause-noted c = λ s old t others.
    let mid : LanesValue = with_begun old.begun (contents_of c.args.self.now) in
    let asks : HasTurnToNote s c.args.lane old mid (moved.Asked c.in-Asked.id c.in-Asked.request) =
    subst (λ (m : Moved). HasTurnToNote s c.args.lane old mid m) c.in-Asked.is t in
    let number : count_ended old.past c.args.lane ≡ c.args.call =
    sym (turning_number s c.args.lane old mid c.args.moved t) ∙ c.requires.number in
    let noted : asked_in mid c.args.lane (count_ended old.past c.args.lane) c.in-Asked.id c.in-Asked.request
    ≡ contents_of c.note_asked.new.self =
    ap (λ (n : ℕ). asked_in mid c.args.lane n c.in-Asked.id c.in-Asked.request) number
    ∙ asked_noted c.args.lane c.args.call c.in-Asked.id c.in-Asked.request old.begun (contents_of c.args.self.now)
    (contents_of c.note_asked.new.self) others (asked_runs s c.args.lane c.in-Asked.id c.in-Asked.request old mid
    asks) c.note_asked.ensures.noted in
    subst (λ (x : LanesValue). StepsIn s c.args.lane old x stepped.Submitted) noted
    (asked_step s c.args.lane c.in-Asked.id c.in-Asked.request old mid asks)

pub returns-in-Ended-clause-noted : goal.returns-in-Ended-clause-noted
returns-in-Ended-clause-noted c = λ s old t others.
    let mid : LanesValue = with_begun old.begun (contents_of c.args.self.now) in
    let o = c.in-Ended.outcome in
    let now : List Entry = entry.Event (End c.args.lane (count_ended old.past c.args.lane) o) ∷ old.past in
    let ends : HasTurnToNote s c.args.lane old mid (moved.Ended o) =
    subst (λ (m : Moved). HasTurnToNote s c.args.lane old mid m) c.in-Ended.is t in
    let number : count_ended old.past c.args.lane ≡ c.args.call =
    sym (turning_number s c.args.lane old mid c.args.moved t) ∙ c.requires.number in
    let noted : ended_in mid c.args.lane (count_ended old.past c.args.lane) o ≡ contents_of c.note_ended.new.self =
    ap (λ (n : ℕ). ended_in mid c.args.lane n o) number
    ∙ ended_noted c.args.lane c.args.call o old.begun (contents_of c.args.self.now) (contents_of c.note_ended.new.self)
    others (turned_there s c.args.lane old mid c.args.moved t) c.note_ended.ensures.noted in
    let closing : IsClosingLane s now c.args.lane (contents_of c.note_ended.new.self) =
    subst (λ (x : LanesValue). IsClosingLane s now c.args.lane x) noted (ended_closing s c.args.lane o old mid ends) in
    ended_step s c.args.lane o old mid (contents_of c.close_unheld.new.self) ends
    (subst (λ (x : LanesValue). IsClosed s now x (contents_of c.close_unheld.new.self)) (sym noted)
    (c.close_unheld.ensures.closed s now closing))

pub returns-in-Asked-clause-reports : goal.returns-in-Asked-clause-reports
returns-in-Asked-clause-reports c =
    let p : List Entry = past_of c.args.self.now in
    subst (λ (m : Moved). HasReports (ended_past c.args.lane c.args.call m p) c.args.self.now c.note_asked.new.self)
    (sym c.in-Asked.is) c.note_asked.ensures.reports

pub returns-in-Ended-clause-reports : goal.returns-in-Ended-clause-reports
returns-in-Ended-clause-reports c =
    let p : List Entry = past_of c.args.self.now in
    subst (λ (m : Moved). HasReports (ended_past c.args.lane c.args.call m p) c.args.self.now c.close_unheld.new.self)
    (sym c.in-Ended.is)
    (leaves_on (entry.Event (End c.args.lane c.args.call c.in-Ended.outcome) ∷ p) c.args.self.now c.note_ended.new.self
    c.close_unheld.new.self c.note_ended.ensures.reports c.close_unheld.ensures.reports)
