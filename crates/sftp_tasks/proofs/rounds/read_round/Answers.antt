use Rattle.std.proofs.Common.{◌∙◌, ap, subst, sym, refl, inl, inr, Ok, true, false, IfOk, IfErr, ℕ, Option, Bool}
use Rattle.std.specs.Prelude.{Result}
use Rattle.session_seats.specs.Holds.{AddsEntries, claim_of, no_allowance}
use Rattle.session_seats.proofs.GrowLaws.{grew_applied}
use Rattle.sftp_model.specs.declared.error.Error.{Error}
use Rattle.sftp_tasks.specs.Entries.{by_failing, by_nothing, by_read}
use Rattle.sftp_tasks.specs.Rounds.{ReadStops, ReadsRound, ReadsOnce}
use Rattle.sftp_tasks.specs.Shows.{shown_of}
use Rattle.sftp_tasks.proofs.CallLaws.{settled_err, settled_ok}
use Rattle.sftp_tasks.proofs.RoundLaws.{look_false, look_refused, look_true, nothing_then_failing, nothing_then_read, refuses_frame, took}
use Rattle.sftp_tasks.proofs.rounds.read_round.Goals as goal

pub returns-in-Ok-false-clause-reads : goal.returns-in-Ok-false-clause-reads
returns-in-Ok-false-clause-reads g c =
    let m = c.args.seat.now.inner.me in
    let n = c.apply-may.new.self.inner.me in
    let before = g.I.LinkState.state c.args.input.now in
    let is = c.in-Ok-false.is ∙ ap (λ o. Ok o) c.in-Ok-false.field-0-test in
    let nothing = look_false m n before c.apply-may.result.0 is c.apply-may.ensures.held in
    subst (λ (r : Result Bool Error). IfOk r (λ did. ReadsRound did m n before before)) (sym c.settle.ensures)
    (settled_ok false c.apply-may.result.1 (λ did. ReadsRound did m n before before) nothing)

pub returns-in-Ok-false-clause-stops : goal.returns-in-Ok-false-clause-stops
returns-in-Ok-false-clause-stops g c =
    let m = c.args.seat.now.inner.me in
    let n = c.apply-may.new.self.inner.me in
    let before = g.I.LinkState.state c.args.input.now in
    let is = c.in-Ok-false.is ∙ ap (λ o. Ok o) c.in-Ok-false.field-0-test in
    let nothing = look_false m n before c.apply-may.result.0 is c.apply-may.ensures.held in
    subst (λ (r : Result Bool Error). IfErr r (λ e. ReadStops e m n before before)) (sym c.settle.ensures)
    (settled_err false c.apply-may.result.1 (λ e. ReadStops e m n before before)
    (inr (inr (inr (refl, (false, nothing))))))

pub returns-in-Err-clause-stops : goal.returns-in-Err-clause-stops
returns-in-Err-clause-stops g c =
    inl (look_refused c.args.seat.now.inner.me c.apply-may.new.self.inner.me (g.I.LinkState.state c.args.input.now)
    c.apply-may.result.0 c.in-Err.e c.in-Err.is c.apply-may.ensures.held)

pub returns-in-Err-read_frame-clause-only : goal.returns-in-Err-read_frame-clause-only
returns-in-Err-read_frame-clause-only g c =
    let lane = c.args.seat.now.lane in
    let n = c.apply-may.new.self.inner.me in
    nothing_then_failing lane _ _ _
    (grew_applied shown_of by_nothing lane no_allowance c.args.seat.now.inner.me n c.apply-may.ensures.held)
    (subst (λ (l : Option ℕ). AddsEntries (by_failing l) (claim_of n) (claim_of c.stop.new.seat.inner.me))
    c.apply-may.ensures.lane c.stop.ensures.only)

pub returns-in-Err-read_frame-clause-stops : goal.returns-in-Err-read_frame-clause-stops
returns-in-Err-read_frame-clause-stops g c =
    let m = c.args.seat.now.inner.me in
    let n = c.apply-may.new.self.inner.me in
    let before = g.I.LinkState.state c.args.input.now in
    let after = g.I.LinkState.state c.read_frame.new.link in
    let is = c.in-Ok-true.is ∙ ap (λ o. Ok o) c.in-Ok-true.field-0-test in
    let looks = look_true m n c.apply-may.result.0 is c.apply-may.ensures.held in
    inr (inl record {
      mid = n;
      why = c.in-Err-read_frame.e;
      looks = looks;
      fails = c.in-Err-read_frame.ensures.stops;
      caused = c.in-Err-read_frame.ensures.caused;
      stops = c.stop.ensures.stops;
    })

pub returns-in-Err-did-clause-only : goal.returns-in-Err-did-clause-only
returns-in-Err-did-clause-only g c =
    let lane = c.args.seat.now.lane in
    let n = c.apply-may.new.self.inner.me in
    let end = c.apply-did.new.self.inner.me in
    nothing_then_read lane _ _ _
    (grew_applied shown_of by_nothing lane no_allowance c.args.seat.now.inner.me n c.apply-may.ensures.held)
    (subst (λ (l : Option ℕ). AddsEntries (by_read l) (claim_of n) (claim_of end)) c.apply-may.ensures.lane
    (grew_applied shown_of by_read c.apply-may.new.self.lane no_allowance n end c.apply-did.ensures.held))

pub returns-in-Err-did-clause-stops : goal.returns-in-Err-did-clause-stops
returns-in-Err-did-clause-stops g c =
    let m = c.args.seat.now.inner.me in
    let n = c.apply-may.new.self.inner.me in
    let before = g.I.LinkState.state c.args.input.now in
    let after = g.I.LinkState.state c.read_frame.new.link in
    let is = c.in-Ok-true.is ∙ ap (λ o. Ok o) c.in-Ok-true.field-0-test in
    let looks = look_true m n c.apply-may.result.0 is c.apply-may.ensures.held in
    inr (inr (inl record {
      mid = n;
      frame = c.in-Ok.frame;
      looks = looks;
      whole = c.in-Ok.ensures.whole;
      got = c.in-Ok.ensures.log;
      refuses = refuses_frame n c.apply-did.new.self.inner.me c.in-Ok.frame c.read_body-read.result
          c.apply-did.result.0 c.in-Err-did.e c.in-Err-did.is c.read_body-read.ensures c.apply-did.ensures.held;
    }))

pub returns-in-Ok-looked-clause-only : goal.returns-in-Ok-looked-clause-only
returns-in-Ok-looked-clause-only g c =
    let lane = c.args.seat.now.lane in
    let n = c.apply-may.new.self.inner.me in
    let end = c.apply-did.new.self.inner.me in
    nothing_then_read lane _ _ _
    (grew_applied shown_of by_nothing lane no_allowance c.args.seat.now.inner.me n c.apply-may.ensures.held)
    (subst (λ (l : Option ℕ). AddsEntries (by_read l) (claim_of n) (claim_of end)) c.apply-may.ensures.lane
    (grew_applied shown_of by_read c.apply-may.new.self.lane no_allowance n end c.apply-did.ensures.held))

pub returns-in-Ok-looked-clause-reads : goal.returns-in-Ok-looked-clause-reads
returns-in-Ok-looked-clause-reads g c =
    let m = c.args.seat.now.inner.me in
    let n = c.apply-may.new.self.inner.me in
    let before = g.I.LinkState.state c.args.input.now in
    let after = g.I.LinkState.state c.read_frame.new.link in
    let is = c.in-Ok-true.is ∙ ap (λ o. Ok o) c.in-Ok-true.field-0-test in
    let looks = look_true m n c.apply-may.result.0 is c.apply-may.ensures.held in
    let end = c.apply-did.new.self.inner.me in
    let reads : ReadsOnce m end before after = record {
      mid = n;
      frame = c.in-Ok.frame;
      looks = looks;
      whole = c.in-Ok.ensures.whole;
      got = c.in-Ok.ensures.log;
      caused = c.in-Ok.ensures.caused;
      takes = took n end c.in-Ok.frame c.read_body-read.result c.apply-did.result.0 (Ok tt) c.in-Ok-did.is
          c.read_body-read.ensures c.apply-did.ensures.held;
    } in
    subst (λ (r : Result Bool Error). IfOk r (λ did. ReadsRound did m end before after))
    (sym c.settle-in-Ok-looked.ensures)
    (settled_ok true c.apply-did.result.1 (λ did. ReadsRound did m end before after) reads)

pub returns-in-Ok-looked-clause-stops : goal.returns-in-Ok-looked-clause-stops
returns-in-Ok-looked-clause-stops g c =
    let m = c.args.seat.now.inner.me in
    let n = c.apply-may.new.self.inner.me in
    let before = g.I.LinkState.state c.args.input.now in
    let after = g.I.LinkState.state c.read_frame.new.link in
    let is = c.in-Ok-true.is ∙ ap (λ o. Ok o) c.in-Ok-true.field-0-test in
    let looks = look_true m n c.apply-may.result.0 is c.apply-may.ensures.held in
    let end = c.apply-did.new.self.inner.me in
    let reads : ReadsOnce m end before after = record {
      mid = n;
      frame = c.in-Ok.frame;
      looks = looks;
      whole = c.in-Ok.ensures.whole;
      got = c.in-Ok.ensures.log;
      caused = c.in-Ok.ensures.caused;
      takes = took n end c.in-Ok.frame c.read_body-read.result c.apply-did.result.0 (Ok tt) c.in-Ok-did.is
          c.read_body-read.ensures c.apply-did.ensures.held;
    } in
    subst (λ (r : Result Bool Error). IfErr r (λ e. ReadStops e m end before after)) (sym c.settle-in-Ok-looked.ensures)
    (settled_err true c.apply-did.result.1 (λ e. ReadStops e m end before after)
    (inr (inr (inr (refl, (true, reads))))))

pub returns-in-Err-looked-clause-only : goal.returns-in-Err-looked-clause-only
returns-in-Err-looked-clause-only g c =
    let lane = c.args.seat.now.lane in
    let n = c.apply-may.new.self.inner.me in
    let end = c.apply-did.new.self.inner.me in
    nothing_then_read lane _ _ _
    (grew_applied shown_of by_nothing lane no_allowance c.args.seat.now.inner.me n c.apply-may.ensures.held)
    (subst (λ (l : Option ℕ). AddsEntries (by_read l) (claim_of n) (claim_of end)) c.apply-may.ensures.lane
    (grew_applied shown_of by_read c.apply-may.new.self.lane no_allowance n end c.apply-did.ensures.held))

pub returns-in-Err-looked-clause-stops : goal.returns-in-Err-looked-clause-stops
returns-in-Err-looked-clause-stops g c =
    let m = c.args.seat.now.inner.me in
    let n = c.apply-may.new.self.inner.me in
    let before = g.I.LinkState.state c.args.input.now in
    let after = g.I.LinkState.state c.read_frame.new.link in
    let is = c.in-Ok-true.is ∙ ap (λ o. Ok o) c.in-Ok-true.field-0-test in
    let looks = look_true m n c.apply-may.result.0 is c.apply-may.ensures.held in
    let end = c.apply-did.new.self.inner.me in
    let reads : ReadsOnce m end before after = record {
      mid = n;
      frame = c.in-Ok.frame;
      looks = looks;
      whole = c.in-Ok.ensures.whole;
      got = c.in-Ok.ensures.log;
      caused = c.in-Ok.ensures.caused;
      takes = took n end c.in-Ok.frame c.read_body-read.result c.apply-did.result.0 (Ok tt) c.in-Ok-did.is
          c.read_body-read.ensures c.apply-did.ensures.held;
    } in
    inr (inr (inr (refl, (true, reads))))
