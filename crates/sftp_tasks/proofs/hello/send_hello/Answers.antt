use Rattle.std.proofs.Common.{rules, ◌≡◌, ◌∙◌, ap, subst, refl, inl, inr, Ok, Err, List, ℕ, arith}
use Rattle.link_frames.specs.Causes.{SentBy}
use Rattle.session_seats.specs.Holds.{no_allowance}
use Rattle.session_seats.proofs.GrowLaws.{grew_applied}
use Rattle.session_seats.proofs.HoldLaws.{hold_map}
use Rattle.sftp_model.specs.Pieces.{joined_pieces}
use Rattle.sftp_tasks.specs.Entries.{by_nothing}
use Rattle.sftp_tasks.specs.LockedEvents.{tells_written}
use Rattle.sftp_tasks.specs.Shows.{shown_of}
use Rattle.sftp_tasks.proofs.OpeningLaws.{hello_handed, hello_none, hello_refused, hello_unwritten, opening_failing, opening_nothing, opening_on, share_kept_by}
use Rattle.sftp_tasks.proofs.RoundLaws.{noted}
use Rattle.sftp_tasks.proofs.hello.send_hello.Goals as goal

pub returns-in-Ok-None-clause-only : goal.returns-in-Ok-None-clause-only
returns-in-Ok-None-clause-only g c =
    opening_nothing c.args.seat.now.lane _ _
    (grew_applied shown_of by_nothing c.args.seat.now.lane no_allowance c.args.seat.now.inner.me
    c.apply-did.new.self.inner.me c.apply-did.ensures.held)

pub returns-in-Ok-None-clause-sends : goal.returns-in-Ok-None-clause-sends
returns-in-Ok-None-clause-sends g c =
    let is = c.in-Ok-None.is ∙ ap (λ o. Ok o) c.in-Ok-None.field-0-is in (
      hello_none c.args.seat.now.inner.me c.apply-did.new.self.inner.me c.apply-did.result.0 is
          c.apply-did.ensures.held,
      refl,
    )

pub returns-in-Err-clause-only : goal.returns-in-Err-clause-only
returns-in-Err-clause-only g c =
    opening_nothing c.args.seat.now.lane _ _
    (grew_applied shown_of by_nothing c.args.seat.now.lane no_allowance c.args.seat.now.inner.me
    c.apply-did.new.self.inner.me c.apply-did.ensures.held)

pub returns-in-Err-clause-stops : goal.returns-in-Err-clause-stops
returns-in-Err-clause-stops g c =
    inl (hello_refused c.args.seat.now.inner.me c.apply-did.new.self.inner.me (g.O.LinkState.state c.args.out.now)
    c.apply-did.result.0 c.in-Err.e (search rules) c.apply-did.ensures.held)

pub apply-requires-clause-may : goal.apply-requires-clause-may
apply-requires-clause-may g c =
    let is = c.in-Ok-Some.is ∙ ap (λ o. Ok o) c.in-Ok-Some.field-0-is in
    let m = c.args.seat.now.inner.me in
    let n = c.apply-did.new.self.inner.me in
    let h = hello_handed m n c.apply-did.result.0 c.in-Ok-Some.handed is c.apply-did.ensures.held in
    (hello_unwritten m n c.apply-did.ensures.held c.in-Ok-Some.handed h.0, omega arith)

pub returns-in-Err-send_pieces-clause-only : goal.returns-in-Err-send_pieces-clause-only
returns-in-Err-send_pieces-clause-only g c =
    let lane = c.args.seat.now.lane in
    let n = c.apply-did.new.self.inner.me in
    opening_on lane c.apply-did.new.self.lane _ _ _ c.apply-did.ensures.lane
    (opening_nothing lane _ _ (grew_applied shown_of by_nothing lane no_allowance c.args.seat.now.inner.me n
    c.apply-did.ensures.held))
    (opening_failing c.apply-did.new.self.lane _ _ c.stop.ensures.only)

pub returns-in-Err-send_pieces-clause-stops : goal.returns-in-Err-send_pieces-clause-stops
returns-in-Err-send_pieces-clause-stops g c =
    let m = c.args.seat.now.inner.me in
    let n = c.apply-did.new.self.inner.me in
    let h = c.apply-did.ensures.held in
    let is = c.in-Ok-Some.is ∙ ap (λ o. Ok o) c.in-Ok-Some.field-0-is in
    let r = hello_handed m n c.apply-did.result.0 c.in-Ok-Some.handed is h in
    let pieces : c.pieces.result.now ≡ c.in-Ok-Some.handed.chunk.pieces = search rules in
    inr record {
      mid = n;
      why = c.in-Err-send_pieces.e;
      hands = hold_map shown_of m n h (r.0.hands, r.1);
      sent = subst (λ (l : List ℕ). SentBy {T = Unit {0}} l (g.O.LinkState.state c.args.out.now)
          (g.O.LinkState.state c.send_pieces.new.link)
          (Err c.in-Err-send_pieces.e)) (ap joined_pieces pieces ∙ r.0.hello) c.in-Err-send_pieces.ensures;
      stops = c.stop.ensures.stops;
    }

pub returns-clause-own : goal.returns-clause-own
returns-clause-own g c =
    let one = share_kept_by 0 c.args.seat.now.inner.me c.apply-did.new.self.inner.me c.apply-did.ensures.held in
    let two = share_kept_by c.in-Ok-Some.handed.frames c.apply-did.new.self.inner.me c.apply.new.self.inner.me
    c.apply.ensures.held in (
      c.apply.ensures.own ∙ c.apply-did.ensures.own,
      c.apply.ensures.lane ∙ c.apply-did.ensures.lane,
      omega (arith, one, two),
    )

pub returns-clause-only : goal.returns-clause-only
returns-clause-only g c =
    let lane = c.args.seat.now.lane in
    let n = c.apply-did.new.self.inner.me in
    opening_on lane c.apply-did.new.self.lane _ _ _ c.apply-did.ensures.lane
    (opening_nothing lane _ _ (grew_applied shown_of by_nothing lane no_allowance c.args.seat.now.inner.me n
    c.apply-did.ensures.held))
    (opening_nothing c.apply-did.new.self.lane _ _
    (grew_applied shown_of by_nothing c.apply-did.new.self.lane (tells_written c.in-Ok-Some.handed.frames) n
    c.apply.new.self.inner.me c.apply.ensures.held))

pub returns-clause-sends : goal.returns-clause-sends
returns-clause-sends g c =
    let m = c.args.seat.now.inner.me in
    let n = c.apply-did.new.self.inner.me in
    let h = c.apply-did.ensures.held in
    let is = c.in-Ok-Some.is ∙ ap (λ o. Ok o) c.in-Ok-Some.field-0-is in
    let r = hello_handed m n c.apply-did.result.0 c.in-Ok-Some.handed is h in
    let pieces : c.pieces.result.now ≡ c.in-Ok-Some.handed.chunk.pieces = search rules in
    record {
      mid = n;
      frames = c.in-Ok-Some.handed.frames;
      hands = hold_map shown_of m n h (r.0.hands, r.0.counts, r.1);
      sent = subst (λ (l : List ℕ). SentBy {T = Unit {0}} l (g.O.LinkState.state c.args.out.now)
          (g.O.LinkState.state c.send_pieces.new.link) (Ok tt))
          (ap joined_pieces pieces ∙ r.0.hello) c.in-Ok.ensures;
      notes = noted c.apply-did.new.self.lane n c.apply.new.self.inner.me c.apply.ensures.held;
    }
