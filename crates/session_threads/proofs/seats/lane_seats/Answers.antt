use Rattle.std.proofs.Common.{rules, ◌≡◌, ◌+◌, ◌∙◌, ◌++◌, ◌∷◌, [], refl, ap, subst, sym, List, length, map}
use Rattle.session_seats.specs.declared.seat.Seat.{Seat}
use Rattle.session_seats.specs.Closes.{claim_by, claims_of}
use Rattle.session_seats.specs.Covers.{HomeGave}
use Rattle.sftp_tasks.specs.declared.locked.Locked.{Locked}
use Rattle.sftp_tasks.specs.Reported.{lane_named}
use Rattle.session_threads.specs.Crews.{lanes_below}
use Rattle.session_seats.proofs.Lists.{stays_same}
use Rattle.session_threads.specs.Running.{AllMadeNothing, AllReady}
use Rattle.session_threads.proofs.RunLaws.{given_on, lane_given, made_snoc}
use Rattle.session_threads.proofs.RunReports.{fits_names, names_more}
use Rattle.session_threads.proofs.seats.lane_seats.Goals as goal

pub loop-init : goal.loop-init
loop-init g c =
    let z = c.args.shared.now.shared.table.shared.table_id in
    let none : c.new-seats.result.items ≡ [] = search rules in
    let p = subst (λ (l : List _). AllReady z l × HomeGave (claim_by c.args.home.now) (claims_of l)) (sym none)
    (tt, c.requires.first) in (
      record {
        ready = c.requires.home;
        made = (refl, refl);
        version =
            stays_same (claim_by c.args.home.now).sight.version;
        added = refl;
        lane = refl;
      },
      p.0,
      p.1,
      ap (λ (l : List (Seat Locked _)). map lane_named l) none,
      ap (λ (l : List (Seat Locked _)). length l) none,
      subst (λ (l : List _). AllMadeNothing l) (sym none) tt,
    )

pub loop-preserved : goal.loop-preserved
loop-preserved g c =
    let z = c.args.shared.now.shared.table.shared.table_id in
    let i = c.loop.invariant in
    let got = c.in-Some.ensures.given in
    let next = lane_given z c.loop.home c.seat.new.from c.in-Some.seat c.loop.seats.items c.seat.ensures.own got.1
    c.seat.ensures.same.0 got.0 i.0.ready (i.1, i.2) in
    let items : c.push_reserved.new.self.items ≡ c.loop.seats.items ++ c.in-Some.seat ∷ [] = search rules in
    let p = subst (λ (l : List _). AllReady z l × HomeGave (claim_by c.seat.new.from) (claims_of l)) (sym items) next.1
    in
    let more = names_more c.loop.seats.items c.in-Some.seat c.loop.counter c.len.result i.3 i.4 (search rules)
    (fits_names c.in-Some.seat.lane c.len.result (sym c.names.ensures ∙ c.if-not-names.false)) in
    let q = subst (λ (l : List _). (map lane_named l ≡ lanes_below (c.loop.counter + 1))
    × (length l ≡ c.loop.counter + 1)) (sym items) more in (
      given_on z c.args.home.now c.loop.home c.seat.new.from i.0 next.0,
      p.0,
      p.1,
      q.0,
      q.1,
      subst (λ (l : List _). AllMadeNothing l) (sym items) (made_snoc c.loop.seats.items c.in-Some.seat i.5
          got.0.fresh.made),
    )
