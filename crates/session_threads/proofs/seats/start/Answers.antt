use Rattle.std.proofs.Common.{◌≡◌, ◌∙◌, ◌++◌, ◌∷◌, [], List, length, ap, sym}
use Rattle.plan_model.specs.declared.call.Lane.{Lane}
use Rattle.session_seats.specs.Holds.{claim_of}
use Rattle.session_threads.specs.Crews.{named_in_order}
use Rattle.session_threads.proofs.RunLaws.{worker_given, worker_sees}
use Rattle.session_threads.proofs.RunReports.{crew_named, still_moved, still_sees}
use Rattle.session_threads.proofs.seats.start.Goals as goal

pub returns-clause-crew : goal.returns-clause-crew
returns-clause-crew g c =
    let z = c.args.shared.now.shared.table.shared.table_id in
    let seats = c.in-Ok.seats.items in
    let a = c.lane_seats.new.home in
    let b = c.worker_seat-sender.new.from in
    let d = c.worker_seat-reader.new.from in
    let sends = c.worker_seat-sender.ensures in
    let reads = c.worker_seat-reader.ensures in
    let one = c.in-Ok.ensures.seats in
    let home = c.lane_seats.ensures.home in
    let s = worker_given z a b c.worker_seat-sender.result seats sends.own.0 sends.same.0 sends.given sends.fresh.1
    home.ready one.1 in
    let r = worker_given z b d c.worker_seat-reader.result (seats ++ c.worker_seat-sender.result ∷ []) reads.own.0
    reads.same.0 reads.given reads.fresh.1
    s.0.ready s.1 in
    let lanes = r.0.made.0 ∙ s.0.made.0 ∙ home.made.0 in
    let count : c.args.count ≡ length (claim_of d.inner.me).sight.lanes = c.requires.count
    ∙ ap (λ (l : List Lane). length l) (sym lanes) in
    let named = crew_named seats d c.worker_seat-sender.result c.worker_seat-reader.result c.args.count
    c.in-Ok.ensures.named
    (r.0.lane ∙ s.0.lane ∙ home.lane ∙ c.requires.home.lane) sends.fresh.0 reads.fresh.0 in
    λ hello sees.
    let first = still_sees z c.args.home a hello home sees in
    let second = still_sees z a b hello s.0 first in
    record {
      home = r.0.ready;
      moved = still_moved z b d r.0 (still_moved z a b s.0 (still_moved z c.args.home a home c.requires.home.moved));
      lanes = one.0;
      made = one.2;
      sender = worker_sees z a b c.worker_seat-sender.result hello sends.given sends.fresh.1
          (sends.own.1 ∙ home.ready.own) first;
      reader = worker_sees z b d c.worker_seat-reader.result hello reads.given reads.fresh.1
          (reads.own.1 ∙ s.0.ready.own) second;
      named = named ∙ ap named_in_order count;
      gave = r.1;
    }

pub returns-clause-made : goal.returns-clause-made
returns-clause-made g c =
    let z = c.args.shared.now.shared.table.shared.table_id in
    let seats = c.in-Ok.seats.items in
    let a = c.lane_seats.new.home in
    let b = c.worker_seat-sender.new.from in
    let d = c.worker_seat-reader.new.from in
    let sends = c.worker_seat-sender.ensures in
    let reads = c.worker_seat-reader.ensures in
    let one = c.in-Ok.ensures.seats in
    let home = c.lane_seats.ensures.home in
    let s = worker_given z a b c.worker_seat-sender.result seats sends.own.0 sends.same.0 sends.given sends.fresh.1
    home.ready one.1 in
    let r = worker_given z b d c.worker_seat-reader.result (seats ++ c.worker_seat-sender.result ∷ []) reads.own.0
    reads.same.0 reads.given reads.fresh.1
    s.0.ready s.1 in
    (r.0.made.0 ∙ s.0.made.0 ∙ home.made.0, r.0.made.1 ∙ s.0.made.1 ∙ home.made.1)
