use Rattle.std.proofs.Common.{rules, ◌≡◌, ◌<◌, ap, sym, ◌∙◌, arith, [], Some, None, true, false, length}
use Rattle.sftp_model.specs.Slots.{slot_at}
use Rattle.sftp_model.specs.declared.slot.Facts.{Facts}
use Rattle.sftp_model.specs.declared.slot.Site.{Site}
use Rattle.plan_model.specs.BufferPlans.{cancelled_buf_flush}
use Rattle.plan_runner.specs.Buffers.{oldest_in, without_oldest}
use Rattle.plan_runner.specs.declared.next.Running.TheVariants as running
use Rattle.plan_runner.proofs.FlushLaws.{flush_ends, flush_passes, flush_stops}
use Rattle.session_laws.specs.Lanes.{ticket_places}
use Rattle.session_laws.proofs.PendLaws.{awaited_has}
use Rattle.session_work.proofs.lane.take_good.Goals as goal

-- facts, where any do
any_facts : Facts
any_facts = record { extensions = record { 0 = 0 }; read_len = 0; write_len = 0; write_limit = 0; read_window = 0 }

pub is_good-requires-clause-awaited : goal.is_good-requires-clause-awaited
is_good-requires-clause-awaited c =
    let at : oldest_in (slot_at c.loop-place.site c.args.slot) ≡ Some c.in-Some.place = sym c.oldest_deferred.ensures
    ∙ c.in-Some.is in
    awaited_has (running.Flushing c.args.slot) c.loop-place.site (ticket_places c.args.tokens.now.tickets.items)
    c.in-Some.place (λ q. c.loop-place.invariant.1 q) at

pub returns-then-not-is_good-clause-leaves : goal.returns-then-not-is_good-clause-leaves
returns-then-not-is_good-clause-leaves c = λ facts answers tell.
    (let at : oldest_in (slot_at c.loop-place.site c.args.slot) ≡ Some c.in-Some.place = sym c.oldest_deferred.ensures
    ∙ c.in-Some.is in
    let bad : c.is_good.result ≡ false = search rules in
    c.loop-place.invariant.4 facts answers tell ∙ flush_stops c.args.slot c.loop-place.site facts [] answers
    c.in-Some.place at (sym (c.is_good.ensures answers tell) ∙ bad))

pub loop-place-preserved : goal.loop-place-preserved
loop-place-preserved c =
    let site : Site = c.loop-place.site in
    let at : oldest_in (slot_at site c.args.slot) ≡ Some c.in-Some.place = sym c.oldest_deferred.ensures ∙ c.in-Some.is
    in
    let good : c.is_good.result ≡ true = search rules in
    let taken : c.take_oldest.new.site ≡ without_oldest site c.args.slot (slot_at site c.args.slot) =
    c.take_oldest.ensures.after in
    let count : length c.take_oldest.new.site.slots ≡ length site.slots = (c.take_oldest.ensures.keeps any_facts).count
    in
    let there : c.args.slot < length site.slots = c.loop-place.invariant.0 in (
      omega (arith, there, count),
      λ q. (let less = c.take_oldest.ensures.fewer.each q in let had = c.loop-place.invariant.1 q in
          omega (arith, less, had)),
      record {
        each = λ q. (let less = c.take_oldest.ensures.fewer.each q in let had = c.loop-place.invariant.2.each q
            in omega (arith, less, had));
      },
      λ facts. (let last = c.take_oldest.ensures.keeps facts in let first = c.loop-place.invariant.3 facts in
          record { count = last.count ∙ first.count; limit = λ within. last.limit (first.limit within) }),
      λ facts answers tell. c.loop-place.invariant.4 facts answers tell
          ∙ (flush_passes c.args.slot site facts [] answers c.in-Some.place there at
          (sym (c.is_good.ensures answers tell) ∙ good) ∙ ap (λ (x : Site). cancelled_buf_flush c.args.slot x facts
          [] answers) (sym taken)),
    )

pub returns-clause-leaves : goal.returns-clause-leaves
returns-clause-leaves c = λ facts answers tell.
    (let none : oldest_in (slot_at c.loop-place.site c.args.slot) ≡ None = sym c.oldest_deferred.ensures
    ∙ c.in_default.is in
    c.loop-place.invariant.4 facts answers tell ∙ flush_ends c.args.slot c.loop-place.site facts [] answers none)
