use Rattle.std.proofs.Common.{rules, ◌≡◌, ◌∙◌, ◌+◌, ◌-◌, ◌^◌, ◌++◌, ℕ, Bool}
use Rattle.std.specs.Prelude.{◌==◌, filter, max, min, not, if◌then◌else◌}
use Rattle.std.proofs.lemmas.Fn.{filter_same}
use Rattle.plan_model.specs.WindowPlans.{brings_content}
use Rattle.plan_window.specs.declared.tally.Tally.{Tally}
use Rattle.plan_window.specs.declared.window.Answered.{Answered}
use Rattle.plan_window.specs.PlainSteps.{end_at, least_of, reached_at}
use Rattle.plan_window.specs.Tallies.{HasOneMore, data_end, free_end}
use Rattle.plan_window.proofs.TallyLaws.{tally_more}
use Rattle.plan_window.proofs.tally.Tally.answered.Goals as goal

pub returns-clause-tally : goal.returns-clause-tally
returns-clause-tally c answered is =
    let t : Tally = c.args.self.now in
    let a : Answered = c.args.answer.now in
    let new : Tally = record {
      end = c.least_of-self.result;
      reached = c.max-self.result;
      contents = c.saturating_add-self.result;
      begins = c.insert_offset.new.begins;
      free = c.add_end.new.free;
    } in
    let more : HasOneMore t.begins.items a.read.offset c.insert_offset.new.begins.items = search rules in
    let end : c.least_of-self.result ≡ least_of t.end (end_at a) = search rules in
    let reached : c.max-self.result ≡ max t.reached (reached_at a) = search rules in
    let contents : c.saturating_add-self.result ≡ min (t.contents + (if brings_content a.reply then 1 else 0))
    (2 ^ 32 - 1) = search rules in
    let test : ℕ → Bool = λ p. not (a.read.offset == p) in
    let left : c.retain.new.self.items ≡ filter test t.free.items =
    filter_same _ test _ (λ x b q. search rules) _ _ c.retain.ensures.filtered in
    let free : c.add_end.new.free.items ≡ filter test t.free.items
    ++ free_end c.insert_offset.new.begins.items (data_end a) = c.add_end.ensures.items
    ∙ (λ i. left i ++ free_end (c.as_slice.ensures.value i) (c.data_end.ensures i)) in
    tally_more t new answered a is more end reached contents free
