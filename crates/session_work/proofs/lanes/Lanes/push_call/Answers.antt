use Rattle.std.proofs.Common.{rules, ◌≡◌, ◌∷◌, List, ap, ◌∙◌}
use Rattle.std.specs.Prelude.{reverse}
use Rattle.plan_model.specs.declared.call.Call.{Call}
use Rattle.session_model.specs.declared.entry.Entry.{Entry}
use Rattle.session_model.specs.declared.entry.Entry.TheVariants as entry
use Rattle.session_driver.specs.Adding.{with_call}
use Rattle.session_work.specs.Working.{LanesValue, contents_of}
use Rattle.session_work.proofs.Contents.{pushed}
use Rattle.session_work.proofs.lanes.Lanes.push_call.Goals as goal

pub returns-clause-adds : goal.returns-clause-adds
returns-clause-adds c =
    let old : LanesValue = contents_of c.args.self.now in
    let kept : c.reserve.new.self.items ≡ c.args.self.now.journal.items = search rules in
    let copied : c.in_ok-copy.copy ≡ c.args.call = search rules in
    let calls : c.push_call.new.self ≡ with_call old.calls c.args.lane c.args.call = search rules in
    let past : reverse c.add_entry.new.journal.items ≡ entry.Added c.args.lane c.args.call ∷ old.past =
    ap reverse c.add_entry.ensures.items ∙ pushed c.reserve.new.self.items (entry.Added c.args.lane c.in_ok-copy.copy)
    ∙ ap (λ (es : List Entry). entry.Added c.args.lane c.in_ok-copy.copy ∷ reverse es) kept
    ∙ ap (λ (x : Call). entry.Added c.args.lane x ∷ old.past) copied in
    λ i. record {
      calls = calls i;
      core = old.core;
      facts = old.facts;
      past = past i;
      asked = old.asked;
      states = old.states;
      begun = old.begun;
    }
