use Rattle.std.proofs.Common.{rules, ◌≡◌, ◌∷◌, List, length, ap, ◌∙◌, refl}
use Rattle.std.specs.Prelude.{reverse}
use Rattle.session_model.specs.declared.entry.Entry.{Entry}
use Rattle.session_model.specs.declared.entry.Entry.TheVariants as entry
use Rattle.session_work.specs.declared.lanes.Lanes.{Lanes}
use Rattle.session_work.specs.Working.{LanesValue, contents_of, past_of}
use Rattle.session_work.proofs.Contents.{pushed}
use Rattle.session_work.proofs.ReportLaws.{let_go_intact}
use Rattle.session_work.proofs.lanes.Lanes.let_idle_go.Goals as goal

pub returns-clause-lets_go : goal.returns-clause-lets_go
returns-clause-lets_go c =
    let old : LanesValue = contents_of c.args.self.now in
    let kept : c.reserve.new.self.items ≡ c.args.self.now.journal.items = search rules in
    let past : reverse c.add_entry.new.journal.items ≡ entry.LetGo c.args.lane ∷ old.past =
    ap reverse c.add_entry.ensures.items ∙ pushed c.reserve.new.self.items (entry.LetGo c.args.lane)
    ∙ ap (λ (es : List Entry). entry.LetGo c.args.lane ∷ reverse es) kept in
    λ i. record old { past = past i }

pub returns-clause-intact : goal.returns-clause-intact
returns-clause-intact c =
    let kept : c.reserve.new.self.items ≡ c.args.self.now.journal.items = search rules in
    let past : reverse c.add_entry.new.journal.items ≡ entry.LetGo c.args.lane ∷ past_of c.args.self.now =
    ap reverse c.add_entry.ensures.items ∙ pushed c.reserve.new.self.items (entry.LetGo c.args.lane)
    ∙ ap (λ (es : List Entry). entry.LetGo c.args.lane ∷ reverse es) kept in
    let now : Lanes = record c.args.self.now { journal = c.add_entry.new.journal; gone = c.set.new.self } in
    let_go_intact (length c.args.self.now.calls) c.args.lane c.args.self.now now now c.requires.intact c.requires.there
    refl
    c.set.ensures past (record { kept = refl; past = λ lane. refl }) (λ none. search rules)
