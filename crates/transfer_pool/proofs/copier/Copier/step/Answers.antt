use Rattle.std.proofs.Common.{rules, ◌≡◌, ◌∙◌, ap, sym, [], ◌∷◌, ◌++◌}
use Rattle.transfer_pool.specs.Copies.{CopierValue}
use Rattle.transfer_pool.proofs.TogetherLaws.{together_ended, together_stepped, turn_ended, turn_taken}
use Rattle.transfer_pool.proofs.copier.Copier.step.Goals as goal

pub returns-in-Waits-clause-did : goal.returns-in-Waits-clause-did
returns-in-Waits-clause-did g c =
    let first : c.args.self.now.running ≡ c.in-Some.first ∷ c.pop_front.new.self.items =
    ap (λ (x : CopierValue _). x.running) (sym c.self.view_is) ∙ c.in-Some.ensures.items in
    let now : c.push_back_reserved.new.self.items ≡ c.pop_front.new.self.items ++ c.step.new.self ∷ [] = search rules in
    turn_taken g.F.LocalFile.done g.F.LocalFile.history c.args.core.now c.step.new.core c.args.self.now.running
    c.pop_front.new.self.items _ c.in-Some.first c.step.new.self _ first now c.in-Waits.ensures

pub returns-in-Waits-clause-together : goal.returns-in-Waits-clause-together
returns-in-Waits-clause-together g c =
    let first : c.args.self.now.running ≡ c.in-Some.first ∷ c.pop_front.new.self.items =
    ap (λ (x : CopierValue _). x.running) (sym c.self.view_is) ∙ c.in-Some.ensures.items in
    let now : c.push_back_reserved.new.self.items ≡ c.pop_front.new.self.items ++ c.step.new.self ∷ [] = search rules in
    together_stepped g.F.LocalFile.done g.F.LocalFile.history c.args.core.now c.step.new.core c.args.self.now.running
    c.pop_front.new.self.items _ c.in-Some.first c.step.new.self _ first now c.in-Waits.ensures
    c.in-Waits.ensures.stands c.requires

pub returns-in-Moved-clause-did : goal.returns-in-Moved-clause-did
returns-in-Moved-clause-did g c =
    let first : c.args.self.now.running ≡ c.in-Some.first ∷ c.pop_front.new.self.items =
    ap (λ (x : CopierValue _). x.running) (sym c.self.view_is) ∙ c.in-Some.ensures.items in
    let now : c.push_back_reserved-in-Moved.new.self.items ≡ c.pop_front.new.self.items ++ c.step.new.self ∷ [] =
    search rules in
    turn_taken g.F.LocalFile.done g.F.LocalFile.history c.args.core.now c.step.new.core c.args.self.now.running
    c.pop_front.new.self.items _ c.in-Some.first c.step.new.self _ first now c.in-Moved.ensures

pub returns-in-Moved-clause-together : goal.returns-in-Moved-clause-together
returns-in-Moved-clause-together g c =
    let first : c.args.self.now.running ≡ c.in-Some.first ∷ c.pop_front.new.self.items =
    ap (λ (x : CopierValue _). x.running) (sym c.self.view_is) ∙ c.in-Some.ensures.items in
    let now : c.push_back_reserved-in-Moved.new.self.items ≡ c.pop_front.new.self.items ++ c.step.new.self ∷ [] =
    search rules in
    together_stepped g.F.LocalFile.done g.F.LocalFile.history c.args.core.now c.step.new.core c.args.self.now.running
    c.pop_front.new.self.items _ c.in-Some.first c.step.new.self _ first now c.in-Moved.ensures
    c.in-Moved.ensures.stands c.requires

pub returns-in-Ended-clause-did : goal.returns-in-Ended-clause-did
returns-in-Ended-clause-did g c =
    let first : c.args.self.now.running ≡ c.in-Some.first ∷ c.pop_front.new.self.items =
    ap (λ (x : CopierValue _). x.running) (sym c.self.view_is) ∙ c.in-Some.ensures.items in
    turn_ended g.F.LocalFile.done g.F.LocalFile.history c.args.core.now c.step.new.core c.end.new.core
    c.args.self.now.running
    c.pop_front.new.self.items c.in-Some.first c.step.new.self c.in-Ended.result c.end.result first c.in-Ended.ensures
    c.end.ensures.is c.end.ensures.spares

pub returns-in-Ended-clause-together : goal.returns-in-Ended-clause-together
returns-in-Ended-clause-together g c =
    let first : c.args.self.now.running ≡ c.in-Some.first ∷ c.pop_front.new.self.items =
    ap (λ (x : CopierValue _). x.running) (sym c.self.view_is) ∙ c.in-Some.ensures.items in
    together_ended g.F.LocalFile.done g.F.LocalFile.history c.args.core.now c.step.new.core c.end.new.core
    c.args.self.now.running
    c.pop_front.new.self.items c.in-Some.first c.step.new.self c.in-Ended.result first c.in-Ended.ensures
    c.end.ensures.spares c.requires
