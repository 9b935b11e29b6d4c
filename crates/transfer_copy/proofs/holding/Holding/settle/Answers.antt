use Rattle.std.proofs.Common.{ap, sym, ◌≡◌, ◌∙◌}
use Rattle.transfer_copy.specs.declared.holding.FileHold.TheVariants as hold
use Rattle.transfer_copy.specs.Holdings.{HoldingValue}
use Rattle.transfer_copy.proofs.HoldingLaws.{file_granted, file_spent}
use Rattle.transfer_copy.proofs.holding.Holding.settle.Goals as goal

pub returns-in-Came-clause-apart : goal.returns-in-Came-clause-apart
returns-in-Came-clause-apart c =
    let is : c.args.self.now.file ≡ hold.Asked c.in-Asked.ticket c.in-Asked.kind =
    ap (λ (x : HoldingValue). x.file) (sym c.self.view_is) ∙ (sym c.take.ensures.was ∙ c.in-Asked.is) in
    file_spent c.args.core.now c.answer_to.new.core c.args.self.now _ c.in-Asked.ticket c.in-Asked.kind c.requires.held
    is
    c.answer_to.ensures.after (λ i. record (c.self.view_is i) { file = c.take.ensures.now i })

pub returns-in-Failed-clause-apart : goal.returns-in-Failed-clause-apart
returns-in-Failed-clause-apart c =
    let is : c.args.self.now.file ≡ hold.Asked c.in-Asked.ticket c.in-Asked.kind =
    ap (λ (x : HoldingValue). x.file) (sym c.self.view_is) ∙ (sym c.take.ensures.was ∙ c.in-Asked.is) in
    file_spent c.args.core.now c.answer_to.new.core c.args.self.now _ c.in-Asked.ticket c.in-Asked.kind c.requires.held
    is
    c.answer_to.ensures.after (λ i. record (c.self.view_is i) { file = c.take.ensures.now i })

pub returns-in-Granted-clause-apart : goal.returns-in-Granted-clause-apart
returns-in-Granted-clause-apart c =
    let is : c.args.self.now.file ≡ hold.Asked c.in-Asked.ticket c.in-Asked.kind =
    ap (λ (x : HoldingValue). x.file) (sym c.self.view_is) ∙ (sym c.take.ensures.was ∙ c.in-Asked.is) in
    (file_granted c.args.core.now c.answer_to.new.core c.args.self.now _ c.in-Asked.ticket c.in-Asked.kind
    c.in-Granted.grant
    c.requires.held is c.answer_to.ensures.after (λ i. record (c.self.view_is i) { file = c.put.ensures i })
    c.in-Granted.ensures.answer).1

pub returns-in-Granted-clause-settles : goal.returns-in-Granted-clause-settles
returns-in-Granted-clause-settles c =
    let is : c.args.self.now.file ≡ hold.Asked c.in-Asked.ticket c.in-Asked.kind =
    ap (λ (x : HoldingValue). x.file) (sym c.self.view_is) ∙ (sym c.take.ensures.was ∙ c.in-Asked.is) in
    (file_granted c.args.core.now c.answer_to.new.core c.args.self.now _ c.in-Asked.ticket c.in-Asked.kind
    c.in-Granted.grant
    c.requires.held is c.answer_to.ensures.after (λ i. record (c.self.view_is i) { file = c.put.ensures i })
    c.in-Granted.ensures.answer).0
