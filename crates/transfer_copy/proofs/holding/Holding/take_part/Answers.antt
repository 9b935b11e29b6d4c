use Rattle.std.proofs.Common.{ap, sym, ◌≡◌, ◌∙◌, ◌∷◌, subst, List}
use Rattle.transfer_copy.specs.declared.holding.Part.{Part}
use Rattle.transfer_copy.specs.Holdings.{ArePartsHeld, HoldingValue}
use Rattle.transfer_copy.proofs.HoldingLaws.{never_handle, part_polled}
use Rattle.transfer_copy.proofs.holding.Holding.take_part.Goals as goal

pub unreachable-requires : goal.unreachable-requires
unreachable-requires c =
    let is : c.args.self.now.parts ≡ c.in-Some.part ∷ c.pop_front.new.self.items =
    ap (λ (x : HoldingValue). x.parts) (sym c.self.view_is) ∙ c.in-Some.ensures.items in
    let held = subst (λ (l : List Part). ArePartsHeld c.args.core.now c.args.self.now.file l) is c.requires.parts in
    never_handle c.args.core.now c.in-Some.part.ticket c.in-Some.part.kind c.in-Granted._grant.handle held.0 held.1
    c.in-Granted.ensures.answer.0

pub returns-in-Came-clause-apart : goal.returns-in-Came-clause-apart
returns-in-Came-clause-apart c =
    let is : c.args.self.now.parts ≡ c.in-Some.part ∷ c.pop_front.new.self.items =
    ap (λ (x : HoldingValue). x.parts) (sym c.self.view_is) ∙ c.in-Some.ensures.items in
    part_polled c.args.core.now c.answer_to.new.core c.args.self.now _ c.in-Some.part c.pop_front.new.self.items
    c.requires is
    c.answer_to.ensures.after (ap (λ (x : HoldingValue). record x { parts = c.pop_front.new.self.items })
    c.self.view_is)

pub returns-in-Failed-clause-apart : goal.returns-in-Failed-clause-apart
returns-in-Failed-clause-apart c =
    let is : c.args.self.now.parts ≡ c.in-Some.part ∷ c.pop_front.new.self.items =
    ap (λ (x : HoldingValue). x.parts) (sym c.self.view_is) ∙ c.in-Some.ensures.items in
    part_polled c.args.core.now c.answer_to.new.core c.args.self.now _ c.in-Some.part c.pop_front.new.self.items
    c.requires is
    c.answer_to.ensures.after (ap (λ (x : HoldingValue). record x { parts = c.pop_front.new.self.items })
    c.self.view_is)
