use Rattle.std.proofs.Common.{rules, ◌≡◌, ◌++◌, ◌+◌, take, drop, length, arith, sym, ap, ◌∙◌, append_assoc, ◌∷◌, [], ◌-◌, List, ℕ, get_or, length-take}
use Rattle.session_model.specs.declared.entry.Entry.{Entry}
use Rattle.session_seats.specs.declared.view.Receipt.{Receipt}
use Rattle.std.proofs.lemmas.List.{take_more}
use Rattle.session_seats.specs.Sights.{made_from, receipt}
use Rattle.session_seats.proofs.HoldLaws.{from-snoc}
use Rattle.session_seats.proofs.seat.copy_from.Goals as goal

pub loop-entry-preserved : goal.loop-entry-preserved
loop-entry-preserved c =
    let i = c.loop-entry.invariant in
    let l = c.loop-entry-test.true in
    let xs = take (length c.args.journal.now - c.args.from) (drop c.args.from c.args.journal.now) in
    let k = c.loop-entry.entry-index in
    let x = c.in_ok-entry.entry in
    let is : x ≡ get_or xs k x = search rules in
    let more : take (k + 1) xs ≡ take k xs ++ x ∷ [] = take_more xs k x (omega arith)
    ∙ ap (λ (y : Entry). take k xs ++ y ∷ []) (sym is) in
    let long : c.args.from + length (take k xs) ≡ c.loop-entry.place = omega (arith, length-take k xs, i.0, l) in (
      omega (arith, i.0),
      c.push_reserved.ensures.items
          ∙ ap (λ (r : List Receipt). r ++ receipt c.loop-entry.place x ∷ []) (c.reserve.ensures.items ∙ i.1)
          ∙ append_assoc c.args.receipts.now.items (made_from c.args.from (take k xs))
          (receipt c.loop-entry.place x ∷ [])
          ∙ ap (λ (r : List Receipt). c.args.receipts.now.items ++ r)
          (ap (λ (n : ℕ). made_from c.args.from (take k xs) ++ receipt n x ∷ []) (sym long)
          ∙ sym (from-snoc c.args.from (take k xs) x) ∙ ap (made_from c.args.from) (sym more)),
    )
