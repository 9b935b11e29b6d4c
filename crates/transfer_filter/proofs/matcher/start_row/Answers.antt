use Rattle.std.proofs.Common.{◌≡◌, ◌+◌, ◌-◌, ◌<◌, ◌&&◌, ◌∙◌, ℕ, ap, false, get_or, length, sym, arith}
use Rattle.std.proofs.lemmas.List.{length-set}
use Rattle.transfer_filter.specs.Matches.{is_star}
use Rattle.transfer_filter.proofs.RowLaws.{none_stepped, starred, unstarred}
use Rattle.transfer_filter.proofs.matcher.start_row.Goals as goal
use Rattle.transfer_filter.proofs.matcher.start_row.Goals.{then-glob-at-eq42, else-glob-at-eq42}

pub loop-at-preserved : goal.loop-at-preserved
loop-at-preserved c =
    let next : c.loop-at.at ≡ c.loop-at.at - 1 + 1 = omega arith in
    let len : length c.loop-at.row ≡ length c.args.row.now = c.loop-at.invariant.same_len in
    let room : length c.args.glob.now < length c.loop-at.row = omega (arith, len, c.requires) in
    let value : c.if-glob-at-eq42.row ≡ (is_star (get_or c.args.glob.now (c.loop-at.at - 1) 0)
    && get_or c.loop-at.row c.loop-at.at false) = elim c.if-glob-at-eq42.branch [
      | then-glob-at-eq42 w ↦
          starred (get_or c.args.glob.now (c.loop-at.at - 1) 0) (get_or c.loop-at.row c.loop-at.at false)
          c.if-glob-at-eq42.row (w.if-glob-at-eq42.true)
          (w.row-is ∙ ap (λ (n : ℕ). get_or c.loop-at.row n false) (sym next))
      | else-glob-at-eq42 w ↦
          unstarred (get_or c.args.glob.now (c.loop-at.at - 1) 0) (get_or c.loop-at.row c.loop-at.at false)
          c.if-glob-at-eq42.row (w.if-glob-at-eq42.false) w.row-is
    ] in
    record {
      within = omega (arith, c.loop-at.invariant.within);
      same_len = length-set c.loop-at.row (c.loop-at.at - 1) c.if-glob-at-eq42.row ∙ len;
      done = none_stepped c.args.glob.now c.loop-at.row c.if-glob-at-eq42.row c.loop-at.at (c.loop-at.at - 1) next
          c.loop-at.invariant.within room c.loop-at.invariant.done value;
    }
