use Rattle.std.proofs.Common.{◌≡◌, ◌≤◌, ◌∷◌, drop, length}
use Rattle.transfer_filter.specs.Matches.{Literal, TwoStars, matches_text, tokens_of}
use Rattle.transfer_filter.specs.Rows.{IsRow}
use Rattle.transfer_filter.proofs.matcher.matches_path.Given as goal

abbrev pub invariant-loop-at : goal.invariant-loop-at
invariant-loop-at l = record {
  within : l.at ≤ length l.path;
  row : IsRow l.glob l.row (drop l.at l.path);
  found : l.found ≡ matches_text (TwoStars ∷ Literal 47 ∷ tokens_of l.glob) (drop l.at l.path);
}

abbrev pub decreases-loop-at : goal.decreases-loop-at
decreases-loop-at l = l.at
