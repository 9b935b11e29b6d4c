use Rattle.std.proofs.Common.{◌≡◌, ◌≤◌, ℕ, [], false, drop, length, get_or}
use Rattle.transfer_filter.specs.Matches.{matches_text, tokens_of}
use Rattle.transfer_filter.proofs.matcher.start_row.Given as goal

abbrev pub invariant-loop-at : goal.invariant-loop-at
invariant-loop-at l = record {
  within : l.at ≤ length l.glob;
  same_len : length l.row ≡ length l.fn.row;
  done : (k : ℕ) → l.at ≤ k → k ≤ length l.glob → get_or l.row k false ≡ matches_text (tokens_of (drop k l.glob)) [];
}

abbrev pub decreases-loop-at : goal.decreases-loop-at
decreases-loop-at l = l.at
