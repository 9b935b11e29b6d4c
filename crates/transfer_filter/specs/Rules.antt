-- The rules as the code has them.
use Rattle.std.specs.Prelude.{◌<◌, ℕ, List, length}
use Rattle.std.specs.List.{All}
use Rattle.transfer_filter.specs.declared.effect.Effect.{Effect}
use Rattle.transfer_filter.specs.declared.rule.Rule.{Rule}

-- A rule as a contract sees it: its effect, and the bytes of its pattern.
abbrev pub rule_seen : Rule → Effect × List ℕ
rule_seen r = (r.effect, r.pattern.items)

-- A row of this length has a cell for each place of each pattern, and for its end.
abbrev pub HasRoom : List Rule → ℕ → Type 0
HasRoom rules len = All (λ (r : Rule). length r.pattern.items < len) rules
