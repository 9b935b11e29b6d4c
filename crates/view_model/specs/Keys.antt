-- believed, except same_key_equiv
-- The keys of blocks.
use Rattle.std.specs.Prelude.{ℕ, ◌==◌, Bool, ◌&&◌}
use Rattle.std.specs.Cmp.{IsEquivalence, and_equiv, nat_eq_equiv, on_equiv}
use Rattle.std.specs.Cmp.Lexicographic.{lists_equiv}
use Rattle.machine_model.specs.Components.{Name, same_name}
use Rattle.view_model.specs.declared.key.BlockKey.{BlockKey}

-- The two keys are the same.
abbrev pub same_key : BlockKey → BlockKey → Bool
same_key a b = same_name a.name b.name && a.block == b.block

abbrev pub key_of : Name → ℕ → BlockKey
key_of name n = record { name = name; block = n }

pub same_key_equiv : IsEquivalence same_key
same_key_equiv = and_equiv (on_equiv (λ (k : BlockKey). k.name) (lists_equiv (lists_equiv nat_eq_equiv)))
    (on_equiv (λ (k : BlockKey). k.block) nat_eq_equiv)
