use Rattle.std.proofs.Common.{◌≡◌, ℕ, List, [], ◌++◌, take, drop, ap, sym, ◌∙◌, append_assoc}
use Rattle.std.proofs.lemmas.List.{take-append-drop}
use Rattle.ssh_encoding.specs.Reading.{IsSuffix}

pub suffix_same : (ys xs : List ℕ) → ys ≡ xs → IsSuffix ys xs
suffix_same ys xs h = record { prefix = []; is = sym h }

pub suffix_drop : (n : ℕ) (ys xs : List ℕ) → ys ≡ drop n xs → IsSuffix ys xs
suffix_drop n ys xs h = record { prefix = take n xs; is = rw h (sym (take-append-drop n xs)) }

pub suffix_trans : (zs ys xs : List ℕ) → IsSuffix zs ys → IsSuffix ys xs → IsSuffix zs xs
suffix_trans zs ys xs h k = record {
  prefix = k.prefix ++ h.prefix;
  is = k.is ∙ ap (λ l. k.prefix ++ l) h.is
      ∙ sym (append_assoc k.prefix h.prefix zs);
}

pub ruleset suffixes = (suffix_same, suffix_drop, suffix_trans)
