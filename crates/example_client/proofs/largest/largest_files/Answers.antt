use Rattle.std.proofs.Common.{List, refl, rules, subst}
use Rattle.std.specs.Prelude.{filter}
use Rattle.std.specs.List.Sorted.{IsPermutation, IsStableByKey}
use Rattle.std.proofs.lemmas.List.Elements.{filter_from_retain}
use Rattle.std.proofs.lemmas.List.Sorted.{answers_always}
use Rattle.sftp_client.specs.declared.walk_entry.WalkEntry.{WalkEntry}
use Rattle.example_client.specs.Largest.{greater_first, is_file, size_of}
use Rattle.example_client.proofs.largest.largest_files.Goals as goal

pub returns : goal.returns
returns c =
    let kept = filter_from_retain _ is_file (λ p x b q t. search rules) _ _ _ c.retain.ensures.filtered in
    let order = c.sort_by_key.new.self.items in
    let sorted = c.in-Ok.ensures.sorted (λ x. record { 0 = size_of x })
    (answers_always _ _ _ (λ f a r f' k. search rules)) in
    let stable = c.in-Ok.ensures.stable (λ x. record { 0 = size_of x })
    (answers_always _ _ _ (λ f a r f' k. search rules)) in
    record {
      order = order;
      same = subst (λ (l : List WalkEntry). IsPermutation l order) kept c.in-Ok.ensures.permutation;
      sorted = sorted;
      stable = subst (λ (l : List WalkEntry). IsStableByKey size_of greater_first l order) kept stable;
      first = c.truncate.ensures.items;
    }
