use Rattle.std.proofs.Common.{◌≡◌, ◌≢◌, ◌++◌, ℕ, List, Some, None, codes}
use Rattle.std.proofs.lemmas.Bool.Decides.{Decides-eqb}
use Rattle.std.proofs.lemmas.Slice.Eq.{strip_prefix_is, strip_suffix_is}
use Rattle.transfer_plan.proofs.CutLaws.{by_ending, not_name}
use Rattle.transfer_plan.proofs.part.run_between.Goals as goal

pub returns-in_default-strip_prefix : goal.returns-in_default-strip_prefix
returns-in_default-strip_prefix c =
    let dot : c.args.entry.now ≡ codes "." ++ c.in-Some.dotted.now =
    strip_prefix_is Decides-eqb c.args.entry.now (codes ".") (Some c.in-Some.dotted) c.in-Some.ensures.cases in
    let none : (rest : List ℕ) → c.in-Some.dotted.now ≢ c.args.name.now ++ rest =
    strip_prefix_is Decides-eqb c.in-Some.dotted.now c.args.name.now None c.in_default-strip_prefix.ensures.cases in
    λ run. not_name c.args.name.now c.args.entry.now c.in-Some.dotted.now run dot none

pub returns : goal.returns
returns c =
    let dot : c.args.entry.now ≡ codes "." ++ c.in-Some.dotted.now =
    strip_prefix_is Decides-eqb c.args.entry.now (codes ".") (Some c.in-Some.dotted) c.in-Some.ensures.cases in
    let named : c.in-Some.dotted.now ≡ c.args.name.now ++ c.in-Some-strip_prefix.named.now =
    strip_prefix_is Decides-eqb c.in-Some.dotted.now c.args.name.now (Some c.in-Some-strip_prefix.named)
    c.in-Some-strip_prefix.ensures.cases in
    let second : c.in-Some-strip_prefix.named.now ≡ codes "." ++ c.in-Some-strip_prefix-2.ended.now =
    strip_prefix_is Decides-eqb c.in-Some-strip_prefix.named.now (codes ".") (Some c.in-Some-strip_prefix-2.ended)
    c.in-Some-strip_prefix-2.ensures.cases in
    by_ending c.args.name.now c.args.entry.now c.in-Some.dotted.now c.in-Some-strip_prefix.named.now
    c.in-Some-strip_prefix-2.ended.now c.strip_suffix.result dot named second
    (strip_suffix_is Decides-eqb c.in-Some-strip_prefix-2.ended.now (codes ".part") c.strip_suffix.result
    c.strip_suffix.ensures.cases)
