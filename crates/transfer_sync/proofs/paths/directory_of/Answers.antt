use Rattle.std.proofs.Common.{◌≡◌, ◌∙◌, ◌+◌, ◌<◌, ◌≤◌, ◌++◌, ℕ, List, [], ◌∷◌, ap, sym, arith, take, get_or, length}
use Rattle.std.proofs.lemmas.List.{take_more}
use Rattle.transfer_sync.specs.Paths.{directory_of}
use Rattle.transfer_sync.proofs.PathLaws.{directory_at_slash, directory_at_other}
use Rattle.transfer_sync.proofs.paths.directory_of.Goals as goal
use Rattle.transfer_sync.proofs.paths.directory_of.Goals.{then-b-eq47, else-b-eq47}

pub loop-i-preserved : goal.loop-i-preserved
loop-i-preserved c =
    let path = c.args.path.now in
    let i = c.loop-i.i in
    let within : i < length path = omega arith in
    let more : take (i + 1) path ≡ take i path ++ get_or path i 0 ∷ [] = take_more path i 0 within in
    elim c.if-b-eq47.branch [
      | then-b-eq47 w ↦ record {
        within = let is : c.if-b-eq47.cut ≡ i = w.cut-is in omega arith;
        is = ap (λ (n : ℕ). take n path) w.cut-is
            ∙ (directory_at_slash (take i path) (get_or path i 0) w.if-b-eq47.true
            ∙ ap (λ (l : List ℕ). directory_of l) (sym more));
      }
      | else-b-eq47 w ↦ record {
        within = let is : c.if-b-eq47.cut ≡ c.loop-i.cut = w.cut-is in let h : c.loop-i.cut ≤ i =
            c.loop-i.invariant.within in omega arith;
        is = ap (λ (n : ℕ). take n path) w.cut-is
            ∙ (c.loop-i.invariant.is
            ∙ (directory_at_other (take i path) (get_or path i 0) w.if-b-eq47.false
            ∙ ap (λ (l : List ℕ). directory_of l) (sym more)));
      }
    ]
