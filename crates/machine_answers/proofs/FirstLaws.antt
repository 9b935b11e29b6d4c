-- The tree that a server begins with.
use Rattle.std.proofs.Common.{◌≡◌, ℕ, true, List}
use Rattle.machine_model.specs.FirstTree.{FirstFile, first_tree, may_begin}
use Rattle.machine_model.proofs.FirstFiles.{first_well_formed}
use Rattle.machine_model.proofs.FirstFits.{first_fits}
use Rattle.machine_model.proofs.FirstTrees.{first_is_tree}
use Rattle.machine_answers.specs.MachineState.{IsConsistent}

pub first_consistent : (files : List FirstFile) (dirs : List (List ℕ)) → may_begin files dirs ≡ true
    → IsConsistent (first_tree files dirs)
first_consistent files dirs h = record {
  placed = first_is_tree files dirs h;
  numbered = first_well_formed files dirs h;
  fit = first_fits files dirs h;
}
