use Rattle.std.proofs.Common.{rules, ◌<◌, ◌≤◌, ◌∷◌, length}
use Rattle.machine_model.specs.Components.{text_of_name}
use Rattle.machine_answers.proofs.PathLens.{path_over, path_within}
use Rattle.machine_answers.proofs.store.Store.realpath.Goals as goal

pub returns-then-as_bytes-gt-MAX_PATH_LEN : goal.returns-then-as_bytes-gt-MAX_PATH_LEN
returns-then-as_bytes-gt-MAX_PATH_LEN c =
    let long : 1048554 < length (47 ∷ text_of_name c.args.name.now) = search rules in
    rw (path_over c.args.name.now long) c.refused.ensures

pub returns : goal.returns
returns c =
    let short : length (47 ∷ text_of_name c.args.name.now) ≤ 1048554 = search rules in
    rw (path_within c.args.name.now short) (search rules)
