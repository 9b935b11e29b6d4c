-- Worked files that are kept apart.
use Rattle.std.specs.Prelude.{◌≡◌, List, ℕ, [], ◌∷◌, codes, map, replicate, refl}
use Rattle.sftp_model.specs.Frames.{no_attributes}
use Rattle.transfer_plan.specs.Apart.{kept_apart}
use Rattle.transfer_plan.specs.Cuts.{stem_of}
use Rattle.transfer_plan.specs.declared.found.Found.{Found}
use Rattle.transfer_plan.specs.declared.task.Task.{Task}
use Rattle.transfer_plan.specs.declared.task.Task.TheVariants as task

abbrev job : Task → List ℕ → Found
job what target = record { task = what; depth = 1; source = []; target = target; attrs = no_attributes }

abbrev run : List ℕ
run = codes "0123456789abcdef"

abbrev tasks : List Found → List Task
tasks jobs = map (λ (f : Found). f.task) (kept_apart jobs run)

-- The second of two files with one target is refused.
pub twice : tasks (job task.CopyFile (codes "a") ∷ job task.CopyFile (codes "a") ∷ [])
    ≡ task.CopyFile ∷ task.RefuseTwice ∷ []
unfolding stem_of
twice = refl

-- A file that has the path of the part of another is refused, at any place in the list.
pub left_part : tasks (job task.CopyFile (codes "d/.a.0123456789abcdef.part") ∷ job task.CopyFile (codes "d/a") ∷ [])
    ≡ task.RefusePart ∷ task.CopyFile ∷ []
unfolding stem_of
left_part = refl

-- The part of another run is copied.
pub other_run : tasks (job task.CopyFile (codes "d/.a.0123456789abcdee.part") ∷ job task.CopyFile (codes "d/a") ∷ [])
    ≡ task.CopyFile ∷ task.CopyFile ∷ []
unfolding stem_of
other_run = refl

-- A part without its file is copied. Files of one name in two directories are copied too.
pub alone : tasks (job task.CopyFile (codes "d/.a.0123456789abcdef.part") ∷ job task.CopyFile (codes "e/a")
    ∷ job task.CopyFile
    (codes "d/b")
    ∷ []) ≡ task.CopyFile ∷ task.CopyFile ∷ task.CopyFile ∷ []
unfolding stem_of
alone = refl

-- Directories and symbolic links are unchanged.
pub others : tasks (job task.MakeFolder (codes "a") ∷ job task.CopyLink (codes "a") ∷ job task.CopyFile (codes "a") ∷
    [])
    ≡ task.MakeFolder ∷ task.CopyLink ∷ task.CopyFile ∷ []
unfolding stem_of
others = refl

-- Two names with one byte before the same 232 bytes would have one part: the second is refused.
pub one_part : tasks (job task.CopyFile (97 ∷ replicate 232 120) ∷ job task.CopyFile (98 ∷ replicate 232 120)
    ∷ job task.CopyFile (99 ∷ replicate 231 120) ∷ []) ≡ task.CopyFile ∷ task.RefusePart ∷ task.CopyFile ∷ []
unfolding stem_of
one_part = refl
