-- Worked files: those that are certain to be copied or read, and those that are not.
use Rattle.std.specs.Prelude.{◌≡◌, true, false, List, [], ◌∷◌, codes, Some, refl}
use Rattle.machine_model.specs.Components.{components}
use Rattle.machine_model.specs.FileTree.{FileTree}
use Rattle.machine_model.specs.FirstTree.{first_tree}
use Rattle.sftp_model.specs.Frames.{attributes, request_body}
use Rattle.sftp_model.specs.declared.error.Error.{Error}
use Rattle.ssh_encoding.specs.Writing.{string, uint32}
use Rattle.mirror_jobs.specs.declared.job.Job.{Job}
use Rattle.mirror_jobs.specs.declared.job.Job.TheVariants as job
use Rattle.mirror_jobs.specs.declared.verdict.Verdict.TheVariants as verdict
use Rattle.mirror_jobs.specs.GoodJobs.{CopiesGood, good_verdict, is_good_job}

-- A server with a file `a` of two bytes and a directory `d`.
abbrev pub some_tree : FileTree
some_tree = first_tree ((codes "a", 1 ∷ 2 ∷ []) ∷ []) (codes "d" ∷ [])

abbrev pub alone : Job → List Job
alone j = j ∷ []

-- A file that exists, a file that does not, and a file in directories that are created.
pub anew_is_good : is_good_job some_tree (alone (job.Up (codes "a") (3 ∷ []))) (job.Up (codes "a") (3 ∷ [])) ≡ true
unfolding components request_body string uint32 attributes
anew_is_good = refl

pub new_is_good : is_good_job some_tree (alone (job.Up (codes "/d/b") [])) (job.Up (codes "/d/b") []) ≡ true
unfolding components request_body string uint32 attributes
new_is_good = refl

pub made_is_good : is_good_job some_tree (alone (job.Up (codes "x/y/z") (1 ∷ []))) (job.Up (codes "x/y/z") (1 ∷ []))
    ≡ true
unfolding components request_body string uint32 attributes
made_is_good = refl

-- A directory has the name.
pub directory_is_not : is_good_job some_tree (alone (job.Up (codes "d") [])) (job.Up (codes "d") []) ≡ false
unfolding components request_body string uint32 attributes
directory_is_not = refl

-- A file is in the way.
pub within_is_not : is_good_job some_tree (alone (job.Up (codes "a/b/c") [])) (job.Up (codes "a/b/c") []) ≡ false
unfolding components request_body string uint32 attributes
within_is_not = refl

-- A download exists, and has fewer bytes than the bound.
pub down_is_good : is_good_job some_tree (alone (job.Down (codes "a") 3)) (job.Down (codes "a") 3) ≡ true
unfolding components request_body string uint32 attributes
down_is_good = refl

pub down_gives : good_verdict some_tree (job.Down (codes "a") 3) ≡ verdict.Got (1 ∷ 2 ∷ [])
unfolding components
down_gives = refl

pub bound_is_not : is_good_job some_tree (alone (job.Down (codes "a") 2)) (job.Down (codes "a") 2) ≡ false
unfolding components request_body string uint32 attributes
bound_is_not = refl

pub missing_is_not : is_good_job some_tree (alone (job.Down (codes "b") 9)) (job.Down (codes "b") 9) ≡ false
unfolding components request_body string uint32 attributes
missing_is_not = refl

-- ---- The law on a verdict

abbrev pub up_a : Job
up_a = job.Up (codes "a") (3 ∷ [])

-- A report that a good file is refused, or that its bytes differ, contradicts the law.
pub refused_is_not_copied : (why : Error) → CopiesGood (alone up_a) [] some_tree (verdict.Refused why ∷ []) → ⊥
refused_is_not_copied why says =
    let both : Some (verdict.Refused why) ≡ Some verdict.Copied = says 0 up_a tt refl anew_is_good in cc

pub differs_is_not_copied : CopiesGood (alone up_a) [] some_tree (verdict.Differs ∷ []) → ⊥
differs_is_not_copied says = let both : Some verdict.Differs ≡ Some verdict.Copied = says 0 up_a tt refl anew_is_good in
    cc

-- The law says nothing if a choice refuses.
pub refused_by_choice : (why : Error)
    → CopiesGood (alone up_a) (record { refuse = 3; cap = 0 } ∷ []) some_tree (verdict.Refused why ∷ [])
refused_by_choice why i j none there good = absurd (let refuses : 3 ≡ 0 = none.0 in cc)
