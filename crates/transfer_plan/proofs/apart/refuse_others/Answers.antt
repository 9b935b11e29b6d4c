use Rattle.std.proofs.Common.{◌∙◌, ◌&&◌, ◌||◌, ◌++◌, List, [], ◌∷◌, ap, sym}
use Rattle.std.specs.Str.{bytes_eq}
use Rattle.transfer_plan.specs.Apart.{apart_behind}
use Rattle.transfer_plan.specs.Cuts.{part_of}
use Rattle.transfer_plan.specs.Jobs.{is_file}
use Rattle.transfer_plan.proofs.ApartLaws.{among_apart, behind_more, part_more, target_more}
use Rattle.transfer_plan.specs.declared.found.Found.{Found}
use Rattle.transfer_plan.specs.declared.task.Task.{Task}
use Rattle.transfer_plan.proofs.apart.refuse_others.Goals as goal

pub loop-found-preserved : goal.loop-found-preserved
loop-found-preserved c =
    let jobs = c.args.jobs.items in
    let run = c.args.run.now in
    let before = c.loop-found.yielded in
    let found = c.in-Some.found in record {
      kept = c.in_ok-push.ensures.items
          ∙ (ap (λ (l : List Found). l ++ record found { task = c.in_ok-task.task } ∷ []) c.loop-found.invariant.kept
          ∙ (ap (λ (t : Task). apart_behind jobs run [] before ++ record found { task = t } ∷ [])
          (c.in_ok-task.ensures.task
          ∙ among_apart jobs before run c.args.parts.now c.loop-found.taken c.loop-found.started found c.requires
          c.loop-found.invariant.taken c.loop-found.invariant.started)
          ∙ sym (behind_more jobs run [] before found)));
      taken = λ p. c.in_ok-task.ensures.takes p
          ∙ (ap (λ b. b || (is_file found.task && bytes_eq p found.target)) (c.loop-found.invariant.taken p)
          ∙ sym (target_more before found p));
      started = λ p. c.in_ok-task.ensures.starts p
          ∙ (ap (λ b. b || (is_file found.task && bytes_eq p (part_of found.target run)))
          (c.loop-found.invariant.started p) ∙ sym (part_more before run found p));
    }
