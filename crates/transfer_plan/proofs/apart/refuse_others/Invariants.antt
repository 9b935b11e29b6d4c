use Rattle.std.proofs.Common.{◌≡◌, ℕ, List, []}
use Rattle.transfer_plan.specs.Apart.{apart_behind, has_path, is_part, is_target}
use Rattle.transfer_plan.proofs.apart.refuse_others.Given as goal

abbrev pub invariant-loop-found : goal.invariant-loop-found
invariant-loop-found l = record {
  kept : l.kept.items ≡ apart_behind l.fn.jobs.items l.run [] l.yielded;
  taken : (p : List ℕ) → has_path l.taken p ≡ is_target l.yielded p;
  started : (p : List ℕ) → has_path l.started p ≡ is_part l.yielded l.run p;
}
