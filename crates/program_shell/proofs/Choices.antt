-- The choices of a script that was read, and the tree with which its server starts.
use Rattle.std.proofs.Common.{◌≡◌, ◌==◌, ℕ, Bool, true, List, [], ◌∷◌, subst, sym, ap, arith}
use Rattle.std.specs.Prelude.{◌≢◌, not}
use Rattle.std.specs.List.{list_all}
use Rattle.std.proofs.lemmas.Bool.{and_parts}
use Rattle.std.proofs.lemmas.Bool.Decides.{nat_tests}
use Rattle.sftp_model.specs.Numbers.{SSH_FX_EOF}
use Rattle.sftp_model.specs.declared.config.Choice.{Choice}
use Rattle.machine_model.specs.Trees.{IsTree}
use Rattle.machine_model.proofs.FirstTrees.{first_is_tree}
use Rattle.run_laws.specs.Steps.{FeignNoEnd}
use Rattle.script_grammar.specs.CanRun.{CanBegin, CanRun, feigns_no_end}
use Rattle.script_grammar.specs.declared.script.Script.{Script}
use Rattle.sftp_map_server.specs.Serving.{Server, Serving}
use Rattle.program_shell.specs.Ended.{IsServerOf}

is_no_end : (c : Choice) → feigns_no_end c ≡ true → c.refuse ≢ SSH_FX_EOF
is_no_end c e = grind (arith, nat_tests)

feign_no_end : (choices : List Choice) → list_all feigns_no_end choices ≡ true → FeignNoEnd choices
feign_no_end [] e = tt
feign_no_end (c ∷ choices) e =
    let both = and_parts (feigns_no_end c) (list_all feigns_no_end choices) e in
    (is_no_end c both.0, feign_no_end choices both.1)

-- the server of a script from which a run can begin
pub begins_unfeigned : (script : Script) (server : Serving) → CanBegin script → IsServerOf script server
    → FeignNoEnd server.first.state.choices × IsTree server.first.state.machine.tree
begins_unfeigned script server can first = (
  subst (λ (s : Server). FeignNoEnd s.state.choices) (sym first) (feign_no_end script.choices can.unfeigned),
  subst (λ (s : Server). IsTree s.state.machine.tree) (sym first)
      (first_is_tree script.files script.dirs can.begins),
)

pub begins_run : (script : Script) → CanRun script → CanBegin script
begins_run script can = record {
  begins = can.begins;
  known = can.known;
  writes = can.writes;
  unfeigned = can.unfeigned;
}
