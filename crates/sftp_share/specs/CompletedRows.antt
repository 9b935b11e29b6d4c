-- Worked statuses for bytes that read as a script, and for bytes that don't.
use Rattle.std.specs.Prelude.{Ok, Err, refl}
use Rattle.std.proofs.Common.{inl, inr}
use Rattle.program_shell.specs.Completed.{EndsFor}
use Rattle.script_words.specs.declared.reason.Reason.TheVariants as reason
use Rattle.script_grammar.specs.declared.script.Script.{Script}
use Rattle.sftp_share.specs.Completed.{IsSharedStatus}

-- A script for which the replay of the run serves, that an error stopped, or for which the replay differs.
pub script_by_0 : (script : Script) → EndsFor IsSharedStatus (Ok script) 0
script_by_0 script = inl refl

pub script_by_1 : (script : Script) → EndsFor IsSharedStatus (Ok script) 1
script_by_1 script = inr (inl refl)

pub script_by_7 : (script : Script) → EndsFor IsSharedStatus (Ok script) 7
script_by_7 script = inr (inr refl)

-- Line 3 has no word of a script.
pub refusal_by_2 : EndsFor {T = Script} IsSharedStatus (Err (3, reason.Word)) 2
refusal_by_2 = refl
