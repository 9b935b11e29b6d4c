-- How the program ends with a script that three numbers make, and what its words ask for.
use Rattle.std.proofs.Common.{◌≡◌, ℕ, false, true, List, inl, refl, sym, subst}
use Rattle.std.specs.Prelude.{Option, Some, None, Err, IfSome}
use Rattle.sftp_link.specs.Views.{SinkView}
use Rattle.sftp_map_server.specs.Serving.{Serving}
use Rattle.script_grammar.specs.declared.script.Script.{Script}
use Rattle.program_shell.specs.declared.ending.Answered.TheVariants.{Done}
use Rattle.program_shell.specs.declared.ending.ProgramFailure.TheVariants.{OutOfMemory}
use Rattle.program_shell.specs.Ended.{End, EndsAtSink, IsOnlyAnswer}
use Rattle.program_shell.specs.Texts.{answered_of, text_of}
use Rattle.program_shell.proofs.Writing.{at_sink, nothing_new, right_at_sink}
use Rattle.sftp_cli.specs.declared.bulk.Numbers.{Numbers}
use Rattle.sftp_cli.specs.declared.printed.Form.TheVariants as form
use Rattle.sftp_cli.specs.Ended.{EndsSummed, RightSummary}
use Rattle.sftp_cli.specs.Left.{LeavesServer}
use Rattle.sftp_cli.specs.Printed.{IsPrinted}
use Rattle.sftp_cli.specs.Words.{AtPath, Bulk, InMemory, Text, asked_by, bulk_of, help_text, is_script, server_of}

-- ---- a script that three numbers make

pub summary_starved : (script : Script) (kept : Option Serving) (to : SinkView)
    → IfSome kept (LeavesServer script)
    → EndsSummed script (Err OutOfMemory) kept to to
summary_starved script kept to k =
    record {
      writes = record { wrote = inl (nothing_new to.written); cause = refl; only = ((λ e. cc e), (λ e. cc e)) };
      left = k;
    }

-- what is kept is a server of the script, under another name for it
kept_as : (script made : Script) (kept : Option Serving) → made ≡ script
    → IfSome kept (LeavesServer made)
    → IfSome kept (LeavesServer script)
kept_as script made kept is k = subst (λ (s : Script). IfSome kept (LeavesServer s)) is k

pub summary_unwritten : (script made : Script) (kept : Option Serving) (to : SinkView) → made ≡ script
    → IfSome kept (LeavesServer made) → EndsSummed script (Err OutOfMemory) kept to to
summary_unwritten script made kept to is k = summary_starved script kept to (kept_as script made kept is k)

pub summary_answered : (script made : Script) (kept : Option Serving) (text items : List ℕ) (end : End)
    (to to_now : SinkView) → made ≡ script → text ≡ items → IsPrinted form.Summary kept made items
    → IfSome kept (LeavesServer made) → EndsAtSink (IsOnlyAnswer Done text) end to to_now
    → EndsSummed script end kept to to_now
summary_answered script made kept text items end to to_now is same r k w =
    let right : RightSummary kept script Done text = (
      refl,
      subst (λ (s : Script). IsPrinted form.Summary kept s text) is
          (subst (λ (t : List ℕ). IsPrinted form.Summary kept made t) (sym same) r),
    ) in
    let left = kept_as script made kept is k in
    record {
      writes = right_at_sink (RightSummary kept script) Done text end to to_now right w;
      left = at_sink (λ why. IfSome kept (LeavesServer script)) (IsOnlyAnswer Done text) end to to_now w
          left left;
    }

-- ---- what the words ask for

pub asked_script : (words : List (List ℕ)) → is_script words ≡ true → asked_by words ≡ InMemory
asked_script words e = rw e refl

pub asked_path : (words : List (List ℕ)) (path : List ℕ) (seconds : ℕ) → is_script words ≡ false
    → Some (path, seconds) ≡ server_of words → asked_by words ≡ AtPath path seconds
asked_path words path seconds e p = rw (e, ← p) refl

pub asked_bulk : (words : List (List ℕ)) (n : Numbers) → is_script words ≡ false → None ≡ server_of words
    → Some n ≡ bulk_of words → asked_by words ≡ Bulk n
asked_bulk words n e p b = rw (e, ← p, ← b) refl

pub asked_text : (words : List (List ℕ)) → is_script words ≡ false → None ≡ server_of words → None ≡ bulk_of words
    → asked_by words ≡ Text (answered_of words) (text_of help_text words)
asked_text words e p b = rw (e, ← p, ← b) refl
