-- A script fixes what is written for it.
use Rattle.std.proofs.Common.{◌≡◌, ℕ, List, ◌++◌, filter, length, ap, sym, ◌∙◌, subst}
use Rattle.std.specs.Prelude.{Option}
use Rattle.std.specs.List.{sum_by}
use Rattle.sftp_model.specs.declared.outcome.Outcome.{Outcome}
use Rattle.machine_model.specs.FileTree.{FileTree}
use Rattle.machine_model.specs.Listing.{has_file}
use Rattle.plan_model.specs.declared.call.Lane.{Lane}
use Rattle.session_model.specs.declared.entry.Entry.{Entry}
use Rattle.session_model.specs.declared.event.Event.{Event}
use Rattle.session_model.specs.declared.report.Report.{Report}
use Rattle.session_model.specs.Readings.{outcomes_below, count_sent, trace_of}
use Rattle.script_text.specs.Texts.{dir_lines, file_lines, frame_lines, lane_lines, text_of, text_with_files}
use Rattle.script_text.specs.Traces.{journal_of}
use Rattle.script_text.proofs.TraceLaws.{trace_text}
use Rattle.sftp_cli.proofs.Sending.{trace_sent}
use Rattle.sftp_cli.specs.Summary.{count_in, capped_at_u64, requests_in, summary_text}
use Rattle.sftp_cli.specs.declared.kind.Kind.TheVariants as kind
use Rattle.run_laws.proofs.Alike.{Same, read}
use Rattle.run_laws.proofs.Lines.{placed_lines}
use Rattle.run_laws.proofs.Placed.{placed_sent}
use Rattle.sftp_model.specs.declared.flags.Extensions.{Extensions}
use Rattle.sftp_model.specs.declared.reply.Reply.{Reply}
use Rattle.sftp_model.specs.declared.reply.Reply.TheVariants as reply
use Rattle.machine_model.specs.FirstTree.{first_tree}
use Rattle.script_grammar.specs.declared.script.Script.{Script}
use Rattle.session_model.specs.Served.{IsPicked, ServesJournal}
use Rattle.session_model.specs.Settings.{version_reply_of}
use Rattle.run_laws.specs.Fixed.{IsFixedBy}
use Rattle.run_laws.proofs.OneText.{one_outcomes, one_run}
use Rattle.sftp_map_server.specs.Serving.{Server, Serving, version_reply}
use Rattle.sftp_cli.specs.declared.printed.Form.{Form}
use Rattle.sftp_cli.specs.declared.printed.Form.TheVariants as form
use Rattle.sftp_cli.specs.Printed.{IsPrinted, bytes_left, report_text}

-- the extensions of a greeting
abbrev told : Reply → Extensions
told (reply.Version version extensions) = extensions
told other = record { 0 = 0 }

one_greeting : (a b : Extensions) (r : Reply) → version_reply_of a ≡ r → version_reply_of b ≡ r → a ≡ b
one_greeting a b r e f = ap told (e ∙ sym f)

-- the run of a text, by what the script gives
fixed_by : (form : Form) (script : Script) (kept : Option Serving) (text : List ℕ)
    → (p : IsPrinted form kept script text)
    → IsFixedBy script.lanes script.options p.run.extensions script.turns script.server script.choices script.picks
    (first_tree script.files script.dirs) p.run.past p.server.now.state.machine.tree
fixed_by form script kept text p = record {
  run = p.run.run;
  served = subst (λ (f : Server). ServesJournal f.state.machine.config f.state.choices f.state.machine.tree p.run.past
      p.server.now.state.machine.tree) p.first p.run.served.serves;
  picked = subst (λ (f : Server). IsPicked f.output.picks p.run.past) p.first p.run.served.by_picks;
  numbered = p.run.served.numbered;
}

-- what the server told of itself is what the script's server tells
told_by : (form : Form) (script : Script) (kept : Option Serving) (text : List ℕ)
    → (p : IsPrinted form kept script text)
    → version_reply_of p.run.extensions ≡ version_reply script.server
told_by form script kept text p = p.run.version ∙ ap (λ (x : Server). version_reply x.state.machine.config) p.first

-- ---- what is written of a report is fixed by its run

-- the lines of a report are those of its journal
lines_told : (past : List Entry) (trace : List Event) (outcomes : List (List Outcome)) (tree : FileTree) → trace
    ≡ trace_of past
    → text_with_files (journal_of trace) outcomes tree ≡ text_with_files past outcomes tree
lines_told past trace outcomes tree is =
    ap (λ (l : List ℕ). l ++ file_lines tree ++ dir_lines tree)
    (ap (λ t. text_of (journal_of t) outcomes) is ∙ trace_text past outcomes)

-- the numbers of a report, by how many requests were sent
numbers_text : ℕ → List (List Outcome) → FileTree → List ℕ
numbers_text requests outcomes tree = summary_text (record {
  lanes = length outcomes;
  calls = capped_at_u64 (sum_by length outcomes);
  requests = requests;
  done = count_in kind.Done outcomes;
  read = count_in kind.Read outcomes;
  meta = count_in kind.Meta outcomes;
  refused = count_in kind.Refused outcomes;
  files = length (filter has_file tree.names);
  bytes = bytes_left tree;
})

report_fixed : (form : Form) (lanes : List Lane) (a b : Report) (past other : List Entry) (left left_other : FileTree)
    → a.trace ≡ trace_of past → a.outcomes ≡ outcomes_below past (length lanes)
    → b.trace ≡ trace_of other → b.outcomes ≡ outcomes_below other (length lanes)
    → Same past other → left ≡ left_other → report_text form a left ≡ report_text form b left_other
unfolding numbers_text
report_fixed form.Whole lanes a b past other left left_other ta oa tb ob same tree =
    let frames = read frame_lines placed_lines past other same in
    let outcomes = oa ∙ (one_outcomes lanes past other same ∙ sym ob) in
    let written : text_with_files past a.outcomes left ≡ text_with_files other b.outcomes left_other =
    λ i. (frames i ++ lane_lines 0 (outcomes i)) ++ file_lines (tree i) ++ dir_lines (tree i) in
    lines_told past a.trace a.outcomes left ta ∙ (written ∙ sym (lines_told other b.trace b.outcomes left_other tb))
report_fixed form.Summary lanes a b past other left left_other ta oa tb ob same tree =
    let outcomes = oa ∙ (one_outcomes lanes past other same ∙ sym ob) in
    let requests : requests_in a.trace ≡ requests_in b.trace =
    ap requests_in ta ∙ (trace_sent past ∙ (read count_sent placed_sent past other same
    ∙ (sym (trace_sent other) ∙ sym (ap requests_in tb)))) in
    λ i. numbers_text (requests i) (outcomes i) (tree i)

pub one_text : (form : Form) (script : Script) (one other : Option Serving) (text same : List ℕ)
    → IsPrinted form one script text → IsPrinted form other script same → text ≡ same
one_text form script one other text same p q =
    let both : p.run.extensions ≡ q.run.extensions =
    one_greeting p.run.extensions q.run.extensions _ (told_by form script one text p) (told_by form script other same q)
    in
    let second = subst (λ (e : Extensions). IsFixedBy script.lanes script.options e script.turns script.server
    script.choices script.picks (first_tree script.files script.dirs) q.run.past q.server.now.state.machine.tree)
    (sym both) (fixed_by form script other same q) in
    let run = one_run script.lanes script.options p.run.extensions script.turns script.server script.choices
    script.picks
    (first_tree script.files script.dirs) p.run.past p.server.now.state.machine.tree q.run.past
    q.server.now.state.machine.tree (fixed_by form script one text p) second in
    p.is ∙ (report_fixed form script.lanes p.report q.report p.run.past q.run.past p.server.now.state.machine.tree
    q.server.now.state.machine.tree p.run.trace p.run.outcomes q.run.trace q.run.outcomes run.0 run.1 ∙ sym q.is)
