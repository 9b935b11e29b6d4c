-- Over a server whose choices refuse nothing, operations are answered what the files alone give.
use Rattle.std.proofs.Common.{◌≡◌, ◌≤◌, ℕ, true, List, [], Option, Some, None, ap, sym, ◌∙◌, subst, arith}
use Rattle.std.specs.List.{list_all}
use Rattle.std.proofs.lemmas.List.{append-nil}
use Rattle.sftp_model.specs.Lengths.{session_len}
use Rattle.sftp_model.specs.declared.flags.Extensions.{Extensions}
use Rattle.sftp_model.specs.declared.options.SftpOptions.{SftpOptions}
use Rattle.sftp_model.specs.declared.outcome.Outcome.{Outcome}
use Rattle.machine_model.specs.FileTree.{FileTree}
use Rattle.plan_model.specs.declared.call.Call.{Call}
use Rattle.plan_model.specs.declared.call.Lane.{Lane}
use Rattle.session_model.specs.Calls.{Setting, calls_added_to}
use Rattle.session_model.specs.Journals.{IsJournal, IsOver}
use Rattle.session_model.specs.Readings.{outcomes_of}
use Rattle.session_model.specs.Settings.{setting_of}
use Rattle.session_model.specs.declared.entry.Entry.{Entry}
use Rattle.run_laws.specs.Steps.{RefusesNone, RunOf}
use Rattle.run_laws.proofs.ServedSteps.{none_refused, run_chosen, run_of}
use Rattle.view_model.specs.Blocks.{nothing_kept}
use Rattle.view_model.specs.Kept.{Keys}
use Rattle.view_model.specs.Viewed.{view_all}
use Rattle.view_model.specs.ViewOps.{is_within}
use Rattle.view_model.specs.declared.op.ViewOp.{ViewOp}
use Rattle.view_laws.specs.FileCalls.{AllDid, FilesAt, at_rest}
use Rattle.view_laws.specs.Plainly.{IsPlainThere}
use Rattle.view_model.specs.Uncancelled.{IsUncancelled}
use Rattle.view_laws.proofs.JournalDid.{IsServedBy, journal_did}
use Rattle.view_laws.proofs.JournalEnds.{all_sent}
use Rattle.view_laws.proofs.JournalSteps.{only_lane}
use Rattle.view_laws.proofs.ViewedLaws.{plain_leaves, viewed_plainly}

len_some : (most : Option ℕ) (len : ℕ) → 1 ≤ session_len most len
len_some None len = omega arith
len_some (Some most) len = omega arith

-- Of a journal that a file machine serves by such choices, what the operations make of its calls' outcomes is what the
-- files alone give.
pub plainly : (s : Setting) (past : List Entry) (block capacity : ℕ) (ops : List ViewOp) → s.lanes ≡ only_lane
    → 1 ≤ s.facts.read_len → 1 ≤ s.facts.write_len
    → IsJournal s past → IsOver s past → IsUncancelled past → 1 ≤ block → block ≤ 65536 → list_all is_within ops ≡ true
    → calls_added_to past 0 ≡ (view_all block capacity ops (outcomes_of past 0)).calls
    → IsPlainThere block capacity s.facts.write_len ops past (view_all block capacity ops
    (outcomes_of past 0)).value.answers
    (view_all block capacity ops (outcomes_of past 0)).value.kept.hits
    (view_all block capacity ops (outcomes_of past 0)).value.kept.misses
plainly s past block capacity ops lanes reads writes j over quiet some short within calls config choices tree left
    unrefused well serves =
    let run : RunOf config choices tree past left = run_of config choices tree past left serves in
    let len : ℕ = s.facts.write_len in
    let outcomes : List Outcome = outcomes_of past 0 in
    let by : IsServedBy s config tree run.steps past = record {
      lanes = lanes;
      reads = reads;
      writes = writes;
      run = j;
      uncancelled = quiet;
      asks = run.asks ∙ all_sent s past j over.2;
      served = run.served;
      chosen = run_chosen RefusesNone config choices tree past left serves (none_refused choices unrefused);
    } in
    let did : AllDid len (at_rest tree) (calls_added_to past 0) outcomes left =
    subst (λ (t : FileTree). AllDid len (at_rest tree) (calls_added_to past 0) outcomes t) (sym run.leaves)
    (journal_did s config tree run.steps past by over) in
    let goes = (viewed_plainly len block capacity some short ops tree [] nothing_kept within well tt).by outcomes []
    left
    (subst (λ (w : List Call). AllDid len (at_rest tree) w outcomes left)
    (calls ∙ sym (append-nil (view_all block capacity ops outcomes).calls)) did) in
    let mid : FilesAt = goes.0 in
    let v = goes.1.0 in
    record {
      answers_are = v.answers_are;
      hits_are = ap (λ (k : Keys). k.hits) v.keys_are;
      misses_are = ap (λ (k : Keys). k.misses) v.keys_are;
      left_is = sym (goes.1.1 (ap (λ (m : FilesAt). m.slot) v.now_is))
          ∙ (ap (λ (m : FilesAt). m.tree) v.now_is ∙ plain_leaves len block capacity some short ops tree well);
    }

-- the same, of a session of one lane
pub view_plainly : (s : Setting) (lanes : List Lane) (options : SftpOptions) (extensions : Extensions)
    (past : List Entry) (block capacity : ℕ) (ops : List ViewOp)
    → s ≡ setting_of lanes options extensions past → lanes ≡ only_lane → IsJournal s past → IsOver s past
    → IsUncancelled past
    → 1 ≤ block → block ≤ 65536 → list_all is_within ops ≡ true → calls_added_to past 0
    ≡ (view_all block capacity ops (outcomes_of past 0)).calls
    → IsPlainThere block capacity s.facts.write_len ops past (view_all block capacity ops
    (outcomes_of past 0)).value.answers
    (view_all block capacity ops (outcomes_of past 0)).value.kept.hits
    (view_all block capacity ops (outcomes_of past 0)).value.kept.misses
view_plainly s lanes options extensions past block capacity ops fixed one =
    plainly s past block capacity ops (ap (λ (x : Setting). x.lanes) fixed ∙ one)
    (subst (λ (x : Setting). 1 ≤ x.facts.read_len) (sym fixed) (len_some options.max_read_len _))
    (subst (λ (x : Setting). 1 ≤ x.facts.write_len) (sym fixed) (len_some options.max_write_len _))
