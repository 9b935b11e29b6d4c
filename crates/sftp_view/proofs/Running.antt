-- A view over a server that nothing was sent to: its session is served.
use Rattle.std.proofs.Common.{◌≡◌, ◌≤◌, ℕ, suc, true, List, [], ◌∷◌, All, refl, ap, sym, ◌∙◌, subst, arith, inl, inr}
use Rattle.std.specs.Prelude.{Some, Result, Ok, Err, IfOk, Vec, nat_le}
use Rattle.std.specs.declared.alloc.Global.{Global}
use Rattle.std.specs.List.{list_all, sum_by}
use Rattle.std.proofs.lemmas.Bool.{and_parts}
use Rattle.std.proofs.lemmas.Bool.Decides.{nat_tests}
use Rattle.ssh_encoding.specs.declared.out_of_memory.OutOfMemory.{OutOfMemory}
use Rattle.sftp_model.specs.Fits.{FitsNumber}
use Rattle.sftp_model.specs.declared.config.Choice.{Choice}
use Rattle.sftp_model.specs.declared.error.Error.TheVariants as error
use Rattle.sftp_model.specs.declared.options.SftpOptions.{SftpOptions}
use Rattle.machine_model.specs.FitTrees.{IsFit}
use Rattle.sftp_model.specs.Numbers.{SSH_FX_OK}
use Rattle.machine_model.proofs.FirstFits.{first_fits}
use Rattle.session_driver.specs.Logs.{EndsAs}
use Rattle.session_model.specs.Calls.{Setting, calls_added_to}
use Rattle.session_model.specs.Journals.{IsJournal}
use Rattle.session_model.specs.Readings.{answer, outcomes_of}
use Rattle.session_model.specs.Served.{ServesJournal}
use Rattle.session_model.specs.Settings.{version_reply_of, setting_of}
use Rattle.session_model.specs.Shown.{ShowsExchange}
use Rattle.session_model.specs.declared.entry.Entry.{Entry}
use Rattle.sftp_lanes.specs.Seen.{session_inputs}
use Rattle.sftp_map_server.specs.Serving.{ServerState, IsServed, IsServing, Server, Serving, first_state, fresh_server}
use Rattle.sftp_map_server.specs.Unopened.{IsUnopened}
use Rattle.machine_laws.proofs.Numbering.{numbered_by}
use Rattle.machine_laws.proofs.Owing.{due}
use Rattle.machine_laws.proofs.Replying.{AllCodes, greeted_at}
use Rattle.machine_laws.proofs.Serving.{serves_by}
use Rattle.machine_laws.proofs.Showing.{AnswersBy, IsFirst, answers_by, shows_served, shows_version}
use Rattle.machine_laws.proofs.Stopping.{sound_at}
use Rattle.program_shell.specs.Ended.{IsServerOf}
use Rattle.program_shell.proofs.Stopping.{begins_well, from_empty}
use Rattle.view_model.specs.CacheSizes.{IsCacheSize}
use Rattle.view_model.specs.CanView.{CanView, refuses_nothing}
use Rattle.run_laws.specs.Steps.{RefuseNone}
use Rattle.view_model.specs.declared.cache_size.CacheSize.{CacheSize}
use Rattle.view_model.specs.declared.list.ViewList.{ViewList}
use Rattle.view_model.proofs.BoundLaws.{within_viewed}
use Rattle.view_model.proofs.CountLaws.{all_counted}
use Rattle.view_model.specs.Blocks.{nothing_kept}
use Rattle.view_model.specs.Calls.{AreFew, call_limit}
use Rattle.view_model.specs.ViewOps.{are_ok, count, count_limit, is_within}
use Rattle.view_model.specs.declared.op.ViewOp.{ViewOp}
use Rattle.sftp_view.specs.Doings.{one_lane}
use Rattle.sftp_view.specs.Left.{LeavesServer}
use Rattle.sftp_view.specs.Printed.{IsServedView, IsViewed, view_text}
use Rattle.sftp_view.specs.Views.{IsViewReport, MayView, done_in}
use Rattle.sftp_view.specs.declared.run.ViewReport.{ViewReport}
use Rattle.sftp_view.proofs.CalledLaws.{few_called}

-- ---- a server that nothing was sent to

all_codes : (choices : List Choice) → All (λ choice. FitsNumber choice.refuse) choices → AllCodes choices
all_codes [] h = tt
all_codes (c ∷ choices) h = (h 0 c (omega arith), all_codes choices (λ k d lt. h (suc k) d (omega (arith, lt))))

first_is : (first : Server) → IsUnopened first → IsFirst first.state
first_is first new =
    let d : ServerState = first_state new.files new.dirs first.state.machine.config first.state.choices in
    let is : first.state ≡ d = ap (λ (w : Server). w.state) new.is in
    record {
      fresh = ap (λ (w : ServerState). w.greeted) is;
      good = record {
        greeted = refl;
        still = ap (λ (w : ServerState). w.over) is;
        codes = all_codes first.state.choices new.fits.codes;
        limits = new.fits.limits;
        fit = subst (λ (w : ServerState). IsFit w.machine.tree) (sym is) (first_fits new.files new.dirs new.may);
      };
      known = new.fits.known;
    }

-- its log is that of a server from this state on
served_from : (server : Serving) (new : IsUnopened server.first)
    → IsServing server.first server.now server.log server.ended
    → IsServed (fresh_server server.first.state server.first.output.picks) server.log server.now
served_from server new serving =
    let here : server.first ≡ fresh_server server.first.state server.first.output.picks =
    new.is ∙ ap (λ (d : ServerState). fresh_server d server.first.output.picks)
    (sym (ap (λ (w : Server). w.state) new.is)) in
    subst (λ (w : Server). IsServed w server.log server.now) here serving.served

-- ---- a session

at_most : (n m : ℕ) → nat_le n m ≡ true → n ≤ m
at_most n m e = grind (arith, nat_tests)

few_viewed : (block capacity : ℕ) (ops : List ViewOp) (past : List Entry) → MayView block capacity ops
    → calls_added_to past 0 ≡ (done_in block capacity ops past).calls → AreFew call_limit (calls_added_to past 0)
few_viewed block capacity ops past may calls =
    let ok = and_parts (list_all is_within ops) (nat_le (sum_by (count block) ops) count_limit) may.ok in
    let sum = at_most (sum_by (count block) ops) count_limit ok.1 in
    let all = all_counted block ops may.some in
    let w = (within_viewed block capacity ops [] nothing_kept).by (outcomes_of past 0) in
    subst (AreFew call_limit) (sym calls) (record {
      light = w.light;
      few =
          (let x = w.few in omega (arith, x, all, sum));
    })

pub served_view : (size : CacheSize) (ops : List ViewOp) (options : SftpOptions) (old now : Serving) (r : ViewReport)
    → MayView size.block size.capacity ops → IsUnopened old.first → old.log ≡ [] → now.first ≡ old.first
    → IsServing now.first now.now now.log now.ended
    → IsViewReport size.block size.capacity ops options (Some old.log) (Some now.log) r
    → IsServedView size ops options now r
served_view size ops options old now r may new none same serving report =
    let past : List Entry = report.past in
    let s : Setting = setting_of one_lane options report.extensions past in
    let fresh : IsUnopened now.first = subst IsUnopened (sym same) new in
    let shown : ShowsExchange (version_reply_of report.extensions) past [] now.log =
    from_empty (ShowsExchange (version_reply_of report.extensions) past) old.log now.log none report.log in
    let first = first_is now.first fresh in
    let f : ServerState = now.first.state in
    let picks : List ℕ = now.first.output.picks in
    let served = served_from now fresh serving in
    let few = few_called s past refl report.run (few_viewed size.block size.capacity ops past may report.calls) in
    let sound = sound_at one_lane options report.extensions f picks past now.log now.now first refl report.run shown
    served in
    let d : ServerState = greeted_at f in
    let o = shows_served s f picks (version_reply_of report.extensions) past now.log now.now first report.run sound
    shown served in
    let empty : d.machine.grants ≡ 0 = ap (λ (w : Server). w.state.machine.grants) fresh.is in
    let closed : d.machine.tree.handles ≡ [] = ap (λ (w : Server). w.state.machine.tree.handles) fresh.is in
    let by : (p : ℕ) → AnswersBy (answer past p) (due d past p) = λ p. answers_by d past p o.due in
    let serves : ServesJournal f.machine.config f.choices f.machine.tree past now.now.state.machine.tree =
    subst (λ (w : ServerState). ServesJournal f.machine.config f.choices f.machine.tree past w.machine.tree)
    (sym o.owes.state) (serves_by d past empty closed sound by few) in
    record {
      extensions = report.extensions;
      past = past;
      journal = report.journal;
      run = report.run;
      over = report.over;
      version = shows_version f picks (version_reply_of report.extensions) past now.log now.now first shown served;
      shown = shown;
      served = record {
        serves = serves;
        by_picks = o.by_picks;
        numbered = numbered_by d past empty closed sound by few report.over.2;
      };
      calls = report.calls;
      answers = report.answers;
      hits = report.hits;
      misses = report.misses;
      plain = λ unrefused. report.plain f.machine.config f.choices f.machine.tree now.now.state.machine.tree unrefused
          (begins_well now.first fresh) serves;
    }

-- ---- the text

is_unrefused : (choice : Choice) → refuses_nothing choice ≡ true → choice.refuse ≡ SSH_FX_OK
is_unrefused choice e = grind (arith, nat_tests)

unrefused : (choices : List Choice) → list_all refuses_nothing choices ≡ true → RefuseNone choices
unrefused [] e = tt
unrefused (c ∷ choices) e =
    let both = and_parts (refuses_nothing c) (list_all refuses_nothing choices) e in
    (is_unrefused c both.0, unrefused choices both.1)

-- the text of operations that were done over the server of a list
pub is_viewed : (size : CacheSize) (list : ViewList) (ops : List ViewOp) (old now : Serving) (report : ViewReport)
    (r : Result (Vec ℕ Global) OutOfMemory) → CanView size.block list → ops ≡ list.ops → IsServerOf list.script old
    → now.first ≡ old.first → IsServedView size ops list.script.options now report
    → IfOk r (λ text. text.items ≡ view_text report now.now.state.machine.tree)
    → IfOk r (λ text. IsViewed size (Some now) list text.items)
is_viewed size list ops old now report (Err e) can o from same run is = tt
is_viewed size list ops old now report (Ok text) can o from same run is =
    let run_now : IsServedView size list.ops list.script.options now report =
    subst (λ (x : List ViewOp). IsServedView size x list.script.options now report) o run in
    let first : IsServerOf list.script now = same ∙ from in
    record {
      server = now;
      is_kept = refl;
      first = first;
      plain = run_now.plain
          (subst RefuseNone (sym (ap (λ (w : Server). w.state.choices) first))
          (unrefused list.script.choices can.unrefused));
      report = report;
      run = run_now;
      is = is;
    }

-- a list that was read may be viewed
pub may_view : (size : CacheSize) (list : ViewList) (ops : List ViewOp) → ops ≡ list.ops → IsCacheSize size
    → CanView size.block list
    → MayView size.block size.capacity ops
may_view size list ops same fits can = record {
  some = fits.some;
  short = fits.short;
  any = fits.any;
  ok = ap (λ (w : List ViewOp). are_ok size.block w) same ∙ can.ok;
}

-- ---- the server that is left

pub reported_leaves : (size : CacheSize) (list : ViewList) (ops : List ViewOp) (old now : Serving)
    (report : ViewReport) → ops ≡ list.ops → IsServerOf list.script old → now.first ≡ old.first
    → IsServedView size ops list.script.options now report → LeavesServer size list now
reported_leaves size list ops old now report o first same run = record {
  first = same ∙ first;
  ran = inl (report, subst (λ (x : List ViewOp). IsServedView size x list.script.options now report) o run);
}

pub stopped_leaves : (size : CacheSize) (list : ViewList) (old now : Serving) → IsServerOf list.script old
    → now.first ≡ old.first
    → EndsAs (session_inputs one_lane list.script.options) IsJournal now.ended error.OutOfMemory [] now.log
    → LeavesServer size list now
stopped_leaves size list old now first same stops = record { first = same ∙ first; ran = inr stops }
