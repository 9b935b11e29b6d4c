-- A view over a link.
use Rattle.std.proofs.Common.{
  ◌≡◌,
  ◌≤◌,
  ◌<◌,
  ◌+◌,
  ◌*◌,
  ◌-◌,
  ◌^◌,
  ℕ,
  Bool,
  true,
  false,
  List,
  [],
  ◌∷◌,
  ◌++◌,
  length,
  None,
  refl,
  ap,
  sym,
  ◌∙◌,
  subst,
  arith,
  inl,
  inr,
}
use Rattle.std.specs.Prelude.{Option, Ok, Err, ◌&&◌, nat_le}
use Rattle.std.specs.List.{list_all, sum_by}
use Rattle.std.proofs.lemmas.Bool.Decides.{nat_tests}
use Rattle.std.proofs.lemmas.List.{append-nil}
use Rattle.std.proofs.lemmas.List.Sums.{sum_by-cons}
use Rattle.sftp_model.specs.declared.error.Error.{Error}
use Rattle.sftp_model.specs.declared.error.Error.TheVariants as error
use Rattle.sftp_model.specs.declared.outcome.Outcome.{Outcome}
use Rattle.sftp_model.specs.declared.options.SftpOptions.{SftpOptions}
use Rattle.sftp_link.specs.Told.{IfLogged}
use Rattle.sftp_link.specs.Views.{LinkView}
use Rattle.sftp_link.proofs.Telling.{told_as}
use Rattle.plan_model.specs.declared.call.Call.{Call}
use Rattle.plan_model.specs.declared.call.Lane.{Lane}
use Rattle.session_model.specs.declared.entry.Entry.{Entry}
use Rattle.session_model.specs.Calls.{Setting, calls_added_to, current}
use Rattle.session_model.specs.Journals.{IsJournal}
use Rattle.session_model.specs.Readings.{outcomes_of}
use Rattle.session_model.specs.Runs.{OpensSession}
use Rattle.session_driver.specs.Logs.{EndsAs, ShowsJournal, even}
use Rattle.session_driver.specs.Ongoing.{RunState, HasStopped, RunsPart, StoppedOpen, run_state}
use Rattle.session_driver.specs.RunsSoFar.{OpensSoFar}
use Rattle.session_driver.specs.Session.{SessionInputs, IsFixed, IsLater, IsOpened, IsSoFar, SessionView}
use Rattle.session_driver.proofs.Joining.{join, setting_stays}
use Rattle.session_driver.proofs.Journals.{later_on}
use Rattle.session_driver.proofs.Rounds.{opened_holds}
use Rattle.session_driver.proofs.Settled.{still_fixed}
use Rattle.session_driver.proofs.Stopping.{ends_by, shown_stop, shows_on}
use Rattle.session_driver.proofs.Whole.{is_ready}
use Rattle.link_frames.specs.Causes.{IsCausedByLink}
use Rattle.link_frames.proofs.Joining.{caused_on, same_caused}
use Rattle.view_model.specs.Blocks.{Kept, nothing_kept}
use Rattle.view_model.specs.Calls.{AreFew, call_limit}
use Rattle.view_model.specs.Viewed.{Doing, Made, Viewed, after_calls, pure, view_all, viewed_from}
use Rattle.view_model.specs.ViewOps.{count, count_limit, is_within}
use Rattle.view_model.specs.declared.answer.Answer.{Answer}
use Rattle.view_model.specs.declared.op.ViewOp.{ViewOp}
use Rattle.view_model.specs.declared.op.ViewOp.TheVariants as op
use Rattle.view_model.proofs.BoundLaws.{within_viewed}
use Rattle.view_model.proofs.CountLaws.{all_counted}
use Rattle.view_model.specs.Uncancelled.{IsUncancelled}
use Rattle.view_laws.specs.Plainly.{IsPlainThere}
use Rattle.view_laws.proofs.PlainLaws.{view_plainly}
use Rattle.sftp_view.specs.declared.ops.View.{View}
use Rattle.sftp_lanes.specs.Seen.{seen_of}
use Rattle.sftp_view.specs.Closing.{ClosesOrStops}
use Rattle.sftp_view.specs.Doings.{DoesCalls, IsIdle, MayDo, going_on, one_lane}
use Rattle.sftp_view.specs.Operations.{MayRunAll, done_by, left_by, most}
use Rattle.view_model.specs.Caches.{CacheValue}
use Rattle.sftp_view.specs.Views.{IsDone, IsNewView, MayView, ViewsFiles, done_in}
use Rattle.sftp_view.specs.Working.{DoesByView, count_lookups}
use Rattle.sftp_view.proofs.OneCall.{later_journal}

-- ---- what is done by the outcomes

done_is : (whole : Doing Viewed) (v : Viewed) (a b : List Entry) → calls_added_to a 0 ≡ [] → outcomes_of a 0 ≡ []
    → DoesCalls whole (pure v) a b
    → whole (outcomes_of b 0) ≡ after_calls (calls_added_to b 0) (pure v [])
done_is whole v a b none before d =
    let calls : calls_added_to b 0 ≡ d.made = d.calls ∙ ap (λ (w : List Call). w ++ d.made) none in
    let came : outcomes_of b 0 ≡ d.came ++ [] = d.outcomes ∙ (ap (λ (w : List Outcome). w ++ d.came) before
    ∙ sym (append-nil d.came)) in
    ap whole came ∙ (d.comes.by [] ∙ ap (λ (w : List Call). after_calls w (pure v [])) (sym calls))

-- ---- the opening

pub record Begins (s : Setting) (past : List Entry) : Type 0 where
  pub done : current s past 0 ≡ None
  pub none : calls_added_to past 0 ≡ []
  pub before : outcomes_of past 0 ≡ []
  pub uncancelled : IsUncancelled past

no_calls : (s : Setting) (past : List Entry) (b : Bool) → s.lanes ≡ one_lane → OpensSession b past → Begins s past
no_calls s past false lanes is = subst (Begins s) (sym is) (record
    { done = ap first_of lanes; none = refl; before = refl; uncancelled = tt })
  where
    first_of : List Lane → Option Call
    first_of ws = current (record s { lanes = ws }) [] 0
no_calls s past true lanes to = subst (Begins s) (sym to.1.1.2)
    (record {
      done = ap (λ (ws : List Lane). current (record s { lanes = ws }) [] 0) lanes;
      none = refl;
      before = refl;
      uncancelled = tt;
    })

lanes_are : (given : SessionInputs) (now : SessionView) → IsOpened given now → given.lanes ≡ one_lane
    → now.setting.lanes ≡ one_lane
lanes_are given now opened one = ap (λ (s : Setting). s.lanes) opened.fixed.1.1 ∙ one

begun_with : (given : SessionInputs) (now : SessionView) → IsOpened given now → given.lanes ≡ one_lane
    → Begins now.setting now.progress.past
begun_with given now opened one = no_calls now.setting now.progress.past now.setting.limits
    (lanes_are given now opened one) opened.opens

module _ {S : Type 0} where
  opened_idle : (given : SessionInputs) (a : RunState S) (x : LinkView S) (u : Unit {0}) → x.faults < 2 ^ 64 - 1
      → IsOpened given a.seen → given.lanes ≡ one_lane
      → IsCausedByLink x a.link (Ok u) → IsIdle a
  opened_idle given a x u few opened one caused = record {
    ready = is_ready a x u given few opened caused;
    lanes = lanes_are given a.seen opened one;
    run = later_journal a.seen.setting [] a.seen.progress.past tt opened.later;
    done = (begun_with given a.seen opened one).done;
    held = opened_holds a.seen.setting.limits a.seen.progress.past opened.opens;
  }

-- ---- the operations may be done

split_ok : (a b : Bool) → a && b ≡ true → (a ≡ true) × (b ≡ true)
split_ok true b e = (refl, e)
split_ok false b e = absurd cc

at_most : (n m : ℕ) → nat_le n m ≡ true → n ≤ m
at_most n m e = grind (arith, nat_tests)

each_counts : (block : ℕ) (o : ViewOp) → 12 ≤ count block o
each_counts block (op.Get path offset len) = omega arith
each_counts block (op.Put path offset content) = omega arith

ops_counted : (block : ℕ) (ops : List ViewOp) → 12 * length ops ≤ sum_by (count block) ops
ops_counted block [] = omega arith
ops_counted block (o ∷ ops) =
    let one = each_counts block o in
    let rest = ops_counted block ops in
    let sum = sum_by-cons (count block) o ops in
    omega (arith, one, rest, sum)

few_calls : (block capacity : ℕ) (ops : List ViewOp) (kept : Kept (List ℕ)) (past : List Entry) → 1 ≤ block
    → sum_by (count block) ops ≤ count_limit
    → calls_added_to past 0 ≡ [] → MayDo (viewed_from block capacity ops [] kept) past
few_calls block capacity ops kept past some few none =
    record {
      few = λ outcomes. subst (λ (w : List Call). AreFew call_limit
          (w ++ (viewed_from block capacity ops [] kept outcomes).calls)) (sym none)
          (let w = (within_viewed block capacity ops [] kept).by outcomes in
          record {
            light = w.light;
            few = (let x = w.few in let y = all_counted block ops some in
                omega (arith, x, y, few));
          });
    }

module _ {S : Type 0} where
  pub may_all : (given : SessionInputs) (ops : List ViewOp) (old mid : View) (x y : LinkView S) (u : Unit {0})
      → x.faults < 2 ^ 64 - 1
      → IsOpened given (seen_of mid.session) → given.lanes ≡ one_lane → IsCausedByLink x y (Ok u) → mid.block
      ≡ old.block → mid.cache ≡ old.cache
      → old.cache.kept ≡ nothing_kept → MayView old.block old.cache.capacity ops → MayRunAll ops mid y
  may_all given ops old mid x y u few opened one caused same kept none may =
      let ok = split_ok (list_all is_within ops) (nat_le (sum_by (count old.block) ops) count_limit) may.ok in
      let sum = at_most (sum_by (count old.block) ops) count_limit ok.1 in
      let long = ops_counted old.block ops in
      let zero : count_lookups mid.cache ≡ 0 = ap count_lookups kept
      ∙ ap (λ (k : Kept (List ℕ)). k.hits + k.misses) none in
      record {
        idle = opened_idle given (run_state (seen_of mid.session) y) x u few opened one caused;
        may = few_calls mid.block mid.cache.capacity ops mid.cache.kept (seen_of mid.session).progress.past
            (subst (λ (n : ℕ). 1 ≤ n) (sym same) may.some)
            (subst (λ (n : ℕ). sum_by (count n) ops ≤ count_limit) (sym same) sum)
            (begun_with given (seen_of mid.session) opened one).none;
        within = ok.0;
        some = subst (λ (n : ℕ). 1 ≤ n) (sym same) may.some;
        short = subst (λ (n : ℕ). n ≤ 65536) (sym same) may.short;
        counts = omega (arith, sum, long, zero);
      }

  -- ---- it stopped

  journal_stops : (such : Setting → List Entry → Type 0) (before now : RunState S) (e : Error)
      → HasStopped such before now e → HasStopped IsJournal before now e
  journal_stops such before now e (inl h) = inl h
  journal_stops such before now e (inr w) = inr (record {
    past = w.past;
    is = later_journal now.seen.setting [] w.past tt w.so_far.0;
    so_far = w.so_far;
    same = w.same;
    ahead = w.ahead;
    log = w.log;
  })

  -- in the opening
  pub unopened : (block capacity : ℕ) (ops : List ViewOp) (before now : RunState S) (kept : Kept (List ℕ)) (e : Error)
      {T : Type 0}
      → HasStopped (λ s. OpensSoFar s.limits) before now e → IsCausedByLink {T = T} before.link now.link (Err e)
      → ViewsFiles block capacity ops before now kept (Err e)
  unopened block capacity ops before now kept e left caused = record {
    done = tt;
    left = journal_stops (λ s. OpensSoFar s.limits) before now e left;
    caused = same_caused before.link now.link e caused;
  }

  -- after it
  left_on : (before a c : RunState S) (e : Error) → IsOpened before.seen.given a.seen
      → IfLogged (ShowsJournal a.seen.version a.seen.progress.past) before.link.log a.link.log
      → RunsPart going_on a c (Err e) → StoppedOpen IsJournal before c e
  left_on before a c e opened shows part =
      let stopped = part.stopped in
      let far : IsSoFar before.seen.given c.seen.version c.seen.setting stopped.past =
      subst (λ (w : SessionView). IsSoFar before.seen.given w.version w.setting stopped.past) (sym stopped.holds) (
        later_on a.seen.setting [] a.seen.progress.past stopped.past opened.later stopped.is.later,
        still_fixed before.seen.given a.seen.version a.seen.progress.past stopped.past a.seen.setting opened.fixed
            opened.opens stopped.is.later,
      ) in
      record {
        past = stopped.past;
        is = later_journal c.seen.setting [] stopped.past tt far.0;
        so_far = far;
        same = ap (λ (w : SessionView). w.given) stopped.holds ∙ opened.same;
        ahead = stopped.ahead;
        log = shown_stop a.seen.version c.seen.version a.seen.progress.past stopped.past c.link.ended e before.link.log
            a.link.log c.link.log
            (ap (λ (w : SessionView). w.version) stopped.holds) shows stopped.log;
      }

  pub view_stopped : (block capacity : ℕ) (ops : List ViewOp) (before a c : RunState S) (kept : Kept (List ℕ))
      (e : Error) {u : Unit {0}}
      → IsOpened before.seen.given a.seen → IfLogged (ShowsJournal a.seen.version a.seen.progress.past) before.link.log
      a.link.log → IsCausedByLink before.link a.link (Ok u)
      → RunsPart going_on a c (Err e) → ViewsFiles block capacity ops before c kept (Err e)
  view_stopped block capacity ops before a c kept e {u = u} opened shows caused part = record {
    done = tt;
    left = inr (left_on before a c e opened shows part);
    caused = same_caused before.link c.link e (caused_on before.link a.link c.link u (Err e) caused part.caused);
  }

  pub close_stopped : (block capacity : ℕ) (ops : List ViewOp) (before a b c : RunState S) (kept : Kept (List ℕ))
      (e : Error) {u v : Unit {0}}
      → IsOpened before.seen.given a.seen → IfLogged (ShowsJournal a.seen.version a.seen.progress.past) before.link.log
      a.link.log → IsCausedByLink before.link a.link (Ok u)
      → RunsPart going_on a b (Ok v) → ClosesOrStops b c (Err e) → ViewsFiles block capacity ops before c kept (Err e)
  close_stopped block capacity ops before a b c kept e opened shows caused first second =
      view_stopped block capacity ops before a c kept e opened shows caused
      (join {r = going_on} (λ u v. tt) (λ u past v. tt) first second.ongoing)

  -- ---- it is over

  ok_caused : {T U : Type 0} (x y : LinkView S) (t : T) (u : U) → IsCausedByLink x y (Ok t) → IsCausedByLink x y (Ok u)
  ok_caused x y t u c = record { cause = c.cause; end = tt; only = tt; service = c.service }

  pub view_done : (ops : List ViewOp) (before : RunState S) (mid new : View) (c : RunState S) (y z : LinkView S)
      (answers : List Answer) {u : Unit {0}}
      → IsOpened before.seen.given (seen_of mid.session) → before.seen.given.lanes ≡ one_lane
      → IfLogged (ShowsJournal (seen_of mid.session).version (seen_of mid.session).progress.past) before.link.log y.log
      → IsCausedByLink before.link y (Ok u)
      → mid.cache.kept ≡ nothing_kept → DoesByView (done_by ops mid) (λ l. left_by l new) (most ops) mid y new z
      (Ok answers)
      → ClosesOrStops (run_state (seen_of new.session) z) c (Ok tt) → MayView mid.block mid.cache.capacity ops
      → ViewsFiles mid.block mid.cache.capacity ops before c new.cache.kept (Ok answers)
  view_done ops before mid new c y z answers {u = u} opened one shows caused none work closes may =
      let a : RunState S = run_state (seen_of mid.session) y in
      let b : RunState S = run_state (seen_of new.session) z in
      let all : RunsPart going_on a c (Ok tt) = join {r = going_on} (λ u v. tt) (λ u past v. tt) work.runs.ongoing
      closes.ongoing in
      let first : Begins a.seen.setting a.seen.progress.past = begun_with before.seen.given a.seen opened one in
      let v : Viewed = record { answers = answers; kept = new.cache.kept } in
      let whole : view_all mid.block mid.cache.capacity ops (outcomes_of b.seen.progress.past 0)
      ≡ after_calls (calls_added_to b.seen.progress.past 0) (pure v []) =
      ap (λ (k : Kept (List ℕ)). viewed_from mid.block mid.cache.capacity ops [] k (outcomes_of b.seen.progress.past 0))
      (sym none)
      ∙ done_is (done_by ops mid) v a.seen.progress.past b.seen.progress.past first.none first.before work.runs.does in
      let is : done_in mid.block mid.cache.capacity ops c.seen.progress.past
      ≡ after_calls (calls_added_to c.seen.progress.past 0) (pure v []) =
      ap (view_all mid.block mid.cache.capacity ops) closes.closed.ends
      ∙ (whole ∙ ap (λ (w : List Call). after_calls w (pure v [])) (sym closes.closed.adds)) in
      let fixed : IsFixed before.seen.given c.seen.version c.seen.progress.past c.seen.setting =
      subst (λ (w : SessionView). IsFixed before.seen.given w.version c.seen.progress.past w.setting)
      (sym all.went.stays)
      (still_fixed before.seen.given a.seen.version a.seen.progress.past c.seen.progress.past a.seen.setting
      opened.fixed opened.opens all.went.later) in
      let calls : calls_added_to c.seen.progress.past 0 ≡ (done_in mid.block mid.cache.capacity ops
      c.seen.progress.past).calls =
      sym (ap (λ (m : Made Viewed). m.calls) is ∙ append-nil (calls_added_to c.seen.progress.past 0)) in
      let within = split_ok (list_all is_within ops) (nat_le (sum_by (count mid.block) ops) count_limit) may.ok in
      record {
        done = record {
          run = closes.closed.run;
          over = closes.closed.over;
          later = subst (λ (s : Setting). IsLater s [] c.seen.progress.past)
              (sym (setting_stays a.seen c.seen all.went.stays))
              (later_on a.seen.setting [] a.seen.progress.past c.seen.progress.past opened.later all.went.later);
          fixed = fixed;
          same = ap (λ (w : SessionView). w.given) all.went.stays ∙ opened.same;
          calls = calls;
          answers_are = sym (ap (λ (m : Made Viewed). m.value.answers) is);
          kept_is = sym (ap (λ (m : Made Viewed). m.value.kept) is);
          log = shows_on a.seen.version c.seen.version a.seen.progress.past c.seen.progress.past before.link.log y.log
              c.link.log
              (ap (λ (w : SessionView). w.version) all.went.stays) shows all.went.log;
          plain = subst (λ (w : Viewed). IsPlainThere mid.block mid.cache.capacity c.seen.setting.facts.write_len ops
              c.seen.progress.past w.answers w.kept.hits w.kept.misses)
              (ap (λ (m : Made Viewed). m.value) is)
              (view_plainly c.seen.setting before.seen.given.lanes before.seen.given.options fixed.0
              c.seen.progress.past
              mid.block mid.cache.capacity ops fixed.1.1 one
              closes.closed.run closes.closed.over (closes.closed.uncancelled
              (work.runs.does.uncancelled first.uncancelled)) may.some may.short within.0 calls);
        };
        left = tt;
        caused = caused_on before.link y c.link u (Ok answers) caused (ok_caused y c.link tt answers all.caused);
      }

  pub stops_as_given : (before now : RunState S) (e : Error) (given : SessionInputs) → before.seen.given ≡ given
      → HasStopped IsJournal before now e
      → IfLogged (EndsAs given IsJournal now.link.ended e) before.link.log now.link.log
  stops_as_given before now e given is left =
      subst (λ (g : SessionInputs). IfLogged (EndsAs g IsJournal now.link.ended e) before.link.log now.link.log) is
      (ends_by IsJournal before now e left)

pub may_new : (block capacity : ℕ) (ops : List ViewOp) (options : SftpOptions) (view : View)
    → IsNewView block capacity options view → MayView block capacity ops
    → MayView view.block view.cache.capacity ops
may_new block capacity ops options view new may =
    subst (λ (n : ℕ). MayView n view.cache.capacity ops) (sym new.block_is)
    (subst (λ (n : ℕ). MayView block n ops) (sym (ap (λ (c : CacheValue). c.capacity) new.cache)) may)
