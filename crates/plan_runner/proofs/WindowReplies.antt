-- What a whole read does after a reply.
use Rattle.std.proofs.Common.{
  ◌≡◌,
  ◌∙◌,
  ◌≤◌,
  ◌+◌,
  ◌-◌,
  ◌++◌,
  ap,
  refl,
  sym,
  subst,
  arith,
  inl,
  inr,
  map,
  ℕ,
  Bool,
  true,
  false,
  List,
  [],
  ◌∷◌,
  Option,
  Some,
  None,
  if◌then◌else◌,
}
use Rattle.std.specs.Prelude.{◌&&◌, ◌||◌, not, IfOk, Result, Ok, Err}
use Rattle.ssh_encoding.specs.declared.out_of_memory.OutOfMemory.{OutOfMemory}
use Rattle.sftp_model.specs.declared.reply.Reply.{Reply}
use Rattle.sftp_model.specs.declared.reply.Reply.TheVariants as reply
use Rattle.sftp_model.specs.declared.slot.Facts.{Facts}
use Rattle.sftp_model.specs.declared.slot.Move.{Move}
use Rattle.sftp_model.specs.declared.slot.Move.TheVariants.{Done}
use Rattle.sftp_model.specs.declared.slot.Site.{Site}
use Rattle.sftp_model.specs.Answers.{is_end_of_file}
use Rattle.plan_model.specs.Moves.{Answers, Own, handle_of, refusal_move}
use Rattle.plan_model.specs.WindowPlans.{answered_prefix, brings_content, ends_or, first_refusal, gaps, go_on, least_end, outside, unless_refused}
use Rattle.plan_window.specs.declared.window.Answered.{Answered}
use Rattle.plan_window.specs.declared.window.ReadAt.{ReadAt}
use Rattle.plan_window.specs.Windows.{Window, answered_more, as_request, empty_window, first_of, reads_of, replies_of, under_way, window_plan}
use Rattle.plan_runner.specs.declared.next.Next.{Next}
use Rattle.plan_runner.specs.declared.next.Next.TheVariants as step
use Rattle.plan_runner.specs.declared.next.Running.{Running}
use Rattle.plan_runner.specs.declared.next.Running.TheVariants as running
use Rattle.plan_runner.specs.Asking.{GoesOnAsking, IsAmong, WidensAsking, is_window}
use Rattle.plan_runner.specs.Runners.{RunsByPlan, AnswersWhileWaiting, after, place_in, refusal_of}
use Rattle.plan_runner.specs.Pending.{maybe, pends, reads_times, slots_times, with_reads}
use Rattle.plan_runner.proofs.Going.{goes_if_ok}
use Rattle.plan_runner.proofs.WindowMoves.{with_reads_is}

-- ---- after a reply

-- where none is under way it changes nothing
pub unanswered : (w : Window) (y : Reply) → first_of w.waiting ≡ None → w ≡ answered_more w y
unanswered w y none = by_waiting w.answered w.waiting none
  where
    by_waiting : (answered : List Answered) (waiting : List ReadAt) → first_of waiting ≡ None
        → (let x : Window = record { answered = answered; waiting = waiting } in x)
        ≡ answered_more (record { answered = answered; waiting = waiting }) y
    by_waiting answered [] none = refl
    by_waiting answered (r ∷ rest) none = absurd cc

less_reads : (q : ℕ) (w : Window) (y : Reply) (n : ℕ) → with_reads (answered_more w y).waiting q n ≤ with_reads
    w.waiting q n - maybe (place_in (first_of w.waiting)) q
less_reads q w y n = by_waiting w.answered w.waiting
  where
    by_waiting : (answered : List Answered) (waiting : List ReadAt)
        → with_reads (answered_more (record { answered = answered; waiting = waiting }) y).waiting q n ≤ with_reads
        waiting q n - maybe (place_in (first_of waiting)) q
    by_waiting answered [] = omega arith
    by_waiting answered (r ∷ rest) = (let left : with_reads rest q n ≡ reads_times q rest + n = with_reads_is q rest n
        in omega (arith, left))

pub replied_less : (grant bound : ℕ) (w new : Window) (y : Reply) (site : Site) → new ≡ answered_more w y → (q : ℕ)
    → pends q (Some (running.ReadingWhole grant bound new)) site ≤ pends q (Some (running.ReadingWhole grant bound w))
    site - maybe (place_in (first_of w.waiting)) q
replied_less grant bound w new y site is q =
    subst (λ (x : Window). pends q (Some (running.ReadingWhole grant bound x)) site ≤ pends q
    (Some (running.ReadingWhole grant bound w)) site - maybe (place_in (first_of w.waiting)) q) (sym is)
    (less_reads q w y (slots_times q site.slots))

pub refused_pends : (grant bound : ℕ) (w : Window) (site : Site) (q : ℕ)
    → pends q None site ≤ pends q (Some (running.ReadingWhole grant bound w)) site - maybe
    (place_in (first_of w.waiting)) q
refused_pends grant bound w site q = by_waiting w.waiting
  where
    by_waiting : (waiting : List ReadAt) → slots_times q site.slots ≤ with_reads waiting q (slots_times q site.slots) -
        maybe (place_in (first_of waiting)) q
    by_waiting [] = omega arith
    by_waiting (r ∷ rest) = omega arith

still_among : (x : ReadAt) (w : Window) (y : Reply) → IsAmong x (answered_more w y).waiting → IsAmong x w.waiting
still_among x w y among = by_waiting w.answered w.waiting among
  where
    by_waiting : (answered : List Answered) (waiting : List ReadAt)
        → IsAmong x (answered_more (record { answered = answered; waiting = waiting }) y).waiting → IsAmong x waiting
    by_waiting answered [] among = among
    by_waiting answered (r ∷ rest) among = inr among

pub asks_of_more : (opened : Option ℕ) (place : ℕ) (few many : List ReadAt) (site : Site) (n : Next)
    → ((x : ReadAt) → IsAmong x few → IsAmong x many) → GoesOnAsking opened place few site site n
    → GoesOnAsking opened place many site site n
asks_of_more opened place few many site (step.Ask a r) more asks = (
  record {
    call = asks.0.call;
    named = asks.0.named;
    awaits = asks.0.awaits;
    looks = asks.0.looks;
    keeps = asks.0.keeps;
    under = λ x among. elim (asks.0.under x among) [
      | inl here ↦ inl (more x here)
      | inr same ↦ inr same
    ];
  },
  asks.1,
)
asks_of_more opened place few many site (step.Wait r) more asks = (
  record {
    deferred = asks.0.deferred;
    some = asks.0.some;
    keeps = asks.0.keeps;
    under =
        λ x among. more x (asks.0.under x among);
  },
  asks.1,
)
asks_of_more opened place few many site (step.Done o) more asks = tt

pub replied_asks : (grant place : ℕ) (w new : Window) (y : Reply) (site : Site) (n : Result Next OutOfMemory) → new
    ≡ answered_more w y → IfOk n (λ x. GoesOnAsking (Some grant) place new.waiting site site x)
    → IfOk n (λ x. GoesOnAsking (Some grant) place w.waiting site site x)
replied_asks grant place w new y site (Ok n) is asks = asks_of_more (Some grant) place new.waiting w.waiting site n
    (λ x among. still_among x w y (subst (λ (v : Window). IsAmong x v.waiting) is among)) asks
replied_asks grant place w new y site (Err e) is asks = asks

-- ---- a refusal

abbrev reply_at : Answered → ℕ × Reply
reply_at a = (a.read.offset, a.reply)

refused_first : (answered : List Answered) (r : ReadAt) (y : Reply) (rest : List (ℕ × Reply))
    → first_refusal (map reply_at answered) ≡ None → (brings_content y || is_end_of_file y) ≡ false
    → first_refusal (map reply_at (answered ++ record { read = r; reply = y } ∷ []) ++ rest) ≡ Some (r.offset, y)
refused_first [] r y rest none bad = by_tests (brings_content y) (is_end_of_file y) bad
  where
    by_tests : (a b : Bool) → (a || b) ≡ false → (if not a && not b then Some (r.offset, y) else first_refusal rest)
        ≡ Some (r.offset, y)
    by_tests true b bad = absurd cc
    by_tests false true bad = absurd cc
    by_tests false false bad = refl
refused_first (got ∷ answered) r y rest none bad = by_test (not (brings_content got.reply)
    && not (is_end_of_file got.reply)) none (λ k. refused_first answered r y rest k bad)
  where
    by_test : (b : Bool) → (if b then Some (reply_at got) else first_refusal (map reply_at answered)) ≡ None
        → (first_refusal (map reply_at answered) ≡ None → first_refusal
        (map reply_at (answered ++ record { read = r; reply = y } ∷ []) ++ rest) ≡ Some (r.offset, y))
        → (if b then Some (reply_at got) else first_refusal (map reply_at
        (answered ++ record { read = r; reply = y } ∷ []) ++ rest)) ≡ Some (r.offset, y)
    by_test true none later = absurd cc
    by_test false none later = later none

refused_there : (handle : List ℕ) (bound : Option ℕ) (w : Window) (site : Site) (facts : Facts) (later : Own)
    (answers : Answers) (offset : ℕ) (y : Reply)
    → first_refusal (replies_of w ++ answered_prefix (under_way handle w ++ later) answers) ≡ Some (offset, y)
    → window_plan handle bound w site facts later answers ≡ refusal_move y site
refused_there handle bound w site facts later answers offset y is =
    ap (λ (o : Option (ℕ × Reply)). unless_refused o site go) is
  where
    replies : List (ℕ × Reply)
    replies = replies_of w ++ answered_prefix (under_way handle w ++ later) answers

    missing : Own
    missing = outside (under_way handle w ++ later) answers

    go : Move
    go = ends_or (gaps (reads_of handle w ++ later) replies missing) replies missing site (least_end replies)
        (go_on handle bound (reads_of handle w ++ later) replies missing site facts)

-- a refusal ends the call, whatever came else
refused_after : (handle : List ℕ) (bound : Option ℕ) (w : Window) (site : Site) (facts : Facts) (later : Own)
    (answers : Answers) (r : ReadAt) (y : Reply) → first_of w.waiting ≡ Some r
    → first_refusal (replies_of w) ≡ None → (brings_content y || is_end_of_file y) ≡ false
    → window_plan handle bound (answered_more w y) site facts later answers ≡ refusal_move y site
refused_after handle bound w site facts later answers r y first none bad = by_waiting w.answered w.waiting first none
  where
    by_waiting : (answered : List Answered) (waiting : List ReadAt) → first_of waiting ≡ Some r
        → first_refusal (map reply_at answered) ≡ None
        → window_plan handle bound (answered_more (record { answered = answered; waiting = waiting }) y) site facts
        later answers ≡ refusal_move y site
    by_waiting answered [] first none = absurd cc
    by_waiting answered (q ∷ rest) first none = refused_there handle bound
        (record { answered = answered ++ record { read = q; reply = y } ∷ []; waiting = rest }) site facts later answers
        q.offset y
        (refused_first answered q y (answered_prefix (map (as_request handle) rest ++ later) answers) none bad)

refusal_is : (y : Reply) (site : Site) → refusal_move y site ≡ Done (refusal_of y) site
refusal_is (reply.Status code message language) site = refl
refusal_is other site = refl

pub refused_goes : (grant bound : ℕ) (w : Window) (r : ReadAt) (y : Reply) (place : ℕ) (bytes : List ℕ) (site : Site)
    (facts : Facts) → first_of w.waiting ≡ Some r → first_refusal (replies_of w) ≡ None
    → (brings_content y || is_end_of_file y) ≡ false
    → RunsByPlan (after (running.ReadingWhole grant bound w) bytes site facts (Some y)) place bytes site facts
    (step.Done (refusal_of y))
refused_goes grant bound w r y place bytes site facts first none bad =
    λ answers. refused_after (handle_of (answers grant)) (Some bound) w site facts [] answers r y first none bad
    ∙ refusal_is y site

-- ---- what widens

pub widens_asking : (grant bound : ℕ) (w : Window) (place : ℕ) (site : Site) (n : Result Next OutOfMemory)
    → IfOk n (λ x. GoesOnAsking (Some grant) place w.waiting site site x)
    → IfOk n (λ x. WidensAsking (running.ReadingWhole grant bound w) place site x)
widens_asking grant bound w place site (Ok (step.Ask a r)) asks = (refl, asks.0, asks.1)
widens_asking grant bound w place site (Ok (step.Wait r)) asks = tt
widens_asking grant bound w place site (Ok (step.Done o)) asks = refl
widens_asking grant bound w place site (Err e) asks = asks

-- any other call waits
pub others_wait : (r : Running) (place : ℕ) (bytes : List ℕ) (site : Site) (facts : Facts) → is_window r ≡ false
    → AnswersWhileWaiting r place bytes site facts (step.Wait r)
others_wait (running.ReadingWhole grant bound window) place bytes site facts other = absurd cc
others_wait r place bytes site facts other = (refl, λ answers. refl)

-- ---- a whole read that its window stands for

pub opened_goes : (grant bound : ℕ) (w : Window) (handle : List ℕ) (place : ℕ) (bytes : List ℕ) (site : Site)
    (facts : Facts) (n : Result Next OutOfMemory) → w ≡ empty_window
    → IfOk n (λ x. RunsByPlan (after (running.ReadingWhole grant bound w) bytes site facts None) place bytes site facts
    x)
    → IfOk n (λ x. RunsByPlan (after (running.OpeningToRead grant bound) bytes site facts (Some (reply.Handle handle)))
    place bytes site facts x)
opened_goes grant bound w handle place bytes site facts n is g =
    goes_if_ok (after (running.ReadingWhole grant bound w) bytes site facts None)
    (after (running.OpeningToRead grant bound) bytes site facts (Some (reply.Handle handle))) place bytes site facts
    n
    (λ own answers. ap (λ (x : Window). window_plan (handle_of (answers grant)) (Some bound) x site facts own answers)
    (sym is)) g

pub replied_goes : (grant bound : ℕ) (w new : Window) (y : Reply) (place : ℕ) (bytes : List ℕ) (site : Site)
    (facts : Facts) (n : Result Next OutOfMemory) → new ≡ answered_more w y
    → IfOk n (λ x. RunsByPlan (after (running.ReadingWhole grant bound new) bytes site facts None) place bytes site
    facts x)
    → IfOk n (λ x. RunsByPlan (after (running.ReadingWhole grant bound w) bytes site facts (Some y)) place bytes site
    facts x)
replied_goes grant bound w new y place bytes site facts n is g =
    goes_if_ok (after (running.ReadingWhole grant bound new) bytes site facts None)
    (after (running.ReadingWhole grant bound w) bytes site facts (Some y)) place bytes site facts n
    (λ own answers. ap (λ (x : Window). window_plan (handle_of (answers grant)) (Some bound) x site facts own answers)
    (sym is)) g
