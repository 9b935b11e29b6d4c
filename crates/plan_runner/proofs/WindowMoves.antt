-- What a whole read does by its window.
use Rattle.std.proofs.Common.{
  ◌≡◌,
  ◌∙◌,
  ◌≤◌,
  ◌+◌,
  ◌++◌,
  ◌⊎◌,
  ap,
  refl,
  sym,
  subst,
  arith,
  inl,
  inr,
  length,
  map,
  ℕ,
  Bool,
  true,
  false,
  List,
  [],
  ◌∷◌,
  Option,
  Some,
  None,
  if◌then◌else◌,
}
use Rattle.std.specs.Prelude.{◌<◌, IfOk, Result, Ok, Err, is_some, nat_lt}
use Rattle.std.proofs.lemmas.List.{length-append, length-map}
use Rattle.ssh_encoding.specs.declared.out_of_memory.OutOfMemory.{OutOfMemory}
use Rattle.sftp_model.specs.declared.outcome.Outcome.{Outcome}
use Rattle.sftp_model.specs.declared.outcome.Outcome.TheVariants as outcome
use Rattle.sftp_model.specs.declared.request.Request.TheVariants as request
use Rattle.sftp_model.specs.declared.reply.Reply.{Reply}
use Rattle.sftp_model.specs.declared.reply.Reply.TheVariants as reply
use Rattle.sftp_model.specs.declared.slot.Facts.{Facts}
use Rattle.sftp_model.specs.declared.slot.Move.{Move}
use Rattle.sftp_model.specs.declared.slot.Move.TheVariants.{Ask, Wait, Done}
use Rattle.sftp_model.specs.declared.slot.Site.{Site}
use Rattle.plan_model.specs.GoodMoves.{ReadsWithin}
use Rattle.plan_model.specs.Moves.{Own, handle_of, refusal_move}
use Rattle.plan_model.specs.WindowPlans.{ask_more, await_first, contents, ends_or, first_refusal, gaps, go_on, least, least_end, reaches, unless_refused}
use Rattle.plan_model.proofs.WindowAsks.{Asking, asking}
use Rattle.plan_window.specs.declared.window.ReadAt.{ReadAt}
use Rattle.plan_window.specs.Windows.{Window, AsksInRange, answered_more, as_request, asked_more, empty_window, first_of, reads_of, replies_of, under_way, window_move}
use Rattle.plan_window.proofs.PlanLaws.{after_asking, move_missing, none_under_way}
use Rattle.plan_runner.specs.declared.next.Asked.TheVariants as asked
use Rattle.plan_runner.specs.declared.next.Next.{Next}
use Rattle.plan_runner.specs.declared.next.Next.TheVariants as step
use Rattle.plan_runner.specs.declared.next.Running.{Running}
use Rattle.plan_runner.specs.declared.next.Running.TheVariants as running
use Rattle.plan_runner.specs.Asking.{GoesOnAsking, IsAmong, ReadsOn}
use Rattle.plan_runner.specs.Runners.{RunsByPlan, AnswersWhileWaiting, after, idle, place_in, residual, waits}
use Rattle.plan_runner.specs.Pending.{PendsAfter, one, pends, reads_times, slots_times, with_reads}
use Rattle.plan_runner.specs.Sound.{AsksWithin, IsSound, KeepsRunningSound}
use Rattle.plan_runner.proofs.Keeping.{keeps_self}

-- ---- what it waits for

first_awaited : (handle : List ℕ) (waiting : List ReadAt) (site : Site) (p : ℕ)
    → await_first (map (as_request handle) waiting) site ≡ Wait p → place_in (first_of waiting) ≡ Some p
first_awaited handle [] site p is = absurd cc
first_awaited handle (r ∷ rest) site p is = (let same : r.place ≡ p = cc in ap (λ (k : ℕ). Some k) same)

no_wait : (y : Reply) (site : Site) (p : ℕ) → refusal_move y site ≡ Wait p → ⊥
no_wait (reply.Status code message language) site p is = cc
no_wait other site p is = cc

more_waits : (handle : List ℕ) (reads : Own) (replies : List (ℕ × Reply)) (waiting : Own) (site : Site) (facts : Facts)
    (gap end : Option ℕ) (p : ℕ) → ask_more handle reads replies waiting site facts gap end ≡ Wait p
    → await_first waiting site ≡ Wait p
more_waits handle reads replies waiting site facts (Some q) end p is = absurd cc
more_waits handle reads replies waiting site facts None None p is = absurd cc
more_waits handle reads replies waiting site facts None (Some end) p is = is

tested_waits : (given_up more : Bool) (site : Site) (ask wait : Move) (p : ℕ) → (ask ≡ Wait p → wait ≡ Wait p)
    → (if given_up then Done outcome.GivenUp site else if more then ask else wait) ≡ Wait p → wait ≡ Wait p
tested_waits true more site ask wait p asks is = absurd cc
tested_waits false true site ask wait p asks is = asks is
tested_waits false false site ask wait p asks is = is

ended_waits : (missing : List ℕ) (replies : List (ℕ × Reply)) (waiting : Own) (site : Site) (end : Option ℕ)
    (other : Move) (p : ℕ) → ends_or missing replies waiting site end other ≡ Wait p → other ≡ Wait p
ended_waits [] replies [] site (Some end) other p is = absurd cc
ended_waits missing replies waiting site end other p is = is

unrefused_waits : (o : Option (ℕ × Reply)) (site : Site) (go : Move) (p : ℕ) → unless_refused o site go ≡ Wait p → go
    ≡ Wait p
unrefused_waits None site go p is = is
unrefused_waits (Some got) site go p is = absurd (no_wait got.1 site p is)

-- it waits for the reply to the first READ under way
pub wait_first : (handle : List ℕ) (bound : Option ℕ) (w : Window) (site : Site) (facts : Facts) (p : ℕ)
    → window_move handle bound w site facts ≡ Wait p → place_in (first_of w.waiting) ≡ Some p
wait_first handle bound w site facts p is = first_awaited handle w.waiting site p on
  where
    asks : Own
    asks = under_way handle w

    more : Move
    more = ask_more handle (reads_of handle w) (replies_of w) asks site facts
        (least (gaps (reads_of handle w) (replies_of w) asks)) (least_end (replies_of w))

    go : Move
    go = go_on handle bound (reads_of handle w) (replies_of w) asks site facts

    unrefused : go ≡ Wait p
    unrefused = ended_waits (gaps (reads_of handle w) (replies_of w) asks) (replies_of w) asks site
        (least_end (replies_of w)) go p
        (unrefused_waits (first_refusal (replies_of w)) site (ends_or (gaps (reads_of handle w) (replies_of w) asks)
        (replies_of w) asks site (least_end (replies_of w)) go) p is)

    on : await_first asks site ≡ Wait p
    on = tested_waits (reaches bound (length (contents (replies_of w)))) (nat_lt (length asks) facts.read_window) site
        more (await_first asks site) p
        (more_waits handle (reads_of handle w) (replies_of w) asks site facts
        (least (gaps (reads_of handle w) (replies_of w) asks)) (least_end (replies_of w)) p) unrefused

-- ---- what it asks

abbrev AsksAt : ℕ → ℕ → Window → Facts → ℕ → ℕ → Type 0
AsksAt bound place w facts offset len = (handle : List ℕ) (site : Site) → window_move handle (Some bound) w site facts
    ≡ Ask (request.Read handle offset len)

pub ask_widens : (grant bound : ℕ) (w new : Window) (place offset len : ℕ) (bytes : List ℕ) (site : Site)
    (facts : Facts) → AsksAt bound place w facts offset len → new
    ≡ asked_more w (record { place = place; offset = offset; len = len })
    → AnswersWhileWaiting (running.ReadingWhole grant bound w) place bytes site facts
    (step.Ask (asked.Read grant offset len) (running.ReadingWhole grant bound new))
ask_widens grant bound w new place offset len bytes site facts moves is =
    subst (λ (x : Window). AnswersWhileWaiting (running.ReadingWhole grant bound w) place bytes site facts
    (step.Ask (asked.Read grant offset len) (running.ReadingWhole grant bound x))) (sym is)
    (λ answers. (
      move_missing (handle_of (answers grant)) (Some bound) w site facts ∙ moves (handle_of (answers grant)) site,
      λ later. after_asking (handle_of (answers grant)) (Some bound) w site facts
          (record { place = place; offset = offset; len = len }) later answers,
    ))

-- how often the replies to READs are awaited
pub with_reads_is : (q : ℕ) (reads : List ReadAt) (n : ℕ) → with_reads reads q n ≡ reads_times q reads + n
with_reads_is q [] n = omega arith
with_reads_is q (r ∷ rest) n = refl

reads_more : (q : ℕ) (waiting : List ReadAt) (r : ReadAt) → reads_times q (waiting ++ r ∷ [])
    ≡ reads_times q waiting + one r.place q
reads_more q [] r = omega arith
reads_more q (x ∷ rest) r = (let more : reads_times q (rest ++ r ∷ []) ≡ reads_times q rest + one r.place q =
    reads_more q rest r in omega (arith, more))

asked_once : (q : ℕ) (waiting : List ReadAt) (r : ReadAt) (n : ℕ)
    → with_reads (waiting ++ r ∷ []) q n ≤ with_reads waiting q n + one r.place q
asked_once q waiting r n =
    (let new : with_reads (waiting ++ r ∷ []) q n ≡ reads_times q (waiting ++ r ∷ []) + n =
    with_reads_is q (waiting ++ r ∷ []) n in
    let old : with_reads waiting q n ≡ reads_times q waiting + n = with_reads_is q waiting n in
    let more : reads_times q (waiting ++ r ∷ []) ≡ reads_times q waiting + one r.place q = reads_more q waiting r in
    omega (arith, new, old, more))

pub ask_pends : (grant bound : ℕ) (w new : Window) (place offset len : ℕ) (site : Site) → new
    ≡ asked_more w (record { place = place; offset = offset; len = len })
    → PendsAfter (λ q. pends q (Some (running.ReadingWhole grant bound w)) site) place site
    (step.Ask (asked.Read grant offset len) (running.ReadingWhole grant bound new))
ask_pends grant bound w new place offset len site is =
    subst (λ (x : Window). PendsAfter (λ q. pends q (Some (running.ReadingWhole grant bound w)) site) place site
    (step.Ask (asked.Read grant offset len) (running.ReadingWhole grant bound x))) (sym is)
    (λ q. asked_once q w.waiting (record { place = place; offset = offset; len = len }) (slots_times q site.slots))

-- a call that ends awaits none of them
pub ended_pends : (grant bound : ℕ) (w : Window) (site : Site) (q : ℕ)
    → pends q None site ≤ pends q (Some (running.ReadingWhole grant bound w)) site
ended_pends grant bound w site q = (let all : with_reads w.waiting q (slots_times q site.slots)
    ≡ reads_times q w.waiting + slots_times q site.slots = with_reads_is q w.waiting (slots_times q site.slots) in
    omega (arith, all))

among_more : (x : ReadAt) (waiting : List ReadAt) (r : ReadAt) → IsAmong x (waiting ++ r ∷ []) → IsAmong x waiting
    ⊎ (x ≡ r)
among_more x [] r among = elim among [
  | inl same ↦ inr same
  | inr none ↦ absurd none
]
among_more x (y ∷ rest) r among = elim among [
  | inl same ↦ inl (inl same)
  | inr later ↦ elim (among_more x rest r later) [
    | inl here ↦ inl (inr here)
    | inr same ↦ inr same
  ]
]

pub ask_asks : (grant bound : ℕ) (w new : Window) (place offset len : ℕ) (site : Site) → new
    ≡ asked_more w (record { place = place; offset = offset; len = len })
    → GoesOnAsking (Some grant) place w.waiting site site (step.Ask (asked.Read grant offset len)
    (running.ReadingWhole grant bound new))
ask_asks grant bound w new place offset len site is =
    subst (λ (x : Window). GoesOnAsking (Some grant) place w.waiting site site
    (step.Ask (asked.Read grant offset len) (running.ReadingWhole grant bound x))) (sym is) (
      record {
        call = tt;
        named = inr refl;
        awaits = tt;
        looks = inr refl;
        keeps = λ g e. e;
        under = λ x among. among_more x w.waiting (record { place = place; offset = offset; len = len }) among;
      },
      tt,
    )

-- the plan asks only where the window lets it
few_more : (handle : List ℕ) (w : Window) (r : ReadAt) (most : ℕ) → length (under_way handle w) < most
    → length (w.waiting ++ r ∷ []) ≤ most
few_more handle w r most free =
    (let same : length (under_way handle w) ≡ length w.waiting = length-map w.waiting (as_request handle) in
    let more : length (w.waiting ++ r ∷ []) ≡ length w.waiting + 1 = length-append w.waiting (r ∷ []) in
    omega (arith, same, more, free))

pub ask_reads : (handle : List ℕ) (site : Site) (grant bound : ℕ) (w new : Window) (place offset len : ℕ)
    (facts : Facts) → window_move handle (Some bound) w site facts ≡ Ask (request.Read handle offset len)
    → new ≡ asked_more w (record { place = place; offset = offset; len = len })
    → ReadsOn place w.waiting facts (step.Ask (asked.Read grant offset len) (running.ReadingWhole grant bound new))
ask_reads handle site grant bound w new place offset len facts move is =
    let r : ReadAt = record { place = place; offset = offset; len = len } in
    let let_in : Asking handle (Some bound) (reads_of handle w) (replies_of w) (under_way handle w) facts
    (request.Read handle offset len) =
    asking handle (Some bound) (reads_of handle w) (replies_of w) (under_way handle w) site facts
    (request.Read handle offset len) move in
    subst (λ (x : Window). ReadsOn place w.waiting facts (step.Ask (asked.Read grant offset len)
    (running.ReadingWhole grant bound x))) (sym is)
    (record {
      window = refl;
      read = r;
      new = refl;
      under = refl;
      few =
          few_more handle w r facts.read_window let_in.free;
    })

-- ---- where it waits or ends

pub wait_widens : (grant bound : ℕ) (w : Window) (place p : ℕ) (bytes : List ℕ) (site : Site) (facts : Facts)
    → ((handle : List ℕ) (s : Site) → window_move handle (Some bound) w s facts ≡ Wait p)
    → AnswersWhileWaiting (running.ReadingWhole grant bound w) place bytes site facts
    (step.Wait (running.ReadingWhole grant bound w))
wait_widens grant bound w place p bytes site facts moves = (
  refl,
  λ answers. move_missing (handle_of (answers grant)) (Some bound) w site facts
      ∙ (moves (handle_of (answers grant)) site
      ∙ sym (ap (λ (o : Option ℕ). waits o site) (wait_first (handle_of (answers grant)) (Some bound) w site facts p
      (moves (handle_of (answers grant)) site)))),
)

pub wait_asks : (grant bound : ℕ) (w : Window) (place p : ℕ) (site : Site) → place_in (first_of w.waiting) ≡ Some p
    → GoesOnAsking (Some grant) place w.waiting site site (step.Wait (running.ReadingWhole grant bound w))
wait_asks grant bound w place p site at = (
  record {
    deferred = refl;
    some = ap (λ (o : Option ℕ). is_some o) at;
    keeps =
        λ g e. e;
    under = λ x among. among;
  },
  inr refl,
)

pub done_widens : (grant bound : ℕ) (w : Window) (place : ℕ) (o : Outcome) (bytes : List ℕ) (site : Site)
    (facts : Facts) → ((handle : List ℕ) (s : Site) → window_move handle (Some bound) w s facts ≡ Done o s)
    → AnswersWhileWaiting (running.ReadingWhole grant bound w) place bytes site facts (step.Done o)
done_widens grant bound w place o bytes site facts moves = λ answers. move_missing (handle_of (answers grant))
    (Some bound) w site facts ∙ moves (handle_of (answers grant)) site

-- ---- where no READ is under way

none_waiting : (waiting : List ReadAt) → first_of waiting ≡ None → waiting ≡ []
none_waiting [] none = refl
none_waiting (r ∷ rest) none = absurd cc

pub widened_goes : (grant bound : ℕ) (w : Window) (place : ℕ) (bytes : List ℕ) (site : Site) (facts : Facts) (n : Next)
    → first_of w.waiting ≡ None → AnswersWhileWaiting (running.ReadingWhole grant bound w) place bytes site facts n
    → RunsByPlan (after (running.ReadingWhole grant bound w) bytes site facts None) place bytes site facts n
widened_goes grant bound w place bytes site facts (step.Ask a r) none g = λ answers. (
  none_under_way (handle_of (answers grant)) (Some bound) w site facts answers (none_waiting w.waiting none)
      ∙ (sym (move_missing (handle_of (answers grant)) (Some bound) w site facts) ∙ (g answers).0),
  λ later. (g answers).1 later,
)
widened_goes grant bound w place bytes site facts (step.Wait r) none g =
    λ answers later. ap (λ (x : Running). residual x bytes site facts later answers) (sym g.0)
widened_goes grant bound w place bytes site facts (step.Done o) none g =
    λ answers. none_under_way (handle_of (answers grant)) (Some bound) w site facts answers
    (none_waiting w.waiting none) ∙ (sym (move_missing (handle_of (answers grant)) (Some bound) w site facts)
    ∙ g answers)

pub widened_if_ok : (grant bound : ℕ) (w : Window) (place : ℕ) (bytes : List ℕ) (site : Site) (facts : Facts)
    (n : Result Next OutOfMemory) → first_of w.waiting ≡ None →
    IfOk n (λ x. AnswersWhileWaiting (running.ReadingWhole grant bound w) place bytes site facts x)
    → IfOk n (λ x. RunsByPlan (after (running.ReadingWhole grant bound w) bytes site facts None) place bytes site facts
    x)
widened_if_ok grant bound w place bytes site facts (Ok n) none g =
    widened_goes grant bound w place bytes site facts n none g
widened_if_ok grant bound w place bytes site facts (Err e) none g = g

pub sounds_here : (bytes : List ℕ) (site : Site) (facts : Facts) (n : Result Next OutOfMemory)
    → IfOk n (λ x. IsSound bytes site facts x) → IfOk n (λ x. KeepsRunningSound bytes facts site site x)
sounds_here bytes site facts (Ok n) s = (keeps_self facts site, s)
sounds_here bytes site facts (Err e) s = s

-- ---- what is asked is within the range

pub range_alone : (grant bound : ℕ) (w : Window) (bytes : List ℕ) (site : Site) (facts : Facts) → first_of w.waiting
    ≡ None → AsksWithin facts (after (running.ReadingWhole grant bound w) bytes site facts None)
    → AsksInRange bound w facts
range_alone grant bound w bytes site facts none range = record {
  handle = handle_of (range.answers grant);
  site = site;
  within = subst (λ (m : Move). ReadsWithin facts m) (none_under_way (handle_of (range.answers grant)) (Some bound) w
      site facts range.answers (none_waiting w.waiting none)) range.within;
}

pub range_idle : (grant bound : ℕ) (w : Window) (bytes : List ℕ) (site : Site) (facts : Facts)
    → AsksWithin facts (idle (running.ReadingWhole grant bound w) bytes site facts) → AsksInRange bound w facts
range_idle grant bound w bytes site facts range = record {
  handle = handle_of (range.answers grant);
  site = site;
  within = subst (λ (m : Move). ReadsWithin facts m) (move_missing (handle_of (range.answers grant)) (Some bound) w site
      facts) range.within;
}

pub range_opened : (grant bound : ℕ) (w : Window) (handle : List ℕ) (bytes : List ℕ) (site : Site) (facts : Facts) → w
    ≡ empty_window → AsksWithin facts (after (running.OpeningToRead grant bound) bytes site facts
    (Some (reply.Handle handle)))
    → AsksWithin facts (after (running.ReadingWhole grant bound w) bytes site facts None)
range_opened grant bound w handle bytes site facts is range =
    subst (λ (x : Window). AsksWithin facts (after (running.ReadingWhole grant bound x) bytes site facts None)) (sym is)
    (record { answers = range.answers; within = range.within })

pub range_replied : (grant bound : ℕ) (w new : Window) (y : Reply) (bytes : List ℕ) (site : Site) (facts : Facts) → new
    ≡ answered_more w y → AsksWithin facts (after (running.ReadingWhole grant bound w) bytes site facts (Some y))
    → AsksWithin facts (after (running.ReadingWhole grant bound new) bytes site facts None)
range_replied grant bound w new y bytes site facts is range =
    subst (λ (x : Window). AsksWithin facts (after (running.ReadingWhole grant bound x) bytes site facts None)) (sym is)
    (record { answers = range.answers; within = range.within })
