-- The loops of a run as its parts.
use Rattle.std.proofs.Common.{◌≡◌, ◌≢◌, ◌<◌, ◌+◌, ℕ, false, List, [], ◌∷◌, ◌++◌, take, length, None, refl, sym, subst, arith, inl, inr}
use Rattle.std.specs.Prelude.{Result, Ok, Err}
use Rattle.sftp_model.specs.declared.error.Error.{Error}
use Rattle.sftp_link.specs.Views.{LinkView}
use Rattle.session_model.specs.declared.turn.Turn.{Turn}
use Rattle.session_model.specs.declared.entry.Entry.{Entry}
use Rattle.session_model.specs.Readings.{count_unanswered, was_let_go}
use Rattle.session_model.specs.Calls.{Setting, current}
use Rattle.session_model.specs.Runs.{EndsTo, LetsGoTo, round_of}
use Rattle.session_driver.specs.RunsSoFar.{drain_of}
use Rattle.session_driver.specs.Session.{SessionView}
use Rattle.session_driver.specs.Ongoing.{RunState, run_state, RunsPart, IsReady, Part, turn_of, turns_of, lane_of, lanes_end, let_go_of, lanes_go, drain_part}
use Rattle.session_driver.proofs.Joining.{went_on, stopped_on, stopped_as, join, as_part, idle, setting_stays}
use Rattle.link_frames.proofs.Joining.{caused_on}
use Rattle.session_driver.proofs.Rounds.{
  turns_on,
  turns_stop,
  ends_more,
  lets_go_more,
  some_rounds_more,
  some_drains_more,
  go_done,
  go_holds,
  first_turns,
  some_rounds,
  first_ends,
  first_go,
  some_drains,
}

module _ {S : Type 0} where
  pub whole_join : {p q r : Part} {a b c : RunState S} {u v : Unit {0}}
      → (p.whole a.seen.setting a.seen.progress b.seen.progress → q.whole a.seen.setting b.seen.progress c.seen.progress
      → r.whole a.seen.setting a.seen.progress c.seen.progress)
      → RunsPart p a b (Ok u) → RunsPart q b c (Ok v) → RunsPart r a c (Ok tt)
  whole_join {a = a} {b = b} {c = c} {u = u} {v = v} whole first second =
      record {
        went = went_on whole first.went second.went;
        stopped = tt;
        caused =
            (let k = caused_on a.link b.link c.link u (Ok v) first.caused second.caused in
            record { cause = k.cause; end = tt; only = tt; service = k.service });
      }

  pub stop_join : {p q r : Part} {a b c : RunState S} {u : Unit {0}} {e : Error}
      → (p.whole a.seen.setting a.seen.progress b.seen.progress → (past : List Entry)
      → q.so_far a.seen.setting b.seen.progress past → r.so_far a.seen.setting a.seen.progress past)
      → RunsPart p a b (Ok u) → RunsPart q b c (Err e) → RunsPart r a c (Err e)
  stop_join {p = p} {q = q} {r = r} {a = a} {b = b} {c = c} {u = u} {e = e} so_far first second =
      record {
        went = tt;
        stopped = stopped_on p q r a b c e so_far first.went second.stopped;
        caused =
            caused_on a.link b.link c.link u (Err e) first.caused second.caused;
      }

  whole_as : {p r : Part} {a b : RunState S} {u : Unit {0}} → (p.whole a.seen.setting a.seen.progress b.seen.progress
      → r.whole a.seen.setting a.seen.progress b.seen.progress) → RunsPart p a b (Ok u) → RunsPart r a b (Ok tt)
  whole_as whole part =
      let w = part.went in
      record {
        went = record { whole = whole w.whole; later = w.later; stays = w.stays; log = w.log; ready = w.ready };
        stopped = tt;
        caused = record {
          cause = part.caused.cause;
          end = tt;
          only = tt;
          service =
              part.caused.service;
        };
      }

  pub stops_as : {p r : Part} {a b : RunState S} {e : Error} → ((past : List Entry)
      → p.so_far a.seen.setting a.seen.progress past → r.so_far a.seen.setting a.seen.progress past)
      → RunsPart p a b (Err e)
      → RunsPart r a b (Err e)
  stops_as {p = p} {r = r} {a = a} {b = b} {e = e} so_far part =
      record { went = tt; stopped = stopped_as p r a b e so_far part.stopped; caused = part.caused }

  -- what lanes go by stays
  pub same_setting : {p : Part} {a b : RunState S} {u : Unit {0}} → RunsPart p a b (Ok u) → b.seen.setting
      ≡ a.seen.setting
  same_setting {a = a} {b = b} part = setting_stays a.seen b.seen part.went.stays

  -- ---- turns of a schedule

  pub turns_begin : (ts : List Turn) (a : SessionView) (x : LinkView S) → IsReady (run_state a x)
      → RunsPart (first_turns ts 0) (run_state a x) (run_state a x) (Ok tt)
  turns_begin ts a x ready = idle (first_turns ts 0) a x tt refl ready

  pub turns_next : (ts : List Turn) (i : ℕ) (t : Turn) {a b c : RunState S} {u v : Unit {0}} → take (i + 1) ts
      ≡ take i ts
      ++ t ∷ [] → RunsPart (first_turns ts i) a b (Ok u) → RunsPart (turn_of t) b c (Ok v)
      → RunsPart (first_turns ts (i + 1)) a c (Ok tt)
  turns_next ts i t {a = a} {b = b} {c = c} cut first next = whole_join
      (λ r q. turns_on a.seen.setting ts i t a.seen.progress b.seen.progress c.seen.progress cut r q) first next

  pub turns_fail : (ts : List Turn) (i : ℕ) (t : Turn) {a b c : RunState S} {u : Unit {0}} {e : Error} → take (i + 1) ts
      ≡ take i ts ++ t ∷ [] → RunsPart (first_turns ts i) a b (Ok u) → RunsPart (turn_of t) b c (Err e)
      → RunsPart (turns_of ts) a c (Err e)
  turns_fail ts i t {a = a} {b = b} cut first next = stop_join
      (λ r past part. turns_stop a.seen.setting ts i t a.seen.progress b.seen.progress past cut r part) first next

  pub turns_done : (ts : List Turn) (i : ℕ) {a b : RunState S} {u : Unit {0}} → take i ts ≡ ts
      → RunsPart (first_turns ts i) a b (Ok u) → RunsPart (turns_of ts) a b (Ok tt)
  turns_done ts i {a = a} {b = b} all part = whole_as (λ r. subst
      (λ (w : List Turn). (turns_of w).whole a.seen.setting a.seen.progress b.seen.progress) all r) part

  -- ---- rounds of a lane

  left_by : (lane : ℕ) (p : Part) (a b : RunState S) (u : Unit {0})
      → current b.seen.setting b.seen.progress.past lane ≢ None
      → RunsPart p a b (Ok u) → current a.seen.setting b.seen.progress.past lane ≢ None
  left_by lane p a b u left part = subst (λ (s : Setting). current s b.seen.progress.past lane ≢ None)
      (same_setting part) left

  pub lane_begin : (lane : ℕ) (a : SessionView) (x : LinkView S) → IsReady (run_state a x)
      → RunsPart (some_rounds lane) (run_state a x) (run_state a x) (Ok tt)
  lane_begin lane a x ready = idle (some_rounds lane) a x tt (record { rounds = 0; went = refl }) ready

  pub lane_next : (lane : ℕ) {a b c : RunState S} {u v : Unit {0}}
      → current b.seen.setting b.seen.progress.past lane ≢ None
      → RunsPart (some_rounds lane) a b (Ok u) → RunsPart (turns_of (round_of lane)) b c (Ok v)
      → RunsPart (some_rounds lane) a c (Ok tt)
  lane_next lane {a = a} {b = b} {c = c} {u = u} left first next =
      whole_join (λ r q. some_rounds_more a.seen.setting lane a.seen.progress b.seen.progress c.seen.progress r
      (left_by lane (some_rounds lane) a b u left first) q) first next

  pub lane_fail : (lane : ℕ) {a b c : RunState S} {u : Unit {0}} {e : Error}
      → current b.seen.setting b.seen.progress.past lane ≢ None → RunsPart (some_rounds lane) a b (Ok u)
      → RunsPart (turns_of (round_of lane)) b c (Err e) → RunsPart (lane_of lane) a c (Err e)
  lane_fail lane {a = a} {b = b} {u = u} left first next =
      stop_join (λ r past part. record {
        rounds = r.rounds;
        mid = b.seen.progress;
        whole = r.went;
        left =
            left_by lane (some_rounds lane) a b u left first;
        part = part;
      }) first next

  pub lane_done : (lane : ℕ) {a b : RunState S} {u : Unit {0}} → current b.seen.setting b.seen.progress.past lane ≡ None
      → RunsPart (some_rounds lane) a b (Ok u) → RunsPart (lane_of lane) a b (Ok tt)
  lane_done lane {b = b} none part = whole_as (λ r. record {
    rounds = r.rounds;
    went = r.went;
    done =
        subst (λ (s : Setting). current s b.seen.progress.past lane ≡ None) (same_setting part) none;
  }) part

  -- ---- rounds of each lane

  pub ends_begin : (a : SessionView) (x : LinkView S) → IsReady (run_state a x)
      → RunsPart (first_ends 0) (run_state a x) (run_state a x) (Ok tt)
  ends_begin a x ready = idle (first_ends 0) a x tt refl ready

  pub ends_next : (lane : ℕ) {a b c : RunState S} {u v : Unit {0}} → RunsPart (first_ends lane) a b (Ok u)
      → RunsPart (lane_of lane) b c (Ok v) → RunsPart (first_ends (lane + 1)) a c (Ok tt)
  ends_next lane {a = a} {b = b} {c = c} first next = whole_join
      (λ r q. ends_more a.seen.setting lane q.rounds a.seen.progress b.seen.progress c.seen.progress r q.went q.done)
      first next

  pub ends_fail : (lane : ℕ) {a b c : RunState S} {u : Unit {0}} {e : Error} → lane < length a.seen.setting.lanes
      → RunsPart (first_ends lane) a b (Ok u) → RunsPart (lane_of lane) b c (Err e) → RunsPart lanes_end a c (Err e)
  ends_fail lane {b = b} there first next = stop_join (λ r past part. record
      { lane = lane; mid = b.seen.progress; there = there; whole = r; part = part }) first next

  pub ends_done : (n : ℕ) {a b : RunState S} {u : Unit {0}} → n ≡ length a.seen.setting.lanes
      → RunsPart (first_ends n) a b (Ok u) → RunsPart lanes_end a b (Ok tt)
  ends_done n {a = a} {b = b} all part = whole_as (λ r. subst
      (λ (k : ℕ). EndsTo a.seen.setting k a.seen.progress b.seen.progress) all r) part

  -- ---- the letting go of each lane

  pub go_begin : (a : SessionView) (x : LinkView S) → IsReady (run_state a x)
      → RunsPart (first_go 0) (run_state a x) (run_state a x) (Ok tt)
  go_begin a x ready = idle (first_go 0) a x tt refl ready

  pub go_next : (lane : ℕ) {a b c : RunState S} {u v : Unit {0}} → RunsPart (first_go lane) a b (Ok u)
      → RunsPart (let_go_of lane) b c (Ok v) → RunsPart (first_go (lane + 1)) a c (Ok tt)
  go_next lane {a = a} {b = b} {c = c} first next = whole_join
      (λ r q. lets_go_more a.seen.setting lane a.seen.progress b.seen.progress c.seen.progress r q) first next

  pub go_fail : (lane : ℕ) {a b c : RunState S} {u : Unit {0}} {e : Error} → lane < length a.seen.setting.lanes
      → RunsPart (first_go lane) a b (Ok u) → RunsPart (let_go_of lane) b c (Err e) → RunsPart lanes_go a c (Err e)
  go_fail lane {b = b} there first next = stop_join (λ r past part. record
      { lane = lane; mid = b.seen.progress; there = there; whole = r; part = part }) first next

  pub go_all : (n : ℕ) {a b : RunState S} {u : Unit {0}} → n ≡ length a.seen.setting.lanes
      → RunsPart (first_go n) a b (Ok u) → RunsPart lanes_go a b (Ok tt)
  go_all n {a = a} {b = b} all part = whole_as (λ r. subst (λ (k : ℕ). LetsGoTo a.seen.setting k a.seen.progress
      b.seen.progress) all r) part

  pub go_there : (lane : ℕ) {a b : RunState S} {u : Unit {0}} → lane < length a.seen.setting.lanes
      → RunsPart (first_go lane) a b (Ok u) → lane < length b.seen.setting.lanes
  go_there lane there part = subst (λ (s : Setting). lane < length s.lanes) (sym (same_setting part)) there

  pub go_idle : (lane : ℕ) {a b : RunState S} {u : Unit {0}} (k : ℕ) → current a.seen.setting a.seen.progress.past k
      ≡ None
      → RunsPart (first_go lane) a b (Ok u) → current b.seen.setting b.seen.progress.past k ≡ None
  go_idle lane {a = a} {b = b} k none part = subst (λ (s : Setting). current s b.seen.progress.past k ≡ None)
      (sym (same_setting part)) (go_done a.seen.setting lane a.seen.progress b.seen.progress part.went.whole k none)

  pub go_held : (lane : ℕ) {a b : RunState S} {u : Unit {0}} → was_let_go a.seen.progress.past lane ≡ false
      → RunsPart (first_go lane) a b (Ok u) → was_let_go b.seen.progress.past lane ≡ false
  go_held lane {a = a} {b = b} held part = go_holds a.seen.setting lane a.seen.progress b.seen.progress part.went.whole
      lane (omega arith) held

  -- ---- the last replies

  pub drains_begin : (a : SessionView) (x : LinkView S) → IsReady (run_state a x)
      → RunsPart some_drains (run_state a x) (run_state a x) (Ok tt)
  drains_begin a x ready = idle some_drains a x tt (record { drains = 0; went = refl }) ready

  pub drains_next : {a b c : RunState S} {u v : Unit {0}} → 0 < count_unanswered b.seen.progress.past
      → RunsPart some_drains a b (Ok u)
      → RunsPart (turns_of drain_of) b c (Ok v) → RunsPart some_drains a c (Ok tt)
  drains_next {a = a} {b = b} {c = c} some first next = whole_join
      (λ r q. some_drains_more a.seen.setting a.seen.progress b.seen.progress c.seen.progress r some q) first next

  pub drains_fail : {a b c : RunState S} {u : Unit {0}} {e : Error} → 0 < count_unanswered b.seen.progress.past
      → RunsPart some_drains a b (Ok u) → RunsPart (turns_of drain_of) b c (Err e) → RunsPart drain_part a c (Err e)
  drains_fail {b = b} some first next = stop_join (λ r past part. record
      { drains = r.drains; mid = b.seen.progress; whole = r.went; left = some; part = part }) first next

  pub drains_done : {a b : RunState S} {u : Unit {0}} → count_unanswered b.seen.progress.past ≡ 0
      → RunsPart some_drains a b (Ok u) → RunsPart drain_part a b (Ok tt)
  drains_done none part = whole_as (λ r. record { drains = r.drains; went = r.went; answered = none }) part

  -- ---- turns in a row

  -- the first of them was stopped
  pub first_fails : (t : Turn) (ts : List Turn) {a b : RunState S} {e : Error} → RunsPart (turn_of t) a b (Err e)
      → RunsPart (turns_of (t ∷ ts)) a b (Err e)
  first_fails t ts {e = e} part = stops_as (λ past so_far. inl so_far) part

  -- the first of them went on, and then come the others
  pub first_then : (t : Turn) (ts : List Turn) {a b c : RunState S} {u : Unit {0}} {result : Result (Unit {0}) Error}
      → RunsPart (turn_of t) a b (Ok u) → RunsPart (turns_of ts) b c result → RunsPart (turns_of (t ∷ ts)) a c result
  first_then t ts {a = a} {b = b} {c = c} first rest = join (λ r q. (b.seen.progress, (r, q)))
      (λ r past part. inr (b.seen.progress, (r, part))) first rest

  -- the last of them
  pub last_is : (t : Turn) {a b : RunState S} {result : Result (Unit {0}) Error} → RunsPart (turn_of t) a b result
      → RunsPart (turns_of (t ∷ [])) a b result
  last_is t {b = b} part = as_part (λ r. (b.seen.progress, (r, refl))) (λ past so_far. inl so_far) part
