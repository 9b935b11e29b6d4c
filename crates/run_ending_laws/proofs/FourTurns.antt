-- Four turns of a lane that goes alone, and what has ended behind them.
use Rattle.std.proofs.Common.{◌≡◌, ◌<◌, ◌≤◌, ◌+◌, ℕ, List, length, ap, sym, ◌∙◌, subst, arith, inl, inr}
use Rattle.std.specs.Prelude.{◌⊎◌, take}
use Rattle.std.proofs.lemmas.List.{take_all}
use Rattle.plan_model.specs.declared.call.Call.{Call}
use Rattle.plan_model.specs.declared.call.Call.TheVariants as call
use Rattle.session_model.specs.declared.turn.Turn.TheVariants as turn
use Rattle.session_model.specs.Calls.{Setting}
use Rattle.session_model.specs.Runs.{TurnsTo}
use Rattle.session_model.specs.Turns.{RunProgress, TurnTo}
use Rattle.run_ending_laws.proofs.Alone.{Told, told}
use Rattle.run_ending_laws.specs.FirstMkdirs.{call_turns}
use Rattle.run_ending_laws.proofs.AloneTurns.{
  mkdirs_of,
  got_within,
  asked_in,
  Rests,
  Waits,
  Goes,
  Is,
  IsFar,
  far_more,
  Goes1,
  step_rests,
}
use Rattle.run_ending_laws.proofs.AloneReplies.{step_waits, step_has, flush_keeps, flush_waits, take_rests, take_waits}

-- the lane rests or waits, and so many of its calls have ended, or all
abbrev pub IsAt : List Call → ℕ → Told → Type 0
IsAt calls n t = (Rests calls t ⊎ Waits calls t) × IsFar calls n t

from_waits : (s : Setting) (lane : ℕ) (calls : List Call) (n : ℕ) (a b c d : RunProgress) → Goes s lane calls
    → Is lane (λ t. Waits calls t × IsFar calls n t) a.past → TurnTo s turn.Flush a b → TurnTo s turn.Take b c
    → TurnTo s (turn.Step lane) c d
    → Is lane (IsAt calls (n + 1)) d.past
from_waits s lane calls n a b c d go w x y z =
    let e = step_has s lane calls n c d go (take_waits s lane calls n b c (flush_waits s lane calls n a b w x) y) z in
    (e.0, (inl e.1.0, e.1.1))

from_rests : (s : Setting) (lane : ℕ) (calls : List Call) (n : ℕ) (a b c d : RunProgress) → Goes s lane calls
    → Is lane (λ t. Rests calls t × IsFar calls n t) a.past → TurnTo s turn.Flush a b → TurnTo s turn.Take b c
    → TurnTo s (turn.Step lane) c d
    → Is lane (IsAt calls n) d.past
from_rests s lane calls n a b c d go (g, r) x y z =
    by_case (step_rests s lane calls n c d go (take_rests s lane calls n b c
    (flush_keeps (Is lane (λ t. Rests calls t × IsFar calls n t)) s a b (λ p h. h) g (g, r) x) y) z)
  where
    by_case : Is lane (Goes1 calls n) d.past → Is lane (IsAt calls n) d.past
    by_case (k, inl (r, far)) = (
      k,
      (
        inl r,
        far_more calls (n + 1) n (told lane d.past) (told lane d.past) far
            (omega arith) (omega arith),
      ),
    )
    by_case (k, inr (w, far)) = (k, (inr w, far))

pub call_goes : (s : Setting) (lane : ℕ) (calls : List Call) (n : ℕ) (before now : RunProgress) → Goes s lane calls
    → Is lane (IsAt calls n) before.past → TurnsTo s (call_turns lane) before now
    → Is lane (IsAt calls (n + 1)) now.past
call_goes s lane calls n before now go (g, (inr w, far)) (a, (step, (b, (flush, (c, (take, (d, (again, e)))))))) =
    subst (λ (x : RunProgress). Is lane (IsAt calls (n + 1)) x.past) (sym e)
    (from_waits s lane calls n a b c d go (step_waits s lane calls n before a go (g, (w, far)) step) flush take again)
call_goes s lane calls n before now go (g, (inl r, far)) (a, (step, (b, (flush, (c, (take, (d, (again, e)))))))) =
    subst (λ (x : RunProgress). Is lane (IsAt calls (n + 1)) x.past) (sym e)
    (by_case (step_rests s lane calls n before a go (g, (r, far)) step))
  where
    by_case : Is lane (Goes1 calls n) a.past → Is lane (IsAt calls (n + 1)) d.past
    by_case (k, inl r) = from_rests s lane calls (n + 1) a b c d go (k, r) flush take again
    by_case (k, inr w) = from_waits s lane calls n a b c d go (k, w) flush take again

-- ---- at the end

-- where all calls have ended, their requests were asked, one after another, and no others
pub all_made : (calls : List Call) (t : Told) → IsAt calls (length calls) t → asked_in t.requests ≡ mkdirs_of calls
all_made calls t (inl r, far) = r.made ∙ ap mkdirs_of (take_all t.done calls (by_far far))
  where
    by_far : IsFar calls (length calls) t → length calls ≤ t.done
    by_far (inl le) = le
    by_far (inr le) = le
all_made calls t (inr w, far) = absurd (let lt = got_within calls t.done (call.Mkdir w.asks.path) w.asks.is in
    by_far far lt)
  where
    by_far : IsFar calls (length calls) t → t.done < length calls → ⊥
    by_far (inl le) lt = omega (arith, le, lt)
    by_far (inr le) lt = omega (arith, le, lt)
