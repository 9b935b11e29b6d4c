-- A turn that leaves no entry spends a ticket, or is the first that awaits a reply.
use Rattle.std.proofs.Common.{arith, ◌≡◌, ◌<◌, ℕ, zero, suc, true, false, List, [], ◌∷◌, Option, Some, None, ap, sym, ◌∙◌}
use Rattle.std.specs.Prelude.{is_some, length, slice_get}
use Rattle.sftp_core.specs.Core.{Core}
use Rattle.plan_runner.specs.declared.next.Next.{Next}
use Rattle.plan_runner.specs.declared.next.Next.TheVariants as step
use Rattle.plan_runner.specs.declared.next.Running.{Running}
use Rattle.plan_runner.specs.Asking.{BeginsAsking, GoesOnAsking}
use Rattle.plan_runner.specs.Runners.{awaited_place}
use Rattle.session_laws.specs.Lanes.{Held, LaneValue, Ticketed}
use Rattle.session_laws.specs.Places.{without_index}
use Rattle.session_laws.specs.Rest.{awaited_in}
use Rattle.session_work.specs.Turning.{IsActive, SettlesMove, Begun, Replied, Unreplied, Waiting, Widening}
use Rattle.plan_window.specs.declared.window.ReadAt.{ReadAt}
use Rattle.session_work.specs.Rests.{AwaitsOne, WentTurnsAreFew}
use Rattle.session_work.specs.declared.lane.Moved.TheVariants as moved

fewer : (ts : List Ticketed) (k : ℕ) (t : Ticketed) → slice_get ts k ≡ Some t → length (without_index k ts) < length ts
fewer [] k t here = absurd cc
fewer (x ∷ xs) zero t here = omega arith
fewer (x ∷ xs) (suc k) t here = (let less : length (without_index k xs) < length xs = fewer xs k t here in
    omega (arith, less))

-- what a runner that goes on without an entry waits for
abbrev LooksAt : LaneValue → Next → Type 0
LooksAt now (step.Wait r) = is_some (awaited_place r now.site) ≡ true
LooksAt now other = Unit {0}

begun_looks : (opened : Option ℕ) (place : ℕ) (v now : LaneValue) (n : Next)
    → BeginsAsking opened place v.site now.site n → LooksAt now n
begun_looks opened place v now (step.Wait r) asks = asks.0.some
begun_looks opened place v now (step.Ask a r) asks = tt
begun_looks opened place v now (step.Done o) asks = tt

on_looks : (opened : Option ℕ) (place : ℕ) (reads : List ReadAt) (v now : LaneValue) (n : Next)
    → GoesOnAsking opened place reads v.site now.site n → LooksAt now n
on_looks opened place reads v now (step.Wait r) asks = asks.0.some
on_looks opened place reads v now (step.Ask a r) asks = tt
on_looks opened place reads v now (step.Done o) asks = tt

-- no call that goes on while a reply is missing goes on without an entry
never_went : (place : ℕ) (core new : Core) (tickets : List Ticketed) (grants : List Held) (now : LaneValue) (n : Next)
    → IsActive n → SettlesMove core new tickets now.tickets grants now.grants now.running place n moved.Went → ⊥
never_went place core new tickets grants now (step.Wait r) active settles = active
never_went place core new tickets grants now (step.Ask a r) active settles = settles
never_went place core new tickets grants now (step.Done o) active settles =
    (let clash : moved.Went ≡ moved.Ended o = settles.2 in absurd cc)

-- it awaits a reply then, and has the tickets that were left
went_waits : (place : ℕ) (core new : Core) (tickets : List Ticketed) (grants : List Held) (now : LaneValue) (n : Next)
    → SettlesMove core new tickets now.tickets grants now.grants now.running place n moved.Went → LooksAt now n
    → AwaitsOne now × (now.tickets ≡ tickets)
went_waits place core new tickets grants now (step.Wait r) settles looks =
    (ap (λ (o : Option Running). is_some (awaited_in o now.site)) settles.1 ∙ looks, settles.0.pushed)
went_waits place core new tickets grants now (step.Ask a r) settles looks = absurd settles
went_waits place core new tickets grants now (step.Done o) settles looks =
    absurd (let clash : moved.Went ≡ moved.Ended o = settles.2 in cc)

-- a lane that awaited none had no such reply
none_awaited : (v : LaneValue) → awaited_in v.running v.site ≡ None → AwaitsOne v → ⊥
none_awaited v none some = (let clash : false ≡ true = sym (ap is_some none) ∙ some in cc)

pub went_few : WentTurnsAreFew
went_few c facts place core new v now (Begun x) =
    (let w = went_waits place core new v.tickets v.grants now x.answer x.settles
    (begun_looks None place v now x.answer x.asks) in
    let same : length now.tickets ≡ length v.tickets = ap (λ (ts : List Ticketed). length ts) w.1 in (
      w.0,
      omega (arith, same),
      λ some. absurd (none_awaited v (ap (λ (o : Option Running). awaited_in o v.site) x.was)
          some),
    ))
went_few c facts place core new v now (Replied x) =
    (let w = went_waits place x.between new x.tickets x.grants now x.answer x.settles
    (on_looks _ place _ v now x.answer x.asks) in
    let less : length (without_index x.spent.k v.tickets) < length v.tickets = fewer v.tickets x.spent.k _ x.spent.here
    in
    let same : length now.tickets ≡ length (without_index x.spent.k v.tickets) =
    ap (λ (ts : List Ticketed). length ts) (w.1 ∙ x.spent.rest) in
    (w.0, omega (arith, less, same), λ some. omega (arith, less, same)))
went_few c facts place core new v now (Unreplied x) =
    (let w = went_waits place core new v.tickets v.grants now x.answer x.settles
    (on_looks _ place _ v now x.answer x.asks) in
    let same : length now.tickets ≡ length v.tickets = ap (λ (ts : List Ticketed). length ts) w.1 in (
      w.0,
      omega (arith, same),
      λ some. absurd (none_awaited v (ap (λ (o : Option Running). awaited_in o v.site) x.was
          ∙ x.looks) some),
    ))
went_few c facts place core new v now (Widening x) = absurd (never_went place core new v.tickets v.grants now x.answer
    x.active x.settles)
went_few c facts place core new v now (Waiting x) = absurd (let clash : moved.Went ≡ moved.Waits = x.is in cc)
