-- Steps of sizes that are asked for.
use Rattle.std.proofs.Common.{◌≡◌, ◌≤◌, ◌<◌, ◌+◌, ◌-◌, ◌^◌, ◌∙◌, List, ℕ, zero, suc, [], ◌∷◌, ◌++◌, length, arith, ap, refl, subst, sym, inl, inr}
use Rattle.std.specs.Prelude.{Option, Ok, Err, IsSome, drop, get_or}
use Rattle.std.specs.VecDeque.{deque_capacity}
use Rattle.std.specs.declared.collections.VecDeque.{VecDeque}
use Rattle.std.specs.Global.{Global}
use Rattle.std.proofs.lemmas.List.{drop_all, drop_more}
use Rattle.sftp_model.specs.declared.error.Error.{Error}
use Rattle.sftp_model.specs.declared.file_attrs.FileAttrs.{FileAttrs}
use Rattle.sftp_core.specs.Core.{Core}
use Rattle.sftp_core.specs.Info.{info_of}
use Rattle.sftp_link.specs.Views.{LinkView}
use Rattle.plan_state.specs.declared.poll.Poll.TheVariants.{Pending, Ready}
use Rattle.plan_state.specs.Calls.{CallValue, CancelsAwaited, StepsByPlan}
use Rattle.plan_state.specs.Keeping.{KeepsHeld}
use Rattle.sftp_file.specs.declared.short_calls.Telling.{Telling}
use Rattle.sftp_file.specs.Tells.{attrs_meaning}
use Rattle.sftp_client.specs.Sessions.{FlushesQueue, SftpValue, TakesOrKept, with_core}
use Rattle.sftp_client.specs.Waits.{SendsAndTakes}
use Rattle.sftp_client.proofs.Waiting.{fail_stays, round_stays, round_unfaulted}
use Rattle.sftp_client.specs.Calls.{IsUsable}
use Rattle.example_client.specs.Sizes.{AreCallsAwaited, AreSizes, AreCallsUnderWay, GoesBySteps, SizesProgress, IsAsked, IsStep, sizes_progress_of}
use Rattle.example_client.proofs.Asking.{awaited_kept, awaited_more, awaited_still, nothing_left}
use Rattle.example_client.proofs.Progress.{first_step, steps_both, steps_on}

-- ---- the oldest call is heard

-- it was answered, and nothing of it is left
pub tells_first : {L S : Type 0} (state : L → LinkView S) (old new : SftpValue L) (mid : Core)
    (call ended : CallValue Telling)
    (later : List (CallValue Telling)) (attrs : FileAttrs) (paths : List (List ℕ)) (sizes more : List (Option ℕ))
    → StepsByPlan attrs_meaning old.core mid call ended (Ready (Ok attrs)) → CancelsAwaited mid new.core ended.stage
    → new ≡ with_core old new.core
    → more ≡ sizes ++ attrs.size ∷ [] → GoesBySteps state (sizes_progress_of old paths (call ∷ later) sizes)
    (sizes_progress_of new paths later more)
tells_first state old new mid call ended later attrs paths sizes more polls cancels left last =
    let same = nothing_left mid new.core ended.stage polls.over cancels in
    first_step (IsStep state) (sizes_progress_of old paths (call ∷ later) sizes) (sizes_progress_of new paths later more)
    (inl (inr (record {
      call = call;
      ended = ended;
      attrs = attrs;
      polls = subst (λ (k : Core). StepsByPlan attrs_meaning old.core k call ended (Ready (Ok attrs))) (sym same) polls;
      left = left;
      first = refl;
      last = last;
      paths = refl;
    })))

-- it has no answer yet, and a round went well
pub awaits_first : {L S : Type 0} (state : L → LinkView S) (old mid new : SftpValue L) (call after : CallValue Telling)
    (later : List (CallValue Telling)) (paths : List (List ℕ)) (sizes : List (Option ℕ))
    → StepsByPlan attrs_meaning old.core mid.core call after Pending
    → mid ≡ with_core old mid.core → SendsAndTakes state mid new
    → GoesBySteps state (sizes_progress_of old paths (call ∷ later) sizes)
    (sizes_progress_of new paths (after ∷ later) sizes)
awaits_first state old mid new call after later paths sizes polls left round =
    let here = sizes_progress_of old paths (call ∷ later) sizes in
    let polled = sizes_progress_of mid paths (after ∷ later) sizes in
    steps_on (IsStep state) here polled (sizes_progress_of new paths (after ∷ later) sizes)
    (first_step (IsStep state) here polled (inr (inl (record {
      call = call;
      after = after;
      later = later;
      polls = polls;
      left = left;
      was = refl;
      is = refl;
    })))) (inr (inr (record { round = round; is = refl })))

-- ---- what a round leaves

-- an open session with calls of which the oldest was polled
pub record StillAwaited {L : Type 0} (s : SftpValue L) (calls : List (CallValue Telling)) : Type 0 where
  pub opened : IsSome (info_of s.core.phase)
  pub awaited : AreCallsAwaited s.core calls

pub polled_still : {L S : Type 0} (state : L → LinkView S) (old mid : SftpValue L) (call after : CallValue Telling)
    (later : List (CallValue Telling)) → AreCallsUnderWay state old (call ∷ later)
    → StepsByPlan attrs_meaning old.core mid.core call after Pending
    → StillAwaited mid (after ∷ later)
polled_still state old mid call after later u polls =
    record {
      opened = polls.grants.opened u.usable.opened;
      awaited =
          awaited_still old.core mid.core call after later u.awaited polls;
    }

pub flush_leaves : {L S : Type 0} (state : L → LinkView S) (mid new : SftpValue L) (calls : List (CallValue Telling))
    (e : Error)
    → StillAwaited mid calls → FlushesQueue state mid new (Err e) → AreCallsAwaited new.core calls
flush_leaves state mid new calls e s h = awaited_kept mid.core new.core calls
    (fail_stays state mid new e s.opened (inl h)) s.awaited

pub take_leaves : {L S : Type 0} (state : L → LinkView S) (mid sent new : SftpValue L)
    (calls : List (CallValue Telling)) (e : Error)
    → StillAwaited mid calls → FlushesQueue state mid sent (Ok tt) → TakesOrKept state sent new (Err e)
    → AreCallsAwaited new.core calls
take_leaves state mid sent new calls e s h t =
    awaited_kept mid.core new.core calls (fail_stays state mid new e s.opened (inr (sent, (h, t)))) s.awaited

pub round_leaves : {L S : Type 0} (state : L → LinkView S) (mid new : SftpValue L) (calls : List (CallValue Telling))
    → StillAwaited mid calls → SendsAndTakes state mid new → AreCallsAwaited new.core calls
round_leaves state mid new calls s r = awaited_kept mid.core new.core calls (round_stays state mid new s.opened r)
    s.awaited

pub round_usable : {L S : Type 0} (state : L → LinkView S) (old mid new : SftpValue L)
    (calls : List (CallValue Telling)) → IsUsable state old
    → mid ≡ with_core old mid.core → StillAwaited mid calls → SendsAndTakes state mid new → IsUsable state new
round_usable {L = L} state old mid new calls usable left s r =
    let same : (state new.link).faults ≡ (state old.link).faults =
    round_unfaulted state mid new r ∙ ap (λ (x : SftpValue L). (state x.link).faults) left in
    record {
      opened = (round_stays state mid new s.opened r).grants.opened s.opened;
      count = subst (λ (n : ℕ). n < 2 ^ 64 - 1) (sym same) usable.count;
    }

-- ---- turns

-- what holds between two turns: so many of all paths are asked for
pub record SizesOn {L S : Type 0} (state : L → LinkView S) (all : List (List ℕ)) (old : SftpValue L) (asked : ℕ)
    (new : SftpValue L)
    (calls : VecDeque (CallValue Telling) Global) (sizes : List (Option ℕ)) : Type 0 where
  pub goes : GoesBySteps state (sizes_progress_of old all [] [])
      (sizes_progress_of new (drop asked all) calls.items sizes)
  pub under_way : AreCallsUnderWay state new calls.items
  pub within : asked ≤ length all
  pub room : 64 ≤ deque_capacity calls

pub sizes_first : {L S : Type 0} (state : L → LinkView S) (all : List (List ℕ)) (old : SftpValue L)
    (calls : VecDeque (CallValue Telling) Global)
    → IsUsable state old → calls.items ≡ [] → 64 ≤ deque_capacity calls → SizesOn state all old 0 old calls []
sizes_first state all old calls usable none room =
    record {
      goes = (zero, λ i. sizes_progress_of old all (none i) []);
      under_way = record {
        usable = usable;
        awaited = subst (λ (l : List (CallValue Telling)). AreCallsAwaited old.core
            l) (sym none) tt;
      };
      within = omega arith;
      room = room;
    }

pub sizes_asked : {L S : Type 0} (state : L → LinkView S) (all : List (List ℕ)) (old mid new : SftpValue L) (asked : ℕ)
    (calls later : VecDeque (CallValue Telling) Global) (sizes : List (Option ℕ)) (path : List ℕ)
    (call : CallValue Telling)
    → SizesOn state all old asked mid calls sizes → asked < length all → path ≡ get_or all asked path
    → IsAsked path mid new call
    → KeepsHeld mid.core new.core → IsUsable state new → later.items ≡ calls.items ++ call ∷ []
    → 64 ≤ deque_capacity later
    → SizesOn state all old (asked + 1) new later sizes
sizes_asked state all old mid new asked calls later sizes path call s lt is asks keeps usable last room =
    let next : drop asked all ≡ path ∷ drop (asked + 1) all = drop_more all asked path lt
    ∙ ap (λ y. y ∷ drop (asked + 1) all) (sym is) in
    record {
      goes = steps_on (IsStep state) (sizes_progress_of old all [] []) (sizes_progress_of mid (drop asked all) calls.items sizes)
          (sizes_progress_of new (drop (asked + 1) all) later.items sizes) s.goes
          (inl (inl (record { path = path; call = call; asks = asks; next = next; last = last; sizes = refl })));
      under_way = record {
        usable = usable;
        awaited = subst (λ (l : List (CallValue Telling)). AreCallsAwaited new.core l) (sym last)
            (awaited_more path mid new calls.items call s.under_way.awaited keeps asks);
      };
      within = omega (arith, lt);
      room = room;
    }

pub oldest_under_way : {L S : Type 0} (state : L → LinkView S) (s : SftpValue L)
    (calls later : List (CallValue Telling)) (call : CallValue Telling)
    → AreCallsUnderWay state s calls → calls ≡ call ∷ later → AreCallsUnderWay state s (call ∷ later)
oldest_under_way state s calls later call u is = subst (λ (l : List (CallValue Telling)). AreCallsUnderWay state s l) is
    u

pub sizes_heard : {L S : Type 0} (state : L → LinkView S) (all : List (List ℕ)) (old mid new : SftpValue L) (asked : ℕ)
    (calls later : VecDeque (CallValue Telling) Global) (popped : List (CallValue Telling))
    (sizes more : List (Option ℕ)) (call : CallValue Telling)
    → SizesOn state all old asked mid calls sizes → calls.items ≡ call ∷ popped
    → GoesBySteps state (sizes_progress_of mid (drop asked all) (call ∷ popped) sizes)
    (sizes_progress_of new (drop asked all) later.items more)
    → AreCallsAwaited new.core later.items → IsUsable state new → 64 ≤ deque_capacity later
    → SizesOn state all old asked new later more
sizes_heard state all old mid new asked calls later popped sizes more call s first went awaited usable room =
    record {
      goes = steps_both (IsStep state) (sizes_progress_of old all [] []) (sizes_progress_of mid (drop asked all) (call ∷ popped)
          sizes) (sizes_progress_of new (drop asked all) later.items more)
          (subst (λ (l : List (CallValue Telling)). GoesBySteps state (sizes_progress_of old all [] [])
          (sizes_progress_of mid (drop asked all) l sizes)) first s.goes) went;
      under_way = record { usable = usable; awaited = awaited };
      within = s.within;
      room = room;
    }

pub sizes_as : {L S : Type 0} (state : L → LinkView S) (all : List (List ℕ)) (old : SftpValue L) (asked counted : ℕ)
    (new now : SftpValue L)
    (calls queue : VecDeque (CallValue Telling) Global) (sizes told : List (Option ℕ)) → counted ≡ asked → now ≡ new
    → queue ≡ calls → told ≡ sizes
    → SizesOn state all old asked new calls sizes → SizesOn state all old counted now queue told
sizes_as {L = L} state all old asked counted new now calls queue sizes told a n q t s =
    subst (λ (x : ℕ). SizesOn state all old x now queue told) (sym a)
    (subst (λ (x : SftpValue L). SizesOn state all old asked x queue told) (sym n)
    (subst (λ (x : VecDeque (CallValue Telling) Global). SizesOn state all old asked new x told) (sym q)
    (subst (λ (x : List (Option ℕ)). SizesOn state all old asked new calls x) (sym t) s)))

pub sizes_end : {L S : Type 0} (state : L → LinkView S) (all : List (List ℕ)) (old new : SftpValue L) (asked : ℕ)
    (calls : VecDeque (CallValue Telling) Global) (sizes : List (Option ℕ))
    → SizesOn state all old asked new calls sizes → length all ≤ asked
    → calls.items ≡ [] → AreSizes all state old new sizes
sizes_end {L = L} state all old new asked calls sizes s over none =
    let end : sizes_progress_of new (drop asked all) calls.items sizes ≡ sizes_progress_of new [] [] sizes =
    λ i. sizes_progress_of new (drop_all asked all over i) (none i) sizes in
    subst (λ (x : SizesProgress L). GoesBySteps state (sizes_progress_of old all [] []) x) end s.goes
