-- The steps of the machine's run that serves a journal.
use Rattle.std.proofs.Common.{◌≡◌, ◌≢◌, ◌<◌, ◌≤◌, ◌+◌, ℕ, List, [], ◌∷◌, ◌++◌, refl, ap, sym, subst, arith, inl, inr}
use Rattle.std.specs.Prelude.{◌⊎◌, drop}
use Rattle.std.proofs.lemmas.List.{append-nil}
use Rattle.sftp_model.specs.declared.config.Choice.{Choice}
use Rattle.sftp_model.specs.declared.config.ServerConfig.{ServerConfig}
use Rattle.sftp_model.specs.declared.request.Request.{Request}
use Rattle.machine_model.specs.FileTree.{FileTree}
use Rattle.machine_model.specs.TreeAnswers.{apply, first_choice}
use Rattle.plan_model.specs.Moves.{Own}
use Rattle.session_model.specs.declared.entry.Entry.{Entry}
use Rattle.session_model.specs.declared.entry.Entry.TheVariants as entry
use Rattle.session_model.specs.declared.event.Event.TheVariants.{Send, Submit}
use Rattle.session_model.specs.declared.event.Owner.{Owner}
use Rattle.session_model.specs.declared.event.Owner.TheVariants as owner
use Rattle.session_model.specs.Readings.{answer, count_submitted}
use Rattle.session_model.specs.Served.{ServesJournal, ServesAll, served_request, requests_of, requests_sent}
use Rattle.run_laws.specs.Steps.{
  Step,
  after,
  AreAllowed,
  AreServed,
  ChooseOnly,
  FeignNoEnd,
  FeignsNoEnd,
  HasPlace,
  AreDistinct,
  IsAnyChoice,
  asked_in,
  RefuseNone,
  RefusesNone,
  RunOf,
}

-- ---- no two requests have one place

abbrev pub HasRequest : Own → ℕ → Type 0
HasRequest [] place = ⊥
HasRequest (r ∷ requests) place = (r.0 ≡ place) ⊎ HasRequest requests place

abbrev AreApart : Own → Type 0
AreApart [] = Unit {0}
AreApart (r ∷ requests) = ((place : ℕ) → HasRequest requests place → r.0 ≢ place) × AreApart requests

-- all places are below this one
abbrev AreBelow : ℕ → Own → Type 0
AreBelow n [] = Unit {0}
AreBelow n (r ∷ requests) = (r.0 < n) × AreBelow n requests

-- the places of requests of which the next has place n
abbrev ArePlaced : ℕ → Own → Type 0
ArePlaced n requests = AreApart requests × AreBelow n requests

below_more : (n m : ℕ) (requests : Own) → n ≤ m → AreBelow n requests → AreBelow m requests
below_more n m [] le below = tt
below_more n m (r ∷ requests) le below = (let lt = below.0 in omega (arith, lt, le), below_more n m requests le below.1)

below_push : (n : ℕ) (requests : Own) (r : ℕ × Request) → AreBelow n requests → r.0 < n
    → AreBelow n (requests ++ r ∷ [])
below_push n [] r below lt = (lt, tt)
below_push n (first ∷ requests) r below lt = (below.0, below_push n requests r below.1 lt)

has_push : (requests : Own) (r : ℕ × Request) (place : ℕ) → HasRequest (requests ++ r ∷ []) place
    → HasRequest requests place ⊎ (r.0 ≡ place)
has_push [] r place (inl e) = inr e
has_push [] r place (inr h) = absurd h
has_push (first ∷ requests) r place (inl e) = inl (inl e)
has_push (first ∷ requests) r place (inr h) = elim (has_push requests r place h)
    [ inl old ↦ inl (inr old) | inr e ↦ inr e ]

apart_push : (requests : Own) (n : ℕ) (r : Request) → AreBelow n requests → AreApart requests
    → AreApart (requests ++ (n, r) ∷ [])
apart_push [] n r below apart = (λ place h. absurd h, tt)
apart_push (first ∷ requests) n r below apart = (
  λ place h. elim (has_push requests (n, r) place h) [
    | inl old ↦ apart.0 place old
    | inr e ↦ λ same. (let lt = below.0 in let here : n ≡ place = e in omega (arith, lt, here, same))
  ],
  apart_push requests n r below.1 apart.1,
)

placed_push : (requests : Own) (n : ℕ) (r : Request) → ArePlaced n requests
    → ArePlaced (n + 1) (requests ++ (n, r) ∷ [])
placed_push requests n r placed = (
  apart_push requests n r placed.1 placed.0,
  below_push (n + 1) requests (n, r)
      (below_more n (n + 1) requests (omega arith) placed.1) (omega arith),
)

counted_placed : (past : List Entry) (by : Owner) (r : Request) → ArePlaced (count_submitted past) (requests_of past)
    → ArePlaced (count_submitted past + 1) (requests_of past ++ served_request by (count_submitted past) r)
counted_placed past owner.Setup r placed =
    subst (ArePlaced (count_submitted past + 1)) (sym (append-nil (requests_of past)))
    (placed.0, below_more (count_submitted past) (count_submitted past + 1) (requests_of past) (omega arith) placed.1)
counted_placed past owner.Close r placed = placed_push (requests_of past) (count_submitted past) r placed
counted_placed past (owner.Call lane call) r placed = placed_push (requests_of past) (count_submitted past) r placed

requests_placed : (past : List Entry) → ArePlaced (count_submitted past) (requests_of past)
requests_placed [] = (tt, tt)
requests_placed (entry.Event (Submit by id r) ∷ past) = counted_placed past by r (requests_placed past)
requests_placed (_ ∷ past) = requests_placed past

sent_apart : (past : List Entry) → AreApart (requests_sent past)
sent_apart [] = tt
sent_apart (entry.Event Send ∷ past) = (requests_placed past).0
sent_apart (_ ∷ past) = sent_apart past

-- ---- the steps

abbrev pub steps_of : (config : ServerConfig) (past : List Entry) (tree : FileTree) (choices : List Choice)
    (requests : Own) (now : FileTree) → ServesAll config past tree choices requests now → List Step
steps_of config past tree choices [] now s = []
steps_of config past tree choices (r ∷ requests) now s =
    record { place = r.0; request = r.1; choice = first_choice choices; handle = s.0 }
    ∷ steps_of config past (apply tree config r.1 (first_choice choices) s.0).1 (drop 1 choices) requests now s.1.2

pub steps_ask : (config : ServerConfig) (past : List Entry) (tree : FileTree) (choices : List Choice) (requests : Own)
    (now : FileTree) (s : ServesAll config past tree choices requests now)
    → asked_in (steps_of config past tree choices requests now s) ≡ requests
steps_ask config past tree choices [] now s = refl
steps_ask config past tree choices (r ∷ requests) now s =
    ap (λ (w : Own). r ∷ w) (steps_ask config past (apply tree config r.1 (first_choice choices) s.0).1 (drop 1 choices)
    requests now s.1.2)

pub steps_served : (config : ServerConfig) (past : List Entry) (tree : FileTree) (choices : List Choice)
    (requests : Own) (now : FileTree) (s : ServesAll config past tree choices requests now)
    → AreServed config (answer past) tree (steps_of config past tree choices requests now s)
steps_served config past tree choices [] now s = tt
steps_served config past tree choices (r ∷ requests) now s = (
  s.1.0,
  s.1.1,
  steps_served config past (apply tree config r.1 (first_choice choices) s.0).1 (drop 1 choices)
      requests now s.1.2,
)

pub steps_leave : (config : ServerConfig) (past : List Entry) (tree : FileTree) (choices : List Choice) (requests : Own)
    (now : FileTree) (s : ServesAll config past tree choices requests now)
    → now ≡ after config tree (steps_of config past tree choices requests now s)
steps_leave config past tree choices [] now s = s
steps_leave config past tree choices (r ∷ requests) now s = steps_leave config past
    (apply tree config r.1 (first_choice choices) s.0).1 (drop 1 choices) requests now s.1.2

has_request : (config : ServerConfig) (past : List Entry) (tree : FileTree) (choices : List Choice) (requests : Own)
    (now : FileTree) (s : ServesAll config past tree choices requests now) (place : ℕ)
    → HasPlace (steps_of config past tree choices requests now s) place → HasRequest requests place
has_request config past tree choices [] now s place h = h
has_request config past tree choices (r ∷ requests) now s place (inl e) = inl e
has_request config past tree choices (r ∷ requests) now s place (inr h) =
    inr (has_request config past (apply tree config r.1 (first_choice choices) s.0).1 (drop 1 choices) requests now
    s.1.2 place h)

steps_distinct : (config : ServerConfig) (past : List Entry) (tree : FileTree) (choices : List Choice) (requests : Own)
    (now : FileTree) (s : ServesAll config past tree choices requests now) → AreApart requests
    → AreDistinct (steps_of config past tree choices requests now s)
steps_distinct config past tree choices [] now s apart = tt
steps_distinct config past tree choices (r ∷ requests) now s apart = (
  λ place h. apart.0 place (has_request config past (apply tree config r.1 (first_choice choices) s.0).1
      (drop 1 choices) requests now s.1.2 place h),
  steps_distinct config past (apply tree config r.1 (first_choice choices) s.0).1 (drop 1 choices) requests now s.1.2
      apart.1,
)

-- ---- choices

first_allowed : (allowed : Choice → Type 0) (choices : List Choice) → AreAllowed allowed choices
    → allowed (first_choice choices)
first_allowed allowed [] h = h
first_allowed allowed (c ∷ choices) h = h.0

rest_allowed : (allowed : Choice → Type 0) (choices : List Choice) → AreAllowed allowed choices
    → AreAllowed allowed (drop 1 choices)
rest_allowed allowed [] h = h
rest_allowed allowed (c ∷ choices) h = h.1

pub steps_chosen : (allowed : Choice → Type 0) (config : ServerConfig) (past : List Entry) (tree : FileTree)
    (choices : List Choice) (requests : Own) (now : FileTree) (s : ServesAll config past tree choices requests now)
    → AreAllowed allowed choices → ChooseOnly allowed (steps_of config past tree choices requests now s)
steps_chosen allowed config past tree choices [] now s h = tt
steps_chosen allowed config past tree choices (r ∷ requests) now s h = (
  first_allowed allowed choices h,
  steps_chosen allowed config past (apply tree config r.1 (first_choice choices) s.0).1 (drop 1 choices) requests now
      s.1.2 (rest_allowed allowed choices h),
)

-- where they refuse nothing, where they feign no end, and where they are any
pub none_refused : (choices : List Choice) → RefuseNone choices → AreAllowed RefusesNone choices
none_refused [] h = refl
none_refused (c ∷ choices) h = (h.0, none_refused choices h.1)

pub none_feigned : (choices : List Choice) → FeignNoEnd choices → AreAllowed FeignsNoEnd choices
none_feigned [] h = λ e. cc
none_feigned (c ∷ choices) h = (h.0, none_feigned choices h.1)

pub any_allowed : (choices : List Choice) → AreAllowed IsAnyChoice choices
any_allowed [] = tt
any_allowed (c ∷ choices) = (tt, any_allowed choices)

-- ---- the run

pub run_of : (config : ServerConfig) (choices : List Choice) (first : FileTree) (past : List Entry) (now : FileTree)
    → ServesJournal config choices first past now → RunOf config choices first past now
run_of config choices first past now serves =
    let s : ServesAll config past first choices (requests_sent past) now = serves.0 in
    record {
      steps = steps_of config past first choices (requests_sent past) now s;
      asks = steps_ask config past first choices (requests_sent past) now s;
      served = steps_served config past first choices (requests_sent past) now s;
      leaves = steps_leave config past first choices (requests_sent past) now s;
      distinct = steps_distinct config past first choices (requests_sent past) now s (sent_apart past);
    }

-- each of its steps has one of the choices
pub run_chosen : (allowed : Choice → Type 0) (config : ServerConfig) (choices : List Choice) (first : FileTree)
    (past : List Entry) (now : FileTree) (serves : ServesJournal config choices first past now)
    → AreAllowed allowed choices
    → ChooseOnly allowed (run_of config choices first past now serves).steps
unfolding run_of
run_chosen allowed config choices first past now serves h = steps_chosen allowed config past first choices
    (requests_sent past) now serves.0 h
