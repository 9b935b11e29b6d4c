-- The parts of a run go on at their ends.
use Rattle.std.proofs.Common.{
  ◌≡◌,
  ◌≢◌,
  ◌<◌,
  ◌≤◌,
  ◌+◌,
  ℕ,
  zero,
  suc,
  Bool,
  true,
  false,
  List,
  [],
  ◌∷◌,
  ◌++◌,
  take,
  length,
  add-one,
  None,
  refl,
  ap,
  sym,
  ◌∙◌,
  subst,
  arith,
  inl,
  inr,
}
use Rattle.std.specs.Prelude.{IsTrue, ◌↔◌, ◌==◌, if◌then◌else◌}
use Rattle.std.proofs.lemmas.Bool.Decides.{nat_tests}
use Rattle.session_model.specs.declared.turn.Turn.{Turn}
use Rattle.session_model.specs.declared.entry.Entry.{Entry}
use Rattle.session_model.specs.Readings.{count_unanswered, was_let_go}
use Rattle.session_model.specs.Calls.{Setting, current}
use Rattle.session_model.specs.declared.entry.Entry.TheVariants as entry
use Rattle.session_model.specs.Turns.{RunProgress, TurnTo, is_full}
use Rattle.session_driver.specs.RunsSoFar.{TurnSoFar, TurnsSoFar, RoundsSoFar, drain_of}
use Rattle.session_model.proofs.WholeRunLaws.{Keeps, closes_keep, sends_keep, turns_pass, ends_pass}
use Rattle.session_driver.specs.Ongoing.{Part, AddsNothing}
use Rattle.session_model.specs.Runs.{TurnsTo, RoundsTo, EndsTo, LetGoTo, LetsGoTo, DrainsTo, OpensSession, IsRun, at_first, round_of}
use Rattle.session_driver.specs.Session.{at_rest}

pub turns_more : (s : Setting) (ts : List Turn) (t : Turn) (a b c : RunProgress) → TurnsTo s ts a b → TurnTo s t b c
    → TurnsTo s (ts ++ t ∷ []) a c
turns_more s [] t a b c r q = (c, (subst (λ (w : RunProgress). TurnTo s t w c) r q, refl))
turns_more s (u ∷ ts) t a b c r q = (r.0, (r.1.0, turns_more s ts t r.0 b c r.1.1 q))

pub turns_on : (s : Setting) (ts : List Turn) (i : ℕ) (t : Turn) (a b c : RunProgress) → take (i + 1) ts ≡ take i ts
    ++ t ∷ []
    → TurnsTo s (take i ts) a b → TurnTo s t b c → TurnsTo s (take (i + 1) ts) a c
turns_on s ts i t a b c cut r q = subst (λ (w : List Turn). TurnsTo s w a c) (sym cut)
    (turns_more s (take i ts) t a b c r q)

-- a lane that isn't done has a call left
pub not_done : (s : Setting) (past : List Entry) (lane : ℕ) (done : Bool) → (IsTrue done ↔ (current s past lane ≡ None))
    → done ≡ false → current s past lane ≢ None
not_done s past lane true iff e = absurd cc
not_done s past lane false iff e = λ none. (let t : false ≡ true = iff.1 none in absurd cc)

pub rounds_more : (s : Setting) (lane n : ℕ) (a b c : RunProgress) → RoundsTo s lane n a b
    → current s b.past lane ≢ None
    → TurnsTo s (round_of lane) b c → RoundsTo s lane (suc n) a c
rounds_more s lane zero a b c r left q = subst (λ (w : RunProgress). RoundsTo s lane 1 w c) r (left, (c, (q, refl)))
rounds_more s lane (suc n) a b c r left q = (r.0, (r.1.0, (r.1.1.0, rounds_more s lane n r.1.0 b c r.1.1.1 left q)))

pub ends_more : (s : Setting) (lane n : ℕ) (a b c : RunProgress) → EndsTo s lane a b → RoundsTo s lane n b c
    → current s c.past lane ≡ None → EndsTo s (lane + 1) a c
ends_more s lane n a b c e r none = rw add-one (b, (e, (n, r), none))

pub lets_go_more : (s : Setting) (lane : ℕ) (a b c : RunProgress) → LetsGoTo s lane a b → LetGoTo s lane b c
    → LetsGoTo s (lane + 1) a c
lets_go_more s lane a b c r q = rw add-one (b, (r, q))

pub drains_more : (s : Setting) (n : ℕ) (a b c : RunProgress) → DrainsTo s n a b → 0 < count_unanswered b.past
    → TurnsTo s drain_of b c → DrainsTo s (suc n) a c
drains_more s zero a b c r some q = subst (λ (w : RunProgress). DrainsTo s 1 w c) r (some, (c, (q, refl)))
drains_more s (suc n) a b c r some q = (r.0, (r.1.0, (r.1.1.0, drains_more s n r.1.0 b c r.1.1.1 some q)))

-- ---- what the lanes keep

-- a lane that is let go leaves each lane without a call, and the others as they were
go_keeps : (s : Setting) (lane : ℕ) (a b : RunProgress) → LetGoTo s lane a b
    → Keeps s (entry.LetGo lane ∷ a.past) b.past
go_keeps s lane a b go =
    let closes = closes_keep s (entry.LetGo lane ∷ a.past) go.1.0 go.1.1.0.0 in
    let sends = sends_keep s go.1.0 b.past (is_full s go.1.0) go.1.1.1 in
    record { idle = λ k none. sends.idle k (closes.idle k none); unlet = λ k. sends.unlet k ∙ closes.unlet k }

pub go_done : (s : Setting) (n : ℕ) (a b : RunProgress) → LetsGoTo s n a b → (k : ℕ) → current s a.past k ≡ None
    → current s b.past k ≡ None
go_done s zero a b go k none = subst (λ (w : RunProgress). current s w.past k ≡ None) (sym go) none
go_done s (suc n) a b go k none = (go_keeps s n go.0 b go.1.1).idle k (go_done s n a go.0 go.1.0 k none)

not_same : (lane other : ℕ) → lane < other → (lane == other) ≡ false
not_same lane other lt = grind (arith, nat_tests)

pub go_holds : (s : Setting) (n : ℕ) (a b : RunProgress) → LetsGoTo s n a b → (k : ℕ) → n ≤ k → was_let_go a.past k
    ≡ false → was_let_go b.past k ≡ false
go_holds s zero a b go k le held = subst (λ (w : RunProgress). was_let_go w.past k ≡ false) (sym go) held
go_holds s (suc n) a b go k le held =
    (go_keeps s n go.0 b go.1.1).unlet k
    ∙ (ap (λ (t : Bool). if t then true else was_let_go go.0.past k) (not_same n k (omega (arith, le)))
    ∙ go_holds s n a go.0 go.1.0 k (omega (arith, le)) held)

-- an opened session has let go of no lane
pub opened_holds : (b : Bool) (past : List Entry) → OpensSession b past → (k : ℕ) → was_let_go past k ≡ false
opened_holds false past opens k = subst (λ (w : List Entry). was_let_go w k ≡ false) (sym opens) refl
opened_holds true past opens k = subst (λ (w : List Entry). was_let_go w k ≡ false) (sym opens.1.1.2) refl

-- turns and rounds let go of no lane
pub held_on : (s : Setting) (schedule : List Turn) (n : ℕ) (a b c : RunProgress) → TurnsTo s schedule a b
    → EndsTo s n b c
    → (k : ℕ) → was_let_go a.past k ≡ false → was_let_go c.past k ≡ false
held_on s schedule n a b c turns ends k held = (ends_pass s n b c ends).0.keeps.unlet k
    ∙ ((turns_pass s schedule a b turns).keeps.unlet k ∙ held)

pub ended_done : (s : Setting) (n : ℕ) (b c : RunProgress) → EndsTo s n b c → (k : ℕ) → k < n → current s c.past k
    ≡ None
ended_done s n b c ends = (ends_pass s n b c ends).1

-- ---- parts that were stopped

nil_take : (i : ℕ) → take {A = Turn} i [] ≡ []
nil_take zero = refl
nil_take (suc i) = refl

stop_from : (s : Setting) (ts : List Turn) (i : ℕ) (t : Turn) (a b : RunProgress) (past : List Entry) → take (suc i) ts
    ≡ take i ts ++ t ∷ [] → TurnsTo s (take i ts) a b → TurnSoFar s t b past → TurnsSoFar s ts a past
stop_from s [] i t a b past cut r part = (let none : [] ≡ t ∷ [] = cut
    ∙ ap (λ (w : List Turn). w ++ t ∷ []) (nil_take i) in absurd cc)
stop_from s (u ∷ ts) zero t a b past cut r part =
    let same : u ≡ t = cc in
    subst (λ (w : RunProgress). TurnsSoFar s (u ∷ ts) w past) r
    (inl (subst (λ (v : Turn). TurnSoFar s v b past) (sym same) part))
stop_from s (u ∷ ts) (suc i) t a b past cut r part =
    let rest : take (suc i) ts ≡ take i ts ++ t ∷ [] = cc in
    inr (r.0, (r.1.0, stop_from s ts i t r.0 b past rest r.1.1 part))

pub turns_stop : (s : Setting) (ts : List Turn) (i : ℕ) (t : Turn) (a b : RunProgress) (past : List Entry)
    → take (i + 1) ts
    ≡ take i ts ++ t ∷ [] → TurnsTo s (take i ts) a b → TurnSoFar s t b past → TurnsSoFar s ts a past
turns_stop s ts i t a b past cut r part = stop_from s ts i t a b past (rw add-one at cut) r part

pub lane_stop : (s : Setting) (lane n : ℕ) (a b : RunProgress) (past : List Entry) → RoundsTo s lane n a b
    → current s b.past lane ≢ None → TurnsSoFar s (round_of lane) b past → RoundsSoFar s lane a past
lane_stop s lane n a b past r left part = record { rounds = n; mid = b; whole = r; left = left; part = part }

-- ---- loops as parts of a run

-- the first turns of a schedule
abbrev pub first_turns : List Turn → ℕ → Part
first_turns ts i = record { whole = λ s. TurnsTo s (take i ts); so_far = AddsNothing }

-- some rounds of a lane
pub record SomeRounds (s : Setting) (lane : ℕ) (before now : RunProgress) : Type 0 where
  pub rounds : ℕ
  pub went : RoundsTo s lane rounds before now

abbrev pub some_rounds : ℕ → Part
some_rounds lane = record { whole = λ s. SomeRounds s lane; so_far = AddsNothing }

-- the first lanes have no call left
abbrev pub first_ends : ℕ → Part
first_ends lane = record { whole = λ s. EndsTo s lane; so_far = AddsNothing }

-- the first lanes were let go
abbrev pub first_go : ℕ → Part
first_go lane = record { whole = λ s. LetsGoTo s lane; so_far = AddsNothing }

pub record SomeDrains (s : Setting) (before now : RunProgress) : Type 0 where
  pub drains : ℕ
  pub went : DrainsTo s drains before now

abbrev pub some_drains : Part
some_drains = record { whole = SomeDrains; so_far = AddsNothing }

pub some_rounds_more : (s : Setting) (lane : ℕ) (a b c : RunProgress) → SomeRounds s lane a b
    → current s b.past lane ≢ None
    → TurnsTo s (round_of lane) b c → SomeRounds s lane a c
some_rounds_more s lane a b c r left q = record {
  rounds = suc r.rounds;
  went =
      rounds_more s lane r.rounds a b c r.went left q;
}

pub some_drains_more : (s : Setting) (a b c : RunProgress) → SomeDrains s a b → 0 < count_unanswered b.past
    → TurnsTo s drain_of b c → SomeDrains s a c
some_drains_more s a b c r some q = record { drains = suc r.drains; went = drains_more s r.drains a b c r.went some q }

-- progress without a begun lane
pub begins_at_first : (a : RunProgress) → a.begun ≡ at_rest.begun → a ≡ at_first a.past
begins_at_first a none = λ i. record { past = a.past; begun = none i }

-- the parts of a run, each from where the one before it stopped
pub is_run : (s : Setting) (schedule : List Turn) (opened turned ended let_go drained : RunProgress)
    → OpensSession s.limits opened.past → opened.begun ≡ at_rest.begun → TurnsTo s schedule opened turned
    → EndsTo s (length s.lanes) turned ended
    → LetsGoTo s (length s.lanes) ended let_go → (n : ℕ) × DrainsTo s n let_go drained → count_unanswered drained.past
    ≡ 0 → IsRun s schedule drained.past
is_run s schedule opened turned ended let_go drained opens none turns ends lets_go drains answered = (
  record { opened = opened.past; turned = turned; ended = ended; let_go = let_go; drained = drained },
  (
    record {
      opens = opens;
      turns = subst (λ (w : RunProgress). TurnsTo s schedule w turned) (begins_at_first opened none) turns;
      ends = ends;
      lets_go = lets_go;
      drains = drains;
      answered = answered;
    },
    refl,
  ),
)
