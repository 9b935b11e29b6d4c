-- A run so far begins with the schedule's first turn.
use Rattle.std.proofs.Common.{
  ◌≡◌,
  ◌≢◌,
  ℕ,
  zero,
  suc,
  Bool,
  true,
  false,
  List,
  [],
  ◌∷◌,
  ◌++◌,
  Option,
  Some,
  None,
  refl,
  ap,
  sym,
  ◌∙◌,
  subst,
  append_assoc,
  inl,
  inr,
}
use Rattle.std.specs.Prelude.{MatchBool, ◌⊎◌, nat_lt, length, codes}
use Rattle.ssh_encoding.specs.Writing.{uint32, string}
use Rattle.sftp_model.specs.Frames.{request_body, attributes}
use Rattle.sftp_model.specs.declared.reply.Reply.{Reply}
use Rattle.sftp_model.specs.declared.request.Request.{Request}
use Rattle.sftp_model.specs.declared.slot.Move.{Move}
use Rattle.sftp_model.specs.declared.slot.Move.TheVariants.{Ask, Wait, Done}
use Rattle.session_model.specs.declared.turn.Turn.{Turn}
use Rattle.session_model.specs.declared.turn.Turn.TheVariants as turn
use Rattle.session_model.specs.declared.event.Owner.TheVariants as owner
use Rattle.session_model.specs.declared.event.Event.TheVariants.{Submit, Send, Take, Cancel, End}
use Rattle.session_model.specs.declared.entry.Entry.{Entry}
use Rattle.session_model.specs.declared.entry.Entry.TheVariants as entry
use Rattle.session_model.specs.Readings.{count_submitted, count_sent, count_awaited, count_ended}
use Rattle.session_model.specs.Calls.{Setting, move_of}
use Rattle.session_model.specs.Journals.{MayTake, cancelled_end}
use Rattle.session_model.specs.Turns.{RunProgress, ClosesTo, SettlesTo, RulesTo, TurnTo, MovesBy, begun_but, is_full}
use Rattle.session_model.specs.Runs.{TurnsTo, RoundsTo, EndsTo, LetsGoTo, DrainsTo, OpensSession, at_first, round_of}
use Rattle.session_model.specs.RowWords.{submit, open_of}
use Rattle.session_model.specs.SlotRows.{two_lanes}
use Rattle.session_driver.specs.RunsSoFar.{
  OpensSoFar,
  TurnBy,
  TurnSoFar,
  TurnsSoFar,
  EndsSoFar,
  LetsGoSoFar,
  DrainsSoFar,
  RunSoFar,
  in_opening,
  in_turns,
  in_rounds,
  in_letting_go,
  in_drains,
  whole,
  drain_of,
}

-- ---- journals grow

-- now is before, and then some entries
abbrev Extends : List Entry → List Entry → Type 0
Extends before now = (more : List Entry) × (now ≡ more ++ before)

same : (before now : List Entry) → now ≡ before → Extends before now
same before now is = ([], is)

one_more : (e : Entry) (past : List Entry) → Extends past (e ∷ past)
one_more e past = (e ∷ [], refl)

both : (a b c : List Entry) → Extends a b → Extends b c → Extends a c
both a b c x y = (y.0 ++ x.0, y.1 ∙ ap (λ (w : List Entry). y.0 ++ w) x.1 ∙ sym (append_assoc y.0 x.0 a))

after_one : (e : Entry) (past now : List Entry) → Extends (e ∷ past) now → Extends past now
after_one e past now x = both past (e ∷ past) now (one_more e past) x

same_progress : (before now : RunProgress) → now ≡ before → Extends before.past now.past
same_progress before now is = same before.past now.past (ap (λ (w : RunProgress). w.past) is)

by_closes : (s : Setting) (before now : List Entry) → ClosesTo s before now → Extends before now
by_closes s before [] c = ([], sym c)
by_closes s before (e ∷ past) (inl is) = ([], sym is)
by_closes s before (e ∷ past) (inr c) = let w = by_closes s before past c.1 in
    (e ∷ w.0, ap (λ (p : List Entry). e ∷ p) w.1)

by_send : (b : Bool) (before now : List Entry) → MatchBool b (now ≡ entry.Event Send ∷ before) (now ≡ before)
    → Extends before now
by_send true before now is = (entry.Event Send ∷ [], is)
by_send false before now is = ([], is)

by_settling : (s : Setting) (before now : List Entry) → SettlesTo s before now → Extends before now
by_settling s before now t = by_closes s before now t.0

by_rules : (s : Setting) (before now : List Entry) → RulesTo s before now → Extends before now
by_rules s before now t = both before t.0 now (by_settling s before t.0 t.1.0) (by_send (is_full s t.0) t.0 now t.1.1)

-- ---- turns

module _ (Follows : List Entry → List Entry → Type 0) (grows : (before now : List Entry) → Follows before now
    → Extends before now) where
  by_move : (lane : ℕ) (a b : RunProgress) (m : Option Move) → MovesBy Follows lane a b m → Extends a.past b.past
  by_move lane a b None t = same_progress a b t
  by_move lane a b (Some (Wait place)) t = same a.past b.past (ap (λ (w : RunProgress). w.past) t)
  by_move lane a b (Some (Ask r)) t = after_one (entry.Event (Submit (owner.Call lane (count_ended a.past lane)) t.1.0
      r)) a.past b.past (grows _ b.past t.1.1.1)
  by_move lane a b (Some (Done o site)) t = after_one (entry.Event (End lane (count_ended a.past lane) o)) a.past b.past
      (grows _ b.past t.1)

  by_flush : (a b : RunProgress) (some : Bool) → MatchBool some
      ((b.begun ≡ a.begun) × Follows (entry.Event Send ∷ a.past) b.past) (b ≡ a) → Extends a.past b.past
  by_flush a b true t = after_one (entry.Event Send) a.past b.past (grows _ b.past t.1)
  by_flush a b false t = same_progress a b t

  by_take : (a b : RunProgress) (some : Bool)
      → MatchBool some ((b.begun ≡ a.begun) × ((id : ℕ) × ((r : Reply)
      × (MayTake a.past id r × Follows (entry.Event (Take id r) ∷ a.past) b.past)))) (b ≡ a) → Extends a.past b.past
  by_take a b true t = after_one (entry.Event (Take t.1.0 t.1.1.0)) a.past b.past (grows _ b.past t.1.1.1.1)
  by_take a b false t = same_progress a b t

  by_cancel : (lane : ℕ) (a b at : RunProgress) (some : Bool)
      → MatchBool some ((b.begun ≡ at.begun) × Follows (cancelled_end (entry.Event (Cancel lane) ∷ a.past) lane ∷
      entry.Event (Cancel lane) ∷ a.past) b.past) (b ≡ a) → Extends a.past b.past
  by_cancel lane a b at true t =
      after_one (entry.Event (Cancel lane)) a.past b.past (after_one
      (cancelled_end (entry.Event (Cancel lane) ∷ a.past) lane) (entry.Event (Cancel lane) ∷ a.past) b.past
      (grows _ b.past t.1))
  by_cancel lane a b at false t = same_progress a b t

  by_turn_by : (s : Setting) (t : Turn) (a b : RunProgress) → TurnBy Follows s t a b → Extends a.past b.past
  by_turn_by s (turn.Step lane) a b t = by_move lane a b (move_of s a.past lane) t
  by_turn_by s turn.Flush a b t = by_flush a b (nat_lt (count_sent a.past) (count_submitted a.past)) t
  by_turn_by s turn.Take a b t = by_take a b (nat_lt 0 (count_awaited a.past)) t
  by_turn_by s (turn.Cancel lane) a b t = by_cancel lane a b (record { past = a.past; begun = begun_but a.begun lane })
      _ t

by_turn : (s : Setting) (t : Turn) (a b : RunProgress) → TurnTo s t a b → Extends a.past b.past
by_turn s (turn.Step lane) a b t = by_turn_by (RulesTo s) (by_rules s) s (turn.Step lane) a b t
by_turn s turn.Flush a b t = by_turn_by (RulesTo s) (by_rules s) s turn.Flush a b t
by_turn s turn.Take a b t = by_turn_by (RulesTo s) (by_rules s) s turn.Take a b t
by_turn s (turn.Cancel lane) a b t = by_turn_by (RulesTo s) (by_rules s) s (turn.Cancel lane) a b t

by_turns : (s : Setting) (ts : List Turn) (a b : RunProgress) → TurnsTo s ts a b → Extends a.past b.past
by_turns s [] a b t = same_progress a b t
by_turns s (u ∷ ts) a b t = both a.past t.0.past b.past (by_turn s u a t.0 t.1.0) (by_turns s ts t.0 b t.1.1)

-- ---- parts that are whole

by_rounds : (s : Setting) (lane n : ℕ) (a b : RunProgress) → RoundsTo s lane n a b → Extends a.past b.past
by_rounds s lane zero a b t = same_progress a b t
by_rounds s lane (suc n) a b t = both a.past t.1.0.past b.past (by_turns s (round_of lane) a t.1.0 t.1.1.0)
    (by_rounds s lane n t.1.0 b t.1.1.1)

by_ends : (s : Setting) (n : ℕ) (a b : RunProgress) → EndsTo s n a b → Extends a.past b.past
by_ends s zero a b t = same_progress a b t
by_ends s (suc lane) a b t = both a.past t.0.past b.past (by_ends s lane a t.0 t.1.0)
    (by_rounds s lane t.1.1.0 t.0 b t.1.1.1)

by_letting_go : (s : Setting) (n : ℕ) (a b : RunProgress) → LetsGoTo s n a b → Extends a.past b.past
by_letting_go s zero a b t = same_progress a b t
by_letting_go s (suc lane) a b t = both a.past t.0.past b.past (by_letting_go s lane a t.0 t.1.0)
    (after_one (entry.LetGo lane) t.0.past b.past (by_rules s (entry.LetGo lane ∷ t.0.past) b.past t.1.1.1))

by_drains : (s : Setting) (n : ℕ) (a b : RunProgress) → DrainsTo s n a b → Extends a.past b.past
by_drains s zero a b t = same_progress a b t
by_drains s (suc n) a b t = both a.past t.1.0.past b.past (by_turns s drain_of a t.1.0 t.1.1.0)
    (by_drains s n t.1.0 b t.1.1.1)

-- ---- parts that were stopped

so_far_turn : (s : Setting) (t : Turn) (a : RunProgress) (past : List Entry) → TurnSoFar s t a past
    → Extends a.past past
so_far_turn s t a past (inl is) = same a.past past is
so_far_turn s t a past (inr half) = subst (Extends a.past) half.is
    (by_turn_by (SettlesTo s) (by_settling s) s t a half.now half.event)

so_far_turns : (s : Setting) (ts : List Turn) (a : RunProgress) (past : List Entry) → TurnsSoFar s ts a past
    → Extends a.past past
so_far_turns s [] a past is = same a.past past is
so_far_turns s (t ∷ ts) a past (inl part) = so_far_turn s t a past part
so_far_turns s (t ∷ ts) a past (inr next) = both a.past next.0.past past (by_turn s t a next.0 next.1.0)
    (so_far_turns s ts next.0 past next.1.1)

so_far_ends : (s : Setting) (n : ℕ) (a : RunProgress) (past : List Entry) → EndsSoFar s n a past → Extends a.past past
so_far_ends s n a past p =
    both a.past p.mid.past past (by_ends s p.lane a p.mid p.whole)
    (both p.mid.past p.part.mid.past past (by_rounds s p.lane p.part.rounds p.mid p.part.mid p.part.whole)
    (so_far_turns s (round_of p.lane) p.part.mid past p.part.part))

so_far_letting_go : (s : Setting) (n : ℕ) (a : RunProgress) (past : List Entry) → LetsGoSoFar s n a past
    → Extends a.past past
so_far_letting_go s n a past p = both a.past p.mid.past past (by_letting_go s p.lane a p.mid p.whole) (last p.part)
  where
    last : (past ≡ p.mid.past) ⊎ SettlesTo s (entry.LetGo p.lane ∷ p.mid.past) past → Extends p.mid.past past
    last (inl is) = same p.mid.past past is
    last (inr t) = after_one (entry.LetGo p.lane) p.mid.past past
        (by_settling s (entry.LetGo p.lane ∷ p.mid.past) past t)

so_far_drains : (s : Setting) (a : RunProgress) (past : List Entry) → DrainsSoFar s a past → Extends a.past past
so_far_drains s a past p = both a.past p.mid.past past (by_drains s p.drains a p.mid p.whole)
    (so_far_turns s drain_of p.mid past p.part)

-- ---- the first turn

-- the journal begins with a request of the lane
abbrev BeginsWith : ℕ → Request → List Entry → Type 0
BeginsWith lane r past = (id : ℕ) × Extends (submit lane 0 id r ∷ []) past

none_opened : (limits : Bool) (past : List Entry) → limits ≡ false → OpensSession limits past → past ≡ []
none_opened true past is opens = absurd cc
none_opened false past is opens = opens

asks_first : (s : Setting) (lane : ℕ) (r : Request) (a b : RunProgress) (Follows : List Entry → List Entry → Type 0)
    → ((before now : List Entry) → Follows before now → Extends before now) → a.past ≡ [] → (m : Option Move) → m
    ≡ Some (Ask r)
    → MovesBy Follows lane a b m → BeginsWith lane r b.past
asks_first s lane r a b Follows grows none m is t =
    let asks = subst (MovesBy Follows lane a b) is t in (
      asks.1.0,
      subst (λ (p : List Entry). Extends (entry.Event (Submit (owner.Call lane (count_ended p lane)) asks.1.0 r) ∷ p)
          b.past) none (grows _ b.past asks.1.1.1),
    )

goes_on : (lane : ℕ) (r : Request) (past now : List Entry) → BeginsWith lane r past → Extends past now
    → BeginsWith lane r now
goes_on lane r past now b more = (b.0, both (submit lane 0 b.0 r ∷ []) past now b.1 more)

module _ (s : Setting) (lane : ℕ) (turns : List Turn) (r : Request) (unasked : s.limits ≡ false)
    (moves : move_of s [] lane ≡ Some (Ask r)) where
  none_at_first : (opened : List Entry) → OpensSession s.limits opened → opened ≡ []
  none_at_first opened opens = none_opened s.limits opened unasked opens

  turned_first : (opened : List Entry) (turned : RunProgress) → OpensSession s.limits opened
      → TurnsTo s (turn.Step lane ∷ turns) (at_first opened) turned → BeginsWith lane r turned.past
  turned_first opened turned opens t =
      let none = none_at_first opened opens in
      goes_on lane r t.0.past turned.past
      (asks_first s lane r (at_first opened) t.0 (RulesTo s) (by_rules s) none (move_of s opened lane)
      (ap (λ (p : List Entry). move_of s p lane) none ∙ moves) t.1.0)
      (by_turns s turns t.0 turned t.1.1)

  so_far_first : (opened past : List Entry) → OpensSession s.limits opened
      → TurnsSoFar s (turn.Step lane ∷ turns) (at_first opened) past → (past ≡ []) ⊎ BeginsWith lane r past
  so_far_first opened past opens (inl (inl is)) = inl (is ∙ none_at_first opened opens)
  so_far_first opened past opens (inl (inr half)) =
      let none = none_at_first opened opens in
      inr (subst (BeginsWith lane r) half.is (asks_first s lane r (at_first opened) half.now (SettlesTo s)
      (by_settling s) none (move_of s opened lane) (ap (λ (p : List Entry). move_of s p lane) none ∙ moves)
      half.event))
  so_far_first opened past opens (inr next) =
      let none = none_at_first opened opens in
      inr (goes_on lane r next.0.past past
      (asks_first s lane r (at_first opened) next.0 (RulesTo s) (by_rules s) none (move_of s opened lane)
      (ap (λ (p : List Entry). move_of s p lane) none ∙ moves) next.1.0)
      (so_far_turns s turns next.0 past next.1.1))

  opening_empty : (limits : Bool) (past : List Entry) → limits ≡ false → OpensSoFar limits past → past ≡ []
  opening_empty true past is part = absurd cc
  opening_empty false past is part = part

  -- where a schedule's first turn steps a lane that asks for something, a run so far is empty or begins with that
  pub first_turn_first : (past : List Entry) → RunSoFar s (turn.Step lane ∷ turns) past → (past ≡ [])
      ⊎ BeginsWith lane r past
  first_turn_first past (in_opening part) = inl (opening_empty s.limits past unasked part)
  first_turn_first past (in_turns opened opens part) = so_far_first opened past opens part
  first_turn_first past (in_rounds opened turned opens t part) =
      inr (goes_on lane r turned.past past (turned_first opened turned opens t)
      (so_far_ends s (length s.lanes) turned past part))
  first_turn_first past (in_letting_go opened turned ended opens t ends part) =
      inr (goes_on lane r turned.past past (turned_first opened turned opens t)
      (both turned.past ended.past past (by_ends s (length s.lanes) turned ended ends)
      (so_far_letting_go s (length s.lanes) ended past part)))
  first_turn_first past (in_drains opened turned ended let_go opens t ends goes part) =
      inr (goes_on lane r turned.past past (turned_first opened turned opens t)
      (both turned.past ended.past past (by_ends s (length s.lanes) turned ended ends)
      (both ended.past let_go.past past (by_letting_go s (length s.lanes) ended let_go goes)
      (so_far_drains s let_go past part))))
  first_turn_first past (whole run) =
      let at = run.0 in
      let by = run.1.0 in
      inr (goes_on lane r at.turned.past past (turned_first at.opened at.turned by.opens by.turns)
      (both at.turned.past at.ended.past past (by_ends s (length s.lanes) at.turned at.ended by.ends)
      (both at.ended.past at.let_go.past past (by_letting_go s (length s.lanes) at.ended at.let_go by.lets_go)
      (both at.let_go.past at.drained.past past (by_drains s by.drains.0 at.let_go at.drained by.drains.1)
      (same at.drained.past past (sym run.1.1))))))

-- ---- a row: rounds of the lanes before the schedule's turns

not_first : (more : List Entry) (e f : Entry) → e ≢ f → f ∷ [] ≡ more ++ e ∷ [] → ⊥
not_first [] e f apart is = apart (let same_entry : f ≡ e = cc in sym same_entry)
not_first (x ∷ []) e f apart is = absurd cc
not_first (x ∷ y ∷ more) e f apart is = absurd cc

-- the schedule steps lane 1, and lane 0 came first
pub with_early_round : RunSoFar two_lanes (turn.Step 1 ∷ []) (submit 0 0 0 (open_of (codes "a")) ∷ []) → ⊥
unfolding request_body attributes string uint32
with_early_round part = by_first (first_turn_first two_lanes 1 [] (open_of (codes "b")) refl refl
    (submit 0 0 0 (open_of (codes "a")) ∷ []) part)
  where
    by_first : ((submit 0 0 0 (open_of (codes "a")) ∷ []) ≡ [])
        ⊎ BeginsWith 1 (open_of (codes "b")) (submit 0 0 0 (open_of (codes "a")) ∷ []) → ⊥
    by_first (inl none) = absurd cc
    by_first (inr b) = not_first b.1.0 (submit 1 0 b.0 (open_of (codes "b"))) (submit 0 0 0 (open_of (codes "a")))
        (λ e. absurd cc) b.1.1
