-- Runs that are alike, but for the ids of their requests, stay alike, where the same replies are taken at the same
-- places.
use Rattle.std.proofs.Common.{◌≡◌, ◌<◌, ℕ, zero, suc, Bool, true, false, List, [], ◌∷◌, Option, Some, None, refl, ap, sym, ◌∙◌, subst, arith, inl, inr}
use Rattle.std.specs.Prelude.{◌&&◌, nat_lt, is_some, MatchBool}
use Rattle.sftp_model.specs.declared.outcome.Outcome.TheVariants as outcome
use Rattle.sftp_model.specs.declared.request.Request.TheVariants as request
use Rattle.sftp_model.specs.declared.reply.Reply.{Reply}
use Rattle.sftp_model.specs.declared.slot.Move.{Move}
use Rattle.sftp_model.specs.declared.slot.Move.TheVariants.{Ask, Wait, Done}
use Rattle.plan_model.specs.Moves.{handle_of}
use Rattle.session_model.specs.declared.turn.Turn.{Turn}
use Rattle.session_model.specs.declared.turn.Turn.TheVariants as turn
use Rattle.session_model.specs.declared.event.Owner.TheVariants as owner
use Rattle.session_model.specs.declared.event.Event.TheVariants.{Submit, Send, Take, Cancel, End}
use Rattle.session_model.specs.declared.entry.Entry.{Entry}
use Rattle.session_model.specs.declared.entry.Entry.TheVariants as entry
use Rattle.session_model.specs.Readings.{count_submitted, count_sent, count_awaited, count_ended, count_unanswered}
use Rattle.session_model.specs.Calls.{Setting, current, move_of}
use Rattle.session_model.specs.Grants.{next_due}
use Rattle.session_model.specs.Journals.{close_of}
use Rattle.session_model.specs.Turns.{RunProgress, TurnTo, MovesBy, RulesTo, SettlesTo, ClosesTo, is_full, begun_with, begun_but}
use Rattle.session_model.specs.Runs.{TurnsTo, round_of, EndsTo, LetsGoTo, DrainsTo}
use Rattle.run_laws.proofs.Placed.{
  place_of,
  placed,
  placed_asked,
  placed_answers,
  placed_sent,
  placed_awaited,
  placed_unanswered,
  placed_full,
  placed_ended,
  placed_current,
  placed_move,
  placed_next_due,
}
use Rattle.run_laws.proofs.Back.{GoesBack, rules_back, turns_back, Repeats, HasCall, Awaits, rounds_repeat, drains_repeat, repeats_back}

-- ---- what is alike

-- the journals are one, but for ids
abbrev pub Same : List Entry → List Entry → Type 0
Same a b = placed a ≡ placed b

-- the stages are one, but for ids
pub record Alike (a b : RunProgress) : Type 0 where
  pub past : Same a.past b.past
  pub begun : a.begun ≡ b.begun

-- each reply in the journal is the one that this function of the journal before it gives, but for its id
abbrev pub Follows : (List Entry → Entry) → List Entry → Type 0
Follows next [] = Unit {0}
Follows next (entry.Event (Take id r) ∷ past) = (entry.Event (Take (place_of past id) r) ≡ next (placed past))
    × Follows next past
Follows next (_ ∷ past) = Follows next past

pub follows_back : (next : List Entry → Entry) → GoesBack (Follows next)
follows_back next (entry.Event (Take id r)) past p = p.1
follows_back next (_) past p = p

-- what is read without ids is read alike
pub read : {A : Type 0} (f : List Entry → A) → ((past : List Entry) → f (placed past) ≡ f past) → (a b : List Entry)
    → Same a b → f a ≡ f b
read f h a b e = sym (h a) ∙ (ap f e ∙ h b)

stay_same : (a b now_a now_b : RunProgress) → Alike a b → now_a ≡ a → now_b ≡ b → Alike now_a now_b
stay_same a b now_a now_b h x y =
    record {
      past = ap (λ (w : RunProgress). placed w.past) x ∙ (h.past ∙ sym (ap (λ (w : RunProgress). placed w.past) y));
      begun =
          ap (λ (w : RunProgress). w.begun) x ∙ (h.begun ∙ sym (ap (λ (w : RunProgress). w.begun) y));
    }

-- ---- CLOSEs, one after another, until none is due

abbrev turned : ℕ → (List Entry → List Entry) → List Entry → List Entry
turned zero f past = past
turned (suc n) f past = turned n f (f past)

turned_last : (n : ℕ) (f : List Entry → List Entry) (past : List Entry) → turned n f (f past) ≡ f (turned n f past)
turned_last zero f past = refl
turned_last (suc n) f past = turned_last n f (f past)

turned_still : (n : ℕ) (f : List Entry → List Entry) (past : List Entry) → f past ≡ past → turned n f past ≡ past
turned_still zero f past e = refl
turned_still (suc n) f past e = ap (turned n f) e ∙ turned_still n f past e

one_end : (n m : ℕ) (f : List Entry → List Entry) (past : List Entry) → f (turned n f past) ≡ turned n f past
    → f (turned m f past) ≡ turned m f past → turned n f past ≡ turned m f past
one_end zero m f past e d = sym (turned_still m f past e)
one_end (suc n) zero f past e d = turned_still (suc n) f past d
one_end (suc n) (suc m) f past e d = one_end n m f (f past) e d

abbrev with_close : Option ℕ → List Entry → List Entry
with_close None past = past
with_close (Some grant) past = close_of past grant (count_submitted past) ∷ past

abbrev close_next : Setting → List Entry → List Entry
close_next s past = with_close (next_due s past) past

closed_next : (s : Setting) (past : List Entry) (grant id : ℕ) → next_due s past ≡ Some grant
    → placed (close_of past grant id ∷ past) ≡ close_next s (placed past)
closed_next s past grant id due =
    (λ i. entry.Event (Submit owner.Close (sym (placed_asked past) i)
    (request.Close (handle_of (sym (placed_answers past) i grant)))) ∷ placed past)
    ∙ sym (ap (λ (g : Option ℕ). with_close g (placed past)) (placed_next_due s past ∙ due))

closes_turn : (s : Setting) (before now : List Entry) → ClosesTo s before now → (n : ℕ)
    × (placed now ≡ turned n (close_next s) (placed before))
closes_turn s before [] e = (zero, ap placed (sym e))
closes_turn s before (e ∷ past) (inl same) = (zero, ap placed (sym same))
closes_turn s before (e ∷ past) (inr (due, rest)) =
    let old = closes_turn s before past rest in
    let new : placed (e ∷ past) ≡ close_next s (placed past) =
    subst (λ (x : Entry). placed (x ∷ past) ≡ close_next s (placed past)) (sym due.1.1.1.1)
    (closed_next s past due.0 due.1.1.0 due.1.0) in
    (suc old.0, new ∙ (ap (close_next s) old.1 ∙ sym (turned_last old.0 (close_next s) (placed before))))

settled_still : (s : Setting) (past : List Entry) → next_due s past ≡ None → close_next s (placed past) ≡ placed past
settled_still s past e = ap (λ (g : Option ℕ). with_close g (placed past)) (placed_next_due s past ∙ e)

settles_same : (s : Setting) (a b now_a now_b : List Entry) → Same a b → SettlesTo s a now_a → SettlesTo s b now_b
    → Same now_a now_b
settles_same s a b now_a now_b h x y =
    let f = close_next s in
    let one = closes_turn s a now_a x.0 in
    let other = closes_turn s b now_b y.0 in
    let too : placed now_b ≡ turned other.0 f (placed a) = other.1 ∙ ap (turned other.0 f) (sym h) in
    one.1
    ∙ (one_end one.0 other.0 f (placed a) (subst (λ (w : List Entry). f w ≡ w) one.1 (settled_still s now_a x.1))
    (subst (λ (w : List Entry). f w ≡ w) too (settled_still s now_b y.1))
    ∙ sym too)

sends_same : (t : Bool) (a b now_a now_b : List Entry) → Same a b
    → MatchBool t (now_a ≡ entry.Event Send ∷ a) (now_a ≡ a) → MatchBool t (now_b ≡ entry.Event Send ∷ b) (now_b ≡ b)
    → Same now_a now_b
sends_same true a b now_a now_b h x y = ap placed x ∙ (ap (λ (w : List Entry). entry.Event Send ∷ w) h
    ∙ sym (ap placed y))
sends_same false a b now_a now_b h x y = ap placed x ∙ (h ∙ sym (ap placed y))

rules_same : (s : Setting) (a b now_a now_b : List Entry) → Same a b → RulesTo s a now_a → RulesTo s b now_b
    → Same now_a now_b
rules_same s a b now_a now_b h x y =
    let mid : Same x.0 y.0 = settles_same s a b x.0 y.0 h x.1.0 y.1.0 in
    sends_same (is_full s x.0) x.0 y.0 now_a now_b mid x.1.1
    (subst (λ (t : Bool). MatchBool t (now_b ≡ entry.Event Send ∷ y.0) (now_b ≡ y.0))
    (sym (read (is_full s) (placed_full s) x.0 y.0 mid)) y.1.1)

-- ---- turns

-- an event, and what follows it
events_same : (s : Setting) (a b : List Entry) (begun_a begun_b : ℕ → Bool) (now_a now_b : RunProgress) → Same a b
    → begun_a ≡ begun_b
    → (now_a.begun ≡ begun_a) × RulesTo s a now_a.past → (now_b.begun ≡ begun_b) × RulesTo s b now_b.past
    → Alike now_a now_b
events_same s a b begun_a begun_b now_a now_b h e x y = record
    { past = rules_same s a b now_a.past now_b.past h x.1 y.1; begun = x.0 ∙ (e ∙ sym y.0) }

tests_same : (t u : Bool) (A B : Type 0) (a b now_a now_b : RunProgress) → Alike a b → t ≡ u
    → (A → B → Alike now_a now_b)
    → MatchBool t A (now_a ≡ a) → MatchBool u B (now_b ≡ b) → Alike now_a now_b
tests_same true true A B a b now_a now_b h e f x y = f x y
tests_same false false A B a b now_a now_b h e f x y = stay_same a b now_a now_b h x y
tests_same true false A B a b now_a now_b h e f x y = absurd cc
tests_same false true A B a b now_a now_b h e f x y = absurd cc

number : (lane : ℕ) (a b : List Entry) → Same a b → count_ended a lane ≡ count_ended b lane
number lane a b h = read (λ (w : List Entry). count_ended w lane) (λ w. placed_ended w lane) a b h

moves_same : (s : Setting) (lane : ℕ) (a b now_a now_b : RunProgress) (m : Option Move) → Alike a b
    → MovesBy (RulesTo s) lane a now_a m → MovesBy (RulesTo s) lane b now_b m → Alike now_a now_b
moves_same s lane a b now_a now_b None h x y = stay_same a b now_a now_b h x y
moves_same s lane a b now_a now_b (Some (Wait place)) h x y =
    stay_same (record { past = a.past; begun = begun_with a.begun lane })
    (record { past = b.past; begun = begun_with b.begun lane }) now_a now_b
    (record { past = h.past; begun = λ i. begun_with (h.begun i) lane }) x y
moves_same s lane a b now_a now_b (Some (Ask r)) h x y =
    let n = number lane a.past b.past h.past in
    let place = read count_submitted placed_asked a.past b.past h.past in
    events_same s _ _ _ _ now_a now_b (λ i. entry.Event (Submit (owner.Call lane (n i)) (place i) r) ∷ h.past i)
    (λ i. begun_with (h.begun i) lane) (x.0, x.1.1.1) (y.0, y.1.1.1)
moves_same s lane a b now_a now_b (Some (Done o site)) h x y =
    let n = number lane a.past b.past h.past in
    events_same s _ _ _ _ now_a now_b (λ i. entry.Event (End lane (n i) o) ∷ h.past i) (λ i. begun_but (h.begun i) lane)
    x y

pub taken_same : (next : List Entry → Entry) (a b : List Entry) (i j : ℕ) (r q : Reply) → Same a b
    → Follows next (entry.Event (Take i r) ∷ a) → Follows next (entry.Event (Take j q) ∷ b)
    → Same (entry.Event (Take i r) ∷ a) (entry.Event (Take j q) ∷ b)
taken_same next a b i j r q h p k = (λ n. p.0 n ∷ placed a) ∙
    (ap (λ (w : List Entry). next w ∷ w) h ∙ (λ n. sym k.0 n ∷ placed b))

turn_same : (next : List Entry → Entry) (s : Setting) (t : Turn) (a b now_a now_b : RunProgress) → Alike a b
    → TurnTo s t a now_a → TurnTo s t b now_b
    → Follows next now_a.past → Follows next now_b.past → Alike now_a now_b
turn_same next s (turn.Step lane) a b now_a now_b h x y p q =
    let move = read (λ (w : List Entry). move_of s w lane) (λ w. placed_move s w lane) a.past b.past h.past in
    moves_same s lane a b now_a now_b (move_of s a.past lane) h x
    (subst (MovesBy (RulesTo s) lane b now_b) (sym move) y)
turn_same next s turn.Flush a b now_a now_b h x y p q =
    let test = read (λ (w : List Entry). nat_lt (count_sent w) (count_submitted w))
    (λ w i. nat_lt (placed_sent w i) (placed_asked w i)) a.past b.past h.past in
    tests_same (nat_lt (count_sent a.past) (count_submitted a.past))
    (nat_lt (count_sent b.past) (count_submitted b.past)) _ _ a b now_a now_b h test
    (λ x y. events_same s _ _ _ _ now_a now_b (λ i. entry.Event Send ∷ h.past i) h.begun x y) x y
turn_same next s turn.Take a b now_a now_b h x y p q =
    let test = ap (nat_lt 0) (read count_awaited placed_awaited a.past b.past h.past) in
    tests_same (nat_lt 0 (count_awaited a.past)) (nat_lt 0 (count_awaited b.past)) _ _ a b now_a now_b h test
    (λ x y. events_same s _ _ _ _ now_a now_b
    (taken_same next a.past b.past x.1.0 y.1.0 x.1.1.0 y.1.1.0 h.past
    (rules_back (Follows next) (follows_back next) s _ now_a.past x.1.1.1.1 p)
    (rules_back (Follows next) (follows_back next) s _ now_b.past y.1.1.1.1 q))
    h.begun (x.0, x.1.1.1.1) (y.0, y.1.1.1.1)) x y
turn_same next s (turn.Cancel lane) a b now_a now_b h x y p q =
    let call = read (λ (w : List Entry). current s w lane) (λ w. placed_current s w lane) a.past b.past h.past in
    let n = number lane a.past b.past h.past in
    tests_same (is_some (current s a.past lane) && a.begun lane) (is_some (current s b.past lane) && b.begun lane) _ _ a
    b now_a now_b h
    (λ i. is_some (call i) && h.begun i lane)
    (λ x y. events_same s _ _ _ _ now_a now_b (λ i. entry.Event (End lane (n i) outcome.Cancelled) ∷ entry.Event
    (Cancel lane) ∷ h.past i) (λ i. begun_but (h.begun i) lane) x y) x y

-- ---- parts of a run

pub turns_same : (next : List Entry → Entry) (s : Setting) (turns : List Turn) (a b now_a now_b : RunProgress)
    → Alike a b
    → TurnsTo s turns a now_a → TurnsTo s turns b now_b
    → Follows next now_a.past → Follows next now_b.past → Alike now_a now_b
turns_same next s [] a b now_a now_b h x y p q = stay_same a b now_a now_b h x y
turns_same next s (t ∷ turns) a b now_a now_b h x y p q =
    let back = turns_back (Follows next) (follows_back next) s turns in
    turns_same next s turns x.0 y.0 now_a now_b (turn_same next s t a b x.0 y.0 h x.1.0 y.1.0 (back x.0 now_a x.1.1 p)
    (back y.0 now_b y.1.1 q)) x.1.1 y.1.1 p q

-- where nothing is left in the end, the same turns were repeated equally often
repeats_same : (next : List Entry → Entry) (IsLeft : List Entry → Type 0) (s : Setting) (turns : List Turn) (n m : ℕ)
    (a b now_a now_b : RunProgress)
    → ((c d : List Entry) → Same c d → IsLeft c → IsLeft d) → Alike a b → Repeats IsLeft s turns n a now_a
    → Repeats IsLeft s turns m b now_b
    → (IsLeft now_a.past → ⊥) → (IsLeft now_b.past → ⊥) → Follows next now_a.past → Follows next now_b.past
    → Alike now_a now_b
repeats_same next IsLeft s turns zero zero a b now_a now_b f h x y e d p q = stay_same a b now_a now_b h x y
repeats_same next IsLeft s turns zero (suc m) a b now_a now_b f h x y e d p q =
    absurd (e (f b.past now_a.past (sym h.past ∙ ap (λ (w : RunProgress). placed w.past) (sym x)) y.0))
repeats_same next IsLeft s turns (suc n) zero a b now_a now_b f h x y e d p q =
    absurd (d (f a.past now_b.past (h.past ∙ ap (λ (w : RunProgress). placed w.past) (sym y)) x.0))
repeats_same next IsLeft s turns (suc n) (suc m) a b now_a now_b f h x y e d p q =
    let back = repeats_back (Follows next) (follows_back next) IsLeft s turns in
    let mid = turns_same next s turns a b x.1.0 y.1.0 h x.1.1.0 y.1.1.0 (back n x.1.0 now_a x.1.1.1 p)
    (back m y.1.0 now_b y.1.1.1 q) in
    repeats_same next IsLeft s turns n m x.1.0 y.1.0 now_a now_b f mid x.1.1.1 y.1.1.1 e d p q

pub ends_same : (next : List Entry → Entry) (s : Setting) (n : ℕ) (a b now_a now_b : RunProgress) → Alike a b
    → EndsTo s n a now_a → EndsTo s n b now_b
    → Follows next now_a.past → Follows next now_b.past → Alike now_a now_b
ends_same next s zero a b now_a now_b h x y p q = stay_same a b now_a now_b h x y
ends_same next s (suc lane) a b now_a now_b h x y p q =
    let one = rounds_repeat s lane x.1.1.0 x.0 now_a x.1.1.1 in
    let other = rounds_repeat s lane y.1.1.0 y.0 now_b y.1.1.1 in
    let back = repeats_back (Follows next) (follows_back next) (HasCall s lane) s (round_of lane) in
    let mid = ends_same next s lane a b x.0 y.0 h x.1.0 y.1.0 (back x.1.1.0 x.0 now_a one p)
    (back y.1.1.0 y.0 now_b other q) in
    repeats_same next (HasCall s lane) s (round_of lane) x.1.1.0 y.1.1.0 x.0 y.0 now_a now_b
    (λ c d e some none. some (read (λ (w : List Entry). current s w lane) (λ w. placed_current s w lane) c d e ∙ none))
    mid one other (λ some. some x.1.2) (λ some. some y.1.2) p q

pub lets_go_same : (s : Setting) (n : ℕ) (a b now_a now_b : RunProgress) → Alike a b → LetsGoTo s n a now_a
    → LetsGoTo s n b now_b → Alike now_a now_b
lets_go_same s zero a b now_a now_b h x y = stay_same a b now_a now_b h x y
lets_go_same s (suc lane) a b now_a now_b h x y =
    let mid = lets_go_same s lane a b x.0 y.0 h x.1.0 y.1.0 in
    events_same s _ _ _ _ now_a now_b (λ i. entry.LetGo lane ∷ mid.past i) mid.begun x.1.1 y.1.1

pub drains_same : (next : List Entry → Entry) (s : Setting) (n m : ℕ) (a b now_a now_b : RunProgress) → Alike a b
    → DrainsTo s n a now_a → DrainsTo s m b now_b
    → count_unanswered now_a.past ≡ 0 → count_unanswered now_b.past ≡ 0 → Follows next now_a.past
    → Follows next now_b.past → Alike now_a now_b
drains_same next s n m a b now_a now_b h x y e d p q =
    repeats_same next Awaits s (turn.Flush ∷ turn.Take ∷ []) n m a b now_a now_b
    (λ c d e some. subst (λ (k : ℕ). 0 < k) (read count_unanswered placed_unanswered c d e) some)
    h (drains_repeat s n a now_a x) (drains_repeat s m b now_b y) (λ some. absurd (omega (arith, e, some)))
    (λ some. absurd (omega (arith, d, some))) p q
