-- A lane that runs alone, by calls of one request each that get no handle: its states, and a turn between two calls.
use Rattle.std.proofs.Common.{
  ◌≡◌,
  ◌≢◌,
  ◌<◌,
  ◌≤◌,
  ◌+◌,
  ℕ,
  zero,
  suc,
  Bool,
  true,
  false,
  List,
  [],
  ◌∷◌,
  ◌++◌,
  length,
  Option,
  Some,
  None,
  if◌then◌else◌,
  refl,
  ap,
  sym,
  ◌∙◌,
  subst,
  arith,
  inl,
  inr,
}
use Rattle.std.specs.Prelude.{◌⊎◌, map, slice_get, take}
use Rattle.std.proofs.lemmas.Bool.{eq-eqb, ne_eqb}
use Rattle.std.proofs.lemmas.Bool.Decides.{eqb_tells}
use Rattle.std.proofs.lemmas.List.{append-nil, append_assoc}
use Rattle.sftp_model.specs.declared.error.IoKind.TheVariants as kind
use Rattle.sftp_model.specs.declared.error.Error.TheVariants as error
use Rattle.sftp_model.specs.declared.outcome.Outcome.{Outcome}
use Rattle.sftp_model.specs.declared.outcome.Outcome.TheVariants as outcome
use Rattle.sftp_model.specs.declared.reply.Reply.{Reply}
use Rattle.sftp_model.specs.declared.reply.Reply.TheVariants as reply
use Rattle.sftp_model.specs.declared.request.Request.{Request}
use Rattle.sftp_model.specs.declared.slot.Move.TheVariants.{Ask}
use Rattle.sftp_model.specs.declared.slot.Site.{Site}
use Rattle.sftp_model.specs.Frames.{is_too_long}
use Rattle.plan_model.specs.Moves.{Own, refuse_locally}
use Rattle.plan_model.specs.PathPlans.{from_directory}
use Rattle.plan_model.specs.declared.call.Call.{Call}
use Rattle.plan_model.specs.declared.call.Call.TheVariants as call
use Rattle.session_model.specs.declared.entry.Entry.{Entry}
use Rattle.session_model.specs.declared.entry.Entry.TheVariants as entry
use Rattle.session_model.specs.declared.event.Event.TheVariants.{Submit, End}
use Rattle.session_model.specs.declared.event.Owner.TheVariants as owner
use Rattle.session_model.specs.declared.turn.Turn.TheVariants as turn
use Rattle.session_model.specs.Calls.{Setting, calls_of, current, move_at, site_of}
use Rattle.session_model.specs.Readings.{answer, count_submitted, count_ended, own}
use Rattle.session_model.specs.Served.{requests_of}
use Rattle.session_model.specs.Turns.{MovesBy, RulesTo, RunProgress, TurnTo}
use Rattle.session_model.proofs.RequestLaws.{answer_beyond}
use Rattle.run_ending_laws.proofs.Alone.{GrantsNone, IsQuiet, Told, none_added, none_next_due, through, told}
use Rattle.run_ending_laws.specs.FirstMkdirs.{unless_too_long, mkdir_of}

-- ---- the calls

-- what these calls ask, one after another
abbrev pub mkdirs_of : List Call → List Request
mkdirs_of [] = []
mkdirs_of (call.Mkdir path ∷ calls) = unless_too_long (mkdir_of path) ++ mkdirs_of calls
mkdirs_of (other ∷ calls) = mkdirs_of calls

-- each makes a directory
abbrev pub MakeAll : List Call → Type 0
MakeAll calls = (k : ℕ) (c : Call) → slice_get calls k ≡ Some c → (path : List ℕ) × (c ≡ call.Mkdir path)

mkdirs_two : (xs ys : List Call) → mkdirs_of (xs ++ ys) ≡ mkdirs_of xs ++ mkdirs_of ys
mkdirs_two [] ys = refl
mkdirs_two (call.Mkdir path ∷ xs) ys = ap (λ (w : List Request). unless_too_long (mkdir_of path) ++ w)
    (mkdirs_two xs ys)
    ∙ sym (append_assoc (unless_too_long (mkdir_of path)) (mkdirs_of xs) (mkdirs_of ys))
mkdirs_two (_ ∷ xs) ys = mkdirs_two xs ys

take_next : {A : Type 0} (xs : List A) (n : ℕ) (x : A) → slice_get xs n ≡ Some x → take (n + 1) xs ≡ take n xs ++ x ∷ []
take_next [] n x e = absurd cc
take_next (y ∷ xs) zero x e = (let same : y ≡ x = cc in ap (λ (w : _). w ∷ []) same)
take_next (y ∷ xs) (suc n) x e =
    let more : suc n + 1 ≡ suc (n + 1) = omega arith in
    ap (λ (k : ℕ). take k (y ∷ xs)) more ∙ ap (λ (w : List _). y ∷ w) (take_next xs n x e)

pub got_beyond : {A : Type 0} (xs : List A) (n : ℕ) → slice_get xs n ≡ None → length xs ≤ n
got_beyond [] n e = omega arith
got_beyond (x ∷ xs) zero e = absurd cc
got_beyond (x ∷ xs) (suc n) e = (let more = got_beyond xs n e in omega (arith, more))

pub got_within : {A : Type 0} (xs : List A) (n : ℕ) (x : A) → slice_get xs n ≡ Some x → n < length xs
got_within [] n x e = absurd cc
got_within (y ∷ xs) zero x e = omega arith
got_within (y ∷ xs) (suc n) x e = (let more = got_within xs n x e in omega (arith, more))

-- ---- states of the lane

abbrev pub asked_in : Own → List Request
asked_in requests = map (λ (r : ℕ × Request). r.1) requests

asked_more : (xs : Own) (r : ℕ × Request) → asked_in (xs ++ r ∷ []) ≡ asked_in xs ++ r.1 ∷ []
asked_more [] r = refl
asked_more (x ∷ xs) r = ap (λ (w : List Request). x.1 ∷ w) (asked_more xs r)

-- all requests are answered
abbrev AllCame : Told → Type 0
AllCame t = (q : ℕ) → q < t.count → t.answers q ≡ None → ⊥

-- calls that come after the next one have asked nothing
abbrev LaterAskedNone : Told → Type 0
LaterAskedNone t = (d : ℕ) → t.done < d → t.owns d ≡ []

-- between two calls
pub record Rests (calls : List Call) (t : Told) : Type 0 where
  pub none : t.owns t.done ≡ []
  pub later : LaterAskedNone t
  pub came : AllCame t
  pub made : asked_in t.requests ≡ mkdirs_of (take t.done calls)

-- within a call that has asked
pub record HasAsked (calls : List Call) (t : Told) : Type 0 where
  pub path : List ℕ
  pub is : slice_get calls t.done ≡ Some (call.Mkdir path)
  pub short : is_too_long (mkdir_of path) ≡ false
  pub place : ℕ
  pub own : t.owns t.done ≡ (place, mkdir_of path) ∷ []
  pub later : LaterAskedNone t
  pub made : asked_in t.requests ≡ mkdirs_of (take t.done calls) ++ mkdir_of path ∷ []

-- its request alone is unanswered
pub record Waits (calls : List Call) (t : Told) : Type 0 where
  pub asks : HasAsked calls t
  pub there : asks.place < t.count
  pub open_yet : t.answers asks.place ≡ None
  pub alone : (q : ℕ) → q < t.count → t.answers q ≡ None → q ≡ asks.place

-- its reply came
pub record Has (calls : List Call) (t : Told) : Type 0 where
  pub asks : HasAsked calls t
  pub said : Reply
  pub is : t.answers asks.place ≡ Some said
  pub came : AllCame t

-- ---- a turn between two calls

-- what the lane's journal is
pub record Goes (s : Setting) (lane : ℕ) (calls : List Call) : Type 0 where
  pub are : calls_of (slice_get s.lanes lane) ≡ calls
  pub make : MakeAll calls
  pub home : (past : List Entry) (path : List ℕ) → GrantsNone past → from_directory (site_of s past lane) path ≡ path

pub current_is : (s : Setting) (lane : ℕ) (calls : List Call) (past : List Entry) → Goes s lane calls → GrantsNone past
    → current s past lane ≡ slice_get calls (count_ended past lane)
current_is s lane calls past g none =
    ap (λ (w : List Call). slice_get w (count_ended past lane))
    (ap (λ (w : List Call). calls_of (slice_get s.lanes lane) ++ w) (none_added past lane none)
    ∙ (append-nil (calls_of (slice_get s.lanes lane)) ∙ g.are))

-- the journal, and a fact of what is read of the lane
abbrev pub Is : ℕ → (Told → Type 0) → List Entry → Type 0
Is lane P past = GrantsNone past × P (told lane past)

-- so many calls have ended, or all
abbrev pub IsFar : List Call → ℕ → Told → Type 0
IsFar calls n t = (n ≤ t.done) ⊎ (length calls ≤ t.done)

quiet_mkdir : (path : List ℕ) → IsQuiet (mkdir_of path)
quiet_mkdir path (reply.Handle handle) e = absurd cc
quiet_mkdir path (reply.Version version extensions) e = refl
quiet_mkdir path (reply.Status code message language) e = refl
quiet_mkdir path (reply.Content content) e = refl
quiet_mkdir path (reply.Names names) e = refl
quiet_mkdir path (reply.Attrs attrs) e = refl
quiet_mkdir path (reply.Extended content) e = refl

-- where a call ends, the lane rests
pub rests_end : (lane : ℕ) (calls : List Call) (past : List Entry) (o : Outcome) (path : List ℕ) (k : ℕ)
    → slice_get calls (count_ended past lane) ≡ Some (call.Mkdir path)
    → LaterAskedNone (told lane past) → AllCame (told lane past)
    → asked_in (requests_of past) ≡ mkdirs_of (take (count_ended past lane) calls) ++ unless_too_long (mkdir_of path)
    → Rests calls (told lane (entry.Event (End lane k o) ∷ past))
    × (count_ended (entry.Event (End lane k o) ∷ past) lane ≡ count_ended past lane + 1)
rests_end lane calls past o path k is later came made =
    let e : count_ended (entry.Event (End lane k o) ∷ past) lane ≡ count_ended past lane + 1 =
    rw (eq-eqb lane lane refl) refl in (
      record {
        none = ap (own past lane) e ∙ later (count_ended past lane + 1) (omega arith);
        later = λ d lt. later d (omega (arith, lt, e));
        came = came;
        made = made ∙ (ap (λ (w : List Request). mkdirs_of (take (count_ended past lane) calls) ++ w)
            (sym (append-nil (unless_too_long (mkdir_of path))))
            ∙ (sym (mkdirs_two (take (count_ended past lane) calls) (call.Mkdir path ∷ []))
            ∙ (ap mkdirs_of (sym (take_next calls (count_ended past lane) (call.Mkdir path) is))
            ∙ ap (λ (n : ℕ). mkdirs_of (take n calls)) (sym e))));
      },
      e,
    )

pub far_more : (calls : List Call) (n m : ℕ) (old new : Told) → IsFar calls n old → old.done ≤ new.done → m ≤ n
    → IsFar calls m new
far_more calls n m old new (inl far) le low = inl (omega (arith, far, le, low))
far_more calls n m old new (inr all) le low = inr (omega (arith, all, le))

pub far_next : (calls : List Call) (n : ℕ) (old new : Told) → IsFar calls n old → new.done ≡ old.done + 1
    → IsFar calls (n + 1) new
far_next calls n old new (inl far) e = inl (omega (arith, far, e))
far_next calls n old new (inr all) e = inr (omega (arith, all, e))

-- after a turn of a lane that rested
abbrev pub Goes1 : List Call → ℕ → Told → Type 0
Goes1 calls n t = (Rests calls t × IsFar calls (n + 1) t) ⊎ (Waits calls t × IsFar calls n t)

-- the request that a call asks
asks_now : (s : Setting) (lane : ℕ) (calls : List Call) (n : ℕ) (past : List Entry) (path : List ℕ) (id : ℕ)
    → GrantsNone past → Rests calls (told lane past)
    → IsFar calls n (told lane past) → slice_get calls (count_ended past lane) ≡ Some (call.Mkdir path)
    → is_too_long (mkdir_of path) ≡ false
    → Is lane (Goes1 calls n) (entry.Event (Submit (owner.Call lane (count_ended past lane)) id (mkdir_of path)) ∷ past)
asks_now s lane calls n past path id g r far is short = (
  (quiet_mkdir path, g),
  inr (
    record {
      asks = record {
        path = path;
        is = is;
        short = short;
        place = count_submitted past;
        own = rw (eq-eqb lane lane refl, eq-eqb (count_ended past lane) (count_ended past lane) refl, r.none) refl;
        later = λ d lt. rw (
          eq-eqb lane lane refl,
          ne_eqb (count_ended past lane) d
              (λ same. let late : count_ended past lane < d = lt in absurd (omega (arith, same, late))),
        ) (r.later d lt);
        made = asked_more (requests_of past) (count_submitted past, mkdir_of path)
            ∙ ap (λ (w : List Request). w ++ mkdir_of path ∷ []) r.made;
      };
      there = omega arith;
      open_yet = answer_beyond past (count_submitted past) (omega arith);
      alone = λ q lt none. elim (eqb_tells q (count_submitted past)) [
        | inl t ↦ t.1
        | inr t ↦ absurd (r.came q (let ne : q ≢ count_submitted past = t.1 in let low : q < count_submitted past + 1 =
            lt in omega (arith, ne, low)) none)
      ];
    },
    far,
  ),
)

pub step_rests : (s : Setting) (lane : ℕ) (calls : List Call) (n : ℕ) (before now : RunProgress) → Goes s lane calls
    → Is lane (λ t. Rests calls t × IsFar calls n t) before.past → TurnTo s (turn.Step lane) before now
    → Is lane (Goes1 calls n) now.past
step_rests s lane calls n before now go (g, (r, far)) to =
    by_call (slice_get calls (count_ended past lane)) refl
    (subst (λ (o : Own). MovesBy (RulesTo s) lane before now (move_at (slice_get calls (count_ended past lane)) site
    s.facts o (answer past))) r.none
    (subst (λ (c : Option Call). MovesBy (RulesTo s) lane before now
    (move_at c site s.facts (own past lane (count_ended past lane)) (answer past)))
    (current_is s lane calls past go g) to))
  where
    past : List Entry
    past = before.past

    site : Site
    site = site_of s past lane

    by_length : (path : List ℕ) → slice_get calls (count_ended past lane) ≡ Some (call.Mkdir path) → (b : Bool)
        → is_too_long (mkdir_of path) ≡ b
        → MovesBy (RulesTo s) lane before now (Some (if b then refuse_locally kind.PathTooLong site else
        Ask (mkdir_of path))) → Is lane (Goes1 calls n) now.past
    by_length path is true long to =
        let fits : unless_too_long (mkdir_of path) ≡ [] = rw long refl in
        let made : asked_in (requests_of past) ≡ mkdirs_of (take (count_ended past lane) calls)
        ++ unless_too_long (mkdir_of path) =
        r.made ∙ (sym (append-nil (mkdirs_of (take (count_ended past lane) calls)))
        ∙ ap (λ (w : List Request). mkdirs_of (take (count_ended past lane) calls) ++ w) (sym fits)) in
        let o : Outcome = outcome.Refused (error.IOError kind.PathTooLong) in
        let new : List Entry = entry.Event (End lane (count_ended past lane) o) ∷ past in
        let rest = rests_end lane calls past o path (count_ended past lane) is r.later r.came made in
        through (Is lane (Goes1 calls n)) s new now.past (λ p h. h) (none_next_due s new g) to.1
        (g, inl (rest.0, far_next calls n (told lane past) (told lane new) far rest.1))
    by_length path is false short to =
        let new : List Entry = entry.Event (Submit (owner.Call lane (count_ended past lane)) to.1.0 (mkdir_of path)) ∷
        past in
        through (Is lane (Goes1 calls n)) s new now.past (λ p h. h) (none_next_due s new (quiet_mkdir path, g)) to.1.1.1
        (asks_now s lane calls n past path to.1.0 g r far is short)

    by_call : (c : Option Call) → slice_get calls (count_ended past lane) ≡ c
        → MovesBy (RulesTo s) lane before now (move_at c site s.facts [] (answer past))
        → Is lane (Goes1 calls n) now.past
    by_call None is e = subst (λ (w : RunProgress). Is lane (Goes1 calls n) w.past) (sym e)
        (g, inl (r, inr (got_beyond calls (count_ended past lane) is)))
    by_call (Some c) is to =
        let made = go.make (count_ended past lane) c is in
        let home : from_directory site made.0 ≡ made.0 = go.home past made.0 g in
        by_length made.0 (is ∙ ap (λ (d : Call). Some d) made.1) (is_too_long (mkdir_of made.0)) refl
        (subst (λ (path : List ℕ). MovesBy (RulesTo s) lane before now
        (Some (if is_too_long (mkdir_of path) then refuse_locally kind.PathTooLong site else Ask (mkdir_of path)))) home
        (subst (λ (d : Call). MovesBy (RulesTo s) lane before now (move_at (Some d) site s.facts [] (answer past)))
        made.1 to))
