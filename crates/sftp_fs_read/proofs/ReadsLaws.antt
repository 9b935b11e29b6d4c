-- The READs of a whole read stay those that its plan asked.
use Rattle.std.proofs.Common.{◌≡◌, ◌≢◌, ◌∙◌, ◌<◌, ◌≤◌, ◌+◌, ◌-◌, ◌^◌, refl, sym, ap, subst, arith, ℕ, true, false, List, [], ◌∷◌, ◌++◌, length, suc, Option, Some, None, inl, inr}
use Rattle.std.specs.Prelude.{◌⊎◌, ◌||◌, map, IfSome, slice_get}
use Rattle.std.proofs.lemmas.Bool.Decides.{nat_tests}
use Rattle.std.proofs.lemmas.Bool.{cases_eq, cases_lt}
use Rattle.std.proofs.lemmas.List.{append-nil, append_assoc, get_or_append_left, length-append, map-append}
use Rattle.std.proofs.lemmas.Option.{slice_get-get_or, slice_get_past, slice_get_within}
use Rattle.std.proofs.Math.ListN.{get_or}
use Rattle.std.proofs.Math.Seq.{get_or-append_seam}
use Rattle.sftp_model.specs.Answers.{MayAnswer, allows_reply, is_end_of_file}
use Rattle.sftp_model.specs.declared.answers.Expected.TheVariants as expected
use Rattle.sftp_model.specs.declared.error.Error.{Error}
use Rattle.sftp_model.specs.declared.reply.Reply.{Reply}
use Rattle.sftp_model.specs.declared.reply.Reply.TheVariants as reply
use Rattle.sftp_model.specs.declared.request.Request.{Request}
use Rattle.sftp_model.specs.declared.request.Request.TheVariants as request
use Rattle.sftp_model.specs.declared.slot.Facts.{Facts}
use Rattle.sftp_model.specs.declared.slot.Move.TheVariants.{Ask, Done}
use Rattle.sftp_model.specs.declared.outcome.Outcome.TheVariants as outcome
use Rattle.sftp_model.specs.declared.slot.Site.{Site}
use Rattle.plan_model.specs.FilePlans.{open_request}
use Rattle.plan_model.specs.GoodMoves.{FitsFacts}
use Rattle.plan_model.specs.Moves.{Answers, Own, Plan, refusal_move}
use Rattle.plan_model.specs.OwnRequests.{AreAsked, ExtendsAnswers, MayBeAnswered, oldest_first}
use Rattle.plan_model.specs.WindowPlans.{brings_content, to_read}
use Rattle.plan_model.specs.PathPlans.{from_directory}
use Rattle.sftp_file.proofs.BodyLens.{long_by_path}
use Rattle.plan_window.specs.Windows.{FitsRead, IsSound, Window, answered_more, asked_more, empty_window, first_of, window_move, window_plan}
use Rattle.plan_window.specs.declared.window.Answered.{Answered}
use Rattle.plan_window.specs.declared.window.ReadAt.{ReadAt}
use Rattle.plan_window.proofs.PlanLaws.{after_asking, after_refusal, after_reply, move_missing, none_under_way, while_missing}
use Rattle.sftp_fs_read.specs.Reads.{
  AreBelow,
  AreNumbered,
  AreRead,
  AreThere,
  EndsBy,
  IsOnlyAt,
  IsWhyOver,
  ReadsValue,
  any_read,
  anywhere,
  no_reads,
  refusal_of,
  replies_of_window,
}

-- ---- a list with one more

get_still : (xs ys : List Reply) (k : ℕ) (r : Reply) → slice_get xs k ≡ Some r → slice_get (xs ++ ys) k ≡ Some r
get_still xs ys k r is =
    let within : k < length xs = slice_get_within xs k r is in
    let longer : length (xs ++ ys) ≡ length xs + length ys = length-append xs ys in
    let wide : k < length (xs ++ ys) = omega (arith, within, longer) in
    slice_get-get_or (xs ++ ys) k r wide ∙ (ap (λ (x : Reply). Some x) (get_or_append_left xs ys r k within)
    ∙ (sym (slice_get-get_or xs k r within) ∙ is))

get_last : (xs : List Reply) (y : Reply) → slice_get (xs ++ y ∷ []) (length xs) ≡ Some y
get_last xs y =
    let longer : length (xs ++ y ∷ []) ≡ length xs + 1 = length-append xs (y ∷ []) in
    slice_get-get_or (xs ++ y ∷ []) (length xs) y (omega (arith, longer))
    ∙ ap (λ (x : Reply). Some x) (get_or-append_seam xs y [] y)

-- ---- what is told

-- the replies of a window in a list, the HANDLE first
abbrev replies : List ℕ → List Answered → List Reply
replies handle answered = reply.Handle handle ∷ map (λ a. a.reply) answered

replies_length : (handle : List ℕ) (answered : List Answered) → length (replies handle answered) ≡ length answered + 1
replies_length handle answered = let e = map_length answered in omega (arith, e)
  where
    map_length : (xs : List Answered) → length (map (λ (a : Answered). a.reply) xs) ≡ length xs
    map_length [] = refl
    map_length (x ∷ xs) = ap (λ n. suc n) (map_length xs)

-- and one more
replies_more : (handle : List ℕ) (answered : List Answered) (x : Answered)
    → replies handle (answered ++ x ∷ []) ≡ replies handle answered ++ x.reply ∷ []
replies_more handle answered x = ap (λ (l : List Reply). reply.Handle handle ∷ l)
    (map-append (λ (a : Answered). a.reply) answered (x ∷ []))

-- what is asked for the first time is told nothing of
told_nothing : (handle : List ℕ) (w : Window) (place : ℕ) → length w.answered + 2 ≤ place
    → replies_of_window handle w place ≡ None
told_nothing handle w place behind =
    let long = replies_length handle w.answered in slice_get_past (replies handle w.answered) (place - 1)
    (omega (arith, long, behind))

asked_extends : (plan : Plan) (past : Own) (old new : Answers) → ExtendsAnswers old new → AreAsked plan past old
    → AreAsked plan past new
asked_extends plan [] old new more h = tt
asked_extends plan (a ∷ past) old new more (before, earlier, asks, none, stays) =
    (before, earlier, asks, none, λ p r e. more p r (stays p r e))

-- ---- where nothing more came, what is left is what the window does

plan_moves : (handle : List ℕ) (answered : List Answered) (waiting : List ReadAt) (site : Site) (facts : Facts)
    (answers : Answers)
    → ((r : ReadAt) → first_of waiting ≡ Some r → answers r.place ≡ None)
    → window_plan handle None (record { answered = answered; waiting = waiting }) site facts [] answers
    ≡ window_move handle None (record { answered = answered; waiting = waiting }) site facts
plan_moves handle answered [] site facts answers missing =
    none_under_way handle None (record { answered = answered; waiting = [] }) site facts answers refl
plan_moves handle answered (r ∷ rest) site facts answers missing =
    let w : Window = record { answered = answered; waiting = r ∷ rest } in
    while_missing handle None w site facts [] answers r refl (missing r refl) ∙ move_missing handle None w site facts

pub moves_now : (handle : List ℕ) (w : Window) (site : Site) (facts : Facts) (answers : Answers)
    → ((r : ReadAt) → first_of w.waiting ≡ Some r → answers r.place ≡ None)
    → window_plan handle None w site facts [] answers ≡ window_move handle None w site facts
moves_now handle w site facts answers missing = plan_moves handle w.answered w.waiting site facts answers missing

first_untold : (handle : List ℕ) (answered : List Answered) (waiting : List ReadAt)
    → AreNumbered (length answered + 2) waiting
    → (r : ReadAt) → first_of waiting ≡ Some r → replies_of_window handle
    (record { answered = answered; waiting = waiting }) r.place ≡ None
first_untold handle answered [] numbered r is = absurd cc
first_untold handle answered (q ∷ rest) numbered r is =
    let same : q.place ≡ r.place = (let e : q ≡ r = cc in ap (λ (x : ReadAt). x.place) e) in
    told_nothing handle (record { answered = answered; waiting = q ∷ rest }) r.place (omega (arith, same, numbered.0))

-- the plan of the empty path moves as the window
pub any_moves : (s : ReadsValue) (h : AreRead s)
    → any_read s.facts (oldest_first h.past) (replies_of_window s.handle s.window)
    ≡ window_move s.handle None s.window anywhere s.facts
any_moves s h =
    let here : Answers = replies_of_window s.handle s.window in
    ap (λ (own : Own). any_read s.facts own here) (sym (append-nil (oldest_first h.past)))
    ∙ (h.goes [] here (λ place r is. is)
    ∙ moves_now s.handle s.window anywhere s.facts here (first_untold s.handle s.window.answered s.window.waiting
    h.numbered))

-- ---- no READ

-- the OPEN of the empty path
abbrev any_open : Request
any_open = open_request to_read (from_directory anywhere [])

open_asked : (facts : Facts) → any_read facts [] (λ place. None) ≡ Ask any_open
open_asked facts = rw (long_by_path to_read []) refl

pub none_read : (facts : Facts) (handle : List ℕ) → FitsFacts facts → IsSound empty_window
    → AreRead (no_reads facts handle)
none_read facts handle fits sound =
    record {
      fits = fits;
      sound = sound;
      few = omega arith;
      count = refl;
      numbered = tt;
      past = (1, any_open) ∷ [];
      asked = ((λ place. None), tt, open_asked facts, refl, λ place r is. absurd cc);
      answered = (refl, tt);
      below = (omega arith, omega arith, tt);
      there = tt;
      made = refl;
      goes = λ later answers more. (let came : answers 1 ≡ Some (reply.Handle handle) =
          more 1 (reply.Handle handle) refl in rw came refl);
    }

-- ---- a READ more

numbered_more : (place : ℕ) (waiting : List ReadAt) (r : ReadAt) → AreNumbered place waiting → r.place
    ≡ place + length waiting
    → AreNumbered place (waiting ++ r ∷ [])
numbered_more place [] r numbered is = (omega (arith, is), tt)
numbered_more place (q ∷ rest) r numbered is = (
  numbered.0,
  numbered_more (place + 1) rest r numbered.1
      (omega (arith, is)),
)

below_more : (place : ℕ) (past : Own) → AreBelow place past → AreBelow (place + 1) past
below_more place [] h = tt
below_more place (a ∷ past) h = (h.0, omega (arith, h.1), below_more place past h.2)

only_new : (place : ℕ) (q : Request) (past : Own) → AreBelow place past → IsOnlyAt place q past
only_new place q [] h = tt
only_new place q (a ∷ past) h = ((λ same. absurd (omega (arith, same, h.1))), only_new place q past h.2)

there_more : (handle : List ℕ) (place from : ℕ) (q : Request) (waiting : List ReadAt) (r : ReadAt) (past : Own)
    → AreNumbered from waiting → from + length waiting ≡ place → r.place ≡ place → q
    ≡ request.Read handle r.offset r.len
    → AreBelow place past → AreThere handle waiting past → AreThere handle (waiting ++ r ∷ []) ((place, q) ∷ past)
there_more handle place from q [] r past numbered sum at is below there = (
  (
    (λ same. is),
    subst (λ (n : ℕ). IsOnlyAt n (request.Read handle r.offset r.len) past) (sym at)
        (only_new place (request.Read handle r.offset r.len) past below),
  ),
  tt,
)
there_more handle place from q (w ∷ rest) r past numbered sum at is below there = (
  ((λ same. absurd (omega (arith, same, sum, numbered.0))), there.0),
  there_more handle place (from + 1) q rest r past numbered.1 (omega (arith, sum)) at is below there.1,
)

abbrev with_read : ReadsValue → ℕ → ℕ → ReadsValue
with_read s offset len =
    record s {
      place = s.place + 1;
      window = asked_more s.window
          (record { place = s.place; offset = offset; len = len });
    }

pub asked_read : (s : ReadsValue) (offset len : ℕ) (new : Window) → AreRead s → s.place < 2 ^ 43
    → ((site : Site) → window_move s.handle None s.window site s.facts ≡ Ask (request.Read s.handle offset len))
    → new ≡ asked_more s.window (record { place = s.place; offset = offset; len = len }) → IsSound new
    → AreRead (record s { place = s.place + 1; window = new })
asked_read s offset len new h few asks is sound =
    let r : ReadAt = record { place = s.place; offset = offset; len = len } in
    let q : Request = request.Read s.handle offset len in
    let untold : replies_of_window s.handle s.window s.place ≡ None =
    told_nothing s.handle s.window s.place (let e = h.count in omega (arith, e)) in
    let one : 1 ≤ s.place = (let e = h.count in omega (arith, e)) in
    let more : length (s.window.waiting ++ r ∷ []) ≡ length s.window.waiting + 1 =
    length-append s.window.waiting (r ∷ []) in
    subst (λ (w : Window). AreRead (record s { place = s.place + 1; window = w })) (sym is) (record {
      fits = h.fits;
      sound = subst IsSound is sound;
      few = omega (arith, few);
      count = (let e = h.count in omega (arith, e, more));
      numbered = numbered_more (length s.window.answered + 2) s.window.waiting r h.numbered
          (let e = h.count in omega (arith, e));
      past = (s.place, q) ∷ h.past;
      asked = (replies_of_window s.handle s.window, h.asked, any_moves s h ∙ asks anywhere, untold, λ place x e. e);
      answered = (subst (λ (o : Option Reply). IfSome o (MayAnswer q)) (sym untold) tt, h.answered);
      below = (one, omega arith, below_more s.place h.past h.below);
      there = there_more s.handle s.place (length s.window.answered + 2) q s.window.waiting r h.past h.numbered
          (let e = h.count in omega (arith, e)) refl refl h.below h.there;
      made = (let e = h.made in omega (arith, e));
      goes = λ later answers x. ap (λ (own : Own). any_read s.facts own answers)
          (append_assoc (oldest_first h.past) ((s.place, q) ∷ []) later)
          ∙ (h.goes ((s.place, q) ∷ later) answers x ∙ after_asking s.handle None s.window anywhere s.facts r later
          answers);
    })

-- ---- a reply

-- the reply at a place is the one that was there, or the new one, right behind
one_more : (handle : List ℕ) (answered : List Answered) (y : Reply) (place : ℕ) (o : Option Reply) → 1 ≤ place
    → slice_get (replies handle answered) (place - 1) ≡ o
    → (slice_get (replies handle answered ++ y ∷ []) (place - 1) ≡ o)
    ⊎ ((place ≡ length answered + 2) × (slice_get (replies handle answered ++ y ∷ []) (place - 1) ≡ Some y))
one_more handle answered y place (Some r) one is = inl (get_still (replies handle answered) (y ∷ []) (place - 1) r is)
one_more handle answered y place None one is = by_place (cases_eq (place - 1) (length (replies handle answered)))
  where
    long : length (replies handle answered) ≡ length answered + 1
    long = replies_length handle answered

    by_place : ((place - 1 ≡ length (replies handle answered)) ⊎ (place - 1 ≡ length (replies handle answered) → ⊥))
        → (slice_get (replies handle answered ++ y ∷ []) (place - 1) ≡ None)
        ⊎ ((place ≡ length answered + 2) × (slice_get (replies handle answered ++ y ∷ []) (place - 1) ≡ Some y))
    by_place (inl same) = inr (
      omega (arith, same, long, one),
      subst (λ (n : ℕ). slice_get (replies handle answered ++ y ∷ []) n ≡ Some y) (sym same)
          (get_last (replies handle answered) y),
    )
    by_place (inr apart) =
        let more : length (replies handle answered ++ y ∷ []) ≡ length (replies handle answered) + 1 =
        length-append (replies handle answered) (y ∷ []) in
        inl (slice_get_past (replies handle answered ++ y ∷ []) (place - 1)
        (past_all (cases_lt (place - 1) (length (replies handle answered))) more))
      where
        above_by : (k n m : ℕ) → n ≤ k → (k ≡ n → ⊥) → m ≡ n + 1 → m ≤ k
        above_by k n m le apart more = omega (arith, le, apart, more)

        got_none : slice_get (replies handle answered) (place - 1)
            ≡ Some (get_or (replies handle answered) (place - 1) y) → ⊥
        got_none e = (let clash : ◌≡◌ {A = Option Reply} None (Some (get_or (replies handle answered) (place - 1) y)) =
            sym is ∙ e in cc)

        past_all : ((place - 1 < length (replies handle answered)) ⊎ (length (replies handle answered) ≤ place - 1))
            → length (replies handle answered ++ y ∷ []) ≡ length (replies handle answered) + 1
            → length (replies handle answered ++ y ∷ []) ≤ place - 1
        past_all (inl lt) more = absurd (got_none (slice_get-get_or (replies handle answered) (place - 1) y lt))
        past_all (inr le) more = above_by (place - 1) (length (replies handle answered))
            (length (replies handle answered ++ y ∷ [])) le apart more

may_more : (handle : List ℕ) (answered : List Answered) (y : Reply) (past : Own) (q : Request) (place : ℕ)
    → AreBelow place past
    → IsOnlyAt (length answered + 2) q past → MayAnswer q y
    → MayBeAnswered past (λ p. slice_get (replies handle answered) (p - 1))
    → MayBeAnswered past (λ p. slice_get (replies handle answered ++ y ∷ []) (p - 1))
may_more handle answered y [] q place below only new may = tt
may_more handle answered y (a ∷ past) q place below only new may = (
  by_place (one_more handle answered y a.0 (slice_get (replies handle answered) (a.0 - 1)) below.0 refl),
  may_more handle answered y past q place below.2 only.1 new may.1,
)
  where
    by_place : ((slice_get (replies handle answered ++ y ∷ []) (a.0 - 1)
        ≡ slice_get (replies handle answered) (a.0 - 1))
        ⊎ ((a.0 ≡ length answered + 2) × (slice_get (replies handle answered ++ y ∷ []) (a.0 - 1) ≡ Some y)))
        → IfSome (slice_get (replies handle answered ++ y ∷ []) (a.0 - 1)) (MayAnswer a.1)
    by_place (inl same) = subst (λ (o : Option Reply). IfSome o (MayAnswer a.1)) (sym same) may.0
    by_place (inr at) = subst (λ (o : Option Reply). IfSome o (MayAnswer a.1)) (sym at.1)
        (subst (λ (r : Request). MayAnswer r y) (sym (only.0 at.0)) new)

reply_read : (s : ReadsValue) (answered : List Answered) (r : ReadAt) (rest : List ReadAt) (y : Reply)
    → s.window ≡ record { answered = answered; waiting = r ∷ rest }
    → AreRead (record s { window = record { answered = answered; waiting = r ∷ rest } })
    → IsSound (record { answered = answered ++ record { read = r; reply = y } ∷ []; waiting = rest })
    → allows_reply (expected.Content r.len) y ≡ true
    → AreRead (record s {
      window = record { answered = answered ++ record { read = r; reply = y } ∷ []; waiting = rest };
    })
reply_read s answered r rest y at h sound may =
    let x : Answered = record { read = r; reply = y } in
    let w : Window = record { answered = answered; waiting = r ∷ rest } in
    let now : Window = record { answered = answered ++ x ∷ []; waiting = rest } in
    let q : Request = request.Read s.handle r.offset r.len in
    let at_r : r.place ≡ length answered + 2 = h.numbered.0 in
    let long = replies_length s.handle answered in
    let behind : r.place - 1 ≡ length (replies s.handle answered) = omega (arith, long, at_r) in
    let told_now : replies_of_window s.handle now ≡ (λ place. slice_get (replies s.handle answered ++ y ∷ [])
    (place - 1)) =
    λ i place. slice_get (replies_more s.handle answered x i) (place - 1) in
    let longer : ExtendsAnswers (replies_of_window s.handle w) (replies_of_window s.handle now) = λ place o is.
    subst (λ (f : Answers). f place ≡ Some o) (sym told_now) (get_still (replies s.handle answered) (y ∷ []) (place - 1)
    o is) in
    let came : replies_of_window s.handle now r.place ≡ Some y =
    subst (λ (f : Answers). f r.place ≡ Some y) (sym told_now)
    (subst (λ (n : ℕ). slice_get (replies s.handle answered ++ y ∷ []) n ≡ Some y) (sym behind)
    (get_last (replies s.handle answered) y)) in
    let more : length (answered ++ x ∷ []) ≡ length answered + 1 = length-append answered (x ∷ []) in
    record {
      fits = h.fits;
      sound = sound;
      few = h.few;
      count = (let e = h.count in omega (arith, e, more));
      numbered = subst (λ (n : ℕ). AreNumbered n rest) (omega (arith, more)) h.numbered.1;
      past = h.past;
      asked = asked_extends (any_read s.facts) h.past (replies_of_window s.handle w) (replies_of_window s.handle now)
          longer h.asked;
      answered = subst (λ (f : Answers). MayBeAnswered h.past f) (sym told_now)
          (may_more s.handle answered y h.past q s.place h.below (subst (λ (n : ℕ). IsOnlyAt n q h.past) at_r h.there.0)
          (may_is r y may) h.answered);
      below = h.below;
      there = h.there.1;
      made = h.made;
      goes = λ later answers e. h.goes later answers (λ place o is. e place o (longer place o is))
          ∙ after_reply s.handle None w anywhere s.facts later answers r y refl (e r.place y came);
    }
  where
    may_is : (r : ReadAt) (y : Reply) → allows_reply (expected.Content r.len) y ≡ true
        → MayAnswer (request.Read s.handle r.offset r.len) y
    may_is r y e = rw e refl

by_waiting : (s : ReadsValue) (answered : List Answered) (waiting : List ReadAt) (y : Reply) (new : Window)
    → s.window ≡ record { answered = answered; waiting = waiting } → AreRead s → first_of waiting ≢ None
    → ((r : ReadAt) → first_of waiting ≡ Some r → allows_reply (expected.Content r.len) y ≡ true)
    → new ≡ answered_more (record { answered = answered; waiting = waiting }) y → IsSound new
    → AreRead (record s { window = new })
by_waiting s answered [] y new at h some may is sound = absurd (some refl)
by_waiting s answered (r ∷ rest) y new at h some may is sound =
    subst (λ (w : Window). AreRead (record s { window = w })) (sym is)
    (reply_read s answered r rest y at (subst (λ (w : Window). AreRead (record s { window = w })) at h)
    (subst IsSound is sound)
    (may r refl))

pub replied_read : (s : ReadsValue) (y : Reply) (new : Window) → AreRead s → first_of s.window.waiting ≢ None
    → ((r : ReadAt) → first_of s.window.waiting ≡ Some r → allows_reply (expected.Content r.len) y ≡ true)
    → new ≡ answered_more s.window y → IsSound new → AreRead (record s { window = new })
replied_read s y new h some may is sound = by_waiting s s.window.answered s.window.waiting y new refl h some may is
    sound

-- ---- a refusal

pub refused_as : (y : Reply) (site : Site) → refusal_move y site ≡ Done (outcome.Refused (refusal_of y)) site
refused_as (reply.Status code message language) site = refl
refused_as (reply.Version version extensions) site = refl
refused_as (reply.Handle handle) site = refl
refused_as (reply.Content bytes) site = refl
refused_as (reply.Names names) site = refl
refused_as (reply.Attrs attrs) site = refl
refused_as (reply.Extended content) site = refl

pub refused_read : (s : ReadsValue) (y : Reply) (e : Error) → AreRead s → (brings_content y || is_end_of_file y) ≡ false
    → e ≡ refusal_of y → IsWhyOver s y e
refused_read s y e h bad is = (
  is,
  subst (EndsBy s y) (sym is) (λ r site later answers first came.
      after_refusal s.handle None s.window site s.facts later answers r y first came h.sound.unrefused bad
      ∙ refused_as y site),
)

-- a DATA has at most the bytes that were asked
pub fits_read : (r : ReadAt) (y : Reply) → allows_reply (expected.Content r.len) y ≡ true → FitsRead r y
fits_read r (reply.Content bytes) e = grind (arith, nat_tests, e)
fits_read r (reply.Version version extensions) e = tt
fits_read r (reply.Handle handle) e = tt
fits_read r (reply.Status code message language) e = tt
fits_read r (reply.Names names) e = tt
fits_read r (reply.Attrs attrs) e = tt
fits_read r (reply.Extended content) e = tt
