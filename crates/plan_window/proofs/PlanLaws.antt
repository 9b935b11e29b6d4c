-- What is left of the plan of a whole read as its READs are asked and answered.
use Rattle.std.proofs.Common.{◌≡◌, ℕ, Bool, true, false, List, [], ◌∷◌, ◌++◌, Option, Some, None, refl, sym, ap, ◌∙◌, append_assoc, append-nil}
use Rattle.std.specs.Prelude.{◌&&◌, ◌||◌, not, map, is_some, if◌then◌else◌}
use Rattle.sftp_model.specs.declared.reply.Reply.{Reply}
use Rattle.sftp_model.specs.declared.request.Request.{Request}
use Rattle.sftp_model.specs.declared.slot.Facts.{Facts}
use Rattle.sftp_model.specs.declared.slot.Move.{Move}
use Rattle.sftp_model.specs.declared.slot.Site.{Site}
use Rattle.sftp_model.specs.Answers.{is_end_of_file}
use Rattle.plan_model.specs.Moves.{Answers, Own, refusal_move}
use Rattle.plan_model.specs.WindowPlans.{
  answered_prefix,
  answered_then,
  brings_content,
  ends_or,
  first_refusal,
  gaps,
  go_on,
  least_end,
  outside,
  unless_refused,
  window_next,
}
use Rattle.plan_window.specs.declared.window.ReadAt.{ReadAt}
use Rattle.plan_window.specs.declared.window.Answered.{Answered}
use Rattle.plan_window.specs.Windows.{
  Window,
  answered_more,
  as_request,
  asked_more,
  empty_window,
  first_of,
  reads_of,
  replies_of,
  under_way,
  window_move,
  window_plan,
}

abbrev read_request : List ℕ → Answered → ℕ × Request
read_request handle a = as_request handle a.read

abbrev reply_at : Answered → ℕ × Reply
reply_at a = (a.read.offset, a.reply)

-- an element after a mapped list
map_more : {A B : Type 0} (f : A → B) (x : A) (xs : List A) (ys : List B) → map f (xs ++ x ∷ []) ++ ys ≡ map f xs
    ++ f x ∷ ys
map_more f x [] ys = refl
map_more f x (z ∷ zs) ys = ap (λ l. f z ∷ l) (map_more f x zs ys)

-- in front of a list of READs, the first of which was answered
answered_front : (handle : List ℕ) (bound : Option ℕ) (answered : List Answered) (r : ReadAt) (rest : List ReadAt)
    (site : Site) (facts : Facts) (later : Own) (answers : Answers) (y : Reply)
    → answers r.place ≡ Some y
    → window_plan handle bound (record { answered = answered; waiting = r ∷ rest }) site facts later answers
    ≡ window_plan handle bound (record { answered = answered ++ record { read = r; reply = y } ∷ []; waiting = rest })
    site facts later answers
answered_front handle bound answered r rest site facts later answers y is =
    λ i. window_next handle bound (reads i) (replies i) (waiting i) site facts
  where
    more : Answered
    more = record { read = r; reply = y }

    others : Own
    others = map (as_request handle) rest ++ later

    reads : (map (read_request handle) answered ++ as_request handle r ∷ map (as_request handle) rest) ++ later
        ≡ (map (read_request handle) (answered ++ more ∷ []) ++ map (as_request handle) rest) ++ later
    reads = ap (λ (l : Own). l ++ later) (sym (map_more (read_request handle) more answered
        (map (as_request handle) rest)))

    prefix : answered_then r.offset (answers r.place) (answered_prefix others answers)
        ≡ (r.offset, y) ∷ answered_prefix others answers
    prefix = ap (λ (o : Option Reply). answered_then r.offset o (answered_prefix others answers)) is

    replies : map reply_at answered ++ answered_then r.offset (answers r.place) (answered_prefix others answers)
        ≡ map reply_at (answered ++ more ∷ []) ++ answered_prefix others answers
    replies = ap (λ (l : List (ℕ × Reply)). map reply_at answered ++ l) prefix
        ∙ sym (map_more reply_at more answered (answered_prefix others answers))

    waiting : (if is_some (answers r.place) then outside others answers else as_request handle r ∷ others)
        ≡ outside others answers
    waiting = ap (λ (o : Option Reply). if is_some o then outside others answers else as_request handle r ∷ others) is

some_same : (a b : ReadAt) → (let p : Option ReadAt = Some a in p) ≡ Some b → a ≡ b
some_same a b e = cc

pub after_reply : (handle : List ℕ) (bound : Option ℕ) (w : Window) (site : Site) (facts : Facts) (later : Own)
    (answers : Answers) (r : ReadAt) (y : Reply) → first_of w.waiting ≡ Some r → answers r.place ≡ Some y
    → window_plan handle bound w site facts later answers ≡ window_plan handle bound (answered_more w y) site facts
    later answers
after_reply handle bound w site facts later answers r y first is = by_waiting w.answered w.waiting first
  where
    by_waiting : (answered : List Answered) (waiting : List ReadAt) → first_of waiting ≡ Some r
        → window_plan handle bound (record { answered = answered; waiting = waiting }) site facts later answers
        ≡ window_plan handle bound (answered_more (record { answered = answered; waiting = waiting }) y) site facts
        later answers
    by_waiting answered [] first = absurd cc
    by_waiting answered (q ∷ rest) first = answered_front handle bound answered q rest site facts later answers y
        (ap (λ (x : ReadAt). answers x.place) (some_same q r first) ∙ is)

pub after_asking : (handle : List ℕ) (bound : Option ℕ) (w : Window) (site : Site) (facts : Facts) (r : ReadAt)
    (later : Own) (answers : Answers)
    → window_plan handle bound w site facts (as_request handle r ∷ later) answers
    ≡ window_plan handle bound (asked_more w r) site facts later answers
after_asking handle bound w site facts r later answers =
    λ i. window_next handle bound (reads i) (replies_of w ++ answered_prefix (waiting i) answers)
    (outside (waiting i) answers) site facts
  where
    waiting : map (as_request handle) w.waiting ++ as_request handle r ∷ later
        ≡ map (as_request handle) (w.waiting ++ r ∷ []) ++ later
    waiting = sym (map_more (as_request handle) r w.waiting later)

    reads : (map (read_request handle) w.answered ++ map (as_request handle) w.waiting) ++ as_request handle r ∷ later
        ≡ (map (read_request handle) w.answered ++ map (as_request handle) (w.waiting ++ r ∷ [])) ++ later
    reads = append_assoc (map (read_request handle) w.answered) (map (as_request handle) w.waiting)
        (as_request handle r ∷ later)
        ∙ ap (λ (l : Own). map (read_request handle) w.answered ++ l) waiting
        ∙ sym (append_assoc (map (read_request handle) w.answered) (map (as_request handle) (w.waiting ++ r ∷ []))
        later)

-- the replies are those of the window, where the first READ under way was not answered
none_answered : (handle : List ℕ) (waiting : List ReadAt) (later : Own) (answers : Answers) (r : ReadAt)
    → first_of waiting ≡ Some r → answers r.place ≡ None
    → (answered_prefix (map (as_request handle) waiting ++ later) answers ≡ [])
    × (outside (map (as_request handle) waiting ++ later) answers ≡ map (as_request handle) waiting ++ later)
none_answered handle [] later answers r first is = absurd cc
none_answered handle (q ∷ rest) later answers r first is = (
  ap
      (λ (o : Option Reply). answered_then q.offset o (answered_prefix others answers)) missing,
  ap (λ (o : Option Reply). if is_some o then outside others answers else as_request handle q ∷ others) missing,
)
  where
    others : Own
    others = map (as_request handle) rest ++ later

    missing : answers q.place ≡ None
    missing = ap (λ (x : ReadAt). answers x.place) (some_same q r first) ∙ is

pub while_missing : (handle : List ℕ) (bound : Option ℕ) (w : Window) (site : Site) (facts : Facts) (later : Own)
    (answers : Answers) (r : ReadAt) → first_of w.waiting ≡ Some r → answers r.place ≡ None
    → window_plan handle bound w site facts later answers ≡ window_next handle bound (reads_of handle w ++ later)
    (replies_of w) (under_way handle w ++ later) site facts
while_missing handle bound w site facts later answers r first is =
    let p : (answered_prefix (under_way handle w ++ later) answers ≡ [])
    × (outside (under_way handle w ++ later) answers ≡ under_way handle w ++ later) =
    none_answered handle w.waiting later answers r first is in
    let replies : replies_of w ++ answered_prefix (under_way handle w ++ later) answers ≡ replies_of w =
    ap (λ (l : List (ℕ × Reply)). replies_of w ++ l) (p.0) ∙ append-nil (replies_of w) in
    λ i. window_next handle bound (reads_of handle w ++ later) (replies i) (p.1 i) site facts

-- the first refusal after replies without one
refused_first : (replies : List (ℕ × Reply)) (offset : ℕ) (y : Reply) (rest : List (ℕ × Reply)) → first_refusal replies
    ≡ None → (brings_content y || is_end_of_file y) ≡ false
    → first_refusal (replies ++ (offset, y) ∷ rest) ≡ Some (offset, y)
refused_first [] offset y rest none is = by_tests (brings_content y) (is_end_of_file y) is
  where
    by_tests : (a b : Bool) → (a || b) ≡ false → (if not a && not b then Some (offset, y) else first_refusal rest)
        ≡ Some (offset, y)
    by_tests true b is = absurd cc
    by_tests false true is = absurd cc
    by_tests false false is = refl
refused_first (got ∷ replies) offset y rest none is = by_test (not (brings_content got.1) && not (is_end_of_file got.1))
    none (λ k. refused_first replies offset y rest k is)
  where
    by_test : (b : Bool) → (if b then Some got else first_refusal replies) ≡ None
        → (first_refusal replies ≡ None → first_refusal (replies ++ (offset, y) ∷ rest) ≡ Some (offset, y))
        → (if b then Some got else first_refusal (replies ++ (offset, y) ∷ rest)) ≡ Some (offset, y)
    by_test true none later = absurd cc
    by_test false none later = later none

pub after_refusal : (handle : List ℕ) (bound : Option ℕ) (w : Window) (site : Site) (facts : Facts) (later : Own)
    (answers : Answers) (r : ReadAt) (y : Reply) → first_of w.waiting ≡ Some r → answers r.place ≡ Some y
    → first_refusal (replies_of w) ≡ None → (brings_content y || is_end_of_file y) ≡ false
    → window_plan handle bound w site facts later answers ≡ refusal_move y site
after_refusal handle bound w site facts later answers r y first is none bad =
    ap (λ (o : Option (ℕ × Reply)). unless_refused o site go) (by_waiting w.waiting first)
  where
    go : Move
    go = ends_or (gaps (reads_of handle w ++ later) (replies_of w
        ++ answered_prefix (under_way handle w ++ later) answers) (outside (under_way handle w ++ later) answers))
        (replies_of w ++ answered_prefix (under_way handle w ++ later) answers)
        (outside (under_way handle w ++ later) answers) site (least_end
        (replies_of w ++ answered_prefix (under_way handle w ++ later) answers))
        (go_on handle bound (reads_of handle w ++ later) (replies_of w
        ++ answered_prefix (under_way handle w ++ later) answers) (outside (under_way handle w ++ later) answers)
        site facts)

    by_waiting : (waiting : List ReadAt) → first_of waiting ≡ Some r
        → first_refusal (replies_of w ++ answered_prefix (map (as_request handle) waiting ++ later) answers)
        ≡ Some (r.offset, y)
    by_waiting [] first = absurd cc
    by_waiting (q ∷ rest) first =
        let others : Own = map (as_request handle) rest ++ later in
        let same : q ≡ r = some_same q r first in
        ap (λ (x : ReadAt). first_refusal (replies_of w ++ answered_then x.offset (answers x.place)
        (answered_prefix others answers))) same
        ∙ ap (λ (o : Option Reply). first_refusal (replies_of w ++ answered_then r.offset o
        (answered_prefix others answers))) is
        ∙ refused_first (replies_of w) r.offset y (answered_prefix others answers) none bad

pub none_under_way : (handle : List ℕ) (bound : Option ℕ) (w : Window) (site : Site) (facts : Facts) (answers : Answers)
    → w.waiting ≡ [] → window_plan handle bound w site facts [] answers ≡ window_move handle bound w site facts
none_under_way handle bound w site facts answers is =
    let others : under_way handle w ++ [] ≡ under_way handle w = append-nil (under_way handle w) in
    let reads : reads_of handle w ++ [] ≡ reads_of handle w = append-nil (reads_of handle w) in
    let none : under_way handle w ≡ [] = ap (λ (l : List ReadAt). map (as_request handle) l) is in
    let got : answered_prefix (under_way handle w ++ []) answers ≡ [] =
    ap (λ (l : Own). answered_prefix l answers) (others ∙ none) in
    let replies : replies_of w ++ answered_prefix (under_way handle w ++ []) answers ≡ replies_of w =
    ap (λ (l : List (ℕ × Reply)). replies_of w ++ l) got ∙ append-nil (replies_of w) in
    let waiting : outside (under_way handle w ++ []) answers ≡ under_way handle w =
    ap (λ (l : Own). outside l answers) (others ∙ none) ∙ sym none in
    λ i. window_next handle bound (reads i) (replies i) (waiting i) site facts

pub opened_window : (handle : List ℕ) (bound : Option ℕ) (site : Site) (facts : Facts) (later : Own) (answers : Answers)
    → window_plan handle bound empty_window site facts later answers
    ≡ window_next handle bound later (answered_prefix later answers) (outside later answers) site facts
opened_window handle bound site facts later answers = refl

pub move_missing : (handle : List ℕ) (bound : Option ℕ) (w : Window) (site : Site) (facts : Facts)
    → window_next handle bound (reads_of handle w ++ []) (replies_of w) (under_way handle w ++ []) site facts
    ≡ window_move handle bound w site facts
move_missing handle bound w site facts =
    let reads : reads_of handle w ++ [] ≡ reads_of handle w = append-nil (reads_of handle w) in
    let others : under_way handle w ++ [] ≡ under_way handle w = append-nil (under_way handle w) in
    λ i. window_next handle bound (reads i) (replies_of w) (others i) site facts
