-- What a window does next by the plan is what it does by its READs alone.
use Rattle.std.proofs.Common.{
  ◌≡◌,
  ◌≤◌,
  ◌+◌,
  ◌-◌,
  ℕ,
  Bool,
  true,
  false,
  List,
  [],
  ◌∷◌,
  ◌++◌,
  Option,
  Some,
  None,
  refl,
  sym,
  ap,
  subst,
  ◌∙◌,
  arith,
  length,
  suc,
  if◌then◌else◌,
}
use Rattle.std.specs.Prelude.{◌&&◌, ◌||◌, ◌==◌, not, map, max, min, filter, flat_map, unwrap_or, nat_le, nat_lt, cond, IfOk, Result, Ok, Err}
use Rattle.std.specs.List.{list_any}
use Rattle.std.proofs.lemmas.Bool.Decides.{nat_tests}
use Rattle.ssh_encoding.specs.declared.out_of_memory.OutOfMemory.{OutOfMemory}
use Rattle.sftp_model.specs.declared.reply.Reply.{Reply}
use Rattle.sftp_model.specs.declared.reply.Reply.TheVariants as reply
use Rattle.sftp_model.specs.declared.request.Request.{Request}
use Rattle.sftp_model.specs.declared.outcome.Outcome.TheVariants as outcome
use Rattle.sftp_model.specs.declared.slot.Facts.{Facts}
use Rattle.sftp_model.specs.declared.slot.Move.{Move}
use Rattle.sftp_model.specs.declared.slot.Move.TheVariants.{Done}
use Rattle.sftp_model.specs.declared.slot.Site.{Site}
use Rattle.sftp_model.specs.Answers.{is_end_of_file}
use Rattle.plan_model.specs.GoodMoves.{ReadsWithin}
use Rattle.plan_model.specs.WindowPlans.{
  ask_more,
  await_first,
  begins,
  brings_content,
  content_end,
  contents,
  ends_or,
  first_refusal,
  gap_len,
  gaps,
  go_on,
  greatest,
  in_order,
  is_inside,
  least,
  least_end,
  len_asked,
  lesser,
  put_in_order,
  reach,
  end_of_read,
  unless_refused,
  whole_content,
}
use Rattle.plan_window.specs.declared.window.ReadAt.{ReadAt}
use Rattle.plan_window.specs.declared.window.Answered.{Answered}
use Rattle.plan_window.specs.declared.next_move.WindowMove.{WindowMove}
use Rattle.plan_window.specs.declared.next_move.WindowMove.TheVariants as step
use Rattle.plan_window.specs.Windows.{Window, AsksInRange, IsMoveInRange, IsSound, as_request, move_by, reads_of, replies_of, under_way, window_move}
use Rattle.plan_window.specs.PlainSteps.{
  AsksWithin,
  above,
  answered_above,
  ask_next,
  begins_at,
  content_count,
  end_at,
  gap_at,
  gap_of,
  go_further,
  greatest_by,
  least_by,
  least_of,
  len_to_next,
  parts_of,
  plain_move,
  reach_of,
  reached_at,
  read_end,
  wait_first,
  waiting_above,
  whole_or,
  with_part,
}
use Rattle.plan_window.proofs.StepLaws.{least_of_more}

abbrev read_request : List ℕ → Answered → ℕ × Request
read_request handle a = as_request handle a.read

abbrev reply_at : Answered → ℕ × Reply
reply_at a = (a.read.offset, a.reply)

-- ---- the end

end_is : (xs : List Answered) → least_end (map reply_at xs) ≡ least_by end_at xs
end_is [] = refl
end_is (x ∷ xs) = by_test (is_end_of_file x.reply) (end_is xs)
  where
    later : List (ℕ × Reply)
    later = filter (λ got. is_end_of_file got.1) (map reply_at xs)

    by_test : (b : Bool) → least (map (λ got. got.0) later) ≡ least_by end_at xs
        → least (map (λ got. got.0) (cond b (reply_at x ∷ later) later))
        ≡ least_of (if b then Some x.read.offset else None) (least_by end_at xs)
    by_test true rest = ap (lesser x.read.offset) rest
    by_test false rest = rest

-- ---- the reach

greatest_append : (xs ys : List ℕ) → greatest (xs ++ ys) ≡ max (greatest xs) (greatest ys)
greatest_append [] ys = omega arith
greatest_append (x ∷ xs) ys = let e : greatest (xs ++ ys) ≡ max (greatest xs) (greatest ys) = greatest_append xs ys in
    omega (arith, e)

reached_is : (r : ReadAt) (y : Reply) → end_of_read (r.offset, y) ≡ reached_at (record { read = r; reply = y })
reached_is r (reply.Content bytes) = refl
reached_is r (reply.Status code message language) = refl
reached_is r (reply.Version version extensions) = refl
reached_is r (reply.Handle handle) = refl
reached_is r (reply.Names names) = refl
reached_is r (reply.Attrs attrs) = refl
reached_is r (reply.Extended content) = refl

answered_is : (xs : List Answered) → greatest (map end_of_read (map reply_at xs)) ≡ greatest_by reached_at xs
answered_is [] = refl
answered_is (x ∷ xs) = λ i. max (reached_is x.read x.reply i) (answered_is xs i)

waiting_is : (handle : List ℕ) (xs : List ReadAt) → greatest
    (map (λ asked. begins asked + len_asked asked.1) (map (as_request handle) xs)) ≡ greatest_by read_end xs
waiting_is handle [] = refl
waiting_is handle (x ∷ xs) = ap (max (x.offset + x.len)) (waiting_is handle xs)

reach_is : (handle : List ℕ) (answered : List Answered) (waiting : List ReadAt)
    → reach (map reply_at answered) (map (as_request handle) waiting) ≡ reach_of answered waiting
reach_is handle answered waiting =
    greatest_append (map end_of_read (map reply_at answered)) (map (λ asked. begins asked + len_asked asked.1)
    (map (as_request handle) waiting))
    ∙ (λ i. max (answered_is answered i) (waiting_is handle waiting i))

-- ---- where READs begin

waiting_begin : (handle : List ℕ) (xs : List ReadAt) (p : ℕ)
    → list_any (λ asked. begins asked == p) (map (as_request handle) xs) ≡ list_any (λ r. r.offset == p) xs
waiting_begin handle [] p = refl
waiting_begin handle (x ∷ xs) p = ap (λ (b : Bool). (x.offset == p) || b) (waiting_begin handle xs p)

begin_is : (handle : List ℕ) (xs : List Answered) (waiting : List ReadAt) (p : ℕ)
    → list_any (λ asked. begins asked == p) (map (read_request handle) xs ++ map (as_request handle) waiting)
    ≡ begins_at xs waiting p
begin_is handle [] waiting p = waiting_begin handle waiting p
begin_is handle (x ∷ xs) waiting p = by_test (x.read.offset == p) (begin_is handle xs waiting p)
  where
    by_test : (b : Bool) → list_any (λ asked. begins asked == p)
        (map (read_request handle) xs ++ map (as_request handle) waiting) ≡ begins_at xs waiting p
        → (b || list_any (λ asked. begins asked == p) (map (read_request handle) xs ++ map (as_request handle) waiting))
        ≡ ((b || list_any (λ a. a.read.offset == p) xs) || list_any (λ r. r.offset == p) waiting)
    by_test true rest = refl
    by_test false rest = rest

-- ---- gaps

inside_is : (end : Option ℕ) (n p : ℕ) → is_inside end n p ≡ nat_lt p (unwrap_or end n)
inside_is None n p = refl
inside_is (Some end) n p = refl

gaps_least : (t : ℕ → Bool) (answered : List Answered) (waiting : List ReadAt) (limit : ℕ)
    → ((p : ℕ) → t p ≡ (not (begins_at answered waiting p) && nat_lt p limit))
    → (xs : List Answered) → least (filter t (map content_end (contents (map reply_at xs))))
    ≡ least_by (gap_at answered waiting limit) xs
gaps_least t answered waiting limit same [] = refl
gaps_least t answered waiting limit same (x ∷ xs) = by_reply x.reply (gaps_least t answered waiting limit same xs)
  where
    later : List ℕ
    later = filter t (map content_end (contents (map reply_at xs)))

    by_tests : (p : ℕ) (b c : Bool) (o : Option ℕ) → least later ≡ o → least (cond (not b && c) (p ∷ later) later)
        ≡ least_of (if c then (if b then None else Some p) else None) o
    by_tests p true true o rest = rest
    by_tests p true false o rest = rest
    by_tests p false true o rest = ap (lesser p) rest
    by_tests p false false o rest = rest

    by_reply : (y : Reply) → least later ≡ least_by (gap_at answered waiting limit) xs
        → least (filter t (map content_end (contents ((x.read.offset, y) ∷ map reply_at xs))))
        ≡ least_of (gap_at answered waiting limit (record { read = x.read; reply = y }))
        (least_by (gap_at answered waiting limit) xs)
    by_reply (reply.Content bytes) rest =
        ap (λ (b : Bool). least (cond b ((x.read.offset + length bytes) ∷ later) later))
        (same (x.read.offset + length bytes))
        ∙ by_tests (x.read.offset + length bytes) (begins_at answered waiting (x.read.offset + length bytes))
        (nat_lt (x.read.offset + length bytes) limit) (least_by (gap_at answered waiting limit) xs) rest
    by_reply (reply.Status code message language) rest = rest
    by_reply (reply.Version version extensions) rest = rest
    by_reply (reply.Handle handle) rest = rest
    by_reply (reply.Names names) rest = rest
    by_reply (reply.Attrs attrs) rest = rest
    by_reply (reply.Extended content) rest = rest

gap_is : (handle : List ℕ) (w : Window) → least (gaps (reads_of handle w) (replies_of w) (under_way handle w))
    ≡ gap_of w.answered w.waiting (least_by end_at w.answered)
gap_is handle w = gaps_least test w.answered w.waiting (unwrap_or (least_by end_at w.answered)
    (reach_of w.answered w.waiting)) same w.answered
  where
    test : ℕ → Bool
    test p = not (list_any (λ asked. begins asked == p) (reads_of handle w))
        && is_inside (least_end (replies_of w)) (reach (replies_of w) (under_way handle w)) p

    same : (p : ℕ) → test p ≡ (not (begins_at w.answered w.waiting p)
        && nat_lt p (unwrap_or (least_by end_at w.answered) (reach_of w.answered w.waiting)))
    same p =
        (λ i. not (begin_is handle w.answered w.waiting p i) && is_inside (end_is w.answered i)
        (reach_is handle w.answered w.waiting i) p)
        ∙ ap (λ (b : Bool). not (begins_at w.answered w.waiting p) && b)
        (inside_is (least_by end_at w.answered) (reach_of w.answered w.waiting) p)

-- ---- from a gap to the next READ

above_is : (p n : ℕ) (ns : List ℕ) (o : Option ℕ) → least (filter (λ m. nat_lt p m) ns) ≡ o
    → least (filter (λ m. nat_lt p m) (n ∷ ns)) ≡ least_of (above p n) o
above_is p n ns o rest = by_test (nat_lt p n)
  where
    by_test : (b : Bool) → least (cond b (n ∷ filter (λ m. nat_lt p m) ns) (filter (λ m. nat_lt p m) ns))
        ≡ least_of (if b then Some n else None) o
    by_test true = ap (lesser n) rest
    by_test false = rest

waiting_next : (handle : List ℕ) (p : ℕ) (xs : List ReadAt) →
    least (filter (λ m. nat_lt p m) (map begins (map (as_request handle) xs))) ≡ least_by (waiting_above p) xs
waiting_next handle p [] = refl
waiting_next handle p (x ∷ xs) = above_is p x.offset (map begins (map (as_request handle) xs))
    (least_by (waiting_above p) xs) (waiting_next handle p xs)

next_is : (handle : List ℕ) (p : ℕ) (xs : List Answered) (waiting : List ReadAt)
    → least (filter (λ m. nat_lt p m) (map begins (map (read_request handle) xs ++ map (as_request handle) waiting)))
    ≡ least_of (least_by (answered_above p) xs) (least_by (waiting_above p) waiting)
next_is handle p [] waiting = waiting_next handle p waiting
next_is handle p (x ∷ xs) waiting =
    above_is p x.read.offset (map begins (map (read_request handle) xs ++ map (as_request handle) waiting))
    (least_of (least_by (answered_above p) xs) (least_by (waiting_above p) waiting)) (next_is handle p xs waiting)
    ∙ sym (least_of_more (answered_above p x) (least_by (answered_above p) xs) (least_by (waiting_above p) waiting))

len_is : (handle : List ℕ) (w : Window) (p : ℕ) → gap_len (reads_of handle w) p ≡ len_to_next w.answered w.waiting p
len_is handle w p = ap (λ (o : Option ℕ). unwrap_or o p - p) (next_is handle p w.answered w.waiting)

-- ---- the DATA

count_is : (xs : List Answered) → length (contents (map reply_at xs)) ≡ content_count xs
count_is [] = refl
count_is (x ∷ xs) = by_reply x.reply (count_is xs)
  where
    by_reply : (y : Reply) → length (contents (map reply_at xs)) ≡ content_count xs
        → length (contents ((x.read.offset, y) ∷ map reply_at xs))
        ≡ (if brings_content y then 1 else 0) + content_count xs
    by_reply (reply.Content bytes) rest = omega (arith, rest)
    by_reply (reply.Status code message language) rest = omega (arith, rest)
    by_reply (reply.Version version extensions) rest = omega (arith, rest)
    by_reply (reply.Handle handle) rest = omega (arith, rest)
    by_reply (reply.Names names) rest = omega (arith, rest)
    by_reply (reply.Attrs attrs) rest = omega (arith, rest)
    by_reply (reply.Extended content) rest = omega (arith, rest)

parts_are : (end : ℕ) (xs : List Answered) → in_order (filter (λ got. nat_lt got.0 end) (contents (map reply_at xs)))
    ≡ parts_of end xs
parts_are end [] = refl
parts_are end (x ∷ xs) = by_reply x.reply (parts_are end xs)
  where
    later : List (ℕ × List ℕ)
    later = filter (λ (got : ℕ × List ℕ). nat_lt got.0 end) (contents (map reply_at xs))

    by_test : (bytes : List ℕ) (b : Bool) → in_order later ≡ parts_of end xs
        → in_order (cond b ((x.read.offset, bytes) ∷ later) later)
        ≡ (if b then put_in_order (x.read.offset, bytes) (parts_of end xs) else parts_of end xs)
    by_test bytes true rest = ap (put_in_order (x.read.offset, bytes)) rest
    by_test bytes false rest = rest

    by_reply : (y : Reply) → in_order later ≡ parts_of end xs
        → in_order (filter (λ (got : ℕ × List ℕ). nat_lt got.0 end) (contents ((x.read.offset, y) ∷ map reply_at xs)))
        ≡ with_part end (record { read = x.read; reply = y }) (parts_of end xs)
    by_reply (reply.Content bytes) rest = by_test bytes (nat_lt x.read.offset end) rest
    by_reply (reply.Status code message language) rest = rest
    by_reply (reply.Version version extensions) rest = rest
    by_reply (reply.Handle handle) rest = rest
    by_reply (reply.Names names) rest = rest
    by_reply (reply.Attrs attrs) rest = rest
    by_reply (reply.Extended content) rest = rest

whole_is : (end : ℕ) (xs : List Answered) → flat_map (λ p. p.1) (parts_of end xs) ≡ whole_content end (map reply_at xs)
whole_is end xs = ap (λ (l : List (ℕ × List ℕ)). flat_map (λ p. p.1) l) (sym (parts_are end xs))

-- ---- the moves

first_is : (handle : List ℕ) (site : Site) (waiting : List ReadAt) → await_first (map (as_request handle) waiting) site
    ≡ move_by handle site (wait_first waiting)
first_is handle site [] = refl
first_is handle site (r ∷ rest) = refl

map_len : (handle : List ℕ) (waiting : List ReadAt) → length (map (as_request handle) waiting) ≡ length waiting
map_len handle [] = refl
map_len handle (r ∷ rest) = ap (λ (n : ℕ). suc n) (map_len handle rest)

more_is : (handle : List ℕ) (w : Window) (site : Site) (facts : Facts) (gap end : Option ℕ)
    → ask_more handle (reads_of handle w) (replies_of w) (under_way handle w) site facts gap end
    ≡ move_by handle site (ask_next w facts gap end)
more_is handle w site facts (Some p) end = ap (λ (n : ℕ). move_by handle site (step.Ask p n)) (len_is handle w p)
more_is handle w site facts None None = ap (λ (n : ℕ). move_by handle site (step.Ask n facts.read_len))
    (reach_is handle w.answered w.waiting)
more_is handle w site facts None (Some end) = first_is handle site w.waiting

on_is : (handle : List ℕ) (bound : ℕ) (w : Window) (site : Site) (facts : Facts) (gap end : Option ℕ)
    → least (gaps (reads_of handle w) (replies_of w) (under_way handle w)) ≡ gap → least_end (replies_of w) ≡ end
    → go_on handle (Some bound) (reads_of handle w) (replies_of w) (under_way handle w) site facts
    ≡ move_by handle site (go_further bound w facts gap end)
on_is handle bound w site facts gap end gap_at end_at =
    (λ i. if nat_le bound (count_is w.answered i) then Done outcome.GivenUp site
    else if nat_lt (map_len handle w.waiting i) facts.read_window then
    ask_more handle (reads_of handle w) (replies_of w) (under_way handle w) site facts (gap_at i) (end_at i)
    else await_first (under_way handle w) site)
    ∙ by_tests (nat_le bound (content_count w.answered)) (nat_lt (length w.waiting) facts.read_window)
  where
    by_tests : (b c : Bool)
        → (if b then Done outcome.GivenUp site else if c then ask_more handle (reads_of handle w) (replies_of w)
        (under_way handle w) site facts gap end else await_first (under_way handle w) site)
        ≡ move_by handle site (if b then step.GivenUp else if c then ask_next w facts gap end else wait_first w.waiting)
    by_tests true c = refl
    by_tests false true = more_is handle w site facts gap end
    by_tests false false = first_is handle site w.waiting

ends_is : (handle : List ℕ) (w : Window) (site : Site) (missing : List ℕ) (end : Option ℕ) (go : Move)
    (other : WindowMove) → go ≡ move_by handle site other
    → ends_or missing (replies_of w) (under_way handle w) site end go
    ≡ move_by handle site (whole_or (least missing) w end other)
ends_is handle w site [] None go other same = by_waiting w.waiting
  where
    by_waiting : (waiting : List ReadAt) → ends_or [] (replies_of w) (map (as_request handle) waiting) site None go
        ≡ move_by handle site other
    by_waiting [] = same
    by_waiting (r ∷ rest) = same
ends_is handle w site [] (Some end) go other same = by_waiting w.waiting
  where
    by_waiting : (waiting : List ReadAt) → ends_or [] (replies_of w) (map (as_request handle) waiting) site (Some end)
        go
        ≡ move_by handle site (if length waiting == 0 then step.Whole (whole_content end (replies_of w)) else other)
    by_waiting [] = refl
    by_waiting (r ∷ rest) =
        let some : (length (r ∷ rest) == 0) ≡ false = grind (arith, nat_tests) in
        same ∙ ap (λ (b : Bool). move_by handle site (if b then step.Whole (whole_content end (replies_of w)) else
        other)) (sym some)
ends_is handle w site (p ∷ ps) end go other same = by_rest (least ps)
  where
    by_rest : (o : Option ℕ) → go ≡ move_by handle site (whole_or (lesser p o) w end other)
    by_rest None = same
    by_rest (Some q) = same

-- where nothing was refused
plain_is : (handle : List ℕ) (bound : ℕ) (w : Window) (site : Site) (facts : Facts) → first_refusal (replies_of w)
    ≡ None → window_move handle (Some bound) w site facts ≡ move_by handle site (plain_move bound w facts)
plain_is handle bound w site facts good =
    ap (λ (o : Option (ℕ × Reply)). unless_refused o site (ends_or
    (gaps (reads_of handle w) (replies_of w) (under_way handle w)) (replies_of w) (under_way handle w) site
    (least_end (replies_of w)) (go_on handle (Some bound) (reads_of handle w) (replies_of w) (under_way handle w)
    site facts))) good
    ∙ ends_is handle w site (gaps (reads_of handle w) (replies_of w) (under_way handle w)) (least_end (replies_of w))
    (go_on handle (Some bound) (reads_of handle w) (replies_of w) (under_way handle w) site facts)
    (go_further bound w facts gap end) (on_is handle bound w site facts gap end (gap_is handle w) (end_is w.answered))
    ∙ (λ i. move_by handle site (whole_or (gap_is handle w i) w (end_is w.answered i)
    (go_further bound w facts gap end)))
  where
    end : Option ℕ
    end = least_by end_at w.answered

    gap : Option ℕ
    gap = gap_of w.answered w.waiting end

-- ---- what is asked is in range

asks_within : (handle : List ℕ) (site : Site) (facts : Facts) (m : WindowMove)
    → ReadsWithin facts (move_by handle site m) → AsksWithin facts m
asks_within handle site facts (step.Ask offset len) fits = fits
asks_within handle site facts (step.Wait place) fits = tt
asks_within handle site facts (step.Whole bytes) fits = tt
asks_within handle site facts step.GivenUp fits = tt

pub plain_within : (bound : ℕ) (w : Window) (facts : Facts) → IsSound w → AsksInRange bound w facts
    → AsksWithin facts (plain_move bound w facts)
plain_within bound w facts sound fits = asks_within fits.handle fits.site facts (plain_move bound w facts)
    (subst (ReadsWithin facts) (plain_is fits.handle bound w fits.site facts sound.unrefused) fits.within)

in_range : (facts : Facts) (m : WindowMove) → AsksWithin facts m → IsMoveInRange m
in_range facts (step.Ask offset len) fits = fits.0
in_range facts (step.Wait place) fits = tt
in_range facts (step.Whole bytes) fits = tt
in_range facts step.GivenUp fits = tt

-- ---- the move that is found

pub whole_move : (bound : ℕ) (w : Window) (facts : Facts) (end : ℕ) (bytes : List ℕ) → least_by end_at w.answered
    ≡ Some end → gap_of w.answered w.waiting (Some end) ≡ None → (length w.waiting == 0) ≡ true
    → bytes ≡ flat_map (λ p. p.1) (parts_of end w.answered) → step.Whole bytes ≡ plain_move bound w facts
whole_move bound w facts end bytes ends none empty is =
    sym ((λ i. whole_or (gap_of w.answered w.waiting (ends i)) w (ends i) other)
    ∙ ap (λ (gap : Option ℕ). whole_or gap w (Some end) other) none
    ∙ ap (λ (b : Bool). if b then step.Whole (whole_content end (replies_of w)) else other) empty
    ∙ ap (λ (l : List ℕ). step.Whole l) (sym (is ∙ whole_is end w.answered)))
  where
    other : WindowMove
    other = go_further bound w facts (gap_of w.answered w.waiting (least_by end_at w.answered))
        (least_by end_at w.answered)

pub capped : (w : Window) (facts : Facts) (end : Option ℕ) (p : ℕ) → AsksWithin facts (ask_next w facts (Some p) end)
    → min (len_to_next w.answered w.waiting p) facts.read_len ≡ len_to_next w.answered w.waiting p
capped w facts end p within = let most : len_to_next w.answered w.waiting p ≤ facts.read_len = within.1 in
    omega (arith, most)

pub moves_are : (bound : ℕ) (w : Window) (facts : Facts) (r : Result WindowMove OutOfMemory) → IsSound w
    → IfOk r (λ m. m ≡ plain_move bound w facts)
    → IfOk r (λ m. (handle : List ℕ) (site : Site) → window_move handle (Some bound) w site facts
    ≡ move_by handle site m)
moves_are bound w facts (Ok m) sound is = λ handle site. plain_is handle bound w site facts sound.unrefused
    ∙ ap (move_by handle site) (sym is)
moves_are bound w facts (Err e) sound is = tt

pub moves_in_range : (bound : ℕ) (w : Window) (facts : Facts) (r : Result WindowMove OutOfMemory) → IsSound w
    → AsksInRange bound w facts → IfOk r (λ m. m ≡ plain_move bound w facts) → IfOk r IsMoveInRange
moves_in_range bound w facts (Ok m) sound fits is = subst IsMoveInRange (sym is)
    (in_range facts (plain_move bound w facts) (plain_within bound w facts sound fits))
moves_in_range bound w facts (Err e) sound fits is = tt
