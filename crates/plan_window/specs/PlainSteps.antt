-- The next move of a window, by its READs alone: without a handle and without a site, one number at a time.
use Rattle.std.specs.Prelude.{
  ℕ,
  ◌<◌,
  ◌≤◌,
  ◌+◌,
  ◌-◌,
  ◌^◌,
  ◌==◌,
  ◌||◌,
  Bool,
  max,
  List,
  [],
  ◌∷◌,
  length,
  Option,
  Some,
  None,
  unwrap_or,
  nat_lt,
  nat_le,
  if◌then◌else◌,
}
use Rattle.std.specs.List.{list_any}
use Rattle.sftp_model.specs.declared.reply.Reply.{Reply}
use Rattle.sftp_model.specs.declared.reply.Reply.TheVariants as reply
use Rattle.sftp_model.specs.declared.slot.Facts.{Facts}
use Rattle.sftp_model.specs.Answers.{is_end_of_file}
use Rattle.plan_model.specs.WindowPlans.{brings_content, lesser, put_in_order, whole_content}
use Rattle.plan_window.specs.declared.window.ReadAt.{ReadAt}
use Rattle.plan_window.specs.declared.window.Answered.{Answered}
use Rattle.plan_window.specs.declared.next_move.WindowMove.{WindowMove}
use Rattle.plan_window.specs.declared.next_move.WindowMove.TheVariants as step
use Rattle.plan_window.specs.Windows.{Window, replies_of}

-- ---- Numbers

abbrev pub least_of : Option ℕ → Option ℕ → Option ℕ
least_of None o = o
least_of (Some n) o = lesser n o

abbrev pub least_by : {A : Type 0} → (A → Option ℕ) → List A → Option ℕ
least_by f [] = None
least_by f (x ∷ xs) = least_of (f x) (least_by f xs)

abbrev pub greatest_by : {A : Type 0} → (A → ℕ) → List A → ℕ
greatest_by f [] = 0
greatest_by f (x ∷ xs) = max (f x) (greatest_by f xs)

-- ---- One READ

-- The end of the file that a READ reported.
abbrev pub end_at : Answered → Option ℕ
end_at a = if is_end_of_file a.reply then Some a.read.offset else None

-- The offset at which its bytes end, or at which it begins if it received none.
abbrev pub reached_at : Answered → ℕ
reached_at a = by_reply a.reply
  where
    by_reply : Reply → ℕ
    by_reply (reply.Content bytes) = a.read.offset + length bytes
    by_reply other = a.read.offset

abbrev pub read_end : ReadAt → ℕ
read_end r = r.offset + r.len

-- An offset above another.
abbrev pub above : ℕ → ℕ → Option ℕ
above p n = if nat_lt p n then Some n else None

abbrev pub answered_above : ℕ → Answered → Option ℕ
answered_above p a = above p a.read.offset

abbrev pub waiting_above : ℕ → ReadAt → Option ℕ
waiting_above p r = above p r.offset

-- ---- All of them

abbrev pub reach_of : List Answered → List ReadAt → ℕ
reach_of answered waiting = max (greatest_by reached_at answered) (greatest_by read_end waiting)

abbrev pub begins_at : List Answered → List ReadAt → ℕ → Bool
begins_at answered waiting p = list_any (λ a. a.read.offset == p) answered || list_any (λ r. r.offset == p) waiting

-- The end of its bytes, if that is below the limit and no READ begins there.
abbrev pub gap_at : List Answered → List ReadAt → ℕ → Answered → Option ℕ
gap_at answered waiting limit a = by_reply a.reply
  where
    free : ℕ → Option ℕ
    free p = if nat_lt p limit then (if begins_at answered waiting p then None else Some p) else None

    by_reply : Reply → Option ℕ
    by_reply (reply.Content bytes) = free (a.read.offset + length bytes)
    by_reply other = None

abbrev pub gap_of : List Answered → List ReadAt → Option ℕ → Option ℕ
gap_of answered waiting end = least_by (gap_at answered waiting (unwrap_or end (reach_of answered waiting))) answered

-- The bytes from an offset to the least one above it at which a READ begins.
abbrev pub len_to_next : List Answered → List ReadAt → ℕ → ℕ
len_to_next answered waiting p = unwrap_or (least_of (least_by (answered_above p) answered)
    (least_by (waiting_above p) waiting)) p - p

-- The number of READs that a DATA answered.
abbrev pub content_count : List Answered → ℕ
content_count [] = 0
content_count (a ∷ rest) = (if brings_content a.reply then 1 else 0) + content_count rest

-- ---- The received bytes, in order

abbrev pub with_part : ℕ → Answered → List (ℕ × List ℕ) → List (ℕ × List ℕ)
with_part end a parts = by_reply a.reply
  where
    by_reply : Reply → List (ℕ × List ℕ)
    by_reply (reply.Content bytes) = if nat_lt a.read.offset end then put_in_order (a.read.offset, bytes) parts else
        parts
    by_reply other = parts

abbrev pub parts_of : ℕ → List Answered → List (ℕ × List ℕ)
parts_of end [] = []
parts_of end (a ∷ rest) = with_part end a (parts_of end rest)

-- ---- The next move

abbrev pub wait_first : List ReadAt → WindowMove
wait_first [] = step.GivenUp
wait_first (r ∷ rest) = step.Wait r.place

abbrev pub ask_next : Window → Facts → Option ℕ → Option ℕ → WindowMove
ask_next w facts (Some p) end = step.Ask p (len_to_next w.answered w.waiting p)
ask_next w facts None None = step.Ask (reach_of w.answered w.waiting) facts.read_len
ask_next w facts None (Some end) = wait_first w.waiting

abbrev pub go_further : ℕ → Window → Facts → Option ℕ → Option ℕ → WindowMove
go_further bound w facts gap end =
    if nat_le bound (content_count w.answered) then step.GivenUp
    else if nat_lt (length w.waiting) facts.read_window then ask_next w facts gap end
    else wait_first w.waiting

abbrev pub whole_or : Option ℕ → Window → Option ℕ → WindowMove → WindowMove
whole_or None w (Some end) other = if length w.waiting == 0 then step.Whole (whole_content end (replies_of w)) else
    other
whole_or gap w end other = other

abbrev pub plain_move : ℕ → Window → Facts → WindowMove
plain_move bound w facts =
    let end : Option ℕ = least_by end_at w.answered in
    let gap : Option ℕ = gap_of w.answered w.waiting end in
    whole_or gap w end (go_further bound w facts gap end)

-- A READ that is asked is within the range of offsets and the session's read length.
abbrev pub AsksWithin : Facts → WindowMove → Type 0
AsksWithin facts (step.Ask offset len) = (offset + len < 2 ^ 64) × (len ≤ facts.read_len)
AsksWithin facts other = Unit {0}
