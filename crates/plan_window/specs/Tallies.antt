-- The record that a window keeps of the READs that were answered, so that no move looks at all of them again.
use Rattle.std.specs.Prelude.{
  ℕ,
  ◌≡◌,
  ◌+◌,
  ◌-◌,
  ◌^◌,
  ◌≤◌,
  ◌==◌,
  ◌||◌,
  ◌&&◌,
  not,
  min,
  List,
  [],
  ◌∷◌,
  length,
  filter,
  filter_map,
  Option,
  Some,
  None,
  nat_lt,
  vec_capacity,
  vec_len,
  if◌then◌else◌,
}
use Rattle.std.specs.List.{list_any}
use Rattle.std.specs.List.Sorted.{IsNonDecreasing}
use Rattle.sftp_model.specs.declared.reply.Reply.{Reply}
use Rattle.sftp_model.specs.declared.reply.Reply.TheVariants as reply
use Rattle.plan_window.specs.declared.window.ReadAt.{ReadAt}
use Rattle.plan_window.specs.declared.window.Answered.{Answered}
use Rattle.plan_window.specs.declared.tally.Tally.{Tally}
use Rattle.plan_window.specs.PlainSteps.{
  above,
  answered_above,
  content_count,
  end_at,
  greatest_by,
  least_by,
  least_of,
  reached_at,
}

-- The offset at which the bytes of a DATA end.
abbrev pub data_end : Answered → Option ℕ
data_end a = by_reply a.reply
  where
    by_reply : Reply → Option ℕ
    by_reply (reply.Content bytes) = Some (a.read.offset + length bytes)
    by_reply other = None

-- The ends of DATA at which no READ begins that was answered.
abbrev pub free_ends : List Answered → List ℕ
free_ends answered = filter (λ p. not (list_any (λ a. a.read.offset == p) answered)) (filter_map data_end answered)

-- Such an end, if it is below the limit and no READ in flight begins there.
abbrev pub gap_below : List ReadAt → ℕ → ℕ → Option ℕ
gap_below waiting limit p = if nat_lt p limit && not (list_any (λ r. r.offset == p) waiting) then Some p else None

-- The tally agrees with the READs that were answered. DATA are counted up to the greatest bound.
pub record IsTally (t : Tally) (answered : List Answered) : Type 0 where
  pub end : t.end ≡ least_by end_at answered
  pub reached : t.reached ≡ greatest_by reached_at answered
  pub contents : t.contents ≡ min (content_count answered) (2 ^ 32 - 1)
  pub ascending : IsNonDecreasing t.begins.items
  pub begins : (p : ℕ) → list_any (λ b. b == p) t.begins.items ≡ list_any (λ a. a.read.offset == p) answered
  pub next : (p : ℕ) → least_by (above p) t.begins.items ≡ least_by (answered_above p) answered
  pub free : t.free.items ≡ free_ends answered

-- ---- Memory

-- Another `n` READs need no allocation.
pub record HasRoom (t : Tally) (n : ℕ) : Type 0 where
  pub begins : vec_len t.begins + n ≤ vec_capacity t.begins
  pub free : vec_len t.free + n ≤ vec_capacity t.free

-- The tally is the same, but for its memory.
pub record HasSameReads (old new : Tally) : Type 0 where
  pub end : new.end ≡ old.end
  pub reached : new.reached ≡ old.reached
  pub contents : new.contents ≡ old.contents
  pub begins : new.begins.items ≡ old.begins.items
  pub free : new.free.items ≡ old.free.items

-- ---- Another READ

-- The list with another offset, in its place.
pub record HasOneMore (old : List ℕ) (n : ℕ) (more : List ℕ) : Type 0 where
  pub ascending : IsNonDecreasing more
  pub begins : (p : ℕ) → list_any (λ b. b == p) more ≡ (list_any (λ b. b == p) old || (n == p))
  pub next : (p : ℕ) → least_by (above p) more ≡ least_of (least_by (above p) old) (above p n)

-- The end of a DATA, if none of these READs begins there.
abbrev pub free_end : List ℕ → Option ℕ → List ℕ
free_end begins None = []
free_end begins (Some p) = if list_any (λ b. b == p) begins then [] else p ∷ []
