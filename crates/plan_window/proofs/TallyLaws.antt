-- A tally with another READ, and the gap that is found by it.
use Rattle.std.proofs.Common.{
  ◌≡◌,
  ◌+◌,
  ◌-◌,
  ◌^◌,
  ℕ,
  Bool,
  true,
  false,
  List,
  [],
  ◌∷◌,
  ◌++◌,
  Option,
  Some,
  None,
  refl,
  subst,
  sym,
  ap,
  ◌∙◌,
  arith,
  length,
  if◌then◌else◌,
}
use Rattle.std.specs.Prelude.{◌||◌, ◌&&◌, ◌==◌, cond, filter, filter_map, max, min, nat_lt, not}
use Rattle.std.specs.List.Sorted.{IsNonDecreasing}
use Rattle.std.specs.List.{list_any}
use Rattle.std.proofs.lemmas.List.Elements.{filter-append, filter_map-append}
use Rattle.sftp_model.specs.declared.reply.Reply.{Reply}
use Rattle.sftp_model.specs.declared.reply.Reply.TheVariants as reply
use Rattle.plan_model.specs.WindowPlans.{brings_content}
use Rattle.plan_window.specs.declared.window.ReadAt.{ReadAt}
use Rattle.plan_window.specs.declared.window.Answered.{Answered}
use Rattle.plan_window.specs.declared.tally.Tally.{Tally}
use Rattle.plan_window.specs.PlainSteps.{above, answered_above, content_count, end_at, gap_at, greatest_by, least_by, least_of, reached_at}
use Rattle.plan_window.specs.Tallies.{HasOneMore, HasSameReads, IsTally, data_end, free_end, free_ends, gap_below}
use Rattle.plan_window.proofs.OffsetLaws.{least_append}
use Rattle.plan_window.proofs.StepLaws.{least_of_none}

-- ---- one READ more

least_more : {A : Type 0} (f : A → Option ℕ) (xs : List A) (x : A) → least_of (least_by f xs) (f x)
    ≡ least_by f (xs ++ x ∷ [])
least_more f xs x = sym (least_append f xs (x ∷ []) ∙ ap (least_of (least_by f xs)) (least_of_none (f x)))

greatest_more : {A : Type 0} (f : A → ℕ) (xs : List A) (x : A) → max (greatest_by f xs) (f x)
    ≡ greatest_by f (xs ++ x ∷ [])
greatest_more f [] x = omega arith
greatest_more f (y ∷ ys) x = let e : max (greatest_by f ys) (f x) ≡ greatest_by f (ys ++ x ∷ []) = greatest_more f ys x
    in omega (arith, e)

count_more : (xs : List Answered) (a : Answered) → content_count (xs ++ a ∷ [])
    ≡ content_count xs + (if brings_content a.reply then 1 else 0)
count_more [] a = omega arith
count_more (x ∷ xs) a = let e : content_count (xs ++ a ∷ [])
    ≡ content_count xs + (if brings_content a.reply then 1 else 0) = count_more xs a in omega (arith, e)

any_more : {A : Type 0} (f : A → Bool) (xs : List A) (x : A) → list_any f (xs ++ x ∷ []) ≡ (list_any f xs || f x)
any_more f [] x = by_test (f x)
  where
    by_test : (b : Bool) → (b || false) ≡ b
    by_test true = refl
    by_test false = refl
any_more f (y ∷ ys) x = by_test (f y) (any_more f ys x)
  where
    by_test : (b : Bool) → list_any f (ys ++ x ∷ []) ≡ (list_any f ys || f x) → (b || list_any f (ys ++ x ∷ []))
        ≡ ((b || list_any f ys) || f x)
    by_test true rest = refl
    by_test false rest = rest

-- ---- ends at which no READ begins

-- what passes both tests
filter_both : (f g h : ℕ → Bool) → ((p : ℕ) → h p ≡ not (f p || g p)) → (xs : List ℕ)
    → filter h xs ≡ filter (λ p. not (g p)) (filter (λ p. not (f p)) xs)
filter_both f g h same [] = refl
filter_both f g h same (x ∷ xs) = ap (λ (b : Bool). cond b (x ∷ filter h xs) (filter h xs)) (same x)
    ∙ by_tests (f x) (g x) (filter_both f g h same xs) ∙ sym (split (not (f x)))
  where
    rest : List ℕ
    rest = filter (λ p. not (f p)) xs

    both : List ℕ
    both = filter (λ p. not (g p)) rest

    split : (b : Bool) → filter (λ p. not (g p)) (cond b (x ∷ rest) rest)
        ≡ cond b (cond (not (g x)) (x ∷ both) both) both
    split true = refl
    split false = refl

    by_tests : (b c : Bool) → filter h xs ≡ both
        → cond (not (b || c)) (x ∷ filter h xs) (filter h xs) ≡ cond (not b) (cond (not c) (x ∷ both) both) both
    by_tests true c e = e
    by_tests false true e = e
    by_tests false false e = ap (λ (l : List ℕ). x ∷ l) e

free_is : (answered : List Answered) (a : Answered) (begins : List ℕ)
    → ((p : ℕ) → list_any (λ b. b == p) begins ≡ list_any (λ a. a.read.offset == p) (answered ++ a ∷ []))
    → filter (λ p. not (a.read.offset == p)) (free_ends answered) ++ free_end begins (data_end a)
    ≡ free_ends (answered ++ a ∷ [])
free_is answered a begins same =
    sym (λ i. parts i ++ last (data_end a) i)
    ∙ sym (filter-append free (filter_map data_end answered) (filter_map data_end (a ∷ [])))
    ∙ ap (filter free) (sym (filter_map-append data_end answered (a ∷ [])))
  where
    free : ℕ → Bool
    free p = not (list_any (λ a. a.read.offset == p) (answered ++ a ∷ []))

    parts : filter free (filter_map data_end answered)
        ≡ filter (λ p. not (a.read.offset == p)) (free_ends answered)
    parts = filter_both (λ p. list_any (λ a. a.read.offset == p) answered) (λ p. a.read.offset == p) free
        (λ p. ap not (any_more (λ (a : Answered). a.read.offset == p) answered a)) (filter_map data_end answered)

    last : (o : Option ℕ) → filter free (filter_map (λ (x : Unit {0}). o) (tt ∷ [])) ≡ free_end begins o
    last None = refl
    last (Some p) = ap (λ (b : Bool). cond (not b) (p ∷ []) []) (sym (same p))
        ∙ by_test (list_any (λ b. b == p) begins)
      where
        by_test : (b : Bool) → cond (not b) (p ∷ []) [] ≡ (if b then [] else p ∷ [])
        by_test true = refl
        by_test false = refl

-- ---- all of it

-- the tally with what the code makes of each part
pub tally_more : (t new : Tally) (answered : List Answered) (a : Answered) → IsTally t answered
    → HasOneMore t.begins.items a.read.offset new.begins.items → new.end ≡ least_of t.end (end_at a)
    → new.reached ≡ max t.reached (reached_at a)
    → new.contents ≡ min (t.contents + (if brings_content a.reply then 1 else 0)) (2 ^ 32 - 1)
    → new.free.items ≡ filter (λ p. not (a.read.offset == p)) t.free.items ++ free_end new.begins.items (data_end a)
    → IsTally new (answered ++ a ∷ [])
tally_more t new answered a is more end reached contents free = record {
  end = end ∙ ap (λ (o : Option ℕ). least_of o (end_at a)) is.end ∙ least_more end_at answered a;
  reached = reached ∙ ap (λ (n : ℕ). max n (reached_at a)) is.reached ∙ greatest_more reached_at answered a;
  contents = omega (arith, contents, is.contents, count_more answered a);
  ascending = more.ascending;
  begins = begins;
  next = λ p. more.next p ∙ ap (λ (o : Option ℕ). least_of o (above p a.read.offset)) (is.next p)
      ∙ least_more (answered_above p) answered a;
  free = free
      ∙ (λ i. filter (λ p. not (a.read.offset == p)) (is.free i) ++ free_end new.begins.items (data_end a))
      ∙ free_is answered a new.begins.items begins;
}
  where
    begins : (p : ℕ) → list_any (λ b. b == p) new.begins.items ≡ list_any (λ a. a.read.offset == p) (answered ++ a ∷ [])
    begins p = more.begins p ∙ ap (λ (b : Bool). b || (a.read.offset == p)) (is.begins p)
        ∙ sym (any_more (λ (a : Answered). a.read.offset == p) answered a)

-- a tally with other memory
pub tally_same : (t new : Tally) (answered : List Answered) → HasSameReads t new → IsTally t answered
    → IsTally new answered
tally_same t new answered same is = record {
  end = same.end ∙ is.end;
  reached = same.reached ∙ is.reached;
  contents = same.contents ∙ is.contents;
  ascending = subst IsNonDecreasing (sym same.begins) is.ascending;
  begins = λ p. ap (list_any (λ b. b == p)) same.begins ∙ is.begins p;
  next = λ p. ap (least_by (above p)) same.begins ∙ is.next p;
  free = same.free ∙ is.free;
}

-- ---- the gap

pub gap_is : (answered : List Answered) (waiting : List ReadAt) (limit : ℕ) (xs : List Answered)
    → least_by (gap_at answered waiting limit) xs
    ≡ least_by (gap_below waiting limit)
    (filter (λ p. not (list_any (λ a. a.read.offset == p) answered)) (filter_map data_end xs))
gap_is answered waiting limit [] = refl
gap_is answered waiting limit (x ∷ xs) = by_reply x.reply (gap_is answered waiting limit xs)
  where
    free : ℕ → Bool
    free p = not (list_any (λ a. a.read.offset == p) answered)

    rest : List ℕ
    rest = filter free (filter_map data_end xs)

    least : Option ℕ
    least = least_by (gap_below waiting limit) rest

    by_tests : (p : ℕ) (a w t : Bool) (o : Option ℕ) → o ≡ least
        → least_of (if t then (if a || w then None else Some p) else None) o
        ≡ cond (not a) (least_of (if t && not w then Some p else None) least) least
    by_tests p true w true o e = e
    by_tests p true w false o e = e
    by_tests p false true true o e = e
    by_tests p false false true o e = ap (least_of (Some p)) e
    by_tests p false w false o e = e

    split : (p : ℕ) (b : Bool) → cond b (least_of (gap_below waiting limit p) least) least
        ≡ least_by (gap_below waiting limit) (cond b (p ∷ rest) rest)
    split p true = refl
    split p false = refl

    by_reply : (y : Reply) → least_by (gap_at answered waiting limit) xs ≡ least
        → least_of (gap_at answered waiting limit (record { read = x.read; reply = y }))
        (least_by (gap_at answered waiting limit) xs)
        ≡ least_by (gap_below waiting limit)
        (filter free (filter_map data_end (record { read = x.read; reply = y } ∷ xs)))
    by_reply (reply.Content bytes) e =
        let p : ℕ = x.read.offset + length bytes in
        by_tests p (list_any (λ a. a.read.offset == p) answered) (list_any (λ r. r.offset == p) waiting)
        (nat_lt p limit) (least_by (gap_at answered waiting limit) xs) e
        ∙ split p (free p)
    by_reply (reply.Status code message language) e = e
    by_reply (reply.Version version extensions) e = e
    by_reply (reply.Handle handle) e = e
    by_reply (reply.Names names) e = e
    by_reply (reply.Attrs attrs) e = e
    by_reply (reply.Extended content) e = e
