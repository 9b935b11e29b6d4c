-- How the READs of a whole read lie in its file: no two begin at one offset, none begins inside another's span, and
-- where one begins further on, one begins where another's length ends or before.
use Rattle.std.proofs.Common.{◌≡◌, ◌<◌, ◌≤◌, ◌+◌, ℕ, List, [], ◌∷◌, None, refl, sym, ap, subst, ◌∙◌, inl, inr, arith}
use Rattle.std.specs.Prelude.{◌⊎◌, ◌++◌, map}
use Rattle.sftp_model.specs.declared.request.Request.{Request}
use Rattle.plan_model.specs.Moves.{Answers, Own}
use Rattle.plan_model.specs.OwnRequests.{ExtendsAnswers, MayBeAnswered}
use Rattle.plan_model.specs.WindowPlans.{begins, len_asked}
use Rattle.plan_model.proofs.Among.{Among, among_map, at_end, before_end, last_end}
use Rattle.plan_model.proofs.Spans.{Span, span_end, spans, spans_asked}
use Rattle.plan_model.proofs.SpanLaws.{Longer, shrinks, spans_added}

-- no number stands in the list twice
abbrev pub Distinct : List ℕ → Type 0
Distinct [] = Unit {0}
Distinct (n ∷ ns) = (Among n ns → ⊥) × Distinct ns

-- a READ begins behind an offset and at most n bytes further
pub record Followed (starts : List ℕ) (offset n : ℕ) : Type 0 where
  pub of : ℕ
  pub there : Among of starts
  pub over : offset < of
  pub within : of ≤ offset + n

-- the READs of at most read_len bytes, none of which ends above the top
pub record Tiled (read_len top : ℕ) (reads : Own) (answers : Answers) : Type 0 where
  pub distinct : Distinct (map begins reads)
  pub some : (a : ℕ × Request) → Among a reads → (1 ≤ len_asked a.1) × (len_asked a.1 ≤ read_len)
  pub under : (a : ℕ × Request) → Among a reads → begins a + len_asked a.1 ≤ top
  pub followed : (a : ℕ × Request) → Among a reads → (s : ℕ) → Among s (map begins reads) → begins a < s
      → Followed (map begins reads) (begins a) (len_asked a.1)
  pub apart : (x : Span) → Among x (spans reads answers) → (s : ℕ) → Among s (map begins reads) → (s ≤ begins x.asked)
      ⊎ (span_end x ≤ s)

pub none_tiled : (read_len top : ℕ) (answers : Answers) → Tiled read_len top [] answers
none_tiled read_len top answers = record {
  distinct = tt;
  some = λ a h. absurd h;
  under = λ a h. absurd h;
  followed =
      λ a h s k lt. absurd h;
  apart = λ x h s k. absurd h;
}

-- ---- further replies

pub tiled_later : (read_len top : ℕ) (reads : Own) (old new : Answers) → ExtendsAnswers old new
    → MayBeAnswered reads new
    → Tiled read_len top reads old → Tiled read_len top reads new
tiled_later read_len top reads old new stays may t =
    record {
      distinct = t.distinct;
      some = t.some;
      under = t.under;
      followed = t.followed;
      apart = λ x h s k. shorter x s (shrinks x reads old new stays may h) k;
    }
  where
    shorter : (x : Span) (s : ℕ) → Longer x (spans reads old) → Among s (map begins reads) → (s ≤ begins x.asked)
        ⊎ (span_end x ≤ s)
    shorter x s l k =
        let at : begins l.of.asked ≡ begins x.asked = ap begins l.same in
        let less : x.extent ≤ l.of.extent = l.longer in
        elim (t.apart l.of l.there s k) [
          | inl le ↦ inl (omega (arith, at, le))
          | inr le ↦
              inr (omega (arith, at, less, le))
        ]

-- ---- one READ for each offset

distinct_added : (p : ℕ) (ns : List ℕ) → Distinct ns → (Among p ns → ⊥) → Distinct (ns ++ p ∷ [])
distinct_added p [] d free = (λ h. h, tt)
distinct_added p (n ∷ ns) d free = (
  λ h. elim (at_end n p ns h) [ inl k ↦ d.0 k | inr e ↦ free (inl (sym e)) ],
  distinct_added p ns d.1 (λ k. free (inr k)),
)

begins_added : (a : ℕ × Request) (reads : Own) → map begins (reads ++ a ∷ []) ≡ map begins reads ++ begins a ∷ []
begins_added a [] = refl
begins_added a (asked ∷ later) = ap (λ (l : List ℕ). begins asked ∷ l) (begins_added a later)

begins_of : (xs : List Span) → map (λ (z : Span). begins z.asked) xs ≡ map begins (map (λ (z : Span). z.asked) xs)
begins_of [] = refl
begins_of (x ∷ xs) = ap (λ (l : List ℕ). begins x.asked ∷ l) (begins_of xs)

only_one : (x y : Span) (xs : List Span) → Distinct (map (λ (z : Span). begins z.asked) xs) → Among x xs → Among y xs
    → begins x.asked ≡ begins y.asked → x ≡ y
only_one x y [] d h k e = absurd h
only_one x y (z ∷ zs) d (inl ex) (inl ey) e = ex ∙ sym ey
only_one x y (z ∷ zs) d (inl ex) (inr k) e =
    absurd (d.0 (subst (λ (n : ℕ). Among n (map (λ (w : Span). begins w.asked) zs))
    (sym e ∙ ap (λ (w : Span). begins w.asked) ex) (among_map (λ (w : Span). begins w.asked) y zs k)))
only_one x y (z ∷ zs) d (inr h) (inl ey) e =
    absurd (d.0 (subst (λ (n : ℕ). Among n (map (λ (w : Span). begins w.asked) zs))
    (e ∙ ap (λ (w : Span). begins w.asked) ey) (among_map (λ (w : Span). begins w.asked) x zs h)))
only_one x y (z ∷ zs) d (inr h) (inr k) e = only_one x y zs d.1 h k e

pub one_span : (x y : Span) (reads : Own) (answers : Answers) → Distinct (map begins reads)
    → Among x (spans reads answers) → Among y (spans reads answers) → begins x.asked ≡ begins y.asked → x ≡ y
one_span x y reads answers d h k e = only_one x y (spans reads answers)
    (subst Distinct (sym (begins_of (spans reads answers) ∙ ap (map begins) (spans_asked reads answers))) d) h k e

-- ---- a further READ

-- what has to hold of it: it begins at p and asks n bytes
pub record FitsIn (read_len top : ℕ) (reads : Own) (answers : Answers) (p n : ℕ) : Type 0 where
  pub free : Among p (map begins reads) → ⊥
  pub some : (1 ≤ n) × (n ≤ read_len)
  pub under : p + n ≤ top + read_len
  pub clear : (x : Span) → Among x (spans reads answers) → (p ≤ begins x.asked) ⊎ (span_end x ≤ p)
  pub apart : (s : ℕ) → Among s (map begins reads) → (s ≤ p) ⊎ (p + n ≤ s)
  pub followed : (s : ℕ) → Among s (map begins reads) → p < s → Followed (map begins reads) p n
  pub follows : (a : ℕ × Request) → Among a reads → begins a < p
      → Followed (map begins reads) (begins a) (len_asked a.1) ⊎ (p ≤ begins a + len_asked a.1)

start_added : (s : ℕ) (a : ℕ × Request) (reads : Own) → Among s (map begins (reads ++ a ∷ []))
    → Among s (map begins reads) ⊎ (s ≡ begins a)
start_added s a reads h = at_end s (begins a) (map begins reads)
    (subst (λ (l : List ℕ). Among s l) (begins_added a reads) h)

start_stays : (s : ℕ) (a : ℕ × Request) (reads : Own) → Among s (map begins reads)
    → Among s (map begins (reads ++ a ∷ []))
start_stays s a reads h = subst (λ (l : List ℕ). Among s l) (sym (begins_added a reads))
    (before_end s (begins a) (map begins reads) h)

start_last : (a : ℕ × Request) (reads : Own) → Among (begins a) (map begins (reads ++ a ∷ []))
start_last a reads = subst (λ (l : List ℕ). Among (begins a) l) (sym (begins_added a reads))
    (last_end (begins a) (map begins reads))

followed_stays : (a : ℕ × Request) (reads : Own) (offset n : ℕ) → Followed (map begins reads) offset n
    → Followed (map begins (reads ++ a ∷ [])) offset n
followed_stays a reads offset n f = record {
  of = f.of;
  there = start_stays f.of a reads f.there;
  over = f.over;
  within = f.within;
}

-- two READs are the same where both are, so a fact of one is that of the other
same_read : (P : ℕ × Request → Type 0) (b a : ℕ × Request) (reads : Own) → ((c : ℕ × Request) → Among c reads → P c)
    → P a → Among b (reads ++ a ∷ []) → P b
same_read P b a reads old new h = elim (at_end b a reads h) [ inl k ↦ old b k | inr e ↦ subst P (sym e) new ]

pub tiled_added : (read_len top : ℕ) (a : ℕ × Request) (reads : Own) (answers : Answers) → answers a.0 ≡ None
    → Tiled read_len top reads answers → FitsIn read_len top reads answers (begins a) (len_asked a.1)
    → Tiled read_len (top + read_len) (reads ++ a ∷ []) answers
tiled_added read_len top a reads answers is t f =
    record {
      distinct = subst Distinct (sym (begins_added a reads)) (distinct_added (begins a) (map begins reads) t.distinct
          f.free);
      some = λ b h. same_read (λ (c : ℕ × Request). (1 ≤ len_asked c.1) × (len_asked c.1 ≤ read_len)) b a reads t.some
          f.some h;
      under = λ b h. same_read (λ (c : ℕ × Request). begins c + len_asked c.1 ≤ top + read_len) b a reads
          (λ c k. omega (arith, t.under c k)) f.under h;
      followed = λ b h. same_read (λ (c : ℕ × Request). (s : ℕ) → Among s (map begins (reads ++ a ∷ [])) → begins c < s
          → Followed (map begins (reads ++ a ∷ [])) (begins c) (len_asked c.1)) b a reads old_followed new_followed h;
      apart = λ x h s k. elim (spans_added x a reads answers is h) [
        | inl there ↦ old_apart x there s k
        | inr e ↦ subst (λ (y : Span). (s ≤ begins y.asked) ⊎ (span_end y ≤ s))
            (sym e) (new_apart s k)
      ];
    }
  where
    old_followed : (c : ℕ × Request) → Among c reads → (s : ℕ) → Among s (map begins (reads ++ a ∷ [])) → begins c < s
        → Followed (map begins (reads ++ a ∷ [])) (begins c) (len_asked c.1)
    old_followed c there s k lt =
        elim (start_added s a reads k) [
          | inl before ↦ followed_stays a reads (begins c) (len_asked c.1) (t.followed c there s before lt)
          | inr e ↦ elim (f.follows c there (let at : s ≡ begins a = e in omega (arith, at, lt))) [
            | inl g ↦ followed_stays a reads (begins c) (len_asked c.1) g
            | inr le ↦ record {
              of = begins a;
              there = start_last a reads;
              over =
                  (let at : s ≡ begins a = e in omega (arith, at, lt));
              within = le;
            }
          ]
        ]

    new_followed : (s : ℕ) → Among s (map begins (reads ++ a ∷ [])) → begins a < s
        → Followed (map begins (reads ++ a ∷ [])) (begins a) (len_asked a.1)
    new_followed s k lt =
        elim (start_added s a reads k) [
          | inl before ↦ followed_stays a reads (begins a) (len_asked a.1)
              (f.followed s before lt)
          | inr e ↦ absurd (let at : s ≡ begins a = e in omega (arith, at, lt))
        ]

    old_apart : (x : Span) → Among x (spans reads answers) → (s : ℕ) → Among s (map begins (reads ++ a ∷ []))
        → (s ≤ begins x.asked) ⊎ (span_end x ≤ s)
    old_apart x there s k = elim (start_added s a reads k) [
      | inl before ↦ t.apart x there s before
      | inr e ↦
          subst (λ (n : ℕ). (n ≤ begins x.asked) ⊎ (span_end x ≤ n)) (sym e) (f.clear x there)
    ]

    new_apart : (s : ℕ) → Among s (map begins (reads ++ a ∷ [])) → (s ≤ begins a) ⊎ (begins a + len_asked a.1 ≤ s)
    new_apart s k = elim (start_added s a reads k) [
      | inl before ↦ f.apart s before
      | inr e ↦
          inl (let at : s ≡ begins a = e in omega (arith, at))
    ]
