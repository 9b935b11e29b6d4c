-- A READ at a gap keeps how the READs lie.
use Rattle.std.proofs.Common.{◌≡◌, ◌<◌, ◌≤◌, ◌+◌, ◌-◌, ◌==◌, ℕ, Bool, true, false, List, Option, Some, None, refl, ap, subst, ◌∙◌, inl, inr, arith}
use Rattle.std.specs.Prelude.{◌⊎◌, map, filter, nat_lt, unwrap_or}
use Rattle.std.proofs.lemmas.Bool.Decides.{nat_tests}
use Rattle.plan_model.specs.Moves.{Answers, Own}
use Rattle.plan_model.specs.OwnRequests.{MayBeAnswered}
use Rattle.plan_model.specs.WindowPlans.{begins, len_asked, answered_prefix, outside, least, least_end, greatest, reach, is_inside, gap_len}
use Rattle.plan_model.proofs.Among.{Among, MadeOf, among_map, from_map, from_filter, into_filter, least_among, least_under, least_there, greatest_among}
use Rattle.plan_model.proofs.Spans.{Span, span_end, spans, span_read, reach_is}
use Rattle.plan_model.proofs.SpanLaws.{end_begins}
use Rattle.plan_model.proofs.Tiles.{Tiled, FitsIn, Followed, one_span}

-- ---- a gap: where the span of a READ ends and none begins

gap_clear : (read_len top p : ℕ) (reads : Own) (answers : Answers) (x y : Span) → Tiled read_len top reads answers
    → Among x (spans reads answers) → p ≡ span_end x → Among y (spans reads answers)
    → (p ≤ begins y.asked) ⊎ (span_end y ≤ p)
gap_clear read_len top p reads answers x y t hx ends hy =
    elim (t.apart x hx (begins y.asked) (among_map begins y.asked reads (span_read y reads answers hy))) [
      | inr le ↦ inl (omega (arith, ends, le))
      | inl le ↦ elim (t.apart y hy (begins x.asked) (among_map begins x.asked reads (span_read x reads answers hx))) [
        | inr k ↦ inr (omega (arith, ends, k))
        | inl k ↦ inr (let same : x ≡ y = one_span x y reads answers t.distinct hx hy (omega (arith, le, k)) in
            let e : span_end x ≡ span_end y = ap span_end same in omega (arith, e, ends))
      ]
    ]

-- where a READ begins above an offset
pub record Above (p : ℕ) (starts : List ℕ) : Type 0 where
  pub of : ℕ
  pub there : Among of starts
  pub over : p < of

-- a gap is below the end or below the reach, so a READ begins above it
pub gap_below : (read_len top p : ℕ) (reads : Own) (answers : Answers) (x : Span) → Tiled read_len top reads answers
    → Among x (spans reads answers) → p ≡ span_end x → (Among p (map begins reads) → ⊥)
    → is_inside (least_end (answered_prefix reads answers)) (reach (answered_prefix reads answers)
    (outside reads answers)) p ≡ true → Above p (map begins reads)
gap_below read_len top p reads answers x t hx ends free within =
    by_end (least_end (answered_prefix reads answers)) refl within
  where
    less : (n m : ℕ) → nat_lt n m ≡ true → n < m
    less n m e = grind (arith, nat_tests)

    over : (y : Span) → Among y (spans reads answers) → p < span_end y → Above p (map begins reads)
    over y hy lt =
        let there : Among (begins y.asked) (map begins reads) = among_map begins y.asked reads
        (span_read y reads answers hy) in
        elim (gap_clear read_len top p reads answers x y t hx ends hy) [
          | inr le ↦ absurd (omega (arith, le, lt))
          | inl le ↦ record { of = begins y.asked; there = there; over = apart (begins y.asked) there le }
        ]
      where
        apart : (s : ℕ) → Among s (map begins reads) → p ≤ s → p < s
        apart s there le = by_test (p == s) refl
          where
            by_test : (b : Bool) → (p == s) ≡ b → p < s
            by_test true is = absurd (free (subst (λ (n : ℕ). Among n (map begins reads))
                (let e : s ≡ p = grind (arith, nat_tests) in e) there))
            by_test false is = grind (arith, nat_tests)

    by_reach : (n : ℕ) → n ≡ greatest (map span_end (spans reads answers)) → p < n → Above p (map begins reads)
    by_reach n is lt =
        elim (greatest_among (map span_end (spans reads answers))) [
          | inl z ↦ absurd (let e : n ≡ 0 = is ∙ z in omega (arith, e, lt))
          | inr k ↦ (let m : MadeOf span_end (spans reads answers) (greatest (map span_end (spans reads answers))) =
              from_map span_end (greatest (map span_end (spans reads answers))) (spans reads answers) k in
              over m.of m.there (let e : n ≡ span_end m.of = is ∙ m.gives in omega (arith, e, lt)))
        ]

    by_end : (o : Option ℕ) → least_end (answered_prefix reads answers) ≡ o
        → is_inside o (reach (answered_prefix reads answers) (outside reads answers)) p ≡ true
        → Above p (map begins reads)
    by_end None is e = by_reach (reach (answered_prefix reads answers) (outside reads answers)) (reach_is reads answers)
        (less p (reach (answered_prefix reads answers) (outside reads answers)) e)
    by_end (Some end) is e = record { of = end; there = end_begins end reads answers is; over = less p end e }

-- the distance to the least of these
pub record FirstAbove (p n : ℕ) (starts : List ℕ) : Type 0 where
  pub of : ℕ
  pub there : Among of starts
  pub over : p < of
  pub first : (s : ℕ) → Among s starts → p < s → of ≤ s
  pub far : n ≡ of - p

pub first_above : (p : ℕ) (reads : Own) → Above p (map begins reads) → FirstAbove p (gap_len reads p) (map begins reads)
first_above p reads above = by_least (least (filter (λ n. nat_lt p n) (map begins reads))) refl
  where
    into : (s : ℕ) → Among s (map begins reads) → p < s → Among s (filter (λ n. nat_lt p n) (map begins reads))
    into s there lt = into_filter (λ (n : ℕ). nat_lt p n) s (map begins reads) there (grind (arith, nat_tests))

    less : (n : ℕ) → nat_lt p n ≡ true → p < n
    less n e = grind (arith, nat_tests)

    by_least : (o : Option ℕ) → least (filter (λ n. nat_lt p n) (map begins reads)) ≡ o
        → FirstAbove p (unwrap_or o p - p) (map begins reads)
    by_least None is = absurd (least_there above.of (filter (λ n. nat_lt p n) (map begins reads))
        (into above.of above.there above.over) is)
    by_least (Some d) is =
        let from : Among d (map begins reads) × (nat_lt p d ≡ true) =
        from_filter (λ (n : ℕ). nat_lt p n) d (map begins reads)
        (least_among d (filter (λ n. nat_lt p n) (map begins reads)) is) in
        record {
          of = d;
          there = from.0;
          over = less d from.1;
          first =
              λ s there lt. least_under d s (filter (λ n. nat_lt p n) (map begins reads)) is (into s there lt);
          far =
              refl;
        }

pub gap_fits : (read_len top p n : ℕ) (reads : Own) (answers : Answers) (x : Span) → Tiled read_len top reads answers
    → MayBeAnswered reads answers → Among x (spans reads answers) → p ≡ span_end x
    → (Among p (map begins reads) → ⊥) → FirstAbove p n (map begins reads) → FitsIn read_len top reads answers p n
gap_fits read_len top p n reads answers x t may hx ends free d =
    record {
      free = free;
      some = (
        let a : p < d.of = d.over in let e : n ≡ d.of - p = d.far in omega (arith, a, e),
        short (t.followed x.asked read d.of d.there (let a : p < d.of = d.over in omega (arith, a, ends))),
      );
      under = low (from_map begins d.of reads d.there);
      clear = λ y hy. gap_clear read_len top p reads answers x y t hx ends hy;
      apart = λ s there. by_test s there (nat_lt p s) refl;
      followed = λ s there lt. record {
        of = d.of;
        there = d.there;
        over = d.over;
        within =
            (let a : p < d.of = d.over in let e : n ≡ d.of - p = d.far in omega (arith, a, e));
      };
      follows = λ a there lt. inl (t.followed a there d.of d.there (let k : p < d.of = d.over in omega (arith, k, lt)));
    }
  where
    read : Among x.asked reads
    read = span_read x reads answers hx

    above : (s : ℕ) → Among s (map begins reads) → p ≤ s → p < s
    above s there le = by_equal (p == s) refl
      where
        by_equal : (b : Bool) → (p == s) ≡ b → p < s
        by_equal true is = absurd (free (subst (λ (m : ℕ). Among m (map begins reads))
            (let e : s ≡ p = grind (arith, nat_tests) in e) there))
        by_equal false is = grind (arith, nat_tests)

    short : Followed (map begins reads) (begins x.asked) (len_asked x.asked.1) → n ≤ read_len
    short f =
        let le : len_asked x.asked.1 ≤ read_len = (t.some x.asked read).1 in
        let e : n ≡ d.of - p = d.far in
        let o : begins x.asked < f.of = f.over in
        let w : f.of ≤ begins x.asked + len_asked x.asked.1 = f.within in
        elim (t.apart x hx f.of f.there) [
          | inl k ↦ absurd (omega (arith, k, o))
          | inr k ↦ (let first : d.of ≤ f.of = d.first f.of f.there (above f.of f.there (omega (arith, ends, k))) in
              omega (arith, first, w, e, le, ends))
        ]

    low : MadeOf begins reads d.of → p + n ≤ top + read_len
    low m =
        let a : p < d.of = d.over in
        let e : n ≡ d.of - p = d.far in
        let at : d.of ≡ begins m.of = m.gives in
        omega (arith, a, e, at, t.under m.of m.there)

    by_test : (s : ℕ) → Among s (map begins reads) → (b : Bool) → nat_lt p s ≡ b → (s ≤ p) ⊎ (p + n ≤ s)
    by_test s there true is =
        let lt : p < s = grind (arith, nat_tests) in
        let first : d.of ≤ s = d.first s there lt in
        let a : p < d.of = d.over in
        let e : n ≡ d.of - p = d.far in
        inr (omega (arith, first, a, e))
    by_test s there false is = inl (grind (arith, nat_tests))
