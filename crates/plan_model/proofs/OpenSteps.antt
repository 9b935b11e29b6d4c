-- What a whole read asks opens no more READs than its window has, and so it asks few.
use Rattle.std.proofs.Common.{
  ◌≡◌,
  ◌<◌,
  ◌≤◌,
  ◌+◌,
  ◌-◌,
  ◌==◌,
  ℕ,
  suc,
  Bool,
  true,
  false,
  List,
  [],
  ◌∷◌,
  Option,
  Some,
  None,
  refl,
  sym,
  ap,
  subst,
  ◌∙◌,
  inl,
  inr,
  arith,
}
use Rattle.std.specs.Prelude.{◌⊎◌, ◌++◌, ◌||◌, length, map, filter, nat_lt}
use Rattle.std.specs.List.{list_any}
use Rattle.std.proofs.lemmas.Bool.Decides.{nat_tests}
use Rattle.std.proofs.lemmas.List.{length-append}
use Rattle.sftp_model.specs.declared.reply.Reply.{Reply}
use Rattle.sftp_model.specs.declared.request.Request.{Request}
use Rattle.sftp_model.specs.declared.slot.Facts.{Facts}
use Rattle.plan_model.specs.Moves.{Answers, Own}
use Rattle.plan_model.specs.TransferPlans.{offset_asked}
use Rattle.plan_model.specs.OwnRequests.{MayBeAnswered}
use Rattle.plan_model.specs.WindowPlans.{begins, len_asked, answered_prefix, outside, content_end, contents, least_end, reach, is_inside, gaps, gap_len}
use Rattle.plan_model.proofs.Among.{MadeOf, least_among, none_there, least_none, some_there, fewer, fewer_by_one}
use Rattle.plan_model.proofs.Spans.{Span, span_end, spans}
use Rattle.plan_model.proofs.SpanLaws.{spans_added, prefix_added, outside_added, gap_span}
use Rattle.plan_model.proofs.Tiles.{tiled_added}
use Rattle.plan_model.proofs.OpenReads.{open_count, ends_of, all_counted, prefix_outside}
use Rattle.plan_model.proofs.WindowAsks.{is_gap, Gap, gap_is, is_gap_of, any_added, AtGap, AfterAll, Asking}
use Rattle.plan_model.proofs.WindowLaws.{span_reached, start_reached, reach_most}
use Rattle.plan_model.proofs.WindowSteps.{Windowed, GapFound, gap_found, asked_fits}

-- ---- what is asked opens no more than the window has

-- open READs by the prefix and what is outside it
abbrev open_by : Own → List (ℕ × Reply) → Own → ℕ
open_by reads replies waiting = length waiting + (length (ends_of replies) + length
    (filter (is_gap reads replies waiting) (map content_end (contents replies))))

no_longer : (a : ℕ × Request) (reads : Own) (q : ℕ) → list_any (λ asked. begins asked == q) (reads ++ a ∷ []) ≡ false
    → (list_any (λ asked. begins asked == q) reads ≡ false) × ((begins a == q) ≡ false)
no_longer a reads q e = by_tests (list_any (λ asked. begins asked == q) reads) (begins a == q)
    (sym (any_added (λ (asked : ℕ × Request). begins asked == q) a reads) ∙ e)
  where
    by_tests : (b c : Bool) → (b || c) ≡ false → (b ≡ false) × (c ≡ false)
    by_tests true c e = absurd cc
    by_tests false c e = (refl, e)

gone : (a : ℕ × Request) (reads : Own) (replies : List (ℕ × Reply)) (waiting : Own)
    → is_gap (reads ++ a ∷ []) replies waiting (begins a) ≡ false
gone a reads replies waiting = by_gap (is_gap (reads ++ a ∷ []) replies waiting (begins a)) refl
  where
    itself : (n : ℕ) → (n == n) ≡ false → ⊥
    itself n e = absurd (grind (arith, nat_tests))

    by_gap : (b : Bool) → is_gap (reads ++ a ∷ []) replies waiting (begins a) ≡ b → b ≡ false
    by_gap true is = absurd (itself (begins a) (no_longer a reads (begins a)
        (Gap.free (gap_is (reads ++ a ∷ []) replies waiting (begins a) is))).1)
    by_gap false is = refl

-- with the READ that was asked
reach_added : (m : ℕ) (a : ℕ × Request) (reads : Own) (answers : Answers) → answers a.0 ≡ None
    → reach (answered_prefix reads answers) (outside reads answers) ≤ m → begins a + len_asked a.1 ≤ m
    → reach (answered_prefix (reads ++ a ∷ []) answers) (outside (reads ++ a ∷ []) answers) ≤ m
reach_added m a reads answers is old new = reach_most m (reads ++ a ∷ []) answers
    (λ x h. elim (spans_added x a reads answers is h) [
      | inl k ↦ omega (arith, old, span_reached x reads answers k)
      | inr e ↦ subst (λ (y : Span). span_end y ≤ m) (sym e) new
    ])

pub open_added : (handle : List ℕ) (bound : Option ℕ) (facts : Facts) (top : ℕ) (a : ℕ × Request) (reads : Own)
    (answers : Answers) → answers a.0 ≡ None → Windowed facts top reads answers
    → Asking handle bound reads (answered_prefix reads answers) (outside reads answers) facts a.1
    → open_count (is_gap (reads ++ a ∷ []) (answered_prefix (reads ++ a ∷ []) answers)
    (outside (reads ++ a ∷ []) answers)) (reads ++ a ∷ []) answers ≤ facts.read_window
open_added handle bound facts top a reads answers is w k =
    subst (λ (l : List (ℕ × Reply)). open_by (reads ++ a ∷ []) l (outside (reads ++ a ∷ []) answers) ≤
    facts.read_window) (sym (prefix_added a reads answers is))
    (elim k.asked [ inl g ↦ at_gap g | inr b ↦ after_all b ])
  where
    replies : List (ℕ × Reply)
    replies = answered_prefix reads answers

    test : (n m : ℕ) → n < m → nat_lt n m ≡ true
    test n m lt = grind (arith, nat_tests)

    less : (n m : ℕ) → nat_lt n m ≡ true → n < m
    less n m e = grind (arith, nat_tests)

    longer : length (outside (reads ++ a ∷ []) answers) ≡ suc (length (outside reads answers))
    longer = ap length (outside_added a reads answers is) ∙ (let e : length (outside reads answers ++ a ∷ [])
        ≡ length (outside reads answers) + 1 = length-append (outside reads answers) (a ∷ []) in omega (arith, e))

    -- a gap of more READs is one of these, where the reach is no further or the READ begins there
    narrower : (q : ℕ) → (reach (answered_prefix (reads ++ a ∷ []) answers) (outside (reads ++ a ∷ []) answers) ≤ reach
        replies (outside reads answers)) ⊎ ((q ≤ reach replies (outside reads answers))
        × (begins a ≡ reach replies (outside reads answers)))
        → is_gap (reads ++ a ∷ []) replies (outside (reads ++ a ∷ []) answers) q ≡ true
        → is_gap reads replies (outside reads answers) q ≡ true
    narrower q near e = by_gap (gap_is (reads ++ a ∷ []) replies (outside (reads ++ a ∷ []) answers) q e)
      where
        by_end : (o : Option ℕ) → (begins a == q) ≡ false → is_inside o
            (reach replies (outside (reads ++ a ∷ []) answers)) q ≡ true
            → is_inside o (reach replies (outside reads answers)) q ≡ true
        by_end (Some end) other h = h
        by_end None other h = test q (reach replies (outside reads answers))
            (nearer (less q (reach replies (outside (reads ++ a ∷ []) answers)) h) near)
          where
            same : reach (answered_prefix (reads ++ a ∷ []) answers) (outside (reads ++ a ∷ []) answers)
                ≡ reach replies (outside (reads ++ a ∷ []) answers)
            same = ap (λ (l : List (ℕ × Reply)). reach l (outside (reads ++ a ∷ []) answers))
                (prefix_added a reads answers is)

            apart : (n m : ℕ) → (n == m) ≡ false → m ≤ n → m < n
            apart n m e le = grind (arith, nat_tests)

            nearer : q < reach replies (outside (reads ++ a ∷ []) answers)
                → (reach (answered_prefix (reads ++ a ∷ []) answers) (outside (reads ++ a ∷ []) answers) ≤ reach replies
                (outside reads answers)) ⊎ ((q ≤ reach replies (outside reads answers))
                × (begins a ≡ reach replies (outside reads answers)))
                → q < reach replies (outside reads answers)
            nearer lt (inl le) = omega (arith, lt, le, same)
            nearer lt (inr at) = let e : begins a ≡ reach replies (outside reads answers) = at.1 in
                let le : q ≤ begins a = omega (arith, at.0, e) in let below : q < begins a = apart (begins a) q other le
                in omega (arith, below, e)

        by_gap : Gap (reads ++ a ∷ []) replies (outside (reads ++ a ∷ []) answers) q
            → is_gap reads replies (outside reads answers) q ≡ true
        by_gap g = is_gap_of reads replies (outside reads answers) q
            (record {
              free = (no_longer a reads q g.free).0;
              within =
                  by_end (least_end replies) (no_longer a reads q g.free).1 g.within;
            })

    at_gap : AtGap handle reads replies (outside reads answers) a.1
        → open_by (reads ++ a ∷ []) replies (outside (reads ++ a ∷ []) answers) ≤ facts.read_window
    at_gap g =
        let f : GapFound reads answers g.gap = gap_found facts top g.gap reads answers w g.is in
        let d : f.first.of ≤ reach replies (outside reads answers) =
        start_reached f.first.of reads answers f.first.there in
        let at : begins a ≡ g.gap = ap (λ (q : Request). offset_asked 0 q) g.asks in
        let len : len_asked a.1 ≡ gap_len reads g.gap = ap len_asked g.asks in
        let far : gap_len reads g.gap ≡ f.first.of - g.gap = f.first.far in
        let over : g.gap < f.first.of = f.first.over in
        let near : reach (answered_prefix (reads ++ a ∷ []) answers) (outside (reads ++ a ∷ []) answers) ≤ reach replies
        (outside reads answers) =
        reach_added (reach replies (outside reads answers)) a reads answers is (omega arith)
        (omega (arith, d, at, len, far, over)) in
        let less : length (filter (is_gap (reads ++ a ∷ []) replies (outside (reads ++ a ∷ []) answers))
        (map content_end (contents replies))) < length (filter (is_gap reads replies (outside reads answers))
        (map content_end (contents replies))) =
        fewer_by_one (is_gap (reads ++ a ∷ []) replies (outside (reads ++ a ∷ []) answers))
        (is_gap reads replies (outside reads answers)) (map content_end (contents replies)) g.gap f.ends f.passes
        (subst (λ (n : ℕ). is_gap (reads ++ a ∷ []) replies (outside (reads ++ a ∷ []) answers) n ≡ false) at
        (gone a reads replies (outside (reads ++ a ∷ []) answers))) (λ q there. narrower q (inl near)) in
        let le : open_count (is_gap reads replies (outside reads answers)) reads answers ≤ facts.read_window = w.few in
        omega (arith, less, longer, le)

    after_all : AfterAll handle reads replies (outside reads answers) facts a.1
        → open_by (reads ++ a ∷ []) replies (outside (reads ++ a ∷ []) answers) ≤ facts.read_window
    after_all b =
        let at : begins a ≡ reach replies (outside reads answers) = ap (λ (q : Request). offset_asked 0 q) b.asks in
        let le : length (filter (is_gap (reads ++ a ∷ []) replies (outside (reads ++ a ∷ []) answers))
        (map content_end (contents replies))) ≤ length (filter (is_gap reads replies (outside reads answers))
        (map content_end (contents replies))) =
        fewer (is_gap (reads ++ a ∷ []) replies (outside (reads ++ a ∷ []) answers))
        (is_gap reads replies (outside reads answers)) (map content_end (contents replies))
        (λ q there. narrower q (inr (reached q (gap_span q reads answers there), at))) in
        let none : length (gaps reads replies (outside reads answers)) ≡ 0 =
        least_none (gaps reads replies (outside reads answers)) b.none in
        let endless : length (ends_of replies) ≡ 0 = none_there (λ (g : ℕ × Reply). g.0) (ends_of replies) b.endless in
        let free : length (outside reads answers) < facts.read_window = k.free in
        omega (arith, le, none, endless, free, longer)
      where
        reached : (q : ℕ) → MadeOf span_end (spans reads answers) q → q ≤ reach replies (outside reads answers)
        reached q m = let e : q ≡ span_end m.of = m.gives in omega (arith, e, span_reached m.of reads answers m.there)

pub windowed_added : (handle : List ℕ) (bound : Option ℕ) (facts : Facts) (top : ℕ) (a : ℕ × Request) (reads : Own)
    (answers : Answers) → answers a.0 ≡ None → 1 ≤ facts.read_len → MayBeAnswered reads answers
    → Windowed facts top reads answers
    → Asking handle bound reads (answered_prefix reads answers) (outside reads answers) facts a.1
    → Windowed facts (top + facts.read_len) (reads ++ a ∷ []) answers
windowed_added handle bound facts top a reads answers is one may w k =
    record {
      tiled = tiled_added facts.read_len top a reads answers is w.tiled
          (asked_fits handle bound facts top reads answers a.1 one may w k);
      few = open_added handle bound facts top a reads answers is w k;
    }

-- ---- how many READs were made where one is asked

pub asked_below : (handle : List ℕ) (bound : Option ℕ) (facts : Facts) (top : ℕ) (reads : Own) (answers : Answers)
    (r : Request) → Windowed facts top reads answers
    → Asking handle bound reads (answered_prefix reads answers) (outside reads answers) facts r → (n : ℕ) → bound
    ≡ Some n → suc (length reads) < n + facts.read_window
asked_below handle bound facts top reads answers r w a n same =
    let all : length (answered_prefix reads answers) ≡ length (contents (answered_prefix reads answers)) + length
    (ends_of (answered_prefix reads answers)) = all_counted (answered_prefix reads answers) a.good in
    let sum : length (answered_prefix reads answers) + length (outside reads answers) ≡ length reads =
    prefix_outside reads answers in
    let few : length (contents (answered_prefix reads answers)) < n = a.few n same in
    let free : length (outside reads answers) < facts.read_window = a.free in
    let le : open_count (is_gap reads (answered_prefix reads answers) (outside reads answers)) reads answers ≤
    facts.read_window = w.few in
    elim a.asked [
      | inl g ↦ (let one : 1 ≤ length (gaps reads (answered_prefix reads answers) (outside reads answers)) =
          some_there g.gap (gaps reads (answered_prefix reads answers) (outside reads answers))
          (least_among g.gap (gaps reads (answered_prefix reads answers) (outside reads answers)) g.is) in
          omega (arith, all, sum, few, le, one))
      | inr b ↦ (let endless : length (ends_of (answered_prefix reads answers)) ≡ 0 =
          none_there (λ (g : ℕ × Reply). g.0) (ends_of (answered_prefix reads answers)) b.endless in
          omega (arith, all, sum, few, free, endless))
    ]
