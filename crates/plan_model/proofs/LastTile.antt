-- A READ after all keeps how the READs lie.
use Rattle.std.proofs.Common.{◌≡◌, ◌<◌, ◌≤◌, ◌+◌, ℕ, Bool, true, false, refl, sym, ap, ◌∙◌, inl, inr, arith}
use Rattle.std.specs.Prelude.{◌⊎◌, map, nat_lt}
use Rattle.std.proofs.lemmas.Bool.Decides.{nat_tests}
use Rattle.sftp_model.specs.declared.request.Request.{Request}
use Rattle.plan_model.specs.Moves.{Answers, Own}
use Rattle.plan_model.specs.OwnRequests.{MayBeAnswered}
use Rattle.plan_model.specs.WindowPlans.{begins, len_asked, greatest}
use Rattle.plan_model.proofs.Among.{Among, MadeOf, among_map, from_map, greatest_over, greatest_among}
use Rattle.plan_model.proofs.Spans.{Span, span_end, spans, span_read, read_span}
use Rattle.plan_model.proofs.SpanLaws.{span_fits}
use Rattle.plan_model.proofs.Tiles.{Tiled, FitsIn, Followed, one_span}

-- where no span is empty

pub after_fits : (read_len top : ℕ) (reads : Own) (answers : Answers) → 1 ≤ read_len → Tiled read_len top reads answers
    → MayBeAnswered reads answers
    → ((x : Span) → Among x (spans reads answers) → 1 ≤ x.extent)
    → FitsIn read_len top reads answers (greatest (map span_end (spans reads answers))) read_len
after_fits read_len top reads answers one t may some =
    record {
      free = λ h. free (from_map begins p reads h);
      some = (one, omega arith);
      under = (let le : p ≤ top = low in omega (arith, le));
      clear = λ x hx. inr (ends x hx);
      apart = λ s there. inl (start s there);
      followed = λ s there lt. absurd (let le : s ≤ p = start s there in omega (arith, le, lt));
      follows = λ a there lt. follows a there lt (read_span a reads answers there);
    }
  where
    p : ℕ
    p = greatest (map span_end (spans reads answers))

    ends : (x : Span) → Among x (spans reads answers) → span_end x ≤ p
    ends x hx = greatest_over (span_end x) (map span_end (spans reads answers))
        (among_map span_end x (spans reads answers) hx)

    begun : (a : ℕ × Request) → Among a reads → begins a < p
    begun a there =
        let m : MadeOf (λ (y : Span). y.asked) (spans reads answers) a = read_span a reads answers there in
        let at : begins a ≡ begins m.of.asked = ap begins m.gives in
        omega (arith, at, ends m.of m.there, some m.of m.there)

    free : MadeOf begins reads p → ⊥
    free m = let e : p ≡ begins m.of = m.gives in let lt : begins m.of < p = begun m.of m.there in omega (arith, e, lt)

    start : (s : ℕ) → Among s (map begins reads) → s ≤ p
    start s there = let m : MadeOf begins reads s = from_map begins s reads there in let e : s ≡ begins m.of = m.gives
        in let lt : begins m.of < p = begun m.of m.there in omega (arith, e, lt)

    reached : (q : ℕ) → q ≡ p → 0 < q → MadeOf span_end (spans reads answers) p
    reached q is lt = elim (greatest_among (map span_end (spans reads answers))) [
      | inl z ↦ absurd (let e : q ≡ 0 = is ∙ z in omega (arith, e, lt))
      | inr k ↦
          from_map span_end p (spans reads answers) k
    ]

    low : p ≤ top
    low = elim (greatest_among (map span_end (spans reads answers))) [
      | inl z ↦ (let e : p ≡ 0 = z in omega (arith, e))
      | inr k ↦ (let m : MadeOf span_end (spans reads answers) p = from_map span_end p (spans reads answers) k in
          let e : p ≡ span_end m.of = m.gives in omega (
            arith,
            e,
            span_fits m.of reads answers may m.there,
            t.under m.of.asked (span_read m.of reads answers m.there),
          ))
    ]

    follows : (a : ℕ × Request) → Among a reads → begins a < p → MadeOf (λ (y : Span). y.asked) (spans reads answers) a
        → Followed (map begins reads) (begins a) (len_asked a.1) ⊎ (p ≤ begins a + len_asked a.1)
    follows a there lt m =
        let last : MadeOf span_end (spans reads answers) p = reached p refl (omega (arith, lt)) in
        let e : p ≡ span_end last.of = last.gives in
        let at : Among (begins last.of.asked) (map begins reads) =
        among_map begins last.of.asked reads (span_read last.of reads answers last.there) in
        elim (t.apart last.of last.there (begins a) (among_map begins a reads there)) [
          | inr le ↦ absurd (omega (arith, e, le, lt))
          | inl le ↦ by_test last.of last.there e at le (nat_lt (begins a) (begins last.of.asked)) refl
        ]
      where
        by_test : (x : Span) → Among x (spans reads answers) → p ≡ span_end x
            → Among (begins x.asked) (map begins reads) → begins a ≤ begins x.asked → (b : Bool)
            → nat_lt (begins a) (begins x.asked) ≡ b
            → Followed (map begins reads) (begins a) (len_asked a.1) ⊎ (p ≤ begins a + len_asked a.1)
        by_test x hx e at le true is = inl (t.followed a there (begins x.asked) at (grind (arith, nat_tests)))
        by_test x hx e at le false is =
            let ge : begins x.asked ≤ begins a = grind (arith, nat_tests) in
            let own : begins a ≡ begins m.of.asked = ap begins m.gives in
            let same : x ≡ m.of = one_span x m.of reads answers t.distinct hx m.there (omega (arith, le, ge, own)) in
            let asked : x.asked ≡ a = ap (λ (y : Span). y.asked) same ∙ sym m.gives in
            let len : len_asked x.asked.1 ≡ len_asked a.1 = ap (λ (c : ℕ × Request). len_asked c.1) asked in
            let from : begins x.asked ≡ begins a = ap begins asked in
            inr (omega (arith, e, len, from, span_fits x reads answers may hx))
