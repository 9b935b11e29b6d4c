-- Replies and asked READs keep how the READs of a whole read lie and how many are open.
use Rattle.std.proofs.Common.{◌≡◌, ◌<◌, ◌≤◌, ◌==◌, ℕ, Bool, true, false, List, [], ◌∷◌, Option, Some, None, refl, sym, ap, subst, ◌∙◌, inl, inr, arith}
use Rattle.std.specs.Prelude.{IfSome, not, cond, length, map, nat_lt}
use Rattle.std.proofs.lemmas.Bool.Decides.{nat_tests}
use Rattle.sftp_model.specs.declared.reply.Reply.{Reply}
use Rattle.sftp_model.specs.declared.reply.Reply.TheVariants as reply
use Rattle.sftp_model.specs.declared.request.Request.{Request}
use Rattle.sftp_model.specs.Answers.{MayAnswer, is_end_of_file}
use Rattle.plan_model.specs.Moves.{Answers, Own}
use Rattle.plan_model.specs.OwnRequests.{ExtendsAnswers, MayBeAnswered}
use Rattle.plan_model.specs.WindowPlans.{
  begins,
  len_asked,
  answered_then,
  answered_prefix,
  outside,
  first_refusal,
  least,
  least_end,
  greatest,
  reach,
  is_inside,
}
use Rattle.plan_model.proofs.Among.{
  Among,
  MadeOf,
  among_map,
  from_map,
  from_filter,
  into_filter,
  least_among,
  least_under,
  least_there,
  lesser_there,
  greatest_over,
  greatest_most,
}
use Rattle.plan_model.proofs.Spans.{Span, span_end, asked_whole, spans_from, spans, read_span, reach_is}
use Rattle.plan_model.proofs.SpanLaws.{Longer, shrinks, content_fits, end_begins}
use Rattle.plan_model.proofs.OpenReads.{ends_of}

-- ---- further replies make no gap of what was none

prefix_stays : (got : ℕ × Reply) (reads : Own) (old new : Answers) → ExtendsAnswers old new
    → Among got (answered_prefix reads old) → Among got (answered_prefix reads new)
prefix_stays got [] old new stays h = absurd h
prefix_stays got (asked ∷ later) old new stays h = by_answer (old asked.0) refl h (prefix_stays got later old new stays)
  where
    by_answer : (o : Option Reply) → old asked.0 ≡ o → Among got
        (answered_then (begins asked) o (answered_prefix later old))
        → (Among got (answered_prefix later old) → Among got (answered_prefix later new))
        → Among got (answered_then (begins asked) (new asked.0) (answered_prefix later new))
    by_answer None is k rest = absurd k
    by_answer (Some r) is (inl e) rest = subst (λ (o : Option Reply). Among got
        (answered_then (begins asked) o (answered_prefix later new))) (sym (stays asked.0 r is)) (inl e)
    by_answer (Some r) is (inr k) rest = subst (λ (o : Option Reply). Among got
        (answered_then (begins asked) o (answered_prefix later new))) (sym (stays asked.0 r is)) (inr (rest k))

pub span_reached : (x : Span) (reads : Own) (answers : Answers) → Among x (spans reads answers)
    → span_end x ≤ reach (answered_prefix reads answers) (outside reads answers)
span_reached x reads answers h =
    let e : reach (answered_prefix reads answers) (outside reads answers)
    ≡ greatest (map span_end (spans reads answers)) = reach_is reads answers in
    omega (
      arith,
      e,
      greatest_over (span_end x) (map span_end (spans reads answers))
          (among_map span_end x (spans reads answers) h),
    )

pub start_reached : (s : ℕ) (reads : Own) (answers : Answers) → Among s (map begins reads)
    → s ≤ reach (answered_prefix reads answers) (outside reads answers)
start_reached s reads answers h =
    let m : MadeOf begins reads s = from_map begins s reads h in
    let y : MadeOf (λ (z : Span). z.asked) (spans reads answers) m.of = read_span m.of reads answers m.there in
    let at : s ≡ begins y.of.asked = m.gives ∙ ap begins y.gives in
    omega (arith, at, span_reached y.of reads answers y.there)

pub reach_most : (m : ℕ) (reads : Own) (answers : Answers) →
    ((x : Span) → Among x (spans reads answers) → span_end x ≤ m)
    → reach (answered_prefix reads answers) (outside reads answers) ≤ m
reach_most m reads answers h =
    let e : reach (answered_prefix reads answers) (outside reads answers)
    ≡ greatest (map span_end (spans reads answers)) = reach_is reads answers in
    omega (
      arith,
      e,
      greatest_most m (map span_end (spans reads answers))
          (λ n k. each n (from_map span_end n (spans reads answers) k)),
    )
  where
    each : (n : ℕ) → MadeOf span_end (spans reads answers) n → n ≤ m
    each n f = let e : n ≡ span_end f.of = f.gives in omega (arith, e, h f.of f.there)

pub inside_later : (q : ℕ) (reads : Own) (old new : Answers) → ExtendsAnswers old new → MayBeAnswered reads new
    → is_inside (least_end (answered_prefix reads new)) (reach (answered_prefix reads new) (outside reads new)) q ≡ true
    → is_inside (least_end (answered_prefix reads old)) (reach (answered_prefix reads old) (outside reads old)) q ≡ true
inside_later q reads old new stays may e = by_old (least_end (answered_prefix reads old)) refl
  where
    less : (n m : ℕ) → nat_lt n m ≡ true → n < m
    less n m e = grind (arith, nat_tests)

    test : (n m : ℕ) → n < m → nat_lt n m ≡ true
    test n m lt = grind (arith, nat_tests)

    nearer : reach (answered_prefix reads new) (outside reads new) ≤ reach (answered_prefix reads old)
        (outside reads old)
    nearer = reach_most (reach (answered_prefix reads old) (outside reads old)) reads new
        (λ x h. each x (shrinks x reads old new stays may h))
      where
        each : (x : Span) → Longer x (spans reads old) → span_end x ≤ reach (answered_prefix reads old)
            (outside reads old)
        each x l = let at : begins l.of.asked ≡ begins x.asked = ap begins l.same in let le : x.extent ≤ l.of.extent =
            l.longer in omega (arith, at, le, span_reached l.of reads old l.there)

    below : (o : Option ℕ) → least_end (answered_prefix reads new) ≡ o
        → is_inside o (reach (answered_prefix reads new) (outside reads new)) q ≡ true
        → q < reach (answered_prefix reads old) (outside reads old)
    below None is k = let lt : q < reach (answered_prefix reads new) (outside reads new) =
        less q (reach (answered_prefix reads new) (outside reads new)) k in omega (arith, lt, nearer)
    below (Some end) is k = let lt : q < end = less q end k in
        omega (arith, lt, start_reached end reads old (end_begins end reads new is))

    ends_before : (end : ℕ) → least_end (answered_prefix reads old) ≡ Some end
        → Among end (map (λ (g : ℕ × Reply). g.0) (ends_of (answered_prefix reads new)))
    ends_before end is =
        let m : MadeOf (λ (g : ℕ × Reply). g.0) (ends_of (answered_prefix reads old)) end =
        from_map (λ (g : ℕ × Reply). g.0) end (ends_of (answered_prefix reads old))
        (least_among end (map (λ (g : ℕ × Reply). g.0) (ends_of (answered_prefix reads old))) is) in
        let f : Among m.of (answered_prefix reads old) × (is_end_of_file m.of.1 ≡ true) =
        from_filter (λ (g : ℕ × Reply). is_end_of_file g.1) m.of (answered_prefix reads old) m.there in
        subst (λ (n : ℕ). Among n (map (λ (g : ℕ × Reply). g.0) (ends_of (answered_prefix reads new)))) (sym m.gives)
        (among_map (λ (g : ℕ × Reply). g.0) m.of (ends_of (answered_prefix reads new))
        (into_filter (λ (g : ℕ × Reply). is_end_of_file g.1) m.of (answered_prefix reads new)
        (prefix_stays m.of reads old new stays f.0) f.1))

    by_new : (end : ℕ) → Among end (map (λ (g : ℕ × Reply). g.0) (ends_of (answered_prefix reads new))) → (o : Option ℕ)
        → least_end (answered_prefix reads new) ≡ o
        → is_inside o (reach (answered_prefix reads new) (outside reads new)) q ≡ true → nat_lt q end ≡ true
    by_new end there None is k = absurd (least_there end (map (λ (g : ℕ × Reply). g.0)
        (ends_of (answered_prefix reads new))) there is)
    by_new end there (Some sooner) is k =
        let lt : q < sooner = less q sooner k in
        let le : sooner ≤ end = least_under sooner end (map (λ (g : ℕ × Reply). g.0)
        (ends_of (answered_prefix reads new))) is there in
        test q end (omega (arith, lt, le))

    by_old : (o : Option ℕ) → least_end (answered_prefix reads old) ≡ o
        → is_inside o (reach (answered_prefix reads old) (outside reads old)) q ≡ true
    by_old None is = test q (reach (answered_prefix reads old) (outside reads old))
        (below (least_end (answered_prefix reads new)) refl e)
    by_old (Some end) is = by_new end (ends_before end is) (least_end (answered_prefix reads new)) refl e

-- ---- where no end is known and nothing was refused, no span is empty

pub not_empty : (x : Span) (reads : Own) (answers : Answers) → first_refusal (answered_prefix reads answers) ≡ None
    → least_end (answered_prefix reads answers) ≡ None → ((a : ℕ × Request) → Among a reads → 1 ≤ len_asked a.1)
    → MayBeAnswered reads answers → Among x (spans reads answers) → 1 ≤ x.extent
not_empty x [] answers good endless some may h = absurd h
not_empty x (asked ∷ later) answers good endless some may h =
    by_answer (answers asked.0) good endless may.0 h (λ g l k. not_empty x later answers g l (λ a m. some a (inr m))
    may.1 k)
  where
    whole : MadeOf asked_whole (asked ∷ later) x → 1 ≤ x.extent
    whole m = let e : x.extent ≡ len_asked m.of.1 = ap (λ (y : Span). y.extent) m.gives in
        omega (arith, e, some m.of m.there)

    by_content : (bytes : List ℕ) → MayAnswer asked.1 (reply.Content bytes)
        → Among x (spans_from asked (Some (reply.Content bytes)) later (spans later answers))
        → (Among x (spans later answers) → 1 ≤ x.extent) → 1 ≤ x.extent
    by_content bytes may (inl e) rest = let l : x.extent ≡ length bytes = ap (λ (y : Span). y.extent) e in
        omega (arith, l, (content_fits asked.1 bytes may).0)
    by_content bytes may (inr k) rest = rest k

    by_answer : (o : Option Reply) → first_refusal (answered_then (begins asked) o (answered_prefix later answers))
        ≡ None → least_end (answered_then (begins asked) o (answered_prefix later answers)) ≡ None
        → IfSome o (MayAnswer asked.1)
        → Among x (spans_from asked o later (spans later answers))
        → (first_refusal (answered_prefix later answers) ≡ None → least_end (answered_prefix later answers) ≡ None
        → Among x (spans later answers) → 1 ≤ x.extent) → 1 ≤ x.extent
    by_answer None good endless may h rest = whole (from_map asked_whole x (asked ∷ later) h)
    by_answer (Some (reply.Content bytes)) good endless may h rest = by_content bytes may h (rest good endless)
    by_answer (Some (reply.Status code message language)) good endless may h rest = by_code (code == 1) good endless
      where
        by_code : (b : Bool) → cond (not b) (Some (begins asked, reply.Status code message language))
            (first_refusal (answered_prefix later answers)) ≡ None
            → least (map (λ (g : ℕ × Reply). g.0) (cond b ((begins asked, reply.Status code message language) ∷ ends_of
            (answered_prefix later answers)) (ends_of (answered_prefix later answers)))) ≡ None → 1 ≤ x.extent
        by_code true good endless = absurd (lesser_there (begins asked) (least_end (answered_prefix later answers))
            endless)
        by_code false good endless = absurd cc
    by_answer (Some (reply.Handle handle)) good endless may h rest = absurd cc
    by_answer (Some (reply.Names names)) good endless may h rest = absurd cc
    by_answer (Some (reply.Attrs attrs)) good endless may h rest = absurd cc
    by_answer (Some (reply.Extended content)) good endless may h rest = absurd cc
    by_answer (Some (reply.Version version extensions)) good endless may h rest = absurd cc
