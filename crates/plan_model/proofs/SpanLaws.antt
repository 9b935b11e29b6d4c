-- What replies and further READs make of the spans of a whole read.
use Rattle.std.proofs.Common.{◌≡◌, ◌≤◌, ◌+◌, ℕ, Bool, true, false, List, [], ◌∷◌, Option, Some, None, refl, sym, ap, subst, ◌∙◌, inl, inr, arith, if◌then◌else◌}
use Rattle.std.specs.Prelude.{◌⊎◌, ◌++◌, ◌&&◌, ◌||◌, IfSome, length, map, filter, is_some, nat_lt, nat_le}
use Rattle.std.proofs.lemmas.Bool.Decides.{nat_tests}
use Rattle.sftp_model.specs.declared.reply.Reply.{Reply}
use Rattle.sftp_model.specs.declared.reply.Reply.TheVariants as reply
use Rattle.sftp_model.specs.declared.request.Request.{Request}
use Rattle.sftp_model.specs.declared.request.Request.TheVariants as request
use Rattle.sftp_model.specs.Answers.{MayAnswer, is_end_of_file}
use Rattle.plan_model.specs.Moves.{Answers, Own}
use Rattle.plan_model.specs.OwnRequests.{ExtendsAnswers, MayBeAnswered}
use Rattle.plan_model.specs.WindowPlans.{begins, len_asked, answered_then, answered_prefix, outside, content_end, contents, least_end}
use Rattle.plan_model.proofs.Among.{Among, MadeOf, among_map, from_map, from_filter, at_end, least_among}
use Rattle.plan_model.proofs.Spans.{Span, span_end, extent_of, asked_whole, spans_from, spans, span_read, HasSpan, prefix_span}

-- ---- a DATA of the prefix ends where its span ends

pub record EndsAt (q : ℕ) (replies : List (ℕ × Reply)) : Type 0 where
  pub of : ℕ × Reply
  pub there : Among of replies
  pub ends : q ≡ of.0 + extent_of of.1

pub content_ends : (q : ℕ) (replies : List (ℕ × Reply)) → Among q (map content_end (contents replies))
    → EndsAt q replies
content_ends q [] h = absurd h
content_ends q (got ∷ rest) h = by_reply got.0 got.1 h (content_ends q rest)
  where
    past : (g : ℕ × Reply) → EndsAt q rest → EndsAt q (g ∷ rest)
    past g e = record { of = e.of; there = inr e.there; ends = e.ends }

    by_reply : (offset : ℕ) (r : Reply) → Among q (map content_end (contents ((offset, r) ∷ rest)))
        → (Among q (map content_end (contents rest)) → EndsAt q rest) → EndsAt q ((offset, r) ∷ rest)
    by_reply offset (reply.Content bytes) (inl e) later = record
        { of = (offset, reply.Content bytes); there = inl refl; ends = e }
    by_reply offset (reply.Content bytes) (inr k) later = past (offset, reply.Content bytes) (later k)
    by_reply offset (reply.Status code message language) k later =
        past (offset, reply.Status code message language) (later k)
    by_reply offset (reply.Handle handle) k later = past (offset, reply.Handle handle) (later k)
    by_reply offset (reply.Names names) k later = past (offset, reply.Names names) (later k)
    by_reply offset (reply.Attrs attrs) k later = past (offset, reply.Attrs attrs) (later k)
    by_reply offset (reply.Extended content) k later = past (offset, reply.Extended content) (later k)
    by_reply offset (reply.Version version extensions) k later =
        past (offset, reply.Version version extensions) (later k)

pub gap_span : (q : ℕ) (reads : Own) (answers : Answers) → Among q
    (map content_end (contents (answered_prefix reads answers))) → MadeOf span_end (spans reads answers) q
gap_span q reads answers h =
    let e : EndsAt q (answered_prefix reads answers) = content_ends q (answered_prefix reads answers) h in
    let s : HasSpan e.of reads answers = prefix_span e.of reads answers e.there in
    record {
      of = s.of;
      there = s.is.there;
      gives = (let a : begins s.of.asked ≡ e.of.0 = s.is.at in let b : s.of.extent
          ≡ extent_of e.of.1 = s.is.takes in let c : q ≡ e.of.0 + extent_of e.of.1 = e.ends in omega (arith, a, b, c));
    }

-- the end of the file is where a READ begins
pub end_begins : (e : ℕ) (reads : Own) (answers : Answers) → least_end (answered_prefix reads answers) ≡ Some e
    → Among e (map begins reads)
end_begins e reads answers is =
    let m : MadeOf (λ (g : ℕ × Reply). g.0) (filter (λ g. is_end_of_file g.1) (answered_prefix reads answers)) e =
    from_map (λ (g : ℕ × Reply). g.0) e (filter (λ g. is_end_of_file g.1) (answered_prefix reads answers))
    (least_among e _ is) in
    let s : HasSpan m.of reads answers = prefix_span m.of reads answers
    (from_filter (λ (g : ℕ × Reply). is_end_of_file g.1) m.of (answered_prefix reads answers) m.there).0 in
    subst (λ (n : ℕ). Among n (map begins reads)) (s.is.at ∙ sym m.gives)
    (among_map begins s.of.asked reads (span_read s.of reads answers s.is.there))

-- ---- no span is longer than its READ asks

both : (a b : Bool) → (a && b) ≡ true → b ≡ true
both true b e = e
both false b e = absurd cc

pub content_fits : (r : Request) (bytes : List ℕ) → MayAnswer r (reply.Content bytes) → (1 ≤ length bytes)
    × (length bytes ≤ len_asked r)
content_fits (request.Read handle offset len) bytes h = (
  first (nat_lt 0 (length bytes)) (nat_le (length bytes) len)
      refl h,
  second (nat_lt 0 (length bytes)) (nat_le (length bytes) len) refl h,
)
  where
    first : (a b : Bool) → nat_lt 0 (length bytes) ≡ a → ((a && b) || false) ≡ true → 1 ≤ length bytes
    first true b is e = grind (arith, nat_tests)
    first false b is e = absurd cc

    second : (a b : Bool) → nat_le (length bytes) len ≡ b → ((a && b) || false) ≡ true → length bytes ≤ len
    second a true is e = grind (arith, nat_tests)
    second true false is e = absurd cc
    second false false is e = absurd cc
content_fits other bytes h = absurd cc

reply_fits : (a : ℕ × Request) (r : Reply) → MayAnswer a.1 r → extent_of r ≤ len_asked a.1
reply_fits a (reply.Content bytes) h = (content_fits a.1 bytes h).1
reply_fits a (reply.Status code message language) h = omega arith
reply_fits a (reply.Handle handle) h = omega arith
reply_fits a (reply.Names names) h = omega arith
reply_fits a (reply.Attrs attrs) h = omega arith
reply_fits a (reply.Extended content) h = omega arith
reply_fits a (reply.Version version extensions) h = omega arith

whole_fits : (x : Span) (xs : Own) → Among x (map asked_whole xs) → x.extent ≤ len_asked x.asked.1
whole_fits x xs h =
    let m : MadeOf asked_whole xs x = from_map asked_whole x xs h in
    let a : x.extent ≡ len_asked m.of.1 = ap (λ (y : Span). y.extent) m.gives in
    let b : len_asked x.asked.1 ≡ len_asked m.of.1 = ap (λ (y : Span). len_asked y.asked.1) m.gives in
    omega (arith, a, b)

pub span_fits : (x : Span) (reads : Own) (answers : Answers) → MayBeAnswered reads answers
    → Among x (spans reads answers) → x.extent ≤ len_asked x.asked.1
span_fits x [] answers may h = absurd h
span_fits x (asked ∷ later) answers may h = by_answer (answers asked.0) may.0 h (span_fits x later answers may.1)
  where
    by_answer : (got : Option Reply) → IfSome got (MayAnswer asked.1)
        → Among x (spans_from asked got later (spans later answers))
        → (Among x (spans later answers) → x.extent ≤ len_asked x.asked.1) → x.extent ≤ len_asked x.asked.1
    by_answer None may h rest = whole_fits x (asked ∷ later) h
    by_answer (Some r) may (inl e) rest =
        let a : x.extent ≡ extent_of r = ap (λ (y : Span). y.extent) e in
        let b : len_asked x.asked.1 ≡ len_asked asked.1 = ap (λ (y : Span). len_asked y.asked.1) e in
        omega (arith, a, b, reply_fits asked r may)
    by_answer (Some r) may (inr k) rest = rest k

-- ---- further replies shorten spans

pub record Longer (x : Span) (xs : List Span) : Type 0 where
  pub of : Span
  pub there : Among of xs
  pub same : of.asked ≡ x.asked
  pub longer : x.extent ≤ of.extent

pub shrinks : (x : Span) (reads : Own) (old new : Answers) → ExtendsAnswers old new → MayBeAnswered reads new
    → Among x (spans reads new) → Longer x (spans reads old)
shrinks x [] old new stays may h = absurd h
shrinks x (asked ∷ later) old new stays may h = by_answer (old asked.0) refl h (shrinks x later old new stays may.1)
  where
    here : (r : Reply) → Among x (spans_from asked (Some r) later (spans later new))
        → (Among x (spans later new) → Longer x (spans later old))
        → Longer x (spans_from asked (Some r) later (spans later old))
    here r (inl e) rest = record {
      of = record { asked = asked; extent = extent_of r };
      there = inl refl;
      same =
          sym (ap (λ (y : Span). y.asked) e);
      longer = (let a : x.extent ≡ extent_of r = ap (λ (y : Span). y.extent) e in
          omega (arith, a));
    }
    here r (inr k) rest = let l : Longer x (spans later old) = rest k in
        record { of = l.of; there = inr l.there; same = l.same; longer = l.longer }

    by_answer : (got : Option Reply) → old asked.0 ≡ got → Among x
        (spans_from asked (new asked.0) later (spans later new))
        → (Among x (spans later new) → Longer x (spans later old))
        → Longer x (spans_from asked got later (spans later old))
    by_answer None is k rest =
        record {
          of = asked_whole x.asked;
          there = among_map asked_whole x.asked (asked ∷ later) (span_read x (asked ∷ later) new k);
          same = refl;
          longer = span_fits x (asked ∷ later) new may k;
        }
    by_answer (Some r) is k rest = here r (subst (λ (o : Option Reply). Among x
        (spans_from asked o later (spans later new))) (stays asked.0 r is) k) rest

-- ---- a READ that was asked and not answered

pub prefix_added : (a : ℕ × Request) (reads : Own) (answers : Answers) → answers a.0 ≡ None
    → answered_prefix (reads ++ a ∷ []) answers ≡ answered_prefix reads answers
prefix_added a [] answers is = ap (λ (o : Option Reply). answered_then (begins a) o []) is
prefix_added a (asked ∷ later) answers is = ap (λ (l : List (ℕ × Reply)). answered_then (begins asked) (answers asked.0)
    l) (prefix_added a later answers is)

pub outside_added : (a : ℕ × Request) (reads : Own) (answers : Answers) → answers a.0 ≡ None
    → outside (reads ++ a ∷ []) answers ≡ outside reads answers ++ a ∷ []
outside_added a [] answers is = ap (λ (o : Option Reply). if is_some o then [] else a ∷ []) is
outside_added a (asked ∷ later) answers is = by_answer (answers asked.0) (outside_added a later answers is)
  where
    by_answer : (got : Option Reply) → outside (later ++ a ∷ []) answers ≡ outside later answers ++ a ∷ []
        → (if is_some got then outside (later ++ a ∷ []) answers else asked ∷ (later ++ a ∷ []))
        ≡ (if is_some got then outside later answers else asked ∷ later) ++ a ∷ []
    by_answer None rest = refl
    by_answer (Some r) rest = rest

pub spans_added : (x : Span) (a : ℕ × Request) (reads : Own) (answers : Answers) → answers a.0 ≡ None
    → Among x (spans (reads ++ a ∷ []) answers) → Among x (spans reads answers) ⊎ (x ≡ asked_whole a)
spans_added x a [] answers is h = only (subst (λ (o : Option Reply). Among x (spans_from a o [] [])) is h)
  where
    only : Among x (asked_whole a ∷ []) → Among x [] ⊎ (x ≡ asked_whole a)
    only (inl e) = inr e
    only (inr k) = absurd k
spans_added x a (asked ∷ later) answers is h = by_answer (answers asked.0) h (spans_added x a later answers is)
  where
    by_answer : (got : Option Reply) → Among x (spans_from asked got (later ++ a ∷ [])
        (spans (later ++ a ∷ []) answers)) → (Among x (spans (later ++ a ∷ []) answers) → Among x (spans later answers)
        ⊎ (x ≡ asked_whole a))
        → Among x (spans_from asked got later (spans later answers)) ⊎ (x ≡ asked_whole a)
    by_answer None k rest =
        let m : MadeOf asked_whole (asked ∷ (later ++ a ∷ [])) x = from_map asked_whole x (asked ∷ (later ++ a ∷ [])) k
        in
        elim (at_end m.of a (asked ∷ later) m.there) [
          | inl there ↦ inl (subst (λ (y : Span). Among y (map asked_whole (asked ∷ later))) (sym m.gives)
              (among_map asked_whole m.of (asked ∷ later) there))
          | inr e ↦ inr (m.gives ∙ ap asked_whole e)
        ]
    by_answer (Some r) (inl e) rest = inl (inl e)
    by_answer (Some r) (inr k) rest = elim (rest k) [ inl there ↦ inl (inr there) | inr e ↦ inr e ]
