-- The READs of a whole read as spans of its file: where each begins, and how far it extends.
use Rattle.std.proofs.Common.{◌≡◌, ◌+◌, ℕ, List, [], ◌∷◌, Option, Some, None, refl, sym, ap, subst, ◌∙◌, inl, inr, arith, if◌then◌else◌}
use Rattle.std.specs.Prelude.{◌++◌, length, map, is_some}
use Rattle.sftp_model.specs.declared.reply.Reply.{Reply}
use Rattle.sftp_model.specs.declared.reply.Reply.TheVariants as reply
use Rattle.sftp_model.specs.declared.request.Request.{Request}
use Rattle.plan_model.specs.Moves.{Answers, Own}
use Rattle.plan_model.specs.WindowPlans.{begins, len_asked, answered_then, answered_prefix, outside, end_of_read, reach, greatest}
use Rattle.plan_model.proofs.Among.{Among, MadeOf, among_map, from_map}

-- a READ, and how many bytes from its offset on it takes
pub record Span : Type 0 where
  pub asked : ℕ × Request
  pub extent : ℕ

abbrev pub span_end : Span → ℕ
span_end x = begins x.asked + x.extent

-- the bytes of a DATA; of any other reply none
abbrev pub extent_of : Reply → ℕ
extent_of (reply.Content bytes) = length bytes
extent_of other = 0

-- outside the prefix a READ extends as far as it asks
abbrev pub asked_whole : ℕ × Request → Span
asked_whole asked = record { asked = asked; extent = len_asked asked.1 }

abbrev pub spans_from : ℕ × Request → Option Reply → Own → List Span → List Span
spans_from asked None later rest = map asked_whole (asked ∷ later)
spans_from asked (Some r) later rest = record { asked = asked; extent = extent_of r } ∷ rest

abbrev pub spans : Own → Answers → List Span
spans [] answers = []
spans (asked ∷ later) answers = spans_from asked (answers asked.0) later (spans later answers)

-- ---- the READs of the spans

whole_asked : (xs : Own) → map (λ (x : Span). x.asked) (map asked_whole xs) ≡ xs
whole_asked [] = refl
whole_asked (x ∷ xs) = ap (λ (l : Own). x ∷ l) (whole_asked xs)

pub spans_asked : (reads : Own) (answers : Answers) → map (λ (x : Span). x.asked) (spans reads answers) ≡ reads
spans_asked [] answers = refl
spans_asked (asked ∷ later) answers = by_answer (answers asked.0) (spans_asked later answers)
  where
    by_answer : (got : Option Reply) → map (λ (x : Span). x.asked) (spans later answers) ≡ later
        → map (λ (x : Span). x.asked) (spans_from asked got later (spans later answers)) ≡ asked ∷ later
    by_answer None rest = whole_asked (asked ∷ later)
    by_answer (Some r) rest = ap (λ (l : Own). asked ∷ l) rest

pub span_read : (x : Span) (reads : Own) (answers : Answers) → Among x (spans reads answers) → Among x.asked reads
span_read x reads answers h = subst (λ (l : Own). Among x.asked l) (spans_asked reads answers)
    (among_map (λ (y : Span). y.asked) x (spans reads answers) h)

-- each READ has a span
pub read_span : (a : ℕ × Request) (reads : Own) (answers : Answers) → Among a reads
    → MadeOf (λ (y : Span). y.asked) (spans reads answers) a
read_span a reads answers h = from_map (λ (y : Span). y.asked) a (spans reads answers)
    (subst (λ (l : Own). Among a l) (sym (spans_asked reads answers)) h)

-- ---- the reach

abbrev whole_end : ℕ × Request → ℕ
whole_end asked = begins asked + len_asked asked.1

ends_whole : (xs : Own) → map whole_end xs ≡ map span_end (map asked_whole xs)
ends_whole [] = refl
ends_whole (x ∷ xs) = ap (λ (l : List ℕ). whole_end x ∷ l) (ends_whole xs)

reached_is : (offset : ℕ) (r : Reply) → end_of_read (offset, r) ≡ offset + extent_of r
reached_is offset (reply.Content bytes) = refl
reached_is offset (reply.Status code message language) = omega arith
reached_is offset (reply.Handle handle) = omega arith
reached_is offset (reply.Names names) = omega arith
reached_is offset (reply.Attrs attrs) = omega arith
reached_is offset (reply.Extended content) = omega arith
reached_is offset (reply.Version version extensions) = omega arith

ends_are : (reads : Own) (answers : Answers) → map end_of_read (answered_prefix reads answers)
    ++ map whole_end (outside reads answers) ≡ map span_end (spans reads answers)
ends_are [] answers = refl
ends_are (asked ∷ later) answers = by_answer (answers asked.0) (ends_are later answers)
  where
    by_answer : (got : Option Reply) → map end_of_read (answered_prefix later answers)
        ++ map whole_end (outside later answers) ≡ map span_end (spans later answers)
        → map end_of_read (answered_then (begins asked) got (answered_prefix later answers))
        ++ map whole_end (if is_some got then outside later answers else asked ∷ later)
        ≡ map span_end (spans_from asked got later (spans later answers))
    by_answer None rest = ends_whole (asked ∷ later)
    by_answer (Some r) rest = ap (λ (n : ℕ). n ∷ (map end_of_read (answered_prefix later answers)
        ++ map whole_end (outside later answers))) (reached_is (begins asked) r)
        ∙ ap (λ (l : List ℕ). (begins asked + extent_of r) ∷ l) rest

pub reach_is : (reads : Own) (answers : Answers) → reach (answered_prefix reads answers) (outside reads answers)
    ≡ greatest (map span_end (spans reads answers))
reach_is reads answers = ap greatest (ends_are reads answers)

-- ---- the spans of the prefix

pub record OfPrefix (x : Span) (got : ℕ × Reply) (reads : Own) (answers : Answers) : Type 0 where
  pub there : Among x (spans reads answers)
  pub at : begins x.asked ≡ got.0
  pub takes : x.extent ≡ extent_of got.1

pub record HasSpan (got : ℕ × Reply) (reads : Own) (answers : Answers) : Type 0 where
  pub of : Span
  pub is : OfPrefix of got reads answers

pub prefix_span : (got : ℕ × Reply) (reads : Own) (answers : Answers) → Among got (answered_prefix reads answers)
    → HasSpan got reads answers
prefix_span got [] answers h = absurd h
prefix_span got (asked ∷ later) answers h = by_answer (answers asked.0) refl h (λ k. prefix_span got later answers k)
  where
    first : (r : Reply) → answers asked.0 ≡ Some r → got ≡ (begins asked, r) → HasSpan got (asked ∷ later) answers
    first r is e =
        record {
          of = record { asked = asked; extent = extent_of r };
          is = record {
            there = subst (λ (o : Option Reply). Among (record { asked = asked; extent = extent_of r })
                (spans_from asked o later (spans later answers))) (sym is) (inl refl);
            at = sym (ap (λ (g : ℕ × Reply). g.0) e);
            takes = sym (ap (λ (g : ℕ × Reply). extent_of g.1) e);
          };
        }

    next : (r : Reply) → answers asked.0 ≡ Some r → HasSpan got later answers → HasSpan got (asked ∷ later) answers
    next r is k =
        record {
          of = k.of;
          is = record {
            there = subst (λ (o : Option Reply). Among k.of (spans_from asked o later (spans later answers))) (sym is)
                (inr k.is.there);
            at = k.is.at;
            takes = k.is.takes;
          };
        }

    by_answer : (o : Option Reply) → answers asked.0 ≡ o → Among got
        (answered_then (begins asked) o (answered_prefix later answers))
        → (Among got (answered_prefix later answers) → HasSpan got later answers)
        → HasSpan got (asked ∷ later) answers
    by_answer None is k rest = absurd k
    by_answer (Some r) is (inl e) rest = first r is e
    by_answer (Some r) is (inr k) rest = next r is (rest k)
