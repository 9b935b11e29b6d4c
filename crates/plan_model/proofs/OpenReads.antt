-- How many READs of a whole read are open: those that wait, those that found the end, and those whose bytes leave a
-- gap. Replies open none.
use Rattle.std.proofs.Common.{◌≡◌, ◌≤◌, ◌+◌, ◌==◌, ℕ, suc, Bool, true, false, List, [], ◌∷◌, Option, Some, None, refl, sym, subst, ◌∙◌, arith, if◌then◌else◌}
use Rattle.std.specs.Prelude.{cond, length, map, filter, is_some, not}
use Rattle.sftp_model.specs.declared.reply.Reply.{Reply}
use Rattle.sftp_model.specs.declared.reply.Reply.TheVariants as reply
use Rattle.sftp_model.specs.declared.request.Request.{Request}
use Rattle.sftp_model.specs.Answers.{is_end_of_file}
use Rattle.plan_model.specs.Moves.{Answers, Own}
use Rattle.plan_model.specs.OwnRequests.{ExtendsAnswers}
use Rattle.plan_model.specs.WindowPlans.{begins, answered_then, answered_prefix, outside, content_end, contents, first_refusal}

abbrev pub ends_of : List (ℕ × Reply) → List (ℕ × Reply)
ends_of replies = filter (λ got. is_end_of_file got.1) replies

abbrev pub open_count : (ℕ → Bool) → Own → Answers → ℕ
open_count is_gap reads answers =
    length (outside reads answers) + (length (ends_of (answered_prefix reads answers)) + length
    (filter is_gap (map content_end (contents (answered_prefix reads answers)))))

-- the same for a first READ with its reply, and further ones
abbrev open_from : (ℕ → Bool) → ℕ × Request → Option Reply → Own → Answers → ℕ
open_from is_gap asked got later answers =
    length (if is_some got then outside later answers else asked ∷ later)
    + (length (ends_of (answered_then (begins asked) got (answered_prefix later answers))) + length
    (filter is_gap (map content_end (contents (answered_then (begins asked) got (answered_prefix later answers))))))

-- an answered READ is open or not
abbrev weight : (ℕ → Bool) → ℕ → Reply → ℕ
weight is_gap offset (reply.Content bytes) = cond (is_gap (offset + length bytes)) 1 0
weight is_gap offset (reply.Status code message language) = cond (code == 1) 1 0
weight is_gap offset other = 0

open_some : (is_gap : ℕ → Bool) (asked : ℕ × Request) (r : Reply) (later : Own) (answers : Answers)
    → open_from is_gap asked (Some r) later answers ≡ weight is_gap (begins asked) r + open_count is_gap later answers
open_some is_gap asked (reply.Content bytes) later answers = by_test (is_gap (begins asked + length bytes))
  where
    by_test : (b : Bool) → length (outside later answers) + (length (ends_of (answered_prefix later answers)) + length
        (cond b ((begins asked + length bytes) ∷ filter is_gap (map content_end
        (contents (answered_prefix later answers)))) (filter is_gap
        (map content_end (contents (answered_prefix later answers))))))
        ≡ cond b 1 0 + open_count is_gap later answers
    by_test true = omega arith
    by_test false = omega arith
open_some is_gap asked (reply.Status code message language) later answers = by_test (code == 1)
  where
    by_test : (b : Bool) → length (outside later answers) + (length
        (cond b ((begins asked, reply.Status code message language) ∷ ends_of (answered_prefix later answers))
        (ends_of (answered_prefix later answers))) + length (filter is_gap
        (map content_end (contents (answered_prefix later answers)))))
        ≡ cond b 1 0 + open_count is_gap later answers
    by_test true = omega arith
    by_test false = omega arith
open_some is_gap asked (reply.Handle handle) later answers = omega arith
open_some is_gap asked (reply.Names names) later answers = omega arith
open_some is_gap asked (reply.Attrs attrs) later answers = omega arith
open_some is_gap asked (reply.Extended content) later answers = omega arith
open_some is_gap asked (reply.Version version extensions) later answers = omega arith

light : (is_gap : ℕ → Bool) (offset : ℕ) (r : Reply) → weight is_gap offset r ≤ 1
light is_gap offset (reply.Content bytes) = by_test (is_gap (offset + length bytes))
  where
    by_test : (b : Bool) → cond b 1 0 ≤ 1
    by_test true = omega arith
    by_test false = omega arith
light is_gap offset (reply.Status code message language) = by_test (code == 1)
  where
    by_test : (b : Bool) → cond b 1 0 ≤ 1
    by_test true = omega arith
    by_test false = omega arith
light is_gap offset (reply.Handle handle) = omega arith
light is_gap offset (reply.Names names) = omega arith
light is_gap offset (reply.Attrs attrs) = omega arith
light is_gap offset (reply.Extended content) = omega arith
light is_gap offset (reply.Version version extensions) = omega arith

lighter : (narrow wide : ℕ → Bool) (offset : ℕ) (r : Reply) → ((q : ℕ) → narrow q ≡ true → wide q ≡ true)
    → weight narrow offset r ≤ weight wide offset r
lighter narrow wide offset (reply.Content bytes) h = by_tests (narrow (offset + length bytes))
    (wide (offset + length bytes)) refl refl
  where
    by_tests : (a b : Bool) → narrow (offset + length bytes) ≡ a → wide (offset + length bytes) ≡ b
        → cond a 1 0 ≤ cond b 1 0
    by_tests true true is at = omega arith
    by_tests true false is at = absurd (let z : true ≡ false = sym (h (offset + length bytes) is) ∙ at in cc)
    by_tests false true is at = omega arith
    by_tests false false is at = omega arith
lighter narrow wide offset (reply.Status code message language) h = omega arith
lighter narrow wide offset (reply.Handle handle) h = omega arith
lighter narrow wide offset (reply.Names names) h = omega arith
lighter narrow wide offset (reply.Attrs attrs) h = omega arith
lighter narrow wide offset (reply.Extended content) h = omega arith
lighter narrow wide offset (reply.Version version extensions) h = omega arith

open_most : (is_gap : ℕ → Bool) (part : Own) (answers : Answers) → open_count is_gap part answers ≤ length part
open_most is_gap [] answers = omega arith
open_most is_gap (asked ∷ later) answers = by_answer (answers asked.0) (open_most is_gap later answers)
  where
    by_answer : (got : Option Reply) → open_count is_gap later answers ≤ length later
        → open_from is_gap asked got later answers ≤ suc (length later)
    by_answer None rest = omega arith
    by_answer (Some r) rest = omega (arith, rest, open_some is_gap asked r later answers, light is_gap (begins asked) r)

-- further replies open no READ, where a gap was one before
pub open_later : (narrow wide : ℕ → Bool) (part : Own) (old new : Answers) → ((q : ℕ) → narrow q ≡ true → wide q ≡ true)
    → ExtendsAnswers old new → open_count narrow part new ≤ open_count wide part old
open_later narrow wide [] old new h stays = omega arith
open_later narrow wide (asked ∷ later) old new h stays = by_answer (old asked.0) refl
    (open_later narrow wide later old new h stays)
  where
    here : (r : Reply) → open_count narrow later new ≤ open_count wide later old
        → open_from narrow asked (Some r) later new ≤ open_from wide asked (Some r) later old
    here r rest = omega (
      arith,
      rest,
      open_some narrow asked r later new,
      open_some wide asked r later old,
      lighter narrow wide (begins asked) r h,
    )

    by_answer : (got : Option Reply) → old asked.0 ≡ got → open_count narrow later new ≤ open_count wide later old
        → open_from narrow asked (new asked.0) later new ≤ open_from wide asked got later old
    by_answer None is rest = omega (arith, open_most narrow (asked ∷ later) new)
    by_answer (Some r) is rest = subst (λ (o : Option Reply). open_from narrow asked o later new ≤ open_from wide asked
        (Some r) later old) (sym (stays asked.0 r is)) (here r rest)

-- ---- a prefix without a refusal has DATA and ends alone

pub all_counted : (replies : List (ℕ × Reply)) → first_refusal replies ≡ None → length replies
    ≡ length (contents replies) + length (ends_of replies)
all_counted [] good = omega arith
all_counted (got ∷ rest) good = by_reply got.0 got.1 (all_counted rest) good
  where
    by_reply : (offset : ℕ) (r : Reply) → (first_refusal rest ≡ None → length rest
        ≡ length (contents rest) + length (ends_of rest)) → first_refusal ((offset, r) ∷ rest) ≡ None
        → suc (length rest) ≡ length (contents ((offset, r) ∷ rest)) + length (ends_of ((offset, r) ∷ rest))
    by_reply offset (reply.Content bytes) later good = omega (arith, later good)
    by_reply offset (reply.Status code message language) later good = by_code (code == 1) good
      where
        by_code : (b : Bool) → cond (not b) (Some (offset, reply.Status code message language)) (first_refusal rest)
            ≡ None
            → suc (length rest) ≡ length (contents rest) + length (cond b
            ((offset, reply.Status code message language) ∷ ends_of rest) (ends_of rest))
        by_code true good = omega (arith, later good)
        by_code false good = absurd cc
    by_reply offset (reply.Handle handle) later good = absurd cc
    by_reply offset (reply.Names names) later good = absurd cc
    by_reply offset (reply.Attrs attrs) later good = absurd cc
    by_reply offset (reply.Extended content) later good = absurd cc
    by_reply offset (reply.Version version extensions) later good = absurd cc

-- each READ is in the prefix or outside it
pub prefix_outside : (reads : Own) (answers : Answers) → length (answered_prefix reads answers) + length
    (outside reads answers) ≡ length reads
prefix_outside [] answers = refl
prefix_outside (asked ∷ later) answers = by_answer (answers asked.0) (prefix_outside later answers)
  where
    by_answer : (got : Option Reply) → length (answered_prefix later answers) + length (outside later answers)
        ≡ length later
        → length (answered_then (begins asked) got (answered_prefix later answers)) + length
        (if is_some got then outside later answers else asked ∷ later) ≡ suc (length later)
    by_answer None rest = omega arith
    by_answer (Some r) rest = omega (arith, rest)
