-- A window stays sound as READs are asked and answered.
use Rattle.std.proofs.Common.{◌≡◌, ◌≢◌, ℕ, Bool, true, false, List, [], ◌∷◌, ◌++◌, Some, None, refl, sym, subst}
use Rattle.std.specs.Prelude.{◌&&◌, ◌||◌, not, map, if◌then◌else◌}
use Rattle.sftp_model.specs.declared.reply.Reply.{Reply}
use Rattle.sftp_model.specs.Answers.{is_end_of_file}
use Rattle.plan_model.specs.WindowPlans.{brings_content, first_refusal}
use Rattle.plan_window.specs.declared.window.ReadAt.{ReadAt}
use Rattle.plan_window.specs.declared.window.Answered.{Answered}
use Rattle.plan_window.specs.Windows.{Window, AreAnswered, AreInRange, FitsFirst, FitsRead, IsAbsorbed, IsInRange, IsSound, answered_more, asked_more, first_of}

abbrev reply_at : Answered → ℕ × Reply
reply_at a = (a.read.offset, a.reply)

range_more : (xs : List ReadAt) (r : ReadAt) → AreInRange xs → IsInRange r → AreInRange (xs ++ r ∷ [])
range_more [] r all fits = (fits, tt)
range_more (x ∷ xs) r all fits = (all.0, range_more xs r all.1 fits)

pub asked_sound : (w v : Window) (r : ReadAt) → IsSound w → IsInRange r → v ≡ asked_more w r → IsSound v
asked_sound w v r sound fits is =
    subst IsSound (sym is) (record {
      waiting = range_more w.waiting r sound.waiting fits;
      answered = sound.answered;
      unrefused = sound.unrefused;
    })

answered_too : (xs : List Answered) (a : Answered) → AreAnswered xs → IsInRange a.read → FitsRead a.read a.reply
    → AreAnswered (xs ++ a ∷ [])
answered_too [] a all range fits = (range, fits, tt)
answered_too (x ∷ xs) a all range fits = (all.0, all.1, answered_too xs a all.2 range fits)

unrefused_too : (xs : List Answered) (a : Answered) → first_refusal (map reply_at xs) ≡ None → IsAbsorbed a.reply
    → first_refusal (map reply_at (xs ++ a ∷ [])) ≡ None
unrefused_too [] a none good = by_tests (brings_content a.reply) (is_end_of_file a.reply) good
  where
    by_tests : (b c : Bool) → (b || c) ≡ true → (if not b && not c then Some (reply_at a) else None) ≡ None
    by_tests true c good = refl
    by_tests false true good = refl
    by_tests false false good = absurd cc
unrefused_too (x ∷ xs) a none good = by_test (not (brings_content x.reply) && not (is_end_of_file x.reply)) none
    (λ k. unrefused_too xs a k good)
  where
    by_test : (b : Bool) → (if b then Some (reply_at x) else first_refusal (map reply_at xs)) ≡ None
        → (first_refusal (map reply_at xs) ≡ None → first_refusal (map reply_at (xs ++ a ∷ [])) ≡ None)
        → (if b then Some (reply_at x) else first_refusal (map reply_at (xs ++ a ∷ []))) ≡ None
    by_test true none later = absurd cc
    by_test false none later = later none

replied_lists : (answered : List Answered) (waiting : List ReadAt) (y : Reply) → AreAnswered answered
    → AreInRange waiting → first_refusal (map reply_at answered) ≡ None → first_of waiting ≢ None → IsAbsorbed y
    → ((r : ReadAt) → first_of waiting ≡ Some r → FitsRead r y)
    → IsSound (answered_more (record { answered = answered; waiting = waiting }) y)
replied_lists answered [] y all range none some good fits = absurd (some refl)
replied_lists answered (r ∷ rest) y all range none some good fits =
    record {
      waiting = range.1;
      answered = answered_too answered (record { read = r; reply = y }) all range.0 (fits r refl);
      unrefused = unrefused_too answered (record { read = r; reply = y }) none good;
    }

pub replied_sound : (w v : Window) (y : Reply) → IsSound w → first_of w.waiting ≢ None → IsAbsorbed y → FitsFirst w y
    → v ≡ answered_more w y → IsSound v
replied_sound w v y sound some good fits is = subst IsSound (sym is)
    (replied_lists w.answered w.waiting y sound.answered sound.waiting sound.unrefused some good fits)
