-- How a call goes on by the reply that it awaits.
use Rattle.std.proofs.Common.{◌≡◌, ◌∙◌, ap, refl, ℕ, List, Option, Some, None}
use Rattle.sftp_model.specs.declared.reply.Reply.{Reply}
use Rattle.sftp_model.specs.declared.slot.Facts.{Facts}
use Rattle.sftp_model.specs.declared.slot.Move.{Move}
use Rattle.sftp_model.specs.declared.slot.Site.{Site}
use Rattle.plan_model.specs.Moves.{Answers, Own, handle_of}
use Rattle.plan_window.specs.declared.window.ReadAt.{ReadAt}
use Rattle.plan_window.specs.Windows.{first_of}
use Rattle.plan_window.proofs.PlanLaws.{after_reply, while_missing}
use Rattle.plan_runner.specs.declared.next.Running.{Running}
use Rattle.plan_runner.specs.declared.next.Running.TheVariants as running
use Rattle.plan_runner.specs.Runners.{after, awaited_place, idle, once, place_in, residual, waits}

-- ---- by a place

once_missing : (o : Option ℕ) (p : ℕ) (answers : Answers) (go : Option Reply → Move) (site : Site) → o ≡ Some p
    → answers p ≡ None → once o answers go ≡ waits o site
once_missing o p answers go site at missing = rw (at, missing) refl

once_came : (o : Option ℕ) (p : ℕ) (answers : Answers) (go : Option Reply → Move) (y : Reply) → o ≡ Some p → answers p
    ≡ Some y → once o answers go ≡ go (Some y)
once_came o p answers go y at came = rw (at, came) refl

once_none : (o : Option ℕ) (answers : Answers) (go : Option Reply → Move) → o ≡ None → once o answers go ≡ go None
once_none o answers go none = rw none refl

-- the READ at a place
pub read_here : (o : Option ReadAt) (p : ℕ) → place_in o ≡ Some p → (r : ReadAt) × (o ≡ Some r) × (r.place ≡ p)
read_here None p e = absurd cc
read_here (Some r) p e = (r, refl, cc)

-- ---- by the call

pub residual_missing : (r : Running) (bytes : List ℕ) (site : Site) (facts : Facts) (later : Own) (answers : Answers)
    (p : ℕ) → awaited_place r site ≡ Some p → answers p ≡ None
    → residual r bytes site facts later answers ≡ idle r bytes site facts later answers
residual_missing (running.ReadingWhole grant bound window) bytes site facts later answers p at missing =
    (let f : (r : ReadAt) × (first_of window.waiting ≡ Some r) × (r.place ≡ p) =
    read_here (first_of window.waiting) p at in
    while_missing (handle_of (answers grant)) (Some bound) window site facts later answers f.0 f.1
    (ap answers f.2 ∙ missing))
residual_missing r bytes site facts later answers p at missing =
    once_missing (awaited_place r site) p answers (λ y. after r bytes site facts y later answers) site at missing

pub residual_came : (r : Running) (bytes : List ℕ) (site : Site) (facts : Facts) (later : Own) (answers : Answers)
    (p : ℕ) (y : Reply) → awaited_place r site ≡ Some p → answers p ≡ Some y
    → residual r bytes site facts later answers ≡ after r bytes site facts (Some y) later answers
residual_came (running.ReadingWhole grant bound window) bytes site facts later answers p y at came =
    (let f : (r : ReadAt) × (first_of window.waiting ≡ Some r) × (r.place ≡ p) =
    read_here (first_of window.waiting) p at in
    after_reply (handle_of (answers grant)) (Some bound) window site facts later answers f.0 y f.1
    (ap answers f.2 ∙ came))
residual_came r bytes site facts later answers p y at came =
    once_came (awaited_place r site) p answers (λ x. after r bytes site facts x later answers) y at came

pub residual_none : (r : Running) (bytes : List ℕ) (site : Site) (facts : Facts) (later : Own) (answers : Answers)
    → awaited_place r site ≡ None
    → residual r bytes site facts later answers ≡ after r bytes site facts None later answers
residual_none (running.ReadingWhole grant bound window) bytes site facts later answers none = refl
residual_none r bytes site facts later answers none = once_none (awaited_place r site) answers
    (λ y. after r bytes site facts y later answers) none
