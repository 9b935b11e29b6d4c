-- READs of a whole read of a path, as its plan asked them.
use Rattle.std.specs.Prelude.{ℕ, ◌≡◌, ◌<◌, ◌≤◌, ◌+◌, ◌-◌, ◌^◌, List, [], ◌∷◌, ◌++◌, length, map, Some, None, slice_get}
use Rattle.sftp_model.specs.declared.error.Error.{Error}
use Rattle.sftp_model.specs.declared.error.Error.TheVariants as error
use Rattle.sftp_model.specs.declared.outcome.Outcome.TheVariants as outcome
use Rattle.sftp_model.specs.declared.slot.Move.TheVariants.{Done}
use Rattle.sftp_model.specs.declared.reply.Reply.{Reply}
use Rattle.sftp_model.specs.declared.reply.Reply.TheVariants as reply
use Rattle.sftp_model.specs.declared.request.Request.{Request}
use Rattle.sftp_model.specs.declared.request.Request.TheVariants as request
use Rattle.sftp_model.specs.declared.slot.Facts.{Facts}
use Rattle.sftp_model.specs.declared.slot.Site.{Site}
use Rattle.plan_model.specs.GoodMoves.{FitsFacts}
use Rattle.plan_model.specs.Moves.{Answers, Own, Plan}
use Rattle.plan_model.specs.OwnRequests.{AreAsked, ExtendsAnswers, MayBeAnswered, oldest_first}
use Rattle.plan_model.specs.WindowPlans.{fs_read_next}
use Rattle.plan_window.specs.Windows.{IsSound, Window, empty_window, first_of, window_plan}
use Rattle.plan_window.specs.declared.window.ReadAt.{ReadAt}

-- The READs of a whole read: the session's facts, the file's handle, the place of the next READ, and the window of
-- READs.
pub record ReadsValue : Type 0 where
  pub facts : Facts
  pub handle : List ℕ
  pub place : ℕ
  pub window : Window

-- No READs yet, after an OPEN at place 1.
abbrev pub no_reads : Facts → List ℕ → ReadsValue
no_reads facts handle = record { facts = facts; handle = handle; place = 2; window = empty_window }

-- ---- READs that were asked

-- The replies that the window has: the HANDLE at place 1, and after it those to its READs.
abbrev pub replies_of_window : List ℕ → Window → Answers
replies_of_window handle w place = slice_get (reply.Handle handle ∷ map (λ a. a.reply) w.answered) (place - 1)

-- A lane without slots, with an empty working directory.
abbrev pub anywhere : Site
anywhere = record { slots = []; directory = [] }

-- The whole read of the empty path.
abbrev pub any_read : Facts → Plan
any_read facts = fs_read_next [] None anywhere facts

-- The READs have consecutive places from this one on.
abbrev pub AreNumbered : ℕ → List ReadAt → Type 0
AreNumbered place [] = Unit {0}
AreNumbered place (r ∷ rest) = (r.place ≡ place) × AreNumbered (place + 1) rest

-- The places of the requests are below this one.
abbrev pub AreBelow : ℕ → Own → Type 0
AreBelow place [] = Unit {0}
AreBelow place (asked ∷ past) = (1 ≤ asked.0) × (asked.0 < place) × AreBelow place past

-- Each request that was asked at this place is this one.
abbrev pub IsOnlyAt : ℕ → Request → Own → Type 0
IsOnlyAt place r [] = Unit {0}
IsOnlyAt place r (asked ∷ past) = (asked.0 ≡ place → asked.1 ≡ r) × IsOnlyAt place r past

-- This holds at the place of each READ.
abbrev pub AreThere : List ℕ → List ReadAt → Own → Type 0
AreThere handle [] past = Unit {0}
AreThere handle (r ∷ rest) past = IsOnlyAt r.place (request.Read handle r.offset r.len) past
    × AreThere handle rest past

-- Some requests were asked by the plan of a whole read, and the window says what is left of it.
pub record AreRead (s : ReadsValue) : Type 0 where
  pub fits : FitsFacts s.facts
  pub sound : IsSound s.window
  pub few : s.place ≤ 2 ^ 43
  pub count : length s.window.answered + length s.window.waiting + 2 ≡ s.place
  pub numbered : AreNumbered (length s.window.answered + 2) s.window.waiting
  pub past : Own
  pub asked : AreAsked (any_read s.facts) past (replies_of_window s.handle s.window)
  pub answered : MayBeAnswered past (replies_of_window s.handle s.window)
  pub below : AreBelow s.place past
  pub there : AreThere s.handle s.window.waiting past
  pub made : length past + 1 ≡ s.place
  pub goes : (later : Own) (answers : Answers) → ExtendsAnswers (replies_of_window s.handle s.window) answers
      → any_read s.facts (oldest_first past ++ later) answers
      ≡ window_plan s.handle None s.window anywhere s.facts later answers

-- ---- Effects of a reply

-- The error of a reply that refuses a READ.
abbrev pub refusal_of : Reply → Error
refusal_of (reply.Status code message language) = error.SftpError code message language
refusal_of other = error.InvalidResponse None

-- The plan ends with this error if this is the reply to the first READ under way.
abbrev pub EndsBy : ReadsValue → Reply → Error → Type 0
EndsBy s y e = (r : ReadAt) (site : Site) (later : Own) (answers : Answers) → first_of s.window.waiting ≡ Some r
    → answers r.place ≡ Some y
    → window_plan s.handle None s.window site s.facts later answers ≡ Done (outcome.Refused e) site

-- The error with which a reply ends the read.
abbrev pub IsWhyOver : ReadsValue → Reply → Error → Type 0
IsWhyOver s y e = (e ≡ refusal_of y) × EndsBy s y e
