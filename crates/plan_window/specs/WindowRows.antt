-- Worked windows, of reads of 2 bytes with two in flight and a bound of 2 DATA, and their next moves.
use Rattle.std.specs.Prelude.{ℕ, ◌≡◌, List, Some, codes, refl}
use Rattle.sftp_model.specs.declared.reply.Reply.{Reply}
use Rattle.sftp_model.specs.declared.reply.Reply.TheVariants as reply
use Rattle.sftp_model.specs.declared.request.Request.TheVariants as request
use Rattle.sftp_model.specs.declared.outcome.Outcome.TheVariants as outcome
use Rattle.sftp_model.specs.declared.slot.Facts.{Facts}
use Rattle.sftp_model.specs.declared.slot.Move.{Move}
use Rattle.sftp_model.specs.declared.slot.Move.TheVariants.{Ask, Wait, Done}
use Rattle.sftp_model.specs.Answers.{status}
use Rattle.sftp_model.specs.Slots.{fresh_site}
use Rattle.plan_model.specs.PlanWords.{facts, handle}
use Rattle.plan_window.specs.declared.window.ReadAt.{ReadAt}
use Rattle.plan_window.specs.Windows.{Window, answered_more, asked_more, empty_window, window_move}

abbrev pub two : Facts
two = facts 0 2 2 4 2

abbrev pub read_of : ℕ → ℕ → ℕ → ReadAt
read_of place offset len = record { place = place; offset = offset; len = len }

abbrev pub brings : List ℕ → Reply
brings bytes = reply.Content bytes

abbrev next : Window → Move
next w = window_move handle (Some 2) w fresh_site two

-- A READ is asked at the reach.
pub begins : next empty_window ≡ Ask (request.Read handle 0 2)
begins = refl

-- READs at 0 and 2, of which the first is awaited.
abbrev pub both : Window
both = asked_more (asked_more empty_window (read_of 1 0 2)) (read_of 2 2 2)

pub waits : next both ≡ Wait 1
waits = refl

-- One byte of two came: the other one is asked for.
abbrev pub short : Window
short = answered_more both (brings (codes "a"))

pub fills : next short ≡ Ask (request.Read handle 1 1)
fills = refl

-- The bound on DATA is reached.
abbrev pub full : Window
full = answered_more (answered_more both (brings (codes "ab"))) (brings (codes "cd"))

pub gives_up : next full ≡ Done outcome.GivenUp fresh_site
gives_up = refl

-- The end came before the missing byte.
abbrev pub ended : Window
ended = answered_more (answered_more (asked_more short (read_of 3 1 1)) (status 1)) (brings (codes "b"))

pub is_whole : next ended ≡ Done (outcome.Bytes (codes "ab")) fresh_site
is_whole = refl

-- If the byte were missing, it would be awaited.
pub is_not_whole : next (answered_more (asked_more short (read_of 3 1 1)) (status 1)) ≡ Wait 3
is_not_whole = refl
