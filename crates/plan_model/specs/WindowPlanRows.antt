-- Worked examples of whole reads, with one READ at once and with several, each beside a case that nearly is one.
use Rattle.std.specs.Prelude.{ℕ, ◌≡◌, List, [], ◌∷◌, ◌++◌, codes, refl}
use Rattle.ssh_encoding.specs.Writing.{uint32, string}
use Rattle.sftp_model.specs.declared.reply.Reply.{Reply}
use Rattle.sftp_model.specs.declared.reply.Reply.TheVariants as reply
use Rattle.sftp_model.specs.declared.request.Request.{Request}
use Rattle.sftp_model.specs.declared.request.Request.TheVariants as request
use Rattle.sftp_model.specs.declared.outcome.Outcome.TheVariants as outcome
use Rattle.sftp_model.specs.declared.slot.Facts.{Facts}
use Rattle.sftp_model.specs.declared.slot.Move.{Move}
use Rattle.sftp_model.specs.declared.slot.Move.TheVariants.{Ask, Wait, Done}
use Rattle.sftp_model.specs.Frames.{no_attributes, attributes, request_body}
use Rattle.sftp_model.specs.Slots.{fresh_site}
use Rattle.plan_model.specs.Moves.{Own}
use Rattle.plan_model.specs.declared.call.Call.TheVariants as call
use Rattle.plan_model.specs.CallPlans.{site_after_cancel, next}
use Rattle.sftp_model.specs.Answers.{status}
use Rattle.plan_model.specs.PlanWords.{known, handle, granted, at, read_at, facts, refused_with}

abbrev pub got : List ℕ → Reply
got bytes = reply.Content bytes

abbrev pub opened : ℕ × Request
opened = (0, request.OpenFile (codes "a") (record { 0 = 1 }) no_attributes)

-- Reads of 2 bytes, one at once or three.
abbrev one : Facts
one = facts 0 2 2 4 1

abbrev pub three : Facts
three = facts 0 2 2 4 3

-- The state after the OPEN: the READs so far, and the replies by places.
abbrev reading : Facts → ℕ → Own → List (ℕ × Reply) → Move
reading f bound reads taken = next (call.FsRead (codes "a") bound) fresh_site f (opened ∷ reads)
    (known ((0, granted) ∷ taken))

abbrev asks : ℕ → ℕ → Move
asks offset len = Ask (request.Read handle offset len)

pub opens : next (call.FsRead (codes "a") 6) fresh_site one [] (known []) ≡ Ask opened.1
unfolding request_body string uint32 attributes
opens = refl

pub open_refused : next (call.FsRead (codes "a") 6) fresh_site one (opened ∷ []) (known ((0, status 2) ∷ []))
    ≡ Done (refused_with 2) fresh_site
open_refused = refl

-- ---- One READ at once: at the bytes received so far

abbrev five_reads : Own
five_reads = read_at 1 0 2 ∷ read_at 2 1 2 ∷ read_at 3 2 2 ∷ read_at 4 3 2 ∷ read_at 5 4 2 ∷ []

abbrev hello : List (ℕ × Reply)
hello = (1, got (codes "h")) ∷ (2, got (codes "e")) ∷ (3, got (codes "l")) ∷ (4, got (codes "l")) ∷ (5, got (codes "o"))
    ∷ []

pub one_begins : reading one 6 [] [] ≡ asks 0 2
one_begins = refl

pub one_waits : reading one 6 (read_at 1 0 2 ∷ []) [] ≡ Wait 1
one_waits = refl

-- After a short DATA, at the bytes that came.
pub one_goes_on : reading one 6 (read_at 1 0 2 ∷ []) ((1, got (codes "h")) ∷ []) ≡ asks 1 2
one_goes_on = refl

pub one_asks_sixth : reading one 6 five_reads hello ≡ asks 5 2
one_asks_sixth = refl

pub one_done : reading one 6 (five_reads ++ read_at 6 5 2 ∷ []) ((6, status 1) ∷ hello)
    ≡ Done (outcome.Bytes (codes "hello")) fresh_site
one_done = refl

-- Five reads were answered by DATA, and no further one is asked.
pub one_given_up : reading one 5 five_reads hello ≡ Done outcome.GivenUp fresh_site
one_given_up = refl

pub one_refused : reading one 6 (read_at 1 0 2 ∷ []) ((1, status 4) ∷ []) ≡ Done (refused_with 4) fresh_site
one_refused = refl

-- An empty file.
pub one_empty : reading one 1 (read_at 1 0 2 ∷ []) ((1, status 1) ∷ []) ≡ Done (outcome.Bytes []) fresh_site
one_empty = refl

-- ---- Three at once, of a file of five bytes

abbrev first_three : Own
first_three = read_at 1 0 2 ∷ read_at 2 2 2 ∷ read_at 3 4 2 ∷ []

pub three_asks_second : reading three 9 (read_at 1 0 2 ∷ []) [] ≡ asks 2 2
three_asks_second = refl

pub three_asks_third : reading three 9 (read_at 1 0 2 ∷ read_at 2 2 2 ∷ []) [] ≡ asks 4 2
three_asks_third = refl

-- The window is full.
pub three_waits : reading three 9 first_three [] ≡ Wait 1
three_waits = refl

-- A reply after the prefix frees no place.
pub three_waits_first : reading three 9 first_three ((2, got (codes "cd")) ∷ []) ≡ Wait 1
three_waits_first = refl

abbrev abcde : List (ℕ × Reply)
abcde = (1, got (codes "ab")) ∷ (2, got (codes "cd")) ∷ (3, got (codes "e")) ∷ []

-- The short DATA ends at 5, where no READ begins.
pub three_asks_end : reading three 9 first_three abcde ≡ asks 5 2
three_asks_end = refl

pub three_waits_end : reading three 9 (first_three ++ read_at 4 5 2 ∷ []) abcde ≡ asks 7 2
three_waits_end = refl

pub three_done : reading three 9 (first_three ++ read_at 4 5 2 ∷ []) ((4, status 1) ∷ abcde)
    ≡ Done (outcome.Bytes (codes "abcde")) fresh_site
three_done = refl

-- ---- A short DATA before others: the gap is asked for, and never filled by the bytes after it

abbrev short : List (ℕ × Reply)
short = (1, got (codes "a")) ∷ []

pub gap_asked : reading three 9 first_three short ≡ asks 1 1
gap_asked = refl

-- The gap is asked for before the bytes after all READs.
pub gap_first : reading three 9 first_three ((2, got (codes "cd")) ∷ short) ≡ asks 1 1
gap_first = refl

abbrev with_gap : Own
with_gap = first_three ++ read_at 4 1 1 ∷ []

-- A known end does not end the call while a gap is open.
pub gap_open : reading three 9 first_three ((2, got (codes "cd")) ∷ (3, status 1) ∷ short) ≡ asks 1 1
gap_open = refl

pub gap_waits : reading three 9 with_gap ((2, got (codes "cd")) ∷ (3, status 1) ∷ short) ≡ Wait 4
gap_waits = refl

-- The bytes are joined in the order of offsets, not of places.
pub gap_filled : reading three 9 with_gap ((2, got (codes "cd")) ∷ (3, status 1) ∷ (4, got (codes "b")) ∷ short)
    ≡ Done (outcome.Bytes (codes "abcd")) fresh_site
gap_filled = refl

-- The gap is the end: the bytes read after it are left out.
pub gap_is_end : reading three 9 with_gap ((2, got (codes "cd")) ∷ (3, status 1) ∷ (4, status 1) ∷ short)
    ≡ Done (outcome.Bytes (codes "a")) fresh_site
gap_is_end = refl

-- The first refusal of the prefix, by place; one outside the prefix is not seen.
pub refused_first : reading three 9 first_three ((1, got (codes "ab")) ∷ (2, status 3) ∷ (3, status 4) ∷ [])
    ≡ Done (refused_with 3) fresh_site
refused_first = refl

pub refusal_outside : reading three 9 first_three ((2, status 3) ∷ []) ≡ Wait 1
refusal_outside = refl

-- An end outside the prefix is not seen either, and the bound is on the prefix alone.
pub bound_on_prefix : reading three 1 first_three ((2, got (codes "cd")) ∷ []) ≡ Wait 1
bound_on_prefix = refl

pub bound_reached : reading three 1 first_three ((1, got (codes "ab")) ∷ []) ≡ Done outcome.GivenUp fresh_site
bound_reached = refl

-- If the end is known, nothing is asked after it.
pub end_known : reading three 9 (read_at 1 0 2 ∷ read_at 2 2 2 ∷ read_at 3 4 2 ∷ []) ((1, status 1) ∷ []) ≡ Wait 2
end_known = refl

pub fs_read_cancelled : site_after_cancel (call.FsRead (codes "a") 9) (at 5) three (opened ∷ first_three)
    (known ((0, granted) ∷ [])) ≡ at 5
fs_read_cancelled = refl
