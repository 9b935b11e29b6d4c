-- believed, except ended_by
-- The effects of a run of the program on its environment, and its exit status.
use Rattle.std.specs.Prelude.{◌≡◌, ◌⊎◌, ◌&&◌, ◌||◌, ◌*◌, ℕ, zero, suc, nat_le, Bool, true, false, List, [], ◌∷◌, codes, Option, Some, None, if◌then◌else◌}
use Rattle.std.specs.Str.{bytes_eq}
use Rattle.transfer_plan.specs.Jobs.{FactBy}
use Rattle.transfer_args.specs.Links.{LinkWord}
use Rattle.transfer_args.specs.Words.{WorkWords, asked_by, tries_again}
use Rattle.transfer_args.specs.declared.args_error.ArgsError.{ArgsError}
use Rattle.transfer_args.specs.declared.args_error.ArgsError.TheVariants as args_error
use Rattle.sftp_transfer.specs.declared.ended.Reach.{Reach}
use Rattle.sftp_transfer.specs.declared.ended.Reach.TheVariants as reach
use Rattle.sftp_transfer.specs.declared.ended.Text.{Text}
use Rattle.sftp_transfer.specs.declared.ended.Text.TheVariants as text

-- The request of the command line.
abbrev pub TransferRequest : Type 0
TransferRequest = LinkWord × WorkWords

-- An event in the environment. A text was written, or could not be; the command line gave no request, for this reason;
-- the local side let the work start, or did not; the work was done over a link, with this result; or the program
-- paused for this number of seconds.
pub data OutsideAct : Type 0 where
  Wrote : Text → Bool → OutsideAct
  Refused : ArgsError → OutsideAct
  Looked : WorkWords → Bool → OutsideAct
  Went : TransferRequest → Reach → OutsideAct
  Paused : ℕ → OutsideAct

-- ---- Exit statuses

abbrev pub status_of : Reach → ℕ
status_of reach.Done = 0
status_of reach.NotDone = 1
status_of reach.Lost = 7
status_of reach.OutOfMemory = 5
status_of reach.NoLink = 6
status_of reach.NoOutput = 3

-- The result of the jobs. Everything was done only if each source contributed all its jobs and all of these were done.
abbrev pub ended_by : Bool → Bool → Bool → Bool → Reach
ended_by starved lost complete all_done =
    if starved then reach.OutOfMemory
    else if complete && all_done then reach.Done
    else if lost then reach.Lost
    else reach.NotDone

-- ---- The effects of a run

-- The text that a single argument asks for.
abbrev pub text_of : List (List ℕ) → Option Text
text_of [] = None
text_of (word ∷ []) =
    if bytes_eq word (codes "--help") || bytes_eq word (codes "-h") then Some text.Help
    else if bytes_eq word (codes "--version") || bytes_eq word (codes "-V") then Some text.Version
    else None
text_of (word ∷ another ∷ words) = None

-- A text was written, or could not be.
abbrev pub EndsText : {H : Type 0} → (OutsideAct → H → H) → Text → ℕ → H → H → Type 0
EndsText done t status before after = (written : Bool) × (after ≡ done (Wrote t written) before)
    × (status ≡ (if written then 0 else 3))

-- True if another try may succeed: the connection was lost, or no server could be reached.
abbrev pub may_try_again : Reach → Bool
may_try_again reach.Done = false
may_try_again reach.NotDone = false
may_try_again reach.Lost = true
may_try_again reach.OutOfMemory = false
may_try_again reach.NoLink = true
may_try_again reach.NoOutput = false

-- The seconds of the next pause: twice those of the last one, and at most 60.
abbrev pub next_pause : ℕ → ℕ
next_pause seconds = if nat_le seconds 30 then seconds * 2 else 60

-- The work was done over a link. If another try may succeed and `left` is not zero, there was a pause of `pause`
-- seconds, and the work was done again in the same way with one try less.
abbrev pub TriesLink : {H : Type 0} → (OutsideAct → H → H) → TransferRequest → ℕ → ℕ → Reach → H → H → Type 0
TriesLink done asked zero pause end before after = after ≡ done (Went asked end) before
TriesLink done asked (suc left) pause end before after = (one : Reach)
    × FactBy (may_try_again one)
    (TriesLink done asked left (next_pause pause) end (done (Paused pause) (done (Went asked one) before)) after)
    ((end ≡ one) × (after ≡ done (Went asked one) before))

-- The work ran over the link, if the local side let it start.
abbrev pub EndsLooked : {H : Type 0} → (OutsideAct → H → H) → TransferRequest → Bool → ℕ → H → H → Type 0
EndsLooked done asked false status mid after = (after ≡ mid) × (status ≡ 3)
EndsLooked done asked true status mid after = (end : Reach)
    × TriesLink done asked (tries_again (asked.1)) 1 end mid after
    × (status ≡ status_of end)

abbrev pub EndsAsked : {H : Type 0} → (OutsideAct → H → H) → TransferRequest → ℕ → H → H → Type 0
EndsAsked done asked status before after = (may : Bool)
    × EndsLooked done asked may status (done (Looked (asked.1) may) before) after

abbrev pub EndsRead : {H : Type 0} → (OutsideAct → H → H) → Option TransferRequest → ℕ → H → H → Type 0
EndsRead done None status before after = (after ≡ done (Refused args_error.Refused) before) × (status ≡ 2)
EndsRead done (Some asked) status before after = EndsAsked done asked status before after

-- The command line could not be read, because an allocation failed.
abbrev pub EndsUnread : {H : Type 0} → (OutsideAct → H → H) → ℕ → H → H → Type 0
EndsUnread done status before after = (after ≡ done (Refused args_error.OutOfMemory) before) × (status ≡ 5)

abbrev pub EndsBy : {H : Type 0} → (OutsideAct → H → H) → Option Text → List (List ℕ) → ℕ → H → H → Type 0
EndsBy done (Some t) words status before after = EndsText done t status before after
EndsBy done None words status before after = EndsRead done (asked_by words) status before after
    ⊎ EndsUnread done status before after

-- A text is written if the single argument asks for it. Otherwise the command line is refused, or its request is
-- carried out: the local side is checked, and then the link is opened, again if it was lost and tries are left. Nothing
-- else is done, and each status has its one cause.
abbrev pub ProgramEnds : {H : Type 0} → (OutsideAct → H → H) → List (List ℕ) → ℕ → H → H → Type 0
ProgramEnds done words status before after = EndsBy done (text_of words) words status before after
