-- Worked journals of `close`, and turns with few requests that may stay unsent, each beside a near miss.
use Rattle.std.specs.Prelude.{ℕ, ◌-◌, ◌≡◌, Bool, ◌∷◌, List, [], codes, drop, true, refl}
use Rattle.std.proofs.Common.{arith, inl}
use Rattle.ssh_encoding.specs.Writing.{uint32, string}
use Rattle.sftp_model.specs.declared.outcome.Outcome.TheVariants as outcome
use Rattle.sftp_model.specs.declared.error.Error.TheVariants as error
use Rattle.sftp_model.specs.declared.request.Request.TheVariants as request
use Rattle.sftp_model.specs.Frames.{request_body, attributes}
use Rattle.sftp_model.specs.ReplyReadings.{limits_at}
use Rattle.plan_model.specs.declared.call.Call.TheVariants as call
use Rattle.session_model.specs.declared.entry.Entry.{Entry}
use Rattle.session_model.specs.declared.entry.Entry.TheVariants as entry
use Rattle.session_model.specs.declared.turn.Turn.TheVariants as turn
use Rattle.session_model.specs.Calls.{Setting}
use Rattle.session_model.specs.Journals.{IsJournal, IsNext, IsOver}
use Rattle.session_model.specs.Turns.{RunProgress, none_begun, begun_with}
use Rattle.session_model.specs.Runs.{IsRun, TurnsTo, at_first}
use Rattle.session_model.specs.RowWords.{
  to_read,
  setting_with,
  submit,
  send,
  take,
  end,
  cancel,
  close,
  open_of,
  refusal,
  granted,
  handle,
}
use Rattle.session_model.specs.EntryRows.{no_limits, told_limits}
use Rattle.session_model.specs.SlotRows.{two_lanes}
use Rattle.session_model.specs.RunRows.{zero_begun}

-- ---- A `close` gives up its slot in any case

abbrev pub closes : Setting
closes = setting_with ((call.OpenFile 0 to_read (codes "a") ∷ call.Close 0 ∷ call.Close 0 ∷ []) ∷ [])

abbrev pub closing : List Entry
closing =
    submit 0 1 0 (request.Close (handle 7))
    ∷ end 0 0 outcome.Opened
    ∷ take 0 (granted 7)
    ∷ send
    ∷ submit 0 0 0 (open_of (codes "a"))
    ∷ []

pub closing_is : IsJournal closes closing
unfolding request_body attributes string uint32
closing_is = (
  (refl, refl, (omega arith, refl), refl, refl),
  (
    (refl, (_, refl), refl),
    (
      ((0, ((refl, omega arith, refl), (refl, refl))), refl),
      (
        omega arith,
        (
          (refl, refl, (omega arith, refl), refl, refl),
          tt,
        ),
      ),
    ),
  ),
)

-- It is cancelled: its status comes later, and no other CLOSE is sent.
abbrev pub close_cancelled : List Entry
close_cancelled =
    take 0 (refusal 4)
    ∷ send
    ∷ entry.LetGo 0
    ∷ end 0 2 outcome.NoFile
    ∷ end 0 1 outcome.Cancelled
    ∷ cancel 0
    ∷ closing

pub close_cancelled_is : IsJournal closes close_cancelled
unfolding request_body attributes string uint32
close_cancelled_is = (
  ((1, ((refl, omega arith, refl), (refl, refl))), refl),
  (
    omega arith,
    (
      (omega arith, refl, refl),
      (
        (refl, (_, refl), refl),
        (
          refl,
          (
            ((λ e. absurd cc), refl, refl),
            closing_is,
          ),
        ),
      ),
    ),
  ),
)

pub close_cancelled_is_over : IsOver closes close_cancelled
close_cancelled_is_over = ((λ lane lt. let is : lane ≡ 0 = omega arith in rw is refl), refl, refl)

-- The server refuses it.
abbrev pub close_refused : List Entry
close_refused =
    entry.LetGo 0
    ∷ end 0 2 outcome.NoFile
    ∷ end 0 1 (outcome.Refused (error.SftpError 4 [] []))
    ∷ take 0 (refusal 4)
    ∷ send
    ∷ closing

pub close_refused_is : IsJournal closes close_refused
unfolding request_body attributes string uint32
close_refused_is = (
  (omega arith, refl, refl),
  (
    (refl, (_, refl), refl),
    (
      (refl, (_, refl), refl),
      (
        ((1, ((refl, omega arith, refl), (refl, refl))), refl),
        (
          omega arith,
          closing_is,
        ),
      ),
    ),
  ),
)

pub close_refused_is_over : IsOver closes close_refused
close_refused_is_over = ((λ lane lt. let is : lane ≡ 0 = omega arith in rw is refl), refl, refl)

-- The next call finds no file, and can't close again.
pub close_again : IsNext closes (end 0 1 outcome.Cancelled ∷ cancel 0 ∷ closing)
    (submit 0 2 1 (request.Close (handle 7))) → ⊥
unfolding request_body attributes string uint32
close_again = λ h. let e = h.1 in absurd cc

pub close_by_session : IsNext closes (end 0 1 outcome.Cancelled ∷ cancel 0 ∷ closing) (close 1 (handle 7)) → ⊥
unfolding request_body attributes string uint32
close_by_session = λ h. h

-- ---- At most one request may stay unsent

abbrev pub hasty : Setting
hasty = record two_lanes { max_pending = 1 }

abbrev pub hasty_over : List Entry
hasty_over = send ∷ submit 1 0 1 (open_of (codes "b")) ∷ submit 0 0 0 (open_of (codes "a")) ∷ []

abbrev pub hasty_at : ℕ → (ℕ → Bool) → RunProgress
hasty_at n begun = record { past = drop (3 - n) hasty_over; begun = begun }

-- The second step sends both.
pub two_steps_send : TurnsTo hasty (turn.Step 0 ∷ turn.Step 1 ∷ turn.Flush ∷ []) (hasty_at 0 none_begun)
    (hasty_at 3 (begun_with zero_begun 1))
unfolding request_body attributes string uint32
two_steps_send = (
  hasty_at 1 zero_begun,
  (
    (refl, (0, ((omega arith, refl), ((hasty_at 1 none_begun).past, ((inl refl, refl), refl))))),
    (
      hasty_at 3 (begun_with zero_begun 1),
      (
        (refl, (1, ((omega arith, refl), ((hasty_at 2 none_begun).past, ((inl refl, refl), refl))))),
        (hasty_at 3 (begun_with zero_begun 1), (refl, refl)),
      ),
    ),
  ),
)

-- ---- A run that starts with the query for limits

abbrev pub asks : Setting
asks = record (setting_with ([] ∷ [])) { limits = true }

pub run_of_limits : IsRun asks [] (entry.LetGo 0 ∷ told_limits)
unfolding limits_at
run_of_limits =
    let last : RunProgress = record { past = entry.LetGo 0 ∷ told_limits; begun = none_begun } in (
      record {
        opened = told_limits;
        turned = at_first told_limits;
        ended = at_first told_limits;
        let_go = last;
        drained = last;
      },
      (
        record {
          opens = (0, (no_limits, ((omega arith, refl), (0, ((refl, omega arith, refl), (refl, refl))), refl)));
          turns = refl;
          ends = (at_first told_limits, (refl, (0, refl), refl));
          lets_go = (at_first told_limits, (refl, (refl, (entry.LetGo 0 ∷ told_limits, ((inl refl, refl), refl)))));
          drains = (0, refl);
          answered = refl;
        },
        refl,
      ),
    )
