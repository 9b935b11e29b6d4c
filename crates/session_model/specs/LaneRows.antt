-- Worked journals of refused opens and of cancels, each beside a near miss.
use Rattle.std.specs.Prelude.{◌≡◌, ◌∷◌, List, [], codes, Some, refl}
use Rattle.std.proofs.Common.{arith}
use Rattle.ssh_encoding.specs.Writing.{uint32, string}
use Rattle.sftp_model.specs.declared.outcome.Outcome.TheVariants as outcome
use Rattle.sftp_model.specs.declared.error.Error.TheVariants as error
use Rattle.sftp_model.specs.Frames.{request_body, attributes}
use Rattle.plan_model.specs.declared.call.Call.TheVariants as call
use Rattle.session_model.specs.declared.entry.Entry.{Entry}
use Rattle.session_model.specs.declared.entry.Entry.TheVariants as entry
use Rattle.session_model.specs.Calls.{Setting}
use Rattle.session_model.specs.Grants.{next_due}
use Rattle.session_model.specs.Journals.{IsJournal, IsNext, IsOver}
use Rattle.session_model.specs.RowWords.{
  refusal,
  to_read,
  setting_with,
  submit,
  send,
  take,
  end,
  cancel,
  close,
  open_of,
  ok,
  refusal,
  handle,
  granted,
}

-- ---- A file that doesn't exist

abbrev pub missing : Setting
missing = setting_with ((call.OpenFile 0 to_read (codes "b") ∷ call.Read 0 1 ∷ []) ∷ [])

abbrev pub was_refused : List Entry
was_refused =
    entry.LetGo 0
    ∷ end 0 1 outcome.NoFile
    ∷ end 0 0 (outcome.Refused (error.SftpError 2 [] []))
    ∷ take 0 (refusal 2)
    ∷ send
    ∷ submit 0 0 0 (open_of (codes "b"))
    ∷ []

pub was_refused_is : IsJournal missing was_refused
unfolding request_body attributes string uint32
was_refused_is = (
  (omega arith, refl, refl),
  (
    (refl, (_, refl), refl),
    (
      (refl, (_, refl), refl),
      (
        ((0, ((refl, omega arith, refl), (refl, refl))), refl),
        (
          omega arith,
          (
            (refl, refl, (omega arith, refl), refl, refl),
            tt,
          ),
        ),
      ),
    ),
  ),
)

pub was_refused_is_over : IsOver missing was_refused
was_refused_is_over = ((λ lane lt. let is : lane ≡ 0 = omega arith in rw is refl), refl, refl)

-- ---- An open is cancelled

abbrev pub opens : Setting
opens = setting_with ((call.OpenFile 0 to_read (codes "a") ∷ []) ∷ [])

abbrev pub cancelled : List Entry
cancelled =
    end 0 0 outcome.Cancelled
    ∷ cancel 0
    ∷ send
    ∷ submit 0 0 0 (open_of (codes "a"))
    ∷ []

pub cancelled_is : IsJournal opens cancelled
unfolding request_body attributes string uint32
cancelled_is = (
  refl,
  (
    ((λ e. absurd cc), refl, refl),
    (
      omega arith,
      (
        (refl, refl, (omega arith, refl), refl, refl),
        tt,
      ),
    ),
  ),
)

-- Its HANDLE comes later, and is closed.
abbrev pub cancelled_late : List Entry
cancelled_late =
    entry.LetGo 0
    ∷ take 0 ok
    ∷ send
    ∷ close 0 (handle 7)
    ∷ take 0 (granted 7)
    ∷ cancelled

pub cancelled_late_is : IsJournal opens cancelled_late
unfolding request_body attributes string uint32
cancelled_late_is = (
  (omega arith, refl, refl),
  (
    ((1, ((refl, omega arith, refl), (refl, refl))), refl),
    (
      omega arith,
      (
        (0, ((omega arith, refl), refl)),
        (
          ((0, ((refl, omega arith, refl), (refl, refl))), refl),
          cancelled_is,
        ),
      ),
    ),
  ),
)

-- Its HANDLE has come.
abbrev pub cancelled_answered : List Entry
cancelled_answered =
    entry.LetGo 0
    ∷ take 0 ok
    ∷ send
    ∷ close 0 (handle 7)
    ∷ end 0 0 outcome.Cancelled
    ∷ cancel 0
    ∷ take 0 (granted 7)
    ∷ send
    ∷ submit 0 0 0 (open_of (codes "a"))
    ∷ []

pub cancelled_answered_is : IsJournal opens cancelled_answered
unfolding request_body attributes string uint32
cancelled_answered_is = (
  (omega arith, refl, refl),
  (
    ((1, ((refl, omega arith, refl), (refl, refl))), refl),
    (
      omega arith,
      (
        (0, ((omega arith, refl), refl)),
        (
          refl,
          (
            ((λ e. absurd cc), refl, refl),
            (
              ((0, ((refl, omega arith, refl), (refl, refl))), refl),
              (
                omega arith,
                (
                  (refl, refl, (omega arith, refl), refl, refl),
                  tt,
                ),
              ),
            ),
          ),
        ),
      ),
    ),
  ),
)

abbrev pub cancelled_open : List Entry
cancelled_open = end 0 0 outcome.Cancelled ∷ cancel 0 ∷ take 0 (granted 7) ∷ send ∷ submit 0 0 0 (open_of (codes "a")) ∷
    []

pub cancelled_is_due : next_due opens cancelled_open ≡ Some 0
unfolding request_body attributes string uint32
cancelled_is_due = refl

-- The CLOSE is missing, is another, comes under an id that is in use, or comes twice.
pub close_missing : IsNext opens (cancelled_open) (entry.LetGo 0) → ⊥
unfolding request_body attributes string uint32
close_missing = λ h. let e = h.1.1 in absurd cc

pub close_missing_at_the_end : IsNext opens (entry.LetGo 0 ∷ end 0 0 outcome.Opened ∷ take 0 (granted 7) ∷ send ∷ submit
    0 0 0 (open_of (codes "a")) ∷ []) (send) → ⊥
unfolding request_body attributes string uint32
close_missing_at_the_end = λ h. let e = h.1.1 in absurd cc

pub close_of_another : IsNext opens (cancelled_open) (close 0 (handle 8)) → ⊥
unfolding request_body attributes string uint32
close_of_another = λ h. let e = h.1.1 in absurd cc

pub close_twice : IsNext opens (close 0 (handle 7) ∷ cancelled_open) (close 1 (handle 7)) → ⊥
unfolding request_body attributes string uint32
close_twice = λ h. h

-- After a Cancel comes only its End.
pub cancel_without_end : IsNext opens (cancel 0 ∷ send ∷ submit 0 0 0 (open_of (codes "a")) ∷ []) (take 0 (granted 7))
    → ⊥
unfolding request_body attributes string uint32
cancel_without_end = λ h. absurd cc

pub cancelled_by_plan : IsNext opens (cancel 0 ∷ take 0 (granted 7) ∷ send ∷ submit 0 0 0 (open_of (codes "a")) ∷ [])
    (end 0 0 outcome.Opened) → ⊥
unfolding request_body attributes string uint32
cancelled_by_plan = λ h. absurd cc

-- A call that made no request and waits for none, and one that has ended.
pub unbegun_cancel : IsNext opens ([]) (cancel 0) → ⊥
unfolding request_body attributes string uint32
unbegun_cancel = λ h. let e = h.1 in absurd cc

pub late_cancel : IsNext opens (cancelled) (cancel 0) → ⊥
unfolding request_body attributes string uint32
late_cancel = λ h. absurd (h.0 refl)

-- A call that was cancelled can no longer use a reply.
pub end_after_cancel : IsNext opens (take 0 (refusal 2) ∷ cancelled)
    (end 0 0 (outcome.Refused (error.SftpError 2 [] []))) → ⊥
unfolding request_body attributes string uint32
end_after_cancel = λ h. let e = h.0 in absurd cc
