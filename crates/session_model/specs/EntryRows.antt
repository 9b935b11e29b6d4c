-- Worked journals of limits, added calls and recorded faults, each beside a near miss.
use Rattle.std.specs.Prelude.{◌≡◌, ◌<◌, ◌∷◌, List, [], codes, replicate, true, false, Some, refl}
use Rattle.std.proofs.Common.{arith, sym}
use Rattle.ssh_encoding.specs.Writing.{uint32, string}
use Rattle.sftp_model.specs.declared.outcome.Outcome.TheVariants as outcome
use Rattle.sftp_model.specs.declared.error.Fault.TheVariants as fault
use Rattle.sftp_model.specs.declared.request.Request.TheVariants as request
use Rattle.sftp_model.specs.declared.reply.Reply.TheVariants as reply
use Rattle.sftp_model.specs.Frames.{request_body, attributes}
use Rattle.plan_model.specs.declared.call.Call.TheVariants as call
use Rattle.session_model.specs.declared.entry.Entry.{Entry}
use Rattle.session_model.specs.declared.entry.Entry.TheVariants as entry
use Rattle.sftp_model.specs.ReplyReadings.{limits_at}
use Rattle.sftp_model.specs.declared.reply.Reply.{Reply}
use Rattle.session_model.specs.declared.event.Owner.TheVariants as owner
use Rattle.session_model.specs.declared.event.Event.TheVariants.{Submit}
use Rattle.session_model.specs.Calls.{Setting, has_waited}
use Rattle.session_model.specs.Journals.{IsJournal, IsNext}
use Rattle.session_model.specs.LaneRows.{opens}
use Rattle.session_model.specs.RowWords.{
  refusal,
  to_read,
  setting_with,
  submit,
  send,
  take,
  end,
  cancel,
  open_of,
  refusal,
  handle,
  granted,
}

-- ---- Limits

-- One lane that opens a file, at a server that offers to report its limits.
abbrev pub limited : Setting
limited = record (setting_with ((call.OpenFile 0 to_read (codes "a") ∷ []) ∷ [])) { limits = true }

abbrev pub ask_limits : Entry
ask_limits = entry.Event (Submit owner.Setup 0 request.LimitsQuery)

-- Four numbers, each 0.
abbrev pub no_limits : Reply
no_limits = reply.Extended (replicate 32 0)

abbrev pub asked_limits : List Entry
asked_limits = send ∷ ask_limits ∷ []

pub asked_limits_is : IsJournal limited asked_limits
asked_limits_is = (omega arith, ((refl, refl, refl, (omega arith, refl)), tt))

abbrev pub told_limits : List Entry
told_limits = take 0 no_limits ∷ asked_limits

pub told_limits_is : IsJournal limited told_limits
unfolding limits_at
told_limits_is = (((0, ((refl, omega arith, refl), (refl, refl))), refl), asked_limits_is)

abbrev pub opened_behind_limits : List Entry
opened_behind_limits =
    send
    ∷ submit 0 0 0 (open_of (codes "a"))
    ∷ told_limits

pub opened_behind_limits_is : IsJournal limited opened_behind_limits
unfolding request_body attributes string uint32
opened_behind_limits_is = (
  omega arith,
  (
    (refl, refl, (omega arith, refl), refl, refl),
    told_limits_is,
  ),
)

-- A call's request comes before the limits were asked for, and before they were reported.
pub before_limits : IsNext limited ([]) (submit 0 0 0 (open_of (codes "a"))) → ⊥
unfolding request_body attributes string uint32
before_limits = λ h. let e = h.3 in absurd cc

pub before_limits_came : IsNext limited (asked_limits) (submit 0 0 1 (open_of (codes "a"))) → ⊥
unfolding request_body attributes string uint32
before_limits_came = λ h. let e = h.3 in absurd cc

-- Limits are asked for once, and only if the server offers to report them.
pub limits_again : IsNext limited (told_limits) (ask_limits) → ⊥
unfolding request_body attributes string uint32
limits_again = λ h. let e = h.1 in absurd cc

pub limits_not_offered : IsNext opens ([]) (ask_limits) → ⊥
unfolding request_body attributes string uint32
limits_not_offered = λ h. let e = h.0 in absurd cc

-- A refusal, and numbers that are not four.
pub limits_refused : IsNext limited (asked_limits) (take 0 (refusal 4)) → ⊥
unfolding request_body attributes string uint32
limits_refused = λ h. let e : Some 0 ≡ Some h.0.0 = h.0.1.0.0 in let n : 0 ≡ h.0.0 = cc in let q = h.0.1.1 in
    absurd (let r = rw (sym n) at q in let z = r.1 in cc)

pub limits_too_short : IsNext limited (asked_limits) (take 0 (reply.Extended (replicate 31 0))) → ⊥
unfolding limits_at
limits_too_short = λ h. let e : Some 0 ≡ Some h.0.0 = h.0.1.0.0 in let n : 0 ≡ h.0.0 = cc in let q = h.0.1.1 in
    absurd (let r = rw (sym n) at q in let z = r.1 in cc)

-- ---- Added calls

abbrev pub with_added : List Entry
with_added =
    submit 0 1 0 (request.Close (handle 7))
    ∷ entry.Added 0 (call.Close 0)
    ∷ end 0 0 outcome.Opened
    ∷ take 0 (granted 7)
    ∷ send
    ∷ submit 0 0 0 (open_of (codes "a"))
    ∷ []

pub with_added_is : IsJournal opens with_added
unfolding request_body attributes string uint32
with_added_is = (
  (refl, refl, (omega arith, refl), refl, refl),
  (
    (omega arith, refl, refl),
    (
      (refl, (_, refl), refl),
      (
        ((0, ((refl, omega arith, refl), (refl, refl))), refl),
        (
          omega arith,
          (
            (refl, refl, (omega arith, refl), refl, refl),
            tt,
          ),
        ),
      ),
    ),
  ),
)

-- The lane ends if nothing is added.
pub without_added : IsNext opens (end 0 0 outcome.Opened ∷ take 0 (granted 7) ∷ send ∷ submit 0 0 0
    (open_of (codes "a")) ∷ []) (submit 0 1 0 (request.Close (handle 7))) → ⊥
unfolding request_body attributes string uint32
without_added = λ h. let e = h.1 in absurd cc

-- A lane that was released, and one that doesn't exist.
pub added_late : IsNext (setting_with ([] ∷ [])) (entry.LetGo 0 ∷ []) (entry.Added 0 (call.Close 0)) → ⊥
unfolding request_body attributes string uint32
added_late = λ h. let e = h.1 in absurd cc

pub added_nowhere : IsNext (setting_with ([] ∷ [])) ([]) (entry.Added 1 (call.Close 0)) → ⊥
unfolding request_body attributes string uint32
added_nowhere = λ h. let lt : 1 < 1 = h.0 in absurd (omega arith)

-- A call of a slot that doesn't exist.
pub added_out_of_range : IsNext (setting_with ([] ∷ [])) ([]) (entry.Added 0 (call.Close 16)) → ⊥
unfolding request_body attributes string uint32
added_out_of_range = λ h. let e = h.2 in absurd cc

-- ---- Recorded faults

abbrev pub kept : List Entry
kept =
    entry.LetGo 0
    ∷ end 0 0 outcome.Cancelled
    ∷ cancel 0
    ∷ entry.Kept fault.Link
    ∷ send
    ∷ submit 0 0 0 (open_of (codes "a"))
    ∷ []

pub kept_is : IsJournal opens kept
unfolding request_body attributes string uint32
kept_is = (
  (omega arith, refl, refl),
  (
    refl,
    (
      ((λ e. absurd cc), refl, refl),
      (
        refl,
        (
          omega arith,
          (
            (refl, refl, (omega arith, refl), refl, refl),
            tt,
          ),
        ),
      ),
    ),
  ),
)

-- No second fault, no reply and no call's request comes after a fault.
pub kept_twice : IsNext opens (entry.Kept fault.Link ∷ []) (entry.Kept fault.Ended) → ⊥
unfolding request_body attributes string uint32
kept_twice = λ h. absurd cc

pub taken_late : IsNext opens (entry.Kept fault.Link ∷ send ∷ submit 0 0 0 (open_of (codes "a")) ∷ [])
    (take 0 (granted 7)) → ⊥
unfolding request_body attributes string uint32
taken_late = λ h. let e = h.1 in absurd cc

pub asked_late : IsNext opens (entry.Kept fault.Link ∷ []) (submit 0 0 0 (open_of (codes "a"))) → ⊥
unfolding request_body attributes string uint32
asked_late = λ h. let e = h.4 in absurd cc

-- ---- A call that waits may be cancelled, also after its reply came

pub waits_once : has_waited opens (send ∷ submit 0 0 0 (open_of (codes "a")) ∷ []) 0 ≡ true
unfolding request_body attributes string uint32
waits_once = refl

pub waited_once : has_waited opens (take 0 (granted 7) ∷ send ∷ submit 0 0 0 (open_of (codes "a")) ∷ []) 0 ≡ true
unfolding request_body attributes string uint32
waited_once = refl

-- It may not be cancelled if another call waited.
pub waits_no_more : has_waited opens (end 0 0 outcome.Opened ∷ take 0 (granted 7) ∷ send ∷ submit 0 0 0
    (open_of (codes "a")) ∷ []) 0 ≡ false
unfolding request_body attributes string uint32
waits_no_more = refl
