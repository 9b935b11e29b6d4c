-- Worked journals of one lane, each a run so far, beside a near miss.
use Rattle.std.specs.Prelude.{◌≡◌, ◌<◌, ◌∷◌, List, [], codes, Some, None, refl}
use Rattle.std.proofs.Common.{arith, sym}
use Rattle.ssh_encoding.specs.Writing.{uint32, string}
use Rattle.sftp_model.specs.declared.outcome.Outcome.TheVariants as outcome
use Rattle.sftp_model.specs.declared.request.Request.TheVariants as request
use Rattle.sftp_model.specs.declared.reply.Reply.TheVariants as reply
use Rattle.sftp_model.specs.Frames.{request_body, attributes}
use Rattle.plan_model.specs.declared.call.Call.TheVariants as call
use Rattle.session_model.specs.declared.entry.Entry.{Entry}
use Rattle.session_model.specs.declared.entry.Entry.TheVariants as entry
use Rattle.plan_model.specs.OwnRequests.{IsCallSoFar}
use Rattle.session_model.specs.Readings.{answer, own}
use Rattle.session_model.specs.Calls.{Setting, site_of, GoesByPlan}
use Rattle.session_model.specs.Grants.{closed_grants}
use Rattle.session_model.specs.Journals.{IsJournal, IsNext, IsOver}
use Rattle.session_model.specs.RowWords.{
  to_read,
  setting_with,
  submit,
  send,
  take,
  end,
  close,
  open_of,
  ok,
  handle,
  granted,
}

-- ---- A file is opened, read and closed

abbrev pub s : Setting
s = setting_with ((call.OpenFile 0 to_read (codes "a") ∷ call.Read 0 5 ∷ call.Close 0 ∷ []) ∷ [])

abbrev pub asked_open : List Entry
asked_open =
    submit 0 0 0 (open_of (codes "a"))
    ∷ []

pub asked_open_is : IsJournal s asked_open
unfolding request_body attributes string uint32
asked_open_is = (
  (refl, refl, (omega arith, refl), refl, refl),
  tt,
)

abbrev pub opened : List Entry
opened =
    end 0 0 outcome.Opened
    ∷ take 0 (granted 7)
    ∷ send
    ∷ asked_open

pub opened_is : IsJournal s opened
unfolding request_body attributes string uint32
opened_is = (
  (refl, (_, refl), refl),
  (
    ((0, ((refl, omega arith, refl), (refl, refl))), refl),
    (
      omega arith,
      asked_open_is,
    ),
  ),
)

abbrev pub was_read : List Entry
was_read =
    end 0 1 (outcome.Bytes (codes "hello"))
    ∷ take 1 (reply.Content (codes "hello"))
    ∷ send
    ∷ submit 0 1 1 (request.Read (handle 7) 0 5)
    ∷ opened

pub was_read_is : IsJournal s was_read
unfolding request_body attributes string uint32
was_read_is = (
  (refl, (_, refl), refl),
  (
    ((1, ((refl, omega arith, refl), (refl, refl))), refl),
    (
      omega arith,
      (
        (refl, refl, (omega arith, refl), refl, refl),
        opened_is,
      ),
    ),
  ),
)

-- A call's requests, each with its place; its plan asked them.
pub own_of_read : own was_read 0 1 ≡ (1, request.Read (handle 7) 0 5) ∷ []
own_of_read = refl

pub own_of_other_lane : own was_read 1 1 ≡ []
own_of_other_lane = refl

pub read_goes : GoesByPlan s (submit 0 1 1 (request.Read (handle 7) 0 5) ∷ opened) 0 (call.Read 0 5)
read_goes = record {
  requests = (1, request.Read (handle 7) 0 5) ∷ [];
  are = refl;
  so_far = record { asked = (answer opened, tt, refl, refl, λ place r got. got); answered = (tt, tt) };
}

pub read_of_more : IsCallSoFar (call.Read 0 5) (site_of s opened 0) s.facts ((1, request.Read (handle 7) 0 6) ∷ [])
    (answer opened) → ⊥
read_of_more = λ c. let e = c.asked.2 in absurd cc

abbrev pub asked_close : List Entry
asked_close =
    submit 0 2 0 (request.Close (handle 7))
    ∷ was_read

pub asked_close_is : IsJournal s asked_close
unfolding request_body attributes string uint32
asked_close_is = (
  (refl, refl, (omega arith, refl), refl, refl),
  was_read_is,
)

abbrev pub was_closed : List Entry
was_closed =
    end 0 2 outcome.Done
    ∷ take 0 ok
    ∷ send
    ∷ asked_close

pub was_closed_is : IsJournal s was_closed
unfolding request_body attributes string uint32
was_closed_is = (
  (refl, (_, refl), refl),
  (
    ((2, ((refl, omega arith, refl), (refl, refl))), refl),
    (
      omega arith,
      asked_close_is,
    ),
  ),
)

abbrev pub over : List Entry
over =
    entry.LetGo 0
    ∷ was_closed

pub over_is : IsJournal s over
unfolding request_body attributes string uint32
over_is = (
  (omega arith, refl, refl),
  was_closed_is,
)

pub over_is_over : IsOver s over
over_is_over = ((λ lane lt. let is : lane ≡ 0 = omega arith in rw is refl), refl, refl)

pub over_closed : closed_grants s over ≡ Some 0 ∷ []
over_closed = refl

-- A reply to a request that wasn't sent.
pub unsent_reply : IsNext s (asked_open) (take 0 (granted 7)) → ⊥
unfolding request_body attributes string uint32
unsent_reply = λ h. let lt : h.0.0 < 0 = h.0.1.0.1 in absurd (omega arith)

-- A reply under an id that no request has.
pub unknown_reply : IsNext s (send ∷ asked_open) (take 1 (granted 7)) → ⊥
unfolding request_body attributes string uint32
unknown_reply = λ h. let e : None ≡ Some h.0.0 = h.0.1.0.0 in absurd cc

-- A second reply to one request.
pub second_reply : IsNext s (take 0 (granted 7) ∷ send ∷ asked_open) (take 0 (granted 8)) → ⊥
unfolding request_body attributes string uint32
second_reply = λ h. let e : Some 0 ≡ Some h.0.0 = h.0.1.0.0 in let n : 0 ≡ h.0.0 = cc in let q = h.0.1.0.2 in
    absurd (let r = rw (sym n) at q in cc)

-- A reply that may not answer.
pub wrong_reply : IsNext s (send ∷ asked_open) (take 0 ok) → ⊥
unfolding request_body attributes string uint32
wrong_reply = λ h. let e : Some 0 ≡ Some h.0.0 = h.0.1.0.0 in let n : 0 ≡ h.0.0 = cc in let q = h.0.1.1 in
    absurd (let r = rw (sym n) at q in let z = r.0 in cc)

-- An end with another value, of another call, or before the reply.
pub wrong_end : IsNext s (take 0 (granted 7) ∷ send ∷ asked_open) (end 0 0 outcome.Done) → ⊥
unfolding request_body attributes string uint32
wrong_end = λ h. let e = h.1.1 in absurd cc

pub wrong_call_end : IsNext s (take 0 (granted 7) ∷ send ∷ asked_open) (end 0 1 outcome.Opened) → ⊥
unfolding request_body attributes string uint32
wrong_call_end = λ h. let e = h.0 in absurd cc

pub early_end : IsNext s (send ∷ asked_open) (end 0 0 outcome.Opened) → ⊥
unfolding request_body attributes string uint32
early_end = λ h. let e = h.1.1 in absurd cc

-- The call's next request before its first is answered.
pub early_request : IsNext s (asked_open) (submit 0 0 1 (open_of (codes "a"))) → ⊥
unfolding request_body attributes string uint32
early_request = λ h. let e = h.1 in absurd cc

-- Another request than the call asks.
pub wrong_request : IsNext s (opened) (submit 0 1 1 (request.Read (handle 7) 0 6)) → ⊥
unfolding request_body attributes string uint32
wrong_request = λ h. let e = h.1 in absurd cc

-- Nothing is unsent.
pub empty_send : IsNext s (opened) (send) → ⊥
unfolding request_body attributes string uint32
empty_send = λ h. absurd (omega (arith, h))

-- The lane has a call left.
pub early_letting_go : IsNext s (asked_close) (entry.LetGo 0) → ⊥
unfolding request_body attributes string uint32
early_letting_go = λ h. let e = h.1 in absurd cc

-- A CLOSE twice, by the call and by the session.
pub closed_twice_by_call : IsNext s (asked_close) (submit 0 2 1 (request.Close (handle 7))) → ⊥
unfolding request_body attributes string uint32
closed_twice_by_call = λ h. let e = h.1 in absurd cc

pub closed_twice : IsNext s (asked_close) (close 1 (handle 7)) → ⊥
unfolding request_body attributes string uint32
closed_twice = λ h. h

pub closed_at_the_end : IsNext s (over) (close 1 (handle 7)) → ⊥
unfolding request_body attributes string uint32
closed_at_the_end = λ h. h

-- No lane is released twice, and none that doesn't exist.
pub let_go_twice : IsNext s (over) (entry.LetGo 0) → ⊥
unfolding request_body attributes string uint32
let_go_twice = λ h. let e = h.2 in absurd cc

pub no_such_lane : IsNext s (over) (entry.LetGo 1) → ⊥
unfolding request_body attributes string uint32
no_such_lane = λ h. let lt : 1 < 1 = h.0 in absurd (omega arith)
