-- Worked journals of slots that are opened again and released, and of several lanes, each beside a near miss.
use Rattle.std.specs.Prelude.{ℕ, ◌≡◌, ◌∷◌, List, [], codes, true, false, Some, None, refl}
use Rattle.std.proofs.Common.{arith}
use Rattle.ssh_encoding.specs.Writing.{uint32, string}
use Rattle.sftp_model.specs.declared.outcome.Outcome.TheVariants as outcome
use Rattle.sftp_model.specs.declared.request.Request.TheVariants as request
use Rattle.sftp_model.specs.declared.slot.Slot.TheVariants.{Empty, File}
use Rattle.sftp_model.specs.declared.slot.Move.TheVariants.{Ask, Done}
use Rattle.sftp_model.specs.Frames.{request_body, attributes}
use Rattle.plan_model.specs.declared.call.Call.TheVariants as call
use Rattle.session_model.specs.declared.entry.Entry.{Entry}
use Rattle.session_model.specs.declared.entry.Entry.TheVariants as entry
use Rattle.sftp_model.specs.declared.slot.Site.{Site}
use Rattle.sftp_model.specs.Slots.{fresh_site, with_slot}
use Rattle.session_model.specs.Calls.{Setting}
use Rattle.session_model.specs.Grants.{closed_grants, first_let_go}
use Rattle.session_model.specs.Journals.{IsJournal, IsNext}
use Rattle.session_model.specs.JournalRows.{s}
use Rattle.session_model.specs.RowWords.{
  to_read,
  setting_with,
  submit,
  send,
  take,
  end,
  close,
  open_of,
  ok,
  handle,
  granted,
}
use Rattle.plan_model.specs.CallPlans.{next}

-- ---- A slot is opened again, and slots are released in their order

abbrev pub two_opens : ℕ → ℕ → Setting
two_opens first second = setting_with ((call.OpenFile first to_read (codes "a") ∷ call.OpenFile second to_read
    (codes "b") ∷ []) ∷ [])

-- The grant that the slot held is closed when the second open ends.
abbrev pub opened_anew : List Entry
opened_anew =
    take 5 ok
    ∷ send
    ∷ close 5 (handle 8)
    ∷ entry.LetGo 0
    ∷ take 0 ok
    ∷ send
    ∷ close 0 (handle 7)
    ∷ end 0 1 outcome.Opened
    ∷ take 3 (granted 8)
    ∷ send
    ∷ submit 0 1 3 (open_of (codes "b"))
    ∷ end 0 0 outcome.Opened
    ∷ take 0 (granted 7)
    ∷ send
    ∷ submit 0 0 0 (open_of (codes "a"))
    ∷ []

pub opened_anew_is : IsJournal (two_opens 0 0) opened_anew
unfolding request_body attributes string uint32
opened_anew_is = (
  ((3, ((refl, omega arith, refl), (refl, refl))), refl),
  (
    omega arith,
    (
      (5, ((omega arith, refl), refl)),
      (
        (omega arith, refl, refl),
        (
          ((2, ((refl, omega arith, refl), (refl, refl))), refl),
          (
            omega arith,
            (
              (0, ((omega arith, refl), refl)),
              (
                (refl, (_, refl), refl),
                (
                  ((1, ((refl, omega arith, refl), (refl, refl))), refl),
                  (
                    omega arith,
                    (
                      (refl, refl, (omega arith, refl), refl, refl),
                      (
                        (refl, (_, refl), refl),
                        (
                          ((0, ((refl, omega arith, refl), (refl, refl))), refl),
                          (
                            omega arith,
                            (
                              (refl, refl, (omega arith, refl), refl, refl),
                              tt,
                            ),
                          ),
                        ),
                      ),
                    ),
                  ),
                ),
              ),
            ),
          ),
        ),
      ),
    ),
  ),
)

-- The first open went to slot 1 and the second to slot 0: the second grant is closed first.
abbrev pub let_go_by_slots : List Entry
let_go_by_slots =
    take 3 ok
    ∷ take 0 ok
    ∷ send
    ∷ close 0 (handle 7)
    ∷ close 3 (handle 8)
    ∷ entry.LetGo 0
    ∷ end 0 1 outcome.Opened
    ∷ take 3 (granted 8)
    ∷ send
    ∷ submit 0 1 3 (open_of (codes "b"))
    ∷ end 0 0 outcome.Opened
    ∷ take 0 (granted 7)
    ∷ send
    ∷ submit 0 0 0 (open_of (codes "a"))
    ∷ []

pub let_go_by_slots_is : IsJournal (two_opens 1 0) let_go_by_slots
unfolding request_body attributes string uint32
let_go_by_slots_is = (
  ((2, ((refl, omega arith, refl), (refl, refl))), refl),
  (
    ((3, ((refl, omega arith, refl), (refl, refl))), refl),
    (
      omega arith,
      (
        (0, ((omega arith, refl), refl)),
        (
          (3, ((omega arith, refl), refl)),
          (
            (omega arith, refl, refl),
            (
              (refl, (_, refl), refl),
              (
                ((1, ((refl, omega arith, refl), (refl, refl))), refl),
                (
                  omega arith,
                  (
                    (refl, refl, (omega arith, refl), refl, refl),
                    (
                      (refl, (_, refl), refl),
                      (
                        ((0, ((refl, omega arith, refl), (refl, refl))), refl),
                        (
                          omega arith,
                          (
                            (refl, refl, (omega arith, refl), refl, refl),
                            tt,
                          ),
                        ),
                      ),
                    ),
                  ),
                ),
              ),
            ),
          ),
        ),
      ),
    ),
  ),
)

abbrev pub both_open : List Entry
both_open =
    end 0 1 outcome.Opened ∷ take 3 (granted 8) ∷ send ∷ submit 0 1 3 (open_of (codes "b"))
    ∷ end 0 0 outcome.Opened ∷ take 0 (granted 7) ∷ send ∷ submit 0 0 0 (open_of (codes "a")) ∷ []

pub let_go_by_places : IsNext (two_opens 1 0) (entry.LetGo 0 ∷ both_open) (close 0 (handle 7)) → ⊥
unfolding request_body attributes string uint32
let_go_by_places = λ h. let e = h.1.1 in absurd cc

pub let_go_one_missing : IsNext (two_opens 1 0) (close 3 (handle 8) ∷ entry.LetGo 0 ∷ both_open) (send) → ⊥
unfolding request_body attributes string uint32
let_go_one_missing = λ h. let e = h.1.1 in absurd cc

pub let_go_other_order : IsNext (two_opens 0 1) (entry.LetGo 0 ∷ both_open) (close 3 (handle 8)) → ⊥
unfolding request_body attributes string uint32
let_go_other_order = λ h. let e = h.1.1 in absurd cc

pub both_closed : closed_grants (two_opens 1 0) (close 0 (handle 7) ∷ close 3 (handle 8) ∷ entry.LetGo 0 ∷ both_open)
    ≡ Some 0 ∷ Some 1 ∷ []
unfolding request_body attributes string uint32
both_closed = refl

-- ---- Two slots with one grant: only the last of them is closed

abbrev pub shared : Site
shared = with_slot (with_slot fresh_site 0 (File (record { grant = 4; readable = true; writable = false; offset = 0 })))
    1 (File (record { grant = 4; readable = true; writable = false; offset = 9 }))

pub first_close_is_done : next (call.Close 0) shared s.facts [] (λ place. Some (granted 7))
    ≡ Done outcome.Done (with_slot shared 0 Empty)
unfolding request_body attributes string uint32
first_close_is_done = refl

pub second_close_asks : next (call.Close 1) (with_slot shared 0 Empty) s.facts [] (λ place. Some (granted 7))
    ≡ Ask (request.Close (handle 7))
unfolding request_body attributes string uint32
second_close_asks = refl

pub shared_is_let_go_once : first_let_go [] shared.slots ≡ Some 4
unfolding request_body attributes string uint32
shared_is_let_go_once = refl

pub shared_is_closed_once : first_let_go (Some 4 ∷ []) shared.slots ≡ None
unfolding request_body attributes string uint32
shared_is_closed_once = refl

-- ---- Several lanes

abbrev pub two_lanes : Setting
two_lanes = setting_with ((call.OpenFile 0 to_read (codes "a") ∷ []) ∷ (call.OpenFile 0 to_read (codes "b") ∷ []) ∷ [])

abbrev pub both_asked : List Entry
both_asked =
    send
    ∷ submit 1 0 1 (open_of (codes "b"))
    ∷ submit 0 0 0 (open_of (codes "a"))
    ∷ []

pub both_asked_is : IsJournal two_lanes both_asked
unfolding request_body attributes string uint32
both_asked_is = (
  omega arith,
  (
    (refl, refl, (omega arith, refl), refl, refl),
    (
      (refl, refl, (omega arith, refl), refl, refl),
      tt,
    ),
  ),
)

abbrev pub out_of_order : List Entry
out_of_order =
    close 1 (handle 8)
    ∷ entry.LetGo 1
    ∷ close 0 (handle 7)
    ∷ entry.LetGo 0
    ∷ end 0 0 outcome.Opened
    ∷ take 0 (granted 7)
    ∷ end 1 0 outcome.Opened
    ∷ take 1 (granted 8)
    ∷ both_asked

pub out_of_order_is : IsJournal two_lanes out_of_order
unfolding request_body attributes string uint32
out_of_order_is = (
  (1, ((omega arith, refl), refl)),
  (
    (omega arith, refl, refl),
    (
      (0, ((omega arith, refl), refl)),
      (
        (omega arith, refl, refl),
        (
          (refl, (_, refl), refl),
          (
            ((0, ((refl, omega arith, refl), (refl, refl))), refl),
            (
              (refl, (_, refl), refl),
              (
                ((1, ((refl, omega arith, refl), (refl, refl))), refl),
                both_asked_is,
              ),
            ),
          ),
        ),
      ),
    ),
  ),
)

-- An id that an unanswered request has.
pub id_in_use : IsNext two_lanes (submit 0 0 0 (open_of (codes "a")) ∷ []) (submit 1 0 0 (open_of (codes "b"))) → ⊥
unfolding request_body attributes string uint32
id_in_use = λ h. let e = h.2.1 in absurd cc

-- An id that is no uint32.
pub id_too_great : IsNext two_lanes ([]) (submit 0 0 4294967296 (open_of (codes "a"))) → ⊥
unfolding request_body attributes string uint32
id_too_great = λ h. let lt = h.2.0 in absurd (omega (arith, lt))

-- The end of another lane's call.
pub other_lane : IsNext two_lanes (take 0 (granted 7) ∷ both_asked) (end 1 0 outcome.Opened) → ⊥
unfolding request_body attributes string uint32
other_lane = λ h. let e = h.1.1 in absurd cc
