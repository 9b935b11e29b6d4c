-- A worked journal in which a handle is granted twice, beside requests that have the handle of no grant of their lane.
use Rattle.std.specs.Prelude.{◌≡◌, ℕ, List, [], ◌∷◌, codes, drop, Option, Some, None, refl}
use Rattle.std.proofs.Common.{arith}
use Rattle.ssh_encoding.specs.Writing.{string, uint32}
use Rattle.sftp_model.specs.Frames.{attributes, request_body}
use Rattle.sftp_model.specs.declared.outcome.Outcome.TheVariants as outcome
use Rattle.sftp_model.specs.declared.reply.Reply.TheVariants as reply
use Rattle.sftp_model.specs.declared.request.Request.{Request}
use Rattle.sftp_model.specs.declared.request.Request.TheVariants as request
use Rattle.plan_model.specs.declared.call.Call.TheVariants as call
use Rattle.session_model.specs.declared.entry.Entry.{Entry}
use Rattle.session_model.specs.declared.event.Owner.TheVariants as owner
use Rattle.session_model.specs.Calls.{Setting}
use Rattle.session_model.specs.Journals.{IsJournal}
use Rattle.session_model.specs.Readings.{AskedRequest}
use Rattle.session_model.specs.RowWords.{end, granted, handle, ok, open_of, send, setting_with, submit, take, to_read}
use Rattle.run_laws.specs.Bearing.{
  BearsHandle,
  BearsGrant,
  ClosesAt,
  UsesAt,
  UsesGrant,
  grant_at,
  grant_used_at,
  used_now,
}

-- A lane reads a file, closes it, and reads it again; another lane reads another file.
abbrev pub reads_twice : Setting
reads_twice = setting_with (
    (call.OpenFile 0 to_read (codes "a") ∷ call.Read 0 4 ∷ call.Close 0 ∷ call.OpenFile 1 to_read (codes "a") ∷
    call.Read 1 4 ∷ [])
    ∷ (call.OpenFile 0 to_read (codes "b") ∷ call.Read 0 4 ∷ [])
    ∷ []
    )

abbrev read_of : ℕ → Request
read_of n = request.Read (handle n) 0 4

-- The handle 7 is granted for the requests 0 and 4, and 8 for the request 1.
abbrev pub read_again : List Entry
read_again =
    submit 1 1 1 (read_of 8)
    ∷ submit 0 4 0 (read_of 7)
    ∷ end 0 3 outcome.Opened
    ∷ take 0 (granted 7)
    ∷ send
    ∷ submit 0 3 0 (open_of (codes "a"))
    ∷ end 0 2 outcome.Done
    ∷ take 0 ok
    ∷ send
    ∷ submit 0 2 0 (request.Close (handle 7))
    ∷ end 0 1 (outcome.Bytes (codes "x"))
    ∷ take 0 (reply.Content (codes "x"))
    ∷ send
    ∷ submit 0 1 0 (read_of 7)
    ∷ end 1 0 outcome.Opened
    ∷ take 1 (granted 8)
    ∷ end 0 0 outcome.Opened
    ∷ take 0 (granted 7)
    ∷ send
    ∷ submit 1 0 1 (open_of (codes "b"))
    ∷ submit 0 0 0 (open_of (codes "a"))
    ∷ []

pub read_again_is : IsJournal reads_twice read_again
unfolding request_body attributes string uint32
read_again_is = (
  (refl, refl, (omega arith, refl), refl, refl),
  (
    (refl, refl, (omega arith, refl), refl, refl),
    (
      (refl, (_, refl), refl),
      (
        ((4, ((refl, omega arith, refl), (refl, refl))), refl),
        (
          omega arith,
          (
            (refl, refl, (omega arith, refl), refl, refl),
            (
              (refl, (_, refl), refl),
              (
                ((3, ((refl, omega arith, refl), (refl, refl))), refl),
                (
                  omega arith,
                  (
                    (refl, refl, (omega arith, refl), refl, refl),
                    (
                      (refl, (_, refl), refl),
                      (
                        ((2, ((refl, omega arith, refl), (refl, refl))), refl),
                        (
                          omega arith,
                          (
                            (refl, refl, (omega arith, refl), refl, refl),
                            (
                              (refl, (_, refl), refl),
                              (
                                ((1, ((refl, omega arith, refl), (refl, refl))), refl),
                                (
                                  (refl, (_, refl), refl),
                                  (
                                    ((0, ((refl, omega arith, refl), (refl, refl))), refl),
                                    (
                                      omega arith,
                                      (
                                        (refl, refl, (omega arith, refl), refl, refl),
                                        ((refl, refl, (omega arith, refl), refl, refl), tt),
                                      ),
                                    ),
                                  ),
                                ),
                              ),
                            ),
                          ),
                        ),
                      ),
                    ),
                  ),
                ),
              ),
            ),
          ),
        ),
      ),
    ),
  ),
)

-- ---- The grants of its requests' handles

abbrev asked_for : ℕ → ℕ → ℕ → Request → AskedRequest
asked_for lane call id r = record { by = owner.Call lane call; id = id; request = r }

pub first_read_uses : UsesAt reads_twice read_again 2 0
first_read_uses = record { a = asked_for 0 1 0 (read_of 7); handle = handle 7; at = refl; bears = refl; is = refl }

pub close_closes : ClosesAt reads_twice read_again 3 0
close_closes = record {
  a = asked_for 0 2 0 (request.Close (handle 7));
  handle = handle 7;
  at = refl;
  closes = refl;
  is = refl;
}

pub second_read_uses : UsesAt reads_twice read_again 5 4
second_read_uses = record { a = asked_for 0 4 0 (read_of 7); handle = handle 7; at = refl; bears = refl; is = refl }

pub second_read_is : UsesGrant reads_twice read_again 5 (owner.Call 0 4) (handle 7)
second_read_is = record { grant = 4; is = refl; before = omega arith; came = refl; asker = (3, refl) }

pub others_read_uses : grant_at reads_twice read_again 6 ≡ Some 1
others_read_uses = refl

-- An OPEN has no handle.
pub open_uses_none : grant_at reads_twice read_again 4 ≡ None
open_uses_none = refl

pub next_read_bears : BearsGrant reads_twice (drop 1 read_again) (owner.Call 1 1) (read_of 8) (handle 8)
next_read_bears = record { grant = 1; is = refl; came = refl; unclosed = refl; may = refl }

-- ---- Cases that nearly are one

-- The READ after the CLOSE uses only the later grant.
pub not_the_first : (let o : Option ℕ = grant_used_at reads_twice read_again 5 (handle 7) in o) ≡ Some 0 → ⊥
not_the_first e = cc

-- Between the CLOSE and the next HANDLE no grant of the lane has the handle.
pub behind_its_close : used_now reads_twice (drop 6 read_again) (owner.Call 0 3) (read_of 7) (handle 7) ≡ None
behind_its_close = refl

pub bears_none_then : BearsGrant reads_twice (drop 6 read_again) (owner.Call 0 3) (read_of 7) (handle 7) → ⊥
bears_none_then b = (let e : None ≡ Some b.grant = b.is in cc)

-- Another lane does not hold it either.
pub not_of_this_lane : used_now reads_twice read_again (owner.Call 1 2) (read_of 7) (handle 7) ≡ None
not_of_this_lane = refl

pub bears_none_there : BearsGrant reads_twice read_again (owner.Call 1 2) (read_of 7) (handle 7) → ⊥
bears_none_there b = (let e : None ≡ Some b.grant = b.is in cc)

-- A path has no handle.
pub paths_bear_none : BearsHandle (request.Remove (codes "a")) (codes "a") → ⊥
paths_bear_none b = b
