-- A run in which a lane writes a file and reads it back, and another opens a file beside it.
use Rattle.std.specs.Prelude.{◌≡◌, ◌-◌, ℕ, ◌==◌, Bool, true, false, not, ◌||◌, ◌&&◌, List, [], ◌∷◌, codes, drop, refl}
use Rattle.std.proofs.Common.{arith, inl, inr}
use Rattle.ssh_encoding.specs.Writing.{string, uint32}
use Rattle.sftp_model.specs.Frames.{attributes, request_body}
use Rattle.sftp_model.specs.declared.error.Error.TheVariants as error
use Rattle.sftp_model.specs.declared.outcome.Outcome.{Outcome}
use Rattle.sftp_model.specs.declared.outcome.Outcome.TheVariants as outcome
use Rattle.sftp_model.specs.declared.reply.Reply.TheVariants as reply
use Rattle.sftp_model.specs.declared.request.Request.TheVariants as request
use Rattle.plan_model.specs.FilePlans.{open_request}
use Rattle.plan_model.specs.WholePlans.{to_replace}
use Rattle.plan_model.specs.declared.call.Call.TheVariants as call
use Rattle.session_model.specs.declared.entry.Entry.{Entry}
use Rattle.session_model.specs.declared.entry.Entry.TheVariants as entry
use Rattle.session_model.specs.Calls.{Setting}
use Rattle.session_model.specs.RowWords.{close, end, ok, open_of, refusal, send, setting_with, submit, take}
use Rattle.session_model.specs.Runs.{TurnsTo, round_of}
use Rattle.session_model.specs.Turns.{RunProgress, begun_but, begun_with, none_begun}

-- ---- The run

-- A lane writes a and reads it, and another one reads b.
abbrev pub writes_then_reads : Setting
writes_then_reads = setting_with ((call.FsWrite (codes "a") (codes "hi") ∷ call.FsRead (codes "a") 4 ∷ []) ∷
    (call.FsRead (codes "b") 4 ∷ []) ∷ [])

-- The handles of the first two grants.
abbrev pub first_handle : List ℕ
first_handle = 0 ∷ 0 ∷ 0 ∷ 0 ∷ []

abbrev pub second_handle : List ℕ
second_handle = 0 ∷ 0 ∷ 0 ∷ 1 ∷ []

-- The outcome of a whole read if the file does not exist.
abbrev pub no_such_file : Outcome
no_such_file = outcome.Refused (error.SftpError 2 [] [])

-- Each request is sent at once and answered before the next, and b does not exist.
abbrev pub written_then_read : List Entry
written_then_read =
    entry.LetGo 1
    ∷ entry.LetGo 0
    ∷ end 1 0 no_such_file
    ∷ take 0 (refusal 2)
    ∷ send
    ∷ submit 1 0 0 (open_of (codes "b"))
    ∷ take 0 ok
    ∷ send
    ∷ close 0 second_handle
    ∷ end 0 1 (outcome.Bytes (codes "hi"))
    ∷ take 0 (refusal 1)
    ∷ send
    ∷ submit 0 1 0 (request.Read second_handle 2 32768)
    ∷ take 0 (reply.Content (codes "hi"))
    ∷ send
    ∷ submit 0 1 0 (request.Read second_handle 0 32768)
    ∷ take 0 (reply.Handle second_handle)
    ∷ send
    ∷ submit 0 1 0 (open_of (codes "a"))
    ∷ take 0 ok
    ∷ send
    ∷ close 0 first_handle
    ∷ end 0 0 outcome.Done
    ∷ take 0 ok
    ∷ send
    ∷ submit 0 0 0 (request.Write first_handle 0 (codes "hi"))
    ∷ take 0 (reply.Handle first_handle)
    ∷ send
    ∷ submit 0 0 0 (open_request to_replace (codes "a"))
    ∷ []

-- Only one lane has a started call.
abbrev pub only : ℕ → ℕ → Bool
only lane = begun_with none_begun lane

-- It is stepped again.
only_again : (lane : ℕ) → only lane ≡ begun_with (only lane) lane
only_again lane = λ i l. either_way (lane == l) i
  where
    either_way : (b : Bool) → (b || false) ≡ (b || (b || false))
    either_way true = refl
    either_way false = refl

-- Its call has ended.
pub only_ended : (lane : ℕ) → none_begun ≡ begun_but (only lane) lane
only_ended lane = λ i l. neither_way (lane == l) i
  where
    neither_way : (b : Bool) → false ≡ (not b && (b || false))
    neither_way true = refl
    neither_way false = refl

-- The journal after this many entries.
abbrev pub so_far : ℕ → List Entry
so_far n = drop (29 - n) written_then_read

abbrev pub at : ℕ → (ℕ → Bool) → RunProgress
at n begun = record { past = so_far n; begun = begun }

pub round_1 : TurnsTo writes_then_reads (round_of 0) (at 0 none_begun) (at 3 (only 0))
unfolding request_body attributes string uint32
round_1 = (
  at 1 (only 0),
  (
    (refl, (0, ((omega arith, refl), (so_far 1, ((inl refl, refl), refl))))),
    (
      at 2 (only 0),
      (
        (refl, (so_far 2, ((inl refl, refl), refl))),
        (
          at 3 (only 0),
          (
            (
              refl,
              (
                0,
                (
                  reply.Handle first_handle,
                  (
                    (0, ((refl, omega arith, refl), (refl, refl))),
                    (so_far 3, ((inl refl, refl), refl)),
                  ),
                ),
              ),
            ),
            refl,
          ),
        ),
      ),
    ),
  ),
)

pub round_2 : TurnsTo writes_then_reads (round_of 0) (at 3 (only 0)) (at 6 (only 0))
unfolding request_body attributes string uint32
round_2 = (
  at 4 (only 0),
  (
    (only_again 0, (0, ((omega arith, refl), (so_far 4, ((inl refl, refl), refl))))),
    (
      at 5 (only 0),
      (
        (refl, (so_far 5, ((inl refl, refl), refl))),
        (
          at 6 (only 0),
          (
            (
              refl,
              (
                0,
                (
                  ok,
                  (
                    (1, ((refl, omega arith, refl), (refl, refl))),
                    (so_far 6, ((inl refl, refl), refl)),
                  ),
                ),
              ),
            ),
            refl,
          ),
        ),
      ),
    ),
  ),
)

pub round_3 : TurnsTo writes_then_reads (round_of 0) (at 6 (only 0)) (at 10 none_begun)
unfolding request_body attributes string uint32
round_3 = (
  at 8 none_begun,
  (
    (
      only_ended 0,
      (
        so_far 8,
        (
          (
            inr ((0, (refl, (0, ((omega arith, refl), refl)))), inl refl),
            refl,
          ),
          refl,
        ),
      ),
    ),
    (
      at 9 none_begun,
      (
        (refl, (so_far 9, ((inl refl, refl), refl))),
        (
          at 10 none_begun,
          (
            (
              refl,
              (
                0,
                (
                  ok,
                  (
                    (2, ((refl, omega arith, refl), (refl, refl))),
                    (so_far 10, ((inl refl, refl), refl)),
                  ),
                ),
              ),
            ),
            refl,
          ),
        ),
      ),
    ),
  ),
)

pub round_4 : TurnsTo writes_then_reads (round_of 0) (at 10 none_begun) (at 13 (only 0))
unfolding request_body attributes string uint32
round_4 = (
  at 11 (only 0),
  (
    (refl, (0, ((omega arith, refl), (so_far 11, ((inl refl, refl), refl))))),
    (
      at 12 (only 0),
      (
        (refl, (so_far 12, ((inl refl, refl), refl))),
        (
          at 13 (only 0),
          (
            (
              refl,
              (
                0,
                (
                  reply.Handle second_handle,
                  (
                    (3, ((refl, omega arith, refl), (refl, refl))),
                    (so_far 13, ((inl refl, refl), refl)),
                  ),
                ),
              ),
            ),
            refl,
          ),
        ),
      ),
    ),
  ),
)

pub round_5 : TurnsTo writes_then_reads (round_of 0) (at 13 (only 0)) (at 16 (only 0))
unfolding request_body attributes string uint32
round_5 = (
  at 14 (only 0),
  (
    (only_again 0, (0, ((omega arith, refl), (so_far 14, ((inl refl, refl), refl))))),
    (
      at 15 (only 0),
      (
        (refl, (so_far 15, ((inl refl, refl), refl))),
        (
          at 16 (only 0),
          (
            (
              refl,
              (
                0,
                (
                  reply.Content (codes "hi"),
                  (
                    (4, ((refl, omega arith, refl), (refl, refl))),
                    (so_far 16, ((inl refl, refl), refl)),
                  ),
                ),
              ),
            ),
            refl,
          ),
        ),
      ),
    ),
  ),
)

pub round_6 : TurnsTo writes_then_reads (round_of 0) (at 16 (only 0)) (at 19 (only 0))
unfolding request_body attributes string uint32
round_6 = (
  at 17 (only 0),
  (
    (only_again 0, (0, ((omega arith, refl), (so_far 17, ((inl refl, refl), refl))))),
    (
      at 18 (only 0),
      (
        (refl, (so_far 18, ((inl refl, refl), refl))),
        (
          at 19 (only 0),
          (
            (
              refl,
              (
                0,
                (
                  refusal 1,
                  (
                    (5, ((refl, omega arith, refl), (refl, refl))),
                    (so_far 19, ((inl refl, refl), refl)),
                  ),
                ),
              ),
            ),
            refl,
          ),
        ),
      ),
    ),
  ),
)

pub round_7 : TurnsTo writes_then_reads (round_of 0) (at 19 (only 0)) (at 23 none_begun)
unfolding request_body attributes string uint32
round_7 = (
  at 21 none_begun,
  (
    (
      only_ended 0,
      (
        so_far 21,
        (
          (
            inr
                ((3, (refl, (0, ((omega arith, refl), refl)))), inl refl),
            refl,
          ),
          refl,
        ),
      ),
    ),
    (
      at 22 none_begun,
      (
        (refl, (so_far 22, ((inl refl, refl), refl))),
        (
          at 23 none_begun,
          (
            (
              refl,
              (
                0,
                (
                  ok,
                  (
                    (6, ((refl, omega arith, refl), (refl, refl))),
                    (so_far 23, ((inl refl, refl), refl)),
                  ),
                ),
              ),
            ),
            refl,
          ),
        ),
      ),
    ),
  ),
)

pub round_8 : TurnsTo writes_then_reads (round_of 1) (at 23 none_begun) (at 26 (only 1))
unfolding request_body attributes string uint32
round_8 = (
  at 24 (only 1),
  (
    (refl, (0, ((omega arith, refl), (so_far 24, ((inl refl, refl), refl))))),
    (
      at 25 (only 1),
      (
        (refl, (so_far 25, ((inl refl, refl), refl))),
        (
          at 26 (only 1),
          (
            (
              refl,
              (
                0,
                (
                  refusal 2,
                  (
                    (7, ((refl, omega arith, refl), (refl, refl))),
                    (so_far 26, ((inl refl, refl), refl)),
                  ),
                ),
              ),
            ),
            refl,
          ),
        ),
      ),
    ),
  ),
)

pub round_9 : TurnsTo writes_then_reads (round_of 1) (at 26 (only 1)) (at 27 none_begun)
unfolding request_body attributes string uint32
round_9 = (
  at 27 none_begun,
  (
    (only_ended 1, (so_far 27, ((inl refl, refl), refl))),
    (at 27 none_begun, (refl, (at 27 none_begun, (refl, refl)))),
  ),
)
