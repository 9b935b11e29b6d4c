-- Worked whole runs.
use Rattle.std.specs.Prelude.{ℕ, ◌-◌, ◌==◌, ◌≡◌, Bool, true, false, not, ◌||◌, ◌&&◌, ◌∷◌, List, [], codes, drop, refl}
use Rattle.std.proofs.Common.{arith, inl, inr}
use Rattle.ssh_encoding.specs.Writing.{uint32, string}
use Rattle.sftp_model.specs.declared.outcome.Outcome.TheVariants as outcome
use Rattle.sftp_model.specs.declared.reply.Reply.TheVariants as reply
use Rattle.sftp_model.specs.Frames.{request_body, attributes}
use Rattle.session_model.specs.declared.entry.Entry.{Entry}
use Rattle.session_model.specs.declared.entry.Entry.TheVariants as entry
use Rattle.session_model.specs.declared.turn.Turn.TheVariants as turn
use Rattle.session_model.specs.Turns.{RunProgress, none_begun, begun_with, begun_but}
use Rattle.session_model.specs.Runs.{IsRun, TurnsTo, DrainsTo, round_of, at_first}
use Rattle.session_model.specs.RowWords.{
  setting_with,
  submit,
  send,
  take,
  end,
  cancel,
  close,
  open_of,
  ok,
  granted,
  handle,
}
use Rattle.session_model.specs.JournalRows.{s, over}
use Rattle.session_model.specs.LaneRows.{opens}
use Rattle.session_model.specs.Readings.{outcomes_below}

-- ---- No calls

pub run_of_nothing : IsRun (setting_with ([] ∷ [])) [] (entry.LetGo 0 ∷ [])
run_of_nothing =
    let end : RunProgress = record { past = entry.LetGo 0 ∷ []; begun = none_begun } in (
      record { opened = []; turned = at_first []; ended = at_first []; let_go = end; drained = end },
      (
        record {
          opens = refl;
          turns = refl;
          ends = (at_first [], (refl, (0, refl), refl));
          lets_go = (at_first [], (refl, (refl, (entry.LetGo 0 ∷ [], ((inl refl, refl), refl)))));
          drains = (0, refl);
          answered = refl;
        },
        refl,
      ),
    )

-- ---- A file is opened, read and closed: six rounds

-- The journal after this many entries.
abbrev pub so_far : ℕ → List Entry
so_far n = drop (13 - n) over

-- Only lane 0 was started.
abbrev pub zero_begun : ℕ → Bool
zero_begun = begun_with none_begun 0

-- Lane 0 was started and its call has ended.
pub zero_ended : none_begun ≡ begun_but zero_begun 0
zero_ended = λ i lane. neither (0 == lane) i
  where
    neither : (b : Bool) → false ≡ (not b && (b || false))
    neither true = refl
    neither false = refl

abbrev pub at : ℕ → (ℕ → Bool) → RunProgress
at n begun = record { past = so_far n; begun = begun }

pub round_1 : TurnsTo s (round_of 0) (at 0 none_begun) (at 3 zero_begun)
unfolding request_body attributes string uint32
round_1 = (
  at 1 zero_begun,
  (
    (refl, (0, ((omega arith, refl), (so_far 1, ((inl refl, refl), refl))))),
    (
      at 2 zero_begun,
      (
        (refl, (so_far 2, ((inl refl, refl), refl))),
        (
          at 3 zero_begun,
          (
            (
              refl,
              (
                0,
                (
                  granted 7,
                  (
                    (0, ((refl, omega arith, refl), (refl, refl))),
                    (so_far 3, ((inl refl, refl), refl)),
                  ),
                ),
              ),
            ),
            refl,
          ),
        ),
      ),
    ),
  ),
)

pub round_2 : TurnsTo s (round_of 0) (at 3 zero_begun) (at 4 none_begun)
unfolding request_body attributes string uint32
round_2 = (
  at 4 none_begun,
  (
    (zero_ended, (so_far 4, ((inl refl, refl), refl))),
    (at 4 none_begun, (refl, (at 4 none_begun, (refl, refl)))),
  ),
)

pub round_3 : TurnsTo s (round_of 0) (at 4 none_begun) (at 7 zero_begun)
unfolding request_body attributes string uint32
round_3 = (
  at 5 zero_begun,
  (
    (refl, (1, ((omega arith, refl), (so_far 5, ((inl refl, refl), refl))))),
    (
      at 6 zero_begun,
      (
        (refl, (so_far 6, ((inl refl, refl), refl))),
        (
          at 7 zero_begun,
          (
            (
              refl,
              (
                1,
                (
                  reply.Content (codes "hello"),
                  ((1, ((refl, omega arith, refl), (refl, refl))), (so_far 7, ((inl refl, refl), refl))),
                ),
              ),
            ),
            refl,
          ),
        ),
      ),
    ),
  ),
)

pub round_4 : TurnsTo s (round_of 0) (at 7 zero_begun) (at 8 none_begun)
unfolding request_body attributes string uint32
round_4 = (
  at 8 none_begun,
  (
    (zero_ended, (so_far 8, ((inl refl, refl), refl))),
    (at 8 none_begun, (refl, (at 8 none_begun, (refl, refl)))),
  ),
)

pub round_5 : TurnsTo s (round_of 0) (at 8 none_begun) (at 11 zero_begun)
unfolding request_body attributes string uint32
round_5 = (
  at 9 zero_begun,
  (
    (refl, (0, ((omega arith, refl), (so_far 9, ((inl refl, refl), refl))))),
    (
      at 10 zero_begun,
      (
        (refl, (so_far 10, ((inl refl, refl), refl))),
        (
          at 11 zero_begun,
          (
            (
              refl,
              (
                0,
                (
                  ok,
                  (
                    (2, ((refl, omega arith, refl), (refl, refl))),
                    (so_far 11, ((inl refl, refl), refl)),
                  ),
                ),
              ),
            ),
            refl,
          ),
        ),
      ),
    ),
  ),
)

pub round_6 : TurnsTo s (round_of 0) (at 11 zero_begun) (at 12 none_begun)
unfolding request_body attributes string uint32
round_6 = (
  at 12 none_begun,
  (
    (zero_ended, (so_far 12, ((inl refl, refl), refl))),
    (at 12 none_begun, (refl, (at 12 none_begun, (refl, refl)))),
  ),
)

pub run_of_three : IsRun s [] over
run_of_three = (
  record {
    opened = [];
    turned = at 0 none_begun;
    ended = at 12 none_begun;
    let_go = at 13 none_begun;
    drained =
        at 13 none_begun;
  },
  (
    record {
      opens = refl;
      turns = refl;
      ends = (
        at 0 none_begun,
        (
          refl,
          (
            6,
            (
              (λ e. absurd cc),
              (
                at 3 zero_begun,
                (
                  round_1,
                  (
                    (λ e. absurd cc),
                    (
                      at 4 none_begun,
                      (
                        round_2,
                        (
                          (λ e. absurd cc),
                          (
                            at 7 zero_begun,
                            (
                              round_3,
                              (
                                (λ e. absurd cc),
                                (
                                  at 8 none_begun,
                                  (
                                    round_4,
                                    (
                                      (λ e. absurd cc),
                                      (
                                        at 11 zero_begun,
                                        (round_5, ((λ e. absurd cc), (at 12 none_begun, (round_6, refl)))),
                                      ),
                                    ),
                                  ),
                                ),
                              ),
                            ),
                          ),
                        ),
                      ),
                    ),
                  ),
                ),
              ),
            ),
          ),
          refl,
        ),
      );
      lets_go = (at 12 none_begun, (refl, (refl, (so_far 13, ((inl refl, refl), refl)))));
      drains = (0, refl);
      answered = refl;
    },
    refl,
  ),
)

pub outcomes_of_three : outcomes_below over 1 ≡ (outcome.Opened ∷ outcome.Bytes (codes "hello") ∷ outcome.Done ∷ []) ∷
    []
outcomes_of_three = refl

-- ---- An open is cancelled: its HANDLE comes after the release, and is closed

abbrev pub cancelled_over : List Entry
cancelled_over =
    take 0 ok
    ∷ send
    ∷ close 0 (handle 7)
    ∷ take 0 (granted 7)
    ∷ entry.LetGo 0
    ∷ end 0 0 outcome.Cancelled
    ∷ cancel 0
    ∷ send
    ∷ submit 0 0 0 (open_of (codes "a"))
    ∷ []

abbrev pub cancelled_so_far : ℕ → List Entry
cancelled_so_far n = drop (9 - n) cancelled_over

abbrev pub cancelled_at : ℕ → (ℕ → Bool) → RunProgress
cancelled_at n begun = record { past = cancelled_so_far n; begun = begun }

pub cancelled_turns : TurnsTo opens (turn.Step 0 ∷ turn.Flush ∷ turn.Cancel 0 ∷ []) (cancelled_at 0 none_begun)
    (cancelled_at 4 none_begun)
unfolding request_body attributes string uint32
cancelled_turns = (
  cancelled_at 1 zero_begun,
  (
    (refl, (0, ((omega arith, refl), (cancelled_so_far 1, ((inl refl, refl), refl))))),
    (
      cancelled_at 2 zero_begun,
      (
        (refl, (cancelled_so_far 2, ((inl refl, refl), refl))),
        (cancelled_at 4 none_begun, ((zero_ended, (cancelled_so_far 4, ((inl refl, refl), refl))), refl)),
      ),
    ),
  ),
)

pub cancelled_drains : DrainsTo opens 2 (cancelled_at 5 none_begun) (cancelled_at 9 none_begun)
unfolding request_body attributes string uint32
cancelled_drains = (
  omega arith,
  (
    cancelled_at 7 none_begun,
    (
      (
        cancelled_at 5 none_begun,
        (
          refl,
          (
            cancelled_at 7 none_begun,
            (
              (
                refl,
                (
                  0,
                  (
                    granted 7,
                    (
                      (0, ((refl, omega arith, refl), (refl, refl))),
                      (
                        cancelled_so_far 7,
                        (
                          (inr (((0, (refl, (0, ((omega arith, refl), refl))))), inl refl), refl),
                          refl,
                        ),
                      ),
                    ),
                  ),
                ),
              ),
              refl,
            ),
          ),
        ),
      ),
      (
        omega arith,
        (
          cancelled_at 9 none_begun,
          (
            (
              cancelled_at 8 none_begun,
              (
                (refl, (cancelled_so_far 8, ((inl refl, refl), refl))),
                (
                  cancelled_at 9 none_begun,
                  (
                    (
                      refl,
                      (
                        0,
                        (
                          ok,
                          (
                            (1, ((refl, omega arith, refl), (refl, refl))),
                            (cancelled_so_far 9, ((inl refl, refl), refl)),
                          ),
                        ),
                      ),
                    ),
                    refl,
                  ),
                ),
              ),
            ),
            refl,
          ),
        ),
      ),
    ),
  ),
)

pub run_of_cancelled : IsRun opens (turn.Step 0 ∷ turn.Flush ∷ turn.Cancel 0 ∷ []) cancelled_over
unfolding request_body attributes string uint32
run_of_cancelled = (
  record {
    opened = [];
    turned = cancelled_at 4 none_begun;
    ended = cancelled_at 4 none_begun;
    let_go =
        cancelled_at 5 none_begun;
    drained = cancelled_at 9 none_begun;
  },
  (
    record {
      opens = refl;
      turns = cancelled_turns;
      ends = (cancelled_at 4 none_begun, (refl, (0, refl), refl));
      lets_go = (cancelled_at 4 none_begun, (refl, (refl, (cancelled_so_far 5, ((inl refl, refl), refl)))));
      drains = (2, cancelled_drains);
      answered = refl;
    },
    refl,
  ),
)

-- ---- Journals that are no whole run

-- The lane's slot holds a grant that has no CLOSE.
abbrev pub without_close : List Entry
without_close =
    entry.LetGo 0
    ∷ end 0 0 outcome.Opened
    ∷ take 0 (granted 7)
    ∷ send
    ∷ submit 0 0 0 (open_of (codes "a"))
    ∷ []
