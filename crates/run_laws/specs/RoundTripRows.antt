-- Worked whole runs in which a lane writes a file as a whole and reads it, and in which one reads a file that does not
-- exist; beside them are cases to which the laws do not apply.
use Rattle.std.specs.Prelude.{◌≡◌, ◌≢◌, ℕ, zero, suc, ◌==◌, true, false, [], ◌∷◌, codes, Option, Some, None, refl}
use Rattle.std.proofs.Common.{sym, arith, inl, subst}
use Rattle.std.proofs.lemmas.Bool.{and_parts, eqb-true}
use Rattle.ssh_encoding.specs.Writing.{string, uint32}
use Rattle.sftp_model.specs.Frames.{attributes, request_body}
use Rattle.sftp_model.specs.declared.outcome.Outcome.TheVariants as outcome
use Rattle.sftp_model.specs.declared.request.Request.{Request}
use Rattle.machine_model.specs.Components.{components}
use Rattle.machine_model.specs.FileTree.{FileTree}
use Rattle.machine_model.specs.RowWords.{config}
use Rattle.machine_model.specs.declared.node.Node.TheVariants as node
use Rattle.session_model.specs.declared.event.Owner.TheVariants as owner
use Rattle.session_model.specs.Calls.{lane_calls}
use Rattle.session_model.specs.Readings.{AskedRequest, asked_at}
use Rattle.session_model.specs.RowWords.{open_of}
use Rattle.session_model.specs.Runs.{IsRun}
use Rattle.session_model.specs.Served.{ServesJournal}
use Rattle.session_model.specs.Turns.{none_begun}
use Rattle.session_model.proofs.RequestLaws.{asked_beyond}
use Rattle.run_laws.specs.InJournals.{KeepsOff, is_open_of}
use Rattle.run_laws.specs.ReadBackRows.{apart, empty, name}
use Rattle.run_laws.specs.Sparing.{AvoidsName}
use Rattle.run_laws.specs.NameCalls.{all_keep_off}
use Rattle.run_laws.specs.RoundTrips.{HasRead, HasWritten, IsOneLanes}
use Rattle.run_laws.specs.RoundTripRun.{
  writes_then_reads,
  first_handle,
  second_handle,
  written_then_read,
  only,
  so_far,
  at,
  round_1,
  round_2,
  round_3,
  round_4,
  round_5,
  round_6,
  round_7,
  round_8,
  round_9,
}

pub is_run : IsRun writes_then_reads [] written_then_read
unfolding request_body attributes string uint32
is_run = (
  record {
    opened = [];
    turned = at 0 none_begun;
    ended = at 27 none_begun;
    let_go = at 29 none_begun;
    drained =
        at 29 none_begun;
  },
  (
    record {
      opens = refl;
      turns = refl;
      ends = (
        at 23 none_begun,
        (
          (
            at 0 none_begun,
            (
              refl,
              (
                7,
                (
                  (λ e. absurd cc),
                  (
                    at 3 (only 0),
                    (
                      round_1,
                      (
                        (λ e. absurd cc),
                        (
                          at 6 (only 0),
                          (
                            round_2,
                            (
                              (λ e. absurd cc),
                              (
                                at 10 none_begun,
                                (
                                  round_3,
                                  (
                                    (λ e. absurd cc),
                                    (
                                      at 13 (only 0),
                                      (
                                        round_4,
                                        (
                                          (λ e. absurd cc),
                                          (
                                            at 16 (only 0),
                                            (
                                              round_5,
                                              (
                                                (λ e. absurd cc),
                                                (
                                                  at 19 (only 0),
                                                  (round_6, ((λ e. absurd cc), (at 23 none_begun, (round_7, refl)))),
                                                ),
                                              ),
                                            ),
                                          ),
                                        ),
                                      ),
                                    ),
                                  ),
                                ),
                              ),
                            ),
                          ),
                        ),
                      ),
                    ),
                  ),
                ),
              ),
              refl,
            ),
          ),
          (2, ((λ e. absurd cc), (at 26 (only 1), (round_8, ((λ e. absurd cc), (at 27 none_begun, (round_9, refl))))))),
          refl,
        ),
      );
      lets_go = (
        at 28 none_begun,
        (
          (at 27 none_begun, (refl, (refl, (so_far 28, ((inl refl, refl), refl))))),
          (refl, (so_far 29, ((inl refl, refl), refl))),
        ),
      );
      drains = (0, refl);
      answered = refl;
    },
    refl,
  ),
)

-- ---- The files

abbrev pub left_there : FileTree
left_there = record { names = (codes "a" ∷ [], node.File 0) ∷ []; files = codes "hi" ∷ []; handles = [] }

-- A machine that had no files and directories.
pub is_served : ServesJournal (config 0) [] empty written_then_read left_there
unfolding components
is_served = (
  (
    first_handle,
    (
      (omega arith, refl),
      refl,
      (
        second_handle,
        (
          (omega arith, refl),
          refl,
          (
            second_handle,
            (
              (omega arith, refl),
              refl,
              (
                second_handle,
                (
                  (omega arith, refl),
                  refl,
                  (
                    first_handle,
                    (
                      (omega arith, refl),
                      refl,
                      (
                        first_handle,
                        (
                          (omega arith, refl),
                          refl,
                          (
                            first_handle,
                            (
                              (omega arith, refl),
                              refl,
                              (first_handle, ((omega arith, refl), refl, refl)),
                            ),
                          ),
                        ),
                      ),
                    ),
                  ),
                ),
              ),
            ),
          ),
        ),
      ),
    ),
  ),
  tt,
)

-- ---- The lane

-- The request at a place is this one.
is_this : (P : Request → Type 0) (x a : AskedRequest) → (◌≡◌ {A = Option AskedRequest} (Some x) (Some a)) → P x.request
    → P a.request
is_this P x a e p = (let same : x ≡ a = cc in subst (λ (w : AskedRequest). P w.request) same p)

abbrev last_asked : AskedRequest
last_asked = record { by = owner.Call 1 0; id = 0; request = open_of (codes "b") }

other_avoids : AvoidsName name (open_of (codes "b"))
unfolding components
other_avoids = record { denotes = λ d. apart (codes "b" ∷ []) name refl refl d.1; moves = λ old to d. absurd d }

others_keep_off : (other : ℕ) → other ≢ 0 → KeepsOff written_then_read name other
unfolding components
others_keep_off other ne zero k a is mine = absurd (ne (sym (eqb-true 0 other
    (and_parts (0 == other) (0 == k) mine).0)))
others_keep_off other ne (suc zero) k a is mine = absurd (ne
    (sym (eqb-true 0 other (and_parts (0 == other) (0 == k) mine).0)))
others_keep_off other ne (suc (suc zero)) k a is mine = absurd (let both : false ≡ true = mine in cc)
others_keep_off other ne (suc (suc (suc zero))) k a is mine =
    absurd (ne (sym (eqb-true 0 other (and_parts (0 == other) (1 == k) mine).0)))
others_keep_off other ne (suc (suc (suc (suc zero)))) k a is mine =
    absurd (ne (sym (eqb-true 0 other (and_parts (0 == other) (1 == k) mine).0)))
others_keep_off other ne (suc (suc (suc (suc (suc zero))))) k a is mine =
    absurd (ne (sym (eqb-true 0 other (and_parts (0 == other) (1 == k) mine).0)))
others_keep_off other ne (suc (suc (suc (suc (suc (suc zero)))))) k a is mine =
    absurd (let both : false ≡ true = mine in cc)
others_keep_off other ne (suc (suc (suc (suc (suc (suc (suc zero))))))) k a is mine =
    is_this (λ r. AvoidsName name r × (is_open_of name r ≡ false)) last_asked a is (other_avoids, refl)
others_keep_off other ne (suc (suc (suc (suc (suc (suc (suc (suc place)))))))) k a is mine =
    absurd (let none : asked_at written_then_read (suc (suc (suc (suc (suc (suc (suc (suc place)))))))) ≡ None =
    asked_beyond written_then_read (suc (suc (suc (suc (suc (suc (suc (suc place)))))))) (omega arith) in cc)

pub is_one_lanes : IsOneLanes writes_then_reads written_then_read name 0
unfolding components
is_one_lanes = record { own = refl; others = others_keep_off }

pub other_keeps_off : all_keep_off name [] (lane_calls writes_then_reads written_then_read 1) ≡ true
unfolding components
other_keeps_off = refl

pub has_written : HasWritten writes_then_reads written_then_read name 0 0 1 (codes "hi")
unfolding components
has_written = record {
  path = codes "a";
  is = refl;
  denotes = refl;
  ends = refl;
  earlier = omega arith;
  last =
      λ k c above below is writes. absurd (omega (arith, above, below));
}

pub has_read : HasRead writes_then_reads written_then_read name 0 1 (outcome.Bytes (codes "hi"))
unfolding components request_body string uint32 attributes
has_read = record {
  path = codes "a";
  bound = 4;
  is = refl;
  denotes = refl;
  short = refl;
  ends = refl;
  uncancelled =
      λ e. cc;
}
