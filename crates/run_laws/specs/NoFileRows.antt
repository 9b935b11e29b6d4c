-- A run that reads a file that does not exist, and runs to which the laws do not apply.
use Rattle.std.specs.Prelude.{◌≡◌, ◌≢◌, ◌-◌, ℕ, zero, suc, ◌==◌, Bool, List, [], ◌∷◌, codes, drop, None, refl}
use Rattle.std.proofs.Common.{sym, arith, inl}
use Rattle.std.proofs.lemmas.Bool.{and_parts, eqb-true}
use Rattle.ssh_encoding.specs.Writing.{string, uint32}
use Rattle.sftp_model.specs.Frames.{attributes, request_body}
use Rattle.sftp_model.specs.declared.outcome.Outcome.TheVariants as outcome
use Rattle.machine_model.specs.Components.{components}
use Rattle.machine_model.specs.FileTree.{node_at}
use Rattle.machine_model.specs.RowWords.{config}
use Rattle.plan_model.specs.declared.call.Call.TheVariants as call
use Rattle.session_model.specs.declared.entry.Entry.{Entry}
use Rattle.session_model.specs.declared.entry.Entry.TheVariants as entry
use Rattle.session_model.specs.Calls.{Setting}
use Rattle.session_model.specs.Readings.{asked_at}
use Rattle.session_model.specs.RowWords.{end, open_of, refusal, send, setting_with, submit, take}
use Rattle.session_model.specs.Runs.{IsRun, TurnsTo, round_of}
use Rattle.session_model.specs.Served.{ServesJournal}
use Rattle.session_model.specs.Turns.{RunProgress, none_begun}
use Rattle.session_model.proofs.RequestLaws.{asked_beyond}
use Rattle.run_laws.specs.CallsAmong.{HasNoFile}
use Rattle.run_laws.specs.InJournals.{KeepsOff}
use Rattle.run_laws.specs.ReadBackRows.{empty, name}
use Rattle.run_laws.specs.RoundTrips.{HasRead, HasWritten, IsOneLanes, NoneWrites}
use Rattle.run_laws.specs.RoundTripRun.{
  writes_then_reads,
  first_handle,
  no_such_file,
  written_then_read,
  only,
  only_ended,
}

-- ---- A read without a file

abbrev pub reads_alone : Setting
reads_alone = setting_with ((call.FsRead (codes "a") 4 ∷ []) ∷ [])

-- The OPEN is refused.
abbrev pub nothing_read : List Entry
nothing_read =
    entry.LetGo 0
    ∷ end 0 0 no_such_file
    ∷ take 0 (refusal 2)
    ∷ send
    ∷ submit 0 0 0 (open_of (codes "a"))
    ∷ []

abbrev nothing_so_far : ℕ → List Entry
nothing_so_far n = drop (5 - n) nothing_read

abbrev nothing_at : ℕ → (ℕ → Bool) → RunProgress
nothing_at n begun = record { past = nothing_so_far n; begun = begun }

nothing_round_1 : TurnsTo reads_alone (round_of 0) (nothing_at 0 none_begun) (nothing_at 3 (only 0))
unfolding request_body attributes string uint32
nothing_round_1 = (
  nothing_at 1 (only 0),
  (
    (
      refl,
      (
        0,
        (
          (omega arith, refl),
          (nothing_so_far 1, ((inl refl, refl), refl)),
        ),
      ),
    ),
    (
      nothing_at 2 (only 0),
      (
        (refl, (nothing_so_far 2, ((inl refl, refl), refl))),
        (
          nothing_at 3 (only 0),
          (
            (
              refl,
              (
                0,
                (
                  refusal 2,
                  (
                    (0, ((refl, omega arith, refl), (refl, refl))),
                    (nothing_so_far 3, ((inl refl, refl), refl)),
                  ),
                ),
              ),
            ),
            refl,
          ),
        ),
      ),
    ),
  ),
)

nothing_round_2 : TurnsTo reads_alone (round_of 0) (nothing_at 3 (only 0)) (nothing_at 4 none_begun)
unfolding request_body attributes string uint32
nothing_round_2 = (
  nothing_at 4 none_begun,
  (
    (only_ended 0, (nothing_so_far 4, ((inl refl, refl), refl))),
    (nothing_at 4 none_begun, (refl, (nothing_at 4 none_begun, (refl, refl)))),
  ),
)

pub nothing_is_run : IsRun reads_alone [] nothing_read
unfolding request_body attributes string uint32
nothing_is_run = (
  record {
    opened = [];
    turned = nothing_at 0 none_begun;
    ended = nothing_at 4 none_begun;
    let_go =
        nothing_at 5 none_begun;
    drained = nothing_at 5 none_begun;
  },
  (
    record {
      opens = refl;
      turns = refl;
      ends = (
        nothing_at 0 none_begun,
        (
          refl,
          (
            2,
            (
              (λ e. absurd cc),
              (
                nothing_at 3 (only 0),
                (
                  nothing_round_1,
                  (
                    (λ e. absurd cc),
                    (nothing_at 4 none_begun, (nothing_round_2, refl)),
                  ),
                ),
              ),
            ),
          ),
          refl,
        ),
      );
      lets_go = (nothing_at 4 none_begun, (refl, (refl, (nothing_so_far 5, ((inl refl, refl), refl)))));
      drains = (0, refl);
      answered = refl;
    },
    refl,
  ),
)

pub nothing_is_served : ServesJournal (config 0) [] empty nothing_read empty
unfolding components
nothing_is_served = ((first_handle, ((omega arith, refl), refl, refl)), tt)

others_keep_off_nothing : (other : ℕ) → other ≢ 0 → KeepsOff nothing_read name other
others_keep_off_nothing other ne zero k a is mine = absurd (ne
    (sym (eqb-true 0 other (and_parts (0 == other) (0 == k) mine).0)))
others_keep_off_nothing other ne (suc place) k a is mine = absurd
    (let none : asked_at nothing_read (suc place) ≡ None = asked_beyond nothing_read (suc place) (omega arith) in cc)

pub nothing_is_one_lanes : IsOneLanes reads_alone nothing_read name 0
unfolding components
nothing_is_one_lanes = record { own = refl; others = others_keep_off_nothing }

pub none_writes : NoneWrites reads_alone nothing_read name 0 0
none_writes k c below is writes = absurd (omega (arith, below))

pub has_no_file : HasNoFile (node_at empty name)
has_no_file = tt

pub has_read_nothing : HasRead reads_alone nothing_read name 0 0 no_such_file
unfolding components request_body string uint32 attributes
has_read_nothing = record {
  path = codes "a";
  bound = 4;
  is = refl;
  denotes = refl;
  short = refl;
  ends = refl;
  uncancelled = λ e. cc;
}

-- ---- Cases to which the laws do not apply

-- A lane that changes its directory.
pub directory_is_none : (past : List Entry) → IsOneLanes (setting_with
    ((call.Cwd (codes "d") ∷ call.FsWrite (codes "a") (codes "hi") ∷ call.FsRead (codes "a") 4 ∷ []) ∷ [])) past name 0
    → ⊥
unfolding components
directory_is_none past one = (let own = one.own in cc)

-- A write after which the lane writes the name again before it reads it.
pub later_write_is_none : (past : List Entry) → HasWritten (setting_with
    ((call.FsWrite (codes "a") (codes "hi") ∷ call.FsWrite (codes "/a") (codes "ho") ∷ call.FsRead (codes "a") 4 ∷ []) ∷
    [])) past name 0 0 2 (codes "hi") → ⊥
unfolding components
later_write_is_none past w = w.last 1 (call.FsWrite (codes "/a") (codes "ho")) (omega arith) (omega arith) refl refl

-- A read after a write of the name is not its first.
pub not_first : NoneWrites writes_then_reads written_then_read name 0 1 → ⊥
unfolding components
not_first none = none 0 (call.FsWrite (codes "a") (codes "hi")) (omega arith) refl refl

-- A read that was cancelled.
pub cancelled_is_none : (past : List Entry) → HasRead writes_then_reads past name 0 1 outcome.Cancelled → ⊥
cancelled_is_none past r = r.uncancelled refl
