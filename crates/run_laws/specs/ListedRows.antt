-- A worked whole run in which a lane lists a directory of two files.
use Rattle.std.specs.Prelude.{◌≡◌, ◌-◌, ℕ, ◌==◌, Bool, true, false, not, ◌||◌, ◌&&◌, List, [], ◌∷◌, codes, drop, refl}
use Rattle.std.proofs.Common.{arith, inl, inr}
use Rattle.ssh_encoding.specs.Writing.{string, uint32}
use Rattle.sftp_model.specs.Frames.{attributes, request_body}
use Rattle.sftp_model.specs.declared.outcome.Outcome.TheVariants as outcome
use Rattle.sftp_model.specs.declared.reply.NameEntry.{NameEntry}
use Rattle.sftp_model.specs.declared.reply.Reply.TheVariants as reply
use Rattle.sftp_model.specs.declared.request.Request.TheVariants as request
use Rattle.machine_model.specs.Components.{components}
use Rattle.machine_model.specs.FileTree.{FileTree, attributes_of}
use Rattle.machine_model.specs.RowWords.{choice, config}
use Rattle.machine_model.specs.declared.node.Node.TheVariants as node
use Rattle.plan_model.specs.declared.call.Call.TheVariants as call
use Rattle.session_model.specs.declared.entry.Entry.{Entry}
use Rattle.session_model.specs.declared.entry.Entry.TheVariants as entry
use Rattle.session_model.specs.declared.event.Owner.TheVariants as owner
use Rattle.session_model.specs.Calls.{Setting}
use Rattle.session_model.specs.Readings.{outcomes_of}
use Rattle.session_model.specs.RowWords.{close, end, handle, ok, refusal, send, setting_with, submit, take}
use Rattle.session_model.specs.Runs.{IsRun, TurnsTo, round_of}
use Rattle.session_model.specs.Served.{ServesJournal}
use Rattle.session_model.specs.Turns.{RunProgress, begun_but, begun_with, none_begun}
use Rattle.run_laws.specs.Listings.{IsListed}
use Rattle.run_laws.specs.Steps.{FeignNoEnd}

-- ---- The run

-- A directory of two files.
abbrev pub directory : FileTree
directory =
    record {
      names = (codes "d" ∷ [], node.Directory) ∷ (codes "d" ∷ codes "b" ∷ [], node.File 1) ∷
          (codes "d" ∷ codes "a" ∷ [], node.File 0) ∷ [];
      files = codes "hello" ∷ codes "hi" ∷ [];
      handles = [];
    }

abbrev file : List ℕ → ℕ → NameEntry
file filename n = record { filename = filename; longname = []; attrs = attributes_of directory (node.File n) }

abbrev pub two_files : List NameEntry
two_files = file (codes "a") 0 ∷ file (codes "b") 1 ∷ []

abbrev pub lists : Setting
lists = setting_with ((call.List (codes "d") 9 ∷ []) ∷ [])

-- Both entries come at once.
abbrev pub listed_run : List Entry
listed_run =
    entry.LetGo 0
    ∷ take 0 ok
    ∷ send
    ∷ close 0 (handle 9)
    ∷ end 0 0 (outcome.Names two_files)
    ∷ take 0 (refusal 1)
    ∷ send
    ∷ submit 0 0 0 (request.Readdir (handle 9))
    ∷ take 0 (reply.Names two_files)
    ∷ send
    ∷ submit 0 0 0 (request.Readdir (handle 9))
    ∷ take 0 (reply.Handle (handle 9))
    ∷ send
    ∷ submit 0 0 0 (request.Opendir (codes "d"))
    ∷ []

-- The first lane has a started call.
abbrev pub begun : ℕ → Bool
begun = begun_with none_begun 0

pub begun_again : begun ≡ begun_with begun 0
begun_again = λ i l. either_way (0 == l) i
  where
    either_way : (b : Bool) → (b || false) ≡ (b || (b || false))
    either_way true = refl
    either_way false = refl

pub begun_ended : none_begun ≡ begun_but begun 0
begun_ended = λ i l. neither_way (0 == l) i
  where
    neither_way : (b : Bool) → false ≡ (not b && (b || false))
    neither_way true = refl
    neither_way false = refl

abbrev so_far : ℕ → List Entry
so_far n = drop (14 - n) listed_run

abbrev at : ℕ → (ℕ → Bool) → RunProgress
at n lanes = record { past = so_far n; begun = lanes }

round_1 : TurnsTo lists (round_of 0) (at 0 none_begun) (at 3 begun)
unfolding request_body attributes string uint32
round_1 = (
  at 1 begun,
  (
    (refl, (0, ((omega arith, refl), (so_far 1, ((inl refl, refl), refl))))),
    (
      at 2 begun,
      (
        (refl, (so_far 2, ((inl refl, refl), refl))),
        (
          at 3 begun,
          (
            (
              refl,
              (
                0,
                (
                  reply.Handle (handle 9),
                  (
                    (0, ((refl, omega arith, refl), (refl, refl))),
                    (so_far 3, ((inl refl, refl), refl)),
                  ),
                ),
              ),
            ),
            refl,
          ),
        ),
      ),
    ),
  ),
)

round_2 : TurnsTo lists (round_of 0) (at 3 begun) (at 6 begun)
unfolding request_body attributes string uint32
round_2 = (
  at 4 begun,
  (
    (begun_again, (0, ((omega arith, refl), (so_far 4, ((inl refl, refl), refl))))),
    (
      at 5 begun,
      (
        (refl, (so_far 5, ((inl refl, refl), refl))),
        (
          at 6 begun,
          (
            (
              refl,
              (
                0,
                (
                  reply.Names two_files,
                  (
                    (1, ((refl, omega arith, refl), (refl, refl))),
                    (so_far 6, ((inl refl, refl), refl)),
                  ),
                ),
              ),
            ),
            refl,
          ),
        ),
      ),
    ),
  ),
)

round_3 : TurnsTo lists (round_of 0) (at 6 begun) (at 9 begun)
unfolding request_body attributes string uint32
round_3 = (
  at 7 begun,
  (
    (begun_again, (0, ((omega arith, refl), (so_far 7, ((inl refl, refl), refl))))),
    (
      at 8 begun,
      (
        (refl, (so_far 8, ((inl refl, refl), refl))),
        (
          at 9 begun,
          (
            (
              refl,
              (
                0,
                (
                  refusal 1,
                  (
                    (2, ((refl, omega arith, refl), (refl, refl))),
                    (so_far 9, ((inl refl, refl), refl)),
                  ),
                ),
              ),
            ),
            refl,
          ),
        ),
      ),
    ),
  ),
)

round_4 : TurnsTo lists (round_of 0) (at 9 begun) (at 13 none_begun)
unfolding request_body attributes string uint32
round_4 = (
  at 11 none_begun,
  (
    (
      begun_ended,
      (
        so_far 11,
        (
          (
            inr ((0, (refl, (0, ((omega arith, refl), refl)))), inl refl),
            refl,
          ),
          refl,
        ),
      ),
    ),
    (
      at 12 none_begun,
      (
        (refl, (so_far 12, ((inl refl, refl), refl))),
        (
          at 13 none_begun,
          (
            (
              refl,
              (
                0,
                (
                  ok,
                  (
                    (3, ((refl, omega arith, refl), (refl, refl))),
                    (so_far 13, ((inl refl, refl), refl)),
                  ),
                ),
              ),
            ),
            refl,
          ),
        ),
      ),
    ),
  ),
)

pub lists_is_run : IsRun lists [] listed_run
unfolding request_body attributes string uint32
lists_is_run = (
  record {
    opened = [];
    turned = at 0 none_begun;
    ended = at 13 none_begun;
    let_go = at 14 none_begun;
    drained =
        at 14 none_begun;
  },
  (
    record {
      opens = refl;
      turns = refl;
      ends = (
        at 0 none_begun,
        (
          refl,
          (
            4,
            (
              (λ e. absurd cc),
              (
                at 3 begun,
                (
                  round_1,
                  (
                    (λ e. absurd cc),
                    (
                      at 6 begun,
                      (
                        round_2,
                        (
                          (λ e. absurd cc),
                          (at 9 begun, (round_3, ((λ e. absurd cc), (at 13 none_begun, (round_4, refl))))),
                        ),
                      ),
                    ),
                  ),
                ),
              ),
            ),
          ),
          refl,
        ),
      );
      lets_go = (at 13 none_begun, (refl, (refl, (so_far 14, ((inl refl, refl), refl)))));
      drains = (0, refl);
      answered = refl;
    },
    refl,
  ),
)

-- ---- The machine that serves it, and its outcome

pub lists_served : ServesJournal (config 0) [] directory listed_run directory
unfolding components
lists_served = (
  (
    handle 9,
    (
      (omega arith, refl),
      refl,
      (
        handle 8,
        (
          (omega arith, refl),
          refl,
          (
            handle 8,
            (
              (omega arith, refl),
              refl,
              (handle 8, ((omega arith, refl), refl, refl)),
            ),
          ),
        ),
      ),
    ),
  ),
  tt,
)

pub lists_reported : outcomes_of listed_run 0 ≡ outcome.Names two_files ∷ []
lists_reported = refl

pub lists_listed : IsListed lists (config 0) [] directory listed_run 0 0 (codes "d") two_files
unfolding components
lists_listed =
    record {
      place = 0;
      asked = record { by = owner.Call 0 0; id = 0; request = request.Opendir (codes "d") };
      stands = refl;
      by = refl;
      asks = refl;
      tree = directory;
      had = refl;
      begins = ([], refl);
      entries = λ honest. refl;
      once = λ t. (refl, (refl, tt));
    }

-- A choice that replies to the second request, a READDIR, with an end.
pub end_is_feigned : FeignNoEnd (choice 0 0 ∷ choice 1 0 ∷ []) → ⊥
end_is_feigned honest = honest.1.0 refl
