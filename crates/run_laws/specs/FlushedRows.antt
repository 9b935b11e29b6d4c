-- A worked whole run in which a lane writes to a buffered file, changes its directory, and flushes the file.
use Rattle.std.specs.Prelude.{
  ◌≡◌,
  ◌-◌,
  ℕ,
  zero,
  suc,
  ◌==◌,
  Bool,
  true,
  false,
  not,
  ◌&&◌,
  List,
  [],
  ◌∷◌,
  codes,
  drop,
  None,
  Some,
  refl,
}
use Rattle.std.proofs.Common.{ap, ◌∙◌, arith, inl, inr}
use Rattle.ssh_encoding.specs.Writing.{string, uint32}
use Rattle.sftp_model.specs.Frames.{attributes, request_body}
use Rattle.sftp_model.specs.declared.open_options.OpenOptions.{OpenOptions}
use Rattle.sftp_model.specs.declared.outcome.Outcome.{Outcome}
use Rattle.sftp_model.specs.declared.outcome.Outcome.TheVariants as outcome
use Rattle.sftp_model.specs.declared.reply.Reply.TheVariants as reply
use Rattle.sftp_model.specs.declared.request.Request.TheVariants as request
use Rattle.machine_model.specs.Components.{components}
use Rattle.machine_model.specs.FileTree.{FileTree, bytes_of}
use Rattle.machine_model.specs.RowWords.{choice, config}
use Rattle.machine_model.specs.declared.node.Node.TheVariants as node
use Rattle.plan_model.specs.FilePlans.{open_request}
use Rattle.plan_model.specs.declared.call.Call.TheVariants as call
use Rattle.plan_model.specs.declared.call.Lane.{Lane}
use Rattle.session_model.specs.declared.entry.Entry.{Entry}
use Rattle.session_model.specs.declared.entry.Entry.TheVariants as entry
use Rattle.session_model.specs.Calls.{Setting}
use Rattle.session_model.specs.Readings.{answer, outcomes_below}
use Rattle.session_model.specs.RowWords.{close, end, handle, ok, send, setting_with, submit, take, to_read}
use Rattle.session_model.specs.Runs.{IsRun, TurnsTo, round_of}
use Rattle.session_model.specs.Served.{requests_sent}
use Rattle.session_model.specs.Turns.{RunProgress, begun_but, none_begun}
use Rattle.run_laws.specs.DeferredWrites.{OthersLeave, WritesAlone, tree_at}
use Rattle.run_laws.specs.ListedRows.{begun, begun_ended}
use Rattle.run_laws.specs.Steps.{AreServed, Step, asked_in}
use Rattle.run_laws.specs.FlushesWrites.{PutsInto, WritesAndFlushes}
use Rattle.run_laws.specs.ReadsBack.{call_in}
use Rattle.run_laws.specs.SlotCalls.{leaves_slot}

-- ---- The run

-- A file.
abbrev pub hello : FileTree
hello = record { names = (codes "a" ∷ [], node.File 0) ∷ []; files = codes "hello" ∷ []; handles = [] }

abbrev pub to_write : OpenOptions
to_write = record to_read { read = false; write = true }

-- A lane opens it to write, buffers it, writes two bytes, changes its directory and flushes the bytes.
abbrev pub writes_flushed : Setting
writes_flushed =
    setting_with
    ((call.OpenFile 0 to_write (codes "a") ∷ call.Buffer 0 8 ∷ call.BufWriteAll 0
    (codes "hu") ∷ call.Cwd (codes "d") ∷ call.BufFlush 0 ∷ []) ∷ [])

abbrev pub flushed_run : List Entry
flushed_run =
    take 0 ok
    ∷ send
    ∷ close 0 (handle 9)
    ∷ entry.LetGo 0
    ∷ end 0 4 outcome.Done
    ∷ end 0 3 outcome.Done
    ∷ end 0 2 outcome.Done
    ∷ take 0 ok
    ∷ send
    ∷ submit 0 2 0 (request.Write (handle 9) 0 (codes "hu"))
    ∷ end 0 1 outcome.Done
    ∷ end 0 0 outcome.Opened
    ∷ take 0 (reply.Handle (handle 9))
    ∷ send
    ∷ submit 0 0 0 (open_request (record { 0 = 2 }) (codes "a"))
    ∷ []

-- After a call that ends when it starts, no lane has a started call.
none_ended : none_begun ≡ begun_but none_begun 0
none_ended = λ i l. neither_way (0 == l) i
  where
    neither_way : (b : Bool) → false ≡ (not b && false)
    neither_way true = refl
    neither_way false = refl

abbrev so_far : ℕ → List Entry
so_far n = drop (15 - n) flushed_run

abbrev at : ℕ → (ℕ → Bool) → RunProgress
at n lanes = record { past = so_far n; begun = lanes }

round_1 : TurnsTo writes_flushed (round_of 0) (at 0 none_begun) (at 3 begun)
unfolding request_body attributes string uint32
round_1 = (
  at 1 begun,
  (
    (refl, (0, ((omega arith, refl), (so_far 1, ((inl refl, refl), refl))))),
    (
      at 2 begun,
      (
        (refl, (so_far 2, ((inl refl, refl), refl))),
        (
          at 3 begun,
          (
            (
              refl,
              (
                0,
                (
                  reply.Handle (handle 9),
                  (
                    (0, ((refl, omega arith, refl), (refl, refl))),
                    (so_far 3, ((inl refl, refl), refl)),
                  ),
                ),
              ),
            ),
            refl,
          ),
        ),
      ),
    ),
  ),
)

round_2 : TurnsTo writes_flushed (round_of 0) (at 3 begun) (at 4 none_begun)
unfolding request_body attributes string uint32
round_2 = (
  at 4 none_begun,
  (
    (begun_ended, (so_far 4, ((inl refl, refl), refl))),
    (at 4 none_begun, (refl, (at 4 none_begun, (refl, refl)))),
  ),
)

round_3 : TurnsTo writes_flushed (round_of 0) (at 4 none_begun) (at 5 none_begun)
unfolding request_body attributes string uint32
round_3 = (
  at 5 none_begun,
  (
    (none_ended, (so_far 5, ((inl refl, refl), refl))),
    (at 5 none_begun, (refl, (at 5 none_begun, (refl, refl)))),
  ),
)

round_4 : TurnsTo writes_flushed (round_of 0) (at 5 none_begun) (at 8 begun)
unfolding request_body attributes string uint32
round_4 = (
  at 6 begun,
  (
    (refl, (0, ((omega arith, refl), (so_far 6, ((inl refl, refl), refl))))),
    (
      at 7 begun,
      (
        (refl, (so_far 7, ((inl refl, refl), refl))),
        (
          at 8 begun,
          (
            (
              refl,
              (
                0,
                (
                  ok,
                  (
                    (1, ((refl, omega arith, refl), (refl, refl))),
                    (so_far 8, ((inl refl, refl), refl)),
                  ),
                ),
              ),
            ),
            refl,
          ),
        ),
      ),
    ),
  ),
)

round_5 : TurnsTo writes_flushed (round_of 0) (at 8 begun) (at 9 none_begun)
unfolding request_body attributes string uint32
round_5 = (
  at 9 none_begun,
  (
    (begun_ended, (so_far 9, ((inl refl, refl), refl))),
    (at 9 none_begun, (refl, (at 9 none_begun, (refl, refl)))),
  ),
)

round_6 : TurnsTo writes_flushed (round_of 0) (at 9 none_begun) (at 10 none_begun)
unfolding request_body attributes string uint32
round_6 = (
  at 10 none_begun,
  (
    (none_ended, (so_far 10, ((inl refl, refl), refl))),
    (at 10 none_begun, (refl, (at 10 none_begun, (refl, refl)))),
  ),
)

round_7 : TurnsTo writes_flushed (round_of 0) (at 10 none_begun) (at 11 none_begun)
unfolding request_body attributes string uint32
round_7 = (
  at 11 none_begun,
  (
    (none_ended, (so_far 11, ((inl refl, refl), refl))),
    (at 11 none_begun, (refl, (at 11 none_begun, (refl, refl)))),
  ),
)

pub flushed_is_run : IsRun writes_flushed [] flushed_run
unfolding request_body attributes string uint32
flushed_is_run = (
  record {
    opened = [];
    turned = at 0 none_begun;
    ended = at 11 none_begun;
    let_go = at 13 none_begun;
    drained =
        at 15 none_begun;
  },
  (
    record {
      opens = refl;
      turns = refl;
      ends = (
        at 0 none_begun,
        (
          refl,
          (
            7,
            (
              (λ e. absurd cc),
              (
                at 3 begun,
                (
                  round_1,
                  (
                    (λ e. absurd cc),
                    (
                      at 4 none_begun,
                      (
                        round_2,
                        (
                          (λ e. absurd cc),
                          (
                            at 5 none_begun,
                            (
                              round_3,
                              (
                                (λ e. absurd cc),
                                (
                                  at 8 begun,
                                  (
                                    round_4,
                                    (
                                      (λ e. absurd cc),
                                      (
                                        at 9 none_begun,
                                        (
                                          round_5,
                                          (
                                            (λ e. absurd cc),
                                            (
                                              at 10 none_begun,
                                              (
                                                round_6,
                                                (
                                                  (λ e. absurd cc),
                                                  (at 11 none_begun, (round_7, refl)),
                                                ),
                                              ),
                                            ),
                                          ),
                                        ),
                                      ),
                                    ),
                                  ),
                                ),
                              ),
                            ),
                          ),
                        ),
                      ),
                    ),
                  ),
                ),
              ),
            ),
          ),
          refl,
        ),
      );
      lets_go = (
        at 11 none_begun,
        (
          refl,
          (
            refl,
            (
              so_far 13,
              (
                (
                  inr
                      ((0, (refl, (0, ((omega arith, refl), refl)))), inl refl),
                  refl,
                ),
                refl,
              ),
            ),
          ),
        ),
      );
      drains = (
        1,
        (
          omega arith,
          (
            at 15 none_begun,
            (
              (
                at 14 none_begun,
                (
                  (refl, (so_far 14, ((inl refl, refl), refl))),
                  (
                    at 15 none_begun,
                    (
                      (
                        refl,
                        (
                          0,
                          (
                            ok,
                            (
                              (2, ((refl, omega arith, refl), (refl, refl))),
                              (so_far 15, ((inl refl, refl), refl)),
                            ),
                          ),
                        ),
                      ),
                      refl,
                    ),
                  ),
                ),
              ),
              refl,
            ),
          ),
        ),
      );
      answered = refl;
    },
    refl,
  ),
)

-- ---- The machine that serves it

-- The steps of the machine.
abbrev pub flushed_steps : List Step
flushed_steps =
    record { place = 0; request = open_request (record { 0 = 2 }) (codes "a"); choice = choice 0 0; handle = handle 9 }
    ∷ record { place = 1; request = request.Write (handle 9) 0 (codes "hu"); choice = choice 0 0; handle = handle 8 }
    ∷ record { place = 2; request = request.Close (handle 9); choice = choice 0 0; handle = handle 8 }
    ∷ []

pub flushed_asked : asked_in flushed_steps ≡ requests_sent flushed_run
flushed_asked = refl

pub flushed_served : AreServed (config 0) (answer flushed_run) hello flushed_steps
unfolding components
flushed_served = ((omega arith, refl), refl, ((omega arith, refl), refl, ((omega arith, refl), refl, tt)))

-- ---- The statements about it

abbrev pub flushed_reported : List (List Outcome)
flushed_reported = (outcome.Opened ∷ outcome.Done ∷ outcome.Done ∷ outcome.Done ∷ outcome.Done ∷ []) ∷ []

pub flushed_reports : outcomes_below flushed_run 1 ≡ flushed_reported
flushed_reports = refl

pub flushed_calls : WritesAndFlushes writes_flushed.lanes writes_flushed flushed_run flushed_reported 0 2 (codes "hu")
unfolding request_body attributes string uint32
flushed_calls =
    record {
      slot = 0;
      some = omega arith;
      writes = refl;
      flusher = 4;
      later = omega arith;
      flushes = refl;
      between = refl;
      written = refl;
      flushed = refl;
      file = record { grant = 0; readable = false; writable = true; offset = 0 };
      buffer = record { len = 8; bytes = []; deferred = []; reading = None };
      there = refl;
      handle = handle 9;
      came = refl;
      opener = 0;
      into = 0;
      options = to_write;
      path = codes "a";
      opens = refl;
      asked_by = refl;
      plain = refl;
    }

-- If no other request comes between.
pub none_between : OthersLeave (config 0) hello flushed_run flushed_steps (0, 2)
    (1, request.Write (handle 9) 0 (codes "hu")) [] 0
none_between = λ place above below out. absurd (omega (arith, above, below))

pub flushed_alone : WritesAlone (config 0) hello flushed_run flushed_steps 0 2 (handle 9)
unfolding components
flushed_alone =
    record {
      w = (1, request.Write (handle 9) 0 (codes "hu"));
      written = [];
      asks = refl;
      held = record { file = 0; readable = false; writable = true; append = false };
      is_open = refl;
      way = (refl, refl);
      others = none_between;
    }

pub flushed_is_put : bytes_of (tree_at (config 0) hello flushed_steps 2) 0 ≡ codes "hullo"
unfolding components
flushed_is_put = refl

pub flushed_puts : PutsInto (config 0) hello flushed_run flushed_steps 0 2 (handle 9) 0 (codes "hu")
unfolding components
flushed_puts =
    record {
      w = (1, request.Write (handle 9) 0 (codes "hu"));
      written = [];
      asks = refl;
      held = record { file = 0; readable = false; writable = true; append = false };
      is_open = refl;
      way = (refl, refl);
      puts = λ others. refl;
    }

-- ---- Cases that are no such write

-- A lane that opens the file to append.
abbrev pub to_append : List Lane
to_append = record {
  calls = call.OpenFile 0 (record to_write { append = true }) (codes "a") ∷ call.Buffer 0 8 ∷ call.BufWriteAll 0
      (codes "hu") ∷ call.Cwd (codes "d") ∷ call.BufFlush 0 ∷ [];
} ∷ []

pub appends_none : WritesAndFlushes to_append writes_flushed flushed_run flushed_reported 0 2 (codes "hu") → ⊥
appends_none f = by_opener f.opener f.opens f.plain
  where
    by_opener : (opener : ℕ) → call_in to_append 0 opener ≡ Some (call.OpenFile f.into f.options f.path)
        → f.options.append ≡ false → ⊥
    by_opener zero opens plain =
        (let same : record to_write { append = true } ≡ f.options = cc in
        let both : true ≡ false = ap (λ (o : OpenOptions). o.append) same ∙ plain in cc)
    by_opener (suc zero) opens plain = cc
    by_opener (suc (suc zero)) opens plain = cc
    by_opener (suc (suc (suc zero))) opens plain = cc
    by_opener (suc (suc (suc (suc zero)))) opens plain = cc
    by_opener (suc (suc (suc (suc (suc n))))) opens plain = cc

-- ---- Calls and slots

pub leaves_others : leaves_slot 0 (call.BufRead 1 8) ≡ true
leaves_others = refl

pub leaves_by_path : leaves_slot 0 (call.FsWrite (codes "a") (codes "hi")) ≡ true
leaves_by_path = refl

pub leaves_the_cloned : leaves_slot 0 (call.CloneFile 0 1) ≡ true
leaves_the_cloned = refl

pub leaves_not_itself : leaves_slot 0 (call.BufRead 0 8) ≡ false
leaves_not_itself = refl

pub leaves_none_of_both : leaves_slot 0 (call.Copy 1 0 8) ≡ false
leaves_none_of_both = refl

pub leaves_not_the_clone : leaves_slot 0 (call.CloneFile 1 0) ≡ false
leaves_not_the_clone = refl
