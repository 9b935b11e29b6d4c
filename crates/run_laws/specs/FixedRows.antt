-- A worked run of which everything is given except the ids of its requests. A file is opened and its handle closed.
-- Beside it is a case that nearly is one.
use Rattle.std.specs.Prelude.{ℕ, ◌-◌, ◌≡◌, Bool, ◌∷◌, List, [], codes, drop, None, Some, refl}
use Rattle.std.proofs.Common.{arith, inl, inr, sym}
use Rattle.std.proofs.lemmas.Bool.Decides.{eqb_tells}
use Rattle.ssh_encoding.specs.Writing.{uint32, string}
use Rattle.sftp_model.specs.Options.{default_options}
use Rattle.sftp_model.specs.declared.flags.Extensions.{Extensions}
use Rattle.sftp_model.specs.declared.outcome.Outcome.TheVariants as outcome
use Rattle.sftp_model.specs.declared.reply.Reply.TheVariants as reply
use Rattle.sftp_model.specs.Frames.{request_body, attributes}
use Rattle.machine_model.specs.Components.{components}
use Rattle.plan_model.specs.declared.call.Call.TheVariants as call
use Rattle.plan_model.specs.declared.call.Lane.{Lane}
use Rattle.session_model.specs.declared.entry.Entry.{Entry}
use Rattle.session_model.specs.declared.entry.Entry.TheVariants as entry
use Rattle.session_model.specs.JournalRows.{over}
use Rattle.session_model.specs.RunRows.{zero_begun, zero_ended}
use Rattle.session_model.specs.Runs.{IsRun}
use Rattle.session_model.specs.RowWords.{close, end, handle, ok, open_of, send, submit, take, to_read}
use Rattle.session_model.specs.Served.{IsNumbered, ServesJournal}
use Rattle.session_model.specs.ServedRows.{config, hello_file}
use Rattle.session_model.specs.Settings.{setting_of}
use Rattle.session_model.specs.Turns.{RunProgress, none_begun}
use Rattle.run_laws.specs.Fixed.{IsFixedBy}

abbrev pub opens_a : List Lane
opens_a = record { calls = call.OpenFile 0 to_read (codes "a") ∷ [] } ∷ []

abbrev pub nothing_offered : Extensions
nothing_offered = record { 0 = 0 }

-- The handle of the first grant.
abbrev first_handle : List ℕ
first_handle = 0 ∷ 0 ∷ 0 ∷ 0 ∷ []

-- The ids could be others.
abbrev pub opened_once : List Entry
opened_once =
    take 9 ok
    ∷ send
    ∷ close 9 first_handle
    ∷ entry.LetGo 0
    ∷ end 0 0 outcome.Opened
    ∷ take 7 (reply.Handle first_handle)
    ∷ send
    ∷ submit 0 0 7 (open_of (codes "a"))
    ∷ []

-- The journal after this many entries.
abbrev so_far : ℕ → List Entry
so_far n = drop (8 - n) opened_once

abbrev at : ℕ → (ℕ → Bool) → RunProgress
at n begun = record { past = so_far n; begun = begun }

opened_once_runs : IsRun (setting_of opens_a default_options nothing_offered opened_once) [] opened_once
unfolding request_body attributes string uint32
opened_once_runs = (
  record {
    opened = [];
    turned = at 0 none_begun;
    ended = at 4 none_begun;
    let_go = at 6 none_begun;
    drained =
        at 8 none_begun;
  },
  (
    record {
      opens = refl;
      turns = refl;
      ends = (
        at 0 none_begun,
        (
          refl,
          (
            2,
            (
              (λ e. absurd cc),
              (
                at 3 zero_begun,
                (
                  (
                    at 1 zero_begun,
                    (
                      (refl, (7, ((omega arith, refl), (so_far 1, ((inl refl, refl), refl))))),
                      (
                        at 2 zero_begun,
                        (
                          (refl, (so_far 2, ((inl refl, refl), refl))),
                          (
                            at 3 zero_begun,
                            (
                              (
                                refl,
                                (
                                  7,
                                  (
                                    reply.Handle first_handle,
                                    (
                                      (0, ((refl, omega arith, refl), (refl, refl))),
                                      (so_far 3, ((inl refl, refl), refl)),
                                    ),
                                  ),
                                ),
                              ),
                              refl,
                            ),
                          ),
                        ),
                      ),
                    ),
                  ),
                  (
                    (λ e. absurd cc),
                    (
                      at 4 none_begun,
                      (
                        (
                          at 4 none_begun,
                          (
                            (zero_ended, (so_far 4, ((inl refl, refl), refl))),
                            (at 4 none_begun, (refl, (at 4 none_begun, (refl, refl)))),
                          ),
                        ),
                        refl,
                      ),
                    ),
                  ),
                ),
              ),
            ),
          ),
          refl,
        ),
      );
      lets_go = (
        at 4 none_begun,
        (
          refl,
          (
            refl,
            (
              so_far 6,
              (
                (
                  inr
                      ((0, (refl, (9, ((omega arith, refl), refl)))), inl refl),
                  refl,
                ),
                refl,
              ),
            ),
          ),
        ),
      );
      drains = (
        1,
        (
          omega arith,
          (
            at 8 none_begun,
            (
              (
                at 7 none_begun,
                (
                  (refl, (so_far 7, ((inl refl, refl), refl))),
                  (
                    at 8 none_begun,
                    (
                      (
                        refl,
                        (
                          9,
                          (
                            ok,
                            (
                              (1, ((refl, omega arith, refl), (refl, refl))),
                              (so_far 8, ((inl refl, refl), refl)),
                            ),
                          ),
                        ),
                      ),
                      refl,
                    ),
                  ),
                ),
              ),
              refl,
            ),
          ),
        ),
      );
      answered = refl;
    },
    refl,
  ),
)

opened_once_served : ServesJournal config [] hello_file opened_once hello_file
unfolding components
opened_once_served = ((first_handle, ((omega arith, refl), refl, (handle 8, ((omega arith, refl), refl, refl)))), tt)

opened_once_numbered : IsNumbered opened_once
unfolding uint32
opened_once_numbered place h e =
    elim (eqb_tells 1 place) [
      | inl t ↦ absurd (let no_way : Some ok ≡ Some (reply.Handle h) = rw t.0 at e in cc)
      | inr t ↦ elim (eqb_tells 0 place) [
        | inl u ↦ (let is : Some (reply.Handle first_handle) ≡ Some (reply.Handle h) = rw (t.0, u.0) at e in
            let same : first_handle ≡ h = cc in rw (sym u.1) (sym same))
        | inr u ↦ absurd (let no_way : None ≡ Some (reply.Handle h) = rw (t.0, u.0) at e in cc)
      ]
    ]

pub opened_once_is_fixed : IsFixedBy opens_a default_options nothing_offered [] config [] [] hello_file opened_once
    hello_file
opened_once_is_fixed = record {
  run = opened_once_runs;
  served = opened_once_served;
  picked = (refl, (refl, tt));
  numbered = opened_once_numbered;
}

-- A run that was granted another handle is not such a run.
pub over_is_not_numbered : IsNumbered over → ⊥
unfolding uint32
over_is_not_numbered h = let e : handle 7 ≡ uint32 0 = h 0 (handle 7) refl in absurd cc
