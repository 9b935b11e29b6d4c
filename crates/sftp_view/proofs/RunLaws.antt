-- Things that are done one after another.
use Rattle.std.proofs.Common.{◌≡◌, List, [], ◌++◌, refl, ap, sym, ◌∙◌, subst}
use Rattle.std.specs.Prelude.{Result, Ok, Err}
use Rattle.std.proofs.lemmas.List.{append-nil, append_assoc}
use Rattle.sftp_model.specs.declared.error.Error.{Error}
use Rattle.sftp_model.specs.declared.error.Error.TheVariants as error
use Rattle.sftp_model.specs.declared.outcome.Outcome.{Outcome}
use Rattle.plan_model.specs.declared.call.Call.{Call}
use Rattle.session_model.specs.declared.entry.Entry.{Entry}
use Rattle.session_model.specs.Calls.{calls_added_to}
use Rattle.session_model.specs.Readings.{outcomes_of}
use Rattle.session_driver.specs.Ongoing.{RunState, RunsPart, Part}
use Rattle.session_driver.specs.Session.{IsUnmoved, SessionView}
use Rattle.session_driver.proofs.Joining.{as_part, idle, join, no_memory}
use Rattle.view_model.specs.Calls.{AreFew, call_limit}
use Rattle.view_model.specs.Viewed.{Doing, Made, pure, ◌>>=◌}
use Rattle.view_model.proofs.DoingLaws.{comes_bind, comes_on, comes_self}
use Rattle.sftp_view.specs.Doings.{DoesCalls, IsIdle, MayDo, DoesBySession, going_on}

-- ---- what is done

module _ {T : Type 0} where
  does_on : (f g h : Doing T) (a b c : List Entry) → DoesCalls f g a b → DoesCalls g h b c → DoesCalls f h a c
  does_on f g h a b c first second = record {
    made = first.made ++ second.made;
    came = first.came ++ second.came;
    comes = comes_on f g h first.made second.made first.came second.came first.comes second.comes;
    calls = second.calls ∙ (ap (λ (w : List Call). w ++ second.made) first.calls
        ∙ append_assoc (calls_added_to a 0) first.made second.made);
    outcomes = second.outcomes ∙ (ap (λ (w : List Outcome). w ++ second.came) first.outcomes
        ∙ append_assoc (outcomes_of a 0) first.came second.came);
    uncancelled = λ u. second.uncancelled (first.uncancelled u);
  }

  does_self : (f : Doing T) (a : List Entry) → DoesCalls f f a a
  does_self f a = record {
    made = [];
    came = [];
    comes = comes_self f;
    calls = sym (append-nil (calls_added_to a 0));
    outcomes = sym (append-nil (outcomes_of a 0));
    uncancelled = λ u. u;
  }

does_bind : {A B : Type 0} (m : Doing A) (v : A) (k : A → Doing B) (a b : List Entry) → DoesCalls m (pure v) a b
    → DoesCalls (m >>= k) (k v) a b
does_bind m v k a b d = record {
  made = d.made;
  came = d.came;
  comes = comes_bind m v k d.made d.came d.comes;
  calls = d.calls;
  outcomes = d.outcomes;
  uncancelled = d.uncancelled;
}

-- ---- by a session

unmoved : (a : SessionView) → IsUnmoved a a
unmoved a = record { holds = refl; past = refl }

module _ {S : Type 0} where
  join_any : {p q : Part} {a b c : RunState S} {x : Unit {0}} {result : Result (Unit {0}) Error} → RunsPart p a b (Ok x)
      → RunsPart q b c result
      → RunsPart going_on a c result
  join_any first second = join (λ u v. tt) (λ u past v. tt) first second

  -- nothing was to be done
  pub runs_self : {T U : Type 0} (f : Doing T) (u : U) (a : RunState S) → IsIdle a
      → DoesBySession f (λ (w : U). f) a a (Ok u)
  runs_self f u a here = record {
    ongoing = idle going_on a.seen a.link tt tt here.ready;
    idle = here;
    does =
        does_self f a.seen.progress.past;
  }

  -- nothing was done, and the journal is as it was
  pub runs_still : {T : Type 0} (f : Doing T) (a b : RunState S) → RunsPart going_on a b (Ok tt) → IsIdle b
      → b.seen.progress.past ≡ a.seen.progress.past
      → DoesBySession f (λ (u : Unit {0}). f) a b (Ok tt)
  runs_still f a b part here past = record {
    ongoing = part;
    idle = here;
    does = subst (λ (p : List Entry). DoesCalls f f a.seen.progress.past p) (sym past)
        (does_self f a.seen.progress.past);
  }

  -- one thing, and then another
  pub then_on : {T U V : Type 0} {f : Doing T} {r : U → Doing T} {q : V → Doing T} {a b c : RunState S} {u : U}
      {result : Result V Error}
      → DoesBySession f r a b (Ok u) → DoesBySession (r u) q b c result → DoesBySession f q a c result
  then_on {f = f} {r = r} {q = q} {a = a} {b = b} {c = c} {u = u} {result = Ok v} first second = record {
    ongoing = join_any first.ongoing second.ongoing;
    idle = second.idle;
    does = does_on f (r u) (q v) a.seen.progress.past b.seen.progress.past c.seen.progress.past first.does second.does;
  }
  then_on {result = Err e} first second = record {
    ongoing = join_any first.ongoing second.ongoing;
    idle = tt;
    does =
        tt;
  }

  -- a thing, and what follows from it is left
  pub bound : {A B : Type 0} {m : Doing A} {k : A → Doing B} {a b : RunState S} {result : Result A Error}
      → DoesBySession m pure a b result
      → DoesBySession (m >>= k) k a b result
  bound {m = m} {k = k} {a = a} {b = b} {result = Ok v} run = record {
    ongoing = run.ongoing;
    idle = run.idle;
    does = does_bind m v k a.seen.progress.past b.seen.progress.past run.does;
  }
  bound {result = Err e} run = record { ongoing = run.ongoing; idle = tt; does = tt }

  -- the same, given as another value
  pub gives : {T U V : Type 0} {f : Doing T} {r : U → Doing T} {q : V → Doing T} {a b : RunState S} {u : U} (v : V)
      → DoesBySession f r a b (Ok u)
      → r u ≡ q v → DoesBySession f q a b (Ok v)
  gives {T = T} {f = f} {a = a} {b = b} v run same = record {
    ongoing = run.ongoing;
    idle = run.idle;
    does = subst (λ (w : Doing T). DoesCalls f w a.seen.progress.past b.seen.progress.past) same run.does;
  }

  -- it stopped, whatever was to come of it
  pub stopped : {T U V W : Type 0} {f : Doing T} {r : U → Doing T} {g : Doing V} {q : W → Doing V} {a b : RunState S}
      {e : Error}
      → DoesBySession f r a b (Err e) → DoesBySession g q a b (Err e)
  stopped run = record { ongoing = run.ongoing; idle = tt; does = tt }

  pub part_stopped : {T U : Type 0} {f : Doing T} {r : U → Doing T} {p : Part} {a b : RunState S} {e : Error}
      → RunsPart p a b (Err e)
      → DoesBySession f r a b (Err e)
  part_stopped part = record { ongoing = as_part (λ whole. tt) (λ past so_far. tt) part; idle = tt; does = tt }

  -- no memory was there, at first or after something was done
  pub no_room : {T U : Type 0} {f : Doing T} {r : U → Doing T} (a : RunState S)
      → DoesBySession f r a a (Err error.OutOfMemory)
  no_room a = record { ongoing = no_memory going_on a.seen a.seen a.link tt (unmoved a.seen); idle = tt; does = tt }

  pub no_room_then : {T U V W : Type 0} {f : Doing T} {r : U → Doing T} {g : Doing V} {q : W → Doing V}
      {a b : RunState S} {u : U}
      → DoesBySession f r a b (Ok u) → DoesBySession g q a b (Err error.OutOfMemory)
  no_room_then {b = b} run = record {
    ongoing = join_any run.ongoing (no_memory going_on b.seen b.seen b.link tt (unmoved b.seen));
    idle = tt;
    does = tt;
  }

  pub part_no_room : {T U : Type 0} {f : Doing T} {r : U → Doing T} {p : Part} {a b : RunState S} {x : Unit {0}}
      → RunsPart p a b (Ok x)
      → DoesBySession f r a b (Err error.OutOfMemory)
  part_no_room {b = b} part = record {
    ongoing = join_any part (no_memory going_on b.seen b.seen b.link tt (unmoved b.seen));
    idle = tt;
    does = tt;
  }

-- ---- what may be done

may_go : {T : Type 0} (f g : Doing T) (a b : List Entry) → MayDo f a → DoesCalls f g a b → MayDo g b
may_go f g a b may d = record {
  few = λ outcomes. subst (AreFew call_limit)
      (ap (λ (w : List Call). calls_added_to a 0 ++ w) (ap (λ (m : Made _). m.calls) (d.comes.by outcomes))
      ∙ (sym (append_assoc (calls_added_to a 0) d.made (g outcomes).calls)
      ∙ ap (λ (w : List Call). w ++ (g outcomes).calls) (sym d.calls)))
      (may.few (d.came ++ outcomes));
}

pub may_on : {S T U : Type 0} {f : Doing T} {r : U → Doing T} {a b : RunState S} {u : U} → MayDo f a.seen.progress.past
    → DoesBySession f r a b (Ok u)
    → MayDo (r u) b.seen.progress.past
may_on {f = f} {r = r} {a = a} {b = b} {u = u} may run = may_go f (r u) a.seen.progress.past b.seen.progress.past may
    run.does
