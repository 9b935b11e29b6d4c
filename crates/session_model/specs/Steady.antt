-- believed: IsCancellableRun
-- Invariants of a run so far between two turns.
use Rattle.std.specs.Prelude.{◌≡◌, ℕ, Bool, true, false, List, None}
use Rattle.session_model.specs.declared.entry.Entry.{Entry}
use Rattle.session_model.specs.Readings.{last_cancel, was_kept}
use Rattle.session_model.specs.Calls.{Setting}
use Rattle.session_model.specs.Grants.{next_due, IsSettled}
use Rattle.session_model.specs.Journals.{IsJournal, is_session_open, may_cancel}

-- A run so far whose started lanes may be cancelled.
pub record IsCancellableRun (s : Setting) (past : List Entry) (begun : ℕ → Bool) : Type 0 where
  pub run : IsJournal s past
  pub calm : last_cancel past ≡ None
  pub ready : is_session_open s past ≡ true
  pub unkept : was_kept past ≡ false
  pub cancels : (lane : ℕ) → begun lane ≡ true → may_cancel s past lane ≡ true

-- No grant is to be closed.
pub record HasNothingDue (s : Setting) (past : List Entry) : Type 0 where
  pub settled : next_due s past ≡ None
  pub plain : IsSettled s past
