-- The journal of an open session is a run so far, and a journal stays one as a fault comes.
use Rattle.std.proofs.Common.{◌≡◌, ◌∙◌, ◌∷◌, [], List, Option, Some, None, false, refl, ap, sym}
use Rattle.std.specs.Option.{unwrap_or}
use Rattle.sftp_model.specs.declared.error.Fault.{Fault}
use Rattle.sftp_core.specs.declared.errors.TakeError.{TakeError}
use Rattle.sftp_core.specs.Core.{Core}
use Rattle.sftp_core.specs.Take.{IsTakeError, RefusesReply, fault_of}
use Rattle.session_model.specs.declared.entry.Entry.{Entry}
use Rattle.session_model.specs.declared.entry.Entry.TheVariants as entry
use Rattle.session_model.specs.Calls.{Setting}
use Rattle.session_model.proofs.CallLaws.{may_next}
use Rattle.session_model.specs.Readings.{was_kept}
use Rattle.session_work.specs.declared.lanes.Lanes.{Lanes}
use Rattle.session_work.specs.SoFar.{IsLeft, IsSoFar, kept_in, kept_past, refused_past}
use Rattle.session_work.specs.Working.{IsWorking, past_of}

-- ---- journals without a fault

pub stands_so_far : (s : Setting) (fault was : Option Fault) (now past : List Entry) → fault ≡ was → now ≡ past
    → IsSoFar s was past → IsSoFar s fault now
stands_so_far s fault was now past same is k = rw same (rw is k)

pub none_kept : (past : List Entry) → was_kept past ≡ false → None ≡ kept_in past
none_kept [] e = refl
none_kept (entry.Event event ∷ past) e = none_kept past e
none_kept (entry.Added lane call ∷ past) e = none_kept past e
none_kept (entry.LetGo lane ∷ past) e = none_kept past e
none_kept (entry.Kept fault ∷ past) e = absurd cc

pub work_so_far : (s : Setting) (w : Lanes) → IsWorking s w → IsSoFar s w.core.fault (past_of w)
work_so_far s w k =
    let g = k.rest.between.good in
    record {
      run = g.run;
      kept = k.rest.between.tied.work.unfailed ∙ none_kept (past_of w) g.unkept;
      next =
          λ none first. may_next s (past_of w) (entry.Kept first) g.calm k.rest.settled g.unkept;
    }

-- ---- errors

pub left_so_far : (s : Setting) (old new : Lanes) → IsLeft old new → IsSoFar s old.core.fault (past_of old)
    → IsSoFar s new.core.fault (past_of new)
left_so_far s old new left k = stands_so_far s _ _ _ _ left.fault left.past k

pub kept_so_far : (s : Setting) (kept : Option Fault) (fault : Fault) (past : List Entry) → IsSoFar s kept past
    → IsSoFar s (Some (unwrap_or kept fault)) (kept_past kept fault past)
kept_so_far s None fault past k = record { run = (k.next refl fault, k.run); kept = refl; next = λ none. absurd cc }
kept_so_far s (Some first) fault past k = k

-- a refused frame
pub refused_so_far : (s : Setting) (e : TakeError) (refusal : Option TakeError) (old new : Core) (past now : List Entry)
    → old.fault ≡ None → IsTakeError e refusal old new → now ≡ refused_past (fault_of e) past
    → IsSoFar s old.fault past → IsSoFar s new.fault now
refused_so_far s e refusal old new past now none h is k = by_kept (fault_of e) h is
  where
    by_kept : (o : Option Fault) → RefusesReply e o refusal old new → now ≡ refused_past o past
        → IsSoFar s new.fault now
    by_kept None same is = stands_so_far s _ _ _ _ (ap (λ (c : Core). c.fault) same) is k
    by_kept (Some fault) same is = stands_so_far s _ _ _ _ (ap (λ (c : Core). c.fault) same.1)
        (is ∙ ap (λ o. kept_past o fault past) (sym none)) (kept_so_far s old.fault fault past k)
