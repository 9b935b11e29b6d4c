-- How whole writes begin.
use Rattle.std.proofs.Common.{◌≡◌, ◌∙◌, refl, sym, ap, subst, ℕ, List, Ok, Err, inl, inr}
use Rattle.sftp_model.specs.Paths.{joined_path}
use Rattle.sftp_model.specs.declared.error.Error.{Error}
use Rattle.sftp_model.specs.declared.error.Error.TheVariants as error
use Rattle.sftp_model.specs.declared.outcome.Outcome.TheVariants as outcome
use Rattle.sftp_model.specs.declared.slot.Facts.{Facts}
use Rattle.sftp_model.specs.declared.slot.Move.TheVariants.{Done}
use Rattle.sftp_model.specs.declared.slot.Site.{Site}
use Rattle.plan_model.specs.FilePlans.{open_request}
use Rattle.plan_model.specs.Moves.{Answers, ask_path}
use Rattle.plan_model.specs.WholePlans.{fs_write_next, to_replace}
use Rattle.sftp_core.specs.Core.{Core}
use Rattle.sftp_core.specs.Grant.{GrantValue}
use Rattle.plan_state.specs.declared.stage.Stage.{Stage}
use Rattle.plan_state.specs.Calls.{AsksAndAwaits, CallValue, IsHeldAt, StartsByPlan}
use Rattle.sftp_file.specs.Files.{facts_of}
use Rattle.sftp_fs.specs.Grants.{grant_meaning}
use Rattle.sftp_fs.specs.PathStarts.{AsksFirst, FirstAsks}
use Rattle.sftp_fs.specs.WholeWrites.{WriteStarted, WritesFrom, writes_content}
use Rattle.sftp_fs.specs.declared.fs_write.Writing.TheVariants as writing
use Rattle.sftp_fs.specs.declared.grants.Granting.{Granting}

-- the OPEN is the first request of the plan
opens_first : (path content cwd named : List ℕ) (m : Granting) (old : Core) (site : Site) (answers : Answers) → named
    ≡ joined_path cwd path
    → site.directory ≡ cwd → FirstAsks grant_meaning (writes_content content site (facts_of old) answers) site
    (fs_write_next path content site (facts_of old)) answers (open_request to_replace named) m
opens_first path content cwd named m old site answers is here =
    record {
      first = ap (λ (d : List ℕ). ask_path (open_request to_replace (joined_path d path)) site) here
          ∙ ap (λ (p : List ℕ). ask_path (open_request to_replace p) site) (sym is);
      rest = λ later. refl;
      knows = tt;
    }

pub write_asked : (path content cwd named kept : List ℕ) (facts : Facts) (m : Granting) (old new : Core)
    (call : CallValue Granting)
    → named ≡ joined_path cwd path → facts ≡ facts_of old → kept ≡ content
    → AsksFirst {V = GrantValue} grant_meaning (open_request to_replace named) m old new (Ok call)
    → WritesFrom path content cwd old new (Ok (record { facts = facts; stage = writing.Opening call kept }))
write_asked path content cwd named kept facts m old new call is fixed same h =
    record {
      starts = λ site answers here. asks_of site answers (h.starts (writes_content content site (facts_of old) answers)
          site
          (fs_write_next path content site (facts_of old)) answers
          (opens_first path content cwd named m old site answers is here));
      held = h.under_way;
      keeps = h.keeps;
      spares = h.spares;
    }
  where
    asks_of : (site : Site) (answers : Answers)
        → StartsByPlan {V = GrantValue} grant_meaning (writes_content content site (facts_of old) answers)
        (λ e. Done (outcome.Refused e) site)
        (fs_write_next path content site (facts_of old)) answers old new (Ok call)
        → WriteStarted site (fs_write_next path content site (facts_of old)) answers old new content
        (Ok (record { facts = facts; stage = writing.Opening call kept }))
    asks_of site answers (inl s) = (
      subst (λ (f : Facts). AsksAndAwaits {V = GrantValue} grant_meaning (writes_content content site f answers)
          (fs_write_next path content site (facts_of old)) answers old new call) (sym fixed) s,
      same,
      fixed,
    )
    asks_of site answers (inr s) = absurd (subst (λ (x : Stage). IsHeldAt grant_meaning new call.runner x) s.1
        h.under_way.held)

pub write_refused : (path content cwd named : List ℕ) (m : Granting) (old new : Core) (e : Error) → named
    ≡ joined_path cwd path
    → AsksFirst {V = GrantValue} grant_meaning (open_request to_replace named) m old new (Err e)
    → WritesFrom path content cwd old new (Err e)
write_refused path content cwd named m old new e is h =
    record {
      starts = λ site answers here. refused_as e site answers (h.starts
          (writes_content content site (facts_of old) answers) site
          (fs_write_next path content site (facts_of old)) answers
          (opens_first path content cwd named m old site answers is here));
      held = tt;
      keeps = h.keeps;
      spares = tt;
    }
  where
    refused_as : (e : Error) (site : Site) (answers : Answers)
        → StartsByPlan {V = GrantValue} grant_meaning (writes_content content site (facts_of old) answers)
        (λ e. Done (outcome.Refused e) site)
        (fs_write_next path content site (facts_of old)) answers old new (Err e)
        → WriteStarted site (fs_write_next path content site (facts_of old)) answers old new content (Err e)
    refused_as error.OutOfMemory site answers s = s
    refused_as (error.BackgroundTaskFailure fault) site answers s = s
    refused_as e site answers s = s
