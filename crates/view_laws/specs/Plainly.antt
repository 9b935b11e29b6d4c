-- believed: IsPlain
-- The answers to operations and the files that they leave, over a server whose choices refuse nothing.
use Rattle.std.specs.Prelude.{◌≡◌, ℕ, List}
use Rattle.sftp_model.specs.declared.config.Choice.{Choice}
use Rattle.sftp_model.specs.declared.config.ServerConfig.{ServerConfig}
use Rattle.machine_model.specs.Changes.{IsWellFormed}
use Rattle.machine_model.specs.FileTree.{FileTree}
use Rattle.session_model.specs.declared.entry.Entry.{Entry}
use Rattle.session_model.specs.Served.{ServesJournal}
use Rattle.run_laws.specs.Steps.{RefuseNone}
use Rattle.view_model.specs.Kept.{kept_keys}
use Rattle.view_model.specs.Plain.{plain}
use Rattle.view_model.specs.declared.answer.Answer.{Answer}
use Rattle.view_model.specs.declared.op.ViewOp.{ViewOp}
use Rattle.view_laws.specs.FileCalls.{bare}

-- Operations on these files, if a WRITE carries at most `write_len` bytes. The answers, the hits and misses, and the
-- files that are left are those that the files alone determine. The open handles are no part of it.
pub record IsPlain (block capacity write_len : ℕ) (ops : List ViewOp) (tree left : FileTree)
    (answers : List Answer) (hits misses : ℕ) : Type 0 where
  pub answers_are : answers ≡ (plain write_len ops (bare tree)).0
  pub hits_are : hits ≡ (kept_keys block capacity write_len ops (bare tree)).hits
  pub misses_are : misses ≡ (kept_keys block capacity write_len ops (bare tree)).misses
  pub left_is : bare left ≡ (plain write_len ops (bare tree)).1

-- This holds over each server that serves the journal, by choices that refuse nothing, from a tree.
abbrev pub IsPlainThere : ℕ → ℕ → ℕ → List ViewOp → List Entry → List Answer → ℕ → ℕ → Type 0
IsPlainThere block capacity write_len ops past answers hits misses =
    (config : ServerConfig) (choices : List Choice) (tree left : FileTree)
    → RefuseNone choices → IsWellFormed tree → ServesJournal config choices tree past left
    → IsPlain block capacity write_len ops tree left answers hits misses
