-- believed
-- Files that a lane opened with create and truncate, buffered, wrote to and flushed: the bytes that it reads of them
-- later, by the lanes that were passed in and the reported outcomes of their calls.
use Rattle.std.specs.Prelude.{◌≡◌, ℕ, List}
use Rattle.sftp_model.specs.declared.config.Choice.{Choice}
use Rattle.sftp_model.specs.declared.outcome.Outcome.{Outcome}
use Rattle.machine_model.specs.Components.{Name}
use Rattle.plan_model.specs.declared.call.Lane.{Lane}
use Rattle.run_laws.specs.CallsAmong.{GivesContent}
use Rattle.run_laws.specs.Flushes.{FlushNumbers, FlushesLast, IsAloneBut}
use Rattle.run_laws.specs.ReadsBack.{GotBytes, ReadsNamed}
use Rattle.run_laws.specs.Steps.{FeignNoEnd, RefuseNone}

-- The result of a whole run over a file machine, by the outcomes of its lanes. A name belongs to one lane alone, except
-- for four calls that open its file with create and truncate, buffer it, write to it and flush it.
--
-- A later call of the lane that reads the file as a whole returns these bytes. If the choices refuse requests, and none
-- feigns an end, a read may be refused, but the bytes that a read returned are those.
pub record ReadsFlushed (lanes : List Lane) (choices : List Choice) (outcomes : List (List Outcome)) : Type 0 where
  pub flushed : (name : Name) (lane : ℕ) (n : FlushNumbers) (reader : ℕ) (bytes : List ℕ) (ended : Outcome)
      → RefuseNone choices
      → IsAloneBut lanes name lane n
      → FlushesLast lanes outcomes name lane n reader bytes → ReadsNamed lanes outcomes name lane reader ended
      → GivesContent ended bytes
  pub got_flushed : (name : Name) (lane : ℕ) (n : FlushNumbers) (reader : ℕ) (bytes got : List ℕ) → FeignNoEnd choices
      → IsAloneBut lanes name lane n
      → FlushesLast lanes outcomes name lane n reader bytes → GotBytes lanes outcomes name lane reader got → got ≡ bytes
