-- A lane reads what it wrote to a file that it opened anew, buffered and flushed.
use Rattle.std.proofs.Common.{◌≡◌, ◌≢◌, ◌<◌, ◌≤◌, ℕ, true, List, [], ◌∷◌, Some, refl, subst, arith, inl}
use Rattle.std.specs.List.{list_all}
use Rattle.sftp_model.specs.declared.config.Choice.{Choice}
use Rattle.sftp_model.specs.declared.config.ServerConfig.{ServerConfig}
use Rattle.sftp_model.specs.declared.outcome.Outcome.{Outcome}
use Rattle.machine_model.specs.Changes.{IsWellFormed}
use Rattle.machine_model.specs.Components.{Name}
use Rattle.machine_model.specs.FileTree.{FileTree}
use Rattle.plan_model.specs.declared.call.Call.{Call}
use Rattle.plan_model.specs.declared.call.Call.TheVariants as call
use Rattle.session_model.specs.declared.entry.Entry.{Entry}
use Rattle.session_model.specs.declared.turn.Turn.{Turn}
use Rattle.session_model.specs.Calls.{Setting, call_at, lane_calls}
use Rattle.session_model.specs.Grants.{is_asked_by}
use Rattle.session_model.specs.Journals.{IsJournal}
use Rattle.session_model.specs.Readings.{asked_at, own}
use Rattle.session_model.specs.Runs.{IsRun}
use Rattle.session_model.specs.Served.{ServesJournal}
use Rattle.session_model.proofs.OverLaws.{runs_are_journals}
use Rattle.run_laws.specs.CallsAmong.{GivesUnless}
use Rattle.run_laws.specs.Flushes.{FlushNumbers}
use Rattle.run_laws.specs.InJournals.{KeepsOff}
use Rattle.run_laws.specs.Steps.{AreAllowed, FeignsNoEnd}
use Rattle.run_laws.proofs.AnewBack.{anew_back}
use Rattle.run_laws.proofs.AnewRuns.{with_call_well}
use Rattle.run_laws.proofs.BufferedBears.{bears_there}
use Rattle.run_laws.proofs.CallRequests.{may_hold}
use Rattle.run_laws.proofs.AvoidedNames.{MayWrite}
use Rattle.run_laws.proofs.FlushedLaws.{FlushedCalls, IsFlushed, held_passes, is_flushed}
use Rattle.run_laws.proofs.OwnLaws.{has_call}
use Rattle.run_laws.proofs.PlainRuns.{run_plain}
use Rattle.run_laws.proofs.RoundTripLaws.{Did}

-- A read behind the flush gives the bytes, unless a request of it was refused by one of these choices, where no other
-- call between writes the name.
pub flushed_reads : (allowed : Choice → Type 0) (s : Setting) (turns : List Turn) (past : List Entry)
    (config : ServerConfig) (choices : List Choice) (tree left : FileTree) (name : Name) (lane : ℕ)
    (n : FlushNumbers) (reader : ℕ) (bytes path : List ℕ) (bound : ℕ) (ended : Outcome)
    → ((c : Choice) → allowed c → FeignsNoEnd c) → IsRun s turns past
    → 1 ≤ s.facts.read_len → IsWellFormed tree → ServesJournal config choices tree past left
    → AreAllowed allowed choices
    → list_all (may_hold name) (lane_calls s past lane) ≡ true → ((other : ℕ) → other ≢ lane → KeepsOff past name other)
    → ((i : ℕ) (c : Call) → n.opener < i → i < reader → i ≢ n.writer → call_at s past lane i ≡ Some c → MayWrite name c
    → ⊥)
    → n.flusher < reader → FlushedCalls s past name lane n bytes
    → Did (call.FsRead path bound) s past name lane reader path ended → GivesUnless allowed ended bytes
flushed_reads allowed s turns past config choices tree left name lane n reader bytes path bound ended honest run some
    well
    served among own_calls others spares later f d =
    subst (λ (x : List ℕ). GivesUnless allowed ended x) b.asked.all
    (anew_back allowed s config choices tree left turns past name lane n.opener n.writer reader b.w d.first
    (own past lane n.writer) d.later
    path bound d.site s.facts ended honest run served among well b.opened writer_first d.asks
    (λ place i above below ne mine. held_passes s past name lane i place j own_calls mine
    (λ c is. spares i c above below ne is))
    b.asked.asks b.asked.said
    (with_call_well s past lane n.opener n.writer b.w.0 b.opened.handle j asker b.opened.came
    (λ place a mine is. (b.bears place a mine is).0)
    (λ place mine. (bears_there s past lane n.writer b.w.0 b.opened.handle b.bears place mine).0)
    (λ place mine. (bears_there s past lane n.writer b.w.0 b.opened.handle b.bears place mine).1))
    d.denotes some d.did)
  where
    j : IsJournal s past
    j = runs_are_journals s turns past run

    b : IsFlushed s past name lane n bytes
    b = is_flushed s past name lane n bytes j (run_plain s turns past run) own_calls others f

    asker : is_asked_by (asked_at past b.w.0) lane n.opener ≡ true
    asker = has_call past lane n.opener b.w.0 (b.w ∷ []) b.opened.opens (inl refl)

    writer_first : n.writer < reader
    writer_first = let lt : n.writer < n.flusher = f.order.2 in omega (arith, lt, later)
