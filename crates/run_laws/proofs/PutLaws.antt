-- What a call that wrote to a buffered file, and was flushed, did to the file that its handle had.
use Rattle.std.proofs.Common.{◌≡◌, ◌<◌, ℕ, true, List, [], ◌∷◌, length, refl, ap, ◌∙◌, subst, arith, inl}
use Rattle.sftp_model.specs.Slots.{slot_at}
use Rattle.sftp_model.specs.declared.config.Choice.{Choice}
use Rattle.sftp_model.specs.declared.config.ServerConfig.{ServerConfig}
use Rattle.sftp_model.specs.declared.outcome.Outcome.TheVariants as outcome
use Rattle.sftp_model.specs.declared.request.Request.TheVariants as request
use Rattle.sftp_model.specs.declared.slot.Buffer.{Buffer}
use Rattle.sftp_model.specs.declared.slot.Facts.{Facts}
use Rattle.sftp_model.specs.declared.slot.FileAt.{FileAt}
use Rattle.sftp_model.specs.declared.slot.Site.{Site}
use Rattle.sftp_model.specs.declared.slot.Slot.TheVariants.{Buffered}
use Rattle.machine_model.specs.Changes.{IsWellFormed}
use Rattle.machine_model.specs.FileTree.{FileTree}
use Rattle.plan_model.specs.declared.call.Call.TheVariants as call
use Rattle.plan_model.specs.Moves.{Own}
use Rattle.session_model.specs.declared.entry.Entry.{Entry}
use Rattle.session_model.specs.declared.turn.Turn.{Turn}
use Rattle.session_model.specs.Calls.{Setting}
use Rattle.session_model.specs.Readings.{answer, count_submitted, own, count_sent}
use Rattle.session_model.specs.Runs.{IsRun}
use Rattle.session_model.proofs.OverLaws.{runs_are_journals}
use Rattle.run_laws.specs.CallsAmong.{HasEnded}
use Rattle.run_laws.specs.DeferredWrites.{AreWrites, AreWritten, carried_bytes, content_in, places}
use Rattle.run_laws.specs.FlushesWrites.{PutsInto}
use Rattle.run_laws.specs.InJournals.{AreBelow, is_of_call}
use Rattle.run_laws.specs.Steps.{RunOf}
use Rattle.run_laws.proofs.AloneLaws.{run_flushed}
use Rattle.run_laws.proofs.AnewRuns.{bear_all}
use Rattle.run_laws.proofs.BufferLaws.{AreFlushed, flushed_asks}
use Rattle.run_laws.proofs.OpenedLaws.{WritesByGrant, opened_to_write}
use Rattle.run_laws.proofs.OwnLaws.{has_call, own_listed}
use Rattle.run_laws.proofs.SentLaws.{AreKnown, IsAt}
use Rattle.run_laws.proofs.WholeRunSent.{whole_run_sent}

-- The handle had a file open to be written as the first of the call's requests came, and where no other request changes
-- it meanwhile the bytes were put into it.
pub run_puts : (s : Setting) (config : ServerConfig) (choices : List Choice) (first now : FileTree) (turns : List Turn)
    (past : List Entry) (lane k slot g : ℕ) (file : FileAt) (buffer : Buffer) (bytes : List ℕ) (flush_site : Site)
    (flush_facts : Facts) (site : Site) (facts : Facts) (flush_own : Own) (run : RunOf config choices first past now)
    → IsRun s turns past → IsWellFormed first → 0 < length bytes → slot_at site slot ≡ Buffered file buffer
    → (written : HasEnded (call.BufWriteAll slot bytes) site facts (own past lane k) (answer past) outcome.Done)
    → slot_at flush_site slot ≡ slot_at written.left slot
    → HasEnded (call.BufFlush slot) flush_site flush_facts flush_own (answer past) outcome.Done → (handle : List ℕ)
    → WritesByGrant s past lane k g handle → PutsInto config first past run.steps lane k handle file.offset bytes
run_puts s config choices first now turns past lane k slot g file buffer bytes flush_site flush_facts site facts
    flush_own run
    whole_run well_formed some there written same flush handle b = by_own (own past lane k) refl f.asks f.all f.said
  where
    known : AreKnown past (count_submitted past) (own past lane k)
    known = (own_listed past lane k).1

    f : AreFlushed handle file.offset bytes (answer past) (own past lane k)
    f = flushed_asks (answer past) slot file buffer bytes site flush_site facts flush_facts (own past lane k) flush_own
        handle
        (bear_all past (count_submitted past) lane k handle (own past lane k) known
        (λ place has. has_call past lane k place (own past lane k) refl has) b.bears)
        there written same flush

    by_own : (requests : Own) → own past lane k ≡ requests → AreWrites handle file.offset requests
        → carried_bytes requests ≡ bytes
        → AreWritten (answer past) (places requests) → PutsInto config first past run.steps lane k handle file.offset
        bytes
    by_own [] is asks all said = absurd (let l : 0 ≡ length bytes = ap length all in omega (arith, l, some))
    by_own (w ∷ later) is asks all said =
        let mine : is_of_call past (lane, k) w.0 ≡ true = has_call past lane k w.0 (w ∷ later) is (inl refl) in
        let below : AreBelow (count_sent past) (w ∷ later) = subst (AreBelow (count_sent past)) is
        (whole_run_sent s turns past lane k whole_run) in
        let at : IsAt past w = (subst (AreKnown past (count_submitted past)) is known).0.1 in
        let write : IsAt past (w.0, request.Write handle file.offset (content_in w.1)) =
        (at.0, (at.1.0, at.1.1 ∙ asks.0)) in
        let o = opened_to_write s config choices first now past lane k g w.0 file.offset handle (content_in w.1)
        said.0.0 said.0.1.0 run
        (runs_are_journals s turns past whole_run) b mine below.0 write said.0.1.1 in
        record {
          w = w;
          written = later;
          asks = is;
          held = o.0;
          is_open = o.1;
          way = o.2;
          puts = λ others. run_flushed s config choices first now turns past lane k slot file buffer bytes flush_site
              flush_facts site facts flush_own run whole_run well_formed some there written same flush handle b.bears
              (record { w = w; written = later; asks = is; held = o.0; is_open = o.1; way = o.2; others = others });
        }
