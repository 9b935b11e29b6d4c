use Rattle.std.proofs.Common.{◌≡◌, ◌∙◌, ◌∷◌, ◌++◌, [], List, Ok, OnOk, refl, subst, sym}
use Rattle.sftp_core.specs.Core.{Core}
use Rattle.plan_state.specs.declared.poll.Poll.TheVariants.{Pending, Ready}
use Rattle.sftp_fs_read.specs.WholeReads.{CancelsRead, ReadOn}
use Rattle.sftp_client.specs.Sessions.{with_core}
use Rattle.example_client.specs.Downloads.{AreReadsHeld, DownloadsBySteps, downloading_of}
use Rattle.example_client.specs.declared.downloads.Reading.{Reading}
use Rattle.example_client.proofs.Answered.{where_done}
use Rattle.example_client.proofs.Downloading.{awaits_first, ended_usable, ends_first, flush_fails, round_holds, round_usable, still_reading, take_fails}
use Rattle.example_client.proofs.ReadsApart.{reads_ended}
use Rattle.example_client.proofs.downloads.poll_read.Goals as goal

-- ---- the read has ended

pub returns-in_err-bytes-in-Ready-clause-held : goal.returns-in_err-bytes-in-Ready-clause-held
returns-in_err-bytes-in-Ready-clause-held g c =
    let polls = subst (λ (k : Core). ReadOn k c.poll.new.core c.args.reading.call.stage c.poll.new.self.stage
    (Ready c.in-Ready.answer)) c.core.ensures.value c.in-Ready.ensures in
    let cancels = subst (λ (k : Core). CancelsRead k c.cancel.new.core c.poll.new.self.stage)
    c.core-in-Ready.ensures.value c.cancel.ensures in
    reads_ended c.args.sftp.now.core c.poll.new.core c.cancel.new.core c.args.reading c.poll.new.self
    c.args.reads.now.items c.in-Ready.answer c.requires.under_way.held polls cancels

pub returns-in_ok-bytes-in-Ready-clause-held : goal.returns-in_ok-bytes-in-Ready-clause-held
returns-in_ok-bytes-in-Ready-clause-held g c =
    let polls = subst (λ (k : Core). ReadOn k c.poll.new.core c.args.reading.call.stage c.poll.new.self.stage
    (Ready c.in-Ready.answer)) c.core.ensures.value c.in-Ready.ensures in
    let cancels = subst (λ (k : Core). CancelsRead k c.cancel.new.core c.poll.new.self.stage)
    c.core-in-Ready.ensures.value c.cancel.ensures in
    reads_ended c.args.sftp.now.core c.poll.new.core c.cancel.new.core c.args.reading c.poll.new.self
    c.args.reads.now.items c.in-Ready.answer c.requires.under_way.held polls cancels

pub returns-in_ok-bytes-in-Ready-clause-went : goal.returns-in_ok-bytes-in-Ready-clause-went
returns-in_ok-bytes-in-Ready-clause-went g c =
    let polls = subst (λ (k : Core). ReadOn k c.poll.new.core c.args.reading.call.stage c.poll.new.self.stage
    (Ready c.in-Ready.answer)) c.core.ensures.value c.in-Ready.ensures in
    let got = subst (λ r. ReadOn c.args.sftp.now.core c.poll.new.core c.args.reading.call.stage c.poll.new.self.stage
    (Ready r)) c.in_ok-bytes-in-Ready.was polls in
    let cancels = subst (λ (k : Core). CancelsRead k c.cancel.new.core c.poll.new.self.stage)
    c.core-in-Ready.ensures.value c.cancel.ensures in
    let bytes = c.in_ok-bytes-in-Ready.bytes in
    where_done c.push.result (λ done is.
    ends_first g.L.LinkState.state c.args.sftp.now (with_core c.args.sftp.now c.cancel.new.core) c.poll.new.core
    c.args.reading c.poll.new.self c.args.reads.now.items bytes c.args.done.now.items c.push.new.done.items got cancels
    refl
    (subst (λ r. OnOk r (c.push.new.done.items
    ≡ c.args.done.now.items ++ record { file = c.args.reading.file; bytes = bytes } ∷ [])) is c.push.ensures))

pub returns-in_ok-bytes-in-Ready-clause-usable : goal.returns-in_ok-bytes-in-Ready-clause-usable
returns-in_ok-bytes-in-Ready-clause-usable g c =
    let polls = subst (λ (k : Core). ReadOn k c.poll.new.core c.args.reading.call.stage c.poll.new.self.stage
    (Ready c.in-Ready.answer)) c.core.ensures.value c.in-Ready.ensures in
    let got = subst (λ r. ReadOn c.args.sftp.now.core c.poll.new.core c.args.reading.call.stage c.poll.new.self.stage
    (Ready r)) c.in_ok-bytes-in-Ready.was polls in
    let cancels = subst (λ (k : Core). CancelsRead k c.cancel.new.core c.poll.new.self.stage)
    c.core-in-Ready.ensures.value c.cancel.ensures in
    where_done c.push.result (λ done is.
    ended_usable g.L.LinkState.state c.args.sftp.now (with_core c.args.sftp.now c.cancel.new.core) c.poll.new.core
    c.args.reading c.poll.new.self c.in_ok-bytes-in-Ready.bytes c.requires.under_way.usable got cancels refl)

-- ---- it has no result yet

pub returns-in_err-flush-in-Pending-clause-held : goal.returns-in_err-flush-in-Pending-clause-held
returns-in_err-flush-in-Pending-clause-held g c =
    let polls = subst (λ (k : Core). ReadOn k c.poll.new.core c.args.reading.call.stage c.poll.new.self.stage Pending)
    c.core.ensures.value c.in-Pending.ensures in
    let mid = with_core c.args.sftp.now c.poll.new.core in
    let still = still_reading g.L.LinkState.state c.args.sftp.now mid c.args.reading c.poll.new.self
    c.args.reads.now.items c.requires.under_way polls in
    subst (λ (l : List Reading). AreReadsHeld c.flush.new.self.core l) (sym c.push_back_reserved.ensures.items)
    (flush_fails g.L.LinkState.state mid c.flush.new.self _ _ still c.in_err-flush-in-Pending.ensures)

pub returns-in_err-take-in-Pending-clause-held : goal.returns-in_err-take-in-Pending-clause-held
returns-in_err-take-in-Pending-clause-held g c =
    let polls = subst (λ (k : Core). ReadOn k c.poll.new.core c.args.reading.call.stage c.poll.new.self.stage Pending)
    c.core.ensures.value c.in-Pending.ensures in
    let mid = with_core c.args.sftp.now c.poll.new.core in
    let still = still_reading g.L.LinkState.state c.args.sftp.now mid c.args.reading c.poll.new.self
    c.args.reads.now.items c.requires.under_way polls in
    subst (λ (l : List Reading). AreReadsHeld c.take.new.self.core l) (sym c.push_back_reserved.ensures.items)
    (take_fails g.L.LinkState.state mid c.flush.new.self c.take.new.self _ _ still c.in_ok-flush-in-Pending.ensures
    c.in_err-take-in-Pending.ensures)

pub returns-in_ok-take-in-Pending-clause-went : goal.returns-in_ok-take-in-Pending-clause-went
returns-in_ok-take-in-Pending-clause-went g c =
    let polls = subst (λ (k : Core). ReadOn k c.poll.new.core c.args.reading.call.stage c.poll.new.self.stage Pending)
    c.core.ensures.value c.in-Pending.ensures in
    let mid = with_core c.args.sftp.now c.poll.new.core in
    subst (λ (l : List Reading). DownloadsBySteps g.L.LinkState.state
    (downloading_of c.args.sftp.now [] (c.args.reading ∷ c.args.reads.now.items) c.args.done.now.items)
    (downloading_of c.take.new.self [] l c.args.done.now.items)) (sym c.push_back_reserved.ensures.items)
    (awaits_first g.L.LinkState.state c.args.sftp.now mid c.take.new.self c.args.reading c.poll.new.self
    c.args.reads.now.items c.args.done.now.items polls refl (record {
      mid = c.flush.new.self;
      took = c.in_ok-take-in-Pending.field-0;
      sends = c.in_ok-flush-in-Pending.ensures;
      takes = c.in_ok-take-in-Pending.ensures;
    }))

pub returns-in_ok-take-in-Pending-clause-held : goal.returns-in_ok-take-in-Pending-clause-held
returns-in_ok-take-in-Pending-clause-held g c =
    let polls = subst (λ (k : Core). ReadOn k c.poll.new.core c.args.reading.call.stage c.poll.new.self.stage Pending)
    c.core.ensures.value c.in-Pending.ensures in
    let mid = with_core c.args.sftp.now c.poll.new.core in
    let still = still_reading g.L.LinkState.state c.args.sftp.now mid c.args.reading c.poll.new.self
    c.args.reads.now.items c.requires.under_way polls in
    subst (λ (l : List Reading). AreReadsHeld c.take.new.self.core l) (sym c.push_back_reserved.ensures.items)
    (round_holds g.L.LinkState.state mid c.take.new.self _ still (record {
      mid = c.flush.new.self;
      took = c.in_ok-take-in-Pending.field-0;
      sends = c.in_ok-flush-in-Pending.ensures;
      takes = c.in_ok-take-in-Pending.ensures;
    }))

pub returns-in_ok-take-in-Pending-clause-usable : goal.returns-in_ok-take-in-Pending-clause-usable
returns-in_ok-take-in-Pending-clause-usable g c =
    let polls = subst (λ (k : Core). ReadOn k c.poll.new.core c.args.reading.call.stage c.poll.new.self.stage Pending)
    c.core.ensures.value c.in-Pending.ensures in
    let mid = with_core c.args.sftp.now c.poll.new.core in
    let still = still_reading g.L.LinkState.state c.args.sftp.now mid c.args.reading c.poll.new.self
    c.args.reads.now.items c.requires.under_way polls in
    round_usable g.L.LinkState.state c.args.sftp.now mid c.take.new.self _ c.requires.under_way.usable refl still
    (record {
      mid = c.flush.new.self;
      took = c.in_ok-take-in-Pending.field-0;
      sends = c.in_ok-flush-in-Pending.ensures;
      takes = c.in_ok-take-in-Pending.ensures;
    })
