use Rattle.std.proofs.Common.{◌≡◌, ◌∙◌, ◌∷◌, ◌++◌, [], List, ap, subst, sym}
use Rattle.example_client.specs.Downloads.{AreReadsUnderWay, DownloadsBySteps, downloading_of}
use Rattle.example_client.specs.declared.downloads.Reading.{Reading}
use Rattle.example_client.proofs.Downloading.{starts_next, under_way_kept, under_way_more}
use Rattle.example_client.proofs.downloads.start_read.Goals as goal

pub returns-in_err-call-clause-under_way : goal.returns-in_err-call-clause-under_way
returns-in_err-call-clause-under_way g c =
    subst (λ (l : List Reading). AreReadsUnderWay g.L.LinkState.state c.open_read.new.sftp l)
    (sym c.reserve.ensures.items)
    (under_way_kept g.L.LinkState.state c.args.sftp.now c.open_read.new.sftp c.args.reads.now.items c.requires
    c.in_err-call.ensures.1 c.in_err-call.ensures.0.keeps)

pub returns-clause-went : goal.returns-clause-went
returns-clause-went g c =
    let last : Reading = record { file = c.args.file; call = c.in_ok-call.call } in
    let items : c.push_back_reserved.new.self.items ≡ c.args.reads.now.items ++ last ∷ [] =
    c.push_back_reserved.ensures.items ∙ ap (λ (l : List Reading). l ++ last ∷ []) c.reserve.ensures.items in
    λ later. subst (λ (l : List Reading). DownloadsBySteps g.L.LinkState.state
    (downloading_of c.args.sftp.now (c.args.file ∷ later) c.args.reads.now.items [])
    (downloading_of c.open_read.new.sftp later l [])) (sym items)
    (starts_next g.L.LinkState.state c.args.sftp.now c.open_read.new.sftp c.args.file later c.in_ok-call.call
    c.args.reads.now.items c.in_ok-call.ensures.0 c.in_ok-call.ensures.1)

pub returns-clause-under_way : goal.returns-clause-under_way
returns-clause-under_way g c =
    let last : Reading = record { file = c.args.file; call = c.in_ok-call.call } in
    let items : c.push_back_reserved.new.self.items ≡ c.args.reads.now.items ++ last ∷ [] =
    c.push_back_reserved.ensures.items ∙ ap (λ (l : List Reading). l ++ last ∷ []) c.reserve.ensures.items in
    subst (λ (l : List Reading). AreReadsUnderWay g.L.LinkState.state c.open_read.new.sftp l) (sym items)
    (under_way_more g.L.LinkState.state c.args.sftp.now c.open_read.new.sftp c.args.file c.in_ok-call.call
    c.args.reads.now.items c.requires c.in_ok-call.ensures.0 c.in_ok-call.ensures.1)
