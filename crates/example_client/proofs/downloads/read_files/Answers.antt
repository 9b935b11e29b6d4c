use Rattle.example_client.proofs.Downloading.{all_downloaded}
use Rattle.example_client.proofs.downloads.read_files.Goals as goal

pub returns-clause-done : goal.returns-clause-done
returns-clause-done g c =
    all_downloaded g.L.LinkState.state c.end_reads.result (λ done. done.items) c.args.files.items c.args.sftp.now
    c.start_reads.new.sftp c.end_reads.new.sftp c.start_reads.new.reads.items c.in_ok-start_reads.ensures.went
    c.end_reads.ensures.done
