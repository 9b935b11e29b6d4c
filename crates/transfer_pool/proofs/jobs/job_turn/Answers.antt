use Rattle.std.proofs.Common.{rules, ◌≡◌, ◌<◌, true, false, length}
use Rattle.transfer_pool.specs.Jobs.{Jobs}
use Rattle.transfer_pool.proofs.JobLaws.{turn_begun, turn_told}
use Rattle.transfer_pool.proofs.jobs.job_turn.Goals as goal

pub returns-in-Told : goal.returns-in-Told
returns-in-Told g c =
    let now : Jobs g.row.L.Denot g.row.J-File.Denot g.J.CopyJobs.History = record {
      session = c.args.sftp.now;
      running = c.args.copier.now.running;
      more = c.args.more;
      notes =
          g.J.CopyJobs.history c.args.jobs.now;
    } in
    let same : false ≡ c.args.more = search rules in
    turn_told g.L.LinkState.state g.J.File.LocalFile.done g.J.File.LocalFile.history g.J.CopyJobs.noted c.args.window
    c.args.most
    now c.tell_next.new.sftp c.tell_next.new.copier.running _ false same c.in-Told.ensures

pub returns-in-Begun : goal.returns-in-Begun
returns-in-Begun g c =
    let now : Jobs g.row.L.Denot g.row.J-File.Denot g.J.CopyJobs.History = record {
      session = c.args.sftp.now;
      running = c.args.copier.now.running;
      more = c.args.more;
      notes =
          g.J.CopyJobs.history c.args.jobs.now;
    } in
    let more : c.args.more ≡ true = search rules in
    let few : length c.args.copier.now.running < c.args.most = search rules in
    turn_begun g.L.LinkState.state g.J.File.LocalFile.done g.J.File.LocalFile.history g.J.CopyJobs.noted c.args.window
    c.args.most
    now c.begin_next.new.copier.running _ c.requires.going c.requires.together more few c.in-Begun.ensures

pub returns-in-Told-tell_next : goal.returns-in-Told-tell_next
returns-in-Told-tell_next g c =
    let now : Jobs g.row.L.Denot g.row.J-File.Denot g.J.CopyJobs.History = record {
      session = c.args.sftp.now;
      running = c.args.copier.now.running;
      more = c.args.more;
      notes =
          g.J.CopyJobs.history c.args.jobs.now;
    } in
    let same : true ≡ c.args.more = search rules in
    turn_told g.L.LinkState.state g.J.File.LocalFile.done g.J.File.LocalFile.history g.J.CopyJobs.noted c.args.window
    c.args.most
    now c.tell_next-2.new.sftp c.tell_next-2.new.copier.running _ true same c.in-Told-tell_next.ensures
