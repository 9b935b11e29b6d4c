use Rattle.std.proofs.Common.{rules, ◌≡◌, ◌∙◌, refl, ap, Bool, true, if◌then◌else◌}
use Rattle.sftp_model.specs.Numbers.{HARDLINK}
use Rattle.sftp_model.specs.declared.request.Request.TheVariants as request
use Rattle.plan_model.specs.Moves.{ask_path, by_reply, done_by, offers, refuses_extension}
use Rattle.plan_model.specs.PathPlans.{from_directory, hard_link_next, path_done}
use Rattle.sftp_file.specs.Files.{facts_of}
use Rattle.sftp_fs.proofs.PathLaws.{two_paths}
use Rattle.sftp_fs.proofs.fs.Fs.start_hard_link.Goals as goal

pub returns : goal.returns
returns c =
    let offered : offers (facts_of c.args.core.now) HARDLINK ≡ true = search rules in
    c.ask_status.ensures c.args.self.now (hard_link_next c.args.old.now c.args.to.now)
    (λ site here. ap (λ (b : Bool). by_reply (if b then ask_path (request.Hardlink (from_directory site c.args.old.now)
    (from_directory site c.args.to.now)) site else refuses_extension HARDLINK site) (done_by site)) offered
    ∙ two_paths path_done (λ a b. request.Hardlink a b) c.args.self.now c.args.old.now c.args.to.now _ _ _
    c.in_ok-old.ensures.path c.in_ok-to.ensures.path refl site here)
