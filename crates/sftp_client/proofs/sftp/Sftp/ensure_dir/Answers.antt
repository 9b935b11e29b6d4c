use Rattle.std.proofs.Common.{◌≡◌, true, false, rules}
use Rattle.sftp_client.specs.CreatedDirs.{is_refusal}
use Rattle.sftp_client.proofs.TreeMaking.{made_found, made_here, made_stops}
use Rattle.sftp_client.proofs.sftp.Sftp.ensure_dir.Goals as goal

pub returns-in-Ok : goal.returns-in-Ok
returns-in-Ok g c =
    made_here g.L.LinkState.state c.args.path.now c.args.self.now c.create_dir.new.self c.in-Ok.ensures

pub returns-then-not-is_refusal : goal.returns-then-not-is_refusal
returns-then-not-is_refusal g c =
    let is : is_refusal c.in-Err.e ≡ false = search rules in
    made_stops g.L.LinkState.state c.args.path.now c.args.self.now c.create_dir.new.self c.in-Err.e c.in-Err.ensures is

pub find_dir-requires : goal.find_dir-requires
find_dir-requires g c = c.in-Err.ensures.usable

pub returns-else-not-is_refusal : goal.returns-else-not-is_refusal
returns-else-not-is_refusal g c =
    let is : is_refusal c.in-Err.e ≡ true = search rules in
    made_found g.L.LinkState.state c.args.path.now c.args.self.now c.create_dir.new.self c.find_dir.new.self c.in-Err.e
    c.find_dir.result c.in-Err.ensures is c.find_dir.ensures
