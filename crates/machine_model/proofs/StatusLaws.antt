-- Which requests a STATUS may answer.
use Rattle.std.proofs.Common.{◌≡◌, ℕ, ◌==◌, false, [], refl}
use Rattle.sftp_model.specs.declared.reply.Reply.TheVariants as reply
use Rattle.sftp_model.specs.declared.request.Request.{Request}
use Rattle.sftp_model.specs.declared.request.Request.TheVariants as request
use Rattle.sftp_model.specs.Answers.{MayAnswer, IsAfterHello}
use Rattle.sftp_model.specs.Numbers.{SSH_FX_OK}
use Rattle.machine_model.specs.FileTree.{FileTree}
use Rattle.machine_model.specs.HandleRequests.{Answer}
use Rattle.machine_model.specs.Refusals.{KeepsWhereRefused}

-- an answer that may answer the request, and changes nothing where it refuses it
pub record IsAnswer (tree : FileTree) (r : Request) (x : Answer) : Type 0 where
  pub allowed : MayAnswer r x.0
  pub kept : KeepsWhereRefused tree x.0 x.1

-- a STATUS other than 0 may answer every request but the hello
pub status_allowed : (r : Request) (code : ℕ) → IsAfterHello r → (code == 0) ≡ false
    → MayAnswer r (reply.Status code [] [])
status_allowed (request.Init version) code h e = absurd h
status_allowed (request.OpenFile path flags attrs) code h e = rw e refl
status_allowed (request.Opendir path) code h e = rw e refl
status_allowed (request.Read handle offset len) code h e = rw e refl
status_allowed (request.Readdir handle) code h e = rw e refl
status_allowed (request.Lstat path) code h e = rw e refl
status_allowed (request.Fstat handle) code h e = rw e refl
status_allowed (request.Stat path) code h e = rw e refl
status_allowed (request.Realpath path) code h e = rw e refl
status_allowed (request.Readlink path) code h e = rw e refl
status_allowed (request.ExpandPath path) code h e = rw e refl
status_allowed request.LimitsQuery code h e = rw e refl
status_allowed r code h e = refl

-- a request that a STATUS 0 may answer
abbrev pub IsPlain : Request → Type 0
IsPlain r = IsAfterHello r × MayAnswer r (reply.Status SSH_FX_OK [] [])
