-- Refused requests change nothing.
use Rattle.std.specs.Prelude.{◌≡◌, ◌≢◌}
use Rattle.sftp_model.specs.declared.reply.Reply.{Reply}
use Rattle.sftp_model.specs.declared.reply.Reply.TheVariants as reply
use Rattle.machine_model.specs.FileTree.{FileTree}
use Rattle.sftp_model.specs.Numbers.{SSH_FX_OK}

-- A STATUS other than OK leaves the tree unchanged.
abbrev pub KeepsWhereRefused : FileTree → Reply → FileTree → Type 0
KeepsWhereRefused before (reply.Status code message language) after = code ≢ SSH_FX_OK → after ≡ before
KeepsWhereRefused before other after = Unit {0}
