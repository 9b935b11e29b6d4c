-- believed
-- A server of files and directories in memory: its reply to a request, and the tree after it.
use Rattle.std.specs.Prelude.{ℕ, ◌==◌, List, [], ◌∷◌, Option, Some, None, if◌then◌else◌}
use Rattle.sftp_model.specs.declared.config.Choice.{Choice}
use Rattle.sftp_model.specs.declared.config.Limits.{Limits}
use Rattle.sftp_model.specs.declared.config.ServerConfig.{ServerConfig}
use Rattle.sftp_model.specs.declared.request.Request.{Request}
use Rattle.sftp_model.specs.declared.request.Request.TheVariants as request
use Rattle.sftp_model.specs.declared.reply.Reply.{Reply}
use Rattle.sftp_model.specs.declared.reply.Reply.TheVariants as reply
use Rattle.sftp_model.specs.Frames.{limits_content}
use Rattle.sftp_model.specs.Readings.{has_bit}
use Rattle.sftp_model.specs.Numbers.{SSH_FX_OP_UNSUPPORTED, SSH_FX_OK, POSIX_RENAME, FSYNC, EXPAND_PATH, COPY_DATA}
use Rattle.sftp_model.specs.Answers.{status}
use Rattle.machine_model.specs.Components.{components}
use Rattle.machine_model.specs.FileTree.{FileTree, entries_of, file_of, node_at, opened_at}
use Rattle.machine_model.specs.HandleRequests.{
  Answer,
  after_close,
  after_copy,
  after_fsetstat,
  after_fstat,
  after_fsync,
  after_open,
  after_read,
  after_write,
  refusal_answer,
}
use Rattle.machine_model.specs.NameRequests.{
  after_mkdir,
  after_opendir,
  after_posix_rename,
  after_readdir,
  after_realpath,
  after_remove,
  after_rename,
  after_rmdir,
  after_setstat,
  after_stat,
}

-- An extension, by its bit, that is not offered is not known.
abbrev pub where_offered : FileTree → ServerConfig → ℕ → Answer → Answer
where_offered tree config bit answer = if has_bit config.extensions.0 bit then answer else
    refusal_answer tree SSH_FX_OP_UNSUPPORTED

-- The reply to the query for limits (OpenSSH's PROTOCOL, section 4.8).
abbrev pub limits_reply : Option Limits → Reply
limits_reply None = status SSH_FX_OP_UNSUPPORTED
limits_reply (Some limits) = reply.Extended (limits_content limits)

-- The reply to a request that is not refused; `handle` is the one that an OPEN or an OPENDIR is granted.
abbrev pub tree_answer : FileTree → ServerConfig → Request → ℕ → List ℕ → Answer
tree_answer tree config (request.OpenFile path flags attrs) cap handle =
    after_open tree handle flags.0 (components path) (node_at tree (components path))
tree_answer tree config (request.Close h) cap handle = after_close tree h (opened_at tree h)
tree_answer tree config (request.Read h offset len) cap handle =
    after_read tree cap offset len (file_of (opened_at tree h))
tree_answer tree config (request.Write h offset content) cap handle =
    after_write tree offset content (file_of (opened_at tree h))
tree_answer tree config (request.Stat path) cap handle = after_stat tree (node_at tree (components path))
tree_answer tree config (request.Lstat path) cap handle = after_stat tree (node_at tree (components path))
tree_answer tree config (request.Fstat h) cap handle = after_fstat tree (opened_at tree h)
tree_answer tree config (request.Setstat path attrs) cap handle =
    after_setstat tree attrs (node_at tree (components path))
tree_answer tree config (request.Fsetstat h attrs) cap handle = after_fsetstat tree attrs (file_of (opened_at tree h))
tree_answer tree config (request.Remove path) cap handle = after_remove tree (components path)
    (node_at tree (components path))
tree_answer tree config (request.Mkdir path attrs) cap handle =
    after_mkdir tree (components path) (node_at tree (components path))
tree_answer tree config (request.Rmdir path) cap handle = after_rmdir tree (components path)
    (node_at tree (components path))
tree_answer tree config (request.Opendir path) cap handle = after_opendir tree handle (components path)
    (node_at tree (components path))
tree_answer tree config (request.Readdir h) cap handle = after_readdir tree cap h (entries_of (opened_at tree h))
tree_answer tree config (request.Realpath path) cap handle = after_realpath tree (components path)
tree_answer tree config (request.ExpandPath path) cap handle = where_offered tree config EXPAND_PATH
    (after_realpath tree (components path))
tree_answer tree config (request.Rename old to) cap handle = after_rename tree (components old) (components to)
    (node_at tree (components old)) (node_at tree (components to))
tree_answer tree config (request.PosixRename old to) cap handle =
    where_offered tree config POSIX_RENAME (after_posix_rename tree (components old) (components to)
    (node_at tree (components old)) (node_at tree (components to)))
tree_answer tree config (request.Fsync h) cap handle = where_offered tree config FSYNC
    (after_fsync tree (file_of (opened_at tree h)))
tree_answer tree config (request.CopyData from from_offset len to to_offset) cap handle =
    where_offered tree config COPY_DATA (after_copy tree from_offset len to_offset (file_of (opened_at tree from))
    (file_of (opened_at tree to)))
tree_answer tree config request.LimitsQuery cap handle = (limits_reply config.limits, tree)
tree_answer tree config other cap handle = refusal_answer tree SSH_FX_OP_UNSUPPORTED

-- The first of the choices; after the last, no request is refused and no reply is capped.
abbrev pub first_choice : List Choice → Choice
first_choice [] = record { refuse = SSH_FX_OK; cap = 0 }
first_choice (choice ∷ choices) = choice

-- The reply to a request, and the tree after it. A choice may refuse any request, which changes nothing; its cap bounds
-- the bytes of a DATA and the entries of READDIR's NAME.
abbrev pub apply : FileTree → ServerConfig → Request → Choice → List ℕ → Answer
apply tree config r choice handle = if choice.refuse == SSH_FX_OK then tree_answer tree config r choice.cap handle else
    refusal_answer tree choice.refuse
