-- believed, except link_seen
-- The address of the server in a command line.
use Rattle.std.specs.Prelude.{◌==◌, ℕ, Bool, List, codes, drop, length, nat_lt, Option, Some, None, if◌then◌else◌}
use Rattle.std.specs.List.{after_first, before_first, position_or_len, starts_with}
use Rattle.std.specs.Str.{bytes_eq}
use Rattle.transfer_args.specs.declared.asked.LinkAt.{LinkAt}
use Rattle.transfer_args.specs.declared.asked.LinkAt.TheVariants as link

-- The control socket of an ssh connection, the address at which the server listens, the files that carry replies and
-- requests, or standard input and output.
pub data LinkWord : Type 0 where
  AtSsh : List ℕ → LinkWord
  AtUnix : List ℕ → LinkWord
  AtTcp : List ℕ → LinkWord
  AtFiles : List ℕ → List ℕ → LinkWord
  AtStdio : LinkWord

-- True for a colon.
abbrev pub is_colon : ℕ → Bool
is_colon b = b == 58

-- The names of two files, with the first colon between them.
abbrev pub files_at : List ℕ → Option LinkWord
files_at word =
    if nat_lt (position_or_len is_colon word) (length word) then
    Some (AtFiles (before_first is_colon word) (after_first is_colon word))
    else None

-- The address of a socket.
abbrev pub socket_at : List ℕ → Option LinkWord
socket_at word =
    if starts_with ◌==◌ word (codes "ssh:") then Some (AtSsh (drop 4 word))
    else if starts_with ◌==◌ word (codes "unix:") then Some (AtUnix (drop 5 word))
    else if starts_with ◌==◌ word (codes "tcp:") then Some (AtTcp (drop 4 word))
    else None

abbrev pub link_at : List ℕ → Option LinkWord
link_at word =
    if bytes_eq word (codes "stdio") then Some AtStdio
    else if starts_with ◌==◌ word (codes "files:") then files_at (drop 6 word)
    else socket_at word

abbrev pub link_seen : LinkAt → LinkWord
link_seen (link.Ssh path) = AtSsh path.now
link_seen (link.Unix path) = AtUnix path.now
link_seen (link.Tcp address) = AtTcp address.now
link_seen (link.Files replies requests) = AtFiles replies.now requests.now
link_seen link.Stdio = AtStdio
