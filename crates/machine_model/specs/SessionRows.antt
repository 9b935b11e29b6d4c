-- Worked examples of requests one after another, as sessions send them.
use Rattle.std.specs.Prelude.{ℕ, ◌≡◌, List, [], ◌∷◌, ◌++◌, codes, Some, refl, replicate}
use Rattle.ssh_encoding.specs.Writing.{uint32, string}
use Rattle.sftp_model.specs.declared.config.Limits.{Limits}
use Rattle.sftp_model.specs.declared.request.Request.TheVariants as request
use Rattle.sftp_model.specs.declared.reply.Reply.TheVariants as reply
use Rattle.machine_model.specs.declared.node.Node.TheVariants as node
use Rattle.sftp_model.specs.Frames.{no_attributes, limits_content, reply_body, attributes}
use Rattle.sftp_model.specs.Numbers.{SSH_FX_EOF, SSH_FX_FAILURE, SSH_FX_NO_SUCH_FILE, SSH_FX_OK, COPY_DATA}
use Rattle.sftp_model.specs.Answers.{status}
use Rattle.machine_model.specs.Components.{Name, components}
use Rattle.machine_model.specs.FileTree.{FileTree}
use Rattle.machine_model.specs.RowWords.{
  choice,
  config,
  entry,
  in_turn,
  of_directory,
  open_file,
  sized,
  for_reading,
  for_both,
  creating,
  replacing,
}
use Rattle.machine_model.specs.TreeAnswers.{apply}
use Rattle.machine_model.specs.declared.node.Node.{Node}

abbrev none : FileTree
none = record { names = []; files = []; handles = [] }

abbrev files_of : List (Name × Node) → List (List ℕ) → FileTree
files_of names files = record { names = names; files = files; handles = [] }

abbrev a : Name
a = codes "a" ∷ []

abbrev b : Name
b = codes "b" ∷ []

-- The handles of the first two grants.
abbrev h0 : List ℕ
h0 = 0 ∷ 0 ∷ 0 ∷ 0 ∷ []

abbrev h1 : List ℕ
h1 = 0 ∷ 0 ∷ 0 ∷ 1 ∷ []

pub opens_missing : in_turn (config 0) none 0 [] (open_file (codes "b") for_reading ∷ [])
    ≡ (status SSH_FX_NO_SUCH_FILE ∷ [], none)
unfolding components uint32
opens_missing = refl

-- A whole file by READs of two bytes, each of which the cap reduces to one.
pub reads_capped : in_turn (config 0) (files_of ((a, node.File 0) ∷ []) (codes "hello" ∷ [])) 0
    (choice 0 0 ∷ replicate 5 (choice 0 1))
    (open_file (codes "a") for_reading ∷ request.Read h0 0 2 ∷ request.Read h0 1 2 ∷ request.Read h0 2 2 ∷ request.Read
    h0 3 2 ∷ request.Read h0 4 2 ∷ request.Read h0 5 2 ∷ request.Close h0 ∷ [])
    ≡ (
      reply.Handle h0 ∷ reply.Content (codes "h") ∷ reply.Content (codes "e") ∷ reply.Content (codes "l") ∷
          reply.Content (codes "l") ∷ reply.Content (codes "o") ∷ status SSH_FX_EOF ∷ status SSH_FX_OK ∷ [],
      files_of ((a, node.File 0) ∷ []) (codes "hello" ∷ []),
    )
unfolding components uint32
reads_capped = refl

pub reads_whole : in_turn (config 0) (files_of ((a, node.File 0) ∷ []) (codes "hello" ∷ [])) 0 []
    (open_file (codes "a") for_reading ∷ request.Read h0 0 5 ∷ request.Close h0 ∷ [])
    ≡ (
      reply.Handle h0 ∷ reply.Content (codes "hello") ∷ status SSH_FX_OK ∷ [],
      files_of ((a, node.File 0) ∷ []) (codes "hello" ∷ []),
    )
unfolding components uint32
reads_whole = refl

-- A write that goes past the limit is refused, and the file that was created stays.
pub writes_far : in_turn (config 0) none 0 [] (open_file (codes "a") creating ∷ request.Write h0 18446744073709551614
    (1 ∷ []) ∷ request.Close h0 ∷ [])
    ≡ (reply.Handle h0 ∷ status SSH_FX_FAILURE ∷ status SSH_FX_OK ∷ [], files_of ((a, node.File 0) ∷ []) ([] ∷ []))
unfolding components uint32
writes_far = refl

-- A file is written in two parts, moved and read.
pub moves : in_turn (config 0) none 0 [] (
    open_file (codes "a") replacing ∷ request.Write h0 0 (codes "he") ∷ request.Write h0 2 (codes "llo") ∷ request.Close
    h0 ∷ request.Stat (codes "a")
    ∷ request.Rename (codes "a") (codes "b") ∷ open_file (codes "b") for_reading ∷ request.Read h1 0 3 ∷ request.Read h1
    3 3 ∷ request.Read h1 5 3 ∷ request.Close h1 ∷ [])
    ≡ (
      reply.Handle h0 ∷ status SSH_FX_OK ∷ status SSH_FX_OK ∷ status SSH_FX_OK ∷ reply.Attrs (sized 5) ∷ status
          SSH_FX_OK ∷ reply.Handle h1 ∷ reply.Content (codes "hel") ∷ reply.Content (codes "lo") ∷ status SSH_FX_EOF ∷
          status SSH_FX_OK ∷ [],
      files_of ((b, node.File 0) ∷ []) (codes "hello" ∷ []),
    )
unfolding components uint32
moves = refl

-- A refused write leaves its gap to the next one.
pub writes_gap : in_turn (config 0) none 0 (choice 0 0 ∷ choice 0 0 ∷ choice 4 0 ∷ [])
    (open_file (codes "a") creating ∷ request.Write h0 0 (codes "0123") ∷ request.Write h0 4 (codes "4567") ∷
    request.Write h0 8 (codes "89") ∷ request.Close h0 ∷ [])
    ≡ (
      reply.Handle h0 ∷ status SSH_FX_OK ∷ status SSH_FX_FAILURE ∷ status SSH_FX_OK ∷ status SSH_FX_OK ∷ [],
      files_of ((a, node.File 0) ∷ []) ((codes "0123" ++ replicate 4 0 ++ codes "89") ∷ []),
    )
unfolding components uint32
writes_gap = refl

pub copies : in_turn (config COPY_DATA) (files_of ((a, node.File 0) ∷ []) (codes "ab" ∷ [])) 0 []
    (open_file (codes "a") for_reading ∷ open_file (codes "b") creating ∷ request.CopyData h0 0 0 h1 0 ∷ request.Close
    h0 ∷ request.Close h1 ∷ [])
    ≡ (
      reply.Handle h0 ∷ reply.Handle h1 ∷ status SSH_FX_OK ∷ status SSH_FX_OK ∷ status SSH_FX_OK ∷ [],
      files_of ((a, node.File 0) ∷ (b, node.File 1) ∷ []) (codes "ab" ∷ codes "ab" ∷ []),
    )
unfolding components uint32
copies = refl

-- An existing directory is not created again; it is listed to its end.
abbrev with_b : FileTree
with_b = files_of ((a, node.Directory) ∷ (codes "a" ∷ codes "b" ∷ [], node.File 0) ∷ []) ((1 ∷ []) ∷ [])

pub lists : in_turn (config 0) with_b 0 [] (request.Mkdir (codes "a") no_attributes ∷ request.Opendir (codes "a") ∷
    request.Readdir h0 ∷ request.Readdir h0 ∷ request.Close h0 ∷ [])
    ≡ (
      status SSH_FX_FAILURE ∷ reply.Handle h0 ∷ reply.Names (entry (codes "b") (sized 1) ∷ []) ∷ status SSH_FX_EOF ∷
          status SSH_FX_OK ∷ [],
      with_b,
    )
unfolding components uint32
lists = refl

-- The entries that an OPENDIR found stay, whatever happens to the directory.
pub lists_as_opened : in_turn (config 0) with_b 0 (choice 0 0 ∷ [])
    (request.Opendir (codes "a") ∷ request.Setstat (codes "a/b") (sized 3) ∷ request.Mkdir (codes "a/c") no_attributes ∷
    request.Readdir h0 ∷ request.Readdir h0 ∷ request.Close h0 ∷ [])
    ≡ (
      reply.Handle h0 ∷ status SSH_FX_OK ∷ status SSH_FX_OK ∷ reply.Names (entry (codes "b") (sized 1) ∷ []) ∷ status
          SSH_FX_EOF ∷ status SSH_FX_OK ∷ [],
      files_of ((a, node.Directory) ∷ (codes "a" ∷ codes "b" ∷ [], node.File 0) ∷
          (codes "a" ∷ codes "c" ∷ [], node.Directory) ∷ []) ((1 ∷ 0 ∷ 0 ∷ []) ∷ []),
    )
unfolding components uint32
lists_as_opened = refl

pub makes_and_takes : in_turn (config 0) none 0 [] (
    request.Mkdir (codes "x") no_attributes ∷ request.Stat (codes "x") ∷ request.Rmdir (codes "x") ∷ open_file
    (codes "x/y") creating ∷ request.Realpath (codes "x/../z") ∷ [])
    ≡ (
      status SSH_FX_OK ∷ reply.Attrs of_directory ∷ status SSH_FX_OK ∷ status SSH_FX_NO_SUCH_FILE ∷ reply.Names
          (entry (codes "/z") no_attributes ∷ []) ∷ [],
      none,
    )
unfolding components uint32 string reply_body attributes
makes_and_takes = refl

-- A handle outlives its file's name, and a new file under the name is another one.
pub outlives : in_turn (config 0) (files_of ((a, node.File 0) ∷ []) (codes "ab" ∷ [])) 0 []
    (open_file (codes "a") for_both ∷ request.Remove (codes "a") ∷ open_file (codes "a") creating ∷ request.Write h1 0
    (codes "c") ∷ request.Read h0 0 9 ∷ request.Close h0 ∷ request.Close h1 ∷ [])
    ≡ (
      reply.Handle h0 ∷ status SSH_FX_OK ∷ reply.Handle h1 ∷ status SSH_FX_OK ∷ reply.Content (codes "ab") ∷ status
          SSH_FX_OK ∷ status SSH_FX_OK ∷ [],
      files_of ((a, node.File 1) ∷ []) ([] ∷ codes "c" ∷ []),
    )
unfolding components uint32
outlives = refl

abbrev limits : Limits
limits = record { packet_len = 0; read_len = 0; write_len = 0; open_handles = 0 }

pub limits_told : apply none (record { extensions = record { 0 = 0 }; limits = Some limits; cut = 0 })
    request.LimitsQuery (choice 0 0) [] ≡ (reply.Extended (limits_content limits), none)
limits_told = refl
