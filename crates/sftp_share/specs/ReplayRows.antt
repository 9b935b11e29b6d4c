-- Worked examples of replays, and near misses beside them.
use Rattle.std.specs.Prelude.{ℕ, ◌≡◌, List, [], ◌∷◌, ◌++◌, codes, refl}
use Rattle.ssh_encoding.specs.Writing.{uint32}
use Rattle.sftp_model.specs.declared.request.Request.{Request}
use Rattle.sftp_model.specs.declared.request.Request.TheVariants as request
use Rattle.sftp_model.specs.declared.reply.Reply.{Reply}
use Rattle.sftp_model.specs.declared.reply.Reply.TheVariants as reply
use Rattle.sftp_model.specs.Answers.{status}
use Rattle.sftp_model.specs.Frames.{no_attributes}
use Rattle.sftp_model.specs.Numbers.{SSH_FX_FAILURE, SSH_FX_OK, SSH_FX_OP_UNSUPPORTED}
use Rattle.machine_model.specs.Components.{components}
use Rattle.machine_model.specs.FileTree.{FileTree}
use Rattle.machine_model.specs.RowWords.{choice, for_reading, open_file, sized}
use Rattle.machine_model.specs.declared.node.Node.TheVariants as node
use Rattle.session_model.specs.declared.event.Event.{Event}
use Rattle.session_model.specs.declared.event.Event.TheVariants.{Submit, Send, Take}
use Rattle.session_model.specs.declared.event.Owner.TheVariants as owner
use Rattle.script_grammar.specs.declared.script.Script.{Script}
use Rattle.script_grammar.specs.Scripts.{empty_script}
use Rattle.sftp_share.specs.declared.outcome.Replay.TheVariants.{Serves, Differs}
use Rattle.sftp_share.specs.Replays.{replay_of}

abbrev handle : List ℕ
handle = 0 ∷ 0 ∷ 0 ∷ 0 ∷ []

abbrev hello : Script
hello = record empty_script { files = (codes "a", codes "hello") ∷ [] }

-- The tree of the file `a`.
abbrev hello_file : FileTree
hello_file = record { names = (codes "a" ∷ [], node.File 0) ∷ []; files = codes "hello" ∷ []; handles = [] }

-- A request of lane 0, and its reply.
abbrev ask : ℕ → Request → List Event
ask id r = Submit (owner.Call 0 0) id r ∷ Send ∷ []

-- The file is opened, read and closed, and the READ returned these bytes.
abbrev reading : List ℕ → List Event
reading bytes =
    ask 1 (open_file (codes "a") for_reading) ++ Take 1 (reply.Handle handle)
    ∷ ask 1 (request.Read handle 0 5) ++ Take 1 (reply.Content bytes)
    ∷ ask 1 (request.Close handle) ++ Take 1 (status SSH_FX_OK) ∷ []

pub serves_reading : replay_of hello (reading (codes "hello"))
    ≡ Serves (record { tree = hello_file; config = hello.server; grants = 1 })
unfolding components uint32
serves_reading = refl

-- Other bytes came: the request at place 1 differs, and the machine's DATA is returned.
pub differs_at_the_read : replay_of hello (reading (0 ∷ [])) ≡ Differs 1 (reply.Content (codes "hello"))
unfolding components uint32
differs_at_the_read = refl

-- The first of two that differ.
pub differs_first : replay_of hello
    (ask 1 (request.Stat (codes "a")) ++ Take 1 (status SSH_FX_OK) ∷ ask 1 (request.Stat (codes "b"))
    ++ Take 1 (status SSH_FX_OK) ∷ []) ≡ Differs 0 (reply.Attrs (sized 5))
unfolding components uint32
differs_first = refl

-- ---- Choices

abbrev refusing : Script
refusing = record hello { choices = choice SSH_FX_FAILURE 0 ∷ [] }

-- The query for limits takes no choice: its reply says that there are none, and the first call is refused.
abbrev after_query : Reply → List Event
after_query answered =
    Submit owner.Setup 1 request.LimitsQuery ∷ Send ∷ Take 1 (status SSH_FX_OP_UNSUPPORTED)
    ∷ ask 1 (request.Stat (codes "a")) ++ Take 1 answered ∷ []

pub query_takes_none : replay_of refusing (after_query (status SSH_FX_FAILURE))
    ≡ Serves (record { tree = hello_file; config = hello.server; grants = 0 })
unfolding components uint32
query_takes_none = refl

-- The call is at place 1, after the query.
pub query_has_a_place : replay_of refusing (after_query (reply.Attrs (sized 5))) ≡ Differs 1 (status SSH_FX_FAILURE)
unfolding components uint32
query_has_a_place = refl

-- ---- Order

abbrev with_directory : FileTree
with_directory = record { names = (codes "d" ∷ [], node.Directory) ∷ []; files = []; handles = [] }

-- The requests are answered in the order of their Submits, in whichever order their replies came. An id belongs to its
-- last request.
pub by_submits : replay_of empty_script
    (Submit (owner.Call 0 0) 1 (request.Mkdir (codes "d") no_attributes)
    ∷ Submit (owner.Call 1 0) 2 (request.Mkdir (codes "d") no_attributes) ∷ Send ∷ Take 2 (status SSH_FX_FAILURE)
    ∷ ask 2 (request.Rmdir (codes "d")) ++ Take 1 (status SSH_FX_OK) ∷ Take 2 (status SSH_FX_OK) ∷ [])
    ≡ Serves (record {
      tree = record { names = []; files = []; handles = [] };
      config = empty_script.server;
      grants =
          0;
    })
unfolding components uint32
by_submits = refl

-- A request without a reply is answered all the same.
pub unanswered_too : replay_of empty_script (Submit (owner.Call 0 0) 1 (request.Mkdir (codes "d") no_attributes) ∷ [])
    ≡ Serves (record { tree = with_directory; config = empty_script.server; grants = 0 })
unfolding components uint32
unanswered_too = refl
