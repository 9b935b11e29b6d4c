-- Worked operations: the calls, answers and kept blocks by outcomes, and the same by the files alone.
use Rattle.std.specs.Prelude.{◌≡◌, true, List, [], ◌∷◌, codes, refl}
use Rattle.ssh_encoding.specs.Writing.{string, uint32}
use Rattle.sftp_model.specs.Frames.{attributes, request_body}
use Rattle.sftp_model.specs.declared.error.Error.TheVariants as error
use Rattle.sftp_model.specs.declared.outcome.Outcome.{Outcome}
use Rattle.sftp_model.specs.declared.outcome.Outcome.TheVariants as outcome
use Rattle.machine_model.specs.Components.{components}
use Rattle.machine_model.specs.FileTree.{FileTree}
use Rattle.machine_model.specs.FirstTree.{first_tree}
use Rattle.machine_model.specs.declared.node.Node.TheVariants as node
use Rattle.view_model.specs.Keys.{key_of}
use Rattle.view_model.specs.Kept.{kept_keys}
use Rattle.view_model.specs.Plain.{pieces, plain, plain_op}
use Rattle.view_model.specs.Viewed.{
  close_file_call,
  makes_and_writes,
  open_call,
  read_call,
  reads_only,
  seek_call,
  view_all,
  write_file_call,
}
use Rattle.view_model.specs.ViewOps.{are_ok}
use Rattle.view_model.specs.declared.answer.Answer.TheVariants as answer
use Rattle.view_model.specs.declared.op.ViewOp.{ViewOp}
use Rattle.view_model.specs.declared.op.ViewOp.TheVariants as op

-- ---- Blocks of two bytes, of which one is kept

abbrev pub three_gets : List ViewOp
three_gets = op.Get (codes "a") 0 3 ∷ op.Get (codes "a") 2 1 ∷ op.Get (codes "a") 0 1 ∷ []

abbrev pub abc : FileTree
abc = first_tree ((codes "a", codes "abc") ∷ []) []

pub three_ok : are_ok 2 three_gets ≡ true
three_ok = refl

pub three_plain : plain 9 three_gets abc
    ≡ (answer.Got (codes "abc") ∷ answer.Got (codes "c") ∷ answer.Got (codes "a") ∷ [], abc)
unfolding components request_body string uint32 attributes
three_plain = refl

-- The second get finds its block; the third one doesn't.
pub three_kept : kept_keys 2 1 9 three_gets abc
    ≡ record { entries = (key_of (codes "a" ∷ []) 0, tt) ∷ []; hits = 1; misses = 3 }
unfolding components request_body string uint32 attributes
three_kept = refl

abbrev pub three_outcomes : List Outcome
three_outcomes =
    outcome.Opened ∷ outcome.Count 0 ∷ outcome.Bytes (codes "ab") ∷ outcome.Done
    ∷ outcome.Opened ∷ outcome.Count 2 ∷ outcome.Bytes (codes "c") ∷ outcome.End ∷ outcome.Done
    ∷ outcome.Opened ∷ outcome.Count 0 ∷ outcome.Bytes (codes "ab") ∷ outcome.Done
    ∷ []

pub three_viewed : view_all 2 1 three_gets three_outcomes
    ≡ record {
      calls = open_call reads_only (codes "a") ∷ seek_call 0 ∷ read_call 2 ∷ close_file_call
          ∷ open_call reads_only (codes "a") ∷ seek_call 2 ∷ read_call 2 ∷ read_call 1 ∷ close_file_call
          ∷ open_call reads_only (codes "a") ∷ seek_call 0 ∷ read_call 2 ∷ close_file_call
          ∷ [];
      value = record {
        answers = answer.Got (codes "abc") ∷ answer.Got (codes "c") ∷ answer.Got (codes "a") ∷ [];
        kept = record { entries = (key_of (codes "a" ∷ []) 0, codes "ab") ∷ []; hits = 1; misses = 3 };
      };
      later = [];
    }
unfolding components request_body string uint32 attributes
three_viewed = refl

-- A READ that returns fewer bytes than it may is followed by another.
pub short_reads : view_all 3 9 (op.Get (codes "a") 1 2 ∷ []) (outcome.Opened ∷ outcome.Count 0
    ∷ outcome.Bytes (codes "ab") ∷ outcome.Bytes (codes "c") ∷ outcome.Done ∷ [])
    ≡ record {
      calls = open_call reads_only (codes "a") ∷ seek_call 0 ∷ read_call 3 ∷ read_call 1 ∷ close_file_call ∷ [];
      value = record {
        answers = answer.Got (codes "bc") ∷ [];
        kept = record { entries = (key_of (codes "a" ∷ []) 0, codes "abc") ∷ []; hits = 0; misses = 1 };
      };
      later = [];
    }
unfolding components request_body string uint32 attributes
short_reads = refl

-- A READ that is refused ends its block and the get. The block isn't kept.
pub refused_read : view_all 3 9 (op.Get (codes "a") 0 9 ∷ []) (outcome.Opened ∷ outcome.Count 0
    ∷ outcome.Bytes (codes "ab") ∷ outcome.Refused (error.SftpError 4 [] []) ∷ outcome.Done ∷ [])
    ≡ record {
      calls = open_call reads_only (codes "a") ∷ seek_call 0 ∷ read_call 3 ∷ read_call 1 ∷ close_file_call ∷ [];
      value = record {
        answers = answer.Refused 4 ∷ [];
        kept = record { entries = []; hits = 0; misses = 1 };
      };
      later = [];
    }
unfolding components request_body string uint32 attributes
refused_read = refl

-- ---- A put drops the blocks of its name, by whichever path it was given

abbrev pub put_between : List ViewOp
put_between =
    op.Get (codes "a") 0 9 ∷ op.Put (codes "/a") 1 (codes "z") ∷ op.Get (codes "a") 0 9 ∷ op.Get (codes "b") 0 1 ∷ []

abbrev pub ab : FileTree
ab = first_tree ((codes "a", codes "ab") ∷ []) []

abbrev pub az : FileTree
az = first_tree ((codes "a", codes "az") ∷ []) []

pub between_plain : plain 9 put_between ab
    ≡ (answer.Got (codes "ab") ∷ answer.Put ∷ answer.Got (codes "az") ∷ answer.Refused 2 ∷ [], az)
unfolding components request_body string uint32 attributes
between_plain = refl

pub between_kept : kept_keys 4 8 9 put_between ab
    ≡ record { entries = (key_of (codes "a" ∷ []) 0, tt) ∷ []; hits = 0; misses = 3 }
unfolding components request_body string uint32 attributes
between_kept = refl

pub between_viewed : view_all 4 8 put_between
    (outcome.Opened ∷ outcome.Count 0 ∷ outcome.Bytes (codes "ab") ∷ outcome.End ∷ outcome.Done
    ∷ outcome.Opened ∷ outcome.Count 1 ∷ outcome.Done ∷ outcome.Done
    ∷ outcome.Opened ∷ outcome.Count 0 ∷ outcome.Bytes (codes "az") ∷ outcome.End ∷ outcome.Done
    ∷ outcome.Refused (error.SftpError 2 [] []) ∷ [])
    ≡ record {
      calls = open_call reads_only (codes "a") ∷ seek_call 0 ∷ read_call 4 ∷ read_call 2 ∷ close_file_call
          ∷ open_call makes_and_writes (codes "/a") ∷ seek_call 1 ∷ write_file_call (codes "z") ∷ close_file_call
          ∷ open_call reads_only (codes "a") ∷ seek_call 0 ∷ read_call 4 ∷ read_call 2 ∷ close_file_call
          ∷ open_call reads_only (codes "b")
          ∷ [];
      value = record {
        answers = answer.Got (codes "ab") ∷ answer.Put ∷ answer.Got (codes "az") ∷ answer.Refused 2 ∷ [];
        kept = record { entries = (key_of (codes "a" ∷ []) 0, codes "az") ∷ []; hits = 0; misses = 3 };
      };
      later = [];
    }
unfolding components request_body string uint32 attributes
between_viewed = refl

-- ---- Operations without requests

pub nothing_asked : view_all 4 8 (op.Get (codes "b") 7 0 ∷ []) []
    ≡ record {
      calls = [];
      value = record { answers = answer.Got [] ∷ []; kept = record { entries = []; hits = 0; misses = 0 } };
      later = [];
    }
nothing_asked = refl

-- After the end of a file, an empty block is kept.
pub behind_end : kept_keys 2 8 9 (op.Get (codes "a") 6 4 ∷ op.Get (codes "a") 7 1 ∷ []) abc
    ≡ record { entries = (key_of (codes "a" ∷ []) 3, tt) ∷ []; hits = 1; misses = 1 }
unfolding components request_body string uint32 attributes
behind_end = refl

-- ---- Writes

-- The content is written in pieces, and a gap is filled with zeros.
pub cut_in_pieces : pieces 5 2 (codes "abcde") ≡ codes "ab" ∷ codes "cd" ∷ codes "e" ∷ []
cut_in_pieces = refl

pub makes_a_file : plain_op 2 (op.Put (codes "b") 1 (codes "xyz")) abc
    ≡ (
      answer.Put,
      record {
        names = (codes "a" ∷ [], node.File 0) ∷ (codes "b" ∷ [], node.File 1) ∷ [];
        files = codes "abc" ∷ (0 ∷ codes "xyz") ∷ [];
        handles = [];
      },
    )
unfolding components request_body string uint32 attributes
makes_a_file = refl

pub refused_without_parent : plain_op 2 (op.Put (codes "d/b") 1 (codes "xyz")) abc ≡ (answer.Refused 2, abc)
unfolding components request_body string uint32 attributes
refused_without_parent = refl
