-- A request that is put last into a queue, and its record in the table.
use Rattle.std.specs.Prelude.{
  ◌≡◌,
  ℕ,
  ◌+◌,
  ◌≤◌,
  Bool,
  false,
  List,
  [],
  ◌∷◌,
  ◌++◌,
  map,
  None,
  Vec,
  vec_len,
  vec_capacity,
}
use Rattle.std.specs.FinMap as fin
use Rattle.sftp_model.specs.Answers.{expected_of}
use Rattle.sftp_model.specs.declared.request.Request.{Request}
use Rattle.sftp_wire.specs.Heads.{request_head}
use Rattle.sftp_core.specs.Pieces.{Frame, asked_of, pieces_of}
use Rattle.sftp_core.specs.Table.{IdRecords, count, is_owing}
use Rattle.sftp_core.specs.declared.id_record.IdRecord.TheVariants.{Waiting}

-- The request is last in the queue, with the pieces of its content. It waits in the table under an id that was free,
-- which is 0 if none was in use. The queue has capacity for each CLOSE that may come.
pub record IsPutLast {Z : Type 0} (request : Request) (parts : List (List ℕ)) (wanted : Bool) (id : ℕ)
    (before now : Vec Frame Z) (was is : IdRecords) : Type 0 where
  pub free : fin.get was id ≡ None
  pub first : fin.len was ≡ 0 → id ≡ 0
  pub queued : map asked_of now.items ≡ map asked_of before.items ++ (id, request) ∷ []
  pub pieces : pieces_of now.items ≡ pieces_of before.items ++ request_head request id ∷ parts
  pub len : vec_len now ≡ vec_len before + 1
  pub kept : is ≡ fin.insert was id (Waiting (expected_of request) false wanted)
  pub capacity : vec_len now + count is_owing is ≤ vec_capacity now

-- Only the capacity has changed.
pub record IsUnput {Z : Type 0} (before now : Vec Frame Z) (was is : IdRecords) : Type 0 where
  pub items : now.items ≡ before.items
  pub len : vec_len now ≡ vec_len before
  pub kept : is ≡ was
