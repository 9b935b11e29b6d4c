-- A put is answered as its OPEN and its WRITEs are, and leaves what they leave.
use Rattle.std.proofs.Common.{◌≡◌, ◌<◌, ◌+◌, ◌^◌, ℕ, false, List, length, Option, Some, None, refl, ap, sym, ◌∙◌, subst, arith}
use Rattle.std.specs.Prelude.{nat_lt}
use Rattle.sftp_model.specs.Frames.{request_body, is_too_long}
use Rattle.sftp_model.specs.Numbers.{MAX_BODY_LEN}
use Rattle.sftp_model.specs.OpenOptions.{flags_of}
use Rattle.sftp_model.specs.declared.flags.OpenFlags.{OpenFlags}
use Rattle.sftp_model.specs.declared.reply.Reply.{Reply}
use Rattle.sftp_model.specs.declared.reply.Reply.TheVariants as reply
use Rattle.sftp_wire.proofs.Lengths.{lengths}
use Rattle.machine_model.specs.Changes.{IsWellFormed}
use Rattle.machine_model.specs.Components.{Name, components}
use Rattle.machine_model.specs.FileTree.{FileTree, node_at}
use Rattle.machine_model.specs.declared.node.Node.{Node}
use Rattle.machine_model.specs.declared.node.Node.TheVariants as node
use Rattle.plan_model.specs.FilePlans.{open_request}
use Rattle.view_model.proofs.LengthLaws.{open_len}
use Rattle.view_model.specs.Blocks.{Kept, without_blocks_of}
use Rattle.view_model.specs.Plain.{Given, pieces, put_node, put_opened, put_pieces, to_put}
use Rattle.view_model.specs.Viewed.{
  Doing,
  Found,
  answered_with,
  close_file_call,
  makes,
  makes_and_writes,
  open_call,
  pure,
  put_at,
  put_by,
  put_of,
  seek_call,
  unless_refused,
  write_file_call,
  write_bytes,
  ◌>>=◌,
}
use Rattle.view_model.specs.ViewOps.{passes_length}
use Rattle.view_model.specs.declared.answer.Answer.{Answer}
use Rattle.view_model.specs.declared.answer.Answer.TheVariants as answer
use Rattle.view_laws.specs.FileCalls.{FilesAt, OpensBy, OpensNode, OpenFilePlace, WritesAt, at_rest, at_start, bare, files_with_open}
use Rattle.view_laws.proofs.DoingLaws.{Holds, Post, holds_after, holds_bind, holds_pure}
use Rattle.view_laws.proofs.GetLaws.{IsAnswered}
use Rattle.view_laws.proofs.KeptBlocks.{Each, IsBlock, dropped_alone, each_but, without_bytes}
use Rattle.view_laws.proofs.PutTrees.{blocks_keep, pieces_told, put_leaves, to_write}

-- the flags of an OPEN don't count in its length
opens_alike : (flags : OpenFlags) (path : List ℕ) → length (request_body (open_request flags path) 0) ≡ length path + 17
unfolding request_body
opens_alike flags path = simp lengths (omega arith)

not_long : (flags : OpenFlags) (path : List ℕ) → passes_length path ≡ false → is_too_long (open_request flags path)
    ≡ false
not_long flags path fits = ap (nat_lt MAX_BODY_LEN) (opens_alike flags path ∙ sym (open_len path)) ∙ fits

-- this was answered, and nothing is open of these files
pub record IsPut (given : Given) (a : Answer) (now : FilesAt) : Type 0 where
  pub answer_is : a ≡ given.0
  pub now_is : now ≡ at_rest given.1

-- the pieces of a put, and what it gives and leaves
abbrev pub pieces_of : ℕ → List ℕ → List (List ℕ)
pieces_of len content = pieces (length content) len content

abbrev pub given_by : ℕ → ℕ → List ℕ → FileTree → List ℕ → Given
given_by len offset content tree path = put_opened (bare tree) (components path) offset (pieces_of len content)
    (to_write tree (components path) (node_at (bare tree) (components path)))

module _ (len : ℕ) (offset : ℕ) (content : List ℕ) (fits : offset + length content < 2 ^ 64) where
  puts_at : (tree : FileTree) (file : ℕ) → Holds len (put_at offset content)
      (files_with_open tree (at_start to_put file))
      (IsPut (put_pieces (bare tree) file offset (pieces_of len content)))
  puts_at tree file =
      holds_after len (seek_call offset) (λ sought. writes) (files_with_open tree (at_start to_put file)) post
      (refl, tt)
      (λ sought now did. subst (λ (m : FilesAt). Holds len writes m post) (sym did)
      (holds_after len (write_file_call content) closes (files_with_open tree there) post (refl, (refl, fits))
      (λ found now did. by_write found now did)))
    where
      there : OpenFilePlace
      there = record (at_start to_put file) { offset = offset }

      post : Post Answer
      post a now = IsPut (put_pieces (bare tree) file offset (pieces (length content) len content)) a now

      closes : Found → Doing Answer
      closes found = makes close_file_call >>= λ closed. pure (put_of found)

      writes : Doing Answer
      writes = makes (write_file_call content) >>= λ found. makes close_file_call >>= λ closed. pure (put_of found)

      by_write : (found : Found) (now : FilesAt) → WritesAt len content
          (record (at_start to_put file) { offset = offset }) (files_with_open tree
          (record (at_start to_put file) { offset = offset })) found now
          → Holds len (makes close_file_call >>= λ closed. pure (put_of found)) now
          (λ a now. IsPut (put_pieces (bare tree) file offset (pieces (length content) len content)) a now)
      by_write found now w =
          subst (λ (m : FilesAt). Holds len (makes close_file_call >>= λ closed. pure (put_of found)) m
          (λ a now. IsPut (put_pieces (bare tree) file offset (pieces (length content) len content)) a now))
          (sym w.now_is)
          (holds_after len close_file_call (λ closed. pure (put_of found)) _
          (λ a now. IsPut (put_pieces (bare tree) file offset (pieces (length content) len content)) a now)
          (refl, tt)
          (λ closed m did. holds_pure len (put_of found) m (λ a now. IsPut
          (put_pieces (bare tree) file offset (pieces (length content) len content)) a now)
          (record {
            answer_is = ap put_of w.found_is ∙ pieces_told file offset (bare tree)
                (pieces (length content) len content);
            now_is = did;
          })))

  -- after the OPEN
  puts_opened : (tree : FileTree) (name : Name) (r : Reply) (left : FileTree) (opened : Found) (now : FilesAt)
      → OpensBy to_put name (at_rest tree) (r, left) opened now
      → Holds len (unless_refused opened (λ code. answer.Refused code) (put_at offset content)) now
      (IsPut (put_opened (bare tree) name offset (pieces_of len content) (r, left)))
  puts_opened tree name (reply.Status code message language) left opened now (e, at) =
      subst (λ (f : Found). Holds len (unless_refused f (λ code. answer.Refused code) (put_at offset content)) now
      (IsPut (answer.Refused code, bare tree))) (sym e)
      (holds_pure len (answer.Refused code) now (IsPut (answer.Refused code, bare tree))
      (record { answer_is = refl; now_is = at }))
  puts_opened tree name other left opened now (e, at) =
      subst (λ (f : Found). Holds len (unless_refused f (λ code. answer.Refused code) (put_at offset content)) now
      (IsPut (put_node (bare left) offset (pieces_of len content) (node_at left name)))) (sym e)
      (by_node (node_at left name) at)
    where
      by_node : (x : Option Node) → OpensNode to_put (bare left) x now
          → Holds len (put_at offset content) now (IsPut (put_node (bare left) offset
          (pieces (length content) len content) x))
      by_node None at = absurd at
      by_node (Some node.Directory) at = absurd at
      by_node (Some (node.File file)) at =
          subst (λ (m : FilesAt). Holds len (put_at offset content) m
          (IsPut (put_pieces (bare left) file offset (pieces (length content) len content)))) (sym at)
          (puts_at left file)

  pub writes_file : (tree : FileTree) (path : List ℕ) → passes_length path ≡ false
      → Holds len (write_bytes path offset content) (at_rest tree) (IsPut (given_by len offset content tree path))
  writes_file tree path short =
      holds_after len (open_call makes_and_writes path) (λ opened. unless_refused opened (λ code. answer.Refused code)
      (put_at offset content))
      (at_rest tree) (IsPut (given_by len offset content tree path))
      (refl, refl, refl, not_long (flags_of makes_and_writes) path short)
      (λ opened now did. puts_opened tree (components path) (to_write tree (components path)
      (node_at (bare tree) (components path))).0
      (to_write tree (components path) (node_at (bare tree) (components path))).1 opened now did)

  pub puts : (block : ℕ) (tree : FileTree) (path : List ℕ) (kept : Kept (List ℕ)) → passes_length path ≡ false
      → IsWellFormed tree
      → Each (IsBlock tree block) kept.entries
      → Holds len (put_by path offset content kept) (at_rest tree)
      (IsAnswered block (given_by len offset content tree path).0 (given_by len offset content tree path).1
      (without_blocks_of (components path) (without_bytes kept)))
  puts block tree path kept short well h =
      let leaves = put_leaves path offset tree (pieces_of len content) well in
      holds_bind len (write_bytes path offset content) (λ a. pure
      (answered_with a (without_blocks_of (components path) kept))) (at_rest tree)
      (IsPut (given_by len offset content tree path)) (IsAnswered block (given_by len offset content tree path).0
      (given_by len offset content tree path).1 (without_blocks_of (components path) (without_bytes kept)))
      (writes_file tree path short)
      (λ a now w. holds_pure len (answered_with a (without_blocks_of (components path) kept)) now
      (IsAnswered block (given_by len offset content tree path).0 (given_by len offset content tree path).1
      (without_blocks_of (components path) (without_bytes kept)))
      (record {
        answer_is = w.answer_is;
        keeps = record {
          now_is = w.now_is;
          blocks = each_but (IsBlock tree block) (IsBlock (given_by len offset content tree path).1 block)
              (components path) kept.entries
              (blocks_keep block (components path) tree (given_by len offset content tree path).1 leaves.keeps) h;
          keys_are = dropped_alone (components path) kept;
        };
      }))
