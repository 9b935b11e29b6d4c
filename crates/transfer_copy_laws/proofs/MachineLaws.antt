-- What the file machine answers a READ by.
use Rattle.std.proofs.Common.{◌≡◌, ◌≤◌, ℕ, ◌==◌, Bool, true, false, List, take, drop, refl, sym, ap, arith, Some, if◌then◌else◌, not}
use Rattle.std.specs.Prelude.{nat_le}
use Rattle.std.proofs.lemmas.Bool.Decides.{nat_tests}
use Rattle.machine_model.specs.declared.opened.Held.{Held}
use Rattle.machine_model.specs.FileTree.{FileTree, bytes_of, size_of}
use Rattle.machine_model.specs.HandleRequests.{after_read, capped_at, refusal_answer}
use Rattle.sftp_model.specs.Numbers.{SSH_FX_EOF, SSH_FX_FAILURE, SSH_FX_PERMISSION_DENIED}
use Rattle.sftp_model.specs.declared.reply.Reply.{Reply}
use Rattle.sftp_model.specs.declared.reply.Reply.TheVariants as reply

abbrev bytes_in : List ℕ → Reply → List ℕ
bytes_in other (reply.Content bytes) = bytes
bytes_in other r = other

by_tests : (tree : FileTree) (a b c : Bool) (given bytes : List ℕ)
    → (if a then refusal_answer tree SSH_FX_PERMISSION_DENIED
    else if b then refusal_answer tree SSH_FX_FAILURE
    else if c then refusal_answer tree SSH_FX_EOF
    else (reply.Content given, tree)).0 ≡ reply.Content bytes
    → bytes ≡ given
by_tests tree true b c given bytes e = absurd cc
by_tests tree false true c given bytes e = absurd cc
by_tests tree false false true given bytes e = absurd cc
by_tests tree false false false given bytes e = sym (ap (bytes_in given) e)

pub data_is : (tree : FileTree) (held : Held) (cap offset len : ℕ) (bytes : List ℕ)
    → (after_read tree cap offset len (Some held)).0 ≡ reply.Content bytes
    → (n : ℕ) × (bytes ≡ take n (drop offset (bytes_of tree held.file)))
data_is tree held cap offset len bytes e = (
  capped_at cap len,
  by_tests tree (not held.readable) (len == 0) (nat_le (size_of tree held.file) offset)
      (take (capped_at cap len) (drop offset (bytes_of tree held.file))) bytes e,
)

ends_by : (tree : FileTree) (a b c : Bool) (given message language : List ℕ)
    → (if a then refusal_answer tree SSH_FX_PERMISSION_DENIED
    else if b then refusal_answer tree SSH_FX_FAILURE
    else if c then refusal_answer tree SSH_FX_EOF
    else (reply.Content given, tree)).0 ≡ reply.Status SSH_FX_EOF message language
    → c ≡ true
ends_by tree true b c given message language e = absurd cc
ends_by tree false true c given message language e = absurd cc
ends_by tree false false true given message language e = refl
ends_by tree false false false given message language e = absurd cc

pub end_is : (tree : FileTree) (held : Held) (cap offset len : ℕ) (message language : List ℕ)
    → (after_read tree cap offset len (Some held)).0 ≡ reply.Status SSH_FX_EOF message language
    → size_of tree held.file ≤ offset
end_is tree held cap offset len message language e =
    (let at_end : nat_le (size_of tree held.file) offset ≡ true =
    ends_by tree (not held.readable) (len == 0) (nat_le (size_of tree held.file) offset)
    (take (capped_at cap len) (drop offset (bytes_of tree held.file))) message language e in
    grind (arith, nat_tests, at_end))
