-- What a copy to the server leaves.
use Rattle.std.proofs.Common.{◌≡◌, ◌≤◌, ℕ, ◌+◌, ◌-◌, Bool, List, [], ◌∷◌, ◌++◌, take, drop, length, sym, ap, ◌∙◌, arith}
use Rattle.std.proofs.lemmas.List.{append_assoc, append-nil, drop_all, length-append, length-drop, length-take-le, take-append-drop}
use Rattle.std.proofs.Math.Seq.{take-length}
use Rattle.std.specs.Prelude.{replicate}
use Rattle.machine_model.specs.FileTree.{written_at, resized_bytes}
use Rattle.sftp_model.specs.Pieces.{joined_pieces}
use Rattle.transfer_copy.specs.Local.{LocalAct}
use Rattle.transfer_copy.specs.Legs.{CopyStep}
use Rattle.transfer_copy.specs.WholePuts.{AreWrittenFromTo, AskedWrite, SentWhole, carried_by}
use Rattle.transfer_copy.specs.declared.put.FilePut.{FilePut}
use Rattle.transfer_copy_laws.specs.UnchangedFiles.{written_to}

-- a file of its own size is the same
resized_same : (bytes : List ℕ) → resized_bytes (length bytes) bytes ≡ bytes
resized_same bytes =
    let none : length bytes - length bytes ≡ 0 = omega arith in
    (λ i. take-length bytes i ++ replicate (none i) 0) ∙ append-nil bytes

-- what is written at the end stands behind all
put_last : (bytes piece : List ℕ) → written_at bytes (length bytes) piece ≡ bytes ++ piece
put_last bytes piece =
    let none : drop (length bytes + length piece) bytes ≡ [] =
    drop_all (length bytes + length piece) bytes (omega arith) in
    (λ i. (resized_same bytes i ++ piece) ++ none i) ∙ append-nil (bytes ++ piece)

written_whole : (file : List ℕ) (from to : ℕ) (writes : List AskedWrite) → length file ≡ from
    → AreWrittenFromTo from writes to
    → written_to file writes ≡ file ++ joined_pieces (carried_by writes)
written_whole file from to [] long are = sym (append-nil file)
written_whole file from to (write ∷ later) long (at, are) =
    let first : written_at file write.offset write.bytes ≡ file ++ write.bytes =
    ap (λ (k : ℕ). written_at file k write.bytes) (at ∙ sym long) ∙ put_last file write.bytes in
    let longer : length (file ++ write.bytes) ≡ from + length write.bytes =
    length-append file write.bytes ∙ ap (λ (k : ℕ). k + length write.bytes) long in
    ap (λ (f : List ℕ). written_to f later) first
    ∙ written_whole (file ++ write.bytes) (from + length write.bytes) to later longer are
    ∙ append_assoc file write.bytes (joined_pieces (carried_by later))

ends_at : (from to : ℕ) (writes : List AskedWrite) → AreWrittenFromTo from writes to
    → from + length (joined_pieces (carried_by writes)) ≡ to
ends_at from to [] are = omega (arith, are)
ends_at from to (write ∷ later) (at, are) =
    (let below = ends_at (from + length write.bytes) to later are in
    let l = length-append write.bytes (joined_pieces (carried_by later)) in omega (arith, below, l))

pub go_up : {H : Type 0} (done : LocalAct → H → H) (name part remote file : List ℕ) (sync : Bool) (from len : ℕ) (first
    now : H)
    (legs : List (CopyStep FilePut H))
    → from ≤ length file → (whole : SentWhole done name part remote sync from len first now legs)
    → joined_pieces (carried_by whole.writes) ≡ drop from file
    → (written_to (take from file) whole.writes ≡ file) × (len ≡ length file)
go_up done name part remote file sync from len first now legs small whole gave =
    let end = ends_at from len whole.writes whole.in_order in
    let many : length (joined_pieces (carried_by whole.writes)) ≡ length (drop from file) =
    ap (λ (l : List ℕ). length l) gave in
    let rest = length-drop from file in (
      written_whole (take from file) from len whole.writes (length-take-le from file small) whole.in_order
          ∙ ap (λ (l : List ℕ). take from file ++ l) gave ∙ take-append-drop from file,
      omega (arith, end, many, rest, small),
    )
