-- What a copy from the server leaves.
use Rattle.std.proofs.Common.{◌≡◌, ◌≢◌, ◌≤◌, ℕ, zero, suc, ◌+◌, Bool, List, [], ◌∷◌, ◌++◌, take, drop, length, refl, sym, ap, ◌∙◌, subst, arith, if◌then◌else◌}
use Rattle.std.proofs.Math.Dec.{eqb-suc-zero}
use Rattle.std.proofs.lemmas.List.{append_assoc, append-nil, drop-drop, drop_all, drop_min, length-append, length-drop, length-take, take-append-drop}
use Rattle.sftp_model.specs.Pieces.{joined_pieces}
use Rattle.transfer_copy.specs.Local.{Created, LocalAct, Reopened, all_done, naming_acts, part_opened, writes_of}
use Rattle.transfer_copy.specs.Disks.{Disk, IsCopied, after_act}
use Rattle.transfer_copy.specs.Legs.{CopyStep}
use Rattle.transfer_copy.specs.WholeGets.{AreFromTo, GotWhole, ReadPiece, bytes_of}
use Rattle.transfer_copy.specs.declared.get.FileGet.{FileGet}
use Rattle.transfer_copy.proofs.DiskLaws.{one_name, one_name_behind}
use Rattle.transfer_copy.proofs.LegLaws.{same_number}
use Rattle.transfer_copy_laws.specs.UnchangedFiles.{ArePiecesOf, HasFirst}

-- ---- the pieces are the file

-- some bytes of a file, and what stands behind them
taken : (n from : ℕ) (file : List ℕ) → take n (drop from file) ++ drop (from + length (take n (drop from file))) file
    ≡ drop from file
taken n from file =
    let rest = drop from file in
    let behind : drop (from + length (take n rest)) file ≡ drop n rest =
    sym (drop-drop (length (take n rest)) from file) ∙ ap (λ (k : ℕ). drop k rest) (length-take n rest)
    ∙ drop_min n rest in
    ap (λ (l : List ℕ). take n rest ++ l) behind ∙ take-append-drop n rest

one_piece : (n from : ℕ) (file bytes : List ℕ) → bytes ≡ take n (drop from file) → bytes
    ++ drop (from + length bytes) file ≡ drop from file
one_piece n from file bytes is =
    subst (λ (b : List ℕ). b ++ drop (from + length b) file ≡ drop from file) (sym is) (taken n from file)

-- pieces that follow one another, and what stands behind them
all_pieces : (file : List ℕ) (from to : ℕ) (pieces : List ReadPiece) → AreFromTo from pieces to
    → ArePiecesOf file pieces
    → joined_pieces (bytes_of pieces) ++ drop to file ≡ drop from file
all_pieces file from to [] are gives = ap (λ (k : ℕ). drop k file) (sym are)
all_pieces file from to (piece ∷ later) (at, are) ((n, is), gives) =
    append_assoc piece.bytes (joined_pieces (bytes_of later)) (drop to file)
    ∙ ap (λ (l : List ℕ). piece.bytes ++ l) (all_pieces file (from + length piece.bytes) to later are gives)
    ∙ one_piece n from file piece.bytes (is ∙ ap (λ (k : ℕ). take n (drop k file)) at)

ends_at : (from to : ℕ) (pieces : List ReadPiece) → AreFromTo from pieces to
    → from + length (joined_pieces (bytes_of pieces)) ≡ to
ends_at from to [] are = omega (arith, are)
ends_at from to (piece ∷ later) (at, are) =
    (let below = ends_at (from + length piece.bytes) to later are in
    let l = length-append piece.bytes (joined_pieces (bytes_of later)) in omega (arith, below, l))

-- ---- the local name

acts_last : {H : Type 0} (done : LocalAct → H → H) (acts more : List LocalAct) (h : H)
    → all_done done (acts ++ more) h ≡ all_done done more (all_done done acts h)
acts_last done [] more h = refl
acts_last done (first ∷ acts) more h = acts_last done acts more (done first h)

named_by : (part name file : List ℕ) (sync : Bool) (from : ℕ) (pieces : List (List ℕ)) (before after : Disk)
    → part ≢ name → HasFirst part from file before → joined_pieces pieces ≡ drop from file
    → after ≡ all_done after_act (part_opened part from ∷ (writes_of pieces ++ naming_acts sync part name)) before
    → IsCopied part name file before after
named_by part name file sync zero pieces before after apart first is acts =
    let opened : part_opened part 0 ≡ Created part =
    ap (λ (b : Bool). if b then Created part else Reopened part 0) (same_number 0 0 refl) in
    let last : Disk = all_done after_act (Created part ∷ writes_of pieces) before in
    let after_is : after ≡ all_done after_act (naming_acts sync part name) last =
    acts ∙ ap
    (λ (a : LocalAct). all_done after_act (a ∷ (writes_of pieces ++ naming_acts sync part name)) before) opened
    ∙ acts_last after_act (Created part ∷ writes_of pieces) (naming_acts sync part name) before in
    subst (λ (d : Disk). IsCopied part name file before d) (sym after_is)
    (subst (λ (b : List ℕ). IsCopied part name b before (all_done after_act (naming_acts sync part name) last)) is
    (one_name part name sync pieces before last apart refl))
named_by part name file sync (suc k) pieces before after apart first is acts =
    let opened : part_opened part (suc k) ≡ Reopened part (suc k) =
    ap (λ (b : Bool). if b then Created part else Reopened part (suc k)) (eqb-suc-zero k) in
    let last : Disk = all_done after_act (Reopened part (suc k) ∷ writes_of pieces) before in
    let after_is : after ≡ all_done after_act (naming_acts sync part name) last =
    acts ∙ ap
    (λ (a : LocalAct). all_done after_act (a ∷ (writes_of pieces ++ naming_acts sync part name)) before) opened
    ∙ acts_last after_act (Reopened part (suc k) ∷ writes_of pieces) (naming_acts sync part name) before in
    let whole : take (suc k) file ++ joined_pieces pieces ≡ file =
    ap (λ (l : List ℕ). take (suc k) file ++ l) is ∙ take-append-drop (suc k) file in
    subst (λ (d : Disk). IsCopied part name file before d) (sym after_is)
    (subst (λ (b : List ℕ). IsCopied part name b before (all_done after_act (naming_acts sync part name) last)) whole
    (one_name_behind part name (take (suc k) file) sync (suc k) pieces before last apart (first (omega arith)) refl))

-- ---- both

pub come_down : (remote part name file : List ℕ) (sync : Bool) (from len : ℕ) (before after : Disk)
    (legs : List (CopyStep FileGet Disk)) → part ≢ name
    → from ≤ length file → HasFirst part from file before
    → (whole : GotWhole after_act remote part name sync from len before after legs) → ArePiecesOf file whole.pieces
    → length file ≤ whole.last_read.offset → IsCopied part name file before after × (len ≡ length file)
come_down remote part name file sync from len before after legs apart small first whole gives over =
    let none : drop len file ≡ [] = drop_all len file (subst (λ (k : ℕ). length file ≤ k) whole.at_end over) in
    let pieces : joined_pieces (bytes_of whole.pieces) ≡ drop from file =
    sym (append-nil (joined_pieces (bytes_of whole.pieces))) ∙ ap
    (λ (l : List ℕ). joined_pieces (bytes_of whole.pieces) ++ l) (sym none)
    ∙ all_pieces file from len whole.pieces whole.in_order gives in
    let end = ends_at from len whole.pieces whole.in_order in
    let many : length (joined_pieces (bytes_of whole.pieces)) ≡ length (drop from file) =
    ap (λ (l : List ℕ). length l) pieces in
    let rest = length-drop from file in (
      named_by part name file sync from (bytes_of whole.pieces) before after apart first pieces whole.acts,
      omega (arith, end, many, rest, small),
    )
