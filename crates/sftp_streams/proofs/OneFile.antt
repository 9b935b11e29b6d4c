-- The pieces are those of a file that nobody changes: what is handed out are its bytes.
use Rattle.std.proofs.Common.{◌≡◌, ◌≤◌, ℕ, zero, suc, ◌+◌, List, ◌++◌, take, drop, length, sym, ap, ◌∙◌, arith, take-add}
use Rattle.std.proofs.lemmas.List.{length-append, length-drop, take_all, drop-drop}
use Rattle.sftp_streams.specs.Streams.{AreOfFile, PiecesAt, ReachesOffset}

pub run_of_file : (n : ℕ) (file : List ℕ) (pieces : PiecesAt) (first next : ℕ) (given : List ℕ) → AreOfFile file pieces
    → ReachesOffset n pieces first given next
    → (next ≡ first + length given) × (given ≡ take (length given) (drop first file))
run_of_file zero file pieces first next given are (g, stands) =
    (let none = ap length g in omega (arith, stands, none), g ∙ ap (λ k. take k (drop first file)) (sym (ap length g)))
run_of_file (suc n) file pieces first next given are (b, later, d, g, r) =
    let below = run_of_file n file pieces (first + length b) next later are r in
    let len : length given ≡ length b + length later = ap length g ∙ length-append b later in
    let stands = below.0 in (
      omega (arith, len, stands),
      g ∙ (λ i. are first b d i ++ (below.1 ∙ ap (λ l. take (length later) l) (sym (drop-drop (length b) first file)))
          i) ∙ sym (take-add (length b) (length later) (drop first file))
          ∙ ap (λ k. take k (drop first file)) (sym len),
    )

-- and once the end was told they are all of them
pub whole_file : (n : ℕ) (file : List ℕ) (pieces : PiecesAt) (first next : ℕ) (given : List ℕ) → AreOfFile file pieces
    → ReachesOffset n pieces first given next → length file ≤ next → given ≡ drop first file
whole_file n file pieces first next given are r end =
    let run = run_of_file n file pieces first next given are r in
    let stands = run.0 in
    run.1 ∙ take_all (length given) (drop first file) (omega (arith, stands, end, length-drop first file))
