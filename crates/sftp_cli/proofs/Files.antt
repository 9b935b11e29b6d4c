-- How many bytes the files of a server have.
use Rattle.std.proofs.Common.{
  ◌≡◌,
  ◌<◌,
  ◌≤◌,
  ℕ,
  zero,
  suc,
  get_or,
  ◌+◌,
  ◌-◌,
  ◌^◌,
  min,
  List,
  filter,
  length,
  take,
  refl,
  ap,
  sym,
  ◌∙◌,
  arith,
  add-one,
}
use Rattle.std.specs.Prelude.{Option}
use Rattle.std.specs.List.{sum_by}
use Rattle.std.specs.Option.{option_map}
use Rattle.std.proofs.lemmas.List.Sums.{sum_by_push}
use Rattle.std.proofs.lemmas.Option.{slice_get-get_or}
use Rattle.std.proofs.Math.Seq.{take-suc, take-length}
use Rattle.machine_model.specs.Components.{text_of_name}
use Rattle.machine_model.specs.FileTree.{FileTree}
use Rattle.machine_model.specs.Listing.{file_at, has_file, in_name_order, node_bytes}
use Rattle.program_shell.proofs.Files.{Pair, counted, nowhere}
use Rattle.sftp_cli.specs.Summary.{capped_at_u64}
use Rattle.sftp_cli.specs.Printed.{bytes_left, file_len_of}

-- how many bytes the first k files have
abbrev pub file_lens_below : FileTree → ℕ → ℕ
file_lens_below tree zero = 0
file_lens_below tree (suc k) = file_lens_below tree k + file_len_of (file_at tree k)

limited_again : (a b : ℕ) → min (min a (2 ^ 64 - 1) + b) (2 ^ 64 - 1) ≡ min (a + b) (2 ^ 64 - 1)
limited_again a b = omega arith

-- one file more
pub len_step : (mid new : ℕ) (tree : FileTree) (k : ℕ) → mid ≡ capped_at_u64 (file_lens_below tree k) → new
    ≡ min (mid + file_len_of (file_at tree k)) (2 ^ 64 - 1) → new ≡ capped_at_u64 (file_lens_below tree (k + 1))
len_step mid new tree k h n =
    rw (add-one k) (n ∙ ap (λ (m : ℕ). min (m + file_len_of (file_at tree k)) (2 ^ 64 - 1)) h
    ∙ limited_again (file_lens_below tree k) (file_len_of (file_at tree k)))

lens_are : (tree : FileTree) (xs : List Pair) (len : Pair → ℕ) (k : ℕ)
    → ((i : ℕ) → i < length xs → file_len_of (file_at tree i) ≡ len (get_or xs i nowhere)) → k ≤ length xs
    → file_lens_below tree k ≡ sum_by len (take k xs)
lens_are tree xs len zero each le = refl
lens_are tree xs len (suc k) each le =
    let lt : k < length xs = omega (arith, le) in
    let x : Pair = get_or xs k nowhere in
    ap (λ (n : ℕ). n + file_len_of (file_at tree k)) (lens_are tree xs len k each (omega (arith, le)))
    ∙ ap (λ (n : ℕ). sum_by len (take k xs) + n) (each k lt)
    ∙ sym (sum_by_push len (take k xs) x)
    ∙ ap (λ (l : List Pair). sum_by len l) (sym (take-suc xs k nowhere lt))

-- all of them
pub lens_end : (tree : FileTree) (n : ℕ) → n ≡ length (filter has_file tree.names)
    → capped_at_u64 (file_lens_below tree n) ≡ bytes_left tree
lens_end tree n is =
    let xs : List Pair = filter has_file (in_name_order tree.names) in
    let len : Pair → ℕ = λ pair. length (node_bytes tree pair.1) in
    let all : n ≡ length xs = is ∙ sym (counted has_file tree.names) in
    ap (λ (m : ℕ). capped_at_u64 m)
    (lens_are tree xs len n (λ i lt. ap (λ (o : Option Pair). file_len_of
    (option_map (λ pair. (text_of_name pair.0, node_bytes tree pair.1)) o)) (slice_get-get_or xs i nowhere lt))
    (omega (arith, all))
    ∙ ap (λ (l : List Pair). sum_by len l) (ap (λ (k : ℕ). take k xs) all ∙ take-length xs))
