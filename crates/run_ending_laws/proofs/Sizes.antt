-- How long files get where requests only build.
use Rattle.std.proofs.Common.{
  ◌≡◌,
  ◌<◌,
  ◌≤◌,
  ◌+◌,
  ◌-◌,
  ℕ,
  zero,
  suc,
  Bool,
  true,
  false,
  List,
  [],
  ◌∷◌,
  ◌++◌,
  length,
  Option,
  Some,
  None,
  if◌then◌else◌,
  refl,
  ap,
  sym,
  ◌∙◌,
  subst,
  arith,
  inl,
  inr,
}
use Rattle.std.specs.Prelude.{◌⊎◌, drop, max, min, nat_lt, replicate, slice_set, take}
use Rattle.std.specs.List.{sum_by}
use Rattle.std.proofs.lemmas.Bool.{cases_lt}
use Rattle.std.proofs.lemmas.Bool.Decides.{eqb_tells, nat_tests}
use Rattle.std.proofs.lemmas.List.{get_or-set_other, get_or-set_same, length-append, length-drop, length-replicate, length-take}
use Rattle.std.proofs.lemmas.List.Sums.{sum_by-set}
use Rattle.sftp_model.specs.declared.request.Request.{Request}
use Rattle.machine_model.specs.Components.{Name}
use Rattle.machine_model.specs.FileTree.{
  FileTree,
  after_loss,
  all_bytes,
  bytes_of,
  file_of,
  is_over,
  is_file_in_use,
  node_at,
  opened_at,
  written_at,
  resized_bytes,
  size_of,
  with_bytes,
  without_handle,
}
use Rattle.machine_model.specs.HandleRequests.{offset_of}
use Rattle.machine_model.specs.Limits.{MAX_FILE_LEN, MAX_TOTAL_LEN}
use Rattle.machine_model.specs.declared.node.Node.{Node}
use Rattle.machine_model.specs.declared.node.Node.TheVariants as node
use Rattle.machine_model.specs.declared.opened.Held.{Held}
use Rattle.plan_model.proofs.Among.{Among}
use Rattle.run_ending_laws.proofs.Building.{Created, Effect, Emptied, Made, OpenedIt, Put, Same, Shut, ShutFile, WritesAt, effect_keeps}
use Rattle.run_ending_laws.proofs.Sums.{IsCovered, IsMarked, Mark, covered_sum, len_at, marks_sum}
use Rattle.run_ending_laws.specs.Claims.{NameClaims, claims_sum}

-- ---- lengths

resized_len : (n : ℕ) (bytes : List ℕ) → length (resized_bytes n bytes) ≡ n
resized_len n bytes =
    let a : length (resized_bytes n bytes) ≡ length (take n bytes) + length (replicate (n - length bytes) 0) =
    length-append (take n bytes) (replicate (n - length bytes) 0) in
    let b : length (take n bytes) ≡ min n (length bytes) = length-take n bytes in
    let zeros : List ℕ = replicate (n - length bytes) 0 in
    let c : length zeros ≡ n - length bytes = length-replicate (n - length bytes) 0 in
    omega (arith, a, b, c)

pub put_len : (bytes : List ℕ) (offset : ℕ) (piece : List ℕ) → length (written_at bytes offset piece)
    ≡ max (length bytes) (offset + length piece)
put_len bytes offset piece =
    let a : length (written_at bytes offset piece) ≡ length (resized_bytes offset bytes ++ piece) + length
    (drop (offset + length piece) bytes) =
    length-append (resized_bytes offset bytes ++ piece) (drop (offset + length piece) bytes) in
    let b : length (resized_bytes offset bytes ++ piece) ≡ length (resized_bytes offset bytes) + length piece =
    length-append (resized_bytes offset bytes) piece in
    let c : length (drop (offset + length piece) bytes) ≡ length bytes - (offset + length piece) =
    length-drop (offset + length piece) bytes in
    let d : length (resized_bytes offset bytes) ≡ offset = resized_len offset bytes in
    omega (arith, a, b, c, d)

set_len : (files : List (List ℕ)) (n f : ℕ) (x : List ℕ) → (len_at (slice_set files n x) f ≡ len_at files f)
    ⊎ ((n ≡ f) × (len_at (slice_set files n x) f ≡ length x))
set_len files n f x = elim (eqb_tells n f) [
  | inr t ↦ inl (ap length (get_or-set_other files n f x [] (λ e. t.1 (sym e))))
  | inl t ↦ elim (cases_lt n (length files)) [
    | inl lt ↦ inr (t.1, ap (len_at (slice_set files n x)) (sym t.1) ∙ ap length (get_or-set_same files n x [] lt))
    | inr le ↦ inl (ap (λ (w : List (List ℕ)). len_at w f) (beyond files n le))
  ]
]
  where
    beyond : (files : List (List ℕ)) (n : ℕ) → length files ≤ n → slice_set files n x ≡ files
    beyond [] n le = refl
    beyond (y ∷ files) zero le = absurd (omega (arith, le))
    beyond (y ∷ files) (suc n) le = ap (λ (w : List (List ℕ)). y ∷ w) (beyond files n (omega (arith, le)))

push_len : (files : List (List ℕ)) (f : ℕ) → len_at (files ++ [] ∷ []) f ≡ len_at files f
push_len [] zero = refl
push_len [] (suc f) = refl
push_len (x ∷ files) zero = refl
push_len (x ∷ files) (suc f) = push_len files f

-- ---- one request

-- a WRITE reaches the file, and up to its end at least
pub record Reaches (tree : FileTree) (r : Request) (f n : ℕ) : Type 0 where
  pub handle : List ℕ
  pub held : Held
  pub offset : ℕ
  pub piece : List ℕ
  pub asks : WritesAt r handle offset piece
  pub open_on : file_of (opened_at tree handle) ≡ Some held
  pub is : held.file ≡ f
  pub up_to : n ≤ offset_of tree held offset + length piece

emptied_len : (tree after : FileTree) (file f : ℕ) → after.files ≡ slice_set tree.files file []
    → len_at after.files f ≤ len_at tree.files f
emptied_len tree after file f e =
    let same : len_at after.files f ≡ len_at (slice_set tree.files file []) f = ap (λ (w : List (List ℕ)). len_at w f) e
    in
    elim (set_len tree.files file f []) [
      | inl stays ↦ omega (arith, same, stays)
      | inr none ↦ (let zero_now : len_at (slice_set tree.files file []) f ≡ 0 = none.1 in
          omega (arith, same, zero_now))
    ]

kept_len : (tree after : FileTree) (f : ℕ) → after.files ≡ tree.files → len_at after.files f ≤ len_at tree.files f
kept_len tree after f e = (let same : len_at after.files f ≡ len_at tree.files f =
    ap (λ (w : List (List ℕ)). len_at w f) e in omega (arith, same))

lost_len : (tree : FileTree) (file f : ℕ) → len_at (after_loss tree file).files f ≤ len_at tree.files f
lost_len tree file f = by_test (is_file_in_use tree file)
  where
    by_test : (b : Bool) → len_at (let w : FileTree = if b then tree else with_bytes tree file [] in w).files f ≤ len_at
        tree.files f
    by_test true = omega arith
    by_test false = emptied_len tree (with_bytes tree file []) file f refl

pub effect_len : (tree : FileTree) (r : Request) (after : FileTree) (f : ℕ) → Effect tree r after
    → (len_at after.files f ≤ len_at tree.files f) ⊎ Reaches tree r f (len_at after.files f)
effect_len tree r after f (Same e) = inl (kept_len tree after f (ap (λ (t : FileTree). t.files) e))
effect_len tree r after f (Made name asks none e) = inl (kept_len tree after f (ap (λ (t : FileTree). t.files) e))
effect_len tree r after f (OpenedIt handle o e) = inl (kept_len tree after f (ap (λ (t : FileTree). t.files) e))
effect_len tree r after f (Emptied file handle o e) = inl (emptied_len tree after file f
    (ap (λ (t : FileTree). t.files) e))
effect_len tree r after f (Created name handle o asks none e) =
    inl (let same : len_at after.files f ≡ len_at tree.files f = ap (λ (t : FileTree). len_at t.files f) e
    ∙ push_len tree.files f in omega (arith, same))
effect_len tree r after f (Shut handle e) = inl (kept_len tree after f (ap (λ (t : FileTree). t.files) e))
effect_len tree r after f (ShutFile handle file e) =
    inl (let same : len_at after.files f ≡ len_at (after_loss (without_handle tree handle) file).files f =
    ap (λ (t : FileTree). len_at t.files f) e in
    let less : len_at (after_loss (without_handle tree handle) file).files f ≤ len_at tree.files f =
    lost_len (without_handle tree handle) file f in omega (arith, same, less))
effect_len tree r after f (Put handle held offset piece asks has e) =
    let new : List ℕ = written_at (bytes_of tree held.file) (offset_of tree held offset) piece in
    let now : len_at after.files f ≡ len_at (slice_set tree.files held.file new) f =
    ap (λ (t : FileTree). len_at t.files f) e in
    let long : length new ≡ max (length (bytes_of tree held.file)) (offset_of tree held offset + length piece) =
    put_len (bytes_of tree held.file) (offset_of tree held offset) piece in
    elim (set_len tree.files held.file f new) [
      | inl stays ↦ inl (omega (arith, now, stays))
      | inr here ↦ elim (cases_lt (length (bytes_of tree held.file)) (offset_of tree held offset + length piece)) [
        | inr le ↦ inl (let old : len_at tree.files held.file ≡ len_at tree.files f = ap (len_at tree.files) here.0 in
            let size : length (bytes_of tree held.file) ≡ len_at tree.files held.file = refl in
            let is : len_at (slice_set tree.files held.file new) f ≡ length new = here.1 in
            omega (arith, now, is, long, le, old, size))
        | inl lt ↦ inr (record {
          handle = handle;
          held = held;
          offset = offset;
          piece = piece;
          asks = asks;
          open_on = has;
          is = here.0;
          up_to = (let is : len_at (slice_set tree.files held.file new) f ≡ length new = here.1 in
              omega (arith, now, is, long, lt));
        })
      ]
    ]

-- ---- files within their bounds

-- the file is that of one of these names, and within its bound
pub record IsClaimed (tree : FileTree) (claims : NameClaims) (f n : ℕ) : Type 0 where
  pub claim : Name × ℕ
  pub there : Among claim claims
  pub is : node_at tree claim.0 ≡ Some (node.File f)
  pub within : n ≤ claim.1

-- each file is no longer than at first, or is that of one of these names and within its bound
abbrev pub AreFit : FileTree → NameClaims → FileTree → Type 0
AreFit first claims tree = (f : ℕ) → (len_at tree.files f ≤ len_at first.files f)
    ⊎ IsClaimed tree claims f (len_at tree.files f)

pub fit_at_first : (first : FileTree) (claims : NameClaims) → AreFit first claims first
fit_at_first first claims f = inl (omega arith)

-- each WRITE stays within the bound of a name
abbrev pub IsClaimedWrite : FileTree → NameClaims → Request → Type 0
IsClaimedWrite tree claims r = (handle : List ℕ) (held : Held) (offset : ℕ) (piece : List ℕ)
    → WritesAt r handle offset piece
    → file_of (opened_at tree handle) ≡ Some held → IsClaimed tree claims held.file
    (offset_of tree held offset + length piece)

claimed_less : (tree : FileTree) (claims : NameClaims) (f n m : ℕ) → n ≤ m → IsClaimed tree claims f m
    → IsClaimed tree claims f n
claimed_less tree claims f n m le c = record {
  claim = c.claim;
  there = c.there;
  is = c.is;
  within =
      (let w = c.within in omega (arith, w, le));
}

-- names that keep what they have
claimed_after : (tree after : FileTree) (claims : NameClaims) (f n : ℕ)
    → ((name : Name) (file : ℕ) → node_at tree name ≡ Some (node.File file) → node_at after name
    ≡ Some (node.File file))
    → IsClaimed tree claims f n → IsClaimed after claims f n
claimed_after tree after claims f n keeps c = record {
  claim = c.claim;
  there = c.there;
  is = keeps c.claim.0 f c.is;
  within = c.within;
}

pub fit_next : (first : FileTree) (claims : NameClaims) (tree : FileTree) (r : Request) (after : FileTree)
    → Effect tree r after → IsClaimedWrite tree claims r
    → AreFit first claims tree → AreFit first claims after
fit_next first claims tree r after effect claimed fit f = by_len (effect_len tree r after f effect) (fit f)
  where
    stays : (n : ℕ) → IsClaimed tree claims f n → IsClaimed after claims f n
    stays n c = claimed_after tree after claims f n (λ name file is. effect_keeps tree r after name (node.File file)
        effect is) c

    by_len : (len_at after.files f ≤ len_at tree.files f) ⊎ Reaches tree r f (len_at after.files f)
        → (len_at tree.files f ≤ len_at first.files f) ⊎ IsClaimed tree claims f (len_at tree.files f)
        → (len_at after.files f ≤ len_at first.files f) ⊎ IsClaimed after claims f (len_at after.files f)
    by_len (inl le) (inl old) = inl (omega (arith, le, old))
    by_len (inl le) (inr c) = inr (stays (len_at after.files f)
        (claimed_less tree claims f (len_at after.files f) (len_at tree.files f) le c))
    by_len (inr w) old =
        let c : IsClaimed tree claims w.held.file (offset_of tree w.held w.offset + length w.piece) =
        claimed w.handle w.held w.offset w.piece w.asks w.open_on in
        inr (stays (len_at after.files f) (claimed_less tree claims f (len_at after.files f)
        (offset_of tree w.held w.offset + length w.piece) w.up_to
        (subst (λ (k : ℕ). IsClaimed tree claims k (offset_of tree w.held w.offset + length w.piece)) w.is c)))

-- ---- the sum

-- the files of these names, with their bounds
abbrev marked : Option Node → ℕ → List Mark → List Mark
marked (Some (node.File f)) bound marks = (f, bound) ∷ marks
marked other bound marks = marks

abbrev marks_of : FileTree → NameClaims → List Mark
marks_of tree [] = []
marks_of tree (c ∷ claims) = marked (node_at tree c.0) c.1 (marks_of tree claims)

marks_less : (tree : FileTree) (claims : NameClaims) → marks_sum (marks_of tree claims) ≤ claims_sum claims
marks_less tree [] = omega arith
marks_less tree (c ∷ claims) = by_node (node_at tree c.0) (marks_less tree claims)
  where
    by_node : (n : Option Node) → marks_sum (marks_of tree claims) ≤ claims_sum claims
        → marks_sum (marked n c.1 (marks_of tree claims)) ≤ c.1 + claims_sum claims
    by_node None less = omega (arith, less)
    by_node (Some node.Directory) less = omega (arith, less)
    by_node (Some (node.File f)) less = omega (arith, less)

is_marked : (tree : FileTree) (claims : NameClaims) (f n : ℕ) → IsClaimed tree claims f n
    → IsMarked (marks_of tree claims) f n
is_marked tree [] f n c = absurd c.there
is_marked tree (x ∷ claims) f n c = by_there c.there
    (λ h. is_marked tree claims f n (record { claim = c.claim; there = h; is = c.is; within = c.within }))
  where
    later : (o : Option Node) → IsMarked (marks_of tree claims) f n → IsMarked (marked o x.1 (marks_of tree claims)) f n
    later None m = m
    later (Some node.Directory) m = m
    later (Some (node.File g)) m = record { mark = m.mark; there = inr m.there; is = m.is; within = m.within }

    here : (o : Option Node) → o ≡ Some (node.File f) → n ≤ x.1 → IsMarked (marked o x.1 (marks_of tree claims)) f n
    here o e le = subst (λ (w : Option Node). IsMarked (marked w x.1 (marks_of tree claims)) f n) (sym e)
        (record { mark = (f, x.1); there = inl refl; is = refl; within = le })

    by_there : Among c.claim (x ∷ claims) → (Among c.claim claims → IsMarked (marks_of tree claims) f n)
        → IsMarked (marked (node_at tree x.0) x.1 (marks_of tree claims)) f n
    by_there (inl same) more = here (node_at tree x.0) (ap (λ (w : Name × ℕ). node_at tree w.0) (sym same) ∙ c.is)
        (subst (λ (w : Name × ℕ). n ≤ w.1) same c.within)
    by_there (inr h) more = later (node_at tree x.0) (more h)

pub fit_sum : (first : FileTree) (claims : NameClaims) (tree : FileTree) → AreFit first claims tree
    → all_bytes tree ≤ all_bytes first + claims_sum claims
fit_sum first claims tree fit =
    let covered : IsCovered first.files (marks_of tree claims) tree.files = λ f. by_case f (fit f) in
    let less = covered_sum first.files (marks_of tree claims) tree.files covered in
    let marks = marks_less tree claims in omega (arith, less, marks)
  where
    by_case : (f : ℕ) → (len_at tree.files f ≤ len_at first.files f) ⊎ IsClaimed tree claims f (len_at tree.files f)
        → (len_at tree.files f ≤ len_at first.files f) ⊎ IsMarked (marks_of tree claims) f (len_at tree.files f)
    by_case f (inl le) = inl le
    by_case f (inr c) = inr (is_marked tree claims f (len_at tree.files f) c)

-- ---- a WRITE at the end of a file

-- it passes no limit
pub write_fits : (first : FileTree) (claims : NameClaims) (tree : FileTree) (file : ℕ) (piece : List ℕ)
    → AreFit first claims tree
    → IsClaimed tree claims file (size_of tree file + length piece) → file < length tree.files
    → size_of tree file + length piece ≤ MAX_FILE_LEN
    → all_bytes first + claims_sum claims ≤ MAX_TOTAL_LEN
    → is_over tree file (max (size_of tree file) (size_of tree file + length piece)) ≡ false
write_fits first claims tree file piece fit claimed there short total =
    rw (not_long, not_much) refl
  where
    new : List ℕ
    new = written_at (bytes_of tree file) (size_of tree file) piece

    after : FileTree
    after = with_bytes tree file new

    long : length new ≡ max (size_of tree file) (size_of tree file + length piece)
    long = put_len (bytes_of tree file) (size_of tree file) piece

    same_names : (name : Name) → node_at after name ≡ node_at tree name
    same_names [] = refl
    same_names (part ∷ parts) = refl

    not_long : nat_lt MAX_FILE_LEN (max (size_of tree file) (size_of tree file + length piece)) ≡ false
    not_long = grind (arith, nat_tests)

    fit_after : AreFit first claims after
    fit_after f = elim (set_len tree.files file f new) [
      | inl stays ↦ by_case f (fit f) stays
      | inr here ↦ inr (claimed_after tree after claims f (len_at after.files f) (λ name g is. same_names name ∙ is)
          (subst (λ (k : ℕ). IsClaimed tree claims k (len_at after.files f)) here.0
          (claimed_less tree claims file (len_at after.files f) (size_of tree file + length piece)
          (let is : len_at after.files f ≡ length new = here.1 in omega (arith, is, long)) claimed)))
    ]
      where
        by_case : (f : ℕ) → (len_at tree.files f ≤ len_at first.files f) ⊎ IsClaimed tree claims f (len_at tree.files f)
            → len_at after.files f ≡ len_at tree.files f → (len_at after.files f ≤ len_at first.files f)
            ⊎ IsClaimed after claims f (len_at after.files f)
        by_case f (inl le) same = inl (omega (arith, le, same))
        by_case f (inr c) same = inr (claimed_after tree after claims f (len_at after.files f)
            (λ name g is. same_names name ∙ is)
            (claimed_less tree claims f (len_at after.files f) (len_at tree.files f) (omega (arith, same)) c))

    sum_after : all_bytes after + size_of tree file ≡ all_bytes tree + length new
    sum_after = sum_by-set length tree.files file new [] there

    most : all_bytes tree - size_of tree file + max (size_of tree file) (size_of tree file + length piece) ≤
        MAX_TOTAL_LEN
    most = let less : all_bytes after ≤ all_bytes first + claims_sum claims = fit_sum first claims after fit_after in
        let a = sum_after in let l = long in
        let has : size_of tree file ≤ all_bytes tree = in_sum in omega (arith, less, a, l, total, has)
      where
        in_sum : size_of tree file ≤ all_bytes tree
        in_sum = let s : sum_by length (slice_set tree.files file []) + size_of tree file ≡ all_bytes tree + 0 =
            sum_by-set length tree.files file [] [] there in omega (arith, s)

    not_much : nat_lt MAX_TOTAL_LEN (all_bytes tree - size_of tree file + max (size_of tree file)
        (size_of tree file + length piece)) ≡ false
    not_much = let m = most in grind (arith, nat_tests)
