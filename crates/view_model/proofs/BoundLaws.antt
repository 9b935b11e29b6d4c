-- How many calls are made.
use Rattle.std.proofs.Common.{
  ◌≡◌,
  ◌≤◌,
  ◌+◌,
  ◌-◌,
  ◌*◌,
  ◌==◌,
  ◌&&◌,
  ◌||◌,
  ℕ,
  zero,
  suc,
  Bool,
  true,
  false,
  List,
  [],
  ◌∷◌,
  ◌++◌,
  length,
  Option,
  Some,
  None,
  if◌then◌else◌,
  refl,
  arith,
}
use Rattle.std.specs.Prelude.{Ok, Err, nat_le, nat_lt}
use Rattle.std.specs.List.{list_all}
use Rattle.std.specs.Map.{lookup}
use Rattle.std.proofs.lemmas.List.{length-append}
use Rattle.sftp_model.specs.declared.outcome.Outcome.{Outcome}
use Rattle.plan_model.specs.declared.call.Call.{Call}
use Rattle.machine_model.specs.Components.{components}
use Rattle.view_model.specs.Calls.{AreFew, is_light}
use Rattle.view_model.specs.Blocks.{Kept, block_count, without_blocks_of, first_block, count_hit}
use Rattle.view_model.specs.Keys.{key_of, same_key}
use Rattle.view_model.specs.Viewed.{
  Answered,
  Doing,
  Found,
  Gathered,
  Viewed,
  answered_with,
  block_by,
  close_file_call,
  fetched_block,
  gather_blocks,
  get_by,
  got_of,
  makes,
  makes_and_writes,
  missed_by,
  op_by,
  open_call,
  pure,
  put_by,
  put_of,
  read_on,
  read_call,
  reads_only,
  seek_call,
  unless_refused,
  viewed_from,
  was_gathered,
  was_read,
  write_file_call,
  put_at,
  write_bytes,
  ◌>>=◌,
}
use Rattle.view_model.specs.ViewOps.{passes_length}
use Rattle.view_model.specs.declared.answer.Answer.{Answer}
use Rattle.view_model.specs.declared.answer.Answer.TheVariants as answer
use Rattle.view_model.specs.declared.op.ViewOp.{ViewOp}
use Rattle.view_model.specs.declared.op.ViewOp.TheVariants as op

-- whatever comes of them, no more calls than so many are made
pub record Within {T : Type 0} (most : ℕ) (f : Doing T) : Type 0 where
  pub by : (outcomes : List Outcome) → AreFew most (f outcomes).calls

and_on : (t a b : Bool) → t && a ≡ true → (a ≡ true → b ≡ true) → t && b ≡ true
and_on true a b e f = f e
and_on false a b e f = absurd cc

all_joined : (f : Call → Bool) (xs ys : List Call) → list_all f xs ≡ true → list_all f ys ≡ true → list_all f (xs ++ ys)
    ≡ true
all_joined f [] ys a b = b
all_joined f (x ∷ xs) ys a b = and_on (f x) (list_all f xs) (list_all f (xs ++ ys)) a (λ e. all_joined f xs ys e b)

few_joined : (n m : ℕ) (xs ys : List Call) → AreFew n xs → AreFew m ys → AreFew (n + m) (xs ++ ys)
few_joined n m xs ys a b = record {
  light = all_joined is_light xs ys a.light b.light;
  few = (let l = length-append xs ys in let x = a.few in let y = b.few in omega (arith, l, x, y));
}

pub few_weaker : (n m : ℕ) (xs : List Call) → n ≤ m → AreFew n xs → AreFew m xs
few_weaker n m xs le a = record { light = a.light; few = (let x = a.few in omega (arith, x, le)) }

pub within_pure : {T : Type 0} (n : ℕ) (x : T) → Within n (pure x)
within_pure n x = record { by = λ outcomes. record { light = refl; few = omega arith } }

pub within_bind : {A B : Type 0} (n m : ℕ) (f : Doing A) (k : A → Doing B) → Within n f → ((v : A) → Within m (k v))
    → Within (n + m) (f >>= k)
within_bind n m f k a b = record {
  by = λ outcomes. few_joined n m (f outcomes).calls (k (f outcomes).value (f outcomes).later).calls (a.by outcomes)
      ((b (f outcomes).value).by (f outcomes).later);
}

pub within_weaker : {A : Type 0} (n m : ℕ) (f : Doing A) → n ≤ m → Within n f → Within m f
within_weaker n m f le a = record { by = λ outcomes. few_weaker n m (f outcomes).calls le (a.by outcomes) }

makes_few : (c : Call) → is_light c ≡ true → (outcomes : List Outcome) → AreFew 1 (makes c outcomes).calls
makes_few c light [] = record { light = rw light refl; few = omega arith }
makes_few c light (o ∷ later) = record { light = rw light refl; few = omega arith }

within_makes : (c : Call) → is_light c ≡ true → Within 1 (makes c)
within_makes c light = record { by = makes_few c light }

within_if : {A : Type 0} (n : ℕ) (t : Bool) (f g : Doing A) → Within n f → Within n g → Within n (if t then f else g)
within_if n true f g a b = a
within_if n false f g a b = b

within_unless : {A : Type 0} (n : ℕ) (found : Found) (refused : ℕ → A) (go : Doing A) → Within n go
    → Within n (unless_refused found refused go)
within_unless n (Ok bytes) refused go a = a
within_unless n (Err code) refused go a = within_pure n (refused code)

-- one call, and then what follows
within_call : {A : Type 0} (m : ℕ) (c : Call) (k : Found → Doing A) → is_light c ≡ true → ((v : Found) → Within m (k v))
    → Within (1 + m) (makes c >>= k)
within_call m c k light b = within_bind 1 m (makes c) k (within_makes c light) b

-- the file is closed
within_closing : {A : Type 0} (x : A) → Within 1 (makes close_file_call >>= λ found. pure x)
within_closing x = within_call 0 close_file_call (λ found. pure x) refl (λ found. within_pure 0 x)

-- ---- a block

within_was_read : (n block : ℕ) (bytes : List ℕ) (found : Found) (go : List ℕ → Doing Found)
    → ((more : List ℕ) → Within n (go more))
    → Within n (was_read block bytes found go)
within_was_read n block bytes (Err code) go a = within_pure {T = Found} n (Err code)
within_was_read n block bytes (Ok more) go a =
    within_if n ((length more == 0) || nat_le block (length (bytes ++ more))) (pure (Ok (bytes ++ more)))
    (go (bytes ++ more))
    (within_pure {T = Found} n (Ok (bytes ++ more))) (a (bytes ++ more))

pub within_reads : (block most : ℕ) (bytes : List ℕ) → Within most (read_on block most bytes)
within_reads block zero bytes = within_pure {T = Found} 0 (Ok bytes)
within_reads block (suc most) bytes =
    within_weaker (1 + most) (suc most) (read_on block (suc most) bytes) (omega arith)
    (within_call most (read_call (block - length bytes)) (λ found. was_read block bytes found
    (λ more. read_on block most more)) refl
    (λ found. within_was_read most block bytes found (λ more. read_on block most more)
    (λ more. within_reads block most more)))

-- the calls of one block
abbrev pub block_calls : ℕ → ℕ
block_calls block = block + 3

read_closed : (block : ℕ) → Within (block + 1) (read_on block block [] >>= λ found. makes close_file_call >>= λ closed.
    pure found)
read_closed block = within_bind block 1 (read_on block block [])
    (λ found. makes close_file_call >>= λ closed. pure found) (within_reads block block [])
    (λ found. within_closing found)

pub within_fetched : (block n : ℕ) (path : List ℕ) → Within (block_calls block) (fetched_block block path n)
within_fetched block n path =
    within_weaker (1 + (1 + (block + 1))) (block + 3) (fetched_block block path n) (omega arith)
    (within_call (1 + (block + 1)) (open_call reads_only path) after refl
    (λ opened. within_unless (1 + (block + 1)) opened (λ code. Err code) sought
    (within_call (block + 1) (seek_call (n * block)) (λ found. read_on block block [] >>= λ found. makes close_file_call
    >>= λ closed. pure found) refl
    (λ found. read_closed block))))
  where
    sought : Doing Found
    sought = makes (seek_call (n * block)) >>= λ found. read_on block block [] >>= λ found. makes close_file_call >>= λ
        closed. pure found

    after : Found → Doing Found
    after opened = unless_refused opened (λ code. Err code) sought

-- ---- the blocks of a get

within_block : (block capacity n : ℕ) (path : List ℕ) (kept : Kept (List ℕ)) (found : Option (List ℕ))
    → Within (block_calls block) (block_by block capacity path n kept found)
within_block block capacity n path kept (Some bytes) = within_pure {T = Gathered} (block_calls block)
    (record { found = Ok bytes; kept = count_hit (key_of (components path) n) kept })
within_block block capacity n path kept None =
    within_weaker (block_calls block + 0) (block_calls block) (block_by block capacity path n kept None) (omega arith)
    (within_bind (block_calls block) 0 (fetched_block block path n)
    (λ found. pure (missed_by capacity (key_of (components path) n) kept found))
    (within_fetched block n path) (λ found. within_pure 0 (missed_by capacity (key_of (components path) n) kept found)))

within_was_gathered : (n block : ℕ) (bytes : List ℕ) (found : Found) (kept : Kept (List ℕ))
    (go : List ℕ → Doing Gathered)
    → ((more : List ℕ) → Within n (go more)) → Within n (was_gathered block bytes found kept go)
within_was_gathered n block bytes (Err code) kept go a = within_pure {T = Gathered} n
    (record { found = Err code; kept = kept })
within_was_gathered n block bytes (Ok more) kept go a =
    within_if n (nat_lt (length more) block) (pure (record { found = Ok (bytes ++ more); kept = kept }))
    (go (bytes ++ more))
    (within_pure {T = Gathered} n (record { found = Ok (bytes ++ more); kept = kept })) (a (bytes ++ more))

pub within_gathered : (block capacity n m : ℕ) (path bytes : List ℕ) (kept : Kept (List ℕ))
    → Within (m * block_calls block) (gather_blocks block capacity path n m bytes kept)
within_gathered block capacity n zero path bytes kept = within_pure {T = Gathered} (0 * block_calls block)
    (record { found = Ok bytes; kept = kept })
within_gathered block capacity n (suc m) path bytes kept =
    within_weaker (block_calls block + m * block_calls block) (suc m * block_calls block)
    (gather_blocks block capacity path n (suc m) bytes kept) (omega arith)
    (within_bind (block_calls block) (m * block_calls block) first after
    (within_block block capacity n path kept (lookup (same_key (key_of (components path) n)) kept.entries))
    (λ g. within_was_gathered (m * block_calls block) block bytes g.found g.kept
    (λ more. gather_blocks block capacity path (n + 1) m more g.kept)
    (λ more. within_gathered block capacity (n + 1) m path more g.kept)))
  where
    first : Doing Gathered
    first = block_by block capacity path n kept (lookup (same_key (key_of (components path) n)) kept.entries)

    after : Gathered → Doing Gathered
    after g = was_gathered block bytes g.found g.kept (λ more. gather_blocks block capacity path (n + 1) m more g.kept)

-- ---- operations

-- the calls of an operation
abbrev pub op_calls : ℕ → ViewOp → ℕ
op_calls block (op.Get path offset len) = block_count block offset len * block_calls block
op_calls block (op.Put path offset content) = 4

within_get : (block capacity offset len : ℕ) (path : List ℕ) (kept : Kept (List ℕ))
    → Within (block_count block offset len * block_calls block) (get_by block capacity path offset len kept)
within_get block capacity offset len path kept =
    within_weaker (n + 0) n (get_by block capacity path offset len kept) (omega arith)
    (within_bind n 0 (gather_blocks block capacity path (first_block block offset) (block_count block offset len) []
    kept) after
    (within_gathered block capacity (first_block block offset) (block_count block offset len) path [] kept)
    (λ g. within_pure 0 (answered_with (got_of (offset - first_block block offset * block) len g.found) g.kept)))
  where
    n : ℕ
    n = block_count block offset len * block_calls block

    after : Gathered → Doing Answered
    after g = pure (answered_with (got_of (offset - first_block block offset * block) len g.found) g.kept)

within_put_at : (offset : ℕ) (content : List ℕ) → Within 3 (put_at offset content)
within_put_at offset content =
    within_call 2 (seek_call offset) (λ sought. writes) refl (λ sought. within_call 1 (write_file_call content) after
    refl (λ found. within_closing (put_of found)))
  where
    after : Found → Doing Answer
    after found = makes close_file_call >>= λ closed. pure (put_of found)

    writes : Doing Answer
    writes = makes (write_file_call content) >>= after

within_written : (path : List ℕ) (offset : ℕ) (content : List ℕ) → Within 4 (write_bytes path offset content)
within_written path offset content =
    within_call 3 (open_call makes_and_writes path) (λ opened. unless_refused opened (λ code. answer.Refused code)
    (put_at offset content)) refl
    (λ opened. within_unless 3 opened (λ code. answer.Refused code) (put_at offset content)
    (within_put_at offset content))

within_put : (path : List ℕ) (offset : ℕ) (content : List ℕ) (kept : Kept (List ℕ))
    → Within 4 (put_by path offset content kept)
within_put path offset content kept =
    within_weaker (4 + 0) 4 (put_by path offset content kept) (omega arith)
    (within_bind 4 0 (write_bytes path offset content) after (within_written path offset content)
    (λ a. within_pure 0 (answered_with a (without_blocks_of (components path) kept))))
  where
    after : Answer → Doing Answered
    after a = pure (answered_with a (without_blocks_of (components path) kept))

pub within_op : (block capacity : ℕ) (o : ViewOp) (kept : Kept (List ℕ))
    → Within (op_calls block o) (op_by block capacity o kept)
within_op block capacity (op.Get path offset len) kept =
    within_if n (len == 0) (pure (answered_with (answer.Got []) kept)) longer
    (within_pure n (answered_with (answer.Got []) kept))
    (within_if n (passes_length path) (pure (answered_with answer.TooLong kept))
    (get_by block capacity path offset len kept)
    (within_pure n (answered_with answer.TooLong kept)) (within_get block capacity offset len path kept))
  where
    n : ℕ
    n = op_calls block (op.Get path offset len)

    longer : Doing Answered
    longer = if passes_length path then pure (answered_with answer.TooLong kept) else
        get_by block capacity path offset len kept
within_op block capacity (op.Put path offset content) kept =
    within_if 4 (passes_length path) (pure (answered_with answer.TooLong kept)) (put_by path offset content kept)
    (within_pure 4 (answered_with answer.TooLong kept)) (within_put path offset content kept)

-- the calls of all operations
abbrev pub all_calls : ℕ → List ViewOp → ℕ
all_calls block [] = 0
all_calls block (o ∷ ops) = op_calls block o + all_calls block ops

pub within_viewed : (block capacity : ℕ) (ops : List ViewOp) (answers : List Answer) (kept : Kept (List ℕ))
    → Within (all_calls block ops) (viewed_from block capacity ops answers kept)
within_viewed block capacity [] answers kept = within_pure {T = Viewed} 0 (record { answers = answers; kept = kept })
within_viewed block capacity (o ∷ ops) answers kept =
    within_bind (op_calls block o) (all_calls block ops) (op_by block capacity o kept)
    (λ a. viewed_from block capacity ops (answers ++ a.answer ∷ []) a.kept) (within_op block capacity o kept)
    (λ a. within_viewed block capacity ops (answers ++ a.answer ∷ []) a.kept)
