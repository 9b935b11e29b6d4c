-- A block that is read call by call.
use Rattle.std.proofs.Common.{
  ◌≡◌,
  ◌≢◌,
  ◌≤◌,
  ◌<◌,
  ◌+◌,
  ◌-◌,
  ◌*◌,
  ◌==◌,
  ◌||◌,
  ℕ,
  suc,
  true,
  false,
  List,
  [],
  ◌++◌,
  length,
  if◌then◌else◌,
  refl,
  ap,
  sym,
  ◌∙◌,
  subst,
  arith,
}
use Rattle.std.specs.Prelude.{Result, Ok, Err, nat_le}
use Rattle.std.proofs.lemmas.Bool.Decides.{nat_tests}
use Rattle.sftp_model.specs.declared.error.Error.{Error}
use Rattle.sftp_model.specs.declared.error.Error.TheVariants as error
use Rattle.plan_model.specs.declared.call.Call.{Call}
use Rattle.session_model.specs.declared.entry.Entry.{Entry}
use Rattle.session_driver.specs.Ongoing.{RunState}
use Rattle.view_model.specs.Viewed.{
  Doing,
  Found,
  close_file_call,
  fetched_block,
  makes,
  open_call,
  pure,
  read_at,
  read_on,
  read_call,
  reads_only,
  seek_call,
  unless_refused,
  was_read,
  ◌>>=◌,
}
use Rattle.sftp_view.specs.Doings.{IsIdle, MayDo, DoesBySession}
use Rattle.sftp_view.proofs.FewLaws.{may_first}
use Rattle.sftp_view.proofs.RunLaws.{bound, gives, may_on, no_room_then, runs_self, stopped, then_on}

-- ---- READs

one_left : (block k : ℕ) → k < block → block - k ≡ suc (block - (k + 1))
one_left block k lt = omega (arith, lt)

-- the file has ended, or the block is full, or neither
at_end : (block len all : ℕ) → len ≡ 0 → (len == 0) || nat_le block all ≡ true
at_end block len all none = grind (arith, nat_tests)

is_full : (block len all : ℕ) → block ≤ all → (len == 0) || nat_le block all ≡ true
is_full block len all le = grind (arith, nat_tests)

goes_on : (block len all : ℕ) → len ≢ 0 → all < block → (len == 0) || nat_le block all ≡ false
goes_on block len all some lt = grind (arith, nat_tests)

-- what follows from a READ
abbrev pub after_read : ℕ → ℕ → List ℕ → Found → Doing Found
after_read block m bytes found = was_read block bytes found (λ more. read_on block m more)

module _ {S : Type 0} where
  -- after k READs this is left to read
  pub record ReadsSoFar (block k : ℕ) (bytes : List ℕ) (a now : RunState S) : Type 0 where
    pub runs : DoesBySession (read_on block block []) (λ (u : Unit {0}). read_on block (block - k) bytes) a now (Ok tt)
    pub idle : IsIdle now
    pub short : length bytes ≤ block

  begins : (block : ℕ) (a : RunState S) → IsIdle a → ReadsSoFar block 0 [] a a
  begins block a idle = record {
    runs = subst (λ (n : ℕ). DoesBySession (read_on block block []) (λ (u : Unit {0}). read_on block n []) a a (Ok tt))
        (let e : block ≡ block - 0 = omega arith in e)
        (runs_self (read_on block block []) tt a idle);
    idle = idle;
    short = omega arith;
  }

  pub reads_first : (block : ℕ) (bytes : List ℕ) (a : RunState S) → bytes ≡ [] → IsIdle a → ReadsSoFar block 0 bytes a a
  reads_first block bytes a none idle = subst (λ (w : List ℕ). ReadsSoFar block 0 w a a) (sym none)
      (begins block a idle)

  pub may_read : (block k : ℕ) (bytes : List ℕ) (call : Call) {a now : RunState S} → call
      ≡ read_call (block - length bytes) → k < block
      → MayDo (read_on block block []) a.seen.progress.past → ReadsSoFar block k bytes a now
      → MayDo (makes call) now.seen.progress.past
  may_read block k bytes call {a = a} {now = now} is lt may so_far =
      subst (λ (c : Call). MayDo (makes c) now.seen.progress.past) (sym is)
      (may_first (makes (read_call (block - length bytes))) (after_read block (block - (k + 1)) bytes)
      (subst (λ (n : ℕ). MayDo (read_on block n bytes) now.seen.progress.past) (one_left block k lt)
      (may_on may so_far.runs)))

  read_one : (block k : ℕ) (bytes : List ℕ) (call : Call) {a now b : RunState S} {found : Found} → call
      ≡ read_call (block - length bytes) → k < block
      → ReadsSoFar block k bytes a now → DoesBySession (makes call) pure now b (Ok found)
      → DoesBySession (read_on block block []) (after_read block (block - (k + 1)) bytes) a b (Ok found)
  read_one block k bytes call {a = a} {now = now} {b = b} {found = found} is lt so_far run =
      then_on (subst (λ (n : ℕ). DoesBySession (read_on block block []) (λ (u : Unit {0}). read_on block n bytes) a now
      (Ok tt)) (one_left block k lt) so_far.runs)
      (bound {k = after_read block (block - (k + 1)) bytes} (subst
      (λ (c : Call). DoesBySession (makes c) pure now b (Ok found)) is run))

  pub read_stopped : (block k : ℕ) (bytes : List ℕ) (call : Call) {a now b : RunState S} {e : Error}
      → ReadsSoFar block k bytes a now
      → DoesBySession (makes call) pure now b (Err e) → DoesBySession (read_on block block []) pure a b (Err e)
  read_stopped block k bytes call so_far run = then_on so_far.runs (stopped run)

  -- what it brought was lost for want of memory
  pub read_lost : (block k : ℕ) (bytes : List ℕ) (call : Call) {a now b : RunState S} {found : Found}
      → ReadsSoFar block k bytes a now
      → DoesBySession (makes call) pure now b (Ok found) → DoesBySession (read_on block block []) pure a b
      (Err error.OutOfMemory)
  read_lost block k bytes call so_far run = then_on so_far.runs (no_room_then run)

  -- the READ was refused
  pub read_refused : (block k : ℕ) (bytes : List ℕ) (call : Call) {a now b : RunState S} {found : Found} (code : ℕ)
      → call ≡ read_call (block - length bytes)
      → k < block → ReadsSoFar block k bytes a now → found ≡ Err code → DoesBySession (makes call) pure now b (Ok found)
      → DoesBySession (read_on block block []) pure a b (Ok (Err code))
  read_refused block k bytes call code is lt so_far refused run =
      gives (Err code) (read_one block k bytes call is lt so_far run)
      (ap (after_read block (block - (k + 1)) bytes) refused)

  -- the block is full, or the file has ended
  read_last : (block k : ℕ) (bytes more : List ℕ) (call : Call) {a now b : RunState S} {found : Found} → call
      ≡ read_call (block - length bytes)
      → k < block → ReadsSoFar block k bytes a now → found ≡ Ok more → DoesBySession (makes call) pure now b (Ok found)
      → (length more == 0) || nat_le block (length (bytes ++ more)) ≡ true
      → (all : List ℕ) → all ≡ bytes ++ more → DoesBySession (read_on block block []) pure a b (Ok (Ok all))
  read_last block k bytes more call {a = a} {b = b} is lt so_far brought run full all are =
      subst (λ (w : List ℕ). DoesBySession (read_on block block []) pure a b (Ok (Ok w))) (sym are)
      (gives (Ok (bytes ++ more)) (read_one block k bytes call is lt so_far run)
      (ap (after_read block (block - (k + 1)) bytes) brought
      ∙ (λ i. if full i then pure (Ok (bytes ++ more)) else read_on block (block - (k + 1)) (bytes ++ more))))

  pub read_ended : (block k : ℕ) (bytes more : List ℕ) (call : Call) {a now b : RunState S} {found : Found} → call
      ≡ read_call (block - length bytes)
      → k < block → ReadsSoFar block k bytes a now → found ≡ Ok more → DoesBySession (makes call) pure now b (Ok found)
      → length more ≡ 0
      → (all : List ℕ) → all ≡ bytes ++ more → DoesBySession (read_on block block []) pure a b (Ok (Ok all))
  read_ended block k bytes more call is lt so_far brought run none all are =
      read_last block k bytes more call is lt so_far brought run
      (at_end block (length more) (length (bytes ++ more)) none) all are

  pub read_full : (block k : ℕ) (bytes more : List ℕ) (call : Call) {a now b : RunState S} {found : Found} → call
      ≡ read_call (block - length bytes)
      → k < block → ReadsSoFar block k bytes a now → found ≡ Ok more → DoesBySession (makes call) pure now b (Ok found)
      → (all : List ℕ) → all ≡ bytes ++ more → block ≤ length all
      → DoesBySession (read_on block block []) pure a b (Ok (Ok all))
  read_full block k bytes more call is lt so_far brought run all are le =
      read_last block k bytes more call is lt so_far brought run
      (is_full block (length more) (length (bytes ++ more)) (subst (λ (w : List ℕ). block ≤ length w) are le)) all are

  -- more is to be read
  pub read_more : (block k : ℕ) (bytes more : List ℕ) (call : Call) {a now b : RunState S} {found : Found} → call
      ≡ read_call (block - length bytes)
      → k < block → ReadsSoFar block k bytes a now → found ≡ Ok more → DoesBySession (makes call) pure now b (Ok found)
      → length more ≢ 0 → (all : List ℕ) → all ≡ bytes ++ more → length all < block → ReadsSoFar block (k + 1) all a b
  read_more block k bytes more call {a = a} {b = b} is lt so_far brought run some all are short =
      let part = goes_on block (length more) (length (bytes ++ more)) some
      (subst (λ (w : List ℕ). length w < block) are short) in
      record {
        runs = gives tt (read_one block k bytes call is lt so_far run)
            (ap (after_read block (block - (k + 1)) bytes) brought
            ∙ ((λ i. if part i then pure (Ok (bytes ++ more)) else read_on block (block - (k + 1)) (bytes ++ more))
            ∙ ap (read_on block (block - (k + 1))) (sym are)));
        idle = run.idle;
        short = omega (arith, short);
      }

  -- there were as many READs as there may be
  pub read_all : (block k : ℕ) (bytes : List ℕ) {a now : RunState S} → block ≤ k → ReadsSoFar block k bytes a now
      → DoesBySession (read_on block block []) pure a now (Ok (Ok bytes))
  read_all block k bytes {a = a} {now = now} le so_far =
      gives (Ok bytes) (subst (λ (n : ℕ). DoesBySession (read_on block block [])
      (λ (u : Unit {0}). read_on block n bytes) a now (Ok tt))
      (let e : block - k ≡ 0 = omega (arith, le) in e) so_far.runs) refl

-- ---- a whole block

-- what follows once it was read, once the file stands at it, and once the file is open
abbrev pub after_found : Found → Doing Found
after_found found = makes close_file_call >>= λ closed. pure found

abbrev pub after_seek : ℕ → Found → Doing Found
after_seek block sought = read_on block block [] >>= after_found

abbrev pub after_open : ℕ → ℕ → Found → Doing Found
after_open block n opened = unless_refused opened (λ code. Err code) (read_at block n)

may_make : (f : Doing Found) (c call : Call) (k : Found → Doing Found) (past : List Entry) → call ≡ c
    → MayDo (makes c >>= k) past → MayDo (makes call) past
may_make f c call k past is may = subst (λ (x : Call). MayDo (makes x) past) (sym is) (may_first (makes c) k may)

pub may_seek : (block n : ℕ) (call : Call) {past : List Entry} → call ≡ seek_call (n * block)
    → MayDo (read_at block n) past → MayDo (makes call) past
may_seek block n call {past = past} is may = may_make (read_at block n) (seek_call (n * block)) call (after_seek block)
    past is may

pub may_open : (block n : ℕ) (path : List ℕ) (call : Call) {past : List Entry} → call ≡ open_call reads_only path
    → MayDo (fetched_block block path n) past
    → MayDo (makes call) past
may_open block n path call {past = past} is may = may_make (fetched_block block path n) (open_call reads_only path) call
    (after_open block n) past is may

module _ {S : Type 0} where
  made : (c call : Call) {a b : RunState S} {result : Result Found Error} → call ≡ c
      → DoesBySession (makes call) pure a b result → DoesBySession (makes c) pure a b result
  made c call {a = a} {b = b} {result = result} is run = subst (λ (x : Call). DoesBySession (makes x) pure a b result)
      is run

  -- the file stands at the block
  pub record IsSought (block n : ℕ) (a now : RunState S) : Type 0 where
    pub runs : DoesBySession (read_at block n) (after_seek block) a now (Ok (Ok []))
    pub idle : IsIdle now

  pub sought : (block n : ℕ) (call : Call) {a b : RunState S} {found : Found} → call ≡ seek_call (n * block)
      → DoesBySession (makes call) pure a b (Ok found) → IsSought block n a b
  sought block n call is run = record {
    runs = gives (Ok []) (bound {k = after_seek block} (made (seek_call (n * block)) call is run)) refl;
    idle = run.idle;
  }

  pub may_read_block : (block n : ℕ) {a b : RunState S} → MayDo (read_at block n) a.seen.progress.past
      → IsSought block n a b
      → MayDo (read_on block block []) b.seen.progress.past
  may_read_block block n may s = may_first (read_on block block []) after_found (may_on may s.runs)

  pub sought_stopped : (block n : ℕ) {a b c : RunState S} {e : Error} → IsSought block n a b
      → DoesBySession (read_on block block []) pure b c (Err e)
      → DoesBySession (read_at block n) pure a c (Err e)
  sought_stopped block n s run = then_on s.runs (stopped run)

  -- it was read
  pub record IsFound (block n : ℕ) (found : Found) (a now : RunState S) : Type 0 where
    pub runs : DoesBySession (read_at block n) after_found a now (Ok found)
    pub idle : IsIdle now

  pub found_all : (block n : ℕ) {a b c : RunState S} {found : Found} → IsSought block n a b
      → DoesBySession (read_on block block []) pure b c (Ok found)
      → IsFound block n found a c
  found_all block n s run = record { runs = then_on s.runs (bound {k = after_found} run); idle = run.idle }

  pub may_close : (block n : ℕ) (call : Call) {a b : RunState S} {found : Found} → call ≡ close_file_call
      → MayDo (read_at block n) a.seen.progress.past
      → IsFound block n found a b → MayDo (makes call) b.seen.progress.past
  may_close block n call {b = b} {found = found} is may f = may_make (read_at block n) close_file_call call
      (λ closed. pure found) b.seen.progress.past is (may_on may f.runs)

  pub closed_stopped : (block n : ℕ) (call : Call) {a b c : RunState S} {found : Found} {e : Error}
      → IsFound block n found a b → DoesBySession (makes call) pure b c (Err e)
      → DoesBySession (read_at block n) pure a c (Err e)
  closed_stopped block n call f run = then_on f.runs (stopped run)

  pub closed : (block n : ℕ) (call : Call) {a b c : RunState S} {found any : Found} → call ≡ close_file_call
      → IsFound block n found a b → DoesBySession (makes call) pure b c (Ok any)
      → DoesBySession (read_at block n) pure a c (Ok found)
  closed block n call {found = found} is f run = then_on f.runs
      (gives found (bound {k = λ (c : Found). pure found} (made close_file_call call is run)) refl)

  -- ---- the file is open, or that was refused

  pub open_refused : (block n : ℕ) (path : List ℕ) (call : Call) {a b : RunState S} {found : Found} (code : ℕ) → call
      ≡ open_call reads_only path → found ≡ Err code
      → DoesBySession (makes call) pure a b (Ok found) → DoesBySession (fetched_block block path n) pure a b
      (Ok (Err code))
  open_refused block n path call code is refused run =
      gives (Err code) (bound {k = after_open block n} (made (open_call reads_only path) call is run))
      (ap (after_open block n) refused)

  open_granted : (block n : ℕ) (path bytes : List ℕ) (call : Call) {a b : RunState S} {found : Found} → call
      ≡ open_call reads_only path → found ≡ Ok bytes
      → DoesBySession (makes call) pure a b (Ok found) → DoesBySession (fetched_block block path n)
      (λ (u : Unit {0}). read_at block n) a b (Ok tt)
  open_granted block n path bytes call is granted run =
      gives tt (bound {k = after_open block n} (made (open_call reads_only path) call is run))
      (ap (after_open block n) granted)

  pub may_read_at : (block n : ℕ) (path bytes : List ℕ) (call : Call) {a b : RunState S} {found : Found} → call
      ≡ open_call reads_only path → found ≡ Ok bytes
      → MayDo (fetched_block block path n) a.seen.progress.past → DoesBySession (makes call) pure a b (Ok found)
      → MayDo (read_at block n) b.seen.progress.past
  may_read_at block n path bytes call is granted may run = may_on may
      (open_granted block n path bytes call is granted run)

  pub open_read : (block n : ℕ) (path bytes : List ℕ) (call : Call) {a b c : RunState S} {found : Found}
      {result : Result Found Error} → call ≡ open_call reads_only path
      → found ≡ Ok bytes → DoesBySession (makes call) pure a b (Ok found)
      → DoesBySession (read_at block n) pure b c result → DoesBySession (fetched_block block path n) pure a c result
  open_read block n path bytes call is granted run rest = then_on (open_granted block n path bytes call is granted run)
      rest
