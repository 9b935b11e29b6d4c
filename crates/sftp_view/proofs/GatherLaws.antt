-- The blocks of a get, one after another.
use Rattle.std.proofs.Common.{◌≡◌, ◌≤◌, ◌<◌, ◌+◌, ◌-◌, ◌*◌, ◌^◌, ℕ, suc, true, false, List, [], ◌++◌, length, if◌then◌else◌, refl, ap, sym, ◌∙◌, subst, arith}
use Rattle.std.specs.Prelude.{Result, Ok, Err, nat_lt}
use Rattle.std.specs.Map.{lookup}
use Rattle.std.proofs.Math.Nat.{le-mul_of_pos_right, mul-le-mul_right}
use Rattle.std.proofs.lemmas.Bool.Decides.{nat_tests}
use Rattle.sftp_model.specs.declared.error.Error.{Error}
use Rattle.sftp_model.specs.declared.error.Error.TheVariants as error
use Rattle.sftp_link.specs.Views.{LinkView}
use Rattle.machine_model.specs.Components.{components}
use Rattle.session_driver.specs.Ongoing.{RunState, run_state}
use Rattle.sftp_lanes.specs.Seen.{seen_of}
use Rattle.view_model.specs.Keys.{key_of, same_key}
use Rattle.view_model.specs.Viewed.{Doing, Found, Gathered, block_by, gather_blocks, pure, was_gathered, ◌>>=◌}
use Rattle.view_model.specs.declared.key.BlockKey.{BlockKey}
use Rattle.sftp_view.specs.declared.ops.View.{View}
use Rattle.sftp_view.specs.Doings.{IsIdle, MayDo, DoesBySession}
use Rattle.sftp_view.specs.Working.{StaysView, DoesByView}
use Rattle.sftp_view.proofs.FewLaws.{may_first}
use Rattle.sftp_view.proofs.RunLaws.{bound, gives, may_on, no_room_then, runs_self, stopped, then_on}
use Rattle.sftp_view.proofs.WorkLaws.{block_of}

-- what is left of the blocks of a view after k of them
abbrev pub left_of : View → List ℕ → ℕ → ℕ → ℕ → List ℕ → View → Doing Gathered
left_of old path first count k bytes now = gather_blocks old.block old.cache.capacity path (first + k) (count - k) bytes
    now.cache.kept

whole_of : View → List ℕ → ℕ → ℕ → Doing Gathered
whole_of old path first count = gather_blocks old.block old.cache.capacity path first count [] old.cache.kept

stays_on : (n m : ℕ) (a b c : View) → StaysView n a b → StaysView m b c → StaysView (n + m) a c
stays_on n m a b c first second = record {
  block = second.block ∙ first.block;
  capacity = second.capacity ∙ first.capacity;
  few = (let x = first.few in let y = second.few in omega (arith, x, y));
}

one_left : (count k : ℕ) → k < count → count - k ≡ suc (count - (k + 1))
one_left count k lt = omega (arith, lt)

is_short : (block len : ℕ) → len < block → nat_lt len block ≡ true
is_short block len lt = grind (arith, nat_tests)

is_whole : (block len : ℕ) → block ≤ len → nat_lt len block ≡ false
is_whole block len le = grind (arith, nat_tests)

at_most : (k count : ℕ) (old next : View) → k < count → StaysView (k + 1) old next → StaysView count old next
at_most k count old next lt stays = record {
  block = stays.block;
  capacity = stays.capacity;
  few = (let x = stays.few in omega (arith, x, lt));
}

-- what follows from the next block
abbrev pub after_block : View → List ℕ → ℕ → ℕ → ℕ → List ℕ → Gathered → Doing Gathered
after_block old path first count k bytes g =
    was_gathered old.block bytes g.found g.kept (λ more. gather_blocks old.block old.cache.capacity path (first + k + 1)
    (count - (k + 1)) more g.kept)

-- what is left, the next block first
next_is : (path : List ℕ) (first count k : ℕ) (bytes : List ℕ) (key : BlockKey) (old now : View) → k < count → key
    ≡ key_of (components path) (first + k)
    → now.block ≡ old.block → now.cache.capacity ≡ old.cache.capacity
    → left_of old path first count k bytes now ≡ block_of now.block now.cache path key >>= after_block old path first
    count k bytes
next_is path first count k bytes key old now lt name same_block same_capacity =
    ap (λ (m : ℕ). gather_blocks old.block old.cache.capacity path (first + k) m bytes now.cache.kept)
    (one_left count k lt)
    ∙ (λ i. block_by (sym same_block i) (sym same_capacity i) path (sym (ap (λ (x : BlockKey). x.block) name) i)
    now.cache.kept
    (lookup (same_key (sym name i)) now.cache.kept.entries) >>= after_block old path first count k bytes)

module _ {S : Type 0} where
  -- after k blocks
  pub record GathersSoFar (path : List ℕ) (first count k : ℕ) (bytes : List ℕ) (key : BlockKey) (old : View)
      (link : LinkView S) (now : View) (link_now : LinkView S) : Type 0 where
    pub runs : DoesBySession (gather_blocks old.block old.cache.capacity path first count [] old.cache.kept)
        (λ (u : Unit {0}). left_of old path first count k bytes now)
        (run_state (seen_of old.session) link) (run_state (seen_of now.session) link_now) (Ok tt)
    pub idle : IsIdle (run_state (seen_of now.session) link_now)
    pub stays : StaysView k old now
    pub name : key ≡ key_of (components path) (first + k)

  pub gathers_first : (path : List ℕ) (first count : ℕ) (bytes : List ℕ) (key : BlockKey) (old : View)
      (link : LinkView S)
      → IsIdle (run_state (seen_of old.session) link) → bytes ≡ [] → key ≡ key_of (components path) first
      → GathersSoFar path first count 0 bytes key old link old link
  gathers_first path first count bytes key old link idle none name =
      let here : RunState S = run_state (seen_of old.session) link in
      let f : Doing Gathered = gather_blocks old.block old.cache.capacity path first count [] old.cache.kept in
      let from : first + 0 ≡ first = omega arith in
      let all : count - 0 ≡ count = omega arith in
      let self : DoesBySession f (λ (u : Unit {0}). f) here here (Ok tt) = runs_self f tt here idle in
      record {
        runs = gives tt self (λ i. gather_blocks old.block old.cache.capacity path (sym from i) (sym all i) (sym none i)
            old.cache.kept);
        idle = idle;
        stays = record { block = refl; capacity = refl; few = omega arith };
        name = name ∙ ap (key_of (components path)) (sym from);
      }

  -- what the next block gives
  abbrev pub One : View → List ℕ → BlockKey → LinkView S → View → LinkView S → Result Found Error → Type 0
  One now path key link_now next link_next result =
      DoesByView (block_of now.block now.cache path key) (λ found. pure
      (record { found = found; kept = next.cache.kept })) 1 now link_now next link_next result

  pub may_block : (path : List ℕ) (first count k : ℕ) (bytes : List ℕ) (key : BlockKey) (old now : View)
      (link link_now : LinkView S) → k < count
      → MayDo (gather_blocks old.block old.cache.capacity path first count [] old.cache.kept)
      (seen_of old.session).progress.past
      → GathersSoFar path first count k bytes key old link now link_now
      → MayDo (block_of now.block now.cache path key) (seen_of now.session).progress.past
  may_block path first count k bytes key old now link link_now lt may so_far =
      may_first (block_of now.block now.cache path key) (after_block old path first count k bytes)
      (subst (λ (f : Doing Gathered). MayDo f (seen_of now.session).progress.past)
      (next_is path first count k bytes key old now lt so_far.name so_far.stays.block so_far.stays.capacity)
      (may_on may so_far.runs))

  one_more : (path : List ℕ) (first count k : ℕ) (bytes : List ℕ) (key : BlockKey) (old now next : View)
      (link link_now link_next : LinkView S) (found : Found) → k < count
      → GathersSoFar path first count k bytes key old link now link_now
      → One now path key link_now next link_next (Ok found)
      → DoesBySession (gather_blocks old.block old.cache.capacity path first count [] old.cache.kept)
      (after_block old path first count k bytes) (run_state (seen_of old.session) link)
      (run_state (seen_of next.session) link_next)
      (Ok (record { found = found; kept = next.cache.kept }))
  one_more path first count k bytes key old now next link link_now link_next found lt so_far one =
      let a : RunState S = run_state (seen_of old.session) link in
      let b : RunState S = run_state (seen_of now.session) link_now in
      let c : RunState S = run_state (seen_of next.session) link_next in
      let g : Gathered = record { found = found; kept = next.cache.kept } in
      let gave : DoesBySession (block_of now.block now.cache path key) pure b c (Ok g) = gives g one.runs refl in
      let whole : Doing Gathered = gather_blocks old.block old.cache.capacity path first count [] old.cache.kept in
      let before : DoesBySession whole (λ (u : Unit {0}). block_of now.block now.cache path key >>= after_block old path
      first count k bytes) a b (Ok tt) =
      gives tt so_far.runs (next_is path first count k bytes key old now lt so_far.name so_far.stays.block
      so_far.stays.capacity) in
      then_on before (bound {k = after_block old path first count k bytes} gave)

  pub gather_refused : (path : List ℕ) (first count k : ℕ) (bytes : List ℕ) (key : BlockKey) (old now next : View)
      (link link_now link_next : LinkView S) (found : Found) (code : ℕ)
      → k < count → GathersSoFar path first count k bytes key old link now link_now → found ≡ Err code
      → One now path key link_now next link_next (Ok found)
      → DoesByView (gather_blocks old.block old.cache.capacity path first count [] old.cache.kept)
      (λ f. pure (record { found = f; kept = next.cache.kept })) count
      old link next link_next (Ok (Err code))
  gather_refused path first count k bytes key old now next link link_now link_next found code lt so_far refused one =
      record {
        runs = gives (Err code) (one_more path first count k bytes key old now next link link_now link_next found lt
            so_far
            one)
            (ap (λ (f : Found). after_block old path first count k bytes (record { found = f; kept = next.cache.kept }))
            refused);
        stays = at_most k count old next lt (stays_on k 1 old now next so_far.stays one.stays);
      }

  pub gather_short : (path : List ℕ) (first count k : ℕ) (bytes more : List ℕ) (key : BlockKey) (old now next : View)
      (link link_now link_next : LinkView S) (found : Found)
      → k < count → GathersSoFar path first count k bytes key old link now link_now → found ≡ Ok more
      → One now path key link_now next link_next (Ok found)
      → length more < next.block → (all : List ℕ) → all ≡ bytes ++ more
      → DoesByView (gather_blocks old.block old.cache.capacity path first count [] old.cache.kept)
      (λ f. pure (record { found = f; kept = next.cache.kept })) count
      old link next link_next (Ok (Ok all))
  gather_short path first count k bytes more key old now next link link_now link_next found lt so_far brought one short
      all are =
      let stays = stays_on k 1 old now next so_far.stays one.stays in
      let less : nat_lt (length more) old.block ≡ true = is_short old.block (length more)
      (subst (λ (n : ℕ). length more < n) stays.block short) in
      record {
        runs = gives (Ok all) (one_more path first count k bytes key old now next link link_now link_next found lt
            so_far one)
            (ap (λ (f : Found). after_block old path first count k bytes (record { found = f; kept = next.cache.kept }))
            brought
            ∙ (λ i. if less i then pure (record { found = Ok (sym are i); kept = next.cache.kept })
            else gather_blocks old.block old.cache.capacity path (first + k + 1) (count - (k + 1)) (bytes ++ more)
            next.cache.kept));
        stays = at_most k count old next lt stays;
      }

  pub gather_more : (path : List ℕ) (first count k : ℕ) (bytes more : List ℕ) (key further : BlockKey)
      (old now next : View) (link link_now link_next : LinkView S) (found : Found)
      → k < count → GathersSoFar path first count k bytes key old link now link_now → found ≡ Ok more
      → One now path key link_now next link_next (Ok found)
      → next.block ≤ length more → (all : List ℕ) → all ≡ bytes ++ more → further ≡ record key { block = key.block + 1 }
      → GathersSoFar path first count (k + 1) all further old link next link_next
  gather_more path first count k bytes more key further old now next link link_now link_next found lt so_far brought one
      whole all are further_is =
      let stays = stays_on k 1 old now next so_far.stays one.stays in
      let not_less : nat_lt (length more) old.block ≡ false = is_whole old.block (length more)
      (subst (λ (n : ℕ). n ≤ length more) stays.block whole) in
      let place : first + k + 1 ≡ first + (k + 1) = omega arith in
      record {
        runs = gives tt (one_more path first count k bytes key old now next link link_now link_next found lt so_far one)
            (ap (λ (f : Found). after_block old path first count k bytes (record { found = f; kept = next.cache.kept }))
            brought
            ∙ (λ i. if not_less i then pure (record { found = Ok (bytes ++ more); kept = next.cache.kept })
            else gather_blocks old.block old.cache.capacity path (place i) (count - (k + 1)) (sym are i)
            next.cache.kept));
        idle = one.runs.idle;
        stays = stays;
        name = further_is ∙ (λ i. record { name = (so_far.name i).name; block = (so_far.name i).block + 1 })
            ∙ ap (key_of (components path)) place;
      }

  pub gather_all : (path : List ℕ) (first count k : ℕ) (bytes : List ℕ) (key : BlockKey) (old now : View)
      (link link_now : LinkView S) → count ≤ k → k ≤ count
      → GathersSoFar path first count k bytes key old link now link_now
      → DoesByView (gather_blocks old.block old.cache.capacity path first count [] old.cache.kept)
      (λ f. pure (record { found = f; kept = now.cache.kept })) count
      old link now link_now (Ok (Ok bytes))
  gather_all path first count k bytes key old now link link_now le ge so_far =
      let none : count - k ≡ 0 = omega (arith, le) in
      record {
        runs = gives (Ok bytes) so_far.runs (ap (λ (m : ℕ). gather_blocks old.block old.cache.capacity path (first + k)
            m bytes now.cache.kept) none);
        stays = record {
          block = so_far.stays.block;
          capacity = so_far.stays.capacity;
          few = (let x = so_far.stays.few in omega (arith, x, ge));
        };
      }

  pub gather_stopped : (path : List ℕ) (first count k : ℕ) (bytes : List ℕ) (key : BlockKey) (old now next : View)
      (link link_now link_next : LinkView S) (e : Error)
      {r : Found → Doing Gathered} → GathersSoFar path first count k bytes key old link now link_now
      → One now path key link_now next link_next (Err e)
      → DoesByView (gather_blocks old.block old.cache.capacity path first count [] old.cache.kept) r count old link next
      link_next (Err e)
  gather_stopped path first count k bytes key old now next link link_now link_next e so_far one =
      record { runs = then_on so_far.runs (stopped one.runs); stays = tt }

  pub gather_lost : (path : List ℕ) (first count k : ℕ) (bytes : List ℕ) (key : BlockKey) (old now next : View)
      (link link_now link_next : LinkView S) (found : Found)
      {r : Found → Doing Gathered} → GathersSoFar path first count k bytes key old link now link_now
      → One now path key link_now next link_next (Ok found)
      → DoesByView (gather_blocks old.block old.cache.capacity path first count [] old.cache.kept) r count old link next
      link_next (Err error.OutOfMemory)
  gather_lost path first count k bytes key old now next link link_now link_next found so_far one =
      record { runs = then_on so_far.runs (no_room_then one.runs); stays = tt }

-- a block is within the greatest offset
pub block_fits : (first count k n block : ℕ) → n ≡ first + k → k < count → (first + count) * block < 2 ^ 64
    → n * block < 2 ^ 64
block_fits first count k n block is lt fits =
    let le : n ≤ first + count = omega (arith, is, lt) in
    let more : n * block ≤ (first + count) * block = mul-le-mul_right block le in
    omega (arith, more, fits)

-- and so is the number of the next one
pub number_fits : (first count k n block : ℕ) → 1 ≤ block → n ≡ first + k → k < count → (first + count) * block < 2 ^ 64
    → n + 1 < 2 ^ 64
number_fits first count k n block some is lt fits =
    let le : first + count ≤ (first + count) * block = le-mul_of_pos_right (first + count) some in
    omega (arith, is, lt, fits, le)
