-- What a view does operation by operation.
use Rattle.std.proofs.Common.{◌≡◌, ◌≤◌, ◌+◌, ◌-◌, ◌*◌, ◌/◌, ◌==◌, ℕ, true, false, List, [], if◌then◌else◌, refl, ap, sym, ◌∙◌, subst, arith}
use Rattle.std.specs.Prelude.{Result, Ok, Err}
use Rattle.sftp_model.specs.declared.error.Error.{Error}
use Rattle.sftp_model.specs.declared.error.Error.TheVariants as error
use Rattle.sftp_link.specs.Views.{LinkView}
use Rattle.machine_model.specs.Components.{components}
use Rattle.session_model.specs.declared.entry.Entry.{Entry}
use Rattle.session_driver.specs.Ongoing.{RunState, run_state}
use Rattle.sftp_lanes.specs.Seen.{SessionValue, seen_of}
use Rattle.view_model.specs.Blocks.{Kept, block_count, without_blocks_of, first_block}
use Rattle.view_model.specs.Caches.{CacheValue, cache_of}
use Rattle.view_model.specs.Viewed.{Answered, Doing, Found, Gathered, answered_with, gather_blocks, get_by, got_of, op_by, pure, put_by, write_bytes}
use Rattle.view_model.specs.ViewOps.{passes_length}
use Rattle.view_model.specs.declared.answer.Answer.{Answer}
use Rattle.view_model.specs.declared.answer.Answer.TheVariants as answer
use Rattle.view_model.specs.declared.op.ViewOp.{ViewOp}
use Rattle.view_model.specs.declared.op.ViewOp.TheVariants as op
use Rattle.view_model.proofs.CountLaws.{blocks_few}
use Rattle.sftp_view.specs.declared.ops.View.{View}
use Rattle.sftp_view.specs.Doings.{IsIdle, MayDo, DoesBySession}
use Rattle.sftp_view.specs.Working.{MayWork, StaysView, DoesByView, count_lookups}
use Rattle.sftp_view.proofs.FewLaws.{may_first}
use Rattle.sftp_view.proofs.RunLaws.{bound, gives, no_room_then, runs_self, stopped}
use Rattle.sftp_view.proofs.WorkLaws.{view_of}

-- ---- get

-- what follows from the blocks
abbrev pub after_blocks : View → ℕ → ℕ → Gathered → Doing Answered
after_blocks old offset len g = pure (answered_with (got_of (offset - first_block old.block offset * old.block) len
    g.found) g.kept)

abbrev pub blocks_of : View → List ℕ → ℕ → ℕ → Doing Gathered
blocks_of old path offset len = gather_blocks old.block old.cache.capacity path (first_block old.block offset)
    (block_count old.block offset len) [] old.cache.kept

pub may_gather : (old : View) (path : List ℕ) (offset len : ℕ) {past : List Entry}
    → MayDo (get_by old.block old.cache.capacity path offset len old.cache.kept) past
    → MayDo (blocks_of old path offset len) past
may_gather old path offset len may = may_first (blocks_of old path offset len) (after_blocks old offset len) may

few_as : (n m : ℕ) (old new : View) → n ≤ m → StaysView n old new → StaysView m old new
few_as n m old new le stays = record {
  block = stays.block;
  capacity = stays.capacity;
  few = (let x = stays.few in omega (arith, x, le));
}

module _ {S : Type 0} where
  pub got_blocks : (old new : View) (path : List ℕ) (offset len : ℕ) (link link_now : LinkView S) (found : Found)
      (said : Answer)
      → 1 ≤ old.block → old.block ≤ 65536 → len ≤ 1048576
      → said ≡ got_of (offset - first_block old.block offset * old.block) len found
      → DoesByView (blocks_of old path offset len) (λ f. pure (record { found = f; kept = new.cache.kept }))
      (block_count old.block offset len) old link new link_now (Ok found)
      → DoesByView (get_by old.block old.cache.capacity path offset len old.cache.kept)
      (λ a. pure (answered_with a new.cache.kept)) 2097152 old link new link_now (Ok said)
  got_blocks old new path offset len link link_now found said some short most same work =
      let a : RunState S = run_state (seen_of old.session) link in
      let b : RunState S = run_state (seen_of new.session) link_now in
      let g : Gathered = record { found = found; kept = new.cache.kept } in
      let gave : DoesBySession (blocks_of old path offset len) pure a b (Ok g) = gives g work.runs refl in
      record {
        runs = gives said (bound {k = after_blocks old offset len} gave)
            (ap (λ (x : Answer). pure (answered_with x new.cache.kept)) (sym same));
        stays = few_as (block_count old.block offset len) 2097152 old new
            (blocks_few old.block offset len some short most) work.stays;
      }

  pub get_stopped : (old new : View) (path : List ℕ) (offset len : ℕ) (link link_now : LinkView S) (e : Error)
      {r : Found → Doing Gathered} {q : Answer → Doing Answered} (n : ℕ)
      → DoesByView (blocks_of old path offset len) r n old link new link_now (Err e)
      → DoesByView (get_by old.block old.cache.capacity path offset len old.cache.kept) q 2097152 old link new link_now
      (Err e)
  get_stopped old new path offset len link link_now e n work = record { runs = stopped work.runs; stays = tt }

  pub get_lost : (old new : View) (path : List ℕ) (offset len : ℕ) (link link_now : LinkView S) (found : Found)
      {r : Found → Doing Gathered} {q : Answer → Doing Answered} (n : ℕ)
      → DoesByView (blocks_of old path offset len) r n old link new link_now (Ok found)
      → DoesByView (get_by old.block old.cache.capacity path offset len old.cache.kept) q 2097152 old link new link_now
      (Err error.OutOfMemory)
  get_lost old new path offset len link link_now found n work = record { runs = no_room_then work.runs; stays = tt }

  -- the numbers of the blocks, as they are worked out
  pub got_part : (old new : View) (path : List ℕ) (offset len b w : ℕ) (link link_now : LinkView S) (found : Found)
      (said : Answer)
      → b ≡ old.block → w ≡ len
      → 1 ≤ old.block → old.block ≤ 65536 → len ≤ 1048576
      → said ≡ got_of (offset - offset / b * b) len found
      → DoesByView (gather_blocks old.block old.cache.capacity path (offset / b) ((offset + w - 1) / b - offset / b + 1)
      [] old.cache.kept)
      (λ f. pure (record { found = f; kept = new.cache.kept })) ((offset + w - 1) / b - offset / b + 1) old link new
      link_now (Ok found)
      → DoesByView (get_by old.block old.cache.capacity path offset len old.cache.kept)
      (λ a. pure (answered_with a new.cache.kept)) 2097152 old link new link_now (Ok said)
  got_part old new path offset len b w link link_now found said is wide some short most same work =
      got_blocks old new path offset len link link_now found said some short most
      (subst (λ (x : ℕ). said ≡ got_of (offset - offset / x * x) len found) is same)
      (subst (λ (x : ℕ). DoesByView (gather_blocks old.block old.cache.capacity path (offset / x)
      ((offset + len - 1) / x - offset / x + 1) [] old.cache.kept)
      (λ f. pure (record { found = f; kept = new.cache.kept })) ((offset + len - 1) / x - offset / x + 1) old link new
      link_now (Ok found)) is
      (subst (λ (y : ℕ). DoesByView (gather_blocks old.block old.cache.capacity path (offset / b)
      ((offset + y - 1) / b - offset / b + 1) [] old.cache.kept)
      (λ f. pure (record { found = f; kept = new.cache.kept })) ((offset + y - 1) / b - offset / b + 1) old link new
      link_now (Ok found)) wide work))

-- ---- put

abbrev pub after_put : List ℕ → Kept (List ℕ) → Answer → Doing Answered
after_put path kept a = pure (answered_with a (without_blocks_of (components path) kept))

pub may_write_file : (path : List ℕ) (offset : ℕ) (content : List ℕ) (kept : Kept (List ℕ)) {past : List Entry}
    → MayDo (put_by path offset content kept) past
    → MayDo (write_bytes path offset content) past
may_write_file path offset content kept may = may_first (write_bytes path offset content) (after_put path kept) may

module _ {S : Type 0} where
  pub put_done : (session now : SessionValue) (cache new : CacheValue) (block : ℕ) (path : List ℕ) (offset : ℕ)
      (content : List ℕ) (link link_now : LinkView S) (said : Answer)
      (name : List (List ℕ)) → name ≡ components path → new ≡ cache_of cache.capacity
      (without_blocks_of name cache.kept)
      → DoesBySession (write_bytes path offset content) pure (run_state (seen_of session) link)
      (run_state (seen_of now) link_now) (Ok said)
      → DoesByView (put_by path offset content cache.kept) (λ a. pure (answered_with a new.kept)) 2097152
      (view_of session cache block) link (view_of now new block) link_now (Ok said)
  put_done session now cache new block path offset content link link_now said name is left run =
      let kept : new.kept ≡ without_blocks_of (components path) cache.kept = ap (λ (c : CacheValue). c.kept) left
      ∙ ap (λ (n : List (List ℕ)). without_blocks_of n cache.kept) is in
      let same : count_lookups new ≡ count_lookups cache = ap count_lookups left in
      record {
        runs = gives said (bound {k = after_put path cache.kept} run)
            (ap (λ (k : Kept (List ℕ)). pure (answered_with said k)) (sym kept));
        stays = record {
          block = refl;
          capacity = ap (λ (c : CacheValue). c.capacity) left;
          few = omega (arith, same);
        };
      }

  pub put_stopped : (session now : SessionValue) (cache new : CacheValue) (block : ℕ) (path : List ℕ) (offset : ℕ)
      (content : List ℕ) (link link_now : LinkView S) (e : Error)
      {q : Answer → Doing Answered} → DoesBySession (write_bytes path offset content) pure
      (run_state (seen_of session) link) (run_state (seen_of now) link_now) (Err e)
      → DoesByView (put_by path offset content cache.kept) q 2097152 (view_of session cache block) link
      (view_of now new block) link_now (Err e)
  put_stopped session now cache new block path offset content link link_now e run =
      record { runs = stopped run; stays = tt }

  pub put_lost : (session now : SessionValue) (cache new : CacheValue) (block : ℕ) (path : List ℕ) (offset : ℕ)
      (content : List ℕ) (link link_now : LinkView S) {said : Answer}
      {q : Answer → Doing Answered} → DoesBySession (write_bytes path offset content) pure
      (run_state (seen_of session) link) (run_state (seen_of now) link_now) (Ok said)
      → DoesByView (put_by path offset content cache.kept) q 2097152 (view_of session cache block) link
      (view_of now new block) link_now (Err error.OutOfMemory)
  put_lost session now cache new block path offset content link link_now run =
      record { runs = no_room_then run; stays = tt }

-- ---- any operation

get_plain : (block capacity : ℕ) (path : List ℕ) (offset len : ℕ) (kept : Kept (List ℕ)) → (len == 0) ≡ false
    → passes_length path ≡ false
    → op_by block capacity (op.Get path offset len) kept ≡ get_by block capacity path offset len kept
get_plain block capacity path offset len kept some fits =
    λ i. if some i then pure (answered_with (answer.Got []) kept)
    else if fits i then pure (answered_with answer.TooLong kept) else get_by block capacity path offset len kept

put_plain : (block capacity : ℕ) (path : List ℕ) (offset : ℕ) (content : List ℕ) (kept : Kept (List ℕ))
    → passes_length path ≡ false
    → op_by block capacity (op.Put path offset content) kept ≡ put_by path offset content kept
put_plain block capacity path offset content kept fits =
    λ i. if fits i then pure (answered_with answer.TooLong kept) else put_by path offset content kept

module _ {S : Type 0} where
  may_as : {T : Type 0} (f g : Doing T) (view : View) (link : LinkView S) → f ≡ g → MayWork f view link
      → MayWork g view link
  may_as f g view link same may = record {
    idle = may.idle;
    may = subst (λ (h : Doing _). MayDo h (seen_of view.session).progress.past) same may.may;
    some = may.some;
    short = may.short;
    counts = may.counts;
  }

  pub may_get : (view : View) (o : ViewOp) (path : List ℕ) (offset len : ℕ) (link : LinkView S) → o
      ≡ op.Get path offset len → (len == 0) ≡ false → passes_length path ≡ false
      → MayWork (op_by view.block view.cache.capacity o view.cache.kept) view link
      → MayWork (get_by view.block view.cache.capacity path offset len view.cache.kept) view link
  may_get view o path offset len link is some fits may =
      may_as _ _ view link (ap (λ (x : ViewOp). op_by view.block view.cache.capacity x view.cache.kept) is
      ∙ get_plain view.block view.cache.capacity path offset len view.cache.kept some fits) may

  pub may_put : (view : View) (o : ViewOp) (path : List ℕ) (offset : ℕ) (content : List ℕ) (link : LinkView S) → o
      ≡ op.Put path offset content → passes_length path ≡ false
      → MayWork (op_by view.block view.cache.capacity o view.cache.kept) view link
      → MayWork (put_by path offset content view.cache.kept) view link
  may_put view o path offset content link is fits may =
      may_as _ _ view link (ap (λ (x : ViewOp). op_by view.block view.cache.capacity x view.cache.kept) is
      ∙ put_plain view.block view.cache.capacity path offset content view.cache.kept fits) may

  works_as : {T U : Type 0} (f g : Doing T) (r : U → Doing T) (n : ℕ) (old new : View) (link link_now : LinkView S)
      (result : Result U Error) → f ≡ g
      → DoesByView g r n old link new link_now result → DoesByView f r n old link new link_now result
  works_as f g r n old new link link_now result same work = subst
      (λ (h : Doing _). DoesByView h r n old link new link_now result) (sym same) work

  pub did_get : (old new : View) (o : ViewOp) (path : List ℕ) (offset len : ℕ) (link link_now : LinkView S)
      (result : Result Answer Error) → o ≡ op.Get path offset len
      → (len == 0) ≡ false → passes_length path ≡ false
      → DoesByView (get_by old.block old.cache.capacity path offset len old.cache.kept)
      (λ a. pure (answered_with a new.cache.kept)) 2097152 old link new link_now result
      → DoesByView (op_by old.block old.cache.capacity o old.cache.kept) (λ a. pure (answered_with a new.cache.kept))
      2097152 old link new link_now result
  did_get old new o path offset len link link_now result is some fits work =
      works_as _ _ _ 2097152 old new link link_now result (ap (λ (x : ViewOp). op_by old.block old.cache.capacity x
      old.cache.kept) is
      ∙ get_plain old.block old.cache.capacity path offset len old.cache.kept some fits) work

  pub did_put : (old new : View) (o : ViewOp) (path : List ℕ) (offset : ℕ) (content : List ℕ)
      (link link_now : LinkView S) (result : Result Answer Error) → o ≡ op.Put path offset content
      → passes_length path ≡ false
      → DoesByView (put_by path offset content old.cache.kept) (λ a. pure (answered_with a new.cache.kept)) 2097152 old
      link new link_now result
      → DoesByView (op_by old.block old.cache.capacity o old.cache.kept) (λ a. pure (answered_with a new.cache.kept))
      2097152 old link new link_now result
  did_put old new o path offset content link link_now result is fits work =
      works_as _ _ _ 2097152 old new link link_now result (ap (λ (x : ViewOp). op_by old.block old.cache.capacity x
      old.cache.kept) is
      ∙ put_plain old.block old.cache.capacity path offset content old.cache.kept fits) work

  -- without a call
  at_once : (view : View) (f : Doing Answered) (said : Answer) (link : LinkView S)
      → IsIdle (run_state (seen_of view.session) link) → f ≡ pure (answered_with said view.cache.kept)
      → DoesByView f (λ a. pure (answered_with a view.cache.kept)) 2097152 view link view link (Ok said)
  at_once view f said link idle is =
      let here : RunState S = run_state (seen_of view.session) link in
      let self : DoesBySession f (λ (u : Unit {0}). f) here here (Ok tt) = runs_self f tt here idle in
      record { runs = gives said self is; stays = record { block = refl; capacity = refl; few = omega arith } }

  pub got_nothing : (view : View) (o : ViewOp) (path bytes : List ℕ) (offset len : ℕ) (link : LinkView S) → o
      ≡ op.Get path offset len → (len == 0) ≡ true → bytes ≡ []
      → IsIdle (run_state (seen_of view.session) link)
      → DoesByView (op_by view.block view.cache.capacity o view.cache.kept)
      (λ a. pure (answered_with a view.cache.kept)) 2097152
      view link view link (Ok (answer.Got bytes))
  got_nothing view o path bytes offset len link is none empty idle =
      at_once view (op_by view.block view.cache.capacity o view.cache.kept) (answer.Got bytes) link idle
      (ap (λ (x : ViewOp). op_by view.block view.cache.capacity x view.cache.kept) is
      ∙ ((λ i. if none i then pure (answered_with (answer.Got []) view.cache.kept)
      else if passes_length path then pure (answered_with answer.TooLong view.cache.kept) else
      get_by view.block view.cache.capacity path offset len view.cache.kept)
      ∙ ap (λ (b : List ℕ). pure (answered_with (answer.Got b) view.cache.kept)) (sym empty)))

  pub get_too_long : (view : View) (o : ViewOp) (path : List ℕ) (offset len : ℕ) (link : LinkView S) → o
      ≡ op.Get path offset len → (len == 0) ≡ false → passes_length path ≡ true
      → IsIdle (run_state (seen_of view.session) link)
      → DoesByView (op_by view.block view.cache.capacity o view.cache.kept)
      (λ a. pure (answered_with a view.cache.kept)) 2097152 view link view link (Ok answer.TooLong)
  get_too_long view o path offset len link is some long idle =
      at_once view (op_by view.block view.cache.capacity o view.cache.kept) answer.TooLong link idle
      (ap (λ (x : ViewOp). op_by view.block view.cache.capacity x view.cache.kept) is
      ∙ (λ i. if some i then pure (answered_with (answer.Got []) view.cache.kept)
      else if long i then pure (answered_with answer.TooLong view.cache.kept) else
      get_by view.block view.cache.capacity path offset len view.cache.kept))

  pub put_too_long : (view : View) (o : ViewOp) (path : List ℕ) (offset : ℕ) (content : List ℕ) (link : LinkView S) → o
      ≡ op.Put path offset content → passes_length path ≡ true
      → IsIdle (run_state (seen_of view.session) link)
      → DoesByView (op_by view.block view.cache.capacity o view.cache.kept)
      (λ a. pure (answered_with a view.cache.kept)) 2097152 view link view link (Ok answer.TooLong)
  put_too_long view o path offset content link is long idle =
      at_once view (op_by view.block view.cache.capacity o view.cache.kept) answer.TooLong link idle
      (ap (λ (x : ViewOp). op_by view.block view.cache.capacity x view.cache.kept) is
      ∙ (λ i. if long i then pure (answered_with answer.TooLong view.cache.kept) else
      put_by path offset content view.cache.kept))
