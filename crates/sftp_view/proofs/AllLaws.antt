-- The operations of a view, one after another.
use Rattle.std.proofs.Common.{◌≡◌, ◌≤◌, ◌<◌, ◌+◌, ℕ, suc, Bool, true, false, List, [], ◌∷◌, ◌++◌, length, refl, ap, sym, ◌∙◌, subst, arith}
use Rattle.std.specs.Prelude.{Result, Ok, Err, ◌&&◌, drop, get_or}
use Rattle.std.proofs.lemmas.List.{drop_more}
use Rattle.std.specs.List.{list_all}
use Rattle.sftp_model.specs.declared.error.Error.{Error}
use Rattle.sftp_model.specs.declared.error.Error.TheVariants as error
use Rattle.sftp_link.specs.Views.{LinkView}
use Rattle.session_driver.specs.Ongoing.{RunState, run_state}
use Rattle.sftp_lanes.specs.Seen.{seen_of}
use Rattle.view_model.specs.Viewed.{Answered, Doing, Viewed, answered_with, op_by, pure, viewed_from, ◌>>=◌}
use Rattle.view_model.specs.ViewOps.{is_within}
use Rattle.view_model.specs.declared.answer.Answer.{Answer}
use Rattle.view_model.specs.declared.op.ViewOp.{ViewOp}
use Rattle.sftp_view.specs.declared.ops.View.{View}
use Rattle.sftp_view.specs.Doings.{IsIdle, MayDo, DoesBySession}
use Rattle.sftp_view.specs.Operations.{MayRunAll, done_by, left_by, most}
use Rattle.sftp_view.specs.Working.{MayWork, DoesByView, count_lookups}
use Rattle.sftp_view.proofs.FewLaws.{may_first}
use Rattle.sftp_view.proofs.RunLaws.{bound, gives, may_on, no_room_then, runs_self, stopped, then_on}

-- what is left of the operations
abbrev pub later_by : View → List ViewOp → List Answer → View → Doing Viewed
later_by old rest answers now = viewed_from old.block old.cache.capacity rest answers now.cache.kept

-- what follows from an operation
abbrev pub after_op : View → List ViewOp → List Answer → Answered → Doing Viewed
after_op old later answers a = viewed_from old.block old.cache.capacity later (answers ++ a.answer ∷ []) a.kept

split_and : (a b : Bool) → a && b ≡ true → (a ≡ true) × (b ≡ true)
split_and true b e = (refl, e)
split_and false b e = absurd cc

one_less : (o : ViewOp) (rest later : List ViewOp) → rest ≡ o ∷ later → most rest ≡ 2097152 + most later
one_less o rest later is =
    let long : length rest ≡ suc (length later) = ap length is in
    omega (arith, long)

-- what an item is the first of
pub item_first : {A : Type 0} (xs : List A) (i : ℕ) (x : A) → x ≡ get_or xs i x → i < length xs → drop i xs
    ≡ x ∷ drop (i + 1) xs
item_first xs i x is lt = drop_more xs i x lt ∙ ap (λ y. y ∷ drop (i + 1) xs) (sym is)

-- the next operation, by the blocks that are kept now
next_is : (o : ViewOp) (rest later : List ViewOp) (answers : List Answer) (old now : View) → rest ≡ o ∷ later
    → now.block ≡ old.block
    → now.cache.capacity ≡ old.cache.capacity
    → later_by old rest answers now ≡ op_by now.block now.cache.capacity o now.cache.kept >>= after_op old later answers
next_is o rest later answers old now is same_block same_capacity =
    ap (λ (r : List ViewOp). later_by old r answers now) is
    ∙ (λ i. op_by (sym same_block i) (sym same_capacity i) o now.cache.kept >>= after_op old later answers)

module _ {S : Type 0} where
  -- so far these answers were given, and the rest is left
  pub record DoesSoFar (ops rest : List ViewOp) (answers : List Answer) (old : View) (link : LinkView S) (now : View)
      (link_now : LinkView S) : Type 0 where
    pub runs : DoesBySession (done_by ops old) (λ (u : Unit {0}). later_by old rest answers now)
        (run_state (seen_of old.session) link)
        (run_state (seen_of now.session) link_now) (Ok tt)
    pub idle : IsIdle (run_state (seen_of now.session) link_now)
    pub within : list_all is_within rest ≡ true
    pub block : now.block ≡ old.block
    pub capacity : now.cache.capacity ≡ old.cache.capacity
    pub few : count_lookups now.cache + most rest ≤ count_lookups old.cache + most ops

  pub does_first : (ops : List ViewOp) (answers : List Answer) (old : View) (link : LinkView S) → answers ≡ []
      → MayRunAll ops old link
      → DoesSoFar ops ops answers old link old link
  does_first ops answers old link none may =
      let here : RunState S = run_state (seen_of old.session) link in
      let self : DoesBySession (done_by ops old) (λ (u : Unit {0}). done_by ops old) here here (Ok tt) =
      runs_self (done_by ops old) tt here may.idle in
      record {
        runs = gives tt self (ap (λ (a : List Answer). later_by old ops a old) (sym none));
        idle = may.idle;
        within = may.within;
        block = refl;
        capacity = refl;
        few = omega arith;
      }

  -- what the next operation gives
  abbrev pub One : View → ViewOp → LinkView S → View → LinkView S → Result Answer Error → Type 0
  One now o link_now next link_next result =
      DoesByView (op_by now.block now.cache.capacity o now.cache.kept) (λ a. pure (answered_with a next.cache.kept))
      2097152 now link_now next link_next result

  pub may_next : (ops rest later : List ViewOp) (o : ViewOp) (answers : List Answer) (old now : View)
      (link link_now : LinkView S) → MayRunAll ops old link
      → rest ≡ o ∷ later → DoesSoFar ops rest answers old link now link_now
      → MayWork (op_by now.block now.cache.capacity o now.cache.kept) now link_now
  may_next ops rest later o answers old now link link_now may is so_far =
      let size = one_less o rest later is in
      record {
        idle = so_far.idle;
        may = may_first (op_by now.block now.cache.capacity o now.cache.kept) (after_op old later answers)
            (subst (λ (f : Doing Viewed). MayDo f (seen_of now.session).progress.past)
            (next_is o rest later answers old now is so_far.block so_far.capacity)
            (may_on may.may so_far.runs));
        some = subst (λ (n : ℕ). 1 ≤ n) (sym so_far.block) may.some;
        short = subst (λ (n : ℕ). n ≤ 65536) (sym so_far.block) may.short;
        counts = (let x = so_far.few in let y = may.counts in omega (arith, x, y, size));
      }

  pub within_next : (ops rest later : List ViewOp) (o : ViewOp) (answers : List Answer) (old now : View)
      (link link_now : LinkView S) → rest ≡ o ∷ later
      → DoesSoFar ops rest answers old link now link_now → is_within o ≡ true
  within_next ops rest later o answers old now link link_now is so_far =
      (split_and (is_within o) (list_all is_within later) (ap (λ (r : List ViewOp). list_all is_within r) (sym is)
      ∙ so_far.within)).0

  one_more : (ops rest later : List ViewOp) (o : ViewOp) (answers : List Answer) (said : Answer) (old now next : View)
      (link link_now link_next : LinkView S)
      → rest ≡ o ∷ later → DoesSoFar ops rest answers old link now link_now
      → One now o link_now next link_next (Ok said)
      → DoesBySession (done_by ops old) (after_op old later answers) (run_state (seen_of old.session) link)
      (run_state (seen_of next.session) link_next)
      (Ok (answered_with said next.cache.kept))
  one_more ops rest later o answers said old now next link link_now link_next is so_far one =
      let a : RunState S = run_state (seen_of old.session) link in
      let b : RunState S = run_state (seen_of now.session) link_now in
      let c : RunState S = run_state (seen_of next.session) link_next in
      let gave : DoesBySession (op_by now.block now.cache.capacity o now.cache.kept) pure b c
      (Ok (answered_with said next.cache.kept)) =
      gives (answered_with said next.cache.kept) one.runs refl in
      let before : DoesBySession (done_by ops old) (λ (u : Unit {0}). op_by now.block now.cache.capacity o
      now.cache.kept >>= after_op old later answers) a b (Ok tt) =
      gives tt so_far.runs (next_is o rest later answers old now is so_far.block so_far.capacity) in
      then_on before (bound {k = after_op old later answers} gave)

  pub does_more : (ops rest later : List ViewOp) (o : ViewOp) (answers all : List Answer) (said : Answer)
      (old now next : View) (link link_now link_next : LinkView S)
      → rest ≡ o ∷ later → all ≡ answers ++ said ∷ [] → DoesSoFar ops rest answers old link now link_now
      → One now o link_now next link_next (Ok said)
      → DoesSoFar ops later all old link next link_next
  does_more ops rest later o answers all said old now next link link_now link_next is are so_far one =
      let size = one_less o rest later is in
      record {
        runs = gives tt (one_more ops rest later o answers said old now next link link_now link_next is so_far one)
            (ap (λ (l : List Answer). viewed_from old.block old.cache.capacity later l next.cache.kept) (sym are));
        idle = one.runs.idle;
        within = (split_and (is_within o) (list_all is_within later)
            (ap (λ (r : List ViewOp). list_all is_within r) (sym is) ∙ so_far.within)).1;
        block = one.stays.block ∙ so_far.block;
        capacity = one.stays.capacity ∙ so_far.capacity;
        few = (let x = so_far.few in let y = one.stays.few in omega (arith, x, y, size));
      }

  pub does_all : (ops rest : List ViewOp) (answers : List Answer) (old now : View) (link link_now : LinkView S) → rest
      ≡ []
      → DoesSoFar ops rest answers old link now link_now
      → DoesByView (done_by ops old) (λ l. left_by l now) (most ops) old link now link_now (Ok answers)
  does_all ops rest answers old now link link_now none so_far = record {
    runs = gives answers so_far.runs (ap (λ (r : List ViewOp). later_by old r answers now) none);
    stays = record {
      block = so_far.block;
      capacity = so_far.capacity;
      few = (let x = so_far.few in omega (arith, x));
    };
  }

  pub does_stopped : (ops rest : List ViewOp) (o : ViewOp) (answers : List Answer) (old now next : View)
      (link link_now link_next : LinkView S) (e : Error)
      {r : List Answer → Doing Viewed} → DoesSoFar ops rest answers old link now link_now
      → One now o link_now next link_next (Err e)
      → DoesByView (done_by ops old) r (most ops) old link next link_next (Err e)
  does_stopped ops rest o answers old now next link link_now link_next e so_far one =
      record { runs = then_on so_far.runs (stopped one.runs); stays = tt }

  pub does_lost : (ops rest : List ViewOp) (o : ViewOp) (answers : List Answer) (said : Answer) (old now next : View)
      (link link_now link_next : LinkView S)
      {r : List Answer → Doing Viewed} → DoesSoFar ops rest answers old link now link_now
      → One now o link_now next link_next (Ok said)
      → DoesByView (done_by ops old) r (most ops) old link next link_next (Err error.OutOfMemory)
  does_lost ops rest o answers said old now next link link_now link_next so_far one =
      record { runs = then_on so_far.runs (no_room_then one.runs); stays = tt }
