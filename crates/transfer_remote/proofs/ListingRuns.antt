-- Listings that run, one after another, and rounds of a session with them.
use Rattle.std.proofs.Common.{◌≡◌, ◌<◌, ◌+◌, ◌∙◌, ℕ, zero, suc, List, [], ◌∷◌, ◌++◌, length, refl, sym, ap, subst, arith, Option, Some, None, IsSome}
use Rattle.std.specs.Prelude.{Result, Ok, Err}
use Rattle.std.proofs.lemmas.List.{append_assoc, append-nil}
use Rattle.sftp_model.specs.declared.error.Error.{Error}
use Rattle.sftp_core.specs.Core.{Core}
use Rattle.sftp_core.specs.Info.{info_of}
use Rattle.sftp_link.specs.Views.{LinkView}
use Rattle.plan_state.specs.Calls.{CallValue}
use Rattle.sftp_fs.specs.Directories.{OpensFrom}
use Rattle.sftp_fs.specs.declared.directory.OpeningDir.{OpeningDir}
use Rattle.sftp_client.specs.Sessions.{SftpValue, with_core}
use Rattle.transfer_pool.specs.Sessions.{IsGoing, TookTurn}
use Rattle.transfer_remote.specs.ListingSteps.{IsHeld, LeavesStage, MayStep, RunsListing, listing_on}
use Rattle.transfer_remote.specs.ManyListings.{AdvancesListings, AreTogether, BeginsListing, EndsFirst, FailsFirst, HoldsListings, KeepsFault, LastRound, ListedValue, ListingMany, ListsNext, MayRunTogether, RemovesFirst, RunsAll, RunsEach, RunsTogether, TakesRounds}
use Rattle.transfer_remote.specs.declared.listing_stage.Listing.{Listing}
use Rattle.transfer_remote.specs.declared.listing_stage.Stage.{Stage}
use Rattle.transfer_remote.specs.declared.listing_stage.Stage.TheVariants as stage
use Rattle.transfer_remote.specs.declared.listings.First.TheVariants as first
use Rattle.transfer_remote.specs.declared.remote_error.RemoteError.{RemoteError}
use Rattle.transfer_remote.proofs.ListingLeaves.{leaves_same}
use Rattle.transfer_remote.proofs.ListingTogether.{begun_fault, together_begun, together_gone, together_kept, together_turned, unbegun_same}

-- ---- each of them, the first one first

each_last : (old mid new : Core) (xs ys : List Listing) (x y : Listing) → RunsEach old xs mid ys
    → RunsListing (listing_on mid x) (listing_on new y) → RunsEach old (xs ++ x ∷ []) new (ys ++ y ∷ [])
each_last old mid new [] [] x y same runs =
    (new, subst (λ (c : Core). RunsListing (listing_on c x) (listing_on new y)) same runs, refl)
each_last old mid new (a ∷ xs) (b ∷ ys) x y (core, here, later) runs =
    (core, here, each_last core mid new xs ys x y later runs)
each_last old mid new [] (b ∷ ys) x y never runs = absurd never
each_last old mid new (a ∷ xs) [] x y never runs = absurd never

each_none : (core : Core) (xs : List Listing) → AreTogether core xs → RunsEach core xs core xs
each_none core [] all = refl
each_none core (x ∷ xs) (held, apart, all) =
    (core, record { count = zero; steps = refl; leaves = leaves_same core x.stage held }, each_none core xs all)

-- so far these ran, and the others are before them
pub record RanSoFar (old : Core) (all : List Listing) (count : ℕ) (now : Core) (running : List Listing) : Type 0 where
  pub done : List Listing
  pub rest : List Listing
  pub ran : List Listing
  pub split : all ≡ done ++ rest
  pub counted : length done ≡ count
  pub is : running ≡ rest ++ ran
  pub runs : RunsEach old done now ran
  pub together : AreTogether now running
  pub opened : IsSome (info_of now.phase)
  pub fault : now.fault ≡ old.fault

pub ran_first : (old : Core) (all : List Listing) → MayRunTogether old all → RanSoFar old all 0 old all
ran_first old all may = record {
  done = [];
  rest = all;
  ran = [];
  split = refl;
  counted = refl;
  is = sym (append-nil all);
  runs = refl;
  together = may.together;
  opened = may.opened;
  fault = refl;
}

pub ran_may : (old : Core) (all : List Listing) (count : ℕ) (now : Core) (running : List Listing) (x : Listing)
    (later : List Listing) → RanSoFar old all count now running → running ≡ x ∷ later → MayStep now x.stage
ran_may old all count now running x later r is =
    let all_held : AreTogether now (x ∷ later) = subst (λ (l : List Listing). AreTogether now l) is r.together in
    record { opened = r.opened; held = all_held.0 }

all_done : (xs ys : List Listing) → length xs ≡ length (xs ++ ys) → ys ≡ []
all_done [] [] same = refl
all_done [] (y ∷ ys) same = absurd cc
all_done (x ∷ xs) ys same = all_done xs ys (omega (arith, same))

head_is : (x : Listing) (rest ran : List Listing) (y : Listing) (later : List Listing)
    → (x ∷ rest) ++ ran ≡ y ∷ later → x ≡ y
head_is x rest ran y later same = cc

tail_is : (x : Listing) (rest ran : List Listing) (y : Listing) (later : List Listing)
    → (x ∷ rest) ++ ran ≡ y ∷ later → later ≡ rest ++ ran
tail_is x rest ran y later same = cc

counted_last : (xs : List Listing) (w : Listing) → length (xs ++ w ∷ []) ≡ length xs + 1
counted_last [] w = refl
counted_last (a ∷ xs) w = (let e = counted_last xs w in omega (arith, e))

pub ran_next : (old : Core) (all : List Listing) (count : ℕ) (now new : Core) (running later after : List Listing)
    (x y : Listing) → RanSoFar old all count now running → count < length all → running ≡ x ∷ later
    → RunsListing (listing_on now x) (listing_on new y) → after ≡ later ++ y ∷ []
    → RanSoFar old all (count + 1) new after
ran_next old all count now new running later after x y r few is runs last = by_rest r.rest r.split r.is
  where
    by_rest : (rest : List Listing) → all ≡ r.done ++ rest → running ≡ rest ++ r.ran
        → RanSoFar old all (count + 1) new after
    by_rest [] split from =
        (let n : length all ≡ length r.done = ap length (split ∙ append-nil r.done) in
        let c = r.counted in
        absurd (omega (arith, n, c, few)))
    by_rest (z ∷ rest) split from =
        let same : (z ∷ rest) ++ r.ran ≡ x ∷ later = sym from ∙ is in
        let one : z ≡ x = head_is z rest r.ran x later same in
        let others : later ≡ rest ++ r.ran = tail_is z rest r.ran x later same in
        let c = r.counted in
        record {
          done = r.done ++ x ∷ [];
          rest = rest;
          ran = r.ran ++ y ∷ [];
          split = split ∙ ap (λ (w : Listing). r.done ++ w ∷ rest) one ∙ sym (append_assoc r.done (x ∷ []) rest);
          counted = counted_last r.done x ∙ ap (λ (n : ℕ). n + 1) c;
          is = last ∙ ap (λ (l : List Listing). l ++ y ∷ []) others ∙ append_assoc rest r.ran (y ∷ []);
          runs = each_last old now new r.done r.ran x y r.runs runs;
          together = subst (λ (l : List Listing). AreTogether new l) (sym last)
              (together_turned now new x y later (subst (λ (l : List Listing). AreTogether now l) is r.together)
              runs.leaves);
          opened = runs.leaves.spares.opened r.opened;
          fault = runs.leaves.fault ∙ r.fault;
        }

ran_all : (old : Core) (all : List Listing) (count : ℕ) (now : Core) (running : List Listing)
    → (r : RanSoFar old all count now running) → r.rest ≡ [] → RunsTogether old all now running
ran_all old all count now running r none =
    let done_is : all ≡ r.done = r.split ∙ ap (λ (l : List Listing). r.done ++ l) none ∙ append-nil r.done in
    let ran_is : running ≡ r.ran = r.is ∙ ap (λ (l : List Listing). l ++ r.ran) none in
    record {
      runs = subst (λ (l : List Listing). RunsEach old l now running) (sym done_is)
          (subst (λ (l : List Listing). RunsEach old r.done now l) (sym ran_is) r.runs);
      together = r.together;
      keeps = record { opened = λ opened. r.opened; fault = r.fault };
    }

pub ran_out : (old : Core) (all : List Listing) (count : ℕ) (now : Core) (running : List Listing)
    → RanSoFar old all count now running → count ≡ length all → RunsTogether old all now running
ran_out old all count now running r over =
    ran_all old all count now running r
    (all_done r.done r.rest (r.counted ∙ over ∙ ap length r.split))

none_left : (xs ys : List Listing) → xs ++ ys ≡ [] → xs ≡ []
none_left [] ys same = refl
none_left (x ∷ xs) ys same = absurd cc

pub ran_empty : (old : Core) (all : List Listing) (count : ℕ) (now : Core) (running : List Listing)
    → RanSoFar old all count now running → running ≡ [] → RunsTogether old all now running
ran_empty old all count now running r none =
    ran_all old all count now running r (none_left r.rest r.ran (sym r.is ∙ none))

-- ---- the session

pub going_by : {L S : Type 0} (state : L → LinkView S) (s : SftpValue L) (core : Core) → IsGoing state s
    → KeepsFault s.core core → IsGoing state (with_core s core)
going_by state s core going keeps =
    record { opened = keeps.opened going.opened; alive = λ none. going.alive (sym keeps.fault ∙ none) }

pub may_run : {L S : Type 0} (state : L → LinkView S) (s : SftpValue L) (xs : List Listing) → HoldsListings state s xs
    → MayRunTogether s.core xs
may_run state s xs holds = record { opened = holds.going.opened; together = holds.together }

-- ---- begin

pub begun : {L S : Type 0} (path : List ℕ) (state : L → LinkView S) (old : SftpValue L) (core : Core)
    (call : CallValue OpeningDir) (xs now : List Listing) (x : Listing) → HoldsListings state old xs
    → OpensFrom path [] old.core core (Ok call) → x.stage ≡ stage.Opening call → x.entries.items ≡ []
    → now ≡ xs ++ x ∷ [] → BeginsListing path state old xs (with_core old core) now (Ok tt)
begun path state old core call xs now x holds opens is none last = record {
  holds = record {
    going = going_by state old core holds.going
        (record { opened = opens.keeps.grants.opened; fault = begun_fault path old.core core call opens });
    together = together_begun path old.core core call xs now x opens is last holds.together;
  };
  begins = record { call = call; listing = x; opens = opens; rest = refl; begun = is; none = none; last = last };
  unchanged = tt;
}

pub unbegun : {L S : Type 0} (path : List ℕ) (state : L → LinkView S) (old : SftpValue L) (core : Core) (e : Error)
    (why : RemoteError) (xs now : List Listing) → HoldsListings state old xs → OpensFrom path [] old.core core (Err e)
    → now ≡ xs → BeginsListing path state old xs (with_core old core) now (Err why)
unbegun path state old core e why xs now holds opens same = record {
  holds = record {
    going = going_by state old core holds.going (record {
      opened = opens.keeps.grants.opened;
      fault = ap (λ (c : Core). c.fault) (unbegun_same path old.core core e opens);
    });
    together = subst (λ (l : List Listing). AreTogether core l) (sym same)
        (together_kept old.core core xs opens.keeps holds.together);
  };
  begins = tt;
  unchanged = same;
}

pub not_begun : {L S : Type 0} (path : List ℕ) (state : L → LinkView S) (s : SftpValue L) (why : RemoteError)
    (xs now : List Listing) → HoldsListings state s xs → now ≡ xs → BeginsListing path state s xs s now (Err why)
not_begun path state s why xs now holds same = record {
  holds = record {
    going = holds.going;
    together = subst (λ (l : List Listing). AreTogether s.core l) (sym same) holds.together;
  };
  begins = tt;
  unchanged = same;
}

-- ---- the first one is removed

pub removed : (old new : Core) (xs later : List Listing) (x : Listing) (e : RemoteError) → AreTogether old xs
    → xs ≡ x ∷ later → LeavesStage old x.stage new stage.Complete → FailsFirst old xs new later e (Some (Err e))
removed old new xs later x e all is leaves = record {
  removes = (x, is, refl);
  together = together_gone old new x stage.Complete later
      (subst (λ (l : List Listing). AreTogether old l) is all) leaves;
  keeps = record { opened = leaves.spares.opened; fault = leaves.fault };
}

pub none_removed : (core : Core) (xs later : List Listing) (e : RemoteError) → xs ≡ [] → later ≡ []
    → FailsFirst core xs core later e None
none_removed core xs later e none empty = record {
  removes = (none, empty);
  together = subst (λ (l : List Listing). AreTogether core l) (sym empty) tt;
  keeps = record { opened = λ opened. opened; fault = refl };
}

ended_together : (core : Core) (xs later : List Listing) (result : Option ListedValue) → AreTogether core xs
    → EndsFirst xs later (first.Over result) → AreTogether core later
ended_together core xs later None all ends = subst (λ (l : List Listing). AreTogether core l) (sym ends.1) tt
ended_together core xs later (Some result) all ends =
    let here : AreTogether core (ends.0 ∷ later) = subst (λ (l : List Listing). AreTogether core l) ends.1 all in here.2

-- ---- one advance

-- each listing ran
pub ran_all_of : {L S : Type 0} (state : L → LinkView S) (old : ListingMany L) (core : Core) (ran : List Listing)
    → RunsTogether old.session.core old.listings core ran
    → RunsAll old (record { session = with_core old.session core; listings = ran })
ran_all_of state old core ran runs = record { runs = runs.runs; rest = refl }

pub ran_holds : {L S : Type 0} (state : L → LinkView S) (old : ListingMany L) (core : Core) (ran : List Listing)
    → IsGoing state old.session → RunsTogether old.session.core old.listings core ran
    → HoldsListings state (with_core old.session core) ran
ran_holds state old core ran going runs = record {
  going = going_by state old.session core going runs.keeps;
  together = runs.together;
}

last_round : {L : Type 0} (old ran : ListingMany L) (later : List Listing) (result : Option ListedValue)
    → RunsAll old ran → EndsFirst ran.listings later (first.Over result)
    → LastRound old (record { session = ran.session; listings = later }) result
last_round old ran later None runs ends = (ran, runs, ends.0, ends.1)
last_round old ran later (Some (Ok entries)) runs ends = (ran, ends.0, runs, ends.1, ends.2, refl)
last_round old ran later (Some (Err e)) runs ends = (ran, ends.0, runs, ends.1)

pub advanced_over : {L S : Type 0} (state : L → LinkView S) (old : ListingMany L) (core : Core)
    (ran later : List Listing) (result : Option ListedValue) → IsGoing state old.session
    → RunsTogether old.session.core old.listings core ran → EndsFirst ran later (first.Over result)
    → AdvancesListings state old (record { session = with_core old.session core; listings = later })
    (first.Over result)
advanced_over state old core ran later result going runs ends = record {
  holds = record {
    going = going_by state old.session core going runs.keeps;
    together = ended_together core ran later result runs.together ends;
  };
  did = last_round old (record { session = with_core old.session core; listings = ran }) later result
      (ran_all_of state old core ran runs) ends;
}

pub advanced_round : {L S E : Type 0} (state : L → LinkView S) (old : ListingMany L) (core : Core)
    (ran same : List Listing) (new : SftpValue L) → RunsTogether old.session.core old.listings core ran → same ≡ ran
    → TookTurn {E = E} state (with_core old.session core) new (Ok tt)
    → AdvancesListings state old (record { session = new; listings = same }) first.Waits
advanced_round state old core ran same new runs is turned = record {
  holds = record {
    going = turned.going;
    together = subst (λ (l : List Listing). AreTogether new.core l) (sym is)
        (together_kept core new.core ran turned.keeps runs.together);
  };
  did = record {
    mid = record { session = with_core old.session core; listings = ran };
    runs = ran_all_of state old core ran runs;
    turns = turned.turns;
    same = is;
  };
}

-- after a turn
pub turn_may : {L S E : Type 0} (state : L → LinkView S) (old new : SftpValue L) (ran same : List Listing)
    (result : Result (Unit {0}) E) → AreTogether old.core ran → same ≡ ran → TookTurn state old new result
    → MayRunTogether new.core same
turn_may state old new ran same result all is turned = record {
  opened = turned.going.opened;
  together = subst (λ (l : List Listing). AreTogether new.core l) (sym is)
      (together_kept old.core new.core ran turned.keeps all);
}

failed_round : {L : Type 0} (old ran new : ListingMany L) (e : RemoteError) (result : Option ListedValue)
    → RunsAll old ran → RemovesFirst ran.listings new.listings e result → LastRound old new result
failed_round old ran new e None runs removes = (ran, runs, removes.0, removes.1)
failed_round old ran new e (Some result) runs removes =
    subst (λ (r : ListedValue). LastRound old new (Some r)) (sym removes.2) (ran, removes.0, runs, removes.1)

pub failed_first : {L S : Type 0} (state : L → LinkView S) (old ran : ListingMany L) (s : SftpValue L) (core : Core)
    (later : List Listing) (e : RemoteError) (result : Option ListedValue) → RunsAll old ran → IsGoing state s
    → FailsFirst s.core ran.listings core later e result
    → AdvancesListings state old (record { session = with_core s core; listings = later }) (first.Over result)
failed_first state old ran s core later e result runs going fails = record {
  holds = record {
    going = going_by state s core going fails.keeps;
    together = fails.together;
  };
  did = failed_round old ran (record { session = with_core s core; listings = later }) e result runs fails.removes;
}

-- ---- round after round

pub record ListsSoFar {L S : Type 0} (state : L → LinkView S) (old now : ListingMany L) : Type 0 where
  pub count : ℕ
  pub rounds : TakesRounds state count old now
  pub holds : HoldsListings state now.session now.listings

pub lists_first : {L S : Type 0} (state : L → LinkView S) (old : ListingMany L)
    → HoldsListings state old.session old.listings → ListsSoFar state old old
lists_first state old holds = record { count = zero; rounds = refl; holds = holds }

pub lists_next : {L S : Type 0} (state : L → LinkView S) (old mid now : ListingMany L) → ListsSoFar state old mid
    → AdvancesListings state mid now first.Waits → ListsSoFar state old now
lists_next state old mid now l advances = record {
  count = suc l.count;
  rounds = (mid, l.rounds, advances.did);
  holds = advances.holds;
}

pub lists_over : {L S : Type 0} (state : L → LinkView S) (old mid now : ListingMany L) (result : Option ListedValue)
    → ListsSoFar state old mid → AdvancesListings state mid now (first.Over result) → ListsNext state old now result
lists_over state old mid now result l advances =
    record { holds = advances.holds; rounds = l.count; last = mid; taken = l.rounds; ends = advances.did }

-- no round was left
pub lists_out : {L S : Type 0} (state : L → LinkView S) (old mid : ListingMany L) (core : Core)
    (later : List Listing) (e : RemoteError) (result : Option ListedValue) → ListsSoFar state old mid
    → FailsFirst mid.session.core mid.listings core later e result
    → ListsNext state old (record { session = with_core mid.session core; listings = later }) result
lists_out state old mid core later e result l fails =
    lists_over state old mid (record { session = with_core mid.session core; listings = later }) result l
    (failed_first state mid mid mid.session core later e result
    (record { runs = each_none mid.session.core mid.listings l.holds.together; rest = refl }) l.holds.going fails)

-- ---- all are given up

pub record ClearsOn (old now : Core) (xs : List Listing) : Type 0 where
  pub together : AreTogether now xs
  pub keeps : KeepsFault old now

pub clears_first : (old : Core) (xs : List Listing) → MayRunTogether old xs → ClearsOn old old xs
clears_first old xs may =
    record { together = may.together; keeps = record { opened = λ opened. opened; fault = refl } }

pub clears_next : (old now new : Core) (xs later : List Listing) (x : Listing) → ClearsOn old now xs → xs ≡ x ∷ later
    → LeavesStage now x.stage new stage.Complete → ClearsOn old new later
clears_next old now new xs later x c is leaves = record {
  together = together_gone now new x stage.Complete later
      (subst (λ (l : List Listing). AreTogether now l) is c.together) leaves;
  keeps = record {
    opened = λ opened. leaves.spares.opened (c.keeps.opened opened);
    fault = leaves.fault ∙ c.keeps.fault;
  };
}

pub first_held : (core : Core) (xs later : List Listing) (x : Listing) → AreTogether core xs → xs ≡ x ∷ later
    → IsHeld core x.stage
first_held core xs later x all is =
    let here : AreTogether core (x ∷ later) = subst (λ (l : List Listing). AreTogether core l) is all in here.0

-- ---- the first one waits

pub put_back : (x : Listing) (s : Stage) (rest before after : List Listing) → x.stage ≡ s → before ≡ x ∷ rest
    → after ≡ record { stage = s; entries = x.entries } ∷ rest → after ≡ before
put_back x s rest before after is from last =
    last ∙ ap (λ (t : Stage). record { stage = t; entries = x.entries } ∷ rest) (sym is) ∙ sym from
