-- The machine's run that serves a journal, cut where a request came.
use Rattle.std.proofs.Common.{◌≡◌, ◌<◌, ◌≤◌, ℕ, List, [], ◌∷◌, ◌++◌, drop, refl, ap, sym, ◌∙◌, subst, arith, inl, inr}
use Rattle.std.proofs.lemmas.Bool.{le-ltb, lt-ltb}
use Rattle.sftp_model.specs.declared.config.Choice.{Choice}
use Rattle.sftp_model.specs.declared.config.ServerConfig.{ServerConfig}
use Rattle.sftp_model.specs.declared.request.Request.{Request}
use Rattle.machine_model.proofs.StayingLaws.{tree_after}
use Rattle.machine_model.specs.FileTree.{FileTree}
use Rattle.machine_model.specs.TreeAnswers.{apply, first_choice}
use Rattle.machine_model.specs.Trees.{IsTree}
use Rattle.plan_model.specs.Moves.{Answers, Own}
use Rattle.session_model.specs.declared.entry.Entry.{Entry}
use Rattle.session_model.specs.Served.{ServesAll}
use Rattle.run_laws.specs.Listings.{before_place}
use Rattle.run_laws.specs.Steps.{FeignNoEnd, Step, after, AreServed, answer_to}
use Rattle.run_laws.proofs.SentLaws.{AllAbove, AreRising}
use Rattle.run_laws.proofs.ServedSteps.{HasRequest}
use Rattle.run_laws.proofs.UseLaws.{above_has}

none_before : (place n : ℕ) (requests : Own) → place ≤ n → AllAbove n requests → before_place place requests ≡ []
none_before place n [] le above = refl
none_before place n (r ∷ requests) le above = (let lt : n < r.0 = above.0 in
    rw (le-ltb r.0 place (omega (arith, le, lt))) (none_before place n requests le above.1))

pub rest_honest : (choices : List Choice) → FeignNoEnd choices → FeignNoEnd (drop 1 choices)
rest_honest [] h = tt
rest_honest (c ∷ choices) h = h.1

-- the run up to the request at a place, and the run from that request on
pub record IsSplit (config : ServerConfig) (past : List Entry) (tree : FileTree) (choices : List Choice)
    (requests : Own) (now : FileTree) (place : ℕ) : Type 0 where
  pub at : FileTree
  pub front : ServesAll config past tree choices (before_place place requests) at
  pub r : ℕ × Request
  pub here : r.0 ≡ place
  pub rest : Own
  pub left : List Choice
  pub back : ServesAll config past at left (r ∷ rest) now
  pub is : requests ≡ before_place place requests ++ r ∷ rest
  pub honest : FeignNoEnd choices → FeignNoEnd left

pub split_at : (config : ServerConfig) (past : List Entry) (tree : FileTree) (choices : List Choice) (requests : Own)
    (now : FileTree) (place : ℕ) → ServesAll config past tree choices requests now → AreRising requests
    → HasRequest requests place
    → IsSplit config past tree choices requests now place
split_at config past tree choices [] now place s rising has = absurd has
split_at config past tree choices (r ∷ requests) now place s rising (inl here) =
    let at : r.0 ≡ place = here in
    let none : before_place place (r ∷ requests) ≡ [] = rw (le-ltb r.0 place (omega (arith, at)))
    (none_before place r.0 requests (omega (arith, at)) rising.0) in
    record {
      at = tree;
      front = subst (λ (l : Own). ServesAll config past tree choices l tree) (sym none) refl;
      r = r;
      here = here;
      rest = requests;
      left = choices;
      back = s;
      is = ap (λ (l : Own). l ++ r ∷ requests) (sym none);
      honest = λ h. h;
    }
split_at config past tree choices (r ∷ requests) now place s rising (inr has) =
    let lt : r.0 < place = above_has r.0 place requests rising.0 has in
    let one : before_place place (r ∷ requests) ≡ r ∷ before_place place requests = rw (lt-ltb r.0 place lt) refl in
    let more = split_at config past (apply tree config r.1 (first_choice choices) s.0).1 (drop 1 choices) requests now
    place s.1.2 rising.1 has in
    record {
      at = more.at;
      front = subst (λ (l : Own). ServesAll config past tree choices l more.at) (sym one)
          (s.0, (s.1.0, s.1.1, more.front));
      r = more.r;
      here = more.here;
      rest = more.rest;
      left = more.left;
      back = more.back;
      is = ap (λ (l : Own). r ∷ l) more.is ∙ ap (λ (l : Own). l ++ more.r ∷ more.rest) (sym one);
      honest = λ h. more.honest (rest_honest choices h);
    }

-- a tree stays one
pub served_tree : (config : ServerConfig) (past : List Entry) (tree : FileTree) (choices : List Choice) (requests : Own)
    (now : FileTree) → ServesAll config past tree choices requests now → IsTree tree → IsTree now
served_tree config past tree choices [] now s t = subst IsTree (sym s) t
served_tree config past tree choices (r ∷ requests) now s t =
    served_tree config past (apply tree config r.1 (first_choice choices) s.0).1 (drop 1 choices) requests now s.1.2
    (tree_after tree config r.1 (first_choice choices) s.0 t)

-- steps after one another
pub served_two : (config : ServerConfig) (answers : Answers) (tree : FileTree) (xs ys : List Step)
    → AreServed config answers tree xs → AreServed config answers (after config tree xs) ys
    → AreServed config answers tree (xs ++ ys)
served_two config answers tree [] ys first rest = rest
served_two config answers tree (x ∷ xs) ys first rest = (
  first.0,
  first.1,
  served_two config answers (answer_to config tree x).1 xs ys first.2 rest,
)
