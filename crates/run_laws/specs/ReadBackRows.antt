-- A worked run in which a call reads the bytes that another one wrote, with requests of others between theirs.
use Rattle.std.specs.Prelude.{
  ◌≡◌,
  ◌≢◌,
  ℕ,
  zero,
  suc,
  ◌+◌,
  ◌==◌,
  ◌⊎◌,
  Bool,
  true,
  false,
  ◌&&◌,
  List,
  [],
  ◌∷◌,
  ◌++◌,
  codes,
  take,
  drop,
  Option,
  Some,
  None,
  if◌then◌else◌,
  slice_get,
  slice_index_or,
  refl,
}
use Rattle.std.proofs.Common.{ap, sym, ◌∙◌, subst, arith, inl, inr}
use Rattle.std.proofs.lemmas.Bool.Decides.{nat_tests}
use Rattle.sftp_model.specs.Frames.{no_attributes}
use Rattle.sftp_model.specs.Numbers.{POSIX_RENAME, SSH_FXF_CREAT, SSH_FXF_WRITE}
use Rattle.sftp_model.specs.declared.reply.Reply.{Reply}
use Rattle.sftp_model.specs.declared.reply.Reply.TheVariants as reply
use Rattle.sftp_model.specs.declared.request.Request.{Request}
use Rattle.sftp_model.specs.declared.request.Request.TheVariants as request
use Rattle.sftp_model.specs.declared.slot.Facts.{Facts}
use Rattle.machine_model.specs.Changes.{IsWellFormed}
use Rattle.machine_model.specs.Components.{Name, components, is_within, same_name}
use Rattle.machine_model.specs.FileTree.{FileTree}
use Rattle.machine_model.specs.RowWords.{choice, config}
use Rattle.plan_model.specs.FilePlans.{open_request}
use Rattle.plan_model.specs.Moves.{Answers, Own}
use Rattle.plan_model.specs.OwnRequests.{ExtendsAnswers}
use Rattle.plan_model.specs.PlanWords.{facts}
use Rattle.plan_model.specs.WholePlans.{to_replace}
use Rattle.plan_model.specs.WindowPlans.{to_read}
use Rattle.run_laws.specs.GrantUses.{AreOnName, IsRunOn, IsUsed, UseGrants}
use Rattle.run_laws.specs.Sparing.{AvoidsName}
use Rattle.run_laws.specs.Steps.{Step, AreDistinct, AreServed, HasPlace}

-- ---- The run

abbrev pub name : Name
name = codes "a" ∷ []

abbrev h : List ℕ
h = 7 ∷ []

abbrev other : List ℕ
other = 8 ∷ []

-- The requests in the order in which they are sent, each at its place. A call writes "hello" in two parts to /a, and
-- one reads it; others create a directory, write to b and move it.
abbrev pub requests : List Request
requests =
    open_request to_replace (codes "/a") ∷ request.Mkdir (codes "x") no_attributes ∷ request.Write h 0 (codes "hel")
    ∷ open_request (record { 0 = SSH_FXF_WRITE + SSH_FXF_CREAT }) (codes "b") ∷ request.Write other 0 (codes "zz") ∷
    request.Write h 3 (codes "lo")
    ∷ request.Close h ∷ request.PosixRename (codes "b") (codes "x/b")
    ∷ open_request to_read (codes "x/../a") ∷ request.Read h 0 2 ∷ request.Read h 2 2 ∷ request.Write other 2
    (codes "z")
    ∷ request.Read h 1 1 ∷ request.Read h 4 2 ∷ request.Read h 5 2 ∷ []

abbrev ok : Reply
ok = reply.Status 0 [] []

-- Their replies. The first READ is cut to one byte, and the handle of the write is granted again for the read.
abbrev pub replies : List Reply
replies =
    reply.Handle h ∷ ok ∷ ok ∷ reply.Handle other ∷ ok ∷ ok ∷ ok ∷ ok
    ∷ reply.Handle h ∷ reply.Content (codes "h") ∷ reply.Content (codes "ll") ∷ ok ∷ reply.Content (codes "e") ∷
    reply.Content (codes "o") ∷ reply.Status 1 [] [] ∷ []

-- The replies to the first n requests.
abbrev pub taken : ℕ → Answers
taken n place = slice_get (take n replies) place

abbrev pub answers : Answers
answers place = slice_get replies place

abbrev at : ℕ → Request
at place = slice_index_or requests place request.LimitsQuery

abbrev pub step : ℕ → ℕ → List ℕ → Step
step place cap handle = record { place = place; request = at place; choice = choice 0 cap; handle = handle }

abbrev pub first_write : Step
first_write = step 0 0 h

abbrev pub first_read : Step
first_read = step 8 0 h

abbrev pub between : List Step
between = step 1 0 other ∷ step 2 0 other ∷ step 3 0 other ∷ step 4 0 (9 ∷ []) ∷ step 5 0 (9 ∷ []) ∷ step 6 0 (9 ∷ []) ∷
    step 7 0 (9 ∷ []) ∷ []

abbrev pub rest : List Step
rest = step 9 1 (9 ∷ []) ∷ step 10 0 (9 ∷ []) ∷ step 11 0 (9 ∷ []) ∷ step 12 0 (9 ∷ []) ∷ step 13 0 (9 ∷ []) ∷ step 14 0
    (9 ∷ []) ∷ []

abbrev pub run : List Step
run = (first_write ∷ between) ++ first_read ∷ rest

abbrev pub empty : FileTree
empty = record { names = []; files = []; handles = [] }

-- The grants of the requests' handles.
abbrev grants : List (Option ℕ)
grants = None ∷ None ∷ Some 0 ∷ None ∷ Some 3 ∷ Some 0 ∷ Some 0 ∷ None ∷ None ∷ Some 8 ∷ Some 8 ∷ Some 3 ∷ Some 8 ∷ Some
    8 ∷ Some 8 ∷ []

abbrev pub grant_of : ℕ → Option ℕ
grant_of place = slice_index_or grants place None

abbrev pub elsewhere : ℕ → Bool
elsewhere grant = grant == 3

-- READs of 2 bytes, WRITEs of 3, and two READs at once.
abbrev pub two_at_once : Facts
two_at_once = facts 0 2 3 1 2

abbrev pub own : ℕ → ℕ × Request
own place = (place, at place)

abbrev pub written : Own
written = own 2 ∷ own 5 ∷ []

abbrev pub read : Own
read = own 9 ∷ own 10 ∷ own 12 ∷ own 13 ∷ own 14 ∷ []

-- ---- Abbreviations

-- Two names that differ.
pub apart : (a b : Name) → same_name a b ≡ false → same_name b b ≡ true → a ≢ b
apart a b differ same e = absurd (let both : false ≡ true = sym differ ∙ (ap (λ (w : Name). same_name w b) e ∙ same) in
    cc)

-- A place that no step has.
abbrev lacks : ℕ → List Step → Bool
lacks n [] = true
lacks n (s ∷ steps) = if s.place == n then false else lacks n steps

not_there : (n : ℕ) (steps : List Step) → lacks n steps ≡ true → (place : ℕ) → HasPlace steps place → n ≢ place
not_there n [] e place has = absurd has
not_there n (s ∷ steps) e place has = by_test (s.place == n) refl e has (λ x k. not_there n steps x place k)
  where
    by_test : (b : Bool) → (s.place == n) ≡ b → (if b then false else lacks n steps) ≡ true → (s.place ≡ place)
        ⊎ HasPlace steps place → (lacks n steps ≡ true → HasPlace steps place → n ≢ place) → n ≢ place
    by_test true is e has more = absurd cc
    by_test false is e (inl here) more = λ same. (let t : (s.place == n) ≡ true = equal (here ∙ sym same) in
        let both : true ≡ false = sym t ∙ is in cc)
      where
        equal : s.place ≡ n → (s.place == n) ≡ true
        equal e = grind (arith, nat_tests)
    by_test false is e (inr k) more = more e k

abbrev differ : List Step → Bool
differ [] = true
differ (s ∷ steps) = lacks s.place steps && differ steps

distinct_by : (steps : List Step) → differ steps ≡ true → AreDistinct steps
distinct_by [] e = tt
distinct_by (s ∷ steps) e = by_tests (lacks s.place steps) refl e (λ x. distinct_by steps x)
  where
    by_tests : (a : Bool) → lacks s.place steps ≡ a → (a && differ steps) ≡ true
        → (differ steps ≡ true → AreDistinct steps) → AreDistinct (s ∷ steps)
    by_tests true is e later = (not_there s.place steps is, later e)
    by_tests false is e later = absurd cc

-- A grant that no step has.
abbrev is_grant : Option ℕ → ℕ → Bool
is_grant None g = false
is_grant (Some n) g = n == g

abbrev is_borne : ℕ → List Step → Bool
is_borne g [] = false
is_borne g (s ∷ steps) = if is_grant (grant_of s.place) g then true else is_borne g steps

not_borne : (g : ℕ) (steps : List Step) → is_borne g steps ≡ false → IsUsed grant_of g steps → ⊥
not_borne g [] e used = used
not_borne g (s ∷ steps) e used = by_test (is_grant (grant_of s.place) g) refl e used (not_borne g steps)
  where
    itself : is_grant (Some g) g ≡ true
    itself = grind (arith, nat_tests)

    by_test : (b : Bool) → is_grant (grant_of s.place) g ≡ b → (if b then true else is_borne g steps) ≡ false
        → (grant_of s.place ≡ Some g) ⊎ IsUsed grant_of g steps →
        (is_borne g steps ≡ false → IsUsed grant_of g steps → ⊥) → ⊥
    by_test true is e used more = cc
    by_test false is e (inl here) more = (let t : is_grant (grant_of s.place) g ≡ true =
        ap (λ (w : Option ℕ). is_grant w g) here ∙ itself in let both : true ≡ false = sym t ∙ is in cc)
    by_test false is e (inr k) more = more e k

none_borne : (g : ℕ) → (let o : Option ℕ = None in o) ≡ Some g → ⊥
none_borne g e = cc

the_grant : (n g : ℕ) → (let o : Option ℕ = Some n in o) ≡ Some g → n ≡ g
the_grant n g e = cc

-- Replies that were taken stay.
pub extends_more : (xs ys : List Reply) → ExtendsAnswers (λ place. slice_get xs place)
    (λ place. slice_get (xs ++ ys) place)
extends_more [] ys place r e = absurd cc
extends_more (x ∷ xs) ys zero r e = e
extends_more (x ∷ xs) ys (suc place) r e = extends_more xs ys place r e

-- ---- The premises

pub empty_is_well_formed : IsWellFormed empty
empty_is_well_formed = record {
  named = λ a file has. absurd has;
  held = λ w held has. absurd has;
  alone =
      λ a b file x y. absurd x;
}

served : AreServed (config POSIX_RENAME) answers empty run
unfolding components
served = (
  (omega arith, refl),
  refl,
  (
    (omega arith, refl),
    refl,
    (
      (omega arith, refl),
      refl,
      (
        (omega arith, refl),
        refl,
        (
          (omega arith, refl),
          refl,
          (
            (omega arith, refl),
            refl,
            (
              (omega arith, refl),
              refl,
              (
                (omega arith, refl),
                refl,
                (
                  (omega arith, refl),
                  refl,
                  (
                    (omega arith, refl),
                    refl,
                    (
                      (omega arith, refl),
                      refl,
                      (
                        (omega arith, refl),
                        refl,
                        ((omega arith, refl), refl, ((omega arith, refl), refl, ((omega arith, refl), refl, tt))),
                      ),
                    ),
                  ),
                ),
              ),
            ),
          ),
        ),
      ),
    ),
  ),
)

distinct : AreDistinct run
distinct = distinct_by run refl

use_grants : UseGrants answers grant_of [] run
use_grants = (
  (λ g e. absurd (none_borne g e)),
  (λ k c. absurd c),
  (λ used. (h, refl)),
  (
    (λ g e. absurd (none_borne g e)),
    (λ k c. absurd c),
    (λ used. absurd (not_borne 1 (drop 2 run) refl used)),
    (
      (λ g e. inr (inl (the_grant 0 g e))),
      (λ k c. absurd c),
      (λ used. absurd (not_borne 2 (drop 3 run) refl used)),
      (
        (λ g e. absurd (none_borne g e)),
        (λ k c. absurd c),
        (λ used. (other, refl)),
        (
          (λ g e. inl (the_grant 3 g e)),
          (λ k c. absurd c),
          (λ used. absurd (not_borne 4 (drop 5 run) refl used)),
          (
            (λ g e. inr (inr (inr (inr (inl (the_grant 0 g e)))))),
            (λ k c. absurd c),
            (λ used. absurd (not_borne 5 (drop 6 run) refl used)),
            (
              (λ g e. inr (inr (inr (inr (inr (inl (the_grant 0 g e))))))),
              (λ k c. (0, (refl, (c, not_borne 0 (drop 7 run) refl)))),
              (λ used. absurd (not_borne 6 (drop 7 run) refl used)),
              (
                (λ g e. absurd (none_borne g e)),
                (λ k c. absurd c),
                (λ used. absurd (not_borne 7 (drop 8 run) refl used)),
                (
                  (λ g e. absurd (none_borne g e)),
                  (λ k c. absurd c),
                  (λ used. (h, refl)),
                  (
                    (λ g e. inl (the_grant 8 g e)),
                    (λ k c. absurd c),
                    (λ used. absurd (not_borne 9 (drop 10 run) refl used)),
                    (
                      (λ g e. inr (inl (the_grant 8 g e))),
                      (λ k c. absurd c),
                      (λ used. absurd (not_borne 10 (drop 11 run) refl used)),
                      (
                        (λ g e. inr (inr (inr (inr (inr (inr (inr (inl (the_grant 3 g e))))))))),
                        (λ k c. absurd c),
                        (λ used. absurd (not_borne 11 (drop 12 run) refl used)),
                        (
                          (λ g e. inr (inr (inr (inl (the_grant 8 g e))))),
                          (λ k c. absurd c),
                          (λ used. absurd (not_borne 12 (drop 13 run) refl used)),
                          (
                            (λ g e. inr (inr (inr (inr (inl (the_grant 8 g e)))))),
                            (λ k c. absurd c),
                            (λ used. absurd (not_borne 13 (drop 14 run) refl used)),
                            (
                              (λ g e. inr (inr (inr (inr (inr (inl (the_grant 8 g e))))))),
                              (λ k c. absurd c),
                              (λ used. absurd (not_borne 14 (drop 15 run) refl used)),
                              tt,
                            ),
                          ),
                        ),
                      ),
                    ),
                  ),
                ),
              ),
            ),
          ),
        ),
      ),
    ),
  ),
)

pub mkdir_avoids : AvoidsName name (at 1)
unfolding components
mkdir_avoids = record { denotes = apart (codes "x" ∷ []) name refl refl; moves = λ old to d. absurd d }

pub open_avoids : AvoidsName name (at 3)
unfolding components
open_avoids = record { denotes = λ d. apart (codes "b" ∷ []) name refl refl d.1; moves = λ old to d. absurd d }

pub rename_avoids : AvoidsName name (at 7)
unfolding components
rename_avoids =
    record {
      denotes = λ d. d;
      moves = λ old to d. (
        subst (λ (w : Name). is_within w name ≡ false) d.0 refl,
        subst (λ (w : Name). is_within w name ≡ false) d.1 refl,
      );
    }

pub write_avoids : (handle : List ℕ) (offset : ℕ) (content : List ℕ)
    → AvoidsName name (request.Write handle offset content)
write_avoids handle offset content = record { denotes = λ d. d; moves = λ old to d. absurd d }

read_avoids : (handle : List ℕ) (offset len : ℕ) → AvoidsName name (request.Read handle offset len)
read_avoids handle offset len = record { denotes = λ d. d; moves = λ old to d. absurd d }

pub close_avoids : (handle : List ℕ) → AvoidsName name (request.Close handle)
close_avoids handle = record { denotes = λ d. d; moves = λ old to d. absurd d }

on_name : AreOnName name elsewhere run
unfolding components
on_name = (
  inr (_, _, _, refl, refl, refl),
  (
    inl (mkdir_avoids, λ a. a),
    (
      inl (write_avoids _ _ _, λ a. a),
      (
        inl (open_avoids, λ a. apart (codes "b" ∷ []) name refl refl a),
        (
          inl (write_avoids _ _ _, λ a. a),
          (
            inl (write_avoids _ _ _, λ a. a),
            (
              inl (close_avoids _, λ a. a),
              (
                inl (rename_avoids, λ a. a),
                (
                  inr (_, _, _, refl, refl, refl),
                  (
                    inl (read_avoids _ _ _, λ a. a),
                    (
                      inl (read_avoids _ _ _, λ a. a),
                      (
                        inl (write_avoids _ _ _, λ a. a),
                        (
                          inl (read_avoids _ _ _, λ a. a),
                          (inl (read_avoids _ _ _, λ a. a), (inl (read_avoids _ _ _, λ a. a), tt)),
                        ),
                      ),
                    ),
                  ),
                ),
              ),
            ),
          ),
        ),
      ),
    ),
  ),
)

pub run_is_on_name : IsRunOn (config POSIX_RENAME) answers grant_of elsewhere name empty run
run_is_on_name = record { served = served; distinct = distinct; grants = use_grants; on_name = on_name }
