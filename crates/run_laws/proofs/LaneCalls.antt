-- The calls of a lane as its journal grows, and the directory of a lane none of whose calls changes it.
use Rattle.std.proofs.Common.{
  append_assoc,
  ◌≡◌,
  ◌==◌,
  ℕ,
  zero,
  suc,
  Bool,
  true,
  false,
  List,
  [],
  ◌∷◌,
  ◌++◌,
  Option,
  Some,
  None,
  if◌then◌else◌,
  refl,
  ap,
  sym,
  ◌∙◌,
  subst,
  inl,
  inr,
}
use Rattle.std.specs.Prelude.{slice_get}
use Rattle.std.specs.List.{list_all}
use Rattle.std.proofs.lemmas.Bool.{and_parts}
use Rattle.std.proofs.lemmas.Bool.Decides.{eqb_tells}
use Rattle.std.proofs.lemmas.List.{append-nil}
use Rattle.std.proofs.lemmas.List.Folds.{list_all-append}
use Rattle.sftp_model.specs.Slots.{fresh_site}
use Rattle.sftp_model.specs.declared.slot.Facts.{Facts}
use Rattle.sftp_model.specs.declared.slot.Move.{Move}
use Rattle.sftp_model.specs.declared.slot.Move.TheVariants.{Ask, Wait, Done}
use Rattle.sftp_model.specs.declared.slot.Site.{Site}
use Rattle.sftp_model.specs.declared.request.Request.{Request}
use Rattle.machine_model.specs.Components.{Name}
use Rattle.plan_model.specs.Moves.{Answers, Own}
use Rattle.plan_model.specs.PathPlans.{from_directory}
use Rattle.plan_model.specs.declared.call.Call.{Call}
use Rattle.plan_model.specs.declared.call.Call.TheVariants as call
use Rattle.session_model.specs.declared.entry.Entry.{Entry}
use Rattle.session_model.specs.declared.entry.Entry.TheVariants as entry
use Rattle.session_model.specs.declared.event.Event.TheVariants.{End}
use Rattle.session_model.specs.Calls.{Setting, call_at, lane_calls, left_by, site_left, site_of}
use Rattle.session_model.specs.Readings.{answer, last_cancel, own}
use Rattle.session_model.proofs.CallLaws.{added_here, added_other}
use Rattle.run_laws.specs.NameCalls.{may_own}
use Rattle.run_laws.proofs.CallMoves.{AsksPath, IsKeptBy, call_goes, cancelled_goes}
use Rattle.run_laws.proofs.PartMoves.{GoesSo}
use Rattle.run_laws.proofs.OffRequests.{is_still, plain_joined}
use Rattle.plan_model.specs.CallPlans.{next}

-- ---- lists

pub get_left : {A : Type 0} (xs ys : List A) (n : ℕ) (x : A) → slice_get xs n ≡ Some x → slice_get (xs ++ ys) n ≡ Some x
get_left [] ys n x e = absurd cc
get_left (y ∷ xs) ys zero x e = e
get_left (y ∷ xs) ys (suc n) x e = get_left xs ys n x e

pub all_left : (test : Call → Bool) (xs ys : List Call) → list_all test (xs ++ ys) ≡ true → list_all test xs ≡ true
all_left test xs ys all = (and_parts (list_all test xs) (list_all test ys) (sym (list_all-append test xs ys) ∙ all)).0

pub each_is : {A : Type 0} (test : A → Bool) (xs : List A) (n : ℕ) (x : A) → list_all test xs ≡ true → slice_get xs n
    ≡ Some x → test x ≡ true
each_is test [] n x all e = absurd cc
each_is test (y ∷ xs) zero x all e = (let same : y ≡ x = cc in ap test (sym same)
    ∙ (and_parts (test y) (list_all test xs) all).0)
each_is test (y ∷ xs) (suc n) x all e = each_is test xs n x (and_parts (test y) (list_all test xs) all).1 e

-- what passes one test passes another
pub all_more : (test other : Call → Bool) (xs : List Call) → ((c : Call) → test c ≡ true → other c ≡ true)
    → list_all test xs ≡ true → list_all other xs ≡ true
all_more test other [] more all = refl
all_more test other (c ∷ xs) more all =
    let both = and_parts (test c) (list_all test xs) all in rw (more c both.0, all_more test other xs more both.1) refl

-- ---- the calls of a lane

-- more calls may be added behind those that a lane has
pub calls_grow : (s : Setting) (more past : List Entry) (lane : ℕ) → (later : List Call)
    × (lane_calls s (more ++ past) lane ≡ lane_calls s past lane ++ later)
calls_grow s [] past lane = ([], sym (append-nil (lane_calls s past lane)))
calls_grow s (entry.Added l c ∷ more) past lane =
    let old = calls_grow s more past lane in
    elim (eqb_tells l lane) [
      | inl t ↦ (
        old.0 ++ c ∷ [],
        subst (λ (k : ℕ). lane_calls s (entry.Added k c ∷ (more ++ past)) lane ≡ lane_calls s past lane
            ++ (old.0 ++ c ∷ [])) (sym t.1)
            (added_here s (more ++ past) lane c ∙ (ap (λ (cs : List Call). cs ++ c ∷ []) old.1
            ∙ append_assoc (lane_calls s past lane) old.0 (c ∷ []))),
      )
      | inr t ↦ (old.0, added_other s (more ++ past) l lane c t.1 ∙ old.1)
    ]
calls_grow s (_ ∷ more) past lane = calls_grow s more past lane

pub call_stays : (s : Setting) (more past : List Entry) (lane k : ℕ) (c : Call) → call_at s past lane k ≡ Some c
    → call_at s (more ++ past) lane k ≡ Some c
call_stays s more past lane k c is =
    let g = calls_grow s more past lane in ap (λ (cs : List Call). slice_get cs k) g.1
    ∙ get_left (lane_calls s past lane) g.0 k c is

pub all_before : (test : Call → Bool) (s : Setting) (more past : List Entry) (lane : ℕ)
    → list_all test (lane_calls s (more ++ past) lane) ≡ true → list_all test (lane_calls s past lane) ≡ true
all_before test s more past lane all =
    let g = calls_grow s more past lane in all_left test (lane_calls s past lane) g.0
    (subst (λ (calls : List Call). list_all test calls ≡ true) g.1 all)

-- ---- the directory

-- the lane is in no directory
abbrev pub HasNone : Site → Type 0
HasNone site = site.directory ≡ []

left_so : (P : Request → Type 0) (E : Site → Type 0) (m : Move) (site : Site) → GoesSo P E m → E site
    → E (left_by m site)
left_so P E (Done ended after) site goes b = goes
left_so P E (Ask r) site goes b = b
left_so P E (Wait place) site goes b = b

-- any request
abbrev IsAny : Request → Type 0
IsAny r = Unit {0}

any_rename : (b : Bool) (p q : Request) → IsAny (if b then p else q)
any_rename true p q = tt
any_rename false p q = tt

any_path : (site : Site) (facts : Facts) (c : Call) → is_still c ≡ true → AsksPath IsAny site facts c
any_path site facts (call.Cwd path) e = absurd cc
any_path site facts (call.List path bound) e = (tt, λ handle. tt)
any_path site facts (call.OpenFile slot flags path) e = tt
any_path site facts (call.FsRead path bound) e = tt
any_path site facts (call.FsWrite path bytes) e = tt
any_path site facts other e = tt

-- what the end of a call leaves that is no change of directory, for a property that is kept where it sets slots
pub end_left : (E : Site → Type 0) (c : Call) (cancel : Option ℕ) (site : Site) (facts : Facts) (own : Own)
    (answers : Answers) → is_still c ≡ true → IsKeptBy E c → E site
    → E (site_left (Some c) cancel site facts own answers)
end_left E c None site facts own answers still k b =
    left_so IsAny E (next c site facts own answers) site
    (call_goes IsAny E c site facts own answers (λ r x. tt) (any_path site facts c still) k b) b
end_left E c (Some lane) site facts own answers still k b = cancelled_goes E c site facts own answers k b

pub call_left : (c : Call) (cancel : Option ℕ) (site : Site) (facts : Facts) (own : Own) (answers : Answers)
    → is_still c ≡ true → (site_left (Some c) cancel site facts own answers).directory ≡ site.directory
call_left c cancel site facts own answers still =
    end_left (λ x. x.directory ≡ site.directory) c cancel site facts own answers still (λ slot left x y b. b) refl

-- a lane none of whose calls changes its directory is in none
pub plain_site : (s : Setting) (past : List Entry) (lane : ℕ) → list_all is_still (lane_calls s past lane) ≡ true
    → HasNone (site_of s past lane)
plain_site s [] lane still = refl
plain_site s (entry.Event (End l k o) ∷ past) lane still = by_test (l == lane) (plain_site s past lane still)
  where
    by_call : (c : Option Call) → call_at s past lane k ≡ c → HasNone (site_of s past lane)
        → HasNone (site_left c (last_cancel past) (site_of s past lane) s.facts (own past lane k) (answer past))
    by_call None is b = b
    by_call (Some c) is b = call_left c (last_cancel past) (site_of s past lane) s.facts (own past lane k) (answer past)
        (each_is is_still (lane_calls s past lane) k c still is) ∙ b

    by_test : (b : Bool) → HasNone (site_of s past lane) → HasNone
        (if b then site_left (call_at s past lane k) (last_cancel past) (site_of s past lane) s.facts (own past lane k)
        (answer past) else site_of s past lane)
    by_test true h = by_call (call_at s past lane k) refl h
    by_test false h = h
plain_site s (entry.LetGo l ∷ past) lane still = by_test (l == lane) (plain_site s past lane still)
  where
    by_test : (b : Bool) → HasNone (site_of s past lane) → HasNone
        (if b then record { slots = fresh_site.slots; directory = (site_of s past lane).directory } else
        site_of s past lane)
    by_test true h = h
    by_test false h = h
plain_site s (entry.Added l c ∷ past) lane still = plain_site s past lane
    (all_before is_still s (entry.Added l c ∷ []) past lane still)
plain_site s (_ ∷ past) lane still = plain_site s past lane still

-- so its paths are meant as they stand
pub plain_path : (s : Setting) (past : List Entry) (lane : ℕ) (path : List ℕ)
    → list_all is_still (lane_calls s past lane) ≡ true → from_directory (site_of s past lane) path ≡ path
plain_path s past lane path still = plain_joined (site_of s past lane).directory path (plain_site s past lane still)

-- ---- lanes by what they have to do with a name

own_still : (name : Name) (c : Call) → may_own name c ≡ true → is_still c ≡ true
own_still name (call.Cwd path) e = absurd cc
own_still name other e = refl

pub all_own_still : (name : Name) (calls : List Call) → list_all (may_own name) calls ≡ true → list_all is_still calls
    ≡ true
all_own_still name calls all = all_more (may_own name) is_still calls (own_still name) all
