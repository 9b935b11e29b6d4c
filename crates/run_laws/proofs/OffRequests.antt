-- Calls that keep off a name ask requests that do.
use Rattle.std.proofs.Common.{◌≡◌, ℕ, Bool, true, false, List, [], if◌then◌else◌, refl, ap, sym, ◌∙◌, subst}
use Rattle.std.specs.Prelude.{not, ◌&&◌}
use Rattle.std.proofs.lemmas.Bool.{and_parts, false_from_ne_true}
use Rattle.sftp_model.specs.Frames.{no_attributes}
use Rattle.sftp_model.specs.Numbers.{EXPAND_PATH, POSIX_RENAME}
use Rattle.sftp_model.specs.Paths.{is_absolute_path, joined_path}
use Rattle.sftp_model.specs.declared.flags.OpenFlags.{OpenFlags}
use Rattle.sftp_model.specs.declared.request.Request.{Request}
use Rattle.sftp_model.specs.declared.request.Request.TheVariants as request
use Rattle.sftp_model.specs.declared.slot.Facts.{Facts}
use Rattle.sftp_model.specs.declared.slot.Move.TheVariants.{Ask}
use Rattle.sftp_model.specs.declared.slot.Site.{Site}
use Rattle.machine_model.specs.Changes.{DenotesName, MovesName}
use Rattle.machine_model.specs.Components.{Name, components, is_within, same_name}
use Rattle.machine_model.proofs.NameLaws.{names_tell}
use Rattle.sftp_model.specs.OpenOptions.{flags_of}
use Rattle.plan_model.specs.FilePlans.{open_request}
use Rattle.plan_model.specs.Moves.{Answers, Own, offers}
use Rattle.plan_model.specs.PathPlans.{from_directory, rename_request, set_attributes}
use Rattle.plan_model.specs.WholePlans.{to_replace}
use Rattle.plan_model.specs.WindowPlans.{to_read}
use Rattle.plan_model.specs.declared.call.Call.{Call}
use Rattle.plan_model.specs.declared.call.Call.TheVariants as call
use Rattle.run_laws.specs.GrantUses.{WritesBy}
use Rattle.run_laws.specs.InJournals.{is_open_of}
use Rattle.run_laws.specs.Sparing.{AvoidsName}
use Rattle.run_laws.specs.NameCalls.{is_of_other, is_on_paths, keeps_off, stands_outside}
use Rattle.run_laws.proofs.CallMoves.{AsksByPath, AsksPath, call_goes, path_call_goes}
use Rattle.run_laws.proofs.PartMoves.{GoesSo, HoldsByHandle, IsAnySite}
use Rattle.plan_model.specs.CallPlans.{next}

-- ---- requests

-- the request keeps off the name
abbrev pub IsOff : Name → Request → Type 0
IsOff name r = AvoidsName name r × (is_open_of name r ≡ false)

-- and writes by no handle
abbrev pub IsHarmless : Name → Request → Type 0
IsHarmless name r = IsOff name r × ((h : List ℕ) → WritesBy r h → ⊥)

-- a request that changes nothing by a path
plain : (name : Name) (r : Request) → (DenotesName r name → ⊥) → ((old to : Name) → MovesName r old to → ⊥)
    → AvoidsName name r
plain name r denotes moves = record { denotes = denotes; moves = λ old to d. absurd (moves old to d) }

pub handle_off : (name : Name) → HoldsByHandle (IsOff name)
handle_off name (request.Close handle) x = (plain name (request.Close handle) (λ d. d) (λ old to d. d), refl)
handle_off name (request.Read handle offset len) x = (
  plain name (request.Read handle offset len) (λ d. d)
      (λ old to d. d),
  refl,
)
handle_off name (request.Write handle offset content) x = (
  plain name (request.Write handle offset content) (λ d. d)
      (λ old to d. d),
  refl,
)
handle_off name (request.Fstat handle) x = (plain name (request.Fstat handle) (λ d. d) (λ old to d. d), refl)
handle_off name (request.Fsetstat handle attrs) x = (
  plain name (request.Fsetstat handle attrs) (λ d. d)
      (λ old to d. d),
  refl,
)
handle_off name (request.Fsync handle) x = (plain name (request.Fsync handle) (λ d. d) (λ old to d. d), refl)
handle_off name (request.Readdir handle) x = (plain name (request.Readdir handle) (λ d. d) (λ old to d. d), refl)
handle_off name (request.CopyData from from_offset len to to_offset) x =
    (plain name (request.CopyData from from_offset len to to_offset) (λ d. d) (λ old to d. d), refl)
handle_off name other x = absurd x

-- ---- paths

pub told_apart : (path : List ℕ) (name : Name) → is_of_other name path ≡ true → components path ≡ name → ⊥
told_apart path name apart e = (let same : same_name (components path) name ≡ true =
    (names_tell (components path) name).1 e in let both : not true ≡ true = ap not (sym same) ∙ apart in cc)

outside_is : (name : Name) (path : List ℕ) (old : Name) → stands_outside name path ≡ true → components path ≡ old
    → is_within old name ≡ false
outside_is name path old e is = subst (λ (x : Name). is_within x name ≡ false) is
    (by_test (is_within (components path) name) e)
  where
    by_test : (b : Bool) → not b ≡ true → b ≡ false
    by_test true e = absurd cc
    by_test false e = refl

open_off : (name : Name) (flags : OpenFlags) (path : List ℕ) → is_of_other name path ≡ true
    → IsOff name (open_request flags path)
open_off name flags path e = (
  plain name (open_request flags path) (λ d. told_apart path name e d.1) (λ old to d. d),
  false_from_ne_true (same_name (components path) name) (λ t. told_apart path name e
      ((names_tell (components path) name).0 t)),
)

moves_off : (name : Name) (old to : List ℕ) (r : Request) → stands_outside name old ≡ true → stands_outside name to
    ≡ true → (DenotesName r name → ⊥) → ((a b : Name) → MovesName r a b → (components old ≡ a) × (components to ≡ b))
    → AvoidsName name r
moves_off name old to r e f denotes moves = record {
  denotes = denotes;
  moves =
      λ a b d. (outside_is name old a e (moves a b d).0, outside_is name to b f (moves a b d).1);
}

-- a path is meant as it stands where the lane is in no directory
pub plain_joined : (directory path : List ℕ) → directory ≡ [] → joined_path directory path ≡ path
plain_joined directory path none = ap (λ (d : List ℕ). joined_path d path) none ∙ by_test (is_absolute_path path)
  where
    by_test : (b : Bool) → (if b then path else path) ≡ path
    by_test true = refl
    by_test false = refl

-- ---- calls on paths

-- the call changes no directory
abbrev pub is_still : Call → Bool
is_still (call.Cwd path) = false
is_still other = true

path_harmless : (name : Name) (site : Site) (facts : Facts) (c : Call) (at : List ℕ) → site.directory ≡ at
    → is_on_paths c ≡ true → keeps_off name at c ≡ true → AsksByPath (IsHarmless name) site facts c
path_harmless name site facts (call.List path bound) at is on off = (
  ((plain name (request.Opendir (from_directory site path)) (λ d. d) (λ old to d. d), refl), λ h w. w),
  λ handle. ((plain name (request.Readdir handle) (λ d. d) (λ old to d. d), refl), λ h w. w),
)
path_harmless name site facts (call.Stat path) at is on off =
    ((plain name (request.Stat (from_directory site path)) (λ d. d) (λ old to d. d), refl), λ h w. w)
path_harmless name site facts (call.Lstat path) at is on off =
    ((plain name (request.Lstat (from_directory site path)) (λ d. d) (λ old to d. d), refl), λ h w. w)
path_harmless name site facts (call.SetStat path size perm) at is on off =
    subst (λ (d : List ℕ). IsHarmless name (request.Setstat (joined_path d path) (set_attributes size perm))) (sym is) (
      (
        plain name (request.Setstat (joined_path at path) (set_attributes size perm))
            (told_apart (joined_path at path) name off) (λ old to d. d),
        refl,
      ),
      λ h w. w,
    )
path_harmless name site facts (call.Remove path) at is on off =
    subst (λ (d : List ℕ). IsHarmless name (request.Remove (joined_path d path))) (sym is) (
      (
        plain name (request.Remove (joined_path at path)) (told_apart (joined_path at path) name off) (λ old to d. d),
        refl,
      ),
      λ h w. w,
    )
path_harmless name site facts (call.Mkdir path) at is on off =
    subst (λ (d : List ℕ). IsHarmless name (request.Mkdir (joined_path d path) no_attributes)) (sym is) (
      (
        plain name (request.Mkdir (joined_path at path) no_attributes) (told_apart (joined_path at path) name off)
            (λ old to d. d),
        refl,
      ),
      λ h w. w,
    )
path_harmless name site facts (call.Rmdir path) at is on off =
    subst (λ (d : List ℕ). IsHarmless name (request.Rmdir (joined_path d path))) (sym is) (
      (
        plain name (request.Rmdir (joined_path at path)) (told_apart (joined_path at path) name off) (λ old to d. d),
        refl,
      ),
      λ h w. w,
    )
path_harmless name site facts (call.Rename old to) at is on off =
    subst (λ (d : List ℕ). IsHarmless name (rename_request facts (joined_path d old) (joined_path d to))) (sym is)
    (by_test (offers facts POSIX_RENAME))
  where
    from : List ℕ
    from = joined_path at old

    onto : List ℕ
    onto = joined_path at to

    both : (stands_outside name from ≡ true) × (stands_outside name onto ≡ true)
    both = and_parts (stands_outside name from) (stands_outside name onto) off

    by_test : (b : Bool) → IsHarmless name (if b then request.PosixRename from onto else request.Rename from onto)
    by_test true = (
      (
        moves_off name from onto (request.PosixRename from onto) both.0 both.1 (λ d. d) (λ x y d. d),
        refl,
      ),
      λ h w. w,
    )
    by_test false = (
      (moves_off name from onto (request.Rename from onto) both.0 both.1 (λ d. d) (λ x y d. d), refl),
      λ h w. w,
    )
path_harmless name site facts (call.HardLink old to) at is on off = (
  (plain name (request.Hardlink (from_directory site old) (from_directory site to)) (λ d. d) (λ a b d. d), refl),
  λ h w. w,
)
path_harmless name site facts (call.Symlink src dst) at is on off = (
  (plain name (request.Symlink (from_directory site src) (from_directory site dst)) (λ d. d) (λ a b d. d), refl),
  λ h w. w,
)
path_harmless name site facts (call.ReadLink path) at is on off =
    ((plain name (request.Readlink (from_directory site path)) (λ d. d) (λ old to d. d), refl), λ h w. w)
path_harmless name site facts (call.Canonicalize path) at is on off = by_test (offers facts EXPAND_PATH)
  where
    by_test : (b : Bool) → IsHarmless name (if b then request.ExpandPath (from_directory site path) else
        request.Realpath (from_directory site path))
    by_test true = (
      (plain name (request.ExpandPath (from_directory site path)) (λ d. d) (λ old to d. d), refl),
      λ h w. w,
    )
    by_test false = (
      (plain name (request.Realpath (from_directory site path)) (λ d. d) (λ old to d. d), refl),
      λ h w. w,
    )
path_harmless name site facts other at is on off = absurd cc

-- ---- what calls ask

asks_so : (P : Request → Type 0) (c : Call) (site : Site) (facts : Facts) (own : Own) (answers : Answers) (r : Request)
    → GoesSo P IsAnySite (next c site facts own answers) → next c site facts own answers ≡ Ask r → P r
asks_so P c site facts own answers r goes e = subst (GoesSo P IsAnySite) e goes

-- what a call on paths asks that keeps off the name keeps off it, and writes by no handle
pub on_paths_harmless : (name : Name) (c : Call) (site : Site) (facts : Facts) (own : Own) (answers : Answers)
    (r : Request) → site.directory ≡ [] → (is_on_paths c && keeps_off name [] c) ≡ true → next c site facts own answers
    ≡ Ask r → IsHarmless name r
on_paths_harmless name c site facts own answers r none e asks =
    let both = and_parts (is_on_paths c) (keeps_off name [] c) e in
    asks_so (IsHarmless name) c site facts own answers r
    (path_call_goes (IsHarmless name) IsAnySite c site facts own answers
    (path_harmless name site facts c [] none both.0 both.1) tt) asks

-- what a call of one path or a slot may ask: the request of the path, by its reading alone
by_paths_off : (name : Name) (site : Site) (facts : Facts) (c : Call) → AsksByPath (IsHarmless name) site facts c
    → is_on_paths c ≡ true → AsksPath (IsOff name) site facts c
by_paths_off name site facts (call.List path bound) p on = (p.0.0, λ handle. (p.1 handle).0)
by_paths_off name site facts (call.Stat path) p on = p.0
by_paths_off name site facts (call.Lstat path) p on = p.0
by_paths_off name site facts (call.SetStat path size perm) p on = p.0
by_paths_off name site facts (call.Remove path) p on = p.0
by_paths_off name site facts (call.Mkdir path) p on = p.0
by_paths_off name site facts (call.Rmdir path) p on = p.0
by_paths_off name site facts (call.Rename old to) p on = p.0
by_paths_off name site facts (call.HardLink old to) p on = p.0
by_paths_off name site facts (call.Symlink src dst) p on = p.0
by_paths_off name site facts (call.ReadLink path) p on = p.0
by_paths_off name site facts (call.Canonicalize path) p on = p.0
by_paths_off name site facts other p on = absurd cc

path_off : (name : Name) (site : Site) (facts : Facts) (c : Call) (at : List ℕ) → site.directory ≡ at → is_still c
    ≡ true → keeps_off name at c ≡ true → AsksPath (IsOff name) site facts c
path_off name site facts c at is still off = by_kind (is_on_paths c) refl
  where
    not_on_paths : (d : Call) → is_on_paths d ≡ false → is_still d ≡ true → keeps_off name at d ≡ true
        → AsksPath (IsOff name) site facts d
    not_on_paths (call.OpenFile slot flags path) on still off = open_off name (flags_of flags) path off
    not_on_paths (call.FsRead path bound) on still off = subst
        (λ (d : List ℕ). IsOff name (open_request to_read (joined_path d path))) (sym is)
        (open_off name to_read (joined_path at path) off)
    not_on_paths (call.FsWrite path bytes) on still off = subst
        (λ (d : List ℕ). IsOff name (open_request to_replace (joined_path d path))) (sym is)
        (open_off name to_replace (joined_path at path) off)
    not_on_paths (call.Cwd path) on still off = absurd cc
    not_on_paths (call.List path bound) on still off = absurd cc
    not_on_paths (call.Stat path) on still off = absurd cc
    not_on_paths (call.Lstat path) on still off = absurd cc
    not_on_paths (call.SetStat path size perm) on still off = absurd cc
    not_on_paths (call.Remove path) on still off = absurd cc
    not_on_paths (call.Mkdir path) on still off = absurd cc
    not_on_paths (call.Rmdir path) on still off = absurd cc
    not_on_paths (call.Rename old to) on still off = absurd cc
    not_on_paths (call.HardLink old to) on still off = absurd cc
    not_on_paths (call.Symlink src dst) on still off = absurd cc
    not_on_paths (call.ReadLink path) on still off = absurd cc
    not_on_paths (call.Canonicalize path) on still off = absurd cc
    not_on_paths by_slot on still off = tt

    by_kind : (b : Bool) → is_on_paths c ≡ b → AsksPath (IsOff name) site facts c
    by_kind true on = by_paths_off name site facts c (path_harmless name site facts c at is on off) on
    by_kind false on = not_on_paths c on still off

-- a change of directory asks nothing
cwd_asks_none : (path : List ℕ) (site : Site) (facts : Facts) (own : Own) (answers : Answers) (r : Request)
    → next (call.Cwd path) site facts own answers ≡ Ask r → ⊥
cwd_asks_none path site facts own answers r e = cc e

-- what a call asks that keeps off the name keeps off it
pub call_off : (name : Name) (c : Call) (site : Site) (facts : Facts) (own : Own) (answers : Answers) (r : Request)
    (at : List ℕ) → site.directory ≡ at → keeps_off name at c ≡ true → next c site facts own answers ≡ Ask r
    → IsOff name r
call_off name c site facts own answers r at is off asks = by_kind (is_still c) refl
  where
    goes_on : is_still c ≡ true → IsOff name r
    goes_on still = asks_so (IsOff name) c site facts own answers r
        (call_goes (IsOff name) IsAnySite c site facts own answers (handle_off name)
        (path_off name site facts c at is still off)
        (λ slot left x y b. tt) tt)
        asks

    changes : (d : Call) → is_still d ≡ false → next d site facts own answers ≡ Ask r → IsOff name r
    changes (call.Cwd path) e asked = absurd (cwd_asks_none path site facts own answers r asked)
    changes other e asked = absurd cc

    by_kind : (b : Bool) → is_still c ≡ b → IsOff name r
    by_kind true e = goes_on e
    by_kind false e = changes c e asks
