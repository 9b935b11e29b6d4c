-- The law of moves for the calls on paths that make one request or none.
use Rattle.std.proofs.Common.{◌≡◌, ℕ, Bool, true, false, List, [], ◌∷◌, Option, Some, None, refl, inl, arith, if◌then◌else◌}
use Rattle.std.specs.Prelude.{IfSome}
use Rattle.std.proofs.lemmas.Nat.{and_le_r}
use Rattle.sftp_model.specs.declared.outcome.Outcome.TheVariants as outcome
use Rattle.sftp_model.specs.declared.error.IoKind.TheVariants as kind
use Rattle.sftp_model.specs.declared.reply.Reply.{Reply}
use Rattle.sftp_model.specs.declared.reply.Reply.TheVariants as reply
use Rattle.sftp_model.specs.declared.request.Request.{Request}
use Rattle.sftp_model.specs.declared.request.Request.TheVariants as request
use Rattle.sftp_model.specs.declared.slot.Move.TheVariants.{Ask, Done}
use Rattle.sftp_model.specs.Fits.{FitsAttributes, FitsLong, FitsNumber}
use Rattle.sftp_model.specs.Frames.{no_attributes, is_too_long}
use Rattle.sftp_model.specs.Numbers.{POSIX_RENAME, HARDLINK, EXPAND_PATH}
use Rattle.plan_model.specs.Moves.{Own, ask_path, refuse_locally, refuses_extension, offers, done_by, told_by}
use Rattle.sftp_model.specs.Readings.{permission_bits}
use Rattle.plan_model.specs.PathPlans.{
  from_directory,
  path_done,
  path_told,
  path_named,
  named_by,
  set_attributes,
  set_stat_next,
  remove_next,
  mkdir_next,
  rmdir_next,
  rename_request,
  rename_next,
  hard_link_next,
  symlink_next,
  stat_next,
  lstat_next,
  read_link_next,
  canonical_request,
  canonicalize_next,
  cwd_next,
}
use Rattle.plan_model.specs.GoodMoves.{Situation, IsGood, IsGoodAsk}
use Rattle.plan_model.proofs.MoveLaws.{either, replied, by_status, by_attrs, as_begun}

-- a request that is good where it fits a frame
pub path_good : (s : Situation) (r : Request) → (is_too_long r ≡ false → IsGoodAsk s r) → IsGood s (ask_path r s.site)
path_good s r fits = either (IsGood s) (is_too_long r) (refuse_locally kind.PathTooLong s.site) (Ask r)
    (λ e. as_begun s (outcome.NoFile)) fits

pub done_good : (s : Situation) (own : Own) (r : Request) → (is_too_long r ≡ false → IsGoodAsk s r)
    → IsGood s (path_done r s.site own s.answers)
done_good s own r fits = replied s own (ask_path r s.site) (done_by s.site) (λ e. path_good s r fits)
    (λ y. by_status (IsGood s) y s.site (Done outcome.Done s.site) (as_begun s) (as_begun s outcome.Done))

told_good : (s : Situation) (own : Own) (r : Request) → (is_too_long r ≡ false → IsGoodAsk s r)
    → IsGood s (path_told r s.site own s.answers)
told_good s own r fits = replied s own (ask_path r s.site) (told_by s.site) (λ e. path_good s r fits)
    (λ y. by_attrs (IsGood s) y s.site (as_begun s))

by_name : (s : Situation) (y : Reply) → IsGood s (named_by s.site y)
by_name s (reply.Names []) = as_begun s outcome.NoFile
by_name s (reply.Names (entry ∷ entries)) = as_begun s outcome.NoFile
by_name s (reply.Status code message language) = as_begun s outcome.NoFile
by_name s y = as_begun s outcome.NoFile

named_good : (s : Situation) (own : Own) (r : Request) → (is_too_long r ≡ false → IsGoodAsk s r)
    → IsGood s (path_named r s.site own s.answers)
named_good s own r fits = replied s own (ask_path r s.site) (named_by s.site) (λ e. path_good s r fits) (by_name s)

-- ---- attributes that are set

small : (mode : ℕ) → FitsNumber (permission_bits mode)
small mode = omega (arith, and_le_r mode 0o7777)

pub fitting : (size mode : Option ℕ) → IfSome size FitsLong → FitsAttributes (set_attributes size mode)
fitting size None fits = record { size = fits; id = tt; permissions = tt; time = tt }
fitting size (Some m) fits = record { size = fits; id = tt; permissions = small m; time = tt }

-- ---- the calls

pub set_stat_good : (s : Situation) (path : List ℕ) (size mode : Option ℕ) → (s.numbers → IfSome size FitsLong)
    → IsGood s (set_stat_next path size mode s.site s.facts s.own s.answers)
set_stat_good s path size mode fits = done_good s s.own (request.Setstat (from_directory s.site path)
    (set_attributes size mode)) (λ e. (λ k. fitting size mode (fits k), e))

pub remove_good : (s : Situation) (path : List ℕ) → IsGood s (remove_next path s.site s.facts s.own s.answers)
remove_good s path = done_good s s.own (request.Remove (from_directory s.site path)) (λ e. e)

pub mkdir_good : (s : Situation) (path : List ℕ) → IsGood s (mkdir_next path s.site s.facts s.own s.answers)
mkdir_good s path = done_good s s.own (request.Mkdir (from_directory s.site path) no_attributes) (λ e. (refl, e))

pub rmdir_good : (s : Situation) (path : List ℕ) → IsGood s (rmdir_next path s.site s.facts s.own s.answers)
rmdir_good s path = done_good s s.own (request.Rmdir (from_directory s.site path)) (λ e. e)

renames : (s : Situation) (b : Bool) (old to : List ℕ) → is_too_long
    (if b then request.PosixRename old to else request.Rename old to) ≡ false
    → IsGoodAsk s (if b then request.PosixRename old to else request.Rename old to)
renames s true old to e = e
renames s false old to e = e

pub rename_good : (s : Situation) (old to : List ℕ) → IsGood s (rename_next old to s.site s.facts s.own s.answers)
rename_good s old to = done_good s s.own (rename_request s.facts (from_directory s.site old) (from_directory s.site to))
    (renames s (offers s.facts POSIX_RENAME) (from_directory s.site old) (from_directory s.site to))

pub symlink_good : (s : Situation) (src dst : List ℕ) → IsGood s (symlink_next src dst s.site s.facts s.own s.answers)
symlink_good s src dst = done_good s s.own (request.Symlink (from_directory s.site src) (from_directory s.site dst))
    (λ e. e)

pub hard_link_good : (s : Situation) (old to : List ℕ) → IsGood s (hard_link_next old to s.site s.facts s.own s.answers)
hard_link_good s old to =
    let r : Request = request.Hardlink (from_directory s.site old) (from_directory s.site to) in
    replied s s.own (if offers s.facts HARDLINK then ask_path r s.site else refuses_extension HARDLINK s.site)
    (done_by s.site)
    (λ e. either (IsGood s) (offers s.facts HARDLINK) (ask_path r s.site) (refuses_extension HARDLINK s.site)
    (λ o. path_good s r (λ x. x)) (λ o. as_begun s outcome.NoFile))
    (λ y. by_status (IsGood s) y s.site (Done outcome.Done s.site) (as_begun s) (as_begun s outcome.Done))

pub stat_good : (s : Situation) (path : List ℕ) → IsGood s (stat_next path s.site s.facts s.own s.answers)
stat_good s path = told_good s s.own (request.Stat (from_directory s.site path)) (λ e. e)

pub lstat_good : (s : Situation) (path : List ℕ) → IsGood s (lstat_next path s.site s.facts s.own s.answers)
lstat_good s path = told_good s s.own (request.Lstat (from_directory s.site path)) (λ e. e)

pub read_link_good : (s : Situation) (path : List ℕ) → IsGood s (read_link_next path s.site s.facts s.own s.answers)
read_link_good s path = named_good s s.own (request.Readlink (from_directory s.site path)) (λ e. e)

expands : (s : Situation) (b : Bool) (path : List ℕ) → is_too_long
    (if b then request.ExpandPath path else request.Realpath path) ≡ false
    → IsGoodAsk s (if b then request.ExpandPath path else request.Realpath path)
expands s true path e = e
expands s false path e = e

pub canonicalize_good : (s : Situation) (path : List ℕ) → IsGood s
    (canonicalize_next path s.site s.facts s.own s.answers)
canonicalize_good s path = named_good s s.own (canonical_request s.facts (from_directory s.site path))
    (expands s (offers s.facts EXPAND_PATH) (from_directory s.site path))

pub cwd_good : (s : Situation) (path : List ℕ) → IsGood s (cwd_next path s.site s.facts s.own s.answers)
cwd_good s path = λ g h. inl h
