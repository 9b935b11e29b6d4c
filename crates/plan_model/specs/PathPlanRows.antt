-- Worked examples of the calls on paths that make at most one request, each beside a case that nearly is one.
use Rattle.std.specs.Prelude.{ℕ, ◌≡◌, Bool, true, List, [], ◌∷◌, codes, Some, None, if◌then◌else◌, refl}
use Rattle.std.proofs.Common.{ap}
use Rattle.ssh_encoding.specs.Writing.{uint32, uint64, string}
use Rattle.sftp_model.specs.declared.request.Request.TheVariants as request
use Rattle.sftp_model.specs.declared.reply.Reply.TheVariants as reply
use Rattle.sftp_model.specs.declared.outcome.Outcome.TheVariants as outcome
use Rattle.sftp_model.specs.declared.error.IoKind.TheVariants as kind
use Rattle.sftp_model.specs.declared.slot.Move.TheVariants.{Ask, Wait, Done}
use Rattle.sftp_model.specs.Frames.{no_attributes, attributes, request_body, is_too_long}
use Rattle.sftp_model.specs.declared.slot.Site.{Site}
use Rattle.sftp_model.specs.Slots.{fresh_site}
use Rattle.plan_model.specs.Moves.{Answers, refuse_locally}
use Rattle.plan_model.specs.PathPlans.{from_directory}
use Rattle.plan_model.specs.declared.call.Call.TheVariants as call
use Rattle.plan_model.specs.CallPlans.{site_after_cancel, next}
use Rattle.sftp_model.specs.Answers.{status}
use Rattle.plan_model.specs.PlanWords.{
  attributes_of,
  entry,
  at,
  after_handle,
  offering,
  bare,
  refused_io,
  refused_with,
  lacks,
}

abbrev in_x : Site
in_x = record fresh_site { directory = codes "/x" }

abbrev none : Answers
none place = None

-- ---- The requests, with joined paths

pub stat_asks : next (call.Stat (codes "a")) fresh_site bare [] none ≡ Ask (request.Stat (codes "a"))
unfolding request_body string uint32
stat_asks = refl

pub stat_joined : next (call.Stat (codes "a")) in_x bare [] none ≡ Ask (request.Stat (codes "/x/a"))
unfolding request_body string uint32
stat_joined = refl

pub lstat_absolute : next (call.Lstat (codes "/a")) in_x bare [] none ≡ Ask (request.Lstat (codes "/a"))
unfolding request_body string uint32
lstat_absolute = refl

-- An empty path names the directory, with a `/` after it.
pub remove_empty : next (call.Remove []) in_x bare [] none ≡ Ask (request.Remove (codes "/x/"))
unfolding request_body string uint32
remove_empty = refl

pub mkdir_asks : next (call.Mkdir (codes "a")) in_x bare [] none ≡ Ask (request.Mkdir (codes "/x/a") no_attributes)
unfolding request_body string uint32 attributes
mkdir_asks = refl

pub rmdir_asks : next (call.Rmdir (codes "a")) in_x bare [] none ≡ Ask (request.Rmdir (codes "/x/a"))
unfolding request_body string uint32
rmdir_asks = refl

pub set_stat_asks : next (call.SetStat (codes "a") (Some 7) (Some 0o177777)) in_x bare [] none
    ≡ Ask (request.Setstat (codes "/x/a") (attributes_of (Some 7) (Some 0o7777)))
unfolding request_body string uint32 uint64 attributes
set_stat_asks = refl

pub set_stat_of_none : next (call.SetStat (codes "a") None None) in_x bare [] none
    ≡ Ask (request.Setstat (codes "/x/a") no_attributes)
unfolding request_body string uint32 uint64 attributes
set_stat_of_none = refl

-- Both paths are joined, including the target of a link.
pub symlink_joined : next (call.Symlink (codes "a") (codes "b")) (record fresh_site { directory = codes "/x" }) bare []
    none ≡ Ask (request.Symlink (codes "/x/a") (codes "/x/b"))
unfolding request_body string uint32
symlink_joined = refl

pub rename_replaces : next (call.Rename (codes "a") (codes "/b")) in_x offering [] none
    ≡ Ask (request.PosixRename (codes "/x/a") (codes "/b"))
unfolding request_body string uint32
rename_replaces = refl

pub rename_plain : next (call.Rename (codes "a") (codes "/b")) in_x bare [] none
    ≡ Ask (request.Rename (codes "/x/a") (codes "/b"))
unfolding request_body string uint32
rename_plain = refl

pub hard_link_asks : next (call.HardLink (codes "a") (codes "/b")) in_x offering [] none
    ≡ Ask (request.Hardlink (codes "/x/a") (codes "/b"))
unfolding request_body string uint32
hard_link_asks = refl

pub read_link_asks : next (call.ReadLink (codes "a")) in_x bare [] none ≡ Ask (request.Readlink (codes "/x/a"))
unfolding request_body string uint32
read_link_asks = refl

pub canonicalize_expands : next (call.Canonicalize (codes "a")) in_x offering [] none
    ≡ Ask (request.ExpandPath (codes "/x/a"))
unfolding request_body string uint32
canonicalize_expands = refl

pub canonicalize_plain : next (call.Canonicalize (codes "a")) in_x bare [] none ≡ Ask (request.Realpath (codes "/x/a"))
unfolding request_body string uint32
canonicalize_plain = refl

-- ---- Refusals in their order: for `hard_link` the extension is checked first, whatever the paths' lengths are

pub hard_link_lacks : (old to : List ℕ) (site : Site) → next (call.HardLink old to) site bare [] none
    ≡ Done (lacks 2) site
hard_link_lacks old to site = refl

pub too_long : (path : List ℕ) (site : Site) → is_too_long (request.Stat (from_directory site path)) ≡ true
    → next (call.Stat path) site bare [] none ≡ Done (refused_io kind.PathTooLong) site
too_long path site e = ap (λ (b : Bool). if b then refuse_locally kind.PathTooLong site else
    Ask (request.Stat (from_directory site path))) e

pub hard_link_too_long : (old to : List ℕ) (site : Site) → is_too_long
    (request.Hardlink (from_directory site old) (from_directory site to)) ≡ true
    → next (call.HardLink old to) site offering [] none ≡ Done (refused_io kind.PathTooLong) site
hard_link_too_long old to site e = ap (λ (b : Bool). if b then refuse_locally kind.PathTooLong site else
    Ask (request.Hardlink (from_directory site old) (from_directory site to))) e

-- ---- Moves after a reply

pub stat_told : next (call.Stat (codes "a")) (at 5) bare ((1, request.Stat (codes "a")) ∷ [])
    (after_handle (reply.Attrs (attributes_of (Some 7) None) ∷ []))
    ≡ Done (outcome.Meta (attributes_of (Some 7) None)) (at 5)
stat_told = refl

pub stat_refused : next (call.Stat (codes "a")) (at 5) bare ((1, request.Stat (codes "a")) ∷ [])
    (after_handle (status 2 ∷ [])) ≡ Done (refused_with 2) (at 5)
stat_refused = refl

pub remove_done : next (call.Remove (codes "a")) (at 5) bare ((1, request.Remove (codes "a")) ∷ [])
    (after_handle (status 0 ∷ [])) ≡ Done outcome.Done (at 5)
remove_done = refl

pub remove_waits : next (call.Remove (codes "a")) (at 5) bare ((1, request.Remove (codes "a")) ∷ []) (after_handle [])
    ≡ Wait 1
remove_waits = refl

pub rmdir_refused : next (call.Rmdir (codes "a")) (at 5) bare ((1, request.Rmdir (codes "a")) ∷ [])
    (after_handle (status 1 ∷ [])) ≡ Done (refused_with 1) (at 5)
rmdir_refused = refl

-- The first name counts.
pub read_link_named : next (call.ReadLink (codes "a")) (at 5) bare ((1, request.Readlink (codes "a")) ∷ [])
    (after_handle (reply.Names (entry (codes "b") ∷ entry (codes "c") ∷ []) ∷ []))
    ≡ Done (outcome.Path (codes "b")) (at 5)
read_link_named = refl

pub mkdir_cancelled : site_after_cancel (call.Mkdir (codes "a")) (at 5) bare
    ((1, request.Mkdir (codes "a") no_attributes) ∷ [])
    (after_handle (status 0 ∷ [])) ≡ at 5
mkdir_cancelled = refl

-- ---- Cwd: the path as it is

pub cwd_done : next (call.Cwd (codes "y")) in_x bare [] none
    ≡ Done outcome.Done (record fresh_site { directory = codes "y" })
cwd_done = refl
