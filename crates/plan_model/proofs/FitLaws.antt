-- What a good move asks fits a frame.
use Rattle.std.proofs.Common.{◌≡◌, ◌≤◌, ℕ, false, List, ◌++◌, length, sym, subst, arith}
use Rattle.std.proofs.lemmas.Bool.{ltb-false}
use Rattle.std.proofs.lemmas.List.{length-append}
use Rattle.ssh_encoding.specs.Writing.{uint32, string}
use Rattle.sftp_model.specs.declared.request.Request.{Request}
use Rattle.sftp_model.specs.declared.request.Request.TheVariants as request
use Rattle.sftp_model.specs.Fits.{FitsHandle, FitsAttributes, FitsRequest, AsksWithinReply}
use Rattle.sftp_model.specs.Numbers.{MAX_BODY_LEN, MAX_TRANSFER_LEN}
use Rattle.sftp_model.specs.Frames.{no_attributes, attributes, request_body, of_type, extended_body, posix_rename_name, hardlink_name, expand_path_name, is_too_long}
use Rattle.sftp_model.specs.declared.slot.Facts.{Facts}
use Rattle.sftp_model.specs.declared.slot.Move.TheVariants.{Ask}
use Rattle.sftp_model.specs.declared.slot.Site.{Site}
use Rattle.plan_model.specs.declared.call.Call.TheVariants as call
use Rattle.plan_model.specs.declared.call.Call.{Call}
use Rattle.plan_model.specs.CallPlans.{next}
use Rattle.plan_model.proofs.CallLaws.{asks_good}
use Rattle.plan_model.specs.Moves.{Answers, Own, handle_of}
use Rattle.plan_model.specs.GoodMoves.{Situation, IsHeldHandle, IsGoodAsk, FitsCall, FitsFacts, HandlesFit, WithinRange, MayCloseGrant, situation}

-- ---- a part is no longer than what it stands in

in_type : (t id : ℕ) (fields : List ℕ) → length fields ≤ length (of_type t id fields)
in_type t id fields = omega (arith, length-append (uint32 id) fields)

in_text : (text : List ℕ) → length text ≤ length (string text)
unfolding string
in_text text = omega (arith, length-append (uint32 (length text)) text)

first_in : (a b : List ℕ) → length a ≤ length (string a ++ b)
first_in a b = omega (arith, length-append (string a) b, in_text a)

second_in : (a b : List ℕ) → length b ≤ length (string a ++ string b)
second_in a b = omega (arith, length-append (string a) (string b), in_text b)

in_extended : (name : List ℕ) (id : ℕ) (fields : List ℕ) → length fields ≤ length (extended_body name id fields)
in_extended name id fields = omega (arith, length-append (string name) fields, in_type 200 id (string name ++ fields))

short : (r : Request) → is_too_long r ≡ false → length (request_body r 0) ≤ MAX_BODY_LEN
short r e = ltb-false _ _ e

-- ---- paths

one_path : (t : ℕ) (path : List ℕ) (n : ℕ) → length (of_type t 0 (string path)) ≤ n → length path ≤ n
one_path t path n le = omega (arith, le, in_type t 0 (string path), in_text path)

first_path : (t : ℕ) (path rest : List ℕ) (n : ℕ) → length (of_type t 0 (string path ++ rest)) ≤ n → length path ≤ n
first_path t path rest n le = omega (arith, le, in_type t 0 (string path ++ rest), first_in path rest)

open_path : (path flags attrs : List ℕ) (n : ℕ) → length (of_type 3 0 (string path ++ flags ++ attrs)) ≤ n
    → length path ≤ n
open_path path flags attrs n le = omega (
  arith,
  le,
  in_type 3 0 (string path ++ flags ++ attrs),
  length-append (string path ++ flags) attrs,
  first_in path flags,
)

second_path : (t : ℕ) (a b : List ℕ) (n : ℕ) → length (of_type t 0 (string a ++ string b)) ≤ n → length b ≤ n
second_path t a b n le = omega (arith, le, in_type t 0 (string a ++ string b), second_in a b)

first_extended : (name a b : List ℕ) (n : ℕ) → length (extended_body name 0 (string a ++ string b)) ≤ n → length a ≤ n
first_extended name a b n le = omega (arith, le, in_extended name 0 (string a ++ string b), first_in a (string b))

second_extended : (name a b : List ℕ) (n : ℕ) → length (extended_body name 0 (string a ++ string b)) ≤ n → length b ≤ n
second_extended name a b n le = omega (arith, le, in_extended name 0 (string a ++ string b), second_in a b)

one_extended : (name path : List ℕ) (n : ℕ) → length (extended_body name 0 (string path)) ≤ n → length path ≤ n
one_extended name path n le = omega (arith, le, in_extended name 0 (string path), in_text path)

-- ---- the law

-- the numbers of a situation fit, its handles have at most 256 bytes, and its lengths are those that one frame can
-- bring
pub record FitsSituation (s : Situation) : Type 0 where
  pub numbers : s.numbers
  pub grants : (place : ℕ) → FitsHandle (handle_of (s.answers place))
  pub closed : (handle : List ℕ) → s.closes handle → FitsHandle handle
  pub read_len : s.facts.read_len ≤ MAX_TRANSFER_LEN
  pub write_len : s.facts.write_len ≤ MAX_TRANSFER_LEN

handle_fits : (s : Situation) (handle : List ℕ) → FitsSituation s → IsHeldHandle s handle → FitsHandle handle
handle_fits s handle f h = subst FitsHandle (sym h.bears) (f.grants h.grant)

none_fit : FitsAttributes no_attributes
none_fit = record { size = tt; id = tt; permissions = tt; time = tt }

pub ask_fits : (s : Situation) (r : Request) → FitsSituation s → IsGoodAsk s r → FitsRequest r
unfolding request_body
ask_fits s (request.Init version) f g = absurd g
ask_fits s request.LimitsQuery f g = absurd g
ask_fits s (request.Close handle) f g = f.closed handle g
ask_fits s (request.OpenFile path flags attrs) f g = (
  open_path path (uint32 flags.0) (attributes attrs) MAX_BODY_LEN
      (short (request.OpenFile path flags attrs) g.3),
  g.1 f.numbers,
  subst FitsAttributes (sym g.2) none_fit,
)
ask_fits s (request.Opendir path) f g = one_path 11 path MAX_BODY_LEN (short (request.Opendir path) g.1)
ask_fits s (request.Read handle offset len) f g = (
  handle_fits s handle f g.0,
  omega (arith, g.1),
  omega (arith, g.2, f.read_len),
)
ask_fits s (request.Write handle offset content) f g = (
  handle_fits s handle f g.0,
  omega (arith, g.1),
  omega (arith, g.2, f.write_len),
)
ask_fits s (request.Fstat handle) f g = handle_fits s handle f g
ask_fits s (request.Fsync handle) f g = handle_fits s handle f g
ask_fits s (request.Readdir handle) f g = handle_fits s handle f g
ask_fits s (request.Fsetstat handle attrs) f g = (handle_fits s handle f g.0, g.1 f.numbers)
ask_fits s (request.CopyData from from_offset len to to_offset) f g =
    (handle_fits s from f g.0, omega (arith, g.2), omega (arith, g.2), handle_fits s to f g.1, omega (arith, g.3))
ask_fits s (request.Setstat path attrs) f g = (
  first_path 9 path (attributes attrs) MAX_BODY_LEN
      (short (request.Setstat path attrs) g.1),
  g.0 f.numbers,
)
ask_fits s (request.Mkdir path attrs) f g = (
  first_path 14 path (attributes attrs) MAX_BODY_LEN
      (short (request.Mkdir path attrs) g.1),
  subst FitsAttributes (sym g.0) none_fit,
)
ask_fits s (request.Lstat path) f g = one_path 7 path MAX_BODY_LEN (short (request.Lstat path) g)
ask_fits s (request.Remove path) f g = one_path 13 path MAX_BODY_LEN (short (request.Remove path) g)
ask_fits s (request.Rmdir path) f g = one_path 15 path MAX_BODY_LEN (short (request.Rmdir path) g)
ask_fits s (request.Realpath path) f g = one_path 16 path MAX_BODY_LEN (short (request.Realpath path) g)
ask_fits s (request.Stat path) f g = one_path 17 path MAX_BODY_LEN (short (request.Stat path) g)
ask_fits s (request.Readlink path) f g = one_path 19 path MAX_BODY_LEN (short (request.Readlink path) g)
ask_fits s (request.Rename old to) f g = (
  first_path 18 old (string to) MAX_BODY_LEN (short (request.Rename old to) g),
  second_path 18 old to MAX_BODY_LEN (short (request.Rename old to) g),
)
ask_fits s (request.Symlink src dst) f g = (
  first_path 20 src (string dst) MAX_BODY_LEN
      (short (request.Symlink src dst) g),
  second_path 20 src dst MAX_BODY_LEN (short (request.Symlink src dst) g),
)
ask_fits s (request.PosixRename old to) f g = (
  first_extended posix_rename_name old to MAX_BODY_LEN
      (short (request.PosixRename old to) g),
  second_extended posix_rename_name old to MAX_BODY_LEN
      (short (request.PosixRename old to) g),
)
ask_fits s (request.Hardlink old to) f g = (
  first_extended hardlink_name old to MAX_BODY_LEN
      (short (request.Hardlink old to) g),
  second_extended hardlink_name old to MAX_BODY_LEN
      (short (request.Hardlink old to) g),
)
ask_fits s (request.ExpandPath path) f g = one_extended expand_path_name path MAX_BODY_LEN
    (short (request.ExpandPath path) g)

pub ask_within_reply : (s : Situation) (r : Request) → FitsSituation s → IsGoodAsk s r → AsksWithinReply r
ask_within_reply s (request.Read handle offset len) f g = omega (arith, g.2, f.read_len)
ask_within_reply s other f g = tt

-- ---- of all calls

closes_fit : (c : Call) (site : Site) (own : Own) (answers : Answers) → HandlesFit answers → (handle : List ℕ)
    → MayCloseGrant c site own answers handle → FitsHandle handle
closes_fit (call.Close slot) site own answers f handle c = subst FitsHandle (sym c.bears) (f c.grant)
closes_fit other site own answers f handle c = absurd c

situation_fits : (c : Call) (site : Site) (facts : Facts) (own : Own) (answers : Answers) → FitsCall c → FitsFacts facts
    → HandlesFit answers → FitsSituation (situation c site facts own answers)
situation_fits c site facts own answers fits k f = record {
  numbers = fits;
  grants = f;
  closed =
      closes_fit c site own answers f;
  read_len = k.read_len.1;
  write_len = k.write_len.1;
}

pub requests_fit : (c : Call) (site : Site) (facts : Facts) (own : Own) (answers : Answers) (r : Request) → FitsCall c
    → FitsFacts facts → HandlesFit answers → WithinRange c site facts own answers
    → next c site facts own answers ≡ Ask r → FitsRequest r × AsksWithinReply r
requests_fit c site facts own answers r fits k f w is =
    let good : IsGoodAsk (situation c site facts own answers) r = asks_good c site facts own answers r w is in
    let s : FitsSituation (situation c site facts own answers) = situation_fits c site facts own answers fits k f in (
      ask_fits (situation c site facts own answers) r s good,
      ask_within_reply (situation c site facts own answers) r s
          good,
    )
