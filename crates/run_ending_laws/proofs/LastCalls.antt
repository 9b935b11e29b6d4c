-- Calls of a lane to whom a name is, after which the lane doesn't write it; how the calls of a whole run ended.
use Rattle.std.proofs.Common.{◌≡◌, ◌≢◌, ◌≤◌, ◌-◌, ℕ, zero, suc, true, not, List, [], ◌∷◌, Option, Some, None, refl, ap, sym, ◌∙◌, subst, arith}
use Rattle.std.specs.Prelude.{drop, slice_get}
use Rattle.std.specs.List.{list_all}
use Rattle.sftp_model.specs.declared.config.Choice.{Choice}
use Rattle.sftp_model.specs.declared.config.ServerConfig.{ServerConfig}
use Rattle.sftp_model.specs.declared.outcome.Outcome.{Outcome}
use Rattle.sftp_model.specs.declared.outcome.Outcome.TheVariants as outcome
use Rattle.sftp_model.specs.declared.request.Request.{Request}
use Rattle.sftp_model.specs.declared.slot.Site.{Site}
use Rattle.machine_model.specs.Changes.{IsWellFormed}
use Rattle.machine_model.specs.Components.{Name}
use Rattle.machine_model.specs.FileTree.{FileTree}
use Rattle.plan_model.specs.Moves.{Own}
use Rattle.plan_model.specs.PathPlans.{from_directory}
use Rattle.plan_model.specs.declared.call.Call.{Call}
use Rattle.plan_model.specs.declared.call.Call.TheVariants as call
use Rattle.plan_model.specs.declared.call.Lane.{Lane}
use Rattle.session_model.specs.declared.entry.Entry.{Entry}
use Rattle.session_model.specs.declared.turn.Turn.{Turn}
use Rattle.session_model.specs.Calls.{Setting, call_at, lane_calls, site_of}
use Rattle.session_model.specs.Journals.{IsJournal}
use Rattle.session_model.specs.Readings.{AskedRequest, answer, asked_at, own}
use Rattle.session_model.specs.Runs.{IsRun}
use Rattle.session_model.specs.Served.{ServesJournal}
use Rattle.session_model.proofs.OverLaws.{runs_are_journals}
use Rattle.run_laws.specs.CallsAmong.{HasEnded}
use Rattle.run_laws.specs.FilesLeft.{LaneLast}
use Rattle.run_laws.specs.InJournals.{IsOfLane, PassesAt, is_of_call}
use Rattle.run_laws.specs.NameCalls.{all_keep_off, may_own, writes}
use Rattle.run_laws.specs.ReadsBack.{IsAlone, call_in, calls_in}
use Rattle.run_laws.specs.RoundTrips.{IsOneLanes, WritesWhole, outcome_at}
use Rattle.run_laws.proofs.CallEnds.{EndedByPlan, call_ended}
use Rattle.run_laws.proofs.CallRequests.{IsAsked, asked_own, may_hold, own_held}
use Rattle.run_laws.proofs.AvoidedNames.{avoids_plain, own_writes, passes_so}
use Rattle.run_laws.proofs.LaneCalls.{all_more, each_is, plain_path}
use Rattle.run_laws.proofs.OffRequests.{is_still, told_apart}
use Rattle.run_laws.proofs.HandedLanes.{AreHandedIn, call_is}
use Rattle.run_laws.proofs.RoundTripLaws.{lane_keeps_off}
use Rattle.run_ending_laws.proofs.CallKinds.{plain_uncancelled}
use Rattle.run_ending_laws.proofs.Uncancelled.{run_cancels_none, uncancelled}
use Rattle.run_ending_laws.specs.PlainCalls.{is_calm, is_plain_call}
use Rattle.run_ending_laws.specs.Claims.{LaterWriteNone}

-- ---- a name that is one lane's

pub one_lanes : (lanes : List Lane) (s : Setting) (turns : List Turn) (past : List Entry) (name : Name) (lane : ℕ)
    → AreHandedIn lanes s past → IsRun s turns past → IsAlone lanes name lane → IsOneLanes s past name lane
one_lanes lanes s turns past name lane are run alone =
    record {
      own = subst (λ (calls : List Call). list_all (may_own name) calls ≡ true) (sym (are lane)) alone.own;
      others = λ other ne. lane_keeps_off s turns past name other run
          (subst (λ (calls : List Call). all_keep_off name [] calls ≡ true) (sym (are other)) (alone.others other ne));
    }

held : (name : Name) (calls : List Call) → list_all (may_own name) calls ≡ true → list_all (may_hold name) calls ≡ true
held name calls own = all_more (may_own name) (may_hold name) calls (own_held name) own

of_lane : (s : Setting) (past : List Entry) (name : Name) (lane : ℕ) → IsJournal s past → IsOneLanes s past name lane
    → IsOfLane past name lane
of_lane s past name lane j one =
    record {
      others = one.others;
      by_opens = λ place k a is mine plain. (let x : IsAsked name s past lane k place a.request =
          asked_own name s past lane k place a j (held name (lane_calls s past lane) one.own) is mine in
          avoids_plain s past name place x.c a.request x.asks plain);
    }

call_passes : (s : Setting) (past : List Entry) (name : Name) (lane k place : ℕ) → IsJournal s past
    → IsOneLanes s past name lane → is_of_call past (lane, k) place ≡ true
    → ((c : Call) → call_at s past lane k ≡ Some c → WritesWhole name c → ⊥)
    → PassesAt s past name place
call_passes s past name lane k place j one mine spares = by_asked (asked_at past place) refl
  where
    by_asked : (x : Option AskedRequest) → asked_at past place ≡ x → PassesAt s past name place
    by_asked None none = record {
      avoids = λ b at. absurd (let both : None ≡ Some b = sym none ∙ at in cc);
      writes =
          λ b h grant at w uses. absurd (let both : None ≡ Some b = sym none ∙ at in cc);
    }
    by_asked (Some a) is =
        let x : IsAsked name s past lane k place a.request = asked_own name s past lane k place a j
        (held name (lane_calls s past lane) one.own) is mine in
        passes_so s past name lane k place a is x (λ w. spares x.c x.is
        (own_writes name x.c (each_is (may_own name) (lane_calls s past lane) k x.c one.own x.is) w))

got_dropped : {A : Type 0} (xs : List A) (n k : ℕ) (x : A) → n ≤ k → slice_get xs k ≡ Some x
    → slice_get (drop n xs) (k - n) ≡ Some x
got_dropped xs zero k x le e = (let same : k ≡ k - 0 = omega arith in subst (λ (i : ℕ). slice_get xs i ≡ Some x) same e)
got_dropped [] (suc n) k x le e = absurd cc
got_dropped (y ∷ xs) (suc n) zero x le e = absurd (omega (arith, le))
got_dropped (y ∷ xs) (suc n) (suc k) x le e =
    let same : suc k - suc n ≡ k - n = omega arith in subst (λ (i : ℕ). slice_get (drop n xs) i ≡ Some x) (sym same)
    (got_dropped xs n k x (omega (arith, le)) e)

pub writes_none : (name : Name) (c : Call) → not (writes name c) ≡ true → WritesWhole name c → ⊥
writes_none name (call.FsWrite path bytes) e names = told_apart path name e names
writes_none name other e names = names

call_was : (lanes : List Lane) (s : Setting) (past : List Entry) (lane k : ℕ) (o : Option Call)
    → AreHandedIn lanes s past → slice_get (lane_calls s past lane) k ≡ o → slice_get (calls_in lanes lane) k ≡ o
call_was lanes s past lane k o are e = ap (λ (calls : List Call). slice_get calls k) (sym (are lane)) ∙ e

pub lane_last : (lanes : List Lane) (s : Setting) (turns : List Turn) (past : List Entry) (name : Name) (lane k : ℕ)
    (w : ℕ × Request) (later : Own)
    → AreHandedIn lanes s past → IsRun s turns past → IsAlone lanes name lane → LaterWriteNone lanes name lane k
    → own past lane k ≡ w ∷ later
    → LaneLast s past name lane k w later
lane_last lanes s turns past name lane k w later are run alone none asks =
    record {
      lanes = of_lane s past name lane j one;
      asks = asks;
      later = λ place n lt mine. call_passes s past name lane n place j one mine (λ c is names.
          writes_none name c (each_is (λ (d : Call). not (writes name d)) (drop (suc k) (calls_in lanes lane))
          (n - suc k) c none
          (got_dropped (calls_in lanes lane) (suc k) n c (omega (arith, lt))
          (call_was lanes s past lane n (Some c) are is))) names);
    }
  where
    j : IsJournal s past
    j = runs_are_journals s turns past run

    one : IsOneLanes s past name lane
    one = one_lanes lanes s turns past name lane are run alone

-- ---- a whole run of plain calls

-- A run of these lanes under turns that cancel nothing, over a file machine, and each call makes a directory or reads
-- or writes a file as a whole.
pub record PlainRunOf (lanes : List Lane) (s : Setting) (turns : List Turn) (past : List Entry) (config : ServerConfig)
    (choices : List Choice) (tree left : FileTree) :
    Type 0 where
  pub run : IsRun s turns past
  pub calm : list_all is_calm turns ≡ true
  pub given : s.lanes ≡ lanes
  pub are : AreHandedIn lanes s past
  pub serves : ServesJournal config choices tree past left
  pub well : IsWellFormed tree
  pub plain : (lane : ℕ) → list_all is_plain_call (calls_in lanes lane) ≡ true

-- the paths of its calls are meant as they stand
pub plain_is_still : (c : Call) → is_plain_call c ≡ true → is_still c ≡ true
plain_is_still (call.Mkdir path) e = refl
plain_is_still (call.FsWrite path bytes) e = refl
plain_is_still (call.FsRead path bound) e = refl
plain_is_still other e = absurd cc

-- none of its calls is cancelled
pub not_cancelled : (lanes : List Lane) (s : Setting) (turns : List Turn) (past : List Entry) (config : ServerConfig)
    (choices : List Choice) (tree left : FileTree)
    (lane k : ℕ) (o : Outcome) → PlainRunOf lanes s turns past config choices tree left → outcome_at past lane k
    ≡ Some o → o ≢ outcome.Cancelled
not_cancelled lanes s turns past config choices tree left lane k o p e same =
    uncancelled is_plain_call s past lane k plain_uncancelled (runs_are_journals s turns past p.run)
    (run_cancels_none s turns past p.calm p.run)
    (subst (λ (calls : List Call). list_all is_plain_call calls ≡ true) (sym (p.are lane)) (p.plain lane))
    (e ∙ ap (λ (x : Outcome). Some x) same)

-- how a call of it ended
pub record Did (s : Setting) (past : List Entry) (lane k : ℕ) (c : Call) (o : Outcome) : Type 0 where
  pub site : Site
  pub home : (path : List ℕ) → from_directory site path ≡ path
  pub did : HasEnded c site s.facts (own past lane k) (answer past) o

pub plain_did : (lanes : List Lane) (s : Setting) (turns : List Turn) (past : List Entry) (config : ServerConfig)
    (choices : List Choice) (tree left : FileTree)
    (lane k : ℕ) (c : Call) (o : Outcome) → PlainRunOf lanes s turns past config choices tree left
    → call_in lanes lane k ≡ Some c
    → outcome_at past lane k ≡ Some o → Did s past lane k c o
plain_did lanes s turns past config choices tree left lane k c o p is e =
    let d : EndedByPlan s past lane k c o = call_ended s past lane k c o j
    (call_is lanes s past lane k (Some c) p.are is)
    (not_cancelled lanes s turns past config choices tree left lane k o p e) e in
    record {
      site = site_of s d.before lane;
      home = λ path. plain_path s d.before lane path (d.still (all_more is_plain_call is_still (lane_calls s past lane)
          plain_is_still all));
      did = d.did;
    }
  where
    j : IsJournal s past
    j = runs_are_journals s turns past p.run

    all : list_all is_plain_call (lane_calls s past lane) ≡ true
    all = subst (λ (calls : List Call). list_all is_plain_call calls ≡ true) (sym (p.are lane)) (p.plain lane)
