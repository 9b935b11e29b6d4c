-- A session whose lane was given a call, or let go before it was open, is what it was with one entry more.
use Rattle.std.proofs.Common.{◌≡◌, ◌≢◌, ◌<◌, ◌∷◌, ◌++◌, ◌∙◌, ℕ, true, false, List, Option, None, refl, ap, sym, subst, inr, arith}
use Rattle.std.specs.Prelude.{MatchBool, Result, Ok, Err, OnErr, OnOk, length, nat_lt, slice_get}
use Rattle.std.proofs.lemmas.Bool.Decides.{nat_tests}
use Rattle.sftp_model.specs.declared.options.SftpOptions.{SftpOptions}
use Rattle.sftp_model.specs.declared.reply.Reply.{Reply}
use Rattle.sftp_core.specs.declared.info.Info.{Info}
use Rattle.sftp_core.specs.Core.{Core}
use Rattle.plan_model.specs.declared.call.Call.{Call}
use Rattle.plan_model.specs.declared.call.Lane.{Lane}
use Rattle.plan_model.specs.Lanes.{are_ok}
use Rattle.session_model.specs.declared.entry.Entry.{Entry}
use Rattle.session_model.specs.declared.entry.Entry.TheVariants as entry
use Rattle.session_model.specs.Calls.{Setting, calls_added_to, calls_of, current}
use Rattle.session_model.specs.Journals.{IsNext}
use Rattle.session_model.specs.Readings.{count_submitted, count_ended, was_let_go}
use Rattle.session_driver.specs.Adding.{with_call}
use Rattle.session_driver.specs.declared.session.Phase.{Phase}
use Rattle.session_driver.specs.declared.session.Phase.TheVariants.{Fresh, Greeted, Asking, Queried, Failed, Open}
use Rattle.session_driver.specs.Bare.{IsBare}
use Rattle.session_driver.specs.Session.{IsFixed, IsLater}
use Rattle.session_driver.proofs.Journals.{later_self, match_true}
use Rattle.session_work.specs.declared.lanes.Lanes.{Lanes}
use Rattle.session_work.specs.Adding.{added_in}
use Rattle.session_work.specs.Fresh.{AreFresh, IsUntouched}
use Rattle.session_work.specs.Letting.{gone_in}
use Rattle.session_work.specs.SoFar.{IsIntact, IsLeft}
use Rattle.session_work.specs.Working.{LanesValue, IsAtRestOpen, contents_of, past_of}
use Rattle.session_work.proofs.AddedLaws.{added_calls, added_within, adds, with_length}
use Rattle.sftp_lanes.specs.Adding.{AddsCall, IsSame}
use Rattle.sftp_lanes.specs.Events.{LetsIdleGo}
use Rattle.sftp_lanes.specs.Seen.{AreIdleRuns, HasCalls, IsInPhase, IsSession, session_inputs, is_opening, setting_by, without_lanes}
use Rattle.sftp_lanes.proofs.FaultLaws.{unmoved_at}
use Rattle.sftp_lanes.proofs.Going.{fails_by, left_fails, value_of}
use Rattle.sftp_lanes.proofs.UnmovedLaws.{unmoved_added, unmoved_let_go}

-- ---- while a session opens

-- its lanes are these now: core, states and count of requests as before, and no entry more but one of a lane
record SameButLanes (old now : LanesValue) : Type 0 where
  core : now.core ≡ old.core
  number : now.asked ≡ old.asked
  states : now.states ≡ old.states
  bare : without_lanes now.past ≡ without_lanes old.past
  count : count_submitted now.past ≡ count_submitted old.past

opening_as : (lanes : List Lane) (options : SftpOptions) (version : Option Reply) (info : Option Info)
    (old new : Lanes) (phase : Phase) → SameButLanes (contents_of old) (contents_of new)
    → IsBare options version (without_lanes (past_of old)) old.core phase
    → IsUntouched lanes old → (IsBare options version (without_lanes (past_of new)) new.core phase)
    × IsUntouched lanes new
opening_as lanes options version info old new phase same bare u = (
  subst (λ (k : Core). IsBare options version (without_lanes (past_of new)) k phase) (sym same.core)
      (subst (λ (p : List Entry). IsBare options version p old.core phase) (sym same.bare) bare),
  record {
    asked = same.number ∙ u.asked ∙ sym same.count;
    count = ap length same.states ∙ u.count;
    each = subst AreFresh (sym same.states) u.each;
  },
)

same_in : (lanes : List Lane) (options : SftpOptions) (version : Option Reply) (info : Option Info) (old new : Lanes)
    (phase : Phase) → is_opening phase ≡ true → SameButLanes (contents_of old) (contents_of new)
    → (AreIdleRuns lanes (past_of old) → AreIdleRuns lanes (past_of new))
    → IsInPhase lanes options version info old phase
    → IsInPhase lanes options version info new phase
same_in lanes options version info old new Fresh opens same on p =
    let both = opening_as lanes options version info old new Fresh same p.0 p.1.1 in (both.0, (p.1.0, both.1, on p.1.2))
same_in lanes options version info old new Greeted opens same on p =
    let both = opening_as lanes options version info old new Greeted same p.0 p.1.1 in
    (both.0, (p.1.0, both.1, on p.1.2))
same_in lanes options version info old new Asking opens same on p =
    let both = opening_as lanes options version info old new Asking same p.0 p.1.1 in
    (both.0, (p.1.0, both.1, on p.1.2))
same_in lanes options version info old new Queried opens same on p =
    let both = opening_as lanes options version info old new Queried same p.0 p.1.1 in
    (both.0, (p.1.0, both.1, on p.1.2))
same_in lanes options version info old new Open opens same on p = absurd cc
same_in lanes options version info old new Failed opens same on p = absurd cc

-- ---- a call is added

-- the call may be added
pub record MayAdd (lane : ℕ) (call : Call) (w : Lanes) : Type 0 where
  pub there : lane < length w.calls
  pub held : was_let_go (past_of w) lane ≡ false
  pub ok : are_ok (with_call w.calls lane call) ≡ true

added_unmoved : (lanes : List Lane) (old : Lanes) (lane : ℕ) (call : Call) → HasCalls lanes old → MayAdd lane call old
    → AreIdleRuns lanes (past_of old) → AreIdleRuns lanes (entry.Added lane call ∷ past_of old)
added_unmoved lanes old lane call has may are s same offers =
    let there = may.there in
    let count = has.count in
    let as_many : length s.lanes ≡ length lanes = ap length same in
    unmoved_added s (past_of old) lane call (omega (arith, there, count, as_many)) may.held
    (added_within old.calls lane call may.there may.ok) (are s same offers)

added_same : (c : LanesValue) (lane : ℕ) (call : Call) → SameButLanes c (added_in c lane call)
added_same c lane call = record { core = refl; number = refl; states = refl; bare = refl; count = refl }

still : (c : LanesValue) → SameButLanes c c
still c = record { core = refl; number = refl; states = refl; bare = refl; count = refl }

added_in_phase : (lanes : List Lane) (options : SftpOptions) (version : Option Reply) (info : Option Info)
    (old new : Lanes) (phase : Phase) (lane : ℕ) (call : Call) → phase ≢ Failed → HasCalls lanes old
    → MayAdd lane call old
    → contents_of new ≡ added_in (contents_of old) lane call → IsInPhase lanes options version info old phase
    → IsInPhase lanes options version info new phase
added_in_phase lanes options version info old new Open lane call on has may is p =
    subst (IsAtRestOpen (setting_by lanes options version info)) (sym is)
    (adds (setting_by lanes options version info) (contents_of old) lane call p may.there may.held may.ok).working
added_in_phase lanes options version info old new Failed lane call on has may is p = absurd (on refl)
added_in_phase lanes options version info old new Fresh lane call on has may is p =
    same_in lanes options version info old new Fresh refl (subst (SameButLanes (contents_of old)) (sym is)
    (added_same (contents_of old) lane call))
    (λ are. subst (λ (x : LanesValue). AreIdleRuns lanes x.past) (sym is)
    (added_unmoved lanes old lane call has may are)) p
added_in_phase lanes options version info old new Greeted lane call on has may is p =
    same_in lanes options version info old new Greeted refl (subst (SameButLanes (contents_of old)) (sym is)
    (added_same (contents_of old) lane call))
    (λ are. subst (λ (x : LanesValue). AreIdleRuns lanes x.past) (sym is)
    (added_unmoved lanes old lane call has may are)) p
added_in_phase lanes options version info old new Asking lane call on has may is p =
    same_in lanes options version info old new Asking refl (subst (SameButLanes (contents_of old)) (sym is)
    (added_same (contents_of old) lane call))
    (λ are. subst (λ (x : LanesValue). AreIdleRuns lanes x.past) (sym is)
    (added_unmoved lanes old lane call has may are)) p
added_in_phase lanes options version info old new Queried lane call on has may is p =
    same_in lanes options version info old new Queried refl (subst (SameButLanes (contents_of old)) (sym is)
    (added_same (contents_of old) lane call))
    (λ are. subst (λ (x : LanesValue). AreIdleRuns lanes x.past) (sym is)
    (added_unmoved lanes old lane call has may are)) p

-- nothing has changed
same_in_phase : (lanes : List Lane) (options : SftpOptions) (version : Option Reply) (info : Option Info)
    (old new : Lanes) (phase : Phase) → phase ≢ Failed → contents_of new ≡ contents_of old
    → IsInPhase lanes options version info old phase → IsInPhase lanes options version info new phase
same_in_phase lanes options version info old new Open on is p =
    subst (IsAtRestOpen (setting_by lanes options version info)) (sym is) p
same_in_phase lanes options version info old new Failed on is p = absurd (on refl)
same_in_phase lanes options version info old new Fresh on is p =
    same_in lanes options version info old new Fresh refl (subst (SameButLanes (contents_of old)) (sym is)
    (still (contents_of old)))
    (λ are. subst (λ (x : LanesValue). AreIdleRuns lanes x.past) (sym is) are) p
same_in_phase lanes options version info old new Greeted on is p =
    same_in lanes options version info old new Greeted refl (subst (SameButLanes (contents_of old)) (sym is)
    (still (contents_of old)))
    (λ are. subst (λ (x : LanesValue). AreIdleRuns lanes x.past) (sym is) are) p
same_in_phase lanes options version info old new Asking on is p =
    same_in lanes options version info old new Asking refl (subst (SameButLanes (contents_of old)) (sym is)
    (still (contents_of old)))
    (λ are. subst (λ (x : LanesValue). AreIdleRuns lanes x.past) (sym is) are) p
same_in_phase lanes options version info old new Queried on is p =
    same_in lanes options version info old new Queried refl (subst (SameButLanes (contents_of old)) (sym is)
    (still (contents_of old)))
    (λ are. subst (λ (x : LanesValue). AreIdleRuns lanes x.past) (sym is) are) p

-- the calls of a lane, by lists alone
abbrev HasIn : List Lane → LanesValue → Type 0
HasIn lanes c = (length c.calls ≡ length lanes) × (are_ok c.calls ≡ true)
    × ((lane : ℕ) → calls_of (slice_get c.calls lane) ≡ calls_of (slice_get lanes lane) ++ calls_added_to c.past lane)

has_in : (lanes : List Lane) (w : Lanes) → HasCalls lanes w → HasIn lanes (contents_of w)
has_in lanes w has = (has.count, has.ok, has.each)

has_of : (lanes : List Lane) (w : Lanes) → HasIn lanes (contents_of w) → HasCalls lanes w
has_of lanes w has = record { count = has.0; ok = has.1; each = has.2 }

added_has : (lanes : List Lane) (options : SftpOptions) (version : Option Reply) (info : Option Info) (old : Lanes)
    (lane : ℕ) (call : Call) → HasCalls lanes old → MayAdd lane call old
    → HasIn lanes (added_in (contents_of old) lane call)
added_has lanes options version info old lane call has may = (
  with_length old.calls lane call ∙ has.count,
  may.ok,
  added_calls (setting_by lanes options version info) (past_of old) old.calls lane call may.there has.each,
)

fixed_in : (lanes : List Lane) (options : SftpOptions) (version : Option Reply) (info : Option Info)
    (c now : LanesValue)
    → now ≡ c → IsFixed (session_inputs lanes options) version c.past (setting_by lanes options version info)
    → IsFixed (session_inputs lanes options) version now.past (setting_by lanes options version info)
fixed_in lanes options version info c now is f =
    subst (λ (x : LanesValue). IsFixed (session_inputs lanes options) version x.past
    (setting_by lanes options version info)) (sym is) f

-- also where it was refused
pub pushed_session : {T E : Type 0} (lanes : List Lane) (options : SftpOptions) (version : Option Reply)
    (known : Option Info) (old new : Lanes) (phase : Phase) (lane : ℕ) (call : Call) (r : Result T E)
    → IsSession lanes options version known old phase → phase ≢ Failed → MayAdd lane call old
    → IsIntact (length old.calls) new → OnOk r (contents_of new ≡ added_in (contents_of old) lane call)
    → OnErr r (contents_of new ≡ contents_of old) → IsSession lanes options version known new phase
pushed_session lanes options version known old new phase lane call (Ok x) is on may intact is_added left =
    record {
      ok = is.ok;
      intact = subst (λ (n : ℕ). IsIntact n new) is.calls.count intact;
      now = added_in_phase lanes options version known old new phase lane call on is.calls may is_added is.now;
      told = is.told;
      calls = has_of lanes new (subst (HasIn lanes) (sym is_added)
          (added_has lanes options version known old lane call is.calls may));
      fixed = λ some. fixed_in lanes options version known (added_in (contents_of old) lane call) (contents_of new)
          is_added (is.fixed some);
    }
pushed_session lanes options version known old new phase lane call (Err e) is on may intact is_added left =
    record {
      ok = is.ok;
      intact = subst (λ (n : ℕ). IsIntact n new) is.calls.count intact;
      now = same_in_phase lanes options version known old new phase on left is.now;
      told = is.told;
      calls = has_of lanes new (subst (HasIn lanes) (sym left) (has_in lanes old is.calls));
      fixed = λ some. fixed_in lanes options version known (contents_of old) (contents_of new) left (is.fixed some);
    }

opening_next : (lanes : List Lane) (options : SftpOptions) (version : Option Reply) (known : Option Info) (old : Lanes)
    (phase : Phase) (lane : ℕ) (call : Call) → IsSession lanes options version known old phase → is_opening phase ≡ true
    → MayAdd lane call old → IsNext (setting_by lanes options version known) (past_of old) (entry.Added lane call)
opening_next lanes options version known old phase lane call is opens may =
    let there = may.there in
    let count = is.calls.count in
    (unmoved_added (setting_by lanes options version known) (past_of old) lane call (omega (arith, there, count))
    may.held
    (added_within old.calls lane call may.there may.ok) (unmoved_at lanes options version known old phase is.now
    opens)).run.0

next_in : (lanes : List Lane) (options : SftpOptions) (version : Option Reply) (known : Option Info) (old : Lanes)
    (phase : Phase) (lane : ℕ) (call : Call) → phase ≢ Failed → IsSession lanes options version known old phase
    → MayAdd lane call old → IsNext (setting_by lanes options version known) (past_of old) (entry.Added lane call)
next_in lanes options version known old Fresh lane call on is may =
    opening_next lanes options version known old Fresh lane call is refl may
next_in lanes options version known old Greeted lane call on is may =
    opening_next lanes options version known old Greeted lane call is refl may
next_in lanes options version known old Asking lane call on is may =
    opening_next lanes options version known old Asking lane call is refl may
next_in lanes options version known old Queried lane call on is may =
    opening_next lanes options version known old Queried lane call is refl may
next_in lanes options version known old Open lane call on is may =
    (adds (setting_by lanes options version known) (contents_of old) lane call is.now may.there may.held may.ok).next
next_in lanes options version known old Failed lane call on is may = absurd (on refl)

pub adds_call : (lanes : List Lane) (options : SftpOptions) (version : Option Reply) (known : Option Info)
    (old new : Lanes) (phase : Phase) (lane : ℕ) (call : Call) → IsSession lanes options version known old phase
    → phase ≢ Failed → MayAdd lane call old → contents_of new ≡ added_in (contents_of old) lane call
    → AddsCall lane call (value_of lanes options version known phase old)
    (value_of lanes options version known phase new)
adds_call lanes options version known old new phase lane call is on may is_added =
    let s : Setting = setting_by lanes options version known in
    let next = next_in lanes options version known old phase lane call on is may in
    record {
      unfailed = on;
      rest = refl;
      is = is_added;
      next = next;
      later = subst (λ (x : LanesValue). IsLater s (past_of old) x.past) (sym is_added)
          (inr (next, later_self s (past_of old)));
    }

pub same_session : (lanes : List Lane) (options : SftpOptions) (version : Option Reply) (known : Option Info)
    (old new : Lanes) (phase : Phase) → contents_of new ≡ contents_of old
    → IsSame (value_of lanes options version known phase old) (value_of lanes options version known phase new)
same_session lanes options version known old new phase same = record { rest = refl; contents = same }

-- ---- a lane is let go before the session is open

gone_unmoved : (lanes : List Lane) (options : SftpOptions) (version : Option Reply) (info : Option Info) (old : Lanes)
    (lane : ℕ) → lane < length lanes → current (setting_by lanes options version info) (past_of old) lane ≡ None
    → was_let_go (past_of old) lane ≡ false → AreIdleRuns lanes (past_of old)
    → AreIdleRuns lanes (entry.LetGo lane ∷ past_of old)
gone_unmoved lanes options version info old lane lt done held are s same offers =
    let as_many : length s.lanes ≡ length lanes = ap length same in
    let mine : current s (past_of old) lane ≡ current (setting_by lanes options version info) (past_of old) lane =
    ap (λ (ls : List Lane). slice_get (calls_of (slice_get ls lane) ++ calls_added_to (past_of old) lane)
    (count_ended (past_of old) lane)) same in
    unmoved_let_go s (past_of old) lane (omega (arith, lt, as_many)) (mine ∙ done) held (are s same offers)

gone_same : (c : LanesValue) (lane : ℕ) → SameButLanes c (gone_in c lane)
gone_same c lane = record { core = refl; number = refl; states = refl; bare = refl; count = refl }

pub gone_session : (lanes : List Lane) (options : SftpOptions) (version : Option Reply) (known : Option Info)
    (old new : Lanes) (phase : Phase) (lane : ℕ) → IsSession lanes options version known old phase → is_opening phase
    ≡ true
    → lane < length lanes → current (setting_by lanes options version known) (past_of old) lane ≡ None
    → was_let_go (past_of old) lane ≡ false → IsIntact (length old.calls) new
    → contents_of new ≡ gone_in (contents_of old) lane → IsSession lanes options version known new phase
gone_session lanes options version known old new phase lane is opens lt done held intact gone =
    record {
      ok = is.ok;
      intact = subst (λ (n : ℕ). IsIntact n new) is.calls.count intact;
      now = same_in lanes options version known old new phase opens
          (subst (SameButLanes (contents_of old)) (sym gone) (gone_same (contents_of old) lane))
          (λ are. subst (λ (x : LanesValue). AreIdleRuns lanes x.past) (sym gone)
          (gone_unmoved lanes options version known old lane lt done held are)) is.now;
      told = is.told;
      calls = has_of lanes new (subst (HasIn lanes) (sym gone) (has_in lanes old is.calls));
      fixed = λ some. fixed_in lanes options version known (gone_in (contents_of old) lane) (contents_of new) gone
          (is.fixed some);
    }

pub lets_idle_go : (lanes : List Lane) (options : SftpOptions) (version : Option Reply) (known : Option Info)
    (old new : Lanes) (phase now : Phase) (lane : ℕ) → IsSession lanes options version known old phase
    → is_opening phase ≡ true
    → lane < length lanes → current (setting_by lanes options version known) (past_of old) lane ≡ None
    → was_let_go (past_of old) lane ≡ false → contents_of new ≡ gone_in (contents_of old) lane → now ≡ phase
    → LetsIdleGo lane (value_of lanes options version known phase old) (value_of lanes options version known now new)
lets_idle_go lanes options version known old new phase now lane is opens lt done held gone same = record {
  rest = λ i. value_of lanes options version known (same i) new;
  is = gone;
  next = (unmoved_let_go (setting_by lanes options version known) (past_of old) lane lt done held
      (unmoved_at lanes options version known old phase is.now opens)).run.0;
}

-- also where it was refused
pub gone_keep : {T E : Type 0} (lanes : List Lane) (options : SftpOptions) (version : Option Reply)
    (known : Option Info) (old new : Lanes) (phase now : Phase) (lane : ℕ) (r : Result T E)
    → IsSession lanes options version known old phase → is_opening phase ≡ true
    → lane < length lanes → current (setting_by lanes options version known) (past_of old) lane ≡ None
    → was_let_go (past_of old) lane ≡ false → IsIntact (length old.calls) new → OnOk r (now ≡ phase)
    → OnErr r (now ≡ Failed) → OnOk r (contents_of new ≡ gone_in (contents_of old) lane) → OnErr r (IsLeft old new)
    → IsSession lanes options version known new now
gone_keep lanes options version known old new phase now lane (Ok x) is opens lt done held intact same failed gone left =
    subst (IsSession lanes options version known new) (sym same)
    (gone_session lanes options version known old new phase lane is opens lt done held intact gone)
gone_keep lanes options version known old new phase now lane (Err e) is opens lt done held intact same failed gone left
    =
    subst (IsSession lanes options version known new) (sym failed)
    (fails_by lanes options version known old new phase is (subst (λ (n : ℕ). IsIntact n new) is.calls.count intact)
    (left_fails old new left))

below : (lane n : ℕ) → lane < n → nat_lt lane n ≡ true
below lane n lt = grind (arith, nat_tests)

pub idle_gone : {T E : Type 0} (lanes : List Lane) (options : SftpOptions) (version : Option Reply)
    (known : Option Info) (old new : Lanes) (phase now : Phase) (lane : ℕ) (q r : Result T E) → q ≡ r
    → IsSession lanes options version known old phase → is_opening phase ≡ true
    → lane < length lanes → current (setting_by lanes options version known) (past_of old) lane ≡ None
    → was_let_go (past_of old) lane ≡ false → OnOk r (now ≡ phase)
    → OnOk r (contents_of new ≡ gone_in (contents_of old) lane)
    → OnOk q (MatchBool (nat_lt lane (length lanes))
    (LetsIdleGo lane (value_of lanes options version known phase old) (value_of lanes options version known now new))
    (value_of lanes options version known now new ≡ value_of lanes options version known phase old))
idle_gone lanes options version known old new phase now lane (Ok x) (Ok y) e is opens lt done held same gone =
    match_true (nat_lt lane (length lanes)) _ _ (below lane (length lanes) lt)
    (lets_idle_go lanes options version known old new phase now lane is opens lt done held gone same)
idle_gone lanes options version known old new phase now lane (Ok x) (Err y) e is opens lt done held same gone =
    absurd cc
idle_gone lanes options version known old new phase now lane (Err x) r e is opens lt done held same gone = tt
