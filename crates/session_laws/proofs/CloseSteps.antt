-- The grant of a lane that is due next is closed.
use Rattle.std.proofs.Common.{◌≡◌, ◌≢◌, ◌<◌, ◌≤◌, ◌^◌, ℕ, Bool, true, List, ◌∷◌, Option, Some, refl, ap, sym, ◌∙◌, subst}
use Rattle.std.specs.Prelude.{length, slice_get, ◌⊎◌, [], None}
use Rattle.sftp_model.specs.declared.request.Request.{Request}
use Rattle.sftp_model.specs.declared.reply.Reply.{Reply}
use Rattle.sftp_core.specs.Core.{Core, record_at}
use Rattle.sftp_core.specs.declared.id_record.IdRecord.TheVariants.{Granted}
use Rattle.plan_model.specs.Moves.{handle_of}
use Rattle.plan_runner.specs.Pending.{pends}
use Rattle.session_model.specs.declared.event.Event.TheVariants.{Submit}
use Rattle.session_model.specs.declared.entry.Entry.{Entry}
use Rattle.session_model.specs.Calls.{Setting, current}
use Rattle.session_model.specs.Grants.{next_due, letting_go}
use Rattle.session_model.specs.Journals.{IsJournal, IsNext, MustClose, close_of}
use Rattle.session_model.specs.Steady.{IsCancellableRun}
use Rattle.session_model.proofs.CallLaws.{due_next}
use Rattle.session_model.proofs.IdLaws.{IsFreeState, free_state}
use Rattle.session_model.proofs.RequestLaws.{asked_other}
use Rattle.session_model.proofs.RunLaws.{good_plain}
use Rattle.session_laws.specs.Changes.{closed_lane, with_lane}
use Rattle.session_laws.specs.Dues.{AreDueGrants}
use Rattle.session_laws.specs.Lanes.{Held, LaneTied, LaneValue, SessionTied, grant_places, ticket_places, tickets_for}
use Rattle.session_laws.specs.Places.{is_in, without_index}
use Rattle.session_laws.proofs.CloseLaws.{grant_index, grant_state, grant_without, out_more}
use Rattle.session_laws.proofs.DueLaws.{dues_close, none_next, next_due_first}
use Rattle.session_laws.proofs.FilledLaws.{handles_agree}
use Rattle.session_laws.proofs.LaneLaws.{grants_count}
use Rattle.session_laws.proofs.PlaceLaws.{without_other}
use Rattle.session_laws.proofs.SessionLaws.{each_with}
use Rattle.session_laws.proofs.TurnLaws.{closed_keeps}
use Rattle.session_laws.specs.Rest.{CountsJournal, LaneAsks, opened_in, weigh, AtRest, IsBetweenSteps}
use Rattle.session_laws.specs.Budgets.{KeepsIdBudget}
use Rattle.session_laws.specs.Ends.{close_entry, let_go, ClosesDue}
use Rattle.session_laws.proofs.AskedLaws.{asks_on}
use Rattle.session_laws.proofs.BudgetLaws.{spends_with}
use Rattle.session_laws.proofs.KeptLaws.{kept_let_go}
use Rattle.session_laws.proofs.CountedLaws.{counted_let_go, weigh_let_go}
use Rattle.sftp_model.specs.declared.request.Request.TheVariants as request
use Rattle.session_model.specs.declared.event.Owner.TheVariants as owner
use Rattle.session_model.specs.declared.entry.Entry.TheVariants as entry
use Rattle.plan_runner.specs.Sound.{KeepsSite as Stays}

-- ---- what a lane awaits

-- behind a CLOSE of the session a lane awaits what it awaited, where it has the grant still that its call opened
asks_close : (past : List Entry) (id : ℕ) (r : Request) (w : ℕ) (v : LaneValue) (left : List Held)
    → ((q : ℕ) → pends q v.running v.site ≤ tickets_for (ticket_places v.tickets) q) → LaneAsks past w v
    → ((h : ℕ) → opened_in v.running ≡ Some h → is_in h (grant_places left) ≡ true)
    → LaneAsks (entry.Event (Submit owner.Close id r) ∷ past) w
    (record { running = v.running; site = v.site; tickets = v.tickets; grants = left; ended = v.ended })
asks_close past id r w v left awaits a keeps =
    let now : List Entry = entry.Event (Submit owner.Close id r) ∷ past in
    let on : LaneAsks now w v = asks_on past now w v (λ p below. asked_other past owner.Close id p r below) awaits a in
    record { current = on.current; only = on.only; keeps = keeps; fits = on.fits; reads = on.reads }

-- ---- the CLOSE

-- the CLOSE with the handle that the lane has is that with the handle that came
close_is : (s : Setting) (past : List Entry) (lane k : ℕ) (v : LaneValue) (dues : List ℕ) (g : Held)
    → LaneTied s past lane v dues → slice_get v.grants k ≡ Some g → close_entry g.grant
    ≡ close_of past g.place g.grant.id
close_is s past lane k v dues g l got = sym (ap (λ (x : Option Reply). entry.Event
    (Submit owner.Close g.grant.id (request.Close (handle_of x)))) (handles_agree s past lane k v dues g l got))

-- the id of a grant is free
must_close : (s : Setting) (past : List Entry) (lane k : ℕ) (v : LaneValue) (dues : List ℕ) (g : Held)
    → LaneTied s past lane v dues → slice_get v.grants k ≡ Some g → g.grant.id < 2 ^ 32
    → MustClose past g.place (close_entry g.grant)
must_close s past lane k v dues g l got small =
    let state = grant_state past v.grants k g l.holds.held got in (
      g.grant.id,
      (
        (small, free_state past g.grant.id (subst IsFreeState (sym state.1) tt)),
        close_is s past lane k v dues g l got,
      ),
    )

-- What the CLOSE of a lane's grant that is due next makes of the session, whatever is due behind it.
pub record Closing (s : Setting) (past : List Entry) (core : Core) (lanes : ℕ → LaneValue) (begun : ℕ → Bool)
    (lane k : ℕ) (g : Held) : Type 0 where
  pub must : MustClose past g.place (close_entry g.grant)
  pub is : close_entry g.grant ≡ close_of past g.place g.grant.id
  pub next : IsNext s past (close_entry g.grant)
  pub good : IsCancellableRun s (close_entry g.grant ∷ past) begun
  pub counted : CountsJournal (close_entry g.grant ∷ past) (let_go core g.grant)
  pub asks : (w : ℕ) → w < length s.lanes → LaneAsks (close_entry g.grant ∷ past) w
      (with_lane lanes lane (closed_lane (lanes lane) k) w)
  pub work : weigh (let_go core g.grant) < weigh core

pub closing : (s : Setting) (past : List Entry) (core : Core) (lanes : ℕ → LaneValue) (dues : List ℕ) (begun : ℕ → Bool)
    (lane k : ℕ) (g : Held) → IsCancellableRun s past begun → SessionTied s past core lanes dues
    → CountsJournal past core
    → ((w : ℕ) → w < length s.lanes → LaneAsks past w (lanes w))
    → next_due s past ≡ Some g.place → lane < length s.lanes → slice_get (lanes lane).grants k ≡ Some g
    → g.grant.id < 2 ^ 32 → opened_in (lanes lane).running ≢ Some g.place
    → Closing s past core lanes begun lane k g
closing s past core lanes dues begun lane k g good tied counted asks due there got small apart =
    let v : LaneValue = lanes lane in
    let gs : List ℕ = grant_places v.grants in
    let l : LaneTied s past lane v dues = tied.each lane there in
    let e : Entry = close_entry g.grant in
    let must : MustClose past g.place e = must_close s past lane k v dues g l got small in
    let next : IsNext s past e = due_next s past g.place e good.calm due must in
    let here : record_at core g.grant.id ≡ Some (Granted g.grant.handle 1) =
    grants_count s past core lanes dues lane k g tied there got in
    let left : grant_places (without_index k v.grants) ≡ without_index k gs = grant_without v.grants k in
    let at_k : slice_get gs k ≡ Some g.place = grant_index v.grants k g got in
    record {
      must = must;
      is = close_is s past lane k v dues g l got;
      next = next;
      good = good_plain s past begun e good next tt;
      counted = counted_let_go past core g.grant here counted;
      asks = each_with (λ w x. LaneAsks (e ∷ past) w x) lanes lane (closed_lane v k) (length s.lanes)
          (asks_close past g.grant.id (request.Close g.grant.handle) lane v (without_index k v.grants) l.goes.awaits
          (asks lane there)
          (λ h is. ap (is_in h) left ∙ (without_other gs k g.place h at_k
          (λ same. apart (is ∙ ap (λ (n : ℕ). Some n) same)) ∙ (asks lane there).keeps h is)))
          (λ w lt ne. asks_close past g.grant.id (request.Close g.grant.handle) w (lanes w) (lanes w).grants
          (tied.each w lt).goes.awaits (asks w lt) (asks w lt).keeps);
      work = weigh_let_go core g.grant here;
    }

-- and its lanes keep no more
pub closed_spends : (s : Setting) (past : List Entry) (core : Core) (lanes : ℕ → LaneValue) (dues : List ℕ) (lane k : ℕ)
    (g : Held) → SessionTied s past core lanes dues → lane < length s.lanes → slice_get (lanes lane).grants k ≡ Some g
    → KeepsIdBudget s past core lanes
    → KeepsIdBudget s (close_entry g.grant ∷ past) (let_go core g.grant)
    (with_lane lanes lane (closed_lane (lanes lane) k))
closed_spends s past core lanes dues lane k g tied there got x =
    spends_with s past (close_entry g.grant ∷ past) core (let_go core g.grant) lanes lane (closed_lane (lanes lane) k)
    (λ l lt. refl) refl (kept_let_go core g.grant (grants_count s past core lanes dues lane k g tied there got)) x

-- ---- the grants that are due

pub due_closed : (s : Setting) (past : List Entry) (core : Core) (lanes : ℕ → LaneValue) (begun : ℕ → Bool)
    (lane k : ℕ) (g : Held) (rest : List ℕ) → IsBetweenSteps s past core lanes begun (g.place ∷ rest)
    → letting_go s past
    ≡ None → lane < length s.lanes
    → slice_get (lanes lane).grants k ≡ Some g → g.grant.id < 2 ^ 32 → opened_in (lanes lane).running ≢ Some g.place
    → ClosesDue s past core lanes begun lane k g rest
due_closed s past core lanes begun lane k g rest b letting there got small apart =
    let due : next_due s past ≡ Some g.place = next_due_first s past g.place rest letting b.due in
    let c : Closing s past core lanes begun lane k g = closing s past core lanes (g.place ∷ rest) begun lane k g b.good
    b.tied b.counted b.asks due there got small apart in
    let j : IsJournal s (close_of past g.place g.grant.id ∷ past) =
    subst (λ (e : Entry). IsJournal s (e ∷ past)) c.is c.good.run in
    record {
      due = due;
      must = c.must;
      next = c.next;
      between = record {
        good = c.good;
        due = subst (λ (e : Entry). AreDueGrants s (e ∷ past) rest) (sym c.is)
            (dues_close s past g.place g.grant.id rest letting b.due);
        tied = subst (λ (e : Entry). SessionTied s (e ∷ past) (let_go core g.grant)
            (with_lane lanes lane (closed_lane (lanes lane) k)) rest) (sym c.is)
            (closed_keeps s past core lanes (g.place ∷ rest) rest lane g.place k g.grant b.tied there j due
            (λ q ne out. out_more g.place q rest ne out) got);
        counted = c.counted;
        asks = c.asks;
        spends = closed_spends s past core lanes (g.place ∷ rest) lane k g b.tied there got b.spends;
      };
      work = c.work;
    }

-- Where none is due, the session is at rest.
pub none_due_rests : (s : Setting) (past : List Entry) (core : Core) (lanes : ℕ → LaneValue) (begun : ℕ → Bool)
    → IsBetweenSteps s past core lanes begun [] → letting_go s past ≡ None → AtRest s past core lanes begun
none_due_rests s past core lanes begun b letting = record { between = b; settled = none_next s past letting b.due }
