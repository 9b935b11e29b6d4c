-- What is sent and taken keeps a session at rest.
use Rattle.std.proofs.Common.{◌≡◌, ◌<◌, ℕ, Bool, true, false, List, [], ◌∷◌, Option, Some, None, refl, ap, sym, ◌∙◌, subst, arith, if◌then◌else◌, inl, inr}
use Rattle.std.proofs.lemmas.Bool.{eq-eqb}
use Rattle.std.proofs.lemmas.Bool.Decides.{nat_tests}
use Rattle.sftp_model.specs.declared.answers.Expected.{Expected}
use Rattle.sftp_model.specs.declared.reply.Reply.{Reply}
use Rattle.sftp_model.specs.declared.reply.Reply.TheVariants as reply
use Rattle.sftp_model.specs.declared.request.Request.TheVariants as request
use Rattle.sftp_model.specs.Answers.{allows_reply, expected_of, is_handle, may_answer}
use Rattle.sftp_core.specs.Core.{record_at, handed_out, Core}
use Rattle.sftp_core.specs.Table.{handle_in_reply}
use Rattle.sftp_core.specs.Take.{take_leaves}
use Rattle.sftp_core.specs.declared.id_record.IdRecord.{IdRecord}
use Rattle.sftp_core.specs.declared.id_record.IdRecord.TheVariants.{Waiting}
use Rattle.plan_model.specs.Moves.{handle_of}
use Rattle.session_model.specs.declared.event.Event.TheVariants.{Send, Submit, Take}
use Rattle.session_model.specs.declared.event.Owner.TheVariants as owner
use Rattle.session_model.specs.declared.entry.Entry.{Entry}
use Rattle.session_model.specs.declared.entry.Entry.TheVariants as entry
use Rattle.session_model.specs.Readings.{AskedRequest, asked_at, place_awaiting, count_sent, count_submitted}
use Rattle.session_model.specs.Calls.{Setting}
use Rattle.session_model.specs.Grants.{is_held, next_due}
use Rattle.session_model.specs.Ids.{IdState, Free, Pending, Replied, ReadsId, id_state}
use Rattle.session_model.specs.Journals.{IsFree, IsJournal, IsNext, MayTake, MustClose, close_of, goes_on, is_session_open}
use Rattle.session_model.specs.Steady.{IsCancellableRun}
use Rattle.session_model.proofs.CallLaws.{due_next, may_next}
use Rattle.session_model.proofs.IdLaws.{reads}
use Rattle.session_model.proofs.RequestLaws.{answer_new, asked_other, awaiting_take}
use Rattle.session_model.proofs.RunLaws.{good_plain}
use Rattle.session_laws.specs.Dues.{AreDueGrants}
use Rattle.session_laws.specs.Lanes.{SessionTied, among, grants_of, tickets_of, LaneValue}
use Rattle.session_laws.specs.Tables.{TableMatches, record_of_reply, stand}
use Rattle.session_laws.proofs.DueLaws.{dues_close, none_next, next_due_first}
use Rattle.session_laws.proofs.ReplyLaws.{taken_keeps, unwanted_keeps}
use Rattle.session_laws.proofs.RestLaws.{sent_dues, taken_dues, unheld_dues}
use Rattle.session_laws.proofs.TurnLaws.{sent_keeps}
use Rattle.session_laws.proofs.AskedLaws.{asks_on, unwanted_unheld, wanted_held}
use Rattle.session_laws.proofs.BudgetLaws.{spends_same}
use Rattle.session_laws.proofs.KeptLaws.{kept_sent, kept_taken}
use Rattle.session_laws.proofs.CameLaws.{borne_small, came_by, limits_goes, no_limits}
use Rattle.session_laws.proofs.CountedLaws.{counted_send, counted_take, counted_take_drop, weigh_send, weigh_take}
use Rattle.std.specs.Prelude.{◌⊎◌}
use Rattle.session_laws.specs.Rest.{AtRest}
use Rattle.session_laws.specs.Exchanges.{IsAwaited, SendsQueue, TakesAndCloses}

-- ---- what was queued is sent

pub sends_keep : (s : Setting) (past : List Entry) (core : Core) (lanes : ℕ → LaneValue) (begun : ℕ → Bool)
    → AtRest s past core lanes begun → count_sent past < count_submitted past → SendsQueue s past core lanes begun
sends_keep s past core lanes begun h some =
    let e : Entry = entry.Event Send in
    let b = h.between in
    let next : IsNext s past e = may_next s past e b.good.calm h.settled some in
    let due : AreDueGrants s (e ∷ past) [] = sent_dues s past [] b.due in
    record {
      next = next;
      rest = record {
        between = record {
          good = good_plain s past begun e b.good next tt;
          due = due;
          tied = sent_keeps s past core lanes [] b.tied;
          counted = counted_send past core b.counted;
          spends = spends_same s past (e ∷ past) core (handed_out core) lanes lanes (λ l lt. refl) (kept_sent core)
              b.spends;
          asks = λ lane lt. asks_on past (e ∷ past) lane (lanes lane) (λ p below. refl)
              (b.tied.each lane lt).goes.awaits (b.asks lane lt);
        };
        settled = none_next s (e ∷ past) refl due;
      };
      work = weigh_send core;
    }

-- ---- the request that a reply answers

-- The last request under the id was sent and has no reply; places that pass are wanted.
pub record Pends (past : List Entry) (wanted_at : ℕ → Bool) (id : ℕ) (kind : Expected) (wanted : Bool) : Type 0 where
  pub place : ℕ
  pub asked : AskedRequest
  pub state : id_state past id ≡ Pending place asked true
  pub kind_is : kind ≡ expected_of asked.request
  pub wanted_is : wanted ≡ wanted_at place

replied_waits : (w g : Bool) (e kind : Expected) (r : Reply) (wanted : Bool) → record_of_reply w g e r
    ≡ Some (Waiting kind true wanted) → ⊥
replied_waits true g e kind r wanted h = absurd cc
replied_waits false true e kind (reply.Handle handle) wanted h = absurd cc
replied_waits false true e kind (reply.Version version extensions) wanted h = absurd cc
replied_waits false true e kind (reply.Status code message language) wanted h = absurd cc
replied_waits false true e kind (reply.Content content) wanted h = absurd cc
replied_waits false true e kind (reply.Names names) wanted h = absurd cc
replied_waits false true e kind (reply.Attrs attrs) wanted h = absurd cc
replied_waits false true e kind (reply.Extended content) wanted h = absurd cc
replied_waits false false e kind r wanted h = absurd cc

pub pends_by : (past : List Entry) (w g : ℕ → Bool) (table : ℕ → Option IdRecord) (id : ℕ) (kind : Expected)
    (wanted : Bool) → TableMatches past w g table → table id ≡ Some (Waiting kind true wanted)
    → Pends past w id kind wanted
pends_by past w g table id kind wanted t here = by_state (id_state past id) refl (sym (t id) ∙ here)
  where
    by_state : (x : IdState) → id_state past id ≡ x → stand w g x ≡ Some (Waiting kind true wanted)
        → Pends past w id kind wanted
    by_state Free is e = absurd cc
    by_state (Pending p a b) is e =
        let sent_is : b ≡ true = cc in
        record {
          place = p;
          asked = a;
          state = is ∙ ap (λ (x : Bool). Pending p a x) sent_is;
          kind_is = cc;
          wanted_is =
              cc;
        }
    by_state (Replied p a r) is e = absurd (replied_waits (w p) (g p) (expected_of a.request) kind r wanted e)

-- the reply may be taken
pub may_take : (s : Setting) (past : List Entry) (w : ℕ → Bool) (id : ℕ) (r : Reply) (kind : Expected) (wanted : Bool)
    → IsJournal s past → is_session_open s past ≡ true → Pends past w id kind wanted → allows_reply kind r ≡ true
    → MayTake past id r
may_take s past w id r kind wanted run ready p allowed =
    let read = subst (ReadsId past id) p.state (reads past id) in
    let there : asked_at past p.place ≡ Some p.asked = read.3 in
    let below : p.place < count_sent past = (let is = read.2 in grind (arith, nat_tests)) in
    let may : may_answer p.asked.request r ≡ true = ap (λ e. allows_reply e r) (sym p.kind_is) ∙ allowed in
    let goes : goes_on (expected_of p.asked.request) r ≡ true =
    limits_goes (expected_of p.asked.request) r (no_limits s past p.place p.asked ready read.1 p.asked.by
    (came_by s past p.place p.asked run there)) in
    (p.place, ((read.0, below, read.1), rw there (may, goes)))

plain_handle : (r : Reply) → is_handle r ≡ true → handle_in_reply r ≡ None → ⊥
plain_handle (reply.Handle h) e none = absurd cc
plain_handle other e none = absurd cc

-- ---- a reply that is wanted, or brings no handle

pub replies_keep : (s : Setting) (past : List Entry) (core : Core) (lanes : ℕ → LaneValue) (begun : ℕ → Bool) (id : ℕ)
    (r : Reply) → AtRest s past core lanes begun → (x : IsAwaited core id r) → (x.wanted ≡ true)
    ⊎ (handle_in_reply r ≡ None)
    → TakesAndCloses s past core lanes begun id r (entry.Event (Take id r) ∷ past)
replies_keep s past core lanes begun id r h x how =
    let e : Entry = entry.Event (Take id r) in
    let b = h.between in
    let w : ℕ → Bool = among past (tickets_of lanes) in
    let p : Pends past w id x.kind x.wanted = pends_by past w (among past (grants_of lanes)) (record_at core) id x.kind
    x.wanted b.tied.table x.here in
    let may : MayTake past id r = may_take s past w id r x.kind x.wanted b.good.run b.good.ready p x.allowed in
    let next : IsNext s past e = may_next s past e b.good.calm h.settled (may, b.good.unkept) in
    let wanted : is_handle r ≡ true → w p.place ≡ true = λ brought. elim how
    [ inl is ↦ sym p.wanted_is ∙ is | inr none ↦ absurd (plain_handle r brought none) ] in
    let there : asked_at past p.place ≡ Some p.asked = (subst (ReadsId past id) p.state (reads past id)).3 in
    let allowed : may_answer p.asked.request r ≡ true = ap (λ y. allows_reply y r) (sym p.kind_is) ∙ x.allowed in
    let due : AreDueGrants s (e ∷ past) [] =
    taken_dues s past id p.place p.asked true r p.state (λ brought. wanted_held s past core lanes [] p.place p.asked r
    b.good.run b.tied b.asks there allowed brought (wanted brought)) b.due in
    record {
      may = may;
      next = next;
      closes = inl refl;
      rest = record {
        between = record {
          good = good_plain s past begun e b.good next tt;
          due = due;
          tied = taken_keeps s past core lanes id p.place p.asked true r b.tied b.good.run p.state wanted;
          counted = counted_take past core id r x.kind x.wanted x.here may how b.counted;
          spends = spends_same s past (e ∷ past) core (take_leaves core id r (record_at core id)) lanes lanes
              (λ l lt. refl) (kept_taken core id r) b.spends;
          asks = λ lane lt. asks_on past (e ∷ past) lane (lanes lane) (λ q below. refl)
              (b.tied.each lane lt).goes.awaits (b.asks lane lt);
        };
        settled = none_next s (e ∷ past) refl due;
      };
      work = weigh_take core id r x.kind x.wanted x.here x.allowed;
    }

-- ---- a HANDLE that no lane wants

pub unwanted_closed : (s : Setting) (past : List Entry) (core : Core) (lanes : ℕ → LaneValue) (begun : ℕ → Bool)
    (id : ℕ) (handle : List ℕ) → AtRest s past core lanes begun → (x : IsAwaited core id (reply.Handle handle))
    → x.wanted ≡ false
    → TakesAndCloses s past core lanes begun id (reply.Handle handle)
    (entry.Event (Submit owner.Close id (request.Close handle))
    ∷ entry.Event (Take id (reply.Handle handle)) ∷ past)
unwanted_closed s past core lanes begun id handle h x unwanted =
    let r : Reply = reply.Handle handle in
    let e : Entry = entry.Event (Take id r) in
    let mid : List Entry = e ∷ past in
    let close : Entry = entry.Event (Submit owner.Close id (request.Close handle)) in
    let now : List Entry = close ∷ mid in
    let b = h.between in
    let w : ℕ → Bool = among past (tickets_of lanes) in
    let p : Pends past w id x.kind x.wanted = pends_by past w (among past (grants_of lanes)) (record_at core) id x.kind
    x.wanted b.tied.table x.here in
    let may : MayTake past id r = may_take s past w id r x.kind x.wanted b.good.run b.good.ready p x.allowed in
    let next : IsNext s past e = may_next s past e b.good.calm h.settled (may, b.good.unkept) in
    let good : IsCancellableRun s mid begun = good_plain s past begun e b.good next tt in
    let read = subst (ReadsId past id) p.state (reads past id) in
    let none_wants : w p.place ≡ false = sym p.wanted_is ∙ unwanted in
    let unheld : is_held s past p.place ≡ false = unwanted_unheld s past core lanes [] p.place b.good.run b.tied read.1
    none_wants in
    let unheld : AreDueGrants s mid (p.place ∷ []) = unheld_dues s past id p.place p.asked true r b.good.run p.state
    refl unheld b.due in
    let next_due_is : next_due s mid ≡ Some p.place = next_due_first s mid p.place [] refl unheld in
    let close_is : close ≡ close_of mid p.place id = ap (λ (x : List ℕ). entry.Event
    (Submit owner.Close id (request.Close x))) (sym (ap handle_of (answer_new past id p.place r read.0))) in
    let free : IsFree mid id = (
      borne_small s past id p.place b.good.run read.0,
      awaiting_take past id p.place r id read.0 ∙ ap (λ (t : Bool). if t then None else place_awaiting past id)
          (eq-eqb id id refl),
    ) in
    let must : MustClose mid p.place close = (id, (free, close_is)) in
    let last : IsNext s mid close = due_next s mid p.place close refl next_due_is must in
    let run : IsJournal s (close_of mid p.place id ∷ mid) = subst (λ (y : Entry). IsJournal s (y ∷ mid)) close_is
    (last, good.run) in
    let due : AreDueGrants s now [] = subst (λ (y : Entry). AreDueGrants s (y ∷ mid) []) (sym close_is)
    (dues_close s mid p.place id [] refl unheld) in
    let here : record_at core id ≡ Some (Waiting x.kind true false) = x.here
    ∙ ap (λ (y : Bool). Some (Waiting x.kind true y)) unwanted in
    record {
      may = may;
      next = next;
      closes = inr ((p.place, (next_due_is, must)), inl refl);
      rest = record {
        between = record {
          good = good_plain s mid begun close good last tt;
          due = due;
          tied = subst (λ (y : Entry). SessionTied s (y ∷ mid) (take_leaves core id r (record_at core id)) lanes [])
              (sym close_is)
              (unwanted_keeps s past core lanes id p.place p.asked true handle b.tied run p.state none_wants
              next_due_is);
          counted = counted_take_drop past core id r x.kind handle here may refl b.counted;
          spends = spends_same s past now core (take_leaves core id r (record_at core id)) lanes lanes (λ l lt. refl)
              (kept_taken core id r) b.spends;
          asks = λ lane lt. asks_on past now lane (lanes lane) (λ q below. asked_other mid owner.Close id q
              (request.Close handle) below) (b.tied.each lane lt).goes.awaits (b.asks lane lt);
        };
        settled = none_next s now refl due;
      };
      work = weigh_take core id r x.kind x.wanted x.here x.allowed;
    }
