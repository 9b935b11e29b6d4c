-- Replies are heard one after another.
use Rattle.std.proofs.Common.{◌≡◌, ◌≢◌, ◌∙◌, refl, sym, ap, subst, ℕ, List, [], ◌∷◌, ◌++◌, Option, Some, None}
use Rattle.std.specs.List.{zip}
use Rattle.std.proofs.lemmas.List.{append_assoc}
use Rattle.sftp_model.specs.declared.answers.Expected.TheVariants as expected
use Rattle.sftp_model.specs.declared.error.Error.{Error}
use Rattle.sftp_model.specs.declared.reply.Reply.{Reply}
use Rattle.sftp_model.specs.declared.reply.Reply.TheVariants as reply
use Rattle.plan_model.specs.Moves.{Answers}
use Rattle.plan_window.specs.Windows.{answered_more, first_of, window_plan}
use Rattle.plan_window.specs.declared.window.ReadAt.{ReadAt}
use Rattle.plan_window.proofs.PlanLaws.{after_reply}
use Rattle.sftp_core.specs.Core.{Core, after_poll, record_at, reply_in}
use Rattle.sftp_core.specs.declared.id_record.IdRecord.{IdRecord}
use Rattle.sftp_core.proofs.Elsewhere.{poll_elsewhere}
use Rattle.plan_state.specs.Asked.{HoldsTicket, IsReady}
use Rattle.plan_state.specs.Keeping.{KeepsGrants}
use Rattle.plan_state.specs.declared.stage.Stage.TheVariants.{Asked}
use Rattle.plan_state.proofs.Keeping.{grants_both, keeps_same}
use Rattle.plan_state.proofs.OthersKept.{polled_keeps_grants}
use Rattle.plan_state.proofs.Sparing.{spares_both, spares_kept}
use Rattle.sftp_fs.proofs.OpenedWrites.{ready_polled}
use Rattle.sftp_fs_read.specs.Hearing.{IsOverFor, TakesReplies}
use Rattle.sftp_fs_read.specs.Reads.{EndsBy, IsWhyOver, ReadsValue, refusal_of}
use Rattle.sftp_fs_read.specs.Tickets.{AreUnderWay, IsNoneOf, TellsReads}
use Rattle.sftp_fs_read.proofs.TicketLaws.{heard_spares, others_under_way, taken_last}

pub hears_none : (core : Core) (s : ReadsValue) (tickets : List ℕ) → AreUnderWay core s.window.waiting tickets
    → IsReady core
    → TakesReplies core core s s tickets tickets
hears_none core s tickets h ready =
    record {
      done = [];
      split = refl;
      core = refl;
      rest = refl;
      under_way = h;
      ready = ready;
      spares = spares_kept core core (λ id. IsNoneOf id tickets) (keeps_same core);
      grants = (keeps_same core).grants;
      goes = λ answers tells. (tells, λ site later. refl);
    }

-- the first READ is under way under the first ticket
pub first_there : (core : Core) (waiting : List ReadAt) (ticket : ℕ) (left : List ℕ)
    → AreUnderWay core waiting (ticket ∷ left)
    → (r : ReadAt) × (rest : List ReadAt) × (waiting ≡ r ∷ rest)
first_there core [] ticket left h = absurd h
first_there core (r ∷ rest) ticket left h = (r, rest, refl)

pub first_some : (core : Core) (waiting : List ReadAt) (ticket : ℕ) (left : List ℕ)
    → AreUnderWay core waiting (ticket ∷ left)
    → first_of waiting ≢ None
first_some core [] ticket left h e = h
first_some core (r ∷ rest) ticket left h e = cc

pub first_held : (core : Core) (waiting : List ReadAt) (ticket : ℕ) (left : List ℕ)
    → AreUnderWay core waiting (ticket ∷ left)
    → (r : ReadAt) → first_of waiting ≡ Some r → HoldsTicket core ticket (expected.Content r.len)
first_held core [] ticket left h r e = absurd h
first_held core (q ∷ rest) ticket left h r e =
    let same : q ≡ r = cc in subst (λ (x : ReadAt). HoldsTicket core ticket (expected.Content x.len)) same h.0

tells_others : (core : Core) (ticket : ℕ) (answers : Answers) (reads : List ReadAt) (tickets : List ℕ)
    → IsNoneOf ticket tickets
    → TellsReads core answers reads tickets → TellsReads (after_poll core ticket) answers reads tickets
tells_others core ticket answers [] [] apart h = tt
tells_others core ticket answers [] (other ∷ later) apart h = absurd h
tells_others core ticket answers (r ∷ rest) [] apart h = absurd h
tells_others core ticket answers (r ∷ rest) (other ∷ later) apart h = (
  h.0 ∙ sym (ap (λ (p : Option IdRecord). reply_in p) (poll_elsewhere core ticket core.fault (record_at core ticket)
      other (λ e. apart.0 (sym e)))),
  tells_others core ticket answers rest later apart.1 h.1,
)

-- the first READ is one of those that are done
pub split_first : (done all : List (ℕ × ReadAt)) (ticket : ℕ) (r : ReadAt) (left : List ℕ) (waiting rest : List ReadAt)
    → waiting ≡ r ∷ rest → all ≡ done ++ zip (ticket ∷ left) waiting
    → all ≡ (done ++ (ticket, r) ∷ []) ++ zip left rest
split_first done all ticket r left waiting rest is split =
    split ∙ (ap (λ (l : List ReadAt). done ++ zip (ticket ∷ left) l) is
    ∙ sym (append_assoc done ((ticket, r) ∷ []) (zip left rest)))

-- one reply more
pub hears_more : (old core new : Core) (s now next : ReadsValue) (tickets : List ℕ) (ticket : ℕ) (left : List ℕ)
    (y : Reply)
    → TakesReplies old core s now tickets (ticket ∷ left) → reply_in (record_at core ticket) ≡ Some y
    → next ≡ record now { window = answered_more now.window y } → new ≡ after_poll core ticket
    → TakesReplies old new s next tickets left
hears_more old core new s now next tickets ticket left y h came is polled =
    let there = first_there core now.window.waiting ticket left h.under_way in
    let r : ReadAt = there.0 in
    let rest : List ReadAt = there.1 in
    let held : AreUnderWay core (r ∷ rest) (ticket ∷ left) =
    subst (λ (l : List ReadAt). AreUnderWay core l (ticket ∷ left)) there.2 h.under_way in
    let waits : next.window.waiting ≡ rest = ap (λ (x : ReadsValue). x.window.waiting) is
    ∙ ap (λ (l : List ReadAt). (answered_more (record { answered = now.window.answered; waiting = l }) y).waiting)
    there.2 in
    let first : first_of now.window.waiting ≡ Some r = ap (λ (l : List ReadAt). first_of l) there.2 in
    record {
      done = h.done ++ (ticket, r) ∷ [];
      split = split_first h.done (zip tickets s.window.waiting) ticket r left now.window.waiting rest there.2 h.split
          ∙ ap (λ (l : List ReadAt). (h.done ++ (ticket, r) ∷ []) ++ zip left l) (sym waits);
      core = taken_last old core new h.done ticket r h.core polled;
      rest = is ∙ ((λ i. record (h.rest i) { window = answered_more now.window y })
          ∙ (λ i. record s { window = (sym (ap (λ (x : ReadsValue). x.window) is)) i }));
      under_way = subst (λ (c : Core). AreUnderWay c next.window.waiting left) (sym polled)
          (subst (λ (l : List ReadAt). AreUnderWay (after_poll core ticket) l left) (sym waits)
          (others_under_way core ticket rest left held.1 held.2));
      ready = subst IsReady (sym polled) (ready_polled core (Asked ticket) h.ready);
      spares = spares_both old core new (λ id. IsNoneOf id tickets) (λ id. IsNoneOf id (ticket ∷ left))
          (λ id. IsNoneOf id left) h.spares
          (heard_spares core new ticket left held.0.counted polled);
      grants = grants_both old core new h.grants
          (subst (λ (c : Core). KeepsGrants core c) (sym polled) (polled_keeps_grants core ticket held.0.counted));
      goes = λ answers tells.
          (let g = h.goes answers tells in
          let here : TellsReads core answers (r ∷ rest) (ticket ∷ left) =
          subst (λ (l : List ReadAt). TellsReads core answers l (ticket ∷ left)) there.2 g.0 in (
            subst (λ (c : Core). TellsReads c answers next.window.waiting left) (sym polled)
                (subst (λ (l : List ReadAt). TellsReads (after_poll core ticket) answers l left) (sym waits)
                (tells_others core ticket answers rest left held.1 here.1)),
            λ site later. g.1 site later
                ∙ (after_reply s.handle None now.window site s.facts later answers r y first (here.0 ∙ came)
                ∙ ap (λ (x : ReadsValue). window_plan s.handle None x.window site s.facts later answers) (sym is)),
          ));
    }

-- ---- a refusal

pub over_for : (core : Core) (s : ReadsValue) (ticket : ℕ) (y : Reply) (e : Error)
    → reply_in (record_at core ticket) ≡ Some y → IsWhyOver s y e → IsOverFor core s ticket e
over_for core s ticket y e came why =
    subst (IsOverFor core s ticket) (sym why.0) (by_reply y came (subst (EndsBy s y) why.0 why.1))
  where
    by_reply : (y : Reply) → reply_in (record_at core ticket) ≡ Some y → EndsBy s y (refusal_of y)
        → IsOverFor core s ticket (refusal_of y)
    by_reply (reply.Status code message language) came ends = (reply.Status code message language, (came, ends))
    by_reply (reply.Version version extensions) came ends = (reply.Version version extensions, (came, ends))
    by_reply (reply.Handle handle) came ends = (reply.Handle handle, (came, ends))
    by_reply (reply.Content bytes) came ends = (reply.Content bytes, (came, ends))
    by_reply (reply.Names names) came ends = (reply.Names names, (came, ends))
    by_reply (reply.Attrs attrs) came ends = (reply.Attrs attrs, (came, ends))
    by_reply (reply.Extended content) came ends = (reply.Extended content, (came, ends))
