-- What lanes await, behind entries that are none of theirs.
use Rattle.std.proofs.Common.{◌≡◌, ◌≢◌, ◌<◌, ◌≤◌, ◌==◌, ℕ, true, false, List, Option, Some, None, refl, ap, sym, ◌∙◌, subst, inl, inr}
use Rattle.std.specs.Prelude.{length}
use Rattle.std.proofs.lemmas.Bool.{eq-eqb, false_from_ne_true, or_cases}
use Rattle.sftp_model.specs.declared.reply.Reply.{Reply}
use Rattle.sftp_model.specs.Answers.{is_handle, may_answer}
use Rattle.sftp_model.specs.Slots.{has_grant}
use Rattle.sftp_core.specs.Core.{Core}
use Rattle.plan_runner.specs.declared.next.Running.{Running}
use Rattle.plan_runner.specs.Asking.{IsAmong as IsReadAmong}
use Rattle.plan_runner.specs.Pending.{own_place, pends, reads_under}
use Rattle.plan_window.specs.declared.window.ReadAt.{ReadAt}
use Rattle.session_model.specs.declared.event.Owner.{Owner}
use Rattle.session_model.specs.declared.event.Owner.TheVariants as owner
use Rattle.session_model.specs.declared.entry.Entry.{Entry}
use Rattle.session_model.specs.Readings.{AskedRequest, answer, count_submitted, asked_at, count_ended, own}
use Rattle.session_model.specs.Calls.{Setting, current, held_site, site_of}
use Rattle.session_model.specs.Grants.{holds, is_asked_by, is_grant, is_granted, is_held, is_unended_asker}
use Rattle.session_model.specs.Journals.{IsJournal}
use Rattle.session_model.proofs.GrantLaws.{any_none, any_passes}
use Rattle.session_model.proofs.HolderLaws.{slots_owned}
use Rattle.session_model.proofs.PlannedLaws.{held_less}
use Rattle.session_laws.specs.Lanes.{LaneValue, SessionTied, among, by_asker, by_owner, is_of, ticket_places, tickets_for, tickets_of}
use Rattle.session_laws.specs.Places.{is_in}
use Rattle.session_laws.proofs.HoldLaws.{asker_holds, of_in}
use Rattle.session_laws.proofs.OrderLaws.{asked_below}
use Rattle.session_laws.proofs.PendLaws.{awaited_has}
use Rattle.session_laws.proofs.PollLaws.{among_self}
use Rattle.session_laws.proofs.TakeDues.{asker_there}
use Rattle.session_laws.specs.Rest.{IsReadAt, IsTransferAt, LaneAsks, awaited_in, opened_in}
use Rattle.session_laws.proofs.TransferLaws.{place_below, transfer_on, transfer_plain, transfer_ungranted}

-- ---- entries that are none of the lane's

-- what a lane has a ticket of was asked for,
ticket_below : (past : List Entry) (lane p : ℕ) (v : LaneValue) → LaneAsks past lane v
    → is_in p (ticket_places v.tickets) ≡ true → p < count_submitted past
ticket_below past lane p v a has = elim (a.only p has) [
  | inl mine ↦ asked_below past p lane v.ended (a.current p mine)
  | inr t ↦ place_below past p t.asked t.here
]

-- and so was what it goes on with
awaited_below : (past : List Entry) (lane p : ℕ) (v : LaneValue) → LaneAsks past lane v
    → ((q : ℕ) → pends q v.running v.site ≤ tickets_for (ticket_places v.tickets) q) → awaited_in v.running v.site
    ≡ Some p → p < count_submitted past
awaited_below past lane p v a awaits looks = by_running v.running refl looks
  where
    by_running : (x : Option Running) → v.running ≡ x → awaited_in x v.site ≡ Some p → p < count_submitted past
    by_running None is at = absurd cc
    by_running (Some r) is at =
        ticket_below past lane p v a (awaited_has r v.site (ticket_places v.tickets) p
        (subst (λ (x : Option Running). (q : ℕ) → pends q x v.site ≤ tickets_for (ticket_places v.tickets) q) is
        awaits) at)

-- a READ stands where it stood
pub read_on : (past now : List Entry) (x : ReadAt) → ((p : ℕ) → p < count_submitted past → asked_at now p
    ≡ asked_at past p) → IsReadAt past x → IsReadAt now x
read_on past now x same t = record {
  asked = t.asked;
  here = same x.place (place_below past x.place t.asked t.here)
      ∙ t.here;
  handle = t.handle;
  reads = t.reads;
}

-- the requests before stay as they were, and so does what a lane awaits that has a ticket of it
pub asks_on : (past now : List Entry) (lane : ℕ) (v : LaneValue)
    → ((p : ℕ) → p < count_submitted past → asked_at now p ≡ asked_at past p)
    → ((q : ℕ) → pends q v.running v.site ≤ tickets_for (ticket_places v.tickets) q) → LaneAsks past lane v
    → LaneAsks now lane v
asks_on past now lane v same awaits a =
    record {
      current = λ p mine. ap (λ x. is_asked_by x lane v.ended) (same p
          (asked_below past p lane v.ended (a.current p mine))) ∙ a.current p mine;
      only = λ p has. elim (a.only p has) [ inl mine ↦ inl mine | inr t ↦ inr (transfer_on past now p same t) ];
      keeps = a.keeps;
      fits = λ p x y at is may. a.fits p x y at (sym (same p (awaited_below past lane p v a awaits at)) ∙ is) may;
      reads = λ x among. read_on past now x same (a.reads x among);
    }

-- ---- whose request a ticket is of

-- the call's own request is one of the call that has not ended
pub awaits_own : (past : List Entry) (lane p : ℕ) (v : LaneValue) → v.ended ≡ count_ended past lane
    → LaneAsks past lane v
    → own_place v.running ≡ Some p → is_unended_asker past lane p ≡ true
awaits_own past lane p v ends a mine = ap (λ (n : ℕ). is_asked_by (asked_at past p) lane n) (sym ends)
    ∙ a.current p mine

-- a ticket that has a HANDLE is that of the call's own request,
pub granted_own : (s : Setting) (past : List Entry) (lane p : ℕ) (v : LaneValue) → IsJournal s past
    → LaneAsks past lane v → is_in p (ticket_places v.tickets) ≡ true → is_grant past p ≡ true → own_place v.running
    ≡ Some p
granted_own s past lane p v j a has grant = elim (a.only p has) [
  | inl mine ↦ mine
  | inr t ↦ absurd (let clash : false ≡ true = sym (transfer_ungranted s past p j t) ∙ grant in cc)
]

-- and so is one that a HANDLE may come for
pub handled_own : (past : List Entry) (lane p : ℕ) (v : LaneValue) (x : AskedRequest) (r : Reply) → LaneAsks past lane v
    → is_in p (ticket_places v.tickets) ≡ true → asked_at past p ≡ Some x → may_answer x.request r ≡ true → is_handle r
    ≡ true → own_place v.running ≡ Some p
handled_own past lane p v x r a has is may brought = elim (a.only p has) [
  | inl mine ↦ mine
  | inr t ↦ absurd (let both : ◌≡◌ {A = Option AskedRequest} (Some x) (Some t.asked) = sym is ∙ t.here in
      let same : x ≡ t.asked = cc in
      let plain : is_handle r ≡ false = transfer_plain t.asked.request r t.transfers
      (ap (λ (y : AskedRequest). may_answer y.request r) (sym same) ∙ may) in
      let clash : false ≡ true = sym plain ∙ brought in cc)
]

-- each other is that of a READ or a WRITE
pub other_transfers : (past : List Entry) (lane p : ℕ) (v : LaneValue) → LaneAsks past lane v
    → own_place v.running ≢ Some p → is_in p (ticket_places v.tickets) ≡ true → IsTransferAt past p
other_transfers past lane p v a ne has = elim (a.only p has) [ inl mine ↦ absurd (ne mine) | inr t ↦ t ]

-- ---- a lane that runs no call

-- where a call has no request of its own none is at a place
pub none_own : (running : Option Running) (p : ℕ) → own_place running ≡ None → own_place running ≢ Some p
none_own running p none mine = (let clash : ◌≡◌ {A = Option ℕ} None (Some p) = sym none ∙ mine in cc)

-- what a lane without a call has tickets of are READs and WRITEs
pub idle_transfers : (past : List Entry) (lane p : ℕ) (v : LaneValue) → v.running ≡ None → LaneAsks past lane v
    → is_in p (ticket_places v.tickets) ≡ true → IsTransferAt past p
idle_transfers past lane p v idle a has = other_transfers past lane p v a (none_own v.running p (ap own_place idle)) has

-- and no more is asked of it
pub idle_asks : (past : List Entry) (lane : ℕ) (v : LaneValue) → v.running ≡ None
    → ((p : ℕ) → is_in p (ticket_places v.tickets) ≡ true → IsTransferAt past p) → LaneAsks past lane v
idle_asks past lane v idle all =
    record {
      current = λ p mine. absurd (none_own v.running p (ap own_place idle) mine);
      only = λ p has. inr (all p has);
      keeps = λ g is. absurd (let clash : ◌≡◌ {A = Option ℕ} None (Some g) = ap opened_in (sym idle) ∙ is in cc);
      fits = λ p x y at is may. absurd (let clash : ◌≡◌ {A = Option ℕ} None (Some p) =
          ap (λ (r : Option Running). awaited_in r v.site) (sym idle) ∙ at in cc);
      reads = λ x among. absurd (subst (λ (r : Option Running). IsReadAmong x (reads_under r)) idle among);
    }

-- ---- wanted places

-- the lane that asked for a place has it among these
pub record IsAmong (past : List Entry) (places : ℕ → List ℕ) (p : ℕ) : Type 0 where
  pub lane : ℕ
  pub request : AskedRequest
  pub at : asked_at past p ≡ Some request
  pub mine : is_of request.by lane ≡ true
  pub here : is_in p (places lane) ≡ true

pub among_where : (past : List Entry) (places : ℕ → List ℕ) (p : ℕ) → among past places p ≡ true → IsAmong past places p
among_where past places p e = by_state (asked_at past p) refl e
  where
    is_self : (l : ℕ) → (l == l) ≡ true
    is_self l = eq-eqb l l refl

    by_who : (a : AskedRequest) → asked_at past p ≡ Some a → (o : Owner) → a.by ≡ o
        → by_owner o (λ l. is_in p (places l)) ≡ true → IsAmong past places p
    by_who a at (owner.Call l c) is here = record {
      lane = l;
      request = a;
      at = at;
      mine =
          ap (λ (x : Owner). is_of x l) is ∙ is_self l;
      here = here;
    }
    by_who a at owner.Setup is here = absurd cc
    by_who a at owner.Close is here = absurd cc

    by_state : (x : Option AskedRequest) → asked_at past p ≡ x → by_asker x (λ l. is_in p (places l)) ≡ true
        → IsAmong past places p
    by_state None at here = absurd cc
    by_state (Some a) at here = by_who a at a.by refl here

-- a lane's call holds the HANDLE that it awaits
pub wanted_held : (s : Setting) (past : List Entry) (core : Core) (lanes : ℕ → LaneValue) (dues : List ℕ) (p : ℕ)
    (x : AskedRequest) (r : Reply) → IsJournal s past → SessionTied s past core lanes dues
    → ((lane : ℕ) → lane < length s.lanes → LaneAsks past lane (lanes lane))
    → asked_at past p ≡ Some x → may_answer x.request r ≡ true → is_handle r ≡ true → among past (tickets_of lanes) p
    ≡ true → is_held s past p ≡ true
wanted_held s past core lanes dues p x r j h asks is may brought wanted =
    let w : IsAmong past (tickets_of lanes) p = among_where past (tickets_of lanes) p wanted in
    let there : w.lane < length s.lanes = asker_there s past p w.lane w.request j w.at w.mine in
    let a : LaneAsks past w.lane (lanes w.lane) = asks w.lane there in
    let mine : own_place (lanes w.lane).running ≡ Some p = handled_own past w.lane p (lanes w.lane) x r a w.here is may
    brought in
    any_passes (holds s past p) (length s.lanes) w.lane there (asker_holds s past p w.lane
    (awaits_own past w.lane p (lanes w.lane) (h.each w.lane there).ends a mine))

-- a reply that no lane wants is held by none
pub unwanted_unheld : (s : Setting) (past : List Entry) (core : Core) (lanes : ℕ → LaneValue) (dues : List ℕ) (p : ℕ)
    → IsJournal s past → SessionTied s past core lanes dues → answer past p ≡ None → among past (tickets_of lanes) p
    ≡ false
    → is_held s past p ≡ false
unwanted_unheld s past core lanes dues p j h none unwanted =
    any_none (holds s past p) (length s.lanes) (λ w lt. false_from_ne_true (holds s past p w)
    (λ has. elim (or_cases (has_grant (held_site s past w) p) (is_unended_asker past w p) has) [
      | inl slot ↦ (let owned = slots_owned s past w p j (held_less (current s past w) (own past w (count_ended past w))
          (site_of s past w) p slot) in
          let clash : false ≡ true = sym (ap is_granted none) ∙ owned.0 in absurd cc)
      | inr asks ↦ (let l = h.each w lt in
          let here : is_in p (tickets_of lanes w) ≡ true = l.holds.asks p asks none in
          let mine = of_in past w (tickets_of lanes w) p l.holds.tied_of here in
          let clash : false ≡ true = sym unwanted ∙ (among_self past (tickets_of lanes) w p mine.0 mine.1.0 mine.1.1
          ∙ here) in absurd cc)
    ]))
