-- A call brings one handle, by its first request: so a handle that comes stands behind the grants of its lane.
use Rattle.std.proofs.Common.{◌≡◌, ◌≢◌, ◌<◌, ◌≤◌, ◌==◌, ℕ, true, false, List, [], ◌∷◌, Option, Some, None, refl, ap, sym, ◌∙◌, subst, arith, inl, inr}
use Rattle.std.specs.Prelude.{◌&&◌}
use Rattle.std.proofs.lemmas.Bool.Decides.{eqb_tells, leb_tells}
use Rattle.sftp_model.specs.declared.answers.Expected.{Expected}
use Rattle.sftp_model.specs.declared.reply.Reply.{Reply}
use Rattle.sftp_model.specs.declared.request.Request.{Request}
use Rattle.sftp_model.specs.declared.slot.Facts.{Facts}
use Rattle.sftp_model.specs.declared.slot.Move.TheVariants.{Ask}
use Rattle.sftp_model.specs.declared.slot.Site.{Site}
use Rattle.sftp_model.specs.Answers.{allows_reply, expected_of, is_handle}
use Rattle.plan_model.specs.GoodMoves.{IsGoodAsk, ReadsWithin, WithinRange, situation}
use Rattle.plan_model.specs.Moves.{Answers, Own}
use Rattle.plan_model.proofs.CallLaws.{asks_good}
use Rattle.plan_model.specs.declared.call.Call.{Call}
use Rattle.session_model.specs.declared.event.Owner.{Owner}
use Rattle.session_model.specs.declared.event.Event.TheVariants.{Submit, Take}
use Rattle.session_model.specs.declared.entry.Entry.{Entry}
use Rattle.session_model.specs.Readings.{AskedRequest, answer, count_submitted, asked_at, count_ended, is_by, own}
use Rattle.session_model.specs.Calls.{Setting, current, move_at, site_of}
use Rattle.session_model.specs.Grants.{is_asked_by, is_grant, is_granted, is_unended_asker}
use Rattle.session_model.specs.Journals.{IsJournal, MayReply}
use Rattle.session_model.proofs.CallLaws.{asker_owns, has_place, next_submit, next_take, own_fresh}
use Rattle.session_model.proofs.RequestLaws.{answer_beyond, answer_new, answer_other}
use Rattle.session_laws.specs.Lanes.{grant_places, is_of, ticket_places, LaneTied, LaneValue}
use Rattle.session_laws.specs.Places.{is_in, IsBelow}
use Rattle.session_laws.proofs.OrderLaws.{asked_below, newer_grants}
use Rattle.session_laws.proofs.HoldLaws.{of_in}
use Rattle.sftp_model.specs.declared.answers.Expected.TheVariants as expected
use Rattle.sftp_model.specs.declared.reply.Reply.TheVariants as reply
use Rattle.sftp_model.specs.declared.request.Request.TheVariants as request
use Rattle.plan_model.specs.declared.call.Call.TheVariants as call
use Rattle.session_model.specs.declared.event.Owner.TheVariants as owner
use Rattle.session_model.specs.declared.entry.Entry.TheVariants as entry
use Rattle.plan_model.specs.CallPlans.{next}
use Rattle.sftp_core.specs.Core.{record_at}

-- ---- what a HANDLE answers

handle_expected : (e : Expected) (r : Reply) → is_handle r ≡ true → allows_reply e r ≡ true → e ≡ expected.Handle
handle_expected expected.Handle (reply.Handle handle) is may = refl
handle_expected expected.Version (reply.Handle handle) is may = absurd cc
handle_expected (expected.Content len) (reply.Handle handle) is may = absurd cc
handle_expected expected.Names (reply.Handle handle) is may = absurd cc
handle_expected expected.FirstName (reply.Handle handle) is may = absurd cc
handle_expected expected.Attrs (reply.Handle handle) is may = absurd cc
handle_expected expected.Limits (reply.Handle handle) is may = absurd cc
handle_expected expected.Status (reply.Handle handle) is may = absurd cc
handle_expected e other is may = absurd cc

-- the request of a grant asks for a handle
pub grant_expected : (s : Setting) (past : List Entry) (p : ℕ) (a : AskedRequest) → IsJournal s past → is_grant past p
    ≡ true
    → asked_at past p ≡ Some a → expected_of a.request ≡ expected.Handle
grant_expected s [] p a j grant is = absurd cc
grant_expected s (entry.Event (Submit by id r) ∷ past) p a j grant is = elim (eqb_tells p (count_submitted past)) [
  | inl t ↦ absurd (let none : answer past p ≡ None = answer_beyond past p (omega (arith, t.1)) in let clash : false
      ≡ true = sym (ap is_granted none) ∙ grant in cc)
  | inr t ↦ grant_expected s past p a j.1 grant (rw t.0 at is)
]
grant_expected s (entry.Event (Take id r) ∷ past) p a j grant is =
    let may = (next_take s past id r j.0).0 in
    elim (eqb_tells may.0 p) [
      | inl t ↦ (let came : answer (entry.Event (Take id r) ∷ past) p ≡ Some r =
          ap (answer (entry.Event (Take id r) ∷ past)) (sym t.1) ∙ answer_new past id may.0 r may.1.0.0 in
          let brought : is_handle r ≡ true = sym (ap is_granted came) ∙ grant in
          let replies : MayReply (Some a) r = subst (λ (o : Option AskedRequest). MayReply o r)
          (ap (asked_at past) t.1 ∙ is) may.1.1 in
          handle_expected (expected_of a.request) r brought replies.0)
      | inr t ↦ grant_expected s past p a j.1 (sym (ap is_granted (answer_other past id may.0 p r may.1.0.0 t.1))
          ∙ grant) is
    ]
grant_expected s (_ ∷ past) p a j grant is = grant_expected s past p a j.1 grant is

-- ---- a request for a handle is its call's first

-- such a request is no READ
handle_within : (c : Call) (site : Site) (facts : Facts) (mine : Own) (answers : Answers) (r : Request) → expected_of r
    ≡ expected.Handle → next c site facts mine answers ≡ Ask r → WithinRange c site facts mine answers
handle_within (call.FsRead path bound) site facts mine answers r e is = subst (ReadsWithin facts) (sym is) (no_read r e)
  where
    no_read : (q : Request) → expected_of q ≡ expected.Handle → ReadsWithin facts (Ask q)
    no_read (request.Read handle offset len) e = absurd cc
    no_read other e = tt
handle_within other site facts mine answers r e is = tt

good_first : (c : Call) (site : Site) (facts : Facts) (mine : Own) (answers : Answers) (r : Request) → expected_of r
    ≡ expected.Handle → IsGoodAsk (situation c site facts mine answers) r → mine ≡ []
good_first c site facts mine answers (request.OpenFile path flags attrs) e good = good.0
good_first c site facts mine answers (request.Opendir path) e good = good.0
good_first c site facts mine answers other e good = absurd cc

handle_first : (s : Setting) (past : List Entry) (lane n id : ℕ) (r : Request)
    → IsJournal s (entry.Event (Submit (owner.Call lane n) id r) ∷ past) → expected_of r ≡ expected.Handle
    → own past lane (count_ended past lane) ≡ []
handle_first s past lane n id r j e = by_call (current s past lane) (next_submit s past lane n id r j.0).1
  where
    mine : Own
    mine = own past lane (count_ended past lane)

    by_call : (c : Option Call) → move_at c (site_of s past lane) s.facts mine (answer past) ≡ Some (Ask r) → mine ≡ []
    by_call None is = absurd cc
    by_call (Some c) is =
        let asks : next c (site_of s past lane) s.facts mine (answer past) ≡ Ask r = cc is in
        good_first c (site_of s past lane) s.facts mine (answer past) r e
        (asks_good c (site_of s past lane) s.facts mine (answer past) r
        (handle_within c (site_of s past lane) s.facts mine (answer past) r e asks) asks)

-- a call's request for a handle stands before its others
pub first_stands : (s : Setting) (past : List Entry) (lane c p q : ℕ) (a : AskedRequest) → IsJournal s past
    → asked_at past p
    ≡ Some a → expected_of a.request ≡ expected.Handle → is_asked_by (asked_at past p) lane c ≡ true
    → is_asked_by (asked_at past q) lane c ≡ true → p ≤ q
first_stands s [] lane c p q a j is e x y = absurd cc
first_stands s (entry.Event (Submit o id r) ∷ past) lane c p q a j is e x y =
    elim (eqb_tells q (count_submitted past)) [
      | inl t ↦ elim (eqb_tells p (count_submitted past)) [
        | inl u ↦ (let here : p ≡ count_submitted past = u.1 in let there : q ≡ count_submitted past = t.1 in
            omega (arith, here, there))
        | inr u ↦ (let below : p < count_submitted past = asked_below past p lane c (rw u.0 at x) in let there : q
            ≡ count_submitted past = t.1 in omega (arith, below, there))
      ]
      | inr t ↦ elim (eqb_tells p (count_submitted past)) [
        | inl u ↦ absurd (by_owner_of o j (the_request (record { by = o; id = id; request = r }) (rw u.0 at is))
            (rw u.0 at x) (asker_owns past lane c q (rw t.0 at y)))
        | inr u ↦ first_stands s past lane c p q a j.1 (rw u.0 at is) e (rw u.0 at x) (rw t.0 at y)
      ]
    ]
  where
    the_request : (b : AskedRequest) → (◌≡◌ {A = Option AskedRequest} (Some b) (Some a)) → expected_of b.request
        ≡ expected.Handle
    the_request b same = (let one : b ≡ a = cc in ap (λ (z : AskedRequest). expected_of z.request) one ∙ e)

    both : (m n k : ℕ) → ((m == lane) && (n == k)) ≡ true → (m ≡ lane) × (n ≡ k)
    both m n k h = elim (eqb_tells m lane) [
      | inl v ↦ elim (eqb_tells n k) [
        | inl w ↦ (v.1, w.1)
        | inr w ↦
            absurd (let clash : false ≡ true = rw (v.0, w.0) at h in cc)
      ]
      | inr v ↦ absurd (let clash : false ≡ true = rw v.0 at h in cc)
    ]

    by_owner_of : (b : Owner) → IsJournal s (entry.Event (Submit b id r) ∷ past) → expected_of r ≡ expected.Handle
        → is_by b lane c ≡ true → has_place (own past lane c) q ≡ true → ⊥
    by_owner_of (owner.Call m n) jb er mine has =
        let same = both m n c mine in
        let now : n ≡ count_ended past m = (next_submit s past m n id r jb.0).0 in
        let none : own past m (count_ended past m) ≡ [] = handle_first s past m n id r jb er in
        let empty : own past lane c ≡ [] = subst (λ (k : ℕ). own past lane k ≡ []) (sym now ∙ same.1)
        (subst (λ (k : ℕ). own past k (count_ended past m) ≡ []) same.0 none) in
        let clash : false ≡ true = rw empty at has in absurd cc
    by_owner_of owner.Setup jb er mine has = absurd cc
    by_owner_of owner.Close jb er mine has = absurd cc
first_stands s (_ ∷ past) lane c p q a j is e x y = first_stands s past lane c p q a j.1 is e x y

-- ---- the grants of a lane

-- the call of a lane that asked for a place
call_of : (past : List Entry) (lane g : ℕ) → ((a : AskedRequest)
    × ((asked_at past g ≡ Some a) × (is_of a.by lane ≡ true)))
    → (c : ℕ) × (is_asked_by (asked_at past g) lane c ≡ true)
call_of past lane g mine = by_who mine.0.by refl mine.1.1
  where
    self : (n : ℕ) → (n == n) ≡ true
    self n = elim (eqb_tells n n) [ inl t ↦ t.0 | inr t ↦ absurd (t.1 refl) ]

    by_who : (o : Owner) → mine.0.by ≡ o → is_of o lane ≡ true → (c : ℕ) × (is_asked_by (asked_at past g) lane c ≡ true)
    by_who (owner.Call l c) e is = (
      c,
      ap (λ x. is_asked_by x lane c) mine.1.0
          ∙ (ap (λ (x : Owner). is_by x lane c) e ∙ rw (is, self c) refl),
    )
    by_who owner.Setup e is = absurd cc
    by_who owner.Close e is = absurd cc

-- So does a HANDLE that came for the current call and was not polled: the call brings one handle, by its first request.
pub handles_are_newer : (s : Setting) (past : List Entry) (lane p : ℕ) (v : LaneValue) (dues : List ℕ)
    → LaneTied s past lane v dues → IsJournal s past → is_in p (ticket_places v.tickets) ≡ true → is_grant past p ≡ true
    → is_unended_asker past lane p ≡ true
    → IsBelow p (grant_places v.grants)
handles_are_newer s past lane p v dues l j ticket grant mine =
    newer_grants s past lane p (grant_places v.grants) j mine l.holds.held_of earlier
  where
    same_place : (g : ℕ) → is_in g (grant_places v.grants) ≡ true
        → is_asked_by (asked_at past g) lane (count_ended past lane) ≡ true → ⊥
    same_place g e asks =
        let own_p = of_in past lane (ticket_places v.tickets) p l.holds.tied_of ticket in
        let own_g = of_in past lane (grant_places v.grants) g l.holds.held_of e in
        let up : p ≤ g = first_stands s past lane (count_ended past lane) p g own_p.0 j own_p.1.0
        (grant_expected s past p own_p.0 j grant own_p.1.0) mine asks in
        let down : g ≤ p = first_stands s past lane (count_ended past lane) g p own_g.0 j own_g.1.0
        (grant_expected s past g own_g.0 j (l.holds.holding g e).0 own_g.1.0) asks mine in
        let one : g ≡ p = omega (arith, up, down) in
        let clash : false ≡ true = sym (l.holds.apart g e) ∙ (ap (λ (n : ℕ). is_in n (ticket_places v.tickets)) one
        ∙ ticket) in absurd cc

    earlier : (g : ℕ) → is_in g (grant_places v.grants) ≡ true → (c : ℕ)
        × ((c < count_ended past lane) × (is_asked_by (asked_at past g) lane c ≡ true))
    earlier g e =
        let call = call_of past lane g (of_in past lane (grant_places v.grants) g l.holds.held_of e) in
        elim (leb_tells (count_ended past lane) call.0) [
          | inr t ↦ (call.0, (omega (arith, t), call.1))
          | inl t ↦ absurd (elim (eqb_tells call.0 (count_ended past lane)) [
            | inl u ↦ same_place g e (subst (λ (n : ℕ). is_asked_by (asked_at past g) lane n ≡ true) u.1 call.1)
            | inr u ↦ (let has : has_place (own past lane call.0) g ≡ true = asker_owns past lane call.0 g call.1 in
                let apart : call.0 ≢ count_ended past lane = u.1 in
                let none : own past lane call.0 ≡ [] = own_fresh s past lane call.0 j (omega (arith, t, apart)) in
                let clash : false ≡ true = rw none at has in cc)
          ])
        ]
