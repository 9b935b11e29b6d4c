-- What is due as a reply is taken: a HANDLE that no lane holds, and nothing else.
use Rattle.std.proofs.Common.{◌≡◌, ◌≢◌, ◌<◌, ◌==◌, ℕ, Bool, true, false, List, [], ◌∷◌, Option, Some, None, refl, ap, sym, ◌∙◌, subst, inl, inr}
use Rattle.std.specs.Prelude.{◌⊎◌, length}
use Rattle.std.proofs.lemmas.Bool.Decides.{eqb_tells}
use Rattle.sftp_model.specs.declared.reply.Reply.{Reply}
use Rattle.sftp_model.specs.Answers.{is_handle}
use Rattle.sftp_model.specs.declared.slot.Site.{Site}
use Rattle.sftp_model.specs.declared.slot.Facts.{Facts}
use Rattle.sftp_model.specs.declared.slot.Move.{Move}
use Rattle.sftp_model.specs.declared.slot.Move.TheVariants.{Ask}
use Rattle.sftp_core.specs.Core.{Core}
use Rattle.plan_model.specs.Moves.{Answers, Own}
use Rattle.plan_model.specs.declared.call.Call.{Call}
use Rattle.session_model.specs.declared.event.Owner.{Owner}
use Rattle.session_model.specs.declared.event.Event.TheVariants.{Submit, Take}
use Rattle.session_model.specs.declared.entry.Entry.{Entry}
use Rattle.session_model.specs.Readings.{AskedRequest, answer, count_submitted, asked_at, bearer, count_ended, own}
use Rattle.session_model.specs.Calls.{Setting, current, move_at, site_of}
use Rattle.session_model.specs.Grants.{closed_grants, is_grant, is_granted, is_held, is_one_of}
use Rattle.session_model.specs.Journals.{IsJournal}
use Rattle.session_model.proofs.CallLaws.{next_submit}
use Rattle.session_model.proofs.ClosedLaws.{gone_unheld, lane_there}
use Rattle.session_model.proofs.RequestLaws.{answer_new, answer_other}
use Rattle.session_laws.specs.Dues.{AreDueGrants}
use Rattle.session_laws.specs.Lanes.{LaneValue, SessionTied, among, by_asker, by_owner, grants_of, is_of}
use Rattle.session_laws.specs.Places.{is_in}
use Rattle.session_model.specs.declared.event.Owner.TheVariants as owner
use Rattle.session_model.specs.declared.entry.Entry.TheVariants as entry

granted_new : (past : List Entry) (id p g : ℕ) (r : Reply) → bearer past id ≡ Some p
    → is_grant (entry.Event (Take id r) ∷ past) g ≡ true → (p ≡ g) ⊎ (is_grant past g ≡ true)
granted_new past id p g r here h = elim (eqb_tells p g) [
  | inl t ↦ inl t.1
  | inr t ↦
      inr (sym (ap is_granted (answer_other past id p g r here t.1)) ∙ h)
]

-- the handle that came, if one did, is held
pub take_held : (s : Setting) (past : List Entry) (id p : ℕ) (r : Reply) → bearer past id ≡ Some p
    → (is_handle r ≡ true → is_held s past p ≡ true) → AreDueGrants s past []
    → AreDueGrants s (entry.Event (Take id r) ∷ past) []
take_held s past id p r here held d =
    record {
      each = λ g granted unclosed out. elim (granted_new past id p g r here granted) [
        | inl same ↦ (let at_p : is_grant (entry.Event (Take id r) ∷ past) p ≡ true =
            subst (λ (n : ℕ). is_grant (entry.Event (Take id r) ∷ past) n ≡ true) (sym same) granted in
            subst (λ (n : ℕ). is_held s past n ≡ true) same (held (sym (ap is_granted (answer_new past id p r here))
            ∙ at_p)))
        | inr was ↦ d.each g was unclosed refl
      ];
      unheld = tt;
      rising = tt;
    }

-- or nothing holds it, and it is due
pub take_unheld : (s : Setting) (past : List Entry) (id p : ℕ) (r : Reply) → IsJournal s past → bearer past id ≡ Some p
    → answer past p ≡ None → is_handle r ≡ true → is_held s past p ≡ false → AreDueGrants s past []
    → AreDueGrants s (entry.Event (Take id r) ∷ past) (p ∷ [])
take_unheld s past id p r j here none came unheld d =
    record {
      each = λ g granted unclosed out. elim (granted_new past id p g r here granted) [
        | inl same ↦ absurd (let found : is_in g (p ∷ []) ≡ true =
            elim (eqb_tells p g) [ inl t ↦ rw t.0 refl | inr t ↦ absurd (t.1 same) ] in let clash : true ≡ false =
            sym found ∙ out in cc)
        | inr was ↦ d.each g was unclosed refl
      ];
      unheld = (
        record {
          granted = ap is_granted (answer_new past id p r here) ∙ came;
          unheld = unheld;
          unclosed = never (is_one_of (closed_grants s past) p) (λ h. (let was : is_grant past p ≡ true =
              (gone_unheld s past p j h).0 in let clash : false ≡ true = sym (ap is_granted none) ∙ was in cc));
        },
        tt,
      );
      rising = (tt, tt);
    }
  where
    never : (b : Bool) → (b ≡ true → ⊥) → b ≡ false
    never true h = absurd (h refl)
    never false h = refl

-- ---- a request without a reply has no grant

moves_called : (c : Option Call) (site : Site) (facts : Facts) (mine : Own) (answers : Answers) (m : Move)
    → move_at c site facts mine answers ≡ Some m → c ≢ None
moves_called None site facts mine answers m e none = absurd cc
moves_called (Some c) site facts mine answers m e none = absurd cc

asker_is : (m : ℕ) (a b : AskedRequest) → (◌≡◌ {A = Option AskedRequest} (Some a) (Some b)) → is_of b.by m ≡ true
    → is_of a.by m ≡ true
asker_is m a b same e = (let is : a ≡ b = cc in ap (λ (x : AskedRequest). is_of x.by m) is ∙ e)

-- a lane that asked for a request is there
pub asker_there : (s : Setting) (past : List Entry) (p l : ℕ) (a : AskedRequest) → IsJournal s past → asked_at past p
    ≡ Some a
    → is_of a.by l ≡ true → l < length s.lanes
asker_there s [] p l a j is mine = absurd cc
asker_there s (entry.Event (Submit (owner.Call m c) id r) ∷ past) p l a j is mine =
    elim (eqb_tells p (count_submitted past)) [
      | inl t ↦ (let own_one : is_of (owner.Call m c) l ≡ true = asker_is l
          (record { by = owner.Call m c; id = id; request = r }) a (rw t.0 at is) mine in
          let same : m ≡ l = elim (eqb_tells m l) [
            | inl u ↦ u.1
            | inr u ↦
                absurd (let clash : false ≡ true = sym u.0 ∙ own_one in cc)
          ] in
          let may = next_submit s past m c id r j.0 in
          subst (λ (n : ℕ). n < length s.lanes) same (lane_there s past m j.1
          (moves_called (current s past m) (site_of s past m) s.facts (own past m (count_ended past m)) (answer past)
          (Ask r)
          may.1)))
      | inr t ↦ asker_there s past p l a j.1 (rw t.0 at is) mine
    ]
asker_there s (entry.Event (Submit owner.Setup id r) ∷ past) p l a j is mine =
    elim (eqb_tells p (count_submitted past)) [
      | inl t ↦ absurd (let clash : false ≡ true = asker_is l (record { by = owner.Setup; id = id; request = r }) a
          (rw t.0 at is) mine in cc)
      | inr t ↦ asker_there s past p l a j.1 (rw t.0 at is) mine
    ]
asker_there s (entry.Event (Submit owner.Close id r) ∷ past) p l a j is mine =
    elim (eqb_tells p (count_submitted past)) [
      | inl t ↦ absurd (let clash : false ≡ true = asker_is l (record { by = owner.Close; id = id; request = r }) a
          (rw t.0 at is) mine in cc)
      | inr t ↦ asker_there s past p l a j.1 (rw t.0 at is) mine
    ]
asker_there s (_ ∷ past) p l a j is mine = asker_there s past p l a j.1 is mine

-- where each lane that asked for a place has it not among these, nobody has
pub among_none : (past : List Entry) (places : ℕ → List ℕ) (p : ℕ)
    → ((a : AskedRequest) (l : ℕ) → asked_at past p ≡ Some a → is_of a.by l ≡ true → is_in p (places l) ≡ false)
    → among past places p ≡ false
among_none past places p away = by_state (asked_at past p) refl
  where
    self : (l : ℕ) → (l == l) ≡ true
    self l = elim (eqb_tells l l) [ inl t ↦ t.0 | inr t ↦ absurd (t.1 refl) ]

    by_who : (a : AskedRequest) → asked_at past p ≡ Some a → (o : Owner) → a.by ≡ o
        → by_owner o (λ l. is_in p (places l)) ≡ false
    by_who a is (owner.Call l c) e = away a l is (ap (λ (x : Owner). is_of x l) e ∙ self l)
    by_who a is owner.Setup e = refl
    by_who a is owner.Close e = refl

    by_state : (x : Option AskedRequest) → asked_at past p ≡ x → by_asker x (λ l. is_in p (places l)) ≡ false
    by_state None is = refl
    by_state (Some a) is = by_who a is a.by refl

-- no lane has a grant of a request without a reply
pub pending_ungranted : (s : Setting) (past : List Entry) (core : Core) (lanes : ℕ → LaneValue) (dues : List ℕ) (p : ℕ)
    → IsJournal s past → answer past p ≡ None → SessionTied s past core lanes dues → among past (grants_of lanes) p
    ≡ false
pending_ungranted s past core lanes dues p j none h = among_none past (grants_of lanes) p (λ a l is mine.
    let lt : l < length s.lanes = asker_there s past p l a j is mine in
    not_in (is_in p (grants_of lanes l)) (λ e. (let was : is_grant past p ≡ true = ((h.each l lt).holds.holding p e).0
    in let clash : false ≡ true = sym (ap is_granted none) ∙ was in cc)))
  where
    not_in : (b : Bool) → (b ≡ true → ⊥) → b ≡ false
    not_in true h = absurd (h refl)
    not_in false h = refl
