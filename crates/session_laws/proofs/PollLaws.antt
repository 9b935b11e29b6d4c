-- A reply that the core gives to a ticket is the journal's, and what polling it leaves.
use Rattle.std.proofs.Common.{◌≡◌, ◌≢◌, ◌==◌, ℕ, Bool, true, false, List, [], ◌∷◌, ◌++◌, Option, Some, None, refl, ap, sym, ◌∙◌, subst, if◌then◌else◌, inl, inr}
use Rattle.std.specs.Prelude.{slice_get}
use Rattle.std.proofs.lemmas.Bool.Decides.{eqb_tells}
use Rattle.sftp_model.specs.declared.answers.Expected.{Expected}
use Rattle.sftp_model.specs.declared.reply.Reply.{Reply}
use Rattle.sftp_core.specs.declared.id_record.IdRecord.{IdRecord}
use Rattle.sftp_core.specs.declared.id_record.IdRecord.TheVariants.{Granted}
use Rattle.sftp_core.specs.Core.{reply_in, is_ticket}
use Rattle.session_model.specs.declared.event.Owner.{Owner}
use Rattle.session_model.specs.declared.entry.Entry.{Entry}
use Rattle.session_model.specs.Readings.{AskedRequest, answer, asked_at}
use Rattle.session_model.specs.Ids.{IdState, Free, Pending, Replied, id_state, ReadsId}
use Rattle.session_model.proofs.IdLaws.{reads}
use Rattle.session_laws.specs.Places.{IsRising, is_in, without_index, with_places}
use Rattle.session_laws.specs.Tables.{TableMatches, place_of, record_of_reply, stand}
use Rattle.session_laws.specs.Lanes.{among, by_asker, by_owner, is_of}
use Rattle.session_laws.proofs.TableLaws.{spend_tabled, polled_handle}
use Rattle.session_laws.proofs.PlaceLaws.{without_other, without_self, push_other, push_self}
use Rattle.sftp_model.specs.declared.reply.Reply.TheVariants as reply
use Rattle.session_model.specs.declared.event.Owner.TheVariants as owner

-- ---- what the core gives is the journal's

gave : (b c : Bool) (e : Expected) (r y : Reply) → reply_in (record_of_reply b c e r) ≡ Some y → r ≡ y
gave true c e r y h = cc
gave false true e (reply.Handle handle) y h = absurd cc
gave false true e (reply.Version version extensions) y h = absurd cc
gave false true e (reply.Status code message language) y h = absurd cc
gave false true e (reply.Content content) y h = absurd cc
gave false true e (reply.Names names) y h = absurd cc
gave false true e (reply.Attrs attrs) y h = absurd cc
gave false true e (reply.Extended content) y h = absurd cc
gave false false e r y h = absurd cc

-- a reply that the core has for the ticket of a place
pub came_answer : (past : List Entry) (w g : ℕ → Bool) (table : ℕ → Option IdRecord) (id p : ℕ) (y : Reply)
    → TableMatches past w g table → place_of (id_state past id) ≡ Some p → reply_in (table id) ≡ Some y
    → (a : AskedRequest) × ((id_state past id ≡ Replied p a y) × (answer past p ≡ Some y))
came_answer past w g table id p y t at has = by_state (id_state past id) (reads past id) at
    (ap reply_in (sym (t id)) ∙ has)
  where
    by_state : (x : IdState) → ReadsId past id x → place_of x ≡ Some p → reply_in (stand w g x) ≡ Some y
        → (a : AskedRequest)
        × ((x ≡ Replied p a y) × (answer past p ≡ Some y))
    by_state Free r at has = absurd cc
    by_state (Pending q a was_sent) r at has = absurd cc
    by_state (Replied q a z) r at has =
        (let same : q ≡ p = cc in
        let is : z ≡ y = gave (w q) (g q) _ z y has in
        (a, ((λ i. Replied (same i) a (is i)), ap (answer past) (sym same) ∙ (r.1 ∙ ap (λ (x : Reply). Some x) is))))

-- a wanted reply that the core does not have was not taken
pub missing_answer : (past : List Entry) (w g : ℕ → Bool) (table : ℕ → Option IdRecord) (id p : ℕ)
    → TableMatches past w g table
    → place_of (id_state past id) ≡ Some p → w p ≡ true → reply_in (table id) ≡ None → answer past p ≡ None
missing_answer past w g table id p t at wanted none = by_state (id_state past id) (reads past id) at
    (ap reply_in (sym (t id)) ∙ none)
  where
    by_state : (x : IdState) → ReadsId past id x → place_of x ≡ Some p → reply_in (stand w g x) ≡ None → answer past p
        ≡ None
    by_state Free r at none = absurd cc
    by_state (Pending q a was_sent) r at none = (let same : q ≡ p = cc in ap (answer past) (sym same) ∙ r.1)
    by_state (Replied q a z) r at none =
        (let same : q ≡ p = cc in
        let here : w q ≡ true = ap w same ∙ wanted in
        let clash : ◌≡◌ {A = Option Reply} (Some z) None = rw here at none in absurd cc)

-- a ticket that a lane has is one that the core counts
pub ticket_counts : (past : List Entry) (w g : ℕ → Bool) (table : ℕ → Option IdRecord) (id p : ℕ)
    → TableMatches past w g table
    → place_of (id_state past id) ≡ Some p → w p ≡ true → is_ticket (table id) ≡ true
ticket_counts past w g table id p t at wanted = ap is_ticket (t id) ∙ by_state (id_state past id) at
  where
    by_state : (x : IdState) → place_of x ≡ Some p → is_ticket (stand w g x) ≡ true
    by_state Free at = absurd cc
    by_state (Pending q a was_sent) at = (let same : q ≡ p = cc in ap w same ∙ wanted)
    by_state (Replied q a z) at = (let same : q ≡ p = cc in let here : w q ≡ true = ap w same ∙ wanted in rw here refl)

-- and a grant alike
pub grant_counts : (past : List Entry) (w g : ℕ → Bool) (table : ℕ → Option IdRecord) (id p : ℕ) (a : AskedRequest)
    (handle : List ℕ) → TableMatches past w g table → id_state past id ≡ Replied p a (reply.Handle handle) → w p ≡ false
    → g p
    ≡ true → table id ≡ Some (Granted handle 1)
grant_counts past w g table id p a handle t at none some = t id ∙ ap (stand w g) at
    ∙ polled_handle w g p a handle none some

-- another place is among the same
pub among_other : (past : List Entry) (places : ℕ → List ℕ) (lane q : ℕ) (now : List ℕ) → is_in q now
    ≡ is_in q (places lane) → among past places q ≡ among past (with_places places lane now) q
among_other past places lane q now same = by_state (asked_at past q)
  where
    by_lane : (l : ℕ) → is_in q (places l) ≡ is_in q (if lane == l then now else places l)
    by_lane l = elim (eqb_tells lane l) [
      | inl t ↦ rw t.0 (subst (λ (n : ℕ). is_in q (places n) ≡ is_in q now) t.1 (sym same))
      | inr t ↦ rw t.0 refl
    ]

    by_who : (o : Owner) → by_owner o (λ l. is_in q (places l))
        ≡ by_owner o (λ l. is_in q (if lane == l then now else places l))
    by_who (owner.Call l c) = by_lane l
    by_who owner.Setup = refl
    by_who owner.Close = refl

    by_state : (x : Option AskedRequest) → by_asker x (λ l. is_in q (places l))
        ≡ by_asker x (λ l. is_in q (if lane == l then now else places l))
    by_state None = refl
    by_state (Some a) = by_who a.by

-- a place that the lane asked for is among its own
pub among_self : (past : List Entry) (places : ℕ → List ℕ) (lane p : ℕ) (a : AskedRequest) → asked_at past p ≡ Some a
    → is_of a.by lane ≡ true → among past places p ≡ is_in p (places lane)
among_self past places lane p a at mine = ap (λ x. by_asker x (λ l. is_in p (places l))) at ∙ by_who a.by mine
  where
    by_who : (o : Owner) → is_of o lane ≡ true → by_owner o (λ l. is_in p (places l)) ≡ is_in p (places lane)
    by_who (owner.Call l c) mine = elim (eqb_tells l lane) [
      | inl t ↦ ap (λ (n : ℕ). is_in p (places n)) t.1
      | inr t ↦
          absurd (let clash : false ≡ true = sym t.0 ∙ mine in cc)
    ]
    by_who owner.Setup mine = absurd cc
    by_who owner.Close mine = absurd cc

pub now_places : (places : ℕ → List ℕ) (lane : ℕ) (now : List ℕ) → with_places places lane now lane ≡ now
now_places places lane now = elim (eqb_tells lane lane) [ inl t ↦ rw t.0 refl | inr t ↦ absurd (t.1 refl) ]

-- ---- a ticket is spent

-- A reply that brings no handle was polled, or a ticket was dropped: the ticket at index k is gone.
pub spent_tabled : (past : List Entry) (tickets grants : ℕ → List ℕ) (lane k id p : ℕ) (a : AskedRequest)
    (table now : ℕ → Option IdRecord) → asked_at past p ≡ Some a → is_of a.by lane ≡ true → IsRising (tickets lane)
    → slice_get (tickets lane) k ≡ Some p
    → place_of (id_state past id) ≡ Some p
    → now id ≡ stand (λ q. among past (with_places tickets lane (without_index k (tickets lane))) q)
    (λ q. among past grants q) (id_state past id) → ((i : ℕ) → i ≢ id → now i ≡ table i)
    → TableMatches past (among past tickets) (among past grants) table
    → TableMatches past (among past (with_places tickets lane (without_index k (tickets lane)))) (among past grants) now
spent_tabled past tickets grants lane k id p a table now at mine rising here borne is elsewhere t =
    spend_tabled past (among past tickets) (among past (with_places tickets lane (without_index k (tickets lane))))
    (among past grants) (among past grants) table now id p borne is elsewhere
    (λ q ne. (
      among_other past tickets lane q (without_index k (tickets lane))
          (without_other (tickets lane) k p q here ne),
      refl,
    )) t

-- what is wanted no more
pub spent_unwanted : (past : List Entry) (tickets : ℕ → List ℕ) (lane k p : ℕ) (a : AskedRequest) → asked_at past p
    ≡ Some a
    → is_of a.by lane ≡ true → IsRising (tickets lane) → slice_get (tickets lane) k ≡ Some p
    → among past (with_places tickets lane (without_index k (tickets lane))) p ≡ false
spent_unwanted past tickets lane k p a at mine rising here =
    among_self past (with_places tickets lane (without_index k (tickets lane))) lane p a at mine
    ∙ (ap (is_in p) (now_places tickets lane (without_index k (tickets lane)))
    ∙ without_self (tickets lane) k p rising here)

-- A HANDLE was polled: the ticket is gone, and its place has a grant.
pub granted_tabled : (past : List Entry) (tickets grants : ℕ → List ℕ) (lane k id p : ℕ) (a b : AskedRequest)
    (handle : List ℕ)
    (table now : ℕ → Option IdRecord) → asked_at past p ≡ Some a → is_of a.by lane ≡ true → IsRising (tickets lane)
    → slice_get (tickets lane) k ≡ Some p
    → id_state past id ≡ Replied p b (reply.Handle handle) → now id ≡ Some (Granted handle 1)
    → ((i : ℕ) → i ≢ id → now i ≡ table i)
    → TableMatches past (among past tickets) (among past grants) table
    → TableMatches past (among past (with_places tickets lane (without_index k (tickets lane))))
    (among past (with_places grants lane (grants lane ++ p ∷ []))) now
granted_tabled past tickets grants lane k id p a b handle table now at mine rising here came is elsewhere t =
    let w : ℕ → Bool = among past (with_places tickets lane (without_index k (tickets lane))) in
    let h : ℕ → Bool = among past (with_places grants lane (grants lane ++ p ∷ [])) in
    let none : w p ≡ false = spent_unwanted past tickets lane k p a at mine rising here in
    let some : h p ≡ true = among_self past (with_places grants lane (grants lane ++ p ∷ [])) lane p a at mine
    ∙ (ap (is_in p) (now_places grants lane (grants lane ++ p ∷ [])) ∙ push_self (grants lane) p) in
    spend_tabled past (among past tickets) w (among past grants) h table now id p (ap place_of came)
    (is ∙ sym (ap (stand w h) came ∙ polled_handle w h p b handle none some)) elsewhere
    (λ q ne. (
      among_other past tickets lane q (without_index k (tickets lane)) (without_other (tickets lane) k p q here ne),
      among_other past grants lane q (grants lane ++ p ∷ []) (push_other (grants lane) p q ne),
    )) t
