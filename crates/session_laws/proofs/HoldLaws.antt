-- What a lane has of tickets and grants, as it polls, drops and ends.
use Rattle.std.proofs.Common.{
  ◌<◌,
  ◌≡◌,
  ◌≢◌,
  ◌==◌,
  ℕ,
  zero,
  suc,
  Bool,
  true,
  false,
  List,
  [],
  ◌∷◌,
  ◌++◌,
  Option,
  Some,
  None,
  refl,
  ap,
  sym,
  ◌∙◌,
  subst,
  inl,
  inr,
}
use Rattle.std.specs.Prelude.{◌&&◌, ◌||◌, length, slice_get}
use Rattle.std.proofs.lemmas.Bool.{or_cases, or_right}
use Rattle.std.proofs.lemmas.Bool.Decides.{eqb_tells}
use Rattle.sftp_model.specs.declared.reply.Reply.{Reply}
use Rattle.sftp_model.specs.Slots.{has_grant}
use Rattle.session_model.specs.declared.event.Owner.{Owner}
use Rattle.session_model.specs.declared.entry.Entry.{Entry}
use Rattle.session_model.specs.Readings.{AskedRequest, answer, asked_at, count_ended, is_by, own}
use Rattle.session_model.specs.Calls.{Setting, current, held_site, site_of}
use Rattle.session_model.specs.Grants.{closed_grants, holds, is_asked_by, is_grant, is_granted, is_held, is_one_of, is_unended_asker}
use Rattle.session_model.proofs.GrantLaws.{any_passes}
use Rattle.session_model.proofs.HolderLaws.{slots_owned}
use Rattle.session_model.proofs.PlannedLaws.{held_less}
use Rattle.session_model.specs.Ids.{Replied, id_state}
use Rattle.session_model.specs.Journals.{IsJournal}
use Rattle.session_model.proofs.ClosedLaws.{gone_unheld}
use Rattle.session_laws.specs.Places.{IsRising, is_in, without_index, IsBelow}
use Rattle.session_laws.specs.Tables.{place_of}
use Rattle.session_laws.specs.Lanes.{AllOf, GrantsTied, Held, LaneHolds, Ticketed, TicketsTied, grant_places, is_of, ticket_places}
use Rattle.session_laws.specs.Changes.{BringsHandle, grant_of_ticket}
use Rattle.session_laws.proofs.EndLaws.{AreGrants}
use Rattle.session_laws.proofs.PlaceLaws.{at_in, push_other, push_rising, push_self, without_other, without_out, without_rising, without_self}
use Rattle.sftp_model.specs.declared.reply.Reply.TheVariants as reply
use Rattle.session_model.specs.declared.event.Owner.TheVariants as owner

-- ---- lists

pub ticket_index : (ts : List Ticketed) (k : ℕ) (t : Ticketed) → slice_get ts k ≡ Some t
    → slice_get (ticket_places ts) k ≡ Some t.place
ticket_index [] k t at = absurd cc
ticket_index (x ∷ xs) zero t at = (let same : x ≡ t = cc in ap (λ (y : Ticketed). Some y.place) same)
ticket_index (x ∷ xs) (suc k) t at = ticket_index xs k t at

pub ticket_without : (ts : List Ticketed) (k : ℕ) → ticket_places (without_index k ts)
    ≡ without_index k (ticket_places ts)
ticket_without [] k = refl
ticket_without (x ∷ xs) zero = refl
ticket_without (x ∷ xs) (suc k) = ap (λ (l : List ℕ). x.place ∷ l) (ticket_without xs k)

pub ticket_at : (past : List Entry) (ts : List Ticketed) (k : ℕ) (t : Ticketed) → TicketsTied past ts → slice_get ts k
    ≡ Some t → place_of (id_state past t.ticket) ≡ Some t.place
ticket_at past [] k t tied at = absurd cc
ticket_at past (x ∷ xs) zero t tied at = (let same : x ≡ t = cc in
    subst (λ (y : Ticketed). place_of (id_state past y.ticket) ≡ Some y.place) same tied.0)
ticket_at past (x ∷ xs) (suc k) t tied at = ticket_at past xs k t tied.1 at

tied_without : (past : List Entry) (ts : List Ticketed) (k : ℕ) → TicketsTied past ts
    → TicketsTied past (without_index k ts)
tied_without past [] k tied = tt
tied_without past (x ∷ xs) zero tied = tied.1
tied_without past (x ∷ xs) (suc k) tied = (tied.0, tied_without past xs k tied.1)

pub of_without : (past : List Entry) (lane : ℕ) (ps : List ℕ) (k : ℕ) → AllOf past lane ps
    → AllOf past lane (without_index k ps)
of_without past lane [] k all = tt
of_without past lane (x ∷ xs) zero all = all.1
of_without past lane (x ∷ xs) (suc k) all = (all.0, of_without past lane xs k all.1)

pub of_in : (past : List Entry) (lane : ℕ) (ps : List ℕ) (p : ℕ) → AllOf past lane ps → is_in p ps ≡ true
    → (a : AskedRequest)
    × ((asked_at past p ≡ Some a) × (is_of a.by lane ≡ true))
of_in past lane [] p all e = absurd cc
of_in past lane (h ∷ hs) p all e = elim (eqb_tells h p) [
  | inl t ↦ subst (λ (n : ℕ). (a : AskedRequest) × ((asked_at past n ≡ Some a) × (is_of a.by lane ≡ true))) t.1 all.0
  | inr t ↦ of_in past lane hs p all.1 (rw t.0 at e)
]

is_lane : (o : Owner) (m n : ℕ) → is_of o m ≡ true → is_of o n ≡ true → m ≡ n
is_lane (owner.Call c d) m n x y = elim (eqb_tells c m) [
  | inl t ↦ elim (eqb_tells c n) [
    | inl u ↦ sym t.1 ∙ u.1
    | inr u ↦
        absurd (let clash : false ≡ true = sym u.0 ∙ y in cc)
  ]
  | inr t ↦ absurd (let clash : false ≡ true = sym t.0 ∙ x in cc)
]
is_lane owner.Setup m n x y = absurd cc
is_lane owner.Close m n x y = absurd cc

-- one lane asked for a place
pub one_lane : (past : List Entry) (p m n : ℕ) → ((a : AskedRequest)
    × ((asked_at past p ≡ Some a) × (is_of a.by m ≡ true)))
    → ((a : AskedRequest) × ((asked_at past p ≡ Some a) × (is_of a.by n ≡ true))) → m ≡ n
one_lane past p m n x y = (let same : x.0 ≡ y.0 = some_asked x.0 y.0 (sym x.1.0 ∙ y.1.0) in
    is_lane y.0.by m n (ap (λ (a : AskedRequest). is_of a.by m) (sym same) ∙ x.1.1) y.1.1)
  where
    some_asked : (a b : AskedRequest) → (◌≡◌ {A = Option AskedRequest} (Some a) (Some b)) → a ≡ b
    some_asked a b e = cc

pub of_push : (past : List Entry) (lane : ℕ) (ps : List ℕ) (p : ℕ) → AllOf past lane ps
    → ((a : AskedRequest) × ((asked_at past p ≡ Some a) × (is_of a.by lane ≡ true))) → AllOf past lane (ps ++ p ∷ [])
of_push past lane [] p all new = (new, tt)
of_push past lane (h ∷ hs) p all new = (all.0, of_push past lane hs p all.1 new)

held_push : (past : List Entry) (gs : List Held) (g : Held) → GrantsTied past gs
    → ((a : AskedRequest) × (id_state past g.grant.id ≡ Replied g.place a (reply.Handle g.grant.handle)))
    → GrantsTied past (gs ++ g ∷ [])
held_push past [] g all new = (new, tt)
held_push past (h ∷ hs) g all new = (all.0, held_push past hs g all.1 new)

pub places_push : (gs : List Held) (g : Held) → grant_places (gs ++ g ∷ []) ≡ grant_places gs ++ g.place ∷ []
places_push [] g = refl
places_push (h ∷ hs) g = ap (λ (l : List ℕ). h.place ∷ l) (places_push hs g)

-- ---- a ticket that brings no grant is gone

pub spent_holds : (s : Setting) (past : List Entry) (lane k : ℕ) (ts : List Ticketed) (gs : List Held) (dues : List ℕ)
    (t : Ticketed) → LaneHolds s past lane ts gs dues → slice_get ts k ≡ Some t → is_grant past t.place ≡ false
    → (is_asked_by (asked_at past t.place) lane (count_ended past lane) ≡ true → answer past t.place ≡ None → ⊥)
    → LaneHolds s past lane (without_index k ts) gs dues
spent_holds s past lane k ts gs dues t h at plain done =
    let ps : List ℕ = ticket_places ts in
    let here : slice_get ps k ≡ Some t.place = ticket_index ts k t at in
    let left : ticket_places (without_index k ts) ≡ without_index k ps = ticket_without ts k in
    record {
      tied = tied_without past ts k h.tied;
      tied_of = subst (λ (l : List ℕ). AllOf past lane l) (sym left) (of_without past lane ps k h.tied_of);
      tied_rise = subst (λ (l : List ℕ). IsRising l) (sym left) (without_rising ps k h.tied_rise);
      held = h.held;
      held_of = h.held_of;
      held_rise = h.held_rise;
      apart = λ g e. ap (is_in g) left ∙ without_out ps k g (h.apart g e);
      asks = λ p mine none. ap (is_in p) left ∙ (without_other ps k t.place p here
          (λ e. done (ap (λ (n : ℕ). is_asked_by (asked_at past n) lane (count_ended past lane)) (sym e) ∙ mine)
          (ap (answer past) (sym e) ∙ none)) ∙ h.asks p mine none);
      whole = λ g granted unclosed holder out. ap (is_in g) left
          ∙ (without_other ps k t.place g here (λ e. (let clash : false ≡ true = sym plain
          ∙ (ap (is_grant past) (sym e) ∙ granted) in cc)) ∙ h.whole g granted unclosed holder out);
      holding = h.holding;
    }

pub granted_holds : (s : Setting) (past : List Entry) (lane k : ℕ) (ts : List Ticketed) (gs : List Held) (dues : List ℕ)
    (t : Ticketed) (handle : List ℕ) → LaneHolds s past lane ts gs dues → slice_get ts k ≡ Some t
    → BringsHandle s past lane gs dues t handle
    → LaneHolds s past lane (without_index k ts) (gs ++ grant_of_ticket t handle ∷ []) dues
granted_holds s past lane k ts gs dues t handle h at b =
    let ps : List ℕ = ticket_places ts in
    let here : slice_get ps k ≡ Some t.place = ticket_index ts k t at in
    let left : ticket_places (without_index k ts) ≡ without_index k ps = ticket_without ts k in
    let new : Held = grant_of_ticket t handle in
    let more : grant_places (gs ++ new ∷ []) ≡ grant_places gs ++ t.place ∷ [] = places_push gs new in
    let grant : is_grant past t.place ≡ true = ap is_granted b.got in
    record {
      tied = tied_without past ts k h.tied;
      tied_of = subst (λ (l : List ℕ). AllOf past lane l) (sym left) (of_without past lane ps k h.tied_of);
      tied_rise = subst (λ (l : List ℕ). IsRising l) (sym left) (without_rising ps k h.tied_rise);
      held = held_push past gs new h.held (b.asked, b.came);
      held_of = subst (λ (l : List ℕ). AllOf past lane l) (sym more)
          (of_push past lane (grant_places gs) t.place h.held_of (of_in past lane ps t.place h.tied_of
          (at_in ps k t.place here)));
      held_rise = subst (λ (l : List ℕ). IsRising l) (sym more)
          (push_rising (grant_places gs) t.place h.held_rise b.newer);
      apart = λ g e. elim (eqb_tells g t.place) [
        | inl d ↦ ap (is_in g) left ∙ (ap (λ (n : ℕ). is_in n (without_index k ps)) d.1
            ∙ without_self ps k t.place h.tied_rise here)
        | inr d ↦ ap (is_in g) left ∙ without_out ps k g (h.apart g
            (sym (push_other (grant_places gs) t.place g d.1) ∙ (ap (is_in g) (sym more) ∙ e)))
      ];
      asks = λ p mine none. ap (is_in p) left ∙ (without_other ps k t.place p here
          (λ e. (let clash : ◌≡◌ {A = Option Reply} None (Some (reply.Handle handle)) = sym none
          ∙ (ap (answer past) e ∙ b.got) in absurd cc)) ∙ h.asks p mine none);
      whole = λ g granted open_g holds_g out.
          (let apart : g ≢ t.place = λ e. (let clash : true ≡ false = sym (push_self (grant_places gs) t.place)
          ∙ (ap (λ (n : ℕ). is_in n (grant_places gs ++ t.place ∷ [])) (sym e) ∙ (ap (is_in g) (sym more) ∙ out)) in
          absurd cc) in
          ap (is_in g) left ∙ (without_other ps k t.place g here apart
          ∙ h.whole g granted open_g holds_g (sym (push_other (grant_places gs) t.place g apart)
          ∙ (ap (is_in g) (sym more) ∙ out))));
      holding = λ g e. elim (eqb_tells g t.place) [
        | inl d ↦ subst (λ (n : ℕ). (is_grant past n ≡ true) × ((is_one_of (closed_grants s past) n ≡ false)
            × (is_in n dues ≡ false → holds s past n lane ≡ true))) (sym d.1) (grant, (b.unclosed, b.holder))
        | inr d ↦ h.holding g (sym (push_other (grant_places gs) t.place g d.1) ∙ (ap (is_in g) (sym more) ∙ e))
      ];
    }

-- ---- who holds a grant

-- what a lane holds has no CLOSE
pub held_unclosed : (s : Setting) (past : List Entry) (g lane : ℕ) → IsJournal s past → lane < length s.lanes
    → holds s past g lane ≡ true → is_one_of (closed_grants s past) g ≡ false
held_unclosed s past g lane j there holder = open_still (is_one_of (closed_grants s past) g)
    (λ e. (let lost : is_held s past g ≡ false = (gone_unheld s past g j e).1 in let kept : is_held s past g ≡ true =
    any_passes (holds s past g) (length s.lanes) lane there holder in
    let clash : false ≡ true = sym lost ∙ kept in absurd cc))
  where
    open_still : (b : Bool) → (b ≡ true → ⊥) → b ≡ false
    open_still true never = absurd (never refl)
    open_still false never = refl

-- the current call holds what it asked for
pub asker_holds : (s : Setting) (past : List Entry) (g lane : ℕ) → is_unended_asker past lane g ≡ true
    → holds s past g lane ≡ true
asker_holds s past g lane mine = or_right (has_grant (held_site s past lane) g) (is_unended_asker past lane g) mine

-- a lane that holds a grant asked for it
pub holder_asked : (s : Setting) (past : List Entry) (g w : ℕ) → IsJournal s past → holds s past g w ≡ true → (c : ℕ)
    × (is_asked_by (asked_at past g) w c ≡ true)
holder_asked s past g w j h = elim (or_cases (has_grant (held_site s past w) g) (is_unended_asker past w g) h) [
  | inl has ↦ (let mine = slots_owned s past w g j (held_less (current s past w) (own past w (count_ended past w))
      (site_of s past w) g has) in (mine.1.0, mine.1.1.1))
  | inr asks ↦ (count_ended past w, asks)
]

pub one_asker : (a : AskedRequest) (l w c : ℕ) → is_of a.by l ≡ true → is_by a.by w c ≡ true → w ≡ l
one_asker a l w c x y = by_who a.by x y
  where
    two : (m n : ℕ) (b : Bool) → (m == n) ≡ b → b ≡ true → m ≡ n
    two m n b e t = elim (eqb_tells m n) [
      | inl d ↦ d.1
      | inr d ↦
          absurd (let clash : false ≡ true = sym d.0 ∙ (e ∙ t) in cc)
    ]

    first : (b c : Bool) → (b && c) ≡ true → b ≡ true
    first true c e = refl
    first false c e = absurd cc

    by_who : (o : Owner) → is_of o l ≡ true → is_by o w c ≡ true → w ≡ l
    by_who (owner.Call m n) x y = sym (two m w (m == w) refl (first (m == w) (n == c) y)) ∙ two m l (m == l) refl x
    by_who owner.Setup x y = absurd cc
    by_who owner.Close x y = absurd cc

pub are_grants : (s : Setting) (past : List Entry) (lane : ℕ) (ts : List Ticketed) (gs : List Held) → IsJournal s past
    → LaneHolds s past lane ts gs [] → ((p : ℕ) → is_in p (ticket_places ts) ≡ true → is_grant past p ≡ false)
    → AreGrants s past lane (grant_places gs)
are_grants s past lane ts gs j h polled =
    record {
      all = λ g granted unclosed holder. in_or g granted (is_in g (grant_places gs)) refl
          (λ out. h.whole g granted unclosed holder out);
      granted = λ g e. (h.holding g e).0;
      unclosed = λ g e. (h.holding g e).1.0;
      alone = λ g w e holder.
          (let mine = of_in past lane (grant_places gs) g h.held_of e in
          let who = holder_asked s past g w j holder in
          one_asker mine.0 lane w who.0 mine.1.1 (ap (λ x. is_asked_by x w who.0) (sym mine.1.0) ∙ who.1));
      rising = h.held_rise;
    }
  where
    in_or : (g : ℕ) → is_grant past g ≡ true → (b : Bool) → is_in g (grant_places gs) ≡ b
        → (is_in g (grant_places gs) ≡ false → is_in g (ticket_places ts) ≡ true) → is_in g (grant_places gs) ≡ true
    in_or g granted true e ticket = e
    in_or g granted false e ticket = absurd (let clash : false ≡ true = sym (polled g (ticket e)) ∙ granted in cc)

pub in_more : (ps : List ℕ) (p q : ℕ) → is_in q ps ≡ true → is_in q (ps ++ p ∷ []) ≡ true
in_more [] p q e = absurd cc
in_more (h ∷ hs) p q e = by_head (h == q) e (λ rest. in_more hs p q rest)
  where
    by_head : (b : Bool) → (b || is_in q hs) ≡ true → (is_in q hs ≡ true → is_in q (hs ++ p ∷ []) ≡ true)
        → (b || is_in q (hs ++ p ∷ [])) ≡ true
    by_head true e more = refl
    by_head false e more = more e

-- and with a HANDLE that the current call has a ticket of
pub are_grants_with : (s : Setting) (past : List Entry) (lane p : ℕ) (ts : List Ticketed) (gs : List Held)
    → IsJournal s past → lane < length s.lanes → LaneHolds s past lane ts gs [] → is_in p (ticket_places ts) ≡ true
    → is_grant past p ≡ true
    → is_unended_asker past lane p ≡ true → IsBelow p (grant_places gs)
    → ((q : ℕ) → is_in q (ticket_places ts) ≡ true → is_grant past q ≡ true → q ≡ p)
    → AreGrants s past lane (grant_places gs ++ p ∷ [])
are_grants_with s past lane p ts gs j there h has grant mine newer only =
    record {
      all = λ g granted unclosed holder. in_or g granted (is_in g (grant_places gs)) refl
          (λ out. h.whole g granted unclosed holder out);
      granted = λ g e. elim (eqb_tells g p) [
        | inl t ↦ ap (is_grant past) t.1 ∙ grant
        | inr t ↦
            (h.holding g (sym (push_other (grant_places gs) p g t.1) ∙ e)).0
      ];
      unclosed = λ g e. elim (eqb_tells g p) [
        | inl t ↦ ap (is_one_of (closed_grants s past)) t.1 ∙ held_unclosed s past p lane j there
            (asker_holds s past p lane mine)
        | inr t ↦ (h.holding g (sym (push_other (grant_places gs) p g t.1) ∙ e)).1.0
      ];
      alone = λ g w e holder. elim (eqb_tells g p) [
        | inl t ↦ by_asker_of g w (of_in past lane (ticket_places ts) g h.tied_of
            (ap (λ (n : ℕ). is_in n (ticket_places ts)) t.1 ∙ has)) holder
        | inr t ↦ by_asker_of g w (of_in past lane (grant_places gs) g h.held_of
            (sym (push_other (grant_places gs) p g t.1) ∙ e)) holder
      ];
      rising = push_rising (grant_places gs) p h.held_rise newer;
    }
  where
    by_asker_of : (g w : ℕ) → ((a : AskedRequest) × ((asked_at past g ≡ Some a) × (is_of a.by lane ≡ true)))
        → holds s past g w ≡ true → w ≡ lane
    by_asker_of g w own_of holder = (let who = holder_asked s past g w j holder in
        one_asker own_of.0 lane w who.0 own_of.1.1 (ap (λ x. is_asked_by x w who.0) (sym own_of.1.0) ∙ who.1))

    in_or : (g : ℕ) → is_grant past g ≡ true → (b : Bool) → is_in g (grant_places gs) ≡ b
        → (is_in g (grant_places gs) ≡ false → is_in g (ticket_places ts) ≡ true) → is_in g (grant_places gs ++ p ∷ [])
        ≡ true
    in_or g granted true e ticket = in_more (grant_places gs) p g e
    in_or g granted false e ticket = (let same : g ≡ p = only g (ticket e) granted in
        ap (λ (n : ℕ). is_in n (grant_places gs ++ p ∷ [])) same ∙ push_self (grant_places gs) p)

-- ---- a ticket is put at the end

pub ticket_push : (ts : List Ticketed) (t : Ticketed) → ticket_places (ts ++ t ∷ []) ≡ ticket_places ts ++ t.place ∷ []
ticket_push [] t = refl
ticket_push (x ∷ xs) t = ap (λ (l : List ℕ). x.place ∷ l) (ticket_push xs t)

pub tied_push : (past : List Entry) (ts : List Ticketed) (t : Ticketed) → TicketsTied past ts
    → place_of (id_state past t.ticket) ≡ Some t.place → TicketsTied past (ts ++ t ∷ [])
tied_push past [] t all new = (new, tt)
tied_push past (x ∷ xs) t all new = (all.0, tied_push past xs t all.1 new)
