-- What a lane has of tickets and grants as a request is submitted: its own, another lane's, or a CLOSE of the session.
use Rattle.std.proofs.Common.{◌≡◌, ◌≢◌, ◌<◌, ◌==◌, ℕ, Bool, true, false, List, [], ◌∷◌, ◌++◌, Some, refl, ap, sym, ◌∙◌, subst, arith, inl, inr}
use Rattle.std.specs.Prelude.{◌||◌}
use Rattle.std.proofs.lemmas.Bool.Decides.{eqb_tells}
use Rattle.sftp_model.specs.declared.request.Request.{Request}
use Rattle.session_model.specs.declared.event.Owner.{Owner}
use Rattle.session_model.specs.declared.event.Event.TheVariants.{Submit}
use Rattle.session_model.specs.declared.entry.Entry.{Entry}
use Rattle.session_model.specs.Readings.{count_submitted, count_ended, is_by}
use Rattle.session_model.specs.Calls.{Setting}
use Rattle.session_model.proofs.HolderLaws.{holds_back}
use Rattle.session_model.specs.Ids.{id_state}
use Rattle.session_model.specs.Journals.{IsJournal}
use Rattle.session_model.proofs.LetGoLaws.{granted_below}
use Rattle.session_model.proofs.RequestLaws.{asked_new, asked_other}
use Rattle.session_laws.specs.Places.{IsRising, is_in, IsBelow}
use Rattle.session_laws.specs.Tables.{place_of}
use Rattle.session_laws.specs.Lanes.{AllOf, GrantsTied, Held, LaneHolds, Ticketed, TicketsTied, grant_places, is_of, ticket_places}
use Rattle.session_laws.specs.Changes.{GrantsLeft, IsBare}
use Rattle.session_laws.proofs.OrderLaws.{of_below}
use Rattle.session_laws.proofs.PlaceLaws.{push_other, push_rising, push_self}
use Rattle.session_laws.proofs.HoldLaws.{in_more, of_push, tied_push, ticket_push}
use Rattle.session_model.specs.declared.event.Owner.TheVariants as owner
use Rattle.session_model.specs.declared.entry.Entry.TheVariants as entry

bare_more : (past : List Entry) (id h : ℕ) (hs : List ℕ) → IsBare past id (h ∷ hs) → IsBare past id hs
bare_more past id h hs bare p at = by_head (h == p) (bare p at)
  where
    by_head : (b : Bool) → (b || is_in p hs) ≡ false → is_in p hs ≡ false
    by_head true e = absurd cc
    by_head false e = e

in_head : (h : ℕ) (hs : List ℕ) → is_in h (h ∷ hs) ≡ true
in_head h hs = elim (eqb_tells h h) [ inl t ↦ rw t.0 refl | inr t ↦ absurd (t.1 refl) ]

other_state : (past : List Entry) (o : Owner) (id i : ℕ) (r : Request) → id ≢ i
    → id_state (entry.Event (Submit o id r) ∷ past) i ≡ id_state past i
other_state past o id i r ne = elim (eqb_tells id i) [ inl t ↦ absurd (ne t.1) | inr t ↦ rw t.0 refl ]

pub tied_submit : (past : List Entry) (o : Owner) (id : ℕ) (r : Request) (ts : List Ticketed)
    → IsBare past id (ticket_places ts) → TicketsTied past ts → TicketsTied (entry.Event (Submit o id r) ∷ past) ts
tied_submit past o id r [] bare all = tt
tied_submit past o id r (t ∷ ts) bare all =
    let apart : id ≢ t.ticket = λ e. (let clash : true ≡ false = sym (in_head t.place (ticket_places ts))
    ∙ bare t.place (ap (λ (n : ℕ). place_of (id_state past n)) e ∙ all.0) in absurd cc) in (
      ap place_of (other_state past o id t.ticket r apart) ∙ all.0,
      tied_submit past o id r ts (bare_more past id t.place (ticket_places ts) bare) all.1,
    )

pub held_submit : (past : List Entry) (o : Owner) (id : ℕ) (r : Request) (gs : List Held)
    → IsBare past id (grant_places gs) → GrantsTied past gs → GrantsTied (entry.Event (Submit o id r) ∷ past) gs
held_submit past o id r [] bare all = tt
held_submit past o id r (g ∷ gs) bare all =
    let apart : id ≢ g.grant.id = λ e. (let clash : true ≡ false = sym (in_head g.place (grant_places gs))
    ∙ bare g.place (ap (λ (n : ℕ). place_of (id_state past n)) e ∙ ap place_of all.0.1) in absurd cc) in (
      (all.0.0, other_state past o id g.grant.id r apart ∙ all.0.1),
      held_submit past o id r gs (bare_more past id g.place (grant_places gs) bare) all.1,
    )

pub of_submit : (past : List Entry) (lane : ℕ) (o : Owner) (id : ℕ) (r : Request) (ps : List ℕ)
    → IsBelow (count_submitted past) ps → AllOf past lane ps → AllOf (entry.Event (Submit o id r) ∷ past) lane ps
of_submit past lane o id r [] below all = tt
of_submit past lane o id r (p ∷ ps) below all = (
  (all.0.0, (asked_other past o id p r below.0 ∙ all.0.1.0, all.0.1.1)),
  of_submit past lane o id r ps below.1 all.1,
)

-- another's request
pub other_holds : (s : Setting) (past : List Entry) (lane : ℕ) (o : Owner) (id : ℕ) (r : Request) (ts : List Ticketed)
    (gs left : List Held) (dues rest : List ℕ) → IsJournal s (entry.Event (Submit o id r) ∷ past)
    → is_by o lane (count_ended past lane) ≡ false
    → IsBare past id (ticket_places ts) → IsBare past id (grant_places left)
    → GrantsLeft s past (entry.Event (Submit o id r)) lane gs left dues rest → LaneHolds s past lane ts gs dues
    → LaneHolds s (entry.Event (Submit o id r) ∷ past) lane ts left rest
other_holds s past lane o id r ts gs left dues rest j other bare bare_grants l h =
    let now : List Entry = entry.Event (Submit o id r) ∷ past in
    record {
      tied = tied_submit past o id r ts bare h.tied;
      tied_of = of_submit past lane o id r (ticket_places ts) (of_below past lane (ticket_places ts) h.tied_of)
          h.tied_of;
      tied_rise = h.tied_rise;
      held = held_submit past o id r left bare_grants l.held;
      held_of = of_submit past lane o id r (grant_places left) (of_below past lane (grant_places left) l.held_of)
          l.held_of;
      held_rise = l.held_rise;
      apart = λ g e. h.apart g (l.some g e);
      asks = λ p mine none. elim (eqb_tells p (count_submitted past)) [
        | inl t ↦ absurd (let clash : true ≡ false = sym (rw t.0 at mine) ∙ other in cc)
        | inr t ↦ h.asks p (rw t.0 at mine) none
      ];
      whole = λ g granted unclosed holder out. h.whole g granted (l.less g unclosed)
          (holds_back s past (entry.Event (Submit o id r)) g lane j granted holder) (l.gone g out unclosed);
      holding = λ g e. (let was = h.holding g (l.some g e) in (
        was.0,
        (l.unclosed g e, λ out. l.holder g e was.0 out was.1.1),
      ));
    }

-- the lane's own request: its ticket is the newest
pub ask_holds : (s : Setting) (past : List Entry) (lane id : ℕ) (r : Request) (ts : List Ticketed) (gs left : List Held)
    → IsJournal s (entry.Event (Submit (owner.Call lane (count_ended past lane)) id r) ∷ past)
    → IsBare past id (ticket_places ts) → IsBare past id (grant_places left)
    → GrantsLeft s past (entry.Event (Submit (owner.Call lane (count_ended past lane)) id r)) lane gs left [] []
    → LaneHolds s past lane ts gs []
    → LaneHolds s (entry.Event (Submit (owner.Call lane (count_ended past lane)) id r) ∷ past) lane
    (ts ++ (record { place = count_submitted past; ticket = id }) ∷ []) left []
ask_holds s past lane id r ts gs left j bare bare_grants l h =
    let o : Owner = owner.Call lane (count_ended past lane) in
    let now : List Entry = entry.Event (Submit o id r) ∷ past in
    let new : Ticketed = record { place = count_submitted past; ticket = id } in
    let places : ticket_places (ts ++ new ∷ []) ≡ ticket_places ts ++ count_submitted past ∷ [] = ticket_push ts new in
    let below : IsBelow (count_submitted past) (ticket_places ts) = of_below past lane (ticket_places ts) h.tied_of in
    let here : place_of (id_state now id) ≡ Some (count_submitted past) =
    elim (eqb_tells id id) [ inl t ↦ rw t.0 refl | inr t ↦ absurd (t.1 refl) ] in
    let mine_is : is_of o lane ≡ true = elim (eqb_tells lane lane) [ inl t ↦ t.0 | inr t ↦ absurd (t.1 refl) ] in
    record {
      tied = tied_push now ts new (tied_submit past o id r ts bare h.tied) here;
      tied_of = subst (λ (x : List ℕ). AllOf now lane x) (sym places)
          (of_push now lane (ticket_places ts) (count_submitted past)
          (of_submit past lane o id r (ticket_places ts) below
          h.tied_of) (record { by = o; id = id; request = r }, (asked_new past o id r, mine_is)));
      tied_rise = subst (λ (x : List ℕ). IsRising x) (sym places)
          (push_rising (ticket_places ts) (count_submitted past) h.tied_rise below);
      held = held_submit past o id r left bare_grants l.held;
      held_of = of_submit past lane o id r (grant_places left) (of_below past lane (grant_places left) l.held_of)
          l.held_of;
      held_rise = l.held_rise;
      apart = λ g e. (let lt : g < count_submitted past = granted_below past g (h.holding g (l.some g e)).0 in
          ap (is_in g) places
          ∙ (push_other (ticket_places ts) (count_submitted past) g (λ same. (omega (arith, lt, same)))
          ∙ h.apart g (l.some g e)));
      asks = λ p mine none. elim (eqb_tells p (count_submitted past)) [
        | inl t ↦ ap (is_in p) places ∙ (ap (λ (n : ℕ). is_in n (ticket_places ts ++ count_submitted past ∷ [])) t.1
            ∙ push_self (ticket_places ts) (count_submitted past))
        | inr t ↦ ap (is_in p) places ∙ (push_other (ticket_places ts) (count_submitted past) p t.1
            ∙ h.asks p (rw t.0 at mine) none)
      ];
      whole = λ g granted unclosed holder out. ap (is_in g) places
          ∙ in_more (ticket_places ts) (count_submitted past) g (h.whole g granted (l.less g unclosed)
          (holds_back s past (entry.Event (Submit o id r)) g lane j granted holder) (l.gone g out unclosed));
      holding = λ g e. (let was = h.holding g (l.some g e) in (
        was.0,
        (l.unclosed g e, λ out. l.holder g e was.0 out was.1.1),
      ));
    }
