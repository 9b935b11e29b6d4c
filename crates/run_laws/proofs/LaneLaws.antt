-- A lane that alone has to do with a name.
use Rattle.std.proofs.Common.{◌≡◌, ◌≢◌, ◌<◌, ◌≤◌, ◌==◌, ◌+◌, ℕ, true, false, List, [], ◌∷◌, Option, Some, None, refl, ap, sym, ◌∙◌, subst, arith, inl, inr}
use Rattle.std.specs.Prelude.{◌⊎◌, ◌&&◌}
use Rattle.std.proofs.lemmas.Bool.{and_parts, both_ways, cases_lt, eq-eqb, eqb-true}
use Rattle.std.proofs.lemmas.Bool.Decides.{eqb_tells}
use Rattle.sftp_model.specs.declared.request.Request.{Request}
use Rattle.sftp_model.specs.declared.request.Request.TheVariants as request
use Rattle.machine_model.specs.Components.{Name}
use Rattle.plan_model.specs.Moves.{Own}
use Rattle.session_model.specs.declared.entry.Entry.{Entry}
use Rattle.session_model.specs.declared.entry.Entry.TheVariants as entry
use Rattle.session_model.specs.declared.event.Event.TheVariants.{Submit}
use Rattle.session_model.specs.declared.event.Owner.{Owner}
use Rattle.session_model.specs.declared.event.Owner.TheVariants as owner
use Rattle.session_model.specs.Calls.{Setting}
use Rattle.session_model.specs.Grants.{is_asked_by, is_close}
use Rattle.session_model.specs.Journals.{IsJournal}
use Rattle.session_model.specs.Readings.{AskedRequest, count_submitted, asked_at, count_ended, is_by, own, count_sent}
use Rattle.session_model.proofs.CallLaws.{asker_owns, has_place, next_submit, own_fresh}
use Rattle.run_laws.specs.Bearing.{IsOfAsker, UsesGrant, grant_used_at}
use Rattle.run_laws.specs.DeferredWrites.{place_behind}
use Rattle.run_laws.specs.GrantUses.{WritesBy}
use Rattle.run_laws.specs.InJournals.{AloneOn, AreBelow, ComeByOpens, InTurn, IsOfLane, KeepsOff, LaneFirst, LaneInTurn, PassesAt, is_of_call, opens_at}
use Rattle.run_laws.specs.Sparing.{AvoidsName}
use Rattle.run_laws.proofs.BearingLaws.{session_bears, setup_asks}
use Rattle.run_laws.proofs.GrantAtLaws.{subject_borne}
use Rattle.run_laws.proofs.NamedLaws.{writes_subject}
use Rattle.run_laws.proofs.OwnLaws.{has_call, own_listed}
use Rattle.run_laws.proofs.SentLaws.{AreRising}
use Rattle.run_laws.proofs.ServedSteps.{HasRequest}
use Rattle.run_laws.proofs.UsedLaws.{asked_there, some_is, uses_grant}

-- ---- the calls of a lane stand in turn

-- a call that asks has not ended before, and so none of a later one's requests stands before it
pub in_turn : (s : Setting) (past : List Entry) (lane c d p q : ℕ) → IsJournal s past → c < d
    → is_asked_by (asked_at past p) lane c ≡ true → is_asked_by (asked_at past q) lane d ≡ true → p < q
in_turn s [] lane c d p q j lt mine mine' = absurd cc
in_turn s (entry.Event (Submit by id r) ∷ past) lane c d p q j lt mine mine' =
    elim (eqb_tells q (count_submitted past)) [
      | inl u ↦ elim (eqb_tells p (count_submitted past)) [
        | inl t ↦ absurd (by_two by (rw t.0 at mine) (rw u.0 at mine'))
        | inr t ↦ (let below : p < count_submitted past = there p (rw t.0 at mine) in let here : q
            ≡ count_submitted past = u.1 in omega (arith, below, here))
      ]
      | inr u ↦ elim (eqb_tells p (count_submitted past)) [
        | inl t ↦ absurd (by_older by j (rw t.0 at mine) (rw u.0 at mine'))
        | inr t ↦ in_turn s past lane c d p q j.1 lt (rw t.0 at mine) (rw u.0 at mine')
      ]
    ]
  where
    there : (place : ℕ) → is_asked_by (asked_at past place) lane c ≡ true → place < count_submitted past
    there place is = by_asked (asked_at past place) refl is
      where
        by_asked : (x : Option AskedRequest) → asked_at past place ≡ x → is_asked_by x lane c ≡ true
            → place < count_submitted past
        by_asked None e is = absurd cc
        by_asked (Some a) e is = asked_there past place a e

    by_two : (o : Owner) → is_by o lane c ≡ true → is_by o lane d ≡ true → ⊥
    by_two (owner.Call l n) x y =
        let one : n ≡ c = eqb-true n c (and_parts (l == lane) (n == c) x).1 in
        let other : n ≡ d = eqb-true n d (and_parts (l == lane) (n == d) y).1 in omega (arith, one, other, lt)
    by_two owner.Setup x y = cc
    by_two owner.Close x y = cc

    by_older : (o : Owner) → IsJournal s (entry.Event (Submit o id r) ∷ past) → is_by o lane c ≡ true
        → is_asked_by (asked_at past q) lane d ≡ true → ⊥
    by_older (owner.Call l n) k x y =
        let both = and_parts (l == lane) (n == c) x in
        let at_lane : l ≡ lane = eqb-true l lane both.0 in
        let at_call : n ≡ c = eqb-true n c both.1 in
        let now : n ≡ count_ended past l = (next_submit s past l n id r k.0).0 in
        let same : count_ended past l ≡ count_ended past lane = ap (count_ended past) at_lane in
        let none : own past lane d ≡ [] = own_fresh s past lane d k.1 (omega (arith, now, same, at_call, lt)) in
        let has : has_place (own past lane d) q ≡ true = asker_owns past lane d q y in
        let clash : false ≡ true = sym (ap (λ (o : Own). has_place o q) none) ∙ has in cc
    by_older owner.Setup k x y = cc
    by_older owner.Close k x y = cc
in_turn s (_ ∷ past) lane c d p q j lt mine mine' = in_turn s past lane c d p q j.1 lt mine mine'

-- ---- who asked

-- what the session itself asks passes each name by
session_request : (s : Setting) (past : List Entry) (place : ℕ) (a : AskedRequest) → IsJournal s past
    → asked_at past place
    ≡ Some a → ((lane call : ℕ) → a.by ≡ owner.Call lane call → ⊥) → (is_close a.request ≡ true)
    ⊎ (a.request ≡ request.LimitsQuery)
session_request s [] place a j is no_call = absurd cc
session_request s (entry.Event (Submit by id r) ∷ past) place a j is no_call =
    elim (eqb_tells place (count_submitted past)) [
      | inl t ↦ (let same = some_is (record { by = by; id = id; request = r }) a (rw t.0 at is) in
          subst (λ (x : AskedRequest). (is_close x.request ≡ true) ⊎ (x.request ≡ request.LimitsQuery)) same
          (by_owner by j (ap (λ (x : AskedRequest). x.by) same)))
      | inr t ↦ session_request s past place a j.1 (rw t.0 at is) no_call
    ]
  where
    by_owner : (o : Owner) → IsJournal s (entry.Event (Submit o id r) ∷ past) → o ≡ a.by → (is_close r ≡ true)
        ⊎ (r ≡ request.LimitsQuery)
    by_owner (owner.Call l c) k e = absurd (no_call l c (sym e))
    by_owner owner.Setup k e = inr (setup_asks s past id r k)
    by_owner owner.Close k e = inl (session_bears s past id r k)
session_request s (_ ∷ past) place a j is no_call = session_request s past place a j.1 is no_call

-- a CLOSE and a query for limits avoid each name and write by no handle
harmless : (name : Name) (r : Request) → (is_close r ≡ true) ⊎ (r ≡ request.LimitsQuery) → AvoidsName name r
    × ((h : List ℕ) → WritesBy r h → ⊥)
harmless name r (inr e) = subst (λ (q : Request). AvoidsName name q × ((h : List ℕ) → WritesBy q h → ⊥)) (sym e)
    (record { denotes = λ d. d; moves = λ old to d. absurd d }, λ h w. w)
harmless name (request.Close handle) (inl e) = (record { denotes = λ d. d; moves = λ old to d. absurd d }, λ h w. w)
harmless name other (inl e) = absurd cc

itself : (lane call : ℕ) → ((lane == lane) && (call == call)) ≡ true
itself lane call = rw (eq-eqb lane lane refl, eq-eqb call call refl) refl

-- the request at a place is one of a call, or passes each name by
pub data WhoAsked (past : List Entry) (place : ℕ) (a : AskedRequest) : Type 0 where
  ACall : (lane call : ℕ) → is_asked_by (asked_at past place) lane call ≡ true → WhoAsked past place a
  TheSession : (is_close a.request ≡ true) ⊎ (a.request ≡ request.LimitsQuery) → WhoAsked past place a

pub who_asked : (s : Setting) (past : List Entry) (place : ℕ) (a : AskedRequest) → IsJournal s past
    → asked_at past place ≡ Some a → WhoAsked past place a
who_asked s past place a j is = by_owner a.by refl
  where
    by_owner : (o : Owner) → a.by ≡ o → WhoAsked past place a
    by_owner (owner.Call lane call) e = ACall lane call (ap (λ x. is_asked_by x lane call) is
        ∙ (ap (λ (w : Owner). is_by w lane call) e ∙ itself lane call))
    by_owner owner.Setup e = TheSession (session_request s past place a j is
        (λ lane call same. let both : owner.Setup ≡ owner.Call lane call = sym e ∙ same in cc))
    by_owner owner.Close e = TheSession (session_request s past place a j is
        (λ lane call same. let both : owner.Close ≡ owner.Call lane call = sym e ∙ same in cc))

-- one lane asked
pub one_lane : (past : List Entry) (place l m c d : ℕ) → is_asked_by (asked_at past place) l c ≡ true
    → is_asked_by (asked_at past place) m d ≡ true → (l ≡ m) × (c ≡ d)
one_lane past place l m c d x y = by_asked (asked_at past place) x y
  where
    by_owner : (o : Owner) → is_by o l c ≡ true → is_by o m d ≡ true → (l ≡ m) × (c ≡ d)
    by_owner (owner.Call k n) x y =
        let p = and_parts (k == l) (n == c) x in
        let q = and_parts (k == m) (n == d) y in (
          sym (eqb-true k l p.0) ∙ eqb-true k m q.0,
          sym (eqb-true n c p.1)
              ∙ eqb-true n d q.1,
        )
    by_owner owner.Setup x y = absurd cc
    by_owner owner.Close x y = absurd cc

    by_asked : (o : Option AskedRequest) → is_asked_by o l c ≡ true → is_asked_by o m d ≡ true → (l ≡ m) × (c ≡ d)
    by_asked None x y = absurd cc
    by_asked (Some a) x y = by_owner a.by x y

-- ---- lanes that keep off a name

pub off_passes : (s : Setting) (past : List Entry) (name : Name) (lane call place : ℕ) → IsJournal s past
    → KeepsOff past name lane → is_asked_by (asked_at past place) lane call ≡ true → PassesAt s past name place
off_passes s past name lane call place j off mine =
    record {
      avoids = λ a is. (off place call a is mine).0;
      writes = λ a h grant is w uses. by_grant a h grant is w uses;
    }
  where
    by_grant : (a : AskedRequest) (h : List ℕ) (grant : ℕ) → asked_at past place ≡ Some a → WritesBy a.request h
        → grant_used_at s past place h ≡ Some grant → opens_at name (asked_at past grant) ≡ false
    by_grant a h grant is w uses =
        let u : UsesGrant s past place a.by h = uses_grant s past place a h j is
        (subject_borne a.request h (writes_subject a.request h w)) in
        let both : Some u.grant ≡ Some grant = sym u.is ∙ uses in
        subst (λ (g : ℕ). opens_at name (asked_at past g) ≡ false) (some_is u.grant grant both)
        (by_owner a.by u.grant refl u.asker)
      where
        at_grant : (g earlier : ℕ) → is_asked_by (asked_at past g) lane earlier ≡ true → (x : Option AskedRequest)
            → asked_at past g ≡ x → opens_at name x ≡ false
        at_grant g earlier theirs None e = refl
        at_grant g earlier theirs (Some b) e = (off g earlier b e theirs).1

        by_owner : (o : Owner) (g : ℕ) → a.by ≡ o → IsOfAsker past o g → opens_at name (asked_at past g) ≡ false
        by_owner (owner.Call l c) g e asker =
            let theirs : is_asked_by (asked_at past place) l c ≡ true = ap (λ x. is_asked_by x l c) is
            ∙ (ap (λ (w : Owner). is_by w l c) e ∙ itself l c) in
            let same : l ≡ lane = (one_lane past place l lane c call theirs mine).0 in
            at_grant g asker.0 (subst (λ (k : ℕ). is_asked_by (asked_at past g) k asker.0 ≡ true) same asker.1)
            (asked_at past g) refl
        by_owner owner.Setup g e asker = absurd asker
        by_owner owner.Close g e asker = absurd (let theirs : is_asked_by (Some a) lane call ≡ true =
            sym (ap (λ x. is_asked_by x lane call) is) ∙ mine in let clash : false ≡ true =
            sym (ap (λ (w : Owner). is_by w lane call) e) ∙ theirs in cc)

-- ---- two calls of a lane

pub all_behind : (r : ℕ × Request) (later : Own) → AreRising (r ∷ later) → AreBelow (place_behind r later) (r ∷ later)
all_behind r [] rising = (omega arith, tt)
all_behind r (a ∷ later) rising = (let more = all_behind a later rising.1 in let lt : a.0 < place_behind a later =
    more.0 in
    let step : r.0 < a.0 = rising.0.0 in (omega (arith, lt, step), more))

pub behind_within : (n : ℕ) (r : ℕ × Request) (later : Own) → AreBelow n (r ∷ later) → place_behind r later ≤ n
behind_within n r [] below = (let lt : r.0 < n = below.0 in omega (arith, lt))
behind_within n r (a ∷ later) below = behind_within n a later below.1

-- one of them stands just before that place
last_of : (r : ℕ × Request) (later : Own) → (place : ℕ) × (HasRequest (r ∷ later) place
    × (place_behind r later ≡ place + 1))
last_of r [] = (r.0, (inl refl, refl))
last_of r (a ∷ later) = let l = last_of a later in (l.0, (inr l.1.0, l.1.1))

all_below : (n : ℕ) (requests : Own) → ((place : ℕ) → HasRequest requests place → place < n) → AreBelow n requests
all_below n [] below = tt
all_below n (r ∷ requests) below = (below r.0 (inl refl), all_below n requests (λ place h. below place (inr h)))

-- a request passes the name by where the other lanes keep off it and the lane's own passes it by
pub place_passes : (s : Setting) (past : List Entry) (name : Name) (lane place : ℕ) → IsJournal s past
    → IsOfLane past name lane → ((call : ℕ) → is_asked_by (asked_at past place) lane call ≡ true
    → PassesAt s past name place)
    → PassesAt s past name place
place_passes s past name lane place j t mine_passes = by_asked (asked_at past place) refl
  where
    by_who : (a : AskedRequest) → asked_at past place ≡ Some a → WhoAsked past place a → PassesAt s past name place
    by_who a is (TheSession asks) =
        record {
          avoids = λ b at. subst (λ (x : AskedRequest). AvoidsName name x.request) (some_is a b (sym is ∙ at))
              (harmless name a.request asks).0;
          writes = λ b h grant at w uses. absurd ((harmless name a.request asks).1 h
              (subst (λ (x : AskedRequest). WritesBy x.request h) (some_is b a (sym at ∙ is)) w));
        }
    by_who a is (ACall l c mine) =
        elim (eqb_tells l lane) [
          | inl u ↦ mine_passes c (subst (λ (k : ℕ). is_asked_by (asked_at past place) k c ≡ true) u.1 mine)
          | inr u ↦ off_passes s past name l c place j (t.others l u.1) mine
        ]

    by_asked : (x : Option AskedRequest) → asked_at past place ≡ x → PassesAt s past name place
    by_asked None none = record {
      avoids = λ b at. absurd (let both : None ≡ Some b = sym none ∙ at in cc);
      writes =
          λ b h grant at w uses. absurd (let both : None ≡ Some b = sym none ∙ at in cc);
    }
    by_asked (Some a) is = by_who a is (who_asked s past place a j is)

-- and each but OPENs of the name avoids it
pub lane_comes : (s : Setting) (past : List Entry) (name : Name) (lane n : ℕ) → IsJournal s past
    → IsOfLane past name lane → ComeByOpens past name n
lane_comes s past name lane n j t place a lt is plain = by_who (who_asked s past place a j is)
  where
    by_who : WhoAsked past place a → AvoidsName name a.request
    by_who (TheSession asks) = (harmless name a.request asks).0
    by_who (ACall l c mine) =
        elim (eqb_tells l lane) [
          | inl u ↦ t.by_opens place c a is (subst (λ (k : ℕ). is_asked_by (asked_at past place) k c ≡ true) u.1 mine)
              plain
          | inr u ↦ (t.others l u.1 place c a is mine).0
        ]

-- none of the requests of a later call stands within those of a call
pub not_after : (s : Setting) (past : List Entry) (lane later c place : ℕ) (r : ℕ × Request) (read : Own)
    → IsJournal s past
    → own past lane later ≡ r ∷ read → place < place_behind r read → is_asked_by (asked_at past place) lane c ≡ true
    → later < c → ⊥
not_after s past lane later c place r read j asks lt mine high =
    let last = last_of r read in
    let late : last.0 < place = in_turn s past lane later c last.0 place j high
    (has_call past lane later last.0 (r ∷ read) asks last.1.0) mine in
    let end : place_behind r read ≡ last.0 + 1 = last.1.1 in omega (arith, late, end, lt)

pub lane_in_turn : (s : Setting) (past : List Entry) (name : Name) (lane one : ℕ) (w : ℕ × Request) (written : Own)
    (later : ℕ) (r : ℕ × Request) (read : Own) → IsJournal s past
    → LaneInTurn s past name lane one w written later r read
    → AreBelow (count_sent past) (r ∷ read) → InTurn s past name (place_behind r read) (lane, one) w written
    (lane, later) r read
lane_in_turn s past name lane one w written later r read j t were_sent =
    record {
      asks = t.asks;
      asks_then = t.asks_then;
      before = all_below r.0 (w ∷ written) (λ place h. in_turn s past lane one later place r.0 j t.in_turn
          (has_call past lane one place (w ∷ written) t.asks h) (has_call past lane later r.0 (r ∷ read) t.asks_then
          (inl refl)));
      until = all_behind r read (subst AreRising t.asks_then (own_listed past lane later).0);
      were_sent = behind_within (count_sent past) r read were_sent;
      by_opens = lane_comes s past name lane (place_behind r read) j t.lanes;
      others_pass = λ place above lt out out'. place_passes s past name lane place j t.lanes
          (λ c mine. within place c above lt out out' mine);
    }
  where
    -- the lane's requests from the first of the one call to the last of the other are those of the two calls and of
    -- those between
    within : (place c : ℕ) → w.0 < place → place < place_behind r read → is_of_call past (lane, one) place ≡ false
        → is_of_call past (lane, later) place ≡ false → is_asked_by (asked_at past place) lane c ≡ true
        → PassesAt s past name place
    within place c above lt out out' mine =
        elim (eqb_tells c one) [
          | inl u ↦ absurd (both_ways (is_of_call past (lane, one) place) out
              (subst (λ (k : ℕ). is_asked_by (asked_at past place) lane k ≡ true) u.1 mine))
          | inr u ↦ elim (eqb_tells c later) [
            | inl v ↦ absurd (both_ways (is_of_call past (lane, later) place) out'
                (subst (λ (k : ℕ). is_asked_by (asked_at past place) lane k ≡ true) v.1 mine))
            | inr v ↦ elim (cases_lt c one) [
              | inl low ↦ absurd (let early : place < w.0 = in_turn s past lane c one place w.0 j low mine
                  (has_call past lane one w.0 (w ∷ written) t.asks (inl refl)) in omega (arith, early, above))
              | inr from_one ↦ elim (cases_lt later c) [
                | inl high ↦ absurd (not_after s past lane later c place r read j t.asks_then lt mine high)
                | inr to_later ↦ t.between place c (let ne : c ≢ one = u.1 in omega (arith, ne, from_one))
                    (let ne : c ≢ later = v.1 in omega (arith, ne, to_later)) mine
              ]
            ]
          ]
        ]

pub lane_first : (s : Setting) (past : List Entry) (name : Name) (lane later : ℕ) (r : ℕ × Request) (read : Own)
    → IsJournal s past → LaneFirst s past name lane later r read → AreBelow (count_sent past) (r ∷ read)
    → AloneOn s past name (place_behind r read) (lane, later) r read
lane_first s past name lane later r read j t were_sent =
    record {
      asks = t.asks;
      until = all_behind r read (subst AreRising t.asks (own_listed past lane later).0);
      were_sent = behind_within (count_sent past) r read were_sent;
      by_opens = lane_comes s past name lane (place_behind r read) j t.lanes;
      others_pass = λ place lt out. place_passes s past name lane place j t.lanes
          (λ c mine. within place c lt out mine);
    }
  where
    within : (place c : ℕ) → place < place_behind r read → is_of_call past (lane, later) place ≡ false
        → is_asked_by (asked_at past place) lane c ≡ true → PassesAt s past name place
    within place c lt out mine =
        elim (eqb_tells c later) [
          | inl v ↦ absurd (both_ways (is_of_call past (lane, later) place) out
              (subst (λ (k : ℕ). is_asked_by (asked_at past place) lane k ≡ true) v.1 mine))
          | inr v ↦ elim (cases_lt later c) [
            | inl high ↦ absurd (not_after s past lane later c place r read j t.asks lt mine high)
            | inr to_later ↦ t.earlier place c (let ne : c ≢ later = v.1 in omega (arith, ne, to_later)) mine
          ]
        ]
