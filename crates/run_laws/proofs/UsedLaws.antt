-- In a run so far each request that bears a handle bears that of an earlier grant of its lane, and none bears it behind
-- the grant's CLOSE.
use Rattle.std.proofs.Common.{
  ◌≡◌,
  ◌≢◌,
  ◌<◌,
  ◌≤◌,
  ◌==◌,
  ℕ,
  Bool,
  true,
  false,
  List,
  [],
  ◌∷◌,
  ◌++◌,
  Option,
  Some,
  None,
  if◌then◌else◌,
  refl,
  ap,
  sym,
  ◌∙◌,
  subst,
  arith,
  inl,
  inr,
}
use Rattle.std.specs.Prelude.{◌&&◌, ◌⊎◌}
use Rattle.std.proofs.lemmas.Bool.{and_parts, both_ways, cases_lt, eq-eqb, eqb-true, false_from_ne_true, or_cases, or_left, or_right}
use Rattle.std.proofs.lemmas.Bool.Decides.{eqb_tells}
use Rattle.sftp_model.specs.Answers.{is_handle, may_answer}
use Rattle.sftp_model.specs.Slots.{has_grant}
use Rattle.sftp_model.specs.declared.reply.Reply.{Reply}
use Rattle.sftp_model.specs.declared.reply.Reply.TheVariants as reply
use Rattle.sftp_model.specs.declared.request.Request.{Request}
use Rattle.sftp_model.specs.declared.request.Request.TheVariants as request
use Rattle.plan_model.specs.Moves.{Own}
use Rattle.session_model.specs.declared.entry.Entry.{Entry}
use Rattle.session_model.specs.declared.entry.Entry.TheVariants as entry
use Rattle.session_model.specs.declared.event.Event.TheVariants.{Submit, Take}
use Rattle.session_model.specs.declared.event.Owner.{Owner}
use Rattle.session_model.specs.declared.event.Owner.TheVariants as owner
use Rattle.session_model.specs.Calls.{Setting, current, held_site, site_of}
use Rattle.session_model.specs.Grants.{closed_grants, closes, holds, is_asked_by, is_close, is_grant, is_granted, is_one_of, is_unended_asker, with_closed}
use Rattle.session_model.specs.Journals.{IsJournal, MayReply}
use Rattle.session_model.specs.Readings.{AskedRequest, answer, count_submitted, asked_at, count_ended, is_by, own}
use Rattle.session_model.proofs.CallLaws.{asker_owns, has_place, next_submit, next_take}
use Rattle.session_model.proofs.ClosedLaws.{gone_unheld}
use Rattle.session_model.proofs.HolderLaws.{slots_owned}
use Rattle.session_model.proofs.LetGoLaws.{granted_below}
use Rattle.session_model.proofs.PlannedLaws.{held_less}
use Rattle.session_model.proofs.RequestLaws.{answer_new, answer_other, answer_stays, asked_beyond, asked_other}
use Rattle.run_laws.specs.Bearing.{BearsHandle, BearsGrant, ClosesAt, IsOfAsker, MayUse, UsesAt, UsesGrant, grant_used_at, used_by}
use Rattle.run_laws.proofs.BearingLaws.{asker_there, bears_grant, first_held, session_bears, setup_asks, unclosed_held}

-- ---- who asked for a grant

no_handle : (r : Reply) → is_handle r ≡ true → may_answer request.LimitsQuery r ≡ true → ⊥
no_handle (reply.Handle handle) is may = cc
no_handle other is may = cc

no_handle_closes : (q : Request) (r : Reply) → is_close q ≡ true → is_handle r ≡ true → may_answer q r ≡ true → ⊥
no_handle_closes (request.Close handle) (reply.Handle h) closes is may = cc
no_handle_closes (request.Close handle) other closes is may = cc
no_handle_closes other r closes is may = cc

asks_itself : (l c : ℕ) → ((l == l) && (c == c)) ≡ true
asks_itself l c = rw (eq-eqb l l refl, eq-eqb c c refl) refl

-- a request that a HANDLE may answer is one of a call
handle_asked : (s : Setting) (past : List Entry) (g : ℕ) (r : Reply) → IsJournal s past → MayReply (asked_at past g) r
    → is_handle r ≡ true → (lane call : ℕ) × (is_asked_by (asked_at past g) lane call ≡ true)
handle_asked s [] g r j may is = absurd may
handle_asked s (entry.Event (Submit by id q) ∷ past) g r j may is =
    elim (eqb_tells g (count_submitted past)) [
      | inl t ↦ rw t.0 (by_owner by j (let m = rw t.0 at may in m.0))
      | inr t ↦ rw t.0 (handle_asked s past g r j.1 (rw t.0 at may) is)
    ]
  where
    by_owner : (o : Owner) → IsJournal s (entry.Event (Submit o id q) ∷ past) → may_answer q r ≡ true → (lane call : ℕ)
        × (is_asked_by (Some (record { by = o; id = id; request = q })) lane call ≡ true)
    by_owner (owner.Call l c) k m = (l, c, asks_itself l c)
    by_owner owner.Setup k m = absurd (no_handle r is (subst (λ (w : Request). may_answer w r ≡ true)
        (setup_asks s past id q k) m))
    by_owner owner.Close k m = absurd (no_handle_closes q r (session_bears s past id q k) is m)
handle_asked s (_ ∷ past) g r j may is = handle_asked s past g r j.1 may is

-- a grant is the place of a request of a call
pub grant_called : (s : Setting) (past : List Entry) (g : ℕ) → IsJournal s past → is_grant past g ≡ true
    → (lane call : ℕ) × (is_asked_by (asked_at past g) lane call ≡ true)
grant_called s [] g j granted = absurd cc
grant_called s (entry.Event (Submit by id q) ∷ past) g j granted =
    let old = grant_called s past g j.1 granted in (
      old.0,
      old.1,
      ap (λ a. is_asked_by a old.0 old.1) (asked_other past by id g q (granted_below past g granted)) ∙ old.2,
    )
grant_called s (entry.Event (Take id r) ∷ past) g j granted =
    let may = (next_take s past id r j.0).0 in
    elim (eqb_tells may.0 g) [
      | inl t ↦ (let came : answer (entry.Event (Take id r) ∷ past) g ≡ Some r =
          ap (answer (entry.Event (Take id r) ∷ past)) (sym t.1) ∙ answer_new past id may.0 r may.1.0.0 in
          let brought : is_handle r ≡ true = sym (ap is_granted came) ∙ granted in
          handle_asked s past g r j.1 (subst (λ (p : ℕ). MayReply (asked_at past p) r) t.1 may.1.1) brought)
      | inr t ↦ grant_called s past g j.1 (sym (ap is_granted (answer_other past id may.0 g r may.1.0.0 t.1)) ∙ granted)
    ]
grant_called s (_ ∷ past) g j granted = grant_called s past g j.1 granted

-- a lane asked for what it holds
pub holder_asked : (s : Setting) (past : List Entry) (g lane : ℕ) → IsJournal s past → holds s past g lane ≡ true
    → (call : ℕ) × (is_asked_by (asked_at past g) lane call ≡ true)
holder_asked s past g lane j h =
    elim (or_cases (has_grant (held_site s past lane) g) (is_unended_asker past lane g) h) [
      | inl has ↦ (let mine = slots_owned s past lane g j (held_less (current s past lane)
          (own past lane (count_ended past lane)) (site_of s past lane) g has) in (mine.1.0, mine.1.1.1))
      | inr asks ↦ (count_ended past lane, asks)
    ]

asker_of : (s : Setting) (past : List Entry) (by : Owner) (g : ℕ) → IsJournal s past → is_grant past g ≡ true
    → MayUse s past by g → IsOfAsker past by g
asker_of s past (owner.Call lane call) g j granted may = holder_asked s past g lane j may
asker_of s past owner.Setup g j granted may = absurd may
asker_of s past owner.Close g j granted may = grant_called s past g j granted

asker_as : (before after : List Entry) (by : Owner) (g : ℕ) → asked_at after g ≡ asked_at before g
    → IsOfAsker before by g → IsOfAsker after by g
asker_as before after (owner.Call lane call) g same x = (x.0, ap (λ a. is_asked_by a lane x.0) same ∙ x.1)
asker_as before after owner.Setup g same x = absurd x
asker_as before after owner.Close g same x = (x.0, x.1, ap (λ a. is_asked_by a x.0 x.1) same ∙ x.2)

-- ---- the grant of each request

uses_new : (s : Setting) (past : List Entry) (by : Owner) (id : ℕ) (r : Request) (place : ℕ) (h : List ℕ)
    → IsJournal s (entry.Event (Submit by id r) ∷ past) → (place == count_submitted past) ≡ true → place
    ≡ count_submitted past → BearsHandle r h
    → UsesGrant s (entry.Event (Submit by id r) ∷ past) place by h
uses_new s past by id r place h j test here b =
    let k : BearsGrant s past by r h = bears_grant s past by id r h j b in
    let granted : is_grant past k.grant ≡ true = ap is_granted k.came in
    let below : k.grant < count_submitted past = granted_below past k.grant granted in
    record {
      grant = k.grant;
      is = rw test k.is;
      before = omega (arith, below, here);
      came = k.came;
      asker = asker_as past (entry.Event (Submit by id r) ∷ past) by k.grant (asked_other past by id k.grant r below)
          (asker_of s past by k.grant j.1 granted k.may);
    }

pub some_is : {X : Type 0} (x y : X) → (◌≡◌ {A = Option X} (Some x) (Some y)) → x ≡ y
some_is x y e = cc

pub uses_grant : (s : Setting) (past : List Entry) (place : ℕ) (a : AskedRequest) (h : List ℕ) → IsJournal s past
    → asked_at past place ≡ Some a → BearsHandle a.request h → UsesGrant s past place a.by h
uses_grant s [] place a h j is b = absurd cc
uses_grant s (entry.Event (Submit by id r) ∷ past) place a h j is b =
    elim (eqb_tells place (count_submitted past)) [
      | inl t ↦ (let same = some_is (record { by = by; id = id; request = r }) a (rw t.0 at is) in
          subst (λ (o : Owner). UsesGrant s (entry.Event (Submit by id r) ∷ past) place o h)
          (ap (λ (x : AskedRequest). x.by) same)
          (uses_new s past by id r place h j t.0 t.1 (subst (λ (q : Request). BearsHandle q h)
          (sym (ap (λ (x : AskedRequest). x.request) same)) b)))
      | inr t ↦ (let old = uses_grant s past place a h j.1 (rw t.0 at is) b in
          record {
            grant = old.grant;
            is = rw t.0 old.is;
            before = old.before;
            came = old.came;
            asker = asker_as past (entry.Event (Submit by id r) ∷ past) a.by old.grant
                (asked_other past by id old.grant r (granted_below past old.grant (ap is_granted old.came))) old.asker;
          })
    ]
uses_grant s (entry.Event (Take id r) ∷ past) place a h j is b =
    let old = uses_grant s past place a h j.1 is b in
    record {
      grant = old.grant;
      is = old.is;
      before = old.before;
      came = answer_stays past id r (reply.Handle h) old.grant (next_take s past id r j.0).0 old.came;
      asker = asker_as past (entry.Event (Take id r) ∷ past) a.by old.grant refl old.asker;
    }
uses_grant s (e ∷ past) place a h j is b =
    let old = uses_grant s past place a h j.1 is b in
    record {
      grant = old.grant;
      is = old.is;
      before = old.before;
      came = old.came;
      asker =
          asker_as past (e ∷ past) a.by old.grant refl old.asker;
    }

-- ---- a CLOSE stands last

stays_closed : (b : Bool) (x : Option ℕ) (gone : List (Option ℕ)) (g : ℕ) → is_one_of gone g ≡ true
    → is_one_of (with_closed b x gone) g ≡ true
stays_closed false x gone g e = e
stays_closed true x gone g e = or_right _ (is_one_of gone g) e

new_closed : (b : Bool) (x y : Option ℕ) (gone : List (Option ℕ)) (g : ℕ) → b ≡ true → (if b then x else y) ≡ Some g
    → is_one_of (with_closed b x gone) g ≡ true
new_closed false x y gone g closes is = absurd cc
new_closed true x y gone g closes is = ap (λ (w : Option ℕ). is_one_of (w ∷ gone) g) is
    ∙ or_left (g == g) (is_one_of gone g) (eq-eqb g g refl)

-- a grant of which a request is the CLOSE has one
pub close_counts : (s : Setting) (past : List Entry) (place g : ℕ) (a : AskedRequest) (h : List ℕ) → asked_at past place
    ≡ Some a → is_close a.request ≡ true → grant_used_at s past place h ≡ Some g → is_one_of (closed_grants s past) g
    ≡ true
close_counts s [] place g a h is closes uses = absurd cc
close_counts s (entry.Event (Submit by id r) ∷ past) place g a h is closes_it uses =
    elim (eqb_tells place (count_submitted past)) [
      | inl t ↦ (let same = some_is (record { by = by; id = id; request = r }) a (rw t.0 at is) in
          new_closed (is_close r) (closes s past (closed_grants s past) by) (used_by s past by h) (closed_grants s past)
          g
          (ap (λ (x : AskedRequest). is_close x.request) same ∙ closes_it) (rw t.0 at uses))
      | inr t ↦ stays_closed (is_close r) (closes s past (closed_grants s past) by) (closed_grants s past) g
          (close_counts s past place g a h (rw t.0 at is) closes_it (rw t.0 at uses))
    ]
close_counts s (_ ∷ past) place g a h is closes_it uses = close_counts s past place g a h is closes_it uses

pub asked_there : (past : List Entry) (place : ℕ) (a : AskedRequest) → asked_at past place ≡ Some a
    → place < count_submitted past
asked_there past place a is = elim (cases_lt place (count_submitted past))
    [ inl lt ↦ lt | inr le ↦ absurd (let none : asked_at past place ≡ None = asked_beyond past place le in cc) ]

-- the grants that had a CLOSE as the request at a place was submitted
abbrev pub closed_before : Setting → List Entry → ℕ → List (Option ℕ)
closed_before s [] place = []
closed_before s (entry.Event (Submit by id r) ∷ past) place = if place == count_submitted past then
    closed_grants s past else closed_before s past place
closed_before s (_ ∷ past) place = closed_before s past place

-- a grant whose handle a request bears had none then
pub open_used : (s : Setting) (past : List Entry) (place g : ℕ) (a : AskedRequest) (h : List ℕ) → IsJournal s past
    → asked_at past place ≡ Some a → BearsHandle a.request h → grant_used_at s past place h ≡ Some g
    → is_one_of (closed_before s past place) g ≡ false
open_used s [] place g a h j is b uses = absurd cc
open_used s (entry.Event (Submit by id r) ∷ past) place g a h j is b uses =
    elim (eqb_tells place (count_submitted past)) [
      | inl t ↦ rw t.0 (let same = some_is (record { by = by; id = id; request = r }) a (rw t.0 at is) in
          let x : BearsGrant s past by r h = bears_grant s past by id r h j
          (subst (λ (w : Request). BearsHandle w h) (sym (ap (λ (y : AskedRequest). y.request) same)) b) in
          let both : Some x.grant ≡ Some g = sym x.is ∙ (rw t.0 at uses) in
          subst (λ (k : ℕ). is_one_of (closed_grants s past) k ≡ false) (some_is x.grant g both) x.unclosed)
      | inr t ↦ rw t.0 (open_used s past place g a h j.1 (rw t.0 at is) b (rw t.0 at uses))
    ]
open_used s (_ ∷ past) place g a h j is b uses = open_used s past place g a h j.1 is b uses

-- and the CLOSE of a grant that had none then doesn't stand before
pub open_last : (s : Setting) (past : List Entry) (p q g : ℕ) (b : AskedRequest) (k : List ℕ) → p < count_submitted past
    → is_one_of (closed_before s past p) g ≡ false → asked_at past q ≡ Some b → is_close b.request ≡ true
    → grant_used_at s past q k ≡ Some g → p ≤ q
open_last s [] p q g b k below unclosed at closes_it uses = absurd cc
open_last s (entry.Event (Submit by id r) ∷ past) p q g b k below unclosed at closes_it uses =
    elim (eqb_tells q (count_submitted past)) [
      | inl u ↦ (let here : q ≡ count_submitted past = u.1 in omega (arith, below, here))
      | inr u ↦ elim (eqb_tells p (count_submitted past)) [
        | inl t ↦ absurd (both_ways (is_one_of (closed_grants s past) g) (rw t.0 at unclosed)
            (close_counts s past q g b k (rw u.0 at at) closes_it (rw u.0 at uses)))
        | inr t ↦ (let lt : p < count_submitted past = (let ne : p ≢ count_submitted past = t.1 in
            omega (arith, below, ne)) in
            open_last s past p q g b k lt (rw t.0 at unclosed) (rw u.0 at at) closes_it (rw u.0 at uses))
      ]
    ]
open_last s (_ ∷ past) p q g b k below unclosed at closes_it uses =
    open_last s past p q g b k below unclosed at closes_it uses

pub closes_stand_last : (s : Setting) (past : List Entry) (p q g : ℕ) → IsJournal s past → UsesAt s past p g
    → ClosesAt s past q g → p ≤ q
closes_stand_last s past p q g j u c =
    open_last s past p q g c.a c.handle (asked_there past p u.a u.at)
    (open_used s past p g u.a u.handle j u.at u.bears u.is) c.at (ap is_close c.closes) c.is

-- ---- the grant of a call's first request

pub front_of : (xs : Own) (y first : ℕ × Request) (later : Own) → xs ++ y ∷ [] ≡ first ∷ later
    → ((xs ≡ []) × (y ≡ first)) ⊎ ((l : Own) × (xs ≡ first ∷ l))
front_of [] y first later e = inl (refl, (let same : y ∷ [] ≡ first ∷ later = e in cc))
front_of (x ∷ xs) y first later e = inr (
  xs,
  (let same : x ∷ (xs ++ y ∷ []) ≡ first ∷ later = e in let head : x
      ≡ first = cc in ap (λ (w : ℕ × Request). w ∷ xs) head),
)

-- what isn't asked yet has no CLOSE
none_closed : (s : Setting) (past : List Entry) (g : ℕ) → IsJournal s past → count_submitted past ≤ g
    → is_one_of (closed_grants s past) g ≡ false
none_closed s past g j le =
    false_from_ne_true (is_one_of (closed_grants s past) g) (λ e. let below : g < count_submitted past =
    granted_below past g (gone_unheld s past g j e).0 in absurd (omega (arith, below, le)))

call_first : (s : Setting) (past : List Entry) (lane n id : ℕ) (r : Request) (first : ℕ × Request) (later : Own)
    → IsJournal s (entry.Event (Submit (owner.Call lane n) id r) ∷ past) → own past lane n
    ++ (count_submitted past, r) ∷ []
    ≡ first ∷ later
    → is_one_of (closed_grants s past) first.0 ≡ false
call_first s past lane n id r first later j is =
    elim (front_of (own past lane n) (count_submitted past, r) first later is) [
      | inl new ↦ none_closed s past first.0 j.1 (let same : count_submitted past ≡ first.0 =
          ap (λ (x : ℕ × Request). x.0) new.1 in omega (arith, same))
      | inr old ↦ (let now : n ≡ count_ended past lane = (next_submit s past lane n id r j.0).0 in
          unclosed_held s past first.0 lane j.1 (asker_there s past lane n id r j)
          (first_held s past lane first old.0 (ap (own past lane) (sym now) ∙ old.1)))
    ]

-- no request of a call stands behind the CLOSE of what the call's first request brought
pub open_own : (s : Setting) (past : List Entry) (lane n place : ℕ) (first : ℕ × Request) (later : Own)
    → IsJournal s past → own past lane n ≡ first ∷ later → is_asked_by (asked_at past place) lane n ≡ true
    → is_one_of (closed_before s past place) first.0 ≡ false
open_own s [] lane n place first later j is mine = absurd cc
open_own s (entry.Event (Submit by id r) ∷ past) lane n place first later j is mine =
    elim (eqb_tells place (count_submitted past)) [
      | inl t ↦ rw t.0 (by_owner by j (rw t.0 at mine) is)
      | inr t ↦ rw t.0 (by_test (is_by by lane n) is (rw t.0 at mine)
          (λ l e old. open_own s past lane n place first l j.1 e old))
    ]
  where
    by_owner : (o : Owner) → IsJournal s (entry.Event (Submit o id r) ∷ past) → is_by o lane n ≡ true
        → (if is_by o lane n then own past lane n ++ (count_submitted past, r) ∷ [] else own past lane n)
        ≡ first ∷ later
        → is_one_of (closed_grants s past) first.0 ≡ false
    by_owner (owner.Call l c) k test is =
        let both = and_parts (l == lane) (c == n) test in
        let at_lane : l ≡ lane = eqb-true l lane both.0 in
        let at_call : c ≡ n = eqb-true c n both.1 in
        call_first s past lane n id r first later
        (subst (λ (x : ℕ). IsJournal s (entry.Event (Submit (owner.Call lane x) id r) ∷ past)) at_call
        (subst (λ (x : ℕ). IsJournal s (entry.Event (Submit (owner.Call x c) id r) ∷ past)) at_lane k))
        (rw test at is)
    by_owner owner.Setup k test is = absurd cc
    by_owner owner.Close k test is = absurd cc

    by_test : (b : Bool) → (if b then own past lane n ++ (count_submitted past, r) ∷ [] else own past lane n)
        ≡ first ∷ later
        → is_asked_by (asked_at past place) lane n ≡ true
        → ((l : Own) → own past lane n ≡ first ∷ l → is_asked_by (asked_at past place) lane n ≡ true
        → is_one_of (closed_before s past place) first.0 ≡ false) → is_one_of (closed_before s past place) first.0
        ≡ false
    by_test false is old again = again later is old
    by_test true is old again =
        elim (front_of (own past lane n) (count_submitted past, r) first later is) [
          | inl none ↦ absurd (let has = asker_owns past lane n place old in let clash : false ≡ true =
              sym (ap (λ (o : Own). has_place o place) none.0) ∙ has in cc)
          | inr some ↦ again some.0 some.1 old
        ]
open_own s (_ ∷ past) lane n place first later j is mine = open_own s past lane n place first later j.1 is mine
