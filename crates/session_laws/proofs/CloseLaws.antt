-- A session on runners, as it closes a grant that is due.
use Rattle.std.proofs.Common.{◌≡◌, ◌≢◌, ◌<◌, ℕ, zero, suc, Bool, true, false, List, [], ◌∷◌, Option, Some, None, refl, ap, sym, ◌∙◌, subst, inl, inr}
use Rattle.std.specs.Prelude.{length, slice_get}
use Rattle.std.proofs.lemmas.Bool.Decides.{eqb_tells}
use Rattle.sftp_model.specs.Answers.{expected_of}
use Rattle.sftp_model.specs.declared.request.Request.{Request}
use Rattle.sftp_core.specs.Core.{Core, record_at}
use Rattle.sftp_core.specs.declared.id_record.IdRecord.TheVariants.{Waiting}
use Rattle.plan_model.specs.Moves.{handle_of}
use Rattle.plan_runner.specs.declared.next.Running.{Running}
use Rattle.session_model.specs.declared.event.Owner.{Owner}
use Rattle.session_model.specs.declared.event.Event.TheVariants.{Submit}
use Rattle.session_model.specs.declared.entry.Entry.{Entry}
use Rattle.session_model.specs.Readings.{AskedRequest, answer, count_submitted, bearer}
use Rattle.session_model.specs.Calls.{Setting}
use Rattle.session_model.specs.Grants.{closed_grants, is_one_of, next_due}
use Rattle.session_model.specs.Ids.{Replied, id_state, ReadsId}
use Rattle.session_model.proofs.IdLaws.{reads}
use Rattle.session_model.specs.Journals.{IsJournal, close_of}
use Rattle.session_model.proofs.LetGoLaws.{Leaves, close_leaves}
use Rattle.session_model.proofs.RequestLaws.{asked_new, asked_other}
use Rattle.session_laws.specs.Lanes.{
  CoreTied,
  AllOf,
  AtTied,
  GrantsTied,
  Held,
  LaneTied,
  LaneValue,
  MayGoOn,
  SessionTied,
  among,
  by_asker,
  grant_places,
  ticket_places,
  grants_of,
  tickets_of,
}
use Rattle.session_laws.specs.Changes.{IsBare, with_lane, closed_lane}
use Rattle.session_laws.specs.Places.{with_places, IsRising, is_in, without_index}
use Rattle.session_laws.specs.Tables.{TableMatches, place_of}
use Rattle.session_laws.specs.Dues.{FewerDue}
use Rattle.session_laws.proofs.GoneLaws.{closed_own}
use Rattle.session_laws.proofs.AskHolds.{other_holds}
use Rattle.session_laws.proofs.HoldLaws.{of_in, of_without, one_lane}
use Rattle.session_laws.proofs.PlaceLaws.{at_in, without_other, without_out, without_rising, without_self}
use Rattle.session_laws.proofs.PollLaws.{among_other, among_self}
use Rattle.session_laws.proofs.SessionLaws.{each_with, same_places, table_with}
use Rattle.session_laws.proofs.TableLaws.{ask_tabled}
use Rattle.sftp_model.specs.declared.request.Request.TheVariants as request
use Rattle.sftp_model.specs.declared.reply.Reply.TheVariants as reply
use Rattle.session_model.specs.declared.event.Owner.TheVariants as owner
use Rattle.session_model.specs.declared.entry.Entry.TheVariants as entry

-- ---- a grant is gone

pub grant_index : (gs : List Held) (k : ℕ) (h : Held) → slice_get gs k ≡ Some h → slice_get (grant_places gs) k
    ≡ Some h.place
grant_index [] k h got = absurd cc
grant_index (x ∷ xs) zero h got = (let same : x ≡ h = cc in ap (λ (y : Held). Some y.place) same)
grant_index (x ∷ xs) (suc k) h got = grant_index xs k h got

pub grant_without : (gs : List Held) (k : ℕ) → grant_places (without_index k gs) ≡ without_index k (grant_places gs)
grant_without [] k = refl
grant_without (x ∷ xs) zero = refl
grant_without (x ∷ xs) (suc k) = ap (λ (l : List ℕ). x.place ∷ l) (grant_without xs k)

pub grant_state : (past : List Entry) (gs : List Held) (k : ℕ) (h : Held) → GrantsTied past gs → slice_get gs k ≡ Some h
    → (a : AskedRequest) × (id_state past h.grant.id ≡ Replied h.place a (reply.Handle h.grant.handle))
grant_state past [] k h all got = absurd cc
grant_state past (x ∷ xs) zero h all got = (let same : x ≡ h = cc in
    subst (λ (y : Held). (a : AskedRequest) × (id_state past y.grant.id
    ≡ Replied y.place a (reply.Handle y.grant.handle)))
    same all.0)
grant_state past (x ∷ xs) (suc k) h all got = grant_state past xs k h all.1 got

pub held_without : (past : List Entry) (gs : List Held) (k : ℕ) → GrantsTied past gs
    → GrantsTied past (without_index k gs)
held_without past [] k all = tt
held_without past (x ∷ xs) zero all = all.1
held_without past (x ∷ xs) (suc k) all = (all.0, held_without past xs k all.1)

pub in_left : (ps : List ℕ) (k q : ℕ) → is_in q (without_index k ps) ≡ true → is_in q ps ≡ true
in_left ps k q e = by_test (is_in q ps) refl
  where
    by_test : (b : Bool) → is_in q ps ≡ b → b ≡ true
    by_test true is = refl
    by_test false is = absurd (let clash : false ≡ true = sym (without_out ps k q is) ∙ e in cc)

-- ---- its CLOSE

pub one_more : (g q : ℕ) (gone : List (Option ℕ)) → q ≢ g → is_one_of gone q ≡ false → is_one_of (Some g ∷ gone) q
    ≡ false
one_more g q gone ne e = elim (eqb_tells g q) [ inl t ↦ absurd (ne (sym t.1)) | inr t ↦ rw t.0 e ]

pub one_less : (g q : ℕ) (gone : List (Option ℕ)) → is_one_of (Some g ∷ gone) q ≡ false → (q ≢ g)
    × (is_one_of gone q ≡ false)
one_less g q gone e = elim (eqb_tells g q) [
  | inl t ↦ absurd (let clash : true ≡ false = rw t.0 at e in cc)
  | inr t ↦
      ((λ same. t.1 (sym same)), rw t.0 at e)
]

pub out_more : (g q : ℕ) (dues : List ℕ) → q ≢ g → is_in q dues ≡ false → is_in q (g ∷ dues) ≡ false
out_more g q dues ne e = elim (eqb_tells g q) [ inl t ↦ absurd (ne (sym t.1)) | inr t ↦ rw t.0 e ]

-- a lane that has no such grant any more
close_lane : (s : Setting) (past : List Entry) (lane g id : ℕ) (v : LaneValue) (left : List Held) (dues rest : List ℕ)
    → IsJournal s (close_of past g id ∷ past) → next_due s past ≡ Some g → FewerDue g dues rest
    → LaneTied s past lane v dues
    → place_of (id_state past id) ≡ Some g → is_in g (ticket_places v.tickets) ≡ false → is_in g (grant_places left)
    ≡ false
    → GrantsTied past left → AllOf past lane (grant_places left) → IsRising (grant_places left)
    → ((q : ℕ) → is_in q (grant_places left) ≡ true → is_in q (grant_places v.grants) ≡ true)
    → ((q : ℕ) → q ≢ g → is_in q (grant_places left) ≡ false → is_in q (grant_places v.grants) ≡ false)
    → LaneTied s (close_of past g id ∷ past) lane (record {
      running = v.running;
      site = v.site;
      tickets = v.tickets;
      grants = left;
      ended = v.ended;
    }) rest
close_lane s past lane g id v left dues rest j due fewer l borne no_ticket no_grant held held_of rise some gone =
    let now : List Entry = close_of past g id ∷ past in
    let r : Request = request.Close (handle_of (answer past g)) in
    let more : closed_grants s now ≡ Some g ∷ closed_grants s past = closed_own s past g id due in
    let keep : Leaves s past now = close_leaves s past g id in
    let less : (q : ℕ) → is_one_of (closed_grants s now) q ≡ false → (q ≢ g)
    × (is_one_of (closed_grants s past) q ≡ false) =
    λ q e. one_less g q (closed_grants s past) (ap (λ c. is_one_of c q) (sym more) ∙ e) in
    let not_it : (q : ℕ) → is_in q (grant_places left) ≡ true → q ≢ g =
    λ q e same. (let clash : false ≡ true = sym no_grant ∙ (ap (λ (n : ℕ). is_in n (grant_places left)) (sym same)
    ∙ e) in absurd cc) in
    let bare : (ps : List ℕ) → is_in g ps ≡ false → IsBare past id ps =
    λ ps out p is. (let same : g ≡ p = some_is g p (sym borne ∙ is) in ap (λ (n : ℕ). is_in n ps) (sym same) ∙ out)
    in
    record {
      ends = l.ends;
      holds = other_holds s past lane owner.Close id r v.tickets v.grants left dues rest j refl
          (bare (ticket_places v.tickets) no_ticket) (bare (grant_places left) no_grant)
          (record {
            held = held;
            held_of = held_of;
            held_rise = rise;
            some = some;
            gone = λ q out unclosed. gone q (less q unclosed).0 out;
            unclosed = λ q e. ap (λ c. is_one_of c q) more ∙ one_more g q (closed_grants s past) (not_it q e)
                (l.holds.holding q (some q e)).1.0;
            less = λ q e. (less q e).1;
            holder = λ q e granted out was. keep.held q lane ∙ was (fewer q (not_it q e) out);
          }) l.holds;
      goes = record {
        sixteen = l.goes.sixteen;
        within = l.goes.within;
        runs = by_running v.running l.goes.runs;
        sound = by_sound v.running l.goes.sound;
        awaits = l.goes.awaits;
      };
    }
  where
    some_is : (m n : ℕ) → (◌≡◌ {A = Option ℕ} (Some m) (Some n)) → m ≡ n
    some_is m n e = cc

    by_running : (x : Option Running) → AtTied s past lane x v.site → AtTied s (close_of past g id ∷ past) lane x v.site
    by_running None t = t
    by_running (Some r) t = t

    by_sound : (x : Option Running) → MayGoOn s past lane x v.site → MayGoOn s (close_of past g id ∷ past) lane x v.site
    by_sound None m = tt
    by_sound (Some r) m = m

-- among the places below a new request, each is among the same
pub among_below : (past : List Entry) (o : Owner) (id : ℕ) (r : Request) (places : ℕ → List ℕ) (p : ℕ)
    → p < count_submitted past
    → among past places p ≡ among (entry.Event (Submit o id r) ∷ past) places p
among_below past o id r places p lt = ap (λ x. by_asker x (λ l. is_in p (places l)))
    (sym (asked_other past o id p r lt))

among_new : (past : List Entry) (id : ℕ) (r : Request) (places : ℕ → List ℕ)
    → among (entry.Event (Submit owner.Close id r) ∷ past) places (count_submitted past) ≡ false
among_new past id r places = ap (λ x. by_asker x (λ l. is_in (count_submitted past) (places l)))
    (asked_new past owner.Close id r)

-- The grant that is due next has its CLOSE; the others are due.
pub close_tied : (s : Setting) (past : List Entry) (core now : Core) (lanes : ℕ → LaneValue) (dues rest : List ℕ)
    (g id k lane : ℕ) (handle : List ℕ) → SessionTied s past core lanes dues → IsJournal s (close_of past g id ∷ past)
    → next_due s past ≡ Some g → FewerDue g dues rest → lane < length s.lanes
    → slice_get (lanes lane).grants k ≡ Some (record { place = g; grant = record { id = id; handle = handle } })
    → CoreTied s (close_of past g id ∷ past) now → record_at now id ≡ Some
    (Waiting (expected_of (request.Close (handle_of (answer past g)))) false false)
    → ((i : ℕ) → i ≢ id → record_at now i ≡ record_at core i)
    → SessionTied s (close_of past g id ∷ past) now (with_lane lanes lane (closed_lane (lanes lane) k)) rest
close_tied s past core now lanes dues rest g id k lane handle h j due fewer there got work here elsewhere =
    let e : List Entry = close_of past g id ∷ past in
    let r : Request = request.Close (handle_of (answer past g)) in
    let v : LaneValue = lanes lane in
    let it : Held = record { place = g; grant = record { id = id; handle = handle } } in
    let l : LaneTied s past lane v dues = h.each lane there in
    let gs : List ℕ = grant_places v.grants in
    let at_k : slice_get gs k ≡ Some g = grant_index v.grants k it got in
    let mine : is_in g gs ≡ true = at_in gs k g at_k in
    let state = grant_state past v.grants k it l.holds.held got in
    let borne : place_of (id_state past id) ≡ Some g = ap place_of state.1 in
    let left : grant_places (without_index k v.grants) ≡ without_index k gs = grant_without v.grants k in
    let out : is_in g (grant_places (without_index k v.grants)) ≡ false = ap (is_in g) left
    ∙ without_self gs k g l.holds.held_rise at_k in
    let bears : bearer past id ≡ Some g = (subst (ReadsId past id) state.1 (reads past id)).0 in
    let w : ℕ → Bool = among past (tickets_of lanes) in
    let v_now : ℕ → Bool = among e (with_places (tickets_of lanes) lane (tickets_of lanes lane)) in
    let g_now : ℕ → Bool = among e (with_places (grants_of lanes) lane (without_index k gs)) in
    let tickets_same : tickets_of lanes ≡ with_places (tickets_of lanes) lane (tickets_of lanes lane) =
    λ i u. same_places (tickets_of lanes) lane (tickets_of lanes lane) refl u i in
    let same : (p : ℕ) → p < count_submitted past → bearer past id ≢ Some p → (w p ≡ v_now p)
    × (among past (grants_of lanes) p ≡ g_now p) = λ p lt ne. (
      ap (λ (f : ℕ → List ℕ). among past f p) tickets_same ∙ among_below past owner.Close id r
          (with_places (tickets_of lanes) lane (tickets_of lanes lane)) p lt,
      among_other past (grants_of lanes) lane p (without_index k gs) (without_other gs k g p at_k
          (λ is. ne (bears ∙ ap (λ (n : ℕ). Some n) (sym is)))) ∙ among_below past owner.Close id r
          (with_places (grants_of lanes) lane (without_index k gs)) p lt,
    ) in
    let table : TableMatches e v_now g_now (record_at now) = ask_tabled past w v_now (among past (grants_of lanes))
    g_now (record_at core) (record_at now) owner.Close id r
    (here ∙ ap (λ (b : Bool). Some (Waiting (expected_of r) false b))
    (sym (among_new past id r (with_places (tickets_of lanes) lane (tickets_of lanes lane))))) elsewhere same
    h.table in
    record {
      work = work;
      table = table_with e lanes lane (closed_lane v k) (tickets_of lanes lane) (without_index k gs) (record_at now)
          refl (sym left) table;
      each = each_with (λ u x. LaneTied s e u x rest) lanes lane (closed_lane v k) (length s.lanes)
          (close_lane s past lane g id v (without_index k v.grants) dues rest j due fewer l borne (l.holds.apart g mine)
          out
          (held_without past v.grants k l.holds.held)
          (subst (λ (x : List ℕ). AllOf past lane x) (sym left) (of_without past lane gs k l.holds.held_of))
          (subst (λ (x : List ℕ). IsRising x) (sym left) (without_rising gs k l.holds.held_rise))
          (λ q is. in_left gs k q (ap (is_in q) (sym left) ∙ is))
          (λ q ne is. sym (without_other gs k g q at_k ne) ∙ (ap (is_in q) (sym left) ∙ is)))
          (λ u lt ne. (let o : LaneTied s past u (lanes u) dues = h.each u lt in
          let other : (ps : List ℕ) → AllOf past u ps → is_in g ps ≡ false =
          λ ps all. never (is_in g ps) (λ is. ne (one_lane past g lane u (of_in past lane gs g l.holds.held_of mine)
          (of_in past u ps g all is))) in
          close_lane s past u g id (lanes u) (lanes u).grants dues rest j due fewer o borne
          (other (ticket_places (lanes u).tickets) o.holds.tied_of)
          (other (grant_places (lanes u).grants) o.holds.held_of) o.holds.held o.holds.held_of o.holds.held_rise
          (λ q is. is) (λ q apart is. is)));
    }
  where
    never : (b : Bool) → (b ≡ true → ⊥) → b ≡ false
    never true h = absurd (h refl)
    never false h = refl

-- ---- the CLOSE of a handle that no lane has

-- what is due next has its CLOSE, where it is no ticket and no grant of a lane
pub close_unheld_tied : (s : Setting) (past : List Entry) (core now : Core) (lanes : ℕ → LaneValue) (dues rest : List ℕ)
    (g id : ℕ) → SessionTied s past core lanes dues → IsJournal s (close_of past g id ∷ past) → next_due s past ≡ Some g
    → FewerDue g dues rest
    → place_of (id_state past id) ≡ Some g → among past (tickets_of lanes) g ≡ false → among past (grants_of lanes) g
    ≡ false
    → CoreTied s (close_of past g id ∷ past) now → record_at now id ≡ Some
    (Waiting (expected_of (request.Close (handle_of (answer past g)))) false false)
    → ((i : ℕ) → i ≢ id → record_at now i ≡ record_at core i)
    → SessionTied s (close_of past g id ∷ past) now lanes rest
close_unheld_tied s past core now lanes dues rest g id h j due fewer borne no_ticket no_grant work here elsewhere =
    let e : List Entry = close_of past g id ∷ past in
    let r : Request = request.Close (handle_of (answer past g)) in
    record {
      work = work;
      table = ask_tabled past (among past (tickets_of lanes)) (among e (tickets_of lanes))
          (among past (grants_of lanes)) (among e (grants_of lanes)) (record_at core) (record_at now) owner.Close id r
          (here ∙ ap (λ (b : Bool). Some (Waiting (expected_of r) false b))
          (sym (among_new past id r (tickets_of lanes)))) elsewhere
          (λ p lt ne. (
            among_below past owner.Close id r (tickets_of lanes) p lt,
            among_below past owner.Close id r (grants_of lanes) p lt,
          )) h.table;
      each = λ w lt. (let l : LaneTied s past w (lanes w) dues = h.each w lt in
          close_lane s past w g id (lanes w) (lanes w).grants dues rest j due fewer l borne
          (away (tickets_of lanes) w no_ticket l.holds.tied_of) (away (grants_of lanes) w no_grant l.holds.held_of)
          l.holds.held l.holds.held_of l.holds.held_rise
          (λ q is. is) (λ q apart is. is));
    }
  where
    away : (places : ℕ → List ℕ) (w : ℕ) → among past places g ≡ false → AllOf past w (places w) → is_in g (places w)
        ≡ false
    away places w none all = by_test (is_in g (places w)) refl
      where
        by_test : (b : Bool) → is_in g (places w) ≡ b → b ≡ false
        by_test false e = refl
        by_test true e = absurd (let mine = of_in past w (places w) g all e in let clash : false ≡ true = sym none
            ∙ (among_self past places w g mine.0 mine.1.0 mine.1.1 ∙ e) in cc)
