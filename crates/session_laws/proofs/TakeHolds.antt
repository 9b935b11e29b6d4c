-- What a lane has of tickets and grants as a reply is taken.
use Rattle.std.proofs.Common.{◌≡◌, ◌≢◌, ◌==◌, ℕ, Bool, true, false, List, [], ◌∷◌, Option, Some, None, refl, ap, sym, ◌∙◌, subst, if◌then◌else◌, inl, inr}
use Rattle.std.proofs.lemmas.Bool.{or_cases}
use Rattle.std.proofs.lemmas.Bool.Decides.{eqb_tells}
use Rattle.sftp_model.specs.declared.reply.Reply.{Reply}
use Rattle.sftp_model.specs.Answers.{expected_of}
use Rattle.sftp_model.specs.declared.slot.Site.{Site}
use Rattle.sftp_model.specs.Slots.{has_grant}
use Rattle.sftp_core.specs.Core.{Core, record_at}
use Rattle.plan_runner.specs.declared.next.Running.{Running}
use Rattle.session_model.specs.declared.event.Event.TheVariants.{Take}
use Rattle.session_model.specs.declared.entry.Entry.{Entry}
use Rattle.session_model.specs.Readings.{AskedRequest, answer, bearer, count_ended, own}
use Rattle.session_model.specs.Calls.{Setting, current, held_site, site_of}
use Rattle.session_model.specs.Grants.{holds, is_grant, is_granted, is_unended_asker}
use Rattle.session_model.proofs.HolderLaws.{slots_owned}
use Rattle.session_model.proofs.PlannedLaws.{held_less}
use Rattle.session_model.specs.Ids.{IdState, Free, Pending, Replied, id_state, now_replied, ReadsId}
use Rattle.session_model.proofs.IdLaws.{reads}
use Rattle.session_model.specs.Journals.{IsJournal}
use Rattle.session_model.proofs.RequestLaws.{answer_other}
use Rattle.session_laws.specs.Lanes.{
  CoreTied,
  AtTied,
  LaneValue,
  MayGoOn,
  SessionTied,
  among,
  GrantsTied,
  Held,
  LaneHolds,
  Ticketed,
  TicketsTied,
  grant_places,
  ticket_places,
  grants_of,
  tickets_of,
}
use Rattle.session_laws.specs.Tables.{place_of, record_of_reply}
use Rattle.session_laws.proofs.CancelLaws.{cancel_by}
use Rattle.session_laws.proofs.SameLaws.{of_same}
use Rattle.session_laws.proofs.RunningLaws.{tied_by}
use Rattle.session_laws.proofs.TableLaws.{take_tabled}
use Rattle.sftp_model.specs.declared.reply.Reply.TheVariants as reply
use Rattle.session_model.specs.declared.entry.Entry.TheVariants as entry

pub place_taken : (r : Reply) (b : Bool) (x : IdState) → place_of (if b then now_replied r x else x) ≡ place_of x
place_taken r false x = refl
place_taken r true Free = refl
place_taken r true (Pending place a was_sent) = refl
place_taken r true (Replied place a y) = refl

tied_taken : (past : List Entry) (id : ℕ) (r : Reply) (ts : List Ticketed) → TicketsTied past ts
    → TicketsTied (entry.Event (Take id r) ∷ past) ts
tied_taken past id r [] all = tt
tied_taken past id r (t ∷ ts) all = (
  place_taken r (id == t.ticket) (id_state past t.ticket) ∙ all.0,
  tied_taken past id r ts all.1,
)

held_taken : (past : List Entry) (id p : ℕ) (a : AskedRequest) (b : Bool) (r : Reply) (gs : List Held)
    → id_state past id
    ≡ Pending p a b → GrantsTied past gs → GrantsTied (entry.Event (Take id r) ∷ past) gs
held_taken past id p a b r [] is all = tt
held_taken past id p a b r (g ∷ gs) is all = ((all.0.0, stays), held_taken past id p a b r gs is all.1)
  where
    clash : (x y : IdState) (q : ℕ) (c : AskedRequest) (z : Reply) → x ≡ Pending p a b → y ≡ Replied q c z → x ≡ y → ⊥
    clash x y q c z ex ey e = (let no_way : Pending p a b ≡ Replied q c z = sym ex ∙ (e ∙ ey) in absurd cc)

    stays : id_state (entry.Event (Take id r) ∷ past) g.grant.id ≡ Replied g.place all.0.0 (reply.Handle g.grant.handle)
    stays = elim (eqb_tells id g.grant.id) [
      | inl t ↦ absurd (clash (id_state past id) (id_state past g.grant.id) g.place all.0.0
          (reply.Handle g.grant.handle) is all.0.1 (ap (id_state past) t.1))
      | inr t ↦ rw t.0 all.0.1
    ]

-- a reply to a request that waited, also one that nobody wants any more
pub take_holds : (s : Setting) (past : List Entry) (lane id p : ℕ) (a : AskedRequest) (b : Bool) (r : Reply)
    (ts : List Ticketed) (gs : List Held) (dues : List ℕ) → IsJournal s past → id_state past id ≡ Pending p a b
    → LaneHolds s past lane ts gs []
    → LaneHolds s (entry.Event (Take id r) ∷ past) lane ts gs dues
take_holds s past lane id p a b r ts gs dues j is h =
    let now : List Entry = entry.Event (Take id r) ∷ past in
    let read = subst (ReadsId past id) is (reads past id) in
    let here : bearer past id ≡ Some p = read.0 in
    let waited : answer past p ≡ None = read.1 in
    let other : (q : ℕ) → q ≢ p → answer now q ≡ answer past q =
    λ q ne. answer_other past id p q r here (λ e. ne (sym e)) in
    let back : (q : ℕ) → q ≢ p → is_grant now q ≡ true → is_grant past q ≡ true =
    λ q ne e. ap is_granted (sym (other q ne)) ∙ e in
    record {
      tied = tied_taken past id r ts h.tied;
      tied_of = of_same past now lane (ticket_places ts) (λ q. refl) h.tied_of;
      tied_rise = h.tied_rise;
      held = held_taken past id p a b r gs is h.held;
      held_of = of_same past now lane (grant_places gs) (λ q. refl) h.held_of;
      held_rise = h.held_rise;
      apart = h.apart;
      asks = λ q mine none. h.asks q mine (elim (eqb_tells q p) [
        | inl t ↦ ap (answer past) t.1 ∙ waited
        | inr t ↦ sym (other q t.1) ∙ none
      ]);
      whole = λ g granted unclosed holder out. elim (eqb_tells g p) [
        | inl t ↦ h.asks g (asks_it g t.1 waited holder) (ap (answer past) t.1 ∙ waited)
        | inr t ↦ h.whole g (back g t.1 granted) unclosed holder out
      ];
      holding = λ g e. (let was = h.holding g e in (
        ap is_granted (other g (λ same. (let clash : ◌≡◌ {A = Bool} false true =
            ap is_granted (sym (ap (answer past) same ∙ waited)) ∙ was.0 in absurd cc))) ∙ was.0,
        (was.1.0, λ out. was.1.1 refl),
      ));
    }
  where
    asks_it : (g : ℕ) → g ≡ p → answer past p ≡ None → holds s past g lane ≡ true → is_unended_asker past lane g ≡ true
    asks_it g same waited holder = elim (or_cases (has_grant (held_site s past lane) g) (is_unended_asker past lane g)
        holder) [
          | inl has ↦ absurd (let owned = slots_owned s past lane g j
              (held_less (current s past lane) (own past lane (count_ended past lane)) (site_of s past lane) g has) in
              let clash : ◌≡◌ {A = Bool} false true = ap is_granted (sym (ap (answer past) same ∙ waited)) ∙ owned.0 in
              cc)
          | inr asks ↦ asks
        ]

-- ---- the session

-- A reply was taken. What is due then is the caller's.
pub take_tied : (s : Setting) (past : List Entry) (core now : Core) (lanes : ℕ → LaneValue) (dues : List ℕ) (id p : ℕ)
    (a : AskedRequest) (b : Bool) (r : Reply) → IsJournal s past → id_state past id ≡ Pending p a b
    → SessionTied s past core lanes []
    → CoreTied s (entry.Event (Take id r) ∷ past) now
    → record_at now id ≡ record_of_reply (among past (tickets_of lanes) p) (among past (grants_of lanes) p)
    (expected_of a.request) r
    → ((i : ℕ) → i ≢ id → record_at now i ≡ record_at core i)
    → SessionTied s (entry.Event (Take id r) ∷ past) now lanes dues
take_tied s past core now lanes dues id p a b r j is h work here elsewhere =
    let e : List Entry = entry.Event (Take id r) ∷ past in
    record {
      work = work;
      table = take_tabled past (among past (tickets_of lanes)) (among past (grants_of lanes)) (record_at core)
          (record_at now) id p a b r is here elsewhere h.table;
      each = λ w lt. (let l = h.each w lt in record {
        ends = l.ends;
        holds = take_holds s past w id p a b r (lanes w).tickets (lanes w).grants dues j is l.holds;
        goes = record {
          sixteen = l.goes.sixteen;
          within = l.goes.within;
          runs = by_running w (lanes w).running (lanes w).site l.goes.runs;
          sound = by_sound w (lanes w).running (lanes w).site l.goes.sound;
          awaits = l.goes.awaits;
        };
      });
    }
  where
    stays : (q : ℕ) (y : Reply) → answer past q ≡ Some y → answer (entry.Event (Take id r) ∷ past) q ≡ Some y
    stays q y got = (let read = subst (ReadsId past id) is (reads past id) in
        answer_other past id p q r read.0 (λ same. (let clash : ◌≡◌ {A = Option Reply} None (Some y) = sym read.1
        ∙ (ap (answer past) same ∙ got) in absurd cc)) ∙ got)

    by_running : (w : ℕ) (x : Option Running) (site : Site) → AtTied s past w x site
        → AtTied s (entry.Event (Take id r) ∷ past) w x site
    by_running w None site t = t
    by_running w (Some x) site t = (
      tied_by s past (entry.Event (Take id r) ∷ past) w (Some x) site refl refl refl stays t.0,
      cancel_by s past (entry.Event (Take id r) ∷ past) w (Some x) site refl refl refl stays t.1,
      t.2,
    )

    by_sound : (w : ℕ) (x : Option Running) (site : Site) → MayGoOn s past w x site
        → MayGoOn s (entry.Event (Take id r) ∷ past) w x site
    by_sound w None site m = tt
    by_sound w (Some x) site m = m
