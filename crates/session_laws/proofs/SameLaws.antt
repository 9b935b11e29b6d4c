-- A lane is what it was behind an entry that leaves what the journal says of it.
use Rattle.std.specs.Prelude.{◌||◌, length}
use Rattle.std.proofs.Common.{refl, ◌≡◌, ◌≢◌, ℕ, zero, suc, Bool, true, false, List, [], ◌∷◌, Option, Some, None, ap, sym, ◌∙◌}
use Rattle.sftp_model.specs.declared.reply.Reply.{Reply}
use Rattle.sftp_model.specs.declared.slot.Site.{Site}
use Rattle.plan_runner.specs.declared.next.Running.{Running}
use Rattle.session_model.specs.declared.entry.Entry.{Entry}
use Rattle.session_model.specs.Readings.{AskedRequest, answer, asked_at, count_ended, own}
use Rattle.session_model.specs.Calls.{Setting, current, site_of}
use Rattle.session_model.specs.Grants.{any_below, is_held, closed_grants, holds, is_asked_by, is_granted, is_one_of}
use Rattle.session_model.specs.Ids.{Replied, id_state}
use Rattle.session_laws.specs.Lanes.{
  AllOf,
  AtTied,
  GrantsTied,
  Held,
  LaneGoes,
  LaneHolds,
  LaneTied,
  LaneValue,
  MayGoOn,
  Ticketed,
  TicketsTied,
  grant_places,
  ticket_places,
}
use Rattle.session_laws.specs.Places.{is_in}
use Rattle.session_laws.specs.Tables.{place_of}
use Rattle.session_laws.specs.Dues.{AllDue, AreDueGrants}
use Rattle.session_laws.proofs.CancelLaws.{cancel_by}
use Rattle.session_laws.proofs.RunningLaws.{tied_by}
use Rattle.sftp_model.specs.declared.reply.Reply.TheVariants as reply

-- what the journal says of a lane stays
pub record Same (s : Setting) (past now : List Entry) (w : ℕ) : Type 0 where
  pub places : (i : ℕ) → place_of (id_state now i) ≡ place_of (id_state past i)
  pub brought : (i p : ℕ) (a : AskedRequest) (handle : List ℕ) → id_state past i ≡ Replied p a (reply.Handle handle)
      → id_state now i ≡ Replied p a (reply.Handle handle)
  pub asks : (p : ℕ) → asked_at now p ≡ asked_at past p
  pub answers : (p : ℕ) → answer now p ≡ answer past p
  pub ends : count_ended now w ≡ count_ended past w
  pub calls : current s past w ≢ None → current s now w ≡ current s past w
  pub site : site_of s now w ≡ site_of s past w
  pub owns : own now w (count_ended now w) ≡ own past w (count_ended past w)
  pub gone : closed_grants s now ≡ closed_grants s past
  pub holders : (g : ℕ) → holds s now g w ≡ holds s past g w

pub tickets_same : (past now : List Entry) (ts : List Ticketed)
    → ((i : ℕ) → place_of (id_state now i) ≡ place_of (id_state past i)) → TicketsTied past ts → TicketsTied now ts
tickets_same past now [] same all = tt
tickets_same past now (t ∷ ts) same all = (same t.ticket ∙ all.0, tickets_same past now ts same all.1)

pub grants_same : (past now : List Entry) (gs : List Held) →
    ((i p : ℕ) (a : AskedRequest) (handle : List ℕ) → id_state past i ≡ Replied p a (reply.Handle handle)
    → id_state now i
    ≡ Replied p a (reply.Handle handle))
    → GrantsTied past gs → GrantsTied now gs
grants_same past now [] same all = tt
grants_same past now (g ∷ gs) same all = (
  (all.0.0, same g.grant.id g.place all.0.0 g.grant.handle all.0.1),
  grants_same past now gs same all.1,
)

pub of_same : (past now : List Entry) (lane : ℕ) (ps : List ℕ) → ((p : ℕ) → asked_at now p ≡ asked_at past p)
    → AllOf past lane ps → AllOf now lane ps
of_same past now lane [] same all = tt
of_same past now lane (p ∷ ps) same all = (
  (all.0.0, (same p ∙ all.0.1.0, all.0.1.1)),
  of_same past now lane ps same all.1,
)

-- what the lane has of tickets and grants, where no more of its grants are due than before
pub holds_same : (s : Setting) (past now : List Entry) (w : ℕ) (ts : List Ticketed) (gs : List Held)
    (dues rest : List ℕ) → Same s past now w
    → ((g : ℕ) → is_in g (grant_places gs) ≡ true → is_in g rest ≡ false → is_in g dues ≡ false)
    → LaneHolds s past w ts gs dues → LaneHolds s now w ts gs rest
holds_same s past now w ts gs dues rest k less h =
    record {
      tied = tickets_same past now ts k.places h.tied;
      tied_of = of_same past now w (ticket_places ts) k.asks h.tied_of;
      tied_rise = h.tied_rise;
      held = grants_same past now gs k.brought h.held;
      held_of = of_same past now w (grant_places gs) k.asks h.held_of;
      held_rise = h.held_rise;
      apart = h.apart;
      asks = λ p mine none. h.asks p (ap (λ x. is_asked_by x w (count_ended past w)) (sym (k.asks p))
          ∙ (ap (λ (n : ℕ). is_asked_by (asked_at now p) w n) (sym k.ends) ∙ mine)) (sym (k.answers p) ∙ none);
      whole = λ g granted unclosed holder out. h.whole g (ap is_granted (sym (k.answers g)) ∙ granted)
          (ap (λ c. is_one_of c g) (sym k.gone) ∙ unclosed) (sym (k.holders g) ∙ holder) out;
      holding = λ g e. (let was = h.holding g e in (
        ap is_granted (k.answers g) ∙ was.0,
        (ap (λ c. is_one_of c g) k.gone ∙ was.1.0, λ out. k.holders g ∙ was.1.1 (less g e out)),
      ));
    }

-- what it goes on with
pub goes_same : (s : Setting) (past now : List Entry) (w : ℕ) (running : Option Running) (site : Site)
    (tickets : List ℕ) → Same s past now w → LaneGoes s past w running site tickets
    → LaneGoes s now w running site tickets
goes_same s past now w running site tickets k l =
    record {
      sixteen = l.sixteen;
      within = l.within;
      runs = by_running running l.runs;
      sound = by_sound running l.runs l.sound;
      awaits = l.awaits;
    }
  where
    stays : (p : ℕ) (y : Reply) → answer past p ≡ Some y → answer now p ≡ Some y
    stays p y got = k.answers p ∙ got

    by_running : (x : Option Running) → AtTied s past w x site → AtTied s now w x site
    by_running None t = (k.owns ∙ t.0, t.1 ∙ sym k.site)
    by_running (Some r) t = (
      tied_by s past now w (Some r) site (k.calls t.2) k.site k.owns stays t.0,
      cancel_by s past now w (Some r) site (k.calls t.2) k.site k.owns stays t.1,
      λ none. t.2 (sym (k.calls t.2) ∙ none),
    )

    by_sound : (x : Option Running) → AtTied s past w x site → MayGoOn s past w x site → MayGoOn s now w x site
    by_sound None t m = tt
    by_sound (Some r) t m = λ c is. m c (sym (k.calls t.2) ∙ is)

pub lane_same : (s : Setting) (past now : List Entry) (w : ℕ) (v : LaneValue) (dues rest : List ℕ) → Same s past now w
    → ((g : ℕ) → is_in g (grant_places v.grants) ≡ true → is_in g rest ≡ false → is_in g dues ≡ false)
    → LaneTied s past w v dues → LaneTied s now w v rest
lane_same s past now w v dues rest k less l =
    record {
      ends = l.ends ∙ sym k.ends;
      holds = holds_same s past now w v.tickets v.grants dues rest k less l.holds;
      goes = goes_same s past now w v.running v.site (ticket_places v.tickets) k l.goes;
    }

-- what is due
pub dues_same : (s : Setting) (past now : List Entry) (dues : List ℕ) → ((w : ℕ) → Same s past now w)
    → AreDueGrants s past dues → AreDueGrants s now dues
dues_same s past now dues k d =
    record {
      each = λ g granted unclosed out. held g ∙ d.each g (ap is_granted (sym ((k 0).answers g)) ∙ granted)
          (ap (λ c. is_one_of c g) (sym (k 0).gone) ∙ unclosed) out;
      unheld = all_same dues d.unheld;
      rising = d.rising;
    }
  where
    any_same : (f h : ℕ → Bool) (n : ℕ) → ((w : ℕ) → f w ≡ h w) → any_below f n ≡ any_below h n
    any_same f h zero e = refl
    any_same f h (suc n) e = ap (λ b. b || any_below f n) (e n) ∙ ap (λ b. h n || b) (any_same f h n e)

    held : (g : ℕ) → is_held s now g ≡ is_held s past g
    held g = any_same (holds s now g) (holds s past g) (length s.lanes) (λ w. (k w).holders g)

    all_same : (gs : List ℕ) → AllDue s past gs → AllDue s now gs
    all_same [] all = tt
    all_same (g ∷ gs) all = (
      record {
        granted = ap is_granted ((k 0).answers g) ∙ all.0.granted;
        unheld = held g ∙ all.0.unheld;
        unclosed =
            ap (λ c. is_one_of c g) (k 0).gone ∙ all.0.unclosed;
      },
      all_same gs all.1,
    )
