-- The invariant at the start of a session, where its lanes have done nothing.
use Rattle.std.proofs.Common.{◌≡◌, ◌==◌, if◌then◌else◌, ℕ, Bool, true, false, List, [], ◌∷◌, Option, Some, None, refl, ap, sym, ◌∙◌}
use Rattle.std.specs.Prelude.{◌&&◌, ◌+◌, ◌++◌}
use Rattle.sftp_model.specs.declared.reply.Reply.{Reply}
use Rattle.sftp_model.specs.declared.request.Request.{Request}
use Rattle.sftp_model.specs.Answers.{is_handle}
use Rattle.sftp_core.specs.Core.{Core, record_at}
use Rattle.plan_model.specs.declared.call.Call.{Call}
use Rattle.session_model.specs.declared.event.Owner.{Owner}
use Rattle.session_model.specs.declared.event.Event.TheVariants.{Send, Submit, Take}
use Rattle.session_model.specs.declared.entry.Entry.{Entry}
use Rattle.session_model.specs.Readings.{answer, AskedRequest, count_submitted, asked_at, bearer, count_ended, is_at, is_by, own}
use Rattle.session_model.specs.Calls.{Setting}
use Rattle.session_model.specs.Grants.{is_asked_by, is_granted, holds}
use Rattle.session_model.specs.Ids.{id_state}
use Rattle.session_laws.specs.Lanes.{CoreTied, SessionTied, among, is_of}
use Rattle.session_laws.specs.Dues.{AreDueGrants}
use Rattle.session_laws.specs.Tables.{TableMatches}
use Rattle.session_laws.specs.Changes.{HasNoHistory, fresh_lane, StaysUnbegun}
use Rattle.session_laws.proofs.TakeDues.{among_none}
use Rattle.session_laws.proofs.BareSites.{bare_pends, bare_within}
use Rattle.session_laws.proofs.TableLaws.{stand_same}
use Rattle.session_model.specs.declared.event.Owner.TheVariants as owner
use Rattle.session_model.specs.declared.entry.Entry.TheVariants as entry

-- ---- journals in which nothing has happened to a lane

pub unbegun_start : (s : Setting) → HasNoHistory s []
unbegun_start s = record {
  ends = λ lane. refl;
  owns = λ lane. refl;
  asks = λ p lane a is. absurd cc;
  site =
      λ lane. refl;
  ungranted = λ g. refl;
}

pub unbegun_setup : (s : Setting) (past : List Entry) (id : ℕ) (r : Request) → HasNoHistory s past
    → HasNoHistory s (entry.Event (Submit owner.Setup id r) ∷ past)
unbegun_setup s past id r u =
    record {
      ends = u.ends;
      owns = u.owns;
      asks = λ p lane a is. by_place p lane a (p == count_submitted past) is;
      site = u.site;
      ungranted = u.ungranted;
    }
  where
    by_place : (p lane : ℕ) (a : AskedRequest) (b : Bool) → (if b then
        Some (record { by = owner.Setup; id = id; request = r }) else asked_at past p) ≡ Some a → is_of a.by lane
        ≡ false
    by_place p lane a true is = (let same : (let x : AskedRequest = record { by = owner.Setup; id = id; request = r } in
        x)
        ≡ a = cc in ap (λ (x : AskedRequest). is_of x.by lane) (sym same))
    by_place p lane a false is = u.asks p lane a is

pub unbegun_send : (s : Setting) (past : List Entry) → HasNoHistory s past → HasNoHistory s (entry.Event Send ∷ past)
unbegun_send s past u = record { ends = u.ends; owns = u.owns; asks = u.asks; site = u.site; ungranted = u.ungranted }

pub unbegun_take : (s : Setting) (past : List Entry) (id : ℕ) (r : Reply) → is_handle r ≡ false → HasNoHistory s past
    → HasNoHistory s (entry.Event (Take id r) ∷ past)
unbegun_take s past id r plain u =
    record {
      ends = u.ends;
      owns = u.owns;
      asks = u.asks;
      site = u.site;
      ungranted =
          λ g. by_place g (is_at (bearer past id) g);
    }
  where
    by_place : (g : ℕ) (b : Bool) → is_granted (if b then Some r else answer past g) ≡ false
    by_place g true = plain
    by_place g false = u.ungranted g

pub unbegun_added : (s : Setting) (past : List Entry) (l : ℕ) (c : Call) → HasNoHistory s past
    → HasNoHistory s (entry.Added l c ∷ past)
unbegun_added s past l c u = record {
  ends = u.ends;
  owns = u.owns;
  asks = u.asks;
  site = u.site;
  ungranted =
      u.ungranted;
}

-- ---- the session

-- Where nothing has happened to a lane, and the core has nothing that a lane wants, fresh lanes are what the journal
-- says.
pub start_tied : (s : Setting) (past : List Entry) (core : Core) → HasNoHistory s past → CoreTied s past core
    → TableMatches past (λ p. false) (λ p. false) (record_at core) → SessionTied s past core (λ lane. fresh_lane) []
start_tied s past core u work t =
    record {
      work = work;
      table = λ id. t id ∙ stand_same (λ p. false) (among past (λ w. [])) (λ p. false) (among past (λ w. []))
          (id_state past id) (λ p is. (sym (none p), sym (none p)));
      each = λ lane lt. record {
        ends = sym (u.ends lane);
        holds = record {
          tied = tt;
          tied_of = tt;
          tied_rise = tt;
          held = tt;
          held_of = tt;
          held_rise = tt;
          apart = λ g e. refl;
          asks = λ p mine none_yet. absurd (by_asked p lane (count_ended past lane) (asked_at past p) refl mine);
          whole = λ g granted unclosed holder out. absurd (let clash : false ≡ true = sym (u.ungranted g) ∙ granted in
              cc);
          holding = λ g e. absurd cc;
        };
        goes = record {
          sixteen = refl;
          within = bare_within s.facts [];
          runs = (ap (own past lane) (u.ends lane) ∙ u.owns lane, sym (u.site lane));
          sound = tt;
          awaits = bare_pends [] [];
        };
      };
    }
  where
    none : (p : ℕ) → among past (λ w. []) p ≡ false
    none p = among_none past (λ w. []) p (λ a l is mine. refl)

    asker : (o : Owner) (lane c : ℕ) → is_by o lane c ≡ true → is_of o lane ≡ true
    asker (owner.Call l n) lane c e = first (l == lane) (n == c) e
      where
        first : (a b : Bool) → (a && b) ≡ true → a ≡ true
        first true b e = refl
        first false b e = absurd cc
    asker owner.Setup lane c e = absurd cc
    asker owner.Close lane c e = absurd cc

    by_asked : (p lane c : ℕ) (x : Option AskedRequest) → asked_at past p ≡ x → is_asked_by x lane c ≡ true → ⊥
    by_asked p lane c None is e = absurd cc
    by_asked p lane c (Some a) is e = (let clash : false ≡ true = sym (u.asks p lane a is) ∙ asker a.by lane c e in
        absurd cc)

-- and nothing is due
pub start_dues : (s : Setting) (past : List Entry) → HasNoHistory s past → AreDueGrants s past []
start_dues s past u = record {
  each = λ g granted unclosed out. absurd
      (let clash : false ≡ true = sym (u.ungranted g) ∙ granted in cc);
  unheld = tt;
  rising = tt;
}

pub begins_unbegun : (s : Setting) → HasNoHistory s [] × ((past : List Entry) → HasNoHistory s past
    → StaysUnbegun s past)
begins_unbegun s = (
  unbegun_start s,
  λ past u. record {
    queried = λ id r. unbegun_setup s past id r u;
    sent = unbegun_send s past u;
    taken =
        λ id r plain. unbegun_take s past id r plain u;
    added = λ lane c. unbegun_added s past lane c u;
  },
)
