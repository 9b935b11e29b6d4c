-- The other lanes, as a lane submits a request.
use Rattle.std.proofs.Common.{◌≡◌, ◌≢◌, ℕ, true, false, List, [], ◌∷◌, Option, Some, None, refl, ap, ◌∙◌, inl, inr}
use Rattle.std.specs.Prelude.{◌||◌}
use Rattle.std.proofs.lemmas.Bool.Decides.{eqb_tells}
use Rattle.sftp_model.specs.declared.request.Request.{Request}
use Rattle.sftp_model.specs.declared.slot.Site.{Site}
use Rattle.sftp_model.specs.Slots.{has_grant}
use Rattle.plan_model.specs.Moves.{Own}
use Rattle.plan_runner.specs.declared.next.Running.{Running}
use Rattle.session_model.specs.declared.event.Owner.{Owner}
use Rattle.session_model.specs.declared.event.Event.TheVariants.{Submit}
use Rattle.session_model.specs.declared.entry.Entry.{Entry}
use Rattle.session_model.specs.Readings.{count_ended, is_by, own}
use Rattle.session_model.specs.Calls.{Setting, current, held_by, held_site, site_of}
use Rattle.session_model.proofs.CallLaws.{own_other}
use Rattle.session_model.specs.Grants.{closed_grants, holds, is_grant, is_one_of, is_unended_asker}
use Rattle.session_model.specs.Journals.{IsJournal}
use Rattle.session_laws.specs.Changes.{IsBare}
use Rattle.session_laws.specs.Places.{is_in}
use Rattle.session_laws.specs.Lanes.{AtTied, LaneTied, LaneValue, MayGoOn, grant_places, ticket_places}
use Rattle.session_laws.proofs.GoneLaws.{asker_stays}
use Rattle.session_laws.proofs.AskHolds.{other_holds}
use Rattle.session_laws.proofs.CancelLaws.{cancel_by}
use Rattle.session_laws.proofs.RunningLaws.{tied_other}
use Rattle.session_model.specs.declared.event.Owner.TheVariants as owner
use Rattle.session_model.specs.declared.entry.Entry.TheVariants as entry

pub not_by : (lane w c d : ℕ) → lane ≢ w → is_by (owner.Call lane c) w d ≡ false
not_by lane w c d ne = elim (eqb_tells lane w) [ inl t ↦ absurd (ne t.1) | inr t ↦ rw t.0 refl ]

-- what another lane holds it goes on to hold
pub other_holder : (s : Setting) (past : List Entry) (o : Owner) (id : ℕ) (r : Request) (g w : ℕ)
    → is_by o w (count_ended past w) ≡ false → is_grant past g ≡ true → holds s (entry.Event (Submit o id r) ∷ past) g w
    ≡ holds s past g w
other_holder s past o id r g w other granted =
    let now : List Entry = entry.Event (Submit o id r) ∷ past in
    let mine : own now w (count_ended past w) ≡ own past w (count_ended past w) =
    own_other past o id r w (count_ended past w) other in
    let site : held_site s now w ≡ held_site s past w = ap (λ (p : Own). held_by (current s past w) p
    (site_of s past w)) mine in
    ap (λ (x : Site). has_grant x g || is_unended_asker now w g) site
    ∙ ap (λ b. has_grant (held_site s past w) g || b) (asker_stays past o id r g w granted)

-- another lane behind a request of a lane: its grants have no CLOSE by it
pub other_ask : (s : Setting) (past : List Entry) (lane w id : ℕ) (r : Request) (v : LaneValue)
    → IsJournal s (entry.Event (Submit (owner.Call lane (count_ended past lane)) id r) ∷ past) → lane ≢ w
    → LaneTied s past w v []
    → IsBare past id (ticket_places v.tickets) → IsBare past id (grant_places v.grants)
    → ((q : ℕ) → is_in q (grant_places v.grants) ≡ true → is_one_of
    (closed_grants s (entry.Event (Submit (owner.Call lane (count_ended past lane)) id r) ∷ past)) q ≡ false)
    → ((q : ℕ) → is_one_of (closed_grants s (entry.Event (Submit (owner.Call lane (count_ended past lane)) id r) ∷
    past)) q ≡ false → is_one_of (closed_grants s past) q ≡ false)
    → LaneTied s (entry.Event (Submit (owner.Call lane (count_ended past lane)) id r) ∷ past) w v []
other_ask s past lane w id r v j ne l bare bare_grants unclosed less =
    let o : Owner = owner.Call lane (count_ended past lane) in
    let other : is_by o w (count_ended past w) ≡ false = not_by lane w (count_ended past lane) (count_ended past w) ne
    in
    record {
      ends = l.ends;
      holds = other_holds s past w o id r v.tickets v.grants v.grants [] [] j other bare bare_grants
          (record {
            held = l.holds.held;
            held_of = l.holds.held_of;
            held_rise = l.holds.held_rise;
            some = λ q e. e;
            gone = λ q out e. out;
            unclosed = unclosed;
            less = less;
            holder = λ q e granted out was. other_holder s past o id r q w other granted ∙ was refl;
          }) l.holds;
      goes = record {
        sixteen = l.goes.sixteen;
        within = l.goes.within;
        runs = by_running other v.running l.goes.runs;
        sound = by_sound v.running l.goes.sound;
        awaits = l.goes.awaits;
      };
    }
  where
    by_running : is_by (owner.Call lane (count_ended past lane)) w (count_ended past w) ≡ false → (x : Option Running)
        → AtTied s past w x v.site → AtTied s (entry.Event (Submit (owner.Call lane (count_ended past lane)) id r) ∷
        past) w x
        v.site
    by_running other None t = (
      own_other past (owner.Call lane (count_ended past lane)) id r w (count_ended past w)
          other ∙ t.0,
      t.1,
    )
    by_running other (Some x) t = (
      tied_other s past w id (owner.Call lane (count_ended past lane)) r (Some x) v.site other t.0,
      cancel_by s past (entry.Event (Submit (owner.Call lane (count_ended past lane)) id r) ∷ past) w (Some x) v.site
          refl
          refl (own_other past (owner.Call lane (count_ended past lane)) id r w (count_ended past w) other) (λ p q e. e)
          t.1,
      t.2,
    )

    by_sound : (x : Option Running) → MayGoOn s past w x v.site
        → MayGoOn s (entry.Event (Submit (owner.Call lane (count_ended past lane)) id r) ∷ past) w x v.site
    by_sound None m = tt
    by_sound (Some x) m = m
