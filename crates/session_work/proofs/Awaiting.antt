-- What a lane of a session at rest awaits, and that its slots' grants are its own.
use Rattle.std.proofs.Common.{◌≡◌, ◌<◌, ℕ, Bool, true, false, List, [], Option, Some, None, refl, ap, sym, ◌∙◌, subst, arith, inl, inr}
use Rattle.std.specs.Prelude.{length}
use Rattle.sftp_model.specs.Answers.{may_answer}
use Rattle.sftp_model.specs.Slots.{has_grant}
use Rattle.sftp_model.specs.declared.reply.Reply.{Reply}
use Rattle.sftp_model.specs.declared.slot.Site.{Site}
use Rattle.sftp_core.specs.Core.{Core, record_at, reply_in}
use Rattle.plan_runner.specs.declared.next.Running.{Running}
use Rattle.plan_runner.specs.declared.next.Running.TheVariants as running
use Rattle.plan_runner.specs.Runners.{awaited_place}
use Rattle.plan_runner.specs.Pending.{own_place}
use Rattle.plan_runner.specs.Sound.{IsFittingReply}
use Rattle.session_model.specs.declared.entry.Entry.{Entry}
use Rattle.session_model.specs.Readings.{answer, asked_at, count_ended, own}
use Rattle.session_model.specs.Calls.{Setting, current, held_site, site_of}
use Rattle.session_model.specs.Grants.{holds, is_asked_by, is_grant, is_unended_asker}
use Rattle.session_model.specs.Journals.{IsJournal}
use Rattle.session_model.proofs.CallsSoFar.{reply_may}
use Rattle.session_model.proofs.HolderLaws.{slots_owned}
use Rattle.session_model.proofs.PlannedLaws.{held_less}
use Rattle.session_laws.specs.Lanes.{LaneTied, LaneValue, SessionTied, grant_places, ticket_places}
use Rattle.session_laws.specs.Places.{is_in}
use Rattle.session_laws.proofs.HoldLaws.{held_unclosed, of_in, ticket_index}
use Rattle.session_laws.proofs.LaneLaws.{replies_agree, slots_agree}
use Rattle.session_laws.proofs.OrderLaws.{asked_before}
use Rattle.session_laws.proofs.PlaceLaws.{at_in}
use Rattle.session_laws.specs.Rest.{LaneAsks, RunFits, awaited_in}
use Rattle.session_laws.proofs.TransferLaws.{transfer_ungranted}
use Rattle.session_work.specs.Turning.{AllFit, HoldsNamed}
use Rattle.session_work.specs.Holding.{HandlesAreAwaited}
use Rattle.session_work.specs.Rests.{LanesAwaitReplies}

-- ---- what is awaited

-- a call awaits the reply to its own request, where it has one
pub own_awaited : (r : Running) (site : Site) (p : ℕ) → own_place (Some r) ≡ Some p → awaited_place r site ≡ Some p
own_awaited (running.Ending place ends) site p e = e
own_awaited (running.Opening place slot flags) site p e = e
own_awaited (running.Reading place slot file len) site p e = e
own_awaited (running.Gathering place slot file got left len) site p e = e
own_awaited (running.Sending place slot file len) site p e = e
own_awaited (running.Writing place slot file done) site p e = e
own_awaited (running.OpeningToWrite place) site p e = e
own_awaited (running.OpeningToRead place bound) site p e = e
own_awaited (running.OpeningDirectory place bound) site p e = e
own_awaited (running.Listing place grant got bound) site p e = e
own_awaited (running.Copying place from to source target len) site p e = e
own_awaited (running.Flushing slot) site p e = absurd cc
own_awaited (running.AwaitingRoom slot start) site p e = absurd cc
own_awaited (running.Deferred slot count) site p e = absurd cc
own_awaited (running.DeferringRest slot done) site p e = absurd cc
own_awaited (running.FillingBuffer slot n offset own) site p e = absurd cc
own_awaited (running.ReadingWhole grant bound window) site p e = absurd cc

-- where the call awaits none, it awaits none of its own
pub none_own : (r : Running) (site : Site) → awaited_place r site ≡ None → own_place (Some r) ≡ None
none_own r site none = by_place (own_place (Some r)) refl
  where
    by_place : (o : Option ℕ) → own_place (Some r) ≡ o → o ≡ None
    by_place None is = refl
    by_place (Some p) is = absurd (let clash : ◌≡◌ {A = Option ℕ} None (Some p) = sym none ∙ own_awaited r site p is in
        cc)

-- a HANDLE is the reply to the request that the lane's current call awaits
pub handles_awaited : (s : Setting) (past : List Entry) (lane : ℕ) (v : LaneValue) → IsJournal s past
    → LaneAsks past lane v → v.ended ≡ count_ended past lane → HandlesAreAwaited past lane v
handles_awaited s past lane v j a same p has granted = elim (a.only p has) [
  | inl mine ↦ (current_is mine, by_running v.running refl mine)
  | inr t ↦ absurd (let clash : false ≡ true = sym (transfer_ungranted s past p j t) ∙ granted in cc)
]
  where
    current_is : own_place v.running ≡ Some p → is_unended_asker past lane p ≡ true
    current_is mine = ap (is_asked_by (asked_at past p) lane) (sym same) ∙ a.current p mine

    by_running : (x : Option Running) → v.running ≡ x → own_place v.running ≡ Some p → (r : Running)
        × ((v.running ≡ Some r) × (awaited_place r v.site ≡ Some p))
    by_running None is e = absurd (let clash : ◌≡◌ {A = Option ℕ} None (Some p) = sym (ap own_place is) ∙ e in cc)
    by_running (Some r) is e = (r, (is, own_awaited r v.site p (ap own_place (sym is) ∙ e)))

-- ---- what came fits

nothing_fits : (r : Running) → IsFittingReply r None
nothing_fits (running.Reading place slot file len) = tt
nothing_fits (running.Gathering place slot file got left len) = tt
nothing_fits (running.FillingBuffer slot n offset own) = tt
nothing_fits (running.ReadingWhole grant bound window) = tt
nothing_fits r = tt

fits_by : (s : Setting) (past : List Entry) (lane : ℕ) (v : LaneValue) (r : Running) (p : ℕ) (o : Option Reply)
    → IsJournal s past → LaneTied s past lane v [] → LaneAsks past lane v → v.running ≡ Some r → awaited_place r v.site
    ≡ Some p → is_in p (ticket_places v.tickets) ≡ true
    → answer past p ≡ o → IsFittingReply r o
fits_by s past lane v r p None j l a was looks has is = nothing_fits r
fits_by s past lane v r p (Some y) j l a was looks has is =
    (let asks = of_in past lane (ticket_places v.tickets) p l.holds.tied_of has in
    let may : may_answer asks.0.request y ≡ true = reply_may s past p y asks.0 j is asks.1.0 in
    subst (λ (x : Option Running). RunFits x y) was (a.fits p asks.0 y
    (ap (λ (x : Option Running). awaited_in x v.site) was ∙ looks) asks.1.0 may))

pub all_fit : (s : Setting) (past : List Entry) (core : Core) (lanes : ℕ → LaneValue) (lane : ℕ) → IsJournal s past
    → SessionTied s past core lanes [] → lane < length s.lanes → LaneAsks past lane (lanes lane)
    → AllFit core (lanes lane).tickets (lanes lane).running (lanes lane).site
all_fit s past core lanes lane j h there a k t r got was looks =
    (let v : LaneValue = lanes lane in
    let has : is_in t.place (ticket_places v.tickets) ≡ true =
    at_in (ticket_places v.tickets) k t.place (ticket_index v.tickets k t got) in
    fits_by s past lane v r t.place (reply_in (record_at core t.ticket)) j (h.each lane there) a was looks has
    (sym (replies_agree s past core lanes [] lane k t h there got)))

-- ---- the grants of its slots

-- a slot's grant is one of the lane's
slot_held : (s : Setting) (past : List Entry) (lane g : ℕ) (v : LaneValue) → IsJournal s past → lane < length s.lanes
    → LaneTied s past lane v [] → LaneAsks past lane v → has_grant v.site g ≡ true → is_in g (grant_places v.grants)
    ≡ true
slot_held s past lane g v j there l a has = by_in (is_in g (grant_places v.grants)) refl
  where
    held : has_grant (held_site s past lane) g ≡ true
    held = slots_agree s past lane v [] g l ∙ has

    holder : holds s past g lane ≡ true
    holder = rw held refl

    mine : (is_grant past g ≡ true) × ((call : ℕ) × ((call < count_ended past lane)
        × (is_asked_by (asked_at past g) lane call ≡ true)))
    mine = slots_owned s past lane g j (held_less (current s past lane) (own past lane (count_ended past lane))
        (site_of s past lane) g held)

    -- it is no ticket, for that would be one of the current call, or of a READ or a WRITE
    never : is_in g (ticket_places v.tickets) ≡ true → ⊥
    never ticket = elim (a.only g ticket) [
      | inl own ↦ (let asks : is_asked_by (asked_at past g) lane (count_ended past lane) ≡ true =
          ap (is_asked_by (asked_at past g) lane) (sym l.ends) ∙ a.current g own in
          let before : g < g = asked_before s past lane mine.1.0 (count_ended past lane) g g j mine.1.1.1 asks
          mine.1.1.0 in omega (arith, before))
      | inr t ↦ (let clash : false ≡ true = sym (transfer_ungranted s past g j t) ∙ mine.0 in cc)
    ]

    by_in : (b : Bool) → is_in g (grant_places v.grants) ≡ b → is_in g (grant_places v.grants) ≡ true
    by_in true is = is
    by_in false is = absurd (never (l.holds.whole g mine.0 (held_unclosed s past g lane j there holder) holder is))

pub holds_named : (s : Setting) (past : List Entry) (lane : ℕ) (v : LaneValue) → IsJournal s past
    → lane < length s.lanes → LaneTied s past lane v [] → LaneAsks past lane v → HoldsNamed v
holds_named s past lane v j there l a g (inl has) = slot_held s past lane g v j there l a has
holds_named s past lane v j there l a g (inr opened) = a.keeps g opened

pub lanes_await : LanesAwaitReplies
lanes_await s past core lanes begun lane c h there is =
    (let b = h.between in
    let a : LaneAsks past lane (lanes lane) = b.asks lane there in
    record {
      fits = all_fit s past core lanes lane b.good.run b.tied there a;
      holds = holds_named s past lane (lanes lane) b.good.run there (b.tied.each lane there) a;
    })
