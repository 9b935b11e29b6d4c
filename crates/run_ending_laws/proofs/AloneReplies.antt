-- A lane that runs alone, by calls of one request each that get no handle: a turn within a call, a flush and a take.
use Rattle.std.proofs.Common.{
  ◌≡◌,
  ◌<◌,
  ◌≤◌,
  ◌+◌,
  ◌==◌,
  ℕ,
  Bool,
  true,
  false,
  List,
  [],
  ◌∷◌,
  ◌++◌,
  Option,
  Some,
  None,
  is_none,
  if◌then◌else◌,
  refl,
  ap,
  sym,
  ◌∙◌,
  subst,
  arith,
  inl,
  inr,
}
use Rattle.std.specs.Prelude.{MatchBool, nat_lt, take}
use Rattle.std.proofs.lemmas.Bool.{eq-eqb}
use Rattle.std.proofs.lemmas.Bool.Decides.{eqb_tells, nat_tests}
use Rattle.sftp_model.specs.Answers.{is_handle}
use Rattle.sftp_model.specs.declared.error.Error.TheVariants as error
use Rattle.sftp_model.specs.declared.outcome.Outcome.{Outcome}
use Rattle.sftp_model.specs.declared.outcome.Outcome.TheVariants as outcome
use Rattle.sftp_model.specs.declared.reply.Reply.{Reply}
use Rattle.sftp_model.specs.declared.reply.Reply.TheVariants as reply
use Rattle.sftp_model.specs.declared.request.Request.{Request}
use Rattle.sftp_model.specs.declared.slot.Move.{Move}
use Rattle.sftp_model.specs.declared.slot.Move.TheVariants.{Done}
use Rattle.sftp_model.specs.declared.slot.Site.{Site}
use Rattle.plan_model.specs.Moves.{Own, done_by, once_answered}
use Rattle.plan_model.specs.declared.call.Call.{Call}
use Rattle.plan_model.specs.declared.call.Call.TheVariants as call
use Rattle.session_model.specs.declared.entry.Entry.{Entry}
use Rattle.session_model.specs.declared.entry.Entry.TheVariants as entry
use Rattle.session_model.specs.declared.event.Event.TheVariants.{Send, Take, End}
use Rattle.session_model.specs.declared.turn.Turn.TheVariants as turn
use Rattle.session_model.specs.Calls.{Setting, move_at, site_of}
use Rattle.session_model.specs.Journals.{MayReply, MayTake}
use Rattle.session_model.specs.Readings.{
  AskedRequest,
  answer,
  count_submitted,
  asked_at,
  count_awaited,
  bearer,
  count_ended,
  own,
  count_sent,
}
use Rattle.session_model.specs.Turns.{MovesBy, RulesTo, RunProgress, TurnTo}
use Rattle.session_model.proofs.CountLaws.{count_pos}
use Rattle.session_model.proofs.RequestLaws.{answer_other, sent_asked}
use Rattle.run_ending_laws.proofs.Alone.{GrantsNone, asked_quiet, none_next_due, through, told}
use Rattle.run_ending_laws.proofs.AloneTurns.{
  mkdirs_of,
  Rests,
  Waits,
  Has,
  Goes,
  current_is,
  Is,
  IsFar,
  rests_end,
  far_next,
}
use Rattle.run_ending_laws.specs.FirstMkdirs.{unless_too_long, mkdir_of}

-- ---- a turn within a call

pub step_waits : (s : Setting) (lane : ℕ) (calls : List Call) (n : ℕ) (before now : RunProgress) → Goes s lane calls
    → Is lane (λ t. Waits calls t × IsFar calls n t) before.past → TurnTo s (turn.Step lane) before now
    → Is lane (λ t. Waits calls t × IsFar calls n t) now.past
step_waits s lane calls n before now go (g, (w, far)) to =
    by_answer (answer past w.asks.place) w.open_yet
    (subst (λ (o : Own). MovesBy (RulesTo s) lane before now (move_at (Some (call.Mkdir w.asks.path)) site s.facts o
    (answer past))) w.asks.own
    (subst (λ (c : Option Call). MovesBy (RulesTo s) lane before now
    (move_at c site s.facts (own past lane (count_ended past lane)) (answer past)))
    (current_is s lane calls past go g ∙ w.asks.is) to))
  where
    past : List Entry
    past = before.past

    site : Site
    site = site_of s past lane

    by_answer : (o : Option Reply) → o ≡ None → MovesBy (RulesTo s) lane before now
        (Some (once_answered w.asks.place o (done_by site)))
        → Is lane (λ t. Waits calls t × IsFar calls n t) now.past
    by_answer None is e = subst (λ (x : RunProgress). Is lane (λ t. Waits calls t × IsFar calls n t) x.past) (sym e)
        (g, (w, far))
    by_answer (Some y) is e = absurd cc

done_is : (site : Site) (y : Reply) → (o : Outcome) × ((left : Site) × (done_by site y ≡ Done o left))
done_is site (reply.Status code message language) = by_test (code == 0)
  where
    by_test : (b : Bool) → (o : Outcome) × ((left : Site)
        × ((if b then Done outcome.Done site else Done (outcome.Refused (error.SftpError code message language)) site)
        ≡ Done o left))
    by_test true = (_, (_, refl))
    by_test false = (_, (_, refl))
done_is site (reply.Version version extensions) = (_, (_, refl))
done_is site (reply.Handle handle) = (_, (_, refl))
done_is site (reply.Content content) = (_, (_, refl))
done_is site (reply.Names names) = (_, (_, refl))
done_is site (reply.Attrs attrs) = (_, (_, refl))
done_is site (reply.Extended content) = (_, (_, refl))

pub step_has : (s : Setting) (lane : ℕ) (calls : List Call) (n : ℕ) (before now : RunProgress) → Goes s lane calls
    → Is lane (λ t. Has calls t × IsFar calls n t) before.past → TurnTo s (turn.Step lane) before now
    → Is lane (λ t. Rests calls t × IsFar calls (n + 1) t) now.past
step_has s lane calls n before now go (g, (h, far)) to =
    let d = done_is site h.said in
    let ends : MovesBy (RulesTo s) lane before now (Some (Done d.0 d.1.0)) =
    subst (λ (m : Move). MovesBy (RulesTo s) lane before now (Some m)) d.1.1
    (subst (λ (o : Option Reply). MovesBy (RulesTo s) lane before now
    (Some (once_answered h.asks.place o (done_by site)))) h.is
    (subst (λ (o : Own). MovesBy (RulesTo s) lane before now (move_at (Some (call.Mkdir h.asks.path)) site s.facts o
    (answer past))) h.asks.own
    (subst (λ (c : Option Call). MovesBy (RulesTo s) lane before now
    (move_at c site s.facts (own past lane (count_ended past lane)) (answer past)))
    (current_is s lane calls past go g ∙ h.asks.is) to)))
    in
    let fits : unless_too_long (mkdir_of h.asks.path) ≡ mkdir_of h.asks.path ∷ [] = rw (h.asks.short) refl in
    let rest = rests_end lane calls past d.0 h.asks.path (count_ended past lane) h.asks.is h.asks.later h.came
    (h.asks.made ∙ ap (λ (w : List Request). mkdirs_of (take (count_ended past lane) calls) ++ w) (sym fits)) in
    let new : List Entry = entry.Event (End lane (count_ended past lane) d.0) ∷ past in
    through (Is lane (λ t. Rests calls t × IsFar calls (n + 1) t)) s new now.past (λ p k. k) (none_next_due s new g)
    ends.1
    (g, (rest.0, far_next calls n (told lane past) (told lane new) far rest.1))
  where
    past : List Entry
    past = before.past

    site : Site
    site = site_of s past lane

-- ---- a flush

pub flush_keeps : (P : List Entry → Type 0) (s : Setting) (before now : RunProgress)
    → ((p : List Entry) → P p → P (entry.Event Send ∷ p))
    → GrantsNone before.past → P before.past → TurnTo s turn.Flush before now → P now.past
flush_keeps P s before now sends g p to = by_test (nat_lt (count_sent before.past) (count_submitted before.past)) to
  where
    by_test : (b : Bool) → MatchBool b ((now.begun ≡ before.begun)
        × RulesTo s (entry.Event Send ∷ before.past) now.past) (now ≡ before) → P now.past
    by_test true to = through P s (entry.Event Send ∷ before.past) now.past sends
        (none_next_due s (entry.Event Send ∷ before.past) g) to.1 (sends before.past p)
    by_test false e = subst (λ (x : RunProgress). P x.past) (sym e) p

-- what waits is sent
abbrev IsSent : List Call → ℕ → ℕ → List Entry → Type 0
IsSent calls lane n past = GrantsNone past × ((w : Waits calls (told lane past))
    × ((w.asks.place < count_sent past) × IsFar calls n (told lane past)))

pub flush_waits : (s : Setting) (lane : ℕ) (calls : List Call) (n : ℕ) (before now : RunProgress)
    → Is lane (λ t. Waits calls t × IsFar calls n t) before.past
    → TurnTo s turn.Flush before now → IsSent calls lane n now.past
flush_waits s lane calls n before now (g, (w, far)) to = by_test
    (nat_lt (count_sent before.past) (count_submitted before.past)) refl to
  where
    by_test : (b : Bool) → nat_lt (count_sent before.past) (count_submitted before.past) ≡ b
        → MatchBool b ((now.begun ≡ before.begun) × RulesTo s (entry.Event Send ∷ before.past) now.past) (now ≡ before)
        → IsSent calls lane n now.past
    by_test true is to = through (IsSent calls lane n) s (entry.Event Send ∷ before.past) now.past
        (λ p h. (h.0, (h.1.0, (h.1.0.there, h.1.1.1)))) (none_next_due s (entry.Event Send ∷ before.past) g) to.1
        (g, (w, (w.there, far)))
    by_test false is e = subst (λ (x : RunProgress). IsSent calls lane n x.past) (sym e) (
      g,
      (
        w,
        (
          let ge : count_submitted before.past ≤ count_sent before.past = grind (arith, nat_tests) in let lt =
              w.there in omega (arith, ge, lt),
          far,
        ),
      ),
    )

-- ---- a take

pub take_rests : (s : Setting) (lane : ℕ) (calls : List Call) (n : ℕ) (before now : RunProgress)
    → Is lane (λ t. Rests calls t × IsFar calls n t) before.past
    → TurnTo s turn.Take before now → Is lane (λ t. Rests calls t × IsFar calls n t) now.past
take_rests s lane calls n before now (g, (r, far)) to = by_test (nat_lt 0 (count_awaited before.past)) to
  where
    by_test : (b : Bool) → MatchBool b ((now.begun ≡ before.begun)
        × ((id : ℕ) × ((y : Reply) × (MayTake before.past id y × RulesTo s (entry.Event (Take id y) ∷ before.past)
        now.past)))) (now ≡ before)
        → Is lane (λ t. Rests calls t × IsFar calls n t) now.past
    by_test true to =
        let may = to.1.1.1.0 in
        absurd (r.came may.0 (let lt : may.0 < count_sent before.past = may.1.0.1 in
        let le : count_sent before.past ≤ count_submitted before.past = sent_asked before.past
        in omega (arith, lt, le)) may.1.0.2)
    by_test false e = subst (λ (x : RunProgress). Is lane (λ t. Rests calls t × IsFar calls n t) x.past) (sym e)
        (g, (r, far))

replies_quiet : (past : List Entry) (o : Option AskedRequest) (place : ℕ) (y : Reply) → GrantsNone past
    → asked_at past place ≡ o → MayReply o y → is_handle y ≡ false
replies_quiet past None place y g is may = absurd may
replies_quiet past (Some a) place y g is may = asked_quiet past place a g is y may.0

pub take_waits : (s : Setting) (lane : ℕ) (calls : List Call) (n : ℕ) (before now : RunProgress)
    → IsSent calls lane n before.past
    → TurnTo s turn.Take before now → Is lane (λ t. Has calls t × IsFar calls n t) now.past
take_waits s lane calls n before now (g, (w, (is_sent, far))) to = by_test (nat_lt 0 (count_awaited past)) refl to
  where
    past : List Entry
    past = before.past

    place : ℕ
    place = w.asks.place

    taken : (id : ℕ) (y : Reply) → (p : ℕ) → p ≡ place → bearer past id ≡ Some p → is_handle y ≡ false
        → Is lane (λ t. Has calls t × IsFar calls n t) (entry.Event (Take id y) ∷ past)
    taken id y p same bears quiet =
        let here : bearer past id ≡ Some place = bears ∙ ap (λ (k : ℕ). Some k) same in
        let now_is : answer (entry.Event (Take id y) ∷ past) place ≡ Some y =
        rw (here, eq-eqb place place refl) refl in (
          (quiet, g),
          (
            record {
              asks = record {
                path = w.asks.path;
                is = w.asks.is;
                short = w.asks.short;
                place = place;
                own = w.asks.own;
                later = w.asks.later;
                made = w.asks.made;
              };
              said = y;
              is = now_is;
              came = λ q lt none. elim (eqb_tells place q) [
                | inl t ↦ (let got : answer (entry.Event (Take id y) ∷ past) q ≡ Some y =
                    subst (λ (k : ℕ). answer (entry.Event (Take id y) ∷ past) k ≡ Some y) t.1 now_is in
                    let both : None ≡ Some y = sym none ∙ got in cc)
                | inr t ↦ t.1 (sym (w.alone q lt (sym (answer_other past id place q y here t.1) ∙ none)))
              ];
            },
            far,
          ),
        )

    by_test : (b : Bool) → nat_lt 0 (count_awaited past) ≡ b → MatchBool b ((now.begun ≡ before.begun)
        × ((id : ℕ) × ((y : Reply) × (MayTake past id y × RulesTo s (entry.Event (Take id y) ∷ past) now.past))))
        (now ≡ before)
        → Is lane (λ t. Has calls t × IsFar calls n t) now.past
    by_test true is to =
        let id = to.1.0 in
        let y = to.1.1.0 in
        let may = to.1.1.1.0 in
        let same : may.0 ≡ place = w.alone may.0 (let lt : may.0 < count_sent past = may.1.0.1 in
        let le : count_sent past ≤ count_submitted past = sent_asked past in omega (arith, lt, le)) may.1.0.2 in
        let quiet : is_handle y ≡ false = replies_quiet past (asked_at past may.0) may.0 y g refl may.1.1 in
        let new : List Entry = entry.Event (Take id y) ∷ past in
        through (Is lane (λ t. Has calls t × IsFar calls n t)) s new now.past (λ p h. h)
        (none_next_due s new (quiet, g)) to.1.1.1.1
        (taken id y may.0 same may.1.0.0 quiet)
    by_test false is e =
        absurd (let none : is_none (answer past place) ≡ true = rw (w.open_yet) refl in
        let some : 0 < count_awaited past = count_pos (λ p. is_none (answer past p)) (count_sent past) place is_sent
        none in
        let le : count_awaited past ≤ 0 = grind (arith, nat_tests) in omega (arith, some, le))
