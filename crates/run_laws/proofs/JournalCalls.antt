-- A call that ended in a journal: what it asked and ended by, whatever came later.
use Rattle.std.proofs.Common.{
  ◌≡◌,
  ◌<◌,
  ◌≤◌,
  ◌==◌,
  ◌+◌,
  ℕ,
  Bool,
  true,
  false,
  List,
  [],
  ◌∷◌,
  ◌++◌,
  Option,
  Some,
  None,
  if◌then◌else◌,
  refl,
  ap,
  sym,
  ◌∙◌,
  subst,
  arith,
  inl,
  inr,
}
use Rattle.std.specs.Prelude.{MatchOption}
use Rattle.std.proofs.lemmas.Bool.{eq-eqb, ne_eqb}
use Rattle.std.proofs.lemmas.Bool.Decides.{eqb_tells}
use Rattle.sftp_model.specs.declared.outcome.Outcome.{Outcome}
use Rattle.sftp_model.specs.declared.slot.Move.TheVariants.{Done}
use Rattle.sftp_model.specs.declared.slot.Site.{Site}
use Rattle.plan_model.specs.Moves.{Own}
use Rattle.plan_model.specs.OwnRequests.{ExtendsAnswers}
use Rattle.session_model.proofs.CallLaws.{ended_end, next_submit, next_take}
use Rattle.session_model.proofs.CallsSoFar.{calls_so_far}
use Rattle.session_model.proofs.RequestLaws.{answer_stays}
use Rattle.session_model.specs.Calls.{Setting, current, move_at, site_of}
use Rattle.session_model.specs.Grants.{next_due}
use Rattle.session_model.specs.Journals.{IsJournal, IsNext, MayCome, MustClose, cancelled_end}
use Rattle.session_model.specs.Readings.{answer, count_ended, last_cancel, own}
use Rattle.plan_model.specs.declared.call.Call.{Call}
use Rattle.session_model.specs.declared.entry.Entry.{Entry}
use Rattle.session_model.specs.declared.entry.Entry.TheVariants as entry
use Rattle.session_model.specs.declared.event.Event.TheVariants.{End, Submit, Take}
use Rattle.session_model.specs.declared.event.Owner.TheVariants as owner
use Rattle.run_laws.specs.CallsAmong.{HasEnded}
use Rattle.run_laws.specs.Listings.{site_at}
use Rattle.plan_model.specs.CallPlans.{next}

-- ---- what comes later

journal_before : (s : Setting) (more past : List Entry) → IsJournal s (more ++ past) → IsJournal s past
journal_before s [] past j = j
journal_before s (e ∷ more) past j = journal_before s more past j.1

pub answers_stay : (s : Setting) (more past : List Entry) → IsJournal s (more ++ past)
    → ExtendsAnswers (answer past) (answer (more ++ past))
answers_stay s [] past j = λ place r e. e
answers_stay s (entry.Event (Take id r) ∷ more) past j = later (answers_stay s more past j.1)
  where
    later : ExtendsAnswers (answer past) (answer (more ++ past))
        → ExtendsAnswers (answer past) (answer (entry.Event (Take id r) ∷ (more ++ past)))
    later stays place q e = answer_stays (more ++ past) id r q place (next_take s (more ++ past) id r j.0).0
        (stays place q e)
answers_stay s (_ ∷ more) past j = answers_stay s more past j.1

pub ended_grows : (more past : List Entry) (lane : ℕ) → count_ended past lane ≤ count_ended (more ++ past) lane
ended_grows [] past lane = omega arith
ended_grows (entry.Event (End l call o) ∷ more) past lane = by_test (l == lane) (ended_grows more past lane)
  where
    by_test : (b : Bool) → count_ended past lane ≤ count_ended (more ++ past) lane
        → count_ended past lane ≤ (if b then count_ended (more ++ past) lane + 1 else count_ended (more ++ past) lane)
    by_test true le = omega (arith, le)
    by_test false le = le
ended_grows (_ ∷ more) past lane = ended_grows more past lane

-- a call that has ended makes no further request
pub own_stays : (s : Setting) (more past : List Entry) (lane call : ℕ) → IsJournal s (more ++ past)
    → call < count_ended past lane → own (more ++ past) lane call ≡ own past lane call
own_stays s [] past lane call j lt = refl
own_stays s (entry.Event (Submit (owner.Call l n) id r) ∷ more) past lane call j lt =
    let now : n ≡ count_ended (more ++ past) l = (next_submit s (more ++ past) l n id r j.0).0 in
    elim (eqb_tells l lane) [
      | inl t ↦ elim (eqb_tells n call) [
        | inl u ↦ absurd (let same : count_ended (more ++ past) l ≡ count_ended (more ++ past) lane =
            ap (count_ended (more ++ past)) t.1
            in let is : n ≡ call = u.1 in let le = ended_grows more past lane in omega (arith, now, same, is, le, lt))
        | inr u ↦ rw (t.0, u.0) (own_stays s more past lane call j.1 lt)
      ]
      | inr t ↦ rw t.0 (own_stays s more past lane call j.1 lt)
    ]
own_stays s (entry.Event (Submit owner.Setup id r) ∷ more) past lane call j lt = own_stays s more past lane call j.1 lt
own_stays s (entry.Event (Submit owner.Close id r) ∷ more) past lane call j lt = own_stays s more past lane call j.1 lt
own_stays s (_ ∷ more) past lane call j lt = own_stays s more past lane call j.1 lt

-- ---- the end

-- an End that no Cancel stands before
calm_next : (c g : Option ℕ) (P : Type 0) (Q R : ℕ → Type 0) → c ≡ None → MatchOption c (MatchOption g P Q) R
    → ((n : ℕ) → Q n → ⊥) → P
calm_next None None P Q R calm h f = h
calm_next None (Some n) P Q R calm h f = absurd (f n h)
calm_next (Some n) g P Q R calm h f = absurd cc

end_may : (s : Setting) (past : List Entry) (lane call : ℕ) (o : Outcome) → last_cancel past ≡ None
    → IsNext s past (entry.Event (End lane call o)) → MayCome s past (entry.Event (End lane call o))
end_may s past lane call o calm h =
    calm_next (last_cancel past) (next_due s past) _ (λ g. MustClose past g (entry.Event (End lane call o)))
    (λ l. entry.Event (End lane call o) ≡ cancelled_end past l) calm h (λ g m. cc (m.1.1))

-- A call that ended by its plan, with anything after its end.
pub ended_calls : (s : Setting) (past more : List Entry) (lane : ℕ) (c : Call) (o : Outcome)
    → IsJournal s (more ++ entry.Event (End lane (count_ended past lane) o) ∷ past) → last_cancel past ≡ None
    → current s past lane ≡ Some c
    → HasEnded c (site_of s past lane) s.facts (own (more ++ entry.Event (End lane (count_ended past lane) o) ∷ past)
    lane
    (count_ended past lane)) (answer (more ++ entry.Event (End lane (count_ended past lane) o) ∷ past)) o
ended_calls s past more lane c o j calm is =
    let n : ℕ = count_ended past lane in
    let end : List Entry = entry.Event (End lane n o) ∷ past in
    let at_end : IsJournal s end = journal_before s more end j in
    let may = end_may s past lane n o calm at_end.0 in
    let site : Site = may.1.0 in
    let moves : move_at (Some c) (site_of s past lane) s.facts (own past lane n) (answer past) ≡ Some (Done o site) =
    ap (λ (x : Option Call). move_at x (site_of s past lane) s.facts (own past lane n) (answer past)) (sym is) ∙ may.1.1
    in
    let done : next c (site_of s past lane) s.facts (own past lane n) (answer past) ≡ Done o site = cc moves in
    let plan = calls_so_far s past lane c at_end.1 is in
    let further : n < count_ended end lane = let e = ended_end past lane n o in omega (arith, e) in
    let same : own (more ++ end) lane n ≡ own past lane n = own_stays s more end lane n j further in
    record {
      by = answer past;
      stay = answers_stay s more end j;
      requests = plan.requests;
      are = plan.are ∙ sym same;
      so_far = plan.so_far;
      left = site;
      ends = subst (λ (w : Own). next c (site_of s past lane) s.facts w (answer past) ≡ Done o site) (sym same) done;
    }

-- ---- what the lane held as the call began

pub site_later : (s : Setting) (e : Entry) (past : List Entry) (lane k : ℕ) → k < count_ended (e ∷ past) lane
    → site_at s (e ∷ past) lane k ≡ site_at s past lane k
site_later s e past lane k lt = rw (ne_eqb (count_ended (e ∷ past) lane) k (λ same. absurd (omega (arith, same, lt))))
    refl

pub site_now : (s : Setting) (past : List Entry) (lane : ℕ) → site_at s past lane (count_ended past lane)
    ≡ site_of s past lane
site_now s [] lane = refl
site_now s (e ∷ past) lane = rw (eq-eqb (count_ended (e ∷ past) lane) (count_ended (e ∷ past) lane) refl) refl

-- what it held before the call's End
pub site_began : (s : Setting) (more past : List Entry) (lane : ℕ) (o : Outcome)
    → site_at s (more ++ entry.Event (End lane (count_ended past lane) o) ∷ past) lane (count_ended past lane)
    ≡ site_of s past lane
site_began s [] past lane o =
    let one : count_ended (entry.Event (End lane (count_ended past lane) o) ∷ past) lane ≡ count_ended past lane + 1 =
    ended_end past lane (count_ended past lane) o in
    site_later s (entry.Event (End lane (count_ended past lane) o)) past lane (count_ended past lane)
    (omega (arith, one)) ∙ site_now s past lane
site_began s (e ∷ more) past lane o =
    let end : List Entry = entry.Event (End lane (count_ended past lane) o) ∷ past in
    let one : count_ended end lane ≡ count_ended past lane + 1 = ended_end past lane (count_ended past lane) o in
    let le : count_ended end lane ≤ count_ended ((e ∷ more) ++ end) lane = ended_grows (e ∷ more) end lane in
    site_later s e (more ++ end) lane (count_ended past lane) (omega (arith, one, le)) ∙ site_began s more past lane o
