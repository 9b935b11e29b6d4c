-- A journal that released every lane and took a reply to every request has ended.
use Rattle.std.proofs.Common.{
  ◌≡◌,
  ◌≢◌,
  ◌<◌,
  ◌≤◌,
  ◌==◌,
  ℕ,
  zero,
  suc,
  ◌+◌,
  Bool,
  true,
  false,
  List,
  [],
  ◌∷◌,
  ◌++◌,
  filter,
  length,
  refl,
  ap,
  sym,
  ◌∙◌,
  subst,
  arith,
  if◌then◌else◌,
  inl,
  inr,
  None,
}
use Rattle.std.specs.Prelude.{◌&&◌, reverse}
use Rattle.std.specs.List.{list_all}
use Rattle.std.proofs.lemmas.Bool.{and_parts, eq-eqb, ne_eqb}
use Rattle.std.proofs.lemmas.Bool.Decides.{eqb_tells}
use Rattle.std.proofs.lemmas.List.{reverse-append}
use Rattle.session_model.specs.declared.entry.Entry.{Entry}
use Rattle.session_model.specs.declared.entry.Entry.TheVariants as entry
use Rattle.session_model.specs.declared.event.Event.TheVariants.{Submit, Send, Take, Cancel, End}
use Rattle.session_model.specs.Calls.{Setting}
use Rattle.session_model.specs.Grants.{next_due}
use Rattle.session_model.specs.Journals.{IsJournal, MayCome}
use Rattle.session_model.specs.Readings.{count_below, last_cancel, count_unanswered, was_let_go}
use Rattle.session_model.proofs.AllClosedLaws.{over_handles_closed}
use Rattle.session_model.proofs.CallLaws.{next_by, next_take}
use Rattle.session_model.proofs.CountLaws.{count_one, unanswered_submit, unanswered_take}
use Rattle.plan_model.specs.declared.call.Lane.{Lane}
use Rattle.session_seats.specs.Sights.{entries}
use Rattle.sftp_lanes.specs.Seen.{setting_by}
use Rattle.sftp_model.specs.declared.options.SftpOptions.{SftpOptions}
use Rattle.sftp_tasks.specs.declared.report.SharedReport.{SharedReport}
use Rattle.session_threads.specs.Reports.{RunsShared}
use Rattle.session_threads.specs.RunEnds.{IsEnded, is_handed_in, is_let_go, is_submit, is_take}

-- ---- the same in both orders

module _ (f : Entry → Bool) where
  count_more : (xs : List Entry) (x : Entry) → length (filter f (xs ++ x ∷ []))
      ≡ length (filter f xs) + length (filter f (x ∷ []))
  count_more [] x = omega arith
  count_more (y ∷ xs) x = by_test (f y) (count_more xs x)
    where
      by_test : (b : Bool) → length (filter f (xs ++ x ∷ [])) ≡ length (filter f xs) + length (filter f (x ∷ []))
          → length (if b then y ∷ filter f (xs ++ x ∷ []) else filter f (xs ++ x ∷ []))
          ≡ length (if b then y ∷ filter f xs else filter f xs) + length (filter f (x ∷ []))
      by_test true h = omega (arith, h)
      by_test false h = h

  one_more : (x : Entry) (xs : List Entry) → length (filter f (x ∷ xs))
      ≡ length (filter f xs) + length (filter f (x ∷ []))
  one_more x xs = by_test (f x)
    where
      by_test : (b : Bool) → length (if b then x ∷ filter f xs else filter f xs)
          ≡ length (filter f xs) + length (if b then x ∷ [] else [])
      by_test true = omega arith
      by_test false = omega arith

  pub counted : (xs : List Entry) → length (filter f (reverse xs)) ≡ length (filter f xs)
  counted [] = refl
  counted (x ∷ xs) =
      ap (λ (w : List Entry). length (filter f w)) (reverse-append (x ∷ []) xs)
      ∙ (count_more (reverse xs) x
      ∙ (ap (λ (n : ℕ). n + length (filter f (x ∷ []))) (counted xs) ∙ sym (one_more x xs)))

  all_more : (xs : List Entry) (x : Entry) → list_all f xs ≡ true → f x ≡ true → list_all f (xs ++ x ∷ []) ≡ true
  all_more [] x h e = rw e refl
  all_more (y ∷ xs) x h e =
      let parts = and_parts (f y) (list_all f xs) h in rw (parts.0) (all_more xs x parts.1 e)

  pub all_of : (xs : List Entry) → list_all f xs ≡ true → list_all f (reverse xs) ≡ true
  all_of [] h = refl
  all_of (x ∷ xs) h =
      let parts = and_parts (f x) (list_all f xs) h in
      ap (list_all f) (reverse-append (x ∷ []) xs) ∙ all_more (reverse xs) x (all_of xs parts.1) parts.0

-- ---- replies

-- the unanswered requests are those that were submitted and not taken
balance : (s : Setting) (past : List Entry) → IsJournal s past → count_unanswered past + length (filter is_take past)
    ≡ length (filter is_submit past)
balance s [] j = refl
balance s (entry.Event (Submit by id r) ∷ past) j =
    let old = balance s past j.1 in let more = unanswered_submit past by id r in omega (arith, old, more)
balance s (entry.Event (Take id r) ∷ past) j =
    let old = balance s past j.1 in let less = unanswered_take past id r (next_take s past id r j.0).0 in
    omega (arith, old, less)
balance s (entry.Event Send ∷ past) j = balance s past j.1
balance s (entry.Event (Cancel lane) ∷ past) j = balance s past j.1
balance s (entry.Event (End lane call o) ∷ past) j = balance s past j.1
balance s (entry.Added lane c ∷ past) j = balance s past j.1
balance s (entry.LetGo lane ∷ past) j = balance s past j.1
balance s (entry.Kept fault ∷ past) j = balance s past j.1

-- ---- lanes

none_below : (n : ℕ) → count_below (λ lane. false) n ≡ 0
none_below zero = refl
none_below (suc n) = let none = none_below n in omega (arith, none)

lane_goes : (s : Setting) (past : List Entry) (lane : ℕ) → IsJournal s (entry.LetGo lane ∷ past)
    → MayCome s past (entry.LetGo lane)
lane_goes s past lane j = next_by (last_cancel past) (next_due s past) _ _ _ j.0 (λ n due. cc (due.1.1))
    (λ n due. cc due)

gone : (s : Setting) (past : List Entry) → IsJournal s past → count_below (was_let_go past) (length s.lanes)
    ≡ length (filter is_let_go past)
gone s [] j = none_below (length s.lanes)
gone s (entry.LetGo lane ∷ past) j =
    let may = lane_goes s past lane j in
    let one = count_one (was_let_go (entry.LetGo lane ∷ past)) (was_let_go past) (length s.lanes) lane may.0
    (rw (eq-eqb lane lane refl) refl) may.2 (λ q ne. sym (rw (ne_eqb lane q ne) refl)) in
    let old = gone s past j.1 in omega (arith, one, old)
gone s (entry.Event e ∷ past) j = gone s past j.1
gone s (entry.Added lane c ∷ past) j = gone s past j.1
gone s (entry.Kept fault ∷ past) j = gone s past j.1

few : (f : ℕ → Bool) (n : ℕ) → count_below f n ≤ n
few f zero = omega arith
few f (suc n) = by_test (f n) (few f n)
  where
    by_test : (b : Bool) → count_below f n ≤ n → (if b then 1 else 0) + count_below f n ≤ suc n
    by_test true h = omega (arith, h)
    by_test false h = omega (arith, h)

each : (f : ℕ → Bool) (n : ℕ) → count_below f n ≡ n → (k : ℕ) → k < n → f k ≡ true
each f zero e k lt = absurd (omega (arith, lt))
each f (suc n) e k lt = by_test (f n) refl e (λ full small. each f n full k small)
  where
    by_test : (b : Bool) → f n ≡ b → (if b then 1 else 0) + count_below f n ≡ suc n
        → (count_below f n ≡ n → k < n → f k ≡ true) → f k ≡ true
    by_test true is e old = elim (eqb_tells k n) [
      | inl t ↦ ap f t.1 ∙ is
      | inr t ↦ (let ne : k ≢ n = t.1 in old (omega (arith, e)) (omega (arith, lt, ne)))
    ]
    by_test false is e old = let most = few f n in absurd (omega (arith, e, most))

-- ---- both

pub ended : (s : Setting) (journal past : List Entry) (lanes : ℕ) → reverse journal ≡ past → IsJournal s past
    → next_due s past ≡ None → length s.lanes ≡ lanes
    → (list_all is_handed_in journal && (length (filter is_submit journal) == length (filter is_take journal))
    && (length (filter is_let_go journal) == lanes)) ≡ true → IsEnded lanes (reverse journal)
ended s journal past lanes is j due long looks =
    let outer = and_parts (list_all is_handed_in journal && (length (filter is_submit journal) == length
    (filter is_take journal)))
    (length (filter is_let_go journal) == lanes) looks in
    let inner = and_parts (list_all is_handed_in journal) (length (filter is_submit journal) == length
    (filter is_take journal)) outer.0 in
    let k : IsJournal s (reverse journal) = subst (IsJournal s) (sym is) j in
    let submitted = counted is_submit journal in
    let taken = counted is_take journal in
    let went = counted is_let_go journal in
    let same : length (filter is_submit journal) ≡ length (filter is_take journal) = grind (inner.1, arith) in
    let all : length (filter is_let_go journal) ≡ lanes = grind (outer.1, arith) in
    let b = balance s (reverse journal) k in
    let g = gone s (reverse journal) k in
    let full : count_below (was_let_go (reverse journal)) (length s.lanes) ≡ length s.lanes =
    omega (arith, g, went, all, long) in
    let answered : count_unanswered (reverse journal) ≡ 0 = omega (arith, b, submitted, taken, same) in
    record {
      let_go = λ lane lt. each (was_let_go (reverse journal)) (length s.lanes) full lane (omega (arith, lt, long));
      answered = answered;
      closed = over_handles_closed s (reverse journal) k (
        each (was_let_go (reverse journal)) (length s.lanes) full,
        subst (λ (l : List Entry). next_due s l ≡ None) (sym is) due,
        answered,
      );
      handed_in = all_of is_handed_in journal inner.0;
    }

-- of a run whose journal was examined
pub ended_run : (lanes : List Lane) (options : SftpOptions) (r : SharedReport) (looked : List Entry) (found : Bool)
    → RunsShared lanes options r
    → looked ≡ r.journal.items
    → found ≡ (list_all is_handed_in looked && (length (filter is_submit looked) == length (filter is_take looked))
    && (length (filter is_let_go looked) == length lanes)) → found ≡ true
    → IsEnded (length lanes) (reverse r.journal.items)
ended_run lanes options r looked found h same is stands =
    ended (setting_by h.now.lanes h.now.options h.now.version h.info) r.journal.items (entries h.now.log) (length lanes)
    h.journal h.run h.settled
    (ap (λ (l : List Lane). length l) h.made.0)
    (subst (λ (l : List Entry). (list_all is_handed_in l && (length (filter is_submit l) == length (filter is_take l))
    && (length (filter is_let_go l) == length lanes)) ≡ true) same (sym is ∙ stands))
