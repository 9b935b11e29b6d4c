-- In a run so far where no CLOSE is due, no grant at all is to be closed.
use Rattle.std.proofs.Common.{◌≡◌, ◌∙◌, ℕ, List, [], ◌∷◌, Option, Some, None, MatchOption, refl, sym, inl, inr}
use Rattle.std.specs.Prelude.{◌⊎◌}
use Rattle.session_model.specs.declared.event.Owner.TheVariants as owner
use Rattle.session_model.specs.declared.event.Event.TheVariants.{Submit, End}
use Rattle.session_model.specs.declared.entry.Entry.{Entry}
use Rattle.session_model.specs.declared.entry.Entry.TheVariants as entry
use Rattle.session_model.specs.Calls.{Setting, current}
use Rattle.session_model.specs.Grants.{IsSettled, letting_go, next_due}
use Rattle.session_model.specs.Journals.{IsJournal, IsNext, MayCome, MustClose, cancelled_end}
use Rattle.session_model.specs.Readings.{last_cancel}
use Rattle.session_model.specs.Turns.{ClosesTo}
use Rattle.session_model.proofs.LetGoLaws.{let_go_settled, next_due_plain}

-- the journal is a lane's release and the CLOSEs behind it, and before the release nothing was to be closed
record LetsGo (s : Setting) (past : List Entry) : Type 0 where
  pub before : List Entry
  pub lane : ℕ
  pub settled : IsSettled s before
  pub idle : current s before lane ≡ None
  pub closes : ClosesTo s (entry.LetGo lane ∷ before) past

settled_by : (s : Setting) (past : List Entry) → (letting_go s past ≡ None) ⊎ LetsGo s past → next_due s past ≡ None
    → IsSettled s past
settled_by s past (inl none) due = sym (next_due_plain s past none) ∙ due
settled_by s past (inr l) due = let_go_settled s l.before past l.lane l.settled l.idle l.closes due

-- where an entry came that is neither a CLOSE of the session nor the end of a cancelled call, none was due
none_due : (c g : Option ℕ) (P : Type 0) (Q R : ℕ → Type 0) → MatchOption c (MatchOption g P Q) R
    → ((n : ℕ) → Q n → ⊥) → ((n : ℕ) → R n → ⊥) → (g ≡ None) × P
none_due None None P Q R h f e = (refl, h)
none_due None (Some n) P Q R h f e = absurd (f n h)
none_due (Some n) g P Q R h f e = absurd (e n h)

released : (s : Setting) (past : List Entry) (lane : ℕ) → IsNext s past (entry.LetGo lane)
    → (next_due s past ≡ None) × MayCome s past (entry.LetGo lane)
released s past lane next = none_due (last_cancel past) (next_due s past) (MayCome s past (entry.LetGo lane))
    (λ g. MustClose past g (entry.LetGo lane)) (λ l. entry.LetGo lane ≡ cancelled_end past l) next
    (λ g m. cc (m.1.1)) (λ l e. cc e)

-- a CLOSE of the session came because it was due
was_due : (c g : Option ℕ) (P : Type 0) (Q R : ℕ → Type 0) → MatchOption c (MatchOption g P Q) R → (P → ⊥)
    → ((n : ℕ) → R n → ⊥) → (n : ℕ) × ((g ≡ Some n) × Q n)
was_due None None P Q R h f e = absurd (f h)
was_due None (Some n) P Q R h f e = (n, (refl, h))
was_due (Some n) g P Q R h f e = absurd (e n h)

lets_go : (s : Setting) (past : List Entry) → IsJournal s past → (letting_go s past ≡ None) ⊎ LetsGo s past
lets_go s [] j = inl refl
lets_go s (entry.LetGo lane ∷ past) j =
    let may = released s past lane j.0 in
    inr (record {
      before = past;
      lane = lane;
      settled = settled_by s past (lets_go s past j.1) may.0;
      idle = may.1.1;
      closes = inl refl;
    })
lets_go s (entry.Event (Submit owner.Close id r) ∷ past) j = closing (lets_go s past j.1)
  where
    due : (n : ℕ) × ((next_due s past ≡ Some n) × MustClose past n (entry.Event (Submit owner.Close id r)))
    due = was_due (last_cancel past) (next_due s past) (MayCome s past (entry.Event (Submit owner.Close id r)))
        (λ g. MustClose past g (entry.Event (Submit owner.Close id r)))
        (λ l. entry.Event (Submit owner.Close id r) ≡ cancelled_end past l) (j.0) (λ none. none) (λ l e. cc e)

    closing : (letting_go s past ≡ None) ⊎ LetsGo s past
        → (letting_go s past ≡ None) ⊎ LetsGo s (entry.Event (Submit owner.Close id r) ∷ past)
    closing (inl none) = inl none
    closing (inr l) =
        inr (record {
          before = l.before;
          lane = l.lane;
          settled = l.settled;
          idle = l.idle;
          closes = inr (due, l.closes);
        })
lets_go s (_ ∷ past) j = inl refl

pub journals_settle : (s : Setting) (past : List Entry) → IsJournal s past → next_due s past ≡ None → IsSettled s past
journals_settle s past j due = settled_by s past (lets_go s past j) due
