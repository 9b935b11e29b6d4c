-- A recorded fault that is the newest entry of a journal is the only one.
use Rattle.std.proofs.Common.{◌≡◌, ◌∙◌, ℕ, true, false, true≢false, List, [], ◌∷◌, ◌++◌, refl, sym, subst, Some, None}
use Rattle.std.specs.Prelude.{MatchOption, Option}
use Rattle.sftp_model.specs.declared.error.Fault.{Fault}
use Rattle.session_model.specs.declared.entry.Entry.{Entry}
use Rattle.session_model.specs.declared.entry.Entry.TheVariants as entry
use Rattle.session_model.specs.Calls.{Setting}
use Rattle.session_model.specs.Grants.{next_due}
use Rattle.session_model.specs.Journals.{IsJournal, IsNext, MayCome, MustClose, cancelled_end}
use Rattle.session_model.specs.Readings.{last_cancel, was_kept}

-- a fault comes only if none was recorded
kept_may : (s : Setting) (past : List Entry) (f : Fault) → IsNext s past (entry.Kept f) → was_kept past ≡ false
kept_may s past f next = by_cancel (last_cancel past) (next_due s past) next
  where
    by_due : (d : Option ℕ) → MatchOption d (MayCome s past (entry.Kept f)) (λ g. MustClose past g (entry.Kept f))
        → was_kept past ≡ false
    by_due None h = h
    by_due (Some g) h = absurd (cc h.1.1)

    by_cancel : (c d : Option ℕ)
        → MatchOption c (MatchOption d (MayCome s past (entry.Kept f)) (λ g. MustClose past g (entry.Kept f)))
        (λ lane. entry.Kept f ≡ cancelled_end past lane) → was_kept past ≡ false
    by_cancel None d h = by_due d h
    by_cancel (Some lane) d h = absurd (cc h)

-- a fault that was recorded stays
kept_on : (more past : List Entry) → was_kept past ≡ true → was_kept (more ++ past) ≡ true
kept_on [] past h = h
kept_on (entry.Kept f ∷ more) past h = refl
kept_on (entry.Event x ∷ more) past h = kept_on more past h
kept_on (entry.Added lane call ∷ more) past h = kept_on more past h
kept_on (entry.LetGo lane ∷ more) past h = kept_on more past h

-- Two journals that end by a fault, of which one is the beginning of the other, are the same.
pub kept_last : (s : Setting) (more past before : List Entry) (f g : Fault) → IsJournal s (more ++ entry.Kept g ∷ past)
    → more ++ entry.Kept g ∷ past ≡ entry.Kept f ∷ before
    → (f ≡ g) × (before ≡ past)
kept_last s [] past before f g run is = (cc is, cc is)
kept_last s (e ∷ more) past before f g run is =
    let first : e ≡ entry.Kept f = cc is in
    let none = kept_may s (more ++ entry.Kept g ∷ past) f
    (subst (λ (x : Entry). IsNext s (more ++ entry.Kept g ∷ past) x) first run.0) in
    absurd (true≢false (sym (kept_on more (entry.Kept g ∷ past) refl) ∙ none))
