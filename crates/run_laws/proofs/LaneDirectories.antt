-- In which directory each call of a lane is made: the path of the last `cwd` before it.
use Rattle.std.proofs.Common.{
  append_assoc,
  arith,
  ◌≡◌,
  ◌+◌,
  ◌==◌,
  ℕ,
  zero,
  suc,
  Bool,
  true,
  false,
  List,
  [],
  ◌∷◌,
  ◌++◌,
  Option,
  Some,
  None,
  if◌then◌else◌,
  refl,
  ap,
  sym,
  ◌∙◌,
  subst,
  inl,
  inr,
}
use Rattle.std.specs.Prelude.{◌≢◌, ◌⊎◌, ◌||◌, MatchOption, slice_get}
use Rattle.std.proofs.lemmas.Bool.{and_parts}
use Rattle.std.proofs.lemmas.Bool.Decides.{eqb_tells}
use Rattle.std.proofs.lemmas.List.{append-nil}
use Rattle.sftp_model.specs.Slots.{fresh_site}
use Rattle.sftp_model.specs.declared.outcome.Outcome.{Outcome}
use Rattle.sftp_model.specs.declared.slot.Facts.{Facts}
use Rattle.sftp_model.specs.declared.slot.Site.{Site}
use Rattle.machine_model.specs.Components.{Name}
use Rattle.plan_model.specs.Moves.{Answers, Own}
use Rattle.plan_model.specs.OwnRequests.{AreAsked, oldest_first}
use Rattle.plan_model.specs.declared.call.Call.{Call}
use Rattle.plan_model.specs.declared.call.Call.TheVariants as call
use Rattle.session_model.specs.declared.entry.Entry.{Entry}
use Rattle.session_model.specs.declared.entry.Entry.TheVariants as entry
use Rattle.session_model.specs.declared.event.Event.TheVariants.{Cancel, End}
use Rattle.session_model.specs.Calls.{GoesByPlan, Setting, call_at, current, has_waited, is_wait, lane_calls, move_at, move_of, site_left, site_of}
use Rattle.session_model.specs.Grants.{next_due}
use Rattle.session_model.specs.Journals.{IsJournal, MayCome, MustClose, cancelled_end, is_some_asked, may_cancel}
use Rattle.session_model.specs.Readings.{answer, count_ended, last_cancel, own}
use Rattle.session_model.proofs.CallLaws.{added_here, added_other, ended_end, ended_other, site_end, site_other}
use Rattle.session_model.proofs.CallsSoFar.{calls_so_far}
use Rattle.session_model.proofs.HolderLaws.{IsEnding, ending, got_more, may_of}
use Rattle.run_laws.specs.NameCalls.{all_keep_off, keeps_off}
use Rattle.run_laws.proofs.LaneCalls.{call_left, calls_grow, get_left}
use Rattle.run_laws.proofs.OffRequests.{is_still}
use Rattle.plan_model.specs.CallPlans.{next}

-- ---- lists of calls

-- in which directory a call of these is made, by its number, where the first is made in this one
abbrev pub directory_at : List ℕ → List Call → ℕ → List ℕ
directory_at at calls zero = at
directory_at at [] (suc n) = at
directory_at at (call.Cwd path ∷ calls) (suc n) = directory_at path calls n
directory_at at (c ∷ calls) (suc n) = directory_at at calls n

-- a change of directory is one for the next call
cwd_moves : (at : List ℕ) (calls : List Call) (n : ℕ) (path : List ℕ) → slice_get calls n ≡ Some (call.Cwd path)
    → directory_at at calls (suc n) ≡ path
cwd_moves at [] n path e = absurd cc
cwd_moves at (c ∷ calls) zero path e = rw (the_call c e) refl
  where
    the_call : (d : Call) → slice_get (d ∷ calls) zero ≡ Some (call.Cwd path) → d ≡ call.Cwd path
    the_call d same = cc same
cwd_moves at (call.Cwd other ∷ calls) (suc n) path e = cwd_moves other calls n path e
cwd_moves at (_ ∷ calls) (suc n) path e = cwd_moves at calls n path e

-- and another call is none
still_stays : (at : List ℕ) (calls : List Call) (n : ℕ) (c : Call) → slice_get calls n ≡ Some c → is_still c ≡ true
    → directory_at at calls (suc n) ≡ directory_at at calls n
still_stays at [] n c e still = absurd cc
still_stays at (d ∷ calls) zero c e still = by_call d (ap is_still (the_call d e) ∙ still)
  where
    the_call : (x : Call) → slice_get (x ∷ calls) zero ≡ Some c → x ≡ c
    the_call x same = cc same

    by_call : (x : Call) → is_still x ≡ true → directory_at at (x ∷ calls) (suc zero) ≡ at
    by_call (call.Cwd path) s = absurd cc
    by_call other s = refl
still_stays at (call.Cwd path ∷ calls) (suc n) c e still = still_stays path calls n c e still
still_stays at (_ ∷ calls) (suc n) c e still = still_stays at calls n c e still

-- each call keeps off the name in the directory in which it is made
pub off_there : (name : Name) (at : List ℕ) (calls : List Call) (n : ℕ) (c : Call) → all_keep_off name at calls ≡ true
    → slice_get calls n ≡ Some c → keeps_off name (directory_at at calls n) c ≡ true
off_there name at [] n c off e = absurd cc
off_there name at (call.Cwd path ∷ calls) zero c off e = (let same : call.Cwd path ≡ c = cc in
    ap (keeps_off name at) (sym same))
off_there name at (d ∷ calls) zero c off e = (let same : d ≡ c = cc in ap (keeps_off name at) (sym same)
    ∙ (and_parts (keeps_off name at d) (all_keep_off name at calls) off).0)
off_there name at (call.Cwd path ∷ calls) (suc n) c off e = off_there name path calls n c off e
off_there name at (d ∷ calls) (suc n) c off e = off_there name at calls n c
    (and_parts (keeps_off name at d) (all_keep_off name at calls) off).1 e

-- so do those before others
pub off_left : (name : Name) (at : List ℕ) (xs ys : List Call) → all_keep_off name at (xs ++ ys) ≡ true
    → all_keep_off name at xs ≡ true
off_left name at [] ys off = refl
off_left name at (call.Cwd path ∷ xs) ys off = off_left name path xs ys off
off_left name at (c ∷ xs) ys off =
    let both = and_parts (keeps_off name at c) (all_keep_off name at (xs ++ ys)) off in
    rw (both.0, off_left name at xs ys both.1) refl

-- ---- no change of directory is cancelled

-- the lane's call is a change of directory, or it has none yet
abbrev Changes : List ℕ → Option Call → Type 0
Changes path c = (c ≡ Some (call.Cwd path)) ⊎ (c ≡ None)

no_wait : (path : List ℕ) (c : Option Call) (site : Site) (facts : Facts) (own : Own) (answers : Answers)
    → Changes path c → is_wait (move_at c site facts own answers) ≡ false
no_wait path c site facts own answers (inl e) = rw e refl
no_wait path c site facts own answers (inr e) = rw e refl

neither : (a b : Bool) → a ≡ false → b ≡ false → (a || b) ≡ false
neither a b e f = rw (e, f) refl

-- it has never waited
never_waits : (s : Setting) (past : List Entry) (lane : ℕ) (path : List ℕ) → Changes path (current s past lane)
    → has_waited s past lane ≡ false
never_waits s [] lane path c = no_wait path (current s [] lane) (site_of s [] lane) s.facts
    (own [] lane (count_ended [] lane)) (answer []) c
never_waits s (entry.Event (End l k o) ∷ past) lane path c =
    neither (is_wait (move_of s (entry.Event (End l k o) ∷ past) lane))
    (if l == lane then false else has_waited s past lane)
    (no_wait path (current s (entry.Event (End l k o) ∷ past) lane) (site_of s (entry.Event (End l k o) ∷ past) lane)
    s.facts (own past lane (count_ended (entry.Event (End l k o) ∷ past) lane)) (answer past) c)
    (by_test (l == lane) refl (λ before. never_waits s past lane path before))
  where
    by_test : (b : Bool) → (l == lane) ≡ b → (Changes path (current s past lane) → has_waited s past lane ≡ false)
        → (if b then false else has_waited s past lane) ≡ false
    by_test true e earlier = refl
    by_test false e earlier = earlier (rw e at c)
never_waits s (entry.Added l c ∷ past) lane path now =
    neither (is_wait (move_of s (entry.Added l c ∷ past) lane)) (has_waited s past lane)
    (no_wait path (current s (entry.Added l c ∷ past) lane) (site_of s past lane) s.facts
    (own past lane (count_ended past lane)) (answer past) now)
    (never_waits s past lane path before)
  where
    less : (x y : Option Call) → (x ≡ y) ⊎ (y ≡ None) → Changes path x → Changes path y
    less x y (inl e) h = subst (Changes path) e h
    less x y (inr e) h = inr e

    before : Changes path (current s past lane)
    before =
        elim (eqb_tells l lane) [
          | inl t ↦ less (current s (entry.Added l c ∷ past) lane) (current s past lane)
              (subst (λ (calls : List Call). (slice_get calls (count_ended past lane) ≡ current s past lane)
              ⊎ (current s past lane ≡ None))
              (sym (subst (λ (k : ℕ). lane_calls s (entry.Added k c ∷ past) lane ≡ lane_calls s past lane ++ c ∷ [])
              (sym t.1) (added_here s past lane c)))
              (got_more (lane_calls s past lane) (c ∷ []) (count_ended past lane)))
              now
          | inr t ↦ subst (λ (calls : List Call). Changes path (slice_get calls (count_ended past lane)))
              (added_other s past l lane c t.1) now
        ]
never_waits s (e ∷ past) lane path c =
    neither (is_wait (move_of s (e ∷ past) lane)) (has_waited s past lane)
    (no_wait path (current s (e ∷ past) lane) (site_of s (e ∷ past) lane) s.facts
    (own (e ∷ past) lane (count_ended (e ∷ past) lane)) (answer (e ∷ past)) c)
    (never_waits s past lane path c)

-- it asks nothing
asks_none : (path : List ℕ) (site : Site) (facts : Facts) (requests : Own) (answers : Answers)
    → AreAsked (next (call.Cwd path) site facts) requests answers → requests ≡ []
asks_none path site facts [] answers are = refl
asks_none path site facts (a ∷ requests) answers (before, earlier, is, none, stays) = absurd (cc is)

has_asked_none : (s : Setting) (past : List Entry) (lane : ℕ) (path : List ℕ) → IsJournal s past → current s past lane
    ≡ Some (call.Cwd path) → own past lane (count_ended past lane) ≡ []
has_asked_none s past lane path j is =
    let plans : GoesByPlan s past lane (call.Cwd path) = calls_so_far s past lane (call.Cwd path) j is in
    sym plans.are ∙ ap oldest_first (asks_none path (site_of s past lane) s.facts plans.requests (answer past)
    plans.so_far.asked)

-- so none may be cancelled
not_cancelled : (s : Setting) (past : List Entry) (lane : ℕ) (path : List ℕ) → IsJournal s past → current s past lane
    ≡ Some (call.Cwd path) → may_cancel s past lane ≡ false
not_cancelled s past lane path j is =
    neither (is_some_asked (own past lane (count_ended past lane))) (has_waited s past lane)
    (ap is_some_asked (has_asked_none s past lane path j is)) (never_waits s past lane path (inl is))

cancelled_may : (s : Setting) (past : List Entry) (lane : ℕ) → IsJournal s past → last_cancel past ≡ Some lane
    → (before : List Entry) × ((past ≡ entry.Event (Cancel lane) ∷ before)
    × (IsJournal s before × (may_cancel s before lane ≡ true)))
cancelled_may s [] lane j e = absurd cc
cancelled_may s (entry.Event (Cancel l) ∷ past) lane j e =
    let may = may_of s past (entry.Event (Cancel l)) j.0 (λ g m. cc (m.1.1)) (λ k same. cc same) in
    let same : l ≡ lane = cc in (
      past,
      (
        ap (λ (k : ℕ). entry.Event (Cancel k) ∷ past) same,
        (j.1, subst (λ (k : ℕ). may_cancel s past k ≡ true) same may.1),
      ),
    )
cancelled_may s (_ ∷ past) lane j e = absurd cc

-- ---- the directory of a lane

-- what the end of a call leaves
end_moves : (s : Setting) (past : List Entry) (lane : ℕ) (c : Call) (calls : List Call) → IsJournal s past
    → current s past lane ≡ Some c → slice_get calls (count_ended past lane) ≡ Some c
    → ((l : ℕ) → last_cancel past ≡ Some l → l ≡ lane) → (site_of s past lane).directory
    ≡ directory_at [] calls (count_ended past lane)
    → (site_left (Some c) (last_cancel past) (site_of s past lane) s.facts (own past lane (count_ended past lane))
    (answer past)).directory ≡ directory_at [] calls (suc (count_ended past lane))
end_moves s past lane c calls j is here mine so = by_kind (is_still c) refl
  where
    site : Site
    site = site_of s past lane

    uncancelled : (path : List ℕ) (l : ℕ) → c ≡ call.Cwd path → last_cancel past ≡ Some l → ⊥
    uncancelled path l e cancel =
        let m = cancelled_may s past lane j (cancel ∙ ap (λ (k : ℕ). Some k) (mine l cancel)) in
        let at : current s m.0 lane ≡ Some (call.Cwd path) = subst (λ (p : List Entry). current s p lane ≡ Some c) m.1.0
        is ∙ ap (λ (x : Call). Some x) e in
        let no : may_cancel s m.0 lane ≡ false = not_cancelled s m.0 lane path m.1.1.0 at in
        let yes : may_cancel s m.0 lane ≡ true = m.1.1.1 in
        let both : true ≡ false = sym yes ∙ no in cc

    changed : (path : List ℕ) (o : Option ℕ) → last_cancel past ≡ o → c ≡ call.Cwd path
        → (site_left (Some (call.Cwd path)) o site s.facts (own past lane (count_ended past lane))
        (answer past)).directory
        ≡ path
    changed path None is e = refl
    changed path (Some l) is e = absurd (uncancelled path l e is)

    changes : (d : Call) → c ≡ d → is_still d ≡ false → (site_left (Some d) (last_cancel past) site s.facts
        (own past lane (count_ended past lane)) (answer past)).directory
        ≡ directory_at [] calls (suc (count_ended past lane))
    changes (call.Cwd path) e still = changed path (last_cancel past) refl e
        ∙ sym (cwd_moves [] calls (count_ended past lane) path (here ∙ ap (λ (x : Call). Some x) e))
    changes other e still = absurd cc

    by_kind : (b : Bool) → is_still c ≡ b → (site_left (Some c) (last_cancel past) site s.facts
        (own past lane (count_ended past lane)) (answer past)).directory
        ≡ directory_at [] calls (suc (count_ended past lane))
    by_kind true still = call_left c (last_cancel past) site s.facts (own past lane (count_ended past lane))
        (answer past)
        still ∙ (so ∙ sym (still_stays [] calls (count_ended past lane) c here still))
    by_kind false still = changes c refl still

plus_one : (n : ℕ) → n + 1 ≡ suc n
plus_one n = omega arith

some_there : (x : Option Call) → x ≢ None → (c : Call) × (x ≡ Some c)
some_there None some = absurd (some refl)
some_there (Some c) some = (c, refl)

-- an end behind a Cancel is one of the lane that was cancelled
end_mine : (s : Setting) (past : List Entry) (lane k : ℕ) (o : Outcome) (l : ℕ)
    → IsJournal s (entry.Event (End lane k o) ∷ past) → last_cancel past ≡ Some l → l ≡ lane
end_mine s past lane k o l j is = by_cancel (last_cancel past) (next_due s past) is j.0
  where
    e : Entry
    e = entry.Event (End lane k o)

    by_cancel : (c g : Option ℕ) → c ≡ Some l → MatchOption c (MatchOption g (MayCome s past e)
        (λ grant. MustClose past grant e)) (λ n. e ≡ cancelled_end past n) → l ≡ lane
    by_cancel None g same h = absurd cc
    by_cancel (Some n) g same h =
        let one : n ≡ l = cc same in
        let two : lane ≡ n = cc h in sym one ∙ sym two

-- Between its calls a lane is in the directory of its last `cwd`, as they are and however many more are added.
site_directory : (s : Setting) (past : List Entry) (lane : ℕ) (later : List Call) → IsJournal s past
    → (site_of s past lane).directory ≡ directory_at [] (lane_calls s past lane ++ later) (count_ended past lane)
site_directory s [] lane later j = refl
site_directory s (entry.Event (End l k o) ∷ past) lane later j =
    elim (eqb_tells l lane) [
      | inl t ↦ subst (λ (m : ℕ). (site_of s (entry.Event (End m k o) ∷ past) lane).directory
          ≡ directory_at [] (lane_calls s past lane ++ later) (count_ended (entry.Event (End m k o) ∷ past) lane))
          (sym t.1)
          (at_end (site_directory s past lane later j.1) (subst (λ (m : ℕ). IsJournal s
          (entry.Event (End m k o) ∷ past)) t.1 j))
      | inr t ↦ ap (λ (x : Site). x.directory) (site_other s past l k lane o t.1)
          ∙ (site_directory s past lane later j.1 ∙ ap (directory_at [] (lane_calls s past lane ++ later))
          (sym (ended_other past l k lane o t.1)))
    ]
  where
    at_end : (site_of s past lane).directory ≡ directory_at [] (lane_calls s past lane ++ later) (count_ended past lane)
        → IsJournal s (entry.Event (End lane k o) ∷ past) → (site_of s (entry.Event (End lane k o) ∷ past)
        lane).directory ≡ directory_at [] (lane_calls s past lane ++ later)
        (count_ended (entry.Event (End lane k o) ∷ past) lane)
    at_end so j =
        let e : IsEnding s past lane k = ending s past lane k o j in
        let c = some_there (current s past lane) e.some in
        let calls : List Call = lane_calls s past lane ++ later in
        let left : (site_left (Some c.0) (last_cancel past) (site_of s past lane) s.facts
        (own past lane (count_ended past lane)) (answer past)).directory
        ≡ directory_at [] calls (suc (count_ended past lane)) =
        end_moves s past lane c.0 calls j.1 c.1 (get_left (lane_calls s past lane) later (count_ended past lane) c.0
        c.1) (λ l is. end_mine s past lane k o l j is) so
        in
        let by_call : (site_left (current s past lane) (last_cancel past) (site_of s past lane) s.facts
        (own past lane (count_ended past lane)) (answer past)).directory
        ≡ directory_at [] calls (suc (count_ended past lane)) =
        subst (λ (x : Option Call). (site_left x (last_cancel past) (site_of s past lane) s.facts
        (own past lane (count_ended past lane)) (answer past)).directory
        ≡ directory_at [] calls (suc (count_ended past lane)))
        (sym c.1) left
        in
        ap (λ (x : Site). x.directory) (site_end s past lane k o)
        ∙ (subst (λ (n : ℕ). (site_left (call_at s past lane n) (last_cancel past) (site_of s past lane) s.facts
        (own past lane n) (answer past)).directory ≡ directory_at [] calls (suc (count_ended past lane))) (sym e.at)
        by_call
        ∙ ap (directory_at [] calls) (sym (ended_end past lane k o ∙ plus_one (count_ended past lane))))
site_directory s (entry.LetGo l ∷ past) lane later j = by_test (l == lane) (site_directory s past lane later j.1)
  where
    by_test : (b : Bool) → (site_of s past lane).directory ≡ directory_at [] (lane_calls s past lane ++ later)
        (count_ended past lane)
        → (if b then record { slots = fresh_site.slots; directory = (site_of s past lane).directory } else
        site_of s past lane).directory ≡ directory_at [] (lane_calls s past lane ++ later) (count_ended past lane)
    by_test true h = h
    by_test false h = h
site_directory s (entry.Added l c ∷ past) lane later j =
    elim (eqb_tells l lane) [
      | inl t ↦ (let grown : lane_calls s (entry.Added l c ∷ past) lane ≡ lane_calls s past lane ++ c ∷ [] =
          subst (λ (k : ℕ). lane_calls s (entry.Added k c ∷ past) lane ≡ lane_calls s past lane ++ c ∷ []) (sym t.1)
          (added_here s past lane c) in
          site_directory s past lane (c ∷ later) j.1
          ∙ ap (λ (calls : List Call). directory_at [] calls (count_ended past lane))
          (sym (ap (λ (cs : List Call). cs ++ later) grown ∙ append_assoc (lane_calls s past lane) (c ∷ []) later)))
      | inr t ↦ site_directory s past lane later j.1 ∙ ap (λ (calls : List Call). directory_at [] (calls ++ later)
          (count_ended past lane)) (sym (added_other s past l lane c t.1))
    ]
site_directory s (_ ∷ past) lane later j = site_directory s past lane later j.1

pub directory_now : (s : Setting) (past : List Entry) (lane : ℕ) → IsJournal s past → (site_of s past lane).directory
    ≡ directory_at [] (lane_calls s past lane) (count_ended past lane)
directory_now s past lane j =
    site_directory s past lane [] j ∙ ap (λ (calls : List Call). directory_at [] calls (count_ended past lane))
    (append-nil (lane_calls s past lane))

-- ---- lanes that keep off a name

pub off_before : (name : Name) (s : Setting) (more past : List Entry) (lane : ℕ)
    → all_keep_off name [] (lane_calls s (more ++ past) lane) ≡ true → all_keep_off name [] (lane_calls s past lane)
    ≡ true
off_before name s more past lane off =
    let g = calls_grow s more past lane in off_left name [] (lane_calls s past lane) g.0
    (subst (λ (calls : List Call). all_keep_off name [] calls ≡ true) g.1 off)
