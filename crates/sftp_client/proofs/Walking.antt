-- Directories that a walk lists, one after another.
use Rattle.std.proofs.Common.{◌≡◌, ◌∙◌, ◌++◌, ◌≤◌, ◌+◌, ◌<◌, List, ℕ, zero, suc, [], ◌∷◌, ap, arith, refl, subst, sym, inl, inr}
use Rattle.std.specs.Prelude.{Result, Ok, Err, IfErr, OnOk, length, take, drop, flat_map}
use Rattle.std.proofs.lemmas.Grind.{flat_map-append}
use Rattle.std.proofs.lemmas.List.{append-nil, append_assoc, length-append, take-append-drop, take-append-le, take_all}
use Rattle.sftp_model.specs.declared.error.Error.{Error}
use Rattle.sftp_model.specs.declared.error.Error.TheVariants as error
use Rattle.sftp_model.specs.declared.reply.NameEntry.{NameEntry}
use Rattle.sftp_link.specs.Views.{LinkView}
use Rattle.plan_state.specs.Keeping.{KeepsHeld}
use Rattle.plan_state.proofs.Keeping.{keeps_both}
use Rattle.sftp_client.specs.Calls.{IsCallable, IsUsable}
use Rattle.sftp_client.specs.DirCalls.{ListsWhole}
use Rattle.sftp_client.specs.Sequences.{ContinuesIfOk, RunsEach}
use Rattle.sftp_client.specs.Sessions.{SftpValue}
use Rattle.sftp_client.specs.Walks.{ListsDir, ListsInto, StopsNext, StopsWalk, Walking, WalksWhole, dir_in, dirs_at, found_in}
use Rattle.sftp_client.specs.declared.walk_entry.WalkEntry.{WalkEntry}
use Rattle.sftp_client.proofs.Sequences.{each_both}
use Rattle.sftp_client.proofs.Calling.{callable_of}

-- ---- the directories among entries

cut_one : {X : Type 0} (xs : List X) (at : ℕ) → take (suc at) xs ≡ take at xs ++ take 1 (drop at xs)
cut_one xs zero = refl
cut_one [] (suc at) = refl
cut_one (x ∷ xs) (suc at) = ap (λ l. x ∷ l) (cut_one xs at)

dirs_more : (found : List WalkEntry) (at : ℕ)
    → flat_map dir_in (take (at + 1) found) ≡ flat_map dir_in (take at found) ++ dirs_at found at
dirs_more found at =
    let next : at + 1 ≡ suc at = omega arith in
    ap (λ n. flat_map dir_in (take n found)) next ∙ (ap (λ l. flat_map dir_in l) (cut_one found at)
    ∙ flat_map-append dir_in (take at found) (take 1 (drop at found)))

dirs_all : (found : List WalkEntry) (at : ℕ)
    → flat_map dir_in found ≡ flat_map dir_in (take at found) ++ flat_map dir_in (drop at found)
dirs_all found at = ap (λ l. flat_map dir_in l) (sym (take-append-drop at found))
    ∙ flat_map-append dir_in (take at found) (drop at found)

-- ---- what was found stays, and more comes after it

by_first : {L : Type 0} (xs : List WalkEntry) (mid new : Walking L) (first : Result (Unit {0}) Error) (On : Type 0)
    → ((first ≡ Ok tt) → (more : List WalkEntry) × (mid.found ≡ xs ++ more))
    → (On → (more : List WalkEntry) × (new.found ≡ mid.found ++ more))
    → ContinuesIfOk first On ((new ≡ mid) × (Ok tt ≡ first)) → (more : List WalkEntry) × (new.found ≡ xs ++ more)
by_first xs mid new (Ok u) On grows later on =
    let first = grows refl in
    let second = later on in
    (first.0 ++ second.0, second.1 ∙ (ap (λ l. l ++ second.0) first.1 ∙ append_assoc xs first.0 second.0))
by_first xs mid new (Err e) On grows later off = absurd cc

one_grows : {L S : Type 0} (state : L → LinkView S) (dir : List ℕ) (old new : Walking L)
    → ListsInto state dir old new (Ok tt) → (more : List WalkEntry) × (new.found ≡ old.found ++ more)
one_grows state dir old new h = (_, h.1.1)

each_grows : {L S : Type 0} (state : L → LinkView S) (dirs : List (List ℕ)) (old new : Walking L)
    → RunsEach (ListsInto state) old new dirs (Ok tt) → (more : List WalkEntry) × (new.found ≡ old.found ++ more)
each_grows state [] old new h = ([], ap (λ (w : Walking _). w.found) h.0 ∙ sym (append-nil old.found))
each_grows state (dir ∷ dirs) old new h =
    by_first old.found h.0 new h.1.0 (RunsEach (ListsInto state) h.0 new dirs (Ok tt))
    (λ is. one_grows state dir old h.0 (subst (λ r. ListsInto state dir old h.0 r) is h.1.1.0))
    (λ on. each_grows state dirs h.0 new on) h.1.1.1

longer : {X : Type 0} (xs ys : List X) (n : ℕ) → n ≤ length xs → n ≤ length (xs ++ ys)
longer xs ys n h = let both = length-append xs ys in omega (arith, h, both)

-- ---- a walk between two places

abbrev pub walking : {L : Type 0} → SftpValue L → List WalkEntry → Walking L
walking session found = record { session = session; found = found }

pub record WalkOn {L S : Type 0} (state : L → LinkView S) (path : List ℕ) (at : ℕ) (old new : SftpValue L)
    (found : List WalkEntry) : Type 0 where
  pub each : RunsEach (ListsInto state) (walking old []) (walking new found) (path ∷ flat_map dir_in (take at found))
      (Ok tt)
  pub within : at ≤ length found
  pub keeps : KeepsHeld old.core new.core
  pub usable : IsUsable state new

pub walk_first : {L S : Type 0} (state : L → LinkView S) (path : List ℕ) (old new : SftpValue L)
    (found : List WalkEntry) → ListsDir state (path ∷ []) (walking old []) (walking new found) (Ok tt)
    → WalkOn state path 0 old new found
walk_first state path old new found h =
    record { each = h.lists; within = omega arith; keeps = h.keeps; usable = h.usable }

pub walk_next : {L S : Type 0} (state : L → LinkView S) (path : List ℕ) (at : ℕ) (old mid new : SftpValue L)
    (found after : List WalkEntry) → WalkOn state path at old mid found → at < length found
    → ListsDir state (dirs_at found at) (walking mid found) (walking new after) (Ok tt)
    → WalkOn state path (at + 1) old new after
walk_next state path at old mid new found after w less h =
    let more = each_grows state (dirs_at found at) (walking mid found) (walking new after) h.lists in
    let within : at + 1 ≤ length found = omega (arith, less) in
    let same : take (at + 1) after ≡ take (at + 1) found =
    ap (λ l. take (at + 1) l) more.1 ∙ take-append-le (at + 1) found more.0 within in
    let listed : path ∷ flat_map dir_in (take at found) ++ dirs_at found at
    ≡ path ∷ flat_map dir_in (take (at + 1) after) =
    ap (λ l. path ∷ l) (sym (dirs_more found at) ∙ ap (λ l. flat_map dir_in l) (sym same)) in
    record {
      each = subst (λ l. RunsEach (ListsInto state) (walking old []) (walking new after) l (Ok tt)) listed
          (each_both (ListsInto state) (walking old []) (walking mid found) (walking new after)
          (path ∷ flat_map dir_in (take at found)) (dirs_at found at) (Ok tt) w.each h.lists);
      within = subst (λ l. at + 1 ≤ length l) (sym more.1) (longer found more.0 (at + 1) within);
      keeps = keeps_both old.core mid.core new.core w.keeps h.keeps;
      usable = h.usable;
    }

stops_more : {L S : Type 0} (state : L → LinkView S) (left rest : List (List ℕ)) (old new : Walking L) (e : Error)
    → StopsNext state left old new e → StopsNext state (left ++ rest) old new e
stops_more state left rest old new e (inl h) =
    inl (h.0, (h.1.0 ++ rest, (ap (λ l. l ++ rest) h.1.1.0, h.1.1.1)))
stops_more state left rest old new e (inr h) = inr h

pub walk_stops : {L S : Type 0} (state : L → LinkView S) (path : List ℕ) (at : ℕ) (old mid new : SftpValue L)
    (found after : List WalkEntry) (e : Error) → WalkOn state path at old mid found
    → ListsDir state (dirs_at found at) (walking mid found) (walking new after) (Err e)
    → StopsWalk path state old new e
walk_stops state path at old mid new found after e w h =
    let rest = flat_map dir_in (drop (at + 1) found) in
    record {
      mid = walking mid found;
      after = after;
      listed = path ∷ flat_map dir_in (take at found);
      left = dirs_at found at ++ rest;
      order = ap (λ l. path ∷ l) (dirs_all found (at + 1) ∙ (ap (λ l. l ++ rest) (dirs_more found at)
          ∙ append_assoc (flat_map dir_in (take at found)) (dirs_at found at) rest));
      each = w.each;
      stops = stops_more state (dirs_at found at) rest (walking mid found) (walking new after) e h.lists;
    }

-- the first directory was not listed
pub walk_refused : {L S : Type 0} (state : L → LinkView S) (path : List ℕ) (old new : SftpValue L)
    (after : List WalkEntry) (e : Error) → ListsDir state (path ∷ []) (walking old []) (walking new after) (Err e)
    → StopsWalk path state old new e
walk_refused state path old new after e h =
    record {
      mid = walking old [];
      after = after;
      listed = [];
      left = path ∷ [];
      order = refl;
      each = (refl, refl);
      stops = h.lists;
    }

-- as many entries were found as a walk may have
pub walk_out : {L S : Type 0} (state : L → LinkView S) (path : List ℕ) (at : ℕ) (old new : SftpValue L)
    (found : List WalkEntry) → WalkOn state path at old new found → StopsWalk path state old new error.OutOfMemory
walk_out state path at old new found w =
    record {
      mid = walking new found;
      after = found;
      listed = path ∷ flat_map dir_in (take at found);
      left = flat_map dir_in (drop at found);
      order = ap (λ l. path ∷ l) (dirs_all found at);
      each = w.each;
      stops = inr (refl, refl);
    }

pub walk_end : {L S : Type 0} (state : L → LinkView S) (path : List ℕ) (at : ℕ) (old new : SftpValue L)
    (found : List WalkEntry) → WalkOn state path at old new found → length found ≤ at → at < 1000000
    → WalksWhole path state old new found
walk_end state path at old new found w all less =
    record {
      each = subst (λ l. RunsEach (ListsInto state) (walking old []) (walking new found) (path ∷ flat_map dir_in l)
          (Ok tt)) (take_all at found all) w.each;
      few = omega (arith, all, less);
    }

-- ---- one directory

pub dir_stops : {L S : Type 0} (state : L → LinkView S) (path : List ℕ) (old new : Walking L) (e : Error)
    → ListsInto state path old new (Err e) → KeepsHeld old.session.core new.session.core
    → IsCallable state new.session → ListsDir state (path ∷ []) old new (Err e)
dir_stops state path old new e h keeps usable =
    record { lists = inl (path, ([], (refl, h))); keeps = keeps; usable = usable }

pub dir_listed : {L S : Type 0} (state : L → LinkView S) (path : List ℕ) (old new : Walking L)
    → ListsInto state path old new (Ok tt) → KeepsHeld old.session.core new.session.core
    → IsUsable state new.session → ListsDir state (path ∷ []) old new (Ok tt)
dir_listed state path old new h keeps usable =
    record { lists = (new, (Ok tt, (h, (refl, refl)))); keeps = keeps; usable = usable }

pub dir_appended : {L S : Type 0} (state : L → LinkView S) (path : List ℕ) (old new : SftpValue L)
    (found after : List WalkEntry) (entries items : List NameEntry) (result : Result (Unit {0}) Error)
    → ListsWhole path state old new entries → items ≡ entries
    → OnOk result (after ≡ found ++ flat_map (found_in path) items) → IfErr result (λ e. e ≡ error.OutOfMemory)
    → KeepsHeld old.core new.core → IsUsable state new
    → ListsDir state (path ∷ []) (walking old found) (walking new after) result
dir_appended state path old new found after entries items (Ok u) lists same pushes memory keeps usable =
    dir_listed state path (walking old found) (walking new after) (
      entries,
      (
        lists,
        pushes
            ∙ ap (λ (l : List NameEntry). found ++ flat_map (found_in path) l) same,
      ),
    ) keeps usable
dir_appended state path old new found after entries items (Err e) lists same pushes memory keeps usable =
    dir_stops state path (walking old found) (walking new after) e (inr (memory, (entries, lists))) keeps
    (callable_of state new usable)
