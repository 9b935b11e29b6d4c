-- The files that are downloaded are those that were asked for.
use Rattle.std.proofs.Common.{◌≡◌, ◌∙◌, ◌∷◌, ◌++◌, [], List, ℕ, zero, suc, ap, subst, sym, inl, inr}
use Rattle.std.specs.Prelude.{map}
use Rattle.std.specs.List.Sorted.{IsPermutation}
use Rattle.std.proofs.lemmas.List.{append-nil, append_assoc, map-append}
use Rattle.std.proofs.lemmas.List.Sorted.{IsPermutation-append_left, IsPermutation-append_right, IsPermutation-middle, IsPermutation-refl, IsPermutation-sym, IsPermutation-to_front, IsPermutation-trans}
use Rattle.sftp_link.specs.Views.{LinkView}
use Rattle.sftp_client.specs.Sessions.{SftpValue}
use Rattle.sftp_client.specs.declared.walk_entry.WalkEntry.{WalkEntry}
use Rattle.example_client.specs.Downloads.{AreDownloads, Downloading, IsDownloadStep, downloaded_file}
use Rattle.example_client.specs.Progress.{AreStepsOf}
use Rattle.example_client.specs.declared.downloads.Download.{Download}
use Rattle.example_client.specs.declared.downloads.Reading.{Reading}

abbrev read_file : Reading → WalkEntry
read_file reading = reading.file

-- the files that are not started, those that are read, and those that are done
abbrev all_files : {L : Type 0} → Downloading L → List WalkEntry
all_files w = w.files ++ (map read_file w.reads ++ map downloaded_file w.done)

by_ends : {L : Type 0} (old new : Downloading L) (A B : List WalkEntry) → all_files old ≡ A → all_files new ≡ B
    → IsPermutation A B → IsPermutation (all_files old) (all_files new)
by_ends old new A B a b h =
    subst (λ (l : List WalkEntry). IsPermutation l (all_files new)) (sym a)
    (subst (λ (l : List WalkEntry). IsPermutation A l) (sym b) h)

-- a file that is started
start_moves : (f : WalkEntry) (F R D : List WalkEntry)
    → IsPermutation (f ∷ (F ++ (R ++ D))) (F ++ ((R ++ f ∷ []) ++ D))
start_moves f F R D =
    let there : (F ++ R) ++ f ∷ D ≡ F ++ ((R ++ f ∷ []) ++ D) =
    append_assoc F R (f ∷ D) ∙ ap (λ (l : List WalkEntry). F ++ l) (sym (append_assoc R (f ∷ []) D)) in
    subst (λ (l : List WalkEntry). IsPermutation (f ∷ (F ++ (R ++ D))) l) there
    (subst (λ (l : List WalkEntry). IsPermutation (f ∷ l) ((F ++ R) ++ f ∷ D)) (append_assoc F R D)
    (IsPermutation-sym ((F ++ R) ++ f ∷ D) (f ∷ ((F ++ R) ++ D)) (IsPermutation-middle (F ++ R) f D)))

-- a file that is done
end_moves : (f : WalkEntry) (F R D : List WalkEntry) → IsPermutation (F ++ (f ∷ (R ++ D))) (F ++ (R ++ (D ++ f ∷ [])))
end_moves f F R D =
    IsPermutation-append_right F (f ∷ (R ++ D)) (R ++ (D ++ f ∷ []))
    (subst (λ (l : List WalkEntry). IsPermutation (f ∷ (R ++ D)) l) (append_assoc R D (f ∷ []))
    (IsPermutation-sym ((R ++ D) ++ f ∷ []) (f ∷ (R ++ D)) (IsPermutation-to_front (R ++ D) f)))

-- a file whose read becomes the last one
turn_moves : (f : WalkEntry) (F R D : List WalkEntry)
    → IsPermutation (F ++ ((f ∷ R) ++ D)) (F ++ ((R ++ f ∷ []) ++ D))
turn_moves f F R D =
    IsPermutation-append_right F ((f ∷ R) ++ D) ((R ++ f ∷ []) ++ D)
    (IsPermutation-append_left D (f ∷ R) (R ++ f ∷ [])
    (IsPermutation-sym (R ++ f ∷ []) (f ∷ R) (IsPermutation-to_front R f)))

step_keeps : {L S : Type 0} (state : L → LinkView S) (old new : Downloading L) → IsDownloadStep state old new
    → IsPermutation (all_files old) (all_files new)
step_keeps state old new (inl (inl h)) =
    let F = new.files in
    let R = map read_file old.reads in
    let D = map downloaded_file old.done in
    by_ends old new (h.file ∷ (F ++ (R ++ D))) (F ++ ((R ++ h.file ∷ []) ++ D)) (λ i. h.next i ++ (R ++ D))
    ((λ i. F ++ (map read_file (h.last i) ++ map downloaded_file (h.done i)))
    ∙ ap (λ (l : List WalkEntry). F ++ (l ++ D))
    (map-append read_file old.reads (record { file = h.file; call = h.call } ∷ [])))
    (start_moves h.file F R D)
step_keeps state old new (inl (inr h)) =
    let F = old.files in
    let R = map read_file new.reads in
    let D = map downloaded_file old.done in
    let f = h.reading.file in
    by_ends old new (F ++ (f ∷ (R ++ D))) (F ++ (R ++ (D ++ f ∷ []))) (λ i. F ++ (map read_file (h.first i) ++ D))
    ((λ i. h.files i ++ (R ++ map downloaded_file (h.last i)))
    ∙ ap (λ (l : List WalkEntry). F ++ (R ++ l))
    (map-append downloaded_file old.done (record { file = f; bytes = h.bytes } ∷ [])))
    (end_moves f F R D)
step_keeps state old new (inr (inl h)) =
    let F = old.files in
    let R = map read_file h.later in
    let D = map downloaded_file old.done in
    let f = h.reading.file in
    by_ends old new (F ++ ((f ∷ R) ++ D)) (F ++ ((R ++ f ∷ []) ++ D)) (λ i. F ++ (map read_file (h.was i) ++ D))
    ((λ i. all_files (h.is i))
    ∙ ap (λ (l : List WalkEntry). F ++ (l ++ D))
    (map-append read_file h.later (record { file = f; call = h.after } ∷ [])))
    (turn_moves f F R D)
step_keeps state old new (inr (inr h)) =
    subst (λ w. IsPermutation (all_files old) (all_files w)) (sym h.is) (IsPermutation-refl (all_files old))

steps_keep : {L S : Type 0} (state : L → LinkView S) (n : ℕ) (old new : Downloading L)
    → AreStepsOf (IsDownloadStep state) n old new → IsPermutation (all_files old) (all_files new)
steps_keep state zero old new h =
    subst (λ w. IsPermutation (all_files old) (all_files w)) (sym h) (IsPermutation-refl (all_files old))
steps_keep state (suc n) old new h =
    IsPermutation-trans (all_files old) (all_files h.0) (all_files new) (steps_keep state n old h.0 h.1.0)
    (step_keeps state h.0 new h.1.1)

pub same_files : {L S : Type 0} (state : L → LinkView S) (files : List WalkEntry) (old new : SftpValue L)
    (done : List Download) → AreDownloads files state old new done → IsPermutation files (map downloaded_file done)
same_files state files old new done h =
    subst (λ (l : List WalkEntry). IsPermutation l (map downloaded_file done)) (append-nil files)
    (steps_keep state h.0 _ _ h.1)
