-- Trees that are removed, entry after entry.
use Rattle.std.proofs.Common.{◌≡◌, ◌∙◌, ◌++◌, List, ℕ, [], ◌∷◌, true, false, ap, refl, subst, sym, inl, inr}
use Rattle.std.specs.Prelude.{Result, Ok, Err, map, reverse}
use Rattle.std.proofs.lemmas.List.{append-nil, append_assoc, reverse-append}
use Rattle.sftp_model.specs.declared.error.Error.{Error}
use Rattle.sftp_model.specs.declared.file_attrs.FileAttrs.{FileAttrs}
use Rattle.sftp_link.specs.Views.{LinkView}
use Rattle.plan_model.specs.PathPlans.{lstat_next, remove_next, rmdir_next}
use Rattle.plan_state.specs.Keeping.{KeepsHeld}
use Rattle.plan_state.proofs.Keeping.{keeps_both}
use Rattle.sftp_file.specs.Settles.{settle_meaning}
use Rattle.sftp_file.specs.Tells.{attrs_meaning}
use Rattle.sftp_client.specs.Calls.{CallsOnPath, IsCallable}
use Rattle.sftp_client.specs.RemovedTrees.{Removal, RemovesEach, RemovesOne, RemovesPath, RemovesTree, is_link, removal_of, removals_of}
use Rattle.sftp_client.specs.Sessions.{SftpValue}
use Rattle.sftp_client.specs.Walks.{StopsWalk, WalksWhole}
use Rattle.sftp_client.specs.declared.walk_entry.WalkEntry.{WalkEntry}
use Rattle.sftp_client.proofs.Sequences.{all_both, all_none, all_stopped, each_one}
use Rattle.sftp_client.proofs.Calling.{callable_after}

-- ---- one after another

pub one_removed : {L S : Type 0} (state : L → LinkView S) (removal : Removal) (old new : SftpValue L)
    (result : Result (Unit {0}) Error) → RemovesOne state removal old new result
    → RemovesEach state (removal ∷ []) old new result
one_removed state removal old new result h =
    record {
      each = each_one (RemovesOne state) old new removal result h;
      keeps = h.keeps;
      callable = callable_after state new result h.usable;
    }

-- what holds between two removals: the entries that are left come next
pub record RemovingOn {L S : Type 0} (state : L → LinkView S) (all left : List WalkEntry) (old new : SftpValue L) :
    Type 0 where
  pub gone : List Removal
  pub order : map removal_of (reverse all) ≡ gone ++ map removal_of (reverse left)
  pub removes : RemovesEach state gone old new (Ok tt)

pub removing_first : {L S : Type 0} (state : L → LinkView S) (all : List WalkEntry) (old : SftpValue L)
    → IsCallable state old → RemovingOn state all all old old
removing_first state all old callable =
    record { gone = []; order = refl; removes = all_none (RemovesOne state) state old callable }

last_first : (left rest : List WalkEntry) (entry : WalkEntry) → left ≡ rest ++ entry ∷ []
    → map removal_of (reverse left) ≡ removal_of entry ∷ map removal_of (reverse rest)
last_first left rest entry is =
    ap (λ l. map removal_of (reverse l)) is ∙ ap (λ l. map removal_of l) (reverse-append rest (entry ∷ []))

next_order : (all left rest : List WalkEntry) (entry : WalkEntry) (gone : List Removal)
    → map removal_of (reverse all) ≡ gone ++ map removal_of (reverse left) → left ≡ rest ++ entry ∷ []
    → map removal_of (reverse all) ≡ (gone ++ removal_of entry ∷ []) ++ map removal_of (reverse rest)
next_order all left rest entry gone order is =
    order ∙ (ap (λ l. gone ++ l) (last_first left rest entry is)
    ∙ sym (append_assoc gone (removal_of entry ∷ []) (map removal_of (reverse rest))))

pub removing_next : {L S : Type 0} (state : L → LinkView S) (all left rest : List WalkEntry) (entry : WalkEntry)
    (old mid new : SftpValue L) → RemovingOn state all left old mid → left ≡ rest ++ entry ∷ []
    → RemovesOne state (removal_of entry) mid new (Ok tt) → RemovingOn state all rest old new
removing_next state all left rest entry old mid new h is one =
    record {
      gone = h.gone ++ removal_of entry ∷ [];
      order = next_order all left rest entry h.gone h.order is;
      removes = all_both (RemovesOne state) state h.gone (removal_of entry ∷ []) old mid new (Ok tt) h.removes
          (one_removed state (removal_of entry) mid new (Ok tt) one);
    }

pub removing_stops : {L S : Type 0} (state : L → LinkView S) (path : List ℕ) (all left rest : List WalkEntry)
    (entry : WalkEntry) (old mid new : SftpValue L) (e : Error) → RemovingOn state all left old mid
    → left ≡ rest ++ entry ∷ [] → RemovesOne state (removal_of entry) mid new (Err e)
    → RemovesEach state (removals_of path all) old new (Err e)
removing_stops state path all left rest entry old mid new e h is one =
    let gone = h.gone ++ removal_of entry ∷ [] in
    let root : List Removal = record { path = path; directory = true } ∷ [] in
    let later = map removal_of (reverse rest) ++ root in
    let order : removals_of path all ≡ gone ++ later =
    ap (λ l. l ++ root) (next_order all left rest entry h.gone h.order is)
    ∙ append_assoc gone (map removal_of (reverse rest)) root in
    subst (λ l. RemovesEach state l old new (Err e)) (sym order)
    (all_stopped (RemovesOne state) state gone later old new e
    (all_both (RemovesOne state) state h.gone (removal_of entry ∷ []) old mid new (Err e) h.removes
    (one_removed state (removal_of entry) mid new (Err e) one)))

pub removing_ends : {L S : Type 0} (state : L → LinkView S) (path : List ℕ) (all left : List WalkEntry)
    (old mid new : SftpValue L) (result : Result (Unit {0}) Error) → RemovingOn state all left old mid → left ≡ []
    → CallsOnPath settle_meaning (rmdir_next path) state mid new result
    → RemovesEach state (removals_of path all) old new result
removing_ends state path all left old mid new result h none last =
    let root : List Removal = record { path = path; directory = true } ∷ [] in
    let order : map removal_of (reverse all) ≡ h.gone =
    h.order ∙ (ap (λ l. h.gone ++ map removal_of (reverse l)) none ∙ append-nil h.gone) in
    subst (λ l. RemovesEach state (l ++ root) old new result) (sym order)
    (all_both (RemovesOne state) state h.gone root old mid new result h.removes
    (one_removed state (record { path = path; directory = true }) mid new result last))

-- ---- a directory, and a path

pub tree_removed : {L S : Type 0} (state : L → LinkView S) (path : List ℕ) (old mid new : SftpValue L)
    (found : List WalkEntry) (result : Result (Unit {0}) Error) → WalksWhole path state old mid found
    → KeepsHeld old.core mid.core → RemovesEach state (removals_of path found) mid new result
    → RemovesTree path state old new result
tree_removed state path old mid new found result walks keeps removes =
    record {
      removes = inl (record { walked = mid; found = found; walks = walks; removes = removes });
      keeps = keeps_both old.core mid.core new.core keeps removes.keeps;
      callable = removes.callable;
    }

pub tree_unwalked : {L S : Type 0} (state : L → LinkView S) (path : List ℕ) (old new : SftpValue L)
    (e : Error) → StopsWalk path state old new e → KeepsHeld old.core new.core
    → IsCallable state new → RemovesTree path state old new (Err e)
tree_unwalked state path old new e stops keeps callable =
    record {
      removes = inr (record { error = e; stops = stops; is = refl });
      keeps = keeps;
      callable = callable;
    }

pub path_unknown : {L S : Type 0} (state : L → LinkView S) (path : List ℕ) (old new : SftpValue L) (e : Error)
    → CallsOnPath attrs_meaning (lstat_next path) state old new (Err e) → RemovesPath path state old new (Err e)
path_unknown state path old new e asks =
    record {
      told = Err e;
      mid = new;
      asks = asks;
      ends = (refl, refl);
      keeps = asks.keeps;
      callable = asks.usable;
    }

pub link_removed : {L S : Type 0} (state : L → LinkView S) (path : List ℕ) (old mid new : SftpValue L)
    (attrs : FileAttrs) (result : Result (Unit {0}) Error)
    → CallsOnPath attrs_meaning (lstat_next path) state old mid (Ok attrs) → is_link attrs ≡ true
    → CallsOnPath settle_meaning (remove_next path) state mid new result → RemovesPath path state old new result
link_removed state path old mid new attrs result asks is removes =
    record {
      told = Ok attrs;
      mid = mid;
      asks = asks;
      ends = rw is removes;
      keeps = keeps_both old.core mid.core new.core asks.keeps removes.keeps;
      callable = callable_after state new result removes.usable;
    }

pub path_removed : {L S : Type 0} (state : L → LinkView S) (path : List ℕ) (old mid new : SftpValue L)
    (attrs : FileAttrs) (result : Result (Unit {0}) Error)
    → CallsOnPath attrs_meaning (lstat_next path) state old mid (Ok attrs) → is_link attrs ≡ false
    → RemovesTree path state mid new result → RemovesPath path state old new result
path_removed state path old mid new attrs result asks is removes =
    record {
      told = Ok attrs;
      mid = mid;
      asks = asks;
      ends = rw is removes;
      keeps = keeps_both old.core mid.core new.core asks.keeps removes.keeps;
      callable = removes.callable;
    }
