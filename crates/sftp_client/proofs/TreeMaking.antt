-- Directories that are created with those that contain them.
use Rattle.std.proofs.Common.{◌≡◌, ◌≤◌, ◌<◌, ◌+◌, List, ℕ, [], ◌∷◌, Bool, true, false, arith, refl, subst, sym, inl, inr}
use Rattle.std.specs.Prelude.{Result, Ok, Err, length, if◌then◌else◌}
use Rattle.sftp_model.specs.declared.error.Error.{Error}
use Rattle.plan_model.specs.PathPlans.{mkdir_next}
use Rattle.plan_state.proofs.Keeping.{keeps_both}
use Rattle.sftp_link.specs.Views.{LinkView}
use Rattle.sftp_file.specs.Settles.{settle_meaning}
use Rattle.sftp_client.specs.Calls.{CallsOnPath, IsCallable}
use Rattle.sftp_client.specs.CreatedDirs.{FindsDir, MakesDir, MakesDirs, MakesPath, is_refusal}
use Rattle.sftp_client.specs.DirPaths.{dir_at, dirs_before}
use Rattle.sftp_client.specs.Sessions.{SftpValue}
use Rattle.sftp_client.proofs.Calling.{callable_after, callable_of}
use Rattle.sftp_client.proofs.PathCuts.{dirs_cut, dirs_next}
use Rattle.sftp_client.proofs.Sequences.{all_both, all_none, all_stopped, each_one}

-- ---- one directory

pub made_here : {L S : Type 0} (state : L → LinkView S) (path : List ℕ) (old new : SftpValue L)
    → CallsOnPath settle_meaning (mkdir_next path) state old new (Ok tt) → MakesDirs state (path ∷ []) old new (Ok tt)
made_here state path old new h =
    record {
      each = each_one (MakesDir state) old new path (Ok tt) (record {
        made = Ok tt;
        mid = new;
        makes = h;
        ends = (refl, refl);
      });
      keeps = h.keeps;
      callable = callable_of state new h.usable;
    }

pub made_stops : {L S : Type 0} (state : L → LinkView S) (path : List ℕ) (old new : SftpValue L) (e : Error)
    → CallsOnPath settle_meaning (mkdir_next path) state old new (Err e) → is_refusal e ≡ false
    → MakesDirs state (path ∷ []) old new (Err e)
made_stops state path old new e h is =
    record {
      each = each_one (MakesDir state) old new path (Err e) (record {
        made = Err e;
        mid = new;
        makes = h;
        ends = inl (is, (refl, refl));
      });
      keeps = h.keeps;
      callable = h.usable;
    }

pub made_found : {L S : Type 0} (state : L → LinkView S) (path : List ℕ) (old mid new : SftpValue L) (e : Error)
    (result : Result (Unit {0}) Error) → CallsOnPath settle_meaning (mkdir_next path) state old mid (Err e)
    → is_refusal e ≡ true → FindsDir state path e mid new result → MakesDirs state (path ∷ []) old new result
made_found state path old mid new e result h is finds =
    record {
      each = each_one (MakesDir state) old new path result (record {
        made = Err e;
        mid = mid;
        makes = h;
        ends = inr (is, finds);
      });
      keeps = keeps_both old.core mid.core new.core h.keeps finds.asks.keeps;
      callable = callable_after state new finds.told finds.asks.usable;
    }

-- ---- those of a path

pub path_next : {L S : Type 0} (state : L → LinkView S) (path : List ℕ) (n : ℕ) (old mid new : SftpValue L)
    → MakesDirs state (dirs_before path n) old mid (Ok tt) → MakesDirs state (dir_at path n) mid new (Ok tt)
    → MakesDirs state (dirs_before path (n + 1)) old new (Ok tt)
path_next state path n old mid new h here =
    subst (λ (l : List (List ℕ)). MakesDirs state l old new (Ok tt)) (sym (dirs_next path n))
    (all_both (MakesDir state) state (dirs_before path n) (dir_at path n) old mid new (Ok tt) h here)

pub path_stops : {L S : Type 0} (state : L → LinkView S) (path : List ℕ) (n : ℕ) (old mid new : SftpValue L) (e : Error)
    → n < length path → MakesDirs state (dirs_before path n) old mid (Ok tt)
    → MakesDirs state (dir_at path n) mid new (Err e) → MakesPath path state old new (Err e)
path_stops state path n old mid new e less h here =
    let within : n + 1 ≤ length path = omega (arith, less) in
    let cut = dirs_cut path (n + 1) within in
    subst (λ (l : List (List ℕ)). MakesDirs state l old new (Err e)) (sym cut.1)
    (all_stopped (MakesDir state) state (dirs_before path (n + 1)) cut.0 old new e
    (subst (λ (l : List (List ℕ)). MakesDirs state l old new (Err e)) (sym (dirs_next path n))
    (all_both (MakesDir state) state (dirs_before path n) (dir_at path n) old mid new (Err e) h here)))

pub path_end : {L S : Type 0} (state : L → LinkView S) (path : List ℕ) (n : ℕ) (old mid new : SftpValue L)
    (result : Result (Unit {0}) Error) → n ≡ length path → MakesDirs state (dirs_before path n) old mid (Ok tt)
    → MakesDirs state (path ∷ []) mid new result → MakesPath path state old new result
path_end state path n old mid new result all h here =
    all_both (MakesDir state) state (dirs_before path (length path)) (path ∷ []) old mid new result
    (subst (λ (k : ℕ). MakesDirs state (dirs_before path k) old mid (Ok tt)) all h) here

-- the directory at a place, or none
pub at_dir : {L S : Type 0} (state : L → LinkView S) (dir : List ℕ) (old new : SftpValue L)
    (result : Result (Unit {0}) Error) (b : Bool) → b ≡ true → MakesDirs state (dir ∷ []) old new result
    → MakesDirs state (if b then dir ∷ [] else []) old new result
at_dir state dir old new result true is h = h
at_dir state dir old new result false is h = absurd cc

pub at_none : {L S : Type 0} (state : L → LinkView S) (dir : List ℕ) (old : SftpValue L) (b : Bool) → b ≡ false
    → IsCallable state old → MakesDirs state (if b then dir ∷ [] else []) old old (Ok tt)
at_none state dir old true is callable = absurd cc
at_none state dir old false is callable = all_none (MakesDir state) state old callable
