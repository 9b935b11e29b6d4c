-- Whole writes that end well, and whole reads that come after them.
use Rattle.std.specs.Prelude.{◌≡◌, ◌≢◌, ◌<◌, ◌≤◌, ◌+◌, ℕ, true, false, List, length, Some}
use Rattle.machine_model.specs.Components.{Name, components}
use Rattle.machine_model.specs.FileTree.{FileTree, all_bytes}
use Rattle.machine_model.specs.Limits.{MAX_FILE_LEN, MAX_TOTAL_LEN}
use Rattle.plan_model.proofs.Among.{Among}
use Rattle.plan_model.specs.FilePlans.{open_request}
use Rattle.sftp_model.specs.Frames.{is_too_long}
use Rattle.plan_model.specs.WholePlans.{to_replace}
use Rattle.plan_model.specs.declared.call.Call.TheVariants as call
use Rattle.plan_model.specs.declared.call.Lane.{Lane}
use Rattle.session_model.specs.Calls.{Setting}
use Rattle.run_laws.specs.NameCalls.{none_writes}
use Rattle.run_laws.specs.ReadsBack.{IsAlone, call_in, calls_in}
use Rattle.run_laws.specs.RoundTrips.{passes_length}
use Rattle.run_ending_laws.specs.Claims.{NameClaims, LaterWriteNone, claims_sum}
use Rattle.run_ending_laws.specs.StandsBelow.{MakeOthers, StandsBelow}

-- A whole write whose path fits a frame. Its bytes have room together with all that may be written, and its name may be
-- opened after the MKDIRs of these paths.
pub record WritesWell (lanes : List Lane) (tree : FileTree) (claims : NameClaims) (paths : List (List ℕ)) (lane k : ℕ)
    (path content : List ℕ) : Type 0 where
  pub is : call_in lanes lane k ≡ Some (call.FsWrite path content)
  pub short : is_too_long (open_request to_replace path) ≡ false
  pub small : length content ≤ MAX_FILE_LEN
  pub room : all_bytes tree + claims_sum claims ≤ MAX_TOTAL_LEN
  pub below : StandsBelow tree paths (components path)
  pub others : MakeOthers lanes (components path)

-- A whole read of the name by a later call of the lane, whose bound is more than the bytes that were written.
pub record ReadsWell (s : Setting) (lane k m : ℕ) (path content : List ℕ) : Type 0 where
  pub bound : ℕ
  pub is : call_in s.lanes lane m ≡ Some (call.FsRead path bound)
  pub after_it : k < m
  pub short : passes_length path ≡ false
  pub over : length content < bound
  pub some : 1 ≤ s.facts.read_len
  pub room : 1 ≤ s.facts.read_window
  pub last : LaterWriteNone s.lanes (components path) lane m

-- A whole read of a name that belongs to its lane alone and that no lane writes. Its bound is more than the bytes that
-- its file has at first.
pub record ReadsThere (s : Setting) (claims : NameClaims) (lane n : ℕ) (path bytes : List ℕ) : Type 0 where
  pub bound : ℕ
  pub is : call_in s.lanes lane n ≡ Some (call.FsRead path bound)
  pub short : passes_length path ≡ false
  pub over : length bytes < bound
  pub some : 1 ≤ s.facts.read_len
  pub room : 1 ≤ s.facts.read_window
  pub alone : IsAlone s.lanes (components path) lane
  pub never : none_writes (components path) (calls_in s.lanes lane) ≡ true
  pub unclaimed : (claim : Name × ℕ) → Among claim claims → claim.0 ≢ components path
