-- The effect of a copy on a disk on which each operation does its work.
use Rattle.std.specs.Prelude.{◌≡◌, ◌≢◌, ℕ, List, [], ◌++◌, Option, Some, None, if◌then◌else◌}
use Rattle.std.specs.Str.{bytes_eq}
use Rattle.std.specs.Option.{unwrap_or}
use Rattle.transfer_copy.specs.Local.{LocalAct, Opened, Created, Reopened, Got, Wrote, Synced, Renamed, SyncedParent, Failed}

-- The content under each name, and the name of the file that was created or reopened last.
pub record Disk : Type 0 where
  pub files : List ℕ → Option (List ℕ)
  pub made : List ℕ

-- The content `bytes` under a name; all other names are unchanged.
abbrev pub with_file : (List ℕ → Option (List ℕ)) → List ℕ → Option (List ℕ) → List ℕ → Option (List ℕ)
with_file files name bytes other = if bytes_eq other name then bytes else files other

-- A write appends to the content of the file. A rename leaves nothing under the old name. To write through to the disk
-- changes no content.
abbrev pub after_act : LocalAct → Disk → Disk
after_act (Opened name from) d = d
after_act (Created name) d = record { files = with_file d.files name (Some []); made = name }
after_act (Reopened name len) d = record { files = d.files; made = name }
after_act (Got bytes) d = d
after_act (Wrote bytes) d =
    record { files = with_file d.files d.made (Some (unwrap_or (d.files d.made) [] ++ bytes)); made = d.made }
after_act Synced d = d
after_act (Renamed from to) d =
    record { files = with_file (with_file d.files from None) to (d.files from); made = d.made }
after_act (SyncedParent name) d = d
after_act (Failed act) d = d

-- The name has these bytes, the part file is gone, and everything else is unchanged.
pub record IsCopied (part name bytes : List ℕ) (before after : Disk) : Type 0 where
  pub named : after.files name ≡ Some bytes
  pub gone : after.files part ≡ None
  pub others : (other : List ℕ) → other ≢ name → other ≢ part → after.files other ≡ before.files other
