-- Two values with the same parts are the same.
use Rattle.std.proofs.Common.{◌≡◌, ◌≤◌, ◌+◌, ℕ}
use native.Mathlib.Bridge.{le_prop}
use Rattle.sftp_tasks.specs.declared.locked.LockedCounts.{LockedCounts}
use Rattle.sftp_lanes.specs.Seen.{SessionValue}
use Rattle.sftp_tasks.specs.declared.locked.Locked.{Locked}

abbrev pub locked : (s : SessionValue) (counts : LockedCounts) (users seated : ℕ) → users ≤ seated + 1 → Locked
locked s counts users seated p = record { session = s; counts = counts; users = users; seated = seated; counted = p }

pub same_counted : (s : SessionValue) (counts : LockedCounts) (users seated : ℕ) (p q : users ≤ seated + 1)
    → locked s counts users seated p ≡ locked s counts users seated q
same_counted s counts users seated p q = λ i. locked s counts users seated (le_prop p q i)
