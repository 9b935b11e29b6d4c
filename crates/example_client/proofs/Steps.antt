-- Reads of a file, one after another.
use Rattle.std.proofs.Common.{◌≡◌, ◌+◌, ◌++◌, List, [], ℕ, suc, arith, refl, subst}
use Rattle.std.specs.Prelude.{None, Some}
use Rattle.sftp_link.specs.Views.{LinkView}
use Rattle.sftp_file.specs.Files.{FileValue}
use Rattle.sftp_client.specs.Calls.{IsUsable}
use Rattle.sftp_client.specs.Sessions.{SftpValue}
use Rattle.example_client.specs.Files.{AreReads, HasFile, IsRead, IsReadToEnd}

-- what holds between two reads
pub record ReadsOn {L S : Type 0} (len : ℕ) (state : L → LinkView S) (count : ℕ) (old new : SftpValue L)
    (before after : FileValue) (bytes : List ℕ) : Type 0 where
  pub reads : AreReads len state count old new before after bytes
  pub usable : IsUsable state new
  pub held : HasFile new after

pub reads_first : {L S : Type 0} (len : ℕ) (state : L → LinkView S) (old : SftpValue L) (before : FileValue)
    → IsUsable state old
    → HasFile old before → ReadsOn len state 0 old old before before []
reads_first len state old before usable held = record { reads = (refl, (refl, refl)); usable = usable; held = held }

pub reads_next : {L S : Type 0} (len : ℕ) (state : L → LinkView S) (count : ℕ) (old mid new : SftpValue L)
    (before file after : FileValue) (first part bytes : List ℕ) → ReadsOn len state count old mid before file first
    → IsRead len state mid new file after (Some part) → bytes ≡ first ++ part → IsUsable state new → HasFile new after
    → ReadsOn len state (count + 1) old new before after bytes
reads_next len state count old mid new before file after first part bytes r here joins usable held =
    let next : suc count ≡ count + 1 = omega arith in
    subst (λ (n : ℕ). ReadsOn len state n old new before after bytes) next (record {
      reads = (mid, (file, (first, (part, (r.reads, (here, joins))))));
      usable = usable;
      held = held;
    })

pub reads_end : {L S : Type 0} (len : ℕ) (state : L → LinkView S) (count : ℕ) (old mid new : SftpValue L)
    (before file after : FileValue) (bytes : List ℕ) → ReadsOn len state count old mid before file bytes
    → IsRead len state mid new file after None → IsReadToEnd state old new before after bytes
reads_end len state count old mid new before file after bytes r here =
    record { len = len; count = count; mid = mid; file = file; reads = r.reads; end = here }
