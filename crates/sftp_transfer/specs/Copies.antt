-- The copy of a file that was found.
use Rattle.std.specs.Prelude.{◌≡◌, ℕ, false, List, nat_le, Option, Some, None, if◌then◌else◌}
use Rattle.std.specs.Int.RustNames.{bit_and, bit_or}
use Rattle.std.specs.Option.{option_map}
use Rattle.std.specs.String.{string_bytes}
use Rattle.sftp_model.specs.declared.file_attrs.FileAttrs.{FileAttrs}
use Rattle.transfer_pool.specs.declared.copy_job.CopyJob.{CopyJob}
use Rattle.transfer_plan.specs.Cuts.{part_of}
use Rattle.transfer_plan.specs.declared.found.Found.{Found}
use Rattle.sftp_transfer.specs.declared.copy.Kept.{Kept}
use Rattle.sftp_transfer.specs.declared.copy.Manner.{Manner}
use Rattle.sftp_transfer.specs.declared.copy.Kept.TheVariants.{Nothing, Times, All}
use Rattle.transfer_args.specs.declared.asked.Direction.{Direction}
use Rattle.transfer_args.specs.declared.asked.Direction.TheVariants.{Get, Put}

-- The path on the server of a file that was found; and its path on the local side.
abbrev pub remote_of : Direction → Found → List ℕ
remote_of Get found = found.source
remote_of Put found = found.target

abbrev pub local_of : Direction → Found → List ℕ
local_of Get found = found.target
local_of Put found = found.source

-- The permissions of owner, group and others.
abbrev pub nine_bits : ℕ → ℕ
nine_bits mode = bit_and mode 0o777

-- The permissions and the times that a copy is given.
abbrev pub kept_mode : Kept → Option ℕ → Option ℕ
kept_mode Nothing mode = None
kept_mode Times mode = None
kept_mode All mode = option_map nine_bits mode

abbrev pub kept_time : {T : Type 0} → Kept → Option T → Option T
kept_time Nothing time = None
kept_time Times time = time
kept_time All time = time

-- The attributes that a copy of an entry with these attributes is given: no size and no owner.
abbrev pub kept_attrs : Kept → FileAttrs → FileAttrs
kept_attrs kept all = record {
  size = None;
  id = None;
  permissions = kept_mode kept all.permissions;
  time = kept_time kept all.time;
}

-- A copy to the server gives the file the attributes that are kept, if there are any.
abbrev pub attrs_given : Direction → Kept → FileAttrs → Option FileAttrs
attrs_given Get kept all = None
attrs_given Put Nothing all = None
attrs_given Put Times all = Some (kept_attrs Times all)
attrs_given Put All all = Some (kept_attrs All all)

-- A part file has the permissions of its source, and its owner may write it.
abbrev pub part_mode : ℕ → ℕ
part_mode mode = bit_or (nine_bits mode) 0o200

-- A directory has the permissions of its source, and its owner may do anything in it.
abbrev pub folder_mode : ℕ → ℕ
folder_mode mode = bit_or (nine_bits mode) 0o700

-- The copy goes from its source to its target. It is written as the part file of this run beside the target, after the
-- bytes that the part file has. A part file that is created has permissions of the source, and the file is given the
-- attributes that are kept. It is written through to the disk if that is asked for.
pub record IsCopyOf (manner : Manner) (begins : ℕ) (run : List ℕ) (found : Found) (job : CopyJob) :
    Type 0 where
  pub way_is : job.way ≡ manner.way
  pub from : string_bytes job.from ≡ found.source
  pub to : string_bytes job.to ≡ found.target
  pub beside : string_bytes job.part ≡ part_of found.target run
  pub begins_is : job.begins_at ≡ begins
  pub mode : job.mode ≡ option_map part_mode found.attrs.permissions
  pub attrs : job.attrs ≡ attrs_given manner.way manner.kept found.attrs
  pub sync : job.sync ≡ manner.options.sync

-- The number of bytes of a part file after which a copy continues: all that it has, if the file is known to have at
-- least that many. Otherwise the copy starts again at 0.
abbrev pub resumed_at : Option ℕ → Option ℕ → ℕ
resumed_at (Some size) (Some had) = if nat_le had size then had else 0
resumed_at size had = 0

-- The copy that is read back: the server's file, which is compared with the local one.
pub record IsReadBackOf (way : Direction) (found : Found) (job : CopyJob) : Type 0 where
  pub way_is : job.way ≡ Get
  pub from : string_bytes job.from ≡ remote_of way found
  pub part : string_bytes job.part ≡ local_of way found
  pub to : string_bytes job.to ≡ local_of way found
  pub whole : job.begins_at ≡ 0
  pub sync : job.sync ≡ false
