-- `==` of each type decides equality.
use Rattle.std.specs.Prelude.{ℕ, ◌≡◌, refl}
use Rattle.std.specs.Bool.{Decides}
use Rattle.std.proofs.lemmas.Bool.Decides.{Decides-eqb}
use Rattle.std.proofs.Common.{ap}
use Rattle.sftp_values.specs.Same.{decides_by}
use Rattle.sftp_model.specs.Same.{attrs_decides}
use Rattle.sftp_model.specs.declared.file_attrs.FileAttrs.{FileAttrs}
use Rattle.sftp_meta.specs.declared.raw_permissions.RawPermissions.{RawPermissions}
use Rattle.sftp_meta.specs.declared.file_type.RawFileType.{RawFileType}
use Rattle.sftp_meta.specs.declared.file_type.RawFileType.TheVariants.{
  Socket,
  Symlink,
  RegularFile,
  BlockDevice,
  Directory,
  CharacterDevice,
  FIFO,
}
use Rattle.sftp_meta.specs.contracts.raw_permissions.RawPermissionsPartialEq.TheImpl as raw_permissions
use Rattle.sftp_meta.specs.contracts.permissions.PermissionsPartialEq.TheImpl as permissions
use Rattle.sftp_meta.specs.contracts.file_type.RawFileTypePartialEq.TheImpl as raw_file_type
use Rattle.sftp_meta.specs.contracts.file_type.FileTypePartialEq.TheImpl as file_type
use Rattle.sftp_meta.specs.contracts.unix_timestamp.UnixTimeStampPartialEq.TheImpl as timestamp
use Rattle.sftp_meta.specs.contracts.metadata.MetaDataPartialEq.TheImpl as metadata

pub raw_permissions_decides : (a b : RawPermissions) → Decides (raw_permissions.ghosts.eq a b) (a ≡ b)
raw_permissions_decides a b = decides_by _ (λ h. λ i. record { 0 = h i }) (λ e. ap (λ x. x.0) e) (Decides-eqb a.0 b.0)

pub permissions_decides : (a b : ℕ) → Decides (permissions.ghosts.eq a b) (a ≡ b)
permissions_decides a b = Decides-eqb a b

pub timestamp_decides : (a b : ℕ) → Decides (timestamp.ghosts.eq a b) (a ≡ b)
timestamp_decides a b = Decides-eqb a b

pub raw_file_type_decides : (a b : RawFileType) → Decides (raw_file_type.ghosts.eq a b) (a ≡ b)
raw_file_type_decides Socket Socket = (λ e. refl, λ e. refl)
raw_file_type_decides Symlink Symlink = (λ e. refl, λ e. refl)
raw_file_type_decides RegularFile RegularFile = (λ e. refl, λ e. refl)
raw_file_type_decides BlockDevice BlockDevice = (λ e. refl, λ e. refl)
raw_file_type_decides Directory Directory = (λ e. refl, λ e. refl)
raw_file_type_decides CharacterDevice CharacterDevice = (λ e. refl, λ e. refl)
raw_file_type_decides FIFO FIFO = (λ e. refl, λ e. refl)
raw_file_type_decides a b = (λ e. absurd cc, λ e. absurd cc)

pub file_type_decides : (a b : RawFileType) → Decides (file_type.ghosts.eq a b) (a ≡ b)
file_type_decides a b = raw_file_type_decides a b

pub metadata_decides : (a b : FileAttrs) → Decides (metadata.ghosts.eq a b) (a ≡ b)
metadata_decides a b = attrs_decides a b
