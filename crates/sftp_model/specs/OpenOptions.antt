-- believed
-- The flags of an OPEN by its options (draft-ietf-secsh-filexfer-02, section 6.3).
use Rattle.std.specs.Prelude.{ℕ, ◌+◌, false, ◌&&◌, ◌||◌, if◌then◌else◌}
use Rattle.sftp_model.specs.Numbers.{
  SSH_FXF_READ,
  SSH_FXF_WRITE,
  SSH_FXF_APPEND,
  SSH_FXF_CREAT,
  SSH_FXF_TRUNC,
  SSH_FXF_EXCL,
}
use Rattle.sftp_model.specs.declared.flags.OpenFlags.{OpenFlags}
use Rattle.sftp_model.specs.declared.open_options.OpenOptions.{OpenOptions}

abbrev pub nothing_chosen : OpenOptions
nothing_chosen = record {
  read = false;
  write = false;
  append = false;
  truncate = false;
  create = false;
  create_new =
      false;
}

-- The access to the file; `append` writes too.
abbrev pub rights_of : OpenOptions → ℕ
rights_of o = (if o.read then SSH_FXF_READ else 0) + (if o.write || o.append then SSH_FXF_WRITE else 0) +
    (if o.append then SSH_FXF_APPEND else 0)

-- The flags that create or truncate the file.
abbrev pub making_of : OpenOptions → ℕ
making_of o =
    if o.create_new then SSH_FXF_CREAT + SSH_FXF_EXCL
    else if o.create && o.truncate then SSH_FXF_CREAT + SSH_FXF_TRUNC
    else if o.create then SSH_FXF_CREAT
    else 0

abbrev pub flags_of : OpenOptions → OpenFlags
flags_of o = record { 0 = rights_of o + making_of o }
