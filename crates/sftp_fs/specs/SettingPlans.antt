-- Calls on paths that set any attributes.
use Rattle.std.specs.Prelude.{◌≡◌, ℕ, List, Option, refl}
use Rattle.sftp_model.specs.Frames.{no_attributes}
use Rattle.sftp_model.specs.declared.file_attrs.FileAttrs.{FileAttrs}
use Rattle.sftp_model.specs.declared.request.Request.TheVariants as request
use Rattle.sftp_model.specs.declared.slot.Facts.{Facts}
use Rattle.sftp_model.specs.declared.slot.Site.{Site}
use Rattle.plan_model.specs.PathPlans.{from_directory, mkdir_next, path_done, set_attributes, set_stat_next}
use Rattle.sftp_fs.specs.PathStarts.{PathPlan}

-- The SETSTAT of these attributes.
abbrev pub set_attrs_next : List ℕ → FileAttrs → PathPlan
set_attrs_next path attrs site facts = path_done (request.Setstat (from_directory site path) attrs) site

-- A lane's call sets only a size and a mode.
pub set_stat_sets : (path : List ℕ) (size mode : Option ℕ) (site : Site) (facts : Facts)
    → set_stat_next path size mode site facts ≡ set_attrs_next path (set_attributes size mode) site facts
set_stat_sets path size mode site facts = refl

-- The MKDIR with these attributes.
abbrev pub make_dir_next : List ℕ → FileAttrs → PathPlan
make_dir_next path attrs site facts = path_done (request.Mkdir (from_directory site path) attrs) site

-- A lane's call sends no attributes.
pub mkdir_makes : (path : List ℕ) (site : Site) (facts : Facts)
    → mkdir_next path site facts ≡ make_dir_next path no_attributes site facts
mkdir_makes path site facts = refl
