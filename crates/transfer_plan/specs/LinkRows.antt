-- Worked targets of symbolic links.
use Rattle.std.specs.Prelude.{◌≡◌, true, false, [], codes, refl}
use Rattle.transfer_plan.specs.Links.{leads_out}

-- ---- In the tree

pub beside : leads_out 0 (codes "f") ≡ false
beside = refl

pub in_directory : leads_out 0 (codes "a/b/f") ≡ false
in_directory = refl

-- From a directory of the root to the root.
pub up_one : leads_out 1 (codes "../f") ≡ false
up_one = refl

pub down_and_up : leads_out 1 (codes "a/../../f") ≡ false
down_and_up = refl

pub to_the_root : leads_out 1 (codes "..") ≡ false
to_the_root = refl

-- Empty components and "." lead nowhere.
pub dots_and_slashes : leads_out 1 (codes ".//../././f/") ≡ false
dots_and_slashes = refl

-- A name may begin with dots.
pub dotted_name : leads_out 0 (codes ".../..f") ≡ false
dotted_name = refl

-- ---- Out of the tree

pub empty : leads_out 0 [] ≡ true
empty = refl

pub absolute : leads_out 5 (codes "/etc/passwd") ≡ true
absolute = refl

pub above : leads_out 0 (codes "../f") ≡ true
above = refl

pub parent : leads_out 0 (codes "..") ≡ true
parent = refl

pub parent_by_dot : leads_out 0 (codes "./..") ≡ true
parent_by_dot = refl

pub down_and_above : leads_out 0 (codes "a/../../f") ≡ true
down_and_above = refl

-- It leads back into the tree, by the name of the root's parent directory: that is out of it, too.
pub above_and_back : leads_out 0 (codes "../root/f") ≡ true
above_and_back = refl

pub too_far_up : leads_out 2 (codes "../../../f") ≡ true
too_far_up = refl
