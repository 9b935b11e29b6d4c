-- Worked journals of how often a handle was granted and closed.
use Rattle.std.specs.Prelude.{◌≡◌, ◌∷◌, [], refl}
use Rattle.session_model.specs.Closes.{granted_handles, closed_handles, times, AreClosed, closes_of}
use Rattle.session_model.specs.JournalRows.{s, over}
use Rattle.session_model.specs.LaneRows.{opens}
use Rattle.session_model.specs.RowWords.{close, handle}
use Rattle.session_model.specs.RunRows.{without_close}

-- A file is opened, read and closed.
pub granted_over : granted_handles over ≡ handle 7 ∷ []
granted_over = refl

pub closed_over : closed_handles over ≡ handle 7 ∷ []
closed_over = refl

pub one_close : closes_of s over 0 ≡ 1
one_close = refl

-- A file is opened and never closed: this is no run.
pub granted_alone : times (handle 7) (granted_handles without_close) ≡ 1
granted_alone = refl

pub never_closed : times (handle 7) (closed_handles without_close) ≡ 0
never_closed = refl

pub no_close : closes_of opens without_close 0 ≡ 0
no_close = refl

pub left_open : AreClosed without_close → ⊥
left_open all = let same = all (handle 7) in cc

-- A file is closed twice.
pub closed_twice : AreClosed (close 1 (handle 7) ∷ close 0 (handle 7) ∷ without_close) → ⊥
closed_twice all = let same = all (handle 7) in cc
