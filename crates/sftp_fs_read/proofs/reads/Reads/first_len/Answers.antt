use Rattle.std.proofs.Common.{◌≢◌, subst, None}
use Rattle.sftp_model.specs.declared.slot.Site.{Site}
use Rattle.plan_state.specs.Calls.{IsUnfinished}
use Rattle.plan_window.specs.Windows.{first_of, window_move}
use Rattle.sftp_fs_read.specs.Reads.{ReadsValue}
use Rattle.sftp_fs_read.proofs.MoveLaws.{still_going}
use Rattle.sftp_fs_read.proofs.reads.Reads.first_len.Goals as goal

pub returns-clause-going : goal.returns-clause-going
returns-clause-going c =
    subst (λ (s : ReadsValue). (site : Site) → first_of s.window.waiting ≢ None
    → IsUnfinished (window_move s.handle None s.window site s.facts)) c.self.view_is
    (still_going (record {
      facts = c.self.inside.facts;
      handle = c.self.inside.handle;
      place = c.self.inside.place;
      window = c.self.inside.window;
    })
    c.self.invariant)
