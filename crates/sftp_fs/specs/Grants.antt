-- OPENs of calls whose file no slot holds.
use Rattle.std.specs.Prelude.{◌≡◌, false, Some, None, refl}
use Rattle.sftp_model.specs.declared.answers.Expected.TheVariants as expected
use Rattle.sftp_model.specs.declared.slot.Move.TheVariants.{Wait}
use Rattle.plan_model.specs.Moves.{Answers, Own}
use Rattle.sftp_core.specs.Grant.{GrantValue}
use Rattle.plan_state.specs.Runners.{Meaning}
use Rattle.sftp_fs.specs.Directories.{WithHandle, granted_ended, granted_left}
use Rattle.sftp_fs.specs.declared.grants.Granting.{Granting}

-- The meaning of such an OPEN, in any lane and for any use of the handle. The call returns the grant that came.
abbrev pub grant_meaning : Meaning WithHandle Granting GrantValue
grant_meaning =
    record {
      left = λ w m. granted_left w;
      place = λ m. 1;
      expected = λ m. expected.Handle;
      cut = λ m asking. Unit {0};
      ended = λ w m. granted_ended w;
      known = λ m answers. Unit {0};
      stays = λ m next. Unit {0};
      ready = λ m. ⊥;
      first = λ w m. Wait 1;
      again = false;
      grant = λ grant. Some grant;
    }

pub grants_wait : (w : WithHandle) (m : Granting) (later : Own) (answers : Answers) → answers 1 ≡ None
    → granted_left w later answers ≡ Wait 1
grants_wait w m later answers none = rw none refl
