-- Worked scripts and summaries.
use Rattle.std.specs.Prelude.{None, ◌≡◌, [], ◌∷◌, ◌++◌, codes, refl}
use Rattle.ssh_encoding.specs.Writing.{uint32}
use Rattle.sftp_model.specs.declared.outcome.Outcome.TheVariants as outcome
use Rattle.sftp_model.specs.declared.request.Request.TheVariants as request
use Rattle.plan_model.specs.declared.call.Call.TheVariants as call
use Rattle.session_model.specs.declared.event.Event.TheVariants.{Submit, Send}
use Rattle.session_model.specs.declared.event.Owner.TheVariants as owner
use Rattle.session_model.specs.declared.turn.Turn.TheVariants as turn
use Rattle.sftp_cli.specs.Bulk.{bulk_script, counting_bytes, draw, next_drawn_number, each, script_with, value_of}
use Rattle.sftp_cli.specs.Summary.{summary_of, summary_text}

-- ---- Draws

pub first_number : next_drawn_number 0 ≡ 1442695040888963407
unfolding next_drawn_number
first_number = refl

pub first_value : (draw 0).0 ≡ 167951807
unfolding next_drawn_number value_of
first_value = refl

-- ---- Scripts

-- The value of the one call is 167951807, which chooses `stat`. Then come the draws of four turns, choices and picks.
pub one_call : bulk_script 0 1 1 ≡ script_with
    (record { calls = call.Stat (0 ∷ 0 ∷ 0 ∷ 0 ∷ 3 ∷ []) ∷ [] } ∷ [])
    (turn.Step 0 ∷ turn.Flush ∷ turn.Flush ∷ turn.Take ∷ [])
    (record { refuse = 0; cap = 891 } ∷ record { refuse = 0; cap = 184 } ∷ record { refuse = 0; cap = 1975 } ∷ record
    { refuse = 0; cap = 1264 } ∷ [])
    (959018139 ∷ 1360007503 ∷ 784246482 ∷ 104453382 ∷ [])
unfolding next_drawn_number value_of each uint32
one_call = refl

-- If there are no lanes, nothing is drawn.
pub no_lanes : bulk_script 9 0 0 ≡ script_with [] [] [] []
unfolding each
no_lanes = refl

-- Bytes count up, and start again at 0 after 255.
pub counted : counting_bytes 766 4 ≡ 254 ∷ 255 ∷ 0 ∷ 1 ∷ []
unfolding counting_bytes
counted = refl

-- ---- Summaries

-- Two lanes, of which the second has no call; two of three requests were sent.
pub told : summary_of (record {
  hello = None;
  trace = Submit owner.Setup 0 request.LimitsQuery ∷ Submit (owner.Call 0 0) 1 (request.Stat []) ∷ Send ∷ Submit
      (owner.Call 0 1) 2 (request.Stat []) ∷ [];
  outcomes = (outcome.Done ∷ outcome.Bytes [] ∷ outcome.End ∷ outcome.Done ∷ []) ∷ [] ∷ [];
}) 3 40
    ≡ record { lanes = 2; calls = 4; requests = 2; done = 2; read = 1; meta = 0; refused = 0; files = 3; bytes = 40 }
told = refl

pub nine_lines : summary_text (record {
  lanes = 1;
  calls = 12;
  requests = 305;
  done = 4;
  read = 3;
  meta = 2;
  refused =
      3;
  files = 0;
  bytes = 10000;
})
    ≡ codes "lanes 1" ++ 10 ∷ codes "calls 12" ++ 10 ∷ codes "requests 305" ++ 10 ∷ codes "done 4"
    ++ 10 ∷ codes "read 3" ++ 10 ∷ codes "meta 2"
    ++ 10 ∷ codes "refused 3" ++ 10 ∷ codes "files 0" ++ 10 ∷ codes "bytes 10000" ++ 10 ∷ []
nine_lines = refl
