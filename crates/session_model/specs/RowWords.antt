-- Words for worked journals.
use Rattle.std.specs.Prelude.{ℕ, true, false, List, [], ◌∷◌, map}
use Rattle.sftp_model.specs.declared.open_options.OpenOptions.{OpenOptions}
use Rattle.sftp_model.specs.OpenOptions.{nothing_chosen}
use Rattle.sftp_model.specs.declared.outcome.Outcome.{Outcome}
use Rattle.sftp_model.specs.declared.request.Request.{Request}
use Rattle.sftp_model.specs.declared.request.Request.TheVariants as request
use Rattle.sftp_model.specs.declared.reply.Reply.{Reply}
use Rattle.sftp_model.specs.declared.reply.Reply.TheVariants as reply
use Rattle.plan_model.specs.FilePlans.{open_request}
use Rattle.plan_model.specs.declared.call.Call.{Call}
use Rattle.session_model.specs.declared.event.Owner.TheVariants as owner
use Rattle.session_model.specs.declared.event.Event.TheVariants.{Submit, Send, Take, Cancel, End}
use Rattle.session_model.specs.declared.entry.Entry.{Entry}
use Rattle.session_model.specs.declared.entry.Entry.TheVariants as entry
use Rattle.session_model.specs.Calls.{Setting}

-- ---- Words for journals

abbrev pub to_read : OpenOptions
to_read = record nothing_chosen { read = true }

abbrev pub setting_with : List (List Call) → Setting
setting_with lanes =
    record {
      lanes = map (λ calls. record { calls = calls }) lanes;
      facts = record {
        extensions = record { 0 = 0 };
        read_len = 32768;
        write_len = 32768;
        write_limit = 655360;
        read_window = 1;
      };
      limits = false;
      max_pending = 100;
    }

abbrev pub submit : ℕ → ℕ → ℕ → Request → Entry
submit lane call id r = entry.Event (Submit (owner.Call lane call) id r)

abbrev pub send : Entry
send = entry.Event Send

abbrev pub take : ℕ → Reply → Entry
take id r = entry.Event (Take id r)

abbrev pub end : ℕ → ℕ → Outcome → Entry
end lane call o = entry.Event (End lane call o)

abbrev pub cancel : ℕ → Entry
cancel lane = entry.Event (Cancel lane)

-- A CLOSE that the session submits.
abbrev pub close : ℕ → List ℕ → Entry
close id handle = entry.Event (Submit owner.Close id (request.Close handle))

abbrev pub open_of : List ℕ → Request
open_of path = open_request (record { 0 = 1 }) path

abbrev pub ok : Reply
ok = reply.Status 0 [] []

abbrev pub refusal : ℕ → Reply
refusal code = reply.Status code [] []

abbrev pub handle : ℕ → List ℕ
handle n = n ∷ []

abbrev pub granted : ℕ → Reply
granted n = reply.Handle (handle n)
