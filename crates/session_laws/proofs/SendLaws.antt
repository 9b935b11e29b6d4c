-- A session on runners, as what is queued is sent.
use Rattle.std.proofs.Common.{◌≡◌, ℕ, List, ◌∷◌, refl, ap}
use Rattle.std.specs.Option.{option_map}
use Rattle.sftp_core.specs.Core.{Core, record_at}
use Rattle.sftp_core.specs.Table.{sent_record}
use Rattle.session_model.specs.declared.event.Event.TheVariants.{Send}
use Rattle.session_model.specs.declared.entry.Entry.{Entry}
use Rattle.session_model.specs.Calls.{Setting}
use Rattle.session_model.specs.Ids.{IdState, Free, Pending, Replied, id_state, now_sent}
use Rattle.session_laws.specs.Lanes.{CoreTied, LaneValue, SessionTied, among, grants_of, tickets_of}
use Rattle.session_laws.specs.Tables.{place_of}
use Rattle.session_laws.proofs.SessionLaws.{same_tied}
use Rattle.session_laws.proofs.TableLaws.{send_tabled}
use Rattle.session_laws.proofs.SameLaws.{Same}
use Rattle.session_model.specs.declared.entry.Entry.TheVariants as entry

same_place : (x : IdState) → place_of (now_sent x) ≡ place_of x
same_place Free = refl
same_place (Pending place a was_sent) = refl
same_place (Replied place a r) = refl

pub send_same : (s : Setting) (past : List Entry) (w : ℕ) → Same s past (entry.Event Send ∷ past) w
send_same s past w =
    record {
      places = λ i. same_place (id_state past i);
      brought = λ i p a handle e. ap now_sent e;
      asks = λ p. refl;
      answers = λ p. refl;
      ends = refl;
      calls = λ some. refl;
      site = refl;
      owns = refl;
      gone = refl;
      holders = λ g. refl;
    }

-- What was queued is sent.
pub send_tied : (s : Setting) (past : List Entry) (core now : Core) (lanes : ℕ → LaneValue) (dues : List ℕ)
    → CoreTied s (entry.Event Send ∷ past) now → ((id : ℕ) → record_at now id
    ≡ option_map sent_record (record_at core id))
    → SessionTied s past core lanes dues → SessionTied s (entry.Event Send ∷ past) now lanes dues
send_tied s past core now lanes dues work sends h =
    same_tied s past (entry.Event Send ∷ past) core now lanes dues work
    (send_tabled past (among past (tickets_of lanes)) (among past (grants_of lanes)) (record_at core) (record_at now)
    sends
    h.table) (send_same s past) h
