-- What a session tells in numbers is what its journal says.
use Rattle.std.proofs.Common.{◌≡◌, ◌≢◌, ◌-◌, false, List, [], Option, None, refl, ap, sym, ◌∙◌, arith}
use Rattle.std.specs.Prelude.{is_none}
use Rattle.std.specs.FinMap as fin
use Rattle.std.specs.FinMap.{get-empty}
use Rattle.std.specs.Option.{option_map}
use Rattle.std.specs.Ordering.{nat_cmp}
use Rattle.sftp_model.specs.declared.answers.Expected.TheVariants as expected
use Rattle.sftp_model.specs.declared.flags.Extensions.{Extensions}
use Rattle.sftp_model.specs.declared.options.SftpOptions.{SftpOptions}
use Rattle.sftp_model.specs.declared.reply.Reply.{Reply}
use Rattle.sftp_core.specs.declared.info.Info.{Info}
use Rattle.sftp_core.specs.declared.id_record.IdRecord.{IdRecord}
use Rattle.sftp_core.specs.declared.id_record.IdRecord.TheVariants.{Waiting}
use Rattle.sftp_core.specs.Core.{Core, awaited_of, fresh, handed_out, queued_of, unanswered_of}
use Rattle.sftp_core.specs.Table.{IdRecords, all_sent, count, is_sent, is_waiting, sent_record}
use Rattle.sftp_core.proofs.Counts.{count-empty, count_len, count_unsent_sent, count_waiting_sent, len_sent, waiting_split}
use Rattle.sftp_core.proofs.Sent.{get_sent}
use Rattle.sftp_core.proofs.Tables.{count-insert_new}
use Rattle.plan_model.specs.declared.call.Lane.{Lane}
use Rattle.session_model.specs.declared.entry.Entry.{Entry}
use Rattle.session_model.specs.Readings.{count_below}
use Rattle.session_model.specs.Runs.{limits_query_sent}
use Rattle.session_driver.specs.Bare.{asked_core, asked_past}
use Rattle.session_driver.specs.declared.session.Phase.{Phase}
use Rattle.session_driver.specs.declared.session.Phase.TheVariants.{Fresh, Greeted, Asking, Queried, Open, Failed}
use Rattle.session_work.specs.declared.lanes.Lanes.{Lanes}
use Rattle.session_work.specs.Working.{IsOpened, past_of}
use Rattle.session_work.proofs.Counting.{awaited_count, queued_count, unanswered_count}
use Rattle.sftp_lanes.specs.Counts.{awaited_in, unanswered_in, unsent_in}
use Rattle.sftp_lanes.specs.Seen.{IsInPhase, setting_by}
use Rattle.sftp_lanes.proofs.Plain.{Told, told, told_as}

-- a core's numbers in a phase
pub record Shows (phase : Phase) (past : List Entry) (core : Core) : Type 0 where
  pub unsent : queued_of core ≡ unsent_in phase past
  pub awaited : awaited_of core ≡ awaited_in phase past
  pub unanswered : unanswered_of core ≡ unanswered_in phase past

-- ---- cores of the opening

none_at : fin.get (all_sent fin.empty) 0 ≡ None
none_at = get_sent fin.empty 0 ∙ ap (option_map sent_record) (get-empty nat_cmp 0)

none_sent : count is_sent (all_sent fin.empty) ≡ 0
none_sent =
    let few = count_len is_sent (all_sent fin.empty) in
    let same = len_sent fin.empty in
    let none = fin.len-empty nat_cmp IdRecord in
    omega (arith, few, same, none)

none_waiting : count is_waiting (all_sent fin.empty) ≡ 0
none_waiting = count_waiting_sent fin.empty ∙ count-empty is_waiting

-- the table while the query for limits is in the queue
abbrev asked_table : IdRecords
asked_table = fin.insert (all_sent fin.empty) 0 (Waiting expected.Limits false false)

one_waiting : count is_waiting asked_table ≡ 1
one_waiting =
    let more = count-insert_new is_waiting (all_sent fin.empty) 0 (Waiting expected.Limits false false) none_at in
    let none = none_waiting in
    omega (arith, more, none)

asked_unsent : count is_sent asked_table ≡ 0
asked_unsent =
    let more = count-insert_new is_sent (all_sent fin.empty) 0 (Waiting expected.Limits false false) none_at in
    let none = none_sent in
    omega (arith, more, none)

-- and once it was handed out
one_queried : count is_waiting (all_sent asked_table) ≡ 1
one_queried = count_waiting_sent asked_table ∙ one_waiting

one_sent : count is_sent (all_sent asked_table) ≡ 1
one_sent =
    let split = waiting_split (all_sent asked_table) in
    let none = count_unsent_sent asked_table in
    let one = one_queried in
    omega (arith, split, none, one)

fresh_shows : (options : SftpOptions) (past : List Entry) → Shows Fresh past (fresh options)
fresh_shows options past =
    record {
      unsent = refl;
      awaited = (let none = count-empty is_sent in omega (arith, none));
      unanswered = (let none = count-empty is_waiting in omega (arith, none));
    }

greeted_shows : (options : SftpOptions) → Shows Greeted [] (handed_out (fresh options))
greeted_shows options =
    record {
      unsent = refl;
      awaited = (let none = none_sent in omega (arith, none));
      unanswered = (let none = none_waiting in omega (arith, none));
    }

asked_shows : (options : SftpOptions) (extensions : Extensions)
    → Shows Asking asked_past (asked_core options extensions)
asked_shows options extensions =
    record {
      unsent = refl;
      awaited = (let none = asked_unsent in omega (arith, none));
      unanswered = (let one = one_waiting in omega (arith, one));
    }

queried_shows : (options : SftpOptions) (extensions : Extensions)
    → Shows Queried (limits_query_sent 0) (handed_out (asked_core options extensions))
queried_shows options extensions =
    record {
      unsent = refl;
      awaited = (let one = one_sent in omega (arith, one));
      unanswered = (let one = one_queried in omega (arith, one));
    }

-- ---- in each phase

-- what is told in a phase depends on what the journal says of its requests
unsent_as : (phase : Phase) (past other : List Entry) → told past ≡ told other → unsent_in phase past
    ≡ unsent_in phase other
unsent_as Fresh past other e = refl
unsent_as _ past other e = ap (λ (t : Told). t.asked - t.sent) e

awaited_as : (phase : Phase) (past other : List Entry) → told past ≡ told other → awaited_in phase past
    ≡ awaited_in phase other
awaited_as Fresh past other e = refl
awaited_as Greeted past other e = refl
awaited_as _ past other e = ap (λ (t : Told). count_below (λ place. is_none (t.answer place)) t.sent) e

unanswered_as : (phase : Phase) (past other : List Entry) → told past ≡ told other → unanswered_in phase past
    ≡ unanswered_in phase other
unanswered_as Fresh past other e = refl
unanswered_as Greeted past other e = refl
unanswered_as _ past other e = ap (λ (t : Told). count_below (λ place. is_none (t.answer place)) t.asked) e

-- also where core and journal are said to be these
shown_as : (phase : Phase) (past other : List Entry) (core now : Core) → told past ≡ told other → core ≡ now
    → Shows phase other now → Shows phase past core
shown_as phase past other core now same is s = record {
  unsent = ap queued_of is ∙ s.unsent ∙ sym (unsent_as phase past other same);
  awaited = ap awaited_of is ∙ s.awaited ∙ sym (awaited_as phase past other same);
  unanswered = ap unanswered_of is ∙ s.unanswered ∙ sym (unanswered_as phase past other same);
}

pub shows_in : (lanes : List Lane) (options : SftpOptions) (version : Option Reply) (info : Option Info) (w : Lanes)
    (phase : Phase) → IsInPhase lanes options version info w phase → phase ≢ Failed → Shows phase (past_of w) w.core
shows_in lanes options version info w Fresh p on = shown_as Fresh _ (past_of w) _ _ refl p.0.0
    (fresh_shows options (past_of w))
shows_in lanes options version info w Greeted p on = shown_as Greeted _ [] _ _ (told_as (past_of w) [] p.0.2) p.0.0
    (greeted_shows options)
shows_in lanes options version info w Asking p on = shown_as Asking _ asked_past _ _
    (told_as (past_of w) asked_past p.0.1.3) p.0.1.2 (asked_shows options p.0.0)
shows_in lanes options version info w Queried p on = shown_as Queried _ (limits_query_sent 0) _ _
    (told_as (past_of w) (limits_query_sent 0) p.0.1.3) p.0.1.2 (queried_shows options p.0.0)
shows_in lanes options version info w Open p on =
    let o : IsOpened w = (setting_by lanes options version info, p) in
    record { unsent = queued_count w o; awaited = awaited_count w o; unanswered = unanswered_count w o }
shows_in lanes options version info w Failed p on = absurd (on refl)
