-- Two runs of which all is given but ids have one text.
use Rattle.std.proofs.Common.{◌≡◌, ℕ, Bool, true, false, List, [], ◌∷◌, ◌++◌, length, Some, refl, ap, sym, ◌∙◌, subst}
use Rattle.sftp_model.specs.Lengths.{offers_limits}
use Rattle.sftp_model.specs.declared.options.SftpOptions.{SftpOptions}
use Rattle.sftp_model.specs.declared.config.Choice.{Choice}
use Rattle.sftp_model.specs.declared.config.ServerConfig.{ServerConfig}
use Rattle.sftp_model.specs.declared.flags.Extensions.{Extensions}
use Rattle.sftp_model.specs.declared.reply.Reply.{Reply}
use Rattle.sftp_model.specs.declared.request.Request.TheVariants as request
use Rattle.machine_model.specs.FileTree.{FileTree}
use Rattle.machine_model.specs.TreeAnswers.{limits_reply}
use Rattle.plan_model.specs.declared.call.Lane.{Lane}
use Rattle.session_model.specs.declared.turn.Turn.{Turn}
use Rattle.session_model.specs.declared.turn.Turn.TheVariants as turn
use Rattle.session_model.specs.declared.event.Owner.TheVariants as owner
use Rattle.session_model.specs.declared.event.Event.TheVariants.{Take}
use Rattle.session_model.specs.declared.entry.Entry.{Entry}
use Rattle.session_model.specs.declared.entry.Entry.TheVariants as entry
use Rattle.session_model.specs.Readings.{answer, asked_at, bearer, outcomes_below}
use Rattle.session_model.specs.Calls.{Setting}
use Rattle.session_model.specs.Journals.{IsJournal}
use Rattle.session_model.specs.Runs.{IsRun, OpensSession, Stages, GoesBy, at_first, limits_query_sent}
use Rattle.session_model.specs.Served.{is_query, requests_sent}
use Rattle.session_model.specs.Settings.{facts_of, limits_told, setting_of}
use Rattle.script_text.specs.Texts.{dir_lines, file_lines, frame_lines, lane_lines, text_with_files}
use Rattle.session_model.proofs.OverLaws.{runs_are_journals, runs_are_over}
use Rattle.session_model.proofs.RequestLaws.{answer_new, bearer_new}
use Rattle.run_laws.specs.Fixed.{IsFixedBy}
use Rattle.run_laws.proofs.Placed.{placed, placed_outcomes_below, placed_requests_sent}
use Rattle.run_laws.proofs.Lines.{placed_lines}
use Rattle.run_laws.proofs.Back.{Awaits, GoesBack, drains_repeat, repeats_back, turns_back, ends_back, lets_go_back}
use Rattle.run_laws.proofs.Alike.{Alike, Follows, Same, drains_same, ends_same, follows_back, lets_go_same, read, taken_same, turns_same}
use Rattle.run_laws.proofs.Told.{tree_left}
use Rattle.run_laws.proofs.Parts.{answer_later, query_later}
use Rattle.run_laws.proofs.Fixing.{Began, Whole, began_back, next_taken, query_told, whole_follows, whole_told}

-- ---- a whole run

opens_same : (next : List Entry → Entry) (limits : Bool) (a b : List Entry) → OpensSession limits a
    → OpensSession limits b → Follows next a → Follows next b → Same a b
opens_same next false a b x y p q = ap placed x ∙ sym (ap placed y)
opens_same next true a b x y p q =
    let one = taken_same next (limits_query_sent x.0) (limits_query_sent y.0) x.0 y.0 x.1.0 y.1.0 refl
    (subst (Follows next) x.1.1.2 p) (subst (Follows next) y.1.1.2 q) in
    ap placed x.1.1.2 ∙ (one ∙ sym (ap placed y.1.1.2))

-- what holds of each part that began a run
record Each (P : List Entry → Type 0) (at : Stages) : Type 0 where
  pub opened : P at.opened
  pub turned : P at.turned.past
  pub ended : P at.ended.past
  pub let_go : P at.let_go.past

each : (P : List Entry → Type 0) → GoesBack P → (s : Setting) (turns : List Turn) (at : Stages) → GoesBy s turns at
    → P at.drained.past → Each P at
each P f s turns at by p =
    let let_go = repeats_back P f Awaits s (turn.Flush ∷ turn.Take ∷ []) by.drains.0 at.let_go at.drained
    (drains_repeat s by.drains.0 at.let_go at.drained by.drains.1) p in
    let ended = lets_go_back P f s (length s.lanes) at.ended at.let_go by.lets_go let_go in
    let turned = ends_back P f s (length s.lanes) at.turned at.ended by.ends ended in
    record {
      opened = turns_back P f s turns (at_first at.opened) at.turned by.turns turned;
      turned = turned;
      ended =
          ended;
      let_go = let_go;
    }

goes_same : (next : List Entry → Entry) (s : Setting) (turns : List Turn) (a b : Stages) → GoesBy s turns a
    → GoesBy s turns b
    → Follows next a.drained.past → Follows next b.drained.past → Same a.drained.past b.drained.past
goes_same next s turns a b x y p q =
    let one = each (Follows next) (follows_back next) s turns a x p in
    let other = each (Follows next) (follows_back next) s turns b y q in
    let opened : Alike (at_first a.opened) (at_first b.opened) =
    record {
      past = opens_same next s.limits a.opened b.opened x.opens y.opens one.opened other.opened;
      begun =
          refl;
    } in
    let turned = turns_same next s turns (at_first a.opened) (at_first b.opened) a.turned b.turned opened x.turns
    y.turns one.turned other.turned in
    let ended = ends_same next s (length s.lanes) a.turned b.turned a.ended b.ended turned x.ends y.ends one.ended
    other.ended in
    let let_go = lets_go_same s (length s.lanes) a.ended b.ended a.let_go b.let_go ended x.lets_go y.lets_go in
    (drains_same next s x.drains.0 y.drains.0 a.let_go b.let_go a.drained b.drained let_go x.drains.1 y.drains.1
    x.answered y.answered p q).past

-- runs whose replies follow one function are one, but for ids
pub runs_same : (next : List Entry → Entry) (s : Setting) (turns : List Turn) (one other : List Entry)
    → IsRun s turns one → IsRun s turns other → Follows next one → Follows next other → Same one other
runs_same next s turns one other (a, (x, is_one)) (b, (y, is_other)) p q =
    ap placed (sym is_one) ∙ (goes_same next s turns a b x y (subst (Follows next) (sym is_one) p)
    (subst (Follows next) (sym is_other) q) ∙ ap placed is_other)

-- ---- what is given

-- the limits that a session is told are those of the server
limits_fixed : (s : Setting) (config : ServerConfig) (choices : List Choice) (picks : List ℕ) (first : FileTree)
    (full : List Entry) (left : FileTree)
    → Whole s config choices picks first full left → (limits : Bool) (opened : List Entry) → OpensSession limits opened
    → Began full opened
    → limits_told limits (answer full 0) ≡ limits_told limits (Some (limits_reply config.limits))
limits_fixed s config choices picks first full left w false opened x b = refl
limits_fixed s config choices picks first full left w true opened x b =
    let r : Reply = x.1.0 in
    let part : List Entry = entry.Event (Take x.0 r) ∷ limits_query_sent x.0 in
    let whole : full ≡ b.0 ++ part = b.1 ∙ ap (λ (l : List Entry). b.0 ++ l) x.1.1.2 in
    let borne : bearer (limits_query_sent x.0) x.0 ≡ Some 0 = bearer_new [] owner.Setup x.0 request.LimitsQuery in
    let got : answer full 0 ≡ Some r =
    ap (λ (l : List Entry). answer l 0) whole ∙ answer_later s b.0 part 0 r (subst (IsJournal s) whole w.run)
    (answer_new (limits_query_sent x.0) x.0 0 r borne) in
    let query : is_query (asked_at full 0) ≡ true = ap (λ (l : List Entry). is_query (asked_at l 0)) whole
    ∙ query_later b.0 part refl in
    let told : r ≡ limits_reply config.limits = query_told config full r query got w.served.1 in
    ap (limits_told true) (got ∙ ap (λ (q : Reply). Some q) told)

whole_of : (lanes : List Lane) (options : SftpOptions) (extensions : Extensions) (turns : List Turn)
    (config : ServerConfig) (choices : List Choice) (picks : List ℕ) (first : FileTree) (past : List Entry)
    (left : FileTree)
    → IsFixedBy lanes options extensions turns config choices picks first past left
    → Whole (setting_of lanes options extensions past) config choices picks first past left
whole_of lanes options extensions turns config choices picks first past left x =
    let s = setting_of lanes options extensions past in
    record {
      run = runs_are_journals s turns past x.run;
      served = x.served;
      is_picked = x.picked;
      numbered = x.numbered;
      answered = (runs_are_over s turns past x.run).2;
    }

-- the setting, which the limits fix
abbrev fixed_setting : List Lane → SftpOptions → Extensions → ServerConfig → Setting
fixed_setting lanes options extensions config =
    record {
      lanes = lanes;
      facts = facts_of options extensions (limits_told (offers_limits extensions) (Some (limits_reply config.limits)));
      limits = offers_limits extensions;
      max_pending = options.max_pending_requests;
    }

setting_fixed : (lanes : List Lane) (options : SftpOptions) (extensions : Extensions) (turns : List Turn)
    (config : ServerConfig) (choices : List Choice) (picks : List ℕ) (first : FileTree) (past : List Entry)
    (left : FileTree)
    → IsFixedBy lanes options extensions turns config choices picks first past left
    → setting_of lanes options extensions past ≡ fixed_setting lanes options extensions config
setting_fixed lanes options extensions turns config choices picks first past left x =
    let s = setting_of lanes options extensions past in
    let w = whole_of lanes options extensions turns config choices picks first past left x in
    let at : Stages = x.run.0 in
    let by = x.run.1.0 in
    let began : Began past at.opened = (each (Began past) (began_back past) s turns at by ([], sym x.run.1.1)).opened in
    let limits = limits_fixed s config choices picks first past left w (offers_limits extensions) at.opened by.opens
    began in
    λ i. record {
      lanes = lanes;
      facts = facts_of options extensions (limits i);
      limits = offers_limits extensions;
      max_pending = options.max_pending_requests;
    }

-- such runs are one, but for ids, and leave one tree
pub one_run : (lanes : List Lane) (options : SftpOptions) (extensions : Extensions) (turns : List Turn)
    (config : ServerConfig) (choices : List Choice) (picks : List ℕ) (first : FileTree)
    (one : List Entry) (left_one : FileTree) (other : List Entry) (left_other : FileTree)
    → IsFixedBy lanes options extensions turns config choices picks first one left_one
    → IsFixedBy lanes options extensions turns config choices picks first other left_other
    → Same one other × (left_one ≡ left_other)
one_run lanes options extensions turns config choices picks first one left_one other left_other x y =
    let s = setting_of lanes options extensions one in
    let s_other = setting_of lanes options extensions other in
    let v = whole_of lanes options extensions turns config choices picks first one left_one x in
    let w = whole_of lanes options extensions turns config choices picks first other left_other y in
    let setting : s_other ≡ s = setting_fixed lanes options extensions turns config choices picks first other left_other
    y ∙ sym (setting_fixed lanes options extensions turns config choices picks first one left_one x) in
    let next = next_taken config choices picks first in
    let p = whole_follows s config choices picks first one left_one v in
    let q = whole_follows s_other config choices picks first other left_other w in
    let same : Same one other = runs_same next s turns one other x.run
    (subst (λ (t : Setting). IsRun t turns other) setting y.run) p q in
    let sent = read requests_sent placed_requests_sent one other same in
    let tree : left_one ≡ left_other =
    (whole_told s config choices picks first one left_one v).0
    ∙ (ap (tree_left config first choices 0) sent ∙ sym (whole_told s_other config choices picks first other
    left_other w).0) in (same, tree)

-- runs that are one but for ids have the same outcomes
pub one_outcomes : (lanes : List Lane) (one other : List Entry) → Same one other
    → outcomes_below one (length lanes) ≡ outcomes_below other (length lanes)
one_outcomes lanes one other same =
    read (λ (past : List Entry). outcomes_below past (length lanes)) (λ past. placed_outcomes_below past (length lanes))
    one other same

pub one_text : (lanes : List Lane) (options : SftpOptions) (extensions : Extensions) (turns : List Turn)
    (config : ServerConfig) (choices : List Choice) (picks : List ℕ) (first : FileTree)
    (one : List Entry) (left_one : FileTree) (other : List Entry) (left_other : FileTree)
    → IsFixedBy lanes options extensions turns config choices picks first one left_one
    → IsFixedBy lanes options extensions turns config choices picks first other left_other
    → text_with_files one (outcomes_below one (length lanes)) left_one
    ≡ text_with_files other (outcomes_below other (length lanes)) left_other
one_text lanes options extensions turns config choices picks first one left_one other left_other x y =
    let run = one_run lanes options extensions turns config choices picks first one left_one other left_other x y in
    let same : Same one other = run.0 in
    let tree : left_one ≡ left_other = run.1 in
    let frames = read frame_lines placed_lines one other same in
    let outcomes = one_outcomes lanes one other same in
    λ i. (frames i ++ lane_lines 0 (outcomes i)) ++ file_lines (tree i) ++ dir_lines (tree i)
