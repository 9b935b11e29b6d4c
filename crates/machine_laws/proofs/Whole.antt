-- Runs over a server of files: they are served, and stop only for want of memory.
use Rattle.std.proofs.Common.{◌≡◌, ◌<◌, ℕ, suc, true, List, [], ◌∷◌, All, Option, Some, Err, refl, ap, sym, ◌∙◌, subst, arith}
use Rattle.sftp_model.specs.declared.config.Choice.{Choice}
use Rattle.sftp_model.specs.declared.error.Error.{Error}
use Rattle.sftp_model.specs.declared.error.Error.TheVariants as error
use Rattle.sftp_model.specs.declared.reply.Reply.{Reply}
use Rattle.sftp_model.specs.Fits.{FitsNumber}
use Rattle.sftp_link.specs.Told.{IfLogged}
use Rattle.sftp_link.specs.declared.piece.Piece.{Piece}
use Rattle.link_frames.specs.Causes.{CountsLinkFault}
use Rattle.session_driver.specs.Logs.{EndsSession, ShowsJournal}
use Rattle.session_driver.specs.Session.{SessionInputs, IsFixed}
use Rattle.sftp_model.specs.declared.options.SftpOptions.{SftpOptions}
use Rattle.sftp_model.specs.declared.flags.Extensions.{Extensions}
use Rattle.plan_model.specs.declared.call.Lane.{Lane}
use Rattle.session_model.specs.declared.entry.Entry.{Entry}
use Rattle.session_model.specs.declared.turn.Turn.{Turn}
use Rattle.session_model.specs.Calls.{Setting}
use Rattle.session_model.specs.Journals.{IsJournal}
use Rattle.plan_model.specs.Lanes.{are_ok}
use Rattle.session_model.proofs.OverLaws.{runs_are_journals}
use Rattle.session_model.specs.Runs.{IsRun}
use Rattle.session_model.specs.Readings.{answer, count_unanswered}
use Rattle.session_model.specs.Served.{IsNumbered, IsPicked, ServesJournal}
use Rattle.session_model.specs.Settings.{version_reply_of, setting_of}
use Rattle.session_model.specs.Shown.{ShowsExchange}
use Rattle.machine_model.specs.FileTree.{FileTree}
use Rattle.machine_model.specs.FitTrees.{IsFit}
use Rattle.machine_model.proofs.FirstFits.{first_fits}
use Rattle.machine_answers.specs.MachineState.{MAX_HANDLES}
use Rattle.sftp_map_server.specs.Serving.{ServerState, IsServed, IsServing, Server, Serving, config_of, first_state, fresh_server, tree_left, version_reply}
use Rattle.session_driver.specs.ServingLinks.{ServesLanes}
use Rattle.machine_laws.specs.ServedRuns.{IsServedRun}
use Rattle.sftp_map_server.specs.Unopened.{IsUnopened}
use Rattle.machine_laws.proofs.Counting.{run_calls}
use Rattle.machine_laws.proofs.Replying.{AllCodes, greeted_at}
use Rattle.machine_laws.proofs.Owing.{due}
use Rattle.machine_laws.proofs.Serving.{called, serves_by}
use Rattle.machine_laws.proofs.Numbering.{numbered_by}
use Rattle.machine_laws.proofs.Showing.{AnswersBy, IsFirst, answers_by, shows_served, shows_version}
use Rattle.session_driver.proofs.ServingLaws.{only_memory}
use Rattle.machine_laws.proofs.Stopping.{serves_lanes, sound_at}

all_codes : (choices : List Choice) → All (λ choice. FitsNumber choice.refuse) choices → AllCodes choices
all_codes [] h = tt
all_codes (c ∷ choices) h = (h 0 c (omega arith), all_codes choices (λ k d lt. h (suc k) d (omega (arith, lt))))

first_is : (first : Server) → IsUnopened first → IsFirst first.state
first_is first new =
    let d : ServerState = first_state new.files new.dirs first.state.machine.config first.state.choices in
    let is : first.state ≡ d = ap (λ (w : Server). w.state) new.is in
    record {
      fresh = ap (λ (w : ServerState). w.greeted) is;
      good = record {
        greeted = refl;
        still = ap (λ (w : ServerState). w.over) is;
        codes = all_codes first.state.choices new.fits.codes;
        limits = new.fits.limits;
        fit = subst (λ (w : ServerState). IsFit w.machine.tree) (sym is) (first_fits new.files new.dirs new.may);
      };
      known = new.fits.known;
    }

-- its log is that of a server from this state on
served_from : (server : Serving) (new : IsUnopened server.first)
    → IsServing server.first server.now server.log server.ended
    → IsServed (fresh_server server.first.state server.first.output.picks) server.log server.now
served_from server new serving =
    let here : server.first ≡ fresh_server server.first.state server.first.output.picks =
    new.is ∙ ap (λ (d : ServerState). fresh_server d server.first.output.picks)
    (sym (ap (λ (w : Server). w.state) new.is)) in
    subst (λ (w : Server). IsServed w server.log server.now) here serving.served

-- the server serves the lanes of any session
pub server_serves : (given : SessionInputs) (server : Serving) → are_ok given.lanes ≡ true → IsUnopened server.first
    → IsServing server.first server.now server.log server.ended → ServesLanes given server.log server.ended
server_serves given server ok new serving =
    serves_lanes given server.first.state server.first.output.picks server.ended server.log server.now
    (first_is server.first new) ok (served_from server new serving) serving.end

-- a run stops only for want of memory
pub stops_for_memory : (given : SessionInputs) (turns : List Turn) (server : Serving) (e : Error) → are_ok given.lanes
    ≡ true
    → IsUnopened server.first → IsServing server.first server.now server.log server.ended
    → EndsSession given turns server.ended e [] server.log → CountsLinkFault {T = Unit {0}} 0 0 (Err e) → e
    ≡ error.OutOfMemory
stops_for_memory given turns server e ok new serving ends why =
    only_memory given turns server.ended e server.log (server_serves given server ok new serving) ends why

-- what the replies of a journal are to which the log bears witness
pub record IsAnswered (first : Server) (past : List Entry) (left : FileTree) : Type 0 where
  pub serves : ServesJournal first.state.machine.config first.state.choices first.state.machine.tree past left
  pub by_picks : IsPicked first.output.picks past
  pub numbered : count_unanswered past ≡ 0 → IsNumbered past

-- a journal that the log shows is served, where calls submitted fewer requests than there are handles
journal_is_served : (lanes : List Lane) (options : SftpOptions) (extensions : Extensions) (past : List Entry)
    (server : Serving) → IsUnopened server.first → IsServing server.first server.now server.log server.ended
    → are_ok lanes ≡ true → IsJournal (setting_of lanes options extensions past) past → called past < MAX_HANDLES
    → ShowsExchange (version_reply_of extensions) past [] server.log
    → IsAnswered server.first past server.now.state.machine.tree
journal_is_served lanes options extensions past server new serving ok j few shows =
    let first = first_is server.first new in
    let f : ServerState = server.first.state in
    let picks : List ℕ = server.first.output.picks in
    let served = served_from server new serving in
    let sound = sound_at lanes options extensions f picks past server.log server.now first ok j shows served in
    let d : ServerState = greeted_at f in
    let o = shows_served (setting_of lanes options extensions past) f picks (version_reply_of extensions) past
    server.log server.now first j sound shows served in
    let none : d.machine.grants ≡ 0 = ap (λ (w : Server). w.state.machine.grants) new.is in
    let closed : d.machine.tree.handles ≡ [] = ap (λ (w : Server). w.state.machine.tree.handles) new.is in
    let by : (p : ℕ) → AnswersBy (answer past p) (due d past p) = λ p. answers_by d past p o.due in
    record {
      serves = subst (λ (w : ServerState). ServesJournal f.machine.config f.choices f.machine.tree past w.machine.tree)
          (sym o.owes.state) (serves_by d past none closed sound by few);
      by_picks = o.by_picks;
      numbered = λ over. numbered_by d past none closed sound by few over;
    }

-- the log shows VERSION and the journal
shown_by : (given : SessionInputs) (version : Option Reply) (s : Setting) (past : List Entry) (log : List Piece)
    → (fixed : IsFixed given version past s) → IfLogged (ShowsJournal version past) (Some []) (Some log)
    → ShowsExchange (version_reply_of fixed.0) past [] log
shown_by given version s past log fixed shown = subst (λ (v : Option Reply). IfLogged (ShowsJournal v past) (Some [])
    (Some log)) fixed.1.0 shown

-- VERSION tells what the server offers
pub version_is_told : (given : SessionInputs) (version : Option Reply) (s : Setting) (past : List Entry)
    (server : Serving)
    → IsUnopened server.first → IsServing server.first server.now server.log server.ended
    → IsFixed given version past s → IfLogged (ShowsJournal version past) (Some []) (Some server.log) → version
    ≡ Some (version_reply (config_of server))
version_is_told given version s past server new serving fixed shown =
    fixed.1.0 ∙ ap (λ (r : Reply). Some r) (shows_version server.first.state server.first.output.picks
    (version_reply_of fixed.0)
    past server.log server.now (first_is server.first new) (shown_by given version s past server.log fixed shown)
    (served_from server new serving))

-- a whole run is served
pub run_is_served : (given : SessionInputs) (version : Option Reply) (s : Setting) (turns : List Turn)
    (past : List Entry)
    (server : Serving) → IsUnopened server.first → IsServing server.first server.now server.log server.ended
    → are_ok given.lanes ≡ true → IsRun s turns past → IsFixed given version past s
    → IfLogged (ShowsJournal version past) (Some []) (Some server.log)
    → IsServedRun server.first past (tree_left server)
run_is_served given version s turns past server new serving ok run fixed shown =
    let is : Setting = setting_of given.lanes given.options fixed.0 past in
    let shows = shown_by given version s past server.log fixed shown in
    let whole : IsRun is turns past = subst (λ (t : Setting). IsRun t turns past) fixed.1.1 run in
    let j : IsJournal is past = runs_are_journals is turns past whole in
    let few = run_calls is turns past whole j ok in
    let a = journal_is_served given.lanes given.options fixed.0 past server new serving ok j few shows in
    record {
      serves = a.serves;
      by_picks = a.by_picks;
      numbered =
          a.numbered (subst (λ (w : List Entry). count_unanswered w ≡ 0) whole.1.1 whole.1.0.answered);
    }
