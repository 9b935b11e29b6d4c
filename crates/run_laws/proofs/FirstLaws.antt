-- A whole read gives what its name had at first, in a journal that a file machine serves.
use Rattle.std.proofs.Common.{◌≡◌, ◌<◌, ◌≤◌, ℕ, false, List, [], ◌∷◌, ◌++◌, Option, ap, sym, subst, arith, inl, inr}
use Rattle.std.specs.Prelude.{◌⊎◌}
use Rattle.std.proofs.lemmas.List.{append-nil}
use Rattle.sftp_model.specs.declared.config.Choice.{Choice}
use Rattle.sftp_model.specs.declared.config.ServerConfig.{ServerConfig}
use Rattle.sftp_model.specs.declared.error.Error.TheVariants as error
use Rattle.sftp_model.specs.declared.outcome.Outcome.{Outcome}
use Rattle.sftp_model.specs.declared.outcome.Outcome.TheVariants as outcome
use Rattle.sftp_model.specs.declared.request.Request.{Request}
use Rattle.sftp_model.specs.declared.slot.Facts.{Facts}
use Rattle.sftp_model.specs.declared.slot.Site.{Site}
use Rattle.machine_model.specs.Changes.{IsWellFormed}
use Rattle.machine_model.specs.Components.{Name, components}
use Rattle.machine_model.specs.FileTree.{FileTree, node_at}
use Rattle.plan_model.specs.declared.call.Call.TheVariants as call
use Rattle.plan_model.specs.Moves.{Own}
use Rattle.plan_model.specs.PathPlans.{from_directory}
use Rattle.session_model.specs.declared.entry.Entry.{Entry}
use Rattle.session_model.specs.Calls.{Setting}
use Rattle.session_model.specs.Grants.{is_asked_by}
use Rattle.session_model.specs.Journals.{IsJournal}
use Rattle.session_model.specs.Readings.{answer, count_submitted, asked_at, count_sent}
use Rattle.session_model.specs.Served.{ServesJournal}
use Rattle.session_model.proofs.RequestLaws.{sent_asked}
use Rattle.run_laws.specs.Bearing.{grant_at}
use Rattle.run_laws.specs.CallsAmong.{GivesContent, GivesUnless, HasEnded, HasNoFile, IsRefusedBy, asked_by, refusal_of}
use Rattle.run_laws.specs.GrantUses.{AllPassBy, IsCallOn, IsRunOn, PassesBy}
use Rattle.run_laws.specs.InJournals.{AloneOn, is_elsewhere}
use Rattle.run_laws.specs.Steps.{Step, AreAllowed, ChooseOnly, FeignsNoEnd, HasBytes, RefuseNone, RefusesNone, asked_in}
use Rattle.run_laws.proofs.AmongLaws.{Brings, call_on, low_known, not_begun, not_own, other_with, own_with, with_own, with_own_well}
use Rattle.run_laws.proofs.BackLaws.{gives_all, granted_by, read_opens, unrefused_feigns}
use Rattle.run_laws.proofs.CutLaws.{chosen_parts, known_parts}
use Rattle.run_laws.proofs.GrantAtLaws.{used_well}
use Rattle.run_laws.proofs.LaidLaws.{IsFront, IsLaid, below_has, front, front_as, lay_call}
use Rattle.run_laws.proofs.NamedLaws.{all_pass, passes_by, run_on}
use Rattle.run_laws.proofs.RunLaws.{reads_first, refused_first}
use Rattle.run_laws.proofs.SentLaws.{AreAll, AreKnown, IsAt}
use Rattle.run_laws.proofs.ServedSteps.{none_refused}
use Rattle.run_laws.proofs.UseLaws.{UseWell}

-- a run in which a call stands on a name among steps that pass it by
record IsAloneRun (allowed : Choice → Type 0) (config : ServerConfig) (past : List Entry) (grant_of : ℕ → Option ℕ)
    (name : Name) (tree : FileTree) (r : ℕ × Request) (read : Own) : Type 0 where
  before : List Step
  step : Step
  rest : List Step
  run : IsRunOn config (answer past) grant_of (is_elsewhere past name) name tree (before ++ step ∷ rest)
  pass : AllPassBy (answer past) grant_of (is_elsewhere past name) name before
  call_is : IsCallOn (answer past) grant_of (is_elsewhere past name) name read step rest
  asks : asked_by step ≡ r
  chosen : ChooseOnly allowed (step ∷ rest)

alone_run : (allowed : Choice → Type 0) (s : Setting) (config : ServerConfig) (choices : List Choice)
    (first now : FileTree) (past : List Entry) (name : Name) (n : ℕ) (one : ℕ × ℕ) (r : ℕ × Request) (read : Own)
    → IsJournal s past → ServesJournal config choices first past now
    → AreAllowed allowed choices → AloneOn s past name n one r read → Brings past one.0 one.1 r read
    → IsAloneRun allowed config past (with_own past one.0 one.1 r.0 (grant_at s past)) name first r read
alone_run allowed s config choices first now past name n one r read j serves among t b =
    by_steps (front allowed config choices first past now n serves among t.were_sent)
  where
    grant_of : ℕ → Option ℕ
    grant_of = with_own past one.0 one.1 r.0 (grant_at s past)

    well : UseWell s past grant_of
    well = with_own_well s past one.0 one.1 r read (grant_at s past) j b (used_well s past j)

    passes : (x : Step) → IsAt past (asked_by x) → x.place < n → is_asked_by (asked_at past x.place) one.0 one.1 ≡ false
        → PassesBy (answer past) grant_of (is_elsewhere past name) name x
    passes x at lt out = passes_by s past name grant_of x j at
        (other_with past one.0 one.1 x.place r.0 (grant_at s past) out) (t.others_pass x.place lt out)

    last : r.0 < n
    last = t.until.0

    by_laid : (before rest : List Step) (step : Step) → IsFront allowed config past n first (before ++ step ∷ rest)
        → asked_by step ≡ r → IsAloneRun allowed config past grant_of name first r read
    by_laid before rest step f is =
        let at : step.place ≡ r.0 = ap (λ (p : ℕ × Request). p.0) is in
        let known = known_parts past n before (step ∷ rest) f.all.known in
        let low : AreKnown past r.0 (asked_in before) = subst (λ (k : ℕ). AreKnown past k (asked_in before)) at
        (low_known past n before rest step f.all.rising known.0) in
        record {
          before = before;
          step = step;
          rest = rest;
          run = run_on s config past name n grant_of first (before ++ step ∷ rest) j
              (let le : count_sent past ≤ count_submitted past = sent_asked past in let was = t.were_sent in
              omega (arith, le, was))
              well f.all f.served t.by_opens;
          pass = all_pass past r.0 grant_of (is_elsewhere past name) name before low
              (λ x x_at lt. passes x x_at (omega (arith, lt, last))
              (not_begun past one.0 one.1 x.place r read t.asks lt));
          call_is = call_on past n n grant_of (is_elsewhere past name) name one.0 one.1 r read before rest [] step
              (subst (λ (l : List Step). AreAll past n [] (asked_in (before ++ step ∷ l))) (sym (append-nil rest))
              f.all) t.asks is (omega arith) known.1.1
              (λ place h. below_has n place read t.until.1 h) (λ place h. absurd h)
              (λ place h. own_with past one.0 one.1 place r read (grant_at s past) t.asks h)
              (λ x x_at above lt out. passes x x_at lt (not_own past one.0 one.1 x.place r read t.asks above out));
          asks = is;
          chosen = (chosen_parts allowed before (step ∷ rest) f.chosen).1;
        }

    by_steps : (steps : List Step) × IsFront allowed config past n first steps
        → IsAloneRun allowed config past grant_of name first r read
    by_steps (steps, f) =
        let l : IsLaid r steps = lay_call allowed config past n one.0 one.1 first r read steps f t.asks last in
        by_laid l.before l.rest l.step (front_as allowed config past n first steps (l.before ++ l.step ∷ l.rest) l.is f)
        l.asks

-- ---- what a whole read gives

pub first_read_unless : (allowed : Choice → Type 0) (s : Setting) (config : ServerConfig) (choices : List Choice)
    (first now : FileTree) (past : List Entry) (name : Name) (n : ℕ) (reader : ℕ × ℕ) (r : ℕ × Request) (read : Own)
    (path bytes : List ℕ) (bound : ℕ)
    (site : Site) (facts : Facts) (ended : Outcome) → ((c : Choice) → allowed c → FeignsNoEnd c) → IsJournal s past
    → ServesJournal config choices first past now → AreAllowed allowed choices → IsWellFormed first
    → HasBytes first name bytes → AloneOn s past name n reader r read
    → components (from_directory site path) ≡ name → 1 ≤ facts.read_len
    → HasEnded (call.FsRead path bound) site facts (r ∷ read) (answer past) ended → GivesUnless allowed ended bytes
first_read_unless allowed s config choices first now past name n reader r read path bytes bound site facts ended honest
    j serves among well_formed has t denotes one e =
    let a = alone_run allowed s config choices first now past name n reader r read j serves among t
    (record {
      own_is = t.asks;
      granted = granted_by (call.FsRead path bound) site facts r read (answer past) ended
          (read_opens path bound site facts r) e;
    })
    in
    reads_first allowed config (answer past) (with_own past reader.0 reader.1 r.0 (grant_at s past))
    (is_elsewhere past name) name first a.before a.rest a.step path bytes bound site facts read ended honest
    a.chosen well_formed has a.run a.pass denotes one a.call_is
    (subst (λ (p : ℕ × Request). HasEnded (call.FsRead path bound) site facts (p ∷ read) (answer past) ended)
    (sym a.asks) e)

pub first_refused_unless : (allowed : Choice → Type 0) (s : Setting) (config : ServerConfig) (choices : List Choice)
    (first now : FileTree) (past : List Entry) (name : Name) (n : ℕ) (reader : ℕ × ℕ) (r : ℕ × Request) (read : Own)
    (path : List ℕ) (bound : ℕ)
    (site : Site) (facts : Facts) (ended : Outcome) → IsJournal s past → ServesJournal config choices first past now
    → AreAllowed allowed choices → IsWellFormed first → HasNoFile (node_at first name)
    → AloneOn s past name n reader r read
    → components (from_directory site path) ≡ name → 1 ≤ facts.read_len
    → HasEnded (call.FsRead path bound) site facts (r ∷ read) (answer past) ended
    → (ended ≡ outcome.Refused (error.SftpError (refusal_of (node_at first name)) [] [])) ⊎ IsRefusedBy allowed ended
first_refused_unless allowed s config choices first now past name n reader r read path bound site facts ended j serves
    among well_formed has t denotes one e =
    let a = alone_run allowed s config choices first now past name n reader r read j serves among t
    (record {
      own_is = t.asks;
      granted = granted_by (call.FsRead path bound) site facts r read (answer past) ended
          (read_opens path bound site facts r) e;
    })
    in
    refused_first allowed config (answer past) (with_own past reader.0 reader.1 r.0 (grant_at s past))
    (is_elsewhere past name) name first a.before a.rest a.step path bound site facts read ended a.chosen well_formed
    has a.run a.pass denotes one a.call_is
    (subst (λ (p : ℕ × Request). HasEnded (call.FsRead path bound) site facts (p ∷ read) (answer past) ended)
    (sym a.asks) e)

-- ---- where nothing is refused

pub first_read : (s : Setting) (config : ServerConfig) (choices : List Choice) (first now : FileTree)
    (past : List Entry) (name : Name) (n : ℕ) (reader : ℕ × ℕ) (r : ℕ × Request) (read : Own) (path bytes : List ℕ)
    (bound : ℕ)
    (site : Site) (facts : Facts) (ended : Outcome) → IsJournal s past → ServesJournal config choices first past now
    → RefuseNone choices → IsWellFormed first → HasBytes first name bytes → AloneOn s past name n reader r read
    → components (from_directory site path) ≡ name → 1 ≤ facts.read_len
    → HasEnded (call.FsRead path bound) site facts (r ∷ read) (answer past) ended → GivesContent ended bytes
first_read s config choices first now past name n reader r read path bytes bound site facts ended j serves none
    well_formed has t denotes one e =
    gives_all ended bytes (first_read_unless RefusesNone s config choices first now past name n reader r read path bytes
    bound site facts ended unrefused_feigns j serves (none_refused choices none) well_formed has t denotes one e)

pub first_refused : (s : Setting) (config : ServerConfig) (choices : List Choice) (first now : FileTree)
    (past : List Entry) (name : Name) (n : ℕ) (reader : ℕ × ℕ) (r : ℕ × Request) (read : Own) (path : List ℕ)
    (bound : ℕ)
    (site : Site) (facts : Facts) (ended : Outcome) → IsJournal s past → ServesJournal config choices first past now
    → RefuseNone choices → IsWellFormed first → HasNoFile (node_at first name) → AloneOn s past name n reader r read
    → components (from_directory site path) ≡ name → 1 ≤ facts.read_len
    → HasEnded (call.FsRead path bound) site facts (r ∷ read) (answer past) ended
    → ended ≡ outcome.Refused (error.SftpError (refusal_of (node_at first name)) [] [])
first_refused s config choices first now past name n reader r read path bound site facts ended j serves none well_formed
    has t denotes one e =
    elim (first_refused_unless RefusesNone s config choices first now past name n reader r read path bound site facts
    ended j serves (none_refused choices none) well_formed has t denotes one e) [
      | inl refused ↦ refused
      | inr by ↦ absurd (by.refuses by.is)
    ]
