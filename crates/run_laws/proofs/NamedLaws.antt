-- The steps of a run that serves a journal come to a name by OPENs of it, and pass it by where the journal's requests
-- do.
use Rattle.std.proofs.Common.{◌≡◌, ◌<◌, ◌≤◌, ℕ, Bool, true, false, not, List, [], ◌∷◌, Option, Some, refl, ap, sym, ◌∙◌, subst, inl, inr}
use Rattle.std.proofs.lemmas.Bool.{both_ways}
use Rattle.sftp_model.specs.declared.config.Choice.{Choice}
use Rattle.sftp_model.specs.declared.config.ServerConfig.{ServerConfig}
use Rattle.sftp_model.specs.declared.file_attrs.FileAttrs.{FileAttrs}
use Rattle.sftp_model.specs.declared.flags.OpenFlags.{OpenFlags}
use Rattle.sftp_model.specs.declared.request.Request.{Request}
use Rattle.sftp_model.specs.declared.request.Request.TheVariants as request
use Rattle.machine_model.proofs.NameLaws.{names_tell}
use Rattle.machine_model.specs.Changes.{AsksToOpen}
use Rattle.machine_model.specs.Components.{Name, components}
use Rattle.machine_model.specs.FileTree.{FileTree}
use Rattle.session_model.specs.declared.entry.Entry.{Entry}
use Rattle.session_model.specs.Calls.{Setting}
use Rattle.session_model.specs.Journals.{IsJournal}
use Rattle.session_model.specs.Readings.{AskedRequest, answer, count_submitted, asked_at, count_sent}
use Rattle.session_model.proofs.RequestLaws.{sent_asked}
use Rattle.run_laws.specs.Bearing.{UsesGrant, grant_at, subject}
use Rattle.run_laws.specs.CallsAmong.{asked_by}
use Rattle.run_laws.specs.GrantUses.{AllPassBy, AreOnName, IsOnName, IsRunOn, PassesBy, WritesBy}
use Rattle.run_laws.specs.InJournals.{ComeByOpens, PassesAt, is_elsewhere, is_open_of, opens_at}
use Rattle.run_laws.specs.Sparing.{AvoidsName}
use Rattle.run_laws.specs.Steps.{Step, AreServed, RunOf, asked_in}
use Rattle.run_laws.proofs.CutLaws.{rising_distinct}
use Rattle.run_laws.proofs.GrantAtLaws.{grant_of_subject, subject_borne, used_well}
use Rattle.run_laws.proofs.SentLaws.{AreAll, AreKnown, IsAt, all_sent}
use Rattle.run_laws.proofs.UseLaws.{UseWell, use_grants}
use Rattle.run_laws.proofs.UsedLaws.{uses_grant}

-- ---- requests that pass by

pub writes_subject : (r : Request) (h : List ℕ) → WritesBy r h → subject r ≡ Some h
writes_subject (request.Write handle offset content) h w = ap (λ (x : List ℕ). Some x) w
writes_subject (request.Fsetstat handle attrs) h w = ap (λ (x : List ℕ). Some x) w
writes_subject (request.CopyData from from_offset len to to_offset) h w = ap (λ (x : List ℕ). Some x) w
writes_subject other h w = absurd w

pub passes_by : (s : Setting) (past : List Entry) (name : Name) (grant_of : ℕ → Option ℕ) (t : Step) → IsJournal s past
    → IsAt past (asked_by t) → grant_of t.place ≡ grant_at s past t.place → PassesAt s past name t.place
    → PassesBy (answer past) grant_of (is_elsewhere past name) name t
passes_by s past name grant_of t j at same p =
    let a : AskedRequest = at.0 in (
      subst (AvoidsName name) at.1.1 (p.avoids a at.1.0),
      λ h w.
          (let writes : WritesBy a.request h = subst (λ (r : Request). WritesBy r h) (sym at.1.1) w in
          let by : subject a.request ≡ Some h = writes_subject a.request h writes in
          let u : UsesGrant s past t.place a.by h = uses_grant s past t.place a h j at.1.0
          (subject_borne a.request h by) in (
            u.grant,
            (
              same ∙ (grant_of_subject s past t.place a h at.1.0 by ∙ u.is),
              (u.came, ap not (p.writes a h u.grant at.1.0 writes u.is)),
            ),
          )),
    )

-- ---- steps that come to the name by OPENs of it

-- an OPEN of the name
record IsOpenOf (name : Name) (r : Request) : Type 0 where
  path : List ℕ
  flags : OpenFlags
  attrs : FileAttrs
  is : r ≡ request.OpenFile path flags attrs
  denotes : components path ≡ name

open_of_it : (name : Name) (r : Request) → is_open_of name r ≡ true → IsOpenOf name r
open_of_it name (request.OpenFile path flags attrs) e = record
    { path = path; flags = flags; attrs = attrs; is = refl; denotes = (names_tell (components path) name).0 e }
open_of_it name other e = absurd cc

asks_open : (name : Name) (r : Request) → AsksToOpen r name → is_open_of name r ≡ true
asks_open name (request.OpenFile path flags attrs) e = (names_tell (components path) name).1 e
asks_open name other e = absurd e

step_on_name : (past : List Entry) (name : Name) (n : ℕ) (t : Step) → t.place < n → IsAt past (asked_by t)
    → ComeByOpens past name n → IsOnName name (is_elsewhere past name) t
step_on_name past name n t lt at come = by_open (is_open_of name t.request) refl
  where
    there : asked_at past t.place ≡ Some at.0
    there = at.1.0

    by_open : (b : Bool) → is_open_of name t.request ≡ b → IsOnName name (is_elsewhere past name) t
    by_open false e =
        inl (
          subst (AvoidsName name) at.1.1 (come t.place at.0 lt there (ap (is_open_of name) at.1.1 ∙ e)),
          λ asks. both_ways (is_open_of name t.request) e (asks_open name t.request asks),
        )
    by_open true e =
        let o : IsOpenOf name t.request = open_of_it name t.request e in
        let here : opens_at name (asked_at past t.place) ≡ true = ap (opens_at name) there
        ∙ (ap (is_open_of name) at.1.1 ∙ e) in
        inr (o.path, o.flags, o.attrs, o.is, o.denotes, ap not here)

steps_on_name : (past : List Entry) (name : Name) (n : ℕ) (steps : List Step) → AreKnown past n (asked_in steps)
    → ComeByOpens past name n → AreOnName name (is_elsewhere past name) steps
steps_on_name past name n [] known come = tt
steps_on_name past name n (t ∷ steps) known come = (
  step_on_name past name n t known.0.0 known.0.1 come,
  steps_on_name past name n steps known.1 come,
)

-- ---- runs

pub run_on : (s : Setting) (config : ServerConfig) (past : List Entry) (name : Name) (n : ℕ) (grant_of : ℕ → Option ℕ)
    (tree : FileTree) (steps : List Step) → IsJournal s past → n ≤ count_submitted past → UseWell s past grant_of
    → AreAll past n [] (asked_in steps) → AreServed config (answer past) tree steps → ComeByOpens past name n
    → IsRunOn config (answer past) grant_of (is_elsewhere past name) name tree steps
run_on s config past name n grant_of tree steps j le well all served come =
    record {
      served = served;
      distinct = rising_distinct steps all.rising;
      grants = use_grants s past n grant_of [] steps j le well all;
      on_name = steps_on_name past name n steps all.known come;
    }

pub served_run_on : (s : Setting) (config : ServerConfig) (choices : List Choice) (first : FileTree) (past : List Entry)
    (now : FileTree) (name : Name) (run : RunOf config choices first past now) → IsJournal s past
    → ComeByOpens past name (count_sent past) → IsRunOn config (answer past) (grant_at s past) (is_elsewhere past name)
    name first run.steps
served_run_on s config choices first past now name run j come =
    run_on s config past name (count_sent past) (grant_at s past) first run.steps j (sent_asked past)
    (used_well s past j)
    (subst (AreAll past (count_sent past) []) (sym run.asks) (all_sent past)) run.served come

-- steps that pass the name by, one after another
pub all_pass : (past : List Entry) (n : ℕ) (grant_of : ℕ → Option ℕ) (elsewhere : ℕ → Bool) (name : Name)
    (steps : List Step) → AreKnown past n (asked_in steps)
    → ((t : Step) → IsAt past (asked_by t) → t.place < n → PassesBy (answer past) grant_of elsewhere name t)
    → AllPassBy (answer past) grant_of elsewhere name steps
all_pass past n grant_of elsewhere name [] known pass = tt
all_pass past n grant_of elsewhere name (t ∷ steps) known pass =
    (pass t known.0.1 known.0.0, all_pass past n grant_of elsewhere name steps known.1 pass)
