-- What is read in a whole run that was written before, or that was there at first, with premises on requests alone.
use Rattle.std.proofs.Common.{◌≡◌, ℕ, ◌≤◌, Bool, List, [], ◌∷◌, ◌++◌, Option, refl, ap, sym, ◌∙◌, subst, inl, inr}
use Rattle.std.specs.Prelude.{◌⊎◌}
use Rattle.std.proofs.lemmas.List.{append-nil}
use Rattle.sftp_model.specs.declared.config.Choice.{Choice}
use Rattle.sftp_model.specs.declared.config.ServerConfig.{ServerConfig}
use Rattle.sftp_model.specs.declared.error.Error.TheVariants as error
use Rattle.sftp_model.specs.declared.outcome.Outcome.{Outcome}
use Rattle.sftp_model.specs.declared.outcome.Outcome.TheVariants as outcome
use Rattle.sftp_model.specs.declared.request.Request.{Request}
use Rattle.sftp_model.specs.declared.slot.Facts.{Facts}
use Rattle.sftp_model.specs.declared.slot.Site.{Site}
use Rattle.machine_model.specs.Changes.{IsWellFormed}
use Rattle.machine_model.specs.Components.{Name, components}
use Rattle.machine_model.specs.FileTree.{FileTree, node_at}
use Rattle.machine_model.specs.Pairs.{HasEntry}
use Rattle.machine_model.specs.declared.node.Node.{Node}
use Rattle.plan_model.specs.declared.call.Call.TheVariants as call
use Rattle.plan_model.specs.Moves.{Answers, Own, handle_of}
use Rattle.plan_model.specs.PathPlans.{from_directory}
use Rattle.run_laws.specs.CallsAmong.{GivesUnless, HasEnded, HasNoFile, IsRefusedBy, AreAmongSteps, StandsOnName, asked_by, refusal_of}
use Rattle.run_laws.specs.GrantUses.{AllPassBy, AreAmong, IsCallOn, IsRunOn, IsUsed}
use Rattle.run_laws.specs.Steps.{Step, answer_to, after, AllSpare, AreServed, ChooseOnly, FeignsNoEnd, HasBytes}
use Rattle.run_laws.proofs.GrantLaws.{AreKept, AreKinds, grants_are_kept, kinds_as, kinds_of}
use Rattle.run_laws.proofs.PassingLaws.{AreSpared, passing_steps_spare}
use Rattle.run_laws.proofs.StepLaws.{after_two, served_first, served_rest, steps_bytes, steps_node, steps_well_formed}
use Rattle.run_laws.proofs.WholeReadLaws.{whole_reads, whole_refused}
use Rattle.run_laws.proofs.WholeWriteLaws.{whole_writes}

-- ---- parts of a run

-- what holds from a tree on, where these grants were made: steps that pass by spare the name, and no handle is closed
-- that a later step bears
record IsOrderly (config : ServerConfig) (answers : Answers) (grant_of : ℕ → Option ℕ) (elsewhere : ℕ → Bool)
    (name : Name) (seen : List ℕ) (tree : FileTree) (steps : List Step) : Type 0 where
  spared : AreSpared config answers grant_of elsewhere name tree steps
  kept : AreKept answers grant_of seen steps

run_orderly : (config : ServerConfig) (answers : Answers) (grant_of : ℕ → Option ℕ) (elsewhere : ℕ → Bool) (name : Name)
    (tree : FileTree) (steps : List Step) → IsWellFormed tree
    → IsRunOn config answers grant_of elsewhere name tree steps
    → IsOrderly config answers grant_of elsewhere name [] tree steps
run_orderly config answers grant_of elsewhere name tree steps well_formed run =
    let kinds : AreKinds config answers (kinds_of config tree steps) tree steps =
    kinds_as config answers (kinds_of config tree steps) tree steps (λ place there. refl) run.distinct run.served in
    record {
      spared = passing_steps_spare config answers grant_of elsewhere (kinds_of config tree steps) name tree steps
          well_formed run.served run.grants kinds run.on_name;
      kept = grants_are_kept config answers grant_of (kinds_of config tree steps) tree steps run.served run.grants
          kinds;
    }

-- the grants that the steps may have made
abbrev pub seen_after : List ℕ → List Step → List ℕ
seen_after seen [] = seen
seen_after seen (s ∷ steps) = seen_after (s.place ∷ seen) steps

orderly_rest : (config : ServerConfig) (answers : Answers) (grant_of : ℕ → Option ℕ) (elsewhere : ℕ → Bool)
    (name : Name) (seen : List ℕ) (tree : FileTree) (xs ys : List Step)
    → IsOrderly config answers grant_of elsewhere name seen tree (xs ++ ys)
    → IsOrderly config answers grant_of elsewhere name (seen_after seen xs) (after config tree xs) ys
orderly_rest config answers grant_of elsewhere name seen tree [] ys orderly = orderly
orderly_rest config answers grant_of elsewhere name seen tree (x ∷ xs) ys orderly =
    orderly_rest config answers grant_of elsewhere name (x.place ∷ seen) (answer_to config tree x).1 xs ys
    (record { spared = orderly.spared.1; kept = orderly.kept.1 })

all_spare : (config : ServerConfig) (answers : Answers) (grant_of : ℕ → Option ℕ) (elsewhere : ℕ → Bool) (name : Name)
    (tree : FileTree) (steps more : List Step) → AllPassBy answers grant_of elsewhere name steps
    → AreSpared config answers grant_of elsewhere name tree (steps ++ more) → AllSpare config name tree steps
all_spare config answers grant_of elsewhere name tree [] more pass spared = tt
all_spare config answers grant_of elsewhere name tree (s ∷ steps) more pass spared = (
  spared.0 pass.0.0 pass.0.1,
  all_spare config answers grant_of elsewhere name (answer_to config tree s).1 steps more
      pass.1 spared.1,
)

-- ---- one call

-- the grant is borne by the requests that are to come
is_used : (answers : Answers) (grant_of : ℕ → Option ℕ) (elsewhere : ℕ → Bool) (name : Name) (grant : ℕ)
    (asked : ℕ × Request) (later : Own) (steps more : List Step)
    → AreAmong answers grant_of elsewhere name grant (asked ∷ later) steps → IsUsed grant_of grant (steps ++ more)
is_used answers grant_of elsewhere name grant asked later [] more among = absurd among
is_used answers grant_of elsewhere name grant asked later (s ∷ steps) more (inl own) = inl own.2
is_used answers grant_of elsewhere name grant asked later (s ∷ steps) more (inr other) =
    inr (is_used answers grant_of elsewhere name grant asked later steps more other.1)

stand_by : (config : ServerConfig) (answers : Answers) (grant_of : ℕ → Option ℕ) (elsewhere : ℕ → Bool) (name : Name)
    (grant : ℕ) (steps more : List Step) (own : Own) (seen : List ℕ) (tree : FileTree) → HasEntry seen grant
    → IsOrderly config answers grant_of elsewhere name seen tree (steps ++ more)
    → AreAmong answers grant_of elsewhere name grant own steps
    → AreAmongSteps config name (handle_of (answers grant)) own tree steps
stand_by config answers grant_of elsewhere name grant steps more [] seen tree there orderly among =
    all_spare config answers grant_of elsewhere name tree steps more among orderly.spared
stand_by config answers grant_of elsewhere name grant [] more (asked ∷ later) seen tree there orderly among =
    absurd among
stand_by config answers grant_of elsewhere name grant (s ∷ steps) more (asked ∷ later) seen tree there orderly (inl own)
    =
    inl (
      own.0,
      own.1,
      stand_by config answers grant_of elsewhere name grant steps more later (s.place ∷ seen)
          (answer_to config tree s).1 (inr there) (record { spared = orderly.spared.1; kept = orderly.kept.1 }) own.3,
    )
stand_by config answers grant_of elsewhere name grant (s ∷ steps) more (asked ∷ later) seen tree there orderly
    (inr other) =
    inr (
      orderly.spared.0 other.0.0 other.0.1,
      (orderly.kept.0 grant there (is_used answers grant_of elsewhere name grant asked later steps more other.1)).0,
      stand_by config answers grant_of elsewhere name grant steps more (asked ∷ later) (s.place ∷ seen)
          (answer_to config tree s).1 (inr there) (record { spared = orderly.spared.1; kept = orderly.kept.1 }) other.1,
    )

stands_by : (config : ServerConfig) (answers : Answers) (grant_of : ℕ → Option ℕ) (elsewhere : ℕ → Bool) (name : Name)
    (later : Own) (seen : List ℕ) (tree : FileTree) (first : Step) (steps more : List Step)
    → AreServed config answers tree (first ∷ steps) → IsOrderly config answers grant_of elsewhere name seen tree
    (first ∷ (steps ++ more)) → IsCallOn answers grant_of elsewhere name later first steps
    → StandsOnName config answers name later tree first steps
stands_by config answers grant_of elsewhere name later seen tree first steps more served orderly is =
    record {
      served = served;
      stands = stand_by config answers grant_of elsewhere name first.place steps more later (first.place ∷ seen)
          (answer_to config tree first).1 (inl refl)
          (record { spared = orderly.spared.1; kept = orderly.kept.1 }) is.among;
    }

-- ---- a read after a write

-- where what the first step opened is left with the bytes by the requests that bear its grant
pub reads_after : (allowed : Choice → Type 0) (config : ServerConfig) (answers : Answers) (grant_of : ℕ → Option ℕ)
    (elsewhere : ℕ → Bool) (name : Name) (tree : FileTree) (before between rest : List Step) (w r : Step)
    (path bytes : List ℕ) (bound : ℕ) (site : Site) (facts : Facts) (written read : Own) (ended : Outcome)
    → ((c : Choice) → allowed c → FeignsNoEnd c) → ChooseOnly allowed (r ∷ rest) → IsWellFormed tree
    → IsRunOn config answers grant_of elsewhere name tree (before ++ ((w ∷ between) ++ r ∷ rest))
    → IsCallOn answers grant_of elsewhere name written w between
    → ((now : FileTree) → IsWellFormed now → StandsOnName config answers name written now w between
    → HasBytes (after config now (w ∷ between)) name bytes)
    → components (from_directory site path) ≡ name → 1 ≤ facts.read_len
    → IsCallOn answers grant_of elsewhere name read r rest
    → HasEnded (call.FsRead path bound) site facts (asked_by r ∷ read) answers ended → GivesUnless allowed ended bytes
reads_after allowed config answers grant_of elsewhere name tree before between rest w r path bytes bound site facts
    written
    read ended honest chosen well_formed run is leaves denotes one is_too e =
    let now : FileTree = after config tree before in
    let served : AreServed config answers now ((w ∷ between) ++ r ∷ rest) =
    served_rest config answers tree before ((w ∷ between) ++ r ∷ rest) run.served in
    let from_w : IsOrderly config answers grant_of elsewhere name (seen_after [] before) now ((w ∷ between) ++ r ∷ rest)
    =
    orderly_rest config answers grant_of elsewhere name [] tree before ((w ∷ between) ++ r ∷ rest)
    (run_orderly config answers grant_of elsewhere name tree (before ++ ((w ∷ between) ++ r ∷ rest)) well_formed
    run)
    in
    let from_r : IsOrderly config answers grant_of elsewhere name (seen_after (seen_after [] before) (w ∷ between))
    (after config now (w ∷ between)) (r ∷ rest) =
    orderly_rest config answers grant_of elsewhere name (seen_after [] before) now (w ∷ between) (r ∷ rest) from_w
    in
    let sound : IsWellFormed now = steps_well_formed config tree before well_formed in
    let wrote : HasBytes (after config now (w ∷ between)) name bytes =
    leaves now sound (stands_by config answers grant_of elsewhere name written (seen_after [] before) now w between
    (r ∷ rest)
    (served_first config answers now (w ∷ between) (r ∷ rest) served) from_w is)
    in
    whole_reads allowed config answers name path bytes bound site facts read ended
    (after config now (w ∷ between)) r rest honest chosen (steps_well_formed config now (w ∷ between) sound) wrote
    one denotes
    (stands_by config answers grant_of elsewhere name read (seen_after (seen_after [] before) (w ∷ between))
    (after config now (w ∷ between)) r rest []
    (served_rest config answers now (w ∷ between) (r ∷ rest) served)
    (subst (λ (l : List Step). IsOrderly config answers grant_of elsewhere name
    (seen_after (seen_after [] before) (w ∷ between)) (after config now (w ∷ between)) (r ∷ l))
    (sym (append-nil rest)) from_r) is_too) e

pub reads_back : (allowed : Choice → Type 0) (config : ServerConfig) (answers : Answers) (grant_of : ℕ → Option ℕ)
    (elsewhere : ℕ → Bool) (name : Name) (tree : FileTree) (before between rest : List Step) (w r : Step)
    (write_path read_path bytes : List ℕ) (bound : ℕ) (write_site read_site : Site) (write_facts read_facts : Facts)
    (written read : Own) (ended : Outcome)
    → ((c : Choice) → allowed c → FeignsNoEnd c) → ChooseOnly allowed (r ∷ rest) → IsWellFormed tree
    → IsRunOn config answers grant_of elsewhere name tree (before ++ ((w ∷ between) ++ r ∷ rest))
    → components (from_directory write_site write_path) ≡ name
    → IsCallOn answers grant_of elsewhere name written w between
    → HasEnded (call.FsWrite write_path bytes) write_site write_facts (asked_by w ∷ written) answers outcome.Done
    → components (from_directory read_site read_path) ≡ name → 1 ≤ read_facts.read_len
    → IsCallOn answers grant_of elsewhere name read r rest
    → HasEnded (call.FsRead read_path bound) read_site read_facts (asked_by r ∷ read) answers ended
    → GivesUnless allowed ended bytes
reads_back allowed config answers grant_of elsewhere name tree before between rest w r write_path read_path bytes bound
    write_site read_site write_facts read_facts written read ended honest chosen well_formed run denotes is e
    denotes_too one is_too e_too =
    reads_after allowed config answers grant_of elsewhere name tree before between rest w r read_path bytes bound
    read_site
    read_facts written read ended honest chosen well_formed run is
    (λ now sound stands. whole_writes config answers name write_path bytes write_site write_facts written now w between
    sound
    denotes stands e) denotes_too one is_too e_too

-- ---- a read of what was there at first

pub reads_first : (allowed : Choice → Type 0) (config : ServerConfig) (answers : Answers) (grant_of : ℕ → Option ℕ)
    (elsewhere : ℕ → Bool) (name : Name) (tree : FileTree) (before rest : List Step) (r : Step) (path bytes : List ℕ)
    (bound : ℕ) (site : Site)
    (facts : Facts) (read : Own) (ended : Outcome)
    → ((c : Choice) → allowed c → FeignsNoEnd c) → ChooseOnly allowed (r ∷ rest) → IsWellFormed tree
    → HasBytes tree name bytes → IsRunOn config answers grant_of elsewhere name tree (before ++ r ∷ rest)
    → AllPassBy answers grant_of elsewhere name before
    → components (from_directory site path) ≡ name → 1 ≤ facts.read_len
    → IsCallOn answers grant_of elsewhere name read r rest
    → HasEnded (call.FsRead path bound) site facts (asked_by r ∷ read) answers ended → GivesUnless allowed ended bytes
reads_first allowed config answers grant_of elsewhere name tree before rest r path bytes bound site facts read ended
    honest chosen well_formed has run pass denotes one is e =
    let now : FileTree = after config tree before in
    let orderly = run_orderly config answers grant_of elsewhere name tree (before ++ r ∷ rest) well_formed run in
    let from_r : IsOrderly config answers grant_of elsewhere name (seen_after [] before) now (r ∷ rest) =
    orderly_rest config answers grant_of elsewhere name [] tree before (r ∷ rest) orderly in
    let still : HasBytes now name bytes = steps_bytes config name bytes tree before well_formed
    (all_spare config answers grant_of elsewhere name tree before (r ∷ rest) pass orderly.spared) has in
    whole_reads allowed config answers name path bytes bound site facts read ended now r rest honest chosen
    (steps_well_formed config tree before well_formed) still one denotes
    (stands_by config answers grant_of elsewhere name read (seen_after [] before) now r rest []
    (served_rest config answers tree before (r ∷ rest) run.served)
    (subst (λ (l : List Step). IsOrderly config answers grant_of elsewhere name (seen_after [] before) now (r ∷ l))
    (sym (append-nil rest)) from_r) is) e

-- ---- a read of a name that had no file at first

pub refused_first : (allowed : Choice → Type 0) (config : ServerConfig) (answers : Answers) (grant_of : ℕ → Option ℕ)
    (elsewhere : ℕ → Bool) (name : Name) (tree : FileTree) (before rest : List Step) (r : Step) (path : List ℕ)
    (bound : ℕ) (site : Site)
    (facts : Facts) (read : Own) (ended : Outcome)
    → ChooseOnly allowed (r ∷ rest) → IsWellFormed tree → HasNoFile (node_at tree name)
    → IsRunOn config answers grant_of elsewhere name tree (before ++ r ∷ rest)
    → AllPassBy answers grant_of elsewhere name before
    → components (from_directory site path) ≡ name → 1 ≤ facts.read_len
    → IsCallOn answers grant_of elsewhere name read r rest
    → HasEnded (call.FsRead path bound) site facts (asked_by r ∷ read) answers ended
    → (ended ≡ outcome.Refused (error.SftpError (refusal_of (node_at tree name)) [] [])) ⊎ IsRefusedBy allowed ended
refused_first allowed config answers grant_of elsewhere name tree before rest r path bound site facts read ended chosen
    well_formed none run pass denotes one is e =
    let now : FileTree = after config tree before in
    let orderly = run_orderly config answers grant_of elsewhere name tree (before ++ r ∷ rest) well_formed run in
    let same : node_at now name ≡ node_at tree name = steps_node config name tree before
    (all_spare config answers grant_of elsewhere name tree before (r ∷ rest) pass orderly.spared) in
    elim (whole_refused allowed config answers name path bound site facts read ended now r rest chosen
    (subst HasNoFile (sym same) none) one denotes (served_rest config answers tree before (r ∷ rest) run.served) e) [
      | inl refused ↦ inl (refused ∙ ap (λ (w : Option Node). outcome.Refused (error.SftpError (refusal_of w) [] []))
          same)
      | inr by ↦ inr by
    ]

-- ---- what is left

-- a call stands on the name to the end of the run
pub call_stands : (config : ServerConfig) (answers : Answers) (grant_of : ℕ → Option ℕ) (elsewhere : ℕ → Bool)
    (name : Name) (tree : FileTree) (before rest : List Step) (w : Step) (written : Own) → IsWellFormed tree
    → IsRunOn config answers grant_of elsewhere name tree (before ++ w ∷ rest)
    → IsCallOn answers grant_of elsewhere name written w rest
    → StandsOnName config answers name written (after config tree before) w rest
call_stands config answers grant_of elsewhere name tree before rest w written well_formed run is =
    let now : FileTree = after config tree before in
    let orderly = run_orderly config answers grant_of elsewhere name tree (before ++ w ∷ rest) well_formed run in
    let from_w : IsOrderly config answers grant_of elsewhere name (seen_after [] before) now (w ∷ rest) =
    orderly_rest config answers grant_of elsewhere name [] tree before (w ∷ rest) orderly in
    stands_by config answers grant_of elsewhere name written (seen_after [] before) now w rest []
    (served_rest config answers tree before (w ∷ rest) run.served)
    (subst (λ (l : List Step). IsOrderly config answers grant_of elsewhere name (seen_after [] before) now (w ∷ l))
    (sym (append-nil rest)) from_w) is

-- a whole write leaves its bytes where what comes after it passes the name by
pub write_stays : (config : ServerConfig) (answers : Answers) (grant_of : ℕ → Option ℕ) (elsewhere : ℕ → Bool)
    (name : Name) (tree : FileTree) (before rest : List Step) (w : Step) (path bytes : List ℕ) (site : Site)
    (facts : Facts) (written : Own)
    → IsWellFormed tree → IsRunOn config answers grant_of elsewhere name tree (before ++ w ∷ rest)
    → components (from_directory site path) ≡ name → IsCallOn answers grant_of elsewhere name written w rest
    → HasEnded (call.FsWrite path bytes) site facts (asked_by w ∷ written) answers outcome.Done
    → HasBytes (after config tree (before ++ w ∷ rest)) name bytes
write_stays config answers grant_of elsewhere name tree before rest w path bytes site facts written well_formed run
    denotes is e =
    subst (λ (left : FileTree). HasBytes left name bytes) (sym (after_two config tree before (w ∷ rest)))
    (whole_writes config answers name path bytes site facts written (after config tree before) w rest
    (steps_well_formed config tree before well_formed) denotes
    (call_stands config answers grant_of elsewhere name tree before rest w written well_formed run is) e)

-- and steps that pass the name by leave what it has
pub name_stays : (config : ServerConfig) (answers : Answers) (grant_of : ℕ → Option ℕ) (elsewhere : ℕ → Bool)
    (name : Name) (tree : FileTree) (steps : List Step) → IsWellFormed tree
    → IsRunOn config answers grant_of elsewhere name tree steps → AllPassBy answers grant_of elsewhere name steps
    → (node_at (after config tree steps) name ≡ node_at tree name)
    × ((bytes : List ℕ) → HasBytes tree name bytes → HasBytes (after config tree steps) name bytes)
name_stays config answers grant_of elsewhere name tree steps well_formed run pass =
    let orderly = run_orderly config answers grant_of elsewhere name tree steps well_formed run in
    let spare : AllSpare config name tree steps =
    all_spare config answers grant_of elsewhere name tree steps [] pass
    (subst (AreSpared config answers grant_of elsewhere name tree) (sym (append-nil steps)) orderly.spared)
    in (
      steps_node config name tree steps spare,
      λ bytes has. steps_bytes config name bytes tree steps well_formed spare
          has,
    )
