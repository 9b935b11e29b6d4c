-- Where all jobs were done, each was.
use Rattle.std.proofs.Common.{◌≡◌, ◌==◌, ◌&&◌, ◌++◌, Bool, true, false, not, List, [], ◌∷◌, reverse, if◌then◌else◌, refl, sym, ap, ◌∙◌, subst}
use Rattle.std.specs.List.{list_any, starts_with}
use Rattle.transfer_plan.proofs.ActLaws.{worked_append}
use Rattle.transfer_plan.specs.declared.carry.TaskKind.{TaskKind}
use Rattle.transfer_plan.specs.declared.carry.TaskKind.TheVariants as kind
use Rattle.transfer_plan.specs.declared.hand.JobVerdict.{JobVerdict}
use Rattle.transfer_plan.specs.declared.hand.JobVerdict.TheVariants.{Done, NotDone, Stop}
use Rattle.transfer_plan.specs.Jobs.{
  AreActs,
  AreAllDone,
  CarriesOut,
  Copied,
  FactBy,
  HasActed,
  HasCopied,
  HasKept,
  IsJob,
  IsKeep,
  JobAct,
  Kept,
  Skipped,
  TallyValue,
  Worked,
  after_job,
  all_work,
  all_worked,
  files_in,
  of_kind,
  is_done,
  is_file,
  is_folder,
  is_of,
  no_job,
  to_keep,
}
use Rattle.transfer_plan.specs.Names.{path_in}
use Rattle.transfer_plan.specs.declared.found.Found.{Found}

-- while all was done no job was the last one
abbrev Goes : TallyValue → Type 0
Goes t = t.all_done ≡ true → t.stopped ≡ false

and_left : (a b : Bool) → (a && b) ≡ true → a ≡ true
and_left true b e = refl
and_left false b e = absurd cc

and_right : (a b : Bool) → (a && b) ≡ true → b ≡ true
and_right true b e = e
and_right false b e = absurd cc

goes_on : (found : Found) (v : JobVerdict) (t : TallyValue) → Goes t → Goes (after_job (Worked found v) t)
goes_on found Done t goes = λ e. rw (goes (and_left t.all_done true e)) refl
goes_on found NotDone t goes = λ e. absurd (let never : false ≡ true = and_right t.all_done false e in cc)
goes_on found Stop t goes = λ e. absurd (let never : false ≡ true = and_right t.all_done false e in cc)

-- a job that was done makes no folder one that was not made
done_unmade : (found : Found) (t : TallyValue) → t.unmade ≡ [] → (after_job (Worked found Done) t).unmade ≡ []
done_unmade found t none = by_test (is_folder found.task)
  where
    by_test : (b : Bool) → (if b && false then t.unmade ++ path_in found.target [] ∷ [] else t.unmade) ≡ []
    by_test true = none
    by_test false = none

is_done_one : (v : JobVerdict) → is_done v ≡ true → v ≡ Done
is_done_one Done e = refl
is_done_one NotDone e = absurd cc
is_done_one Stop e = absurd cc

-- a kind of which the tally says that all was done: each job of it was
record IsKindDone (part : TaskKind) (jobs : List Found) (acts : List JobAct) (t new : TallyValue) : Type 0 where
  start : t.all_done ≡ true
  acts_are : acts ≡ all_work part jobs
  goes : Goes new
  unmade : t.unmade ≡ [] → new.unmade ≡ []

out_of : (part : TaskKind) (found : Found) (later : List Found) → is_of part found.task ≡ false
    → all_work part (found ∷ later) ≡ all_work part later
out_of part found later out = by_test (is_of part found.task) out
  where
    by_test : (b : Bool) → b ≡ false
        → (if b then Worked found Done ∷ all_work part later else all_work part later)
        ≡ all_work part later
    by_test true e = absurd cc
    by_test false e = refl

into : (part : TaskKind) (found : Found) (later : List Found) → is_of part found.task ≡ true
    → all_work part (found ∷ later) ≡ Worked found Done ∷ all_work part later
into part found later in_it = by_test (is_of part found.task) in_it
  where
    by_test : (b : Bool) → b ≡ true
        → (if b then Worked found Done ∷ all_work part later else all_work part later)
        ≡ Worked found Done ∷ all_work part later
    by_test true e = refl
    by_test false e = absurd cc

-- what is left of the kind from a tally on
abbrev Onward : TaskKind → List Found → TallyValue → Type 0
Onward part later new = (u : TallyValue) → (more : List JobAct) → Goes u → AreActs (of_kind part) IsJob later u more new
    → IsKindDone part later more u new

one_done : (part : TaskKind) (found : Found) (later : List Found) (t : TallyValue) (acts rest : List JobAct)
    (new : TallyValue)
    (act : JobAct) → Onward part later new → Goes t → is_of part found.task ≡ true → acts ≡ act ∷ rest
    → IsJob t found act
    → AreActs (of_kind part) IsJob later (after_job act t) rest new → IsKindDone part (found ∷ later) acts t new
one_done part found later t acts rest new (Worked other v) next goes in_it is job a =
    let r : IsKindDone part later rest (after_job (Worked other v) t) new =
    next (after_job (Worked other v) t) rest (goes_on other v t goes) a in
    let one : v ≡ Done = is_done_one v (and_right t.all_done (is_done v) r.start) in
    record {
      start = and_left t.all_done (is_done v) r.start;
      acts_are =
          is ∙ ap (λ (f : Found). Worked f v ∷ rest) (job.0) ∙ ap (λ (w : JobVerdict). Worked found w ∷ rest) one
          ∙ ap (λ (l : List JobAct). Worked found Done ∷ l) r.acts_are ∙ sym (into part found later in_it);
      goes = r.goes;
      unmade = λ none. r.unmade (subst (λ (w : JobVerdict). (after_job (Worked other w) t).unmade ≡ []) (sym one)
          (done_unmade other t none));
    }
one_done part found later t acts rest new (Copied files) next goes in_it is job a = absurd job
one_done part found later t acts rest new (Kept other v) next goes in_it is job a = absurd job
one_done part found later t acts rest new (Skipped other) next goes in_it is job a =
    let r : IsKindDone part later rest (after_job (Skipped other) t) new =
    next (after_job (Skipped other) t) rest (λ e. absurd cc) a in
    absurd (let never : false ≡ true = r.start in cc)

kind_done : (part : TaskKind) (jobs : List Found) (t : TallyValue) (acts : List JobAct) (new : TallyValue) → Goes t
    → new.all_done ≡ true → AreActs (of_kind part) IsJob jobs t acts new → IsKindDone part jobs acts t new
kind_done part [] t acts new goes all h = record {
  start = ap (λ (x : TallyValue). x.all_done) (sym h.1) ∙ all;
  acts_are = h.0;
  goes = subst Goes (sym h.1) goes;
  unmade = λ none. ap (λ (x : TallyValue). x.unmade) h.1 ∙ none;
}
kind_done part (found ∷ later) t acts new goes all h =
    by_test (is_of part found.task) t.stopped refl refl (λ u more g a. kind_done part later u more new g all a) h
  where
    by_test : (of stopped : Bool) → is_of part found.task ≡ of → t.stopped ≡ stopped → Onward part later new
        → FactBy (of && not stopped)
        ((act : JobAct) × (rest : List JobAct) × (acts ≡ act ∷ rest) × IsJob t found act
        × AreActs (of_kind part) IsJob later (after_job act t) rest new)
        (AreActs (of_kind part) IsJob later t acts new)
        → IsKindDone part (found ∷ later) acts t new
    by_test false stopped is at next h =
        let r : IsKindDone part later acts t new = next t acts goes h in
        record {
          start = r.start;
          acts_are = r.acts_are ∙ sym (out_of part found later is);
          goes = r.goes;
          unmade =
              r.unmade;
        }
    by_test true true is at next h =
        let r : IsKindDone part later acts t new = next t acts goes h in
        absurd (let never : true ≡ false = sym at ∙ goes r.start in cc)
    by_test true false is at next h = one_done part found later t acts (h.1) new (h.0) next goes is (h.2) (h.3) (h.4)

-- all was done before a kind where all is after it
job_before : (act : JobAct) (t : TallyValue) → (after_job act t).all_done ≡ true → t.all_done ≡ true
job_before (Copied files) t e = e
job_before (Worked other v) t e = and_left t.all_done (is_done v) e
job_before (Kept other v) t e = and_left t.all_done (is_done v) e
job_before (Skipped other) t e = absurd cc

kind_start : (part : TaskKind) (jobs : List Found) (t : TallyValue) (acts : List JobAct) (new : TallyValue)
    → new.all_done ≡ true → AreActs (of_kind part) IsJob jobs t acts new → t.all_done ≡ true
kind_start part [] t acts new all h = ap (λ (x : TallyValue). x.all_done) (sym h.1) ∙ all
kind_start part (found ∷ later) t acts new all h =
    by_test (of_kind part t found) (λ u more a. kind_start part later u more new all a) h
  where
    by_test : (b : Bool)
        → ((u : TallyValue) → (more : List JobAct) → AreActs (of_kind part) IsJob later u more new → u.all_done ≡ true)
        → FactBy b
        ((act : JobAct) × (rest : List JobAct) × (acts ≡ act ∷ rest) × IsJob t found act
        × AreActs (of_kind part) IsJob later (after_job act t) rest new)
        (AreActs (of_kind part) IsJob later t acts new)
        → t.all_done ≡ true
    by_test true next h = job_before (h.0) t (next (after_job (h.0) t) (h.1) (h.4))
    by_test false next h = next t acts h

-- folders that are given their permissions and times leave what was done
kept_before : (act : JobAct) (t : TallyValue) (found : Found) → IsKeep t found act → (after_job act t).all_done ≡ true
    → t.all_done ≡ true
kept_before (Copied files) t found job e = absurd job
kept_before (Worked other v) t found job e = absurd job
kept_before (Kept other v) t found job e = and_left t.all_done (is_done v) e
kept_before (Skipped other) t found job e = absurd job

keep_start : (jobs : List Found) (t : TallyValue) (acts : List JobAct) (new : TallyValue) → new.all_done ≡ true
    → AreActs to_keep IsKeep jobs t acts new → t.all_done ≡ true
keep_start [] t acts new all h = ap (λ (x : TallyValue). x.all_done) (sym h.1) ∙ all
keep_start (found ∷ later) t acts new all h =
    by_test (to_keep t found) (λ u more a. keep_start later u more new all a) h
  where
    by_test : (b : Bool)
        → ((u : TallyValue) → (more : List JobAct) → AreActs to_keep IsKeep later u more new → u.all_done ≡ true)
        → FactBy b
        ((act : JobAct) × (rest : List JobAct) × (acts ≡ act ∷ rest) × IsKeep t found act
        × AreActs to_keep IsKeep later (after_job act t) rest new)
        (AreActs to_keep IsKeep later t acts new)
        → t.all_done ≡ true
    by_test true next h = kept_before (h.0) t found (h.3) (next (after_job (h.0) t) (h.1) (h.4))
    by_test false next h = next t acts h

-- what was kept, and that all was done before it
record KeptAfter {H : Type 0} (done : JobAct → H → H) (old : TallyValue) (before after : H) : Type 0 where
  acts : List JobAct
  told : after ≡ all_worked done acts before
  start : old.all_done ≡ true

kept_after : {H : Type 0} (done : JobAct → H → H) (keeps : Bool) (jobs : List Found) (old new : TallyValue)
    (before after : H)
    → new.all_done ≡ true → HasKept done keeps jobs old new before after → KeptAfter done old before after
kept_after done false jobs old new before after all h = record {
  acts = [];
  told = h.1;
  start = ap (λ (x : TallyValue). x.all_done) (sym h.0) ∙ all;
}
kept_after done true jobs old new before after all h =
    record { acts = h.0; told = h.2; start = keep_start (reverse jobs) old (h.0) new all (h.1) }

-- where each folder was made no file is skipped
files_same : (t : TallyValue) (jobs : List Found) → t.unmade ≡ [] → files_in t jobs ≡ files_in no_job jobs
files_same t [] e = refl
files_same t (found ∷ later) e =
    λ i. if is_file found.task && not (list_any (λ folder. starts_with ◌==◌ found.target folder) (e i))
    then found ∷ files_same t later e i else files_same t later e i

copied_then : {H : Type 0} (done : JobAct → H → H) (jobs : List Found) (t : TallyValue) (before after : H) → t.stopped
    ≡ false
    → t.unmade ≡ [] → HasCopied done jobs t before after → after ≡ done (Copied (files_in no_job jobs)) before
copied_then done jobs t before after on none h =
    subst (λ (b : Bool). FactBy b (after ≡ before) (after ≡ done (Copied (files_in t jobs)) before)) on h
    ∙ ap (λ (l : List Found). done (Copied l) before) (files_same t jobs none)

-- acts in four parts, with one between the first two
four_parts : {H : Type 0} (done : JobAct → H → H) (xs ys zs rest : List JobAct) (act : JobAct) (before : H)
    → all_worked done (xs ++ (act ∷ (ys ++ (zs ++ rest)))) before
    ≡ all_worked done rest (all_worked done zs (all_worked done ys (done act (all_worked done xs before))))
four_parts done xs ys zs rest act before =
    worked_append done xs (act ∷ (ys ++ (zs ++ rest))) before
    ∙ worked_append done ys (zs ++ rest) (done act (all_worked done xs before))
    ∙ worked_append done zs rest (all_worked done ys (done act (all_worked done xs before)))

-- Where the tally says so, each job was done.
pub all_were_done : {H : Type 0} (done : JobAct → H → H) (keeps : Bool) (jobs : List Found) (before after : H)
    (new : TallyValue) → CarriesOut done keeps jobs before after new → new.all_done ≡ true
    → AreAllDone done jobs before after
all_were_done {H = H} done keeps jobs before after new h all =
    let k : KeptAfter done h.linked h.with_links after = kept_after done keeps jobs h.linked new h.with_links after all
    h.keeps_all in
    let makes : HasActed done (of_kind kind.Folders) IsJob jobs no_job h.made before h.with_folders = h.makes in
    let tells : HasActed done (of_kind kind.Files) IsJob jobs h.made h.told h.with_copies h.with_files = h.tells in
    let links : HasActed done (of_kind kind.Links) IsJob jobs h.told h.linked h.with_files h.with_links = h.links in
    let told_all : h.told.all_done ≡ true = kind_start kind.Links jobs h.told (links.0) h.linked k.start (links.1) in
    let made_all : h.made.all_done ≡ true = kind_start kind.Files jobs h.made (tells.0) h.told told_all (tells.1) in
    let first : IsKindDone kind.Folders jobs (makes.0) no_job h.made =
    kind_done kind.Folders jobs no_job (makes.0) h.made (λ e. refl) made_all (makes.1) in
    let second : IsKindDone kind.Files jobs (tells.0) h.made h.told =
    kind_done kind.Files jobs h.made (tells.0) h.told first.goes told_all (tells.1) in
    let third : IsKindDone kind.Links jobs (links.0) h.told h.linked =
    kind_done kind.Links jobs h.told (links.0) h.linked second.goes k.start (links.1) in
    let folders : h.with_folders ≡ all_worked done (all_work kind.Folders jobs) before =
    makes.2 ∙ ap (λ (l : List JobAct). all_worked done l before) first.acts_are in
    let copies : h.with_copies ≡ done (Copied (files_in no_job jobs)) h.with_folders =
    copied_then done jobs h.made h.with_folders h.with_copies (first.goes made_all) (first.unmade refl) h.copies in
    let files : h.with_files ≡ all_worked done (all_work kind.Files jobs) h.with_copies =
    tells.2 ∙ ap (λ (l : List JobAct). all_worked done l h.with_copies) second.acts_are in
    let linked : h.with_links ≡ all_worked done (all_work kind.Links jobs) h.with_files =
    links.2 ∙ ap (λ (l : List JobAct). all_worked done l h.with_files) third.acts_are in (
      k.acts,
      k.told ∙ ap (λ (x : H). all_worked done k.acts x)
          (linked ∙ ap (λ (x : H). all_worked done (all_work kind.Links jobs) x)
          (files ∙ ap (λ (x : H). all_worked done (all_work kind.Files jobs) x)
          (copies ∙ ap (λ (x : H). done (Copied (files_in no_job jobs)) x) folders)))
          ∙ sym (four_parts done (all_work kind.Folders jobs) (all_work kind.Files jobs) (all_work kind.Links jobs)
          k.acts
          (Copied (files_in no_job jobs)) before),
    )
