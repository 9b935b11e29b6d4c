-- The plans of whole writes and of listings make the same move once more replies were taken, unless they wait.
use Rattle.std.proofs.Common.{◌≡◌, ℕ, ◌-◌, ◌==◌, Bool, true, false, not, List, [], ◌∷◌, ◌++◌, length, drop, Some, if◌then◌else◌, refl, ap, sym, ◌∙◌}
use Rattle.sftp_model.specs.declared.reply.NameEntry.{NameEntry}
use Rattle.sftp_model.specs.declared.reply.Reply.{Reply}
use Rattle.sftp_model.specs.declared.reply.Reply.TheVariants as reply
use Rattle.sftp_model.specs.declared.slot.Facts.{Facts}
use Rattle.sftp_model.specs.declared.slot.FileAt.{FileAt}
use Rattle.sftp_model.specs.declared.slot.Move.{Move}
use Rattle.sftp_model.specs.declared.slot.Site.{Site}
use Rattle.sftp_model.specs.declared.error.IoKind.TheVariants as kind
use Rattle.sftp_model.specs.declared.outcome.Outcome.TheVariants as outcome
use Rattle.sftp_model.specs.declared.request.Request.TheVariants as request
use Rattle.sftp_model.specs.declared.slot.Move.TheVariants.{Ask, Done}
use Rattle.plan_model.specs.FilePlans.{opened_file}
use Rattle.plan_model.specs.Moves.{Answers, Own, Plan, further, handle_of, on_handle, on_status, overflows, refuse_locally}
use Rattle.plan_model.specs.OwnRequests.{ExtendsAnswers}
use Rattle.plan_model.specs.TransferPlans.{FileKeeper, next_part, part_len, rest_next}
use Rattle.plan_model.specs.WholePlans.{entries_next, fs_write_next, list_next, nowhere, on_names, once_opened, to_replace}
use Rattle.run_laws.proofs.AskedInOrder.{PlanStays, Stays, once_stays}

pub if_stays : (b : Bool) (x y z : Move) → Stays x y → Stays (if b then x else z) (if b then y else z)
if_stays true x y z h = h
if_stays false x y z h = λ e. refl

pub handle_stays : (site : Site) (x y : List ℕ → Move) (r : Reply)
    → ((h : List ℕ) → r ≡ reply.Handle h → Stays (x h) (y h)) → Stays (on_handle r site x) (on_handle r site y)
handle_stays site x y (reply.Handle h) stays = stays h refl
handle_stays site x y other stays = λ e. refl

pub status_stays : (site : Site) (x y : Move) → Stays x y → (r : Reply)
    → Stays (on_status r site x) (on_status r site y)
status_stays site x y stays (reply.Status code message language) = if_stays (code == 0) x y _ stays
status_stays site x y stays other = λ e. refl

names_stay : (site : Site) (ended : Move) (x y : List NameEntry → Move) → ((b : List NameEntry) → Stays (x b) (y b))
    → (r : Reply) → Stays (on_names r site ended x) (on_names r site ended y)
names_stay site ended x y stays (reply.Names []) = λ e. refl
names_stay site ended x y stays (reply.Names (first ∷ names)) = stays (first ∷ names)
names_stay site ended x y stays other = λ e. refl

-- a call that opens first
opened_stays : (first : Move) (site : Site) (go : ℕ → List ℕ → Plan)
    → ((place : ℕ) (h : List ℕ) (before now : Answers) → ExtendsAnswers before now → before place
    ≡ Some (reply.Handle h)
    → (own : Own) → Stays (go place h own before) (go place h own now)) → PlanStays (once_opened first site go)
opened_stays first site go stays before now more [] = λ e. refl
opened_stays first site go stays before now more (asked ∷ later) =
    once_stays before now asked.0 _ _ more (λ r is later_is. handle_stays site _ _ r
    (λ h handle_is. stays asked.0 h before now more (is ∙ ap (λ (w : Reply). Some w) handle_is) later))

-- ---- whole writes

-- the grant's handle stays
same_handle : (before now : Answers) (grant : ℕ) (r : Reply) → ExtendsAnswers before now → before grant ≡ Some r
    → handle_of (now grant) ≡ handle_of (before grant)
same_handle before now grant r more is = ap handle_of (more grant r is ∙ sym is)

rest_stays : (keep : FileKeeper) (before now : Answers) (file : FileAt) (r : Reply) → ExtendsAnswers before now
    → before file.grant ≡ Some r → (bytes : List ℕ) (site : Site) (facts : Facts) (own : Own)
    → Stays (rest_next keep file bytes site facts own before) (rest_next keep file bytes site facts own now)
rest_stays keep before now file r more granted bytes site facts [] =
    λ e. ap asks (same_handle before now file.grant r more granted)
  where
    asks : List ℕ → Move
    asks h =
        if length bytes == 0 then Done outcome.Done site
        else if not file.writable then refuse_locally kind.NotWritable site
        else if overflows file.offset (length (next_part facts bytes)) then refuse_locally kind.OffsetOverflow site
        else Ask (request.Write h file.offset (next_part facts bytes))
rest_stays keep before now file r more granted bytes site facts (asked ∷ later) =
    once_stays before now asked.0 _ _ more
    (λ x is later_is. status_stays site _ _ (rest_stays keep before now (further file (part_len facts bytes)) r more
    granted (drop (part_len facts bytes) bytes) (keep (further file (part_len facts bytes)) site) facts later) x)

pub fs_write_stays : (path bytes : List ℕ) (site : Site) (facts : Facts)
    → PlanStays (fs_write_next path bytes site facts)
fs_write_stays path bytes site facts =
    opened_stays _ site (λ place handle. rest_next nowhere (opened_file to_replace place) bytes site facts)
    (λ place h before now more is own. rest_stays nowhere before now (opened_file to_replace place) (reply.Handle h)
    more is bytes site facts own)

-- ---- listings

entries_stay : (before now : Answers) → ExtendsAnswers before now →
    (handle : List ℕ) (got : List NameEntry) (bound : ℕ) (site : Site) (own : Own)
    → Stays (entries_next handle got bound site own before) (entries_next handle got bound site own now)
entries_stay before now more handle got bound site [] = λ e. refl
entries_stay before now more handle got bound site (asked ∷ later) =
    once_stays before now asked.0 _ _ more (λ r is later_is. names_stay site _ _ _
    (λ entries. entries_stay before now more handle (got ++ entries) (bound - 1) site later) r)

pub list_stays : (path : List ℕ) (bound : ℕ) (site : Site) (facts : Facts) → PlanStays (list_next path bound site facts)
list_stays path bound site facts = opened_stays _ site (λ place handle. entries_next handle [] bound site)
    (λ place h before now more is own. entries_stay before now more h [] bound site own)
