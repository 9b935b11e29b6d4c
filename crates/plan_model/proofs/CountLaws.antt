-- How many requests a call makes at most: a move that asks comes only where it has made fewer.
use Rattle.std.proofs.Common.{◌≡◌, ◌<◌, ◌≤◌, ◌-◌, ◌==◌, ℕ, suc, List, [], ◌∷◌, Option, Some, None, refl, ap, subst, ◌∙◌, arith}
use Rattle.std.specs.Prelude.{IfSome, length, min, drop, ◌++◌}
use Rattle.std.proofs.lemmas.Bool.Decides.{nat_tests}
use Rattle.std.proofs.lemmas.List.{length-drop}
use Rattle.sftp_model.specs.declared.outcome.Outcome.{Outcome}
use Rattle.sftp_model.specs.declared.outcome.Outcome.TheVariants as outcome
use Rattle.sftp_model.specs.declared.error.IoKind.TheVariants as kind
use Rattle.sftp_model.specs.declared.reply.NameEntry.{NameEntry}
use Rattle.sftp_model.specs.declared.reply.Reply.{Reply}
use Rattle.sftp_model.specs.declared.reply.Reply.TheVariants as reply
use Rattle.sftp_model.specs.declared.request.Request.TheVariants as request
use Rattle.sftp_model.specs.declared.slot.Facts.{Facts}
use Rattle.sftp_model.specs.declared.slot.Move.{Move}
use Rattle.sftp_model.specs.declared.slot.Move.TheVariants.{Ask, Wait, Done}
use Rattle.sftp_model.specs.declared.slot.FileAt.{FileAt}
use Rattle.sftp_model.specs.declared.slot.Site.{Site}
use Rattle.sftp_model.specs.Answers.{MayAnswer}
use Rattle.sftp_model.specs.Slots.{slot_at}
use Rattle.plan_model.specs.Moves.{Answers, Own, Plan, once_answered, by_reply, ask_read, ask_write, refuse_locally, refusal_move, on_content, on_handle, further}
use Rattle.plan_model.specs.TransferPlans.{missing_next, read_all_next, part_len, next_part, FileKeeper, rest_next, in_slot, write_all_next}
use Rattle.plan_model.specs.WholePlans.{once_opened, on_names, entries_next}
use Rattle.plan_model.specs.OwnRequests.{MayBeAnswered}
use Rattle.plan_model.specs.RequestCounts.{AsksBelow}
use Rattle.plan_model.proofs.MoveLaws.{either, by_status, at_file}
use Rattle.plan_model.proofs.SpanLaws.{content_fits}

pub raised : (a b c d : ℕ) (m : Move) → (a < b → c < d) → AsksBelow a b m → AsksBelow c d m
raised a b c d (Ask r) up h = up h
raised a b c d (Wait place) up h = tt
raised a b c d (Done o site) up h = tt

-- nothing was asked, and something may be
pub fresh : (most : ℕ) (m : Move) → 0 < most → AsksBelow 0 most m
fresh most (Ask r) some = some
fresh most (Wait place) some = tt
fresh most (Done o site) some = tt

pub answered_in : (P : Move → Type 0) (answers : Answers) (place : ℕ) (got : Option Reply) (go : Reply → Move)
    → answers place ≡ got → P (Wait place) → ((r : Reply) → answers place ≡ Some r → P (go r))
    → P (once_answered place got go)
answered_in P answers place None go is waits goes = waits
answered_in P answers place (Some r) go is waits goes = goes r is

-- ---- one request

pub once_at_most : (first : Move) (go : Reply → Move) (own : Own) (answers : Answers)
    → ((r : Reply) → AsksBelow (length own) 1 (go r)) → AsksBelow (length own) 1 (by_reply first go own answers)
once_at_most first go [] answers goes = fresh 1 first (omega arith)
once_at_most first go (asked ∷ later) answers goes = answered_in (AsksBelow (suc (length later)) 1) answers asked.0
    (answers asked.0) go refl tt (λ r is. goes r)

-- ---- read_all: a request for each byte at most

pub on_data : (P : Move → Type 0) (r : Reply) (site : Site) (ended : Move) (go : List ℕ → Move)
    → ((o : Outcome) → P (Done o site)) → P ended → ((bytes : List ℕ) → r ≡ reply.Content bytes → P (go bytes))
    → P (on_content r site ended go)
on_data P (reply.Content bytes) site ended go ends e goes = goes bytes refl
on_data P (reply.Status code message language) site ended go ends e goes =
    either P (code == 1) ended (refusal_move (reply.Status code message language) site) (λ x. e) (λ x. ends _)
on_data P r site ended go ends e goes = ends _

pub missing_within : (slot : ℕ) (file : FileAt) (got : List ℕ) (n : ℕ) (site : Site) (facts : Facts) (own : Own)
    (answers : Answers) → MayBeAnswered own answers → AsksBelow (length own) n
    (missing_next slot file got n site facts own answers)
missing_within slot file got n site facts [] answers may =
    either (AsksBelow 0 n) (n == 0) (Done (outcome.Bytes got) site) (ask_read file (min n facts.read_len) site answers)
    (λ z. tt) (λ z. fresh n (ask_read file (min n facts.read_len) site answers) (grind (arith, nat_tests)))
missing_within slot file got n site facts (asked ∷ later) answers may =
    answered_in (AsksBelow (suc (length later)) n) answers asked.0 (answers asked.0) _ refl tt (λ r is.
    on_data (AsksBelow (suc (length later)) n) r site (refuse_locally kind.UnexpectedEof site) _ (λ o. tt) tt
    (λ bytes e.
    let k : 1 ≤ length bytes = (content_fits asked.1 bytes (subst (λ (o : Option Reply). IfSome o (MayAnswer asked.1))
    (is ∙ ap (λ (x : Reply). Some x) e) may.0)).0 in
    raised (length later) (n - length bytes) (suc (length later)) n _ (λ lt. omega (arith, lt, k))
    (missing_within slot (further file (length bytes)) _ (n - length bytes) _ facts later answers may.1)))

pub read_all_within : (slot n : ℕ) (site : Site) (facts : Facts) (own : Own) (answers : Answers)
    → MayBeAnswered own answers → AsksBelow (length own) n (read_all_next slot n site facts own answers)
read_all_within slot n site facts own answers may =
    at_file (AsksBelow (length own) n) (slot_at site slot) site _ (λ o. tt)
    (λ file at. missing_within slot file [] n site facts own answers may)

-- ---- write_all: a request for each byte at most

pub rest_within : (keep : FileKeeper) (file : FileAt) (bytes : List ℕ) (site : Site) (facts : Facts) (own : Own)
    (answers : Answers) → 1 ≤ facts.write_len → AsksBelow (length own) (length bytes)
    (rest_next keep file bytes site facts own answers)
rest_within keep file bytes site facts [] answers some =
    either (AsksBelow 0 (length bytes)) (length bytes == 0) (Done outcome.Done site)
    (ask_write file (next_part facts bytes) site answers) (λ z. tt)
    (λ z. fresh (length bytes) (ask_write file (next_part facts bytes) site answers) (grind (arith, nat_tests)))
rest_within keep file bytes site facts (asked ∷ later) answers some =
    answered_in (AsksBelow (suc (length later)) (length bytes)) answers asked.0 (answers asked.0) _ refl tt (λ r is.
    by_status (AsksBelow (suc (length later)) (length bytes)) r site _ (λ o. tt)
    (raised (length later) (length (drop (part_len facts bytes) bytes)) (suc (length later)) (length bytes) _
    (λ lt. omega (arith, lt, some, length-drop (part_len facts bytes) bytes))
    (rest_within keep (further file (part_len facts bytes)) (drop (part_len facts bytes) bytes) _ facts later answers
    some)))

pub write_all_within : (slot : ℕ) (bytes : List ℕ) (site : Site) (facts : Facts) (own : Own) (answers : Answers)
    → 1 ≤ facts.write_len → AsksBelow (length own) (length bytes) (write_all_next slot bytes site facts own answers)
write_all_within slot bytes site facts own answers some =
    at_file (AsksBelow (length own) (length bytes)) (slot_at site slot) site _ (λ o. tt)
    (λ file at. rest_within (in_slot slot) file bytes site facts own answers some)

-- ---- after an OPEN: one more

pub on_granted : (P : Move → Type 0) (r : Reply) (site : Site) (go : List ℕ → Move) → ((o : Outcome) → P (Done o site))
    → ((handle : List ℕ) → P (go handle)) → P (on_handle r site go)
on_granted P (reply.Handle handle) site go ends goes = goes handle
on_granted P (reply.Status code message language) site go ends goes = ends _
on_granted P r site go ends goes = ends _

pub opened_within : (most : ℕ) (first : Move) (site : Site) (go : ℕ → List ℕ → Plan) (own : Own) (answers : Answers)
    → ((place : ℕ) (handle : List ℕ) (later : Own) → AsksBelow (length later) most (go place handle later answers))
    → AsksBelow (length own) (suc most) (once_opened first site go own answers)
opened_within most first site go [] answers goes = fresh (suc most) first (omega arith)
opened_within most first site go (asked ∷ later) answers goes =
    answered_in (AsksBelow (suc (length later)) (suc most)) answers asked.0 (answers asked.0) _ refl tt (λ r is.
    on_granted (AsksBelow (suc (length later)) (suc most)) r site _ (λ o. tt)
    (λ handle. raised (length later) most (suc (length later)) (suc most) _ (λ lt. omega (arith, lt))
    (goes asked.0 handle later)))

-- ---- list: as many requests as the bound

pub on_entries : (P : Move → Type 0) (r : Reply) (site : Site) (ended : Move) (go : List NameEntry → Move)
    → ((o : Outcome) → P (Done o site)) → P ended → ((entries : List NameEntry) → P (go entries))
    → P (on_names r site ended go)
on_entries P (reply.Names []) site ended go ends e goes = e
on_entries P (reply.Names (entry ∷ entries)) site ended go ends e goes = goes (entry ∷ entries)
on_entries P (reply.Status code message language) site ended go ends e goes =
    either P (code == 1) ended (refusal_move (reply.Status code message language) site) (λ x. e) (λ x. ends _)
on_entries P r site ended go ends e goes = ends _

pub entries_within : (handle : List ℕ) (got : List NameEntry) (bound : ℕ) (site : Site) (own : Own) (answers : Answers)
    → AsksBelow (length own) bound (entries_next handle got bound site own answers)
entries_within handle got bound site [] answers =
    either (AsksBelow 0 bound) (bound == 0) (Done outcome.GivenUp site) (Ask (request.Readdir handle)) (λ z. tt)
    (λ z. fresh bound (Ask (request.Readdir handle)) (grind (arith, nat_tests)))
entries_within handle got bound site (asked ∷ later) answers =
    answered_in (AsksBelow (suc (length later)) bound) answers asked.0 (answers asked.0) _ refl tt (λ r is.
    on_entries (AsksBelow (suc (length later)) bound) r site (Done (outcome.Names got) site) _ (λ o. tt) tt (λ entries.
    raised (length later) (bound - 1) (suc (length later)) bound _ (λ lt. omega (arith, lt))
    (entries_within handle (got ++ entries) (bound - 1) site later answers)))
