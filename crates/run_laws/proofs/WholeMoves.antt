-- What whole writes and whole reads ask.
use Rattle.std.proofs.Common.{◌≡◌, ◌==◌, ℕ, List, [], ◌∷◌, length, Option, Some, None, refl, ap, subst}
use Rattle.std.specs.Prelude.{not, nat_lt, drop}
use Rattle.sftp_model.specs.declared.error.IoKind.TheVariants as kind
use Rattle.sftp_model.specs.declared.outcome.Outcome.TheVariants as outcome
use Rattle.sftp_model.specs.declared.reply.Reply.{Reply}
use Rattle.sftp_model.specs.declared.reply.Reply.TheVariants as reply
use Rattle.sftp_model.specs.declared.request.Request.{Request}
use Rattle.sftp_model.specs.declared.request.Request.TheVariants as request
use Rattle.sftp_model.specs.declared.slot.Facts.{Facts}
use Rattle.sftp_model.specs.declared.slot.FileAt.{FileAt}
use Rattle.sftp_model.specs.declared.slot.Move.{Move}
use Rattle.sftp_model.specs.declared.slot.Move.TheVariants.{Ask, Done}
use Rattle.sftp_model.specs.declared.slot.Site.{Site}
use Rattle.plan_model.specs.declared.call.Call.TheVariants as call
use Rattle.plan_model.specs.FilePlans.{opened_file}
use Rattle.plan_model.specs.Moves.{Answers, Own, further, handle_of, overflows, refuse_locally}
use Rattle.plan_model.specs.TransferPlans.{next_part, part_len, rest_next}
use Rattle.plan_model.specs.WholePlans.{nowhere, to_replace}
use Rattle.plan_model.specs.WindowPlans.{
  answered_prefix,
  ask_more,
  await_first,
  contents,
  ends_or,
  first_refusal,
  gaps,
  go_on,
  least,
  least_end,
  outside,
  reaches,
  unless_refused,
  window_next,
}
use Rattle.plan_model.proofs.CountLaws.{answered_in, on_granted}
use Rattle.plan_model.proofs.MoveLaws.{by_refusal, by_status, either}
use Rattle.run_laws.proofs.BackLaws.{write_opens}
use Rattle.plan_model.specs.CallPlans.{next}

-- ---- moves that ask

-- where the move asks, it asks so
abbrev pub AsksSo : (Request → Type 0) → Move → Type 0
AsksSo P (Ask r) = P r
AsksSo P other = Unit {0}

pub asks_so : (P : Request → Type 0) (m : Move) (r : Request) → AsksSo P m → m ≡ Ask r → P r
asks_so P m r so is = subst (AsksSo P) is so

-- the request is a READ
abbrev pub IsRead : Request → Type 0
IsRead (request.Read handle offset len) = Unit {0}
IsRead other = ⊥

-- the request is a WRITE by the handle
abbrev pub IsWriteBy : List ℕ → Request → Type 0
IsWriteBy h (request.Write handle offset content) = handle ≡ h
IsWriteBy h other = ⊥

-- ---- whole writes

rest_asks : (file : FileAt) (bytes : List ℕ) (site : Site) (facts : Facts) (own : Own) (answers : Answers)
    → AsksSo (IsWriteBy (handle_of (answers file.grant))) (rest_next nowhere file bytes site facts own answers)
rest_asks file bytes site facts [] answers =
    either (AsksSo P) (length bytes == 0) (Done outcome.Done site) _ (λ z. tt)
    (λ z. either (AsksSo P) (not file.writable) (refuse_locally kind.NotWritable site) _ (λ e. tt)
    (λ e. either (AsksSo P) (overflows file.offset (length (next_part facts bytes)))
    (refuse_locally kind.OffsetOverflow site)
    (Ask (request.Write (handle_of (answers file.grant)) file.offset (next_part facts bytes))) (λ o. tt)
    (λ o. refl)))
  where
    P : Request → Type 0
    P = IsWriteBy (handle_of (answers file.grant))
rest_asks file bytes site facts (asked ∷ later) answers =
    answered_in (AsksSo (IsWriteBy (handle_of (answers file.grant)))) answers asked.0 (answers asked.0) _ refl tt
    (λ r is. by_status (AsksSo (IsWriteBy (handle_of (answers file.grant)))) r site _ (λ o. tt)
    (rest_asks (further file (part_len facts bytes)) (drop (part_len facts bytes) bytes) site facts later answers))

-- a whole write that goes on asks a WRITE by the handle that its OPEN was granted
pub write_asks : (path bytes : List ℕ) (site : Site) (facts : Facts) (first : ℕ × Request) (later : Own)
    (answers : Answers) (r : Request) → next (call.FsWrite path bytes) site facts (first ∷ later) answers ≡ Ask r
    → (h : List ℕ) × ((answers first.0 ≡ Some (reply.Handle h)) × IsWriteBy h r)
write_asks path bytes site facts first later answers r e =
    let granted = write_opens path bytes site facts first later answers r e in
    let by : IsWriteBy (handle_of (answers first.0)) r =
    asks_so (IsWriteBy (handle_of (answers first.0))) _ r
    (answered_in (AsksSo (IsWriteBy (handle_of (answers first.0)))) answers first.0 (answers first.0) _ refl tt
    (λ x is. on_granted (AsksSo (IsWriteBy (handle_of (answers first.0)))) x site _ (λ o. tt)
    (λ handle. rest_asks (opened_file to_replace first.0) bytes site facts later answers))) e
    in
    (granted.0, (granted.1, subst (λ (h : List ℕ). IsWriteBy h r) (ap handle_of granted.1) by))

-- ---- whole reads

awaits_asks : (waiting : Own) (site : Site) → AsksSo IsRead (await_first waiting site)
awaits_asks [] site = tt
awaits_asks (asked ∷ later) site = tt

more_asks : (handle : List ℕ) (reads : Own) (replies : List (ℕ × Reply)) (waiting : Own) (site : Site) (facts : Facts)
    (gap end : Option ℕ) → AsksSo IsRead (ask_more handle reads replies waiting site facts gap end)
more_asks handle reads replies waiting site facts (Some p) end = tt
more_asks handle reads replies waiting site facts None None = tt
more_asks handle reads replies waiting site facts None (Some end) = awaits_asks waiting site

ends_asks : (missing : List ℕ) (replies : List (ℕ × Reply)) (waiting : Own) (site : Site) (end : Option ℕ)
    (other : Move) → AsksSo IsRead other → AsksSo IsRead (ends_or missing replies waiting site end other)
ends_asks [] replies [] site (Some end) other goes = tt
ends_asks [] replies [] site None other goes = goes
ends_asks [] replies (asked ∷ later) site end other goes = goes
ends_asks (p ∷ ps) replies waiting site end other goes = goes

window_asks : (handle : List ℕ) (bound : Option ℕ) (reads : Own) (replies : List (ℕ × Reply)) (waiting : Own)
    (site : Site) (facts : Facts) → AsksSo IsRead (window_next handle bound reads replies waiting site facts)
window_asks handle bound reads replies waiting site facts = by_refused (first_refusal replies)
  where
    goes : AsksSo IsRead (go_on handle bound reads replies waiting site facts)
    goes =
        either (AsksSo IsRead) (reaches bound (length (contents replies))) (Done outcome.GivenUp site) _ (λ e. tt)
        (λ e. either (AsksSo IsRead) (nat_lt (length waiting) facts.read_window)
        (ask_more handle reads replies waiting site facts (least (gaps reads replies waiting)) (least_end replies))
        (await_first waiting site)
        (λ f. more_asks handle reads replies waiting site facts (least (gaps reads replies waiting))
        (least_end replies)) (λ f. awaits_asks waiting site))

    by_refused : (o : Option (ℕ × Reply)) → AsksSo IsRead (unless_refused o site
        (ends_or (gaps reads replies waiting) replies waiting site (least_end replies)
        (go_on handle bound reads replies waiting site facts)))
    by_refused None = ends_asks (gaps reads replies waiting) replies waiting site (least_end replies)
        (go_on handle bound reads replies waiting site facts) goes
    by_refused (Some got) = by_refusal (AsksSo IsRead) got.1 site (λ o. tt)

-- a whole read that goes on asks a READ
pub read_asks : (path : List ℕ) (bound : ℕ) (site : Site) (facts : Facts) (first : ℕ × Request) (later : Own)
    (answers : Answers) (r : Request) → next (call.FsRead path bound) site facts (first ∷ later) answers ≡ Ask r
    → IsRead r
read_asks path bound site facts first later answers r e =
    asks_so IsRead _ r
    (answered_in (AsksSo IsRead) answers first.0 (answers first.0) _ refl tt
    (λ x is. on_granted (AsksSo IsRead) x site _ (λ o. tt) (λ handle. window_asks handle (Some bound) later
    (answered_prefix later answers) (outside later answers) site facts))) e
