-- Of the calls that make many requests all but a whole read make one after the other: each was answered before the
-- next.
use Rattle.std.proofs.Common.{◌≡◌, ◌≢◌, ◌==◌, ℕ, Bool, true, false, List, [], ◌∷◌, ◌++◌, Option, Some, None, refl, ap, sym, ◌∙◌, if◌then◌else◌, inl, inr}
use Rattle.std.specs.Prelude.{◌-◌, drop, length}
use Rattle.std.proofs.lemmas.Bool.{or_cases}
use Rattle.std.proofs.lemmas.Bool.Decides.{eqb_tells}
use Rattle.sftp_model.specs.declared.outcome.Outcome.{Outcome}
use Rattle.sftp_model.specs.declared.outcome.Outcome.TheVariants as outcome
use Rattle.sftp_model.specs.declared.error.Error.TheVariants as error
use Rattle.sftp_model.specs.declared.error.IoKind.TheVariants as kind
use Rattle.sftp_model.specs.declared.reply.NameEntry.{NameEntry}
use Rattle.sftp_model.specs.declared.reply.Reply.{Reply}
use Rattle.sftp_model.specs.declared.reply.Reply.TheVariants as reply
use Rattle.sftp_model.specs.declared.request.Request.{Request}
use Rattle.sftp_model.specs.declared.slot.Facts.{Facts}
use Rattle.sftp_model.specs.declared.slot.FileAt.{FileAt}
use Rattle.sftp_model.specs.declared.slot.Move.{Move}
use Rattle.sftp_model.specs.declared.slot.Move.TheVariants.{Ask, Done}
use Rattle.sftp_model.specs.declared.slot.Site.{Site}
use Rattle.sftp_model.specs.declared.slot.Slot.{Slot}
use Rattle.sftp_model.specs.declared.slot.Slot.TheVariants.{Buffered, Empty, File}
use Rattle.sftp_model.specs.Answers.{is_end_of_file}
use Rattle.sftp_model.specs.Numbers.{SSH_FX_OK}
use Rattle.sftp_model.specs.Slots.{slot_at, with_slot}
use Rattle.plan_model.specs.declared.call.Call.TheVariants as call
use Rattle.plan_model.specs.Moves.{Answers, Own, Plan, further, on_content, on_file, on_handle, on_status, once_answered, refusal_move, refuse_locally, ask_path}
use Rattle.plan_model.specs.FilePlans.{open_request, opened_file}
use Rattle.plan_model.specs.PathPlans.{from_directory}
use Rattle.plan_model.specs.TransferPlans.{FileKeeper, in_slot, joined_parts, missing_next, part_len, rest_next}
use Rattle.plan_model.specs.WholePlans.{entries_next, nowhere, on_names, once_opened, to_replace}
use Rattle.plan_model.proofs.WindowAsks.{ends_no_ask}
use Rattle.sftp_model.specs.declared.request.Request.TheVariants as request
use Rattle.session_laws.specs.Budgets.{makes_many, stands_in}
use Rattle.plan_model.specs.declared.call.Call.{Call}
use Rattle.plan_model.specs.CallPlans.{next}

-- a whole read
abbrev pub is_whole : Call → Bool
is_whole (call.FsRead path bound) = true
is_whole other = false

-- each of these requests was answered
abbrev pub AllCame : Own → Answers → Type 0
AllCame own answers = (q : ℕ) → stands_in own q ≡ true → answers q ≢ None

came_first : (asked : ℕ × Request) (later : Own) (answers : Answers) (y : Reply) → answers asked.0 ≡ Some y
    → AllCame later answers → AllCame (asked ∷ later) answers
came_first asked later answers y came rest q there = elim (or_cases (asked.0 == q) (stands_in later q) there) [
  | inl here ↦ elim (eqb_tells asked.0 q) [
    | inl t ↦ λ none. (let clash : ◌≡◌ {A = Option Reply} None (Some y) = sym none ∙ (ap answers (sym t.1) ∙ came) in
        cc)
    | inr t ↦ absurd (let clash : false ≡ true = sym t.0 ∙ here in cc)
  ]
  | inr behind ↦ rest q behind
]

-- ---- what a reply that refuses makes of a call

no_ask : (b : Bool) (o : Outcome) (y : Reply) (site : Site) (r : Request)
    → (if b then Done o site else refusal_move y site) ≡ Ask r → ⊥
no_ask true o y site r e = absurd cc
no_ask false o y site r e = ends_no_ask y site r e

on_status_asks : (y : Reply) (site : Site) (m : Move) (r : Request) → on_status y site m ≡ Ask r → m ≡ Ask r
on_status_asks (reply.Status code message language) site m r e = by_code (code == SSH_FX_OK) e
  where
    by_code : (b : Bool) → (if b then m else refusal_move (reply.Status code message language) site) ≡ Ask r → m ≡ Ask r
    by_code true e = e
    by_code false e = absurd (ends_no_ask (reply.Status code message language) site r e)
on_status_asks other site m r e = absurd (ends_no_ask other site r e)

-- ---- each kind of call

missing_came : (slot : ℕ) (file : FileAt) (got : List ℕ) (n : ℕ) (site : Site) (facts : Facts) (own : Own)
    (answers : Answers) (r : Request) → missing_next slot file got n site facts own answers ≡ Ask r
    → AllCame own answers
missing_came slot file got n site facts [] answers r e = λ q there. absurd cc
missing_came slot file got n site facts (asked ∷ later) answers r e =
    by_answer (answers asked.0) refl e (λ bytes e. missing_came slot (further file (length bytes)) (got ++ bytes)
    (n - length bytes) (with_slot site slot (File (further file (length bytes)))) facts later answers r e)
  where
    go : List ℕ → Move
    go bytes = missing_next slot (further file (length bytes)) (got ++ bytes) (n - length bytes)
        (with_slot site slot (File (further file (length bytes)))) facts later answers

    by_answer : (y : Option Reply) → answers asked.0 ≡ y → once_answered asked.0 y
        (λ z. on_content z site (refuse_locally kind.UnexpectedEof site) go) ≡ Ask r
        → ((bytes : List ℕ) → go bytes ≡ Ask r → AllCame later answers) → AllCame (asked ∷ later) answers
    by_answer None is e rest = absurd cc
    by_answer (Some (reply.Content bytes)) is e rest = came_first asked later answers (reply.Content bytes) is
        (rest bytes e)
    by_answer (Some y) is e rest = absurd (no_ask (is_end_of_file y)
        (outcome.Refused (error.IOError kind.UnexpectedEof)) y site r e)

rest_came : (keep : FileKeeper) (file : FileAt) (bytes : List ℕ) (site : Site) (facts : Facts) (own : Own)
    (answers : Answers) (r : Request) → rest_next keep file bytes site facts own answers ≡ Ask r → AllCame own answers
rest_came keep file bytes site facts [] answers r e = λ q there. absurd cc
rest_came keep file bytes site facts (asked ∷ later) answers r e =
    by_answer (answers asked.0) refl e (λ e. rest_came keep (further file (part_len facts bytes))
    (drop (part_len facts bytes) bytes) (keep (further file (part_len facts bytes)) site) facts later answers r e)
  where
    go : Move
    go = rest_next keep (further file (part_len facts bytes)) (drop (part_len facts bytes) bytes)
        (keep (further file (part_len facts bytes)) site) facts later answers

    by_answer : (y : Option Reply) → answers asked.0 ≡ y → once_answered asked.0 y (λ z. on_status z site go) ≡ Ask r
        → (go ≡ Ask r → AllCame later answers) → AllCame (asked ∷ later) answers
    by_answer None is e rest = absurd cc
    by_answer (Some y) is e rest = came_first asked later answers y is (rest (on_status_asks y site go r e))

entries_came : (handle : List ℕ) (got : List NameEntry) (bound : ℕ) (site : Site) (own : Own) (answers : Answers)
    (r : Request) → entries_next handle got bound site own answers ≡ Ask r → AllCame own answers
entries_came handle got bound site [] answers r e = λ q there. absurd cc
entries_came handle got bound site (asked ∷ later) answers r e =
    by_answer (answers asked.0) refl e (λ entries e. entries_came handle (got ++ entries) (bound - 1) site later answers
    r e)
  where
    go : List NameEntry → Move
    go entries = entries_next handle (got ++ entries) (bound - 1) site later answers

    by_answer : (y : Option Reply) → answers asked.0 ≡ y → once_answered asked.0 y
        (λ z. on_names z site (Done (outcome.Names got) site) go) ≡ Ask r
        → ((entries : List NameEntry) → go entries ≡ Ask r → AllCame later answers) → AllCame (asked ∷ later) answers
    by_answer None is e rest = absurd cc
    by_answer (Some (reply.Names [])) is e rest = absurd cc
    by_answer (Some (reply.Names (entry ∷ entries))) is e rest =
        came_first asked later answers (reply.Names (entry ∷ entries)) is (rest (entry ∷ entries) e)
    by_answer (Some y) is e rest = absurd (no_ask (is_end_of_file y) (outcome.Names got) y site r e)

opened_came : (first : Move) (site : Site) (go : ℕ → List ℕ → Plan) (own : Own) (answers : Answers) (r : Request)
    → ((place : ℕ) (handle : List ℕ) (later : Own) → go place handle later answers ≡ Ask r → AllCame later answers)
    → once_opened first site go own answers ≡ Ask r → AllCame own answers
opened_came first site go [] answers r rest e = λ q there. absurd cc
opened_came first site go (asked ∷ later) answers r rest e = by_answer (answers asked.0) refl e
  where
    by_answer : (y : Option Reply) → answers asked.0 ≡ y → once_answered asked.0 y
        (λ z. on_handle z site (λ handle. go asked.0 handle later answers)) ≡ Ask r → AllCame (asked ∷ later) answers
    by_answer None is e = absurd cc
    by_answer (Some (reply.Handle handle)) is e = came_first asked later answers (reply.Handle handle) is
        (rest asked.0 handle later e)
    by_answer (Some y) is e = absurd (ends_no_ask y site r e)

in_file : (x : Slot) (site : Site) (go : FileAt → Move) (r : Request) (own : Own) (answers : Answers)
    → ((file : FileAt) → go file ≡ Ask r → AllCame own answers) → on_file x site go ≡ Ask r → AllCame own answers
in_file Empty site go r own answers rest e = absurd cc
in_file (File file) site go r own answers rest e = rest file e
in_file (Buffered file buffer) site go r own answers rest e = absurd cc

-- such a call asks only once all that it asked was answered
pub one_by_one : (c : Call) (site : Site) (facts : Facts) (own : Own) (answers : Answers) (r : Request) → makes_many c
    ≡ true → is_whole c ≡ false → next c site facts own answers ≡ Ask r → AllCame own answers
one_by_one (call.ReadAll slot n) site facts own answers r many narrow e =
    in_file (slot_at site slot) site _ r own answers (λ file e. missing_came slot file [] n site facts own answers r e)
    e
one_by_one (call.WriteAll slot bytes) site facts own answers r many narrow e =
    in_file (slot_at site slot) site _ r own answers (λ file e. rest_came (in_slot slot) file bytes site facts own
    answers r e) e
one_by_one (call.WriteParts slot parts) site facts own answers r many narrow e =
    in_file (slot_at site slot) site _ r own answers (λ file e. rest_came (in_slot slot) file (joined_parts parts) site
    facts own answers r e) e
one_by_one (call.FsRead path bound) site facts own answers r many narrow e = absurd cc
one_by_one (call.FsWrite path bytes) site facts own answers r many narrow e =
    opened_came (ask_path (open_request to_replace (from_directory site path)) site) site
    (λ place handle. rest_next nowhere (opened_file to_replace place) bytes site facts) own answers r
    (λ place handle later e. rest_came nowhere (opened_file to_replace place) bytes site facts later answers r e) e
one_by_one (call.List path bound) site facts own answers r many narrow e =
    opened_came (ask_path (request.Opendir (from_directory site path)) site) site
    (λ place handle. entries_next handle [] bound site) own answers r
    (λ place handle later e. entries_came handle [] bound site later answers r e) e
one_by_one other site facts own answers r many narrow e = absurd cc
