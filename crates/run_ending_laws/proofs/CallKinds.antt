-- How calls end, by their kinds.
use Rattle.std.proofs.Common.{◌≡◌, ◌≤◌, ◌==◌, ℕ, Bool, true, false, not, List, [], ◌∷◌, length, Option, Some, None, if◌then◌else◌, refl, subst, arith}
use Rattle.std.specs.Prelude.{drop, nat_le, nat_lt}
use Rattle.std.proofs.lemmas.Bool.Decides.{nat_tests}
use Rattle.sftp_model.specs.declared.error.Error.{Error}
use Rattle.sftp_model.specs.declared.error.IoKind.TheVariants as kind
use Rattle.sftp_model.specs.declared.outcome.Outcome.{Outcome}
use Rattle.sftp_model.specs.declared.outcome.Outcome.TheVariants as outcome
use Rattle.sftp_model.specs.declared.reply.Reply.{Reply}
use Rattle.sftp_model.specs.declared.reply.Reply.TheVariants as reply
use Rattle.sftp_model.specs.declared.request.Request.{Request}
use Rattle.sftp_model.specs.declared.slot.Facts.{Facts}
use Rattle.sftp_model.specs.declared.slot.FileAt.{FileAt}
use Rattle.sftp_model.specs.declared.slot.Move.{Move}
use Rattle.sftp_model.specs.declared.slot.Move.TheVariants.{Ask, Done}
use Rattle.sftp_model.specs.declared.slot.Site.{Site}
use Rattle.plan_model.specs.CallPlans.{next}
use Rattle.plan_model.specs.FilePlans.{opened_file}
use Rattle.sftp_model.specs.Frames.{is_too_long}
use Rattle.plan_model.specs.Moves.{Answers, Own, ask_path, ask_write, done_by, further, on_handle, on_status, once_answered, overflows, refusal_move, refuse_locally}
use Rattle.plan_model.specs.TransferPlans.{next_part, part_len, rest_next}
use Rattle.plan_model.specs.WholePlans.{nowhere, to_replace}
use Rattle.plan_model.specs.WindowPlans.{
  answered_prefix,
  ask_more,
  await_first,
  contents,
  ends_or,
  first_refusal,
  gaps,
  go_on,
  least,
  least_end,
  lesser,
  outside,
  unless_refused,
  window_next,
}
use Rattle.plan_model.specs.declared.call.Call.{Call}
use Rattle.plan_model.specs.declared.call.Call.TheVariants as call
use Rattle.run_ending_laws.specs.PlainCalls.{is_plain_call, may_end}

-- where the move ends its call, the outcome passes
abbrev pub ends_so : (Outcome → Bool) → Move → Bool
ends_so test (Done o site) = test o
ends_so test other = true

-- the test lets all refusals pass
abbrev pub PassesRefusals : (Outcome → Bool) → Type 0
PassesRefusals test = (why : Error) → test (outcome.Refused why) ≡ true

refused_so : (test : Outcome → Bool) → PassesRefusals test → (r : Reply) (site : Site)
    → ends_so test (refusal_move r site) ≡ true
refused_so test passes (reply.Status code message language) site = passes _
refused_so test passes (reply.Version version extensions) site = passes _
refused_so test passes (reply.Handle handle) site = passes _
refused_so test passes (reply.Content content) site = passes _
refused_so test passes (reply.Names names) site = passes _
refused_so test passes (reply.Attrs attrs) site = passes _
refused_so test passes (reply.Extended content) site = passes _

if_so : (test : Outcome → Bool) (b : Bool) (x y : Move) → ends_so test x ≡ true → ends_so test y ≡ true
    → ends_so test (if b then x else y) ≡ true
if_so test true x y left right = left
if_so test false x y left right = right

path_so : (test : Outcome → Bool) → PassesRefusals test → (r : Request) (site : Site) → ends_so test (ask_path r site)
    ≡ true
path_so test passes r site = if_so test (is_too_long r) (refuse_locally kind.PathTooLong site) (Ask r) (passes _) refl

once_so : (test : Outcome → Bool) (place : ℕ) (o : Option Reply) (go : Reply → Move)
    → ((r : Reply) → ends_so test (go r) ≡ true)
    → ends_so test (once_answered place o go) ≡ true
once_so test place None go all = refl
once_so test place (Some r) go all = all r

status_so : (test : Outcome → Bool) → PassesRefusals test → (r : Reply) (site : Site) (go : Move) → ends_so test go
    ≡ true → ends_so test (on_status r site go) ≡ true
status_so test passes (reply.Status code message language) site go on =
    if_so test (code == 0) go (refusal_move (reply.Status code message language) site) on (passes _)
status_so test passes (reply.Version version extensions) site go on = passes _
status_so test passes (reply.Handle handle) site go on = passes _
status_so test passes (reply.Content content) site go on = passes _
status_so test passes (reply.Names names) site go on = passes _
status_so test passes (reply.Attrs attrs) site go on = passes _
status_so test passes (reply.Extended content) site go on = passes _

handle_so : (test : Outcome → Bool) → PassesRefusals test → (r : Reply) (site : Site) (go : List ℕ → Move)
    → ((h : List ℕ) → ends_so test (go h) ≡ true)
    → ends_so test (on_handle r site go) ≡ true
handle_so test passes (reply.Handle handle) site go on = on handle
handle_so test passes (reply.Status code message language) site go on = passes _
handle_so test passes (reply.Version version extensions) site go on = passes _
handle_so test passes (reply.Content content) site go on = passes _
handle_so test passes (reply.Names names) site go on = passes _
handle_so test passes (reply.Attrs attrs) site go on = passes _
handle_so test passes (reply.Extended content) site go on = passes _

-- ---- a directory that is made

pub mkdir_so : (test : Outcome → Bool) → PassesRefusals test → test outcome.Done ≡ true
    → (path : List ℕ) (site : Site) (facts : Facts) (own : Own) (answers : Answers)
    → ends_so test (next (call.Mkdir path) site facts own answers) ≡ true
mkdir_so test passes done path site facts [] answers = path_so test passes _ site
mkdir_so test passes done path site facts (asked ∷ later) answers =
    once_so test asked.0 (answers asked.0) (done_by site) (λ r. status_so test passes r site (Done outcome.Done site)
    done)

-- ---- whole writes

write_so : (test : Outcome → Bool) → PassesRefusals test → (file : FileAt) (part : List ℕ) (site : Site)
    (answers : Answers)
    → ends_so test (ask_write file part site answers) ≡ true
write_so test passes file part site answers =
    if_so test (not file.writable) (refuse_locally kind.NotWritable site) _ (passes _)
    (if_so test (overflows file.offset (length part)) (refuse_locally kind.OffsetOverflow site) _ (passes _) refl)

rest_so : (test : Outcome → Bool) → PassesRefusals test → test outcome.Done ≡ true
    → (file : FileAt) (bytes : List ℕ) (site : Site) (facts : Facts)
    (own : Own) (answers : Answers) → ends_so test (rest_next nowhere file bytes site facts own answers) ≡ true
rest_so test passes done file bytes site facts [] answers =
    if_so test (length bytes == 0) (Done outcome.Done site) _ done
    (write_so test passes file (next_part facts bytes) site answers)
rest_so test passes done file bytes site facts (asked ∷ later) answers =
    once_so test asked.0 (answers asked.0) _ (λ r. status_so test passes r site _
    (rest_so test passes done (further file (part_len facts bytes)) (drop (part_len facts bytes) bytes) site facts later
    answers))

pub write_ends_so : (test : Outcome → Bool) → PassesRefusals test → test outcome.Done ≡ true
    → (path bytes : List ℕ) (site : Site) (facts : Facts)
    (own : Own) (answers : Answers) → ends_so test (next (call.FsWrite path bytes) site facts own answers) ≡ true
write_ends_so test passes done path bytes site facts [] answers = path_so test passes _ site
write_ends_so test passes done path bytes site facts (asked ∷ later) answers =
    once_so test asked.0 (answers asked.0) _ (λ r. handle_so test passes r site _
    (λ h. rest_so test passes done (opened_file to_replace asked.0) bytes site facts later answers))

-- ---- whole reads

await_so : (test : Outcome → Bool) → test outcome.GivenUp ≡ true → (waiting : Own) (site : Site)
    → ends_so test (await_first waiting site) ≡ true
await_so test gave_up [] site = gave_up
await_so test gave_up (asked ∷ later) site = refl

more_so : (test : Outcome → Bool) → test outcome.GivenUp ≡ true
    → (handle : List ℕ) (reads : Own) (replies : List (ℕ × Reply)) (waiting : Own)
    (site : Site) (facts : Facts) (gap end : Option ℕ) → ends_so test
    (ask_more handle reads replies waiting site facts gap end) ≡ true
more_so test gave_up handle reads replies waiting site facts (Some p) end = refl
more_so test gave_up handle reads replies waiting site facts None None = refl
more_so test gave_up handle reads replies waiting site facts None (Some end) = await_so test gave_up waiting site

go_on_so : (test : Outcome → Bool) → test outcome.GivenUp ≡ true
    → (handle : List ℕ) (bound : Option ℕ) (reads : Own) (replies : List (ℕ × Reply))
    (waiting : Own) (site : Site) (facts : Facts) → ends_so test (go_on handle bound reads replies waiting site facts)
    ≡ true
go_on_so test gave_up handle bound reads replies waiting site facts =
    if_so test _ (Done outcome.GivenUp site) _ gave_up
    (if_so test (nat_lt (length waiting) facts.read_window) _ (await_first waiting site)
    (more_so test gave_up handle reads replies waiting site facts _ _) (await_so test gave_up waiting site))

-- the test lets bytes, refusals and what was given up pass
pub record PassesReads (test : Outcome → Bool) : Type 0 where
  pub refusals : PassesRefusals test
  pub bytes : (bytes : List ℕ) → test (outcome.Bytes bytes) ≡ true
  pub given_up : test outcome.GivenUp ≡ true

or_so : (test : Outcome → Bool) → PassesReads test → (missing : List ℕ) (replies : List (ℕ × Reply)) (waiting : Own)
    (site : Site) (end : Option ℕ) (other : Move)
    → ends_so test other ≡ true → ends_so test (ends_or missing replies waiting site end other) ≡ true
or_so test passes [] replies [] site (Some end) other on = passes.bytes _
or_so test passes [] replies [] site None other on = on
or_so test passes [] replies (asked ∷ later) site end other on = on
or_so test passes (p ∷ missing) replies waiting site end other on = on

unless_so : (test : Outcome → Bool) → PassesReads test → (refusal : Option (ℕ × Reply)) (site : Site) (go : Move)
    → ends_so test go ≡ true → ends_so test (unless_refused refusal site go) ≡ true
unless_so test passes None site go on = on
unless_so test passes (Some got) site go on = refused_so test (passes.refusals) got.1 site

pub read_ends_so : (test : Outcome → Bool) → PassesReads test
    → (path : List ℕ) (bound : ℕ) (site : Site) (facts : Facts)
    (own : Own) (answers : Answers) → ends_so test (next (call.FsRead path bound) site facts own answers) ≡ true
read_ends_so test passes path bound site facts [] answers = path_so test (passes.refusals) _ site
read_ends_so test passes path bound site facts (asked ∷ later) answers =
    once_so test asked.0 (answers asked.0) _ (λ r. handle_so test (passes.refusals) r site _
    (λ h. unless_so test passes (first_refusal (answered_prefix later answers)) site
    (ends_or (gaps later (answered_prefix later answers) (outside later answers)) (answered_prefix later answers)
    (outside later answers) site
    (least_end (answered_prefix later answers)) (go_on h (Some bound) later (answered_prefix later answers)
    (outside later answers) site facts))
    (or_so test passes (gaps later (answered_prefix later answers) (outside later answers))
    (answered_prefix later answers) (outside later answers) site
    (least_end (answered_prefix later answers)) (go_on h (Some bound) later (answered_prefix later answers)
    (outside later answers) site facts)
    (go_on_so test (passes.given_up) h (Some bound) later (answered_prefix later answers) (outside later answers) site
    facts))))

-- ---- which outcomes a call's kind can have

ended_so : (test : Outcome → Bool) (m : Move) (o : Outcome) (left : Site) → ends_so test m ≡ true → m ≡ Done o left
    → test o ≡ true
ended_so test m o left so e = subst (λ (w : Move). ends_so test w ≡ true) e so

pub plain_call_ends : (c : Call) (site left : Site) (facts : Facts) (own : Own) (answers : Answers) (o : Outcome)
    → is_plain_call c ≡ true
    → next c site facts own answers ≡ Done o left → may_end c o ≡ true
plain_call_ends (call.Mkdir path) site left facts own answers o is e =
    ended_so (may_end (call.Mkdir path)) _ o left (mkdir_so (may_end (call.Mkdir path)) (λ why. refl) refl path site
    facts own answers) e
plain_call_ends (call.FsWrite path bytes) site left facts own answers o is e =
    ended_so (may_end (call.FsWrite path bytes)) _ o left (write_ends_so (may_end (call.FsWrite path bytes))
    (λ why. refl) refl path bytes site facts own answers) e
plain_call_ends (call.FsRead path bound) site left facts own answers o is e =
    ended_so (may_end (call.FsRead path bound)) _ o left (read_ends_so (may_end (call.FsRead path bound))
    (record { refusals = λ why. refl; bytes = λ b. refl; given_up = refl }) path bound site facts own answers) e
plain_call_ends other site left facts own answers o is e = absurd cc

pub plain_uncancelled : (c : Call) → is_plain_call c ≡ true →
    (site : Site) (facts : Facts) (own : Own) (answers : Answers) (left : Site)
    → next c site facts own answers ≡ Done outcome.Cancelled left → ⊥
plain_uncancelled c is site facts own answers left e = by_kind c is
    (plain_call_ends c site left facts own answers outcome.Cancelled is e)
  where
    by_kind : (c : Call) → is_plain_call c ≡ true → may_end c outcome.Cancelled ≡ true → ⊥
    by_kind (call.Mkdir path) is e = cc
    by_kind (call.FsWrite path bytes) is e = cc
    by_kind (call.FsRead path bound) is e = cc
    by_kind other is e = cc

-- ---- a whole read that is given up has reached its bound

least_some : (p : ℕ) (ps : List ℕ) → least (p ∷ ps) ≡ None → ⊥
least_some p ps e = by_rest (least ps) e
  where
    by_rest : (o : Option ℕ) → lesser p o ≡ None → ⊥
    by_rest None e = cc
    by_rest (Some q) e = cc

is_given_up : Outcome → Bool
is_given_up outcome.GivenUp = true
is_given_up other = false

gave_up_at : (handle : List ℕ) (bound : ℕ) (reads : Own) (replies : List (ℕ × Reply)) (site left : Site) (facts : Facts)
    (missing : List ℕ) (waiting : Own)
    (end : Option ℕ) (n : ℕ) → 1 ≤ facts.read_window
    → ends_or missing replies waiting site end (if nat_le bound n then Done outcome.GivenUp site
    else if nat_lt (length waiting) facts.read_window then ask_more handle reads replies waiting site facts
    (least missing) end
    else await_first waiting site) ≡ Done outcome.GivenUp left → bound ≤ n
gave_up_at handle bound reads replies site left facts missing waiting end n some e = by_bound (nat_le bound n) refl
  where
    by_bound : (b : Bool) → nat_le bound n ≡ b → bound ≤ n
    by_bound true is = (let le : bound ≤ n = grind (arith, nat_tests) in le)
    by_bound false is = absurd (by_end missing waiting end (nat_lt (length waiting) facts.read_window) refl
        (rw is at e))
      where
        by_end : (missing : List ℕ) (waiting : Own) (end : Option ℕ) (b : Bool)
            → nat_lt (length waiting) facts.read_window ≡ b
            → ends_or missing replies waiting site end (if b then ask_more handle reads replies waiting site facts
            (least missing) end
            else await_first waiting site) ≡ Done outcome.GivenUp left → ⊥
        by_end [] [] (Some end) b room e = cc
        by_end [] [] None true room e = cc
        by_end [] (asked ∷ later) None true room e = cc
        by_end [] (asked ∷ later) (Some end) true room e = cc
        by_end (p ∷ missing) waiting end true room e = by_least (least (p ∷ missing)) (least_some p missing) e
          where
            by_least : (o : Option ℕ) → (o ≡ None → ⊥) → ask_more handle reads replies waiting site facts o end
                ≡ Done outcome.GivenUp left → ⊥
            by_least None some e = some refl
            by_least (Some q) some e = cc
        by_end [] [] None false room e = (let none : facts.read_window ≤ 0 = grind (arith, nat_tests) in
            omega (arith, none, some))
        by_end [] (asked ∷ later) end false room e = cc
        by_end (p ∷ missing) [] end false room e = (let none : facts.read_window ≤ 0 = grind (arith, nat_tests) in
            omega (arith, none, some))
        by_end (p ∷ missing) (asked ∷ later) end false room e = cc

-- as many READs as the bound has brought bytes
pub gave_up : (handle : List ℕ) (bound : ℕ) (reads : Own) (answers : Answers) (site left : Site) (facts : Facts)
    → 1 ≤ facts.read_window
    → window_next handle (Some bound) reads (answered_prefix reads answers) (outside reads answers) site facts
    ≡ Done outcome.GivenUp left
    → bound ≤ length (contents (answered_prefix reads answers))
gave_up handle bound reads answers site left facts some e = by_refusal (first_refusal (answered_prefix reads answers)) e
  where
    by_refusal : (refusal : Option (ℕ × Reply)) → unless_refused refusal site
        (ends_or (gaps reads (answered_prefix reads answers) (outside reads answers)) (answered_prefix reads answers)
        (outside reads answers) site
        (least_end (answered_prefix reads answers)) (go_on handle (Some bound) reads (answered_prefix reads answers)
        (outside reads answers) site facts))
        ≡ Done outcome.GivenUp left → bound ≤ length (contents (answered_prefix reads answers))
    by_refusal (Some got) e = absurd (let so : is_refused outcome.GivenUp ≡ true =
        ended_so is_refused _ outcome.GivenUp left (refused_so is_refused (λ why. refl) got.1 site) e in cc)
      where
        is_refused : Outcome → Bool
        is_refused (outcome.Refused why) = true
        is_refused other = false
    by_refusal None e = gave_up_at handle bound reads (answered_prefix reads answers) site left facts
        (gaps reads (answered_prefix reads answers) (outside reads answers)) (outside reads answers)
        (least_end (answered_prefix reads answers))
        (length (contents (answered_prefix reads answers))) some e
