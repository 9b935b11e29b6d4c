-- What calls ask that make a directory or read or write a file as a whole.
use Rattle.std.proofs.Common.{
  ◌≡◌,
  ◌==◌,
  ℕ,
  Bool,
  true,
  false,
  not,
  List,
  [],
  ◌∷◌,
  length,
  drop,
  Option,
  Some,
  None,
  if◌then◌else◌,
  refl,
  ap,
  sym,
  ◌∙◌,
  subst,
  inl,
  inr,
}
use Rattle.std.specs.Prelude.{nat_lt}
use Rattle.std.specs.List.{list_all}
use Rattle.std.proofs.lemmas.Bool.{and_parts, eqb-true}
use Rattle.std.proofs.lemmas.Bool.Decides.{eqb_tells}
use Rattle.sftp_model.specs.declared.error.IoKind.TheVariants as kind
use Rattle.sftp_model.specs.declared.outcome.Outcome.TheVariants as outcome
use Rattle.sftp_model.specs.declared.reply.Reply.{Reply}
use Rattle.sftp_model.specs.declared.reply.Reply.TheVariants as reply
use Rattle.sftp_model.specs.declared.request.Request.{Request}
use Rattle.sftp_model.specs.declared.request.Request.TheVariants as request
use Rattle.sftp_model.specs.declared.slot.Facts.{Facts}
use Rattle.sftp_model.specs.declared.slot.FileAt.{FileAt}
use Rattle.sftp_model.specs.declared.slot.Move.{Move}
use Rattle.sftp_model.specs.declared.slot.Move.TheVariants.{Ask, Done}
use Rattle.sftp_model.specs.declared.slot.Site.{Site}
use Rattle.plan_model.specs.CallPlans.{next}
use Rattle.plan_model.specs.FilePlans.{open_request, opened_file}
use Rattle.sftp_model.specs.Frames.{is_too_long}
use Rattle.plan_model.specs.Moves.{Answers, Own, ask_path, ask_write, done_by, further, handle_of, on_handle, on_status, once_answered, overflows, refusal_move, refuse_locally}
use Rattle.plan_model.specs.PathPlans.{from_directory}
use Rattle.plan_model.specs.TransferPlans.{next_part, part_len, rest_next}
use Rattle.plan_model.specs.WholePlans.{nowhere, to_replace}
use Rattle.plan_model.specs.WindowPlans.{
  answered_prefix,
  ask_more,
  await_first,
  contents,
  ends_or,
  first_refusal,
  gaps,
  least,
  least_end,
  outside,
  reaches,
  to_read,
  unless_refused,
}
use Rattle.plan_model.specs.declared.call.Call.{Call}
use Rattle.plan_model.specs.declared.call.Call.TheVariants as call
use Rattle.session_model.specs.declared.entry.Entry.{Entry}
use Rattle.session_model.specs.declared.entry.Entry.TheVariants as entry
use Rattle.session_model.specs.declared.event.Event.TheVariants.{Submit}
use Rattle.session_model.specs.declared.event.Owner.{Owner}
use Rattle.session_model.specs.declared.event.Owner.TheVariants as owner
use Rattle.session_model.specs.Calls.{Setting, call_at, current, lane_calls, site_of}
use Rattle.session_model.specs.Journals.{IsJournal}
use Rattle.session_model.specs.Readings.{AskedRequest, answer, count_submitted, asked_at, count_ended, is_by, own}
use Rattle.session_model.proofs.CallLaws.{next_submit}
use Rattle.run_laws.proofs.CallRequests.{move_is}
use Rattle.run_laws.proofs.LaneCalls.{all_before, all_more, call_stays, each_is, plain_path}
use Rattle.run_laws.proofs.OffRequests.{is_still}
use Rattle.run_laws.proofs.UsedLaws.{some_is}
use Rattle.run_ending_laws.proofs.Building.{IsBuilding}
use Rattle.run_ending_laws.proofs.LastCalls.{plain_is_still}
use Rattle.run_ending_laws.specs.PlainCalls.{is_plain_call}

-- where the move asks, it asks so
abbrev pub AsksSo : (Request → Type 0) → Move → Type 0
AsksSo P (Ask r) = P r
AsksSo P other = Unit {0}

if_asks : (P : Request → Type 0) (b : Bool) (x y : Move) → AsksSo P x → AsksSo P y → AsksSo P (if b then x else y)
if_asks P true x y left right = left
if_asks P false x y left right = right

path_asks : (P : Request → Type 0) (r : Request) (site : Site) → P r → AsksSo P (ask_path r site)
path_asks P r site is = if_asks P (is_too_long r) (refuse_locally kind.PathTooLong site) (Ask r) tt is

once_asks : (P : Request → Type 0) (place : ℕ) (o : Option Reply) (go : Reply → Move) → ((r : Reply) → AsksSo P (go r))
    → AsksSo P (once_answered place o go)
once_asks P place None go all = tt
once_asks P place (Some r) go all = all r

refused_asks : (P : Request → Type 0) (r : Reply) (site : Site) → AsksSo P (refusal_move r site)
refused_asks P (reply.Status code message language) site = tt
refused_asks P (reply.Version version extensions) site = tt
refused_asks P (reply.Handle handle) site = tt
refused_asks P (reply.Content content) site = tt
refused_asks P (reply.Names names) site = tt
refused_asks P (reply.Attrs attrs) site = tt
refused_asks P (reply.Extended content) site = tt

status_asks : (P : Request → Type 0) (r : Reply) (site : Site) (go : Move) → AsksSo P go
    → AsksSo P (on_status r site go)
status_asks P (reply.Status code message language) site go on =
    if_asks P (code == 0) go (refusal_move (reply.Status code message language) site) on tt
status_asks P (reply.Version version extensions) site go on = tt
status_asks P (reply.Handle handle) site go on = tt
status_asks P (reply.Content content) site go on = tt
status_asks P (reply.Names names) site go on = tt
status_asks P (reply.Attrs attrs) site go on = tt
status_asks P (reply.Extended content) site go on = tt

handle_asks : (P : Request → Type 0) (r : Reply) (site : Site) (go : List ℕ → Move) → ((h : List ℕ) → AsksSo P (go h))
    → AsksSo P (on_handle r site go)
handle_asks P (reply.Handle handle) site go on = on handle
handle_asks P (reply.Status code message language) site go on = tt
handle_asks P (reply.Version version extensions) site go on = tt
handle_asks P (reply.Content content) site go on = tt
handle_asks P (reply.Names names) site go on = tt
handle_asks P (reply.Attrs attrs) site go on = tt
handle_asks P (reply.Extended content) site go on = tt

rest_asks : (P : Request → Type 0) → ((h : List ℕ) (offset : ℕ) (part : List ℕ) → P (request.Write h offset part))
    → (file : FileAt) (bytes : List ℕ) (site : Site)
    (facts : Facts) (own : Own) (answers : Answers) → AsksSo P (rest_next nowhere file bytes site facts own answers)
rest_asks P writes file bytes site facts [] answers =
    if_asks P (length bytes == 0) (Done outcome.Done site) (ask_write file (next_part facts bytes) site answers) tt
    (if_asks P (not file.writable) (refuse_locally kind.NotWritable site) _ tt
    (if_asks P (overflows file.offset (length (next_part facts bytes))) (refuse_locally kind.OffsetOverflow site) _ tt
    (writes (handle_of (answers file.grant)) file.offset (next_part facts bytes))))
rest_asks P writes file bytes site facts (asked ∷ later) answers =
    once_asks P asked.0 (answers asked.0) _ (λ r. status_asks P r site _
    (rest_asks P writes (further file (part_len facts bytes)) (drop (part_len facts bytes) bytes) site facts later
    answers))

await_asks : (P : Request → Type 0) (waiting : Own) (site : Site) → AsksSo P (await_first waiting site)
await_asks P [] site = tt
await_asks P (asked ∷ later) site = tt

window_asks : (P : Request → Type 0) → ((h : List ℕ) (offset len : ℕ) → P (request.Read h offset len))
    → (handle : List ℕ) (bound : Option ℕ) (reads : Own)
    (replies : List (ℕ × Reply)) (waiting : Own) (site : Site) (facts : Facts) (refusal : Option (ℕ × Reply))
    (missing : List ℕ) (gap end : Option ℕ)
    → AsksSo P (unless_refused refusal site (ends_or missing replies waiting site end
    (if reaches bound (length (contents replies)) then Done outcome.GivenUp site
    else if nat_lt (length waiting) facts.read_window then ask_more handle reads replies waiting site facts gap end
    else await_first waiting site)))
window_asks P asks handle bound reads replies waiting site facts (Some got) missing gap end = refused_asks P got.1 site
window_asks P asks handle bound reads replies waiting site facts None missing gap end = ended missing waiting end
    (if reaches bound (length (contents replies)) then Done outcome.GivenUp site
    else if nat_lt (length waiting) facts.read_window then ask_more handle reads replies waiting site facts gap end
    else await_first waiting site)
    (if_asks P (reaches bound (length (contents replies))) (Done outcome.GivenUp site) _ tt
    (if_asks P (nat_lt (length waiting) facts.read_window) (ask_more handle reads replies waiting site facts gap end)
    (await_first waiting site)
    (more gap end) (await_asks P waiting site)))
  where
    more : (gap end : Option ℕ) → AsksSo P (ask_more handle reads replies waiting site facts gap end)
    more (Some p) end = asks handle p _
    more None None = asks handle _ facts.read_len
    more None (Some end) = await_asks P waiting site

    ended : (missing : List ℕ) (w : Own) (end : Option ℕ) → (other : Move) → AsksSo P other
        → AsksSo P (ends_or missing replies w site end other)
    ended [] [] (Some end) other on = tt
    ended [] [] None other on = on
    ended [] (asked ∷ later) end other on = on
    ended (p ∷ missing) w end other on = on

-- ---- the calls

-- the request is one that the call may make, where its path is meant as it stands
abbrev pub IsOfCall : Call → Request → Type 0
IsOfCall (call.Mkdir path) (request.Mkdir p attrs) = p ≡ path
IsOfCall (call.Mkdir path) other = ⊥
IsOfCall (call.FsWrite path content) (request.OpenFile p flags attrs) = (p ≡ path) × (flags ≡ to_replace)
IsOfCall (call.FsWrite path content) (request.Write handle offset piece) = Unit {0}
IsOfCall (call.FsWrite path content) other = ⊥
IsOfCall (call.FsRead path bound) (request.OpenFile p flags attrs) = (p ≡ path) × (flags ≡ to_read)
IsOfCall (call.FsRead path bound) (request.Read handle offset len) = Unit {0}
IsOfCall (call.FsRead path bound) other = ⊥
IsOfCall other r = ⊥

plan_asks : (c : Call) (site : Site) (facts : Facts) (own : Own) (answers : Answers) → is_plain_call c ≡ true
    → ((path : List ℕ) → from_directory site path ≡ path) → AsksSo (IsOfCall c) (next c site facts own answers)
plan_asks (call.Mkdir path) site facts [] answers is home = path_asks (IsOfCall (call.Mkdir path)) _ site (home path)
plan_asks (call.Mkdir path) site facts (asked ∷ later) answers is home =
    once_asks (IsOfCall (call.Mkdir path)) asked.0 (answers asked.0) (done_by site)
    (λ r. status_asks (IsOfCall (call.Mkdir path)) r site (Done outcome.Done site) tt)
plan_asks (call.FsWrite path content) site facts [] answers is home =
    path_asks (IsOfCall (call.FsWrite path content)) (open_request to_replace (from_directory site path)) site
    (home path, refl)
plan_asks (call.FsWrite path content) site facts (asked ∷ later) answers is home =
    once_asks (IsOfCall (call.FsWrite path content)) asked.0 (answers asked.0) _
    (λ r. handle_asks (IsOfCall (call.FsWrite path content)) r site _
    (λ h. rest_asks (IsOfCall (call.FsWrite path content)) (λ handle offset part. tt) (opened_file to_replace asked.0)
    content site facts later answers))
plan_asks (call.FsRead path bound) site facts [] answers is home =
    path_asks (IsOfCall (call.FsRead path bound)) (open_request to_read (from_directory site path)) site
    (home path, refl)
plan_asks (call.FsRead path bound) site facts (asked ∷ later) answers is home =
    once_asks (IsOfCall (call.FsRead path bound)) asked.0 (answers asked.0) _
    (λ r. handle_asks (IsOfCall (call.FsRead path bound)) r site _
    (λ h. window_asks (IsOfCall (call.FsRead path bound)) (λ handle offset len. tt) h (Some bound) later
    (answered_prefix later answers) (outside later answers) site facts
    (first_refusal (answered_prefix later answers)) (gaps later (answered_prefix later answers) (outside later answers))
    (least (gaps later (answered_prefix later answers) (outside later answers)))
    (least_end (answered_prefix later answers))))
plan_asks other site facts own answers is home = absurd cc

-- it builds
pub call_builds : (c : Call) (r : Request) → IsOfCall c r → IsBuilding r
call_builds (call.Mkdir path) (request.Mkdir p attrs) is = tt
call_builds (call.Mkdir path) other is = absurd is
call_builds (call.FsWrite path content) (request.OpenFile p flags attrs) is = tt
call_builds (call.FsWrite path content) (request.Write handle offset piece) is = tt
call_builds (call.FsWrite path content) other is = absurd is
call_builds (call.FsRead path bound) (request.OpenFile p flags attrs) is = tt
call_builds (call.FsRead path bound) (request.Read handle offset len) is = tt
call_builds (call.FsRead path bound) other is = absurd is
call_builds other r is = absurd is

-- ---- in journals

-- the call that made a request
pub record IsMadeBy (s : Setting) (past : List Entry) (lane k : ℕ) (r : Request) : Type 0 where
  pub c : Call
  pub is : call_at s past lane k ≡ Some c
  pub asks : IsOfCall c r

made_now : (s : Setting) (past : List Entry) (o : Owner) (id : ℕ) (r : Request) (lane k : ℕ)
    → IsJournal s (entry.Event (Submit o id r) ∷ past)
    → list_all is_plain_call (lane_calls s past lane) ≡ true → is_by o lane k ≡ true → IsMadeBy s past lane k r
made_now s past (owner.Call l n) id r lane k j all by =
    let both = and_parts (l == lane) (n == k) by in
    let at_lane : l ≡ lane = eqb-true l lane both.0 in
    let at_call : n ≡ k = eqb-true n k both.1 in
    let may = next_submit s past l n id r j.0 in
    let plain : list_all is_plain_call (lane_calls s past l) ≡ true =
    subst (λ (m : ℕ). list_all is_plain_call (lane_calls s past m) ≡ true) (sym at_lane) all in
    let d = move_is (current s past l) (site_of s past l) s.facts (own past l (count_ended past l)) (answer past) r
    may.1 in
    let so : AsksSo (IsOfCall d.0) (next d.0 (site_of s past l) s.facts (own past l (count_ended past l)) (answer past))
    =
    plan_asks d.0 (site_of s past l) s.facts (own past l (count_ended past l)) (answer past)
    (each_is is_plain_call (lane_calls s past l) (count_ended past l) d.0 plain d.1.0)
    (λ path. plain_path s past l path (all_more is_plain_call is_still (lane_calls s past l) plain_is_still plain)) in
    let asks : IsOfCall d.0 r = subst (AsksSo (IsOfCall d.0)) d.1.1 so in
    let there : call_at s past l n ≡ Some d.0 = ap (call_at s past l) may.0 ∙ d.1.0 in
    record {
      c = d.0;
      is = subst (λ (m : ℕ). call_at s past m k ≡ Some d.0) at_lane
          (subst (λ (m : ℕ). call_at s past l m ≡ Some d.0) at_call there);
      asks = asks;
    }
made_now s past owner.Setup id r lane k j all by = absurd cc
made_now s past owner.Close id r lane k j all by = absurd cc

-- each request of a lane of such calls is one of its call
pub made_by : (s : Setting) (past : List Entry) (lane k place : ℕ) (a : AskedRequest) → IsJournal s past
    → list_all is_plain_call (lane_calls s past lane) ≡ true
    → asked_at past place ≡ Some a → is_by a.by lane k ≡ true → IsMadeBy s past lane k a.request
made_by s [] lane k place a j all e by = absurd cc
made_by s (entry.Event (Submit o id r) ∷ past) lane k place a j all e by =
    elim (eqb_tells place (count_submitted past)) [
      | inl t ↦ (let same = some_is (record { by = o; id = id; request = r }) a (rw (t.0) at e) in
          let m = made_now s past o id r lane k j all (subst (λ (x : AskedRequest). is_by x.by lane k ≡ true) (sym same)
          by) in
          subst (λ (x : AskedRequest). IsMadeBy s (entry.Event (Submit o id r) ∷ past) lane k x.request) same
          (record { c = m.c; is = m.is; asks = m.asks }))
      | inr t ↦ (let m = made_by s past lane k place a j.1 all (rw (t.0) at e) by in
          record { c = m.c; is = m.is; asks = m.asks })
    ]
made_by s (entry.Added l c ∷ past) lane k place a j all e by =
    let m = made_by s past lane k place a j.1 (all_before is_plain_call s (entry.Added l c ∷ []) past lane all) e by in
    record { c = m.c; is = call_stays s (entry.Added l c ∷ []) past lane k m.c m.is; asks = m.asks }
made_by s (_ ∷ past) lane k place a j all e by =
    let m = made_by s past lane k place a j.1 all e by in record { c = m.c; is = m.is; asks = m.asks }
