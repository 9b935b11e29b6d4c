-- What calls on slots ask, in the journals of their requests: an `open` its OPEN, and a call that writes to a buffered
-- file by the handle of the file's grant, which has no CLOSE then.
use Rattle.std.proofs.Common.{append_assoc, ◌≡◌, ◌<◌, ◌≤◌, ◌+◌, ◌==◌, ℕ, true, false, List, [], ◌∷◌, ◌++◌, Option, Some, None, refl, ap, sym, ◌∙◌, subst, arith}
use Rattle.std.proofs.lemmas.Bool.{and_parts, eq-eqb, eqb-true, ne_eqb, or_left}
use Rattle.sftp_model.specs.OpenOptions.{flags_of}
use Rattle.sftp_model.specs.Slots.{grant_of, has_grant, slot_at}
use Rattle.sftp_model.specs.declared.open_options.OpenOptions.{OpenOptions}
use Rattle.sftp_model.specs.declared.reply.Reply.TheVariants as reply
use Rattle.sftp_model.specs.declared.request.Request.{Request}
use Rattle.sftp_model.specs.declared.slot.Buffer.{Buffer}
use Rattle.sftp_model.specs.declared.slot.FileAt.{FileAt}
use Rattle.sftp_model.specs.declared.slot.Move.TheVariants.{Ask}
use Rattle.sftp_model.specs.declared.slot.Site.{Site}
use Rattle.sftp_model.specs.declared.slot.Slot.TheVariants.{Buffered}
use Rattle.plan_model.specs.CallPlans.{next}
use Rattle.plan_model.specs.FilePlans.{open_request}
use Rattle.plan_model.specs.Moves.{Own, handle_of}
use Rattle.plan_model.proofs.SlotLaws.{slot_held}
use Rattle.plan_model.specs.declared.call.Call.{Call}
use Rattle.plan_model.specs.declared.call.Call.TheVariants as call
use Rattle.session_model.specs.declared.entry.Entry.{Entry}
use Rattle.session_model.specs.declared.entry.Entry.TheVariants as entry
use Rattle.session_model.specs.declared.event.Event.TheVariants.{Submit}
use Rattle.session_model.specs.declared.event.Owner.{Owner}
use Rattle.session_model.specs.declared.event.Owner.TheVariants as owner
use Rattle.session_model.specs.Calls.{Setting, call_at, current, held_by, held_site, site_of}
use Rattle.session_model.specs.Grants.{closed_grants, holds, is_asked_by, is_grant, is_one_of, is_unended_asker}
use Rattle.session_model.specs.Journals.{IsJournal}
use Rattle.session_model.specs.Readings.{AskedRequest, answer, count_submitted, asked_at, count_ended, is_by, own}
use Rattle.session_model.proofs.CallLaws.{next_submit}
use Rattle.session_model.proofs.HolderLaws.{slots_owned}
use Rattle.session_model.proofs.LetGoLaws.{granted_below}
use Rattle.run_laws.specs.GrantUses.{WritesBy}
use Rattle.run_laws.specs.InJournals.{is_of_call}
use Rattle.run_laws.specs.Listings.{site_at}
use Rattle.run_laws.proofs.BearingLaws.{asker_there, grant_came, unclosed_held}
use Rattle.run_laws.proofs.BufferedMoves.{buffered_asks, open_asks_once}
use Rattle.run_laws.proofs.CallRequests.{Split, asked_grows, journal_before, move_is, split_at}
use Rattle.run_laws.proofs.CallSites.{given_call, plain_before, plain_call, site_within}
use Rattle.run_laws.proofs.JournalCalls.{answers_stay}
use Rattle.run_laws.proofs.OpenLaws.{open_is}
use Rattle.run_laws.proofs.PlainRuns.{IsPlain}
use Rattle.run_laws.proofs.UsedLaws.{closed_before, some_is}

-- ---- a request of a call

-- the journal in which a call's request was submitted, and what its plan asked there
pub record AsksAt (s : Setting) (past : List Entry) (lane k place : ℕ) (r : Request) (c : Call) : Type 0 where
  pub more : List Entry
  pub before : List Entry
  pub id : ℕ
  pub is : more ++ entry.Event (Submit (owner.Call lane k) id r) ∷ before ≡ past
  pub at : count_submitted before ≡ place
  pub journal : IsJournal s (entry.Event (Submit (owner.Call lane k) id r) ∷ before)
  pub plain : IsPlain before
  pub number : k ≡ count_ended before lane
  pub now : current s before lane ≡ Some c
  pub asks : next c (site_of s before lane) s.facts (own before lane (count_ended before lane)) (answer before) ≡ Ask r

pub asks_at : (s : Setting) (past : List Entry) (lane k place : ℕ) (a : AskedRequest) (c : Call) → IsJournal s past
    → IsPlain past
    → given_call s lane k ≡ Some c → is_of_call past (lane, k) place ≡ true → asked_at past place ≡ Some a
    → AsksAt s past lane k place a.request c
asks_at s past lane k place a c j p given mine is =
    let t : Split past place a = split_at past place a is in
    by_owner t.more t.before a.by a.id a.request t.is t.at (sym (ap (λ x. is_asked_by x lane k) is) ∙ mine)
  where
    at_submit : (more before : List Entry) (id : ℕ) (r : Request)
        → more ++ entry.Event (Submit (owner.Call lane k) id r) ∷ before ≡ past → count_submitted before ≡ place
        → AsksAt s past lane k place r c
    at_submit more before id r eq at =
        let asks_it : Entry = entry.Event (Submit (owner.Call lane k) id r) in
        let jn : IsJournal s (asks_it ∷ before) = journal_before s more (asks_it ∷ before)
        (subst (IsJournal s) (sym eq) j) in
        let may = next_submit s before lane k id r jn.0 in
        let plain : IsPlain before = plain_before more (asks_it ∷ before) (subst IsPlain (sym eq) p) in
        let now : current s before lane ≡ Some c =
        subst (λ (n : ℕ). call_at s before lane n ≡ Some c) may.0 (plain_call s before lane k c plain given) in
        let d = move_is (current s before lane) (site_of s before lane) s.facts
        (own before lane (count_ended before lane)) (answer before) r may.1 in
        record {
          more = more;
          before = before;
          id = id;
          is = eq;
          at = at;
          journal = jn;
          plain = plain;
          number = may.0;
          now = now;
          asks = subst (λ (x : Call). next x (site_of s before lane) s.facts (own before lane (count_ended before lane))
              (answer before) ≡ Ask r)
              (some_is d.0 c (sym d.1.0 ∙ now)) d.1.1;
        }

    by_owner : (more before : List Entry) (o : Owner) (id : ℕ) (r : Request) → more
        ++ entry.Event (Submit o id r) ∷ before ≡ past → count_submitted before ≡ place → is_by o lane k ≡ true
        → AsksAt s past lane k place r c
    by_owner more before (owner.Call l n) id r eq at own_it =
        let both = and_parts (l == lane) (n == k) own_it in
        at_submit more before id r (subst (λ (x : ℕ). more ++ entry.Event (Submit (owner.Call lane x) id r) ∷ before
        ≡ past) (eqb-true n k both.1)
        (subst (λ (y : ℕ). more ++ entry.Event (Submit (owner.Call y n) id r) ∷ before ≡ past) (eqb-true l lane both.0)
        eq)) at
    by_owner more before owner.Setup id r eq at own_it = absurd cc
    by_owner more before owner.Close id r eq at own_it = absurd cc

-- ---- an `open`

-- it asks an OPEN of its path, with its flags
pub open_asked : (s : Setting) (past : List Entry) (lane k slot : ℕ) (options : OpenOptions) (path : List ℕ) (place : ℕ)
    (a : AskedRequest) → IsJournal s past → IsPlain past → given_call s lane k ≡ Some (call.OpenFile slot options path)
    → is_of_call past (lane, k) place ≡ true → asked_at past place ≡ Some a
    → a.request ≡ open_request (flags_of options) path
open_asked s past lane k slot options path place a j p given mine is =
    let t = asks_at s past lane k place a (call.OpenFile slot options path) j p given mine is in
    by_own t.before (own t.before lane (count_ended t.before lane)) t.asks
  where
    by_own : (before : List Entry) (requests : Own) → next (call.OpenFile slot options path) (site_of s before lane)
        s.facts requests (answer before) ≡ Ask a.request
        → a.request ≡ open_request (flags_of options) path
    by_own before [] e = open_is (flags_of options) path (site_of s before lane) a.request e
    by_own before (first ∷ later) e = absurd (open_asks_once slot options path (site_of s before lane) s.facts first
        later (answer before) a.request e)

-- ---- grants without a CLOSE

closed_now : (s : Setting) (more before : List Entry) (by : Owner) (id : ℕ) (r : Request)
    → closed_before s (more ++ entry.Event (Submit by id r) ∷ before) (count_submitted before) ≡ closed_grants s before
closed_now s [] before by id r = rw (eq-eqb (count_submitted before) (count_submitted before) refl) refl
closed_now s (entry.Event (Submit o i q) ∷ more) before by id r =
    let le : count_submitted before + 1 ≤ count_submitted (more ++ entry.Event (Submit by id r) ∷ before) =
    asked_grows more (entry.Event (Submit by id r) ∷ before) in
    rw (ne_eqb (count_submitted before) (count_submitted (more ++ entry.Event (Submit by id r) ∷ before))
    (λ same. omega (arith, same, le))) (closed_now s more before by id r)
closed_now s (_ ∷ more) before by id r = closed_now s more before by id r

-- ---- a call that writes to a buffered file

-- the request at a place writes by the handle of an earlier grant, which had no CLOSE then
abbrev pub BearsOpen : Setting → List Entry → ℕ → List ℕ → ℕ → Request → Type 0
BearsOpen s past grant handle place r =
    WritesBy r handle × (grant < place) × (is_one_of (closed_before s past place) grant ≡ false)

pub buffered_bears : (s : Setting) (past : List Entry) (lane k slot : ℕ) (bytes handle : List ℕ) (file : FileAt)
    (buffer : Buffer) → IsJournal s past → IsPlain past → given_call s lane k ≡ Some (call.BufWriteAll slot bytes)
    → slot_at (site_at s past lane k) slot ≡ Buffered file buffer → answer past file.grant ≡ Some (reply.Handle handle)
    → (place : ℕ) (a : AskedRequest) → is_of_call past (lane, k) place ≡ true → asked_at past place ≡ Some a
    → BearsOpen s past file.grant handle place a.request
buffered_bears s past lane k slot bytes handle file buffer j p given stood came place a mine is =
    let t = asks_at s past lane k place a c2 j p given mine is in
    subst (λ (q : ℕ). BearsOpen s past file.grant handle q a.request) t.at (at_submit t)
  where
    c2 : Call
    c2 = call.BufWriteAll slot bytes

    at_submit : (t : AsksAt s past lane k place a.request c2) →
        BearsOpen s past file.grant handle (count_submitted t.before) a.request
    at_submit t =
        let before : List Entry = t.before in
        let site : Site = site_of s before lane in
        let asks_it : Entry = entry.Event (Submit (owner.Call lane k) t.id a.request) in
        let jw : IsJournal s (t.more ++ asks_it ∷ before) = subst (IsJournal s) (sym t.is) j in
        let called : call_at s before lane k ≡ Some c2 = plain_call s before lane k c2 t.plain given in
        let whole : (t.more ++ asks_it ∷ []) ++ before ≡ past = append_assoc t.more (asks_it ∷ []) before ∙ t.is in
        let site_is : site_at s past lane k ≡ site =
        subst (λ (l : List Entry). site_at s l lane k ≡ site_of s before lane) whole
        (site_within s (t.more ++ asks_it ∷ []) before lane k c2 (subst (IsJournal s) (sym whole) j) (sym t.number)
        called)
        in
        let there : slot_at site slot ≡ Buffered file buffer = ap (λ (x : Site). slot_at x slot) (sym site_is) ∙ stood
        in
        let grant_is : grant_of (slot_at site slot) ≡ Some file.grant = ap grant_of there in
        let in_slots : has_grant site file.grant ≡ true = slot_held site.slots slot file.grant grant_is in
        let by : WritesBy a.request (handle_of (answer before file.grant)) =
        buffered_asks slot bytes file buffer site s.facts (own before lane (count_ended before lane)) (answer before)
        a.request there t.asks in
        let granted : is_grant before file.grant ≡ true = (slots_owned s before lane file.grant t.journal.1 in_slots).0
        in
        let came_then : answer before file.grant ≡ Some (reply.Handle (handle_of (answer before file.grant))) =
        grant_came (answer before file.grant) (handle_of (answer before file.grant)) granted refl in
        let came_now : answer past file.grant ≡ Some (reply.Handle (handle_of (answer before file.grant))) =
        subst (λ (l : List Entry). answer l file.grant ≡ Some (reply.Handle (handle_of (answer before file.grant))))
        t.is
        (answers_stay s t.more (asks_it ∷ before) jw file.grant (reply.Handle (handle_of (answer before file.grant)))
        came_then)
        in
        let has : has_grant (held_site s before lane) file.grant ≡ true =
        ap (λ (c : Option Call). has_grant (held_by c (own before lane (count_ended before lane)) site) file.grant)
        t.now ∙ in_slots in
        let held : holds s before file.grant lane ≡ true = or_left (has_grant (held_site s before lane) file.grant)
        (is_unended_asker before lane file.grant) has in
        let free : is_one_of (closed_grants s before) file.grant ≡ false =
        unclosed_held s before file.grant lane t.journal.1 (asker_there s before lane k t.id a.request t.journal) held
        in
        let before_it : closed_before s past (count_submitted before) ≡ closed_grants s before =
        ap (λ (l : List Entry). closed_before s l (count_submitted before)) (sym t.is)
        ∙ closed_now s t.more before (owner.Call lane k) t.id a.request
        in (
          subst (WritesBy a.request) (ap handle_of (sym came_now ∙ came)) by,
          granted_below before file.grant granted,
          ap (λ l. is_one_of l file.grant) before_it ∙ free,
        )

-- so of each place at which the call asks
pub bears_there : (s : Setting) (past : List Entry) (lane k grant : ℕ) (handle : List ℕ)
    → ((place : ℕ) (a : AskedRequest) → is_of_call past (lane, k) place ≡ true → asked_at past place ≡ Some a
    → BearsOpen s past grant handle place a.request)
    → (place : ℕ) → is_of_call past (lane, k) place ≡ true
    → (grant < place) × (is_one_of (closed_before s past place) grant ≡ false)
bears_there s past lane k grant handle bears place mine = by_asked (asked_at past place) refl mine
  where
    by_asked : (x : Option AskedRequest) → asked_at past place ≡ x → is_asked_by x lane k ≡ true
        → (grant < place) × (is_one_of (closed_before s past place) grant ≡ false)
    by_asked None none own_it = absurd cc
    by_asked (Some a) is own_it = let b = bears place a mine is in (b.1, b.2)
