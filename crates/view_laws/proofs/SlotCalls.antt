-- The file that a lane has in its first slot, and what its calls may ask.
use Rattle.std.proofs.Common.{
  ◌≡◌,
  ◌==◌,
  ◌+◌,
  ℕ,
  Bool,
  true,
  false,
  not,
  List,
  [],
  ◌∷◌,
  ◌++◌,
  length,
  drop,
  Option,
  Some,
  None,
  if◌then◌else◌,
  refl,
  ap,
  sym,
  ◌∙◌,
  subst,
  inl,
  inr,
}
use Rattle.std.specs.Prelude.{min}
use Rattle.std.proofs.lemmas.Bool.Decides.{eqb_tells}
use Rattle.std.specs.declared.io.traits.SeekFrom.TheVariants as position
use Rattle.sftp_model.specs.Numbers.{SSH_FX_EOF, SSH_FX_OK}
use Rattle.sftp_model.specs.OpenOptions.{flags_of}
use Rattle.sftp_model.specs.Slots.{fresh_site, with_slot}
use Rattle.sftp_model.specs.declared.error.IoKind.TheVariants as kind
use Rattle.sftp_model.specs.declared.open_options.OpenOptions.{OpenOptions}
use Rattle.sftp_model.specs.declared.outcome.Outcome.TheVariants as outcome
use Rattle.sftp_model.specs.declared.reply.Reply.{Reply}
use Rattle.sftp_model.specs.declared.reply.Reply.TheVariants as reply
use Rattle.sftp_model.specs.declared.request.Request.{Request}
use Rattle.sftp_model.specs.declared.request.Request.TheVariants as request
use Rattle.sftp_model.specs.declared.slot.Facts.{Facts}
use Rattle.sftp_model.specs.declared.slot.FileAt.{FileAt}
use Rattle.sftp_model.specs.declared.slot.Move.{Move}
use Rattle.sftp_model.specs.declared.slot.Move.TheVariants.{Ask, Done}
use Rattle.sftp_model.specs.declared.slot.Site.{Site}
use Rattle.sftp_model.specs.declared.slot.Slot.TheVariants.{File}
use Rattle.machine_model.specs.Components.{Name}
use Rattle.machine_model.specs.FileTree.{FileTree, node_at, opened_at}
use Rattle.machine_model.specs.declared.node.Node.TheVariants as node
use Rattle.machine_model.specs.declared.opened.Held.{Held}
use Rattle.machine_model.specs.declared.opened.Opened.TheVariants as opened
use Rattle.plan_model.specs.CallPlans.{next}
use Rattle.plan_model.specs.FilePlans.{open_request, opened_move as opens}
use Rattle.plan_model.specs.Moves.{Answers, Own, ask_read, ask_write, done_by, further, handle_of, on_status, once_answered, overflows, refuse_locally}
use Rattle.plan_model.specs.OwnRequests.{ExtendsAnswers}
use Rattle.plan_model.specs.TransferPlans.{in_slot, next_part, part_len, rest_next, was_read}
use Rattle.plan_model.specs.declared.call.Call.{Call}
use Rattle.plan_model.specs.declared.call.Call.TheVariants as call
use Rattle.run_laws.proofs.MoveWords.{asked_of, is_ask}
use Rattle.run_laws.proofs.OpenLaws.{open_is}
use Rattle.run_laws.proofs.WholeWriteLaws.{write_is}
use Rattle.view_laws.specs.FileCalls.{FilesAt, MayCall, MayRead, MayWrite, OpenFilePlace, IsStanding, bare}

-- ---- the file in the slot

abbrev pub file_at : ℕ → OpenFilePlace → FileAt
file_at grant s = record { grant = grant; readable = s.readable; writable = s.writable; offset = s.offset }

abbrev pub held_as : OpenFilePlace → Held
held_as s = record { file = s.file; readable = s.readable; writable = s.writable; append = false }

abbrev pub site_with : FileAt → Site
site_with at = with_slot fresh_site 0 (File at)

-- The slot has a file that a HANDLE was granted for, and the machine has it open so; a name has the file.
pub record HoldsFile (answers : Answers) (tree : FileTree) (site : Site) (handle : List ℕ) (s : OpenFilePlace) : Type 0
  where
    pub grant : ℕ
    pub site_is : site ≡ site_with (file_at grant s)
    pub came : answers grant ≡ Some (reply.Handle handle)
    pub open_is : opened_at tree handle ≡ Some (opened.File (held_as s))
    pub name : Name
    pub named : node_at tree name ≡ Some (node.File s.file)

abbrev pub HoldsSlot : Answers → FileTree → Site → List ℕ → Option OpenFilePlace → Type 0
HoldsSlot answers tree site handle None = site ≡ fresh_site
HoldsSlot answers tree site handle (Some s) = HoldsFile answers tree site handle s

-- the machine has these files, and the lane this slot
pub record IsAt (answers : Answers) (tree : FileTree) (site : Site) (handle : List ℕ) (at : FilesAt) : Type 0 where
  pub tree_is : at.tree ≡ bare tree
  pub slot_is : HoldsSlot answers tree site handle at.slot

-- ---- what a call asks

-- at most one request, which is this one
abbrev pub IsOne : Request → Own → Type 0
IsOne r [] = Unit {0}
IsOne r (a ∷ []) = a.1 ≡ r
IsOne r (a ∷ b ∷ later) = ⊥

-- a STATUS of 0
abbrev pub IsOk : Option Reply → Type 0
IsOk None = ⊥
IsOk (Some (reply.Status code message language)) = code ≡ SSH_FX_OK
IsOk (Some other) = ⊥

-- what was asked before these had that
abbrev pub AfterOk : Own → Option Reply → Type 0
AfterOk [] o = Unit {0}
AfterOk (a ∷ later) o = IsOk o

-- WRITEs of parts of bytes, one after another
abbrev pub AreWrites : Facts → Answers → List ℕ → ℕ → List ℕ → Own → Type 0
AreWrites facts answers handle offset bytes [] = Unit {0}
AreWrites facts answers handle offset bytes (a ∷ later) = (a.1 ≡ request.Write handle offset (next_part facts bytes))
    × (length bytes == 0 ≡ false) × AfterOk later (answers a.0)
    × AreWrites facts answers handle (offset + part_len facts bytes) (drop (part_len facts bytes) bytes) later

abbrev pub offset_in : Option OpenFilePlace → ℕ
offset_in None = 0
offset_in (Some s) = s.offset

-- what the call asks, where the slot's file has this handle and stands here
abbrev pub AsksSo : Facts → Answers → Call → List ℕ → ℕ → Own → Type 0
AsksSo facts answers (call.OpenFile slot options path) handle offset own =
    IsOne (open_request (flags_of options) path) own
AsksSo facts answers (call.Seek slot position) handle offset own = own ≡ []
AsksSo facts answers (call.Read slot n) handle offset own = IsOne (request.Read handle offset (min n facts.read_len))
    own
AsksSo facts answers (call.WriteAll slot bytes) handle offset own = AreWrites facts answers handle offset bytes own
AsksSo facts answers (call.Close slot) handle offset own = IsOne (request.Close handle) own
AsksSo facts answers other handle offset own = ⊥

-- nothing is asked yet
pub asks_none : (facts : Facts) (answers : Answers) (c : Call) (handle : List ℕ) (offset : ℕ) (at : FilesAt)
    → MayCall at c → AsksSo facts answers c handle offset []
asks_none facts answers (call.OpenFile slot options path) handle offset at may = tt
asks_none facts answers (call.Seek slot (position.Start n)) handle offset at may = refl
asks_none facts answers (call.Seek slot (position.End n)) handle offset at may = absurd may
asks_none facts answers (call.Seek slot (position.Current n)) handle offset at may = absurd may
asks_none facts answers (call.Read slot n) handle offset at may = tt
asks_none facts answers (call.WriteAll slot bytes) handle offset at may = tt
asks_none facts answers (call.Close slot) handle offset at may = tt
asks_none facts answers other handle offset at may = absurd may

-- a request that has its reply is the last where nothing is asked after it
unasked : (place : ℕ) (o : Option Reply) (go : Reply → Move) (r : Request) → ((x : Reply) → is_ask (go x) ≡ false)
    → once_answered place o go ≡ Ask r → ⊥
unasked place None go r never e = (let both : false ≡ true = ap is_ask e in cc)
unasked place (Some x) go r never e = (let both : false ≡ true = sym (never x) ∙ ap is_ask e in cc)

-- what ends by its reply asks nothing more
ends_by_test : (b : Bool) (x y : Move) → is_ask x ≡ false → is_ask y ≡ false → is_ask (if b then x else y) ≡ false
ends_by_test true x y e f = e
ends_by_test false x y e f = f

open_ends : (slot : ℕ) (options : OpenOptions) (site : Site) (p : ℕ) (x : Reply)
    → is_ask (opens slot (flags_of options) site p x) ≡ false
open_ends slot options site p (reply.Handle handle) = refl
open_ends slot options site p (reply.Status code message language) = refl
open_ends slot options site p other = refl

status_ends : (site : Site) (x : Reply) → is_ask (done_by site x) ≡ false
status_ends site (reply.Status code message language) = ends_by_test (code == SSH_FX_OK) (Done outcome.Done site) _ refl
    refl
status_ends site other = refl

read_ends : (slot : ℕ) (file : FileAt) (site : Site) (x : Reply) → is_ask (was_read slot file site x) ≡ false
read_ends slot file site (reply.Content bytes) = refl
read_ends slot file site (reply.Status code message language) =
    ends_by_test (code == SSH_FX_EOF) (Done outcome.End site) _ refl refl
read_ends slot file site other = refl

-- a READ that was asked
pub read_is : (file : FileAt) (len : ℕ) (site : Site) (answers : Answers) (r : Request)
    → ask_read file len site answers ≡ Ask r → r ≡ request.Read (handle_of (answers file.grant)) file.offset len
read_is file len site answers r e = by_tests (not file.readable) (overflows file.offset len) e
  where
    by_tests : (a b : Bool)
        → (if a then refuse_locally kind.NotReadable site else if b then refuse_locally kind.OffsetOverflow site else
        Ask (request.Read (handle_of (answers file.grant)) file.offset len)) ≡ Ask r
        → r ≡ request.Read (handle_of (answers file.grant)) file.offset len
    by_tests true b e = absurd (let both : false ≡ true = ap is_ask e in cc)
    by_tests false true e = absurd (let both : false ≡ true = ap is_ask e in cc)
    by_tests false false e = ap (asked_of r) (sym e)

-- ---- what is asked next

module _ (facts : Facts) (answers : Answers) (handle : List ℕ) (p : ℕ) (r : Request) where
  write_more : (file : FileAt) (bytes : List ℕ) (site : Site) (own : Own) → handle_of (answers file.grant) ≡ handle
      → rest_next (in_slot 0) file bytes site facts own answers ≡ Ask r
      → AreWrites facts answers handle file.offset bytes own → AreWrites facts answers handle file.offset bytes
      (own ++ (p, r) ∷ [])
  write_more file bytes site [] same e asked = let w = by_test (length bytes == 0) e in (w.0, w.1, tt, tt)
    where
      by_test : (b : Bool) → (if b then Done outcome.Done site else ask_write file (next_part facts bytes) site answers)
          ≡ Ask r
          → (r ≡ request.Write handle file.offset (next_part facts bytes)) × (b ≡ false)
      by_test true e = absurd (let both : false ≡ true = ap is_ask e in cc)
      by_test false e = (
        write_is file (next_part facts bytes) site answers r e
            ∙ ap (λ (h : List ℕ). request.Write h file.offset (next_part facts bytes)) same,
        refl,
      )
  write_more file bytes site (a ∷ later) same e asked =
      let went = by_reply (answers a.0) e in (
        asked.0,
        asked.1,
        after_ok (later ++ (p, r) ∷ []) (answers a.0) went.0,
        write_more (further file (part_len facts bytes)) (drop (part_len facts bytes) bytes)
            (in_slot 0 (further file (part_len facts bytes)) site) later same went.1 asked.3,
      )
    where
      after_ok : (xs : Own) (o : Option Reply) → IsOk o → AfterOk xs o
      after_ok [] o ok = tt
      after_ok (x ∷ xs) o ok = ok

      by_status : (code : ℕ) (x y : Move) → is_ask y ≡ false → (if code == SSH_FX_OK then x else y) ≡ Ask r
          → (code ≡ SSH_FX_OK) × (x ≡ Ask r)
      by_status code x y never e = elim (eqb_tells code SSH_FX_OK) [
        | inl t ↦ (t.1, rw t.0 at e)
        | inr t ↦ absurd (let other : y ≡ Ask r = rw t.0 at e in let both : false ≡ true = sym never ∙ ap is_ask other
            in cc)
      ]

      by_reply : (o : Option Reply) → once_answered a.0 o (λ x. on_status x site
          (rest_next (in_slot 0) (further file (part_len facts bytes)) (drop (part_len facts bytes) bytes)
          (in_slot 0 (further file (part_len facts bytes)) site) facts later answers)) ≡ Ask r
          → IsOk o × (rest_next (in_slot 0) (further file (part_len facts bytes)) (drop (part_len facts bytes) bytes)
          (in_slot 0 (further file (part_len facts bytes)) site) facts later answers ≡ Ask r)
      by_reply None e = absurd (let both : false ≡ true = ap is_ask e in cc)
      by_reply (Some (reply.Status code message language)) e = by_status code _ _ refl e
      by_reply (Some other) e = absurd (let both : false ≡ true = ap is_ask e in cc)

  -- a call asks what it may ask
  pub asks_more : (c : Call) (tree : FileTree) (site : Site) (at : FilesAt) (own : Own)
      → IsAt answers tree site handle at → MayCall at c
      → next c site facts own answers ≡ Ask r → AsksSo facts answers c handle (offset_in at.slot) own
      → AsksSo facts answers c handle (offset_in at.slot) (own ++ (p, r) ∷ [])
  asks_more (call.OpenFile slot options path) tree site at [] is may e asked = open_is (flags_of options) path site r e
  asks_more (call.OpenFile slot options path) tree site at (a ∷ []) is may e asked =
      absurd (unasked a.0 (answers a.0) (opens slot (flags_of options) site a.0) r (open_ends slot options site a.0) e)
  asks_more (call.OpenFile slot options path) tree site at (a ∷ b ∷ later) is may e asked = absurd asked
  asks_more (call.Seek slot (position.Start n)) tree site at own is may e asked =
      absurd (seek_ends at.slot may.1 is.slot_is (subst (λ (k : ℕ). next (call.Seek k (position.Start n)) site facts own
      answers ≡ Ask r) may.0 e))
    where
      seek_ends : (slot : Option OpenFilePlace) → IsStanding slot → HoldsSlot answers tree site handle slot
          → next (call.Seek 0 (position.Start n)) site facts own answers ≡ Ask r → ⊥
      seek_ends None stands holds e = stands
      seek_ends (Some s) stands holds e =
          let both : false ≡ true = ap is_ask (subst (λ (x : Site). next (call.Seek 0 (position.Start n)) x facts own
          answers ≡ Ask r) holds.site_is e) in cc
  asks_more (call.Seek slot (position.End n)) tree site at own is may e asked = absurd may
  asks_more (call.Seek slot (position.Current n)) tree site at own is may e asked = absurd may
  asks_more (call.Read slot n) tree site at own is may e asked =
      by_slot at.slot may.1 is.slot_is (subst (λ (k : ℕ). next (call.Read k n) site facts own answers ≡ Ask r) may.0 e)
      asked
    where
      by_slot : (slot : Option OpenFilePlace) → MayRead slot n → HoldsSlot answers tree site handle slot
          → next (call.Read 0 n) site facts own answers ≡ Ask r →
          IsOne (request.Read handle (offset_in slot) (min n facts.read_len)) own
          → IsOne (request.Read handle (offset_in slot) (min n facts.read_len)) (own ++ (p, r) ∷ [])
      by_slot None may holds e asked = absurd may
      by_slot (Some s) may holds e asked = by_own own (subst (λ (x : Site). next (call.Read 0 n) x facts own answers
          ≡ Ask r) holds.site_is e) asked
        where
          by_own : (own : Own) → next (call.Read 0 n) (site_with (file_at holds.grant s)) facts own answers ≡ Ask r
              → IsOne (request.Read handle s.offset (min n facts.read_len)) own
              → IsOne (request.Read handle s.offset (min n facts.read_len)) (own ++ (p, r) ∷ [])
          by_own [] e asked = by_test (n == 0) e
            where
              by_test : (b : Bool) → (if b then Done outcome.End (site_with (file_at holds.grant s)) else
                  ask_read (file_at holds.grant s) (min n facts.read_len) (site_with (file_at holds.grant s)) answers)
                  ≡ Ask r
                  → r ≡ request.Read handle s.offset (min n facts.read_len)
              by_test true e = absurd (let both : false ≡ true = ap is_ask e in cc)
              by_test false e = read_is (file_at holds.grant s) (min n facts.read_len)
                  (site_with (file_at holds.grant s)) answers r e
                  ∙ ap (λ (o : Option Reply). request.Read (handle_of o) s.offset (min n facts.read_len)) holds.came
          by_own (a ∷ []) e asked = absurd (unasked a.0 (answers a.0)
              (was_read 0 (file_at holds.grant s) (site_with (file_at holds.grant s))) r
              (read_ends 0 (file_at holds.grant s) (site_with (file_at holds.grant s))) e)
          by_own (a ∷ b ∷ later) e asked = absurd asked
  asks_more (call.WriteAll slot bytes) tree site at own is may e asked =
      by_slot at.slot may.1 is.slot_is (subst (λ (k : ℕ). next (call.WriteAll k bytes) site facts own answers ≡ Ask r)
      may.0 e) asked
    where
      by_slot : (slot : Option OpenFilePlace) → MayWrite slot bytes → HoldsSlot answers tree site handle slot
          → next (call.WriteAll 0 bytes) site facts own answers ≡ Ask r
          → AreWrites facts answers handle (offset_in slot) bytes own
          → AreWrites facts answers handle (offset_in slot) bytes (own ++ (p, r) ∷ [])
      by_slot None may holds e asked = absurd may
      by_slot (Some s) may holds e asked =
          write_more (file_at holds.grant s) bytes (site_with (file_at holds.grant s)) own (ap handle_of holds.came)
          (subst (λ (x : Site). next (call.WriteAll 0 bytes) x facts own answers ≡ Ask r) holds.site_is e) asked
  asks_more (call.Close slot) tree site at own is may e asked =
      by_slot at.slot may.1 is.slot_is (subst (λ (k : ℕ). next (call.Close k) site facts own answers ≡ Ask r) may.0 e)
      asked
    where
      by_slot : (slot : Option OpenFilePlace) → IsStanding slot → HoldsSlot answers tree site handle slot
          → next (call.Close 0) site facts own answers ≡ Ask r → IsOne (request.Close handle) own
          → IsOne (request.Close handle) (own ++ (p, r) ∷ [])
      by_slot None stands holds e asked = absurd stands
      by_slot (Some s) stands holds e asked = by_own own (subst
          (λ (x : Site). next (call.Close 0) x facts own answers ≡ Ask r) holds.site_is e) asked
        where
          by_own : (own : Own) → next (call.Close 0) (site_with (file_at holds.grant s)) facts own answers ≡ Ask r
              → IsOne (request.Close handle) own → IsOne (request.Close handle) (own ++ (p, r) ∷ [])
          by_own [] e asked = (let is : Ask (request.Close (handle_of (answers holds.grant))) ≡ Ask r = e in
              ap (asked_of r) (sym is) ∙ ap (λ (o : Option Reply). request.Close (handle_of o)) holds.came)
          by_own (a ∷ []) e asked = absurd (unasked a.0 (answers a.0) (done_by fresh_site) r (status_ends fresh_site) e)
          by_own (a ∷ b ∷ later) e asked = absurd asked
  asks_more other tree site at own is may e asked = absurd may

-- ---- more replies

ok_stays : (o q : Option Reply) → ((r : Reply) → o ≡ Some r → q ≡ Some r) → IsOk o → IsOk q
ok_stays None q f ok = absurd ok
ok_stays (Some r) q f ok = subst IsOk (sym (f r refl)) ok

after_stays : (xs : Own) (o q : Option Reply) → ((r : Reply) → o ≡ Some r → q ≡ Some r) → AfterOk xs o → AfterOk xs q
after_stays [] o q f ok = tt
after_stays (x ∷ xs) o q f ok = ok_stays o q f ok

writes_stay : (facts : Facts) (before now : Answers) (handle : List ℕ) (offset : ℕ) (bytes : List ℕ) (own : Own)
    → ExtendsAnswers before now
    → AreWrites facts before handle offset bytes own → AreWrites facts now handle offset bytes own
writes_stay facts before now handle offset bytes [] more asked = tt
writes_stay facts before now handle offset bytes (a ∷ later) more asked = (
  asked.0,
  asked.1,
  after_stays later (before a.0) (now a.0) (more a.0) asked.2,
  writes_stay facts before now handle (offset + part_len facts bytes) (drop (part_len facts bytes) bytes) later more
      asked.3,
)

pub asks_stay : (facts : Facts) (before now : Answers) (c : Call) (handle : List ℕ) (offset : ℕ) (own : Own)
    → ExtendsAnswers before now
    → AsksSo facts before c handle offset own → AsksSo facts now c handle offset own
asks_stay facts before now (call.OpenFile slot options path) handle offset own more asked = asked
asks_stay facts before now (call.Seek slot position) handle offset own more asked = asked
asks_stay facts before now (call.Read slot n) handle offset own more asked = asked
asks_stay facts before now (call.WriteAll slot bytes) handle offset own more asked =
    writes_stay facts before now handle offset bytes own more asked
asks_stay facts before now (call.Close slot) handle offset own more asked = asked
asks_stay facts before now other handle offset own more asked = absurd asked

slot_stays : (before now : Answers) (tree : FileTree) (site : Site) (handle : List ℕ) (slot : Option OpenFilePlace)
    → ExtendsAnswers before now
    → HoldsSlot before tree site handle slot → HoldsSlot now tree site handle slot
slot_stays before now tree site handle None more h = h
slot_stays before now tree site handle (Some s) more h = record {
  grant = h.grant;
  site_is = h.site_is;
  came = more h.grant (reply.Handle handle) h.came;
  open_is = h.open_is;
  name = h.name;
  named = h.named;
}

pub at_stays : (before now : Answers) (tree : FileTree) (site : Site) (handle : List ℕ) (at : FilesAt)
    → ExtendsAnswers before now
    → IsAt before tree site handle at → IsAt now tree site handle at
at_stays before now tree site handle at more h = record {
  tree_is = h.tree_is;
  slot_is =
      slot_stays before now tree site handle at.slot more h.slot_is;
}
