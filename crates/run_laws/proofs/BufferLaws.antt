-- A buffered write that is done asked WRITEs that carry all its bytes, and once a flush is done each was answered by a
-- STATUS 0.
use Rattle.std.proofs.Common.{
  ◌≡◌,
  ℕ,
  ◌+◌,
  ◌<◌,
  ◌==◌,
  Bool,
  true,
  false,
  not,
  List,
  [],
  ◌∷◌,
  ◌++◌,
  length,
  take,
  drop,
  Option,
  Some,
  None,
  if◌then◌else◌,
  refl,
  ap,
  sym,
  ◌∙◌,
  subst,
  arith,
  inl,
  inr,
}
use Rattle.std.specs.Prelude.{map, min}
use Rattle.std.proofs.lemmas.Bool.Decides.{eqb_tells}
use Rattle.std.proofs.lemmas.List.{append-nil, append_assoc, length-take, map-append, nil_from_length, take-append-drop}
use Rattle.sftp_model.specs.Numbers.{SSH_FX_OK}
use Rattle.sftp_model.specs.declared.config.ServerConfig.{ServerConfig}
use Rattle.sftp_model.specs.declared.error.IoKind.TheVariants as kind
use Rattle.sftp_model.specs.declared.outcome.Outcome.TheVariants as outcome
use Rattle.sftp_model.specs.declared.reply.Reply.{Reply}
use Rattle.sftp_model.specs.declared.reply.Reply.TheVariants as reply
use Rattle.sftp_model.specs.declared.request.Request.{Request}
use Rattle.sftp_model.specs.declared.request.Request.TheVariants as request
use Rattle.sftp_model.specs.declared.slot.Buffer.{Buffer}
use Rattle.sftp_model.specs.declared.slot.Facts.{Facts}
use Rattle.sftp_model.specs.declared.slot.FileAt.{FileAt}
use Rattle.sftp_model.specs.declared.slot.Move.{Move}
use Rattle.sftp_model.specs.declared.slot.Move.TheVariants.{Ask, Wait, Done}
use Rattle.sftp_model.specs.declared.slot.Site.{Site}
use Rattle.sftp_model.specs.declared.slot.Slot.{Slot}
use Rattle.sftp_model.specs.declared.slot.Slot.TheVariants.{Buffered}
use Rattle.sftp_model.specs.Slots.{grant_of, slot_at, with_slot}
use Rattle.machine_model.specs.Changes.{IsWellFormed}
use Rattle.machine_model.specs.FileTree.{FileTree, bytes_of, opened_at, written_at}
use Rattle.machine_model.specs.declared.opened.Held.{Held}
use Rattle.machine_model.specs.declared.opened.Opened.TheVariants as opened
use Rattle.plan_model.proofs.SlotLaws.{set_there}
use Rattle.plan_model.specs.BufferPlans.{
  after_write,
  ask_deferred,
  buf_flush_next,
  buf_write_all_next,
  buffered_rest,
  deferrable_len,
  flush_next,
  is_full,
  taken_out,
  with_capacity,
  with_deferred,
  written_slot,
}
use Rattle.plan_model.specs.declared.call.Call.TheVariants as call
use Rattle.plan_model.specs.Moves.{Answers, Own, further, handle_of, on_buffered, on_status, once_answered, refusal_move, refuse_locally}
use Rattle.plan_model.specs.OwnRequests.{ExtendsAnswers}
use Rattle.run_laws.specs.CallsAmong.{HasEnded, ToWrite}
use Rattle.run_laws.specs.DeferredWrites.{AreWrites, AreWritten, StandAlone, carried_bytes, content_in, places}
use Rattle.run_laws.specs.GrantUses.{WritesBy}
use Rattle.run_laws.specs.Steps.{Step, answer_to, after, AreServed}
use Rattle.run_laws.proofs.BufferStays.{AsksLike, FollowLike, StaysLike, asked_in_order_like, buf_write_all_like, follow_like_as, follow_like_still}
use Rattle.run_laws.proofs.DeferredLaws.{deferred_writes}
use Rattle.run_laws.proofs.MoveWords.{asked_of, is_all_done, is_ask, outcome_of, site_of}
use Rattle.run_laws.proofs.WholeWriteLaws.{write_is, write_not_done}

-- ---- deferred writes

-- their places
abbrev places_of : List (ℕ × ℕ) → List ℕ
places_of writes = map (λ write. write.0) writes

-- the move asks, or ends as done
abbrev is_good : Move → Bool
is_good (Ask r) = true
is_good (Wait place) = false
is_good (Done o site) = is_all_done o

-- a STATUS 0 was taken
record Taken (o : Option Reply) : Type 0 where
  message : List ℕ
  language : List ℕ
  is : o ≡ Some (reply.Status SSH_FX_OK message language)

taken : (place : ℕ) (o : Option Reply) (site : Site) (go : Move)
    → is_good (once_answered place o (λ r. on_status r site go)) ≡ true → Taken o
taken place None site go e = absurd cc
taken place (Some (reply.Status code message language)) site go e =
    elim (eqb_tells code 0) [
      | inl t ↦ record {
        message = message;
        language = language;
        is =
            ap (λ (w : ℕ). Some (reply.Status w message language)) t.1;
      }
      | inr t ↦ absurd (let both : is_good (refusal_move (reply.Status code message language) site) ≡ true =
          rw (t.0) at e in cc)
    ]
taken place (Some (reply.Version version extensions)) site go e = absurd cc
taken place (Some (reply.Handle handle)) site go e = absurd cc
taken place (Some (reply.Content content)) site go e = absurd cc
taken place (Some (reply.Names names)) site go e = absurd cc
taken place (Some (reply.Attrs attrs)) site go e = absurd cc
taken place (Some (reply.Extended content)) site go e = absurd cc

-- what the slot holds after a status was taken out, or none had to be
record Freed (slot : ℕ) (file : FileAt) (buffer : Buffer) (site : Site) (facts : Facts) (answers : Answers) : Type 0
  where
    freed : Buffer
    left : Site
    there : slot_at left slot ≡ Buffered file freed
    goes : (go : Buffer → Site → Move) → with_capacity slot file buffer site facts answers go ≡ go freed left
    written : (more : List ℕ) → AreWritten answers (places_of freed.deferred ++ more)
        → AreWritten answers (places_of buffer.deferred ++ more)

set_slot : (slot : ℕ) (site : Site) (file : FileAt) (buffer : Buffer) (x : Slot) → slot_at site slot
    ≡ Buffered file buffer → slot_at (with_slot site slot x) slot ≡ x
set_slot slot site file buffer x e = set_there site.slots slot file.grant x (ap grant_of e)

-- the deferred writes of a buffer
out_of : (slot : ℕ) (file : FileAt) (buffer : Buffer) (site : Site) (facts : Facts) (answers : Answers)
    (writes : List (ℕ × ℕ)) (go : Buffer → Site → Move) → slot_at site slot ≡ Buffered file buffer
    → is_full facts buffer ≡ true
    → buffer.deferred ≡ writes → is_good (taken_out slot file buffer site answers writes go) ≡ true
    → Freed slot file buffer site facts answers
out_of slot file buffer site facts answers [] go stands full is e =
    record {
      freed = buffer;
      left = site;
      there = stands;
      goes = λ f. rw full (ap (λ (w : List (ℕ × ℕ)). taken_out slot file buffer site answers w f) is);
      written = λ more w. w;
    }
out_of slot file buffer site facts answers (write ∷ writes) go stands full is e =
    let left : Site = with_deferred slot file buffer site writes in
    let freed : Buffer = record buffer { deferred = writes } in
    let was = taken write.0 (answers write.0) left (go freed left) e in
    record {
      freed = freed;
      left = left;
      there = set_slot slot site file buffer (Buffered file freed) stands;
      goes = λ f. rw full
          (ap (λ (w : List (ℕ × ℕ)). taken_out slot file buffer site answers w f) is
          ∙ ap (λ (w : Option Reply). once_answered write.0 w (λ r. on_status r left (f freed left))) was.is);
      written = λ more w. subst (λ (v : List (ℕ × ℕ)). AreWritten answers (places_of v ++ more)) (sym is)
          ((was.message, (was.language, was.is)), w);
    }

freed_on : (slot : ℕ) (file : FileAt) (buffer : Buffer) (site : Site) (facts : Facts) (answers : Answers)
    (go : Buffer → Site → Move) → slot_at site slot ≡ Buffered file buffer
    → is_good (with_capacity slot file buffer site facts answers go) ≡ true → Freed slot file buffer site facts answers
freed_on slot file buffer site facts answers go stands e = by_test (is_full facts buffer) refl e
  where
    by_test : (b : Bool) → is_full facts buffer ≡ b → is_good (if b then
        taken_out slot file buffer site answers buffer.deferred go else go buffer site) ≡ true
        → Freed slot file buffer site facts answers
    by_test true full e = out_of slot file buffer site facts answers buffer.deferred go stands full refl e
    by_test false full e = record {
      freed = buffer;
      left = site;
      there = stands;
      goes = λ f. rw full refl;
      written =
          λ more w. w;
    }

-- ---- a buffered write

-- the part that the next WRITE carries
abbrev part_of : Facts → List ℕ → Buffer → List ℕ
part_of facts bytes buffer = take (deferrable_len facts bytes buffer) bytes

part_length : (facts : Facts) (bytes : List ℕ) (buffer : Buffer) → length (part_of facts bytes buffer)
    ≡ deferrable_len facts bytes buffer
part_length facts bytes buffer = let l : length (part_of facts bytes buffer)
    ≡ min (deferrable_len facts bytes buffer) (length bytes) = length-take (deferrable_len facts bytes buffer) bytes in
    omega (arith, l)

-- the call asks its next part, or has none
record AsksPart (slot : ℕ) (bytes : List ℕ) (file : FileAt) (buffer : Buffer) (site : Site) (facts : Facts)
    (answers : Answers) (r : Request) : Type 0 where
  on : Freed slot file buffer site facts answers
  asks : r ≡ request.Write (handle_of (answers file.grant)) file.offset (part_of facts bytes on.freed)

asks_part : (slot : ℕ) (bytes : List ℕ) (file : FileAt) (buffer : Buffer) (site : Site) (facts : Facts)
    (answers : Answers) (r : Request) → slot_at site slot ≡ Buffered file buffer
    → buffered_rest slot bytes file buffer site facts [] answers ≡ Ask r
    → AsksPart slot bytes file buffer site facts answers r
asks_part slot bytes file buffer site facts answers r stands e = by_tests (length bytes == 0) (not file.writable) e
  where
    by_tests : (a b : Bool) → (if a then Done outcome.Done site else if b then refuse_locally kind.NotWritable site else
        with_capacity slot file buffer site facts answers (ask_deferred file bytes facts answers)) ≡ Ask r
        → AsksPart slot bytes file buffer site facts answers r
    by_tests true b e = absurd (let both : false ≡ true = ap is_ask e in cc)
    by_tests false true e = absurd (let both : false ≡ true = ap is_ask e in cc)
    by_tests false false e =
        (let on = freed_on slot file buffer site facts answers (ask_deferred file bytes facts answers) stands
        (ap is_good e) in
        record {
          on = on;
          asks = write_is file (part_of facts bytes on.freed) on.left answers r
              (sym (on.goes (ask_deferred file bytes facts answers)) ∙ e);
        })

none_left : (slot : ℕ) (bytes : List ℕ) (file : FileAt) (buffer : Buffer) (site end : Site) (facts : Facts)
    (answers : Answers) → slot_at site slot ≡ Buffered file buffer
    → buffered_rest slot bytes file buffer site facts [] answers ≡ Done outcome.Done end → (bytes ≡ []) × (end ≡ site)
none_left slot bytes file buffer site end facts answers stands e = elim (eqb_tells (length bytes) 0) [
  | inl t ↦ (
    nil_from_length bytes t.1,
    (let is : Done outcome.Done site ≡ Done outcome.Done end = rw (t.0) at e in
        ap (site_of end) (sym is)),
  )
  | inr t ↦ absurd (not_done (not file.writable) (rw (t.0) at e))
]
  where
    not_done : (b : Bool) → (if b then refuse_locally kind.NotWritable site else
        with_capacity slot file buffer site facts answers (ask_deferred file bytes facts answers))
        ≡ Done outcome.Done end → ⊥
    not_done true e = (let both : false ≡ true = ap (λ (w : Move). is_all_done (outcome_of w)) e in cc)
    not_done false e =
        (let on = freed_on slot file buffer site facts answers (ask_deferred file bytes facts answers) stands
        (ap is_good e) in
        write_not_done file (part_of facts bytes on.freed) on.left answers end
        (sym (on.goes (ask_deferred file bytes facts answers)) ∙ e))

-- a request that is asked but for its handle is the WRITE that the plan asks
record LikeWrite (offset : ℕ) (part : List ℕ) (r : Request) : Type 0 where
  handle : List ℕ
  is : r ≡ request.Write handle offset part

abbrev offset_in : Request → ℕ
offset_in (request.Write handle offset content) = offset
offset_in other = 0

like_asks : (r : Request) (x : Move) → AsksLike r x → (q : Request) × (x ≡ Ask q)
like_asks (request.Write handle offset content) x (other, e) = (request.Write other offset content, e)
like_asks (request.Close handle) x e = (request.Close handle, e)
like_asks other x e = (other, e)

like_write : (r : Request) (x : Move) (handle : List ℕ) (offset : ℕ) (part : List ℕ) → AsksLike r x → x
    ≡ Ask (request.Write handle offset part) → LikeWrite offset part r
like_write (request.Write mine at content) x handle offset part (other, e) is =
    let same : Ask (request.Write other at content) ≡ Ask (request.Write handle offset part) = sym e ∙ is in
    let written : request.Write other at content ≡ request.Write handle offset part =
    ap (asked_of (request.Write handle offset part)) same in
    record { handle = mine; is = ap (λ (w : Request). request.Write mine (offset_in w) (content_in w)) written }
like_write (request.Close mine) x handle offset part e is =
    record {
      handle = handle;
      is = (let same : Ask (request.Close mine) ≡ Ask (request.Write handle offset part) = sym e
          ∙ is in ap (asked_of (request.Write handle offset part)) same);
    }
like_write other x handle offset part e is =
    record {
      handle = handle;
      is = (let same : Ask other ≡ Ask (request.Write handle offset part) = sym e ∙ is in
          ap (asked_of (request.Write handle offset part)) same);
    }

-- each of these requests writes by the handle
abbrev pub WriteBy : List ℕ → Own → Type 0
WriteBy h [] = Unit {0}
WriteBy h (asked ∷ later) = WritesBy asked.1 h × WriteBy h later

-- what a call that is done asked and left
record IsWritten (slot : ℕ) (h : List ℕ) (answers : Answers) (own : Own) (deferred : List (ℕ × ℕ)) (offset : ℕ)
    (bytes : List ℕ) (end : Site) : Type 0 where
  file : FileAt
  buffer : Buffer
  there : slot_at end slot ≡ Buffered file buffer
  asks : AreWrites h offset own
  all : carried_bytes own ≡ bytes
  written : AreWritten answers (places_of buffer.deferred) → AreWritten answers (places_of deferred ++ places own)

buffer_writes : (slot : ℕ) (h : List ℕ) (facts : Facts) (answers : Answers) (own : Own) (bytes : List ℕ) (file : FileAt)
    (buffer : Buffer) (site end : Site) → slot_at site slot ≡ Buffered file buffer
    → FollowLike (λ later. buffered_rest slot bytes file buffer site facts later answers) own → WriteBy h own
    → buffered_rest slot bytes file buffer site facts own answers ≡ Done outcome.Done end
    → IsWritten slot h answers own buffer.deferred file.offset bytes end
buffer_writes slot h facts answers [] bytes file buffer site end stands follow bear e =
    let none = none_left slot bytes file buffer site end facts answers stands e in
    record {
      file = file;
      buffer = buffer;
      there = subst (λ (w : Site). slot_at w slot ≡ Buffered file buffer) (sym none.1) stands;
      asks = tt;
      all = sym none.0;
      written = λ w. subst (AreWritten answers) (sym (append-nil (places_of buffer.deferred))) w;
    }
buffer_writes slot h facts answers (asked ∷ later) bytes file buffer site end stands follow bear e =
    let q = like_asks asked.1 (buffered_rest slot bytes file buffer site facts [] answers) follow.0 in
    let first = asks_part slot bytes file buffer site facts answers q.0 stands q.1 in
    let on = first.on in
    let n : ℕ = deferrable_len facts bytes on.freed in
    let part : List ℕ = part_of facts bytes on.freed in
    let like = like_write asked.1 (buffered_rest slot bytes file buffer site facts [] answers)
    (handle_of (answers file.grant)) file.offset part follow.0 (q.1 ∙ ap (λ (w : Request). Ask w) first.asks) in
    let by_h : like.handle ≡ h = subst (λ (w : Request). WritesBy w h) like.is bear.0 in
    let is : asked.1 ≡ request.Write h file.offset part = like.is
    ∙ ap (λ (w : List ℕ). request.Write w file.offset part) by_h in
    let same : content_in asked.1 ≡ part = ap content_in is in
    let moved : FileAt = further file n in
    let buffer_now : Buffer = after_write on.freed asked.0 n in
    let site_now : Site = with_slot on.left slot (written_slot file on.freed asked.0 n) in
    let next : Own → Move = λ own. buffered_rest slot (drop n bytes) moved buffer_now site_now facts own answers in
    let more = buffer_writes slot h facts answers later (drop n bytes) moved buffer_now site_now end
    (set_slot slot on.left file on.freed (written_slot file on.freed asked.0 n) on.there)
    (follow_like_as (λ own. buffered_rest slot bytes file buffer site facts (asked ∷ own) answers) next later
    (λ own. on.goes _) follow.1) bear.1
    (sym (on.goes _) ∙ e) in
    let at : file.offset + n ≡ file.offset + length (content_in asked.1) = let l = part_length facts bytes on.freed in
    let m : length (content_in asked.1) ≡ length part = ap length same in omega (arith, l, m) in
    record {
      file = more.file;
      buffer = more.buffer;
      there = more.there;
      asks = (
        is ∙ ap (λ (w : List ℕ). request.Write h file.offset w) (sym same),
        subst (λ (k : ℕ). AreWrites h k later) at more.asks,
      );
      all = ap (λ (w : List ℕ). w ++ carried_bytes later) same ∙
          (ap (λ (w : List ℕ). part ++ w) more.all ∙ take-append-drop n bytes);
      written = λ w. on.written (asked.0 ∷ places later)
          (subst (AreWritten answers)
          (ap (λ (v : List ℕ). v ++ places later) (map-append (λ d. d.0) on.freed.deferred ((asked.0, n) ∷ []))
          ∙ append_assoc (places_of on.freed.deferred) (asked.0 ∷ []) (places later))
          (more.written w));
    }

-- ---- a flush that is done

flush_writes : (slot : ℕ) (file : FileAt) (buffer : Buffer) (site end : Site) (answers : Answers)
    (writes : List (ℕ × ℕ)) → flush_next slot file buffer site answers writes ≡ Done outcome.Done end
    → AreWritten answers (places_of writes)
flush_writes slot file buffer site end answers [] e = tt
flush_writes slot file buffer site end answers (write ∷ writes) e =
    let left : Site = with_deferred slot file buffer site writes in
    let was = taken write.0 (answers write.0) left (flush_next slot file buffer left answers writes) (ap is_good e) in (
      (was.message, (was.language, was.is)),
      flush_writes slot file buffer left end answers writes (sym
          (ap (λ (w : Option Reply). once_answered write.0 w (λ r. on_status r left
          (flush_next slot file buffer left answers writes))) was.is) ∙ e),
    )

flushed : (slot : ℕ) (file : FileAt) (buffer : Buffer) (site end : Site) (facts : Facts) (own : Own) (answers : Answers)
    → slot_at site slot ≡ Buffered file buffer
    → buf_flush_next slot site facts own answers ≡ Done outcome.Done end
    → AreWritten answers (places_of buffer.deferred)
flushed slot file buffer site end facts own answers stands e =
    by_test (not file.writable) (sym (ap (λ (w : Slot). on_buffered w site go) stands) ∙ e)
  where
    go : FileAt → Buffer → Move
    go f b = if not f.writable then refuse_locally kind.NotWritable site else
        flush_next slot f b site answers b.deferred

    by_test : (b : Bool) → (if b then refuse_locally kind.NotWritable site else
        flush_next slot file buffer site answers buffer.deferred) ≡ Done outcome.Done end
        → AreWritten answers (places_of buffer.deferred)
    by_test true e = absurd (let both : false ≡ true = ap (λ (w : Move). is_all_done (outcome_of w)) e in cc)
    by_test false e = flush_writes slot file buffer site end answers buffer.deferred e

written_now : (before now : Answers) (at : List ℕ) → ExtendsAnswers before now → AreWritten before at
    → AreWritten now at
written_now before now [] stays w = tt
written_now before now (place ∷ later) stays w = (
  (
    w.0.0,
    (
      w.0.1.0,
      stays place (reply.Status SSH_FX_OK w.0.0 w.0.1.0) w.0.1.1,
    ),
  ),
  written_now before now later stays w.1,
)

-- ---- the two calls

bear : (config : ServerConfig) (file : ℕ) (h : List ℕ) (steps : List Step) (own : Own) (tree : FileTree)
    → StandAlone config file h own tree steps → WriteBy h own
bear config file h [] [] tree stand = tt
bear config file h (s ∷ steps) [] tree stand = tt
bear config file h [] (asked ∷ later) tree stand = absurd stand
bear config file h (s ∷ steps) (asked ∷ later) tree (inl own) =
    (own.2, bear config file h steps later (answer_to config tree s).1 own.3)
bear config file h (s ∷ steps) (asked ∷ later) tree (inr other) =
    bear config file h steps (asked ∷ later) (answer_to config tree s).1 other.2

-- what a call asked that is done, and flushed
pub record AreFlushed (h : List ℕ) (offset : ℕ) (bytes : List ℕ) (answers : Answers) (own : Own) : Type 0 where
  pub asks : AreWrites h offset own
  pub all : carried_bytes own ≡ bytes
  pub said : AreWritten answers (places own)

-- A call writes bytes to a buffered file, by requests that write by a handle, and is done; a flush of what it left is
-- done. The requests carry the bytes, part after part, and each was answered by a STATUS 0.
pub flushed_asks : (answers : Answers) (slot : ℕ) (file : FileAt) (buffer : Buffer) (bytes : List ℕ)
    (site flush_site : Site) (facts flush_facts : Facts) (own flush_own : Own) (h : List ℕ) → WriteBy h own
    → slot_at site slot ≡ Buffered file buffer
    → (written : HasEnded (call.BufWriteAll slot bytes) site facts own answers outcome.Done) → slot_at flush_site slot
    ≡ slot_at written.left slot → HasEnded (call.BufFlush slot) flush_site flush_facts flush_own answers
    outcome.Done
    → AreFlushed h file.offset bytes answers own
flushed_asks answers slot file buffer bytes site flush_site facts flush_facts own flush_own h bears stands written same
    flush =
    let like = buf_write_all_like slot bytes site facts written.by answers written.stay in
    let follow_all : FollowLike (λ later. buf_write_all_next slot bytes site facts later answers) own =
    follow_like_still (λ later. buf_write_all_next slot bytes site facts later written.by)
    (λ later. buf_write_all_next slot bytes site facts later answers) own like
    (subst (FollowLike (λ later. buf_write_all_next slot bytes site facts later written.by)) written.are
    (asked_in_order_like (buf_write_all_next slot bytes site facts) written.requests written.by
    (buf_write_all_like slot bytes site facts) written.so_far.asked))
    in
    let on_slot : (later : Own) → buf_write_all_next slot bytes site facts later answers
    ≡ buffered_rest slot bytes file buffer site facts later answers =
    λ later. ap (λ (w : Slot). on_buffered w site (λ f b. buffered_rest slot bytes f b site facts later answers)) stands
    in
    let done : buf_write_all_next slot bytes site facts own answers ≡ Done outcome.Done written.left =
    still (buf_write_all_next slot bytes site facts own written.by) written.ends (like own) in
    let on_it : buffered_rest slot bytes file buffer site facts own answers ≡ Done outcome.Done written.left =
    sym (on_slot own) ∙ done in
    let w = buffer_writes slot h facts answers own bytes file buffer site written.left stands
    (follow_like_as (λ later. buf_write_all_next slot bytes site facts later answers)
    (λ later. buffered_rest slot bytes file buffer site facts later answers) own on_slot follow_all)
    bears on_it in
    let statuses : AreWritten flush.by (places_of w.buffer.deferred) =
    flushed slot w.file w.buffer flush_site flush.left flush_facts flush_own flush.by (same ∙ w.there) flush.ends in
    record {
      asks = w.asks;
      all = w.all;
      said = rest_of (places_of buffer.deferred)
          (w.written (written_now flush.by answers (places_of w.buffer.deferred) flush.stay statuses));
    }
  where
    still : (x : Move) → x ≡ Done outcome.Done written.left → StaysLike x
        (buf_write_all_next slot bytes site facts own answers) → buf_write_all_next slot bytes site facts own answers
        ≡ Done outcome.Done written.left
    still x e stays = (let at : StaysLike (Done outcome.Done written.left)
        (buf_write_all_next slot bytes site facts own answers) =
        subst (λ (v : Move). StaysLike v (buf_write_all_next slot bytes site facts own answers)) e stays in at refl)

    rest_of : (at : List ℕ) → AreWritten answers (at ++ places own) → AreWritten answers (places own)
    rest_of [] w = w
    rest_of (place ∷ at) w = rest_of at w.1

-- A call writes bytes, of which there are some, to a buffered file, and is done; a flush of what it left is done. Where
-- no other request changes the file from the first of its WRITEs to the last, the file holds after the last what it
-- held before the first, with the bytes at the offset; zeros fill a gap.
pub flushed_writes : (config : ServerConfig) (answers : Answers) (slot : ℕ) (file : FileAt) (buffer : Buffer)
    (bytes : List ℕ) (site flush_site : Site) (facts flush_facts : Facts) (own flush_own : Own) (h : List ℕ)
    (held : Held)
    (tree : FileTree) (steps : List Step) → IsWellFormed tree → opened_at tree h ≡ Some (opened.File held)
    → ToWrite held → AreServed config answers tree steps → StandAlone config held.file h own tree steps
    → 0 < length bytes → slot_at site slot ≡ Buffered file buffer
    → (written : HasEnded (call.BufWriteAll slot bytes) site facts own answers outcome.Done)
    → slot_at flush_site slot ≡ slot_at written.left slot
    → HasEnded (call.BufFlush slot) flush_site flush_facts flush_own answers outcome.Done
    → bytes_of (after config tree steps) held.file ≡ written_at (bytes_of tree held.file) file.offset bytes
flushed_writes config answers slot file buffer bytes site flush_site facts flush_facts own flush_own h held tree steps
    well_formed open_is way served stand some stands written same flush =
    let f = flushed_asks answers slot file buffer bytes site flush_site facts flush_facts own flush_own h
    (bear config held.file h steps own tree stand) stands written same flush in by_own own f.asks f.all f.said stand
  where
    by_own : (mine : Own) → AreWrites h file.offset mine → carried_bytes mine ≡ bytes → AreWritten answers (places mine)
        → StandAlone config held.file h mine tree steps
        → bytes_of (after config tree steps) held.file ≡ written_at (bytes_of tree held.file) file.offset bytes
    by_own [] asks all each stand = absurd (let l : 0 ≡ length bytes = ap length all in omega (arith, l, some))
    by_own (first ∷ later) asks all each stand = deferred_writes config answers h held file.offset steps first later
        tree well_formed open_is way served stand asks each ∙ ap (written_at (bytes_of tree held.file) file.offset) all
