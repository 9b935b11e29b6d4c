-- The plan of a deferred write, by what the window holds.
use Rattle.std.proofs.Common.{
  ◌≡◌,
  ◌≤◌,
  ◌<◌,
  ◌+◌,
  ◌-◌,
  ◌^◌,
  ◌∙◌,
  refl,
  sym,
  ap,
  subst,
  arith,
  ℕ,
  Bool,
  true,
  false,
  List,
  [],
  ◌∷◌,
  ◌++◌,
  Option,
  Some,
  None,
  Result,
  Ok,
  Err,
  inr,
  length,
  take,
  drop,
  slice_get,
  if◌then◌else◌,
}
use Rattle.std.proofs.lemmas.List.{length-take-le}
use Rattle.std.specs.Prelude.{IfOk, IfErr, not, min, ◌==◌, ◌&&◌, is_some}
use Rattle.std.proofs.lemmas.Bool.Decides.{nat_tests}
use Rattle.sftp_model.specs.Numbers.{SSH_FX_OK}
use Rattle.sftp_model.specs.Pieces.{joined_pieces}
use Rattle.sftp_model.specs.declared.error.Error.{Error}
use Rattle.sftp_model.specs.declared.error.Error.TheVariants as error
use Rattle.sftp_model.specs.declared.error.IoKind.TheVariants as kind
use Rattle.sftp_model.specs.declared.outcome.Outcome.TheVariants as outcome
use Rattle.sftp_model.specs.declared.reply.Reply.{Reply}
use Rattle.sftp_model.specs.declared.reply.Reply.TheVariants as reply
use Rattle.sftp_model.specs.declared.request.Request.{Request}
use Rattle.sftp_model.specs.declared.request.Request.TheVariants as request
use Rattle.sftp_model.specs.declared.slot.Buffer.{Buffer}
use Rattle.sftp_model.specs.declared.slot.Facts.{Facts}
use Rattle.sftp_model.specs.declared.slot.FileAt.{FileAt}
use Rattle.sftp_model.specs.declared.slot.Move.{Move}
use Rattle.sftp_model.specs.declared.slot.Move.TheVariants.{Ask, Wait, Done}
use Rattle.sftp_model.specs.declared.slot.Site.{Site}
use Rattle.sftp_model.specs.declared.slot.Slot.TheVariants as slots
use Rattle.plan_model.specs.Moves.{
  Answers,
  Own,
  Plan,
  ask_write,
  handle_of,
  on_status,
  once_answered,
  overflows,
  refuse_locally,
}
use Rattle.plan_model.specs.BufferPlans.{
  ask_deferred,
  buf_write_next,
  deferrable_len,
  is_full,
  is_good,
  pending_bytes,
  send_next,
  taken_out,
  with_capacity,
}
use Rattle.sftp_core.specs.Core.{Core}
use Rattle.plan_state.specs.Asked.{SubmitsAsking}
use Rattle.plan_state.specs.Calls.{IsUnfinished}
use Rattle.plan_state.specs.declared.submission.Asking.{Asking}
use Rattle.plan_state.specs.declared.poll.Poll.TheVariants as poll
use Rattle.sftp_file.specs.Files.{FileValue, file_at}
use Rattle.sftp_buffered.proofs.Holding.{counted_less, freed_core_deferring, freed_deferring, freed_file, parts_of}
use Rattle.sftp_buffered.specs.declared.file.DeferredWrite.{DeferredWrite}
use Rattle.sftp_buffered.specs.Buffered.{
  AreTold,
  CompatValue,
  DefersWrites,
  IsCounted,
  buffer_of,
  lane_of,
  write_of,
  writes_of,
}
use Rattle.sftp_buffered.specs.Polls.{AsksAndEnds, PollsPlan, PlanWaits}
use Rattle.sftp_buffered.specs.Steps.{
  AreTakenAlone,
  IsLeft,
  WasRefused,
  after_written,
  with_deferred_write,
  with_oldest_settled,
  freed_core,
  must_wait,
  oldest_len,
  oldest_polled,
  oldest_reply,
  read_dropped,
  room_of,
  status_value,
  without_oldest,
}
use Rattle.sftp_buffered.proofs.Resting.{alone_freed, rest_at, rest_freed}
use Rattle.sftp_buffered.specs.Writes.{SendsWrites, SendsNoWrite}

-- ---- the plan before its request

pub writing_plan : (c : CompatValue) (facts : Facts) (bytes : List ℕ) (own : Own) (answers : Answers) → c.file.writable
    ≡ true → (length bytes == 0) ≡ false
    → buf_write_next 0 bytes (lane_of c) facts own answers ≡ with_capacity 0 (file_at c.file) (buffer_of c) (lane_of c)
    facts answers (send_next 0 (file_at c.file) bytes facts own answers)
writing_plan c facts bytes own answers may some =
    λ i. if not (may i) then refuse_locally kind.NotWritable (lane_of c) else if some i then
    Done (outcome.Count 0) (lane_of c)
    else with_capacity 0 (file_at c.file) (buffer_of c) (lane_of c) facts answers
    (send_next 0 (file_at c.file) bytes facts own answers)

and_right : (a b : Bool) → (a && b) ≡ true → b ≡ true
and_right true b e = e
and_right false b e = absurd cc

-- a window where the oldest status must make way is full, and has an oldest one
full_is : (c : CompatValue) (facts : Facts) → IsCounted c → must_wait facts c ≡ true → is_full facts (buffer_of c)
    ≡ true
full_is c facts counted full = ap (λ (n : ℕ). n == facts.write_limit) (sym counted.pending)
    ∙ and_right (is_some (slice_get c.deferred 0)) (c.pending == facts.write_limit) full

-- the oldest deferred write
pub record Oldest (c : CompatValue) : Type 0 where
  pub write : DeferredWrite
  pub is : c.deferred ≡ write ∷ drop 1 c.deferred

oldest_in : (ds : List DeferredWrite) (b : Bool) → (is_some (slice_get ds 0) && b) ≡ true → (d : DeferredWrite)
    × (ds ≡ d ∷ drop 1 ds)
oldest_in [] b e = absurd cc
oldest_in (d ∷ ds) b e = (d, refl)

pub has_oldest : (c : CompatValue) (facts : Facts) → must_wait facts c ≡ true → Oldest c
has_oldest c facts full = (let found = oldest_in c.deferred (c.pending == facts.write_limit) full in
    record { write = found.0; is = found.1 })

-- ---- a full window

full_plan : (c : CompatValue) (facts : Facts) (answers : Answers) (go : Buffer → Site → Move) (o : Oldest c)
    → is_full facts (buffer_of c) ≡ true
    → with_capacity 0 (file_at c.file) (buffer_of c) (lane_of c) facts answers go
    ≡ once_answered o.write.place (answers o.write.place) (λ r. on_status r (lane_of (without_oldest c))
    (go (buffer_of (without_oldest c)) (lane_of (without_oldest c))))
full_plan c facts answers go o full =
    (λ i. if full i then taken_out 0 (file_at c.file) (buffer_of c) (lane_of c) answers (writes_of (o.is i)) go else
    go (buffer_of c) (lane_of c))

pub oldest_told : (core : Core) (answers : Answers) (c : CompatValue) (o : Oldest c) → AreTold core answers c.deferred
    → answers o.write.place ≡ oldest_reply core c.deferred
oldest_told core answers c o told =
    (let t : AreTold core answers (o.write ∷ drop 1 c.deferred) =
    subst (λ (x : List DeferredWrite). AreTold core answers x) o.is told in
    t.0 ∙ ap (λ (x : List DeferredWrite). oldest_reply core x) (sym o.is))

-- the plan of a full window looks at the oldest status
pub full_looks : (c : CompatValue) (facts : Facts) (bytes : List ℕ) (own : Own) (answers : Answers) (core : Core)
    (o : Oldest c) → c.file.writable ≡ true → (length bytes == 0) ≡ false → IsCounted c
    → must_wait facts c ≡ true → AreTold core answers c.deferred
    → buf_write_next 0 bytes (lane_of c) facts own answers ≡ once_answered o.write.place (oldest_reply core c.deferred)
    (λ r. on_status r (lane_of (without_oldest c)) (send_next 0 (file_at c.file) bytes facts own answers
    (buffer_of (without_oldest c)) (lane_of (without_oldest c))))
full_looks c facts bytes own answers core o may some counted full told =
    writing_plan c facts bytes own answers may some ∙ (full_plan c facts answers
    (send_next 0 (file_at c.file) bytes facts own answers) o (full_is c facts counted full)
    ∙ (λ i. once_answered o.write.place (oldest_told core answers c o told i)
    (λ r. on_status r (lane_of (without_oldest c)) (send_next 0 (file_at c.file) bytes facts own answers
    (buffer_of (without_oldest c)) (lane_of (without_oldest c))))))

-- the oldest status wasn't taken
pub missing_waits : (r : Option Reply) (place : ℕ) (go : Reply → Move) → r ≡ None → once_answered place r go
    ≡ Wait place
missing_waits r place go none = (λ i. once_answered place (none i) go)

-- a good status lets the plan go on
pub good_goes : (r : Option Reply) (place : ℕ) (site : Site) (go : Move) → is_good r ≡ true
    → once_answered place r (λ x. on_status x site go) ≡ go
good_goes None place site go e = absurd cc
good_goes (Some (reply.Status code message language)) place site go e =
    (λ i. if e i then go else Done (outcome.Refused (error.SftpError code message language)) site)
good_goes (Some (reply.Handle handle)) place site go e = absurd cc
good_goes (Some (reply.Version version extensions)) place site go e = absurd cc
good_goes (Some (reply.Content content)) place site go e = absurd cc
good_goes (Some (reply.Names names)) place site go e = absurd cc
good_goes (Some (reply.Attrs attrs)) place site go e = absurd cc
good_goes (Some (reply.Extended content)) place site go e = absurd cc

-- a refusal ends it
refused_status : (code : ℕ) (message language : List ℕ) (site : Site) (go : Move) (e : Error) (b : Bool)
    → (◌≡◌ {A = Result (Unit {0}) Error} (if b then Ok tt else Err (error.SftpError code message language)) (Err e))
    → (if b then go else Done (outcome.Refused (error.SftpError code message language)) site)
    ≡ Done (outcome.Refused e) site
refused_status code message language site go e true is = absurd cc
refused_status code message language site go e false is =
    (let same : error.SftpError code message language ≡ e = cc in
    ap (λ (x : Error). Done (outcome.Refused x) site) same)

refused_other : (site : Site) (e : Error) → (◌≡◌ {A = Result (Unit {0}) Error} (Err (error.InvalidResponse None))
    (Err e))
    → Done (outcome.Refused (error.InvalidResponse None)) site ≡ Done (outcome.Refused e) site
refused_other site e is = (let same : error.InvalidResponse None ≡ e = cc in
    ap (λ (x : Error). Done (outcome.Refused x) site) same)

refused_goes : (r : Reply) (site : Site) (go : Move) (e : Error) → status_value r ≡ Err e → on_status r site go
    ≡ Done (outcome.Refused e) site
refused_goes (reply.Status code message language) site go e is =
    refused_status code message language site go e (code == SSH_FX_OK) is
refused_goes (reply.Handle handle) site go e is = refused_other site e is
refused_goes (reply.Version version extensions) site go e is = refused_other site e is
refused_goes (reply.Content content) site go e is = refused_other site e is
refused_goes (reply.Names names) site go e is = refused_other site e is
refused_goes (reply.Attrs attrs) site go e is = refused_other site e is
refused_goes (reply.Extended content) site go e is = refused_other site e is

pub bad_ends : (old new : Core) (p q : CompatValue) (place : ℕ) (go : Move) (e : Error) → WasRefused old new p q e
    → once_answered place (oldest_reply old p.deferred) (λ r. on_status r (lane_of (without_oldest p)) go)
    ≡ Done (outcome.Refused e) (lane_of q)
bad_ends old new p q place go e w =
    (λ i. once_answered place (w.came i) (λ r. on_status r (lane_of (without_oldest p)) go))
    ∙ (refused_goes w.reply (lane_of (without_oldest p)) go e w.refuses
    ∙ ap (λ (x : CompatValue). Done (outcome.Refused e) (lane_of x)) (sym w.left))

-- ---- a window with room

room_plan : (c : CompatValue) (facts : Facts) (answers : Answers) (go : Buffer → Site → Move) (ds : List DeferredWrite)
    → c.deferred ≡ ds → (is_some (slice_get ds 0) && is_full facts (buffer_of c)) ≡ false
    → with_capacity 0 (file_at c.file) (buffer_of c) (lane_of c) facts answers go ≡ go (buffer_of c) (lane_of c)
room_plan c facts answers go [] is room =
    (λ i. if is_full facts (buffer_of c) then taken_out 0 (file_at c.file) (buffer_of c) (lane_of c) answers
    (writes_of (is i)) go else go (buffer_of c) (lane_of c))
    ∙ either_way (is_full facts (buffer_of c)) (go (buffer_of c) (lane_of c))
  where
    either_way : (b : Bool) (m : Move) → (if b then m else m) ≡ m
    either_way true m = refl
    either_way false m = refl
room_plan c facts answers go (d ∷ ds) is room =
    (λ i. if room i then taken_out 0 (file_at c.file) (buffer_of c) (lane_of c) answers (writes_of c.deferred) go else
    go (buffer_of c) (lane_of c))

room_goes : (c : CompatValue) (facts : Facts) (bytes : List ℕ) (answers : Answers) → c.file.writable ≡ true
    → (length bytes == 0) ≡ false → IsCounted c → must_wait facts c ≡ false → (own : Own)
    → buf_write_next 0 bytes (lane_of c) facts own answers ≡ send_next 0 (file_at c.file) bytes facts own answers
    (buffer_of c) (lane_of c)
room_goes c facts bytes answers may some counted room own =
    writing_plan c facts bytes own answers may some ∙ room_plan c facts answers
    (send_next 0 (file_at c.file) bytes facts own answers) c.deferred refl
    (ap (λ (n : ℕ). is_some (slice_get c.deferred 0) && (n == facts.write_limit)) (sym counted.pending) ∙ room)

-- ---- the request

writes_last : (ds : List DeferredWrite) (d : DeferredWrite) → writes_of (ds ++ d ∷ []) ≡ writes_of ds ++ write_of d ∷ []
writes_last [] d = refl
writes_last (x ∷ ds) d = ap (λ (ws : List (ℕ × ℕ)). write_of x ∷ ws) (writes_last ds d)

-- the slot behind a deferred write
lane_behind : (c : CompatValue) (n ticket : ℕ) (facts : Facts) (bytes : List ℕ) (asked : Request) (answers : Answers)
    → deferrable_len facts bytes (buffer_of c) ≡ n
    → send_next 0 (file_at c.file) bytes facts ((c.place, asked) ∷ []) answers (buffer_of c) (lane_of c)
    ≡ Done (outcome.Count n) (lane_of (after_written (with_deferred_write c n ticket) n))
lane_behind c n ticket facts bytes asked answers is =
    let last : DeferredWrite = record { place = c.place; len = n; ticket = ticket } in
    let site : ℕ → List (ℕ × ℕ) → Site = λ k ws. record {
      slots = slots.Buffered (record (file_at c.file) { offset = c.file.offset + k })
          (record { len = c.buffer_len; bytes = drop k c.buffered; deferred = ws; reading = None }) ∷ [];
      directory = [];
    } in
    (λ i. Done (outcome.Count (is i)) (site (is i) (writes_of c.deferred ++ (c.place, is i) ∷ [])))
    ∙ ap (λ (ws : List (ℕ × ℕ)). Done (outcome.Count n) (site n ws)) (sym (writes_last c.deferred last))

len_is : (c : CompatValue) (facts : Facts) (bytes : List ℕ) → c.pending ≡ pending_bytes (writes_of c.deferred)
    → deferrable_len facts bytes (buffer_of c) ≡ min (length bytes) (room_of facts c)
len_is c facts bytes counted = (λ i. min (length bytes) (min facts.write_len (facts.write_limit - (sym counted) i)))

ask_is : (f : FileAt) (bytes : List ℕ) (facts : Facts) (answers : Answers) (b : Buffer) (site : Site) (n : ℕ)
    (h : List ℕ) (over : Bool) → f.writable ≡ true → deferrable_len facts bytes b ≡ n
    → overflows f.offset (length (take n bytes)) ≡ over
    → handle_of (answers f.grant) ≡ h → ask_deferred f bytes facts answers b site
    ≡ (if over then refuse_locally kind.OffsetOverflow site else Ask (request.Write h f.offset (take n bytes)))
ask_is f bytes facts answers b site n h over may len is brought =
    (λ i. ask_write f (take (len i) bytes) site answers)
    ∙ (λ i. if not (may i) then refuse_locally kind.NotWritable site else if is i then
    refuse_locally kind.OffsetOverflow site else
    Ask (request.Write (brought i) f.offset (take n bytes)))

-- ---- what a send makes of a poll

within_is : (offset n : ℕ) → offset + n < 2 ^ 64 → (k : ℕ) → k ≡ n → overflows offset k ≡ false
within_is offset n fits k same = grind (arith, nat_tests)

past_is : (offset n : ℕ) → 2 ^ 64 ≤ offset + n → (k : ℕ) → k ≡ n → overflows offset k ≡ true
past_is offset n past k same = grind (arith, nat_tests)

-- where the plan goes on with this buffered file, which the window has room for
pub record GoesAs (plan : Plan) (facts : Facts) (bytes : List ℕ) (answers : Answers) (c : CompatValue) : Type 0 where
  pub goes : (own : Own) → plan own answers ≡ send_next 0 (file_at c.file) bytes facts own answers (buffer_of c)
      (lane_of c)
  pub may : c.file.writable ≡ true
  pub counted : c.pending ≡ pending_bytes (writes_of c.deferred)
  pub brought : handle_of (answers 0) ≡ c.file.grant.handle

-- and these parts are what one WRITE of the bytes carries there
pub record IsPartOf (facts : Facts) (bytes : List ℕ) (c : CompatValue) (parts : List (List ℕ)) (n : ℕ) : Type 0 where
  pub len : n ≡ min (length bytes) (room_of facts c)
  pub first : joined_pieces parts ≡ take n bytes

short_is : (n room : ℕ) (bytes : List ℕ) → n ≡ min (length bytes) room → n ≤ length bytes
short_is n room bytes e = omega (arith, e)

-- what it asks
part_asks : (plan : Plan) (facts : Facts) (bytes : List ℕ) (answers : Answers) (c : CompatValue) (parts : List (List ℕ))
    (n : ℕ) (over : Bool) → GoesAs plan facts bytes answers c → IsPartOf facts bytes c parts n
    → overflows c.file.offset (length (take n bytes)) ≡ over
    → plan [] answers ≡ (if over then refuse_locally kind.OffsetOverflow (lane_of c) else
    Ask (request.Write c.file.grant.handle c.file.offset (joined_pieces parts)))
part_asks plan facts bytes answers c parts n over g h is =
    g.goes [] ∙ (ask_is (file_at c.file) bytes facts answers (buffer_of c) (lane_of c) n c.file.grant.handle over g.may
    (len_is c facts bytes g.counted ∙ sym h.len) is g.brought
    ∙ ap (λ (xs : List ℕ). if over then refuse_locally kind.OffsetOverflow (lane_of c) else
    Ask (request.Write c.file.grant.handle c.file.offset xs)) (sym h.first))

part_long : (facts : Facts) (bytes : List ℕ) (c : CompatValue) (parts : List (List ℕ)) (n : ℕ)
    → IsPartOf facts bytes c parts n → length (take n bytes) ≡ n
part_long facts bytes c parts n h = length-take-le n bytes (short_is n (room_of facts c) bytes h.len)

sent_asks : (Cut : Asking → Type 0) (plan : Plan) (facts : Facts) (bytes : List ℕ) (answers : Answers)
    (old middle between new : Core) (p c q : CompatValue)
    (parts : List (List ℕ)) (n ticket : ℕ) → GoesAs plan facts bytes answers c
    → IsPartOf facts bytes c parts n → c.file.offset + n < 2 ^ 64 → SubmitsAsking old (parts_of c parts) ticket middle
    → Cut (parts_of c parts) → AreTakenAlone middle between p c → q ≡ after_written (with_deferred_write c n ticket) n → new
    ≡ read_dropped between c.reading
    → AsksAndEnds plan (outcome.Count n) Cut answers old new p q
sent_asks Cut plan facts bytes answers old middle between new p c q parts n ticket g h fits submitted cut stays left
    core =
    let asked : Request = request.Write c.file.grant.handle c.file.offset (joined_pieces parts) in
    record {
      asking = parts_of c parts;
      cut = cut;
      ticket = ticket;
      middle = middle;
      asks = part_asks plan facts bytes answers c parts n false g h
          (within_is c.file.offset n fits (length (take n bytes)) (part_long facts bytes c parts n h));
      submitted = submitted;
      ends = ap (λ (k : ℕ). plan ((k, asked) ∷ []) answers) (sym (ap (λ (x : CompatValue). x.place) stays.same))
          ∙ (g.goes ((c.place, asked) ∷ []) ∙ (lane_behind c n ticket facts bytes asked answers
          (len_is c facts bytes g.counted ∙ sym h.len)
          ∙ ap (λ (x : CompatValue). Done (outcome.Count n) (lane_of x)) (sym left)));
      rest = c;
      between = between;
      stays = stays;
      len = n;
      left = left;
      core = core;
    }

-- in a full window
full_goes_as : (c : CompatValue) (facts : Facts) (bytes : List ℕ) (answers : Answers) (core : Core) → c.file.writable
    ≡ true → (length bytes == 0) ≡ false → IsCounted c → must_wait facts c ≡ true → DefersWrites core c answers
    → is_good (oldest_reply core c.deferred) ≡ true → GoesAs (buf_write_next 0 bytes (lane_of c) facts) facts bytes
    answers (without_oldest c)
full_goes_as c facts bytes answers core may some counted full d good =
    let o : Oldest c = has_oldest c facts full in
    record {
      goes = λ own. full_looks c facts bytes own answers core o may some counted full d.writes
          ∙ good_goes (oldest_reply core c.deferred) o.write.place (lane_of (without_oldest c))
          (send_next 0 (file_at c.file) bytes facts own answers (buffer_of (without_oldest c))
          (lane_of (without_oldest c))) good;
      may = may;
      counted = ap (λ (n : ℕ). n - oldest_len c.deferred) counted.pending ∙ counted_less c.deferred;
      brought = d.brought;
    }

-- and where there is room
room_goes_as : (c : CompatValue) (facts : Facts) (bytes : List ℕ) (answers : Answers) (core : Core) → c.file.writable
    ≡ true → (length bytes == 0) ≡ false → IsCounted c → must_wait facts c ≡ false → DefersWrites core c answers
    → GoesAs (buf_write_next 0 bytes (lane_of c) facts) facts bytes answers c
room_goes_as c facts bytes answers core may some counted room d =
    record {
      goes = room_goes c facts bytes answers may some counted room;
      may = may;
      counted = counted.pending;
      brought = d.brought;
    }

pub goes_as : (full : Bool) (c : CompatValue) (facts : Facts) (bytes : List ℕ) (answers : Answers) (core : Core)
    → c.file.writable ≡ true → (length bytes == 0) ≡ false → IsCounted c → full ≡ must_wait facts c
    → DefersWrites core c answers
    → (full ≡ true → is_good (oldest_reply core c.deferred) ≡ true)
    → GoesAs (buf_write_next 0 bytes (lane_of c) facts) facts bytes answers (with_oldest_settled full c)
goes_as true c facts bytes answers core may some counted is d good =
    full_goes_as c facts bytes answers core may some counted (sym is) d (good refl)
goes_as false c facts bytes answers core may some counted is d good =
    room_goes_as c facts bytes answers core may some counted (sym is) d

polls_sent : (Cut : Asking → Type 0) (full : Bool) (plan : Plan) (facts : Facts) (bytes : List ℕ) (answers : Answers)
    (old new : Core)
    (p q : CompatValue) (parts : List (List ℕ)) (n : ℕ) → GoesAs plan facts bytes answers (with_oldest_settled full p)
    → IsPartOf facts bytes (with_oldest_settled full p) parts n
    → (full ≡ true → is_good (oldest_reply old p.deferred) ≡ true)
    → Cut (parts_of p parts) → SendsWrites full parts old new p q n
    → AsksAndEnds plan (outcome.Count n) Cut answers old new p q
polls_sent Cut true plan facts bytes answers old new p q parts n g h good cut s =
    sent_asks Cut plan facts bytes answers old s.middle (oldest_polled s.middle p.deferred) new p (without_oldest p) q
    parts n s.ticket g h s.fits s.submitted cut
    (alone_freed true s.middle p) (s.left ∙ ap (λ (x : CompatValue). after_written x n)
    (freed_deferring true old p n s.ticket good))
    (s.core ∙ ap (λ (x : Core). read_dropped x p.reading) (freed_core_deferring true old s.middle p n s.ticket good))
polls_sent Cut false plan facts bytes answers old new p q parts n g h good cut s =
    sent_asks Cut plan facts bytes answers old s.middle s.middle new p p q parts n s.ticket g h s.fits s.submitted cut
    (alone_freed false s.middle p) s.left s.core

unfinished_ask : (plan : Plan) (answers : Answers) (asked : Request) → plan [] answers ≡ Ask asked
    → IsUnfinished (plan [] answers)
unfinished_ask plan answers asked e = subst IsUnfinished (sym e) tt

polls_unsent : (Cut : Asking → Type 0) (full : Bool) (plan : Plan) (facts : Facts) (bytes : List ℕ) (answers : Answers)
    (old new : Core)
    (p q : CompatValue) (parts : List (List ℕ)) (n : ℕ) (e : Error)
    → GoesAs plan facts bytes answers (with_oldest_settled full p)
    → IsPartOf facts bytes (with_oldest_settled full p) parts n → (with_oldest_settled full p).file ≡ p.file
    → SendsNoWrite full n old new p q e
    → PollsPlan {V = ℕ} (PlanWaits plan answers old (IsLeft old new p q)) (IsLeft old new p q) Cut plan
    (λ k. outcome.Count k) answers old new p q (poll.Ready (Err e))
polls_unsent Cut full plan facts bytes answers old new p q parts n error.OutOfMemory g h same u = u
polls_unsent Cut full plan facts bytes answers old new p q parts n (error.BackgroundTaskFailure fault) g h same u = (
  u.1,
  unfinished_ask plan answers _ (part_asks plan facts bytes answers (with_oldest_settled full p) parts n false g h
      (within_is (with_oldest_settled full p).file.offset n (subst (λ (f : FileValue). f.offset + n < 2 ^ 64) (sym same)
      u.0) _
      (part_long facts bytes (with_oldest_settled full p) parts n h))),
  u.2,
)
polls_unsent Cut full plan facts bytes answers old new p q parts n (error.IOError kind.OffsetOverflow) g h same u =
    record {
      ends = part_asks plan facts bytes answers (with_oldest_settled full p) parts n true g h
          (past_is (with_oldest_settled full p).file.offset n (subst (λ (f : FileValue). 2 ^ 64 ≤ f.offset + n)
          (sym same) u.0) _
          (part_long facts bytes (with_oldest_settled full p) parts n h))
          ∙ ap (λ (x : CompatValue). Done (outcome.Refused (error.IOError kind.OffsetOverflow)) (lane_of x)) (sym u.1);
      rest = rest_at old (freed_core full old p) new p (with_oldest_settled full p) q (rest_freed full old p) u.2 u.1;
    }
polls_unsent Cut full plan facts bytes answers old new p q parts n other g h same u = absurd u

pub polls_result : (Cut : Asking → Type 0) (full : Bool) (plan : Plan) (facts : Facts) (bytes : List ℕ)
    (answers : Answers) (old new : Core)
    (p q : CompatValue) (parts : List (List ℕ)) (n : ℕ) (result : Result ℕ Error)
    → GoesAs plan facts bytes answers (with_oldest_settled full p)
    → IsPartOf facts bytes (with_oldest_settled full p) parts n
    → (full ≡ true → is_good (oldest_reply old p.deferred) ≡ true)
    → Cut (parts_of p parts) → IfOk result (λ k. (k ≡ n) × SendsWrites full parts old new p q n)
    → IfErr result (SendsNoWrite full n old new p q)
    → PollsPlan {V = ℕ} (PlanWaits plan answers old (IsLeft old new p q)) (IsLeft old new p q) Cut plan
    (λ k. outcome.Count k) answers old new p q (poll.Ready result)
polls_result Cut full plan facts bytes answers old new p q parts n (Ok k) g h good cut ok err =
    inr (subst (λ (x : ℕ). AsksAndEnds plan (outcome.Count x) Cut answers old new p q) (sym ok.0)
    (polls_sent Cut full plan facts bytes answers old new p q parts n g h good cut ok.1))
polls_result Cut full plan facts bytes answers old new p q parts n (Err e) g h good cut ok err =
    polls_unsent Cut full plan facts bytes answers old new p q parts n e g h (freed_file full p) err
