-- What is handed out, and what is taken.
use Rattle.std.proofs.Common.{
  ◌≡◌,
  ◌≢◌,
  ◌<◌,
  ◌+◌,
  ℕ,
  zero,
  suc,
  Bool,
  true,
  false,
  List,
  [],
  ◌∷◌,
  ◌++◌,
  Option,
  Some,
  None,
  refl,
  ap,
  sym,
  ◌∙◌,
  subst,
  arith,
  if◌then◌else◌,
  inl,
  inr,
}
use Rattle.std.specs.Prelude.{◌⊎◌, Result, Ok, length, reverse, slice_get}
use Rattle.std.proofs.lemmas.Bool.Decides.{nat_tests}
use Rattle.sftp_model.specs.Answers.{allows_reply}
use Rattle.sftp_model.specs.declared.answers.Expected.{Expected}
use Rattle.sftp_model.specs.declared.frame_error.FrameError.{FrameError}
use Rattle.sftp_model.specs.declared.reply.Reply.{Reply}
use Rattle.sftp_model.specs.declared.reply.Reply.TheVariants as reply
use Rattle.sftp_model.specs.declared.request.Request.{Request}
use Rattle.sftp_model.specs.declared.request.Request.TheVariants as request
use Rattle.sftp_core.specs.Core.{Core, record_at, core_after_drop, handed_out}
use Rattle.sftp_core.specs.Table.{handle_in_reply}
use Rattle.sftp_core.specs.Take.{Read, TakenFrom, core_with_answer, take_leaves, take_refusal, taken_in, told_in, wrong_at, wrong_in}
use Rattle.sftp_core.specs.declared.errors.TakeError.{TakeError}
use Rattle.sftp_core.specs.declared.info.Info.{Info}
use Rattle.sftp_core.specs.declared.handshake.Handshake.{Handshake}
use Rattle.sftp_core.specs.declared.handshake.Handshake.TheVariants as phase
use Rattle.sftp_core.specs.declared.id_record.IdRecord.{IdRecord}
use Rattle.sftp_core.specs.declared.id_record.IdRecord.TheVariants.{Answered, Granted, Waiting}
use Rattle.sftp_core.specs.declared.tokens.Taken.{Taken}
use Rattle.sftp_core.specs.declared.tokens.Taken.TheVariants as taken_of
use Rattle.session_model.specs.declared.event.Owner.TheVariants as owner
use Rattle.session_model.specs.declared.event.Event.TheVariants.{Submit, Send, Take}
use Rattle.session_model.specs.declared.entry.Entry.{Entry}
use Rattle.session_model.specs.declared.entry.Entry.TheVariants as entry
use Rattle.sftp_model.specs.Frames.{frames_of}
use Rattle.session_model.specs.Readings.{count_submitted, count_sent, unsent_requests, unsent_bytes}
use Rattle.plan_model.specs.declared.call.Call.{Call}
use Rattle.session_model.specs.Calls.{Setting, calls_added_to, calls_of}
use Rattle.session_driver.proofs.Journals.{later_on, later_self}
use Rattle.session_laws.specs.Exchanges.{IsAwaited, TakesAndCloses}
use Rattle.session_laws.specs.Rest.{weigh}
use Rattle.session_laws.proofs.ExchangeLaws.{replies_keep, sends_keep, unwanted_closed}
use Rattle.session_work.specs.Working.{LanesValue, HandsIn, TakesIn, IsAtRestOpen, lane_in, lanes_left}
use Rattle.session_work.proofs.Counting.{unsent_count}
use Rattle.session_work.proofs.Entries.{pushed}
use Rattle.session_work.proofs.LeftLaws.{closes_later, closes_left, lanes_same}

-- ---- what is handed out

pub hands_nothing : (s : Setting) (c : LanesValue) → IsAtRestOpen s c → length c.core.queue ≡ 0 → HandsIn s c c None
hands_nothing s c w empty =
    let none : length (unsent_requests c.past) ≡ 0 = ap length (sym w.rest.between.tied.work.queue) ∙ empty in
    let all = unsent_count c.past in
    record {
      hands = (
        (let same : count_sent c.past ≡ count_submitted c.past = omega (arith, none, all) in
            grind (arith, nat_tests)),
        refl,
      );
      work = refl;
      working = w;
    }

-- what stands in the journal behind a Send
abbrev pub sent_in : LanesValue → Core → List Entry → LanesValue
sent_in c new now = record c { core = new; past = now }

hands_unsent : (s : Setting) (c : LanesValue) → IsAtRestOpen s c → length c.core.queue ≢ 0
    → HandsIn s c (sent_in c (handed_out c.core) (entry.Event Send ∷ c.past)) (Some (unsent_bytes c.past))
hands_unsent s c w some =
    let left : length (unsent_requests c.past) ≢ 0 = λ none. some (ap length w.rest.between.tied.work.queue ∙ none) in
    let all = unsent_count c.past in
    let fewer : count_sent c.past < count_submitted c.past = less (length (unsent_requests c.past)) (count_sent c.past)
    (count_submitted c.past) left all in
    let x = sends_keep s c.past c.core (lane_in c.states) c.begun w.rest fewer in
    let same = lanes_same c.facts (entry.Event Send ∷ c.past) c.past c.calls 0 (λ m. refl) (λ m k. refl) in
    let t = w.stands in
    record {
      hands = ((grind (arith, nat_tests)), refl, refl, x.rest.settled, x.next);
      work = (λ i. same i + x.work i);
      working = record {
        stands = record {
          calls = t.calls;
          ok = t.ok;
          facts = t.facts;
          fit = t.fit;
          asked = t.asked;
          count = t.count;
          lanes = t.lanes;
        };
        rest = x.rest;
      };
    }
  where
    less : (n a b : ℕ) → n ≢ 0 → n + a ≡ b → a < b
    less zero a b some sum = absurd (some refl)
    less (suc n) a b some sum = omega (arith, sum)

pub hands_all : (s : Setting) (c : LanesValue) (new : Core) (now : List Entry) (bytes : List ℕ) → IsAtRestOpen s c
    → length c.core.queue ≢ 0 → new ≡ handed_out c.core → now ≡ entry.Event Send ∷ c.past → bytes
    ≡ frames_of c.core.queue
    → HandsIn s c (sent_in c new now) (Some bytes)
hands_all s c new now bytes w some new_is now_is bytes_is =
    subst (λ (b : List ℕ). HandsIn s c (sent_in c new now) (Some b))
    (sym (bytes_is ∙ ap frames_of w.rest.between.tied.work.queue))
    (subst (λ (x : LanesValue). HandsIn s c x (Some (unsent_bytes c.past)))
    (λ i. sent_in c (sym new_is i) (sym now_is i)) (hands_unsent s c w some))

-- ---- what an open core answers

-- the body was the reply to this request
record Answering (read : Result Read FrameError) (id : ℕ) (r : Reply) (old new : Core) : Type 0 where
  pub reads : read ≡ Ok (Some id, r)
  pub right : wrong_at id r (record_at old id) ≡ None
  pub leaves : new ≡ take_leaves old id r (record_at old id)

abbrev IsAnswer : Result Read FrameError → Core → Core → Taken → Type 0
IsAnswer read old new (taken_of.Answer id r) = Answering read id r old new
IsAnswer read old new other = ⊥

answering : (read : Result Read FrameError) (told : Taken) (old new : Core) (info : Info) → old.phase ≡ phase.Open info
    → (k : Option ℕ) (r : Reply) → read ≡ Ok (k, r) → told ≡ told_in old.phase k r
    → new ≡ taken_in old old.phase k r → wrong_in old old.phase k r ≡ None → IsAnswer read old new told
answering read told old new info open_now None r is tells leaves right =
    absurd (let wrong : wrong_in old (phase.Open info) None r ≡ None =
    ap (λ (x : Handshake). wrong_in old x None r) (sym open_now) ∙ right in cc)
answering read told old new info open_now (Some id) r is tells leaves right =
    subst (IsAnswer read old new) (sym (tells ∙ ap (λ (x : Handshake). told_in x (Some id) r) open_now))
    (record {
      reads = is;
      right = ap (λ (x : Handshake). wrong_in old x (Some id) r) (sym open_now) ∙ right;
      leaves = leaves
          ∙ ap (λ (x : Handshake). taken_in old x (Some id) r) open_now;
    })

is_answer : (read : Result Read FrameError) (told : Taken) (old new : Core) (info : Info) → old.phase ≡ phase.Open info
    → TakenFrom read told old new → take_refusal old read ≡ None → IsAnswer read old new told
is_answer read told old new info open_now t right =
    answering read told old new info open_now t.reading.0 t.reading.1 t.reads t.tells t.leaves
    (ap (take_refusal old) (sym t.reads) ∙ right)

answer_is : (read : Result Read FrameError) (id : ℕ) (r : Reply) (s : Setting) (c : LanesValue) (new : Core)
    → IsAtRestOpen s c
    → TakenFrom read (taken_of.Answer id r) c.core new → take_refusal c.core read ≡ None
    → Answering read id r c.core new
answer_is read id r s c new w t right = is_answer read (taken_of.Answer id r) c.core new w.rest.between.tied.work.info
    w.rest.between.tied.work.phase t right

allowed_by : (b : Bool) (e : TakeError) → (if b then None else Some e) ≡ None → b ≡ true
allowed_by true e h = refl
allowed_by false e h = absurd cc

-- it is one that the core awaits
awaited_by : (old : Core) (id : ℕ) (r : Reply) → wrong_at id r (record_at old id) ≡ None → IsAwaited old id r
awaited_by old id r none = by_place (record_at old id) refl none
  where
    by_place : (p : Option IdRecord) → record_at old id ≡ p → wrong_at id r p ≡ None → IsAwaited old id r
    by_place (Some (Waiting kind true wanted)) is h = record {
      kind = kind;
      wanted = wanted;
      here = is;
      allowed =
          allowed_by (allows_reply kind r) _ h;
    }
    by_place (Some (Waiting kind false wanted)) is h = absurd cc
    by_place (Some (Answered kind other)) is h = absurd cc
    by_place (Some (Granted handle users)) is h = absurd cc
    by_place None is h = absurd cc

-- ---- what is taken

brings_handle : (r : Reply) (h : List ℕ) → handle_in_reply r ≡ Some h → r ≡ reply.Handle h
brings_handle (reply.Handle k) h e = cc
brings_handle (reply.Version version extensions) h e = absurd cc
brings_handle (reply.Status code message language) h e = absurd cc
brings_handle (reply.Content content) h e = absurd cc
brings_handle (reply.Names names) h e = absurd cc
brings_handle (reply.Attrs attrs) h e = absurd cc
brings_handle (reply.Extended content) h e = absurd cc

less_work : (before after now old : ℕ) → after ≡ before → now < old → after + now < before + old
less_work before after now old same lt = omega (arith, same, lt)

-- what stands in the journal behind a reply, with so many requests
abbrev taken_to : LanesValue → ℕ → Reply → List Entry → ℕ → LanesValue
taken_to c id r now n = record c { core = take_leaves c.core id r (record_at c.core id); past = now; asked = n }

-- the CLOSEs that are due behind a reply are of no lane's call
take_by : (s : Setting) (c : LanesValue) (id : ℕ) (r : Reply) (now : List Entry) (n : ℕ) → IsAtRestOpen s c
    → TakesAndCloses s c.past c.core (lane_in c.states) c.begun id r now → n ≡ count_submitted now
    → ((lane : ℕ) → calls_added_to now lane ≡ calls_added_to c.past lane)
    → TakesIn s (Ok (Some id, r)) c (taken_to c id r now n)
take_by s c id r now n w x counts same_added =
    let mid : List Entry = entry.Event (Take id r) ∷ c.past in
    let left = closes_left s c.facts mid now x.closes c.calls 0
    ∙ lanes_same c.facts mid c.past c.calls 0 (λ m. refl) (λ m k. refl) in
    let t = w.stands in
    record {
      takes = (id, (r, (refl, x.may, refl, (x.closes, x.rest.settled))));
      later = later_on s c.past mid now (inr (x.next, later_self s c.past)) (closes_later s mid now x.closes refl);
      working = record {
        stands = record {
          calls = λ lane. t.calls lane ∙ sym (ap
              (λ (more : List Call). calls_of (slice_get s.lanes lane) ++ more) (same_added lane));
          ok = t.ok;
          facts =
              t.facts;
          fit = t.fit;
          asked = counts;
          count = t.count;
          lanes = t.lanes;
        };
        rest = x.rest;
      };
      less = less_work (lanes_left c.facts c.past c.calls 0) (lanes_left c.facts now c.calls 0)
          (weigh (take_leaves c.core id r (record_at c.core id))) (weigh c.core) left x.work;
    }

take_kept : (s : Setting) (c : LanesValue) (id : ℕ) (r : Reply) → IsAtRestOpen s c → (x : IsAwaited c.core id r)
    → (x.wanted ≡ true) ⊎ (handle_in_reply r ≡ None) → TakesIn s (Ok (Some id, r)) c
    (taken_to c id r (entry.Event (Take id r) ∷ c.past) c.asked)
take_kept s c id r w x how =
    take_by s c id r (entry.Event (Take id r) ∷ c.past) c.asked w
    (replies_keep s c.past c.core (lane_in c.states) c.begun id r w.rest x how) w.stands.asked (λ lane. refl)

-- the reply, and the CLOSE of the handle that it brought
abbrev closed_to : List Entry → ℕ → Reply → List ℕ → List Entry
closed_to past id r handle = entry.Event (Submit owner.Close id (request.Close handle)) ∷ entry.Event (Take id r) ∷ past

take_dropped : (s : Setting) (c : LanesValue) (id : ℕ) (h : List ℕ) → IsAtRestOpen s c
    → (x : IsAwaited c.core id (reply.Handle h)) → x.wanted ≡ false
    → TakesIn s (Ok (Some id, reply.Handle h)) c (taken_to c id (reply.Handle h)
    (closed_to c.past id (reply.Handle h) h) (c.asked + 1))
take_dropped s c id h w x unwanted =
    take_by s c id (reply.Handle h) (closed_to c.past id (reply.Handle h) h) (c.asked + 1) w
    (unwanted_closed s c.past c.core (lane_in c.states) c.begun id h w.rest x unwanted)
    (ap (λ n. n + 1) w.stands.asked) (λ lane. refl)

-- a reply that is kept, or that brings no handle, queues nothing
kept_queue : (core : Core) (id : ℕ) (r : Reply) (kind : Expected) (wanted : Bool) → (wanted ≡ true)
    ⊎ (handle_in_reply r ≡ None)
    → (core_with_answer core id r kind wanted).queue ≡ core.queue
kept_queue core id r kind true how = refl
kept_queue core id r kind false (inl w) = absurd cc
kept_queue core id r kind false (inr none) = ap (λ (b : Option (List ℕ)). (core_after_drop core id b).queue) none

-- one more where a CLOSE was noted
abbrev pub counted_by : Bool → ℕ → ℕ
counted_by true n = n + 1
counted_by false n = n

-- what the journal notes of a reply: the reply, and the CLOSE that was queued
take_noted : (s : Setting) (c : LanesValue) (id : ℕ) (r : Reply) (before : ℕ) (old mid now : List Entry) (closed : Bool)
    → IsAtRestOpen s c → IsAwaited c.core id r → length c.core.queue ≡ before → c.past ≡ reverse old → mid ≡ old
    ++ entry.Event (Take id r) ∷ []
    → (length (take_leaves c.core id r (record_at c.core id)).queue ≡ before → (closed ≡ false) × (now ≡ mid))
    → ((queue : List (ℕ × Request)) (k : ℕ) (handle : List ℕ) → (take_leaves c.core id r (record_at c.core id)).queue
    ≡ queue
    ++ (k, request.Close handle) ∷ [] → length queue ≡ before
    → (closed ≡ true) × (now ≡ mid ++ entry.Event (Submit owner.Close k (request.Close handle)) ∷ []))
    → TakesIn s (Ok (Some id, r)) c (taken_to c id r (reverse now) (counted_by closed c.asked))
take_noted s c id r before old mid now closed w x count past_is mid_is none close = by_wanted x.wanted refl
  where
    To : List Entry → ℕ → Type 0
    To p n = TakesIn s (Ok (Some id, r)) c (taken_to c id r p n)

    entered : reverse mid ≡ entry.Event (Take id r) ∷ c.past
    entered = ap reverse mid_is ∙ pushed old (entry.Event (Take id r))
        ∙ ap (λ (w : List Entry). entry.Event (Take id r) ∷ w) (sym past_is)

    kept : (x.wanted ≡ true) ⊎ (handle_in_reply r ≡ None) → To (reverse now) (counted_by closed c.asked)
    kept how =
        let queue : (take_leaves c.core id r (record_at c.core id)).queue ≡ c.core.queue =
        ap (λ (p : Option IdRecord). (take_leaves c.core id r p).queue) x.here
        ∙ kept_queue c.core id r x.kind x.wanted how in
        let nothing = none (ap length queue ∙ count) in
        let same : reverse now ≡ entry.Event (Take id r) ∷ c.past = ap reverse nothing.1 ∙ entered in
        let no_more : counted_by closed c.asked ≡ c.asked = ap (λ (b : Bool). counted_by b c.asked) nothing.0 in
        subst (λ (p : List Entry). To p (counted_by closed c.asked)) (sym same)
        (subst (λ (n : ℕ). To (entry.Event (Take id r) ∷ c.past) n) (sym no_more) (take_kept s c id r w x how))

    as_handle : (y : Reply) (h : List ℕ) → y ≡ reply.Handle h → (z : IsAwaited c.core id y) → z.wanted ≡ false
        → TakesIn s (Ok (Some id, y)) c (taken_to c id y (closed_to c.past id y h) (c.asked + 1))
    as_handle (reply.Handle k) h is z unwanted =
        let same : h ≡ k = cc in
        subst (λ (x : List ℕ). TakesIn s (Ok (Some id, reply.Handle k)) c
        (taken_to c id (reply.Handle k) (closed_to c.past id (reply.Handle k) x) (c.asked + 1))) (sym same)
        (take_dropped s c id k w z unwanted)
    as_handle (reply.Version version extensions) h is z unwanted = absurd cc
    as_handle (reply.Status code message language) h is z unwanted = absurd cc
    as_handle (reply.Content content) h is z unwanted = absurd cc
    as_handle (reply.Names names) h is z unwanted = absurd cc
    as_handle (reply.Attrs attrs) h is z unwanted = absurd cc
    as_handle (reply.Extended content) h is z unwanted = absurd cc

    brought : (h : List ℕ) → x.wanted ≡ false → handle_in_reply r ≡ Some h
        → To (reverse now) (counted_by closed c.asked)
    brought h unwanted some =
        let queue : (take_leaves c.core id r (record_at c.core id)).queue ≡ c.core.queue ++ (id, request.Close h) ∷ [] =
        ap (λ (p : Option IdRecord). (take_leaves c.core id r p).queue) x.here
        ∙ ap (λ (b : Bool). (core_with_answer c.core id r x.kind b).queue) unwanted
        ∙ ap (λ (b : Option (List ℕ)). (core_after_drop c.core id b).queue) some in
        let closes : Entry = entry.Event (Submit owner.Close id (request.Close h)) in
        let one = close c.core.queue id h queue count in
        let same : reverse now ≡ closed_to c.past id r h = ap reverse one.1 ∙ pushed mid closes
        ∙ ap (λ (w : List Entry). closes ∷ w) entered in
        let one_more : counted_by closed c.asked ≡ c.asked + 1 = ap (λ (b : Bool). counted_by b c.asked) one.0 in
        subst (λ (p : List Entry). To p (counted_by closed c.asked)) (sym same)
        (subst (λ (n : ℕ). To (closed_to c.past id r h) n) (sym one_more)
        (as_handle r h (brings_handle r h some) x unwanted))

    by_brought : x.wanted ≡ false → (b : Option (List ℕ)) → handle_in_reply r ≡ b
        → To (reverse now) (counted_by closed c.asked)
    by_brought unwanted None is = kept (inr is)
    by_brought unwanted (Some h) is = brought h unwanted is

    by_wanted : (b : Bool) → x.wanted ≡ b → To (reverse now) (counted_by closed c.asked)
    by_wanted true is = kept (inl is)
    by_wanted false is = by_brought is (handle_in_reply r) refl

-- a body that an open core took
pub take_told : (s : Setting) (c : LanesValue) (read : Result Read FrameError) (id : ℕ) (r : Reply) (new : Core)
    (before : ℕ) (old mid now : List Entry) (closed : Bool) → IsAtRestOpen s c
    → TakenFrom read (taken_of.Answer id r) c.core new
    → take_refusal c.core read ≡ None → length c.core.queue ≡ before → c.past ≡ reverse old → mid ≡ old
    ++ entry.Event (Take id r) ∷ [] → (length new.queue ≡ before → (closed ≡ false) × (now ≡ mid))
    → ((queue : List (ℕ × Request)) (k : ℕ) (handle : List ℕ) → new.queue ≡ queue ++ (k, request.Close handle) ∷ []
    → length queue ≡ before → (closed ≡ true) × (now ≡ mid ++ entry.Event
    (Submit owner.Close k (request.Close handle)) ∷ []))
    → TakesIn s read c (record c { core = new; past = reverse now; asked = counted_by closed c.asked })
take_told s c read id r new before old mid now closed w told right count past_is mid_is none close =
    let a = answer_is read id r s c new w told right in
    subst (λ (x : Result Read FrameError). TakesIn s x c (record c
    { core = new; past = reverse now; asked = counted_by closed c.asked })) (sym a.reads)
    (subst (λ (x : Core). TakesIn s (Ok (Some id, r)) c (record c
    { core = x; past = reverse now; asked = counted_by closed c.asked })) (sym a.leaves)
    (take_noted s c id r before old mid now closed w (awaited_by c.core id r a.right) count past_is mid_is
    (λ same. none (ap (λ (x : Core). length x.queue) a.leaves ∙ same))
    (λ queue k handle is. close queue k handle (ap (λ (x : Core). x.queue) a.leaves ∙ is))))
