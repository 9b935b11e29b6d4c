-- Each change of one record keeps what a core keeps true of its fields.
use Rattle.std.proofs.Common.{
  ◌≡◌,
  ℕ,
  ◌+◌,
  ◌≤◌,
  ◌<◌,
  Bool,
  true,
  false,
  cond,
  List,
  [],
  ◌∷◌,
  ◌++◌,
  length,
  refl,
  sym,
  ap,
  subst,
  ◌∙◌,
  arith,
  Option,
  Some,
  None,
  lit≤,
}
use Rattle.std.specs.List.{All}
use Rattle.std.proofs.lemmas.List.Elements.{All-append, All-cons, All-nil}
use Rattle.std.specs.Option.{option_map}
use Rattle.std.specs.Ordering.{nat_cmp, eq_by_cmp}
use Rattle.std.specs.Cmp.{nat_cmp_total}
use Rattle.std.specs.FinMap as fin
use Rattle.ssh_encoding.specs.Writing.{uint32, string}
use Rattle.sftp_model.specs.Answers.{expected_of}
use Rattle.sftp_model.specs.Frames.{request_body}
use Rattle.sftp_model.specs.declared.request.Request.{Request}
use Rattle.sftp_model.specs.declared.request.Request.TheVariants as request
use Rattle.sftp_core.specs.declared.handshake.Handshake.{Handshake}
use Rattle.sftp_core.specs.declared.handshake.Handshake.TheVariants.{Greeting, Asking, Open}
use Rattle.sftp_core.specs.declared.id_record.IdRecord.{IdRecord}
use Rattle.sftp_core.specs.declared.id_record.IdRecord.TheVariants.{Waiting, Answered, Granted}
use Rattle.sftp_core.specs.Info.{most_ids, hello_of, info_of, IsRanged}
use Rattle.sftp_core.specs.Core.{MayFree}
use Rattle.sftp_wire.specs.Body.{IsLengthWithin}
use Rattle.std.specs.Prelude.{IsSome, is_some}
use Rattle.sftp_core.specs.Frames.{IsShort}
use Rattle.sftp_core.specs.Table.{
  IdRecords,
  count,
  tally,
  is_waiting,
  is_sent,
  is_unsent,
  is_owing,
  all_sent,
  sent_record,
  IsAllowed,
  is_unsent_at,
  is_queued,
  marked_all,
}
use Rattle.sftp_core.proofs.Sent.{get_sent}
use Rattle.sftp_core.specs.Sound.{IsSound, hello_queued}
use Rattle.sftp_core.proofs.Tables.{count-insert_new, count-insert_old, count-remove}
use Rattle.sftp_core.proofs.Marks.{listed-insert, listed-remove, listed-sent, not_before, is_last, marks_all}
use Rattle.sftp_core.proofs.Counts.{len_more, len_same, len_less, len_sent, count_len, unsent_waiting, waiting_split, count_unsent_sent, count_owing_sent}

-- ---- allowed answers

pub allowed-insert : (t : IdRecords) (k : ℕ) (v : IdRecord) → ((id : ℕ) → IsAllowed (fin.get t id)) → IsAllowed (Some v)
    → (id : ℕ) → IsAllowed (fin.get (fin.insert t k v) id)
allowed-insert t k v all one id = subst IsAllowed (sym (fin.get-insert nat_cmp_total t k v id))
    (by_test (eq_by_cmp nat_cmp id k))
  where
    by_test : (b : Bool) → IsAllowed (cond b (Some v) (fin.get t id))
    by_test true = one
    by_test false = all id

pub allowed-remove : (t : IdRecords) (k : ℕ) → ((id : ℕ) → IsAllowed (fin.get t id)) → (id : ℕ)
    → IsAllowed (fin.get (fin.remove t k) id)
allowed-remove t k all id = subst IsAllowed (sym (fin.get-remove nat_cmp_total t k id))
    (by_test (eq_by_cmp nat_cmp id k))
  where
    by_test : (b : Bool) → IsAllowed (cond b None (fin.get t id))
    by_test true = tt
    by_test false = all id

pub allowed-sent : (t : IdRecords) → ((id : ℕ) → IsAllowed (fin.get t id)) → (id : ℕ)
    → IsAllowed (fin.get (all_sent t) id)
allowed-sent t all id = subst IsAllowed (sym (get_sent t id)) (each (fin.get t id) (all id))
  where
    each : (p : Option IdRecord) → IsAllowed p → IsAllowed (option_map sent_record p)
    each None h = tt
    each (Some (Waiting expected sent wanted)) h = tt
    each (Some (Answered expected r)) h = h
    each (Some (Granted handle users)) h = tt

-- ---- short frames

pub short-hello : (version id : ℕ) → IsShort (id, request.Init version)
unfolding request_body uint32
short-hello version id = lit≤ tt

pub short-limits : (id : ℕ) → IsShort (id, request.LimitsQuery)
unfolding request_body uint32 string
short-limits id = lit≤ tt

pub short-close : (handle : List ℕ) (id : ℕ) → length handle ≤ 256 → IsShort (id, request.Close handle)
unfolding request_body uint32 string
short-close handle id h = omega arith

pub short-last : (queue : List (ℕ × Request)) (one : ℕ × Request) → All IsShort queue → IsShort one
    → All IsShort (queue ++ one ∷ [])
short-last queue one all h = All-append IsShort queue (one ∷ []) all (All-cons IsShort one [] h (All-nil IsShort))

-- a request that was measured
pub short-measured : (len : Option ℕ) (asked copy : Request) (id : ℕ)
    → ((i : ℕ) → IsLengthWithin len (length (request_body asked i))) → is_some len ≡ true → copy ≡ asked
    → IsShort (id, copy)
short-measured (Some n) asked copy id measures some same = rw same (measures id).1
short-measured None asked copy id measures some same = absurd cc

-- ---- a phase

-- nothing is kept before the greeting
pub none_kept : (p : Handshake) (t : IdRecords) → fin.len t ≤ most_ids p → p ≡ Greeting → fin.len t ≡ 0
none_kept p t few is = let most : fin.len t ≤ 0 = rw is at few in omega (arith, most)

pub none_here : (p : Handshake) (t : IdRecords) → fin.len t ≤ most_ids p → p ≡ Greeting → (id : ℕ) → fin.get t id ≡ None
none_here p t few is id = rw (fin.empty_of_len t (none_kept p t few is), fin.get-empty nat_cmp id) refl

pub most_open : (p : Handshake) → IsSome (info_of p) → most_ids p ≡ 2147483648
most_open Greeting h = absurd cc
most_open (Asking extensions) h = refl
most_open (Open info) h = refl

-- ---- a change

-- another in the place of what stood there
pub sound-replace : (h : Bool) (p : Handshake) (qs qs' : List (ℕ × Request)) (q r q' r' : ℕ) (t : IdRecords) (id : ℕ)
    (v w : IdRecord) → IsSound h p qs q r t → Some w ≡ fin.get t id
    → q' + tally is_unsent w ≡ q + tally is_unsent v → q' + tally is_owing v ≤ q + tally is_owing w → r ≤ r'
    → All IsShort qs' → IsAllowed (Some v)
    → ((k : ℕ) → is_queued k qs' ≡ false → is_queued k qs ≡ false) → (is_queued id qs' ≡ false → is_unsent v ≡ false)
    → IsSound h p qs' q' r' (fin.insert t id v)
sound-replace h p qs qs' q r q' r' t id v w s some eq eo room short one less here =
    let x = count-insert_old is_unsent t id v w (sym some) in
    let z = count-insert_old is_owing t id v w (sym some) in
    let l = len_same t id v w (sym some) in
    let su = s.unsent in let so = s.reserved in
    record {
      unsent = omega (arith, x, su, eq);
      listed = listed-insert qs qs' t id v s.listed less here;
      reserved =
          omega (arith, z, so, eo, room);
      few = rw l s.few;
      allowed = allowed-insert t id v s.allowed one;
      short = short;
      range = s.range;
    }

-- of the same kinds
pub sound-same : (h : Bool) (p : Handshake) (qs : List (ℕ × Request)) (q r : ℕ) (t : IdRecords) (id : ℕ)
    (v w : IdRecord) → IsSound h p qs q r t → Some w ≡ fin.get t id
    → is_unsent v ≡ is_unsent w → is_owing v ≡ is_owing w → IsAllowed (Some v) → IsSound h p qs q r (fin.insert t id v)
sound-same h p qs q r t id v w s some eq eo one =
    sound-replace h p qs qs q r q r t id v w s some (ap (λ b. q + cond b 1 0) (sym eq)) (rw eo (omega arith))
    (omega arith) s.short one (λ k out. out)
    (λ out. eq ∙ ap is_unsent_at some ∙ s.listed id out)

-- nothing in the place of what is not queued
pub sound-gone : (h : Bool) (p : Handshake) (qs : List (ℕ × Request)) (q r : ℕ) (t : IdRecords) (id : ℕ) (w : IdRecord)
    → IsSound h p qs q r t → Some w ≡ fin.get t id → is_unsent w ≡ false → IsSound h p qs q r (fin.remove t id)
sound-gone h p qs q r t id w s some eq =
    let x = count-remove is_unsent t id w (sym some) in
    let z = count-remove is_owing t id w (sym some) in
    let l = len_less t id in
    let no : tally is_unsent w ≡ 0 = rw eq refl in
    let su = s.unsent in let so = s.reserved in let sf = s.few in
    record {
      unsent = omega (arith, x, su, no);
      listed = listed-remove qs t id s.listed;
      reserved =
          omega (arith, z, so);
      few = omega (arith, l, sf);
      allowed = allowed-remove t id s.allowed;
      short = s.short;
      range = s.range;
    }

pub sound-freed : (h : Bool) (p : Handshake) (qs : List (ℕ × Request)) (q r : ℕ) (t : IdRecords) (id : ℕ)
    → IsSound h p qs q r t → MayFree (fin.get t id) → IsSound h p qs q r (fin.remove t id)
sound-freed h p qs q r t id s may = by_place (fin.get t id) refl may
  where
    by_place : (o : Option IdRecord) → fin.get t id ≡ o → MayFree o → IsSound h p qs q r (fin.remove t id)
    by_place None is may = absurd may
    by_place (Some w) is free = sound-gone h p qs q r t id w s (sym is) free

-- there is room for a CLOSE that is owed
pub room_for_close : (h : Bool) (p : Handshake) (qs : List (ℕ × Request)) (q r : ℕ) (t : IdRecords) (id : ℕ)
    (w : IdRecord)
    → IsSound h p qs q r t → Some w ≡ fin.get t id → is_owing w ≡ true → q < r
room_for_close h p qs q r t id w s some owes =
    let z = count-remove is_owing t id w (sym some) in
    let one : tally is_owing w ≡ 1 = rw owes refl in
    let so = s.reserved in omega (arith, z, one, so)

-- it is queued in the place of what owed it
pub sound-close : (h : Bool) (p : Handshake) (qs qs' : List (ℕ × Request)) (q r q' r' : ℕ) (t : IdRecords) (id : ℕ)
    (handle : List ℕ) (wanted : Bool) (w : IdRecord) → IsSound h p qs q r t → Some w ≡ fin.get t id
    → is_owing w ≡ true → is_unsent w ≡ false → length handle ≤ 256 → qs' ≡ qs ++ (id, request.Close handle) ∷ [] → q'
    ≡ q + 1 → r ≤ r' → IsSound h p qs' q' r' (fin.insert t id
    (Waiting (expected_of (request.Close handle)) false wanted))
sound-close h p qs qs' q r q' r' t id handle wanted w s some owes unsent small is eq room =
    sound-replace h p qs qs' q r q' r' t id (Waiting (expected_of (request.Close handle)) false wanted) w s some
    (rw unsent (omega (arith, eq))) (rw owes (omega (arith, eq))) room
    (rw is (short-last qs (id, request.Close handle) s.short (short-close handle id small))) tt
    (λ k out. not_before k id (request.Close handle) qs qs' is out)
    (λ out. is_last id (request.Close handle) qs qs' is out)

-- a new request stands last in the queue
pub sound-last : (h : Bool) (p p' : Handshake) (qs qs' : List (ℕ × Request)) (q r q' r' : ℕ) (t t' : IdRecords) (id : ℕ)
    (asked : Request) (wanted : Bool) → IsSound h p qs q r t → fin.get t id ≡ None
    → fin.len t < most_ids p' → IsRanged p' → IsShort (id, asked) → qs' ≡ qs ++ (id, asked) ∷ [] → q' ≡ q + 1 → t'
    ≡ fin.insert t id (Waiting (expected_of asked) false wanted)
    → q' + count is_owing t' ≤ r' → IsSound h p' qs' q' r' t'
sound-last h p p' qs qs' q r q' r' t t' id asked wanted s none few range one is eq put room =
    let v : IdRecord = Waiting (expected_of asked) false wanted in
    let u = count-insert_new is_unsent t id v none in
    let l = len_more t id v in
    let su = s.unsent in
    record {
      unsent = rw put (omega (arith, u, su, eq));
      listed = rw put (listed-insert qs qs' t id v s.listed (λ k out. not_before k id asked qs qs' is out)
          (λ out. is_last id asked qs qs' is out));
      reserved = room;
      few = rw put (omega (arith, l, few));
      allowed = rw put (allowed-insert t id v s.allowed tt);
      short = rw is (short-last qs (id, asked) s.short one);
      range = range;
    }

-- more room, and a later phase
pub sound-later : (h : Bool) (p p' : Handshake) (qs : List (ℕ × Request)) (q r r' : ℕ) (t : IdRecords)
    → IsSound h p qs q r t
    → most_ids p ≤ most_ids p' → IsRanged p' → r ≤ r' → IsSound h p' qs q r' t
sound-later h p p' qs q r r' t s most range room =
    let so = s.reserved in let sf = s.few in
    record {
      unsent = s.unsent;
      listed = s.listed;
      reserved = omega (arith, so, room);
      few = omega (arith, sf, most);
      allowed = s.allowed;
      short = s.short;
      range = range;
    }

-- the queue is emptied and keeps its room
pub sound-sent : (h : Bool) (p : Handshake) (qs qs' : List (ℕ × Request)) (q r q' r' : ℕ) (t t' : IdRecords)
    → IsSound h p qs q r t → qs' ≡ [] → q' ≡ 0 → r' ≡ r → t' ≡ marked_all t qs → IsSound true p qs' q' r' t'
sound-sent h p qs qs' q r q' r' t t' s is none room marks =
    let sent : t' ≡ all_sent t = marks ∙ marks_all qs t s.listed in
    let x = count_unsent_sent t in
    let z = count_owing_sent t in
    let l = len_sent t in
    let sf = s.few in let so = s.reserved in
    record {
      unsent = rw (none, sent, x) refl;
      listed = rw sent (listed-sent qs' t);
      reserved = rw (none, sent, room) (omega (arith, z, so));
      few = rw (sent, l) sf;
      allowed = rw sent (allowed-sent t s.allowed);
      short = rw is (All-nil IsShort);
      range = s.range;
    }

-- the hello alone
pub sound-fresh : (qs : List (ℕ × Request)) (q r : ℕ) (t : IdRecords) → t ≡ fin.empty → qs ≡ (0, request.Init 3) ∷ []
    → q
    ≡ 1 → 1 ≤ r → IsSound false Greeting qs q r t
sound-fresh qs q r t e is one room =
    let l : fin.len t ≡ 0 = ap fin.len e ∙ fin.len-empty nat_cmp IdRecord in
    let x = count_len is_unsent t in let y = count_len is_owing t in
    record {
      unsent = omega (arith, x, l, one);
      listed = λ id out. rw (e, fin.get-empty nat_cmp id) refl;
      reserved = omega (arith, y, l, one, room);
      few = omega (arith, l);
      allowed = λ id. rw (e, fin.get-empty nat_cmp id) tt;
      short = rw is (short-last [] (0, request.Init 3) (All-nil IsShort) (short-hello 3 0));
      range = tt;
    }

-- the numbers that are told fit
pub record AreFew (h : Bool) (queued : ℕ) (table : IdRecords) : Type 0 where
  pub queue : queued ≤ count is_waiting table + hello_queued h
  pub small : queued ≤ 2147483649
  pub sent : count is_waiting table + hello_queued h ≡ count is_sent table + queued
  pub waiting : count is_waiting table ≤ 2147483648
  pub owing : count is_owing table ≤ 2147483648
  pub all : fin.len table ≤ 2147483648

most_few : (p : Handshake) → most_ids p ≤ 2147483648
most_few p = elim p as (λ x. most_ids x ≤ 2147483648) [
  | Greeting ↦ lit≤ tt
  | Asking extensions ↦ lit≤ tt
  | Open info ↦
      lit≤ tt
]

queued_small : (h : Bool) → hello_queued h ≤ 1
queued_small true = lit≤ tt
queued_small false = lit≤ tt

-- the hello counts once
pub hello_small : (p : Handshake) → hello_of p ≤ 1
hello_small p = elim p as (λ x. hello_of x ≤ 1) [
  | Greeting ↦ lit≤ tt
  | Asking extensions ↦ lit≤ tt
  | Open info ↦
      lit≤ tt
]

pub few : (h : Bool) (p : Handshake) (qs : List (ℕ × Request)) (q r : ℕ) (t : IdRecords) → IsSound h p qs q r t
    → AreFew h q t
few h p qs q r t s =
    let x = unsent_waiting t in let w = waiting_split t in let y = count_len is_waiting t in let z =
    count_len is_owing t in
    let m = most_few p in let one = queued_small h in
    let su = s.unsent in let sf = s.few in
    record {
      queue = omega (arith, x, su);
      small = omega (arith, x, su, y, sf, m, one);
      sent = omega (arith, w, su);
      waiting = omega (arith, y, sf, m);
      owing = omega (arith, z, sf, m);
      all = omega (arith, sf, m);
    }
