-- What others leave of a buffered file, and the replies that its core has for it.
use Rattle.std.proofs.Common.{◌≡◌, ◌<◌, ◌+◌, ◌∙◌, refl, sym, ap, arith, ℕ, true, false, List, [], ◌∷◌, Option, Some, None, ◌==◌, if◌then◌else◌}
use Rattle.std.proofs.lemmas.Bool.Decides.{nat_tests}
use Rattle.sftp_model.specs.declared.answers.Expected.{Expected}
use Rattle.sftp_model.specs.declared.answers.Expected.TheVariants as expected
use Rattle.sftp_model.specs.declared.reply.Reply.TheVariants as reply
use Rattle.plan_model.specs.Moves.{Answers, handle_of}
use Rattle.sftp_core.specs.Core.{Core, IsGrant, core_after_abandon, after_poll, record_at, core_after_release, reply_in, core_after_retain}
use Rattle.sftp_core.specs.Grant.{GrantValue}
use Rattle.plan_state.specs.Asked.{HoldsTicket}
use Rattle.plan_state.specs.Keeping.{KeepsHeld}
use Rattle.plan_state.proofs.OthersKept.{cancelled_on, polled_on, released_holds, retained_holds}
use Rattle.sftp_buffered.specs.declared.file.DeferredWrite.{DeferredWrite}
use Rattle.sftp_buffered.specs.declared.file.ReadUnderWay.{ReadUnderWay}
use Rattle.sftp_buffered.specs.Buffered.{
  AreApart,
  AreElsewhere,
  AreHeld,
  AreWritesApart,
  ShareNoTicket,
  AreRising,
  AreTold,
  CompatValue,
  DefersWrites,
  IsApart,
  IsHeldRead,
  IsReadApart,
  IsOther,
  IsPlaced,
  IsSound,
  IsTold,
  LeavesOthers,
}

-- ---- what others leave

-- a fact of each ticket
abbrev pub Each : (ℕ → Type 0) → List DeferredWrite → Type 0
Each P [] = Unit {0}
Each P (d ∷ ds) = P d.ticket × Each P ds

abbrev pub EachRead : (ℕ → Type 0) → Option ReadUnderWay → Type 0
EachRead P None = Unit {0}
EachRead P (Some r) = P r.ticket

-- each ticket that is held stays so, of those that pass
held_of : (P : ℕ → Type 0) (old new : Core) (ds : List DeferredWrite)
    → ((ticket : ℕ) (kind : Expected) → P ticket → HoldsTicket old ticket kind → HoldsTicket new ticket kind)
    → Each P ds → AreHeld old ds → AreHeld new ds
held_of P old new [] keeps own held = tt
held_of P old new (d ∷ ds) keeps own held = (
  keeps d.ticket expected.Status own.0 held.0,
  held.1,
  held_of P old new ds keeps own.1 held.2,
)

read_of : (P : ℕ → Type 0) (old new : Core) (r : Option ReadUnderWay)
    → ((ticket : ℕ) (kind : Expected) → P ticket → HoldsTicket old ticket kind → HoldsTicket new ticket kind)
    → EachRead P r → IsHeldRead old r → IsHeldRead new r
read_of P old new None keeps own held = tt
read_of P old new (Some r) keeps own held = keeps r.ticket (expected.Content r.len) own held

sound_of : (P : ℕ → Type 0) (old new : Core) (c : CompatValue)
    → ((ticket : ℕ) (kind : Expected) → P ticket → HoldsTicket old ticket kind → HoldsTicket new ticket kind)
    → Each P c.deferred → EachRead P c.reading → IsSound old c → IsSound new c
sound_of P old new c keeps writes read s =
    record {
      held = record {
        writes = held_of P old new c.deferred keeps writes s.held.writes;
        read =
            read_of P old new c.reading keeps read s.held.read;
      };
      counted = s.counted;
    }

all_pass : (ds : List DeferredWrite) → Each (λ ticket. Unit {0}) ds
all_pass [] = tt
all_pass (d ∷ ds) = (tt, all_pass ds)

read_passes : (r : Option ReadUnderWay) → EachRead (λ ticket. Unit {0}) r
read_passes None = tt
read_passes (Some r) = tt

pub kept_sound : (old new : Core) (c : CompatValue) → KeepsHeld old new → IsSound old c → IsSound new c
kept_sound old new c k s = sound_of (λ ticket. Unit {0}) old new c (λ ticket kind own h. k.holds ticket kind h)
    (all_pass c.deferred) (read_passes c.reading) s

pub released_sound : (core : Core) (grant : GrantValue) (c : CompatValue) → IsGrant core grant → IsSound core c
    → IsSound (core_after_release core grant) c
released_sound core grant c g s =
    sound_of (λ ticket. Unit {0}) core (core_after_release core grant) c
    (λ ticket kind own h. released_holds core grant ticket kind g h) (all_pass c.deferred) (read_passes c.reading) s

pub retained_sound : (core : Core) (grant : GrantValue) (c : CompatValue) → IsGrant core grant → IsSound core c
    → IsSound (core_after_retain core grant) c
retained_sound core grant c g s =
    sound_of (λ ticket. Unit {0}) core (core_after_retain core grant) c
    (λ ticket kind own h. retained_holds core grant ticket kind g h) (all_pass c.deferred) (read_passes c.reading) s

-- a ticket that is none of the file's
none_of : (t : ℕ) (ds : List DeferredWrite) → AreApart t ds → Each (λ ticket. ticket ≡ t → ⊥) ds
none_of t [] apart = tt
none_of t (d ∷ ds) apart = (λ same. apart.0 (sym same), none_of t ds apart.1)

not_read : (t : ℕ) (r : Option ReadUnderWay) → IsOther t r → EachRead (λ ticket. ticket ≡ t → ⊥) r
not_read t None other = tt
not_read t (Some r) other = λ same. other (sym same)

pub polled_sound : (core : Core) (ticket : ℕ) (c : CompatValue) → IsApart ticket c → IsSound core c
    → IsSound (after_poll core ticket) c
polled_sound core ticket c apart s =
    sound_of (λ other. other ≡ ticket → ⊥) core (after_poll core ticket) c
    (λ other kind own h. polled_on core ticket other kind own h) (none_of ticket c.deferred apart.writes)
    (not_read ticket c.reading apart.read) s

pub cancelled_sound : (core : Core) (ticket : ℕ) (c : CompatValue) → IsApart ticket c → IsSound core c
    → IsSound (core_after_abandon core ticket) c
cancelled_sound core ticket c apart s =
    sound_of (λ other. other ≡ ticket → ⊥) core (core_after_abandon core ticket) c
    (λ other kind own h. cancelled_on core ticket other kind own h) (none_of ticket c.deferred apart.writes)
    (not_read ticket c.reading apart.read) s

-- a request of another file
each_none : (ds : List DeferredWrite) (other : CompatValue) → AreWritesApart ds other
    → Each (λ ticket. IsApart ticket other) ds
each_none [] other none = tt
each_none (d ∷ ds) other none = (none.0, each_none ds other none.1)

read_none : (r : Option ReadUnderWay) (other : CompatValue) → IsReadApart r other
    → EachRead (λ ticket. IsApart ticket other) r
read_none None other none = tt
read_none (Some r) other none = none

pub left_sound : (old new : Core) (other c : CompatValue) → LeavesOthers old new other → ShareNoTicket other c
    → IsSound old c → IsSound new c
left_sound old new other c l o s =
    sound_of (λ ticket. IsApart ticket other) old new c (λ ticket kind own h. l.holds ticket kind own h)
    (each_none c.deferred other o.writes) (read_none c.reading other o.read) s

-- ---- the replies that a core has for a file

-- by their places; whatever else is asked for, this
told_by : Core → List DeferredWrite → Answers → Answers
told_by core [] rest place = rest place
told_by core (d ∷ ds) rest place = if place == d.place then reply_in (record_at core d.ticket) else
    told_by core ds rest place

read_by : Core → Option ReadUnderWay → Answers → Answers
read_by core None rest place = rest place
read_by core (Some r) rest place = if place == r.place then reply_in (record_at core r.ticket) else rest place

same_test : (n : ℕ) → (n == n) ≡ true
same_test n = grind (arith, nat_tests)

other_test : (a b : ℕ) → (a ≡ b → ⊥) → (a == b) ≡ false
other_test a b other = grind (arith, nat_tests)

-- elsewhere the rest is told
told_past : (core : Core) (ds : List DeferredWrite) (rest : Answers) (place : ℕ) → AreElsewhere place ds
    → told_by core ds rest place ≡ rest place
unfolding told_by
told_past core [] rest place away = refl
told_past core (d ∷ ds) rest place away =
    (λ i. if other_test place d.place away.0 i then reply_in (record_at core d.ticket) else told_by core ds rest place)
    ∙ told_past core ds rest place away.1

-- the places of rising writes
rising_above : (from place : ℕ) (ds : List DeferredWrite) (to : ℕ) → place < from → AreRising from ds to
    → AreElsewhere place ds
rising_above from place [] to below rising = tt
rising_above from place (d ∷ ds) to below rising = (
  λ same. omega (arith, same, below, rising.0),
  rising_above (d.place + 1) place ds to
      (omega (arith, below, rising.0)) rising.1,
)

-- a write more at a place that is none of theirs
told_more : (core : Core) (d : DeferredWrite) (ds es : List DeferredWrite) (rest : Answers) → AreElsewhere d.place es
    → AreTold core (told_by core ds rest) es → AreTold core (told_by core (d ∷ ds) rest) es
unfolding told_by
told_more core d ds [] rest away told = tt
told_more core d ds (e ∷ es) rest away told = (
  (λ i. if other_test e.place d.place (λ same. away.0 (sym same)) i then reply_in (record_at core d.ticket) else
      told_by core ds rest e.place) ∙ told.0,
  told_more core d ds es rest away.1 told.1,
)

told_all : (core : Core) (from : ℕ) (ds : List DeferredWrite) (to : ℕ) (rest : Answers) → AreRising from ds to
    → AreTold core (told_by core ds rest) ds
unfolding told_by
told_all core from [] to rest rising = tt
told_all core from (d ∷ ds) to rest rising = (
  (λ i. if same_test d.place i then reply_in (record_at core d.ticket) else told_by core ds rest d.place),
  told_more core d ds ds rest (rising_above (d.place + 1) d.place ds to (omega arith) rising.1)
      (told_all core (d.place + 1) ds to rest rising.1),
)

read_told : (core : Core) (ds : List DeferredWrite) (r : Option ReadUnderWay) (next : ℕ) (rest : Answers)
    → IsPlaced r ds next → IsTold core (told_by core ds (read_by core r rest)) r
unfolding read_by
read_told core ds None next rest placed = tt
read_told core ds (Some r) next rest placed =
    told_past core ds (read_by core (Some r) rest) r.place placed.2
    ∙ (λ i. if same_test r.place i then reply_in (record_at core r.ticket) else rest r.place)

-- the OPEN's place is none of the READ's
opened_past : (core : Core) (r : Option ReadUnderWay) (ds : List DeferredWrite) (next : ℕ) (rest : Answers)
    → IsPlaced r ds next → read_by core r rest 0 ≡ rest 0
unfolding read_by
opened_past core None ds next rest placed = refl
opened_past core (Some r) ds next rest placed = (λ i. if other_test 0 r.place (λ same. omega (arith, same, placed.0)) i
    then reply_in (record_at core r.ticket) else rest 0)

pub replies_told : (core : Core) (c : CompatValue) → IsSound core c → (answers : Answers) × DefersWrites core c answers
replies_told core c s =
    let opened : Answers = λ place. Some (reply.Handle c.file.grant.handle) in
    let rest : Answers = read_by core c.reading opened in (
      told_by core c.deferred rest,
      record {
        brought = ap handle_of (told_past core c.deferred rest 0
            (rising_above 1 0 c.deferred c.place (omega arith) s.counted.rising)
            ∙ opened_past core c.reading c.deferred c.place opened s.counted.placed);
        writes = told_all core 1 c.deferred c.place rest s.counted.rising;
        read = read_told core c.deferred c.reading c.place opened s.counted.placed;
      },
    )
