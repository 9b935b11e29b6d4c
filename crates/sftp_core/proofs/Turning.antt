-- Requests and replies of one id take turns, over any list of calls of a new core.
use Rattle.std.proofs.Common.{◌≡◌, ℕ, ◌-◌, Bool, true, false, cond, List, [], ◌∷◌, ◌++◌, refl, sym, ap, subst, ◌∙◌, arith, Option, Some, None}
use Rattle.std.specs.Prelude.{◌==◌, IsTrue, IsSome}
use Rattle.std.specs.Option.{option_map}
use Rattle.std.specs.Ordering.{nat_cmp, eq_by_cmp}
use Rattle.std.specs.Cmp.{nat_cmp_total}
use Rattle.std.specs.FinMap as fin
use Rattle.std.proofs.lemmas.Bool.Decides.{nat_tests}
use Rattle.sftp_model.specs.declared.error.Fault.{Fault}
use Rattle.sftp_model.specs.declared.flags.Extensions.{Extensions}
use Rattle.sftp_model.specs.declared.reply.Reply.{Reply}
use Rattle.sftp_model.specs.declared.request.Request.TheVariants.{Close, LimitsQuery}
use Rattle.sftp_model.specs.declared.options.SftpOptions.{SftpOptions}
use Rattle.sftp_core.specs.declared.handshake.Handshake.{Handshake}
use Rattle.sftp_core.specs.declared.handshake.Handshake.TheVariants.{Greeting, Asking, Open}
use Rattle.sftp_core.specs.declared.id_record.IdRecord.{IdRecord}
use Rattle.sftp_core.specs.declared.id_record.IdRecord.TheVariants.{Waiting, Answered, Granted}
use Rattle.sftp_core.specs.Grant.{GrantValue}
use Rattle.sftp_core.specs.Info.{info_of}
use Rattle.sftp_model.specs.Lengths.{offers_limits}
use Rattle.sftp_core.specs.Table.{IdRecords, is_waiting, sent_record, all_sent, handle_in_reply}
use Rattle.sftp_core.proofs.Sent.{get_sent}
use Rattle.sftp_core.specs.Core.{
  Core,
  record_at,
  fresh,
  with_record,
  queued_last,
  core_after_drop,
  given_leaves,
  poll_leaves,
  abandon_leaves,
  release_leaves,
  users_of,
  is_ticket,
}
use Rattle.sftp_core.specs.Take.{take_leaves, taken_in, core_when_open, greeted_by, extensions_in}
use Rattle.sftp_core.proofs.Elsewhere.{poll_phase, abandon_phase, take_phase, release_phase}
use Rattle.sftp_core.specs.Turns.{
  IdEvent,
  Asked,
  Replied,
  TakeTurns,
  CoreCall,
  Submit,
  SubmitParts,
  Take,
  Abandon,
  Release,
  Retain,
  Poll,
  HandOut,
  Fail,
  MayMakeCall,
  core_after_call,
  id_events_of,
  close_signs,
  answer_signs,
  greeting_signs,
  take_signs,
  abandon_signs,
  release_signs,
  MayAll,
  all_signs,
}

-- whether a request under the id has no reply, after these signs
abbrev waits_after : ℕ → Bool → List IdEvent → Bool
waits_after id b [] = b
waits_after id b (Asked other ∷ rest) = waits_after id (cond (id == other) true b) rest
waits_after id b (Replied other ∷ rest) = waits_after id (cond (id == other) false b) rest

abbrev waits : Option IdRecord → Bool
waits None = false
waits (Some held) = is_waiting held

same_test : (q k : ℕ) → eq_by_cmp nat_cmp q k ≡ (q == k)
same_test q k = grind (arith, nat_tests)

test_same : (q k : ℕ) → (q == k) ≡ true → q ≡ k
test_same q k h = grind (arith, nat_tests)

turns_append : (id : ℕ) (xs ys : List IdEvent) (b : Bool) → TakeTurns id b xs → TakeTurns id (waits_after id b xs) ys
    → TakeTurns id b (xs ++ ys)
turns_append id [] ys b h k = k
turns_append id (Asked other ∷ xs) ys b h k = (h.0, turns_append id xs ys _ h.1 k)
turns_append id (Replied other ∷ xs) ys b h k = (h.0, turns_append id xs ys _ h.1 k)

-- ---- one record changes

put_waits : (t : IdRecords) (k : ℕ) (v : IdRecord) (id : ℕ) → waits (fin.get (fin.insert t k v) id)
    ≡ cond (id == k) (is_waiting v) (waits (fin.get t id))
put_waits t k v id =
    ap waits (fin.get-insert nat_cmp_total t k v id ∙ ap (λ b. cond b (Some v) (fin.get t id)) (same_test id k))
    ∙ push (id == k)
  where
    push : (b : Bool) → waits (cond b (Some v) (fin.get t id)) ≡ cond b (is_waiting v) (waits (fin.get t id))
    push true = refl
    push false = refl

gone_waits : (t : IdRecords) (k : ℕ) (id : ℕ) → waits (fin.get (fin.remove t k) id)
    ≡ cond (id == k) false (waits (fin.get t id))
gone_waits t k id =
    ap waits (fin.get-remove nat_cmp_total t k id ∙ ap (λ b. cond b None (fin.get t id)) (same_test id k))
    ∙ push (id == k)
  where
    push : (b : Bool) → waits (cond b None (fin.get t id)) ≡ cond b false (waits (fin.get t id))
    push true = refl
    push false = refl

-- a record that waited before and after, or neither
kept_waits : (t : IdRecords) (k : ℕ) (v : IdRecord) (id : ℕ) → waits (fin.get t k) ≡ is_waiting v
    → waits (fin.get (fin.insert t k v) id) ≡ waits (fin.get t id)
kept_waits t k v id same = put_waits t k v id ∙ by_test (id == k) refl
  where
    by_test : (b : Bool) → (id == k) ≡ b → cond b (is_waiting v) (waits (fin.get t id)) ≡ waits (fin.get t id)
    by_test true e = sym same ∙ ap (λ q. waits (fin.get t q)) (sym (test_same id k e))
    by_test false e = refl

gone_same : (t : IdRecords) (k : ℕ) (id : ℕ) → waits (fin.get t k) ≡ false → waits (fin.get (fin.remove t k) id)
    ≡ waits (fin.get t id)
gone_same t k id same = gone_waits t k id ∙ by_test (id == k) refl
  where
    by_test : (b : Bool) → (id == k) ≡ b → cond b false (waits (fin.get t id)) ≡ waits (fin.get t id)
    by_test true e = sym same ∙ ap (λ q. waits (fin.get t q)) (sym (test_same id k e))
    by_test false e = refl

twice : (b x : Bool) → cond b true (cond b false x) ≡ cond b true x
twice true x = refl
twice false x = refl

sent_same : (t : IdRecords) (id : ℕ) → waits (fin.get (all_sent t) id) ≡ waits (fin.get t id)
sent_same t id = ap waits (get_sent t id) ∙ each (fin.get t id)
  where
    each : (p : Option IdRecord) → waits (option_map sent_record p) ≡ waits p
    each None = refl
    each (Some (Waiting e s w)) = refl
    each (Some (Answered e r)) = refl
    each (Some (Granted handle users)) = refl

-- ---- the signs of a call are in turn, and tell what it leaves

record Shown (core new : Core) (id : ℕ) (shows : List IdEvent) : Type 0 where
  turns : TakeTurns id (waits (record_at core id)) shows
  ends : waits_after id (waits (record_at core id)) shows ≡ waits (record_at new id)

here : (core : Core) (k id : ℕ) (p : Option IdRecord) (b : Bool) → record_at core k ≡ p → waits p ≡ b → id ≡ k
    → waits (record_at core id) ≡ b
here core k id p b is w e = ap (λ q. waits (record_at core q)) e ∙ ap waits is ∙ w

tests : (a b : ℕ) → a ≡ b → (a == b) ≡ true
tests a b h = grind (arith, nat_tests)

answered_first : (b x : Bool) → b ≡ true → cond b false x ≡ false
answered_first true x e = refl
answered_first false x e = cc

drop_shown : (core : Core) (k id : ℕ) (brought : Option (List ℕ)) → (id ≡ k → waits (record_at core id) ≡ true)
    → Shown core (core_after_drop core k brought) id (Replied k ∷ close_signs k brought)
drop_shown core k id (Some handle) waited =
    record {
      turns = (waited, ((λ same. answered_first (id == k) _ (tests id k same)), tt));
      ends = twice (id == k) _
          ∙ sym (put_waits core.table k _ id);
    }
drop_shown core k id None waited = record { turns = (waited, tt); ends = sym (gone_waits core.table k id) }

answer_shown : (core : Core) (k : ℕ) (r : Reply) (id : ℕ) (p : Option IdRecord) → record_at core k ≡ p
    → Shown core (take_leaves core k r p) id (answer_signs k p r)
answer_shown core k r id (Some (Waiting e s true)) is = record
    { turns = (here core k id _ true is refl, tt); ends = sym (put_waits core.table k (Answered e r) id) }
answer_shown core k r id (Some (Waiting e s false)) is = drop_shown core k id (handle_in_reply r)
    (here core k id _ true is refl)
answer_shown core k r id (Some (Answered e other)) is = record { turns = tt; ends = refl }
answer_shown core k r id (Some (Granted handle users)) is = record { turns = tt; ends = refl }
answer_shown core k r id None is = record { turns = tt; ends = refl }

-- no id is in use before the greeting
abbrev IsBlank : Handshake → IdRecords → Type 0
IsBlank Greeting t = (id : ℕ) → fin.get t id ≡ None
IsBlank (Asking extensions) t = Unit {0}
IsBlank (Open info) t = Unit {0}

greet_shown : (core : Core) (id : ℕ) (told : Option Extensions) → ((q : ℕ) → record_at core q ≡ None)
    → Shown core (greeted_by core told) id (greeting_signs told)
greet_shown core id None none = record { turns = tt; ends = refl }
greet_shown core id (Some extensions) none = by_test (offers_limits extensions)
  where
    by_test : (b : Bool) → Shown core (cond b (record (queued_last core 0 LimitsQuery false)
        { phase = Asking extensions }) (core_when_open core extensions None)) id (cond b (Asked 0 ∷ []) [])
    by_test true = record { turns = ((λ same. ap waits (none id)), tt); ends = sym (put_waits core.table 0 _ id) }
    by_test false = record { turns = tt; ends = refl }

take_shown : (core : Core) (p : Handshake) (k : Option ℕ) (r : Reply) (id : ℕ) → IsBlank p core.table
    → Shown core (taken_in core p k r) id (take_signs core p k r)
take_shown core Greeting k r id blank = greet_shown core id (extensions_in r) blank
take_shown core (Asking extensions) None r id blank = record { turns = tt; ends = refl }
take_shown core (Asking extensions) (Some k) r id blank = let x = answer_shown core k r id (record_at core k) refl in
    record { turns = x.turns; ends = x.ends }
take_shown core (Open info) None r id blank = record { turns = tt; ends = refl }
take_shown core (Open info) (Some k) r id blank = answer_shown core k r id (record_at core k) refl

close_shown : (core : Core) (k id : ℕ) (brought : Option (List ℕ)) → (id ≡ k → waits (record_at core id) ≡ false)
    → waits (record_at core k) ≡ false → Shown core (core_after_drop core k brought) id (close_signs k brought)
close_shown core k id (Some handle) none at_k = record { turns = (none, tt); ends = sym (put_waits core.table k _ id) }
close_shown core k id None none at_k = record { turns = tt; ends = sym (gone_same core.table k id at_k) }

abandon_shown : (core : Core) (k id : ℕ) (p : Option IdRecord) → record_at core k ≡ p
    → Shown core (abandon_leaves core k p) id (abandon_signs k p)
abandon_shown core k id (Some (Waiting e s w)) is = record {
  turns = tt;
  ends =
      sym (kept_waits core.table k _ id (ap waits is));
}
abandon_shown core k id (Some (Answered e r)) is = close_shown core k id (handle_in_reply r)
    (here core k id _ false is refl) (ap waits is)
abandon_shown core k id (Some (Granted handle users)) is = record { turns = tt; ends = refl }
abandon_shown core k id None is = record { turns = tt; ends = refl }

release_shown : (core : Core) (grant : GrantValue) (id users : ℕ) → waits (record_at core grant.id) ≡ false
    → Shown core (release_leaves core grant users) id (release_signs grant.id users)
release_shown core grant id users none = by_test (users == 1)
  where
    by_test : (b : Bool) → Shown core (cond b (queued_last core grant.id (Close grant.handle) true)
        (with_record core grant.id (Granted grant.handle (users - 1)))) id (cond b (Asked grant.id ∷ []) [])
    by_test true = record {
      turns = ((λ e. ap (λ q. waits (record_at core q)) e ∙ none), tt);
      ends =
          sym (put_waits core.table grant.id _ id);
    }
    by_test false = record { turns = tt; ends = sym (kept_waits core.table grant.id _ id none) }

give_same : (core : Core) (k : ℕ) (brought : Option (List ℕ)) (id : ℕ) → waits (record_at core k) ≡ false
    → waits (record_at (given_leaves core k brought) id) ≡ waits (record_at core id)
give_same core k (Some handle) id none = kept_waits core.table k _ id none
give_same core k None id none = gone_same core.table k id none

poll_same : (core : Core) (k : ℕ) (f : Option Fault) (p : Option IdRecord) (id : ℕ) → record_at core k ≡ p
    → waits (record_at (poll_leaves core k f p) id) ≡ waits (record_at core id)
poll_same core k f (Some (Answered e r)) id is = give_same core k (handle_in_reply r) id (ap waits is)
poll_same core k (Some f) (Some (Waiting e s w)) id is = kept_waits core.table k _ id (ap waits is)
poll_same core k None (Some (Waiting e s w)) id is = refl
poll_same core k f (Some (Granted handle users)) id is = refl
poll_same core k f None id is = refl

shown : (core : Core) (call : CoreCall) (id : ℕ) → IsBlank core.phase core.table → MayMakeCall core call
    → Shown core (core_after_call core call) id (id_events_of core call)
shown core (Submit k request) id blank may = record {
  turns = ((λ e. here core k id None false may.1 refl e), tt);
  ends = sym (put_waits core.table k _ id);
}
shown core (SubmitParts k handle offset parts) id blank may =
    record { turns = ((λ e. here core k id None false may.1 refl e), tt); ends = sym (put_waits core.table k _ id) }
shown core (Take read) id blank may = take_shown core core.phase read.0 read.1 id blank
shown core (Abandon k) id blank may = abandon_shown core k id (record_at core k) refl
shown core (Release grant) id blank may = release_shown core grant id (users_of (record_at core grant.id))
    (ap waits may.kept)
shown core (Retain grant) id blank may = record {
  turns = tt;
  ends =
      sym (kept_waits core.table grant.id _ id (ap waits may.kept));
}
shown core (Poll k) id blank may = record {
  turns = tt;
  ends =
      sym (poll_same core k core.fault (record_at core k) id refl);
}
shown core HandOut id blank may = record { turns = tt; ends = sym (sent_same core.table id) }
shown core (Fail f) id blank may = record { turns = tt; ends = refl }

-- ---- no call before the greeting takes an id

-- a call that no table without records allows
blank_by : (p p' : Handshake) (t t' : IdRecords) → p' ≡ p → (((id : ℕ) → fin.get t id ≡ None) → (id : ℕ) → fin.get t' id
    ≡ None) → IsBlank p t → IsBlank p' t'
blank_by Greeting p' t t' same step blank = subst (λ x. IsBlank x t') (sym same) (step blank)
blank_by (Asking extensions) p' t t' same step blank = subst (λ x. IsBlank x t') (sym same) tt
blank_by (Open info) p' t t' same step blank = subst (λ x. IsBlank x t') (sym same) tt

blank_open : (p : Handshake) (t : IdRecords) → IsSome (info_of p) → IsBlank p t
blank_open Greeting t h = absurd cc
blank_open (Asking extensions) t h = tt
blank_open (Open info) t h = tt

no_ticket : (o : Option IdRecord) → IsTrue (is_ticket o) → o ≡ None → ⊥
no_ticket o may none = let P : Option IdRecord → Type 0 = λ p. IsTrue (is_ticket p) in let no = subst P none may in cc

no_place : (o : Option IdRecord) (w : IdRecord) → o ≡ Some w → o ≡ None → ⊥
no_place o w is none = let clash : Some w ≡ None = sym is ∙ none in cc

blank_greeted : (core : Core) (told : Option Extensions) → IsBlank core.phase core.table
    → IsBlank (greeted_by core told).phase (greeted_by core told).table
blank_greeted core None blank = blank
blank_greeted core (Some extensions) blank = by_test (offers_limits extensions)
  where
    by_test : (b : Bool) → IsBlank (cond b (record (queued_last core 0 LimitsQuery false) { phase = Asking extensions })
        (core_when_open core extensions None)).phase (cond b (record (queued_last core 0 LimitsQuery false)
        { phase = Asking extensions }) (core_when_open core extensions None)).table
    by_test true = tt
    by_test false = tt

blank_taken : (core : Core) (p : Handshake) (k : Option ℕ) (r : Reply) → core.phase ≡ p → IsBlank core.phase core.table
    → IsBlank (taken_in core p k r).phase (taken_in core p k r).table
blank_taken core Greeting k r is blank = blank_greeted core (extensions_in r) blank
blank_taken core (Asking extensions) None r is blank = blank
blank_taken core (Asking extensions) (Some k) r is blank = tt
blank_taken core (Open info) None r is blank = blank
blank_taken core (Open info) (Some k) r is blank =
    let t = (take_leaves core k r (record_at core k)).table in
    subst (λ x. IsBlank x t) (sym (take_phase core k r (record_at core k) ∙ is)) tt

blank_kept : (core : Core) (call : CoreCall) → IsBlank core.phase core.table → MayMakeCall core call
    → IsBlank (core_after_call core call).phase (core_after_call core call).table
blank_kept core (Submit k request) blank may = blank_open core.phase _ may.0
blank_kept core (SubmitParts k handle offset parts) blank may = blank_open core.phase _ may.0
blank_kept core (Take read) blank may = blank_taken core core.phase read.0 read.1 refl blank
blank_kept core (Abandon k) blank may =
    blank_by core.phase _ core.table _ (abandon_phase core k (record_at core k))
    (λ none id. absurd (no_ticket (record_at core k) may (none k))) blank
blank_kept core (Release grant) blank may =
    blank_by core.phase _ core.table _ (release_phase core grant (users_of (record_at core grant.id)))
    (λ none id. absurd (no_place (record_at core grant.id) _ may.kept (none grant.id))) blank
blank_kept core (Retain grant) blank may =
    blank_by core.phase _ core.table _ refl (λ none id. absurd
    (no_place (record_at core grant.id) _ may.kept (none grant.id))) blank
blank_kept core (Poll k) blank may =
    blank_by core.phase _ core.table _ (poll_phase core k core.fault (record_at core k))
    (λ none id. absurd (no_ticket (record_at core k) may (none k))) blank
blank_kept core HandOut blank may = blank_by core.phase _ core.table _ refl
    (λ none id. get_sent core.table id ∙ ap (option_map sent_record) (none id)) blank
blank_kept core (Fail f) blank may = blank

-- ---- the law

take_turns : (core : Core) (calls : List CoreCall) (id : ℕ) → IsBlank core.phase core.table → MayAll core calls
    → TakeTurns id (waits (record_at core id)) (all_signs core calls)
take_turns core [] id blank may = tt
take_turns core (call ∷ calls) id blank may =
    let one = shown core call id blank may.0 in
    turns_append id (id_events_of core call) _ _ one.turns (rw one.ends
    (take_turns (core_after_call core call) calls id (blank_kept core call blank may.0) may.1))

pub requests_take_turns : (options : SftpOptions) (calls : List CoreCall) (id : ℕ) → MayAll (fresh options) calls
    → TakeTurns id false (all_signs (fresh options) calls)
requests_take_turns options calls id may =
    let P : Bool → Type 0 = λ b. TakeTurns id b (all_signs (fresh options) calls) in
    subst P (ap waits (fin.get-empty nat_cmp id)) (take_turns (fresh options) calls id (λ q. fin.get-empty nat_cmp q)
    may)
