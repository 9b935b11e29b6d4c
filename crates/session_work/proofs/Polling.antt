-- A poll gives the reply that was taken, and leaves the grants of a lane.
use Rattle.std.proofs.Common.{
  ◌≡◌,
  ◌≢◌,
  ◌<◌,
  ◌≤◌,
  ◌+◌,
  ap,
  sym,
  ◌∙◌,
  refl,
  subst,
  arith,
  ◌++◌,
  ℕ,
  zero,
  suc,
  true,
  false,
  List,
  [],
  ◌∷◌,
  length,
  take,
  drop,
  Option,
  Some,
  None,
  Ok,
  Bor,
}
use Rattle.std.specs.FinMap as fin
use Rattle.std.specs.Option.{is_some, option_copied}
use Rattle.std.specs.Prelude.{Result, slice_get, slice_index_or}
use Rattle.sftp_model.specs.declared.error.Fault.{Fault}
use Rattle.sftp_model.specs.declared.reply.Reply.{Reply}
use Rattle.sftp_model.specs.declared.reply.Reply.TheVariants as reply
use Rattle.sftp_core.specs.declared.id_record.IdRecord.{IdRecord}
use Rattle.sftp_core.specs.declared.id_record.IdRecord.TheVariants.{Waiting, Answered, Granted}
use Rattle.sftp_core.specs.declared.tokens.Polled.{Polled}
use Rattle.sftp_core.specs.declared.tokens.Polled.TheVariants as polled
use Rattle.sftp_core.specs.Grant.{GrantValue}
use Rattle.sftp_core.specs.Core.{Core, after_poll, record_at, polled_grant, given_leaves, is_ticket, poll_gives, poll_leaves, polled_with, reply_in, with_record}
use Rattle.sftp_core.specs.Table.{handle_in_reply}
use Rattle.sftp_core.proofs.Counts.{len_less, len_same}
use Rattle.sftp_core.proofs.Elsewhere.{poll_elsewhere, put_here}
use Rattle.session_laws.specs.Lanes.{Held, Ticketed, grant_places, ticket_places}
use Rattle.session_laws.specs.Places.{is_in, without_index}
use Rattle.session_laws.proofs.PlaceLaws.{different}
use Rattle.session_work.specs.Tokens.{AreGrants, grants_with}
use Rattle.session_work.specs.Turning.{IsOpen}

-- ---- what was polled

given_reply : (t : ℕ) (y r : Reply) → polled_grant t y (handle_in_reply y) ≡ polled.Reply r → (y ≡ r)
    × (handle_in_reply y ≡ None)
given_reply t (reply.Handle handle) r e = absurd cc
given_reply t (reply.Version version extensions) r e = (cc, refl)
given_reply t (reply.Status code message language) r e = (cc, refl)
given_reply t (reply.Content content) r e = (cc, refl)
given_reply t (reply.Names names) r e = (cc, refl)
given_reply t (reply.Attrs attrs) r e = (cc, refl)
given_reply t (reply.Extended content) r e = (cc, refl)

given_grant : (t : ℕ) (y : Reply) (g : GrantValue) → polled_grant t y (handle_in_reply y) ≡ polled.Granted g
    → (y ≡ reply.Handle g.handle) × (g.id ≡ t)
given_grant t (reply.Handle handle) g e =
    (let same : (◌≡◌ {A = GrantValue} (record { id = t; handle = handle }) g) = cc in
    (ap (λ (x : GrantValue). reply.Handle x.handle) same, ap (λ (x : GrantValue). x.id) (sym same)))
given_grant t (reply.Version version extensions) g e = absurd cc
given_grant t (reply.Status code message language) g e = absurd cc
given_grant t (reply.Content content) g e = absurd cc
given_grant t (reply.Names names) g e = absurd cc
given_grant t (reply.Attrs attrs) g e = absurd cc
given_grant t (reply.Extended content) g e = absurd cc

ok_is : (x y : Polled) → (◌≡◌ {A = Result Polled ℕ} (Ok x) (Ok y)) → x ≡ y
ok_is x y e = cc

plainly : (grants : List Held) (place ticket : ℕ) (r : Reply) → handle_in_reply r ≡ None → grants
    ≡ grants_with grants place ticket r
plainly grants place ticket (reply.Handle handle) e = absurd cc
plainly grants place ticket other e = refl

-- a reply that is no HANDLE was taken, and is no grant
pub gave_reply : (t : ℕ) (fault : Option Fault) (p : Option IdRecord) (r : Reply) → poll_gives t fault p
    ≡ Ok (polled.Reply r) → (reply_in p ≡ Some r) × (handle_in_reply r ≡ None)
gave_reply t fault None r e = absurd cc
gave_reply t (Some f) (Some (Waiting expected sent wanted)) r e = absurd cc
gave_reply t None (Some (Waiting expected sent wanted)) r e = absurd cc
gave_reply t fault (Some (Answered expected y)) r e =
    (let same = given_reply t y r (ok_is (polled_grant t y (handle_in_reply y)) (polled.Reply r) e) in
    (ap (λ (x : Reply). Some x) same.0, ap handle_in_reply (sym same.0) ∙ same.1))
gave_reply t fault (Some (Granted handle users)) r e = absurd cc

pub plain_grants : (grants : List Held) (place t : ℕ) (fault : Option Fault) (p : Option IdRecord) (r : Reply)
    → poll_gives t fault p ≡ Ok (polled.Reply r) → grants ≡ grants_with grants place t r
plain_grants grants place t fault p r e = plainly grants place t r (gave_reply t fault p r e).1

-- a HANDLE was taken
pub gave_grant : (t : ℕ) (fault : Option Fault) (p : Option IdRecord) (g : GrantValue) → poll_gives t fault p
    ≡ Ok (polled.Granted g) → (reply_in p ≡ Some (reply.Handle g.handle)) × (g.id ≡ t)
gave_grant t fault None g e = absurd cc
gave_grant t (Some f) (Some (Waiting expected sent wanted)) g e = absurd cc
gave_grant t None (Some (Waiting expected sent wanted)) g e = absurd cc
gave_grant t fault (Some (Answered expected y)) g e =
    (let same = given_grant t y g (ok_is (polled_grant t y (handle_in_reply y)) (polled.Granted g) e) in
    (ap (λ (x : Reply). Some x) same.0, same.1))
gave_grant t fault (Some (Granted handle users)) g e = absurd cc

-- ---- lists

pub copied_none : {A : Type 0} (x : Option (Bor A)) → is_some x ≡ false → option_copied x ≡ None
copied_none None e = refl
copied_none (Some y) e = absurd cc

pub get_there : {A : Type 0} (xs : List A) (k : ℕ) (d : A) → k < length xs → slice_get xs k
    ≡ Some (slice_index_or xs k d)
get_there [] k d lt = absurd (omega (arith, lt))
get_there (x ∷ xs) zero d lt = refl
get_there (x ∷ xs) (suc k) d lt = get_there xs k d (omega (arith, lt))

without_suc : {A : Type 0} (k : ℕ) (xs : List A) → take k xs ++ drop (suc k) xs ≡ without_index k xs
without_suc zero [] = refl
without_suc (suc k) [] = refl
without_suc zero (x ∷ xs) = refl
without_suc {A} (suc k) (x ∷ xs) = ap (λ (l : List A). x ∷ l) (without_suc k xs)

pub without_is : {A : Type 0} (k : ℕ) (xs : List A) → take k xs ++ drop (k + 1) xs ≡ without_index k xs
without_is k xs = (let one : k + 1 ≡ suc k = omega arith in ap (λ (n : ℕ). take k xs ++ drop n xs) one
    ∙ without_suc k xs)

-- no ticket and no grant is at a place that none has
pub tickets_out : (ts : List Ticketed) (p : ℕ) → ((k : ℕ) (t : Ticketed) → slice_get ts k ≡ Some t → t.place ≢ p)
    → is_in p (ticket_places ts) ≡ false
tickets_out [] p none = refl
tickets_out (x ∷ xs) p none = rw (different x.place p (none 0 x refl))
    (tickets_out xs p (λ k t got. none (suc k) t got))

pub grants_out : (gs : List Held) (p : ℕ) → ((k : ℕ) (g : Held) → slice_get gs k ≡ Some g → g.place ≢ p)
    → is_in p (grant_places gs) ≡ false
grants_out [] p none = refl
grants_out (x ∷ xs) p none = rw (different x.place p (none 0 x refl)) (grants_out xs p (λ k g got. none (suc k) g got))

in_pushed : (P : Held → Type 0) (xs : List Held) (y : Held) (k : ℕ) (x : Held)
    → ((i : ℕ) (z : Held) → slice_get xs i ≡ Some z → P z) → P y → slice_get (xs ++ y ∷ []) k ≡ Some x → P x
in_pushed P [] y zero x old new got = (let e : y ≡ x = cc in subst P e new)
in_pushed P [] y (suc k) x old new got = absurd cc
in_pushed P (z ∷ xs) y zero x old new got = old 0 x got
in_pushed P (z ∷ xs) y (suc k) x old new got = in_pushed P xs y k x (λ i w there. old (suc i) w there) new got

-- ---- what it leaves

no_grant : (p : Option IdRecord) (handle : List ℕ) → is_ticket p ≡ true → p ≡ Some (Granted handle 1) → ⊥
no_grant None handle e is = cc
no_grant (Some (Waiting expected sent wanted)) handle e is = cc
no_grant (Some (Answered expected r)) handle e is = cc
no_grant (Some (Granted h users)) handle e is = cc

apart : (core : Core) (t id : ℕ) (handle : List ℕ) → is_ticket (record_at core t) ≡ true → record_at core id
    ≡ Some (Granted handle 1) → id ≢ t
apart core t id handle e is same = no_grant (record_at core t) handle e (ap (record_at core) (sym same) ∙ is)

-- the grants stay where a ticket is polled
pub grants_stay : (core : Core) (t : ℕ) (grants : List Held) → is_ticket (record_at core t) ≡ true
    → AreGrants core grants → AreGrants (after_poll core t) grants
grants_stay core t grants counted all k g got =
    poll_elsewhere core t core.fault (record_at core t) g.grant.id
    (apart core t g.grant.id g.grant.handle counted (all k g got)) ∙ all k g got

granted_here : (core : Core) (t : ℕ) (fault : Option Fault) (p : Option IdRecord) (g : GrantValue)
    → poll_gives t fault p
    ≡ Ok (polled.Granted g) → poll_leaves core t fault p ≡ with_record core t (Granted g.handle 1)
granted_here core t fault None g e = absurd cc
granted_here core t (Some f) (Some (Waiting expected sent wanted)) g e = absurd cc
granted_here core t None (Some (Waiting expected sent wanted)) g e = absurd cc
granted_here core t fault (Some (Answered expected y)) g e =
    (let same = given_grant t y g (ok_is (polled_grant t y (handle_in_reply y)) (polled.Granted g) e) in
    ap (given_leaves core t) (ap handle_in_reply same.0))
granted_here core t fault (Some (Granted handle users)) g e = absurd cc

-- and the new one is one of them
pub grants_more : (core : Core) (t place : ℕ) (grants : List Held) (g : GrantValue) → is_ticket (record_at core t)
    ≡ true
    → polled_with core t ≡ Ok (polled.Granted g) → AreGrants core grants
    → AreGrants (after_poll core t) (grants ++ (record { place = place; grant = g }) ∷ [])
grants_more core t place grants g counted gave all k x got =
    in_pushed (λ (h : Held). record_at (after_poll core t) h.grant.id ≡ Some (Granted h.grant.handle 1)) grants
    (record { place = place; grant = g }) k x (λ i z there. grants_stay core t grants counted all i z there)
    (ap (record_at (after_poll core t)) (gave_grant t core.fault (record_at core t) g gave).1
    ∙ (ap (λ (c : Core). record_at c t) (granted_here core t core.fault (record_at core t) g gave)
    ∙ put_here core.table t (Granted g.handle 1))) got

-- ---- an open core stays open

given_open : (core : Core) (t : ℕ) (h : Option (List ℕ)) → IsOpen core → IsOpen (given_leaves core t h)
given_open core t (Some handle) o = record { unfailed = o.unfailed; ready = o.ready }
given_open core t None o = record { unfailed = o.unfailed; ready = o.ready }

leaves_open : (core : Core) (t : ℕ) (fault : Option Fault) (p : Option IdRecord) → IsOpen core
    → IsOpen (poll_leaves core t fault p)
leaves_open core t fault (Some (Answered expected r)) o = given_open core t (handle_in_reply r) o
leaves_open core t (Some f) (Some (Waiting expected sent wanted)) o = record { unfailed = o.unfailed; ready = o.ready }
leaves_open core t None (Some (Waiting expected sent wanted)) o = o
leaves_open core t fault (Some (Granted handle users)) o = o
leaves_open core t fault None o = o

pub stays_open : (core : Core) (t : ℕ) → IsOpen core → IsOpen (after_poll core t)
stays_open core t o = leaves_open core t core.fault (record_at core t) o

-- ---- a poll keeps no more ids

no_more_same : (a b : ℕ) → a ≡ b → a ≤ b
no_more_same a b e = omega (arith, e)

given_few : (core : Core) (t : ℕ) (p : IdRecord) (h : Option (List ℕ)) → record_at core t ≡ Some p
    → fin.len (given_leaves core t h).table ≤ fin.len core.table
given_few core t p (Some handle) here = no_more_same _ _ (len_same core.table t (Granted handle 1) p here)
given_few core t p None here = len_less core.table t

leaves_few : (core : Core) (t : ℕ) (fault : Option Fault) (p : Option IdRecord) → record_at core t ≡ p
    → fin.len (poll_leaves core t fault p).table ≤ fin.len core.table
leaves_few core t fault (Some (Answered expected r)) here = given_few core t (Answered expected r) (handle_in_reply r)
    here
leaves_few core t (Some f) (Some (Waiting expected sent wanted)) here =
    no_more_same _ _ (len_same core.table t (Waiting expected sent false) (Waiting expected sent wanted) here)
leaves_few core t None (Some (Waiting expected sent wanted)) here = no_more_same _ _ refl
leaves_few core t fault (Some (Granted handle users)) here = no_more_same _ _ refl
leaves_few core t fault None here = no_more_same _ _ refl

pub polls_few : (core : Core) (t : ℕ) → fin.len (after_poll core t).table ≤ fin.len core.table
polls_few core t = leaves_few core t core.fault (record_at core t) refl
