-- A poll gives the reply that was taken.
use Rattle.std.proofs.Common.{◌≡◌, ◌≤◌, ap, sym, ◌∙◌, refl, arith, ℕ, true, false, List, Option, Some, None, Ok, Err, IsTrue}
use Rattle.std.specs.FinMap as fin
use Rattle.std.specs.Prelude.{Result}
use Rattle.sftp_model.specs.Answers.{allows_reply, is_handle}
use Rattle.sftp_model.specs.declared.answers.Expected.{Expected}
use Rattle.sftp_model.specs.declared.error.Fault.{Fault}
use Rattle.sftp_model.specs.declared.reply.Reply.{Reply}
use Rattle.sftp_model.specs.declared.reply.Reply.TheVariants as reply
use Rattle.sftp_core.specs.declared.id_record.IdRecord.{IdRecord}
use Rattle.sftp_core.specs.declared.id_record.IdRecord.TheVariants.{Waiting, Answered, Granted}
use Rattle.sftp_core.specs.declared.tokens.Polled.{Polled}
use Rattle.sftp_core.specs.declared.tokens.Polled.TheVariants as polled
use Rattle.sftp_core.specs.Grant.{GrantValue}
use Rattle.sftp_core.specs.Core.{Core, after_poll, record_at, polled_grant, given_leaves, is_ticket, poll_gives, poll_leaves, polled_with, reply_in, with_record}
use Rattle.sftp_core.specs.Table.{IsAllowed, handle_in_reply, expected_at}
use Rattle.sftp_core.proofs.Counts.{len_less, len_same}
use Rattle.sftp_core.proofs.Elsewhere.{put_here}
use Rattle.plan_state.specs.Told.{ReplyCame, IsCounted, IsNew, IsUntold}
use Rattle.plan_state.specs.declared.told.Told.{Told}
use Rattle.plan_state.specs.declared.told.Told.TheVariants as told
use Rattle.plan_state.specs.declared.told.Untold.TheVariants as untold

given_reply : (t : ℕ) (y r : Reply) → polled_grant t y (handle_in_reply y) ≡ polled.Reply r → (y ≡ r)
    × (handle_in_reply y ≡ None)
given_reply t (reply.Handle handle) r e = absurd cc
given_reply t (reply.Version version extensions) r e = (cc, refl)
given_reply t (reply.Status code message language) r e = (cc, refl)
given_reply t (reply.Content content) r e = (cc, refl)
given_reply t (reply.Names names) r e = (cc, refl)
given_reply t (reply.Attrs attrs) r e = (cc, refl)
given_reply t (reply.Extended content) r e = (cc, refl)

given_grant : (t : ℕ) (y : Reply) (g : GrantValue) → polled_grant t y (handle_in_reply y) ≡ polled.Granted g
    → (y ≡ reply.Handle g.handle) × (g.id ≡ t)
given_grant t (reply.Handle handle) g e =
    (let same : (◌≡◌ {A = GrantValue} (record { id = t; handle = handle }) g) = cc in
    (ap (λ (x : GrantValue). reply.Handle x.handle) same, ap (λ (x : GrantValue). x.id) (sym same)))
given_grant t (reply.Version version extensions) g e = absurd cc
given_grant t (reply.Status code message language) g e = absurd cc
given_grant t (reply.Content content) g e = absurd cc
given_grant t (reply.Names names) g e = absurd cc
given_grant t (reply.Attrs attrs) g e = absurd cc
given_grant t (reply.Extended content) g e = absurd cc

ok_is : (x y : Polled) → (◌≡◌ {A = Result Polled ℕ} (Ok x) (Ok y)) → x ≡ y
ok_is x y e = cc

-- a reply that is no HANDLE was taken, and is no grant
pub gave_reply : (t : ℕ) (fault : Option Fault) (p : Option IdRecord) (r : Reply) → poll_gives t fault p
    ≡ Ok (polled.Reply r) → (reply_in p ≡ Some r) × (handle_in_reply r ≡ None)
gave_reply t fault None r e = absurd cc
gave_reply t (Some f) (Some (Waiting expected sent wanted)) r e = absurd cc
gave_reply t None (Some (Waiting expected sent wanted)) r e = absurd cc
gave_reply t fault (Some (Answered expected y)) r e =
    (let same = given_reply t y r (ok_is (polled_grant t y (handle_in_reply y)) (polled.Reply r) e) in
    (ap (λ (x : Reply). Some x) same.0, ap handle_in_reply (sym same.0) ∙ same.1))
gave_reply t fault (Some (Granted handle users)) r e = absurd cc

-- a HANDLE was taken
pub gave_grant : (t : ℕ) (fault : Option Fault) (p : Option IdRecord) (g : GrantValue) → poll_gives t fault p
    ≡ Ok (polled.Granted g) → (reply_in p ≡ Some (reply.Handle g.handle)) × (g.id ≡ t)
gave_grant t fault None g e = absurd cc
gave_grant t (Some f) (Some (Waiting expected sent wanted)) g e = absurd cc
gave_grant t None (Some (Waiting expected sent wanted)) g e = absurd cc
gave_grant t fault (Some (Answered expected y)) g e =
    (let same = given_grant t y g (ok_is (polled_grant t y (handle_in_reply y)) (polled.Granted g) e) in
    (ap (λ (x : Reply). Some x) same.0, same.1))
gave_grant t fault (Some (Granted handle users)) g e = absurd cc

granted_here : (core : Core) (t : ℕ) (fault : Option Fault) (p : Option IdRecord) (g : GrantValue)
    → poll_gives t fault p
    ≡ Ok (polled.Granted g) → poll_leaves core t fault p ≡ with_record core t (Granted g.handle 1)
granted_here core t fault None g e = absurd cc
granted_here core t (Some f) (Some (Waiting expected sent wanted)) g e = absurd cc
granted_here core t None (Some (Waiting expected sent wanted)) g e = absurd cc
granted_here core t fault (Some (Answered expected y)) g e =
    (let same = given_grant t y g (ok_is (polled_grant t y (handle_in_reply y)) (polled.Granted g) e) in
    ap (given_leaves core t) (ap handle_in_reply same.0))
granted_here core t fault (Some (Granted handle users)) g e = absurd cc

-- ---- a poll keeps no more ids

no_more_same : (a b : ℕ) → a ≡ b → a ≤ b
no_more_same a b e = omega (arith, e)

given_few : (core : Core) (t : ℕ) (p : IdRecord) (h : Option (List ℕ)) → record_at core t ≡ Some p
    → fin.len (given_leaves core t h).table ≤ fin.len core.table
given_few core t p (Some handle) here = no_more_same _ _ (len_same core.table t (Granted handle 1) p here)
given_few core t p None here = len_less core.table t

leaves_few : (core : Core) (t : ℕ) (fault : Option Fault) (p : Option IdRecord) → record_at core t ≡ p
    → fin.len (poll_leaves core t fault p).table ≤ fin.len core.table
leaves_few core t fault (Some (Answered expected r)) here = given_few core t (Answered expected r) (handle_in_reply r)
    here
leaves_few core t (Some f) (Some (Waiting expected sent wanted)) here =
    no_more_same _ _ (len_same core.table t (Waiting expected sent false) (Waiting expected sent wanted) here)
leaves_few core t None (Some (Waiting expected sent wanted)) here = no_more_same _ _ refl
leaves_few core t fault (Some (Granted handle users)) here = no_more_same _ _ refl
leaves_few core t fault None here = no_more_same _ _ refl

pub polls_few : (core : Core) (t : ℕ) → fin.len (after_poll core t).table ≤ fin.len core.table
polls_few core t = leaves_few core t core.fault (record_at core t) refl

-- ---- what came

allowed_at : (p : Option IdRecord) (r : Reply) (kind : Expected) → IsAllowed p → reply_in p ≡ Some r → expected_at p
    ≡ Some kind → allows_reply kind r ≡ true
allowed_at None r kind fits came is = absurd cc
allowed_at (Some (Waiting expected sent wanted)) r kind fits came is = absurd cc
allowed_at (Some (Answered expected y)) r kind fits came is =
    (let same : y ≡ r = cc in let kinds : expected ≡ kind = cc in (λ i. allows_reply (sym kinds i) (sym same i)) ∙ fits)
allowed_at (Some (Granted handle users)) r kind fits came is = absurd cc

no_handle : (r : Reply) → handle_in_reply r ≡ None → is_handle r ≡ false
no_handle (reply.Handle handle) e = absurd cc
no_handle other e = refl

-- a reply came
pub came_reply : (core : Core) (t : ℕ) (r : Reply) → IsAllowed (record_at core t) → polled_with core t
    ≡ Ok (polled.Reply r)
    → ReplyCame core (after_poll core t) t (told.Reply r)
came_reply core t r fits e =
    let taken : reply_in (record_at core t) ≡ Some r = (gave_reply t core.fault (record_at core t) r e).0 in
    record {
      taken = taken;
      allowed = λ kind is. allowed_at (record_at core t) r kind fits taken is;
      formed =
          no_handle r (gave_reply t core.fault (record_at core t) r e).1;
      granted = tt;
    }

-- a grant came
pub came_grant : (core : Core) (t : ℕ) (g : GrantValue) → IsAllowed (record_at core t) → polled_with core t
    ≡ Ok (polled.Granted g) → ReplyCame core (after_poll core t) t (told.Granted g)
came_grant core t g fits e =
    let taken : (reply_in (record_at core t) ≡ Some (reply.Handle g.handle)) × (g.id ≡ t) =
    gave_grant t core.fault (record_at core t) g e in
    record {
      taken = taken.0;
      allowed = λ kind is. allowed_at (record_at core t) (reply.Handle g.handle) kind fits taken.0 is;
      formed = tt;
      granted = (
        taken.1,
        ap (record_at (after_poll core t)) taken.1 ∙
            (ap (λ (c : Core). record_at c t) (granted_here core t core.fault (record_at core t) g e)
            ∙ put_here core.table t (Granted g.handle 1)),
      );
    }

kept_fault : (t : ℕ) (fault : Option Fault) (p : Option IdRecord) (f : Fault) → poll_gives t fault p
    ≡ Ok (polled.Failed f)
    → (reply_in p ≡ None) × (fault ≡ Some f)
kept_fault t fault None f e = absurd cc
kept_fault t (Some g) (Some (Waiting expected sent wanted)) f e =
    (let same : g ≡ f = cc in (refl, ap (λ (x : Fault). Some x) same))
kept_fault t None (Some (Waiting expected sent wanted)) f e = absurd cc
kept_fault t fault (Some (Answered expected y)) f e = absurd
    (no_failed t y f (ok_is (polled_grant t y (handle_in_reply y)) (polled.Failed f) e))
  where
    no_failed : (t : ℕ) (y : Reply) (f : Fault) → polled_grant t y (handle_in_reply y) ≡ polled.Failed f → ⊥
    no_failed t (reply.Handle handle) f e = cc
    no_failed t (reply.Version version extensions) f e = cc
    no_failed t (reply.Status code message language) f e = cc
    no_failed t (reply.Content content) f e = cc
    no_failed t (reply.Names names) f e = cc
    no_failed t (reply.Attrs attrs) f e = cc
    no_failed t (reply.Extended content) f e = cc
kept_fault t fault (Some (Granted handle users)) f e = absurd cc

-- a fault is kept
pub failed_by : (core : Core) (t : ℕ) (f : Fault) → polled_with core t ≡ Ok (polled.Failed f)
    → (reply_in (record_at core t) ≡ None) × (core.fault ≡ Some f)
failed_by core t f e = kept_fault t core.fault (record_at core t) f e

missed : (core : Core) (t : ℕ) (fault : Option Fault) (p : Option IdRecord) (q : ℕ) → IsTrue (is_ticket p)
    → poll_gives t fault p ≡ Err q → (reply_in p ≡ None) × (q ≡ t) × (fault ≡ None)
    × (poll_leaves core t fault p ≡ core)
missed core t fault None q counted e = absurd cc
missed core t (Some f) (Some (Waiting expected sent wanted)) q counted e = absurd cc
missed core t None (Some (Waiting expected sent wanted)) q counted e = (refl, cc, refl, refl)
missed core t fault (Some (Answered expected y)) q counted e = absurd cc
missed core t fault (Some (Granted handle users)) q counted e = absurd cc

-- neither came
pub missed_by : (core : Core) (t q : ℕ) → IsTrue (is_ticket (record_at core t)) → polled_with core t ≡ Err q
    → IsUntold core (after_poll core t) t (untold.Missing q)
missed_by core t q counted e = missed core t core.fault (record_at core t) q counted e

-- a grant that came is counted
pub counted_by : (core : Core) (t : ℕ) (x : Told) → IsNew core t x → IsCounted core x
counted_by core t (told.Reply r) new = tt
counted_by core t (told.Granted g) new = new.1
