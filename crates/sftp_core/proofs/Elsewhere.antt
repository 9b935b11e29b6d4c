-- A call on one id changes what is kept under no other.
use Rattle.std.proofs.Common.{◌≡◌, ◌≢◌, ℕ, ◌-◌, Bool, true, false, cond, List, refl, sym, ap, ◌∙◌, arith, Option, Some, None}
use Rattle.std.specs.Prelude.{◌==◌}
use Rattle.std.specs.Option.{option_map}
use Rattle.std.specs.Ordering.{nat_cmp, eq_by_cmp}
use Rattle.std.specs.Cmp.{nat_cmp_total}
use Rattle.std.specs.FinMap as fin
use Rattle.std.proofs.lemmas.Bool.Decides.{nat_tests}
use Rattle.sftp_model.specs.declared.error.Fault.{Fault}
use Rattle.sftp_model.specs.declared.request.Request.{Request}
use Rattle.sftp_model.specs.declared.request.Request.TheVariants.{Close}
use Rattle.sftp_model.specs.declared.reply.Reply.{Reply}
use Rattle.sftp_core.specs.declared.id_record.IdRecord.{IdRecord}
use Rattle.sftp_core.specs.declared.id_record.IdRecord.TheVariants.{Waiting, Answered, Granted}
use Rattle.sftp_core.specs.Grant.{GrantValue}
use Rattle.sftp_core.specs.Table.{IdRecords, handle_in_reply, sent_record}
use Rattle.sftp_core.proofs.Sent.{get_sent}
use Rattle.sftp_core.specs.Core.{Core, record_at, poll_leaves, given_leaves, abandon_leaves, core_after_drop, release_leaves, core_after_retain, queued_last, with_record, handed_out}
use Rattle.sftp_core.specs.Take.{take_leaves}

apart : (q k : ℕ) → q ≢ k → eq_by_cmp nat_cmp q k ≡ false
apart q k h = grind (arith, nat_tests)

alike : (k : ℕ) → eq_by_cmp nat_cmp k k ≡ true
alike k = grind (arith, nat_tests)

-- ---- a table

pub put_here : (t : IdRecords) (k : ℕ) (v : IdRecord) → fin.get (fin.insert t k v) k ≡ Some v
put_here t k v = fin.get-insert nat_cmp_total t k v k ∙ ap (λ b. cond b (Some v) (fin.get t k)) (alike k)

pub gone_here : (t : IdRecords) (k : ℕ) → fin.get (fin.remove t k) k ≡ None
gone_here t k = fin.get-remove nat_cmp_total t k k ∙ ap (λ b. cond b None (fin.get t k)) (alike k)

pub put_elsewhere : (t : IdRecords) (k : ℕ) (v : IdRecord) (q : ℕ) → q ≢ k → fin.get (fin.insert t k v) q ≡ fin.get t q
put_elsewhere t k v q h = fin.get-insert nat_cmp_total t k v q ∙ ap (λ b. cond b (Some v) (fin.get t q)) (apart q k h)

pub gone_elsewhere : (t : IdRecords) (k q : ℕ) → q ≢ k → fin.get (fin.remove t k) q ≡ fin.get t q
gone_elsewhere t k q h = fin.get-remove nat_cmp_total t k q ∙ ap (λ b. cond b None (fin.get t q)) (apart q k h)

-- ---- each call

pub submit_elsewhere : (core : Core) (k : ℕ) (request : Request) (wanted : Bool) (q : ℕ) → q ≢ k
    → record_at (queued_last core k request wanted) q ≡ record_at core q
submit_elsewhere core k request wanted q h = put_elsewhere core.table k _ q h

-- under a free id, a request changes no record that is there
pub other_place : (core : Core) (k : ℕ) (request : Request) (wanted : Bool) (other : ℕ) (here : IdRecord)
    → record_at core k ≡ None → record_at core other ≡ Some here
    → record_at (queued_last core k request wanted) other ≡ Some here
other_place core k request wanted other here free there =
    submit_elsewhere core k request wanted other (λ same. let clash : Some here ≡ None = sym there
    ∙ ap (record_at core) same ∙ free in cc) ∙ there

drop_elsewhere : (core : Core) (k : ℕ) (brought : Option (List ℕ)) (q : ℕ) → q ≢ k
    → record_at (core_after_drop core k brought) q ≡ record_at core q
drop_elsewhere core k (Some handle) q h = put_elsewhere core.table k _ q h
drop_elsewhere core k None q h = gone_elsewhere core.table k q h

give_elsewhere : (core : Core) (k : ℕ) (brought : Option (List ℕ)) (q : ℕ) → q ≢ k
    → record_at (given_leaves core k brought) q ≡ record_at core q
give_elsewhere core k (Some handle) q h = put_elsewhere core.table k _ q h
give_elsewhere core k None q h = gone_elsewhere core.table k q h

pub poll_elsewhere : (core : Core) (k : ℕ) (f : Option Fault) (p : Option IdRecord) (q : ℕ) → q ≢ k
    → record_at (poll_leaves core k f p) q ≡ record_at core q
poll_elsewhere core k f (Some (Answered e r)) q h = give_elsewhere core k (handle_in_reply r) q h
poll_elsewhere core k (Some f) (Some (Waiting e s w)) q h = put_elsewhere core.table k _ q h
poll_elsewhere core k None (Some (Waiting e s w)) q h = refl
poll_elsewhere core k f (Some (Granted handle users)) q h = refl
poll_elsewhere core k f None q h = refl

pub abandon_elsewhere : (core : Core) (k : ℕ) (p : Option IdRecord) (q : ℕ) → q ≢ k
    → record_at (abandon_leaves core k p) q ≡ record_at core q
abandon_elsewhere core k (Some (Waiting e s w)) q h = put_elsewhere core.table k _ q h
abandon_elsewhere core k (Some (Answered e r)) q h = drop_elsewhere core k (handle_in_reply r) q h
abandon_elsewhere core k (Some (Granted handle users)) q h = refl
abandon_elsewhere core k None q h = refl

pub take_elsewhere : (core : Core) (k : ℕ) (r : Reply) (p : Option IdRecord) (q : ℕ) → q ≢ k
    → record_at (take_leaves core k r p) q ≡ record_at core q
take_elsewhere core k r (Some (Waiting e s true)) q h = put_elsewhere core.table k _ q h
take_elsewhere core k r (Some (Waiting e s false)) q h = drop_elsewhere core k (handle_in_reply r) q h
take_elsewhere core k r (Some (Answered e other)) q h = refl
take_elsewhere core k r (Some (Granted handle users)) q h = refl
take_elsewhere core k r None q h = refl

pub retain_elsewhere : (core : Core) (grant : GrantValue) (q : ℕ) → q ≢ grant.id
    → record_at (core_after_retain core grant) q ≡ record_at core q
retain_elsewhere core grant q h = put_elsewhere core.table grant.id _ q h

pub release_elsewhere : (core : Core) (grant : GrantValue) (users q : ℕ) → q ≢ grant.id
    → record_at (release_leaves core grant users) q ≡ record_at core q
release_elsewhere core grant users q h = by_test (users == 1)
  where
    by_test : (b : Bool) → record_at (cond b (queued_last core grant.id (Close grant.handle) true)
        (with_record core grant.id (Granted grant.handle (users - 1)))) q ≡ record_at core q
    by_test true = put_elsewhere core.table grant.id _ q h
    by_test false = put_elsewhere core.table grant.id _ q h

-- a hand-out changes no record but that its request counts as sent
pub hand_out_each : (core : Core) (q : ℕ) → record_at (handed_out core) q ≡ option_map sent_record (record_at core q)
hand_out_each core q = get_sent core.table q

-- ---- only a frame that is taken changes how far the greeting has come

drop_phase : (core : Core) (k : ℕ) (brought : Option (List ℕ)) → (core_after_drop core k brought).phase ≡ core.phase
drop_phase core k (Some handle) = refl
drop_phase core k None = refl

give_phase : (core : Core) (k : ℕ) (brought : Option (List ℕ)) → (given_leaves core k brought).phase ≡ core.phase
give_phase core k (Some handle) = refl
give_phase core k None = refl

pub poll_phase : (core : Core) (k : ℕ) (f : Option Fault) (p : Option IdRecord) → (poll_leaves core k f p).phase
    ≡ core.phase
poll_phase core k f (Some (Answered e r)) = give_phase core k (handle_in_reply r)
poll_phase core k (Some f) (Some (Waiting e s w)) = refl
poll_phase core k None (Some (Waiting e s w)) = refl
poll_phase core k f (Some (Granted handle users)) = refl
poll_phase core k f None = refl

pub abandon_phase : (core : Core) (k : ℕ) (p : Option IdRecord) → (abandon_leaves core k p).phase ≡ core.phase
abandon_phase core k (Some (Waiting e s w)) = refl
abandon_phase core k (Some (Answered e r)) = drop_phase core k (handle_in_reply r)
abandon_phase core k (Some (Granted handle users)) = refl
abandon_phase core k None = refl

pub take_phase : (core : Core) (k : ℕ) (r : Reply) (p : Option IdRecord) → (take_leaves core k r p).phase ≡ core.phase
take_phase core k r (Some (Waiting e s true)) = refl
take_phase core k r (Some (Waiting e s false)) = drop_phase core k (handle_in_reply r)
take_phase core k r (Some (Answered e other)) = refl
take_phase core k r (Some (Granted handle users)) = refl
take_phase core k r None = refl

pub release_phase : (core : Core) (grant : GrantValue) (users : ℕ) → (release_leaves core grant users).phase
    ≡ core.phase
release_phase core grant users = by_test (users == 1)
  where
    by_test : (b : Bool) → (cond b (queued_last core grant.id (Close grant.handle) true)
        (with_record core grant.id (Granted grant.handle (users - 1)))).phase ≡ core.phase
    by_test true = refl
    by_test false = refl
