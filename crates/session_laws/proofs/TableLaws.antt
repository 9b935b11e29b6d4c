-- What a core keeps under each id, by the journal and by the places that the lanes have tickets and grants of.
use Rattle.std.proofs.Common.{◌≡◌, ◌≢◌, ◌<◌, ℕ, Bool, true, false, List, ◌∷◌, Option, Some, None, refl, ap, sym, ◌∙◌, subst, inl, inr}
use Rattle.std.specs.Option.{option_map}
use Rattle.std.proofs.lemmas.Bool.Decides.{eqb_tells}
use Rattle.sftp_model.specs.Answers.{expected_of}
use Rattle.sftp_model.specs.declared.answers.Expected.{Expected}
use Rattle.sftp_model.specs.declared.request.Request.{Request}
use Rattle.sftp_model.specs.declared.reply.Reply.{Reply}
use Rattle.sftp_core.specs.declared.id_record.IdRecord.{IdRecord}
use Rattle.sftp_core.specs.declared.id_record.IdRecord.TheVariants.{Waiting, Granted}
use Rattle.sftp_core.specs.Table.{sent_record}
use Rattle.session_model.specs.declared.event.Owner.{Owner}
use Rattle.session_model.specs.declared.event.Event.TheVariants.{Submit, Send, Take}
use Rattle.session_model.specs.declared.entry.Entry.{Entry}
use Rattle.session_model.specs.Readings.{AskedRequest, count_submitted, bearer}
use Rattle.session_model.specs.Ids.{IdState, Free, Pending, Replied, id_state, now_sent, now_replied, ReadsId}
use Rattle.session_model.proofs.IdLaws.{reads}
use Rattle.session_model.proofs.RequestLaws.{bearer_one, bearer_below}
use Rattle.session_laws.specs.Tables.{TableMatches, place_of, record_of_reply, stand}
use Rattle.sftp_model.specs.declared.reply.Reply.TheVariants as reply
use Rattle.session_model.specs.declared.entry.Entry.TheVariants as entry

-- the tickets and grants are the same at the place of an id
pub stand_same : (w v g h : ℕ → Bool) (x : IdState) → ((p : ℕ) → place_of x ≡ Some p → (w p ≡ v p) × (g p ≡ h p))
    → stand w g x ≡ stand v h x
stand_same w v g h Free same = refl
stand_same w v g h (Pending place a was_sent) same = ap (λ b. Some (Waiting (expected_of a.request) was_sent b))
    (same place refl).0
stand_same w v g h (Replied place a r) same = ap (λ b. record_of_reply b (g place) (expected_of a.request) r)
    (same place refl).0 ∙ ap (λ b. record_of_reply (v place) b (expected_of a.request) r) (same place refl).1

borne : (past : List Entry) (id p : ℕ) (x : IdState) → ReadsId past id x → place_of x ≡ Some p → bearer past id ≡ Some p
borne past id p Free s e = absurd cc
borne past id p (Pending place a was_sent) s e = s.0 ∙ e
borne past id p (Replied place a r) s e = s.0 ∙ e

pub place_borne : (past : List Entry) (id p : ℕ) → place_of (id_state past id) ≡ Some p → bearer past id ≡ Some p
place_borne past id p e = borne past id p (id_state past id) (reads past id) e

-- ---- a request: a ticket for its place, or none; where a grant's CLOSE stands in the grant's place, the grant is gone

pub ask_tabled : (past : List Entry) (w v g h : ℕ → Bool) (table now : ℕ → Option IdRecord) (by : Owner) (id : ℕ)
    (r : Request)
    → now id ≡ Some (Waiting (expected_of r) false (v (count_submitted past))) → ((i : ℕ) → i ≢ id → now i ≡ table i)
    → ((p : ℕ) → p < count_submitted past → bearer past id ≢ Some p → (w p ≡ v p) × (g p ≡ h p))
    → TableMatches past w g table
    → TableMatches (entry.Event (Submit by id r) ∷ past) v h now
ask_tabled past w v g h table now by id r here elsewhere same t i = elim (eqb_tells id i) [
  | inl d ↦ rw d.0 (ap now (sym d.1) ∙ here)
  | inr d ↦ rw d.0 (elsewhere i (λ e. d.1 (sym e)) ∙ t i ∙ stand_same w v g h (id_state past i) (λ p at.
      (let is : bearer past i ≡ Some p = place_borne past i p at in
      same p (bearer_below past i p is) (λ here_too. d.1 (sym (bearer_one past i id p is here_too))))))
]

-- ---- a reply

pub take_tabled : (past : List Entry) (w g : ℕ → Bool) (table now : ℕ → Option IdRecord) (id p : ℕ) (a : AskedRequest)
    (b : Bool) (r : Reply)
    → id_state past id ≡ Pending p a b → now id ≡ record_of_reply (w p) (g p) (expected_of a.request) r
    → ((i : ℕ) → i ≢ id → now i ≡ table i)
    → TableMatches past w g table → TableMatches (entry.Event (Take id r) ∷ past) w g now
take_tabled past w g table now id p a b r is here elsewhere t i = elim (eqb_tells id i) [
  | inl d ↦ rw d.0 (ap now (sym d.1) ∙ here ∙ ap (λ x. stand w g (now_replied r x))
      (sym (ap (id_state past) (sym d.1) ∙ is)))
  | inr d ↦ rw d.0 (elsewhere i (λ e. d.1 (sym e)) ∙ t i)
]

-- ---- a ticket is spent, without an event: its reply was polled, or it was dropped

pub spend_tabled : (past : List Entry) (w v g h : ℕ → Bool) (table now : ℕ → Option IdRecord) (id p : ℕ)
    → place_of (id_state past id) ≡ Some p
    → now id ≡ stand v h (id_state past id) → ((i : ℕ) → i ≢ id → now i ≡ table i)
    → ((q : ℕ) → q ≢ p → (w q ≡ v q) × (g q ≡ h q)) → TableMatches past w g table → TableMatches past v h now
spend_tabled past w v g h table now id p at here elsewhere same t i = elim (eqb_tells id i) [
  | inl d ↦ subst (λ (k : ℕ). now k ≡ stand v h (id_state past k)) d.1 here
  | inr d ↦ elsewhere i (λ e. d.1 (sym e)) ∙ t i ∙ stand_same w v g h (id_state past i) (λ q here_too.
      same q (λ e. d.1 (bearer_one past id i p (place_borne past id p at)
      (place_borne past i q here_too ∙ ap (λ (n : ℕ). Some n) e))))
]

-- a polled reply: a HANDLE is a grant of the lane then, and any other is gone
pub polled_handle : (v h : ℕ → Bool) (p : ℕ) (a : AskedRequest) (handle : List ℕ) → v p ≡ false → h p ≡ true
    → stand v h (Replied p a (reply.Handle handle)) ≡ Some (Granted handle 1)
polled_handle v h p a handle none some = rw (none, some) refl

pub polled_plain : (v h : ℕ → Bool) (p : ℕ) (a : AskedRequest) (r : Reply) → v p ≡ false → h p ≡ false
    → stand v h (Replied p a r) ≡ None
polled_plain v h p a r none no_grant = rw (none, no_grant) refl

-- a ticket that is dropped before its reply came: the reply is wanted no more
pub dropped_waits : (v h : ℕ → Bool) (p : ℕ) (a : AskedRequest) (b : Bool) → v p ≡ false → stand v h (Pending p a b)
    ≡ Some (Waiting (expected_of a.request) b false)
dropped_waits v h p a b none = rw none refl

-- ---- a hand-out

sent_replied : (w g : Bool) (e : Expected) (r : Reply) → option_map sent_record (record_of_reply w g e r)
    ≡ record_of_reply w g e r
sent_replied true g e r = refl
sent_replied false true e (reply.Handle handle) = refl
sent_replied false true e (reply.Version version extensions) = refl
sent_replied false true e (reply.Status code message language) = refl
sent_replied false true e (reply.Content content) = refl
sent_replied false true e (reply.Names names) = refl
sent_replied false true e (reply.Attrs attrs) = refl
sent_replied false true e (reply.Extended content) = refl
sent_replied false false e r = refl

sent_stand : (w g : ℕ → Bool) (x : IdState) → option_map sent_record (stand w g x) ≡ stand w g (now_sent x)
sent_stand w g Free = refl
sent_stand w g (Pending p a b) = refl
sent_stand w g (Replied p a r) = sent_replied (w p) (g p) (expected_of a.request) r

pub send_tabled : (past : List Entry) (w g : ℕ → Bool) (table now : ℕ → Option IdRecord)
    → ((id : ℕ) → now id ≡ option_map sent_record (table id)) → TableMatches past w g table
    → TableMatches (entry.Event Send ∷ past) w g now
send_tabled past w g table now sends t id = sends id ∙ ap (option_map sent_record) (t id)
    ∙ sent_stand w g (id_state past id)
