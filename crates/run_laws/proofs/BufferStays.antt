-- The plan of a buffered write makes the same move once more replies were taken, unless it waits; but for the handle
-- that its WRITE bears, which is that of a grant.
use Rattle.std.proofs.Common.{
  ◌≡◌,
  ℕ,
  ◌==◌,
  Bool,
  true,
  false,
  not,
  List,
  [],
  ◌∷◌,
  ◌++◌,
  length,
  take,
  drop,
  Option,
  Some,
  None,
  if◌then◌else◌,
  refl,
  ap,
  sym,
  subst,
}
use Rattle.sftp_model.specs.declared.error.IoKind.TheVariants as kind
use Rattle.sftp_model.specs.declared.outcome.Outcome.TheVariants as outcome
use Rattle.sftp_model.specs.declared.reply.Reply.{Reply}
use Rattle.sftp_model.specs.declared.reply.Reply.TheVariants as reply
use Rattle.sftp_model.specs.declared.request.Request.{Request}
use Rattle.sftp_model.specs.declared.request.Request.TheVariants as request
use Rattle.sftp_model.specs.declared.slot.Buffer.{Buffer}
use Rattle.sftp_model.specs.declared.slot.Facts.{Facts}
use Rattle.sftp_model.specs.declared.slot.FileAt.{FileAt}
use Rattle.sftp_model.specs.declared.slot.Move.{Move}
use Rattle.sftp_model.specs.declared.slot.Move.TheVariants.{Ask, Wait, Done}
use Rattle.sftp_model.specs.declared.slot.Site.{Site}
use Rattle.sftp_model.specs.declared.slot.Slot.{Slot}
use Rattle.sftp_model.specs.declared.slot.Slot.TheVariants.{Empty, File, Buffered}
use Rattle.sftp_model.specs.Slots.{slot_at, with_slot}
use Rattle.plan_model.specs.BufferPlans.{
  after_write,
  ask_deferred,
  buf_write_all_next,
  buffered_rest,
  deferrable_len,
  is_full,
  taken_out,
  with_capacity,
  with_deferred,
  written_slot,
}
use Rattle.plan_model.specs.Moves.{Answers, Own, Plan, ask_write, further, handle_of, on_buffered, on_status, once_answered, overflows, refusal_move, refuse_locally}
use Rattle.plan_model.specs.OwnRequests.{AreAsked, ExtendsAnswers, oldest_first}
use Rattle.run_laws.proofs.MoveWords.{is_wait}

-- ---- moves that are the same but for the handle of a WRITE

abbrev pub AsksLike : Request → Move → Type 0
AsksLike (request.Write handle offset content) y = (other : List ℕ) × (y ≡ Ask (request.Write other offset content))
AsksLike r y = y ≡ Ask r

abbrev pub Like : Move → Move → Type 0
Like (Ask r) y = AsksLike r y
Like (Wait place) y = y ≡ Wait place
Like (Done o site) y = y ≡ Done o site

like_itself : (r : Request) → AsksLike r (Ask r)
like_itself (request.Write handle offset content) = (handle, refl)
like_itself other = refl

like_self : (x : Move) → Like x x
like_self (Ask r) = like_itself r
like_self (Wait place) = refl
like_self (Done o site) = refl

abbrev pub StaysLike : Move → Move → Type 0
StaysLike x y = is_wait x ≡ false → Like x y

like_on : (r : Request) (x y : Move) → AsksLike r x → StaysLike x y → AsksLike r y
like_on (request.Write handle offset content) x y (other, e) stays =
    let like : Like (Ask (request.Write other offset content)) y =
    subst (λ (w : Move). Like w y) e (stays (ap is_wait e)) in
    like
like_on (request.Close handle) x y e stays = (let like : Like (Ask (request.Close handle)) y =
    subst (λ (w : Move). Like w y) e (stays (ap is_wait e)) in like)
like_on other x y e stays = subst (λ (w : Move). Like w y) e (stays (ap is_wait e))

-- ---- requests in their order

abbrev pub FollowLike : (Own → Move) → Own → Type 0
FollowLike plan [] = Unit {0}
FollowLike plan (asked ∷ later) = AsksLike asked.1 (plan []) × FollowLike (λ own. plan (asked ∷ own)) later

abbrev pub PlanStaysLike : Plan → Type 0
PlanStaysLike plan = (before now : Answers) → ExtendsAnswers before now → (own : Own)
    → StaysLike (plan own before) (plan own now)

pub follow_like_as : (f g : Own → Move) (own : Own) → ((later : Own) → f later ≡ g later) → FollowLike f own
    → FollowLike g own
follow_like_as f g [] e follow = tt
follow_like_as f g (asked ∷ later) e follow = (
  subst (AsksLike asked.1) (e []) follow.0,
  follow_like_as (λ own. f (asked ∷ own)) (λ own. g (asked ∷ own)) later (λ own. e (asked ∷ own)) follow.1,
)

pub follow_like_still : (before now : Own → Move) (own : Own) → ((p : Own) → StaysLike (before p) (now p))
    → FollowLike before own → FollowLike now own
follow_like_still before now [] stays follow = tt
follow_like_still before now (asked ∷ later) stays follow = (
  like_on asked.1 (before []) (now []) follow.0 (stays []),
  follow_like_still (λ p. before (asked ∷ p)) (λ p. now (asked ∷ p)) later (λ p. stays (asked ∷ p)) follow.1,
)

follow_like_more : (plan : Own → Move) (own : Own) (asked : ℕ × Request) → FollowLike plan own
    → AsksLike asked.1 (plan own) → FollowLike plan (own ++ asked ∷ [])
follow_like_more plan [] asked follow e = (e, tt)
follow_like_more plan (first ∷ later) asked follow e = (
  follow.0,
  follow_like_more (λ own. plan (first ∷ own)) later asked follow.1 e,
)

pub asked_in_order_like : (plan : Plan) (past : Own) (answers : Answers) → PlanStaysLike plan
    → AreAsked plan past answers → FollowLike (λ own. plan own answers) (oldest_first past)
asked_in_order_like plan [] answers stays asked = tt
asked_in_order_like plan (a ∷ past) answers stays (before, earlier, is, none, more) =
    follow_like_more (λ own. plan own answers) (oldest_first past) a
    (follow_like_still (λ own. plan own before) (λ own. plan own answers) (oldest_first past)
    (stays before answers more) (asked_in_order_like plan past before stays earlier))
    (like_on a.1 (plan (oldest_first past) before) (plan (oldest_first past) answers)
    (subst (AsksLike a.1) (sym is) (like_itself a.1)) (stays before answers more (oldest_first past)))

-- ---- parts of plans

once_like : (before now : Answers) (place : ℕ) (x y : Reply → Move) → ExtendsAnswers before now
    → ((r : Reply) → StaysLike (x r) (y r)) → StaysLike (once_answered place (before place) x)
    (once_answered place (now place) y)
once_like before now place x y more stays = by_case (before place) refl
  where
    by_case : (o : Option Reply) → before place ≡ o → StaysLike (once_answered place o x)
        (once_answered place (now place) y)
    by_case None is = λ e. absurd (let both : true ≡ false = e in cc)
    by_case (Some r) is = λ e. subst (λ (w : Option Reply). Like (x r) (once_answered place w y))
        (sym (more place r is)) (stays r e)

if_like : (b : Bool) (x y z : Move) → StaysLike x y → StaysLike (if b then x else z) (if b then y else z)
if_like true x y z h = h
if_like false x y z h = λ e. like_self z

status_like : (site : Site) (x y : Move) → StaysLike x y → (r : Reply)
    → StaysLike (on_status r site x) (on_status r site y)
status_like site x y stays (reply.Status code message language) =
    if_like (code == 0) x y (refusal_move (reply.Status code message language) site) stays
status_like site x y stays other = λ e. refl

capacity_like : (before now : Answers) → ExtendsAnswers before now →
    (slot : ℕ) (file : FileAt) (buffer : Buffer) (site : Site) (facts : Facts) (x y : Buffer → Site → Move)
    → ((b : Buffer) (s : Site) → StaysLike (x b s) (y b s))
    → StaysLike (with_capacity slot file buffer site facts before x) (with_capacity slot file buffer site facts now y)
capacity_like before now more slot file buffer site facts x y stays = by_test (is_full facts buffer)
  where
    out : (writes : List (ℕ × ℕ)) → StaysLike (taken_out slot file buffer site before writes x)
        (taken_out slot file buffer site now writes y)
    out [] = stays buffer site
    out (write ∷ writes) = once_like before now write.0 _ _ more
        (status_like (with_deferred slot file buffer site writes) _ _
        (stays (record buffer { deferred = writes }) (with_deferred slot file buffer site writes)))

    by_test : (b : Bool) → StaysLike (if b then taken_out slot file buffer site before buffer.deferred x else
        x buffer site) (if b then taken_out slot file buffer site now buffer.deferred y else y buffer site)
    by_test true = out buffer.deferred
    by_test false = stays buffer site

write_like : (before now : Answers) (file : FileAt) (part : List ℕ) (site : Site)
    → StaysLike (ask_write file part site before) (ask_write file part site now)
write_like before now file part site = by_tests (not file.writable) (overflows file.offset (length part))
  where
    by_tests : (a b : Bool)
        → StaysLike (if a then refuse_locally kind.NotWritable site else if b then
        refuse_locally kind.OffsetOverflow site else
        Ask (request.Write (handle_of (before file.grant)) file.offset part))
        (if a then refuse_locally kind.NotWritable site else if b then refuse_locally kind.OffsetOverflow site else
        Ask (request.Write (handle_of (now file.grant)) file.offset part))
    by_tests true b = λ e. refl
    by_tests false true = λ e. refl
    by_tests false false = λ e. (handle_of (now file.grant), refl)

rest_like : (before now : Answers) → ExtendsAnswers before now
    → (slot : ℕ) (bytes : List ℕ) (file : FileAt) (buffer : Buffer)
    (site : Site) (facts : Facts) (own : Own)
    → StaysLike (buffered_rest slot bytes file buffer site facts own before)
    (buffered_rest slot bytes file buffer site facts own now)
rest_like before now more slot bytes file buffer site facts [] = by_tests (length bytes == 0) (not file.writable)
  where
    by_tests : (a b : Bool)
        → StaysLike (if a then Done outcome.Done site else if b then refuse_locally kind.NotWritable site else
        with_capacity slot file buffer site facts before (ask_deferred file bytes facts before))
        (if a then Done outcome.Done site else if b then refuse_locally kind.NotWritable site else
        with_capacity slot file buffer site facts now (ask_deferred file bytes facts now))
    by_tests true b = λ e. refl
    by_tests false true = λ e. refl
    by_tests false false =
        capacity_like before now more slot file buffer site facts (ask_deferred file bytes facts before)
        (ask_deferred file bytes facts now) (λ b s. write_like before now file
        (take (deferrable_len facts bytes b) bytes) s)
rest_like before now more slot bytes file buffer site facts (asked ∷ later) =
    capacity_like before now more slot file buffer site facts _ _
    (λ b s. rest_like before now more slot (drop (deferrable_len facts bytes b) bytes)
    (further file (deferrable_len facts bytes b)) (after_write b asked.0 (deferrable_len facts bytes b))
    (with_slot s slot (written_slot file b asked.0 (deferrable_len facts bytes b))) facts later)

pub buf_write_all_like : (slot : ℕ) (bytes : List ℕ) (site : Site) (facts : Facts)
    → PlanStaysLike (buf_write_all_next slot bytes site facts)
buf_write_all_like slot bytes site facts before now more own = by_slot (slot_at site slot)
  where
    by_slot : (x : Slot) → StaysLike (on_buffered x site (λ file buffer. buffered_rest slot bytes file buffer site facts
        own before)) (on_buffered x site (λ file buffer. buffered_rest slot bytes file buffer site facts own now))
    by_slot Empty = λ e. refl
    by_slot (File file) = λ e. refl
    by_slot (Buffered file buffer) = rest_like before now more slot bytes file buffer site facts own
