-- Words that tell moves, outcomes and replies apart.
use Rattle.std.proofs.Common.{◌≡◌, ℕ, Bool, true, false, List, [], Option, Some, None, if◌then◌else◌, ap, sym, subst}
use Rattle.sftp_model.specs.declared.outcome.Outcome.{Outcome}
use Rattle.sftp_model.specs.declared.outcome.Outcome.TheVariants as outcome
use Rattle.sftp_model.specs.declared.reply.Reply.{Reply}
use Rattle.sftp_model.specs.declared.reply.Reply.TheVariants as reply
use Rattle.sftp_model.specs.declared.request.Request.{Request}
use Rattle.sftp_model.specs.declared.slot.Move.{Move}
use Rattle.sftp_model.specs.declared.slot.Move.TheVariants.{Ask, Wait, Done}
use Rattle.sftp_model.specs.declared.slot.Site.{Site}
use Rattle.session_model.specs.Served.{IsReply}
use Rattle.plan_model.specs.Moves.{once_answered}

-- ---- moves

abbrev pub is_ask : Move → Bool
is_ask (Ask r) = true
is_ask (Wait place) = false
is_ask (Done o site) = false

abbrev pub is_wait : Move → Bool
is_wait (Ask r) = false
is_wait (Wait place) = true
is_wait (Done o site) = false

abbrev pub is_done : Move → Bool
is_done (Ask r) = false
is_done (Wait place) = false
is_done (Done o site) = true

abbrev pub asked_of : Request → Move → Request
asked_of other (Ask r) = r
asked_of other (Wait place) = other
asked_of other (Done o site) = other

abbrev pub outcome_of : Move → Outcome
outcome_of (Ask r) = outcome.NoFile
outcome_of (Wait place) = outcome.NoFile
outcome_of (Done o site) = o

abbrev pub site_of : Site → Move → Site
site_of other (Ask r) = other
site_of other (Wait place) = other
site_of other (Done o site) = site

abbrev pub is_all_done : Outcome → Bool
is_all_done outcome.Done = true
is_all_done other = false

-- a request that may be refused before it is asked
pub asked_unless : (refused : Bool) (o : Outcome) (site : Site) (r asked : Request)
    → (if refused then Done o site else Ask r) ≡ Ask asked → asked ≡ r
asked_unless true o site r asked e = absurd (let both : false ≡ true = ap is_ask e in cc)
asked_unless false o site r asked e = ap (asked_of asked) (sym e)

-- ---- replies

abbrev pub code_of : Reply → ℕ
code_of (reply.Status code message language) = code
code_of other = 1

abbrev pub handle_in : Reply → List ℕ
handle_in (reply.Handle handle) = handle
handle_in other = []

-- a call that is done has got the reply, which is this one
pub taken_is : (place : ℕ) (o : Option Reply) (x : Reply) (go : Reply → Move) (ended : Outcome) (left : Site)
    → IsReply o x → once_answered place o go ≡ Done ended left → (o ≡ Some x) × (go x ≡ Done ended left)
taken_is place None x go ended left is e = absurd (let both : false ≡ true = ap is_done e in cc)
taken_is place (Some r) x go ended left is e = (
  ap (λ (w : Reply). Some w) is,
  subst (λ (w : Reply). go w ≡ Done ended left) is e,
)
