-- Calls that are added to lanes, and lanes that are let go, change nothing of what a journal says of its requests.
use Rattle.std.proofs.Common.{◌≡◌, ◌==◌, ◌+◌, ℕ, Bool, true, false, List, [], ◌∷◌, ◌++◌, Option, Some, refl, ap, sym, ◌∙◌, if◌then◌else◌}
use Rattle.sftp_model.specs.declared.request.Request.{Request}
use Rattle.sftp_model.specs.declared.reply.Reply.{Reply}
use Rattle.session_model.specs.declared.event.Event.TheVariants.{Submit, Send, Take, Cancel, End}
use Rattle.session_model.specs.declared.entry.Entry.{Entry}
use Rattle.session_model.specs.declared.entry.Entry.TheVariants as entry
use Rattle.session_model.specs.Ids.{IdState, Pending, id_state, now_replied, now_sent}
use Rattle.session_model.specs.Readings.{AskedRequest, answer, count_submitted, asked_at, bearer, is_at, count_sent, unsent_requests, was_kept}
use Rattle.sftp_lanes.specs.Seen.{without_lanes}

-- what a journal says of its requests
pub record Told : Type 0 where
  pub asked : ℕ
  pub sent : ℕ
  pub bearer : ℕ → Option ℕ
  pub answer : ℕ → Option Reply
  pub request : ℕ → Option AskedRequest
  pub unsent : List (ℕ × Request)
  pub state : ℕ → IdState
  pub kept : Bool

abbrev pub told : List Entry → Told
told past = record {
  asked = count_submitted past;
  sent = count_sent past;
  bearer = bearer past;
  answer = answer past;
  request = asked_at past;
  unsent = unsent_requests past;
  state = id_state past;
  kept = was_kept past;
}

-- and says once this entry stands behind it
abbrev stepped : Entry → Told → Told
stepped (entry.Event (Submit by id r)) t = record t {
  asked = t.asked + 1;
  bearer = λ i. if id == i then Some t.asked else t.bearer i;
  request = λ place. if place == t.asked then Some (record { by = by; id = id; request = r }) else t.request place;
  unsent = t.unsent ++ (id, r) ∷ [];
  state = λ i. if id == i then Pending t.asked (record { by = by; id = id; request = r }) false else t.state i;
}
stepped (entry.Event Send) t = record t { sent = t.asked; unsent = []; state = λ i. now_sent (t.state i) }
stepped (entry.Event (Take id r)) t = record t {
  answer = λ place. if is_at (t.bearer id) place then Some r else t.answer place;
  state = λ i. if id == i then now_replied r (t.state i) else t.state i;
}
stepped (entry.Event (Cancel lane)) t = t
stepped (entry.Event (End lane call o)) t = t
stepped (entry.Added lane call) t = t
stepped (entry.LetGo lane) t = t
stepped (entry.Kept fault) t = record t { kept = true }

steps : (e : Entry) (past : List Entry) → told (e ∷ past) ≡ stepped e (told past)
steps (entry.Event (Submit by id r)) past = refl
steps (entry.Event Send) past = refl
steps (entry.Event (Take id r)) past = refl
steps (entry.Event (Cancel lane)) past = refl
steps (entry.Event (End lane call o)) past = refl
steps (entry.Added lane call) past = refl
steps (entry.LetGo lane) past = refl
steps (entry.Kept fault) past = refl

pub plain_told : (past : List Entry) → told past ≡ told (without_lanes past)
plain_told [] = refl
plain_told (entry.Added lane call ∷ past) = steps (entry.Added lane call) past ∙ plain_told past
plain_told (entry.LetGo lane ∷ past) = steps (entry.LetGo lane) past ∙ plain_told past
plain_told (entry.Event e ∷ past) = steps (entry.Event e) past ∙ ap (stepped (entry.Event e)) (plain_told past)
    ∙ sym (steps (entry.Event e) (without_lanes past))
plain_told (entry.Kept fault ∷ past) = steps (entry.Kept fault) past ∙ ap (stepped (entry.Kept fault)) (plain_told past)
    ∙ sym (steps (entry.Kept fault) (without_lanes past))

-- a journal that is this one but for its entries of lanes
pub told_as : (past bare : List Entry) → without_lanes past ≡ bare → told past ≡ told bare
told_as past bare is = plain_told past ∙ ap told is
