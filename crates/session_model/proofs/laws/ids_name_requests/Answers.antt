use Rattle.session_model.proofs.RequestLaws.{bearer_one}
use Rattle.session_model.proofs.JournalLaws.{unanswered_borne, unanswered_apart}
use Rattle.session_model.proofs.laws.ids_name_requests.Goals as goal

pub returns : goal.returns
returns c = record { one_id = bearer_one; borne = unanswered_borne; apart = unanswered_apart }
