-- What a session tells in numbers is what its journal says.
use Rattle.std.proofs.Common.{◌≡◌, ◌+◌, ◌-◌, List, [], ◌∷◌, refl, ap, arith, if◌then◌else◌}
use Rattle.std.specs.Prelude.{length}
use Rattle.std.proofs.lemmas.List.{length-append}
use Rattle.sftp_core.specs.Core.{awaited_of, queued_of, unanswered_of}
use Rattle.sftp_core.specs.Info.{hello_of}
use Rattle.session_model.specs.declared.event.Event.TheVariants.{Send, Submit}
use Rattle.session_model.specs.declared.entry.Entry.{Entry}
use Rattle.session_model.specs.declared.entry.Entry.TheVariants as entry
use Rattle.session_model.specs.Readings.{count_submitted, count_sent, unsent_requests, count_awaited, count_unanswered}
use Rattle.session_work.specs.declared.lanes.Lanes.{Lanes}
use Rattle.session_work.specs.Working.{IsOpened, past_of}

-- what was asked is what was sent and what is unsent
pub unsent_count : (past : List Entry) → length (unsent_requests past) + count_sent past ≡ count_submitted past
unsent_count [] = refl
unsent_count (entry.Event (Submit by id r) ∷ past) =
    let old = unsent_count past in
    let more = length-append (unsent_requests past) ((id, r) ∷ []) in
    omega (arith, old, more)
unsent_count (entry.Event Send ∷ past) = omega arith
unsent_count (_ ∷ past) = unsent_count past

pub queued_count : (w : Lanes) → IsOpened w → queued_of w.core ≡ count_submitted (past_of w) - count_sent (past_of w)
queued_count w o =
    let queue : length w.core.queue ≡ length (unsent_requests (past_of w)) = ap length o.1.rest.between.tied.work.queue
    in
    let all = unsent_count (past_of w) in
    omega (arith, queue, all)

pub awaited_count : (w : Lanes) → IsOpened w → awaited_of w.core ≡ count_awaited (past_of w)
awaited_count w o =
    let k = o.1.rest.between.tied.work in
    let hello : (if w.core.hello_sent then hello_of w.core.phase else 0) ≡ 0 =
    (λ i. if k.greeted i then hello_of (k.phase i) else 0) in
    let s = o.1.rest.between.counted.sent in
    omega (arith, hello, s)

pub unanswered_count : (w : Lanes) → IsOpened w → unanswered_of w.core ≡ count_unanswered (past_of w)
unanswered_count w o =
    let hello : hello_of w.core.phase ≡ 0 = ap hello_of o.1.rest.between.tied.work.phase in
    let n = o.1.rest.between.counted.waiting in
    omega (arith, hello, n)
