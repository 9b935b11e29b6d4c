-- Several exchanges.
use Rattle.std.proofs.Common.{◌≡◌, ℕ, List, [], ◌∷◌, ◌++◌, take, refl, ap, sym, ◌∙◌, subst, append_assoc}
use Rattle.std.specs.Prelude.{Ok, None, Option, Result, Some}
use Rattle.std.specs.List.{flat_map}
use Rattle.std.proofs.lemmas.List.{append-nil}
use Rattle.std.proofs.lemmas.Grind.{flat_map-append}
use Rattle.ssh_encoding.specs.Writing.{string}
use Rattle.ssh_encoding.specs.declared.error.Error.{Error}
use Rattle.sftp_link.specs.Told.{GotAll, SentAll, IfLogged}
use Rattle.sftp_link.specs.Views.{LinkView}
use Rattle.sftp_link.specs.declared.piece.Piece.{Piece}
use Rattle.sftp_link.proofs.Telling.{told_on, told_self}
use Rattle.ssh_channel.specs.Channels.{AnswersBody, ReceivesBodies, ReceivesIfUsable, SshChannelState}
use Rattle.ssh_channel.specs.Messages.{answer_of, message_at}
use Rattle.ssh_channel.specs.LogBytes.{LogsBytes}
use Rattle.ssh_channel.specs.ChannelStates.{
  AreAllowed,
  ChannelData,
  after_message,
  after_read,
  after_exchange,
  after_exchanges,
  answer_to_read,
  IsAllowedRead,
  adjust_packet,
  after_adjust,
  sent_in_exchange,
  sent_in_exchanges,
}
use Rattle.ssh_channel.specs.declared.message.Message.{Message}
use Rattle.ssh_channel.specs.declared.refusal.Refusal.{Refusal}
use Rattle.ssh_channel.proofs.Logs.{logs_none, logs_on, logs_exchange}

pub after_exchanges-append : (t : ChannelData) (xs ys : List (List ℕ)) → after_exchanges t (xs ++ ys)
    ≡ after_exchanges (after_exchanges t xs) ys
after_exchanges-append t [] ys = refl
after_exchanges-append t (x ∷ xs) ys = after_exchanges-append (after_exchange t x) xs ys

pub sent_in_exchanges-append : (t : ChannelData) (xs ys : List (List ℕ))
    → sent_in_exchanges t (xs ++ ys) ≡ sent_in_exchanges t xs ++ sent_in_exchanges (after_exchanges t xs) ys
sent_in_exchanges-append t [] ys = refl
sent_in_exchanges-append t (x ∷ xs) ys =
    ap (λ (w : List ℕ). sent_in_exchange t x ++ w) (sent_in_exchanges-append (after_exchange t x) xs ys)
    ∙ sym (append_assoc (sent_in_exchange t x) (sent_in_exchanges (after_exchange t x) xs)
    (sent_in_exchanges (after_exchanges (after_exchange t x) xs) ys))

pub are_allowed-append : (t : ChannelData) (xs ys : List (List ℕ)) → AreAllowed t xs
    → AreAllowed (after_exchanges t xs) ys → AreAllowed t (xs ++ ys)
are_allowed-append t [] ys p q = q
are_allowed-append t (x ∷ xs) ys p q = (p.0, are_allowed-append (after_exchange t x) xs ys p.1 q)

usable_none : (refusal : Option Refusal) → ReceivesIfUsable refusal []
usable_none None = tt
usable_none (Some why) = refl

usable_on : (refusal : Option Refusal) (xs ys : List (List ℕ)) → ReceivesIfUsable refusal xs
    → ReceivesIfUsable refusal ys → ReceivesIfUsable refusal (xs ++ ys)
usable_on None xs ys p q = tt
usable_on (Some why) xs ys p q = λ i. p i ++ q i

pub receives_none : {L S : Type 0} (state : L → LinkView S) (a : SshChannelState L) → ReceivesBodies state [] a a
receives_none state a = record {
  log = told_self (LogsBytes [] []) (state a.link).log logs_none;
  usable = usable_none a.refusal;
  allowed = tt;
  channel =
      refl;
  left = refl;
}

pub receives_on : {L S : Type 0} (state : L → LinkView S) (xs ys : List (List ℕ)) (a b c : SshChannelState L)
    → ReceivesBodies state xs a b → ReceivesBodies state ys b c
    → ReceivesBodies state (xs ++ ys) a c
receives_on {L = L} state xs ys a b c p q =
    let sent : sent_in_exchanges a.channel xs ++ sent_in_exchanges b.channel ys
    ≡ sent_in_exchanges a.channel (xs ++ ys) =
    ap (λ (t : ChannelData). sent_in_exchanges a.channel xs ++ sent_in_exchanges t ys) p.channel
    ∙ sym (sent_in_exchanges-append a.channel xs ys) in
    let got : flat_map string xs ++ flat_map string ys ≡ flat_map string (xs ++ ys) = sym (flat_map-append string xs ys)
    in
    record {
      log = told_on (LogsBytes (sent_in_exchanges a.channel xs) (flat_map string xs))
          (LogsBytes (sent_in_exchanges b.channel ys) (flat_map string ys))
          (LogsBytes (sent_in_exchanges a.channel (xs ++ ys)) (flat_map string (xs ++ ys))) (state a.link).log
          (state b.link).log (state c.link).log p.log q.log
          (λ x y z f g. subst (λ (w : List ℕ). LogsBytes w (flat_map string (xs ++ ys)) x z) sent
          (subst (λ (w : List ℕ). LogsBytes (sent_in_exchanges a.channel xs ++ sent_in_exchanges b.channel ys) w x z)
          got
          (logs_on (sent_in_exchanges a.channel xs) (flat_map string xs) (sent_in_exchanges b.channel ys)
          (flat_map string ys) x y z f g)));
      usable = usable_on a.refusal xs ys p.usable (subst (λ (r : Option Refusal). ReceivesIfUsable r ys)
          (ap (λ (k : SshChannelState L). k.refusal) p.left) q.usable);
      allowed = are_allowed-append a.channel xs ys p.allowed (subst (λ (t : ChannelData). AreAllowed t ys) p.channel
          q.allowed);
      channel = q.channel ∙ (ap (λ (t : ChannelData). after_exchanges t ys) p.channel
          ∙ sym (after_exchanges-append a.channel xs ys));
      left = q.left ∙ ap (λ (k : SshChannelState L). record k { link = c.link; buffer = c.buffer; channel = c.channel })
          p.left;
    }

-- Three logs in a row.
exchange_log : (r p a : List ℕ) (sent got : List ℕ) → r ++ a ≡ sent → p ≡ got → (w x y z : Option (List Piece))
    → IfLogged (SentAll r) w x → IfLogged (GotAll p) x y
    → IfLogged (SentAll a) y z → IfLogged (LogsBytes sent got) w z
exchange_log r p a sent got e f w x y z h k m =
    told_on (λ u v. (mid : List Piece) × SentAll r u mid × GotAll p mid v) (SentAll a) (LogsBytes sent got) w y z
    (told_on (SentAll r) (GotAll p) (λ u v. (mid : List Piece) × SentAll r u mid × GotAll p mid v) w x y h k
    (λ u mid v s g. (mid, s, g)))
    m (λ u v o s t. subst (λ (q : List ℕ). LogsBytes q got u o) e
    (subst (λ (q : List ℕ). LogsBytes (r ++ a) q u o) f (logs_exchange r p a u s.0 v o s.1 s.2 t)))

-- One exchange.
pub receives_one : {L S : Type 0} (state : L → LinkView S) (n : ℕ) (old mid took new : SshChannelState L)
    → IfLogged (SentAll (adjust_packet old.channel)) (state old.link).log (state mid.link).log
    → mid ≡ record old { link = mid.link; channel = after_adjust old.channel }
    → IfLogged (GotAll (string (take n took.buffer))) (state mid.link).log (state took.link).log
    → took ≡ record mid { link = took.link; buffer = took.buffer }
    → AnswersBody state n took new
    → old.refusal ≡ None
    → ReceivesBodies state (take n took.buffer ∷ []) old new
receives_one {L = L} state n old mid took new back at came at' answers none =
    let body : List ℕ = take n took.buffer in
    let same : took.channel ≡ after_adjust old.channel = ap (λ (k : SshChannelState L). k.channel) at'
    ∙ ap (λ (k : SshChannelState L). k.channel) at in
    let read : message_at body ≡ Ok (answers.message, answers.applies.bytes) = answers.applies.read in
    let answer : answer_of took.channel.peer_number answers.message
    ≡ answer_to_read (after_adjust old.channel).peer_number (message_at body) =
    ap (λ (t : ChannelData). answer_of t.peer_number answers.message) same
    ∙ ap (λ (r : Result (Message × List ℕ) Error). answer_to_read (after_adjust old.channel).peer_number r) (sym read)
    in
    record {
      log = exchange_log (adjust_packet old.channel) (string body) (answer_of took.channel.peer_number answers.message)
          (sent_in_exchanges old.channel (body ∷ []))
          (flat_map string (body ∷ []))
          (ap (λ (w : List ℕ). adjust_packet old.channel ++ w) answer
          ∙ sym (append-nil (sent_in_exchange old.channel body)))
          (sym (append-nil (string body))) (state old.link).log (state mid.link).log (state took.link).log
          (state new.link).log back came answers.log;
      usable = subst (λ (r : Option Refusal). ReceivesIfUsable r (body ∷ [])) (sym none) tt;
      allowed = (
        subst (λ (r : Result (Message × List ℕ) Error). IsAllowedRead (after_adjust old.channel) r) (sym read)
            (subst (λ (t : ChannelData). IsAllowedRead t (Ok (answers.message, answers.applies.bytes))) same
            (answers.applies.unclosed, answers.applies.allowed)),
        tt,
      );
      channel = answers.applies.done
          ∙ (ap (λ (t : ChannelData). after_message t answers.message answers.applies.bytes) same
          ∙ ap (λ (r : Result (Message × List ℕ) Error). after_read (after_adjust old.channel) r) (sym read));
      left = subst (λ (r : List ℕ). new ≡ record old { link = new.link; buffer = r; channel = new.channel })
          (sym (ap (λ (k : SshChannelState L). k.buffer) answers.left))
          (answers.left ∙ (ap (λ (k : SshChannelState L). record k { link = new.link; channel = new.channel }) at'
          ∙ ap (λ (k : SshChannelState L). record k { link = new.link; buffer = took.buffer; channel = new.channel })
          at));
    }
