-- The effect of exchanges on the bytes ahead, on the window and on what both sides agreed on.
use Rattle.std.proofs.Common.{◌≡◌, ◌+◌, ℕ, List, [], ◌∷◌, ◌++◌, refl, ap, sym, ◌∙◌, append_assoc, arith}
use Rattle.std.specs.Prelude.{Ok, Err, Result, true, false, Bool, ◌==◌, if◌then◌else◌}
use Rattle.std.specs.List.{flat_map, sum_by}
use Rattle.std.proofs.lemmas.List.{append-nil}
use Rattle.std.proofs.lemmas.List.Sums.{sum_by-append}
use Rattle.ssh_encoding.specs.declared.error.Error.{Error}
use Rattle.ssh_channel.specs.Messages.{message_at}
use Rattle.ssh_channel.specs.ChannelStates.{ChannelData, after_adjust, after_exchange, after_exchanges, after_message, after_read, adjustment, grant_of, grant_of_read, payload_of, payload_of_read}
use Rattle.ssh_channel.specs.declared.message.Message.{Message}
use Rattle.ssh_channel.specs.declared.message.Message.TheVariants as says

-- ---- The bytes ahead

ahead_after : (t : ChannelData) (r : Result (Message × List ℕ) Error) → (after_read t r).ahead ≡ t.ahead
    ++ payload_of_read r
ahead_after t (Ok (says.Data c, bytes)) = refl
ahead_after t (Ok (says.ExtendedData c, bytes)) = sym (append-nil t.ahead)
ahead_after t (Ok (says.WindowAdjust c more, bytes)) = sym (append-nil t.ahead)
ahead_after t (Ok (says.Eof c, bytes)) = sym (append-nil t.ahead)
ahead_after t (Ok (says.Close c, bytes)) = sym (append-nil t.ahead)
ahead_after t (Ok (says.Request c w, bytes)) = sym (append-nil t.ahead)
ahead_after t (Ok (says.ExitStatus c n, bytes)) = sym (append-nil t.ahead)
ahead_after t (Ok (says.GlobalRequest w, bytes)) = sym (append-nil t.ahead)
ahead_after t (Ok (says.Success c, bytes)) = sym (append-nil t.ahead)
ahead_after t (Ok (says.Failure c, bytes)) = sym (append-nil t.ahead)
ahead_after t (Ok (says.OpenConfirmation c a b d, bytes)) = sym (append-nil t.ahead)
ahead_after t (Ok (says.OpenFailure c a, bytes)) = sym (append-nil t.ahead)
ahead_after t (Err e) = sym (append-nil t.ahead)

ahead_after_adjust : (b : Bool) (t : ChannelData) → (if b then t else record t { consumed = 0 }).ahead ≡ t.ahead
ahead_after_adjust true t = refl
ahead_after_adjust false t = refl

-- The payload of DATA is appended, in order.
pub ahead_of_exchanges : (t : ChannelData) (bodies : List (List ℕ)) → (after_exchanges t bodies).ahead ≡ t.ahead
    ++ flat_map payload_of bodies
ahead_of_exchanges t [] = sym (append-nil t.ahead)
ahead_of_exchanges t (body ∷ bodies) =
    ahead_of_exchanges (after_exchange t body) bodies
    ∙ (ap (λ (w : List ℕ). w ++ flat_map payload_of bodies) (ahead_after (after_adjust t) (message_at body)
    ∙ ap (λ (w : List ℕ). w ++ payload_of body) (ahead_after_adjust (adjustment t == 0) t))
    ∙ append_assoc t.ahead (payload_of body) (flat_map payload_of bodies))

-- The bytes ahead still are after a message.
pub ahead_of_message : (t : ChannelData) (message : Message) (bytes : List ℕ)
    → (more : List ℕ) × ((after_message t message bytes).ahead ≡ t.ahead ++ more)
ahead_of_message t message bytes = (payload_of_read (Ok (message, bytes)), ahead_after t (Ok (message, bytes)))

pub ahead_of_adjust : (t : ChannelData) → (after_adjust t).ahead ≡ t.ahead
ahead_of_adjust t = ahead_after_adjust (adjustment t == 0) t

-- ---- The window

window_after : (t : ChannelData) (r : Result (Message × List ℕ) Error) → (after_read t r).window ≡ t.window
    + grant_of_read r
window_after t (Ok (says.Data c, bytes)) = omega arith
window_after t (Ok (says.ExtendedData c, bytes)) = omega arith
window_after t (Ok (says.WindowAdjust c more, bytes)) = refl
window_after t (Ok (says.Eof c, bytes)) = omega arith
window_after t (Ok (says.Close c, bytes)) = omega arith
window_after t (Ok (says.Request c w, bytes)) = omega arith
window_after t (Ok (says.ExitStatus c n, bytes)) = omega arith
window_after t (Ok (says.GlobalRequest w, bytes)) = omega arith
window_after t (Ok (says.Success c, bytes)) = omega arith
window_after t (Ok (says.Failure c, bytes)) = omega arith
window_after t (Ok (says.OpenConfirmation c a b d, bytes)) = omega arith
window_after t (Ok (says.OpenFailure c a, bytes)) = omega arith
window_after t (Err e) = omega arith

window_after_adjust : (b : Bool) (t : ChannelData) → (if b then t else record t { consumed = 0 }).window ≡ t.window
window_after_adjust true t = refl
window_after_adjust false t = refl

-- The window is the one of before and the sum of what was granted.
pub window_of_exchanges : (t : ChannelData) (bodies : List (List ℕ)) → (after_exchanges t bodies).window ≡ t.window
    + sum_by grant_of bodies
window_of_exchanges t [] = omega arith
window_of_exchanges t (body ∷ bodies) =
    let both : sum_by grant_of (body ∷ bodies) ≡ (0 + grant_of_read (message_at body)) + sum_by grant_of bodies =
    sum_by-append grant_of (body ∷ []) bodies in
    let rest : (after_exchanges t (body ∷ bodies)).window ≡ (after_exchange t body).window + sum_by grant_of bodies =
    window_of_exchanges (after_exchange t body) bodies in
    let first : (after_exchange t body).window ≡ (after_adjust t).window + grant_of_read (message_at body) =
    window_after (after_adjust t) (message_at body) in
    let same : (after_adjust t).window ≡ t.window = window_after_adjust (adjustment t == 0) t in
    omega (arith, both, rest, first, same)

-- ---- What both sides agreed on

-- The number on the other side and the longest message are those of before.
abbrev pub IsSameChannel : ChannelData → ChannelData → Type 0
IsSameChannel t u = (u.peer_number ≡ t.peer_number) × (u.max_packet ≡ t.max_packet)

same_after : (t : ChannelData) (r : Result (Message × List ℕ) Error) → IsSameChannel t (after_read t r)
same_after t (Ok (says.Data c, bytes)) = (refl, refl)
same_after t (Ok (says.ExtendedData c, bytes)) = (refl, refl)
same_after t (Ok (says.WindowAdjust c more, bytes)) = (refl, refl)
same_after t (Ok (says.Eof c, bytes)) = (refl, refl)
same_after t (Ok (says.Close c, bytes)) = (refl, refl)
same_after t (Ok (says.Request c w, bytes)) = (refl, refl)
same_after t (Ok (says.ExitStatus c n, bytes)) = (refl, refl)
same_after t (Ok (says.GlobalRequest w, bytes)) = (refl, refl)
same_after t (Ok (says.Success c, bytes)) = (refl, refl)
same_after t (Ok (says.Failure c, bytes)) = (refl, refl)
same_after t (Ok (says.OpenConfirmation c a b d, bytes)) = (refl, refl)
same_after t (Ok (says.OpenFailure c a, bytes)) = (refl, refl)
same_after t (Err e) = (refl, refl)

same_after_adjust : (b : Bool) (t : ChannelData) → IsSameChannel t (if b then t else record t { consumed = 0 })
same_after_adjust true t = (refl, refl)
same_after_adjust false t = (refl, refl)

pub same_of_exchanges : (t : ChannelData) (bodies : List (List ℕ)) → IsSameChannel t (after_exchanges t bodies)
same_of_exchanges t [] = (refl, refl)
same_of_exchanges t (body ∷ bodies) =
    let rest : IsSameChannel (after_exchange t body) (after_exchanges t (body ∷ bodies)) =
    same_of_exchanges (after_exchange t body) bodies in
    let first : IsSameChannel (after_adjust t) (after_exchange t body) = same_after (after_adjust t) (message_at body)
    in
    let adjusted : IsSameChannel t (after_adjust t) = same_after_adjust (adjustment t == 0) t in
    (rest.0 ∙ (first.0 ∙ adjusted.0), rest.1 ∙ (first.1 ∙ adjusted.1))
