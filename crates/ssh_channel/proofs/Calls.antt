-- The calls of a channel, from the effects of their parts.
use Rattle.std.proofs.Common.{◌≡◌, ◌≤◌, ◌<◌, ◌+◌, ◌-◌, ℕ, List, [], ◌++◌, length, take, true, refl, ap, sym, ◌∙◌, subst, arith, append_assoc, inl, inr, true≢false}
use Rattle.std.specs.Prelude.{Ok, Err, Result, IfOk, IsSome, OnErr, false, Bool, nat_lt, ◌||◌}
use Rattle.std.specs.List.{flat_map, sum_by}
use Rattle.std.proofs.lemmas.Bool.{lt-ltb, ltb-true}
use Rattle.std.proofs.lemmas.Grind.{flat_map-append}
use Rattle.std.proofs.lemmas.List.{append-nil, nil_from_length}
use Rattle.std.proofs.lemmas.List.Sums.{sum_by-append}
use Rattle.ssh_encoding.specs.Writing.{string}
use Rattle.sftp_link.specs.Causes.{CountsDeviceFault}
use Rattle.sftp_link.specs.Moves.{HasReceived, HasSent}
use Rattle.sftp_link.specs.declared.device_error.DeviceError.{DeviceError}
use Rattle.sftp_link.specs.declared.device_error.DeviceError.TheVariants.{OutOfMemory, Failed}
use Rattle.sftp_link.specs.Told.{SentAll, IfLogged}
use Rattle.sftp_link.specs.Views.{LinkView}
use Rattle.ssh_channel.specs.Channels.{FailsBetween, FailsCall, KeepsAhead, ReceivesBodies, ReceivesSome, ReturnsBytes, SendDid, SendsMessage, SendsWhole, SshChannelState, channel_view}
use Rattle.ssh_channel.specs.Messages.{data_message, packet}
use Rattle.ssh_channel.specs.Numbers.{MAX_PACKET}
use Rattle.ssh_channel.specs.LogBytes.{LogsBytes}
use Rattle.ssh_channel.specs.ChannelStates.{AreAllowed, ChannelData, ConsumesAhead, after_exchanges, grant_of, meets_condition, payload_of, sent_in_exchanges}
use Rattle.ssh_channel.specs.declared.condition.Condition.{Condition}
use Rattle.ssh_channel.specs.declared.condition.Condition.TheVariants.{Readable, Writable}
use Rattle.ssh_channel.proofs.Logs.{logged_on, logged_sent}
use Rattle.ssh_channel.proofs.Payloads.{ahead_of_exchanges, same_of_exchanges, window_of_exchanges}
use Rattle.ssh_channel.proofs.Exchanges.{after_exchanges-append, are_allowed-append, receives_none, receives_on, sent_in_exchanges-append}

-- ---- Several parts of one call

-- Bytes that are ahead still are after two parts.
pub ahead_on : (a b c more : List ℕ) (k : (extra : List ℕ) × (c ≡ b ++ extra)) → b ≡ a ++ more
    → (extra : List ℕ) × (c ≡ a ++ extra)
ahead_on a b c more k e = (more ++ k.0, k.1 ∙ (ap (λ (w : List ℕ). w ++ k.0) e ∙ append_assoc a more k.0))

-- Exchanges, and others after them.
pub exchanges_on : {L S : Type 0} (state : L → LinkView S) (old mid mid' new : SshChannelState L)
    → ReceivesSome state old mid
    → ReceivesSome state mid' new → mid' ≡ mid → ReceivesSome state old new
exchanges_on {L = L} state old mid mid' new h k e =
    let k' : ReceivesSome state mid new = subst (λ (c : SshChannelState L). ReceivesSome state c new) e k in
    (h.0 ++ k'.0, receives_on state h.0 k'.0 old mid new h.1 k'.1)

-- A part that failed, after exchanges.
pub fails_on : {L S T : Type 0} (state : L → LinkView S) (old mid new : SshChannelState L)
    (result : Result T DeviceError)
    → ReceivesSome state old mid → FailsBetween state mid new result → FailsBetween state old new result
fails_on state old mid new (Ok x) h f = tt
fails_on state old mid new (Err e) h (inl refused) = inl refused
fails_on state old mid new (Err e) h (inr between) =
    inr (between.0, exchanges_on state old mid mid new h between.1 refl)

-- There is a refusal after an error.
pub fails_refused : {L S T : Type 0} (state : L → LinkView S) (old new : SshChannelState L)
    (result : Result T DeviceError)
    → OnErr result (IsSome new.refusal) → FailsBetween state old new result
fails_refused state old new (Ok x) refused = tt
fails_refused state old new (Err e) refused = inl refused

-- Memory ran out before anything moved.
pub fails_early : {L S : Type 0} (T : Type 0) (state : L → LinkView S) (old new : SshChannelState L) → new ≡ old
    → FailsBetween {T = T} state old new (Err OutOfMemory)
fails_early {L = L} T state old new is =
    inr (refl, subst (λ (c : SshChannelState L). ReceivesSome state old c) (sym is) ([], receives_none state old))

-- ---- The condition that a call waits for

-- Bytes are ahead.
pub is_readable : (t : ChannelData) → 0 < length t.ahead → meets_condition Readable t ≡ true
is_readable t some = ap (λ (b : Bool). b || t.eof) (lt-ltb 0 (length t.ahead) some)

-- If no bytes are ahead, the stream ended.
pub is_ended : (t : ChannelData) → meets_condition Readable t ≡ true → t.ahead ≡ [] → t.eof ≡ true
is_ended t met none = subst (λ (w : List ℕ). (nat_lt 0 (length w) || t.eof) ≡ true) none met

or_false : (b : Bool) → (b || false) ≡ true → b ≡ true
or_false true met = refl
or_false false met = absurd (true≢false (sym met))

-- Bytes may be sent, if the channel is not closed.
pub is_writable : (t : ChannelData) → meets_condition Writable t ≡ true → t.closed ≡ false → 0 < t.window
is_writable t met closed =
    ltb-true 0 t.window (or_false (nat_lt 0 t.window) (subst (λ (b : Bool). (nat_lt 0 t.window || b) ≡ true) closed met))

-- No exchange is made if the condition was met already.
pub exchanged_early : {L : Type 0} (condition : Condition) (old mid mid' : SshChannelState L) (A : Type 0) → mid' ≡ mid
    → meets_condition condition mid'.channel ≡ false → mid ≡ old → meets_condition condition old.channel ≡ true → A
exchanged_early {L = L} condition old mid mid' A is unmet same met =
    absurd (true≢false (sym met ∙ (ap (λ (k : SshChannelState L). meets_condition condition k.channel) (sym same)
    ∙ (ap (λ (k : SshChannelState L). meets_condition condition k.channel) (sym is) ∙ unmet))))

-- ---- A send

-- One message was sent.
pub sends_one : {L S : Type 0} (state : L → LinkView S) (bytes sent : List ℕ)
    (old old' mid' mid new : SshChannelState L) (n : ℕ)
    → SendsWhole state sent old' mid' (Ok tt) → old.channel.closed ≡ false → (0 < n) × (n ≤ length bytes) → n
    ≤ old.channel.window
    → (n ≤ old.channel.max_packet) × (n ≤ MAX_PACKET) → sent ≡ packet
    (data_message old.channel.peer_number (take n bytes))
    → new ≡ record mid { channel = record mid.channel { window = mid.channel.window - n } } → old' ≡ old → mid' ≡ mid
    → SendsMessage state bytes old new n
sends_one {L = L} state bytes sent old old' mid' mid new n whole' unclosed within w most is spent e f =
    let whole : SendsWhole state sent old mid (Ok tt) =
    subst (λ (k : SshChannelState L). SendsWhole state sent k mid (Ok tt)) e
    (subst (λ (k : SshChannelState L). SendsWhole state sent old' k (Ok tt)) f whole') in
    let channel : mid.channel ≡ old.channel = ap (λ (k : SshChannelState L). k.channel) whole.left in
    let after : new.channel ≡ record old.channel { window = old.channel.window - n } =
    ap (λ (k : SshChannelState L). k.channel) spent ∙ ap (λ (t : ChannelData). record t { window = t.window - n })
    channel in
    let window : new.channel.window ≡ old.channel.window - n = ap (λ (t : ChannelData). t.window) after in
    record {
      bodies = [];
      allowed = tt;
      within = within;
      most = most;
      window = omega (arith, w, window);
      order = ap (λ (t : ChannelData). t.ahead) after ∙ sym (append-nil old.channel.ahead);
      channel = after ∙ ap (λ (k : ℕ). record old.channel { window = k }) (sym window);
      log = subst (λ (v : List ℕ). IfLogged (LogsBytes v []) (state old.link).log (state new.link).log) is
          (logged_sent sent (state old.link).log (state new.link).log
          (subst (λ (k : L). IfLogged (SentAll sent) (state old.link).log (state k).log)
          (sym (ap (λ (k : SshChannelState L). k.link) spent)) whole.log));
      unclosed = ap (λ (t : ChannelData). t.closed) after ∙ unclosed;
      refusal = ap (λ (k : SshChannelState L). k.refusal) spent ∙ ap (λ (k : SshChannelState L). k.refusal) whole.left;
    }

-- Exchanges, and then one message was sent.
pub sends_on : {L S : Type 0} (state : L → LinkView S) (bytes : List ℕ) (xs : List (List ℕ))
    (old mid new : SshChannelState L) (n : ℕ)
    → ReceivesBodies state xs old mid → SendsMessage state bytes mid new n → SendsMessage state bytes old new n
sends_on {L = L} state bytes xs old mid new n h s =
    let after : after_exchanges mid.channel s.bodies ≡ after_exchanges old.channel (xs ++ s.bodies) =
    ap (λ (t : ChannelData). after_exchanges t s.bodies) h.channel
    ∙ sym (after_exchanges-append old.channel xs s.bodies) in
    let number : mid.channel.peer_number ≡ old.channel.peer_number =
    ap (λ (t : ChannelData). t.peer_number) h.channel ∙ (same_of_exchanges old.channel xs).0 in
    let longest : mid.channel.max_packet ≡ old.channel.max_packet =
    ap (λ (t : ChannelData). t.max_packet) h.channel ∙ (same_of_exchanges old.channel xs).1 in
    let window : mid.channel.window ≡ old.channel.window + sum_by grant_of xs =
    ap (λ (t : ChannelData). t.window) h.channel ∙ window_of_exchanges old.channel xs in
    let ahead : mid.channel.ahead ≡ old.channel.ahead ++ flat_map payload_of xs =
    ap (λ (t : ChannelData). t.ahead) h.channel ∙ ahead_of_exchanges old.channel xs in
    let last : ℕ → List ℕ = λ k. packet (data_message k (take n bytes)) in
    let answers : sent_in_exchanges old.channel xs ++ sent_in_exchanges mid.channel s.bodies
    ≡ sent_in_exchanges old.channel (xs ++ s.bodies) =
    ap (λ (t : ChannelData). sent_in_exchanges old.channel xs ++ sent_in_exchanges t s.bodies) h.channel
    ∙ sym (sent_in_exchanges-append old.channel xs s.bodies) in
    let all : sent_in_exchanges old.channel xs ++ (sent_in_exchanges mid.channel s.bodies
    ++ last mid.channel.peer_number)
    ≡ sent_in_exchanges old.channel (xs ++ s.bodies) ++ last old.channel.peer_number =
    sym (append_assoc (sent_in_exchanges old.channel xs) (sent_in_exchanges mid.channel s.bodies)
    (last mid.channel.peer_number))
    ∙ (ap (λ (w : List ℕ). w ++ last mid.channel.peer_number) answers
    ∙ ap (λ (k : ℕ). sent_in_exchanges old.channel (xs ++ s.bodies) ++ last k) number) in
    let got : flat_map string xs ++ flat_map string s.bodies ≡ flat_map string (xs ++ s.bodies) =
    sym (flat_map-append string xs s.bodies) in
    let log : IfLogged (LogsBytes (sent_in_exchanges old.channel xs
    ++ (sent_in_exchanges mid.channel s.bodies ++ last mid.channel.peer_number))
    (flat_map string xs ++ flat_map string s.bodies)) (state old.link).log (state new.link).log =
    logged_on (sent_in_exchanges old.channel xs) (flat_map string xs)
    (sent_in_exchanges mid.channel s.bodies ++ last mid.channel.peer_number)
    (flat_map string s.bodies) (state old.link).log (state mid.link).log (state new.link).log h.log s.log in
    record {
      bodies = xs ++ s.bodies;
      allowed = are_allowed-append old.channel xs s.bodies h.allowed
          (subst (λ (t : ChannelData). AreAllowed t s.bodies) h.channel s.allowed);
      within = s.within;
      most = (subst (λ (k : ℕ). n ≤ k) longest s.most.0, s.most.1);
      window = omega (arith, s.window, window, sum_by-append grant_of xs s.bodies);
      order = s.order ∙ (ap (λ (w : List ℕ). w ++ flat_map payload_of s.bodies) ahead
          ∙ (append_assoc old.channel.ahead (flat_map payload_of xs) (flat_map payload_of s.bodies)
          ∙ ap (λ (w : List ℕ). old.channel.ahead ++ w) (sym (flat_map-append payload_of xs s.bodies))));
      channel = s.channel ∙ ap (λ (t : ChannelData). record t { window = new.channel.window }) after;
      log = subst (λ (w : List ℕ). IfLogged (LogsBytes w (flat_map string (xs ++ s.bodies))) (state old.link).log
          (state new.link).log) all
          (subst (λ (w : List ℕ). IfLogged (LogsBytes (sent_in_exchanges old.channel xs
          ++ (sent_in_exchanges mid.channel s.bodies ++ last mid.channel.peer_number)) w) (state old.link).log
          (state new.link).log) got log);
      unclosed = s.unclosed;
      refusal = s.refusal ∙ ap (λ (k : SshChannelState L). k.refusal) h.left;
    }

-- The same, whether or not the message was sent.
pub sends_after : {L S : Type 0} (state : L → LinkView S) (bytes : List ℕ) (old mid new : SshChannelState L)
    (result : Result ℕ DeviceError)
    → ReceivesSome state old mid → IfOk result (λ n. SendsMessage state bytes mid new n)
    → IfOk result (λ n. SendsMessage state bytes old new n)
sends_after state bytes old mid new (Ok n) h s = sends_on state bytes h.0 old mid new n h.1 s
sends_after state bytes old mid new (Err e) h s = tt

-- ---- The end of a call, which sets or clears the flag of the end

-- A call failed.
pub fails_call : {L S : Type 0} (T : Type 0) (state : L → LinkView S) (old mid new : SshChannelState L)
    (e : DeviceError)
    → KeepsAhead {T = T} state old mid (Err e) → FailsBetween {T = T} state old mid (Err e) → new
    ≡ record mid { ended = false }
    → FailsCall state old new e
fails_call {L = L} T state old mid new e k (inl refused) is =
    subst (λ (c : SshChannelState L). FailsCall state old c e) (sym is)
    record { ahead = k.ahead; refused = inl refused }
fails_call {L = L} T state old mid new e k (inr between) is =
    subst (λ (c : SshChannelState L). FailsCall state old c e) (sym is)
    record {
      ahead = k.ahead;
      refused = inr (
        between.0,
        (
          between.1.0,
          record {
            log = between.1.1.log;
            usable = between.1.1.usable;
            allowed = between.1.1.allowed;
            channel = between.1.1.channel;
            left = ap (λ (c : SshChannelState L). record c { ended = false }) between.1.1.left;
          },
        ),
      );
    }

pub has_sent : {L S : Type 0} (state : L → LinkView S) (bytes : List ℕ) (old mid new : SshChannelState L)
    (result : Result ℕ DeviceError)
    → IfOk result (λ n. SendsMessage state bytes old mid n) → KeepsAhead state old mid result → new
    ≡ record mid { ended = false }
    → HasSent S bytes (channel_view state old) (channel_view state new) result
has_sent {L = L} {S = S} state bytes old mid new (Ok n) s k is =
    subst (λ (c : SshChannelState L). HasSent S bytes (channel_view state old) (channel_view state c) (Ok n)) (sym is)
    record { within = s.within; log = tt; end = refl; cause = k.cause; same = k.same }
has_sent {L = L} {S = S} state bytes old mid new (Err e) s k is =
    subst (λ (c : SshChannelState L). HasSent S bytes (channel_view state old) (channel_view state c) (Err e)) (sym is)
    record { within = tt; log = tt; end = refl; cause = k.cause; same = k.same }

pub send_did : {L S : Type 0} (state : L → LinkView S) (bytes : List ℕ) (old mid new : SshChannelState L)
    (result : Result ℕ DeviceError)
    → IfOk result (λ n. SendsMessage state bytes old mid n) → KeepsAhead state old mid result
    → FailsBetween state old mid result
    → new ≡ record mid { ended = false } → SendDid state bytes old new result
send_did {L = L} state bytes old mid new (Ok n) s k f is = subst
    (λ (c : SshChannelState L). SendDid state bytes old c (Ok n)) (sym is)
    record {
      bodies = s.bodies;
      allowed = s.allowed;
      within = s.within;
      most = s.most;
      window = s.window;
      order = s.order;
      channel = s.channel;
      log = s.log;
      unclosed = s.unclosed;
      refusal = s.refusal;
    }
send_did state bytes old mid new (Err e) s k f is = fails_call ℕ state old mid new e k f is

-- ---- A recv

cause_of : (T U : Type 0) (a b : ℕ) (e : DeviceError) → CountsDeviceFault {T = T} a b (Err e)
    → CountsDeviceFault {T = U} a b (Err e)
cause_of T U a b OutOfMemory h = h
cause_of T U a b Failed h = h

-- A recv that failed.
pub receives_nothing : {L S : Type 0} (state : L → LinkView S) (room : List ℕ) (old mid new : SshChannelState L)
    (e : DeviceError)
    → KeepsAhead {T = Unit {0}} state old mid (Err e) → new ≡ record mid { ended = false }
    → HasReceived S room (channel_view state old) (channel_view state new) (Err e)
receives_nothing {L = L} {S = S} state room old mid new e k is =
    subst (λ (c : SshChannelState L). HasReceived S room (channel_view state old) (channel_view state c) (Err e))
    (sym is)
    record {
      within = tt;
      log = tt;
      end = refl;
      cause = cause_of (Unit {0}) ℕ ((state old.link).faults + old.faults) ((state mid.link).faults + mid.faults) e
          k.cause;
      same = k.same;
    }

-- Exchanges, and then bytes that are ahead were returned.
pub returns_bytes : {L S : Type 0} (state : L → LinkView S) (room : List ℕ) (old mid new : SshChannelState L)
    (channel : ChannelData)
    (ended : Bool) (n : ℕ) → 0 < length room → ReceivesSome state old mid
    → (mid.channel.ahead ≡ [] → mid.channel.eof ≡ true)
    → ConsumesAhead mid.channel channel room n → new ≡ record mid { channel = channel; ended = ended }
    → ReturnsBytes state room old new n
returns_bytes {L = L} state room old mid new channel ended n some h none gave is =
    subst (λ (c : SshChannelState L). ReturnsBytes state room old c n) (sym is)
    record {
      bodies = h.0;
      usable = h.1.usable;
      allowed = h.1.allowed;
      order = sym (ahead_of_exchanges old.channel h.0) ∙ (sym (ap (λ (t : ChannelData). t.ahead) h.1.channel)
          ∙ gave.gives.1);
      window = ap (λ (t : ChannelData). t.window) gave.left
          ∙ (ap (λ (t : ChannelData). t.window) h.1.channel ∙ window_of_exchanges old.channel h.0);
      end = λ zero. ap (λ (t : ChannelData). t.eof) gave.left
          ∙ none (nil_from_length mid.channel.ahead (omega (arith, some, zero, gave.gives.0)));
      channel = subst (λ (t : ChannelData). ConsumesAhead t channel room n) h.1.channel gave;
      log = h.1.log;
      refusal = ap (λ (k : SshChannelState L). k.refusal) h.1.left;
    }
