-- The opening of a channel, from the effects of its parts.
use Rattle.std.proofs.Common.{◌≡◌, ℕ, List, [], ◌++◌, take, ap, ◌∙◌, subst, arith}
use Rattle.std.specs.Prelude.{Err, IfOk, None, Ok, Result, false}
use Rattle.std.specs.List.{flat_map}
use Rattle.ssh_encoding.specs.Writing.{string}
use Rattle.sftp_link.specs.Told.{IfLogged}
use Rattle.sftp_link.specs.Views.{LinkView}
use Rattle.ssh_channel.specs.Channels.{KeepsAhead, ReceivesSome, SendsWhole, SshChannelState}
use Rattle.ssh_channel.specs.ChannelStates.{AreAllowed, ChannelData, after_exchanges, sent_in_exchanges}
use Rattle.ssh_channel.specs.Handshakes.{BeginsWith, ConfirmsSession, GreetsMaster, OpensChannel, OpensSession, ReceivesBody, SendsPacket, StartsSubsystem, greeting_packets, session_packet, subsystem_packet}
use Rattle.ssh_channel.specs.LogBytes.{LogsBytes}
use Rattle.ssh_channel.specs.Messages.{mux_packet}
use Rattle.ssh_channel.specs.Numbers.{MUX_C_PROXY, MUX_MSG_HELLO, MUX_S_PROXY, MUX_VERSION}
use Rattle.ssh_channel.specs.declared.subsystem_reply.SubsystemReply.TheVariants.{Granted}
use Rattle.ssh_channel.proofs.Logs.{logged_asked, logged_on, logged_sent}

-- Two packets were sent, each of which was answered by a body.
pub greets : {S : Type 0} (one two : List ℕ) (n m request : ℕ) (a b c d e : LinkView S)
    → SendsPacket (mux_packet MUX_MSG_HELLO MUX_VERSION) a b → ReceivesBody one n b c
    → BeginsWith MUX_MSG_HELLO MUX_VERSION (take n one)
    → SendsPacket (mux_packet MUX_C_PROXY 0) c d → ReceivesBody two m d e → BeginsWith MUX_S_PROXY request (take m two)
    → GreetsMaster a e
greets one two n m request a b c d e s r is_hello t q is_proxy = record {
  hello = take n one;
  proxy = take m two;
  request = request;
  is_hello = is_hello;
  is_proxy = is_proxy;
  log = logged_on (mux_packet MUX_MSG_HELLO MUX_VERSION) (string (take n one)) (mux_packet MUX_C_PROXY 0)
      (string (take m two)) a.log c.log e.log
      (logged_asked (mux_packet MUX_MSG_HELLO MUX_VERSION) (string (take n one)) a.log b.log c.log s.log r.log)
      (logged_asked (mux_packet MUX_C_PROXY 0) (string (take m two)) c.log d.log e.log t.log q.log);
  faults = q.faults ∙ (t.faults ∙ (r.faults ∙ s.faults));
  same = q.same ∙ (t.same ∙ (r.same ∙ s.same));
}

-- A session was asked for, and a body confirmed it.
pub opens_session : {S E : Type 0} (one : List ℕ) (n : ℕ) (a b c : LinkView S) (result : Result ChannelData E)
    → SendsPacket session_packet a b → ReceivesBody one n b c
    → IfOk result (λ channel. ConfirmsSession (take n one) channel) → IfOk result (λ channel. OpensSession a c channel)
opens_session one n a b c (Ok channel) s r is = record {
  confirmation = take n one;
  is_confirmation = is;
  log = logged_asked session_packet (string (take n one)) a.log b.log c.log s.log r.log;
  faults = r.faults ∙ s.faults;
  same = r.same ∙ s.same;
}
opens_session one n a b c (Err e) s r is = tt

-- A subsystem was asked for, and then the reply granted it.
pub starts_subsystem : {L S : Type 0} (state : L → LinkView S) (name : List ℕ) (old mid new : SshChannelState L)
    → SendsWhole state (subsystem_packet old.channel name) old mid (Ok tt) → ReceivesSome state mid new
    → KeepsAhead {T = Unit {0}} state mid new (Ok tt) → new.channel.reply ≡ Granted → StartsSubsystem state name old new
starts_subsystem {L = L} state name old mid new s h k granted =
    let same : mid.channel ≡ old.channel = ap (λ (c : SshChannelState L). c.channel) s.left in
    let faults : mid.faults ≡ old.faults = ap (λ (c : SshChannelState L). c.faults) s.left in
    record {
      bodies = h.0;
      allowed = subst (λ (t : ChannelData). AreAllowed t h.0) same h.1.allowed;
      channel = h.1.channel ∙ ap (λ (t : ChannelData). after_exchanges t h.0) same;
      granted = granted;
      log = subst (λ (t : ChannelData). IfLogged (LogsBytes (subsystem_packet old.channel name
          ++ sent_in_exchanges t h.0) (flat_map string h.0))
          (state old.link).log (state new.link).log) same
          (logged_on (subsystem_packet old.channel name) [] (sent_in_exchanges mid.channel h.0) (flat_map string h.0)
          (state old.link).log (state mid.link).log (state new.link).log
          (logged_sent (subsystem_packet old.channel name) (state old.link).log (state mid.link).log s.log) h.1.log);
      faults = omega (arith, k.cause, s.cause, faults);
      same = k.same ∙ s.same;
      left = h.1.left ∙ ap (λ (c : SshChannelState L). record c
          { link = new.link; buffer = new.buffer; channel = new.channel }) s.left;
    }

-- A channel was opened: hellos, a session and its subsystem.
pub opens : {L S : Type 0} (state : L → LinkView S) (name : List ℕ) (link mid : L) (fresh new : SshChannelState L)
    → GreetsMaster (state link) (state mid)
    → OpensSession (state mid) (state fresh.link) fresh.channel → (fresh.refusal ≡ None) × (fresh.faults ≡ 0)
    × (fresh.ended ≡ false)
    → StartsSubsystem state name fresh new → OpensChannel state name link new
opens {L = L} state name link mid fresh new g o usable s =
    let faults : new.faults ≡ fresh.faults = ap (λ (c : SshChannelState L). c.faults) s.left in
    record {
      hello = g.hello;
      proxy = g.proxy;
      request = g.request;
      confirmation = o.confirmation;
      fresh = fresh.channel;
      bodies = s.bodies;
      is_hello = g.is_hello;
      is_proxy = g.is_proxy;
      is_confirmation = o.is_confirmation;
      allowed = s.allowed;
      channel = s.channel;
      granted = s.granted;
      log = logged_on greeting_packets (string g.hello ++ string g.proxy)
          (session_packet ++ (subsystem_packet fresh.channel name ++ sent_in_exchanges fresh.channel s.bodies))
          (string o.confirmation ++ flat_map string s.bodies) (state link).log (state mid).log (state new.link).log
          g.log
          (logged_on session_packet (string o.confirmation) (subsystem_packet fresh.channel name
          ++ sent_in_exchanges fresh.channel s.bodies)
          (flat_map string s.bodies) (state mid).log (state fresh.link).log (state new.link).log o.log s.log);
      faults = omega (arith, s.faults, faults, o.faults, g.faults);
      same = s.same ∙ (o.same ∙ g.same);
      usable = (
        ap (λ (c : SshChannelState L). c.refusal) s.left ∙ usable.0,
        faults ∙ usable.1,
        ap (λ (c : SshChannelState L). c.ended) s.left ∙ usable.2,
      );
    }
