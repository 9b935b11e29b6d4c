use Rattle.std.proofs.Common.{ap, inl, inr, rules}
use Rattle.link_frames.proofs.Joining.{escaped}
use Rattle.sftp_client.specs.Sessions.{SftpValue}
use Rattle.sftp_client.proofs.Opening.{opened_after, opened_at_once}
use Rattle.sftp_client.proofs.sftp.Sftp.open_session.Goals.{then-is_none+in_ok-exchange-2, else-is_none}
use Rattle.sftp_client.proofs.sftp.Sftp.open_session.Goals as goal

pub returns-in_err-exchange : goal.returns-in_err-exchange
returns-in_err-exchange g c =
    rw (escaped c.from_residual.result c.in_err-exchange.field-0.0 c.from_residual.ensures.1)
    (inl c.in_err-exchange.ensures)

pub returns-in_err-exchange-2 : goal.returns-in_err-exchange-2
returns-in_err-exchange-2 g c =
    rw (escaped c.from_residual-in_err-exchange-2.result c.in_err-exchange-2.field-0.0
    c.from_residual-in_err-exchange-2.ensures.1)
    (inr (record {
      greeted = c.exchange.new.self;
      greets = c.in_ok-exchange.ensures;
      asks = search rules;
      stops = c.in_err-exchange-2.ensures;
    }))

pub returns : goal.returns
returns g c = elim c.if-is_none.branch [
  | then-is_none+in_ok-exchange-2 w ↦ rw (w.self-is) (opened_after g.L.LinkState.state c.args.self.now
      c.exchange.new.self
      w.exchange-then-is_none.new.self (ap (λ (s : SftpValue _). s.core.phase) c.requires.empty)
      c.in_ok-exchange.ensures (search rules)
      w.in_ok-exchange-2.ensures)
  | else-is_none w ↦ rw (w.self-is) (opened_at_once g.L.LinkState.state c.args.self.now c.exchange.new.self
      c.in_ok-exchange.ensures (search rules))
]
