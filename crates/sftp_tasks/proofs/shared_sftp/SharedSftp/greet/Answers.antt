use Rattle.std.proofs.Common.{subst, inr, Bool}
use Rattle.sftp_tasks.specs.Opening.{SendsHelloOrNot}
use Rattle.sftp_tasks.proofs.OpeningLaws.{opening_on}
use Rattle.sftp_tasks.proofs.shared_sftp.SharedSftp.greet.Goals as goal

pub returns-in-Ok-clause-only : goal.returns-in-Ok-clause-only
returns-in-Ok-clause-only g c =
    opening_on c.args.seat.now.lane c.send_hello.new.seat.lane _ _ _ c.send_hello.ensures.own.1
    c.send_hello.ensures.only c.take_version.ensures.only

pub returns-in-Ok-clause-greets : goal.returns-in-Ok-clause-greets
returns-in-Ok-clause-greets g c =
    let m = c.args.seat.now.inner.me in
    let mid = c.send_hello.new.seat.inner.me in
    let got = c.in-Ok.ensures.gets in
    record {
      hello = got.0;
      mid = mid;
      sends = subst (λ (b : Bool). SendsHelloOrNot b m mid (g.O.LinkState.state c.args.out.now)
          (g.O.LinkState.state c.send_hello.new.out))
          c.in-Ok-true.field-0-test c.in-Ok-true.ensures.sends;
      gets = got.1;
    }

pub returns-in-Err-take_version-clause-only : goal.returns-in-Err-take_version-clause-only
returns-in-Err-take_version-clause-only g c =
    opening_on c.args.seat.now.lane c.send_hello.new.seat.lane _ _ _ c.send_hello.ensures.own.1
    c.send_hello.ensures.only c.take_version.ensures.only

pub returns-in-Err-take_version-clause-stops : goal.returns-in-Err-take_version-clause-stops
returns-in-Err-take_version-clause-stops g c =
    let m = c.args.seat.now.inner.me in
    let mid = c.send_hello.new.seat.inner.me in
    inr (
      mid,
      (
        subst (λ (b : Bool). SendsHelloOrNot b m mid (g.O.LinkState.state c.args.out.now)
            (g.O.LinkState.state c.send_hello.new.out))
            c.in-Ok-true.field-0-test c.in-Ok-true.ensures.sends,
        c.in-Err-take_version.ensures.stops,
      ),
    )
