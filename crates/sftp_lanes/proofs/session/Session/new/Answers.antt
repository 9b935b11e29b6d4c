use Rattle.std.proofs.Common.{◌≡◌, ◌∙◌, length, ap, arith, refl}
use Rattle.session_work.proofs.CallsLaws.{few_lanes}
use Rattle.sftp_lanes.specs.Seen.{session_inputs}
use Rattle.sftp_lanes.proofs.Opening.{fresh_begun}
use Rattle.sftp_lanes.proofs.session.Session.new.Goals as goal

pub returns : goal.returns
returns c =
    let made = c.in_ok-work.ensures in
    let lanes : c.of-given.result ≡ c.args.lanes.now = c.of-given.ensures ∙ c.as_items.ensures ∙ made.calls in
    record {
      made_of = λ i. session_inputs (lanes i) c.args.options.now;
      fresh = record {
        fresh = refl;
        rest = λ i. record {
          past = made.past i;
          begun =
              fresh_begun c.in_ok-work.work.states.items made.untouched.each i;
        };
      };
      version = refl;
      calls = made.calls;
    }

pub of-given-requires : goal.of-given-requires
of-given-requires c =
    let few = few_lanes c.args.lanes.now c.requires in
    let same : length c.as_items.result.now ≡ length c.args.lanes.now =
    ap length (c.as_items.ensures ∙ c.in_ok-work.ensures.calls) in
    omega (arith, few, same)
