use Rattle.std.proofs.Common.{subst}
use Rattle.sftp_core.specs.Core.{Core}
use Rattle.transfer_remote.specs.ManyListings.{FailsFirst}
use Rattle.transfer_remote.specs.declared.remote_error.RemoteError.TheVariants as remote
use Rattle.transfer_remote.proofs.ListingRuns.{lists_first, lists_next, lists_out, lists_over}
use Rattle.transfer_remote.proofs.listings.next_of.Goals as goal

pub loop-init : goal.loop-init
loop-init g c =
    lists_first g.L.LinkState.state (record { session = c.args.sftp.now; listings = c.args.listings.now.items })
    c.requires

pub loop-preserved : goal.loop-preserved
loop-preserved g c =
    lists_next g.L.LinkState.state (record { session = c.args.sftp.now; listings = c.args.listings.now.items })
    (record { session = c.loop.sftp; listings = c.loop.listings.items })
    (record { session = c.advance.new.sftp; listings = c.advance.new.listings.items }) c.loop.invariant
    c.in-Waits.ensures

pub returns-in-Over : goal.returns-in-Over
returns-in-Over g c =
    lists_over g.L.LinkState.state (record { session = c.args.sftp.now; listings = c.args.listings.now.items })
    (record { session = c.loop.sftp; listings = c.loop.listings.items })
    (record { session = c.advance.new.sftp; listings = c.advance.new.listings.items }) c.in-Over.result
    c.loop.invariant c.in-Over.ensures

pub returns : goal.returns
returns g c =
    lists_out g.L.LinkState.state (record { session = c.args.sftp.now; listings = c.args.listings.now.items })
    (record { session = c.loop.sftp; listings = c.loop.listings.items }) c.fail_first.new.core
    c.fail_first.new.listings.items remote.TooLong c.fail_first.result c.loop.invariant
    (subst (λ (x : Core). FailsFirst x c.loop.listings.items c.fail_first.new.core c.fail_first.new.listings.items
    remote.TooLong c.fail_first.result) c.core.ensures.value c.fail_first.ensures)
