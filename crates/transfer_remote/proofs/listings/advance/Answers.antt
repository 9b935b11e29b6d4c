use Rattle.std.proofs.Common.{subst, sym, List}
use Rattle.sftp_core.specs.Core.{Core}
use Rattle.sftp_client.specs.Sessions.{with_core}
use Rattle.transfer_remote.specs.ManyListings.{FailsFirst, MayRunTogether, RunsTogether}
use Rattle.transfer_remote.specs.declared.listing_stage.Listing.{Listing}
use Rattle.transfer_remote.proofs.ListingRuns.{advanced_over, advanced_round, failed_first, ran_all_of, turn_may}
use Rattle.transfer_remote.proofs.listings.advance.Goals as goal

pub fail_first-requires : goal.fail_first-requires
fail_first-requires g c =
    subst (λ (x : Core). MayRunTogether x c.take_ended.new.listings.items) (sym c.core-in-Err.ensures.value)
    (turn_may g.L.LinkState.state (with_core c.args.sftp.now c.run_all.new.core) c.turn.new.sftp
    c.run_all.new.listings.items c.take_ended.new.listings.items _ c.run_all.ensures.together c.in-Waits.ensures
    c.turn.ensures)

pub returns-in-Over : goal.returns-in-Over
returns-in-Over g c =
    advanced_over g.L.LinkState.state
    (record { session = c.args.sftp.now; listings = c.args.listings.now.items }) c.run_all.new.core
    c.run_all.new.listings.items c.take_ended.new.listings.items c.in-Over.result c.requires.going
    (subst (λ (x : Core). RunsTogether x c.args.listings.now.items c.run_all.new.core c.run_all.new.listings.items)
    c.core.ensures.value c.run_all.ensures) c.in-Over.ensures

pub returns-in-Ok : goal.returns-in-Ok
returns-in-Ok g c =
    advanced_round g.L.LinkState.state
    (record { session = c.args.sftp.now; listings = c.args.listings.now.items }) c.run_all.new.core
    c.run_all.new.listings.items c.take_ended.new.listings.items c.turn.new.sftp
    (subst (λ (x : Core). RunsTogether x c.args.listings.now.items c.run_all.new.core c.run_all.new.listings.items)
    c.core.ensures.value c.run_all.ensures) c.in-Waits.ensures c.in-Ok.ensures

pub returns-in-Err : goal.returns-in-Err
returns-in-Err g c =
    let runs = subst (λ (x : Core). RunsTogether x c.args.listings.now.items c.run_all.new.core
    c.run_all.new.listings.items) c.core.ensures.value c.run_all.ensures in
    let fails = subst (λ (x : Core). FailsFirst x c.take_ended.new.listings.items c.fail_first.new.core
    c.fail_first.new.listings.items c.into.result c.fail_first.result) c.core-in-Err.ensures.value
    c.fail_first.ensures in
    failed_first g.L.LinkState.state (record { session = c.args.sftp.now; listings = c.args.listings.now.items })
    (record { session = with_core c.args.sftp.now c.run_all.new.core; listings = c.run_all.new.listings.items })
    c.turn.new.sftp c.fail_first.new.core c.fail_first.new.listings.items c.into.result c.fail_first.result
    (ran_all_of g.L.LinkState.state (record { session = c.args.sftp.now; listings = c.args.listings.now.items })
    c.run_all.new.core c.run_all.new.listings.items runs) c.in-Err.ensures.going
    (subst (λ (l : List Listing). FailsFirst c.turn.new.sftp.core l c.fail_first.new.core
    c.fail_first.new.listings.items c.into.result c.fail_first.result) c.in-Waits.ensures fails)
