use Rattle.std.proofs.Common.{subst, inl, inr}
use Rattle.link_frames.proofs.Joining.{escaped}
use Rattle.sftp_fs.specs.Listings.{ListingValue}
use Rattle.plan_state.specs.Keeping.{SparesOthers}
use Rattle.sftp_client.specs.DirCalls.{IsListedToEnd, IsNoneOfListing, StopsListing}
use Rattle.sftp_client.proofs.DirCalling.{dir_released, list_keeps}
use Rattle.sftp_client.proofs.sftp.Sftp.list_dir.Goals as goal

pub returns-in_err-open_dir-clause-lists : goal.returns-in_err-open_dir-clause-lists
returns-in_err-open_dir-clause-lists g c =
    rw (escaped c.from_residual.result c.in_err-open_dir.field-0.0
    c.from_residual.ensures.1) (inl c.in_err-open_dir.ensures)

pub returns-in_err-close_dir-in-Ok-clause-lists : goal.returns-in_err-close_dir-in-Ok-clause-lists
returns-in_err-close_dir-in-Ok-clause-lists g c =
    rw (escaped c.from_residual-in_err-close_dir-in-Ok.result c.in_err-close_dir-in-Ok.field-0.0
    c.from_residual-in_err-close_dir-in-Ok.ensures.1) (inr (record {
      opened = c.open_dir.new.self;
      listed = c.entries_of.new.self;
      dir = c.in_ok-open_dir.field-0;
      after = c.entries_of.new.listing;
      opens = c.in_ok-open_dir.ensures;
      ends = inr (
        c.in-Ok.entries.items,
        (
          subst (λ l. IsListedToEnd g.L.LinkState.state c.open_dir.new.self c.entries_of.new.self l
              c.entries_of.new.listing c.in-Ok.entries.items)
              c.read_dir-listing.ensures c.in-Ok.ensures.listed,
          c.in_err-close_dir-in-Ok.ensures,
        ),
      );
    }))

pub returns-in-Err-clause-lists : goal.returns-in-Err-clause-lists
returns-in-Err-clause-lists g c =
    inr (record {
      opened = c.open_dir.new.self;
      listed = c.entries_of.new.self;
      dir = c.in_ok-open_dir.field-0;
      after = c.entries_of.new.listing;
      opens = c.in_ok-open_dir.ensures;
      ends = inl (
        subst (λ l. StopsListing g.L.LinkState.state c.open_dir.new.self c.entries_of.new.self l
            c.entries_of.new.listing c.in-Err.e) c.read_dir-listing.ensures c.in-Err.ensures.listed,
        c.release_dir.ensures,
      );
    })

pub returns-in_ok-close_dir-in-Ok-clause-lists : goal.returns-in_ok-close_dir-in-Ok-clause-lists
returns-in_ok-close_dir-in-Ok-clause-lists g c =
    record {
      opened = c.open_dir.new.self;
      listed = c.entries_of.new.self;
      dir = c.in_ok-open_dir.field-0;
      after = c.entries_of.new.listing;
      opens = c.in_ok-open_dir.ensures;
      lists = subst (λ l. IsListedToEnd g.L.LinkState.state c.open_dir.new.self c.entries_of.new.self l
          c.entries_of.new.listing c.in-Ok.entries.items)
          c.read_dir-listing.ensures c.in-Ok.ensures.listed;
      closes = c.in_ok-close_dir-in-Ok.ensures;
    }

pub returns-in_ok-close_dir-in-Ok-clause-keeps : goal.returns-in_ok-close_dir-in-Ok-clause-keeps
returns-in_ok-close_dir-in-Ok-clause-keeps g c =
    list_keeps c.args.self.now.core c.open_dir.new.self.core c.entries_of.new.self.core c.close_dir.new.self.core
    c.in_ok-open_dir.field-0 c.entries_of.new.listing c.in_ok-open_dir.ensures.apart
    (subst (λ (l : ListingValue). SparesOthers c.open_dir.new.self.core c.entries_of.new.self.core (IsNoneOfListing l)
    (IsNoneOfListing c.entries_of.new.listing)) c.read_dir-listing.ensures c.in-Ok.ensures.spares)
    c.in_ok-close_dir-in-Ok.ensures.spares

pub returns-in_err-close_dir-in-Ok-clause-keeps : goal.returns-in_err-close_dir-in-Ok-clause-keeps
returns-in_err-close_dir-in-Ok-clause-keeps g c =
    list_keeps c.args.self.now.core c.open_dir.new.self.core c.entries_of.new.self.core c.close_dir.new.self.core
    c.in_ok-open_dir.field-0 c.entries_of.new.listing c.in_ok-open_dir.ensures.apart
    (subst (λ (l : ListingValue). SparesOthers c.open_dir.new.self.core c.entries_of.new.self.core (IsNoneOfListing l)
    (IsNoneOfListing c.entries_of.new.listing)) c.read_dir-listing.ensures c.in-Ok.ensures.spares)
    c.in_err-close_dir-in-Ok.ensures.spares

pub returns-in-Err-clause-keeps : goal.returns-in-Err-clause-keeps
returns-in-Err-clause-keeps g c =
    list_keeps c.args.self.now.core c.open_dir.new.self.core c.entries_of.new.self.core c.release_dir.new.self.core
    c.in_ok-open_dir.field-0 c.entries_of.new.listing c.in_ok-open_dir.ensures.apart
    (subst (λ (l : ListingValue). SparesOthers c.open_dir.new.self.core c.entries_of.new.self.core (IsNoneOfListing l)
    (IsNoneOfListing c.entries_of.new.listing)) c.read_dir-listing.ensures c.in-Err.ensures.spares)
    c.release_dir.ensures.spares

pub returns-in-Err-clause-usable : goal.returns-in-Err-clause-usable
returns-in-Err-clause-usable g c =
    dir_released c.entries_of.new.listing g.L.LinkState.state c.entries_of.new.self c.release_dir.new.self
    c.in-Err.ensures.usable c.release_dir.ensures
