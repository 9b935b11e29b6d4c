use Rattle.std.proofs.Common.{◌≡◌, take}
use Rattle.transfer_sync.specs.Entries.{has_open_directory}
use Rattle.transfer_sync.specs.Listings.{IsIndexOf}
use Rattle.transfer_sync.specs.PathMaps.{path_set, place_map}
use Rattle.transfer_sync.proofs.listing.places_of.Given as goal

abbrev pub invariant-loop-i : goal.invariant-loop-i
invariant-loop-i l = record {
  indexed : IsIndexOf (take l.i l.entries) (place_map l.places);
  directories : path_set l.directories ≡ has_open_directory (take l.i l.entries);
}
