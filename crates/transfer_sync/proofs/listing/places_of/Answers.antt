use Rattle.std.proofs.Common.{◌∙◌, ◌<◌, sym, arith, length}
use Rattle.transfer_sync.specs.PathMaps.{path_set, place_map}
use Rattle.transfer_sync.proofs.LoopSteps.{first_fault, nothing_recorded, nothing_opens, recorded}
use Rattle.transfer_sync.proofs.listing.places_of.Goals as goal

pub loop-i-init : goal.loop-i-init
loop-i-init c = record {
  indexed = nothing_recorded (place_map c.new-places.result) c.new-places.ensures;
  directories = nothing_opens (path_set c.new-directories.result) (path_set c.insert.new.self) c.new.result.items
      c.new-directories.ensures
      c.new.ensures.items c.in_ok-insert.ensures;
}

pub returns-in-Some-clause-refusal : goal.returns-in-Some-clause-refusal
returns-in-Some-clause-refusal c =
    let within : c.loop-i.i < length c.args.entries.now = omega arith in
    first_fault c.args.entries.now c.loop-i.i c.index-entries-i.result (place_map c.loop-i.places)
    (path_set c.loop-i.directories)
    c.in-Some.fault within c.index-entries-i.is c.loop-i.invariant.indexed c.loop-i.invariant.directories
    (sym c.listing_fault.ensures ∙ c.in-Some.is)

pub loop-i-preserved : goal.loop-i-preserved
loop-i-preserved c =
    let within : c.loop-i.i < length c.args.entries.now = omega arith in
    let n = recorded c.args.entries.now c.loop-i.i c.index-entries-i.result (place_map c.loop-i.places)
    (place_map c.note.new.places)
    (path_set c.loop-i.directories) (path_set c.note.new.directories) within c.index-entries-i.is
    c.loop-i.invariant.indexed
    c.loop-i.invariant.directories (sym c.listing_fault.ensures ∙ c.in_default.is) c.in_ok-note.ensures.places
    c.in_ok-note.ensures.directories in
    record { indexed = n.indexed; directories = n.directories_are }
