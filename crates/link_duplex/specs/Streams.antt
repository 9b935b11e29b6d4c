-- The trusted edge: a wire over two descriptors.
use Rattle.std.specs.Prelude.{ℕ, Bool, None}
use Rattle.link_duplex.specs.Wires.{WireView}

-- Whether a wait failed because the peer did nothing, and how often the wire failed.
pub record StreamWireState : Type 0 where
  pub silent : Bool
  pub faults : ℕ

-- It reports no steps.
abbrev pub stream_wire_view : StreamWireState → WireView
stream_wire_view l = record { log = None; faults = l.faults }
