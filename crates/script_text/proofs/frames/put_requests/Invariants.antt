use Rattle.std.proofs.Common.{◌≡◌, ◌++◌, take}
use Rattle.std.specs.List.{flat_map}
use Rattle.script_text.specs.Texts.{request_line}
use Rattle.script_text.specs.Traces.{submitted_request}
use Rattle.script_text.proofs.frames.put_requests.Given as goal

abbrev pub invariant-loop-event : goal.invariant-loop-event
invariant-loop-event l = l.out.items ≡ l.initial.out.items ++ flat_map request_line
    (flat_map submitted_request (take l.event-index l.events))
