-- believed
-- The relation of a call to a slot, by the call alone.
use Rattle.std.specs.Prelude.{ℕ, ◌==◌, Bool, true, not, ◌&&◌}
use Rattle.plan_model.specs.declared.call.Call.{Call}
use Rattle.plan_model.specs.declared.call.Call.TheVariants as call

-- True if the call leaves the contents of the slot unchanged, however it ends: it is made on other slots or on none, or
-- it puts the slot's file into another as well.
abbrev pub leaves_slot : ℕ → Call → Bool
leaves_slot slot (call.OpenFile other flags path) = not (other == slot)
leaves_slot slot (call.Read other n) = not (other == slot)
leaves_slot slot (call.ReadAll other n) = not (other == slot)
leaves_slot slot (call.Write other bytes) = not (other == slot)
leaves_slot slot (call.WriteAll other bytes) = not (other == slot)
leaves_slot slot (call.WriteParts other parts) = not (other == slot)
leaves_slot slot (call.Seek other position) = not (other == slot)
leaves_slot slot (call.SetLen other n) = not (other == slot)
leaves_slot slot (call.SetPerm other perm) = not (other == slot)
leaves_slot slot (call.Meta other) = not (other == slot)
leaves_slot slot (call.Sync other) = not (other == slot)
leaves_slot slot (call.Copy from to n) = not (from == slot) && not (to == slot)
leaves_slot slot (call.CloneFile from to) = not (to == slot)
leaves_slot slot (call.Close other) = not (other == slot)
leaves_slot slot (call.Buffer other len) = not (other == slot)
leaves_slot slot (call.Unbuffer other) = not (other == slot)
leaves_slot slot (call.BufRead other n) = not (other == slot)
leaves_slot slot (call.BufWrite other bytes) = not (other == slot)
leaves_slot slot (call.BufWriteAll other bytes) = not (other == slot)
leaves_slot slot (call.BufFlush other) = not (other == slot)
leaves_slot slot (call.BufSeek other position) = not (other == slot)
leaves_slot slot on_paths = true
