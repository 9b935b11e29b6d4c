-- believed
-- The lanes that a session accepts: each call is within its ranges, and all together are few.
use Rattle.std.specs.Prelude.{ℕ, ◌+◌, ◌^◌, Bool, true, ◌&&◌, List, length, Option, Some, None, nat_le, nat_lt}
use Rattle.std.specs.List.{list_all, sum_by}
use Rattle.plan_model.specs.declared.call.Call.{Call}
use Rattle.plan_model.specs.declared.call.Call.TheVariants as call
use Rattle.plan_model.specs.declared.call.Lane.{Lane}

-- True if the slot is one of the sixteen.
abbrev pub is_slot : ℕ → Bool
is_slot slot = nat_lt slot 16

-- True for a number of 64 bits.
abbrev pub fits_u64 : ℕ → Bool
fits_u64 n = nat_lt n (2 ^ 64)

-- True for a number of 32 bits.
abbrev pub is_short : ℕ → Bool
is_short n = nat_lt n (2 ^ 32)

-- True for None or a number of 64 bits.
abbrev pub is_some_long : Option ℕ → Bool
is_some_long None = true
is_some_long (Some n) = fits_u64 n

-- True if the slots that a call names exist, a bound or a length is not 0, a bound of READs has 32 bits, and a size has
-- 64.
abbrev pub is_within : Call → Bool
is_within (call.OpenFile slot flags path) = is_slot slot
is_within (call.Read slot n) = is_slot slot
is_within (call.ReadAll slot n) = is_slot slot
is_within (call.Write slot bytes) = is_slot slot
is_within (call.WriteAll slot bytes) = is_slot slot
is_within (call.WriteParts slot parts) = is_slot slot
is_within (call.Seek slot position) = is_slot slot
is_within (call.SetLen slot n) = is_slot slot && fits_u64 n
is_within (call.SetPerm slot perm) = is_slot slot
is_within (call.Meta slot) = is_slot slot
is_within (call.Sync slot) = is_slot slot
is_within (call.Copy from to n) = is_slot from && is_slot to
is_within (call.CloneFile from to) = is_slot from && is_slot to
is_within (call.Close slot) = is_slot slot
is_within (call.Buffer slot len) = is_slot slot && nat_le 1 len
is_within (call.Unbuffer slot) = is_slot slot
is_within (call.BufRead slot n) = is_slot slot
is_within (call.BufWrite slot bytes) = is_slot slot
is_within (call.BufWriteAll slot bytes) = is_slot slot
is_within (call.BufFlush slot) = is_slot slot
is_within (call.BufSeek slot position) = is_slot slot
is_within (call.FsRead path bound) = nat_le 1 bound && is_short bound
is_within (call.List path bound) = nat_le 1 bound
is_within (call.SetStat path size perm) = is_some_long size
is_within of_paths = true

-- The weight of a call. A buffered write may make one WRITE for each of its bytes, and a whole read 64 READs, all of
-- which may be in flight when it has ended.
abbrev pub weight : Call → ℕ
weight (call.BufWrite slot bytes) = 2 + length bytes
weight (call.BufWriteAll slot bytes) = 2 + length bytes
weight (call.FsRead path bound) = 65
weight other = 2

-- The weight of a lane: itself and its calls.
abbrev pub lane_weight : Lane → ℕ
lane_weight lane = 1 + sum_by weight lane.calls

-- The greatest weight, plus one.
abbrev pub weight_limit : ℕ
weight_limit = 2 ^ 31

-- True if each call is within its ranges, and the weight of the lanes is less than 2147483648.
abbrev pub are_ok : List Lane → Bool
are_ok lanes = list_all (λ lane. list_all is_within lane.calls) lanes && nat_lt (sum_by lane_weight lanes) weight_limit
