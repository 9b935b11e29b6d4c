-- Worked rows of what calls and lanes count, and of the ranges of whole reads and of calls on buffered files.
use Rattle.std.specs.Prelude.{◌≡◌, ◌∷◌, [], true, false, codes, refl}
use Rattle.plan_model.specs.declared.call.Call.TheVariants as call
use Rattle.plan_model.specs.Lanes.{are_ok, is_within, lane_weight, weight}

pub call_counts : weight (call.Write 0 (codes "abc")) ≡ 2
call_counts = refl

pub buffered_bytes_count : weight (call.BufWrite 0 (codes "abc")) ≡ 5
buffered_bytes_count = refl

pub all_bytes_count : weight (call.BufWriteAll 0 []) ≡ 2
all_bytes_count = refl

-- 64 READs and their OPEN.
pub whole_read_counts : weight (call.FsRead (codes "a") 1) ≡ 65
whole_read_counts = refl

pub lane_of_a_whole_read : lane_weight (record { calls = call.FsRead (codes "a") 9 ∷ call.Stat (codes "a") ∷ [] }) ≡ 68
lane_of_a_whole_read = refl

pub lane_counts : lane_weight (record { calls = call.Buffer 0 1 ∷ call.BufWriteAll 0 (codes "abcd") ∷ [] }) ≡ 9
lane_counts = refl

pub least_buffer : is_within (call.Buffer 15 1) ≡ true
least_buffer = refl

pub buffer_of_nothing : is_within (call.Buffer 0 0) ≡ false
buffer_of_nothing = refl

pub least_bound : is_within (call.FsRead [] 1) ≡ true
least_bound = refl

pub greatest_bound : is_within (call.FsRead [] 4294967295) ≡ true
greatest_bound = refl

pub bound_of_nothing : is_within (call.FsRead [] 0) ≡ false
bound_of_nothing = refl

pub no_such_slot : is_within (call.BufFlush 16) ≡ false
no_such_slot = refl

pub lanes_of_few : are_ok (record { calls = call.BufRead 0 0 ∷ [] } ∷ record { calls = [] } ∷ []) ≡ true
lanes_of_few = refl
