-- believed: path_of, name_of
-- Files to copy, and the permitted lists of them.
use Rattle.std.specs.Prelude.{ℕ, ◌^◌, ◌-◌, Bool, ◌&&◌, List, length, map, nat_le, nat_lt}
use Rattle.std.specs.List.{list_all}
use Rattle.machine_model.specs.Components.{Name, components}
use Rattle.machine_model.specs.FirstTree.{may_be_named, stand_apart}
use Rattle.mirror_jobs.specs.declared.job.Job.{Job}
use Rattle.mirror_jobs.specs.declared.job.Job.TheVariants as job

-- The path of the file on the server.
abbrev pub path_of : Job → List ℕ
path_of (job.Up name content) = name
path_of (job.Down name bound) = name

-- The name that the path denotes.
abbrev pub name_of : Job → Name
name_of j = components (path_of j)

-- An upload is read back with a bound of one more than its length, which is a number of 32 bits. A bound is at least 1.
abbrev pub is_bounded : Job → Bool
is_bounded (job.Up name content) = nat_lt (length content) (2 ^ 32 - 1)
is_bounded (job.Down name bound) = nat_le 1 bound && nat_lt bound (2 ^ 32)

-- Each file is within its bounds and each name is permitted. No two names are the same, and none lies within another.
abbrev pub are_ok : List Job → Bool
are_ok jobs = list_all is_bounded jobs && list_all may_be_named (map name_of jobs) && stand_apart (map name_of jobs)
