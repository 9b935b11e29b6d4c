use Rattle.std.proofs.Common.{◌≡◌, ◌+◌, ◌≤◌, vec_len, vec_capacity, false, None, rules, arith}
use Rattle.std.specs.FinMap as fin
use Rattle.sftp_core.specs.Table.{count, is_owing}
use Rattle.sftp_core.specs.declared.id_record.IdRecord.TheVariants.{Waiting}
use Rattle.sftp_core.proofs.Tables.{count-insert_new}
use Rattle.sftp_core.proofs.Counts.{count_len}
use Rattle.sftp_core.proofs.Tallies.{tally_le}
use Rattle.sftp_core.proofs.pipeline.put_last.Goals as goal

pub overflow_add-more : goal.overflow_add-more
overflow_add-more c =
    let few = count_len is_owing c.args.table.now in
    let one = tally_le is_owing (Waiting c.of.result false c.args.wanted) in
    omega (arith, few, one, c.requires.few, c.owing.ensures, c.owing-2.ensures)

pub overflow_add-more-2 : goal.overflow_add-more-2
overflow_add-more-2 c =
    let few = count_len is_owing c.args.table.now in
    let one = tally_le is_owing (Waiting c.of.result false c.args.wanted) in
    omega (arith, few, one, c.requires.few, c.owing.ensures, c.owing-2.ensures)

pub returns-clause-ok : goal.returns-clause-ok
returns-clause-ok c =
    let free : fin.get c.args.table.now c.in_ok-id.id ≡ None = search rules in
    let kept : c.insert.new.self ≡ fin.insert c.args.table.now c.in_ok-id.id (Waiting c.of.result false c.args.wanted) =
    search rules in
    let reserved : vec_len c.reserve.new.self + (c.owing.result + c.owing-2.result + 1) ≤ vec_capacity
    c.reserve.new.self = search rules in
    let more = count-insert_new is_owing c.args.table.now c.in_ok-id.id (Waiting c.of.result false c.args.wanted) free
    in
    let capacity : vec_len c.push_reserved.new.queue + count is_owing c.insert.new.self ≤ vec_capacity
    c.push_reserved.new.queue = rw kept
    (omega (
      arith,
      more,
      reserved,
      c.owing.ensures,
      c.owing-2.ensures,
      c.push_reserved.ensures.len,
      c.push_reserved.ensures.grows,
    )) in
    record {
      free = free;
      first = search rules;
      queued = search rules;
      pieces = search rules;
      len = search rules;
      kept = search rules;
      capacity = capacity;
    }
