use Rattle.std.proofs.Common.{arith, drop, length-drop}
use Rattle.search.proofs.Indexes.{kv_inside}
use Rattle.search.proofs.find_upper_bound_index.Goals as goal

pub overflow_add-result : goal.overflow_add-result
overflow_add-result c =
    let x = c.args in
    let d = c.find_key_index in
    let l = kv_inside c.in-Included.key x.start.0 (drop x.start.0 x.keys.now) d.result d.ensures c.in-Kv.p c.in-Kv.is in
    omega (arith, length-drop x.start.0 x.keys.now, c.requires.0)
