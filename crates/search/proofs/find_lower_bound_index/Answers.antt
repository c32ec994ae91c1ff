use Rattle.std.proofs.Common.{arith}
use Rattle.search.proofs.Indexes.{kv_inside}
use Rattle.search.proofs.find_lower_bound_index.Goals as goal

pub overflow_add-result : goal.overflow_add-result
overflow_add-result c =
    let x = c.args in
    let d = c.find_key_index-in-Excluded in
    omega (arith, kv_inside c.in-Excluded.key 0 x.keys.now d.result d.ensures c.in-Kv-find_key_index.i c.in-Kv-find_key_index.is)
