-- `insert::split_root` meets its contract.
-- Assumes nothing.
use Rattle.growing.proofs.Climbs.{crown}
use Rattle.insert.proofs.split_root.Goals as goal

pub push_internal_level-top-requires : goal.push_internal_level-top-requires
push_internal_level-top-requires c =
    let k = c.requires.climb in
    (crown _ _ _ k.climb k.hangs).ready

pub insert_fit-requires : goal.insert_fit-requires
insert_fit-requires c =
    let k = c.requires.climb in
    (crown _ _ _ k.climb k.hangs).fits _ _ c.push_internal_level-top.ensures

pub settle-requires : goal.settle-requires
settle-requires c =
    let k = c.requires.climb in
    (crown _ _ _ k.climb k.hangs).settles _ _ c.push_internal_level-top.ensures _ c.insert_fit.ensures

pub returns : goal.returns
returns c =
    λ g t k.
    (crown _ _ _ k.climb k.hangs).out _ _ c.push_internal_level-top.ensures _ c.insert_fit.ensures _ c.settle.ensures
