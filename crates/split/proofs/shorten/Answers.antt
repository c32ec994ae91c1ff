-- `split::shorten` meets its contract.
-- Assumes nothing.
use mathlib.Core.Path.{refl}
use native.Mathlib.Omega.{arith}
use Rattle.node.specs.Fields.{key_column, val_column, edge_column}
use Rattle.cutting.proofs.Clearing.{cut_here, short_put}
use Rattle.split.proofs.shorten.Goals as goal

pub clear_from-requires : goal.clear_from-requires
clear_from-requires c = let k = cut_here c.requires in (k.0, omega arith, omega arith)

pub clear_from-requires-2 : goal.clear_from-requires-2
clear_from-requires-2 c = let k = cut_here c.requires in (omega arith, omega arith, omega arith)

pub clear_from-requires-3 : goal.clear_from-requires-3
clear_from-requires-3 c = let k = cut_here c.requires in (omega arith, omega arith, omega arith)

pub set_len-requires : goal.set_len-requires
set_len-requires c = let k = cut_here c.requires in omega arith

pub returns : goal.returns
returns c =
    λ h ns k a.
    let x = c.args in
    short_put a x.n.0 x.at.0 k.node k.place (λ fs o s. c.clear_from.ensures h fs key_column o refl refl s) (λ fs o s. c.clear_from-2.ensures h fs val_column o refl refl s)
    (λ fs o s. c.clear_from-3.ensures h fs edge_column o refl refl s) (c.set_len.ensures h)
