-- `leaf::remove` meets its contract.
-- Assumes nothing.
use Prim.Native.Nat.{ℕ, ◌-◌}
use mathlib.Core.Path.{◌≡◌, sym, ap, ◌∙◌}
use mathlib.Core.List.{List, map}
use native.Mathlib.Omega.{arith}
use lib.ListN.{get_or, set, length-map, length-set}
use lib.Seq.{get_or-set_same}
use Rattle.model.specs.Layout.{NodeVal, key_of, val_of, nth, blank, Arena}
use Rattle.slices.specs.Words.{remove_at}
use Rattle.node.specs.Fields.{Fields, fields_of, key_column, val_column, with_column, Stored}
use Rattle.node.proofs.Fields.{stored, row_fields, first, again, done}
use Rattle.node.proofs.Reading.{len_is}
use Rattle.columns.specs.Columns.{with_count}
use Rattle.leaf.specs.Pairs.{PairAt}
use Rattle.leaf.proofs.Steps.{pair_here, keys_in, vals_in, removed, pair_is}
use Rattle.leaf.proofs.remove.Goals as goal
use Rattle.leaf.proofs.remove.Goals.{After-close_word-key, After-close_word-val, at-After-close_word-val}

-- after the key, and after the value
key_out : (c : After-close_word-key) → let x = c.args in (h : List ℕ) (ns : List NodeVal) → PairAt ns x.n.0 x.at.0 → Arena x.a.now h ns → (c.close_word-key.result ≡ get_or (map key_of (nth ns x.n.0).pairs) x.at.0 0) × Stored c.close_word-key.new.a h (set (map fields_of ns) x.n.0 (with_column key_column (remove_at (map key_of (nth ns x.n.0).pairs) x.at.0) (fields_of (nth ns x.n.0))))
key_out c h ns r a =
    let x = c.args in
    let e = c.len-count.ensures ∙ len_is a x.n.0 r.node in
    let f = (a.small x.n.0 r.node).pairs_fit in
    let k = c.close_word-key.ensures h _ key_column _ (keys_in ns x.n.0 r.node _ e) (omega (arith, e, f)) (omega (arith, e, r.place)) (stored a) in
    (k.0 ∙ ap (λ (f : Fields). get_or f.keys x.at.0 0) (row_fields ns x.n.0), first ns x.n.0 r.node (λ (f : Fields). with_column key_column (remove_at f.keys x.at.0) f) k.1)

val_out : (c : After-close_word-val) → let x = c.args in (h : List ℕ) (ns : List NodeVal) → PairAt ns x.n.0 x.at.0 → Arena x.a.now h ns → (c.close_word-val.result ≡ get_or (map val_of (nth ns x.n.0).pairs) x.at.0 0) × Stored c.close_word-val.new.a h (set (map fields_of ns) x.n.0 (with_column val_column (remove_at (map val_of (nth ns x.n.0).pairs) x.at.0) (with_column key_column (remove_at (map key_of (nth ns x.n.0).pairs) x.at.0) (fields_of (nth ns x.n.0)))))
val_out c h ns r a =
    let x = c.args in
    let e = c.len-count.ensures ∙ len_is a x.n.0 r.node in
    let f = (a.small x.n.0 r.node).pairs_fit in
    let k = c.close_word-val.ensures h _ val_column _ (vals_in ns x.n.0 r.node _ e _ (length-map (nth ns x.n.0).pairs val_of ∙ sym e)) (omega (arith, e, f)) (omega (arith, e, r.place)) (key_out (at-After-close_word-val c).After-close_word-key h ns r a).1 in
    (k.0 ∙ ap (λ (f : Fields). get_or f.vals x.at.0 0) (get_or-set_same (map fields_of ns) x.n.0 _ (fields_of blank) (rw length-map r.node)), again ns x.n.0 r.node (λ (f : Fields). with_column val_column (remove_at f.vals x.at.0) f) _ k.1)

pub len-count-requires : goal.len-count-requires
len-count-requires c = (pair_here c.requires).0

pub close_word-key-requires : goal.close_word-key-requires
close_word-key-requires c =
    let k = pair_here c.requires in
    omega arith

pub close_word-val-requires : goal.close_word-val-requires
close_word-val-requires c =
    let k = pair_here c.requires in
    omega arith

pub overflow_sub-count : goal.overflow_sub-count
overflow_sub-count c =
    let k = pair_here c.requires in
    omega arith

pub set_len-requires : goal.set_len-requires
set_len-requires c =
    let k = pair_here c.requires in
    omega arith

pub returns : goal.returns
returns c =
    λ h ns r a.
    let x = c.args in
    let e = c.len-count.ensures ∙ len_is a x.n.0 r.node in
    let v = val_out (goal.at.returns c).After-close_word-val h ns r a in (
      pair_is (nth ns x.n.0).pairs x.at.0 _ _ (key_out (goal.at.returns c).After-close_word-key h ns r a).0 v.0,
      done ns x.n.0 r.node _ _ (removed (nth ns x.n.0) x.at.0 c.len-count.result e (omega (arith, r.place))) (again ns x.n.0 r.node (with_count (c.len-count.result - 1)) _ (c.set_len.ensures h _ (rw (length-set, length-map) r.node) v.1)),
    )
