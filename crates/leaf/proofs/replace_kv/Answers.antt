-- `leaf::replace_kv` meets its contract.
-- Assumes nothing.
use Prim.Native.Nat.{ℕ}
use mathlib.Core.Path.{◌≡◌, refl, ap, ◌∙◌}
use mathlib.Core.List.{List, map}
use native.Mathlib.Omega.{arith}
use lib.ListN.{get_or, set, length-map, length-set}
use lib.Seq.{get_or-set_same}
use Rattle.model.specs.Layout.{NodeVal, key_of, nth, blank, Arena}
use Rattle.node.specs.Fields.{Fields, fields_of, key_column, val_column, with_column, Stored}
use Rattle.node.proofs.Fields.{stored, row_fields, first, again, done}
use Rattle.leaf.specs.Pairs.{PairAt}
use Rattle.leaf.proofs.Steps.{pair_here, replaced, pair_is}
use Rattle.leaf.proofs.replace_kv.Goals as goal
use Rattle.leaf.proofs.replace_kv.Goals.{After-replace_word-key}

-- after the key
key_anew : (c : After-replace_word-key) → let x = c.args in (h : List ℕ) (ns : List NodeVal) → PairAt ns x.n.0 x.at.0 → Arena x.a.now h ns → (c.replace_word-key.result ≡ get_or (map key_of (nth ns x.n.0).pairs) x.at.0 0) × Stored c.replace_word-key.new.a h (set (map fields_of ns) x.n.0 (with_column key_column (set (map key_of (nth ns x.n.0).pairs) x.at.0 x.kv.0) (fields_of (nth ns x.n.0))))
key_anew c h ns r a =
    let x = c.args in
    let k = c.replace_word-key.ensures h _ key_column (rw length-map r.node) refl (rw (row_fields ns x.n.0, length-map) r.place) (stored a) in
    (k.0 ∙ ap (λ (f : Fields). get_or f.keys x.at.0 0) (row_fields ns x.n.0), first ns x.n.0 r.node (λ (f : Fields). with_column key_column (set f.keys x.at.0 x.kv.0) f) k.1)

pub replace_word-key-requires : goal.replace_word-key-requires
replace_word-key-requires c =
    let k = pair_here c.requires in
    omega arith

pub replace_word-val-requires : goal.replace_word-val-requires
replace_word-val-requires c =
    let k = pair_here c.requires in
    omega arith

pub returns : goal.returns
returns c =
    λ h ns r a.
    let x = c.args in
    let k = key_anew (goal.at.returns c).After-replace_word-key h ns r a in
    let f = get_or-set_same (map fields_of ns) x.n.0 (with_column key_column (set (map key_of (nth ns x.n.0).pairs) x.at.0 x.kv.0) (fields_of (nth ns x.n.0))) (fields_of blank) (rw length-map r.node) in
    let v = c.replace_word-val.ensures h _ val_column (rw (length-set, length-map) r.node) refl (rw (f, length-map) r.place) k.1 in (
      pair_is (nth ns x.n.0).pairs x.at.0 _ _ k.0 (v.0 ∙ ap (λ (t : Fields). get_or t.vals x.at.0 0) f),
      done ns x.n.0 r.node _ _ (replaced (nth ns x.n.0) x.at.0 x.kv.0 x.kv.1) (again ns x.n.0 r.node (λ (t : Fields). with_column val_column (set t.vals x.at.0 x.kv.1) t) _ v.1),
    )
