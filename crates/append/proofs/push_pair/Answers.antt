-- `append::push_pair` meets its contract.
-- Assumes nothing.
use Prim.Native.Nat.{ℕ, ◌+◌}
use mathlib.Core.Path.{sym, ◌∙◌}
use mathlib.Core.List.{List, map}
use native.Mathlib.Omega.{arith}
use lib.ListN.{set, length-map, length-set}
use Rattle.model.specs.Lists.{insert_at}
use Rattle.model.specs.Layout.{NodeVal, key_of, val_of, nth, Arena}
use Rattle.node.specs.Fields.{Fields, fields_of, key_column, val_column, with_column, Stored}
use Rattle.node.proofs.Fields.{stored, first, again, done}
use Rattle.node.proofs.Reading.{len_is}
use Rattle.columns.specs.Columns.{with_count}
use Rattle.leaf.specs.Pairs.{RoomAt}
use Rattle.leaf.proofs.Steps.{room_here, keys_in, vals_in, inserted}
use Rattle.append.proofs.push_pair.Goals as goal
use Rattle.append.proofs.push_pair.Goals.{After-insert_word, After-insert_word-2, at-After-insert_word-2}

-- after the key, and after the value
key_in : (c : After-insert_word) → let x = c.args in (h : List ℕ) (ns : List NodeVal) → RoomAt ns x.n.0 x.count → Arena x.a.now h ns → Stored c.insert_word.new.a h (set (map fields_of ns) x.n.0 (with_column key_column (insert_at (map key_of (nth ns x.n.0).pairs) x.count x.kv.0) (fields_of (nth ns x.n.0))))
key_in c h ns r a =
    let x = c.args in
    let e = c.requires.1 ∙ len_is a x.n.0 r.node in
    first ns x.n.0 r.node (λ (f : Fields). with_column key_column (insert_at f.keys x.count x.kv.0) f) (c.insert_word.ensures h _ key_column (keys_in ns x.n.0 r.node _ e) (omega (arith, r.room)) (stored a))

val_in : (c : After-insert_word-2) → let x = c.args in (h : List ℕ) (ns : List NodeVal) → RoomAt ns x.n.0 x.count → Arena x.a.now h ns → Stored c.insert_word-2.new.a h (set (map fields_of ns) x.n.0 (with_column val_column (insert_at (map val_of (nth ns x.n.0).pairs) x.count x.kv.1) (with_column key_column (insert_at (map key_of (nth ns x.n.0).pairs) x.count x.kv.0) (fields_of (nth ns x.n.0)))))
val_in c h ns r a =
    let x = c.args in
    let e = c.requires.1 ∙ len_is a x.n.0 r.node in
    again ns x.n.0 r.node (λ (f : Fields). with_column val_column (insert_at f.vals x.count x.kv.1) f) _ (c.insert_word-2.ensures h _ val_column (vals_in ns x.n.0 r.node _ e _ (length-map (nth ns x.n.0).pairs val_of ∙ sym e)) (omega (arith, r.room)) (key_in (at-After-insert_word-2 c).After-insert_word h ns r a))

pub insert_word-requires : goal.insert_word-requires
insert_word-requires c =
    let k = room_here c.requires.0 in
    omega arith

pub insert_word-requires-2 : goal.insert_word-requires-2
insert_word-requires-2 c =
    let k = room_here c.requires.0 in
    omega arith

pub set_len-requires : goal.set_len-requires
set_len-requires c =
    let k = room_here c.requires.0 in
    omega arith

pub returns : goal.returns
returns c =
    λ h ns r a.
    let x = c.args in
    let e = c.requires.1 ∙ len_is a x.n.0 r.node in
    done ns x.n.0 r.node _ _ (inserted (nth ns x.n.0) x.count x.kv.0 x.kv.1 x.count e (omega (arith, r.place))) (again ns x.n.0 r.node (with_count (x.count + 1)) _ (c.set_len.ensures h _ (rw (length-set, length-map) r.node) (val_in (goal.at.returns c).After-insert_word-2 h ns r a)))
