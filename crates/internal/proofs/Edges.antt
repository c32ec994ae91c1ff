-- From changes of the column of edges to changes of the nodes.
-- Assumes nothing.
use Prim.Native.Nat.{ℕ, ◌<◌}
use mathlib.Core.Path.{◌≡◌, refl}
use mathlib.Core.List.{List, map}
use lib.ListN.{length, set, length-map}
use Rattle.model.specs.Lists.{insert_at}
use Rattle.model.specs.Layout.{edges_word, NodeVal, nth, Arena}
use Rattle.slices.specs.Words.{remove_at}
use Rattle.node.specs.Fields.{Fields, fields_of, edge_column, with_column, row, Stored}
use Rattle.node.proofs.Fields.{unstored, row_fields, set_fields, first, done}
use Rattle.columns.specs.Columns.{In, put_column, put_columns}
use Rattle.store.specs.Links.{with_edges}

pub edges_in : (ns : List NodeVal) (n m : ℕ) → n < length ns → m ≡ length (nth ns n).edges → In (map fields_of ns) n edge_column edges_word m
edges_in ns n m o e = record { node = rw length-map o; start_is = refl; count_is = rw (row_fields ns n) e }

module _ {w h : List ℕ} (ns : List NodeVal) (n : ℕ) (o : n < length ns) where
  pub edge_inserted : (i x : ℕ) → Stored w h (put_column (map fields_of ns) n edge_column (insert_at (row (map fields_of ns) n).edges i x)) → Arena w h (set ns n (with_edges (nth ns n) (insert_at (nth ns n).edges i x)))
  edge_inserted i x a = done ns n o _ _ refl (first ns n o (λ (f : Fields). with_column edge_column (insert_at f.edges i x) f) a)

  pub edge_removed : (i : ℕ) → Stored w h (put_column (map fields_of ns) n edge_column (remove_at (row (map fields_of ns) n).edges i)) → Arena w h (set ns n (with_edges (nth ns n) (remove_at (nth ns n).edges i)))
  edge_removed i a = done ns n o _ _ refl (first ns n o (λ (f : Fields). with_column edge_column (remove_at f.edges i) f) a)

module _ {w h : List ℕ} (ns : List NodeVal) (l r : ℕ) where
  -- G and H say what becomes of the edges of l and of r
  pub edges_put : (G H : List ℕ → List ℕ → List ℕ) → Stored w h (put_columns (map fields_of ns) l r edge_column (G (row (map fields_of ns) l).edges (row (map fields_of ns) r).edges) (H (row (map fields_of ns) l).edges (row (map fields_of ns) r).edges)) → Arena w h (set (set ns l (with_edges (nth ns l) (G (nth ns l).edges (nth ns r).edges))) r (with_edges (nth ns r) (H (nth ns l).edges (nth ns r).edges)))
  edges_put G H a =
      unstored (rw (
        row_fields ns l,
        row_fields ns r,
        set_fields ns l (with_edges (nth ns l) (G (nth ns l).edges (nth ns r).edges)),
        set_fields (set ns l (with_edges (nth ns l) (G (nth ns l).edges (nth ns r).edges))) r (with_edges (nth ns r) (H (nth ns l).edges (nth ns r).edges)),
      ) at a)
