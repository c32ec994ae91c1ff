-- A node's words field by field: four numbers and three columns of words, the keys, the values and the edges.
-- A move of one column ends in these, where it does not end in what a node holds.
-- Assumes nothing.
use Rattle.std.specs.Prelude.{ℕ, ◌+◌, ◌≤◌, ◌<◌, ◌≡◌, List, [], ◌∷◌, ◌++◌, map, length, get_or}
use Rattle.model.specs.Lists.{pad}
use Rattle.model.specs.Layout.{most, header_size, keys_word, values_word, edges_word, NodeVal, key_of, val_of, frame, blank}

pub record Fields : Type 0 where
  pub state : ℕ
  pub count : ℕ
  pub parent : ℕ
  pub place : ℕ
  pub keys : List ℕ
  pub vals : List ℕ
  pub edges : List ℕ
  pub total : ℕ

abbrev pub fields_of : NodeVal → Fields
fields_of v =
    record {
      state = v.state;
      count = length v.pairs;
      parent = v.parent;
      place = v.place;
      keys = map key_of v.pairs;
      vals = map val_of v.pairs;
      edges = v.edges;
      total = v.total;
    }

unfoldable pub field_words : Fields → List ℕ
field_words f = frame f.state f.count f.parent f.place (pad most f.keys) (pad most f.vals) (pad (most + 1) f.edges) (f.total ∷ [])

-- ---- the columns: where each begins in a node, how many words it has room for, what is in it

pub data Column : Type 0 where
  key_column val_column edge_column : Column

abbrev pub start_of : Column → ℕ
start_of key_column = keys_word
start_of val_column = values_word
start_of edge_column = edges_word

abbrev pub room_of : Column → ℕ
room_of key_column = most
room_of val_column = most
room_of edge_column = most + 1

abbrev pub column : Column → Fields → List ℕ
column key_column f = f.keys
column val_column f = f.vals
column edge_column f = f.edges

abbrev pub with_column : Column → List ℕ → Fields → Fields
with_column key_column xs f = record { state = f.state; count = f.count; parent = f.parent; place = f.place; keys = xs; vals = f.vals; edges = f.edges; total = f.total }
with_column val_column xs f = record { state = f.state; count = f.count; parent = f.parent; place = f.place; keys = f.keys; vals = xs; edges = f.edges; total = f.total }
with_column edge_column xs f = record { state = f.state; count = f.count; parent = f.parent; place = f.place; keys = f.keys; vals = f.vals; edges = xs; total = f.total }

-- the same columns under other numbers
abbrev pub numbered : ℕ → ℕ → ℕ → ℕ → Fields → Fields
numbered st n up at f = record { state = st; count = n; parent = up; place = at; keys = f.keys; vals = f.vals; edges = f.edges; total = f.total }

-- under another count of the pairs below
abbrev pub totalled : ℕ → Fields → Fields
totalled x f = record { state = f.state; count = f.count; parent = f.parent; place = f.place; keys = f.keys; vals = f.vals; edges = f.edges; total = x }

-- fields that a node's words can hold
abbrev pub Fits : Fields → Type 0
Fits f = (c : Column) → length (column c f) ≤ room_of c

-- ---- the whole arena

abbrev pub rows : List Fields → List ℕ
rows [] = []
rows (f ∷ fs) = field_words f ++ rows fs

abbrev pub row : List Fields → ℕ → Fields
row fs n = get_or fs n (fields_of blank)

-- w is the words of the header h and of the nodes' fields fs
pub record Stored (w h : List ℕ) (fs : List Fields) : Type 0 where
  pub header_long : length h ≡ header_size
  pub fits : (n : ℕ) → n < length fs → Fits (row fs n)
  pub words : w ≡ h ++ rows fs
