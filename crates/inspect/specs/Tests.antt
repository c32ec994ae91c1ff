-- What the tests decide, beside what the model says of the words.
-- Assumes nothing.
use Rattle.std.specs.Prelude.{ℕ, zero, suc, ◌+◌, ◌≤◌, ◌<◌, ◌≡◌, Bool, true, false, List, ltb, Option, None, Some}
use Rattle.model.specs.declared.Layout.{Layout}
use Rattle.model.specs.declared.Layout.TheVariants.{Format2}
use Rattle.model.specs.Layout.{word_at_by, state_word, most, parent_word, keys_word, values_word, edges_word}
use Rattle.model.specs.Words.{kind}
use Rattle.model.specs.WellFormed.{Reached, ZerosBy, LinkedBy, length_at_by, edge_at_by}
use Rattle.inspect.specs.declared.Visit.{Visit}

-- true exactly where P holds
abbrev pub Decides : Bool → Type 0 → Type 0
Decides true P = P
Decides false P = P → ⊥

abbrev pub reached : Visit → Reached
reached v = record { below = v.below; fewest = v.fewest; node = v.node.0; parent = v.parent; place = v.place.0 }

-- node r is there, and its state, length and link are right
pub record HeadedBy (f : Layout) (w : List ℕ) (count : ℕ) (r : Reached) : Type 0 where
  pub inside : r.node < count
  pub deep : word_at_by f w r.node state_word ≡ kind r.below
  pub enough : r.fewest ≤ length_at_by f w r.node
  pub short : length_at_by f w r.node ≤ most
  pub linked : LinkedBy f w r

-- the words for keys and values that node n does not use, with m pairs, are 0
pub record RestZeroBy (f : Layout) (w : List ℕ) (n m : ℕ) : Type 0 where
  pub keys : ZerosBy f w n (keys_word + m) values_word
  pub values : ZerosBy f w n (values_word + m) edges_word

-- edge i of node n leads to a node whose parent that is
pub record LeadsBy (f : Layout) (w : List ℕ) (count n i : ℕ) : Type 0 where
  pub inside : edge_at_by f w n i < count
  pub parent_is : word_at_by f w (edge_at_by f w n i) parent_word ≡ n

abbrev pub Leads : List ℕ → ℕ → ℕ → ℕ → Type 0
Leads = LeadsBy Format2

-- the key k may come next after the last one, if any was passed
abbrev pub Above : Option ℕ → ℕ → Type 0
Above None k = Unit {0}
Above (Some x) k = x < k

-- mark seen and mark, by the last of all keys
abbrev pub Marked : ℕ → ℕ → Option ℕ → Type 0
Marked seen mark None = (seen ≤ 1) × (seen ≡ 0 → mark ≡ 0)
Marked seen mark (Some k) = (seen ≡ 1) × (k ≤ mark)

-- 1 where y is above x
abbrev pub rise : ℕ → ℕ → ℕ
rise x y =
    elim (ltb x y) [
      | true ↦ 1
      | false ↦ 0
    ]

-- how many of the first m numbers are below the next one
unfoldable pub ups : (ℕ → ℕ) → ℕ → ℕ
ups k zero = 0
ups k (suc m) = ups k m + rise (k m) (k (suc m))

-- from each word for a key to the next one
abbrev pub steps : ℕ
steps = 10
