-- The scan of a node's keys, key by key: what is left of it finds what the whole of it finds.
-- Assumes nothing.
use Rattle.std.proofs.Common.{ℕ, ◌+◌, ◌≤◌, ◌<◌, add-one, arith, ◌≡◌, sym, ap, ◌∙◌, List, length, get_or, drop, drop_of_length-le, drop-cons, le-leb, eq-eqb, ne_eqb}
use borrow.Author.Tests.{lt-leb}
use Rattle.model.specs.Range.{IndexResult, kv, edge, key_index}
use Rattle.node.specs.declared.Place.{Place}
use Rattle.model.proofs.Forks.{IndexIs, hit, miss, index_is, equal_inside}
use Rattle.search.specs.declared.IndexResult as found
use Rattle.search.specs.declared.IndexResult.TheVariants.{Kv, Edge}
use Rattle.search.specs.Results.{indexed}

-- what is left of the scan at the place i
abbrev pub index_from : ℕ → List ℕ → ℕ → IndexResult
index_from k ks i = key_index k i (drop i ks)

module _ (k : ℕ) (ks : List ℕ) (i : ℕ) where
  pub index_past : i < length ks → get_or ks i 0 < k → index_from k ks i ≡ index_from k ks (i + 1)
  index_past l u = rw (add-one, drop-cons ks i 0 l, key_index) (rw (lt-leb k (get_or ks i 0) u, key_index))

  pub index_kv : i < length ks → k ≡ get_or ks i 0 → index_from k ks i ≡ kv i
  index_kv l e = rw (drop-cons ks i 0 l) (rw (le-leb k (get_or ks i 0) (omega arith), eq-eqb k (get_or ks i 0) e, key_index))

  pub index_edge : i < length ks → k < get_or ks i 0 → index_from k ks i ≡ edge i
  index_edge l u = rw (drop-cons ks i 0 l) (rw (le-leb k (get_or ks i 0) (omega arith), ne_eqb k (get_or ks i 0) (λ e. omega arith), key_index))

  pub index_end : length ks ≤ i → index_from k ks i ≡ edge i
  index_end l = rw (drop_of_length-le ks {i = i} l)

-- ---- what the code's result says of the model's

pub is_kv : (z : IndexResult) (p : Place) → Kv p ≡ indexed z → z ≡ kv p.0
is_kv (kv i) p e = let y : p.0 ≡ i = cc in ap kv (sym y)
is_kv (edge i) p e = let y : ◌≡◌ {A = ℕ} 0 1 = cc in absurd (omega arith)

pub is_edge : (z : IndexResult) (p : Place) → Edge p ≡ indexed z → z ≡ edge p.0
is_edge (kv i) p e = let y : ◌≡◌ {A = ℕ} 0 1 = cc in absurd (omega arith)
is_edge (edge i) p e = let y : p.0 ≡ i = cc in ap edge (sym y)

-- ---- a key that is there, is inside

module _ (k s : ℕ) (ks : List ℕ) (r : found.IndexResult) (is : r ≡ indexed (key_index k s ks)) (p : Place) where
  pub kv_inside : r ≡ Kv p → p.0 < s + length ks
  kv_inside e = go (key_index k s ks) (index_is k s ks) (sym is ∙ e)
    where
      go : (z : IndexResult) → IndexIs k s ks z → indexed z ≡ Kv p → p.0 < s + length ks
      go z (hit j t u) q = let y : s + j ≡ p.0 = cc in omega (arith, equal_inside k j ks u)
      go z (miss j t u) q = let y : ◌≡◌ {A = ℕ} 0 1 = cc in absurd (omega arith)
