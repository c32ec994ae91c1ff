-- A turn of the loop that adds up counts, and a count written.
-- Assumes nothing.
use Prim.Native.Nat.{ℕ, zero, suc, ◌+◌, ◌≤◌, ◌<◌}
use mathlib.Core.Path.{◌≡◌, refl, ap, ◌∙◌}
use mathlib.Core.List.{List, [], ◌∷◌}
use native.Mathlib.Omega.{arith}
use lib.ListN.{length, get_or, set, take, length-map}
use lib.Seq.{take_all}
use Rattle.model.specs.Layout.{NodeVal, nth, Arena, base, total_word, word_at, edges_word, length_word, most}
use Rattle.node.specs.Fields.{totalled}
use Rattle.node.specs.Reading.{Within}
use Rattle.node.proofs.Fields.{stored, total_set, first, done}
use Rattle.node.proofs.Reading.{within, edge_is, total_is, len_is}
use Rattle.store.specs.Links.{LinkReady}
use Rattle.store.proofs.All.{all_at}
use Rattle.standing.specs.Totals.{totals, due, put_total, with_total}

-- the counts of the first i of some nodes
totals_more : (ns : List NodeVal) (cs : List ℕ) (i : ℕ) → i < length cs → totals ns (take (i + 1) cs) ≡ totals ns (take i cs) + (nth ns (get_or cs i 0)).total
totals_more ns [] i l = absurd (omega arith)
totals_more ns (c ∷ cs) zero l = omega arith
totals_more ns (c ∷ cs) (suc i) l = let e : suc i + 1 ≡ suc (i + 1) = omega arith in rw e (omega (arith, totals_more ns cs i (omega arith)))

totals_few : (ns : List NodeVal) (cs : List ℕ) (i : ℕ) → totals ns (take i cs) ≤ totals ns cs
totals_few ns cs zero = omega arith
totals_few ns [] (suc i) = omega arith
totals_few ns (c ∷ cs) (suc i) = omega (arith, totals_few ns cs i)

-- what has been added up when i edges have been looked at
abbrev pub sofar : List NodeVal → ℕ → ℕ → ℕ
sofar ns n i = length (nth ns n).pairs + totals ns (take i (nth ns n).edges)

pub sofar_few : (ns : List NodeVal) (n i : ℕ) → sofar ns n i ≤ due ns n
sofar_few ns n i = omega (arith, totals_few ns (nth ns n).edges i)

pub sofar_all : (ns : List NodeVal) (n e : ℕ) → e ≡ length (nth ns n).edges → sofar ns n e ≡ due ns n
sofar_all ns n e k = ap (λ (l : List ℕ). length (nth ns n).pairs + totals ns l) (take_all e (nth ns n).edges (omega arith))

module _ {w h : List ℕ} {ns : List NodeVal} {n e : ℕ} (a : Arena w h ns) (k : LinkReady ns n e) where
  pub here : Within w n × (e ≤ most + 1)
  here =
      let s = (a.small n k.node).edges_fit in
      let c = k.count in
      (within a n k.node, omega arith)

  pub none_yet : word_at w n length_word ≡ sofar ns n 0
  none_yet = omega (arith, len_is a n k.node)

  module _ (i c : ℕ) (l : i < e) (q : c ≡ word_at w n (edges_word + i)) where
    child : c ≡ get_or (nth ns n).edges i 0
    child = q ∙ edge_is a n k.node i (omega (arith, k.count))

    inside : c < length ns
    inside = rw child (all_at (λ (t : ℕ). t < length ns) (nth ns n).edges i 0 (omega (arith, k.count)) k.lead)

    pub child_here : Within w c
    child_here = within a c inside

    pub one_more : sofar ns n (i + 1) ≡ sofar ns n i + word_at w c total_word
    one_more = omega (arith, totals_more ns (nth ns n).edges i (omega (arith, k.count)), total_is a c inside, ap (λ (x : ℕ). (nth ns x).total) child)

-- a count written
pub total_put : {w h : List ℕ} {ns : List NodeVal} → Arena w h ns → (n b x : ℕ) → n < length ns → b ≡ base n → Arena (set w (b + total_word) x) h (put_total ns n x)
total_put {ns = ns} a n b x o e = rw e (done ns n o _ (with_total (nth ns n) x) refl (first ns n o (totalled x) (total_set (stored a) n (rw length-map o) x)))
