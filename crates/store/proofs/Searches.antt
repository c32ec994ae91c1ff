-- The search for the free node before one that is returned, along the chain and downwards in turns.
-- Assumes nothing.
use Prim.Native.Nat.{ℕ, ◌-◌, ◌≤◌, ◌<◌}
use native.Mathlib.Omega.{arith}
use mathlib.Core.Path.{◌≡◌, refl, sym, ap, ◌∙◌}
use mathlib.Core.Logic.{⊎_elim}
use mathlib.Core.List.{List, [], ◌∷◌}
use lib.ListN.{length}
use borrow.Author.Tests.{lt-ltb, le-ltb, eq-eqb, ne_eqb}
use Rattle.std.specs.Prelude.{Option, Some, None}
use Rattle.node.specs.declared.NodeNo.{NodeNo}
use Rattle.model.specs.Lists.{All}
use Rattle.model.specs.Layout.{none, NodeVal, nth}
use Rattle.model.specs.Words.{first_or, chain_blocks}
use Rattle.model.proofs.Held.{Written}
use Rattle.model.proofs.Lists.{below_or, same_or, times_has}
use Rattle.store.specs.Links.{node_if, ReturnReady, last_below}
use Rattle.store.proofs.Returns.{last_is}

-- free nodes have the state of one
pub free_states : (ns : List NodeVal) (l : List ℕ) → All (Written ns) (chain_blocks l) → All (λ (x : ℕ). (nth ns x).state ≡ 0) l
free_states ns [] c = tt
free_states ns (x ∷ l) c = (ap (λ (v : NodeVal). v.state) c.0, free_states ns l c.1)

-- what is left of the chain, from `next` on, leads to the same; and none from `down` up to n is free
pub record Searching (ns : List NodeVal) (free : List ℕ) (n before next down : ℕ) : Type 0 where
  pub rest : List ℕ
  pub first : next ≡ first_or rest
  pub chain : All (Written ns) (chain_blocks rest)
  pub inside : All (λ (x : ℕ). x < length ns) rest
  pub goes : last_below n before rest ≡ last_below n none free
  pub between : (q : ℕ) → down ≤ q → q < n → 1 ≤ (nth ns q).state

module _ {h : List ℕ} {ns : List NodeVal} (free : List ℕ) (n : ℕ) (r : ReturnReady h ns free n) where
  pub search_start : (next : ℕ) → next ≡ first_or free → Searching ns free n none next n
  search_start next e = record { rest = free; first = e; chain = r.frees.chain; inside = r.frees.inside; goes = refl; between = λ q a b. absurd (omega arith) }

  module _ (before next down : ℕ) (s : Searching ns free n before next down) where
    small : n < none
    small = omega (arith, r.node, r.frees.few)

    -- no more of the chain is below n
    pub search_ends : n ≤ next → before ≡ last_below n none free
    search_ends o = go s.rest s.first s.goes
      where
        go : (l : List ℕ) → next ≡ first_or l → last_below n before l ≡ last_below n none free → before ≡ last_below n none free
        go [] e g = g
        go (x ∷ l) e g = rw (le-ltb x n (omega arith)) at g

    module _ (o : next < n) where
      -- a step of both
      pub record Step : Type 0 where
        pub within : next < length ns
        pub is_free : (nth ns next).state ≡ 0
        pub below : next < down
        pub on : Searching ns free n next (nth ns next).parent down

      pub search_step : Step
      search_step = go s.rest s.first s.chain s.inside s.goes
        where
          go : (l : List ℕ) → next ≡ first_or l → All (Written ns) (chain_blocks l) → All (λ (x : ℕ). x < length ns) l → last_below n before l ≡ last_below n none free → Step
          go [] e c i g = absurd (omega (arith, small))
          go (x ∷ l) e c i g =
              let k : nth ns next ≡ nth ns x = ap (nth ns) e in
              let z : (nth ns next).state ≡ 0 = ap (λ (v : NodeVal). v.state) (k ∙ c.0) in
              record {
                within = rw e i.0;
                is_free = z;
                below = ⊎_elim (λ u. u) (λ (u : down ≤ next). absurd (omega (arith, s.between next u o))) (below_or next down);
                on = record {
                  rest = l;
                  first = ap (λ (v : NodeVal). v.parent) (k ∙ c.0);
                  chain = c.1;
                  inside = i.1;
                  goes = rw e ((rw (lt-ltb x n (omega arith)) at g));
                  between = s.between;
                };
              }

      -- the node downwards is free: it is the one
      pub search_found : (d : ℕ) → d ≡ down - 1 → down ≤ n → (nth ns d).state ≡ 0 → d ≡ last_below n none free
      search_found d e u z =
          let k = search_step in
          let o' : d < n = omega (arith, k.below) in
          sym (last_is n d none free r.frees.rises (r.frees.only d (omega (arith, r.node)) z) o' (λ q a b i.
          let y : (nth ns q).state ≡ 0 = times_has (λ x. (nth ns x).state ≡ 0) free (free_states ns free r.frees.chain) q i in
          omega (arith, s.between q (omega arith) b)))

      -- it is not: on with both
      pub search_on : (d : ℕ) → d ≡ down - 1 → 1 ≤ (nth ns d).state → Searching ns free n next (nth ns next).parent d
      search_on d e z =
          let k = search_step.on in
          record {
            rest = k.rest;
            first = k.first;
            chain = k.chain;
            inside = k.inside;
            goes = k.goes;
            between = λ q a b. ⊎_elim (λ (x : q ≡ d). rw x z) (λ (x : q ≡ d → ⊥). s.between q (omega arith) b) (same_or q d);
          }

    -- no node downwards is left: no more of the chain is below n
    pub search_over : down ≡ 0 → before ≡ last_below n none free
    search_over z = search_ends (⊎_elim (λ (o : next < n). absurd (omega (arith, (search_step o).below))) (λ u. u) (below_or next n))

-- ---- the node that a word names

pub node_none : (p : ℕ) → p ≡ none → node_if p ≡ None
node_none p e = rw (eq-eqb p none e, node_if)

pub node_some : (p : ℕ) → (p ≡ none → ⊥) → node_if p ≡ Some (record { 0 = p })
node_some p d = rw (ne_eqb p none d, node_if)

pub names_none : (p : ℕ) → node_if p ≡ None → p ≡ none
names_none p e = ⊎_elim (λ u. u) (λ (d : p ≡ none → ⊥). let z = node_some p d in cc) (same_or p none)

pub names_some : (p : ℕ) (q : NodeNo) → node_if p ≡ Some q → (q.0 ≡ p) × (p ≡ none → ⊥)
names_some p q e =
    ⊎_elim (λ (u : p ≡ none). let z = node_none p u in cc) (λ (d : p ≡ none → ⊥). (ap number (sym e ∙ node_some p d), d)) (same_or p none)
  where
    number : Option NodeNo → ℕ
    number None = 0
    number (Some x) = x.0
