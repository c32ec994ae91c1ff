-- The nodes that a load takes are those that its pair count says.
-- Assumes nothing.
use Prim.Native.Nat.{ℕ, zero, suc, ◌+◌, ◌*◌, ◌/◌, ◌≤◌, ◌<◌}
use native.Mathlib.Nat.{div-eq_of_lt, div-lt_self, add-mul-div_left}
use native.Mathlib.Omega.{arith}
use mathlib.Core.Path.{◌≡◌, refl, ap, ◌∙◌, sym}
use mathlib.Core.Bool.{Bool, true, false}
use mathlib.Core.List.{List}
use lib.Dec.{eqb}
use lib.ListN.{length}
use borrow.Author.Tests.{eqb-true, eqb-false, ne_eqb}
use Rattle.model.specs.Layout.{most}
use Rattle.model.specs.Tree.{Pair, Ctx, top, under}
use Rattle.model.specs.Load.{Loading}
use Rattle.model.specs.Room.{above, nodes_for}
use Rattle.loading.proofs.Pushing.{Filling, Inner, RootSome, value, levels, Filled}

pub above_none : (k : ℕ) → above k 0 ≡ 0
above_none zero = refl
above_none (suc k) = refl

pub above_some : (k v : ℕ) → 1 ≤ v → above (suc k) v ≡ (v / 12 + 1) + above k (v / 12)
above_some k v l = rw (ne_eqb v 0 (λ e. omega arith), above)

pub twelfth : (v : ℕ) → 1 ≤ v → v / 12 < v
twelfth v l = div-lt_self l (omega arith)

-- any bound that is large enough will do
pub above_enough : (j k v : ℕ) → v ≤ j → v ≤ k → above j v ≡ above k v
above_enough zero k v a b = let e : v ≡ 0 = omega arith in rw e (sym (above_none k))
above_enough (suc j) zero v a b = let e : v ≡ 0 = omega arith in rw e
above_enough (suc j) (suc k) v a b = by (eqb v 0) refl (above_enough j k (v / 12))
  where
    by : (t : Bool) → eqb v 0 ≡ t → (v / 12 ≤ j → v / 12 ≤ k → above j (v / 12) ≡ above k (v / 12)) → above (suc j) v ≡ above (suc k) v
    by true e ih = let z : v ≡ 0 = eqb-true v 0 e in rw z
    by false e ih =
        let ne : v ≡ 0 → ⊥ = eqb-false v 0 e in
        let l : 1 ≤ v = omega arith in
        let d = twelfth v l in
        above_some j v l ∙ (ap (λ i. (v / 12 + 1) + i) (ih (omega arith) (omega arith)) ∙ sym (above_some k v l))

-- one level
pub above_is : (v : ℕ) → 1 ≤ v → above v v ≡ (v / 12 + 1) + above (v / 12) (v / 12)
above_is zero l = absurd (omega arith)
above_is (suc k) l = above_some k (suc k) l ∙ ap (λ i. (suc k / 12 + 1) + i) (above_enough k (suc k / 12) (suc k / 12) (let d = twelfth (suc k) l in omega arith) (omega arith))

-- the last digit goes
pub digit : (a v : ℕ) → a ≤ most → (a + 12 * v) / 12 ≡ v
digit a v l = add-mul-div_left a v (omega arith) ∙ (ap (λ i. i + v) (div-eq_of_lt {n = a} {m = 12} (omega arith)) ∙ omega arith)

-- above the leaves some pair is left of the way
value_some : {h : ℕ} (c : Ctx (suc h)) → Filling c → Inner c → 1 ≤ value c
value_some top fc i = absurd i
value_some (under {h = suc h} f c) fc i = go c fc.3 fc.4 (value_some c)
  where
    go : (c : Ctx (suc (suc h))) → RootSome c (length f.left) → Filling c → (Filling c → Inner c → 1 ≤ value c) → 1 ≤ value (under f c)
    go top s fc ih = omega arith
    go (under g c) s fc ih = omega (arith, ih fc tt)

levels_above : {h : ℕ} (c : Ctx (suc h)) → Filling c → levels c ≡ above (value c) (value c)
levels_above top fc = refl
levels_above (under {h = suc h} f c) fc =
    let e = digit (length f.left) (value c) fc.1 in
    let i = above_is (value (under f c)) (value_some (under f c) fc tt) in
    omega (arith, levels_above c fc.4, i, e, ap (λ j. above j j) e)

levels_nodes : {h : ℕ} (c : Ctx h) → Filling c → Inner c → levels c ≡ nodes_for (value c)
unfolding nodes_for
levels_nodes top fc i = absurd i
levels_nodes (under f c) fc i = let e = digit (length f.left) (value c) fc.1 in omega (arith, levels_above c fc.4, e, ap (λ j. above j j) e)

pub filled_nodes : (run : List Pair) (l : Loading) → Filled run l → l.next ≡ nodes_for (length run)
filled_nodes run l o = sym o.taken_are ∙ (levels_nodes l.way o.filling o.inner ∙ ap nodes_for o.counted)
