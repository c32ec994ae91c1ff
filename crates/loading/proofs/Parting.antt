-- A tree cut along the way to a leaf edge: what is left of the way stays, short on the right border only; the numbers right of it are free.
-- Assumes nothing.
use Prim.Native.Nat.{ℕ, ◌+◌, ◌≤◌}
use native.Mathlib.Omega.{arith}
use mathlib.Core.Path.{◌≡◌, refl, ap, ◌∙◌, sym}
use mathlib.Core.Bool.{true, false}
use mathlib.Core.List.{List, [], ◌∷◌, ◌++◌, append-nil}
use lib.Dec.{leb}
use lib.ListN.{length}
use borrow.Author.Tests.{leb-true, leb-false, le-leb}
use Rattle.model.specs.Lists.{All, times}
use Rattle.model.specs.Tree.{Pair, Tree, Ctx, top, under, Whole, plug, fill, flat, lefts, before, after, flat_of, has, has_ctx, numbers_in, numbers}
use Rattle.model.specs.Nodes.{returned}
use Rattle.model.specs.Search.{reaches}
use Rattle.model.specs.Insert.{right}
use Rattle.model.specs.Map.{Below, Rising}
use Rattle.model.specs.Sound.{Full}
use Rattle.model.proofs.Lists.{all_map, times_append}
use Rattle.model.proofs.Frees.{Sorted, returned_times, returned_sorted}
use Rattle.model.proofs.Plug.{flat_plug, length_fill}
use Rattle.model.proofs.Sizes.{FullCtx, len_most}
use Rattle.model.proofs.Descent.{up_of, Parts, sink_parts}
use Rattle.model.proofs.Border.{Bordered}
use Rattle.model.specs.Parting.{path_of, trimmed, dropped, returned_all}
use Rattle.loading.proofs.Numbers.{numbers_in_lem, numbers_has}
use Rattle.loading.proofs.Stocking.{last_fill}

-- ---- the path of a key

abbrev pub AtLeast : ℕ → List Pair → Type 0
AtLeast k = All (λ (p : Pair). k ≤ p.key)

module _ (k : ℕ) (w : Whole) (rising : Rising (flat_of w)) where
  path_parts : Parts (reaches k) w (path_of k w)
  path_parts = sink_parts (reaches k) w (up_of (leb k) (λ i j l e. le-leb k j (omega (arith, leb-true k i e))) (flat_of w) rising) w.height top w.root refl tt tt

  pub path_whole : plug (path_of k w) tt ≡ w
  path_whole = path_parts.whole

  pub path_below : Below k (before (path_of k w))
  path_below = all_map _ _ (λ (p : Pair) (e : leb k p.key ≡ false). leb-false k p.key e) (before (path_of k w)) path_parts.leaves

  pub path_above : AtLeast k (after (path_of k w))
  path_above = all_map _ _ (λ (p : Pair) (e : leb k p.key ≡ true). leb-true k p.key e) (after (path_of k w)) path_parts.takes

  pub path_list : before (path_of k w) ++ after (path_of k w) ≡ flat_of w
  path_list = sym (flat_plug (path_of k w) tt) ∙ ap flat_of path_whole

-- ---- the list

pub trimmed_before : {h : ℕ} (c : Ctx h) → before (trimmed c) ≡ before c
trimmed_before top = refl
trimmed_before (under {h = h} f c) = ap (λ (q : List Pair). q ++ lefts (flat h) f.left) (trimmed_before c)

pub trimmed_after : {h : ℕ} (c : Ctx h) → after (trimmed c) ≡ []
trimmed_after top = refl
trimmed_after (under f c) = trimmed_after c

pub trimmed_flat : (c : Ctx 0) → flat_of (plug (trimmed c) tt) ≡ before c
trimmed_flat c = flat_plug (trimmed c) tt ∙ (rw (trimmed_before c, trimmed_after c) (append-nil (before c)))

-- ---- the numbers

pub trimmed_has : {h : ℕ} (m : ℕ) (c : Ctx h) → has_ctx m (trimmed c) + times m (dropped c) ≡ has_ctx m c
trimmed_has m top = refl
trimmed_has m (under {h = h} f c) = omega (arith, trimmed_has m c, times_append m (numbers_in (numbers h) f.right) (dropped c), numbers_in_lem m (numbers h) (has m h) (numbers_has m h) f.right)

pub returned_all_lem : (m : ℕ) (ns free : List ℕ) → times m (returned_all ns free) ≡ times m ns + times m free
returned_all_lem m [] free = omega arith
returned_all_lem m (n ∷ ns) free = omega (arith, returned_all_lem m ns (returned n free), returned_times n m free)

pub returned_sorted_all : (ns free : List ℕ) → Sorted free → Sorted (returned_all ns free)
returned_sorted_all [] free z = z
returned_sorted_all (n ∷ ns) free z = returned_sorted_all ns (returned n free) (returned_sorted n free z)

-- ---- the sizes

pub trimmed_bordered : {h : ℕ} (c : Ctx h) (t : Tree h) → FullCtx c → Bordered right h t → Bordered right (plug (trimmed c) t).height (plug (trimmed c) t).root
trimmed_bordered top t fc b = b
trimmed_bordered (under {h = h} f c) t fc b =
    trimmed_bordered c (fill f.no f.left t []) fc.3
    (rw length_fill (omega (arith, len_most c (length f.left + length f.right) fc.0)), last_fill (Full h) (Bordered right h) f.no f.left t [] fc.1 b)

pub trimmed_height : {h : ℕ} (c : Ctx h) (t u : Tree h) → (plug (trimmed c) t).height ≡ (plug c u).height
trimmed_height top t u = refl
trimmed_height (under f c) t u = trimmed_height c (fill f.no f.left t []) (fill f.no f.left u f.right)
