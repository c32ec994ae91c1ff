-- What a tree, a way and a chain keep when some nodes change.
-- Assumes nothing.
use mathlib.Core.Path.{ap, ◌∙◌}
use mathlib.Core.List.{List, [], ◌∷◌}
use Prim.Native.Nat.{ℕ, zero, suc, ◌+◌, ◌≤◌}
use native.Mathlib.Omega.{arith}
use Rattle.model.specs.Lists.{All, times}
use Rattle.model.specs.Layout.{NodeVal}
use Rattle.model.specs.Tree.{Item, Tree, Ctx, top, under, has_in, has, has_ctx}
use Rattle.model.specs.Words.{chain_blocks}
use Rattle.model.specs.Sound.{AllIn}
use Rattle.model.proofs.Held.{Written}
use Rattle.standing.specs.Kept.{Kept}
use Rattle.standing.specs.Standing.{Stands, Way}
use Rattle.standing.proofs.Leads.{one_self}

module _ (ns ns' : List NodeVal) (xs ys : List ℕ) (K : Kept ns ns' xs ys) where
  all_by : (h : ℕ) → ((t : Tree h) → ((q : ℕ) → has q h t + times q xs ≤ 1) → Stands ns h t → Stands ns' h t)
      → (l : List (Item (Tree h))) → ((q : ℕ) → has_in (has q h) l + times q xs ≤ 1) → AllIn (Stands ns h) l → AllIn (Stands ns' h) l
  all_by h f [] z a = tt
  all_by h f (x ∷ l) z a = (f x.edge (λ q. omega (arith, z q)) a.0, all_by h f l (λ q. omega (arith, z q)) a.1)

  pub stands_kept : (h : ℕ) (t : Tree h) → ((q : ℕ) → has q h t + times q xs ≤ 1) → Stands ns h t → Stands ns' h t
  stands_kept zero t z s = tt
  stands_kept (suc h) t z s = (
    K.bodies t.no (omega (arith, z t.no, one_self t.no)) ∙ s.0,
    stands_kept h t.first (λ q. omega (arith, z q)) s.1,
    all_by h (stands_kept h) t.rest (λ q. omega (arith, z q)) s.2,
  )

  pub all_kept : (h : ℕ) (l : List (Item (Tree h))) → ((q : ℕ) → has_in (has q h) l + times q xs ≤ 1) → AllIn (Stands ns h) l → AllIn (Stands ns' h) l
  all_kept h = all_by h (stands_kept h)

  pub way_kept : {h : ℕ} (c : Ctx h) (k : ℕ) → ((q : ℕ) → has_ctx q c + times q xs ≤ 1) → Way ns c k → Way ns' c k
  way_kept top k z w = tt
  way_kept (under {h = h} f c) k z w = (
    K.bodies f.no (omega (arith, z f.no, one_self f.no)) ∙ w.0,
    all_kept h f.left (λ q. omega (arith, z q)) w.1,
    all_kept h f.right (λ q. omega (arith, z q)) w.2,
    way_kept c f.no (λ q. omega (arith, z q)) w.3,
  )

  pub chain_kept : (free : List ℕ) → ((q : ℕ) → times q free + times q xs ≤ 1) → All (Written ns) (chain_blocks free) → All (Written ns') (chain_blocks free)
  chain_kept [] z c = tt
  chain_kept (x ∷ xs) z c = (
    K.frees x (omega (arith, z x, one_self x)) (ap (λ (v : NodeVal). v.state) c.0) ∙ c.0,
    chain_kept xs (λ q. omega (arith, z q)) c.1,
  )
