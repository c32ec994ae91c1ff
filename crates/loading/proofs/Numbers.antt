-- The numbers of a tree's nodes, as a list and counted.
-- Assumes nothing.
use Prim.Native.Nat.{ℕ, zero, suc}
use native.Mathlib.Omega.{arith}
use mathlib.Core.Path.{◌≡◌, refl}
use mathlib.Core.List.{List, [], ◌∷◌}
use Rattle.model.specs.Lists.{times}
use Rattle.model.specs.Tree.{Item, Tree, has_in, has, numbers_in, numbers}
use Rattle.model.proofs.Lists.{times_append}

pub numbers_in_lem : {A : Type 0} (m : ℕ) (f : A → List ℕ) (g : A → ℕ) → ((x : A) → times m (f x) ≡ g x) → (xs : List (Item A)) → times m (numbers_in f xs) ≡ has_in g xs
numbers_in_lem m f g e [] = refl
numbers_in_lem m f g e (x ∷ xs) = omega (arith, times_append m (f x.edge) (numbers_in f xs), e x.edge, numbers_in_lem m f g e xs)

pub numbers_has : (m h : ℕ) (t : Tree h) → times m (numbers h t) ≡ has m h t
numbers_has m zero t = refl
numbers_has m (suc h) t = omega (arith, times_append m (numbers h t.first) (numbers_in (numbers h) t.rest), numbers_has m h t.first, numbers_in_lem m (numbers h) (has m h) (numbers_has m h) t.rest)
