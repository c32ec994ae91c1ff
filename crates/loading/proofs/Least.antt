-- No tree whose nodes have at most 11 pairs has fewer nodes than a load of its pairs takes.
-- Assumes nothing.
use Prim.Native.Nat.{ℕ, zero, suc, ◌+◌, ◌*◌, ◌/◌, ◌%◌, ◌≤◌, ◌<◌}
use native.Mathlib.Nat.{div-add-mod', mod-lt}
use native.Mathlib.Omega.{arith}
use mathlib.Core.Path.{◌≡◌, refl, ap, ◌∙◌}
use mathlib.Core.Bool.{Bool, true, false, cond}
use mathlib.Core.List.{List, [], ◌∷◌, ◌++◌}
use lib.Dec.{eqb, ltb}
use lib.ListN.{length, length-append}
use borrow.Author.Tests.{eqb-true, eqb-false}
use Rattle.model.specs.Lists.{times}
use Rattle.model.specs.Tree.{Item, Tree, flat, flats, numbers_in, numbers}
use Rattle.model.specs.State.{State, list}
use Rattle.model.specs.Sound.{Sound, AllIn, RootFull}
use Rattle.model.proofs.Lists.{times_append, each_once, each_inside, as_many}
use Rattle.model.proofs.Sizes.{Fitting, root_fitting}
use Rattle.model.specs.Room.{above, nodes_for}
use Rattle.loading.proofs.Counting.{above_some, above_is, above_enough, twelfth}
use Rattle.loading.proofs.Numbers.{numbers_has}

-- ---- a tree without its leaves: each is a gap then

abbrev strip_in : {A B : Type 0} → (A → B) → List (Item A) → List (Item B)
strip_in f [] = []
strip_in f (x ∷ xs) = record { pair = x.pair; edge = f x.edge } ∷ strip_in f xs

abbrev strip : (h : ℕ) → Tree (suc h) → Tree h
strip zero t = tt
strip (suc h) t = record { no = t.no; first = strip h t.first; rest = strip_in (strip h) t.rest }

strip_length : {A B : Type 0} (f : A → B) (xs : List (Item A)) → length (strip_in f xs) ≡ length xs
strip_length f [] = refl
strip_length f (x ∷ xs) = ap suc (strip_length f xs)

strip_all : {A B : Type 0} (f : A → B) (P : A → Type 0) (Q : B → Type 0) → ((x : A) → P x → Q (f x)) → (xs : List (Item A)) → AllIn P xs → AllIn Q (strip_in f xs)
strip_all f P Q g [] a = tt
strip_all f P Q g (x ∷ xs) a = (g x.edge a.0, strip_all f P Q g xs a.1)

strip_fits : (h : ℕ) (t : Tree (suc h)) → Fitting (suc h) t → Fitting h (strip h t)
strip_fits zero t f = tt
strip_fits (suc h) t f = (rw (strip_length (strip h) t.rest) f.0, strip_fits h t.first f.1, strip_all (strip h) (Fitting (suc h)) (Fitting h) (strip_fits h) t.rest f.2)

gap_flats : (xs : List (Item (Tree 0))) → length (flats (flat 0) xs) ≡ length xs
gap_flats [] = refl
gap_flats (x ∷ xs) = ap suc (gap_flats xs)

-- at most 11 in each leaf, and a pair above between each two
strip_pairs : (h : ℕ) (t : Tree (suc h)) → Fitting (suc h) t → length (flat (suc h) t) + 1 ≤ 12 * (length (flat h (strip h t)) + 1)
strip_pairs zero t f = omega (arith, gap_flats t.rest, f.0)
strip_pairs (suc h) t f =
    omega (arith, length-append (flat (suc h) t.first) (flats (flat (suc h)) t.rest), length-append (flat h (strip h t.first)) (flats (flat h) (strip_in (strip h) t.rest)), strip_pairs h t.first f.1, all (strip_pairs h) t.rest f.2)
  where
    all : ((t : Tree (suc h)) → Fitting (suc h) t → length (flat (suc h) t) + 1 ≤ 12 * (length (flat h (strip h t)) + 1))
        → (xs : List (Item (Tree (suc h)))) → AllIn (Fitting (suc h)) xs → length (flats (flat (suc h)) xs) ≤ 12 * length (flats (flat h) (strip_in (strip h) xs))
    all g [] a = omega arith
    all g (x ∷ xs) a = omega (arith, length-append (flat (suc h) x.edge) (flats (flat (suc h)) xs), length-append (flat h (strip h x.edge)) (flats (flat h) (strip_in (strip h) xs)), g x.edge a.0, all g xs a.1)

no_numbers : (xs : List (Item (Tree 0))) → length (numbers_in (numbers 0) xs) ≡ 0
no_numbers [] = refl
no_numbers (x ∷ xs) = no_numbers xs

-- the leaves are one more than the pairs above
strip_size : (h : ℕ) (t : Tree (suc h)) → length (numbers (suc h) t) ≡ length (numbers h (strip h t)) + (length (flat h (strip h t)) + 1)
strip_size zero t = omega (arith, no_numbers t.rest)
strip_size (suc h) t =
    omega (
      arith,
      length-append (numbers (suc h) t.first) (numbers_in (numbers (suc h)) t.rest),
      length-append (numbers h (strip h t.first)) (numbers_in (numbers h) (strip_in (strip h) t.rest)),
      length-append (flat h (strip h t.first)) (flats (flat h) (strip_in (strip h) t.rest)),
      strip_size h t.first,
      all (strip_size h) t.rest,
    )
  where
    all : ((t : Tree (suc h)) → length (numbers (suc h) t) ≡ length (numbers h (strip h t)) + (length (flat h (strip h t)) + 1))
        → (xs : List (Item (Tree (suc h)))) → length (numbers_in (numbers (suc h)) xs) ≡ length (numbers_in (numbers h) (strip_in (strip h) xs)) + length (flats (flat h) (strip_in (strip h) xs))
    all g [] = refl
    all g (x ∷ xs) =
        omega (
          arith,
          length-append (numbers (suc h) x.edge) (numbers_in (numbers (suc h)) xs),
          length-append (numbers h (strip h x.edge)) (numbers_in (numbers h) (strip_in (strip h) xs)),
          length-append (flat h (strip h x.edge)) (flats (flat h) (strip_in (strip h) xs)),
          g x.edge,
          all g xs,
        )

-- ---- more pairs take no fewer nodes

pub div_twelve : (v : ℕ) → (12 * (v / 12) ≤ v) × (v < 12 * (v / 12) + 12)
div_twelve v = let m : v % 12 < 12 = mod-lt v (omega arith) in let e = div-add-mod' v 12 in (omega arith, omega arith)

above_mono : (k v w : ℕ) → v ≤ w → w ≤ k → above k v ≤ above k w
above_mono zero v w l u = omega arith
above_mono (suc k) v w l u = by (eqb v 0) refl (above_mono k (v / 12) (w / 12))
  where
    by : (b : Bool) → eqb v 0 ≡ b → (v / 12 ≤ w / 12 → w / 12 ≤ k → above k (v / 12) ≤ above k (w / 12)) → above (suc k) v ≤ above (suc k) w
    by true e ih = let z : v ≡ 0 = eqb-true v 0 e in rw z (omega arith)
    by false e ih =
        let ne : v ≡ 0 → ⊥ = eqb-false v 0 e in
        let lv : 1 ≤ v = omega arith in
        let lw : 1 ≤ w = omega arith in
        let a = div_twelve v in
        let b = div_twelve w in
        let d = twelfth w lw in
        let q : v / 12 ≤ w / 12 = omega arith in
        omega (arith, above_some k v lv, above_some k w lw, ih q (omega arith))

above_more : (v w : ℕ) → v ≤ w → above v v ≤ above w w
above_more v w l = omega (arith, above_enough v w v (omega arith) l, above_mono w v w l (omega arith))

pub nodes_more : (v w : ℕ) → v ≤ w → nodes_for v ≤ nodes_for w
unfolding nodes_for
nodes_more v w l = let a = div_twelve v in let b = div_twelve w in let q : v / 12 ≤ w / 12 = omega arith in omega (arith, above_more (v / 12) (w / 12) q)

-- ---- nor many: the nodes above are no more than what parts those below

pub above_few : (k v : ℕ) → above k v ≤ v
above_few zero v = omega arith
above_few (suc k) v = by (eqb v 0) refl (above_few k (v / 12))
  where
    by : (b : Bool) → eqb v 0 ≡ b → above k (v / 12) ≤ v / 12 → above (suc k) v ≤ v
    by true e ih = let z : v ≡ 0 = eqb-true v 0 e in rw z (omega arith)
    by false e ih =
        let ne : v ≡ 0 → ⊥ = eqb-false v 0 e in
        let l : 1 ≤ v = omega arith in
        let d = div_twelve v in
        omega (arith, above_some k v l)

-- ---- the least

module _ (h : ℕ) (t : Tree (suc h)) (f : Fitting (suc h) t) where
  stripped : length (flat (suc h) t) / 12 ≤ length (flat h (strip h t))
  stripped = let d = div_twelve (length (flat (suc h) t)) in omega (arith, d.0, strip_pairs h t f)

above_least : (h : ℕ) (t : Tree h) → Fitting h t → above (length (flat h t)) (length (flat h t)) ≤ length (numbers h t)
above_least zero t f = omega arith
above_least (suc h) t f = by (eqb c 0) refl (above_least h (strip h t) (strip_fits h t f))
  where
    c : ℕ
    c = length (flat (suc h) t)

    c' : ℕ
    c' = length (flat h (strip h t))

    by : (b : Bool) → eqb c 0 ≡ b → above c' c' ≤ length (numbers h (strip h t)) → above c c ≤ length (numbers (suc h) t)
    by true e ih = let z : c ≡ 0 = eqb-true c 0 e in rw z (omega arith)
    by false e ih =
        let ne : c ≡ 0 → ⊥ = eqb-false c 0 e in
        let l : 1 ≤ c = omega arith in
        omega (arith, above_is c l, above_more (c / 12) c' (stripped h t f), stripped h t f, strip_size h t, ih)

pub nodes_least : (h : ℕ) (t : Tree (suc h)) → Fitting (suc h) t → nodes_for (length (flat (suc h) t)) ≤ length (numbers (suc h) t)
unfolding nodes_for
nodes_least h t f =
    omega (arith, above_more (length (flat (suc h) t) / 12) (length (flat h (strip h t))) (stripped h t f), stripped h t f, strip_size h t, above_least h (strip h t) (strip_fits h t f))

root_least : (h : ℕ) (t : Tree h) → RootFull h t → nodes_for (length (flat h t)) ≤ length (numbers h t)
root_least zero t f = absurd f
root_least (suc h) t f = nodes_least h t (root_fitting (suc h) t f)

-- a sound state has at least as many as a load of its list takes
module _ (s : State) (o : Sound s) where
  abbrev used : List ℕ
  used = numbers s.whole.height s.whole.root

  each : (m : ℕ) → times m (used ++ s.free) ≡ cond (ltb m s.size) 1 0
  each m = times_append m used s.free ∙ (ap (λ i. i + times m s.free) (numbers_has m s.whole.height s.whole.root) ∙ o.once m)

  long : length (used ++ s.free) ≡ s.size
  long = as_many s.size (used ++ s.free) (each_inside s.size (used ++ s.free) each) (each_once s.size (used ++ s.free) each)

  pub room_enough : nodes_for (length (list s)) ≤ s.size
  room_enough = omega (arith, long, length-append used s.free, root_least s.whole.height s.whole.root o.full)
