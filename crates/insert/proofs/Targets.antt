-- The edge of a half that the code has chosen, and what an insertion at a gap leaves for the climb.
-- Assumes nothing.
use Prim.Native.Nat.{ℕ, ◌+◌}
use mathlib.Core.Path.{◌≡◌, refl, ap, ◌∙◌}
use mathlib.Core.List.{List}
use Rattle.model.specs.Tree.{Pair}
use Rattle.model.specs.Nodes.{untaken, Grown}
use Rattle.model.specs.Layout.{header, free_word}
use Rattle.model.proofs.Arena.{arena_header}
use Rattle.model.specs.Insert.{Side, left, right, splitpoint}
use Rattle.node.specs.declared.NodeNo.{NodeNo}
use Rattle.node.specs.declared.Rising.{Rising}
use Rattle.node.specs.Reading.{side_of, rising_of}
use Rattle.growing.specs.Steps.{half}
use Rattle.standing.specs.Heads.{Rest}
use Rattle.growing.specs.Climbs.{Gap, Going}
use Rattle.std.proofs.Common.{Option, None, Some, ◌≤◌, ◌<◌, [], ◌∷◌, length, arith}
use Rattle.node.specs.declared.Place.{Place}
use Rattle.leaf.specs.declared.SplitResult.{SplitResult}
use Rattle.insert.specs.Inserts.{target_of, Outcome, Upward}

module _ (point : Rising) (e : ℕ) (l r : NodeNo) (t : NodeNo × Place) (is : point ≡ rising_of (splitpoint e)) (chosen : t ≡ target_of point.insertion l r) where
  same : t ≡ target_of (side_of (splitpoint e).side (splitpoint e).edge) l r
  same = chosen ∙ ap (λ (p : Rising). target_of p.insertion l r) is

  pub target_node : t.0.0 ≡ half (splitpoint e).side l.0 r.0
  target_node = ap (λ (x : NodeNo × Place). x.0.0) same ∙ go (splitpoint e).side (splitpoint e).edge
    where
      go : (s : Side) (i : ℕ) → (target_of (side_of s i) l r).0.0 ≡ half s l.0 r.0
      go left i = refl
      go right i = refl

  pub target_at : t.1.0 ≡ (splitpoint e).edge
  target_at = ap (λ (x : NodeNo × Place). x.1.0) same ∙ go (splitpoint e).side (splitpoint e).edge
    where
      go : (s : Side) (i : ℕ) → (target_of (side_of s i) l r).1.0 ≡ i
      go left i = refl
      go right i = refl

pub middle_is : (point : Rising) (e : ℕ) → point ≡ rising_of (splitpoint e) → point.middle.0 ≡ (splitpoint e).place
middle_is point e is = ap (λ (p : Rising). p.middle.0) is

pub upward : {w : List ℕ} {g : Rest} {h node at child levels : ℕ} {p : Pair} {t : Grown} (G : Going w g h node at child levels p t) (w' : List ℕ) (r : Option SplitResult) → Outcome G.gap p w' r → Upward w' g node r t
upward G w' None d = G.fit w' d
upward G w' (Some s) d = (_, G.split w' _ _ d)

-- how far the climb may go: a node that was split took one of so many free nodes
abbrev pub left_over : Option SplitResult → ℕ → ℕ
left_over None n = 0
left_over (Some r) n = n + 1

one_fewer : (l : List ℕ) → 1 ≤ length l → length (untaken l) < length l
one_fewer [] o = absurd (omega arith)
one_fewer (x ∷ l) o = omega arith

module _ {w : List ℕ} {h node at child : ℕ} (s : Gap w h node at child) (p : Pair) (w' : List ℕ) where
  free_is : header w free_word ≡ length s.free
  free_is = arena_header s.held.arena free_word (omega arith)

  pub upward_fewer : (r : Option SplitResult) → Outcome s p w' r → left_over r (header w' free_word) < header w free_word + 1
  upward_fewer None o = omega arith
  upward_fewer (Some r) o =
      let e : header w' free_word ≡ length (untaken s.free) = arena_header o.held.arena free_word (omega arith) in
      omega (arith, free_is, s.enough o.full, one_fewer s.free (s.enough o.full))
