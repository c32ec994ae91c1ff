-- The nodes that an insertion needs, counted up from a leaf: so many full nodes were passed, and so many are needed above.
-- Assumes nothing.
use Prim.Native.Nat.{ℕ, zero, suc, ◌+◌, ◌≤◌, ◌<◌}
use native.Mathlib.Omega.{arith}
use mathlib.Core.Path.{◌≡◌, refl, sym, ap, ◌∙◌, subst}
use mathlib.Core.Bool.{true, false}
use mathlib.Core.List.{List}
use lib.ListN.{length}
use borrow.Author.Tests.{le-leb, lt-leb}
use Rattle.std.specs.Prelude.{Some, None}
use Rattle.model.specs.Layout.{most, largest_height, header, height_word, word_at, length_word, parent_word, place_word}
use Rattle.model.specs.Tree.{Tree, Frame, Ctx, top, under}
use Rattle.model.specs.Insert.{is_full, needed}
use Rattle.model.specs.State.{State}
use Rattle.model.specs.Promise.{Holds}
use Rattle.model.proofs.Bounds.{low}
use Rattle.model.proofs.Backward.{backward}
use Rattle.node.specs.declared.NodeNo.{NodeNo}
use Rattle.node.specs.declared.Place.{Place}
use Rattle.node.specs.Reading.{Within, ascent_of}
use Rattle.search.specs.declared.Handle.{Handle}
use Rattle.search.specs.Results.{leaf_edge}
use Rattle.navigate.specs.Places.{EdgeAt}
use Rattle.navigate.proofs.Steps.{Climb, climb_at, climb_length, climb_start, climb_top, climb_root, climb_on}

-- h nodes passed below, and as many as the way asks for: in all, total
abbrev Left : ℕ → (h : ℕ) → Ctx h → Tree h → Type 0
Left total h c t = h + needed c ≡ total

-- the count has come to the node n, past h full ones
pub record Counting (total : ℕ) (s : State) (n h : ℕ) : Type 0 where
  pub at : ℕ
  pub climb : Climb (Left total) s n h at

leaf_low : (c : Ctx zero) → (leaf_edge c).height ≡ 0
leaf_low top = refl
leaf_low (under f c) = refl

module _ {w : List ℕ} {s : State} (o : Holds w s) where
  pub count_start : (d : Handle) (y : EdgeAt s d) → Counting (needed y.way) s d.node.0 0
  count_start d y =
      let e : d.height ≡ 0 = ap (λ (x : Handle). x.height) y.is ∙ leaf_low y.way in
      record { at = d.at.0; climb = subst (λ (h : ℕ). Climb (Left (needed y.way)) s d.node.0 h d.at.0) e (climb_start (Left (needed y.way)) o.sound d y (omega arith)) }

  module _ (total n h : ℕ) (k : Counting total s n h) where
    abbrev f : Frame (Tree h)
    f = k.climb.frame

    pub count_within : Within w n
    count_within = (climb_at (Left total) o k.climb).within

    pub count_low : h ≤ header w height_word
    count_low = climb_top (Left total) o k.climb

    pub count_few : h ≤ largest_height
    count_few = omega (arith, count_low, low (backward _ _ o))

    long : word_at w n length_word ≡ length f.left + length f.right
    long = climb_length (Left total) o k.climb ∙ ap (λ (i : ℕ). i + length f.right) (sym k.climb.at_is)

    pub count_ended : word_at w n length_word < most → h ≡ total
    count_ended l =
        let e : is_full f ≡ false = lt-leb most (length f.left + length f.right) (omega (arith, long)) in
        let z = rw (e, needed) at k.climb.holds in
        omega arith

    module _ (l : most ≤ word_at w n length_word) where
      passed : suc h + needed k.climb.ctx ≡ total
      passed =
          let e : is_full f ≡ true = le-leb most (length f.left + length f.right) (omega (arith, long)) in
          let z = rw (e, needed) at k.climb.holds in
          omega arith

      pub count_root : ascent_of (word_at w n parent_word) (word_at w n place_word) ≡ None → h + 2 ≡ total
      count_root e = let z = (climb_root (Left total) o n h k.at k.climb passed e).1 in omega arith

      pub count_on : (p : NodeNo) (j : Place) → ascent_of (word_at w n parent_word) (word_at w n place_word) ≡ Some (p, j) → Counting total s p.0 (h + 1)
      count_on p j e = record { at = j.0; climb = climb_on (Left total) o n h k.at k.climb passed p j e }
