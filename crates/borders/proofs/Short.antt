-- A test of words: that they are those of a state whose only short nodes lie on a border.
-- Assumes nothing.
use Prim.Native.Nat.{ℕ, zero, suc, ◌≤◌, ◌<◌}
use mathlib.Core.Path.{◌≡◌, sym, ◌∙◌}
use mathlib.Core.List.{List, [], ◌∷◌}
use lib.Dec.{T}
use lib.ListN.{length}
use Rattle.model.specs.Lists.{All, Rises, times}
use Rattle.model.specs.Layout.{least, most, largest_count}
use Rattle.model.specs.Tree.{Pair, Item, Node, Tree}
use Rattle.model.specs.Mark.{Mark, unseen, seen, Covers}
use Rattle.model.specs.Map.{Rising}
use Rattle.model.specs.State.{State, list}
use Rattle.model.specs.Words.{words_of}
use Rattle.model.specs.Sound.{Full}
use Rattle.model.specs.Insert.{Side, left, right}
use Rattle.model.proofs.Lists.{once_each}
use Rattle.model.proofs.Blocks.{numbers_in, times_blocks}
use Rattle.model.proofs.Decode.{state_of}
use Rattle.model.proofs.Border.{LastKids, EndKids, Bordered}
use Rattle.border.specs.Borders.{Bordering, ShortOn}
use Rattle.borders.proofs.Tests.{Test, both, so, always, never, le, same, same_words, each, each_below}

-- ---- sizes

abbrev full : (h : ℕ) (t : Tree h) → Test (Full h t)
full zero t = always tt
full (suc h) t =
    so (λ k. (k.0.0, k.0.1, k.1.0, k.1.1))
    (both (both (le least (length t.rest)) (le (length t.rest) most)) (both (full h t.first) (each (λ (x : Item (Tree h)). Full h x.edge) (λ x. full h x.edge) t.rest)))

module _ {A : Type 0} (P Q : A → Type 0) (p : (e : A) → Test (P e)) (q : (e : A) → Test (Q e)) where
  abbrev last_kids : (e : A) (r : List (Item A)) → Test (LastKids P Q e r)
  last_kids e [] = q e
  last_kids e (x ∷ r) = both (p e) (last_kids x.edge r)

  abbrev end_kids : (s : Side) (t : Node A) → Test (EndKids s P Q t)
  end_kids right t = last_kids t.first t.rest
  end_kids left t = both (q t.first) (each (λ (x : Item A). P x.edge) (λ x. p x.edge) t.rest)

abbrev bordered : (s : Side) (h : ℕ) (t : Tree h) → Test (Bordered s h t)
bordered s zero t = always tt
bordered s (suc h) t = both (le (length t.rest) most) (end_kids (Full h) (Bordered s h) (full h) (bordered s h) s t)

-- ---- keys

abbrev rising : (l : List Pair) → Test (Rising l)
rising [] = always tt
rising (p ∷ ps) = both (each (λ (q : Pair). p.key < q.key) (λ q. le (suc p.key) q.key) ps) (rising ps)

abbrev covers : (m : Mark) (k : ℕ) → Test (Covers m k)
covers unseen k = never
covers (seen m) k = le k m

-- ---- the free chain

abbrev rises : (l : List ℕ) → Test (Rises l)
rises [] = always tt
rises (x ∷ l) = both (each (λ (y : ℕ). x < y) (λ y. le (suc x) y) l) (rises l)

-- ---- the state, and its words

module _ (s : Side) (st : State) where
  abbrev numbered : Test (All (λ (x : ℕ). x < st.size) (numbers_in st) × ((i : ℕ) → i < st.size → times i (numbers_in st) ≡ 1))
  numbered = both (each (λ (x : ℕ). x < st.size) (λ x. le (suc x) st.size) (numbers_in st)) (each_below (λ i. times i (numbers_in st) ≡ 1) (λ i. same (times i (numbers_in st)) 1) st.size)

  abbrev ordered : Test (Rising (list st) × All (λ (p : Pair). Covers st.mark p.key) (list st))
  ordered = both (rising (list st)) (each (λ (p : Pair). Covers st.mark p.key) (λ p. covers st.mark p.key) (list st))

  abbrev sized : Test ((1 ≤ st.size) × (st.size ≤ largest_count))
  sized = both (le 1 st.size) (le st.size largest_count)

  abbrev treed : Test ((1 ≤ st.whole.height) × Bordered s st.whole.height st.whole.root)
  treed = both (le 1 st.whole.height) (bordered s st.whole.height st.whole.root)

  abbrev bordering : Test (Bordering s st)
  bordering =
      so (λ k. record {
        some = k.0.0.0;
        few = k.0.0.1;
        once = λ m. sym (times_blocks m st) ∙ once_each st.size (numbers_in st) k.0.1.0 k.0.1.1 m;
        chain_rises = k.1.0.1;
        tall = k.1.0.0.0;
        bordered = k.1.0.0.1;
        rising = k.1.1.0;
        covered = k.1.1.1;
      })
      (both (both sized numbered) (both (both treed (rises st.free)) ordered))

unfoldable pub short : (s : Side) (w : List ℕ) → Test (ShortOn s w)
short s w = so (λ k. record { state = state_of w; short = k.0; words = k.1 }) (both (bordering s (state_of w)) (same_words w (words_of (state_of w))))

-- words that pass the test are such
pub short_on : (s : Side) {w : List ℕ} → T (short s w).passed → ShortOn s w
short_on s {w} = (short s w).shows
