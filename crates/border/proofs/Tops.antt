-- A root and empty tops, in words.
-- Assumes nothing.
use Prim.Native.Nat.{ℕ, zero, suc, ◌≤◌, ◌<◌}
use native.Mathlib.Omega.{arith}
use mathlib.Core.Path.{◌≡◌, refl, ap, ◌∙◌, sym, subst}
use mathlib.Core.List.{List, [], ◌∷◌}
use lib.ListN.{length}
use Rattle.model.specs.Layout.{base, header, root_word, height_word, word_at, length_word}
use Rattle.model.specs.Tree.{Item, Tree, Ctx, top, under, plug, fill}
use Rattle.model.specs.Nodes.{returned, Grown}
use Rattle.model.specs.Border.{drop_tops}
use Rattle.model.specs.Remove.{pop}
use Rattle.node.specs.Reading.{Within, Has}
use Rattle.internal.specs.Inner.{Poppable}
use Rattle.standing.specs.Heads.{Rest, HoleIn, ClosedIn}
use Rattle.fix.specs.Repairs.{Emptied}
use Rattle.fix.proofs.Holes.{hole_header, hole_long, node_within, node_long}
use Rattle.fix.proofs.Emptying.{PopCall, emptied_in, emptied_popped}
use Rattle.border.specs.Borders.{Some, Rooted, Topped, tops}

-- a tree with a root, from any closed one that has a level
pub rooted_of : {w : List ℕ} {g : Rest} (t : Grown) → ClosedIn w g t → 1 ≤ t.whole.height → Rooted w g t
rooted_of {w} {g} t H l = go t.whole.height t.whole.root t.free H l
  where
    go : (h : ℕ) (x : Tree h) (free : List ℕ) → HoleIn w g (top {h = h}) x free → 1 ≤ h → Rooted w g (record { whole = record { height = h; root = x }; free = free })
    go zero x free H l = absurd (omega arith)
    go (suc h) x free H l = record { height = h; tree = x; free = free; held = H; same = refl }

pub plug_some : {h : ℕ} (c : Ctx (suc h)) (t : Tree (suc h)) → 1 ≤ (plug c t).height
plug_some top t = omega arith
plug_some (under f c) t = plug_some c (fill f.no f.left t f.right)

-- tops that stay, and one that goes
drop_stays : (h : ℕ) (t : Tree (suc h)) (free : List ℕ) → Some h (length t.rest) → drop_tops h t free ≡ record { whole = record { height = suc h; root = t }; free = free }
drop_stays zero t free l = refl
drop_stays (suc h) t free l = go t.rest refl l
  where
    go : (r : List (Item (Tree (suc h)))) → t.rest ≡ r → 1 ≤ length r → drop_tops (suc h) t free ≡ record { whole = record { height = suc (suc h); root = t }; free = free }
    go [] e l = absurd (omega arith)
    go (x ∷ r) e l = rw (e, drop_tops) (λ i. record { whole = record { height = suc (suc h); root = record { no = t.no; first = t.first; rest = e i } }; free = free })

drop_goes : (h : ℕ) (t : Tree (suc (suc h))) (free : List ℕ) → t.rest ≡ [] → drop_tops (suc h) t free ≡ drop_tops h t.first (returned t.no free)
drop_goes h t free e = rw (e, drop_tops) refl

pub some_leaf : (h n : ℕ) → h ≡ 0 → Some h n
some_leaf zero n e = tt
some_leaf (suc h) n e = absurd (omega arith)

pub some_pairs : (h n : ℕ) → 1 ≤ n → Some h n
some_pairs zero n l = tt
some_pairs (suc h) n l = l

module _ {w : List ℕ} {g : Rest} {t : Grown} (x : Rooted w g t) where
  pub root_word_is : header w root_word ≡ x.tree.no
  root_word_is = hole_header top x.tree x.free x.held root_word (omega arith)

  pub height_word_is : header w height_word ≡ x.height
  height_word_is = hole_header top x.tree x.free x.held height_word (omega arith)

  pub rooted_long : length w ≡ base g.size
  rooted_long = hole_long top x.tree x.free x.held

  pub root_known : (n : ℕ) → n ≡ header w root_word → Within w n × (word_at w n length_word ≡ length x.tree.rest)
  root_known n e = rw (e, root_word_is) (node_within top x.tree x.free x.held, node_long top x.tree x.free x.held)

  pub stays : Some x.height (length x.tree.rest) → Topped w g (tops t)
  stays o = subst (Topped w g) (sym (drop_stays x.height x.tree x.free o) ∙ ap tops x.same) (record { rooted = record { height = x.height; tree = x.tree; free = x.free; held = x.held; same = refl }; some = o })

  -- an empty one
  abbrev emptied : length x.tree.rest ≡ 0 → Emptied w g (pop x.height x.tree x.free)
  emptied e = record { height = x.height; tree = x.tree; free = x.free; held = x.held; bare = go x.tree.rest e; same = refl }
    where
      go : {A : Type 0} (l : List A) → length l ≡ 0 → l ≡ []
      go [] e = refl
      go (y ∷ l) e = absurd (omega arith)

  pub goes_in : length x.tree.rest ≡ 0 → 0 < header w height_word → Has w (λ h ns. Poppable h ns)
  goes_in e l = emptied_in (emptied e) l

  pub goes : {w' : List ℕ} → length x.tree.rest ≡ 0 → 0 < header w height_word → PopCall w w' → (t' : Grown) × (y : Rooted w' g t') × (suc y.height ≡ x.height) × (tops t' ≡ tops t)
  goes {w'} e l call = go x.height x.tree x.free (emptied e).bare (emptied_popped (emptied e) l call) x.same (omega (arith, height_word_is))
    where
      go : (h : ℕ) (r : Tree (suc h)) (free : List ℕ) → r.rest ≡ [] → ClosedIn w' g (pop h r free) → record { whole = record { height = suc h; root = r }; free = free } ≡ t → 0 < h → (t' : Grown) × (y : Rooted w' g t') × (suc y.height ≡ h) × (tops t' ≡ tops t)
      go zero r free b H q l = absurd (omega arith)
      go (suc h) r free b H q l =
          let p : pop (suc h) r free ≡ record { whole = record { height = suc h; root = r.first }; free = returned r.no free } = rw (b, pop) refl in
          let H' : ClosedIn w' g (record { whole = record { height = suc h; root = r.first }; free = returned r.no free }) = subst (ClosedIn w' g) p H in
          (_, record { height = h; tree = r.first; free = returned r.no free; held = H'; same = refl }, refl, sym (drop_goes h r free b) ∙ ap tops q)
