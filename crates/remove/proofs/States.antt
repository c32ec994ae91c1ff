-- The words of a state seen from a hole and back; and the state that a removal leaves.
-- Assumes nothing.
use Prim.Native.Nat.{ℕ, suc, ◌+◌, pred}
use native.Mathlib.Omega.{arith}
use mathlib.Core.Path.{◌≡◌, refl, ap, ◌∙◌, sym, subst}
use mathlib.Core.List.{List, [], ◌∷◌, ◌++◌}
use lib.ListN.{length, length-append}
use Rattle.model.specs.Lists.{times}
use Rattle.model.specs.Layout.{format_number, header_size, base, Arena}
use Rattle.model.specs.Tree.{Pair, Item, Tree, Ctx, Whole, plug, fill, flat, flats, lefts, before, after, flat_of, has_whole}
use Rattle.model.specs.Nodes.{Grown}
use Rattle.model.specs.Remove.{remove_at}
use Rattle.model.specs.Map.{Rising}
use Rattle.model.specs.Mark.{Covers, seen_of, mark_of}
use Rattle.model.specs.State.{State, list}
use Rattle.model.specs.Words.{root_no, first_or, nodes_in, header_of, words_of}
use Rattle.model.specs.Sound.{Sound}
use Rattle.model.specs.Promise.{Holds}
use Rattle.model.proofs.Frees.{rises_sorted, once_rises}
use Rattle.model.proofs.Lists.{all_without}
use Rattle.model.proofs.Rising.{rising_without}
use Rattle.model.proofs.Plug.{around}
use Rattle.model.proofs.Sizes.{FullWhole, to_full, of_full}
use Rattle.model.proofs.Held.{held_of, words_long}
use Rattle.model.proofs.Removal.{Leaves, remove_leaves}
use Rattle.standing.specs.Standing.{root_of, Closed}
use Rattle.standing.proofs.Scenes.{closed_of, enter, closed_words}
use Rattle.standing.specs.Heads.{rest_of, head_words, top_of, HoleIn, ClosedIn}
use Rattle.standing.proofs.States.{laid_totals}
use Rattle.model.proofs.Held.{sound_laid}
use Rattle.standing.proofs.Heads.{plug_root, plug_top}
use Rattle.remove.specs.Removals.{grown_to}

-- ---- words and states

module _ {w : List ℕ} {s : State} (o : Holds w s) {h : ℕ} (c : Ctx h) (t : Tree h) (e : plug c t ≡ s.whole) where
  root_is : root_no s.whole.height s.whole.root ≡ root_of c (root_no h t)
  root_is = ap (λ (x : Whole). root_no x.height x.root) (sym e) ∙ plug_root c t

  top_is : s.whole.height ≡ top_of c
  top_is = ap (λ (x : Whole). x.height) (sym e) ∙ plug_top c t

  head_is : header_of s ≡ head_words (rest_of s) (root_of c (root_no h t)) (pred (top_of c)) s.free
  head_is = λ i. format_number ∷ s.size ∷ header_size ∷ root_is i ∷ pred (top_is i) ∷ length (list s) ∷ first_or s.free ∷ length s.free ∷ seen_of s.mark ∷ mark_of s.mark ∷ []

  -- a state's words, seen from any hole of its tree
  pub hole_of : HoleIn w (rest_of s) c t s.free
  hole_of =
      let k = held_of o.sound in
      record {
        nodes = nodes_in s;
        arena = subst (λ (x : List ℕ). Arena x (head_words (rest_of s) (root_of c (root_no h t)) (pred (top_of c)) s.free) (nodes_in s)) (sym o.words) (subst (λ (x : List ℕ). Arena (words_of s) x (nodes_in s)) head_is k.arena);
        stand = enter c t s.free (subst (λ (x : Whole). Closed (nodes_in s) x s.free) (sym e) (closed_of o));
        many = k.many;
        told = laid_totals (sound_laid o.sound);
      }

-- and back
pub holds_of : {w : List ℕ} (s : State) → Sound s → ClosedIn w (rest_of s) (record { whole = s.whole; free = s.free }) → Holds w s
holds_of s o H = record { sound = o; words = closed_words s o H.arena refl H.many H.stand H.told }

pub same_long : {w w' : List ℕ} {s t : State} → Holds w s → Holds w' t → t.size ≡ s.size → length w' ≡ length w
same_long {s = s} {t = t} o q e = ap length q.words ∙ (words_long q.sound ∙ ap base e) ∙ sym (ap length o.words ∙ words_long o.sound)

-- ---- the state without a pair

module _ {s : State} (o : Sound s) (h : ℕ) (c : Ctx (suc h)) (n : ℕ) (l : List (Item (Tree h))) (e : Tree h) (x : Item (Tree h)) (r : List (Item (Tree h))) (w : plug c (fill n l e (x ∷ r)) ≡ s.whole) where
  abbrev g : Grown
  g = remove_at h c n l e x r s.free

  abbrev lows : List Pair
  lows = before c ++ lefts (flat h) l ++ flat h e

  abbrev highs : List Pair
  highs = flat h x.edge ++ flats (flat h) r ++ after c

  was : list s ≡ lows ++ x.pair ∷ highs
  was = sym (ap flat_of w) ∙ around c n l e x r

  full : FullWhole (plug c (fill n l e (x ∷ r)))
  full = subst FullWhole (sym w) (of_full s.whole.height s.whole.root o.full)

  left_over : Leaves (plug c (fill n l e (x ∷ r))) s.free (lows ++ highs) g
  left_over = remove_leaves h c n l e x r s.free (subst (λ (v : Whole). Rising (flat_of v)) (sym w) o.rising) full

  pub removed_sound : Sound (grown_to s g)
  removed_sound = record {
    some = o.some;
    few = o.few;
    once = λ i. left_over.has_same i ∙ (ap (λ (v : Whole). has_whole i v + times i s.free) w ∙ o.once i);
    chain_rises = once_rises s.size (λ i. has_whole i g.whole) g.free (λ i. left_over.has_same i ∙ (ap (λ (v : Whole). has_whole i v + times i s.free) w ∙ o.once i)) (left_over.sorted_still (rises_sorted s.free o.chain_rises));
    full = to_full g.whole.height g.whole.root (left_over.full_still full);
    rising = rw left_over.list_is (rising_without x.pair highs lows (rw was at o.rising));
    covered = rw left_over.list_is (all_without (λ (p : Pair). Covers s.mark p.key) lows x.pair highs (rw was at o.covered));
  }

  pub removed_pairs : length (list s) ≡ suc (length (list (grown_to s g)))
  removed_pairs = omega (arith, ap length was, length-append lows (x.pair ∷ highs), ap length left_over.list_is, length-append lows highs)
