-- A cut of a sound state: what stays is sound and has the keys below, what goes has the others.
-- Assumes nothing.
use Prim.Native.Nat.{ℕ, zero, suc, ◌+◌, ◌≤◌}
use native.Mathlib.Omega.{arith}
use mathlib.Core.Path.{◌≡◌, ap, ◌∙◌, sym, subst}
use mathlib.Core.List.{List, ◌++◌}
use lib.ListN.{length}
use Rattle.model.specs.Lists.{All, times}
use Rattle.model.specs.Layout.{largest_count}
use Rattle.model.specs.Tree.{Pair, Tree, Ctx, Whole, before, has_whole}
use Rattle.model.specs.Nodes.{Grown}
use Rattle.model.specs.Insert.{right}
use Rattle.model.specs.Mark.{Covers}
use Rattle.model.specs.Map.{Below, Rising}
use Rattle.model.specs.Border.{fix_border}
use Rattle.model.specs.State.{State, list}
use Rattle.model.specs.Sound.{Sound, RootFull}
use Rattle.model.proofs.Lists.{all_left, all_right}
use Rattle.model.proofs.Rising.{rising_left, rising_right}
use Rattle.model.proofs.Plug.{has_plug}
use Rattle.model.proofs.Sizes.{FullCtx, FullWhole, of_full, unplug_full}
use Rattle.model.proofs.Climb.{has_grown}
use Rattle.model.proofs.Calls.{kept}
use Rattle.model.proofs.Border.{Bordered, fix_flat, fix_has, fix_full, fix_sorted}
use Rattle.model.specs.Load.{loaded_with}
use Rattle.model.specs.Room.{nodes_for}
use Rattle.model.specs.Parting.{path_of, trimmed, dropped, cut_along, cut_off, part_off}
use Rattle.loading.proofs.Parting.{AtLeast, path_whole, path_below, path_above, path_list, trimmed_flat, trimmed_has, returned_all_lem, returned_sorted_all, trimmed_bordered, trimmed_height}
use Rattle.loading.proofs.Loads.{load_sound}

root_high : (h : ℕ) (t : Tree h) → RootFull h t → 1 ≤ h
root_high zero t r = absurd r
root_high (suc h) t r = omega arith

fix_whole : (w : Whole) (free : List ℕ) → 1 ≤ w.height → Bordered right w.height w.root → FullWhole (fix_border right w free).whole
fix_whole w free = go w.height w.root
  where
    go : (h : ℕ) (t : Tree h) → 1 ≤ h → Bordered right h t → FullWhole (fix_border right (record { height = h; root = t }) free).whole
    go zero t l b = absurd (omega arith)
    go (suc h) t l b = fix_full right h t free b

module _ (k : ℕ) (s : State) (o : Sound s) where
  abbrev path : Ctx 0
  path = path_of k s.whole

  abbrev stays : Grown
  stays = cut_along path s.free

  path_full : FullCtx path
  path_full = (unplug_full path tt (subst FullWhole (sym (path_whole k s.whole o.rising)) (of_full s.whole.height s.whole.root o.full))).0

  -- before the repair: short on the right border only
  pub stays_bordered : Bordered right stays.whole.height stays.whole.root
  stays_bordered = trimmed_bordered path tt path_full tt

  -- freed and kept numbers are all
  pub stays_has : (m : ℕ) → has_grown m stays ≡ has_whole m s.whole + times m s.free
  stays_has m = omega (arith, has_plug m (trimmed path) tt, trimmed_has m path, returned_all_lem m (dropped path) s.free, sym (has_plug m path tt) ∙ ap (has_whole m) (path_whole k s.whole o.rising))

  -- the lists
  pub cut_list : list (cut_off k s) ≡ before path
  cut_list = fix_flat right stays.whole stays.free ∙ trimmed_flat path

  pub cut_both : list (cut_off k s) ++ part_off k s ≡ list s
  cut_both = ap (λ (q : List Pair). q ++ part_off k s) cut_list ∙ path_list k s.whole o.rising

  pub cut_below : Below k (list (cut_off k s))
  cut_below = subst (Below k) (sym cut_list) (path_below k s.whole o.rising)

  pub part_above : AtLeast k (part_off k s)
  part_above = path_above k s.whole o.rising

  pub part_rising : Rising (part_off k s)
  part_rising = rising_right (list (cut_off k s)) (part_off k s) (subst Rising (sym cut_both) o.rising)

  pub part_covered : All (λ (p : Pair). Covers s.mark p.key) (part_off k s)
  part_covered = all_right _ (list (cut_off k s)) (part_off k s) (subst (All (λ (p : Pair). Covers s.mark p.key)) (sym cut_both) o.covered)

  pub cut_sound : Sound (cut_off k s)
  cut_sound =
      kept s o (fix_border right stays.whole stays.free) s.mark (λ m. fix_has right m stays.whole stays.free ∙ stays_has m)
      (λ z. fix_sorted right stays.whole stays.free (returned_sorted_all (dropped path) s.free z))
      (fix_whole stays.whole stays.free high stays_bordered)
      (rising_left (list (cut_off k s)) (part_off k s) (subst Rising (sym cut_both) o.rising))
      (all_left _ (list (cut_off k s)) (part_off k s) (subst (All (λ (p : Pair). Covers s.mark p.key)) (sym cut_both) o.covered))
    where
      high : 1 ≤ stays.whole.height
      high = let e = trimmed_height path tt tt ∙ ap (λ (w : Whole). w.height) (path_whole k s.whole o.rising) in let l = root_high s.whole.height s.whole.root o.full in omega arith

  -- the second arena, of n nodes
  pub part_sound : (n : ℕ) → nodes_for (length (part_off k s)) ≤ n → n ≤ largest_count → Sound (loaded_with s.mark n (part_off k s))
  part_sound n room few = load_sound (part_off k s) s.mark n part_rising part_covered room few
