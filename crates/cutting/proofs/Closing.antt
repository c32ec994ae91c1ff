-- A tree whose nodes stay, when all others have become the free chain.
-- Assumes nothing.
use Prim.Native.Nat.{ℕ, zero, suc, ◌+◌, ◌≤◌, ◌<◌}
use native.Mathlib.Decide.{dec_lt}
use native.Mathlib.Omega.{arith}
use mathlib.Core.Path.{◌≡◌, refl, sym, ap, ◌∙◌, subst}
use mathlib.Core.Bool.{Bool, true, false, cond}
use mathlib.Core.List.{List, []}
use lib.ListN.{length, get_or}
use Rattle.model.specs.Lists.{times}
use Rattle.model.specs.Layout.{largest_count, NodeVal, nth}
use Rattle.model.specs.Tree.{Tree, top, Whole, has, has_whole}
use Rattle.model.specs.Words.{root_no, free_val}
use Rattle.store.specs.Links.{body_of, link_of}
use Rattle.standing.specs.Kept.{Child, Links, Kept}
use Rattle.standing.specs.Standing.{Closed}
use Rattle.standing.specs.Totals.{Totals}
use Rattle.standing.proofs.Totals.{past, changed_but}
use Rattle.standing.proofs.Frames.{stands_kept}
use Rattle.standing.proofs.Leads.{one_self}
use Rattle.totals.specs.Settling.{Part}
use Rattle.cutting.specs.Sweep.{goes, freed, swept}
use Rattle.cutting.proofs.Sweeps.{swept_long, swept_stays, swept_goes, freed_rises, freed_in, freed_past, freed_chain}
use Rattle.cutting.proofs.Members.{edges_in}

module _ (k : ℕ) (ns : List NodeVal) (u : Whole) (free : List ℕ) (tall : 1 ≤ u.height) (H : Part ns (top {h = u.height}) u.root free) (T : Totals ns) (stays : (m : ℕ) → 1 ≤ has_whole m u → goes k (nth ns m) ≡ false)
    (leaves : (m : ℕ) → m < length ns → has_whole m u ≡ 0 → goes k (nth ns m) ≡ true) where
  abbrev ms : List NodeVal
  ms = swept k 0 ns

  abbrev fs : List ℕ
  fs = freed k 0 ns

  none_in : (m : ℕ) → 1 ≤ has_whole m u → times m fs ≡ 0
  none_in m l = freed_in k ns m (H.within m (omega arith)) ∙ (rw (stays m l) refl)

  -- every node is of the tree or free
  pub swept_once : (m : ℕ) → m < length ns → has_whole m u + times m (freed k 0 ns) ≡ 1
  swept_once m l = go (dec_lt 0 (has_whole m u))
    where
      go : Dec (0 < has_whole m u) → has_whole m u + times m (freed k 0 ns) ≡ 1
      go (yes z) = omega (arith, none_in m z, H.once m)
      go (no d) = omega (arith, freed_in k ns m l, ap {B = ℕ} (λ (b : Bool). cond b 1 0) (leaves m l (omega arith)))

  swept_past : (m : ℕ) → length ns ≤ m → has_whole m u + times m (freed k 0 ns) ≡ 0
  swept_past m l = go (dec_lt 0 (has_whole m u))
    where
      go : Dec (0 < has_whole m u) → has_whole m u + times m (freed k 0 ns) ≡ 0
      go (yes z) = absurd (omega (arith, H.within m (omega arith)))
      go (no d) = omega (arith, freed_past k ns m l)

  -- a node that is not free is of the tree, and as it was
  in_tree : (m : ℕ) → m < length ns → times m fs ≡ 0 → 1 ≤ has_whole m u
  in_tree m l z = omega (arith, swept_once m l)

  same : (m : ℕ) → times m fs ≡ 0 → nth ms m ≡ nth ns m
  same m z = go (dec_lt m (length ns))
    where
      go : Dec (m < length ns) → nth ms m ≡ nth ns m
      go (yes l) = swept_stays k 0 ns m (stays m (in_tree m l z))
      go (no d) = past ms m (omega (arith, swept_long k 0 ns)) ∙ sym (past ns m (omega arith))

  made_free : (m : ℕ) → 1 ≤ times m fs → nth ms m ≡ free_val (nth ms m).parent
  made_free m l = go (dec_lt m (length ns))
    where
      off : (b : Bool) → goes k (nth ns m) ≡ b → 1 ≤ cond b 1 0 → goes k (nth ns m) ≡ true
      off true e z = e
      off false e z = absurd (omega arith)

      go : Dec (m < length ns) → nth ms m ≡ free_val (nth ms m).parent
      go (yes i) = swept_goes k 0 ns m i (off (goes k (nth ns m)) refl (omega (arith, freed_in k ns m i)))
      go (no d) = absurd (omega (arith, freed_past k ns m (omega arith)))

  links : Links ms
  links q i l = go (dec_lt 0 (times q fs))
    where
      kept : times q fs ≡ 0 → Dec (q < length ns) → Child ms q i (get_or (nth ms q).edges i 0)
      kept z (no d) = absurd (let e = ap (λ (v : NodeVal). length v.edges) (same q z ∙ past ns q (omega arith)) in omega arith)
      kept z (yes o) =
          let e : (nth ms q).edges ≡ (nth ns q).edges = ap (λ (v : NodeVal). v.edges) (same q z) in
          let j : i < length (nth ns q).edges = subst (λ (es : List ℕ). i < length es) e l in
          let c = get_or (nth ns q).edges i 0 in
          let s : nth ms c ≡ nth ns c = same c (none_in c (edges_in ns q u.height u.root H.tree (in_tree q o z) i j)) in
          let C = H.links q i j in
          subst (Child ms q i) (sym (ap (λ (es : List ℕ). get_or es i 0) e)) (record {
            within = subst (λ (n : ℕ). c < n) (sym (swept_long k 0 ns)) C.within;
            live = subst (λ (v : NodeVal). 1 ≤ v.state) (sym s) C.live;
            link = ap link_of s ∙ C.link;
          })

      go : Dec (0 < times q fs) → Child ms q i (get_or (nth ms q).edges i 0)
      go (yes z) = absurd (let e = ap (λ (v : NodeVal). length v.edges) (made_free q z) in omega arith)
      go (no d) = kept (omega arith) (dec_lt q (length ns))

  keeps : Kept ns ms fs fs
  keeps = record {
    long = swept_long k 0 ns;
    bodies = λ q z. ap body_of (same q z);
    frees = λ q z e. same q z;
    roots = λ q z e. ap link_of (same q z);
    links = links;
  }

  root_in : (h : ℕ) (t : Tree h) → 1 ≤ h → 1 ≤ has (root_no h t) h t
  root_in zero t l = absurd (omega arith)
  root_in (suc h) t l = omega (arith, one_self t.no)

  either_way : (m : ℕ) → has_whole m u + times m fs ≤ 1
  either_way m = go (dec_lt m (length ns))
    where
      go : Dec (m < length ns) → has_whole m u + times m fs ≤ 1
      go (yes l) = omega (arith, swept_once m l)
      go (no d) = omega (arith, swept_past m (omega arith))

  pub swept_closed : Closed (swept k 0 ns) u (freed k 0 ns)
  swept_closed = record {
    few = subst (λ (n : ℕ). n ≤ largest_count) (sym (swept_long k 0 ns)) H.few;
    way = tt;
    tree = stands_kept ns ms fs fs keeps u.height u.root either_way H.tree;
    chain = freed_chain k ns;
    rises = freed_rises k 0 ns;
    links = links;
    root = ap link_of (same (root_no u.height u.root) (none_in (root_no u.height u.root) (root_in u.height u.root tall))) ∙ H.root;
    once = λ m. omega (arith, either_way m);
    within = λ m l. subst (λ (n : ℕ). m < n) (sym (swept_long k 0 ns)) (inside m (omega arith));
    all = λ m l. omega (arith, swept_once m (subst (λ (n : ℕ). m < n) (swept_long k 0 ns) l));
  }
    where
      inside : (m : ℕ) → 1 ≤ has_whole m u + times m fs → m < length ns
      inside m l = go (dec_lt m (length ns))
        where
          go : Dec (m < length ns) → m < length ns
          go (yes z) = z
          go (no d) = absurd (omega (arith, swept_past m (omega arith)))

  pub swept_totals : Totals (swept k 0 ns)
  swept_totals = changed_but ns ms [] fs links (λ q z y. ap body_of (same q y)) (λ q z. ap (λ (v : NodeVal). v.total) (same q z)) made_free T
