-- A sound state cut off at a key: where the cut begins, and the words when it is done but for the repair of the border.
-- Assumes nothing.
use Prim.Native.Nat.{ℕ, zero, suc, pred, ◌+◌, ◌≤◌, ◌<◌}
use native.Mathlib.Decide.{dec_lt}
use native.Mathlib.Omega.{arith}
use mathlib.Core.Path.{◌≡◌, refl, sym, ap, ap₂, ◌∙◌, subst}
use mathlib.Core.Bool.{Bool, true, false, cond}
use mathlib.Core.List.{List, ◌++◌}
use lib.Dec.{ltb}
use lib.ListN.{length, set}
use lib.Seq.{ext_get_or}
use borrow.Author.Tests.{lt-ltb, ltb-true}
use Rattle.model.specs.Lists.{All, Rises, times}
use Rattle.model.specs.Layout.{none, header, height_word, pairs_word, NodeVal, nth, blank, arena_by, Arena}
use Rattle.model.specs.Tree.{Tree, Ctx, top, under, Whole, plug, fill, flat, before, has_ctx, has_whole}
use Rattle.model.specs.Map.{Below}
use Rattle.model.specs.State.{State, list}
use Rattle.model.specs.Words.{root_no, blocks, chain_blocks, blocks_in, nodes_in, header_of, words_of_by, words_of}
use Rattle.model.specs.Sound.{Sound}
use Rattle.model.specs.Parting.{path_of, trimmed, dropped}
use Rattle.model.proofs.Lists.{all_append, times_append}
use Rattle.model.proofs.Frees.{rises_sorted, once_rises}
use Rattle.model.proofs.Sizes.{FullCtx, FullWhole, Fitting, of_full, unplug_full}
use Rattle.model.proofs.Held.{Written, Laid, laid_node, laid_held, sound_laid}
use Rattle.store.specs.Links.{link_of}
use Rattle.search.specs.declared.Handle.{Handle}
use Rattle.search.specs.Results.{leaf_edge}
use Rattle.standing.specs.Standing.{Stands, root_of, at_root, Hole, Closed}
use Rattle.standing.specs.Heads.{rest_of, head_words, top_of}
use Rattle.standing.specs.Totals.{Totals}
use Rattle.standing.proofs.Scenes.{enter, laid_closed, written_of}
use Rattle.standing.proofs.States.{laid_totals}
use Rattle.standing.proofs.Totals.{stands_total}
use Rattle.standing.proofs.Leads.{one_self}
use Rattle.totals.specs.Settling.{above}
use Rattle.totals.proofs.Settling.{hole_part, top_above}
use Rattle.totals.proofs.Siblings.{chain_free}
use Rattle.loading.proofs.Chain.{rises_ext}
use Rattle.loading.proofs.Parting.{path_whole, path_below, path_above, trimmed_flat, trimmed_has, trimmed_height, returned_all_lem, returned_sorted_all}
use Rattle.loading.proofs.Cuts.{stays_has}
use Rattle.cutting.specs.Trims.{spine, Goal, Trims, Trimmed}
use Rattle.cutting.specs.Halves.{half}
use Rattle.cutting.specs.Sweep.{goes, freed, swept, swept_head}
use Rattle.cutting.proofs.Sweeps.{swept_long, freed_rises, freed_past}
use Rattle.cutting.proofs.Members.{tree_stays, way_goes, free_goes}
use Rattle.cutting.proofs.Closing.{swept_once, swept_closed, swept_totals}

-- ---- the words of a state that is laid out, from its nodes

laid_words : {w k : List ℕ} {ns : List NodeVal} (s : State) → Laid s → Arena w k ns → k ≡ header_of s → length ns ≡ s.size → Closed ns s.whole s.free → Totals ns → w ≡ words_of s
unfolding words_of_by
laid_words {ns = ns} s o a e n c T = a.words ∙ ap₂ (arena_by _) e nodes_are
  where
    tree : (h : ℕ) (t : Tree h) → 1 ≤ h → Stands ns h t → link_of (nth ns (root_no h t)) ≡ at_root → All (Written ns) (blocks h none 0 t)
    tree zero t l s r = absurd (omega arith)
    tree (suc h) t l s r = written_of ns c.links T h none 0 t s r

    written : All (Written ns) (blocks_in s)
    written = all_append (Written ns) (blocks s.whole.height none 0 s.whole.root) (chain_blocks s.free) (tree s.whole.height s.whole.root o.tall c.tree c.root) c.chain

    nodes_are : ns ≡ nodes_in s
    nodes_are = ext_get_or blank ns (nodes_in s) (n ∙ sym (laid_held o).many) (λ m l. laid_node o (λ q v. nth ns q ≡ v) written m (omega arith))

-- ---- ways

plug_height : {h : ℕ} (c : Ctx h) (t : Tree h) → (plug c t).height ≡ top_of c
plug_height top t = refl
plug_height (under f c) t = plug_height c (fill f.no f.left t f.right)

plug_root : {h : ℕ} (c : Ctx h) (t : Tree h) → root_no (plug c t).height (plug c t).root ≡ root_of c (root_no h t)
plug_root top t = refl
plug_root (under f c) t = plug_root c (fill f.no f.left t f.right)

trimmed_root : {h : ℕ} (c : Ctx h) (x : ℕ) → root_of (trimmed c) x ≡ root_of c x
trimmed_root top x = refl
trimmed_root (under f c) x = trimmed_root c f.no

spine_has : {h : ℕ} (m : ℕ) (c : Ctx h) → times m (spine c) ≤ has_ctx m (trimmed c)
spine_has m top = omega arith
spine_has m (under f c) = omega (arith, spine_has m c)

abbrev pub goal_at : State → Ctx 0 → Goal
goal_at s c = record { nodes = nodes_in s; left = dropped c ++ s.free; free = s.free; whole = plug (trimmed c) tt }

module _ (k : ℕ) (s : State) (o : Sound s) where
  abbrev path : Ctx 0
  path = path_of k s.whole

  abbrev goal : Goal
  goal = goal_at s path

  L : Laid s
  L = sound_laid o

  hole : Hole (nodes_in s) path tt s.free
  hole = enter path tt s.free (subst (λ (w : Whole). Closed (nodes_in s) w s.free) (sym (path_whole k s.whole o.rising)) (laid_closed L))

  pub nodes_many : length (nodes_in s) ≡ s.size
  nodes_many = (laid_held L).many

  -- ---- where it begins

  begin_at : (c : Ctx 0) → Hole (nodes_in s) c tt s.free → plug c tt ≡ s.whole → (d : Handle) → d ≡ leaf_edge c → Trims (words_of s) (header_of s) (goal_at s c) d.node.0 d.at.0 (header (header_of s) height_word)
  begin_at top H e d z = absurd (let h = ap (λ (w : Whole). w.height) e in omega (arith, L.tall))
  begin_at (under f c) H e d z =
      subst (λ (x : Handle). Trims (words_of s) (header_of s) (goal_at s (under f c)) x.node.0 x.at.0 (header (header_of s) height_word)) (sym z) (record {
        height = 0;
        frame = f;
        way = c;
        tree = tt;
        nodes = nodes_in s;
        arena = (laid_held L).arena;
        long = refl;
        stand = hole_part (under f c) tt s.free H;
        node_is = refl;
        place_is = refl;
        deep = low s.whole.height (top_above c) (sym (plug_height (under f c) tt) ∙ ap (λ (w : Whole). w.height) e);
        told = λ q u. laid_totals L q refl;
        apart = λ m. omega (arith, times_append m (dropped (under f c)) s.free, spine_has m (under f c), trimmed_has m (under f c), H.once m);
        others = λ m u. refl;
        going = refl;
      })
    where
      low : (h : ℕ) → top_of c ≡ above c + 1 → top_of c ≡ h → above c ≤ pred h
      low zero a b = absurd (omega arith)
      low (suc h) a b = omega arith

  pub cut_starts : (d : Handle) → d ≡ leaf_edge (path_of k s.whole) → Trims (words_of s) (header_of s) (goal_at s (path_of k s.whole)) d.node.0 d.at.0 (header (header_of s) height_word)
  cut_starts = begin_at path hole (path_whole k s.whole o.rising)

  -- ---- the state that stays

  pub half_once : (m : ℕ) → has_whole m (half k s).whole + times m (half k s).free ≡ cond (ltb m s.size) 1 0
  half_once m = stays_has k s o m ∙ o.once m

  pub half_rises : Rises (half k s).free
  half_rises = once_rises s.size (λ m. has_whole m (half k s).whole) (half k s).free half_once (returned_sorted_all (dropped path) s.free (rises_sorted s.free o.chain_rises))

  same_height : (half k s).whole.height ≡ s.whole.height
  same_height = trimmed_height path tt tt ∙ ap (λ (w : Whole). w.height) (path_whole k s.whole o.rising)

  pub half_tall : 1 ≤ (half k s).whole.height
  half_tall = omega (arith, same_height, L.tall)

  same_root : root_no (half k s).whole.height (half k s).whole.root ≡ root_no s.whole.height s.whole.root
  same_root = plug_root (trimmed path) tt ∙ trimmed_root path 0 ∙ sym (plug_root path tt) ∙ ap (λ (w : Whole). root_no w.height w.root) (path_whole k s.whole o.rising)

  pub half_list : list (half k s) ≡ before (path_of k s.whole)
  half_list = trimmed_flat path

  path_full : FullCtx path
  path_full = (unplug_full path tt (subst FullWhole (sym (path_whole k s.whole o.rising)) (of_full s.whole.height s.whole.root o.full))).0

  -- ---- the words when it is done

  module _ {w : List ℕ} (D : Trimmed w (header_of s) goal) where
    stays : (m : ℕ) → 1 ≤ has_whole m (half k s).whole → goes k (nth D.nodes m) ≡ false
    stays m u = tree_stays k D.nodes m (half k s).whole.height (half k s).whole.root D.stand.tree (subst (Below k) (sym half_list) (path_below k s.whole o.rising)) u

    bit : (m : ℕ) → m < s.size → cond {A = ℕ} (ltb m s.size) 1 0 ≡ 1
    bit m l = ap {B = ℕ} (λ (b : Bool). cond b 1 0) (lt-ltb m s.size l)

    leaves : (m : ℕ) → m < length D.nodes → has_whole m (half k s).whole ≡ 0 → goes k (nth D.nodes m) ≡ true
    leaves m l z =
        let i : m < s.size = omega (arith, D.long, nodes_many) in
        let u : times m (dropped path) + times m s.free ≡ 1 = omega (arith, half_once m, bit m i, returned_all_lem m (dropped path) s.free) in
        subst (λ (v : NodeVal). goes k v ≡ true) (sym (D.others m (omega (arith, times_append m (dropped path) s.free)))) (go u (dec_lt 0 (times m (dropped path))))
      where
        go : times m (dropped path) + times m s.free ≡ 1 → Dec (0 < times m (dropped path)) → goes k (nth (nodes_in s) m) ≡ true
        go u (yes a) = way_goes k (nodes_in s) m path 0 hole.way path_full (path_above k s.whole o.rising) a
        go u (no a) = free_goes k (nth (nodes_in s) m) (ap (λ (v : NodeVal). v.state) (chain_free (nodes_in s) s.free hole.chain m (omega arith)))

    abbrev ns : List NodeVal
    ns = D.nodes

    once : (m : ℕ) → m < length D.nodes → has_whole m (half k s).whole + times m (freed k 0 D.nodes) ≡ 1
    once = swept_once k D.nodes (half k s).whole s.free half_tall D.stand D.told stays leaves

    chain : freed k 0 D.nodes ≡ (half k s).free
    chain = rises_ext (freed k 0 D.nodes) (half k s).free (freed_rises k 0 D.nodes) half_rises (λ m. go m (dec_lt m (length D.nodes)))
      where
        off : (m : ℕ) (b : Bool) → ltb m s.size ≡ b → length D.nodes ≤ m → cond {A = ℕ} b 1 0 ≡ 0
        off m true e l = absurd (omega (arith, ltb-true m s.size e, D.long, nodes_many))
        off m false e l = refl

        go : (m : ℕ) → Dec (m < length D.nodes) → times m (freed k 0 D.nodes) ≡ times m (half k s).free
        go m (yes l) = omega (arith, once m l, half_once m, bit m (omega (arith, D.long, nodes_many)))
        go m (no d) = omega (arith, freed_past k D.nodes m (omega arith), half_once m, off m (ltb m s.size) refl (omega arith))

    closed : Closed (swept k 0 D.nodes) (half k s).whole (half k s).free
    closed = subst (Closed (swept k 0 D.nodes) (half k s).whole) chain (swept_closed k D.nodes (half k s).whole s.free half_tall D.stand D.told stays leaves)

    totals_true : Totals (swept k 0 D.nodes)
    totals_true = swept_totals k D.nodes (half k s).whole s.free half_tall D.stand D.told stays leaves

    -- the count of the root is that of all pairs
    pub root_total : (nth (swept k 0 D.nodes) (root_no s.whole.height s.whole.root)).total ≡ length (list (half k s))
    root_total = ap (λ (q : ℕ). (nth (swept k 0 D.nodes) q).total) (sym same_root) ∙ go (half k s).whole.height (half k s).whole.root half_tall closed.tree
      where
        go : (h : ℕ) (t : Tree h) → 1 ≤ h → Stands (swept k 0 D.nodes) h t → (nth (swept k 0 D.nodes) (root_no h t)).total ≡ length (flat h t)
        go zero t l a = absurd (omega arith)
        go (suc h) t l a = stands_total (swept k 0 D.nodes) totals_true h t a

    pub root_inside : root_no s.whole.height s.whole.root < length (swept k 0 D.nodes)
    root_inside = subst (λ (q : ℕ). q < length (swept k 0 D.nodes)) same_root (go (half k s).whole.height (half k s).whole.root half_tall (λ m u. closed.within m (omega arith)))
      where
        go : (h : ℕ) (t : Tree h) → 1 ≤ h → ((m : ℕ) → 1 ≤ has_whole m (record { height = h; root = t }) → m < length (swept k 0 D.nodes)) → root_no h t < length (swept k 0 D.nodes)
        go zero t l a = absurd (omega arith)
        go (suc h) t l a = a t.no (omega (arith, one_self t.no))

    pub head_is : set (swept_head k (header_of s) D.nodes) pairs_word (length (list (half k s))) ≡ header_of (half k s)
    head_is =
        ap (λ (fr : List ℕ). head_words (rest_of (half k s)) (root_no s.whole.height s.whole.root) (pred s.whole.height) fr) chain
        ∙ ap₂ (λ (r h : ℕ). head_words (rest_of (half k s)) r (pred h) (half k s).free) (sym same_root) (sym same_height)

  module _ (fits : Fitting (half k s).whole.height (half k s).whole.root) where
    pub half_laid : Laid (half k s)
    half_laid = record { few = o.few; once = half_once; chain_rises = half_rises; tall = half_tall; fitting = fits }

    pub half_words : {w w' : List ℕ} (D : Trimmed w (header_of s) goal) → Arena w' (set (swept_head k (header_of s) D.nodes) pairs_word (length (list (half k s)))) (swept k 0 D.nodes) → w' ≡ words_of (half k s)
    half_words D a = laid_words (half k s) half_laid a (head_is D) (swept_long k 0 D.nodes ∙ D.long ∙ nodes_many) (closed D) (totals_true D)
