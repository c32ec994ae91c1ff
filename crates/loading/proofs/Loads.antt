-- A load leaves a sound state whose list is the run, in the nodes from 0 on.
-- Assumes nothing.
use Prim.Native.Nat.{ℕ, zero, suc, ◌+◌, ◌-◌, ◌≤◌, ◌<◌}
use native.Mathlib.Omega.{arith}
use mathlib.Core.Path.{◌≡◌, ap, ◌∙◌, sym, subst}
use mathlib.Core.Logic.{⊎_elim}
use mathlib.Core.Bool.{cond}
use mathlib.Core.List.{List, [], ◌∷◌, ◌++◌, append-nil}
use lib.Dec.{ltb}
use lib.ListN.{length}
use Rattle.model.specs.Lists.{All, count, times}
use Rattle.model.specs.Layout.{largest_count}
use Rattle.model.specs.Tree.{Pair, Tree, top, plug, flat, flat_of, before, has, has_ctx, has_whole}
use Rattle.model.specs.Mark.{Mark, unseen, seen, Covers}
use Rattle.model.specs.Map.{Rising}
use Rattle.model.specs.State.{list}
use Rattle.model.specs.Sound.{Sound}
use Rattle.model.proofs.Lists.{below_or, same_or, one_same, one_other, bit_in, bit_out}
use Rattle.model.proofs.Frees.{count_rises}
use Rattle.model.proofs.Plug.{flat_plug, has_plug}
use Rattle.model.proofs.Sizes.{FullWhole, to_full}
use Rattle.model.specs.Load.{Loading, push_all, begun, plenty_of, last_mark, loaded_with, loaded}
use Rattle.model.specs.Room.{nodes_for}
use Rattle.loading.proofs.Pushing.{up_to, up_to_suc, count_last, Filled, begun_filled, pushes_filled, filling_after}
use Rattle.loading.proofs.Stocking.{RootPlenty, filling_plenty, down_restocked}
use Rattle.loading.proofs.Counting.{filled_nodes}

-- ---- the numbers from 0 on

pub up_to_add : (m n k : ℕ) → up_to m n + times m (count n k) ≡ up_to m (n + k)
up_to_add m n zero = let e : n + 0 ≡ n = omega arith in rw e (omega arith)
up_to_add m n (suc k) =
    let e : n + suc k ≡ suc (n + k) = omega arith in
    omega (arith, up_to_add m n k, count_last m n k, ap (up_to m) e, up_to_suc m (n + k))

pub up_to_is : (m n : ℕ) → up_to m n ≡ cond (ltb m n) 1 0
up_to_is m zero = sym (bit_out m 0 (omega arith))
up_to_is m (suc n) =
    let i = up_to_is m n in
    let s = up_to_suc m n in
    ⊎_elim
    (λ (l : m < n). omega (arith, bit_in m n l, bit_in m (suc n) (omega arith), one_other n m (λ e. omega arith)))
    (λ (l : n ≤ m). ⊎_elim
    (λ (e : n ≡ m). omega (arith, bit_out m n l, bit_in m (suc n) (omega arith), one_same n m e))
    (λ (d : n ≡ m → ⊥). omega (arith, bit_out m n l, bit_out m (suc n) (omega arith), one_other n m d))
    (same_or n m))
    (below_or m n)

-- ---- the stocking of a whole tree

pub plenty_flat : (h : ℕ) (t : Tree h) → RootPlenty h t → flat_of (plenty_of h t) ≡ flat h t
plenty_flat zero t r = absurd r
plenty_flat (suc h) t r = (down_restocked h top t tt r.0 r.1).flat_is ∙ simp append-nil

pub plenty_has : (m h : ℕ) (t : Tree h) → RootPlenty h t → has_whole m (plenty_of h t) ≡ has m h t
plenty_has m zero t r = absurd r
plenty_has m (suc h) t r = (down_restocked h top t tt r.0 r.1).has_is m ∙ omega arith

pub plenty_full : (h : ℕ) (t : Tree h) → RootPlenty h t → FullWhole (plenty_of h t)
plenty_full zero t r = absurd r
plenty_full (suc h) t r = (down_restocked h top t tt r.0 r.1).full

-- ---- the mark of a run covers it

covers_down : (m : Mark) (j k : ℕ) → j < k → Covers m k → Covers m j
covers_down unseen j k l c = c
covers_down (seen a) j k l c = omega arith

pub last_covers : (run : List Pair) → Rising run → All (λ (p : Pair). Covers (last_mark run) p.key) run
last_covers [] r = tt
last_covers (p ∷ []) r = (omega arith, tt)
last_covers (p ∷ q ∷ ps) r = let i = last_covers (q ∷ ps) r.1 in (covers_down (last_mark (q ∷ ps)) p.key q.key r.0.0 i.0, i)

-- ---- the load

module _ (run : List Pair) where
  abbrev pub pushes : Loading
  pushes = push_all run begun

  pub run_filled : Filled run pushes
  run_filled = pushes_filled [] run begun begun_filled

  run_plenty : RootPlenty (plug pushes.way tt).height (plug pushes.way tt).root
  run_plenty = filling_plenty pushes.way tt run_filled.filling run_filled.inner tt

  -- so many nodes are taken
  pub load_nodes : pushes.next ≡ nodes_for (length run)
  load_nodes = filled_nodes run pushes run_filled

  module _ (mark : Mark) (n : ℕ) where
    pub load_list : list (loaded_with mark n run) ≡ run
    load_list =
        plenty_flat (plug pushes.way tt).height (plug pushes.way tt).root run_plenty
        ∙ (flat_plug pushes.way tt ∙ (ap (λ (q : List Pair). before pushes.way ++ q) (filling_after pushes.way run_filled.filling) ∙ (append-nil (before pushes.way) ∙ run_filled.list_is)))

    -- and they are those below that number, each once
    pub load_numbers : (m : ℕ) → has_whole m (loaded_with mark n run).whole ≡ cond (ltb m (nodes_for (length run))) 1 0
    load_numbers m =
        plenty_has m (plug pushes.way tt).height (plug pushes.way tt).root run_plenty
        ∙ (has_plug m pushes.way tt ∙ (let e : has_ctx m pushes.way + 0 ≡ up_to m pushes.next = omega (arith, run_filled.numbered m) in e ∙ (up_to_is m pushes.next ∙ ap (λ i. cond (ltb m i) 1 0) load_nodes)))

    pub load_sound : Rising run → All (λ (p : Pair). Covers mark p.key) run → nodes_for (length run) ≤ n → n ≤ largest_count → Sound (loaded_with mark n run)
    unfolding nodes_for
    load_sound r c room few = record {
      some = omega arith;
      few = few;
      once = λ m.
          let e : pushes.next + (n - pushes.next) ≡ n = omega (arith, load_nodes) in
          let a = load_numbers m ∙ (ap (λ i. cond (ltb m i) 1 0) (sym load_nodes) ∙ sym (up_to_is m pushes.next)) in
          ap (λ i. i + times m (count pushes.next (n - pushes.next))) a ∙ (up_to_add m pushes.next (n - pushes.next) ∙ (ap (up_to m) e ∙ up_to_is m n));
      chain_rises = count_rises pushes.next (n - pushes.next);
      full = to_full (loaded_with mark n run).whole.height (loaded_with mark n run).whole.root (plenty_full (plug pushes.way tt).height (plug pushes.way tt).root run_plenty);
      rising = subst Rising (sym load_list) r;
      covered = subst (All (λ (p : Pair). Covers mark p.key)) (sym load_list) c;
    }

-- a load with its own mark
pub loaded_sound : (n : ℕ) (run : List Pair) → Rising run → nodes_for (length run) ≤ n → n ≤ largest_count → Sound (loaded n run)
loaded_sound n run r room few = load_sound run (last_mark run) n r (last_covers run r) room few
