-- A pair taken out of its leaf, in words: up to the repair, and what that leaves.
-- Assumes nothing.
use Prim.Native.Nat.{ℕ, suc, ◌-◌, pred, ◌≤◌}
use native.Mathlib.Omega.{arith}
use mathlib.Core.Path.{◌≡◌, refl, ◌∙◌, sym, subst}
use mathlib.Core.List.{List, ◌∷◌}
use lib.ListN.{length, set}
use Rattle.model.specs.Layout.{header_size, header, pairs_word, NodeVal, nth, Arena}
use Rattle.model.specs.Tree.{Tree, fill}
use Rattle.model.specs.Nodes.{Grown}
use Rattle.model.specs.Remove.{shrink}
use Rattle.model.specs.State.{State, list}
use Rattle.model.specs.Promise.{Holds}
use Rattle.model.proofs.Arena.{arena_length, arena_header}
use Rattle.model.proofs.Plug.{length_fill}
use Rattle.model.proofs.Sizes.{RootLen, FullWhole, of_full, fits_node, len_short, unplug_full}
use Rattle.node.specs.declared.Kv.{Kv}
use Rattle.node.specs.Reading.{Has, pair_of, pair_at}
use Rattle.store.proofs.Chain.{head_put}
use Rattle.leaf.specs.Pairs.{PairAt, remove_pair}
use Rattle.search.specs.declared.Handle.{Handle}
use Rattle.shrinking.proofs.Pairs.{pair_ready, pair_is, remove_long, remove_step}
use Rattle.standing.specs.Heads.{rest_of, head_words, top_of, HoleIn, ClosedIn}
use Rattle.remove.specs.Removals.{TakeCall}
use Rattle.standing.specs.Standing.{Hole}
use Rattle.slices.specs.Words.{remove_at}
use Rattle.leaf.specs.Pairs.{with_pairs}
use Rattle.shrinking.proofs.Pairs.{pairs_kept}
use Rattle.totals.specs.Settling.{above, ample, Settles}
use Rattle.totals.proofs.Settling.{top_above, due_here, part_few, hole_part, hole_kept}
use Rattle.totals.proofs.Siblings.{SettleCall, set_same, removed_told}
use Rattle.fix.specs.Repairs.{Mending}
use Rattle.standing.specs.Standing.{root_of}
use Rattle.remove.specs.Removals.{LeafKv, without}
use Rattle.remove.proofs.States.{hole_of, holds_of, removed_sound, removed_pairs}

abbrev pub RemoveCall : List ℕ → List ℕ → ℕ → ℕ → Kv → Type 0
RemoveCall w w' n i kv = (h : List ℕ) (ns : List NodeVal) → PairAt ns n i → Arena w h ns → (pair_of kv ≡ pair_at (nth ns n).pairs i) × Arena w' h (remove_pair ns n i)

-- what the repair is to leave
abbrev pub leaf_end : {s : State} {d : Handle} → LeafKv s d → Grown
leaf_end {s} y = shrink y.ctx (fill y.no y.left tt y.right) s.free

module _ {w : List ℕ} {s : State} (o : Holds w s) {d : Handle} (y : LeafKv s d) where
  abbrev was : Tree 1
  was = fill y.no y.left tt (y.item ∷ y.right)

  abbrev rest : Tree 1
  rest = fill y.no y.left tt y.right

  H : HoleIn w (rest_of s) y.ctx was s.free
  H = hole_of o y.ctx was y.whole

  abbrev hd : List ℕ
  hd = head_words (rest_of s) (root_of y.ctx y.no) (pred (top_of y.ctx)) s.free

  ready : PairAt H.nodes y.no (length y.left)
  ready = pair_ready y.ctx y.no y.left tt y.item y.right s.free H.stand

  pub leaf_in : Has w (λ h ns. PairAt ns d.node.0 d.at.0)
  leaf_in = rw (y.node_is, y.at_is) at (let z : Has w (λ h ns. PairAt ns y.no (length y.left)) = record { head = hd; nodes = H.nodes; arena = H.arena; holds = ready } in z)

  pub there : LeafKv s (record { node = d.node; height = 0; at = d.at })
  there = record { ctx = y.ctx; no = y.no; left = y.left; item = y.item; right = y.right; whole = y.whole; node_is = y.node_is; at_is = y.at_is }

  -- it is one pair less
  fewer : length (list s) ≡ suc (length (list (without s y)))
  fewer = removed_pairs o.sound 0 y.ctx y.no y.left tt y.item y.right y.whole

  module _ {w₁ : List ℕ} {kv : Kv} (call : RemoveCall w w₁ d.node.0 d.at.0 kv) where
    call' : RemoveCall w w₁ y.no (length y.left) kv
    call' = rw (← y.node_is, ← y.at_is) at call

    pub raw_taken : pair_of kv ≡ y.item.pair
    raw_taken = (call' hd H.nodes ready H.arena).0 ∙ pair_is y.ctx y.no y.left tt y.item y.right s.free H.stand

    abbrev gone : List NodeVal
    gone = remove_pair H.nodes y.no (length y.left)

    A₁ : Arena w₁ hd gone
    A₁ = (call' hd H.nodes ready H.arena).1

    gone_hole : Hole gone y.ctx rest s.free
    gone_hole = remove_step y.ctx y.no y.left tt y.item y.right s.free H.stand

    settles : Settles hd gone y.no
    settles = record {
      lone = record { height = 0; way = y.ctx; tree = rest; free = s.free; stand = hole_part y.ctx rest s.free gone_hole; node_is = refl; deep = (let z : above y.ctx ≤ pred (top_of y.ctx) = omega (arith, top_above y.ctx) in z); told = removed_told H.nodes y.no (length y.left) (pairs_kept H.nodes H.stand.links y.no ready.node _) H.told };
      low = subst (λ (k : ℕ). k ≤ ample) (sym (set_same H.nodes y.no (with_pairs (nth H.nodes y.no) (remove_at (nth H.nodes y.no).pairs (length y.left))) refl y.no))
          (omega (arith, H.told y.no refl, due_here y.ctx was s.free (hole_part y.ctx was s.free H.stand) (λ m u. H.told m refl), part_few y.ctx was s.free H.arena (hole_part y.ctx was s.free H.stand)));
    }

    pub raw_settle : Has w₁ (λ hd ns. Settles hd ns d.node.0)
    raw_settle = subst (λ (n : ℕ). Has w₁ (λ hd ns. Settles hd ns n)) y.node_is (record { head = hd; nodes = gone; arena = A₁; holds = settles })

    pub raw_told : {w₂ : List ℕ} → SettleCall w₁ w₂ d.node.0 → HoleIn w₂ (rest_of s) y.ctx rest s.free
    raw_told {w₂} settle =
        let S = (subst (SettleCall w₁ w₂) (sym y.node_is) settle) hd gone settles A₁ in
        record { nodes = S.nodes; arena = S.arena; stand = hole_kept y.ctx rest s.free S.same gone_hole; many = S.same.long ∙ (remove_long y.ctx y.no y.left tt y.item y.right s.free H.stand ∙ H.many); told = S.told }

  module _ {w₁ : List ℕ} {kv : Kv} (call : TakeCall w w₁ d.node d.at kv) where
    abbrev y' : LeafKv s (record { node = d.node; height = 0; at = d.at })
    y' = record { ctx = y.ctx; no = y.no; left = y.left; item = y.item; right = y.right; whole = y.whole; node_is = y.node_is; at_is = y.at_is }

    pub leaf_taken : pair_of kv ≡ y.item.pair
    leaf_taken = (call s o y').0

    H₁ : HoleIn w₁ (rest_of s) y.ctx rest s.free
    H₁ = (call s o y').1

    pub pairs_word_is : (header_size ≤ length w₁) × (header w₁ pairs_word ≡ suc (length (list (without s y))))
    pairs_word_is = (omega (arith, arena_length H₁.arena), arena_header H₁.arena pairs_word (omega arith) ∙ fewer)

    -- the repair that is now to be made
    pub leaf_mending : {w₂ : List ℕ} → w₂ ≡ set w₁ pairs_word (header w₁ pairs_word - 1) → Mending w₂ (rest_of (without s y)) d.node.0 (leaf_end y)
    leaf_mending e =
        let q : header w₁ pairs_word - 1 ≡ length (list (without s y)) = omega (arith, pairs_word_is.1) in
        let u = unplug_full y.ctx was (subst FullWhole (sym y.whole) (of_full s.whole.height s.whole.root o.sound.full)) in
        record {
          height = 0;
          way = y.ctx;
          tree = rest;
          free = s.free;
          held = record {
            nodes = H₁.nodes;
            arena = rw (e, q) (head_put H₁.arena pairs_word (length (list (without s y))) (omega arith));
            stand = H₁.stand;
            many = H₁.many;
            told = H₁.told;
          };
          node_is = y.node_is;
          full = u.0;
          short = len_short y.ctx (length was.rest) (length rest.rest) (fits_node RootLen y.ctx was u.1).0 (omega (arith, length_fill y.no y.left tt (y.item ∷ y.right), length_fill y.no y.left tt y.right));
          same = refl;
        }

  pub leaf_holds : {w₃ : List ℕ} → ClosedIn w₃ (rest_of (without s y)) (leaf_end y) → Holds w₃ (without s y)
  leaf_holds C = holds_of (without s y) (removed_sound o.sound 0 y.ctx y.no y.left tt y.item y.right y.whole) C
