-- A short node and its sibling, in words: what each call of the store asks, and what the words are after it.
-- Assumes nothing.
use Prim.Native.Nat.{ℕ, suc, ◌+◌, ◌-◌, pred, ◌≤◌, ◌<◌}
use native.Mathlib.Omega.{arith}
use mathlib.Core.Path.{◌≡◌, refl, ap, ◌∙◌, sym, subst}
use mathlib.Core.Bool.{true, false}
use mathlib.Core.List.{List, [], ◌∷◌}
use lib.Dec.{leb}
use lib.ListN.{length}
use borrow.Author.Tests.{leb-true, leb-false, le-leb, lt-leb}
use Rattle.model.specs.Layout.{least, most, header, count_word, free_word, word_at, length_word, NodeVal, nth, Arena}
use Rattle.model.specs.Tree.{Item, Tree, Frame, Ctx, top, under, plug, fill, Twin}
use Rattle.model.specs.Lists.{times}
use Rattle.model.specs.Nodes.{returned, Grown}
use Rattle.model.specs.Insert.{Side, left, right}
use Rattle.model.specs.Remove.{join, can_merge, staying, steal, beside_left, beside_right, shrink}
use Rattle.model.proofs.Frees.{returned_length}
use Rattle.model.proofs.Plug.{length_fill}
use Rattle.model.proofs.Sizes.{Len, FullCtx, Short, len_short, len_some}
use Rattle.model.proofs.Balance.{balance_merged, balance_moved, steal_place}
use Rattle.model.specs.Remove.{lender, taker}
use Rattle.model.proofs.Repair.{shrink_enough, shrink_merged, shrink_moved}
use Rattle.node.specs.Reading.{Within, Has}
use Rattle.node.proofs.Reading.{within, len_is}
use Rattle.store.specs.Links.{return_head}
use Rattle.balance.specs.Moves.{merge_nodes, MergeReady, Mergeable, move_nodes, StealReady}
use Rattle.standing.specs.Standing.{root_of, Beside}
use Rattle.shrinking.proofs.Steps.{left_in, right_in, left_long, right_long, merge_ready, lends_left, lends_right, merge_long, merge_step, move_long, move_step, beside_low, beside_high, hole_low, hole_high}
use Rattle.std.proofs.Common.{None, Some}
use Rattle.node.specs.declared.LeftOrRight.{LeftOrRight}
use Rattle.node.specs.declared.LeftOrRight.TheVariants.{Left, Right}
use Rattle.balance.specs.declared.BalancingContext.{BalancingContext}
use Rattle.standing.specs.Heads.{Rest, head_words, top_of, HoleIn, ClosedIn}
use Rattle.fix.specs.Repairs.{context_of, Neighbours, Merges, MergeCall, Stealing, StealCall}
use Rattle.balance.specs.Moves.{Shaped}
use Rattle.standing.specs.Standing.{Hole}
use Rattle.standing.specs.Totals.{due, TotalsBut, recount}
use Rattle.standing.proofs.Leads.{one_self}
use Rattle.standing.proofs.Scenes.{zoom_in, zoom_out}
use Rattle.totals.specs.Settling.{above, ample, Settles}
use Rattle.totals.proofs.Settling.{top_above, due_here, part_few, right_hole, right_kept, hole_part}
use Rattle.totals.proofs.Siblings.{SetCall, SettleCall, merge_total, merge_told, move_total, move_told, child_told, lower_low, lower_in, lower_arena, upper_settles, both_done}
use Rattle.fix.specs.Repairs.{side_of, both_of, Mending, Emptied, sibling, chosen}
use Rattle.fix.proofs.Holes.{closed_in, pop_keeps, hole_header, free_few}

-- ---- what the store's calls are known to do

abbrev pub RawMerge : List ℕ → List ℕ → BalancingContext → Type 0
RawMerge w w' b = (h : List ℕ) (ns : List NodeVal) (free : List ℕ) → MergeReady h ns free b.parent.0 b.at.0 b.left.0 b.right.0 → Arena w h ns → Arena w' (return_head h free b.right.0) (merge_nodes free ns b.parent.0 b.at.0 b.left.0 b.right.0)

-- the one that lends, and the other; and how many pairs the left one has then
abbrev pub lending : Side → BalancingContext → ℕ
lending left b = b.left.0
lending right b = b.right.0

abbrev pub taking : Side → BalancingContext → ℕ
taking left b = b.right.0
taking right b = b.left.0

abbrev pub shifted : Side → ℕ → ℕ → ℕ
shifted left n k = n - k
shifted right n k = n + k

abbrev pub Steals : Side → BalancingContext → ℕ → List NodeVal → Type 0
Steals s b k ns = StealReady ns b.parent.0 b.at.0 b.left.0 b.right.0 (lending s b) (taking s b) k

abbrev pub RawSteal : Side → List ℕ → List ℕ → BalancingContext → ℕ → Type 0
RawSteal s w w' b k = (h : List ℕ) (ns : List NodeVal) → Steals s b k ns → Arena w h ns → Arena w' h (move_nodes ns b.parent.0 b.at.0 b.left.0 b.right.0 (shifted s (length (nth ns b.left.0).pairs) k))

-- ---- two neighbours

module _ {w : List ℕ} {g : Rest} {b : BalancingContext} (q : Neighbours w g b) where
  abbrev ns : List NodeVal
  ns = q.held.nodes

  abbrev hd : List ℕ
  hd = head_words g (root_of q.ctx q.no) (pred (top_of q.ctx)) q.free

  T : Beside ns q.ctx q.no q.lows q.twin q.highs q.free
  T = beside_low q.ctx q.no q.lows q.twin q.highs q.free q.held.stand

  -- the parent's count is not too large
  low : (nth ns q.no).total ≤ ample
  low =
      let f : Frame (Tree (suc q.height)) = record { no = q.no; left = q.lows; right = record { pair = q.twin.pair; edge = q.twin.right } ∷ q.highs } in
      let t = fill f.no f.left q.twin.left f.right in
      let Z = zoom_out f q.ctx q.twin.left q.free q.held.stand in
      omega (arith, q.held.told q.no refl, due_here q.ctx t q.free (hole_part q.ctx t q.free Z) (λ m u. q.held.told m refl), part_few q.ctx t q.free q.held.arena (hole_part q.ctx t q.free Z))

  in_left : q.twin.left.no < length ns
  in_left = left_in q.ctx q.no q.lows q.twin q.highs q.free T

  in_right : q.twin.right.no < length ns
  in_right = right_in q.ctx q.no q.lows q.twin q.highs q.free T

  long_left : length (nth ns q.twin.left.no).pairs ≡ length q.twin.left.rest
  long_left = left_long q.ctx q.no q.lows q.twin q.highs q.free T

  long_right : length (nth ns q.twin.right.no).pairs ≡ length q.twin.right.rest
  long_right = right_long q.ctx q.no q.lows q.twin q.highs q.free T

  pub word_left : word_at w b.left.0 length_word ≡ length q.twin.left.rest
  word_left = subst (λ (x : BalancingContext). word_at w x.left.0 length_word ≡ length q.twin.left.rest) q.is (len_is q.held.arena q.twin.left.no in_left ∙ long_left)

  pub word_right : word_at w b.right.0 length_word ≡ length q.twin.right.rest
  word_right = subst (λ (x : BalancingContext). word_at w x.right.0 length_word ≡ length q.twin.right.rest) q.is (len_is q.held.arena q.twin.right.no in_right ∙ long_right)

  pub sides_known : Within w b.left.0 × Within w b.right.0 × (word_at w b.left.0 length_word ≤ most) × (word_at w b.right.0 length_word ≤ most)
  sides_known = (
    subst (λ (x : BalancingContext). Within w x.left.0) q.is (within q.held.arena q.twin.left.no in_left),
    subst (λ (x : BalancingContext). Within w x.right.0) q.is (within q.held.arena q.twin.right.no in_right),
    omega (arith, word_left, long_left, (q.held.arena.small q.twin.left.no in_left).pairs_fit),
    omega (arith, word_right, long_right, (q.held.arena.small q.twin.right.no in_right).pairs_fit),
  )

  pub merges_is : leb (word_at w b.left.0 length_word + 1 + word_at w b.right.0 length_word) most ≡ can_merge q.twin
  merges_is = rw (word_left, word_right) refl

  -- ---- merged

  module _ (e : can_merge q.twin ≡ true) where
    fits : length q.twin.left.rest + 1 + length q.twin.right.rest ≤ most
    fits = leb-true (length q.twin.left.rest + 1 + length q.twin.right.rest) most e

    ready : MergeReady hd ns q.free q.no (length q.lows) q.twin.left.no q.twin.right.no
    ready = merge_ready q.ctx q.no q.lows q.twin q.highs q.free T hd refl refl fits (free_few (under (record { no = q.no; left = q.lows; right = record { pair = q.twin.pair; edge = q.twin.right } ∷ q.highs }) q.ctx) q.twin.left q.free q.held)

    ready_b : MergeReady hd ns q.free b.parent.0 b.at.0 b.left.0 b.right.0
    ready_b = subst (λ (x : BalancingContext). MergeReady hd ns q.free x.parent.0 x.at.0 x.left.0 x.right.0) q.is ready

    pub merge_in : Has w (λ h ns. Mergeable h ns b.parent.0 b.at.0 b.left.0 b.right.0)
    merge_in = record { head = hd; nodes = ns; arena = q.held.arena; holds = (q.free, ready_b) }

    pub merges : Merges w b
    merges = record { rest = g; both = q; can = e }

    abbrev frame : Frame (Tree (suc q.height))
    frame = record { no = q.no; left = q.lows; right = q.highs }

    abbrev merged : List NodeVal
    merged = merge_nodes q.free ns q.no (length q.lows) q.twin.left.no q.twin.right.no

    abbrev freed : List ℕ
    freed = returned q.twin.right.no q.free

    abbrev hd' : List ℕ
    hd' = head_words g (root_of q.ctx q.no) (pred (top_of q.ctx)) freed

    deep : above q.ctx ≤ pred (top_of q.ctx)
    deep = omega (arith, top_above q.ctx)

    not_freed : times q.no (q.twin.right.no ∷ q.free) ≡ 0
    not_freed = omega (arith, T.once q.no, one_self q.no)

    merged_hole : Hole merged (under frame q.ctx) (join q.twin) freed
    merged_hole = zoom_in frame q.ctx (join q.twin) freed (merge_step q.ctx q.no q.lows q.twin q.highs q.free T hd refl refl)

    merged_told : TotalsBut (q.twin.left.no ∷ q.no ∷ []) merged
    merged_told = merge_told q.ctx q.no q.lows q.twin q.highs q.free T q.held.told hd refl refl

    merged_low : (nth merged q.no).total ≤ ample
    merged_low = subst (λ (k : ℕ). k ≤ ample) (sym (merge_total q.free ns q.no (length q.lows) q.twin.left.no q.twin.right.no q.no in_right not_freed)) low

    module _ {w₁ : List ℕ} (call : RawMerge w w₁ b) where
      merged_arena : Arena w₁ hd' merged
      merged_arena = subst (λ (x : BalancingContext). Arena w₁ (return_head hd q.free x.right.0) (merge_nodes q.free ns x.parent.0 x.at.0 x.left.0 x.right.0)) (sym q.is) (call hd ns q.free ready_b q.held.arena)

      pub merge_set : Has w₁ (λ hd ns. Shaped ns b.left.0 × (due ns b.left.0 < 18446744073709551616))
      merge_set = subst (λ (x : BalancingContext). Has w₁ (λ hd ns. Shaped ns x.left.0 × (due ns x.left.0 < 18446744073709551616))) q.is (lower_in frame q.ctx (join q.twin) freed merged_arena merged_hole deep merged_low [] merged_told (λ m. omega (arith, merged_hole.once m)))

      module _ {w₂ : List ℕ} (set : SetCall w₁ w₂ b.left.0) where
        set' : SetCall w₁ w₂ q.twin.left.no
        set' = subst (λ (x : BalancingContext). SetCall w₁ w₂ x.left.0) (sym q.is) set

        pub merge_settle : Has w₂ (λ hd ns. Settles hd ns b.parent.0)
        merge_settle = subst (λ (x : BalancingContext). Has w₂ (λ hd ns. Settles hd ns x.parent.0)) q.is (record { head = hd'; nodes = _; arena = lower_arena frame q.ctx (join q.twin) freed merged_arena merged_hole deep merged_low [] merged_told (λ m. omega (arith, merged_hole.once m)) w₂ set'; holds = upper_settles frame q.ctx (join q.twin) freed merged_arena merged_hole deep merged_low merged_told })

        pub merge_hole : {w₃ : List ℕ} → SettleCall w₂ w₃ b.parent.0 → HoleIn w₃ g q.ctx (fill q.no q.lows (join q.twin) q.highs) freed
        merge_hole {w₃} settle =
            let s' : SettleCall w₂ w₃ q.no = subst (λ (x : BalancingContext). SettleCall w₂ w₃ x.parent.0) (sym q.is) settle in
            let R = both_done frame q.ctx (join q.twin) freed merged_arena merged_hole deep merged_low merged_told w₂ w₃ set' s' in
            record {
              nodes = R.nodes;
              arena = R.arena;
              stand = zoom_out frame q.ctx (join q.twin) freed R.stand;
              many = R.long ∙ (merge_long q.ctx q.no q.lows q.twin q.highs q.free T hd refl refl ∙ q.held.many);
              told = R.told;
            }

  -- ---- k pairs moved, out of the one at the side s

  module _ (s : Side) (k : ℕ) (some : 1 ≤ k) (lent : k ≤ length (lender s q.twin).rest) (room : length (taker s q.twin).rest + k ≤ most) where
    steal_ready : Steals s b k ns
    steal_ready = subst (λ (x : BalancingContext). Steals s x k ns) q.is (go s lent room)
      where
        go : (s : Side) → k ≤ length (lender s q.twin).rest → length (taker s q.twin).rest + k ≤ most → Steals s (context_of q.no q.lows q.twin) k ns
        go left l r = lends_left q.ctx q.no q.lows q.twin q.highs q.free T k some l r
        go right l r = lends_right q.ctx q.no q.lows q.twin q.highs q.free T k some l r

    pub steal_in : Has w (λ h ns. Steals s b k ns)
    steal_in = record { head = hd; nodes = ns; arena = q.held.arena; holds = steal_ready }

    place : staying s k q.twin < length (join q.twin).rest
    place = steal_place k q.twin s lent

    stays : (s : Side) → shifted s (length (nth ns q.twin.left.no).pairs) k ≡ staying s k q.twin
    stays left = rw long_left refl
    stays right = rw long_left refl

    pub stealing : Stealing s w b k
    stealing = record { rest = g; both = q; some = some; lent = lent; room = room }

    abbrev got : Twin (Tree (suc q.height))
    got = steal s k q.twin

    abbrev moved : List NodeVal
    moved = move_nodes ns q.no (length q.lows) q.twin.left.no q.twin.right.no (staying s k q.twin)

    abbrev fl : Frame (Tree (suc q.height))
    fl = record { no = q.no; left = q.lows; right = record { pair = got.pair; edge = got.right } ∷ q.highs }

    abbrev fr : Frame (Tree (suc q.height))
    fr = record { no = q.no; left = record { pair = got.pair; edge = got.left } ∷ q.lows; right = q.highs }

    deep_too : above q.ctx ≤ pred (top_of q.ctx)
    deep_too = omega (arith, top_above q.ctx)

    moved_hole : Hole moved (under fl q.ctx) got.left q.free
    moved_hole = hole_low q.ctx q.no q.lows got q.highs q.free (move_step q.ctx q.no q.lows q.twin q.highs q.free T (staying s k q.twin) place)

    moved_told : TotalsBut (q.twin.left.no ∷ q.no ∷ q.twin.right.no ∷ []) moved
    moved_told m u = move_told q.ctx q.no q.lows q.twin q.highs q.free T q.held.told (staying s k q.twin) place m (omega arith)

    moved_low : (nth moved q.no).total ≤ ample
    moved_low = subst (λ (x : ℕ). x ≤ ample) (sym (move_total ns q.no (length q.lows) q.twin.left.no q.twin.right.no (staying s k q.twin) q.no)) low

    -- after the left one's count has been set right
    abbrev half_way : List NodeVal
    half_way = recount moved q.twin.left.no

    way_hole : Hole half_way (under fr q.ctx) got.right q.free
    way_hole = hole_high q.ctx q.no q.lows got q.highs q.free (beside_low q.ctx q.no q.lows got q.highs q.free (right_hole (under fl q.ctx) got.left q.free moved_hole))

    way_told : TotalsBut (q.twin.right.no ∷ q.no ∷ []) half_way
    way_told m u = child_told fl q.ctx got.left q.free moved_hole (q.twin.right.no ∷ []) moved_told m (omega arith)

    module _ {w₁ : List ℕ} (call : RawSteal s w w₁ b k) where
      moved_arena : Arena w₁ hd moved
      moved_arena =
          rw (stays s) at
          (subst (λ (x : BalancingContext). Arena w₁ hd (move_nodes ns x.parent.0 x.at.0 x.left.0 x.right.0 (shifted s (length (nth ns x.left.0).pairs) k))) (sym q.is) (call hd ns steal_ready q.held.arena))

      pub steal_set : Has w₁ (λ hd ns. Shaped ns b.left.0 × (due ns b.left.0 < 18446744073709551616))
      steal_set = subst (λ (x : BalancingContext). Has w₁ (λ hd ns. Shaped ns x.left.0 × (due ns x.left.0 < 18446744073709551616))) q.is (lower_in fl q.ctx got.left q.free moved_arena moved_hole deep_too moved_low (q.twin.right.no ∷ []) moved_told (λ m. omega (arith, moved_hole.once m)))

      module _ {w₂ : List ℕ} (set : SetCall w₁ w₂ b.left.0) where
        way_arena : Arena w₂ hd half_way
        way_arena = lower_arena fl q.ctx got.left q.free moved_arena moved_hole deep_too moved_low (q.twin.right.no ∷ []) moved_told (λ m. omega (arith, moved_hole.once m)) w₂ (subst (λ (x : BalancingContext). SetCall w₁ w₂ x.left.0) (sym q.is) set)

        way_low : (nth half_way q.no).total ≤ ample
        way_low = lower_low fl q.ctx got.left q.free moved_arena moved_hole deep_too moved_low

        pub steal_set_right : Has w₂ (λ hd ns. Shaped ns b.right.0 × (due ns b.right.0 < 18446744073709551616))
        steal_set_right = subst (λ (x : BalancingContext). Has w₂ (λ hd ns. Shaped ns x.right.0 × (due ns x.right.0 < 18446744073709551616))) q.is (lower_in fr q.ctx got.right q.free way_arena way_hole deep_too way_low [] way_told (λ m. omega (arith, way_hole.once m)))

        module _ {w₃ : List ℕ} (set₂ : SetCall w₂ w₃ b.right.0) where
          set₂' : SetCall w₂ w₃ q.twin.right.no
          set₂' = subst (λ (x : BalancingContext). SetCall w₂ w₃ x.right.0) (sym q.is) set₂

          pub steal_settle : Has w₃ (λ hd ns. Settles hd ns b.parent.0)
          steal_settle = subst (λ (x : BalancingContext). Has w₃ (λ hd ns. Settles hd ns x.parent.0)) q.is (record { head = hd; nodes = _; arena = lower_arena fr q.ctx got.right q.free way_arena way_hole deep_too way_low [] way_told (λ m. omega (arith, way_hole.once m)) w₃ set₂'; holds = upper_settles fr q.ctx got.right q.free way_arena way_hole deep_too way_low way_told })

          pub steal_hole : {w₄ : List ℕ} → SettleCall w₃ w₄ b.parent.0
              → HoleIn w₄ g (under (record { no = q.no; left = q.lows; right = record { pair = (steal s k q.twin).pair; edge = (steal s k q.twin).right } ∷ q.highs }) q.ctx) (steal s k q.twin).left q.free
          steal_hole {w₄} settle =
              let s' : SettleCall w₃ w₄ q.no = subst (λ (x : BalancingContext). SettleCall w₃ w₄ x.parent.0) (sym q.is) settle in
              let R = both_done fr q.ctx got.right q.free way_arena way_hole deep_too way_low way_told w₃ w₄ set₂' s' in
              record {
                nodes = R.nodes;
                arena = R.arena;
                stand = hole_low q.ctx q.no q.lows got q.highs q.free (beside_high q.ctx q.no q.lows got q.highs q.free R.stand);
                many = R.long ∙ ((right_kept (under fl q.ctx) got.left q.free (hole_part (under fl q.ctx) got.left q.free moved_hole)).long ∙ (move_long q.ctx q.no q.lows q.twin q.highs q.free T (staying s k q.twin) place ∙ q.held.many));
                told = R.told;
              }

-- ---- the node that lacks a pair, and has n, and its sibling at the side s

pub record Pairing (s : Side) (w : List ℕ) (g : Rest) (t : Grown) (b : BalancingContext) (n : ℕ) : Type 0 where
  pub both : Neighbours w g b
  pub full : FullCtx both.ctx
  pub long : Len both.ctx (length both.lows + suc (length both.highs))
  pub takes : length (taker s both.twin).rest ≡ n
  pub lacks : suc n ≡ least
  pub when_merged : can_merge both.twin ≡ true → shrink both.ctx (fill both.no both.lows (join both.twin) both.highs) (returned both.twin.right.no both.free) ≡ t
  pub when_moved : can_merge both.twin ≡ false
      → record { whole = plug both.ctx (fill both.no both.lows (steal s 1 both.twin).left (record { pair = (steal s 1 both.twin).pair; edge = (steal s 1 both.twin).right } ∷ both.highs)); free = both.free } ≡ t

module _ {s : Side} {w : List ℕ} {g : Rest} {t : Grown} {b : BalancingContext} {n : ℕ} (q : Pairing s w g t b n) where
  abbrev B : Neighbours w g b
  B = q.both

  pub merge_held : can_merge q.both.twin ≡ true → {w' : List ℕ} → MergeCall w w' b → Mending w' g b.parent.0 t × (header w' free_word ≡ header w free_word + 1)
  merge_held e {w'} call =
      let u = fill B.no B.lows (join B.twin) B.highs in
      let H = call g B e in
      let z : length (returned B.twin.right.no B.free) ≡ length B.free + 1 = omega (arith, returned_length B.twin.right.no B.free) in (
        record {
          height = suc B.height;
          way = B.ctx;
          tree = u;
          free = returned B.twin.right.no B.free;
          held = H;
          node_is = ap (λ (x : BalancingContext). x.parent.0) B.is;
          full = q.full;
          short = len_short B.ctx (length B.lows + suc (length B.highs)) (length u.rest) q.long (omega (arith, length_fill B.no B.lows (join B.twin) B.highs));
          same = q.when_merged e;
        },
        hole_header B.ctx u (returned B.twin.right.no B.free) H free_word (omega arith) ∙ z
            ∙ ap (λ (n : ℕ). n + 1) (sym (hole_header (under (record { no = B.no; left = B.lows; right = record { pair = B.twin.pair; edge = B.twin.right } ∷ B.highs }) B.ctx) B.twin.left B.free B.held free_word (omega arith))),
      )

  module _ (e : can_merge q.both.twin ≡ false) (k : ℕ) (ek : k ≡ 1) where
    can_lend : (k ≤ length (lender s B.twin).rest) × (length (taker s B.twin).rest + k ≤ most)
    can_lend = go s (ap suc q.takes ∙ q.lacks)
      where
        many : most < length B.twin.left.rest + 1 + length B.twin.right.rest
        many = leb-false (length B.twin.left.rest + 1 + length B.twin.right.rest) most e

        go : (s : Side) → suc (length (taker s B.twin).rest) ≡ least → (k ≤ length (lender s B.twin).rest) × (length (taker s B.twin).rest + k ≤ most)
        go left z = (omega (arith, many), omega arith)
        go right z = (omega (arith, many), omega arith)

    pub lend_in : Stealing s w b k
    lend_in = stealing B s k (omega arith) can_lend.0 can_lend.1

    pub lend_held : {w' : List ℕ} → StealCall s w w' b k → ClosedIn w' g t
    lend_held {w'} call =
        let H = call g B (omega arith) can_lend.0 can_lend.1 in
        subst (ClosedIn w' g) (q.when_moved e)
        (subst (λ (i : ℕ). ClosedIn w' g (record { whole = plug B.ctx (fill B.no B.lows (steal s i B.twin).left (record { pair = (steal s i B.twin).pair; edge = (steal s i B.twin).right } ∷ B.highs)); free = B.free })) ek
        (closed_in (under (record { no = B.no; left = B.lows; right = record { pair = (steal s k B.twin).pair; edge = (steal s k B.twin).right } ∷ B.highs }) B.ctx) (steal s k B.twin).left B.free H))

-- ---- the sibling that was chosen

module _ {w : List ℕ} {g : Rest} {node : ℕ} {t : Grown} (m : Mending w g node t) where
  pub enough : least ≤ length m.tree.rest → ClosedIn w g t
  enough l = go m.way m.tree m.free m.held m.same l
    where
      go : {h : ℕ} (c : Ctx (suc h)) (x : Tree (suc h)) (free : List ℕ) → HoleIn w g c x free → shrink c x free ≡ t → least ≤ length x.rest → ClosedIn w g t
      go {h} top x free H e l = subst (ClosedIn w g) (sym (pop_keeps h x free (omega arith)) ∙ e) (closed_in top x free H)
      go (under f c) x free H e l = subst (ClosedIn w g) (sym (shrink_enough f c x free (le-leb least (length x.rest) l)) ∙ e) (closed_in (under f c) x free H)

  pub at_root : None ≡ chosen m.way m.tree → 1 ≤ length m.tree.rest → ClosedIn w g t
  at_root r l = go m.way m.tree m.free m.held m.full m.same r l
    where
      by : {h : ℕ} (n : ℕ) (l r : List (Item (Tree (suc h)))) (c : Ctx (suc (suc h))) (x : Tree (suc h)) → Len c (length l + length r) → None ≡ sibling n l x r → ClosedIn w g t
      by n [] [] c x u e = absurd (omega (arith, len_some c (0 + 0) u))
      by n [] (y ∷ r) c x u e = let z : ◌≡◌ {A = ℕ} 0 1 = cc in absurd (omega arith)
      by n (y ∷ l) r c x u e = let z : ◌≡◌ {A = ℕ} 0 1 = cc in absurd (omega arith)

      go : {h : ℕ} (c : Ctx (suc h)) (x : Tree (suc h)) (free : List ℕ) → HoleIn w g c x free → FullCtx c → shrink c x free ≡ t → None ≡ chosen c x → 1 ≤ length x.rest → ClosedIn w g t
      go {h} top x free H u e r l = subst (ClosedIn w g) (sym (pop_keeps h x free l) ∙ e) (closed_in top x free H)
      go (under f c) x free H u e r l = by f.no f.left f.right c x u.0 r

  pub root_empty : None ≡ chosen m.way m.tree → length m.tree.rest ≡ 0 → Emptied w g t
  root_empty r l = go m.way m.tree m.free m.held m.full m.same r l
    where
      none_left : {A : Type 0} (l : List A) → length l ≡ 0 → l ≡ []
      none_left [] e = refl
      none_left (x ∷ l) e = absurd (omega arith)

      by : {h : ℕ} (n : ℕ) (l r : List (Item (Tree (suc h)))) (c : Ctx (suc (suc h))) (x : Tree (suc h)) → Len c (length l + length r) → None ≡ sibling n l x r → Emptied w g t
      by n [] [] c x u e = absurd (omega (arith, len_some c (0 + 0) u))
      by n [] (y ∷ r) c x u e = let z : ◌≡◌ {A = ℕ} 0 1 = cc in absurd (omega arith)
      by n (y ∷ l) r c x u e = let z : ◌≡◌ {A = ℕ} 0 1 = cc in absurd (omega arith)

      go : {h : ℕ} (c : Ctx (suc h)) (x : Tree (suc h)) (free : List ℕ) → HoleIn w g c x free → FullCtx c → shrink c x free ≡ t → None ≡ chosen c x → length x.rest ≡ 0 → Emptied w g t
      go {h} top x free H u e r l = record { height = h; tree = x; free = free; held = H; bare = none_left x.rest l; same = e }
      go (under f c) x free H u e r l = by f.no f.left f.right c x u.0 r

  module _ (short : length m.tree.rest < least) (b : BalancingContext) where
    left_pairing : Some (Left b) ≡ chosen m.way m.tree → Pairing left w g t b (length m.tree.rest)
    left_pairing r = go m.way m.tree m.free m.held m.full m.short m.same short r
      where
        by : {h : ℕ} (n : ℕ) (l r : List (Item (Tree (suc h)))) (c : Ctx (suc (suc h))) (x : Tree (suc h)) (free : List ℕ) → HoleIn w g (under (record { no = n; left = l; right = r }) c) x free → FullCtx (under (record { no = n; left = l; right = r }) c)
            → least ≤ suc (length x.rest) → shrink (under (record { no = n; left = l; right = r }) c) x free ≡ t → length x.rest < least → Some (Left b) ≡ sibling n l x r → Pairing left w g t b (length x.rest)
        by n [] [] c x free H u d e o r = let z : ◌≡◌ {A = ℕ} 0 1 = cc in absurd (omega arith)
        by n [] (y ∷ rs) c x free H u d e o r = let z : ◌≡◌ {A = ℕ} 0 1 = cc in absurd (omega arith)
        by {h} n (y ∷ l) rs c x free H u d e o r =
            let f : Frame (Tree (suc h)) = record { no = n; left = y ∷ l; right = rs } in
            let k = lt-leb least (length x.rest) o in
            record {
              both = record {
                height = h;
                ctx = c;
                no = n;
                lows = l;
                twin = record { left = y.edge; pair = y.pair; right = x };
                highs = rs;
                free = free;
                held = record { nodes = H.nodes; arena = H.arena; stand = hole_low c n l (record { left = y.edge; pair = y.pair; right = x }) rs free (beside_high c n l (record { left = y.edge; pair = y.pair; right = x }) rs free H.stand); many = H.many; told = H.told };
                is = cc;
              };
              full = u.3;
              long = let z : length (y ∷ l) + length rs ≡ length l + suc (length rs) = omega arith in rw z at u.0;
              takes = refl;
              lacks = omega arith;
              when_merged = λ v. sym (shrink_merged f c x free _ _ _ k (balance_merged left 1 (beside_left n y l x rs) v)) ∙ e;
              when_moved = λ v. sym (shrink_moved f c x free _ _ k (balance_moved left 1 (beside_left n y l x rs) v)) ∙ e;
            }

        go : {h : ℕ} (c : Ctx (suc h)) (x : Tree (suc h)) (free : List ℕ) → HoleIn w g c x free → FullCtx c → Short c (length x.rest) → shrink c x free ≡ t → length x.rest < least → Some (Left b) ≡ chosen c x → Pairing left w g t b (length x.rest)
        go top x free H u d e o r = let z : ◌≡◌ {A = ℕ} 0 1 = cc in absurd (omega arith)
        go (under f c) x free H u d e o r = by f.no f.left f.right c x free H u d.0 e o r

    right_pairing : Some (Right b) ≡ chosen m.way m.tree → Pairing right w g t b (length m.tree.rest)
    right_pairing r = go m.way m.tree m.free m.held m.full m.short m.same short r
      where
        by : {h : ℕ} (n : ℕ) (l r : List (Item (Tree (suc h)))) (c : Ctx (suc (suc h))) (x : Tree (suc h)) (free : List ℕ) → HoleIn w g (under (record { no = n; left = l; right = r }) c) x free → FullCtx (under (record { no = n; left = l; right = r }) c)
            → least ≤ suc (length x.rest) → shrink (under (record { no = n; left = l; right = r }) c) x free ≡ t → length x.rest < least → Some (Right b) ≡ sibling n l x r → Pairing right w g t b (length x.rest)
        by n [] [] c x free H u d e o r = let z : ◌≡◌ {A = ℕ} 0 1 = cc in absurd (omega arith)
        by n (y ∷ l) rs c x free H u d e o r = let z : ◌≡◌ {A = ℕ} 0 1 = cc in absurd (omega arith)
        by {h} n [] (y ∷ rs) c x free H u d e o r =
            let f : Frame (Tree (suc h)) = record { no = n; left = []; right = y ∷ rs } in
            let k = lt-leb least (length x.rest) o in
            record {
              both = record {
                height = h;
                ctx = c;
                no = n;
                lows = [];
                twin = record { left = x; pair = y.pair; right = y.edge };
                highs = rs;
                free = free;
                held = H;
                is = cc;
              };
              full = u.3;
              long = u.0;
              takes = refl;
              lacks = omega arith;
              when_merged = λ v. sym (shrink_merged f c x free _ _ _ k (balance_merged right 1 (beside_right n [] x y rs) v)) ∙ e;
              when_moved = λ v. sym (shrink_moved f c x free _ _ k (balance_moved right 1 (beside_right n [] x y rs) v)) ∙ e;
            }

        go : {h : ℕ} (c : Ctx (suc h)) (x : Tree (suc h)) (free : List ℕ) → HoleIn w g c x free → FullCtx c → Short c (length x.rest) → shrink c x free ≡ t → length x.rest < least → Some (Right b) ≡ chosen c x → Pairing right w g t b (length x.rest)
        go top x free H u d e o r = let z : ◌≡◌ {A = ℕ} 0 1 = cc in absurd (omega arith)
        go (under f c) x free H u d e o r = by f.no f.left f.right c x free H u d.0 e o r

  pub pairing : length m.tree.rest < least → (k : LeftOrRight BalancingContext) → Some k ≡ chosen m.way m.tree → Pairing (side_of k) w g t (both_of k) (length m.tree.rest)
  pairing short (Left b) e = left_pairing short b e
  pairing short (Right b) e = right_pairing short b e

-- ---- how far the repair may go: with each merge there is one node less in use

module _ {w : List ℕ} {g : Rest} {node : ℕ} {t : Grown} (m : Mending w g node t) where
  pub mending_used : (header w count_word ≡ g.size) × (header w free_word < g.size)
  mending_used = (
    hole_header m.way m.tree m.free m.held count_word (omega arith),
    omega (arith, hole_header m.way m.tree m.free m.held free_word (omega arith), free_few m.way m.tree m.free m.held, m.held.many),
  )
