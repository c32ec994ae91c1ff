-- A pair of an internal node: the pair before it, and the place where it stands when that is taken.
-- Assumes nothing.
use Prim.Native.Nat.{ℕ, zero, suc, ◌+◌, ◌-◌, pred, ◌≤◌}
use native.Mathlib.Omega.{arith}
use mathlib.Core.Path.{◌≡◌, refl, ap, ◌∙◌, sym, subst}
use mathlib.Core.Option.{some, none}
use mathlib.Core.List.{List, [], ◌∷◌, ◌++◌, append_assoc}
use lib.ListN.{length}
use Rattle.model.specs.Layout.{least, NodeVal, nth, Arena}
use Rattle.model.specs.Tree.{Pair, Item, Tree, Ctx, top, under, plug, fill, flat, before, after, flat_of}
use Rattle.model.specs.Nodes.{Grown}
use Rattle.model.specs.Search.{Spot, at, gap, search}
use Rattle.model.specs.Walk.{back_edge}
use Rattle.model.specs.Map.{look}
use Rattle.model.specs.Remove.{shrink, replace_at, replace, take_last, remove_at}
use Rattle.model.specs.Mark.{seen_of, mark_of}
use Rattle.model.specs.State.{State, list, delete_at}
use Rattle.model.specs.Sound.{Sound}
use Rattle.model.specs.Promise.{Holds}
use Rattle.model.specs.declared.Answer.TheVariants.{Value}
use Rattle.model.proofs.Rising.{rising_below}
use Rattle.model.proofs.Sizes.{Len, FullWhole, of_full, unplug_full}
use Rattle.model.proofs.Descent.{Sought, last_before, search_right}
use Rattle.model.proofs.Repair.{shrink_flat}
use Rattle.model.proofs.Removal.{LastOf, last_of}
use Rattle.model.proofs.Maps.{look_past, look_here}
use Rattle.model.proofs.Calls.{look_at, look_gap}
use Rattle.node.specs.declared.Kv.{Kv}
use Rattle.node.specs.Reading.{Has, pair_of, pair_at}
use Rattle.leaf.specs.Pairs.{PairAt, replace_pair}
use Rattle.search.specs.declared.Handle.{Handle}
use Rattle.search.specs.declared.SearchResult.TheVariants.{Found, GoDown}
use Rattle.search.specs.Results.{handle, leaf_edge, spotted}
use Rattle.navigate.specs.Places.{KvAt}
use Rattle.navigate.proofs.Pairs.{Placed, search_placed}
use Rattle.standing.specs.Standing.{root_of}
use Rattle.shrinking.proofs.Pairs.{pair_ready, pair_is, replace_long, replace_step}
use Rattle.standing.specs.Heads.{Rest, rest_of, head_words, top_of, HoleIn, ClosedIn}
use Rattle.fix.proofs.Holes.{closed_in}
use Rattle.remove.specs.Removals.{grown_to, LeafKv, without, InnerKv, removed}
use Rattle.totals.proofs.Siblings.{replace_told}
use Rattle.remove.proofs.States.{hole_of, holds_of, removed_sound, removed_pairs}

-- ---- the pair before the leaf edge z, which p follows

pub record Before (s : State) (z : Ctx 0) (p : Pair) : Type 0 where
  pub ctx : Ctx 1
  pub no : ℕ
  pub left : List (Item (Tree 0))
  pub item : Item (Tree 0)
  pub whole : plug ctx (fill no left tt (item ∷ [])) ≡ s.whole
  pub edge_is : leaf_edge z ≡ handle no 0 (suc (length left))
  pub same : take_last p.key z s.free
      ≡ record { whole = replace p.key item.pair (shrink ctx (fill no left tt []) s.free).whole; free = (shrink ctx (fill no left tt []) s.free).free }
  pub lows : List Pair
  pub highs : List Pair
  pub still : flat_of (shrink ctx (fill no left tt []) s.free).whole ≡ lows ++ p ∷ highs

before_edge : {s : State} (p : Pair) (b : List Pair) (n : ℕ) (l r : List (Item (Tree 0))) (c : Ctx 1) → r ≡ [] → 1 ≤ length l → plug c (fill n l tt r) ≡ s.whole → after (under (record { no = n; left = l; right = r }) c) ≡ p ∷ b
    → Before s (under (record { no = n; left = l; right = r }) c) p
before_edge p b n [] r c e o w a = absurd (omega arith)
before_edge p b n (y ∷ l) (x ∷ r) c e o w a = let q : ◌≡◌ {A = ℕ} (suc (length r)) 0 = ap length e in absurd (omega arith)
before_edge {s} p b n (y ∷ l) [] c e o w a = record {
  ctx = c;
  no = n;
  left = l;
  item = record { pair = y.pair; edge = tt };
  whole = w;
  edge_is = refl;
  same = refl;
  lows = before c ++ flat 1 (fill n l tt []);
  highs = b;
  still = shrink_flat c (fill n l tt []) s.free ∙ (ap (λ (t : List Pair). before c ++ (flat 1 (fill n l tt []) ++ t)) a ∙ sym (append_assoc (before c) (flat 1 (fill n l tt [])) (p ∷ b)));
}

-- a leaf that is not the root has pairs
inner_some : {z : Ctx 0} (q : LastOf z) (n : ℕ) → Len q.way n → least ≤ n
inner_some q n l = go q.way refl l
  where
    go : (w : Ctx 1) → q.way ≡ w → Len w n → least ≤ n
    go top e l = absurd (rw e at q.inner)
    go (under f c) e l = l.0

module _ {s : State} (o : Sound s) where
  last_edge_lem : {z : Ctx 0} → LastOf z → (p : Pair) (b : List Pair) → plug z tt ≡ s.whole → after z ≡ p ∷ b → Before s z p
  last_edge_lem {z} q p b w a =
      let f = q.frame in
      let u = (unplug_full (under f q.way) tt (subst FullWhole (sym (ap (λ (t : Ctx 0). plug t tt) (sym q.is) ∙ w)) (of_full s.whole.height s.whole.root o.full))).0 in
      let some : 1 ≤ length f.left = omega (arith, inner_some q (length f.left + length f.right) u.0, ap length q.end) in
      subst (λ (t : Ctx 0). Before s t p) (sym q.is)
      (before_edge p b f.no f.left f.right q.way q.end some (ap (λ (t : Ctx 0). plug t tt) (sym q.is) ∙ w) (ap after (sym q.is) ∙ a))

  -- a pair of an internal node: the pair before it, and the whole removal by it
  pub record Inside (h : ℕ) (c : Ctx (suc h)) (n : ℕ) (l : List (Item (Tree h))) (e : Tree h) (x : Item (Tree h)) (r : List (Item (Tree h))) : Type 0 where
    pub prior : Before s (back_edge c n l e x r) x.pair
    pub by : remove_at h c n l e x r s.free ≡ take_last x.pair.key (back_edge c n l e x r) s.free

  pub inside : (h : ℕ) (c : Ctx (suc h)) (n : ℕ) (l : List (Item (Tree h))) (e : Tree h) (x : Item (Tree h)) (r : List (Item (Tree h))) → 1 ≤ h → plug c (fill n l e (x ∷ r)) ≡ s.whole → Inside h c n l e x r
  inside zero c n l e x r i w = absurd (omega arith)
  inside (suc h) c n l e x r i w =
      let b = last_before (suc h) (under (record { no = n; left = l; right = x ∷ r }) c) e in
      record { prior = last_edge_lem (last_of h (under (record { no = n; left = l; right = x ∷ r }) c) e tt) x.pair _ (b.2 ∙ w) b.1; by = refl }

-- ---- the pair found again in the state t

module _ {t : State} (o : Sound t) (p : Pair) (a b : List Pair) (e : list t ≡ a ++ p ∷ b) where
  looked : look p.key (list t) ≡ some p.val
  looked = rw e (look_past p.key a (p ∷ b) (rising_below p b a (rw e at o.rising)) ∙ look_here p.key p b refl)

  pub not_gone : (d : Handle) → GoDown d ≡ spotted (search p.key t.whole) → ⊥
  not_gone d = go (search p.key t.whole) (search_right p.key t.whole o.rising)
    where
      go : (z : Spot) → Sought p.key t.whole z → GoDown d ≡ spotted z → ⊥
      go (gap c) q r = let u : none ≡ some p.val = sym (look_gap t c p.key q) ∙ looked in let z : ◌≡◌ {A = ℕ} 0 1 = cc in omega arith
      go (at c n l e x r) q u = let z : ◌≡◌ {A = ℕ} 0 1 = cc in omega arith

  pub same_pair : (d : Handle) (q : Placed t (search p.key t.whole) d) → q.kv.item.pair ≡ p
  same_pair d q =
      let y = q.kv in
      let k : Sought p.key t.whole (at y.ctx y.no y.left y.hole y.item y.right) = subst (Sought p.key t.whole) q.same (search_right p.key t.whole o.rising) in
      let u : some y.item.pair.val ≡ some p.val = sym (look_at t o y.ctx y.no y.left y.hole y.item y.right p.key k) ∙ looked in
      let v : y.item.pair.val ≡ p.val = cc in
      λ i. record { key = k.1 i; val = v i }

-- ---- another pair in its place

abbrev pub ReplaceCall : List ℕ → List ℕ → ℕ → ℕ → Kv → Kv → Type 0
ReplaceCall w w' n i kv r = (h : List ℕ) (ns : List NodeVal) → PairAt ns n i → Arena w h ns → (pair_of r ≡ pair_at (nth ns n).pairs i) × Arena w' h (replace_pair ns n i (pair_of kv))

module _ {w : List ℕ} {t : State} (o : Holds w t) {d : Handle} (y : KvAt t d) where
  abbrev was : Tree (suc d.height)
  was = fill y.no y.left y.hole (y.item ∷ y.right)

  H : HoleIn w (rest_of t) y.ctx was t.free
  H = hole_of o y.ctx was y.whole

  abbrev hd : List ℕ
  hd = head_words (rest_of t) (root_of y.ctx y.no) (pred (top_of y.ctx)) t.free

  ready : PairAt H.nodes y.no (length y.left)
  ready = pair_ready y.ctx y.no y.left y.hole y.item y.right t.free H.stand

  pub kv_in : Has w (λ h ns. PairAt ns d.node.0 d.at.0)
  kv_in = rw (y.node_is, y.at_is) (let z : Has w (λ h ns. PairAt ns y.no (length y.left)) = record { head = hd; nodes = H.nodes; arena = H.arena; holds = ready } in z)

  module _ {w' : List ℕ} {kv r : Kv} (call : ReplaceCall w w' d.node.0 d.at.0 kv r) where
    call' : ReplaceCall w w' y.no (length y.left) kv r
    call' = rw (y.node_is, y.at_is) at call

    pub kv_was : pair_of r ≡ y.item.pair
    kv_was = (call' hd H.nodes ready H.arena).0 ∙ pair_is y.ctx y.no y.left y.hole y.item y.right t.free H.stand

    pub kv_replaced : ClosedIn w' (rest_of t) (record { whole = plug y.ctx (fill y.no y.left y.hole (record { pair = pair_of kv; edge = y.item.edge } ∷ y.right)); free = t.free })
    kv_replaced =
        closed_in y.ctx (fill y.no y.left y.hole (record { pair = pair_of kv; edge = y.item.edge } ∷ y.right)) t.free
        (record {
          nodes = replace_pair H.nodes y.no (length y.left) (pair_of kv);
          arena = (call' hd H.nodes ready H.arena).1;
          stand = replace_step y.ctx y.no y.left y.hole y.item y.right t.free H.stand (pair_of kv);
          many = replace_long y.ctx y.no y.left y.hole y.item y.right t.free H.stand (pair_of kv) ∙ H.many;
          told = replace_told H.nodes y.no (length y.left) (pair_of kv) H.told;
        })

-- ---- the whole removal from an internal node

module _ {w : List ℕ} {s : State} (o : Holds w s) {d : Handle} (y : InnerKv s d) (edge : Handle) (e : edge ≡ leaf_edge (back_edge y.kv.ctx y.kv.no y.kv.left y.kv.hole y.kv.item y.kv.right)) where
  I : Inside o.sound d.height y.kv.ctx y.kv.no y.kv.left y.kv.hole y.kv.item y.kv.right
  I = inside o.sound d.height y.kv.ctx y.kv.no y.kv.left y.kv.hole y.kv.item y.kv.right y.inner y.kv.whole

  abbrev p : Pair
  p = y.kv.item.pair

  edge_is : edge ≡ handle I.prior.no 0 (suc (length I.prior.left))
  edge_is = e ∙ I.prior.edge_is

  place_is : edge.at.0 ≡ suc (length I.prior.left)
  place_is = ap (λ (x : Handle). x.at.0) edge_is

  pub edge_some : 1 ≤ edge.at.0
  edge_some = omega (arith, place_is)

  -- the pair before it
  pub left_kv : LeafKv s (record { node = edge.node; height = 0; at = record { 0 = edge.at.0 - 1 } })
  left_kv = record {
    ctx = I.prior.ctx;
    no = I.prior.no;
    left = I.prior.left;
    item = I.prior.item;
    right = [];
    whole = I.prior.whole;
    node_is = sym (ap (λ (x : Handle). x.node.0) edge_is);
    at_is = omega (arith, place_is);
  }

  -- the tree when that is taken
  g : Grown
  g = shrink I.prior.ctx (fill I.prior.no I.prior.left tt []) s.free

  module _ {w₁ : List ℕ} (o₁ : Holds w₁ (without s left_kv)) (k : ℕ) (ek : k ≡ p.key) where
    abbrev s₁ : State
    s₁ = without s left_kv

    list_is : list s₁ ≡ I.prior.lows ++ p ∷ I.prior.highs
    unfolding left_kv
    list_is = I.prior.still

    pub still_there : (x : Handle) → GoDown x ≡ spotted (search k s₁.whole) → ⊥
    still_there x q = not_gone o₁.sound p I.prior.lows I.prior.highs list_is x (rw ek at q)

    module _ (x : Handle) (ex : Found x ≡ spotted (search k s₁.whole)) where
      again : Placed s₁ (search p.key s₁.whole) x
      again = search_placed p.key o₁.sound x (rw ek at ex)

      pub again_in : Has w₁ (λ h ns. PairAt ns x.node.0 x.at.0)
      again_in = kv_in o₁ again.kv

      module _ {w₂ : List ℕ} {kv r : Kv} (ekv : pair_of kv ≡ left_kv.item.pair) (call : ReplaceCall w₁ w₂ x.node.0 x.at.0 kv r) where
        pub inner_was : pair_of r ≡ y.kv.item.pair
        inner_was = kv_was o₁ again.kv call ∙ same_pair o₁.sound p I.prior.lows I.prior.highs list_is x again

        abbrev to : Grown
        to = record { whole = plug again.kv.ctx (fill again.kv.no again.kv.left again.kv.hole (record { pair = pair_of kv; edge = again.kv.item.edge } ∷ again.kv.right)); free = s₁.free }

        end_is : to ≡ remove_at d.height y.kv.ctx y.kv.no y.kv.left y.kv.hole y.kv.item y.kv.right s.free
        unfolding left_kv
        end_is =
            ap (λ (v : Pair). record { whole = replace_at s₁.whole v (at again.kv.ctx again.kv.no again.kv.left again.kv.hole again.kv.item again.kv.right); free = s₁.free }) ekv
            ∙ (ap (λ (z : Spot). record { whole = replace_at s₁.whole I.prior.item.pair z; free = s₁.free }) (sym again.same)
            ∙ sym (I.by ∙ I.prior.same))

        pairs_are : length (list s₁) ≡ length (list (removed s y.kv))
        unfolding left_kv
        pairs_are =
            omega (
              arith,
              removed_pairs o.sound 0 I.prior.ctx I.prior.no I.prior.left tt I.prior.item [] I.prior.whole,
              removed_pairs o.sound d.height y.kv.ctx y.kv.no y.kv.left y.kv.hole y.kv.item y.kv.right y.kv.whole,
            )

        rest_is : rest_of s₁ ≡ rest_of (removed s y.kv)
        rest_is = ap (λ (n : ℕ). record { size = s.size; pairs = n; seen = seen_of s.mark; mark = mark_of s.mark }) pairs_are

        pub inner_holds : Holds w₂ (removed s y.kv)
        inner_holds =
            holds_of (removed s y.kv) (removed_sound o.sound d.height y.kv.ctx y.kv.no y.kv.left y.kv.hole y.kv.item y.kv.right y.kv.whole)
            (subst (λ (x : Grown). ClosedIn w₂ (rest_of (removed s y.kv)) x) end_is (subst (λ (x : Rest). ClosedIn w₂ x to) rest_is (kv_replaced o₁ again.kv call)))

-- ---- a pair's place, by its height

pub record AsLeaf (s : State) (d : Handle) (y : KvAt s d) : Type 0 where
  pub kv : LeafKv s d
  pub pair_is : kv.item.pair ≡ y.item.pair
  pub same : without s kv ≡ removed s y

pub as_leaf : {s : State} {d : Handle} (y : KvAt s d) → d.height ≡ 0 → AsLeaf s d y
as_leaf {s} {d} y z = let t = go d.height y.ctx y.no y.left y.hole y.item y.right y.whole y.node_is y.at_is z in record { kv = t.0; pair_is = t.1; same = t.2 }
  where
    go : (h : ℕ) (c : Ctx (suc h)) (n : ℕ) (l : List (Item (Tree h))) (e : Tree h) (x : Item (Tree h)) (r : List (Item (Tree h))) (w : plug c (fill n l e (x ∷ r)) ≡ s.whole) (en : d.node.0 ≡ n) (ea : d.at.0 ≡ length l) → h ≡ 0
        → (kv : LeafKv s d) × (kv.item.pair ≡ x.pair) × (without s kv ≡ grown_to s (remove_at h c n l e x r s.free))
    go zero c n l e x r w en ea z = (record { ctx = c; no = n; left = l; item = x; right = r; whole = w; node_is = sym en; at_is = sym ea }, refl, refl)
    go (suc h) c n l e x r w en ea z = absurd (omega arith)

-- ---- what a search's end answers to a delete

pub deleted_there : {s : State} {z : Spot} {d : Handle} (q : Placed s z d) → delete_at s z ≡ record { answer = Value q.kv.item.pair.val; state = removed s q.kv }
deleted_there {s} q = ap (delete_at s) q.same
