-- A new right side in words: its leaf, each node above, and the pair put in with it; and a pair put into the last leaf.
-- Assumes nothing.
use Prim.Native.Nat.{ℕ, zero, suc, ◌+◌, pred, ◌≤◌, ◌<◌}
use native.Mathlib.Omega.{arith}
use mathlib.Core.Path.{◌≡◌, refl, ap, ◌∙◌, sym, subst}
use mathlib.Core.Bool.{false}
use mathlib.Core.List.{List, [], ◌∷◌}
use lib.ListN.{length, length-set}
use borrow.Author.Tests.{lt-leb}
use Rattle.model.specs.Layout.{most, leaf, word_at, length_word, NodeVal, Arena}
use Rattle.model.specs.Tree.{Pair, Tree, Frame, Ctx, top, under, Whole, plug, fill}
use Rattle.model.specs.Words.{root_no}
use Rattle.model.specs.Insert.{is_full}
use Rattle.node.specs.Reading.{Within, Has}
use Rattle.model.specs.Nodes.{taken}
use Rattle.store.specs.Links.{take_head, take_node, TakeReady, Takeable}
use Rattle.standing.specs.Standing.{root_of}
use Rattle.standing.proofs.Scenes.{zoom_out}
use Rattle.fix.proofs.Holes.{closed_in}
use Rattle.standing.specs.Heads.{Rest, head_words, top_of, HoleBy, ClosedBy, Uncounted}
use Rattle.growing.specs.Steps.{fit_at}
use Rattle.growing.proofs.Steps.{start, take_ready, fit_ready, fitted, fit_long, fit_step}
use Rattle.growing.proofs.Gaps.{FitCall, FitIn, known_here, fits_here}
use Rattle.model.specs.Load.{Loading, opened, climb, push}
use Rattle.loading.proofs.Pushing.{Filling, Inner, pushed, climb_room, climb_filling}
use Rattle.loading.proofs.Bridges.{pillar, opened_plug, free_step}
use Rattle.internal.specs.Inner.{crown_nodes, CrownReady, Crownable}
use Rattle.appending.specs.Asides.{AsideIn}
use Rattle.appending.specs.Pushes.{last_leaf, last_long, free_from, LoadIn, Roomy, Building, Place}
use Rattle.appending.proofs.Steps.{with_leaf, leaf_step, high_in, crown_long, crown_step}
use Rattle.appending.proofs.Climbs.{enter_in}

-- ---- what the calls are known to do

abbrev pub TakeCall : List ℕ → List ℕ → ℕ → ℕ → Type 0
TakeCall w w₁ n st = (h : List ℕ) (ns : List NodeVal) (free : List ℕ) → TakeReady h ns free → Arena w h ns → (n ≡ taken free) × Arena w₁ (take_head h free) (take_node ns free st)

abbrev pub CrownCall : List ℕ → List ℕ → ℕ → ℕ → Type 0
CrownCall w w₁ below n = (h : List ℕ) (ns : List NodeVal) (free : List ℕ) → CrownReady h ns free below → Arena w h ns → (n ≡ taken free) × Arena w₁ (take_head h free) (crown_nodes ns (taken free) below)

module _ {w : List ℕ} {g : Rest} {h : ℕ} (c : Ctx (suc h)) (x : Tree (suc h)) (n : ℕ) where
  -- ---- the leaf

  module _ (H : HoleBy Uncounted w g c x (free_from g n)) (room : n < g.size) where
    abbrev rest_free : List ℕ
    rest_free = free_from g (suc n)

    first_free : AsideIn w g c x 0 tt (n ∷ rest_free)
    first_free = subst (λ (f : List ℕ). AsideIn w g c x 0 tt f) (free_step g.size n room) (record { nodes = H.nodes; arena = H.arena; stand = start c x (free_from g n) H.stand; many = H.many })

    abbrev hd : List ℕ
    hd = head_words g (root_of c x.no) (pred (top_of c)) (n ∷ rest_free)

    leaf_ready : TakeReady hd first_free.nodes (n ∷ rest_free)
    leaf_ready = take_ready c x 0 tt n rest_free first_free.stand hd refl refl

    pub leaf_has : Has w (λ hd ns. Takeable hd ns)
    leaf_has = record { head = hd; nodes = first_free.nodes; arena = first_free.arena; holds = (n ∷ rest_free, leaf_ready) }

    pub leaf_built : (w₁ : List ℕ) (m : ℕ) → TakeCall w w₁ m leaf → (m ≡ n) × Building w₁ g c x n 1 m
    leaf_built w₁ m call =
        let q = call hd first_free.nodes (n ∷ rest_free) leaf_ready first_free.arena in
        let done : AsideIn w₁ g c x 1 (record { no = n; first = tt; rest = [] }) rest_free = record {
          nodes = with_leaf c x n rest_free first_free.stand;
          arena = q.1;
          stand = leaf_step c x n rest_free first_free.stand;
          many = length-set first_free.nodes n _ ∙ first_free.many;
        } in
        let a : n ≡ n + 0 = omega arith in
        let b : suc n ≡ n + 1 = omega arith in (
          q.0,
          record {
            below = 0;
            levels_is = refl;
            top_is = omega (arith, q.0);
            held = subst (λ (i : ℕ). AsideIn w₁ g c x 1 (record { no = i; first = tt; rest = [] }) (free_from g (n + 1))) a (subst (λ (i : ℕ). AsideIn w₁ g c x 1 (record { no = n; first = tt; rest = [] }) (free_from g i)) b done);
          },
        )

  -- ---- a node above

  module _ {levels side : ℕ} (B : Building w g c x n levels side) (room : n + levels < g.size) where
    abbrev m : ℕ
    m = n + suc B.below

    abbrev y : Tree (suc B.below)
    y = pillar (suc B.below) n

    more_free : AsideIn w g c x (suc B.below) y (m ∷ free_from g (suc m))
    more_free = subst (λ (f : List ℕ). AsideIn w g c x (suc B.below) y f) (free_step g.size m (omega (arith, B.levels_is))) B.held

    abbrev hd₁ : List ℕ
    hd₁ = head_words g (root_of c x.no) (pred (top_of c)) (m ∷ free_from g (suc m))

    crown_ready : CrownReady hd₁ more_free.nodes (m ∷ free_from g (suc m)) side
    crown_ready = record { take = take_ready c x (suc B.below) y m (free_from g (suc m)) more_free.stand hd₁ refl refl; node = rw B.top_is at (high_in c x y m (free_from g (suc m)) more_free.stand) }

    pub crown_has : Has w (λ hd ns. Crownable hd ns side)
    crown_has = record { head = hd₁; nodes = more_free.nodes; arena = more_free.arena; holds = (m ∷ free_from g (suc m), crown_ready) }

    pub crown_built : (w₁ : List ℕ) (r : ℕ) → CrownCall w w₁ side r → Building w₁ g c x n (levels + 1) r
    crown_built w₁ r call =
        let q = call hd₁ more_free.nodes (m ∷ free_from g (suc m)) crown_ready more_free.arena in
        let b : suc m ≡ n + suc (suc B.below) = omega arith in
        record {
          below = suc B.below;
          levels_is = omega (arith, B.levels_is);
          top_is = sym q.0;
          held = subst (λ (i : ℕ). AsideIn w₁ g c x (suc (suc B.below)) (pillar (suc (suc B.below)) n) (free_from g i)) b (record {
            nodes = crown_nodes more_free.nodes m y.no;
            arena = subst (λ (i : ℕ). Arena w₁ (head_words g (root_of c x.no) (pred (top_of c)) (free_from g (suc m))) (crown_nodes more_free.nodes m i)) (sym B.top_is) q.1;
            stand = crown_step c x y m (free_from g (suc m)) more_free.stand;
            many = crown_long c x y m (free_from g (suc m)) more_free.stand ∙ more_free.many;
          });
        }

-- ---- the pair put in, with the right side after it

put_in : {w : List ℕ} {g : Rest} {h : ℕ} (f : Frame (Tree h)) (c : Ctx (suc h)) (x y : Tree h) (free : List ℕ) → AsideIn w g (under f c) x h y free → is_full f ≡ false → (p : Pair) (w' : List ℕ) → FitCall h w w' f.no (length f.left) p (root_no h y)
    → ClosedBy Uncounted w' g (record { whole = plug c (fill f.no f.left x (record { pair = p; edge = y } ∷ f.right)); free = free })
put_in {h = h} f c x y free H room p w' call =
    closed_in c (fill f.no f.left x (record { pair = p; edge = y } ∷ f.right)) free
    (record {
      nodes = fit_at h H.nodes f.no (length f.left) p (root_no h y);
      arena = call _ H.nodes (fit_ready f c x y free H.stand room) H.arena;
      stand = zoom_out (fitted f c x y free H.stand p) c x free (fit_step f c x y free H.stand p);
      many = fit_long f c x y free H.stand p ∙ H.many;
      told = tt;
    })

-- by other names for the same numbers
fit_moved : (w : List ℕ) (a b i j u v : ℕ) → a ≡ b → i ≡ j → u ≡ v → FitIn 1 w a i u → FitIn 1 w b j v
fit_moved w a b i j u v ea ei eu h = rw (ea, ei, eu) at h

call_moved : (w w' : List ℕ) (p : Pair) (a b i j u v : ℕ) → a ≡ b → i ≡ j → u ≡ v → FitCall 1 w w' b j p v → FitCall 1 w w' a i p u
call_moved w w' p a b i j u v ea ei eu h = rw (← ea, ← ei, ← eu) at h

opened_leaf : (h : ℕ) (c : Ctx (suc h)) (n : ℕ) → last_leaf (opened (suc h) c n) ≡ n
opened_leaf zero c n = omega arith
opened_leaf (suc h) c n = opened_leaf h (under (record { no = n + suc h; left = []; right = [] }) c) n

module _ {w₀ : List ℕ} {g : Rest} {node levels : ℕ} {p : Pair} {t : Loading} (k : Roomy w₀ g node levels p t) where
  -- nodes enough for the right side
  pub roomy_room : k.next + levels ≤ g.size
  roomy_room =
      let e : k.next + suc k.height ≡ t.next = sym (ap (λ (l : Loading). l.next) (climb_room k.frame k.way k.tree p k.next k.fits)) ∙ ap (λ (l : Loading). l.next) k.same in
      omega (arith, k.room, k.levels_is)

  abbrev pub roomy_place : Place w₀ levels
  roomy_place = record { rest = g; height = k.height; way = under k.frame k.way; tree = k.tree; next = k.next; held = k.held; some = omega (arith, k.levels_is); room = roomy_room }

  module _ {w : List ℕ} {side : ℕ} (B : Building w g (under k.frame k.way) k.tree k.next levels side) where
    abbrev f : Frame (Tree (suc k.height))
    f = k.frame

    abbrev c : Ctx (suc (suc k.height))
    c = k.way

    abbrev n : ℕ
    n = k.next

    abbrev pile : Tree (suc k.height)
    pile = pillar (suc k.height) n

    abbrev free : List ℕ
    free = free_from g (n + suc k.height)

    same_height : B.below ≡ k.height
    same_height = omega (arith, B.levels_is, k.levels_is)

    here : AsideIn w g (under f c) k.tree (suc k.height) pile free
    here = subst (λ (j : ℕ). AsideIn w g (under f c) k.tree (suc j) (pillar (suc j) n) (free_from g (n + suc j))) same_height B.held

    side_is : n + k.height ≡ side
    side_is = omega (arith, B.top_is, same_height)

    pub open_within : Within w node
    open_within = rw k.node_is at (known_here f c k.tree pile free here.arena here.stand).0

    long : word_at w node length_word ≡ length f.left
    long = subst (λ (i : ℕ). word_at w i length_word ≡ length f.left) k.node_is ((known_here f c k.tree pile free here.arena here.stand).1 ∙ omega (arith, ap length k.last))

    module _ (at : ℕ) (ea : at ≡ word_at w node length_word) where
      at_is : length f.left ≡ at
      at_is = sym (ea ∙ long)

      pub open_fit : FitIn 1 w node at side
      open_fit = fit_moved w f.no node (length f.left) at (n + k.height) side k.node_is at_is side_is (fits_here f c k.tree pile free here.arena here.stand k.fits)

      pub open_done : Filling t.way × Inner t.way → (w' : List ℕ) → FitCall 1 w w' node at p side → LoadIn w' g n t
      open_done fi w' call =
          let d : FitCall 1 w w' f.no (length f.left) p (n + k.height) = call_moved w w' p f.no node (length f.left) at (n + k.height) side k.node_is at_is side_is call in
          let r = climb_room f c k.tree p n k.fits in
          let z = put_in f c k.tree pile free here k.fits p w' d in
          let v : opened (suc k.height) (under (pushed f c k.tree p n) c) n ≡ t.way = sym (ap (λ (l : Loading). l.way) r) ∙ ap (λ (l : Loading). l.way) k.same in
          let u : n + suc k.height ≡ t.next = sym (ap (λ (l : Loading). l.next) r) ∙ ap (λ (l : Loading). l.next) k.same in
          let whole : plug (under (pushed f c k.tree p n) c) pile ≡ plug t.way tt = sym (opened_plug (suc k.height) (under (pushed f c k.tree p n) c) n) ∙ ap (λ (d : Ctx 0). plug d tt) v in
          record {
            held = subst (λ (q : Whole). ClosedBy Uncounted w' g (record { whole = q; free = free_from g t.next })) whole (subst (λ (i : ℕ). ClosedBy Uncounted w' g (record { whole = plug (under (pushed f c k.tree p n) c) pile; free = free_from g i })) u z);
            leaf_is = ap last_leaf (sym v) ∙ opened_leaf k.height (under (pushed f c k.tree p n) c) n;
            filling = fi.0;
            inner = fi.1;
          }

-- ---- a pair put into the last leaf

leaf_moved : (w : List ℕ) (a b i j : ℕ) → a ≡ b → i ≡ j → FitIn 0 w a i 0 → FitIn 0 w b j 0
leaf_moved w a b i j ea ei h = rw (ea, ei) at h

leaf_call : (w w' : List ℕ) (p : Pair) (a b i j : ℕ) → a ≡ b → i ≡ j → FitCall 0 w w' b j p 0 → FitCall 0 w w' a i p 0
leaf_call w w' p a b i j ea ei h = rw (← ea, ← ei) at h

module _ {w : List ℕ} {g : Rest} {node : ℕ} {l : Loading} (o : LoadIn w g node l) where
  -- what is known of it
  pub record Last : Type 0 where
    pub inside : Within w node
    pub long : word_at w node length_word ≡ last_long l.way
    pub fits : (at : ℕ) → at ≡ word_at w node length_word → at < most → FitIn 0 w node at 0
    pub done : (at : ℕ) → at ≡ word_at w node length_word → at < most → (p : Pair) (w' : List ℕ) → FitCall 0 w w' node at p 0 → LoadIn w' g node (push p l)

  pub last : Last
  last = go l.way o.held o.leaf_is o.filling o.inner refl
    where
      go : (c : Ctx 0) → ClosedBy Uncounted w g (record { whole = plug c tt; free = free_from g l.next }) → last_leaf c ≡ node → Filling c → Inner c → c ≡ l.way → Last
      go top H e fc i s = absurd i
      go (under f c) H e fc i s =
          let free = free_from g l.next in
          let h = enter_in (under f c) tt free H in
          let O : AsideIn w g (under f c) tt 0 tt free = record { nodes = h.nodes; arena = h.arena; stand = start (under f c) tt free h.stand; many = h.many } in
          let k = known_here f c tt tt free O.arena O.stand in
          let long : word_at w node length_word ≡ length f.left = subst (λ (i : ℕ). word_at w i length_word ≡ length f.left) e (k.1 ∙ omega (arith, ap length fc.0)) in
          let room : word_at w node length_word < most → is_full f ≡ false = λ u. lt-leb most (length f.left + length f.right) (omega (arith, long, ap length fc.0)) in
          record {
            inside = rw e at k.0;
            long = long ∙ ap last_long s;
            fits = λ at ea v. let b : length f.left ≡ at = sym (ea ∙ long) in leaf_moved w f.no node (length f.left) at e b (fits_here f c tt tt free O.arena O.stand (room (omega (arith, ea))));
            done = λ at ea v p w' call.
                let u : word_at w node length_word < most = omega (arith, ea) in
                let b : length f.left ≡ at = sym (ea ∙ long) in
                let d : FitCall 0 w w' f.no (length f.left) p 0 = leaf_call w w' p f.no node (length f.left) at e b call in
                let r = climb_room f c tt p l.next (room u) in
                let x : push p l ≡ record { way = under (pushed f c tt p l.next) c; next = l.next + 0 } = ap (λ (d : Ctx 0). climb d tt p l.next) (sym s) ∙ r in
                let z = put_in f c tt tt free O (room u) p w' d in
                let n : l.next ≡ l.next + 0 = omega arith in
                let fi = climb_filling l.way tt p l.next o.filling tt in
                record {
                  held = subst (λ (q : Loading). ClosedBy Uncounted w' g (record { whole = plug q.way tt; free = free_from g q.next })) (sym x) (subst (λ (i : ℕ). ClosedBy Uncounted w' g (record { whole = plug (under (pushed f c tt p l.next) c) tt; free = free_from g i })) n z);
                  leaf_is = ap (λ (q : Loading). last_leaf q.way) x ∙ e;
                  filling = fi.0;
                  inner = fi.1;
                };
          }
