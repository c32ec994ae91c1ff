-- The climb in words: where it begins, the gap above, a new root.
-- Assumes nothing.
use Prim.Native.Nat.{ℕ, zero, suc, ◌+◌, ◌-◌, pred, ◌≤◌, ◌<◌}
use native.Mathlib.Nat.{not-suc-le-zero, zero-add}
use native.Mathlib.Omega.{arith}
use mathlib.Core.Path.{◌≡◌, refl, ap, ◌∙◌, sym, subst}
use mathlib.Core.Bool.{true}
use mathlib.Core.List.{List, [], ◌∷◌, map}
use lib.ListN.{length, get_or, length-map}
use Rattle.std.specs.Prelude.{Some, None}
use Rattle.model.specs.Layout.{largest_height, header, height_word, word_at, parent_word, place_word, NodeVal, nth, Arena}
use Rattle.model.specs.Tree.{Pair, Item, Tree, Frame, Ctx, top, under, Whole, plug, fill_first, fill_rest}
use Rattle.model.specs.Nodes.{taken, untaken, Grown}
use Rattle.model.specs.Insert.{is_full, rise, needed}
use Rattle.model.specs.State.{State}
use Rattle.model.specs.Words.{root_no, header_of, nodes_in}
use Rattle.model.specs.Sound.{RootFull}
use Rattle.model.specs.Promise.{Holds}
use Rattle.model.proofs.Backward.{height_low}
use Rattle.model.proofs.Held.{held_of, words_header, sound_laid}
use Rattle.standing.proofs.States.{laid_totals}
use Rattle.totals.specs.Settling.{ample, Settles}
use Rattle.growing.proofs.Counts.{push_total, changed}
use Rattle.growing.proofs.Settled.{fit_settles, fit_done}
use Rattle.totals.proofs.Siblings.{SettleCall}
use Rattle.model.proofs.Plug.{length_fill}
use Rattle.model.proofs.Climb.{halved, rise_full}
use Rattle.node.specs.declared.NodeNo.{NodeNo}
use Rattle.node.specs.declared.Place.{Place}
use Rattle.node.specs.Reading.{Within, Has, ascent_of}
use Rattle.node.proofs.Reading.{same_node, same_place, within, parent_is, place_is, ascent_root, ascent_edge}
use Rattle.internal.specs.Inner.{PushReady, Pushable, push_head, push_nodes}
use Rattle.search.specs.declared.Handle.{Handle}
use Rattle.search.specs.Results.{leaf_edge}
use Rattle.navigate.specs.Places.{EdgeAt}
use Rattle.standing.specs.Kept.{Child}
use Rattle.standing.specs.Standing.{numbered, root_of, Open}
use Rattle.standing.proofs.Leads.{one_self, link_parent, link_place}
use Rattle.standing.proofs.Relinks.{body_edges}
use Rattle.standing.proofs.Scenes.{closed_of, enter}
use Rattle.standing.specs.Heads.{Rest, rest_of, head_words, top_of, ClosedIn}
use Rattle.growing.specs.Climbs.{depth, OpenBut, OpenIn, FitRaw, Climbing, Going}
use Rattle.shrinking.proofs.Items.{edge_in}
use Rattle.growing.proofs.Bodies.{}
use Rattle.growing.proofs.Steps.{start, node_in, new_root, push_ready, push_long, push_step, Kp}
use Rattle.standing.proofs.Heads.{plug_root, plug_top}
use Rattle.growing.proofs.Gaps.{FitIn, FitCall, with_first, fit_in, fit_held}

-- ---- nodes enough

needed_some : {h : ℕ} (f : Frame (Tree h)) (c : Ctx (suc h)) (free : List ℕ) → needed (under f c) ≤ length free → is_full f ≡ true → 1 ≤ length free
needed_some f c free n e = let q = rw (e, needed) at n in omega arith

needed_less : {h : ℕ} (f : Frame (Tree h)) (c : Ctx (suc h)) (free : List ℕ) → needed (under f c) ≤ length free → is_full f ≡ true → needed c ≤ length (untaken free)
needed_less f c [] n e = absurd (not-suc-le-zero (rw (e, needed) at n))
needed_less f c (x ∷ free) n e = let q = rw (e, needed) at n in omega arith

-- ---- a gap, and the climb to t from it

module _ {w : List ℕ} {g : Rest} {h : ℕ} (f : Frame (Tree h)) (c : Ctx (suc h)) (x y : Tree h) (p : Pair) (free : List ℕ) (H : OpenIn w g (under f c) x y free) (tall : top_of c ≤ largest_height + 1) (enough : needed (under f c) ≤ length free) where
  going : {node at child levels : ℕ} {t : Grown} → f.no ≡ node → length f.left ≡ at → root_no h y ≡ child → depth c ≡ levels → rise (under f c) x p y free ≡ t → Going w g h node at child levels p t
  going en ei ec el et = record {
    gap = record { rest = g; way = c; frame = f; low = x; high = y; free = free; held = H; node_is = en; at_is = ei; child_is = ec; enough = needed_some f c free enough };
    fit = λ w' d. subst (λ (t : Grown). ClosedIn w' g t) et d;
    split = λ w' up right d. record {
      height = h;
      way = c;
      low = (halved f c x p y free).left;
      high = (halved f c x p y free).right;
      free = untaken free;
      held = d.held;
      node_is = en;
      right_is = d.right_is;
      levels_is = el;
      tall = tall;
      enough = needed_less f c free enough d.full;
      same = ap (λ (q : Pair). rise c (halved f c x p y free).left q (halved f c x p y free).right (untaken free)) (sym d.pair_is) ∙ (sym (rise_full f c x p y free d.full) ∙ et);
    };
  }

-- ---- where it begins

top_depth : {h : ℕ} (c : Ctx h) → top_of c ≡ depth c + h
top_depth top = omega arith
top_depth (under f c) = top_depth c ∙ omega arith

module _ {w : List ℕ} {s : State} (o : Holds w s) where
  height_is : header w height_word ≡ pred s.whole.height
  height_is = ap (λ (x : List ℕ). header x height_word) o.words ∙ words_header o.sound height_word (omega arith)

  -- the words, seen from a leaf edge
  opened : (c : Ctx zero) → plug c tt ≡ s.whole → OpenIn w (rest_of s) c tt tt s.free
  opened c e =
      let d : header_of s ≡ head_words (rest_of s) (root_of c 0) (pred (top_of c)) s.free = rw (← plug_root c tt, ← plug_top c tt, e) refl in
      let a : Arena w (header_of s) (nodes_in s) = rw o.words (held_of o.sound).arena in
      record {
        nodes = nodes_in s;
        arena = rw d at a;
        stand = start c tt s.free (enter c tt s.free (rw e (closed_of o)));
        many = (held_of o.sound).many;
        told = laid_totals (sound_laid o.sound);
      }

  pub begin : (d : Handle) (y : EdgeAt s d) → needed y.way ≤ length s.free → (p : Pair) → Going w (rest_of s) 0 d.node.0 d.at.0 0 (header w height_word) p (rise y.way tt p tt s.free)
  begin d y n p = go y.way y.whole y.is n
    where
      go : (c : Ctx zero) → plug c tt ≡ s.whole → d ≡ leaf_edge c → needed c ≤ length s.free → Going w (rest_of s) 0 d.node.0 d.at.0 0 (header w height_word) p (rise c tt p tt s.free)
      go top e i n = absurd (subst (λ (x : Whole). RootFull x.height x.root) (sym e) o.sound.full)
      go (under f c) e i n =
          let k : s.whole.height ≡ top_of c = sym (ap (λ (x : Whole). x.height) e) ∙ plug_top (under f c) tt in
          let v : depth c ≡ header w height_word = omega (arith, height_is, top_depth c) in
          let t : top_of c ≤ largest_height + 1 = omega (arith, height_low o.sound) in
          going f c tt tt p s.free (opened (under f c) e) t n (ap (λ (x : Handle). x.node.0) (sym i)) (ap (λ (x : Handle). x.at.0) (sym i)) refl v refl

-- ---- where a node hangs

this_edge : (l : List (Item ℕ)) (x : ℕ) (r : List (Item ℕ)) (j : ℕ) → get_or (fill_first l x ∷ map edge_in (fill_rest l x r)) (length l + j) 0 ≡ get_or (x ∷ map edge_in r) j 0
this_edge [] x r j = rw zero-add refl
this_edge (z ∷ l) x r j =
    ap (λ (k : ℕ). get_or (fill_first l z.edge ∷ map edge_in (fill_rest l z.edge (record { pair = z.pair; edge = x } ∷ r))) k 0) (let e : suc (length l) + j ≡ length l + suc j = omega arith in e)
    ∙ this_edge l z.edge (record { pair = z.pair; edge = x } ∷ r) (suc j)

module _ {w : List ℕ} {g : Rest} {h : ℕ} where
  pub low_within : (c : Ctx (suc h)) (x y : Tree (suc h)) (free : List ℕ) → OpenIn w g c x y free → Within w x.no
  low_within c x y free H = within H.arena x.no (H.stand.within x.no (omega (arith, one_self x.no)))

  links_are : (c : Ctx (suc h)) (x y : Tree (suc h)) (free : List ℕ) (H : OpenIn w g c x y free) → ascent_of (word_at w x.no parent_word) (word_at w x.no place_word) ≡ ascent_of (nth H.nodes x.no).parent (nth H.nodes x.no).place
  links_are c x y free H =
      let o = H.stand.within x.no (omega (arith, one_self x.no)) in
      ap (λ (p : ℕ). ascent_of p (word_at w x.no place_word)) (parent_is H.arena x.no o) ∙ ap (ascent_of (nth H.nodes x.no).parent) (place_is H.arena x.no o)

  hangs : (f : Frame (Tree (suc h))) (c : Ctx (suc (suc h))) (x y : Tree (suc h)) (free : List ℕ) (H : OpenIn w g (under f c) x y free) → Child H.nodes f.no (length f.left) x.no
  hangs f c x y free H =
      let es = body_edges H.stand.way.0 in
      let n : length (numbered (suc h) f.left) + 0 ≡ length f.left = omega (arith, length-map {B = Item ℕ} f.left (λ (z : Item (Tree (suc h))). record { pair = z.pair; edge = z.edge.no })) in
      let t : get_or (nth H.nodes f.no).edges (length f.left) 0 ≡ x.no = rw (es, ← n) (this_edge (numbered (suc h) f.left) x.no (numbered (suc h) f.right) 0) in
      let l : length f.left < length (nth H.nodes f.no).edges = rw es (simp length-map (omega (arith, n, length_fill f.no (numbered (suc h) f.left) x.no (numbered (suc h) f.right)))) in
      rw t at (H.stand.links f.no (length f.left) l)

  ascent_above : (f : Frame (Tree (suc h))) (c : Ctx (suc (suc h))) (x y : Tree (suc h)) (free : List ℕ) (H : OpenIn w g (under f c) x y free) → ascent_of (word_at w x.no parent_word) (word_at w x.no place_word) ≡ Some (record { 0 = f.no }, record { 0 = length f.left })
  ascent_above f c x y free H =
      let k = (hangs f c x y free H).link in
      links_are (under f c) x y free H
      ∙ rw (link_parent k, link_place k) (ascent_edge f.no (length f.left) (λ e. omega (arith, node_in f c x y free H.stand, H.stand.few)))

  ascent_top : (x y : Tree (suc h)) (free : List ℕ) → OpenIn w g (top {h = suc h}) x y free → ascent_of (word_at w x.no parent_word) (word_at w x.no place_word) ≡ None
  ascent_top x y free H = links_are top x y free H ∙ ascent_root _ _ (link_parent H.stand.root)

-- ---- the gap above

pub climb_within : {w : List ℕ} {g : Rest} {node levels r : ℕ} {p : Pair} {t : Grown} → Climbing w g node levels p r t → Within w node
climb_within k = rw k.node_is at (low_within k.way k.low k.high k.free k.held)

-- a climb that has come to an edge: there is a level above, and a gap in it
pub record Above (w : List ℕ) (g : Rest) (node at child levels : ℕ) (p : Pair) (t : Grown) : Type 0 where
  pub height : ℕ
  pub some : 1 ≤ levels
  pub next : Going w g (suc height) node at child (levels - 1) p t

module _ {w : List ℕ} {g : Rest} (node levels r : ℕ) {p : Pair} {t : Grown} (k : Climbing w g node levels p r t) where
  hung : ascent_of (word_at w node parent_word) (word_at w node place_word) ≡ ascent_of (word_at w k.low.no parent_word) (word_at w k.low.no place_word)
  hung = ap (λ (n : ℕ). ascent_of (word_at w n parent_word) (word_at w n place_word)) (sym k.node_is)

  pub above : (q : NodeNo) (i : Place) → ascent_of (word_at w node parent_word) (word_at w node place_word) ≡ Some (q, i) → Above w g q.0 i.0 r levels p t
  above q i e = go k.way k.held k.levels_is k.tall k.enough k.same
    where
      go : (c : Ctx (suc k.height)) → OpenIn w g c k.low k.high k.free → depth c ≡ levels → top_of c ≤ largest_height + 1 → needed c ≤ length k.free → rise c k.low p k.high k.free ≡ t → Above w g q.0 i.0 r levels p t
      go top H l u n s = let a = ascent_top k.low k.high k.free H in let h = hung in let z : ◌≡◌ {A = ℕ} 0 1 = cc in absurd (omega arith)
      go (under f c) H l u n s =
          let a = ascent_above f c k.low k.high k.free H in
          let h = hung in
          let eq : f.no ≡ q.0 = same_node (sym a ∙ sym h ∙ e) in
          let ei : length f.left ≡ i.0 = same_place (sym a ∙ sym h ∙ e) in
          let el : depth c ≡ levels - 1 = omega arith in
          record { height = k.height; some = omega arith; next = going f c k.low k.high p k.free H u n eq ei k.right_is el s }

-- ---- a new root

abbrev pub PushCall : List ℕ → List ℕ → ℕ → Type 0
PushCall w w₁ n = (hd : List ℕ) (ns : List NodeVal) (free : List ℕ) → PushReady hd ns free → Arena w hd ns → (n ≡ taken free) × Arena w₁ (push_head hd free) (push_nodes hd free ns)

-- what is asked for it, what is asked then to put the pair in, and what is left
pub record Crown (w : List ℕ) (g : Rest) (p : Pair) (r : ℕ) (t : Grown) : Type 0 where
  pub ready : Has w (λ hd ns. Pushable hd ns)
  pub fits : (w₁ : List ℕ) (n : ℕ) → PushCall w w₁ n → FitIn 1 w₁ n 0 r
  pub settles : (w₁ : List ℕ) (n : ℕ) → PushCall w w₁ n → (w₂ : List ℕ) → FitCall 1 w₁ w₂ n 0 p r → Has w₂ (λ hd ns. Settles hd ns n)
  pub out : (w₁ : List ℕ) (n : ℕ) → PushCall w w₁ n → (w₂ : List ℕ) → FitCall 1 w₁ w₂ n 0 p r → (w₃ : List ℕ) → SettleCall w₂ w₃ n → ClosedIn w₃ g t

module _ {w : List ℕ} {g : Rest} {h : ℕ} (x y : Tree (suc h)) (p : Pair) (m : ℕ) (free : List ℕ) (H : OpenIn w g (top {h = suc h}) x y (m ∷ free)) (tall : suc h ≤ largest_height + 1) where
  abbrev hd : List ℕ
  hd = head_words g x.no h (m ∷ free)

  abbrev O : Open H.nodes (top {h = suc h}) x y (m ∷ free)
  O = H.stand

  push_fine : PushReady hd H.nodes (m ∷ free)
  push_fine = push_ready x (suc h) y m free O hd refl refl refl (omega arith)

  new_none : (nth H.nodes m).total ≡ 0
  new_none = ap (λ (v : NodeVal). v.total) O.chain.0

  abbrev pushed : (w₁ : List ℕ) (n : ℕ) → PushCall w w₁ n → (n ≡ m) × OpenBut (m ∷ []) w₁ g (under (new_root x (suc h) y m free O hd refl) (top {h = suc (suc h)})) x y free
  pushed w₁ n call =
      let q = call hd H.nodes (m ∷ free) push_fine H.arena in
      let e : push_head hd (m ∷ free) ≡ head_words g m (suc h) free = (let b : h + 1 ≡ suc h = omega arith in rw b refl) in (
        q.0,
        record {
          nodes = push_nodes hd (m ∷ free) H.nodes;
          arena = rw e at q.1;
          stand = push_step x (suc h) y m free O hd refl;
          many = push_long x (suc h) y m free O hd refl ∙ H.many;
          told = changed H.nodes _ [] (m ∷ []) _ (Kp x (suc h) y m free O hd refl) (push_total hd (m ∷ free) H.nodes new_none) (λ q u. refl) H.told;
        },
      )

  new_low : (w₁ : List ℕ) (n : ℕ) (call : PushCall w w₁ n) → (nth (pushed w₁ n call).1.nodes m).total ≤ ample
  new_low w₁ n call = omega (arith, push_total hd (m ∷ free) H.nodes new_none m, new_none)

  raw : (w₁ : List ℕ) (n : ℕ) → PushCall w w₁ n → (w₂ : List ℕ) → FitCall 1 w₁ w₂ n 0 p y.no → FitRaw w₂ g (new_root x (suc h) y m free O hd refl) (top {h = suc (suc h)}) x y p free
  raw w₁ n call w₂ fit =
      let q = pushed w₁ n call in
      fit_held (new_root x (suc h) y m free O hd refl) top x y free q.1 refl p w₂ (rw q.0 at fit) (λ q u. u) (new_low w₁ n call)

  crowned : Crown w g p y.no (rise (top {h = suc h}) x p y (m ∷ free))
  crowned = record {
    ready = record { head = hd; nodes = H.nodes; arena = H.arena; holds = (m ∷ free, push_fine) };
    fits = λ w₁ n call. let q = pushed w₁ n call in rw q.0 (fit_in (new_root x (suc h) y m free O hd refl) top x y free q.1 refl);
    settles = λ w₁ n call w₂ fit.
        let q = raw w₁ n call w₂ fit in
        let e = (pushed w₁ n call).0 in
        rw e (record { head = _; nodes = q.nodes; arena = q.arena; holds = fit_settles (new_root x (suc h) y m free O hd refl) top x y p free q });
    out = λ w₁ n call w₂ fit w₃ settle.
        let e = (pushed w₁ n call).0 in
        fit_done (new_root x (suc h) y m free O hd refl) top x y p free (raw w₁ n call w₂ fit) w₃ (rw e at settle);
  }

module _ {w : List ℕ} {g : Rest} (node levels r : ℕ) {p : Pair} {t : Grown} (k : Climbing w g node levels p r t) where
  pub crown : ascent_of (word_at w node parent_word) (word_at w node place_word) ≡ None → Crown w g p r t
  crown e = go k.way k.held k.tall k.enough k.same
    where
      go : (c : Ctx (suc k.height)) → OpenIn w g c k.low k.high k.free → top_of c ≤ largest_height + 1 → needed c ≤ length k.free → rise c k.low p k.high k.free ≡ t → Crown w g p r t
      go top H u n s = subst (λ (c : ℕ). Crown w g p c t) k.right_is (subst (λ (t : Grown). Crown w g p k.high.no t) s (crowned k.low k.high p (taken k.free) (untaken k.free) (with_first top k.low k.high k.free n H) u))
      go (under f c) H u n s = let a = ascent_above f c k.low k.high k.free H in let h = hung node levels r k in let z : ◌≡◌ {A = ℕ} 0 1 = cc in absurd (omega arith)
