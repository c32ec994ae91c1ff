-- A node taken, a node returned, a link written: single words, as changes of the header and of the list of nodes.
-- Assumes nothing.
use Prim.Native.Nat.{ℕ, suc, ◌+◌, ◌-◌, ◌≤◌, ◌<◌}
use mathlib.Core.Path.{◌≡◌, refl, ap, ◌∙◌}
use mathlib.Core.Logic.{◌≢◌}
use mathlib.Core.List.{List, [], ◌∷◌, map}
use native.Mathlib.Nat.{not-suc-le-zero}
use native.Mathlib.Omega.{arith}
use lib.Dec.{lit<}
use lib.ListN.{length, get_or, set, length-map, length-set}
use lib.Seq.{get_or-set_other}
use Rattle.model.specs.Lists.{All}
use Rattle.model.specs.Layout as layout
use Rattle.model.specs.Layout.{none, header, header_size, base, state_word, parent_word, place_word, total_word, first_free_word, free_word, word_at, NodeVal, nth, blank, Arena}
use Rattle.model.specs.Nodes.{taken, untaken, returned}
use Rattle.model.specs.Words.{free_val, first_or, chain_blocks}
use Rattle.model.proofs.Held.{Written}
use Rattle.model.proofs.Frees.{returned_length}
use Rattle.node.specs.Fields.{Fields, fields_of, numbered, totalled}
use Rattle.node.specs.Reading.{Within, Has}
use Rattle.node.proofs.Fields.{stored, unstored, head_word, head_set, state_set, parent_set, place_set, total_set, first, again, done}
use Rattle.node.proofs.Reading.{within, arena_length, parent_is}
use Rattle.store.specs.Links.{fresh, linked, link, first_free, free_nodes, take_head, take_node, last_below, return_head, return_node, TakeReady, Takeable, ReturnReady, Returnable}
use Rattle.store.proofs.Returns.{before_none, before_some}

module _ {w h : List ℕ} {ns : List NodeVal} (a : Arena w h ns) where
  pub head_is : (k : ℕ) → k < header_size → get_or w k 0 ≡ header h k
  head_is k o = head_word (stored a) k o

  pub long : header_size ≤ length w
  long = omega (arith, arena_length a)

  inside : (n : ℕ) → n < length ns → n < length (map fields_of ns)
  inside n o = rw length-map o

  pub head_put : (k x : ℕ) → k < header_size → Arena (set w k x) (set h k x) ns
  head_put k x o = unstored (head_set (stored a) k o x)

  pub link_put : (n p k : ℕ) → n < length ns → Arena (set (set w (base n + parent_word) p) (base n + place_word) k) h (link ns n p k)
  link_put n p k o =
      let s = first ns n o (λ (f : Fields). numbered f.state f.count p f.place f) (parent_set (stored a) n (inside n o) p) in
      done ns n o _ (linked (nth ns n) p k) refl (again ns n o (λ (f : Fields). numbered f.state f.count f.parent k f) _ (place_set s n (rw length-set (inside n o)) k))

  fresh_put : (n st : ℕ) → n < length ns → nth ns n ≡ free_val (nth ns n).parent → Arena (set (set w (base n + state_word) st) (base n + parent_word) none) h (set ns n (fresh st))
  fresh_put n st o e =
      let s = first ns n o (λ (f : Fields). numbered st f.count f.parent f.place f) (state_set (stored a) n (inside n o) st) in
      done ns n o _ (fresh st) (rw e refl) (again ns n o (λ (f : Fields). numbered f.state f.count none f.place f) _ (parent_set s n (rw length-set (inside n o)) none))

  pub free_put : (n next : ℕ) → n < length ns → (nth ns n).pairs ≡ [] → (nth ns n).edges ≡ [] → Arena (set (set (set (set w (base n + state_word) layout.free) (base n + parent_word) next) (base n + place_word) 0) (base n + total_word) 0) h (set ns n (free_val next))
  free_put n next o p q =
      let s = first ns n o (λ (f : Fields). numbered layout.free f.count f.parent f.place f) (state_set (stored a) n (inside n o) layout.free) in
      let t = again ns n o (λ (f : Fields). numbered f.state f.count next f.place f) _ (parent_set s n (rw length-set (inside n o)) next) in
      let u = again ns n o (λ (f : Fields). numbered f.state f.count f.parent 0 f) _ (place_set t n (rw length-set (inside n o)) 0) in
      done ns n o _ (free_val next) (rw (p, q) refl) (again ns n o (totalled 0) _ (total_set u n (rw length-set (inside n o)) 0))

-- ---- what is asked, in words

module _ {h : List ℕ} {ns : List NodeVal} {free : List ℕ} (r : TakeReady h ns free) where
  -- the first one
  opened : (taken free < length ns) × (nth ns (taken free) ≡ free_val (first_or (untaken free))) × (first_free h ≡ taken free) × (free_nodes h ≡ suc (length (untaken free)))
  opened = go free r.some r.frees.inside r.frees.chain r.frees.first r.frees.many
    where
      go : (l : List ℕ) → 1 ≤ length l → All (λ (x : ℕ). x < length ns) l → All (Written ns) (chain_blocks l) → first_free h ≡ first_or l → free_nodes h ≡ length l
          → (taken l < length ns) × (nth ns (taken l) ≡ free_val (first_or (untaken l))) × (first_free h ≡ taken l) × (free_nodes h ≡ suc (length (untaken l)))
      go [] s i c e m = absurd (not-suc-le-zero s)
      go (x ∷ l) s i c e m = (i.0, c.0, e, m)

  pub take_in : taken free < length ns
  take_in = opened.0

  pub take_free : nth ns (taken free) ≡ free_val (first_or (untaken free))
  take_free = opened.1

pub take_here : {w : List ℕ} → Has w Takeable → (header_size ≤ length w) × Within w (get_or w first_free_word 0) × (1 ≤ get_or w free_word 0)
take_here {w} p =
    let r = opened p.holds.1 in
    let e = head_is p.arena first_free_word (lit< tt) ∙ r.2 in
    let f = head_is p.arena free_word (lit< tt) in
    (long p.arena, rw e (within p.arena _ r.0), omega (arith, r.3))

pub return_here : {w : List ℕ} {n : ℕ} → Has w (λ h ns. Returnable h ns n) → (header_size ≤ length w) × Within w n × (get_or w free_word 0 < length w) × (n < none)
return_here {w} {n} p =
    let r = p.holds.1 in
    let f = head_is p.arena free_word (lit< tt) in
    (long p.arena, within p.arena n r.node, omega (arith, r.used, r.frees.many, arena_length p.arena), omega (arith, r.node, r.frees.few))

-- ---- what is left

pub taken_first : {w h : List ℕ} {ns : List NodeVal} → Arena w h ns → (free : List ℕ) (n b next left st : ℕ) → TakeReady h ns free → n ≡ get_or w first_free_word 0 → b ≡ base n → next ≡ word_at w n parent_word → left ≡ get_or w free_word 0 - 1
    → (n ≡ taken free) × Arena (set (set (set (set w (b + state_word) st) (b + parent_word) none) first_free_word next) free_word left) (take_head h free) (take_node ns free st)
taken_first {h = h} {ns = ns} a free n b next left st r en eb ex el =
    let k = opened r in
    let m : n ≡ taken free = en ∙ head_is a first_free_word (lit< tt) ∙ k.2 in
    let o : n < length ns = rw m k.0 in
    let x : next ≡ first_or (untaken free) = ex ∙ parent_is a n o ∙ ap (λ (t : ℕ). (nth ns t).parent) m ∙ ap (λ (v : NodeVal). v.parent) k.1 in
    let l : left ≡ length (untaken free) = el ∙ omega (arith, head_is a free_word (lit< tt), k.3) in
    let p = fresh_put a (taken free) st k.0 (rw k.1 refl) in
    (m, rw (eb, m, x, l) (head_put (head_put p first_free_word _ (lit< tt)) free_word _ (lit< tt)))

-- ---- a node returned: none is before it, or p is

module _ {w h : List ℕ} {ns : List NodeVal} (a : Arena w h ns) (free : List ℕ) (n left : ℕ) (r : ReturnReady h ns free n) (el : left ≡ get_or w free_word 0 + 1) where
  left_is : left ≡ length (returned n free)
  left_is = omega (arith, el, head_is a free_word (lit< tt), r.frees.many, returned_length n free)

  small : n < none
  small = omega (arith, r.node, r.frees.few)

  pub first_is : get_or w first_free_word 0 ≡ first_or free
  first_is = head_is a first_free_word (lit< tt) ∙ r.frees.first

  pub returned_first : {w₁ : List ℕ} → last_below n none free ≡ none → Arena w₁ h (set ns n (free_val (first_or free))) → Arena (set (set w₁ first_free_word n) free_word left) (return_head h free n) (return_node ns free n)
  returned_first e b =
      let k = before_none ns n r.node free small e in
      rw (k.0, k.1, ← left_is) (head_put (head_put b first_free_word n (lit< tt)) free_word left (lit< tt))

  module _ (p : ℕ) (e : p ≡ last_below n none free) (d : p ≢ none) where
    abbrev some : (return_node ns free n ≡ set (set ns n (free_val (nth ns p).parent)) p (free_val n)) × (first_or (returned n free) ≡ first_or free) × (p < n) × (nth ns p ≡ free_val (nth ns p).parent)
    some = before_some ns n r.node p free e d r.frees.chain

    pub before_in : p < length ns
    before_in = omega (arith, some.2, r.node)

    mid_is : (k : ℕ) → nth (set ns n (free_val k)) p ≡ free_val (nth ns p).parent
    mid_is k = get_or-set_other ns n p (free_val k) blank (λ z. omega (arith, some.2)) ∙ some.3

    pub before_bare : (k : ℕ) → (p < length (set ns n (free_val k))) × ((nth (set ns n (free_val k)) p).pairs ≡ []) × ((nth (set ns n (free_val k)) p).edges ≡ [])
    before_bare k = (rw length-set before_in, rw (mid_is k) refl, rw (mid_is k) refl)

    pub returned_behind : {w₂ : List ℕ} (first : ℕ) → first ≡ get_or w first_free_word 0 → Arena w₂ h (set (set ns n (free_val (nth ns p).parent)) p (free_val n)) → Arena (set (set w₂ first_free_word first) free_word left) (return_head h free n) (return_node ns free n)
    returned_behind first ef b = rw (ef ∙ first_is, some.0, some.1, ← left_is) (head_put (head_put b first_free_word (first_or free) (lit< tt)) free_word left (lit< tt))
