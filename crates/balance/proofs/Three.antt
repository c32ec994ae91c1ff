-- Three different nodes, changed one or two at a time.
-- Assumes nothing.
use Prim.Native.Nat.{ℕ, ◌<◌}
use mathlib.Core.Path.{◌≡◌, sym, ap, ◌∙◌}
use mathlib.Core.List.{List}
use lib.ListN.{length, set, length-set}
use lib.Seq.{get_or-set_same, get_or-set_other, set-set, set_comm, set-get_or}
use Rattle.model.specs.Layout.{NodeVal, nth, blank}
use Rattle.leaf.specs.Pairs.{Two}
use Rattle.balance.specs.Moves.{three, Beside}

module _ {ns : List NodeVal} {p i l r : ℕ} (b : Beside ns p i l r) where
  -- where they are what they were
  three_same : ns ≡ three ns p l r (nth ns p) (nth ns l) (nth ns r)
  three_same = sym (ap (λ (t : List NodeVal). set (set t l (nth ns l)) r (nth ns r)) (set-get_or ns p blank) ∙ ap (λ (t : List NodeVal). set t r (nth ns r)) (set-get_or ns l blank) ∙ set-get_or ns r blank)

  module _ (P L R : NodeVal) where
    abbrev now : List NodeVal
    now = three ns p l r P L R

    pub three_long : length now ≡ length ns
    three_long = length-set (set (set ns p P) l L) r R ∙ length-set (set ns p P) l L ∙ length-set ns p P

    pub three_r : nth now r ≡ R
    three_r = get_or-set_same (set (set ns p P) l L) r R blank (rw (length-set, length-set) b.right.node)

    pub three_l : nth now l ≡ L
    three_l = get_or-set_other (set (set ns p P) l L) r l R blank b.apart ∙ get_or-set_same (set ns p P) l L blank (rw length-set b.left.node)

    pub three_p : nth now p ≡ P
    three_p = get_or-set_other (set (set ns p P) l L) r p R blank b.not_right ∙ get_or-set_other (set ns p P) l p L blank b.not_left ∙ get_or-set_same ns p P blank b.parent

    pub node_p : p < length now
    node_p = rw three_long b.parent

    pub node_l : l < length now
    node_l = rw three_long b.left.node

    pub node_r : r < length now
    node_r = rw three_long b.right.node

    pub both_lr : Two now l r
    both_lr = record { left = node_l; right = node_r; apart = b.apart }

    set_l : (X : NodeVal) → set now l X ≡ three ns p l r P X R
    set_l X = set_comm (set (set ns p P) l L) r l R X (λ e. b.apart (sym e)) ∙ ap (λ (t : List NodeVal). set t r R) (set-set (set ns p P) l L X)

    set_r : (X : NodeVal) → set now r X ≡ three ns p l r P L X
    set_r X = set-set (set (set ns p P) l L) r R X

    -- F and G say what becomes of a node
    pub on_p : (F : NodeVal → NodeVal) → set now p (F (nth now p)) ≡ three ns p l r (F P) L R
    on_p F =
        ap (λ (v : NodeVal). set now p (F v)) three_p
        ∙ set_comm (set (set ns p P) l L) r p R (F P) (λ e. b.not_right (sym e))
        ∙ ap (λ (t : List NodeVal). set t r R) (set_comm (set ns p P) l p L (F P) (λ e. b.not_left (sym e)))
        ∙ ap (λ (t : List NodeVal). set (set t l L) r R) (set-set ns p P (F P))

    pub on_l : (F : NodeVal → NodeVal) → set now l (F (nth now l)) ≡ three ns p l r P (F L) R
    on_l F = ap (λ (v : NodeVal). set now l (F v)) three_l ∙ set_l (F L)

    pub on_r : (F : NodeVal → NodeVal) → set now r (F (nth now r)) ≡ three ns p l r P L (F R)
    on_r F = ap (λ (v : NodeVal). set now r (F v)) three_r ∙ set_r (F R)

    pub on_lr : (F G : NodeVal → NodeVal → NodeVal) → set (set now l (F (nth now l) (nth now r))) r (G (nth now l) (nth now r)) ≡ three ns p l r P (F L R) (G L R)
    on_lr F G =
        rw (three_l, three_r) (ap (λ (t : List NodeVal). set t r (G L R)) (set_l (F L R)) ∙ set-set (set (set ns p P) l (F L R)) r R (G L R))

  -- a first change
  pub from_p : (F : NodeVal → NodeVal) → set ns p (F (nth ns p)) ≡ three ns p l r (F (nth ns p)) (nth ns l) (nth ns r)
  from_p F = ap (λ (t : List NodeVal). set t p (F (nth t p))) three_same ∙ on_p (nth ns p) (nth ns l) (nth ns r) F

  pub from_l : (F : NodeVal → NodeVal) → set ns l (F (nth ns l)) ≡ three ns p l r (nth ns p) (F (nth ns l)) (nth ns r)
  from_l F = ap (λ (t : List NodeVal). set t l (F (nth t l))) three_same ∙ on_l (nth ns p) (nth ns l) (nth ns r) F

  pub from_r : (F : NodeVal → NodeVal) → set ns r (F (nth ns r)) ≡ three ns p l r (nth ns p) (nth ns l) (F (nth ns r))
  from_r F = ap (λ (t : List NodeVal). set t r (F (nth t r))) three_same ∙ on_r (nth ns p) (nth ns l) (nth ns r) F
