-- An insertion at a hole, in words: what each call of the store asks, and what the words are after it.
-- Assumes nothing.
use Prim.Native.Nat.{ℕ, suc, ◌+◌, pred, ◌≤◌, ◌<◌}
use native.Mathlib.Nat.{not-suc-le-zero}
use native.Mathlib.Omega.{arith}
use mathlib.Core.Path.{◌≡◌, refl, ap, ◌∙◌, sym, subst}
use mathlib.Core.Bool.{true, false}
use mathlib.Core.List.{List, [], ◌∷◌}
use lib.ListN.{length}
use borrow.Author.Tests.{le-leb, lt-leb}
use Rattle.model.specs.Layout.{most, NodeVal, nth, word_at, length_word, Arena}
use Rattle.model.specs.Lists.{times}
use Rattle.model.specs.Tree.{Pair, Tree, Frame, Ctx, under}
use Rattle.model.specs.Nodes.{taken, untaken}
use Rattle.model.specs.Words.{root_no}
use Rattle.model.specs.Insert.{Split, splitpoint, is_full}
use Rattle.model.proofs.Climb.{halved}
use Rattle.node.specs.Reading.{Within, Has}
use Rattle.node.proofs.Reading.{within, len_is}
use Rattle.store.specs.Links.{take_head}
use Rattle.leaf.specs.Split.{split_nodes, CutReady, Cuttable, Cut}
use Rattle.standing.specs.Standing.{root_of, Open}
use Rattle.standing.proofs.Scenes.{zoom_out}
use Rattle.growing.specs.Steps.{fit_at, FitsAt, Splits, half}
use Rattle.standing.specs.Heads.{Rest, head_words, top_of}
use Rattle.growing.specs.Climbs.{OpenBut, OpenIn, Gap, FitRaw, FittedRaw, RisenRaw}
use Rattle.totals.specs.Settling.{ample}
use Rattle.totals.proofs.Siblings.{Same}
use Rattle.growing.proofs.Counts.{fit_total, split_total, changed}
use Rattle.growing.proofs.Settled.{node_low}
use Rattle.growing.proofs.Steps.{node_in, node_pairs, fit_ready, fitted, fit_kept, fit_long, fit_step, K, cut_ready, half_ready, risen, split_long, split_step}

-- ---- what the store's calls are known to do, for a leaf (0) and an internal node alike

abbrev pub FitIn : ℕ → List ℕ → ℕ → ℕ → ℕ → Type 0
FitIn h w n i y = Has w (λ hd ns. FitsAt h ns n i y)

abbrev pub FitCall : ℕ → List ℕ → List ℕ → ℕ → ℕ → Pair → ℕ → Type 0
FitCall h w w' n i p y = (hd : List ℕ) (ns : List NodeVal) → FitsAt h ns n i y → Arena w hd ns → Arena w' hd (fit_at h ns n i p y)

abbrev pub CutIn : ℕ → List ℕ → ℕ → ℕ → Type 0
CutIn h w n i = Has w (λ hd ns. Cuttable hd ns n i × Splits h ns n)

abbrev pub CutCall : ℕ → List ℕ → List ℕ → ℕ → ℕ → ℕ → Pair → Type 0
CutCall h w w' n i r p = (hd : List ℕ) (ns : List NodeVal) (free : List ℕ) → CutReady hd ns free n i → Splits h ns n → Arena w hd ns → Cut free ns n i r p × Arena w' (take_head hd free) (split_nodes ns n (taken free) i)

-- a list that is not empty
first_known : (l : List ℕ) → 1 ≤ length l → l ≡ taken l ∷ untaken l
first_known [] h = absurd (not-suc-le-zero h)
first_known (x ∷ l) h = refl

pub with_first : {w : List ℕ} {g : Rest} {h : ℕ} (c : Ctx h) (x y : Tree h) (free : List ℕ) → 1 ≤ length free → OpenIn w g c x y free → OpenIn w g c x y (taken free ∷ untaken free)
with_first {w} {g} c x y free l H = subst (λ (t : List ℕ). OpenIn w g c x y t) (first_known free l) H

-- ---- a pair that fits

module _ {w hd : List ℕ} {ns : List NodeVal} {h : ℕ} (f : Frame (Tree h)) (c : Ctx (suc h)) (x y : Tree h) (free : List ℕ) (a : Arena w hd ns) (O : Open ns (under f c) x y free) where
  pub known_here : Within w f.no × (word_at w f.no length_word ≡ length f.left + length f.right) × (length f.left + length f.right ≤ most)
  known_here =
      let o = node_in f c x y free O in
      let e = node_pairs f c x y free O in
      (within a f.no o, len_is a f.no o ∙ e, omega (arith, (a.small f.no o).pairs_fit))

  pub fits_here : is_full f ≡ false → FitIn h w f.no (length f.left) (root_no h y)
  fits_here room = record { head = _; nodes = ns; arena = a; holds = fit_ready f c x y free O room }

module _ {us w : List ℕ} {g : Rest} {h : ℕ} (f : Frame (Tree h)) (c : Ctx (suc h)) (x y : Tree h) (free : List ℕ) (H : OpenBut us w g (under f c) x y free) where
  pub node_known : Within w f.no × (word_at w f.no length_word ≡ length f.left + length f.right) × (length f.left + length f.right ≤ most)
  node_known = known_here f c x y free H.arena H.stand

  module _ (room : is_full f ≡ false) where
    pub fit_in : FitIn h w f.no (length f.left) (root_no h y)
    fit_in = fits_here f c x y free H.arena H.stand room

    pub fit_held : (p : Pair) (w' : List ℕ) → FitCall h w w' f.no (length f.left) p (root_no h y) → ((q : ℕ) → times q (f.no ∷ []) ≡ 0 → times q us ≡ 0) → (nth H.nodes f.no).total ≤ ample → FitRaw w' g f c x y p free
    fit_held p w' call sub low =
        let n = fit_at h H.nodes f.no (length f.left) p (root_no h y) in
        let s = fit_total h H.nodes f.no (length f.left) p (root_no h y) in
        record {
          nodes = n;
          arena = call _ H.nodes (fit_ready f c x y free H.stand room) H.arena;
          stand = zoom_out (fitted f c x y free H.stand p) c x free (fit_step f c x y free H.stand p);
          many = fit_long f c x y free H.stand p ∙ H.many;
          told = changed H.nodes n us (f.no ∷ []) _ (fit_kept f c x y free H.stand p) s sub H.told;
          low = subst (λ (k : ℕ). k ≤ ample) (sym (s f.no)) low;
        }

-- ---- a full node

module _ {w : List ℕ} {g : Rest} {h : ℕ} (f : Frame (Tree h)) (c : Ctx (suc h)) (x y : Tree h) (p : Pair) (m : ℕ) (free : List ℕ) (H : OpenIn w g (under f c) x y (m ∷ free)) (full : is_full f ≡ true) where
  abbrev few : length f.left + length f.right ≤ most
  few = (node_known f c x y (m ∷ free) H).2

  abbrev pt : Split
  pt = splitpoint (length f.left)

  abbrev hd : List ℕ
  hd = head_words g (root_of c f.no) (pred (top_of c)) (m ∷ free)

  abbrev hd' : List ℕ
  hd' = head_words g (root_of c f.no) (pred (top_of c)) free

  ready : CutReady hd H.nodes (m ∷ free) f.no pt.place × Splits h H.nodes f.no
  ready = cut_ready f c x y p m free H.stand full few hd refl refl

  pub cut_in : CutIn h w f.no pt.place
  cut_in = record { head = hd; nodes = H.nodes; arena = H.arena; holds = ((m ∷ free, ready.0), ready.1) }

  module _ (w₁ : List ℕ) (r : ℕ) (up : Pair) (cut : CutCall h w w₁ f.no pt.place r up) where
    pub done : Cut (m ∷ free) H.nodes f.no pt.place r up × Arena w₁ hd' (split_nodes H.nodes f.no m pt.place)
    done = cut hd H.nodes (m ∷ free) ready.0 ready.1 H.arena

    pub half_in : FitIn h w₁ (half pt.side f.no m) pt.edge (root_no h y)
    half_in = record { head = hd'; nodes = _; arena = done.1; holds = half_ready f c x y p m free H.stand full few }

    pub up_is : (halved f c x p y (m ∷ free)).pair ≡ up
    up_is = sym (done.0.risen_is ∙ risen f c x y p m free H.stand full few)

    pub right_is : m ≡ r
    right_is = sym done.0.right_is

    pub same_counts : Same H.nodes (fit_at h (split_nodes H.nodes f.no m pt.place) (half pt.side f.no m) pt.edge p (root_no h y))
    same_counts q = fit_total h (split_nodes H.nodes f.no m pt.place) (half pt.side f.no m) pt.edge p (root_no h y) q ∙ split_total H.nodes f.no m pt.place (ap (λ (v : NodeVal). v.total) H.stand.chain.0) q

    pub split_low : (w₂ : List ℕ) → (nth H.nodes f.no).total ≤ ample → (nth (fit_at h (split_nodes H.nodes f.no m pt.place) (half pt.side f.no m) pt.edge p (root_no h y)) f.no).total ≤ ample
    split_low w₂ low = subst (λ (k : ℕ). k ≤ ample) (sym (same_counts f.no)) low

    abbrev pub split_held : (w₂ : List ℕ) → FitCall h w₁ w₂ (half pt.side f.no m) pt.edge p (root_no h y) → OpenBut (f.no ∷ m ∷ []) w₂ g c (halved f c x p y (m ∷ free)).left (halved f c x p y (m ∷ free)).right free
    split_held w₂ call = record {
      nodes = fit_at h (split_nodes H.nodes f.no m pt.place) (half pt.side f.no m) pt.edge p (root_no h y);
      arena = call hd' _ (half_ready f c x y p m free H.stand full few) done.1;
      stand = split_step f c x y p m free H.stand full few;
      many = split_long f c x y p m free H.stand full few ∙ H.many;
      told = changed H.nodes _ [] (f.no ∷ m ∷ []) _ (K f c x y p m free H.stand full few) same_counts (λ q u. refl) H.told;
    }

-- ---- the same of a gap, in the code's own numbers

not_full : {A : Type 0} (f : Frame A) → length f.left + length f.right < most → is_full f ≡ false
not_full f l = lt-leb most (length f.left + length f.right) l

is_full_lem : {A : Type 0} (f : Frame A) → most ≤ length f.left + length f.right → is_full f ≡ true
is_full_lem f l = le-leb most (length f.left + length f.right) l

pub gap_within : {w : List ℕ} {h node at child : ℕ} → Gap w h node at child → Within w node
gap_within s = rw s.node_is at (node_known s.frame s.way s.low s.high s.free s.held).0

module _ {w : List ℕ} {h node at child : ℕ} (s : Gap w h node at child) (k : ℕ) (ek : k ≡ word_at w node length_word) where
  abbrev f : Frame (Tree h)
  f = s.frame

  count_is : word_at w node length_word ≡ length f.left + length f.right
  count_is = rw s.node_is at (node_known s.frame s.way s.low s.high s.free s.held).1

  module _ (short : k < most) where
    room : is_full f ≡ false
    room = not_full f (omega (arith, count_is))

    pub gap_fit : FitIn h w node at child
    gap_fit = rw (s.node_is, s.at_is, s.child_is) at (fit_in s.frame s.way s.low s.high s.free s.held room)

    pub gap_fitted : (p : Pair) (w' : List ℕ) → FitCall h w w' node at p child → FittedRaw s p w'
    gap_fitted p w' call =
        let c : FitCall h w w' f.no (length f.left) p (root_no h s.high) = rw (← s.node_is, ← s.at_is, ← s.child_is) at call in
        record { room = room; raw = fit_held f s.way s.low s.high s.free s.held room p w' c (λ q u. refl) (node_low f s.way s.low s.high s.free s.held) }

  module _ (long : most ≤ k) (p : Pair) (mid : ℕ) (em : mid ≡ (splitpoint at).place) where
    full : is_full f ≡ true
    full = is_full_lem f (omega (arith, count_is))

    H : OpenIn w s.rest (under f s.way) s.low s.high (taken s.free ∷ untaken s.free)
    H = with_first (under f s.way) s.low s.high s.free (s.enough full) s.held

    pub gap_cut : CutIn h w node mid
    gap_cut = rw (em, ← s.at_is, ← s.node_is) (cut_in f s.way s.low s.high p (taken s.free) (untaken s.free) H full)

    module _ (w₁ : List ℕ) (r : ℕ) (up : Pair) (cut : CutCall h w w₁ node mid r up) (n' i' : ℕ) (en : n' ≡ half (splitpoint at).side node r) (ei : i' ≡ (splitpoint at).edge) where
      cut' : CutCall h w w₁ f.no (splitpoint (length f.left)).place r up
      cut' = rw (em, ← s.at_is, ← s.node_is) at cut

      new_is : taken s.free ≡ r
      new_is = right_is f s.way s.low s.high p (taken s.free) (untaken s.free) H full w₁ r up cut'

      pub gap_half : FitIn h w₁ n' i' child
      gap_half = rw (en, ei, ← new_is, ← s.at_is, ← s.node_is, ← s.child_is) (half_in f s.way s.low s.high p (taken s.free) (untaken s.free) H full w₁ r up cut')

      pub gap_risen : (w₂ : List ℕ) → FitCall h w₁ w₂ n' i' p child → RisenRaw s p w₂ up r
      gap_risen w₂ call =
          let c : FitCall h w₁ w₂ (half (splitpoint (length f.left)).side f.no (taken s.free)) (splitpoint (length f.left)).edge p (root_no h s.high) = rw (en, ei, ← new_is, ← s.at_is, ← s.node_is, ← s.child_is) at call in
          let F = taken s.free in
          let G = untaken s.free in
          record {
            risen = record {
              full = full;
              pair_is = up_is f s.way s.low s.high p F G H full w₁ r up cut';
              right_is = new_is;
              held = split_held f s.way s.low s.high p F G H full w₁ r up cut' w₂ c;
            };
            low = split_low f s.way s.low s.high p F G H full w₁ r up cut' w₂ (node_low f s.way s.low s.high (F ∷ G) H);
          }
