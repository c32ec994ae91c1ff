-- A load brought to its end: the border stocked, every count set, the header written; from the words of a formatted arena to those of the loaded state.
-- Assumes nothing.
use Prim.Native.Nat.{ℕ, zero, suc, ◌+◌, ◌-◌, ◌/◌, ◌%◌, ◌≤◌, ◌<◌}
use native.Mathlib.Nat.{div-add-mod', mod-lt}
use native.Mathlib.Omega.{arith}
use mathlib.Core.Path.{◌≡◌, refl, ap, ◌∙◌, sym, subst}
use mathlib.Core.List.{List, [], ◌∷◌}
use lib.ListN.{length, get_or, set}
use Rattle.model.specs.Lists.{All}
use Rattle.model.specs.Layout.{header_size, pairs_word, seen_word, mark_word, header, root_word, height_word, NodeVal, Arena}
use Rattle.model.specs.Tree.{Pair, Tree, top, Whole, plug}
use Rattle.model.specs.Mark.{Mark, Covers, unseen, seen}
use Rattle.model.specs.Sound.{Sound, RootFull}
use Rattle.model.specs.State.{formatted, list}
use Rattle.model.specs.Words.{words_of}
use Rattle.model.specs.Load.{Loading, push_all, begun, plenty, last_mark, loaded_with, pairs_of, Even}
use Rattle.model.proofs.Sizes.{to_full}
use Rattle.node.specs.Reading.{Has}
use Rattle.standing.specs.Heads.{Rest, rest_of, ClosedBy, ClosedIn, Uncounted}
use Rattle.standing.proofs.Scenes.{closed_words}
use Rattle.totals.proofs.Settling.{hole_kept}
use Rattle.counting.specs.Counting.{TreeIn}
use Rattle.counting.proofs.Counts.{CountCall}
use Rattle.counting.proofs.Wholes.{all_total}
use Rattle.fix.proofs.Holes.{hole_header, hole_long}
use Rattle.loading.proofs.Runs.{pairs_half}
use Rattle.loading.proofs.Loads.{load_list, load_sound, plenty_full, last_covers}
use Rattle.appending.specs.Pushes.{free_from}
use Rattle.appending.specs.Stocks.{Pushed}
use Rattle.appending.specs.Runs.{Begun, BegunIn, Tells, Loads}
use Rattle.appending.proofs.Runs.{formatted_begun}

-- ---- every count set

-- what is asked for it of the root n, with b levels below it, and what is left
pub record Countable (w : List ℕ) (g : Rest) (t : Whole) (free : List ℕ) (n b : ℕ) : Type 0 where
  pub asks : Has w (λ hd ns. TreeIn ns n b)
  pub leaves : (w' : List ℕ) → CountCall w w' n b → ClosedIn w' g (record { whole = t; free = free })

module _ {w : List ℕ} {g : Rest} {h : ℕ} (u : Tree (suc h)) (free : List ℕ) (H : ClosedBy Uncounted w g (record { whole = record { height = suc h; root = u }; free = free })) where
  abbrev t : Whole
  t = record { height = suc h; root = u }

  abbrev tree_in : TreeIn H.nodes u.no h
  tree_in = record {
    tree = u;
    node_is = refl;
    stands = H.stand.tree;
    links = H.stand.links;
    few = H.stand.few;
    once = λ m. omega (arith, H.stand.once m);
    within = λ m v. H.stand.within m (omega arith);
  }

  tree_counted : (w' : List ℕ) → CountCall w w' u.no h → ClosedIn w' g (record { whole = t; free = free })
  tree_counted w' call =
      let c = call _ H.nodes tree_in H.arena in
      let k = hole_kept (top {h = suc h}) u free c.same H.stand in
      record { nodes = c.nodes; arena = c.arena; stand = k; many = c.same.long ∙ H.many; told = all_total c.nodes t free k c.right }

  at_root : Countable w g t free (header w root_word) (header w height_word)
  at_root =
      let er : header w root_word ≡ u.no = hole_header (top {h = suc h}) u free H root_word (omega arith) in
      let eh : header w height_word ≡ h = hole_header (top {h = suc h}) u free H height_word (omega arith) in
      subst (λ (b : ℕ). Countable w g t free (header w root_word) b) (sym eh)
      (subst (λ (n : ℕ). Countable w g t free n h) (sym er)
      (record { asks = record { head = _; nodes = H.nodes; arena = H.arena; holds = tree_in }; leaves = tree_counted }))

pub countable : {w : List ℕ} {g : Rest} (t : Whole) (free : List ℕ) → RootFull t.height t.root → ClosedBy Uncounted w g (record { whole = t; free = free }) → Countable w g t free (header w root_word) (header w height_word)
countable {w} {g} t free f H = go t.height t.root f H
  where
    go : (h : ℕ) (u : Tree h) → RootFull h u → ClosedBy Uncounted w g (record { whole = record { height = h; root = u }; free = free }) → Countable w g (record { height = h; root = u }) free (header w root_word) (header w height_word)
    go zero u f H = absurd f
    go (suc h) u f H = at_root u free H

pub stocked_full : {w : List ℕ} {g : Rest} {t : Whole} {free : List ℕ} → Pushed w g t free → RootFull (plenty t).height (plenty t).root
stocked_full {t = t} x = to_full (plenty t).height (plenty t).root (plenty_full t.height t.root x.plenty)

pub closed_head : {P : List NodeVal → Type 0} {w : List ℕ} {g : Rest} {t : Whole} {free : List ℕ} → ClosedBy P w g (record { whole = t; free = free }) → header_size ≤ length w
closed_head {t = t} {free = free} H = omega (arith, hole_long top t.root free H)

-- ---- the header written

abbrev pub TellCall : List ℕ → List ℕ → ℕ → ℕ → ℕ → Type 0
TellCall w w' pairs s m = (h : List ℕ) (ns : List NodeVal) → Arena w h ns → Arena w' (set (set (set h pairs_word pairs) seen_word s) mark_word m) ns

module _ (g : Rest) (ps : List Pair) where
  abbrev l : Loading
  l = push_all ps begun

  -- the words with the header of the loaded state
  pub finished : {w w' : List ℕ} (m : Mark) (pairs flag key : ℕ) → Tells m ps pairs flag key → Sound (loaded_with m g.size ps) → ClosedIn w g (record { whole = plenty (plug (push_all ps begun).way tt); free = free_from g (push_all ps begun).next }) → TellCall w w' pairs flag key → w' ≡ words_of (loaded_with m g.size ps)
  finished {w} {w'} m pairs flag key o s H call =
      let st = loaded_with m g.size ps in
      let b : pairs ≡ length (list st) = o.pairs_are ∙ sym (ap length (load_list ps m g.size)) in
      let e : record { size = g.size; pairs = pairs; seen = flag; mark = key } ≡ rest_of st = (λ i. record { size = g.size; pairs = b i; seen = o.seen_is i; mark = o.mark_is i }) in
      let G : ClosedIn w' (rest_of st) (record { whole = plenty (plug l.way tt); free = free_from g l.next }) = subst (λ (q : Rest). ClosedIn w' q (record { whole = plenty (plug l.way tt); free = free_from g l.next })) e (record { nodes = H.nodes; arena = call _ H.nodes H.arena; stand = H.stand; many = H.many; told = H.told }) in
      closed_words st s G.arena refl G.many G.stand G.told

-- ---- the run's last key

last_key : (j : ℕ) (run : List ℕ) → length run ≡ suc j + suc j → last_mark (pairs_of run) ≡ seen (get_or run (j + j) 0)
last_key j [] e = absurd (omega arith)
last_key j (k ∷ []) e = absurd (omega arith)
last_key zero (k ∷ v ∷ []) e = refl
last_key (suc j) (k ∷ v ∷ []) e = absurd (omega arith)
last_key j (k ∷ v ∷ k₂ ∷ []) e = absurd (omega arith)
last_key zero (k ∷ v ∷ k₂ ∷ v₂ ∷ ws) e = absurd (omega arith)
last_key (suc j) (k ∷ v ∷ k₂ ∷ v₂ ∷ ws) e = let a : suc j + suc j ≡ suc (suc (j + j)) = omega arith in last_key j (k₂ ∷ v₂ ∷ ws) (omega arith) ∙ sym (ap (λ (i : ℕ). seen (get_or (k ∷ v ∷ k₂ ∷ v₂ ∷ ws) i 0)) a)

-- no pair
pub mark_none : (run : List ℕ) → length run < 2 → unseen ≡ last_mark (pairs_of run)
mark_none [] l = refl
mark_none (k ∷ []) l = refl
mark_none (k ∷ v ∷ ws) l = absurd (omega arith)

-- the last key
pub mark_last : (run : List ℕ) → Even (length run) → 2 ≤ length run → seen (get_or run (length run - 2) 0) ≡ last_mark (pairs_of run)
mark_last run v l = go v.half v.is
  where
    go : (j : ℕ) → length run ≡ j + j → seen (get_or run (length run - 2) 0) ≡ last_mark (pairs_of run)
    go zero e = absurd (omega arith)
    go (suc j) e =
        let a : length run - 2 ≡ j + j = omega arith in
        ap (λ (i : ℕ). seen (get_or run i 0)) a ∙ sym (last_key j run e)

-- ---- the load of a run

module _ {n : ℕ} {w run : List ℕ} (o : Loads n w run) where
  root_none : header w root_word ≡ 0
  root_none = let b = formatted_begun n run o.some o.few o.words o.room in hole_header _ _ _ b.load.held root_word (omega arith)

  pub begins : Begun w (rest_of (formatted n)) (header w root_word) run
  begins = rw root_none (formatted_begun n run o.some o.few o.words o.room)

  pub begins_in : BegunIn w run
  begins_in = record { rest = rest_of (formatted n); begins = begins; even = o.even }

  -- so many pairs
  pub half_is : (c : ℕ) → c ≡ length run / 2 → c ≡ length (pairs_of run)
  half_is c ec =
      let d = div-add-mod' (length run) 2 in
      let r : length run % 2 < 2 = mod-lt (length run) (omega arith) in
      omega (arith, pairs_half o.even.half run o.even.is, o.even.is)

  pub sound_with : (m : Mark) → All (λ (p : Pair). Covers m p.key) (pairs_of run) → Sound (loaded_with m n (pairs_of run))
  sound_with m c = load_sound (pairs_of run) m n o.rising c o.room o.few

  pub covers_last : All (λ (p : Pair). Covers (last_mark (pairs_of run)) p.key) (pairs_of run)
  covers_last = last_covers (pairs_of run) o.rising
