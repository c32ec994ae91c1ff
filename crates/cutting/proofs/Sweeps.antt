-- The pass over all nodes: turn by turn; and a tree whose nodes stay, with all others as its free chain.
-- Assumes nothing.
use Prim.Native.Nat.{ℕ, zero, suc, ◌+◌, ◌-◌, ◌≤◌, ◌<◌}
use native.Mathlib.Omega.{arith}
use mathlib.Core.Path.{◌≡◌, refl, sym, ap, ap₂, ◌∙◌, subst}
use mathlib.Core.Bool.{Bool, true, false, cond}
use mathlib.Core.List.{List, [], ◌∷◌, ◌++◌}
use lib.ListN.{length, take, drop, set}
use lib.Seq.{take-suc, drop-cons, append_snoc, set_at, get_or_at, length-take-le, take_all}
use lib.Dec.{leb, eqb, lit<}
use lib.ListN.{drop_of_length-le, length-append, length-drop}
use borrow.Author.Tests.{ne_eqb}
use Rattle.model.specs.Lists.{All, AllAbove, Rises, times}
use Rattle.model.specs.Layout.{none, first_free_word, free_word, state_word, length_word, keys_word, key_of, word_at, NodeVal, nth, blank, Arena}
use Rattle.model.specs.Tree.{Pair}
use Rattle.model.specs.Words.{free_val, first_or, chain_blocks, Written}
use Rattle.model.proofs.Lists.{one_same, one_other}
use Rattle.node.specs.Reading.{pair_at}
use Rattle.node.proofs.Reading.{state_is, len_is, key_is}
use Rattle.store.proofs.Chain.{head_put}
use Rattle.cutting.specs.Sweep.{reached, goes, freed, swept, swept_head}

module _ (k : ℕ) where
  -- ---- turn by turn

  -- the nodes when those from n on are swept, and the chain so far
  abbrev pub sweeping : ℕ → List NodeVal → List NodeVal
  sweeping n ns = take n ns ++ swept k n (drop n ns)

  abbrev pub found : ℕ → List NodeVal → List ℕ
  found n ns = freed k n (drop n ns)

  module _ (ns : List NodeVal) (n : ℕ) (l : n < length ns) where
    abbrev v : NodeVal
    v = nth ns n

    abbrev after : List NodeVal
    after = swept k (suc n) (drop (suc n) ns)

    split : sweeping (suc n) ns ≡ take n ns ++ nth ns n ∷ swept k (suc n) (drop (suc n) ns)
    split = ap (λ (t : List NodeVal). t ++ after) (take-suc ns n blank l) ∙ append_snoc (take n ns) v after

    front : length (take n ns) ≡ n
    front = length-take-le n ns (omega arith)

    pub turn_node : nth (sweeping (suc n) ns) n ≡ nth ns n
    turn_node = ap (λ (t : List NodeVal). nth t n) split ∙ get_or_at (take n ns) v after blank n front

    pub turn_stays : goes k (nth ns n) ≡ false → (sweeping (suc n) ns ≡ sweeping n ns) × (found (suc n) ns ≡ found n ns)
    turn_stays e = (
      split ∙ sym (ap (λ (t : List NodeVal). take n ns ++ swept k n t) (drop-cons ns n blank l) ∙ (rw e refl)),
      sym (ap (freed k n) (drop-cons ns n blank l) ∙ (rw e refl)),
    )

    pub turn_goes : goes k (nth ns n) ≡ true → (set (sweeping (suc n) ns) n (free_val (first_or (found (suc n) ns))) ≡ sweeping n ns) × (n ∷ found (suc n) ns ≡ found n ns)
    turn_goes e = (
      ap (λ (t : List NodeVal). set t n (free_val (first_or (found (suc n) ns)))) split ∙ set_at (take n ns) v after (free_val (first_or (found (suc n) ns))) n front
          ∙ sym (ap (λ (t : List NodeVal). take n ns ++ swept k n t) (drop-cons ns n blank l) ∙ (rw e refl)),
      sym (ap (freed k n) (drop-cons ns n blank l) ∙ (rw e refl)),
    )

  pub sweep_begins : (ns : List NodeVal) (n : ℕ) → n ≡ length ns → (ns ≡ sweeping n ns) × (found n ns ≡ [])
  sweep_begins ns n e =
      let d : drop n ns ≡ [] = drop_of_length-le ns {i = n} (omega arith) in (
        sym (ap (λ (t : List NodeVal). take n ns ++ swept k n t) d ∙ snoc_nil (take n ns) ∙ take_all n ns (omega arith)),
        ap (freed k n) d,
      )
    where
      snoc_nil : (l : List NodeVal) → l ++ [] ≡ l
      snoc_nil [] = refl
      snoc_nil (x ∷ l) = ap (λ (t : List NodeVal). x ∷ t) (snoc_nil l)

  -- ---- afterwards

  pub swept_long : (i : ℕ) (ns : List NodeVal) → length (swept k i ns) ≡ length ns
  swept_long i [] = refl
  swept_long i (v ∷ ns) = ap suc (swept_long (suc i) ns)

  pub swept_stays : (i : ℕ) (ns : List NodeVal) (m : ℕ) → goes k (nth ns m) ≡ false → nth (swept k i ns) m ≡ nth ns m
  swept_stays i [] m e = refl
  swept_stays i (v ∷ ns) zero e = rw e refl
  swept_stays i (v ∷ ns) (suc m) e = swept_stays (suc i) ns m e

  pub swept_goes : (i : ℕ) (ns : List NodeVal) (m : ℕ) → m < length ns → goes k (nth ns m) ≡ true → nth (swept k i ns) m ≡ free_val (nth (swept k i ns) m).parent
  swept_goes i [] m l e = absurd (omega arith)
  swept_goes i (v ∷ ns) zero l e = rw e refl
  swept_goes i (v ∷ ns) (suc m) l e = swept_goes (suc i) ns m (omega arith) e

  -- the chain's numbers
  freed_above : (i j : ℕ) (ns : List NodeVal) → j < i → AllAbove j (freed k i ns)
  freed_above i j [] l = tt
  freed_above i j (v ∷ ns) l = go (goes k v) (freed_above (suc i) j ns (omega arith))
    where
      go : (b : Bool) → AllAbove j (freed k (suc i) ns) → AllAbove j (cond b (i ∷ freed k (suc i) ns) (freed k (suc i) ns))
      go true a = (l, a)
      go false a = a

  pub freed_rises : (i : ℕ) (ns : List NodeVal) → Rises (freed k i ns)
  freed_rises i [] = tt
  freed_rises i (v ∷ ns) = go (goes k v) (freed_rises (suc i) ns)
    where
      go : (b : Bool) → Rises (freed k (suc i) ns) → Rises (cond b (i ∷ freed k (suc i) ns) (freed k (suc i) ns))
      go true a = (freed_above (suc i) i ns (omega arith), a)
      go false a = a

  times_above : (j : ℕ) (l : List ℕ) → AllAbove j l → times j l ≡ 0
  times_above j [] a = refl
  times_above j (x ∷ l) a = omega (arith, one_other x j (λ e. let u : j < x = a.0 in omega arith), times_above j l a.1)

  freed_count : (i : ℕ) (ns : List NodeVal) (m : ℕ) → m < length ns → times (i + m) (freed k i ns) ≡ cond (goes k (nth ns m)) 1 0
  freed_count i [] m l = absurd (omega arith)
  freed_count i (v ∷ ns) zero l = go (goes k v)
    where
      z : i + 0 ≡ i
      z = omega arith

      none : times i (freed k (suc i) ns) ≡ 0
      none = times_above i (freed k (suc i) ns) (freed_above (suc i) i ns (omega arith))

      go : (b : Bool) → times (i + 0) (cond b (i ∷ freed k (suc i) ns) (freed k (suc i) ns)) ≡ cond b 1 0
      go true = ap (λ (q : ℕ). times q (i ∷ freed k (suc i) ns)) z ∙ omega (arith, one_same i i refl, none)
      go false = rw z none
  freed_count i (v ∷ ns) (suc m) l = ap (λ (q : ℕ). times q (freed k i (v ∷ ns))) z ∙ go (goes k v) ∙ freed_count (suc i) ns m (omega arith)
    where
      z : i + suc m ≡ suc i + m
      z = omega arith

      go : (b : Bool) → times (suc i + m) (cond b (i ∷ freed k (suc i) ns) (freed k (suc i) ns)) ≡ times (suc i + m) (freed k (suc i) ns)
      go true = omega (arith, one_other i (suc i + m) (λ e. omega arith))
      go false = refl

  freed_out : (i : ℕ) (ns : List NodeVal) (q : ℕ) → i + length ns ≤ q → times q (freed k i ns) ≡ 0
  freed_out i [] q l = refl
  freed_out i (v ∷ ns) q l = go (goes k v) (freed_out (suc i) ns q (omega arith))
    where
      go : (b : Bool) → times q (freed k (suc i) ns) ≡ 0 → times q (cond b (i ∷ freed k (suc i) ns) (freed k (suc i) ns)) ≡ 0
      go true z = omega (arith, one_other i q (λ e. omega arith))
      go false z = z

  pub freed_in : (ns : List NodeVal) (m : ℕ) → m < length ns → times m (freed k 0 ns) ≡ cond (goes k (nth ns m)) 1 0
  freed_in ns m l = let z : 0 + m ≡ m = omega arith in rw z at (freed_count 0 ns m l)

  pub freed_past : (ns : List NodeVal) (m : ℕ) → length ns ≤ m → times m (freed k 0 ns) ≡ 0
  freed_past ns m l = freed_out 0 ns m (omega arith)

  -- and its words
  chain_from : (p ns : List NodeVal) (i : ℕ) → length p ≡ i → All (Written (p ++ swept k i ns)) (chain_blocks (freed k i ns))
  chain_from p [] i e = tt
  chain_from p (v ∷ ns) i e = go (goes k v) (λ x. subst (λ (t : List NodeVal). All (Written t) (chain_blocks R)) (append_snoc p x S) (chain_from (p ++ (x ∷ [])) ns (suc i) (long p x i e)))
    where
      R : List ℕ
      R = freed k (suc i) ns

      S : List NodeVal
      S = swept k (suc i) ns

      long : (p : List NodeVal) (x : NodeVal) (i : ℕ) → length p ≡ i → length (p ++ (x ∷ [])) ≡ suc i
      long [] x i e = omega arith
      long (y ∷ p) x zero e = absurd (omega arith)
      long (y ∷ p) x (suc i) e = ap suc (long p x i (omega arith))

      go : (b : Bool) → ((x : NodeVal) → All (Written (p ++ x ∷ S)) (chain_blocks R)) → All (Written (p ++ cond b (free_val (first_or R)) v ∷ S)) (chain_blocks (cond b (i ∷ R) R))
      go true f = (get_or_at p (free_val (first_or R)) S blank i e, f (free_val (first_or R)))
      go false f = f v

  pub freed_chain : (ns : List NodeVal) → All (Written (swept k 0 ns)) (chain_blocks (freed k 0 ns))
  freed_chain ns = chain_from [] ns 0 refl

-- ---- in words

pub record SweptTo (k : ℕ) (w h : List ℕ) (ns : List NodeVal) (first free n : ℕ) : Type 0 where
  pub arena : Arena w h (sweeping k n ns)
  pub first_is : first ≡ first_or (found k n ns)
  pub many_is : free ≡ length (found k n ns)

pub to_begin : (k : ℕ) {w h : List ℕ} {ns : List NodeVal} (n : ℕ) → Arena w h ns → n ≡ length ns → SweptTo k w h ns none 0 n
to_begin k {w} {h} {ns} n a e =
    let b = sweep_begins k ns n e in
    record { arena = subst (Arena w h) b.0 a; first_is = sym (ap first_or b.1); many_is = sym (ap length b.1) }

sweeping_long : (k : ℕ) (ns : List NodeVal) (n : ℕ) → n ≤ length ns → length (sweeping k n ns) ≡ length ns
sweeping_long k ns n l = length-append (take n ns) (swept k n (drop n ns)) ∙ omega (arith, length-take-le n ns l, swept_long k n (drop n ns), length-drop n ns)

module _ {k : ℕ} {w h : List ℕ} {ns : List NodeVal} {first free n : ℕ} (S : SweptTo k w h ns first free n) (some : 1 ≤ n) (few : n ≤ length ns) where
  pub to_inside : n - 1 < length (sweeping k n ns)
  to_inside = omega (arith, sweeping_long k ns n few)

  pub to_stay : goes k (nth (sweeping k n ns) (n - 1)) ≡ false → SweptTo k w h ns first free (n - 1)
  to_stay = go n some few S.arena S.first_is S.many_is
    where
      go : (n : ℕ) → 1 ≤ n → n ≤ length ns → Arena w h (sweeping k n ns) → first ≡ first_or (found k n ns) → free ≡ length (found k n ns) → goes k (nth (sweeping k n ns) (n - 1)) ≡ false → SweptTo k w h ns first free (n - 1)
      go zero s l a f m g = absurd (omega arith)
      go (suc n) s l a f m g =
          let z : suc n - 1 ≡ n = omega arith in
          let t = turn_stays k ns n (omega arith) (ap (goes k) (sym (turn_node k ns n (omega arith))) ∙ ap (λ (j : ℕ). goes k (nth (sweeping k (suc n) ns) j)) (sym z) ∙ g) in
          subst (SweptTo k w h ns first free) (sym z) (record { arena = subst (Arena w h) t.0 a; first_is = f ∙ ap first_or t.1; many_is = m ∙ ap length t.1 })

  pub to_go : {w' : List ℕ} → goes k (nth (sweeping k n ns) (n - 1)) ≡ true → Arena w' h (set (sweeping k n ns) (n - 1) (free_val first)) → SweptTo k w' h ns (n - 1) (free + 1) (n - 1)
  to_go {w'} = go n some few S.first_is S.many_is
    where
      go : (n : ℕ) → 1 ≤ n → n ≤ length ns → first ≡ first_or (found k n ns) → free ≡ length (found k n ns) → goes k (nth (sweeping k n ns) (n - 1)) ≡ true → Arena w' h (set (sweeping k n ns) (n - 1) (free_val first)) → SweptTo k w' h ns (n - 1) (free + 1) (n - 1)
      go zero s l f m g a = absurd (omega arith)
      go (suc n) s l f m g a =
          let z : suc n - 1 ≡ n = omega arith in
          let t = turn_goes k ns n (omega arith) (ap (goes k) (sym (turn_node k ns n (omega arith))) ∙ ap (λ (j : ℕ). goes k (nth (sweeping k (suc n) ns) j)) (sym z) ∙ g) in
          let a' = subst (λ (j : ℕ). Arena w' h (set (sweeping k (suc n) ns) j (free_val first))) z a in
          let a'' = subst (λ (j : ℕ). Arena w' h (set (sweeping k (suc n) ns) n (free_val j))) f a' in
          subst (λ (j : ℕ). SweptTo k w' h ns j (free + 1) j) (sym z) (record { arena = subst (Arena w' h) t.0 a''; first_is = ap first_or t.1; many_is = omega (arith, m, ap length t.1) })

pub to_end : {k : ℕ} {w h : List ℕ} {ns : List NodeVal} {first free n : ℕ} → SweptTo k w h ns first free n → n ≡ 0 → Arena (set (set w first_free_word first) free_word free) (swept_head k h ns) (swept k 0 ns)
to_end {k} {w} {h} {ns} {first} {free} {n} S e =
    let a = subst (λ (j : ℕ). Arena w h (sweeping k j ns)) e S.arena in
    let f = S.first_is ∙ ap (λ (j : ℕ). first_or (found k j ns)) e in
    let m = S.many_is ∙ ap (λ (j : ℕ). length (found k j ns)) e in
    subst (λ (x : List ℕ). Arena (set (set w first_free_word first) free_word free) x (swept k 0 ns)) (ap₂ (λ (x y : ℕ). set (set h first_free_word x) free_word y) f m) (head_put (head_put a first_free_word first (lit< tt)) free_word free (lit< tt))

-- ---- the test

module _ {w h : List ℕ} {ns : List NodeVal} (a : Arena w h ns) (k n : ℕ) (o : n < length ns) where
  pub is_free : word_at w n state_word ≡ 0 → goes k (nth ns n) ≡ true
  unfolding goes
  is_free e = rw (sym (state_is a n o) ∙ e) refl

  not_free : (word_at w n state_word ≡ 0 → ⊥) → eqb (nth ns n).state 0 ≡ false
  not_free d = ne_eqb (nth ns n).state 0 (λ e. d (state_is a n o ∙ e))

  pub is_empty : (word_at w n state_word ≡ 0 → ⊥) → word_at w n length_word ≡ 0 → goes k (nth ns n) ≡ false
  unfolding goes
  is_empty d e = rw (not_free d) (go (nth ns n).pairs (sym (len_is a n o) ∙ e))
    where
      go : (ps : List Pair) → length ps ≡ 0 → reached k ps ≡ false
      go [] e = refl
      go (p ∷ ps) e = absurd (omega arith)

  pub is_other : (word_at w n state_word ≡ 0 → ⊥) → (word_at w n length_word ≡ 0 → ⊥) → goes k (nth ns n) ≡ leb k (word_at w n (keys_word + 0))
  unfolding goes
  is_other d e = rw (not_free d) (go (nth ns n).pairs (len_is a n o) (λ l. key_is a n o 0 l))
    where
      go : (ps : List Pair) → word_at w n length_word ≡ length ps → (0 < length ps → word_at w n (keys_word + 0) ≡ key_of (pair_at ps 0)) → reached k ps ≡ leb k (word_at w n (keys_word + 0))
      go [] l f = absurd (e l)
      go (p ∷ ps) l f = ap (leb k) (sym (f (omega arith)))
