-- Laws of the words that the tests read: zeros one more, the chain by its first node, leaf or internal.
-- Assumes nothing.
use Rattle.std.proofs.Common.{ℕ, zero, suc, ◌+◌, ◌-◌, ◌≤◌, ◌<◌, sub-one, arith, ◌≡◌, refl, List, [], ◌∷◌, ◌↔◌, fold, take, drop, length, length-take, get_or-take, get_or-drop, sym, ap, ◌∙◌, get_or, bit_or}
use lib.Bits.{or_add_and, and_le_l, and_le_r}
use Rattle.model.specs.declared.Layout.{Layout}
use Rattle.model.specs.Layout.{none, most, base_by, word_at_by, parent_word, keys_word, values_word}
use Rattle.model.specs.WellFormed.{ZerosBy}
use Rattle.model.specs.Shape.{OwnFreeBy, ChainBy}
use Rattle.inspect.specs.Tests.{RestZeroBy}

pub or_left : (x y : ℕ) → bit_or x y ≡ 0 → x ≡ 0
or_left x y e = omega (arith, e, or_add_and x y, and_le_r x y)

pub or_right : (x y : ℕ) → bit_or x y ≡ 0 → y ≡ 0
or_right x y e = omega (arith, e, or_add_and x y, and_le_l x y)

pub or_both : (x y : ℕ) → x ≡ 0 → y ≡ 0 → bit_or x y ≡ 0
or_both x y e f = rw (e, f) refl

-- all words ored: 0 exactly when each is 0
fold_zero : (xs : List ℕ) (z : ℕ) → fold bit_or z xs ≡ 0 → (z ≡ 0) × ((k : ℕ) → get_or xs k 0 ≡ 0)
fold_zero [] z e = (e, λ k. refl)
fold_zero (x ∷ xs) z e =
    let h = fold_zero xs (bit_or z x) e in (
      or_left z x h.0,
      elim [
        | zero ↦ or_right z x h.0
        | suc k ↦ h.1 k
      ],
    )

zero_fold : (xs : List ℕ) (z : ℕ) → z ≡ 0 → ((k : ℕ) → k < length xs → get_or xs k 0 ≡ 0) → fold bit_or z xs ≡ 0
zero_fold [] z e h = e
zero_fold (x ∷ xs) z e h = zero_fold xs (bit_or z x) (or_both z x e (h 0 (omega arith))) (λ k l. h (suc k) (omega arith))

module _ (fm : Layout) {b r : ℕ} (w : List ℕ) (n f t : ℕ) (at : b ≡ base_by fm n) (all : r ≡ fold bit_or 0 (take (b + t - (b + f)) (drop (b + f) w))) where
  word_is : (j : ℕ) → f + j < t → get_or (take (b + t - (b + f)) (drop (b + f) w)) j 0 ≡ word_at_by fm w n (f + j)
  unfolding word_at_by
  word_is j u =
      let d : b + f + j ≡ base_by fm n + (f + j) = omega (arith, at) in
      get_or-take (b + t - (b + f)) (drop (b + f) w) j 0 (omega arith) ∙ get_or-drop (b + f) w j 0 ∙ ap (λ (i : ℕ). get_or w i 0) d

  pub ored_zeros : r ≡ 0 → ZerosBy fm w n f t
  unfolding ZerosBy
  ored_zeros e k l u = let d : f + (k - f) ≡ k = omega arith in rw d at (sym (word_is (k - f) (omega arith)) ∙ (fold_zero _ 0 (sym all ∙ e)).1 (k - f))

  pub zeros_ored : ZerosBy fm w n f t → r ≡ 0
  unfolding ZerosBy
  zeros_ored z =
      let long = length-take (b + t - (b + f)) (drop (b + f) w) in
      all ∙ zero_fold _ 0 refl (λ (j : ℕ) l. let m : f + j < t = omega (arith, l, long) in word_is j m ∙ z (f + j) (omega arith) m)

module _ (fm : Layout) (w : List ℕ) (count : ℕ) where
  pub chain_out : (c x : ℕ) → 0 < c → ChainBy fm w count c x → OwnFreeBy fm w count x × ChainBy fm w count (c - 1) (word_at_by fm w x parent_word)
  unfolding ChainBy
  chain_out zero x l h = absurd (omega arith)
  chain_out (suc c) x l h = rw (sub-one (suc c)) h

  pub chain_in : (c x : ℕ) → 0 < c → OwnFreeBy fm w count x → ChainBy fm w count (c - 1) (word_at_by fm w x parent_word) → ChainBy fm w count c x
  unfolding ChainBy
  chain_in zero x l o h = absurd (omega arith)
  chain_in (suc c) x l o h = (o, rw (sub-one (suc c)) at h)

  pub chain_done : (c x : ℕ) → c ≡ 0 → ChainBy fm w count c x → x ≡ none
  unfolding ChainBy
  chain_done zero x z h = h
  chain_done (suc c) x z h = absurd (omega arith)

  pub done_chain : (c x : ℕ) → c ≡ 0 → x ≡ none → ChainBy fm w count c x
  unfolding ChainBy
  done_chain zero x z e = e
  done_chain (suc c) x z e = absurd (omega arith)

  -- one node more
  pub chain_next : (free k x y : ℕ) → k < free → y ≡ word_at_by fm w x parent_word → OwnFreeBy fm w count x → ChainBy fm w count (free - k) x ↔ ChainBy fm w count (free - (k + 1)) y
  chain_next free k x y l e o =
      let z : free - (k + 1) ≡ free - k - 1 = omega arith in
      (λ h. rw (e, z) (chain_out (free - k) x (omega arith) h).1, λ h. chain_in (free - k) x (omega arith) o (rw (e, z) at h))

-- ---- the words for pairs that are not in use

-- the words for the pairs from f up to t are 0
abbrev pub Bare : List ℕ → ℕ → ℕ → ℕ → Type 0
Bare w b f t = (i : ℕ) → f ≤ i → i < t → (get_or w (b + (keys_word + i)) 0 ≡ 0) × (get_or w (b + (values_word + i)) 0 ≡ 0)

pub rest_bare : (fm : Layout) {b : ℕ} (w : List ℕ) (n m : ℕ) → b ≡ base_by fm n → RestZeroBy fm w n m → Bare w b m most
unfolding ZerosBy word_at_by
rest_bare fm w n m e z i l u = rw e (z.keys (keys_word + i) (omega arith) (omega arith), z.values (values_word + i) (omega arith) (omega arith))

pub bare_rest : (fm : Layout) {b : ℕ} (w : List ℕ) (n m : ℕ) → b ≡ base_by fm n → Bare w b m most → RestZeroBy fm w n m
unfolding ZerosBy word_at_by
bare_rest fm w n m e z = record {
  keys = λ k l u. let d : keys_word + (k - keys_word) ≡ k = omega arith in rw (e, d) at (z (k - keys_word) (omega arith) (omega arith)).0;
  values = λ k l u. let d : values_word + (k - values_word) ≡ k = omega arith in rw (e, d) at (z (k - values_word) (omega arith) (omega arith)).1;
}
