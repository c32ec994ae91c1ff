-- The scan of a node's keys by halving: what is known of the keys that it has left, and what it finds.
-- Assumes nothing.
use Rattle.std.proofs.Common.{ℕ, zero, suc, ◌+◌, ◌-◌, ◌≤◌, ◌<◌, not-suc-le-zero, le_of_suc-le-suc, arith, ◌≡◌, refl, sym, ap, ◌∙◌, subst, List, [], ◌∷◌, length, get_or}
use Rattle.model.specs.Lists.{All, Rises}
use Rattle.model.specs.Range.{kv, edge}
use Rattle.search.specs.Results.{Among}
use Rattle.search.proofs.Indexes.{index_from, index_past, index_kv, index_edge, index_end}

-- ---- rising keys by places

all_get : (P : ℕ → Type 0) (ks : List ℕ) → All P ks → (j : ℕ) → j < length ks → P (get_or ks j 0)
all_get P [] a j l = absurd (not-suc-le-zero l)
all_get P (k ∷ ks) a zero l = a.0
all_get P (k ∷ ks) a (suc j) l = all_get P ks a.1 j (le_of_suc-le-suc l)

pub ascends_le : (ks : List ℕ) → Rises ks → (j m : ℕ) → j ≤ m → m < length ks → get_or ks j 0 ≤ get_or ks m 0
ascends_le [] a j m o l = absurd (not-suc-le-zero l)
ascends_le (k ∷ ks) a zero zero o l = omega arith
ascends_le (k ∷ ks) a zero (suc m) o l = let z : k < get_or ks m 0 = all_get (λ (x : ℕ). k < x) ks a.0 m (le_of_suc-le-suc l) in omega arith
ascends_le (k ∷ ks) a (suc j) zero o l = absurd (not-suc-le-zero o)
ascends_le (k ∷ ks) a (suc j) (suc m) o l = ascends_le ks a.1 j m (le_of_suc-le-suc o) (le_of_suc-le-suc l)

-- the scan passes smaller keys
pub index_skip : (key : ℕ) (ks : List ℕ) (s c : ℕ) → s + c ≤ length ks → ((j : ℕ) → s ≤ j → j < s + c → get_or ks j 0 < key) → index_from key ks s ≡ index_from key ks (s + c)
index_skip key ks s zero l b = ap (index_from key ks) (let z : s ≡ s + 0 = omega arith in z)
index_skip key ks s (suc c) l b =
    index_skip key ks s c (omega arith) (λ j o u. b j o (omega arith))
    ∙ (index_past key ks (s + c) (omega arith) (b (s + c) (omega arith) (omega arith))
    ∙ ap (index_from key ks) (let z : s + c + 1 ≡ s + suc c = omega arith in z))

-- ---- the halving

-- k: any key, as long as none was met that is not smaller than the key sought; else one that is not, at the end e of what is left, or the last of that
pub data Upper (key : ℕ) (ks : List ℕ) (s e k : ℕ) : Type 0 where
  some : e ≡ length ks → (j : ℕ) → s ≤ j → j < length ks → k ≡ get_or ks j 0 → Upper key ks s e k
  reached : (q : ℕ) → s ≤ q → q < length ks → q ≤ e → e ≤ q + 1 → key ≤ k → k ≡ get_or ks q 0 → Upper key ks s e k

-- from the place s on: the keys before i are smaller than the key sought, and `size` keys are left
pub record Halved (key : ℕ) (ks : List ℕ) (s i size k : ℕ) : Type 0 where
  pub rise : Rises ks
  pub inside : s < length ks
  pub from : s ≤ i
  pub within : i + size ≤ length ks
  pub below : (j : ℕ) → s ≤ j → j < i → get_or ks j 0 < key
  pub upper : Upper key ks s (i + size) k

pub halved_start : (key : ℕ) (ks : List ℕ) (s size k : ℕ) → Rises ks → Among k s ks → s + size ≡ length ks → Halved key ks s s size k
halved_start key ks s size k a m e = record { rise = a; inside = omega (arith, m.from, m.inside); from = omega arith; within = omega arith; below = λ j o u. absurd (omega arith); upper = some e m.place m.from m.inside m.is }

module _ {key : ℕ} {ks : List ℕ} {s i size k : ℕ} (h : Halved key ks s i size k) (m : ℕ) where
  -- a smaller key at the place m: the next one is at i'
  pub halved_right : (i' size' : ℕ) → i ≤ m → m < i + size → get_or ks m 0 < key → i' ≡ m + 1 → i' + size' ≡ i + size → Halved key ks s i' size' k
  halved_right i' size' o l u p q =
      let f = h.from in
      let w = h.within in
      record {
        rise = h.rise;
        inside = h.inside;
        from = omega arith;
        within = omega arith;
        below = λ j o' l'. let z = ascends_le ks h.rise j m (omega arith) (omega arith) in omega arith;
        upper = subst (λ (e : ℕ). Upper key ks s e k) (sym q) h.upper;
      }

  -- one that is not smaller
  pub halved_left : (size' : ℕ) → i ≤ m → m < i + size → key ≤ get_or ks m 0 → i + size' ≤ m + 1 → m ≤ i + size' → Halved key ks s i size' (get_or ks m 0)
  halved_left size' o l u p q =
      let w = h.within in
      record {
        rise = h.rise;
        inside = h.inside;
        from = h.from;
        within = omega arith;
        below = h.below;
        upper = reached m (omega (arith, h.from)) (omega arith) q p u refl;
      }

-- at the end
module _ {key : ℕ} {ks : List ℕ} {s i k : ℕ} (h : Halved key ks s i 0 k) where
  here : index_from key ks s ≡ index_from key ks i
  here =
      let f = h.from in
      let w = h.within in
      let c : s + (i - s) ≡ i = omega arith in
      subst (λ (j : ℕ). index_from key ks s ≡ index_from key ks j) c (index_skip key ks s (i - s) (omega arith) (λ j o l. h.below j o (omega arith)))

  pub halved_kv : k ≡ key → index_from key ks s ≡ kv i
  halved_kv e = go h.upper
    where
      go : Upper key ks s (i + 0) k → index_from key ks s ≡ kv i
      go (some p j o l q) = let z = h.below j o (omega arith) in absurd (omega arith)
      go (reached q b l o p u v) =
          let g : q < i → ⊥ = λ m. let y = h.below q b m in omega arith in
          let y : q ≡ i = omega (arith, g) in
          here ∙ index_kv key ks i (omega arith) (sym e ∙ (v ∙ ap (λ (j : ℕ). get_or ks j 0) y))

  pub halved_edge : (k ≡ key → ⊥) → index_from key ks s ≡ edge i
  halved_edge e = go h.upper
    where
      go : Upper key ks s (i + 0) k → index_from key ks s ≡ edge i
      go (some p j o l q) = here ∙ index_end key ks i (omega arith)
      go (reached q b l o p u v) =
          let g : q < i → ⊥ = λ m. let y = h.below q b m in omega arith in
          let y : q ≡ i = omega (arith, g) in
          let d : k ≡ get_or ks i 0 = v ∙ ap (λ (j : ℕ). get_or ks j 0) y in
          here ∙ index_edge key ks i (omega arith) (omega (arith, u, e, d))

-- one or two keys left, looked at at once: the first, else the last, else none
module _ {key : ℕ} {ks : List ℕ} {s i size k : ℕ} (h : Halved key ks s i size k) (left : 0 < size) (few : size ≤ 2) where
  pub ends_first : key ≤ get_or ks i 0 → Halved key ks s i 0 (get_or ks i 0)
  ends_first u = halved_left h i 0 (omega arith) (omega arith) u (omega arith) (omega arith)

  pub ends_last : get_or ks i 0 < key → key ≤ get_or ks (i + size - 1) 0 → Halved key ks s (i + size - 1) 0 (get_or ks (i + size - 1) 0)
  ends_last u v =
      let one : size ≡ 1 → ⊥ = λ e. let z : i + size - 1 ≡ i = omega arith in let y = ap (λ (j : ℕ). get_or ks j 0) z in omega arith in
      halved_left (halved_right h i (i + size - 1) 1 (omega arith) (omega arith) u (omega (arith, one)) (omega (arith, one))) (i + size - 1) 0 (omega arith) (omega (arith, one)) v (omega arith) (omega arith)

  pub ends_past : get_or ks (i + size - 1) 0 < key → Halved key ks s (i + size) 0 k
  ends_past u = halved_right h (i + size - 1) (i + size) 0 (omega arith) (omega arith) u (omega arith) (omega arith)
