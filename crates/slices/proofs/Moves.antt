-- What a word put in or taken out leaves, where the words after it are copied by one place.
-- Assumes nothing.
use Rattle.std.proofs.Common.{◌≡◌, refl, sym, ap, ◌∙◌, ℕ, zero, suc, ◌+◌, ◌-◌, ◌<◌, ◌≤◌, List, [], ◌∷◌, ◌++◌, length, take, drop, set, arith, get_or, append-nil, add-one, length-append, length-drop, drop-cons}
use lib.ListN.{drop_of_length-le}
use lib.Seq.{paste, paste-zero, take_all, set_at, length-take-le, drop-drop}
use Rattle.model.specs.Lists.{insert_at}
use Rattle.slices.specs.Words.{remove_at}
use Rattle.slices.proofs.Laws.{take_on}

set_last : (s t : List ℕ) (i v : ℕ) → i < length s → set (take (suc i) s ++ t) i v ≡ take i s ++ v ∷ t
set_last [] t i v h = absurd (omega arith)
set_last (x ∷ s) t zero v h = refl
set_last (x ∷ s) t (suc i) v h = ap (λ (l : List ℕ). x ∷ l) (set_last s t i v (omega arith))

-- the words from i on were copied up by one, and v was written at i
pub inserted_at : (s : List ℕ) (i v : ℕ) → i < length s → set (paste s (i + 1) (drop i s) (length s - 1 - i)) i v ≡ take (length s) (insert_at s i v)
unfolding insert_at
inserted_at s i v h =
    let m : ℕ = length s - 1 - i in
    let e : length s ≡ i + suc m = omega arith in
    let none : drop (i + 1 + m) s ≡ [] = drop_of_length-le s (omega arith) in
    ap (λ (l : List ℕ). set (take (i + 1) s ++ take m (drop i s) ++ l) i v) none
    ∙ ap (λ (l : List ℕ). set l i v) (append-nil (take (i + 1) s ++ take m (drop i s)))
    ∙ (ap (λ (k : ℕ). set (take k s ++ take m (drop i s)) i v) (add-one i) ∙ set_last s (take m (drop i s)) i v h)
    ∙ sym (ap (λ (k : ℕ). take k (take i s ++ v ∷ drop i s)) e ∙ take_on (take i s) (v ∷ drop i s) i (suc m) (length-take-le i s (omega arith)))

-- at the last place there is nothing to copy
pub inserted_last : (s : List ℕ) (i v : ℕ) → i < length s → length s - 1 ≤ i → set s i v ≡ take (length s) (insert_at s i v)
inserted_last s i v h g =
    let none : length s - 1 - i ≡ zero = omega arith in
    ap (λ (l : List ℕ). set l i v) (paste-zero s (i + 1) (drop i s) ∙ ap (λ (n : ℕ). paste s (i + 1) (drop i s) n) (sym none))
    ∙ inserted_at s i v h

-- the words after i were copied down by one, and the last one was cleared
pub removed_at : (s : List ℕ) (i : ℕ) → i < length s → set (paste s i (drop (i + 1) s) (length s - (i + 1))) (length s - 1) 0 ≡ remove_at s i ++ 0 ∷ []
unfolding remove_at
removed_at s i h =
    let n : ℕ = length s - (i + 1) in
    let z : ℕ = length s - 1 in
    let rest : take n (drop (i + 1) s) ≡ drop (i + 1) s = take_all n (drop (i + 1) s) (omega (arith, length-drop (i + 1) s)) in
    let end : drop (i + n) s ≡ get_or s z 0 ∷ [] =
    ap (λ (k : ℕ). drop k s) (let q : i + n ≡ z = omega arith in q)
    ∙ drop-cons s z 0 (omega arith)
    ∙ ap (λ (l : List ℕ). get_or s z 0 ∷ l) (drop_of_length-le s {i = suc z} (omega arith)) in
    ap (λ (l : List ℕ). set (take i s ++ l ++ drop (i + n) s) z 0) rest
    ∙ ap (λ (l : List ℕ). set (take i s ++ drop (i + 1) s ++ l) z 0) end
    ∙ set_at (take i s ++ drop (i + 1) s) (get_or s z 0) [] 0 z (length-append (take i s) (drop (i + 1) s) ∙ omega (arith, length-take-le i s (omega arith), length-drop (i + 1) s))
    ∙ ap (λ (l : List ℕ). take i s ++ l ++ 0 ∷ []) (sym (drop-drop 1 i s))
