-- Lists with zeros after them: what a word put in or taken out, a part cut off or laid in leaves.
-- Assumes nothing.
use Prim.Native.Nat.{ℕ, ◌+◌, ◌-◌, ◌≤◌, ◌<◌}
use mathlib.Core.Path.{◌≡◌, refl, sym, ap, ◌∙◌}
use mathlib.Core.List.{List, [], ◌∷◌, ◌++◌, append_assoc, append-nil}
use native.Mathlib.Omega.{arith}
use lib.ListN.{length, take, drop, get_or, set, replicate, length-append, length-replicate, length-drop, length-set, get_or-append, replicate-append-replicate, take-append-drop}
use lib.Seq.{set-append_left, take_all, length-take-le, take-append-le, drop-append-le, take_at, drop_at}
use Rattle.model.specs.Lists.{part, insert_at, pad}
use Rattle.slices.specs.Words.{splice, remove_at}
use Rattle.slices.proofs.Laws.{take_on, drop_on, insert_length, insert_append, remove_length, set_splice}

pub pad_length : (m : ℕ) (l : List ℕ) → length l ≤ m → length (pad m l) ≡ m
unfolding pad
pad_length m l h = simp (length-append, length-replicate) (omega arith)

pub pad_word : (m : ℕ) (l : List ℕ) (i : ℕ) → i < length l → get_or (pad m l) i 0 ≡ get_or l i 0
unfolding pad
pad_word m l i h = get_or-append l (replicate (m - length l) 0) 0 i h

-- some of the words in use
pub pad_part : (m : ℕ) (l : List ℕ) (i c : ℕ) → i + c ≤ length l → part (pad m l) i c ≡ part l i c
unfolding pad part
pad_part m l i c e =
    ap (λ (t : List ℕ). take c t) (drop-append-le i l (replicate (m - length l) 0) (omega arith))
    ∙ take-append-le c (drop i l) (replicate (m - length l) 0) (simp length-drop (omega arith))

-- those from i on
pub pad_rest : (m : ℕ) (l : List ℕ) (i c : ℕ) → i + c ≡ length l → part (pad m l) i c ≡ drop i l
unfolding part
pad_rest m l i c e = pad_part m l i c (omega arith) ∙ take_all c (drop i l) (simp length-drop (omega arith))

-- all of them
pub pad_all : (m : ℕ) (l : List ℕ) (n : ℕ) → n ≡ length l → part (pad m l) 0 n ≡ l
unfolding pad part
pad_all m l n e = take_at l (replicate (m - length l) 0) n (sym e)

-- all of them, and c words more
pad_more : (m : ℕ) (l : List ℕ) (n c : ℕ) → n ≡ length l + c → n ≤ m → part (pad m l) 0 n ≡ l ++ replicate c 0
unfolding pad part
pad_more m l n c e h =
    let z : m - length l ≡ c + (m - n) = omega arith in
    let go : (k : ℕ) → take (length l + c) (l ++ replicate (c + k) 0) ≡ l ++ replicate c 0 =
    λ k.
    rw (← replicate-append-replicate {A = ℕ} c k 0) (
    take_on l (replicate c 0 ++ replicate k 0) (length l) c refl
    ∙ ap (λ (t : List ℕ). l ++ t) (take_at (replicate c 0) (replicate k 0) c (length-replicate c 0))
    ) in
    ap (λ (t : ℕ). take n (l ++ replicate t 0)) z ∙ ap (λ (t : ℕ). take t (l ++ replicate (c + (m - n)) 0)) e ∙ go (m - n)

-- the words in use and c words more made to p, which is as long
pad_anew : (m : ℕ) (l p : List ℕ) (n c : ℕ) → n ≡ length l + c → length p ≡ n → n ≤ m → splice (pad m l) 0 n p ≡ pad m p
unfolding pad splice
pad_anew m l p n c e d h =
    let z : m - length l ≡ c + (m - n) = omega arith in
    let go : (k : ℕ) → drop (length l + c) (l ++ replicate (c + k) 0) ≡ replicate k 0 =
    λ k.
    rw (← replicate-append-replicate {A = ℕ} c k 0) (
    drop_on l (replicate c 0 ++ replicate k 0) (length l) c refl
    ∙ drop_at (replicate c 0) (replicate k 0) c (length-replicate c 0)
    ) in
    ap (λ (t : List ℕ). p ++ t) (
    ap (λ (t : ℕ). drop n (l ++ replicate t 0)) z
    ∙ ap (λ (t : ℕ). drop t (l ++ replicate (c + (m - n)) 0)) e
    ∙ go (m - n)
    ∙ ap (λ (t : ℕ). replicate (m - t) 0) (sym d)
    )

-- zeros at the end are words not in use
pad_zeros : (m : ℕ) (l : List ℕ) (c : ℕ) → length l + c ≤ m → pad m (l ++ replicate c 0) ≡ pad m l
unfolding pad
pad_zeros m l c h =
    let n : length (l ++ replicate c 0) ≡ length l + c = simp (length-append, length-replicate) refl in
    let z : c + (m - length (l ++ replicate c 0)) ≡ m - length l = omega arith in
    append_assoc l (replicate c 0) (replicate (m - length (l ++ replicate c 0)) 0)
    ∙ ap (λ (t : List ℕ). l ++ t) (replicate-append-replicate {A = ℕ} c (m - length (l ++ replicate c 0)) 0 ∙ ap (λ (t : ℕ). replicate t 0) z)

-- words laid over some of the words in use
pub pad_lay : (m : ℕ) (a z b q : List ℕ) (j c : ℕ) → length a ≡ j → length z ≡ c → length q ≡ c → splice (pad m (a ++ (z ++ b))) j c q ≡ pad m (a ++ (q ++ b))
unfolding pad splice
pad_lay m a z b q j c e d f =
    let k : m - length (a ++ (z ++ b)) ≡ m - length (a ++ (q ++ b)) = ap (λ (t : ℕ). m - t) (simp length-append (omega arith)) in
    let r : List ℕ = replicate (m - length (a ++ (z ++ b))) 0 in
    let g : (a ++ (z ++ b)) ++ r ≡ a ++ (z ++ (b ++ r)) = simp append_assoc in
    ap (λ (t : List ℕ). take j t ++ (q ++ drop c (drop j t))) g
    ∙ ap (λ (t : List ℕ). t ++ (q ++ drop c (drop j (a ++ (z ++ (b ++ r)))))) (take_at a (z ++ (b ++ r)) j e)
    ∙ ap (λ (t : List ℕ). a ++ (q ++ drop c t)) (drop_at a (z ++ (b ++ r)) j e)
    ∙ ap (λ (t : List ℕ). a ++ (q ++ t)) (drop_at z (b ++ r) c d)
    ∙ ap (λ (t : ℕ). a ++ (q ++ (b ++ replicate t 0))) k
    ∙ simp append_assoc

-- ---- what the moves in a column leave

pub pad_insert : (m : ℕ) (l : List ℕ) (i x n : ℕ) → n ≡ length l + 1 → n ≤ m → i ≤ length l → splice (pad m l) 0 n (take (length (part (pad m l) 0 n)) (insert_at (part (pad m l) 0 n) i x)) ≡ pad m (insert_at l i x)
pad_insert m l i x n e h o =
    let f : length (insert_at l i x) ≡ n = insert_length l i x o ∙ sym e in
    let g : length (l ++ (0 ∷ [])) ≡ n = length-append l (0 ∷ []) ∙ sym e in
    rw (pad_more m l n 1 e h, g, insert_append l (0 ∷ []) i x o, take_at (insert_at l i x) (0 ∷ []) n f) (pad_anew m l (insert_at l i x) n 1 e f h)

pub pad_set : (m : ℕ) (l : List ℕ) (i x : ℕ) → i < length l → splice (pad m l) i 1 (x ∷ []) ≡ pad m (set l i x)
unfolding pad
pad_set m l i x h =
    sym (set_splice (l ++ replicate (m - length l) 0) i x (rw length-append (omega arith)))
    ∙ set-append_left l (replicate (m - length l) 0) i x h
    ∙ ap (λ (t : ℕ). set l i x ++ replicate (m - t) 0) (sym (length-set l i x))

pub pad_remove : (m : ℕ) (l : List ℕ) (i n : ℕ) → n ≡ length l → n ≤ m → i < n → splice (pad m l) 0 n (remove_at (part (pad m l) 0 n) i ++ 0 ∷ []) ≡ pad m (remove_at l i)
pad_remove m l i n e h o =
    let f : length (remove_at l i) + 1 ≡ n = remove_length l i (omega arith) ∙ sym e in
    rw (pad_all m l n e) (
    pad_anew m l (remove_at l i ++ 0 ∷ []) n 0 (omega arith) (length-append (remove_at l i) (0 ∷ []) ∙ f) h
    ∙ pad_zeros m (remove_at l i) 1 (omega arith)
    )

pub pad_shl : (m : ℕ) (l : List ℕ) (d n : ℕ) → n ≡ length l → n ≤ m → d ≤ n → splice (pad m l) 0 n (drop d (part (pad m l) 0 n) ++ replicate d 0) ≡ pad m (drop d l)
pad_shl m l d n e h o =
    let f : length (drop d l) + d ≡ n = simp length-drop (omega arith) in
    rw (pad_all m l n e) (
    pad_anew m l (drop d l ++ replicate d 0) n 0 (omega arith) (simp (length-append, length-replicate) f) h
    ∙ pad_zeros m (drop d l) d (omega arith)
    )

pub pad_shr : (m : ℕ) (l : List ℕ) (d n : ℕ) → n ≡ length l + d → n ≤ m → splice (pad m l) 0 n (replicate d 0 ++ take (length (part (pad m l) 0 n) - d) (part (pad m l) 0 n)) ≡ pad m (replicate d 0 ++ l)
pad_shr m l d n e h =
    let g : length (l ++ replicate d 0) - d ≡ length l = simp (length-append, length-replicate) (omega arith) in
    let f : length (replicate d 0 ++ l) ≡ n = simp (length-append, length-replicate) (omega arith) in
    rw (pad_more m l n d e h, g, take_at l (replicate d 0) (length l) refl) (pad_anew m l (replicate d 0 ++ l) n d e f h)

-- the words from i on cleared
pub pad_cut : (m : ℕ) (l : List ℕ) (i c : ℕ) → i + c ≡ length l → length l ≤ m → splice (pad m l) i c (replicate c 0) ≡ pad m (take i l)
pad_cut m l i c e h =
    let a : length (take i l) ≡ i = length-take-le i l (omega arith) in
    let z : length (drop i l) ≡ c = simp length-drop (omega arith) in
    let s : l ≡ take i l ++ (drop i l ++ []) = sym (ap (λ (t : List ℕ). take i l ++ t) (append-nil (drop i l)) ∙ take-append-drop i l) in
    ap (λ (t : List ℕ). splice (pad m t) i c (replicate c 0)) s
    ∙ pad_lay m (take i l) (drop i l) [] (replicate c 0) i c a z (length-replicate c 0)
    ∙ ap (λ (t : List ℕ). pad m (take i l ++ t)) (append-nil (replicate c 0))
    ∙ pad_zeros m (take i l) c (omega arith)

-- the first c words cleared
pub pad_uncover : (m : ℕ) (l : List ℕ) (c : ℕ) → c ≤ length l → splice (pad m l) 0 c (replicate c 0) ≡ pad m (replicate c 0 ++ drop c l)
pad_uncover m l c h =
    ap (λ (t : List ℕ). splice (pad m t) 0 c (replicate c 0)) (sym (take-append-drop c l))
    ∙ pad_lay m [] (take c l) (drop c l) (replicate c 0) 0 c refl (length-take-le c l h) (length-replicate c 0)

-- words laid after those in use
pub pad_append : (m : ℕ) (l q : List ℕ) (j c : ℕ) → length l ≡ j → length q ≡ c → j + c ≤ m → splice (pad m l) j c q ≡ pad m (l ++ q)
pad_append m l q j c e d h =
    ap (λ (t : List ℕ). splice t j c q) (sym (pad_zeros m l c (omega arith)) ∙ ap (λ (t : List ℕ). pad m (l ++ t)) (sym (append-nil (replicate c 0))))
    ∙ pad_lay m l (replicate c 0) [] q j c e (length-replicate c 0) d
    ∙ ap (λ (t : List ℕ). pad m (l ++ t)) (append-nil q)
