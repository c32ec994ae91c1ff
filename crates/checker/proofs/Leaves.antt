-- A leaf that holds a pair or more: its keys rise strictly exactly when all its words for keys have as many ascents as it has keys, less one.
-- Assumes nothing.
use Rattle.std.proofs.Common.{ℕ, zero, suc, ◌+◌, ◌-◌, ◌≤◌, ◌<◌, sub-one, arith, ◌≡◌, refl, sym, ap, subst, ◌∙◌, List, [], ◌∷◌, length, length-append, Option, Some}
use Rattle.model.specs.Lists.{mix_to}
use Rattle.model.specs.declared.Layout.{Layout}
use Rattle.model.specs.Layout.{keys_word, Counts, total_word, word_at_by}
use Rattle.model.specs.WellFormed.{Reached, ZerosBy, length_at_by, key_at_by, reach_by, keys_in_by}
use Rattle.model.specs.Shape.{OwnBy, ShapeBy}
use Rattle.inspect.specs.Tests.{Above, ups, rise, steps}
use Rattle.inspect.proofs.Ups.{ups_few, ups_flat, rise_few, rise_is, rise_not}
use Rattle.inspect.proofs.Decisions.{apart}
use Rattle.checker.specs.declared.Walk.{Walk}
use Rattle.checker.specs.Walks.{Rises, last_of, Passes, Said, node_task}
use Rattle.checker.proofs.Order.{rises_left, rises_right, rises_both, last_append}
use Rattle.checker.proofs.Tasks.{walk_is}

-- ---- the first m numbers as a list

abbrev row : (ℕ → ℕ) → ℕ → List ℕ
row k = mix_to (λ i. []) k

row_long : (k : ℕ → ℕ) (m : ℕ) → length (row k m) ≡ m
row_long k zero = refl
row_long k (suc m) = omega (arith, length-append (row k m) (k m ∷ []), row_long k m)

row_last : (k : ℕ → ℕ) (l : Option ℕ) (m : ℕ) → last_of l (row k (suc m)) ≡ Some (k m)
unfolding last_of
row_last k l m = last_append l (row k m) (k m ∷ [])

rise_below : (x y : ℕ) → rise x y ≡ 1 → x < y
rise_below x y e = apart x y (λ l. l) (λ l. absurd (omega (arith, e, rise_not x y l)))

row_ups : (k : ℕ → ℕ) (l : Option ℕ) (m : ℕ) → Rises l (row k (suc m)) → Above l (k 0) × (ups k m ≡ m)
unfolding Rises ups
row_ups k l zero r = (r.0, refl)
row_ups k l (suc m) r =
    let a = row_ups k l m (rises_left l (row k (suc m)) (k (suc m) ∷ []) r) in
    let b : Rises (Some (k m)) (k (suc m) ∷ []) = subst (λ x. Rises x (k (suc m) ∷ [])) (row_last k l m) (rises_right l (row k (suc m)) (k (suc m) ∷ []) r) in
    (a.0, omega (arith, a.1, rise_is (k m) (k (suc m)) b.0))

ups_row : (k : ℕ → ℕ) (l : Option ℕ) (m : ℕ) → Above l (k 0) → ups k m ≡ m → Rises l (row k (suc m))
unfolding Rises ups
ups_row k l zero a e = (a, tt)
ups_row k l (suc m) a e =
    let f = rise_few (k m) (k (suc m)) in
    let g = ups_few k m in
    let b : ups k m ≡ m = omega arith in
    let c : k m < k (suc m) = rise_below (k m) (k (suc m)) (omega arith) in
    rises_both l (row k (suc m)) (k (suc m) ∷ []) (ups_row k l m a b) (subst (λ x. Rises x (k (suc m) ∷ [])) (sym (row_last k l m)) (c, tt))

-- ---- a leaf

-- what is tested of a leaf beside its own words
pub record Passed (fm : Layout) (w : List ℕ) (n : ℕ) (u : Walk) : Type 0 where
  pub pairs : length_at_by fm w n ≤ u.pairs
  pub above : Above u.last (key_at_by fm w n 0)
  pub ascents : ups (key_at_by fm w n) steps + 1 ≡ length_at_by fm w n
  pub told : Counts fm → word_at_by fm w n total_word ≡ length_at_by fm w n

module _ (fm : Layout) (w : List ℕ) (count fewest n p e : ℕ) (u : Walk) (some : 1 ≤ fewest) where
  abbrev leaf_at : ℕ → Reached
  leaf_at h = record { below = h; fewest = fewest; node = n; parent = p; place = e }

  ups_used : (m : ℕ) → length_at_by fm w n ≡ suc m → OwnBy fm w count (leaf_at 0) → ups (key_at_by fm w n) steps ≡ ups (key_at_by fm w n) m
  unfolding ZerosBy
  ups_used m q o = ups_flat (key_at_by fm w n) m steps (omega (arith, q, o.short)) (λ j l t. o.unused.keys_rest (keys_word + j) (omega (arith, q)) (omega arith))

  passed : (len : ℕ) → length_at_by fm w n ≡ len → OwnBy fm w count (leaf_at 0) → (Counts fm → word_at_by fm w n total_word ≡ length_at_by fm w n) → Rises u.last (row (key_at_by fm w n) len) → length (row (key_at_by fm w n) len) ≤ u.pairs → Passed fm w n u
  passed zero q o c r l = absurd (omega (arith, q, o.enough, some))
  passed (suc m) q o c r l =
      let a = row_ups (key_at_by fm w n) u.last m r in
      record { pairs = omega (arith, q, row_long (key_at_by fm w n) (suc m), l); above = a.0; ascents = omega (arith, a.1, q, ups_used m q o); told = c }

  pub leaf_passed : (h : ℕ) → h ≡ 0 → Passes (node_task fm w count (leaf_at h)) u → Passed fm w n u
  unfolding ShapeBy keys_in_by
  leaf_passed zero z q = passed (length_at_by fm w n) refl q.holds.0 (λ t. q.holds.1 t ∙ row_long (key_at_by fm w n) (length_at_by fm w n)) q.rises q.pairs
  leaf_passed (suc h) z q = absurd (omega arith)

  rises_at : (len : ℕ) → length_at_by fm w n ≡ len → OwnBy fm w count (leaf_at 0) → Passed fm w n u → Rises u.last (row (key_at_by fm w n) len)
  rises_at zero q o t = absurd (omega (arith, q, o.enough, some))
  rises_at (suc m) q o t = ups_row (key_at_by fm w n) u.last m t.above (omega (arith, q, ups_used m q o, t.ascents))

  last_at : (len : ℕ) → 1 ≤ len → last_of u.last (row (key_at_by fm w n) len) ≡ Some (key_at_by fm w n (len - 1))
  last_at zero l = absurd (omega arith)
  last_at (suc m) l = rw (sub-one (suc m)) (row_last (key_at_by fm w n) u.last m)

  pub leaf_good : (h len x : ℕ) → h ≡ 0 → len ≡ length_at_by fm w n → x ≡ key_at_by fm w n (len - 1) → 1 ≤ u.nodes → OwnBy fm w count (leaf_at h) → Passed fm w n u
      → Said (node_task fm w count (leaf_at h)) u (Some (record { nodes = u.nodes - 1; pairs = u.pairs - len; last = Some x }))
  unfolding ShapeBy reach_by keys_in_by
  leaf_good zero len x z d y s o t = (
    record { holds = (o, λ c. t.told c ∙ sym (row_long (key_at_by fm w n) (length_at_by fm w n))); rises = rises_at (length_at_by fm w n) refl o t; pairs = omega (arith, row_long (key_at_by fm w n) (length_at_by fm w n), t.pairs); nodes = omega (arith, s) },
    walk_is (omega arith) (omega (arith, d, row_long (key_at_by fm w n) (length_at_by fm w n))) (ap Some (y ∙ ap (λ i. key_at_by fm w n (i - 1)) d) ∙ sym (last_at (length_at_by fm w n) (omega (arith, some, o.enough)))),
  )
  leaf_good (suc h) len x z d y s o t = absurd (omega arith)
