-- The two lists of a cut are what the plain list says.
-- Assumes nothing.
use Prim.Native.Nat.{ℕ, ◌+◌}
use mathlib.Core.Path.{◌≡◌, refl, ap, ap₂, ◌∙◌, sym}
use mathlib.Core.List.{List, [], ◌∷◌, ◌++◌}
use lib.ListN.{length, length-append}
use borrow.Author.Tests.{le-leb, lt-leb}
use Rattle.model.specs.Tree.{Pair}
use Rattle.model.specs.Map.{Below}
use Rattle.model.specs.State.{State, list}
use Rattle.model.specs.Sound.{Sound}
use Rattle.model.specs.Parting.{cut_off, part_off}
use Rattle.model.specs.Plain.{lower, upper}
use Rattle.model.specs.Merge.{merge}
use Rattle.loading.proofs.Parting.{AtLeast}
use Rattle.loading.proofs.Cuts.{cut_both, cut_below, part_above}
use Rattle.loading.proofs.Merging.{merge_parted}

module _ (k : ℕ) where
  lower_none : (b : List Pair) → AtLeast k b → lower k b ≡ []
  lower_none [] h = refl
  lower_none (p ∷ b) h = rw (le-leb k p.key h.0) (lower_none b h.1)

  lower_parts : (a b : List Pair) → Below k a → AtLeast k b → lower k (a ++ b) ≡ a
  lower_parts [] b ha hb = lower_none b hb
  lower_parts (p ∷ a) b ha hb = rw (lt-leb k p.key ha.0) (ap (λ (l : List Pair). p ∷ l) (lower_parts a b ha.1 hb))

  upper_all : (b : List Pair) → AtLeast k b → upper k b ≡ b
  upper_all [] h = refl
  upper_all (p ∷ b) h = rw (le-leb k p.key h.0) (ap (λ (l : List Pair). p ∷ l) (upper_all b h.1))

  upper_parts : (a b : List Pair) → Below k a → AtLeast k b → upper k (a ++ b) ≡ b
  upper_parts [] b ha hb = upper_all b hb
  upper_parts (p ∷ a) b ha hb = rw (lt-leb k p.key ha.0) (upper_parts a b ha.1 hb)

module _ (k : ℕ) (s : State) (o : Sound s) where
  pub cut_lower : list (cut_off k s) ≡ lower k (list s)
  cut_lower = sym (ap (lower k) (sym (cut_both k s o)) ∙ lower_parts k (list (cut_off k s)) (part_off k s) (cut_below k s o) (part_above k s o))

  pub part_upper : part_off k s ≡ upper k (list s)
  part_upper = sym (ap (upper k) (sym (cut_both k s o)) ∙ upper_parts k (list (cut_off k s)) (part_off k s) (cut_below k s o) (part_above k s o))

  -- joined again
  pub parts_merge : merge (lower k (list s)) (upper k (list s)) ≡ list s
  parts_merge = ap₂ merge (sym cut_lower) (sym part_upper) ∙ (merge_parted k (list (cut_off k s)) (part_off k s) (cut_below k s o) (part_above k s o) ∙ cut_both k s o)

  pub parts_length : length (lower k (list s)) + length (upper k (list s)) ≡ length (list s)
  parts_length = ap₂ (λ (a b : List Pair). length a + length b) (sym cut_lower) (sym part_upper) ∙ (sym (length-append (list (cut_off k s)) (part_off k s)) ∙ ap length (cut_both k s o))
