-- The whole arena: what the tests found makes it well-formed, and a well-formed one passes them.
-- Assumes nothing.
use Rattle.std.proofs.Common.{None, ℕ, arith, ◌≡◌, ap, subst, sym, Bool, true, List}
use Rattle.model.specs.declared.Layout.{Layout}
use Rattle.model.specs.Layout.{header, seen_word, mark_word}
use Rattle.model.specs.WellFormed.{WellFormedBy, WellFormed, keys_by}
use Rattle.model.specs.Promise.{Holds}
use Rattle.model.proofs.Parts.{of_parts, parts_of, counted}
use Rattle.model.proofs.Bounds.{low}
use Rattle.model.proofs.Forward.{forward}
use Rattle.model.proofs.Decode.{state_of}
use Rattle.inspect.specs.Tests.{Decides, Marked}
use Rattle.inspect.proofs.Decisions.{decided}
use Rattle.checker.specs.declared.Walk.{Walk}
use Rattle.checker.specs.Walks.{Passes, after}
use Rattle.checker.specs.Whole.{HeadingBy, tree, start, FinishedBy}
use Rattle.checker.proofs.Order.{rises_rising, rising_rises, marks_of, of_marks}

module _ {fm : Layout} {w : List ℕ} where
  pub formed : HeadingBy fm w → Passes (tree fm w) (start w) → (v : Walk) → v ≡ after (start w) (tree fm w) → FinishedBy fm w v → WellFormedBy fm w
  formed h p v e f =
      let n = ap (λ (u : Walk). u.nodes) e in
      let k = ap (λ (u : Walk). u.pairs) e in
      of_parts (record {
        format = h.format;
        sized = h.sized;
        offset = h.offset;
        tree = p.holds;
        free = f.free;
        rising = rises_rising None (keys_by fm w) p.rises;
        pairs_true = omega (arith, k, f.pairs, p.pairs);
        nodes_true = omega (arith, n, f.nodes, p.nodes, h.few_free);
        marks = marks_of (header w seen_word) (header w mark_word) (keys_by fm w) p.rises (subst (λ (u : Walk). Marked (header w seen_word) (header w mark_word) u.last) e f.marked);
      })

  module _ (f : WellFormedBy fm w) where
    pub formed_heading : HeadingBy fm w
    formed_heading = record { format = f.format; sized = f.sized; offset = f.offset; low = low f; few_free = omega (arith, counted f) }

    pub formed_passes : Passes (tree fm w) (start w)
    formed_passes = record { holds = (parts_of f).tree; rises = rising_rises (keys_by fm w) f.rising; pairs = omega (arith, f.pairs_true); nodes = omega (arith, counted f) }

    pub formed_finished : (v : Walk) → v ≡ after (start w) (tree fm w) → FinishedBy fm w v
    formed_finished v e =
        let n = ap (λ (u : Walk). u.nodes) e in
        let k = ap (λ (u : Walk). u.pairs) e in
        record {
          nodes = omega (arith, n, counted f);
          pairs = omega (arith, k, f.pairs_true);
          free = (parts_of f).free;
          marked = subst (λ (u : Walk). Marked (header w seen_word) (header w mark_word) u.last) (sym e) (of_marks (header w seen_word) (header w mark_word) (keys_by fm w) (parts_of f).marks);
        }

-- ---- what a caller has from a good check: the state that the words say, sound, and that they are its words

pub given : (b : Bool) {w : List ℕ} → Decides b (WellFormed w) → b ≡ true → Holds w (state_of w)
given b {w} d e = forward w (decided b d e)
