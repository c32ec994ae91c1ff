use Rattle.std.proofs.Common.{◌≡◌, length, sym, ap, ◌∙◌}
use Rattle.model.specs.declared.SearchBound.{SearchBound}
use Rattle.model.specs.Tree.{before}
use Rattle.model.specs.Range.{beyond}
use Rattle.model.proofs.Decode.{state_of}
use Rattle.model.proofs.Forward.{forward}
use Rattle.ranks.proofs.Told.{edge_of, count_told}
use Rattle.ranks.proofs.count.Goals as goal

pub returns : goal.returns
returns c =
    let o = forward _ c.in_ok-check.ensures.ok in
    let x = c.args in
    let h : c.passed-high.result ≡ length (before (edge_of (beyond x.range.end) (state_of x.a.now))) = c.passed-high.ensures _ o ∙ ap (λ (b : SearchBound). length (before (edge_of b (state_of x.a.now)))) c.beyond.ensures in
    count_told o x.range c.passed-low.result c.passed-high.result _ (sym c.bad_range.ensures ∙ c.if-bad_range.false) (c.passed-low.ensures _ o) h c.saturating_sub.ensures
