-- `totals::due_of` meets its contract.
-- Assumes nothing.
use mathlib.Core.List.{List}
use Prim.Native.Nat.{ℕ, ◌+◌, ◌≤◌}
use native.Mathlib.Omega.{arith}
use mathlib.Core.Path.{◌≡◌, refl}
use Rattle.balance.specs.Moves.{Shaped, edges_with}
use Rattle.balance.proofs.Shapes.{edges_here}
use Rattle.model.specs.Layout.{NodeVal, Arena, word_at, length_word, state_word, most}
use Rattle.node.specs.Reading.{Within}
use Rattle.node.proofs.Reading.{within, len_is}
use Rattle.store.specs.Links.{LinkReady}
use Rattle.totals.proofs.due_of.Goals as goal

here : {w h : List ℕ} {ns : List NodeVal} {n : ℕ} → Arena w h ns → Shaped ns n → Within w n × (word_at w n length_word ≤ most)
here {n = n} a s = (within a n s.node, omega (arith, len_is a n s.node, (a.small n s.node).pairs_fit))

linked : {w h : List ℕ} {ns : List NodeVal} {n : ℕ} → Arena w h ns → (s : Shaped ns n) → (m : ℕ) → m ≡ edges_with (word_at w n state_word) (word_at w n length_word + 1) → LinkReady ns n m
linked {n = n} a s m e = record { node = s.node; count = edges_here s a _ m refl e; lead = s.lead }

pub edge_count-end-requires : goal.edge_count-end-requires
edge_count-end-requires c = let p = c.requires in here p.arena p.holds.0

pub tally-requires : goal.tally-requires
tally-requires c =
    let p = c.requires in
    record { head = p.head; nodes = p.nodes; arena = p.arena; holds = (linked p.arena p.holds.0 _ c.edge_count-end.ensures, p.holds.1) }

pub returns : goal.returns
returns c = λ h ns s a. c.tally.ensures h ns (linked a s _ c.edge_count-end.ensures) a
