-- `internal::push_internal_level` meets its contract: a node is taken above the old root, the header is written.
-- Assumes nothing.
use Prim.Native.Nat.{ℕ, ◌+◌}
use mathlib.Core.Path.{◌≡◌, ◌∙◌}
use mathlib.Core.List.{List}
use native.Mathlib.Omega.{arith}
use lib.Dec.{lit<}
use Rattle.model.specs.Layout.{root_word, height_word, NodeVal}
use Rattle.model.specs.Nodes.{taken}
use Rattle.store.proofs.Chain.{head_put}
use Rattle.internal.specs.Inner.{PushReady, CrownReady, root_of, height_of}
use Rattle.internal.proofs.Stages.{push_here}
use Rattle.internal.proofs.push_internal_level.Goals as goal

-- the old root can have a node above it
ready : {h : List ℕ} {ns : List NodeVal} {free : List ℕ} (q : PushReady h ns free) (n : ℕ) → n ≡ root_of h → CrownReady h ns free n
ready q n e = record { take = q.take; node = rw e q.root }

pub root-old-requires : goal.root-old-requires
root-old-requires c = let p = c.requires in (push_here p.holds.1 p.arena).0

pub height-height-requires : goal.height-height-requires
height-height-requires c = let p = c.requires in (push_here p.holds.1 p.arena).0

pub overflow_add-height : goal.overflow_add-height
overflow_add-height c =
    let k = push_here c.requires.holds.1 c.requires.arena in
    omega (arith, c.requires.holds.1.height)

pub new_internal-top-requires : goal.new_internal-top-requires
new_internal-top-requires c =
    let p = c.requires in
    record { head = p.head; nodes = p.nodes; arena = p.arena; holds = (p.holds.0, ready p.holds.1 _ (c.root-old.ensures ∙ (push_here p.holds.1 p.arena).2)) }

pub set_root-requires : goal.set_root-requires
set_root-requires c =
    let p = c.requires in
    let k = push_here p.holds.1 p.arena in
    omega arith

pub returns : goal.returns
returns c =
    λ h ns free q a.
    let k = push_here q a in
    let e = c.root-old.ensures ∙ k.2 in
    let l = c.new_internal-top.ensures h ns free (ready q _ e) a in
    let m = rw e at l.1 in
    (l.0, rw (c.set_root.ensures, l.0, c.height-height.ensures ∙ k.3) (head_put (head_put m root_word (taken free) (lit< tt)) height_word (height_of h + 1) (lit< tt)))
