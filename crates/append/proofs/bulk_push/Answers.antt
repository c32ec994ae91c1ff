-- `append::bulk_push` meets its contract: so many pairs of the run are pushed.
-- Assumes nothing.
use Rattle.std.proofs.Common.{[], ℕ, List, ◌+◌, ◌/◌, ◌≤◌, ◌≡◌, sym, ◌∙◌, length, take, get_or, arith}
use mathlib.Core.Path.{subst}
use lib.Seq.{take_all}
use Rattle.std.specs.Simd.{first_chunks}
use Rattle.standing.specs.Heads.{Rest}
use Rattle.model.specs.Load.{Loading, push, push_all, begun, pairs_of}
use Rattle.model.specs.Layout.{header, root_word}
use Rattle.node.specs.Reading.{pair_of}
use Rattle.appending.specs.Pushes.{LoadIn, last_long}
use Rattle.appending.specs.Runs.{Begun}
use Rattle.appending.proofs.Runs.{pair_at, turn_is, turn_room, load_long}
use Rattle.appending.proofs.Sides.{last}
use Rattle.append.proofs.Chunks.{chunk_pair}
use Rattle.append.proofs.bulk_push.Goals as goal
use Rattle.append.proofs.bulk_push.Goals.{In-loop-key}

pub root-requires : goal.root-requires
root-requires c = omega (arith, load_long c.requires.begins.load)

-- a pair more is there
inside : (c : In-loop-key) → let i = c.loop-key.key-index in i + i + 2 ≤ length c.args.run.now
inside c =
    let n : length c.as_chunks.result.0.now ≡ length c.args.run.now / 2 = c.as_chunks.ensures.front_len in
    omega (arith, c.loop-key-test.true)

here : (c : In-loop-key) → let x = get_or c.as_chunks.result.0.now c.loop-key.key-index [] in pair_of (get_or x 0 0, get_or x 1 0) ≡ pair_at c.args.run.now (c.loop-key.key-index + c.loop-key.key-index)
here c =
    let run = c.args.run.now in
    let e : c.as_chunks.result.0.now ≡ first_chunks 2 (length run / 2) run = c.as_chunks.ensures.front in
    let n : length c.as_chunks.result.0.now ≡ length c.args.run.now / 2 = c.as_chunks.ensures.front_len in
    rw e (chunk_pair (length run / 2) c.loop-key.key-index run [] (omega (arith, c.loop-key-test.true)) (omega arith))

pub push_on-last-requires : goal.push_on-last-requires
push_on-last-requires c =
    let q = c.requires in
    let i = c.loop-key.key-index in
    let k = (goal.at.push_on-last-requires c).In-loop-key in
    let o = c.loop-key.invariant.1 q.rest q.begins in
    rw (here k) (record { rest = q.rest; so_far = push_all (pairs_of (take (i + i) c.args.run.now)) begun; load = o; room = turn_room q.rest.size _ i q.begins.room (inside k) }, c.loop-key.invariant.0 ∙ sym (last o).long)

-- two words more are a pair more
more : (i : ℕ) → i + i + 2 ≡ (i + 1) + (i + 1)
more i = omega arith

pub loop-key-preserved : goal.loop-key-preserved
loop-key-preserved c =
    let i = c.loop-key.key-index in
    let q = c.requires in
    let n = c.push_on-last in
    let k = (goal.at.loop-key-preserved c).In-loop-key in
    let run = c.args.run.now in
    let e : (g : Rest) → Begun c.args.a.now g (header c.args.a.now root_word) run → push (pair_at run (i + i)) (push_all (pairs_of (take (i + i) run)) begun) ≡ push_all (pairs_of (take ((i + 1) + (i + 1)) run)) begun = λ g b. rw more at (turn_is g.size run i b.room (inside k)) in
    let o = λ (g : Rest) (b : Begun c.args.a.now g (header c.args.a.now root_word) run). rw (here k) at (n.ensures g _ (c.loop-key.invariant.1 g b) (rw (here k) (turn_room g.size run i b.room (inside k)))) in (
      subst (λ (t : Loading). n.result.count ≡ last_long t.way) (e q.rest q.begins) (o q.rest q.begins).1,
      λ g b. subst (λ (t : Loading). LoadIn n.new.a g n.result.leaf.0 t) (e g b) (o g b).0,
    )

pub returns : goal.returns
returns c =
    λ g b.
    let l = c.loop-key in
    let n : length c.as_chunks.result.0.now ≡ length c.args.run.now / 2 = c.as_chunks.ensures.front_len in
    record { leaf = l.last.leaf.0; load = subst (λ (q : List ℕ). LoadIn l.a g l.last.leaf.0 (push_all (pairs_of q) begun)) (take_all (l.key-index + l.key-index) _ (omega (arith, c.loop-key-test.false, c.requires.even.is))) (l.invariant.1 g b) }
