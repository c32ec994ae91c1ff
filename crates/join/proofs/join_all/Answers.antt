use Rattle.std.proofs.Common.{◌*◌, ◌-◌, ◌≤◌, ◌<◌, arith, ◌≡◌, refl, sym, ap, ap₂, ◌∙◌, subst, List, [], length, take}
use Rattle.model.specs.Lists.{All}
use Rattle.model.specs.Tree.{Pair}
use Rattle.model.specs.Mark.{Mark, Covers, higher}
use Rattle.model.specs.State.{State}
use Rattle.model.specs.Load.{pairs_of, loaded_with}
use Rattle.model.specs.Join.{joined_run}
use Rattle.model.specs.Words.{words_of}
use Rattle.model.specs.Promise.{Holds, pair_words}
use Rattle.model.proofs.Forward.{forward}
use Rattle.model.proofs.Header.{stored_mark_is}
use Rattle.loading.proofs.Runs.{pairs_back}
use Rattle.merging.proofs.Merges.{run_few, pairs_few}
use Rattle.header.specs.Headers.{marked}
use Rattle.join.specs.Joins.{Anew}
use Rattle.join.proofs.Joining.{run_there, run_words, anew_empty, emptied_is, anew_joined, joined_covers, higher_marked}
use Rattle.join.proofs.join_all.Goals as goal
use Rattle.join.proofs.join_all.Goals.{After-merge_into-words}

module _ (c : After-merge_into-words) {s t : State} (h : Holds c.args.first.now s) (g : Holds c.args.second.now t) where
  -- the run at the start of the third slice
  run_is : take (2 * c.merge_into-words.result - 0) c.merge_into-words.new.out ≡ pair_words (joined_run s t)
  run_is = let r = c.merge_into-words.ensures s t h g in run_words (joined_run s t) c.args.third.now c.merge_into-words.new.out r.0 c.merge_into-words.result r.1

  pairs_are : pairs_of (take (2 * c.merge_into-words.result - 0) c.merge_into-words.new.out) ≡ joined_run s t
  pairs_are = ap pairs_of run_is ∙ pairs_back (joined_run s t)

  anew : Anew s.size c.args.first.now (take (2 * c.merge_into-words.result - 0) c.merge_into-words.new.out)
  anew = subst (Anew s.size c.args.first.now) (sym run_is) (anew_joined h g (c.requires.room s t h g))

  covers : All (λ (p : Pair). Covers (higher s.mark t.mark) p.key) (pairs_of (take (2 * c.merge_into-words.result - 0) c.merge_into-words.new.out))
  covers = subst (All (λ (p : Pair). Covers (higher s.mark t.mark) p.key)) (sym pairs_are) (joined_covers h g)

  there : 2 * c.merge_into-words.result ≤ length c.merge_into-words.new.out
  there = let r = c.merge_into-words.ensures s t h g in run_there (joined_run s t) c.args.third.now c.merge_into-words.new.out r.0 c.merge_into-words.result r.1

few : (c : After-merge_into-words) → c.merge_into-words.result < 1000000000
few c =
    let x = c in
    let h = forward x.args.first.now x.requires.first in
    let g = forward x.args.second.now x.requires.second in
    omega (arith, (c.merge_into-words.ensures _ _ h g).1, run_few h g, pairs_few x.requires.first, pairs_few x.requires.second)

pub overflow_mul-words : goal.overflow_mul-words
overflow_mul-words c = omega (arith, few (goal.at.overflow_mul-words c).After-merge_into-words)

pub slice_bounds-load_anew-end : goal.slice_bounds-load_anew-end
slice_bounds-load_anew-end c = let x = c in omega (arith, there (goal.at.slice_bounds-load_anew-end c).After-merge_into-words (forward x.args.first.now x.requires.first) (forward x.args.second.now x.requires.second))

pub load_anew-requires : goal.load_anew-requires
load_anew-requires c =
    let x = c in
    record { count = _; anew = anew (goal.at.load_anew-requires c).After-merge_into-words (forward x.args.first.now x.requires.first) (forward x.args.second.now x.requires.second) }

pub load_anew-requires-2 : goal.load_anew-requires-2
load_anew-requires-2 c = let x = c in record { count = _; anew = anew_empty (forward x.args.second.now x.requires.second) [] refl }

pub returns : goal.returns
returns c = λ s t h g.
    let m = (goal.at.returns c).After-merge_into-words in
    let b = c.stored_mark-mark.ensures ∙ stored_mark_is g in
    let e : marked c.max-most.result ≡ higher s.mark t.mark = ap marked c.max-most.ensures ∙ higher_marked c.stored_mark.result c.stored_mark-mark.result ∙ ap₂ higher (c.stored_mark.ensures ∙ stored_mark_is h) b in (
      rw e at (c.load_anew.ensures s.size (anew m h g) (rw e (covers m h g))) ∙ ap (λ (ps : List Pair). words_of (loaded_with (higher s.mark t.mark) s.size ps)) (pairs_are m h g),
      c.load_anew-2.ensures t.size (anew_empty g [] refl) tt ∙ ap (λ (k : Mark). words_of (loaded_with k t.size [])) b ∙ ap words_of (emptied_is t),
      (m.merge_into-words.ensures s t h g).0,
    )
