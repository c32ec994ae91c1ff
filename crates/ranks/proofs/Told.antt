-- The descents' ends as the promises have them.
-- Assumes nothing.
use Rattle.std.proofs.Common.{ℕ, zero, ◌-◌, ◌≤◌, arith, ◌≡◌, refl, sym, ap, ap₂, ◌∙◌, subst, false, inr, List, lit<, length}
use Rattle.model.specs.declared.Answer.TheVariants.{Done, Value, Absent}
use Rattle.model.specs.declared.Counted.{Counted}
use Rattle.model.specs.declared.Picked.{Picked}
use Rattle.model.specs.declared.Range.{Range}
use Rattle.model.specs.declared.SearchBound.{SearchBound}
use Rattle.model.specs.declared.SearchBound.TheVariants.{Included, AllIncluded}
use Rattle.model.specs.Layout.{header, pairs_word}
use Rattle.model.specs.Tree.{Ctx, top, flat_of, before, after}
use Rattle.model.specs.Search.{sink}
use Rattle.model.specs.Range.{bad_range}
use Rattle.model.specs.Map.{picked}
use Rattle.model.specs.State.{State, list}
use Rattle.model.specs.Promise.{Holds, Rank, Count, AtRank}
use Rattle.model.proofs.Plug.{flat_plug}
use Rattle.model.proofs.Walks.{start_parts}
use Rattle.model.proofs.Backward.{header_is, backward}
use Rattle.model.proofs.Forks.{starts}
use Rattle.model.specs.Range.{beyond}
use Rattle.model.proofs.Ranks.{Split, split_parts, rank_split, count_split, nth_past}
use Rattle.search.specs.declared.Handle.{Handle}
use Rattle.ranks.specs.Picks.{Picking}

-- the leaf edge of a start bound, and the pairs before it
abbrev pub edge_of : SearchBound → State → Ctx zero
edge_of b s = sink (starts b) s.whole.height top s.whole.root

module _ {w : List ℕ} {s : State} (o : Holds w s) where
  parted : (b : SearchBound) → Split b (length (before (edge_of b s))) (list s)
  parted b =
      let p = start_parts (record { start = b; end = AllIncluded }) s.whole o.sound.rising in
      let c = edge_of b s in
      subst (Split b (length (before c))) (sym (ap flat_of (sym p.whole) ∙ flat_plug c tt)) (split_parts b (before c) (after c) p.leaves p.takes)

  pub rank_told : (k n : ℕ) → n ≡ length (before (edge_of (Included k) s)) → Rank k w w (record { answer = Done; number = n })
  rank_told k n e = inr ((λ b. b (backward w s o)), record { state = s; holds = o; left = refl; said = ap {B = Counted} (λ (m : ℕ). record { answer = Done; number = m }) (e ∙ sym (rank_split k (length (before (edge_of (Included k) s))) (list s) (parted (Included k)))) })

  pub count_told : (q : Range) (n m d : ℕ) → bad_range q ≡ false → n ≡ length (before (edge_of q.start s)) → m ≡ length (before (edge_of (beyond q.end) s)) → d ≡ m - n → Count q w w (record { answer = Done; number = d })
  count_told q n m d g en em ed =
      inr (
        (λ b. b (backward w s o)),
        inr (
          (λ t. let z : ◌≡◌ {A = ℕ} 0 1 = cc in omega arith),
          record {
            state = s;
            holds = o;
            left = refl;
            said = ap {B = Counted} (λ (x : ℕ). record { answer = Done; number = x }) (ed ∙ ap₂ ◌-◌ em en ∙ sym (count_split q (length (before (edge_of q.start s))) (length (before (edge_of (beyond q.end) s))) (list s) (parted q.start) (parted (beyond q.end))));
          },
        ),
      )

  pub none_told : (i : ℕ) → header w pairs_word ≤ i → AtRank i w w (record { answer = Absent; key = 0 })
  none_told i l = inr ((λ b. b (backward w s o)), record { state = s; holds = o; left = refl; said = ap picked (sym (nth_past i (list s) (omega (arith, header_is o pairs_word (lit< tt))))) })

  pub pair_told : (i : ℕ) {d : Handle} (p : Picking s i d) (k v : ℕ) → k ≡ p.kv.item.pair.key → v ≡ p.kv.item.pair.val → AtRank i w w (record { answer = Value v; key = k })
  pair_told i p k v ek ev = inr ((λ b. b (backward w s o)), record { state = s; holds = o; left = refl; said = ap₂ {C = Picked} (λ (x y : ℕ). record { answer = Value x; key = y }) ev ek ∙ ap picked (sym p.picks) })
