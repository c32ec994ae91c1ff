-- A turn of the walk that pushes the pairs of the upper part; where it begins, and how the load ends.
-- Assumes nothing.
use Rattle.model.specs.Layout.{header_size}
use Rattle.model.specs.Tree.{Pair, after}
use Rattle.model.specs.State.{State, formatted}
use Rattle.model.specs.Words.{words_of}
use Rattle.model.specs.Sound.{Sound}
use Rattle.model.specs.Load.{Loading, push, push_all, begun, loaded_with}
use Rattle.model.specs.Room.{nodes_for}
use Rattle.model.specs.Parting.{path_of, part_off}
use Rattle.model.specs.Promise.{Holds}
use Rattle.model.proofs.Held.{words_long}
use Rattle.node.specs.declared.Kv.{Kv}
use Rattle.node.specs.Reading.{pair_of}
use Rattle.search.specs.declared.Handle.{Handle}
use Rattle.search.specs.Results.{leaf_edge}
use Rattle.standing.specs.Heads.{Rest, rest_of}
use Rattle.loading.proofs.Loads.{load_nodes}
use Rattle.loading.proofs.Least.{nodes_more}
use Rattle.loading.proofs.Parting.{path_whole}
use Rattle.loading.proofs.Cuts.{part_sound}
use Rattle.appending.specs.Pushes.{LoadIn}
use Rattle.appending.specs.Runs.{Ended}
use Rattle.appending.proofs.Runs.{push_last, formatted_begun}
use Rattle.std.proofs.Common.{Some, None, ℕ, ◌-◌, ◌≤◌, arith, ◌≡◌, refl, sym, ap, ◌∙◌, subst, List, [], ◌∷◌, ◌++◌, append-nil, append_assoc, length, length-append}
use Rattle.listing.specs.Heads.{HeadOf}
use Rattle.cut.specs.Moves.{Moving, Upper}

none_left : (l : List Pair) → length l ≤ 0 → l ≡ []
none_left [] u = refl
none_left (p ∷ l) u = absurd (omega arith)

module _ {s : State} {g : Rest} {all : List Pair} {w : List ℕ} {leaf left : ℕ} {at : Handle} (M : Moving s g all w leaf left at) where
  pub moves_end : HeadOf s (after M.edge.way) None → Ended w g (push_all all begun)
  moves_end e =
      let z : M.done ≡ all = sym (append-nil M.done) ∙ ap (λ (q : List Pair). M.done ++ q) (sym e) ∙ M.split in
      record { leaf = leaf; load = subst (λ (q : List Pair). LoadIn w g leaf (push_all q begun)) z M.load }

  -- as many are pushed as there were
  pub moves_out : left ≤ 0 → Ended w g (push_all all begun)
  moves_out l = moves_end (none_left (after M.edge.way) (omega (arith, M.many, l)))

  module _ (kv : Kv) (next : Handle) (h : HeadOf s (after M.edge.way) (Some (kv, next))) where
    more : (M.done ++ pair_of kv ∷ []) ++ after h.0.way ≡ all
    more = append_assoc M.done (pair_of kv ∷ []) (after h.0.way) ∙ ap (λ (q : List Pair). M.done ++ q) (sym h.1) ∙ M.split

    pub moves_room : (push (pair_of kv) (push_all M.done begun)).next ≤ g.size
    moves_room =
        let e = ap (λ (l : Loading). l.next) (sym (push_last M.done (pair_of kv) begun)) ∙ load_nodes (M.done ++ pair_of kv ∷ []) in
        let f = ap length more in
        omega (
          arith,
          e,
          nodes_more (length (M.done ++ pair_of kv ∷ [])) (length all) (omega (arith, f, length-append (M.done ++ pair_of kv ∷ []) (after h.0.way))),
          M.room,
        )

    pub moves_on : {w' : List ℕ} {leaf' : ℕ} (left' : ℕ) → left' ≡ left - 1 → LoadIn w' g leaf' (push (pair_of kv) (push_all M.done begun)) → Moving s g all w' leaf' left' next
    moves_on {w'} {leaf'} left' e l = record {
      done = M.done ++ pair_of kv ∷ [];
      edge = h.0;
      split = more;
      many = omega (arith, e, M.many, ap length h.1);
      load = subst (LoadIn w' g leaf') (sym (push_last M.done (pair_of kv) begun)) l;
      room = M.room;
    }

-- ---- the whole load

module _ (k : ℕ) {v : List ℕ} {s : State} (o : Holds v s) {w : List ℕ} {pairs n : ℕ} (U : Upper k s w pairs n) where
  pub upper_moves : (d : Handle) → d ≡ leaf_edge (path_of k s.whole) → (w' : List ℕ) → w' ≡ words_of (formatted n) → Moving s (rest_of (formatted n)) (part_off k s) w' 0 pairs d
  upper_moves d e w' z = record {
    done = [];
    edge = record { way = path_of k s.whole; whole = path_whole k s.whole o.sound.rising; is = e };
    split = refl;
    many = U.pairs_are;
    load = (formatted_begun n [] U.sized.some U.sized.few z (omega (arith, nodes_more 0 pairs (omega arith), U.room))).load;
    room = subst (λ (m : ℕ). nodes_for m ≤ n) U.pairs_are U.room;
  }

  pub upper_sound : Sound (loaded_with s.mark n (part_off k s))
  upper_sound = part_sound k s o.sound n (subst (λ (m : ℕ). nodes_for m ≤ n) U.pairs_are U.room) U.sized.few

pub head_in : {v : List ℕ} {s : State} → Holds v s → header_size ≤ length v
head_in o = omega (arith, ap length o.words, words_long o.sound)
