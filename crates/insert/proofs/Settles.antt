-- An insertion's counts set right, in the code's own numbers.
-- Assumes nothing.
use Prim.Native.Nat.{ℕ, ◌<◌}
use mathlib.Core.Path.{sym, subst}
use mathlib.Core.List.{List}
use Rattle.model.specs.Tree.{Pair}
use Rattle.model.specs.Nodes.{untaken}
use Rattle.model.proofs.Climb.{halved, rise_fits}
use Rattle.node.specs.Reading.{Has}
use Rattle.balance.specs.Moves.{Shaped}
use Rattle.standing.specs.Totals.{due}
use Rattle.totals.specs.Settling.{Settles}
use Rattle.growing.specs.Climbs.{Gap, Fitted, Risen, FittedRaw, RisenRaw}
use Rattle.totals.proofs.Siblings.{SetCall, SettleCall}
use Rattle.growing.proofs.Settled.{fit_settles, fit_done, right_in, left_in, split_done}

module _ {w₀ w : List ℕ} {h node at child : ℕ} (s : Gap w₀ h node at child) (p : Pair) where
  pub fit_ready : FittedRaw s p w → Has w (λ hd ns. Settles hd ns node)
  fit_ready R =
      let r = R.raw in
      subst (λ (n : ℕ). Has w (λ hd ns. Settles hd ns n)) s.node_is (record { head = _; nodes = r.nodes; arena = r.arena; holds = fit_settles s.frame s.way s.low s.high p s.free r })

  pub fit_end : FittedRaw s p w → (w' : List ℕ) → SettleCall w w' node → Fitted s p w'
  fit_end R w' call =
      let c : SettleCall w w' s.frame.no = subst (SettleCall w w') (sym s.node_is) call in
      rw (rise_fits s.frame s.way s.low p s.high s.free R.room) (fit_done s.frame s.way s.low s.high p s.free R.raw w' c)

  module _ (up : Pair) (right : ℕ) (R : RisenRaw s p w up right) where
    pub right_ready : Has w (λ hd ns. Shaped ns right × (due ns right < 18446744073709551616))
    right_ready = subst (λ (n : ℕ). Has w (λ hd ns. Shaped ns n × (due ns n < 18446744073709551616))) R.risen.right_is (right_in s.way (halved s.frame s.way s.low p s.high s.free).left (halved s.frame s.way s.low p s.high s.free).right (untaken s.free) R.risen.held R.low)

    module _ (w₁ : List ℕ) (set : SetCall w w₁ right) where
      set' : SetCall w w₁ (halved s.frame s.way s.low p s.high s.free).right.no
      set' = subst (SetCall w w₁) (sym R.risen.right_is) set

      pub left_ready : Has w₁ (λ hd ns. Settles hd ns node)
      left_ready = subst (λ (n : ℕ). Has w₁ (λ hd ns. Settles hd ns n)) s.node_is (left_in s.way (halved s.frame s.way s.low p s.high s.free).left (halved s.frame s.way s.low p s.high s.free).right (untaken s.free) R.risen.held R.low w₁ set')

      pub split_end : (w₂ : List ℕ) → SettleCall w₁ w₂ node → Risen s p w₂ up right
      split_end w₂ call =
          let c : SettleCall w₁ w₂ s.frame.no = subst (SettleCall w₁ w₂) (sym s.node_is) call in
          record {
            full = R.risen.full;
            pair_is = R.risen.pair_is;
            right_is = R.risen.right_is;
            held = split_done s.way (halved s.frame s.way s.low p s.high s.free).left (halved s.frame s.way s.low p s.high s.free).right (untaken s.free) R.risen.held R.low w₁ set' w₂ c;
          }
