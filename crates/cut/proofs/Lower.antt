-- What stays is short on the right border only, and repaired it is the model's.
-- Assumes nothing.
use Rattle.std.proofs.Common.{ℕ, ◌≡◌, sym, ap, ◌∙◌, subst, List, ◌++◌}
use Rattle.model.specs.Lists.{All}
use Rattle.model.specs.Tree.{Pair, after}
use Rattle.model.specs.Insert.{right}
use Rattle.model.specs.Mark.{Covers}
use Rattle.model.specs.Map.{Rising}
use Rattle.model.specs.State.{State, list}
use Rattle.model.specs.Words.{words_of}
use Rattle.model.specs.Sound.{Sound}
use Rattle.model.specs.Promise.{Holds}
use Rattle.model.specs.Parting.{path_of, cut_off}
use Rattle.model.proofs.Lists.{all_left}
use Rattle.model.proofs.Rising.{rising_left}
use Rattle.border.specs.Borders.{Bordering, ShortOn, Repairs}
use Rattle.loading.proofs.Parting.{path_list}
use Rattle.loading.proofs.Cuts.{stays_bordered}
use Rattle.cutting.specs.Halves.{half}
use Rattle.cutting.proofs.Halves.{half_once, half_rises, half_tall, half_list}

module _ (k : ℕ) (s : State) (o : Sound s) where
  whole : list (half k s) ++ after (path_of k s.whole) ≡ list s
  whole = ap (λ (q : List Pair). q ++ after (path_of k s.whole)) (half_list k s o) ∙ path_list k s.whole o.rising

  half_short : Bordering right (half k s)
  half_short = record {
    some = o.some;
    few = o.few;
    once = half_once k s o;
    chain_rises = half_rises k s o;
    tall = half_tall k s o;
    bordered = stays_bordered k s o;
    rising = rising_left (list (half k s)) (after (path_of k s.whole)) (subst Rising (sym whole) o.rising);
    covered = all_left _ (list (half k s)) (after (path_of k s.whole)) (subst (All (λ (p : Pair). Covers s.mark p.key)) (sym whole) o.covered);
  }

  pub border_ready : {w : List ℕ} → w ≡ words_of (half k s) → ShortOn right w
  border_ready e = record { state = half k s; short = half_short; words = e }

  pub border_done : {w w' : List ℕ} → w ≡ words_of (half k s) → Repairs right w w' → Holds w' (cut_off k s)
  border_done e r = (r (half k s) half_short e).0
