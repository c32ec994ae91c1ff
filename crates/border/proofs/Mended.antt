-- What the repair of a border leaves: a sound state with the same pairs in order, and its words.
-- Assumes nothing.
use Prim.Native.Nat.{ℕ, zero, suc, ◌≤◌}
use native.Mathlib.Omega.{arith}
use mathlib.Core.Path.{◌≡◌, refl, ap, ◌∙◌, sym, subst}
use mathlib.Core.List.{List}
use lib.ListN.{length}
use Rattle.model.specs.Tree.{Tree, has_whole}
use Rattle.model.specs.Mark.{seen_of, mark_of}
use Rattle.model.specs.Insert.{Side}
use Rattle.model.specs.Border.{fix_border}
use Rattle.model.specs.State.{State, list}
use Rattle.model.specs.Words.{words_of}
use Rattle.model.specs.Sound.{Sound}
use Rattle.model.proofs.Sizes.{FullWhole, to_full}
use Rattle.model.proofs.Border.{Bordered, fix_flat, fix_has, fix_full, fix_sorted}
use Rattle.model.proofs.Frees.{rises_sorted, once_rises}
use Rattle.standing.proofs.Scenes.{closed_words}
use Rattle.standing.specs.Heads.{Rest, rest_of, ClosedIn}
use Rattle.border.specs.Borders.{Rooted, border, Bordering, mended}

module _ {s : Side} {st : State} (b : Bordering s st) where
  pub mended_list : list (mended s st) ≡ list st
  mended_list = fix_flat s st.whole st.free

  sizes : FullWhole (fix_border s st.whole st.free).whole
  sizes = go st.whole.height st.whole.root b.tall b.bordered
    where
      go : (h : ℕ) (t : Tree h) → 1 ≤ h → Bordered s h t → FullWhole (fix_border s (record { height = h; root = t }) st.free).whole
      go zero t l k = absurd (omega arith)
      go (suc h) t l k = fix_full s h t st.free k

  pub mended_sound : Sound (mended s st)
  mended_sound = record {
    some = b.some;
    few = b.few;
    once = λ m. fix_has s m st.whole st.free ∙ b.once m;
    chain_rises = once_rises st.size (λ m. has_whole m (fix_border s st.whole st.free).whole) (fix_border s st.whole st.free).free (λ m. fix_has s m st.whole st.free ∙ b.once m) (fix_sorted s st.whole st.free (rises_sorted st.free b.chain_rises));
    full = to_full (mended s st).whole.height (mended s st).whole.root sizes;
    rising = rw mended_list b.rising;
    covered = rw mended_list b.covered;
  }

  -- the words that fix_right_border or fix_left_border leaves
  pub mended_words : {w : List ℕ} → Rooted w (rest_of st) (border s (record { whole = st.whole; free = st.free })) → w ≡ words_of (mended s st)
  mended_words {w} x =
      let g : rest_of st ≡ rest_of (mended s st) = ap (λ (n : ℕ). record { size = st.size; pairs = n; seen = seen_of st.mark; mark = mark_of st.mark }) (ap length (sym mended_list)) in
      let H : ClosedIn w (rest_of (mended s st)) (fix_border s st.whole st.free) = subst (λ (r : Rest). ClosedIn w r (fix_border s st.whole st.free)) g (subst (ClosedIn w (rest_of st)) x.same x.held) in
      closed_words (mended s st) mended_sound H.arena refl H.many H.stand H.told
