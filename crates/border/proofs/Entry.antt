-- The way in and out: the words of a state whose only short nodes lie on a border are what the repair takes, and it leaves those of a sound one.
-- Assumes nothing.
use mathlib.Core.Path.{◌≡◌}
use mathlib.Core.List.{List}
use Prim.Native.Nat.{ℕ}
use Rattle.model.specs.Nodes.{Grown}
use Rattle.model.specs.Insert.{Side}
use Rattle.model.specs.State.{State, list}
use Rattle.model.specs.Words.{nodes_in, words_of}
use Rattle.model.specs.Promise.{Holds}
use Rattle.model.proofs.Held.{Laid, laid_held}
use Rattle.model.proofs.Border.{bordered_fitting}
use Rattle.standing.specs.Heads.{Rest, rest_of, ClosedIn}
use Rattle.standing.proofs.Scenes.{laid_closed}
use Rattle.border.specs.Borders.{border, Rooted, RootedIn, Bordering, mended, ShortOn, Repairs}
use Rattle.standing.proofs.States.{laid_totals}
use Rattle.border.proofs.Tops.{rooted_of}
use Rattle.border.proofs.Mended.{mended_list, mended_sound, mended_words}

-- its tree and free nodes
abbrev grown_of : State → Grown
grown_of st = record { whole = st.whole; free = st.free }

pub laid_rooted : {st : State} → Laid st → {w : List ℕ} → w ≡ words_of st → Rooted w (rest_of st) (grown_of st)
laid_rooted {st} o e =
    let H : ClosedIn (words_of st) (rest_of st) (grown_of st) = record { nodes = nodes_in st; arena = (laid_held o).arena; stand = laid_closed o; many = (laid_held o).many; told = laid_totals o } in
    rw e (rooted_of (grown_of st) H o.tall)

module _ {s : Side} {st : State} (b : Bordering s st) {w : List ℕ} (e : w ≡ words_of st) where
  bordering_laid : Laid st
  bordering_laid = record { few = b.few; once = b.once; chain_rises = b.chain_rises; tall = b.tall; fitting = bordered_fitting s st.whole.height st.whole.root b.bordered }

  pub bordering_rooted : Rooted w (rest_of st) (grown_of st)
  bordering_rooted = laid_rooted bordering_laid e

  -- whatever tree the words are, repaired: of this one, the words of a sound state with the same pairs
  pub border_repaired : {w' : List ℕ} → ((g : Rest) (t : Grown) → Rooted w g t → Rooted w' g (border s t)) → Holds w' (mended s st) × (list (mended s st) ≡ list st)
  border_repaired r = (record { sound = mended_sound b; words = mended_words b (r (rest_of st) (grown_of st) bordering_rooted) }, mended_list b)

-- what fix_right_border and fix_left_border require, for their steps; and what they ensure, from what those ensure
pub short_in : {s : Side} {w : List ℕ} → ShortOn s w → RootedIn w
short_in x = record { rest = rest_of x.state; end = grown_of x.state; rooted = bordering_rooted x.short x.words }

pub repairs : (s : Side) {w w' : List ℕ} → ((g : Rest) (t : Grown) → Rooted w g t → Rooted w' g (border s t)) → Repairs s w w'
repairs s r st b e = border_repaired b e r
