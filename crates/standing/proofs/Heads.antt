-- A whole tree again: the number of its root, and its height.
-- Assumes nothing.
use Prim.Native.Nat.{ℕ}
use mathlib.Core.Path.{◌≡◌, refl}
use Rattle.model.specs.Tree.{Tree, Ctx, top, under, plug, fill}
use Rattle.model.specs.Words.{root_no}
use Rattle.standing.specs.Standing.{root_of}
use Rattle.standing.specs.Heads.{top_of}

pub plug_root : {h : ℕ} (c : Ctx h) (x : Tree h) → root_no (plug c x).height (plug c x).root ≡ root_of c (root_no h x)
plug_root top x = refl
plug_root (under f c) x = plug_root c (fill f.no f.left x f.right)

pub plug_top : {h : ℕ} (c : Ctx h) (x : Tree h) → (plug c x).height ≡ top_of c
plug_top top x = refl
plug_top (under f c) x = plug_top c (fill f.no f.left x f.right)
