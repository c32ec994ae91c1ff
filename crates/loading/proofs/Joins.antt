-- Joins of sound states: sound again, the list joined; three whichever neighbours are joined first; and a cut followed by a join.
-- Assumes nothing.
use Prim.Native.Nat.{ℕ, ◌≤◌, max}
use native.Mathlib.Omega.{arith}
use mathlib.Core.Path.{◌≡◌, refl, ap, ◌∙◌, sym}
use mathlib.Core.List.{List}
use lib.ListN.{length}
use Rattle.model.specs.Tree.{Pair}
use Rattle.model.specs.Mark.{Mark, unseen, seen, higher, Covers}
use Rattle.model.specs.State.{State, list}
use Rattle.model.specs.Sound.{Sound}
use Rattle.model.proofs.Lists.{all_map}
use Rattle.model.proofs.Marks.{covers_left, covers_right, higher_assoc}
use Rattle.model.proofs.Calls.{formatted_sound}
use Rattle.model.specs.Load.{loaded_with}
use Rattle.model.specs.Room.{nodes_for}
use Rattle.model.specs.Parting.{cut_off, part_off}
use Rattle.model.specs.Merge.{merge, insert_all}
use Rattle.model.specs.Join.{joined_run, joined, emptied}
use Rattle.loading.proofs.Loads.{load_list, load_sound}
use Rattle.loading.proofs.Cuts.{cut_both, cut_below, part_above}
use Rattle.loading.proofs.Merging.{all_merge, rising_merge, merge_assoc, merge_inserts, merge_parted}
use Rattle.loading.proofs.Least.{room_enough}

pub joined_list : (a b : State) → list (joined a b) ≡ joined_run a b
joined_list a b = load_list (joined_run a b) (higher a.mark b.mark) a.size

pub joined_sound : (a b : State) → Sound a → Sound b → nodes_for (length (joined_run a b)) ≤ a.size → Sound (joined a b)
joined_sound a b oa ob room =
    load_sound (joined_run a b) (higher a.mark b.mark) a.size (rising_merge (list a) (list b) oa.rising ob.rising)
    (all_merge (λ (p : Pair). Covers (higher a.mark b.mark) p.key) (list a) (list b)
    (all_map _ _ (λ (p : Pair). covers_left a.mark b.mark p.key) (list a) oa.covered)
    (all_map _ _ (λ (p : Pair). covers_right a.mark b.mark p.key) (list b) ob.covered))
    room oa.few

pub emptied_sound : (b : State) → Sound b → Sound (emptied b)
emptied_sound b o = let f = formatted_sound b.size o.some o.few in record { some = o.some; few = o.few; once = f.once; chain_rises = f.chain_rises; full = f.full; rising = tt; covered = tt }

-- the map after every pair of the second is inserted into the first
pub joined_inserts : (a b : State) → Sound a → Sound b → list (joined a b) ≡ insert_all (list b) (list a)
joined_inserts a b oa ob = joined_list a b ∙ merge_inserts (list a) (list b) oa.rising ob.rising

-- ---- three, kept in their order

module _ (a b c : State) (oa : Sound a) (ob : Sound b) (oc : Sound c) where
  pub three_lists : list (joined (joined a b) c) ≡ list (joined a (joined b c))
  three_lists =
      joined_list (joined a b) c ∙ (ap (λ (l : List Pair). merge l (list c)) (joined_list a b)
      ∙ (merge_assoc (list a) (list b) (list c) oa.rising ob.rising oc.rising
      ∙ (sym (ap (merge (list a)) (joined_list b c)) ∙ sym (joined_list a (joined b c)))))

  pub three_marks : (joined (joined a b) c).mark ≡ (joined a (joined b c)).mark
  three_marks = higher_assoc a.mark b.mark c.mark

-- ---- a cut, then a join

pub higher_same : (m : Mark) → higher m m ≡ m
higher_same unseen = refl
higher_same (seen k) = ap seen (let e : max k k ≡ k = omega arith in e)

module _ (k n : ℕ) (s : State) (o : Sound s) where
  -- the second arena after the cut, of n nodes
  abbrev gone : State
  gone = loaded_with s.mark n (part_off k s)

  pub again_run : joined_run (cut_off k s) gone ≡ list s
  again_run =
      ap (merge (list (cut_off k s))) (load_list (part_off k s) s.mark n)
      ∙ (merge_parted k (list (cut_off k s)) (part_off k s) (cut_below k s o) (part_above k s o) ∙ cut_both k s o)

  -- it is not refused for room
  pub again_room : nodes_for (length (joined_run (cut_off k s) gone)) ≤ (cut_off k s).size
  again_room = rw again_run (room_enough s o)

  pub again_list : list (joined (cut_off k s) gone) ≡ list s
  again_list = joined_list (cut_off k s) gone ∙ again_run

  pub again_mark : (joined (cut_off k s) gone).mark ≡ s.mark
  again_mark = higher_same s.mark
