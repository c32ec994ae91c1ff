-- Put, from where its search ends to the words that it leaves.
-- Assumes nothing.
use Prim.Native.Nat.{ℕ, suc, ◌+◌, ◌*◌, pred, ◌≤◌, ◌<◌, max}
use native.Mathlib.Omega.{arith}
use mathlib.Core.Path.{◌≡◌, refl, sym, ap, ap₂, ◌∙◌, subst}
use mathlib.Core.List.{List, ◌∷◌}
use lib.Dec.{lit<}
use lib.ListN.{length, get_or, set, length-append}
use lib.Seq.{set-get_or}
use borrow.Author.Tests.{le-leb, lt-leb}
use Rattle.model.specs.declared.Answer.{Answer}
use Rattle.model.specs.declared.Answer.TheVariants.{Done, Value, NoRoom}
use Rattle.model.specs.Layout.{most, largest_count, header, pairs_word, free_word, seen_word, mark_word, NodeVal, nth, Arena}
use Rattle.model.specs.Tree.{Pair, Item, Tree, Ctx, Whole, plug, fill, flat_of}
use Rattle.model.specs.Search.{Spot, at, gap, search}
use Rattle.model.specs.Insert.{rise, needed}
use Rattle.model.specs.Mark.{Mark, unseen, seen, spend, seen_of, mark_of}
use Rattle.model.specs.State.{State, Reply, put_at, put}
use Rattle.model.specs.Words.{root_no, header_of, nodes_in}
use Rattle.model.specs.Promise.{Holds, Does}
use Rattle.model.proofs.Bounds.{few}
use Rattle.model.proofs.Backward.{backward}
use Rattle.model.proofs.Held.{held_of, words_header, sound_laid}
use Rattle.model.proofs.Plug.{flat_plug, around}
use Rattle.model.proofs.Descent.{Sought, search_right}
use Rattle.model.proofs.Climb.{rise_flat}
use Rattle.model.proofs.Calls.{put_sound}
use Rattle.node.specs.declared.Kv.{Kv}
use Rattle.node.specs.Reading.{Has, pair_of, pair_at}
use Rattle.store.proofs.Chain.{head_is, head_put}
use Rattle.leaf.specs.Pairs.{PairAt, replace_pair}
use Rattle.search.specs.declared.Handle.{Handle}
use Rattle.search.specs.declared.SearchResult.TheVariants.{Found, GoDown}
use Rattle.search.specs.Results.{handle, spotted}
use Rattle.navigate.specs.Places.{EdgeAt}
use Rattle.standing.specs.Standing.{Hole}
use Rattle.standing.proofs.Scenes.{closed_of, enter, close, closed_words}
use Rattle.standing.specs.Heads.{rest_of, head_words, ClosedIn}
use Rattle.totals.proofs.Siblings.{replace_told}
use Rattle.standing.proofs.States.{laid_totals}
use Rattle.shrinking.proofs.Pairs.{pair_ready, pair_is, replace_long, replace_step}
use Rattle.standing.proofs.Heads.{plug_root, plug_top}
use Rattle.header.specs.Headers.{raised}
use Rattle.std.proofs.Common.{Option, None, Some, Ok, Bool, true, false, not, is_some}
use Rattle.model.specs.Answer.{said_former}
use Rattle.insert.specs.Inserts.{Placed, PutIn}

-- ---- where the search ends

-- at a pair
pub record PairIn (k : ℕ) (s : State) (d : Handle) : Type 0 where
  pub height : ℕ
  pub ctx : Ctx (suc height)
  pub no : ℕ
  pub left : List (Item (Tree height))
  pub hole : Tree height
  pub item : Item (Tree height)
  pub right : List (Item (Tree height))
  pub found : search k s.whole ≡ at ctx no left hole item right
  pub whole : plug ctx (fill no left hole (item ∷ right)) ≡ s.whole
  pub node_is : no ≡ d.node.0
  pub at_is : length left ≡ d.at.0

-- at a leaf edge
pub record GapIn (k : ℕ) (s : State) (d : Handle) : Type 0 where
  pub edge : EdgeAt s d
  pub found : search k s.whole ≡ gap edge.way

module _ {w : List ℕ} {s : State} (o : Holds w s) (k : ℕ) (d : Handle) where
  pub pair_in : Found d ≡ spotted (search k s.whole) → PairIn k s d
  pair_in e = go (search k s.whole) refl (search_right k s.whole o.sound.rising) e
    where
      go : (p : Spot) → search k s.whole ≡ p → Sought k s.whole p → Found d ≡ spotted p → PairIn k s d
      go (gap c) f q z = let a : ◌≡◌ {A = ℕ} 0 1 = cc in absurd (omega arith)
      go (at {h = h} c n l u x r) f q z =
          let a : d ≡ handle n h (length l) = cc in
          record { height = h; ctx = c; no = n; left = l; hole = u; item = x; right = r; found = f; whole = q.0; node_is = ap (λ (b : Handle). b.node.0) (sym a); at_is = ap (λ (b : Handle). b.at.0) (sym a) }

  pub gap_in : GoDown d ≡ spotted (search k s.whole) → GapIn k s d
  gap_in e = go (search k s.whole) refl (search_right k s.whole o.sound.rising) e
    where
      go : (p : Spot) → search k s.whole ≡ p → Sought k s.whole p → GoDown d ≡ spotted p → GapIn k s d
      go (gap c) f q z = record { edge = record { way = c; whole = q.0; is = cc }; found = f }
      go (at c n l u x r) f q z = let a : ◌≡◌ {A = ℕ} 0 1 = cc in absurd (omega arith)

-- ---- a present key

abbrev pub ReplaceCall : List ℕ → List ℕ → ℕ → ℕ → Pair → Pair → Type 0
ReplaceCall w w' n i p old = (h : List ℕ) (ns : List NodeVal) → PairAt ns n i → Arena w h ns → (old ≡ pair_at (nth ns n).pairs i) × Arena w' h (replace_pair ns n i p)

module _ {w : List ℕ} {s : State} (o : Holds w s) (k v : ℕ) (d : Handle) (y : PairIn k s d) where
  abbrev p : Pair
  p = record { key = k; val = v }

  abbrev was : Tree (suc y.height)
  was = fill y.no y.left y.hole (y.item ∷ y.right)

  abbrev is : Tree (suc y.height)
  is = fill y.no y.left y.hole (record { pair = p; edge = y.item.edge } ∷ y.right)

  words_arena : Arena w (header_of s) (nodes_in s)
  words_arena = rw o.words (held_of o.sound).arena

  H : Hole (nodes_in s) y.ctx was s.free
  H = enter y.ctx was s.free (rw y.whole (closed_of o))

  there : PairAt (nodes_in s) d.node.0 d.at.0
  there = rw (y.node_is, y.at_is) at (pair_ready y.ctx y.no y.left y.hole y.item y.right s.free H)

  pub replace_in : Has w (λ h ns. PairAt ns d.node.0 d.at.0)
  replace_in = record { head = header_of s; nodes = nodes_in s; arena = words_arena; holds = there }

  header_same : header_of s ≡ head_words (rest_of s) (root_no (plug y.ctx is).height (plug y.ctx is).root) (pred (plug y.ctx is).height) s.free
  header_same =
      let a = plug_root y.ctx is ∙ (sym (plug_root y.ctx was) ∙ ap (λ (x : Whole). root_no x.height x.root) y.whole) in
      let b = plug_top y.ctx is ∙ (sym (plug_top y.ctx was) ∙ ap (λ (x : Whole). x.height) y.whole) in
      ap₂ (λ (r t : ℕ). head_words (rest_of s) r (pred t) s.free) (sym a) (sym b)

  pub replaced_in : (old : Kv) (w' : List ℕ) → ReplaceCall w w' d.node.0 d.at.0 p (pair_of old) → Placed k s (put k v s) w' (Value old.1) 0
  replaced_in old w' call =
      let c = call (header_of s) (nodes_in s) there words_arena in
      let e : old.1 ≡ y.item.pair.val = ap (λ (q : Pair). q.val) (c.0 ∙ (rw (y.node_is, y.at_is) at (pair_is y.ctx y.no y.left y.hole y.item y.right s.free H))) in
      subst (λ (z : Spot). Placed k s (put_at k v s z) w' (Value old.1) 0) (sym y.found) (record {
        said = ap Value (sym e);
        size_is = refl;
        pairs_are =
            let a = ap length (around y.ctx y.no y.left y.hole (record { pair = p; edge = y.item.edge }) y.right) in
            let b = ap length (sym (ap flat_of y.whole) ∙ around y.ctx y.no y.left y.hole y.item y.right) in
            simp length-append at a ∙ (sym (simp length-append at b) ∙ omega arith);
        mark_is = refl;
        held = record {
          nodes = replace_pair (nodes_in s) y.no (length y.left) p;
          arena = rw header_same at (rw (← y.node_is, ← y.at_is) at c.1);
          stand = close y.ctx is s.free (replace_step y.ctx y.no y.left y.hole y.item y.right s.free H p);
          many = replace_long y.ctx y.no y.left y.hole y.item y.right s.free H p ∙ (held_of o.sound).many;
          told = replace_told (nodes_in s) y.no (length y.left) p (laid_totals (sound_laid o.sound));
        };
      })

-- ---- an absent key

module _ {w : List ℕ} {s : State} (o : Holds w s) (k v : ℕ) (d : Handle) (y : GapIn k s d) (free need : ℕ) (ef : free ≡ get_or w free_word 0) (en : need ≡ needed y.edge.way) where
  free_is : free ≡ length s.free
  free_is = ef ∙ (ap (λ (x : List ℕ). header x free_word) o.words ∙ words_header o.sound free_word (lit< tt))

  pub lacking : free < need → put k v s ≡ record { answer = NoRoom; state = s }
  lacking l = ap (put_at k v s) y.found ∙ rw (lt-leb (needed y.edge.way) (length s.free) (omega (arith, free_is)), put_at)

  module _ (l : need ≤ free) where
    pub enough : needed y.edge.way ≤ length s.free
    enough = omega (arith, free_is)

    pub added_in : (w' : List ℕ) → ClosedIn w' (rest_of s) (rise y.edge.way tt (record { key = k; val = v }) tt s.free) → Placed k s (put k v s) w' Done 1
    added_in w' h =
        let c = y.edge.way in
        let q : Pair = record { key = k; val = v } in
        let g = rise c tt q tt s.free in
        let e : put k v s ≡ record { answer = Done; state = record { size = s.size; whole = g.whole; free = g.free; mark = spend k s.mark } } = ap (put_at k v s) y.found ∙ rw (le-leb (needed c) (length s.free) enough, put_at) in
        subst (λ (z : Reply). Placed k s z w' Done 1) (sym e) (record {
          said = refl;
          size_is = refl;
          pairs_are =
              let a = ap length (rise_flat c tt q tt s.free) in
              let b = ap length (sym (ap flat_of y.edge.whole) ∙ flat_plug c tt) in
              omega (arith, simp length-append at a, simp length-append at b);
          mark_is = refl;
          held = h;
        })

-- ---- the former value that the code has seen

-- so many pairs more
abbrev pub more_of : Option ℕ → ℕ
more_of None = 1
more_of (Some v) = 0

pub more_none : (f : Option ℕ) {b : Bool} → b ≡ true → is_some f ≡ not b → more_of f ≡ 1
more_none None e i = refl
more_none (Some v) e i = let z : ◌≡◌ {A = Bool} true false = rw e at i in cc

pub more_some : (f : Option ℕ) {b : Bool} → b ≡ false → is_some f ≡ not b → more_of f ≡ 0
more_some (Some v) e i = refl
more_some None e i = let z : ◌≡◌ {A = Bool} false true = rw e at i in cc

pub placed : (k : ℕ) (s : State) (d : Reply) (w w' : List ℕ) (f : Option ℕ) → PutIn k s d w w' (Ok f) → Placed k s d w' (said_former (Ok f)) (more_of f)
placed k s d w w' None q = q
placed k s d w w' (Some v) q = q

-- ---- counted and spent

mark_spent : (k : ℕ) (m : Mark) → mark_of (spend k m) ≡ max (mark_of m) k
mark_spent k unseen = omega arith
mark_spent k (seen a) = refl

seen_spent : (k : ℕ) (m : Mark) → seen_of (spend k m) ≡ 1
seen_spent k unseen = refl
seen_spent k (seen a) = refl

raised_in : (k : ℕ) {w w' h : List ℕ} {ns : List NodeVal} → w' ≡ raised k w → Arena w h ns → Arena w' (raised k h) ns
raised_in k {h = h} e a = rw (e, head_is a mark_word (lit< tt)) (head_put (head_put a mark_word (max (header h mark_word) k) (lit< tt)) seen_word 1 (lit< tt))

-- the count of pairs raised by so many
abbrev pub Counts : List ℕ → List ℕ → ℕ → Type 0
Counts w w' more = (h : List ℕ) (ns : List NodeVal) → Arena w h ns → Arena w' (set h pairs_word (header h pairs_word + more)) ns

pub count_one : (w : List ℕ) → Counts w (set w pairs_word (get_or w pairs_word 0 + 1)) 1
count_one w h ns a = rw (head_is a pairs_word (lit< tt)) (head_put a pairs_word (header h pairs_word + 1) (lit< tt))

pub count_none : (w : List ℕ) → Counts w w 0
count_none w h ns a =
    let e : header h pairs_word + 0 ≡ header h pairs_word = omega arith in
    rw (e, set-get_or h pairs_word 0) a

module _ {w : List ℕ} {s : State} (o : Holds w s) (k v : ℕ) {w₁ : List ℕ} {r : Answer} {more : ℕ} (q : Placed k s (put k v s) w₁ r more) where
  -- the count has room
  pub pairs_few : get_or w₁ pairs_word 0 ≤ most * largest_count
  pairs_few =
      let f = backward w s o in
      omega (arith, head_is q.held.arena pairs_word (lit< tt), few f, f.sized.few, ap (λ (x : List ℕ). header x pairs_word) o.words ∙ words_header o.sound pairs_word (lit< tt))

  pub ended : (w₂ w₃ : List ℕ) → Counts w₁ w₂ more → w₃ ≡ raised k w₂ → Does (put k v s) w₃ r
  ended w₂ w₃ count e =
      let d = put k v s in
      let a = raised_in k e (count _ q.held.nodes q.held.arena) in
      record {
        left = closed_words d.state (put_sound k v s o.sound) a (rw (q.size_is, q.pairs_are, q.mark_is, mark_spent k s.mark, seen_spent k s.mark) refl) (q.held.many ∙ sym q.size_is) q.held.stand q.held.told;
        said = sym q.said;
      }
