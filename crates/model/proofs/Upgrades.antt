-- The upgrade: one result, which holds the source's state in format 2; what it keeps word for word, and when words are that result.
-- Assumes nothing.
use Prim.Native.Nat.{ℕ, zero, suc, ◌+◌, ◌≤◌, ◌<◌}
use native.Mathlib.Nat.{not-suc-le-zero}
use native.Mathlib.Omega.{arith}
use mathlib.Core.Path.{◌≡◌, refl, sym, ap, ◌∙◌}
use mathlib.Core.Logic.{inl, inr}
use mathlib.Core.List.{List, [], ◌∷◌, ◌++◌, map, append_assoc, append-nil}
use lib.Dec.{lit<, lit≤}
use lib.ListN.{length, take, drop, get_or}
use lib.Seq.{take_at, take-take}
use Rattle.model.specs.declared.Answer.{Answer}
use Rattle.model.specs.declared.Answer.TheVariants.{Done, BadArena, BadSize}
use Rattle.model.specs.Lists.{All, part, pad}
use Rattle.model.specs.Layout.{Format1, Format2, header_size, node_size, most, base_by, base, header, format_number, format_word, count_word, offset_word, root_word, height_word, pairs_word, first_free_word, free_word, seen_word, mark_word, state_word, length_word, parent_word, place_word, keys_word, values_word, edges_word, word_at_by, word_at, total_word, NodeVal, key_of, val_of, frame, node_words_by, node_words, nth}
use Rattle.model.specs.Answer.{numbers_of}
use Rattle.model.specs.State.{State}
use Rattle.model.specs.Words.{Block, blocks_in, nodes_in, header_of_by, header_of, words_of_by, words_of}
use Rattle.model.specs.WellFormed.{WellFormedBy, WellFormed}
use Rattle.model.specs.Promise.{HoldsBy, Holds, bad_arena_by, bad_size, Upgraded, Upgrade}
use Rattle.model.proofs.Lists.{all_both}
use Rattle.model.proofs.Places.{tab, part_tab}
use Rattle.model.proofs.Arena.{arena_node, arena_are, words_length}
use Rattle.model.proofs.Read.{ReadsBy, Reads, of_reads}
use Rattle.model.proofs.Blocks.{nodes_length}
use Rattle.model.proofs.Decode.{state_of_by, state_of}
use Rattle.model.proofs.Recall.{Stands}
use Rattle.model.proofs.Held.{held_by, blocks_inside, each_node}
use Rattle.model.proofs.Forward.{forward}
use Rattle.model.proofs.Backward.{header_is, stands, state_back, one_state, backward}
use Rattle.model.proofs.Unique.{one_end, agree, refused}

-- ---- one result

pub one_upgrade : (w v : List ℕ) {v₁ v₂ : List ℕ} {r₁ r₂ : Answer} → Upgrade w v v₁ r₁ → Upgrade w v v₂ r₂ → (v₁ ≡ v₂) × (r₁ ≡ r₂)
one_upgrade w v {v₁} {v₂} {r₁} {r₂} = one_end (bad_arena_by Format1 w ∷ bad_size (length v ≡ base (header w count_word) → ⊥) ∷ []) (refused (λ a. a) v) done
  where
    done : Upgraded w v v₁ r₁ → Upgraded w v v₂ r₂ → (v₁ ≡ v₂) × (r₁ ≡ r₂)
    done x y = (agree words_of (one_state x.holds y.holds) x.left y.left, x.said ∙ sym y.said)

-- ---- what is accepted

abbrev number_of : Answer → ℕ
number_of a = (numbers_of a).number

-- the words of both are those of one state
pub record Carried (w v : List ℕ) : Type 0 where
  pub state : State
  pub source : HoldsBy Format1 w state
  pub target : Holds v state

module _ {w v v' : List ℕ} where
  pub upgrade_carried : Upgrade w v v' Done → Carried w v'
  upgrade_carried (inl x) = absurd (let e : 0 ≡ 4 = ap number_of x.1.1 in omega arith)
  upgrade_carried (inr (n, inl x)) = absurd (let e : 0 ≡ 7 = ap number_of x.1.1 in omega arith)
  upgrade_carried (inr (n, inr (m, d))) = record { state = d.state; source = d.holds; target = record { sound = d.holds.sound; words = d.left } }

-- so that the target is well-formed, with the same list and mark
pub carried_formed : {w v : List ℕ} → Carried w v → WellFormedBy Format1 w × WellFormed v
carried_formed {w} {v} c = (backward w c.state c.source, backward v c.state c.target)

pub carried_state : {w v : List ℕ} → Carried w v → state_of v ≡ state_of_by Format1 w
carried_state c = state_back c.target ∙ sym (state_back c.source)

-- ---- what is kept word for word

-- a node's words of format 1 are those of format 2 but for the last
pub words_shared : (x : NodeVal) → node_words x ≡ node_words_by Format1 x ++ (x.total ∷ [])
unfolding node_words_by frame
words_shared x =
    ap (λ l. x.state ∷ length x.pairs ∷ x.parent ∷ x.place ∷ l)
    (sym (append_assoc ks (vs ++ (es ++ [])) (x.total ∷ [])
    ∙ ap (λ l. ks ++ l) (append_assoc vs (es ++ []) (x.total ∷ []) ∙ ap (λ l. vs ++ l) (ap (λ l. l ++ (x.total ∷ [])) (append-nil es)))))
  where
    ks : List ℕ
    ks = pad most (map key_of x.pairs)

    vs : List ℕ
    vs = pad most (map val_of x.pairs)

    es : List ℕ
    es = pad (most + 1) x.edges

module _ {w v : List ℕ} (c : Carried w v) where
  abbrev S : State
  S = c.state

  -- header words 1 to 9
  pub kept_header : (i : ℕ) → 1 ≤ i → i < header_size → header v i ≡ header w i
  kept_header zero l u = absurd (not-suc-le-zero l)
  kept_header (suc i) l u = header_is c.target (suc i) u ∙ sym (header_is c.source (suc i) u)

  -- and all words of a node but its count
  pub kept_node : (n : ℕ) → n < S.size → part v (base n) total_word ≡ part w (base_by Format1 n) total_word
  unfolding part
  kept_node n l =
      let many : n < length (nodes_in S) = omega (arith, nodes_length (blocks_in S) 0 S.size) in
      let x : NodeVal = nth (nodes_in S) n in
      let old = arena_node (held_by {s = S} c.source.sound Format1).arena n many in
      let new = arena_node (held_by {s = S} c.source.sound Format2).arena n many in
      sym (take-take total_word node_size (drop (base n) v) (lit≤ tt))
      ∙ ap (take total_word) (ap (λ l. part l (base n) node_size) c.target.words ∙ new ∙ words_shared x)
      ∙ take_at (node_words_by Format1 x) (x.total ∷ []) total_word (words_length Format1 x ((held_by {s = S} c.source.sound Format1).arena.small n many))
      ∙ sym (ap (λ l. part l (base_by Format1 n) total_word) c.source.words ∙ old)

-- ---- how the promise is met

module _ {w v : List ℕ} where
  pub upgrade_bad : (WellFormedBy Format1 w → ⊥) → Upgrade w v v BadArena
  upgrade_bad b = inl (b, (refl, refl))

  pub upgrade_other : WellFormedBy Format1 w → (length v ≡ base (header w count_word) → ⊥) → Upgrade w v v BadSize
  upgrade_other f b = inr ((λ g. g f), inl (b, (refl, refl)))

  pub upgrade_done : {v' : List ℕ} → WellFormedBy Format1 w → length v ≡ base (header w count_word) → v' ≡ words_of (state_of_by Format1 w) → Upgrade w v v' Done
  upgrade_done f e l = inr ((λ g. g f), inr ((λ g. g e), record { state = state_of_by Format1 w; holds = forward w f; left = l; said = refl }))

-- words are those of format 2 where they keep those of format 1 and each block's count is the last of its words
tab_same : (g h : ℕ → ℕ) (m : ℕ) → ((j : ℕ) → j < m → g j ≡ h j) → tab g m ≡ tab h m
tab_same g h zero e = refl
tab_same g h (suc m) e = λ i. e 0 (omega arith) i ∷ tab_same (λ j. g (suc j)) (λ j. h (suc j)) m (λ j l. e (suc j) (omega arith)) i

reads_on : (w v : List ℕ) (n : ℕ) (x : NodeVal) → ((k : ℕ) → k < total_word → word_at v n k ≡ word_at_by Format1 w n k) → word_at v n total_word ≡ x.total → ReadsBy Format1 w n x → Reads v n x
reads_on w v n x e c r = record {
  small = r.small;
  state_is = e state_word (lit< tt) ∙ r.state_is;
  length_is = e length_word (lit< tt) ∙ r.length_is;
  parent_is = e parent_word (lit< tt) ∙ r.parent_is;
  place_is = e place_word (lit< tt) ∙ r.place_is;
  keys_are = tab_same _ _ most (λ j l. e (keys_word + j) (omega arith)) ∙ r.keys_are;
  values_are = tab_same _ _ most (λ j l. e (values_word + j) (omega arith)) ∙ r.values_are;
  edges_are = tab_same _ _ (most + 1) (λ j l. e (edges_word + j) (omega arith)) ∙ r.edges_are;
  total_is = λ t. c;
}

pub record Copied (w v : List ℕ) (s : State) : Type 0 where
  pub long : length v ≡ base s.size
  pub number : header v format_word ≡ format_number
  pub head : (i : ℕ) → 1 ≤ i → i < header_size → header v i ≡ header w i
  pub nodes : (n k : ℕ) → n < s.size → k < total_word → word_at v n k ≡ word_at_by Format1 w n k
  pub totals : All (λ (b : Block). word_at v b.no total_word ≡ b.val.total) (blocks_in s)

pub copied_words : {w v : List ℕ} {s : State} → HoldsBy Format1 w s → Copied w v s → v ≡ words_of s
unfolding words_of_by part
copied_words {w} {v} {s} o c = arena_are Format2 v (header_of s) (nodes_in s) (c.long ∙ sym (ap base many)) heading (λ n l. each_node o.sound (λ n x. part v (base n) node_size ≡ node_words x) nodes n (omega (arith, many)))
  where
    many : length (nodes_in s) ≡ s.size
    many = nodes_length (blocks_in s) 0 s.size

    at : (i : ℕ) → 1 ≤ i → i < header_size → header v i ≡ get_or (header_of_by Format1 s) i 0
    at i l u = c.head i l u ∙ header_is o i u

    heading : take header_size v ≡ header_of s
    heading = part_tab 0 v 0 header_size (omega (arith, c.long)) ∙ λ i. c.number i ∷ at count_word (lit≤ tt) (lit< tt) i ∷ at offset_word (lit≤ tt) (lit< tt) i ∷ at root_word (lit≤ tt) (lit< tt) i
        ∷ at height_word (lit≤ tt) (lit< tt) i ∷ at pairs_word (lit≤ tt) (lit< tt) i ∷ at first_free_word (lit≤ tt) (lit< tt) i ∷ at free_word (lit≤ tt) (lit< tt) i
        ∷ at seen_word (lit≤ tt) (lit< tt) i ∷ at mark_word (lit≤ tt) (lit< tt) i ∷ []

    within : (b : Block) → b.no < s.size → word_at v b.no total_word ≡ b.val.total → Stands Format1 w b → part v (base b.no) node_size ≡ node_words b.val
    within b l t r = of_reads Format2 v b.no (omega (arith, c.long)) b.val (reads_on w v b.no b.val (λ k u. c.nodes b.no k l u) t r)

    nodes : All (λ (b : Block). part v (base b.no) node_size ≡ node_words b.val) (blocks_in s)
    nodes =
        all_both _ _ _ (λ (b : Block) (l : b.no < s.size) (g : (word_at v b.no total_word ≡ b.val.total) × Stands Format1 w b). within b l g.0 g.1) (blocks_in s) (blocks_inside o.sound)
        (all_both _ _ _ (λ (b : Block) (t : word_at v b.no total_word ≡ b.val.total) (r : Stands Format1 w b). (t, r)) (blocks_in s) c.totals (stands o))
