-- What the words copied are: the source's nodes with no counts; and once they are counted, the source's state in format 2.
-- Assumes nothing.
use Rattle.std.proofs.Common.{ℕ, zero, suc, ◌+◌, ◌≤◌, ◌<◌, arith, ◌≡◌, refl, sym, ap, ap₂, ◌∙◌, subst, List, [], ◌∷◌, ◌++◌, length, take, get_or, set, length-set, length-take}
use lib.ListN.{length-map}
use Rattle.model.specs.Lists.{All, part}
use Rattle.model.specs.declared.Layout.TheVariants.{Format1}
use Rattle.model.specs.Layout.{header_size, total_word, largest_count, format_number, format_word, count_word, root_word, height_word, header, base_by, SizedBy, node_words_by, node_words, cells_by, cells, arena_by, NodeVal, nth, Small, ArenaBy, Arena}
use Rattle.model.specs.Tree.{Item, Tree, Whole, top}
use Rattle.model.specs.State.{State}
use Rattle.model.specs.Words.{root_no, chain_blocks, nodes_in, header_of_by, header_of, words_of_by, words_of}
use Rattle.model.specs.Sound.{AllIn}
use Rattle.model.specs.WellFormed.{WellFormedBy}
use Rattle.model.specs.Promise.{HoldsBy}
use Rattle.model.proofs.Arena.{arena_node}
use Rattle.model.proofs.Decode.{state_of_by}
use Rattle.model.proofs.Held.{Written, sound_laid, held_by}
use Rattle.model.proofs.Forward.{forward}
use Rattle.model.proofs.Upgrades.{words_shared}
use Rattle.store.specs.Links.{Body, body_of, link_of}
use Rattle.standing.specs.Kept.{Child, Links}
use Rattle.standing.specs.Standing.{Stands, Closed}
use Rattle.standing.specs.Totals.{with_total}
use Rattle.standing.proofs.Scenes.{laid_closed, closed_words}
use Rattle.totals.proofs.Settling.{hole_kept}
use Rattle.counting.specs.Counting.{TreeIn, CountedIn}
use Rattle.counting.proofs.Wholes.{all_total}
use Rattle.upgrade.specs.Copies.{bare, copies}
use Rattle.upgrade.proofs.Copied.{take_whole}

-- ---- the nodes with no counts

words_bare : (x : NodeVal) → node_words (with_total x 0) ≡ node_words_by Format1 x ++ (0 ∷ [])
unfolding node_words_by
words_bare x = words_shared (with_total x 0)

nth_bare : (ns : List NodeVal) (q : ℕ) → nth (bare ns) q ≡ with_total (nth ns q) 0
nth_bare [] q = refl
nth_bare (v ∷ ns) zero = refl
nth_bare (v ∷ ns) (suc q) = nth_bare ns q

copies_cells : (w : List ℕ) (ns : List NodeVal) (i : ℕ) → ((n : ℕ) → n < length ns → part w (base_by Format1 (i + n)) total_word ≡ node_words_by Format1 (nth ns n)) → copies w i (length ns) ≡ cells (bare ns)
copies_cells w [] i f = refl
copies_cells w (v ∷ ns) i f =
    ap₂ ◌++◌ (ap (λ l. l ++ (0 ∷ [])) (ap (λ k. part w (base_by Format1 k) total_word) (let z : i ≡ i + 0 = omega arith in z) ∙ f 0 (omega arith)) ∙ sym (words_bare v))
    (copies_cells w ns (suc i) (λ n l. ap (λ k. part w (base_by Format1 k) total_word) (let z : suc i + n ≡ i + suc n = omega arith in z) ∙ f (suc n) (omega arith)))

bare_long : (ns : List NodeVal) → length (bare ns) ≡ length ns
bare_long ns = length-map ns (λ (v : NodeVal). with_total v 0)

same_body : (ns : List NodeVal) (q : ℕ) → body_of (nth (bare ns) q) ≡ body_of (nth ns q)
same_body ns q = ap body_of (nth_bare ns q)

same_link : (ns : List NodeVal) (q : ℕ) → link_of (nth (bare ns) q) ≡ link_of (nth ns q)
same_link ns q = ap link_of (nth_bare ns q)

-- ---- the same tree stands in them

module _ (ns : List NodeVal) where
  items_bare : (h : ℕ) → ((t : Tree h) → Stands ns h t → Stands (bare ns) h t) → (r : List (Item (Tree h))) → AllIn (Stands ns h) r → AllIn (Stands (bare ns) h) r
  items_bare h f [] a = tt
  items_bare h f (x ∷ r) a = (f x.edge a.0, items_bare h f r a.1)

  stands_bare : (h : ℕ) (t : Tree h) → Stands ns h t → Stands (bare ns) h t
  stands_bare zero t s = tt
  stands_bare (suc h) t s = (same_body ns t.no ∙ s.0, stands_bare h t.first s.1, items_bare h (stands_bare h) t.rest s.2)

  chain_bare : (free : List ℕ) → All (Written ns) (chain_blocks free) → All (Written (bare ns)) (chain_blocks free)
  chain_bare [] a = tt
  chain_bare (x ∷ free) a = (nth_bare ns x ∙ ap (λ (v : NodeVal). with_total v 0) a.0, chain_bare free a.1)

  links_bare : Links ns → Links (bare ns)
  links_bare L q i l =
      let e : (nth (bare ns) q).edges ≡ (nth ns q).edges = ap (λ (b : Body). b.edges) (same_body ns q) in
      let c = L q i (subst (λ (es : List ℕ). i < length es) e l) in
      subst (λ (es : List ℕ). Child (bare ns) q i (get_or es i 0)) (sym e)
      (record {
        within = subst (λ (k : ℕ). get_or (nth ns q).edges i 0 < k) (sym (bare_long ns)) c.within;
        live = subst (λ (k : ℕ). 1 ≤ k) (sym (ap (λ (b : Body). b.state) (same_body ns (get_or (nth ns q).edges i 0)))) c.live;
        link = same_link ns (get_or (nth ns q).edges i 0) ∙ c.link;
      })

  bare_closed : (t : Whole) (free : List ℕ) → Closed ns t free → Closed (bare ns) t free
  bare_closed t free H = record {
    few = subst (λ (k : ℕ). k ≤ largest_count) (sym (bare_long ns)) H.few;
    way = tt;
    tree = stands_bare t.height t.root H.tree;
    chain = chain_bare free H.chain;
    rises = H.rises;
    links = links_bare H.links;
    root = same_link ns (root_no t.height t.root) ∙ H.root;
    once = H.once;
    within = λ m u. subst (λ (k : ℕ). m < k) (sym (bare_long ns)) (H.within m u);
    all = λ m u. H.all m (subst (λ (k : ℕ). m < k) (bare_long ns) u);
  }

-- ---- from the source

module _ {w : List ℕ} (f : WellFormedBy Format1 w) where
  abbrev pub S : State
  S = state_of_by Format1 w

  o : HoldsBy Format1 w S
  o = forward w f

  pub closed : Closed (bare (nodes_in S)) S.whole S.free
  closed = bare_closed (nodes_in S) S.whole S.free (laid_closed (sound_laid o.sound))

  source_header : take header_size w ≡ header_of_by Format1 S
  unfolding words_of_by arena_by
  source_header = ap (take header_size) o.words ∙ take_whole (header_of_by Format1 S) (cells_by Format1 (nodes_in S)) header_size refl

  pub source_sized : SizedBy Format1 (header w count_word) (length w)
  source_sized = f.sized

  pub copied_arena : (v : List ℕ) → v ≡ set (take header_size w) format_word format_number ++ copies w 0 (header w count_word) → Arena v (header_of (state_of_by Format1 w)) (bare (nodes_in (state_of_by Format1 w)))
  unfolding arena_by
  copied_arena v e =
      let k = held_by o.sound Format1 in
      let many : length (nodes_in S) ≡ header w count_word = k.many in
      let A = subst (λ (x : List ℕ). ArenaBy Format1 x (header_of_by Format1 S) (nodes_in S)) (sym o.words) k.arena in
      record {
        header_long = refl;
        small = λ n l. subst Small (sym (nth_bare (nodes_in S) n)) (let s = k.arena.small n (subst (λ (j : ℕ). n < j) (bare_long (nodes_in S)) l) in record { pairs_fit = s.pairs_fit; edges_fit = s.edges_fit });
        words = e ∙ ap₂ ◌++◌ (ap (λ (l : List ℕ). set l format_word format_number) source_header) (ap (copies w 0) (sym many) ∙ copies_cells w (nodes_in S) 0 (λ n l. ap (λ j. part w (base_by Format1 j) total_word) (let z : 0 + n ≡ n = omega arith in z) ∙ arena_node A n l));
      }

  abbrev pub copied_tree : TreeIn (bare (nodes_in (state_of_by Format1 w))) (header w root_word) (header w height_word)
  copied_tree = record {
    tree = S.whole.root;
    node_is = refl;
    stands = closed.tree;
    links = closed.links;
    few = closed.few;
    once = λ m. omega (arith, closed.once m);
    within = λ m u. closed.within m (omega arith);
  }

  pub counted_words : (v : List ℕ) → CountedIn v (header_of (state_of_by Format1 w)) (bare (nodes_in (state_of_by Format1 w))) (header w height_word) (state_of_by Format1 w).whole.root → v ≡ words_of (state_of_by Format1 w)
  counted_words v c =
      let H : Closed c.nodes S.whole S.free = hole_kept (top {h = S.whole.height}) S.whole.root S.free c.same closed in
      closed_words S o.sound c.arena refl (c.same.long ∙ bare_long (nodes_in S) ∙ (held_by o.sound Format1).many) H (all_total c.nodes S.whole S.free H c.right)

-- the header copied before the nodes
pub all_copied : (h t w x : List ℕ) → header_size ≤ length w → h ≡ set (take header_size w) format_word format_number → take header_size (h ++ t) ++ x ≡ set (take header_size w) format_word format_number ++ x
all_copied h t w x l e = ap (λ (y : List ℕ). y ++ x) (take_whole h t header_size (ap length e ∙ length-set (take header_size w) format_word format_number ∙ simp length-take (omega arith)) ∙ e)
