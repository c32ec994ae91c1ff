-- The steps of two walks that are merged.
-- Assumes nothing.
use Rattle.model.specs.declared.SearchBound.TheVariants.{AllIncluded}
use Rattle.model.specs.declared.Range.{Range}
use Rattle.model.specs.Lists.{All}
use Rattle.model.specs.Layout.{largest_count, most, header, pairs_word}
use Rattle.model.specs.Tree.{Pair, top, flat_of, before, after}
use Rattle.model.specs.Search.{sink}
use Rattle.model.specs.Range.{from_start, starts}
use Rattle.model.specs.State.{State, list}
use Rattle.model.specs.Sound.{Sound}
use Rattle.model.specs.WellFormed.{WellFormed}
use Rattle.model.specs.Promise.{Holds, laid}
use Rattle.model.specs.Merge.{merge}
use Rattle.model.specs.Join.{joined_run}
use Rattle.model.proofs.Plug.{flat_plug}
use Rattle.model.proofs.Walks.{start_edge, start_parts}
use Rattle.model.proofs.Bounds.{few}
use Rattle.model.proofs.Header.{header_is}
use Rattle.model.proofs.Ends.{both_ways}
use Rattle.loading.proofs.Merging.{against_first, against_both, against_second, length_merge}
use Rattle.std.proofs.Common.{Some, ℕ, ◌+◌, ◌*◌, ◌≤◌, ◌<◌, arith, ◌≡◌, refl, sym, ap, ◌∙◌, subst, false, List, [], ◌∷◌, ◌++◌, append_assoc, append-nil, lit<, length, set, length-append}
use Rattle.node.specs.declared.Kv.{Kv}
use Rattle.node.specs.Reading.{pair_of}
use Rattle.search.specs.declared.Handle.{Handle}
use Rattle.search.specs.Results.{leaf_edge}
use Rattle.navigate.specs.Places.{In, EdgeAt}
use Rattle.listing.specs.Heads.{Head, HeadOf}
use Rattle.listing.proofs.Sofar.{laid_more}
use Rattle.merging.specs.Heads.{HeadIn, Stepped}

-- ---- one walk

-- where it begins: before all pairs
none_before : (l : List Pair) → All (λ (p : Pair). from_start AllIncluded p.key ≡ false) l → l ≡ []
none_before [] a = refl
none_before (p ∷ l) a = both_ways refl a.0

abbrev all : Range
all = record { start = AllIncluded; end = AllIncluded }

abbrev pub start_at : {s : State} → Sound s → (d : Handle) → d ≡ leaf_edge (sink (starts AllIncluded) s.whole.height top s.whole.root) → EdgeAt s d
start_at {s} o d e = record { way = start_edge all s.whole; whole = (start_parts all s.whole o.rising).whole; is = e }

pub start_after : {s : State} (o : Sound s) (d : Handle) (e : d ≡ leaf_edge (sink (starts AllIncluded) s.whole.height top s.whole.root)) → after (start_at o d e).way ≡ list s
start_after {s} o d e =
    let p = start_parts all s.whole o.rising in
    let c = start_edge all s.whole in
    sym (ap flat_of (sym p.whole) ∙ (flat_plug c tt ∙ ap (λ (l : List Pair). l ++ after c) (none_before (before c) p.leaves)))

-- ---- a step of both

module _ {s t : State} {ps qs : List Pair} where
  pub no_first : {q : Kv} {x h : Head} (b : List Pair) → ps ≡ [] → HeadOf s ps x → qs ≡ pair_of q ∷ b → HeadOf t b h → Stepped s t (merge ps qs) q x h
  no_first b e x f h = record { first = ps; second = b; first_is = x; second_is = h; split = rw (e, f) refl }

  pub no_second : {p : Kv} {y h : Head} (a : List Pair) → ps ≡ pair_of p ∷ a → qs ≡ [] → HeadOf t qs y → HeadOf s a h → Stepped s t (merge ps qs) p h y
  no_second a e f y h = record { first = a; second = qs; first_is = h; second_is = y; split = rw (e, f) refl }

  module _ {p q : Kv} (a b : List Pair) (e : ps ≡ pair_of p ∷ a) (f : qs ≡ pair_of q ∷ b) where
    pub first_less : {y h : Head} → p.0 < q.0 → HeadOf t qs y → HeadOf s a h → Stepped s t (merge ps qs) p h y
    first_less l y h = record { first = a; second = qs; first_is = h; second_is = y; split = rw (e, f) (against_first (pair_of p) (merge a) (pair_of q) b l) }

    pub both_same : {g h : Head} → p.0 ≡ q.0 → HeadOf s a g → HeadOf t b h → Stepped s t (merge ps qs) q g h
    both_same l g h = record { first = a; second = b; first_is = g; second_is = h; split = rw (e, f) (against_both (pair_of p) (merge a) (pair_of q) b l) }

    pub second_less : {x h : Head} → q.0 < p.0 → HeadOf s ps x → HeadOf t b h → Stepped s t (merge ps qs) q x h
    second_less l x h = record { first = ps; second = b; first_is = x; second_is = h; split = rw (e, f) (against_second (pair_of p) (merge a) (pair_of q) b l) }

-- the edge that a head has after it
pub edge_of : {w : List ℕ} {h : Head} (x : Kv × Handle) → h ≡ Some x → In w (λ s. HeadIn s h) → In w (λ s. EdgeAt s x.1)
edge_of x e y = record { state = y.state; holds = y.holds; there = (subst (HeadOf y.state y.there.0) e y.there.1).0 }

-- ---- the whole walk

-- n pairs of all are told, these; the heads have the others
pub record Going (s t : State) (done : List Pair) (n : ℕ) (x y : Head) : Type 0 where
  pub first : List Pair
  pub second : List Pair
  pub first_is : HeadOf s first x
  pub second_is : HeadOf t second y
  pub split : joined_run s t ≡ done ++ merge first second
  pub count : length done ≡ n

pub going_start : {s t : State} {x y : Head} → HeadOf s (list s) x → HeadOf t (list t) y → Going s t [] 0 x y
going_start {s} {t} x y = record { first = list s; second = list t; first_is = x; second_is = y; split = refl; count = refl }

-- some are
abbrev pub Counting : State → State → ℕ → Head → Head → Type 0
Counting s t n x y = (done : List Pair) × Going s t done n x y

-- and written over the first words of o₀
abbrev pub Writing : State → State → (o₀ o : List ℕ) → ℕ → Head → Head → Type 0
Writing s t o₀ o n x y = (done : List Pair) × Going s t done n x y × (o ≡ laid done o₀)

-- the joined run is no longer than both counts
pub run_few : {a b : List ℕ} {s t : State} → Holds a s → Holds b t → length (joined_run s t) ≤ header a pairs_word + header b pairs_word
run_few {s = s} {t} g h = omega (arith, length_merge (list s) (list t), header_is g pairs_word (lit< tt), header_is h pairs_word (lit< tt))

pub pairs_few : {a : List ℕ} → WellFormed a → header a pairs_word ≤ most * largest_count
pairs_few f = omega (arith, few f, f.sized.few)

none_left : (l : List Pair) → length l ≤ 0 → l ≡ []
none_left [] u = refl
none_left (p ∷ l) u = absurd (omega arith)

module _ {s t : State} {done : List Pair} {n : ℕ} {x y : Head} (g : Going s t done n x y) where
  pub all_told : merge g.first g.second ≡ [] → joined_run s t ≡ done
  all_told e = g.split ∙ (ap (λ (l : List Pair). done ++ l) e ∙ append-nil done)

  -- what is before both walks
  pub in_both : {a b : List ℕ} → Holds a s → Holds b t → In a (λ s. HeadIn s x) × In b (λ t. HeadIn t y)
  in_both o u = (record { state = s; holds = o; there = (g.first, g.first_is) }, record { state = t; holds = u; there = (g.second, g.second_is) })

  -- as many are told as both headers count: that is all
  pub counted_all : {a b : List ℕ} → Holds a s → Holds b t → header a pairs_word + header b pairs_word ≤ n → joined_run s t ≡ done
  counted_all o u l = all_told (none_left (merge g.first g.second) (omega (arith, ap length g.split, length-append done (merge g.first g.second), g.count, run_few o u, l)))

  module _ {kv : Kv} {f h : Head} (z : Stepped s t (merge g.first g.second) kv f h) where
    pub one_more : Going s t (done ++ pair_of kv ∷ []) (n + 1) f h
    one_more = record {
      first = z.first;
      second = z.second;
      first_is = z.first_is;
      second_is = z.second_is;
      split = g.split ∙ (ap (λ (l : List Pair). done ++ l) z.split ∙ simp append_assoc);
      count = length-append done (pair_of kv ∷ []) ∙ omega (arith, g.count);
    }

    pub written : (o₀ o : List ℕ) → o ≡ laid done o₀ → 2 * n + 2 ≤ length o₀ → set (set o (2 * n) kv.0) (2 * n + 1) kv.1 ≡ laid (done ++ pair_of kv ∷ []) o₀
    written o₀ o e l = ap (λ (o : List ℕ). set (set o (2 * n) kv.0) (2 * n + 1) kv.1) e ∙ laid_more done (pair_of kv) o₀ n g.count l
