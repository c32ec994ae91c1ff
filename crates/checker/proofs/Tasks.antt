-- Tasks in turn: one after another, one that begins another, and the edges of a node.
-- Assumes nothing.
use Rattle.std.proofs.Common.{Option, None, Some, ℕ, zero, suc, ◌+◌, ◌-◌, ◌≤◌, ◌<◌, eq-or-lt_of_le, le_of_suc-le-suc, not-suc-le-zero, add-one, arith, below_more, ◌≡◌, refl, sym, ap, subst, ◌∙◌, ⊎_elim, List, [], ◌∷◌, ◌++◌, append_assoc, append-nil, length, length-append}
use Rattle.model.specs.Lists.{mix_to}
use Rattle.model.specs.declared.Layout.{Layout}
use Rattle.model.specs.Layout.{Counts}
use Rattle.checker.specs.declared.Walk.{Walk}
use Rattle.checker.specs.Walks.{Task, Rises, last_of, Passes, after, Said, Tells, key_task, gap, up_to}
use Rattle.checker.proofs.Order.{rises_left, rises_right, rises_both, last_append}

pub walk_is : {u v : Walk} → u.nodes ≡ v.nodes → u.pairs ≡ v.pairs → u.last ≡ v.last → u ≡ v
walk_is p q r = λ i. record { nodes = p i; pairs = q i; last = r i }

pub gap_said : (w : Walk) → Said gap w (Some w)
unfolding Rises last_of
gap_said w = (record { holds = tt; rises = tt; pairs = omega arith; nodes = omega arith }, walk_is (omega arith) (omega arith) refl)

-- ---- one after another

abbrev pub both : Task → Task → Task
both s t = record { holds = s.holds × t.holds; keys = s.keys ++ t.keys; nodes = s.nodes + t.nodes }

module _ (s t : Task) where
  passes_right : (w : Walk) → Passes (both s t) w → Passes t (after w s)
  passes_right w p = record {
    holds = p.holds.1;
    rises = rises_right _ s.keys t.keys p.rises;
    pairs = omega (arith, length-append s.keys t.keys, p.pairs);
    nodes = omega (arith, p.nodes);
  }

  passes_both : (w : Walk) → Passes s w → Passes t (after w s) → Passes (both s t) w
  passes_both w p q = record {
    holds = (p.holds, q.holds);
    rises = rises_both _ s.keys t.keys p.rises q.rises;
    pairs = omega (arith, length-append s.keys t.keys, p.pairs, q.pairs);
    nodes = omega (arith, p.nodes, q.nodes);
  }

  after_both : (w : Walk) → after (after w s) t ≡ after w (both s t)
  after_both w = walk_is (omega arith) (omega (arith, length-append s.keys t.keys)) (sym (last_append w.last s.keys t.keys))

  -- what is said of the second, after the first was passed, is said of both
  pub then_said : (w v : Walk) (r : Option Walk) → Said s w (Some v) → Said t v r → Said (both s t) w r
  then_said w v None p q = λ b. q (subst (Passes t) (sym p.1) (passes_right w b))
  then_said w v (Some u) p q = (passes_both w p.0 (subst (Passes t) p.1 q.0), q.1 ∙ ap (λ x. after x t) p.1 ∙ after_both w)

-- ---- the same task in other words

pub record Same (s t : Task) : Type 0 where
  pub to : s.holds → t.holds
  pub from : t.holds → s.holds
  pub keys : s.keys ≡ t.keys
  pub nodes : s.nodes ≡ t.nodes

module _ {s t : Task} (e : Same s t) where
  pub same_said : (w : Walk) (r : Option Walk) → Said s w r → Said t w r
  same_said w None q = λ p. q (record { holds = e.from p.holds; rises = rw e.keys p.rises; pairs = omega (arith, ap length e.keys, p.pairs); nodes = omega (arith, e.nodes, p.nodes) })
  same_said w (Some v) q = (
    record { holds = e.to q.0.holds; rises = rw e.keys at q.0.rises; pairs = omega (arith, ap length e.keys, q.0.pairs); nodes = omega (arith, e.nodes, q.0.nodes) },
    q.1 ∙ walk_is (ap (λ n. w.nodes - n) e.nodes) (ap (λ l. w.pairs - length l) e.keys) (ap (last_of w.last) e.keys),
  )

-- ---- a task, and the count of its pairs (in format 2)

abbrev pub counted : Layout → Task → ℕ → Task
counted fm t x = record { holds = t.holds × (Counts fm → x ≡ length t.keys); keys = t.keys; nodes = t.nodes }

-- a task that was answered, and then the count of its pairs compared
abbrev pub Told : Layout → ℕ → Walk → Option Walk → Option Walk → Type 0
Told fm x u None q = q ≡ None
Told fm x u (Some v) q = Tells fm x u v q

module _ (fm : Layout) (t : Task) (x : ℕ) (u : Walk) where
  uncounted : Passes (counted fm t x) u → Passes t u
  uncounted p = record { holds = p.holds.0; rises = p.rises; pairs = p.pairs; nodes = p.nodes }

  passed_pairs : (v : Walk) → Said t u (Some v) → u.pairs - v.pairs ≡ length t.keys
  passed_pairs v s = omega (arith, ap (λ (z : Walk). z.pairs) s.1, s.0.pairs)

  pub counted_said : (d q : Option Walk) → Said t u d → Told fm x u d q → Said (counted fm t x) u q
  counted_said None q s c = subst (Said (counted fm t x) u) (sym c) (λ p. s (uncounted p))
  counted_said (Some v) None s c = λ p. c (λ a. p.holds.1 a ∙ sym (passed_pairs v s))
  counted_said (Some v) (Some q) s c = (
    record { holds = (s.0.holds, λ a. c.0 a ∙ passed_pairs v s); rises = s.0.rises; pairs = s.0.pairs; nodes = s.0.nodes },
    c.1 ∙ s.1,
  )

-- ---- s begins t

pub record Begins (s t : Task) : Type 0 where
  pub holds : t.holds → s.holds
  pub rest : List ℕ
  pub keys : t.keys ≡ s.keys ++ rest
  pub nodes : s.nodes ≤ t.nodes

-- a refusal of what begins a task refuses it
pub refused : {s t : Task} → Begins s t → (w : Walk) → Said s w None → Said t w None
refused {s} b w q = λ p. q (record {
  holds = b.holds p.holds;
  rises = rises_left _ s.keys b.rest (rw b.keys at p.rises);
  pairs = omega (arith, length-append s.keys b.rest, ap length b.keys, p.pairs);
  nodes = omega (arith, b.nodes, p.nodes);
})

-- ---- the edges of a node and the keys between them

mix_on : (f : ℕ → List ℕ) (k : ℕ → ℕ) (i m : ℕ) → i ≤ m → (rest : List ℕ) × (mix_to f k m ≡ mix_to f k i ++ rest)
mix_on f k i zero l = let e : i ≡ 0 = omega arith in rw e ([], refl)
mix_on f k i (suc m) l = ⊎_elim
    (λ e. rw e ([], sym (append-nil _)))
    (λ u. let r = mix_on f k i m (le_of_suc-le-suc u) in (r.0 ++ (f m ++ k m ∷ []), ap (λ x. x ++ (f m ++ k m ∷ [])) r.1 ∙ append_assoc (mix_to f k i) r.0 _))
    (eq-or-lt_of_le l)

pub mix_more : (f : ℕ → List ℕ) (k : ℕ → ℕ) (i : ℕ) → mix_to f k (i + 1) ≡ (mix_to f k i ++ f i) ++ k i ∷ []
mix_more f k i = rw add-one (sym (append_assoc (mix_to f k i) (f i) (k i ∷ [])))

-- m edges, each with the key after it
abbrev pub steps : (ℕ → Task) → (ℕ → ℕ) → (ℕ → ℕ) → ℕ → Task
steps f k size m = record { holds = (i : ℕ) → i < m → (f i).holds; keys = mix_to (λ i. (f i).keys) k m; nodes = size m }

module _ (f : ℕ → Task) (k size : ℕ → ℕ) (more : (i : ℕ) → size (i + 1) ≡ size i + (f i).nodes) where
  size_on : (i m : ℕ) → i ≤ m → size i ≤ size m
  size_on i zero l = let e : i ≡ 0 = omega arith in rw e (omega arith)
  size_on i (suc m) l = ⊎_elim
      (λ e. rw e (omega arith))
      (λ u. omega (arith, size_on i m (le_of_suc-le-suc u), rw add-one at (more m)))
      (eq-or-lt_of_le l)

  -- the next edge, and the key after it
  pub edge_said : (i : ℕ) (w v : Walk) (r : Option Walk) → Said (steps f k size i) w (Some v) → Said (f i) v r → Said (up_to f k size i) w r
  edge_said i w v r p q = same_said (record {
    to = λ h. below_more (λ (j : ℕ). (f j).holds) i h.0 h.1;
    from = λ h. ((λ j l. h j (omega arith)), h i (omega arith));
    keys = refl;
    nodes = sym (more i);
  }) w r (then_said (steps f k size i) (f i) w v r p q)

  pub key_said : (i x : ℕ) (w v : Walk) (r : Option Walk) → x ≡ k i → Said (up_to f k size i) w (Some v) → Said (key_task x) v r → Said (steps f k size (i + 1)) w r
  key_said i x w v r e p q = same_said (record {
    to = λ h. h.0;
    from = λ h. (h, tt);
    keys = rw e (sym (mix_more (λ j. (f j).keys) k i));
    nodes = omega arith;
  }) w r (then_said (up_to f k size i) (key_task x) w v r p q)

  -- refusals, of either, refuse all edges
  pub key_refused : (i m : ℕ) (w : Walk) → i < m → Said (steps f k size (i + 1)) w None → Said (up_to f k size m) w None
  key_refused i m w l = refused (
      let r = mix_on (λ j. (f j).keys) k (i + 1) m (omega arith) in
      record {
        holds = λ h j u. h j (omega arith);
        rest = r.0 ++ (f m).keys;
        keys = ap (λ x. x ++ (f m).keys) r.1 ∙ append_assoc (mix_to (λ j. (f j).keys) k (i + 1)) r.0 (f m).keys;
        nodes = size_on (i + 1) (m + 1) (omega arith);
      }
      ) w

  pub edge_refused : (i m : ℕ) (w : Walk) → i < m → Said (up_to f k size i) w None → Said (up_to f k size m) w None
  edge_refused i m w l q =
      key_refused i m w l (refused (record { holds = λ h. h; rest = k i ∷ []; keys = mix_more (λ j. (f j).keys) k i; nodes = omega arith }) w q)

  pub steps_none : (w : Walk) → size 0 ≡ 0 → Said (steps f k size 0) w (Some w)
  steps_none w e = same_said (record { to = λ h j l. absurd (not-suc-le-zero l); from = λ h. tt; keys = refl; nodes = sym e }) w (Some w) (gap_said w)
