-- How many edges lead to a node.
-- Assumes nothing.
use mathlib.Core.Path.{◌≡◌, refl, sym, ap, ◌∙◌}
use mathlib.Core.Logic.{◌≢◌}
use mathlib.Core.List.{List, [], ◌∷◌}
use Prim.Native.Nat.{ℕ, zero, suc, ◌+◌, ◌-◌, ◌≤◌, ◌<◌}
use native.Mathlib.Nat.{not-suc-le-zero}
use native.Mathlib.Decide.{ℕ_discrete, dec_lt}
use native.Mathlib.Omega.{arith}
use lib.ListN.{length, take, drop, get_or, set, take-append-drop}
use Rattle.model.specs.Lists.{one, times}
use Rattle.model.specs.Layout.{NodeVal, nth}
use Rattle.model.proofs.Lists.{one_same, one_other, one_most, times_append}
use Rattle.slices.specs.Words.{remove_at}
use Rattle.store.specs.Links.{Link}
use Rattle.standing.specs.Kept.{Child, Links, leads, Edged}

pub one_self : (n : ℕ) → one n n ≡ 1
one_self n = one_same n n refl

pub times_parts : (c k : ℕ) (l : List ℕ) → times c (take k l) + times c (drop k l) ≡ times c l
times_parts c k l = sym (times_append c (take k l) (drop k l)) ∙ ap (times c) (take-append-drop k l)

pub times_at : (l : List ℕ) (j : ℕ) → j < length l → 1 ≤ times (get_or l j 0) l
times_at [] j h = absurd (not-suc-le-zero h)
times_at (x ∷ l) zero h = omega (arith, one_self x)
times_at (x ∷ l) (suc j) h = omega (arith, times_at l j (omega arith))

pub times_low : (l : List ℕ) (j k : ℕ) → j < k → j < length l → 1 ≤ times (get_or l j 0) (take k l)
times_low [] j k o h = absurd (not-suc-le-zero h)
times_low (x ∷ l) j zero o h = absurd (not-suc-le-zero o)
times_low (x ∷ l) zero (suc k) o h = omega (arith, one_self x)
times_low (x ∷ l) (suc j) (suc k) o h = omega (arith, times_low l j k (omega arith) (omega arith))

pub times_removed : (c : ℕ) (l : List ℕ) (j : ℕ) → j < length l → times c (remove_at l j) + one (get_or l j 0) c ≡ times c l
unfolding remove_at
times_removed c [] j h = absurd (not-suc-le-zero h)
times_removed c (x ∷ l) zero h = omega arith
times_removed c (x ∷ l) (suc j) h = omega (arith, times_removed c l j (omega arith))

pub record Found (l : List ℕ) (c : ℕ) : Type 0 where
  pub at : ℕ
  pub inside : at < length l
  pub same : get_or l at 0 ≡ c

pub times_found : (c : ℕ) (l : List ℕ) → 1 ≤ times c l → Found l c
times_found c [] h = absurd (not-suc-le-zero h)
times_found c (x ∷ l) h = go (ℕ_discrete x c) (times_found c l)
  where
    go : Dec (x ≡ c) → (1 ≤ times c l → Found l c) → Found (x ∷ l) c
    go (yes e) r = record { at = 0; inside = omega arith; same = e }
    go (no d) r = let f = r (omega (arith, one_other x c d)) in record { at = suc f.at; inside = omega (arith, f.inside); same = f.same }

times_one : (c k : ℕ) (l : List ℕ) → ((j : ℕ) → j < length l → get_or l j 0 ≡ c → j ≡ k) → times c l ≤ 1
times_one c k [] f = omega arith
times_one c k (x ∷ l) f = go (ℕ_discrete x c) (dec_lt 0 (times c l)) (times_one c (k - 1) l)
  where
    go : Dec (x ≡ c) → Dec (0 < times c l) → (((j : ℕ) → j < length l → get_or l j 0 ≡ c → j ≡ k - 1) → times c l ≤ 1) → times c (x ∷ l) ≤ 1
    go (yes e) (yes h) r = let z = f 0 (omega arith) e in let t = times_found c l h in let y = f (suc t.at) (omega (arith, t.inside)) t.same in absurd (omega arith)
    go (yes e) (no d) r = omega (arith, one_most x c)
    go (no d) h r = omega (arith, one_other x c d, r (λ j i e. let y = f (suc j) (omega arith) e in omega arith))

-- ---- edges of nodes
pub record Led (ns : List NodeVal) (c : ℕ) : Type 0 where
  pub no : ℕ
  pub at : ℕ
  pub inside : at < length (nth ns no).edges
  pub same : get_or (nth ns no).edges at 0 ≡ c

pub leads_found : (c : ℕ) (ns : List NodeVal) → 1 ≤ leads c ns → Led ns c
leads_found c [] h = absurd (not-suc-le-zero h)
leads_found c (v ∷ ns) h = go (dec_lt 0 (times c v.edges)) (leads_found c ns)
  where
    go : Dec (0 < times c v.edges) → (1 ≤ leads c ns → Led ns c) → Led (v ∷ ns) c
    go (yes k) r = let t = times_found c v.edges k in record { no = 0; at = t.at; inside = t.inside; same = t.same }
    go (no d) r = let t = r (omega arith) in record { no = suc t.no; at = t.at; inside = t.inside; same = t.same }

pub leads_node : (c : ℕ) (ns : List NodeVal) (q : ℕ) → times c (nth ns q).edges ≤ leads c ns
leads_node c [] q = omega arith
leads_node c (v ∷ ns) zero = omega arith
leads_node c (v ∷ ns) (suc q) = omega (arith, leads_node c ns q)

pub leads_two : (c : ℕ) (ns : List NodeVal) (q n : ℕ) → q ≢ n → times c (nth ns q).edges + times c (nth ns n).edges ≤ leads c ns
leads_two c [] q n d = omega arith
leads_two c (v ∷ ns) zero zero d = absurd (d refl)
leads_two c (v ∷ ns) zero (suc n) d = omega (arith, leads_node c ns n)
leads_two c (v ∷ ns) (suc q) zero d = omega (arith, leads_node c ns q)
leads_two c (v ∷ ns) (suc q) (suc n) d = omega (arith, leads_two c ns q n (λ e. d (ap suc e)))

pub leads_set : (c : ℕ) (ns : List NodeVal) (n : ℕ) (v : NodeVal) → n < length ns → leads c (set ns n v) + times c (nth ns n).edges ≡ leads c ns + times c v.edges
leads_set c [] n v h = absurd (not-suc-le-zero h)
leads_set c (u ∷ ns) zero v h = omega arith
leads_set c (u ∷ ns) (suc n) v h = omega (arith, leads_set c ns n v (omega arith))

leads_one : (c a b : ℕ) (ns : List NodeVal) → ((q j : ℕ) → j < length (nth ns q).edges → get_or (nth ns q).edges j 0 ≡ c → (q ≡ a) × (j ≡ b)) → leads c ns ≤ 1
leads_one c a b [] f = omega arith
leads_one c a b (v ∷ ns) f = go (dec_lt 0 (times c v.edges)) (dec_lt 0 (leads c ns)) (leads_one c (a - 1) b ns)
  where
    here : times c v.edges ≤ 1
    here = times_one c b v.edges (λ j h e. (f 0 j h e).1)

    go : Dec (0 < times c v.edges) → Dec (0 < leads c ns) → (((q j : ℕ) → j < length (nth ns q).edges → get_or (nth ns q).edges j 0 ≡ c → (q ≡ a - 1) × (j ≡ b)) → leads c ns ≤ 1) → leads c (v ∷ ns) ≤ 1
    go (yes h) (yes k) r =
        let t = times_found c v.edges h in
        let u = leads_found c ns k in
        let x = f 0 t.at t.inside t.same in
        let y = f (suc u.no) u.at u.inside u.same in
        absurd (omega arith)
    go h (no d) r = omega (arith, here)
    go (no d) (yes k) r = omega (arith, r (λ q j h e. let y = f (suc q) j h e in (omega arith, y.1)))

pub link_parent : {v u : Link} → v ≡ u → v.parent ≡ u.parent
link_parent e = ap (λ (b : Link). b.parent) e

pub link_place : {v u : Link} → v ≡ u → v.place ≡ u.place
link_place e = ap (λ (b : Link). b.place) e

pub led_child : (ns : List NodeVal) (c : ℕ) → Links ns → (t : Led ns c) → Child ns t.no t.at c
led_child ns c L t = rw t.same at (L t.no t.at t.inside)

pub links_edged : (ns : List NodeVal) → Links ns → Edged ns
links_edged ns L = record {
  once = λ c. leads_one c (nth ns c).parent (nth ns c).place ns (λ q j h e. let k = rw e at (L q j h) in (sym (link_parent k.link), sym (link_place k.link)));
  within = λ c h. (led_child ns c L (leads_found c ns h)).within;
  live = λ c h. (led_child ns c L (leads_found c ns h)).live;
}
