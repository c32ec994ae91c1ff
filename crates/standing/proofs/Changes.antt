-- Changes of bodies, links written, nodes written anew: what is kept, step by step.
-- Assumes nothing.
use mathlib.Core.Path.{◌≡◌, refl, sym, ap, ◌∙◌}
use mathlib.Core.Logic.{◌≢◌}
use mathlib.Core.List.{List, [], ◌∷◌}
use Prim.Native.Nat.{ℕ, ◌≤◌, ◌<◌}
use native.Mathlib.Nat.{not-suc-le-zero}
use native.Mathlib.Decide.{ℕ_discrete, dec_lt}
use native.Mathlib.Omega.{arith}
use lib.ListN.{length, drop, get_or, set, length-set, get_or-eq_default}
use lib.Seq.{get_or-set_same, get_or-set_other}
use Rattle.model.specs.Lists.{times}
use Rattle.model.specs.Layout.{none, largest_count, NodeVal, nth, blank}
use Rattle.model.proofs.Lists.{one_same}
use Rattle.store.specs.Links.{body_of, link_of, relink_from}
use Rattle.store.proofs.Relink.{relink_length, relink_body}
use Rattle.standing.specs.Kept.{Child, Links, leads, Edged, Bodied, Kept}
use Rattle.standing.proofs.Leads.{times_parts, times_at, leads_node, Led, leads_found, led_child, link_parent, links_edged}
use Rattle.standing.proofs.Relinks.{relink_other, relink_leads}

-- ---- who is a child
module _ (ns : List NodeVal) (L : Links ns) (few : length ns ≤ largest_count) where
  pub led_parent : (c : ℕ) → 1 ≤ leads c ns → (nth ns c).parent ≤ largest_count
  led_parent c h =
      let t = leads_found c ns h in
      let k = led_child ns c L t in
      go t k (dec_lt t.no (length ns))
    where
      go : (t : Led ns c) → Child ns t.no t.at c → Dec (t.no < length ns) → (nth ns c).parent ≤ largest_count
      go t k (yes o) = let e = link_parent k.link in omega arith
      go t k (no d) =
          let b : nth ns t.no ≡ blank = get_or-eq_default ns blank (omega arith) in
          let l : length (nth ns t.no).edges ≡ 0 = rw b refl in
          absurd (omega (arith, t.inside))

  pub root_unled : (c : ℕ) → (nth ns c).parent ≡ none → leads c ns ≡ 0
  root_unled c e = go (dec_lt 0 (leads c ns))
    where
      go : Dec (0 < leads c ns) → leads c ns ≡ 0
      go (yes h) = absurd (let z = led_parent c h in omega arith)
      go (no d) = omega arith

  pub free_unled : (c : ℕ) → (nth ns c).state ≡ 0 → leads c ns ≡ 0
  free_unled c e = go (dec_lt 0 (leads c ns))
    where
      go : Dec (0 < leads c ns) → leads c ns ≡ 0
      go (yes h) = absurd (let z = (links_edged ns L).live c h in omega arith)
      go (no d) = omega arith

-- ---- links written: bodies stay, and so do nodes that no edge leads to
pub record Relinked (ns ns' : List NodeVal) : Type 0 where
  pub long : length ns' ≡ length ns
  pub bodies : (q : ℕ) → body_of (nth ns' q) ≡ body_of (nth ns q)
  pub unled : (q : ℕ) → leads q ns ≡ 0 → nth ns' q ≡ nth ns q
  pub leading : (q : ℕ) → leads q ns' ≡ leads q ns

pub relinked_one : (ns : List NodeVal) (n k : ℕ) → Relinked ns (relink_from ns n k)
relinked_one ns n k = record {
  long = relink_length ns n k (drop k (nth ns n).edges);
  bodies = λ q. relink_body ns n k (drop k (nth ns n).edges) q;
  unled = λ q z. relink_other ns n k (drop k (nth ns n).edges) q (omega (arith, times_parts q k (nth ns n).edges, leads_node q ns n));
  leading = λ q. relink_leads q ns n k (drop k (nth ns n).edges);
}

pub relinked_trans : {a b c : List NodeVal} → Relinked a b → Relinked b c → Relinked a c
relinked_trans x y = record {
  long = y.long ∙ x.long;
  bodies = λ q. y.bodies q ∙ x.bodies q;
  unled = λ q z. y.unled q (x.leading q ∙ z) ∙ x.unled q z;
  leading = λ q. y.leading q ∙ x.leading q;
}

-- bodies changed at xs, then links written; of the nodes that no edge led to, edges lead to those of ys now
pub kept_linked : (ns mid ns' : List NodeVal) (xs ys : List ℕ) → Links ns → length ns ≤ largest_count → Bodied ns mid xs → Relinked mid ns' → ((q : ℕ) → (nth ns q).state ≡ 0 → leads q mid ≤ leads q ns)
    → ((q : ℕ) → times q ys ≡ 0 → (nth ns q).parent ≡ none → leads q mid ≤ leads q ns) → Links ns' → Kept ns ns' xs ys
kept_linked ns mid ns' xs ys L few B R f g l = record {
  long = R.long ∙ B.long;
  bodies = λ q z. R.bodies q ∙ ap body_of (B.others q z);
  frees = λ q z s. R.unled q (omega (arith, f q s, free_unled ns L few q s)) ∙ B.others q z;
  roots = λ q z s. ap link_of (R.unled q (omega (arith, g q z s, root_unled ns L few q s))) ∙ B.linking q;
  links = l;
}

-- no edge leads to a node that none led to
pub kept_relinked : (ns mid ns' : List NodeVal) (xs : List ℕ) → Links ns → length ns ≤ largest_count → Bodied ns mid xs → Relinked mid ns' → ((q : ℕ) → leads q mid ≤ leads q ns) → Links ns' → Kept ns ns' xs []
kept_relinked ns mid ns' xs L few B R f l = kept_linked ns mid ns' xs [] L few B R (λ q s. f q) (λ q z s. f q) l

pub kept_trans : {a b c : List NodeVal} {xs ys : List ℕ} → Kept a b xs ys → Kept b c xs ys → Kept a c xs ys
kept_trans x y = record {
  long = y.long ∙ x.long;
  bodies = λ q z. y.bodies q z ∙ x.bodies q z;
  frees = λ q z s. y.frees q z (ap (λ (v : NodeVal). v.state) (x.frees q z s) ∙ s) ∙ x.frees q z s;
  roots = λ q z s. y.roots q z (link_parent (x.roots q z s) ∙ s) ∙ x.roots q z s;
  links = y.links;
}

pub kept_more : {a b : List NodeVal} (xs ys xs' ys' : List ℕ) → ((q : ℕ) → times q xs' ≡ 0 → times q xs ≡ 0) → ((q : ℕ) → times q ys' ≡ 0 → times q ys ≡ 0) → Kept a b xs ys → Kept a b xs' ys'
kept_more xs ys xs' ys' f g k = record { long = k.long; bodies = λ q z. k.bodies q (f q z); frees = λ q z. k.frees q (f q z); roots = λ q z. k.roots q (g q z); links = k.links }

-- ---- a node that no edge leads to, and that has no edges, written anew without edges
module _ (ns : List NodeVal) (L : Links ns) (m : ℕ) (v : NodeVal) (o : m < length ns) (unled : leads m ns ≡ 0) (bare : v.edges ≡ []) where
  other : (q : ℕ) → q ≢ m → nth (set ns m v) q ≡ nth ns q
  other q d = get_or-set_other ns m q v blank d

  anew_links : Links (set ns m v)
  anew_links q j h = go (ℕ_discrete q m)
    where
      go : Dec (q ≡ m) → Child (set ns m v) q j (get_or (nth (set ns m v) q).edges j 0)
      go (yes e) = absurd (not-suc-le-zero (rw (e, get_or-set_same ns m v blank o, bare) at h))
      go (no d) =
          let w = other q d in
          let g : j < length (nth ns q).edges = rw w at h in
          let k = L q j g in
          let s : nth (set ns m v) (get_or (nth ns q).edges j 0) ≡ nth ns (get_or (nth ns q).edges j 0) = other (get_or (nth ns q).edges j 0) (λ e. omega (arith, times_at (nth ns q).edges j g, leads_node (get_or (nth ns q).edges j 0) ns q, ap (λ (c : ℕ). leads c ns) e)) in
          rw w (record { within = rw length-set k.within; live = rw s k.live; link = ap link_of s ∙ k.link })

  pub anew_kept : Kept ns (set ns m v) (m ∷ []) (m ∷ [])
  anew_kept = record {
    long = length-set ns m v;
    bodies = λ q z. ap body_of (other q (λ e. omega (arith, one_same m q (sym e))));
    frees = λ q z s. other q (λ e. omega (arith, one_same m q (sym e)));
    roots = λ q z s. ap link_of (other q (λ e. omega (arith, one_same m q (sym e))));
    links = anew_links;
  }

pub bodied_child : (ns ns' : List NodeVal) (xs : List ℕ) (q j c : ℕ) → Bodied ns ns' xs → Child ns q j c → Child ns' q j c
bodied_child ns ns' xs q j c b k = record { within = rw b.long k.within; live = rw (b.states c) k.live; link = b.linking c ∙ k.link }

pub bodied_edged : (ns ns' : List NodeVal) (xs : List ℕ) → Bodied ns ns' xs → ((c : ℕ) → leads c ns' ≤ leads c ns) → Edged ns → Edged ns'
bodied_edged ns ns' xs b f e = record {
  once = λ c. omega (arith, f c, e.once c);
  within = λ c h. rw b.long (e.within c (omega (arith, f c)));
  live = λ c h. rw (b.states c) (e.live c (omega (arith, f c)));
}
