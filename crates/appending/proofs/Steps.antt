-- A push, step by step, on the list of nodes: a new leaf beside the hole, a node above it, and the level put on as a new root.
-- Assumes nothing.
use Prim.Native.Nat.{ℕ, zero, suc, ◌+◌, ◌≤◌, ◌<◌}
use native.Mathlib.Omega.{arith}
use mathlib.Core.Path.{◌≡◌, ap, ◌∙◌}
use mathlib.Core.List.{List, [], ◌∷◌}
use lib.ListN.{length, set}
use lib.Seq.{get_or-set_same}
use Rattle.model.specs.Layout.{leaf, NodeVal, nth, blank}
use Rattle.model.specs.Tree.{Tree, Ctx, has, has_ctx}
use Rattle.model.specs.Words.{kind, first_or}
use Rattle.store.specs.Links.{body_of, fresh}
use Rattle.internal.specs.Inner.{crown_nodes}
use Rattle.standing.specs.Kept.{Kept}
use Rattle.standing.specs.Standing.{root_of, Hole, Aside}
use Rattle.standing.proofs.Leads.{one_self, link_parent}
use Rattle.standing.proofs.Relinks.{body_state}
use Rattle.standing.proofs.Frames.{stands_kept, way_kept, chain_kept}
use Rattle.shrinking.proofs.Steps.{root_in}
use Rattle.growing.proofs.Puts.{Crowns, take_kept, push_kept, push_body, push_root}
use Rattle.growing.proofs.Steps.{free_in}

-- ---- nothing beside the hole

pub hole_of : {ns : List NodeVal} {h : ℕ} (c : Ctx h) (x : Tree h) (free : List ℕ) → Aside ns c x 0 tt free → Hole ns c x free
hole_of c x free H = record {
  few = H.few;
  way = H.way;
  tree = H.low;
  chain = H.chain;
  rises = H.rises;
  links = H.links;
  root = H.root;
  once = λ m. omega (arith, H.once m);
  within = λ m u. H.within m (omega arith);
  all = λ m u. omega (arith, H.all m u);
}

-- the root is in the tree
root_has : {h : ℕ} (c : Ctx (suc h)) (x : Tree (suc h)) → 1 ≤ has_ctx (root_of c x.no) c + has (root_of c x.no) (suc h) x
root_has c x = omega (arith, root_in c x.no, one_self x.no)

-- ---- a node taken

-- as a leaf, beside nothing
module _ {h : ℕ} (c : Ctx (suc h)) (x : Tree (suc h)) (m : ℕ) (free : List ℕ) {ns : List NodeVal} (O : Aside ns c x 0 tt (m ∷ free)) where
  abbrev pub new_leaf : Tree 1
  new_leaf = record { no = m; first = tt; rest = [] }

  abbrev pub with_leaf : List NodeVal
  with_leaf = set ns m (fresh leaf)

  K : Kept ns with_leaf (m ∷ []) (m ∷ [])
  K = take_kept ns O.links O.few m (first_or free) leaf (free_in c x 0 tt m free O) O.chain.0

  at_m : nth with_leaf m ≡ fresh leaf
  at_m = get_or-set_same ns m (fresh leaf) blank (free_in c x 0 tt m free O)

  pub leaf_step : Aside with_leaf c x 1 new_leaf free
  leaf_step = record {
    few = rw K.long O.few;
    way = way_kept _ _ _ _ K c x.no (λ q. omega (arith, O.once q)) O.way;
    low = stands_kept _ _ _ _ K (suc h) x (λ q. omega (arith, O.once q)) O.low;
    high = (ap body_of at_m, tt, tt);
    loose = ap (λ (v : NodeVal). v.parent) at_m;
    chain = chain_kept _ _ _ _ K free (λ q. omega (arith, O.once q)) O.chain.1;
    rises = O.rises.1;
    links = K.links;
    root = K.roots (root_of c x.no) (omega (arith, O.once (root_of c x.no), root_has c x)) (link_parent O.root) ∙ O.root;
    once = λ q. omega (arith, O.once q);
    within = λ q u. rw K.long (O.within q (omega arith));
    all = λ q u. omega (arith, O.all q (rw K.long at u));
  }

-- as an internal node above the tree beside the hole
module _ {h : ℕ} (c : Ctx (suc h)) (x : Tree (suc h)) {j : ℕ} (y : Tree (suc j)) (m : ℕ) (free : List ℕ) {ns : List NodeVal} (O : Aside ns c x (suc j) y (m ∷ free)) where
  abbrev pub raised : Tree (suc (suc j))
  raised = record { no = m; first = y; rest = [] }

  kind_some : (h : ℕ) → 1 ≤ kind h
  kind_some zero = omega arith
  kind_some (suc h) = omega arith

  pub high_in : y.no < length ns
  high_in = O.within y.no (omega (arith, one_self y.no))

  crowns : Crowns ns y.no m (first_or free)
  crowns = record {
    few = O.few;
    inside = free_in c x (suc j) y m free O;
    is_free = O.chain.0;
    root = high_in;
    live = rw (body_state O.high.0) (kind_some j);
    loose = O.loose;
  }

  Kc : Kept ns (crown_nodes ns m y.no) (m ∷ []) (m ∷ y.no ∷ [])
  Kc = push_kept ns O.links y.no m (first_or free) crowns

  pub crown_long : length (crown_nodes ns m y.no) ≡ length ns
  crown_long = Kc.long

  pub crown_step : Aside (crown_nodes ns m y.no) c x (suc (suc j)) raised free
  crown_step = record {
    few = rw Kc.long O.few;
    way = way_kept _ _ _ _ Kc c x.no (λ q. omega (arith, O.once q)) O.way;
    low = stands_kept _ _ _ _ Kc (suc h) x (λ q. omega (arith, O.once q)) O.low;
    high = (push_body ns O.links y.no m (first_or free) crowns, stands_kept _ _ _ _ Kc (suc j) y (λ q. omega (arith, O.once q)) O.high, tt);
    loose = link_parent (push_root ns O.links y.no m (first_or free) crowns);
    chain = chain_kept _ _ _ _ Kc free (λ q. omega (arith, O.once q)) O.chain.1;
    rises = O.rises.1;
    links = Kc.links;
    root = Kc.roots (root_of c x.no) (omega (arith, O.once (root_of c x.no), root_has c x, one_self y.no)) (link_parent O.root) ∙ O.root;
    once = λ q. omega (arith, O.once q);
    within = λ q u. rw Kc.long (O.within q (omega arith));
    all = λ q u. omega (arith, O.all q (rw Kc.long at u));
  }
