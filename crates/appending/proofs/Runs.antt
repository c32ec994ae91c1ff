-- A run pushed pair by pair; where it begins, in a formatted arena, and what it leaves to be stocked.
-- Assumes nothing.
use Prim.Native.Nat.{ℕ, zero, suc, ◌+◌, ◌-◌, ◌≤◌, ◌<◌}
use native.Mathlib.Omega.{arith}
use mathlib.Core.Path.{◌≡◌, refl, ap, ◌∙◌, sym, subst}
use mathlib.Core.Bool.{Bool, true, false}
use mathlib.Core.List.{List, [], ◌∷◌, ◌++◌}
use lib.ListN.{length, take, get_or}
use Rattle.model.specs.Layout.{most, largest_count, base}
use Rattle.model.specs.Tree.{Pair, Tree, Ctx, top, under, plug, fill}
use Rattle.model.specs.State.{formatted, others_of}
use Rattle.model.specs.Words.{words_of, nodes_in}
use Rattle.model.specs.Promise.{Holds}
use Rattle.model.proofs.Calls.{formatted_sound}
use Rattle.model.proofs.Held.{held_of}
use Rattle.standing.specs.Heads.{Rest, rest_of, ClosedBy, Uncounted}
use Rattle.standing.proofs.Scenes.{closed_of}
use Rattle.fix.proofs.Holes.{hole_long}
use Rattle.model.specs.Load.{Loading, opened, climb, push, push_all, begun, pairs_of}
use Rattle.model.specs.Room.{nodes_for}
use borrow.Author.Tests.{le-leb, lt-leb}
use Rattle.model.specs.Insert.{is_full}
use Rattle.loading.specs.Shapes.{Filling, Inner}
use Rattle.loading.proofs.Pushing.{begun_filled, pushed, climb_room, climb_full}
use Rattle.loading.proofs.Stocking.{filling_plenty}
use Rattle.loading.proofs.Loads.{load_nodes}
use Rattle.loading.proofs.Least.{nodes_more}
use Rattle.appending.specs.Pushes.{free_from, last_long, LoadIn}
use Rattle.appending.specs.Stocks.{Pushed}
use Rattle.appending.specs.Runs.{Begun}

-- ---- the run

abbrev pub pair_at : List ℕ → ℕ → Pair
pair_at run i = record { key = get_or run i 0; val = get_or run (i + 1) 0 }

pub pairs_more : (j : ℕ) (run : List ℕ) → j + j + 2 ≤ length run → pairs_of (take (j + j + 2) run) ≡ pairs_of (take (j + j) run) ++ pair_at run (j + j) ∷ []
pairs_more j [] l = absurd (omega arith)
pairs_more j (k ∷ []) l = absurd (omega arith)
pairs_more zero (k ∷ v ∷ ws) l = refl
pairs_more (suc j) (k ∷ v ∷ ws) l =
    let a : suc j + suc j + 2 ≡ suc (suc (j + j + 2)) = omega arith in
    let b : suc j + suc j ≡ suc (suc (j + j)) = omega arith in
    let c : suc (suc (j + j)) + 1 ≡ suc (suc (j + j + 1)) = omega arith in
    rw (a, b, c) (ap (λ (l : List Pair). record { key = k; val = v } ∷ l) (pairs_more j ws (omega arith)))

pairs_few : (n : ℕ) (run : List ℕ) → length (pairs_of (take n run)) ≤ length (pairs_of run)
pairs_few zero run = omega arith
pairs_few (suc n) [] = omega arith
pairs_few (suc zero) (k ∷ []) = omega arith
pairs_few (suc (suc n)) (k ∷ []) = omega arith
pairs_few (suc zero) (k ∷ v ∷ ws) = omega arith
pairs_few (suc (suc n)) (k ∷ v ∷ ws) = omega (arith, pairs_few n ws)

pub push_last : (ps : List Pair) (p : Pair) (l : Loading) → push_all (ps ++ p ∷ []) l ≡ push p (push_all ps l)
push_last [] p l = refl
push_last (q ∷ ps) p l = push_last ps p (push q l)

-- ---- how many pairs the last leaf has

opened_long : (h : ℕ) (c : Ctx (suc h)) (n : ℕ) → last_long (opened (suc h) c n) ≡ 0
opened_long zero c n = refl
opened_long (suc h) c n = opened_long h (under (record { no = n + suc h; left = []; right = [] }) c) n

climb_long : {h : ℕ} (c : Ctx (suc h)) (x : Tree (suc h)) (p : Pair) (n : ℕ) → last_long (climb c x p n).way ≡ 0
climb_long {h} top x p n = opened_long h (under (record { no = n; left = record { pair = p; edge = x } ∷ []; right = [] }) top) (n + 1)
climb_long {h} (under f c) x p n = by (is_full f) refl (climb_long c (fill f.no f.left x f.right) p n)
  where
    by : (b : Bool) → is_full f ≡ b → last_long (climb c (fill f.no f.left x f.right) p n).way ≡ 0 → last_long (climb (under f c) x p n).way ≡ 0
    by false e ih = ap (λ (l : Loading). last_long l.way) (climb_room f c x p n e) ∙ opened_long h (under (pushed f c x p n) c) n
    by true e ih = ap (λ (l : Loading). last_long l.way) (climb_full f c x p n e) ∙ ih

module _ (p : Pair) (l : Loading) (fl : Filling l.way) (inner : Inner l.way) where
  pub push_more : last_long l.way < most → last_long (push p l).way ≡ last_long l.way + 1
  push_more u = go l.way fl inner u
    where
      go : (c : Ctx 0) → Filling c → Inner c → last_long c < most → last_long (climb c tt p l.next).way ≡ last_long c + 1
      go top fc i u = absurd i
      go (under f c) fc i u = ap (λ (l : Loading). last_long l.way) (climb_room f c tt p l.next (lt-leb most (length f.left + length f.right) (omega (arith, ap length fc.0)))) ∙ omega arith

  pub push_none : most ≤ last_long l.way → last_long (push p l).way ≡ 0
  push_none u = go l.way inner u
    where
      go : (c : Ctx 0) → Inner c → most ≤ last_long c → last_long (climb c tt p l.next).way ≡ 0
      go top i u = absurd i
      go (under f c) i u = ap (λ (l : Loading). last_long l.way) (climb_full f c tt p l.next (le-leb most (length f.left + length f.right) (omega arith))) ∙ climb_long c (fill f.no f.left tt f.right) p l.next

-- ---- a turn

module _ (size : ℕ) (run : List ℕ) (j : ℕ) (room : nodes_for (length (pairs_of run)) ≤ size) (inside : j + j + 2 ≤ length run) where
  abbrev before : Loading
  before = push_all (pairs_of (take (j + j) run)) begun

  pub turn_is : push (pair_at run (j + j)) before ≡ push_all (pairs_of (take (j + j + 2) run)) begun
  turn_is = sym (push_last (pairs_of (take (j + j) run)) (pair_at run (j + j)) begun) ∙ ap (λ (q : List Pair). push_all q begun) (sym (pairs_more j run inside))

  pub turn_room : (push (pair_at run (j + j)) before).next ≤ size
  turn_room =
      let e = ap (λ (l : Loading). l.next) turn_is ∙ load_nodes (pairs_of (take (j + j + 2) run)) in
      omega (arith, e, nodes_more (length (pairs_of (take (j + j + 2) run))) (length (pairs_of run)) (pairs_few (j + j + 2) run))

pub load_long : {w : List ℕ} {g : Rest} {leaf : ℕ} {l : Loading} → LoadIn w g leaf l → length w ≡ base g.size
load_long {l = l} o = hole_long top (plug l.way tt).root _ o.held

-- ---- where it begins

pub formatted_begun : {w : List ℕ} (n : ℕ) (run : List ℕ) → 1 ≤ n → n ≤ largest_count → w ≡ words_of (formatted n) → nodes_for (length (pairs_of run)) ≤ n → Begun w (rest_of (formatted n)) 0 run
formatted_begun {w} n run l u e r =
    let o : Holds (words_of (formatted n)) (formatted n) = record { sound = formatted_sound n l u; words = refl } in
    let f : others_of n ≡ free_from (rest_of (formatted n)) 1 = others n l in
    record {
      load = record {
        held = rw e (subst (λ (q : List ℕ). ClosedBy Uncounted (words_of (formatted n)) (rest_of (formatted n)) (record { whole = (formatted n).whole; free = q })) f (record { nodes = nodes_in (formatted n); arena = (held_of (formatted_sound n l u)).arena; stand = closed_of o; many = (held_of (formatted_sound n l u)).many; told = tt }));
        leaf_is = refl;
        filling = begun_filled.filling;
        inner = tt;
      };
      room = r;
    }
  where
    others : (n : ℕ) → 1 ≤ n → others_of n ≡ free_from (rest_of (formatted n)) 1
    others zero l = absurd (omega arith)
    others (suc m) l = let z : suc m - 1 ≡ m = omega arith in rw z

-- ---- what is left to be stocked

pub load_pushed : {w : List ℕ} {g : Rest} {leaf : ℕ} {l : Loading} → LoadIn w g leaf l → Pushed w g (plug l.way tt) (free_from g l.next)
load_pushed {l = l} o = record { held = o.held; plenty = filling_plenty l.way tt o.filling o.inner tt }
