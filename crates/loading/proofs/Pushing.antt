-- The pushes: the list grows at its end, every node left of the border is full, numbers are taken in turn, and the pairs of the border's
-- nodes are the digits of the pair count to the base 12.
-- Assumes nothing.
use Prim.Native.Nat.{ℕ, zero, suc, ◌+◌, ◌*◌, ◌≤◌}
use native.Mathlib.Omega.{arith}
use mathlib.Core.Path.{◌≡◌, refl, ap, ◌∙◌, sym, subst}
use mathlib.Core.Bool.{Bool, true, false}
use mathlib.Core.List.{List, [], ◌∷◌, ◌++◌, append_assoc, append-nil}
use lib.ListN.{length, length-append}
use borrow.Author.Tests.{leb-true, leb-false}
use Rattle.model.specs.Lists.{count, one, times}
use Rattle.model.specs.Layout.{most}
use Rattle.model.specs.Tree.{Pair, Tree, Frame, Ctx, top, under, fill, flat, lefts, before, after, has, has_ctx}
use Rattle.model.specs.Insert.{is_full}
use Rattle.model.proofs.Plug.{woven_fill, length_fill, has_fill}
use Rattle.model.proofs.Sizes.{fill_parts}
use Rattle.model.specs.Load.{Loading, opened, climb, push, push_all, begun}
pub use Rattle.loading.specs.Shapes.{Perfect, RootSome, Inner, Filling}

-- ---- a step

module _ {h : ℕ} (f : Frame (Tree h)) (c : Ctx (suc h)) (x : Tree h) (p : Pair) (n : ℕ) where
  -- the node with the pair, and a hole after it
  abbrev pub pushed : Frame (Tree h)
  pushed = record { no = f.no; left = record { pair = p; edge = x } ∷ f.left; right = f.right }

  pub climb_room : is_full f ≡ false → climb (under f c) x p n ≡ record { way = opened h (under pushed c) n; next = n + h }
  climb_room e = rw (e, climb)

  pub climb_full : is_full f ≡ true → climb (under f c) x p n ≡ climb c (fill f.no f.left x f.right) p n
  climb_full e = rw (e, climb)

-- ---- the shape

inner_some : {h : ℕ} (c : Ctx (suc h)) → Inner c → RootSome c 0
inner_some top i = absurd i
inner_some (under f c) i = tt

root_more : {h : ℕ} (c : Ctx (suc h)) (n : ℕ) → RootSome c (suc n)
root_more {h = zero} top n = tt
root_more {h = suc h} top n = omega arith
root_more (under f c) n = tt

opened_filling : (h : ℕ) (c : Ctx h) (n : ℕ) → Filling c → Inner c → Filling (opened h c n) × Inner (opened h c n)
opened_filling zero c n fc i = (fc, i)
opened_filling (suc h) c n fc i = opened_filling h (under (record { no = n + h; left = []; right = [] }) c) n (refl, omega arith, tt, inner_some c i, fc) tt

pub climb_filling : {h : ℕ} (c : Ctx h) (x : Tree h) (p : Pair) (n : ℕ) → Filling c → Perfect h x → Filling (climb c x p n).way × Inner (climb c x p n).way
climb_filling (top {h = h}) x p n fc px = opened_filling h (under (record { no = n; left = record { pair = p; edge = x } ∷ []; right = [] }) top) (n + 1) (refl, omega arith, (px, tt), root_more {h = h} top 0, tt) tt
climb_filling (under {h = h} f c) x p n fc px = by (is_full f) refl (climb_filling c (fill f.no f.left x f.right) p n fc.4)
  where
    by : (b : Bool) → is_full f ≡ b → (Perfect (suc h) (fill f.no f.left x f.right) → Filling (climb c (fill f.no f.left x f.right) p n).way × Inner (climb c (fill f.no f.left x f.right) p n).way)
        → Filling (climb (under f c) x p n).way × Inner (climb (under f c) x p n).way
    by false e ih =
        let l : length f.left + length f.right + 1 ≤ most = omega (arith, leb-false most (length f.left + length f.right) e) in
        rw (climb_room f c x p n e) (opened_filling h (under (pushed f c x p n) c) n (fc.0, omega arith, (px, fc.2), root_more c (length f.left), fc.4) tt)
    by true e ih =
        let l = leb-true most (length f.left + length f.right) e in
        let z : length f.right ≡ 0 = ap length fc.0 in
        let k = fill_parts (Perfect h) f.no f.left x f.right fc.2 px (rw fc.0 tt) in
        rw (climb_full f c x p n e) (ih (length_fill f.no f.left x f.right ∙ omega (arith, fc.1), k.0, k.1))

pub filling_after : {h : ℕ} (c : Ctx h) → Filling c → after c ≡ []
filling_after top fc = refl
filling_after (under {h = h} f c) fc = rw (fc.0, filling_after c fc.4)

-- ---- the list

opened_before : (h : ℕ) (c : Ctx h) (n : ℕ) → before (opened h c n) ≡ before c
opened_before zero c n = refl
opened_before (suc h) c n = opened_before h (under (record { no = n + h; left = []; right = [] }) c) n ∙ append-nil (before c)

pub climb_before : {h : ℕ} (c : Ctx h) (x : Tree h) (p : Pair) (n : ℕ) → Filling c → before (climb c x p n).way ≡ before c ++ (flat h x ++ p ∷ [])
climb_before (top {h = h}) x p n fc = opened_before h (under (record { no = n; left = record { pair = p; edge = x } ∷ []; right = [] }) top) (n + 1)
climb_before (under {h = h} f c) x p n fc = by (is_full f) refl (climb_before c (fill f.no f.left x f.right) p n fc.4)
  where
    by : (b : Bool) → is_full f ≡ b → before (climb c (fill f.no f.left x f.right) p n).way ≡ before c ++ (flat (suc h) (fill f.no f.left x f.right) ++ p ∷ [])
        → before (climb (under f c) x p n).way ≡ before (under f c) ++ (flat h x ++ p ∷ [])
    by false e ih = ap (λ (l : Loading). before l.way) (climb_room f c x p n e) ∙ (opened_before h (under (pushed f c x p n) c) n ∙ simp append_assoc)
    by true e ih =
        let w : flat (suc h) (fill f.no f.left x f.right) ≡ lefts (flat h) f.left ++ flat h x = woven_fill (flat h) f.no f.left x f.right ∙ rw fc.0 (simp append-nil) in
        ap (λ (l : Loading). before l.way) (climb_full f c x p n e) ∙ (ih ∙ (ap (λ (q : List Pair). before c ++ (q ++ p ∷ [])) w ∙ simp append_assoc))

-- ---- the numbers

-- how often m is among the first n numbers
abbrev pub up_to : ℕ → ℕ → ℕ
up_to m n = times m (count 0 n)

pub count_last : (m a n : ℕ) → times m (count a (suc n)) ≡ times m (count a n) + one (a + n) m
count_last m a zero = let e : a + 0 ≡ a = omega arith in rw e (omega arith)
count_last m a (suc n) =
    let e : suc a + n ≡ a + suc n = omega arith in
    omega (arith, count_last m (suc a) n, ap (λ i. one i m) e)

pub up_to_suc : (m n : ℕ) → up_to m (suc n) ≡ up_to m n + one n m
up_to_suc m n = let e : 0 + n ≡ n = omega arith in count_last m 0 n ∙ ap (λ i. up_to m n + one i m) e

opened_has : (m h : ℕ) (c : Ctx h) (n : ℕ) → has_ctx m (opened h c n) + up_to m n ≡ has_ctx m c + up_to m (n + h)
opened_has m zero c n = let e : n + 0 ≡ n = omega arith in rw e
opened_has m (suc h) c n =
    let e : n + suc h ≡ suc (n + h) = omega arith in
    omega (arith, opened_has m h (under (record { no = n + h; left = []; right = [] }) c) n, ap (up_to m) e, up_to_suc m (n + h))

pub climb_has : {h : ℕ} (m : ℕ) (c : Ctx h) (x : Tree h) (p : Pair) (n : ℕ) → has_ctx m (climb c x p n).way + up_to m n ≡ has_ctx m c + has m h x + up_to m (climb c x p n).next
climb_has m (top {h = h}) x p n =
    let e : n + 1 ≡ suc n = omega arith in
    omega (arith, opened_has m h (under (record { no = n; left = record { pair = p; edge = x } ∷ []; right = [] }) top) (n + 1), ap (up_to m) e, up_to_suc m n)
climb_has m (under {h = h} f c) x p n = by (is_full f) refl (climb_has m c (fill f.no f.left x f.right) p n)
  where
    To : Loading → Type 0
    To l = has_ctx m l.way + up_to m n ≡ has_ctx m (under f c) + has m h x + up_to m l.next

    by : (b : Bool) → is_full f ≡ b
        → has_ctx m (climb c (fill f.no f.left x f.right) p n).way + up_to m n ≡ has_ctx m c + has m (suc h) (fill f.no f.left x f.right) + up_to m (climb c (fill f.no f.left x f.right) p n).next
        → To (climb (under f c) x p n)
    by false e ih = subst To (sym (climb_room f c x p n e)) (omega (arith, opened_has m h (under (pushed f c x p n) c) n))
    by true e ih = subst To (sym (climb_full f c x p n e)) (omega (arith, ih, has_fill (has m h) m f.no f.left x f.right))

-- ---- the pair count, and the nodes taken

-- the pairs of the border's nodes as digits
abbrev pub value : {h : ℕ} → Ctx h → ℕ
value top = 0
value (under f c) = length f.left + 12 * value c

-- the nodes at all levels
abbrev pub levels : {h : ℕ} → Ctx h → ℕ
levels top = 0
levels (under f c) = value c + 1 + levels c

-- v times 12, h times; and the sum of all before that
abbrev scaled : ℕ → ℕ → ℕ
scaled zero v = v
scaled (suc h) v = scaled h (12 * v)

abbrev summed : ℕ → ℕ → ℕ
summed zero v = 0
summed (suc h) v = v + summed h (12 * v)

opened_value : (h : ℕ) (c : Ctx h) (n : ℕ) → value (opened h c n) ≡ scaled h (value c)
opened_value zero c n = refl
opened_value (suc h) c n = let e : 0 + 12 * value c ≡ 12 * value c = omega arith in opened_value h (under (record { no = n + h; left = []; right = [] }) c) n ∙ ap (scaled h) e

opened_levels : (h : ℕ) (c : Ctx h) (n : ℕ) → levels (opened h c n) ≡ levels c + summed h (value c) + h
opened_levels zero c n = omega arith
opened_levels (suc h) c n = let e : 0 + 12 * value c ≡ 12 * value c = omega arith in omega (arith, opened_levels h (under (record { no = n + h; left = []; right = [] }) c) n, ap (summed h) e)

-- a carry past a node of 11
module _ {h : ℕ} (f : Frame (Tree h)) (c : Ctx (suc h)) (fc : Filling (under f c)) (e : is_full f ≡ true) where
  carry : 12 * (value c + 1) ≡ value (under f c) + 1
  carry =
      let z : length f.right ≡ 0 = ap length fc.0 in
      omega (arith, leb-true most (length f.left + length f.right) e, fc.1)

pub climb_value : {h : ℕ} (c : Ctx h) (x : Tree h) (p : Pair) (n : ℕ) → Filling c → value (climb c x p n).way ≡ scaled h (value c + 1)
climb_value (top {h = h}) x p n fc = let e : 1 + 12 * 0 ≡ 0 + 1 = omega arith in opened_value h (under (record { no = n; left = record { pair = p; edge = x } ∷ []; right = [] }) top) (n + 1) ∙ ap (scaled h) e
climb_value (under {h = h} f c) x p n fc = by (is_full f) refl (climb_value c (fill f.no f.left x f.right) p n fc.4)
  where
    by : (b : Bool) → is_full f ≡ b → value (climb c (fill f.no f.left x f.right) p n).way ≡ scaled (suc h) (value c + 1) → value (climb (under f c) x p n).way ≡ scaled h (value (under f c) + 1)
    by false e ih =
        let q : value (under (pushed f c x p n) c) ≡ value (under f c) + 1 = omega arith in
        ap (λ (l : Loading). value l.way) (climb_room f c x p n e) ∙ (opened_value h (under (pushed f c x p n) c) n ∙ ap (scaled h) q)
    by true e ih = ap (λ (l : Loading). value l.way) (climb_full f c x p n e) ∙ (ih ∙ ap (scaled h) (carry f c fc e))

pub climb_levels : {h : ℕ} (c : Ctx h) (x : Tree h) (p : Pair) (n : ℕ) → Filling c → levels (climb c x p n).way + n ≡ (climb c x p n).next + levels c + summed h (value c + 1)
climb_levels (top {h = h}) x p n fc =
    let e : 1 + 12 * 0 ≡ 0 + 1 = omega arith in
    omega (arith, opened_levels h (under (record { no = n; left = record { pair = p; edge = x } ∷ []; right = [] }) top) (n + 1), ap (summed h) e)
climb_levels (under {h = h} f c) x p n fc = by (is_full f) refl (climb_levels c (fill f.no f.left x f.right) p n fc.4)
  where
    To : Loading → Type 0
    To l = levels l.way + n ≡ l.next + levels (under f c) + summed h (value (under f c) + 1)

    by : (b : Bool) → is_full f ≡ b
        → levels (climb c (fill f.no f.left x f.right) p n).way + n ≡ (climb c (fill f.no f.left x f.right) p n).next + levels c + summed (suc h) (value c + 1)
        → To (climb (under f c) x p n)
    by false e ih =
        let q : value (under (pushed f c x p n) c) ≡ value (under f c) + 1 = omega arith in
        subst To (sym (climb_room f c x p n e)) (omega (arith, opened_levels h (under (pushed f c x p n) c) n, ap (summed h) q))
    by true e ih = subst To (sym (climb_full f c x p n e)) (omega (arith, ih, ap (summed h) (carry f c fc e)))

-- ---- all of it

-- after these pairs
pub record Filled (run : List Pair) (l : Loading) : Type 0 where
  pub filling : Filling l.way
  pub inner : Inner l.way
  pub list_is : before l.way ≡ run
  pub numbered : (m : ℕ) → has_ctx m l.way ≡ up_to m l.next
  pub counted : value l.way ≡ length run
  pub taken_are : levels l.way ≡ l.next

pub begun_filled : Filled [] begun
begun_filled = record { filling = (refl, omega arith, tt, tt, tt); inner = tt; list_is = refl; numbered = λ m. omega arith; counted = omega arith; taken_are = omega arith }

pub push_filled : (run : List Pair) (p : Pair) (l : Loading) → Filled run l → Filled (run ++ p ∷ []) (push p l)
push_filled run p l o =
    let f = climb_filling l.way tt p l.next o.filling tt in
    record {
      filling = f.0;
      inner = f.1;
      list_is = climb_before l.way tt p l.next o.filling ∙ ap (λ (q : List Pair). q ++ p ∷ []) o.list_is;
      numbered = λ m. omega (arith, climb_has m l.way tt p l.next, o.numbered m);
      counted = climb_value l.way tt p l.next o.filling ∙ rw length-append (omega (arith, o.counted));
      taken_are = omega (arith, climb_levels l.way tt p l.next o.filling, o.taken_are);
    }

pub pushes_filled : (run ps : List Pair) (l : Loading) → Filled run l → Filled (run ++ ps) (push_all ps l)
pushes_filled run [] l o = rw append-nil o
pushes_filled run (p ∷ ps) l o = subst (λ (q : List Pair). Filled q (push_all ps (push p l))) (append_assoc run (p ∷ []) ps) (pushes_filled (run ++ p ∷ []) ps (push p l) (push_filled run p l o))
