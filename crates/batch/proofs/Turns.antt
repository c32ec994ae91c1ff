-- Orders on their way: which are done, and what is left.
-- Assumes nothing.
use Prim.Native.Nat.{ℕ, zero, suc, ◌+◌, ◌*◌, ◌/◌, ◌≤◌, ◌<◌}
use native.Mathlib.Nat.{div-add-mod', mod-lt}
use native.Mathlib.Omega.{arith}
use mathlib.Core.Path.{◌≡◌, refl, sym, ap, ap₂, ◌∙◌}
use mathlib.Core.List.{List, [], ◌∷◌, ◌++◌, append_assoc}
use lib.Seq.{drop-cons}
use lib.ListN.{length, get_or, drop, set, length-append}
use borrow.Author.Tests.{ne_eqb}
use Rattle.model.specs.declared.Answer.{Answer}
use Rattle.model.specs.declared.Answer.TheVariants.{BadOrder}
use Rattle.model.specs.Answer.{numbers_of}
use Rattle.model.specs.State.{State, Order, kind_of, order_as, order, put_code, get_code, delete_code, reserve_code, triples, after_all, answers}
use Rattle.model.specs.Words.{words_of}
use Rattle.model.specs.Promise.{Holds, Fits, Does}
use Rattle.model.proofs.Calls.{order_sound}
use Rattle.slices.proofs.Laws.{set_two}
use Rattle.batch.specs.Orders.{order_of, Ran}

-- ---- in turn

-- i orders of b are done, from s on: the arena's words w are those of `now`, and o has their answers
pub record Turn (b : List ℕ) (s : State) (o₀ w o : List ℕ) (i : ℕ) : Type 0 where
  pub now : State
  pub holds : Holds w now
  pub after : after_all (triples b) s ≡ after_all (triples (drop (3 * i) b)) now
  pub done : List ℕ
  pub split : answers (triples b) s ≡ done ++ answers (triples (drop (3 * i) b)) now
  pub count : length done ≡ 2 * i
  pub words : o ≡ done ++ drop (2 * i) o₀

pub turn_start : {b : List ℕ} {s : State} {o₀ w : List ℕ} → Holds w s → Turn b s o₀ w o₀ 0
turn_start {s = s} h = record { now = s; holds = h; after = refl; done = []; split = refl; count = refl; words = refl }

-- the next triple
next_triple : (b : List ℕ) (i : ℕ) → 3 * i + 3 ≤ length b → triples (drop (3 * i) b) ≡ order_of (get_or b (3 * i) 0) (get_or b (3 * i + 1) 0) (get_or b (3 * i + 2) 0) ∷ triples (drop (3 * (i + 1)) b)
next_triple b i l =
    ap triples
    (drop-cons b (3 * i) 0 (omega arith)
    ∙ ap (λ (t : List ℕ). get_or b (3 * i) 0 ∷ t)
    (drop-cons b (suc (3 * i)) 0 (omega arith)
    ∙ ap₂ (λ (x : ℕ) (t : List ℕ). x ∷ t) (ap (λ (j : ℕ). get_or b j 0) (let z : suc (3 * i) ≡ 3 * i + 1 = omega arith in z))
    (drop-cons b (suc (suc (3 * i))) 0 (omega arith)
    ∙ ap₂ (λ (x : ℕ) (t : List ℕ). x ∷ t) (ap (λ (j : ℕ). get_or b j 0) (let z : suc (suc (3 * i)) ≡ 3 * i + 2 = omega arith in z)) (ap (λ (j : ℕ). drop j b) (let z : suc (suc (suc (3 * i))) ≡ 3 * (i + 1) = omega arith in z)))))

module _ {b : List ℕ} {s : State} {o₀ w o : List ℕ} {i : ℕ} (y : Turn b s o₀ w o i) where
  abbrev here : Order
  here = order_of (get_or b (3 * i) 0) (get_or b (3 * i + 1) 0) (get_or b (3 * i + 2) 0)

  -- one order more
  pub turn_on : 3 * i + 3 ≤ length b → 2 * i + 2 ≤ length o₀ → {w' : List ℕ} (r : Answer) → Does (order here y.now) w' r → {o' : List ℕ} → o' ≡ set (set o (2 * i) (numbers_of r).number) (2 * i + 1) (numbers_of r).word → Turn b s o₀ w' o' (i + 1)
  turn_on l m {w'} r d {o'} e =
      let t = next_triple b i l in
      let n = numbers_of (order here y.now).answer in
      record {
        now = (order here y.now).state;
        holds = record { sound = order_sound here y.now y.holds.sound; words = d.left };
        after = y.after ∙ ap (λ (os : List Order). after_all os y.now) t;
        done = y.done ++ n.number ∷ n.word ∷ [];
        split = y.split ∙ (ap (λ (os : List Order). y.done ++ answers os y.now) t ∙ simp append_assoc);
        count = length-append y.done (n.number ∷ n.word ∷ []) ∙ omega (arith, y.count);
        words = e ∙ (ap₂ (λ (q : List ℕ) (a : Answer). set (set q (2 * i) (numbers_of a).number) (2 * i + 1) (numbers_of a).word) y.words d.said ∙ (set_two y.done n.number n.word o₀ (2 * i) y.count m ∙ ap (λ (j : ℕ). (y.done ++ n.number ∷ n.word ∷ []) ++ drop j o₀) (let z : 2 * i + 2 ≡ 2 * (i + 1) = omega arith in z)));
      }

  -- none is left
  pub turn_end : length b ≡ 3 * i → length o₀ ≡ 2 * i → Ran b s w o
  turn_end eb eo =
      let g : (t : List ℕ) (k : ℕ) → length t ≡ k → drop k t ≡ [] = all_gone in
      let f = g b (3 * i) eb in
      record {
        left = y.holds.words ∙ ap words_of (sym (y.after ∙ ap (λ (t : List ℕ). after_all (triples t) y.now) f));
        written = y.words ∙ (ap (λ (t : List ℕ). y.done ++ t) (g o₀ (2 * i) eo) ∙ (sym (ap (λ (t : List ℕ). y.done ++ answers (triples t) y.now) f) ∙ sym y.split));
      }
    where
      all_gone : (t : List ℕ) (k : ℕ) → length t ≡ k → drop k t ≡ []
      all_gone [] zero e = refl
      all_gone [] (suc k) e = refl
      all_gone (x ∷ t) zero e = absurd (omega arith)
      all_gone (x ∷ t) (suc k) e = all_gone t k (omega arith)
