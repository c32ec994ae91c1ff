-- Any results that an exported call's promise allows are one and the same: what is returned, written out and left in each lent word.
-- Assumes nothing.
use Prim.Native.Nat.{ℕ}
use mathlib.Core.Path.{◌≡◌, sym, ap, ◌∙◌}
use mathlib.Core.Bool.{Bool, false, cond}
use Rattle.std.specs.Prelude.{Option, Some, None}
use mathlib.Core.List.{List, [], ◌∷◌}
use Rattle.model.specs.declared.Answer.{Answer}
use Rattle.model.specs.declared.Listed.{Listed}
use Rattle.model.specs.declared.Counted.{Counted}
use Rattle.model.specs.declared.Picked.{Picked}
use Rattle.model.specs.declared.Range.{Range}
use Rattle.model.specs.Answer.{numbers_of}
use Rattle.model.specs.State.{State, Reply}
use Rattle.model.specs.Promise.{Call, Format, Batch, Restore, Rank, AtRank, Upgrade, Load, bad_arena, bad_range_of, Walk, Join, Cut}
use Rattle.model.specs.Map.{rank, count_of}
use Rattle.model.proofs.Unique.{one_end, one_call, one_format, one_listing, one_tell, one_at, one_batch, one_restore, one_load, one_walk, one_join, one_cut}
use Rattle.model.proofs.Upgrades.{one_upgrade}
use Rattle.model.specs.Cursor as cursor
use Rattle.model.specs.Cursor.{Cursor, past, Moved}
use Rattle.kept.specs.Kept.{cursor_by, Making, Stepping}
use Rattle.kept.proofs.Same.{one_making, one_stepping, one_no_bound}
use Rattle.model.specs.declared.SearchBound.{SearchBound}
use Rattle.cuffgarnet.specs.Exported.{Numbered, Worded, Told, Summed, Paired, no_kind, Between, CountBetween, SeekBy}

-- one answer has one number
pub one_number : {P Q : Answer → Type 0} {n m : ℕ} (x : Numbered P n) (y : Numbered Q m) → x.answer ≡ y.answer → n ≡ m
one_number x y e = x.number_is ∙ ap (λ (a : Answer). (numbers_of a).number) e ∙ sym y.number_is

-- and one second word
pub one_word : {P Q : Answer → Type 0} {n m u v : ℕ} (x : Worded P n u) (y : Worded Q m v) → x.answer ≡ y.answer → (n ≡ m) × (u ≡ v)
one_word x y e = (x.number_is ∙ ap (λ (a : Answer). (numbers_of a).number) e ∙ sym y.number_is, x.second_is ∙ ap (λ (a : Answer). (numbers_of a).word) e ∙ sym y.second_is)

pub same_format : (w : List ℕ) {w₁ w₂ : List ℕ} {n m : ℕ} → Numbered (Format w w₁) n → Numbered (Format w w₂) m → (w₁ ≡ w₂) × (n ≡ m)
same_format w x y = let e = one_format w x.given y.given in (e.0, one_number x y e.1)

-- check, which has no second word
pub same_check : (call : State → Reply) (w : List ℕ) {w₁ w₂ : List ℕ} {n m : ℕ} → Numbered (Call call w w₁) n → Numbered (Call call w w₂) m → (w₁ ≡ w₂) × (n ≡ m)
same_check call w x y = let e = one_call call w x.given y.given in (e.0, one_number x y e.1)

-- get, put, delete
pub same_call : (call : State → Reply) (w : List ℕ) {w₁ w₂ : List ℕ} {n m u v : ℕ} → Worded (Call call w w₁) n u → Worded (Call call w w₂) m v → (w₁ ≡ w₂) × (n ≡ m) × (u ≡ v)
same_call call w x y = let e = one_call call w x.given y.given in let f = one_word x y e.1 in (e.0, f.0, f.1)

pub same_batch : (b w a : List ℕ) {w₁ w₂ a₁ a₂ : List ℕ} {n m : ℕ} → Numbered (Batch b w w₁ a a₁) n → Numbered (Batch b w w₂ a a₂) m → (w₁ ≡ w₂) × (a₁ ≡ a₂) × (n ≡ m)
same_batch b w a x y = let e = one_batch b w a x.given y.given in (e.0, e.1, one_number x y e.2)

pub same_restore : (meant : Bool) (w i : List ℕ) {w₁ w₂ : List ℕ} {n m : ℕ} → Numbered (Restore meant w w₁ i) n → Numbered (Restore meant w w₂ i) m → (w₁ ≡ w₂) × (n ≡ m)
same_restore meant w i x y = let e = one_restore meant w i x.given y.given in (e.0, one_number x y e.1)

-- a listing between two bounds, of whatever kinds
one_refused : (w o : List ℕ) {o₁ o₂ : List ℕ} {r₁ r₂ : Listed} → Between None None w o o₁ r₁ → Between None None w o o₂ r₂ → (o₁ ≡ o₂) × (r₁ ≡ r₂)
one_refused w o {o₁} {o₂} {r₁} {r₂} = one_end (bad_arena w ∷ no_kind ∷ []) left (λ x y. absurd x)
  where
    left : (a : Answer) → (o₁ ≡ o) × (r₁ ≡ record { answer = a; wrote = 0; more = false }) → (o₂ ≡ o) × (r₂ ≡ record { answer = a; wrote = 0; more = false }) → (o₁ ≡ o₂) × (r₁ ≡ r₂)
    left a x y = (x.0 ∙ sym y.0, x.1 ∙ sym y.1)

one_between : (s e : Option SearchBound) (w o : List ℕ) {o₁ o₂ : List ℕ} {r₁ r₂ : Listed} → Between s e w o o₁ r₁ → Between s e w o o₂ r₂ → (o₁ ≡ o₂) × (r₁ ≡ r₂)
one_between (Some s) (Some e) w o x y = let d = one_listing (record { start = s; end = e }) w o x y in (d.1, d.2)
one_between (Some s) None w o x y = one_refused w o x y
one_between None e w o x y = one_refused w o x y

pub same_listing : (s e : Option SearchBound) (w o : List ℕ) {o₁ o₂ : List ℕ} {n m j k u v : ℕ} → Told (Between s e w o o₁) n j u → Told (Between s e w o o₂) m k v → (o₁ ≡ o₂) × (n ≡ m) × (j ≡ k) × (u ≡ v)
same_listing s e w o x y =
    let d = one_between s e w o x.given y.given in (
      d.0,
      x.number_is ∙ ap (λ (l : Listed). (numbers_of l.answer).number) d.1 ∙ sym y.number_is,
      x.written_is ∙ ap (λ (l : Listed). l.wrote) d.1 ∙ sym y.written_is,
      x.more_is ∙ ap (λ (l : Listed). cond l.more 1 0) d.1 ∙ sym y.more_is,
    )

-- rank and count: one number
one_sum : {P Q : Counted → Type 0} {n m u v : ℕ} (x : Summed P n u) (y : Summed Q m v) → x.counted ≡ y.counted → (n ≡ m) × (u ≡ v)
one_sum x y e = (x.number_is ∙ ap (λ (c : Counted). (numbers_of c.answer).number) e ∙ sym y.number_is, x.second_is ∙ ap (λ (c : Counted). c.number) e ∙ sym y.second_is)

pub same_rank : (k : ℕ) (w : List ℕ) {n m u v : ℕ} → Summed (Rank k w w) n u → Summed (Rank k w w) m v → (n ≡ m) × (u ≡ v)
same_rank k w x y = one_sum x y (one_tell (bad_arena w ∷ []) (rank k) w x.given y.given).1

one_uncounted : (w : List ℕ) {r₁ r₂ : Counted} → CountBetween None None w r₁ → CountBetween None None w r₂ → r₁ ≡ r₂
one_uncounted w {r₁} {r₂} = one_end (bad_arena w ∷ no_kind ∷ []) left (λ x y. absurd x)
  where
    left : (a : Answer) → r₁ ≡ record { answer = a; number = 0 } → r₂ ≡ record { answer = a; number = 0 } → r₁ ≡ r₂
    left a x y = x ∙ sym y

one_count_between : (s e : Option SearchBound) (w : List ℕ) {r₁ r₂ : Counted} → CountBetween s e w r₁ → CountBetween s e w r₂ → r₁ ≡ r₂
one_count_between (Some s) (Some e) w x y = let q : Range = record { start = s; end = e } in (one_tell (bad_arena w ∷ bad_range_of q ∷ []) (count_of q) w x y).1
one_count_between (Some s) None w x y = one_uncounted w x y
one_count_between None e w x y = one_uncounted w x y

pub same_count : (s e : Option SearchBound) (w : List ℕ) {n m u v : ℕ} → Summed (CountBetween s e w) n u → Summed (CountBetween s e w) m v → (n ≡ m) × (u ≡ v)
same_count s e w x y = one_sum x y (one_count_between s e w x.given y.given)

-- a pair
one_pair : {P Q : Picked → Type 0} {n m j k u v : ℕ} (x : Paired P n j u) (y : Paired Q m k v) → x.picked ≡ y.picked → (n ≡ m) × (j ≡ k) × (u ≡ v)
one_pair x y e = (
  x.number_is ∙ ap (λ (p : Picked). (numbers_of p.answer).number) e ∙ sym y.number_is,
  x.key_is ∙ ap (λ (p : Picked). p.key) e ∙ sym y.key_is,
  x.value_is ∙ ap (λ (p : Picked). (numbers_of p.answer).word) e ∙ sym y.value_is,
)

pub same_at : (i : ℕ) (w : List ℕ) {n m j k u v : ℕ} → Paired (AtRank i w w) n j u → Paired (AtRank i w w) m k v → (n ≡ m) × (j ≡ k) × (u ≡ v)
same_at i w x y = one_pair x y (one_at i w x.given y.given).1

-- the cursor calls: the cursor's words, the number and the pair
pub same_making : (f : State → Moved) (c : Cursor) (w u : List ℕ) {u₁ u₂ : List ℕ} {n m j k p q : ℕ} → Paired (Making (Walk f c w w) u u₁) n j p → Paired (Making (Walk f c w w) u u₂) m k q → (u₁ ≡ u₂) × (n ≡ m) × (j ≡ k) × (p ≡ q)
same_making f c w u x y =
    let e = one_making (Walk f c w w) u (λ c₁ c₂ r₁ r₂ a b. let d = one_walk f c w a b in (d.1, d.2)) x.given y.given in
    let d = one_pair x y e.1 in
    (e.0, d.0, d.1, d.2)

pub same_seek : (b : Option SearchBound) (n : ℕ) (w u : List ℕ) {u₁ u₂ : List ℕ} {i m j k p q : ℕ} → Paired (SeekBy b n w u u₁) i j p → Paired (SeekBy b n w u u₂) m k q → (u₁ ≡ u₂) × (i ≡ m) × (j ≡ k) × (p ≡ q)
same_seek (Some b) n w u x y = same_making (cursor.seek n b) (record { changes = n; stand = past }) w u x y
same_seek None n w u x y =
    let e = one_no_bound n w u x.given y.given in
    let d = one_pair x y e.1 in
    (e.0, d.0, d.1, d.2)

pub same_stepping : (f : Cursor → State → Moved) (w u : List ℕ) {u₁ u₂ : List ℕ} {n m j k p q : ℕ} → Paired (Stepping (λ c. Walk (f c) c w w) u u₁) n j p → Paired (Stepping (λ c. Walk (f c) c w w) u u₂) m k q → (u₁ ≡ u₂) × (n ≡ m) × (j ≡ k) × (p ≡ q)
same_stepping f w u x y =
    let e = one_stepping (λ c. Walk (f c) c w w) u (λ c₁ c₂ r₁ r₂ a b. let d = one_walk (f (cursor_by u)) (cursor_by u) w a b in (d.1, d.2)) x.given y.given in
    let d = one_pair x y e.1 in
    (e.0, d.0, d.1, d.2)

pub same_upgrade : (w v : List ℕ) {v₁ v₂ : List ℕ} {n m : ℕ} → Numbered (Upgrade w v v₁) n → Numbered (Upgrade w v v₂) m → (v₁ ≡ v₂) × (n ≡ m)
same_upgrade w v x y = let e = one_upgrade w v x.given y.given in (e.0, one_number x y e.1)

pub same_load : (run w : List ℕ) {w₁ w₂ : List ℕ} {n m : ℕ} → Numbered (Load run w w₁) n → Numbered (Load run w w₂) m → (w₁ ≡ w₂) × (n ≡ m)
same_load run w x y = let e = one_load run w x.given y.given in (e.0, one_number x y e.1)

pub same_cut : (k : ℕ) (w v : List ℕ) {w₁ w₂ v₁ v₂ : List ℕ} {n m : ℕ} → Numbered (Cut k w w₁ v v₁) n → Numbered (Cut k w w₂ v v₂) m → (w₁ ≡ w₂) × (v₁ ≡ v₂) × (n ≡ m)
same_cut k w v x y = let e = one_cut k w v x.given y.given in (e.0, e.1, one_number x y e.2)

pub same_join : (w v o : List ℕ) {w₁ w₂ v₁ v₂ o₁ o₂ : List ℕ} {n m : ℕ} → Numbered (Join w w₁ v v₁ o o₁) n → Numbered (Join w w₂ v v₂ o o₂) m → (w₁ ≡ w₂) × (v₁ ≡ v₂) × (o₁ ≡ o₂) × (n ≡ m)
same_join w v o x y = let e = one_join w v o x.given y.given in (e.0, e.1, e.2, one_number x y e.3)
