-- Each call on a sound state, beside the plain list: what it answers, the list and the mark that it leaves; the count of nodes stays.
-- Assumes nothing.
use Prim.Native.Nat.{ℕ}
use mathlib.Core.Path.{◌≡◌, refl, sym, ap, subst, ◌∙◌}
use mathlib.Core.Logic.{◌⊎◌, inl, inr, ⊎_elim}
use mathlib.Core.Bool.{Bool, true, false, cond, not, ◌&&◌}
use mathlib.Core.List.{List, [], ◌∷◌}
use mathlib.Core.Option.{Option, some, none}
use lib.Dec.{leb}
use lib.ListN.{length}
use Rattle.model.specs.declared.Answer.{Answer}
use Rattle.model.specs.declared.Answer.TheVariants.{Done, NoRoom, Spent as spentAnswer}
use Rattle.model.specs.Tree.{Ctx}
use Rattle.model.specs.Search.{Spot, at, gap, search}
use Rattle.model.specs.Insert.{needed}
use Rattle.model.specs.Map.{look, got, replaced}
use Rattle.model.specs.Mark.{seen, reached}
use Rattle.model.specs.Answer.{numbers_of}
use Rattle.model.specs.State.{State, Reply, Order, list, get, put_at, put, delete_at, delete, reserve, Kind, putting, getting, deleting, reserving, unknown, kind_of, order_as, order, after_all, answers}
use Rattle.model.specs.Sound.{Sound}
use Rattle.model.proofs.Descent.{Sought, search_right}
use Rattle.model.proofs.Calls.{look_gap, get_map, NoneLeft, Put, put_map, delete_map, Reached, Reserved, reserve_map, order_sound}
use Rattle.demands.specs.Plain.{Plain, reserved, Made, only, is_none, put_to, get_from, delete_from, reserve_on, ordered_as, ordered, ordered_all, room_by, rooms_by}
use Rattle.demands.specs.Call.{refusal}
use Rattle.demands.specs.Calls.{OrderRefusal}
use Rattle.demands.proofs.Reading.{plain_of}
use Rattle.demands.proofs.Orders.{with_room, put_none}
use Rattle.model.proofs.Ends.{both_ways}

-- a reply on the state s is what is made of the plain list; refused, it left the state
pub record Meets (s : State) (d : Reply) (m : Made Answer) : Type 0 where
  pub answered : d.answer ≡ m.said
  pub plain_is : plain_of d.state ≡ m.plain
  pub sound : Sound d.state
  pub size_is : d.state.size ≡ s.size
  pub still : refusal d.answer ≡ true → d.state ≡ s

replaced_done : (x : Option ℕ) → refusal (replaced x) ≡ false
replaced_done none = refl
replaced_done (some v) = refl

got_done : (x : Option ℕ) → refusal (got x) ≡ false
got_done none = refl
got_done (some v) = refl

-- ---- put, get, delete

put_size : (k v : ℕ) (s : State) → (put k v s).state.size ≡ s.size
put_size k v s = go (search k s.whole)
  where
    room : (c : Ctx 0) (b : Bool) → leb (needed c) (length s.free) ≡ b → (put_at k v s (gap c)).state.size ≡ s.size
    room c true e = rw (e, put_at)
    room c false e = rw (e, put_at)

    go : (p : Spot) → (put_at k v s p).state.size ≡ s.size
    go (gap c) = room c (leb (needed c) (length s.free)) refl
    go (at c n l e x r) = refl

delete_size : (k : ℕ) (s : State) → (delete k s).state.size ≡ s.size
delete_size k s = go (search k s.whole)
  where
    go : (p : Spot) → (delete_at s p).state.size ≡ s.size
    go (gap c) = refl
    go (at c n l e x r) = refl

module _ (k : ℕ) (s : State) (o : Sound s) where
  pub get_meets : Meets s (get k s) (get_from k (plain_of s))
  get_meets = rw (get_map k s o) (record { answered = refl; plain_is = refl; sound = o; size_is = refl; still = λ e. refl })

  pub delete_meets : Meets s (delete k s) (delete_from k (plain_of s))
  delete_meets =
      let d = delete_map k s o in
      record {
        answered = d.answered;
        plain_is = λ i. record { pairs = d.removed i; mark = d.mark_same i };
        sound = d.sound;
        size_is = delete_size k s;
        still = λ e. both_ways e (ap refusal d.answered ∙ got_done (look k (list s)));
      }

  pub reserve_meets : Meets s (reserve k s) (reserve_on k (plain_of s))
  reserve_meets = ⊎_elim
      (λ (n : Reached k s (reserve k s)). rw (n.refused, n.not_above) (record { answered = refl; plain_is = refl; sound = o; size_is = refl; still = λ e. refl }))
      (λ (d : Reserved k s (reserve k s)).
      let e = d.done in
      rw d.above (record { answered = ap (λ (x : Reply). x.answer) e; plain_is = ap (λ (x : Reply). plain_of x.state) e; sound = d.sound; size_is = ap (λ (x : Reply). x.state.size) e; still = λ y. both_ways y (ap (λ (x : Reply). refusal x.answer) e) }))
      (reserve_map k s o)

  -- an absent key
  pub none_there : {d : Reply} → NoneLeft k s d → look k (list s) ≡ none
  none_there l = look_gap s l.edge k (subst (Sought k s.whole) l.found (search_right k s.whole o.rising))

  pub put_meets : (v : ℕ) → NoneLeft k s (put k v s) ⊎ Meets s (put k v s) (put_to true k v (plain_of s))
  put_meets v = ⊎_elim
      (λ (n : NoneLeft k s (put k v s)). inl n)
      (λ (p : Put k v s (put k v s)). inr (record {
        answered = p.answered;
        plain_is = λ i. record { pairs = p.inserted i; mark = p.spent i };
        sound = p.sound;
        size_is = put_size k v s;
        still = λ e. both_ways e (ap refusal p.answered ∙ replaced_done (look k (list s)));
      }))
      (put_map k v s o)

-- ---- an order

-- a put that lacks nodes
pub record NoneFor (r : Order) (s : State) (d : Reply) : Type 0 where
  pub a_put : kind_of r.code ≡ putting
  pub none_left : NoneLeft r.key s d

module _ (r : Order) (s : State) (o : Sound s) where
  pub order_meets : NoneFor r s (order r s) ⊎ Meets s (order r s) (ordered true r (plain_of s))
  order_meets = by (kind_of r.code) refl
    where
      by : (x : Kind) → kind_of r.code ≡ x → NoneFor r s (order_as x r.key r.val s) ⊎ Meets s (order_as x r.key r.val s) (ordered_as true x r.key r.val (plain_of s))
      by putting e = ⊎_elim
          (λ (n : NoneLeft r.key s (put r.key r.val s)). inl (record { a_put = e; none_left = n }))
          (λ (m : Meets s (put r.key r.val s) (put_to true r.key r.val (plain_of s))). inr m)
          (put_meets r.key s o r.val)
      by getting e = inr (get_meets r.key s o)
      by deleting e = inr (delete_meets r.key s o)
      by reserving e = inr (reserve_meets r.key s o)
      by unknown e = inr (record { answered = refl; plain_is = refl; sound = o; size_is = refl; still = λ e. refl })

-- what an order answers tells whether it found room: so much, and the list, tell the answer and the next list
pub record Told (s : State) (d : Reply) (m : Made Answer) : Type 0 where
  pub answered : d.answer ≡ m.said
  pub plain_is : plain_of d.state ≡ m.plain

pub order_told : (r : Order) (s : State) → Sound s → Told s (order r s) (ordered (room_by (numbers_of (order r s).answer).number) r (plain_of s))
order_told r s o = ⊎_elim lacking done (order_meets r s o)
  where
    Goal : Bool → Reply → Type 0
    Goal b d = Told s d (ordered b r (plain_of s))

    none_made : NoneFor r s (order r s) → ordered false r (plain_of s) ≡ only NoRoom (plain_of s)
    none_made n = ap (λ x. ordered_as false x r.key r.val (plain_of s)) n.a_put ∙ put_none r.key r.val (plain_of s) (none_there r.key s o n.none_left)

    lacking : NoneFor r s (order r s) → Goal (room_by (numbers_of (order r s).answer).number) (order r s)
    lacking n = rw n.none_left.refused (rw (none_made n) (record { answered = refl; plain_is = refl }))

    done : Meets s (order r s) (ordered true r (plain_of s)) → Goal (room_by (numbers_of (order r s).answer).number) (order r s)
    done m =
        let e : room_by (numbers_of (order r s).answer).number ≡ true = ap (λ a. room_by (numbers_of a).number) m.answered ∙ with_room r (plain_of s) in
        subst (λ b. Goal b (order r s)) (sym e) (record { answered = m.answered; plain_is = m.plain_is })

-- refused, it lacks nodes, or its code is unknown, or its key is spent
abbrev Refuses : Answer → Type 0
Refuses a = refusal a ≡ true → OrderRefusal a

ordered_refuses : (b : Bool) (r : Order) (p : Plain) → Refuses (ordered b r p).said
ordered_refuses b r p = go (kind_of r.code)
  where
    by : (c : Bool) (a : Answer) (m : Made Answer) → OrderRefusal a → refusal m.said ≡ false → Refuses (cond c (only a p) m).said
    by true a m o f e = o
    by false a m o f e = both_ways e f

    there : Option ℕ
    there = look r.key p.pairs

    go : (x : Kind) → Refuses (ordered_as b x r.key r.val p).said
    go putting = by (not b && is_none there) NoRoom (put_to true r.key r.val p) (inl refl) (replaced_done there)
    go getting = λ e. both_ways e (got_done there)
    go deleting = λ e. both_ways e (got_done there)
    go reserving = by (reached r.key p.mark) spentAnswer (record { said = Done; plain = record { pairs = p.pairs; mark = seen r.key }; spent = reserved r.key ∷ [] }) (inr (inr refl)) refl
    go unknown = λ e. inr (inl refl)

pub order_refuses : (r : Order) (s : State) → Sound s → Refuses (order r s).answer
order_refuses r s o = subst Refuses (sym (order_told r s o).answered) (ordered_refuses (room_by (numbers_of (order r s).answer).number) r (plain_of s))

-- ---- a batch

pub order_size : (r : Order) (s : State) → Sound s → (order r s).state.size ≡ s.size
order_size r s o = ⊎_elim (λ (n : NoneFor r s (order r s)). ap (λ (d : Reply). d.state.size) n.none_left.refused) (λ (m : Meets s (order r s) (ordered true r (plain_of s))). m.size_is) (order_meets r s o)

pub batch_size : (os : List Order) (s : State) → Sound s → (after_all os s).size ≡ s.size
batch_size [] s o = refl
batch_size (r ∷ os) s o = batch_size os (order r s).state (order_sound r s o) ∙ order_size r s o

abbrev fold_of : List Order → State → Made (List ℕ)
fold_of os s = ordered_all (rooms_by (answers os s)) os (plain_of s)

pub batch_plain : (os : List Order) (s : State) → Sound s → plain_of (after_all os s) ≡ (fold_of os s).plain
batch_plain [] s o = refl
batch_plain (r ∷ os) s o =
    let t = (order r s).state in
    batch_plain os t (order_sound r s o) ∙ ap (λ p. (ordered_all (rooms_by (answers os t)) os p).plain) (order_told r s o).plain_is

pub batch_said : (os : List Order) (s : State) → Sound s → answers os s ≡ (fold_of os s).said
batch_said [] s o = refl
batch_said (r ∷ os) s o =
    let t = (order r s).state in
    let m = order_told r s o in
    (λ i. (numbers_of (m.answered i)).number ∷ (numbers_of (m.answered i)).word ∷ (batch_said os t (order_sound r s o) ∙ ap (λ p. (ordered_all (rooms_by (answers os t)) os p).said) m.plain_is) i)
