-- Document 01's cases marked (P): one table, and one statement that runs through it.
-- Assumes nothing.
use Rattle.std.specs.Prelude.{ℕ, zero, suc, ◌+◌, Bool, true, false, cond, not, ◌&&◌, ◌≡◌, refl, List, [], ◌∷◌, ◌++◌, map, eqb, replicate, length}
use Rattle.model.specs.declared.SearchBound.{SearchBound}
use Rattle.model.specs.declared.SearchBound.TheVariants.{Included, Excluded, AllIncluded, AllExcluded}
use Rattle.model.specs.declared.Range.{Range}
use Rattle.model.specs.Lists.{count, pad, insert_at}
use Rattle.model.specs.Layout.{none, Format1, node_words_by, frame, arena_by}
use Rattle.model.specs.Tree.{Pair, Item, Tree, top, under}
use Rattle.model.specs.Range.{bad_range, keys_of, Fork, parted, together, fork_of}
use Rattle.model.specs.Mark.{seen_of, mark_of, lower}
use Rattle.model.specs.Insert.{Split, Side, left, right as rightSide, splitpoint}
use Rattle.model.specs.Answer.{numbers_of}
use Rattle.model.specs.State.{State, Order, formatted, order, list, restored, put_code, delete_code, reserve_code}
use Rattle.model.specs.Map.{range, rank, count_of, nth, picked}
use Rattle.model.specs.Words.{words_of_by, words_of}
use Rattle.model.specs.Load.{loaded, push_all, begun}
use Rattle.model.specs.Room.{nodes_for}
use Rattle.model.specs.Parting.{cut_off}
use Rattle.model.specs.Promise.{pair_words}

-- ---- what a case does, and what is compared

pub data Step : Type 0 where
  call : Order → Step
  copy : Step
  restore : (older : Bool) → Step
  lists : SearchBound → SearchBound → Step

-- puts of keys, each with 1000 more as its value; deletes
abbrev pub puts : List ℕ → List Step
puts = map (λ k. call (record { code = put_code; key = k; val = k + 1000 }))

abbrev pub deletes : List ℕ → List Step
deletes = map (λ k. call (record { code = delete_code; key = k; val = 0 }))

abbrev pub reserves : List ℕ → List Step
reserves = map (λ k. call (record { code = reserve_code; key = k; val = 0 }))

-- the arena, the copy, and what the last step answered
pub record Machine : Type 0 where
  pub state : State
  pub image : State
  pub said : List ℕ

abbrev pub said_of : Range → State → List ℕ
said_of q s = cond (bad_range q) (5 ∷ []) (0 ∷ pair_words (range q (list s)))

abbrev pub step : Step → Machine → Machine
step (call o) m = let d = order o m.state in let n = numbers_of d.answer in record { state = d.state; image = m.image; said = n.number ∷ n.word ∷ [] }
step copy m = record { state = m.state; image = m.state; said = [] }
step (restore meant) m =
    cond (not meant && lower m.image.mark m.state.mark) (record { state = m.state; image = m.image; said = 12 ∷ 0 ∷ [] })
    (record { state = restored m.state m.image; image = m.image; said = 0 ∷ 0 ∷ [] })
step (lists a b) m = record { state = m.state; image = m.image; said = said_of (record { start = a; end = b }) m.state }

abbrev pub run : List Step → Machine → Machine
run [] m = m
run (s ∷ ss) m = run ss (step s m)

-- each node, its number and then its keys, a node before those below it
abbrev pub nodes_in : {A : Type 0} → (A → List (List ℕ)) → List (Item A) → List (List ℕ)
nodes_in f [] = []
nodes_in f (x ∷ xs) = f x.edge ++ nodes_in f xs

abbrev pub nodes : (h : ℕ) → Tree h → List (List ℕ)
nodes zero t = []
nodes (suc h) t = (t.no ∷ keys_of t.rest) ∷ (nodes h t.first ++ nodes_in (nodes h) t.rest)

-- N, the steps; what the last one answered, the nodes, the free chain, the mark
pub record Case : Type 0 where
  pub size : ℕ
  pub steps : List Step
  pub said : List ℕ
  pub nodes : List (List ℕ)
  pub free : List ℕ
  pub mark : ℕ

abbrev pub same : List ℕ → List ℕ → Bool
same [] [] = true
same [] (y ∷ ys) = false
same (x ∷ xs) [] = false
same (x ∷ xs) (y ∷ ys) = eqb x y && same xs ys

abbrev pub same_all : List (List ℕ) → List (List ℕ) → Bool
same_all [] [] = true
same_all [] (y ∷ ys) = false
same_all (x ∷ xs) [] = false
same_all (x ∷ xs) (y ∷ ys) = same x y && same_all xs ys

abbrev pub ended : Case → Machine
ended c = run c.steps (record { state = formatted c.size; image = formatted c.size; said = [] })

abbrev pub met : Case → Bool
met c =
    let m = ended c in
    same m.said c.said && same_all (nodes m.state.whole.height m.state.whole.root) c.nodes && same m.state.free c.free && same (seen_of m.state.mark ∷ mark_of m.state.mark ∷ []) (1 ∷ c.mark ∷ [])

-- the places of the cases that are not met
abbrev pub unmet : ℕ → List Case → List ℕ
unmet i [] = []
unmet i (c ∷ cs) = cond (met c) (unmet (suc i) cs) (i ∷ unmet (suc i) cs)

-- ---- the table

abbrev tens : List ℕ
tens = 10 ∷ 20 ∷ 30 ∷ 40 ∷ 50 ∷ 60 ∷ 70 ∷ 80 ∷ 90 ∷ 100 ∷ 110 ∷ []

unfoldable pub table : List Case
table =
    -- N = 1: keys 1 to 11 fit; 12 is NoRoom
    record { size = 1; steps = puts (count 1 11); said = 0 ∷ 0 ∷ []; nodes = (0 ∷ count 1 11) ∷ []; free = []; mark = 11 } ∷
    record { size = 1; steps = puts (count 1 12); said = 3 ∷ 0 ∷ []; nodes = (0 ∷ count 1 11) ∷ []; free = []; mark = 11 } ∷
    -- N = 2: the same
    record { size = 2; steps = puts (count 1 11); said = 0 ∷ 0 ∷ []; nodes = (0 ∷ count 1 11) ∷ []; free = 1 ∷ []; mark = 11 } ∷
    record { size = 2; steps = puts (count 1 12); said = 3 ∷ 0 ∷ []; nodes = (0 ∷ count 1 11) ∷ []; free = 1 ∷ []; mark = 11 } ∷
    -- N = 3: 12 gives leaves 1-6 and 8-12 under 7; nodes 0, 1, root 2
    record { size = 3; steps = puts (count 1 12); said = 0 ∷ 0 ∷ []; nodes = (2 ∷ 7 ∷ []) ∷ (0 ∷ count 1 6) ∷ (1 ∷ count 8 5) ∷ []; free = []; mark = 12 } ∷
    -- 2 to 12, then 1: 1-5, root 6, 7-12
    record { size = 3; steps = puts (count 2 11 ++ 1 ∷ []); said = 0 ∷ 0 ∷ []; nodes = (2 ∷ 6 ∷ []) ∷ (0 ∷ count 1 5) ∷ (1 ∷ count 7 6) ∷ []; free = []; mark = 12 } ∷
    -- 10, 20 .. 110, then 55: 10-50 and 55, root 60, 70-110
    record { size = 3; steps = puts (tens ++ 55 ∷ []); said = 0 ∷ 0 ∷ []; nodes = (2 ∷ 60 ∷ []) ∷ (0 ∷ 10 ∷ 20 ∷ 30 ∷ 40 ∷ 50 ∷ 55 ∷ []) ∷ (1 ∷ 70 ∷ 80 ∷ 90 ∷ 100 ∷ 110 ∷ []) ∷ []; free = []; mark = 110 } ∷
    -- 65 instead: 10-50, root 60, 65 and 70-110
    record { size = 3; steps = puts (tens ++ 65 ∷ []); said = 0 ∷ 0 ∷ []; nodes = (2 ∷ 60 ∷ []) ∷ (0 ∷ 10 ∷ 20 ∷ 30 ∷ 40 ∷ 50 ∷ []) ∷ (1 ∷ 65 ∷ 70 ∷ 80 ∷ 90 ∷ 100 ∷ 110 ∷ []) ∷ []; free = []; mark = 110 } ∷
    -- from leaves 1-6, 7, 8-12: delete 12 gives the leaf 1-11 in node 0, first free node 1, then 2
    record { size = 3; steps = puts (count 1 12) ++ deletes (12 ∷ []); said = 1 ∷ 1012 ∷ []; nodes = (0 ∷ count 1 11) ∷ []; free = 1 ∷ 2 ∷ []; mark = 12 } ∷
    -- delete 7 gives 1-5, 6, 8-12
    record { size = 3; steps = puts (count 1 12) ++ deletes (7 ∷ []); said = 1 ∷ 1007 ∷ []; nodes = (2 ∷ 6 ∷ []) ∷ (0 ∷ count 1 5) ∷ (1 ∷ count 8 5) ∷ []; free = []; mark = 12 } ∷
    -- then delete 6 gives one leaf 1-5, 8-12
    record { size = 3; steps = puts (count 1 12) ++ deletes (7 ∷ 6 ∷ []); said = 1 ∷ 1006 ∷ []; nodes = (0 ∷ count 1 5 ++ count 8 5) ∷ []; free = 1 ∷ 2 ∷ []; mark = 12 } ∷
    -- 0-6, 7, 8-12, delete 12: 0-5, 6, 7-11
    record { size = 3; steps = puts (count 1 12 ++ 0 ∷ []) ++ deletes (12 ∷ []); said = 1 ∷ 1012 ∷ []; nodes = (2 ∷ 6 ∷ []) ∷ (0 ∷ count 0 6) ∷ (1 ∷ count 7 5) ∷ []; free = []; mark = 12 } ∷
    -- ranges: excluded 5 to excluded 5 refused; included 5 to excluded 5 empty
    record { size = 1; steps = puts (5 ∷ []) ++ lists (Excluded 5) (Excluded 5) ∷ []; said = 5 ∷ []; nodes = (0 ∷ 5 ∷ []) ∷ []; free = []; mark = 5 } ∷
    record { size = 1; steps = puts (5 ∷ []) ++ lists (Included 5) (Excluded 5) ∷ []; said = 0 ∷ []; nodes = (0 ∷ 5 ∷ []) ∷ []; free = []; mark = 5 } ∷
    record { size = 1; steps = puts (5 ∷ []) ++ lists (Included 6) (Included 5) ∷ []; said = 5 ∷ []; nodes = (0 ∷ 5 ∷ []) ∷ []; free = []; mark = 5 } ∷
    record { size = 1; steps = puts (5 ∷ []) ++ lists (Excluded 5) (Excluded 6) ∷ []; said = 0 ∷ []; nodes = (0 ∷ 5 ∷ []) ∷ []; free = []; mark = 5 } ∷
    record { size = 1; steps = puts (5 ∷ []) ++ lists (Included 5) (Included 5) ∷ []; said = 0 ∷ 5 ∷ 1005 ∷ []; nodes = (0 ∷ 5 ∷ []) ∷ []; free = []; mark = 5 } ∷
    record { size = 1; steps = puts (5 ∷ []) ++ lists (Excluded 4) (Included 5) ∷ []; said = 0 ∷ 5 ∷ 1005 ∷ []; nodes = (0 ∷ 5 ∷ []) ∷ []; free = []; mark = 5 } ∷
    -- put 9, copy, put 12, restore the copy, which is meant to be older: only 9, mark 12
    record { size = 1; steps = puts (9 ∷ []) ++ copy ∷ puts (12 ∷ []) ++ restore true ∷ lists AllIncluded AllIncluded ∷ []; said = 0 ∷ 9 ∷ 1009 ∷ []; nodes = (0 ∷ 9 ∷ []) ∷ []; free = []; mark = 12 } ∷
    -- without the yes it is refused; of equal marks it is not, though 12 is gone
    record { size = 1; steps = puts (9 ∷ []) ++ copy ∷ puts (12 ∷ []) ++ restore false ∷ []; said = 12 ∷ 0 ∷ []; nodes = (0 ∷ 9 ∷ 12 ∷ []) ∷ []; free = []; mark = 12 } ∷
    record { size = 1; steps = puts (12 ∷ 9 ∷ []) ++ copy ∷ deletes (9 ∷ []) ++ restore false ∷ []; said = 0 ∷ 0 ∷ []; nodes = (0 ∷ 9 ∷ 12 ∷ []) ∷ []; free = []; mark = 12 } ∷
    -- an arena that has seen 0 and is empty, and an image that has seen nothing
    record { size = 1; steps = copy ∷ puts (0 ∷ []) ++ deletes (0 ∷ []) ++ restore false ∷ []; said = 12 ∷ 0 ∷ []; nodes = (0 ∷ []) ∷ []; free = []; mark = 0 } ∷
    -- of two siblings the left one is chosen
    record { size = 4; steps = puts (count 1 19) ++ deletes (8 ∷ 9 ∷ []); said = 1 ∷ 1009 ∷ []; nodes = (2 ∷ 14 ∷ []) ∷ (0 ∷ count 1 7 ++ count 10 4) ∷ (3 ∷ count 15 5) ∷ []; free = 1 ∷ []; mark = 19 } ∷
    -- reserve: key 0 in an unseen arena is above the mark, and then not; a key above it becomes it, and a put below it stays allowed
    record { size = 1; steps = reserves (0 ∷ []); said = 0 ∷ 0 ∷ []; nodes = (0 ∷ []) ∷ []; free = []; mark = 0 } ∷
    record { size = 1; steps = reserves (0 ∷ 0 ∷ []); said = 11 ∷ 0 ∷ []; nodes = (0 ∷ []) ∷ []; free = []; mark = 0 } ∷
    record { size = 1; steps = puts (5 ∷ []) ++ reserves (9 ∷ 9 ∷ []); said = 11 ∷ 0 ∷ []; nodes = (0 ∷ 5 ∷ []) ∷ []; free = []; mark = 9 } ∷
    record { size = 1; steps = puts (5 ∷ []) ++ reserves (9 ∷ []) ++ puts (7 ∷ []); said = 0 ∷ 0 ∷ []; nodes = (0 ∷ 5 ∷ 7 ∷ []) ∷ []; free = []; mark = 9 } ∷
    -- beyond those marked: an empty leaf root stays; freed nodes are used again, the lowest first
    record { size = 1; steps = puts (5 ∷ []) ++ deletes (5 ∷ []); said = 1 ∷ 1005 ∷ []; nodes = (0 ∷ []) ∷ []; free = []; mark = 5 } ∷
    record { size = 3; steps = puts (count 1 12) ++ deletes (12 ∷ []) ++ puts (12 ∷ []); said = 0 ∷ 0 ∷ []; nodes = (2 ∷ 7 ∷ []) ∷ (0 ∷ count 1 6) ∷ (1 ∷ count 8 5) ∷ []; free = []; mark = 12 } ∷
    []

-- every case is met
pub right : unmet 0 table ≡ []
unfolding table insert_at
right = refl

abbrev places : Side → List ℕ → List ℕ → List Split
places s [] es = []
places s (p ∷ ps) [] = []
places s (p ∷ ps) (e ∷ es) = record { place = p; side = s; edge = e } ∷ places s ps es

-- splitpoint at every edge of a full node
pub splits : map splitpoint (count 0 12) ≡ places left (4 ∷ 4 ∷ 4 ∷ 4 ∷ 4 ∷ 5 ∷ []) (0 ∷ 1 ∷ 2 ∷ 3 ∷ 4 ∷ 5 ∷ []) ++ places rightSide (5 ∷ 6 ∷ 6 ∷ 6 ∷ 6 ∷ 6 ∷ []) (0 ∷ 0 ∷ 1 ∷ 2 ∷ 3 ∷ 4 ∷ [])
splits = refl

abbrev bound_words : SearchBound → List ℕ
bound_words AllIncluded = 0 ∷ 0 ∷ []
bound_words (Included k) = 1 ∷ k ∷ []
bound_words (Excluded k) = 2 ∷ k ∷ []
bound_words AllExcluded = 3 ∷ 0 ∷ []

-- the node, both edges and the children's bounds; or the leaf and its edge
abbrev fork_words : Fork → List ℕ
fork_words (parted c t i j r) = t.no ∷ i ∷ j ∷ (bound_words r.start ++ bound_words r.end)
fork_words (together top) = []
fork_words (together (under f c)) = f.no ∷ length f.left ∷ []

abbrev forked : SearchBound → SearchBound → List ℕ
forked a b = fork_words (fork_of (record { start = a; end = b }) (ended (record { size = 3; steps = puts (count 1 12); said = []; nodes = []; free = []; mark = 0 })).state.whole)

-- forks in 1-6, 7, 8-12
pub forks : forked (Included 3) (Included 9) ∷ forked (Included 7) (Included 7) ∷ forked (Excluded 7) (Included 12) ∷ forked (Included 2) (Excluded 7) ∷ forked (Included 8) (Excluded 8) ∷ forked AllIncluded (Excluded 9) ∷ []
    ≡ (2 ∷ 0 ∷ 1 ∷ 1 ∷ 3 ∷ 1 ∷ 9 ∷ []) ∷ (2 ∷ 0 ∷ 1 ∷ 3 ∷ 0 ∷ 3 ∷ 0 ∷ []) ∷ (1 ∷ 0 ∷ 5 ∷ 0 ∷ 0 ∷ 3 ∷ 0 ∷ []) ∷ (0 ∷ 1 ∷ 6 ∷ 3 ∷ 0 ∷ 0 ∷ 0 ∷ []) ∷ (1 ∷ 0 ∷ []) ∷ (2 ∷ 0 ∷ 1 ∷ 0 ∷ 0 ∷ 2 ∷ 9 ∷ []) ∷ []
unfolding insert_at
forks = refl

-- ---- ranks, counts and pairs at a rank among 10, 20 .. 110

abbrev ten_pairs : List Pair
ten_pairs = map (λ k. record { key = k; val = 1000 + k }) tens

-- how many keys are smaller, the key itself present or not
pub ranks : map (λ k. rank k ten_pairs) (0 ∷ 10 ∷ 11 ∷ 55 ∷ 60 ∷ 61 ∷ 110 ∷ 111 ∷ []) ≡ 0 ∷ 0 ∷ 1 ∷ 5 ∷ 5 ∷ 6 ∷ 10 ∷ 11 ∷ []
ranks = refl

abbrev counted : SearchBound → SearchBound → ℕ
counted a b = count_of (record { start = a; end = b }) ten_pairs

pub counts : counted (Included 20) (Included 60) ∷ counted (Excluded 20) (Included 60) ∷ counted (Included 20) (Excluded 60) ∷ counted (Excluded 20) (Excluded 60) ∷ counted (Included 21) (Excluded 59) ∷ counted AllIncluded (Included 30) ∷ counted (Excluded 100) AllIncluded ∷ counted AllIncluded AllIncluded ∷ counted (Excluded 20) (Excluded 21) ∷ counted (Included 20) (Excluded 20) ∷ []
    ≡ 5 ∷ 4 ∷ 4 ∷ 3 ∷ 3 ∷ 3 ∷ 1 ∷ 11 ∷ 0 ∷ 0 ∷ []
counts = refl

-- number, key and value
abbrev picked_words : ℕ → List ℕ
picked_words i = let p = picked (nth i ten_pairs) in (numbers_of p.answer).number ∷ p.key ∷ (numbers_of p.answer).word ∷ []

pub picks : picked_words 0 ∷ picked_words 5 ∷ picked_words 10 ∷ picked_words 11 ∷ picked_words 12 ∷ [] ≡ (1 ∷ 10 ∷ 1010 ∷ []) ∷ (1 ∷ 60 ∷ 1060 ∷ []) ∷ (1 ∷ 110 ∷ 1110 ∷ []) ∷ (2 ∷ 0 ∷ 0 ∷ []) ∷ (2 ∷ 0 ∷ 0 ∷ []) ∷ []
picks = refl

-- formatted for N = 2, all 88 words
pub formatted_2 : words_of (formatted 2) ≡ (2 ∷ 2 ∷ 10 ∷ 0 ∷ 0 ∷ 0 ∷ 1 ∷ 1 ∷ 0 ∷ 0 ∷ []) ++ ((1 ∷ 0 ∷ none ∷ replicate 36 0) ++ (0 ∷ 0 ∷ none ∷ replicate 36 0))
unfolding words_of_by arena_by node_words_by frame pad
formatted_2 = refl

-- in format 1, all 86 words
pub formatted_2_old : words_of_by Format1 (formatted 2) ≡ (1 ∷ 2 ∷ 10 ∷ 0 ∷ 0 ∷ 0 ∷ 1 ∷ 1 ∷ 0 ∷ 0 ∷ []) ++ ((1 ∷ 0 ∷ none ∷ replicate 35 0) ++ (0 ∷ 0 ∷ none ∷ replicate 35 0))
unfolding words_of_by arena_by node_words_by frame pad
formatted_2_old = refl

-- ---- loads of the pairs 1, 2 .. : the free chain, the mark, each node

abbrev run_of : ℕ → List Pair
run_of n = map (λ k. record { key = k; val = k + 1000 }) (count 1 n)

abbrev shown : State → List (List ℕ)
shown s = s.free ∷ (seen_of s.mark ∷ mark_of s.mark ∷ []) ∷ nodes s.whole.height s.whole.root

pub load_none : shown (loaded 1 []) ≡ [] ∷ (0 ∷ 0 ∷ []) ∷ (0 ∷ []) ∷ []
load_none = refl

pub load_eleven : shown (loaded 3 (run_of 11)) ≡ (1 ∷ 2 ∷ []) ∷ (1 ∷ 11 ∷ []) ∷ (0 ∷ count 1 11) ∷ []
load_eleven = refl

pub load_twelve : shown (loaded 4 (run_of 12)) ≡ (3 ∷ []) ∷ (1 ∷ 12 ∷ []) ∷ (1 ∷ 7 ∷ []) ∷ (0 ∷ count 1 6) ∷ (2 ∷ count 8 5) ∷ []
load_twelve = refl

-- the 144th pair: new root 13, leaf 14, its parent 15
abbrev loaded144 : State
loaded144 = loaded 17 (run_of 144)

abbrev among : ℕ → List ℕ → Bool
among m [] = false
among m (x ∷ xs) = cond (eqb m x) true (among m xs)

-- the nodes with these numbers
abbrev only : List ℕ → List (List ℕ) → List (List ℕ)
only ns [] = []
only ns ([] ∷ xs) = only ns xs
only ns ((n ∷ ks) ∷ xs) = cond (among n ns) ((n ∷ ks) ∷ only ns xs) (only ns xs)

pub load_144 : only (1 ∷ 12 ∷ 13 ∷ 14 ∷ 15 ∷ []) (nodes loaded144.whole.height loaded144.whole.root)
    ≡ (13 ∷ 84 ∷ []) ∷ (1 ∷ 12 ∷ 24 ∷ 36 ∷ 48 ∷ 60 ∷ 72 ∷ []) ∷ (15 ∷ 96 ∷ 108 ∷ 120 ∷ 132 ∷ 139 ∷ []) ∷ (12 ∷ count 133 6) ∷ (14 ∷ count 140 5) ∷ []
load_144 = refl

pub load_144_free : loaded144.free ≡ 16 ∷ []
load_144_free = refl

-- how many nodes are taken
pub nodes_taken : map (λ n. (push_all (run_of n) begun).next) (0 ∷ 1 ∷ 11 ∷ 12 ∷ 23 ∷ 24 ∷ 143 ∷ 144 ∷ []) ≡ 1 ∷ 1 ∷ 1 ∷ 3 ∷ 3 ∷ 4 ∷ 13 ∷ 16 ∷ []
nodes_taken = refl

pub nodes_for_lem : map nodes_for (0 ∷ 1 ∷ 11 ∷ 12 ∷ 23 ∷ 24 ∷ 143 ∷ 144 ∷ 1727 ∷ 1728 ∷ []) ≡ 1 ∷ 1 ∷ 1 ∷ 3 ∷ 3 ∷ 4 ∷ 13 ∷ 16 ∷ 157 ∷ 161 ∷ []
unfolding nodes_for
nodes_for_lem = refl

-- ---- 1 to 12 in 1-6, 7, 8-12, cut above all keys, between, below all

pub cut_13 : shown (cut_off 13 (loaded 3 (run_of 12))) ≡ [] ∷ (1 ∷ 12 ∷ []) ∷ (1 ∷ 6 ∷ []) ∷ (0 ∷ count 1 5) ∷ (2 ∷ count 7 6) ∷ []
cut_13 = refl

pub cut_9 : shown (cut_off 9 (loaded 3 (run_of 12))) ≡ (1 ∷ 2 ∷ []) ∷ (1 ∷ 12 ∷ []) ∷ (0 ∷ count 1 8) ∷ []
cut_9 = refl

pub cut_0 : shown (cut_off 0 (loaded 3 (run_of 12))) ≡ (1 ∷ 2 ∷ []) ∷ (1 ∷ 12 ∷ []) ∷ (0 ∷ []) ∷ []
cut_0 = refl
