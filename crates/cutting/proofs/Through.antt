-- The cut on the words of a sound state, step by step.
-- Assumes nothing.
use Prim.Native.Nat.{ℕ, ◌≤◌}
use mathlib.Core.Path.{◌≡◌, sym, ap, ◌∙◌, subst}
use mathlib.Core.List.{List}
use lib.Dec.{lit<}
use lib.ListN.{length, get_or, set}
use Rattle.model.specs.Layout.{largest_count, header, height_word, count_word, root_word, pairs_word, total_word, word_at, NodeVal, Arena}
use Rattle.model.specs.Insert.{right}
use Rattle.model.specs.State.{State, list}
use Rattle.model.specs.Words.{root_no, header_of, words_of}
use Rattle.model.specs.Promise.{Holds}
use Rattle.model.specs.Parting.{path_of}
use Rattle.model.proofs.Border.{bordered_fitting}
use Rattle.node.specs.Reading.{Within, Has}
use Rattle.node.proofs.Reading.{within, total_is}
use Rattle.search.specs.declared.Handle.{Handle}
use Rattle.search.specs.Results.{leaf_edge}
use Rattle.store.proofs.Chain.{head_is, head_put}
use Rattle.loading.proofs.Cuts.{stays_bordered}
use Rattle.cutting.specs.Trims.{Goal, Trims, TrimsIn, Trimmed}
use Rattle.cutting.specs.Sweep.{swept, swept_head}
use Rattle.cutting.specs.Halves.{half}
use Rattle.cutting.proofs.Halves.{goal_at, cut_starts, nodes_many, root_total, root_inside, half_words}

module _ (k : ℕ) {w : List ℕ} {s : State} (o : Holds w s) (d : Handle) (e : d ≡ leaf_edge (path_of k s.whole)) where
  begins : Trims w (header_of s) (goal_at s (path_of k s.whole)) d.node.0 d.at.0 (header (header_of s) height_word)
  begins = subst (λ (x : List ℕ). Trims x (header_of s) (goal_at s (path_of k s.whole)) d.node.0 d.at.0 (header (header_of s) height_word)) (sym o.words) (cut_starts k s o.sound d e)

  pub along_ready : TrimsIn w d.node.0 d.at.0
  along_ready = record { head = header_of s; goal = goal_at s (path_of k s.whole); trims = begins }

  module _ (w₁ : List ℕ) (along : (hd : List ℕ) (g : Goal) → Trims w hd g d.node.0 d.at.0 (header hd height_word) → Trimmed w₁ hd g) where
    D : Trimmed w₁ (header_of s) (goal_at s (path_of k s.whole))
    D = along _ _ begins

    many : header (header_of s) count_word ≡ length D.nodes
    many = sym (D.long ∙ nodes_many k s o.sound)

    pub sweep_ready : Has w₁ (λ h ns. (header h count_word ≡ length ns) × (length ns ≤ largest_count))
    sweep_ready = record { head = header_of s; nodes = D.nodes; arena = D.arena; holds = (many, D.stand.few) }

    module _ (w₂ : List ℕ) (sweep : (h : List ℕ) (ns : List NodeVal) → header h count_word ≡ length ns → Arena w₁ h ns → Arena w₂ (swept_head k h ns) (swept k 0 ns)) where
      A : Arena w₂ (swept_head k (header_of s) D.nodes) (swept k 0 D.nodes)
      A = sweep (header_of s) D.nodes many D.arena

      root_is : get_or w₂ root_word 0 ≡ root_no s.whole.height s.whole.root
      root_is = head_is A root_word (lit< tt)

      pub root_ready : Within w₂ (get_or w₂ root_word 0)
      root_ready = subst (Within w₂) (sym root_is) (within A _ (root_inside k s o.sound D))

      pub cut_through : (x : ℕ) → x ≡ word_at w₂ (get_or w₂ root_word 0) total_word → set w₂ pairs_word x ≡ words_of (half k s)
      cut_through x z =
          let n : x ≡ length (list (half k s)) = z ∙ ap (λ (q : ℕ). word_at w₂ q total_word) root_is ∙ total_is A _ (root_inside k s o.sound D) ∙ root_total k s o.sound D in
          half_words k s o.sound (bordered_fitting right (half k s).whole.height (half k s).whole.root (stays_bordered k s o.sound)) D
          (subst (λ (y : ℕ). Arena (set w₂ pairs_word x) (set (swept_head k (header_of s) D.nodes) pairs_word y) (swept k 0 D.nodes)) n (head_put A pairs_word x (lit< tt)))
