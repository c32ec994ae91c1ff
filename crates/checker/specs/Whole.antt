-- What is tested of the header before the walk, and of all words after it.
-- Assumes nothing.
use Rattle.std.specs.Prelude.{ℕ, ◌-◌, ◌≤◌, ◌≡◌, List, length, None}
use Rattle.model.specs.declared.Layout.{Layout}
use Rattle.model.specs.Layout.{none, SizedBy, header_size, format_number_by, largest_height, header, format_word, count_word, offset_word, root_word, height_word, pairs_word, first_free_word, free_word, seen_word, mark_word}
use Rattle.model.specs.WellFormed.{root_fewest}
use Rattle.model.specs.Shape.{ChainBy}
use Rattle.inspect.specs.Tests.{Marked}
use Rattle.checker.specs.declared.Walk.{Walk}
use Rattle.checker.specs.Walks.{Task, node_task}

pub record HeadingBy (fm : Layout) (w : List ℕ) : Type 0 where
  pub format : header w format_word ≡ format_number_by fm
  pub sized : SizedBy fm (header w count_word) (length w)
  pub offset : header w offset_word ≡ header_size
  pub low : header w height_word ≤ largest_height
  pub few_free : header w free_word ≤ header w count_word

-- the walk over the whole tree, and what is left to be met where it begins
abbrev pub tree : (fm : Layout) → List ℕ → Task
tree fm w = node_task fm w (header w count_word) (record { below = header w height_word; fewest = root_fewest (header w height_word); node = header w root_word; parent = none; place = 0 })

abbrev pub start : List ℕ → Walk
start w = record { nodes = header w count_word - header w free_word; pairs = header w pairs_word; last = None }

-- the walk ended with nothing left
pub record FinishedBy (fm : Layout) (w : List ℕ) (end : Walk) : Type 0 where
  pub nodes : end.nodes ≡ 0
  pub pairs : end.pairs ≡ 0
  pub free : ChainBy fm w (header w count_word) (header w free_word) (header w first_free_word)
  pub marked : Marked (header w seen_word) (header w mark_word) end.last
