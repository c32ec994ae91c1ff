-- What the program does with the bytes that it has read: fewer than an order's only where the input ended.
-- Assumes nothing.
use Rattle.std.specs.Prelude.{ℕ, ◌≤◌, ◌<◌, ◌≡◌, ◌⊎◌, List, length, Option, Some, None}
use Rattle.model.specs.declared.Answer.{Answer}
use Rattle.model.specs.declared.Answer.TheVariants.{BadOrder}
use Rattle.model.specs.State.{Order, order}
use Rattle.model.specs.Promise.{Call}
use Rattle.telling.specs.Numbers.{word_in}

-- three words of 8 bytes
abbrev pub order_bytes : ℕ
order_bytes = 24

abbrev pub spelled : List ℕ → Order
spelled b = record { code = word_in b 0; key = word_in b 8; val = word_in b 16 }

-- the bytes b of a record, the arena's words w before and w' after, and what is answered: a whole order is run, a short one refused as BadOrder
abbrev pub Serves : List ℕ → List ℕ → List ℕ → Option Answer → Type 0
Serves b w w' (Some r) = ((order_bytes ≤ length b) × Call (order (spelled b)) w w' r) ⊎ ((1 ≤ length b) × (length b < order_bytes) × (w' ≡ w) × (r ≡ BadOrder))
Serves b w w' None = (length b ≡ 0) × (w' ≡ w)
