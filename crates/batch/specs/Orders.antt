-- An order by its three words, and what a run of orders leaves and writes.
-- Assumes nothing.
use Rattle.std.specs.Prelude.{ℕ, ◌≡◌, List, Result, Ok, Err}
use Rattle.model.specs.declared.Refused.{Refused}
use Rattle.model.specs.Answer.{refused}
use Rattle.model.specs.State.{State, Reply, Order, put, get, delete, reserve, order, triples, after_all, answers}
use Rattle.model.specs.Words.{words_of}
use Rattle.batch.specs.declared.Request.{Request}
use Rattle.batch.specs.declared.Request.TheVariants.{Put, Get, Delete, Reserve}

abbrev pub order_of : ℕ → ℕ → ℕ → Order
order_of code key val = record { code = code; key = key; val = val }

-- what an order or its refusal asks of a state
abbrev pub asked : Result Request Refused → State → Reply
asked (Ok (Put key val)) s = put key val s
asked (Ok (Get key)) s = get key s
asked (Ok (Delete key)) s = delete key s
asked (Ok (Reserve key)) s = reserve key s
asked (Err r) s = record { answer = refused r; state = s }

-- it asks what the order of the words w does
abbrev pub Asks : (ℕ × ℕ × ℕ) → Result Request Refused → Type 0
Asks w r = (s : State) → order (order_of w.0 w.1 w.2) s ≡ asked r s

-- the orders in the words b ran on s: w and o are the arena's words and the answers then
pub record Ran (b : List ℕ) (s : State) (w o : List ℕ) : Type 0 where
  pub left : w ≡ words_of (after_all (triples b) s)
  pub written : o ≡ answers (triples b) s
