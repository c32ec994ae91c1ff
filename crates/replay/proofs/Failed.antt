-- What holds whatever a function answers holds of its error.
-- Assumes nothing.
use Rattle.std.specs.Prelude.{Result, Ok, Err, OnErr}

pub on_err : {A E P : Type 0} (r : Result A E) → P → OnErr r P
on_err (Ok x) p = tt
on_err (Err e) p = p
