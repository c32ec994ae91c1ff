-- `replay::bound` meets its contract.
-- Assumes nothing.
use Prim.Native.Nat.{ℕ, zero, suc, ◌≤◌}
use native.Mathlib.Omega.{arith}
use mathlib.Core.Path.{◌≡◌, refl}
use Rattle.model.specs.declared.SearchBound.TheVariants.{AllExcluded}
use Rattle.replay.specs.Records.{read_bound}
use Rattle.replay.proofs.bound.Goals as goal

other : (kind key : ℕ) → 3 ≤ kind → AllExcluded ≡ read_bound kind key
other zero key p = absurd (omega arith)
other (suc zero) key p = absurd (omega arith)
other (suc (suc zero)) key p = absurd (omega arith)
other (suc (suc (suc kind))) key p = refl

pub returns-in-0 : goal.returns-in-0
returns-in-0 c = let e : c.args.kind ≡ 0 = omega arith in rw e refl

pub returns-in-1 : goal.returns-in-1
returns-in-1 c = let e : c.args.kind ≡ 1 = omega arith in rw e refl

pub returns-in-2 : goal.returns-in-2
returns-in-2 c = let e : c.args.kind ≡ 2 = omega arith in rw e refl

pub returns-in_default : goal.returns-in_default
returns-in_default c = other c.args.kind c.args.key (omega arith)
