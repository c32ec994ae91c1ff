-- A mark as an option, and the two words that say it.
-- Assumes nothing.
use Rattle.std.proofs.Common.{ℕ, ◌≡◌, refl, ap, Option, None, Some, Bool, is_some, unwrap_or}
use mir.Val.{bool_byte}
use Rattle.model.specs.Mark.{seen_of, mark_of}
use Rattle.header.specs.Headers.{marked}

-- the flag
pub flag_said : (x : Option ℕ) {b : Bool} → b ≡ is_some x → bool_byte b ≡ seen_of (marked x)
flag_said None e = ap bool_byte e
flag_said (Some k) e = ap bool_byte e

-- the key, or 0
pub key_said : (x : Option ℕ) → unwrap_or x 0 ≡ mark_of (marked x)
key_said None = refl
key_said (Some k) = refl
