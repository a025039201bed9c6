-- The table is held against the definition at each of the 256 bytes, by computing.
use Rattle.semver_core.proofs.Common.{is_identifier_char, Bool, List, arith, get_or, refl, true, ℕ, ◌<◌, ◌≡◌, nat_eq, not, suc}
use Rattle.semver_core.proofs.Common.{zero, ◌&&◌}
use Rattle.{semver_core.specs.declared.scan.TheConstants.IDENTIFIER_CHARS, std.specs.Bool.beq}
use Rattle.semver_core.proofs.scan.is_identifier_char.Goals as goal

-- two tests agree below n
agree_below : (ℕ → Bool) → (ℕ → Bool) → ℕ → Bool
agree_below f g zero = true
agree_below f g (suc n) = beq (f n) (g n) && agree_below f g n

agree-at : (f g : ℕ → Bool) (n : ℕ) → agree_below f g n ≡ true → (b : ℕ) → b < n → f b ≡ g b
unfolding agree_below
agree-at f g zero h b lt = absurd (omega arith)
agree-at f g (suc n) h b lt = grind (arith, agree-at f g n)

from-table : (table : List ℕ) (b : ℕ) → b < 256
    → agree_below (λ k. not (nat_eq (get_or table k 0) 32)) is_identifier_char 256 ≡ true
    → not (nat_eq (get_or table b 0) 32) ≡ is_identifier_char b
from-table table b lt h = agree-at _ _ 256 h b lt

pub returns : goal.returns
unfolding agree_below
returns c = from-table IDENTIFIER_CHARS c.args.byte (omega arith) refl
