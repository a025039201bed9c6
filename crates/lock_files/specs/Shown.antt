-- Statement: which characters of a lock file are printed as they are.
use Rattle.std.specs.Prelude.{◌≡◌, ◌<◌, ◌≤◌, ℕ}

-- the code is that of printable ASCII, from the space to the tilde, and no backslash, with which
-- escapes begin
abbrev pub IsPlain : ℕ → Type 0
IsPlain c = (32 ≤ c) × (c < 127) × ¬ (c ≡ 92)
