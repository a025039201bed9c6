-- Where spans may start and stop.
use Rattle.std.specs.Prelude.{◌≡◌, ◌↔◌, ◌⊎◌, true}
use Rattle.std.specs.declared.cmp.Ordering.{Ordering}
use Rattle.std.specs.Ordering.{is_le}
use Rattle.key_spans.specs.Internal.Sets.{Stretch}

-- The places of spans, where only some places on the line are points that count, and the line may be in parts: a span
-- starts at a point that counts, stops at one or at an end of its part of the line, and does not reach past that end.
pub record IsPlaced {A : Type 0} (R : A → A → Ordering) (counts : A → Type 0) (ends : A → A → Type 0) (s : Stretch A) : Type 0 where
  pub start : counts s.start
  pub stop : counts s.stop ⊎ ends s.start s.stop
  pub within : (e : A) → ends s.start e → is_le (R s.stop e) ≡ true

-- points with no end between them are in one part
pub record IsParted {A : Type 0} (R : A → A → Ordering) (counts : A → Type 0) (ends : A → A → Type 0) : Type 0 where
  pub same : (a b e : A) → counts a → counts b → is_le (R a b) ≡ true → ((d : A) → ends a d → is_le (R b d) ≡ true)
      → ends a e ↔ ends b e
