-- For proofs and private contracts: spans of keys as lists of bytes.
use Rattle.std.specs.Prelude.{◌≡◌, ◌≤◌, length, ◌&&◌, ◌||◌, Bool, List, [], ◌∷◌, if◌then◌else◌, map, not, true, ℕ}
use Rattle.std.specs.Cmp.Lexicographic.{slice_cmp}
use Rattle.std.specs.List.{list_any}
use Rattle.std.specs.Ordering.{is_le, is_lt, nat_cmp}
use Rattle.key_spans.specs.Internal.Sets.{Stretch, has, is_canonical}
use Rattle.key_spans.specs.Spans.{AreEnds, ends_in_3}
use Rattle.key_spans.specs.declared.KeySpan.{KeySpan}

pub record Piece : Type 0 where
  pub start : List ℕ
  pub stop : List ℕ
  pub releases_only : Bool

abbrev pub piece : KeySpan → Piece
piece s = record { start = s.start.items; stop = s.stop.items; releases_only = s.releases_only }

abbrev pub pieces : List KeySpan → List Piece
pieces spans = map piece spans

-- where the span begins and stops
abbrev pub stretch_of : KeySpan → Stretch (List ℕ)
stretch_of s = record { start = s.start.items; stop = s.stop.items }

abbrev pub stretches : List KeySpan → List (Stretch (List ℕ))
stretches spans = map stretch_of spans

abbrev pub in_piece : Piece → List ℕ → Bool
in_piece s k = (is_le (slice_cmp nat_cmp s.start k) && is_lt (slice_cmp nat_cmp k s.stop))
    && (not s.releases_only || ends_in_3 k)

abbrev pub in_pieces : List Piece → List ℕ → Bool
in_pieces spans k = list_any (λ s. in_piece s k) spans

abbrev pub flagged : Bool → Stretch (List ℕ) → Piece
flagged flag s = record { start = s.start; stop = s.stop; releases_only = flag }

abbrev pub all_flagged : Bool → List (Stretch (List ℕ)) → List Piece
all_flagged flag ss = map (flagged flag) ss

-- the canonical list of some stretches
pub record IsCanonicalOf (old new : List (Stretch (List ℕ))) : Type 0 where
  pub canonical : is_canonical (slice_cmp nat_cmp) new ≡ true
  pub same : (k : List ℕ) → has (slice_cmp nat_cmp) new k ≡ has (slice_cmp nat_cmp) old k
  pub few : length new ≤ length old

-- no piece is empty, and each is behind the one before it
abbrev pub is_some_piece : Piece → Bool
is_some_piece s = is_lt (slice_cmp nat_cmp s.start s.stop)

abbrev pub is_piece_behind : (s t : Piece) → Bool
is_piece_behind s t = if s.releases_only then not t.releases_only || is_lt (slice_cmp nat_cmp s.stop t.start)
    else not t.releases_only && is_lt (slice_cmp nat_cmp s.stop t.start)

abbrev pub are_sorted : List Piece → Bool
are_sorted [] = true
are_sorted (s ∷ []) = is_some_piece s
are_sorted (s ∷ t ∷ ss) = is_some_piece s && (is_piece_behind s t && are_sorted (t ∷ ss))

abbrev pub PieceEnds : Bool → Piece → Type 0
PieceEnds include s = AreEnds include s.releases_only s.start s.stop
