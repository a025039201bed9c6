-- For proofs and private contracts. What the readers of node-semver's range texts give, without
-- places in memory.
use Rattle.npm_words.specs.Internal.Words as Spec
use Rattle.npm_words.specs.Table as Table
use Rattle.std.specs.Prelude.{ℕ, Bool, List, Option, Some, None}
use Rattle.std.specs.Borrow.{Bor}
use Rattle.semver_core.specs.Internal.Fronts.{Front}
use Rattle.npm_words.specs.Internal.Parts.{npm_partial_view, npm_sign_view}
use Rattle.npm_words.specs.Internal.Words.{is_free_lower, is_free_upper}
use Rattle.npm_words.specs.declared.hyphens.End.{End}
use Rattle.npm_words.specs.declared.hyphens.Side.{Side}
use Rattle.npm_words.specs.declared.hyphens.Side.TheVariants.{Lower, Upper}
use Rattle.npm_words.specs.declared.partial.Partial.{Partial}
use Rattle.npm_words.specs.declared.partial.Sign.{Sign}
use Rattle.npm_words.specs.declared.words.Signed.{Signed}

abbrev pub npm_front_view : Option (Partial × Bor (List ℕ)) → Front Table.Partial
npm_front_view None = None
npm_front_view (Some p) = Some (npm_partial_view p.0, p.1.now)

abbrev pub npm_sign_pair_view : Sign × Bor (List ℕ) → Table.Sign × List ℕ
npm_sign_pair_view p = (npm_sign_view p.0, p.1.now)

abbrev pub signed_view : Signed → Spec.Signed
signed_view w = (npm_sign_view w.sign, npm_partial_view w.partial, w.text.now)

abbrev pub signed_front_view : Option (Signed × Bor (List ℕ)) → Front Spec.Signed
signed_front_view None = None
signed_front_view (Some w) = Some (signed_view w.0, w.1.now)

abbrev pub end_view : End → Spec.Ended
end_view e = (e.marks.now, npm_partial_view e.partial, e.text.now)

abbrev pub end_front_view : Option (End × Bor (List ℕ)) → Front Spec.Ended
end_front_view None = None
end_front_view (Some e) = Some (end_view e.0, e.1.now)

abbrev pub end_some_view : Option End → Option Spec.Ended
end_some_view None = None
end_some_view (Some e) = Some (end_view e)

abbrev pub hyphen_view : Option (End × End) → Option (Spec.Ended × Spec.Ended)
hyphen_view None = None
hyphen_view (Some e) = Some (end_view e.0, end_view e.1)

-- whether any marks may stand before this end of a hyphen range
abbrev pub is_free_end : Side → Table.Partial → Bool
is_free_end Lower = is_free_lower
is_free_end (Upper include) = is_free_upper include
