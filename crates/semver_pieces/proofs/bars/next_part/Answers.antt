use Rattle.semver_core.proofs.Dividing.BarLemmas.{parts-front}
use Rattle.semver_core.proofs.Reading.Bytes.{trim-starts}
use Rattle.semver_core.proofs.Text.Trims.{middle_is_trim}
use Rattle.semver_core.specs.Internal.Parts.{later_parts}
use Rattle.semver_core.specs.Internal.Spaces.{trim}
use Rattle.semver_core.specs.Internal.Views.{rest_view}
use Rattle.std.proofs.Common.{List, Option, ap, sym, ℕ, ◌∙◌, ◌∷◌}
use Rattle.semver_pieces.proofs.bars.next_part.Goals as goal

pub returns-clause-value : goal.returns-clause-value
returns-clause-value c =
    ap (λ (t : List ℕ). t ∷ later_parts (rest_view c.cut_part.result.1)) (middle_is_trim c.cut_part.result.0.now c.trim.result.now c.trim.ensures.middle)
    ∙ (ap (λ (p : List ℕ × Option (List ℕ)). trim p.0 ∷ later_parts p.1) c.cut_part.ensures ∙ sym (parts-front c.args.text.now))

pub returns-clause-starts : goal.returns-clause-starts
returns-clause-starts c = trim-starts c.cut_part.result.0.now c.trim.result.now c.trim.ensures.middle
