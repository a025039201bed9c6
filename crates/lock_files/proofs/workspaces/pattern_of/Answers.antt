use Rattle.std.proofs.Common.{◌∙◌, ap, arith}
use Rattle.std.proofs.lemmas.Str.Pattern.{strip_prefix_char}
use Rattle.lock_files.proofs.Patterns.{dot-off, end-off, front-off}
use Rattle.lock_files.specs.Workspaces.{without_end, without_front}
use Rattle.lock_files.proofs.workspaces.pattern_of.Goals as goal

pub returns : goal.returns
returns c =
    let text = c.args.text in
    let dot = dot-off text c.strip_prefix.result
    (strip_prefix_char 46 text.now c.strip_prefix.result c.strip_prefix.ensures.cases (omega arith)) in
    end-off c.trim_start_matches.result.now c.trim_end_matches.result.now c.trim_end_matches.ensures.matches
    ∙ ap without_end (front-off c.unwrap_or-text.result.now c.trim_start_matches.result.now c.trim_start_matches.ensures.matches
    ∙ ap without_front (ap (λ t. t.now) c.unwrap_or-text.ensures ∙ dot))
