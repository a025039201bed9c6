use Rattle.std.proofs.Common.{◌≡◌, ◌∷◌, [], Err, None, if◌then◌else◌, map, string_bytes, subst}
use Rattle.std.specs.List.{flat_map}
use Rattle.std.specs.Prelude.{⊤}
use Rattle.semver_core.specs.Lists.{is_empty}
use Rattle.npm_semver.proofs.Keyed.{ok_then, refused_by}
use Rattle.npm_semver.proofs.Spans.{no_spans, one_word, spans_said}
use Rattle.npm_semver.specs.Internal.Said.{said}
use Rattle.npm_semver.specs.Responses.{line}
use Rattle.npm_semver.specs.Spans.{span_text}
use Rattle.npm_semver.specs.Subcommands.{say}
use Rattle.npm_semver.specs.declared.subcommands.replies.Status.TheVariants.{Yes, No}
use Rattle.npm_semver.proofs.subcommands.spans.spans.Goals as goal

pub returns-in-Ok-clause-ok : goal.returns-in-Ok-clause-ok
returns-in-Ok-clause-ok c =
    let words : map string_bytes c.args.words.now ≡ c.deref.result.now ∷ [] =
    one_word c.args.words.now string_bytes c.text-item.result _ c.in-len1.len_at_least c.in-len1.len_below c.text-item.is c.deref.ensures in
    rw words (ok_then c.listed.result _ _ (λ reply says. spans_said c.deref.result.now c.in-Ok.spans.items _ c.in-Ok.ensures.ok
    (subst (λ l. said reply ≡ say (flat_map (λ s. line (span_text s)) l) None (if is_empty l then No else Yes)) c.deref-in-Ok.ensures.value says)) c.listed.ensures.ok)

pub returns-in-Ok-clause-refused : goal.returns-in-Ok-clause-refused
returns-in-Ok-clause-refused c = refused_by c.listed.result _ _ (λ never. absurd never) c.listed.ensures.refused

pub returns-in-Err-clause-refused : goal.returns-in-Err-clause-refused
returns-in-Err-clause-refused c =
    let words : map string_bytes c.args.words.now ≡ c.deref.result.now ∷ [] =
    one_word c.args.words.now string_bytes c.text-item.result _ c.in-len1.len_at_least c.in-len1.len_below c.text-item.is c.deref.ensures in
    rw words (refused_by {A = ⊤} (Err c.in-Err.failure) _ _ (no_spans c.deref.result.now) c.in-Err.ensures.refused)
