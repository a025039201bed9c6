use Rattle.std.proofs.Common.{◌≡◌, ◌∷◌, [], map, string_bytes}
use Rattle.npm_semver.proofs.Spans.{is_option, named_behind, no_options, not_named_behind, two_words}
use Rattle.npm_semver.proofs.subcommands.spans.dialect_in.Goals as goal

pub returns-in-empty-clause-ok : goal.returns-in-empty-clause-ok
returns-in-empty-clause-ok c = no_options _ _ c.in-empty.len_below

pub returns-in-len2-clause-ok : goal.returns-in-len2-clause-ok
returns-in-len2-clause-ok c =
    let words : map string_bytes c.args.options.now ≡ c.as_str.result.now ∷ c.deref.result.now ∷ [] =
    two_words c.args.options.now string_bytes c.option-item.result c.word-item.result _ _ c.in-len2.len_at_least c.in-len2.len_below
    c.option-item.is c.word-item.is c.as_str.ensures.value c.deref.ensures in
    rw words (named_behind _ _ c.of.result (is_option _ _ c.eq.ensures c.if-eq.true) c.of.ensures.ok)

pub returns-in-len2-clause-refused : goal.returns-in-len2-clause-refused
returns-in-len2-clause-refused c =
    let words : map string_bytes c.args.options.now ≡ c.as_str.result.now ∷ c.deref.result.now ∷ [] =
    two_words c.args.options.now string_bytes c.option-item.result c.word-item.result _ _ c.in-len2.len_at_least c.in-len2.len_below
    c.option-item.is c.word-item.is c.as_str.ensures.value c.deref.ensures in
    rw words (not_named_behind _ _ c.of.result (is_option _ _ c.eq.ensures c.if-eq.true) c.of.ensures.refused)
