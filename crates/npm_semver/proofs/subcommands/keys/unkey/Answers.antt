use Rattle.std.proofs.Common.{◌∙◌, map, string_bytes, sym}
use Rattle.npm_semver.proofs.Keyed.{no_unkey_words, no_unkeys, ok_then, refused_by, unkeys_said}
use Rattle.npm_semver.specs.Internal.Said.{said}
use Rattle.npm_semver.proofs.subcommands.keys.unkey.Goals as goal

pub returns-then-is_empty-clause-refused : goal.returns-then-is_empty-clause-refused
returns-then-is_empty-clause-refused c = no_unkey_words c.args.words.now string_bytes (sym c.is_empty.ensures ∙ c.if-is_empty.true)

pub returns-clause-ok : goal.returns-clause-ok
returns-clause-ok c = ok_then c.reply_to_words.result _ _
    (λ reply. unkeys_said c.args.words.now string_bytes (said reply) (sym c.is_empty.ensures ∙ c.if-is_empty.false)) c.reply_to_words.ensures.ok

pub returns-clause-refused : goal.returns-clause-refused
returns-clause-refused c = refused_by c.reply_to_words.result _ _ (no_unkeys (map string_bytes c.args.words.now)) c.reply_to_words.ensures.refused
