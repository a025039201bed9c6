use Rattle.nodejs_semver.proofs.JsonTexts.{memory-if, read-some}
use Rattle.nodejs_semver.proofs.json.version_from_json_text.Goals as goal

pub returns-in-Ok-clause-memory : goal.returns-in-Ok-clause-memory
returns-in-Ok-clause-memory c = memory-if _ _ (read-some c.args.text.now _ c.in-Ok.ensures.ok)
