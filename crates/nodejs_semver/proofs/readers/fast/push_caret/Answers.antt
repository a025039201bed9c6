use Rattle.nodejs_semver.proofs.Bounds.TableReadings.{ordered}
use Rattle.nodejs_semver.proofs.readers.fast.push_caret.Goals as goal

pub push_word-requires : goal.push_word-requires
push_word-requires g c = search (ordered _ _ _ c.caret.ensures)
