use Rattle.semver_core.proofs.Reading.IdentifierLists.{listed_taken}
use Rattle.semver_pieces.proofs.fronts.split_list.Goals as goal

pub returns-clause-listed : goal.returns-clause-listed
returns-clause-listed c = rw (c.split_at.ensures.front, c.list_len.ensures.exact) (listed_taken c.args.text.now c.requires)
