use Rattle.npm_semver.proofs.subcommands.keys.push_shown.Goals as goal

pub returns-in-Key-clause-some : goal.returns-in-Key-clause-some
returns-in-Key-clause-some c = rw c.in-Key.is c.push_key.ensures.some

pub returns-in-Key-clause-none : goal.returns-in-Key-clause-none
returns-in-Key-clause-none c = rw c.in-Key.is c.push_key.ensures.none

pub returns-in-KeyAndText-clause-some : goal.returns-in-KeyAndText-clause-some
returns-in-KeyAndText-clause-some c = rw c.in-KeyAndText.is c.push_key_and_text.ensures.some

pub returns-in-KeyAndText-clause-none : goal.returns-in-KeyAndText-clause-none
returns-in-KeyAndText-clause-none c = rw c.in-KeyAndText.is c.push_key_and_text.ensures.none

pub returns-in-Version-clause-some : goal.returns-in-Version-clause-some
returns-in-Version-clause-some c = rw c.in-Version.is c.push_version_of.ensures.some

pub returns-in-Version-clause-none : goal.returns-in-Version-clause-none
returns-in-Version-clause-none c = rw c.in-Version.is c.push_version_of.ensures.none
