use Rattle.nodejs_semver_c.proofs.read.Grammar.spelled.Goals as goal

pub returns-in-Port-clause-ok : goal.returns-in-Port-clause-ok
returns-in-Port-clause-ok c = rw c.in-Port.is c.parse.ensures.ok

pub returns-in-Port-clause-refused : goal.returns-in-Port-clause-refused
returns-in-Port-clause-refused c = rw c.in-Port.is c.parse.ensures.refused

pub returns-in-Npm-clause-ok : goal.returns-in-Npm-clause-ok
returns-in-Npm-clause-ok c = rw c.in-Npm.is c.version.ensures.ok

pub returns-in-Npm-clause-refused : goal.returns-in-Npm-clause-refused
returns-in-Npm-clause-refused c = rw c.in-Npm.is c.version.ensures.refused
