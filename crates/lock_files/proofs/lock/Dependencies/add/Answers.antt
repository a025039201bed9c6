use Rattle.lock_files.proofs.Added.{all-added}
use Rattle.lock_files.proofs.Collecting.{named-more}
use Rattle.lock_files.specs.Dependencies.{IsDeclared}
use Rattle.lock_files.proofs.lock.Dependencies.add.Goals as goal

pub returns-in_ok-push-clause-named : goal.returns-in_ok-push-clause-named
returns-in_ok-push-clause-named c = λ are.
    named-more c.args.self.now (record { names = c.insert.new.self; first = c.push.new.self }) c.args.dependency are
    c.in_ok-insert.ensures.updates c.in_ok-push.ensures.items

pub returns-in_ok-push-clause-each : goal.returns-in_ok-push-clause-each
returns-in_ok-push-clause-each c = λ lock is all.
    all-added (IsDeclared lock) c.args.self.now.first.items c.push.new.self.items c.args.dependency all
    c.in_ok-push.ensures.items is
