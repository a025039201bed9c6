use Rattle.lock_files.proofs.Added.{as-before, extends-on}
use Rattle.lock_files.proofs.Collecting.{rank-at, upto-all, upto-own, upto-workspaces}
use Rattle.lock_files.proofs.Telling.{told-all, told-more, told-none}
use Rattle.lock_files.proofs.lock.add_dependencies.Goals as goal

pub loop-field-init : goal.loop-field-init
loop-field-init c = record {
  each = λ lock is all. all;
  all = upto-workspaces c.args.package c.args.found.now;
  more = λ are d at. at;
  kept = as-before c.args.faults.now.items;
  told = told-none c.args.package c.args.faults.now.items;
  wrong = λ lock is all. all;
}

pub loop-field-preserved : goal.loop-field-preserved
loop-field-preserved c =
    let i = c.loop-field.field-index in
    let before = c.loop-field.faults.items in
    let after = c.add_field.new.faults.items in record {
      each = λ lock is all. c.in_ok-add_field.ensures.each lock is (c.loop-field.invariant.each lock is all);
      all = λ are. c.in_ok-add_field.ensures.all i (rank-at i c.loop-field-test.true) (c.loop-field.invariant.all are);
      more = λ are d at. c.in_ok-add_field.ensures.more (c.loop-field.invariant.all are).named d
          (c.loop-field.invariant.more are d at);
      kept = extends-on c.args.faults.now.items before after c.loop-field.invariant.kept c.in_ok-add_field.ensures.kept;
      told = told-more c.args.package i before after c.loop-field-test.true c.in_ok-add_field.ensures.kept
          c.in_ok-add_field.ensures.told c.loop-field.invariant.told;
      wrong = λ lock is all. c.in_ok-add_field.ensures.wrong lock is (c.loop-field.invariant.wrong lock is all);
    }

pub returns-clause-all : goal.returns-clause-all
returns-clause-all c = λ are.
    upto-all c.args.package c.loop-field.found c.loop-field.field-index c.loop-field-test.false
    (c.loop-field.invariant.all are)

pub returns-clause-told : goal.returns-clause-told
returns-clause-told c = told-all c.args.package c.loop-field.field-index c.loop-field.faults.items c.loop-field-test.false c.loop-field.invariant.told

pub returns-clause-own : goal.returns-clause-own
returns-clause-own c = λ are.
    upto-own c.args.package c.loop-field.found c.loop-field.field-index (c.loop-field.invariant.all are)
