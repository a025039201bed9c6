use Rattle.std.proofs.Common.{refl}
use Rattle.npm_semver.specs.Internal.Asked.{asked_of}
use Rattle.npm_semver.proofs.Answering.{lists}
use Rattle.npm_semver.proofs.run.list.Goals as goal

pub returns : goal.returns
returns c =
    let wrote = rw (c.new-output.ensures.bytes, c.deref-2.ensures.value, c.put_in_order.ensures, c.pick.ensures) at c.in_ok-write_all.ensures in
    lists (asked_of c.args.question.now) c.sort.new.self.items _ _ c.requires.answered (rw c.requires.level refl) c.requires.order (record {
      listed = c.args.listed.now.items;
      are = c.requires.listed;
      same = c.sort.ensures.permutation;
      sorted = c.in_ok-sort.ensures.sorted;
    }) wrote (rw c.deref.ensures.value at c.is_filled-is_success.ensures)
