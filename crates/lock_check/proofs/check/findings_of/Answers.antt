use Rattle.std.proofs.Common.{◌+◌, ◌∷◌, ◌++◌, [], arith, get_or, refl, subst, sym}
use Rattle.std.proofs.lemmas.List.Elements.{All-from_all_within, AllWithin-more}
use Rattle.std.proofs.lemmas.List.Elements.{AllWithin-upto, at_read}
use Rattle.std.proofs.lemmas.Option.{slice_get_read}
use Rattle.std.specs.List.{AllWithin}
use Rattle.lock_check.specs.Internal.Found.{IsAmong}
use Rattle.lock_check.proofs.Completing.{among-more, among-push, about-push, single-push}
use Rattle.lock_check.proofs.Judging.{AreFirst, first-more}
use Rattle.lock_check.proofs.check.findings_of.Goals as goal

pub loop-number-preserved : goal.loop-number-preserved
loop-number-preserved c =
    let lock = c.args.lock in
    let e = c.index-edges-number.result in
    let f = c.in_ok-finding.field-0 in
    let before = c.loop-number.findings.items in
    let same = c.in_ok-push.ensures.items in record {
      each = λ at laid chosen.
          let here = slice_get_read c.args.edges.now _ c.loop-number.number e refl (omega arith) c.index-edges-number.is in
          first-more lock c.args.edges.now c.loop-number.number before c.push.new.self.items f (record {
            e = e;
            is = here;
            wanted = c.wanted-wanted.result;
            after = c.wanted-wanted.ensures c.args.edges.now at laid chosen here;
            dependency = c.in_ok-finding.ensures.dependency;
            outcome = c.in_ok-finding.ensures.outcome;
          }) same (c.loop-number.invariant.each at laid chosen);
      all = subst (λ found. AllWithin (IsAmong found) c.args.edges.now 0 (c.loop-number.number + 1)) (sym same)
          (AllWithin-more (IsAmong (before ++ f ∷ [])) c.args.edges.now 0 c.loop-number.number
          (λ k d low high. among-more before f (get_or c.args.edges.now k d) (c.loop-number.invariant.all k d low high))
          (at_read c.args.edges.now (IsAmong (before ++ f ∷ [])) c.loop-number.number e (omega arith)
          c.index-edges-number.is
          (among-push before f e c.wanted-wanted.result c.in_ok-finding.ensures.dependency)));
      about = about-push c.args.edges.now c.loop-number.number before c.push.new.self.items f e c.wanted-wanted.result (omega arith)
          c.index-edges-number.is c.in_ok-finding.ensures.dependency same c.loop-number.invariant.about;
      single = λ apart. single-push c.args.edges.now c.loop-number.number before c.push.new.self.items f e c.wanted-wanted.result
          (omega arith) c.index-edges-number.is c.in_ok-finding.ensures.dependency same apart c.loop-number.invariant.about
          (c.loop-number.invariant.single apart);
    }

pub returns-clause-all : goal.returns-clause-all
returns-clause-all c =
    All-from_all_within (IsAmong c.loop-number.findings.items) c.args.edges.now
    (AllWithin-upto (IsAmong c.loop-number.findings.items) c.args.edges.now 0 c.loop-number.number _ (omega arith)
    c.loop-number.invariant.all)

pub returns-clause-each : goal.returns-clause-each
returns-clause-each c = λ at laid chosen.
    subst (λ n. AreFirst c.args.lock c.args.edges.now n c.loop-number.findings.items) (omega (arith, c.loop-number-test.false, c.loop-number.auto.number-end))
    (c.loop-number.invariant.each at laid chosen)
