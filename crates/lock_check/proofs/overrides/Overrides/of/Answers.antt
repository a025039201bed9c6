use Rattle.std.proofs.Common.{[], None, Some, ap, option_map, refl, subst, sym, unwrap_or}
use Rattle.std.proofs.lemmas.List.{append-nil}
use Rattle.lock_check.proofs.Laying.{laid-none, laid-some}
use Rattle.serde_json.specs.View.{members_view}
use Rattle.lock_check.specs.Internal.Overriding.{AreInsideTold, IsAmongRules, IsFound, OfPackage}
use Rattle.lock_files.proofs.Added.{extends-on, all-none, fault-kept}
use Rattle.lock_check.proofs.Overriding.{found-object, found-told}
use Rattle.lock_check.proofs.overrides.Overrides.of.Goals as goal

pub returns-in_default-clause-inside : goal.returns-in_default-clause-inside
returns-in_default-clause-inside c = λ lock at.
    found-told lock c.args.root None c.outermost.new.faults.items at
    (subst (λ f. IsFound c.args.root (option_map (λ o. members_view o.now.entries) f)) c.in_default.is c.in_ok-object.ensures.found)
    (λ rules some. absurd (cc))

pub returns-in_default-clause-laid : goal.returns-in_default-clause-laid
returns-in_default-clause-laid c = laid-none c.args.root c.new-rules.result.items c.new-rules.ensures.items
    (subst (λ f. IsFound c.args.root (option_map (λ o. members_view o.now.entries) f)) c.in_default.is c.in_ok-object.ensures.found)

pub returns : goal.returns
returns c =
    let root = c.args.root in
    let object = members_view c.in-Some.object.now.entries in
    let before = c.outermost.new.faults.items in
    let after = c.add_rules.new.faults.items in
    let found = subst (λ f. IsFound root (option_map (λ o. members_view o.now.entries) f)) c.in-Some.is c.in_ok-object.ensures.found in
    let is = found-object root object found in record {
      root = refl;
      rules = c.in_ok-add_rules.ensures.rules root is
          (all-none (λ r. OfPackage root (λ fields. IsAmongRules fields r)) c.new-rules.result.items c.new-rules.ensures.items);
      laid = laid-some root c.new-rules.result.items c.add_rules.new.rules.items object c.new-rules.ensures.items found
          (c.in_ok-add_rules.ensures.laid c.add_rules.new.rules.items ([], sym (append-nil c.add_rules.new.rules.items)));
      kept = extends-on c.args.faults.now.items before after c.in_ok-object.ensures.kept c.in_ok-add_rules.ensures.kept;
      told = λ lock at has. fault-kept before after _ c.in_ok-add_rules.ensures.kept (c.in_ok-object.ensures.told lock at has);
      inside = λ lock at. found-told lock root (Some object) after at found
          (λ rules some. subst (AreInsideTold after) (ap (λ o. unwrap_or o object) some) c.in_ok-add_rules.ensures.told);
      wrong = λ lock at all. c.in_ok-add_rules.ensures.wrong lock root at is (c.in_ok-object.ensures.wrong lock at all);
    }
