use Rattle.std.proofs.Common.{◌∙◌, ◌≡◌, ◌∷◌, [], ap, arith, IfNone, IfSome, inl, inr, length, List, subst, sym, unwrap_or}
use Rattle.std.proofs.lemmas.List.{append-nil}
use Rattle.lock_check.proofs.Laying.{behind-none, behind-some, upto-end, upto-passed, upto-rule}
use Rattle.std.proofs.lemmas.Map.Iter.{iter_end, iter_turn}
use Rattle.std.specs.Map.Iter.{deref_pair}
use Rattle.serde_json.specs.View.{members_view, view}
use Rattle.lock_files.specs.Faults.{Extends}
use Rattle.lock_check.specs.declared.overrides.Rule.{Rule}
use Rattle.lock_check.specs.declared.overrides.Scope.TheVariants as scope
use Rattle.lock_check.specs.Internal.Overriding.{AreInsideTold, AreLaid, IsAmongRules, IsRuleOf, OfPackage}
use Rattle.lock_check.specs.Malformed.{IsFault}
use Rattle.lock_check.specs.Overrides.{IsNoRule}
use Rattle.lock_files.specs.declared.fault.Fault.TheVariants.{Override}
use Rattle.lock_files.proofs.Added.{extends-more, extends-on, all-added, as-before, one-more}
use Rattle.lock_check.proofs.Overriding.{fault-made, has-key, is-dot, is-other, key-told, less-deep, no-rule}
use Rattle.lock_check.proofs.Overriding.{object-made, rule-made, upto-all, upto-more}
use Rattle.lock_check.proofs.overrides.+add_rules.Goals as goal

pub loop-key-preserved-then-eq : goal.loop-key-preserved-then-eq
loop-key-preserved-then-eq t c =
    let es = c.args.object.now.entries in
    let turn = iter_turn deref_pair es c.loop-key.yielded c.into_iter-key-iterator.result c.loop-key.key-iterator c.next.new.self c.next.result
    (c.into_iter-key-iterator.ensures.into_iter_gives ∙ c.iter-key-items.ensures.rest)
    c.loop-key.yielded_by (c.in-Some.key, c.in-Some.value) c.in-Some.is c.next.ensures.steps in
    let faults = c.loop-key.faults.items in record {
      rules = c.loop-key.invariant.rules;
      more = c.loop-key.invariant.more;
      laid = upto-passed es c.args.outer _ c.loop-key.rules.items c.loop-key.yielded (c.in-Some.key, c.in-Some.value)
          c.in-Some.key.now c.in-Some.value.now turn.1
          (inl (sym c.as_str-name.ensures.value ∙ is-dot c.as_str-name.result.now c.eq.result c.eq.ensures c.if-eq.true))
          c.loop-key.invariant.laid;
      kept = c.loop-key.invariant.kept;
      told = upto-more es faults faults c.loop-key.yielded (c.in-Some.key, c.in-Some.value) c.in-Some.key.now c.in-Some.value.now
          (as-before faults) turn.1
          (λ other. absurd (other (sym c.as_str-name.ensures.value ∙ is-dot c.as_str-name.result.now c.eq.result c.eq.ensures c.if-eq.true)))
          c.loop-key.invariant.told;
      wrong = c.loop-key.invariant.wrong;
    }

pub loop-key-preserved-in_default : goal.loop-key-preserved-in_default
loop-key-preserved-in_default t c =
    let es = c.args.object.now.entries in
    let key = c.in-Some.key.now in
    let value = c.in-Some.value.now in
    let turn = iter_turn deref_pair es c.loop-key.yielded c.into_iter-key-iterator.result c.loop-key.key-iterator c.next.new.self c.next.result
    (c.into_iter-key-iterator.ensures.into_iter_gives ∙ c.iter-key-items.ensures.rest)
    c.loop-key.yielded_by (c.in-Some.key, c.in-Some.value) c.in-Some.is c.next.ensures.steps in
    let name = c.as_str-name.result in
    let other = is-other name.now c.eq.result c.eq.ensures c.if-eq.false in
    let has = has-key es (length c.loop-key.yielded) key value name.now turn.1 c.as_str-name.ensures.value other in
    let none = subst (λ r. IfNone r (IsNoRule name.now (view value))) c.in_default.is c.in_ok-rule.ensures.none in
    let before = c.loop-key.faults.items in
    let after = c.push.new.self.items in
    let same = c.in_ok-push.ensures.items in record {
      rules = c.loop-key.invariant.rules;
      more = c.loop-key.invariant.more;
      laid = upto-passed es c.args.outer _ c.loop-key.rules.items c.loop-key.yielded (c.in-Some.key, c.in-Some.value) key value turn.1
          (inr (subst (λ k. IsNoRule k (view value)) c.as_str-name.ensures.value none)) c.loop-key.invariant.laid;
      kept = extends-more c.args.faults.now.items before after (Override name) c.loop-key.invariant.kept same;
      told = upto-more es before after c.loop-key.yielded (c.in-Some.key, c.in-Some.value) key value
          (one-more before after (Override name) same) turn.1
          (λ _. no-rule before after name key (view value) c.as_str-name.ensures.value same none)
          c.loop-key.invariant.told;
      wrong = λ lock root at of all. all-added (IsFault lock) before after (Override name)
          (c.loop-key.invariant.wrong lock root at of all) same
          (fault-made lock root (members_view es) name (view value) at of has none);
    }

pub add_rules-requires : goal.add_rules-requires
add_rules-requires t c =
    let es = c.args.object.now.entries in
    let key = c.in-Some.key.now in
    let value = c.in-Some.value.now in
    let turn = iter_turn deref_pair es c.loop-key.yielded c.into_iter-key-iterator.result c.loop-key.key-iterator c.next.new.self c.next.result
    (c.into_iter-key-iterator.ensures.into_iter_gives ∙ c.iter-key-items.ensures.rest)
    c.loop-key.yielded_by (c.in-Some.key, c.in-Some.value) c.in-Some.is c.next.ensures.steps in
    let name = c.as_str-name.result in
    let other = is-other name.now c.eq.result c.eq.ensures c.if-eq.false in
    let has = has-key es (length c.loop-key.yielded) key value name.now turn.1 c.as_str-name.ensures.value other in
    let deep = less-deep (members_view es) (members_view c.in-Some-as_object.inner.now.entries) name.now (view value) has.0
    (sym c.in-Some-as_object.ensures) in
    omega (arith, c.decreases)

pub loop-key-preserved-in-Continue-branch-5 : goal.loop-key-preserved-in-Continue-branch-5
loop-key-preserved-in-Continue-branch-5 t c =
    let es = c.args.object.now.entries in
    let key = c.in-Some.key.now in
    let value = c.in-Some.value.now in
    let turn = iter_turn deref_pair es c.loop-key.yielded c.into_iter-key-iterator.result c.loop-key.key-iterator c.next.new.self c.next.result
    (c.into_iter-key-iterator.ensures.into_iter_gives ∙ c.iter-key-items.ensures.rest)
    c.loop-key.yielded_by (c.in-Some.key, c.in-Some.value) c.in-Some.is c.next.ensures.steps in
    let name = c.as_str-name.result in
    let other = is-other name.now c.eq.result c.eq.ensures c.if-eq.false in
    let has = has-key es (length c.loop-key.yielded) key value name.now turn.1 c.as_str-name.ensures.value other in
    let rule = c.in-Some-2.rule in
    let is = subst (λ r. IfSome r (IsRuleOf name.now (view value))) c.in-Some-2.is c.in_ok-rule.ensures.some in
    let object = members_view c.in-Some-as_object.inner.now.entries in
    let outer = subst (λ r. IfSome r (λ r. r.outer ≡ c.args.outer)) c.in-Some-2.is c.in_ok-rule.ensures.at in
    let before-rules = c.loop-key.rules.items in
    let pushed = c.push-in-loop-key.new.self.items in
    let after-rules = c.add_rules.new.rules.items in
    let count : c.len.result ≡ length before-rules = omega (arith, c.loop-key.rules.ok.0, c.len.ensures) in
    let before = c.loop-key.faults.items in
    let after = c.add_rules.new.faults.items in record {
      rules = λ root of all. c.in_ok-add_rules.ensures.rules root
          (object-made root (members_view es) object name.now (view value) rule of has is (sym c.in-Some-as_object.ensures))
          (all-added (λ r. OfPackage root (λ fields. IsAmongRules fields r)) c.loop-key.rules.items c.push-in-loop-key.new.self.items
          rule (c.loop-key.invariant.rules root of all) c.in_ok-push-2.ensures.items
          (rule-made root (members_view es) name.now (view value) rule of has is));
      more = extends-on _ before-rules after-rules c.loop-key.invariant.more
          (extends-on before-rules pushed after-rules (rule ∷ [], c.in_ok-push-2.ensures.items) c.in_ok-add_rules.ensures.more);
      laid = upto-rule es c.args.outer _ before-rules pushed after-rules c.loop-key.yielded (c.in-Some.key, c.in-Some.value) key value rule
          turn.1 c.in_ok-push-2.ensures.items c.in_ok-add_rules.ensures.more outer
          (λ dot. other (c.as_str-name.ensures.value ∙ dot))
          (subst (λ k. IsRuleOf k (view value) rule) c.as_str-name.ensures.value is)
          (behind-some before-rules pushed after-rules rule (view value) object c.in_ok-push-2.ensures.items
          (sym c.in-Some-as_object.ensures) (subst (λ n. (all : List Rule) → Extends after-rules all
          → AreLaid all (scope.Rule n) (length pushed) (length after-rules) object) count c.in_ok-add_rules.ensures.laid))
          c.loop-key.invariant.laid;
      kept = extends-on c.args.faults.now.items before after c.loop-key.invariant.kept c.in_ok-add_rules.ensures.kept;
      told = upto-more es before after c.loop-key.yielded (c.in-Some.key, c.in-Some.value) key value
          c.in_ok-add_rules.ensures.kept turn.1
          (λ _. key-told after _ (view value) rule (subst (λ k. IsRuleOf k (view value) rule) c.as_str-name.ensures.value is)
          (λ found at. subst (AreInsideTold after) (ap (λ o. unwrap_or o found) (c.in-Some-as_object.ensures ∙ at))
          c.in_ok-add_rules.ensures.told))
          c.loop-key.invariant.told;
      wrong = λ lock root at of all. c.in_ok-add_rules.ensures.wrong lock root at
          (object-made root (members_view es) object name.now (view value) rule of has is (sym c.in-Some-as_object.ensures))
          (c.loop-key.invariant.wrong lock root at of all);
    }

pub loop-key-preserved : goal.loop-key-preserved
loop-key-preserved t c =
    let es = c.args.object.now.entries in
    let key = c.in-Some.key.now in
    let value = c.in-Some.value.now in
    let turn = iter_turn deref_pair es c.loop-key.yielded c.into_iter-key-iterator.result c.loop-key.key-iterator c.next.new.self c.next.result
    (c.into_iter-key-iterator.ensures.into_iter_gives ∙ c.iter-key-items.ensures.rest)
    c.loop-key.yielded_by (c.in-Some.key, c.in-Some.value) c.in-Some.is c.next.ensures.steps in
    let name = c.as_str-name.result in
    let other = is-other name.now c.eq.result c.eq.ensures c.if-eq.false in
    let has = has-key es (length c.loop-key.yielded) key value name.now turn.1 c.as_str-name.ensures.value other in
    let rule = c.in-Some-2.rule in
    let is = subst (λ r. IfSome r (IsRuleOf name.now (view value))) c.in-Some-2.is c.in_ok-rule.ensures.some in
    let outer = subst (λ r. IfSome r (λ r. r.outer ≡ c.args.outer)) c.in-Some-2.is c.in_ok-rule.ensures.at in
    let before-rules = c.loop-key.rules.items in
    let pushed = c.push-in-loop-key.new.self.items in
    let faults = c.loop-key.faults.items in record {
      rules = λ root of all. all-added (λ r. OfPackage root (λ fields. IsAmongRules fields r)) c.loop-key.rules.items
          c.push-in-loop-key.new.self.items rule (c.loop-key.invariant.rules root of all) c.in_ok-push-2.ensures.items
          (rule-made root (members_view es) name.now (view value) rule of has is);
      more = extends-more _ before-rules pushed rule c.loop-key.invariant.more c.in_ok-push-2.ensures.items;
      laid = upto-rule es c.args.outer _ before-rules pushed pushed c.loop-key.yielded (c.in-Some.key, c.in-Some.value) key value rule
          turn.1 c.in_ok-push-2.ensures.items ([], sym (append-nil pushed)) outer
          (λ dot. other (c.as_str-name.ensures.value ∙ dot))
          (subst (λ k. IsRuleOf k (view value) rule) c.as_str-name.ensures.value is)
          (behind-none before-rules pushed rule (view value) c.in_ok-push-2.ensures.items (sym c.in_default-as_object.ensures))
          c.loop-key.invariant.laid;
      kept = c.loop-key.invariant.kept;
      told = upto-more es faults faults c.loop-key.yielded (c.in-Some.key, c.in-Some.value) key value
          (as-before faults) turn.1
          (λ _. key-told faults _ (view value) rule (subst (λ k. IsRuleOf k (view value) rule) c.as_str-name.ensures.value is)
          (λ found at. let never = c.in_default-as_object.ensures in absurd (cc)))
          c.loop-key.invariant.told;
      wrong = c.loop-key.invariant.wrong;
    }

pub returns-clause-told : goal.returns-clause-told
returns-clause-told t c =
    let es = c.args.object.now.entries in
    let ends = iter_end deref_pair es c.loop-key.yielded c.into_iter-key-iterator.result c.loop-key.key-iterator
    c.next.new.self c.next.result (c.into_iter-key-iterator.ensures.into_iter_gives ∙ c.iter-key-items.ensures.rest)
    c.loop-key.yielded_by c.in-None.is c.next.ensures.steps in
    upto-all es c.loop-key.faults.items (length c.loop-key.yielded) ends.1 c.loop-key.invariant.told

pub returns-clause-laid : goal.returns-clause-laid
returns-clause-laid t c =
    let es = c.args.object.now.entries in
    let ends = iter_end deref_pair es c.loop-key.yielded c.into_iter-key-iterator.result c.loop-key.key-iterator
    c.next.new.self c.next.result (c.into_iter-key-iterator.ensures.into_iter_gives ∙ c.iter-key-items.ensures.rest)
    c.loop-key.yielded_by c.in-None.is c.next.ensures.steps in
    upto-end es c.args.outer _ c.loop-key.rules.items (length c.loop-key.yielded) ends.1 c.loop-key.invariant.laid
