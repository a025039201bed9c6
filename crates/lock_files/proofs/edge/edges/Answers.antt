use Rattle.std.proofs.Common.{◌∷◌, ◌++◌, ◌∙◌, [], All, List, None, Some, ap, map, string_bytes, subst, refl}
use Rattle.std.proofs.Common.{ℕ, sym}
use Rattle.std.proofs.lemmas.List.{map-append}
use Rattle.std.proofs.lemmas.List.Elements.{All-same}
use Rattle.std.proofs.lemmas.Map.Iter.{iter_end, rest_more, rest_so_far}
use Rattle.std.specs.Map.{keys_of}
use Rattle.serde_json.specs.Data.{Data}
use Rattle.std.specs.Map.Iter.{deref}
use Rattle.lock_files.proofs.Completing.{AreEach, each-all, each-at, each-more, each-none, locked-all}
use Rattle.lock_files.proofs.Completing.{locked-kept, package-at}
use Rattle.lock_files.proofs.Added.{extends-on}
use Rattle.lock_files.proofs.Single.{IsKeyed, keyed-apart, keyed-kept, keyed-more, keyed-up-to}
use Rattle.lock_files.specs.Edges.{AreAllLocked}
use Rattle.lock_files.specs.Internal.Collected.{AreOwn, IsTaken, AreTextsTold}
use Rattle.lock_files.proofs.Items.{meant-kept, meant-linked}
use Rattle.lock_files.proofs.Added.{all-kept, texts-kept}
use Rattle.lock_files.specs.Internal.Patterns.{AreMeantLinked}
use Rattle.lock_files.specs.Faults.{HasAllFaults}
use Rattle.lock_files.specs.Lookups.{IsAt}
use Rattle.lock_files.specs.Dependencies.{IsDeclared}
use Rattle.lock_files.proofs.edge.edges.Goals as goal

pub loop-folder-preserved-in-Some-package : goal.loop-folder-preserved-in-Some-package
loop-folder-preserved-in-Some-package c =
    let lock = c.args.lock in
    let key = c.in-Some.folder in
    let p = c.in-Some-package.package in
    let found = c.in_ok-found.found.first.items in
    let before = c.loop-folder.edges.items in
    let after = c.add_edges.new.edges.items in
    let at = subst (λ place. IsAt lock place (Some p)) c.deref.ensures c.in-Some-package.ensures in
    let is = package-at lock (string_bytes key.now) p at in
    let now : List ℕ → Data → Type 0 = λ folder fields. AreAllLocked lock folder fields after in
    let each = c.in_ok-found.ensures.each is in
    let so_far = sym (c.into_iter-folder-iterator.ensures.into_iter_gives ∙ c.keys-folder-items.ensures.rest)
    ∙ rest_so_far deref c.loop-folder.yielded c.into_iter-folder-iterator.result c.loop-folder.folder-iterator c.loop-folder.yielded_by
    ∙ ap (λ keys. map deref c.loop-folder.yielded ++ keys)
    (rest_more deref c.loop-folder.folder-iterator c.next.new.self c.next.result key c.in-Some.is c.next.ensures.steps) in
    let own = subst (λ place. AreOwn place found) at.0 c.in_ok-found.ensures.own in
    let own_slice = subst (AreOwn (string_bytes key.now)) (sym c.as_slice.ensures) own in
    let first = c.loop-folder.faults.items in
    let last = c.dependencies.new.faults.items in
    let taken = All-same (IsTaken lock after) found c.as_slice.result.now (sym c.as_slice.ensures)
    c.in_ok-add_edges.ensures.all in record {
      each = c.in_ok-add_edges.ensures.each
          (All-same (IsDeclared lock) c.as_slice.result.now found c.as_slice.ensures each)
          c.loop-folder.invariant.each;
      all = subst (λ keys. AreEach lock keys now) (sym (map-append deref c.loop-folder.yielded (key ∷ [])))
          (each-more lock (map deref c.loop-folder.yielded) key.now (λ folder fields. AreAllLocked lock folder fields before) now
          (locked-kept lock before after c.in_ok-add_edges.ensures.kept)
          (each-at lock (string_bytes key.now) p now at
          (locked-all lock p found after is each c.in_ok-found.ensures.all taken)) c.loop-folder.invariant.all);
      apart = c.in_ok-add_edges.ensures.apart (string_bytes key.now) own_slice
          (keyed-apart (map deref c.loop-folder.yielded) c.next.new.self (keys_of lock.packages.now.entries) key.now before
          so_far c.keys-folder-items.ensures.ordered c.loop-folder.invariant.keyed)
          c.loop-folder.invariant.apart;
      ordered = c.in_ok-add_edges.ensures.ordered (string_bytes key.now) own_slice
          (keyed-up-to (map deref c.loop-folder.yielded) c.next.new.self (keys_of lock.packages.now.entries) key.now before
          so_far c.keys-folder-items.ensures.ordered c.loop-folder.invariant.keyed)
          c.loop-folder.invariant.ordered;
      keyed = subst (λ keys. All (IsKeyed keys) after) (sym (map-append deref c.loop-folder.yielded (key ∷ [])))
          (keyed-more (map deref c.loop-folder.yielded) key.now before after c.as_slice.result.now own_slice
          c.in_ok-add_edges.ensures.from c.loop-folder.invariant.keyed);
      workspaces = subst (λ keys. AreEach lock keys (AreMeantLinked lock after))
          (sym (map-append deref c.loop-folder.yielded (key ∷ [])))
          (each-more lock (map deref c.loop-folder.yielded) key.now (AreMeantLinked lock before) (AreMeantLinked lock after)
          (meant-kept lock before after c.in_ok-add_edges.ensures.kept)
          (each-at lock (string_bytes key.now) p (AreMeantLinked lock after) at
          (meant-linked lock p found after c.in_ok-found.ensures.workspaces taken)) c.loop-folder.invariant.workspaces);
      kept = extends-on c.args.faults.now.items first last c.loop-folder.invariant.kept c.in_ok-found.ensures.kept;
      told = subst (λ keys. AreEach lock keys (HasAllFaults last)) (sym (map-append deref c.loop-folder.yielded (key ∷ [])))
          (each-more lock (map deref c.loop-folder.yielded) key.now (HasAllFaults first) (HasAllFaults last)
          (all-kept first last c.in_ok-found.ensures.kept)
          (each-at lock (string_bytes key.now) p (HasAllFaults last) at c.in_ok-found.ensures.told)
          c.loop-folder.invariant.told);
      texts = subst (λ keys. AreEach lock keys (AreTextsTold last)) (sym (map-append deref c.loop-folder.yielded (key ∷ [])))
          (each-more lock (map deref c.loop-folder.yielded) key.now (AreTextsTold first) (AreTextsTold last)
          (texts-kept first last c.in_ok-found.ensures.kept)
          (each-at lock (string_bytes key.now) p (AreTextsTold last) at c.in_ok-found.ensures.texts)
          c.loop-folder.invariant.texts);
      wrong = λ all. c.in_ok-found.ensures.wrong is (c.loop-folder.invariant.wrong all);
    }

pub loop-folder-preserved : goal.loop-folder-preserved
loop-folder-preserved c =
    let lock = c.args.lock in
    let key = c.in-Some.folder in
    let now : List ℕ → Data → Type 0 = λ folder fields. AreAllLocked lock folder fields c.loop-folder.edges.items in
    let told : List ℕ → Data → Type 0 = HasAllFaults c.loop-folder.faults.items in
    let linked : List ℕ → Data → Type 0 = AreMeantLinked lock c.loop-folder.edges.items in
    let texts : List ℕ → Data → Type 0 = AreTextsTold c.loop-folder.faults.items in
    let at = subst (λ place. IsAt lock place None) c.deref.ensures c.in_default.ensures in record {
      each = c.loop-folder.invariant.each;
      all = subst (λ keys. AreEach lock keys now) (sym (map-append deref c.loop-folder.yielded (key ∷ [])))
          (each-more lock (map deref c.loop-folder.yielded) key.now now now (λ folder fields is. is)
          (each-none lock (string_bytes key.now) now at) c.loop-folder.invariant.all);
      apart = c.loop-folder.invariant.apart;
      ordered = c.loop-folder.invariant.ordered;
      keyed = subst (λ keys. All (IsKeyed keys) c.loop-folder.edges.items) (sym (map-append deref c.loop-folder.yielded (key ∷ [])))
          (keyed-kept (map deref c.loop-folder.yielded) key.now c.loop-folder.edges.items c.loop-folder.invariant.keyed);
      workspaces = subst (λ keys. AreEach lock keys linked) (sym (map-append deref c.loop-folder.yielded (key ∷ [])))
          (each-more lock (map deref c.loop-folder.yielded) key.now linked linked (λ folder fields is. is)
          (each-none lock (string_bytes key.now) linked at) c.loop-folder.invariant.workspaces);
      kept = c.loop-folder.invariant.kept;
      told = subst (λ keys. AreEach lock keys told) (sym (map-append deref c.loop-folder.yielded (key ∷ [])))
          (each-more lock (map deref c.loop-folder.yielded) key.now told told (λ folder fields is. is)
          (each-none lock (string_bytes key.now) told at) c.loop-folder.invariant.told);
      texts = subst (λ keys. AreEach lock keys texts) (sym (map-append deref c.loop-folder.yielded (key ∷ [])))
          (each-more lock (map deref c.loop-folder.yielded) key.now texts texts (λ folder fields is. is)
          (each-none lock (string_bytes key.now) texts at) c.loop-folder.invariant.texts);
      wrong = c.loop-folder.invariant.wrong;
    }

pub returns-clause-all : goal.returns-clause-all
returns-clause-all c =
    let lock = c.args.lock in
    let ends = iter_end deref (keys_of lock.packages.now.entries) c.loop-folder.yielded
    c.into_iter-folder-iterator.result c.loop-folder.folder-iterator c.next.new.self c.next.result
    (c.into_iter-folder-iterator.ensures.into_iter_gives ∙ c.keys-folder-items.ensures.rest) c.loop-folder.yielded_by
    c.in-None.is c.next.ensures.steps in
    each-all lock (map deref c.loop-folder.yielded) (λ folder fields. AreAllLocked lock folder fields c.loop-folder.edges.items)
    ends.0 c.loop-folder.invariant.all

pub returns-clause-told : goal.returns-clause-told
returns-clause-told c =
    let lock = c.args.lock in
    let ends = iter_end deref (keys_of lock.packages.now.entries) c.loop-folder.yielded
    c.into_iter-folder-iterator.result c.loop-folder.folder-iterator c.next.new.self c.next.result
    (c.into_iter-folder-iterator.ensures.into_iter_gives ∙ c.keys-folder-items.ensures.rest) c.loop-folder.yielded_by
    c.in-None.is c.next.ensures.steps in
    let keys = map deref c.loop-folder.yielded in
    let faults = c.loop-folder.faults.items in record {
      each = each-all lock keys (HasAllFaults faults) ends.0 c.loop-folder.invariant.told;
      workspaces = λ of. each-all lock keys (AreTextsTold faults) ends.0 c.loop-folder.invariant.texts [] of.0 of.1 refl of.2;
    }

pub returns-clause-workspaces : goal.returns-clause-workspaces
returns-clause-workspaces c = λ root folder at is.
    let lock = c.args.lock in
    let ends = iter_end deref (keys_of lock.packages.now.entries) c.loop-folder.yielded
    c.into_iter-folder-iterator.result c.loop-folder.folder-iterator c.next.new.self c.next.result
    (c.into_iter-folder-iterator.ensures.into_iter_gives ∙ c.keys-folder-items.ensures.rest) c.loop-folder.yielded_by
    c.in-None.is c.next.ensures.steps in
    each-all lock (map deref c.loop-folder.yielded) (AreMeantLinked lock c.loop-folder.edges.items) ends.0
    c.loop-folder.invariant.workspaces [] root at refl folder is
