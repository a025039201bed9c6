-- For proofs: the tests of a readable version, as facts.
use Rattle.std.specs.Prelude.{◌≡◌, ◌≤◌, ◌&&◌, nat_le, ℕ, true}
use borrow.Author.Tests.{leb-true}
use Rattle.std.proofs.lemmas.Bool.{and_parts}
use Rattle.std.specs.List.{list_all}
use Rattle.semver_core.specs.Printing.RoundTrip.{is_normal, is_readable}
use Rattle.semver_core.specs.Values.Versions.{VersionValue}

pub record IsReadable (limit : ℕ) (v : VersionValue) : Type 0 where
  pub major : v.major ≤ limit
  pub minor : v.minor ≤ limit
  pub patch : v.patch ≤ limit
  pub pre_release : list_all is_normal v.pre_release ≡ true
  pub build : list_all is_normal v.build ≡ true

pub readable : (limit : ℕ) (v : VersionValue) → is_readable limit v ≡ true → IsReadable limit v
readable limit v h =
    let parts = and_parts (nat_le v.major limit && (nat_le v.minor limit && nat_le v.patch limit)) (list_all is_normal v.pre_release && list_all is_normal v.build) h in
    let numbers = and_parts (nat_le v.major limit) (nat_le v.minor limit && nat_le v.patch limit) parts.0 in
    let others = and_parts (nat_le v.minor limit) (nat_le v.patch limit) numbers.1 in
    let lists = and_parts (list_all is_normal v.pre_release) (list_all is_normal v.build) parts.1 in
    record {
      major = leb-true v.major limit numbers.0;
      minor = leb-true v.minor limit others.0;
      patch = leb-true v.patch limit others.1;
      pre_release = lists.0;
      build = lists.1;
    }
