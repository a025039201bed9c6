use Rattle.nodejs_semver_c.proofs.kept_keys.put_key.Goals as goal

pub returns : goal.returns
returns c = rw c.as_slice.ensures.value at c.put_bytes.ensures
