use Rattle.lock_files.proofs.lock.Lock.locks_in.Goals as goal

pub returns-in-Some : goal.returns-in-Some
returns-in-Some c = (
  λ on. ((_, c.in-Some.ensures.some), c.has_own_file.ensures.0 on),
  λ has. c.has_own_file.ensures.1 has.1,
)

pub returns-in-None : goal.returns-in-None
returns-in-None c = (λ on. absurd (cc), λ has. absurd (c.in-None.ensures.none has.0.0 has.0.1))
