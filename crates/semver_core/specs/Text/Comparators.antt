-- Statement: the comparators of range texts.

-- the comparators `>=`, `>`, `=`, `<=` and `<`
pub data Comparator : Type 0 where
  at_least above equal at_most below : Comparator
