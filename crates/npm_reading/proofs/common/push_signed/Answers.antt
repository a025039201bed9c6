use Rattle.npm_reading.proofs.{Grammar.CommonReads.{word-read, word-unpadded, word-zeros}, common.push_signed.Goals.{in-Caret, in-Compared, in-Tilde}}
use Rattle.npm_words.{proofs.Common.{AreRead, npm_partial_view, npm_sign_view}, specs.Table.table}
use Rattle.npm_reading.proofs.common.push_signed.Goals as goal

pub returns-clause-added : goal.returns-clause-added
returns-clause-added c = λ signed is.
    let p = npm_partial_view c.in-Some.partial in
    let found = c.in-Some.ensures in
    let read : AreRead c.args.include (table c.args.include (npm_sign_view c.args.sign) p _) c.match-sign.bounds = elim c.match-sign.branch [
      | in-Caret w ↦ rw (w.in-Caret.is, w.bounds-is) (w.caret-bounds.ensures _ (word-zeros _ _ _ found w.zeros.result w.zeros.ensures))
      | in-Tilde w ↦ rw (w.in-Tilde.is, w.bounds-is) (w.tilde-bounds.ensures _ (word-unpadded _ _ _ found))
      | in-Compared w ↦ rw (w.in-Compared.is, w.bounds-is) (w.compared-bounds.ensures (word-unpadded _ _ _ found))
    ] in
    c.push_read.ensures.added c.args.include signed
    (word-read c.args.text.now p c.in-Some.rest.now found c.args.include signed (npm_sign_view c.args.sign) c.match-sign.bounds is read)
