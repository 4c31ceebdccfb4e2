use native.Mathlib.Omega.{arith}
use Rattle.editor.proofs.EnterLaws.{long_text, short_text}
use Rattle.editor.proofs.readings.read.Goals as goal

pub returns-then-text-gt-LONGEST_TEXT : goal.returns-then-text-gt-LONGEST_TEXT
returns-then-text-gt-LONGEST_TEXT c =
    let args = c.args in
    long_text args.keep args.direct args.names.now args.e args.text.now args.draft.now.line args.draft.now.fresh c.if-text-gt-LONGEST_TEXT.true

pub read-requires : goal.read-requires
read-requires c = (omega arith, c.requires.2)

pub returns : goal.returns
returns c =
    let args = c.args in
    short_text args.keep args.direct args.names.now args.e args.text.now args.draft.now.line args.draft.now.fresh _ _ _ (omega arith) c.requires.1 c.requires.2 c.read.ensures
