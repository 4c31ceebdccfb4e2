use Rattle.store.specs.Places.{counted}
use Rattle.store_gap.specs.MoveLaws.{tail_placed}
use Rattle.store_edit.proofs.Edits.{out_refused, out_done, out_last, out_other}
use Rattle.store_edit.proofs.take_out.Goals as goal

pub returns-then-old-eq0 : goal.returns-then-old-eq0
returns-then-old-eq0 c =
    let args = c.args in
    let sound = (counted args.store.now args.counts c.requires.0).sound in
    out_refused args.store.now args.counts.used args.place.number sound args.place c.requires.1 c.if-old-eq0.true

pub returns-then-place-counts : goal.returns-then-place-counts
returns-then-place-counts c =
    let args = c.args in
    let sound = (counted args.store.now args.counts c.requires.0).sound in
    out_done args.store.now args.counts.used args.place.number sound args.place c.requires.1 c.if-old-eq0.false _ (out_last args.store.now args.counts args.place.number c.requires.0 args.place c.requires.1 c.if-old-eq0.false c.if-place-counts.true) _ (tail_placed args.store.now _ args.place.at args.place.size 0 args.counts.used _ c.resize.ensures)

pub returns-else-place-counts : goal.returns-else-place-counts
returns-else-place-counts c =
    let args = c.args in
    let sound = (counted args.store.now args.counts c.requires.0).sound in
    out_done args.store.now args.counts.used args.place.number sound args.place c.requires.1 c.if-old-eq0.false _ (out_other args.store.now args.counts args.place.number c.requires.0 args.place c.requires.1 c.if-old-eq0.false c.if-place-counts.false) _ (tail_placed args.store.now _ args.place.at args.place.size 0 args.counts.used _ c.resize.ensures)
