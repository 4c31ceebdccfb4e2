use native.Mathlib.Omega.{arith}
use lib.ListN.{length}
use Rattle.store.specs.Places.{counted}
use Rattle.store_gap.specs.MoveLaws.{tail_placed}
use Rattle.store_edit.proofs.Edits.{put_refused, put_done, put_more, put_same}
use Rattle.store_edit.proofs.put_in.Goals as goal

pub returns-then-room_of-after : goal.returns-then-room_of-after
returns-then-room_of-after c =
    let args = c.args in
    let sound = (counted args.store.now args.counts c.requires.0).sound in
    put_refused args.store.now args.counts.used args.line.now sound args.place c.requires.1 (omega (arith, c.room_of.ensures))

pub returns-then-old-eq0 : goal.returns-then-old-eq0
returns-then-old-eq0 c =
    let args = c.args in
    let sound = (counted args.store.now args.counts c.requires.0).sound in
    put_done args.store.now args.counts.used args.line.now sound args.place c.requires.1 _ (put_more args.store.now args.counts args.line.now c.requires.0 args.place c.requires.1 _ c.max-greatest.ensures c.if-old-eq0.true) (omega (arith, c.room_of.ensures)) _ _ (tail_placed args.store.now _ args.place.at args.place.size (length args.line.now) args.counts.used _ c.resize.ensures) c.copy.ensures

pub returns-else-old-eq0 : goal.returns-else-old-eq0
returns-else-old-eq0 c =
    let args = c.args in
    let sound = (counted args.store.now args.counts c.requires.0).sound in
    put_done args.store.now args.counts.used args.line.now sound args.place c.requires.1 _ (put_same args.store.now args.counts args.line.now c.requires.0 args.place c.requires.1 _ c.max-greatest.ensures c.if-old-eq0.false) (omega (arith, c.room_of.ensures)) _ _ (tail_placed args.store.now _ args.place.at args.place.size (length args.line.now) args.counts.used _ c.resize.ensures) c.copy.ensures
