-- The invariant: the kinds are those of the names; all lines can be listed exactly if the rest can, and the marks that are set and those of the rest are the marks
use native.Mathlib.Omega.{arith}
use Prim.Native.Nat.{ℕ, ◌≤◌, ◌<◌}
use mathlib.Core.Path.{◌≡◌, refl, subst, sym, ap, ◌∙◌}
use mathlib.Core.List.{List}
use lib.Dec.{T}
use lib.ListN.{length, take, drop, get_or, replicate, length-replicate}
use lib.Seq.{sets}
use Rattle.paper.specs.Names.{names_in, most_names}
use Rattle.paper.specs.Store.{whole_line?}
use Rattle.names_kinds.specs.Kinds.{kinds_of}
use Rattle.list_pieces.specs.NameLaws.{sound_numbered}
use Rattle.list_check.specs.KindLaws.{sound_kinds}
use Rattle.editor_collect.specs.Lines.{marking_first, marking_line, marking_fails, marking_next, marking_done}
use Rattle.editor_collect.proofs.mark.mark_lines.Goals as goal

pub loop-rest-init : goal.loop-rest-init
loop-rest-init c = (sound_kinds c.args.names.now c.args.size c.requires.1 (c.list_kinds.ensures ∙ ap (λ (t : List ℕ). sets (replicate most_names 0) 0 (kinds_of (names_in t))) c.front.ensures), length-replicate {A = ℕ} 2056 0, refl, marking_first _ _ _ c.requires.0)

pub split_at-requires : goal.split_at-requires
split_at-requires c =
    let left : 0 < length c.loop-rest.rest.now = grind arith in
    omega (arith, (marking_line c.loop-rest.invariant.3 left).fits, c.size.ensures)

pub mark_line-requires : goal.mark_line-requires
mark_line-requires c =
    let left : 0 < length c.loop-rest.rest.now = grind arith in
    let line : c.split_at.result.0.now ≡ take (get_or c.loop-rest.rest.now 2 0) c.loop-rest.rest.now = c.split_at.ensures.front ∙ ap (λ (k : ℕ). take k c.loop-rest.rest.now) c.size.ensures in
    (subst (λ (l : List ℕ). T (whole_line? l)) (sym line) (marking_line c.loop-rest.invariant.3 left).whole, record { names = names_in (take c.args.size c.args.names.now); numbered = sound_numbered c.args.names.now c.args.size c.requires.1; kinds = c.loop-rest.invariant.0 }, omega (arith, c.loop-rest.invariant.1))

pub shape_of-marks-then-not-mark_line : goal.shape_of-marks-then-not-mark_line
shape_of-marks-then-not-mark_line c = c.mark_line.auto.marks ∙ c.loop-rest.invariant.2

pub returns-then-not-mark_line : goal.returns-then-not-mark_line
returns-then-not-mark_line c =
    let left : 0 < length c.loop-rest.rest.now = grind arith in
    let line : c.split_at.result.0.now ≡ take (get_or c.loop-rest.rest.now 2 0) c.loop-rest.rest.now = c.split_at.ensures.front ∙ ap (λ (k : ℕ). take k c.loop-rest.rest.now) c.size.ensures in
    let marked = c.mark_line.ensures _ (sound_numbered c.args.names.now c.args.size c.requires.1) c.loop-rest.invariant.0 in
    (marking_fails c.loop-rest.invariant.3 left line marked.0 c.if-not-mark_line.true, λ z. let w : ◌≡◌ {A = ℕ} 0 1 = cc in absurd (omega arith))

pub loop-rest-smaller : goal.loop-rest-smaller
loop-rest-smaller c =
    let left : 0 < length c.loop-rest.rest.now = grind arith in
    let line = marking_line c.loop-rest.invariant.3 left in
    omega (arith, line.fits, line.long, c.size.ensures, c.split_at.ensures.back_len)

pub loop-rest-preserved : goal.loop-rest-preserved
loop-rest-preserved c =
    let left : 0 < length c.loop-rest.rest.now = grind arith in
    let line : c.split_at.result.0.now ≡ take (get_or c.loop-rest.rest.now 2 0) c.loop-rest.rest.now = c.split_at.ensures.front ∙ ap (λ (k : ℕ). take k c.loop-rest.rest.now) c.size.ensures in
    let after = c.split_at.ensures.back ∙ ap (λ (k : ℕ). drop k c.loop-rest.rest.now) c.size.ensures in
    let marked = c.mark_line.ensures _ (sound_numbered c.args.names.now c.args.size c.requires.1) c.loop-rest.invariant.0 in
    (c.loop-rest.invariant.0, c.mark_line.auto.frames ∙ c.loop-rest.invariant.1, c.mark_line.auto.marks ∙ c.loop-rest.invariant.2, marking_next c.loop-rest.invariant.3 left line marked.0 c.if-not-mark_line.false (marked.1 c.if-not-mark_line.false) after)

pub shape_of-marks : goal.shape_of-marks
shape_of-marks c = c.loop-rest.invariant.2

pub returns : goal.returns
returns c =
    let none : length c.loop-rest.rest.now ≤ 0 = grind arith in
    ((marking_done c.loop-rest.invariant.3 none).0, λ z. (marking_done c.loop-rest.invariant.3 none).1)
