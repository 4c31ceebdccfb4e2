-- The invariant: what is found of the rest, whose numbers go on from the least one, is what is found of all lines.
use Prim.Native.Nat.{ℕ, ◌<◌, ◌≤◌}
use mathlib.Core.Path.{◌≡◌, sym, ap, ◌∙◌}
use mathlib.Core.List.{List}
use native.Mathlib.Omega.{arith}
use lib.ListN.{length, take, drop, replicate}
use lib.Seq.{sets}
use Rattle.std.specs.Prelude.{Some, None}
use Rattle.std.proofs.lemmas.Result.{err_from_is_err_and}
use Rattle.paper.specs.Names.{names_in, most_names}
use Rattle.paper.specs.WellFormed.{well_formed?}
use Rattle.names_kinds.specs.Kinds.{kinds_of}
use Rattle.store.specs.Rising.{goes_by}
use Rattle.list_pieces.specs.NameLaws.{sound_numbered}
use Rattle.list_check.specs.KindLaws.{sound_kinds, sound_listed}
use Rattle.editor_examine.specs.declared.Flaw.TheVariants.{UnsoundStore}
use Rattle.editor_examine.specs.Verdicts.{verdict}
use Rattle.editor_examine.proofs.ExamineLaws.{none_left, not_sound, line_bad, line_good}
use Rattle.editor_examine.proofs.examine_lines.Goals as goal

pub returns-in_err-size : goal.returns-in_err-size
unfolding verdict
returns-in_err-size c =
    let p = err_from_is_err_and c.from_residual.result c.from_residual.ensures.1 in
    let none : c.passing.result ≡ None = grind arith in
    let why : c.in_err-size.field-0.0 ≡ UnsoundStore = grind arith in
    let left : 0 < length c.loop-rest.rest.now = grind arith in
    rw (p.1, p.2, why) (not_sound (names_in (take c.args.name_bytes c.args.names.now)) c.loop-rest.least c.loop-rest.rest.now left (sym c.passing.ensures ∙ none) ∙ c.loop-rest.invariant.1)

pub split_at-requires : goal.split_at-requires
split_at-requires c =
    let some : c.passing.result ≡ Some c.in_ok-size.size = grind arith in
    let w = goes_by c.loop-rest.least 32768 c.loop-rest.rest.now c.in_ok-size.size (sym c.passing.ensures ∙ some) in
    omega (arith, w.0.fits, w.1)

pub well_formed_over-requires : goal.well_formed_over-requires
well_formed_over-requires c = (sound_listed c.args.names.now c.args.name_bytes c.requires (c.list_kinds.ensures ∙ ap (λ (t : List ℕ). sets (replicate most_names 0) 0 (kinds_of (names_in t))) c.front.ensures), omega (arith, c.loop-rest.invariant.0))

pub returns-then-not-well_formed_over : goal.returns-then-not-well_formed_over
unfolding verdict
returns-then-not-well_formed_over c =
    let some : c.passing.result ≡ Some c.in_ok-size.size = grind arith in
    let w = goes_by c.loop-rest.least 32768 c.loop-rest.rest.now c.in_ok-size.size (sym c.passing.ensures ∙ some) in
    let ns = names_in (take c.args.name_bytes c.args.names.now) in
    let kinds = c.list_kinds.ensures ∙ ap (λ (t : List ℕ). sets (replicate most_names 0) 0 (kinds_of (names_in t))) c.front.ensures in
    let line : c.split_at.result.0.now ≡ take _ c.loop-rest.rest.now = c.split_at.ensures.front ∙ ap (λ (n : ℕ). take n c.loop-rest.rest.now) w.1 in
    let tested = c.well_formed_over.ensures ns (sound_numbered c.args.names.now c.args.name_bytes c.requires) (sound_kinds c.args.names.now c.args.name_bytes c.requires kinds) ∙ ap (well_formed? ns) line in
    c.bad_from.ensures ∙ line_bad ns c.loop-rest.least c.loop-rest.rest.now w.0 _ tested c.if-not-well_formed_over.true ∙ c.loop-rest.invariant.1

pub overflow_add-least : goal.overflow_add-least
overflow_add-least c =
    let some : c.passing.result ≡ Some c.in_ok-size.size = grind arith in
    let w = goes_by c.loop-rest.least 32768 c.loop-rest.rest.now c.in_ok-size.size (sym c.passing.ensures ∙ some) in
    omega (arith, w.0.small, c.number-least.ensures)

pub loop-rest-smaller : goal.loop-rest-smaller
loop-rest-smaller c =
    let some : c.passing.result ≡ Some c.in_ok-size.size = grind arith in
    let w = goes_by c.loop-rest.least 32768 c.loop-rest.rest.now c.in_ok-size.size (sym c.passing.ensures ∙ some) in
    omega (arith, w.0.long, w.1, c.split_at.ensures.back_len)

pub loop-rest-preserved : goal.loop-rest-preserved
loop-rest-preserved c =
    let some : c.passing.result ≡ Some c.in_ok-size.size = grind arith in
    let w = goes_by c.loop-rest.least 32768 c.loop-rest.rest.now c.in_ok-size.size (sym c.passing.ensures ∙ some) in
    let ns = names_in (take c.args.name_bytes c.args.names.now) in
    let kinds = c.list_kinds.ensures ∙ ap (λ (t : List ℕ). sets (replicate most_names 0) 0 (kinds_of (names_in t))) c.front.ensures in
    let line : c.split_at.result.0.now ≡ take _ c.loop-rest.rest.now = c.split_at.ensures.front ∙ ap (λ (n : ℕ). take n c.loop-rest.rest.now) w.1 in
    let tested = c.well_formed_over.ensures ns (sound_numbered c.args.names.now c.args.name_bytes c.requires) (sound_kinds c.args.names.now c.args.name_bytes c.requires kinds) ∙ ap (well_formed? ns) line in
    let after = c.split_at.ensures.back ∙ ap (λ (n : ℕ). drop n c.loop-rest.rest.now) w.1 in
    (c.well_formed_over.auto.frames ∙ c.loop-rest.invariant.0, line_good ns c.loop-rest.least c.loop-rest.rest.now w.0 _ tested c.if-not-well_formed_over.false _ c.number-least.ensures _ after ∙ c.loop-rest.invariant.1)

pub returns : goal.returns
unfolding verdict
returns c =
    let left : length c.loop-rest.rest.now ≤ 0 = grind arith in
    none_left (names_in (take c.args.name_bytes c.args.names.now)) c.loop-rest.least c.loop-rest.rest.now left ∙ c.loop-rest.invariant.1
