use Prim.Native.Nat.{ℕ, ◌≤◌, ◌<◌}
use native.Mathlib.Omega.{arith}
use mathlib.Core.Path.{◌≡◌, subst, sym, ap, ◌∙◌}
use Rattle.std.specs.Prelude.{Some, None}
use mathlib.Core.List.{List}
use lib.ListN.{length, take, drop, get_or, replicate}
use lib.Seq.{sets}
use Rattle.paper.specs.Names.{names_in, most_names}
use Rattle.names_kinds.specs.Kinds.{kinds_of}
use Rattle.list_check.specs.KindLaws.{sound_kinds}
use Rattle.list_weigh.specs.Weights.{Slight}
use Rattle.file_weigh.proofs.LinesLaws.{going_done, going_small, going_line, going_refused, going_light, going_next}
use Rattle.file_weigh.proofs.weigh_lines.Goals as goal

pub split_at-requires : goal.split_at-requires
split_at-requires c =
    let left : 0 < length c.loop-rest.rest.now = grind arith in
    omega (arith, c.size.ensures, (going_line c.loop-rest.invariant.1 left).fits)

pub weigh-requires : goal.weigh-requires
weigh-requires c = (c.requires.0, c.requires.1, sound_kinds c.args.names.now c.args.size c.requires.0 (c.list_kinds.ensures ∙ ap (λ (t : List ℕ). sets (replicate most_names 0) 0 (kinds_of (names_in t))) c.front.ensures), omega (arith, c.loop-rest.invariant.0))

pub returns-in_err-own : goal.returns-in_err-own
unfolding Slight
returns-in_err-own c =
    let left : 0 < length c.loop-rest.rest.now = grind arith in
    let line : c.split_at.result.0.now ≡ take (get_or c.loop-rest.rest.now 2 0) c.loop-rest.rest.now = c.split_at.ensures.front ∙ ap (λ (k : ℕ). take k c.loop-rest.rest.now) c.size.ensures in
    let none : c.weigh.result ≡ None = grind arith in
    rw c.from_residual.ensures (going_refused c.loop-rest.invariant.1 left _ line (sym none ∙ c.weigh.ensures.0), tt)

pub added-total-requires : goal.added-total-requires
unfolding Slight
added-total-requires c =
    let left : 0 < length c.loop-rest.rest.now = grind arith in
    let line : c.split_at.result.0.now ≡ take (get_or c.loop-rest.rest.now 2 0) c.loop-rest.rest.now = c.split_at.ensures.front ∙ ap (λ (k : ℕ). take k c.loop-rest.rest.now) c.size.ensures in
    let some : c.weigh.result ≡ Some c.in_ok-own.own = grind arith in
    (going_small c.loop-rest.invariant.1 c.requires.2, going_light c.loop-rest.invariant.1 left _ line _ (sym some ∙ c.weigh.ensures.0) (subst (Slight (length c.split_at.result.0.now)) some c.weigh.ensures.1) c.requires.2)

pub loop-rest-smaller : goal.loop-rest-smaller
loop-rest-smaller c =
    let left : 0 < length c.loop-rest.rest.now = grind arith in
    let line = going_line c.loop-rest.invariant.1 left in
    omega (arith, c.size.ensures, line.fits, line.long, c.split_at.ensures.back_len)

pub loop-rest-preserved : goal.loop-rest-preserved
unfolding Slight
loop-rest-preserved c =
    let left : 0 < length c.loop-rest.rest.now = grind arith in
    let line : c.split_at.result.0.now ≡ take (get_or c.loop-rest.rest.now 2 0) c.loop-rest.rest.now = c.split_at.ensures.front ∙ ap (λ (k : ℕ). take k c.loop-rest.rest.now) c.size.ensures in
    let after = c.split_at.ensures.back ∙ ap (λ (k : ℕ). drop k c.loop-rest.rest.now) c.size.ensures in
    let some : c.weigh.result ≡ Some c.in_ok-own.own = grind arith in
    (c.weigh.auto.frames ∙ c.loop-rest.invariant.0, going_next c.loop-rest.invariant.1 left _ line _ (sym some ∙ c.weigh.ensures.0) (subst (Slight (length c.split_at.result.0.now)) some c.weigh.ensures.1) _ c.added-total.ensures _ after)

pub returns : goal.returns
unfolding Slight
returns c =
    let none : length c.loop-rest.rest.now ≤ 0 = grind arith in
    going_done c.loop-rest.invariant.1 none
