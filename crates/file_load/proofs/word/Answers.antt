use Prim.Native.Nat.{ℕ, ◌+◌, ◌*◌}
use lib.ListN.{drop, get_or}
use mathlib.Core.Path.{◌≡◌, ap, ap₂, ◌∙◌}
use native.Mathlib.Omega.{arith}
use native.Mathlib.Nat.{add-zero}
use native.Mathlib.Numerals.{add-one}
use Rattle.std.proofs.lemmas.Grind.{common_steps}
use Rattle.std.proofs.lemmas.List.{get_or-drop}
use lib.ListN.{drop_of_length-le}
use Rattle.paper.specs.Line.{line_number}
use Rattle.paper.specs.Files.{word_at}
use Rattle.file_load.proofs.word.Goals as goal

pub returns : goal.returns
unfolding word_at line_number
returns c =
    let rest : c.unwrap_or.result.now ≡ drop (2 * c.args.i) c.args.file.now = grind (arith, common_steps, drop_of_length-le) in
    let low : get_or c.unwrap_or.result.now 0 0 ≡ get_or c.args.file.now (2 * c.args.i) 0 = ap (λ s. get_or s 0 0) rest ∙ get_or-drop (2 * c.args.i) c.args.file.now 0 0 ∙ ap (λ (k : ℕ). get_or c.args.file.now k 0) (add-zero (2 * c.args.i)) in
    let high : get_or c.unwrap_or.result.now 1 0 ≡ get_or c.args.file.now (2 * c.args.i + 1) 0 = ap (λ s. get_or s 1 0) rest ∙ get_or-drop (2 * c.args.i) c.args.file.now 1 0 in
    (c.number.ensures ∙ ap₂ (λ (x y : ℕ). x + 256 * y) low (high ∙ ap (λ (k : ℕ). get_or c.args.file.now k 0) (add-one (2 * c.args.i))), omega (arith, c.number.ensures, low, high, c.type_inv.file (2 * c.args.i), c.type_inv.file (2 * c.args.i + 1)))
