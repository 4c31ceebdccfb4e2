-- `ends` meets its contract: those counted are those of the table.
use Prim.Native.Nat.{ℕ}
use mathlib.Core.Path.{◌≡◌, sym, ◌∙◌}
use native.Mathlib.Omega.{arith}
use Rattle.std.proofs.Common.{rules}
use Rattle.std.specs.Prelude.{leb, count_by}
use Rattle.std.proofs.lemmas.List.Sums.{count_by-le-length}
use Rattle.file_examine.specs.ExamineLaws.{ends_counted}
use Rattle.file_examine.proofs.ends.Goals as goal

pub returns : goal.returns
returns c =
    let counted : c.count.result ≡ count_by (λ (b : ℕ). leb 128 b) c.args.names.now = search rules in
    (counted ∙ sym (ends_counted c.args.names.now), omega (arith, counted, count_by-le-length (λ (b : ℕ). leb 128 b) c.args.names.now))
