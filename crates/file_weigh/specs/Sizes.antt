-- Columns stay small: those of nothing, and of more programs.
use Rattle.std.specs.Prelude.{ℕ, ◌+◌, ◌≤◌, ◌≡◌}
use Rattle.std.proofs.Common.{arith, ap}
use Rattle.paper.specs.Weigh.{added_up}
use Rattle.paper.specs.Weigh.{Columns as Sums}
use Rattle.list_weigh.proofs.Bounds.{small_more}
use Rattle.file_weigh.specs.declared.Columns.{Columns}
use Rattle.file_weigh.specs.Answers.{columns, none, Sized}

pub none_sized : (n : ℕ) → Sized n none
none_sized n = record {
  lines = omega arith;
  names = omega arith;
  used = omega arith;
  weight = record { listing = omega arith; variables = omega arith; numbers = omega arith; strings = omega arith; raw_text = omega arith; others = omega arith };
}

pub sized_more : (m n : ℕ) (c : Columns) → m ≤ n → Sized m c → Sized n c
sized_more m n c h s = record { lines = omega (arith, s.lines); names = omega (arith, s.names); used = omega (arith, s.used); weight = small_more m n c.weight h s.weight }

-- two added up
pub sized_added : (m n : ℕ) (a b r : Columns) → columns r ≡ added_up (columns a) (columns b) → Sized m a → Sized n b → Sized (m + n) r
unfolding added_up
sized_added m n a b r e s t = record {
  lines = omega (arith, ap (λ (c : Sums). c.lines) e, s.lines, t.lines);
  names = omega (arith, ap (λ (c : Sums). c.names) e, s.names, t.names);
  used = omega (arith, ap (λ (c : Sums). c.used) e, s.used, t.used);
  weight =
      record {
        listing = omega (arith, ap (λ (c : Sums). c.listing) e, s.weight.listing, t.weight.listing);
        variables = omega (arith, ap (λ (c : Sums). c.variables) e, s.weight.variables, t.weight.variables);
        numbers = omega (arith, ap (λ (c : Sums). c.numbers) e, s.weight.numbers, t.weight.numbers);
        strings = omega (arith, ap (λ (c : Sums). c.strings) e, s.weight.strings, t.weight.strings);
        raw_text = omega (arith, ap (λ (c : Sums). c.raw_text) e, s.weight.raw_text, t.weight.raw_text);
        others = omega (arith, ap (λ (c : Sums). c.others) e, s.weight.others, t.weight.others);
      };
}
