use native.Mathlib.Omega.{arith}
use mathlib.Core.Path.{◌∙◌}
use Rattle.paper.specs.Bytes.{bytes}
use Rattle.paper.specs.Words.{word, read_operators, functions, word_of}
use Rattle.tokens.specs.Tables.{tabulated, read_words, word_size, operator_lengths}
use Rattle.tokens.proofs.Search.{operator_answer, function_answer, reserved_none}
use Rattle.tokens.proofs.First.{reserved_bounds, reserved_fits, reserved_from}
use Rattle.tokens.proofs.find_reserved.Goals as goal

pub overflow_sub-i : goal.overflow_sub-i
unfolding operator_lengths tabulated word_size word_of read_words read_operators functions word bytes
overflow_sub-i c = omega (arith, (reserved_bounds c.args.name.now c.requires).0)

pub slice_bounds-find_fixed-count : goal.slice_bounds-find_fixed-count
unfolding operator_lengths tabulated word_size word_of read_words read_operators functions word bytes
slice_bounds-find_fixed-count c = omega (arith, (reserved_bounds c.args.name.now c.requires).1)

pub slice_bounds-find_fixed-start : goal.slice_bounds-find_fixed-start
unfolding operator_lengths tabulated word_size word_of read_words read_operators functions word bytes
slice_bounds-find_fixed-start c = omega (arith, (reserved_bounds c.args.name.now c.requires).1)

pub find_fixed-requires : goal.find_fixed-requires
unfolding operator_lengths tabulated word_size word_of read_words read_operators functions word bytes
find_fixed-requires c = reserved_fits c.args.name.now c.requires c.operator_start.ensures

pub returns-then-token : goal.returns-then-token
unfolding operator_lengths tabulated word_size word_of read_words read_operators functions word bytes
returns-then-token c = operator_answer _ _ c.in_ok-token.ensures (reserved_from c.args.name.now c.requires c.operator_start.ensures) c.if-token.true

pub returns-else-token : goal.returns-else-token
unfolding operator_lengths tabulated word_size word_of read_words read_operators functions word bytes
returns-else-token c = function_answer _ _ c.in_ok-token.ensures (reserved_from c.args.name.now c.requires c.operator_start.ensures) c.if-token.false

pub returns-in_err-token : goal.returns-in_err-token
unfolding operator_lengths tabulated word_size word_of read_words read_operators functions word bytes
returns-in_err-token c = c.from_residual.ensures ∙ reserved_none _ _ c.in_err-token.ensures (reserved_from c.args.name.now c.requires c.operator_start.ensures)
