use native.Mathlib.Omega.{arith}
use mathlib.Core.Path.{◌∙◌}
use Rattle.paper.specs.Bytes.{bytes}
use Rattle.paper.specs.Words.{word, statements, word_of}
use Rattle.tokens.specs.Tables.{tabulated, word_size, statement_lengths}
use Rattle.tokens.proofs.Search.{statement_answer, statement_none}
use Rattle.tokens.proofs.First.{statement_bound, statement_fits, statement_from}
use Rattle.tokens.proofs.find_statement.Goals as goal

pub slice_bounds-find_fixed-count : goal.slice_bounds-find_fixed-count
unfolding statement_lengths tabulated word_size word_of statements word bytes
slice_bounds-find_fixed-count c = omega (arith, statement_bound c.args.name.now c.requires)

pub slice_bounds-find_fixed-start : goal.slice_bounds-find_fixed-start
unfolding statement_lengths tabulated word_size word_of statements word bytes
slice_bounds-find_fixed-start c = omega (arith, statement_bound c.args.name.now c.requires)

pub find_fixed-requires : goal.find_fixed-requires
unfolding statement_lengths tabulated word_size word_of statements word bytes
find_fixed-requires c = statement_fits c.args.name.now c.requires c.statement_start.ensures

pub returns : goal.returns
unfolding statement_lengths tabulated word_size word_of statements word bytes
returns c = statement_answer _ _ c.in_ok-token.ensures (statement_from c.args.name.now c.requires c.statement_start.ensures)

pub returns-in_err-token : goal.returns-in_err-token
unfolding statement_lengths tabulated word_size word_of statements word bytes
returns-in_err-token c = c.from_residual.ensures ∙ statement_none _ _ c.in_err-token.ensures (statement_from c.args.name.now c.requires c.statement_start.ensures)
