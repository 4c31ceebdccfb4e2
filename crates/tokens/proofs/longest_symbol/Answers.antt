use mathlib.Core.Path.{◌∙◌}
use mathlib.Core.List.{[], ◌∷◌}
use Rattle.paper.specs.Words.{operators, find_word}
use Rattle.tokens.proofs.Symbols.{symbol_two, symbol_one, symbol_none}
use Rattle.tokens.specs.Tables.{pair_found}
use Rattle.tokens.proofs.longest_symbol.Goals as goal

pub returns-in-Some : goal.returns-in-Some
returns-in-Some c = let a = c.args in symbol_two (pair_found a.b (find_word operators (a.b ∷ a.c ∷ []))) (find_word operators (a.b ∷ [])) c.in-Some.ensures

pub returns-in_err-sign-in-None : goal.returns-in_err-sign-in-None
returns-in_err-sign-in-None c = let a = c.args in c.from_residual.ensures ∙ symbol_none (pair_found a.b (find_word operators (a.b ∷ a.c ∷ []))) (find_word operators (a.b ∷ [])) c.in-None.ensures c.in_err-sign-in-None.ensures

pub returns-in_ok-sign-in-None : goal.returns-in_ok-sign-in-None
returns-in_ok-sign-in-None c = let a = c.args in symbol_one (pair_found a.b (find_word operators (a.b ∷ a.c ∷ []))) (find_word operators (a.b ∷ [])) c.in-None.ensures c.in_ok-sign-in-None.ensures
