use Rattle.std.specs.Prelude.{Some}
use mathlib.Core.Path.{ap, ◌∙◌}
use mathlib.Core.List.{[], ◌∷◌}
use Prim.Native.Nat.{ℕ, ◌+◌}
use lib.ListN.{get_or}
use Rattle.enter_scan.proofs.SymbolLaws.{symbol_two, symbol_one, symbol_none}
use Rattle.paper.specs.Words.{operators, find_word}
use Rattle.tokens.specs.Tables.{pair_found, symbol_found}
use Rattle.enter_scan.proofs.symbols.symbol_item.Goals as goal

pub returns-in-Some-Two : goal.returns-in-Some-Two
returns-in-Some-Two c = symbol_two (get_or c.args.part.now c.args.at 0) (get_or c.args.part.now (c.args.at + 1) 0) c.requires.1 (c.longest_symbol.ensures ∙ ap (λ (x : ℕ). symbol_found (pair_found (get_or c.args.part.now c.args.at 0) (find_word operators (get_or c.args.part.now c.args.at 0 ∷ x ∷ []))) (find_word operators (get_or c.args.part.now c.args.at 0 ∷ []))) c.byte_at.ensures) c.args.at (c.in-Some-Two.is ∙ ap Some c.in-Some-Two.field-0-is)

pub returns-in-Some-One : goal.returns-in-Some-One
returns-in-Some-One c = symbol_one (get_or c.args.part.now c.args.at 0) (get_or c.args.part.now (c.args.at + 1) 0) c.requires.1 (c.longest_symbol.ensures ∙ ap (λ (x : ℕ). symbol_found (pair_found (get_or c.args.part.now c.args.at 0) (find_word operators (get_or c.args.part.now c.args.at 0 ∷ x ∷ []))) (find_word operators (get_or c.args.part.now c.args.at 0 ∷ []))) c.byte_at.ensures) c.args.at (c.in-Some-One.is ∙ ap Some c.in-Some-One.field-0-is)

pub returns-in-None : goal.returns-in-None
returns-in-None c = symbol_none (get_or c.args.part.now c.args.at 0) (get_or c.args.part.now (c.args.at + 1) 0) c.requires.1 (c.longest_symbol.ensures ∙ ap (λ (x : ℕ). symbol_found (pair_found (get_or c.args.part.now c.args.at 0) (find_word operators (get_or c.args.part.now c.args.at 0 ∷ x ∷ []))) (find_word operators (get_or c.args.part.now c.args.at 0 ∷ []))) c.byte_at.ensures) c.args.at c.in-None.is
