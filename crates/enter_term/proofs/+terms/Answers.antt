use native.Mathlib.Omega.{arith}
use mathlib.Core.Path.{refl, sym, ap, ◌∙◌}
use mathlib.Core.Bool.{false}
use mathlib.Core.List.{[], ◌∷◌}
use Rattle.paper.specs.Classes.{quoted as quoted-class, string_variable, string_function, numeric_variable, array, open_sign, close_sign, comma, plus_minus, not_word, function_of_string, function_of_number}
use Rattle.paper.specs.Frames.{want_operand, want_more_terms, want_array_open, want_second, want_close, want_function_open, want_string, want_substring, want_string_comparison}
use Rattle.std.proofs.lemmas.Result.{err_from_is_err_and}
use Rattle.paper.specs.Grammar.{look, itself}
use Rattle.enter_item.specs.ClassLaws.{closing}
use Rattle.enter_item.specs.Laws.{says_then, says_first, takes, takes_last, leaves, refuses, alike, counts}
use Rattle.enter_item.specs.TookLaws.{shifted, took_put, took_own, took_prefix, took_compare, hit_put, expects_put, expects_own, sign}
use Rattle.enter_item.specs.Rows.{operand_sign, operand_not, operand_number, operand_numeric, operand_array, operand_open, operand_of_string, operand_of_number, operand_quoted, operand_string, operand_function, operand_else, string_quoted, string_string, string_function_row, string_else, close_row, close_else, function_open_row, function_open_else, array_open_row, array_open_else, second_comma, second_close, second_else, substring_open, substring_else, compare_row, compare_else, compares_sign}
use Rattle.grammar.specs.Joining.{more_else}
use Rattle.enter_term.specs.Onward.{joins_sign, onward_first, onward_takes, onward_joins}
use Rattle.enter_term.proofs.+terms.Goals as goal

pub argument-expect-requires : goal.argument-expect-requires
argument-expect-requires t c = let pre = c.requires in (pre.within, pre.short, omega (arith, pre.few, pre.short, pre.within))

pub argument-enclosed-requires : goal.argument-enclosed-requires
argument-enclosed-requires t c = let p = c.in_ok-p.was in let expect = c.expect.ensures in let pre = c.requires in let took = hit_put refl pre (expect.hit _ (p)) in (omega (arith, took.pass.ahead, took.pass.asks.within), took.pass.asks)

pub argument-returns : goal.argument-returns
argument-returns t c = says_then ((expects_put want_function_open function_open_row refl function_open_else c.requires c.expect.ensures).got _ c.in_ok-p.was) c.enclosed.ensures

pub argument-returns-in_err-p : goal.argument-returns-in_err-p
argument-returns-in_err-p t c = let e = err_from_is_err_and c.from_residual.result c.from_residual.ensures.1 in rw (e.1, e.2) (says_first (want_operand ∷ want_more_terms ∷ want_close ∷ []) (expects_put want_function_open function_open_row refl function_open_else c.requires c.expect.ensures) c.in_err-p.was)

pub compared-string-requires : goal.compared-string-requires
compared-string-requires t c = (omega arith, c.requires)

pub compared-comparison-requires : goal.compared-comparison-requires
compared-comparison-requires t c = let p = c.in_ok-p.was in let string = c.string.ensures in (omega (arith, (string.got _ p).ahead, (string.got _ p).asks.within), (string.got _ p).asks)

pub compared-returns : goal.compared-returns
compared-returns t c = says_then (c.string.ensures.got _ c.in_ok-p.was) c.comparison.ensures

pub compared-returns-in_err-p : goal.compared-returns-in_err-p
compared-returns-in_err-p t c = let e = err_from_is_err_and c.from_residual.result c.from_residual.ensures.1 in rw (e.1, e.2) (says_first (want_string_comparison ∷ []) c.string.ensures c.in_err-p.was)

pub comparison-see-seen-requires : goal.comparison-see-seen-requires
comparison-see-seen-requires t c = c.requires.within

pub comparison-refuse-requires : goal.comparison-refuse-requires
comparison-refuse-requires t c = let sees = c.see-seen.ensures.sees in (omega (arith, sees.spans, sees.within), c.requires.short)

pub comparison-token-p-requires : goal.comparison-token-p-requires
comparison-token-p-requires t c = let pre = c.requires in omega (arith, pre.few, pre.short, pre.within)

pub comparison-string-requires : goal.comparison-string-requires
comparison-string-requires t c = let token = c.token-p.ensures in let string-operator = c.string_operator.ensures in let if1 = c.if-not-compares.false in let compares = c.compares.ensures in let see = c.see-seen in let pre = c.requires in let took = took_compare see.result.class (compares_sign see.result.class (sym (compares) ∙ if1)) pre (see.ensures.next _ _) (sym see.ensures.class) (string-operator ∙ ap (shifted 0x12) see.ensures.own) token.0 token.1 in (omega (arith, took.pass.ahead, took.pass.asks.within), took.pass.asks)

pub comparison-returns : goal.comparison-returns
comparison-returns t c = let token = c.token-p.ensures in let if1 = c.if-not-compares.false in let compares = c.compares.ensures in let see = c.see-seen in takes want_string_comparison see.result.class (want_string ∷ []) (compare_row see.result.class (sym compares ∙ if1)) (sign see.result.class (compares_sign see.result.class (sym compares ∙ if1))).range (sym see.ensures.class) (took_compare see.result.class (compares_sign see.result.class (sym compares ∙ if1)) c.requires (see.ensures.next _ _) (sym see.ensures.class) (c.string_operator.ensures ∙ ap (shifted 0x12) see.ensures.own) token.0 token.1) c.string.ensures

pub comparison-returns-then-not-compares : goal.comparison-returns-then-not-compares
comparison-returns-then-not-compares t c = rw c.refuse.ensures (let see = c.see-seen in refuses want_string_comparison _ (see.ensures.next _ _) (ap (look want_string_comparison) (sym see.ensures.class) ∙ compare_else see.result.class (sym c.compares.ensures ∙ c.if-not-compares.true)) refl)

pub element-expect-requires : goal.element-expect-requires
element-expect-requires t c = let pre = c.requires in (pre.within, pre.short, omega (arith, pre.few, pre.short, pre.within))

pub element-subscripts-requires : goal.element-subscripts-requires
element-subscripts-requires t c = let p = c.in_ok-p.was in let expect = c.expect.ensures in let pre = c.requires in let took = hit_put refl pre (expect.hit _ (p)) in (omega (arith, took.pass.ahead, took.pass.asks.within), took.pass.asks)

pub element-returns : goal.element-returns
element-returns t c = says_then ((expects_put want_array_open array_open_row refl array_open_else c.requires c.expect.ensures).got _ c.in_ok-p.was) c.subscripts.ensures

pub element-returns-in_err-p : goal.element-returns-in_err-p
element-returns-in_err-p t c = let e = err_from_is_err_and c.from_residual.result c.from_residual.ensures.1 in rw (e.1, e.2) (says_first (want_operand ∷ want_more_terms ∷ want_second ∷ []) (expects_put want_array_open array_open_row refl array_open_else c.requires c.expect.ensures) c.in_err-p.was)

pub enclosed-expression-requires : goal.enclosed-expression-requires
enclosed-expression-requires t c = (omega arith, c.requires)

pub enclosed-expect-requires : goal.enclosed-expect-requires
enclosed-expect-requires t c = let p = c.in_ok-p.was in let expression = c.expression.ensures in ((expression.got _ p).asks.within, (expression.got _ p).asks.short, omega (arith, (expression.got _ p).asks.few, (expression.got _ p).asks.short, (expression.got _ p).asks.within))

pub enclosed-returns : goal.enclosed-returns
enclosed-returns t c = let p = c.in_ok-p.was in let expression = c.expression.ensures in says_then (expression.got _ p) (expects_own want_close close_row refl close_else closing (expression.got _ p).asks c.expect.ensures)

pub enclosed-returns-in_err-p : goal.enclosed-returns-in_err-p
enclosed-returns-in_err-p t c = let e = err_from_is_err_and c.from_residual.result c.from_residual.ensures.1 in rw (e.1, e.2) (says_first (want_close ∷ []) c.expression.ensures c.in_err-p.was)

pub expression-loop-next-init : goal.expression-loop-next-init
expression-loop-next-init t c = onward_first c.requires

pub expression-term_at-requires : goal.expression-term_at-requires
expression-term_at-requires t c = let loop = c.loop-next.invariant in (omega (arith, loop.ahead, loop.asks.within), loop.asks)

pub expression-see-seen-requires : goal.expression-see-seen-requires
expression-see-seen-requires t c = (c.term_at.ensures.got _ c.in_ok-next.was).asks.within

pub expression-token-p-requires : goal.expression-token-p-requires
expression-token-p-requires t c = let next = c.in_ok-next.was in let term = c.term_at.ensures.got in omega (arith, (term _ next).asks.few, (term _ next).asks.short, (term _ next).asks.within)

pub expression-loop-next-smaller : goal.expression-loop-next-smaller
expression-loop-next-smaller t c = let token = c.token-p.ensures in let if1 = c.if-not-joins_terms.false in let joins = c.joins_terms.ensures in let see = c.see-seen in let next = c.in_ok-next.was in let term = c.term_at.ensures.got in let took = took_own see.result.class (joins_sign see.result.class (sym (joins) ∙ if1)) (term _ (next)).asks (see.ensures.next _ _) (sym see.ensures.class) see.ensures.own token.0 token.1 in omega (arith, (term _ next).ahead, took.pass.ahead, took.pass.asks.within)

pub expression-loop-next-preserved : goal.expression-loop-next-preserved
expression-loop-next-preserved t c = let token = c.token-p in let if1 = c.if-not-joins_terms.false in let joins = c.joins_terms.ensures in let see = c.see-seen in let next = c.in_ok-next.was in let term = c.term_at in let loop = c.loop-next.invariant in onward_joins see.result.class (sym joins ∙ if1) (sym see.ensures.class) loop (term.ensures.got _ next) (took_own see.result.class (joins_sign see.result.class (sym joins ∙ if1)) (term.ensures.got _ next).asks (see.ensures.next _ _) (sym see.ensures.class) see.ensures.own token.ensures.0 token.ensures.1)

pub expression-returns-then-not-joins_terms : goal.expression-returns-then-not-joins_terms
expression-returns-then-not-joins_terms t c = let see = c.see-seen in let next = c.in_ok-next.was in let term = c.term_at.ensures.got in c.loop-next.invariant.goes _ _ (says_then (term _ next) (leaves want_more_terms (term _ next).asks (see.ensures.next _ _) (ap (look want_more_terms) (sym see.ensures.class) ∙ more_else see.result.class (sym c.joins_terms.ensures ∙ c.if-not-joins_terms.true))))

pub expression-returns-in_err-next : goal.expression-returns-in_err-next
expression-returns-in_err-next t c = let e = err_from_is_err_and c.from_residual.result c.from_residual.ensures.1 in rw (e.1, e.2) (c.loop-next.invariant.goes _ _ (says_first (want_more_terms ∷ []) c.term_at.ensures c.in_err-next.was))

pub operand-refuse-requires : goal.operand-refuse-requires
operand-refuse-requires t c = let pre = c.requires in (omega (arith, pre.1.sees.spans, pre.1.sees.within), pre.0.short)

pub operand-constant-requires : goal.operand-constant-requires
operand-constant-requires t c = let pre = c.requires in (pre.0, (false, (pre.1.sees, (sym pre.1.class ∙ c.in-3.is))))

pub operand-variable-requires : goal.operand-variable-requires
operand-variable-requires t c = let match = c.in-5.is in let pre = c.requires in (pre.0, pre.1.sees, omega (arith, (sym pre.1.class ∙ match)), omega (arith, (sym pre.1.class ∙ match)))

pub operand-variable-p-requires : goal.operand-variable-p-requires
operand-variable-p-requires t c = let match = c.in-7.is in let pre = c.requires in (pre.0, pre.1.sees, omega (arith, (sym pre.1.class ∙ match)), omega (arith, (sym pre.1.class ∙ match)))

pub operand-element-requires : goal.operand-element-requires
operand-element-requires t c = let variable2 = c.variable-p.ensures in (omega (arith, variable2.pass.ahead, variable2.pass.asks.within), variable2.pass.asks)

pub operand-token-p-requires : goal.operand-token-p-requires
operand-token-p-requires t c = let pre = c.requires.0 in omega (arith, pre.few, pre.short, pre.within)

pub operand-enclosed-requires : goal.operand-enclosed-requires
operand-enclosed-requires t c = let token = c.token-p.ensures in let match = c.in-11.is in let pre = c.requires in let took = took_own open_sign refl pre.0 (pre.1.next _ _) (sym pre.1.class ∙ match) pre.1.own token.0 token.1 in (omega (arith, took.pass.ahead, took.pass.asks.within), took.pass.asks)

pub operand-token-p-requires-in-27 : goal.operand-token-p-requires-in-27
operand-token-p-requires-in-27 t c = let pre = c.requires.0 in omega (arith, pre.few, pre.short, pre.within)

pub operand-string_argument-requires : goal.operand-string_argument-requires
operand-string_argument-requires t c = let token2 = c.token-p-in-27.ensures in let match = c.in-27.is in let pre = c.requires in let took = took_own function_of_string refl pre.0 (pre.1.next _ _) (sym pre.1.class ∙ match) pre.1.own token2.0 token2.1 in (omega (arith, took.pass.ahead, took.pass.asks.within), took.pass.asks)

pub operand-token-p-requires-in-28 : goal.operand-token-p-requires-in-28
operand-token-p-requires-in-28 t c = let pre = c.requires.0 in omega (arith, pre.few, pre.short, pre.within)

pub operand-argument-requires : goal.operand-argument-requires
operand-argument-requires t c = let token3 = c.token-p-in-28.ensures in let match = c.in-28.is in let pre = c.requires in let took = took_own function_of_number refl pre.0 (pre.1.next _ _) (sym pre.1.class ∙ match) pre.1.own token3.0 token3.1 in (omega (arith, took.pass.ahead, took.pass.asks.within), took.pass.asks)

pub operand-compared-requires : goal.operand-compared-requires
operand-compared-requires t c = (omega arith, c.requires.0)

pub operand-compared-requires-in-6 : goal.operand-compared-requires-in-6
operand-compared-requires-in-6 t c = (omega arith, c.requires.0)

pub operand-compared-requires-in-26 : goal.operand-compared-requires-in-26
operand-compared-requires-in-26 t c = (omega arith, c.requires.0)

pub operand-returns-in-3 : goal.operand-returns-in-3
operand-returns-in-3 t c = let match = c.in-3.is in let pre = c.requires.1 in counts want_operand operand_number (pre.next _ _) (sym pre.class ∙ match) (c.constant.ensures false pre.sees (sym pre.class ∙ match))

pub operand-returns-in-5 : goal.operand-returns-in-5
operand-returns-in-5 t c = takes_last want_operand numeric_variable operand_numeric refl (sym c.requires.1.class ∙ c.in-5.is) c.variable.ensures

pub operand-returns-in-7 : goal.operand-returns-in-7
operand-returns-in-7 t c = takes want_operand array (want_array_open ∷ want_operand ∷ want_more_terms ∷ want_second ∷ []) operand_array refl (sym c.requires.1.class ∙ c.in-7.is) c.variable-p.ensures c.element.ensures

pub operand-returns-in-11 : goal.operand-returns-in-11
operand-returns-in-11 t c = let token = c.token-p.ensures in let match = c.in-11.is in let pre = c.requires in takes want_operand open_sign (want_operand ∷ want_more_terms ∷ want_close ∷ []) operand_open refl (sym pre.1.class ∙ match) (took_own open_sign refl pre.0 (pre.1.next _ _) (sym pre.1.class ∙ match) pre.1.own token.0 token.1) c.enclosed.ensures

pub operand-returns-in-27 : goal.operand-returns-in-27
operand-returns-in-27 t c = let token2 = c.token-p-in-27.ensures in let match = c.in-27.is in let pre = c.requires in takes want_operand function_of_string (want_function_open ∷ want_string ∷ want_close ∷ []) operand_of_string refl (sym pre.1.class ∙ match) (took_own function_of_string refl pre.0 (pre.1.next _ _) (sym pre.1.class ∙ match) pre.1.own token2.0 token2.1) c.string_argument.ensures

pub operand-returns-in-28 : goal.operand-returns-in-28
operand-returns-in-28 t c = let token3 = c.token-p-in-28.ensures in let match = c.in-28.is in let pre = c.requires in takes want_operand function_of_number (want_function_open ∷ want_operand ∷ want_more_terms ∷ want_close ∷ []) operand_of_number refl (sym pre.1.class ∙ match) (took_own function_of_number refl pre.0 (pre.1.next _ _) (sym pre.1.class ∙ match) pre.1.own token3.0 token3.1) c.argument.ensures

pub operand-returns-in-4 : goal.operand-returns-in-4
operand-returns-in-4 t c = let pre = c.requires.1 in alike want_operand want_string quoted-class itself [] (want_string_comparison ∷ []) operand_quoted string_quoted refl (pre.next _ _) (sym pre.class ∙ c.in-4.is) c.compared.ensures

pub operand-returns-in-6 : goal.operand-returns-in-6
operand-returns-in-6 t c = let pre = c.requires.1 in alike want_operand want_string string_variable itself (want_substring ∷ []) (want_string_comparison ∷ []) operand_string string_string refl (pre.next _ _) (sym pre.class ∙ c.in-6.is) c.compared-in-6.ensures

pub operand-returns-in-26 : goal.operand-returns-in-26
operand-returns-in-26 t c = let pre = c.requires.1 in alike want_operand want_string string_function itself (want_function_open ∷ want_operand ∷ want_more_terms ∷ want_close ∷ []) (want_string_comparison ∷ []) operand_function string_function_row refl (pre.next _ _) (sym pre.class ∙ c.in-26.is) c.compared-in-26.ensures

pub operand-returns-in_default : goal.operand-returns-in_default
operand-returns-in_default t c = rw c.refuse.ensures (refuses want_operand _ (c.requires.1.next _ _) (ap (look want_operand) (sym c.requires.1.class) ∙ operand_else c.args.seen.class c.requires.2 c.requires.3 c.in_default.in_default-own.rest.0.0.0.0.0.0.0.0.1 c.in_default.in_default-own.rest.0.0.0.0.0.0.0.1 c.in_default.in_default-own.rest.0.0.0.0.0.0.1 c.in_default.in_default-own.rest.0.0.0.0.0.1 c.in_default.in_default-own.rest.0.0.0.0.1 c.in_default.in_default-own.rest.0.0.0.1 c.in_default.in_default-own.rest.0.0.1 c.in_default.in_default-own.rest.0.1 c.in_default.in_default-own.rest.1) refl)

pub second-see-seen-requires : goal.second-see-seen-requires
second-see-seen-requires t c = c.requires.within

pub second-refuse-requires : goal.second-refuse-requires
second-refuse-requires t c = let sees = c.see-seen.ensures.sees in (omega (arith, sees.spans, sees.within), c.requires.short)

pub second-token-p-requires : goal.second-token-p-requires
second-token-p-requires t c = let pre = c.requires in omega (arith, pre.few, pre.short, pre.within)

pub second-enclosed-requires : goal.second-enclosed-requires
second-enclosed-requires t c = let token = c.token-p.ensures in let match = c.in-13.is in let see = c.see-seen.ensures in let pre = c.requires in let took = took_put comma 0x3c refl pre (see.next _ _) (sym see.class ∙ match) token.0 token.1 in (omega (arith, took.pass.ahead, took.pass.asks.within), took.pass.asks)

pub second-token-requires : goal.second-token-requires
second-token-requires t c = let pre = c.requires in omega (arith, pre.few, pre.short, pre.within)

pub second-returns-in-13 : goal.second-returns-in-13
second-returns-in-13 t c = let token = c.token-p.ensures in let match = c.in-13.is in let see = c.see-seen.ensures in takes want_second comma (want_operand ∷ want_more_terms ∷ want_close ∷ []) second_comma refl (sym see.class ∙ match) (took_put comma 0x3c refl c.requires (see.next _ _) (sym see.class ∙ match) token.0 token.1) c.enclosed.ensures

pub second-returns-in-12 : goal.second-returns-in-12
second-returns-in-12 t c = let token2 = c.token.ensures in let match = c.in-12.is in let see = c.see-seen.ensures in takes_last want_second close_sign second_close refl (sym see.class ∙ match) (took_own close_sign refl c.requires (see.next _ _) (sym see.class ∙ match) see.own token2.0 token2.1)

pub second-returns-in_default : goal.second-returns-in_default
second-returns-in_default t c = rw c.refuse.ensures (let see = c.see-seen in refuses want_second _ (see.ensures.next _ _) (ap (look want_second) (sym see.ensures.class) ∙ second_else see.result.class c.in_default.in_default-own.rest.0.1 c.in_default.in_default-own.rest.1) refl)

pub string-see-seen-requires : goal.string-see-seen-requires
string-see-seen-requires t c = c.requires.within

pub string-refuse-requires : goal.string-refuse-requires
string-refuse-requires t c = let sees = c.see-seen.ensures.sees in (omega (arith, sees.spans, sees.within), c.requires.short)

pub string-quoted-requires : goal.string-quoted-requires
string-quoted-requires t c = let see = c.see-seen.ensures in (c.requires, see.sees, (sym see.class ∙ c.in-4.is))

pub string-variable-p-requires : goal.string-variable-p-requires
string-variable-p-requires t c = let match = c.in-6.is in let see = c.see-seen.ensures in (c.requires, see.sees, omega (arith, (sym see.class ∙ match)), omega (arith, (sym see.class ∙ match)))

pub string-substring-requires : goal.string-substring-requires
string-substring-requires t c = let variable = c.variable-p.ensures in (omega (arith, variable.pass.ahead, variable.pass.asks.within), variable.pass.asks)

pub string-token-p-requires : goal.string-token-p-requires
string-token-p-requires t c = let pre = c.requires in omega (arith, pre.few, pre.short, pre.within)

pub string-argument-requires : goal.string-argument-requires
string-argument-requires t c = let token = c.token-p.ensures in let match = c.in-26.is in let see = c.see-seen.ensures in let pre = c.requires in let took = took_own string_function refl pre (see.next _ _) (sym see.class ∙ match) see.own token.0 token.1 in (omega (arith, took.pass.ahead, took.pass.asks.within), took.pass.asks)

pub string-returns-in-4 : goal.string-returns-in-4
string-returns-in-4 t c = takes_last want_string quoted-class string_quoted refl (sym c.see-seen.ensures.class ∙ c.in-4.is) c.quoted.ensures

pub string-returns-in-6 : goal.string-returns-in-6
string-returns-in-6 t c = takes want_string string_variable (want_substring ∷ []) string_string refl (sym c.see-seen.ensures.class ∙ c.in-6.is) c.variable-p.ensures c.substring.ensures

pub string-returns-in-26 : goal.string-returns-in-26
string-returns-in-26 t c = let token = c.token-p.ensures in let match = c.in-26.is in let see = c.see-seen.ensures in takes want_string string_function (want_function_open ∷ want_operand ∷ want_more_terms ∷ want_close ∷ []) string_function_row refl (sym see.class ∙ match) (took_own string_function refl c.requires (see.next _ _) (sym see.class ∙ match) see.own token.0 token.1) c.argument.ensures

pub string-returns-in_default : goal.string-returns-in_default
string-returns-in_default t c = rw c.refuse.ensures (let see = c.see-seen in refuses want_string _ (see.ensures.next _ _) (ap (look want_string) (sym see.ensures.class) ∙ string_else see.result.class c.in_default.in_default-own.rest.0.0.1 c.in_default.in_default-own.rest.0.1 c.in_default.in_default-own.rest.1) refl)

pub string_argument-expect-requires : goal.string_argument-expect-requires
string_argument-expect-requires t c = let pre = c.requires in (pre.within, pre.short, omega (arith, pre.few, pre.short, pre.within))

pub string_argument-string-requires : goal.string_argument-string-requires
string_argument-string-requires t c = let p = c.in_ok-p.was in let expect = c.expect.ensures in let pre = c.requires in let took = hit_put refl pre (expect.hit _ (p)) in (omega (arith, took.pass.ahead, took.pass.asks.within), took.pass.asks)

pub string_argument-expect-requires-2 : goal.string_argument-expect-requires-2
string_argument-expect-requires-2 t c = let r = c.in_ok-r.was in let string = c.string.ensures in ((string.got _ r).asks.within, (string.got _ r).asks.short, omega (arith, (string.got _ r).asks.few, (string.got _ r).asks.short, (string.got _ r).asks.within))

pub string_argument-returns : goal.string_argument-returns
string_argument-returns t c = let r = c.in_ok-r.was in let string = c.string.ensures in says_then ((expects_put want_function_open function_open_row refl function_open_else c.requires c.expect.ensures).got _ c.in_ok-p.was) (says_then (string.got _ r) (expects_own want_close close_row refl close_else closing (string.got _ r).asks c.expect-2.ensures))

pub string_argument-returns-in_err-r : goal.string_argument-returns-in_err-r
string_argument-returns-in_err-r t c = let e = err_from_is_err_and c.from_residual-in_err-r.result c.from_residual-in_err-r.ensures.1 in rw (e.1, e.2) (says_then ((expects_put want_function_open function_open_row refl function_open_else c.requires c.expect.ensures).got _ c.in_ok-p.was) (says_first (want_close ∷ []) c.string.ensures c.in_err-r.was))

pub string_argument-returns-in_err-p : goal.string_argument-returns-in_err-p
string_argument-returns-in_err-p t c = let e = err_from_is_err_and c.from_residual.result c.from_residual.ensures.1 in rw (e.1, e.2) (says_first (want_string ∷ want_close ∷ []) (expects_put want_function_open function_open_row refl function_open_else c.requires c.expect.ensures) c.in_err-p.was)

pub subscripts-expression-requires : goal.subscripts-expression-requires
subscripts-expression-requires t c = (omega arith, c.requires)

pub subscripts-second-requires : goal.subscripts-second-requires
subscripts-second-requires t c = let p = c.in_ok-p.was in let expression = c.expression.ensures in (omega (arith, (expression.got _ p).ahead, (expression.got _ p).asks.within), (expression.got _ p).asks)

pub subscripts-returns : goal.subscripts-returns
subscripts-returns t c = says_then (c.expression.ensures.got _ c.in_ok-p.was) c.second.ensures

pub subscripts-returns-in_err-p : goal.subscripts-returns-in_err-p
subscripts-returns-in_err-p t c = let e = err_from_is_err_and c.from_residual.result c.from_residual.ensures.1 in rw (e.1, e.2) (says_first (want_second ∷ []) c.expression.ensures c.in_err-p.was)

pub substring-see-seen-requires : goal.substring-see-seen-requires
substring-see-seen-requires t c = c.requires.within

pub substring-token-p-requires : goal.substring-token-p-requires
substring-token-p-requires t c = let pre = c.requires in omega (arith, pre.few, pre.short, pre.within)

pub substring-subscripts-requires : goal.substring-subscripts-requires
substring-subscripts-requires t c = let token = c.token-p.ensures in let match = c.if-seen-ne-OPEN_SIGN.false in let see = c.see-seen.ensures in let pre = c.requires in let took = took_put open_sign 0x37 refl pre (see.next _ _) (sym see.class ∙ match) token.0 token.1 in (omega (arith, took.pass.ahead, took.pass.asks.within), took.pass.asks)

pub substring-returns : goal.substring-returns
substring-returns t c = let token = c.token-p.ensures in let match = c.if-seen-ne-OPEN_SIGN.false in let see = c.see-seen.ensures in takes want_substring open_sign (want_operand ∷ want_more_terms ∷ want_second ∷ []) substring_open refl (sym see.class ∙ match) (took_put open_sign 0x37 refl c.requires (see.next _ _) (sym see.class ∙ match) token.0 token.1) c.subscripts.ensures

pub substring-returns-then-seen-ne-OPEN_SIGN : goal.substring-returns-then-seen-ne-OPEN_SIGN
substring-returns-then-seen-ne-OPEN_SIGN t c = let see = c.see-seen in leaves want_substring c.requires (see.ensures.next _ _) (ap (look want_substring) (sym see.ensures.class) ∙ substring_else see.result.class c.if-seen-ne-OPEN_SIGN.true)

pub term_at-loop-draft-init : goal.term_at-loop-draft-init
term_at-loop-draft-init t c = onward_first c.requires

pub term_at-see-seen-requires : goal.term_at-see-seen-requires
term_at-see-seen-requires t c = c.loop-draft.invariant.asks.within

pub term_at-token-p-requires : goal.term_at-token-p-requires
term_at-token-p-requires t c = let loop = c.loop-draft.invariant.asks in omega (arith, loop.few, loop.short, loop.within)

pub term_at-loop-draft-smaller-in-18 : goal.term_at-loop-draft-smaller-in-18
term_at-loop-draft-smaller-in-18 t c = let token = c.token-p.ensures in let prefix-operator = c.prefix_operator.ensures in let match = c.in-18.is in let see = c.see-seen.ensures in let loop = c.loop-draft.invariant.asks in let took = took_prefix plus_minus refl loop (see.next _ _) (sym see.class ∙ match) (prefix-operator ∙ ap (shifted 0x10) see.own) token.0 token.1 in omega (arith, took.pass.ahead, took.pass.asks.within)

pub term_at-loop-draft-preserved-in-18 : goal.term_at-loop-draft-preserved-in-18
term_at-loop-draft-preserved-in-18 t c = let token = c.token-p in let match = c.in-18.is in let see = c.see-seen.ensures in let loop = c.loop-draft.invariant in onward_takes want_operand plus_minus operand_sign refl (sym see.class ∙ match) loop (took_prefix plus_minus refl loop.asks (see.next _ _) (sym see.class ∙ match) (c.prefix_operator.ensures ∙ ap (shifted 0x10) see.own) token.ensures.0 token.ensures.1)

pub term_at-token-p-requires-in-20 : goal.term_at-token-p-requires-in-20
term_at-token-p-requires-in-20 t c = let loop = c.loop-draft.invariant.asks in omega (arith, loop.few, loop.short, loop.within)

pub term_at-loop-draft-smaller : goal.term_at-loop-draft-smaller
term_at-loop-draft-smaller t c = let token2 = c.token-p-in-20.ensures in let match = c.in-20.is in let see = c.see-seen.ensures in let loop = c.loop-draft.invariant.asks in let took = took_own not_word refl loop (see.next _ _) (sym see.class ∙ match) see.own token2.0 token2.1 in omega (arith, took.pass.ahead, took.pass.asks.within)

pub term_at-loop-draft-preserved : goal.term_at-loop-draft-preserved
term_at-loop-draft-preserved t c = let token2 = c.token-p-in-20 in let match = c.in-20.is in let see = c.see-seen.ensures in let loop = c.loop-draft.invariant in onward_takes want_operand not_word operand_not refl (sym see.class ∙ match) loop (took_own not_word refl loop.asks (see.next _ _) (sym see.class ∙ match) see.own token2.ensures.0 token2.ensures.1)

pub term_at-operand-requires : goal.term_at-operand-requires
term_at-operand-requires t c = let match = c.in_default.in_default-own.rest in let loop = c.loop-draft.invariant in (omega (arith, loop.ahead, loop.asks.within), (loop.asks, c.see-seen.ensures, match.0.1, match.1))

pub term_at-returns-in_default : goal.term_at-returns-in_default
term_at-returns-in_default t c = c.loop-draft.invariant.goes _ _ c.operand.ensures
