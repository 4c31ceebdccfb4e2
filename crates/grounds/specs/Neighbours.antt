-- Which classes may stand side by side in what the grammar takes: so no two of them run together when they are written, and statement
-- position is where the scanner takes it to be.
use Rattle.std.specs.Prelude.{ℕ, ◌≡◌, Bool, not, ◌&&◌, ◌||◌, List, [], ◌∷◌, map, T, eqb, leb}
use Rattle.std.proofs.Common.{subst, sym, ap, ◌∙◌}
use Rattle.paper.specs.Bytes.{pick, every, among}
use Rattle.paper.specs.Classes.{line_end, raw_end, number, numeric_variable, array, first_numeric, first_string, first_array, open_sign, close_sign, comma, colon, semicolon, equals, comparison, plus_minus, factor_sign, or_and, goto_gosub, to_word, step_word, then_word, string_function, function_of_string, function_of_number, raw_text, remark}
use Rattle.paper.specs.Tokens.{Token, class}
use Rattle.paper.specs.Items.{opens}
use Rattle.paper.specs.Machine.{Taken, left, read}
use Rattle.paper.specs.Grammar.{Gives, grammar, may_be_empty, look, start}
use Rattle.paper.specs.Open.{all_Bytes, all_Grammar, all_Machine, all_Items}
use Rattle.grounds.specs.Viable.{every_member}
use Rattle.grounds.specs.FrameTables.{firsts, firsts_table, follow, follow_table}
use Rattle.grounds.specs.Adjacent.{ActBeside, Beside, RunBeside, row_beside, find_beside, beside, nexts, follows?, all_among?}
use Rattle.grounds.specs.Place.{by_class, sources}
use Rattle.grounds.specs.TokenRuns.{on_taken, on_run, through, read_through}
use Rattle.grounds.specs.Given.{look_token}

-- classes of statement position: statement words, and a variable that comes first
unfoldable pub first_class? : ℕ → Bool
first_class? d = leb remark d || among d (first_numeric ∷ first_string ∷ first_array ∷ [])

-- classes that only operators have
unfoldable pub operator_class? : ℕ → Bool
operator_class? d =
    among d (line_end ∷ open_sign ∷ close_sign ∷ comma ∷ colon ∷ semicolon ∷ equals ∷ comparison ∷ plus_minus ∷ factor_sign ∷ or_and ∷ goto_gosub ∷ to_word ∷ step_word ∷ then_word ∷ [])

-- after c may come d
unfoldable pub apart : ℕ → ℕ → Bool
apart c d =
    (not (eqb c colon) || not (eqb d number))
    -- statement position is after `:` and THEN; after THEN a constant may stand as well
    && (pick (opens c) (first_class? d || eqb d number) (not (first_class? d))
    -- after a name or number comes an operator; after a plain variable no `(`, after an array's name or a function's nothing else
    && ((not (among c (number ∷ numeric_variable ∷ first_numeric ∷ array ∷ first_array ∷ function_of_string ∷ function_of_number ∷ string_function ∷ [])) || operator_class? d)
    && ((not (among c (numeric_variable ∷ first_numeric ∷ [])) || not (eqb d open_sign))
    && ((not (among c (array ∷ first_array ∷ function_of_string ∷ function_of_number ∷ string_function ∷ [])) || eqb d open_sign)
    -- `<` and `>` stand before no `=`, `<`, `>`
    && ((not (eqb c comparison) || (not (eqb d equals) && not (eqb d comparison)))
    -- raw text after REM and DATA alone, and then its end; nothing after an end
    && (pick (eqb c remark) (eqb d raw_text) (not (eqb d raw_text))
    && (pick (eqb c raw_text) (eqb d raw_end) (not (eqb d raw_end))
    && (not (eqb c line_end) && not (eqb c raw_end)))))))))

rows_apart : T (every (row_beside firsts follow may_be_empty apart {E = Gives}) grammar)
unfolding firsts_table follow_table firsts follow first_class? operator_class? apart row_beside nexts follows? all_among? all_Bytes all_Grammar all_Machine all_Items
rows_apart = tt

ok : (f c : ℕ) → ActBeside firsts follow may_be_empty apart f c (look f c)
unfolding look
ok f c = find_beside firsts follow may_be_empty apart grammar f c rows_apart

start_apart : T (every (λ d. apart colon d) (nexts firsts follow may_be_empty apart start []))
unfolding firsts_table follow_table firsts follow first_class? operator_class? apart nexts all_Bytes all_Grammar all_Machine all_Items
start_apart = tt

neighbours : (cs : List ℕ) → RunBeside firsts follow may_be_empty apart look ok colon (read look start cs)
unfolding nexts firsts_table follow_table firsts follow start all_Bytes
neighbours cs = beside firsts follow may_be_empty apart look ok colon start [] cs ((λ c m. absurd m), tt) (λ d m. every_member (λ (z : ℕ). apart colon z) (nexts firsts follow may_be_empty apart start []) d start_apart m)

-- each token may stand after the one before; b is the class before the first
abbrev pub Apart : ℕ → List Token → Type 0
Apart b [] = Unit {0}
Apart b (t ∷ ts) = T (apart b (class t)) × Apart (class t) ts

beside_apart : (b : ℕ) (es : List (Taken Gives Token)) → Beside firsts follow may_be_empty apart look ok b (on_taken class es) → Apart b (sources es)
unfolding on_taken sources
beside_apart b [] k = tt
beside_apart b (t ∷ ts) k = (k.0, beside_apart (class t.from) ts k.1)

-- the tokens of a run from the start
pub run_apart : (js : List Token) (es : List (Taken Gives Token)) (s : List ℕ) → read look_token start js ≡ left es s → Apart colon (sources es)
unfolding look_token by_class through on_run
run_apart js es s e =
    beside_apart colon es (subst (RunBeside firsts follow may_be_empty apart look ok colon) (sym (read_through look class start js) ∙ ap (on_run class) e) (neighbours (map class js)))
