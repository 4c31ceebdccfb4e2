use mathlib.Core.Path.{refl, sym, ◌∙◌}
use Rattle.enter_scan.proofs.PlaceLaws.{at_end, at_name, at_number, at_string, at_print, at_symbol}
use Rattle.enter_scan.proofs.item_at.Goals as goal

pub returns-then-part-at : goal.returns-then-part-at
returns-then-part-at c = at_end c.args.first c.args.part.now c.args.at c.if-part-at.true

pub returns-then-is_letter : goal.returns-then-is_letter
returns-then-is_letter c = at_name c.args.first c.args.part.now c.args.at c.if-part-at.false refl (sym c.is_letter.ensures ∙ c.if-is_letter.true) c.name_item.ensures

pub returns-then-begins_number : goal.returns-then-begins_number
returns-then-begins_number c = at_number c.args.first c.args.part.now c.args.at c.if-part-at.false refl c.byte_at-next.ensures (sym c.is_letter.ensures ∙ c.if-is_letter.false) (sym c.begins_number.ensures ∙ c.if-begins_number.true) c.number_item.ensures

pub returns-then-b-eq34 : goal.returns-then-b-eq34
returns-then-b-eq34 c = at_string c.args.first c.args.part.now c.args.at c.if-part-at.false refl c.byte_at-next.ensures (sym c.is_letter.ensures ∙ c.if-is_letter.false) (sym c.begins_number.ensures ∙ c.if-begins_number.false) c.if-b-eq34.true c.string_item.ensures

pub returns-then-is_print_sign : goal.returns-then-is_print_sign
returns-then-is_print_sign c = at_print c.args.first c.args.part.now c.args.at c.if-part-at.false refl c.byte_at-next.ensures (sym c.is_letter.ensures ∙ c.if-is_letter.false) (sym c.begins_number.ensures ∙ c.if-begins_number.false) c.if-b-eq34.false (sym c.is_print_sign.ensures ∙ c.if-is_print_sign.true)

pub symbol_item-requires : goal.symbol_item-requires
symbol_item-requires c = (c.if-part-at.false, (sym c.is_letter.ensures ∙ c.if-is_letter.false))

pub returns : goal.returns
returns c = at_symbol c.args.first c.args.part.now c.args.at c.if-part-at.false refl c.byte_at-next.ensures (sym c.is_letter.ensures ∙ c.if-is_letter.false) (sym c.begins_number.ensures ∙ c.if-begins_number.false) c.if-b-eq34.false (sym c.is_print_sign.ensures ∙ c.if-is_print_sign.false) c.symbol_item.ensures
