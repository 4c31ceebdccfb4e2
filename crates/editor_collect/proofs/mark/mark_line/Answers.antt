use native.Mathlib.Omega.{arith}
use Prim.Native.Nat.{ℕ}
use mathlib.Core.Path.{◌≡◌, sym, ◌∙◌}
use Rattle.editor_collect.specs.Lines.{error_listed, other_listed, other_marked}
use Rattle.editor_collect.proofs.mark.mark_line.Goals as goal

pub returns-then-is_error_line : goal.returns-then-is_error_line
returns-then-is_error_line c = λ ns nd ks. let e = error_listed ns c.args.line.now c.args.marks.now c.requires.0 (sym c.is_error_line.ensures ∙ c.if-is_error_line.true) in (e.0, λ z. e.1)

pub returns-then-not-well_formed_over : goal.returns-then-not-well_formed_over
returns-then-not-well_formed_over c = λ ns nd ks. (sym (c.if-not-well_formed_over.true) ∙ other_listed ns c.args.line.now c.args.marks.now c.requires.0 (sym c.is_error_line.ensures ∙ c.if-is_error_line.false) (c.well_formed_over.ensures ns nd ks), λ z. let w : ◌≡◌ {A = ℕ} 0 1 = cc in absurd (omega arith))

pub mark_line-requires : goal.mark_line-requires
mark_line-requires c = record { names = c.requires.1.names; over = record { numbered = c.requires.1.numbered; formed = sym (c.well_formed_over.ensures _ c.requires.1.numbered c.requires.1.kinds) ∙ c.if-not-well_formed_over.false } }

pub returns : goal.returns
returns c = λ ns nd ks. (sym (c.if-not-well_formed_over.false) ∙ other_listed ns c.args.line.now c.args.marks.now c.requires.0 (sym c.is_error_line.ensures ∙ c.if-is_error_line.false) (c.well_formed_over.ensures ns nd ks), λ z. other_marked ns c.args.line.now c.args.marks.now c.requires.0 (sym c.is_error_line.ensures ∙ c.if-is_error_line.false) (c.mark_line.ensures ns (record { numbered = nd; formed = sym (c.well_formed_over.ensures ns nd ks) ∙ c.if-not-well_formed_over.false })))
