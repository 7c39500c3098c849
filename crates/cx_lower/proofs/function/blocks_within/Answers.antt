use Rattle.std.proofs.Common.{refl, ap, sym, ◌∙◌, arith, ◌≤◌}
use Rattle.std.proofs.lemmas.List.{length-map}
use Rattle.cx_cmean.specs.Statements.{closing_brace}
use Rattle.cx_ctree.specs.Types.{type_tree}
use Rattle.cx_ctree.specs.Decls.{typed_tree}
use Rattle.cx_lower.proofs.Making.{lines_above, too_many_lines, blocks_made, setting_is, body_span}
use Rattle.cx_lpart.specs.Settings.{setting}
use Rattle.cx_sname.specs.File.{declared_of}
use Rattle.cx_lower.proofs.function.blocks_within.Goals as goal

pub returns-then-code-gt4096-clause-limit : goal.returns-then-code-gt4096-clause-limit
returns-then-code-gt4096-clause-limit c = λ l b few_locals few_blocks.
    lines_above l b _ few_locals few_blocks
    (too_many_lines (declared_of c.args.unit.now) c.args.unit.now.tokens (typed_tree c.args.typed.now) (setting c.args.unit.now c.args.typed.now.sig.result c.args.named) _ c.emit_stmt.new.code
    (setting_is c.args.unit.now c.args.typed.now c.args.named c.requires.named) refl c.in_ok-emit_stmt.ensures c.if-code-gt4096.true)

pub returns-clause-exact : goal.returns-clause-exact
returns-clause-exact c =
    let few : c.emit_stmt.new.code.count ≤ 4096 = omega (arith, c.if-code-gt4096.false) in
    (blocks_made (declared_of c.args.unit.now) c.args.unit.now.tokens (typed_tree c.args.typed.now) (setting c.args.unit.now c.args.typed.now.sig.result c.args.named) _ c.emit_stmt.new.code _ c.in_ok-blocks.blocks
    (setting_is c.args.unit.now c.args.typed.now c.args.named c.requires.named) (c.requires.named ∙ sym (length-map c.args.typed.now.locals type_tree)) c.new.ensures c.new-2.ensures refl c.in_ok-emit_stmt.ensures few
    refl refl c.last_end.ensures (c.closing_brace-span.ensures ∙ ap closing_brace (body_span c.args.typed.now.body)) c.in_ok-blocks.ensures).1

pub returns-clause-few_lines : goal.returns-clause-few_lines
returns-clause-few_lines c =
    let few : c.emit_stmt.new.code.count ≤ 4096 = omega (arith, c.if-code-gt4096.false) in
    (blocks_made (declared_of c.args.unit.now) c.args.unit.now.tokens (typed_tree c.args.typed.now) (setting c.args.unit.now c.args.typed.now.sig.result c.args.named) _ c.emit_stmt.new.code _ c.in_ok-blocks.blocks
    (setting_is c.args.unit.now c.args.typed.now c.args.named c.requires.named) (c.requires.named ∙ sym (length-map c.args.typed.now.locals type_tree)) c.new.ensures c.new-2.ensures refl c.in_ok-emit_stmt.ensures few
    refl refl c.last_end.ensures (c.closing_brace-span.ensures ∙ ap closing_brace (body_span c.args.typed.now.body)) c.in_ok-blocks.ensures).0
