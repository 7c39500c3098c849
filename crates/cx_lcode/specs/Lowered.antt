-- The code of a function.
use Rattle.std.specs.Prelude.{ℕ, ◌+◌, max, List, [], ◌∷◌, length, Option, Some, None}
use Rattle.cx_base.specs.declared.number.CInt.{CInt}
use Rattle.cx_base.specs.declared.token.Token.{Token}
use Rattle.cx_cconst.specs.Constants.{number_type}
use Rattle.cx_sname.specs.File.{Declared}
use Rattle.cx_cmean.specs.Statements.{closing_brace}
use Rattle.cx_ctree.specs.Decls.{TypedTree}
use Rattle.cx_ctree.specs.Stmts.{stmt_span}
use Rattle.cx_ctree.specs.Types.{TypeTree, void}
use Rattle.cx_goto.specs.Trees.{InstrTree, const, copy, unset, global, bin, conv, load, store, call, LineTree, BlockTree, CodeTree}
use Rattle.cx_goto.specs.declared.code.End.{End}
use Rattle.cx_goto.specs.declared.code.End.TheVariants.{Branch, Return, Missing}
use Rattle.cx_lcode.specs.Items.{blocks_of}
use Rattle.cx_lcode.specs.Statements.{Setting, stmt_code}

-- the type of the number that a function gives
abbrev pub result_of : TypeTree → Option CInt
result_of void = None
result_of t = Some (number_type t)

-- how a body ends that is left without a return
abbrev pub last_end : TypeTree → End
last_end void = Return None
last_end t = Missing

abbrev pub setting_of : Declared → List Token → TypedTree → Setting
setting_of d tokens f = record { unit = d; tokens = tokens; result = f.sig.result; served = length f.locals }

abbrev pub body_blocks : Setting → TypedTree → List BlockTree
body_blocks z f = blocks_of z.served [] (stmt_code z 0 0 0 f.body []) (last_end f.sig.result) (closing_brace (stmt_span f.body))

-- ---- how many locals there are: one more than the greatest that is named

abbrev pub past_all : List ℕ → ℕ
past_all [] = 0
past_all (x ∷ xs) = max (x + 1) (past_all xs)

abbrev pub instr_past : InstrTree → ℕ
instr_past (const d v) = d + 1
instr_past (copy d x) = max (d + 1) (x + 1)
instr_past (unset d) = d + 1
instr_past (global d n) = d + 1
instr_past (bin d op t x y) = max (d + 1) (max (x + 1) (y + 1))
instr_past (conv d t) = d + 1
instr_past (load d t a) = max (d + 1) (a + 1)
instr_past (store t a x) = max (a + 1) (x + 1)
instr_past (call d n args pointee) = max (d + 1) (past_all args)

abbrev pub end_past : End → ℕ
end_past (Branch r x y j m) = max (x + 1) (y + 1)
end_past (Return (Some x)) = x + 1
end_past _ = 0

abbrev pub lines_past : List LineTree → ℕ
lines_past [] = 0
lines_past (l ∷ ls) = max (instr_past l.instr) (lines_past ls)

abbrev pub blocks_past : List BlockTree → ℕ
blocks_past [] = 0
blocks_past (b ∷ bs) = max (max (lines_past b.lines) (end_past b.end)) (blocks_past bs)

-- the code of the function, among what its unit declares and with the tokens of its text
abbrev pub lowered : Declared → List Token → TypedTree → CodeTree
lowered d tokens f = let blocks = body_blocks (setting_of d tokens f) f in record {
  name_span = f.name_span;
  params = length f.sig.params;
  named = length f.locals;
  locals = max (length f.locals) (blocks_past blocks);
  result = result_of f.sig.result;
  blocks = blocks;
}
