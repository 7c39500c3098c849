-- Block code as plain data.
use Rattle.std.specs.Prelude.{ℕ, ℤ, List, map, Option, option_map}
use Rattle.cx_base.specs.declared.number.CInt.{CInt}
use Rattle.cx_base.specs.declared.span.Span.{Span}
use Rattle.cx_ctree.specs.Types.{TypeTree, type_tree}
use Rattle.cx_goto.specs.declared.code.Block.{Block}
use Rattle.cx_goto.specs.declared.code.Code.{Code}
use Rattle.cx_goto.specs.declared.code.End.{End}
use Rattle.cx_goto.specs.declared.code.Instr.{Instr}
use Rattle.cx_goto.specs.declared.code.Instr.TheVariants as i
use Rattle.cx_goto.specs.declared.code.Line.{Line}
use Rattle.cx_goto.specs.declared.code.Op.{Op}

pub data InstrTree : Type 0 where
  const : (d : ℕ) → ℤ → InstrTree
  copy : (d x : ℕ) → InstrTree
  unset : (d : ℕ) → InstrTree
  global : (d name : ℕ) → InstrTree
  bin : (d : ℕ) → Op → CInt → (x y : ℕ) → InstrTree
  conv : (d : ℕ) → CInt → InstrTree
  load : (d : ℕ) → CInt → (a : ℕ) → InstrTree
  store : CInt → (a x : ℕ) → InstrTree
  call : (d name : ℕ) → (args : List ℕ) → (pointee : Option TypeTree) → InstrTree

pub record LineTree : Type 0 where
  pub instr : InstrTree
  pub span : Span

pub record BlockTree : Type 0 where
  pub keep : ℕ
  pub lines : List LineTree
  pub end : End
  pub span : Span

pub record CodeTree : Type 0 where
  pub name_span : Span
  pub params : ℕ
  pub named : ℕ
  pub locals : ℕ
  pub result : Option CInt
  pub blocks : List BlockTree

abbrev pub instr_tree : Instr → InstrTree
instr_tree (i.Const d v) = const d v
instr_tree (i.Copy d x) = copy d x
instr_tree (i.Unset d) = unset d
instr_tree (i.Global d n) = global d n
instr_tree (i.Bin d op t x y) = bin d op t x y
instr_tree (i.Conv d t) = conv d t
instr_tree (i.Load d t a) = load d t a
instr_tree (i.Store t a x) = store t a x
instr_tree (i.Call d n args pointee) = call d n args (option_map type_tree pointee)

abbrev pub line_tree : Line → LineTree
line_tree l = record { instr = instr_tree l.instr; span = l.span }

abbrev pub block_tree : Block → BlockTree
block_tree b = record { keep = b.keep; lines = map line_tree b.lines; end = b.end; span = b.span }

-- the code
abbrev pub code_tree : Code → CodeTree
code_tree c = record { name_span = c.name_span; params = c.params; named = c.named; locals = c.locals; result = c.result; blocks = map block_tree c.blocks }
