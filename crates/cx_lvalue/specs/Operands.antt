-- What follows the two operands of an operator, by the types of their values (C11 6.5.5 to 6.5.7, 6.5.10 to 6.5.12).
use Rattle.std.specs.Prelude.{ℕ, ◌+◌, pos, List, ◌∷◌}
use Rattle.cx_base.specs.declared.span.Span.{Span}
use Rattle.cx_cmean.specs.Numbers.{applied_in, right_in}
use Rattle.cx_cmean.specs.Program.{unit_in}
use Rattle.cx_ctree.specs.Conversions.{signed_long, unsigned_long}
use Rattle.cx_ctree.specs.Types.{TypeTree, int, pointer}
use Rattle.cx_ctree.specs.declared.expr.Binary.{Binary}
use Rattle.cx_goto.specs.Trees.{const, bin}
use Rattle.cx_goto.specs.declared.code.Op.TheVariants.{Div}
use Rattle.cx_lcode.specs.Items.{Item, does, converts}
use Rattle.cx_lcode.specs.Values.{op_of, scaled}
use Rattle.cx_sname.specs.File.{Declared}

-- after the first operand, which is in the local t
abbrev pub first_code : Declared → Span → Binary → TypeTree → TypeTree → (sx : Span) → (t : ℕ) → List Item → List Item
first_code d s op (int v) (int w) sx t rest = converts sx v (applied_in op v w) t rest
first_code d s op (int v) (pointer w) sx t rest = converts sx v unsigned_long t (scaled s (unit_in d w) t rest)
first_code d s op v w sx t rest = rest

-- after the second one, which is in the local after t
abbrev pub second_code : Declared → Span → Binary → TypeTree → TypeTree → (sy : Span) → (t : ℕ) → List Item → List Item
second_code d s op (int v) (int w) sy t rest =
    converts sy w (right_in op v w) (t + 1) (does s (bin t (op_of op) (applied_in op v w) t (t + 1)) ∷ rest)
second_code d s op (pointer v) (int w) sy t rest =
    converts sy w unsigned_long (t + 1) (scaled s (unit_in d v) (t + 1) (does s (bin t (op_of op) unsigned_long t (t + 1)) ∷ rest))
second_code d s op (int v) (pointer w) sy t rest = does s (bin t (op_of op) unsigned_long t (t + 1)) ∷ rest
second_code d s op (pointer v) (pointer w) sy t rest =
    does s (bin t (op_of op) signed_long t (t + 1)) ∷ does s (const (t + 1) (pos (unit_in d v))) ∷ does s (bin t Div signed_long t (t + 1)) ∷ rest
second_code d s op v w sy t rest = rest
