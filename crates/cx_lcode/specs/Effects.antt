-- The code of effects and right sides. L is the first local that serves them; a value that is asked for is left in it.
use Rattle.std.specs.Prelude.{ℕ, ◌+◌, pos, List, [], ◌∷◌, Option, Some, None}
use Rattle.cx_base.specs.declared.span.Span.{Span}
use Rattle.cx_cconst.specs.Constants.{number_type}
use Rattle.cx_cmean.specs.Effects.{taken_as, pointee_of, local_of, operand_of}
use Rattle.cx_cmean.specs.Numbers.{value_type, number_of, applied_in, right_in}
use Rattle.cx_cmean.specs.Program.{unit_in, function_of}
use Rattle.cx_sname.specs.File.{Declared}
use Rattle.cx_ctree.specs.Conversions.{unsigned_long}
use Rattle.cx_ctree.specs.Exprs.{ExprTree, span_of, type_of, CallTree, RhsTree, value, call, EffectTree, set, update, call_alone, value_alone}
use Rattle.cx_ctree.specs.Types.{TypeTree, int, pointer}
use Rattle.cx_ctree.specs.declared.expr.Binary.{Binary}
use Rattle.cx_goto.specs.Trees.{const, copy, bin, load, store}
use Rattle.cx_goto.specs.declared.code.Op.TheVariants.{Mul}
use Rattle.cx_lcode.specs.Items.{Item, does, converts}
use Rattle.cx_lcode.specs.Places.{last, right_last}
use Rattle.cx_lcode.specs.Values.{op_of, code_of, place_code}
use Rattle.cx_lcode.specs.Lines.{calls}

-- ---- calls

-- arguments, each in its own local and converted to the type of its parameter
abbrev pub arguments_code : Declared → (q : Span) → List ExprTree → List TypeTree → (b t : ℕ) → List Item → List Item
arguments_code d q [] ts b t rest = rest
arguments_code d q (e ∷ es) [] b t rest = rest
arguments_code d q (e ∷ es) (w ∷ ws) b t rest = (code_of d q e).val b t (converts (span_of e) (number_of e) (number_type w) t (arguments_code d q es ws ((last e).val b) (t + 1) rest))

abbrev pub call_code : Declared → (q : Span) → CallTree → Option TypeTree → (b L : ℕ) → List Item → List Item
call_code d q c pointee b L rest = arguments_code d q c.args (function_of d c.name).params b L (calls c pointee L ∷ rest)

-- ---- right sides

abbrev pub right_code : Declared → (q : Span) → TypeTree → RhsTree → (b L : ℕ) → List Item → List Item
right_code d q t (value e) b L rest = (code_of d q e).val b L (converts (span_of e) (number_of e) (number_type t) L rest)
right_code d q t (call c w) b L rest =
    call_code d q c (pointee_of (taken_as w t)) b L
    (converts c.span (number_type (function_of d c.name).result) (number_type (taken_as w t)) L (converts c.span (number_type (taken_as w t)) (number_type t) L rest))

-- ---- left sides

-- the address of a left side in memory, in the local after L; nothing where it is a local
abbrev pub left_at_code : Declared → (q : Span) → ExprTree → Option ℕ → (b L : ℕ) → List Item → List Item
left_at_code d q l (Some x) b L rest = rest
left_at_code d q l None b L rest = place_code d q l b (L + 1) rest

abbrev pub left_code : Declared → (q : Span) → ExprTree → (b L : ℕ) → List Item → List Item
left_code d q l b L rest = left_at_code d q l (local_of l) b L rest

-- the number of a left side, in the local t
abbrev pub read_code : ExprTree → Option ℕ → (L t : ℕ) → Item
read_code l (Some x) L t = does (span_of l) (copy t x)
read_code l None L t = does (span_of l) (load t (number_type (type_of l)) (L + 1))

-- the local t is put there
abbrev pub write_code : ExprTree → Option ℕ → (L t : ℕ) → Item
write_code l (Some x) L t = does (span_of l) (copy x t)
write_code l None L t = does (span_of l) (store (number_type (type_of l)) (L + 1) t)

-- the local after the next is changed by the local L
abbrev pub updates : Declared → Span → Binary → (t u : TypeTree) → (L : ℕ) → List Item → List Item
updates d s op (int t) (int u) L rest =
    converts s t (applied_in op t u) (L + 2) (converts s u (right_in op t u) L (does s (bin (L + 2) (op_of op) (applied_in op t u) (L + 2) L) ∷ converts s (applied_in op t u) t (L + 2) rest))
updates d s op (pointer t) (int u) L rest =
    converts s u unsigned_long L
    (does s (const (L + 3) (pos (unit_in d t))) ∷ does s (bin L Mul unsigned_long L (L + 3)) ∷ does s (bin (L + 2) (op_of op) unsigned_long (L + 2) L) ∷ rest)
updates d s op t u L rest = rest

-- ---- effects

abbrev pub effect_code : Declared → (q : Span) → EffectTree → (b L : ℕ) → List Item → List Item
effect_code d q (set l r s) b L rest = right_code d q (type_of l) r b L (left_code d q l (right_last r b) L (write_code l (local_of l) L L ∷ rest))
effect_code d q (update op l e s) b L rest =
    (code_of d q e).val b L
    (left_code d q l ((last e).val b) L
    (read_code l (local_of l) L (L + 2) ∷ updates d s op (type_of l) (value_type (type_of e)) L (write_code l (local_of l) L (L + 2) ∷ rest)))
effect_code d q (call_alone c) b L rest = call_code d q c None b L rest
effect_code d q (value_alone e) b L rest = (code_of d q (operand_of e)).val b L rest
