-- The rules on types, each with its number:
--  1 a name is a local in scope, an object of the file or an enumeration constant
--  2 arithmetic takes integers; + also a pointer and an integer; - also a pointer and an integer, or two pointers to types of one size
--  3 what is read through a pointer is complete, and an index is an integer
--  4 a member is one of its struct or union
--  5 an address is that of an object in memory
--  6 the left side of an assignment is a local or in memory, and scalar
--  7 a value converts to the type that is asked for
--  8 a called function is declared, with that number of parameters; these and its result are scalar
--  9 a return has a value exactly where the function has a result
-- 10 a switch is on an integer; its labels differ, and at most one is the default
-- 11 break stands in a loop or switch, continue in a loop
-- 12 a local is scalar and new in its block; so is a parameter, which has a name
-- 13 a size is that of a complete type
-- 14 a condition is scalar
-- 15 the arms of a conditional have types that go together
-- 16 a compound assignment takes two integers, or moves a pointer by an integer
-- 17 integers are compared with integers, pointers with pointers and the constant 0
-- 18 a value that nothing takes is scalar
-- 19 a type whose size is asked for has one
use Rattle.std.specs.Prelude.{ℕ, is_some, if◌then◌else◌}
use Rattle.cx_ctree.specs.declared.expr.Binary.{Binary}
use Rattle.cx_ctree.specs.declared.expr.Binary.TheVariants as b
use Rattle.cx_ctree.specs.declared.expr.Unary.{Unary}
use Rattle.cx_ctree.specs.declared.expr.Unary.TheVariants as u
use Rattle.cx_ctree.specs.Types.{TypeTree, int, pointer}
use Rattle.cx_ctype.specs.Accesses.{element}

-- the rule that an operator breaks which does not take its operand
abbrev pub unary_rule : Unary → ℕ
unary_rule u.Not = 14
unary_rule _ = 2

-- a pointer without a unit to be moved by breaks the rule on sizes
abbrev pub sum_rule : TypeTree → TypeTree → ℕ
sum_rule t w = if is_some (element t w) then 19 else 2

abbrev pub difference_rule : TypeTree → TypeTree → ℕ
difference_rule (pointer t) (int w) = 19
difference_rule _ _ = 2

-- the rule that an operator breaks which does not take operands of these types
abbrev pub binary_rule : Binary → TypeTree → TypeTree → ℕ
binary_rule b.Add t w = sum_rule t w
binary_rule b.Sub t w = difference_rule t w
binary_rule b.Lt t w = 17
binary_rule b.Gt t w = 17
binary_rule b.Le t w = 17
binary_rule b.Ge t w = 17
binary_rule b.Eq t w = 17
binary_rule b.Ne t w = 17
binary_rule b.And t w = 14
binary_rule b.Or t w = 14
binary_rule _ t w = 2
