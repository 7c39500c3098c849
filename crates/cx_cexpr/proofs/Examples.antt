-- Small texts: what spells an expression, and what is read.
use Rattle.std.proofs.Common.{◌≡◌, ℕ, suc, ◌+◌, true, false, List, [], ◌∷◌, Option, Some, None, refl}
use Rattle.cx_ctree.specs.declared.expr.Binary.TheVariants as b
use Rattle.cx_ctree.specs.Conversions.{signed_int}
use Rattle.cx_ctree.specs.Types.{int, pointer}
use Rattle.cx_ctree.specs.Exprs as node
use Rattle.cx_ctree.specs.Exprs.{ExprTree}
use Rattle.cx_cword.specs.declared.word.Keyword.{Keyword}
use Rattle.cx_cword.specs.declared.word.Keyword.TheVariants as k
use Rattle.cx_cword.specs.declared.word.Punctuator.{Punctuator}
use Rattle.cx_cword.specs.declared.word.Punctuator.TheVariants as p
use Rattle.cx_cword.specs.declared.lexeme.Lexeme.{Lexeme}
use Rattle.cx_cword.specs.declared.lexeme.LexemeKind.TheVariants as l
use Rattle.cx_cword.specs.Reading.{span_between}
use Rattle.cx_cname.specs.Known.{Known, names_type}
use Rattle.cx_cexpr.specs.Expressions.{IsBase, int_words, type_name, IsType, type_base, no_skip, IsCond, unconditional, IsBinary, operand, lower, joined, IsCast, no_cast, casted, IsUnary, no_prefix, size_of_type, IsPostfix, no_suffix, IsPrimary, named, inside}
use Rattle.cx_cexpr.specs.IntWords.{AreIntWords, no_word, is_listed}
use Rattle.cx_cexpr.specs.Reading.{Got, spelled, skip_at, words_at, low_type, base_at, tail_at, type_at, enclosed_at, made, cond_at, int_of}

-- ---- lexemes of one byte each

abbrev name : ℕ → ℕ → Lexeme
name i n = record { span = span_between i (i + 1); kind = l.Name (Some n) }

abbrev mark : ℕ → Punctuator → Lexeme
mark i p = record { span = span_between i (i + 1); kind = l.Punctuator p }

abbrev word : ℕ → Keyword → Lexeme
word i w = record { span = span_between i (i + 1); kind = l.Keyword w }

-- no names, and the name 0 for int
abbrev nothing : Known
nothing = record { tags = []; typedefs = []; consts = []; enums = [] }

abbrev one_type : Known
one_type = record { tags = []; typedefs = (0, int signed_int) ∷ []; consts = []; enums = [] }

abbrev leaf : ℕ → ℕ → ExprTree
leaf i n = spelled i (i + 1) (node.name n)

abbrev read : ExprTree → ℕ → Option (Got ExprTree)
read x past = Some (record { tree = x; past = past; rest = [] })

-- ---- a - b - c groups to the left

abbrev differences : List Lexeme
differences = name 0 1 ∷ mark 1 p.Minus ∷ name 2 2 ∷ mark 3 p.Minus ∷ name 4 3 ∷ []

abbrev left_difference : ExprTree
left_difference = spelled 0 5 (node.binary b.Sub (spelled 0 3 (node.binary b.Sub (leaf 0 1) (leaf 2 2))) (leaf 4 3))

differences_read : cond_at nothing 100 9 differences ≡ read left_difference 5
unfolding cond_at made
differences_read = refl

a_name : (env : Known) (o : Lexeme) (n : ℕ) → o.kind ≡ l.Name (Some n) → names_type env n ≡ false → IsCast env (o ∷ []) (Rattle.cx_cexpr.specs.Expressions.untyped (o ∷ []) (node.name n))
a_name env o n e f = no_cast (no_prefix (no_suffix (named o n (Rattle.std.proofs.Common.ap Rattle.cx_cword.specs.Reading.name_of e) f)))

to_top : {env : Known} {os : List Lexeme} {x : ExprTree} → IsBinary env 2 os x → IsCond env os x
to_top h = unconditional (lower (lower (lower (lower (lower (lower (lower (lower h))))))))

first_difference : IsBinary nothing 2 (name 0 1 ∷ mark 1 p.Minus ∷ name 2 2 ∷ []) (spelled 0 3 (node.binary b.Sub (leaf 0 1) (leaf 2 2)))
first_difference = joined (mark 1 p.Minus) p.Minus b.Sub (lower (lower (operand (a_name nothing (name 0 1) 1 refl refl)))) refl refl (lower (operand (a_name nothing (name 2 2) 2 refl refl)))

differences_spelled : IsCond nothing differences left_difference
differences_spelled = to_top (joined (mark 3 p.Minus) p.Minus b.Sub first_difference refl refl (lower (operand (a_name nothing (name 4 3) 3 refl refl))))

-- ---- a < b << c: a shift binds more than a comparison

shift_read : cond_at nothing 100 9 (name 0 1 ∷ mark 1 p.Less ∷ name 2 2 ∷ mark 3 p.Shl ∷ name 4 3 ∷ []) ≡ read (spelled 0 5 (node.binary b.Lt (leaf 0 1) (spelled 2 5 (node.binary b.Shl (leaf 2 2) (leaf 4 3))))) 5
unfolding cond_at made
shift_read = refl

-- ---- (t) - b is a cast of -b where t is a type, and a difference where it is not

abbrev in_parentheses : List Lexeme
in_parentheses = mark 0 p.OpenParen ∷ name 1 0 ∷ mark 2 p.CloseParen ∷ mark 3 p.Minus ∷ name 4 2 ∷ []

cast_read : cond_at one_type 100 9 in_parentheses ≡ read (spelled 0 5 (node.cast (int signed_int) (spelled 3 5 (node.unary Rattle.cx_ctree.specs.declared.expr.Unary.TheVariants.Neg (leaf 4 2))))) 5
unfolding cond_at made enclosed_at type_at tail_at base_at skip_at low_type
cast_read = refl

-- the span of the difference has the parentheses, that of its first operand has not
difference_read : cond_at nothing 100 9 in_parentheses ≡ read (spelled 0 5 (node.binary b.Sub (leaf 1 0) (leaf 4 2))) 5
unfolding cond_at made enclosed_at type_at tail_at base_at skip_at low_type
difference_read = refl

abbrev cast_of_name : List Lexeme
cast_of_name = mark 0 p.OpenParen ∷ name 1 0 ∷ mark 2 p.CloseParen ∷ name 3 2 ∷ []

cast_spelled : IsCond one_type cast_of_name (spelled 0 4 (node.cast (int signed_int) (leaf 3 2)))
cast_spelled =
    let t : IsType one_type (name 1 0 ∷ []) (int signed_int) = type_base no_skip (type_name (name 1 0) 0 (int signed_int) refl refl) no_skip in
    to_top (lower (lower (operand (casted (mark 0 p.OpenParen) (mark 2 p.CloseParen) refl t refl (a_name one_type (name 3 2) 2 refl refl)))))

-- ---- sizeof(int) * p is a product, and sizeof (p) has a value's size

abbrev product : List Lexeme
product = word 0 k.SizeOf ∷ mark 1 p.OpenParen ∷ word 2 k.Int ∷ mark 3 p.CloseParen ∷ mark 4 p.Star ∷ name 5 1 ∷ []

abbrev product_tree : ExprTree
product_tree = spelled 0 6 (node.binary b.Mul (spelled 0 4 (node.size_of (int signed_int))) (leaf 5 1))

product_read : cond_at nothing 120 9 product ≡ read product_tree 6
unfolding cond_at made enclosed_at type_at tail_at base_at skip_at low_type words_at is_listed int_of
product_read = refl

int_alone : AreIntWords (word 2 k.Int ∷ []) signed_int
unfolding is_listed
int_alone = record { counts = record no_word { ints = 1 }; counted_are = refl; some_word = refl; listed = refl; size = refl; sign = refl }

int_spelled : IsType nothing (word 2 k.Int ∷ []) (int signed_int)
int_spelled = type_base {b = word 2 k.Int ∷ []} no_skip (int_words signed_int int_alone) no_skip

product_spelled : IsCond nothing product product_tree
product_spelled =
    let size : IsCast nothing (word 0 k.SizeOf ∷ mark 1 p.OpenParen ∷ word 2 k.Int ∷ mark 3 p.CloseParen ∷ []) (spelled 0 4 (node.size_of (int signed_int))) = no_cast (size_of_type (word 0 k.SizeOf) (mark 1 p.OpenParen) (mark 3 p.CloseParen) refl refl int_spelled refl) in
    to_top (lower (joined (mark 4 p.Star) p.Star b.Mul (lower (operand size)) refl refl (operand (a_name nothing (name 5 1) 1 refl refl))))

size_read : cond_at nothing 100 9 (word 0 k.SizeOf ∷ mark 1 p.OpenParen ∷ name 2 1 ∷ mark 3 p.CloseParen ∷ []) ≡ read (spelled 0 4 (node.size_of_expr (leaf 2 1))) 4
unfolding cond_at made enclosed_at type_at tail_at base_at skip_at low_type
size_read = refl

-- ---- words of an integer type in another order, a qualifier and a star

type_read : type_at nothing 9 (word 0 k.Int ∷ word 1 k.Long ∷ word 2 k.Unsigned ∷ word 3 k.Skipped ∷ mark 4 p.Star ∷ mark 5 p.Comma ∷ []) ≡ Some (record { tree = pointer (int (record { size = 8; signed = false; known = refl })); past = 5; rest = mark 5 p.Comma ∷ [] })
unfolding type_at tail_at base_at skip_at low_type words_at is_listed int_of
type_read = refl

-- a second unsigned is no word of the type
type_stops : type_at nothing 9 (word 0 k.Unsigned ∷ word 1 k.Unsigned ∷ []) ≡ Some (record { tree = int (record { size = 4; signed = false; known = refl }); past = 1; rest = word 1 k.Unsigned ∷ [] })
unfolding type_at tail_at base_at skip_at low_type words_at is_listed int_of
type_stops = refl
