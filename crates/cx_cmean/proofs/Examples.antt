-- The meaning of C on small expressions and bodies.
use Rattle.std.proofs.Common.{◌≡◌, refl, ℕ, arith, List, [], ◌∷◌, Some, None, true, false}
use Rattle.std.specs.Prelude.{ℤ, pos, negsuc, ◌==◌, ◌+◌}
use Rattle.cx_base.specs.Number.{half_of}
use Rattle.cx_base.specs.declared.fault.FaultKind.TheVariants as fault
use Rattle.cx_base.specs.declared.memory.Region.{Region}
use Rattle.cx_base.specs.declared.span.Span.{Span}
use Rattle.cx_cells.specs.declared.script.Change.{Change}
use Rattle.cx_ctree.specs.Conversions.{signed_int, unsigned_int, unsigned_long}
use Rattle.cx_ctree.specs.Exprs.{ExprTree, node, num, local, binary, deref, value, set, update}
use Rattle.cx_ctree.specs.Stmts.{StmtTree, stmt, StmtKindTree, block, effect, while, switch, break, return, StmtTrees, no_stmt, also_stmt, no_group, also_group}
use Rattle.cx_ctree.specs.Types.{TypeTree, void, int, pointer}
use Rattle.cx_ctree.specs.declared.expr.Binary.{Binary}
use Rattle.cx_ctree.specs.declared.expr.Binary.TheVariants as b
use Rattle.cx_cmean.specs.Expressions.{eval}
use Rattle.cx_cmean.specs.Program.{Program}
use Rattle.cx_cmean.specs.Statements.{Ran, stops, closing_brace, exec_function}
use Rattle.cx_world.specs.World.{World, Event, reads, writes, gives, halts, returned, faulted, turns_spent, others}

abbrev at : ℕ → Span
at n = record { first = n; past = n + 1; ordered = omega arith }

-- regions of type 7 are shared
abbrev program : Program
program = record {
  unit = record { known = record { tags = []; typedefs = []; consts = []; enums = [] }; decls = [] };
  oracle = record {
    is_shared = λ n. n == 7;
    is_memory = λ rs. true;
    holds = λ rs i. true;
    may_call = λ name args rs. false;
    may_answer = λ name args rs given after. true;
    is_allocator = λ name. false;
    asked = λ name pointee args. None;
    global = λ name. None;
  };
}

abbrev world : List Region → List Change → List Event → World
world rs cs log = record { memory = rs; script = record { answers = []; blocks = []; changes = cs }; log = log }

abbrev still : World
still = world [] [] []

-- ---- expressions

abbrev number : ℤ → ExprTree
number v = node (at 1) (int signed_int) (num v signed_int)

abbrev unsigned : ℤ → ExprTree
unsigned v = node (at 1) (int unsigned_int) (num v unsigned_int)

abbrev ints : Binary → ExprTree → ExprTree → ExprTree
ints op x y = node (at 2) (int signed_int) (binary op x y)

abbrev gives_number : ExprTree → ℤ → Type 0
gives_number e v = eval program [] e still ≡ gives v still

quotient_toward_zero : gives_number (ints b.Div (number (negsuc 6)) (number (pos 2))) (negsuc 2)
unfolding half_of
quotient_toward_zero = refl

remainder_of_the_dividend : gives_number (ints b.Rem (number (negsuc 6)) (number (pos 2))) (negsuc 0)
unfolding half_of
remainder_of_the_dividend = refl

sum_wraps : gives_number (ints b.Add (number (pos 2147483647)) (number (pos 1))) (negsuc 2147483647)
unfolding half_of
sum_wraps = refl

unsigned_wraps : gives_number (node (at 2) (int unsigned_int) (binary b.Sub (unsigned (pos 0)) (number (pos 1)))) (pos 4294967295)
unfolding half_of
unsigned_wraps = refl

-- -1 is greater than 1u
compared_as_unsigned : gives_number (ints b.Gt (number (negsuc 0)) (unsigned (pos 1))) (pos 1)
unfolding half_of
compared_as_unsigned = refl

least_by_minus_one : eval program [] (ints b.Div (number (negsuc 2147483647)) (number (negsuc 0))) still ≡ halts (faulted fault.Divisor (at 2)) still
unfolding half_of
least_by_minus_one = refl

shift_by_the_width : eval program [] (ints b.Shl (number (pos 1)) (number (pos 32))) still ≡ halts (faulted fault.Shift (at 2)) still
unfolding half_of
shift_by_the_width = refl

-- 0 && 1 / 0
right_side_not_needed : gives_number (ints b.And (number (pos 0)) (ints b.Div (number (pos 1)) (number (pos 0)))) (pos 0)
unfolding half_of
right_side_not_needed = refl

unset : eval program (None ∷ []) (node (at 5) (int signed_int) (local 0)) still ≡ halts (faulted fault.Unset (at 5)) still
unset = refl

-- ---- memory

abbrev region : ℕ → ℕ → Region
region name n = record { base = 4096; name = name; args = []; bytes = n ∷ 0 ∷ 0 ∷ 0 ∷ 0 ∷ 0 ∷ 0 ∷ 0 ∷ [] }

abbrev rewrite : ℕ → Change
rewrite n = record { rewrites = record { region = 0; bytes = n ∷ 0 ∷ 0 ∷ 0 ∷ 0 ∷ 0 ∷ 0 ∷ 0 ∷ [] } ∷ []; added = [] }

abbrev long_pointer : TypeTree
long_pointer = pointer (int unsigned_long)

abbrev star : ExprTree
star = node (at 3) (int unsigned_long) (deref (node (at 4) long_pointer (local 0)))

abbrev read_of : ℕ → ℕ → Event
read_of name n = reads (record { span = at 3; address = pos 4096; size = 8; memory = region name n ∷ [] })

abbrev write_of : ℕ → ℕ → Event
write_of name n = writes (record { span = at 3; address = pos 4096; size = 8; memory = region name n ∷ [] })

-- *p + *p, where others change the region between the two reads
two_reads :
    eval program (Some (pos 4096) ∷ []) (node (at 2) (int unsigned_long) (binary b.Add star star)) (world (region 7 1 ∷ []) (rewrite 2 ∷ rewrite 3 ∷ []) [])
    ≡ gives (pos 5) (world (region 7 3 ∷ []) [] (read_of 7 2 ∷ read_of 7 3 ∷ []))
unfolding half_of others
two_reads = refl

-- ---- bodies

abbrev stmts : List StmtTree → StmtTrees
stmts [] = no_stmt
stmts (s ∷ ss) = also_stmt s (stmts ss)

abbrev st : StmtKindTree → StmtTree
st k = stmt (at 9) k

abbrev whole : Span
whole = record { first = 0; past = 9; ordered = omega arith }

abbrev runs : TypeTree → List TypeTree → List StmtTree → List ℤ → ℕ → World → Ran
runs r ls body args turns w = exec_function program (record { sig = record { name = 0; result = r; params = [] }; name_span = at 0; locals = ls; body = stmt whole (block (stmts body)) }) args turns w

abbrev x : ExprTree
x = node (at 6) (int signed_int) (local 0)

abbrev assign : ExprTree → ExprTree → StmtTree
assign l e = st (effect (set l (value e) (at 7)))

-- while (x < 3) x = x + 1; return x;
abbrev counting : List StmtTree
counting = st (while (ints b.Lt x (number (pos 3))) (assign x (ints b.Add x (number (pos 1))))) ∷ st (return (Some (value x))) ∷ []

counted : runs (int signed_int) (int signed_int ∷ []) counting (pos 1 ∷ []) 2 still ≡ stops (returned (Some (pos 3))) 0 still
unfolding half_of others
counted = refl

spent : runs (int signed_int) (int signed_int ∷ []) counting (pos 1 ∷ []) 1 still ≡ stops turns_spent 0 still
unfolding half_of others
spent = refl

-- *p += 5, where others change the region before the read, and leave it before the write
added : runs void (long_pointer ∷ []) (st (effect (update b.Add star (number (pos 5)) (at 7))) ∷ []) (pos 4096 ∷ []) 0 (world (region 7 1 ∷ []) (rewrite 2 ∷ []) [])
    ≡ stops (returned None) 0 (world (region 7 7 ∷ []) [] (read_of 7 2 ∷ write_of 7 7 ∷ []))
unfolding half_of others
added = refl

-- switch (x) { case 1: x = 5; case 2: x = x + 1; break; default: x = 9; } return x;
abbrev switching : List StmtTree
switching =
    st (switch x (also_group (Some (number (pos 1)) ∷ []) (stmts (assign x (number (pos 5)) ∷ []))
    (also_group (Some (number (pos 2)) ∷ []) (stmts (assign x (ints b.Add x (number (pos 1))) ∷ st break ∷ []))
    (also_group (None ∷ []) (stmts (assign x (number (pos 9)) ∷ [])) no_group))))
    ∷ st (return (Some (value x))) ∷ []

first_group : runs (int signed_int) (int signed_int ∷ []) switching (pos 1 ∷ []) 0 still ≡ stops (returned (Some (pos 6))) 0 still
unfolding half_of others
first_group = refl

second_group : runs (int signed_int) (int signed_int ∷ []) switching (pos 2 ∷ []) 0 still ≡ stops (returned (Some (pos 3))) 0 still
unfolding half_of others
second_group = refl

default_group : runs (int signed_int) (int signed_int ∷ []) switching (pos 7 ∷ []) 0 still ≡ stops (returned (Some (pos 9))) 0 still
unfolding half_of others
default_group = refl

-- the end of a function with a result
missing : runs (int signed_int) (int signed_int ∷ []) [] (pos 7 ∷ []) 0 still ≡ stops (faulted fault.End (closing_brace whole)) 0 still
missing = refl

-- return x converts to the type of the result
converted_result : runs (int unsigned_long) (int signed_int ∷ []) (st (return (Some (value x))) ∷ []) (negsuc 0 ∷ []) 0 still ≡ stops (returned (Some (pos 18446744073709551615))) 0 still
unfolding half_of others
converted_result = refl
