-- The blocks of the code of a function keep what is asked, so constants are small and calls have their arguments.
use Rattle.std.proofs.Common.{ℕ, ℤ, ◌+◌, ◌<◌, Bool, false, List, [], length, is_some, arith}
use Rattle.std.specs.Prelude.{All}
use Rattle.std.proofs.lemmas.List.Elements.{All-nil}
use Rattle.cx_base.specs.declared.token.Token.{Token}
use Rattle.cx_cmean.specs.Statements.{closing_brace}
use Rattle.cx_ctree.specs.Decls.{TypedTree}
use Rattle.cx_ctree.specs.Stmts.{stmt_span}
use Rattle.cx_ctree.specs.Types.{TypeTree, void, int, pointer, array, tag}
use Rattle.cx_gline.proofs.Bounds.{size_few, unit_few, offset_few, few_small, converted_small}
use Rattle.cx_gline.proofs.Keeping.{LineKeeps, EndKeeps, Allows, BlockKeeps, blocks_keep}
use Rattle.cx_gline.proofs.Labels.{label_small}
use Rattle.cx_gline.proofs.Statements.{keeps_stmt}
use Rattle.cx_gline.specs.Inside.{stmt_numbers, returns_in}
use Rattle.cx_gline.specs.Law.{EnumerationsSmall, ConstantsAreSmall, CallsHaveArguments}
use Rattle.cx_gline.specs.Lines.{IsSmall, ConstantSmall, CallAgrees}
use Rattle.cx_goto.specs.Trees.{InstrTree, const, copy, unset, global, bin, conv, load, store, call, LineTree}
use Rattle.cx_lcode.specs.Lowered.{last_end, setting_of, lowered}
use Rattle.cx_lcode.specs.Places.{stmt_last}
use Rattle.cx_lcode.specs.Statements.{stmt_code}
use Rattle.cx_lright.specs.Fine.{FunctionFine}
use Rattle.cx_abi.specs.Recursion.{IsByMembers}
use Rattle.cx_sname.specs.File.{Declared}

-- where the open block of the whole body is below m, blocks keep what is asked
pub body_keeps : (d : Declared) (C : ℤ → Type 0) (R : Bool → Type 0) (tokens : List Token) (f : TypedTree) (m : ℕ) → Allows d C → FunctionFine d f → All C (stmt_numbers f.body) → All (λ v. R (is_some v)) (returns_in f.body)
    → EndKeeps R m (last_end f.sig.result) → stmt_last f.body 0 < m → All (BlockKeeps d C R m) (lowered d tokens f).blocks
body_keeps d C R tokens f m ok fine h g last lt =
    blocks_keep d C R m (stmt_code (setting_of d tokens f) 0 0 0 f.body []) (length f.locals) [] (last_end f.sig.result) (closing_brace (stmt_span f.body)) (All-nil (λ (l : LineTree). LineKeeps d C l.instr))
    (keeps_stmt (setting_of d tokens f) C R m ok (length f.locals) false false f.body fine.1 h g 0 0 0 [] lt (omega (arith, lt)) (omega (arith, lt)) tt) last

-- ---- what is asked of lines alone

abbrev Whatever : Bool → Type 0
Whatever z = Unit {0}

any_end : (t : TypeTree) (m : ℕ) → EndKeeps Whatever m (last_end t)
any_end void m = tt
any_end (int t) m = tt
any_end (pointer t) m = tt
any_end (array t n) m = tt
any_end (tag k) m = tt

lines_keep : (d : Declared) (C : ℤ → Type 0) (tokens : List Token) (f : TypedTree) → Allows d C → FunctionFine d f → All C (stmt_numbers f.body) → All (BlockKeeps d C Whatever (stmt_last f.body 0 + 1)) (lowered d tokens f).blocks
lines_keep d C tokens f ok fine h = body_keeps d C Whatever tokens f (stmt_last f.body 0 + 1) ok fine h (λ k v lt. tt) (any_end f.sig.result (stmt_last f.body 0 + 1)) (omega arith)

small_allowed : (d : Declared) → IsByMembers d.known.tags → EnumerationsSmall d.known → Allows d IsSmall
small_allowed d by few = record {
  nought = few_small 0 (omega arith);
  one = few_small 1 (omega arith);
  size = λ t. few_small _ (size_few d t);
  unit = λ t. few_small _ (unit_few d t);
  offset = λ t name. few_small _ (offset_few d by t name);
  wraps = converted_small;
  label = label_small d few;
}

constant_small : (d : Declared) (i : InstrTree) → LineKeeps d IsSmall i → ConstantSmall i
constant_small d (const x v) h = h
constant_small d (copy x y) h = tt
constant_small d (unset x) h = tt
constant_small d (global x name) h = tt
constant_small d (bin x op t y z) h = tt
constant_small d (conv x t) h = tt
constant_small d (load x t a) h = tt
constant_small d (store t a x) h = tt
constant_small d (call x name args p) h = tt

pub constants_are_small : ConstantsAreSmall
constants_are_small d tokens f by fine small =
    let h = lines_keep d IsSmall tokens f (small_allowed d by small.declared) fine small.body in
    λ k b lt j l within. constant_small d _ ((h k b lt).lines j l within)

abbrev pub Any : ℤ → Type 0
Any v = Unit {0}

pub any_allowed : (d : Declared) → Allows d Any
any_allowed d = record { nought = tt; one = tt; size = λ t. tt; unit = λ t. tt; offset = λ t name. tt; wraps = λ t v. tt; label = λ e h. tt }

call_agrees : (d : Declared) (i : InstrTree) → LineKeeps d Any i → CallAgrees d i
call_agrees d (const x v) h = tt
call_agrees d (copy x y) h = tt
call_agrees d (unset x) h = tt
call_agrees d (global x name) h = tt
call_agrees d (bin x op t y z) h = tt
call_agrees d (conv x t) h = tt
call_agrees d (load x t a) h = tt
call_agrees d (store t a x) h = tt
call_agrees d (call x name args p) h = h

pub calls_have_arguments : CallsHaveArguments
calls_have_arguments d tokens f fine =
    let h = lines_keep d Any tokens f (any_allowed d) fine (λ k v lt. tt) in
    λ k b lt j l within. call_agrees d _ ((h k b lt).lines j l within)
