-- The block that is open at the end of a function's body is among the blocks.
use Rattle.std.proofs.Common.{ℕ, zero, suc, ◌≡◌, ◌<◌, false, List, [], ◌∷◌, length, Some, None, refl, arith}
use Rattle.std.specs.Prelude.{slice_get}
use Rattle.cx_base.specs.declared.token.Token.{Token}
use Rattle.cx_cmean.specs.Program.{Program}
use Rattle.cx_cmean.specs.Statements.{closing_brace}
use Rattle.cx_ctree.specs.Decls.{TypedTree}
use Rattle.cx_ctree.specs.Stmts.{stmt_span}
use Rattle.cx_goto.specs.Trees.{BlockTree}
use Rattle.cx_lcode.specs.Lowered.{last_end, lowered}
use Rattle.cx_lcode.specs.Places.{stmt_last}
use Rattle.cx_lcode.specs.Statements.{stmt_code}
use Rattle.cx_lcode.specs.Lowered.{setting_of}
use Rattle.cx_lright.proofs.Afters.{stmt_rest}
use Rattle.cx_lright.proofs.Machine.{Coded}
use Rattle.cx_lright.proofs.Placed.{placed}
use Rattle.cx_lright.specs.Fine.{FunctionFine}
use Rattle.cx_sname.specs.File.{Declared}
use Rattle.cx_world.specs.Oracle.{Oracle}

get_below : (bs : List BlockTree) (i : ℕ) (b : BlockTree) → slice_get bs i ≡ Some b → i < length bs
get_below [] i b e = absurd cc
get_below (x ∷ bs) zero b e = omega arith
get_below (x ∷ bs) (suc i) b e = let h = get_below bs i b e in omega (arith, h)

-- where code stands does not depend on what a type file says
nothing_told : Oracle
nothing_told = record {
  is_shared = λ r. false;
  is_memory = λ m. false;
  holds = λ m r. false;
  may_call = λ name args before. false;
  may_answer = λ name args before given after. false;
  is_allocator = λ name. false;
  asked = λ name pointee args. None;
  global = λ name. None;
}

pub last_is_there : (d : Declared) (tokens : List Token) (f : TypedTree) → FunctionFine d f → stmt_last f.body 0 < length (lowered d tokens f).blocks
last_is_there d tokens f fine =
    let p : Program = record { unit = d; oracle = nothing_told } in let r = f.sig.result in let s = closing_brace (stmt_span f.body) in let blocks = (lowered d tokens f).blocks in
    let c : Coded = record { program = p; blocks = blocks; last_end = last_end r; last_span = s } in
    let h = placed p (stmt_code (setting_of d tokens f) 0 0 0 f.body []) blocks [] (length f.locals) [] (last_end r) s refl in
    let k = stmt_rest c tokens r (length f.locals) false false f.body fine.1 0 0 0 0 [] h in
    get_below blocks (stmt_last f.body 0) k.1.0 k.1.1
