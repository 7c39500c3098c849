-- How many blocks and locals the code of a function has.
use Rattle.std.proofs.Common.{◌≡◌, ℕ, ◌+◌, false, List, [], length, refl, arith}
use Rattle.std.specs.Prelude.{max}
use Rattle.cx_base.specs.declared.token.Token.{Token}
use Rattle.cx_cmean.specs.Statements.{closing_brace}
use Rattle.cx_ctree.specs.Decls.{TypedTree}
use Rattle.cx_ctree.specs.Stmts.{stmt_span}
use Rattle.cx_ctree.specs.Types.{TypeTree, void, int, pointer, array, tag}
use Rattle.cx_lcode.specs.Items.{Item}
use Rattle.cx_lcode.specs.Lowered.{setting_of, body_blocks, last_end, end_past, blocks_past}
use Rattle.cx_lcode.specs.Needs.{stmt_need}
use Rattle.cx_lcode.specs.Starts.{stmt_starts}
use Rattle.cx_lcode.specs.Statements.{stmt_code}
use Rattle.cx_lcount.proofs.Counting.{starts_in, blocks_are_started, of_stmt}
use Rattle.cx_lcount.specs.Numbers.{BlocksCounted, LocalsCounted}
use Rattle.cx_lright.proofs.Past.{past, blocks_are, past_stmt}
use Rattle.cx_sname.specs.File.{Declared}

-- the items of a function's body
abbrev pub items_of : Declared → List Token → TypedTree → List Item
items_of d tokens f = stmt_code (setting_of d tokens f) 0 0 0 f.body []

end_low : (t : TypeTree) → end_past (last_end t) ≡ 0
end_low void = refl
end_low (int t) = refl
end_low (pointer t) = refl
end_low (array t n) = refl
end_low (tag t) = refl

locals_of : (p q e L n : ℕ) → p ≡ max (max 0 q) e → e ≡ 0 → max L q ≡ max (L + n) 0 → max L p ≡ L + n
locals_of p q e L n a b c = omega arith

pub locals_are : LocalsCounted
locals_are d tokens f fine =
    let z = setting_of d tokens f in let s = closing_brace (stmt_span f.body) in
    let b = blocks_are (items_of d tokens f) (length f.locals) [] (last_end f.sig.result) s in let p = past_stmt z false false f.body fine.1 0 0 0 [] in
    locals_of (blocks_past (body_blocks z f)) (past (items_of d tokens f)) (end_past (last_end f.sig.result)) (length f.locals) (stmt_need d f.body) b (end_low f.sig.result) p

blocks_with : (a q n : ℕ) → a ≡ q + 1 → q ≡ n + 0 → a ≡ n + 1
blocks_with a q n e f = omega arith

pub blocks_are_counted : BlocksCounted
blocks_are_counted d tokens f fine =
    let z = setting_of d tokens f in let s = closing_brace (stmt_span f.body) in
    blocks_with (length (body_blocks z f)) (starts_in (items_of d tokens f)) (stmt_starts f.body) (blocks_are_started (items_of d tokens f) (length f.locals) [] (last_end f.sig.result) s) (of_stmt (length f.locals) z false false f.body fine.1 0 0 0 [])
