-- What has been made is the code, and which limits it passes.
use Rattle.std.proofs.Common.{◌≡◌, ℕ, ◌+◌, ◌<◌, ◌≤◌, Bool, true, false, List, [], ◌∷◌, ◌++◌, map, length, Option, Some, None, refl, ap, sym, subst, ◌∙◌, arith, length-append}
use Rattle.std.specs.Prelude.{nat_le, if◌then◌else◌}
use Rattle.std.proofs.lemmas.Bool.{lt-leb, le-leb, leb-true, leb-false}
use Rattle.std.proofs.lemmas.List.{map-append, length-map}
use Rattle.cx_base.specs.declared.number.CInt.{CInt}
use Rattle.cx_base.specs.declared.span.Span.{Span}
use Rattle.cx_base.specs.declared.token.Token.{Token}
use Rattle.cx_cmean.specs.Statements.{closing_brace}
use Rattle.cx_ctree.specs.Decls.{TypedTree, typed_tree}
use Rattle.cx_ctree.specs.Stmts.{StmtTree, StmtKindTree, GroupTree, kind_step, group_step, stmt_step, stmt_span, stmt_tree}
use Rattle.cx_ctree.specs.Types.{type_tree}
use Rattle.cx_ctree.specs.declared.decl.Typed.{Typed}
use Rattle.cx_ctree.specs.declared.stmt.Stmt.{Stmt, out-Stmt}
use Rattle.cx_ctree.specs.declared.stmt.StmtKind.TheFolds.{fold_out-Stmt}
use Rattle.cx_ctree.specs.declared.unit.Unit.{Unit}
use Rattle.cx_lpart.specs.Settings.{setting}
use Rattle.cx_goto.specs.Trees.{LineTree, BlockTree, CodeTree, line_tree, block_tree, code_tree}
use Rattle.cx_goto.specs.declared.code.Block.{Block}
use Rattle.cx_goto.specs.declared.code.Code.{Code}
use Rattle.cx_goto.specs.declared.code.End.{End}
use Rattle.cx_lcode.specs.Items.{Item, line, start, blocks_of}
use Rattle.cx_lcode.specs.Lowered.{last_end, lowered, setting_of, result_of}
use Rattle.cx_lcode.specs.Needs.{stmt_need}
use Rattle.cx_lcode.specs.Starts.{stmt_starts}
use Rattle.cx_lcode.specs.Statements.{Setting, stmt_code}
use Rattle.cx_lcount.proofs.Numbers.{items_of, locals_are, blocks_are_counted}
use Rattle.cx_lemit.specs.Made.{lines_in, made, Emits}
use Rattle.cx_lemit.specs.declared.builder.Builder.{Builder}
use Rattle.cx_lower.specs.Limits.{lines_of, first_above, first_passed, TellsOf, Tells, TellsOfNumbers, TellsOfLines}
use Rattle.cx_lower.specs.declared.fault.LimitKind.TheVariants.{Locals, Blocks, Instructions}
use Rattle.cx_lower.specs.declared.fault.LowerFault.{LowerFault}
use Rattle.cx_lright.proofs.Placed.{code_is_right}
use Rattle.cx_lright.specs.Fine.{FunctionFine}
use Rattle.cx_lright.specs.Right.{GivesNumbers, DoesAs}
use Rattle.cx_cmean.specs.Program.{Program}
use Rattle.cx_sname.specs.File.{Declared, declared_of}

-- ---- the counts of the code

pub lines_are : (is : List Item) (keep : ℕ) (done : List LineTree) (e : End) (s : Span) → lines_of (blocks_of keep done is e s) ≡ length done + lines_in is
lines_are [] keep done e s = refl
lines_are (line l ∷ is) keep done e s = let h = lines_are is keep (done ++ l ∷ []) e s in let a = length-append done (l ∷ []) in omega (arith, h, a)
lines_are (start x q k ∷ is) keep done e s = let h = lines_are is k [] e s in omega (arith, h)

pub lines_number : (d : Declared) (tokens : List Token) (f : TypedTree) → lines_of (lowered d tokens f).blocks ≡ lines_in (items_of d tokens f)
lines_number d tokens f = let h = lines_are (items_of d tokens f) (length f.locals) [] (last_end f.sig.result) (closing_brace (stmt_span f.body)) in omega (arith, h)

-- ---- limits

pub none_above : (a b c : ℕ) → a ≤ 128 → b ≤ 512 → c ≤ 4096 → first_above a b c ≡ None
none_above a b c x y z = let e = le-leb a 128 x in let f = le-leb b 512 y in let g = le-leb c 4096 z in cc

pub locals_above : (a b c : ℕ) → 128 < a → first_above a b c ≡ Some (record { kind = Locals; limit = 128 })
locals_above a b c x = let e = lt-leb a 128 x in cc

pub blocks_above : (a b c : ℕ) → a ≤ 128 → 512 < b → first_above a b c ≡ Some (record { kind = Blocks; limit = 512 })
blocks_above a b c x y = let e = le-leb a 128 x in let f = lt-leb b 512 y in cc

pub lines_above : (a b c : ℕ) → a ≤ 128 → b ≤ 512 → 4096 < c → first_above a b c ≡ Some (record { kind = Instructions; limit = 4096 })
lines_above a b c x y z = let e = le-leb a 128 x in let f = le-leb b 512 y in let g = lt-leb c 4096 z in cc

-- ---- what has been made

both_at : (z : Bool) (m : ℕ) (xs ys : List BlockTree) → nat_le m 4096 ≡ z → Some xs ≡ (if z then Some ys else None) → (m ≤ 4096) × (xs ≡ ys)
both_at true m xs ys e same = (leb-true m 4096 e, cc)
both_at false m xs ys e same = cc

both_are : (n m : ℕ) (xs ys : List BlockTree) → n ≤ 4096 → (if nat_le n 4096 then Some xs else None) ≡ (if nat_le m 4096 then Some ys else None) → (m ≤ 4096) × (xs ≡ ys)
both_are n m xs ys few same = let e = le-leb n 4096 few in both_at (nat_le m 4096) m xs ys refl (rw e at same)

none_at : (z : Bool) (m : ℕ) (ys : List BlockTree) → nat_le m 4096 ≡ z → None ≡ (if z then Some ys else None) → 4096 < m
none_at true m ys e same = absurd (cc)
none_at false m ys e same = leb-false m 4096 e

none_are : (n m : ℕ) (xs ys : List BlockTree) → 4096 < n → (if nat_le n 4096 then Some xs else None) ≡ (if nat_le m 4096 then Some ys else None) → 4096 < m
none_are n m xs ys many same = let e = lt-leb n 4096 many in none_at (nat_le m 4096) m ys refl (rw e at same)

-- the blocks with the open one are those of all items
pub whole_of : (a b : Builder) (code : List Item → List Item) (e : End) (s : Span) (k : Block) → a.blocks ≡ [] → a.lines ≡ [] → a.count ≡ 0 → Emits a b code → b.count ≤ 4096 → k.keep ≡ b.keep → k.lines ≡ b.lines → k.end ≡ e → k.span ≡ s
    → (lines_in (code []) ≤ 4096) × (map block_tree (b.blocks ++ k ∷ []) ≡ blocks_of a.keep [] (code []) e s)
unfolding made
whole_of a b code e s k ab al ac m few kk kl ke ks =
    let r = both_are (b.count + 0) (a.count + lines_in (code [])) (map block_tree b.blocks ++ blocks_of b.keep (map line_tree b.lines) [] e s) (map block_tree a.blocks ++ blocks_of a.keep (map line_tree a.lines) (code []) e s) (omega (arith, few)) (m.by [] e s) in
    let one : block_tree k ≡ record { keep = b.keep; lines = map line_tree b.lines; end = e; span = s } = cc in
    let count = r.0 in let blocks = r.1 in (
      omega (arith, ac, count),
      map-append block_tree b.blocks (k ∷ []) ∙ ap (λ x. map block_tree b.blocks ++ x ∷ []) one ∙ blocks ∙ ap (λ bs. map block_tree bs ++ blocks_of a.keep (map line_tree a.lines) (code []) e s) ab ∙ ap (λ ls. blocks_of a.keep (map line_tree ls) (code []) e s) al,
    )

-- there were too many lines
pub many_of : (a b : Builder) (code : List Item → List Item) (e : End) (s : Span) → a.count ≡ 0 → Emits a b code → 4096 < b.count → 4096 < lines_in (code [])
unfolding made
many_of a b code e s ac m many =
    let r = none_are (b.count + 0) (a.count + lines_in (code [])) (map block_tree b.blocks ++ blocks_of b.keep (map line_tree b.lines) [] e s) (map block_tree a.blocks ++ blocks_of a.keep (map line_tree a.lines) (code []) e s) (omega (arith, many)) (m.by [] e s) in
    omega (arith, ac, r)

-- ---- the blocks of a function

pub setting_is : (u : Unit) (t : Typed) (n : ℕ) → n ≡ length t.locals → setting u t.sig.result n ≡ setting_of (declared_of u) u.tokens (typed_tree t)
setting_is u t n e =
    let served : n ≡ length (map type_tree t.locals) = e ∙ sym (length-map t.locals type_tree) in
    ap (λ (k : ℕ). setting u t.sig.result k) served

pub body_span : (s : Stmt) → (out-Stmt s).span ≡ stmt_span (stmt_tree s)
body_span s = sym (ap stmt_span (fold_out-Stmt StmtKindTree GroupTree StmtTree kind_step group_step stmt_step s))

pub blocks_made : (d : Declared) (tokens : List Token) (f : TypedTree) (z : Setting) (a b : Builder) (k : Block) (bs : List Block) → z ≡ setting_of d tokens f
    → a.keep ≡ length f.locals → a.blocks ≡ [] → a.lines ≡ [] → a.count ≡ 0 → Emits a b (stmt_code z 0 0 0 f.body) → b.count ≤ 4096
    → k.keep ≡ b.keep → k.lines ≡ b.lines → k.end ≡ last_end f.sig.result → k.span ≡ closing_brace (stmt_span f.body) → bs ≡ b.blocks ++ k ∷ []
    → (lines_of (lowered d tokens f).blocks ≤ 4096) × (map block_tree bs ≡ (lowered d tokens f).blocks)
blocks_made d tokens f z a b k bs ez ak ab al ac m few kk kl ke ks eb =
    let r = whole_of a b (stmt_code z 0 0 0 f.body) (last_end f.sig.result) (closing_brace (stmt_span f.body)) k ab al ac m few kk kl ke ks in
    let n = lines_number d tokens f in let few_lines = r.0 in
    let same : lines_in (stmt_code z 0 0 0 f.body []) ≡ lines_in (items_of d tokens f) = ap (λ y. lines_in (stmt_code y 0 0 0 f.body [])) ez in (
      omega (arith, n, few_lines, same),
      ap (map block_tree) eb ∙ r.1 ∙ ap (λ y. blocks_of a.keep [] (stmt_code y 0 0 0 f.body []) (last_end f.sig.result) (closing_brace (stmt_span f.body))) ez
          ∙ ap (λ n. blocks_of n [] (items_of d tokens f) (last_end f.sig.result) (closing_brace (stmt_span f.body))) ak,
    )

pub too_many_lines : (d : Declared) (tokens : List Token) (f : TypedTree) (z : Setting) (a b : Builder) → z ≡ setting_of d tokens f → a.count ≡ 0 → Emits a b (stmt_code z 0 0 0 f.body) → 4096 < b.count → 4096 < lines_of (lowered d tokens f).blocks
too_many_lines d tokens f z a b ez ac m many =
    let r = many_of a b (stmt_code z 0 0 0 f.body) (last_end f.sig.result) (closing_brace (stmt_span f.body)) ac m many in let n = lines_number d tokens f in
    let same : lines_in (stmt_code z 0 0 0 f.body []) ≡ lines_in (items_of d tokens f) = ap (λ y. lines_in (stmt_code y 0 0 0 f.body [])) ez in omega (arith, n, r, same)

-- ---- the whole code

pub tells_numbers : (d : Declared) (tokens : List Token) (f : TypedTree) (fault : LowerFault) → FunctionFine d f → TellsOfNumbers (length f.locals + stmt_need d f.body) (stmt_starts f.body + 1) fault → Tells (lowered d tokens f) fault
tells_numbers d tokens f fault fine h =
    subst (λ x. TellsOf (first_above x (length (lowered d tokens f).blocks) (lines_of (lowered d tokens f).blocks)) fault) (sym (locals_are d tokens f fine))
    (subst (λ x. TellsOf (first_above (length f.locals + stmt_need d f.body) x (lines_of (lowered d tokens f).blocks)) fault) (sym (blocks_are_counted d tokens f fine)) (h (lines_of (lowered d tokens f).blocks)))

pub tells_lines : (d : Declared) (tokens : List Token) (f : TypedTree) (fault : LowerFault) → FunctionFine d f → length f.locals + stmt_need d f.body ≤ 128 → stmt_starts f.body < 512 → TellsOfLines (lines_of (lowered d tokens f).blocks) fault → Tells (lowered d tokens f) fault
tells_lines d tokens f fault fine few_locals few_blocks h =
    let l = locals_are d tokens f fine in let b = blocks_are_counted d tokens f fine in
    h (lowered d tokens f).locals (length (lowered d tokens f).blocks) (omega (arith, l)) (omega (arith, b))

pub none_passed : (d : Declared) (tokens : List Token) (f : TypedTree) (c : CodeTree) → FunctionFine d f → c ≡ lowered d tokens f → length f.locals + stmt_need d f.body ≤ 128 → stmt_starts f.body < 512 → lines_of (lowered d tokens f).blocks ≤ 4096 → first_passed c ≡ None
none_passed d tokens f c fine same few_locals few_blocks few_lines =
    let l = locals_are d tokens f fine in let b = blocks_are_counted d tokens f fine in
    ap first_passed same ∙ none_above (lowered d tokens f).locals (length (lowered d tokens f).blocks) (lines_of (lowered d tokens f).blocks) (omega (arith, l)) (omega (arith, b)) few_lines

abbrev of_parts : Span → (p a l : ℕ) → Option CInt → List BlockTree → CodeTree
of_parts n p a l r xs = record { name_span = n; params = p; named = a; locals = l; result = r; blocks = xs }

parts_are : (n m : Span) (p q a b l k : ℕ) (r t : Option CInt) (xs ys : List BlockTree) → n ≡ m → p ≡ q → a ≡ b → l ≡ k → r ≡ t → xs ≡ ys → of_parts n p a l r xs ≡ of_parts m q b k t ys
parts_are n m p q a b l k r t xs ys en ep ea el er ex = cc

pub code_is : (d : Declared) (tokens : List Token) (f : TypedTree) (c : Code) → FunctionFine d f → c.name_span ≡ f.name_span → c.params ≡ length f.sig.params → c.named ≡ length f.locals → c.locals ≡ length f.locals + stmt_need d f.body
    → c.result ≡ result_of f.sig.result → map block_tree c.blocks ≡ (lowered d tokens f).blocks → code_tree c ≡ lowered d tokens f
code_is d tokens f c fine en ep em el er eb =
    parts_are c.name_span f.name_span c.params (length f.sig.params) c.named (length f.locals) c.locals (lowered d tokens f).locals c.result (result_of f.sig.result) (map block_tree c.blocks) (lowered d tokens f).blocks
    en ep em (el ∙ sym (locals_are d tokens f fine)) er eb

pub right_of : (d : Declared) (tokens : List Token) (f : TypedTree) (c : CodeTree) → FunctionFine d f → c ≡ lowered d tokens f → (p : Program) → p.unit ≡ d → GivesNumbers p → DoesAs p c f
right_of d tokens f c fine same p e gives =
    subst (λ x. DoesAs p x f) (ap (λ u. lowered u tokens f) e ∙ sym same) (code_is_right p tokens f (subst (λ u. FunctionFine u f) (sym e) fine) gives)
