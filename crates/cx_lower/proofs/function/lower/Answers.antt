use Rattle.std.proofs.Common.{◌≡◌, ◌≤◌, ◌+◌, ℕ, length, Err, refl, ap, sym, subst, ◌∙◌, arith, rules}
use Rattle.std.proofs.lemmas.List.{length-map}
use Rattle.cx_ctree.specs.Decls.{param_tree, typed_tree}
use Rattle.cx_ctree.specs.Types.{type_tree}
use Rattle.cx_gline.proofs.Whole.{constants_are_small, calls_have_arguments}
use Rattle.cx_gline.specs.Lines.{ConstantsSmall, CallsAgree}
use Rattle.cx_lcode.specs.Lowered.{lowered}
use Rattle.cx_lcode.specs.Needs.{stmt_need}
use Rattle.cx_lcode.specs.Starts.{stmt_starts}
use Rattle.cx_lower.specs.Limits.{TellsOfNumbers, TellsOfLines, lines_of}
use Rattle.cx_lower.proofs.Making.{tells_numbers, tells_lines, code_is, none_passed, right_of}
use Rattle.cx_lwhole.proofs.Whole.{code_is_whole}
use Rattle.cx_sname.specs.File.{declared_of}
use Rattle.cx_lower.proofs.function.lower.Goals as goal

pub returns-in_err-locals-clause-limit : goal.returns-in_err-locals-clause-limit
returns-in_err-locals-clause-limit c = λ fine.
    let d = declared_of c.args.unit.now in let f = typed_tree c.args.typed.now in let e = c.in_err-locals.field-0.0 in
    let own : TellsOfNumbers (length c.args.typed.now.locals + stmt_need d f.body) (stmt_starts f.body + 1) e = c.in_err-locals.ensures.limit in
    let all = tells_numbers d c.args.unit.now.tokens f e fine (subst (λ (n : ℕ). TellsOfNumbers (n + stmt_need d f.body) (stmt_starts f.body + 1) e) (sym (length-map c.args.typed.now.locals type_tree)) own) in
    let same : c.from_residual.result ≡ Err c.in_err-locals.field-0.0 = search rules in
    rw same all

pub returns-in_err-blocks-clause-limit : goal.returns-in_err-blocks-clause-limit
returns-in_err-blocks-clause-limit c = λ fine.
    let d = declared_of c.args.unit.now in let f = typed_tree c.args.typed.now in let e = c.in_err-blocks.field-0.0 in
    let own : TellsOfLines (lines_of (lowered d c.args.unit.now.tokens f).blocks) e = c.in_err-blocks.ensures.limit in
    let n = length-map c.args.typed.now.locals type_tree in let m = c.in_ok-locals.ensures.exact in
    let few : length f.locals + stmt_need d f.body ≤ 128 = omega (arith, n, m, c.in_ok-locals.ensures.few_locals) in
    let all = tells_lines d c.args.unit.now.tokens f e fine few c.in_ok-locals.ensures.few_blocks own in
    let same : c.from_residual-in_err-blocks.result ≡ Err c.in_err-blocks.field-0.0 = search rules in
    rw same all

pub returns-clause-code : goal.returns-clause-code
returns-clause-code c = λ fine.
    let d = declared_of c.args.unit.now in let f = typed_tree c.args.typed.now in
    let a = length-map c.args.typed.now.sig.params param_tree in let b = length-map c.args.typed.now.locals type_tree in let few = fine.0 in
    let among : length c.args.typed.now.sig.params ≤ c.len-named.result = omega (arith, a, b, few, c.len-named.ensures) in
    code_is d c.args.unit.now.tokens f _ fine refl (c.params_among.ensures among ∙ sym a) (c.len-named.ensures ∙ sym b)
    (c.in_ok-locals.ensures.exact ∙ ap (λ (n : ℕ). n + stmt_need d f.body) (sym b)) c.result_type.ensures c.in_ok-blocks.ensures.exact

pub returns-clause-within : goal.returns-clause-within
returns-clause-within c = λ fine.
    let d = declared_of c.args.unit.now in let f = typed_tree c.args.typed.now in
    let b = length-map c.args.typed.now.locals type_tree in let m = c.in_ok-locals.ensures.exact in
    let few : length f.locals + stmt_need d f.body ≤ 128 = omega (arith, b, m, c.in_ok-locals.ensures.few_locals) in
    none_passed d c.args.unit.now.tokens f _ fine (returns-clause-code c fine) few c.in_ok-locals.ensures.few_blocks c.in_ok-blocks.ensures.few_lines

pub returns-clause-right : goal.returns-clause-right
returns-clause-right c = λ fine. right_of (declared_of c.args.unit.now) c.args.unit.now.tokens (typed_tree c.args.typed.now) _ fine (returns-clause-code c fine)

pub returns-clause-whole : goal.returns-clause-whole
returns-clause-whole c = λ fine agree. code_is_whole (declared_of c.args.unit.now) c.args.unit.now.tokens (typed_tree c.args.typed.now) _ fine agree (returns-clause-code c fine)

pub returns-clause-constants : goal.returns-clause-constants
returns-clause-constants c = λ fine small.
    let d = declared_of c.args.unit.now in let f = typed_tree c.args.typed.now in
    subst ConstantsSmall (sym (returns-clause-code c fine)) (constants_are_small d c.args.unit.now.tokens f c.tags_are_by_members.ensures fine small)

pub returns-clause-calls : goal.returns-clause-calls
returns-clause-calls c = λ fine.
    let d = declared_of c.args.unit.now in let f = typed_tree c.args.typed.now in
    subst (CallsAgree d) (sym (returns-clause-code c fine)) (calls_have_arguments d c.args.unit.now.tokens f fine)
