use Rattle.std.proofs.Common.{◌≡◌, ◌∙◌, length, ap, arith}
use Rattle.cx_cword.specs.Lexemes.{lexemes}
use Rattle.cx_cdecl.specs.Reading.{shallow_at}
use Rattle.cx_cdecl.proofs.Public.{read_deep, read_whole, handed}
use Rattle.cx_cdecl.proofs.read_decl.Goals as goal

pub returns-then-front-len-clause-read : goal.returns-then-front-len-clause-read
returns-then-front-len-clause-read c =
    let long : length c.in_ok-all.all ≡ length (lexemes c.args.known.now.names c.args.bytes.now c.args.tokens.now) = ap length c.in_ok-all.ensures in
    read_deep c.args.known.now (lexemes c.args.known.now.names c.args.bytes.now c.args.tokens.now) c.shallow-front.result.now (c.shallow-front.ensures ∙ ap (shallow_at 0) (c.as_slice.ensures ∙ c.in_ok-all.ensures)) (omega (arith, long))

pub returns-clause-read : goal.returns-clause-read
returns-clause-read c =
    let h = handed c.args.known.now c.args.known.now.names c.args.bytes.now c.args.tokens.now c.in_ok-all.all c.as_slice.result.now c.shallow-front.result.now c.in_ok-all.ensures c.as_slice.ensures c.shallow-front.ensures (omega arith) c.requires.few in
    let long : length c.in_ok-all.all ≡ length (lexemes c.args.known.now.names c.args.bytes.now c.args.tokens.now) = ap length c.in_ok-all.ensures in
    read_whole c.args.known.now _ _ _ _ c.whole.result h (omega (arith, long)) (omega arith) c.whole.ensures.value
