use Rattle.std.proofs.Common.{◌≡◌, take}
use Rattle.cx_cword.specs.Lexemes.{lexemes}
use Rattle.cx_cword.proofs.lexeme.lexemes.Given as goal

abbrev pub invariant-loop-token : goal.invariant-loop-token
invariant-loop-token l = l.lexemes ≡ lexemes l.names l.bytes (take l.token-index l.tokens)
