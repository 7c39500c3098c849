use Rattle.std.proofs.Common.{◌≡◌, take}
use Rattle.cx_tword.specs.Lexemes.{type_lexemes}
use Rattle.cx_tword.proofs.lexeme.type_lexemes.Given as goal

abbrev pub invariant-loop-token : goal.invariant-loop-token
invariant-loop-token l = l.lexemes ≡ type_lexemes l.names l.bytes (take l.token-index l.tokens)
