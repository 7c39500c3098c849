use Rattle.std.proofs.Common.{◌≡◌, take}
use Rattle.cx_cword.specs.Lexemes.{text_of}
use Rattle.cx_tlin.proofs.parts.word.Given as goal

abbrev pub invariant-loop-b : goal.invariant-loop-b
invariant-loop-b l = l.text ≡ take l.b-index (text_of l.fn.bytes l.span)
