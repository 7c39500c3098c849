use Rattle.cx_cword.specs.Lexemes.{text_of}
use Rattle.cx_cread.proofs.Words.{found}
use Rattle.cx_cread.proofs.named.number_of.Goals as goal

pub unwrap-requires : goal.unwrap-requires
unwrap-requires c = found c.number_of.result (text_of c.args.bytes.now c.args.word.span) c.args.names.now c.number_of.ensures.number c.requires.numbered
