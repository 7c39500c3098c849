-- The table of the code is that of the definition.
use Rattle.std.proofs.Common.{◌≡◌, map, refl}
use Rattle.cx_tword.specs.declared.word.TheConstants.{TYPE_WORDS}
use Rattle.cx_tword.specs.Words.{type_words}

pub type_words_table : map (λ k. (k.0.now, k.1)) TYPE_WORDS ≡ type_words
unfolding type_words
type_words_table = refl
