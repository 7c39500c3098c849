-- The tables of the code are those of the definitions.
use Rattle.std.proofs.Common.{◌≡◌, map, ◌++◌, refl}
use Rattle.cx_cword.specs.declared.word.TheConstants.{KEYWORDS, PUNCTUATORS}
use Rattle.cx_cword.specs.Words.{c_keywords, gnu_keywords, punctuators}

pub keywords_table : map (λ k. (k.0.now, k.1)) KEYWORDS ≡ c_keywords ++ gnu_keywords
unfolding c_keywords gnu_keywords
keywords_table = refl

pub punctuators_table : map (λ k. (k.0.now, k.1)) PUNCTUATORS ≡ punctuators
unfolding punctuators
punctuators_table = refl
