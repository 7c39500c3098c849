-- The tables of the code for constants are those of the definitions.
use Rattle.std.proofs.Common.{◌≡◌, map, refl}
use Rattle.cx_cword.specs.declared.integer.TheConstants.{SUFFIXES}
use Rattle.cx_cword.specs.declared.character.TheConstants.{ESCAPES}
use Rattle.cx_cword.specs.Integers.{suffixes}
use Rattle.cx_cword.specs.Characters.{escapes}

pub suffixes_table : map (λ k. (k.0.now, k.1)) SUFFIXES ≡ suffixes
unfolding suffixes
suffixes_table = refl

pub escapes_table : map (λ k. (k.0.now, k.1)) ESCAPES ≡ escapes
unfolding escapes
escapes_table = refl
