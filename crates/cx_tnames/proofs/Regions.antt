-- Names of words that are added one after the other.
use Rattle.std.proofs.Common.{◌≡◌, ℕ, List, [], ◌∷◌, ◌++◌, refl}
use Rattle.cx_base.specs.Names.{numbered}
use Rattle.cx_tsyn.specs.Words.{WordTree}
use Rattle.cx_tscope.specs.Scopes.{with_words}

pub words_append : (names : List (List ℕ)) (a b : List WordTree) → with_words names (a ++ b) ≡ with_words (with_words names a) b
words_append names [] b = refl
words_append names (w ∷ a) b = words_append (numbered names w.text) a b
