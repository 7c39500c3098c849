-- The unit of a text with its own tokens is the unit of the text.
use Rattle.std.proofs.Common.{◌≡◌, ℕ, List, Ok, ap, sym, subst, ◌∙◌}
use Rattle.cx_base.specs.declared.token.Token.{Token}
use Rattle.cx_lex.specs.Lexed.{lexed}
use Rattle.cx_ctree.specs.Units.{UnitTree}
use Rattle.cx_cread.specs.Reads.{ReadsOnly, IsUnitOf}

pub unit_of_text : (bytes : List ℕ) (tokens : List Token) (u : UnitTree) → ReadsOnly bytes tokens u → lexed bytes ≡ Ok tokens → IsUnitOf bytes u
unit_of_text bytes tokens u only e =
    let same = sym only.reads.tokens_are in
    record { tokens = e ∙ ap Ok same; items = subst (λ (ts : List Token). ReadsOnly bytes ts u) same only }
