-- A scope as the code holds it.
use Rattle.std.specs.Prelude.{ℕ, List, map}
use Rattle.cx_flin.specs.declared.names.Named.{Named}

abbrev pub scope_of : List Named → List (List ℕ × ℕ)
scope_of ns = map (λ n. (n.text.now, n.symbol)) ns
