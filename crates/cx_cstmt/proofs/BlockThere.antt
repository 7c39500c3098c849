-- A block is read.
use Rattle.std.proofs.Common.{◌≡◌, ℕ, ◌+◌, ◌*◌, ◌≤◌, List, [], ◌∷◌, ◌++◌, length, Some, None, ◌∙◌, arith}
use Rattle.cx_ctree.specs.Stmts.{block, StmtTrees}
use Rattle.cx_ctree.specs.Path.{stmt_path}
use Rattle.cx_ctree.specs.Decls.{DeclTree}
use Rattle.cx_cword.specs.declared.word.Punctuator.TheVariants as p
use Rattle.cx_cword.specs.declared.lexeme.Lexeme.{Lexeme}
use Rattle.cx_cword.specs.Reading.{Is, past_of}
use Rattle.cx_cname.specs.Known.{Known}
use Rattle.cx_cdecl.proofs.Grows.{Fits}
use Rattle.cx_cword.specs.declared.mark.Mark.TheVariants as m
use Rattle.cx_cstmt.specs.Statements as grammar
use Rattle.cx_cstmt.specs.Statements.{block_stmt, AreBlockItems}
use Rattle.cx_cstmt.specs.Reading.{stmt_at, block_at}
use Rattle.cx_cstmt.proofs.Goes.{next_goes}
use Rattle.cx_cstmt.proofs.There.{stmt_there}

pub block_there : {earlier : List DeclTree} {env known : Known} {a : List Lexeme} {ss : StmtTrees} (o e : Lexeme) → Is p.OpenBrace o → AreBlockItems earlier env a ss known → Is p.CloseBrace e → (n d : ℕ) (rest : List Lexeme) → Fits env ((o ∷ a ++ e ∷ []) ++ rest)
    → 16 * length ((o ∷ a ++ e ∷ []) ++ rest) + 60 ≤ n → stmt_path (grammar.spelled (o ∷ a ++ e ∷ []) (block ss)) ≤ d
    → block_at env n d ((o ∷ a ++ e ∷ []) ++ rest) ≡ Some (record { tree = grammar.spelled (o ∷ a ++ e ∷ []) (block ss); known = known; past = past_of (o ∷ a ++ e ∷ []); rest = rest })
block_there {env = env} {a = a} o e opens h shuts n d rest fits room low =
    let os : List Lexeme = (o ∷ a ++ e ∷ []) ++ rest in
    next_goes m.OpenBrace o ((a ++ e ∷ []) ++ rest) None (λ _ _. stmt_at env n d os) opens ∙ stmt_there (block_stmt o e opens h shuts) n d rest fits (λ bad. absurd cc) (omega (arith, room)) low
