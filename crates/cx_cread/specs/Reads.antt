-- What a C file is read as: functions with their bodies (C11 6.9.1), and the items in order, each among the names that those before it declare.
use Rattle.std.specs.Prelude.{◌≡◌, ◌≤◌, ℕ, Bool, false, ◌==◌, List, [], ◌∷◌, ◌++◌, map, None, Ok}
use Rattle.std.specs.List.{list_any, position_or_len}
use Rattle.std.specs.Str.{bytes_eq}
use Rattle.cx_base.specs.declared.token.Token.{Token}
use Rattle.cx_lex.specs.Lexed.{lexed}
use Rattle.cx_ctree.specs.Types.{TypeTree}
use Rattle.cx_ctree.specs.Stmts.{block, StmtTrees}
use Rattle.cx_ctree.specs.Path.{stmt_path}
use Rattle.cx_ctree.specs.Decls.{SignatureTree, FunctionTree, DeclTree, function, ItemTree, known, passed}
use Rattle.cx_ctree.specs.Units.{UnitTree}
use Rattle.cx_cword.specs.declared.word.Punctuator.TheVariants as p
use Rattle.cx_cword.specs.declared.lexeme.Lexeme.{Lexeme}
use Rattle.cx_cword.specs.Reading.{Is, span_of}
use Rattle.cx_cword.specs.Lexemes.{text_of, lexemes}
use Rattle.cx_cname.specs.Known.{Known, function_type, MayBe}
use Rattle.cx_cdecl.specs.Declarations.{Beside, AreSpecs, IsFunction, IsDeclaration}
use Rattle.cx_cstmt.specs.Statements.{spelled, AreBlockItems}
use Rattle.cx_citem.specs.Items.{unit_fault, items_of, naming}
use Rattle.cx_citem.specs.Numbering.{numbering}

-- ---- items

abbrev pub is_body_of : ℕ → DeclTree → Bool
is_body_of n (function f) = f.sig.name == n
is_body_of n _ = false

-- a function with its body: its name is new, or declared as a function of this type without a body. The body has no path of more than 400 nodes
pub data IsDefinition (earlier : List DeclTree) (env : Known) : List Lexeme → FunctionTree → Known → Type 0 where
  definition : {a c d : List Lexeme} {t : TypeTree} {s : Beside} {listed : Bool} {o : Lexeme} {f : SignatureTree} {ss : StmtTrees} {known later last : Known} (m e : Lexeme) → AreSpecs earlier env a t s listed known → s.typedef_ ≡ false
      → IsFunction earlier known t c o f later → MayBe later earlier f.name (function_type f) → list_any (is_body_of f.name) earlier ≡ false
      → Is p.OpenBrace m → AreBlockItems earlier later d ss last → Is p.CloseBrace e → stmt_path (spelled (m ∷ d ++ e ∷ []) (block ss)) ≤ 400
      → IsDefinition earlier env (a ++ c ++ m ∷ d ++ e ∷ []) (record { sig = f; body = spelled (m ∷ d ++ e ∷ []) (block ss); name_span = o.span }) last

-- an item, with what it declares and the names known after it
pub data IsItem (earlier : List DeclTree) (env : Known) : List Lexeme → List DeclTree → Known → Type 0 where
  declares_item : {a : List Lexeme} {ds : List DeclTree} {known : Known} → IsDeclaration earlier env a ds known → IsItem earlier env a ds known
  defines_item : {a : List Lexeme} {f : FunctionTree} {known : Known} → IsDefinition earlier env a f known → IsItem earlier env a (function f ∷ []) known

-- items in order: an item that the lexemes do not spell is passed over, and declares nothing
pub data AreItems : (earlier : List DeclTree) → Known → List (List Lexeme) → List ItemTree → Known → Type 0 where
  no_items : {earlier : List DeclTree} {env : Known} → AreItems earlier env [] [] env
  known_item : {earlier ds : List DeclTree} {env later last : Known} {os : List Lexeme} {rest : List (List Lexeme)} {items : List ItemTree} → IsItem earlier env os ds later → AreItems (earlier ++ ds) later rest items last → AreItems earlier env (os ∷ rest) (known ds ∷ items) last
  passed_item : {earlier : List DeclTree} {env last : Known} {os : List Lexeme} {rest : List (List Lexeme)} {items : List ItemTree} → ((ds : List DeclTree) (later : Known) → IsItem earlier env os ds later → ⊥) → AreItems earlier env rest items last
      → AreItems earlier env (os ∷ rest) (passed (span_of os) ∷ items) last

-- ---- names

-- the numbers of the words by which the items that are passed over name functions
abbrev pub named_by : (names : List (List ℕ)) (bytes : List ℕ) → List (List Lexeme) → List ItemTree → List ℕ
named_by names bytes (os ∷ rest) (passed s ∷ items) = map (λ o. position_or_len (bytes_eq (text_of bytes o.span)) names) (naming 0 os) ++ named_by names bytes rest items
named_by names bytes (os ∷ rest) (known ds ∷ items) = named_by names bytes rest items
named_by names bytes _ _ = []

-- ---- units

abbrev pub nothing_known : Known
nothing_known = record { tags = []; typedefs = []; consts = []; enums = [] }

abbrev pub known_after : UnitTree → Known
known_after u = record { tags = u.tags; typedefs = u.typedefs; consts = u.consts; enums = u.enums }

-- the unit of a text with these tokens
pub record Reads (bytes : List ℕ) (tokens : List Token) (u : UnitTree) : Type 0 where
  pub names : u.names ≡ numbering bytes tokens
  pub tokens_are : u.tokens ≡ tokens
  pub whole : unit_fault (lexemes u.names bytes tokens) ≡ None
  pub items : AreItems [] nothing_known (items_of (lexemes u.names bytes tokens)) u.items (known_after u)
  pub named : u.named ≡ named_by u.names bytes (items_of (lexemes u.names bytes tokens)) u.items

-- the unit of a text with these tokens, which has no other
pub record ReadsOnly (bytes : List ℕ) (tokens : List Token) (u : UnitTree) : Type 0 where
  pub reads : Reads bytes tokens u
  pub only : (v : UnitTree) → Reads bytes tokens v → v ≡ u

-- the one unit of a text: its tokens are those of the text, and its items those of the tokens
pub record IsUnitOf (bytes : List ℕ) (u : UnitTree) : Type 0 where
  pub tokens : lexed bytes ≡ Ok u.tokens
  pub items : ReadsOnly bytes u.tokens u
