-- The lexemes of a function with its body are read as one, and as no other.
use Rattle.std.proofs.Common.{◌≡◌, ℕ, ◌+◌, ◌*◌, ◌≤◌, true, false, List, [], ◌∷◌, ◌++◌, map, length, Option, Some, None, refl, sym, ap, ◌∙◌, subst, arith, append_assoc, length-append, append-nil}
use Rattle.std.specs.Prelude.{not}
use Rattle.std.specs.List.{list_any}
use Rattle.std.proofs.lemmas.Option.{none-some, same_Some}
use Rattle.cx_base.specs.declared.span.Span.{Span}
use Rattle.cx_base.proofs.General.{not_true}
use Rattle.cx_ctree.specs.Types.{TypeTree}
use Rattle.cx_ctree.specs.Stmts.{StmtTree, block, StmtTrees}
use Rattle.cx_ctree.specs.Path.{stmt_path}
use Rattle.cx_ctree.specs.Decls.{SignatureTree, FunctionTree, DeclTree, proto}
use Rattle.cx_cword.specs.declared.word.Punctuator.TheVariants as p
use Rattle.cx_cword.specs.declared.lexeme.Lexeme.{Lexeme}
use Rattle.cx_cword.specs.declared.lexeme.LexemeKind.{LexemeKind}
use Rattle.cx_cword.specs.Reading.{Is, ◌>>=◌, past_of}
use Rattle.cx_cname.specs.Known.{Known, function_type, MayBe}
use Rattle.cx_cname.specs.Meanings.{may_be}
use Rattle.cx_cexpr.proofs.Steps.{bind_some}
use Rattle.cx_cdecl.specs.Declarations.{AreSpecs, IsFunction, function_of}
use Rattle.cx_cdecl.specs.Reading.{After, Specs, Declared, if_true, specs_at, declarator_at}
use Rattle.cx_cdecl.proofs.Steps.{if_some}
use Rattle.cx_cdecl.proofs.MembersSound.{specs_sound}
use Rattle.cx_cdecl.proofs.DeclarationSound.{IsDeclarator, of_object, of_function, declarator_sound, may_be_is}
use Rattle.cx_cdecl.proofs.Follows.{is_keyword, no_keyword, ends_type, if_goes, bind_goes}
use Rattle.cx_cdecl.proofs.Grows.{Fits, fits_less, fits_after, Grows, grows_then, may_be_function}
use Rattle.cx_cdecl.proofs.Growing.{specs_grow}
use Rattle.cx_cdecl.proofs.MembersThere.{pointers_begin, name_begins, specs_tree, specs_there}
use Rattle.cx_cdecl.proofs.DeclarationThere.{declared_of, function_there, function_grows}
use Rattle.cx_cstmt.specs.Statements as grammar
use Rattle.cx_cstmt.specs.Statements.{AreBlockItems}
use Rattle.cx_cstmt.specs.Reading.{Got, block_at}
use Rattle.cx_cread.specs.Reads.{is_body_of, IsDefinition, definition}
use Rattle.cx_cread.specs.Reading.{IsNoDefinition}
use Rattle.cx_cread.specs.Definitions.{with_body, body_at, function_by, declarator_after, specs_after, definition_at}
use Rattle.cx_cstmt.proofs.BlockSound.{FoundBlock, block_sound}
use Rattle.cx_cstmt.proofs.BlockThere.{block_there}
use Rattle.cx_cstmt.proofs.Growing.{items_grow}

abbrev function_of_body : Span → SignatureTree → StmtTree → FunctionTree
function_of_body name_span f body = record { sig = f; body = body; name_span = name_span }

abbrev defined : FunctionTree → Known → After FunctionTree
defined f known = record { tree = f; known = known; rest = [] }

-- ---- what is read is a function with its body

record FoundBody (earlier : List DeclTree) (env : Known) (name_span : Span) (f : SignatureTree) (os : List Lexeme) (g : After FunctionTree) : Type 0 where
  opening : Lexeme
  inside : List Lexeme
  closing : Lexeme
  ss : StmtTrees
  parts : os ≡ opening ∷ inside ++ closing ∷ []
  may : MayBe env earlier f.name (function_type f)
  once : list_any (is_body_of f.name) earlier ≡ false
  opens : Is p.OpenBrace opening
  so : AreBlockItems earlier env inside ss g.known
  closes : Is p.CloseBrace closing
  low : stmt_path (grammar.spelled (opening ∷ inside ++ closing ∷ []) (block ss)) ≤ 400
  tree : function_of_body name_span f (grammar.spelled (opening ∷ inside ++ closing ∷ []) (block ss)) ≡ g.tree

ended : (name_span : Span) (f : SignatureTree) (rest : List Lexeme) (tree : StmtTree) (known : Known) (past : ℕ) (g : After FunctionTree) → with_body name_span f (record { tree = tree; known = known; past = past; rest = rest }) ≡ Some g
    → (rest ≡ []) × (defined (function_of_body name_span f tree) known ≡ g)
ended name_span f [] tree known past g e = (refl, same_Some (defined (function_of_body name_span f tree) known) g e)
ended name_span f (o ∷ rest) tree known past g e = absurd cc

body_found : (earlier : List DeclTree) (env : Known) (name_span : Span) (f : SignatureTree) (os : List Lexeme) (x : Got StmtTree) (g : After FunctionTree) → FoundBlock earlier env 400 os x → MayBe env earlier f.name (function_type f) → list_any (is_body_of f.name) earlier ≡ false
    → x.rest ≡ [] → defined (function_of_body name_span f x.tree) x.known ≡ g → FoundBody earlier env name_span f os g
body_found earlier env name_span f os x g b may once end is =
    let whole : List Lexeme = b.opening ∷ b.inside ++ b.closing ∷ [] in
    record {
      opening = b.opening;
      inside = b.inside;
      closing = b.closing;
      ss = b.ss;
      parts = b.parts ∙ ap (λ (xs : List Lexeme). whole ++ xs) end ∙ append-nil whole;
      may = may;
      once = once;
      opens = b.opens;
      so = subst (λ (known : Known). AreBlockItems earlier env b.inside b.ss known) (ap (λ (r : After FunctionTree). r.known) is) b.so;
      closes = b.closes;
      low = subst (λ (s : StmtTree). stmt_path s ≤ 400) b.tree b.low;
      tree = ap (function_of_body name_span f) (sym b.tree) ∙ ap (λ (r : After FunctionTree). r.tree) is;
    }

body_sound : (turns : ℕ) (earlier : List DeclTree) (env : Known) (name_span : Span) (f : SignatureTree) (os : List Lexeme) (g : After FunctionTree) → body_at turns earlier env name_span f os ≡ Some g → FoundBody earlier env name_span f os g
unfolding body_at
body_sound turns earlier env name_span f os g e =
    let body : Option (After FunctionTree) = block_at env turns 400 os >>= with_body name_span f in
    let may = if_some (may_be env earlier f.name (function_type f)) (if_true (not (list_any (is_body_of f.name) earlier)) body) g e in
    let once = if_some (not (list_any (is_body_of f.name) earlier)) body g may.1 in
    let i = bind_some (block_at env turns 400 os) (with_body name_span f) g once.1 in
    let x = ended name_span f i.0.rest i.0.tree i.0.known i.0.past g i.2 in
    body_found earlier env name_span f os i.0 g (block_sound earlier env turns 400 os i.0 i.1) (may_be_is env earlier f.name (function_type f) may.0) (not_true (list_any (is_body_of f.name) earlier) once.0) x.0 x.1

definition_parts : (os a mid c last d : List Lexeme) (m e : Lexeme) → os ≡ a ++ mid → mid ≡ c ++ last → last ≡ m ∷ d ++ e ∷ [] → os ≡ a ++ c ++ m ∷ d ++ e ∷ []
definition_parts os a mid c last d m e e1 e2 e3 =
    e1 ∙ ap (λ (v : List Lexeme). a ++ v) (e2 ∙ ap (λ (v : List Lexeme). c ++ v) e3)
    ∙ sym (append_assoc a c (m ∷ d ++ e ∷ [])) ∙ sym (append_assoc (a ++ c) (m ∷ d) (e ∷ []))

by_kind : (turns : ℕ) (earlier : List DeclTree) (env : Known) (os : List Lexeme) (s : After Specs) (a c rest : List Lexeme) (x : Declared) (known : Known) (g : After FunctionTree) → os ≡ a ++ s.rest → AreSpecs earlier env a s.tree.ctype s.tree.said s.tree.listed s.known → s.tree.said.typedef_ ≡ false
    → s.rest ≡ c ++ rest → IsDeclarator earlier s.known s.tree.ctype c x known → function_by turns earlier known x.lexeme.span rest x.decl ≡ Some g → IsDefinition earlier env os g.tree g.known
by_kind turns earlier env os s a c rest x known g parts words typed more (of_object o n is) e = absurd cc
by_kind turns earlier env os s a c rest x known g parts words typed more (of_function o f is) e =
    let b = body_sound turns earlier known o.span f rest g e in
    subst (λ (xs : List Lexeme). IsDefinition earlier env xs g.tree g.known) (sym (definition_parts os a s.rest c rest b.inside b.opening b.closing parts more b.parts))
    (subst (λ (t : FunctionTree). IsDefinition earlier env (a ++ c ++ b.opening ∷ b.inside ++ b.closing ∷ []) t g.known) b.tree
    (definition b.opening b.closing words typed is b.may b.once b.opens b.so b.closes b.low))

pub definition_sound : (turns : ℕ) (earlier : List DeclTree) (env : Known) (os : List Lexeme) (g : After FunctionTree) → definition_at turns earlier env os ≡ Some g → IsDefinition earlier env os g.tree g.known
unfolding definition_at
definition_sound turns earlier env os g e =
    let i = bind_some (specs_at turns earlier turns env os) (specs_after turns earlier) g e in
    let a = specs_sound turns earlier turns env os i.0 i.1 in
    let h = if_some (not i.0.tree.said.typedef_) (declarator_at turns i.0.known i.0.tree.ctype i.0.rest >>= declarator_after turns earlier) g i.2 in
    let j = bind_some (declarator_at turns i.0.known i.0.tree.ctype i.0.rest) (declarator_after turns earlier) g h.1 in
    let c = declarator_sound turns earlier i.0.known i.0.tree.ctype i.0.rest j.0 j.1 in
    by_kind turns earlier env os i.0 a.front c.front j.0.rest j.0.tree j.0.known g a.parts a.so (not_true i.0.tree.said.typedef_ h.0) c.parts c.so j.2

-- ---- a function with its body is read

function_begins : {earlier : List DeclTree} {env known : Known} {t : TypeTree} {a : List Lexeme} {o : Lexeme} {f : SignatureTree} → IsFunction earlier env t a o f known → (rest : List Lexeme) → ends_type (a ++ rest) ≡ true
function_begins (function_of {a = a} {c = c} {d = d} o u e n h low is opens q shuts i) rest =
    ap ends_type (append_assoc (a ++ o ∷ u ∷ c) (e ∷ d) rest ∙ append_assoc a (o ∷ u ∷ c) (e ∷ (d ++ rest)))
    ∙ pointers_begin h (o ∷ (u ∷ (c ++ e ∷ (d ++ rest)))) (name_begins o n (u ∷ (c ++ e ∷ (d ++ rest))) is)

body_there : {earlier : List DeclTree} {env known : Known} {d : List Lexeme} {ss : StmtTrees} (turns : ℕ) (name_span : Span) (f : SignatureTree) (m e : Lexeme) → MayBe env earlier f.name (function_type f) → list_any (is_body_of f.name) earlier ≡ false → Is p.OpenBrace m → AreBlockItems earlier env d ss known → Is p.CloseBrace e
    → stmt_path (grammar.spelled (m ∷ d ++ e ∷ []) (block ss)) ≤ 400 → Fits env (m ∷ d ++ e ∷ []) → 16 * length (m ∷ d ++ e ∷ []) + 64 ≤ turns
    → body_at turns earlier env name_span f (m ∷ d ++ e ∷ []) ≡ Some (defined (function_of_body name_span f (grammar.spelled (m ∷ d ++ e ∷ []) (block ss))) known)
unfolding body_at
body_there {earlier} {env} {known} {d} {ss} turns name_span f m e may once opens body closes low fit enough =
    let os : List Lexeme = m ∷ d ++ e ∷ [] in
    let nil : os ++ [] ≡ os = append-nil os in
    let same = ap length nil in
    let read : Option (After FunctionTree) = block_at env turns 400 os >>= with_body name_span f in
    let there = block_there m e opens body closes turns 400 [] (fits_less env os (os ++ []) fit (omega (arith, same))) (omega (arith, same, enough)) low in
    if_goes (may_be env earlier f.name (function_type f)) (if_true (not (list_any (is_body_of f.name) earlier)) read) (may_be_function env earlier f.name f.result (map (λ p. p.ctype) f.params) may)
    ∙ if_goes (not (list_any (is_body_of f.name) earlier)) read (ap not once)
    ∙ bind_goes (block_at env turns 400 os) (with_body name_span f) (record { tree = grammar.spelled os (block ss); known = known; past = past_of os; rest = [] }) (ap (block_at env turns 400) (sym nil) ∙ there)

pub definition_there : {earlier : List DeclTree} {env known : Known} {os : List Lexeme} {f : FunctionTree} → IsDefinition earlier env os f known → (turns : ℕ) → Fits env os → 16 * length os + 64 ≤ turns → definition_at turns earlier env os ≡ Some (record { tree = f; known = known; rest = [] })
unfolding definition_at
definition_there {earlier} {env} (definition {a = a} {c = c} {d = d} {t = t} {s = s} {listed = listed} {o = o} {f = f} {ss = ss} {known = known} {later = later} {last = last} m e words typed is may once opens body closes low) turns fit enough =
    let braced : List Lexeme = m ∷ d ++ e ∷ [] in
    let parts : a ++ c ++ m ∷ d ++ e ∷ [] ≡ a ++ (c ++ braced) = append_assoc (a ++ c) (m ∷ d) (e ∷ []) ∙ append_assoc a c braced in
    let whole = ap length parts in
    let long = length-append a (c ++ braced) in
    let more = length-append c braced in
    let fit1 = fits_less env (a ++ c ++ m ∷ d ++ e ∷ []) (a ++ (c ++ braced)) fit (omega (arith, whole)) in
    let fit2 = fits_after env known a (c ++ braced) fit1 (specs_grow words) in
    let fit3 = fits_after known later c braced fit2 (function_grows is) in
    let plain : no_keyword braced ≡ true = ap (λ (kind : LexemeKind). not (is_keyword kind)) opens in
    ap (λ (v : List Lexeme). specs_at turns earlier turns env v >>= specs_after turns earlier) parts
    ∙ bind_goes (specs_at turns earlier turns env (a ++ (c ++ braced))) (specs_after turns earlier) (specs_tree t s listed known (c ++ braced))
    (specs_there words turns turns (c ++ braced) (function_begins is braced) fit1 (omega (arith, enough, whole)) (omega (arith, enough, whole)))
    ∙ if_goes (not s.typedef_) (declarator_at turns known t (c ++ braced) >>= declarator_after turns earlier) (ap not typed)
    ∙ bind_goes (declarator_at turns known t (c ++ braced)) (declarator_after turns earlier) (declared_of (proto f) o later braced) (function_there is turns braced plain fit2 (omega (arith, enough, whole, long)))
    ∙ body_there turns o.span f m e may once opens body closes low fit3 (omega (arith, enough, whole, long, more))

pub definition_unread : (turns : ℕ) (earlier : List DeclTree) (env : Known) (os : List Lexeme) → Fits env os → 16 * length os + 64 ≤ turns → definition_at turns earlier env os ≡ None → IsNoDefinition earlier env os
definition_unread turns earlier env os fit enough e f later d = none-some (defined f later) (sym e ∙ definition_there d turns fit enough)

-- each lexeme declares one tag at most
pub definition_grows : {earlier : List DeclTree} {env known : Known} {os : List Lexeme} {f : FunctionTree} → IsDefinition earlier env os f known → Grows env known (length os)
definition_grows {env = env} (definition {a = a} {c = c} {d = d} {known = known} {later = later} {last = last} m e words typed is may once opens body closes low) =
    let n = length-append (a ++ c ++ m ∷ d) (e ∷ []) in
    let k = length-append (a ++ c) (m ∷ d) in
    let j = length-append a c in
    let front = grows_then env known later (length a) (length c) (length a + length c) (specs_grow words) (function_grows is) (omega arith) in
    grows_then env later last (length a + length c) (length d) (length (a ++ c ++ m ∷ d ++ e ∷ [])) front (items_grow body) (omega (arith, n, k, j))
