-- An item is read in one way.
use Rattle.std.proofs.Common.{◌≡◌, ℕ, ◌+◌, ◌*◌, ◌^◌, ◌≤◌, List, [], ◌∷◌, ◌++◌, length, Option, Some, None, refl, sym, ap, ◌∙◌, arith}
use Rattle.std.proofs.lemmas.Option.{same_Some}
use Rattle.cx_ctree.specs.Decls.{DeclTree, function, FunctionTree}
use Rattle.cx_cword.specs.declared.word.Punctuator.TheVariants as p
use Rattle.cx_cword.specs.declared.lexeme.Lexeme.{Lexeme}
use Rattle.cx_cword.specs.declared.lexeme.LexemeKind.{LexemeKind}
use Rattle.cx_cword.specs.declared.lexeme.LexemeKind.TheVariants as l
use Rattle.cx_cname.specs.Known.{Known}
use Rattle.cx_cdecl.specs.Declarations.{IsDeclaration, declares_types, declares}
use Rattle.cx_cdecl.specs.Reading.{After}
use Rattle.cx_cdecl.proofs.Grows.{Fits, Grows}
use Rattle.cx_cdecl.proofs.Only.{declaration_only}
use Rattle.cx_cread.specs.Reads.{IsDefinition, definition, IsItem, declares_item, defines_item}
use Rattle.cx_cread.specs.Reading.{IsNoDeclaration, IsNoDefinition, IsNoItem}
use Rattle.cx_cread.proofs.Declared.{declaration_grows}
use Rattle.cx_cread.proofs.Defined.{definition_there, definition_grows}

-- ---- a declaration ends with `;`, a function with its body with `}`

last_kind : List Lexeme → Option LexemeKind
last_kind [] = None
last_kind (o ∷ []) = Some o.kind
last_kind (o ∷ n ∷ os) = last_kind (n ∷ os)

last_kind-push : (os : List Lexeme) (o : Lexeme) → last_kind (os ++ o ∷ []) ≡ Some o.kind
unfolding last_kind
last_kind-push [] o = refl
last_kind-push (a ∷ []) o = refl
last_kind-push (a ∷ c ∷ os) o = last_kind-push (c ∷ os) o

declaration_ends : {earlier : List DeclTree} {env known : Known} {os : List Lexeme} {ds : List DeclTree} → IsDeclaration earlier env os ds known → last_kind os ≡ Some (l.Punctuator p.Semicolon)
declaration_ends (declares_types {a = a} o words alone end) = last_kind-push a o ∙ ap Some end
declaration_ends (declares {a = a} {c = c} o words all alone end) = last_kind-push (a ++ c) o ∙ ap Some end

definition_ends : {earlier : List DeclTree} {env known : Known} {os : List Lexeme} {f : FunctionTree} → IsDefinition earlier env os f known → last_kind os ≡ Some (l.Punctuator p.CloseBrace)
definition_ends (definition {a = a} {c = c} {d = d} m e words typed is may once begin body end path) = last_kind-push (a ++ c ++ m ∷ d) e ∙ ap Some end

not_both : {earlier : List DeclTree} {env known later : Known} {os : List Lexeme} {ds : List DeclTree} {f : FunctionTree} → IsDeclaration earlier env os ds known → IsDefinition earlier env os f later → ⊥
not_both a b =
    let e = declaration_ends a in
    let f = definition_ends b in
    cc

-- ---- items

pub no_item : {earlier : List DeclTree} {env : Known} {os : List Lexeme} → IsNoDeclaration earlier env os → IsNoDefinition earlier env os → IsNoItem earlier env os
no_item a b ds later (declares_item d) = a ds later d
no_item a b ds later (defines_item {f = f} d) = b f later d

-- room for the tags of an item
pub record Holds (env : Known) (os : List Lexeme) : Type 0 where
  pub few : length env.tags + length os ≤ 2 ^ 24

pub holds_fits : (env : Known) (os : List Lexeme) → Holds env os → Fits env os
holds_fits env os h = record { few = let e = h.few in omega (arith, e) }

definition_only : {earlier : List DeclTree} {env : Known} {os : List Lexeme} {f g : FunctionTree} {known later : Known} → Fits env os → IsDefinition earlier env os f known → IsDefinition earlier env os g later → (f ≡ g) × (known ≡ later)
definition_only {os = os} fit a b =
    let turns : ℕ = 16 * length os + 64 in
    let same = same_Some _ _ (sym (definition_there a turns fit (omega arith)) ∙ definition_there b turns fit (omega arith)) in
    (ap (λ (x : After FunctionTree). x.tree) same, ap (λ (x : After FunctionTree). x.known) same)

pub item_only : {earlier : List DeclTree} {env : Known} {os : List Lexeme} {ds es : List DeclTree} {known later : Known} → Holds env os → IsItem earlier env os ds known → IsItem earlier env os es later → (ds ≡ es) × (known ≡ later)
item_only {env = env} {os = os} room (declares_item a) (declares_item b) = let one = declaration_only (holds_fits env os room) a b in (one.tree, one.names)
item_only {env = env} {os = os} room (defines_item a) (defines_item b) =
    let one = definition_only (holds_fits env os room) a b in
    (ap (λ (f : FunctionTree). function f ∷ []) one.0, one.1)
item_only room (declares_item a) (defines_item b) = absurd (not_both a b)
item_only room (defines_item a) (declares_item b) = absurd (not_both b a)

-- each lexeme declares one tag at most
pub item_grows : {earlier : List DeclTree} {env known : Known} {os : List Lexeme} {ds : List DeclTree} → IsItem earlier env os ds known → Grows env known (length os)
item_grows (declares_item a) = declaration_grows a
item_grows (defines_item a) = definition_grows a
