-- The same lexemes spell one thing only.
use Rattle.std.proofs.Common.{◌≡◌, ℕ, ◌+◌, ◌*◌, Bool, List, [], ◌++◌, length, refl, sym, ap, ◌∙◌, append-nil, arith}
use Rattle.std.proofs.lemmas.Option.{same_Some}
use Rattle.cx_ctree.specs.Types.{TypeTree}
use Rattle.cx_ctree.specs.Decls.{SignatureTree, DeclTree, object, proto}
use Rattle.cx_cword.specs.declared.lexeme.Lexeme.{Lexeme}
use Rattle.cx_cname.specs.Known.{Known}
use Rattle.cx_cexpr.specs.Reading.{Few}
use Rattle.cx_cdecl.specs.Declarations.{Beside, AreSpecs, IsObject, IsFunction, IsDeclaration}
use Rattle.cx_cdecl.specs.Reading.{Got, After, Named, Specs, Declared}
use Rattle.cx_cdecl.proofs.Grows.{Fits, fits_few, fits_less}
use Rattle.cx_cdecl.proofs.DeclaratorThere.{object_there}
use Rattle.cx_cdecl.proofs.MembersThere.{specs_there}
use Rattle.cx_cdecl.proofs.DeclarationThere.{object_declarator, function_there, declaration_there}

fits_nil : (env : Known) (front : List Lexeme) → Fits env front → Fits env (front ++ [])
fits_nil env front fit = let e = ap length (append-nil front) in fits_less env front (front ++ []) fit (omega (arith, e))

-- ---- declarations

pub record SameDeclaration (ds es : List DeclTree) (known later : Known) : Type 0 where
  pub tree : ds ≡ es
  pub names : known ≡ later

pub declaration_only : {earlier : List DeclTree} {env known later : Known} {front : List Lexeme} {ds es : List DeclTree} → Fits env front → IsDeclaration earlier env front ds known → IsDeclaration earlier env front es later → SameDeclaration ds es known later
declaration_only {known = known} {later = later} {front = front} {ds = ds} {es = es} fit h g =
    let turns : ℕ = 16 * length front + 40 in
    let same = same_Some _ _ (sym (declaration_there h turns fit (omega arith)) ∙ declaration_there g turns fit (omega arith)) in
    record { tree = ap (λ (x : After (List DeclTree)). x.tree) same; names = ap (λ (x : After (List DeclTree)). x.known) same }

-- ---- the words of a type

pub record SameSpecs (t u : TypeTree) (s r : Beside) (listed other : Bool) (known later : Known) : Type 0 where
  pub type : t ≡ u
  pub said : s ≡ r
  pub list : listed ≡ other
  pub names : known ≡ later

pub specs_only : {earlier : List DeclTree} {env known later : Known} {front : List Lexeme} {t u : TypeTree} {s r : Beside} {listed other : Bool} → Fits env front → AreSpecs earlier env front t s listed known → AreSpecs earlier env front u r other later → SameSpecs t u s r listed other known later
specs_only {env = env} {front = front} fit h g =
    let turns : ℕ = 16 * length (front ++ []) + 40 in
    let read = fits_nil env front fit in
    let same = same_Some _ _ (sym (specs_there h turns turns [] refl read (omega arith) (omega arith)) ∙ specs_there g turns turns [] refl read (omega arith) (omega arith)) in
    record {
      type = ap (λ (x : After Specs). x.tree.ctype) same;
      said = ap (λ (x : After Specs). x.tree.said) same;
      list = ap (λ (x : After Specs). x.tree.listed) same;
      names = ap (λ (x : After Specs). x.known) same;
    }

-- ---- declarators

pub record SameObject (n k : ℕ) (o u : Lexeme) (t v : TypeTree) : Type 0 where
  pub name : n ≡ k
  pub lexeme : o ≡ u
  pub type : t ≡ v

pub object_only : {env : Known} {base t v : TypeTree} {front : List Lexeme} {n k : ℕ} {o u : Lexeme} → Few env → IsObject env base front n o t → IsObject env base front k u v → SameObject n k o u t v
object_only {env} {front = front} few h g =
    let turns : ℕ = 16 * length (front ++ []) + 40 in
    let same = same_Some _ _ (sym (object_there env few h turns [] refl (omega arith)) ∙ object_there env few g turns [] refl (omega arith)) in
    record { name = ap (λ (x : Got Named). x.tree.name) same; lexeme = ap (λ (x : Got Named). x.tree.lexeme) same; type = ap (λ (x : Got Named). x.tree.ctype) same }

pub record SameFunction (o u : Lexeme) (f g : SignatureTree) (known later : Known) : Type 0 where
  pub lexeme : o ≡ u
  pub signature : f ≡ g
  pub names : known ≡ later

proto_is : (f g : SignatureTree) → proto f ≡ proto g → f ≡ g
proto_is f g e = cc

object_no_proto : (n : ℕ) (t : TypeTree) (f : SignatureTree) → object n t ≡ proto f → ⊥
object_no_proto n t f e = cc

pub function_only : {earlier : List DeclTree} {env known later : Known} {base : TypeTree} {front : List Lexeme} {o u : Lexeme} {f g : SignatureTree} → Fits env front → IsFunction earlier env base front o f known → IsFunction earlier env base front u g later → SameFunction o u f g known later
function_only {env = env} {front = front} {f = f} {g = g} fit h i =
    let turns : ℕ = 16 * length (front ++ []) + 40 in
    let read = fits_nil env front fit in
    let same = same_Some _ _ (sym (function_there h turns [] refl read (omega arith)) ∙ function_there i turns [] refl read (omega arith)) in
    record { lexeme = ap (λ (x : After Declared). x.tree.lexeme) same; signature = proto_is f g (ap (λ (x : After Declared). x.tree.decl) same); names = ap (λ (x : After Declared). x.known) same }

-- no declarator is one of an object and of a function
pub object_no_function : {earlier : List DeclTree} {env known : Known} {base t : TypeTree} {front : List Lexeme} {n : ℕ} {o u : Lexeme} {f : SignatureTree} → Fits env front → IsObject env base front n o t → IsFunction earlier env base front u f known → ⊥
object_no_function {env = env} {t = t} {front = front} {n = n} {f = f} fit h i =
    let turns : ℕ = 16 * length (front ++ []) + 40 in
    let read = fits_nil env front fit in
    let same = same_Some _ _ (sym (object_declarator (fits_few env front fit) h turns [] refl refl (omega arith)) ∙ function_there i turns [] refl read (omega arith)) in
    object_no_proto n t f (ap (λ (x : After Declared). x.tree.decl) same)
