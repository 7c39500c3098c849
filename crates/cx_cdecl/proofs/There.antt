-- What is derived is read: what the laws on the readers give for the calls on tokens.
use Rattle.std.proofs.Common.{◌≡◌, ℕ, ◌+◌, ◌*◌, ◌≤◌, Bool, List, [], ◌++◌, length, Option, Some, arith}
use Rattle.cx_ctree.specs.Types.{TypeTree}
use Rattle.cx_ctree.specs.Decls.{DeclTree}
use Rattle.cx_cword.specs.declared.lexeme.Lexeme.{Lexeme}
use Rattle.cx_cname.specs.Known.{Known}
use Rattle.cx_cdecl.specs.Declarations.{Beside, AreSpecs, IsDeclaration}
use Rattle.cx_cdecl.specs.Reading.{After, Specs, Declared, declaration_at, front_specs_at, front_declarator_at}
use Rattle.cx_cdecl.proofs.DeclarationSound.{IsDeclarator}
use Rattle.cx_cdecl.proofs.DeclarationThere.{declaration_there as read_there}
use Rattle.cx_cdecl.proofs.Follows.{Room}
use Rattle.cx_cdecl.proofs.Grows.{Fits}
use Rattle.cx_cdecl.proofs.LongestThere.{specs_longest, declarator_longest}

-- turns enough for the lexemes, and places for the tags that they may declare
pub record Enough (count : ℕ) (env : Known) (os : List Lexeme) : Type 0 where
  pub turns : 16 * length os + 64 ≤ count
  pub few : length env.tags + length os ≤ 4294967296

places : (env : Known) (os : List Lexeme) (turns : ℕ) → Enough turns env os → Fits env os
places env os turns h = record { few = h.few }

room : (os : List Lexeme) (turns : ℕ) (env : Known) → Enough turns env os → Room turns os
room os turns env h = let e = h.turns in omega (arith, e)

-- reading comes at least as far
pub record GoesFar {A : Type 0} (r : Option (After A)) (known : Known) (rest : List Lexeme) (Same : A → Type 0) : Type 0 where
  pub g : After A
  pub is : r ≡ Some g
  pub less : length g.rest ≤ length rest
  pub same : length g.rest ≡ length rest → Same g.tree × (known ≡ g.known)

pub declaration_there : {earlier : List DeclTree} {env known : Known} {os : List Lexeme} {ds : List DeclTree} → IsDeclaration earlier env os ds known → (turns : ℕ) → Enough turns env os → declaration_at turns earlier env os ≡ Some (record { tree = ds; known = known; rest = [] })
declaration_there {env = env} {os = os} h turns enough = read_there h turns (places env os turns enough) (room os turns env enough)

pub specs_far : {earlier : List DeclTree} {env known : Known} {a : List Lexeme} {t : TypeTree} {s : Beside} {listed : Bool} → AreSpecs earlier env a t s listed known → (turns : ℕ) (rest : List Lexeme) → Enough turns env (a ++ rest)
    → GoesFar (front_specs_at turns earlier env (a ++ rest)) known rest (λ (g : Specs). (t ≡ g.ctype) × (s ≡ g.said))
specs_far {env = env} {a = a} h turns rest enough =
    let f = specs_longest h turns rest (places env (a ++ rest) turns enough) (room (a ++ rest) turns env enough) in
    record { g = f.g; is = f.is; less = f.less; same = λ e. let q = f.same e in ((q.0, q.1), q.2) }

pub declarator_far : {earlier : List DeclTree} {env known : Known} {base : TypeTree} {a : List Lexeme} {d : Declared} → IsDeclarator earlier env base a d known → (turns : ℕ) (rest : List Lexeme) → Enough turns env (a ++ rest)
    → GoesFar (front_declarator_at turns env base (a ++ rest)) known rest (λ (g : Declared). d ≡ g)
declarator_far {env = env} {a = a} h turns rest enough =
    let f = declarator_longest h turns rest (places env (a ++ rest) turns enough) (room (a ++ rest) turns env enough) in
    record { g = f.g; is = f.is; less = f.less; same = f.same }
