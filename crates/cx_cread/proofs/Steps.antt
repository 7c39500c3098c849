-- One item more.
use Rattle.std.proofs.Common.{◌≡◌, ℕ, List, [], ◌∷◌, ◌++◌, map, Result, Ok, Err, sym, ap, ◌∙◌, subst}
use Rattle.std.specs.Prelude.{All, OnOk}
use Rattle.std.proofs.lemmas.List.{map-append}
use Rattle.std.proofs.lemmas.List.Elements.{All-nil, All-cons, All-head, All-tail}
use Rattle.cx_base.specs.declared.list.NoMemory.{NoMemory}
use Rattle.cx_ctree.specs.declared.decl.Decl.{Decl}
use Rattle.cx_ctree.specs.declared.decl.Item.{Item}
use Rattle.cx_ctree.specs.declared.decl.Item.TheVariants as i
use Rattle.cx_ctree.specs.Decls.{DeclTree, decl_tree, FunctionTree, function, ItemTree, item_tree, known}
use Rattle.cx_ctree.specs.Units.{UnitTree}
use Rattle.cx_cword.specs.declared.lexeme.Lexeme.{Lexeme}
use Rattle.cx_cname.specs.Known.{Known, declared_by}
use Rattle.cx_cread.specs.Reads.{IsDefinition, IsItem, defines_item, known_after}
use Rattle.cx_cread.specs.Reading.{with_known, InText, Takes, takes_known, takes_passed, TakesAll, takes_none, takes_more}

-- a function with its body is an item of the unit that a declaration left as it was
pub defined_step : {os : List Lexeme} {ds : List DeclTree} {f : FunctionTree} {later : Known} (old mid : UnitTree) → mid ≡ old → IsDefinition (declared_by mid.items) (known_after mid) os f later → ds ≡ function f ∷ []
    → IsItem (declared_by old.items) (known_after old) os ds later
defined_step {os = os} {f = f} {later = later} old mid same is listed =
    let here = subst (λ (u : UnitTree). IsDefinition (declared_by u.items) (known_after u) os f later) same is in
    subst (λ (ds : List DeclTree). IsItem (declared_by old.items) (known_after old) os ds later) (sym listed) (defines_item here)

-- an item that is read is added to the unit
pub known_step : (bytes : List ℕ) (os : List Lexeme) (old mid : UnitTree) (ds : List Decl) (items more : List Item) (r : Result (Unit {0}) NoMemory)
    → IsItem (declared_by old.items) (known_after old) os (map decl_tree ds) (known_after mid) → mid ≡ with_known old (known_after mid) → mid.items ≡ map item_tree items
    → OnOk r (more ≡ items ++ i.Known ds ∷ []) → OnOk r (Takes bytes os old (record mid { items = map item_tree more }))
known_step bytes os old mid ds items more (Err e) is kept same pushed = tt
known_step bytes os old mid ds items more (Ok x) is kept same pushed =
    let tree : map item_tree more ≡ old.items ++ known (map decl_tree ds) ∷ [] =
    ap (map item_tree) pushed ∙ map-append item_tree items (i.Known ds ∷ []) ∙ ap (λ (l : List ItemTree). l ++ known (map decl_tree ds) ∷ []) (sym same ∙ ap (λ (u : UnitTree). u.items) kept) in
    takes_known is (λ k. record (kept k) { items = tree k })

pub takes_names : {bytes : List ℕ} {os : List Lexeme} {u v : UnitTree} → Takes bytes os u v → v.names ≡ u.names
takes_names (takes_known is e) = ap (λ (x : UnitTree). x.names) e
takes_names (takes_passed none e) = ap (λ (x : UnitTree). x.names) e

-- what holds of all lexemes holds of those of the first item and of the others
split_all : (P : Lexeme → Type 0) (xs ys : List Lexeme) → All P (xs ++ ys) → All P xs × All P ys
split_all P [] ys h = (All-nil P, h)
split_all P (x ∷ xs) ys h =
    let r = split_all P xs ys (All-tail P x (xs ++ ys) h) in
    (All-cons P x xs (All-head P x (xs ++ ys) h) r.0, r.1)

pub text_parts : (names : List (List ℕ)) (bytes : List ℕ) (os first after : List Lexeme) → os ≡ first ++ after → All (InText names bytes) os → All (InText names bytes) first × All (InText names bytes) after
text_parts names bytes os first after parts h = split_all (InText names bytes) first after (subst (λ (l : List Lexeme). All (InText names bytes) l) parts h)

pub item_step : {bytes : List ℕ} {u v w : UnitTree} (first : List Lexeme) (rest all : List (List Lexeme)) → all ≡ first ∷ rest → Takes bytes first u v → TakesAll bytes rest v w → TakesAll bytes all u w
item_step {bytes = bytes} {u = u} {w = w} first rest all parts one more = subst (λ (l : List (List Lexeme)). TakesAll bytes l u w) (sym parts) (takes_more one more)

pub last_step : {bytes : List ℕ} {u : UnitTree} (all : List (List Lexeme)) → all ≡ [] → TakesAll bytes all u u
last_step {bytes = bytes} {u = u} all none = subst (λ (l : List (List Lexeme)). TakesAll bytes l u u) (sym none) takes_none
