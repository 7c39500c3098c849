-- What a C file is read as has small numbers.
use Rattle.std.proofs.Common.{ℕ, ℤ, List, [], ◌∷◌, ◌++◌}
use Rattle.std.specs.Prelude.{All}
use Rattle.std.proofs.lemmas.List.Elements.{All-nil, All-cons, All-head, All-tail, All-append}
use Rattle.cx_cname.specs.Known.{Known, declared_by}
use Rattle.cx_cread.specs.Reads.{IsDefinition, definition, IsItem, declares_item, defines_item, AreItems, no_items, known_item, passed_item}
use Rattle.cx_ctree.specs.Decls.{FunctionTree, DeclTree, function, ItemTree}
use Rattle.cx_cword.specs.declared.lexeme.Lexeme.{Lexeme}
use Rattle.cx_gline.specs.Law.{EnumerationsSmall}
use Rattle.cx_gline.specs.Lines.{IsSmall}
use Rattle.cx_cnumber.proofs.Declarations.{specs_small, function_small, declaration_small}
use Rattle.cx_cnumber.proofs.Lexemes.{Small, items_small, around}
use Rattle.cx_cnumber.proofs.Statements.{block_items_small}
use Rattle.cx_cnumber.specs.Law.{DeclSmall, ReadIsSmall}

definition_small : {earlier : List DeclTree} {env known : Known} {os : List Lexeme} {f : FunctionTree} → IsDefinition earlier env os f known → EnumerationsSmall env → Small os → EnumerationsSmall known × DeclSmall (function f)
definition_small {earlier = earlier} (definition {a = a} {c = c} {d = d} m l h typedef g may none opens b closes low) e s =
    let r = around (a ++ c) m d (around ((a ++ c) ++ m ∷ d) l [] s).0 in
    block_items_small earlier b (function_small earlier g (specs_small earlier h e)) r.1

item_small : {earlier : List DeclTree} {env : Known} {os : List Lexeme} {ds : List DeclTree} {known : Known} → IsItem earlier env os ds known → EnumerationsSmall env → Small os → EnumerationsSmall known × All DeclSmall ds
item_small (declares_item h) e s = declaration_small h e
item_small (defines_item {f = f} h) e s = let r = definition_small h e s in (r.0, All-cons DeclSmall (function f) [] r.1 (All-nil DeclSmall))

items_read_small : {earlier : List DeclTree} {env known : Known} {oss : List (List Lexeme)} {items : List ItemTree} → AreItems earlier env oss items known → EnumerationsSmall env → All Small oss → EnumerationsSmall known × All DeclSmall (declared_by items)
items_read_small no_items e s = (e, All-nil DeclSmall)
items_read_small (known_item {ds = ds} {os = os} {rest = more} {items = items} h g) e s =
    let r = item_small h e (All-head Small os more s) in let v = items_read_small g r.0 (All-tail Small os more s) in (v.0, All-append DeclSmall ds (declared_by items) r.1 v.1)
items_read_small (passed_item {os = os} {rest = more} none g) e s = items_read_small g e (All-tail Small os more s)

pub read_is_small : ReadIsSmall
read_is_small bytes tokens u h = items_read_small h.items (All-nil (λ (c : ℕ × ℤ). IsSmall c.1)) (items_small u.names bytes tokens)
