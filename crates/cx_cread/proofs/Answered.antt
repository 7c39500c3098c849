-- What the readers of an item answer, from the laws on lists.
use Rattle.std.proofs.Common.{◌≡◌, ℕ, ◌+◌, ◌*◌, ◌^◌, ◌≤◌, List, map, length, Option, Some, None, Result, Ok, Err, sym, ap, arith}
use Rattle.std.specs.Prelude.{IfOk, IfSome, IfNone, OnErr, option_map}
use Rattle.std.proofs.lemmas.List.{length-map}
use Rattle.cx_base.specs.declared.list.NoMemory.{NoMemory}
use Rattle.cx_ctree.specs.declared.decl.Decl.{Decl}
use Rattle.cx_ctree.specs.declared.decl.Function.{Function}
use Rattle.cx_ctree.specs.declared.unit.Unit.{Unit as UnitOf}
use Rattle.cx_ctree.specs.Decls.{tag_tree, decl_tree, function_tree, item_tree}
use Rattle.cx_ctree.specs.Units.{UnitTree, unit_tree}
use Rattle.cx_cword.specs.declared.lexeme.Lexeme.{Lexeme}
use Rattle.cx_cname.specs.Known.{Known, known_of, earlier_of}
use Rattle.cx_cname.specs.Changes.{SameFile}
use Rattle.cx_cdecl.specs.Declarations.{IsDeclaration}
use Rattle.cx_cdecl.specs.Reading.{whole_after, whole_at}
use Rattle.cx_cdecl.proofs.Grows.{Fits, Grows}
use Rattle.cx_cread.specs.Reads.{IsDefinition}
use Rattle.cx_cread.specs.Reading.{IsNoDeclaration, IsNoDefinition, with_known}
use Rattle.cx_cread.specs.Definitions.{function_after, definition_at}
use Rattle.cx_cread.proofs.Declared.{declaration_read, declaration_unread, declaration_grows}
use Rattle.cx_cread.proofs.Defined.{definition_sound, definition_unread, definition_grows}

pub kept_file : (old new : UnitOf) → SameFile old new → unit_tree new ≡ with_known (unit_tree old) (known_of new)
kept_file old new f = λ i. record {
  names = f.names i;
  tags = (known_of new).tags;
  typedefs = (known_of new).typedefs;
  consts = new.consts;
  enums = new.enums;
  items = map item_tree (f.items i);
  tokens = f.tokens i;
  named = f.named i;
}

fits : (u : UnitOf) (os : List Lexeme) → length u.tags + length os ≤ 2 ^ 24 → Fits (known_of u) os
fits u os few = record { few = let e = length-map u.tags tag_tree in omega (arith, few, e) }

-- ---- how many tags there are

same_tags : (old new : UnitOf) (n : ℕ) → unit_tree new ≡ unit_tree old → length new.tags ≤ length old.tags + n
same_tags old new n e =
    let tags : length (map tag_tree new.tags) ≡ length (map tag_tree old.tags) = ap (λ (u : UnitTree). length u.tags) e in
    let before = length-map old.tags tag_tree in
    let after = length-map new.tags tag_tree in
    omega (arith, tags, before, after)

more_tags : (old new : UnitOf) (n : ℕ) → Grows (known_of old) (known_of new) n → length new.tags ≤ length old.tags + n
more_tags old new n g =
    let tags = g.tags in
    let before = length-map old.tags tag_tree in
    let after = length-map new.tags tag_tree in
    omega (arith, tags, before, after)

few_tags : {A : Type 0} (old new : UnitOf) (n : ℕ) (r : Result (Option A) NoMemory) → OnErr r (unit_tree new ≡ unit_tree old) → IfOk r (λ r. IfNone r (unit_tree new ≡ unit_tree old)) → IfOk r (λ r. IfSome r (λ x. Grows (known_of old) (known_of new) n)) → length new.tags ≤ length old.tags + n
few_tags old new n (Err e) err none some = same_tags old new n err
few_tags old new n (Ok None) err none some = same_tags old new n none
few_tags old new n (Ok (Some x)) err none some = more_tags old new n some

-- ---- declarations

abbrev ReadsDeclaration : UnitOf → Known → List Lexeme → ℕ → Result (Option (List Decl)) NoMemory → Type 0
ReadsDeclaration u known os turns r = IfOk r (λ r. option_map (λ ds. whole_after ds known) r ≡ whole_at turns (earlier_of u) (known_of u) os)

pub declaration_some : (u : UnitOf) (known : Known) (os : List Lexeme) (turns : ℕ) (r : Result (Option (List Decl)) NoMemory) → ReadsDeclaration u known os turns r → IfOk r (λ r. IfSome r (λ ds. IsDeclaration (earlier_of u) (known_of u) os (map decl_tree ds) known))
declaration_some u known os turns (Err e) value = tt
declaration_some u known os turns (Ok None) value = tt
declaration_some u known os turns (Ok (Some ds)) value = declaration_read turns (earlier_of u) (known_of u) os (whole_after ds known) (sym value)

pub declaration_none : (u : UnitOf) (known : Known) (os : List Lexeme) (turns : ℕ) (r : Result (Option (List Decl)) NoMemory) → length u.tags + length os ≤ 2 ^ 24 → 16 * length os + 64 ≤ turns → ReadsDeclaration u known os turns r
    → IfOk r (λ r. IfNone r (IsNoDeclaration (earlier_of u) (known_of u) os))
declaration_none u known os turns (Err e) few enough value = tt
declaration_none u known os turns (Ok (Some ds)) few enough value = tt
declaration_none u known os turns (Ok None) few enough value = declaration_unread turns (earlier_of u) (known_of u) os (fits u os few) enough (sym value)

pub declaration_few : (old new : UnitOf) (os : List Lexeme) (turns : ℕ) (r : Result (Option (List Decl)) NoMemory) → ReadsDeclaration old (known_of new) os turns r → OnErr r (unit_tree new ≡ unit_tree old) → IfOk r (λ r. IfNone r (unit_tree new ≡ unit_tree old))
    → length new.tags ≤ length old.tags + length os
declaration_few old new os turns r value err none = few_tags old new (length os) r err none (grows r value)
  where
    grows : (r : Result (Option (List Decl)) NoMemory) → ReadsDeclaration old (known_of new) os turns r → IfOk r (λ r. IfSome r (λ x. Grows (known_of old) (known_of new) (length os)))
    grows (Err e) value = tt
    grows (Ok None) value = tt
    grows (Ok (Some ds)) value = declaration_grows (declaration_read turns (earlier_of old) (known_of old) os (whole_after ds (known_of new)) (sym value))

-- ---- functions with their bodies

abbrev ReadsDefinition : UnitOf → Known → List Lexeme → ℕ → Result (Option Function) NoMemory → Type 0
ReadsDefinition u known os turns r = IfOk r (λ r. option_map (λ f. function_after f known) r ≡ definition_at turns (earlier_of u) (known_of u) os)

pub definition_some : (u : UnitOf) (known : Known) (os : List Lexeme) (turns : ℕ) (r : Result (Option Function) NoMemory) → ReadsDefinition u known os turns r → IfOk r (λ r. IfSome r (λ f. IsDefinition (earlier_of u) (known_of u) os (function_tree f) known))
definition_some u known os turns (Err e) value = tt
definition_some u known os turns (Ok None) value = tt
definition_some u known os turns (Ok (Some f)) value = definition_sound turns (earlier_of u) (known_of u) os (function_after f known) (sym value)

pub definition_none : (u : UnitOf) (known : Known) (os : List Lexeme) (turns : ℕ) (r : Result (Option Function) NoMemory) → length u.tags + length os ≤ 2 ^ 24 → 16 * length os + 64 ≤ turns → ReadsDefinition u known os turns r
    → IfOk r (λ r. IfNone r (IsNoDefinition (earlier_of u) (known_of u) os))
definition_none u known os turns (Err e) few enough value = tt
definition_none u known os turns (Ok (Some f)) few enough value = tt
definition_none u known os turns (Ok None) few enough value = definition_unread turns (earlier_of u) (known_of u) os (fits u os few) enough (sym value)

pub definition_few : (old new : UnitOf) (os : List Lexeme) (turns : ℕ) (r : Result (Option Function) NoMemory) → ReadsDefinition old (known_of new) os turns r → OnErr r (unit_tree new ≡ unit_tree old) → IfOk r (λ r. IfNone r (unit_tree new ≡ unit_tree old))
    → length new.tags ≤ length old.tags + length os
definition_few old new os turns r value err none = few_tags old new (length os) r err none (grows r value)
  where
    grows : (r : Result (Option Function) NoMemory) → ReadsDefinition old (known_of new) os turns r → IfOk r (λ r. IfSome r (λ x. Grows (known_of old) (known_of new) (length os)))
    grows (Err e) value = tt
    grows (Ok None) value = tt
    grows (Ok (Some f)) value = definition_grows (definition_sound turns (earlier_of old) (known_of old) os (function_after f (known_of new)) (sym value))
