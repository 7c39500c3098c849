-- What is read as the words of a type, with members and enumerators in braces, is spelled so.
use Rattle.std.proofs.Common.{arith, ◌≡◌, ℕ, Bool, true, false, ◌&&◌, ◌||◌, List, [], ◌∷◌, ◌++◌, Option, Some, None, refl, sym, ap, ◌∙◌, subst, append_assoc}
use Rattle.std.proofs.lemmas.Option.{same_Some}
use Rattle.cx_ctree.specs.Types.{TypeTree, tag}
use Rattle.cx_ctree.specs.Decls.{DeclTree}
use Rattle.cx_cword.specs.declared.lexeme.Lexeme.{Lexeme}
use Rattle.cx_cword.specs.Reading.{IsWord, IsName, ◌>>=◌}
use Rattle.cx_cname.specs.Known.{Known}
use Rattle.cx_cexpr.specs.Expressions.{IsBase, tag_name}
use Rattle.cx_cexpr.specs.Reading as expr
use Rattle.cx_cexpr.specs.Reading.{named, base_at}
use Rattle.cx_cexpr.proofs.Steps.{bind_some, named_some, at_first}
use Rattle.cx_cexpr.proofs.TypeSound.{base_sound}
use Rattle.cx_cdecl.specs.declared.kinds.Head.{Head}
use Rattle.cx_cdecl.specs.declared.kinds.Head.TheVariants as h
use Rattle.cx_cdecl.specs.Declarations.{Beside, nothing_said, both_said, IsSpecifier, declared_before, new_tag, AreSpecs, specs}
use Rattle.cx_cdecl.specs.Kinds.{head_of}
use Rattle.cx_cdecl.specs.Reading.{Got, After, Specifier, Specs, Placed, beside_at, place_at, plain_tag, plain_base, plain_by, plain_at, specs_of, plain_specs_at}
use Rattle.cx_cdecl.proofs.Shapes.{head_record}
use Rattle.cx_cdecl.proofs.BesideSound.{Said, beside_sound}
use Rattle.cx_cdecl.proofs.TagSound.{PlacedSo, old_place, fresh_place, placed_so}

-- ---- the words of a type

pub record SpecifierFront (earlier : List DeclTree) (env : Known) (os : List Lexeme) (g : After Specifier) : Type 0 where
  pub front : List Lexeme
  pub parts : os ≡ front ++ g.rest
  pub so : IsSpecifier earlier env front g.tree.ctype g.tree.listed g.known

plain_base_so : (earlier : List DeclTree) (env : Known) (os : List Lexeme) (o : Option (expr.Got TypeTree)) (g : After Specifier) → base_at env 400 os ≡ o → plain_base env o ≡ Some g → SpecifierFront earlier env os g
plain_base_so earlier env os None g is e = absurd cc
plain_base_so earlier env os (Some x) g is e =
    let f = base_sound env 400 os x is in
    subst (SpecifierFront earlier env os) (same_Some (record { tree = record { ctype = x.tree; listed = false }; known = env; rest = x.rest }) g e) (record { front = f.front; parts = f.parts; so = declared_before f.spelled_so f.low })

placed_front : (earlier : List DeclTree) (env : Known) (o w : Lexeme) (rest : List Lexeme) (n : ℕ) (union : Bool) (p : Placed) → IsWord (Rattle.cx_cexpr.specs.Expressions.tag_word union) o → IsName n w → PlacedSo env union n p
    → SpecifierFront earlier env (o ∷ w ∷ rest) (record { tree = record { ctype = tag p.place; listed = false }; known = p.known; rest = rest })
placed_front earlier env o w rest n union p is called (old_place at e f) = record { front = o ∷ w ∷ []; parts = refl; so = declared_before (tag_name o w n at union is called e f) (omega arith) }
placed_front earlier env o w rest n union p is called (fresh_place e) = record { front = o ∷ w ∷ []; parts = refl; so = new_tag o w n union is called e }

plain_head : (earlier : List DeclTree) (env : Known) (o : Lexeme) (rest : List Lexeme) (head : Head) (g : After Specifier) → head_of o.kind ≡ head → plain_by env (o ∷ rest) rest head ≡ Some g → SpecifierFront earlier env (o ∷ rest) g
plain_head earlier env o rest (h.Record union) g is e =
    let n = named_some rest (λ w n after. place_at env union (Some n) >>= plain_tag after) g e in
    let i = bind_some (place_at env union (Some n.1)) (plain_tag n.2) g n.5 in
    subst (SpecifierFront earlier env (o ∷ rest)) (same_Some (record { tree = record { ctype = tag i.0.place; listed = false }; known = i.0.known; rest = n.2 }) g i.2)
    (subst (λ (v : List Lexeme). SpecifierFront earlier env (o ∷ v) (record { tree = record { ctype = tag i.0.place; listed = false }; known = i.0.known; rest = n.2 })) (sym n.3)
    (placed_front earlier env o n.0 n.2 n.1 union i.0 (head_record o.kind union is) n.4 (placed_so env union n.1 i.0 i.1)))
plain_head earlier env o rest h.Enum g is e = plain_base_so earlier env (o ∷ rest) (base_at env 400 (o ∷ rest)) g refl e
plain_head earlier env o rest h.Other g is e = plain_base_so earlier env (o ∷ rest) (base_at env 400 (o ∷ rest)) g refl e

pub plain_sound : (earlier : List DeclTree) (env : Known) (os : List Lexeme) (g : After Specifier) → plain_at env os ≡ Some g → SpecifierFront earlier env os g
unfolding plain_at
plain_sound earlier env os g e =
    let a = at_first os (λ o rest. plain_by env os rest (head_of o.kind)) g e in
    subst (λ (v : List Lexeme). SpecifierFront earlier env v g) (sym a.2) (plain_head earlier env a.0 a.1 (head_of a.0.kind) g refl (ap (λ (v : List Lexeme). plain_by env v a.1 (head_of a.0.kind)) (sym a.2) ∙ a.3))

-- ---- with the words beside it

pub record SpecsFront (earlier : List DeclTree) (env : Known) (os : List Lexeme) (g : After Specs) : Type 0 where
  pub front : List Lexeme
  pub parts : os ≡ front ++ g.rest
  pub so : AreSpecs earlier env front g.tree.ctype g.tree.said g.tree.listed g.known

abbrev pub first_said : (turns : ℕ) → List Lexeme → Got Beside
first_said turns os = beside_at turns true turns nothing_said os

pub around : (turns : ℕ) (earlier : List DeclTree) (env : Known) (os : List Lexeme) (x : After Specifier) (r : Got Beside) → SpecifierFront earlier env (first_said turns os).rest x → (open_ : Bool) → Said open_ nothing_said x.rest r
    → ((said : Beside) → said ≡ r.tree → (x.tree.listed && ((first_said turns os).tree.attributed || said.attributed)) ≡ false) → SpecsFront earlier env os (specs_of (first_said turns os) x r)
around turns earlier env os x r f open_ after bare =
    let before = beside_sound turns true turns nothing_said os in
    let said : both_said before.said after.said ≡ both_said (first_said turns os).tree r.tree = ap (λ (v : Beside). both_said v after.said) before.tree ∙ ap (both_said (first_said turns os).tree) after.tree in
    record {
      front = (before.front ++ f.front) ++ after.front;
      parts = before.parts ∙ ap (λ (v : List Lexeme). before.front ++ v) (f.parts ∙ ap (λ (v : List Lexeme). f.front ++ v) after.parts) ∙ ap (λ (v : List Lexeme). before.front ++ v) (sym (append_assoc f.front after.front r.rest))
          ∙ sym (append_assoc before.front (f.front ++ after.front) r.rest) ∙ ap (λ (v : List Lexeme). v ++ r.rest) (sym (append_assoc before.front f.front after.front));
      so = subst (λ (s : Beside). AreSpecs earlier env ((before.front ++ f.front) ++ after.front) x.tree.ctype s x.tree.listed x.known) said
          (specs before.so f.so after.so (ap (λ (s : Beside). x.tree.listed && (s.attributed || after.said.attributed)) before.tree ∙ bare after.said after.tree));
    }

plain_not_listed : (env : Known) (os : List Lexeme) (g : After Specifier) → plain_at env os ≡ Some g → g.tree.listed ≡ false
unfolding plain_at
plain_not_listed env os g e =
    let a = at_first os (λ o rest. plain_by env os rest (head_of o.kind)) g e in
    unlisted env os a.1 (head_of a.0.kind) g a.3
  where
    base_unlisted : (env : Known) (o : Option (expr.Got TypeTree)) (g : After Specifier) → plain_base env o ≡ Some g → g.tree.listed ≡ false
    base_unlisted env None g e = absurd cc
    base_unlisted env (Some x) g e = ap (λ (v : After Specifier). v.tree.listed) (sym (same_Some _ g e))

    unlisted : (env : Known) (os rest : List Lexeme) (head : Head) (g : After Specifier) → plain_by env os rest head ≡ Some g → g.tree.listed ≡ false
    unlisted env os rest (h.Record union) g e =
        let n = named_some rest (λ w n after. place_at env union (Some n) >>= plain_tag after) g e in
        let i = bind_some (place_at env union (Some n.1)) (plain_tag n.2) g n.5 in
        ap (λ (v : After Specifier). v.tree.listed) (sym (same_Some _ g i.2))
    unlisted env os rest h.Enum g e = base_unlisted env (base_at env 400 os) g e
    unlisted env os rest h.Other g e = base_unlisted env (base_at env 400 os) g e

and_false : (a b : Bool) → a ≡ false → (a && b) ≡ false
and_false true b e = absurd cc
and_false false b e = refl

pub plain_specs_sound : (turns : ℕ) (earlier : List DeclTree) (env : Known) (os : List Lexeme) (g : After Specs) → plain_specs_at turns env os ≡ Some g → SpecsFront earlier env os g
unfolding plain_specs_at
plain_specs_sound turns earlier env os g e =
    let s = first_said turns os in
    let i = bind_some (plain_at env s.rest) (λ x. Some (specs_of s x (beside_at turns true turns nothing_said x.rest))) g e in
    let r = beside_at turns true turns nothing_said i.0.rest in
    subst (SpecsFront earlier env os) (same_Some (specs_of s i.0 r) g i.2)
    (around turns earlier env os i.0 r (plain_sound earlier env s.rest i.0 i.1) true (beside_sound turns true turns nothing_said i.0.rest) (λ said same. and_false i.0.tree.listed _ (plain_not_listed env s.rest i.0 i.1)))

pub plain_unlisted : (turns : ℕ) (env : Known) (os : List Lexeme) (g : After Specs) → plain_specs_at turns env os ≡ Some g → g.tree.listed ≡ false
unfolding plain_specs_at
plain_unlisted turns env os g e =
    let s = first_said turns os in
    let i = bind_some (plain_at env s.rest) (λ x. Some (specs_of s x (beside_at turns true turns nothing_said x.rest))) g e in
    ap (λ (v : After Specs). v.tree.listed) (sym (same_Some _ g i.2)) ∙ plain_not_listed env s.rest i.0 i.1
