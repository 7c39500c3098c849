-- What is read as a declaration is one.
use Rattle.std.proofs.Common.{◌≡◌, ℕ, zero, suc, Bool, true, false, ◌&&◌, List, [], ◌∷◌, ◌++◌, Option, Some, None, refl, sym, ap, ◌∙◌, subst, append_assoc, append-nil, inl, inr}
use Rattle.std.specs.Prelude.{not, MatchOption, ⊤}
use Rattle.std.specs.List.{list_all}
use Rattle.std.specs.Option.{option_map_or}
use Rattle.std.proofs.lemmas.Option.{same_Some}
use Rattle.cx_base.proofs.General.{not_true, both_true}
use Rattle.cx_ctree.specs.Types.{TypeTree}
use Rattle.cx_ctree.specs.Decls.{SignatureTree, DeclTree, types, object, proto, function}
use Rattle.cx_cword.specs.declared.word.Punctuator.TheVariants as p
use Rattle.cx_cword.specs.declared.lexeme.Lexeme.{Lexeme}
use Rattle.cx_cword.specs.Reading.{Is, ◌>>=◌}
use Rattle.cx_cname.specs.Known.{Known, Meaning, a_type, an_object, a_function, function_type, meaning, MayBe, with_typedef}
use Rattle.cx_cname.specs.Meanings.{may_be, same_meaning, same_type, same_types}
use Rattle.cx_cname.proofs.Same.{same_means}
use Rattle.cx_cconst.specs.Constants.{is_constant}
use Rattle.cx_cexpr.specs.Reading.{cond_at}
use Rattle.cx_cexpr.proofs.Steps.{bind_some}
use Rattle.cx_cexpr.proofs.Sound.{cond_sound}
use Rattle.cx_cword.specs.declared.mark.Mark.TheVariants as m
use Rattle.cx_cdecl.specs.Declarations.{IsObject, IsFunction, function_of, IsInitDeclarator, type_declared, object_declared, object_initialised, function_declared, AreInitDeclarators, first_declarator, also_declarator, is_function, IsDeclaration, declares_types, declares}
use Rattle.cx_cdecl.specs.Reading as reading
use Rattle.cx_cdecl.specs.Reading.{Got, After, Named, Specs, wanted, choose, if_true, name_at, sizes_after, object_at, param_list_at, after_at, Declared, declares_object, function_after, declarator_at, initialiser_at, declared_by, init_declarator_at, init_declarators_at, some_declarators, declarators_after, declaration_at, specs_at, plain_specs_at, or_else, front_specs_at, object_front, front_declarator_at}
use Rattle.cx_cdecl.proofs.Steps.{if_some, Marked, wanted_some, choose_some}
use Rattle.cx_cdecl.proofs.BesideSound.{after_sound}
use Rattle.cx_cdecl.proofs.DeclaratorSound.{NamedFront, name_sound, ObjectFront, after_name, object_sound}
use Rattle.cx_cdecl.proofs.SpecsSound.{SpecsFront, plain_specs_sound}
use Rattle.cx_cdecl.proofs.MembersSound.{specs_sound}
use Rattle.cx_cdecl.proofs.ParamsSound.{param_list_sound}

-- ---- what a name may be declared as

types_same : (ts ws : List TypeTree) → same_types ts ws ≡ true → ts ≡ ws
types_same [] [] e = refl
types_same (t ∷ ts) (w ∷ ws) e =
    let b = both_true (same_type t w) (same_types ts ws) e in
    ap (λ (v : TypeTree). v ∷ ts) (same_means t w b.0) ∙ ap (λ (v : List TypeTree). w ∷ v) (types_same ts ws b.1)
types_same _ _ e = absurd cc

meaning_same : (a b : Meaning) → same_meaning a b ≡ true → a ≡ b
meaning_same (a_type t) (a_type w) e = ap a_type (same_means t w e)
meaning_same (an_object t) (an_object w) e = ap an_object (same_means t w e)
meaning_same (a_function t ts) (a_function w ws) e =
    let b = both_true (same_type t w) (same_types ts ws) e in
    ap (λ (v : TypeTree). a_function v ts) (same_means t w b.0) ∙ ap (a_function w) (types_same ts ws b.1)
meaning_same _ _ e = absurd cc

may_be_by : (o : Option Meaning) (m : Meaning) → option_map_or (λ old. same_meaning old m) o true ≡ true → MatchOption o ⊤ (λ old. old ≡ m)
may_be_by None m e = tt
may_be_by (Some old) m e = meaning_same old m e

pub may_be_is : (env : Known) (earlier : List DeclTree) (n : ℕ) (m : Meaning) → may_be env earlier n m ≡ true → MayBe env earlier n m
may_be_is env earlier n m e = may_be_by (meaning env earlier n) m e

-- ---- declarators

-- a declarator of an object or a function
pub data IsDeclarator (earlier : List DeclTree) (env : Known) (t : TypeTree) : List Lexeme → Declared → Known → Type 0 where
  of_object : {a : List Lexeme} {w : TypeTree} (o : Lexeme) (n : ℕ) → IsObject env t a n o w → IsDeclarator earlier env t a (record { decl = object n w; lexeme = o }) env
  of_function : {a : List Lexeme} {known : Known} (o : Lexeme) (f : SignatureTree) → IsFunction earlier env t a o f known → IsDeclarator earlier env t a (record { decl = proto f; lexeme = o }) known

pub record DeclaratorFront (earlier : List DeclTree) (env : Known) (t : TypeTree) (os : List Lexeme) (g : After Declared) : Type 0 where
  pub front : List Lexeme
  pub parts : os ≡ front ++ g.rest
  pub so : IsDeclarator earlier env t front g.tree g.known

object_so : (earlier : List DeclTree) (env : Known) (t : TypeTree) (os : List Lexeme) (x : Got Named) → ObjectFront env t os x → DeclaratorFront earlier env t os (declares_object env x)
object_so earlier env t os x f = record { front = f.front; parts = f.parts; so = of_object x.tree.lexeme x.tree.name f.so }

abbrev function_made : Named → Known → List Lexeme → reading.After (List Rattle.cx_ctree.specs.Decls.ParamTree) → After Declared
function_made x known rest q = record { tree = record { decl = proto (record { name = x.name; result = x.ctype; params = q.tree }); lexeme = x.lexeme }; known = known; rest = rest }

function_parts : (os pre x inner q left after a rest : List Lexeme) (o m c : Lexeme) → os ≡ pre ++ o ∷ x → x ≡ m ∷ inner → inner ≡ q ++ left → left ≡ c ∷ after → after ≡ a ++ rest → os ≡ (pre ++ o ∷ m ∷ q ++ c ∷ a) ++ rest
function_parts os pre x inner q left after a rest o m c e1 e2 e3 e4 e5 =
    e1 ∙ ap (λ (v : List Lexeme). pre ++ o ∷ v) e2 ∙ ap (λ (v : List Lexeme). pre ++ o ∷ m ∷ v) e3 ∙ ap (λ (v : List Lexeme). pre ++ (o ∷ m ∷ (q ++ v))) (e4 ∙ ap (λ (v : List Lexeme). c ∷ v) e5)
    ∙ sym (append_assoc pre (o ∷ m ∷ q) (c ∷ (a ++ rest))) ∙ sym (append_assoc (pre ++ o ∷ m ∷ q) (c ∷ a) rest)

function_so : (turns : ℕ) (earlier : List DeclTree) (env : Known) (t : TypeTree) (os rest : List Lexeme) (x : Got Named) (g : After Declared) → NamedFront t os x → Marked m.OpenParen x.rest rest → function_after turns env x.tree rest ≡ Some g → DeclaratorFront earlier env t os g
unfolding function_after
function_so turns earlier env t os rest x g f opens e =
    let go : After (List Rattle.cx_ctree.specs.Decls.ParamTree) → Option (After Declared) = λ q. wanted m.CloseParen q.rest (λ after. Some (function_made x.tree q.known (after_at turns turns after) q)) in
    let i = bind_some (param_list_at turns env rest) go g e in
    let c = wanted_some m.CloseParen i.0.rest (λ after. Some (function_made x.tree i.0.known (after_at turns turns after) i.0)) g i.2 in
    let q = param_list_sound turns earlier env rest c.0 i.0 i.1 c.1 in
    let a = after_sound turns turns c.0 in
    let sig : SignatureTree = record { name = x.tree.name; result = x.tree.ctype; params = i.0.tree } in
    subst (DeclaratorFront earlier env t os) (same_Some (function_made x.tree i.0.known (after_at turns turns c.0) i.0) g c.2) (record {
      front = f.front ++ x.tree.lexeme ∷ opens.at ∷ q.front ++ c.1.at ∷ a.front;
      parts = function_parts os f.front x.rest rest q.front i.0.rest c.0 a.front (after_at turns turns c.0) x.tree.lexeme opens.at c.1.at f.parts opens.parts q.parts c.1.parts a.parts;
      so = of_function x.tree.lexeme sig (function_of x.tree.lexeme opens.at c.1.at x.tree.name f.so f.low f.name opens.is q.so c.1.is a.so);
    })

pub declarator_sound : (turns : ℕ) (earlier : List DeclTree) (env : Known) (t : TypeTree) (os : List Lexeme) (g : After Declared) → declarator_at turns env t os ≡ Some g → DeclaratorFront earlier env t os g
unfolding declarator_at
declarator_sound turns earlier env t os g e =
    let i = bind_some (name_at turns t os) (λ x. choose m.OpenParen x.rest (Some (declares_object env (sizes_after turns env x))) (λ rest. function_after turns env x.tree rest)) g e in
    let f = name_sound turns t os i.0 i.1 in
    elim (choose_some m.OpenParen i.0.rest (Some (declares_object env (sizes_after turns env i.0))) (λ rest. function_after turns env i.0.tree rest) g i.2) [
      | inl c ↦ function_so turns earlier env t os c.0 i.0 g f c.1 c.2
      | inr stop ↦ subst (DeclaratorFront earlier env t os) (same_Some (declares_object env (sizes_after turns env i.0)) g stop) (object_so earlier env t os (sizes_after turns env i.0) (after_name turns env t os i.0 f))
    ]

-- ---- with initialisers

pub record InitFront (earlier : List DeclTree) (env : Known) (t : TypeTree) (typedef_ : Bool) (os : List Lexeme) (g : After DeclTree) : Type 0 where
  pub front : List Lexeme
  pub parts : os ≡ front ++ g.rest
  pub so : IsInitDeclarator earlier env t typedef_ front g.tree g.known

abbrev of_decl : Known → DeclTree → List Lexeme → After DeclTree
of_decl known d rest = record { tree = d; known = known; rest = rest }

object_init : (turns : ℕ) (earlier : List DeclTree) (env : Known) (t : TypeTree) (os a rest : List Lexeme) (o : Lexeme) (n : ℕ) (w : TypeTree) (g : After DeclTree) → os ≡ a ++ rest → IsObject env t a n o w → MayBe env earlier n (an_object w)
    → (initialiser_at turns env rest >>= λ after. Some (of_decl env (object n w) after)) ≡ Some g → InitFront earlier env t false os g
unfolding initialiser_at
object_init turns earlier env t os a rest o n w g parts so may e =
    let i = bind_some (initialiser_at turns env rest) (λ after. Some (of_decl env (object n w) after)) g e in
    subst (InitFront earlier env t false os) (same_Some (of_decl env (object n w) i.0) g i.2)
    (elim (choose_some m.Assign rest (Some rest) (λ r. cond_at env turns 400 r >>= λ x. if_true (is_constant env x.tree) (Some x.rest)) i.0 i.1) [
      | inl c ↦
          let j = bind_some (cond_at env turns 400 c.0) (λ x. if_true (is_constant env x.tree) (Some x.rest)) i.0 c.2 in
          let f = cond_sound env turns 400 c.0 j.0 j.1 in
          let h = if_some (is_constant env j.0.tree) (Some j.0.rest) i.0 j.2 in
          record {
            front = a ++ c.1.at ∷ f.front;
            parts = parts ∙ ap (λ (v : List Lexeme). a ++ v) (c.1.parts ∙ ap (λ (v : List Lexeme). c.1.at ∷ v) (f.parts ∙ ap (λ (v : List Lexeme). f.front ++ v) (same_Some j.0.rest i.0 h.1))) ∙ sym (append_assoc a (c.1.at ∷ f.front) i.0);
            so = object_initialised c.1.at so may c.1.is f.spelled_so f.low h.0;
          }
      | inr stop ↦ record { front = a; parts = parts ∙ ap (λ (v : List Lexeme). a ++ v) (same_Some rest i.0 stop); so = object_declared so may }
    ])

by_kind : (turns : ℕ) (earlier : List DeclTree) (env known : Known) (t : TypeTree) (typedef_ : Bool) (os a rest : List Lexeme) (d : Declared) (g : After DeclTree) → os ≡ a ++ rest → IsDeclarator earlier env t a d known → declared_by turns earlier typedef_ known rest d.decl ≡ Some g
    → InitFront earlier env t typedef_ os g
by_kind turns earlier env known t true os a rest d g parts (of_object {w = w} o n so) e =
    let h = if_some (may_be env earlier n (a_type w)) (Some (of_decl (with_typedef env n w) types rest)) g e in
    subst (InitFront earlier env t true os) (same_Some (of_decl (with_typedef env n w) types rest) g h.1) (record { front = a; parts = parts; so = type_declared so (may_be_is env earlier n (a_type w) h.0) })
by_kind turns earlier env known t false os a rest d g parts (of_object {w = w} o n so) e =
    let h = if_some (may_be env earlier n (an_object w)) (initialiser_at turns env rest >>= λ after. Some (of_decl env (object n w) after)) g e in
    object_init turns earlier env t os a rest o n w g parts so (may_be_is env earlier n (an_object w) h.0) h.1
by_kind turns earlier env known t true os a rest d g parts (of_function o f so) e = absurd cc
by_kind turns earlier env known t false os a rest d g parts (of_function o f so) e =
    let h = if_some (may_be known earlier f.name (function_type f)) (Some (of_decl known (proto f) rest)) g e in
    subst (InitFront earlier env t false os) (same_Some (of_decl known (proto f) rest) g h.1) (record { front = a; parts = parts; so = function_declared so (may_be_is known earlier f.name (function_type f) h.0) })

pub init_declarator_sound : (turns : ℕ) (earlier : List DeclTree) (env : Known) (t : TypeTree) (typedef_ : Bool) (os : List Lexeme) (g : After DeclTree) → init_declarator_at turns earlier env t typedef_ os ≡ Some g → InitFront earlier env t typedef_ os g
unfolding init_declarator_at
init_declarator_sound turns earlier env t typedef_ os g e =
    let i = bind_some (declarator_at turns env t os) (λ x. declared_by turns earlier typedef_ x.known x.rest x.tree.decl) g e in
    let f = declarator_sound turns earlier env t os i.0 i.1 in
    by_kind turns earlier env i.0.known t typedef_ os f.front i.0.rest i.0.tree g f.parts f.so i.2

-- ---- declarators of one declaration

pub data InitBefore (earlier : List DeclTree) (env : Known) (t : TypeTree) (typedef_ : Bool) : List Lexeme → List DeclTree → Known → Type 0 where
  no_declarator : InitBefore earlier env t typedef_ [] [] env
  comma_declarator : {a : List Lexeme} {ds : List DeclTree} {known : Known} (o : Lexeme) → AreInitDeclarators earlier env t typedef_ a ds known → Is p.Comma o → InitBefore earlier env t typedef_ (a ++ o ∷ []) ds known

init_more : (earlier : List DeclTree) (env known later : Known) (t : TypeTree) (typedef_ : Bool) (before : List Lexeme) (ds : List DeclTree) (f : List Lexeme) (d : DeclTree) → InitBefore earlier env t typedef_ before ds known → IsInitDeclarator (earlier ++ ds) known t typedef_ f d later
    → AreInitDeclarators earlier env t typedef_ (before ++ f) (ds ++ d ∷ []) later
init_more earlier env known later t typedef_ before ds f d no_declarator h = first_declarator (subst (λ (v : List DeclTree). IsInitDeclarator v env t typedef_ f d later) (append-nil earlier) h)
init_more earlier env known later t typedef_ before ds f d (comma_declarator {a = a} {ds = es} o all is) h = subst (λ (v : List Lexeme). AreInitDeclarators earlier env t typedef_ v (es ++ d ∷ []) later) (sym (append_assoc a (o ∷ []) f)) (also_declarator o all is h)

pub record InitsFront (earlier : List DeclTree) (env : Known) (t : TypeTree) (typedef_ : Bool) (whole : List Lexeme) (x : After (List DeclTree)) : Type 0 where
  pub body : List Lexeme
  pub parts : whole ≡ body ++ x.rest
  pub so : AreInitDeclarators earlier env t typedef_ body x.tree x.known

module _ (turns : ℕ) (earlier : List DeclTree) (env : Known) (t : TypeTree) (typedef_ : Bool) (whole : List Lexeme) where
  abbrev GoesInits : (Known → List DeclTree → List Lexeme → Option (After (List DeclTree))) → Type 0
  GoesInits again = (before : List Lexeme) (ds : List DeclTree) (known : Known) (os : List Lexeme) (x : After (List DeclTree)) → InitBefore earlier env t typedef_ before ds known → whole ≡ before ++ os → again known ds os ≡ Some x → InitsFront earlier env t typedef_ whole x

  inits_step : (again : Known → List DeclTree → List Lexeme → Option (After (List DeclTree))) → GoesInits again → (body : List Lexeme) (ds : List DeclTree) (known : Known) (rest : List Lexeme) (x : After (List DeclTree)) → AreInitDeclarators earlier env t typedef_ body ds known → whole ≡ body ++ rest
      → choose m.Comma rest (Some (record { tree = ds; known = known; rest = rest })) (λ after. again known ds after) ≡ Some x → InitsFront earlier env t typedef_ whole x
  inits_step again goes body ds known rest x so parts e =
      elim (choose_some m.Comma rest (Some (record { tree = ds; known = known; rest = rest })) (λ after. again known ds after) x e) [
        | inl c ↦ goes (body ++ c.1.at ∷ []) ds known c.0 x (comma_declarator c.1.at so c.1.is) (parts ∙ ap (λ (v : List Lexeme). body ++ v) c.1.parts ∙ sym (append_assoc body (c.1.at ∷ []) c.0)) c.2
        | inr stop ↦ subst (InitsFront earlier env t typedef_ whole) (same_Some (record { tree = ds; known = known; rest = rest }) x stop) (record { body = body; parts = parts; so = so })
      ]

  pub inits_sound : (n : ℕ) → GoesInits (init_declarators_at turns earlier t typedef_ n)
  unfolding init_declarators_at
  inits_sound zero before ds known os x b parts e = absurd cc
  inits_sound (suc n) before ds known os x b parts e =
      let i = bind_some (init_declarator_at turns (earlier ++ ds) known t typedef_ os) (λ y. choose m.Comma y.rest (Some (record { tree = ds ++ y.tree ∷ []; known = y.known; rest = y.rest })) (λ rest. init_declarators_at turns earlier t typedef_ n y.known (ds ++ y.tree ∷ []) rest)) x e in
      let f = init_declarator_sound turns (earlier ++ ds) known t typedef_ os i.0 i.1 in
      inits_step (init_declarators_at turns earlier t typedef_ n) (inits_sound n) (before ++ f.front) (ds ++ i.0.tree ∷ []) i.0.known i.0.rest x (init_more earlier env known i.0.known t typedef_ before ds f.front i.0.tree b f.so)
      (parts ∙ ap (λ (v : List Lexeme). before ++ v) f.parts ∙ sym (append_assoc before f.front i.0.rest)) i.2

-- ---- declarations

pub record DeclarationFront (earlier : List DeclTree) (env : Known) (os : List Lexeme) (g : After (List DeclTree)) : Type 0 where
  pub front : List Lexeme
  pub parts : os ≡ front ++ g.rest
  pub so : IsDeclaration earlier env front g.tree g.known

not_both : (a b : Bool) → not (a && not b) ≡ true → (a && not b) ≡ false
not_both a b e = not_true (a && not b) e

some_sound : (turns : ℕ) (earlier : List DeclTree) (env : Known) (os : List Lexeme) (s : After Specs) (g : After (List DeclTree)) → SpecsFront earlier env os s → some_declarators turns earlier s ≡ Some g → DeclarationFront earlier env os g
some_sound turns earlier env os s g f e =
    let made : After (List DeclTree) → List Lexeme → After (List DeclTree) = λ x after. record { tree = x.tree; known = x.known; rest = after } in
    let go : After (List DeclTree) → Option (After (List DeclTree)) = λ x. wanted m.Semicolon x.rest (λ after. if_true (not (s.tree.said.attributed && not (list_all is_function x.tree))) (Some (made x after))) in
    let i = bind_some (init_declarators_at turns earlier s.tree.ctype s.tree.said.typedef_ turns s.known [] s.rest) go g e in
    let d = inits_sound turns earlier s.known s.tree.ctype s.tree.said.typedef_ s.rest turns [] [] s.known s.rest i.0 no_declarator refl i.1 in
    let c = wanted_some m.Semicolon i.0.rest (λ after. if_true (not (s.tree.said.attributed && not (list_all is_function i.0.tree))) (Some (made i.0 after))) g i.2 in
    let h = if_some (not (s.tree.said.attributed && not (list_all is_function i.0.tree))) (Some (made i.0 c.0)) g c.2 in
    subst (DeclarationFront earlier env os) (same_Some (made i.0 c.0) g h.1) (record {
      front = (f.front ++ d.body) ++ c.1.at ∷ [];
      parts = f.parts ∙ ap (λ (v : List Lexeme). f.front ++ v) (d.parts ∙ ap (λ (v : List Lexeme). d.body ++ v) c.1.parts) ∙ sym (append_assoc f.front d.body (c.1.at ∷ c.0)) ∙ sym (append_assoc (f.front ++ d.body) (c.1.at ∷ []) c.0);
      so = declares c.1.at f.so d.so (not_both s.tree.said.attributed (list_all is_function i.0.tree) h.0) c.1.is;
    })

pub after_specs_sound : (turns : ℕ) (earlier : List DeclTree) (env : Known) (os : List Lexeme) (s : After Specs) (g : After (List DeclTree)) → SpecsFront earlier env os s → declarators_after turns earlier s ≡ Some g → DeclarationFront earlier env os g
unfolding declarators_after
after_specs_sound turns earlier env os s g f e =
    let made : List Lexeme → After (List DeclTree) = λ after. record { tree = types ∷ []; known = s.known; rest = after } in
    elim (choose_some m.Semicolon s.rest (some_declarators turns earlier s) (λ after. if_true (not s.tree.said.attributed) (Some (made after))) g e) [
      | inl c ↦
          let h = if_some (not s.tree.said.attributed) (Some (made c.0)) g c.2 in
          subst (DeclarationFront earlier env os) (same_Some (made c.0) g h.1) (record {
            front = f.front ++ c.1.at ∷ [];
            parts = f.parts ∙ ap (λ (v : List Lexeme). f.front ++ v) c.1.parts ∙ sym (append_assoc f.front (c.1.at ∷ []) c.0);
            so = declares_types c.1.at f.so (not_true s.tree.said.attributed h.0) c.1.is;
          })
      | inr more ↦ some_sound turns earlier env os s g f more
    ]

pub declaration_sound : (turns : ℕ) (earlier : List DeclTree) (env : Known) (os : List Lexeme) (g : After (List DeclTree)) → declaration_at turns earlier env os ≡ Some g → DeclarationFront earlier env os g
unfolding declaration_at
declaration_sound turns earlier env os g e =
    let i = bind_some (specs_at turns earlier turns env os) (declarators_after turns earlier) g e in
    after_specs_sound turns earlier env os i.0 g (specs_sound turns earlier turns env os i.0 i.1) i.2

-- ---- the longest fronts

specs_or : (turns : ℕ) (earlier : List DeclTree) (env : Known) (os : List Lexeme) (o : Option (After Specs)) (g : After Specs) → specs_at turns earlier turns env os ≡ o → or_else o (plain_specs_at turns env os) ≡ Some g → SpecsFront earlier env os g
specs_or turns earlier env os None g is e = plain_specs_sound turns earlier env os g e
specs_or turns earlier env os (Some x) g is e = subst (SpecsFront earlier env os) (same_Some x g e) (specs_sound turns earlier turns env os x is)

pub front_specs_sound : (turns : ℕ) (earlier : List DeclTree) (env : Known) (os : List Lexeme) (g : After Specs) → front_specs_at turns earlier env os ≡ Some g → SpecsFront earlier env os g
unfolding front_specs_at
front_specs_sound turns earlier env os g e = specs_or turns earlier env os (specs_at turns earlier turns env os) g refl e

object_or : (turns : ℕ) (earlier : List DeclTree) (env : Known) (t : TypeTree) (os : List Lexeme) (o : Option (Got Named)) (g : After Declared) → object_at turns env t os ≡ o → object_front env o ≡ Some g → DeclaratorFront earlier env t os g
object_or turns earlier env t os None g is e = absurd cc
object_or turns earlier env t os (Some x) g is e = subst (DeclaratorFront earlier env t os) (same_Some (declares_object env x) g e) (object_so earlier env t os x (object_sound turns env t os x is))

declarator_or : (turns : ℕ) (earlier : List DeclTree) (env : Known) (t : TypeTree) (os : List Lexeme) (o : Option (After Declared)) (g : After Declared) → declarator_at turns env t os ≡ o → or_else o (object_front env (object_at turns env t os)) ≡ Some g → DeclaratorFront earlier env t os g
declarator_or turns earlier env t os None g is e = object_or turns earlier env t os (object_at turns env t os) g refl e
declarator_or turns earlier env t os (Some x) g is e = subst (DeclaratorFront earlier env t os) (same_Some x g e) (declarator_sound turns earlier env t os x is)

pub front_declarator_sound : (turns : ℕ) (earlier : List DeclTree) (env : Known) (t : TypeTree) (os : List Lexeme) (g : After Declared) → front_declarator_at turns env t os ≡ Some g → DeclaratorFront earlier env t os g
unfolding front_declarator_at
front_declarator_sound turns earlier env t os g e = declarator_or turns earlier env t os (declarator_at turns env t os) g refl e
