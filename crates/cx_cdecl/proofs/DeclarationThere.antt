-- A declaration is read.
use Rattle.std.proofs.Common.{◌≡◌, ℕ, zero, suc, ◌+◌, ◌≤◌, Bool, true, false, ◌&&◌, map, List, [], ◌∷◌, ◌++◌, length, length-append, Option, Some, refl, sym, ap, ◌∙◌, append_assoc, append-nil, arith}
use Rattle.std.specs.Prelude.{not}
use Rattle.std.specs.List.{list_all}
use Rattle.cx_ctree.specs.Types.{TypeTree}
use Rattle.cx_ctree.specs.Exprs.{ExprTree}
use Rattle.cx_ctree.specs.Path.{type_path}
use Rattle.cx_ctree.specs.Decls.{ParamTree, SignatureTree, DeclTree, types, object, proto}
use Rattle.cx_cword.specs.declared.word.Punctuator.TheVariants as p
use Rattle.cx_cword.specs.declared.lexeme.Lexeme.{Lexeme}
use Rattle.cx_cword.specs.declared.lexeme.LexemeKind.{LexemeKind}
use Rattle.cx_cword.specs.declared.lexeme.LexemeKind.TheVariants as l
use Rattle.cx_cword.specs.Reading.{Is, IsName, ◌>>=◌}
use Rattle.cx_cname.specs.Known.{Known, a_type, an_object, function_type, with_typedef}
use Rattle.cx_cname.specs.Meanings.{may_be}
use Rattle.cx_cconst.specs.Constants.{is_constant}
use Rattle.cx_cexpr.specs.Reading as expr
use Rattle.cx_cexpr.specs.Reading.{Few, cond_at}
use Rattle.cx_cexpr.proofs.TypeAgain as again
use Rattle.cx_cexpr.proofs.Again.{cond_there}
use Rattle.cx_cword.specs.declared.mark.Mark.{Mark}
use Rattle.cx_cword.specs.declared.mark.Mark.TheVariants as m
use Rattle.cx_cdecl.specs.Declarations.{Beside, ArePointers, no_star, also_star, IsObject, object_of, IsParamList, IsFunction, function_of, IsInitDeclarator, type_declared, object_declared, object_initialised, function_declared, AreInitDeclarators, first_declarator, also_declarator, is_function, IsDeclaration, declares_types, declares}
use Rattle.cx_cdecl.specs.Reading.{Got, After, Named, wanted, choose, if_true, after_at, name_at, sizes_after, param_list_at, Declared, declares_object, function_after, declarator_at, initialiser_at, declared_by, init_declarator_at, init_declarators_at, some_declarators, declarators_after, specs_at, declaration_at}
use Rattle.cx_cdecl.proofs.BesideThere.{after_goes, after_ends}
use Rattle.cx_cdecl.proofs.DeclaratorThere.{named_of, name_there, object_go}
use Rattle.cx_cdecl.proofs.Follows.{no_keyword, no_mark, ends_type, ends_item, is_ending, item_closes, item_assign, is_keyword, closes_keyword, closes_bracket, closes_paren, closes_ends, name_no_mark, wanted_goes, choose_goes, choose_other, if_goes, bind_goes, Room}
use Rattle.cx_cdecl.proofs.Grows.{Fits, fits_few, fits_after, fits_less, Grows, grows_none, grows_then, grows_more, grows_typedef, may_be_type, may_be_object, may_be_function}
use Rattle.cx_cdecl.proofs.Growing.{specs_grow}
use Rattle.cx_cdecl.proofs.MembersThere.{pointers_begin, name_begins, specs_tree, specs_there}
use Rattle.cx_cdecl.proofs.ParamsThere.{param_list_there, param_list_grows}
use Rattle.cx_cword.specs.Marks.{fits}

-- ---- declarators

abbrev pub declared_of : DeclTree → Lexeme → Known → List Lexeme → After Declared
declared_of d o known rest = record { tree = record { decl = d; lexeme = o }; known = known; rest = rest }

pub object_declarator : {env : Known} {t v : TypeTree} {a : List Lexeme} {n : ℕ} {o : Lexeme} → Few env → IsObject env t a n o v → (turns : ℕ) (rest : List Lexeme) → no_mark m.OpenBracket rest ≡ true → no_mark m.OpenParen rest ≡ true → Room turns (a ++ rest)
    → declarator_at turns env t (a ++ rest) ≡ Some (declared_of (object n v) o env rest)
unfolding declarator_at
object_declarator {env} {t} {v} {a} {n} {o} few h turns rest bracket paren room =
    let f = object_go env few h turns rest room in
    let plain : Got Named → Option (After Declared) = λ x. Some (declares_object env (sizes_after turns env x)) in
    bind_goes (name_at turns t (a ++ rest)) (λ x. choose m.OpenParen x.rest (plain x) (λ rest. function_after turns env x.tree rest)) f.x f.reads
    ∙ choose_other m.OpenParen f.x.rest (plain f.x) (λ rest. function_after turns env f.x.tree rest) (f.opens paren)
    ∙ ap (λ (x : Got Named). Some (declares_object env x)) (f.goes bracket)

-- a declarator of a function is read, and reading goes on behind it only with what may stand there
pub record FunctionGo (turns : ℕ) (env : Known) (t : TypeTree) (front rest : List Lexeme) (o : Lexeme) (f : SignatureTree) (known : Known) : Type 0 where
  pub left : ℕ
  pub is : declarator_at turns env t (front ++ rest) ≡ Some (declared_of (proto f) o known (after_at turns left rest))

function_reads : {earlier : List DeclTree} {env known : Known} {t w : TypeTree} {a c : List Lexeme} {qs : List ParamTree} (o u e : Lexeme) (n : ℕ) → ArePointers t a w → type_path w ≤ 400 → IsName n o → Is p.OpenParen u → IsParamList earlier env c qs known → Is p.CloseParen e
    → (turns : ℕ) (more : List Lexeme) → Fits env (a ++ (o ∷ u ∷ (c ++ e ∷ more))) → Room turns (a ++ (o ∷ u ∷ (c ++ e ∷ more)))
    → declarator_at turns env t (a ++ (o ∷ u ∷ (c ++ e ∷ more))) ≡ Some (declared_of (proto (record { name = n; result = w; params = qs })) o known (after_at turns turns more))
unfolding declarator_at function_after
function_reads {env = env} {known = known} {t = t} {w = w} {a = a} {c = c} {qs = qs} o u e n h low is opens q shuts turns more fit room =
    let long = length-append a (o ∷ u ∷ (c ++ e ∷ more)) in
    let x : Named = named_of n o w in
    let plain : Got Named → Option (After Declared) = λ x. Some (declares_object env (sizes_after turns env x)) in
    let made : After (List ParamTree) → List Lexeme → Option (After Declared) = λ q after. Some (declared_of (proto (record { name = n; result = w; params = q.tree })) o q.known (after_at turns turns after)) in
    let read = param_list_there q turns e more shuts (fits_less env (a ++ (o ∷ u ∷ (c ++ e ∷ more))) (c ++ e ∷ more) fit (omega (arith, long))) (omega (arith, room, long)) in
    bind_goes (name_at turns t (a ++ (o ∷ u ∷ (c ++ e ∷ more)))) (λ x. choose m.OpenParen x.rest (plain x) (λ rest. function_after turns env x.tree rest)) (record { tree = x; rest = u ∷ (c ++ e ∷ more) }) (name_there h n o is low turns (u ∷ (c ++ e ∷ more)) (omega (arith, room)))
    ∙ choose_goes m.OpenParen u (c ++ e ∷ more) (plain (record { tree = x; rest = u ∷ (c ++ e ∷ more) })) (λ rest. function_after turns env x rest) opens
    ∙ bind_goes (param_list_at turns env (c ++ e ∷ more)) (λ q. wanted m.CloseParen q.rest (made q)) (record { tree = qs; known = known; rest = e ∷ more }) read
    ∙ wanted_goes m.CloseParen e more (made (record { tree = qs; known = known; rest = e ∷ more })) shuts

pub function_go : {earlier : List DeclTree} {env known : Known} {t : TypeTree} {a : List Lexeme} {o : Lexeme} {f : SignatureTree} → IsFunction earlier env t a o f known → (turns : ℕ) (rest : List Lexeme) → Fits env (a ++ rest) → Room turns (a ++ rest) → FunctionGo turns env t a rest o f known
function_go {env = env} {t = t} (function_of {known = known} {a = a} {c = c} {d = d} {w = w} {qs = qs} o u e n h low is opens q shuts i) turns rest fit room =
    let parts : ((a ++ o ∷ u ∷ c) ++ e ∷ d) ++ rest ≡ a ++ (o ∷ u ∷ (c ++ e ∷ (d ++ rest))) = append_assoc (a ++ o ∷ u ∷ c) (e ∷ d) rest ∙ append_assoc a (o ∷ u ∷ c) (e ∷ (d ++ rest)) in
    let whole = ap length parts in
    let long = length-append a (o ∷ u ∷ (c ++ e ∷ (d ++ rest))) in
    let more = length-append c (e ∷ (d ++ rest)) in
    let g = after_goes i turns turns rest (omega (arith, room, whole, long, more)) (omega (arith, room, whole, long, more)) in
    record {
      left = g.left;
      is = ap (declarator_at turns env t) parts
          ∙ function_reads o u e n h low is opens q shuts turns (d ++ rest) (fits_less env (((a ++ o ∷ u ∷ c) ++ e ∷ d) ++ rest) (a ++ (o ∷ u ∷ (c ++ e ∷ (d ++ rest)))) fit (omega (arith, whole))) (omega (arith, room, whole))
          ∙ ap (λ (v : List Lexeme). Some (declared_of (proto (record { name = n; result = w; params = qs })) o known v)) g.goes;
    }

pub function_there : {earlier : List DeclTree} {env known : Known} {t : TypeTree} {a : List Lexeme} {o : Lexeme} {f : SignatureTree} → IsFunction earlier env t a o f known → (turns : ℕ) (rest : List Lexeme) → no_keyword rest ≡ true → Fits env (a ++ rest) → Room turns (a ++ rest)
    → declarator_at turns env t (a ++ rest) ≡ Some (declared_of (proto f) o known rest)
function_there {known = known} {o = o} {f = f} h turns rest ends fit room = let g = function_go h turns rest fit room in g.is ∙ ap (λ (v : List Lexeme). Some (declared_of (proto f) o known v)) (after_ends turns g.left rest ends)

-- ---- declarators of a declaration

pub init_there : {earlier : List DeclTree} {env known : Known} {t : TypeTree} {typedef_ : Bool} {a : List Lexeme} {d : DeclTree} → IsInitDeclarator earlier env t typedef_ a d known → (turns : ℕ) (rest : List Lexeme) → ends_item rest ≡ true → Fits env (a ++ rest) → Room turns (a ++ rest)
    → init_declarator_at turns earlier env t typedef_ (a ++ rest) ≡ Some (record { tree = d; known = known; rest = rest })
unfolding init_declarator_at initialiser_at
init_there {earlier} {env} {t = t} (type_declared {a = a} {o = o} {n = n} {w = w} h may) turns rest ends fit room =
    let shut = item_closes rest ends in
    bind_goes (declarator_at turns env t (a ++ rest)) (λ x. declared_by turns earlier true x.known x.rest x.tree.decl) (declared_of (object n w) o env rest) (object_declarator (fits_few env (a ++ rest) fit) h turns rest (closes_bracket rest shut) (closes_paren rest shut) room)
    ∙ if_goes (may_be env earlier n (a_type w)) (Some (record { tree = types; known = with_typedef env n w; rest = rest })) (may_be_type env earlier n w may)
init_there {earlier} {env} {t = t} (object_declared {a = a} {o = o} {n = n} {w = w} h may) turns rest ends fit room =
    let shut = item_closes rest ends in
    let made : List Lexeme → Option (After DeclTree) = λ after. Some (record { tree = object n w; known = env; rest = after }) in
    bind_goes (declarator_at turns env t (a ++ rest)) (λ x. declared_by turns earlier false x.known x.rest x.tree.decl) (declared_of (object n w) o env rest) (object_declarator (fits_few env (a ++ rest) fit) h turns rest (closes_bracket rest shut) (closes_paren rest shut) room)
    ∙ if_goes (may_be env earlier n (an_object w)) (initialiser_at turns env rest >>= made) (may_be_object env earlier n w may)
    ∙ bind_goes (initialiser_at turns env rest) made rest (choose_other m.Assign rest (Some rest) (λ rest. cond_at env turns 400 rest >>= λ x. if_true (is_constant env x.tree) (Some x.rest)) (item_assign rest ends))
init_there {earlier} {env} {t = t} (object_initialised {a = a} {c = c} {o = o} {n = n} {w = w} {x = x} e h may is i low fixed) turns rest ends fit room =
    let parts : (a ++ e ∷ c) ++ rest ≡ a ++ e ∷ (c ++ rest) = append_assoc a (e ∷ c) rest in
    let whole = ap length parts in
    let long = length-append a (e ∷ (c ++ rest)) in
    let few = fits_few env ((a ++ e ∷ c) ++ rest) fit in
    let made : List Lexeme → Option (After DeclTree) = λ after. Some (record { tree = object n w; known = env; rest = after }) in
    let test : expr.Got ExprTree → Option (List Lexeme) = λ x. if_true (is_constant env x.tree) (Some x.rest) in
    let not_it : (mark : Mark) → fits mark (l.Punctuator p.Assign) ≡ false → no_mark mark (e ∷ (c ++ rest)) ≡ true = λ mark off. ap (λ (kind : LexemeKind). not (fits mark kind)) is ∙ ap not off in
    ap (init_declarator_at turns earlier env t false) parts
    ∙ bind_goes (declarator_at turns env t (a ++ e ∷ (c ++ rest))) (λ x. declared_by turns earlier false x.known x.rest x.tree.decl) (declared_of (object n w) o env (e ∷ (c ++ rest))) (object_declarator few h turns (e ∷ (c ++ rest)) (not_it m.OpenBracket refl) (not_it m.OpenParen refl) (omega (arith, room, whole)))
    ∙ if_goes (may_be env earlier n (an_object w)) (initialiser_at turns env (e ∷ (c ++ rest)) >>= made) (may_be_object env earlier n w may)
    ∙ ap (λ (v : Option (List Lexeme)). v >>= made) (choose_goes m.Assign e (c ++ rest) (Some (e ∷ (c ++ rest))) (λ rest. cond_at env turns 400 rest >>= test) is)
    ∙ ap (λ (v : Option (List Lexeme)). v >>= made) (bind_goes (cond_at env turns 400 (c ++ rest)) test (again.got_of c x rest) (cond_there env few i turns 400 rest (closes_ends rest (item_closes rest ends)) (omega (arith, room, whole, long)) low))
    ∙ ap (λ (v : Option (List Lexeme)). v >>= made) (if_goes (is_constant env x) (Some rest) fixed)
init_there {earlier} {env} {t = t} (function_declared {a = a} {o = o} {f = f} {known = known} h may) turns rest ends fit room =
    bind_goes (declarator_at turns env t (a ++ rest)) (λ x. declared_by turns earlier false x.known x.rest x.tree.decl) (declared_of (proto f) o known rest) (function_there h turns rest (closes_keyword rest (item_closes rest ends)) fit room)
    ∙ if_goes (may_be known earlier f.name (function_type f)) (Some (record { tree = proto f; known = known; rest = rest })) (may_be_function known earlier f.name f.result (map (λ p. p.ctype) f.params) may)

pub function_grows : {earlier : List DeclTree} {env known : Known} {t : TypeTree} {a : List Lexeme} {o : Lexeme} {f : SignatureTree} → IsFunction earlier env t a o f known → Grows env known (length a)
function_grows {env = env} (function_of {known = known} {a = a} {c = c} {d = d} o u e n h low is opens q shuts i) =
    grows_more env known (length c) (length ((a ++ o ∷ u ∷ c) ++ e ∷ d)) (param_list_grows q) (let f = length-append (a ++ o ∷ u ∷ c) (e ∷ d) in let g = length-append a (o ∷ u ∷ c) in omega (arith, f, g))

pub init_grows : {earlier : List DeclTree} {env known : Known} {t : TypeTree} {typedef_ : Bool} {a : List Lexeme} {d : DeclTree} → IsInitDeclarator earlier env t typedef_ a d known → Grows env known (length a)
init_grows {env = env} (type_declared {a = a} {n = n} {w = w} h may) = grows_typedef env n w (length a)
init_grows {env = env} (object_declared {a = a} h may) = grows_none env (length a)
init_grows {env = env} (object_initialised {a = a} {c = c} e h may is i low fixed) = grows_none env (length (a ++ e ∷ c))
init_grows (function_declared h may) = function_grows h

pub inits_grow : {earlier : List DeclTree} {env : Known} {t : TypeTree} {typedef_ : Bool} {known : Known} {a : List Lexeme} {ds : List DeclTree} → AreInitDeclarators earlier env t typedef_ a ds known → Grows env known (length a)
inits_grow (first_declarator h) = init_grows h
inits_grow {env = env} (also_declarator {a = a} {c = c} {known = known} {later = later} o h is i) = grows_then env known later (length a) (length c) (length (a ++ o ∷ c)) (inits_grow h) (init_grows i) (let e = length-append a (o ∷ c) in omega (arith, e))

-- what begins a declarator: a star or a name
record Begins (a : List Lexeme) : Type 0 where
  type : (rest : List Lexeme) → ends_type (a ++ rest) ≡ true
  mark : (mark : Mark) → fits mark (l.Punctuator p.Star) ≡ false → (rest : List Lexeme) → no_mark mark (a ++ rest) ≡ true
  filled : 1 ≤ length a

pointers_mark : {t w : TypeTree} {a : List Lexeme} → ArePointers t a w → (mark : Mark) → fits mark (l.Punctuator p.Star) ≡ false → (rest : List Lexeme) → no_mark mark rest ≡ true → no_mark mark (a ++ rest) ≡ true
pointers_mark no_star mark off rest e = e
pointers_mark (also_star {a = a} {c = c} o h is skips) mark off rest e = ap (no_mark mark) (append_assoc a (o ∷ c) rest) ∙ pointers_mark h mark off (o ∷ (c ++ rest)) (ap (λ (kind : LexemeKind). not (fits mark kind)) is ∙ ap not off)

named_begins : {t w : TypeTree} {a : List Lexeme} (o : Lexeme) (n : ℕ) (c : List Lexeme) → ArePointers t a w → IsName n o → Begins (a ++ o ∷ c)
named_begins {a = a} o n c h is = record {
  type = λ rest. ap ends_type (append_assoc a (o ∷ c) rest) ∙ pointers_begin h (o ∷ (c ++ rest)) (name_begins o n (c ++ rest) is);
  mark = λ mark off rest. ap (no_mark mark) (append_assoc a (o ∷ c) rest) ∙ pointers_mark h mark off (o ∷ (c ++ rest)) (ap not (name_no_mark mark o.kind n is));
  filled = let e = length-append a (o ∷ c) in omega (arith, e);
}

begins_more : (a c : List Lexeme) → Begins a → Begins (a ++ c)
begins_more a c f = record {
  type = λ rest. ap ends_type (append_assoc a c rest) ∙ f.type (c ++ rest);
  mark = λ mark off rest. ap (no_mark mark) (append_assoc a c rest) ∙ f.mark mark off (c ++ rest);
  filled = let e = length-append a c in let g = f.filled in omega (arith, e, g);
}

object_begins_so : {env : Known} {t v : TypeTree} {a : List Lexeme} {n : ℕ} {o : Lexeme} → IsObject env t a n o v → Begins a
object_begins_so (object_of {c = c} o n h is g low) = named_begins o n c h is

function_begins : {earlier : List DeclTree} {env known : Known} {t : TypeTree} {a : List Lexeme} {o : Lexeme} {f : SignatureTree} → IsFunction earlier env t a o f known → Begins a
function_begins (function_of {a = a} {c = c} {d = d} o u e n h low is opens q shuts i) = begins_more (a ++ o ∷ u ∷ c) (e ∷ d) (named_begins o n (u ∷ c) h is)

init_begins : {earlier : List DeclTree} {env known : Known} {t : TypeTree} {typedef_ : Bool} {a : List Lexeme} {d : DeclTree} → IsInitDeclarator earlier env t typedef_ a d known → Begins a
init_begins (type_declared h may) = object_begins_so h
init_begins (object_declared h may) = object_begins_so h
init_begins (object_initialised {a = a} {c = c} e h may is i low fixed) = begins_more a (e ∷ c) (object_begins_so h)
init_begins (function_declared h may) = function_begins h

inits_begin : {earlier : List DeclTree} {env : Known} {t : TypeTree} {typedef_ : Bool} {known : Known} {a : List Lexeme} {ds : List DeclTree} → AreInitDeclarators earlier env t typedef_ a ds known → Begins a
inits_begin (first_declarator h) = init_begins h
inits_begin (also_declarator {a = a} {c = c} o h is i) = begins_more a (o ∷ c) (inits_begin h)

abbrev decls_of : List DeclTree → Known → List Lexeme → After (List DeclTree)
decls_of ds known rest = record { tree = ds; known = known; rest = rest }

-- reading goes on behind the declarators, with so many turns left
record InitsGo (turns n : ℕ) (earlier : List DeclTree) (env : Known) (t : TypeTree) (typedef_ : Bool) (front rest : List Lexeme) (ds : List DeclTree) (known : Known) : Type 0 where
  left : ℕ
  enough : length rest + 1 ≤ left
  goes : init_declarators_at turns earlier t typedef_ n env [] (front ++ rest) ≡ choose m.Comma rest (Some (decls_of ds known rest)) (λ after. init_declarators_at turns earlier t typedef_ left known ds after)

one_goes : (turns n : ℕ) (earlier : List DeclTree) (env known : Known) (t : TypeTree) (typedef_ : Bool) (acc : List DeclTree) (os rest : List Lexeme) (d : DeclTree) → init_declarator_at turns (earlier ++ acc) env t typedef_ os ≡ Some (record { tree = d; known = known; rest = rest })
    → init_declarators_at turns earlier t typedef_ (suc n) env acc os ≡ choose m.Comma rest (Some (decls_of (acc ++ d ∷ []) known rest)) (λ after. init_declarators_at turns earlier t typedef_ n known (acc ++ d ∷ []) after)
unfolding init_declarators_at
one_goes turns n earlier env known t typedef_ acc os rest d e =
    bind_goes (init_declarator_at turns (earlier ++ acc) env t typedef_ os) (λ x. choose m.Comma x.rest (Some (decls_of (acc ++ x.tree ∷ []) x.known x.rest)) (λ after. init_declarators_at turns earlier t typedef_ n x.known (acc ++ x.tree ∷ []) after))
    (record { tree = d; known = known; rest = rest }) e

some_goes : (turns n : ℕ) (earlier : List DeclTree) (env known : Known) (t : TypeTree) (typedef_ : Bool) (acc : List DeclTree) (os rest : List Lexeme) (d : DeclTree) → init_declarator_at turns (earlier ++ acc) env t typedef_ os ≡ Some (record { tree = d; known = known; rest = rest }) → length rest + 2 ≤ n
    → (left : ℕ) × (length rest + 1 ≤ left) × (init_declarators_at turns earlier t typedef_ n env acc os ≡ choose m.Comma rest (Some (decls_of (acc ++ d ∷ []) known rest)) (λ after. init_declarators_at turns earlier t typedef_ left known (acc ++ d ∷ []) after))
some_goes turns zero earlier env known t typedef_ acc os rest d e enough = absurd (omega (arith, enough))
some_goes turns (suc n) earlier env known t typedef_ acc os rest d e enough = (n, omega (arith, enough), one_goes turns n earlier env known t typedef_ acc os rest d e)

inits_go : {earlier : List DeclTree} {env : Known} {t : TypeTree} {typedef_ : Bool} {known : Known} {a : List Lexeme} {ds : List DeclTree} → AreInitDeclarators earlier env t typedef_ a ds known → (turns n : ℕ) (rest : List Lexeme) → ends_item rest ≡ true → Fits env (a ++ rest) → Room turns (a ++ rest) → length (a ++ rest) + 1 ≤ n
    → InitsGo turns n earlier env t typedef_ a rest ds known
inits_go {earlier} {env} {t = t} {typedef_ = typedef_} (first_declarator {a = a} {d = d} {known = known} h) turns n rest ends fit room enough =
    let long = length-append a rest in
    let f = init_begins h in
    let filled = f.filled in
    let read = ap (λ (v : List DeclTree). init_declarator_at turns v env t typedef_ (a ++ rest)) (append-nil earlier) ∙ init_there h turns rest ends fit room in
    let g = some_goes turns n earlier env known t typedef_ [] (a ++ rest) rest d read (omega (arith, enough, long, filled)) in
    record { left = g.0; enough = g.1; goes = g.2 }
inits_go {earlier} {env} {t = t} {typedef_ = typedef_} (also_declarator {a = a} {c = c} {ds = ds} {d = d} {known = known} {later = later} o h is i) turns n rest ends fit room enough =
    let parts : (a ++ o ∷ c) ++ rest ≡ a ++ o ∷ (c ++ rest) = append_assoc a (o ∷ c) rest in
    let whole = ap length parts in
    let more = length-append a (o ∷ (c ++ rest)) in
    let long = length-append c rest in
    let b = init_begins i in
    let filled = b.filled in
    let fit2 = fits_less env ((a ++ o ∷ c) ++ rest) (a ++ o ∷ (c ++ rest)) fit (omega (arith, whole)) in
    let f = inits_go h turns n (o ∷ (c ++ rest)) (ap is_ending is) fit2 (omega (arith, room, whole)) (omega (arith, enough, whole)) in
    let left = f.enough in
    let fit3 = fits_less known (o ∷ (c ++ rest)) (c ++ rest) (fits_after env known a (o ∷ (c ++ rest)) fit2 (inits_grow h)) (omega arith) in
    let g = some_goes turns f.left earlier known later t typedef_ ds (c ++ rest) rest d (init_there i turns rest ends fit3 (omega (arith, room, whole, more))) (omega (arith, left, long, filled)) in
    record {
      left = g.0;
      enough = g.1;
      goes = ap (init_declarators_at turns earlier t typedef_ n env []) parts ∙ f.goes ∙ choose_goes m.Comma o (c ++ rest) (Some (decls_of ds known (o ∷ (c ++ rest)))) (λ after. init_declarators_at turns earlier t typedef_ f.left known ds after) is ∙ g.2;
    }

-- ---- declarations

types_there : (turns : ℕ) (earlier : List DeclTree) (known : Known) (t : TypeTree) (s : Beside) (listed : Bool) (o : Lexeme) (rest : List Lexeme) → s.attributed ≡ false → Is p.Semicolon o → declarators_after turns earlier (specs_tree t s listed known (o ∷ rest)) ≡ Some (decls_of (types ∷ []) known rest)
unfolding declarators_after
types_there turns earlier known t s listed o rest bare is =
    choose_goes m.Semicolon o rest (some_declarators turns earlier (specs_tree t s listed known (o ∷ rest))) (λ after. if_true (not s.attributed) (Some (decls_of (types ∷ []) known after))) is
    ∙ if_goes (not s.attributed) (Some (decls_of (types ∷ []) known rest)) (ap not bare)

declarators_there : {earlier : List DeclTree} {known later : Known} {t : TypeTree} {c : List Lexeme} {ds : List DeclTree} (s : Beside) (listed : Bool) → AreInitDeclarators earlier known t s.typedef_ c ds later → (s.attributed && not (list_all is_function ds)) ≡ false → (turns : ℕ) (o : Lexeme) (rest : List Lexeme) → Is p.Semicolon o
    → Fits known (c ++ o ∷ rest) → Room turns (c ++ o ∷ rest) → declarators_after turns earlier (specs_tree t s listed known (c ++ o ∷ rest)) ≡ Some (decls_of ds later rest)
unfolding declarators_after
declarators_there {earlier} {known} {later} {t} {c} {ds} s listed h bare turns o rest is fit room =
    let b = inits_begin h in
    let f = inits_go h turns turns (o ∷ rest) (ap is_ending is) fit room (omega (arith, room)) in
    let stop = choose_other m.Comma (o ∷ rest) (Some (decls_of ds later (o ∷ rest))) (λ after. init_declarators_at turns earlier t s.typedef_ f.left later ds after) (ap (λ (kind : LexemeKind). not (fits m.Comma kind)) is) in
    let test : After (List DeclTree) → List Lexeme → Option (After (List DeclTree)) = λ x after. if_true (not (s.attributed && not (list_all is_function x.tree))) (Some (decls_of x.tree x.known after)) in
    choose_other m.Semicolon (c ++ o ∷ rest) (some_declarators turns earlier (specs_tree t s listed known (c ++ o ∷ rest))) (λ after. if_true (not s.attributed) (Some (decls_of (types ∷ []) known after))) (b.mark m.Semicolon refl (o ∷ rest))
    ∙ bind_goes (init_declarators_at turns earlier t s.typedef_ turns known [] (c ++ o ∷ rest)) (λ x. wanted m.Semicolon x.rest (test x)) (decls_of ds later (o ∷ rest)) (f.goes ∙ stop)
    ∙ wanted_goes m.Semicolon o rest (test (decls_of ds later (o ∷ rest))) is
    ∙ if_goes (not (s.attributed && not (list_all is_function ds))) (Some (decls_of ds later rest)) (ap not bare)

-- a declaration is read, whatever stands after its semicolon
pub declaration_front : {earlier : List DeclTree} {env known : Known} {front : List Lexeme} {ds : List DeclTree} → IsDeclaration earlier env front ds known → (turns : ℕ) (rest : List Lexeme) → Fits env (front ++ rest) → Room turns (front ++ rest)
    → declaration_at turns earlier env (front ++ rest) ≡ Some (record { tree = ds; known = known; rest = rest })
unfolding declaration_at
declaration_front {earlier} {env} (declares_types {a = a} {t = t} {s = s} {listed = listed} {known = known} o h bare is) turns rest fit room =
    let parts : (a ++ o ∷ []) ++ rest ≡ a ++ o ∷ rest = append_assoc a (o ∷ []) rest in
    let whole = ap length parts in
    let fit2 = fits_less env ((a ++ o ∷ []) ++ rest) (a ++ o ∷ rest) fit (omega (arith, whole)) in
    let ends : ends_type (o ∷ rest) ≡ true = ap (λ (kind : LexemeKind). not (is_keyword kind) && not (fits m.OpenBrace kind)) is in
    ap (λ (v : List Lexeme). specs_at turns earlier turns env v >>= declarators_after turns earlier) parts
    ∙ bind_goes (specs_at turns earlier turns env (a ++ o ∷ rest)) (declarators_after turns earlier) (specs_tree t s listed known (o ∷ rest)) (specs_there h turns turns (o ∷ rest) ends fit2 (omega (arith, room, whole)) (omega (arith, room, whole)))
    ∙ types_there turns earlier known t s listed o rest bare is
declaration_front {earlier} {env} (declares {a = a} {c = c} {t = t} {s = s} {listed = listed} {known = known} {later = later} {ds = ds} o h i bare is) turns rest fit room =
    let parts : ((a ++ c) ++ o ∷ []) ++ rest ≡ a ++ (c ++ o ∷ rest) = append_assoc (a ++ c) (o ∷ []) rest ∙ append_assoc a c (o ∷ rest) in
    let whole = ap length parts in
    let long = length-append a (c ++ o ∷ rest) in
    let b = inits_begin i in
    let fit2 = fits_less env (((a ++ c) ++ o ∷ []) ++ rest) (a ++ (c ++ o ∷ rest)) fit (omega (arith, whole)) in
    let fit3 = fits_after env known a (c ++ o ∷ rest) fit2 (specs_grow h) in
    ap (λ (v : List Lexeme). specs_at turns earlier turns env v >>= declarators_after turns earlier) parts
    ∙ bind_goes (specs_at turns earlier turns env (a ++ (c ++ o ∷ rest))) (declarators_after turns earlier) (specs_tree t s listed known (c ++ o ∷ rest)) (specs_there h turns turns (c ++ o ∷ rest) (b.type (o ∷ rest)) fit2 (omega (arith, room, whole)) (omega (arith, room, whole)))
    ∙ declarators_there s listed i bare turns o rest is fit3 (omega (arith, room, whole, long))

-- the lexemes of a declaration are read whole
pub declaration_there : {earlier : List DeclTree} {env known : Known} {front : List Lexeme} {ds : List DeclTree} → IsDeclaration earlier env front ds known → (turns : ℕ) → Fits env front → Room turns front
    → declaration_at turns earlier env front ≡ Some (record { tree = ds; known = known; rest = [] })
declaration_there {earlier} {env} {front = front} h turns fit room =
    let same : front ++ [] ≡ front = append-nil front in
    let whole = ap length same in
    ap (declaration_at turns earlier env) (sym same) ∙ declaration_front h turns [] (fits_less env front (front ++ []) fit (omega (arith, whole))) (omega (arith, room, whole))
