-- What is read as a declarator of an object is one.
use Rattle.std.proofs.Common.{◌≡◌, ℕ, zero, suc, ◌+◌, ◌-◌, ◌^◌, ◌<◌, ◌≤◌, Bool, true, false, ◌&&◌, List, [], ◌∷◌, ◌++◌, length, Option, Some, None, refl, sym, ap, ◌∙◌, subst, append_assoc, append-nil, arith, length-append, inl, inr, ◌⊎◌}
use Rattle.std.proofs.lemmas.Bool.Decides.{nat_tests}
use Rattle.std.specs.Prelude.{ℤ, pos, nat_abs, nat_le}
use Rattle.std.proofs.lemmas.Option.{same_Some}
use Rattle.cx_ctree.specs.Types.{TypeTree, pointer}
use Rattle.cx_ctree.specs.Path.{type_path, expr_path}
use Rattle.cx_ctree.specs.Exprs.{ExprTree}
use Rattle.cx_cword.specs.declared.word.Punctuator.TheVariants as p
use Rattle.cx_cword.specs.declared.lexeme.Lexeme.{Lexeme}
use Rattle.cx_cword.specs.Reading.{Is, IsName, ◌>>=◌}
use Rattle.cx_cname.specs.Known.{Known, is_complete}
use Rattle.cx_cconst.specs.Constants.{constant_in}
use Rattle.cx_cexpr.specs.Expressions.{AreSkipped, IsCond}
use Rattle.cx_cexpr.specs.Reading.{skip_at, cond_at, named}
use Rattle.cx_cexpr.proofs.Steps.{bind_some, named_some}
use Rattle.cx_cexpr.proofs.TypeSound.{skip_sound}
use Rattle.cx_cexpr.proofs.Sound.{cond_sound}
use Rattle.cx_cword.specs.declared.mark.Mark.TheVariants as m
use Rattle.cx_cdecl.specs.Declarations.{ArePointers, no_star, also_star, AreSizes, no_size, also_size, IsObject, object_of}
use Rattle.cx_cdecl.specs.Reading.{Got, wanted, choose, pointers_at, in_size, size_by, size_at, sizes_by, sizes_at, sized_at, arrays, Named, name_at, sizes_after, object_at}
use Rattle.cx_cdecl.proofs.Steps.{if_some, wanted_some, choose_some, both_parts}

-- ---- stars

stars_first : (t : TypeTree) (o : Lexeme) (c : List Lexeme) {a : List Lexeme} {w : TypeTree} → Is p.Star o → AreSkipped c → ArePointers (pointer t) a w → ArePointers t (o ∷ c ++ a) w
stars_first t o c is s no_star = subst (λ (v : List Lexeme). ArePointers t v (pointer t)) (sym (append-nil (o ∷ c))) (also_star o no_star is s)
stars_first t o c is s (also_star {a = a} {c = d} {w = w} n h i j) = subst (λ (v : List Lexeme). ArePointers t v (pointer w)) (append_assoc (o ∷ c) a (n ∷ d)) (also_star n (stars_first t o c is s h) i j)

-- a type with the stars before it, which is not too high
pub record Pointers (t : TypeTree) (d : ℕ) (os : List Lexeme) (g : Got TypeTree) : Type 0 where
  pub front : List Lexeme
  pub parts : os ≡ front ++ g.rest
  pub so : ArePointers t front g.tree
  pub low : type_path g.tree ≤ d

pub low_is : (t : TypeTree) (d : ℕ) → nat_le (type_path t) d ≡ true → type_path t ≤ d
low_is t d e = grind (arith, nat_tests)

pub pointers_sound : (n d : ℕ) (t : TypeTree) (os : List Lexeme) (g : Got TypeTree) → pointers_at n d t os ≡ Some g → Pointers t d os g
unfolding pointers_at
pointers_sound zero d t os g e = absurd cc
pointers_sound (suc n) d t os g e =
    let h = if_some (nat_le (type_path t) d) (choose m.Star os (Some (record { tree = t; rest = os })) (λ rest. pointers_at n d (pointer t) (skip_at 0 rest).rest)) g e in
    elim (choose_some m.Star os (Some (record { tree = t; rest = os })) (λ rest. pointers_at n d (pointer t) (skip_at 0 rest).rest) g h.1) [
      | inl c ↦
          let s = skip_sound 0 c.0 in
          let f = pointers_sound n d (pointer t) (skip_at 0 c.0).rest g c.2 in
          record {
            front = c.1.at ∷ s.front ++ f.front;
            parts = c.1.parts ∙ ap (λ (v : List Lexeme). c.1.at ∷ v) (both_parts c.0 s.front (skip_at 0 c.0).rest f.front g.rest s.parts f.parts);
            so = stars_first t c.1.at s.front c.1.is s.words f.so;
            low = f.low;
          }
      | inr done ↦ subst (Pointers t d os) (same_Some (record { tree = t; rest = os }) g done) (record { front = []; parts = refl; so = no_star; low = low_is t d h.0 })
    ]

-- ---- sizes

pub record InSize (v : ℤ) : Type 0 where
  pub whole : v ≡ pos (nat_abs v)
  pub some : 1 ≤ nat_abs v
  pub few : nat_abs v ≤ 2 ^ 31

size_is : (v : ℤ) → in_size v ≡ true → InSize v
size_is (pos n) e = record { whole = refl; some = grind (arith, nat_tests, e); few = grind (arith, nat_tests, e) }
size_is _ e = absurd cc

-- a size in brackets
pub record Size (env : Known) (os : List Lexeme) (g : Got ℕ) : Type 0 where
  pub open_mark : Lexeme
  pub front : List Lexeme
  pub close_mark : Lexeme
  pub x : ExprTree
  pub parts : os ≡ open_mark ∷ front ++ close_mark ∷ g.rest
  pub opens : Is p.OpenBracket open_mark
  pub so : IsCond env front x
  pub closes : Is p.CloseBracket close_mark
  pub low : expr_path x ≤ 400
  pub value : constant_in env x ≡ Some (pos g.tree)
  pub some : 1 ≤ g.tree
  pub few : g.tree ≤ 2 ^ 31

size_by_some : (rest : List Lexeme) (o : Option ℤ) (g : Got ℕ) → size_by rest o ≡ Some g → (v : ℤ) × (o ≡ Some v) × InSize v × (◌≡◌ {A = Got ℕ} (record { tree = nat_abs v; rest = rest }) g)
size_by_some rest None g e = absurd cc
size_by_some rest (Some v) g e = let h = if_some (in_size v) (Some (record { tree = nat_abs v; rest = rest })) g e in (v, refl, size_is v h.0, same_Some _ g h.1)

size_sound : (turns : ℕ) (env : Known) (os : List Lexeme) (g : Got ℕ) → size_at turns env os ≡ Some g → Size env os g
unfolding size_at
size_sound turns env os g e =
    let w = wanted_some m.OpenBracket os (λ rest. cond_at env turns 400 rest >>= λ x. wanted m.CloseBracket x.rest (λ after. size_by after (constant_in env x.tree))) g e in
    let i = bind_some (cond_at env turns 400 w.0) (λ x. wanted m.CloseBracket x.rest (λ after. size_by after (constant_in env x.tree))) g w.2 in
    let f = cond_sound env turns 400 w.0 i.0 i.1 in
    let c = wanted_some m.CloseBracket i.0.rest (λ after. size_by after (constant_in env i.0.tree)) g i.2 in
    let v = size_by_some c.0 (constant_in env i.0.tree) g c.2 in
    subst (Size env os) v.3 (record {
      open_mark = w.1.at;
      front = f.front;
      close_mark = c.1.at;
      x = i.0.tree;
      parts = w.1.parts ∙ ap (λ (u : List Lexeme). w.1.at ∷ u) (f.parts ∙ ap (λ (u : List Lexeme). f.front ++ u) c.1.parts);
      opens = w.1.is;
      so = f.spelled_so;
      closes = c.1.is;
      low = f.low;
      value = v.1 ∙ ap Some v.2.whole;
      some = v.2.some;
      few = v.2.few;
    })

pub complete_arrays : (env : Known) (t : TypeTree) (ns : List ℕ) → is_complete env (arrays t ns) ≡ is_complete env t
complete_arrays env t [] = refl
complete_arrays env t (n ∷ ns) = complete_arrays env t ns

pub path_arrays : (t : TypeTree) (ns : List ℕ) → type_path (arrays t ns) ≡ length ns + type_path t
path_arrays t [] = omega arith
path_arrays t (n ∷ ns) = let h = path_arrays t ns in omega (arith, h)

-- further sizes of arrays of this type
pub record Sizes (env : Known) (t : TypeTree) (d : ℕ) (ns : List ℕ) (os : List Lexeme) (g : Got (List ℕ)) : Type 0 where
  pub front : List Lexeme
  pub more : List ℕ
  pub parts : os ≡ front ++ g.rest
  pub tree : ns ++ more ≡ g.tree
  pub so : AreSizes env t front (arrays t more)
  pub low : length more ≤ d
  pub bare : more ≡ [] → front ≡ []
  pub filled : (n : ℕ) (rest : List ℕ) → more ≡ n ∷ rest → 0 < length front

sizes_none : (env : Known) (t : TypeTree) (d : ℕ) (ns : List ℕ) (os : List Lexeme) → Sizes env t d ns os (record { tree = ns; rest = os })
sizes_none env t d ns os = record { front = []; more = []; parts = refl; tree = append-nil ns; so = no_size; low = omega arith; bare = λ e. refl; filled = λ n rest e. absurd cc }

one_size : (env : Known) (t : TypeTree) (d : ℕ) (ns : List ℕ) (os : List Lexeme) (x : Got ℕ) (g : Got (List ℕ)) → is_complete env t ≡ true → Size env os x → Sizes env t d (ns ++ x.tree ∷ []) x.rest g → Sizes env t (suc d) ns os g
one_size env t d ns os x g done s f = record {
  front = s.open_mark ∷ s.front ++ s.close_mark ∷ f.front;
  more = x.tree ∷ f.more;
  parts = s.parts ∙ ap (λ (u : List Lexeme). s.open_mark ∷ s.front ++ s.close_mark ∷ u) f.parts ∙ ap (λ (u : List Lexeme). s.open_mark ∷ u) (sym (append_assoc s.front (s.close_mark ∷ f.front) g.rest));
  tree = sym (append_assoc ns (x.tree ∷ []) f.more) ∙ f.tree;
  so = also_size s.open_mark s.close_mark x.tree s.opens s.so s.closes s.low s.value s.some s.few f.so (complete_arrays env t f.more ∙ done);
  low = let h = f.low in omega (arith, h);
  bare = λ e. absurd cc;
  filled = λ n rest e. omega arith;
}

sizes_step : (turns : ℕ) (env : Known) (t : TypeTree) (d : ℕ) (ns : List ℕ) (os : List Lexeme) (again : ℕ → List Lexeme → Got (List ℕ)) → is_complete env t ≡ true
    → ((n : ℕ) (rest : List Lexeme) → Sizes env t d (ns ++ n ∷ []) rest (again n rest))
    → (found : Option (Got ℕ)) → size_at turns env os ≡ found → Sizes env t (suc d) ns os (sizes_by again (record { tree = ns; rest = os }) found)
sizes_step turns env t d ns os again done goes None is = sizes_none env t (suc d) ns os
sizes_step turns env t d ns os again done goes (Some x) is = one_size env t d ns os x (again x.tree x.rest) done (size_sound turns env os x is) (goes x.tree x.rest)

pub sizes_sound : (turns : ℕ) (env : Known) (t : TypeTree) → is_complete env t ≡ true → (d : ℕ) (ns : List ℕ) (os : List Lexeme) → Sizes env t d ns os (sizes_at turns env d ns os)
unfolding sizes_at
sizes_sound turns env t done zero ns os = sizes_none env t zero ns os
sizes_sound turns env t done (suc d) ns os = sizes_step turns env t d ns os (λ n rest. sizes_at turns env d (ns ++ n ∷ []) rest) done (λ n rest. sizes_sound turns env t done d (ns ++ n ∷ []) rest) (size_at turns env os) refl

sized_step : (turns : ℕ) (env : Known) (t : TypeTree) (d : ℕ) (os : List Lexeme) (b : Bool) → is_complete env t ≡ b
    → Sizes env t (d - type_path t) [] os (Rattle.std.proofs.Common.cond b (sizes_at turns env (d - type_path t) [] os) (record { tree = []; rest = os }))
sized_step turns env t d os true is = sizes_sound turns env t is (d - type_path t) [] os
sized_step turns env t d os false is = sizes_none env t (d - type_path t) [] os

pub sized_sound : (turns : ℕ) (env : Known) (t : TypeTree) (d : ℕ) (os : List Lexeme) → Sizes env t (d - type_path t) [] os (sized_at turns env d t os)
sized_sound turns env t d os = sized_step turns env t d os (is_complete env t) refl

-- ---- objects

-- the stars and the name of a declarator
pub record NamedFront (t : TypeTree) (os : List Lexeme) (g : Got Named) : Type 0 where
  pub front : List Lexeme
  pub parts : os ≡ front ++ g.tree.lexeme ∷ g.rest
  pub so : ArePointers t front g.tree.ctype
  pub name : IsName g.tree.name g.tree.lexeme
  pub low : type_path g.tree.ctype ≤ 400

pub name_sound : (turns : ℕ) (t : TypeTree) (os : List Lexeme) (g : Got Named) → name_at turns t os ≡ Some g → NamedFront t os g
unfolding name_at
name_sound turns t os g e =
    let go : Got TypeTree → Lexeme → ℕ → List Lexeme → Option (Got Named) = λ x o n rest. Some (record { tree = record { name = n; lexeme = o; ctype = x.tree }; rest = rest }) in
    let i = bind_some (pointers_at turns 400 t os) (λ x. named x.rest (go x)) g e in
    let f = pointers_sound turns 400 t os i.0 i.1 in
    let n = named_some i.0.rest (go i.0) g i.2 in
    subst (NamedFront t os) (same_Some (record { tree = record { name = n.1; lexeme = n.0; ctype = i.0.tree }; rest = n.2 }) g n.5) (record {
      front = f.front;
      parts = f.parts ∙ ap (λ (v : List Lexeme). f.front ++ v) n.3;
      so = f.so;
      name = n.4;
      low = f.low;
    })

-- a declarator of an object
pub record ObjectFront (env : Known) (t : TypeTree) (os : List Lexeme) (g : Got Named) : Type 0 where
  pub front : List Lexeme
  pub parts : os ≡ front ++ g.rest
  pub so : IsObject env t front g.tree.name g.tree.lexeme g.tree.ctype

pub after_name : (turns : ℕ) (env : Known) (t : TypeTree) (os : List Lexeme) (x : Got Named) → NamedFront t os x → ObjectFront env t os (sizes_after turns env x)
unfolding sizes_after
after_name turns env t os x f =
    let s = sized_sound turns env x.tree.ctype 400 x.rest in
    let tree : arrays x.tree.ctype s.more ≡ arrays x.tree.ctype (sized_at turns env 400 x.tree.ctype x.rest).tree = ap (arrays x.tree.ctype) s.tree in
    let path = path_arrays x.tree.ctype s.more in
    let low = s.low in
    let below = f.low in
    record {
      front = f.front ++ x.tree.lexeme ∷ s.front;
      parts = f.parts ∙ ap (λ (v : List Lexeme). f.front ++ x.tree.lexeme ∷ v) s.parts ∙ sym (append_assoc f.front (x.tree.lexeme ∷ s.front) (sized_at turns env 400 x.tree.ctype x.rest).rest);
      so = subst (λ (w : TypeTree). IsObject env t (f.front ++ x.tree.lexeme ∷ s.front) x.tree.name x.tree.lexeme w) tree
          (object_of x.tree.lexeme x.tree.name f.so f.name s.so (omega (arith, path, low, below)));
    }

pub object_sound : (turns : ℕ) (env : Known) (t : TypeTree) (os : List Lexeme) (g : Got Named) → object_at turns env t os ≡ Some g → ObjectFront env t os g
unfolding object_at
object_sound turns env t os g e =
    let i = bind_some (name_at turns t os) (λ x. Some (sizes_after turns env x)) g e in
    subst (ObjectFront env t os) (same_Some (sizes_after turns env i.0) g i.2) (after_name turns env t os i.0 (name_sound turns t os i.0 i.1))
