-- A declarator of an object is read.
use Rattle.std.proofs.Common.{◌≡◌, ℕ, zero, suc, ◌+◌, ◌-◌, ◌^◌, ◌≤◌, Bool, true, false, cond, List, [], ◌∷◌, ◌++◌, length, length-append, Option, Some, refl, sym, ap, ◌∙◌, subst, append_assoc, append-nil, arith, inl, inr, ◌⊎◌}
use Rattle.std.proofs.lemmas.Bool.Decides.{nat_tests}
use Rattle.std.specs.Prelude.{ℤ, pos, nat_abs, int_le, nat_le}
use Rattle.cx_ctree.specs.Types.{TypeTree, pointer, array}
use Rattle.cx_ctree.specs.Path.{type_path, expr_path}
use Rattle.cx_ctree.specs.Exprs.{ExprTree}
use Rattle.cx_cword.specs.declared.word.Punctuator.TheVariants as p
use Rattle.cx_cword.specs.declared.lexeme.Lexeme.{Lexeme}
use Rattle.cx_cword.specs.Reading.{Is, IsName, ◌>>=◌}
use Rattle.cx_cname.specs.Known.{Known, is_complete}
use Rattle.cx_cconst.specs.Constants.{constant_in}
use Rattle.cx_cexpr.specs.Expressions.{AreSkipped, IsCond}
use Rattle.cx_cexpr.specs.Reading as expr
use Rattle.cx_cexpr.specs.Reading.{Few, skip_at, cond_at, named}
use Rattle.cx_cexpr.specs.Kinds as expr_kinds
use Rattle.cx_cexpr.proofs.TypeAgain.{NoSkip, skip_there}
use Rattle.cx_cexpr.proofs.TypeAgain as again
use Rattle.cx_cexpr.proofs.Ends.{mark_ends}
use Rattle.cx_cexpr.proofs.Again.{cond_there}
use Rattle.cx_cword.specs.declared.mark.Mark.TheVariants as m
use Rattle.cx_cdecl.specs.Declarations.{ArePointers, no_star, also_star, AreSizes, no_size, also_size, IsObject, object_of}
use Rattle.cx_cdecl.specs.Reading.{Got, wanted, choose, pointers_at, in_size, size_by, size_at, sizes_by, sizes_at, sized_at, arrays, Named, name_at, array_of, sizes_after, object_at}
use Rattle.cx_cdecl.proofs.DeclaratorSound.{complete_arrays, path_arrays, sizes_sound}
use Rattle.cx_cdecl.proofs.Follows.{no_keyword, no_mark, keyword_skip, name_plain, name_no_mark, wanted_goes, wanted_other, choose_goes, choose_other, named_goes, if_goes, bind_goes, Room}
use Rattle.cx_cword.specs.Marks.{fits}

-- ---- stars

low_so : (t : TypeTree) (d : ℕ) → type_path t ≤ d → nat_le (type_path t) d ≡ true
low_so t d h = grind (arith, nat_tests)

-- reading goes on behind the stars, with so many turns left
pub record Stars (n d : ℕ) (t w : TypeTree) (front rest : List Lexeme) : Type 0 where
  pub left : ℕ
  pub enough : length rest + 1 ≤ left
  pub goes : pointers_at n d t (front ++ rest) ≡ pointers_at left d w rest

star_goes : (n d : ℕ) (t : TypeTree) (o : Lexeme) (rest : List Lexeme) → Is p.Star o → type_path t ≤ d → pointers_at (suc n) d t (o ∷ rest) ≡ pointers_at n d (pointer t) (skip_at 0 rest).rest
unfolding pointers_at
star_goes n d t o rest is low =
    let go : List Lexeme → Option (Got TypeTree) = λ v. pointers_at n d (pointer t) (skip_at 0 v).rest in
    if_goes (nat_le (type_path t) d) (choose m.Star (o ∷ rest) (Some (record { tree = t; rest = o ∷ rest })) go) (low_so t d low) ∙ choose_goes m.Star o rest (Some (record { tree = t; rest = o ∷ rest })) go is

star_more : (n d k : ℕ) (t : TypeTree) (o : Lexeme) (c rest : List Lexeme) → Is p.Star o → AreSkipped c → NoSkip rest → type_path t ≤ d → length (o ∷ (c ++ rest)) + 1 ≤ k
    → (left : ℕ) × (length rest + 1 ≤ left) × (pointers_at k d t (o ∷ (c ++ rest)) ≡ pointers_at left d (pointer t) rest)
star_more n d zero t o c rest is skips ends low enough = absurd (omega (arith, enough))
star_more n d (suc k) t o c rest is skips ends low enough =
    let long = length-append c rest in
    (k, omega (arith, enough, long), star_goes k d t o (c ++ rest) is low ∙ ap (λ (v : expr.Got (Unit {0})). pointers_at k d (pointer t) v.rest) (skip_there skips 0 rest ends))

pub pointers_go : {t w : TypeTree} {a : List Lexeme} → ArePointers t a w → (n d : ℕ) (rest : List Lexeme) → NoSkip rest → type_path w ≤ d → length (a ++ rest) + 1 ≤ n → Stars n d t w a rest
pointers_go no_star n d rest ends low enough = record { left = n; enough = enough; goes = refl }
pointers_go {t} (also_star {a = a} {c = c} {w = w} o h is skips) n d rest ends low enough =
    let parts : (a ++ o ∷ c) ++ rest ≡ a ++ o ∷ (c ++ rest) = append_assoc a (o ∷ c) rest in
    let whole = ap length parts in
    let f = pointers_go h n d (o ∷ (c ++ rest)) (ap expr_kinds.is_skipped is) (omega (arith, low)) (omega (arith, enough, whole)) in
    let g = star_more n d f.left w o c rest is skips ends (omega (arith, low)) f.enough in
    record { left = g.0; enough = g.1; goes = ap (pointers_at n d t) parts ∙ f.goes ∙ g.2 }

pointers_end : (n d : ℕ) (t : TypeTree) (rest : List Lexeme) → no_mark m.Star rest ≡ true → type_path t ≤ d → length rest + 1 ≤ n → pointers_at n d t rest ≡ Some (record { tree = t; rest = rest })
unfolding pointers_at
pointers_end zero d t rest ends low enough = absurd (omega (arith, enough))
pointers_end (suc n) d t rest ends low enough =
    let go : List Lexeme → Option (Got TypeTree) = λ v. pointers_at n d (pointer t) (skip_at 0 v).rest in
    if_goes (nat_le (type_path t) d) (choose m.Star rest (Some (record { tree = t; rest = rest })) go) (low_so t d low) ∙ choose_other m.Star rest (Some (record { tree = t; rest = rest })) go ends

pub pointers_there : {t w : TypeTree} {a : List Lexeme} → ArePointers t a w → (n d : ℕ) (rest : List Lexeme) → no_keyword rest ≡ true → no_mark m.Star rest ≡ true → type_path w ≤ d → length (a ++ rest) + 1 ≤ n
    → pointers_at n d t (a ++ rest) ≡ Some (record { tree = w; rest = rest })
pointers_there {w = w} h n d rest plain ends low enough = let f = pointers_go h n d rest (keyword_skip rest plain) low enough in f.goes ∙ pointers_end f.left d w rest ends low f.enough

abbrev pub named_of : ℕ → Lexeme → TypeTree → Named
named_of n o t = record { name = n; lexeme = o; ctype = t }

pub name_there : {t w : TypeTree} {a : List Lexeme} → ArePointers t a w → (n : ℕ) (o : Lexeme) → IsName n o → type_path w ≤ 400 → (turns : ℕ) (rest : List Lexeme) → length (a ++ o ∷ rest) + 1 ≤ turns
    → name_at turns t (a ++ o ∷ rest) ≡ Some (record { tree = named_of n o w; rest = rest })
unfolding name_at
name_there {t} {w} {a} h n o is low turns rest enough =
    let go : Got TypeTree → Lexeme → ℕ → List Lexeme → Option (Got Named) = λ x o n rest. Some (record { tree = named_of n o x.tree; rest = rest }) in
    let plain : no_keyword (o ∷ rest) ≡ true = ap Rattle.std.specs.Prelude.not (name_plain o.kind n is) in
    let ends : no_mark m.Star (o ∷ rest) ≡ true = ap Rattle.std.specs.Prelude.not (name_no_mark m.Star o.kind n is) in
    bind_goes (pointers_at turns 400 t (a ++ o ∷ rest)) (λ x. named x.rest (go x)) (record { tree = w; rest = o ∷ rest }) (pointers_there h turns 400 (o ∷ rest) plain ends low enough)
    ∙ named_goes o n rest (go (record { tree = w; rest = o ∷ rest })) is

-- ---- sizes

size_so : (n : ℕ) → 1 ≤ n → n ≤ 2 ^ 31 → in_size (pos n) ≡ true
size_so n low high = grind (arith, nat_tests)

pub sizes_end : (turns : ℕ) (env : Known) (d : ℕ) (ns : List ℕ) (rest : List Lexeme) → no_mark m.OpenBracket rest ≡ true → sizes_at turns env d ns rest ≡ record { tree = ns; rest = rest }
unfolding sizes_at size_at
sizes_end turns env zero ns rest ends = refl
sizes_end turns env (suc d) ns rest ends =
    ap (sizes_by (λ n rest. sizes_at turns env d (ns ++ n ∷ []) rest) (record { tree = ns; rest = rest }))
    (wanted_other m.OpenBracket rest (λ rest. cond_at env turns 400 rest >>= λ x. wanted m.CloseBracket x.rest (λ after. size_by after (constant_in env x.tree))) ends)

module _ (env : Known) (few : Few env) where
  pub size_there : {a : List Lexeme} {x : ExprTree} (o c : Lexeme) (n : ℕ) → Is p.OpenBracket o → IsCond env a x → Is p.CloseBracket c → expr_path x ≤ 400 → constant_in env x ≡ Some (pos n) → 1 ≤ n → n ≤ 2 ^ 31 → (turns : ℕ) (rest : List Lexeme) → Room turns (o ∷ (a ++ c ∷ rest))
      → size_at turns env (o ∷ (a ++ c ∷ rest)) ≡ Some (record { tree = n; rest = rest })
  unfolding size_at
  size_there {a} {x} o c n opens h shuts low value some few_ turns rest room =
      let close : expr.Got ExprTree → Option (Got ℕ) = λ x. wanted m.CloseBracket x.rest (λ after. size_by after (constant_in env x.tree)) in
      wanted_goes m.OpenBracket o (a ++ c ∷ rest) (λ rest. cond_at env turns 400 rest >>= close) opens
      ∙ bind_goes (cond_at env turns 400 (a ++ c ∷ rest)) close (again.got_of a x (c ∷ rest)) (cond_there env few h turns 400 (c ∷ rest) (mark_ends c p.CloseBracket 11 rest shuts refl (omega arith)) (omega (arith, room)) low)
      ∙ wanted_goes m.CloseBracket c rest (λ after. size_by after (constant_in env x)) shuts
      ∙ ap (size_by rest) value ∙ if_goes (in_size (pos n)) (Some (record { tree = n; rest = rest })) (size_so n some few_)

  sizes_more : (turns d : ℕ) (ns : List ℕ) (os rest : List Lexeme) (n : ℕ) → size_at turns env os ≡ Some (record { tree = n; rest = rest }) → sizes_at turns env (suc d) ns os ≡ sizes_at turns env d (ns ++ n ∷ []) rest
  unfolding sizes_at
  sizes_more turns d ns os rest n e = ap (sizes_by (λ n rest. sizes_at turns env d (ns ++ n ∷ []) rest) (record { tree = ns; rest = os })) e

  -- reading goes on behind the sizes
  pub record SizesGo (t : TypeTree) (front : List Lexeme) (w : TypeTree) : Type 0 where
    pub more : List ℕ
    pub tree : w ≡ arrays t more
    pub bare : more ≡ [] → front ≡ []
    pub opens : (rest : List Lexeme) → no_mark m.OpenParen rest ≡ true → no_mark m.OpenParen (front ++ rest) ≡ true
    pub either : (front ≡ []) ⊎ ((rest : List Lexeme) → no_mark m.OpenParen (front ++ rest) ≡ true)
    pub done : (front ≡ []) ⊎ (is_complete env t ≡ true)
    pub goes : (turns d : ℕ) (ns : List ℕ) (rest : List Lexeme) → Room turns (front ++ rest) → sizes_at turns env (length more + d) ns (front ++ rest) ≡ sizes_at turns env d (ns ++ more) rest

  pub sizes_go : {t w : TypeTree} {a : List Lexeme} → AreSizes env t a w → SizesGo t a w
  sizes_go no_size = record { more = []; tree = refl; bare = λ e. refl; opens = λ rest e. e; either = inl refl; done = inl refl; goes = λ turns d ns rest room. ap (λ (v : ℕ). sizes_at turns env v ns rest) (let e : 0 + d ≡ d = omega arith in e) ∙ ap (λ (v : List ℕ). sizes_at turns env d v rest) (sym (append-nil ns)) }
  sizes_go {t} (also_size {a = a} {c = c} {x = x} {w = w} o e n opens h shuts low value some few_ g complete) =
      let f = sizes_go g in
      record {
        more = n ∷ f.more;
        tree = ap (λ (v : TypeTree). array v n) f.tree;
        bare = λ e. absurd cc;
        opens = λ rest e. ap (λ v. Rattle.std.specs.Prelude.not (fits m.OpenParen v)) opens;
        either = inr (λ rest. ap (λ v. Rattle.std.specs.Prelude.not (fits m.OpenParen v)) opens);
        done = inr (sym (ap (is_complete env) f.tree ∙ complete_arrays env t f.more) ∙ complete);
        goes = λ turns d ns rest room.
            let parts : (o ∷ a ++ e ∷ c) ++ rest ≡ o ∷ (a ++ e ∷ (c ++ rest)) = ap (λ (v : List Lexeme). o ∷ v) (append_assoc a (e ∷ c) rest) in
            let whole = ap length parts in
            let long = length-append a (e ∷ (c ++ rest)) in
            let count : suc (length f.more) + d ≡ suc (length f.more + d) = omega arith in
            ap (λ (v : List Lexeme). sizes_at turns env (suc (length f.more) + d) ns v) parts
            ∙ ap (λ (v : ℕ). sizes_at turns env v ns (o ∷ (a ++ e ∷ (c ++ rest)))) count
            ∙ sizes_more turns (length f.more + d) ns (o ∷ (a ++ e ∷ (c ++ rest))) (c ++ rest) n (size_there o e n opens h shuts low value some few_ turns (c ++ rest) (omega (arith, room, whole)))
            ∙ f.goes turns d (ns ++ n ∷ []) rest (omega (arith, room, whole, long))
            ∙ ap (λ (v : List ℕ). sizes_at turns env d v rest) (append_assoc ns (n ∷ []) f.more);
      }

  -- the sizes of an object, of so many nodes that they fit
  pub record Sized (turns : ℕ) (w : TypeTree) (front rest : List Lexeme) (v : TypeTree) : Type 0 where
    pub more : List ℕ
    pub tree : v ≡ arrays w more
    pub bare : more ≡ [] → front ≡ []
    pub less : length (sized_at turns env 400 w (front ++ rest)).rest ≤ length rest
    pub reads : no_mark m.OpenBracket rest ≡ true → sized_at turns env 400 w (front ++ rest) ≡ record { tree = more; rest = rest }

  sized_so : (turns : ℕ) (w : TypeTree) (os : List Lexeme) → is_complete env w ≡ true → sized_at turns env 400 w os ≡ sizes_at turns env (400 - type_path w) [] os
  sized_so turns w os e = ap (λ (b : Bool). cond b (sizes_at turns env (400 - type_path w) [] os) (record { tree = []; rest = os })) e

  sizes_less : (turns : ℕ) (w : TypeTree) → is_complete env w ≡ true → (d : ℕ) (ns : List ℕ) (os : List Lexeme) → length (sizes_at turns env d ns os).rest ≤ length os
  sizes_less turns w done d ns os = let f = sizes_sound turns env w done d ns os in let e = ap length f.parts in let g = length-append f.front (sizes_at turns env d ns os).rest in omega (arith, e, g)

  less_by : (turns : ℕ) (w : TypeTree) (os : List Lexeme) (b : Bool) → is_complete env w ≡ b → length (cond b (sizes_at turns env (400 - type_path w) [] os) (record { tree = []; rest = os })).rest ≤ length os
  less_by turns w os true e = sizes_less turns w e (400 - type_path w) [] os
  less_by turns w os false e = omega arith

  -- reading sizes goes only on
  pub sized_less : (turns : ℕ) (w : TypeTree) (os : List Lexeme) → length (sized_at turns env 400 w os).rest ≤ length os
  sized_less turns w os = less_by turns w os (is_complete env w) refl

  reads_by : (turns : ℕ) (w : TypeTree) (rest : List Lexeme) (b : Bool) → no_mark m.OpenBracket rest ≡ true → cond b (sizes_at turns env (400 - type_path w) [] rest) (record { tree = []; rest = rest }) ≡ record { tree = []; rest = rest }
  reads_by turns w rest true ends = sizes_end turns env (400 - type_path w) [] rest ends
  reads_by turns w rest false ends = refl

  pub sized_none : (turns : ℕ) (w : TypeTree) (rest : List Lexeme) → no_mark m.OpenBracket rest ≡ true → sized_at turns env 400 w rest ≡ record { tree = []; rest = rest }
  sized_none turns w rest ends = reads_by turns w rest (is_complete env w) ends

  none_sized : (turns : ℕ) (w : TypeTree) (front rest : List Lexeme) → front ≡ [] → Sized turns w front rest w
  none_sized turns w front rest e = record {
    more = [];
    tree = refl;
    bare = λ f. e;
    less = subst (λ (v : List Lexeme). length (sized_at turns env 400 w (v ++ rest)).rest ≤ length rest) (sym e) (sized_less turns w rest);
    reads = λ ends. ap (λ (v : List Lexeme). sized_at turns env 400 w (v ++ rest)) e ∙ sized_none turns w rest ends;
  }

  sizes_fit : (turns : ℕ) (w : TypeTree) (front rest : List Lexeme) (v : TypeTree) → is_complete env w ≡ true → (f : SizesGo w front v) → type_path v ≤ 400 → Room turns (front ++ rest) → Sized turns w front rest v
  sizes_fit turns w front rest v done f low room =
      let path : type_path v ≡ length f.more + type_path w = ap type_path f.tree ∙ path_arrays w f.more in
      let d : ℕ = 400 - type_path w - length f.more in
      let count : 400 - type_path w ≡ length f.more + d = omega (arith, path, low) in
      let is : sized_at turns env 400 w (front ++ rest) ≡ sizes_at turns env d f.more rest = sized_so turns w (front ++ rest) done ∙ ap (λ (n : ℕ). sizes_at turns env n [] (front ++ rest)) count ∙ f.goes turns d [] rest room in
      record {
        more = f.more;
        tree = f.tree;
        bare = f.bare;
        less = subst (λ (g : Got (List ℕ)). length g.rest ≤ length rest) (sym is) (sizes_less turns w done d f.more rest);
        reads = λ ends. is ∙ sizes_end turns env d f.more rest ends;
      }

  sized_by : (turns : ℕ) (w : TypeTree) (front rest : List Lexeme) (v : TypeTree) → AreSizes env w front v → SizesGo w front v → (front ≡ []) ⊎ (is_complete env w ≡ true) → type_path v ≤ 400 → Room turns (front ++ rest) → Sized turns w front rest v
  sized_by turns w front rest v no_size f (inl e) low room = none_sized turns w [] rest refl
  sized_by turns w front rest v (also_size o e n opens h shuts low' value some few_ g complete) f (inl bad) low room = absurd cc
  sized_by turns w front rest v h f (inr done) low room = sizes_fit turns w front rest v done f low room

  pub sized_there : {w v : TypeTree} {c : List Lexeme} → AreSizes env w c v → type_path v ≤ 400 → (turns : ℕ) (rest : List Lexeme) → Room turns (c ++ rest) → Sized turns w c rest v
  sized_there {w} {v} {c} h low turns rest room = let f = sizes_go h in sized_by turns w c rest v h f f.done low room

  -- ---- objects

  -- the name of a declarator of an object, and what reading goes on with
  pub record ObjectGo (turns : ℕ) (t : TypeTree) (front rest : List Lexeme) (n : ℕ) (o : Lexeme) (v : TypeTree) : Type 0 where
    pub x : Got Named
    pub reads : name_at turns t (front ++ rest) ≡ Some x
    pub less : length (sizes_after turns env x).rest ≤ length rest
    pub opens : no_mark m.OpenParen rest ≡ true → no_mark m.OpenParen x.rest ≡ true
    pub either : (x.rest ≡ rest) ⊎ (no_mark m.OpenParen x.rest ≡ true)
    pub goes : no_mark m.OpenBracket rest ≡ true → sizes_after turns env x ≡ record { tree = named_of n o v; rest = rest }

  sizes_not_less : (w : TypeTree) (ns : List ℕ) → type_path w ≤ type_path (arrays w ns)
  sizes_not_less w ns = let e = path_arrays w ns in omega (arith, e)

  object_made : {turns : ℕ} {t w v : TypeTree} {a c rest : List Lexeme} (o : Lexeme) (n : ℕ) → ArePointers t a w → IsName n o → SizesGo w c v → Sized turns w c rest v → type_path v ≤ 400 → Room turns ((a ++ o ∷ c) ++ rest) → ObjectGo turns t (a ++ o ∷ c) rest n o v
  unfolding sizes_after
  object_made {turns} {t} {w} {v} {a} {c} {rest} o n h is f s low room =
      let parts : (a ++ o ∷ c) ++ rest ≡ a ++ o ∷ (c ++ rest) = append_assoc a (o ∷ c) rest in
      let whole = ap length parts in
      let below = subst (λ (u : TypeTree). type_path w ≤ type_path u) (sym s.tree) (sizes_not_less w s.more) in
      record {
        x = record { tree = named_of n o w; rest = c ++ rest };
        reads = ap (name_at turns t) parts ∙ name_there h n o is (omega (arith, low, below)) turns (c ++ rest) (omega (arith, room, whole));
        less = s.less;
        opens = f.opens rest;
        either = elim f.either [ inl e ↦ inl (ap (λ (u : List Lexeme). u ++ rest) e) | inr h ↦ inr (h rest) ];
        goes = λ ends. ap (array_of (named_of n o w)) (s.reads ends) ∙ ap (λ (u : TypeTree). record { tree = named_of n o u; rest = rest }) (sym s.tree);
      }

  pub object_go : {t v : TypeTree} {front : List Lexeme} {n : ℕ} {o : Lexeme} → IsObject env t front n o v → (turns : ℕ) (rest : List Lexeme) → Room turns (front ++ rest) → ObjectGo turns t front rest n o v
  object_go (object_of {a = a} {c = c} o n h is g low) turns rest room =
      let whole = ap length (append_assoc a (o ∷ c) rest) in
      let long = length-append a (o ∷ (c ++ rest)) in
      object_made o n h is (sizes_go g) (sized_there g low turns rest (omega (arith, room, whole, long))) low room

  pub object_there : {t v : TypeTree} {front : List Lexeme} {n : ℕ} {o : Lexeme} → IsObject env t front n o v → (turns : ℕ) (rest : List Lexeme) → no_mark m.OpenBracket rest ≡ true → Room turns (front ++ rest) → object_at turns env t (front ++ rest) ≡ Some (record { tree = named_of n o v; rest = rest })
  unfolding object_at
  object_there {t} {v} {front} h turns rest ends room =
      let f = object_go h turns rest room in
      bind_goes (name_at turns t (front ++ rest)) (λ x. Some (sizes_after turns env x)) f.x f.reads ∙ ap Some (f.goes ends)
