-- A list of enumerators is read.
use Rattle.std.proofs.Common.{◌≡◌, ℕ, zero, suc, ◌+◌, ◌≤◌, true, ◌&&◌, List, [], ◌∷◌, ◌++◌, length, length-append, Option, Some, None, refl, ap, ◌∙◌, append_assoc, arith}
use Rattle.std.proofs.lemmas.Bool.Decides.{nat_tests}
use Rattle.std.specs.Prelude.{ℤ, pos, ◌+ℤ◌, not}
use Rattle.cx_base.specs.Number.{InRange, half_of}
use Rattle.cx_base.proofs.General.{true_both}
use Rattle.cx_ctree.specs.Exprs.{ExprTree}
use Rattle.cx_ctree.specs.Path.{expr_path}
use Rattle.cx_ctree.specs.Decls.{DeclTree}
use Rattle.cx_cword.specs.declared.word.Punctuator.TheVariants as p
use Rattle.cx_cword.specs.declared.lexeme.Lexeme.{Lexeme}
use Rattle.cx_cword.specs.declared.lexeme.LexemeKind.{LexemeKind}
use Rattle.cx_cword.specs.Reading.{Is, IsName, ◌>>=◌}
use Rattle.cx_cname.specs.Known.{Known, meaning, with_constant}
use Rattle.cx_cname.specs.Meanings.{is_new}
use Rattle.cx_cconst.specs.Constants.{constant_in}
use Rattle.cx_cexpr.specs.Expressions.{IsCond}
use Rattle.cx_cexpr.specs.Reading as expr
use Rattle.cx_cexpr.specs.Reading.{Few, cond_at, named}
use Rattle.cx_cexpr.proofs.TypeAgain as again
use Rattle.cx_cexpr.proofs.Again.{cond_there}
use Rattle.cx_cword.specs.declared.mark.Mark.{Mark}
use Rattle.cx_cword.specs.declared.mark.Mark.TheVariants as m
use Rattle.cx_cdecl.specs.Declarations.{IsEnumerator, enumerator_next, enumerator_equal, AreEnumerators, first_enumerator, also_enumerator, IsEnumList, enum_list, enum_list_comma}
use Rattle.cx_cdecl.specs.Reading.{Got, After, wanted, choose, in_int, value_by, value_at, enumerator_by, enumerator_at, no_more, enumerators_by, enumerators_at, enumerators_in}
use Rattle.cx_cdecl.proofs.Follows.{no_mark, ends_item, is_ending, item_closes, item_assign, closes_ends, name_no_mark, wanted_goes, choose_goes, choose_other, named_goes, if_goes, bind_goes, Room}
use Rattle.cx_cdecl.proofs.Grows.{Grows, grows_constant, grows_then, new_so}
use Rattle.cx_cword.specs.Marks.{fits}

int_so : (v : ℤ) → InRange 4 true v → in_int v ≡ true
unfolding half_of
int_so v h = grind (arith, nat_tests, h.0, h.1)

-- ---- one enumerator

-- its name, and its value behind the name
pub record Valued (env : Known) (next : ℤ) (front : List Lexeme) (n : ℕ) (v : ℤ) : Type 0 where
  pub o : Lexeme
  pub tail : List Lexeme
  pub parts : front ≡ o ∷ tail
  pub is : IsName n o
  pub reads : (turns : ℕ) (rest : List Lexeme) → ends_item rest ≡ true → Room turns (tail ++ rest) → value_at turns env next (tail ++ rest) ≡ Some (record { tree = v; rest = rest })

value_plain : (turns : ℕ) (env : Known) (next : ℤ) (rest : List Lexeme) → ends_item rest ≡ true → value_at turns env next rest ≡ Some (record { tree = next; rest = rest })
unfolding value_at
value_plain turns env next rest ends = choose_other m.Assign rest (Some (record { tree = next; rest = rest })) (λ rest. cond_at env turns 400 rest >>= λ x. value_by x.rest (constant_in env x.tree)) (item_assign rest ends)

value_equal : (turns : ℕ) (env : Known) (next : ℤ) {a : List Lexeme} {x : ExprTree} (o : Lexeme) (v : ℤ) (rest : List Lexeme) → Few env → Is p.Assign o → IsCond env a x → expr_path x ≤ 400 → constant_in env x ≡ Some v → ends_item rest ≡ true → Room turns (o ∷ (a ++ rest))
    → value_at turns env next (o ∷ (a ++ rest)) ≡ Some (record { tree = v; rest = rest })
unfolding value_at
value_equal turns env next {a} {x} o v rest few is h low value ends room =
    let go : expr.Got ExprTree → Option (Got ℤ) = λ x. value_by x.rest (constant_in env x.tree) in
    choose_goes m.Assign o (a ++ rest) (Some (record { tree = next; rest = o ∷ (a ++ rest) })) (λ rest. cond_at env turns 400 rest >>= go) is
    ∙ bind_goes (cond_at env turns 400 (a ++ rest)) go (again.got_of a x rest) (cond_there env few h turns 400 rest (closes_ends rest (item_closes rest ends)) (omega (arith, room)) low)
    ∙ ap (value_by rest) value

pub valued : {env : Known} {next : ℤ} {front : List Lexeme} {n : ℕ} {v : ℤ} → Few env → IsEnumerator env next front n v → Valued env next front n v
valued {env} {next} few (enumerator_next o n is) = record { o = o; tail = []; parts = refl; is = is; reads = λ turns rest ends room. value_plain turns env next rest ends }
valued {env} {next} few (enumerator_equal {a = a} {v = v} o w n is eq h low value) = record { o = o; tail = w ∷ a; parts = refl; is = is; reads = λ turns rest ends room. value_equal turns env next w v rest few eq h low value ends room }

pub enumerator_there : (earlier : List DeclTree) {env : Known} {next : ℤ} {front : List Lexeme} {n : ℕ} {v : ℤ} → Few env → IsEnumerator env next front n v → InRange 4 true v → meaning env earlier n ≡ None → (turns : ℕ) (rest : List Lexeme) → ends_item rest ≡ true → Room turns (front ++ rest)
    → enumerator_at turns earlier env next (front ++ rest) ≡ Some (record { tree = v; known = with_constant env n v; rest = rest })
unfolding enumerator_at
enumerator_there earlier {env} {next} {front} {n} {v} few h range new turns rest ends room =
    let f = valued few h in
    let parts : front ++ rest ≡ f.o ∷ (f.tail ++ rest) = ap (λ (u : List Lexeme). u ++ rest) f.parts in
    let go : Lexeme → ℕ → List Lexeme → Option (After ℤ) = λ o name rest. value_at turns env next rest >>= enumerator_by earlier env name in
    ap (λ (u : List Lexeme). named u go) parts
    ∙ named_goes f.o n (f.tail ++ rest) go f.is
    ∙ bind_goes (value_at turns env next (f.tail ++ rest)) (enumerator_by earlier env n) (record { tree = v; rest = rest }) (f.reads turns rest ends (let e = ap length parts in omega (arith, room, e)))
    ∙ if_goes (in_int v && is_new env earlier n) (Some (record { tree = v; known = with_constant env n v; rest = rest })) (true_both (in_int v) (is_new env earlier n) (int_so v range) (new_so env earlier n new))

enumerator_filled : {env : Known} {next : ℤ} {front : List Lexeme} {n : ℕ} {v : ℤ} → Few env → IsEnumerator env next front n v → 1 ≤ length front
enumerator_filled few h = let f = valued few h in let e = ap length f.parts in omega (arith, e)

enumerator_no_mark : {env : Known} {next : ℤ} {front : List Lexeme} {n : ℕ} {v : ℤ} → Few env → IsEnumerator env next front n v → (mark : Mark) (rest : List Lexeme) → no_mark mark (front ++ rest) ≡ true
enumerator_no_mark {n = n} few h mark rest = let f = valued few h in ap (λ (u : List Lexeme). no_mark mark (u ++ rest)) f.parts ∙ ap not (name_no_mark mark f.o.kind n f.is)

-- ---- all of them

pub enumerators_tags : {earlier : List DeclTree} {env known : Known} {a : List Lexeme} {v : ℤ} → AreEnumerators earlier env a v known → known.tags ≡ env.tags
enumerators_tags (first_enumerator h range new) = refl
enumerators_tags (also_enumerator o h is i range new) = enumerators_tags h

enumerators_few : {earlier : List DeclTree} {env known : Known} {a : List Lexeme} {v : ℤ} → AreEnumerators earlier env a v known → Few env → Few known
enumerators_few h few = let e = ap length (enumerators_tags h) in omega (arith, few, e)

pub enumerators_grow : {earlier : List DeclTree} {env known : Known} {a : List Lexeme} {v : ℤ} → AreEnumerators earlier env a v known → Grows env known 0
enumerators_grow {env = env} (first_enumerator {n = n} {v = v} h range new) = grows_constant env n v 0
enumerators_grow {env = env} (also_enumerator {n = n} {w = w} {known = known} o h is i range new) = grows_then env known (with_constant known n w) 0 0 0 (enumerators_grow h) (grows_constant known n w 0) (omega arith)

abbrev pub one_of : ℤ → Known → List Lexeme → After ℤ
one_of v known rest = record { tree = v; known = known; rest = rest }

-- reading goes on behind the enumerators, with so many turns left
pub record EnumeratorsGo (turns n : ℕ) (earlier : List DeclTree) (env : Known) (front rest : List Lexeme) (v : ℤ) (known : Known) : Type 0 where
  pub left : ℕ
  pub enough : length rest + 1 ≤ left
  pub goes : enumerators_at turns earlier n env (pos 0) (front ++ rest) ≡ enumerators_by (enumerators_at turns earlier left) (one_of v known rest)

one_goes : (turns n : ℕ) (earlier : List DeclTree) (env : Known) (next : ℤ) (os : List Lexeme) (x : After ℤ) → enumerator_at turns earlier env next os ≡ Some x → enumerators_at turns earlier (suc n) env next os ≡ enumerators_by (enumerators_at turns earlier n) x
unfolding enumerators_at
one_goes turns n earlier env next os x e = bind_goes (enumerator_at turns earlier env next os) (enumerators_by (enumerators_at turns earlier n)) x e

first_goes : (turns n : ℕ) (earlier : List DeclTree) (env : Known) (next : ℤ) (os rest : List Lexeme) (v : ℤ) (known : Known) → enumerator_at turns earlier env next os ≡ Some (one_of v known rest) → length rest + 2 ≤ n
    → (left : ℕ) × (length rest + 1 ≤ left) × (enumerators_at turns earlier n env next os ≡ enumerators_by (enumerators_at turns earlier left) (one_of v known rest))
first_goes turns zero earlier env next os rest v known e enough = absurd (omega (arith, enough))
first_goes turns (suc n) earlier env next os rest v known e enough = (n, omega (arith, enough), one_goes turns n earlier env next os (one_of v known rest) e)

comma_goes : (turns n : ℕ) (earlier : List DeclTree) (v : ℤ) (known : Known) (o : Lexeme) (os : List Lexeme) → Is p.Comma o → no_mark m.CloseBrace os ≡ true → enumerators_by (enumerators_at turns earlier n) (one_of v known (o ∷ os)) ≡ enumerators_at turns earlier n known (v +ℤ pos 1) os
comma_goes turns n earlier v known o os is ends =
    let again : Option (After (Unit {0})) = enumerators_at turns earlier n known (v +ℤ pos 1) os in
    choose_goes m.Comma o os (no_more known (o ∷ os)) (λ rest. choose m.CloseBrace rest (enumerators_at turns earlier n known (v +ℤ pos 1) rest) (λ after. no_more known rest)) is
    ∙ choose_other m.CloseBrace os again (λ after. no_more known os) ends

mark_item : (o : Lexeme) (rest : List Lexeme) → Is p.Comma o → ends_item (o ∷ rest) ≡ true
mark_item o rest is = ap is_ending is

pub enumerators_go : {earlier : List DeclTree} {env known : Known} {a : List Lexeme} {v : ℤ} → Few env → AreEnumerators earlier env a v known → (turns n : ℕ) (rest : List Lexeme) → ends_item rest ≡ true → Room turns (a ++ rest) → length (a ++ rest) + 1 ≤ n
    → EnumeratorsGo turns n earlier env a rest v known
enumerators_go {earlier} {env} few (first_enumerator {a = a} {n = k} {v = v} h range new) turns n rest ends room enough =
    let filled = enumerator_filled few h in
    let long = length-append a rest in
    let g = first_goes turns n earlier env (pos 0) (a ++ rest) rest v (with_constant env k v) (enumerator_there earlier few h range new turns rest ends room) (omega (arith, enough, filled, long)) in
    record { left = g.0; enough = g.1; goes = g.2 }
enumerators_go {earlier} {env} few (also_enumerator {a = a} {c = c} {n = k} {v = v} {w = w} {known = known} o h is i range new) turns n rest ends room enough =
    let parts : (a ++ o ∷ c) ++ rest ≡ a ++ o ∷ (c ++ rest) = append_assoc a (o ∷ c) rest in
    let whole = ap length parts in
    let more = length-append a (o ∷ (c ++ rest)) in
    let f = enumerators_go few h turns n (o ∷ (c ++ rest)) (mark_item o (c ++ rest) is) (omega (arith, room, whole)) (omega (arith, enough, whole)) in
    let few2 = enumerators_few h few in
    let filled = enumerator_filled few2 i in
    let long = length-append c rest in
    let left = f.enough in
    let g = first_goes turns f.left earlier known (v +ℤ pos 1) (c ++ rest) rest w (with_constant known k w) (enumerator_there earlier few2 i range new turns rest ends (omega (arith, room, whole, more))) (omega (arith, left, filled, long)) in
    record {
      left = g.0;
      enough = g.1;
      goes = ap (enumerators_at turns earlier n env (pos 0)) parts ∙ f.goes ∙ comma_goes turns f.left earlier v known o (c ++ rest) is (enumerator_no_mark few2 i m.CloseBrace rest) ∙ g.2;
    }

-- ---- in braces

-- a list in braces: its first brace, and what is read after it
pub record EnumRead (earlier : List DeclTree) (env : Known) (front : List Lexeme) (known : Known) : Type 0 where
  pub o : Lexeme
  pub tail : List Lexeme
  pub parts : front ≡ o ∷ tail
  pub is : Is p.OpenBrace o
  pub grows : Grows env known 0
  pub reads : (turns : ℕ) (rest : List Lexeme) → Room turns (tail ++ rest) → enumerators_in turns earlier env (tail ++ rest) ≡ Some (record { tree = tt; known = known; rest = rest })

abbrev shut_list : After (Unit {0}) → Option (After (Unit {0}))
shut_list x = wanted m.CloseBrace x.rest (λ after. Some (record { tree = tt; known = x.known; rest = after }))

list_reads : (earlier : List DeclTree) (env known : Known) (turns : ℕ) (os : List Lexeme) (c : Lexeme) (rest : List Lexeme) → Is p.CloseBrace c → enumerators_at turns earlier turns env (pos 0) os ≡ no_more known (c ∷ rest) → enumerators_in turns earlier env os ≡ no_more known rest
list_reads earlier env known turns os c rest is e =
    bind_goes (enumerators_at turns earlier turns env (pos 0) os) shut_list (record { tree = tt; known = known; rest = c ∷ rest }) e
    ∙ wanted_goes m.CloseBrace c rest (λ after. Some (record { tree = tt; known = known; rest = after })) is

stop_plain : (turns n : ℕ) (earlier : List DeclTree) (v : ℤ) (known : Known) (c : Lexeme) (rest : List Lexeme) → Is p.CloseBrace c → enumerators_by (enumerators_at turns earlier n) (one_of v known (c ∷ rest)) ≡ no_more known (c ∷ rest)
stop_plain turns n earlier v known c rest is =
    choose_other m.Comma (c ∷ rest) (no_more known (c ∷ rest)) (λ rest. choose m.CloseBrace rest (enumerators_at turns earlier n known (v +ℤ pos 1) rest) (λ after. no_more known rest)) (ap (λ (kind : LexemeKind). not (fits m.Comma kind)) is)

stop_comma : (turns n : ℕ) (earlier : List DeclTree) (v : ℤ) (known : Known) (o c : Lexeme) (rest : List Lexeme) → Is p.Comma o → Is p.CloseBrace c → enumerators_by (enumerators_at turns earlier n) (one_of v known (o ∷ c ∷ rest)) ≡ no_more known (c ∷ rest)
stop_comma turns n earlier v known o c rest is shuts =
    choose_goes m.Comma o (c ∷ rest) (no_more known (o ∷ c ∷ rest)) (λ rest. choose m.CloseBrace rest (enumerators_at turns earlier n known (v +ℤ pos 1) rest) (λ after. no_more known rest)) is
    ∙ choose_goes m.CloseBrace c rest (enumerators_at turns earlier n known (v +ℤ pos 1) (c ∷ rest)) (λ after. no_more known (c ∷ rest)) shuts

pub enum_list_there : {earlier : List DeclTree} {env known : Known} {a : List Lexeme} → Few env → IsEnumList earlier env a known → EnumRead earlier env a known
enum_list_there {earlier} {env} few (enum_list {a = a} {v = v} {known = known} o c opens h shuts) = record {
  o = o;
  tail = a ++ c ∷ [];
  parts = refl;
  is = opens;
  grows = enumerators_grow h;
  reads = λ turns rest room.
      let parts : (a ++ c ∷ []) ++ rest ≡ a ++ c ∷ rest = append_assoc a (c ∷ []) rest in
      let whole = ap length parts in
      let f = enumerators_go few h turns turns (c ∷ rest) (ap is_ending shuts) (omega (arith, room, whole)) (omega (arith, room, whole)) in
      ap (enumerators_in turns earlier env) parts ∙ list_reads earlier env known turns (a ++ c ∷ rest) c rest shuts (f.goes ∙ stop_plain turns f.left earlier v known c rest shuts);
}
enum_list_there {earlier} {env} few (enum_list_comma {a = a} {v = v} {known = known} o e c opens h is shuts) = record {
  o = o;
  tail = a ++ e ∷ c ∷ [];
  parts = refl;
  is = opens;
  grows = enumerators_grow h;
  reads = λ turns rest room.
      let parts : (a ++ e ∷ c ∷ []) ++ rest ≡ a ++ e ∷ c ∷ rest = append_assoc a (e ∷ c ∷ []) rest in
      let whole = ap length parts in
      let f = enumerators_go few h turns turns (e ∷ c ∷ rest) (mark_item e (c ∷ rest) is) (omega (arith, room, whole)) (omega (arith, room, whole)) in
      ap (enumerators_in turns earlier env) parts ∙ list_reads earlier env known turns (a ++ e ∷ c ∷ rest) c rest shuts (f.goes ∙ stop_comma turns f.left earlier v known e c rest is shuts);
}
