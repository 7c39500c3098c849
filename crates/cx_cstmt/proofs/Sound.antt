-- What is read as a statement is spelled so.
use Rattle.std.proofs.Common.{◌≡◌, ℕ, zero, suc, ◌-◌, ◌<◌, ◌≤◌, Bool, true, false, cond, List, [], ◌∷◌, ◌++◌, length, Option, Some, None, refl, sym, ap, ◌∙◌, subst, append_assoc, arith, length-append, inl, inr}
use Rattle.std.proofs.lemmas.Bool.{cases_Bool}
use Rattle.std.specs.Prelude.{nat_eq}
use Rattle.std.proofs.lemmas.Option.{same_Some}
use Rattle.cx_base.specs.declared.span.Span.{Span}
use Rattle.cx_ctree.specs.Exprs.{ExprTree}
use Rattle.cx_ctree.specs.Stmts.{StmtTree, stmt, StmtKindTree, block, empty, effect, if_alone, if_else, while, do_while, for, switch, break, continue, return, StmtTrees, no_stmt, also_stmt, GroupTrees, no_group, also_group}
use Rattle.cx_ctree.specs.Decls.{DeclTree}
use Rattle.cx_ctree.specs.Path.{stmt_path}
use Rattle.cx_cword.specs.declared.lexeme.Lexeme.{Lexeme}
use Rattle.cx_cword.specs.declared.word.Keyword.TheVariants as k
use Rattle.cx_cword.specs.declared.word.Punctuator.TheVariants as p
use Rattle.cx_cword.specs.Reading.{Is, IsWord, ◌>>=◌, at_lexeme, first_of, past_of}
use Rattle.cx_cname.specs.Known.{Known}
use Rattle.cx_cexpr.specs.Reading as expr
use Rattle.cx_cexpr.proofs.Spans.{first-append, past-append, spanned}
use Rattle.cx_cexpr.proofs.Steps.{bind_some, at_first, pick}
use Rattle.cx_ceffect.specs.Reading.{rhs_at, effect_at}
use Rattle.cx_ceffect.proofs.Sound.{effect_filled, rhs_sound, effect_sound}
use Rattle.cx_cword.specs.declared.mark.Mark.TheVariants as m
use Rattle.cx_cstmt.specs.declared.kinds.Head.{Head}
use Rattle.cx_cstmt.specs.declared.kinds.Head.TheVariants as h
use Rattle.cx_cstmt.specs.Kinds.{head_of, begins_label, ends_group, begins_local}
use Rattle.cx_cstmt.specs.Statements as grammar
use Rattle.cx_cstmt.specs.Statements.{no_result, some_result, all_of, some_stmt, some_group, IsStmt, block_stmt, empty_stmt, effect_stmt, if_stmt, if_else_stmt, while_stmt, do_stmt, for_stmt, switch_stmt, break_stmt, continue_stmt, return_stmt, AreBlockItems, no_item, local_item, stmt_item, AreStmts, no_more, more, AreGroups, no_groups, last_group, also_groups}
use Rattle.cx_cstmt.specs.Reading.{Got, listed, After, Header, Reader, made, spelled, next, push, push_group, enclosed_at, labels_at, local_at, header_at, else_after, if_after, while_after, do_ends, do_after, for_after, switch_ends, switch_after, block_ends, jump_at, return_at, effect_stmt_at, stmt_by, item_by, stmt_at, items_at, stmts_at, groups_at}
use Rattle.cx_cstmt.proofs.Shapes.{head_block, head_empty, head_if, head_while, head_do, head_for, head_switch, head_break, head_continue, head_return}
use Rattle.cx_cstmt.proofs.Steps.{made_some, Marked, next_some, lacks, next_cases, begins_at, two_parts, both_parts, two_ends, all_push, all_none, all_assoc, all_groups, groups_push, groups_none}
use Rattle.cx_cstmt.proofs.LocalSound.{FoundLocal, local_sound}
use Rattle.cx_cstmt.proofs.HeaderSound.{Enclosed, enclosed_sound, FoundLabels, labels_sound, FoundHeader, header_sound}
use Rattle.cx_cword.proofs.Marks.{is_fit}

module _ (earlier : List DeclTree) where
  pub stmt_filled : {env known : Known} {f : Bool} {a : List Lexeme} {s : StmtTree} → IsStmt earlier env f a s known → 0 < length a
  stmt_filled (block_stmt o m e q g) = omega arith
  stmt_filled (empty_stmt o e) = omega arith
  stmt_filled (effect_stmt {a = a} o e g) = omega (arith, length-append a (o ∷ []))
  stmt_filled (if_stmt i o m e g x u s) = omega arith
  stmt_filled (if_else_stmt i o m e g1 g2 x g3 s g4 u) = omega arith
  stmt_filled (while_stmt w o m e g x u s) = omega arith
  stmt_filled (do_stmt d w o m e g s g1 g2 x g3 g4) = omega arith
  stmt_filled (for_stmt w o m e g g1 i c g2 s g3 b) = omega arith
  stmt_filled (switch_stmt w o m e f g g1 x g2 g3 gs g4) = omega arith
  stmt_filled (break_stmt w o e g) = omega arith
  stmt_filled (continue_stmt w o e g) = omega arith
  stmt_filled (return_stmt w o e r g) = omega arith

  -- the lexemes begin with a statement, after which no `else` stands that it could have had
  pub record FoundStmt (env : Known) (d : ℕ) (whole : List Lexeme) (g : Got StmtTree) : Type 0 where
    pub mark : Bool
    pub front : List Lexeme
    pub parts : whole ≡ front ++ g.rest
    pub so : IsStmt earlier env mark front g.tree g.known
    pub past : past_of front ≡ g.past
    pub low : stmt_path g.tree ≤ d
    pub closed : mark ≡ true → lacks m.Else g.rest ≡ true

  built : (env known : Known) (d first past : ℕ) (mark : Bool) (whole front rest : List Lexeme) (kind : StmtKindTree) (z : Got StmtTree) → whole ≡ front ++ rest → first_of front ≡ first → past_of front ≡ past
      → IsStmt earlier env mark front (grammar.spelled front kind) known → (mark ≡ true → lacks m.Else rest ≡ true) → made d (spelled first past kind) known past rest ≡ Some z → FoundStmt env d whole z
  built env known d first past mark whole front rest kind z parts begins ends so closed e =
      let q = made_some d (spelled first past kind) known past rest z e in
      subst (FoundStmt env d whole) q.1 (record {
        mark = mark;
        front = front;
        parts = parts;
        so = subst (λ (s : Span). IsStmt earlier env mark front (stmt s kind) known) (spanned front first past begins ends) so;
        past = ends;
        low = q.0;
        closed = closed;
      })

  not_closed : false ≡ true → (rest : List Lexeme) → lacks m.Else rest ≡ true
  not_closed e rest = absurd cc

  not_marked : (b c : Bool) → (b ≡ true → c ≡ true) → c ≡ false → b ≡ false
  not_marked true c f e = let g = f refl in absurd cc
  not_marked false c f e = refl

  -- ---- what each rule makes of what was read

  abbrev headed : (i : Lexeme) {env : Known} {ts : List Lexeme} {x : expr.Got ExprTree} → Enclosed env ts x → List Lexeme → List Lexeme
  headed i q front = i ∷ q.open_mark ∷ q.front ++ q.close_mark ∷ front

  headed_parts : (i : Lexeme) (env : Known) (ts : List Lexeme) (x : expr.Got ExprTree) (q : Enclosed env ts x) (front rest : List Lexeme) → x.rest ≡ front ++ rest → i ∷ ts ≡ headed i q front ++ rest
  headed_parts i env ts x q front rest e =
      ap (λ (v : List Lexeme). i ∷ v) (q.parts ∙ ap (λ (v : List Lexeme). q.open_mark ∷ (q.front ++ q.close_mark ∷ v)) e ∙ ap (λ (v : List Lexeme). q.open_mark ∷ v) (sym (append_assoc q.front (q.close_mark ∷ front) rest)))

  found_if : (env : Known) (d : ℕ) (i : Lexeme) (ts : List Lexeme) (x : expr.Got ExprTree) (a z : Got StmtTree) → IsWord k.If i → Enclosed env ts x → FoundStmt env (d - 1) x.rest a → lacks m.Else a.rest ≡ true
      → made d (spelled i.span.first a.past (if_alone x.tree a.tree)) a.known a.past a.rest ≡ Some z → FoundStmt env d (i ∷ ts) z
  found_if env d i ts x a z is q f off e =
      built env a.known d i.span.first a.past true (i ∷ ts) (headed i q f.front) a.rest (if_alone x.tree a.tree) z
      (headed_parts i env ts x q f.front a.rest f.parts) refl (two_ends (i ∷ q.open_mark ∷ q.front) f.front q.close_mark a.past (stmt_filled f.so) f.past)
      (if_stmt i q.open_mark q.close_mark is q.opens q.so q.closes f.so) (λ _. off) e

  found_else : (env : Known) (d : ℕ) (i : Lexeme) (ts us : List Lexeme) (x : expr.Got ExprTree) (a b z : Got StmtTree) → IsWord k.If i → Enclosed env ts x → FoundStmt env (d - 1) x.rest a → Marked m.Else a.rest us → FoundStmt a.known (d - 1) us b
      → made d (spelled i.span.first b.past (if_else x.tree a.tree b.tree)) b.known b.past b.rest ≡ Some z → FoundStmt env d (i ∷ ts) z
  found_else env d i ts us x a b z is q f w r e =
      let has : lacks m.Else a.rest ≡ false = ap (lacks m.Else) w.parts ∙ ap Rattle.std.proofs.Common.not (is_fit m.Else w.at.kind w.is) in
      let alone : f.mark ≡ false = not_marked f.mark (lacks m.Else a.rest) f.closed has in
      built env b.known d i.span.first b.past r.mark (i ∷ ts) (headed i q f.front ++ w.at ∷ r.front) b.rest (if_else x.tree a.tree b.tree) z
      (two_parts (i ∷ ts) (headed i q f.front) a.rest us r.front b.rest w.at (headed_parts i env ts x q f.front a.rest f.parts) w.parts r.parts) refl
      (two_ends (headed i q f.front) r.front w.at b.past (stmt_filled r.so) r.past)
      (if_else_stmt i q.open_mark q.close_mark w.at is q.opens q.so q.closes (subst (λ (v : Bool). IsStmt earlier env v f.front a.tree a.known) alone f.so) w.is r.so) r.closed e

  found_while : (env : Known) (d : ℕ) (i : Lexeme) (ts : List Lexeme) (x : expr.Got ExprTree) (a z : Got StmtTree) → IsWord k.While i → Enclosed env ts x → FoundStmt env (d - 1) x.rest a
      → made d (spelled i.span.first a.past (while x.tree a.tree)) a.known a.past a.rest ≡ Some z → FoundStmt env d (i ∷ ts) z
  found_while env d i ts x a z is q f e =
      built env a.known d i.span.first a.past f.mark (i ∷ ts) (headed i q f.front) a.rest (while x.tree a.tree) z
      (headed_parts i env ts x q f.front a.rest f.parts) refl (two_ends (i ∷ q.open_mark ∷ q.front) f.front q.close_mark a.past (stmt_filled f.so) f.past)
      (while_stmt i q.open_mark q.close_mark is q.opens q.so q.closes f.so) f.closed e

  found_do : (env : Known) (d : ℕ) (i : Lexeme) (ts us vs : List Lexeme) (a : Got StmtTree) (x : expr.Got ExprTree) (z : Got StmtTree) → IsWord k.Do i → FoundStmt env (d - 1) ts a → (w : Marked m.While a.rest us) → Enclosed a.known us x → (c : Marked m.Semicolon x.rest vs)
      → made d (spelled i.span.first c.at.span.past (do_while a.tree x.tree)) a.known c.at.span.past vs ≡ Some z → FoundStmt env d (i ∷ ts) z
  found_do env d i ts us vs a x z is f w q c e =
      let tail : List Lexeme = q.open_mark ∷ q.front ++ q.close_mark ∷ c.at ∷ [] in
      let after : us ≡ tail ++ vs = q.parts ∙ ap (λ (v : List Lexeme). q.open_mark ∷ (q.front ++ q.close_mark ∷ v)) c.parts ∙ ap (λ (v : List Lexeme). q.open_mark ∷ v) (sym (append_assoc q.front (q.close_mark ∷ c.at ∷ []) vs)) in
      let front : List Lexeme = (i ∷ f.front) ++ w.at ∷ tail in
      let same : front ≡ i ∷ f.front ++ w.at ∷ q.open_mark ∷ q.front ++ q.close_mark ∷ c.at ∷ [] = sym (append_assoc (i ∷ f.front) (w.at ∷ q.open_mark ∷ q.front) (q.close_mark ∷ c.at ∷ [])) in
      built env a.known d i.span.first c.at.span.past false (i ∷ ts) front vs (do_while a.tree x.tree) z
      (two_parts (i ∷ ts) (i ∷ f.front) a.rest us tail vs w.at (ap (λ (v : List Lexeme). i ∷ v) f.parts) w.parts after) refl
      (ap past_of same ∙ past-append (i ∷ f.front ++ w.at ∷ q.open_mark ∷ q.front) (q.close_mark ∷ c.at ∷ []) (omega arith))
      (subst (λ (v : List Lexeme). IsStmt earlier env false v (grammar.spelled v (do_while a.tree x.tree)) a.known) (sym same) (do_stmt i w.at q.open_mark q.close_mark c.at is f.so w.is q.opens q.so q.closes c.is))
      (λ n. not_closed n vs) e

  found_for : (env : Known) (d : ℕ) (i : Lexeme) (ts : List Lexeme) (x : Got Header) (a z : Got StmtTree) → IsWord k.For i → FoundHeader env earlier ts x → FoundStmt x.known (d - 1) x.rest a
      → made d (spelled i.span.first a.past (for x.tree.init x.tree.test x.tree.steps a.tree)) a.known a.past a.rest ≡ Some z → FoundStmt env d (i ∷ ts) z
  found_for env d i ts x a z is q f e =
      let first : List Lexeme = q.open_mark ∷ q.a ++ q.c ++ q.semicolon ∷ q.d in
      let front : List Lexeme = i ∷ first ++ q.close_mark ∷ f.front in
      let parts : ts ≡ (first ++ q.close_mark ∷ f.front) ++ a.rest = q.parts ∙ append_assoc first (q.close_mark ∷ []) x.rest ∙ ap (λ (v : List Lexeme). first ++ q.close_mark ∷ v) f.parts ∙ sym (append_assoc first (q.close_mark ∷ f.front) a.rest) in
      built env a.known d i.span.first a.past f.mark (i ∷ ts) front a.rest (for x.tree.init x.tree.test x.tree.steps a.tree) z
      (ap (λ (v : List Lexeme). i ∷ v) parts) refl (two_ends (i ∷ first) f.front q.close_mark a.past (stmt_filled f.so) f.past)
      (for_stmt i q.open_mark q.semicolon q.close_mark is q.opens q.init q.test q.ends q.steps q.closes f.so) f.closed e

  -- lists, of which no place is known
  pub record FoundList {A B : Type 0} (Spells : List Lexeme → B → Known → Type 0) (join : B → A) (whole : List Lexeme) (g : Got A) : Type 0 where
    pub front : List Lexeme
    pub xs : B
    pub parts : whole ≡ front ++ g.rest
    pub so : Spells front xs g.known
    pub tree : join xs ≡ g.tree

  abbrev pub FoundItems : Known → StmtTrees → List Lexeme → Got StmtTrees → Type 0
  FoundItems env all whole g = FoundList (AreBlockItems earlier env) (all_of all) whole g

  -- the statements of a group; where there is none, nothing was taken
  pub record FoundStmts (env : Known) (all : StmtTrees) (whole : List Lexeme) (g : Got StmtTrees) : Type 0 where
    pub front : List Lexeme
    pub xs : StmtTrees
    pub parts : whole ≡ front ++ g.rest
    pub so : AreStmts earlier env front xs g.known
    pub tree : all_of all xs ≡ g.tree
    pub alone : some_stmt xs ≡ false → whole ≡ g.rest

  -- the groups; where there are some, they begin with a label
  pub record FoundGroups (env : Known) (all : GroupTrees) (whole : List Lexeme) (g : Got GroupTrees) : Type 0 where
    pub front : List Lexeme
    pub xs : GroupTrees
    pub parts : whole ≡ front ++ g.rest
    pub so : AreGroups earlier env front xs g.known
    pub tree : all_groups all xs ≡ g.tree
    pub begins : some_group xs ≡ true → begins_label whole ≡ true

  found_switch : (env : Known) (d : ℕ) (i : Lexeme) (ts us vs : List Lexeme) (x : expr.Got ExprTree) (g : Got GroupTrees) (z : Got StmtTree) → IsWord k.Switch i → Enclosed env ts x → (o : Marked m.OpenBrace x.rest us) → FoundGroups env no_group us g → (c : Marked m.CloseBrace g.rest vs)
      → made d (spelled i.span.first c.at.span.past (switch x.tree g.tree)) g.known c.at.span.past vs ≡ Some z → FoundStmt env d (i ∷ ts) z
  found_switch env d i ts us vs x g z is q o f c e =
      let front : List Lexeme = headed i q (o.at ∷ f.front ++ c.at ∷ []) in
      let same : front ≡ i ∷ q.open_mark ∷ q.front ++ q.close_mark ∷ o.at ∷ f.front ++ c.at ∷ [] = sym (append_assoc (i ∷ q.open_mark ∷ q.front) (q.close_mark ∷ o.at ∷ f.front) (c.at ∷ [])) in
      let inside : x.rest ≡ (o.at ∷ f.front ++ c.at ∷ []) ++ vs = o.parts ∙ ap (λ (v : List Lexeme). o.at ∷ v) (two_parts us f.front g.rest vs [] vs c.at f.parts c.parts refl) in
      built env g.known d i.span.first c.at.span.past false (i ∷ ts) front vs (switch x.tree g.tree) z
      (headed_parts i env ts x q (o.at ∷ f.front ++ c.at ∷ []) vs inside) refl
      (ap past_of same ∙ past-append (i ∷ q.open_mark ∷ q.front ++ q.close_mark ∷ o.at ∷ f.front) (c.at ∷ []) (omega arith))
      (subst (λ (v : List Lexeme). IsStmt earlier env false v (grammar.spelled v (switch x.tree g.tree)) g.known) (sym same)
      (switch_stmt i q.open_mark q.close_mark o.at c.at is q.opens q.so q.closes o.is (subst (λ (v : GroupTrees). AreGroups earlier env f.front v g.known) f.tree f.so) c.is))
      (λ n. not_closed n vs) e

  found_block : (env : Known) (d : ℕ) (i : Lexeme) (ts vs : List Lexeme) (x : Got StmtTrees) (z : Got StmtTree) → Is p.OpenBrace i → FoundItems env no_stmt ts x → (c : Marked m.CloseBrace x.rest vs)
      → made d (spelled i.span.first c.at.span.past (block x.tree)) x.known c.at.span.past vs ≡ Some z → FoundStmt env d (i ∷ ts) z
  found_block env d i ts vs x z is f c e =
      built env x.known d i.span.first c.at.span.past false (i ∷ ts) (i ∷ f.front ++ c.at ∷ []) vs (block x.tree) z
      (ap (λ (v : List Lexeme). i ∷ v) (two_parts ts f.front x.rest vs [] vs c.at f.parts c.parts refl)) refl (past-append (i ∷ f.front) (c.at ∷ []) (omega arith))
      (block_stmt i c.at is (subst (λ (v : StmtTrees). AreBlockItems earlier env f.front v x.known) f.tree f.so) c.is) (λ n. not_closed n vs) e

  -- ---- statements without statements in them

  jump_sound : (env : Known) (d : ℕ) (i : Lexeme) (ts : List Lexeme) (kind : StmtKindTree) (z : Got StmtTree) → ((o : Lexeme) → Is p.Semicolon o → IsStmt earlier env false (i ∷ o ∷ []) (grammar.spelled (i ∷ o ∷ []) kind) env)
      → jump_at d i.span.first kind env ts ≡ Some z → FoundStmt env d (i ∷ ts) z
  jump_sound env d i ts kind z so e =
      let c = next_some m.Semicolon ts (λ c after. made d (spelled i.span.first c.span.past kind) env c.span.past after) z e in
      built env env d i.span.first c.1.at.span.past false (i ∷ ts) (i ∷ c.1.at ∷ []) c.0 kind z (ap (λ (v : List Lexeme). i ∷ v) c.1.parts) refl refl (so c.1.at c.1.is) (λ n. not_closed n c.0) c.2

  return_sound : (env : Known) (n d : ℕ) (i : Lexeme) (ts : List Lexeme) (z : Got StmtTree) → IsWord k.Return i → return_at env n d i.span.first ts ≡ Some z → FoundStmt env d (i ∷ ts) z
  return_sound env n d i ts z is e =
      let some : expr.Got Rattle.cx_ctree.specs.Exprs.RhsTree → Option (Got StmtTree) = λ r. jump_at d i.span.first (return (Some r.tree)) env r.rest in
      elim (next_cases m.Semicolon ts (rhs_at env n (d - 1) ts >>= some) (λ c after. made d (spelled i.span.first c.span.past (return None)) env c.span.past after) z e) [
        | inl a ↦
            let b = bind_some (rhs_at env n (d - 1) ts) some z a.1 in
            let f = rhs_sound env n (d - 1) ts b.0 b.1 in
            let c = next_some m.Semicolon b.0.rest (λ c after. made d (spelled i.span.first c.span.past (return (Some b.0.tree))) env c.span.past after) z b.2 in
            built env env d i.span.first c.1.at.span.past false (i ∷ ts) (i ∷ f.front ++ c.1.at ∷ []) c.0 (return (Some b.0.tree)) z
            (ap (λ (v : List Lexeme). i ∷ v) (two_parts ts f.front b.0.rest c.0 [] c.0 c.1.at f.parts c.1.parts refl)) refl (past-append (i ∷ f.front) (c.1.at ∷ []) (omega arith))
            (return_stmt i c.1.at is (some_result f.spelled_so) c.1.is) (λ n. not_closed n c.0) c.2
        | inr a ↦ built env env d i.span.first a.1.at.span.past false (i ∷ ts) (i ∷ a.1.at ∷ []) a.0 (return None) z (ap (λ (v : List Lexeme). i ∷ v) a.1.parts) refl refl (return_stmt i a.1.at is no_result a.1.is) (λ n. not_closed n a.0) a.2
      ]

  effect_stmt_sound : (env : Known) (n d first : ℕ) (os : List Lexeme) (z : Got StmtTree) → first_of os ≡ first → effect_stmt_at env n d first os ≡ Some z → FoundStmt env d os z
  effect_stmt_sound env n d first os z begins e =
      let b = bind_some (effect_at env n (d - 1) os) (λ e. jump_at d first (effect e.tree) env e.rest) z e in
      let f = effect_sound env n (d - 1) os b.0 b.1 in
      let c = next_some m.Semicolon b.0.rest (λ c after. made d (spelled first c.span.past (effect b.0.tree)) env c.span.past after) z b.2 in
      let filled = effect_filled f.spelled_so in
      built env env d first c.1.at.span.past false os (f.front ++ c.1.at ∷ []) c.0 (effect b.0.tree) z
      (two_parts os f.front b.0.rest c.0 [] c.0 c.1.at f.parts c.1.parts refl)
      (first-append f.front (c.1.at ∷ []) filled ∙ begins_at os f.front b.0.rest first f.parts filled begins) (past-append f.front (c.1.at ∷ []) (omega arith))
      (effect_stmt c.1.at f.spelled_so c.1.is) (λ n. not_closed n c.0) c.2

  -- ---- one step of each reader

  abbrev Sounds : ℕ → Reader → Type 0
  Sounds d inner = (e : Known) (ts : List Lexeme) (g : Got StmtTree) → inner e ts ≡ Some g → FoundStmt e d ts g

  if_sound : (inner : Reader) (env : Known) (n d : ℕ) → Sounds (d - 1) inner → (i : Lexeme) (ts : List Lexeme) (z : Got StmtTree) → IsWord k.If i → if_after inner env n d i.span.first ts ≡ Some z → FoundStmt env d (i ∷ ts) z
  if_sound inner env n d sound i ts z is e =
      let b = bind_some (enclosed_at env n (d - 1) ts) (λ x. inner env x.rest >>= else_after inner d i.span.first x.tree) z e in
      let x = b.0 in
      let q = enclosed_sound env n (d - 1) ts x b.1 in
      let c = bind_some (inner env x.rest) (else_after inner d i.span.first x.tree) z b.2 in
      let a = c.0 in
      let f = sound env x.rest a c.1 in
      let end : Got StmtTree → Option (Got StmtTree) = λ b. made d (spelled i.span.first b.past (if_else x.tree a.tree b.tree)) b.known b.past b.rest in
      elim (next_cases m.Else a.rest (made d (spelled i.span.first a.past (if_alone x.tree a.tree)) a.known a.past a.rest) (λ e rest. inner a.known rest >>= end) z c.2) [
        | inl w ↦ found_if env d i ts x a z is q f w.0 w.1
        | inr w ↦ let r = bind_some (inner a.known w.0) end z w.2 in found_else env d i ts w.0 x a r.0 z is q f w.1 (sound a.known w.0 r.0 r.1) r.2
      ]

  while_sound : (inner : Reader) (env : Known) (n d : ℕ) → Sounds (d - 1) inner → (i : Lexeme) (ts : List Lexeme) (z : Got StmtTree) → IsWord k.While i → while_after inner env n d i.span.first ts ≡ Some z → FoundStmt env d (i ∷ ts) z
  while_sound inner env n d sound i ts z is e =
      let end : expr.Got ExprTree → Got StmtTree → Option (Got StmtTree) = λ x a. made d (spelled i.span.first a.past (while x.tree a.tree)) a.known a.past a.rest in
      let b = bind_some (enclosed_at env n (d - 1) ts) (λ x. inner env x.rest >>= end x) z e in
      let c = bind_some (inner env b.0.rest) (end b.0) z b.2 in
      found_while env d i ts b.0 c.0 z is (enclosed_sound env n (d - 1) ts b.0 b.1) (sound env b.0.rest c.0 c.1) c.2

  do_sound : (inner : Reader) (env : Known) (n d : ℕ) → Sounds (d - 1) inner → (i : Lexeme) (ts : List Lexeme) (z : Got StmtTree) → IsWord k.Do i → do_after inner env n d i.span.first ts ≡ Some z → FoundStmt env d (i ∷ ts) z
  do_sound inner env n d sound i ts z is e =
      let b = bind_some (inner env ts) (λ a. next m.While a.rest None (λ w rest. enclosed_at a.known n (d - 1) rest >>= do_ends d i.span.first a)) z e in
      let a = b.0 in
      let w = next_some m.While a.rest (λ w rest. enclosed_at a.known n (d - 1) rest >>= do_ends d i.span.first a) z b.2 in
      let c = bind_some (enclosed_at a.known n (d - 1) w.0) (do_ends d i.span.first a) z w.2 in
      let x = c.0 in
      let s = next_some m.Semicolon x.rest (λ c after. made d (spelled i.span.first c.span.past (do_while a.tree x.tree)) a.known c.span.past after) z c.2 in
      found_do env d i ts w.0 s.0 a x z is (sound env ts a b.1) w.1 (enclosed_sound a.known n (d - 1) w.0 x c.1) s.1 s.2

  for_sound : (inner : Reader) (env : Known) (n d : ℕ) → Sounds (d - 1) inner → (i : Lexeme) (ts : List Lexeme) (z : Got StmtTree) → IsWord k.For i → for_after inner env n d i.span.first ts ≡ Some z → FoundStmt env d (i ∷ ts) z
  for_sound inner env n d sound i ts z is e =
      let end : Got Header → Got StmtTree → Option (Got StmtTree) = λ h a. made d (spelled i.span.first a.past (for h.tree.init h.tree.test h.tree.steps a.tree)) a.known a.past a.rest in
      let b = bind_some (header_at env n (d - 1) ts) (λ h. inner h.known h.rest >>= end h) z e in
      let c = bind_some (inner b.0.known b.0.rest) (end b.0) z b.2 in
      found_for env d i ts b.0 c.0 z is (header_sound env earlier n (d - 1) ts b.0 b.1) (sound b.0.known b.0.rest c.0 c.1) c.2

  switch_sound : (groups : Known → List Lexeme → Option (Got GroupTrees)) (env : Known) (n d : ℕ) → ((e : Known) (ts : List Lexeme) (g : Got GroupTrees) → groups e ts ≡ Some g → FoundGroups e no_group ts g)
      → (i : Lexeme) (ts : List Lexeme) (z : Got StmtTree) → IsWord k.Switch i → switch_after groups env n d i.span.first ts ≡ Some z → FoundStmt env d (i ∷ ts) z
  switch_sound groups env n d sound i ts z is e =
      let b = bind_some (enclosed_at env n (d - 1) ts) (λ x. next m.OpenBrace x.rest None (λ o rest. groups env rest >>= switch_ends d i.span.first x.tree)) z e in
      let x = b.0 in
      let o = next_some m.OpenBrace x.rest (λ o rest. groups env rest >>= switch_ends d i.span.first x.tree) z b.2 in
      let c = bind_some (groups env o.0) (switch_ends d i.span.first x.tree) z o.2 in
      let g = c.0 in
      let s = next_some m.CloseBrace g.rest (λ c after. made d (spelled i.span.first c.span.past (switch x.tree g.tree)) g.known c.span.past after) z c.2 in
      found_switch env d i ts o.0 s.0 x g z is (enclosed_sound env n (d - 1) ts x b.1) o.1 (sound env o.0 g c.1) s.1 s.2

  stmt_step : (inner : Reader) (items : Known → List Lexeme → Option (Got StmtTrees)) (groups : Known → List Lexeme → Option (Got GroupTrees)) (env : Known) (n d : ℕ) → Sounds (d - 1) inner
      → ((e : Known) (ts : List Lexeme) (g : Got StmtTrees) → items e ts ≡ Some g → FoundItems e no_stmt ts g) → ((e : Known) (ts : List Lexeme) (g : Got GroupTrees) → groups e ts ≡ Some g → FoundGroups e no_group ts g)
      → (o : Lexeme) (ts : List Lexeme) (head : Head) (z : Got StmtTree) → head_of o.kind ≡ head → stmt_by inner items groups env n d o (o ∷ ts) ts head ≡ Some z → FoundStmt env d (o ∷ ts) z
  stmt_step inner items groups env n d sound lists parts o ts h.Block z is e =
      let b = bind_some (items env ts) (block_ends d o.span.first) z e in
      let c = next_some m.CloseBrace b.0.rest (λ c after. made d (spelled o.span.first c.span.past (block b.0.tree)) b.0.known c.span.past after) z b.2 in
      found_block env d o ts c.0 b.0 z (head_block o.kind is) (lists env ts b.0 b.1) c.1 c.2
  stmt_step inner items groups env n d sound lists parts o ts h.Empty z is e =
      built env env d o.span.first o.span.past false (o ∷ ts) (o ∷ []) ts empty z refl refl refl (empty_stmt o (head_empty o.kind is)) (λ n. not_closed n ts) e
  stmt_step inner items groups env n d sound lists parts o ts h.If z is e = if_sound inner env n d sound o ts z (head_if o.kind is) e
  stmt_step inner items groups env n d sound lists parts o ts h.While z is e = while_sound inner env n d sound o ts z (head_while o.kind is) e
  stmt_step inner items groups env n d sound lists parts o ts h.Do z is e = do_sound inner env n d sound o ts z (head_do o.kind is) e
  stmt_step inner items groups env n d sound lists parts o ts h.For z is e = for_sound inner env n d sound o ts z (head_for o.kind is) e
  stmt_step inner items groups env n d sound lists parts o ts h.Switch z is e = switch_sound groups env n d parts o ts z (head_switch o.kind is) e
  stmt_step inner items groups env n d sound lists parts o ts h.Break z is e = jump_sound env d o ts break z (λ c f. break_stmt o c (head_break o.kind is) f) e
  stmt_step inner items groups env n d sound lists parts o ts h.Continue z is e = jump_sound env d o ts continue z (λ c f. continue_stmt o c (head_continue o.kind is) f) e
  stmt_step inner items groups env n d sound lists parts o ts h.Return z is e = return_sound env n d o ts z (head_return o.kind is) e
  stmt_step inner items groups env n d sound lists parts o ts h.Other z is e = effect_stmt_sound env n d o.span.first (o ∷ ts) z refl e

  -- an item, before the others
  abbrev BeforeItems : Known → StmtTrees → List Lexeme → Got StmtTrees → Type 0
  BeforeItems env all os x = (g : Got StmtTrees) → FoundItems x.known x.tree x.rest g → FoundItems env all os g

  local_before : (env : Known) (all : StmtTrees) (os : List Lexeme) (x : Got StmtTrees) → FoundLocal earlier env all os x → BeforeItems env all os x
  local_before env all os x f g q = record {
    front = f.front ++ q.front;
    xs = all_of f.ss q.xs;
    parts = both_parts os f.front x.rest q.front g.rest f.parts q.parts;
    so = local_item f.so q.so;
    tree = sym (all_assoc all f.ss q.xs) ∙ ap (λ (v : StmtTrees). all_of v q.xs) f.tree ∙ q.tree;
  }

  stmt_before : (env : Known) (d : ℕ) (all : StmtTrees) (os : List Lexeme) (x : Got StmtTree) → FoundStmt env d os x → BeforeItems env all os (listed (push all x.tree) x.known x.rest)
  stmt_before env d all os x f g q = record {
    front = f.front ++ q.front;
    xs = also_stmt x.tree q.xs;
    parts = both_parts os f.front x.rest q.front g.rest f.parts q.parts;
    so = stmt_item f.so q.so;
    tree = sym (all_push all x.tree q.xs) ∙ q.tree;
  }

  item_sound : (inner : Reader) (env : Known) (n d : ℕ) (all : StmtTrees) (os : List Lexeme) (x : Got StmtTrees) → Sounds d inner → item_by inner env n d all os ≡ Some x → BeforeItems env all os x
  item_sound inner env n d all os x sound e = elim (pick (begins_local env os) (local_at env n d all os) (inner env os >>= λ y. Some (listed (push all y.tree) y.known y.rest)) x e) [
    | inl q ↦ local_before env all os x (local_sound earlier env n d all os x q.1)
    | inr q ↦
        let b = bind_some (inner env os) (λ y. Some (listed (push all y.tree) y.known y.rest)) x q.1 in
        subst (BeforeItems env all os) (same_Some (listed (push all b.0.tree) b.0.known b.0.rest) x b.2) (stmt_before env d all os b.0 (sound env os b.0 b.1))
  ]

  both : (b : Bool) → b ≡ true → b ≡ false → ⊥
  both true e f = cc
  both false e f = cc

  no_groups_left : {env known : Known} {front : List Lexeme} {xs : GroupTrees} → AreGroups earlier env front xs known → some_group xs ≡ false → (front ≡ []) × (env ≡ known) × (xs ≡ no_group)
  no_groups_left no_groups e = (refl, refl, refl)
  no_groups_left (last_group h g) e = absurd cc
  no_groups_left (also_groups h g a b c) e = absurd cc

  -- a group, before the others
  group_before : (env : Known) (all : GroupTrees) (os : List Lexeme) (ls : After (List (Option ExprTree))) (ss : Got StmtTrees) (g : Got GroupTrees) → FoundLabels env [] os ls → FoundStmts env no_stmt ls.rest ss
      → FoundGroups ss.known (push_group all ls.tree ss.tree) ss.rest g → FoundGroups env all os g
  group_before env all os ls ss g f q r =
      let firsts : os ≡ (f.front ++ q.front) ++ ss.rest = both_parts os f.front ls.rest q.front ss.rest f.parts q.parts in
      elim (cases_Bool (some_group r.xs)) [
        | inl some ↦
            let filled : some_stmt q.xs ≡ true = elim (cases_Bool (some_stmt q.xs)) [
              | inl so ↦ so
              | inr off ↦ absurd (both (begins_label ls.rest) (ap begins_label (q.alone off) ∙ r.begins some) f.ends)
            ] in
            record {
              front = f.front ++ q.front ++ r.front;
              xs = also_group f.ls q.xs r.xs;
              parts = both_parts os (f.front ++ q.front) ss.rest r.front g.rest firsts r.parts;
              so = also_groups f.so q.so filled some r.so;
              tree = (λ i. all_groups all (also_group (f.tree i) (q.tree i) r.xs)) ∙ sym (groups_push all ls.tree ss.tree r.xs) ∙ r.tree;
              begins = λ _. f.begins;
            }
        | inr off ↦
            let w = no_groups_left r.so off in
            record {
              front = f.front ++ q.front;
              xs = also_group f.ls q.xs no_group;
              parts = firsts ∙ ap (λ (v : List Lexeme). (f.front ++ q.front) ++ v) (r.parts ∙ ap (λ (v : List Lexeme). v ++ g.rest) w.0);
              so = subst (AreGroups earlier env (f.front ++ q.front) (also_group f.ls q.xs no_group)) w.1 (last_group f.so q.so);
              tree = (λ i. all_groups all (also_group (f.tree i) (q.tree i) (sym w.2 i))) ∙ sym (groups_push all ls.tree ss.tree r.xs) ∙ r.tree;
              begins = λ _. f.begins;
            }
      ]

  stmts_more : (env : Known) (d : ℕ) (all : StmtTrees) (os : List Lexeme) (x : Got StmtTree) (g : Got StmtTrees) → FoundStmt env d os x → FoundStmts x.known (push all x.tree) x.rest g → FoundStmts env all os g
  stmts_more env d all os x g f q = record {
    front = f.front ++ q.front;
    xs = also_stmt x.tree q.xs;
    parts = both_parts os f.front x.rest q.front g.rest f.parts q.parts;
    so = more f.so q.so;
    tree = sym (all_push all x.tree q.xs) ∙ q.tree;
    alone = λ e. absurd cc;
  }

  pub not_none : {A : Type 0} (b : Bool) (o : Option A) (g : A) → cond b None o ≡ Some g → o ≡ Some g
  not_none true o g e = absurd cc
  not_none false o g e = e

  mutual
    unfolding stmt_at

    pub stmt_sound : (env : Known) (n d : ℕ) (os : List Lexeme) (g : Got StmtTree) → stmt_at env n d os ≡ Some g → FoundStmt env d os g
    stmt_sound env zero d os g e = absurd cc
    stmt_sound env (suc n) d os g e =
        let by : Lexeme → List Lexeme → List Lexeme → Option (Got StmtTree) = λ o os rest. stmt_by (λ e ts. stmt_at e n (d - 1) ts) (λ e ts. items_at e n (d - 1) no_stmt ts) (λ e ts. groups_at e n (d - 1) no_group ts) env n d o os rest (head_of o.kind) in
        let a = at_first os (λ o rest. by o os rest) g (not_none (nat_eq d 0) (at_lexeme os None (λ o rest. by o os rest)) g e) in
        subst (λ (w : List Lexeme). FoundStmt env d w g) (sym a.2)
        (stmt_step (λ e ts. stmt_at e n (d - 1) ts) (λ e ts. items_at e n (d - 1) no_stmt ts) (λ e ts. groups_at e n (d - 1) no_group ts) env n d
        (λ e ts g is. stmt_sound e n (d - 1) ts g is) (λ e ts g is. items_sound e n (d - 1) no_stmt ts g is) (λ e ts g is. groups_sound e n (d - 1) no_group ts g is) a.0 a.1 (head_of a.0.kind) g refl
        (subst (λ (w : List Lexeme). by a.0 w a.1 ≡ Some g) a.2 a.3))

    pub items_sound : (env : Known) (n d : ℕ) (all : StmtTrees) (os : List Lexeme) (g : Got StmtTrees) → items_at env n d all os ≡ Some g → FoundItems env all os g
    items_sound env zero d all os g e = absurd cc
    items_sound env (suc n) d all os g e =
        elim (next_cases m.CloseBrace os (item_by (λ e ts. stmt_at e n d ts) env n d all os >>= λ x. items_at x.known n d x.tree x.rest) (λ _ _. Some (listed all env os)) g e) [
          | inl a ↦
              let b = bind_some (item_by (λ e ts. stmt_at e n d ts) env n d all os) (λ x. items_at x.known n d x.tree x.rest) g a.1 in
              item_sound (λ e ts. stmt_at e n d ts) env n d all os b.0 (λ e ts g is. stmt_sound e n d ts g is) b.1 g (items_sound b.0.known n d b.0.tree b.0.rest g b.2)
          | inr a ↦ subst (FoundItems env all os) (same_Some (listed all env os) g a.2) (record { front = []; xs = no_stmt; parts = refl; so = no_item; tree = all_none all })
        ]

    stmts_sound : (env : Known) (n d : ℕ) (all : StmtTrees) (os : List Lexeme) (g : Got StmtTrees) → stmts_at env n d all os ≡ Some g → FoundStmts env all os g
    stmts_sound env zero d all os g e = absurd cc
    stmts_sound env (suc n) d all [] g e = absurd cc
    stmts_sound env (suc n) d all (o ∷ ts) g e =
        elim (pick (ends_group o.kind) (Some (listed all env (o ∷ ts))) (stmt_at env n d (o ∷ ts) >>= λ x. stmts_at x.known n d (push all x.tree) x.rest) g e) [
          | inl q ↦ subst (FoundStmts env all (o ∷ ts)) (same_Some (listed all env (o ∷ ts)) g q.1) (record { front = []; xs = no_stmt; parts = refl; so = no_more; tree = all_none all; alone = λ _. refl })
          | inr q ↦
              let b = bind_some (stmt_at env n d (o ∷ ts)) (λ x. stmts_at x.known n d (push all x.tree) x.rest) g q.1 in
              stmts_more env d all (o ∷ ts) b.0 g (stmt_sound env n d (o ∷ ts) b.0 b.1) (stmts_sound b.0.known n d (push all b.0.tree) b.0.rest g b.2)
        ]

    groups_sound : (env : Known) (n d : ℕ) (all : GroupTrees) (os : List Lexeme) (g : Got GroupTrees) → groups_at env n d all os ≡ Some g → FoundGroups env all os g
    groups_sound env zero d all os g e = absurd cc
    groups_sound env (suc n) d all os g e =
        elim (next_cases m.CloseBrace os (labels_at env n d [] os >>= λ ls. stmts_at env n d no_stmt ls.rest >>= λ ss. groups_at ss.known n d (push_group all ls.tree ss.tree) ss.rest) (λ _ _. Some (listed all env os)) g e) [
          | inl a ↦
              let b = bind_some (labels_at env n d [] os) (λ ls. stmts_at env n d no_stmt ls.rest >>= λ ss. groups_at ss.known n d (push_group all ls.tree ss.tree) ss.rest) g a.1 in
              let c = bind_some (stmts_at env n d no_stmt b.0.rest) (λ ss. groups_at ss.known n d (push_group all b.0.tree ss.tree) ss.rest) g b.2 in
              group_before env all os b.0 c.0 g (labels_sound env n d [] os b.0 b.1) (stmts_sound env n d no_stmt b.0.rest c.0 c.1) (groups_sound c.0.known n d (push_group all b.0.tree c.0.tree) c.0.rest g c.2)
          | inr a ↦ subst (FoundGroups env all os) (same_Some (listed all env os) g a.2) (record { front = []; xs = no_group; parts = refl; so = no_groups; tree = groups_none all; begins = λ e. absurd cc })
        ]
