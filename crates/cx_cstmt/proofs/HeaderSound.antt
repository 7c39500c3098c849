-- What is read as an expression in parentheses, as labels, or between the parentheses of `for` is spelled so.
use Rattle.std.proofs.Common.{◌≡◌, ℕ, zero, suc, ◌-◌, true, false, cond, List, [], ◌∷◌, ◌++◌, Option, Some, None, refl, sym, ap, ◌∙◌, subst, append_assoc, inl, inr}
use Rattle.std.specs.Prelude.{is_some}
use Rattle.std.proofs.lemmas.Option.{same_Some}
use Rattle.cx_base.specs.declared.span.Span.{Span}
use Rattle.cx_ctree.specs.Exprs.{ExprTree, EffectTree}
use Rattle.cx_ctree.specs.Stmts.{StmtTree, stmt, effect, StmtTrees, no_stmt, also_stmt}
use Rattle.cx_ctree.specs.Decls.{DeclTree}
use Rattle.cx_cword.specs.declared.lexeme.Lexeme.{Lexeme}
use Rattle.cx_cword.specs.declared.word.Keyword.TheVariants as k
use Rattle.cx_cword.specs.declared.word.Punctuator.TheVariants as p
use Rattle.cx_cword.specs.Reading.{Is, ◌>>=◌}
use Rattle.cx_cname.specs.Known.{Known}
use Rattle.cx_cconst.specs.Constants.{constant_in}
use Rattle.cx_cexpr.specs.Expressions.{IsCond}
use Rattle.cx_cexpr.specs.Reading.{cond_at}
use Rattle.cx_cexpr.specs.Reading as expr
use Rattle.cx_cexpr.proofs.Spans.{spanned}
use Rattle.cx_cexpr.proofs.Steps.{bind_some, at_first, pick, test_some}
use Rattle.cx_cexpr.proofs.Sound.{cond_sound}
use Rattle.cx_ceffect.specs.Effects.{IsEffect}
use Rattle.cx_ceffect.specs.Reading.{effect_at, effects_at}
use Rattle.cx_ceffect.proofs.Sound.{FoundEffect, effect_filled, effect_sound, effects_sound}
use Rattle.cx_cword.specs.declared.mark.Mark.TheVariants as m
use Rattle.cx_cstmt.specs.declared.kinds.Label.{Label}
use Rattle.cx_cstmt.specs.declared.kinds.Label.TheVariants as label
use Rattle.cx_cstmt.specs.Kinds.{label_of, begins_label, begins_local}
use Rattle.cx_cstmt.specs.Statements.{IsLabel, case_label, default_label, AreLabels, last_label, also_label, AreInitEffects, last_init, also_init, IsInit, init_local, init_nothing, init_effects, IsCondition, no_condition, some_condition, AreSteps, no_step, some_steps, all_of}
use Rattle.cx_cstmt.specs.Statements as grammar
use Rattle.cx_cstmt.specs.Reading.{Got, listed, After, Header, made, next, push, spelled, enclosed_at, label_by, label_at, labels_at, local_at, init_effects_at, init_ends, init_at, test_at, steps_at, header_at}
use Rattle.cx_cstmt.proofs.Shapes.{label_case, label_default}
use Rattle.cx_cstmt.proofs.Steps.{made_some, next_some, next_cases, begins_at, two_parts, both_parts, all_push, all_last}
use Rattle.cx_cstmt.proofs.LocalSound.{FoundLocal, local_sound}

-- ---- expressions in parentheses

pub record Enclosed (env : Known) (whole : List Lexeme) (g : expr.Got ExprTree) : Type 0 where
  pub front : List Lexeme
  pub open_mark : Lexeme
  pub close_mark : Lexeme
  pub parts : whole ≡ open_mark ∷ (front ++ close_mark ∷ g.rest)
  pub opens : Is p.OpenParen open_mark
  pub so : IsCond env front g.tree
  pub closes : Is p.CloseParen close_mark

pub enclosed_sound : (env : Known) (n d : ℕ) (os : List Lexeme) (g : expr.Got ExprTree) → enclosed_at env n d os ≡ Some g → Enclosed env os g
unfolding enclosed_at
enclosed_sound env n d os g e =
    let shut : expr.Got ExprTree → Lexeme → List Lexeme → Option (expr.Got ExprTree) = λ x c after. Some (record { tree = x.tree; past = c.span.past; rest = after }) in
    let a = next_some m.OpenParen os (λ o rest. cond_at env n d rest >>= λ x. next m.CloseParen x.rest None (shut x)) g e in
    let b = bind_some (cond_at env n d a.0) (λ x. next m.CloseParen x.rest None (shut x)) g a.2 in
    let c = next_some m.CloseParen b.0.rest (shut b.0) g b.2 in
    let f = cond_sound env n d a.0 b.0 b.1 in
    subst (Enclosed env os) (same_Some (record { tree = b.0.tree; past = c.1.at.span.past; rest = c.0 }) g c.2) (record {
      front = f.front;
      open_mark = a.1.at;
      close_mark = c.1.at;
      parts = a.1.parts ∙ ap (λ (v : List Lexeme). a.1.at ∷ v) (f.parts ∙ ap (λ (v : List Lexeme). f.front ++ v) c.1.parts);
      opens = a.1.is;
      so = f.spelled_so;
      closes = c.1.is;
    })

-- ---- labels

pub record FoundAfter {A : Type 0} (Spells : List Lexeme → A → Type 0) (whole : List Lexeme) (g : After A) : Type 0 where
  pub front : List Lexeme
  pub parts : whole ≡ front ++ g.rest
  pub so : Spells front g.tree

module _ (env : Known) where
  case_ends : (n d : ℕ) (o : Lexeme) (ts : List Lexeme) (x : expr.Got ExprTree) (g : After (Option ExprTree)) → o.kind ≡ Rattle.cx_cword.specs.declared.lexeme.LexemeKind.TheVariants.Keyword k.Case → cond_at env n d ts ≡ Some x
      → next m.Colon x.rest None (λ c after. cond (is_some (constant_in env x.tree)) (Some (record { tree = Some x.tree; rest = after })) None) ≡ Some g → FoundAfter (IsLabel env) (o ∷ ts) g
  case_ends n d o ts x g is read e =
      let c = next_some m.Colon x.rest (λ c after. cond (is_some (constant_in env x.tree)) (Some (record { tree = Some x.tree; rest = after })) None) g e in
      let b = test_some (is_some (constant_in env x.tree)) (Some (record { tree = Some x.tree; rest = c.0 })) g c.2 in
      let f = cond_sound env n d ts x read in
      subst (FoundAfter (IsLabel env) (o ∷ ts)) (same_Some (record { tree = Some x.tree; rest = c.0 }) g b.1) (record {
        front = o ∷ f.front ++ c.1.at ∷ [];
        parts = ap (λ (v : List Lexeme). o ∷ v) (two_parts ts f.front x.rest c.0 [] c.0 c.1.at f.parts c.1.parts refl);
        so = case_label o c.1.at is f.spelled_so b.0 c.1.is;
      })

  label_step : (n d : ℕ) (o : Lexeme) (ts : List Lexeme) (l : Label) (g : After (Option ExprTree)) → label_of o.kind ≡ l → label_by env n d ts l ≡ Some g → FoundAfter (IsLabel env) (o ∷ ts) g
  label_step n d o ts label.Case g is e =
      let b = bind_some (cond_at env n d ts) (λ x. next m.Colon x.rest None (λ c after. cond (is_some (constant_in env x.tree)) (Some (record { tree = Some x.tree; rest = after })) None)) g e in
      case_ends n d o ts b.0 g (label_case o.kind is) b.1 b.2
  label_step n d o ts label.Default g is e =
      let c = next_some m.Colon ts (λ c after. Some (record { tree = None; rest = after })) g e in
      subst (FoundAfter (IsLabel env) (o ∷ ts)) (same_Some (record { tree = None; rest = c.0 }) g c.2) (record {
        front = o ∷ c.1.at ∷ [];
        parts = ap (λ (v : List Lexeme). o ∷ v) c.1.parts;
        so = default_label o c.1.at (label_default o.kind is) c.1.is;
      })
  label_step n d o ts label.Other g is e = absurd cc

  label_sound : (n d : ℕ) (os : List Lexeme) (g : After (Option ExprTree)) → label_at env n d os ≡ Some g → FoundAfter (IsLabel env) os g
  unfolding label_at
  label_sound n d os g e =
      let a = at_first os (λ o rest. label_by env n d rest (label_of o.kind)) g e in
      subst (λ (w : List Lexeme). FoundAfter (IsLabel env) w g) (sym a.2) (label_step n d a.0 a.1 (label_of a.0.kind) g refl a.3)

  -- labels after those that were read; no label follows them
  pub record FoundLabels (all : List (Option ExprTree)) (whole : List Lexeme) (g : After (List (Option ExprTree))) : Type 0 where
    pub front : List Lexeme
    pub ls : List (Option ExprTree)
    pub parts : whole ≡ front ++ g.rest
    pub so : AreLabels env front ls
    pub tree : all ++ ls ≡ g.tree
    pub ends : begins_label g.rest ≡ false
    pub begins : begins_label whole ≡ true

  label_begins : {front : List Lexeme} {l : Option ExprTree} → IsLabel env front l → (rest : List Lexeme) → begins_label (front ++ rest) ≡ true
  label_begins (case_label o m is h c e) rest = ap (λ (v : Rattle.cx_cword.specs.declared.lexeme.LexemeKind.LexemeKind). Rattle.cx_cstmt.specs.Kinds.is_label (label_of v)) is
  label_begins (default_label o m is e) rest = ap (λ (v : Rattle.cx_cword.specs.declared.lexeme.LexemeKind.LexemeKind). Rattle.cx_cstmt.specs.Kinds.is_label (label_of v)) is

  pub labels_sound : (n d : ℕ) (all : List (Option ExprTree)) (os : List Lexeme) (g : After (List (Option ExprTree))) → labels_at env n d all os ≡ Some g → FoundLabels all os g
  unfolding labels_at
  labels_sound zero d all os g e = absurd cc
  labels_sound (suc n) d all os g e =
      let b = bind_some (label_at env n d os) (λ x. cond (begins_label x.rest) (labels_at env n d (all ++ x.tree ∷ []) x.rest) (Some (record { tree = all ++ x.tree ∷ []; rest = x.rest }))) g e in
      let x = b.0 in
      let f = label_sound n d os x b.1 in
      let starts : begins_label os ≡ true = ap begins_label f.parts ∙ label_begins f.so x.rest in
      elim (pick (begins_label x.rest) (labels_at env n d (all ++ x.tree ∷ []) x.rest) (Some (record { tree = all ++ x.tree ∷ []; rest = x.rest })) g b.2) [
        | inl q ↦
            let r = labels_sound n d (all ++ x.tree ∷ []) x.rest g q.1 in
            record {
              front = f.front ++ r.front;
              ls = x.tree ∷ r.ls;
              parts = both_parts os f.front x.rest r.front g.rest f.parts r.parts;
              so = also_label f.so r.so;
              tree = sym (append_assoc all (x.tree ∷ []) r.ls) ∙ r.tree;
              ends = r.ends;
              begins = starts;
            }
        | inr q ↦ subst (FoundLabels all os) (same_Some (record { tree = all ++ x.tree ∷ []; rest = x.rest }) g q.1) (record {
          front = f.front;
          ls = x.tree ∷ [];
          parts = f.parts;
          so = last_label f.so;
          tree = refl;
          ends = q.0;
          begins = starts;
        })
      ]

  -- ---- the parentheses of `for`

  record FoundInit (all : StmtTrees) (whole : List Lexeme) (g : Got StmtTrees) : Type 0 where
    front : List Lexeme
    ss : StmtTrees
    parts : whole ≡ front ++ g.rest
    so : AreInitEffects env front ss
    tree : all_of all ss ≡ g.tree
    same : env ≡ g.known

  -- one effect as a statement
  one_effect : (d : ℕ) (o : Lexeme) (ts : List Lexeme) (e : expr.Got EffectTree) (s : Got StmtTree) → FoundEffect env (d - 1) (o ∷ ts) e → made d (spelled o.span.first e.past (effect e.tree)) env e.past e.rest ≡ Some s
      → (front : List Lexeme) × ((o ∷ ts) ≡ front ++ s.rest) × (x : EffectTree) × IsEffect env front x × (grammar.spelled front (effect x) ≡ s.tree) × (env ≡ s.known)
  one_effect d o ts e s f made_so =
      let q = made_some d (spelled o.span.first e.past (effect e.tree)) env e.past e.rest s made_so in
      let filled = effect_filled f.spelled_so in
      let begins = begins_at (o ∷ ts) f.front e.rest o.span.first f.parts filled refl in
      (f.front, f.parts ∙ ap (λ (v : Got StmtTree). f.front ++ v.rest) q.1, e.tree, f.spelled_so, ap (λ (z : Span). stmt z (effect e.tree)) (spanned f.front o.span.first e.past begins f.past) ∙ ap (λ (v : Got StmtTree). v.tree) q.1, ap (λ (v : Got StmtTree). v.known) q.1)

  init_effects_sound : (n d : ℕ) (all : StmtTrees) (os : List Lexeme) (g : Got StmtTrees) → init_effects_at env n d all os ≡ Some g → FoundInit all os g
  unfolding init_effects_at
  init_effects_sound zero d all os g e = absurd cc
  init_effects_sound (suc n) d all [] g e = absurd cc
  init_effects_sound (suc n) d all (o ∷ ts) g e =
      let os : List Lexeme = o ∷ ts in
      let last : Got StmtTree → Option (Got StmtTrees) = λ s. next m.Comma s.rest (Some (listed (push all s.tree) env s.rest)) (λ c rest. init_effects_at env n d (push all s.tree) rest) in
      let make : expr.Got EffectTree → Option (Got StmtTree) = λ e. made d (spelled o.span.first e.past (effect e.tree)) env e.past e.rest in
      let b = bind_some (effect_at env n (d - 1) os) (λ e. make e >>= last) g e in
      let c = bind_some (make b.0) last g b.2 in
      let s = c.0 in
      let f = one_effect d o ts b.0 s (effect_sound env n (d - 1) os b.0 b.1) c.1 in
      elim (next_cases m.Comma s.rest (Some (listed (push all s.tree) env s.rest)) (λ c rest. init_effects_at env n d (push all s.tree) rest) g c.2) [
        | inl a ↦ subst (FoundInit all os) (same_Some (listed (push all s.tree) env s.rest) g a.1) (record {
          front = f.0;
          ss = also_stmt s.tree no_stmt;
          parts = f.1;
          so = subst (λ (z : StmtTree). AreInitEffects env f.0 (also_stmt z no_stmt)) f.4 (last_init f.3);
          tree = sym (all_last all s.tree);
          same = refl;
        })
        | inr a ↦
            let q = init_effects_sound n d (push all s.tree) a.0 g a.2 in
            record {
              front = f.0 ++ a.1.at ∷ q.front;
              ss = also_stmt s.tree q.ss;
              parts = two_parts os f.0 s.rest a.0 q.front g.rest a.1.at f.1 a.1.parts q.parts;
              so = subst (λ (z : StmtTree). AreInitEffects env (f.0 ++ a.1.at ∷ q.front) (also_stmt z q.ss)) f.4 (also_init a.1.at f.3 a.1.is q.so);
              tree = sym (all_push all s.tree q.ss) ∙ q.tree;
              same = q.same;
            }
      ]

  pub record FoundFirst (earlier : List DeclTree) (whole : List Lexeme) (g : Got StmtTrees) : Type 0 where
    pub front : List Lexeme
    pub parts : whole ≡ front ++ g.rest
    pub so : IsInit earlier env front g.tree g.known

  first_local : (earlier : List DeclTree) (os : List Lexeme) (g : Got StmtTrees) → FoundLocal earlier env no_stmt os g → FoundFirst earlier os g
  first_local earlier os g f = record { front = f.front; parts = f.parts; so = init_local (subst (λ (v : StmtTrees). grammar.IsLocal earlier env f.front v g.known) f.tree f.so) }

  first_effects : (earlier : List DeclTree) (os : List Lexeme) (x g : Got StmtTrees) → FoundInit no_stmt os x → init_ends x ≡ Some g → FoundFirst earlier os g
  first_effects earlier os x g f e =
      let c = next_some m.Semicolon x.rest (λ c after. Some (listed x.tree x.known after)) g e in
      subst (FoundFirst earlier os) (same_Some (listed x.tree x.known c.0) g c.2) (record {
        front = f.front ++ c.1.at ∷ [];
        parts = two_parts os f.front x.rest c.0 [] c.0 c.1.at f.parts c.1.parts refl;
        so = subst (λ (v : StmtTrees). IsInit earlier env (f.front ++ c.1.at ∷ []) v x.known) f.tree (subst (IsInit earlier env (f.front ++ c.1.at ∷ []) f.ss) f.same (init_effects c.1.at f.so c.1.is));
      })

  init_sound : (earlier : List DeclTree) (n d : ℕ) (os : List Lexeme) (g : Got StmtTrees) → init_at env n d os ≡ Some g → FoundFirst earlier os g
  unfolding init_at
  init_sound earlier n d os g e = elim (next_cases m.Semicolon os (cond (begins_local env os) (local_at env n d no_stmt os) (init_effects_at env n d no_stmt os >>= init_ends)) (λ c after. Some (listed no_stmt env after)) g e) [
    | inl a ↦ elim (pick (begins_local env os) (local_at env n d no_stmt os) (init_effects_at env n d no_stmt os >>= init_ends) g a.1) [
      | inl q ↦ first_local earlier os g (local_sound earlier env n d no_stmt os g q.1)
      | inr q ↦ let b = bind_some (init_effects_at env n d no_stmt os) init_ends g q.1 in first_effects earlier os b.0 g (init_effects_sound n d no_stmt os b.0 b.1) b.2
    ]
    | inr a ↦ subst (FoundFirst earlier os) (same_Some (listed no_stmt env a.0) g a.2) (record { front = a.1.at ∷ []; parts = a.1.parts; so = init_nothing a.1.at a.1.is })
  ]

  -- a condition or steps, with the mark after them
  pub record FoundPart {A : Type 0} (Spells : List Lexeme → A → Type 0) (mark : Rattle.cx_cword.specs.declared.mark.Mark.Mark) (whole : List Lexeme) (g : After A) : Type 0 where
    pub front : List Lexeme
    pub close : Lexeme
    pub parts : whole ≡ front ++ close ∷ g.rest
    pub so : Spells front g.tree
    pub is : close.kind ≡ Rattle.cx_cword.proofs.Marks.kind_of mark

  test_sound : (n d : ℕ) (os : List Lexeme) (g : After (Option ExprTree)) → test_at env n d os ≡ Some g → FoundPart (IsCondition env) m.Semicolon os g
  unfolding test_at
  test_sound n d os g e =
      let some : expr.Got ExprTree → Option (After (Option ExprTree)) = λ x. next m.Semicolon x.rest None (λ c after. Some (record { tree = Some x.tree; rest = after })) in
      elim (next_cases m.Semicolon os (cond_at env n d os >>= some) (λ c after. Some (record { tree = None; rest = after })) g e) [
        | inl a ↦
            let b = bind_some (cond_at env n d os) some g a.1 in
            let f = cond_sound env n d os b.0 b.1 in
            let c = next_some m.Semicolon b.0.rest (λ c after. Some (record { tree = Some b.0.tree; rest = after })) g b.2 in
            subst (FoundPart (IsCondition env) m.Semicolon os) (same_Some (record { tree = Some b.0.tree; rest = c.0 }) g c.2) (record { front = f.front; close = c.1.at; parts = f.parts ∙ ap (λ (v : List Lexeme). f.front ++ v) c.1.parts; so = some_condition f.spelled_so; is = c.1.is })
        | inr a ↦ subst (FoundPart (IsCondition env) m.Semicolon os) (same_Some (record { tree = None; rest = a.0 }) g a.2) (record { front = []; close = a.1.at; parts = a.1.parts; so = no_condition; is = a.1.is })
      ]

  steps_sound : (n d : ℕ) (os : List Lexeme) (g : After (List EffectTree)) → steps_at env n d os ≡ Some g → FoundPart (AreSteps env) m.CloseParen os g
  unfolding steps_at
  steps_sound n d os g e =
      let some : expr.Got (List EffectTree) → Option (After (List EffectTree)) = λ x. next m.CloseParen x.rest None (λ c after. Some (record { tree = x.tree; rest = after })) in
      elim (next_cases m.CloseParen os (effects_at env n d [] os >>= some) (λ c after. Some (record { tree = []; rest = after })) g e) [
        | inl a ↦
            let b = bind_some (effects_at env n d [] os) some g a.1 in
            let f = effects_sound env n d os b.0 b.1 in
            let c = next_some m.CloseParen b.0.rest (λ c after. Some (record { tree = b.0.tree; rest = after })) g b.2 in
            subst (FoundPart (AreSteps env) m.CloseParen os) (same_Some (record { tree = b.0.tree; rest = c.0 }) g c.2) (record { front = f.front; close = c.1.at; parts = f.parts ∙ ap (λ (v : List Lexeme). f.front ++ v) c.1.parts; so = some_steps f.spelled_so; is = c.1.is })
        | inr a ↦ subst (FoundPart (AreSteps env) m.CloseParen os) (same_Some (record { tree = []; rest = a.0 }) g a.2) (record { front = []; close = a.1.at; parts = a.1.parts; so = no_step; is = a.1.is })
      ]

  -- what stands between the parentheses of `for`
  pub record FoundHeader (earlier : List DeclTree) (whole : List Lexeme) (g : Got Header) : Type 0 where
    pub a : List Lexeme
    pub c : List Lexeme
    pub d : List Lexeme
    pub open_mark : Lexeme
    pub semicolon : Lexeme
    pub close_mark : Lexeme
    pub parts : whole ≡ (open_mark ∷ a ++ c ++ semicolon ∷ d ++ close_mark ∷ []) ++ g.rest
    pub opens : Is p.OpenParen open_mark
    pub init : IsInit earlier env a g.tree.init g.known
    pub test : IsCondition g.known c g.tree.test
    pub ends : Is p.Semicolon semicolon
    pub steps : AreSteps g.known d g.tree.steps
    pub closes : Is p.CloseParen close_mark

pub header_sound : (env : Known) (earlier : List DeclTree) (n d : ℕ) (os : List Lexeme) (g : Got Header) → header_at env n d os ≡ Some g → FoundHeader env earlier os g
unfolding header_at
header_sound env earlier n d os g e =
    let done : Got StmtTrees → After (Option ExprTree) → After (List EffectTree) → Option (Got Header) = λ i t s. Some (listed (record { init = i.tree; test = t.tree; steps = s.tree }) i.known s.rest) in
    let a = next_some m.OpenParen os (λ o rest. init_at env n d rest >>= λ i. test_at i.known n d i.rest >>= λ t. steps_at i.known n d t.rest >>= done i t) g e in
    let b = bind_some (init_at env n d a.0) (λ i. test_at i.known n d i.rest >>= λ t. steps_at i.known n d t.rest >>= done i t) g a.2 in
    let i = b.0 in
    let c = bind_some (test_at i.known n d i.rest) (λ t. steps_at i.known n d t.rest >>= done i t) g b.2 in
    let t = c.0 in
    let r = bind_some (steps_at i.known n d t.rest) (done i t) g c.2 in
    let s = r.0 in
    let f = init_sound env earlier n d a.0 i b.1 in
    let u = test_sound i.known n d i.rest t c.1 in
    let v = steps_sound i.known n d t.rest s r.1 in
    subst (FoundHeader env earlier os) (same_Some (listed (record { init = i.tree; test = t.tree; steps = s.tree }) i.known s.rest) g r.2) (record {
      a = f.front;
      c = u.front;
      d = v.front;
      open_mark = a.1.at;
      semicolon = u.close;
      close_mark = v.close;
      parts = a.1.parts ∙ ap (λ (w : List Lexeme). a.1.at ∷ w)
          (two_parts a.0 (f.front ++ u.front ++ u.close ∷ v.front) (v.close ∷ s.rest) s.rest [] s.rest v.close
          (two_parts a.0 (f.front ++ u.front) (u.close ∷ t.rest) t.rest v.front (v.close ∷ s.rest) u.close (both_parts a.0 f.front i.rest u.front (u.close ∷ t.rest) f.parts u.parts) refl v.parts) refl refl);
      opens = a.1.is;
      init = f.so;
      test = u.so;
      ends = u.is;
      steps = v.so;
      closes = v.is;
    })
