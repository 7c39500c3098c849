-- Which lexemes spell a statement (C11 6.8). `earlier` are the declarations of objects and functions before it.
use Rattle.std.specs.Prelude.{◌≡◌, ℕ, Bool, true, false, List, [], ◌∷◌, ◌++◌, Option, Some, None, is_some}
use Rattle.cx_ctree.specs.Types.{TypeTree}
use Rattle.cx_ctree.specs.Exprs.{ExprTree, RhsTree, EffectTree}
use Rattle.cx_ctree.specs.Stmts.{StmtTree, stmt, StmtKindTree, block, empty, effect, declare, if_alone, if_else, while, do_while, for, switch, break, continue, return, StmtTrees, no_stmt, also_stmt, GroupTrees, no_group, also_group}
use Rattle.cx_ctree.specs.Decls.{DeclTree}
use Rattle.cx_cword.specs.declared.word.Keyword.TheVariants as k
use Rattle.cx_cword.specs.declared.word.Punctuator.TheVariants as p
use Rattle.cx_cword.specs.declared.lexeme.Lexeme.{Lexeme}
use Rattle.cx_cword.specs.Reading.{Is, IsWord, span_of}
use Rattle.cx_cname.specs.Known.{Known, names_type}
use Rattle.cx_cconst.specs.Constants.{constant_in}
use Rattle.cx_cexpr.specs.Expressions.{IsCond}
use Rattle.cx_ceffect.specs.Effects.{IsRhs, IsEffect, AreEffects}
use Rattle.cx_cdecl.specs.Declarations.{Beside, AreSpecs, IsObject}

-- ---- declarations of a block

abbrev pub spelled : List Lexeme → StmtKindTree → StmtTree
spelled os x = stmt (span_of os) x

-- a variable, whose name is no type's, with its initialiser; the statement has the place of the name
pub data IsVariable (env : Known) (t : TypeTree) : List Lexeme → StmtTree → Type 0 where
  variable : {a : List Lexeme} {o : Lexeme} {n : ℕ} {w : TypeTree} → IsObject env t a n o w → names_type env n ≡ false → IsVariable env t a (stmt o.span (declare n w None))
  initialised : {a c : List Lexeme} {o : Lexeme} {n : ℕ} {w : TypeTree} {r : RhsTree} (m : Lexeme) → IsObject env t a n o w → names_type env n ≡ false → Is p.Assign m → IsRhs env c r
      → IsVariable env t (a ++ m ∷ c) (stmt o.span (declare n w (Some r)))

pub data AreVariables (env : Known) (t : TypeTree) : List Lexeme → StmtTrees → Type 0 where
  last_variable : {a : List Lexeme} {s : StmtTree} → IsVariable env t a s → AreVariables env t a (also_stmt s no_stmt)
  also_variable : {a c : List Lexeme} {s : StmtTree} {ss : StmtTrees} (o : Lexeme) → IsVariable env t a s → Is p.Comma o → AreVariables env t c ss → AreVariables env t (a ++ o ∷ c) (also_stmt s ss)

-- a declaration of variables: one statement each. There is no list in braces, no attribute, and none of the words typedef, extern and static
pub data IsLocal (earlier : List DeclTree) (env : Known) : List Lexeme → StmtTrees → Known → Type 0 where
  local : {a c : List Lexeme} {t : TypeTree} {s : Beside} {ss : StmtTrees} {known : Known} (o : Lexeme) → AreSpecs earlier env a t s false known → s.attributed ≡ false → s.typedef_ ≡ false → s.linked ≡ false
      → AreVariables known t c ss → Is p.Semicolon o → IsLocal earlier env (a ++ c ++ o ∷ []) ss known

-- ---- statements

abbrev pub all_of : StmtTrees → StmtTrees → StmtTrees
all_of no_stmt ts = ts
all_of (also_stmt s ss) ts = also_stmt s (all_of ss ts)

-- the effects before a loop as statements, each at its own place
pub data AreInitEffects (env : Known) : List Lexeme → StmtTrees → Type 0 where
  last_init : {a : List Lexeme} {e : EffectTree} → IsEffect env a e → AreInitEffects env a (also_stmt (spelled a (effect e)) no_stmt)
  also_init : {a c : List Lexeme} {e : EffectTree} {ss : StmtTrees} (o : Lexeme) → IsEffect env a e → Is p.Comma o → AreInitEffects env c ss → AreInitEffects env (a ++ o ∷ c) (also_stmt (spelled a (effect e)) ss)

-- what stands first between the parentheses of `for`, with its semicolon
pub data IsInit (earlier : List DeclTree) (env : Known) : List Lexeme → StmtTrees → Known → Type 0 where
  init_local : {a : List Lexeme} {ss : StmtTrees} {known : Known} → IsLocal earlier env a ss known → IsInit earlier env a ss known
  init_nothing : (o : Lexeme) → Is p.Semicolon o → IsInit earlier env (o ∷ []) no_stmt env
  init_effects : {a : List Lexeme} {ss : StmtTrees} (o : Lexeme) → AreInitEffects env a ss → Is p.Semicolon o → IsInit earlier env (a ++ o ∷ []) ss env

pub data IsCondition (env : Known) : List Lexeme → Option ExprTree → Type 0 where
  no_condition : IsCondition env [] None
  some_condition : {a : List Lexeme} {x : ExprTree} → IsCond env a x → IsCondition env a (Some x)

pub data AreSteps (env : Known) : List Lexeme → List EffectTree → Type 0 where
  no_step : AreSteps env [] []
  some_steps : {a : List Lexeme} {es : List EffectTree} → AreEffects env a es → AreSteps env a es

pub data IsResult (env : Known) : List Lexeme → Option RhsTree → Type 0 where
  no_result : IsResult env [] None
  some_result : {a : List Lexeme} {r : RhsTree} → IsRhs env a r → IsResult env a (Some r)

-- labels, at least one: `case` with a constant, or `default` as None
pub data IsLabel (env : Known) : List Lexeme → Option ExprTree → Type 0 where
  case_label : {a : List Lexeme} {x : ExprTree} (o m : Lexeme) → IsWord k.Case o → IsCond env a x → is_some (constant_in env x) ≡ true → Is p.Colon m → IsLabel env (o ∷ a ++ m ∷ []) (Some x)
  default_label : (o m : Lexeme) → IsWord k.Default o → Is p.Colon m → IsLabel env (o ∷ m ∷ []) None

pub data AreLabels (env : Known) : List Lexeme → List (Option ExprTree) → Type 0 where
  last_label : {a : List Lexeme} {l : Option ExprTree} → IsLabel env a l → AreLabels env a (l ∷ [])
  also_label : {a c : List Lexeme} {l : Option ExprTree} {ls : List (Option ExprTree)} → IsLabel env a l → AreLabels env c ls → AreLabels env (a ++ c) (l ∷ ls)

abbrev pub some_stmt : StmtTrees → Bool
some_stmt no_stmt = false
some_stmt (also_stmt s ss) = true

abbrev pub some_group : GroupTrees → Bool
some_group no_group = false
some_group (also_group ls ss gs) = true

mutual
  -- a statement among the names known before it and after it; the mark says whether it ends with an `if` without `else`, after which no `else` may stand, since that belongs to the nearest `if` (C11 6.8.4.1)
  pub data IsStmt (earlier : List DeclTree) : Known → Bool → List Lexeme → StmtTree → Known → Type 0 where
    block_stmt : {env known : Known} {a : List Lexeme} {ss : StmtTrees} (o m : Lexeme) → Is p.OpenBrace o → AreBlockItems earlier env a ss known → Is p.CloseBrace m
        → IsStmt earlier env false (o ∷ a ++ m ∷ []) (spelled (o ∷ a ++ m ∷ []) (block ss)) known
    empty_stmt : {env : Known} (o : Lexeme) → Is p.Semicolon o → IsStmt earlier env false (o ∷ []) (spelled (o ∷ []) empty) env
    effect_stmt : {env : Known} {a : List Lexeme} {e : EffectTree} (o : Lexeme) → IsEffect env a e → Is p.Semicolon o → IsStmt earlier env false (a ++ o ∷ []) (spelled (a ++ o ∷ []) (effect e)) env
    if_stmt : {env known : Known} {f : Bool} {a c : List Lexeme} {x : ExprTree} {s : StmtTree} (i o m : Lexeme) → IsWord k.If i → Is p.OpenParen o → IsCond env a x → Is p.CloseParen m → IsStmt earlier env f c s known
        → IsStmt earlier env true (i ∷ o ∷ a ++ m ∷ c) (spelled (i ∷ o ∷ a ++ m ∷ c) (if_alone x s)) known
    if_else_stmt : {env known later : Known} {f : Bool} {a c d : List Lexeme} {x : ExprTree} {s u : StmtTree} (i o m e : Lexeme) → IsWord k.If i → Is p.OpenParen o → IsCond env a x → Is p.CloseParen m → IsStmt earlier env false c s known
        → IsWord k.Else e → IsStmt earlier known f d u later → IsStmt earlier env f (i ∷ o ∷ a ++ m ∷ c ++ e ∷ d) (spelled (i ∷ o ∷ a ++ m ∷ c ++ e ∷ d) (if_else x s u)) later
    while_stmt : {env known : Known} {f : Bool} {a c : List Lexeme} {x : ExprTree} {s : StmtTree} (w o m : Lexeme) → IsWord k.While w → Is p.OpenParen o → IsCond env a x → Is p.CloseParen m → IsStmt earlier env f c s known
        → IsStmt earlier env f (w ∷ o ∷ a ++ m ∷ c) (spelled (w ∷ o ∷ a ++ m ∷ c) (while x s)) known
    do_stmt : {env known : Known} {f : Bool} {a c : List Lexeme} {x : ExprTree} {s : StmtTree} (d w o m e : Lexeme) → IsWord k.Do d → IsStmt earlier env f a s known → IsWord k.While w → Is p.OpenParen o → IsCond known c x → Is p.CloseParen m → Is p.Semicolon e
        → IsStmt earlier env false (d ∷ a ++ w ∷ o ∷ c ++ m ∷ e ∷ []) (spelled (d ∷ a ++ w ∷ o ∷ c ++ m ∷ e ∷ []) (do_while s x)) known
    for_stmt : {env known later : Known} {f : Bool} {a c d r : List Lexeme} {init : StmtTrees} {x : Option ExprTree} {es : List EffectTree} {s : StmtTree} (w o m e : Lexeme) → IsWord k.For w → Is p.OpenParen o → IsInit earlier env a init known
        → IsCondition known c x → Is p.Semicolon m → AreSteps known d es → Is p.CloseParen e → IsStmt earlier known f r s later
        → IsStmt earlier env f (w ∷ o ∷ a ++ c ++ m ∷ d ++ e ∷ r) (spelled (w ∷ o ∷ a ++ c ++ m ∷ d ++ e ∷ r) (for init x es s)) later
    switch_stmt : {env known : Known} {a c : List Lexeme} {x : ExprTree} {gs : GroupTrees} (w o m e f : Lexeme) → IsWord k.Switch w → Is p.OpenParen o → IsCond env a x → Is p.CloseParen m → Is p.OpenBrace e → AreGroups earlier env c gs known → Is p.CloseBrace f
        → IsStmt earlier env false (w ∷ o ∷ a ++ m ∷ e ∷ c ++ f ∷ []) (spelled (w ∷ o ∷ a ++ m ∷ e ∷ c ++ f ∷ []) (switch x gs)) known
    break_stmt : {env : Known} (w o : Lexeme) → IsWord k.Break w → Is p.Semicolon o → IsStmt earlier env false (w ∷ o ∷ []) (spelled (w ∷ o ∷ []) break) env
    continue_stmt : {env : Known} (w o : Lexeme) → IsWord k.Continue w → Is p.Semicolon o → IsStmt earlier env false (w ∷ o ∷ []) (spelled (w ∷ o ∷ []) continue) env
    return_stmt : {env : Known} {a : List Lexeme} {r : Option RhsTree} (w o : Lexeme) → IsWord k.Return w → IsResult env a r → Is p.Semicolon o → IsStmt earlier env false (w ∷ a ++ o ∷ []) (spelled (w ∷ a ++ o ∷ []) (return r)) env

  -- the declarations and statements of a block
  pub data AreBlockItems (earlier : List DeclTree) : Known → List Lexeme → StmtTrees → Known → Type 0 where
    no_item : {env : Known} → AreBlockItems earlier env [] no_stmt env
    local_item : {env known later : Known} {a c : List Lexeme} {ss us : StmtTrees} → IsLocal earlier env a ss known → AreBlockItems earlier known c us later → AreBlockItems earlier env (a ++ c) (all_of ss us) later
    stmt_item : {env known later : Known} {f : Bool} {a c : List Lexeme} {s : StmtTree} {ss : StmtTrees} → IsStmt earlier env f a s known → AreBlockItems earlier known c ss later → AreBlockItems earlier env (a ++ c) (also_stmt s ss) later

  -- the statements of a group
  pub data AreStmts (earlier : List DeclTree) : Known → List Lexeme → StmtTrees → Known → Type 0 where
    no_more : {env : Known} → AreStmts earlier env [] no_stmt env
    more : {env known later : Known} {f : Bool} {a c : List Lexeme} {s : StmtTree} {ss : StmtTrees} → IsStmt earlier env f a s known → AreStmts earlier known c ss later → AreStmts earlier env (a ++ c) (also_stmt s ss) later

  -- the groups of a `switch`; labels that follow one another belong to one group, so only the last group may have no statement
  pub data AreGroups (earlier : List DeclTree) : Known → List Lexeme → GroupTrees → Known → Type 0 where
    no_groups : {env : Known} → AreGroups earlier env [] no_group env
    last_group : {env known : Known} {a c : List Lexeme} {ls : List (Option ExprTree)} {ss : StmtTrees} → AreLabels env a ls → AreStmts earlier env c ss known → AreGroups earlier env (a ++ c) (also_group ls ss no_group) known
    also_groups : {env known later : Known} {a c d : List Lexeme} {ls : List (Option ExprTree)} {ss : StmtTrees} {gs : GroupTrees} → AreLabels env a ls → AreStmts earlier env c ss known → some_stmt ss ≡ true → some_group gs ≡ true → AreGroups earlier known d gs later
        → AreGroups earlier env (a ++ c ++ d) (also_group ls ss gs) later
