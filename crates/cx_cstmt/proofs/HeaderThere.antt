-- What is spelled as an expression in parentheses, as labels, or between the parentheses of `for` is read.
use Rattle.std.proofs.Common.{◌≡◌, ℕ, ◌+◌, ◌-◌, ◌*◌, ◌≤◌, Bool, true, false, cond, List, [], ◌∷◌, ◌++◌, length, length-append, Option, Some, None, refl, ap, ◌∙◌, append_assoc, arith}
use Rattle.std.specs.Prelude.{not, is_some}
use Rattle.cx_ctree.specs.Exprs.{ExprTree, EffectTree}
use Rattle.cx_ctree.specs.Stmts.{StmtTree, effect, StmtTrees, no_stmt}
use Rattle.cx_ctree.specs.Path.{greatest, expr_path, effect_path, stmt_path, stmts_path}
use Rattle.cx_ctree.specs.Decls.{DeclTree}
use Rattle.cx_cword.specs.declared.word.Keyword.TheVariants as k
use Rattle.cx_cword.specs.declared.word.Punctuator.TheVariants as p
use Rattle.cx_cword.specs.declared.lexeme.Lexeme.{Lexeme}
use Rattle.cx_cword.specs.declared.lexeme.LexemeKind.{LexemeKind}
use Rattle.cx_cword.specs.Reading.{Is, IsWord, ◌>>=◌, past_of}
use Rattle.cx_cname.specs.Known.{Known}
use Rattle.cx_cconst.specs.Constants.{constant_in}
use Rattle.cx_cexpr.specs.Expressions.{IsCond}
use Rattle.cx_cexpr.specs.Reading as expr
use Rattle.cx_cexpr.specs.Reading.{Few, cond_at}
use Rattle.cx_cexpr.proofs.Begins.{cond_begins}
use Rattle.cx_cexpr.proofs.TypeAgain.{got_of}
use Rattle.cx_cexpr.proofs.Ends.{mark_ends}
use Rattle.cx_cexpr.proofs.Again.{cond_there}
use Rattle.cx_ceffect.specs.Reading.{effect_at, effects_at}
use Rattle.cx_ceffect.proofs.Follows.{closes, ends_list}
use Rattle.cx_ceffect.proofs.Sound.{effect_filled}
use Rattle.cx_ceffect.proofs.Again.{effect_there, effects_there}
use Rattle.cx_cdecl.proofs.Follows.{bind_goes, Room}
use Rattle.cx_cdecl.proofs.Grows.{Fits, fits_few, fits_after}
use Rattle.cx_cword.specs.declared.mark.Mark.TheVariants as m
use Rattle.cx_cstmt.specs.Kinds.{label_of, begins_label, begins_local}
use Rattle.cx_cstmt.specs.Statements.{IsLabel, case_label, default_label, AreLabels, last_label, also_label, AreInitEffects, last_init, also_init, IsInit, init_local, init_nothing, init_effects, IsCondition, no_condition, some_condition, AreSteps, no_step, some_steps, all_of}
use Rattle.cx_cstmt.specs.Statements as grammar
use Rattle.cx_cstmt.specs.Reading.{Got, listed, After, Header, made, next, push, spelled, test_path, enclosed_at, label_by, label_at, labels_at, local_at, init_effects_at, init_ends, init_at, test_at, steps_at, header_at}
use Rattle.cx_cstmt.proofs.Turns.{labels_turn, init_effects_turn}
use Rattle.cx_cstmt.proofs.Steps.{lacks, all_push, all_last}
use Rattle.cx_cstmt.proofs.Filled.{label_filled}
use Rattle.cx_cstmt.proofs.Goes.{next_goes, next_other, made_goes, stmt_got}
use Rattle.cx_cstmt.proofs.Begins.{starts_acting, effects_acting, init_effects_acting, labels_begin, local_declaring}
use Rattle.cx_cstmt.proofs.LocalThere.{local_there}
use Rattle.cx_cstmt.proofs.Growing.{init_grows}
use Rattle.cx_cword.specs.Marks.{fits}

-- ---- expressions in parentheses

pub enclosed_there : {env : Known} {a : List Lexeme} {x : ExprTree} (o w : Lexeme) → Few env → Is p.OpenParen o → IsCond env a x → Is p.CloseParen w → (n d : ℕ) (rest : List Lexeme) → 16 * length (a ++ w ∷ rest) + 5 ≤ n → expr_path x ≤ d
    → enclosed_at env n d (o ∷ (a ++ w ∷ rest)) ≡ Some (record { tree = x; past = w.span.past; rest = rest })
unfolding enclosed_at
enclosed_there {env} {a} {x} o w few opening h closing n d rest enough low =
    let shut : expr.Got ExprTree → Option (expr.Got ExprTree) = λ x. next m.CloseParen x.rest None (λ c after. Some (record { tree = x.tree; past = c.span.past; rest = after })) in
    next_goes m.OpenParen o (a ++ w ∷ rest) None (λ o rest. cond_at env n d rest >>= shut) opening
    ∙ bind_goes (cond_at env n d (a ++ w ∷ rest)) shut (got_of a x (w ∷ rest)) (cond_there env few h n d (w ∷ rest) (mark_ends w p.CloseParen 11 rest closing refl (omega arith)) enough low)
    ∙ next_goes m.CloseParen w rest None (λ c after. Some (record { tree = x; past = c.span.past; rest = after })) closing

-- ---- labels

abbrev label_got : Option ExprTree → List Lexeme → After (Option ExprTree)
label_got x rest = record { tree = x; rest = rest }

abbrev labels_got : List (Option ExprTree) → List Lexeme → After (List (Option ExprTree))
labels_got xs rest = record { tree = xs; rest = rest }

module _ (env : Known) where
  abbrev case_ends : expr.Got ExprTree → Option (After (Option ExprTree))
  case_ends x = next m.Colon x.rest None (λ c after. cond (is_some (constant_in env x.tree)) (Some (label_got (Some x.tree) after)) None)

  case_goes : (n d : ℕ) (o w : Lexeme) (a rest : List Lexeme) (x : ExprTree) → IsWord k.Case o → cond_at env n d (a ++ w ∷ rest) ≡ Some (got_of a x (w ∷ rest)) → is_some (constant_in env x) ≡ true → Is p.Colon w
      → label_at env n d (o ∷ (a ++ w ∷ rest)) ≡ Some (label_got (Some x) rest)
  unfolding label_at
  case_goes n d o w a rest x is read fixed colon =
      ap (λ (kind : LexemeKind). label_by env n d (a ++ w ∷ rest) (label_of kind)) is
      ∙ bind_goes (cond_at env n d (a ++ w ∷ rest)) case_ends (got_of a x (w ∷ rest)) read
      ∙ next_goes m.Colon w rest None (λ c after. cond (is_some (constant_in env x)) (Some (label_got (Some x) after)) None) colon
      ∙ ap (λ (b : Bool). cond b (Some (label_got (Some x) rest)) None) fixed

  default_goes : (n d : ℕ) (o w : Lexeme) (rest : List Lexeme) → IsWord k.Default o → Is p.Colon w → label_at env n d (o ∷ w ∷ rest) ≡ Some (label_got None rest)
  unfolding label_at
  default_goes n d o w rest is colon =
      ap (λ (kind : LexemeKind). label_by env n d (w ∷ rest) (label_of kind)) is
      ∙ next_goes m.Colon w rest None (λ c after. Some (label_got None after)) colon

  label_there : {a : List Lexeme} {x : Option ExprTree} → Few env → IsLabel env a x → (n d : ℕ) (rest : List Lexeme) → 16 * length (a ++ rest) + 5 ≤ n → test_path x ≤ d → label_at env n d (a ++ rest) ≡ Some (label_got x rest)
  label_there few (case_label {a = a} {x = x} o w is h fixed colon) n d rest enough low =
      let parts : (o ∷ a ++ w ∷ []) ++ rest ≡ o ∷ (a ++ w ∷ rest) = append_assoc (o ∷ a) (w ∷ []) rest in
      let whole = ap length parts in
      ap (label_at env n d) parts
      ∙ case_goes n d o w a rest x is (cond_there env few h n d (w ∷ rest) (mark_ends w p.Colon 11 rest colon refl (omega arith)) (omega (arith, enough, whole)) low) fixed colon
  label_there few (default_label o w is colon) n d rest enough low = default_goes n d o w rest is colon

  one_label : (n d : ℕ) (all : List (Option ExprTree)) (os rest : List Lexeme) (x : Option ExprTree) → 1 ≤ n → label_at env (n - 1) d os ≡ Some (label_got x rest)
      → labels_at env n d all os ≡ cond (begins_label rest) (labels_at env (n - 1) d (all ++ x ∷ []) rest) (Some (labels_got (all ++ x ∷ []) rest))
  one_label n d all os rest x some read =
      labels_turn env n d all os some
      ∙ bind_goes (label_at env (n - 1) d os) (λ x. cond (begins_label x.rest) (labels_at env (n - 1) d (all ++ x.tree ∷ []) x.rest) (Some (labels_got (all ++ x.tree ∷ []) x.rest))) (label_got x rest) read

  pub labels_there : {a : List Lexeme} {xs : List (Option ExprTree)} → Few env → AreLabels env a xs → (n d : ℕ) (all : List (Option ExprTree)) (rest : List Lexeme) → begins_label rest ≡ false → 16 * length (a ++ rest) + 6 ≤ n → greatest test_path xs ≤ d
      → labels_at env n d all (a ++ rest) ≡ Some (record { tree = all ++ xs; rest = rest })
  labels_there few (last_label {a = a} {l = x} h) n d all rest ends enough low =
      one_label n d all (a ++ rest) rest x (omega (arith, enough)) (label_there few h (n - 1) d rest (omega (arith, enough)) (omega (arith, low)))
      ∙ ap (λ (b : Bool). cond b (labels_at env (n - 1) d (all ++ x ∷ []) rest) (Some (labels_got (all ++ x ∷ []) rest))) ends
  labels_there few (also_label {a = a} {c = c} {l = x} {ls = xs} h hs) n d all rest ends enough low =
      let parts : (a ++ c) ++ rest ≡ a ++ (c ++ rest) = append_assoc a c rest in
      let whole = ap length parts in
      let long = length-append a (c ++ rest) in
      let filled = label_filled h in
      ap (labels_at env n d all) parts
      ∙ one_label n d all (a ++ (c ++ rest)) (c ++ rest) x (omega (arith, enough)) (label_there few h (n - 1) d (c ++ rest) (omega (arith, enough, whole)) (omega (arith, low)))
      ∙ ap (λ (b : Bool). cond b (labels_at env (n - 1) d (all ++ x ∷ []) (c ++ rest)) (Some (labels_got (all ++ x ∷ []) (c ++ rest)))) (labels_begin hs rest)
      ∙ labels_there few hs (n - 1) d (all ++ x ∷ []) rest ends (omega (arith, enough, whole, long, filled)) (omega (arith, low))
      ∙ ap (λ (v : List (Option ExprTree)). Some (labels_got v rest)) (append_assoc all (x ∷ []) xs)

  -- ---- the parentheses of `for`

  abbrev init_of : List Lexeme → EffectTree → StmtTree
  init_of front x = grammar.spelled front (effect x)

  one_effect : (n d : ℕ) (all : StmtTrees) (front rest : List Lexeme) (x : EffectTree) → 1 ≤ n → 1 ≤ length front → effect_at env (n - 1) (d - 1) (front ++ rest) ≡ Some (got_of front x rest) → stmt_path (init_of front x) ≤ d
      → init_effects_at env n d all (front ++ rest) ≡ next m.Comma rest (Some (listed (push all (init_of front x)) env rest)) (λ c rest. init_effects_at env (n - 1) d (push all (init_of front x)) rest)
  one_effect n d all [] rest x some filled read low = absurd (omega (arith, filled))
  one_effect n d all (o ∷ front) rest x some filled read low =
      let os : List Lexeme = o ∷ (front ++ rest) in
      let past : ℕ = past_of (o ∷ front) in
      let last : Got StmtTree → Option (Got StmtTrees) = λ s. next m.Comma s.rest (Some (listed (push all s.tree) env s.rest)) (λ c rest. init_effects_at env (n - 1) d (push all s.tree) rest) in
      let make : expr.Got EffectTree → Option (Got StmtTree) = λ e. made d (spelled o.span.first e.past (effect e.tree)) env e.past e.rest in
      init_effects_turn env n d all os some
      ∙ bind_goes (effect_at env (n - 1) (d - 1) os) (λ e. make e >>= last) (got_of (o ∷ front) x rest) read
      ∙ bind_goes (make (got_of (o ∷ front) x rest)) last (stmt_got (init_of (o ∷ front) x) (o ∷ front) env rest) (made_goes d (init_of (o ∷ front) x) env past rest low)

  init_effects_there : {a : List Lexeme} {ss : StmtTrees} → Few env → AreInitEffects env a ss → (n d : ℕ) (all : StmtTrees) (o : Lexeme) (rest : List Lexeme) → Is p.Semicolon o → 16 * length (a ++ o ∷ rest) + 6 ≤ n → stmts_path ss ≤ d
      → init_effects_at env n d all (a ++ o ∷ rest) ≡ Some (listed (all_of all ss) env (o ∷ rest))
  init_effects_there few (last_init {a = a} {e = x} h) n d all o rest is enough low =
      let read = effect_there env few h (n - 1) (d - 1) (o ∷ rest) (ap closes is) (omega (arith, enough)) (omega (arith, low)) in
      one_effect n d all a (o ∷ rest) x (omega (arith, enough)) (effect_filled h) read (omega (arith, low))
      ∙ next_other m.Comma (o ∷ rest) (Some (listed (push all (init_of a x)) env (o ∷ rest))) (λ c rest. init_effects_at env (n - 1) d (push all (init_of a x)) rest) (ap (λ (kind : LexemeKind). not (fits m.Comma kind)) is)
      ∙ ap (λ (v : StmtTrees). Some (listed v env (o ∷ rest))) (all_last all (init_of a x))
  init_effects_there few (also_init {a = a} {c = c} {e = x} {ss = ss} e h comma hs) n d all o rest is enough low =
      let tail : List Lexeme = c ++ o ∷ rest in
      let parts : (a ++ e ∷ c) ++ o ∷ rest ≡ a ++ e ∷ tail = append_assoc a (e ∷ c) (o ∷ rest) in
      let whole = ap length parts in
      let long = length-append a (e ∷ tail) in
      let read = effect_there env few h (n - 1) (d - 1) (e ∷ tail) (ap closes comma) (omega (arith, enough, whole)) (omega (arith, low)) in
      ap (init_effects_at env n d all) parts
      ∙ one_effect n d all a (e ∷ tail) x (omega (arith, enough)) (effect_filled h) read (omega (arith, low))
      ∙ next_goes m.Comma e tail (Some (listed (push all (init_of a x)) env (e ∷ tail))) (λ c rest. init_effects_at env (n - 1) d (push all (init_of a x)) rest) comma
      ∙ init_effects_there few hs (n - 1) d (push all (init_of a x)) o rest is (omega (arith, enough, whole, long)) (omega (arith, low))
      ∙ ap (λ (v : StmtTrees). Some (listed v env (o ∷ rest))) (all_push all (init_of a x) ss)

  abbrev init_by : ℕ → ℕ → List Lexeme → Bool → Option (Got StmtTrees)
  init_by n d os b = cond b (local_at env n d no_stmt os) (init_effects_at env n d no_stmt os >>= init_ends)

  init_goes : (n d : ℕ) (os : List Lexeme) (b : Bool) → lacks m.Semicolon os ≡ true → begins_local env os ≡ b → init_at env n d os ≡ init_by n d os b
  unfolding init_at
  init_goes n d os b ends e = next_other m.Semicolon os (init_by n d os (begins_local env os)) (λ c after. Some (listed no_stmt env after)) ends ∙ ap (init_by n d os) e

  init_alone : (n d : ℕ) (o : Lexeme) (rest : List Lexeme) → Is p.Semicolon o → init_at env n d (o ∷ rest) ≡ Some (listed no_stmt env rest)
  unfolding init_at
  init_alone n d o rest is = next_goes m.Semicolon o rest (init_by n d (o ∷ rest) (begins_local env (o ∷ rest))) (λ c after. Some (listed no_stmt env after)) is

init_there : {earlier : List DeclTree} {env known : Known} {a : List Lexeme} {ss : StmtTrees} → IsInit earlier env a ss known → (n d : ℕ) (rest : List Lexeme) → Fits env (a ++ rest) → Room n (a ++ rest) → stmts_path ss ≤ d → init_at env n d (a ++ rest) ≡ Some (listed ss known rest)
init_there {env = env} (init_local {a = a} h) n d rest fits room low =
    let f = local_declaring h rest in
    init_goes env n d (a ++ rest) true f.semicolon f.local ∙ local_there h n d no_stmt rest fits room low
init_there {env = env} (init_nothing o is) n d rest fits room low = init_alone env n d o rest is
init_there {env = env} (init_effects {a = a} {ss = ss} o h is) n d rest fits room low =
    let parts : (a ++ o ∷ []) ++ rest ≡ a ++ o ∷ rest = append_assoc a (o ∷ []) rest in
    let whole = ap length parts in
    let f = init_effects_acting h (o ∷ rest) in
    ap (init_at env n d) parts
    ∙ init_goes env n d (a ++ o ∷ rest) false f.semicolon f.local
    ∙ bind_goes (init_effects_at env n d no_stmt (a ++ o ∷ rest)) init_ends (listed ss env (o ∷ rest)) (init_effects_there env (fits_few env ((a ++ o ∷ []) ++ rest) fits) h n d no_stmt o rest is (omega (arith, room, whole)) low)
    ∙ next_goes m.Semicolon o rest None (λ c after. Some (listed ss env after)) is

module _ (env : Known) (few : Few env) where
  abbrev test_after : ℕ → ℕ → List Lexeme → Option (After (Option ExprTree))
  test_after n d os = cond_at env n d os >>= λ x. next m.Semicolon x.rest None (λ c after. Some (label_got (Some x.tree) after))

  test_there : {a : List Lexeme} {x : Option ExprTree} → IsCondition env a x → (n d : ℕ) (o : Lexeme) (rest : List Lexeme) → Is p.Semicolon o → 16 * length (a ++ o ∷ rest) + 5 ≤ n → test_path x ≤ d → test_at env n d (a ++ o ∷ rest) ≡ Some (label_got x rest)
  unfolding test_at
  test_there no_condition n d o rest is enough low = next_goes m.Semicolon o rest (test_after n d (o ∷ rest)) (λ c after. Some (label_got None after)) is
  test_there (some_condition {a = a} {x = x} h) n d o rest is enough low =
      let os : List Lexeme = a ++ o ∷ rest in
      let shut : expr.Got ExprTree → Option (After (Option ExprTree)) = λ x. next m.Semicolon x.rest None (λ c after. Some (label_got (Some x.tree) after)) in
      next_other m.Semicolon os (test_after n d os) (λ c after. Some (label_got None after)) (starts_acting env a (o ∷ rest) (cond_begins h)).semicolon
      ∙ bind_goes (cond_at env n d os) shut (got_of a x (o ∷ rest)) (cond_there env few h n d (o ∷ rest) (mark_ends o p.Semicolon 11 rest is refl (omega arith)) enough low)
      ∙ next_goes m.Semicolon o rest None (λ c after. Some (label_got (Some x) after)) is

  abbrev steps_got : List EffectTree → List Lexeme → After (List EffectTree)
  steps_got es rest = record { tree = es; rest = rest }

  abbrev steps_after : ℕ → ℕ → List Lexeme → Option (After (List EffectTree))
  steps_after n d os = effects_at env n d [] os >>= λ x. next m.CloseParen x.rest None (λ c after. Some (steps_got x.tree after))

  steps_there : {a : List Lexeme} {es : List EffectTree} → AreSteps env a es → (n d : ℕ) (o : Lexeme) (rest : List Lexeme) → Is p.CloseParen o → 16 * length (a ++ o ∷ rest) + 6 ≤ n → greatest effect_path es ≤ d → steps_at env n d (a ++ o ∷ rest) ≡ Some (steps_got es rest)
  unfolding steps_at
  steps_there no_step n d o rest is enough low = next_goes m.CloseParen o rest (steps_after n d (o ∷ rest)) (λ c after. Some (steps_got [] after)) is
  steps_there (some_steps {a = a} {es = es} h) n d o rest is enough low =
      let os : List Lexeme = a ++ o ∷ rest in
      let shut : expr.Got (List EffectTree) → Option (After (List EffectTree)) = λ x. next m.CloseParen x.rest None (λ c after. Some (steps_got x.tree after)) in
      next_other m.CloseParen os (steps_after n d os) (λ c after. Some (steps_got [] after)) (effects_acting h (o ∷ rest)).paren
      ∙ bind_goes (effects_at env n d [] os) shut (got_of a es (o ∷ rest)) (effects_there env few h n d (o ∷ rest) (ap ends_list is) enough low)
      ∙ next_goes m.CloseParen o rest None (λ c after. Some (steps_got es after)) is

header_goes : (env known : Known) (n d : ℕ) (o : Lexeme) (os tests steps rest : List Lexeme) (init : StmtTrees) (x : Option ExprTree) (es : List EffectTree) → Is p.OpenParen o → init_at env n d os ≡ Some (listed init known tests) → test_at known n d tests ≡ Some (label_got x steps)
    → steps_at known n d steps ≡ Some (record { tree = es; rest = rest }) → header_at env n d (o ∷ os) ≡ Some (listed (record { init = init; test = x; steps = es }) known rest)
unfolding header_at
header_goes env known n d o os tests steps rest init x es is first second third =
    let done : Got StmtTrees → After (Option ExprTree) → After (List EffectTree) → Option (Got Header) = λ i t s. Some (listed (record { init = i.tree; test = t.tree; steps = s.tree }) i.known s.rest) in
    next_goes m.OpenParen o os None (λ o rest. init_at env n d rest >>= λ i. test_at i.known n d i.rest >>= λ t. steps_at i.known n d t.rest >>= done i t) is
    ∙ bind_goes (init_at env n d os) (λ i. test_at i.known n d i.rest >>= λ t. steps_at i.known n d t.rest >>= done i t) (listed init known tests) first
    ∙ bind_goes (test_at known n d tests) (λ t. steps_at known n d t.rest >>= done (listed init known tests) t) (label_got x steps) second
    ∙ bind_goes (steps_at known n d steps) (done (listed init known tests) (label_got x steps)) (record { tree = es; rest = rest }) third

-- what stands between the parentheses is read with them
pub header_there : {earlier : List DeclTree} {env known : Known} {a c d : List Lexeme} {init : StmtTrees} {x : Option ExprTree} {es : List EffectTree} (o w e : Lexeme) → Is p.OpenParen o → IsInit earlier env a init known → IsCondition known c x → Is p.Semicolon w → AreSteps known d es → Is p.CloseParen e
    → (n high : ℕ) (rest : List Lexeme) → Fits env (a ++ (c ++ w ∷ (d ++ e ∷ rest))) → Room n (a ++ (c ++ w ∷ (d ++ e ∷ rest))) → stmts_path init ≤ high → test_path x ≤ high → greatest effect_path es ≤ high
    → header_at env n high (o ∷ (a ++ (c ++ w ∷ (d ++ e ∷ rest)))) ≡ Some (listed (record { init = init; test = x; steps = es }) known rest)
header_there {env = env} {known = known} {a = a} {c = c} {d = d} {init = init} {x = x} {es = es} o w e opening h test ends steps closing n high rest fits room low mid late =
    let last : List Lexeme = d ++ e ∷ rest in
    let tests : List Lexeme = c ++ w ∷ last in
    let long = length-append a tests in
    let more = length-append c (w ∷ last) in
    let few = fits_few known tests (fits_after env known a tests fits (init_grows h)) in
    header_goes env known n high o (a ++ tests) tests last rest init x es opening (init_there h n high tests fits room low) (test_there known few test n high w last ends (omega (arith, room, long)) mid)
    (steps_there known few steps n high e rest closing (omega (arith, room, long, more)) late)
