-- What is spelled as a declaration of a block is read, whatever follows.
use Rattle.std.proofs.Common.{◌≡◌, ℕ, ◌+◌, ◌-◌, ◌*◌, ◌≤◌, Bool, true, false, ◌&&◌, cond, List, [], ◌∷◌, ◌++◌, length, length-append, Option, Some, None, refl, ap, ◌∙◌, append_assoc, arith}
use Rattle.std.specs.Prelude.{not}
use Rattle.cx_ctree.specs.Types.{TypeTree}
use Rattle.cx_ctree.specs.Exprs.{RhsTree}
use Rattle.cx_ctree.specs.Stmts.{StmtTree, stmt, declare, StmtTrees}
use Rattle.cx_ctree.specs.Path.{stmt_path, stmts_path}
use Rattle.cx_ctree.specs.Decls.{DeclTree}
use Rattle.cx_cword.specs.declared.word.Punctuator.TheVariants as p
use Rattle.cx_cword.specs.declared.lexeme.Lexeme.{Lexeme}
use Rattle.cx_cword.specs.declared.lexeme.LexemeKind.{LexemeKind}
use Rattle.cx_cword.specs.Reading.{Is, ◌>>=◌}
use Rattle.cx_cname.specs.Known.{Known, names_type}
use Rattle.cx_cexpr.specs.Reading.{Few}
use Rattle.cx_cexpr.proofs.TypeAgain.{got_of}
use Rattle.cx_ceffect.specs.Reading.{rhs_at}
use Rattle.cx_ceffect.proofs.Follows.{closes, Closed}
use Rattle.cx_ceffect.proofs.Again.{rhs_there}
use Rattle.cx_cdecl.specs.Declarations.{Beside}
use Rattle.cx_cdecl.specs.Reading.{Named, Specs, object_at, plain_specs_at}
use Rattle.cx_cdecl.specs.Reading as decl
use Rattle.cx_cdecl.proofs.DeclaratorThere.{named_of, object_there}
use Rattle.cx_cdecl.proofs.Follows.{no_mark, ends_type, bind_goes, Room}
use Rattle.cx_cdecl.proofs.Grows.{Fits, fits_few, fits_after, fits_less}
use Rattle.cx_cdecl.proofs.Growing.{specs_grow}
use Rattle.cx_cdecl.proofs.MembersThere.{object_begins, specs_tree, specs_filled, plain_specs_there}
use Rattle.cx_cword.specs.declared.mark.Mark.TheVariants as m
use Rattle.cx_cstmt.specs.Statements.{IsVariable, variable, initialised, AreVariables, last_variable, also_variable, IsLocal, local, all_of}
use Rattle.cx_cstmt.specs.Reading.{Got, listed, next, push, declared_at, variable_at, variables_at, is_plain, local_by, local_at}
use Rattle.cx_cstmt.proofs.Turns.{variables_turn}
use Rattle.cx_cstmt.proofs.Steps.{lacks, all_push, all_last}
use Rattle.cx_cstmt.proofs.Goes.{next_goes, next_other, made_goes, three_parts}
use Rattle.cx_cword.specs.Marks.{fits}

-- ---- variables

-- what follows a variable: a comma or a semicolon
record Behind (rest : List Lexeme) : Type 0 where
  closed : Closed rest
  bracket : no_mark m.OpenBracket rest ≡ true
  assign : lacks m.Assign rest ≡ true

comma_behind : (o : Lexeme) (rest : List Lexeme) → Is p.Comma o → Behind (o ∷ rest)
comma_behind o rest e = record { closed = ap closes e; bracket = ap (λ (kind : LexemeKind). not (fits m.OpenBracket kind)) e; assign = ap (λ (kind : LexemeKind). not (fits m.Assign kind)) e }

semicolon_behind : (o : Lexeme) (rest : List Lexeme) → Is p.Semicolon o → Behind (o ∷ rest)
semicolon_behind o rest e = record { closed = ap closes e; bracket = ap (λ (kind : LexemeKind). not (fits m.OpenBracket kind)) e; assign = ap (λ (kind : LexemeKind). not (fits m.Assign kind)) e }

abbrev variable_got : Known → StmtTree → List Lexeme → Got StmtTree
variable_got env s rest = record { tree = s; known = env; past = 0; rest = rest }

module _ (env : Known) where
  abbrev value_after : ℕ → ℕ → Named → Lexeme → List Lexeme → Option (Got StmtTree)
  value_after n d x o rest = rhs_at env n (d - 1) rest >>= λ r. declared_at d env x (Some r.tree) r.rest

  abbrev after_name : ℕ → ℕ → decl.Got Named → Option (Got StmtTree)
  after_name n d x = next m.Assign x.rest (declared_at d env x.tree None x.rest) (value_after n d x.tree)

  named_goes : (n d : ℕ) (t : TypeTree) (os rest : List Lexeme) (v : ℕ) (o : Lexeme) (w : TypeTree) → object_at n env t os ≡ Some (record { tree = named_of v o w; rest = rest }) → names_type env v ≡ false
      → variable_at env n d t os ≡ after_name n d (record { tree = named_of v o w; rest = rest })
  unfolding variable_at
  named_goes n d t os rest v o w read off =
      let x : decl.Got Named = record { tree = named_of v o w; rest = rest } in
      bind_goes (object_at n env t os) (λ x. cond (names_type env x.tree.name) None (after_name n d x)) x read
      ∙ ap (λ (b : Bool). cond b None (after_name n d x)) off

  unset_goes : (n d : ℕ) (rest : List Lexeme) (v : ℕ) (o : Lexeme) (w : TypeTree) → lacks m.Assign rest ≡ true → stmt_path (stmt o.span (declare v w None)) ≤ d
      → after_name n d (record { tree = named_of v o w; rest = rest }) ≡ Some (variable_got env (stmt o.span (declare v w None)) rest)
  unset_goes n d rest v o w ends low =
      next_other m.Assign rest (declared_at d env (named_of v o w) None rest) (value_after n d (named_of v o w)) ends
      ∙ made_goes d (stmt o.span (declare v w None)) env 0 rest low

  set_goes : (n d : ℕ) (c rest : List Lexeme) (v : ℕ) (o e : Lexeme) (w : TypeTree) (r : RhsTree) → Is p.Assign e → rhs_at env n (d - 1) (c ++ rest) ≡ Some (got_of c r rest) → stmt_path (stmt o.span (declare v w (Some r))) ≤ d
      → after_name n d (record { tree = named_of v o w; rest = e ∷ (c ++ rest) }) ≡ Some (variable_got env (stmt o.span (declare v w (Some r))) rest)
  set_goes n d c rest v o e w r is read low =
      next_goes m.Assign e (c ++ rest) (declared_at d env (named_of v o w) None (e ∷ (c ++ rest))) (value_after n d (named_of v o w)) is
      ∙ bind_goes (rhs_at env n (d - 1) (c ++ rest)) (λ r. declared_at d env (named_of v o w) (Some r.tree) r.rest) (got_of c r rest) read
      ∙ made_goes d (stmt o.span (declare v w (Some r))) env 0 rest low

  variable_there : {t : TypeTree} {a : List Lexeme} {s : StmtTree} → Few env → IsVariable env t a s → (n d : ℕ) (rest : List Lexeme) → Behind rest → Room n (a ++ rest) → stmt_path s ≤ d → variable_at env n d t (a ++ rest) ≡ Some (variable_got env s rest)
  variable_there {t} few (variable {a = a} {o = o} {n = v} {w = w} h off) n d rest ends room low =
      named_goes n d t (a ++ rest) rest v o w (object_there env few h n rest ends.bracket room) off ∙ unset_goes n d rest v o w ends.assign low
  variable_there {t} few (initialised {a = a} {c = c} {o = o} {n = v} {w = w} {r = r} e h off is q) n d rest ends room low =
      let parts : (a ++ e ∷ c) ++ rest ≡ a ++ e ∷ (c ++ rest) = append_assoc a (e ∷ c) rest in
      let whole = ap length parts in
      let long = length-append a (e ∷ (c ++ rest)) in
      let bracket : no_mark m.OpenBracket (e ∷ (c ++ rest)) ≡ true = ap (λ (kind : LexemeKind). not (fits m.OpenBracket kind)) is in
      ap (variable_at env n d t) parts
      ∙ named_goes n d t (a ++ e ∷ (c ++ rest)) (e ∷ (c ++ rest)) v o w (object_there env few h n (e ∷ (c ++ rest)) bracket (omega (arith, room, whole))) off
      ∙ set_goes n d c rest v o e w r is (rhs_there env few q n (d - 1) rest ends.closed (omega (arith, room, whole, long)) (omega (arith, low))) low

  one_variable : (n d : ℕ) (t : TypeTree) (all : StmtTrees) (os rest : List Lexeme) (s : StmtTree) → 1 ≤ n → variable_at env (n - 1) d t os ≡ Some (variable_got env s rest)
      → variables_at env n d t all os ≡ next m.Comma rest (Some (listed (push all s) env rest)) (λ o rest. variables_at env (n - 1) d t (push all s) rest)
  one_variable n d t all os rest s some read =
      variables_turn env n d t all os some
      ∙ bind_goes (variable_at env (n - 1) d t os) (λ s. next m.Comma s.rest (Some (listed (push all s.tree) env s.rest)) (λ o rest. variables_at env (n - 1) d t (push all s.tree) rest)) (variable_got env s rest) read

  pub variables_there : {t : TypeTree} {a : List Lexeme} {ss : StmtTrees} → Few env → AreVariables env t a ss → (n d : ℕ) (all : StmtTrees) (o : Lexeme) (rest : List Lexeme) → Is p.Semicolon o → 16 * length (a ++ o ∷ rest) + 41 ≤ n → stmts_path ss ≤ d
      → variables_at env n d t all (a ++ o ∷ rest) ≡ Some (listed (all_of all ss) env (o ∷ rest))
  variables_there {t} few (last_variable {a = a} {s = s} h) n d all o rest is room low =
      one_variable n d t all (a ++ o ∷ rest) (o ∷ rest) s (omega (arith, room)) (variable_there few h (n - 1) d (o ∷ rest) (semicolon_behind o rest is) (omega (arith, room)) (omega (arith, low)))
      ∙ next_other m.Comma (o ∷ rest) (Some (listed (push all s) env (o ∷ rest))) (λ o rest. variables_at env (n - 1) d t (push all s) rest) (ap (λ (kind : LexemeKind). not (fits m.Comma kind)) is)
      ∙ ap (λ (v : StmtTrees). Some (listed v env (o ∷ rest))) (all_last all s)
  variables_there {t} few (also_variable {a = a} {c = c} {s = s} {ss = ss} e h comma hs) n d all o rest is room low =
      let tail : List Lexeme = c ++ o ∷ rest in
      let parts : (a ++ e ∷ c) ++ o ∷ rest ≡ a ++ e ∷ tail = append_assoc a (e ∷ c) (o ∷ rest) in
      let whole = ap length parts in
      let long = length-append a (e ∷ tail) in
      ap (variables_at env n d t all) parts
      ∙ one_variable n d t all (a ++ e ∷ tail) (e ∷ tail) s (omega (arith, room)) (variable_there few h (n - 1) d (e ∷ tail) (comma_behind e tail comma) (omega (arith, room, whole)) (omega (arith, low)))
      ∙ next_goes m.Comma e tail (Some (listed (push all s) env (e ∷ tail))) (λ o rest. variables_at env (n - 1) d t (push all s) rest) comma
      ∙ variables_there few hs (n - 1) d (push all s) o rest is (omega (arith, room, whole, long)) (omega (arith, low))
      ∙ ap (λ (v : StmtTrees). Some (listed v env (o ∷ rest))) (all_push all s ss)

-- ---- declarations

variable_begins : {env : Known} {t : TypeTree} {a : List Lexeme} {s : StmtTree} → IsVariable env t a s → (rest : List Lexeme) → ends_type (a ++ rest) ≡ true
variable_begins (variable h off) rest = object_begins h rest
variable_begins (initialised {a = a} {c = c} e h off is q) rest = ap ends_type (append_assoc a (e ∷ c) rest) ∙ object_begins h (e ∷ (c ++ rest))

variables_begin : {env : Known} {t : TypeTree} {a : List Lexeme} {ss : StmtTrees} → AreVariables env t a ss → (rest : List Lexeme) → ends_type (a ++ rest) ≡ true
variables_begin (last_variable h) rest = variable_begins h rest
variables_begin (also_variable {a = a} {c = c} o h is hs) rest = ap ends_type (append_assoc a (o ∷ c) rest) ∙ variable_begins h (o ∷ (c ++ rest))

plain_so : (a b c : Bool) → a ≡ false → b ≡ false → c ≡ false → (not a && not b && not c) ≡ true
plain_so false false false e f g = refl
plain_so true b c e f g = absurd cc
plain_so false true c e f g = absurd cc
plain_so false false true e f g = absurd cc

local_goes : (env known : Known) (n d : ℕ) (all ts : StmtTrees) (os inside : List Lexeme) (o : Lexeme) (rest : List Lexeme) (t : TypeTree) (s : Beside) → plain_specs_at n env os ≡ Some (specs_tree t s false known inside) → is_plain s ≡ true
    → variables_at known n d t all inside ≡ Some (listed ts known (o ∷ rest)) → Is p.Semicolon o → local_at env n d all os ≡ Some (listed ts known rest)
unfolding local_at
local_goes env known n d all ts os inside o rest t s read plain vs is =
    let shut : Got StmtTrees → Option (Got StmtTrees) = λ x. next m.Semicolon x.rest None (λ c rest. Some (listed x.tree x.known rest)) in
    bind_goes (plain_specs_at n env os) (local_by n d all) (specs_tree t s false known inside) read
    ∙ ap (λ (b : Bool). cond b (variables_at known n d t all inside >>= shut) None) plain
    ∙ bind_goes (variables_at known n d t all inside) shut (listed ts known (o ∷ rest)) vs
    ∙ next_goes m.Semicolon o rest None (λ c rest. Some (listed ts known rest)) is

-- a declaration is read up to its semicolon
pub local_there : {earlier : List DeclTree} {env known : Known} {a : List Lexeme} {ss : StmtTrees} → IsLocal earlier env a ss known → (n d : ℕ) (all : StmtTrees) (rest : List Lexeme) → Fits env (a ++ rest) → Room n (a ++ rest) → stmts_path ss ≤ d
    → local_at env n d all (a ++ rest) ≡ Some (listed (all_of all ss) known rest)
local_there {env = env} (local {a = a} {c = c} {t = t} {s = s} {ss = ss} {known = known} o h attributed type linked vs is) n d all rest fits room low =
    let inside : List Lexeme = c ++ o ∷ rest in
    let parts : (a ++ c ++ o ∷ []) ++ rest ≡ a ++ inside = three_parts a c (o ∷ []) rest in
    let whole = ap length parts in
    let long = length-append a inside in
    let filled = specs_filled h in
    let fits_here = fits_less env ((a ++ c ++ o ∷ []) ++ rest) (a ++ inside) fits (omega (arith, whole)) in
    let few = fits_few known inside (fits_after env known a inside fits_here (specs_grow h)) in
    ap (local_at env n d all) parts
    ∙ local_goes env known n d all (all_of all ss) (a ++ inside) inside o rest t s (plain_specs_there h n inside (variables_begin vs (o ∷ rest)) fits_here (omega (arith, room, whole))) (plain_so s.attributed s.typedef_ s.linked attributed type linked)
    (variables_there known few vs n d all o rest is (omega (arith, room, whole, long, filled)) low) is
